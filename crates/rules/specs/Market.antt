-- The market: its shares, what listings, days and quotes make of them, and what it refuses.
use Rattle.std.specs.Prelude.{ℕ, ◌-◌, Bool, false, cond, not, ◌&&◌, ◌||◌, List, [], ◌∷◌, ◌++◌, map, length, drop, is_some, Some, None, Option, ◌==◌, nat_le, nat_lt}
use Rattle.std.specs.Option.{option_map}
use Rattle.values.specs.Prices.{priced}
use Rattle.values.specs.declared.fault.MakingFault.TheVariants as making
use Rattle.values.specs.declared.price.Price.{Price}
use Rattle.conditions.specs.declared.event.Day.{Day}
use Rattle.rules.specs.Bounds.{greatest_share, closes_kept, greatest_moment, after_hours}
use Rattle.rules.specs.Checks.{Check, check}
use Rattle.rules.specs.DaySums.{sums_of}
use Rattle.rules.specs.declared.fault.MarketFault.{MarketFault}
use Rattle.rules.specs.declared.fault.MarketFault.TheVariants as fault
use Rattle.rules.specs.declared.opening.Opening.{Opening}
use Rattle.rules.specs.declared.quote.Levels.{Levels}
use Rattle.rules.specs.declared.quote.Quote.{Quote}

-- a listed share: its newest closes, the oldest first; its day; the latest quote of that day
pub record Share : Type 0 where
  pub closes : List Price
  pub day : Option Day
  pub latest : Option Quote

-- the shares that are listed, by their numbers
abbrev pub Market : Type 0
Market = ℕ → Option Share

abbrev pub unlisted : Market
unlisted h = None

abbrev pub put : ℕ → Option Share → Market → Market
put h s m i = cond (i == h) s (m i)

-- what is known of a share that may not be listed
abbrev pub day_of : Option Share → Option Day
day_of None = None
day_of (Some s) = s.day

abbrev pub latest_of : Option Share → Option Quote
latest_of None = None
latest_of (Some s) = s.latest

-- the latest quote's prices
abbrev pub prices_of : Option Share → Option Levels
prices_of s = option_map (λ q. q.levels) (latest_of s)

-- numbers as closes; a listing with a number that is no price is refused
abbrev pub close_before : Option Price → List Price → List Price
close_before None ps = ps
close_before (Some p) ps = p ∷ ps

abbrev pub closes_of : List ℕ → List Price
closes_of [] = []
closes_of (n ∷ ns) = close_before (priced n) (closes_of ns)

abbrev pub listed : List ℕ → Share
listed closes = record { closes = closes_of closes; day = None; latest = None }

-- a day appends its previous close, and the newest are kept
abbrev pub closes_with : List Price → Price → List Price
closes_with closes c = drop (length (closes ++ c ∷ []) - closes_kept) (closes ++ c ∷ [])

-- A share on its new day, by the opening's previous close, upper and lower limit: its latest quote is cleared.
-- An opening with a number that is no price is refused.
abbrev pub on_day : Opening → List Price → Option Price → Option Price → Option Price → Option Share
on_day o closes None upper lower = None
on_day o closes (Some c) None lower = None
on_day o closes (Some c) (Some u) None = None
on_day o closes (Some c) (Some u) (Some l) =
    Some
    (record {
      closes = closes_with closes c;
      day = Some (record { number = o.number; close = c; upper = u; lower = l; sums = sums_of (closes_with closes c) });
      latest = None;
    })

abbrev pub opened : Opening → Option Share → Option Share
opened o None = None
opened o (Some s) = on_day o s.closes (priced o.close) (priced o.upper) (priced o.lower)

-- a taken quote becomes the share's latest
abbrev pub taken : Quote → Option Share → Option Share
taken q s = option_map (λ x. record { closes = x.closes; day = x.day; latest = Some q }) s

-- a number that should be a price, and a level, where 0 is missing
abbrev pub price_check : ℕ → Check MarketFault
price_check n = check (not (is_some (priced n))) (fault.Making making.Price)

abbrev pub level_check : ℕ → Check MarketFault
level_check n = check (not (n == 0) && not (is_some (priced n))) (fault.Making making.Price)

-- there is such a share, and it is listed
abbrev pub share_checks : Market → ℕ → List (Check MarketFault)
share_checks m h = check (nat_lt greatest_share h) fault.Share ∷ check (not (is_some (m h))) fault.NotListed ∷ []

abbrev pub list_checks : Market → ℕ → List ℕ → List (Check MarketFault)
list_checks m h closes =
    check (nat_lt greatest_share h) fault.Share
    ∷ check (is_some (m h)) fault.ListedAlready
    ∷ check (nat_lt closes_kept (length closes)) fault.TooManyCloses
    ∷ map price_check closes

-- a day's number lies above the last one's; the first may be any
abbrev pub no_later : Option Day → ℕ → Bool
no_later None n = false
no_later (Some d) n = nat_le n d.number

abbrev pub day_checks : Market → Opening → List (Check MarketFault)
day_checks m o =
    share_checks m o.share
    ++ check (no_later (day_of (m o.share)) o.number) fault.DayNumber
    ∷ price_check o.close
    ∷ price_check o.upper
    ∷ price_check o.lower
    ∷ check (not (nat_le o.lower o.close && nat_le o.close o.upper)) fault.DayLimits
    ∷ []

-- a moment does not lie before the latest quote's of the day
abbrev pub earlier : ℕ → Option Quote → Bool
earlier moment None = false
earlier moment (Some q) = nat_lt moment q.moment

abbrev pub quote_checks : Market → Quote → List (Check MarketFault)
quote_checks m q =
    share_checks m q.share
    ++ check (not (is_some (day_of (m q.share)))) fault.NoDay
    ∷ check (nat_lt after_hours q.phase) fault.Phase
    ∷ check (nat_lt greatest_moment q.moment || earlier q.moment (latest_of (m q.share))) fault.Moment
    ∷ price_check q.levels.last
    ∷ map level_check (q.levels.bids ++ q.levels.asks)
