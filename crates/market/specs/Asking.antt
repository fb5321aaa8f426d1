-- What one share is asked, whatever its number, and what it is then.
use Rattle.std.specs.Prelude.{◌≡◌, ℕ, not, ◌&&◌, List, [], ◌∷◌, map, length, Some, None, Ok, Err, Option, Result, nat_le, nat_lt}
use Rattle.values.specs.Prices.{priced}
use Rattle.values.specs.declared.price.Price.{Price}
use Rattle.conditions.specs.declared.event.Day.{Day}
use Rattle.rules.specs.Bounds.{greatest_share, closes_kept}
use Rattle.rules.specs.Checks.{Check, check, first_fault}
use Rattle.rules.specs.DaySums.{sums_of}
use Rattle.rules.specs.Market.{Share, Market, listed, closes_with, no_later, price_check, share_checks, list_checks, day_checks, quote_checks}
use Rattle.rules.specs.declared.fault.MarketFault.{MarketFault}
use Rattle.rules.specs.declared.fault.MarketFault.TheVariants as fault
use Rattle.rules.specs.declared.opening.Opening.{Opening}
use Rattle.rules.specs.declared.quote.Quote.{Quote}
use Rattle.market.specs.declared.share.opening.Limits.{Limits}

-- no share of that number
abbrev pub number_refusal : ℕ → Option MarketFault
number_refusal h = first_fault (check (nat_lt greatest_share h) fault.Share ∷ [])

-- the share, by any number
abbrev pub each : Option Share → Market
each s h = s

-- all checks but the first, which is of the share's number
abbrev pub of_share : List (Check MarketFault) → List (Check MarketFault)
of_share [] = []
of_share (c ∷ cs) = cs

abbrev pub listed_refusal : Option Share → Option MarketFault
listed_refusal s = first_fault (of_share (share_checks (each s) 0))

abbrev pub listing_refusal : Option Share → List ℕ → Option MarketFault
listing_refusal s closes = first_fault (of_share (list_checks (each s) 0 closes))

abbrev pub opening_refusal : Option Share → Opening → Option MarketFault
opening_refusal s o = first_fault (of_share (day_checks (each s) o))

abbrev pub quote_refusal : Option Share → Quote → Option MarketFault
quote_refusal s q = first_fault (of_share (quote_checks (each s) q))

-- a listing's checks, by its closes alone
abbrev pub close_checks : List ℕ → List (Check MarketFault)
close_checks closes = check (nat_lt closes_kept (length closes)) fault.TooManyCloses ∷ map price_check closes

-- an opening's checks: by itself, and for a share that is listed
abbrev pub limit_checks : Opening → List (Check MarketFault)
limit_checks o =
    price_check o.close
    ∷ price_check o.upper
    ∷ price_check o.lower
    ∷ check (not (nat_le o.lower o.close && nat_le o.close o.upper)) fault.DayLimits
    ∷ []

abbrev pub new_day_checks : Share → Opening → List (Check MarketFault)
new_day_checks s o = check (no_later s.day o.number) fault.DayNumber ∷ limit_checks o

-- the prices that an opening's numbers are
pub record Limited (o : Opening) (l : Limits) : Type 0 where
  pub close_is : priced o.close ≡ Some l.close
  pub upper_is : priced o.upper ≡ Some l.upper
  pub lower_is : priced o.lower ≡ Some l.lower

-- a newly listed share
abbrev pub newly : List ℕ → Option Share
newly closes = Some (listed closes)

-- the share with one close more
abbrev pub with_close : Share → Price → Share
with_close s c = record { closes = closes_with s.closes c; day = s.day; latest = s.latest }

-- the day that begins by a number and its prices
abbrev pub begun : Share → ℕ → Limits → Day
begun s n l = record { number = n; close = l.close; upper = l.upper; lower = l.lower; sums = sums_of (closes_with s.closes l.close) }

-- on a new day there is no quote yet
abbrev pub on_its_day : Share → Day → Share
on_its_day s d = record { closes = closes_with s.closes d.close; day = Some d; latest = None }

-- what is new where a call was granted; a refusal changes nothing
abbrev pub when_granted : {X Y F : Type 0} → Result X F → Y → Y → Y
when_granted (Ok _) new old = new
when_granted (Err _) new old = old
