-- The book's meaning: a machine for each standing order, in order of placing, beside the market.
use Rattle.std.specs.Prelude.{ℕ, suc, ◌-◌, min, Bool, true, false, cond, not, ◌&&◌, ◌||◌, List, [], ◌∷◌, ◌++◌, length, is_some, Some, None, count_by, Option, ◌==◌, nat_eq, nat_le, nat_lt}
use Rattle.std.specs.Option.{option_map}
use Rattle.std.specs.List.{flat_map}
use Rattle.values.specs.Prices.{priced}
use Rattle.values.specs.declared.fault.MakingFault.TheVariants as making
use Rattle.conditions.specs.Meaning.{Meaning, ends}
use Rattle.conditions.specs.declared.event.Day.{Day}
use Rattle.conditions.specs.declared.event.Event.TheVariants as event
use Rattle.rules.specs.Bearing.{bears, begins}
use Rattle.rules.specs.Bounds.{continuous, greatest_quantity, greatest_total, greatest_rows}
use Rattle.rules.specs.Calls.{Ticket, Single, listing, opening, placing, quoting, cancelling, claiming, settling, asking, Call, single, burst, Refusal, by_market, by_book, Reply, done, wrote, burst_wrote, gives, in_state, refused}
use Rattle.rules.specs.Checks.{Check, check, first_fault, under}
use Rattle.rules.specs.Machine.{Order, Machine, writes, runs, new_machine}
use Rattle.rules.specs.Market.{Market, unlisted, put, day_of, listed, opened, taken, share_checks, list_checks, day_checks, quote_checks}
use Rattle.rules.specs.Numbers.{choice_number, choice_of}
use Rattle.rules.specs.declared.fault.MarketFault.TheVariants as market
use Rattle.rules.specs.declared.fault.PlacingFault.{PlacingFault}
use Rattle.rules.specs.declared.fault.PlacingFault.TheVariants as fault
use Rattle.rules.specs.declared.order.PriceChoice.TheVariants as choice
use Rattle.rules.specs.declared.order.Terms.{Terms}
use Rattle.rules.specs.declared.quote.Quote.{Quote}
use Rattle.rules.specs.declared.slip.Slip.{Slip}
use Rattle.rules.specs.declared.state.OrderState.{OrderState}
use Rattle.rules.specs.declared.state.OrderState.TheVariants as state

-- what a book is made with: the rows that its caller provides, its limit in hundredths of a percent, and its number
pub record Setup : Type 0 where
  pub rows : ℕ
  pub limit : ℕ
  pub book : ℕ

-- an order that stands: its terms, its machine, none once it has ended under a claim, and whether it is under one
pub record Row : Type 0 where
  pub terms : Terms
  pub machine : Option Machine
  pub claimed : Bool

pub record State : Type 0 where
  pub market : Market
  pub rows : List Row

-- a newly made book and market
abbrev pub new : State
new = record { market = unlisted; rows = [] }

-- the row of an order by its number, if it stands in the book
abbrev pub row_of : ℕ → List Row → Option Row
row_of k [] = None
row_of k (r ∷ rs) = cond (k == r.terms.number) (Some r) (row_of k rs)

-- a test of a row that may not be there
abbrev pub holds : (Row → Bool) → Option Row → Bool
holds test None = false
holds test (Some r) = test r

-- a machine that waits, and one that watches
abbrev pub waits : Option Machine → Bool
waits None = false
waits (Some s) = s.waits

abbrev pub watches : Option Machine → Bool
watches None = false
watches (Some s) = not s.waits

-- an order that may be claimed
abbrev pub claimable : Row → Bool
claimable r = waits r.machine && not r.claimed

abbrev pub watches_share : ℕ → Row → Bool
watches_share h r = h == r.terms.watched && watches r.machine

-- how an order stands; none for one that has ended and left, or was never placed
abbrev pub state_of : Option Machine → Bool → Option OrderState
state_of None true = Some state.EndedUnderClaim
state_of None false = None
state_of (Some s) claimed = Some (cond s.waits (cond claimed state.Claimed state.Waiting) state.Watching)

abbrev pub state_in : Option Row → Option OrderState
state_in None = None
state_in (Some r) = state_of r.machine r.claimed

-- The checks of each call, in their order.

-- the condition ends as it is told the day
abbrev pub lapses_on : Meaning → Option Day → Bool
lapses_on m None = false
lapses_on m (Some d) = ends (m [] (event.Day d))

abbrev pub place_checks : Setup → State → Order → List (Check PlacingFault)
place_checks su s o =
    let t = o.terms in
    let own = nat_eq t.choice (choice_number choice.OwnPrice) in
    check (t.number == 0) fault.Number
    ∷ check (is_some (row_of t.number s.rows)) fault.InBook
    ∷ check (nat_le (min su.rows greatest_rows) (length s.rows)) fault.NoRow
    ∷ under fault.Watched (share_checks s.market t.watched)
    ++ under fault.Traded (share_checks s.market t.traded)
    ++ check (not (is_some (day_of (s.market t.watched)))) (fault.Watched market.NoDay)
    ∷ check (t.quantity == 0 || nat_lt greatest_quantity t.quantity) fault.Quantity
    ∷ check (not (t.total == 0) && (nat_lt t.total t.quantity || nat_lt greatest_total t.total)) fault.Total
    ∷ check (not (is_some (choice_of t.choice)) || (not own && not (t.own_price == 0))) fault.Choice
    ∷ check (own && not (is_some (priced t.own_price))) (fault.Making making.Price)
    ∷ check (lapses_on o.meaning (day_of (s.market t.watched))) fault.Lapses
    ∷ []

-- the market takes the quote, and in continuous trading there is a place for a slip of each order that watches the share
abbrev pub quote_call_checks : State → Quote → ℕ → List (Check PlacingFault)
quote_call_checks s q places =
    under fault.Market (quote_checks s.market q)
    ++ check (q.phase == continuous && nat_lt places (count_by (watches_share q.share) s.rows)) fault.Places
    ∷ []

abbrev pub cancel_checks : State → ℕ → List (Check PlacingFault)
cancel_checks s k =
    check (not (is_some (row_of k s.rows))) fault.NoOrder
    ∷ check (holds (λ r. r.claimed) (row_of k s.rows)) fault.UnderClaim
    ∷ []

abbrev pub settle_checks : Setup → State → Ticket → List (Check PlacingFault)
settle_checks su s t =
    check t.void fault.VoidTicket
    ∷ check (not (t.book == su.book) || not (holds (λ r. r.claimed) (row_of t.number s.rows))) fault.WrongTicket
    ∷ []

-- why a call is refused, if it is: a claim and a question never are
abbrev pub refusal : Setup → State → Single → Option Refusal
refusal su s (listing h closes) = option_map by_market (first_fault (list_checks s.market h closes))
refusal su s (opening d) = option_map by_market (first_fault (day_checks s.market d))
refusal su s (placing o) = option_map by_book (first_fault (place_checks su s o))
refusal su s (quoting q places) = option_map by_book (first_fault (quote_call_checks s q places))
refusal su s (cancelling k) = option_map by_book (first_fault (cancel_checks s k))
refusal su s (claiming k) = None
refusal su s (settling t fill) = option_map by_book (first_fault (settle_checks su s t))
refusal su s (asking k) = None

-- What a call does that is let through.

abbrev pub market_after : Single → Market → Market
market_after (listing h closes) m = put h (Some (listed closes)) m
market_after (opening d) m = put d.share (opened d (m d.share)) m
market_after (placing o) m = m
market_after (quoting q places) m = put q.share (taken q (m q.share)) m
market_after (cancelling k) m = m
market_after (claiming k) m = m
market_after (settling t fill) m = m
market_after (asking k) m = m

-- whether an order is under a claim: it comes under one when it may be claimed, and its settlement ends it
abbrev pub claimed_after : Single → Row → Bool
claimed_after (listing h closes) r = r.claimed
claimed_after (opening d) r = r.claimed
claimed_after (placing o) r = r.claimed
claimed_after (quoting q places) r = r.claimed
claimed_after (cancelling k) r = r.claimed
claimed_after (claiming k) r = cond (k == r.terms.number) (r.claimed || claimable r) r.claimed
claimed_after (settling t fill) r = cond (t.number == r.terms.number) false r.claimed
claimed_after (asking k) r = r.claimed

-- an order after a call: its machine is fed its own events
abbrev pub row_after : ℕ → Market → Single → Row → Row
row_after limit m c r =
    record {
      terms = r.terms;
      machine = runs r.terms limit r.machine (bears m c r.terms);
      claimed = claimed_after c r;
    }

-- an order that has ended leaves, unless it is under a claim
abbrev pub standing : Row → List Row
standing r = cond (is_some r.machine || r.claimed) (r ∷ []) []

-- whose rows a call turns
pub data Meant : Type 0 where
  nobody : Meant
  only : ℕ → Meant
  everybody : Meant

abbrev pub meant_by : Single → Meant
meant_by (listing h closes) = nobody
meant_by (opening d) = everybody
meant_by (placing o) = nobody
meant_by (quoting q places) = everybody
meant_by (cancelling k) = only k
meant_by (claiming k) = only k
meant_by (settling t fill) = only t.number
meant_by (asking k) = nobody

-- the row of an order by its number is turned, and the others stay as they are; no two orders in a book bear one number
abbrev pub on_row : ℕ → (Row → List Row) → List Row → List Row
on_row k turn [] = []
on_row k turn (r ∷ rs) = cond (k == r.terms.number) (turn r ++ rs) (r ∷ on_row k turn rs)

abbrev pub turned : Meant → (Row → List Row) → List Row → List Row
turned nobody turn rows = rows
turned (only k) turn rows = on_row k turn rows
turned everybody turn rows = flat_map turn rows

abbrev pub rows_after : ℕ → Market → Single → List Row → List Row
rows_after limit m c rows = turned (meant_by c) (λ r. standing (row_after limit m c r)) rows

-- the slips that the machines write, in order of placing
abbrev pub slips_after : ℕ → Market → Single → List Row → List Slip
slips_after limit m c rows = flat_map (λ r. writes r.terms limit r.machine (bears m c r.terms)) rows

-- the row of an order that is placed
abbrev pub placed : ℕ → Market → Single → List Row
placed limit m (listing h closes) = []
placed limit m (opening d) = []
placed limit m (placing o) = record { terms = o.terms; machine = runs o.terms limit (new_machine o) (begins m o); claimed = false } ∷ []
placed limit m (quoting q places) = []
placed limit m (cancelling k) = []
placed limit m (claiming k) = []
placed limit m (settling t fill) = []
placed limit m (asking k) = []

abbrev pub state_after : Setup → State → Single → State
state_after su s c =
    record {
      market = market_after c s.market;
      rows = rows_after su.limit s.market c s.rows ++ placed su.limit s.market c;
    }

abbrev pub granted_reply : Setup → State → Single → Reply
granted_reply su s (listing h closes) = done
granted_reply su s (opening d) = done
granted_reply su s (placing o) = done
granted_reply su s (quoting q places) = wrote (slips_after su.limit s.market (quoting q places) s.rows)
granted_reply su s (cancelling k) = done
granted_reply su s (claiming k) = gives (record { void = not (holds claimable (row_of k s.rows)); book = su.book; number = k })
granted_reply su s (settling t fill) = done
granted_reply su s (asking k) = in_state (state_in (row_of k s.rows))

-- One call.

-- a refusal alters nothing
abbrev pub decided : Setup → State → Single → Option Refusal → State × Reply
decided su s c None = (state_after su s c, granted_reply su s c)
decided su s c (Some f) = (s, refused f)

-- a burst: the state that it leaves, how many quotes it took, the slips that they wrote, and why it stopped, if it did
pub record Burst : Type 0 where
  pub state : State
  pub count : ℕ
  pub slips : List Slip
  pub fault : Option PlacingFault

-- one quote more: it stops the burst where it is refused, and is taken else, with its slips before those of the rest
abbrev pub one_more : Option PlacingFault → State → List Slip → Burst → Burst
one_more None s slips b = record { state = b.state; count = suc b.count; slips = slips ++ b.slips; fault = b.fault }
one_more (Some f) s slips b = record { state = s; count = 0; slips = []; fault = Some f }

-- each quote is taken as by itself, with the places after the slips already there
abbrev pub bursts : Setup → State → List Quote → ℕ → Burst
bursts su s [] places = record { state = s; count = 0; slips = []; fault = None }
bursts su s (q ∷ qs) places =
    let slips = slips_after su.limit s.market (quoting q places) s.rows in
    one_more (first_fault (quote_call_checks s q places)) s slips (bursts su (state_after su s (quoting q places)) qs (places - length slips))

abbrev pub step : Setup → State → Call → State × Reply
step su s (single c) = decided su s c (refusal su s c)
step su s (burst qs places) = let b = bursts su s qs places in (b.state, burst_wrote b.count b.slips b.fault)
