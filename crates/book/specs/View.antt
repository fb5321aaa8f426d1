-- A book's rows as the rules know them.
use Rattle.std.specs.Prelude.{◌≡◌, ℕ, Bool, true, false, ◌&&◌, List, map, length, take, position, Some, None, Ok, Err, Option, Result, ◌==◌}
use Rattle.values.specs.declared.price.Price.{Price}
use Rattle.conditions.specs.Meaning.{Meaning}
use Rattle.rules.specs.Book.{Setup, State, step}
use Rattle.rules.specs.Book.{Row as Standing}
use Rattle.rules.specs.Calls.{Call, Reply, done, wrote, burst_wrote, refused, by_market, by_book}
use Rattle.rules.specs.Calls.{Ticket as Right}
use Rattle.rules.specs.Machine.{Notes, Machine, watching, waiting}
use Rattle.rules.specs.Market.{Market, prices_of}
use Rattle.rules.specs.declared.fault.MarketFault.{MarketFault}
use Rattle.rules.specs.declared.fault.PlacingFault.{PlacingFault}
use Rattle.rules.specs.declared.slip.Slip.{Slip}
use Rattle.rules.specs.declared.state.OrderState.{OrderState}
use Rattle.rules.specs.declared.state.OrderState.TheVariants as state
use Rattle.market.specs.View.{market_of}
use Rattle.book.specs.declared.book.Book.{Book}
use Rattle.book.specs.declared.burst.Burst.{Burst}
use Rattle.book.specs.declared.desk.Desk.{Desk}
use Rattle.book.specs.declared.row.Row.{Row}
use Rattle.book.specs.declared.ticket.Ticket.{Ticket}

-- the machine of an order, by its state; one that ended under a claim has none
abbrev pub machine_in : OrderState → Meaning → Notes → Option Machine
machine_in state.Watching m n = Some (watching m n)
machine_in state.Waiting m n = Some (waiting m n)
machine_in state.Claimed m n = Some (waiting m n)
machine_in state.EndedUnderClaim m n = None

abbrev pub claimed_in : OrderState → Bool
claimed_in state.Watching = false
claimed_in state.Waiting = false
claimed_in state.Claimed = true
claimed_in state.EndedUnderClaim = true

abbrev pub waiting_in : OrderState → Bool
waiting_in state.Watching = false
waiting_in state.Waiting = true
waiting_in state.Claimed = false
waiting_in state.EndedUnderClaim = false

abbrev pub watching_in : OrderState → Bool
watching_in state.Watching = true
watching_in state.Waiting = false
watching_in state.Claimed = false
watching_in state.EndedUnderClaim = false

-- the state that a claim leaves
abbrev pub claimed_state : OrderState → OrderState
claimed_state state.Watching = state.Watching
claimed_state state.Waiting = state.Claimed
claimed_state state.Claimed = state.Claimed
claimed_state state.EndedUnderClaim = state.EndedUnderClaim

abbrev pub with_state : {C : Type 0} → Row C → OrderState → Row C
with_state r s = record { terms = r.terms; state = s; sent = r.sent; market = r.market; condition = r.condition }

abbrev pub with_notes : {C : Type 0} → Row C → ℕ → Option Price → Row C
with_notes r sent market = record { terms = r.terms; state = r.state; sent = sent; market = market; condition = r.condition }

-- whether the order in a row watches the share
abbrev pub watches_now : {C : Type 0} → ℕ → Row C → Bool
watches_now share r = share == r.terms.watched && watching_in r.state

-- where the order of that number stands among these, if it does
abbrev pub place_of : {C : Type 0} → ℕ → List (Row C) → Option ℕ
place_of k rows = position (λ r. r.terms.number == k) rows

-- what a row notes, and the traded share's prices, which stand in the market
abbrev pub notes_of : {C : Type 0} → Market → Row C → Notes
notes_of mk r = record { sent = r.sent; market = r.market; prices = prices_of (mk r.terms.traded) }

-- the order that stands in a row, where a condition is what it means
abbrev pub row_view : {C : Type 0} → (C → Meaning) → Market → Row C → Standing
row_view means mk r =
    record {
      terms = r.terms;
      machine = machine_in r.state (means r.condition) (notes_of mk r);
      claimed = claimed_in r.state;
    }

abbrev pub rows_view : {C : Type 0} → (C → Meaning) → Market → List (Row C) → List Standing
rows_view means mk rows = map (row_view means mk) rows

-- the rows of a book that are in use
abbrev pub orders_of : {C : Type 0} → Book C → List (Row C)
orders_of b = take b.count b.rows.now

-- a market and a book
abbrev pub view : {C : Type 0} → (C → Meaning) → Market → Book C → State
view means mk b = record { market = mk; rows = rows_view means mk (orders_of b) }

abbrev pub setup_of : {C : Type 0} → Book C → Setup
setup_of b = record { rows = length b.rows.now; limit = b.limit.value; book = b.number }

-- A call carried out by a book, with the market before it and after it: state and answer are those of one step of the rules, and the setup stays.
pub record Steps {C : Type 0} (means : C → Meaning) (mk mk' : Market) (b b' : Book C) (c : Call) (r : Reply) : Type 0 where
  pub is_step : (view means mk' b', r) ≡ step (setup_of b) (view means mk b) c
  pub setup : setup_of b' ≡ setup_of b

-- a book with a market of its own
abbrev pub desk_view : {C : Type 0} → (C → Meaning) → Desk C → State
desk_view means d = view means (market_of d.market.shares) d.book

abbrev pub desk_setup : {C : Type 0} → Desk C → Setup
desk_setup d = setup_of d.book

-- a ticket, and the answers of the calls
abbrev pub right_of : Ticket → Right
right_of t = record { void = t.void; book = t.book; number = t.number }

abbrev pub day_reply : {X : Type 0} → Result X MarketFault → Reply
day_reply (Ok x) = done
day_reply (Err f) = refused (by_market f)

abbrev pub done_reply : {X : Type 0} → Result X PlacingFault → Reply
done_reply (Ok x) = done
done_reply (Err f) = refused (by_book f)

-- the slips that a quote wrote stand in the first places
abbrev pub quote_reply : Result ℕ PlacingFault → List Slip → Reply
quote_reply (Ok n) places = wrote (take n places)
quote_reply (Err f) places = refused (by_book f)

abbrev pub count_in : Result ℕ PlacingFault → ℕ
count_in (Ok n) = n
count_in (Err f) = 0

abbrev pub burst_reply : Burst → List Slip → Reply
burst_reply b places = burst_wrote b.taken (take b.written places) b.stop
