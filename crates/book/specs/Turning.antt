-- What is told to one row of a book, in the market as the call leaves it.
use Rattle.std.specs.Prelude.{ℕ, Bool, false, cond, List, [], ◌∷◌, Some, None, Option, ◌==◌}
use Rattle.std.specs.Option.{option_map, option_or}
use Rattle.std.specs.List.{flat_map}
use Rattle.values.specs.Prices.{priced}
use Rattle.values.specs.declared.price.Price.{Price}
use Rattle.conditions.specs.declared.event.Day.{Day}
use Rattle.conditions.specs.declared.event.Event.TheVariants as event
use Rattle.conditions.specs.declared.event.Tick.{Tick}
use Rattle.rules.specs.Book.{Row, standing}
use Rattle.rules.specs.Bounds.{continuous}
use Rattle.rules.specs.Machine.{Machine, Left, silent, told, quoted, settled}
use Rattle.rules.specs.declared.order.Terms.{Terms}
use Rattle.rules.specs.declared.quote.Quote.{Quote}
use Rattle.rules.specs.declared.slip.Slip.{Slip}

-- the same row with another machine
abbrev pub with_machine : Row → Option Machine → Row
with_machine r s = record { terms = r.terms; machine = s; claimed = r.claimed }

-- a row that stays, or nothing
abbrev pub kept : Bool → Row → List Row
kept stays r = cond stays (r ∷ []) []

abbrev pub slip_list : Option Slip → List Slip
slip_list None = []
slip_list (Some s) = s ∷ []

-- the tick that a quote is: in continuous trading, at the last price
abbrev pub quote_tick : Quote → Option Tick
quote_tick q = cond (q.phase == continuous) (option_map (λ p. record { moment = q.moment; price = p }) (priced q.levels.last)) None

-- a tick of a share
abbrev pub machine_ticked : Terms → ℕ → Tick → Option Machine → Left
machine_ticked t limit k None = silent None
machine_ticked t limit k (Some s) = quoted t limit s.waits (Some k) s.meaning s.notes

abbrev pub ticked_left : ℕ → ℕ → Tick → Row → Left
ticked_left share limit k r = cond (share == r.terms.watched) (machine_ticked r.terms limit k r.machine) (silent r.machine)

abbrev pub ticked_row : ℕ → ℕ → Tick → Row → List Row
ticked_row share limit k r = standing (with_machine r (ticked_left share limit k r).machine)

abbrev pub ticked_rows : ℕ → ℕ → Tick → List Row → List Row
ticked_rows share limit k rows = flat_map (ticked_row share limit k) rows

abbrev pub ticked_slips : ℕ → ℕ → Tick → List Row → List Slip
ticked_slips share limit k rows = flat_map (λ r. (ticked_left share limit k r).slips) rows

-- a day of a share
abbrev pub machine_dayed : Day → Option Machine → Option Machine
machine_dayed d None = None
machine_dayed d (Some s) = told s (event.Day d)

abbrev pub dayed_row : ℕ → Day → Row → Row
dayed_row share d r = cond (share == r.terms.watched) (with_machine r (machine_dayed d r.machine)) r

abbrev pub dayed_rows : ℕ → Day → List Row → List Row
dayed_rows share d rows = flat_map (λ r. standing (dayed_row share d r)) rows

-- a settlement: it ends the claim
abbrev pub machine_settled : Option Price → Option Machine → Option Machine
machine_settled fill None = None
machine_settled fill (Some s) = settled (option_or fill s.notes.market) s.meaning s.notes

abbrev pub settled_row : Option Price → Row → Row
settled_row fill r = record { terms = r.terms; machine = machine_settled fill r.machine; claimed = false }
