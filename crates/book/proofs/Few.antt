-- A tick gets at most one slip from each order that watches its share, and none from another.
use Rattle.std.proofs.Common.{ℕ, ◌≤◌, Bool, true, false, cond, not, ◌&&◌, eqb, List, [], ◌∷◌, length, Some, None, count_by, Option, arith}
use Rattle.conditions.specs.Meaning.{Meaning, after}
use Rattle.conditions.specs.declared.event.Answer.{Answer}
use Rattle.conditions.specs.declared.event.Answer.TheVariants as answer
use Rattle.conditions.specs.declared.event.Event.TheVariants as event
use Rattle.conditions.specs.declared.event.Tick.{Tick}
use Rattle.rules.specs.Book.{Row, watches, watches_share}
use Rattle.rules.specs.Machine.{Machine, Notes, silent, answered, quoted}
use Rattle.rules.specs.declared.order.Terms.{Terms}
use Rattle.book.specs.Turning.{machine_ticked, ticked_left, ticked_slips}
use Rattle.book.proofs.Passing.{few_all}

answered_few : (t : Terms) (limit : ℕ) (a : Answer) (m : Meaning) (n : Notes) (k : Tick) → length (answered t limit a m n k).slips ≤ 1
answered_few t limit answer.Wait m n k = omega arith
answered_few t limit (answer.Fires f) m n k = omega arith
answered_few t limit answer.Lapses m n k = omega arith

quoted_few : (t : Terms) (limit : ℕ) (b : Bool) (k : Tick) (m : Meaning) (n : Notes) → length (quoted t limit b (Some k) m n).slips ≤ cond (not b) 1 0
quoted_few t limit true k m n = omega arith
quoted_few t limit false k m n = answered_few t limit (m [] (event.Tick k)) (after m (event.Tick k ∷ [])) n k

machine_few : (t : Terms) (limit : ℕ) (k : Tick) (s : Option Machine) → length (machine_ticked t limit k s).slips ≤ cond (watches s) 1 0
machine_few t limit k None = omega arith
machine_few t limit k (Some s) = quoted_few t limit s.waits k s.meaning s.notes

share_few : (t : Terms) (limit : ℕ) (k : Tick) (s : Option Machine) (b : Bool) → length (cond b (machine_ticked t limit k s) (silent s)).slips ≤ cond (b && watches s) 1 0
share_few t limit k s true = machine_few t limit k s
share_few t limit k s false = omega arith

pub ticked_few : (h limit : ℕ) (k : Tick) (r : Row) → length (ticked_left h limit k r).slips ≤ cond (watches_share h r) 1 0
ticked_few h limit k r = share_few r.terms limit k r.machine (eqb h r.terms.watched)

pub ticked_slips_few : (h limit : ℕ) (k : Tick) (rows : List Row) → length (ticked_slips h limit k rows) ≤ count_by (watches_share h) rows
ticked_slips_few h limit k rows = few_all (λ r. (ticked_left h limit k r).slips) (watches_share h) (ticked_few h limit k) rows
