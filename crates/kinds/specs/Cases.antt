-- A condition by cases means what the case that it holds means.
use Rattle.conditions.specs.Meaning.{Meaning}
use Rattle.kinds.specs.declared.book_kinds.Repeating.{Repeating}
use Rattle.kinds.specs.declared.book_kinds.Repeating.TheVariants as repeating
use Rattle.kinds.specs.declared.book_kinds.SingleShot.{SingleShot}
use Rattle.kinds.specs.declared.book_kinds.SingleShot.TheVariants as single
use Rattle.kinds.specs.declared.one_of.OneOf.{OneOf}
use Rattle.kinds.specs.declared.one_of.OneOf.TheVariants as one

abbrev pub one_means : {X Y : Type 0} → (X → Meaning) → (Y → Meaning) → OneOf X Y → Meaning
one_means f g (one.First x) = f x
one_means f g (one.Second y) = g y

abbrev pub single_means : {P V T S : Type 0} → (P → Meaning) → (V → Meaning) → (T → Meaning) → (S → Meaning) → SingleShot P V T S → Meaning
single_means level average trail exit (single.LevelOrMove c) = level c
single_means level average trail exit (single.Average c) = average c
single_means level average trail exit (single.Trail c) = trail c
single_means level average trail exit (single.StopOrProfit c) = exit c

abbrev pub repeating_means : {B G : Type 0} → (B → Meaning) → (G → Meaning) → Repeating B G → Meaning
repeating_means batch grid (repeating.Batch c) = batch c
repeating_means batch grid (repeating.Grid c) = grid c
