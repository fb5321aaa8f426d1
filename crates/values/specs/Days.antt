-- The days over which an average may be taken.
use Rattle.std.specs.Prelude.{ℕ, Bool, ◌||◌, ◌==◌}
use Rattle.values.specs.declared.days.AveragingDays.{AveragingDays}
use Rattle.values.specs.declared.days.AveragingDays.TheVariants as days

abbrev pub day_count : AveragingDays → ℕ
day_count days.Five = 5
day_count days.Ten = 10
day_count days.Twenty = 20
day_count days.Thirty = 30
day_count days.Sixty = 60

-- a number of days over which an average may be taken
abbrev pub averaged : ℕ → Bool
averaged n = n == 5 || (n == 10 || (n == 20 || (n == 30 || n == 60)))
