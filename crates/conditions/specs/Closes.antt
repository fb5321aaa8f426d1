-- A share's closes, the oldest first, and the sums that a day carries of them.
use Rattle.std.specs.Prelude.{ℕ, ◌-◌, cond, List, length, drop, sum_by, nat_lt}
use Rattle.values.specs.declared.price.Price.{Price}
use Rattle.values.specs.declared.days.AveragingDays.{AveragingDays}
use Rattle.values.specs.declared.days.AveragingDays.TheVariants as days
use Rattle.conditions.specs.declared.sums.Sums.{Sums}

-- the sum of the newest n closes, 0 where there are fewer
abbrev pub newest_sum : ℕ → List Price → ℕ
newest_sum n closes = cond (nat_lt (length closes) n) 0 (sum_by (λ p. p.value) (drop (length closes - n) closes))

-- the sum that an average over some days takes beside the price of the day
abbrev pub sum_before : AveragingDays → Sums → ℕ
sum_before days.Five s = s.four
sum_before days.Ten s = s.nine
sum_before days.Twenty s = s.nineteen
sum_before days.Thirty s = s.twentynine
sum_before days.Sixty s = s.fiftynine
