-- What each test asks of the day and the price: the trigger price where the answer is yes.
use Rattle.std.specs.Prelude.{ℕ, ◌+◌, ◌-◌, ◌*◌, ◌/◌, Bool, cond, not, ◌&&◌, Some, None, Option, ◌==◌}
use Rattle.values.specs.Days.{day_count}
use Rattle.values.specs.Prices.{priced, reached_target}
use Rattle.values.specs.declared.days.AveragingDays.{AveragingDays}
use Rattle.values.specs.declared.price.Price.{Price}
use Rattle.values.specs.declared.step.Step.{Step}
use Rattle.values.specs.declared.step.Step.TheVariants as step
use Rattle.conditions.specs.Closes.{sum_before}
use Rattle.conditions.specs.declared.event.Day.{Day}
use Rattle.kinds.specs.declared.test.move_of_day.Distance.{Distance}
use Rattle.kinds.specs.declared.test.move_of_day.Distance.TheVariants as distance

module _ (order : ℕ → ℕ → Bool) where
  -- the price lies at the level or beyond it
  abbrev pub level_yes : Price → Day → Price → Option Price
  level_yes level day price = cond (order level.value price.value) (Some level) None

  -- the price has gone by a percentage from the previous close, or to the limit of the day that way
  abbrev pub move_yes : (Step → ℕ → ℕ) → (Price → Price → Price) → Distance → Day → Price → Option Price
  move_yes target furthest (distance.Percent r) day price = reached_target order target (step.Percent r) day.close price
  move_yes target furthest distance.Limit day price = level_yes (furthest day.lower day.upper) day price

  -- there is a sum S of the newest N - 1 closes, and N - 1 times the price lies at it or beyond it
  abbrev pub at_average : AveragingDays → Day → Price → Bool
  at_average days day price =
      let s = sum_before days day.sums in
      not (s == 0) && order s ((day_count days - 1) * price.value)

  -- the trigger price is the average over N days, (S + price) / N, the fraction cut off
  abbrev pub average_yes : AveragingDays → Day → Price → Option Price
  average_yes days day price =
      cond (at_average days day price) (priced ((sum_before days day.sums + price.value) / day_count days)) None
