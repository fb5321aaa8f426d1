-- A batch: buys at the falling, or sells at the rising target of its base, again and again.
use Rattle.std.specs.Prelude.{ℕ, Bool, List, [], ◌∷◌, Some, None, Option}
use Rattle.values.specs.Directions.{rising_order, rising_target, falling_order, falling_target}
use Rattle.values.specs.Prices.{reached_target}
use Rattle.values.specs.declared.price.Price.{Price}
use Rattle.values.specs.declared.step.Step.{Step}
use Rattle.conditions.specs.Meaning.{Meaning}
use Rattle.conditions.specs.declared.event.Event.{Event}
use Rattle.conditions.specs.declared.event.Event.TheVariants as event
use Rattle.conditions.specs.declared.event.Side.{Side}
use Rattle.conditions.specs.declared.event.Side.TheVariants as side
use Rattle.conditions.specs.declared.event.Next.TheVariants as next
use Rattle.conditions.specs.declared.event.Answer.{Answer}
use Rattle.conditions.specs.declared.event.Answer.TheVariants as answer

-- a trigger price, if there is one, fires, and the condition goes on
abbrev pub fires_on : Side → Option Price → Answer
fires_on s None = answer.Wait
fires_on s (Some t) = answer.Fires (record { side = s; trigger = t; next = next.GoesOn })

module _ (order : ℕ → ℕ → Bool) (target : Step → ℕ → ℕ) (side : Side) (step : Step) where
  -- what a price is answered from a base: the target fires where it is reached
  abbrev pub batch_answer : Price → Price → Answer
  batch_answer base price = fires_on side (reached_target order target step base price)

  -- the base moves to the price where the target is reached
  abbrev pub base_by : Option Price → Price → Price → Price
  base_by None base price = base
  base_by (Some t) base price = price

  abbrev pub base_next : Price → Event → Price
  base_next base (event.Tick t) = base_by (reached_target order target step base t.price) base t.price
  base_next base (event.Day d) = base
  base_next base (event.Settlement p) = base

  abbrev pub base_after : Price → List Event → Price
  base_after base [] = base
  base_after base (e ∷ es) = base_after (base_next base e) es

  abbrev pub answer_from : Price → Event → Answer
  answer_from base (event.Tick t) = batch_answer base t.price
  answer_from base (event.Day d) = answer.Wait
  answer_from base (event.Settlement p) = answer.Wait

  abbrev pub batch_means : Price → Meaning
  batch_means base es e = answer_from (base_after base es) e

-- what the two makes mean from their placing on
abbrev pub buy_batch : Price → Step → Meaning
buy_batch base step = batch_means falling_order falling_target side.Buy step base

abbrev pub sell_batch : Price → Step → Meaning
sell_batch base step = batch_means rising_order rising_target side.Sell step base
