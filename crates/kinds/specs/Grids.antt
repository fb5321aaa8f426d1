-- A grid: buys at the falling, and sells at the rising target of its base.
use Rattle.std.specs.Prelude.{cond, List, [], ◌∷◌, Some, None, Option, option_map}
use Rattle.std.specs.Option.{option_or}
use Rattle.values.specs.Directions.{rising_order, rising_target, falling_order, falling_target}
use Rattle.values.specs.Prices.{reached_target}
use Rattle.values.specs.Ranges.{inside}
use Rattle.values.specs.declared.price.Price.{Price}
use Rattle.values.specs.declared.range.PriceRange.{PriceRange}
use Rattle.values.specs.declared.step.Step.{Step}
use Rattle.conditions.specs.Meaning.{Meaning}
use Rattle.conditions.specs.declared.event.Event.{Event}
use Rattle.conditions.specs.declared.event.Event.TheVariants as event
use Rattle.conditions.specs.declared.event.Side.{Side}
use Rattle.conditions.specs.declared.event.Side.TheVariants as side
use Rattle.conditions.specs.declared.event.Next.{Next}
use Rattle.conditions.specs.declared.event.Next.TheVariants as next
use Rattle.conditions.specs.declared.event.Fire.{Fire}
use Rattle.conditions.specs.declared.event.Answer.{Answer}
use Rattle.conditions.specs.declared.event.Answer.TheVariants as answer
use Rattle.kinds.specs.declared.grid.GridMode.{GridMode}
use Rattle.kinds.specs.declared.grid.GridMode.TheVariants as mode
use Rattle.kinds.specs.declared.grid.GridTerms.{GridTerms}
use Rattle.kinds.specs.declared.grid.GridStage.{GridStage}
use Rattle.kinds.specs.declared.grid.GridStage.TheVariants as stage

-- a target that a mode lets fire: in market mode only one inside the range
abbrev pub allowed : GridMode → Option Price → Option Price
allowed (mode.Market r) None = None
allowed (mode.Market r) (Some t) = cond (inside r t.value) (Some t) None
allowed mode.Fill t = t

-- what follows a fire
abbrev pub follows_fire : GridMode → Next
follows_fire (mode.Market r) = next.GoesOn
follows_fire mode.Fill = next.AwaitsSettlement

-- where a fire at a price leaves the grid: the price is the next base, or the settlement's will be
abbrev pub moved : GridMode → Price → GridStage
moved (mode.Market r) price = stage.Watching price
moved mode.Fill price = stage.Awaiting

module _ (terms : GridTerms) where
  -- the targets of a base that a price has reached
  abbrev pub buy_target : Price → Price → Option Price
  buy_target base price = allowed terms.mode (reached_target falling_order falling_target terms.down base price)

  abbrev pub sell_target : Price → Price → Option Price
  sell_target base price = allowed terms.mode (reached_target rising_order rising_target terms.up base price)

  abbrev pub fire_at : Side → Price → Fire
  fire_at s t = record { side = s; trigger = t; next = follows_fire terms.mode }

  -- what a price fires, by the targets that it has reached
  abbrev pub chosen : Option Price → Option Price → Option Fire
  chosen buy sell = option_or (option_map (fire_at side.Buy) buy) (option_map (fire_at side.Sell) sell)

  abbrev pub fire : Price → Price → Option Fire
  fire base price = chosen (buy_target base price) (sell_target base price)

  abbrev pub stage_by : Price → Price → Option Fire → GridStage
  stage_by base price None = stage.Watching base
  stage_by base price (Some f) = moved terms.mode price

  -- the stage after one event more: a settlement is heeded only while it is awaited, and a tick only while it is not
  abbrev pub stage_next : GridStage → Event → GridStage
  stage_next (stage.Watching base) (event.Tick t) = stage_by base t.price (fire base t.price)
  stage_next (stage.Watching base) (event.Day d) = stage.Watching base
  stage_next (stage.Watching base) (event.Settlement p) = stage.Watching base
  stage_next stage.Awaiting (event.Tick t) = stage.Awaiting
  stage_next stage.Awaiting (event.Day d) = stage.Awaiting
  stage_next stage.Awaiting (event.Settlement p) = stage.Watching p

  abbrev pub stage_after : GridStage → List Event → GridStage
  stage_after s [] = s
  stage_after s (e ∷ es) = stage_after (stage_next s e) es

  abbrev pub answer_by : Option Fire → Answer
  answer_by None = answer.Wait
  answer_by (Some f) = answer.Fires f

  -- what a price is answered from a base
  abbrev pub grid_answer : Price → Price → Answer
  grid_answer base price = answer_by (fire base price)

  abbrev pub answer_at : GridStage → Event → Answer
  answer_at (stage.Watching base) (event.Tick t) = grid_answer base t.price
  answer_at (stage.Watching base) (event.Day d) = answer.Wait
  answer_at (stage.Watching base) (event.Settlement p) = answer.Wait
  answer_at stage.Awaiting e = answer.Wait

  abbrev pub grid_means : GridStage → Meaning
  grid_means s es e = answer_at (stage_after s es) e

abbrev pub market_terms : PriceRange → Step → Step → GridTerms
market_terms r down up = record { mode = mode.Market r; down = down; up = up }

abbrev pub fill_terms : Step → Step → GridTerms
fill_terms down up = record { mode = mode.Fill; down = down; up = up }

-- what the two modes mean from their placing on
abbrev pub market_grid : PriceRange → Price → Step → Step → Meaning
market_grid r base down up = grid_means (market_terms r down up) (stage.Watching base)

abbrev pub fill_grid : Price → Step → Step → Meaning
fill_grid base down up = grid_means (fill_terms down up) (stage.Watching base)
