-- What the order kinds mean from their placing on. Rebound, fall-back and batches are defined with their parts.
use Rattle.std.specs.Prelude.{ℕ, Bool, true, false, Some, None, Ok, Err, Option, Result}
use Rattle.values.specs.Directions.{rising_order, rising_target, falling_order, falling_target}
use Rattle.values.specs.Prices.{priced}
use Rattle.values.specs.declared.days.AveragingDays.{AveragingDays}
use Rattle.values.specs.declared.fault.MakingFault.{MakingFault}
use Rattle.values.specs.declared.fault.MakingFault.TheVariants as fault
use Rattle.values.specs.declared.hold.Hold.{Hold}
use Rattle.values.specs.declared.price.Price.{Price}
use Rattle.values.specs.declared.range.PriceRange.{PriceRange}
use Rattle.values.specs.declared.step.Step.{Step}
use Rattle.conditions.specs.Layers.{either, in_range}
use Rattle.conditions.specs.Meaning.{Meaning}
use Rattle.conditions.specs.declared.event.Side.{Side}
use Rattle.conditions.specs.declared.event.Side.TheVariants as side
use Rattle.kinds.specs.Grids.{market_grid, fill_grid}
use Rattle.kinds.specs.Holds.{held_means}
use Rattle.kinds.specs.Prompts.{prompt_means}
use Rattle.kinds.specs.Tests.{level_yes, move_yes, average_yes}
use Rattle.kinds.specs.Trails.{fall_back}
use Rattle.kinds.specs.declared.test.move_of_day.Distance.{Distance}

-- a level, at the first tick that reaches it
abbrev pub level_kind : (ℕ → ℕ → Bool) → Price → Side → Meaning
level_kind order price s = prompt_means (level_yes order price) s None

-- a move of the day, at the first tick that has gone so far
abbrev pub move_kind : (ℕ → ℕ → Bool) → (Step → ℕ → ℕ) → (Price → Price → Price) → Distance → Side → Meaning
move_kind order target furthest distance s = prompt_means (move_yes order target furthest distance) s None

-- an average, once the price has stayed there for the hold
abbrev pub average_kind : (ℕ → ℕ → Bool) → AveragingDays → Hold → Side → Meaning
average_kind order days hold s = held_means (average_yes order days) hold.seconds s None None

-- the profit: a rising level at the target, or a fall-back with stay whose mark is the target
abbrev pub profit_kind : Price → Option Step → Meaning
profit_kind target None = level_kind rising_order target side.Sell
profit_kind target (Some step) = fall_back target step (record { floor = false; stay = true })

-- the stop, a falling level, goes before the profit
abbrev pub exit_at : Option Price → Option Price → Option Step → Result Meaning MakingFault
exit_at None high trail = Err fault.StopTarget
exit_at (Some low) None trail = Err fault.ProfitTarget
exit_at (Some low) (Some high) trail = Ok (either (level_kind falling_order low side.Sell) (profit_kind high trail))

-- stop or profit, at the targets of a base, which have to be prices
abbrev pub stop_or_profit : Price → Step → Step → Option Step → Result Meaning MakingFault
stop_or_profit base stop profit trail = exit_at (priced (falling_target stop base.value)) (priced (rising_target profit base.value)) trail

-- a grid under its range
abbrev pub market_grid_kind : PriceRange → Price → Step → Step → Meaning
market_grid_kind r base down up = in_range r true (market_grid r base down up)

abbrev pub fill_grid_kind : PriceRange → Price → Step → Step → Meaning
fill_grid_kind r base down up = in_range r false (fill_grid base down up)
