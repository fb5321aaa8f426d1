use Rattle.std.proofs.Common.{◌≡◌, map, drop}
use Rattle.rules.specs.Checks.{first_fault}
use Rattle.rules.specs.Market.{level_check}
use Rattle.market.proofs.prices.check_each.Given as goal

abbrev pub invariant-loop-level : goal.invariant-loop-level
invariant-loop-level l = first_fault (map level_check (drop l.level-index l.levels)) ≡ first_fault (map level_check l.levels)
