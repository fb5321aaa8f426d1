use Rattle.std.proofs.Common.{◌≡◌, ◌++◌, map, take, drop}
use Rattle.rules.specs.Checks.{first_fault}
use Rattle.rules.specs.Market.{price_check, closes_of}
use Rattle.market.proofs.prices.copy_prices.Given as goal

abbrev pub invariant-loop-i : goal.invariant-loop-i
invariant-loop-i l =
    (first_fault (map price_check (drop l.i l.closes)) ≡ first_fault (map price_check l.closes))
    × (take l.i l.row ++ closes_of (drop l.i l.closes) ≡ closes_of l.closes)
