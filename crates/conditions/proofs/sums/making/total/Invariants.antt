use Rattle.std.proofs.Common.{◌≡◌, ◌*◌, ◌≤◌, take, sum_by}
use Rattle.values.specs.Bounds.{least_price, greatest_price}
use Rattle.conditions.proofs.sums.making.total.Given as goal

abbrev pub invariant-loop-close : goal.invariant-loop-close
invariant-loop-close l =
    (l.sum ≡ sum_by (λ p. p.value) (take l.close-index l.closes))
    × (l.close-index * least_price ≤ l.sum)
    × (l.sum ≤ l.close-index * greatest_price)
