-- What a sum of closes can be.
use Rattle.std.proofs.Common.{ℕ, ◌*◌, ◌≤◌, T, arith}
use Rattle.std.proofs.lemmas.Bool.Decides.{nat_tests}
use Rattle.values.specs.Bounds.{least_price, greatest_price}
use Rattle.conditions.specs.Sums.{sums}

-- what n closes sum to fits n closes
pub sums_fit : (n s : ℕ) → n * least_price ≤ s → s ≤ n * greatest_price → T (sums n s)
sums_fit n s low high = grind (arith, nat_tests)
