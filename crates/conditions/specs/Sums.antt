-- What the sum of some closes can be.
use Rattle.std.specs.Prelude.{ℕ, ◌*◌, Bool, ◌||◌, ◌==◌}
use Rattle.values.specs.Bounds.{within, least_price, greatest_price}

-- n prices may sum to s, or s is 0, which says that there are fewer
abbrev pub sums : ℕ → ℕ → Bool
sums n s = s == 0 || within (n * least_price) (n * greatest_price) s
