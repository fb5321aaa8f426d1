-- A number as a price, and a target that a price has reached.
use Rattle.std.specs.Prelude.{◌≡◌, ℕ, Bool, true, false, cond, Some, None, Option, nat_le, refl}
use Rattle.std.proofs.Common.{leb-true}
use Rattle.values.specs.Bounds.{least_price, greatest_price}
use Rattle.values.specs.declared.price.Price.{Price}
use Rattle.values.specs.declared.step.Step.{Step}

-- by whether the number lies at the least price or above, and at the greatest or below
abbrev pub priced_when : (n : ℕ) (a b : Bool) → nat_le least_price n ≡ a → nat_le n greatest_price ≡ b → Option Price
priced_when n true true low high = Some (record { value = n; low = leb-true least_price n low; high = leb-true n greatest_price high })
priced_when n true false low high = None
priced_when n false b low high = None

-- the price that a number is, if it is one
abbrev pub priced : ℕ → Option Price
priced n = priced_when n (nat_le least_price n) (nat_le n greatest_price) refl refl

-- the target of a base, where the price lies at it or beyond it in a direction's order
abbrev pub reached_target : (ℕ → ℕ → Bool) → (Step → ℕ → ℕ) → Step → Price → Price → Option Price
reached_target order target s base price = cond (order (target s base.value) price.value) (priced (target s base.value)) None
