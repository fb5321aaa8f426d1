-- Rising and falling: how each orders prices, and what target each gives a base.
use Rattle.std.specs.Prelude.{◌≡◌, ℕ, ◌+◌, ◌-◌, ◌*◌, ◌/◌, ◌≤◌, Bool, true, false, nat_le}
use Rattle.values.specs.Bounds.{least_price, greatest_price}
use Rattle.values.specs.declared.price.Price.{Price}
use Rattle.values.specs.declared.step.Step.{Step}
use Rattle.values.specs.declared.step.Step.TheVariants as step

-- order a b: b lies at a or beyond it
pub record TotalOrder (order : ℕ → ℕ → Bool) : Type 0 where
  pub itself : (a : ℕ) → order a a ≡ true
  pub through : (a b c : ℕ) → order a b ≡ true → order b c ≡ true → order a c ≡ true
  pub same : (a b : ℕ) → order a b ≡ true → order b a ≡ true → a ≡ b
  pub either : (a b : ℕ) → order a b ≡ false → order b a ≡ true

-- t lies strictly beyond p
pub record Beyond (order : ℕ → ℕ → Bool) (p t : ℕ) : Type 0 where
  pub past : order p t ≡ true
  pub apart : order t p ≡ false

-- a number between two prices is a price
abbrev pub Between : (ℕ → ℕ → Bool) → Type 0
Between order = (p q : Price) (t : ℕ) → order p.value t ≡ true → order t q.value ≡ true → (least_price ≤ t) × (t ≤ greatest_price)

-- rising: beyond is above
abbrev pub rising_order : ℕ → ℕ → Bool
rising_order a b = nat_le a b

-- falling: beyond is below
abbrev pub falling_order : ℕ → ℕ → Bool
falling_order a b = nat_le b a

-- a percentage more, the fraction cut off, or the difference more
abbrev pub rising_target : Step → ℕ → ℕ
rising_target (step.Percent r) base = base * (10000 + r.value) / 10000
rising_target (step.Difference d) base = base + d.value

-- a percentage less, the fraction cut off, or the difference less, and 0 where that is not below the base
abbrev pub falling_target : Step → ℕ → ℕ
falling_target (step.Percent r) base = base * (10000 - r.value) / 10000
falling_target (step.Difference d) base = base - d.value
