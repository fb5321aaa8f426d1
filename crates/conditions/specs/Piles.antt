-- Piles of the three layers, and that each keeps the laws of a condition.
use Rattle.std.specs.Prelude.{ℕ, Bool, false, Some, None, Option}
use Rattle.values.specs.Ranges.{whole}
use Rattle.values.specs.declared.range.PriceRange.{PriceRange}
use Rattle.conditions.specs.Layers.{until, in_range, either}
use Rattle.conditions.specs.Meaning.{Meaning, Repeats, Proper}
use Rattle.conditions.specs.declared.layer.range.Bounds.{Bounds}

-- a meaning that keeps both laws
pub record Lawful (m : Meaning) : Type 0 where
  pub repeats : Repeats m
  pub proper : Proper m

-- a pile of layers, in any order and to any height, over conditions of which P holds
pub data Piled (P : Meaning → Type 0) : Meaning → Type 0 where
  bare : {m : Meaning} → P m → Piled P m
  under_until : {m : Meaning} (last : ℕ) → Piled P m → Piled P (until last m)
  under_range : {m : Meaning} (r : PriceRange) (switch : Bool) → Piled P m → Piled P (in_range r switch m)
  under_either : {m n : Meaning} → Piled P m → Piled P n → Piled P (either m n)

-- every pile over lawful conditions is lawful
abbrev pub PilesLawful : Type 0
PilesLawful = (m : Meaning) → Piled Lawful m → Lawful m

-- a missing layer is one that ends nothing
abbrev pub last_or : Option ℕ → ℕ
last_or None = 65535
last_or (Some last) = last

abbrev pub span_or : Option Bounds → PriceRange
span_or None = whole
span_or (Some b) = b.range

abbrev pub switch_or : Option Bounds → Bool
switch_or None = false
switch_or (Some b) = b.switch
