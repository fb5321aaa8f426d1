-- The two directions keep their laws: the order is total, and the target of a price lies strictly beyond it.
use Rattle.std.specs.Prelude.{ℕ, ◌+◌, ◌-◌, ◌*◌, ◌/◌, ◌<◌, ◌≤◌}
use Rattle.std.proofs.Common.{mul-le-mul, mul-add, le-div_iff_mul-le, div-lt_iff_lt-mul, arith, lit<, le-leb, leb-true, leb-false}
use Rattle.std.proofs.Math.Nat.{mul-sub, div-le_of_le-mul}
use Rattle.std.proofs.lemmas.Bool.{lt-leb}
use Rattle.values.specs.Directions.{TotalOrder, Beyond, rising_order, falling_order, rising_target, falling_target}
use Rattle.values.specs.declared.price.Price.{Price}
use Rattle.values.specs.declared.step.Step.{Step}
use Rattle.values.specs.declared.step.Step.TheVariants as step

pub rise : (b r : ℕ) → 1000 ≤ b → 10 ≤ r → b < b * (10000 + r) / 10000
rise b r hb hr =
    let m : 1000 * 10 ≤ b * r = mul-le-mul hb hr in
    (le-div_iff_mul-le (lit< tt)).1 (omega (arith, mul-add b 10000 r))

pub fall : (b r : ℕ) → 1000 ≤ b → 10 ≤ r → r ≤ 5000 → b * (10000 - r) / 10000 < b
fall b r hb hr h =
    let m : 1000 * 10 ≤ b * r = mul-le-mul hb hr in
    (div-lt_iff_lt-mul (lit< tt)).1 (omega (arith, mul-sub b 10000 r))

pub rise_most : (b r : ℕ) → b ≤ 999999999 → r ≤ 5000 → b * (10000 + r) / 10000 ≤ 1499999999
rise_most b r hb hr =
    let s : 10000 + r ≤ 15000 = omega arith in
    let m : b * (10000 + r) ≤ 999999999 * 15000 = mul-le-mul hb s in
    div-le_of_le-mul 10000 (omega arith)

above : (b t : ℕ) → b < t → Beyond rising_order b t
above b t h = record { past = le-leb _ _ (omega arith); apart = lt-leb _ _ h }

below : (b t : ℕ) → t < b → Beyond falling_order b t
below b t h = record { past = le-leb _ _ (omega arith); apart = lt-leb _ _ h }

pub rising_total : TotalOrder rising_order
rising_total =
    record {
      itself = λ a. le-leb a a (omega arith);
      through = λ a b c p q. let x = leb-true a b p in let y = leb-true b c q in le-leb a c (omega arith);
      same = λ a b p q. let x = leb-true a b p in let y = leb-true b a q in omega arith;
      either = λ a b p. let x = leb-false a b p in le-leb b a (omega arith);
    }

pub falling_total : TotalOrder falling_order
falling_total =
    record {
      itself = rising_total.itself;
      through = λ a b c p q. rising_total.through c b a q p;
      same = λ a b p q. rising_total.same a b q p;
      either = λ a b p. rising_total.either b a p;
    }

pub rising_beyond : (s : Step) (p : Price) → Beyond rising_order p.value (rising_target s p.value)
rising_beyond (step.Percent r) p = above _ _ (rise _ _ p.low r.low)
rising_beyond (step.Difference d) p = above _ _ (omega arith)

pub falling_beyond : (s : Step) (p : Price) → Beyond falling_order p.value (falling_target s p.value)
falling_beyond (step.Percent r) p = below _ _ (fall _ _ p.low r.low r.high)
falling_beyond (step.Difference d) p = below _ _ (omega arith)
