-- The sums of a share's closes that its day brings.
use Rattle.std.specs.Prelude.{◌≡◌, ℕ, Bool, true, false, T, List, refl}
use Rattle.std.proofs.Common.{sym, subst}
use Rattle.values.specs.declared.price.Price.{Price}
use Rattle.conditions.specs.Closes.{newest_sum}
use Rattle.conditions.specs.Sums.{sums}
use Rattle.conditions.specs.declared.sums.Sums.{Sums}

-- a sum that n closes may come to
pub record SumOf (n : ℕ) : Type 0 where
  pub value : ℕ
  pub fits : T (sums n value)

-- by whether n closes may come to the sum; else 0, which says that there are fewer
abbrev pub sum_when : (n s : ℕ) (b : Bool) → sums n s ≡ b → SumOf n
sum_when n s true e = record { value = s; fits = subst T (sym e) tt }
sum_when n s false e = record { value = 0; fits = tt }

abbrev pub sum_of : (n : ℕ) → List Price → SumOf n
sum_of n closes = sum_when n (newest_sum n closes) (sums n (newest_sum n closes)) refl

-- the sums of the newest 4, 9, 19, 29 and 59 closes
abbrev pub sums_of : List Price → Sums
sums_of closes =
    record {
      four = (sum_of 4 closes).value;
      nine = (sum_of 9 closes).value;
      nineteen = (sum_of 19 closes).value;
      twentynine = (sum_of 29 closes).value;
      fiftynine = (sum_of 59 closes).value;
      fours = (sum_of 4 closes).fits;
      nines = (sum_of 9 closes).fits;
      nineteens = (sum_of 19 closes).fits;
      twentynines = (sum_of 29 closes).fits;
      fiftynines = (sum_of 59 closes).fits;
    }
