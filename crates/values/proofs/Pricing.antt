-- A number within the ends is the price that it should be.
use Rattle.std.proofs.Common.{◌≡◌, ℕ, ◌≤◌, Bool, true, false, cond, ◌&&◌, leb, Some, None, Ok, Err, Option, Result, sym, refl, ap, ◌∙◌, le-leb, leb-true}
use native.Mathlib.Bridge.{le_prop}
use borrow.Author.Tests.{clash}
use Rattle.std.specs.Option.{ok_or}
use Rattle.values.specs.Bounds.{least_price, greatest_price}
use Rattle.values.specs.Directions.{Beyond}
use Rattle.values.specs.Making.{seen, checked}
use Rattle.values.specs.Prices.{priced, priced_when, reached_target}
use Rattle.values.specs.declared.fault.MakingFault.{MakingFault}
use Rattle.values.specs.declared.fault.MakingFault.TheVariants as making
use Rattle.values.specs.Ranges.{whole}
use Rattle.values.specs.declared.price.Price.{Price}
use Rattle.values.specs.declared.step.Step.{Step}

priced_by : (p : Price) (a b : Bool) (l : leb least_price p.value ≡ a) (h : leb p.value greatest_price ≡ b) → priced_when p.value a b l h ≡ Some p
priced_by p true true l h = λ i. Some (record { value = p.value; low = le_prop (leb-true least_price p.value l) p.low i; high = le_prop (leb-true p.value greatest_price h) p.high i })
priced_by p true false l h = absurd (clash (sym h ∙ le-leb p.value greatest_price p.high))
priced_by p false b l h = absurd (clash (sym l ∙ le-leb least_price p.value p.low))

-- the number of a price is that price
pub priced_price : (p : Price) → priced p.value ≡ Some p
priced_price p = priced_by p (leb least_price p.value) (leb p.value greatest_price) refl refl

-- a price is its number
pub price_same : (p q : Price) → p.value ≡ q.value → p ≡ q
price_same p q e = let same : Some p ≡ Some q = sym (priced_price p) ∙ ap priced e ∙ priced_price q in cc

made_by : (n : ℕ) (a b : Bool) (l : leb least_price n ≡ a) (h : leb n greatest_price ≡ b) (r : Result Price MakingFault)
    → seen (λ p. p.value) r ≡ cond (a && b) (Ok n) (Err making.Price) → r ≡ ok_or (priced_when n a b l h) making.Price
made_by n true true l h (Ok p) e = ap Ok (price_same p (record { value = n; low = leb-true least_price n l; high = leb-true n greatest_price h }) (cc))
made_by n true true l h (Err f) e = cc
made_by n true false l h (Ok p) e = cc
made_by n true false l h (Err f) e = cc
made_by n false b l h (Ok p) e = cc
made_by n false b l h (Err f) e = cc

-- what making a price answers is the price that the number is
pub made_priced : (n : ℕ) (r : Result Price MakingFault) → seen (λ p. p.value) r ≡ checked least_price greatest_price making.Price n → r ≡ ok_or (priced n) making.Price
made_priced n r e = made_by n (leb least_price n) (leb n greatest_price) refl refl r e

or_some : (o : Option Price) (p : Price) → Ok p ≡ ok_or o making.Price → o ≡ Some p
or_some (Some q) p e = cc
or_some None p e = cc

-- the number that a price was made of
pub priced_made : (n : ℕ) (p : Price) → seen (λ q. q.value) (Ok p) ≡ checked least_price greatest_price making.Price n → priced n ≡ Some p
priced_made n p e = or_some (priced n) p (made_priced n (Ok p) e)

module _ (order : ℕ → ℕ → Bool) (target : Step → ℕ → ℕ) (s : Step) where
  -- a price has not reached its own target
  pub reached_itself : (p : Price) → Beyond order p.value (target s p.value) → reached_target order target s p p ≡ None
  reached_itself p b = ap (λ t. cond t (priced (target s p.value)) None) b.apart

  -- a price t that is the target of the base, and is reached
  pub reached_at : (base price t : Price) → t.value ≡ target s base.value → true ≡ order t.value price.value → Some t ≡ reached_target order target s base price
  reached_at base price t e r =
      sym (priced_price t) ∙ ap (λ b. cond b (priced t.value) None) r ∙ ap (λ n. cond (order n price.value) (priced n) None) e

-- a range of all prices, whatever the proofs of its facts
pub whole_same : (a : least_price ≤ least_price) (b : least_price ≤ greatest_price) (c : least_price ≤ greatest_price) (d : greatest_price ≤ greatest_price) (o : least_price ≤ greatest_price)
    → record { low = record { value = least_price; low = a; high = b }; high = record { value = greatest_price; low = c; high = d }; ordered = o } ≡ whole
whole_same a b c d o =
    λ i.
    record {
      low = record { value = least_price; low = le_prop a whole.low.low i; high = le_prop b whole.low.high i };
      high = record { value = greatest_price; low = le_prop c whole.high.low i; high = le_prop d whole.high.high i };
      ordered = le_prop o whole.ordered i;
    }
