-- The least of some prices is one of them, and none lies below it.
use Rattle.std.proofs.Common.{◌≡◌, ℕ, Bool, true, false, cond, List, [], ◌∷◌, refl, arith}
use Rattle.std.proofs.lemmas.Grind.{common_steps}
use mathlib.Core.List.{Memᴰ}
use Rattle.values.specs.Directions.{TotalOrder}
use Rattle.values.specs.declared.price.Price.{Price}
use Rattle.kinds.specs.Trails.{least, LeastOf, LeastIsLeast}

module _ (order : ℕ → ℕ → Bool) (total : TotalOrder order) where
  abbrev nearer : Price → Price → Price
  nearer x p = cond (order p.value x.value) p x

  -- what lies at or before the nearer of two lies at or before both
  nearer_at : (x p low : Price) → order low.value (nearer x p).value ≡ true → (order low.value x.value ≡ true) × (order low.value p.value ≡ true)
  nearer_at x p low h =
      let past_p = total.through low.value p.value x.value in
      let past_x = total.through low.value x.value p.value in
      let one = total.either p.value x.value in
      grind (arith, common_steps)

  nearer_has : (b : Bool) (x p : Price) (low : Price) (ps : List Price) → Memᴰ low (cond b p x ∷ ps) → Memᴰ low (x ∷ p ∷ ps)
  nearer_has true x p low ps h = Memᴰ.tail h
  nearer_has false x p low ps (Memᴰ.head e) = Memᴰ.head e
  nearer_has false x p low ps (Memᴰ.tail h) = Memᴰ.tail (Memᴰ.tail h)

  least_of : (x : Price) (ps : List Price) → LeastOf order (least order x ps) (x ∷ ps)
  least_of x [] = record { one_of = Memᴰ.head refl; none_below = (total.itself x.value, tt) }
  least_of x (p ∷ ps) =
      let l = least_of (nearer x p) ps in
      let low = least order x (p ∷ ps) in
      let near = nearer_at x p low l.none_below.0 in
      record {
        one_of = nearer_has (order p.value x.value) x p low ps l.one_of;
        none_below = (near.0, (near.1, l.none_below.1));
      }

  pub least_is_least : LeastIsLeast order
  least_is_least x ps = least_of x ps
