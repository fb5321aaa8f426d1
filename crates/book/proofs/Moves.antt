-- A row that moves up by a swap.
use Rattle.std.proofs.Common.{◌≡◌, ℕ, ◌+◌, ◌<◌, ◌≤◌, ◌⊎◌, List, [], ◌∷◌, ◌++◌, length, get_or, take, drop, set, sym, ap, ◌∙◌, inl, inr, eq-or-lt_of_le, arith}
use Rattle.std.proofs.lemmas.List.{take_more_set, take-set-le, drop_more, set-set}

module _ {X : Type 0} where
  swap_take : (xs : List X) (k i : ℕ) (d : X) → (k ≡ i) ⊎ (k < i) → i < length xs → take (k + 1) (set (set xs k (get_or xs i d)) i (get_or xs k d)) ≡ take k xs ++ get_or xs i d ∷ []
  swap_take xs k i d (inl e) h = rw e (rw set-set (take_more_set xs i (get_or xs i d) h))
  swap_take xs k i d (inr l) h =
      let s : k + 1 ≤ i = omega arith in
      let w : k < length xs = omega arith in
      take-set-le (k + 1) (set xs k (get_or xs i d)) i (get_or xs k d) s ∙ take_more_set xs k (get_or xs i d) w

  pub swap_front : (xs ys : List X) (k i : ℕ) → k ≤ i → i < length xs → ((d : X) → ys ≡ set (set xs k (get_or xs i d)) i (get_or xs k d)) → take (k + 1) ys ≡ take k xs ++ take 1 (drop i xs)
  swap_front [] ys k i b h s = absurd (omega arith)
  swap_front (x ∷ xs) ys k i b h s =
      ap (take (k + 1)) (s x) ∙ swap_take (x ∷ xs) k i x (eq-or-lt_of_le b) h ∙ ap (λ r. take k (x ∷ xs) ++ take 1 r) (sym (drop_more (x ∷ xs) i x h))
