-- A full row of closes: one more is written in place of the oldest.
use Rattle.std.proofs.Common.{◌≡◌, ℕ, ◌-◌, ◌<◌, ◌≤◌, List, [], ◌∷◌, ◌++◌, length, take, drop, set, sym, refl, ap, ◌∙◌, arith, length-append, length-drop, length-set, length-take}
use Rattle.std.proofs.lemmas.List.{take_all, drop-append-le, set-append_right, length_push}
use Rattle.values.specs.declared.price.Price.{Price}
use Rattle.rules.specs.Market.{closes_with}

one : (cs : List Price) (c : Price) → 0 < length cs → set (take 1 cs) 0 c ≡ c ∷ []
one [] c h = absurd (omega arith)
one (x ∷ xs) c h = refl

-- the row is full
pub row_full : (cs rs : List Price) (n : ℕ) (c : Price) → length cs ≡ 59 → 59 ≤ n → rs ≡ drop 1 cs ++ take 1 cs → take n (set rs 58 c) ≡ closes_with (take n cs) c
row_full cs rs n c l h e =
    let d : length (drop 1 cs) ≡ 58 = simp length-drop (omega arith) in
    let p : 0 < length cs = omega arith in
    let q : length rs ≡ 59 = ap length e ∙ simp (length-append, length-drop, length-take) (omega arith) in
    let f : length (set rs 58 c) ≤ n = simp length-set (omega arith) in
    let t : take n cs ≡ cs = take_all n cs (omega arith) in
    let k : length (cs ++ c ∷ []) - 59 ≡ 1 = omega (arith, length_push cs c) in
    take_all n _ f
    ∙ ap (λ xs. set xs 58 c) e
    ∙ set-append_right (drop 1 cs) (take 1 cs) 58 58 c d (omega arith)
    ∙ ap (λ xs. drop 1 cs ++ xs) (one cs c p)
    ∙ sym (drop-append-le 1 cs (c ∷ []) (omega arith))
    ∙ ap (λ j. drop j (cs ++ c ∷ [])) (sym k)
    ∙ ap (λ xs. closes_with xs c) (sym t)
