-- The row of a number by its place among the orders, and rows that move up. f is the order that a row stands for.
use Rattle.std.proofs.Common.{◌≡◌, ℕ, zero, suc, ◌+◌, ◌-◌, ◌<◌, ◌≤◌, Bool, true, false, cond, not, eqb, List, [], ◌∷◌, ◌++◌, map, length, get_or, take, drop, set, is_some, Some, None, Option, sym, refl, ap, ◌∙◌, ap₂, arith}
use borrow.Rule.Slice.PartMut.{put_mid, post_of}
use Rattle.std.specs.List.{position, position_or_len}
use Rattle.std.proofs.lemmas.Grind.{common_steps}
use Rattle.std.proofs.lemmas.List.{get_or-take, length-take, get_or_default, drop-take, drop-drop, take-take, take_at, append_assoc, length-append, length-take-le, length-drop, take-set, drop-set-lt, map-append, set_split}
use Rattle.std.proofs.lemmas.Bool.{eqb-true, eqb-false, eq-eqb, ne_eqb}
use Rattle.rules.specs.Book.{Row, row_of, on_row}

pub eqb_same : (a b : ℕ) → eqb a b ≡ eqb b a
eqb_same a b = go (eqb b a) refl
  where
    go : (t : Bool) → eqb b a ≡ t → eqb a b ≡ t
    go true e = eq-eqb a b (sym (eqb-true b a e))
    go false e = ne_eqb a b (λ p. eqb-false b a e (sym p))

one_up : (n : ℕ) → 1 + n ≡ suc n
one_up n = omega arith

module _ {X : Type 0} where
  -- an order that is read, among those in use
  pub read_orders : (xs ys : List X) (at : ℕ) (x : X) → xs ≡ ys → x ≡ get_or xs at x → get_or ys at x ≡ x
  read_orders xs ys at x e is = ap (λ z. get_or z at x) (sym e) ∙ sym is

  pub read_rows : (ys : List X) (n at : ℕ) (x : X) → at < length (take n ys) → x ≡ get_or ys at x → get_or (take n ys) at x ≡ x
  read_rows ys n at x h is = get_or-take n ys at x (omega (arith, length-take n ys, h)) ∙ sym is

  pub read_same : (xs : List X) (at : ℕ) (x y : X) → at < length xs → get_or xs at x ≡ x → get_or xs at y ≡ y → x ≡ y
  read_same xs at x y h ex ey = sym ex ∙ get_or_default xs at x y h ∙ ey

  -- a change to what stands before n
  pub take_of_set : (n : ℕ) (xs : List X) (i : ℕ) (y : X) → take n (set xs i y) ≡ set (take n xs) i y
  take_of_set zero xs i y = refl
  take_of_set (suc n) [] i y = refl
  take_of_set (suc n) (x ∷ xs) zero y = refl
  take_of_set (suc n) (x ∷ xs) (suc i) y = ap (λ z. x ∷ z) (take_of_set n xs i y)

  -- the order at `at` became y, and then left
  pub lifted_set : (n : ℕ) (ys : List X) (at : ℕ) (y : X) → take at (take n (set ys at y)) ++ drop (at + 1) (take n (set ys at y)) ≡ take at (take n ys) ++ drop (at + 1) (take n ys)
  lifted_set n ys at y =
      let l : at < at + 1 = omega arith in
      ap (λ z. take at z ++ drop (at + 1) z) (take_of_set n ys at y) ∙ ap₂ (λ a b. a ++ b) (take-set (take n ys) at y) (drop-set-lt (at + 1) (take n ys) at y l)

  -- what stands from `at` to n is rotated by one
  pub lifted : (xs r : List X) (at n : ℕ) → at < n → n ≤ length xs → r ≡ drop 1 (take (n - at) (drop at xs)) ++ take 1 (take (n - at) (drop at xs))
      → take (n - 1) (put_mid at (n - at) xs r) ≡ take at (take n xs) ++ drop (at + 1) (take n xs)
  lifted xs r at n h le e =
      let a : List X = take at xs in
      let m : List X = take (n - at) (drop at xs) in
      let p : List X = post_of at (n - at) xs in
      let k : at + (n - at) ≡ n = omega arith in
      let mid : drop at (take n xs) ≡ m = ap (λ z. drop at (take z xs)) (sym k) ∙ drop-take at (n - at) xs in
      let b : drop 1 m ≡ drop (at + 1) (take n xs) = ap (drop 1) (sym mid) ∙ drop-drop 1 at (take n xs) in
      let front : a ≡ take at (take n xs) = sym (take-take at n xs (omega arith)) in
      let s : a ++ (r ++ p) ≡ (a ++ drop 1 m) ++ (take 1 m ++ p) = ap (λ z. a ++ (z ++ p)) e ∙ simp append_assoc in
      let la : length a ≡ at = length-take-le at xs (omega arith) in
      let lb : length (drop 1 m) ≡ n - at - 1 = length-drop 1 m ∙ ap (λ z. z - 1) (length-take-le (n - at) (drop at xs) (omega (arith, length-drop at xs))) in
      let l : length (a ++ drop 1 m) ≡ n - 1 = length-append a (drop 1 m) ∙ omega arith in
      ap (take (n - 1)) s ∙ take_at (a ++ drop 1 m) (take 1 m ++ p) (n - 1) l ∙ ap₂ (λ u v. u ++ v) front b

module _ {X : Type 0} (f : X → Row) (k : ℕ) where
  abbrev pub bears : X → Bool
  bears x = eqb (f x).terms.number k

  abbrev pos : List X → ℕ
  pos xs = position_or_len bears xs

  number_is : (x : X) (b : Bool) → bears x ≡ b → eqb k (f x).terms.number ≡ b
  number_is x b e = eqb_same k (f x).terms.number ∙ e

  row_past : (xs : List X) → length xs ≤ pos xs → row_of k (map f xs) ≡ None
  row_past [] h = refl
  row_past (x ∷ xs) h = go (bears x) refl h (row_past xs)
    where
      go : (b : Bool) → bears x ≡ b → suc (length xs) ≤ cond (not b) (1 + pos xs) 0 → (length xs ≤ pos xs → row_of k (map f xs) ≡ None) → row_of k (map f (x ∷ xs)) ≡ None
      go true e g ih = absurd (omega arith)
      go false e g ih = ap (λ z. cond z (Some (f x)) (row_of k (map f xs))) (number_is x false e) ∙ ih (omega arith)

  on_past : (turn : Row → List Row) (xs : List X) → length xs ≤ pos xs → on_row k turn (map f xs) ≡ map f xs
  on_past turn [] h = refl
  on_past turn (x ∷ xs) h = go (bears x) refl h (on_past turn xs)
    where
      go : (b : Bool) → bears x ≡ b → suc (length xs) ≤ cond (not b) (1 + pos xs) 0 → (length xs ≤ pos xs → on_row k turn (map f xs) ≡ map f xs) → on_row k turn (map f (x ∷ xs)) ≡ map f (x ∷ xs)
      go true e g ih = absurd (omega arith)
      go false e g ih = ap (λ z. cond z (turn (f x) ++ map f xs) (f x ∷ on_row k turn (map f xs))) (number_is x false e) ∙ ap (λ z. f x ∷ z) (ih (omega arith))

  row_some : (xs : List X) (d : X) → pos xs < length xs → row_of k (map f xs) ≡ Some (f (get_or xs (pos xs) d))
  row_some [] d h = absurd (omega arith)
  row_some (x ∷ xs) d h = go (bears x) refl h (row_some xs d)
    where
      go : (b : Bool) → bears x ≡ b → cond (not b) (1 + pos xs) 0 < suc (length xs) → (pos xs < length xs → row_of k (map f xs) ≡ Some (f (get_or xs (pos xs) d)))
          → row_of k (map f (x ∷ xs)) ≡ Some (f (get_or (x ∷ xs) (cond (not b) (1 + pos xs) 0) d))
      go true e g ih = ap (λ z. cond z (Some (f x)) (row_of k (map f xs))) (number_is x true e)
      go false e g ih = ap (λ z. cond z (Some (f x)) (row_of k (map f xs))) (number_is x false e) ∙ ih (omega arith) ∙ ap (λ i. Some (f (get_or (x ∷ xs) i d))) (sym (one_up (pos xs)))

  on_some : (turn : Row → List Row) (xs : List X) (d : X) → pos xs < length xs
      → on_row k turn (map f xs) ≡ map f (take (pos xs) xs) ++ (turn (f (get_or xs (pos xs) d)) ++ map f (drop (suc (pos xs)) xs))
  on_some turn [] d h = absurd (omega arith)
  on_some turn (x ∷ xs) d h = go (bears x) refl h (on_some turn xs d)
    where
      go : (b : Bool) → bears x ≡ b → cond (not b) (1 + pos xs) 0 < suc (length xs)
          → (pos xs < length xs → on_row k turn (map f xs) ≡ map f (take (pos xs) xs) ++ (turn (f (get_or xs (pos xs) d)) ++ map f (drop (suc (pos xs)) xs)))
          → let p : ℕ = cond (not b) (1 + pos xs) 0 in
          on_row k turn (map f (x ∷ xs)) ≡ map f (take p (x ∷ xs)) ++ (turn (f (get_or (x ∷ xs) p d)) ++ map f (drop (suc p) (x ∷ xs)))
      go true e g ih = ap (λ z. cond z (turn (f x) ++ map f xs) (f x ∷ on_row k turn (map f xs))) (number_is x true e)
      go false e g ih = ap (λ z. cond z (turn (f x) ++ map f xs) (f x ∷ on_row k turn (map f xs))) (number_is x false e) ∙ ap (λ z. f x ∷ z) (ih (omega arith))
          ∙ ap (λ i. map f (take i (x ∷ xs)) ++ (turn (f (get_or (x ∷ xs) i d)) ++ map f (drop (suc i) (x ∷ xs)))) (sym (one_up (pos xs)))

  place_number : (xs : List X) (d : X) → pos xs < length xs → eqb k (f (get_or xs (pos xs) d)).terms.number ≡ true
  place_number [] d h = absurd (omega arith)
  place_number (x ∷ xs) d h = go (bears x) refl h (place_number xs d)
    where
      go : (b : Bool) → bears x ≡ b → cond (not b) (1 + pos xs) 0 < suc (length xs) → (pos xs < length xs → eqb k (f (get_or xs (pos xs) d)).terms.number ≡ true)
          → eqb k (f (get_or (x ∷ xs) (cond (not b) (1 + pos xs) 0) d)).terms.number ≡ true
      go true e g ih = number_is x true e
      go false e g ih = ap (λ i. eqb k (f (get_or (x ∷ xs) i d)).terms.number) (one_up (pos xs)) ∙ ih (omega arith)

  -- no order bears the number
  module _ (xs : List X) (place : None ≡ position bears xs) where
    past : length xs ≤ pos xs
    past = grind (arith, common_steps)

    pub row_none : row_of k (map f xs) ≡ None
    row_none = row_past xs past

    pub on_none : (turn : Row → List Row) → map f xs ≡ on_row k turn (map f xs)
    on_none turn = sym (on_past turn xs past)

  here : (xs : List X) (at : ℕ) → Some at ≡ position bears xs → pos xs ≡ at
  here xs at place = grind (arith, common_steps)

  pub inside : (xs : List X) (at : ℕ) → Some at ≡ position bears xs → at < length xs
  inside xs at place = grind (arith, common_steps)

  -- the order x bears it, at this place
  module _ (xs : List X) (at : ℕ) (x : X) (place : Some at ≡ position bears xs) (is : get_or xs at x ≡ x) where
    at_pos : pos xs ≡ at
    at_pos = here xs at place

    before : pos xs < length xs
    before = let h : at < length xs = inside xs at place in omega (arith, h, at_pos)

    read : get_or xs (pos xs) x ≡ x
    read = ap (λ i. get_or xs i x) at_pos ∙ is

    pub found : row_of k (map f xs) ≡ Some (f x)
    found = row_some xs x before ∙ ap (λ y. Some (f y)) read

    pub numbered : eqb k (f x).terms.number ≡ true
    numbered = ap (λ y. eqb k (f y).terms.number) (sym read) ∙ place_number xs x before

    turned_by : (turn : Row → List Row) → on_row k turn (map f xs) ≡ map f (take at xs) ++ (turn (f x) ++ map f (drop (suc at) xs))
    turned_by turn =
        on_some turn xs x before
        ∙ ap (λ y. map f (take (pos xs) xs) ++ (turn (f y) ++ map f (drop (suc (pos xs)) xs))) read
        ∙ ap (λ i. map f (take i xs) ++ (turn (f x) ++ map f (drop (suc i) xs))) at_pos

    -- it left, and those after it moved up
    pub on_left : (turn : Row → List Row) → turn (f x) ≡ [] → map f (take at xs ++ drop (at + 1) xs) ≡ on_row k turn (map f xs)
    on_left turn e =
        let s : at + 1 ≡ suc at = omega arith in
        ap (λ j. map f (take at xs ++ drop j xs)) s
        ∙ map-append f (take at xs) (drop (suc at) xs)
        ∙ sym (turned_by turn ∙ ap (λ z. map f (take at xs) ++ (z ++ map f (drop (suc at) xs))) e)

    -- it became y
    pub on_set : (turn : Row → List Row) (y : X) → turn (f x) ≡ f y ∷ [] → map f (set xs at y) ≡ on_row k turn (map f xs)
    on_set turn y e =
        ap (map f) (set_split xs at y (inside xs at place))
        ∙ map-append f (take at xs) (y ∷ drop (suc at) xs)
        ∙ sym (turned_by turn ∙ ap (λ z. map f (take at xs) ++ (z ++ map f (drop (suc at) xs))) e)

-- whether an order bears the number
pub borne : {X : Type 0} (f : X → Row) (k : ℕ) (xs : List X) → is_some (row_of k (map f xs)) ≡ is_some (position (bears f k) xs)
borne f k [] = refl
borne f k (x ∷ xs) = go (position (bears f k) (x ∷ xs)) refl
  where
    go : (o : Option ℕ) → position (bears f k) (x ∷ xs) ≡ o → is_some (row_of k (map f (x ∷ xs))) ≡ is_some o
    go None e = ap is_some (row_none f k (x ∷ xs) (sym e))
    go (Some at) e = let d : get_or (x ∷ xs) at (get_or (x ∷ xs) at x) ≡ get_or (x ∷ xs) at x = grind (arith, common_steps) in ap is_some (found f k (x ∷ xs) at (get_or (x ∷ xs) at x) (sym e) d)
