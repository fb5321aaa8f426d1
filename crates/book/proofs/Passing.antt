-- A pass over rows: each is told in its turn, those that stay move up, and the slips fill places from the first on.
-- f is what a row stands for, `turn` what it becomes, nothing where it leaves, and `write` the slips that it writes.
use Rattle.std.proofs.Common.{◌≡◌, ℕ, ◌+◌, ◌<◌, ◌≤◌, Bool, true, false, cond, List, [], ◌∷◌, ◌++◌, map, length, get_or, take, drop, set, count_by, sym, refl, ap, ◌∙◌, arith}
use Rattle.std.specs.List.{flat_map}
use Rattle.std.proofs.lemmas.List.{take-set-le, drop-set, drop-set-lt, drop-drop, at_drop_more, at_drop_all, map-append, append_assoc, append-nil, length-append, length-take-le, take-append-drop}
use Rattle.std.proofs.lemmas.List.Sums.{sum_by-cons}

module _ {X R : Type 0} (f : X → R) where
  joined_from : {A : Type 0} (g : R → List A) (xs : List X) (i : ℕ) (d : X) → i < length xs → flat_map g (map f (drop i xs)) ≡ g (f (get_or xs i d)) ++ flat_map g (map f (drop (i + 1) xs))
  joined_from g xs i d h = at_drop_more (λ r. flat_map g (map f r)) xs i d h

  map_kept : (b : Bool) (r : X) → map f (cond b (r ∷ []) []) ≡ cond b (f r ∷ []) []
  map_kept true r = refl
  map_kept false r = refl

-- who writes at most one slip, and that only where it is counted, writes no more than the count
pub few_all : {R S : Type 0} (write : R → List S) (watch : R → Bool) → ((r : R) → length (write r) ≤ cond (watch r) 1 0) → (rs : List R) → length (flat_map write rs) ≤ count_by watch rs
few_all write watch few [] = omega arith
few_all write watch few (r ∷ rs) =
    let a : length (write r) ≤ cond (watch r) 1 0 = few r in
    let b : length (flat_map write rs) ≤ count_by watch rs = few_all write watch few rs in
    let c : length (write r ++ flat_map write rs) ≡ length (write r) + length (flat_map write rs) = length-append (write r) (flat_map write rs) in
    let d : count_by watch (r ∷ rs) ≡ cond (watch r) 1 0 + count_by watch rs = sum_by-cons (λ y. cond (watch y) 1 0) r rs in
    omega arith

-- The rows were xs: those before i are told, and k of them stay.
pub record Turned {X R : Type 0} (f : X → R) (turn : R → List R) (xs ys : List X) (k i : ℕ) : Type 0 where
  pub behind : k ≤ i
  pub table : map f (take k ys) ++ flat_map turn (map f (drop i ys)) ≡ flat_map turn (map f xs)

pub turned_none : {X R : Type 0} {f : X → R} {turn : R → List R} {xs : List X} → Turned f turn xs xs 0 0
turned_none = record { behind = omega arith; table = refl }

at_most : (b : Bool) (k k' i : ℕ) → k' ≡ k + cond b 1 0 → k ≤ i → k' ≤ i + 1
at_most true k k' i e h = omega arith
at_most false k k' i e h = omega arith

module _ {X R : Type 0} {f : X → R} {turn : R → List R} {xs ys : List X} {k i : ℕ} where
  -- the turn at i: the row became r, and ys' has it moved up if it stays
  pub turned_more : (ys' : List X) (k' : ℕ) (d r : X) (b : Bool) → Turned f turn xs ys k i → i < length ys → cond b (f r ∷ []) [] ≡ turn (f (get_or ys i d)) → k' ≡ k + cond b 1 0 → take k' ys' ≡ take k (set ys i r) ++ cond b (take 1 (drop i (set ys i r))) [] → drop (i + 1) ys' ≡ drop (i + 1) (set ys i r) → Turned f turn xs ys' k' (i + 1)
  turned_more ys' k' d r b t h row_is next front back =
      let l : i < i + 1 = omega arith in
      let rs : List R = flat_map turn (map f (drop (i + 1) ys)) in
      let same : drop (i + 1) ys' ≡ drop (i + 1) ys = back ∙ drop-set-lt (i + 1) ys i r l in
      let p : take k' ys' ≡ take k ys ++ cond b (r ∷ []) [] = front ∙ ap (λ z. z ++ cond b (take 1 (drop i (set ys i r))) []) (take-set-le k ys i r t.behind) ∙ ap (λ z. take k ys ++ cond b (take 1 z) []) (drop-set ys i r h) in
      record {
        behind = at_most b k k' i next t.behind;
        table =
            ap (λ z. map f z ++ flat_map turn (map f (drop (i + 1) ys'))) p
            ∙ ap (λ z. map f (take k ys ++ cond b (r ∷ []) []) ++ flat_map turn (map f z)) same
            ∙ ap (λ z. z ++ rs) (map-append f (take k ys) (cond b (r ∷ []) []))
            ∙ append_assoc (map f (take k ys)) (map f (cond b (r ∷ []) [])) rs
            ∙ ap (λ z. map f (take k ys) ++ (z ++ rs)) (map_kept f b r ∙ row_is)
            ∙ sym (ap (λ z. map f (take k ys) ++ z) (joined_from f turn ys i d h))
            ∙ t.table;
      }

  -- all are told
  pub turned_all : Turned f turn xs ys k i → length ys ≤ i → map f (take k ys) ≡ flat_map turn (map f xs)
  turned_all t h = sym (append-nil (map f (take k ys))) ∙ sym (at_drop_all (λ z. map f (take k ys) ++ flat_map turn (map f z)) ys i h) ∙ t.table

-- The same, with slip places that held ps: w slips are written.
pub record Passing {X R S : Type 0} (f : X → R) (turn : R → List R) (write : R → List S) (xs ys : List X) (ps qs : List S) (k w i : ℕ) : Type 0 where
  pub rows : Turned f turn xs ys k i
  pub room : w + length (flat_map write (map f (drop i ys))) ≤ length ps
  pub slips : take w qs ++ flat_map write (map f (drop i ys)) ≡ flat_map write (map f xs)
  pub rest : drop w qs ≡ drop w ps

-- what the pass leaves
pub record Passed {X R S : Type 0} (f : X → R) (turn : R → List R) (write : R → List S) (xs ys : List X) (ps qs : List S) (k w : ℕ) : Type 0 where
  pub table : map f (take k ys) ≡ flat_map turn (map f xs)
  pub written : w ≡ length (flat_map write (map f xs))
  pub slips : qs ≡ flat_map write (map f xs) ++ drop w ps

pub passing_none : {X R S : Type 0} {f : X → R} {write : R → List S} {xs : List X} {ps : List S} (turn : R → List R) → length (flat_map write (map f xs)) ≤ length ps → Passing f turn write xs xs ps ps 0 0 0
passing_none turn h = record { rows = turned_none; room = omega arith; slips = refl; rest = refl }

further : {A : Type 0} (w w' n : ℕ) (qs ps : List A) → w' ≡ w + n → drop w qs ≡ drop w ps → drop w' qs ≡ drop w' ps
further w w' n qs ps e h = rw e (sym (drop-drop n w qs) ∙ ap (drop n) h ∙ drop-drop n w ps)

module _ {X R S : Type 0} {f : X → R} {turn : R → List R} {write : R → List S} {xs ys : List X} {ps qs : List S} {k w i : ℕ} where
  -- there are places for the slips of the row at i, and then for those of the rest
  room_from : (d : X) (new : List S) → Passing f turn write xs ys ps qs k w i → i < length ys → new ≡ write (f (get_or ys i d)) → (w + length new) + length (flat_map write (map f (drop (i + 1) ys))) ≤ length ps
  room_from d new p h new_is =
      let rs : List S = flat_map write (map f (drop (i + 1) ys)) in
      let m : length (flat_map write (map f (drop i ys))) ≡ length (new ++ rs) = ap length (joined_from f write ys i d h ∙ ap (λ z. z ++ rs) (sym new_is)) in
      let n : length (new ++ rs) ≡ length new + length rs = length-append new rs in
      let c : w + length (flat_map write (map f (drop i ys))) ≤ length ps = p.room in
      omega arith

  -- the turn at i: the row became r, then the slips became qs', then the rows became ys'
  pub passing_more : (ys' : List X) (qs' : List S) (k' w' : ℕ) (d r : X) (b : Bool) (new : List S) → Passing f turn write xs ys ps qs k w i → i < length ys → cond b (f r ∷ []) [] ≡ turn (f (get_or ys i d)) → new ≡ write (f (get_or ys i d)) → w' ≡ w + length new → take w' qs' ≡ take w qs ++ new → drop w' qs' ≡ drop w' qs → k' ≡ k + cond b 1 0 → take k' ys' ≡ take k (set ys i r) ++ cond b (take 1 (drop i (set ys i r))) [] → drop (i + 1) ys' ≡ drop (i + 1) (set ys i r) → Passing f turn write xs ys' ps qs' k' w' (i + 1)
  passing_more ys' qs' k' w' d r b new p h row_is new_is next written rest_is keep_next front back =
      let l : i < i + 1 = omega arith in
      let same : flat_map write (map f (drop (i + 1) ys')) ≡ flat_map write (map f (drop (i + 1) ys)) = ap (λ z. flat_map write (map f z)) (back ∙ drop-set-lt (i + 1) ys i r l) in
      let all : new ++ flat_map write (map f (drop (i + 1) ys')) ≡ flat_map write (map f (drop i ys)) = ap (λ z. new ++ z) same ∙ ap (λ z. z ++ flat_map write (map f (drop (i + 1) ys))) new_is ∙ sym (joined_from f write ys i d h) in
      record {
        rows = turned_more ys' k' d r b p.rows h row_is keep_next front back;
        room = rw (next, same) (room_from d new p h new_is);
        slips = ap (λ z. z ++ flat_map write (map f (drop (i + 1) ys'))) written ∙ append_assoc (take w qs) new (flat_map write (map f (drop (i + 1) ys'))) ∙ ap (λ z. take w qs ++ z) all ∙ p.slips;
        rest = rest_is ∙ further w w' (length new) qs ps next p.rest;
      }

  -- the pass is over
  pub passing_all : Passing f turn write xs ys ps qs k w i → length ys ≤ i → length qs ≡ length ps → Passed f turn write xs ys ps qs k w
  passing_all p h e =
      let t : take w qs ≡ flat_map write (map f xs) = sym (append-nil (take w qs)) ∙ sym (at_drop_all (λ z. take w qs ++ flat_map write (map f z)) ys i h) ∙ p.slips in
      let l : length (take w qs) ≡ w = length-take-le w qs (omega (arith, p.room)) in
      record {
        table = turned_all p.rows h;
        written = sym l ∙ ap length t;
        slips = sym (take-append-drop w qs) ∙ ap (λ z. z ++ drop w qs) t ∙ ap (λ z. flat_map write (map f xs) ++ z) p.rest;
      }
