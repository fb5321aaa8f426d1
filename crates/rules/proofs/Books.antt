-- The book is what the calls and answers say.
use Rattle.std.proofs.Common.{◌≡◌, ℕ, ◌+◌, ◌-◌, ◌≤◌, Bool, true, false, cond, ◌||◌, eqb, List, [], ◌∷◌, ◌++◌, map, length, take, is_some, Some, None, count_by, filter, Option, sym, refl, ap, ◌∙◌, subst, ap₂, append_assoc, append-nil, arith}
use Rattle.std.specs.List.{flat_map}
use Rattle.std.proofs.lemmas.List.{map-append}
use Rattle.std.proofs.lemmas.List.Sums.{sum_by-cons}
use Rattle.std.proofs.lemmas.Bool.{cond-true, cond-false}
use Rattle.rules.specs.Bearing.{bears, own_quotes}
use Rattle.rules.specs.Book.{Setup, Row, State, new, claimed_after, row_after, standing, on_row, rows_after, slips_after, placed, state_after, granted_reply, quote_call_checks, refusal, decided, Burst, one_more, bursts, step}
use Rattle.rules.specs.Calls.{Single, listing, opening, placing, quoting, cancelling, claiming, settling, asking, Call, single, burst, Refusal, Reply, refused}
use Rattle.rules.specs.Checks.{first_fault}
use Rattle.rules.specs.Law.{OneOfANumber}
use Rattle.rules.specs.Machine.{runs}
use Rattle.rules.specs.Market.{Market, unlisted}
use Rattle.rules.specs.Reading.{row_with, row_from, placed_by, all_placed, reading}
use Rattle.rules.specs.Trace.{Entry, entry, trace, state_by, granted, market_by, market_from}
use Rattle.rules.specs.declared.quote.Quote.{Quote}
use Rattle.rules.specs.declared.slip.Slip.{Slip}
use Rattle.rules.proofs.Granting.{place_passes, placed_stands}
use Rattle.rules.proofs.Lone.{Lone, of_append, lone_step}
use Rattle.rules.proofs.Numbered.{row, of_number, turn, runs_append, one_row, not_meant_cancel, not_meant_claim, not_meant_settle}
use Rattle.rules.proofs.Tracks.{granted_is, market_tracked}

joined_append : {A B : Type 0} (f : A → List B) (a b : List A) → flat_map f (a ++ b) ≡ flat_map f a ++ flat_map f b
joined_append f [] b = refl
joined_append f (x ∷ a) b = ap (λ y. f x ++ y) (joined_append f a b) ∙ sym (append_assoc (f x) _ _)

map_path : {A B : Type 0} (f g : A → B) → ((x : A) → f x ≡ g x) → (xs : List A) → map f xs ≡ map g xs
map_path f g h [] = refl
map_path f g h (x ∷ xs) = ap₂ ◌∷◌ (h x) (map_path f g h xs)

map_twice : {A B C : Type 0} (f : B → C) (g : A → B) (xs : List A) → map f (map g xs) ≡ map (λ x. f (g x)) xs
map_twice f g [] = refl
map_twice f g (x ∷ xs) = ap (λ y. f (g x) ∷ y) (map_twice f g xs)

map_same : {A : Type 0} (xs : List A) → xs ≡ map (λ x. x) xs
map_same [] = refl
map_same (x ∷ xs) = ap (λ y. x ∷ y) (map_same xs)

-- A call turns the rows that stand into those that stand of all rows turned.

all_standing : (limit : ℕ) (m : Market) (c : Single) (rs : List Row) → flat_map (turn limit m c) (flat_map standing rs) ≡ flat_map standing (map (row_after limit m c) rs)
all_standing limit m c [] = refl
all_standing limit m c (r ∷ rs) = joined_append (turn limit m c) (standing r) (flat_map standing rs) ∙ ap₂ ◌++◌ (one_row limit m c r) (all_standing limit m c rs)

-- a call by a number, where an order of another is as it was, and at most one order of that number stands
module _ (limit : ℕ) (m : Market) (c : Single) (j : ℕ) (other : (r : Row) → eqb j r.terms.number ≡ false → row_after limit m c r ≡ r) where
  -- an order that does not stand, or of another number
  gone : (r : Row) → standing r ≡ [] → turn limit m c r ≡ []
  gone r e = sym (one_row limit m c r) ∙ ap (flat_map (turn limit m c)) e

  stays : (r : Row) → length (of_number j (standing r)) ≡ 0 → standing r ≡ turn limit m c r
  stays r h = go (is_some r.machine || r.claimed) refl (eqb j r.terms.number) refl
    where
      go : (t : Bool) → (is_some r.machine || r.claimed) ≡ t → (u : Bool) → eqb j r.terms.number ≡ u → standing r ≡ turn limit m c r
      go false e u f = let n : standing r ≡ [] = ap (λ t. cond t (r ∷ []) []) e in n ∙ sym (gone r n)
      go true e false f = ap standing (sym (other r f))
      go true e true f =
          let n : standing r ≡ r ∷ [] = ap (λ t. cond t (r ∷ []) []) e in
          let z : length (of_number j (standing r)) ≡ 1 = ap (λ x. length (of_number j x)) n ∙ ap (λ u. length (cond u (r ∷ []) [])) f in
          absurd (omega (arith, h, z))

  untouched : (rs : List Row) → length (of_number j (flat_map standing rs)) ≡ 0 → flat_map standing rs ≡ flat_map standing (map (row_after limit m c) rs)
  untouched [] h = refl
  untouched (r ∷ rs) h =
      let n = of_append j (standing r) (flat_map standing rs) in
      let a : length (of_number j (standing r)) ≡ 0 = omega (arith, n, h) in
      let b : length (of_number j (flat_map standing rs)) ≡ 0 = omega (arith, n, h) in
      ap₂ ◌++◌ (stays r a) (untouched rs b)

  one_standing : (rs : List Row) → length (of_number j (flat_map standing rs)) ≤ 1 → on_row j (turn limit m c) (flat_map standing rs) ≡ flat_map standing (map (row_after limit m c) rs)
  one_standing [] h = refl
  one_standing (r ∷ rs) h = go (is_some r.machine || r.claimed) refl (eqb j r.terms.number) refl (one_standing rs rest)
    where
      f : Row → List Row
      f = turn limit m c

      js : List Row
      js = flat_map standing rs

      js' : List Row
      js' = flat_map standing (map (row_after limit m c) rs)

      parts : length (of_number j (standing r ++ js)) ≡ length (of_number j (standing r)) + length (of_number j js)
      parts = of_append j (standing r) js

      rest : length (of_number j js) ≤ 1
      rest = omega (arith, parts, h)

      go : (t : Bool) → (is_some r.machine || r.claimed) ≡ t → (u : Bool) → eqb j r.terms.number ≡ u → on_row j f js ≡ js' → on_row j f (standing r ++ js) ≡ f r ++ js'
      go false e u g ih =
          let n : standing r ≡ [] = ap (λ t. cond t (r ∷ []) []) e in
          ap (λ x. on_row j f (x ++ js)) n ∙ ih ∙ ap (λ x. x ++ js') (sym (gone r n))
      go true e true g ih =
          let n : standing r ≡ r ∷ [] = ap (λ t. cond t (r ∷ []) []) e in
          let z : length (of_number j (standing r)) ≡ 1 = ap (λ x. length (of_number j x)) n ∙ ap (λ u. length (cond u (r ∷ []) [])) g in
          ap (λ x. on_row j f (x ++ js)) n ∙ cond-true (eqb j r.terms.number) _ _ g ∙ ap (λ x. f r ++ x) (untouched rs (omega (arith, parts, z, h)))
      go true e false g ih =
          let n : standing r ≡ r ∷ [] = ap (λ t. cond t (r ∷ []) []) e in
          ap (λ x. on_row j f (x ++ js)) n ∙ cond-false (eqb j r.terms.number) _ _ g ∙ ap (λ x. r ∷ x) ih ∙ ap (λ x. x ++ js') (sym n ∙ ap standing (sym (other r g)))

rows_standing : (limit : ℕ) (m : Market) (c : Single) (rs : List Row) → Lone (flat_map standing rs) → rows_after limit m c (flat_map standing rs) ≡ flat_map standing (map (row_after limit m c) rs)
rows_standing limit m (listing h closes) rs l = ap (flat_map standing) (map_same rs)
rows_standing limit m (opening d) rs l = all_standing limit m (opening d) rs
rows_standing limit m (placing o) rs l = ap (flat_map standing) (map_same rs)
rows_standing limit m (quoting q n) rs l = all_standing limit m (quoting q n) rs
rows_standing limit m (cancelling j) rs l = one_standing limit m (cancelling j) j (not_meant_cancel limit m j) rs (l j)
rows_standing limit m (claiming j) rs l = one_standing limit m (claiming j) j (not_meant_claim limit m j) rs (l j)
rows_standing limit m (settling t f) rs l = one_standing limit m (settling t f) t.number (not_meant_settle limit m t f) rs (l t.number)
rows_standing limit m (asking j) rs l = ap (flat_map standing) (map_same rs)

placed_standing : (su : Setup) (s : State) (c : Single) → granted (step su s (single c)).1 ≡ true → placed su.limit s.market c ≡ flat_map standing (placed su.limit s.market c)
placed_standing su s (listing h closes) g = refl
placed_standing su s (opening d) g = refl
placed_standing su s (placing o) g = placed_stands su s o (place_passes su s o g) ∙ sym (append-nil _)
placed_standing su s (quoting q n) g = refl
placed_standing su s (cancelling j) g = refl
placed_standing su s (claiming j) g = refl
placed_standing su s (settling t f) g = refl
placed_standing su s (asking j) g = refl

-- One call, where rs are all rows of which some stand.
abbrev RowsSo : Setup → State → List Row → Call → State → Reply → Type 0
RowsSo su s rs c s' x = s'.rows ≡ flat_map standing (map (row_with su.limit s.market (entry c x)) rs ++ placed_by su.limit s.market c x)

rows_granted : (su : Setup) (s : State) (rs : List Row) (c : Single) → Lone (flat_map standing rs) → s.rows ≡ flat_map standing rs → granted (step su s (single c)).1 ≡ true
    → RowsSo su s rs (single c) (state_after su s c) (granted_reply su s c)
rows_granted su s rs c o h g =
    let l : ℕ = su.limit in
    let m : Market = s.market in
    ap₂ ◌++◌ (ap (rows_after l m c) h ∙ rows_standing l m c rs o) (placed_standing su s c g)
    ∙ sym (joined_append standing (map (row_after l m c) rs) (placed l m c))
    ∙ ap₂ (λ a b. flat_map standing (a ++ b))
    (map_path (row_after l m c) (row_with l m (entry (single c) (granted_reply su s c)))
    (λ r. ap (λ b. row r.terms (runs r.terms l r.machine (cond b (bears m c r.terms) [])) (cond b (claimed_after c r) r.claimed)) (sym (granted_is su s c))) rs)
    (ap (λ b. cond b (placed l m c) []) (sym (granted_is su s c)))

rows_refused : (su : Setup) (s : State) (rs : List Row) (c : Single) (f : Refusal) → s.rows ≡ flat_map standing rs → RowsSo su s rs (single c) s (refused f)
rows_refused su s rs c f h = h ∙ ap (flat_map standing) (map_same rs ∙ sym (append-nil _))

abbrev row_quoted : ℕ → List Quote → Row → Row
row_quoted limit qs r = row r.terms (runs r.terms limit r.machine (flat_map (own_quotes r.terms) qs)) r.claimed

rows_burst : (su : Setup) (qs : List Quote) (n : ℕ) (s : State) (rs : List Row) → s.rows ≡ flat_map standing rs
    → (bursts su s qs n).state.rows ≡ flat_map standing (map (row_quoted su.limit (take (bursts su s qs n).count qs)) rs)
rows_burst su [] n s rs h = h ∙ ap (flat_map standing) (map_same rs)
rows_burst su (q ∷ qs) n s rs h =
    let l : ℕ = su.limit in
    let ss : List Slip = slips_after l s.market (quoting q n) s.rows in
    let s' : State = state_after su s (quoting q n) in
    let x : Burst = bursts su s' qs (n - length ss) in
    let f : Row → Row = row_after l s.market (quoting q n) in
    let g : Row → Row = row_quoted l (take x.count qs) in
    let h' : s'.rows ≡ flat_map standing (map f rs) = append-nil _ ∙ ap (rows_after l s.market (quoting q n)) h ∙ all_standing l s.market (quoting q n) rs in
    let ih = rows_burst su qs (n - length ss) s' (map f rs) h' in
    elim (first_fault (quote_call_checks s q n)) as (λ y. (one_more y s ss x).state.rows ≡ flat_map standing (map (row_quoted l (take (one_more y s ss x).count (q ∷ qs))) rs)) [
      | None ↦ ih ∙ ap (flat_map standing) (map_twice g f rs
          ∙ map_path (λ r. g (f r)) (row_quoted l (q ∷ take x.count qs))
          (λ r. ap (λ y. row r.terms y r.claimed) (sym (runs_append r.terms l r.machine (own_quotes r.terms q) (flat_map (own_quotes r.terms) (take x.count qs))))) rs)
      | Some k ↦ h ∙ ap (flat_map standing) (map_same rs)
    ]

step_rows : (su : Setup) (s : State) (rs : List Row) (c : Call) → Lone (flat_map standing rs) → s.rows ≡ flat_map standing rs → RowsSo su s rs c (step su s c).0 (step su s c).1
step_rows su s rs (single c) o h = go (refusal su s c) refl
  where
    go : (y : Option Refusal) → refusal su s c ≡ y → RowsSo su s rs (single c) (decided su s c y).0 (decided su s c y).1
    go None e = rows_granted su s rs c o h (ap (λ y. granted (decided su s c y).1) e ∙ granted_is su s c)
    go (Some f) e = rows_refused su s rs c f h
step_rows su s rs (burst qs n) o h = rows_burst su qs n s rs h ∙ ap (flat_map standing) (sym (append-nil (map (row_quoted su.limit (take (bursts su s qs n).count qs)) rs)))

-- One entry more.
market_more : (m : Market) (xs : List Entry) (x : Entry) → market_from m (xs ++ x ∷ []) ≡ market_by x.call x.reply (market_from m xs)
market_more m [] x = refl
market_more m (y ∷ xs) x = market_more (market_by y.call y.reply m) xs x

row_more : (limit : ℕ) (m : Market) (xs : List Entry) (x : Entry) (r : Row) → row_from limit m (xs ++ x ∷ []) r ≡ row_with limit (market_from m xs) x (row_from limit m xs r)
row_more limit m [] x r = refl
row_more limit m (y ∷ xs) x r = row_more limit (market_by y.call y.reply m) xs x (row_with limit m y r)

placed_more : (limit : ℕ) (m : Market) (xs : List Entry) (x : Entry)
    → all_placed limit m (xs ++ x ∷ []) ≡ map (row_with limit (market_from m xs) x) (all_placed limit m xs) ++ placed_by limit (market_from m xs) x.call x.reply
placed_more limit m [] x = append-nil _ ∙ sym (map_same (placed_by limit m x.call x.reply))
placed_more limit m (y ∷ xs) x =
    let m' : Market = market_by y.call y.reply m in
    let f : Row → Row = row_with limit (market_from m' xs) x in
    let ps : List Row = placed_by limit m y.call y.reply in
    let qs : List Row = placed_by limit (market_from m' xs) x.call x.reply in
    ap₂ ◌++◌ (map_path _ _ (row_more limit m' xs x) ps ∙ sym (map_twice f (row_from limit m' xs) ps)) (placed_more limit m' xs x)
    ∙ sym (append_assoc (map f (map (row_from limit m' xs) ps)) (map f (all_placed limit m' xs)) qs)
    ∙ ap (λ z. z ++ qs) (sym (map-append f (map (row_from limit m' xs) ps) (all_placed limit m' xs)))

pub reading_more : (su : Setup) (xs : List Entry) (c : Call) → Lone (reading su xs).rows → (step su (reading su xs) c).0 ≡ reading su (xs ++ entry c (step su (reading su xs) c).1 ∷ [])
reading_more su xs c o =
    let s : State = reading su xs in
    let x : Entry = entry c (step su s c).1 in
    λ i. record {
      market = (market_tracked su s c ∙ sym (market_more unlisted xs x)) i;
      rows = (step_rows su s (all_placed su.limit unlisted xs) c o refl ∙ ap (flat_map standing) (sym (placed_more su.limit unlisted xs x))) i;
    }

reads : (su : Setup) (cs : List Call) (s : State) (xs : List Entry) → Lone s.rows → s ≡ reading su xs → state_by su s cs ≡ reading su (xs ++ trace su s cs)
reads su [] s xs o e = e ∙ ap (reading su) (sym (append-nil xs))
reads su (c ∷ cs) s xs o e =
    let x : Entry = entry c (step su s c).1 in
    reads su cs (step su s c).0 (xs ++ x ∷ []) (lone_step su s c o)
    (ap (λ y. (step su y c).0) e
    ∙ reading_more su xs c (subst (λ y. Lone y.rows) e o)
    ∙ ap (λ y. reading su (xs ++ entry c (step su y c).1 ∷ [])) (sym e))
    ∙ ap (reading su) (append_assoc xs (x ∷ []) (trace su (step su s c).0 cs))

lone_new : Lone new.rows
lone_new k = omega arith

pub read : (su : Setup) (cs : List Call) → state_by su new cs ≡ reading su (trace su new cs)
read su cs = reads su cs new [] lone_new refl

lone_by : (su : Setup) (cs : List Call) (s : State) → Lone s.rows → Lone (state_by su s cs).rows
lone_by su [] s o = o
lone_by su (c ∷ cs) s o = lone_by su cs (step su s c).0 (lone_step su s c o)

-- in a run no two orders bear one number
pub lone_read : (su : Setup) (cs : List Call) → Lone (reading su (trace su new cs)).rows
lone_read su cs = subst (λ s. Lone s.rows) (read su cs) (lone_by su cs new lone_new)

-- how many pass a test is the length of those that do
counted : {A : Type 0} (f : A → Bool) (xs : List A) → count_by f xs ≡ length (filter f xs)
counted f [] = refl
counted f (x ∷ xs) =
    sum_by-cons (λ y. cond (f y) 1 0) x xs
    ∙ ap (λ n. cond (f x) 1 0 + n) (counted f xs)
    ∙ (elim (f x) as (λ t. cond t 1 0 + length (filter f xs) ≡ length (cond t (x ∷ filter f xs) (filter f xs))) [ true ↦ omega arith | false ↦ omega arith ])

pub one_of_a_number : OneOfANumber
one_of_a_number su cs k =
    let rows : List Row = (state_by su new cs).rows in
    subst (λ n. n ≤ 1) (sym (counted (λ r. eqb k r.terms.number) rows)) (lone_by su cs new lone_new k)
