-- A market of which one share was lent.
use Rattle.std.proofs.Common.{◌≡◌, ℕ, ◌<◌, ◌≤◌, Bool, true, false, cond, eqb, ltb, List, map, length, get_or, set, replicate, None, Ok, Err, Option, Result, sym, subst, refl, ap, ◌∙◌, inl, inr, get_or-set_other, get_or-set_same, le-ltb, eq-eqb, eqb-true, arith}
use mathlib.Core.Path.{fun_ext}
use borrow.Author.Tests.{eqb-false}
use lib.ListN.{length-map, length-replicate, get_or-replicate}
use Rattle.std.proofs.lemmas.List.{map-set, get_or-map, get_or_past}
use Rattle.std.proofs.lemmas.Bool.{cases_lt}
use Rattle.rules.specs.Market.{Market, put, unlisted}
use Rattle.rules.specs.Market.{Share as Known}
use Rattle.rules.specs.declared.fault.MarketFault.{MarketFault}
use Rattle.market.specs.Asking.{when_granted}
use Rattle.market.specs.View.{share_view, market_of}
use Rattle.market.specs.declared.share.Share.{Share}

-- the number is a share's
within : {X : Type 0} (i : ℕ) (x y : X) → i ≤ 63 → y ≡ cond (ltb 63 i) x y
within i x y n = ap (λ b. cond b x y) (sym (le-ltb 63 i n))

at_view : (ss : List Share) (i : ℕ) (d : Share) → i ≤ 63 → i < length ss → share_view (get_or ss i d) ≡ market_of ss i
at_view ss i d n h = sym (get_or-map share_view ss i d None h) ∙ within i None (get_or (map share_view ss) i None) n

put_at : (ss : List Share) (i : ℕ) (t : Share) → i ≤ 63 → i < length ss → (j : ℕ) (b : Bool) → eqb j i ≡ b → market_of (set ss i t) j ≡ cond b (share_view t) (market_of ss j)
put_at ss i t n h j true e =
    let k : i < length (map share_view ss) = simp length-map h in
    ap (λ xs. cond (ltb 63 j) None (get_or xs j None)) (map-set share_view ss i t)
    ∙ ap (λ k. cond (ltb 63 k) None (get_or (set (map share_view ss) i (share_view t)) k None)) (eqb-true j i e)
    ∙ ap (cond (ltb 63 i) None) (get_or-set_same (map share_view ss) i (share_view t) None k)
    ∙ sym (within i None (share_view t) n)
put_at ss i t n h j false e =
    ap (λ xs. cond (ltb 63 j) None (get_or xs j None)) (map-set share_view ss i t)
    ∙ ap (cond (ltb 63 j) None) (get_or-set_other (map share_view ss) i j (share_view t) None (λ q. eqb-false j i e q))

-- the share came back as t
put_view : (ss : List Share) (i : ℕ) (t : Share) → i ≤ 63 → i < length ss → market_of (set ss i t) ≡ put i (share_view t) (market_of ss)
put_view ss i t n h = fun_ext (λ j. put_at ss i t n h j (eqb j i) refl)

pub back_view : (ss : List Share) (i h : ℕ) (t : Share) → (i ≡ h) × (h ≤ 63) → i < length ss → share_view t ≡ market_of (set ss i t) h
back_view ss i h t (p, n) l = subst (λ j. share_view t ≡ market_of (set ss i t) j) p (sym (put_at ss i t (omega arith) l i true (eq-eqb i i refl)))

-- a share put back as it was
put_same : (m : Market) (i : ℕ) (s : Option Known) → m i ≡ s → put i s m ≡ m
put_same m i s e = fun_ext (λ j. go j (eqb j i) refl)
  where
    go : (j : ℕ) (b : Bool) → eqb j i ≡ b → cond b s (m j) ≡ m j
    go j true q = sym e ∙ ap m (sym (eqb-true j i q))
    go j false q = refl

lent : {X : Type 0} (r : Result X MarketFault) (f : Option Known → Option Known) (ss : List Share) (i : ℕ) (d t : Share) → i ≤ 63 → i < length ss
    → share_view t ≡ when_granted r (f (share_view (get_or ss i d))) (share_view (get_or ss i d))
    → market_of (set ss i t) ≡ when_granted r (put i (f (market_of ss i)) (market_of ss)) (market_of ss)
lent (Ok x) f ss i d t n l e = put_view ss i t n l ∙ ap (λ s. put i s (market_of ss)) (e ∙ ap f (at_view ss i d n l))
lent (Err x) f ss i d t n l e = put_view ss i t n l ∙ put_same (market_of ss) i (share_view t) (sym (at_view ss i d n l) ∙ sym e)

-- the share of a number was lent from its place, and changed where the call was granted
pub lent_view : {X : Type 0} (r : Result X MarketFault) (f : Option Known → Option Known) (ss : List Share) (i h : ℕ) (d t : Share) → (i ≡ h) × (h ≤ 63) → i < length ss
    → share_view t ≡ when_granted r (f (share_view (get_or ss i d))) (share_view (get_or ss i d))
    → market_of (set ss i t) ≡ when_granted r (put h (f (market_of ss h)) (market_of ss)) (market_of ss)
lent_view r f ss i h d t (p, n) l e = subst (λ j. market_of (set ss i t) ≡ when_granted r (put j (f (market_of ss j)) (market_of ss)) (market_of ss)) p (lent r f ss i d t (omega arith) l e)

none_by : (b : Bool) → ◌≡◌ {A = Option Known} (cond b None None) None
none_by true = refl
none_by false = refl

-- no share is listed
pub none_listed : (n : ℕ) (s : Share) → share_view s ≡ None → market_of (replicate n s) ≡ unlisted
none_listed n s e = fun_ext (λ j. ap (cond (ltb 63 j) None) (at j) ∙ none_by (ltb 63 j))
  where
    at : (j : ℕ) → get_or (map share_view (replicate n s)) j None ≡ None
    at j = elim (cases_lt j n) [
      | inl l ↦ (let k : j < length (replicate n s) = simp length-replicate l in get_or-map share_view (replicate n s) j s None k ∙ ap share_view (get_or-replicate n j s s l) ∙ e)
      | inr l ↦ get_or_past (map share_view (replicate n s)) j None (simp (length-map, length-replicate) l)
    ]
