-- The sums that a day brings are those of the newest closes.
use Rattle.std.proofs.Common.{◌≡◌, ℕ, ◌+◌, ◌-◌, ◌*◌, ◌≤◌, Bool, true, false, cond, T, ltb, List, [], ◌∷◌, ◌++◌, length, drop, sum_by, sym, refl, ap, ◌∙◌, subst, inl, inr, append_assoc, append-nil, arith, length-append, length-drop, ltb-false, le-ltb}
use mathlib.Core.Path.{PathP}
use mathlib.Core.HLevel.{is_prop→PathP}
use Rattle.std.proofs.lemmas.List.{drop-drop, drop-append-le}
use Rattle.std.proofs.lemmas.List.Sums.{sum_by-cons}
use Rattle.std.proofs.lemmas.Bool.{cases_lt, cond-false}
use Rattle.values.specs.Bounds.{least_price, greatest_price}
use Rattle.values.specs.Days.{day_count}
use Rattle.values.specs.declared.days.AveragingDays.{AveragingDays}
use Rattle.values.specs.declared.days.AveragingDays.TheVariants as days
use Rattle.values.specs.declared.price.Price.{Price}
use Rattle.conditions.specs.Closes.{newest_sum, sum_before}
use Rattle.conditions.specs.Sums.{sums}
use Rattle.conditions.specs.declared.sums.Sums.{Sums}
use Rattle.conditions.proofs.Summing.{sums_fit}
use Rattle.rules.specs.DaySums.{sum_when, sum_of, sums_of}
use Rattle.rules.specs.Bounds.{closes_kept}
use Rattle.rules.specs.Law.{DaySums, NoSumLost}
use Rattle.rules.specs.Market.{closes_with}

-- what closes come to lies between the least and the greatest that so many can
between : (ps : List Price) → (length ps * least_price ≤ sum_by (λ p. p.value) ps) × (sum_by (λ p. p.value) ps ≤ length ps * greatest_price)
between [] = (omega arith, omega arith)
between (p ∷ ps) =
    let h = between ps in
    let e = sum_by-cons (λ (q : Price). q.value) p ps in
    (omega (arith, e, h.0, h.1, p.low, p.high), omega (arith, e, h.0, h.1, p.low, p.high))

fits : (n : ℕ) (closes : List Price) → T (sums n (newest_sum n closes))
fits n closes = go (ltb (length closes) n) refl
  where
    ps : List Price
    ps = drop (length closes - n) closes

    go : (b : Bool) → ltb (length closes) n ≡ b → T (sums n (cond b 0 (sum_by (λ p. p.value) ps)))
    go true e = tt
    go false e =
        let h = between ps in
        let l : length ps ≡ n = length-drop (length closes - n) closes ∙ omega (arith, ltb-false (length closes) n e) in
        sums_fit n (sum_by (λ p. p.value) ps) (subst (λ k. k * least_price ≤ sum_by (λ p. p.value) ps) l h.0) (subst (λ k. sum_by (λ p. p.value) ps ≤ k * greatest_price) l h.1)

is_when : (n s : ℕ) (b : Bool) (e : sums n s ≡ b) → T b → (sum_when n s b e).value ≡ s
is_when n s true e t = refl
is_when n s false e t = absurd t

is_sum : (n : ℕ) (closes : List Price) → (sum_of n closes).value ≡ newest_sum n closes
is_sum n closes = is_when n (newest_sum n closes) (sums n (newest_sum n closes)) refl (fits n closes)

pub day_sums : DaySums
day_sums closes days.Five = is_sum 4 closes
day_sums closes days.Ten = is_sum 9 closes
day_sums closes days.Twenty = is_sum 19 closes
day_sums closes days.Thirty = is_sum 29 closes
day_sums closes days.Sixty = is_sum 59 closes

-- Older closes may be dropped, where enough are left.
dropped : (a n : ℕ) (ps : List Price) → a + n ≤ length ps → newest_sum n (drop a ps) ≡ newest_sum n ps
dropped a n ps h =
    let l : length (drop a ps) ≡ length ps - a = length-drop a ps in
    let x : ltb (length (drop a ps)) n ≡ false = le-ltb (length (drop a ps)) n (omega (arith, l, h)) in
    let y : ltb (length ps) n ≡ false = le-ltb (length ps) n (omega (arith, h)) in
    let e : a + (length (drop a ps) - n) ≡ length ps - n = omega (arith, l, h) in
    cond-false (ltb (length (drop a ps)) n) _ _ x
    ∙ ap (sum_by (λ p. p.value)) (drop-drop (length (drop a ps) - n) a ps ∙ ap (λ k. drop k ps) e)
    ∙ sym (cond-false (ltb (length ps) n) _ _ y)

-- all but the newest that are kept
kept_suffice : (ps days : List Price) (n : ℕ) → n ≤ closes_kept → newest_sum n (drop (length ps - closes_kept) ps ++ days) ≡ newest_sum n (ps ++ days)
kept_suffice ps days n h =
    let a : ℕ = length ps - closes_kept in
    ap (newest_sum n) (sym (drop-append-le a ps days (omega arith))) ∙ elim (cases_lt (length ps) closes_kept) [
      | inl l ↦ (let z : a ≡ 0 = omega (arith, l) in ap (λ k. newest_sum n (drop k (ps ++ days))) z)
      | inr l ↦ dropped a n (ps ++ days) (omega (arith, l, h, length-append ps days))
    ]

pub no_sum_lost : NoSumLost
no_sum_lost closes [] n h = ap (newest_sum n) (sym (append-nil closes))
no_sum_lost closes (c ∷ cs) n h =
    no_sum_lost (closes_with closes c) cs n h
    ∙ kept_suffice (closes ++ c ∷ []) cs n h
    ∙ ap (newest_sum n) (append_assoc closes (c ∷ []) cs)

-- Sums with the same five numbers are equal: their facts have one proof.
one_proof : (b : Bool) (x y : T b) → x ≡ y
one_proof true x y = refl
one_proof false x y = absurd x

module _ (a b : Sums) (same : (n : AveragingDays) → sum_before n a ≡ sum_before n b) where
  fact : (n : ℕ) {s u : ℕ} (p : s ≡ u) (x : T (sums n s)) (y : T (sums n u)) → PathP (λ i. T (sums n (p i))) x y
  fact n p x y = is_prop→PathP (λ i. T (sums n (p i))) (λ i. one_proof (sums n (p i))) x y

  pub sums_path : a ≡ b
  sums_path =
      λ i. record {
        four = same days.Five i;
        nine = same days.Ten i;
        nineteen = same days.Twenty i;
        twentynine = same days.Thirty i;
        fiftynine = same days.Sixty i;
        fours = fact 4 (same days.Five) a.fours b.fours i;
        nines = fact 9 (same days.Ten) a.nines b.nines i;
        nineteens = fact 19 (same days.Twenty) a.nineteens b.nineteens i;
        twentynines = fact 29 (same days.Thirty) a.twentynines b.twentynines i;
        fiftynines = fact 59 (same days.Sixty) a.fiftynines b.fiftynines i;
      }

-- so what code computes by its newest sums is what is defined
pub sums_defined : (s : Sums) (closes : List Price) → ((n : AveragingDays) → sum_before n s ≡ newest_sum (day_count n - 1) closes) → s ≡ sums_of closes
sums_defined s closes h = sums_path s (sums_of closes) (λ n. h n ∙ sym (day_sums closes n))
