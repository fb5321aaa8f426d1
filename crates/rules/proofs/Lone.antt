-- No two orders in the book bear one number.
use Rattle.std.proofs.Common.{◌≡◌, ℕ, ◌+◌, ◌-◌, ◌≤◌, Bool, true, false, cond, ◌||◌, eqb, List, [], ◌∷◌, ◌++◌, length, is_some, Some, None, Option, refl, ap, ◌∙◌, arith, length-append}
use Rattle.std.specs.List.{flat_map}
use Rattle.std.proofs.lemmas.Bool.{eqb-true}
use Rattle.rules.specs.Book.{Setup, Row, State, row_after, on_row, rows_after, slips_after, placed, state_after, quote_call_checks, refusal, decided, Burst, one_more, bursts, step}
use Rattle.rules.specs.Calls.{Single, listing, opening, placing, quoting, cancelling, claiming, settling, asking, Call, single, burst, Refusal}
use Rattle.rules.specs.Checks.{first_fault}
use Rattle.rules.specs.Machine.{number_of}
use Rattle.rules.specs.Market.{Market}
use Rattle.rules.specs.Trace.{granted}
use Rattle.rules.specs.declared.quote.Quote.{Quote}
use Rattle.rules.specs.declared.slip.Slip.{Slip}
use Rattle.rules.proofs.Granting.{place_passes, none_of}
use Rattle.rules.proofs.Numbered.{of_number, kept_append, turn, all_numbered}
use Rattle.rules.proofs.Tracks.{granted_is}

-- at most one row bears the number
abbrev pub Lone : List Row → Type 0
Lone rs = (k : ℕ) → length (of_number k rs) ≤ 1

-- a turn leaves at most the row, and of a number no more than there were
turn_one : (limit : ℕ) (m : Market) (c : Single) (r : Row) → length (turn limit m c r) ≤ 1
turn_one limit m c r =
    elim (is_some (row_after limit m c r).machine || (row_after limit m c r).claimed) as (λ t. length (cond t (row_after limit m c r ∷ []) []) ≤ 1) [ true ↦ omega arith | false ↦ omega arith ]

turn_all : (limit : ℕ) (m : Market) (c : Single) (rs : List Row) → length (flat_map (turn limit m c) rs) ≤ length rs
turn_all limit m c [] = omega arith
turn_all limit m c (r ∷ rs) = omega (arith, length-append (turn limit m c r) (flat_map (turn limit m c) rs), turn_one limit m c r, turn_all limit m c rs)

turn_numbered : (k limit : ℕ) (m : Market) (c : Single) (r : Row) → length (of_number k (turn limit m c r)) ≤ length (of_number k (r ∷ []))
turn_numbered k limit m c r = go (is_some (row_after limit m c r).machine || (row_after limit m c r).claimed) (eqb k r.terms.number)
  where
    x : Row
    x = row_after limit m c r

    go : (s t : Bool) → length (of_number k (cond s (x ∷ []) [])) ≤ length (of_number k (r ∷ []))
    go true t = elim (eqb k r.terms.number) as (λ b. length (cond b (x ∷ []) []) ≤ length (cond b (r ∷ []) [])) [ true ↦ omega arith | false ↦ omega arith ]
    go false t = omega arith

pub of_append : (k : ℕ) (a b : List Row) → length (of_number k (a ++ b)) ≡ length (of_number k a) + length (of_number k b)
of_append k a b = ap length (kept_append (λ r. eqb k r.terms.number) a b) ∙ length-append (of_number k a) (of_number k b)

on_fewer : (k j limit : ℕ) (m : Market) (c : Single) (rs : List Row) → length (of_number k (on_row j (turn limit m c) rs)) ≤ length (of_number k rs)
on_fewer k j limit m c [] = omega arith
on_fewer k j limit m c (r ∷ rs) = go (eqb j r.terms.number) (on_fewer k j limit m c rs)
  where
    go : (t : Bool) → length (of_number k (on_row j (turn limit m c) rs)) ≤ length (of_number k rs)
        → length (of_number k (cond t (turn limit m c r ++ rs) (r ∷ on_row j (turn limit m c) rs))) ≤ length (of_number k (r ∷ rs))
    go true ih = omega (arith, of_append k (turn limit m c r) rs, of_append k (r ∷ []) rs, turn_numbered k limit m c r)
    go false ih = omega (arith, of_append k (r ∷ []) (on_row j (turn limit m c) rs), of_append k (r ∷ []) rs, ih)

all_fewer : (k limit : ℕ) (m : Market) (c : Single) (rs : List Row) → length (of_number k (flat_map (turn limit m c) rs)) ≤ length (of_number k rs)
all_fewer k limit m c rs = omega (arith, ap length (all_numbered k limit m c rs), turn_all limit m c (of_number k rs))

rows_fewer : (k limit : ℕ) (m : Market) (c : Single) (rs : List Row) → length (of_number k (rows_after limit m c rs)) ≤ length (of_number k rs)
rows_fewer k limit m (listing h closes) rs = omega arith
rows_fewer k limit m (opening d) rs = all_fewer k limit m (opening d) rs
rows_fewer k limit m (placing o) rs = omega arith
rows_fewer k limit m (quoting q n) rs = all_fewer k limit m (quoting q n) rs
rows_fewer k limit m (cancelling j) rs = on_fewer k j limit m (cancelling j) rs
rows_fewer k limit m (claiming j) rs = on_fewer k j limit m (claiming j) rs
rows_fewer k limit m (settling t f) rs = on_fewer k t.number limit m (settling t f) rs
rows_fewer k limit m (asking j) rs = omega arith

-- a call that places no order
lone_turned : (su : Setup) (s : State) (c : Single) → placed su.limit s.market c ≡ [] → Lone s.rows → Lone (state_after su s c).rows
lone_turned su s c e l k =
    let h = of_append k (rows_after su.limit s.market c s.rows) (placed su.limit s.market c) in
    let z : length (of_number k (placed su.limit s.market c)) ≡ 0 = ap (λ x. length (of_number k x)) e in
    omega (arith, h, z, rows_fewer k su.limit s.market c s.rows, l k)

pub lone_granted : (su : Setup) (s : State) (c : Single) → granted (step su s (single c)).1 ≡ true → Lone s.rows → Lone (state_after su s c).rows
lone_granted su s (listing h closes) g l k = lone_turned su s (listing h closes) refl l k
lone_granted su s (opening d) g l k = lone_turned su s (opening d) refl l k
lone_granted su s (placing o) g l k = go (eqb k (number_of o)) refl
  where
    ps : List Row
    ps = placed su.limit s.market (placing o)

    more : length (of_number k (s.rows ++ ps)) ≡ length (of_number k s.rows) + length (of_number k ps)
    more = of_append k s.rows ps

    go : (t : Bool) → eqb k (number_of o) ≡ t → length (of_number k (s.rows ++ ps)) ≤ 1
    go true e =
        let n : length (of_number k s.rows) ≡ 0 = ap (λ i. length (of_number i s.rows)) (eqb-true k (number_of o) e) ∙ ap length (none_of (number_of o) s.rows (place_passes su s o g).1.0) in
        let z : length (of_number k ps) ≡ 1 = ap (λ t. length (cond t ps [])) e in
        omega (arith, more, n, z)
    go false e =
        let z : length (of_number k ps) ≡ 0 = ap (λ t. length (cond t ps [])) e in
        omega (arith, more, z, l k)
lone_granted su s (quoting q n) g l k = lone_turned su s (quoting q n) refl l k
lone_granted su s (cancelling j) g l k = lone_turned su s (cancelling j) refl l k
lone_granted su s (claiming j) g l k = lone_turned su s (claiming j) refl l k
lone_granted su s (settling t f) g l k = lone_turned su s (settling t f) refl l k
lone_granted su s (asking j) g l k = lone_turned su s (asking j) refl l k

lone_burst : (su : Setup) (qs : List Quote) (n : ℕ) (s : State) → Lone s.rows → Lone (bursts su s qs n).state.rows
lone_burst su [] n s l = l
lone_burst su (q ∷ qs) n s l =
    let ss : List Slip = slips_after su.limit s.market (quoting q n) s.rows in
    let s' : State = state_after su s (quoting q n) in
    let x : Burst = bursts su s' qs (n - length ss) in
    let ih = lone_burst su qs (n - length ss) s' (lone_turned su s (quoting q n) refl l) in
    elim (first_fault (quote_call_checks s q n)) as (λ y. Lone (one_more y s ss x).state.rows) [ None ↦ ih | Some f ↦ l ]

pub lone_step : (su : Setup) (s : State) (c : Call) → Lone s.rows → Lone (step su s c).0.rows
lone_step su s (single c) l = go (refusal su s c) refl
  where
    go : (y : Option Refusal) → refusal su s c ≡ y → Lone (decided su s c y).0.rows
    go None e = lone_granted su s c (ap (λ y. granted (decided su s c y).1) e ∙ granted_is su s c) l
    go (Some f) e = l
lone_step su s (burst qs n) l = lone_burst su qs n s l
