-- A call that is let through passes its checks, and what that gives an order that is placed.
use Rattle.std.proofs.Common.{◌≡◌, ℕ, Bool, true, false, cond, not, eqb, List, [], ◌∷◌, ◌++◌, is_some, Some, None, Option, sym, refl, ap, ◌∙◌, ap₂}
use Rattle.std.specs.Option.{option_map}
use Rattle.std.proofs.lemmas.Bool.{eq-eqb, false≢true, true≢false, cond-true}
use Rattle.conditions.specs.declared.event.Day.{Day}
use Rattle.rules.specs.Bearing.{own_first, begins}
use Rattle.rules.specs.Book.{Setup, Row, State, row_of, lapses_on, place_checks, refusal, decided, state_after, granted_reply, placed, standing, step}
use Rattle.rules.specs.Calls.{Single, placing, single, Refusal, by_book}
use Rattle.rules.specs.Checks.{Check, first_fault}
use Rattle.rules.specs.Machine.{Order, number_of, Machine, runs, writes, new_machine}
use Rattle.rules.specs.Market.{Market, day_of}
use Rattle.rules.specs.Trace.{granted}
use Rattle.rules.proofs.Numbered.{row, of_number, kept_append}
use Rattle.rules.proofs.Tracks.{Stands}

abbrev pub Passes : {F : Type 0} → List (Check F) → Type 0
Passes [] = Unit {0}
Passes (c ∷ cs) = (c.fails ≡ false) × Passes cs

passes_one : {F : Type 0} (b : Bool) (f : F) (x : Option F) → is_some (cond b (Some f) x) ≡ false → (b ≡ false) × (is_some x ≡ false)
passes_one true f x h = absurd (true≢false h)
passes_one false f x h = (refl, h)

pub passes : {F : Type 0} (cs : List (Check F)) → is_some (first_fault cs) ≡ false → Passes cs
passes [] h = tt
passes (c ∷ cs) h = let p = passes_one c.fails c.fault (first_fault cs) h in (p.0, passes cs p.1)

no_refusal : (su : Setup) (s : State) (c : Single) (x : Option Refusal) → granted (decided su s c x).1 ≡ true → is_some x ≡ false
no_refusal su s c None g = refl
no_refusal su s c (Some f) g = absurd (false≢true g)

some_mapped : {A B : Type 0} (f : A → B) (x : Option A) → is_some (option_map f x) ≡ is_some x
some_mapped f None = refl
some_mapped f (Some a) = refl

pub place_passes : (su : Setup) (s : State) (o : Order) → granted (step su s (single (placing o))).1 ≡ true → Passes (place_checks su s o)
place_passes su s o g = passes (place_checks su s o) (sym (some_mapped by_book (first_fault (place_checks su s o))) ∙ no_refusal su s (placing o) (refusal su s (placing o)) g)

let_through : (su : Setup) (s : State) (c : Single) (x : Option Refusal) → granted (decided su s c x).1 ≡ true → decided su s c x ≡ (state_after su s c, granted_reply su s c)
let_through su s c None g = refl
let_through su s c (Some f) g = absurd (false≢true g)

pub granted_state : (su : Setup) (s : State) (c : Single) → granted (step su s (single c)).1 ≡ true → (step su s (single c)).0 ≡ state_after su s c
granted_state su s c g = ap (λ x. x.0) (let_through su s c (refusal su s c) g)

-- no row bears a number that is not in the book
pub none_of : (k : ℕ) (rs : List Row) → is_some (row_of k rs) ≡ false → of_number k rs ≡ []
none_of k [] h = refl
none_of k (r ∷ rs) h = go (eqb k r.terms.number) h (none_of k rs)
  where
    go : (t : Bool) → is_some (cond t (Some r) (row_of k rs)) ≡ false → (is_some (row_of k rs) ≡ false → of_number k rs ≡ []) → cond t (r ∷ of_number k rs) (of_number k rs) ≡ []
    go true e ih = absurd (true≢false e)
    go false e ih = ih e

stands_unless : (o : Order) (x : Bool) (s : Machine) → x ≡ false → row o.terms (cond x None (Some s)) false ∷ [] ≡ standing (row o.terms (cond x None (Some s)) false)
stands_unless o true s e = absurd (true≢false e)
stands_unless o false s e = refl

pub stands_first : (o : Order) (limit : ℕ) (m : Market) (d : Option Day) → not (is_some d) ≡ false → lapses_on o.meaning d ≡ false
    → let r : Row = row o.terms (runs o.terms limit (new_machine o) (own_first m o d)) false in r ∷ [] ≡ standing r
stands_first o limit m None e f = absurd (true≢false e)
stands_first o limit m (Some d) e f = stands_unless o _ _ f

pub placed_stands : (su : Setup) (s : State) (o : Order) → Passes (place_checks su s o) → placed su.limit s.market (placing o) ≡ standing (row o.terms (runs o.terms su.limit (new_machine o) (begins s.market o)) false)
placed_stands su s o p = stands_first o su.limit s.market (day_of (s.market o.terms.watched)) p.1.1.1.1.1.1.1.0 p.1.1.1.1.1.1.1.1.1.1.1.1.0

-- an order that is granted stands as its machine starts
pub granted_stands : (su : Setup) (s : State) (o : Order) → granted (step su s (single (placing o))).1 ≡ true
    → Stands o (step su s (single (placing o))).0 (runs o.terms su.limit (new_machine o) (begins s.market o)) false
granted_stands su s o g =
    let k : ℕ = number_of o in
    let c : Single = placing o in
    let p = place_passes su s o g in
    ap (λ x. of_number k x.rows) (granted_state su s c g)
    ∙ kept_append (λ r. eqb k r.terms.number) s.rows (placed su.limit s.market c)
    ∙ ap₂ ◌++◌ (none_of k s.rows p.1.0) (cond-true (eqb k k) _ _ (eq-eqb k k refl))
    ∙ placed_stands su s o p

-- nothing is written at placing
pub quiet_first : (o : Order) (limit : ℕ) (m : Market) (d : Option Day) → writes o.terms limit (new_machine o) (own_first m o d) ≡ []
quiet_first o limit m None = refl
quiet_first o limit m (Some d) = refl
