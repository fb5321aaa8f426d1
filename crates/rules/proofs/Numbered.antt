-- The rows and slips of one number: a call acts on them as on a book that holds nothing else.
use Rattle.std.proofs.Common.{◌≡◌, ℕ, Bool, true, false, cond, not, ◌&&◌, ◌||◌, eqb, List, [], ◌∷◌, ◌++◌, is_some, Some, None, filter, Option, sym, refl, ap, ◌∙◌, subst, ap₂, append_assoc, append-nil}
use Rattle.std.specs.List.{flat_map}
use Rattle.std.proofs.lemmas.Bool.{eqb-true, eqb-false, eq-eqb, ne_eqb, cond-true, cond-false}
use Rattle.values.specs.declared.price.Price.{Price}
use Rattle.conditions.specs.Meaning.{Meaning}
use Rattle.conditions.specs.declared.event.Answer.{Answer}
use Rattle.conditions.specs.declared.event.Answer.TheVariants as answer
use Rattle.conditions.specs.declared.event.Day.{Day}
use Rattle.conditions.specs.declared.event.Event.TheVariants as event
use Rattle.conditions.specs.declared.event.Tick.{Tick}
use Rattle.rules.specs.Bearing.{bears, own_days}
use Rattle.rules.specs.Book.{Setup, Row, State, row_of, holds, waits, claimable, state_of, state_in, claimed_after, row_after, standing, on_row, rows_after, slips_after, placed, state_after, granted_reply}
use Rattle.rules.specs.Calls.{Ticket, Single, listing, opening, placing, quoting, cancelling, claiming, settling, asking, single}
use Rattle.rules.specs.Machine.{Order, number_of, Notes, Machine, answered, tick_of, quoted, machine_step, writes, runs}
use Rattle.rules.specs.Market.{Market, day_of, opened}
use Rattle.rules.specs.OwnEvents.{Own, own_placing, own_watched_day, own_traded_day, own_quote, own_settlement, own_cancel}
use Rattle.rules.specs.Trace.{places, slips_in, slips_of, claimed_by}
use Rattle.rules.specs.declared.opening.Opening.{Opening}
use Rattle.rules.specs.declared.order.Terms.{Terms}
use Rattle.rules.specs.declared.slip.Slip.{Slip}
use Rattle.rules.proofs.Striking.{writes_none}

-- own events one after the other
pub writes_append : (t : Terms) (limit : ℕ) (s : Option Machine) (a b : List Own) → writes t limit s (a ++ b) ≡ writes t limit s a ++ writes t limit (runs t limit s a) b
writes_append t limit s [] b = refl
writes_append t limit s (e ∷ a) b =
    ap (λ ss. (machine_step t limit s e).slips ++ ss) (writes_append t limit (machine_step t limit s e).machine a b)
    ∙ sym (append_assoc (machine_step t limit s e).slips _ _)

pub runs_append : (t : Terms) (limit : ℕ) (s : Option Machine) (a b : List Own) → runs t limit s (a ++ b) ≡ runs t limit (runs t limit s a) b
runs_append t limit s [] b = refl
runs_append t limit s (e ∷ a) b = runs_append t limit (machine_step t limit s e).machine a b

runs_none : (t : Terms) (limit : ℕ) (es : List Own) → runs t limit None es ≡ None
runs_none t limit [] = refl
runs_none t limit (e ∷ es) = runs_none t limit es

nil_cond : {A : Type 0} (b : Bool) → Path (List A) [] (cond b [] [])
nil_cond true = refl
nil_cond false = refl

-- what passes a test, of two lists and of lists in a row
pub kept_append : {A : Type 0} (f : A → Bool) (a b : List A) → filter f (a ++ b) ≡ filter f a ++ filter f b
kept_append f [] b = refl
kept_append f (x ∷ a) b =
    elim (f x) as (λ t. cond t (x ∷ filter f (a ++ b)) (filter f (a ++ b)) ≡ cond t (x ∷ filter f a) (filter f a) ++ filter f b)
    [ true ↦ ap (λ y. x ∷ y) (kept_append f a b) | false ↦ kept_append f a b ]

-- where each element gives only what passes, or only what does not, one may choose among the elements first
kept_joined : {A B : Type 0} (f : B → Bool) (g : A → Bool) (give : A → List B) → ((x : A) → filter f (give x) ≡ cond (g x) (give x) [])
    → (xs : List A) → filter f (flat_map give xs) ≡ flat_map give (filter g xs)
kept_joined f g give h [] = refl
kept_joined f g give h (x ∷ xs) =
    kept_append f (give x) (flat_map give xs)
    ∙ ap₂ ◌++◌ (h x) (kept_joined f g give h xs)
    ∙ (elim (g x) as (λ t. cond t (give x) [] ++ flat_map give (filter g xs) ≡ flat_map give (cond t (x ∷ filter g xs) (filter g xs))) [ true ↦ refl | false ↦ refl ])

-- the rows that bear a number
abbrev pub of_number : ℕ → List Row → List Row
of_number k rows = filter (λ r. eqb k r.terms.number) rows

-- every slip bears the machine's number
abbrev Bears : ℕ → Terms → List Slip → Type 0
Bears k t ss = slips_of k ss ≡ cond (eqb k t.number) ss []

bears_answered : (k : ℕ) (t : Terms) (limit : ℕ) (x : Answer) (m : Meaning) (n : Notes) (j : Tick) → Bears k t (answered t limit x m n j).slips
bears_answered k t limit answer.Wait m n j = nil_cond (eqb k t.number)
bears_answered k t limit (answer.Fires f) m n j = refl
bears_answered k t limit answer.Lapses m n j = nil_cond (eqb k t.number)

bears_quoted : (k : ℕ) (t : Terms) (limit : ℕ) (w : Bool) (x : Option Tick) (m : Meaning) (n : Notes) → Bears k t (quoted t limit w x m n).slips
bears_quoted k t limit true x m n = nil_cond (eqb k t.number)
bears_quoted k t limit false None m n = nil_cond (eqb k t.number)
bears_quoted k t limit false (Some j) m n = bears_answered k t limit (m [] (event.Tick j)) _ n j

bears_step : (k : ℕ) (t : Terms) (limit : ℕ) (s : Option Machine) (e : Own) → Bears k t (machine_step t limit s e).slips
bears_step k t limit None e = nil_cond (eqb k t.number)
bears_step k t limit (Some s) (own_placing d x) = nil_cond (eqb k t.number)
bears_step k t limit (Some s) (own_watched_day d) = nil_cond (eqb k t.number)
bears_step k t limit (Some s) (own_traded_day d) = nil_cond (eqb k t.number)
bears_step k t limit (Some s) (own_quote q) = bears_quoted k t limit s.waits (tick_of t q) s.meaning _
bears_step k t limit (Some s) (own_settlement f) = nil_cond (eqb k t.number)
bears_step k t limit (Some s) own_cancel = nil_cond (eqb k t.number)

bears_all : (k : ℕ) (t : Terms) (limit : ℕ) (s : Option Machine) (es : List Own) → Bears k t (writes t limit s es)
bears_all k t limit s [] = nil_cond (eqb k t.number)
bears_all k t limit s (e ∷ es) =
    let a : List Slip = (machine_step t limit s e).slips in
    let b : List Slip = writes t limit (machine_step t limit s e).machine es in
    kept_append (λ x. eqb k x.number) a b
    ∙ ap₂ ◌++◌ (bears_step k t limit s e) (bears_all k t limit (machine_step t limit s e).machine es)
    ∙ (elim (eqb k t.number) as (λ x. cond x a [] ++ cond x b [] ≡ cond x (a ++ b) []) [ true ↦ refl | false ↦ refl ])

pub slips_numbered : (k limit : ℕ) (m : Market) (c : Single) (rs : List Row) → slips_of k (slips_after limit m c rs) ≡ slips_after limit m c (of_number k rs)
slips_numbered k limit m c rs =
    kept_joined (λ s. eqb k s.number) (λ r. eqb k r.terms.number) (λ r. writes r.terms limit r.machine (bears m c r.terms))
    (λ r. bears_all k r.terms limit r.machine (bears m c r.terms)) rs

standing_numbered : (k : ℕ) (r : Row) → of_number k (standing r) ≡ cond (eqb k r.terms.number) (standing r) []
standing_numbered k r =
    elim (is_some r.machine || r.claimed) as (λ t. of_number k (cond t (r ∷ []) []) ≡ cond (eqb k r.terms.number) (cond t (r ∷ []) []) [])
    [ true ↦ refl | false ↦ nil_cond (eqb k r.terms.number) ]

-- a turn of each row
abbrev pub turn : ℕ → Market → Single → Row → List Row
turn limit m c r = standing (row_after limit m c r)

pub all_numbered : (k limit : ℕ) (m : Market) (c : Single) (rs : List Row) → of_number k (flat_map (turn limit m c) rs) ≡ flat_map (turn limit m c) (of_number k rs)
all_numbered k limit m c rs =
    kept_joined (λ r. eqb k r.terms.number) (λ r. eqb k r.terms.number) (turn limit m c) (λ r. standing_numbered k (row_after limit m c r)) rs

placed_numbered : (k limit : ℕ) (m : Market) (c : Single) → places k (single c) ≡ false → of_number k (placed limit m c) ≡ []
placed_numbered k limit m (listing h closes) e = refl
placed_numbered k limit m (opening d) e = refl
placed_numbered k limit m (placing o) e = cond-false (eqb k (number_of o)) _ _ e
placed_numbered k limit m (quoting q n) e = refl
placed_numbered k limit m (cancelling j) e = refl
placed_numbered k limit m (claiming j) e = refl
placed_numbered k limit m (settling t f) e = refl
placed_numbered k limit m (asking j) e = refl

abbrev pub row : Terms → Option Machine → Bool → Row
row t s b = record { terms = t; machine = s; claimed = b }

-- nothing wakes an order that has left
cond_same : (b : Bool) → cond b false false ≡ false
cond_same true = refl
cond_same false = refl

claim_left : (c : Single) (t : Terms) → claimed_after c (row t None false) ≡ false
claim_left (listing h closes) o = refl
claim_left (opening d) o = refl
claim_left (placing p) o = refl
claim_left (quoting q n) o = refl
claim_left (cancelling j) o = refl
claim_left (claiming j) o = cond_same (eqb j o.number)
claim_left (settling t f) o = cond_same (eqb t.number o.number)
claim_left (asking j) o = refl

left : (limit : ℕ) (m : Market) (c : Single) (t : Terms) → standing (row_after limit m c (row t None false)) ≡ []
left limit m c t = ap₂ (λ x b. standing (row t x b)) (runs_none t limit (bears m c t)) (claim_left c t)

-- one row, that stands or has left
pub one_row : (limit : ℕ) (m : Market) (c : Single) (r : Row) → flat_map (turn limit m c) (standing r) ≡ turn limit m c r
one_row limit m c r = go r.machine r.claimed
  where
    go : (s : Option Machine) (b : Bool) → flat_map (turn limit m c) (standing (row r.terms s b)) ≡ turn limit m c (row r.terms s b)
    go None false = sym (left limit m c r.terms)
    go None true = append-nil _
    go (Some s) b = append-nil _

-- the same by its number
on_one : (limit : ℕ) (m : Market) (c : Single) (r : Row) → on_row r.terms.number (turn limit m c) (standing r) ≡ turn limit m c r
on_one limit m c r = go r.machine r.claimed
  where
    k : ℕ
    k = r.terms.number

    here : (x : Row) → x.terms.number ≡ k → on_row k (turn limit m c) (x ∷ []) ≡ turn limit m c x
    here x e = cond-true (eqb k x.terms.number) _ _ (eq-eqb k x.terms.number (sym e)) ∙ append-nil _

    go : (s : Option Machine) (b : Bool) → on_row k (turn limit m c) (standing (row r.terms s b)) ≡ turn limit m c (row r.terms s b)
    go None false = sym (left limit m c r.terms)
    go None true = here (row r.terms None true) refl
    go (Some s) b = here (row r.terms (Some s) b) refl

-- the rows of a number, where the row of that number is turned, and where another is
on_numbered : (k limit : ℕ) (m : Market) (c : Single) (rs : List Row) → of_number k (on_row k (turn limit m c) rs) ≡ on_row k (turn limit m c) (of_number k rs)
on_numbered k limit m c [] = refl
on_numbered k limit m c (r ∷ rs) = go (eqb k r.terms.number) refl (on_numbered k limit m c rs)
  where
    f : Row → List Row
    f = turn limit m c

    go : (t : Bool) → eqb k r.terms.number ≡ t → of_number k (on_row k f rs) ≡ on_row k f (of_number k rs)
        → of_number k (cond t (f r ++ rs) (r ∷ on_row k f rs)) ≡ on_row k f (cond t (r ∷ of_number k rs) (of_number k rs))
    go true e ih =
        kept_append (λ x. eqb k x.terms.number) (f r) rs
        ∙ ap (λ x. x ++ of_number k rs) (standing_numbered k (row_after limit m c r) ∙ cond-true (eqb k r.terms.number) _ _ e)
        ∙ sym (cond-true (eqb k r.terms.number) _ _ e)
    go false e ih = cond-false (eqb k r.terms.number) _ _ e ∙ ih

on_another : (k j limit : ℕ) (m : Market) (c : Single) → eqb j k ≡ false → (rs : List Row) → of_number k (on_row j (turn limit m c) rs) ≡ of_number k rs
on_another k j limit m c h [] = refl
on_another k j limit m c h (r ∷ rs) = go (eqb j r.terms.number) refl (on_another k j limit m c h rs)
  where
    f : Row → List Row
    f = turn limit m c

    apart : eqb j r.terms.number ≡ true → eqb k r.terms.number ≡ false
    apart e = subst (λ x. eqb k x ≡ false) (eqb-true j r.terms.number e) (ne_eqb k j (λ p. eqb-false j k h (sym p)))

    go : (t : Bool) → eqb j r.terms.number ≡ t → of_number k (on_row j f rs) ≡ of_number k rs
        → of_number k (cond t (f r ++ rs) (r ∷ on_row j f rs)) ≡ of_number k (r ∷ rs)
    go true e ih =
        kept_append (λ x. eqb k x.terms.number) (f r) rs
        ∙ ap (λ x. x ++ of_number k rs) (standing_numbered k (row_after limit m c r) ∙ cond-false (eqb k r.terms.number) _ _ (apart e))
        ∙ sym (cond-false (eqb k r.terms.number) _ _ (apart e))
    go false e ih = ap (λ x. cond (eqb k r.terms.number) (r ∷ x) x) ih

-- a call by a number is nothing to an order of another
pub not_meant_cancel : (limit : ℕ) (m : Market) (j : ℕ) (r : Row) → eqb j r.terms.number ≡ false → row_after limit m (cancelling j) r ≡ r
not_meant_cancel limit m j r e = ap (λ t. row r.terms (runs r.terms limit r.machine (cond t (own_cancel ∷ []) [])) r.claimed) e

pub not_meant_claim : (limit : ℕ) (m : Market) (j : ℕ) (r : Row) → eqb j r.terms.number ≡ false → row_after limit m (claiming j) r ≡ r
not_meant_claim limit m j r e = ap (λ t. row r.terms r.machine (cond t (r.claimed || claimable r) r.claimed)) e

pub not_meant_settle : (limit : ℕ) (m : Market) (t : Ticket) (f : Option Price) (r : Row) → eqb t.number r.terms.number ≡ false → row_after limit m (settling t f) r ≡ r
not_meant_settle limit m t f r e = ap (λ b. row r.terms (runs r.terms limit r.machine (cond b (own_settlement f ∷ []) [])) (cond b false r.claimed)) e

-- an order that stands, or has left, once a call has turned the rows
on_stands : (limit : ℕ) (m : Market) (c : Single) (j : ℕ) (r : Row) → (eqb j r.terms.number ≡ false → row_after limit m c r ≡ r)
    → (rs : List Row) → of_number r.terms.number rs ≡ standing r → of_number r.terms.number (on_row j (turn limit m c) rs) ≡ turn limit m c r
on_stands limit m c j r other rs h = go (eqb j r.terms.number) refl
  where
    k : ℕ
    k = r.terms.number

    go : (t : Bool) → eqb j k ≡ t → of_number k (on_row j (turn limit m c) rs) ≡ turn limit m c r
    go true e = ap (λ i. of_number k (on_row i (turn limit m c) rs)) (eqb-true j k e) ∙ on_numbered k limit m c rs ∙ ap (on_row k (turn limit m c)) h ∙ on_one limit m c r
    go false e = on_another k j limit m c e rs ∙ h ∙ ap standing (sym (other e))

all_stands : (limit : ℕ) (m : Market) (c : Single) (r : Row) (rs : List Row) → of_number r.terms.number rs ≡ standing r → of_number r.terms.number (flat_map (turn limit m c) rs) ≡ turn limit m c r
all_stands limit m c r rs h = all_numbered r.terms.number limit m c rs ∙ ap (flat_map (turn limit m c)) h ∙ one_row limit m c r

rows_stand : (limit : ℕ) (m : Market) (c : Single) (r : Row) (rs : List Row) → of_number r.terms.number rs ≡ standing r → of_number r.terms.number (rows_after limit m c rs) ≡ turn limit m c r
rows_stand limit m (listing i closes) r rs h = h
rows_stand limit m (opening d) r rs h = all_stands limit m (opening d) r rs h
rows_stand limit m (placing o) r rs h = h
rows_stand limit m (quoting q n) r rs h = all_stands limit m (quoting q n) r rs h
rows_stand limit m (cancelling j) r rs h = on_stands limit m (cancelling j) j r (not_meant_cancel limit m j r) rs h
rows_stand limit m (claiming j) r rs h = on_stands limit m (claiming j) j r (not_meant_claim limit m j r) rs h
rows_stand limit m (settling t f) r rs h = on_stands limit m (settling t f) t.number r (not_meant_settle limit m t f r) rs h
rows_stand limit m (asking j) r rs h = h

pub one_slips : (limit : ℕ) (m : Market) (c : Single) (o : Order) (s : Option Machine) (b : Bool) → slips_after limit m c (standing (row o.terms s b)) ≡ writes o.terms limit s (bears m c o.terms)
one_slips limit m c o None false = sym (writes_none o.terms limit (bears m c o.terms))
one_slips limit m c o None true = append-nil _
one_slips limit m c o (Some s) b = append-nil _

-- an order after a call that places none of its number
pub stands_after : (su : Setup) (c : Single) (s : State) (r : Row) → of_number r.terms.number s.rows ≡ standing r → places r.terms.number (single c) ≡ false
    → of_number r.terms.number (state_after su s c).rows ≡ turn su.limit s.market c r
stands_after su c s r h e =
    kept_append (λ x. eqb r.terms.number x.terms.number) (rows_after su.limit s.market c s.rows) (placed su.limit s.market c)
    ∙ ap₂ ◌++◌ (rows_stand su.limit s.market c r s.rows h) (placed_numbered r.terms.number su.limit s.market c e)
    ∙ append-nil _

-- only a quote makes a machine write
abbrev Quiet : Own → Type 0
Quiet e = (t : Terms) (limit : ℕ) (s : Option Machine) → (machine_step t limit s e).slips ≡ []

quiet_day : (d : Day) → Quiet (own_watched_day d)
quiet_day d t limit None = refl
quiet_day d t limit (Some s) = refl

quiet_traded : (d : Opening) → Quiet (own_traded_day d)
quiet_traded d t limit None = refl
quiet_traded d t limit (Some s) = refl

quiet_cancel : Quiet own_cancel
quiet_cancel t limit None = refl
quiet_cancel t limit (Some s) = refl

quiet_settlement : (f : Option Price) → Quiet (own_settlement f)
quiet_settlement f t limit None = refl
quiet_settlement f t limit (Some s) = refl

quiet_one : (t : Terms) (limit : ℕ) (s : Option Machine) (e : Own) → Quiet e → (b : Bool) → [] ≡ writes t limit s (cond b (e ∷ []) [])
quiet_one t limit s e h true = sym (append-nil _ ∙ h t limit s)
quiet_one t limit s e h false = refl

quiet_days : (t : Terms) (limit : ℕ) (s : Option Machine) (o : Opening) (d : Option Day) → [] ≡ writes t limit s (own_days t o d)
quiet_days t limit s o None = refl
quiet_days t limit s o (Some d) =
    elim (eqb o.share t.watched) as (λ b. [] ≡ writes t limit s (cond b (own_watched_day d ∷ []) (cond (eqb o.share t.traded) (own_traded_day o ∷ []) [])))
    [ true ↦ quiet_one t limit s (own_watched_day d) (quiet_day d) true | false ↦ quiet_one t limit s (own_traded_day o) (quiet_traded o) (eqb o.share t.traded) ]

-- the slips of an order that stands as its machine says
pub slips_one : (su : Setup) (c : Single) (s : State) (o : Order) (m : Option Machine) (b : Bool) → of_number (number_of o) s.rows ≡ standing (row o.terms m b)
    → slips_of (number_of o) (slips_in (granted_reply su s c)) ≡ writes o.terms su.limit m (bears s.market c o.terms)
slips_one su (listing h closes) s o m b e = refl
slips_one su (opening d) s o m b e = quiet_days o.terms su.limit m d (day_of (opened d (s.market d.share)))
slips_one su (placing p) s o m b e = refl
slips_one su (quoting q n) s o m b e =
    slips_numbered (number_of o) su.limit s.market (quoting q n) s.rows
    ∙ ap (slips_after su.limit s.market (quoting q n)) e
    ∙ one_slips su.limit s.market (quoting q n) o m b
slips_one su (cancelling j) s o m b e = quiet_one o.terms su.limit m own_cancel quiet_cancel (eqb j (number_of o))
slips_one su (claiming j) s o m b e = refl
slips_one su (settling t f) s o m b e = quiet_one o.terms su.limit m (own_settlement f) (quiet_settlement f) (eqb t.number (number_of o))
slips_one su (asking j) s o m b e = refl

-- the row of a number, by the rows that bear it
abbrev first : List Row → Option Row
first [] = None
first (r ∷ rs) = Some r

row_first : (k : ℕ) (rs : List Row) → row_of k rs ≡ first (of_number k rs)
row_first k [] = refl
row_first k (r ∷ rs) =
    elim (eqb k r.terms.number) as (λ t. cond t (Some r) (row_of k rs) ≡ first (cond t (r ∷ of_number k rs) (of_number k rs))) [ true ↦ refl | false ↦ row_first k rs ]

pub claim_one : (o : Order) (s : Option Machine) (b : Bool) (rs : List Row) → of_number (number_of o) rs ≡ standing (row o.terms s b) → holds claimable (row_of (number_of o) rs) ≡ (waits s && not b)
claim_one o s b rs h = ap (holds claimable) (row_first (number_of o) rs ∙ ap first h) ∙ go s b
  where
    go : (s : Option Machine) (b : Bool) → holds claimable (first (standing (row o.terms s b))) ≡ (waits s && not b)
    go None true = refl
    go None false = refl
    go (Some s) b = refl

pub state_one : (o : Order) (s : Option Machine) (b : Bool) (rs : List Row) → of_number (number_of o) rs ≡ standing (row o.terms s b) → state_in (row_of (number_of o) rs) ≡ state_of s b
state_one o s b rs h = ap state_in (row_first (number_of o) rs ∙ ap first h) ∙ go s b
  where
    go : (s : Option Machine) (b : Bool) → state_in (first (standing (row o.terms s b))) ≡ state_of s b
    go None true = refl
    go None false = refl
    go (Some s) b = refl

not_twice : (b : Bool) → not (not b) ≡ b
not_twice true = refl
not_twice false = refl

claim_here : (j : ℕ) (s : State) (o : Order) (m : Option Machine) (b : Bool) → of_number (number_of o) s.rows ≡ standing (row o.terms m b) → (t : Bool) → eqb j (number_of o) ≡ t
    → cond t (b || not (not (holds claimable (row_of j s.rows)))) b ≡ cond t (b || claimable (row o.terms m b)) b
claim_here j s o m b h true g = ap (λ x. b || x) (not_twice _ ∙ ap (λ i. holds claimable (row_of i s.rows)) (eqb-true j (number_of o) g) ∙ claim_one o m b s.rows h)
claim_here j s o m b h false g = refl

pub claim_granted : (su : Setup) (c : Single) (s : State) (o : Order) (m : Option Machine) (b : Bool) → of_number (number_of o) s.rows ≡ standing (row o.terms m b)
    → claimed_by (number_of o) (single c) (granted_reply su s c) b ≡ claimed_after c (row o.terms m b)
claim_granted su (listing i closes) s o m b h = refl
claim_granted su (opening d) s o m b h = refl
claim_granted su (placing p) s o m b h = refl
claim_granted su (quoting q n) s o m b h = refl
claim_granted su (cancelling j) s o m b h = refl
claim_granted su (claiming j) s o m b h = claim_here j s o m b h (eqb j (number_of o)) refl
claim_granted su (settling t f) s o m b h = refl
claim_granted su (asking j) s o m b h = refl
