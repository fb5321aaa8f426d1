-- The calls that name one order: what the rules do to the row of its number, and what the book's code does at its place.
use Rattle.std.proofs.Common.{◌≡◌, ℕ, ◌+◌, ◌<◌, Bool, true, false, cond, not, ◌||◌, eqb, List, [], ◌∷◌, ◌++◌, map, length, get_or, take, drop, set, is_some, IsErrAnd, Some, None, Err, Option, Result, sym, refl, ap, ◌∙◌, ap₂}
use Rattle.std.specs.Option.{option_map, ok_or}
use Rattle.std.proofs.lemmas.List.{append-nil}
use Rattle.std.proofs.lemmas.Bool.{eq-eqb}
use Rattle.std.proofs.lemmas.Result.{err_from_is_err_and}
use Rattle.values.specs.declared.price.Price.{Price}
use Rattle.conditions.specs.Meaning.{Meaning}
use Rattle.rules.specs.Book.{Setup, State, Row, row_of, on_row, holds, claimable, state_in, standing, row_after, step, decided}
use Rattle.rules.specs.Calls.{Ticket, cancelling, claiming, settling, asking, single, by_book, Reply, done, gives, in_state, refused}
use Rattle.rules.specs.Machine.{Machine, runs}
use Rattle.rules.specs.Market.{Market}
use Rattle.rules.specs.OwnEvents.{own_cancel, own_settlement}
use Rattle.rules.specs.declared.fault.PlacingFault.{PlacingFault}
use Rattle.rules.specs.declared.fault.PlacingFault.TheVariants as fault
use Rattle.rules.specs.declared.order.Terms.{Terms}
use Rattle.rules.specs.declared.state.OrderState.{OrderState}
use Rattle.rules.specs.declared.state.OrderState.TheVariants as state
use Rattle.book.specs.Turning.{kept, settled_row, machine_settled}
use Rattle.book.specs.View.{done_reply, claimed_in, claimed_state, waiting_in, with_state, place_of, row_view, rows_view}
use Rattle.book.specs.declared.row.Row.{Row as Kept}
use Rattle.book.proofs.Places.{row_none, on_none, found, numbered, on_left, on_set, inside, read_rows, read_same, take_of_set, lifted_set}

-- The step of each call, by the row of its number.

module _ (su : Setup) (s : State) (k : ℕ) where
  abbrev cancel_by : Option Row → State × Reply
  cancel_by x = decided su s (cancelling k) (option_map by_book (cond (not (is_some x)) (Some fault.NoOrder) (cond (holds (λ r. r.claimed) x) (Some fault.UnderClaim) None)))

  cancel_absent : row_of k s.rows ≡ None → (s, refused (by_book fault.NoOrder)) ≡ step su s (single (cancelling k))
  cancel_absent e = sym (ap cancel_by e)

  cancel_is : (r : Row) (b : Bool) → row_of k s.rows ≡ Some r → r.claimed ≡ b → step su s (single (cancelling k)) ≡ decided su s (cancelling k) (option_map by_book (cond b (Some fault.UnderClaim) None))
  cancel_is r b e h = ap cancel_by e ∙ ap (λ z. decided su s (cancelling k) (option_map by_book (cond z (Some fault.UnderClaim) None))) h

  cancel_claimed : (r : Row) → row_of k s.rows ≡ Some r → r.claimed ≡ true → (s, refused (by_book fault.UnderClaim)) ≡ step su s (single (cancelling k))
  cancel_claimed r e h = sym (cancel_is r true e h)

  cancel_done : (r : Row) (rows : List Row) → row_of k s.rows ≡ Some r → r.claimed ≡ false → rows ≡ on_row k (λ x. standing (row_after su.limit s.market (cancelling k) x)) s.rows
      → (record { market = s.market; rows = rows }, done) ≡ step su s (single (cancelling k))
  cancel_done r rows e h is = ap (λ z. (record { market = s.market; rows = z }, done)) (is ∙ sym (append-nil _)) ∙ sym (cancel_is r false e h)

  claim_done : (rows : List Row) (v : Bool) → rows ≡ on_row k (λ x. standing (row_after su.limit s.market (claiming k) x)) s.rows → v ≡ not (holds claimable (row_of k s.rows))
      → (record { market = s.market; rows = rows }, gives (record { void = v; book = su.book; number = k })) ≡ step su s (single (claiming k))
  claim_done rows v is e = ap₂ (λ z x. (record { market = s.market; rows = z }, gives (record { void = x; book = su.book; number = k }))) (is ∙ sym (append-nil _)) e

module _ (su : Setup) (s : State) (t : Ticket) (fill : Option Price) where
  abbrev settle_by : Bool → Bool → Bool → State × Reply
  settle_by v same held = decided su s (settling t fill) (option_map by_book (cond v (Some fault.VoidTicket) (cond (not same || not held) (Some fault.WrongTicket) None)))

  settle_is : (v same held : Bool) → t.void ≡ v → eqb t.book su.book ≡ same → holds (λ r. r.claimed) (row_of t.number s.rows) ≡ held → step su s (single (settling t fill)) ≡ settle_by v same held
  settle_is v same held a b c =
      ap (λ z. settle_by z (eqb t.book su.book) (holds (λ r. r.claimed) (row_of t.number s.rows))) a
      ∙ ap₂ (settle_by v) b c

  settle_unclaimed : t.void ≡ false → eqb t.book su.book ≡ true → holds (λ r. r.claimed) (row_of t.number s.rows) ≡ false
      → (s, refused (by_book fault.WrongTicket)) ≡ step su s (single (settling t fill))
  settle_unclaimed a b c = sym (settle_is false true false a b c)

  settle_done : (rows : List Row) → t.void ≡ false → eqb t.book su.book ≡ true → holds (λ r. r.claimed) (row_of t.number s.rows) ≡ true
      → rows ≡ on_row t.number (λ x. standing (row_after su.limit s.market (settling t fill) x)) s.rows
      → (record { market = s.market; rows = rows }, done) ≡ step su s (single (settling t fill))
  settle_done rows a b c is = ap (λ z. (record { market = s.market; rows = z }, done)) (is ∙ sym (append-nil _)) ∙ sym (settle_is false true true a b c)

-- What each call makes of the row of its number.

cancelled : (t : Terms) (limit : ℕ) (m : Option Machine) → runs t limit m (own_cancel ∷ []) ≡ None
cancelled t limit None = refl
cancelled t limit (Some s) = refl

turn_cancel : (limit : ℕ) (mk : Market) (k : ℕ) (r : Row) → eqb k r.terms.number ≡ true → r.claimed ≡ false → standing (row_after limit mk (cancelling k) r) ≡ []
turn_cancel limit mk k r e h =
    ap₂ (λ b c. standing (record { terms = r.terms; machine = runs r.terms limit r.machine (cond b (own_cancel ∷ []) []); claimed = c })) e h
    ∙ ap (λ m. standing (record { terms = r.terms; machine = m; claimed = false })) (cancelled r.terms limit r.machine)

module _ {C : Type 0} (means : C → Meaning) (mk : Market) where
  turn_claim : (limit k : ℕ) (r : Kept C) → eqb k r.terms.number ≡ true
      → standing (row_after limit mk (claiming k) (row_view means mk r)) ≡ row_view means mk (with_state r (claimed_state r.state)) ∷ []
  turn_claim limit k r e =
      let v : Row = row_view means mk r in
      ap (λ b. standing (record { terms = v.terms; machine = v.machine; claimed = cond b (v.claimed || claimable v) v.claimed })) e ∙ go r.state
    where
      go : (s : OrderState) → let w : Row = row_view means mk (with_state r s) in standing (record { terms = w.terms; machine = w.machine; claimed = w.claimed || claimable w }) ≡ row_view means mk (with_state r (claimed_state s)) ∷ []
      go state.Watching = refl
      go state.Waiting = refl
      go state.Claimed = refl
      go state.EndedUnderClaim = refl

  claimable_by : (r : Kept C) → claimable (row_view means mk r) ≡ waiting_in r.state
  claimable_by r = go r.state
    where
      go : (s : OrderState) → claimable (row_view means mk (with_state r s)) ≡ waiting_in s
      go state.Watching = refl
      go state.Waiting = refl
      go state.Claimed = refl
      go state.EndedUnderClaim = refl

settled_runs : (t : Terms) (limit : ℕ) (fill : Option Price) (m : Option Machine) → runs t limit m (own_settlement fill ∷ []) ≡ machine_settled fill m
settled_runs t limit fill None = refl
settled_runs t limit fill (Some s) = refl

turn_settle : (limit : ℕ) (mk : Market) (t : Ticket) (fill : Option Price) (r : Row) → eqb t.number r.terms.number ≡ true → row_after limit mk (settling t fill) r ≡ settled_row fill r
turn_settle limit mk t fill r e =
    ap (λ b. record { terms = r.terms; machine = runs r.terms limit r.machine (cond b (own_settlement fill ∷ []) []); claimed = cond b false r.claimed }) e
    ∙ ap (λ m. record { terms = r.terms; machine = m; claimed = false }) (settled_runs r.terms limit fill r.machine)

state_by : {C : Type 0} (means : C → Meaning) (mk : Market) (r : Kept C) → state_in (Some (row_view means mk r)) ≡ Some r.state
state_by means mk r = go r.state
  where
    go : (s : OrderState) → state_in (Some (row_view means mk (with_state r s))) ≡ Some s
    go state.Watching = refl
    go state.Waiting = refl
    go state.Claimed = refl
    go state.EndedUnderClaim = refl

-- what a call answers that found no order: e is its fault
answer_none : {X : Type 0} (r : Result X PlacingFault) (f e : PlacingFault) (o : Option ℕ) → IsErrAnd r (λ y. y ≡ f) → Err f ≡ ok_or o e → o ≡ None → done_reply r ≡ refused (by_book e)
answer_none r f e o exit is none =
    let p = err_from_is_err_and r exit in
    let q : ◌≡◌ {A = Result ℕ PlacingFault} (Err f) (Err e) = is ∙ ap (λ z. ok_or z e) none in
    let g : f ≡ e = cc in
    ap done_reply p.1 ∙ ap (λ y. refused (by_book y)) (p.2 ∙ g)

-- The step of each call, by the rows of a book.

abbrev pub in_rows : {C : Type 0} → (C → Meaning) → Market → List (Kept C) → State
in_rows means mk rows = record { market = mk; rows = rows_view means mk rows }

module _ {C : Type 0} (means : C → Meaning) (su : Setup) (mk : Market) (xs : List (Kept C)) (k : ℕ) where
  abbrev f : Kept C → Row
  f = row_view means mk

  abbrev ours : Ticket
  ours = record { void = false; book = su.book; number = k }

  own : eqb su.book su.book ≡ true
  own = eq-eqb su.book su.book refl

  -- no order bears the number
  module _ (place : None ≡ place_of k xs) where
    absent : row_of k (map f xs) ≡ None
    absent = row_none f k xs place

    pub claims_none : (in_rows means mk xs, gives (record { void = true; book = su.book; number = k })) ≡ step su (in_rows means mk xs) (single (claiming k))
    claims_none = claim_done su (in_rows means mk xs) k (map f xs) true (on_none f k xs place _) (sym (ap (λ r. not (holds claimable r)) absent))

    pub asks_none : (in_rows means mk xs, in_state None) ≡ step su (in_rows means mk xs) (single (asking k))
    asks_none = sym (ap₂ (λ rs r. (record { market = mk; rows = rs }, in_state (state_in r))) (append-nil (map f xs)) absent)

    cancels_none : (in_rows means mk xs, refused (by_book fault.NoOrder)) ≡ step su (in_rows means mk xs) (single (cancelling k))
    cancels_none = cancel_absent su (in_rows means mk xs) k absent

    settles_none : (fill : Option Price) → (in_rows means mk xs, refused (by_book fault.WrongTicket)) ≡ step su (in_rows means mk xs) (single (settling ours fill))
    settles_none fill = settle_unclaimed su (in_rows means mk xs) ours fill refl own (ap (holds (λ r. r.claimed)) absent)

  -- the same by what was found and what is answered
  module _ {X : Type 0} (r : Result X PlacingFault) (t : PlacingFault) (o : Option ℕ) (exit : IsErrAnd r (λ y. y ≡ t)) (none : o ≡ None) (place : o ≡ place_of k xs) where
    pub cancels_nothing : Err t ≡ ok_or o fault.NoOrder → (in_rows means mk xs, done_reply r) ≡ step su (in_rows means mk xs) (single (cancelling k))
    cancels_nothing is = ap (λ y. (in_rows means mk xs, y)) (answer_none r t fault.NoOrder o exit is none) ∙ cancels_none (sym none ∙ place)

    pub settles_nothing : (fill : Option Price) → Err t ≡ ok_or o fault.WrongTicket → (in_rows means mk xs, done_reply r) ≡ step su (in_rows means mk xs) (single (settling ours fill))
    settles_nothing fill is = ap (λ y. (in_rows means mk xs, y)) (answer_none r t fault.WrongTicket o exit is none) ∙ settles_none (sym none ∙ place) fill

  -- the order x bears it, at this place
  module _ (at : ℕ) (x : Kept C) (place : Some at ≡ place_of k xs) (is : get_or xs at x ≡ x) where
    there : row_of k (map f xs) ≡ Some (f x)
    there = found f k xs at x place is

    by_it : eqb k x.terms.number ≡ true
    by_it = numbered f k xs at x place is

    held : (b : Bool) → claimed_in x.state ≡ b → holds (λ r. r.claimed) (row_of k (map f xs)) ≡ b
    held b e = ap (holds (λ r. r.claimed)) there ∙ e

    left : (turn : Row → List Row) → turn (f x) ≡ [] → map f (take at xs ++ drop (at + 1) xs) ≡ on_row k turn (map f xs)
    left = on_left f k xs at x place is

    became : (turn : Row → List Row) (y : Kept C) → turn (f x) ≡ f y ∷ [] → map f (set xs at y) ≡ on_row k turn (map f xs)
    became = on_set f k xs at x place is

    pub cancels_claimed : claimed_in x.state ≡ true → (in_rows means mk xs, refused (by_book fault.UnderClaim)) ≡ step su (in_rows means mk xs) (single (cancelling k))
    cancels_claimed e = cancel_claimed su (in_rows means mk xs) k (f x) there e

    pub cancels : claimed_in x.state ≡ false → (in_rows means mk (take at xs ++ drop (at + 1) xs), done) ≡ step su (in_rows means mk xs) (single (cancelling k))
    cancels e = cancel_done su (in_rows means mk xs) k (f x) _ there e (left _ (turn_cancel su.limit mk k (f x) by_it e))

    claims : (y : Kept C) (b : Bool) → y ≡ with_state x (claimed_state x.state) → b ≡ waiting_in x.state
        → (in_rows means mk (set xs at y), gives (record { void = not b; book = su.book; number = k })) ≡ step su (in_rows means mk xs) (single (claiming k))
    claims y b e w =
        claim_done su (in_rows means mk xs) k _ (not b) (became _ y (turn_claim means mk su.limit k x by_it ∙ ap (λ r. f r ∷ []) (sym e)))
        (ap not (w ∙ sym (claimable_by means mk x) ∙ ap (holds claimable) (sym there)))

    pub settles_unclaimed : (fill : Option Price) → claimed_in x.state ≡ false → (in_rows means mk xs, refused (by_book fault.WrongTicket)) ≡ step su (in_rows means mk xs) (single (settling ours fill))
    settles_unclaimed fill e = settle_unclaimed su (in_rows means mk xs) ours fill refl own (held false e)

    -- it stays as y, or leaves
    module _ (fill : Option Price) (claimed : claimed_in x.state ≡ true) (stays : Bool) (y : Kept C) (turn : kept stays (f y) ≡ standing (settled_row fill (f x))) where
      turned : standing (row_after su.limit mk (settling ours fill) (f x)) ≡ kept stays (f y)
      turned = ap standing (turn_settle su.limit mk ours fill (f x) by_it) ∙ sym turn

      settles_on : stays ≡ true → (in_rows means mk (set xs at y), done) ≡ step su (in_rows means mk xs) (single (settling ours fill))
      settles_on e = settle_done su (in_rows means mk xs) ours fill _ refl own (held true claimed) (became _ y (turned ∙ ap (λ b. kept b (f y)) e))

      settles_off : stays ≡ false → (in_rows means mk (take at xs ++ drop (at + 1) xs), done) ≡ step su (in_rows means mk xs) (single (settling ours fill))
      settles_off e = settle_done su (in_rows means mk xs) ours fill _ refl own (held true claimed) (left _ (turned ∙ ap (λ b. kept b (f y)) e))

    pub asks : (in_rows means mk xs, in_state (Some x.state)) ≡ step su (in_rows means mk xs) (single (asking k))
    asks = sym (ap₂ (λ rs o. (record { market = mk; rows = rs }, in_state o)) (append-nil (map f xs)) (ap state_in there ∙ state_by means mk x))

-- The same of a book whose first n rows are in use: x is the row that the call changes, and y what it becomes.
module _ {C : Type 0} (means : C → Meaning) (su : Setup) (mk : Market) (ys : List (Kept C)) (n k at : ℕ) (place : Some at ≡ place_of k (take n ys)) (x y : Kept C) (is : x ≡ get_or ys at x) where
  abbrev used : List (Kept C)
  used = take n ys

  there_at : at < length used
  there_at = inside (row_view means mk) k used at place

  read : get_or used at x ≡ x
  read = read_rows ys n at x there_at is

  pub claims_there : (b : Bool) → y ≡ with_state (get_or ys at x) (claimed_state (get_or ys at x).state) → b ≡ waiting_in (get_or ys at x).state
      → (in_rows means mk (take n (set ys at y)), gives (record { void = not b; book = su.book; number = k })) ≡ step su (in_rows means mk used) (single (claiming k))
  claims_there b e w =
      ap (λ rows. (in_rows means mk rows, gives (record { void = not b; book = su.book; number = k }))) (take_of_set n ys at y)
      ∙ claims means su mk used k at x place read y b (e ∙ ap (λ r. with_state r (claimed_state r.state)) (sym is)) (w ∙ ap (λ r. waiting_in r.state) (sym is))

  -- z is the same row, which was found to be under a claim
  module _ (z : Kept C) (same : get_or used at z ≡ z) (claimed : claimed_in z.state ≡ true) (fill : Option Price) (stays : Bool)
      (turn : kept stays (row_view means mk y) ≡ standing (settled_row fill (row_view means mk (get_or ys at x)))) where
    held_there : claimed_in x.state ≡ true
    held_there = ap (λ r. claimed_in r.state) (read_same used at x z there_at read same) ∙ claimed

    turn_there : kept stays (row_view means mk y) ≡ standing (settled_row fill (row_view means mk x))
    turn_there = turn ∙ ap (λ r. standing (settled_row fill (row_view means mk r))) (sym is)

    abbrev right : Ticket
    right = record { void = false; book = su.book; number = k }

    pub settles_there : stays ≡ true → (in_rows means mk (take n (set ys at y)), done) ≡ step su (in_rows means mk used) (single (settling right fill))
    settles_there e =
        ap (λ rows. (in_rows means mk rows, done)) (take_of_set n ys at y)
        ∙ settles_on means su mk used k at x place read fill held_there stays y turn_there e

    pub settles_away : stays ≡ false → (in_rows means mk (take at (take n (set ys at y)) ++ drop (at + 1) (take n (set ys at y))), done) ≡ step su (in_rows means mk used) (single (settling right fill))
    settles_away e =
        ap (λ rows. (in_rows means mk rows, done)) (lifted_set n ys at y)
        ∙ settles_off means su mk used k at x place read fill held_there stays y turn_there e
