-- The placing of an order: its checks, in the parts in which the code runs them, and the row that it adds.
use Rattle.std.proofs.Common.{◌≡◌, ℕ, ◌+◌, ◌<◌, ◌≤◌, min, Bool, true, false, cond, leb, List, [], ◌∷◌, ◌++◌, map, length, take, set, is_some, IsErrAnd, Some, None, Option, Result, sym, refl, ap, ◌∙◌, ap₂}
use Rattle.std.specs.Option.{option_map}
use Rattle.std.proofs.lemmas.List.{length-map, length-take-le, take_more_set, map-append}
use Rattle.std.proofs.lemmas.Result.{err_from_is_err_and}
use Rattle.std.proofs.lemmas.Bool.{eq-eqb, ne_eqb, le-leb, lt-leb}
use Rattle.conditions.specs.Meaning.{Meaning, after, ends}
use Rattle.conditions.specs.declared.event.Day.{Day}
use Rattle.conditions.specs.declared.event.Event.TheVariants as event
use Rattle.rules.specs.Bearing.{own_first, begins}
use Rattle.rules.specs.Book.{Setup, State, Row, row_of, standing, lapses_on, place_checks, decided, step}
use Rattle.rules.specs.Bounds.{greatest_rows}
use Rattle.rules.specs.Calls.{placing, single, by_book, done, refused}
use Rattle.rules.specs.Checks.{Check, check, first_fault}
use Rattle.rules.specs.Machine.{Order, runs, new_machine}
use Rattle.rules.specs.Market.{Market, day_of, prices_of}
use Rattle.rules.specs.declared.fault.PlacingFault.{PlacingFault}
use Rattle.rules.specs.declared.fault.PlacingFault.TheVariants as fault
use Rattle.rules.specs.declared.order.Terms.{Terms}
use Rattle.rules.specs.declared.state.OrderState.TheVariants as state
use Rattle.market.proofs.Checking.{all_pass, one_stops}
use Rattle.book.specs.Placing.{free_checks, both_checks, amount_checks, choice_checks}
use Rattle.book.specs.Turning.{kept, with_machine, machine_dayed, dayed_row}
use Rattle.book.specs.View.{done_reply, row_view}
use Rattle.book.specs.declared.row.Row.{Row as Kept}

-- A number that is free, and a row that is.

module _ (su : Setup) (s : State) (k : ℕ) (nonzero : k ≡ 0 → ⊥) where
  abbrev free_by : Bool → Bool → Option PlacingFault
  free_by taken full = cond taken (Some fault.InBook) (cond full (Some fault.NoRow) None)

  free_is : (taken full : Bool) → is_some (row_of k s.rows) ≡ taken → leb (min su.rows greatest_rows) (length s.rows) ≡ full → free_by taken full ≡ first_fault (free_checks su s k)
  free_is taken full a b = ap₂ free_by (sym a) (sym b) ∙ ap (λ z. cond z (Some fault.Number) (free_by (is_some (row_of k s.rows)) (leb (min su.rows greatest_rows) (length s.rows)))) (sym (ne_eqb k 0 nonzero))

  pub in_book : is_some (row_of k s.rows) ≡ true → Some fault.InBook ≡ first_fault (free_checks su s k)
  in_book h = free_is true _ h refl

  module _ (n m : ℕ) (long : length s.rows ≡ n) (room : m ≡ min su.rows greatest_rows) (vacant : is_some (row_of k s.rows) ≡ false) where
    pub no_row : m ≤ n → Some fault.NoRow ≡ first_fault (free_checks su s k)
    no_row full = free_is false true vacant (ap₂ leb (sym room) long ∙ le-leb m n full)

    pub is_free : n < m → None ≡ first_fault (free_checks su s k)
    is_free left = free_is false false vacant (ap₂ leb (sym room) long ∙ lt-leb m n left)

-- the row of a new order whose condition was told its day
abbrev begun : Market → Order → Day → Row
begun mk o d =
    record {
      terms = o.terms;
      machine = Some (record { meaning = after o.meaning (event.Day d ∷ []); waits = false; notes = record { sent = 0; market = None; prices = prices_of (mk o.terms.traded) } });
      claimed = false;
    }

-- The step, by its first fault.
module _ (su : Setup) (s : State) (o : Order) where
  abbrev last_check : List (Check PlacingFault)
  last_check = check (lapses_on o.meaning (day_of (s.market o.terms.watched))) fault.Lapses ∷ []

  abbrev from_choice : List (Check PlacingFault)
  from_choice = choice_checks o.terms ++ last_check

  abbrev from_amounts : List (Check PlacingFault)
  from_amounts = amount_checks o.terms ++ from_choice

  abbrev from_shares : List (Check PlacingFault)
  from_shares = both_checks s.market o.terms ++ from_amounts

  abbrev free : List (Check PlacingFault)
  free = free_checks su s o.terms.number

  in_parts : first_fault (place_checks su s o) ≡ first_fault (free ++ from_shares)
  in_parts = refl

  past_free : None ≡ first_fault free → first_fault (place_checks su s o) ≡ first_fault from_shares
  past_free a = in_parts ∙ all_pass free from_shares a

  past_shares : None ≡ first_fault free → None ≡ first_fault (both_checks s.market o.terms) → first_fault (place_checks su s o) ≡ first_fault from_amounts
  past_shares a b = past_free a ∙ all_pass (both_checks s.market o.terms) from_amounts b

  past_amounts : None ≡ first_fault free → None ≡ first_fault (both_checks s.market o.terms) → None ≡ first_fault (amount_checks o.terms) → first_fault (place_checks su s o) ≡ first_fault from_choice
  past_amounts a b c = past_shares a b ∙ all_pass (amount_checks o.terms) from_choice c

  module _ {X : Type 0} (r : Result X PlacingFault) (f : PlacingFault) (exit : IsErrAnd r (λ y. y ≡ f)) where
    refused_by : first_fault (place_checks su s o) ≡ Some f → (s, done_reply r) ≡ step su s (single (placing o))
    refused_by e =
        let p = err_from_is_err_and r exit in
        ap (λ z. (s, done_reply z)) p.1 ∙ ap (λ z. (s, refused (by_book z))) p.2 ∙ sym (ap (λ z. decided su s (placing o) (option_map by_book z)) e)

    pub unfree : Some f ≡ first_fault free → (s, done_reply r) ≡ step su s (single (placing o))
    unfree e = refused_by (in_parts ∙ one_stops free from_shares f e)

    pub bad_share : None ≡ first_fault free → Some f ≡ first_fault (both_checks s.market o.terms) → (s, done_reply r) ≡ step su s (single (placing o))
    bad_share a e = refused_by (past_free a ∙ one_stops (both_checks s.market o.terms) from_amounts f e)

    pub bad_amount : None ≡ first_fault free → None ≡ first_fault (both_checks s.market o.terms) → Some f ≡ first_fault (amount_checks o.terms) → (s, done_reply r) ≡ step su s (single (placing o))
    bad_amount a b e = refused_by (past_shares a b ∙ one_stops (amount_checks o.terms) from_choice f e)

    pub bad_choice : None ≡ first_fault free → None ≡ first_fault (both_checks s.market o.terms) → None ≡ first_fault (amount_checks o.terms) → Some f ≡ first_fault (choice_checks o.terms)
        → (s, done_reply r) ≡ step su s (single (placing o))
    bad_choice a b c e = refused_by (past_amounts a b c ∙ one_stops (choice_checks o.terms) last_check f e)

  module _ (a : None ≡ first_fault free) (b : None ≡ first_fault (both_checks s.market o.terms)) (c : None ≡ first_fault (amount_checks o.terms)) (e : None ≡ first_fault (choice_checks o.terms))
      (d : Day) (is : day_of (s.market o.terms.watched) ≡ Some d) where
    -- all checks pass but the last
    at_last : (ended : Bool) → ends (o.meaning [] (event.Day d)) ≡ ended → step su s (single (placing o)) ≡ decided su s (placing o) (option_map by_book (cond ended (Some fault.Lapses) None))
    at_last ended h =
        ap (λ z. decided su s (placing o) (option_map by_book z))
        (past_amounts a b c ∙ all_pass (choice_checks o.terms) last_check e ∙ ap (λ z. cond (lapses_on o.meaning z) (Some fault.Lapses) None) is ∙ ap (λ z. cond z (Some fault.Lapses) None) h)

    pub lapses : ends (o.meaning [] (event.Day d)) ≡ true → (s, refused (by_book fault.Lapses)) ≡ step su s (single (placing o))
    lapses h = sym (at_last true h)

    pub granted : (rows : List Row) → ends (o.meaning [] (event.Day d)) ≡ false → rows ≡ s.rows ++ begun s.market o d ∷ [] → (record { market = s.market; rows = rows }, done) ≡ step su s (single (placing o))
    granted rows h e =
        let starts : runs o.terms su.limit (new_machine o) (begins s.market o) ≡ (begun s.market o d).machine =
        ap (λ z. runs o.terms su.limit (new_machine o) (own_first s.market o z)) is ∙ ap (λ z. cond z None (begun s.market o d).machine) h in
        ap (λ z. (record { market = s.market; rows = z }, done)) (e ∙ ap (λ z. s.rows ++ record { terms = o.terms; machine = z; claimed = false } ∷ []) (sym starts)) ∙ sym (at_last false h)

-- The new row, told its day.
module _ {C : Type 0} (means : C → Meaning) (mk : Market) (t : Terms) (x : C) (d : Day) where
  abbrev fresh : Kept C
  fresh = record { terms = t; state = state.Watching; sent = 0; market = None; condition = x }

  abbrev first : Row
  first = begun mk (record { terms = t; meaning = means x }) d

  first_day : (ended : Bool) → ends (means x [] (event.Day d)) ≡ ended → standing (dayed_row t.watched d (row_view means mk fresh)) ≡ cond ended [] (first ∷ [])
  first_day ended h =
      let v : Row = row_view means mk fresh in
      ap (λ b. standing (cond b (with_machine v (machine_dayed d v.machine)) v)) (eq-eqb t.watched t.watched refl)
      ∙ ap (λ b. standing (with_machine v (cond b None first.machine))) h
      ∙ go ended
    where
      go : (b : Bool) → standing (with_machine (row_view means mk fresh) (cond b None first.machine)) ≡ cond b [] (first ∷ [])
      go true = refl
      go false = refl

  module _ (told : Row) (new : Kept C) (is : new ≡ fresh) where
    day_told : (stays : Bool) → kept stays told ≡ standing (dayed_row t.watched d (row_view means mk new)) → kept stays told ≡ cond (ends (means x [] (event.Day d))) [] (first ∷ [])
    day_told stays e = e ∙ ap (λ z. standing (dayed_row t.watched d (row_view means mk z))) is ∙ first_day _ refl

    pub leaves : (stays : Bool) → stays ≡ false → kept stays told ≡ standing (dayed_row t.watched d (row_view means mk new)) → ends (means x [] (event.Day d)) ≡ true
    leaves stays off e = go (ends (means x [] (event.Day d))) (ap (λ z. kept z told) (sym off) ∙ day_told stays e)
      where
        go : (b : Bool) → [] ≡ cond b [] (first ∷ []) → b ≡ true
        go true h = refl
        go false h = cc

    pub stays_on : (stays : Bool) → stays ≡ true → kept stays told ≡ standing (dayed_row t.watched d (row_view means mk new)) → (ends (means x [] (event.Day d)) ≡ false) × (told ≡ first)
    stays_on stays on e = go (ends (means x [] (event.Day d))) (ap (λ z. kept z told) (sym on) ∙ day_told stays e)
      where
        go : (b : Bool) → told ∷ [] ≡ cond b [] (first ∷ []) → (b ≡ false) × (told ≡ first)
        go true h = (cc, cc)
        go false h = (refl, cc)

-- as many rows are seen as are in use
pub seen : {X : Type 0} (f : X → Row) (ys : List X) (n : ℕ) → n ≤ length ys → length (map f (take n ys)) ≡ n
seen f ys n within = length-map (take n ys) f ∙ length-take-le n ys within

-- a row put after those in use
pub one_more : {X : Type 0} (f : X → Row) (ys : List X) (n : ℕ) (y : X) (r : Row) → n < length ys → f y ≡ r → map f (take (n + 1) (set ys n y)) ≡ map f (take n ys) ++ r ∷ []
one_more f ys n y r h e = ap (map f) (take_more_set ys n y h) ∙ map-append f (take n ys) (y ∷ []) ∙ ap (λ z. map f (take n ys) ++ z ∷ []) e
