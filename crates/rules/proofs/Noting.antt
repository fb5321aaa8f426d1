-- What a machine notes of its slips.
use Rattle.std.proofs.Common.{◌≡◌, ℕ, ◌+◌, ◌≤◌, Bool, true, false, cond, not, ◌&&◌, eqb, ltb, List, [], ◌∷◌, ◌++◌, Some, None, sum_by, filter, Option, sym, refl, ap, ◌∙◌, subst, append_assoc, append-nil, add-zero, add_assoc, zero-add, arith}
use Rattle.std.specs.Option.{option_or}
use Rattle.std.proofs.lemmas.List.Sums.{sum_by-append}
use Rattle.std.proofs.lemmas.Bool.{cond-false, ltb-false, ne_eqb}
use Rattle.values.specs.declared.price.Price.{Price}
use Rattle.conditions.specs.Meaning.{Meaning, after, ends}
use Rattle.conditions.specs.declared.event.Answer.{Answer}
use Rattle.conditions.specs.declared.event.Answer.TheVariants as answer
use Rattle.conditions.specs.declared.event.Event.{Event}
use Rattle.conditions.specs.declared.event.Event.TheVariants as event
use Rattle.conditions.specs.declared.event.Fire.{Fire}
use Rattle.conditions.specs.declared.event.Next.{Next}
use Rattle.conditions.specs.declared.event.Next.TheVariants as next
use Rattle.conditions.specs.declared.event.Tick.{Tick}
use Rattle.rules.specs.Law.{was_sent, sent_in, newest_market, NotesOfSlips}
use Rattle.rules.specs.Machine.{Notes, Machine, Left, watching, told, priced_now, with_prices, noted, follows, answered, tick_of, quoted, settled, machine_step, writes, runs, new_machine}
use Rattle.rules.specs.OwnEvents.{Own, own_placing, own_watched_day, own_traded_day, own_quote, own_settlement, own_cancel}
use Rattle.rules.specs.SlipRule.{asks, exceeds, held_back, outcome_of, slip_of}
use Rattle.rules.specs.declared.order.Terms.{Terms}
use Rattle.rules.specs.declared.quote.Levels.{Levels}
use Rattle.rules.specs.declared.slip.Outcome.{Outcome}
use Rattle.rules.specs.declared.slip.Outcome.TheVariants as outcome
use Rattle.rules.specs.declared.slip.Slip.{Slip}
use Rattle.rules.proofs.Numbered.{kept_append}
use Rattle.rules.proofs.Striking.{writes_none}

-- n after the slips, from before
record After (t : Terms) (before : Notes) (slips : List Slip) (n : Notes) : Type 0 where
  sent : (t.total ≡ 0 → ⊥) → n.sent ≡ before.sent + sent_in slips
  market : n.market ≡ newest_market before.market slips

abbrev Noted : Terms → Notes → List Slip → Option Machine → Type 0
Noted t before slips None = Unit {0}
Noted t before slips (Some s) = After t before slips s.notes

still : (t : Terms) (n : Notes) (prices : Option Levels) → After t n [] (priced_now prices n)
still t n prices = record { sent = λ set. sym (add-zero n.sent); market = refl }

noted_told : (t : Terms) (before : Notes) (slips : List Slip) (s : Machine) (e : Event) → After t before slips s.notes → Noted t before slips (told s e)
noted_told t before slips s e a = elim (ends (s.meaning [] e)) as (λ b. Noted t before slips (cond b None (Some (record { meaning = after s.meaning (e ∷ []); waits = s.waits; notes = s.notes })))) [ true ↦ tt | false ↦ a ]

noted_follows : (t : Terms) (before : Notes) (slips : List Slip) (x : Next) (o : Outcome) (m : Meaning) (n : Notes) (p : Price) → After t before slips n → Noted t before slips (follows x o m n p)
noted_follows t before slips next.Over o m n p a = tt
noted_follows t before slips next.GoesOn outcome.Sent m n p a = a
noted_follows t before slips next.GoesOn outcome.Withheld m n p a = a
noted_follows t before slips next.GoesOn outcome.Unpriced m n p a = a
noted_follows t before slips next.GoesOn outcome.Exceeded m n p a = tt
noted_follows t before slips next.AwaitsSettlement outcome.Sent m n p a = a
noted_follows t before slips next.AwaitsSettlement outcome.Withheld m n p a = noted_told t before slips (watching m n) (event.Settlement p) a
noted_follows t before slips next.AwaitsSettlement outcome.Unpriced m n p a = noted_told t before slips (watching m n) (event.Settlement p) a
noted_follows t before slips next.AwaitsSettlement outcome.Exceeded m n p a = tt

after_slip : (t : Terms) (o : Outcome) (f : Fire) (n : Notes) (k : Tick) → After t n (slip_of t o n.prices f k ∷ []) (noted t o k n)
after_slip t outcome.Sent f n k = record { sent = λ set. cond-false (eqb t.total 0) _ _ (ne_eqb t.total 0 set) ∙ ap (λ x. n.sent + x) (sym (zero-add t.quantity)); market = refl }
after_slip t outcome.Withheld f n k = record { sent = λ set. sym (add-zero n.sent); market = refl }
after_slip t outcome.Unpriced f n k = record { sent = λ set. sym (add-zero n.sent); market = refl }
after_slip t outcome.Exceeded f n k = record { sent = λ set. sym (add-zero n.sent); market = refl }

noted_answered : (t : Terms) (limit : ℕ) (x : Answer) (m : Meaning) (n : Notes) (k : Tick) → let y : Left = answered t limit x m n k in Noted t n y.slips y.machine
noted_answered t limit answer.Wait m n k = still t n n.prices
noted_answered t limit (answer.Fires f) m n k =
    let o : Outcome = outcome_of t limit n.sent n.prices f in
    noted_follows t n (slip_of t o n.prices f k ∷ []) f.next o m (noted t o k n) k.price (after_slip t o f n k)
noted_answered t limit answer.Lapses m n k = tt

noted_quoted : (t : Terms) (limit : ℕ) (w : Bool) (x : Option Tick) (m : Meaning) (n : Notes) → let y : Left = quoted t limit w x m n in Noted t n y.slips y.machine
noted_quoted t limit true x m n = still t n n.prices
noted_quoted t limit false None m n = still t n n.prices
noted_quoted t limit false (Some k) m n = noted_answered t limit (m [] (event.Tick k)) _ n k

noted_settled : (t : Terms) (x : Option Price) (m : Meaning) (n : Notes) → Noted t n [] (settled x m n)
noted_settled t None m n = still t n n.prices
noted_settled t (Some p) m n = noted_told t n [] (watching m n) (event.Settlement p) (still t n n.prices)

same_past : (t : Terms) (n : Notes) (prices : Option Levels) (slips : List Slip) (s : Option Machine) → Noted t (priced_now prices n) slips s → Noted t n slips s
same_past t n prices slips None a = tt
same_past t n prices slips (Some s) a = record { sent = a.sent; market = a.market }

noted_step : (t : Terms) (limit : ℕ) (s : Machine) (e : Own) → let y : Left = machine_step t limit (Some s) e in Noted t s.notes y.slips y.machine
noted_step t limit s (own_placing d x) = noted_told t s.notes [] (with_prices x s) (event.Day d) (still t s.notes x)
noted_step t limit s (own_watched_day d) =
    let prices : Option Levels = cond (eqb t.watched t.traded) None s.notes.prices in
    noted_told t s.notes [] (with_prices prices s) (event.Day d) (still t s.notes prices)
noted_step t limit s (own_traded_day d) = still t s.notes None
noted_step t limit s (own_quote q) = same_past t s.notes _ _ _ (noted_quoted t limit s.waits (tick_of t q) s.meaning _)
noted_step t limit s (own_settlement f) = noted_settled t (option_or f s.notes.market) s.meaning s.notes
noted_step t limit s own_cancel = tt

sent_append : (a b : List Slip) → sent_in (a ++ b) ≡ sent_in a + sent_in b
sent_append a b = ap (sum_by (λ s. s.quantity)) (kept_append (λ s. was_sent s.outcome) a b) ∙ sum_by-append (λ s. s.quantity) (filter (λ s. was_sent s.outcome) a) (filter (λ s. was_sent s.outcome) b)

newest_append : (p : Option Price) (a b : List Slip) → newest_market p (a ++ b) ≡ newest_market (newest_market p a) b
newest_append p [] b = refl
newest_append p (s ∷ a) b = newest_append (Some s.market) a b

after_more : (t : Terms) (m n o : Notes) (a b : List Slip) → After t m a n → After t n b o → After t m (a ++ b) o
after_more t m n o a b x y =
    record {
      sent = λ set. y.sent set ∙ ap (λ z. z + sent_in b) (x.sent set) ∙ add_assoc m.sent (sent_in a) (sent_in b) ∙ ap (λ z. m.sent + z) (sym (sent_append a b));
      market = y.market ∙ ap (λ z. newest_market z b) x.market ∙ sym (newest_append m.market a b);
    }

noted_more : (t : Terms) (limit : ℕ) (before : Notes) (slips : List Slip) (s : Option Machine) (es : List Own) → Noted t before slips s → Noted t before (slips ++ writes t limit s es) (runs t limit s es)
noted_more t limit before slips None [] a = tt
noted_more t limit before slips None (e ∷ es) a = gone es
  where
    gone : (es : List Own) → Noted t before (slips ++ writes t limit None es) (runs t limit None es)
    gone [] = tt
    gone (e ∷ es) = gone es
noted_more t limit before slips (Some s) [] a = subst (λ x. After t before x s.notes) (sym (append-nil slips)) a
noted_more t limit before slips (Some s) (e ∷ es) a =
    let y : Left = machine_step t limit (Some s) e in
    subst (λ x. Noted t before x (runs t limit y.machine es)) (append_assoc slips y.slips (writes t limit y.machine es))
    (noted_more t limit before (slips ++ y.slips) y.machine es (step y.machine y.slips (noted_step t limit s e)))
  where
    step : (u : Option Machine) (b : List Slip) → Noted t s.notes b u → Noted t before (slips ++ b) u
    step None b h = tt
    step (Some u) b h = after_more t before s.notes u.notes slips b a h

pub notes_of_slips : NotesOfSlips
notes_of_slips o limit es s e =
    let n : Notes = record { sent = 0; market = None; prices = None } in
    let slips : List Slip = writes o.terms limit (new_machine o) es in
    let a : After o.terms n slips s.notes = subst (Noted o.terms n slips) e (noted_more o.terms limit n [] (new_machine o) es (still o.terms n None)) in
    ((λ set. a.sent set ∙ zero-add (sent_in slips)), a.market)

-- What is sent stays within the total.
module _ (t : Terms) (limit : ℕ) (set : t.total ≡ 0 → ⊥) where
  slip_within : (n : Notes) (x y z : Bool) (f : Fire) (k : Tick) → n.sent ≤ t.total → exceeds t n.sent ≡ x
      → n.sent + sent_in (slip_of t (cond x outcome.Exceeded (cond y outcome.Unpriced (cond z outcome.Withheld outcome.Sent))) n.prices f k ∷ []) ≤ t.total
  slip_within n true y z f k h e = omega arith
  slip_within n false true z f k h e = omega arith
  slip_within n false false true f k h e = omega arith
  slip_within n false false false f k h e =
      let b : ltb t.total (n.sent + t.quantity) ≡ false = sym (ap (λ x. not x && ltb t.total (n.sent + t.quantity)) (ne_eqb t.total 0 set)) ∙ e in
      omega (arith, ltb-false t.total (n.sent + t.quantity) b)

  answered_within : (x : Answer) (m : Meaning) (n : Notes) (k : Tick) → n.sent ≤ t.total → n.sent + sent_in (answered t limit x m n k).slips ≤ t.total
  answered_within answer.Wait m n k h = omega arith
  answered_within (answer.Fires f) m n k h = slip_within n (exceeds t n.sent) (eqb (asks t n.prices) 0) (held_back t limit f (asks t n.prices)) f k h refl
  answered_within answer.Lapses m n k h = omega arith

  quoted_within : (w : Bool) (x : Option Tick) (m : Meaning) (n : Notes) → n.sent ≤ t.total → n.sent + sent_in (quoted t limit w x m n).slips ≤ t.total
  quoted_within true x m n h = omega arith
  quoted_within false None m n h = omega arith
  quoted_within false (Some k) m n h = answered_within (m [] (event.Tick k)) (after m (event.Tick k ∷ [])) n k h

  step_within : (s : Machine) (e : Own) → s.notes.sent ≤ t.total → s.notes.sent + sent_in (machine_step t limit (Some s) e).slips ≤ t.total
  step_within s (own_placing d x) h = omega arith
  step_within s (own_watched_day d) h = omega arith
  step_within s (own_traded_day d) h = omega arith
  step_within s (own_quote q) h =
      quoted_within s.waits (tick_of t q) s.meaning (priced_now (cond (eqb q.share t.traded) (Some q.levels) s.notes.prices) s.notes) h
  step_within s (own_settlement f) h = omega arith
  step_within s own_cancel h = omega arith

  pub writes_within : (es : List Own) (s : Machine) → s.notes.sent ≤ t.total → s.notes.sent + sent_in (writes t limit (Some s) es) ≤ t.total
  writes_within [] s h = omega arith
  writes_within (e ∷ es) s h = go (machine_step t limit (Some s) e).machine (noted_step t limit s e) (λ u. writes_within es u)
    where
      a : List Slip
      a = (machine_step t limit (Some s) e).slips

      here : s.notes.sent + sent_in a ≤ t.total
      here = step_within s e h

      go : (x : Option Machine) → Noted t s.notes a x → ((u : Machine) → u.notes.sent ≤ t.total → u.notes.sent + sent_in (writes t limit (Some u) es) ≤ t.total)
          → s.notes.sent + sent_in (a ++ writes t limit x es) ≤ t.total
      go None n ih = omega (arith, here, sent_append a (writes t limit None es), ap sent_in (writes_none t limit es))
      go (Some u) n ih =
          let l : u.notes.sent ≤ t.total = omega (arith, here, n.sent set) in
          omega (arith, ih u l, n.sent set, sent_append a (writes t limit (Some u) es))
