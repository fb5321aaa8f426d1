-- What a tick makes of one row.
use Rattle.std.proofs.Common.{◌≡◌, ℕ, Bool, true, false, cond, ◌&&◌, eqb, List, [], ◌∷◌, None, sym, refl, ap, ◌∙◌}
use borrow.Author.Tests.{clash}
use Rattle.conditions.specs.Meaning.{Meaning, after}
use Rattle.conditions.specs.declared.event.Answer.{Answer}
use Rattle.conditions.specs.declared.event.Event.TheVariants as event
use Rattle.conditions.specs.declared.event.Tick.{Tick}
use Rattle.rules.specs.Book.{standing}
use Rattle.rules.specs.Book.{Row as Standing}
use Rattle.rules.specs.Machine.{Notes, Left, silent, answered}
use Rattle.rules.specs.Market.{Market}
use Rattle.rules.specs.declared.order.Terms.{Terms}
use Rattle.rules.specs.declared.slip.Slip.{Slip}
use Rattle.rules.specs.declared.state.OrderState.{OrderState}
use Rattle.rules.specs.declared.state.OrderState.TheVariants as state
use Rattle.book.specs.Turning.{kept, machine_ticked, ticked_left, ticked_row}
use Rattle.book.specs.View.{machine_in, claimed_in, watching_in, watches_now, notes_of, row_view}
use Rattle.book.specs.declared.row.Row.{Row}

-- a row by its parts
abbrev row_in : Terms → OrderState → Meaning → Notes → Standing
row_in t s m n = record { terms = t; machine = machine_in s m n; claimed = claimed_in s }

-- what the tick leaves of it, where b is whether it is of the row's share
abbrev left_in : Bool → Terms → ℕ → Tick → OrderState → Meaning → Notes → Left
left_in b t limit k s m n = cond b (machine_ticked t limit k (machine_in s m n)) (silent (machine_in s m n))

watching_by : (b : Bool) (s : OrderState) → true ≡ b && watching_in s → (b ≡ true) × (s ≡ state.Watching)
watching_by true state.Watching e = (refl, refl)
watching_by true state.Waiting e = absurd (clash (sym e))
watching_by true state.Claimed e = absurd (clash (sym e))
watching_by true state.EndedUnderClaim e = absurd (clash (sym e))
watching_by false s e = absurd (clash (sym e))

-- a row of these terms with no claim, which stays or goes
kept_in : (stays : Bool) (s : OrderState) (t : Terms) (m : Meaning) (n : Notes) → claimed_in s ≡ false
    → kept stays (row_in t s m n) ≡ standing (record { terms = t; machine = cond stays (machine_in s m n) None; claimed = false })
kept_in true state.Watching t m n u = refl
kept_in true state.Waiting t m n u = refl
kept_in true state.Claimed t m n u = cc
kept_in true state.EndedUnderClaim t m n u = cc
kept_in false s t m n u = refl

watching_row : {C : Type 0} (share : ℕ) (r : Row C) → true ≡ watches_now share r → (eqb share r.terms.watched ≡ true) × (r.state ≡ state.Watching)
watching_row share r e = watching_by (eqb share r.terms.watched) r.state e

module _ {C : Type 0} (means : C → Meaning) (mk : Market) (share limit : ℕ) (k : Tick) (r : Row C) where
  -- the row stays as z, or goes, and these slips are written
  abbrev Ticked : Bool → Row C → List Slip → Type 0
  Ticked stays z slips = (kept stays (row_view means mk z) ≡ ticked_row share limit k (row_view means mk r)) × (slips ≡ (ticked_left share limit k (row_view means mk r)).slips)

  -- a row that watches it, where a is the answer and m the meaning after it
  left_answered : (a : Answer) (m : Meaning) → true ≡ watches_now share r → a ≡ means r.condition [] (event.Tick k) → m ≡ after (means r.condition) (event.Tick k ∷ [])
      → answered r.terms limit a m (notes_of mk r) k ≡ ticked_left share limit k (row_view means mk r)
  left_answered a m e ea em =
      let w = watching_row share r e in
      ap (λ x. answered r.terms limit x m (notes_of mk r) k) ea
      ∙ ap (λ x. answered r.terms limit (means r.condition [] (event.Tick k)) x (notes_of mk r) k) em
      ∙ sym
      (ap (λ b. left_in b r.terms limit k r.state (means r.condition) (notes_of mk r)) w.0
      ∙ ap (λ s. left_in true r.terms limit k s (means r.condition) (notes_of mk r)) w.1)

  pub moved : (stays : Bool) (z : Row C) (slips : List Slip) (a : Answer) (m : Meaning) → true ≡ watches_now share r → a ≡ means r.condition [] (event.Tick k)
      → m ≡ after (means r.condition) (event.Tick k ∷ []) → z.terms ≡ r.terms → claimed_in z.state ≡ false
      → cond stays (row_view means mk z).machine None ≡ (answered r.terms limit a m (notes_of mk r) k).machine → slips ≡ (answered r.terms limit a m (notes_of mk r) k).slips → Ticked stays z slips
  moved stays z slips a m e ea em t u hm hs =
      let l = left_answered a m e ea em in (
        kept_in stays z.state z.terms (means z.condition) (notes_of mk z) u
            ∙ ap (λ x. standing (record { terms = x; machine = cond stays (row_view means mk z).machine None; claimed = false })) t
            ∙ ap (λ x. standing (record { terms = r.terms; machine = x; claimed = false })) (hm ∙ ap (λ x. x.machine) l)
            ∙ ap (λ s. standing (record { terms = r.terms; machine = (ticked_left share limit k (row_view means mk r)).machine; claimed = claimed_in s })) (sym (watching_row share r e).1),
        hs ∙ ap (λ x. x.slips) l,
      )
