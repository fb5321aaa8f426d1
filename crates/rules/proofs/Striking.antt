-- Repeats may be struck out of the own events: the machine writes the same slips.
use Rattle.std.proofs.Common.{◌≡◌, ℕ, Bool, true, false, cond, eqb, List, [], ◌∷◌, ◌++◌, Some, None, Option, sym, refl, ap, ◌∙◌, subst, ap₂}
use Rattle.std.specs.Option.{option_or}
use Rattle.std.proofs.lemmas.Bool.{eqb-true, and_parts, false≢true}
use Rattle.values.specs.declared.price.Price.{Price}
use Rattle.conditions.specs.Meaning.{Meaning, after, over, ends, Agree, Repeats}
use Rattle.conditions.specs.declared.event.Answer.{Answer}
use Rattle.conditions.specs.declared.event.Answer.TheVariants as answer
use Rattle.conditions.specs.declared.event.Event.{Event}
use Rattle.conditions.specs.declared.event.Event.TheVariants as event
use Rattle.conditions.specs.declared.event.Next.{Next}
use Rattle.conditions.specs.declared.event.Next.TheVariants as next
use Rattle.conditions.specs.declared.event.Tick.{Tick}
use Rattle.rules.specs.Machine.{Order, Notes, Machine, Left, watching, waiting, silent, told, priced_now, noted, follows, answered, tick_of, quoted, settled, machine_step, writes, to_end, new_machine}
use Rattle.rules.specs.OwnEvents.{Own, own_placing, own_watched_day, own_traded_day, own_quote, own_settlement, own_cancel, same_numbers, same_levels, same_quote, repeats, struck_after, struck}
use Rattle.rules.specs.SlipRule.{outcome_of}
use Rattle.rules.specs.declared.order.Terms.{Terms}
use Rattle.rules.specs.declared.quote.Levels.{Levels}
use Rattle.rules.specs.declared.quote.Quote.{Quote}
use Rattle.rules.specs.declared.slip.Outcome.{Outcome}
use Rattle.rules.specs.declared.slip.Outcome.TheVariants as outcome
use Rattle.rules.proofs.Meanings.{repeats_after, agree_after, agree_sym, agree_trans, agree_refl}

abbrev machine : Meaning → Bool → Notes → Machine
machine m w n = record { meaning = m; waits = w; notes = n }

-- two machines alike but for meanings that agree
data Same : Option Machine → Option Machine → Type 0 where
  ended : Same None None
  alive : (m n : Meaning) (w : Bool) (p : Notes) → Agree m n → Same (Some (machine m w p)) (Some (machine n w p))

same_trans : (s t u : Option Machine) → Same s t → Same t u → Same s u
same_trans s t u ended h = h
same_trans s t u (alive m n w p a) (alive n' o w' p' b) = alive m o w p (agree_trans m n o a b)

same_refl : (s : Option Machine) → Same s s
same_refl None = ended
same_refl (Some s) = alive s.meaning s.meaning s.waits s.notes (agree_refl s.meaning)

abbrev Alike : Left → Left → Type 0
Alike x y = (x.slips ≡ y.slips) × Same x.machine y.machine

-- what is left keeps the repeat law
abbrev Keeps : Option Machine → Type 0
Keeps None = Unit {0}
Keeps (Some s) = Repeats s.meaning

-- One event on two machines that are alike.

unless_same : (x y : Bool) → x ≡ y → (s u : Machine) → (x ≡ false → Same (Some s) (Some u)) → Same (cond x None (Some s)) (cond y None (Some u))
unless_same x y e s u h = subst (λ z. Same (cond x None (Some s)) (cond z None (Some u))) e (one x h)
  where
    one : (z : Bool) → (z ≡ false → Same (Some s) (Some u)) → Same (cond z None (Some s)) (cond z None (Some u))
    one true f = ended
    one false f = f refl

told_same : (m n : Meaning) (w : Bool) (p : Notes) (e : Event) → Agree m n → Same (told (machine m w p) e) (told (machine n w p) e)
told_same m n w p e a = unless_same (ends (m [] e)) (ends (n [] e)) (ap ends (a [] tt e)) _ _ (λ h. alive _ _ w p (agree_after m n e a h))

follows_same : (x : Next) (o : Outcome) (m n : Meaning) (p : Notes) (k : Price) → (over x ≡ false → Agree m n) → Same (follows x o m p k) (follows x o n p k)
follows_same next.Over o m n p k a = ended
follows_same next.GoesOn outcome.Sent m n p k a = alive _ _ _ _ (a refl)
follows_same next.GoesOn outcome.Withheld m n p k a = alive _ _ _ _ (a refl)
follows_same next.GoesOn outcome.Unpriced m n p k a = alive _ _ _ _ (a refl)
follows_same next.GoesOn outcome.Exceeded m n p k a = ended
follows_same next.AwaitsSettlement outcome.Sent m n p k a = alive _ _ _ _ (a refl)
follows_same next.AwaitsSettlement outcome.Withheld m n p k a = told_same m n false p (event.Settlement k) (a refl)
follows_same next.AwaitsSettlement outcome.Unpriced m n p k a = told_same m n false p (event.Settlement k) (a refl)
follows_same next.AwaitsSettlement outcome.Exceeded m n p k a = ended

answered_same : (t : Terms) (limit : ℕ) (x : Answer) (m n : Meaning) (p : Notes) (k : Tick) → (ends x ≡ false → Agree m n) → Alike (answered t limit x m p k) (answered t limit x n p k)
answered_same t limit answer.Wait m n p k a = (refl, alive _ _ _ _ (a refl))
answered_same t limit (answer.Fires f) m n p k a = (refl, follows_same f.next (outcome_of t limit p.sent p.prices f) m n (noted t (outcome_of t limit p.sent p.prices f) k p) k.price a)
answered_same t limit answer.Lapses m n p k a = (refl, ended)

quoted_same : (t : Terms) (limit : ℕ) (w : Bool) (x : Option Tick) (m n : Meaning) (p : Notes) → Agree m n → Alike (quoted t limit w x m p) (quoted t limit w x n p)
quoted_same t limit true x m n p a = (refl, alive _ _ _ _ a)
quoted_same t limit false None m n p a = (refl, alive _ _ _ _ a)
quoted_same t limit false (Some k) m n p a =
    subst (λ y. Alike (answered t limit (m [] (event.Tick k)) (after m (event.Tick k ∷ [])) p k) (answered t limit y (after n (event.Tick k ∷ [])) p k)) (a [] tt (event.Tick k))
    (answered_same t limit (m [] (event.Tick k)) (after m (event.Tick k ∷ [])) (after n (event.Tick k ∷ [])) p k (agree_after m n (event.Tick k) a))

settled_same : (x : Option Price) (m n : Meaning) (p : Notes) → Agree m n → Same (settled x m p) (settled x n p)
settled_same None m n p a = alive _ _ _ _ a
settled_same (Some k) m n p a = told_same m n false p (event.Settlement k) a

step_same : (t : Terms) (limit : ℕ) (e : Own) (s u : Option Machine) → Same s u → Alike (machine_step t limit s e) (machine_step t limit u e)
step_same t limit e s u ended = (refl, ended)
step_same t limit (own_placing d x) s u (alive m n w p a) = (refl, told_same m n w (priced_now x p) (event.Day d) a)
step_same t limit (own_watched_day d) s u (alive m n w p a) = (refl, told_same m n w _ (event.Day d) a)
step_same t limit (own_traded_day d) s u (alive m n w p a) = (refl, alive m n w _ a)
step_same t limit (own_quote q) s u (alive m n w p a) = quoted_same t limit w (tick_of t q) m n _ a
step_same t limit (own_settlement f) s u (alive m n w p a) = (refl, settled_same (option_or f p.market) m n p a)
step_same t limit own_cancel s u (alive m n w p a) = (refl, ended)

-- The law holds of what the machine keeps.

keeps_unless : (x : Bool) (s : Machine) → (x ≡ false → Repeats s.meaning) → Keeps (cond x None (Some s))
keeps_unless true s l = tt
keeps_unless false s l = l refl

keeps_told : (s : Machine) (e : Event) → Repeats s.meaning → Keeps (told s e)
keeps_told s e l = keeps_unless (ends (s.meaning [] e)) _ (repeats_after s.meaning e l)

keeps_follows : (x : Next) (o : Outcome) (m : Meaning) (p : Notes) (k : Price) → (over x ≡ false → Repeats m) → Keeps (follows x o m p k)
keeps_follows next.Over o m p k l = tt
keeps_follows next.GoesOn outcome.Sent m p k l = l refl
keeps_follows next.GoesOn outcome.Withheld m p k l = l refl
keeps_follows next.GoesOn outcome.Unpriced m p k l = l refl
keeps_follows next.GoesOn outcome.Exceeded m p k l = tt
keeps_follows next.AwaitsSettlement outcome.Sent m p k l = l refl
keeps_follows next.AwaitsSettlement outcome.Withheld m p k l = keeps_told (watching m p) (event.Settlement k) (l refl)
keeps_follows next.AwaitsSettlement outcome.Unpriced m p k l = keeps_told (watching m p) (event.Settlement k) (l refl)
keeps_follows next.AwaitsSettlement outcome.Exceeded m p k l = tt

keeps_answered : (t : Terms) (limit : ℕ) (x : Answer) (m : Meaning) (p : Notes) (k : Tick) → (ends x ≡ false → Repeats m) → Keeps (answered t limit x m p k).machine
keeps_answered t limit answer.Wait m p k l = l refl
keeps_answered t limit (answer.Fires f) m p k l = keeps_follows f.next (outcome_of t limit p.sent p.prices f) m _ k.price l
keeps_answered t limit answer.Lapses m p k l = tt

keeps_quoted : (t : Terms) (limit : ℕ) (w : Bool) (x : Option Tick) (m : Meaning) (p : Notes) → Repeats m → Keeps (quoted t limit w x m p).machine
keeps_quoted t limit true x m p l = l
keeps_quoted t limit false None m p l = l
keeps_quoted t limit false (Some k) m p l = keeps_answered t limit (m [] (event.Tick k)) _ p k (repeats_after m (event.Tick k) l)

keeps_settled : (x : Option Price) (m : Meaning) (p : Notes) → Repeats m → Keeps (settled x m p)
keeps_settled None m p l = l
keeps_settled (Some k) m p l = keeps_told (watching m p) (event.Settlement k) l

keeps_step : (t : Terms) (limit : ℕ) (e : Own) (s : Option Machine) → Keeps s → Keeps (machine_step t limit s e).machine
keeps_step t limit e None l = tt
keeps_step t limit (own_placing d x) (Some s) l = keeps_told _ (event.Day d) l
keeps_step t limit (own_watched_day d) (Some s) l = keeps_told _ (event.Day d) l
keeps_step t limit (own_traded_day d) (Some s) l = l
keeps_step t limit (own_quote q) (Some s) l = keeps_quoted t limit s.waits (tick_of t q) s.meaning _ l
keeps_step t limit (own_settlement f) (Some s) l = keeps_settled (option_or f s.notes.market) s.meaning s.notes l
keeps_step t limit own_cancel (Some s) l = tt

-- The same quote again writes nothing and changes nothing.

abbrev renewed : Terms → Quote → Notes → Notes
renewed t q n = priced_now (cond (eqb q.share t.traded) (Some q.levels) n.prices) n

-- the quote has renewed the prices
abbrev Renewed : Terms → Quote → Notes → Type 0
Renewed t q n = renewed t q n ≡ n

renewed_twice : (t : Terms) (q : Quote) (n : Notes) → Renewed t q (renewed t q n)
renewed_twice t q n = ap (λ x. priced_now x n)
    (elim (eqb q.share t.traded) as (λ b. cond b (Some q.levels) (cond b (Some q.levels) n.prices) ≡ cond b (Some q.levels) n.prices) [ true ↦ refl | false ↦ refl ])

renewed_noted : (t : Terms) (q : Quote) (o : Outcome) (n : Notes) (k : Tick) → Renewed t q n → Renewed t q (noted t o k n)
renewed_noted t q o n k h = ap (λ x. priced_now x.prices (noted t o k n)) h

abbrev again : Terms → ℕ → Quote → Option Tick → Option Machine → Left
again t limit q x None = silent None
again t limit q x (Some s) = quoted t limit s.waits x s.meaning (renewed t q s.notes)

abbrev Calm : Terms → ℕ → Quote → Option Tick → Option Machine → Type 0
Calm t limit q x s = Alike (again t limit q x s) (silent s)

calm_notes : (t : Terms) (limit : ℕ) (q : Quote) (x : Option Tick) (m : Meaning) (w : Bool) (n : Notes) → Renewed t q n
    → Alike (quoted t limit w x m n) (silent (Some (machine m w n))) → Calm t limit q x (Some (machine m w n))
calm_notes t limit q x m w n h a = subst (λ y. Alike (quoted t limit w x m y) (silent (Some (machine m w n)))) (sym h) a

calm_waiting : (t : Terms) (limit : ℕ) (q : Quote) (x : Option Tick) (m : Meaning) (n : Notes) → Renewed t q n → Calm t limit q x (Some (waiting m n))
calm_waiting t limit q x m n h = calm_notes t limit q x m true n h (refl, same_refl _)

calm_untold : (t : Terms) (limit : ℕ) (q : Quote) (m : Meaning) (n : Notes) → Renewed t q n → Calm t limit q None (Some (watching m n))
calm_untold t limit q m n h = calm_notes t limit q None m false n h (refl, same_refl _)

-- a condition that answers the tick with Wait and means the same after it
calm_watching : (t : Terms) (limit : ℕ) (q : Quote) (k : Tick) (m : Meaning) (n : Notes) → Renewed t q n
    → m [] (event.Tick k) ≡ answer.Wait → Agree m (after m (event.Tick k ∷ [])) → Calm t limit q (Some k) (Some (watching m n))
calm_watching t limit q k m n r w a =
    calm_notes t limit q (Some k) m false n r
    (subst (λ x. Alike (answered t limit x (after m (event.Tick k ∷ [])) n k) (silent (Some (watching m n)))) (sym w)
    (refl, alive _ _ _ _ (agree_sym m (after m (event.Tick k ∷ [])) a)))

-- after the tick, and after the tick and a settlement at its price
calm_ticked : (t : Terms) (limit : ℕ) (q : Quote) (k : Tick) (m : Meaning) (n : Notes) → Renewed t q n → Repeats m → ends (m [] (event.Tick k)) ≡ false
    → Calm t limit q (Some k) (Some (watching (after m (event.Tick k ∷ [])) n))
calm_ticked t limit q k m n r l h = let i = l.directly [] tt k h in calm_watching t limit q k _ n r i.waits i.same

calm_unless : (t : Terms) (limit : ℕ) (q : Quote) (x : Option Tick) (b : Bool) (s : Machine) → Calm t limit q x (Some s) → Calm t limit q x (cond b None (Some s))
calm_unless t limit q x true s c = (refl, ended)
calm_unless t limit q x false s c = c

calm_settled : (t : Terms) (limit : ℕ) (q : Quote) (k : Tick) (m : Meaning) (n : Notes) → Renewed t q n → Repeats m → ends (m [] (event.Tick k)) ≡ false
    → Calm t limit q (Some k) (told (watching (after m (event.Tick k ∷ [])) n) (event.Settlement k.price))
calm_settled t limit q k m n r l h =
    let i = l.settled [] tt k h in
    calm_unless t limit q (Some k) (ends (m (event.Tick k ∷ []) (event.Settlement k.price))) _ (calm_watching t limit q k _ n r i.waits i.same)

calm_follows : (t : Terms) (limit : ℕ) (q : Quote) (k : Tick) (m : Meaning) (n : Notes) (x : Next) (o : Outcome) → Renewed t q n → Repeats m
    → ends (m [] (event.Tick k)) ≡ over x → Calm t limit q (Some k) (follows x o (after m (event.Tick k ∷ [])) n k.price)
calm_follows t limit q k m n next.Over o r l h = (refl, ended)
calm_follows t limit q k m n next.GoesOn outcome.Sent r l h = calm_ticked t limit q k m n r l h
calm_follows t limit q k m n next.GoesOn outcome.Withheld r l h = calm_ticked t limit q k m n r l h
calm_follows t limit q k m n next.GoesOn outcome.Unpriced r l h = calm_ticked t limit q k m n r l h
calm_follows t limit q k m n next.GoesOn outcome.Exceeded r l h = (refl, ended)
calm_follows t limit q k m n next.AwaitsSettlement outcome.Sent r l h = calm_waiting t limit q (Some k) _ n r
calm_follows t limit q k m n next.AwaitsSettlement outcome.Withheld r l h = calm_settled t limit q k m n r l h
calm_follows t limit q k m n next.AwaitsSettlement outcome.Unpriced r l h = calm_settled t limit q k m n r l h
calm_follows t limit q k m n next.AwaitsSettlement outcome.Exceeded r l h = (refl, ended)

calm_answered : (t : Terms) (limit : ℕ) (q : Quote) (k : Tick) (m : Meaning) (n : Notes) (x : Answer) → Renewed t q n → Repeats m → m [] (event.Tick k) ≡ x
    → Calm t limit q (Some k) (answered t limit x (after m (event.Tick k ∷ [])) n k).machine
calm_answered t limit q k m n answer.Wait r l e = calm_ticked t limit q k m n r l (ap ends e)
calm_answered t limit q k m n (answer.Fires f) r l e =
    let o = outcome_of t limit n.sent n.prices f in
    calm_follows t limit q k m _ f.next o (renewed_noted t q o n k r) l (ap ends e)
calm_answered t limit q k m n answer.Lapses r l e = (refl, ended)

calm_quoted : (t : Terms) (limit : ℕ) (q : Quote) (w : Bool) (x : Option Tick) (m : Meaning) (n : Notes) → Renewed t q n → Repeats m → Calm t limit q x (quoted t limit w x m n).machine
calm_quoted t limit q true x m n r l = calm_waiting t limit q x m n r
calm_quoted t limit q false None m n r l = calm_untold t limit q m n r
calm_quoted t limit q false (Some k) m n r l = calm_answered t limit q k m n (m [] (event.Tick k)) r l refl

-- the machine has had the event, and if that is a quote it is calm at it
abbrev Calmed : Terms → ℕ → Own → Option Machine → Type 0
Calmed t limit (own_quote q) s = Calm t limit q (tick_of t q) s
Calmed t limit (own_placing d x) s = Unit {0}
Calmed t limit (own_watched_day d) s = Unit {0}
Calmed t limit (own_traded_day d) s = Unit {0}
Calmed t limit (own_settlement f) s = Unit {0}
Calmed t limit own_cancel s = Unit {0}

calmed : (t : Terms) (limit : ℕ) (e : Own) (s : Option Machine) → Keeps s → Calmed t limit e (machine_step t limit s e).machine
calmed t limit (own_quote q) None l = (refl, ended)
calmed t limit (own_quote q) (Some s) l = calm_quoted t limit q s.waits (tick_of t q) s.meaning (renewed t q s.notes) (renewed_twice t q s.notes) l
calmed t limit (own_placing d x) s l = tt
calmed t limit (own_watched_day d) s l = tt
calmed t limit (own_traded_day d) s l = tt
calmed t limit (own_settlement f) s l = tt
calmed t limit own_cancel s l = tt

calm_step : (t : Terms) (limit : ℕ) (q : Quote) (s : Option Machine) → Calm t limit q (tick_of t q) s → Alike (machine_step t limit s (own_quote q)) (silent s)
calm_step t limit q None c = c
calm_step t limit q (Some s) c = c

-- quotes that pass the test are equal
numbers_path : (xs ys : List ℕ) → same_numbers xs ys ≡ true → xs ≡ ys
numbers_path [] [] h = refl
numbers_path [] (y ∷ ys) h = absurd (false≢true h)
numbers_path (x ∷ xs) [] h = absurd (false≢true h)
numbers_path (x ∷ xs) (y ∷ ys) h = let p = and_parts (eqb x y) (same_numbers xs ys) h in ap₂ ◌∷◌ (eqb-true x y p.0) (numbers_path xs ys p.1)

levels_path : (a b : Levels) → same_levels a b ≡ true → a ≡ b
levels_path a b h =
    let h₁ = and_parts (eqb a.last b.last) _ h in
    let h₂ = and_parts (same_numbers a.bids b.bids) _ h₁.1 in
    λ i. record { last = eqb-true _ _ h₁.0 i; bids = numbers_path a.bids b.bids h₂.0 i; asks = numbers_path a.asks b.asks h₂.1 i }

quote_path : (a b : Quote) → same_quote a b ≡ true → a ≡ b
quote_path a b h =
    let h₁ = and_parts (eqb a.share b.share) _ h in
    let h₂ = and_parts (eqb a.phase b.phase) _ h₁.1 in
    let h₃ = and_parts (eqb a.moment b.moment) _ h₂.1 in
    λ i. record { share = eqb-true _ _ h₁.0 i; phase = eqb-true _ _ h₂.0 i; moment = eqb-true _ _ h₃.0 i; levels = levels_path a.levels b.levels h₃.1 i }

-- a repeat: both are one quote, so the machine that has had it is calm at it
calm_repeat : (t : Terms) (limit : ℕ) (p e : Own) (s : Option Machine) → repeats p e ≡ true → Calmed t limit p s → Alike (machine_step t limit s e) (silent s)
calm_repeat t limit (own_quote a) (own_quote b) s h c = calm_step t limit b s (subst (λ q. Calm t limit q (tick_of t q) s) (quote_path a b h) c)
calm_repeat t limit (own_quote a) (own_placing d x) s h c = absurd (false≢true h)
calm_repeat t limit (own_quote a) (own_watched_day d) s h c = absurd (false≢true h)
calm_repeat t limit (own_quote a) (own_traded_day d) s h c = absurd (false≢true h)
calm_repeat t limit (own_quote a) (own_settlement f) s h c = absurd (false≢true h)
calm_repeat t limit (own_quote a) own_cancel s h c = absurd (false≢true h)
calm_repeat t limit (own_placing d x) e s h c = absurd (false≢true h)
calm_repeat t limit (own_watched_day d) e s h c = absurd (false≢true h)
calm_repeat t limit (own_traded_day d) e s h c = absurd (false≢true h)
calm_repeat t limit (own_settlement f) e s h c = absurd (false≢true h)
calm_repeat t limit own_cancel e s h c = absurd (false≢true h)

-- two machines that are alike, one fed the events and one fed them struck, write the same
abbrev Follows : Terms → ℕ → List Own → Type 0
Follows t limit es = (p : Own) (s u : Option Machine) → Keeps s → Same s u → Calmed t limit p s → writes t limit s es ≡ writes t limit u (struck_after p es)

struck_one : (t : Terms) (limit : ℕ) (e : Own) (es : List Own) → Follows t limit es → (p : Own) (s u : Option Machine) → Keeps s → Same s u → Calmed t limit p s
    → (b : Bool) → repeats p e ≡ b → writes t limit s (e ∷ es) ≡ writes t limit u (cond b (struck_after e es) (e ∷ struck_after e es))
struck_one t limit e es ih p s u l r c true h =
    let q = calm_repeat t limit p e s h c in
    ap (λ ss. ss ++ writes t limit (machine_step t limit s e).machine es) q.0
    ∙ ih e (machine_step t limit s e).machine u (keeps_step t limit e s l) (same_trans _ _ _ q.1 r) (calmed t limit e s l)
struck_one t limit e es ih p s u l r c false h =
    let q = step_same t limit e s u r in
    ap₂ ◌++◌ q.0 (ih e (machine_step t limit s e).machine (machine_step t limit u e).machine (keeps_step t limit e s l) q.1 (calmed t limit e s l))

writes_after : (t : Terms) (limit : ℕ) (es : List Own) → Follows t limit es
writes_after t limit [] p s u l r c = refl
writes_after t limit (e ∷ es) p s u l r c = struck_one t limit e es (writes_after t limit es) p s u l r c (repeats p e) refl

pub writes_struck : (limit : ℕ) (o : Order) → Repeats o.meaning → (es : List Own) → writes o.terms limit (new_machine o) es ≡ writes o.terms limit (new_machine o) (struck es)
writes_struck limit o l [] = refl
writes_struck limit o l (e ∷ es) =
    let s : Option Machine = (machine_step o.terms limit (new_machine o) e).machine in
    ap (λ ss. (machine_step o.terms limit (new_machine o) e).slips ++ ss)
    (writes_after o.terms limit es e s s (keeps_step o.terms limit e (new_machine o) l) (same_refl s) (calmed o.terms limit e (new_machine o) l))

-- what comes after the end writes nothing
pub writes_none : (t : Terms) (limit : ℕ) (es : List Own) → writes t limit None es ≡ []
writes_none t limit [] = refl
writes_none t limit (e ∷ es) = writes_none t limit es

pub writes_to_end : (t : Terms) (limit : ℕ) (s : Option Machine) (es : List Own) → writes t limit s es ≡ writes t limit s (to_end t limit s es)
writes_to_end t limit None es = writes_none t limit es
writes_to_end t limit (Some s) [] = refl
writes_to_end t limit (Some s) (e ∷ es) = ap (λ ss. (machine_step t limit (Some s) e).slips ++ ss) (writes_to_end t limit (machine_step t limit (Some s) e).machine es)
