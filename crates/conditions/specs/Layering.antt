-- The layers keep the laws of a condition, where the conditions below them do.
use Rattle.std.specs.Prelude.{◌≡◌, ℕ, Bool, true, false, cond, List, [], ◌∷◌, ◌++◌, nat_lt, refl}
use Rattle.std.proofs.Common.{sym, ◌∙◌, ap}
use borrow.Author.Tests.{clash}
use Rattle.values.specs.declared.price.Price.{Price}
use Rattle.values.specs.declared.range.PriceRange.{PriceRange}
use Rattle.conditions.specs.Layers.{late, until, outside, leaving, in_range, later, both, either}
use Rattle.conditions.specs.Meaning.{Meaning, after, over, ends, fires, Live, Idle, Repeats, Proper}
use Rattle.conditions.specs.declared.event.Day.{Day}
use Rattle.conditions.specs.declared.event.Tick.{Tick}
use Rattle.conditions.specs.declared.event.Event.{Event}
use Rattle.conditions.specs.declared.event.Event.TheVariants as event
use Rattle.conditions.specs.declared.event.Next.{Next}
use Rattle.conditions.specs.declared.event.Next.TheVariants as next
use Rattle.conditions.specs.declared.event.Answer.{Answer}
use Rattle.conditions.specs.declared.event.Answer.TheVariants as answer

-- A layer over one condition that makes its answer of the event and the answer below.
abbrev over_answers : (Event → Answer → Answer) → Meaning → Meaning
over_answers f m h e = f e (m h e)

record LawfulLayer (f : Event → Answer → Answer) : Type 0 where
  keeps : (e : Event) (a : Answer) → ends (f e a) ≡ false → ends a ≡ false
  waits : (t : Tick) (a : Answer) → ends (f (event.Tick t) a) ≡ false → f (event.Tick t) answer.Wait ≡ answer.Wait
  settles : (p : Price) → f (event.Settlement p) answer.Wait ≡ answer.Wait
  quiet : (d : Day) (a : Answer) → fires a ≡ false → fires (f (event.Day d) a) ≡ false

module _ (f : Event → Answer → Answer) (law : LawfulLayer f) where
  live : (m : Meaning) (h : List Event) → Live (over_answers f m) h → Live m h
  live m [] x = x
  live m (e ∷ es) x = (law.keeps e (m [] e) x.0, live (after m (e ∷ [])) es x.1)

  idle : (m : Meaning) (h : List Event) (t : Tick) → f (event.Tick t) answer.Wait ≡ answer.Wait → Idle m h t → Idle (over_answers f m) h t
  idle m h t w i =
      record {
        waits = ap (f (event.Tick t)) i.waits ∙ w;
        same = λ es alive e. ap (f e) (i.same es (live (after m h) es alive) e);
      }

  repeats : (m : Meaning) → Repeats m → Repeats (over_answers f m)
  repeats m r =
      record {
        directly = λ h alive t on. idle m (h ++ event.Tick t ∷ []) t (law.waits t (m h (event.Tick t)) on) (r.directly h (live m h alive) t (law.keeps (event.Tick t) (m h (event.Tick t)) on));
        settled = λ h alive t on. idle m (h ++ event.Tick t ∷ event.Settlement t.price ∷ []) t (law.waits t (m h (event.Tick t)) on) (r.settled h (live m h alive) t (law.keeps (event.Tick t) (m h (event.Tick t)) on));
      }

  proper : (m : Meaning) → Proper m → Proper (over_answers f m)
  proper m p =
      record {
        settlements = λ h alive q. ap (f (event.Settlement q)) (p.settlements h (live m h alive) q) ∙ law.settles q;
        days = λ h alive d. law.quiet d (m h (event.Day d)) (p.days h (live m h alive) d);
      }

-- Until
abbrev until_answer : ℕ → Event → Answer → Answer
until_answer l e a = cond (late l e) answer.Lapses a

until_keeps : (b : Bool) (a : Answer) → ends (cond b answer.Lapses a) ≡ false → ends a ≡ false
until_keeps true a e = absurd (clash (sym e))
until_keeps false a e = e

until_quiet : (b : Bool) (a : Answer) → fires a ≡ false → fires (cond b answer.Lapses a) ≡ false
until_quiet true a e = refl
until_quiet false a e = e

until_lawful : (l : ℕ) → LawfulLayer (until_answer l)
until_lawful l =
    record {
      keeps = λ e a on. until_keeps (late l e) a on;
      waits = λ t a on. refl;
      settles = λ p. refl;
      quiet = λ d a q. until_quiet (nat_lt l d.number) a q;
    }

pub until_repeats : (l : ℕ) (m : Meaning) → Repeats m → Repeats (until l m)
until_repeats l m r = repeats (until_answer l) (until_lawful l) m r

pub until_proper : (l : ℕ) (m : Meaning) → Proper m → Proper (until l m)
until_proper l m p = proper (until_answer l) (until_lawful l) m p

-- Range
abbrev range_answer : PriceRange → Bool → Event → Answer → Answer
range_answer r s e a = cond (outside r e) (leaving s a) a

-- an answer outside the range always ends
leaving_ends : (s : Bool) (a : Answer) → ends (leaving s a) ≡ true
leaving_ends true answer.Wait = refl
leaving_ends false answer.Wait = refl
leaving_ends true answer.Lapses = refl
leaving_ends false answer.Lapses = refl
leaving_ends true (answer.Fires f) = refl
leaving_ends false (answer.Fires f) = refl

range_keeps : (b s : Bool) (a : Answer) → ends (cond b (leaving s a) a) ≡ false → ends a ≡ false
range_keeps true s a e = absurd (clash (sym e ∙ leaving_ends s a))
range_keeps false s a e = e

range_waits : (b s : Bool) (a : Answer) → ends (cond b (leaving s a) a) ≡ false → cond b (leaving s answer.Wait) answer.Wait ≡ answer.Wait
range_waits true s a e = absurd (clash (sym e ∙ leaving_ends s a))
range_waits false s a e = refl

range_lawful : (r : PriceRange) (s : Bool) → LawfulLayer (range_answer r s)
range_lawful r s =
    record {
      keeps = λ e a on. range_keeps (outside r e) s a on;
      waits = λ t a on. range_waits (outside r (event.Tick t)) s a on;
      settles = λ p. refl;
      quiet = λ d a q. q;
    }

pub range_repeats : (r : PriceRange) (s : Bool) (m : Meaning) → Repeats m → Repeats (in_range r s m)
range_repeats r s m x = repeats (range_answer r s) (range_lawful r s) m x

pub range_proper : (r : PriceRange) (s : Bool) (m : Meaning) → Proper m → Proper (in_range r s m)
range_proper r s m x = proper (range_answer r s) (range_lawful r s) m x

-- Either
later_first : (a b : Next) → over (later a b) ≡ false → over a ≡ false
later_first next.Over b e = e
later_first next.AwaitsSettlement b e = refl
later_first next.GoesOn b e = refl

later_second : (a b : Next) → over (later a b) ≡ false → over b ≡ false
later_second next.Over b e = absurd (clash (sym e))
later_second next.AwaitsSettlement next.Over e = e
later_second next.AwaitsSettlement next.AwaitsSettlement e = refl
later_second next.AwaitsSettlement next.GoesOn e = refl
later_second next.GoesOn b e = e

both_keeps : (a b : Answer) → ends (both a b) ≡ false → (ends a ≡ false) × (ends b ≡ false)
both_keeps (answer.Fires f) answer.Wait e = (e, refl)
both_keeps (answer.Fires f) (answer.Fires g) e = (later_first f.next g.next e, later_second f.next g.next e)
both_keeps (answer.Fires f) answer.Lapses e = absurd (clash (sym e))
both_keeps answer.Lapses answer.Wait e = absurd (clash (sym e))
both_keeps answer.Lapses (answer.Fires g) e = absurd (clash (sym e))
both_keeps answer.Lapses answer.Lapses e = absurd (clash (sym e))
both_keeps answer.Wait b e = (refl, e)

both_quiet : (a b : Answer) → fires a ≡ false → fires b ≡ false → fires (both a b) ≡ false
both_quiet (answer.Fires f) b ea eb = ea
both_quiet answer.Lapses answer.Wait ea eb = refl
both_quiet answer.Lapses (answer.Fires g) ea eb = eb
both_quiet answer.Lapses answer.Lapses ea eb = refl
both_quiet answer.Wait b ea eb = eb

either_live : (m n : Meaning) (h : List Event) → Live (either m n) h → Live m h × Live n h
either_live m n [] x = (x, x)
either_live m n (e ∷ es) x =
    let on = both_keeps (m [] e) (n [] e) x.0 in
    let rest = either_live (after m (e ∷ [])) (after n (e ∷ [])) es x.1 in
    ((on.0, rest.0), (on.1, rest.1))

either_idle : (m n : Meaning) (h : List Event) (t : Tick) → Idle m h t → Idle n h t → Idle (either m n) h t
either_idle m n h t i j =
    record {
      waits = (λ k. both (i.waits k) (j.waits k));
      same = λ es alive e.
          let l = either_live (after m h) (after n h) es alive in
          (λ k. both (i.same es l.0 e k) (j.same es l.1 e k));
    }

pub either_repeats : (m n : Meaning) → Repeats m → Repeats n → Repeats (either m n)
either_repeats m n r s =
    record {
      directly = λ h alive t on.
          let l = either_live m n h alive in
          let k = both_keeps (m h (event.Tick t)) (n h (event.Tick t)) on in
          either_idle m n (h ++ event.Tick t ∷ []) t (r.directly h l.0 t k.0) (s.directly h l.1 t k.1);
      settled = λ h alive t on.
          let l = either_live m n h alive in
          let k = both_keeps (m h (event.Tick t)) (n h (event.Tick t)) on in
          either_idle m n (h ++ event.Tick t ∷ event.Settlement t.price ∷ []) t (r.settled h l.0 t k.0) (s.settled h l.1 t k.1);
    }

pub either_proper : (m n : Meaning) → Proper m → Proper n → Proper (either m n)
either_proper m n p q =
    record {
      settlements = λ h alive s.
          let l = either_live m n h alive in
          (λ k. both (p.settlements h l.0 s k) (q.settlements h l.1 s k));
      days = λ h alive d.
          let l = either_live m n h alive in
          both_quiet (m h (event.Day d)) (n h (event.Day d)) (p.days h l.0 d) (q.days h l.1 d);
    }
