-- Meanings that agree, and what the repeat law leaves to a meaning that was told an event.
use Rattle.std.proofs.Common.{◌≡◌, false, List, [], ◌∷◌, sym, refl, ap, ◌∙◌}
use Rattle.conditions.specs.Meaning.{Meaning, after, ends, Live, Agree, Idle, Repeats}
use Rattle.conditions.specs.declared.event.Event.{Event}
use Rattle.conditions.specs.declared.event.Tick.{Tick}

pub idle_after : (m : Meaning) (e : Event) (h : List Event) (t : Tick) → Idle m (e ∷ h) t → Idle (after m (e ∷ [])) h t
idle_after m e h t i = record { waits = i.waits; same = i.same }

pub repeats_after : (m : Meaning) (e : Event) → Repeats m → ends (m [] e) ≡ false → Repeats (after m (e ∷ []))
repeats_after m e l h =
    record {
      directly = λ hs v t x. idle_after m e _ t (l.directly (e ∷ hs) (h, v) t x);
      settled = λ hs v t x. idle_after m e _ t (l.settled (e ∷ hs) (h, v) t x);
    }

pub agree_after : (m n : Meaning) (e : Event) → Agree m n → ends (m [] e) ≡ false → Agree (after m (e ∷ [])) (after n (e ∷ []))
agree_after m n e a h es v f = a (e ∷ es) (h, v) f

live_over : (m n : Meaning) → Agree m n → (es : List Event) → Live m es → Live n es
live_over m n a [] v = tt
live_over m n a (e ∷ es) v = (ap ends (sym (a [] tt e)) ∙ v.0, live_over (after m (e ∷ [])) (after n (e ∷ [])) (agree_after m n e a v.0) es v.1)

live_back : (m n : Meaning) → Agree m n → (es : List Event) → Live n es → Live m es
live_back m n a [] v = tt
live_back m n a (e ∷ es) v =
    let h : ends (m [] e) ≡ false = ap ends (a [] tt e) ∙ v.0 in
    (h, live_back (after m (e ∷ [])) (after n (e ∷ [])) (agree_after m n e a h) es v.1)

pub agree_sym : (m n : Meaning) → Agree m n → Agree n m
agree_sym m n a es v e = sym (a es (live_back m n a es v) e)

pub agree_trans : (m n o : Meaning) → Agree m n → Agree n o → Agree m o
agree_trans m n o a b es v e = a es v e ∙ b es (live_over m n a es v) e

pub agree_refl : (m : Meaning) → Agree m m
agree_refl m es v e = refl
