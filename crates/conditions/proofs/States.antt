-- A meaning that is given by states: the repeat law at one tick in each state gives it after every list.
use Rattle.std.proofs.Common.{◌≡◌, false, List, [], ◌∷◌, ◌++◌, sym, refl, ap, ◌∙◌, append-nil}
use Rattle.conditions.specs.Meaning.{Meaning, after, ends, Idle, Repeats}
use Rattle.conditions.specs.declared.event.Tick.{Tick}
use Rattle.conditions.specs.declared.event.Event.{Event}
use Rattle.conditions.specs.declared.event.Event.TheVariants as event
use Rattle.conditions.specs.declared.event.Answer.TheVariants as answer

module _ {S : Type 0} (M : S → Meaning) (told : S → Event → S) where
  -- at the state s the tick is answered Wait and leaves s
  pub record Rests (s : S) (t : Tick) : Type 0 where
    pub waits : M s [] (event.Tick t) ≡ answer.Wait
    pub stays : told s (event.Tick t) ≡ s

  -- what is owed of each state: an event leads to the state that means what is left, and a tick that did not end it rests
  pub record Once : Type 0 where
    pub steps : (s : S) (e : Event) → M (told s e) ≡ after (M s) (e ∷ [])
    pub directly : (s : S) (t : Tick) → ends (M s [] (event.Tick t)) ≡ false → Rests (told s (event.Tick t)) t
    pub settled : (s : S) (t : Tick) → ends (M s [] (event.Tick t)) ≡ false → Rests (told (told s (event.Tick t)) (event.Settlement t.price)) t

  unfoldable all : S → List Event → S
  all s [] = s
  all s (e ∷ es) = all (told s e) es

  module _ (o : Once) where
    all_app : (h b : List Event) (s : S) → all s (h ++ b) ≡ all (all s h) b
    unfolding all
    all_app [] b s = refl
    all_app (e ∷ h) b s = all_app h b (told s e)

    runs : (h : List Event) (s : S) → M (all s h) ≡ after (M s) h
    unfolding all
    runs [] s = refl
    runs (e ∷ h) s = runs h (told s e) ∙ ap (λ (m : Meaning). after m h) (o.steps s e)

    at : (h : List Event) (s : S) (e : Event) → M (all s h) [] e ≡ M s h e
    at h s e = ap (λ (m : Meaning). m [] e) (runs h s) ∙ ap (λ l. M s l e) (append-nil h)

    unchanged : (s : S) (b : List Event) (t : Tick) (u : S) → all s b ≡ u → Rests u t → after (M s) b ≡ after (M s) (b ++ event.Tick t ∷ [])
    unfolding all
    unchanged s b t u e r =
        sym (runs b s) ∙ ap M (e ∙ sym r.stays ∙ ap (λ v. told v (event.Tick t)) (sym e) ∙ sym (all_app b (event.Tick t ∷ []) s)) ∙ runs (b ++ event.Tick t ∷ []) s

    idle : (s : S) (b : List Event) (t : Tick) (u : S) → all s b ≡ u → Rests u t → Idle (M s) b t
    idle s b t u e r =
        record {
          waits = sym (at b s (event.Tick t)) ∙ ap (λ v. M v [] (event.Tick t)) e ∙ r.waits;
          same = λ es live x. ap (λ (m : Meaning). m es x) (unchanged s b t u e r);
        }

    pub lawful : (s : S) → Repeats (M s)
    unfolding all
    lawful s =
        record {
          directly = λ h live t e. idle s (h ++ event.Tick t ∷ []) t _ (all_app h (event.Tick t ∷ []) s) (o.directly (all s h) t (ap ends (at h s (event.Tick t)) ∙ e));
          settled = λ h live t e. idle s (h ++ event.Tick t ∷ event.Settlement t.price ∷ []) t _ (all_app h (event.Tick t ∷ event.Settlement t.price ∷ []) s) (o.settled (all s h) t (ap ends (at h s (event.Tick t)) ∙ e));
        }
