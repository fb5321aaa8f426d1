-- Each tick is answered from the price of the latest tick that fired.
use Rattle.std.specs.Prelude.{◌≡◌, true, false, List, [], ◌∷◌, ◌++◌, refl}
use Rattle.std.proofs.Common.{ap, ◌∙◌, sym, subst, append_assoc, append-nil}
use Rattle.values.specs.declared.price.Price.{Price}
use Rattle.conditions.specs.Meaning.{Meaning, fires}
use Rattle.conditions.specs.declared.event.Tick.{Tick}
use Rattle.conditions.specs.declared.event.Event.{Event}
use Rattle.conditions.specs.declared.event.Event.TheVariants as event
use Rattle.kinds.specs.Bases.{Quiet, LatestFire, none, latest}

-- what holds of no events, and of one event more, holds of all lists
module _ (P : List Event → Type 0) (start : P []) (more : (h : List Event) (e : Event) → P h → P (h ++ e ∷ [])) where
  from : (h es : List Event) → P h → P (h ++ es)
  from h [] p = subst P (sym (append-nil h)) p
  from h (e ∷ es) p = subst P (append_assoc h (e ∷ []) es) (from (h ++ e ∷ []) es (more h e p))

  pub by_events : (h : List Event) → P h
  by_events h = from [] h start

pub quiet_more : (m : Meaning) (early late : List Event) (e : Event) → Quiet m early late → fires (m (early ++ late) e) ≡ false → Quiet m early (late ++ e ∷ [])
quiet_more m early [] e q f = (simp append-nil at f, tt)
quiet_more m early (x ∷ late) e q f = (q.0, quiet_more m (early ++ x ∷ []) late e q.1 (rw append_assoc f))

-- one event more that does not fire
pub latest_quiet : (m : Meaning) (first : Price) (h : List Event) (b : Price) (e : Event) → LatestFire m first h b → fires (m h e) ≡ false → LatestFire m first (h ++ e ∷ []) b
latest_quiet m first h b e (none q) f = none (quiet_more m [] h e q f)
latest_quiet m first h b e (latest early late t is fired q) f =
    latest early (late ++ e ∷ []) t (ap (λ l. l ++ e ∷ []) is ∙ append_assoc early (event.Tick t ∷ late) (e ∷ [])) fired
    (quiet_more m (early ++ event.Tick t ∷ []) late e q (ap (λ l. fires (m l e)) (append_assoc early (event.Tick t ∷ []) late ∙ sym is) ∙ f))

-- one tick more that fires
pub latest_fired : (m : Meaning) (first : Price) (h : List Event) (t : Tick) → fires (m h (event.Tick t)) ≡ true → LatestFire m first (h ++ event.Tick t ∷ []) t.price
latest_fired m first h t f = latest h [] t refl f tt
