-- The grid is answered from the latest fire in market mode, and from the latest heeded settlement in fill mode.
use Rattle.std.proofs.Common.{◌≡◌, false, List, [], ◌∷◌, ◌++◌, Some, None, Option, sym, refl, ap, ◌∙◌, append_assoc}
use Rattle.values.specs.declared.price.Price.{Price}
use Rattle.values.specs.declared.range.PriceRange.{PriceRange}
use Rattle.values.specs.declared.step.Step.{Step}
use Rattle.conditions.specs.Meaning.{Meaning, fires}
use Rattle.conditions.specs.declared.event.Tick.{Tick}
use Rattle.conditions.specs.declared.event.Event.{Event}
use Rattle.conditions.specs.declared.event.Event.TheVariants as event
use Rattle.conditions.specs.declared.event.Fire.{Fire}
use Rattle.kinds.specs.Bases.{Unsettled, LatestFire, none, FromLatestFire, LatestFill, unfired, awaited, filled, unless_awaited, FromLatestFill}
use Rattle.kinds.specs.Grids.{fire, stage_by, stage_next, stage_after, answer_at, grid_answer, grid_means, market_terms, fill_terms}
use Rattle.kinds.specs.declared.grid.GridTerms.{GridTerms}
use Rattle.kinds.specs.declared.grid.GridStage.{GridStage}
use Rattle.kinds.specs.declared.grid.GridStage.TheVariants as stage
use Rattle.kinds.specs.Basing.{by_events, quiet_more, latest_quiet, latest_fired}

after_more : (terms : GridTerms) (h : List Event) (e : Event) (s : GridStage) → stage_after terms s (h ++ e ∷ []) ≡ stage_next terms (stage_after terms s h) e
after_more terms [] e s = refl
after_more terms (x ∷ h) e s = after_more terms h e (stage_next terms s x)

module _ (r : PriceRange) (down up : Step) (first : Price) where
  abbrev terms : GridTerms
  terms = market_terms r down up

  abbrev m : Meaning
  m = grid_means terms (stage.Watching first)

  -- in market mode the grid always watches from a base
  abbrev Stands : List Event → GridStage → Type 0
  Stands h s = (b : Price) × (s ≡ stage.Watching b) × LatestFire m first h b

  tick_more : (h : List Event) (b : Price) (t : Tick) (o : Option Fire) → fire terms b t.price ≡ o → stage_after terms (stage.Watching first) h ≡ stage.Watching b
      → LatestFire m first h b → Stands (h ++ event.Tick t ∷ []) (stage_by terms b t.price o)
  tick_more h b t None e is l = (b, refl, latest_quiet m first h b (event.Tick t) l (simp (is, e)))
  tick_more h b t (Some f) e is l = (t.price, refl, latest_fired m first h t (simp (is, e)))

  watch_more : (h : List Event) (b : Price) (e : Event) → stage_after terms (stage.Watching first) h ≡ stage.Watching b → LatestFire m first h b → Stands (h ++ e ∷ []) (stage_next terms (stage.Watching b) e)
  watch_more h b (event.Tick t) is l = tick_more h b t (fire terms b t.price) refl is l
  watch_more h b (event.Day d) is l = (b, refl, latest_quiet m first h b (event.Day d) l (simp is))
  watch_more h b (event.Settlement p) is l = (b, refl, latest_quiet m first h b (event.Settlement p) l (simp is))

  abbrev StandsAfter : List Event → Type 0
  StandsAfter h = Stands h (stage_after terms (stage.Watching first) h)

  more : (h : List Event) (e : Event) → StandsAfter h → StandsAfter (h ++ e ∷ [])
  more h e x =
      let z = watch_more h x.0 e x.1 x.2 in
      (z.0, simp (after_more terms h e (stage.Watching first), x.1) z.1, z.2)

  pub market_latest : FromLatestFire m first (grid_answer terms)
  market_latest h =
      let x = by_events StandsAfter (first, refl, none tt) more h in
      (x.0, x.2, λ t. simp x.1)

-- what a stage in fill mode waits for
abbrev base_of : GridStage → Option Price
base_of (stage.Watching b) = Some b
base_of stage.Awaiting = None

unsettled_more : (late : List Event) (e : Event) → Unsettled late → Unsettled (e ∷ []) → Unsettled (late ++ e ∷ [])
unsettled_more [] e u v = v
unsettled_more (event.Tick t ∷ late) e u v = unsettled_more late e u v
unsettled_more (event.Day d ∷ late) e u v = unsettled_more late e u v
unsettled_more (event.Settlement p ∷ late) e u v = absurd u

module _ (m : Meaning) (first : Price) (e : Event) where
  -- one event more that does not fire, while watching
  fill_quiet : {b : Price} (h : List Event) → LatestFill m first h (Some b) → fires (m h e) ≡ false → LatestFill m first (h ++ e ∷ []) (Some b)
  fill_quiet h (unfired _ q) f = unfired (h ++ e ∷ []) (quiet_more m [] h e q f)
  fill_quiet h (filled _ early late p eh l q) f =
      filled (h ++ e ∷ []) early (late ++ e ∷ []) p (ap (λ l. l ++ e ∷ []) eh ∙ append_assoc early (event.Settlement p ∷ late) (e ∷ [])) l
      (quiet_more m (early ++ event.Settlement p ∷ []) late e q (ap (λ l. fires (m l e)) (append_assoc early (event.Settlement p ∷ []) late ∙ sym eh) ∙ f))

  -- one event more that is no settlement, while one is awaited
  fill_awaits : (h : List Event) → LatestFill m first h None → Unsettled (e ∷ []) → LatestFill m first (h ++ e ∷ []) None
  fill_awaits h (awaited _ early late t eh fired u) v =
      awaited (h ++ e ∷ []) early (late ++ e ∷ []) t (ap (λ l. l ++ e ∷ []) eh ∙ append_assoc early (event.Tick t ∷ late) (e ∷ [])) fired (unsettled_more late e u v)

module _ (down up : Step) (first : Price) where
  abbrev terms_fill : GridTerms
  terms_fill = fill_terms down up

  abbrev n : Meaning
  n = grid_means terms_fill (stage.Watching first)

  abbrev stage_then : List Event → GridStage
  stage_then h = stage_after terms_fill (stage.Watching first) h

  fill_tick : (h : List Event) (b : Price) (t : Tick) (o : Option Fire) → fire terms_fill b t.price ≡ o → stage_then h ≡ stage.Watching b
      → LatestFill n first h (Some b) → LatestFill n first (h ++ event.Tick t ∷ []) (base_of (stage_by terms_fill b t.price o))
  fill_tick h b t None e is l = fill_quiet n first (event.Tick t) h l (simp (is, e))
  fill_tick h b t (Some f) e is l = awaited (h ++ event.Tick t ∷ []) h [] t refl (simp (is, e)) tt

  fill_next : (h : List Event) (s : GridStage) (e : Event) → stage_then h ≡ s → LatestFill n first h (base_of s) → LatestFill n first (h ++ e ∷ []) (base_of (stage_next terms_fill s e))
  fill_next h (stage.Watching b) (event.Tick t) is l = fill_tick h b t (fire terms_fill b t.price) refl is l
  fill_next h (stage.Watching b) (event.Day d) is l = fill_quiet n first (event.Day d) h l (simp is)
  fill_next h (stage.Watching b) (event.Settlement p) is l = fill_quiet n first (event.Settlement p) h l (simp is)
  fill_next h stage.Awaiting (event.Tick t) is l = fill_awaits n first (event.Tick t) h l tt
  fill_next h stage.Awaiting (event.Day d) is l = fill_awaits n first (event.Day d) h l tt
  fill_next h stage.Awaiting (event.Settlement p) is l = filled (h ++ event.Settlement p ∷ []) h [] p refl l tt

  fill_more : (h : List Event) (e : Event) → LatestFill n first h (base_of (stage_then h)) → LatestFill n first (h ++ e ∷ []) (base_of (stage_then (h ++ e ∷ [])))
  fill_more h e l = rw (after_more terms_fill h e (stage.Watching first)) (fill_next h (stage_then h) e refl l)

  fill_answers : (s : GridStage) (t : Tick) → answer_at terms_fill s (event.Tick t) ≡ unless_awaited (grid_answer terms_fill) (base_of s) t.price
  fill_answers (stage.Watching b) t = refl
  fill_answers stage.Awaiting t = refl

  pub fill_latest : FromLatestFill n first (grid_answer terms_fill)
  fill_latest h =
      (base_of (stage_then h), by_events (λ l. LatestFill n first l (base_of (stage_then l))) (unfired [] tt) fill_more h, λ t. fill_answers (stage_then h) t)
