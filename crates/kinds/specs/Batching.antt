-- The batch answers its meaning, keeps the repeat law, and is answered from the latest fire.
use Rattle.std.specs.Prelude.{◌≡◌, ℕ, Bool, false, List, [], ◌∷◌, ◌++◌, Some, None, Option, refl}
use Rattle.values.specs.Directions.{Beyond}
use Rattle.values.specs.Prices.{reached_target}
use Rattle.values.specs.declared.price.Price.{Price}
use Rattle.values.specs.declared.step.Step.{Step}
use Rattle.values.proofs.Pricing.{reached_itself}
use Rattle.conditions.specs.Meaning.{Meaning, ends, Repeats, Proper}
use Rattle.conditions.specs.declared.event.Tick.{Tick}
use Rattle.conditions.specs.declared.event.Event.{Event}
use Rattle.conditions.specs.declared.event.Event.TheVariants as event
use Rattle.conditions.specs.declared.event.Side.{Side}
use Rattle.conditions.proofs.States.{Rests, lawful}
use Rattle.kinds.specs.Bases.{LatestFire, none, FromLatestFire}
use Rattle.kinds.specs.Batches.{batch_answer, base_by, base_next, base_after, batch_means}
use Rattle.kinds.specs.Basing.{by_events, latest_quiet, latest_fired}

module _ (order : ℕ → ℕ → Bool) (target : Step → ℕ → ℕ) (side : Side) (step : Step) where
  abbrev M : Price → Meaning
  M = batch_means order target side step

  abbrev told : Price → Event → Price
  told = base_next order target side step

  abbrev reach : Price → Price → Option Price
  reach = reached_target order target step

  -- the law of the latest fire
  after_more : (h : List Event) (e : Event) (b : Price) → base_after order target side step b (h ++ e ∷ []) ≡ told (base_after order target side step b h) e
  after_more [] e b = refl
  after_more (x ∷ h) e b = after_more h e (told b x)

  module _ (first : Price) where
    abbrev base : List Event → Price
    base h = base_after order target side step first h

    from_tick : (h : List Event) (t : Tick) (o : Option Price) → reach (base h) t.price ≡ o → LatestFire (M first) first h (base h) → LatestFire (M first) first (h ++ event.Tick t ∷ []) (base_by order target side step o (base h) t.price)
    from_tick h t None e l = latest_quiet (M first) first h (base h) (event.Tick t) l (simp e)
    from_tick h t (Some p) e l = latest_fired (M first) first h t (simp e)

    from_next : (h : List Event) (e : Event) → LatestFire (M first) first h (base h) → LatestFire (M first) first (h ++ e ∷ []) (told (base h) e)
    from_next h (event.Tick t) l = from_tick h t (reach (base h) t.price) refl l
    from_next h (event.Day d) l = latest_quiet (M first) first h (base h) (event.Day d) l refl
    from_next h (event.Settlement p) l = latest_quiet (M first) first h (base h) (event.Settlement p) l refl

    from_more : (h : List Event) (e : Event) → LatestFire (M first) first h (base h) → LatestFire (M first) first (h ++ e ∷ []) (base (h ++ e ∷ []))
    from_more h e l = rw (after_more h e first) (from_next h e l)

    pub batch_latest : FromLatestFire (M first) first (batch_answer order target side step)
    batch_latest h = (base h, by_events (λ l. LatestFire (M first) first l (base l)) (none tt) from_more h, λ t. refl)

  module _ (beyond : (p : Price) → Beyond order p.value (target step p.value)) where
    rests_at : (b : Price) (t : Tick) → reach b t.price ≡ None → Rests M told b t
    rests_at b t e = record { waits = simp e; stays = simp e }

    rests_by : (b : Price) (t : Tick) (o : Option Price) → reach b t.price ≡ o → Rests M told (base_by order target side step o b t.price) t
    rests_by b t None e = rests_at b t e
    rests_by b t (Some p) e = rests_at t.price t (reached_itself order target step t.price (beyond t.price))

    rests : (b : Price) (t : Tick) → ends (M b [] (event.Tick t)) ≡ false → Rests M told (told b (event.Tick t)) t
    rests b t n = rests_by b t (reach b t.price) refl

    pub batch_repeats : (b : Price) → Repeats (M b)
    batch_repeats b = lawful M told (record { steps = λ v e. refl; directly = rests; settled = rests }) b

  pub batch_proper : (b : Price) → Proper (M b)
  batch_proper b = record { settlements = λ h live p. refl; days = λ h live d. refl }
