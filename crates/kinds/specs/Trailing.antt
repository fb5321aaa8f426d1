-- The trail answers its meaning and keeps the repeat law.
use Rattle.std.specs.Prelude.{◌≡◌, ℕ, Bool, true, false, cond, not, ◌&&◌, ◌||◌, List, [], ◌∷◌, ◌++◌, Some, None, Option, refl}
use Rattle.std.proofs.Common.{ap, sym, arith}
use Rattle.std.proofs.Math.Bool.{or-false}
use Rattle.std.proofs.Math.Path.{fun_ext}
use Rattle.std.proofs.lemmas.Grind.{common_steps}
use Rattle.std.specs.Option.{option_or}
use Rattle.values.specs.Directions.{TotalOrder, Beyond}
use Rattle.values.specs.declared.price.Price.{Price}
use Rattle.values.specs.declared.step.Step.{Step}
use Rattle.values.proofs.Pricing.{reached_itself}
use Rattle.conditions.specs.Meaning.{Meaning, after, ends, fires_over, Repeats, Proper}
use Rattle.kinds.specs.Trails.{prices, watch, least, some_below, by_target, trigger, watched, trail_means, begun, by_floor}
use Rattle.conditions.specs.declared.event.Tick.{Tick}
use Rattle.conditions.specs.declared.event.Event.{Event}
use Rattle.conditions.specs.declared.event.Event.TheVariants as event
use Rattle.conditions.specs.declared.event.Answer.{Answer}
use Rattle.kinds.specs.declared.trail.TrailTerms.{TrailTerms}
use Rattle.kinds.specs.declared.trail.TrailState.{TrailState}
use Rattle.kinds.specs.declared.trail.TrailState.TheVariants as state
use Rattle.kinds.specs.Prompting.{not_over}
use Rattle.conditions.proofs.States.{Rests, lawful}

module _ (order : ℕ → ℕ → Bool) (target : Step → ℕ → ℕ) (total : TotalOrder order) (terms : TrailTerms) where
  abbrev m : ℕ
  m = terms.mark.value

  abbrev M : TrailState → Meaning
  M = trail_means order target terms

  -- the further back of two prices
  abbrev nearer : Price → Price → Price
  nearer x p = cond (order p.value x.value) p x

  abbrev told : TrailState → Event → TrailState
  told state.Idle (event.Tick t) = begun order terms t.price
  told (state.Tracking x) (event.Tick t) = state.Tracking (nearer x t.price)
  told s (event.Day d) = s
  told s (event.Settlement p) = s

  -- the least of two prices lies strictly below the mark where one of them does
  below_least : (x p : Price) (r : Bool) → not (order m (nearer x p).value) || r ≡ not (order m x.value) || (not (order m p.value) || r)
  below_least x p r =
      let past_p = total.through m p.value x.value in
      let past_x = total.through m x.value p.value in
      let one = total.either p.value x.value in
      grind (arith, common_steps)

  -- the answer by whether an earlier price lay below the mark, by the least price, and by the price itself
  abbrev judged : Bool → Price → Price → Answer
  judged below low p = fires_over terms.side (option_or (by_target order target terms low p) (cond (terms.options.floor && (below && order m p.value)) (Some terms.mark) None))

  idle_step : (b : Bool) (p : Price) (l k : List Price) (u : Price)
      → trigger order target terms (watched order target terms (cond b (state.Tracking p) state.Idle) l) (watched order target terms (cond b (state.Tracking p) state.Idle) k) u
      ≡ trigger order target terms (cond b (p ∷ l) (watch order terms.mark l)) (cond b (p ∷ k) (watch order terms.mark k)) u
  idle_step b p l k u = grind (arith, common_steps)

  track_step : (x p : Price) (l k : List Price) (u : Price)
      → judged (some_below order terms.mark (nearer x p ∷ l)) (least order (nearer x p) k) u ≡ judged (some_below order terms.mark (x ∷ p ∷ l)) (least order x (p ∷ k)) u
  track_step x p l k u =
      ap (λ b. judged b (least order (nearer x p) k) u) (below_least x p (some_below order terms.mark l))

  steps_at : (s : TrailState) (e : Event) (es : List Event) (x : Event) → M (told s e) es x ≡ M s (e ∷ es) x
  steps_at state.Idle (event.Tick t) es (event.Tick u) =
      ap (fires_over terms.side) (idle_step (order t.price.value m) t.price (prices es) (prices es ++ u.price ∷ []) u.price)
  steps_at (state.Tracking x) (event.Tick t) es (event.Tick u) = track_step x t.price (prices es) (prices es ++ u.price ∷ []) u.price
  steps_at state.Idle (event.Day d) es (event.Tick u) = refl
  steps_at (state.Tracking x) (event.Day d) es (event.Tick u) = refl
  steps_at state.Idle (event.Settlement p) es (event.Tick u) = refl
  steps_at (state.Tracking x) (event.Settlement p) es (event.Tick u) = refl
  steps_at s e es (event.Day u) = refl
  steps_at s e es (event.Settlement u) = refl

  pub steps : (s : TrailState) (e : Event) → M (told s e) ≡ after (M s) (e ∷ [])
  steps s e = fun_ext (λ es. fun_ext (λ x. steps_at s e es x))

  -- what the code answers while tracking
  pub answers : (x : Price) (t : Tick)
      → fires_over terms.side (option_or (by_target order target terms (nearer x t.price) t.price) (by_floor order terms x t.price)) ≡ M (state.Tracking x) [] (event.Tick t)
  answers x t = ap (λ b. judged b (nearer x t.price) t.price) (sym (or-false (not (order m x.value))))

  module _ (beyond : (p : Price) → Beyond order p.value (target terms.step p.value)) where
    same_price : (b : Bool) (p : Price) → cond b p p ≡ p
    same_price b p = grind (arith, common_steps)

    -- a price fires nothing where it is the least one itself
    target_waits : (b : Bool) → cond {A = Option Price} b None None ≡ None
    target_waits b = grind (arith, common_steps)

    floor_waits : (f d : Bool) → cond {A = Option Price} (f && ((not d || false) && d)) (Some terms.mark) None ≡ None
    floor_waits f d = grind (arith, common_steps)

    rests_new : (t : Tick) → Rests M told (state.Tracking t.price) t
    rests_new t =
        let p = t.price in
        record {
          waits = simp (same_price, reached_itself order target terms.step p (beyond p), target_waits, floor_waits);
          stays = simp same_price;
        }

    rests_idle : (t : Tick) → order t.price.value m ≡ false → Rests M told state.Idle t
    rests_idle t e =
        record {
          waits = simp e;
          stays = simp e;
        }

    from_idle : (b : Bool) (t : Tick) → b ≡ order t.price.value m → Rests M told (cond b (state.Tracking t.price) state.Idle) t
    from_idle true t e = rests_new t
    from_idle false t e = rests_idle t (sym e)

    from_track : (b : Bool) (x : Price) (t : Tick) → b ≡ order t.price.value x.value → ends (M (state.Tracking x) [] (event.Tick t)) ≡ false → Rests M told (state.Tracking (cond b t.price x)) t
    from_track true x t e n = rests_new t
    from_track false x t e n =
        record {
          waits = not_over terms.side (trigger order target terms (x ∷ []) (x ∷ t.price ∷ []) t.price) n;
          stays = simp (sym e);
        }

    rests : (s : TrailState) (t : Tick) → ends (M s [] (event.Tick t)) ≡ false → Rests M told (told s (event.Tick t)) t
    rests state.Idle t n = from_idle _ t refl
    rests (state.Tracking x) t n = from_track _ x t refl n

    settled_rests : (s : TrailState) (t : Tick) → Rests M told s t → Rests M told (told s (event.Settlement t.price)) t
    settled_rests s t r = r

    pub trail_repeats : (s : TrailState) → Repeats (M s)
    trail_repeats s = lawful M told (record { steps = steps; directly = rests; settled = λ v t e. settled_rests (told v (event.Tick t)) t (rests v t e) }) s

pub trail_proper : (order : ℕ → ℕ → Bool) (target : Step → ℕ → ℕ) (terms : TrailTerms) (s : TrailState) → Proper (trail_means order target terms s)
trail_proper order target terms s = record { settlements = λ h live p. refl; days = λ h live d. refl }
