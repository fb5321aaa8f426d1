-- The grid answers its meaning and keeps the repeat law.
use Rattle.std.specs.Prelude.{◌≡◌, false, Some, None, Option, refl}
use Rattle.values.specs.Directions.{Beyond, rising_order, rising_target, falling_order, falling_target}
use Rattle.values.specs.declared.price.Price.{Price}
use Rattle.values.proofs.Pricing.{reached_itself}
use Rattle.conditions.specs.Meaning.{Meaning, fires, Repeats, Proper}
use Rattle.kinds.specs.Grids.{allowed, fire, moved, stage_by, stage_next, stage_after, answer_at, grid_means}
use Rattle.conditions.specs.declared.event.Tick.{Tick}
use Rattle.conditions.specs.declared.event.Event.{Event}
use Rattle.conditions.specs.declared.event.Event.TheVariants as event
use Rattle.conditions.specs.declared.event.Fire.{Fire}
use Rattle.conditions.specs.declared.event.Answer.TheVariants as answer
use Rattle.kinds.specs.declared.grid.GridMode.{GridMode}
use Rattle.kinds.specs.declared.grid.GridMode.TheVariants as mode
use Rattle.kinds.specs.declared.grid.GridTerms.{GridTerms}
use Rattle.kinds.specs.declared.grid.GridStage.{GridStage}
use Rattle.kinds.specs.declared.grid.GridStage.TheVariants as stage
use Rattle.conditions.proofs.States.{Rests, lawful}

allowed_none : (m : GridMode) → allowed m None ≡ None
allowed_none (mode.Market r) = refl
allowed_none mode.Fill = refl

module _ (terms : GridTerms)
    (down : (p : Price) → Beyond falling_order p.value (falling_target terms.down p.value))
    (up : (p : Price) → Beyond rising_order p.value (rising_target terms.up p.value)) where
  abbrev M : GridStage → Meaning
  M = grid_means terms

  abbrev told : GridStage → Event → GridStage
  told = stage_next terms

  -- a price fires nothing from itself as the base
  fire_itself : (p : Price) → fire terms p p ≡ None
  fire_itself p =
      simp (reached_itself falling_order falling_target terms.down p (down p), reached_itself rising_order rising_target terms.up p (up p), allowed_none)

  -- a base from which the tick fires nothing
  rests_at : (base : Price) (t : Tick) → fire terms base t.price ≡ None → Rests M told (stage.Watching base) t
  rests_at base t e = record { waits = simp e; stays = simp e }

  rests_new : (t : Tick) → Rests M told (stage.Watching t.price) t
  rests_new t = rests_at t.price t (fire_itself t.price)

  rests_awaiting : (t : Tick) → Rests M told stage.Awaiting t
  rests_awaiting t = record { waits = refl; stays = refl }

  rests_moved : (m : GridMode) (t : Tick) → Rests M told (moved m t.price) t
  rests_moved (mode.Market r) t = rests_new t
  rests_moved mode.Fill t = rests_awaiting t

  rests_by : (base : Price) (t : Tick) (o : Option Fire) → fire terms base t.price ≡ o → Rests M told (stage_by terms base t.price o) t
  rests_by base t None e = rests_at base t e
  rests_by base t (Some f) e = rests_moved terms.mode t

  directly : (s : GridStage) (t : Tick) → Rests M told (told s (event.Tick t)) t
  directly (stage.Watching base) t = rests_by base t (fire terms base t.price) refl
  directly stage.Awaiting t = rests_awaiting t

  -- a settlement at the tick's price leaves a stage at rest
  settled : (s : GridStage) (t : Tick) → Rests M told s t → Rests M told (told s (event.Settlement t.price)) t
  settled (stage.Watching base) t r = r
  settled stage.Awaiting t r = rests_new t

  pub grid_repeats : (s : GridStage) → Repeats (M s)
  grid_repeats s =
      lawful M told (record { steps = λ v e. refl; directly = λ v t e. directly v t; settled = λ v t e. settled (told v (event.Tick t)) t (directly v t) }) s

pub grid_proper : (terms : GridTerms) (s : GridStage) → Proper (grid_means terms s)
grid_proper terms s =
    record {
      settlements = λ h live p. quiet_settlement (stage_after terms s h) p;
      days = λ h live d. quiet_day (stage_after terms s h) d;
    }
  where
    quiet_settlement : (v : GridStage) (p : Price) → answer_at terms v (event.Settlement p) ≡ answer.Wait
    quiet_settlement (stage.Watching base) p = refl
    quiet_settlement stage.Awaiting p = refl

    quiet_day : (v : GridStage) (d : _) → fires (answer_at terms v (event.Day d)) ≡ false
    quiet_day (stage.Watching base) d = refl
    quiet_day stage.Awaiting d = refl
