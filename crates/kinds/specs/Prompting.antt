-- Prompt answers its meaning and keeps the repeat law.
use Rattle.std.specs.Prelude.{◌≡◌, false, List, [], ◌∷◌, Some, None, Option, refl}
use Rattle.std.proofs.Math.Path.{fun_ext}
use Rattle.values.specs.declared.price.Price.{Price}
use Rattle.conditions.specs.Meaning.{Meaning, ends, fires_over, Repeats, Proper}
use Rattle.kinds.specs.Prompts.{asked, prompt_means}
use Rattle.conditions.specs.declared.event.Day.{Day}
use Rattle.conditions.specs.declared.event.Tick.{Tick}
use Rattle.conditions.specs.declared.event.Event.{Event}
use Rattle.conditions.specs.declared.event.Event.TheVariants as event
use Rattle.conditions.specs.declared.event.Side.{Side}
use Rattle.conditions.specs.declared.event.Answer.TheVariants as answer
use Rattle.conditions.proofs.States.{Rests, lawful}

pub not_over : (s : Side) (o : Option Price) → ends (fires_over s o) ≡ false → fires_over s o ≡ answer.Wait
not_over s (Some t) e = cc
not_over s None e = refl

module _ (test : Day → Price → Option Price) (side : Side) where
  abbrev M : Option Day → Meaning
  M = prompt_means test side

  abbrev told : Option Day → Event → Option Day
  told d (event.Tick t) = d
  told d (event.Day e) = Some e
  told d (event.Settlement p) = d

  steps_at : (d : Option Day) (e : Event) (es : List Event) (x : Event) → M (told d e) es x ≡ M d (e ∷ es) x
  steps_at d (event.Tick t) es (event.Tick u) = refl
  steps_at d (event.Day e) es (event.Tick u) = refl
  steps_at d (event.Settlement p) es (event.Tick u) = refl
  steps_at d e es (event.Day u) = refl
  steps_at d e es (event.Settlement u) = refl

  rests : (d : Option Day) (t : Tick) → ends (M d [] (event.Tick t)) ≡ false → Rests M told d t
  rests d t e = record { waits = not_over side (asked test d t.price) e; stays = refl }

  pub prompt_repeats : (d : Option Day) → Repeats (M d)
  prompt_repeats d = lawful M told (record { steps = λ v e. fun_ext (λ es. fun_ext (steps_at v e es)); directly = rests; settled = rests }) d

  pub prompt_proper : (d : Option Day) → Proper (M d)
  prompt_proper d = record { settlements = λ h live p. refl; days = λ h live e. refl }
