-- What a condition means: its answer to the last event of every list that it can be told.
use Rattle.std.specs.Prelude.{◌≡◌, Bool, true, false, List, [], ◌∷◌, ◌++◌, Some, None, Option}
use Rattle.values.specs.declared.price.Price.{Price}
use Rattle.conditions.specs.declared.event.Tick.{Tick}
use Rattle.conditions.specs.declared.event.Day.{Day}
use Rattle.conditions.specs.declared.event.Event.{Event}
use Rattle.conditions.specs.declared.event.Event.TheVariants as event
use Rattle.conditions.specs.declared.event.Side.{Side}
use Rattle.conditions.specs.declared.event.Next.{Next}
use Rattle.conditions.specs.declared.event.Next.TheVariants as next
use Rattle.conditions.specs.declared.event.Answer.{Answer}
use Rattle.conditions.specs.declared.event.Answer.TheVariants as answer

-- the events told so far, the oldest first, then the event to answer
abbrev pub Meaning : Type 0
Meaning = List Event → Event → Answer

-- the meaning that is left once the events h were told
abbrev pub after : Meaning → List Event → Meaning
after m h = λ es e. m (h ++ es) e

abbrev pub over : Next → Bool
over next.GoesOn = false
over next.AwaitsSettlement = false
over next.Over = true

-- an answer after which the condition is told no more
abbrev pub ends : Answer → Bool
ends answer.Wait = false
ends (answer.Fires f) = over f.next
ends answer.Lapses = true

abbrev pub fires : Answer → Bool
fires answer.Wait = false
fires (answer.Fires f) = true
fires answer.Lapses = false

-- a trigger price, if there is one, fires, and the condition is over
abbrev pub fires_over : Side → Option Price → Answer
fires_over s None = answer.Wait
fires_over s (Some t) = answer.Fires (record { side = s; trigger = t; next = next.Over })

-- no answer to the events of h ended the condition
abbrev pub Live : Meaning → List Event → Type 0
Live m [] = Unit {0}
Live m (e ∷ es) = (ends (m [] e) ≡ false) × Live (after m (e ∷ [])) es

-- two meanings that give the same answers for as long as the condition lives
abbrev pub Agree : Meaning → Meaning → Type 0
Agree m n = (es : List Event) → Live m es → (e : Event) → m es e ≡ n es e

-- once the events h were told, the tick is answered Wait and alters no later answer
pub record Idle (m : Meaning) (h : List Event) (t : Tick) : Type 0 where
  pub waits : m h (event.Tick t) ≡ answer.Wait
  pub same : Agree (after m h) (after m (h ++ event.Tick t ∷ []))

-- the repeat law: a tick that did not end the condition is idle when it comes again,
-- directly or after a settlement at the tick's own price
pub record Repeats (m : Meaning) : Type 0 where
  pub directly : (h : List Event) → Live m h → (t : Tick) → ends (m h (event.Tick t)) ≡ false → Idle m (h ++ event.Tick t ∷ []) t
  pub settled : (h : List Event) → Live m h → (t : Tick) → ends (m h (event.Tick t)) ≡ false → Idle m (h ++ event.Tick t ∷ event.Settlement t.price ∷ []) t

-- only a tick can fire, and a settlement is always answered Wait
pub record Proper (m : Meaning) : Type 0 where
  pub settlements : (h : List Event) → Live m h → (p : Price) → m h (event.Settlement p) ≡ answer.Wait
  pub days : (h : List Event) → Live m h → (d : Day) → fires (m h (event.Day d)) ≡ false
