-- Held: fires, and is over, at the first tick with an earlier tick of that day at least some seconds before it,
-- such that every tick from that one to this is a yes.
use Rattle.std.specs.Prelude.{ℕ, ◌+◌, Bool, true, false, cond, ◌&&◌, ◌||◌, List, [], ◌∷◌, ◌++◌, is_some, Some, None, Option, nat_le, nat_lt}
use Rattle.values.specs.declared.price.Price.{Price}
use Rattle.conditions.specs.Meaning.{Meaning, fires_over}
use Rattle.conditions.specs.declared.event.Day.{Day}
use Rattle.conditions.specs.declared.event.Tick.{Tick}
use Rattle.conditions.specs.declared.event.Event.{Event}
use Rattle.conditions.specs.declared.event.Event.TheVariants as event
use Rattle.conditions.specs.declared.event.Side.{Side}
use Rattle.conditions.specs.declared.event.Answer.TheVariants as answer

-- The latest day and its ticks so far, the oldest first. A condition in mid-life knows of earlier ticks of that day only this:
-- the least moment of those yes ticks, if there are any, that come directly before the ones listed.
pub record Session : Type 0 where
  pub day : Option Day
  pub since : Option ℕ
  pub ticks : List Tick

abbrev pub today : Session → List Event → Session
today s [] = s
today s (event.Tick t ∷ es) = today (record { day = s.day; since = s.since; ticks = s.ticks ++ t ∷ [] }) es
today s (event.Day d ∷ es) = today (record { day = Some d; since = None; ticks = [] }) es
today s (event.Settlement p ∷ es) = today s es

module _ (test : Day → Price → Option Price) (hold : ℕ) where
  abbrev pub all_yes : Day → List Tick → Bool
  all_yes d [] = true
  all_yes d (t ∷ ts) = is_some (test d t.price) && all_yes d ts

  -- there is a tick at least the hold before the moment, from which on every tick is a yes
  abbrev pub some_start : Day → List Tick → ℕ → Bool
  some_start d [] moment = false
  some_start d (t ∷ ts) moment = (nat_le (t.moment + hold) moment && all_yes d (t ∷ ts)) || some_start d ts moment

  -- the same of the ticks that come before the ones listed
  abbrev pub start_before : Day → Option ℕ → List Tick → ℕ → Bool
  start_before d None ts moment = false
  start_before d (Some since) ts moment = nat_le (since + hold) moment && all_yes d ts

  -- the trigger price at a tick
  abbrev pub held_at : Option Day → Option ℕ → List Tick → Tick → Option Price
  held_at None since ts t = None
  held_at (Some d) since ts t = cond (start_before d since ts t.moment || some_start d ts t.moment) (test d t.price) None

  abbrev pub held_in : Session → Tick → Option Price
  held_in s t = held_at s.day s.since s.ticks t

  abbrev pub held_means : Side → Option Day → Option ℕ → Meaning
  held_means side d since es (event.Tick t) = fires_over side (held_in (today (record { day = d; since = since; ticks = [] }) es) t)
  held_means side d since es (event.Day e) = answer.Wait
  held_means side d since es (event.Settlement p) = answer.Wait

-- What the code's parts answer.

-- the least moment of a run of yes ticks that goes on, begins or breaks
abbrev pub earliest : Option ℕ → ℕ → ℕ
earliest None moment = moment
earliest (Some since) moment = cond (nat_lt since moment) since moment

abbrev pub since_next : Option ℕ → ℕ → Bool → Option ℕ
since_next since moment true = Some (earliest since moment)
since_next since moment false = None

abbrev pub long_enough : ℕ → Option ℕ → ℕ → Bool
long_enough hold None moment = false
long_enough hold (Some since) moment = nat_le (since + hold) moment
