-- Prompt: fires at the first yes of a test, and is over.
use Rattle.std.specs.Prelude.{List, [], ◌∷◌, Some, None, Option}
use Rattle.values.specs.declared.price.Price.{Price}
use Rattle.conditions.specs.Meaning.{Meaning, fires_over}
use Rattle.conditions.specs.declared.event.Day.{Day}
use Rattle.conditions.specs.declared.event.Event.{Event}
use Rattle.conditions.specs.declared.event.Event.TheVariants as event
use Rattle.conditions.specs.declared.event.Side.{Side}
use Rattle.conditions.specs.declared.event.Answer.TheVariants as answer

-- the latest day told, where d is the one before the list
abbrev pub latest_day : Option Day → List Event → Option Day
latest_day d [] = d
latest_day d (event.Tick t ∷ es) = latest_day d es
latest_day d (event.Day e ∷ es) = latest_day (Some e) es
latest_day d (event.Settlement p ∷ es) = latest_day d es

-- a test is asked on the latest day, and answers no where there is none
abbrev pub asked : (Day → Price → Option Price) → Option Day → Price → Option Price
asked test None p = None
asked test (Some d) p = test d p

abbrev pub prompt_means : (Day → Price → Option Price) → Side → Option Day → Meaning
prompt_means test s d es (event.Tick t) = fires_over s (asked test (latest_day d es) t.price)
prompt_means test s d es (event.Day e) = answer.Wait
prompt_means test s d es (event.Settlement p) = answer.Wait
