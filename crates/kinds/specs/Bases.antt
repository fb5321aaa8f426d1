-- Where a base comes from, in words that do not follow the program: the law above batches and grids.
use Rattle.std.specs.Prelude.{◌≡◌, true, false, List, [], ◌∷◌, ◌++◌, Some, None, Option}
use Rattle.values.specs.declared.price.Price.{Price}
use Rattle.conditions.specs.Meaning.{Meaning, fires}
use Rattle.conditions.specs.declared.event.Tick.{Tick}
use Rattle.conditions.specs.declared.event.Event.{Event}
use Rattle.conditions.specs.declared.event.Event.TheVariants as event
use Rattle.conditions.specs.declared.event.Answer.{Answer}
use Rattle.conditions.specs.declared.event.Answer.TheVariants as answer

-- no event of the second list fires, told after the first
abbrev pub Quiet : Meaning → List Event → List Event → Type 0
Quiet m early [] = Unit {0}
Quiet m early (e ∷ late) = (fires (m early e) ≡ false) × Quiet m (early ++ e ∷ []) late

-- no event of the list is a settlement
abbrev pub Unsettled : List Event → Type 0
Unsettled [] = Unit {0}
Unsettled (event.Tick t ∷ es) = Unsettled es
Unsettled (event.Day d ∷ es) = Unsettled es
Unsettled (event.Settlement p ∷ es) = ⊥

-- the base after the events h: the price of the latest tick that fired, or the first base where none did
pub data LatestFire (m : Meaning) (first : Price) (h : List Event) : Price → Type 0 where
  none : Quiet m [] h → LatestFire m first h first
  latest : (early late : List Event) (t : Tick) → h ≡ early ++ event.Tick t ∷ late → fires (m early (event.Tick t)) ≡ true
      → Quiet m (early ++ event.Tick t ∷ []) late → LatestFire m first h t.price

-- each tick is answered from the price of the latest tick that fired
abbrev pub FromLatestFire : Meaning → Price → (Price → Price → Answer) → Type 0
FromLatestFire m first answered = (h : List Event) → (base : Price) × LatestFire m first h base × ((t : Tick) → m h (event.Tick t) ≡ answered base t.price)

-- In fill mode a base is the price of the latest heeded settlement, or the first base. A settlement is heeded only if one is awaited,
-- and it is awaited from a fire on until it comes. None says that one is awaited.
pub data LatestFill (m : Meaning) (first : Price) : List Event → Option Price → Type 0 where
  unfired : (h : List Event) → Quiet m [] h → LatestFill m first h (Some first)
  awaited : (h early late : List Event) (t : Tick) → h ≡ early ++ event.Tick t ∷ late → fires (m early (event.Tick t)) ≡ true → Unsettled late → LatestFill m first h None
  filled : (h early late : List Event) (p : Price) → h ≡ early ++ event.Settlement p ∷ late → LatestFill m first early None
      → Quiet m (early ++ event.Settlement p ∷ []) late → LatestFill m first h (Some p)

abbrev pub unless_awaited : (Price → Price → Answer) → Option Price → Price → Answer
unless_awaited answered None price = answer.Wait
unless_awaited answered (Some base) price = answered base price

-- each tick is answered from the price of the latest heeded settlement, and with Wait while one is awaited
abbrev pub FromLatestFill : Meaning → Price → (Price → Price → Answer) → Type 0
FromLatestFill m first answered =
    (h : List Event) → (base : Option Price) × LatestFill m first h base × ((t : Tick) → m h (event.Tick t) ≡ unless_awaited answered base t.price)
