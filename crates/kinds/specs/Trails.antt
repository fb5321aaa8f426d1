-- Rebound buy and fall-back sell, over the prices of the ticks told.
use Rattle.std.specs.Prelude.{◌≡◌, ℕ, Bool, true, false, cond, not, ◌&&◌, ◌||◌, List, [], ◌∷◌, ◌++◌, Some, None, Option}
use mathlib.Core.List.{Memᴰ}
use Rattle.std.specs.Option.{option_or}
use Rattle.std.specs.List.{AllByRecursion}
use Rattle.values.specs.Directions.{rising_order, rising_target, falling_order, falling_target}
use Rattle.values.specs.Prices.{reached_target}
use Rattle.values.specs.declared.price.Price.{Price}
use Rattle.values.specs.declared.step.Step.{Step}
use Rattle.conditions.specs.Meaning.{Meaning, fires_over}
use Rattle.conditions.specs.declared.event.Event.{Event}
use Rattle.conditions.specs.declared.event.Event.TheVariants as event
use Rattle.conditions.specs.declared.event.Side.TheVariants as side
use Rattle.conditions.specs.declared.event.Answer.TheVariants as answer
use Rattle.kinds.specs.declared.trail.TrailOptions.{TrailOptions}
use Rattle.kinds.specs.declared.trail.TrailTerms.{TrailTerms}
use Rattle.kinds.specs.declared.trail.TrailState.{TrailState}
use Rattle.kinds.specs.declared.trail.TrailState.TheVariants as state

-- the prices of the ticks, in the order told
abbrev pub prices : List Event → List Price
prices [] = []
prices (event.Tick t ∷ es) = t.price ∷ prices es
prices (event.Day d ∷ es) = prices es
prices (event.Settlement p ∷ es) = prices es

-- The words below are the rebound's, where the price turns upward: order is at most, and a target lies above.
-- A fall-back has them mirrored.
module _ (order : ℕ → ℕ → Bool) where
  -- the watch: the prices from the first one at or below the mark on
  abbrev pub watch : Price → List Price → List Price
  watch mark [] = []
  watch mark (p ∷ ps) = cond (order p.value mark.value) (p ∷ ps) (watch mark ps)

  -- the least of some prices, x the first of them
  abbrev pub least : Price → List Price → Price
  least x [] = x
  least x (p ∷ ps) = least (cond (order p.value x.value) p x) ps

  -- one of the prices lies strictly below the mark
  abbrev pub some_below : Price → List Price → Bool
  some_below mark [] = false
  some_below mark (p ∷ ps) = not (order mark.value p.value) || some_below mark ps

  module _ (target : Step → ℕ → ℕ) (terms : TrailTerms) where
    -- the target of the low fires where it is reached; under stay only at prices at or below the mark
    abbrev pub by_target : Price → Price → Option Price
    by_target low price =
        cond (terms.options.stay && not (order price.value terms.mark.value)) None (reached_target order target terms.step low price)

    -- a price at or above the mark fires under floor, once an earlier price of the watch lay strictly below it
    abbrev pub at_floor : List Price → Price → Option Price
    at_floor earlier price =
        cond (terms.options.floor && (some_below terms.mark earlier && order terms.mark.value price.value)) (Some terms.mark) None

    -- the trigger price at the last price of a watch: the target goes before the floor
    abbrev pub trigger : List Price → List Price → Price → Option Price
    trigger earlier [] price = None
    trigger earlier (x ∷ xs) price = option_or (by_target (least x xs) price) (at_floor earlier price)

    -- the watch, where a state stands for what was told before: while tracking, its extreme for the watch so far
    abbrev pub watched : TrailState → List Price → List Price
    watched state.Idle ps = watch terms.mark ps
    watched (state.Tracking x) ps = x ∷ ps

    abbrev pub trail_means : TrailState → Meaning
    trail_means s es (event.Tick t) =
        fires_over terms.side (trigger (watched s (prices es)) (watched s (prices es ++ t.price ∷ [])) t.price)
    trail_means s es (event.Day d) = answer.Wait
    trail_means s es (event.Settlement p) = answer.Wait

-- one of some prices, with none of them below it: what the least of a watch is
pub record LeastOf (order : ℕ → ℕ → Bool) (low : Price) (ps : List Price) : Type 0 where
  pub one_of : Memᴰ low ps
  pub none_below : AllByRecursion (λ p. order low.value p.value ≡ true) ps

abbrev pub LeastIsLeast : (ℕ → ℕ → Bool) → Type 0
LeastIsLeast order = (x : Price) (ps : List Price) → LeastOf order (least order x ps) (x ∷ ps)

-- what the two kinds mean from their placing on
abbrev pub rebound : Price → Step → TrailOptions → Meaning
rebound mark step options = trail_means rising_order rising_target (record { side = side.Buy; mark = mark; step = step; options = options }) state.Idle

abbrev pub fall_back : Price → Step → TrailOptions → Meaning
fall_back mark step options = trail_means falling_order falling_target (record { side = side.Sell; mark = mark; step = step; options = options }) state.Idle

-- What the code's parts answer.
module _ (order : ℕ → ℕ → Bool) (terms : TrailTerms) where
  -- the state once a price came while idle
  abbrev pub begun : Price → TrailState
  begun p = cond (order p.value terms.mark.value) (state.Tracking p) state.Idle

  -- the floor, by the least price before
  abbrev pub by_floor : Price → Price → Option Price
  by_floor before price =
      cond (terms.options.floor && (not (order terms.mark.value before.value) && order terms.mark.value price.value)) (Some terms.mark) None
