-- The numbers by which refusals, sides, outcomes, states and price choices are known, each in this one place.
use Rattle.std.specs.Prelude.{ℕ, cond, List, [], ◌∷◌, Some, None, Option, ◌==◌}
use Rattle.values.specs.Making.{making_number}
use Rattle.conditions.specs.declared.event.Side.{Side}
use Rattle.conditions.specs.declared.event.Side.TheVariants as side
use Rattle.rules.specs.declared.fault.MarketFault.{MarketFault}
use Rattle.rules.specs.declared.fault.MarketFault.TheVariants as market
use Rattle.rules.specs.declared.fault.PlacingFault.{PlacingFault}
use Rattle.rules.specs.declared.fault.PlacingFault.TheVariants as placing
use Rattle.rules.specs.declared.order.PriceChoice.{PriceChoice}
use Rattle.rules.specs.declared.order.PriceChoice.TheVariants as choice
use Rattle.rules.specs.declared.slip.Outcome.{Outcome}
use Rattle.rules.specs.declared.slip.Outcome.TheVariants as outcome
use Rattle.rules.specs.declared.state.OrderState.{OrderState}
use Rattle.rules.specs.declared.state.OrderState.TheVariants as state

abbrev pub market_number : MarketFault → ℕ
market_number market.Share = 10
market_number market.ListedAlready = 11
market_number market.NotListed = 12
market_number market.TooManyCloses = 13
market_number market.DayNumber = 14
market_number market.DayLimits = 15
market_number market.NoDay = 16
market_number market.Moment = 17
market_number market.Phase = 18
market_number (market.Making f) = making_number f

abbrev pub placing_number : PlacingFault → ℕ
placing_number placing.Places = 19
placing_number placing.Number = 20
placing_number placing.InBook = 21
placing_number placing.NoRow = 22
placing_number (placing.Watched f) = market_number f
placing_number (placing.Traded f) = market_number f
placing_number (placing.Market f) = market_number f
placing_number placing.Quantity = 23
placing_number placing.Total = 24
placing_number placing.Choice = 25
placing_number (placing.Making f) = making_number f
placing_number placing.Lapses = 26
placing_number placing.NoOrder = 27
placing_number placing.UnderClaim = 28
placing_number placing.VoidTicket = 29
placing_number placing.WrongTicket = 30

abbrev pub side_number : Side → ℕ
side_number side.Buy = 1
side_number side.Sell = 2

abbrev pub outcome_number : Outcome → ℕ
outcome_number outcome.Sent = 0
outcome_number outcome.Withheld = 1
outcome_number outcome.Unpriced = 2
outcome_number outcome.Exceeded = 3

-- 0 is the number of an order that is not in the book
abbrev pub state_number : OrderState → ℕ
state_number state.Watching = 1
state_number state.Waiting = 2
state_number state.Claimed = 3
state_number state.EndedUnderClaim = 4

abbrev pub choice_number : PriceChoice → ℕ
choice_number choice.OwnPrice = 0
choice_number choice.Last = 1
choice_number choice.Bid1 = 2
choice_number choice.Bid2 = 3
choice_number choice.Bid3 = 4
choice_number choice.Bid4 = 5
choice_number choice.Bid5 = 6
choice_number choice.Ask1 = 7
choice_number choice.Ask2 = 8
choice_number choice.Ask3 = 9
choice_number choice.Ask4 = 10
choice_number choice.Ask5 = 11
choice_number choice.HouseDefault = 12

abbrev pub choices : List PriceChoice
choices =
    choice.OwnPrice ∷ choice.Last ∷ choice.Bid1 ∷ choice.Bid2 ∷ choice.Bid3 ∷ choice.Bid4 ∷ choice.Bid5
    ∷ choice.Ask1 ∷ choice.Ask2 ∷ choice.Ask3 ∷ choice.Ask4 ∷ choice.Ask5 ∷ choice.HouseDefault ∷ []

abbrev pub choice_among : List PriceChoice → ℕ → Option PriceChoice
choice_among [] n = None
choice_among (c ∷ cs) n = cond (n == choice_number c) (Some c) (choice_among cs n)

-- the choice that a number stands for, if it stands for one
abbrev pub choice_of : ℕ → Option PriceChoice
choice_of n = choice_among choices n
