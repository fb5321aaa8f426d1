-- The slip rule: what is written when an order fires.
use Rattle.std.specs.Prelude.{ℕ, ◌+◌, ◌-◌, ◌*◌, Bool, cond, not, ◌&&◌, Some, None, Option, ◌==◌, nat_lt, slice_index}
use Rattle.conditions.specs.declared.event.Fire.{Fire}
use Rattle.conditions.specs.declared.event.Side.{Side}
use Rattle.conditions.specs.declared.event.Side.TheVariants as side
use Rattle.conditions.specs.declared.event.Tick.{Tick}
use Rattle.rules.specs.Numbers.{choice_number, choice_of}
use Rattle.rules.specs.declared.order.PriceChoice.{PriceChoice}
use Rattle.rules.specs.declared.order.PriceChoice.TheVariants as choice
use Rattle.rules.specs.declared.order.Terms.{Terms}
use Rattle.rules.specs.declared.quote.Levels.{Levels}
use Rattle.rules.specs.declared.slip.Outcome.{Outcome}
use Rattle.rules.specs.declared.slip.Outcome.TheVariants as outcome
use Rattle.rules.specs.declared.slip.Slip.{Slip}

-- the price that a choice takes, beside the order's own; 0 is missing
abbrev pub price_by : PriceChoice → ℕ → Levels → ℕ
price_by choice.OwnPrice own l = own
price_by choice.Last own l = l.last
price_by choice.Bid1 own l = slice_index l.bids 0
price_by choice.Bid2 own l = slice_index l.bids 1
price_by choice.Bid3 own l = slice_index l.bids 2
price_by choice.Bid4 own l = slice_index l.bids 3
price_by choice.Bid5 own l = slice_index l.bids 4
price_by choice.Ask1 own l = slice_index l.asks 0
price_by choice.Ask2 own l = slice_index l.asks 1
price_by choice.Ask3 own l = slice_index l.asks 2
price_by choice.Ask4 own l = slice_index l.asks 3
price_by choice.Ask5 own l = slice_index l.asks 4
price_by choice.HouseDefault own l = l.last

-- the price that an order asks for, by its choice and the traded share's prices of the day; without a quote of the day there is none,
-- for an order at its own price too
abbrev pub price_asked : Option PriceChoice → ℕ → Option Levels → ℕ
price_asked None own prices = 0
price_asked (Some c) own None = 0
price_asked (Some c) own (Some l) = price_by c own l

abbrev pub asks : Terms → Option Levels → ℕ
asks t prices = price_asked (choice_of t.choice) t.own_price prices

-- a total is set, and what was sent before with this quantity exceeds it
abbrev pub exceeds : Terms → ℕ → Bool
exceeds t sent = not (t.total == 0) && nat_lt t.total (sent + t.quantity)

-- a buy price above, or a sell price below, the trigger price by more than the limit, which is in hundredths of a percent
abbrev pub beyond_limit : Side → ℕ → ℕ → ℕ → Bool
beyond_limit side.Buy limit trigger price = nat_lt trigger price && nat_lt (limit * trigger) ((price - trigger) * 10000)
beyond_limit side.Sell limit trigger price = nat_lt price trigger && nat_lt (limit * trigger) ((trigger - price) * 10000)

-- the limit holds for orders that bear its mark, unless they ask for their own price
abbrev pub held_back : Terms → ℕ → Fire → ℕ → Bool
held_back t limit f price = t.limit_mark && (not (t.choice == choice_number choice.OwnPrice) && beyond_limit f.side limit f.trigger.value price)

-- the outcome of a fire, where so much was sent before and the traded share has these prices
abbrev pub outcome_of : Terms → ℕ → ℕ → Option Levels → Fire → Outcome
outcome_of t limit sent prices f =
    cond (exceeds t sent) outcome.Exceeded
    (cond (asks t prices == 0) outcome.Unpriced
    (cond (held_back t limit f (asks t prices)) outcome.Withheld outcome.Sent))

-- an outcome without a price bears 0
abbrev pub price_under : Outcome → ℕ → ℕ
price_under outcome.Sent price = price
price_under outcome.Withheld price = price
price_under outcome.Unpriced price = 0
price_under outcome.Exceeded price = 0

abbrev pub slip_of : Terms → Outcome → Option Levels → Fire → Tick → Slip
slip_of t o prices f k =
    record {
      number = t.number;
      moment = k.moment;
      side = f.side;
      trigger = f.trigger;
      market = k.price;
      price = price_under o (asks t prices);
      quantity = t.quantity;
      outcome = o;
    }
