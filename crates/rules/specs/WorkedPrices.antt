-- Prices worked by hand, over the same definitions. Prices are in ten-thousandths of a yuan.
use Rattle.std.specs.Prelude.{◌≡◌, ℕ, true, false, T, List, [], ◌∷◌, ◌++◌, map, is_some, Some, Option, nat_le}
use Rattle.std.proofs.Common.{lit≤}
use Rattle.std.specs.Option.{option_map}
use Rattle.values.specs.Bounds.{least_price, greatest_price, least_percentage, greatest_percentage}
use Rattle.values.specs.Directions.{rising_order, rising_target}
use Rattle.values.specs.declared.days.AveragingDays.TheVariants as days
use Rattle.values.specs.declared.price.Price.{Price}
use Rattle.values.specs.declared.range.PriceRange.{PriceRange}
use Rattle.values.specs.declared.step.Step.{Step}
use Rattle.values.specs.declared.step.Step.TheVariants as step
use Rattle.conditions.specs.Meaning.{Meaning}
use Rattle.conditions.specs.declared.event.Answer.{Answer}
use Rattle.conditions.specs.declared.event.Answer.TheVariants as answer
use Rattle.conditions.specs.declared.event.Day.{Day}
use Rattle.conditions.specs.declared.event.Event.{Event}
use Rattle.conditions.specs.declared.event.Event.TheVariants as event
use Rattle.conditions.specs.declared.event.Next.{Next}
use Rattle.conditions.specs.declared.event.Next.TheVariants as next
use Rattle.conditions.specs.declared.event.Side.{Side}
use Rattle.conditions.specs.declared.event.Side.TheVariants as side
use Rattle.kinds.specs.Kinds.{level_kind, average_kind, profit_kind, market_grid_kind}
use Rattle.kinds.specs.Tests.{average_yes}
use Rattle.kinds.specs.Trails.{rebound}
use Rattle.rules.specs.Book.{new}
use Rattle.rules.specs.Calls.{listing, opening, placing, Call, single, burst}
use Rattle.rules.specs.DaySums.{sums_of}
use Rattle.rules.specs.Numbers.{choice_number}
use Rattle.rules.specs.SlipRule.{outcome_of}
use Rattle.rules.specs.Trace.{trace, written}
use Rattle.rules.specs.declared.order.PriceChoice.TheVariants as choice
use Rattle.rules.specs.declared.order.Terms.{Terms}
use Rattle.rules.specs.declared.quote.Levels.{Levels}
use Rattle.rules.specs.declared.quote.Quote.{Quote}
use Rattle.rules.specs.declared.slip.Outcome.{Outcome}
use Rattle.rules.specs.declared.slip.Outcome.TheVariants as outcome
use Rattle.rules.specs.declared.slip.Slip.{Slip}

-- a number that is a price, and one that is a percentage
abbrev pub price : (n : ℕ) → T (nat_le least_price n) → T (nat_le n greatest_price) → Price
price n low high = record { value = n; low = lit≤ low; high = lit≤ high }

abbrev pub percent : (n : ℕ) → T (nat_le least_percentage n) → T (nat_le n greatest_percentage) → Step
percent n low high = step.Percent (record { value = n; low = lit≤ low; high = lit≤ high })

abbrev pub tick : ℕ → Price → Event
tick moment p = event.Tick (record { moment = moment; price = p })

-- what a condition says: an answer with its trigger price as a number
pub data Said : Type 0 where
  waits : Said
  fires : Side → ℕ → Next → Said
  lapses : Said

abbrev pub said : Answer → Said
said answer.Wait = waits
said (answer.Fires f) = fires f.side f.trigger.value f.next
said answer.Lapses = lapses

-- what it says to events in turn, where h were told before
abbrev pub says : Meaning → List Event → List Event → List Said
says m h [] = []
says m h (e ∷ es) = said (m h e) ∷ says m (h ++ e ∷ []) es

-- a day after four closes that come to 43.00
abbrev pub closes : List Price
closes = price 107500 tt tt ∷ price 107500 tt tt ∷ price 107500 tt tt ∷ price 107500 tt tt ∷ []

abbrev pub day : Day
day = record { number = 1; close = price 107500 tt tt; upper = price 118300 tt tt; lower = price 96800 tt tt; sums = sums_of closes }

-- an average over five days
abbrev pub at_average : Price → Option ℕ
at_average p = option_map (λ t. t.value) (average_yes rising_order days.Five day p)

-- a rebound with M 18.00 by 2%
abbrev pub low_rebound : Meaning
low_rebound = rebound (price 180000 tt tt) (percent 200 tt tt) (record { floor = false; stay = false })

-- a profit at 11.3333 that falls back by 1.6%, once the price was at 11.68
abbrev pub after_top : Price → Said
after_top p = said (profit_kind (price 113333 tt tt) (Some (percent 160 tt tt)) (tick 1000 (price 116800 tt tt) ∷ []) (tick 1001 p))

-- an average over five days that is held for 300 seconds, at 10.75
abbrev pub held_average : Meaning
held_average = average_kind rising_order days.Five (record { seconds = 300; low = lit≤ tt; high = lit≤ tt }) side.Buy

-- a grid from 20.00 by 8% in market mode, under its range from 16.00 to 24.00
abbrev pub grid_range : PriceRange
grid_range = record { low = price 160000 tt tt; high = price 240000 tt tt; ordered = lit≤ tt }

abbrev pub grid : Meaning
grid = market_grid_kind grid_range (price 200000 tt tt) (percent 800 tt tt) (percent 800 tt tt)

-- an order at the last price that bears the mark, and its buy with trigger 10.00
abbrev pub marked : Terms
marked =
    record { number = 7; watched = 5; traded = 5; choice = choice_number choice.Last; own_price = 0; quantity = 100; total = 0; limit_mark = true }

abbrev pub at_last : ℕ → Levels
at_last n = record { last = n; bids = 0 ∷ 0 ∷ 0 ∷ 0 ∷ 0 ∷ []; asks = 0 ∷ 0 ∷ 0 ∷ 0 ∷ 0 ∷ [] }

abbrev pub outcome_at : ℕ → Outcome
outcome_at n = outcome_of marked 200 0 (Some (at_last n)) (record { side = side.Buy; trigger = price 100000 tt tt; next = next.Over })

-- the same in a run: the order is placed on a rise to 10.00, and a burst brings its quote twice
abbrev pub quote_at : ℕ → Quote
quote_at n = record { share = 5; phase = 1; moment = 34200; levels = at_last n }

abbrev pub calls : ℕ → List Call
calls n =
    single (listing 5 (99000 ∷ []))
    ∷ single (opening (record { share = 5; number = 1; close = 99000; upper = 108900; lower = 89100 }))
    ∷ single (placing (record { terms = marked; meaning = level_kind rising_order (price 100000 tt tt) side.Buy }))
    ∷ burst (quote_at n ∷ quote_at n ∷ []) 1
    ∷ []

-- the slips of that run: trigger price, order price and outcome
pub record Seen : Type 0 where
  pub trigger : ℕ
  pub order : ℕ
  pub outcome : Outcome

abbrev pub seen : Slip → Seen
seen s = record { trigger = s.trigger.value; order = s.price; outcome = s.outcome }

abbrev pub slips_at : ℕ → List Seen
slips_at n = map seen (written 7 (trace (record { rows = 1; limit = 200; book = 1 }) new (calls n)))

pub record WorkedPrices : Type 0 where
  -- the rising target of 8.88 by 8% is 9.5904
  pub target : rising_target (percent 800 tt tt) 88800 ≡ 95904
  -- 18.00, 17.00, 17.17, 16.00 and 16.31 wait, and 16.32 fires
  pub rebounds :
      says low_rebound []
      (tick 1 (price 180000 tt tt) ∷ tick 2 (price 170000 tt tt) ∷ tick 3 (price 171700 tt tt) ∷ tick 4 (price 160000 tt tt) ∷ tick 5 (price 163100 tt tt) ∷ tick 6 (price 163200 tt tt) ∷ [])
      ≡ waits ∷ waits ∷ waits ∷ waits ∷ waits ∷ fires side.Buy 163200 next.Over ∷ []
  -- 11.4931 and 11.3333 fire, 11.50 and 11.33 do not
  pub falls_back : after_top (price 114931 tt tt) ≡ fires side.Sell 114931 next.Over
  pub falls_far : after_top (price 113333 tt tt) ≡ fires side.Sell 114931 next.Over
  pub not_yet : after_top (price 115000 tt tt) ≡ waits
  pub no_longer : after_top (price 113300 tt tt) ≡ waits
  -- 10.75 is a yes, 10.74 a no, and at 10.80 the trigger is 10.76
  pub average_yes : is_some (at_average (price 107500 tt tt)) ≡ true
  pub average_no : is_some (at_average (price 107400 tt tt)) ≡ false
  pub average_trigger : at_average (price 108000 tt tt) ≡ Some 107600
  -- with a yes at 1000 and 1299 it fires at 1300
  pub held :
      says held_average (event.Day day ∷ []) (tick 1000 (price 107500 tt tt) ∷ tick 1299 (price 107500 tt tt) ∷ tick 1300 (price 107500 tt tt) ∷ [])
      ≡ waits ∷ waits ∷ fires side.Buy 107500 next.Over ∷ []
  -- 18.40 buys, 16.92 buys at 16.9280, 15.56 lapses
  pub grid_buys :
      says grid [] (tick 1 (price 184000 tt tt) ∷ tick 2 (price 169200 tt tt) ∷ tick 3 (price 155600 tt tt) ∷ [])
      ≡ fires side.Buy 184000 next.GoesOn ∷ fires side.Buy 169280 next.GoesOn ∷ lapses ∷ []
  -- under a limit of 2% with trigger 10.00, a buy at 10.20 is sent, and at 10.2001 withheld
  pub sent : outcome_at 102000 ≡ outcome.Sent
  pub withheld : outcome_at 102001 ≡ outcome.Withheld
  pub sent_in_run : slips_at 102000 ≡ record { trigger = 100000; order = 102000; outcome = outcome.Sent } ∷ []
  pub withheld_in_run : slips_at 102001 ≡ record { trigger = 100000; order = 102001; outcome = outcome.Withheld } ∷ []
