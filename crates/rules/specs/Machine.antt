-- The order machine: fed an order, the limit and its own events, it writes the order's slips.
use Rattle.std.specs.Prelude.{ℕ, ◌+◌, Bool, true, false, cond, ◌&&◌, List, [], ◌∷◌, ◌++◌, Some, None, Option, ◌==◌}
use Rattle.std.specs.Option.{option_map, option_or}
use Rattle.values.specs.Prices.{priced}
use Rattle.values.specs.declared.price.Price.{Price}
use Rattle.conditions.specs.Meaning.{Meaning, after, ends}
use Rattle.conditions.specs.declared.event.Answer.{Answer}
use Rattle.conditions.specs.declared.event.Answer.TheVariants as answer
use Rattle.conditions.specs.declared.event.Event.{Event}
use Rattle.conditions.specs.declared.event.Event.TheVariants as event
use Rattle.conditions.specs.declared.event.Fire.{Fire}
use Rattle.conditions.specs.declared.event.Next.{Next}
use Rattle.conditions.specs.declared.event.Next.TheVariants as next
use Rattle.conditions.specs.declared.event.Tick.{Tick}
use Rattle.rules.specs.Bounds.{continuous}
use Rattle.rules.specs.OwnEvents.{Own, own_placing, own_watched_day, own_traded_day, own_quote, own_settlement, own_cancel}
use Rattle.rules.specs.SlipRule.{outcome_of, slip_of}
use Rattle.rules.specs.declared.order.Terms.{Terms}
use Rattle.rules.specs.declared.quote.Levels.{Levels}
use Rattle.rules.specs.declared.quote.Quote.{Quote}
use Rattle.rules.specs.declared.slip.Outcome.{Outcome}
use Rattle.rules.specs.declared.slip.Outcome.TheVariants as outcome
use Rattle.rules.specs.declared.slip.Slip.{Slip}

-- an order: its terms, and what its condition means
pub record Order : Type 0 where
  pub terms : Terms
  pub meaning : Meaning

abbrev pub number_of : Order → ℕ
number_of o = o.terms.number

-- What is kept of the order's slips, the quantities of those that were sent, where a total is allowed, and the market price of the newest,
-- and the traded share's prices of the day.
pub record Notes : Type 0 where
  pub sent : ℕ
  pub market : Option Price
  pub prices : Option Levels

-- a machine: what its condition still means, whether it waits for a settlement, and its notes
pub record Machine : Type 0 where
  pub meaning : Meaning
  pub waits : Bool
  pub notes : Notes

abbrev pub watching : Meaning → Notes → Machine
watching m n = record { meaning = m; waits = false; notes = n }

abbrev pub waiting : Meaning → Notes → Machine
waiting m n = record { meaning = m; waits = true; notes = n }

-- what an event leaves of a machine, nothing once the order has ended, and the slips that it wrote
pub record Left : Type 0 where
  pub machine : Option Machine
  pub slips : List Slip

abbrev pub silent : Option Machine → Left
silent s = record { machine = s; slips = [] }

-- the condition is told a day or a settlement; an answer that ends it ends the order
abbrev pub told : Machine → Event → Option Machine
told s e = cond (ends (s.meaning [] e)) None (Some (record { meaning = after s.meaning (e ∷ []); waits = s.waits; notes = s.notes }))

-- the notes with the traded share's prices as they now are
abbrev pub priced_now : Option Levels → Notes → Notes
priced_now prices n = record { sent = n.sent; market = n.market; prices = prices }

abbrev pub with_prices : Option Levels → Machine → Machine
with_prices prices s = record { meaning = s.meaning; waits = s.waits; notes = priced_now prices s.notes }

-- the notes once a slip was written; quantities are counted where the order allows a total
abbrev pub sent_with : Terms → Outcome → ℕ → ℕ
sent_with t outcome.Sent sent = cond (t.total == 0) sent (sent + t.quantity)
sent_with t outcome.Withheld sent = sent
sent_with t outcome.Unpriced sent = sent
sent_with t outcome.Exceeded sent = sent

abbrev pub noted : Terms → Outcome → Tick → Notes → Notes
noted t o k n = record { sent = sent_with t o n.sent; market = Some k.price; prices = n.prices }

-- What follows a fire with its outcome, where m and n are meaning and notes after it: over and an exceeded total end the order;
-- if settlement is awaited it waits for that of a slip that was sent, and any other is settled at the market price at once.
abbrev pub follows : Next → Outcome → Meaning → Notes → Price → Option Machine
follows next.Over o m n p = None
follows next.GoesOn outcome.Sent m n p = Some (watching m n)
follows next.GoesOn outcome.Withheld m n p = Some (watching m n)
follows next.GoesOn outcome.Unpriced m n p = Some (watching m n)
follows next.GoesOn outcome.Exceeded m n p = None
follows next.AwaitsSettlement outcome.Sent m n p = Some (waiting m n)
follows next.AwaitsSettlement outcome.Withheld m n p = told (watching m n) (event.Settlement p)
follows next.AwaitsSettlement outcome.Unpriced m n p = told (watching m n) (event.Settlement p)
follows next.AwaitsSettlement outcome.Exceeded m n p = None

-- one slip for a fire
abbrev pub fired : Terms → Outcome → Fire → Meaning → Notes → Tick → Left
fired t o f m n k = record { machine = follows f.next o m (noted t o k n) k.price; slips = slip_of t o n.prices f k ∷ [] }

-- what an answer to a tick does, where m is the meaning after it
abbrev pub answered : Terms → ℕ → Answer → Meaning → Notes → Tick → Left
answered t limit answer.Wait m n k = silent (Some (watching m n))
answered t limit (answer.Fires f) m n k = fired t (outcome_of t limit n.sent n.prices f) f m n k
answered t limit answer.Lapses m n k = silent None

-- the tick that a quote is for an order that watches its share: in continuous trading, at the last price
abbrev pub tick_of : Terms → Quote → Option Tick
tick_of t q = cond (q.share == t.watched && q.phase == continuous) (option_map (λ p. record { moment = q.moment; price = p }) (priced q.levels.last)) None

abbrev pub ticked : Terms → ℕ → Option Tick → Meaning → Notes → Left
ticked t limit None m n = silent (Some (watching m n))
ticked t limit (Some k) m n = answered t limit (m [] (event.Tick k)) (after m (event.Tick k ∷ [])) n k

-- a quote, once it has renewed the prices: who waits is told nothing
abbrev pub quoted : Terms → ℕ → Bool → Option Tick → Meaning → Notes → Left
quoted t limit true k m n = silent (Some (waiting m n))
quoted t limit false k m n = ticked t limit k m n

-- a settlement: the condition is told the fill price, or the newest slip's market price, and the order watches
abbrev pub settled : Option Price → Meaning → Notes → Option Machine
settled None m n = Some (watching m n)
settled (Some p) m n = told (watching m n) (event.Settlement p)

-- one own event; an order that has ended stays so
abbrev pub machine_step : Terms → ℕ → Option Machine → Own → Left
machine_step t limit None e = silent None
machine_step t limit (Some s) (own_placing d prices) = silent (told (with_prices prices s) (event.Day d))
machine_step t limit (Some s) (own_watched_day d) = silent (told (with_prices (cond (t.watched == t.traded) None s.notes.prices) s) (event.Day d))
machine_step t limit (Some s) (own_traded_day d) = silent (Some (with_prices None s))
machine_step t limit (Some s) (own_quote q) =
    quoted t limit s.waits (tick_of t q) s.meaning (priced_now (cond (q.share == t.traded) (Some q.levels) s.notes.prices) s.notes)
machine_step t limit (Some s) (own_settlement fill) = silent (settled (option_or fill s.notes.market) s.meaning s.notes)
machine_step t limit (Some s) own_cancel = silent None

-- the slips that the machine writes for own events, and what it is after them
abbrev pub writes : Terms → ℕ → Option Machine → List Own → List Slip
writes t limit s [] = []
writes t limit s (e ∷ es) = (machine_step t limit s e).slips ++ writes t limit (machine_step t limit s e).machine es

abbrev pub runs : Terms → ℕ → Option Machine → List Own → Option Machine
runs t limit s [] = s
runs t limit s (e ∷ es) = runs t limit (machine_step t limit s e).machine es

-- the events up to the order's end, the one that ends it included
abbrev pub to_end : Terms → ℕ → Option Machine → List Own → List Own
to_end t limit None es = []
to_end t limit (Some s) [] = []
to_end t limit (Some s) (e ∷ es) = e ∷ to_end t limit (machine_step t limit (Some s) e).machine es

-- an order's machine before its first own event
abbrev pub new_machine : Order → Option Machine
new_machine o = Some (watching o.meaning (record { sent = 0; market = None; prices = None }))
