-- The layers: what each means, by the meanings below it.
use Rattle.std.specs.Prelude.{ℕ, Bool, true, false, cond, not, nat_lt}
use Rattle.values.specs.Ranges.{inside}
use Rattle.values.specs.declared.range.PriceRange.{PriceRange}
use Rattle.conditions.specs.Meaning.{Meaning}
use Rattle.conditions.specs.declared.event.Event.{Event}
use Rattle.conditions.specs.declared.event.Event.TheVariants as event
use Rattle.conditions.specs.declared.event.Next.{Next}
use Rattle.conditions.specs.declared.event.Next.TheVariants as next
use Rattle.conditions.specs.declared.event.Answer.{Answer}
use Rattle.conditions.specs.declared.event.Answer.TheVariants as answer

-- a day with a greater number than the last
abbrev pub late : ℕ → Event → Bool
late last (event.Tick t) = false
late last (event.Day d) = nat_lt last d.number
late last (event.Settlement p) = false

-- Until: such a day lapses; all else is as below
abbrev pub until : ℕ → Meaning → Meaning
until last m h e = cond (late last e) answer.Lapses (m h e)

-- a tick outside a range
abbrev pub outside : PriceRange → Event → Bool
outside r (event.Tick t) = not (inside r t.price.value)
outside r (event.Day d) = false
outside r (event.Settlement p) = false

-- outside, a fire from below passes as over if the switch is on; else it lapses
abbrev pub leaving : Bool → Answer → Answer
leaving switch answer.Wait = answer.Lapses
leaving switch answer.Lapses = answer.Lapses
leaving true (answer.Fires f) = answer.Fires (record { side = f.side; trigger = f.trigger; next = next.Over })
leaving false (answer.Fires f) = answer.Lapses

-- Range: inside, and for days and settlements, all is as below
abbrev pub in_range : PriceRange → Bool → Meaning → Meaning
in_range r switch m h e = cond (outside r e) (leaving switch (m h e)) (m h e)

-- what follows a fire beside another answer: over if either ended, else awaits settlement if either awaits it, else goes on
abbrev pub later : Next → Next → Next
later next.Over b = next.Over
later next.AwaitsSettlement next.Over = next.Over
later next.AwaitsSettlement next.AwaitsSettlement = next.AwaitsSettlement
later next.AwaitsSettlement next.GoesOn = next.AwaitsSettlement
later next.GoesOn b = b

abbrev pub joined : Next → Answer → Next
joined n answer.Wait = n
joined n (answer.Fires f) = later n f.next
joined n answer.Lapses = next.Over

-- if one fires the pair fires, with the first one's side and price if both do; otherwise it lapses if one lapses
abbrev pub both : Answer → Answer → Answer
both (answer.Fires f) b = answer.Fires (record { side = f.side; trigger = f.trigger; next = joined f.next b })
both answer.Lapses (answer.Fires g) = answer.Fires (record { side = g.side; trigger = g.trigger; next = next.Over })
both answer.Lapses answer.Lapses = answer.Lapses
both answer.Lapses answer.Wait = answer.Lapses
both answer.Wait b = b

-- Either: both are told everything
abbrev pub either : Meaning → Meaning → Meaning
either m n h e = both (m h e) (n h e)
