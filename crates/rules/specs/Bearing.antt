-- What a call that is let through is for one order: its own events.
use Rattle.std.specs.Prelude.{cond, ◌||◌, List, [], ◌∷◌, Some, None, Option, ◌==◌}
use Rattle.conditions.specs.declared.event.Day.{Day}
use Rattle.rules.specs.Calls.{Single, listing, opening, placing, quoting, cancelling, claiming, settling, asking}
use Rattle.rules.specs.Machine.{Order}
use Rattle.rules.specs.Market.{Market, day_of, prices_of, opened}
use Rattle.rules.specs.OwnEvents.{Own, own_placing, own_watched_day, own_traded_day, own_quote, own_settlement, own_cancel}
use Rattle.rules.specs.declared.opening.Opening.{Opening}
use Rattle.rules.specs.declared.order.Terms.{Terms}
use Rattle.rules.specs.declared.quote.Quote.{Quote}

-- a day of the watched share comes with its sums, and one of the traded share without
abbrev pub own_days : Terms → Opening → Option Day → List Own
own_days t o None = []
own_days t o (Some d) = cond (o.share == t.watched) (own_watched_day d ∷ []) (cond (o.share == t.traded) (own_traded_day o ∷ []) [])

abbrev pub own_quotes : Terms → Quote → List Own
own_quotes t q = cond (q.share == t.watched || q.share == t.traded) (own_quote q ∷ []) []

-- the own events that a call is for an order that stands, in the market as it was before the call
abbrev pub bears : Market → Single → Terms → List Own
bears m (listing h closes) t = []
bears m (opening d) t = own_days t d (day_of (opened d (m d.share)))
bears m (placing o) t = []
bears m (quoting q places) t = own_quotes t q
bears m (cancelling k) t = cond (k == t.number) (own_cancel ∷ []) []
bears m (claiming k) t = []
bears m (settling ticket fill) t = cond (ticket.number == t.number) (own_settlement fill ∷ []) []
bears m (asking k) t = []

-- the own event that its placing is for the order itself
abbrev pub own_first : Market → Order → Option Day → List Own
own_first m o None = []
own_first m o (Some d) = own_placing d (prices_of (m o.terms.traded)) ∷ []

abbrev pub begins : Market → Order → List Own
begins m o = own_first m o (day_of (m o.terms.watched))
