-- The law of every run. A run is a mix of calls on a newly made book and market: all calls in any order, granted or refused, by a book with
-- any number of rows, any limit and any number, with orders whose conditions mean anything. Its calls with their answers are its trace.
-- Statements 1 to 7 are of a trace and read nothing else. No statement asks more of a condition than the repeat law, and only 8 asks that.
use Rattle.std.specs.Prelude.{◌≡◌, ℕ, suc, ◌+◌, ◌-◌, ◌≤◌, Bool, true, false, not, ◌&&◌, List, [], ◌∷◌, ◌++◌, length, Some, None, sum_by, count_by, filter, Option, ◌≢◌, nat_eq}
use Rattle.values.specs.Days.{day_count}
use Rattle.values.specs.declared.days.AveragingDays.{AveragingDays}
use Rattle.values.specs.declared.price.Price.{Price}
use Rattle.conditions.specs.Closes.{newest_sum, sum_before}
use Rattle.conditions.specs.Meaning.{Meaning, Repeats}
use Rattle.rules.specs.Bounds.{closes_kept}
use Rattle.rules.specs.Book.{Setup, State, new, refusal, Burst, bursts, waits, state_of, step}
use Rattle.rules.specs.Calls.{Single, placing, quoting, claiming, asking, Call, single, burst, Refusal, by_book, Reply, done, wrote, burst_wrote, gives, in_state, refused}
use Rattle.rules.specs.DaySums.{sums_of}
use Rattle.rules.specs.Machine.{Order, number_of, Notes, Machine, waiting, writes, runs, new_machine}
use Rattle.rules.specs.Market.{closes_with}
use Rattle.rules.specs.OwnEvents.{Own, own_placing, own_watched_day, own_traded_day, own_quote, own_settlement, own_cancel, struck}
use Rattle.rules.specs.Reading.{reading}
use Rattle.rules.specs.Trace.{Entry, entry, trace, state_by, refusal_in, placed_among, span, bearing, own_events, written, own_slips, claimed_from}
use Rattle.rules.specs.declared.fault.PlacingFault.{PlacingFault}
use Rattle.rules.specs.declared.order.Terms.{Terms}
use Rattle.rules.specs.declared.quote.Quote.{Quote}
use Rattle.rules.specs.declared.slip.Outcome.{Outcome}
use Rattle.rules.specs.declared.slip.Outcome.TheVariants as outcome
use Rattle.rules.specs.declared.slip.Slip.{Slip}

-- 1. Faithful: the slips of every order that was granted are, in number, order and every field, what its machine writes for its own events.
abbrev pub Faithful : Setup → List Entry → Type 0
Faithful su xs =
    (before : List Entry) (o : Order) (later : List Entry) → xs ≡ before ++ entry (single (placing o)) done ∷ later
    → own_slips o later ≡ writes o.terms su.limit (new_machine o) (own_events su.limit before o later)

-- 2. No slip belongs to no order: until an order of a number is granted, no slip bears that number.
abbrev pub NoStray : Setup → List Entry → Type 0
NoStray su xs = (k : ℕ) → written k (span k xs) ≡ []

-- 3. Refused only by a check: an answer is a refusal just where a check of that call fails, and then by the first that does. The checks look
-- at the book and the market that the calls and answers before say.
abbrev pub RefusedByCheck : Setup → List Entry → Type 0
RefusedByCheck su xs =
    (before : List Entry) (c : Single) (r : Reply) (later : List Entry) → xs ≡ before ++ entry (single c) r ∷ later → refusal_in r ≡ refusal su (reading su before) c

-- 4. So is every answer, of a burst too, that of the book and the market that the calls and answers before say.
abbrev pub Answered : Setup → List Entry → Type 0
Answered su xs = (before : List Entry) (c : Call) (r : Reply) (later : List Entry) → xs ≡ before ++ entry c r ∷ later → r ≡ (step su (reading su before) c).1

-- 5. A burst takes its quotes one by one: each is answered as by itself, after those before it, with the places that they left. It stops
-- only where one is refused, and it answers how many it took, their slips, and that fault.
pub data OneByOne (su : Setup) : List Entry → List Quote → ℕ → ℕ → List Slip → Option PlacingFault → Type 0 where
  all_taken : (before : List Entry) (places : ℕ) → OneByOne su before [] places 0 [] None
  stopped : (before : List Entry) (q : Quote) (qs : List Quote) (places : ℕ) (f : PlacingFault)
      → (step su (reading su before) (single (quoting q places))).1 ≡ refused (by_book f)
      → OneByOne su before (q ∷ qs) places 0 [] (Some f)
  took : (before : List Entry) (q : Quote) (qs : List Quote) (places n : ℕ) (slips more : List Slip) (f : Option PlacingFault)
      → (step su (reading su before) (single (quoting q places))).1 ≡ wrote slips
      → OneByOne su (before ++ entry (single (quoting q places)) (wrote slips) ∷ []) qs (places - length slips) n more f
      → OneByOne su before (q ∷ qs) places (suc n) (slips ++ more) f

abbrev pub BurstsOneByOne : Setup → List Entry → Type 0
BurstsOneByOne su xs =
    (before : List Entry) (qs : List Quote) (places n : ℕ) (slips : List Slip) (f : Option PlacingFault) (later : List Entry)
    → xs ≡ before ++ entry (burst qs places) (burst_wrote n slips f) ∷ later
    → OneByOne su before qs places n slips f

-- 6. A claim's ticket is void just if the order's machine does not wait, or a claim is out already; and a state is the machine's.
abbrev pub ClaimsHeld : Setup → List Entry → Type 0
ClaimsHeld su xs =
    (before : List Entry) (o : Order) (between : List Entry) (c : Single) (r : Reply) (later : List Entry)
    → xs ≡ before ++ entry (single (placing o)) done ∷ (between ++ entry (single c) r ∷ later)
    → placed_among (number_of o) between ≡ false
    → let k : ℕ = number_of o in
    let machine : Option Machine = runs o.terms su.limit (new_machine o) (bearing before o between) in
    let claimed : Bool = claimed_from k false between in
    (c ≡ claiming k → r ≡ gives (record { void = not (waits machine && not claimed); book = su.book; number = k }))
    × (c ≡ asking k → r ≡ in_state (state_of machine claimed))

-- 7. Within its total: what an order sends never exceeds the total that it allows.
abbrev pub was_sent : Outcome → Bool
was_sent outcome.Sent = true
was_sent outcome.Withheld = false
was_sent outcome.Unpriced = false
was_sent outcome.Exceeded = false

abbrev pub sent_in : List Slip → ℕ
sent_in slips = sum_by (λ s. s.quantity) (filter (λ s. was_sent s.outcome) slips)

abbrev pub WithinTotal : Setup → List Entry → Type 0
WithinTotal su xs =
    (before : List Entry) (o : Order) (later : List Entry) → xs ≡ before ++ entry (single (placing o)) done ∷ later
    → (o.terms.total ≢ 0) → sent_in (own_slips o later) ≤ o.terms.total

-- all seven of a trace
pub record Lawful (su : Setup) (xs : List Entry) : Type 0 where
  pub faithful : Faithful su xs
  pub no_stray : NoStray su xs
  pub refused_by_check : RefusedByCheck su xs
  pub answered : Answered su xs
  pub bursts_one_by_one : BurstsOneByOne su xs
  pub claims_held : ClaimsHeld su xs
  pub within_total : WithinTotal su xs

-- what holds of every run
abbrev pub EveryRun : (Setup → List Entry → Type 0) → Type 0
EveryRun P = (su : Setup) (cs : List Call) → P su (trace su new cs)

-- 8. Independent: two runs under one limit that grant the same order, with own events equal but for repeats, give it the same slips,
-- whatever other orders stand, and however quotes are repeated or gathered into bursts.
abbrev pub Independent : Type 0
Independent =
    (o : Order) → Repeats o.meaning
    → (su : Setup) (cs : List Call) (before later : List Entry) → trace su new cs ≡ before ++ entry (single (placing o)) done ∷ later
    → (su' : Setup) (cs' : List Call) (before' later' : List Entry) → trace su' new cs' ≡ before' ++ entry (single (placing o)) done ∷ later'
    → su.limit ≡ su'.limit
    → struck (own_events su.limit before o later) ≡ struck (own_events su'.limit before' o later')
    → own_slips o later ≡ own_slips o later'

-- 9. The book and the market after a run are what its calls and answers say.
abbrev pub Read : Type 0
Read = (su : Setup) (cs : List Call) → state_by su new cs ≡ reading su (trace su new cs)

-- 10. A refused call alters nothing.
abbrev pub RefusalAltersNothing : Type 0
RefusalAltersNothing = (su : Setup) (s : State) (c : Single) (f : Refusal) → (step su s (single c)).1 ≡ refused f → (step su s (single c)).0 ≡ s

-- 11. A burst that is cut anywhere changes nothing: the second part goes on from the first, unless that has stopped.
abbrev pub continued : Setup → ℕ → Burst → Option PlacingFault → List Quote → Burst
continued su places b (Some f) qs = b
continued su places b None qs =
    let c = bursts su b.state qs (places - length b.slips) in
    record { state = c.state; count = b.count + c.count; slips = b.slips ++ c.slips; fault = c.fault }

abbrev pub CutAnywhere : Type 0
CutAnywhere =
    (su : Setup) (s : State) (ps qs : List Quote) (places : ℕ) → let b = bursts su s ps places in bursts su s (ps ++ qs) places ≡ continued su places b b.fault qs

-- 12. What a machine notes of its slips: where a total is allowed the quantities of those that were sent, and the market price of the newest.
abbrev pub newest_market : Option Price → List Slip → Option Price
newest_market p [] = p
newest_market p (s ∷ slips) = newest_market (Some s.market) slips

abbrev pub NotesOfSlips : Type 0
NotesOfSlips =
    (o : Order) (limit : ℕ) (es : List Own) (s : Machine) → runs o.terms limit (new_machine o) es ≡ Some s
    → let slips : List Slip = writes o.terms limit (new_machine o) es in
    ((o.terms.total ≢ 0) → s.notes.sent ≡ sent_in slips) × (s.notes.market ≡ newest_market None slips)

-- 13. Who waits is told nothing: until its settlement an order that waits writes no slip.
abbrev pub Unsettled : List Own → Type 0
Unsettled [] = Unit {0}
Unsettled (own_placing d prices ∷ es) = Unsettled es
Unsettled (own_watched_day d ∷ es) = Unsettled es
Unsettled (own_traded_day d ∷ es) = Unsettled es
Unsettled (own_quote q ∷ es) = Unsettled es
Unsettled (own_settlement fill ∷ es) = ⊥
Unsettled (own_cancel ∷ es) = Unsettled es

abbrev pub WaitsSilently : Type 0
WaitsSilently = (t : Terms) (limit : ℕ) (m : Meaning) (n : Notes) (es : List Own) → Unsettled es → writes t limit (Some (waiting m n)) es ≡ []

-- 14. A quote that comes twice in a row counts once.
abbrev pub RepeatsStruck : Type 0
RepeatsStruck = (es more : List Own) (q : Quote) → struck (es ++ own_quote q ∷ own_quote q ∷ more) ≡ struck (es ++ own_quote q ∷ more)

-- 15. The sums of a day are of the newest closes, and though a share keeps only so many, no sum is lost: they are of the newest among the
-- closes of its listing and of all its days.
abbrev pub DaySums : Type 0
DaySums = (closes : List Price) (n : AveragingDays) → sum_before n (sums_of closes) ≡ newest_sum (day_count n - 1) closes

abbrev pub closes_after : List Price → List Price → List Price
closes_after closes [] = closes
closes_after closes (c ∷ cs) = closes_after (closes_with closes c) cs

abbrev pub NoSumLost : Type 0
NoSumLost = (closes days : List Price) (n : ℕ) → n ≤ closes_kept → newest_sum n (closes_after closes days) ≡ newest_sum n (closes ++ days)

-- 16. No two orders in a book bear one number.
abbrev pub OneOfANumber : Type 0
OneOfANumber = (su : Setup) (cs : List Call) (k : ℕ) → count_by (λ r. nat_eq k r.terms.number) (state_by su new cs).rows ≤ 1
