-- What is read from calls and their answers alone.
use Rattle.std.specs.Prelude.{ℕ, Bool, true, false, cond, not, ◌&&◌, ◌||◌, List, [], ◌∷◌, ◌++◌, take, Some, None, filter, Option, ◌==◌, nat_eq}
use Rattle.std.specs.List.{flat_map}
use Rattle.rules.specs.Bearing.{bears, begins, own_quotes}
use Rattle.rules.specs.Book.{Setup, State, step, market_after}
use Rattle.rules.specs.Calls.{listing, opening, placing, quoting, cancelling, claiming, settling, asking, Call, single, burst, Refusal, Reply, done, wrote, burst_wrote, gives, in_state, refused}
use Rattle.rules.specs.Machine.{Order, number_of, to_end, new_machine}
use Rattle.rules.specs.Market.{Market, unlisted, put, taken}
use Rattle.rules.specs.OwnEvents.{Own}
use Rattle.rules.specs.declared.order.Terms.{Terms}
use Rattle.rules.specs.declared.quote.Quote.{Quote}
use Rattle.rules.specs.declared.slip.Slip.{Slip}

-- a call with its answer
pub record Entry : Type 0 where
  pub call : Call
  pub reply : Reply

abbrev pub entry : Call → Reply → Entry
entry c r = record { call = c; reply = r }

-- the calls of a mix with their answers, from a state on, and the state after them
abbrev pub trace : Setup → State → List Call → List Entry
trace su s [] = []
trace su s (c ∷ cs) = entry c (step su s c).1 ∷ trace su (step su s c).0 cs

abbrev pub state_by : Setup → State → List Call → State
state_by su s [] = s
state_by su s (c ∷ cs) = state_by su (step su s c).0 cs

-- why a call was refused, if it was
abbrev pub refusal_in : Reply → Option Refusal
refusal_in done = None
refusal_in (wrote slips) = None
refusal_in (burst_wrote n slips f) = None
refusal_in (gives t) = None
refusal_in (in_state x) = None
refusal_in (refused f) = Some f

abbrev pub granted : Reply → Bool
granted done = true
granted (wrote slips) = true
granted (burst_wrote n slips f) = true
granted (gives t) = true
granted (in_state x) = true
granted (refused f) = false

-- how many quotes of a burst were taken
abbrev pub taken_in : Reply → ℕ
taken_in done = 0
taken_in (wrote slips) = 0
taken_in (burst_wrote n slips f) = n
taken_in (gives t) = 0
taken_in (in_state x) = 0
taken_in (refused f) = 0

abbrev pub slips_in : Reply → List Slip
slips_in done = []
slips_in (wrote slips) = slips
slips_in (burst_wrote n slips f) = slips
slips_in (gives t) = []
slips_in (in_state x) = []
slips_in (refused f) = []

-- The market, as listings, days and quotes that were let through make it.

abbrev pub market_with : List Quote → Market → Market
market_with [] m = m
market_with (q ∷ qs) m = market_with qs (put q.share (taken q (m q.share)) m)

abbrev pub market_by : Call → Reply → Market → Market
market_by (single c) r m = cond (granted r) (market_after c m) m
market_by (burst qs places) r m = market_with (take (taken_in r) qs) m

abbrev pub market_from : Market → List Entry → Market
market_from m [] = m
market_from m (x ∷ xs) = market_from (market_by x.call x.reply m) xs

-- An order's own events, in the market as it was when they came.

abbrev pub own_by : Terms → Market → Call → Reply → List Own
own_by t m (single c) r = cond (granted r) (bears m c t) []
own_by t m (burst qs places) r = flat_map (own_quotes t) (take (taken_in r) qs)

abbrev pub owns : Terms → Market → List Entry → List Own
owns t m [] = []
owns t m (x ∷ xs) = own_by t m x.call x.reply ++ owns t (market_by x.call x.reply m) xs

-- its placing, let through
abbrev pub places : ℕ → Call → Bool
places k (single (listing h closes)) = false
places k (single (opening d)) = false
places k (single (placing o)) = k == number_of o
places k (single (quoting q n)) = false
places k (single (cancelling j)) = false
places k (single (claiming j)) = false
places k (single (settling t fill)) = false
places k (single (asking j)) = false
places k (burst qs n) = false

-- a placing of an order of that number was let through
abbrev pub placed_in : ℕ → Entry → Bool
placed_in k x = granted x.reply && places k x.call

abbrev pub placed_among : ℕ → List Entry → Bool
placed_among k [] = false
placed_among k (x ∷ xs) = placed_in k x || placed_among k xs

-- what comes before the next granted placing of that number
abbrev pub span : ℕ → List Entry → List Entry
span k [] = []
span k (x ∷ xs) = cond (placed_in k x) [] (x ∷ span k xs)

-- what bears on an order that was placed between two parts of a trace, the later part read as far as given
abbrev pub bearing : List Entry → Order → List Entry → List Own
bearing before o later = begins (market_from unlisted before) o ++ owns o.terms (market_from unlisted before) later

-- its own events: they end with the order, and before a next one bears its number
abbrev pub own_events : ℕ → List Entry → Order → List Entry → List Own
own_events limit before o later = to_end o.terms limit (new_machine o) (bearing before o (span (number_of o) later))

-- the slips that bear a number
abbrev pub slips_of : ℕ → List Slip → List Slip
slips_of k slips = filter (λ s. nat_eq k s.number) slips

abbrev pub written : ℕ → List Entry → List Slip
written k xs = flat_map (λ x. slips_of k (slips_in x.reply)) xs

-- an order's own slips: those that bear its number, from its placing to the next granted placing of that number
abbrev pub own_slips : Order → List Entry → List Slip
own_slips o later = written (number_of o) (span (number_of o) later)

-- Whether an order of that number is under a claim: a ticket that is not void puts it there, and its settlement ends it.

abbrev pub ticket_in : Reply → Bool
ticket_in done = false
ticket_in (wrote slips) = false
ticket_in (burst_wrote n slips f) = false
ticket_in (gives t) = not t.void
ticket_in (in_state x) = false
ticket_in (refused f) = false

abbrev pub claimed_by : ℕ → Call → Reply → Bool → Bool
claimed_by k (single (listing h closes)) r b = b
claimed_by k (single (opening d)) r b = b
claimed_by k (single (placing o)) r b = b
claimed_by k (single (quoting q n)) r b = b
claimed_by k (single (cancelling j)) r b = b
claimed_by k (single (claiming j)) r b = cond (j == k) (b || ticket_in r) b
claimed_by k (single (settling t fill)) r b = cond (granted r && t.number == k) false b
claimed_by k (single (asking j)) r b = b
claimed_by k (burst qs n) r b = b

abbrev pub claimed_from : ℕ → Bool → List Entry → Bool
claimed_from k b [] = b
claimed_from k b (x ∷ xs) = claimed_from k (claimed_by k x.call x.reply b) xs
