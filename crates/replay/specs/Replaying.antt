-- A list of requests as a run of calls, each answered as one step of the book's meaning says.
use Rattle.std.specs.Prelude.{◌≡◌, ℕ, ◌+◌, ◌-◌, ◌≤◌, List, [], ◌∷◌, ◌++◌, map, length, take, drop, Some, None, Ok, Err, Option, Result}
use Rattle.std.specs.Option.{option_map}
use Rattle.std.specs.VecDeque.{deque_len, deque_capacity}
use Rattle.std.specs.List.{flat_map, remove, slice_get}
use Rattle.conditions.specs.Meaning.{Meaning}
use Rattle.rules.specs.Book.{Setup, State, new, step}
use Rattle.rules.specs.Calls.{listing, opening, placing, quoting, cancelling, claiming, settling, asking, Call, single, burst, by_market, by_book, Reply, done, wrote, burst_wrote, gives, in_state, refused}
use Rattle.rules.specs.Calls.{Ticket as Right}
use Rattle.rules.specs.Law.{Lawful, Independent}
use Rattle.rules.specs.Trace.{Entry, entry, trace, slips_in}
use Rattle.rules.specs.declared.slip.Slip.{Slip}
use Rattle.book.specs.Carrying.{Standing, Carried}
use Rattle.book.specs.View.{desk_view, desk_setup, right_of}
use Rattle.replay.specs.declared.run.Answer.{Answer}
use Rattle.replay.specs.declared.run.Answer.TheVariants as told
use Rattle.replay.specs.declared.run.Refusal.{Refusal}
use Rattle.replay.specs.declared.run.Refusal.TheVariants as why
use Rattle.replay.specs.declared.run.Runner.{Runner}
use Rattle.replay.specs.declared.run.Request.{Request}
use Rattle.replay.specs.declared.run.Request.TheVariants as ask
use Rattle.book.specs.declared.ticket.Ticket.{Ticket}

-- Where a replay stands: the book with its market, the tickets held, the oldest first, and how many places are left for slips.
pub record Point : Type 0 where
  pub state : State
  pub held : List Right
  pub places : ℕ

abbrev pub point : State → List Right → ℕ → Point
point s ts n = record { state = s; held = ts; places = n }

abbrev pub rights : List Ticket → List Right
rights ts = map right_of ts

-- where a runner stands that has so many places left
abbrev pub point_of : {C : Type 0} → (C → Meaning) → Runner C → ℕ → Point
point_of means x n = point (desk_view means x.desk) (rights x.held.items) n

-- the call that a request is, where a condition is what it means; none where a settlement names no ticket that is held
abbrev pub call_of : {C : Type 0} → (C → Meaning) → Point → Request C → Option Call
call_of means p (ask.ListShare h closes) = Some (single (listing h closes.now))
call_of means p (ask.OpenDay d) = Some (single (opening d))
call_of means p (ask.Place t m) = Some (single (placing (record { terms = t; meaning = means m })))
call_of means p (ask.TakeQuote q) = Some (single (quoting q p.places))
call_of means p (ask.TakeBurst qs) = Some (burst qs.now p.places)
call_of means p (ask.Cancel k) = Some (single (cancelling k))
call_of means p (ask.Claim k) = Some (single (claiming k))
call_of means p (ask.Settle i fill) = option_map (λ t. single (settling t fill)) (slice_get p.held i)
call_of means p (ask.AskState k) = Some (single (asking k))

abbrev pub given_by : Reply → List Right
given_by (gives t) = t ∷ []
given_by _ = []

-- the tickets held after a call: a claim adds its own, and a settlement spends one
abbrev pub held_after : {C : Type 0} → Request C → Reply → List Right → List Right
held_after (ask.Claim k) r ts = ts ++ given_by r
held_after (ask.Settle i fill) r ts = remove ts i
held_after _ r ts = ts

-- a call with its answer, if one is made, and where it leaves the replay
abbrev pub answered : Setup → State → Option Call → Option Entry
answered su s None = None
answered su s (Some c) = Some (entry c (step su s c).1)

abbrev pub after : {C : Type 0} → Setup → Point → Request C → Option Call → Point
after su p q None = p
after su p q (Some c) = let x = step su p.state c in point x.0 (held_after q x.1 p.held) (p.places - length (slips_in x.1))

-- a settlement with nothing filled
abbrev pub unfilled : Right → Call
unfilled t = single (settling t None)

-- what a request comes to, and where it leaves the replay
abbrev pub outcome : {C : Type 0} → (C → Meaning) → Setup → Point → Request C → Option Entry
outcome means su p q = answered su p.state (call_of means p q)

abbrev pub next : {C : Type 0} → (C → Meaning) → Setup → Point → Request C → Point
next means su p q = after su p q (call_of means p q)

-- what each request comes to; after the last of them the tickets still held are settled with nothing filled, the oldest first
abbrev pub outcomes : {C : Type 0} → (C → Meaning) → Setup → Point → List (Request C) → List (Option Entry)
outcomes means su p [] = map Some (trace su p.state (map unfilled p.held))
outcomes means su p (q ∷ qs) = outcome means su p q ∷ outcomes means su (next means su p q) qs

-- the calls that were made with their answers
abbrev pub made_list : Option Entry → List Entry
made_list None = []
made_list (Some x) = x ∷ []

abbrev pub entries : {C : Type 0} → (C → Meaning) → Setup → Point → List (Request C) → List Entry
entries means su p qs = flat_map made_list (outcomes means su p qs)

-- what a request is told: its answer, or why it is refused
abbrev pub Told : Type 0
Told = Result Answer Refusal

-- an answer with its slips forgotten to their count
abbrev pub short : Reply → Told
short done = Ok told.Done
short (wrote slips) = Ok (told.Wrote (length slips))
short (burst_wrote n slips f) = Ok (told.Burst (record { taken = n; written = length slips; stop = f }))
short (gives t) = Ok (told.Ticket t.void)
short (in_state x) = Ok (told.State x)
short (refused (by_market f)) = Err (why.ByMarket f)
short (refused (by_book f)) = Err (why.ByBook f)

abbrev pub reply_of : Option Entry → Told
reply_of None = Err why.NoTicket
reply_of (Some x) = short x.reply

abbrev pub slips_of : Option Entry → List Slip
slips_of None = []
slips_of (Some x) = slips_in x.reply

-- how many slips a reply speaks of
abbrev pub count_of : Told → ℕ
count_of (Ok (told.Wrote n)) = n
count_of (Ok (told.Burst b)) = b.written
count_of _ = 0

-- A call of a desk, from d to e, that writes no slips and is told r.
pub record Quiet (d e : Standing) (c : Call) (r : Told) : Type 0 where
  pub reply : Reply
  pub carried : Carried d e c reply
  pub told : r ≡ short reply
  pub silent : slips_in reply ≡ []

-- One request carried out by a runner, from x to y: it is answered r, and the places, which held ps, hold ps'. The setup and the room for
-- tickets stay, and one more ticket is held at most.
pub record Turned {C : Type 0} (means : C → Meaning) (x : Runner C) (q : Request C) (y : Runner C) (r : Told) (ps ps' : List Slip) : Type 0 where
  pub state : desk_view means y.desk ≡ (next means (desk_setup x.desk) (point_of means x (length ps)) q).state
  pub held : rights y.held.items ≡ (next means (desk_setup x.desk) (point_of means x (length ps)) q).held
  pub reply : r ≡ reply_of (outcome means (desk_setup x.desk) (point_of means x (length ps)) q)
  pub within : count_of r ≤ length ps
  pub slips : take (count_of r) ps' ≡ slips_of (outcome means (desk_setup x.desk) (point_of means x (length ps)) q)
  pub rest : drop (count_of r) ps' ≡ drop (count_of r) ps
  pub setup : desk_setup y.desk ≡ desk_setup x.desk
  pub room : deque_capacity y.held ≡ deque_capacity x.held
  pub more : deque_len y.held ≤ deque_len x.held + 1

-- Requests carried out by a runner, from x to y, up to the settlements at the end: n slips were written, the replies were rs and are rs',
-- and the places held ps and hold ps'. The setup stays, and one more ticket is held for each request at most.
pub record Passed {C : Type 0} (means : C → Meaning) (x : Runner C) (qs : List (Request C)) (y : Runner C) (n : ℕ) (rs rs' : List Told) (ps ps' : List Slip) : Type 0 where
  pub replies : rs' ++ map reply_of (outcomes means (desk_setup x.desk) (point_of means y (length ps - n)) []) ≡ rs ++ map reply_of (outcomes means (desk_setup x.desk) (point_of means x (length ps)) qs)
  pub slips : take n ps' ++ flat_map slips_of (outcomes means (desk_setup x.desk) (point_of means y (length ps - n)) []) ≡ flat_map slips_of (outcomes means (desk_setup x.desk) (point_of means x (length ps)) qs)
  pub within : n ≤ length ps
  pub rest : drop n ps' ≡ drop n ps
  pub setup : desk_setup y.desk ≡ desk_setup x.desk
  pub more : deque_len y.held ≤ deque_len x.held + length qs

-- A whole replay on a new book and market: the replies are what the requests come to, the slips that were written are all slips of the
-- calls in their order, and the calls with their answers are a run that keeps the whole law, independent of every other run.
pub record Replays {C : Type 0} (means : C → Meaning) (su : Setup) (qs : List (Request C)) (rs : List Told) (n : ℕ) (ps ps' : List Slip) : Type 0 where
  pub replies : rs ≡ map reply_of (outcomes means su (point new [] (length ps)) qs)
  pub slips : take n ps' ≡ flat_map (λ x. slips_in x.reply) (entries means su (point new [] (length ps)) qs)
  pub within : n ≤ length ps
  pub rest : drop n ps' ≡ drop n ps
  pub run : trace su new (map (λ x. x.call) (entries means su (point new [] (length ps)) qs)) ≡ entries means su (point new [] (length ps)) qs
  pub lawful : Lawful su (entries means su (point new [] (length ps)) qs)
  pub independent : Independent
