-- One call more after any run, and the law on it.
use Rattle.std.specs.Prelude.{◌≡◌, List, [], ◌∷◌, ◌++◌}
use Rattle.conditions.specs.Meaning.{Meaning}
use Rattle.rules.specs.Book.{Setup, State, new, step}
use Rattle.rules.specs.Calls.{Call, Reply}
use Rattle.rules.specs.Law.{Lawful, Independent}
use Rattle.rules.specs.Trace.{entry, trace, state_by}
use Rattle.book.specs.View.{desk_view, desk_setup}
use Rattle.book.specs.declared.desk.Desk.{Desk}

-- The run cs, and this call after it: it leaves what the run with it leaves, its answer stands last in the trace, and that trace keeps the whole law:
-- what is said of one trace, and that no other run gives one of its orders other slips for the same own events.
pub record Extends (su : Setup) (s' : State) (c : Call) (r : Reply) (cs : List Call) : Type 0 where
  pub leaves : s' ≡ state_by su new (cs ++ c ∷ [])
  pub answers : trace su new (cs ++ c ∷ []) ≡ trace su new cs ++ entry c r ∷ []
  pub lawful : Lawful su (trace su new cs ++ entry c r ∷ [])
  pub independent : Independent

-- A desk as its calls see it: what it was set up with, and where it stands.
pub record Standing : Type 0 where
  pub setup : Setup
  pub state : State

abbrev pub desk_of : {C : Type 0} → (C → Meaning) → Desk C → Standing
desk_of means d = record { setup = desk_setup d; state = desk_view means d }

-- A call carried out by a desk, from the standing d to e: state and answer are those of one step of the book's meaning, and so it extends
-- every run that led to where it began; and the setup stays.
pub record Carried (d e : Standing) (c : Call) (r : Reply) : Type 0 where
  pub is_step : (e.state, r) ≡ step d.setup d.state c
  pub extends : (cs : List Call) → d.state ≡ state_by d.setup new cs → Extends d.setup e.state c r cs
  pub setup : e.setup ≡ d.setup
