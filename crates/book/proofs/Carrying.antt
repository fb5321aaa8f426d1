-- A step carried out extends every run that led to where it began.
use Rattle.std.proofs.Common.{◌≡◌, List, [], ◌∷◌, ◌++◌, sym, refl, ap, ◌∙◌, subst}
use Rattle.rules.specs.Book.{Setup, State, new, step}
use Rattle.rules.specs.Calls.{Call, Reply}
use Rattle.rules.specs.Law.{Lawful}
use Rattle.rules.specs.Trace.{entry, trace, state_by}
use Rattle.rules.proofs.Laws.{lawful, independent}
use Rattle.book.specs.Carrying.{Standing, Carried}

state_more : (su : Setup) (s : State) (cs : List Call) (c : Call) → state_by su s (cs ++ c ∷ []) ≡ (step su (state_by su s cs) c).0
state_more su s [] c = refl
state_more su s (d ∷ cs) c = state_more su (step su s d).0 cs c

trace_more : (su : Setup) (s : State) (cs : List Call) (c : Call) → trace su s (cs ++ c ∷ []) ≡ trace su s cs ++ entry c (step su (state_by su s cs) c).1 ∷ []
trace_more su s [] c = refl
trace_more su s (d ∷ cs) c = ap (λ xs. entry d (step su s d).1 ∷ xs) (trace_more su (step su s d).0 cs c)

pub carried : (d e : Standing) (c : Call) (r : Reply) → (e.state, r) ≡ step d.setup d.state c → e.setup ≡ d.setup → Carried d e c r
carried d e c r st same =
    record {
      is_step = st;
      extends = λ cs h.
          let at : step d.setup d.state c ≡ step d.setup (state_by d.setup new cs) c = ap (λ x. step d.setup x c) h in
          let told : trace d.setup new (cs ++ c ∷ []) ≡ trace d.setup new cs ++ entry c r ∷ [] =
          trace_more d.setup new cs c ∙ ap (λ x. trace d.setup new cs ++ entry c x.1 ∷ []) (sym (st ∙ at)) in
          record {
            leaves = ap (λ x. x.0) (st ∙ at) ∙ sym (state_more d.setup new cs c);
            answers = told;
            lawful = subst (Lawful d.setup) told (lawful d.setup (cs ++ c ∷ []));
            independent = independent;
          };
      setup = same;
    }
