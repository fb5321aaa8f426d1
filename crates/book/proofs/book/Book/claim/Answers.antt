use Rattle.std.proofs.Common.{take, set, refl, ap, ◌∙◌}
use Rattle.std.proofs.lemmas.List.{length-set}
use Rattle.rules.specs.Calls.{gives}
use Rattle.book.specs.View.{view, setup_of, orders_of, right_of}
use Rattle.book.proofs.ByNumber.{claims_none, claims_there, in_rows}
use Rattle.book.proofs.book.Book.claim.Goals as goal

pub returns-in_default-clause-step : goal.returns-in_default-clause-step
returns-in_default-clause-step g c = λ mk.
    let b = c.args.self.now in
    let m = g.C.Condition.meaning in
    record {
      is_step = ap (λ t. (view m mk b, gives (right_of t))) c.new.ensures ∙ claims_none m (setup_of b) mk (orders_of b) c.args.number c.in_default.ensures.place;
      setup = refl;
    }

pub returns-clause-step : goal.returns-clause-step
returns-clause-step g c = λ mk.
    let b = c.args.self.now in
    let m = g.C.Condition.meaning in
    let at = c.in-Some.at in
    let claimed = c.claim-claimed in
    record {
      is_step = ap (λ t. (in_rows m mk (take b.count (set b.rows.now at claimed.new.self)), gives (right_of t))) c.new-2.ensures
          ∙ claims_there m (setup_of b) mk b.rows.now b.count c.args.number at c.in-Some.ensures.place c.index-rows-at.result claimed.new.self c.index-rows-at.is
          claimed.result claimed.ensures.row claimed.ensures.claimed;
      setup = ap (λ l. record { rows = l; limit = b.limit.value; book = b.number }) (length-set b.rows.now at claimed.new.self);
    }
