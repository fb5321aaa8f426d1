use Rattle.std.proofs.Common.{sym, refl, ap, ◌∙◌}
use Rattle.rules.specs.Calls.{done}
use Rattle.book.specs.View.{setup_of, orders_of}
use Rattle.book.proofs.ByNumber.{cancels_nothing, cancels_claimed, cancels, in_rows}
use Rattle.book.proofs.Places.{read_orders}
use Rattle.book.proofs.book.Book.cancel.Goals as goal

pub returns-in_err-at : goal.returns-in_err-at
returns-in_err-at g c = λ mk.
    let b = c.args.self.now in
    let none = c.in_err-at.ensures in
    record {
      is_step = cancels_nothing g.C.Condition.meaning (setup_of b) mk (orders_of b) c.args.number c.from_residual.result _ c.place_of.result c.from_residual.ensures.1 none.ok_part c.place_of.ensures.place none.value;
      setup = refl;
    }

pub returns-then-is_claimed : goal.returns-then-is_claimed
returns-then-is_claimed g c = λ mk.
    let b = c.args.self.now in
    let at = c.in_ok-at.at in
    let x = c.index-orders-at.result in
    record {
      is_step = cancels_claimed g.C.Condition.meaning (setup_of b) mk (orders_of b) c.args.number at x (sym c.in_ok-at.ensures.ok_part ∙ c.place_of.ensures.place)
          (read_orders c.orders.result.now (orders_of b) at x c.orders.ensures c.index-orders-at.is)
          (sym c.is_claimed.ensures ∙ c.if-is_claimed.true);
      setup = refl;
    }

pub returns : goal.returns
returns g c = λ mk.
    let b = c.args.self.now in
    let m = g.C.Condition.meaning in
    let at = c.in_ok-at.at in
    let x = c.index-orders-at.result in
    record {
      is_step = ap (λ rows. (in_rows m mk rows, done)) c.lift.ensures.orders
          ∙ cancels m (setup_of b) mk (orders_of b) c.args.number at x (sym c.in_ok-at.ensures.ok_part ∙ c.place_of.ensures.place)
          (read_orders c.orders.result.now (orders_of b) at x c.orders.ensures c.index-orders-at.is)
          (sym c.is_claimed.ensures ∙ c.if-is_claimed.false);
      setup = c.lift.ensures.setup;
    }
