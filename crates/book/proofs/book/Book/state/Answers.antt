use Rattle.std.proofs.Common.{Some, ap, ◌∙◌}
use Rattle.rules.specs.Calls.{in_state}
use Rattle.book.specs.View.{view, setup_of, orders_of}
use Rattle.book.proofs.ByNumber.{asks, asks_none}
use Rattle.book.proofs.Places.{read_orders}
use Rattle.book.proofs.book.Book.state.Goals as goal

pub returns-in_err-at : goal.returns-in_err-at
returns-in_err-at g c = λ mk.
    let b = c.args.self.now in
    let m = g.C.Condition.meaning in
    ap (λ o. (view m mk b, in_state o)) c.from_residual.ensures ∙ asks_none m (setup_of b) mk (orders_of b) c.args.number c.in_err-at.ensures.place

pub returns : goal.returns
returns g c = λ mk.
    let b = c.args.self.now in
    let m = g.C.Condition.meaning in
    let at = c.in_ok-at.at in
    let x = c.index-orders-at.result in
    ap (λ s. (view m mk b, in_state (Some s))) c.state.ensures
    ∙ asks m (setup_of b) mk (orders_of b) c.args.number at x c.in_ok-at.ensures.place (read_orders c.orders.result.now (orders_of b) at x c.orders.ensures c.index-orders-at.is)
