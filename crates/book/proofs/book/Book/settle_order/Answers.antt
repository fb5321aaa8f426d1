use Rattle.std.proofs.Common.{sym, refl, ap, ◌∙◌}
use Rattle.std.proofs.lemmas.List.{length-set}
use Rattle.rules.specs.Calls.{done}
use Rattle.book.specs.View.{setup_of, orders_of}
use Rattle.book.proofs.ByNumber.{settles_nothing, settles_unclaimed, settles_there, settles_away, in_rows}
use Rattle.book.proofs.Places.{read_orders}
use Rattle.book.proofs.book.Book.settle_order.Goals as goal

pub returns-in_err-at : goal.returns-in_err-at
returns-in_err-at g c = λ mk.
    let b = c.args.self.now in
    let none = c.in_err-at.ensures in
    record {
      is_step = settles_nothing g.C.Condition.meaning (setup_of b) mk (orders_of b) c.args.number c.from_residual.result _ c.place_of.result c.from_residual.ensures.1 none.ok_part c.place_of.ensures.place c.args.fill none.value;
      setup = refl;
    }

pub returns-then-not-is_claimed : goal.returns-then-not-is_claimed
returns-then-not-is_claimed g c = λ mk.
    let b = c.args.self.now in
    let at = c.in_ok-at.at in
    let x = c.index-orders-at.result in
    record {
      is_step = settles_unclaimed g.C.Condition.meaning (setup_of b) mk (orders_of b) c.args.number at x (sym c.in_ok-at.ensures.ok_part ∙ c.place_of.ensures.place)
          (read_orders c.orders.result.now (orders_of b) at x c.orders.ensures c.index-orders-at.is)
          c.args.fill (sym c.is_claimed.ensures ∙ c.if-not-is_claimed.true);
      setup = refl;
    }

pub returns-then-not-settle : goal.returns-then-not-settle
returns-then-not-settle g c = λ mk.
    let b = c.args.self.now in
    let m = g.C.Condition.meaning in
    let at = c.in_ok-at.at in
    let z = c.index-orders-at in
    record {
      is_step = ap (λ rows. (in_rows m mk rows, done)) c.lift.ensures.orders
          ∙ settles_away m (setup_of b) mk b.rows.now b.count c.args.number at (sym c.in_ok-at.ensures.ok_part ∙ c.place_of.ensures.place) c.index-rows-at.result c.settle.new.self c.index-rows-at.is
          z.result (read_orders c.orders.result.now (orders_of b) at z.result c.orders.ensures z.is) (sym c.is_claimed.ensures ∙ c.if-not-is_claimed.false) c.args.fill c.settle.result (c.settle.ensures mk) c.if-not-settle.true;
      setup = c.lift.ensures.setup ∙ ap (λ l. record { rows = l; limit = b.limit.value; book = b.number }) (length-set b.rows.now at c.settle.new.self);
    }

pub returns-else-not-settle : goal.returns-else-not-settle
returns-else-not-settle g c = λ mk.
    let b = c.args.self.now in
    let m = g.C.Condition.meaning in
    let at = c.in_ok-at.at in
    let z = c.index-orders-at in
    record {
      is_step = settles_there m (setup_of b) mk b.rows.now b.count c.args.number at (sym c.in_ok-at.ensures.ok_part ∙ c.place_of.ensures.place) c.index-rows-at.result c.settle.new.self c.index-rows-at.is
          z.result (read_orders c.orders.result.now (orders_of b) at z.result c.orders.ensures z.is) (sym c.is_claimed.ensures ∙ c.if-not-is_claimed.false) c.args.fill c.settle.result (c.settle.ensures mk) c.if-not-settle.false;
      setup = ap (λ l. record { rows = l; limit = b.limit.value; book = b.number }) (length-set b.rows.now at c.settle.new.self);
    }
