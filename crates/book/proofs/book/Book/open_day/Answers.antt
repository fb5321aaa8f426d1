use Rattle.std.proofs.Common.{drop, ap, ◌∙◌}
use lib.Seq.{length_front}
use Rattle.market.specs.View.{market_of}
use Rattle.book.specs.View.{rows_view, setup_of, orders_of}
use Rattle.book.proofs.Quoted.{stays_front, day_taken}
use Rattle.book.proofs.book.Book.open_day.Goals as goal

pub returns : goal.returns
returns g c =
    let b = c.args.self.now in
    let m = g.C.Condition.meaning in
    let ys = b.rows.now in
    let opened = c.in_ok-day.ensures in
    let told = c.tell_day-self in
    let mk = market_of c.args.market.now.shares in
    let mk₂ = market_of c.open_day.new.self.shares in
    record {
      is_step = day_taken m (setup_of b) mk mk₂ c.args.opening c.in_ok-day.day (orders_of b) _ opened.answer opened.after opened.day
          (ap (rows_view m mk₂) (stays_front (orders_of b) told.new.rows (drop b.count ys) told.result told.ensures.within told.auto.rows) ∙ told.ensures.table mk₂);
      setup = ap (λ l. record { rows = l; limit = b.limit.value; book = b.number }) (length_front ys told.new.rows b.count told.auto.rows);
    }
