use Rattle.std.proofs.Common.{◌++◌, length, take, drop, refl, ap, ◌∙◌}
use lib.Seq.{length_front}
use Rattle.std.proofs.lemmas.Result.{err_from_is_err_and}
use Rattle.market.specs.View.{market_of}
use Rattle.book.specs.View.{rows_view, view, setup_of, orders_of}
use Rattle.book.proofs.Quoted.{stays_front, quote_refused, crowds_seen, quote_crowded, quote_silent, tick_room, quote_ticked}
use Rattle.book.proofs.book.Book.quote.Goals as goal

pub returns-in_err-check_quote-clause-step : goal.returns-in_err-check_quote-clause-step
returns-in_err-check_quote-clause-step g c =
    let b = c.args.self.now in
    let m = g.C.Condition.meaning in
    let mk = market_of c.args.market.now.shares in
    let p = err_from_is_err_and c.from_residual.result c.from_residual.ensures.1 in
    rw (p.1, p.2)
    (record { is_step = quote_refused (setup_of b) (view m mk b) c.args.quote (length c.args.slips.now) _ c.in_err-check_quote.ensures; setup = refl {a = setup_of b} })

pub returns-then-crowds-clause-step : goal.returns-then-crowds-clause-step
returns-then-crowds-clause-step g c =
    let b = c.args.self.now in
    let m = g.C.Condition.meaning in
    let mk = market_of c.args.market.now.shares in
    let q = c.args.quote in
    let n = length c.args.slips.now in
    record { is_step = quote_crowded (view m mk b) q n (setup_of b) c.in_ok-check_quote.ensures (crowds_seen m mk q n (orders_of b) _ c.if-crowds.ensures); setup = refl {a = setup_of b} }

pub returns-in_default-clause-step : goal.returns-in_default-clause-step
returns-in_default-clause-step g c =
    let b = c.args.self.now in
    let m = g.C.Condition.meaning in
    let mk = market_of c.args.market.now.shares in
    let mk₂ = market_of c.keep_quote.new.self.shares in
    let q = c.args.quote in
    let n = length c.args.slips.now in
    record {
      is_step = quote_silent m (setup_of b) mk mk₂ q n (orders_of b) c.in_ok-check_quote.ensures c.keep_quote.ensures (crowds_seen m mk q n (orders_of b) _ c.if-crowds.ensures) c.in_default.ensures;
      setup = refl {a = setup_of b};
    }

pub tell_tick-quoted-requires : goal.tell_tick-quoted-requires
tell_tick-quoted-requires g c =
    let b = c.args.self.now in
    let m = g.C.Condition.meaning in
    let mk = market_of c.args.market.now.shares in
    let q = c.args.quote in
    let n = length c.args.slips.now in
    tick_room m (setup_of b) mk (market_of c.keep_quote.new.self.shares) q n (orders_of b) c.in_ok-check_quote.ensures c.keep_quote.ensures (crowds_seen m mk q n (orders_of b) _ c.if-crowds.ensures) c.in-Some.tick c.in-Some.ensures

pub returns : goal.returns
returns g c =
    let b = c.args.self.now in
    let m = g.C.Condition.meaning in
    let mk = market_of c.args.market.now.shares in
    let mk₂ = market_of c.keep_quote.new.self.shares in
    let q = c.args.quote in
    let ps = c.args.slips.now in
    let ys = b.rows.now in
    let told = c.tell_tick-quoted in
    let z = quote_ticked m (setup_of b) mk mk₂ q (length ps) (orders_of b) c.in_ok-check_quote.ensures c.keep_quote.ensures (crowds_seen m mk q (length ps) (orders_of b) _ c.if-crowds.ensures) c.in-Some.tick c.in-Some.ensures
    (take told.result.stay (told.new.rows ++ drop b.count ys)) told.result.written told.new.slips (drop told.result.written ps)
    (ap (rows_view m mk₂) (stays_front (orders_of b) told.new.rows (drop b.count ys) told.result.stay told.ensures.within told.auto.rows) ∙ told.ensures.table)
    told.ensures.written told.ensures.slips
    in
    record {
      step = record { is_step = z.0; setup = ap (λ l. record { rows = l; limit = b.limit.value; book = b.number }) (length_front ys told.new.rows b.count told.auto.rows) };
      count = z.1;
      rest = z.2;
    }
