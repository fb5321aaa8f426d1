use Rattle.market.specs.View.{market_of}
use Rattle.book.specs.View.{view, setup_of}
use Rattle.book.proofs.Bursts.{burst_err, burst_more}
use Rattle.book.proofs.book.Book.burst.Goals as goal

pub returns-in-Err-clause-step : goal.returns-in-Err-clause-step
returns-in-Err-clause-step g c =
    let p = c.loop-taken.invariant in
    let s = view g.C.Condition.meaning (market_of c.quote.new.market.shares) c.quote.new.self in
    let told = c.in-Err.ensures in
    let d = burst_err p c.loop-taken.auto.slips _ c.loop-taken-test.true (setup_of c.quote.new.self) s c.quote.new.slips told.step.setup c.in-Err.fault told.step.is_step told.rest in
    record { is_step = d.0; setup = d.1 }

pub loop-taken-preserved : goal.loop-taken-preserved
loop-taken-preserved g c =
    let s = view g.C.Condition.meaning (market_of c.quote.new.market.shares) c.quote.new.self in
    let told = c.in-Ok.ensures in
    burst_more c.loop-taken.invariant c.loop-taken.auto.slips _ c.loop-taken-test.true (setup_of c.quote.new.self) s c.quote.new.slips told.step.setup c.in-Ok.count told.step.is_step told.count c.quote.auto.slips told.rest
