use Rattle.std.proofs.Common.{◌<◌, length, arith}
use Rattle.market.specs.View.{market_of}
use Rattle.book.specs.Turning.{slip_list, ticked_row}
use Rattle.book.specs.View.{rows_view}
use Rattle.book.proofs.Few.{ticked_slips_few}
use Rattle.book.proofs.Passing.{passing_none, passing_more}
use Rattle.book.proofs.table.tell_tick.Goals as goal

pub loop-i-init : goal.loop-i-init
loop-i-init g c =
    let few = ticked_slips_few c.args.share c.args.limit.value c.args.tick (rows_view g.C.Condition.meaning (market_of c.args.market.now.shares) c.args.rows.now) in
    passing_none (ticked_row c.args.share c.args.limit.value c.args.tick) (omega arith)

pub loop-i-preserved : goal.loop-i-preserved
loop-i-preserved g c =
    let h : c.loop-i.i < length c.loop-i.rows = omega arith in
    passing_more c.keep-stay.new.rows c.write-written.new.slips c.keep-stay.result c.write-written.result
    c.index-rows-i.result c.tell_tick-told.new.self c.tell_tick-told.result.stays (slip_list c.tell_tick-told.result.slip) c.loop-i.invariant h
    c.tell_tick-told.ensures.row c.tell_tick-told.ensures.slips
    c.write-written.ensures.next c.write-written.ensures.written c.write-written.ensures.rest
    c.keep-stay.ensures.next c.keep-stay.ensures.front c.keep-stay.ensures.rest
