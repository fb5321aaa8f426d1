use Rattle.market.specs.View.{market_of}
use Rattle.book.specs.Turning.{ticked_left, ticked_row}
use Rattle.book.specs.View.{row_view}
use Rattle.book.proofs.Passing.{Passing}
use Rattle.book.proofs.table.tell_tick.Given as goal

abbrev pub invariant-loop-i : goal.invariant-loop-i
invariant-loop-i g l =
    Passing (row_view g.C.Condition.meaning (market_of l.market.shares)) (ticked_row l.share l.limit.value l.tick) (λ r. (ticked_left l.share l.limit.value l.tick r).slips)
    l.initial.rows l.rows l.initial.slips l.slips l.stay l.written l.i
