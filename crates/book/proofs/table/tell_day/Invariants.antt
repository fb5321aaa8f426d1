use Rattle.rules.specs.Book.{standing}
use Rattle.rules.specs.Market.{Market}
use Rattle.book.specs.Turning.{dayed_row}
use Rattle.book.specs.View.{row_view}
use Rattle.book.proofs.Passing.{Turned}
use Rattle.book.proofs.table.tell_day.Given as goal

abbrev pub invariant-loop-i : goal.invariant-loop-i
invariant-loop-i g l =
    (mk : Market) → Turned (row_view g.C.Condition.meaning mk) (λ r. standing (dayed_row l.share l.day r)) l.initial.rows l.rows l.stay l.i
