use Rattle.market.specs.View.{market_of}
use Rattle.book.specs.View.{view, setup_of}
use Rattle.book.proofs.Bursts.{Bursting}
use Rattle.book.proofs.book.Book.burst.Given as goal

abbrev pub invariant-loop-taken : goal.invariant-loop-taken
invariant-loop-taken g l =
    Bursting (setup_of l.initial.self) (setup_of l.self) l.quotes (view g.C.Condition.meaning (market_of l.initial.market.shares) l.initial.self) (view g.C.Condition.meaning (market_of l.market.shares) l.self)
    l.initial.slips l.slips l.taken l.written
