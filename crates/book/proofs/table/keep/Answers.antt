use Rattle.book.proofs.Moves.{swap_front}
use Rattle.book.proofs.table.keep.Goals as goal

pub returns-then-stays-clause-front : goal.returns-then-stays-clause-front
returns-then-stays-clause-front g c = rw c.if-stays.true (swap_front c.args.rows.now c.swap.new.self c.args.at c.args.i c.requires.behind c.requires.within c.swap.ensures.by_index.3)
