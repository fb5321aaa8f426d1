use Rattle.std.proofs.Common.{refl}
use Rattle.book.specs.View.{setup_of}
use Rattle.book.proofs.Carrying.{carried}
use Rattle.book.proofs.Listed.{listed_step}
use Rattle.book.proofs.desk.Desk.list.Goals as goal

pub returns : goal.returns
returns g c =
    record {
      carried = carried _ _ _ _ (listed_step g.C.Condition.meaning (setup_of c.args.self.now.book) _ _ c.args.self.now.book c.args.share c.args.closes.now c.list.result c.list.ensures.answer c.list.ensures.after) refl;
    }
