use Rattle.rules.specs.Market.{unlisted}
use Rattle.book.proofs.Carrying.{carried}
use Rattle.book.proofs.desk.Desk.cancel.Goals as goal

pub returns : goal.returns
returns g c = record { carried = carried _ _ _ _ (c.cancel.ensures _).is_step (c.cancel.ensures unlisted).setup }
