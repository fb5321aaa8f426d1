use Rattle.book.proofs.Carrying.{carried}
use Rattle.book.proofs.desk.Desk.place.Goals as goal

pub returns : goal.returns
returns g c = record { carried = carried _ _ _ _ c.place.ensures.is_step c.place.ensures.setup }
