use Rattle.book.proofs.Carrying.{carried}
use Rattle.book.proofs.desk.Desk.open_day.Goals as goal

pub returns : goal.returns
returns g c = record { carried = carried _ _ _ _ c.open_day.ensures.is_step c.open_day.ensures.setup }
