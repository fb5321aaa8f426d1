use Rattle.std.proofs.Common.{refl}
use Rattle.book.proofs.Carrying.{carried}
use Rattle.book.proofs.desk.Desk.state.Goals as goal

pub returns : goal.returns
returns g c = carried _ _ _ _ (c.state.ensures _) refl
