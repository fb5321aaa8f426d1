use Rattle.book.proofs.Carrying.{carried}
use Rattle.book.proofs.desk.Desk.burst.Goals as goal

pub returns-clause-carried : goal.returns-clause-carried
returns-clause-carried g c = carried _ _ _ _ c.burst.ensures.step.is_step c.burst.ensures.step.setup
