use Rattle.book.proofs.Carrying.{carried}
use Rattle.book.proofs.desk.Desk.quote.Goals as goal

pub returns-clause-carried : goal.returns-clause-carried
returns-clause-carried g c = carried _ _ _ _ c.quote.ensures.step.is_step c.quote.ensures.step.setup
