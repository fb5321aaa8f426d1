use Rattle.rules.specs.Market.{unlisted}
use Rattle.book.proofs.Carrying.{carried}
use Rattle.book.proofs.desk.Desk.claim.Goals as goal

pub returns-clause-carried : goal.returns-clause-carried
returns-clause-carried g c = carried _ _ _ _ (c.claim.ensures.step _).is_step (c.claim.ensures.step unlisted).setup
