use Rattle.rules.proofs.Laws.{claims_held}
use Rattle.rules.proofs.law.claims_held.Goals as goal

pub returns : goal.returns
returns c = claims_held
