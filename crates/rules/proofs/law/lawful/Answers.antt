use Rattle.rules.proofs.Laws.{lawful}
use Rattle.rules.proofs.law.lawful.Goals as goal

pub returns : goal.returns
returns c = lawful
