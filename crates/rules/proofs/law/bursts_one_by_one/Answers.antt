use Rattle.rules.proofs.Laws.{bursts_one_by_one, cut_anywhere}
use Rattle.rules.proofs.law.bursts_one_by_one.Goals as goal

pub returns : goal.returns
returns c = record { taken = bursts_one_by_one; cut = cut_anywhere }
