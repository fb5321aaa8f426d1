use Rattle.rules.proofs.Laws.{independent}
use Rattle.rules.proofs.Waiting.{repeats_struck}
use Rattle.rules.proofs.law.independent.Goals as goal

pub returns : goal.returns
returns c = record { slips = independent; repeats = repeats_struck }
