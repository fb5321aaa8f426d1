use Rattle.rules.proofs.Laws.{within_total}
use Rattle.rules.proofs.Waiting.{waits_silently}
use Rattle.rules.proofs.law.within_total.Goals as goal

pub returns : goal.returns
returns c = record { total = within_total; waits = waits_silently }
