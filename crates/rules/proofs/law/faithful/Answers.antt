use Rattle.rules.proofs.Laws.{faithful, no_stray}
use Rattle.rules.proofs.law.faithful.Goals as goal

pub returns : goal.returns
returns c = record { slips = faithful; stray = no_stray }
