use Rattle.rules.proofs.DayTotals.{day_sums, no_sum_lost}
use Rattle.rules.proofs.Noting.{notes_of_slips}
use Rattle.rules.proofs.law.kept_as_said.Goals as goal

pub returns : goal.returns
returns c = record { notes = notes_of_slips; sums = day_sums; closes = no_sum_lost }
