use Rattle.std.proofs.Output.{has_written_of_eq}
use Rattle.values.proofs.DecimalText.{yuan_written}
use Rattle.values.proofs.decimal.YuanDisplay.fmt.Goals as goal

pub returns-clause-writes : goal.returns-clause-writes
returns-clause-writes g c plain ok = has_written_of_eq _ _ _ _ _ (yuan_written c.args.self.now.0 c.laid_out.result c.laid_out.ensures) (c.write.ensures.writes plain ok)
