use Rattle.rules.proofs.Working.{worked_prices}
use Rattle.rules.proofs.law.worked_prices.Goals as goal

pub returns : goal.returns
returns c = worked_prices
