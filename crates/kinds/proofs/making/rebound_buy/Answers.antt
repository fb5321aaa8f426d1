use Rattle.values.specs.Directions.{rising_order}
use Rattle.values.specs.Targets.{rising_total}
use Rattle.kinds.proofs.Leasts.{least_is_least}
use Rattle.kinds.proofs.making.rebound_buy.Goals as goal

pub returns-clause-least : goal.returns-clause-least
returns-clause-least c = least_is_least rising_order rising_total
