use Rattle.values.specs.Directions.{falling_order}
use Rattle.values.specs.Targets.{falling_total}
use Rattle.kinds.proofs.Leasts.{least_is_least}
use Rattle.kinds.proofs.making.fall_back_sell.Goals as goal

pub returns-clause-least : goal.returns-clause-least
returns-clause-least c = least_is_least falling_order falling_total
