use Rattle.values.specs.Directions.{falling_order, falling_target}
use Rattle.conditions.specs.declared.event.Side.TheVariants as side
use Rattle.kinds.specs.Batching.{batch_latest}
use Rattle.kinds.proofs.making.buy_batch.Goals as goal

pub returns-clause-latest : goal.returns-clause-latest
returns-clause-latest c = batch_latest falling_order falling_target side.Buy c.args.step c.args.base
