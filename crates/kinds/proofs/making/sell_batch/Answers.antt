use Rattle.values.specs.Directions.{rising_order, rising_target}
use Rattle.conditions.specs.declared.event.Side.TheVariants as side
use Rattle.kinds.specs.Batching.{batch_latest}
use Rattle.kinds.proofs.making.sell_batch.Goals as goal

pub returns-clause-latest : goal.returns-clause-latest
returns-clause-latest c = batch_latest rising_order rising_target side.Sell c.args.step c.args.base
