use Rattle.kinds.proofs.GridBases.{market_latest}
use Rattle.kinds.proofs.making.market_grid.Goals as goal

pub returns-clause-latest : goal.returns-clause-latest
returns-clause-latest c = market_latest c.args.range c.args.down c.args.up c.args.base
