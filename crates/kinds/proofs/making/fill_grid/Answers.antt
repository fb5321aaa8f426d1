use Rattle.kinds.proofs.GridBases.{fill_latest}
use Rattle.kinds.proofs.making.fill_grid.Goals as goal

pub returns-clause-latest : goal.returns-clause-latest
returns-clause-latest c = fill_latest c.args.down c.args.up c.args.base
