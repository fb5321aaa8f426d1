use Rattle.std.proofs.Common.{rules}
use Rattle.values.proofs.DecimalText.{read_as}
use Rattle.values.proofs.decimal.read_numeral.Goals as goal

pub returns : goal.returns
returns c = read_as c.args.digits.now c.parse.result c.map_err.result _ (λ e f k. search rules) c.requires c.parse.ensures.value.0 c.map_err.ensures.cases
