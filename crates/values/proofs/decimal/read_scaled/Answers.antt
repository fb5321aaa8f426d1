use Rattle.std.proofs.Common.{Err, ap, ◌∙◌}
use Rattle.std.proofs.lemmas.Result.{err_from_is_err_and}
use Rattle.values.specs.Decimals.{number}
use Rattle.values.proofs.DecimalText.{fault_zeros}
use Rattle.values.proofs.decimal.read_scaled.Goals as goal

pub returns-in_err-read_numeral : goal.returns-in_err-read_numeral
returns-in_err-read_numeral c =
    let p = err_from_is_err_and c.from_residual.result c.from_residual.ensures.1 in
    p.1 ∙ ap Err p.2 ∙ fault_zeros _ (number c.args.digits.now) c.args.zeros c.in_err-read_numeral.ensures
