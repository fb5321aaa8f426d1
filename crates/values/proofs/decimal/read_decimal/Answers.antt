use Rattle.std.proofs.Common.{Some, None, arith}
use Rattle.std.proofs.lemmas.Str.Pattern.{split_parts}
use Rattle.values.proofs.DecimalText.{read_pointless, read_pointed, back_from}
use Rattle.values.proofs.decimal.read_decimal.Goals as goal

pub returns-in-None : goal.returns-in-None
returns-in-None c =
    let none = split_parts 46 c.args.text.now None c.in-None.ensures.cases (omega arith) in
    let value = read_pointless c.args.places c.args.text.now c.read_whole.result none c.read_whole.ensures in
    record { value = value; back = back_from c.args.places c.args.text.now c.read_whole.result value }

pub returns-in-Some : goal.returns-in-Some
returns-in-Some c =
    let whole = c.in-Some.whole in
    let decimals = c.in-Some.decimals in
    let parts = split_parts 46 c.args.text.now (Some (whole, decimals)) c.in-Some.ensures.cases (omega arith) in
    let value = read_pointed c.args.places c.args.text.now whole.now decimals.now c.read_parts.result parts.0 parts.1 c.read_parts.ensures in
    record { value = value; back = back_from c.args.places c.args.text.now c.read_parts.result value }
