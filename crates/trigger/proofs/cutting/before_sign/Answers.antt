use Rattle.std.proofs.Common.{arith}
use Rattle.std.proofs.lemmas.Grind.{common_steps}
use Rattle.std.proofs.lemmas.Str.Pattern.{strip_suffix_char}
use Rattle.trigger.proofs.cutting.before_sign.Goals as goal

pub returns : goal.returns
returns c =
    let cases = strip_suffix_char 37 c.args.text.now c.strip_suffix.result c.strip_suffix.ensures.cases (omega arith) in
    grind (arith, common_steps, cases)
