use Rattle.std.proofs.Common.{◌∙◌, refl, arith, rules}
use Rattle.std.proofs.lemmas.Iterator.{YieldsList-from_range}
use Rattle.std.proofs.lemmas.List.FromFn.{length-range_with_len}
use Rattle.values.proofs.DecimalText.{zeros_turned, turns_counted, zeros_put}
use Rattle.values.proofs.decimal.with_zeros.Goals as goal

pub returns : goal.returns
returns c =
    let ran = c.try_fold.ensures.ran in
    let xs = ran.0 in
    let z = c.args.zeros in
    let put = zeros_turned _ (λ p x q k. search rules) xs _ _ ran.5 c.ranges.start.fits in
    let count = turns_counted _ _ _ _ z xs _ ran.1 (YieldsList-from_range 0 z z refl (omega arith)) (length-range_with_len 0 z) ran.4.1 ran.4.2 in
    c.ok_or.ensures.value ∙ zeros_put c.args.start z _ ran.3 ran.1 _ put count (search rules)
