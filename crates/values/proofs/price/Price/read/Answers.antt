use Rattle.std.proofs.Common.{◌≡◌, Ok, rules}
use Rattle.values.proofs.PriceReading.{is_read, reads}
use Rattle.values.specs.PriceText.{price_read}
use Rattle.values.proofs.price.Price.read.Goals as goal

pub returns-in_err-new-clause-back : goal.returns-in_err-new-clause-back
returns-in_err-new-clause-back c =
    let e : c.from_residual-in_err-new.result ≡ price_read c.args.text.now = search rules in
    reads c.args.text.now c.from_residual-in_err-new.result e

pub returns : goal.returns
returns c =
    let text = c.args.text.now in
    let price = c.in_ok-new.field-0 in
    let e = is_read text c.in_ok-read_decimal.field-0 c.in_ok-read_decimal.ensures.value (Ok price) c.in_ok-new.ensures in
    record { value = e; back = reads text (Ok price) e }
