-- What a text is read as, where it should be a price in yuan.
use Rattle.std.specs.Prelude.{ℕ, List, Some, None, Ok, Err, Option, Result}
use Rattle.values.specs.Decimals.{decimal_read}
use Rattle.values.specs.Prices.{priced}
use Rattle.values.specs.declared.decimal.DecimalFault.{DecimalFault}
use Rattle.values.specs.declared.fault.MakingFault.TheVariants as making
use Rattle.values.specs.declared.price.Price.{Price}
use Rattle.values.specs.declared.price.text.PriceTextFault.{PriceTextFault}
use Rattle.values.specs.declared.price.text.PriceTextFault.TheVariants as fault

abbrev pub price_or : Option Price → Result Price PriceTextFault
price_or (Some p) = Ok p
price_or None = Err (fault.Making making.Price)

abbrev pub price_from : Result ℕ DecimalFault → Result Price PriceTextFault
price_from (Ok n) = price_or (priced n)
price_from (Err f) = Err (fault.Text f)

-- ten-thousandths of a yuan, and a price among them
abbrev pub price_read : List ℕ → Result Price PriceTextFault
price_read text = price_from (decimal_read 4 text)
