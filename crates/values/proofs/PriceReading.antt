-- A price as text: what is read, and that what is shown is read back.
use Rattle.std.proofs.Common.{◌≡◌, ℕ, ◌^◌, ◌<◌, List, Some, None, Ok, Err, Option, Result, refl, ap, ◌∙◌, arith}
use Rattle.std.specs.Option.{ok_or}
use Rattle.values.specs.Bounds.{least_price, greatest_price}
use Rattle.values.specs.Decimals.{decimal_read, yuan_text}
use Rattle.values.specs.Making.{seen, checked}
use Rattle.values.specs.PriceText.{price_or, price_from, price_read}
use Rattle.values.specs.Prices.{priced}
use Rattle.values.specs.declared.fault.MakingFault.{MakingFault}
use Rattle.values.specs.declared.fault.MakingFault.TheVariants as making
use Rattle.values.specs.declared.price.Price.{Price}
use Rattle.values.specs.declared.price.text.PriceTextFault.{PriceTextFault}
use Rattle.values.specs.declared.price.text.PriceTextFault.TheVariants as fault
use Rattle.values.proofs.DecimalText.{read_back}
use Rattle.values.proofs.Pricing.{priced_price, made_priced}

-- a making fault inside a fault of the text
abbrev nested : Result Price MakingFault → Result Price PriceTextFault
nested (Ok p) = Ok p
nested (Err f) = Err (fault.Making f)

nested_or : (o : Option Price) → nested (ok_or o making.Price) ≡ price_or o
nested_or (Some p) = refl
nested_or None = refl

module _ (text : List ℕ) (n : ℕ) (read : Ok n ≡ decimal_read 4 text) (m : Result Price MakingFault) (made : seen (λ p. p.value) m ≡ checked least_price greatest_price making.Price n) where
  pub is_read : nested m ≡ price_read text
  is_read = ap nested (made_priced n m made) ∙ nested_or (priced n) ∙ ap price_from read

price_back : (text : List ℕ) (p : Price) → text ≡ yuan_text p.value → price_read text ≡ Ok p
price_back text p e =
    let small : p.value < 2 ^ 32 = omega arith in
    ap price_read e ∙ ap price_from (read_back p.value small) ∙ ap price_or (priced_price p)

-- what is read, and so what is read back
pub reads : (text : List ℕ) (r : Result Price PriceTextFault) → r ≡ price_read text → (p : Price) → text ≡ yuan_text p.value → r ≡ Ok p
reads text r e p shown = e ∙ price_back text p shown
