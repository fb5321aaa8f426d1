-- What the average of some closes and a price is, and where it is a yes.
use Rattle.std.proofs.Common.{◌≡◌, ℕ, ◌+◌, ◌-◌, ◌*◌, ◌/◌, Bool, true, Option, Result, sym, ap, ◌∙◌, ne_eqb, rules}
use Rattle.std.specs.Option.{ok_or}
use Rattle.std.specs.Result.{result_ok}
use Rattle.values.specs.Bounds.{least_price, greatest_price}
use Rattle.values.specs.Days.{day_count}
use Rattle.values.specs.Making.{seen, checked}
use Rattle.values.specs.Prices.{priced}
use Rattle.values.specs.declared.days.AveragingDays.{AveragingDays}
use Rattle.values.specs.declared.fault.MakingFault.{MakingFault}
use Rattle.values.specs.declared.fault.MakingFault.TheVariants as making
use Rattle.values.specs.declared.price.Price.{Price}
use Rattle.values.proofs.Pricing.{made_priced}
use Rattle.conditions.specs.Closes.{sum_before}
use Rattle.kinds.specs.Tests.{average_yes}
use Rattle.conditions.specs.declared.event.Day.{Day}

made_part : (o : Option Price) → result_ok (ok_or o making.Price) ≡ o
made_part o = search rules

-- a number that was made into a price, or none
pub made_ok : (n : ℕ) (r : Result Price MakingFault) → seen (λ p. p.value) r ≡ checked least_price greatest_price making.Price n → result_ok r ≡ priced n
made_ok n r e = ap result_ok (made_priced n r e) ∙ made_part (priced n)

module _ (order : ℕ → ℕ → Bool) (d : AveragingDays) (day : Day) (price : Price) (r : Option Price) where
  -- where the answer is yes
  pub yes_average : true ≡ order (sum_before d day.sums) ((day_count d - 1) * price.value) → (sum_before d day.sums ≡ 0 → ⊥)
      → r ≡ priced ((sum_before d day.sums + price.value) / day_count d) → r ≡ average_yes order d day price
  yes_average hit some is = simp (ne_eqb (sum_before d day.sums) 0 some, sym hit) is
