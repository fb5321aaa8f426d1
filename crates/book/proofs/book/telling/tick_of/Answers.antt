use Rattle.std.proofs.Common.{◌≡◌, Some, None, Option, sym, ap, ◌∙◌, rules}
use Rattle.std.specs.Option.{ok_or}
use Rattle.std.specs.Result.{result_ok}
use Rattle.values.specs.Prices.{priced}
use Rattle.values.specs.declared.fault.MakingFault.{MakingFault}
use Rattle.values.specs.declared.fault.MakingFault.TheVariants as making
use Rattle.values.specs.declared.price.Price.{Price}
use Rattle.values.proofs.Pricing.{made_priced}
use Rattle.book.proofs.book.telling.tick_of.Goals as goal

ok_is : (o : Option Price) (p : Price) (e : MakingFault) → Some p ≡ result_ok (ok_or o e) → o ≡ Some p
ok_is None p e h = cc
ok_is (Some q) p e h = sym h

pub returns : goal.returns
returns c =
    let n = c.args.quote.now.levels.last in
    let e : priced n ≡ Some c.in_ok-price.price = ok_is (priced n) c.in_ok-price.price making.Price (c.in_ok-price.ensures.value ∙ ap result_ok (made_priced n c.new.result c.new.ensures)) in
    search rules
