use Rattle.std.proofs.Common.{◌≡◌, ℕ, Some, Ok, Err, Result, sym, ap, ◌∙◌, MatchResult}
use Rattle.values.specs.Bounds.{least_price, greatest_price}
use Rattle.values.specs.Making.{seen, checked}
use Rattle.values.specs.Prices.{priced}
use Rattle.values.specs.declared.fault.MakingFault.{MakingFault}
use Rattle.values.specs.declared.fault.MakingFault.TheVariants as fault
use Rattle.values.specs.declared.price.Price.{Price}
use Rattle.values.proofs.Pricing.{priced_made}
use Rattle.kinds.proofs.making.stop_or_profit.Goals as goal

abbrev Made : Type 0
Made = Result Price MakingFault

-- a price that was made, and kept where a fault would have been renamed
kept : (n m : ℕ) (p : Price) (r : Made) → m ≡ n → seen (λ q. q.value) r ≡ checked least_price greatest_price fault.Price m
    → MatchResult r (λ q. ◌≡◌ {A = Made} (Ok p) (Ok q)) (λ f. ⊥) → priced n ≡ Some p
kept n m p (Ok q) at e same = ap priced (sym at) ∙ priced_made m p (ap (seen (λ q. q.value)) same ∙ e)
kept n m p (Err f) at e same = absurd same

pub returns : goal.returns
returns c =
    let low = kept _ _ c.in_ok-low.low c.new.result c.target_of.ensures c.new.ensures c.in_ok-low.ensures.cases in
    let high = kept _ _ c.in_ok-high.high c.new-2.result c.target_of-2.ensures c.new-2.ensures c.in_ok-high.ensures.cases in
    simp (low, high, c.new-3.ensures, c.level.ensures, c.profit_at.ensures)
