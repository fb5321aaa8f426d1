use Rattle.std.proofs.Common.{◌-◌, ap, ◌∙◌}
use Rattle.values.specs.Days.{day_count}
use Rattle.conditions.specs.Closes.{newest_sum}
use Rattle.conditions.specs.declared.event.Day.{Day}
use Rattle.conditions.specs.declared.sums.Sums.{Sums}
use Rattle.rules.proofs.DayTotals.{sums_defined}
use Rattle.rules.specs.Market.{closes_with}
use Rattle.rules.specs.Market.{Share as Known}
use Rattle.market.specs.View.{held}
use Rattle.market.proofs.share.Listed.begin.Goals as goal

pub returns-clause-day : goal.returns-clause-day
returns-clause-day c =
    let p = c.args.limits in
    let kept = ap (λ (k : Known). k.closes) c.append.ensures in
    let sums = sums_defined c.of.result (closes_with (held c.args.self.now).closes p.close) (λ n. c.of.ensures n ∙ ap (newest_sum (day_count n - 1)) kept) in
    let begins : Sums → Day = λ s. record { number = c.args.number; close = p.close; upper = p.upper; lower = p.lower; sums = s } in
    ap begins sums
