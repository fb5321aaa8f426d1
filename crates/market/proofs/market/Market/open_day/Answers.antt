use Rattle.std.proofs.Common.{None, ap, ◌∙◌, rules}
use Rattle.rules.specs.Market.{opened, day_of}
use Rattle.market.specs.Asking.{when_granted}
use Rattle.market.proofs.Views.{back_view, lent_view}
use Rattle.market.proofs.market.Market.open_day.Goals as goal

pub returns-clause-after : goal.returns-clause-after
returns-clause-after c = lent_view c.open_day.result (opened c.args.opening) _ _ _ _ _ c.in_ok-self.ensures.place (search rules) c.open_day.ensures.after

pub returns-clause-day : goal.returns-clause-day
returns-clause-day c =
    c.open_day.ensures.day
    ∙ ap (λ s. when_granted c.open_day.result (day_of s) None) (back_view _ _ _ _ c.in_ok-self.ensures.place (search rules))
