use Rattle.std.proofs.Common.{rules}
use Rattle.market.specs.Asking.{newly}
use Rattle.market.proofs.Views.{lent_view}
use Rattle.market.proofs.market.Market.list.Goals as goal

pub returns-clause-after : goal.returns-clause-after
returns-clause-after c = lent_view c.list.result (λ _. newly c.args.closes.now) _ _ _ _ _ c.in_ok-self.ensures.place (search rules) c.list.ensures.after
