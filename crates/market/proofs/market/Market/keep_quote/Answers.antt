use Rattle.std.proofs.Common.{Ok, rules}
use Rattle.rules.specs.Market.{taken}
use Rattle.market.proofs.Views.{lent_view}
use Rattle.market.proofs.market.Market.keep_quote.Goals as goal

pub returns-in-Ok : goal.returns-in-Ok
returns-in-Ok c = lent_view (Ok c.in-Ok.place) (taken c.args.quote) _ _ _ _ _ c.in-Ok.ensures.place (search rules) c.keep_quote.ensures
