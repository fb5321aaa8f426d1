use Rattle.market.proofs.Views.{none_listed}
use Rattle.market.proofs.market.Market.new.Goals as goal

pub returns : goal.returns
returns c = none_listed 64 c.new.result c.new.ensures
