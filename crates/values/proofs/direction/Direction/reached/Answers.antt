-- A target that is reached lies between the base and the price, and so is a price.
use Rattle.values.proofs.Pricing.{reached_at}
use Rattle.values.proofs.direction.Direction.reached.Goals as goal

pub returns-then-reaches-clause-value : goal.returns-then-reaches-clause-value
returns-then-reaches-clause-value g c =
    reached_at g.Self.Direction.order g.Self.Direction.target c.args.step c.args.base c.args.price _ c.target_of-goal.ensures c.if-reaches.ensures
