use Rattle.std.proofs.Common.{◌∙◌}
use Rattle.kinds.proofs.Averaging.{yes_average}
use Rattle.kinds.proofs.test.average.AverageTest.judge.Goals as goal

pub returns-clause-value : goal.returns-clause-value
returns-clause-value g c =
    let sum = c.before-sum.ensures.value in
    yes_average g.D.Direction.order c.args.self.now.days c.args.day.now c.args.price c.trigger.result (simp (sum, c.weighed.ensures) at c.if-not-reaches.ensures) (λ e. c.if-sum-eq0.false (sum ∙ e)) (simp sum at c.trigger.ensures.value)
