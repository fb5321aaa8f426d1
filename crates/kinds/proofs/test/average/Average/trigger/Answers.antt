use Rattle.std.proofs.Common.{◌+◌, ◌/◌, ◌∙◌}
use Rattle.values.specs.Days.{day_count}
use Rattle.kinds.proofs.Averaging.{made_ok}
use Rattle.kinds.proofs.test.average.Average.trigger.Goals as goal

pub returns-clause-value : goal.returns-clause-value
returns-clause-value g c =
    let mean = (c.args.sum + c.args.price.value) / day_count c.args.self.now.days in
    c.ok.ensures.value ∙ made_ok mean c.new.result (simp (c.value.ensures, c.count.ensures) at c.new.ensures)
