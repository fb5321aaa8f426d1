use Rattle.std.proofs.Common.{◌≡◌, ◌<◌, Some, length, ap, ◌∙◌, arith}
use Rattle.std.specs.Option.{is_some}
use Rattle.std.specs.Result.{result_ok}
use Rattle.std.specs.VecDeque.{deque_len, deque_capacity}
use Rattle.replay.specs.Replaying.{rights}
use Rattle.replay.proofs.Replaying.{silent, one_held, rights_removed}
use Rattle.replay.proofs.run.Runner.settle.Goals as goal

pub returns : goal.returns
returns g c =
    let held = c.args.self.now.held in
    let was = c.remove.ensures in
    let same = c.spend.ensures.held in
    let some : c.remove.result ≡ Some c.in_ok-ticket.ticket = c.ok_or.ensures.ok_part ∙ ap result_ok c.in_ok-ticket.was in
    let here : c.args.at < length held.items = omega (arith, held.ok.0, was.variant.0 (ap is_some some)) in
    let items = rw some at was.items in
    let len = rw some at was.len in
    λ ps. silent ps c.spend.ensures.told (one_held held.items c.args.at c.args.fill c.remove.result c.in_ok-ticket.ticket some was.value here)
    (ap (λ z. rights z.items) same ∙ ap rights items ∙ rights_removed held.items c.args.at) (ap deque_capacity same ∙ was.capacity) (omega (arith, ap deque_len same, len))
