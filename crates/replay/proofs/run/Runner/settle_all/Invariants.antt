use Rattle.std.proofs.Common.{◌+◌, ◌≤◌}
use Rattle.std.specs.VecDeque.{deque_len}
use Rattle.replay.proofs.Replaying.{Ending}
use Rattle.replay.proofs.run.Runner.settle_all.Given as goal

abbrev pub invariant-loop-ticket : goal.invariant-loop-ticket
invariant-loop-ticket g l =
    record {
      ending : Ending g.C.Condition.meaning l.initial.self l.self l.initial.replies.items l.replies.items;
      room : l.replies.len + deque_len l.self.held ≤ l.replies.cap;
    }

abbrev pub decreases-loop-ticket : goal.decreases-loop-ticket
decreases-loop-ticket g l = deque_len l.self.held
