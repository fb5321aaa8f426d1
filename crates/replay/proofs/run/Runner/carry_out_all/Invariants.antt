use Rattle.std.proofs.Common.{◌≡◌, ◌+◌}
use Rattle.replay.proofs.Replaying.{Going}
use Rattle.replay.proofs.run.Runner.carry_out_all.Given as goal

abbrev pub invariant-loop-request : goal.invariant-loop-request
invariant-loop-request g l =
    record {
      going : Going g.C.Condition.meaning l.initial.self l.self l.requests l.initial.replies.items l.replies.items l.initial.slips l.slips l.written l.request-index;
      room : l.replies.cap ≡ l.initial.replies.cap;
      grown : l.replies.len ≡ l.initial.replies.len + l.request-index;
    }
