use Rattle.std.proofs.Common.{ap}
use Rattle.replay.specs.Replaying.{rights}
use Rattle.replay.proofs.Replaying.{replays}
use Rattle.replay.proofs.run.replay.Goals as goal

pub returns : goal.returns
returns g c = replays c.new.ensures.setup c.new.ensures.begins (ap rights c.in_ok-held.ensures.items) c.in_ok-replies.ensures.items c.carry_out_all-written.ensures.passed c.settle_all.ensures
