use Rattle.std.proofs.Common.{◌∙◌, arith}
use Rattle.replay.proofs.Replaying.{going_more}
use Rattle.replay.proofs.run.Runner.carry_out_all.Goals as goal

pub loop-request-preserved : goal.loop-request-preserved
loop-request-preserved g c =
    let p = c.loop-request.invariant in
    let one = c.carry_out-reply in
    let push = c.push_reserved in
    record {
      going = going_more p.going c.loop-request.auto.slips c.request-item.result c.request-item.is c.loop-request-test.true one.result one.ensures push.ensures.items c.count-written.ensures;
      room = push.ensures.capacity ∙ p.room;
      grown = omega (arith, push.ensures.len, p.grown);
    }
