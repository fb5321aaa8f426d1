use Rattle.std.proofs.Common.{Some, None}
use Rattle.conditions.specs.declared.event.Event.TheVariants as event
use Rattle.kinds.specs.Holding.{steps}
use Rattle.kinds.proofs.test.held.HeldCondition.tell.Goals as goal

pub returns-in-Some-clause-follows : goal.returns-in-Some-clause-follows
returns-in-Some-clause-follows g c =
    let s = c.args.self.now in
    simp (c.since_next-self.ensures, c.is_some.ensures, c.judge-trigger.ensures, c.in-Some.is, c.in-Tick.is) (steps (g.T.Test.trigger s.test) s.hold.seconds s.side (Some c.in-Some.day, s.since) (event.Tick c.in-Tick.t))

pub returns-in-None-clause-follows : goal.returns-in-None-clause-follows
returns-in-None-clause-follows g c =
    let s = c.args.self.now in
    simp (c.in-None.is, c.in-Tick.is) (steps (g.T.Test.trigger s.test) s.hold.seconds s.side (None, s.since) (event.Tick c.in-Tick.t))
