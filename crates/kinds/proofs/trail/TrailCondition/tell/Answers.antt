use Rattle.conditions.specs.declared.event.Event.TheVariants as event
use Rattle.kinds.specs.declared.trail.TrailState.TheVariants as state
use Rattle.kinds.specs.Trailing.{steps, answers}
use Rattle.kinds.proofs.trail.TrailCondition.tell.Goals as goal

pub returns-in-Tracking-Tick-clause-answers : goal.returns-in-Tracking-Tick-clause-answers
returns-in-Tracking-Tick-clause-answers g c =
    let s = c.args.self.now in
    let w = c.in-Tracking-Tick in
    simp (c.judge-fire.ensures, c.further-furthest.ensures, w.is-0, w.is-1) (answers g.D.Direction.order g.D.Direction.target g.met.D.Direction.total s.terms w.extreme w.t)

pub returns-in-Tracking-Tick-clause-follows : goal.returns-in-Tracking-Tick-clause-follows
returns-in-Tracking-Tick-clause-follows g c =
    let s = c.args.self.now in
    let w = c.in-Tracking-Tick in
    simp (c.further-furthest.ensures, w.is-0, w.is-1) (steps g.D.Direction.order g.D.Direction.target g.met.D.Direction.total s.terms (state.Tracking w.extreme) (event.Tick w.t))
