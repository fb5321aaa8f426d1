use Rattle.std.proofs.Common.{sym}
use Rattle.conditions.specs.declared.event.Answer.TheVariants as answer
use Rattle.market.specs.View.{market_of}
use Rattle.rules.specs.Market.{prices_of}
use Rattle.book.specs.Turning.{slip_list}
use Rattle.book.proofs.Firing.{moved}
use Rattle.book.proofs.row.Row.tell_tick.Goals as goal

pub returns-in-Fires : goal.returns-in-Fires
returns-in-Fires g c =
    let means = g.C.Condition.meaning in
    let mk = market_of c.args.market.now.shares in
    let told = c.in-Fires.ensures in
    let fired = c.fire.ensures in
    let p = sym {b = prices_of (mk c.args.self.now.terms.traded)} c.prices_of-prices.ensures in
    let z = moved means mk c.args.share c.args.limit.value c.args.tick c.args.self.now c.fire.result.stays c.fire.new.self (slip_list c.fire.result.slip) (answer.Fires c.in-Fires.fire) (means c.tell.new.self) c.if-not-watches.ensures
    told.answers told.follows fired.terms fired.unclaimed (fired.machine mk p) (fired.slips mk p)
    in
    record { row = z.0; slips = z.1 }
