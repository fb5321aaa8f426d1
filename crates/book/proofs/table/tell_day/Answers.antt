use Rattle.std.proofs.Common.{◌<◌, length, arith}
use Rattle.rules.specs.Market.{unlisted}
use Rattle.book.proofs.Passing.{turned_more}
use Rattle.book.proofs.table.tell_day.Goals as goal

pub loop-i-preserved : goal.loop-i-preserved
loop-i-preserved g c mk =
    let h : c.loop-i.i < length c.loop-i.rows = omega arith in
    turned_more c.keep-stay.new.rows c.keep-stay.result c.index-rows-i.result c.tell_day-stays.new.self c.tell_day-stays.result (c.loop-i.invariant mk) h
    (c.tell_day-stays.ensures mk) c.keep-stay.ensures.next c.keep-stay.ensures.front c.keep-stay.ensures.rest

pub keep-stay-requires-clause-behind : goal.keep-stay-requires-clause-behind
keep-stay-requires-clause-behind g c = (c.loop-i.invariant unlisted).behind

pub returns-clause-within : goal.returns-clause-within
returns-clause-within g c = let b = (c.loop-i.invariant unlisted).behind in omega arith
