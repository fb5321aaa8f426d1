use Rattle.std.proofs.Common.{deque_len}
use Rattle.trigger.proofs.house.House.close.Given as goal

abbrev pub decreases-loop-ticket : goal.decreases-loop-ticket
decreases-loop-ticket l = deque_len l.tickets
