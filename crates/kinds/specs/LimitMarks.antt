-- The kinds whose slips the limit applies to.
use Rattle.std.specs.Prelude.{Bool, true, false}
use Rattle.kinds.specs.declared.order_kind.OrderKind.{OrderKind}
use Rattle.kinds.specs.declared.order_kind.OrderKind.TheVariants as kind

abbrev pub limit_mark : OrderKind → Bool
limit_mark kind.Level = true
limit_mark kind.Linked = false
limit_mark kind.DayMove = true
limit_mark kind.Average = true
limit_mark kind.Rebound = true
limit_mark kind.FallBack = true
limit_mark kind.StopOrProfit = true
limit_mark kind.Batch = false
limit_mark kind.Grid = false
