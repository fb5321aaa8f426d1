-- The shares as the rules know them.
use Rattle.std.specs.Prelude.{cond, List, map, take, None, Option, nat_lt, slice_index_or}
use Rattle.std.specs.Option.{option_map}
use Rattle.rules.specs.Bounds.{greatest_share}
use Rattle.rules.specs.Market.{Market}
use Rattle.rules.specs.Market.{Share as Known}
use Rattle.market.specs.declared.share.Listed.{Listed}
use Rattle.market.specs.declared.share.Share.{Share}

-- what a listing's fields hold: as many of the row as there are closes
abbrev pub held : Listed → Known
held l = record { closes = take l.count l.closes; day = l.day; latest = l.latest }

-- of a share that is not listed nothing is known
abbrev pub share_view : Share → Option Known
share_view s = option_map held s.listed

-- by their numbers; past the last there is none
abbrev pub market_of : List Share → Market
market_of ss h = cond (nat_lt greatest_share h) None (slice_index_or (map share_view ss) h None)
