-- The book and the market as they are read from calls and their answers: a machine for each order that was granted, fed its own events.
use Rattle.std.specs.Prelude.{ℕ, Bool, cond, List, [], ◌∷◌, ◌++◌, map}
use Rattle.std.specs.List.{flat_map}
use Rattle.rules.specs.Book.{Setup, Row, State, claimed_after, placed, standing}
use Rattle.rules.specs.Calls.{Call, single, burst, Reply}
use Rattle.rules.specs.Machine.{runs}
use Rattle.rules.specs.Market.{Market, unlisted}
use Rattle.rules.specs.Trace.{Entry, granted, market_by, market_from, own_by}

abbrev pub claimed_with : Call → Reply → Row → Bool
claimed_with (single c) x r = cond (granted x) (claimed_after c r) r.claimed
claimed_with (burst qs n) x r = r.claimed

-- an order's row after one call more, and after all that follow
abbrev pub row_with : ℕ → Market → Entry → Row → Row
row_with limit m x r =
    record {
      terms = r.terms;
      machine = runs r.terms limit r.machine (own_by r.terms m x.call x.reply);
      claimed = claimed_with x.call x.reply r;
    }

abbrev pub row_from : ℕ → Market → List Entry → Row → Row
row_from limit m [] r = r
row_from limit m (x ∷ xs) r = row_from limit (market_by x.call x.reply m) xs (row_with limit m x r)

-- the order that a call placed, if it placed one
abbrev pub placed_by : ℕ → Market → Call → Reply → List Row
placed_by limit m (single c) x = cond (granted x) (placed limit m c) []
placed_by limit m (burst qs n) x = []

-- every order that was ever granted, in order of placing, as the calls since have left it
abbrev pub all_placed : ℕ → Market → List Entry → List Row
all_placed limit m [] = []
all_placed limit m (x ∷ xs) =
    let m' = market_by x.call x.reply m in
    map (row_from limit m' xs) (placed_by limit m x.call x.reply) ++ all_placed limit m' xs

-- those that have ended have left, unless they are under a claim
abbrev pub reading : Setup → List Entry → State
reading su xs = record { market = market_from unlisted xs; rows = flat_map standing (all_placed su.limit unlisted xs) }
