-- The checks of a placing in parts, each by what it looks at.
use Rattle.std.specs.Prelude.{ℕ, min, not, ◌&&◌, ◌||◌, List, [], ◌∷◌, ◌++◌, length, is_some, ◌==◌, nat_eq, nat_le, nat_lt}
use Rattle.values.specs.Prices.{priced}
use Rattle.values.specs.declared.fault.MakingFault.TheVariants as making
use Rattle.rules.specs.Book.{Setup, State, row_of}
use Rattle.rules.specs.Bounds.{greatest_quantity, greatest_total, greatest_rows}
use Rattle.rules.specs.Checks.{Check, check, under}
use Rattle.rules.specs.Market.{Market, day_of, share_checks}
use Rattle.rules.specs.Numbers.{choice_number, choice_of}
use Rattle.rules.specs.declared.fault.MarketFault.TheVariants as market
use Rattle.rules.specs.declared.fault.PlacingFault.{PlacingFault}
use Rattle.rules.specs.declared.fault.PlacingFault.TheVariants as fault
use Rattle.rules.specs.declared.order.PriceChoice.TheVariants as choice
use Rattle.rules.specs.declared.order.Terms.{Terms}

-- the number is one, is free, and so is a row
abbrev pub free_checks : Setup → State → ℕ → List (Check PlacingFault)
free_checks su s k =
    check (k == 0) fault.Number
    ∷ check (is_some (row_of k s.rows)) fault.InBook
    ∷ check (nat_le (min su.rows greatest_rows) (length s.rows)) fault.NoRow
    ∷ []

-- both shares are listed, and the watched one has a day
abbrev pub both_checks : Market → Terms → List (Check PlacingFault)
both_checks m t =
    under fault.Watched (share_checks m t.watched)
    ++ under fault.Traded (share_checks m t.traded)
    ++ check (not (is_some (day_of (m t.watched)))) (fault.Watched market.NoDay)
    ∷ []

abbrev pub amount_checks : Terms → List (Check PlacingFault)
amount_checks t =
    check (t.quantity == 0 || nat_lt greatest_quantity t.quantity) fault.Quantity
    ∷ check (not (t.total == 0) && (nat_lt t.total t.quantity || nat_lt greatest_total t.total)) fault.Total
    ∷ []

abbrev pub choice_checks : Terms → List (Check PlacingFault)
choice_checks t =
    let own = nat_eq t.choice (choice_number choice.OwnPrice) in
    check (not (is_some (choice_of t.choice)) || (not own && not (t.own_price == 0))) fault.Choice
    ∷ check (own && not (is_some (priced t.own_price))) (fault.Making making.Price)
    ∷ []
