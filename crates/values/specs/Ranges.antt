-- The prices from a low to a high.
use Rattle.std.specs.Prelude.{ℕ, Bool, cond, Ok, Err, Result, nat_le}
use Rattle.std.proofs.Common.{lit≤}
use Rattle.values.specs.Bounds.{within, least_price, greatest_price}
use Rattle.values.specs.declared.fault.MakingFault.{MakingFault}
use Rattle.values.specs.declared.fault.MakingFault.TheVariants as fault
use Rattle.values.specs.declared.price.Price.{Price}
use Rattle.values.specs.declared.range.PriceRange.{PriceRange}

abbrev pub ends : PriceRange → Price × Price
ends r = (r.low, r.high)

-- what making a range answers: the low may not lie above the high
abbrev pub ranged : Price → Price → Result (Price × Price) MakingFault
ranged low high = cond (nat_le low.value high.value) (Ok (low, high)) (Err fault.Range)

-- both ends are inside
abbrev pub inside : PriceRange → ℕ → Bool
inside r n = within r.low.value r.high.value n

-- all prices
abbrev pub whole : PriceRange
whole =
    record {
      low = record { value = least_price; low = lit≤ tt; high = lit≤ tt };
      high = record { value = greatest_price; low = lit≤ tt; high = lit≤ tt };
      ordered = lit≤ tt;
    }
