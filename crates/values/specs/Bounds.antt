-- The ends of the trade's numbers, each in this one place.
use Rattle.std.specs.Prelude.{ℕ, Bool, ◌&&◌, nat_le}

-- from low to high, both included
abbrev pub within : ℕ → ℕ → ℕ → Bool
within low high n = nat_le low n && nat_le n high

-- prices are in ten-thousandths of a yuan
abbrev pub least_price : ℕ
least_price = 1000

abbrev pub greatest_price : ℕ
greatest_price = 999999999

-- percentages, and limits, are in hundredths of a percent
abbrev pub least_percentage : ℕ
least_percentage = 10

abbrev pub greatest_percentage : ℕ
greatest_percentage = 5000

-- differences are in ten-thousandths of a yuan
abbrev pub least_difference : ℕ
least_difference = 1

abbrev pub greatest_difference : ℕ
greatest_difference = 999999999

abbrev pub greatest_limit : ℕ
greatest_limit = 10000

-- holds are in seconds
abbrev pub least_hold : ℕ
least_hold = 1

abbrev pub greatest_hold : ℕ
greatest_hold = 14400
