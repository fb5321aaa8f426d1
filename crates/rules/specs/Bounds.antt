-- The ends of the market's and the book's numbers, each in this one place.
use Rattle.std.specs.Prelude.{ℕ}

-- shares are numbered from 0
abbrev pub greatest_share : ℕ
greatest_share = 63

-- how many of its newest closes a share keeps
abbrev pub closes_kept : ℕ
closes_kept = 59

-- moments are seconds of the day
abbrev pub greatest_moment : ℕ
greatest_moment = 86399

-- phases: 0 call auction, 1 continuous, 2 after hours
abbrev pub continuous : ℕ
continuous = 1

abbrev pub after_hours : ℕ
after_hours = 2

abbrev pub greatest_quantity : ℕ
greatest_quantity = 1000000

abbrev pub greatest_total : ℕ
greatest_total = 1000000000

-- rows past these are never used
abbrev pub greatest_rows : ℕ
greatest_rows = 4096
