-- What text a decimal number is, which number it writes, and how an amount of yuan is shown. Assumes nothing.
-- A text is the list of its bytes: 48 to 57 are the digits `0` to `9`, and 46 is the point.
use Rattle.std.specs.Prelude.{ℕ, ◌+◌, ◌-◌, ◌*◌, ◌/◌, ◌%◌, ◌^◌, Bool, false, cond, ◌&&◌, List, [], ◌∷◌, ◌++◌, length, Some, None, Ok, Err, decimal, Option, Result, ◌==◌, nat_le, nat_lt}
use Rattle.std.specs.Char.{is_ascii_digit}
use Rattle.std.specs.Str.{all_ascii_digits}
use Rattle.values.specs.declared.decimal.DecimalFault.{DecimalFault}
use Rattle.values.specs.declared.decimal.DecimalFault.TheVariants.{Malformed, TooManyDecimals, TooLarge}

-- what stands before the first point: all of the text where it has none
abbrev pub before_point : List ℕ → List ℕ
before_point [] = []
before_point (c ∷ cs) = cond (c == 46) [] (c ∷ before_point cs)

-- what stands after the first point, if there is a point
abbrev pub after_point : List ℕ → Option (List ℕ)
after_point [] = None
after_point (c ∷ cs) = cond (c == 46) (Some cs) (after_point cs)

-- one digit or more, and nothing else
abbrev pub numeral : List ℕ → Bool
numeral [] = false
numeral (c ∷ cs) = is_ascii_digit c && all_ascii_digits cs

-- the number that digits write: each digit times the power of ten of its place
abbrev pub number : List ℕ → ℕ
number [] = 0
number (c ∷ cs) = (c - 48) * 10 ^ length cs + number cs

-- a number that fits 32 bits is read, and a larger one is refused
abbrev pub fitted : ℕ → Result ℕ DecimalFault
fitted n = cond (nat_lt n (2 ^ 32)) (Ok n) (Err TooLarge)

-- the number WHOLE, or WHOLE.DECIMALS, counted in units of 10 ^ -places. The shape is looked at first, then how many decimals there are,
-- and last whether the number fits.
abbrev pub of_parts : ℕ → List ℕ → Option (List ℕ) → Result ℕ DecimalFault
of_parts places whole None = cond (numeral whole) (fitted (number whole * 10 ^ places)) (Err Malformed)
of_parts places whole (Some decimals) = cond (numeral whole && numeral decimals)
    (cond (nat_le (length decimals) places)
    (fitted (number whole * 10 ^ places + number decimals * 10 ^ (places - length decimals)))
    (Err TooManyDecimals))
    (Err Malformed)

-- what a text is read as
abbrev pub decimal_read : ℕ → List ℕ → Result ℕ DecimalFault
decimal_read places text = of_parts places (before_point text) (after_point text)

-- n ten-thousandths of a yuan: the yuan, the point, and four digits
abbrev pub yuan_text : ℕ → List ℕ
yuan_text n = decimal (n / 10000) ++ (46 ∷ (48 + n / 1000 % 10) ∷ (48 + n / 100 % 10) ∷ (48 + n / 10 % 10) ∷ (48 + n % 10) ∷ [])
