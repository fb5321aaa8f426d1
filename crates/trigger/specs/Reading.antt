-- Which value each kind of word writes, if it writes one. Assumes nothing.
-- A text is the list of its bytes: 35 is `#`, 37 is `%` and 58 is `:`.
use Rattle.std.specs.Prelude.{ℕ, ◌+◌, ◌-◌, ◌*◌, ◌^◌, cond, ◌&&◌, List, length, take, Some, None, Option, ◌==◌, nat_lt, slice_index}
use Rattle.std.specs.Borrow.{Bor}
use Rattle.std.specs.List.{position_or_len, before_first, after_first}
use Rattle.std.specs.Option.{option_map, option_and_then}
use Rattle.std.specs.Result.{result_ok}
use Rattle.values.specs.Decimals.{decimal_read}
use Rattle.trigger.specs.declared.words.StepLine.{StepLine}
use Rattle.trigger.specs.declared.words.StepLine.TheVariants.{Percent, Difference}

-- what stands before and after the first c, if there is one
abbrev pub parted : ℕ → List ℕ → Option (List ℕ × List ℕ)
parted c text = cond (nat_lt (position_or_len (λ d. d == c) text) (length text))
    (Some (before_first (λ d. d == c) text, after_first (λ d. d == c) text))
    None

-- the two texts that two references point to
abbrev pub both : Option (Bor (List ℕ) × Bor (List ℕ)) → Option (List ℕ × List ℕ)
both r = option_map (λ x. (x.0.now, x.1.now)) r

-- what stands before the `%` at the end, if there is one
abbrev pub before_sign : List ℕ → Option (List ℕ)
before_sign text = cond (slice_index text (length text - 1) == 37) (Some (take (length text - 1) text)) None

-- the line without its comment
abbrev pub uncommented : List ℕ → List ℕ
uncommented text = before_first (λ d. d == 35) text

-- the whole number that a text writes
abbrev pub whole_read : List ℕ → Option ℕ
whole_read text = result_ok (decimal_read 0 text)

-- the number that was read, where it is below the limit of its field
abbrev pub fitting : ℕ → Option ℕ → Option ℕ
fitting limit read = option_and_then (λ n. cond (nat_lt n limit) (Some n) None) read

-- a price, in ten-thousandths of a yuan
abbrev pub price_read : List ℕ → Option ℕ
price_read text = result_ok (decimal_read 4 text)

-- a percentage, in its hundredths, from the number before its sign
abbrev pub percent_read : List ℕ → Option ℕ
percent_read text = option_and_then (λ number. result_ok (decimal_read 2 number)) (before_sign text)

-- a step: a percentage where there is a sign, and otherwise a price
abbrev pub step_of : List ℕ → Option (List ℕ) → Option StepLine
step_of text None = option_map Difference (price_read text)
step_of text (Some number) = option_map Percent (result_ok (decimal_read 2 number))

abbrev pub step_read : List ℕ → Option StepLine
step_read text = step_of text (before_sign text)

-- the seconds of HH:MM:SS, where minutes and seconds are below 60 and the sum fits 32 bits
abbrev pub clock : ℕ → ℕ → ℕ → Option ℕ
clock hours minutes seconds = cond (nat_lt minutes 60 && nat_lt seconds 60)
    (cond (nat_lt (hours * 3600 + minutes * 60 + seconds) (2 ^ 32)) (Some (hours * 3600 + minutes * 60 + seconds)) None)
    None

abbrev pub clock_of : Option ℕ → Option ℕ → Option ℕ → Option ℕ
clock_of None minutes seconds = None
clock_of (Some h) None seconds = None
clock_of (Some h) (Some m) None = None
clock_of (Some h) (Some m) (Some s) = clock h m s

-- a time of the day, from its hours and from its minutes and seconds, if there are both
abbrev pub clock_read : List ℕ → Option (List ℕ × List ℕ) → Option ℕ
clock_read hours None = None
clock_read hours (Some p) = clock_of (whole_read hours) (whole_read p.0) (whole_read p.1)

-- a moment: seconds where there is no colon, and otherwise a time of the day
abbrev pub moment_of : List ℕ → Option (List ℕ × List ℕ) → Option ℕ
moment_of text None = whole_read text
moment_of text (Some p) = clock_read p.0 (parted 58 p.1)

abbrev pub moment_read : List ℕ → Option ℕ
moment_read text = moment_of text (parted 58 text)
