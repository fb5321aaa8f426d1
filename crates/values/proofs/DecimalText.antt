-- Lemmas on decimal numbers in text. Assumes nothing.
use Rattle.std.proofs.Common.{◌≡◌, ℕ, suc, ◌+◌, ◌-◌, ◌*◌, ◌/◌, ◌%◌, ◌^◌, ◌<◌, ◌≤◌, true, false, cond, not, eqb, leb, List, [], ◌∷◌, ◌++◌, length, get_or, Some, None, Ok, Err, decimal, Option, Result, sym, refl, ap, ◌∙◌, subst, ⊎_elim, mul_assoc, mul-one, le-mul_of_pos_right, arith, rules}
use native.Mathlib.Nat.{pow-succ', one-le-pow, div-div-eq-div-mul}
use Rattle.std.proofs.lemmas.Fmt.{decimal_digit, decimal_step, digits_decimal, digits_value-decimal, decimal_nonempty}
use Rattle.std.proofs.lemmas.Str.Parse.{IsNumeralModel, numerals_by_weight, tells_all_ascii_digits, parse_digits, not_in_digits}
use Rattle.std.proofs.lemmas.Bool.{ne_eqb, lt-ltb, le-ltb, le-leb, and_from, cases_lt}
use Rattle.std.proofs.lemmas.Bool.Decides.{nat_tests}
use Rattle.std.specs.Str.Parse.{ParsesUnsigned}
use Rattle.std.specs.Char.{is_ascii_digit}
use Rattle.std.proofs.lemmas.Result.{err_from_is_err_and}
use Rattle.std.proofs.lemmas.Iterator.{YieldsList}
use Rattle.std.proofs.lemmas.Iterator.Consumers.{YieldsList-turn, YieldsList-end}
use Rattle.std.proofs.lemmas.Nat.{pow-add}
use Rattle.std.specs.Fmt.{padded_integral, format_spec, char_count, styled_decimal}
use Rattle.std.specs.Iterator.{Yields}
use Rattle.std.specs.List.{list_all, FoldsTo}
use Rattle.std.specs.Option.{MatchOption, ok_or}
use Rattle.std.specs.Result.{MatchResult, IsErrAnd}
use Rattle.std.specs.Str.{all_ascii_digits}
use Rattle.values.specs.declared.decimal.DecimalFault.{DecimalFault}
use Rattle.values.specs.declared.decimal.DecimalFault.TheVariants.{Malformed, TooManyDecimals, TooLarge}
use Rattle.values.specs.Decimals.{numeral, number, fitted, before_point, after_point, of_parts, decimal_read, yuan_text}

-- `number` is what `parse` reads
own : IsNumeralModel (λ ds. all_ascii_digits ds ≡ true) number
own = numerals_by_weight _ tells_all_ascii_digits number (search rules)

fitted_below : (n : ℕ) → n < 2 ^ 32 → fitted n ≡ Ok n
fitted_below n h = ap (λ b. cond b (Ok n) (Err TooLarge)) (lt-ltb n (2 ^ 32) h)

fitted_above : (n : ℕ) → 2 ^ 32 ≤ n → fitted n ≡ Err TooLarge
fitted_above n h = ap (λ b. cond b (Ok n) (Err TooLarge)) (le-ltb n (2 ^ 32) h)

numeral_digits : (ds : List ℕ) → numeral ds ≡ true → all_ascii_digits ds ≡ true
numeral_digits [] h = refl
numeral_digits (c ∷ cs) h = h

numeral_some : (ds : List ℕ) → numeral ds ≡ true → 0 < length ds
numeral_some [] h = grind arith
numeral_some (c ∷ cs) h = omega arith

-- what `parse` says of digits, with its error made into `TooLarge`
pub read_as : {E : Type 0} (ds : List ℕ) (p : Result ℕ E) (r : Result ℕ DecimalFault) (P : E → DecimalFault → Type 0) → ((e : E) (f : DecimalFault) → P e f → f ≡ TooLarge)
    → numeral ds ≡ true → ParsesUnsigned 32 10 ds p → MatchResult p (λ x. r ≡ Ok x) (λ e. IsErrAnd r (P e)) → r ≡ fitted (number ds)
read_as {E} ds (Ok x) r P large h reads is =
    let p = parse_digits own {E = E} 32 ds (Ok x) reads (numeral_digits ds h) in
    is ∙ ap Ok p.1 ∙ sym (fitted_below (number ds) p.0.1)
read_as {E} ds (Err e) r P large h reads is =
    let f = err_from_is_err_and r is in
    let p = parse_digits own {E = E} 32 ds (Err e) reads (numeral_digits ds h) in
    f.1 ∙ ap Err (large e f.0 f.2)
    ∙ ⊎_elim (λ low. absurd (p (numeral_some ds h, low))) (λ high. sym (fitted_above (number ds) high)) (cases_lt (number ds) (2 ^ 32))

-- n with k zeros put behind it is n or more
zeros_le : (n k : ℕ) → n ≤ n * 10 ^ k
zeros_le n k = le-mul_of_pos_right n (one-le-pow k 10 (omega arith))

zero_more : (n k : ℕ) → n * 10 * 10 ^ k ≡ n * 10 ^ suc k
zero_more n k = mul_assoc n 10 (10 ^ k) ∙ ap (λ m. n * m) (sym (pow-succ' 10 k))

-- turns that each put one zero behind the number
pub zeros_turned : {F : Type 0} (R : F × ℕ → ℕ → F × ℕ → Type 0) → ((p : F × ℕ) (x : ℕ) (q : F × ℕ) → R p x q → (q.1 < 2 ^ 32) × (q.1 ≡ p.1 * 10))
    → (xs : List ℕ) (p q : F × ℕ) → FoldsTo R p xs q → p.1 < 2 ^ 32 → (q.1 < 2 ^ 32) × (q.1 ≡ p.1 * 10 ^ length xs)
zeros_turned R turn [] p q e small = (subst (λ r. r.1 < 2 ^ 32) e small, ap (λ r. r.1) (sym e) ∙ sym (mul-one p.1))
zeros_turned R turn (x ∷ xs) p q w small =
    let one = turn p x w.0 w.1 in
    let rest = zeros_turned R turn xs w.0 q w.2 one.0 in
    (rest.0, rest.1 ∙ ap (λ n. n * 10 ^ length xs) one.1 ∙ zero_more p.1 (length xs))

-- how many of z turns there were: all, or fewer where one broke off
pub turns_counted : {S : Type 0} (steps : S → Option ℕ → S → Type 0) (s t u : S) (z : ℕ) (xs all : List ℕ) (o : Option ℕ)
    → YieldsList steps (λ x. x) s all → length all ≡ z → Yields steps s xs t → steps t o u → MatchOption o (length xs ≡ z) (λ _. length xs < z)
turns_counted steps s t u z xs all None road long y next = (YieldsList-end road xs t y None u refl next).1 ∙ long
turns_counted steps s t u z xs all (Some x) road long y next = let turn = YieldsList-turn road xs t y (Some x) u x refl next in omega arith

-- n with i of z zeros put behind it
pub zeros_put : (start z i n : ℕ) (o r : Option ℕ) → (n < 2 ^ 32) × (n ≡ start * 10 ^ i) → MatchOption o (i ≡ z) (λ _. i < z)
    → MatchOption o (r ≡ Some n) (λ _. (n * 10 < 2 ^ 32 → ⊥) × (r ≡ None)) → ok_or r TooLarge ≡ fitted (start * 10 ^ z)
zeros_put start z i n None r is all e =
    ap (λ r. ok_or r TooLarge) e ∙ sym (fitted_below n is.0) ∙ ap fitted (is.1 ∙ ap (λ k. start * 10 ^ k) all)
zeros_put start z i n (Some x) r is fewer broke =
    let k : ℕ = z - (i + 1) in
    let split : i + suc k ≡ z = omega arith in
    let whole : n * 10 * 10 ^ k ≡ start * 10 ^ z =
    zero_more n k ∙ ap (λ m. m * 10 ^ suc k) is.1 ∙ mul_assoc start (10 ^ i) (10 ^ suc k) ∙ ap (λ m. start * m) (sym (pow-add 10 i (suc k))) ∙ ap (λ m. start * 10 ^ m) split
    in
    ap (λ r. ok_or r TooLarge) broke.1
    ∙ ⊎_elim
    (λ low. absurd (broke.0 low))
    (λ high. sym (fitted_above (start * 10 ^ z) (omega (arith, zeros_le (n * 10) k, whole))))
    (cases_lt (n * 10) (2 ^ 32))

digits_numeral : (ds : List ℕ) → all_ascii_digits ds ≡ true → not (eqb (length ds) 0) ≡ numeral ds
digits_numeral [] h = refl
digits_numeral (c ∷ cs) h = ap not (ne_eqb (suc (length cs)) 0 (λ e. omega arith)) ∙ sym h

-- a text that is not empty, each byte of which was tested
pub numeral_tested : (ds : List ℕ) → false ≡ eqb (length ds) 0 → list_all is_ascii_digit ds ≡ numeral ds
numeral_tested [] h = cc
numeral_tested (c ∷ cs) h = refl

fitted_was_err : (f : DecimalFault) (m : ℕ) → Err f ≡ fitted m → (f ≡ TooLarge) × (2 ^ 32 ≤ m)
fitted_was_err f m h =
    ⊎_elim
    (λ low. let e = fitted_below m low in let z : ◌≡◌ {A = ℕ} 0 1 = cc in absurd (omega arith))
    (λ high. let e = fitted_above m high in ((cc), high))
    (cases_lt m (2 ^ 32))

-- what is too large stays so with zeros behind it
pub fault_zeros : (f : DecimalFault) (m z : ℕ) → Err f ≡ fitted m → Err f ≡ fitted (m * 10 ^ z)
fault_zeros f m z h =
    let was = fitted_was_err f m h in
    ap Err was.0 ∙ sym (fitted_above (m * 10 ^ z) (omega (arith, was.1, zeros_le m z)))

-- where a text has no point, and where its first point stands
no_point : (bs : List ℕ) → ((i : ℕ) → i < length bs → get_or bs i 0 ≡ 46 → ⊥) → (before_point bs ≡ bs) × (after_point bs ≡ None)
no_point [] h = (refl, refl)
no_point (c ∷ cs) h =
    let no = ne_eqb c 46 (h 0 (omega arith)) in
    let rest = no_point cs (λ i lt. h (suc i) (omega arith)) in
    (ap (λ b. cond b [] (c ∷ before_point cs)) no ∙ ap (λ l. c ∷ l) rest.0, ap (λ b. cond b (Some cs) (after_point cs)) no ∙ rest.1)

first_point : (xs ys : List ℕ) → ((i : ℕ) → i < length xs → get_or xs i 0 ≡ 46 → ⊥) → (before_point (xs ++ 46 ∷ ys) ≡ xs) × (after_point (xs ++ 46 ∷ ys) ≡ Some ys)
first_point [] ys h = (refl, refl)
first_point (c ∷ cs) ys h =
    let no = ne_eqb c 46 (h 0 (omega arith)) in
    let rest = first_point cs ys (λ i lt. h (suc i) (omega arith)) in
    (ap (λ b. cond b [] (c ∷ before_point (cs ++ 46 ∷ ys))) no ∙ ap (λ l. c ∷ l) rest.0, ap (λ b. cond b (Some (cs ++ 46 ∷ ys)) (after_point (cs ++ 46 ∷ ys))) no ∙ rest.1)

pub read_pointless : (places : ℕ) (bs : List ℕ) (r : Result ℕ DecimalFault) → ((i : ℕ) → i < length bs → get_or bs i 0 ≡ 46 → ⊥) → r ≡ of_parts places bs None → r ≡ decimal_read places bs
read_pointless places bs r h is = let e = no_point bs h in is ∙ (λ i. of_parts places (sym e.0 i) (sym e.1 i))

pub read_pointed : (places : ℕ) (bs xs ys : List ℕ) (r : Result ℕ DecimalFault) → bs ≡ xs ++ 46 ∷ ys → ((i : ℕ) → i < length xs → get_or xs i 0 ≡ 46 → ⊥) → r ≡ of_parts places xs (Some ys) → r ≡ decimal_read places bs
read_pointed places bs xs ys r cut h is =
    let e = first_point xs ys h in
    is ∙ (λ i. of_parts places (sym e.0 i) (sym e.1 i)) ∙ ap (decimal_read places) (sym cut)

-- what is shown is read back
of_good_parts : (places : ℕ) (whole decimals : List ℕ) → numeral whole ≡ true → numeral decimals ≡ true → length decimals ≤ places → of_parts places whole (Some decimals) ≡ fitted (number whole * 10 ^ places + number decimals * 10 ^ (places - length decimals))
of_good_parts places whole decimals w d few =
    let value : Result ℕ DecimalFault = fitted (number whole * 10 ^ places + number decimals * 10 ^ (places - length decimals)) in
    ap (λ b. cond b (cond (leb (length decimals) places) value (Err TooManyDecimals)) (Err Malformed)) (and_from (numeral whole) (numeral decimals) w d)
    ∙ ap (λ b. cond b value (Err TooManyDecimals)) (le-leb (length decimals) places few)

digit_ascii : (d : ℕ) → d < 10 → is_ascii_digit (48 + d) ≡ true
digit_ascii d h = grind (arith, nat_tests)

four : ℕ → List ℕ
four n = (48 + n / 1000 % 10) ∷ (48 + n / 100 % 10) ∷ (48 + n / 10 % 10) ∷ (48 + n % 10) ∷ []

four_numeral : (n : ℕ) → numeral (four n) ≡ true
unfolding four
four_numeral n =
    and_from _ _ (digit_ascii (n / 1000 % 10) (omega arith))
    (and_from _ _ (digit_ascii (n / 100 % 10) (omega arith))
    (and_from _ _ (digit_ascii (n / 10 % 10) (omega arith))
    (and_from _ _ (digit_ascii (n % 10) (omega arith)) refl)))

four_number : (n : ℕ) → n / 10000 * 10000 + number (four n) ≡ n
unfolding four
four_number n = omega (arith, div-div-eq-div-mul n 10 10, div-div-eq-div-mul n 100 10, div-div-eq-div-mul n 1000 10)

pub read_back : (n : ℕ) → n < 2 ^ 32 → decimal_read 4 (yuan_text n) ≡ Ok n
unfolding four
read_back n small =
    let fits : n / 10000 < 2 ^ 64 = omega arith in
    let ds : List ℕ = decimal (n / 10000) in
    let all = digits_decimal own (n / 10000) fits in
    let some = decimal_nonempty (n / 10000) fits in
    let whole : numeral ds ≡ true = sym (digits_numeral ds all) ∙ ap not (ne_eqb (length ds) 0 (λ e. omega arith)) in
    let is : number ds ≡ n / 10000 = digits_value-decimal own (n / 10000) fits in
    let sum : number ds * 10 ^ 4 + number (four n) * 10 ^ (4 - 4) ≡ n = omega (arith, is, four_number n) in
    sym (read_pointed 4 (yuan_text n) ds (four n) (of_parts 4 ds (Some (four n))) refl (not_in_digits own ds 46 all (λ h. omega arith)) refl)
    ∙ of_good_parts 4 ds (four n) whole (four_numeral n) (omega arith)
    ∙ ap fitted sum
    ∙ fitted_below n small

pub back_from : (places : ℕ) (bs : List ℕ) (r : Result ℕ DecimalFault) → r ≡ decimal_read places bs → (n : ℕ) → n < 2 ^ 32 → places ≡ 4 → bs ≡ yuan_text n → r ≡ Ok n
back_from places bs r value n small four_places shown = value ∙ (λ i. decimal_read (four_places i) (shown i)) ∙ read_back n small

-- numbers of two, three and four digits
decimal_two : (m : ℕ) → 10 ≤ m → m < 100 → decimal m ≡ (48 + m / 10) ∷ (48 + m % 10) ∷ []
decimal_two m low high = decimal_step m low (omega arith) ∙ ap (λ ds. ds ++ ((48 + m % 10) ∷ [])) (decimal_digit (m / 10) (omega arith))

decimal_three : (m : ℕ) → 100 ≤ m → m < 1000 → decimal m ≡ (48 + m / 10 / 10) ∷ (48 + m / 10 % 10) ∷ (48 + m % 10) ∷ []
decimal_three m low high = decimal_step m (omega arith) (omega arith) ∙ ap (λ ds. ds ++ ((48 + m % 10) ∷ [])) (decimal_two (m / 10) (omega arith) (omega arith))

decimal_four : (m : ℕ) → 1000 ≤ m → m < 10000 → decimal m ≡ (48 + m / 10 / 10 / 10) ∷ (48 + m / 10 / 10 % 10) ∷ (48 + m / 10 % 10) ∷ (48 + m % 10) ∷ []
decimal_four m low high = decimal_step m (omega arith) (omega arith) ∙ ap (λ ds. ds ++ ((48 + m % 10) ∷ [])) (decimal_three (m / 10) (omega arith) (omega arith))

same_four : {a b c d e f g h : ℕ} → a ≡ e → b ≡ f → c ≡ g → d ≡ h → ◌≡◌ {A = List ℕ} (a ∷ b ∷ c ∷ d ∷ []) (e ∷ f ∷ g ∷ h ∷ [])
same_four p q r s = cc

-- what `{:04}` writes of the last four digits
four_written : (n : ℕ) → padded_integral (format_spec 32 0 4 4 (2 ^ 64 - 1)) false [] (decimal (n % 10000)) ≡ (48 + n / 1000 % 10) ∷ (48 + n / 100 % 10) ∷ (48 + n / 10 % 10) ∷ (48 + n % 10) ∷ []
unfolding padded_integral char_count
four_written n =
    let m : ℕ = n % 10000 in
    ⊎_elim
    (λ one. rw (decimal_digit m one) (same_four (omega arith) (omega arith) (omega arith) (omega arith)))
    (λ more. ⊎_elim
    (λ two. rw (decimal_two m more two) (same_four (omega arith) (omega arith) (omega arith) (omega arith)))
    (λ more. ⊎_elim
    (λ three. rw (decimal_three m more three) (same_four (omega arith) (omega arith) (omega arith) (omega arith)))
    (λ more. rw (decimal_four m more (omega arith)) (same_four (omega arith) (omega arith) (omega arith) (omega arith)))
    (cases_lt m 1000))
    (cases_lt m 100))
    (cases_lt m 10)

pub yuan_written : (n : ℕ) (s : _) → s ≡ format_spec 32 0 4 4 (2 ^ 64 - 1) → decimal (n / 10000) ++ (46 ∷ styled_decimal s (n % 10000)) ≡ yuan_text n
yuan_written n s e = ap (λ o. decimal (n / 10000) ++ (46 ∷ styled_decimal o (n % 10000))) e ∙ ap (λ ds. decimal (n / 10000) ++ (46 ∷ ds)) (four_written n)
