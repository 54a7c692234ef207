-- Numbers in decimal digits, digit by digit.
use Rattle.std.proofs.Common.{◌≡◌, ◌≤◌, ◌<◌, ◌+◌, ◌-◌, ◌*◌, ℕ, List, [], ◌∷◌, true, length, drop, get_or, length-drop, get_or-drop, add-zero, arith}
use Rattle.std.specs.Char.{is_ascii_digit, digit_value}
use Rattle.std.specs.Str.{all_ascii_digits}
use Rattle.std.specs.Str.Parse.{digits_value, digits_value_after}
use Rattle.std.proofs.lemmas.Bool.{and_parts}
use Rattle.std.proofs.lemmas.Bool.Decides.{nat_tests}

-- digits read one by one: the number never falls
digits_grow : (ds : List ℕ) (n : ℕ) → n ≤ digits_value_after 10 n ds
digits_grow [] n = omega arith
digits_grow (c ∷ cs) n = let h = digits_grow cs (n * 10 + digit_value c) in omega (arith, h)

digit_is : (c : ℕ) → is_ascii_digit c ≡ true → digit_value c ≡ c - 48
digit_is c h = grind (arith, nat_tests)

more_digits : (ds : List ℕ) (n v : ℕ) → 0 < length ds → all_ascii_digits ds ≡ true → digits_value_after 10 n ds ≡ v → n * 10 + (get_or ds 0 0 - 48) ≤ v
more_digits [] n v l h e = absurd (omega (arith, l))
more_digits (c ∷ cs) n v l h e =
    let d = digit_is c (and_parts (is_ascii_digit c) (all_ascii_digits cs) h).0 in
    let g = digits_grow cs (n * 10 + digit_value c) in
    omega (arith, d, g, e)

pub next_digit : (digits : List ℕ) (i n : ℕ) → i < length digits → all_ascii_digits (drop i digits) ≡ true → digits_value_after 10 n (drop i digits) ≡ digits_value 10 digits → n * 10 + (get_or digits i 0 - 48) ≤ digits_value 10 digits
next_digit digits i n l h e =
    let g = more_digits (drop i digits) n (digits_value 10 digits) (simp length-drop (omega (arith, l))) h e in
    let k = get_or-drop i digits 0 0 in
    let z : get_or digits (i + 0) 0 ≡ get_or digits i 0 = rw add-zero in
    omega (arith, g, k, z)
