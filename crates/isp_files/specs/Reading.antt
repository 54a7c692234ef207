-- How bytes are read, a piece at a time.
--     Read A          a value and the bytes after it; or what is wrong, and how many bytes are left where it stands
--     number_of       a number in digits
--     numbers_of      so many numbers, each in so many bytes and at most so great
use Rattle.std.specs.Prelude.{ℕ, zero, suc, ◌-◌, ◌^◌, ◌==◌, ◌||◌, ◌&&◌, List, [], ◌∷◌, ◌++◌, length, take, drop, Bool, nat_lt, Result, Ok, Err, ⊤, if◌then◌else◌}
use Rattle.std.specs.Char.{is_digit as is_digit_in}
use Rattle.std.specs.List.{prefix_len}
use Rattle.std.specs.Str.Parse.{digits_value}
use Rattle.isp_files.specs.declared.fault.Flaw.{Flaw}
use Rattle.isp_files.specs.declared.fault.Flaw.TheVariants.{Ends, Header, NoValue, TooMany, Long}
use Rattle.isp_files.specs.declared.fault.Slip.{Slip}
use Rattle.isp_files.specs.declared.fault.Slip.TheVariants.{At}

abbrev pub Read : Type 0 → Type 0
Read A = Result (A × List ℕ) Slip

-- the next piece begins where the one before ends
infixl 10 ◌>>=◌
abbrev pub ◌>>=◌ : {A B : Type 0} → Result A Slip → (A → Result B Slip) → Result B Slip
Ok a >>= f = f a
Err e >>= f = Err e

-- this is wrong, at the first of these bytes
abbrev pub flawed : {A : Type 0} → Flaw → List ℕ → Result A Slip
flawed w bs = Err (At w (length bs))

-- ---- bytes

abbrev pub byte_of : List ℕ → Read ℕ
byte_of [] = flawed Ends []
byte_of (b ∷ bs) = Ok (b, bs)

-- this byte; another is such a flaw
abbrev pub sign_of : Flaw → ℕ → List ℕ → Read ⊤
sign_of w c [] = flawed Ends []
sign_of w c (b ∷ bs) = if b == c then Ok (tt, bs) else flawed w (b ∷ bs)

-- these bytes
abbrev pub word_of : Flaw → List ℕ → List ℕ → Read ⊤
word_of w [] bs = Ok (tt, bs)
word_of w (c ∷ cs) bs = sign_of w c bs >>= (λ p. word_of w cs p.1)

-- a blank, a tab, a line feed and its kin
abbrev pub is_blank : ℕ → Bool
is_blank b = (b == 32) || (nat_lt 8 b && nat_lt b 14)

abbrev pub past_blanks : List ℕ → List ℕ
past_blanks bs = drop (prefix_len is_blank bs) bs

-- no byte is left
abbrev pub end_of : List ℕ → Read ⊤
end_of [] = Ok (tt, [])
end_of (b ∷ bs) = flawed Long (b ∷ bs)

-- ---- numbers in digits

-- the elements that an array may have
abbrev pub longest : ℕ
longest = 2 ^ 63 - 1

abbrev pub is_digit : ℕ → Bool
is_digit b = is_digit_in b 10

abbrev pub decimal_of : ℕ → List ℕ → Read ℕ
decimal_of zero [] = flawed Ends []
decimal_of zero (b ∷ bs) = flawed Header (b ∷ bs)
decimal_of (suc n) bs = if nat_lt longest (digits_value 10 (take (suc n) bs)) then flawed TooMany bs else Ok (digits_value 10 (take (suc n) bs), drop (suc n) bs)

-- as many digits as there are, and at least one
abbrev pub number_of : List ℕ → Read ℕ
number_of bs = decimal_of (prefix_len is_digit bs) bs

-- ---- elements

-- a number in n bytes and at most m, where `number n bs` is what the first n bytes hold
abbrev pub one_of : (ℕ → List ℕ → ℕ) → ℕ → ℕ → List ℕ → Read ℕ
one_of number n m bs = if nat_lt (length bs) n then flawed Ends [] else (if nat_lt m (number n bs) then flawed NoValue bs else Ok (number n bs, drop n bs))

-- these before those that follow
abbrev pub ahead : List ℕ → Read (List ℕ) → Read (List ℕ)
ahead xs r = r >>= (λ p. Ok (xs ++ p.0, p.1))

-- c of them
abbrev pub numbers_of : (ℕ → List ℕ → ℕ) → ℕ → ℕ → ℕ → List ℕ → Read (List ℕ)
numbers_of number n m zero bs = Ok ([], bs)
numbers_of number n m (suc c) bs = one_of number n m bs >>= (λ x. ahead (x.0 ∷ []) (numbers_of number n m c x.1))
