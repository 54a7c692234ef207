-- What is read as a number is one.
use Rattle.std.proofs.Common.{◌≡◌, ℕ, ◌<◌, ◌≤◌, ◌^◌, Bool, true, false, cond, List, [], ◌∷◌, ◌++◌, length, take, drop, Option, Some, None, refl, sym, ap, subst, ◌∙◌, arith}
use Rattle.std.specs.Prelude.{◌&&◌, ◌||◌, ◌==◌, not, nat_lt, nat_le, codes}
use Rattle.std.specs.Char.{digit_value, is_ascii_digit, to_ascii_lowercase}
use Rattle.std.specs.Str.{bytes_eq}
use Rattle.std.specs.Str.Parse.{AllDigits, IsNumeral, digits_value}
use Rattle.std.proofs.lemmas.Bool.{false≢true, eqb-true, ltb-false, leb-true, leb-false, le-leb, lt-leb}
use Rattle.std.proofs.lemmas.Bool.Decides.{nat_tests}
use Rattle.std.proofs.lemmas.List.{drop_at, take_at, take-append-drop}
use Rattle.std.proofs.lemmas.Str.Parse.{digit_from_value}
use Rattle.std.proofs.lemmas.Slice.Eq.{bytes_eq-Decides}
use Rattle.isp_base.specs.declared.types.Elem.{Elem}
use Rattle.isp_base.specs.declared.types.Elem.TheVariants as elem
use Rattle.isp_base.specs.declared.types.Value.{Value}
use Rattle.isp_base.specs.Values.{greatest}
use Rattle.isp_lex.specs.declared.numbers.Digits.{Digits}
use Rattle.isp_lex.specs.declared.numbers.Suffix.{Suffix}
use Rattle.isp_lex.specs.declared.numbers.Suffix.TheVariants as suffix
use Rattle.isp_lex.specs.Bytes.{all, begins, is_word_byte, next_is}
use Rattle.isp_lex.specs.Numbers.{IsDigits, decimal, hexadecimal, binary, Types, without, with_u, with_l, with_ll, with_ul, with_lu, with_ull, with_llu, FirstFit, here, later, IsNumber}
use Rattle.isp_lex.specs.reader.Numerals.{digits_at, digits_of, first_type, is_digits_byte, is_suffix_letter, is_long, is_prefixed, is_unsigned_long, lower, read_number, numeral, plain_of, suffix_of, typed, types_of, value_at}
use Rattle.isp_lex.specs.reader.Runs.{run}
use Rattle.isp_lex.proofs.Numerals.{numeral_sound, numeral_complete}
use Rattle.isp_lex.proofs.Runs.{all_both, and_both, run_is}
use Rattle.isp_lex.proofs.Spellings.{begins_front}

-- types

fit_at : (t u : Elem) (ts : List Elem) (n : ℕ) (b : Bool) → nat_le n (greatest t) ≡ b → (first_type ts n ≡ Some u → FirstFit ts n u) → cond b (Some t) (first_type ts n) ≡ Some u → FirstFit (t ∷ ts) n u
fit_at t u ts n true f more e =
    let i : t ≡ u = cc in
    subst (λ (v : Elem). FirstFit (t ∷ ts) n v) i (here t ts n (leb-true _ _ f))
fit_at t u ts n false f more e = later t u ts n (leb-false _ _ f) (more e)

fit_sound : (ts : List Elem) (n : ℕ) (u : Elem) → first_type ts n ≡ Some u → FirstFit ts n u
fit_sound [] n u e = absurd cc
fit_sound (t ∷ ts) n u e = fit_at t u ts n (nat_le n (greatest t)) refl (fit_sound ts n u) e

fit_complete : {ts : List Elem} {n : ℕ} {u : Elem} → FirstFit ts n u → first_type ts n ≡ Some u
fit_complete (here t ts n h) = rw (le-leb _ _ h) refl
fit_complete (later t u ts n h f) = rw (lt-leb _ _ h) (fit_complete f)

greatest_small : (t : Elem) → greatest t < 2 ^ 64
greatest_small elem.Bool = omega arith
greatest_small t = omega arith

fit_small : {ts : List Elem} {n : ℕ} {u : Elem} → FirstFit ts n u → n < 2 ^ 64
fit_small (here t ts n h) = omega (arith, greatest_small t)
fit_small (later t u ts n h f) = fit_small f

-- digits

leads_at : (text : List ℕ) → 0 < length text → (next_is 48 text && nat_lt 1 (length text)) ≡ false → next_is 48 text ≡ true → length text ≡ 1
leads_at text some e h =
    let f : nat_lt 1 (length text) ≡ false = rw h at e in
    let g = ltb-false 1 (length text) f in
    omega arith

decimal_sound : (text : List ℕ) (d : Digits) (o : Option ℕ) → numeral 10 text ≡ o → (next_is 48 text && nat_lt 1 (length text)) ≡ false → digits_at true o ≡ Some d → IsDigits text d.bits (plain_of d.is_decimal)
decimal_sound text d None r h e = absurd cc
decimal_sound text d (Some n) r h e =
    let i : record { is_decimal = true; bits = n } ≡ d = cc in
    let q = numeral_sound 10 text n r in
    subst (λ (x : Digits). IsDigits text x.bits (plain_of x.is_decimal)) i
    (subst (λ (x : ℕ). IsDigits text x (plain_of true)) (sym q.1) (decimal text q.0 (leads_at text q.0.0 h)))

-- the digits of a prefix
abbrev Prefixed : ℕ → ℕ → Type 0
Prefixed c radix = (ds : List ℕ) → IsNumeral radix ds → IsDigits (48 ∷ c ∷ ds) (digits_value radix ds) (plain_of false)

bits_sound : (c radix : ℕ) (text : List ℕ) (d : Digits) (o : Option ℕ) → Prefixed c radix → text ≡ 48 ∷ c ∷ drop 2 text → numeral radix (drop 2 text) ≡ o → digits_at false o ≡ Some d → IsDigits text d.bits (plain_of d.is_decimal)
bits_sound c radix text d None make s r e = absurd cc
bits_sound c radix text d (Some n) make s r e =
    let i : record { is_decimal = false; bits = n } ≡ d = cc in
    let q = numeral_sound radix (drop 2 text) n r in
    subst (λ (x : Digits). IsDigits text x.bits (plain_of x.is_decimal)) i
    (subst (λ (x : ℕ). IsDigits text x (plain_of false)) (sym q.1)
    (subst (λ (t : List ℕ). IsDigits t (digits_value radix (drop 2 text)) (plain_of false)) (sym s) (make (drop 2 text) q.0)))

prefix_split : (c : ℕ) (text : List ℕ) → is_prefixed c text ≡ true → text ≡ 48 ∷ c ∷ drop 2 text
prefix_split c [] e = absurd (false≢true e)
prefix_split c (a ∷ []) e = absurd (false≢true (and_both (a == 48) false e).1)
prefix_split c (a ∷ b ∷ ds) e =
    let q = and_both (a == 48) (b == c) e in
    ap (λ (x : ℕ). x ∷ b ∷ ds) (eqb-true a 48 q.0) ∙ ap (λ (x : ℕ). 48 ∷ x ∷ ds) (eqb-true b c q.1)

digits_third : (text : List ℕ) (d : Digits) (t : Bool) → (next_is 48 text && nat_lt 1 (length text)) ≡ t → cond t None (digits_at true (numeral 10 text)) ≡ Some d → IsDigits text d.bits (plain_of d.is_decimal)
digits_third text d true h e = absurd cc
digits_third text d false h e = decimal_sound text d (numeral 10 text) refl h e

digits_second : (text : List ℕ) (d : Digits) (t : Bool) → is_prefixed 98 text ≡ t → cond t (digits_at false (numeral 2 (drop 2 text))) (cond (next_is 48 text && nat_lt 1 (length text)) None (digits_at true (numeral 10 text))) ≡ Some d
    → IsDigits text d.bits (plain_of d.is_decimal)
digits_second text d true h e = bits_sound 98 2 text d (numeral 2 (drop 2 text)) binary (prefix_split 98 text h) refl e
digits_second text d false h e = digits_third text d (next_is 48 text && nat_lt 1 (length text)) refl e

digits_first : (text : List ℕ) (d : Digits) (t : Bool) → is_prefixed 120 text ≡ t
    → cond t (digits_at false (numeral 16 (drop 2 text))) (cond (is_prefixed 98 text) (digits_at false (numeral 2 (drop 2 text))) (cond (next_is 48 text && nat_lt 1 (length text)) None (digits_at true (numeral 10 text)))) ≡ Some d
    → IsDigits text d.bits (plain_of d.is_decimal)
digits_first text d true h e = bits_sound 120 16 text d (numeral 16 (drop 2 text)) hexadecimal (prefix_split 120 text h) refl e
digits_first text d false h e = digits_second text d (is_prefixed 98 text) refl e

digits_sound : (text : List ℕ) (d : Digits) → digits_of text ≡ Some d → IsDigits text d.bits (plain_of d.is_decimal)
digits_sound text d e = digits_first text d (is_prefixed 120 text) refl e

-- what the digits give
record Given (text : List ℕ) (n : ℕ) (types : List Elem) : Type 0 where
  found : Digits
  is : digits_of text ≡ Some found
  bits : found.bits ≡ n
  types_are : plain_of found.is_decimal ≡ types

no_lead : (text : List ℕ) (t : Bool) → next_is 48 text ≡ t → (next_is 48 text ≡ true → length text ≡ 1) → (next_is 48 text && nat_lt 1 (length text)) ≡ false
no_lead text true e h = rw (e, h e) refl
no_lead text false e h = rw e refl

no_prefix_at : (c : ℕ) (text : List ℕ) (t : Bool) → is_prefixed c text ≡ t → (next_is 48 text ≡ true → length text ≡ 1) → is_prefixed c text ≡ false
no_prefix_at c text true e h =
    let s = prefix_split c text e in
    let n = h (ap (next_is 48) s) in
    absurd (omega (arith, ap length s))
no_prefix_at c text false e h = e

digits_complete : {text : List ℕ} {n : ℕ} {types : List Elem} → IsDigits text n types → n < 2 ^ 64 → Given text n types
digits_complete (decimal ds i h) small = record {
  found = record { is_decimal = true; bits = digits_value 10 ds };
  is = rw (no_prefix_at 120 ds (is_prefixed 120 ds) refl h, no_prefix_at 98 ds (is_prefixed 98 ds) refl h, no_lead ds (next_is 48 ds) refl h, numeral_complete 10 ds i small) refl;
  bits = refl;
  types_are = refl;
}
digits_complete (hexadecimal ds i) small = record {
  found = record { is_decimal = false; bits = digits_value 16 ds };
  is = rw (numeral_complete 16 ds i small) refl;
  bits = refl;
  types_are = refl;
}
digits_complete (binary ds i) small = record {
  found = record { is_decimal = false; bits = digits_value 2 ds };
  is = rw (numeral_complete 2 ds i small) refl;
  bits = refl;
  types_are = refl;
}

-- suffixes

same : (a b : List ℕ) → bytes_eq a b ≡ true → a ≡ b
same a b e = (bytes_eq-Decides a b).0 e

-- what a suffix asks is one of the rows
abbrev Asks : List ℕ → Suffix → Type 0
Asks s x = (decimal : Bool) → Types (plain_of decimal) s (types_of decimal x)

asks_at : (s w : List ℕ) (x y : Suffix) (next : Option Suffix) (t : Bool) → (t ≡ true → Asks s x) → (next ≡ Some y → Asks s y) → cond t (Some x) next ≡ Some y → Asks s y
asks_at s w x y next true h more e =
    let i : x ≡ y = cc in
    subst (Asks s) i (h refl)
asks_at s w x y next false h more e = more e

is_word : (s w : List ℕ) (x : Suffix) → Asks w x → bytes_eq s w ≡ true → Asks s x
is_word s w x h e = subst (λ (l : List ℕ). Asks l x) (sym (same s w e)) h

either : (s : List ℕ) (x : Suffix) (a b : Bool) → (a ≡ true → Asks s x) → (b ≡ true → Asks s x) → (a || b) ≡ true → Asks s x
either s x true b h k e = h refl
either s x false b h k e = k e

suffix_sound : (s : List ℕ) (x : Suffix) → suffix_of s ≡ Some x → Asks s x
suffix_sound s x e =
    asks_at s [] suffix.Plain x _ (bytes_eq s []) (is_word s [] suffix.Plain (λ d. without (plain_of d))) (
    asks_at s [] suffix.Unsigned x _ (bytes_eq s (codes "u")) (is_word s (codes "u") suffix.Unsigned (λ d. with_u (plain_of d))) (
    asks_at s [] suffix.Long x _ (is_long s) (either s suffix.Long _ _ (is_word s (codes "l") suffix.Long (λ d. with_l (plain_of d))) (is_word s (codes "ll") suffix.Long (λ d. with_ll (plain_of d)))) (
    asks_at s [] suffix.UnsignedLong x _ (is_unsigned_long s)
    (either s suffix.UnsignedLong _ _
    (either s suffix.UnsignedLong _ _ (is_word s (codes "ul") suffix.UnsignedLong (λ d. with_ul (plain_of d))) (is_word s (codes "lu") suffix.UnsignedLong (λ d. with_lu (plain_of d))))
    (either s suffix.UnsignedLong _ _ (is_word s (codes "ull") suffix.UnsignedLong (λ d. with_ull (plain_of d))) (is_word s (codes "llu") suffix.UnsignedLong (λ d. with_llu (plain_of d)))))
    (λ f. absurd cc)))) e

-- the row of a suffix
abbrev Row : List Elem → List ℕ → List Elem → Type 0
Row ts s us = (x : Suffix) × (suffix_of s ≡ Some x) × ((decimal : Bool) → plain_of decimal ≡ ts → types_of decimal x ≡ us)

suffix_complete : {ts : List Elem} {s : List ℕ} {us : List Elem} → Types ts s us → Row ts s us
suffix_complete (without ts) = (suffix.Plain, refl, λ d e. e)
suffix_complete (with_u ts) = (suffix.Unsigned, refl, λ d e. refl)
suffix_complete (with_l ts) = (suffix.Long, refl, λ d e. refl)
suffix_complete (with_ll ts) = (suffix.Long, refl, λ d e. refl)
suffix_complete (with_ul ts) = (suffix.UnsignedLong, refl, λ d e. refl)
suffix_complete (with_lu ts) = (suffix.UnsignedLong, refl, λ d e. refl)
suffix_complete (with_ull ts) = (suffix.UnsignedLong, refl, λ d e. refl)
suffix_complete (with_llu ts) = (suffix.UnsignedLong, refl, λ d e. refl)

-- a suffix begins with one of its letters
abbrev no_letter : ℕ → Bool
no_letter b = not (b == 117 || b == 108)

suffix_first : {ts : List Elem} {s : List ℕ} {us : List Elem} → Types ts s us → begins no_letter s ≡ false
suffix_first (without ts) = refl
suffix_first (with_u ts) = refl
suffix_first (with_l ts) = refl
suffix_first (with_ll ts) = refl
suffix_first (with_ul ts) = refl
suffix_first (with_lu ts) = refl
suffix_first (with_ull ts) = refl
suffix_first (with_llu ts) = refl

begins_lower : (s : List ℕ) → begins is_digits_byte s ≡ begins no_letter (lower s)
begins_lower [] = refl
begins_lower (b ∷ bs) = refl

-- no digit is a letter of a suffix
letter_value : (d : ℕ) → is_suffix_letter d ≡ true → 16 ≤ digit_value d
letter_value d e = grind (arith, nat_tests)

digit_byte_at : (d : ℕ) (t : Bool) → is_suffix_letter d ≡ t → digit_value d < 16 → is_digits_byte d ≡ true
digit_byte_at d true e h = absurd (omega (arith, letter_value d e))
digit_byte_at d false e h = rw e refl

digits_bytes : (radix : ℕ) (ds : List ℕ) → radix ≤ 16 → AllDigits radix ds → all is_digits_byte ds ≡ true
digits_bytes radix [] r h = refl
digits_bytes radix (d ∷ ds) r h = rw (digit_byte_at d (is_suffix_letter d) refl (omega (arith, h.0)), digits_bytes radix ds r h.1) refl

number_bytes : {text : List ℕ} {n : ℕ} {types : List Elem} → IsDigits text n types → all is_digits_byte text ≡ true
number_bytes (decimal ds i h) = digits_bytes 10 ds (omega arith) i.1
number_bytes (hexadecimal ds i) = digits_bytes 16 ds (omega arith) i.1
number_bytes (binary ds i) = digits_bytes 2 ds (omega arith) i.1

-- numbers

value_sound : (n : ℕ) (v : Value) (o : Option Elem) → value_at o n ≡ Some v → (o ≡ Some v.elem) × (v.bits ≡ n)
value_sound n v None e = absurd cc
value_sound n v (Some t) e = let i : record { elem = t; bits = n } ≡ v = cc in (ap (λ (w : Value). Some w.elem) i, ap (λ (w : Value). w.bits) (sym i))

typed_sound : (text front back : List ℕ) (v : Value) → text ≡ front ++ back → (o : Option Digits) → digits_of front ≡ o → (s : Option Suffix) → suffix_of (lower back) ≡ s → typed o s ≡ Some v → IsNumber v text
typed_sound text front back v e None p s q h = absurd cc
typed_sound text front back v e (Some d) p None q h = absurd cc
typed_sound text front back v e (Some d) p (Some x) q h =
    let i = value_sound d.bits v (first_type (types_of d.is_decimal x) d.bits) h in
    let f = fit_sound (types_of d.is_decimal x) d.bits v.elem i.0 in
    record {
      digits = front;
      suffix = back;
      plain = plain_of d.is_decimal;
      types = types_of d.is_decimal x;
      split = e;
      value = subst (λ (n : ℕ). IsDigits front n (plain_of d.is_decimal)) (sym i.1) (digits_sound front d p);
      allowed = suffix_sound (lower back) x q d.is_decimal;
      fits = subst (λ (n : ℕ). FirstFit (types_of d.is_decimal x) n v.elem) (sym i.1) f;
    }

pub number_sound : (text : List ℕ) (v : Value) → read_number text ≡ Some v → IsNumber v text
number_sound text v e =
    let n = run is_digits_byte text in
    typed_sound text (take n text) (drop n text) v (sym (take-append-drop n text)) (digits_of (take n text)) refl (suffix_of (lower (drop n text))) refl e

typed_complete : (v : Value) (front back : List ℕ) (ts us : List Elem) → Given front v.bits ts → Row ts (lower back) us → FirstFit us v.bits v.elem → typed (digits_of front) (suffix_of (lower back)) ≡ Some v
typed_complete v front back ts us g r f =
    let t : types_of g.found.is_decimal r.0 ≡ us = r.2 g.found.is_decimal g.types_are in
    let q : first_type (types_of g.found.is_decimal r.0) g.found.bits ≡ Some v.elem = ap (λ (l : List Elem). first_type l g.found.bits) t ∙ ap (first_type us) g.bits ∙ fit_complete f in
    ap (λ (o : Option Digits). typed o (suffix_of (lower back))) g.is ∙ ap (typed (Some g.found)) r.1 ∙ ap (λ (o : Option Elem). value_at o g.found.bits) q ∙ ap (λ (n : ℕ). Some (record { elem = v.elem; bits = n })) g.bits

pub number_complete : (text : List ℕ) (v : Value) → IsNumber v text → read_number text ≡ Some v
number_complete text v h =
    let n : run is_digits_byte (h.digits ++ h.suffix) ≡ length h.digits = run_is is_digits_byte h.digits h.suffix (number_bytes h.value) (begins_lower h.suffix ∙ suffix_first h.allowed) in
    let front : take (run is_digits_byte (h.digits ++ h.suffix)) (h.digits ++ h.suffix) ≡ h.digits = ap (λ (k : ℕ). take k (h.digits ++ h.suffix)) n ∙ take_at h.digits h.suffix (length h.digits) refl in
    let back : drop (run is_digits_byte (h.digits ++ h.suffix)) (h.digits ++ h.suffix) ≡ h.suffix = ap (λ (k : ℕ). drop k (h.digits ++ h.suffix)) n ∙ drop_at h.digits h.suffix (length h.digits) refl in
    let t = typed_complete v h.digits h.suffix h.plain h.types (digits_complete h.value (fit_small h.fits)) (suffix_complete h.allowed) h.fits in
    ap read_number h.split
    ∙ ap (λ (l : List ℕ). typed (digits_of l) (suffix_of (lower (drop (run is_digits_byte (h.digits ++ h.suffix)) (h.digits ++ h.suffix))))) front
    ∙ ap (λ (l : List ℕ). typed (digits_of h.digits) (suffix_of (lower l))) back
    ∙ t

-- a number begins with a digit and has bytes of words alone

is_digit : (d : ℕ) → digit_value d < 10 → is_ascii_digit d ≡ true
is_digit d h = let r = digit_from_value d h in grind (arith, nat_tests)

decimal_starts : (ds : List ℕ) → IsNumeral 10 ds → begins is_ascii_digit ds ≡ true
decimal_starts [] i = absurd (omega (arith, i.0))
decimal_starts (d ∷ ds) i = is_digit d i.1.0

digits_start : {text : List ℕ} {n : ℕ} {types : List Elem} → IsDigits text n types → (suffix : List ℕ) → begins is_ascii_digit (text ++ suffix) ≡ true
digits_start (decimal ds i h) suffix = begins_front is_ascii_digit ds suffix i.0 ∙ decimal_starts ds i
digits_start (hexadecimal ds i) suffix = refl
digits_start (binary ds i) suffix = refl

pub number_starts : (text : List ℕ) (v : Value) → IsNumber v text → begins is_ascii_digit text ≡ true
number_starts text v h = ap (begins is_ascii_digit) h.split ∙ digits_start h.value h.suffix

digit_word_byte : (d : ℕ) → digit_value d < 16 → is_word_byte d ≡ true
digit_word_byte d h = grind (arith, nat_tests)

digits_word_bytes : (radix : ℕ) (ds : List ℕ) → radix ≤ 16 → AllDigits radix ds → all is_word_byte ds ≡ true
digits_word_bytes radix [] r h = refl
digits_word_bytes radix (d ∷ ds) r h = rw (digit_word_byte d (omega (arith, h.0)), digits_word_bytes radix ds r h.1) refl

front_word_bytes : {text : List ℕ} {n : ℕ} {types : List Elem} → IsDigits text n types → all is_word_byte text ≡ true
front_word_bytes (decimal ds i h) = digits_word_bytes 10 ds (omega arith) i.1
front_word_bytes (hexadecimal ds i) = digits_word_bytes 16 ds (omega arith) i.1
front_word_bytes (binary ds i) = digits_word_bytes 2 ds (omega arith) i.1

letter_byte : (b : ℕ) → no_letter (to_ascii_lowercase b) ≡ false → is_word_byte b ≡ true
letter_byte b e = grind (arith, nat_tests)

-- each byte of a suffix is one of its letters
letters_at : {ts : List Elem} {s : List ℕ} {us : List Elem} → Types ts s us → all (λ b. not (no_letter b)) s ≡ true
letters_at (without ts) = refl
letters_at (with_u ts) = refl
letters_at (with_l ts) = refl
letters_at (with_ll ts) = refl
letters_at (with_ul ts) = refl
letters_at (with_lu ts) = refl
letters_at (with_ull ts) = refl
letters_at (with_llu ts) = refl

not_true : (t : Bool) → not t ≡ true → t ≡ false
not_true true e = absurd (false≢true e)
not_true false e = refl

suffix_word_bytes : (s : List ℕ) → all (λ b. not (no_letter b)) (lower s) ≡ true → all is_word_byte s ≡ true
suffix_word_bytes [] h = refl
suffix_word_bytes (b ∷ bs) h =
    let q = and_both (not (no_letter (to_ascii_lowercase b))) (all (λ b. not (no_letter b)) (lower bs)) h in
    rw (letter_byte b (not_true (no_letter (to_ascii_lowercase b)) q.0), suffix_word_bytes bs q.1) refl

pub number_word_bytes : (text : List ℕ) (v : Value) → IsNumber v text → all is_word_byte text ≡ true
number_word_bytes text v h =
    ap (all is_word_byte) h.split ∙ all_both is_word_byte h.digits h.suffix (front_word_bytes h.value) (suffix_word_bytes h.suffix (letters_at h.allowed))
