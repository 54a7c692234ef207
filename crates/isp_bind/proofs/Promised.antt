-- What the definitions come to.
use Rattle.std.proofs.Common.{◌≡◌, ℕ, zero, suc, ◌^◌, ◌<◌, ℤ, pos, negsuc, List, [], ◌∷◌, Bool, true, false, true≢false, arith, cond, map, Option, Some, None, Result, Ok, Err, refl, sym, ap, ◌∙◌, subst, if◌then◌else◌}
use Rattle.std.specs.Prelude.{nat_lt}
use Rattle.std.specs.Ordering.{int_eq}
use Rattle.serde_json.specs.Data.{Data, null, boolean, number as numeral, string, array, object, Items, no_items, item, Members}
use Rattle.serde_json.specs.Read.{read}
use Rattle.serde_json.specs.Find.{get, as_array, as_object, as_integer, of_integer}
use Rattle.serde_json.specs.View.{items_of}
use Rattle.isp_base.specs.Ranges.{IsValue}
use Rattle.isp_base.specs.Rows.{Fit}
use Rattle.isp_base.specs.Values.{width, wrap, number}
use Rattle.isp_base.specs.declared.types.Elem.{Elem}
use Rattle.isp_base.specs.declared.types.Elem.TheVariants.{Bool as Truth, I8, U8, I16, U16, I32, U32, I64, U64}
use Rattle.isp_base.specs.declared.signature.Parameter.{Parameter}
use Rattle.isp_base.proofs.Laws.{value_is, back_is, bits_are}
use Rattle.std.specs.Cmp.{signed_Decides}
use Rattle.isp_bind.specs.declared.fault.BindFault.{BindFault}
use Rattle.isp_bind.specs.declared.fault.BindFault.TheVariants.{NotJson, Extra, OutOfRange, TooLong, WrongKind}
use Rattle.isp_bind.specs.Answering.{shown_bits}
use Rattle.isp_bind.specs.Binding.{then_of, is_bool, whole_bits, numeral_bits, element_bits, elements_bits, items_count, longest, array_argument, found_argument, arguments_of, has_extra, members_arguments, read_arguments, bound_of}

-- ---- 70 comes from the reader alone

abbrev IsOther : {A : Type 0} → Result A BindFault → Type 0
IsOther r = r ≡ Err NotJson → ⊥

ok_other : {A : Type 0} (x : A) → IsOther (Ok x)
ok_other x e = let none : ⊥ = cc in none

then_other : {A B : Type 0} (f : A → Result B BindFault) (r : Result A BindFault) → IsOther r → ((x : A) → IsOther (f x)) → IsOther (then_of f r)
then_other f (Ok x) h k = k x
then_other f (Err z) h k = λ e. h (let same : z ≡ NotJson = cc in ap Err same)

choice_other : {A : Type 0} (b : Bool) (x y : Result A BindFault) → IsOther x → IsOther y → IsOther (if b then x else y)
choice_other true x y h k = h
choice_other false x y h k = k

wrong_kind : {A : Type 0} → IsOther {A = A} (Err WrongKind)
wrong_kind e = let none : ⊥ = cc in none

whole_other : (t : Elem) (z : ℤ) → IsOther (whole_bits t z)
whole_other t z = choice_other (int_eq (number t (wrap t z)) z) (Ok (wrap t z)) (Err OutOfRange) (ok_other _) (λ e. let none : ⊥ = cc in none)

numeral_other : (t : Elem) (o : Option ℤ) → IsOther (numeral_bits t o)
numeral_other t None = wrong_kind
numeral_other t (Some z) = choice_other (is_bool t) (Err WrongKind) (whole_bits t z) wrong_kind (whole_other t z)

element_other : (t : Elem) (d : Data) → IsOther (element_bits t d)
element_other t null = wrong_kind
element_other t (boolean b) = choice_other (is_bool t) (Ok (cond b 1 0)) (Err WrongKind) (ok_other _) wrong_kind
element_other t (numeral n) = numeral_other t (as_integer n)
element_other t (string s) = wrong_kind
element_other t (array ds) = wrong_kind
element_other t (object ms) = wrong_kind

elements_other : (t : Elem) (ds : Items) → IsOther (elements_bits t ds)
elements_other t no_items = ok_other []
elements_other t (item d ds) = then_other _ _ (element_other t d) (λ b. then_other (λ bs. Ok (b ∷ bs)) _ (elements_other t ds) (λ bs. ok_other _))

array_other : (t : Elem) (o : Option Items) → IsOther (array_argument t o)
array_other t None = wrong_kind
array_other t (Some ds) =
    choice_other (nat_lt longest (items_count ds)) (Err TooLong) _ (λ e. let none : ⊥ = cc in none) (then_other _ _ (elements_other t ds) (λ bs. ok_other _))

found_other : (p : Parameter) (o : Option Data) → IsOther (found_argument p o)
found_other p None = λ e. let none : ⊥ = cc in none
found_other p (Some d) = choice_other p.is_array _ _ (array_other p.elem (as_array d)) (then_other _ _ (element_other p.elem d) (λ b. ok_other _))

arguments_other : (ps : List Parameter) (d : Data) → IsOther (arguments_of ps d)
arguments_other [] d = ok_other []
arguments_other (p ∷ ps) d = then_other _ _ (found_other p (get p.name d)) (λ a. then_other (λ found. Ok (a ∷ found)) _ (arguments_other ps d) (λ found. ok_other _))

members_other : (ps : List Parameter) (d : Data) (o : Option Members) → IsOther (members_arguments ps d o)
members_other ps d None = λ e. let none : ⊥ = cc in none
members_other ps d (Some ms) =
    then_other _ _ (arguments_other ps d) (λ found. choice_other (has_extra ps ms) (Err Extra) (Ok found) (λ e. let none : ⊥ = cc in none) (ok_other _))

unread : (ps : List Parameter) (o : Option Data) → read_arguments ps o ≡ Err NotJson → o ≡ None
unread ps None e = refl
unread ps (Some d) e = absurd (members_other ps d (as_object d) e)

pub no_json : (ps : List Parameter) (text : List ℕ) → read text ≡ None → bound_of ps text ≡ Err NotJson
no_json ps text e = ap (read_arguments ps) e

pub only_no_json : (ps : List Parameter) (text : List ℕ) → bound_of ps text ≡ Err NotJson → read text ≡ None
only_no_json ps text e = unread ps (read text) e

-- ---- ranges

when_true : {A : Type 0} (b : Bool) (x y : A) → b ≡ true → (if b then x else y) ≡ x
when_true true x y e = refl
when_true false x y e = absurd (true≢false (sym e))

when_not : {A : Type 0} (b : Bool) (x y : A) → (b ≡ true → ⊥) → (if b then x else y) ≡ y
when_not true x y n = absurd (n refl)
when_not false x y n = refl

pub in_range : (t : Elem) (z : ℤ) → IsValue t z → whole_bits t z ≡ Ok (wrap t z)
in_range t z v = when_true (int_eq (number t (wrap t z)) z) _ _ ((signed_Decides (number t (wrap t z)) z).1 (back_is t z v))

pub out_of_range : (t : Elem) (z : ℤ) → (IsValue t z → ⊥) → whole_bits t z ≡ Err OutOfRange
out_of_range t z never =
    when_not (int_eq (number t (wrap t z)) z) _ _ (λ e. never (subst (IsValue t) ((signed_Decides (number t (wrap t z)) z).0 e) (value_is t z)))

-- ---- what was shown

read_back : (z : ℤ) → as_integer (of_integer z) ≡ Some z
read_back (pos n) = refl
read_back (negsuc n) = refl

whole_again : (t : Elem) (b : ℕ) → is_bool t ≡ false → b < 2 ^ width t → element_bits t (shown_bits t b) ≡ Ok b
whole_again t b e fits =
    rw e (ap (numeral_bits t) (read_back (number t b)) ∙ when_not (is_bool t) _ _ (λ h. true≢false (sym h ∙ e)) ∙ in_range t (number t b) (subst (λ x. IsValue t (number t x)) (bits_are t b fits) (value_is t (number t b))) ∙ ap Ok (bits_are t b fits))

truth_again : (b : ℕ) → b < 2 → element_bits Truth (shown_bits Truth b) ≡ Ok b
truth_again zero fits = refl
truth_again (suc zero) fits = refl
truth_again (suc (suc b)) fits = absurd (omega arith)

element_again : (t : Elem) (b : ℕ) → b < 2 ^ width t → element_bits t (shown_bits t b) ≡ Ok b
element_again Truth b fits = truth_again b fits
element_again I8 b fits = whole_again I8 b refl fits
element_again U8 b fits = whole_again U8 b refl fits
element_again I16 b fits = whole_again I16 b refl fits
element_again U16 b fits = whole_again U16 b refl fits
element_again I32 b fits = whole_again I32 b refl fits
element_again U32 b fits = whole_again U32 b refl fits
element_again I64 b fits = whole_again I64 b refl fits
element_again U64 b fits = whole_again U64 b refl fits

pub shown_again : (t : Elem) (bits : List ℕ) → Fit t bits → elements_bits t (items_of (map (shown_bits t) bits)) ≡ Ok bits
shown_again t [] fits = refl
shown_again t (b ∷ bits) fits = rw (element_again t b (fits 0), shown_again t bits (λ k. fits (suc k))) refl
