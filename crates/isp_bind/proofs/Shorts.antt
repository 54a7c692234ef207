-- The arrays that a text binds have at most as many elements as an array may have.
use Rattle.std.proofs.Common.{◌≡◌, ℕ, suc, ◌≤◌, List, [], ◌∷◌, length, Bool, true, false, Option, Some, None, Result, Ok, Err, refl, sym, ap, ◌∙◌, subst, if◌then◌else◌, arith}
use Rattle.std.specs.Prelude.{nat_lt}
use Rattle.std.proofs.lemmas.Bool.{ltb-false}
use Rattle.std.specs.List.{AllByRecursion}
use Rattle.serde_json.specs.Data.{Data, Items, no_items, item, Members}
use Rattle.serde_json.specs.Read.{read}
use Rattle.serde_json.specs.Find.{get, as_array, as_object}
use Rattle.isp_base.specs.declared.types.Elem.{Elem}
use Rattle.isp_base.specs.declared.signature.Parameter.{Parameter}
use Rattle.isp_base.specs.declared.signature.Argument.{Argument}
use Rattle.isp_base.specs.declared.signature.Argument.TheVariants.{Value as AValue, Array as AnArray}
use Rattle.isp_bind.specs.declared.fault.BindFault.TheVariants.{TooLong, Extra}
use Rattle.isp_bind.specs.Binding.{then_of, element_bits, elements_bits, items_count, longest, array_argument, value_argument, found_argument, argument_of, arguments_of, has_extra, members_arguments, read_arguments, bound_of}
use Rattle.isp_bind.proofs.Binds.{then_ok, unless_ok, ok_same, not_ok}

abbrev pub IsShort : Argument → Type 0
IsShort (AValue v) = Unit {0}
IsShort (AnArray a) = length a.bits ≤ longest

counted : (t : Elem) (ds : Items) (xs : List ℕ) → elements_bits t ds ≡ Ok xs → length xs ≡ items_count ds
counted t no_items xs e = sym (ap length (ok_same [] xs e))
counted t (item d ds) xs e =
    let h = then_ok (λ b. then_of (λ bs. Ok (b ∷ bs)) (elements_bits t ds)) (element_bits t d) xs e in
    let k = then_ok (λ bs. Ok (h.0 ∷ bs)) (elements_bits t ds) xs h.2 in
    sym (ap length (ok_same (h.0 ∷ k.0) xs k.2)) ∙ ap suc (counted t ds k.0 k.1)

-- what is taken where a test would refuse it fails the test
if_taken : {A B : Type 0} (b : Bool) (z : B) (r : Result A B) (y : A) → (if b then Err z else r) ≡ Ok y → b ≡ false
if_taken true z r y e = absurd (let x : ⊥ = cc in x)
if_taken false z r y e = refl

array_short : (t : Elem) (o : Option Items) (x : Argument) → array_argument t o ≡ Ok x → IsShort x
array_short t None x e = absurd (not_ok _ x e)
array_short t (Some ds) x e =
    let made : List ℕ → Argument = λ bs. AnArray (record { elem = t; bits = bs }) in
    let rest = then_of (λ bs. Ok (made bs)) (elements_bits t ds) in
    let h = then_ok (λ bs. Ok (made bs)) (elements_bits t ds) x (unless_ok (nat_lt longest (items_count ds)) TooLong rest x e) in
    let few = ltb-false longest (items_count ds) (if_taken (nat_lt longest (items_count ds)) TooLong rest x e) in
    subst IsShort (ok_same (made h.0) x h.2) (subst (λ n. n ≤ longest) (sym (counted t ds h.0 h.1)) (omega (arith, few)))

value_short : (t : Elem) (d : Data) (x : Argument) → value_argument t d ≡ Ok x → IsShort x
value_short t d x e =
    let made : ℕ → Argument = λ b. AValue (record { elem = t; bits = b }) in
    let h = then_ok (λ b. Ok (made b)) (element_bits t d) x e in
    subst IsShort (ok_same (made h.0) x h.2) tt

found_short : (p : Parameter) (o : Option Data) (x : Argument) → found_argument p o ≡ Ok x → IsShort x
found_short p None x e = absurd (not_ok _ x e)
found_short p (Some d) x e = at p.is_array e
  where
    at : (b : Bool) → (if b then array_argument p.elem (as_array d) else value_argument p.elem d) ≡ Ok x → IsShort x
    at true e = array_short p.elem (as_array d) x e
    at false e = value_short p.elem d x e

arguments_short : (ps : List Parameter) (d : Data) (xs : List Argument) → arguments_of ps d ≡ Ok xs → AllByRecursion IsShort xs
arguments_short [] d xs e = subst (AllByRecursion IsShort) (ok_same [] xs e) tt
arguments_short (p ∷ ps) d xs e =
    let h = then_ok (λ a. then_of (λ found. Ok (a ∷ found)) (arguments_of ps d)) (argument_of p d) xs e in
    let k = then_ok (λ found. Ok (h.0 ∷ found)) (arguments_of ps d) xs h.2 in
    subst (AllByRecursion IsShort) (ok_same (h.0 ∷ k.0) xs k.2) (found_short p (get p.name d) h.0 h.1, arguments_short ps d k.0 k.1)

members_short : (ps : List Parameter) (d : Data) (o : Option Members) (xs : List Argument) → members_arguments ps d o ≡ Ok xs → AllByRecursion IsShort xs
members_short ps d None xs e = absurd (not_ok _ xs e)
members_short ps d (Some ms) xs e =
    let h = then_ok (λ found. if has_extra ps ms then Err Extra else Ok found) (arguments_of ps d) xs e in
    subst (AllByRecursion IsShort) (ok_same h.0 xs (unless_ok (has_extra ps ms) Extra (Ok h.0) xs h.2)) (arguments_short ps d h.0 h.1)

read_short : (ps : List Parameter) (o : Option Data) (xs : List Argument) → read_arguments ps o ≡ Ok xs → AllByRecursion IsShort xs
read_short ps None xs e = absurd (not_ok _ xs e)
read_short ps (Some d) xs e = members_short ps d (as_object d) xs e

pub text_short : (ps : List Parameter) (text : List ℕ) (xs : List Argument) → bound_of ps text ≡ Ok xs → AllByRecursion IsShort xs
text_short ps text xs e = read_short ps (read text) xs e
