-- What a text binds are arguments of the signature.
use Rattle.std.proofs.Common.{◌≡◌, ℕ, zero, suc, ◌<◌, ◌^◌, List, [], ◌∷◌, Bool, true, false, ◌&&◌, not, cond, Option, Some, None, Result, Ok, Err, ℤ, refl, ap₂, subst, if◌then◌else◌, lit≤}
use Rattle.std.specs.Prelude.{nat_lt}
use Rattle.std.specs.Ordering.{int_eq}
use Rattle.std.proofs.lemmas.Bool.{eq-eqb}
use Rattle.std.proofs.lemmas.Nat.{pow_pos}
use Rattle.serde_json.specs.Data.{Data, null, boolean, number as numeral, string, array, object, Items, no_items, item, Members}
use Rattle.serde_json.specs.Read.{read}
use Rattle.serde_json.specs.Find.{get, as_array, as_object, as_integer}
use Rattle.isp_base.specs.Binding.{is_for}
use Rattle.isp_base.specs.Ranks.{rank, same_elem}
use Rattle.isp_base.specs.Rows.{Fit}
use Rattle.isp_base.specs.Values.{width, wrap, number}
use Rattle.isp_base.specs.declared.types.Elem.{Elem}
use Rattle.isp_base.specs.declared.types.Elem.TheVariants.{Bool as Truth, I8, U8, I16, U16, I32, U32, I64, U64}
use Rattle.isp_base.specs.declared.signature.Parameter.{Parameter}
use Rattle.isp_base.specs.declared.signature.Argument.{Argument}
use Rattle.isp_base.specs.declared.signature.Argument.TheVariants.{Value as AValue, Array as AnArray}
use Rattle.isp_bind.specs.declared.fault.BindFault.{BindFault}
use Rattle.isp_bind.specs.declared.fault.BindFault.TheVariants.{WrongKind, OutOfRange, TooLong, Extra}
use Rattle.isp_bind.specs.Bounds.{HasValues, AreBound}
use Rattle.isp_bind.specs.Binding.{then_of, is_bool, whole_bits, numeral_bits, element_bits, elements_bits, items_count, longest, array_argument, value_argument}
use Rattle.isp_bind.specs.Binding.{found_argument, argument_of, arguments_of, has_extra, members_arguments, read_arguments, bound_of}
use Rattle.isp_base.proofs.Wraps.{wrap_to-lt}

-- ---- what was done where the whole is Ok

pub then_ok : {A B : Type 0} (f : A → Result B BindFault) (r : Result A BindFault) (y : B) → then_of f r ≡ Ok y → (x : A) × (r ≡ Ok x) × (f x ≡ Ok y)
then_ok f (Ok a) y e = (a, refl, e)
then_ok f (Err z) y e = absurd (let x : ⊥ = cc in x)

pub unless_ok : {A : Type 0} (b : Bool) (z : BindFault) (r : Result A BindFault) (y : A) → (if b then Err z else r) ≡ Ok y → r ≡ Ok y
unless_ok true z r y e = absurd (let x : ⊥ = cc in x)
unless_ok false z r y e = e

when_ok : {A : Type 0} (b : Bool) (z : BindFault) (r : Result A BindFault) (y : A) → (if b then r else Err z) ≡ Ok y → (b ≡ true) × (r ≡ Ok y)
when_ok true z r y e = (refl, e)
when_ok false z r y e = absurd (let x : ⊥ = cc in x)

pub ok_same : {A : Type 0} (x y : A) → ◌≡◌ {A = Result A BindFault} (Ok x) (Ok y) → x ≡ y
ok_same x y e = cc

pub not_ok : {A : Type 0} (z : BindFault) (y : A) → ◌≡◌ {A = Result A BindFault} (Err z) (Ok y) → ⊥
not_ok z y e = let x : ⊥ = cc in x

-- ---- one element

truth_fits : (t : Elem) → is_bool t ≡ true → (b : Bool) → cond b 1 0 < 2 ^ width t
truth_fits Truth e true = lit≤ tt
truth_fits Truth e false = lit≤ tt
truth_fits I8 e b = absurd (let x : ⊥ = cc in x)
truth_fits U8 e b = absurd (let x : ⊥ = cc in x)
truth_fits I16 e b = absurd (let x : ⊥ = cc in x)
truth_fits U16 e b = absurd (let x : ⊥ = cc in x)
truth_fits I32 e b = absurd (let x : ⊥ = cc in x)
truth_fits U32 e b = absurd (let x : ⊥ = cc in x)
truth_fits I64 e b = absurd (let x : ⊥ = cc in x)
truth_fits U64 e b = absurd (let x : ⊥ = cc in x)

whole_fits : (t : Elem) (z : ℤ) (x : ℕ) → whole_bits t z ≡ Ok x → x < 2 ^ width t
whole_fits t z x e =
    let h = when_ok (int_eq (number t (wrap t z)) z) OutOfRange (Ok (wrap t z)) x e in
    subst (λ k. k < 2 ^ width t) (ok_same (wrap t z) x h.1) (wrap_to-lt (width t) z)

numeral_fits : (t : Elem) (o : Option ℤ) (x : ℕ) → numeral_bits t o ≡ Ok x → x < 2 ^ width t
numeral_fits t None x e = absurd (not_ok WrongKind x e)
numeral_fits t (Some z) x e = whole_fits t z x (unless_ok (is_bool t) WrongKind (whole_bits t z) x e)

element_fits : (t : Elem) (d : Data) (x : ℕ) → element_bits t d ≡ Ok x → x < 2 ^ width t
element_fits t null x e = absurd (not_ok WrongKind x e)
element_fits t (boolean b) x e =
    let h = when_ok (is_bool t) WrongKind (Ok (cond b 1 0)) x e in
    subst (λ k. k < 2 ^ width t) (ok_same (cond b 1 0) x h.1) (truth_fits t h.0 b)
element_fits t (numeral n) x e = numeral_fits t (as_integer n) x e
element_fits t (string s) x e = absurd (not_ok WrongKind x e)
element_fits t (array ds) x e = absurd (not_ok WrongKind x e)
element_fits t (object ms) x e = absurd (not_ok WrongKind x e)

-- ---- one argument

none_fits : (t : Elem) → Fit t []
none_fits t k = pow_pos (width t)

more_fits : (t : Elem) (x : ℕ) (xs : List ℕ) → x < 2 ^ width t → Fit t xs → Fit t (x ∷ xs)
more_fits t x xs h f zero = h
more_fits t x xs h f (suc k) = f k

elements_fit : (t : Elem) (ds : Items) (xs : List ℕ) → elements_bits t ds ≡ Ok xs → Fit t xs
elements_fit t no_items xs e = subst (Fit t) (ok_same [] xs e) (none_fits t)
elements_fit t (item d ds) xs e =
    let h = then_ok (λ b. then_of (λ bs. Ok (b ∷ bs)) (elements_bits t ds)) (element_bits t d) xs e in
    let k = then_ok (λ bs. Ok (h.0 ∷ bs)) (elements_bits t ds) xs h.2 in
    subst (Fit t) (ok_same (h.0 ∷ k.0) xs k.2) (more_fits t h.0 k.0 (element_fits t d h.0 h.1) (elements_fit t ds k.0 k.1))

-- an argument of a parameter: it has its kind and type, and its elements are values of the type
abbrev IsBoundFor : Parameter → Argument → Type 0
IsBoundFor p x = (is_for p x ≡ true) × HasValues x

elem_self : (t : Elem) → same_elem t t ≡ true
elem_self t = eq-eqb (rank t) (rank t) refl

array_bound : (p : Parameter) → p.is_array ≡ true → (o : Option Items) (x : Argument) → array_argument p.elem o ≡ Ok x → IsBoundFor p x
array_bound p kind None x e = absurd (not_ok WrongKind x e)
array_bound p kind (Some ds) x e =
    let t = p.elem in
    let made : List ℕ → Argument = λ bs. AnArray (record { elem = t; bits = bs }) in
    let h = then_ok (λ bs. Ok (made bs)) (elements_bits t ds) x (unless_ok (nat_lt longest (items_count ds)) TooLong (then_of (λ bs. Ok (made bs)) (elements_bits t ds)) x e) in
    subst (IsBoundFor p) (ok_same (made h.0) x h.2) (ap₂ (λ (a b : Bool). a && b) kind (elem_self t), elements_fit t ds h.0 h.1)

value_bound : (p : Parameter) → p.is_array ≡ false → (d : Data) (x : Argument) → value_argument p.elem d ≡ Ok x → IsBoundFor p x
value_bound p kind d x e =
    let t = p.elem in
    let made : ℕ → Argument = λ b. AValue (record { elem = t; bits = b }) in
    let h = then_ok (λ b. Ok (made b)) (element_bits t d) x e in
    subst (IsBoundFor p) (ok_same (made h.0) x h.2) (ap₂ (λ (a b : Bool). not a && b) kind (elem_self t), element_fits t d h.0 h.1)

found_bound : (p : Parameter) (o : Option Data) (x : Argument) → found_argument p o ≡ Ok x → IsBoundFor p x
found_bound p None x e = absurd (not_ok _ x e)
found_bound p (Some d) x e = at p.is_array refl e
  where
    at : (b : Bool) → p.is_array ≡ b → (if b then array_argument p.elem (as_array d) else value_argument p.elem d) ≡ Ok x → IsBoundFor p x
    at true kind e = array_bound p kind (as_array d) x e
    at false kind e = value_bound p kind d x e

-- ---- the whole list

bound_more : (p : Parameter) (ps : List Parameter) (x : Argument) (xs : List Argument) → IsBoundFor p x → AreBound ps xs → AreBound (p ∷ ps) (x ∷ xs)
bound_more p ps x xs h b = record { kinds = ap₂ (λ (a c : Bool). a && c) h.0 b.kinds; values = (h.1, b.values) }

arguments_bound : (ps : List Parameter) (d : Data) (xs : List Argument) → arguments_of ps d ≡ Ok xs → AreBound ps xs
arguments_bound [] d xs e = subst (AreBound []) (ok_same [] xs e) (record { kinds = refl; values = tt })
arguments_bound (p ∷ ps) d xs e =
    let h = then_ok (λ a. then_of (λ found. Ok (a ∷ found)) (arguments_of ps d)) (argument_of p d) xs e in
    let k = then_ok (λ found. Ok (h.0 ∷ found)) (arguments_of ps d) xs h.2 in
    subst (AreBound (p ∷ ps)) (ok_same (h.0 ∷ k.0) xs k.2) (bound_more p ps h.0 k.0 (found_bound p (get p.name d) h.0 h.1) (arguments_bound ps d k.0 k.1))

members_bound : (ps : List Parameter) (d : Data) (o : Option Members) (xs : List Argument) → members_arguments ps d o ≡ Ok xs → AreBound ps xs
members_bound ps d None xs e = absurd (not_ok _ xs e)
members_bound ps d (Some ms) xs e =
    let h = then_ok (λ found. if has_extra ps ms then Err Extra else Ok found) (arguments_of ps d) xs e in
    subst (AreBound ps) (ok_same h.0 xs (unless_ok (has_extra ps ms) Extra (Ok h.0) xs h.2)) (arguments_bound ps d h.0 h.1)

read_bound : (ps : List Parameter) (o : Option Data) (xs : List Argument) → read_arguments ps o ≡ Ok xs → AreBound ps xs
read_bound ps None xs e = absurd (not_ok _ xs e)
read_bound ps (Some d) xs e = members_bound ps d (as_object d) xs e

pub text_bound : (ps : List Parameter) (text : List ℕ) (xs : List Argument) → bound_of ps text ≡ Ok xs → AreBound ps xs
text_bound ps text xs e = read_bound ps (read text) xs e
