-- How many bytes elements, values and arrays take.
use Rattle.std.proofs.Common.{◌≡◌, ℕ, ◌+◌, ◌*◌, ◌%◌, ◌^◌, ◌<◌, ◌≤◌, List, [], ◌∷◌, length, Option, Some, None, SomeIff, refl, ap, subst, ◌∙◌, inl, inr, arith, lit≤, length-append}
use Rattle.std.specs.Prelude.{MatchOption}
use Rattle.std.proofs.lemmas.Bool.{cases_lt}
use Rattle.std.specs.List.{flat_map}
use Rattle.byteorder.specs.Endian.{little_bytes}
use Rattle.byteorder.specs.Numbers.{length-bytes_low_first}
use Rattle.isp_base.specs.Rows.{Row}
use Rattle.isp_base.specs.Values.{width}
use Rattle.isp_base.specs.declared.types.Elem.{Elem}
use Rattle.isp_base.specs.declared.types.Elem.TheVariants.{Bool as Truth, I8, U8, I16, U16, I32, U32, I64, U64}
use Rattle.isp_base.specs.declared.types.Value.{Value}
use Rattle.isp_packed.specs.Packing.{size, word, packed_array, packed_value}

pub size_some : (t : Elem) → 0 < size t
size_some Truth = lit≤ tt
size_some I8 = lit≤ tt
size_some U8 = lit≤ tt
size_some I16 = lit≤ tt
size_some U16 = lit≤ tt
size_some I32 = lit≤ tt
size_some U32 = lit≤ tt
size_some I64 = lit≤ tt
size_some U64 = lit≤ tt

pub size_few : (t : Elem) → size t ≤ 8
size_few Truth = lit≤ tt
size_few I8 = lit≤ tt
size_few U8 = lit≤ tt
size_few I16 = lit≤ tt
size_few U16 = lit≤ tt
size_few I32 = lit≤ tt
size_few U32 = lit≤ tt
size_few I64 = lit≤ tt
size_few U64 = lit≤ tt

-- the bytes of an element have room for its bits
pub width_fits : (t : Elem) → 2 ^ width t ≤ 256 ^ size t
width_fits Truth = lit≤ tt
width_fits I8 = lit≤ tt
width_fits U8 = lit≤ tt
width_fits I16 = lit≤ tt
width_fits U16 = lit≤ tt
width_fits I32 = lit≤ tt
width_fits U32 = lit≤ tt
width_fits I64 = lit≤ tt
width_fits U64 = lit≤ tt

pub length_little : (n x : ℕ) → length (little_bytes n x) ≡ n
length_little n x = length-bytes_low_first 0 n x

pub length_word : (x : ℕ) → length (word x) ≡ 8
length_word x = length_little 8 x

pub length_elements : (n : ℕ) (xs : List ℕ) → length (flat_map (little_bytes n) xs) ≡ n * length xs
length_elements n [] = omega arith
length_elements n (x ∷ xs) =
    let one = length_little n x in
    let rest = length_elements n xs in
    length-append (little_bytes n x) (flat_map (little_bytes n) xs) ∙ omega (arith, one, rest)

pub length_array : (a : Row) → length (packed_array a) ≡ 8 + size a.elem * length a.bits
length_array a =
    let count = length_word (length a.bits) in
    let elements = length_elements (size a.elem) a.bits in
    length-append (word (length a.bits)) (flat_map (little_bytes (size a.elem)) a.bits) ∙ omega (arith, count, elements)

pub length_value : (v : Value) → length (packed_value v) ≡ 8
length_value v = length_word (v.bits % 2 ^ width v.elem)

-- in each other type all numbers of its bytes are values
pub width_whole : (t : Elem) → (t ≡ Truth → ⊥) → 2 ^ width t ≡ 256 ^ size t
width_whole Truth other = absurd (other refl)
width_whole I8 other = refl
width_whole U8 other = refl
width_whole I16 other = refl
width_whole U16 other = refl
width_whole I32 other = refl
width_whole U32 other = refl
width_whole I64 other = refl
width_whole U64 other = refl

-- after its first word
pub array_within : (a : Row) (t : Elem) (m n : ℕ) → a.elem ≡ t → size t * length a.bits ≤ m → m + 8 ≡ n → length (packed_array a) ≤ n
array_within a t m n type room all =
    let whole = length_array a in
    let same : size a.elem * length a.bits ≡ size t * length a.bits = ap (λ (u : Elem). size u * length a.bits) type in
    omega (arith, whole, same)

-- what is counted where the count fits, and at least as much where it does not
pub counted : (o : Option ℕ) (v n : ℕ) → SomeIff o (v < 2 ^ 64) v → v ≡ n → MatchOption o (2 ^ 64 ≤ n) (λ x. x ≡ n)
counted None v n over same =
    elim (cases_lt v (2 ^ 64)) [ inl few ↦ absurd (over few) | inr many ↦ subst (λ (x : ℕ). 2 ^ 64 ≤ x) same many ]
counted (Some x) v n is same = is.1 ∙ same

-- an array whose elements alone take that much
pub array_over : (a : Row) (n : ℕ) → n ≡ size a.elem * length a.bits → (n < 2 ^ 64 → ⊥) → 2 ^ 64 ≤ length (packed_array a)
array_over a n same over =
    elim (cases_lt n (2 ^ 64)) [ inl few ↦ absurd (over few) | inr many ↦ (let whole = length_array a in omega (arith, whole, same, many)) ]

-- what can be counted is less than what cannot
pub fewer : (m n : ℕ) → m < 2 ^ 64 → (n < 2 ^ 64 → ⊥) → m < n
fewer m n few over =
    elim (cases_lt n (2 ^ 64)) [ inl less ↦ absurd (over less) | inr many ↦ omega (arith, few, many) ]
