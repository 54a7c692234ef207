-- An answer takes no more bytes than the arguments whose arrays it has, and 8 for a result.
use Rattle.std.proofs.Common.{◌≡◌, ℕ, zero, suc, ◌+◌, ◌*◌, ◌≤◌, List, [], ◌∷◌, length, Option, Some, None, refl, sym, ap, ◌∙◌, arith, length-append}
use Rattle.std.specs.List.{flat_map}
use Rattle.isp_base.specs.Arguments.{rows, rows_now, tabulate}
use Rattle.isp_base.specs.Maps.{Lanes}
use Rattle.isp_base.specs.Rows.{Row}
use Rattle.isp_base.specs.declared.types.Elem.{Elem}
use Rattle.isp_base.specs.declared.types.Value.{Value}
use Rattle.isp_base.specs.declared.signature.Argument.{Argument}
use Rattle.isp_base.specs.declared.signature.Argument.TheVariants.{Value as AValue, Array as AnArray}
use Rattle.isp_packed.specs.Packing.{packed_answer, packed_array, packed_of, packed_result, packed_value, size}
use Rattle.isp_packed.proofs.Sizes.{length_array, length_value}

length_tabulate : (n : ℕ) (f : Lanes) → length (tabulate n f) ≡ n
length_tabulate zero f = refl
length_tabulate (suc n) f = ap (λ (i : ℕ). suc i) (length_tabulate n (λ i. f (suc i)))

-- arrays of one type and length take as many bytes
same_bytes : (a b : Row) → b.elem ≡ a.elem → length b.bits ≡ length a.bits → length (packed_array b) ≡ length (packed_array a)
same_bytes a b type long =
    length_array b ∙ ap (λ (u : Elem). 8 + size u * length b.bits) type ∙ ap (λ (n : ℕ). 8 + size a.elem * n) long ∙ sym (length_array a)

arrays_bytes : (xs : List Argument) (f : ℕ → Lanes) → length (flat_map packed_array (rows_now (rows xs) f)) ≤ length (packed_of xs)
arrays_bytes [] f = omega arith
arrays_bytes (AValue v ∷ xs) f =
    let rest = arrays_bytes xs f in
    let whole = length-append (packed_value v) (packed_of xs) in
    omega (arith, rest, whole)
arrays_bytes (AnArray a ∷ xs) f =
    let b : Row = record { elem = a.elem; bits = tabulate (length a.bits) (f 0) } in
    let others = rows_now (rows xs) (λ k. f (suc k)) in
    let rest = arrays_bytes xs (λ k. f (suc k)) in
    let same : length (packed_array b) ≡ length (packed_array a) = same_bytes a b refl (length_tabulate (length a.bits) (f 0)) in
    let whole = length-append (packed_array a) (packed_of xs) in
    let now = length-append (packed_array b) (flat_map packed_array others) in
    omega (arith, rest, same, whole, now)

result_bytes : (r : Option Value) → length (packed_result r) ≤ 8
result_bytes None = omega arith
result_bytes (Some v) = omega (arith, length_value v)

pub answer_in_place : (xs : List Argument) (f : ℕ → Lanes) (r : Option Value) → length (packed_answer (rows_now (rows xs) f) r) ≤ length (packed_of xs) + 8
answer_in_place xs f r =
    let arrays = arrays_bytes xs f in
    let last = result_bytes r in
    let whole = length-append (flat_map packed_array (rows_now (rows xs) f)) (packed_result r) in
    omega (arith, arrays, last, whole)
