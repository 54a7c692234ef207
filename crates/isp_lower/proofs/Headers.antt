-- The lists of a header.
use Rattle.std.proofs.Common.{◌≡◌, ℕ, zero, suc, ◌+◌, ◌<◌, ◌≤◌, List, [], ◌∷◌, ◌++◌, length, map, refl, sym, ap, ◌∙◌, arith, take, drop, get_or, add-one}
use Rattle.std.proofs.Math.Seq.{take-suc}
use Rattle.std.proofs.lemmas.List.{drop-append-le, drop_all, length-take-le, length-append}
use Rattle.isp_base.specs.declared.types.Elem.{Elem}
use Rattle.isp_registers.specs.Growth.{row_of}
use Rattle.isp_registers.specs.declared.registers.RegisterRow.{RegisterRow}
use Rattle.isp_typed.specs.declared.variable.Variable.{Variable}
use Rattle.isp_lower_code.specs.Header.{AreSmall, IsSmall, types_of}

types_last : (xs : List RegisterRow) (x : RegisterRow) → types_of (map row_of (xs ++ x ∷ [])) ≡ types_of (map row_of xs) ++ x.elem ∷ []
types_last [] x = refl
types_last (y ∷ ys) x = ap (λ z. y.elem ∷ z) (types_last ys x)

length_types : (xs : List RegisterRow) → length (types_of (map row_of xs)) ≡ length xs
length_types [] = refl
length_types (x ∷ xs) = ap suc (length_types xs)

types_more : (rows : List RegisterRow) (at : ℕ) (r : RegisterRow) → at < length rows
    → types_of (map row_of (take (at + 1) rows)) ≡ types_of (map row_of (take at rows)) ++ (get_or rows at r).elem ∷ []
types_more rows at r low =
    ap (λ zs. types_of (map row_of zs)) (ap (λ m. take m rows) (add-one at) ∙ take-suc rows at r low)
    ∙ types_last (take at rows) (get_or rows at r)

long : (rows : List RegisterRow) (at : ℕ) → at < length rows → length (types_of (map row_of (take at rows))) ≡ at
long rows at low = length_types (take at rows) ∙ length-take-le at rows (omega (arith, low))

-- a row after the first ones
pub types_step : (rows : List RegisterRow) (at count : ℕ) (r : RegisterRow) (ts : List Elem) → at < length rows → count ≤ at → ts ≡ drop count (types_of (map row_of (take at rows)))
    → ts ++ (get_or rows at r).elem ∷ [] ≡ drop count (types_of (map row_of (take (at + 1) rows)))
types_step rows at count r ts low le e =
    ap (λ z. z ++ (get_or rows at r).elem ∷ []) e
    ∙ sym (ap (drop count) (types_more rows at r low) ∙ drop-append-le count (types_of (map row_of (take at rows))) ((get_or rows at r).elem ∷ []) (omega (arith, le, long rows at low)))

-- one of the first
pub types_skip : (rows : List RegisterRow) (at count : ℕ) (r : RegisterRow) (ts : List Elem) → at < length rows → at < count → ts ≡ drop count (types_of (map row_of (take at rows)))
    → ts ≡ drop count (types_of (map row_of (take (at + 1) rows)))
types_skip rows at count r ts low lt e =
    let n = long rows at low in
    let more = types_more rows at r low in
    e
    ∙ drop_all count (types_of (map row_of (take at rows))) (omega (arith, lt, n))
    ∙ sym (drop_all count (types_of (map row_of (take (at + 1) rows))) (omega (arith, lt, n, ap length more, length-append (types_of (map row_of (take at rows))) ((get_or rows at r).elem ∷ []))))

-- some row, where there is one
pub get_or_row : (rows : List RegisterRow) (at : ℕ) → at < length rows → RegisterRow
get_or_row [] at low = absurd (omega (arith, low))
get_or_row (r ∷ rows) at low = r

-- each local array is small
pub small_at : (vs : List Variable) (i : ℕ) (d : Variable) → AreSmall vs → i < length vs → IsSmall (get_or vs i d).holds
small_at [] i d all lt = absurd (omega (arith, lt))
small_at (v ∷ vs) zero d all lt = all.0
small_at (v ∷ vs) (suc i) d all lt = small_at vs i d all.1 (omega (arith, lt))
