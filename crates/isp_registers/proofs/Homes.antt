-- The rows of variables, one after the other.
use Rattle.std.proofs.Common.{◌≡◌, ℕ, ◌+◌, ◌<◌, List, [], ◌++◌, length, drop, get_or, drop-cons, add-one, true, false, Bool, refl, sym, ap, ◌∙◌, append_assoc}
use Rattle.isp_base.specs.declared.types.Rate.{Rate}
use Rattle.isp_typed.specs.declared.variable.Holds.{Holds}
use Rattle.isp_typed.specs.declared.variable.Holds.TheVariants as holds
use Rattle.isp_typed.specs.declared.variable.Variable as declared
use Rattle.isp_meaning.specs.Calls.{same_rate}
use Rattle.isp_lower_code.specs.Rows.{Row}
use Rattle.isp_lower_code.specs.FirstRows.{array_row, array_rows, row_at, row_where, value_row, value_rows}

where_apart : (b : Bool) (x : Row) (rows : List Row) → row_where b x rows ≡ row_where b x [] ++ rows
where_apart true x rows = refl
where_apart false x rows = refl

value_apart : (r : Rate) (h : Holds) (n : ℕ) (rows : List Row) → value_row r h n rows ≡ value_row r h n [] ++ rows
value_apart r (holds.Value t) n rows = where_apart (same_rate r t.rate) (row_at n t.elem) rows
value_apart r (holds.Given t) n rows = refl
value_apart r (holds.Local t m) n rows = refl

array_apart : (h : Holds) (n : ℕ) (rows : List Row) → array_row h n rows ≡ array_row h n [] ++ rows
array_apart (holds.Value t) n rows = refl
array_apart (holds.Given t) n rows = refl
array_apart (holds.Local t m) n rows = refl

-- the row of one more variable, if it has one, is after those so far
pub one_value : (r : Rate) (vs : List declared.Variable) (n : ℕ) (d : declared.Variable) (new old all : List Row) → n < length vs → new ≡ old ++ value_row r (get_or vs n d).holds n []
    → old ++ value_rows r n (drop n vs) ≡ all → new ++ value_rows r (n + 1) (drop (n + 1) vs) ≡ all
one_value r vs n d new old all low e i =
    let h = (get_or vs n d).holds in
    ap (λ z. z ++ value_rows r (n + 1) (drop (n + 1) vs)) e
    ∙ append_assoc old (value_row r h n []) (value_rows r (n + 1) (drop (n + 1) vs))
    ∙ ap (λ z. old ++ z) (sym (value_apart r h n (value_rows r (n + 1) (drop (n + 1) vs))))
    ∙ ap (λ m. old ++ value_row r h n (value_rows r m (drop m vs))) (add-one n)
    ∙ ap (λ xs. old ++ value_rows r n xs) (sym (drop-cons vs n d low))
    ∙ i

pub one_array : (vs : List declared.Variable) (n : ℕ) (d : declared.Variable) (new old all : List Row) → n < length vs → new ≡ old ++ array_row (get_or vs n d).holds n []
    → old ++ array_rows n (drop n vs) ≡ all → new ++ array_rows (n + 1) (drop (n + 1) vs) ≡ all
one_array vs n d new old all low e i =
    let h = (get_or vs n d).holds in
    ap (λ z. z ++ array_rows (n + 1) (drop (n + 1) vs)) e
    ∙ append_assoc old (array_row h n []) (array_rows (n + 1) (drop (n + 1) vs))
    ∙ ap (λ z. old ++ z) (sym (array_apart h n (array_rows (n + 1) (drop (n + 1) vs))))
    ∙ ap (λ m. old ++ array_row h n (array_rows m (drop m vs))) (add-one n)
    ∙ ap (λ xs. old ++ array_rows n xs) (sym (drop-cons vs n d low))
    ∙ i
