-- Rows that are added change no register that is there; and what code asks for is there of who has all that another one has.
use Rattle.std.proofs.Common.{◌≡◌, ℕ, List, [], ◌++◌, Some, sym, ap, subst, ◌∙◌, append_assoc, append-nil}
use Rattle.isp_base.specs.declared.types.Elem.{Elem}
use Rattle.isp_base.specs.declared.types.Rate.{Rate}
use Rattle.isp_typed.specs.declared.variable.ArrayVariable.{ArrayVariable}
use Rattle.isp_lower_code.specs.Asks.{Ask, Nothing, Both, Register, ArrayOf, LocalOf, MaskOf, Number, Loads, All}
use Rattle.isp_lower_code.specs.FirstRows.{Begins}
use Rattle.isp_lower_code.specs.Rows.{Name, Row, number_in, elem_in}
use Rattle.isp_lower_code.proofs.Rows.{rows_stay}

pub begins_self : (xs : List Row) → Begins xs xs
begins_self xs = record { more = []; is = sym (append-nil xs) }

pub begins_then : (xs ys zs : List Row) → Begins xs ys → Begins ys zs → Begins xs zs
begins_then xs ys zs a b =
    record { more = a.more ++ b.more; is = b.is ∙ ap (λ w. w ++ b.more) a.is ∙ append_assoc xs a.more b.more }

pub stays_in : (xs ys : List Row) (x : Name) (t : Elem) → Begins xs ys → elem_in xs x ≡ Some t → (number_in ys x ≡ number_in xs x) × (elem_in ys x ≡ Some t)
stays_in xs ys x t b e =
    subst (λ zs. (number_in zs x ≡ number_in xs x) × (elem_in zs x ≡ Some t)) (sym b.is) (rows_stay xs b.more x t e)

-- what is asked of one thing is there of another one that has all that the first has
module _ (H H1 : Rate → Name → Elem → Type 0) (A A1 L L1 : ArrayVariable → Type 0) (M M1 : ℕ → Type 0) (W W' : ℕ → Type 0)
    (names : (r : Rate) (x : Name) (t : Elem) → H r x t → H1 r x t) (arrays : (b : ArrayVariable) → A b → A1 b)
    (locals : (b : ArrayVariable) → L b → L1 b) (masks : (k : ℕ) → M k → M1 k) (loaded : (v : ℕ) → W v → W' v) where
  pub all_grow : (a : Ask) → All H A L M W a → All H1 A1 L1 M1 W' a
  all_grow Nothing f = tt
  all_grow (Both x y) f = (all_grow x f.0, all_grow y f.1)
  all_grow (Register r x t) f = names r x t f
  all_grow (ArrayOf b) f = arrays b f
  all_grow (LocalOf b) f = locals b f
  all_grow (MaskOf k) f = masks k f
  all_grow (Number k) f = f
  all_grow (Loads v) f = loaded v f
