-- The order of the element types, and the type in which two operands meet.
use Rattle.std.proofs.Common.{◌≡◌, ℕ, refl, sym, ap, ◌∙◌, ◌≤◌, nat_lt, Bool, true, false, cond, arith, ltb-true, ltb-false, ◌⊎◌, inl, inr}
use Rattle.std.specs.Prelude.{◌==◌, if◌then◌else◌}
use Rattle.std.proofs.lemmas.Bool.{eqb-true}
use Rattle.isp_base.specs.declared.types.Elem.{Elem}
use Rattle.isp_base.specs.declared.types.Elem.TheVariants.{Bool as Truth, I8, U8, I16, U16, I32, U32, I64, U64}
use Rattle.isp_base.specs.Ranks.{rank, same_elem, operand, common}

-- an element type by its rank, so types of equal rank are one
abbrev of_rank : ℕ → Elem
of_rank n = if n == 0 then Truth else (if n == 1 then I8 else (if n == 2 then U8 else (if n == 3 then I16 else (if n == 4 then U16 else (if n == 5 then I32 else (if n == 6 then U32 else (if n == 7 then I64 else U64)))))))

ranked : (e : Elem) → of_rank (rank e) ≡ e
ranked Truth = refl
ranked I8 = refl
ranked U8 = refl
ranked I16 = refl
ranked U16 = refl
ranked I32 = refl
ranked U32 = refl
ranked I64 = refl
ranked U64 = refl

pub same_is : (a b : Elem) → same_elem a b ≡ true → a ≡ b
same_is a b e = sym (ranked a) ∙ (ap of_rank (eqb-true (rank a) (rank b) e) ∙ ranked b)

pub common_one : (a b : Elem) → (common a b ≡ operand a) ⊎ (common a b ≡ operand b)
common_one a b = by (nat_lt (rank (operand a)) (rank (operand b)))
  where
    by : (t : Bool) → (cond t (operand b) (operand a) ≡ operand a) ⊎ (cond t (operand b) (operand a) ≡ operand b)
    by true = inr refl
    by false = inl refl

pub common_late : (a b : Elem) → (rank (operand a) ≤ rank (common a b)) × (rank (operand b) ≤ rank (common a b))
common_late a b = by (nat_lt (rank (operand a)) (rank (operand b))) refl
  where
    by : (t : Bool) → nat_lt (rank (operand a)) (rank (operand b)) ≡ t
        → (rank (operand a) ≤ rank (cond t (operand b) (operand a))) × (rank (operand b) ≤ rank (cond t (operand b) (operand a)))
    by true e = (omega (arith, ltb-true (rank (operand a)) (rank (operand b)) e), omega arith)
    by false e = (omega arith, ltb-false (rank (operand a)) (rank (operand b)) e)
