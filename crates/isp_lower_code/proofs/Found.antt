-- Where values are found: registers of the right type that later code leaves as they are.
use Rattle.std.proofs.Common.{◌≡◌, ℕ, ◌+◌, ◌≤◌, Option, Some, None, Bool, true, false, refl, sym, ap, ◌∙◌, subst, arith, inl, inr}
use Rattle.std.proofs.lemmas.Option.{same_Some}
use Rattle.isp_base.specs.declared.types.Elem.{Elem}
use Rattle.isp_base.specs.declared.types.Elem.TheVariants.{Bool as Truth, I8, U8, I16, U16, I32, U32, I64, U64}
use Rattle.isp_base.specs.declared.types.Rate.{Rate}
use Rattle.isp_base.specs.declared.types.Rate.TheVariants.{Uniform, Varying}
use Rattle.isp_base.specs.declared.types.Span.{Span}
use Rattle.isp_base.specs.declared.types.Ty.{Ty}
use Rattle.isp_base.specs.declared.types.Value.{Value}
use Rattle.isp_meaning.specs.Payloads.{converted}
use Rattle.isp_typed.specs.Fine.{heads}
use Rattle.isp_typed.specs.Typed.{TExpr, t_constant, t_program_index, t_place, t_convert, t_cast, t_unary, t_binary, t_compare, t_logic, t_choose, t_call, t_library, t_packed_store, t_packed_load, t_variable, t_element, type_of}
use Rattle.isp_lower_code.specs.Setting.{Setting, IsSettled}
use Rattle.isp_lower_code.specs.Found.{in_vector, operand_by, vector_of, is_copied, is_kept, kept_found, variable_found, lifted, found, operand, is_whole, whole, index}
use Rattle.isp_lower_code.specs.Known.{bits_as, known, known_as, constant_of}
use Rattle.isp_lower_code.proofs.Kept.{IsRead, Low, Placed, is_read, low_spare, placed_low}
use Rattle.isp_lower_code.proofs.Parts.{ExprParts, CopyHas, IsNamed, LiftFits, OperandFits}
use Rattle.isp_lower_code.specs.Rated.{Reaches}
use Rattle.isp_lower_code.specs.Tables.{IsTyped}

-- a conversion converts no conversion
pub few : (w : Setting) (x : TExpr) (n : ℕ) → ExprParts w x n → heads x ≤ 1
few w (t_constant v sp) n f = omega arith
few w (t_program_index sp) n f = omega arith
few w (t_place p) n f = omega arith
few w (t_convert e x) n f = omega (arith, f.0)
few w (t_cast x t sp) n f = omega arith
few w (t_unary o x t sp) n f = omega arith
few w (t_binary o x y t sp) n f = omega arith
few w (t_compare c x y r sp) n f = omega arith
few w (t_logic g x y r sp) n f = omega arith
few w (t_choose c x y t sp) n f = omega arith
few w (t_call c t) n f = omega arith
few w (t_library g e xs t sp) n f = omega arith
few w (t_packed_store b x sp) n f = omega arith
few w (t_packed_load b v sp) n f = omega arith

pub constant_is_one : (x : TExpr) (v : Value) → constant_of x ≡ Some v → (sp : Span) × (x ≡ t_constant v sp)
constant_is_one (t_constant u sp) v e = let h : u ≡ v = cc in (sp, ap (λ z. t_constant z sp) h)
constant_is_one (t_program_index sp) v e = absurd (cc)
constant_is_one (t_place p) v e = absurd (cc)
constant_is_one (t_convert t x) v e = absurd (cc)
constant_is_one (t_cast x t sp) v e = absurd (cc)
constant_is_one (t_unary o x t sp) v e = absurd (cc)
constant_is_one (t_binary o x y t sp) v e = absurd (cc)
constant_is_one (t_compare c x y r sp) v e = absurd (cc)
constant_is_one (t_logic g x y r sp) v e = absurd (cc)
constant_is_one (t_choose c x y t sp) v e = absurd (cc)
constant_is_one (t_call c t) v e = absurd (cc)
constant_is_one (t_library g t xs u sp) v e = absurd (cc)
constant_is_one (t_packed_store b x sp) v e = absurd (cc)
constant_is_one (t_packed_load b u sp) v e = absurd (cc)

-- a constant has the type of its expression
pub known_elem : (x : TExpr) (v : Value) → known x ≡ Some v → (type_of x).elem ≡ v.elem
known_elem (t_constant u sp) v e = let h : u ≡ v = cc in ap (λ z. z.elem) h
known_elem (t_program_index sp) v e = absurd (cc)
known_elem (t_place p) v e = absurd (cc)
known_elem (t_convert t x) v e = go (constant_of x) e
  where
    go : (o : Option Value) → known_as t o ≡ Some v → t ≡ v.elem
    go None h = absurd (cc)
    go (Some u) h = ap (λ z. z.elem) (same_Some (record { elem = t; bits = converted u.elem t u.bits }) v h)
known_elem (t_cast x t sp) v e = absurd (cc)
known_elem (t_unary o x t sp) v e = absurd (cc)
known_elem (t_binary o x y t sp) v e = absurd (cc)
known_elem (t_compare c x y r sp) v e = absurd (cc)
known_elem (t_logic g x y r sp) v e = absurd (cc)
known_elem (t_choose c x y t sp) v e = absurd (cc)
known_elem (t_call c t) v e = absurd (cc)
known_elem (t_library g t xs u sp) v e = absurd (cc)
known_elem (t_packed_store b x sp) v e = absurd (cc)
known_elem (t_packed_load b u sp) v e = absurd (cc)

pub whole_is : (t : Elem) → is_whole t ≡ true → t ≡ I64
whole_is Truth e = absurd (cc)
whole_is I8 e = absurd (cc)
whole_is U8 e = absurd (cc)
whole_is I16 e = absurd (cc)
whole_is U16 e = absurd (cc)
whole_is I32 e = absurd (cc)
whole_is U32 e = absurd (cc)
whole_is I64 e = refl
whole_is U64 e = absurd (cc)

module _ (w : Setting) (ready : IsSettled w) where
  pub lifted_typed : (r given : Rate) (t : Elem) (f n : ℕ) → Reaches given r → LiftFits w given r t n → IsTyped w given f t → IsTyped w r (lifted w.layout r given t f n) t
  lifted_typed Uniform Uniform t f n re lf ty = ty
  lifted_typed Uniform Varying t f n re lf ty = absurd re
  lifted_typed Varying Uniform t f n re lf ty = lf
  lifted_typed Varying Varying t f n re lf ty = ty

  -- a varying variable that a packed load writes is read into slot n
  pub copy_typed : (r : Rate) (t : Elem) (v n : ℕ) → is_copied w.layout r v ≡ true → CopyHas (IsNamed w) r t n → IsTyped w r (w.layout.spare r t n) t
  copy_typed Uniform t v n e f = absurd (cc)
  copy_typed Varying t v n e f = f

  variable_typed : (t : Ty) (v n : ℕ) → IsTyped w t.rate (w.layout.variable t.rate v) t.elem → CopyHas (IsNamed w) t.rate t.elem n → IsTyped w t.rate (variable_found w.layout (is_copied w.layout t.rate v) t v n) t.elem
  variable_typed t v n ty f = go (is_copied w.layout t.rate v) refl
    where
      go : (b : Bool) → is_copied w.layout t.rate v ≡ b → IsTyped w t.rate (variable_found w.layout b t v n) t.elem
      go true e = copy_typed t.rate t.elem v n e f
      go false e = ty

  -- a constant that may be kept
  kept_typed : (r : Rate) (t : Elem) (b n : ℕ) → IsTyped w r (w.layout.spare r t n) t → IsTyped w r (kept_found w.layout (w.layout.kept r t b) r t b n) t
  kept_typed r t b n f = go (w.layout.kept r t b) refl
    where
      go : (z : Bool) → w.layout.kept r t b ≡ z → IsTyped w r (kept_found w.layout z r t b n) t
      go true e = ready.constants r t b e
      go false e = f

  converted_typed : (o : Option Value) (r : Rate) (e : Elem) (n : ℕ) → IsTyped w r (w.layout.spare r e n) e → IsTyped w r (kept_found w.layout (is_kept w.layout o r e) r e (bits_as o e) n) e
  converted_typed None r e n f = f
  converted_typed (Some v) r e n f = kept_typed r e (converted v.elem e v.bits) n f

  pub found_typed : (x : TExpr) (n : ℕ) → ExprParts w x n → IsTyped w (type_of x).rate (found w.layout x n) (type_of x).elem
  found_typed (t_constant v sp) n f = kept_typed Uniform v.elem v.bits n f
  found_typed (t_program_index sp) n f = f
  found_typed (t_place (t_variable v t sp)) n f = variable_typed t v n f.0.0 f.1
  found_typed (t_place (t_element b i t sp)) n f = f.1
  found_typed (t_convert e x) n f = converted_typed (constant_of x) (type_of x).rate e n f.1
  found_typed (t_cast x t sp) n f =
      subst (λ u. IsTyped w t.rate (lifted w.layout t.rate (type_of x).rate u (found w.layout x n) n) t.elem) (sym f.0.elem) (lifted_typed t.rate (type_of x).rate t.elem (found w.layout x n) n f.0.reaches f.0.lift (found_typed x n f.1 ∙ f.0.elem))
  found_typed (t_unary o x t sp) n f = f.1
  found_typed (t_binary o x y t sp) n f = f.2
  found_typed (t_compare c x y r sp) n f = f.2
  found_typed (t_logic g x y r sp) n f = f.2
  found_typed (t_choose c x y t sp) n f = f.2
  found_typed (t_call c t) n f = f.0
  found_typed (t_library g e xs t sp) n f = f.1
  found_typed (t_packed_store b x sp) n f = f.0
  found_typed (t_packed_load b v sp) n f = f.0

  pub operand_typed : (r : Rate) (t : Elem) (x : TExpr) (n : ℕ) → OperandFits w r t x n → ExprParts w x n → IsTyped w r (operand w.layout r x n) t
  operand_typed r t x n o f = go (in_vector w.layout r (known x)) refl
    where
      vector : (g : Rate) (k : Option Value) → known x ≡ k → in_vector w.layout g k ≡ true → IsTyped w g (vector_of w.layout k) t
      vector Uniform k ek e = absurd (cc)
      vector Varying None ek e = absurd (cc)
      vector Varying (Some v) ek e = ready.constants Varying v.elem v.bits e ∙ sym (known_elem x v ek) ∙ o.elem

      go : (z : Bool) → in_vector w.layout r (known x) ≡ z → IsTyped w r (operand_by w.layout z r x n) t
      go true e = vector r (known x) refl e
      go false e =
          subst (λ u. IsTyped w r (lifted w.layout r (type_of x).rate u (found w.layout x n) n) t) (sym o.elem) (lifted_typed r (type_of x).rate t (found w.layout x n) n o.reaches o.lift (found_typed x n f ∙ o.elem))

  -- ---- in a variable's register, in that of a constant, or in one of the slot

  lifted_placed : (r given : Rate) (t : Elem) (f n : ℕ) → Reaches given r → Placed w given n f → Placed w r n (lifted w.layout r given t f n)
  lifted_placed Uniform Uniform t f n re at = at
  lifted_placed Uniform Varying t f n re at = absurd re
  lifted_placed Varying Uniform t f n re at = inr (inl (t, refl))
  lifted_placed Varying Varying t f n re at = at

  variable_placed : (t : Ty) (v n : ℕ) → IsRead w t.rate v → Placed w t.rate n (variable_found w.layout (is_copied w.layout t.rate v) t v n)
  variable_placed t v n read = go (is_copied w.layout t.rate v) refl
    where
      go : (b : Bool) → is_copied w.layout t.rate v ≡ b → Placed w t.rate n (variable_found w.layout b t v n)
      go true e = inr (inl (t.elem, refl))
      go false e = inl (v, e, refl, read)

  kept_placed : (r : Rate) (t : Elem) (b n : ℕ) → Placed w r n (kept_found w.layout (w.layout.kept r t b) r t b n)
  kept_placed r t b n = go (w.layout.kept r t b) refl
    where
      go : (z : Bool) → w.layout.kept r t b ≡ z → Placed w r n (kept_found w.layout z r t b n)
      go true e = inr (inr (t, b, e, refl))
      go false e = inr (inl (t, refl))

  converted_placed : (o : Option Value) (r : Rate) (e : Elem) (n : ℕ) → Placed w r n (kept_found w.layout (is_kept w.layout o r e) r e (bits_as o e) n)
  converted_placed None r e n = inr (inl (e, refl))
  converted_placed (Some v) r e n = kept_placed r e (converted v.elem e v.bits) n

  pub found_placed : (x : TExpr) (n : ℕ) → ExprParts w x n → Placed w (type_of x).rate n (found w.layout x n)
  found_placed (t_constant v sp) n f = kept_placed Uniform v.elem v.bits n
  found_placed (t_program_index sp) n f = inr (inl (I32, refl))
  found_placed (t_place (t_variable v t sp)) n f = variable_placed t v n (is_read w t.rate t.elem v f.0.1)
  found_placed (t_place (t_element b i t sp)) n f = inr (inl (t.elem, refl))
  found_placed (t_convert e x) n f = converted_placed (constant_of x) (type_of x).rate e n
  found_placed (t_cast x t sp) n f = lifted_placed t.rate (type_of x).rate (type_of x).elem (found w.layout x n) n f.0.reaches (found_placed x n f.1)
  found_placed (t_unary o x t sp) n f = inr (inl (t.elem, refl))
  found_placed (t_binary o x y t sp) n f = inr (inl (t.elem, refl))
  found_placed (t_compare c x y r sp) n f = inr (inl (Truth, refl))
  found_placed (t_logic g x y r sp) n f = inr (inl (Truth, refl))
  found_placed (t_choose c x y t sp) n f = inr (inl (t.elem, refl))
  found_placed (t_call c t) n f = inr (inl (t.elem, refl))
  found_placed (t_library g e xs t sp) n f = inr (inl (t.elem, refl))
  found_placed (t_packed_store b x sp) n f = inr (inl (I32, refl))
  found_placed (t_packed_load b v sp) n f = inr (inl (I32, refl))

  pub operand_placed : (r : Rate) (t : Elem) (x : TExpr) (n : ℕ) → OperandFits w r t x n → ExprParts w x n → Placed w r n (operand w.layout r x n)
  operand_placed r t x n o f = go (in_vector w.layout r (known x)) refl
    where
      vector : (g : Rate) (k : Option Value) → in_vector w.layout g k ≡ true → Placed w g n (vector_of w.layout k)
      vector Uniform k e = absurd (cc)
      vector Varying None e = absurd (cc)
      vector Varying (Some v) e = inr (inr (v.elem, v.bits, e, refl))

      go : (z : Bool) → in_vector w.layout r (known x) ≡ z → Placed w r n (operand_by w.layout z r x n)
      go true e = vector r (known x) e
      go false e = lifted_placed r (type_of x).rate (type_of x).elem (found w.layout x n) n o.reaches (found_placed x n f)

module _ (w : Setting) (ready : IsSettled w) where
  spare_low : (r : Rate) (t : Elem) (n : ℕ) → Low w r (n + 1) (w.layout.spare r t n)
  spare_low r t n = low_spare w r t (n + 1) n (omega arith)

  pub lifted_low : (r given : Rate) (t : Elem) (f n : ℕ) → Reaches given r → Low w given (n + 1) f → Low w r (n + 1) (lifted w.layout r given t f n)
  lifted_low Uniform Uniform t f n re low = low
  lifted_low Uniform Varying t f n re low = absurd re
  lifted_low Varying Uniform t f n re low = spare_low Varying t n
  lifted_low Varying Varying t f n re low = low

  pub found_low : (x : TExpr) (n : ℕ) → ExprParts w x n → Low w (type_of x).rate (n + 1) (found w.layout x n)
  found_low x n f = placed_low w (type_of x).rate n (n + 1) (found w.layout x n) (omega arith) (found_placed w ready x n f)

  pub operand_low : (r : Rate) (t : Elem) (x : TExpr) (n : ℕ) → OperandFits w r t x n → ExprParts w x n → Low w r (n + 1) (operand w.layout r x n)
  operand_low r t x n o f = placed_low w r n (n + 1) (operand w.layout r x n) (omega arith) (operand_placed w ready r t x n o f)

  whole_low : (z : Bool) (i : TExpr) (n : ℕ) → ExprParts w i n → Low w (type_of i).rate (n + 1) (whole w.layout z i n)
  whole_low true i n f = found_low i n f
  whole_low false i n f = spare_low (type_of i).rate I64 n

  pub index_low : (r : Rate) (i : TExpr) (n : ℕ) → Reaches (type_of i).rate r → ExprParts w i n → Low w r (n + 1) (index w.layout r i n)
  index_low r i n re f = lifted_low r (type_of i).rate I64 (whole w.layout (is_whole (type_of i).elem) i n) n re (whole_low (is_whole (type_of i).elem) i n f)
