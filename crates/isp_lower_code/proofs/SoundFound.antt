-- Values are found in registers that are there and of their types.
use Rattle.std.proofs.Common.{◌≡◌, ℕ, List, Option, Some, None, Bool, true, false, refl, sym, ◌∙◌, subst, inl, inr}
use Rattle.std.specs.Prelude.{◌&&◌}
use Rattle.isp_base.specs.declared.types.Elem.{Elem}
use Rattle.isp_base.specs.declared.types.Elem.TheVariants.{I64}
use Rattle.isp_base.specs.declared.types.Rate.{Rate}
use Rattle.isp_base.specs.declared.types.Rate.TheVariants.{Uniform, Varying}
use Rattle.isp_base.specs.declared.types.Value.{Value}
use Rattle.isp_code.specs.Listing.{Routine, Listing}
use Rattle.isp_typed.specs.Typed.{TExpr, t_constant, t_program_index, t_place, t_convert, t_cast, t_unary, t_binary, t_compare, t_logic, t_choose, t_call, t_library}
use Rattle.isp_typed.specs.Typed.{t_packed_store, t_packed_load, TPlace, t_variable, t_element, TFunction, place_type, type_of}
use Rattle.isp_meaning.specs.Calls.{same_rate}
use Rattle.isp_meaning.specs.Payloads.{converted}
use Rattle.isp_lower_code.specs.Layout.{Layout}
use Rattle.isp_lower_code.specs.Elements.{index_by, is_run, start_in}
use Rattle.isp_lower_code.specs.Found.{in_vector, operand_by, vector_of, is_copied, is_kept, kept_found, variable_found, is_whole, lifted, part_to, place_found, found, operand, whole, index}
use Rattle.isp_lower_code.specs.Known.{bits_as, constant_of, known}
use Rattle.isp_lower_code.specs.Stays.{stays, stays_at}
use Rattle.isp_lower_code.specs.Asks.{copy_asks, expr_asks, index_asks, lift_asks, operand_asks, whole_asks, element_asks, is_lane, place_asks, run_asks, start_asks}
use Rattle.isp_lower_code.specs.Sound.{HasKept, IsRegister, Granted, HasArray, IsShared}
use Rattle.isp_lower_code.proofs.Found.{known_elem, whole_is}
use Rattle.isp_lower_code.proofs.Short.{same_rate-is}
use Rattle.isp_lower_code.proofs.Stayed.{stays_same}
use Rattle.isp_lower_code.proofs.Trees.{ExprTree, OperandTree}
use Rattle.isp_lower_code.specs.Rated.{Reaches}
use Rattle.isp_lower_code.proofs.Consecutive.{lane_reaches, run_is, Counting, counter_is}
use Rattle.isp_lower_code.proofs.SoundLines.{IndexThere}
use Rattle.isp_typed.specs.declared.variable.ArrayVariable.{ArrayVariable}

pub both_first : (a b : Bool) → (a && b) ≡ true → a ≡ true
both_first true b e = refl
both_first false b e = absurd (cc)

pub both_second : (a b : Bool) → (a && b) ≡ true → b ≡ true
both_second true b e = e
both_second false b e = absurd (cc)

module _ (fs : List TFunction) (h : Routine) (l : Layout) (constants : HasKept h l) where
  -- ---- a value of one rate where another is wanted

  pub lift_there : (given r : Rate) (u t : Elem) (x n : ℕ) → Reaches given r → u ≡ t → Granted h l (lift_asks r given u n) → IsRegister h given x u → IsRegister h r (lifted l r given u x n) t
  lift_there Uniform Uniform u t x n is e f hx = (hx.0, hx.1 ∙ e)
  lift_there Uniform Varying u t x n is e f hx = (f.0, f.1 ∙ e)
  lift_there Varying Uniform u t x n is e f hx = absurd is
  lift_there Varying Varying u t x n is e f hx = (hx.0, hx.1 ∙ e)

  -- the same into register d
  pub part_there : (given r : Rate) (u t : Elem) (d x : ℕ) → Reaches given r → u ≡ t → IsRegister h r d t → IsRegister h given x u → IsRegister h given (part_to l r given d x) u
  part_there Uniform Uniform u t d x is e hd hx = (hd.0, hd.1 ∙ sym e)
  part_there Uniform Varying u t d x is e hd hx = hx
  part_there Varying Uniform u t d x is e hd hx = absurd is
  part_there Varying Varying u t d x is e hd hx = (hd.0, hd.1 ∙ sym e)

  -- ---- where values are found

  pub place_there : (z : TPlace) (n : ℕ) → Granted h l (expr_asks (t_place z) n) → IsRegister h (place_type z).rate (place_found l z n) (place_type z).elem
  place_there (t_variable v t sp) n f = go (is_copied l t.rate v) refl
    where
      copy_there : (r : Rate) (e : Elem) → is_copied l r v ≡ true → Granted h l (copy_asks r e n) → IsRegister h r (l.spare r e n) e
      copy_there Uniform e is g = absurd (cc)
      copy_there Varying e is g = g

      go : (b : Bool) → is_copied l t.rate v ≡ b → IsRegister h t.rate (variable_found l b t v n) t.elem
      go true e = copy_there t.rate t.elem e f.1
      go false e = f.0
  place_there (t_element b i t sp) n f = f.1

  kept_there : (r : Rate) (t : Elem) (b n : ℕ) → IsRegister h r (l.spare r t n) t → IsRegister h r (kept_found l (l.kept r t b) r t b n) t
  kept_there r t b n f = go (l.kept r t b) refl
    where
      go : (z : Bool) → l.kept r t b ≡ z → IsRegister h r (kept_found l z r t b n) t
      go true e = constants r t b e
      go false e = f

  converted_there : (o : Option Value) (r : Rate) (e : Elem) (n : ℕ) → IsRegister h r (l.spare r e n) e → IsRegister h r (kept_found l (is_kept l o r e) r e (bits_as o e) n) e
  converted_there None r e n f = f
  converted_there (Some v) r e n f = kept_there r e (converted v.elem e v.bits) n f

  pub found_there : (x : TExpr) (n : ℕ) → ExprTree fs x → Granted h l (expr_asks x n) → IsRegister h (type_of x).rate (found l x n) (type_of x).elem
  found_there (t_constant v sp) n is f = kept_there Uniform v.elem v.bits n f
  found_there (t_program_index sp) n is f = f
  found_there (t_place z) n is f = place_there z n f
  found_there (t_convert e x) n is f = converted_there (constant_of x) (type_of x).rate e n f.0
  found_there (t_cast x t sp) n is f =
      lift_there (type_of x).rate t.rate (type_of x).elem t.elem (found l x n) n is.0.reaches is.0.elem f.0 (found_there x n is.1 f.1)
  found_there (t_unary o x t sp) n is f = f.0
  found_there (t_binary o x y t sp) n is f = f.0
  found_there (t_compare c x y r sp) n is f = f.0
  found_there (t_logic g x y r sp) n is f = f.0
  found_there (t_choose c x y t sp) n is f = f.0
  found_there (t_call c t) n is f = f.0
  found_there (t_library g e xs t sp) n is f = f.0
  found_there (t_packed_store b x sp) n is f = f.0
  found_there (t_packed_load b v sp) n is f = f.0

  pub operand_there : (r : Rate) (t : Elem) (x : TExpr) (n : ℕ) → OperandTree r t x → ExprTree fs x → Granted h l (operand_asks r x n) → IsRegister h r (operand l r x n) t
  operand_there r t x n o is f = go (in_vector l r (known x)) refl
    where
      vector : (g : Rate) (k : Option Value) → known x ≡ k → in_vector l g k ≡ true → IsRegister h g (vector_of l k) t
      vector Uniform k ek e = absurd (cc)
      vector Varying None ek e = absurd (cc)
      vector Varying (Some v) ek e = let there = constants Varying v.elem v.bits e in (there.0, there.1 ∙ sym (known_elem x v ek) ∙ o.elem)

      go : (z : Bool) → in_vector l r (known x) ≡ z → IsRegister h r (operand_by l z r x n) t
      go true e = vector r (known x) refl e
      go false e = lift_there (type_of x).rate r (type_of x).elem t (found l x n) n o.reaches o.elem f.0 (found_there x n is f.1)

  -- ---- an index, as int64

  pub whole_there : (b : Bool) (i : TExpr) (n : ℕ) → is_whole (type_of i).elem ≡ b → ExprTree fs i → Granted h l (whole_asks i n (expr_asks i n)) → IsRegister h (type_of i).rate (whole l b i n) I64
  whole_there true i n e is f = let hi = found_there i n is f.1 in (hi.0, hi.1 ∙ whole_is (type_of i).elem e)
  whole_there false i n e is f = f.0

  pub index_there : (r : Rate) (i : TExpr) (n : ℕ) → Reaches (type_of i).rate r → ExprTree fs i → Granted h l (index_asks r i n (expr_asks i n)) → IsRegister h r (index l r i n) I64
  index_there r i n re is f =
      lift_there (type_of i).rate r I64 I64 (whole l (is_whole (type_of i).elem) i n) n re refl f.0 (whole_there (is_whole (type_of i).elem) i n refl is f.1)

  -- the number of a run's first element
  start_there : (i : TExpr) (n : ℕ) → Counting l i → Granted h l (start_asks i n) → IsRegister h Uniform (start_in l (is_lane i) n) I64
  start_there i n (inl e) g = subst (λ u. Granted h l (start_asks u n) → IsRegister h Uniform (start_in l (is_lane u) n) I64) (sym e.1) (λ f. f) g
  start_there i n (inr e) g =
      subst (λ u. Granted h l (start_asks u n) → IsRegister h Uniform (start_in l (is_lane u) n) I64) (sym e.3)
      (λ f. subst (λ r. Granted h l (place_asks r)) (counter_is l e.1.rate e.0 e.4).varying f) g

  counting_reaches : (i : TExpr) (r : Rate) → Counting l i → Reaches (type_of i).rate r → r ≡ Varying
  counting_reaches i r (inl e) re = lane_reaches r (subst (λ u. Reaches (type_of u).rate r) e.1 re)
  counting_reaches i r (inr e) re = lane_reaches r (subst (λ g. Reaches g r) (counter_is l e.1.rate e.0 e.4).varying (subst (λ u. Reaches (type_of u).rate r) e.3 re))

  -- that of an element
  pub element_index_there : (code : Listing) (b : ArrayVariable) (r : Rate) (i : TExpr) (n : ℕ) → Reaches (type_of i).rate r → ExprTree fs i
      → HasArray h l b → Granted h l (element_asks b.ty.rate r i n (expr_asks i n))
      → IndexThere code h (is_run l b.ty.rate i) r (l.array b.number) (index_by l (is_run l b.ty.rate i) r i n)
  element_index_there code b r i n re is there f = go (is_run l b.ty.rate i) refl
    where
      go : (z : Bool) → is_run l b.ty.rate i ≡ z → IndexThere code h z r (l.array b.number) (index_by l z r i n)
      go false e = index_there r i n re is f.1
      go true e =
          let run = run_is l b.ty.rate i e in
          (counting_reaches i r run.1 re, subst (λ u. IsShared h u (l.array b.number)) run.0 there.2, start_there i n run.1 (subst (λ u. Granted h l (run_asks u i n)) run.0 f.0))

  -- ---- a choice

  -- one that stays at a rate has that rate
  pub stayed_there : (r : Rate) (t : Elem) (x : TExpr) (n m : ℕ) → stays_at l r x ≡ true → OperandTree r t x → ExprTree fs x → Granted h l (expr_asks x m) → IsRegister h r (found l x n) t
  stayed_there r t x n m e o is f =
      let same = same_rate-is r (type_of x).rate (both_first (same_rate r (type_of x).rate) (stays l x) e) in
      let there : IsRegister h (type_of x).rate (found l x n) (type_of x).elem = subst (λ y. IsRegister h (type_of x).rate y (type_of x).elem) (stays_same l x m n (both_second (same_rate r (type_of x).rate) (stays l x) e)) (found_there x m is f) in
      subst (λ u. IsRegister h r (found l x n) u) o.elem (subst (λ q. IsRegister h q (found l x n) (type_of x).elem) (sym same) there)
