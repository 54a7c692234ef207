-- Each instruction of the code of an expression has its operands.
use Rattle.std.proofs.Common.{◌≡◌, ℕ, ◌+◌, ◌<◌, List, [], ◌∷◌, ◌++◌, length, Option, Some, Bool, true, false, refl, sym, ap, ◌∙◌, subst, arith}
use Rattle.isp_base.specs.declared.types.Elem.{Elem}
use Rattle.isp_base.specs.declared.types.Elem.TheVariants.{Bool as Truth, I64}
use Rattle.isp_base.specs.declared.types.Rate.{Rate}
use Rattle.isp_base.specs.declared.types.Rate.TheVariants.{Uniform, Varying}
use Rattle.isp_base.specs.declared.types.Span.{Span}
use Rattle.isp_base.specs.declared.types.Ty.{Ty}
use Rattle.isp_code.specs.Listing.{Listing, Routine}
use Rattle.isp_code.specs.declared.instr.Instr.{Instr}
use Rattle.isp_typed.specs.Typed.{TExpr, t_constant, t_program_index, t_place, t_convert, t_cast, t_unary, t_binary, t_compare, t_logic, t_choose, t_call, t_library, t_packed_store}
use Rattle.isp_typed.specs.Typed.{t_packed_load, TPlace, t_variable, t_element, TBase, t_whole, t_from, base_array, TArgument, t_by_value, t_by_name, TCall, t_called, TArguments}
use Rattle.isp_typed.specs.Typed.{t_no_arguments, t_argument_then, TExprs, t_no_exprs, t_expr_then, TFunction, place_type, type_of}
use Rattle.isp_typed.specs.declared.variable.ArrayVariable.{ArrayVariable}
use Rattle.isp_code.specs.Fine.{AllFine, IsGiven, ArePassed}
use Rattle.isp_code.specs.Operands.{result_operands}
use Rattle.isp_code.specs.declared.register.Register.{Register}
use Rattle.isp_typed.specs.Fine.{params_of}
use Rattle.isp_typed.specs.declared.variable.Holds.{Holds as Held}
use Rattle.isp_typed.specs.declared.variable.Holds.TheVariants as holds
use Rattle.isp_typed.specs.declared.variable.Variable.{Variable}
use Rattle.isp_lower_code.specs.Callees.{rate_held, rates_held, rates_of}
use Rattle.isp_lower_code.specs.Header.{returns_of}
use Rattle.isp_lower_code.specs.Layout.{Layout, register}
use Rattle.isp_lower_code.specs.Code.{variable_read, choose_to, expr_to, base_register, base_code, index_code, read_code, expr_code, values_code, value_registers, argument_registers, argument_code, arguments_code, call_code, calling}
use Rattle.isp_lower_code.specs.Found.{convert_to, is_copied, is_kept, part_to, lift_to, found, operand, operand_of}
use Rattle.isp_lower_code.specs.Instructions.{constant, compare, unary, operate, operate_places, packed_store, packed_load, select}
use Rattle.isp_lower_code.specs.Known.{constant_of}
use Rattle.isp_lower_code.specs.Spans.{expr_places, index_places, read_places, base_places, values_places, argument_places, arguments_places, call_places}
use Rattle.isp_lower_code.specs.Stays.{is_short}
use Rattle.isp_typed.specs.Fine.{rates_of as rate_of_all}
use Rattle.isp_typed.specs.Library.{library_type, parts}
use Rattle.isp_typed.specs.declared.library.Library.{Library}
use Rattle.isp_lower_code.specs.Callees.{later, next_rate}
use Rattle.isp_lower_code.specs.Library.{library_code, library_rates}
use Rattle.isp_lower_code.specs.Asks.{argument_asks, arguments_asks, base_asks, call_asks, expr_asks, first_slot, operand_asks, second_slot, target_asks, values_asks}
use Rattle.isp_lower_code.specs.Sound.{AreSound, Links, PartSound, IsRegister, HasArray, Granted}
use Rattle.isp_lower_code.proofs.SoundLines.{IsArray, copy_sound, packed_store_sound, packed_load_sound, unary_sound, compare_sound, operate_sound, constant_sound, index_sound as lane_sound}
use Rattle.isp_lower_code.proofs.SoundFound.{part_there, found_there, operand_there, index_there}
use Rattle.isp_lower_code.proofs.SoundParts.{unless_sound, few_front, few_back, Here, AnyMask, here_both, here_then, pair_sound, logic_sound, lift_to_sound, operand_sound, convert_to_sound, index_sound, choose_sound, short_sound}
pub use Rattle.isp_lower_code.proofs.SoundElements.{Named}
use Rattle.isp_lower_code.proofs.SoundElements.{array_there, reached_sound, read_from_sound}
use Rattle.isp_lower_code.proofs.Trees.{IsWord, ExprTree, OperandTree, PlaceTree, BaseTree, ValuesTree, CallTree, ArgumentsTree, ArgumentTree}
use Rattle.isp_lower_code.proofs.InRow.{enough}
use Rattle.isp_lower_code.proofs.LibraryTypes.{LibraryTyped, part_elems}
use Rattle.isp_lower_code.proofs.SoundLibrary.{ThereFrom, library_sound, there_from}
use Rattle.isp_lower_code.proofs.SoundCalls.{taken_there, result_given, result_there, arguments_passed, calling_sound}
use Rattle.isp_lower_code.specs.Rated.{Reaches}

module _ (fs : List TFunction) (code : Listing) (h : Routine) (l : Layout) (links : Links fs code h l) where
  -- a value in register d
  abbrev ToSound : TExpr → Type 0
  ToSound x =
      (d pc p k n : ℕ) → ExprTree fs x → Granted h l (expr_asks x n) → IsRegister h (type_of x).rate d (type_of x).elem → k < h.masks → Named code h l p (expr_places l x) → Here code h pc (expr_to l d x pc p k n)

  read_there : (q : TPlace) (d pc p k n : ℕ) → PlaceTree fs q → Granted h l (target_asks q n) → IsRegister h (place_type q).rate d (place_type q).elem → k < h.masks → Named code h l p (read_places l q) → Here code h pc (read_code l d q pc p k n)
  read_there (t_variable v t sp) d pc p k n is f hd lk lp = λ lt. go (is_copied l t.rate v)
    where
      go : (b : Bool) → AreSound code h (variable_read l b d t.rate v k)
      go true = (copy_sound code h t.rate t.elem d (l.variable t.rate v) k hd f lk, tt)
      go false = tt
  read_there (t_element b i t sp) d pc p k n is f hd lk lp =
      read_from_sound fs code h l links b i t sp n is f d pc p k (n + 1) (omega arith) (omega arith) hd lk (omega (arith, lp))

  choose_there : (b : Bool) (d : ℕ) (c x y : TExpr) (t : Ty) (sp : Span) (pc k n : ℕ) (test : List Instr) (one other : ℕ → ℕ → ℕ → List Instr)
      → is_short l t.rate c x y ≡ b → ExprTree fs (t_choose c x y t sp) → Granted h l (expr_asks (t_choose c x y t sp) n)
      → IsRegister h t.rate d t.elem → k < h.masks → Here code h pc test → AnyMask code h (λ pc m. one pc m (first_slot (type_of c).rate n))
      → AnyMask code h (λ pc m. other pc m (second_slot (type_of c).rate n)) → Here code h pc (choose_to l b d c x y t pc k n test one other)
  choose_there true d c x y t sp pc k n test one other e is f hd lk s g1 g2 =
      here_then code h pc test (select t.rate d (found l c n) (found l x n) (found l y n) k) s
      (short_sound code h fs l links.constants t.rate t.elem c x y d k n (first_slot (type_of c).rate n) (second_slot (type_of c).rate n) e hd
      is.0 is.1 is.2 is.3 is.4 is.5 f.1.0 f.1.1.0.1 f.1.1.1.0.1 lk)
  choose_there false d c x y t sp pc k n test one other e is f hd lk s g1 g2 =
      let hc = found_there fs h l links.constants c n is.3 f.1.0 in
      choose_sound code h fs l links.constants (type_of c).rate t.rate t.elem x y (found l c n) pc k n test one other is.0.reaches
      (hc.0, hc.1 ∙ is.0.elem) f.0 (operand_there fs h l links.constants t.rate t.elem x (first_slot (type_of c).rate n) is.1 is.4 f.1.1.0)
      (operand_there fs h l links.constants t.rate t.elem y (second_slot (type_of c).rate n) is.2 is.5 f.1.1.1.0) lk f.1.1.1.1 s g1 g2

  -- the instructions of a call of the library
  made_sound : (g : Library) (e : Elem) (xs : TExprs) (t : Ty) (d k n : ℕ) → LibraryTyped g e xs t → ValuesTree fs (library_rates g t.rate) xs
      → Granted h l (values_asks (library_rates g t.rate) xs n) → IsRegister h t.rate d t.elem → IsRegister h t.rate (l.spare t.rate t.elem n) t.elem
      → k < h.masks → AreSound code h (library_code g t.rate d (l.spare t.rate t.elem n) (value_registers l (library_rates g t.rate) xs n) k)
  made_sound g e xs t d k n typed is f hd hs lk =
      let rs = library_rates g t.rate in
      let regs = value_registers l rs xs n in
      let there : ThereFrom h rs (part_elems e (parts g)) regs = subst (λ es. ThereFrom h rs es regs) typed.elems (there_from h fs l links.constants rs xs n (enough g e xs t t.rate typed) is f) in
      of_type (rate_of_all xs) typed.gives regs there
    where
      of_type : (r : Rate) → t ≡ library_type g e r → (regs : List ℕ) → ThereFrom h (library_rates g t.rate) (part_elems e (parts g)) regs → AreSound code h (library_code g t.rate d (l.spare t.rate t.elem n) regs k)
      of_type r et regs there =
          subst (λ u. IsRegister h u.rate d u.elem → IsRegister h u.rate (l.spare u.rate u.elem n) u.elem
          → ThereFrom h (library_rates g u.rate) (part_elems e (parts g)) regs
          → AreSound code h (library_code g u.rate d (l.spare u.rate u.elem n) regs k)) (sym et)
          (λ hd hs there. library_sound code h k lk g e r d (l.spare (library_type g e r).rate (library_type g e r).elem n) regs typed.works hd hs there) hd hs there

  -- ---- the array of a packed call, and the number of its first element

  base_words : (b : TBase) → BaseTree fs b → IsWord (base_array b).ty.elem
  base_words (t_whole b sp) is = is.1
  base_words (t_from b i sp) is = is.1

  shared_there : (b : ArrayVariable) → b.ty.rate ≡ Uniform → HasArray h l b → IsArray code h Uniform (l.array b.number) b.ty.elem
  shared_there b e f = array_there code h l b Uniform b.ty.elem f (subst (λ r. Reaches r Uniform) (sym e) tt) refl

  base_there : (b : TBase) (n : ℕ) → BaseTree fs b → Granted h l (base_asks b n) → IsArray code h Uniform (l.array (base_array b).number) (base_array b).ty.elem
  base_there (t_whole b sp) n is f = shared_there b is.0 f.0
  base_there (t_from b i sp) n is f = shared_there b is.0 f.0

  first_there : (b : TBase) (n : ℕ) → BaseTree fs b → Granted h l (base_asks b n) → IsRegister h Uniform (base_register l b n) I64
  first_there (t_whole b sp) n is f = f.1
  first_there (t_from b i sp) n is f = index_there fs h l links.constants Uniform i n is.2 is.3 f.1

  mutual
    pub expr_sound : (x : TExpr) → ToSound x
    expr_sound (t_constant v sp) d pc p k n is f hd lk lp =
        unless_sound code h (l.kept Uniform v.elem v.bits) pc (constant d v.elem v.bits ∷ []) (λ lt. (constant_sound code h v.elem d v.bits hd, tt))
    expr_sound (t_program_index sp) d pc p k n is f hd lk lp = λ lt. (lane_sound code h d k hd lk, tt)
    expr_sound (t_place q) d pc p k n is f hd lk lp =
        let pc1 = pc + length (index_code l q pc p k n) in
        here_both code h pc (index_code l q pc p k n) (read_code l d q pc1 (p + length (index_places l q)) k n)
        (place_sound q pc p k n is f.0 lk (few_front (length code.places) p (index_places l q) (read_places l q) lp))
        (read_there q d pc1 (p + length (index_places l q)) k n is f.0 hd lk
        (few_back (length code.places) p (index_places l q) (read_places l q) lp))
    expr_sound (t_convert e x) d pc p k n is f hd lk lp =
        unless_sound code h (is_kept l (constant_of x) (type_of x).rate e) pc (convert_to l (constant_of x) e (type_of x).rate d (found l x n) k (expr_code l x pc p k n))
        (convert_to_sound code h fs l links.constants x e d pc k n (expr_code l x pc p k n) hd (found_there fs h l links.constants x n is.1 f.1) lk
        (λ lt. expr_sound x (found l x n) pc p k n is.1 f.1 (found_there fs h l links.constants x n is.1 f.1) lk lp lt))
    expr_sound (t_cast x t sp) d pc p k n is f hd lk lp =
        let hx = found_there fs h l links.constants x n is.1 f.1 in
        let e = part_to l t.rate (type_of x).rate d (found l x n) in
        here_both code h pc (expr_to l e x pc p k n) (lift_to l t.rate (type_of x).rate d (found l x n) k)
        (λ lt. expr_sound x e pc p k n is.1 f.1 (part_there fs h l links.constants (type_of x).rate t.rate (type_of x).elem t.elem d (found l x n)
        is.0.reaches is.0.elem hd hx) lk lp lt) (λ lt. lift_to_sound code h fs l links.constants (type_of x).rate t.rate (type_of x).elem t.elem d
        (found l x n) k is.0.reaches is.0.elem hd hx lk)
    expr_sound (t_unary o x t sp) d pc p k n is f hd lk lp =
        here_then code h pc (operand_of l t.rate x k n (expr_code l x pc p k n)) (unary t.rate o d (operand l t.rate x n) k)
        (operand_sound code h fs l links.constants t.rate t.elem x pc k n (expr_code l x pc p k n) is.0 is.1 f.1 lk
        (λ lt. expr_sound x (found l x n) pc p k n is.1 f.1.1 (found_there fs h l links.constants x n is.1 f.1.1) lk lp lt))
        (unary_sound code h t.rate o t.elem d (operand l t.rate x n) k is.2 hd
        (operand_there fs h l links.constants t.rate t.elem x n is.0 is.1 f.1) lk)
    expr_sound (t_binary o x y t sp) d pc p k n is f hd lk lp =
        let px = expr_places l x in
        let py = expr_places l y in
        let back = few_back (length code.places) p px (py ++ operate_places o sp) lp in
        pair_sound code h pc (operand_of l t.rate x k n (expr_code l x pc p k n))
        (λ pc1. operand_of l t.rate y k (n + 1) (expr_code l y pc1 (p + length px) k (n + 1)))
        (operate t.rate o d (operand l t.rate x n) (operand l t.rate y (n + 1)) k (p + length px + length py))
        (operand_sound code h fs l links.constants t.rate t.elem x pc k n (expr_code l x pc p k n) is.0 is.2 f.1.1.0 lk
        (λ lt. expr_sound x (found l x n) pc p k n is.2 f.1.1.0.1 (found_there fs h l links.constants x n is.2 f.1.1.0.1) lk
        (few_front (length code.places) p px (py ++ operate_places o sp) lp) lt))
        (λ pc1. operand_sound code h fs l links.constants t.rate t.elem y pc1 k (n + 1) (expr_code l y pc1 (p + length px) k (n + 1)) is.1 is.3
        f.1.1.1 lk (λ lt. expr_sound y (found l y (n + 1)) pc1 (p + length px) k (n + 1) is.3 f.1.1.1.1
        (found_there fs h l links.constants y (n + 1) is.3 f.1.1.1.1) lk
        (few_front (length code.places) (p + length px) py (operate_places o sp) back) lt))
        (operate_sound code h t.rate o t.elem d (operand l t.rate x n) (operand l t.rate y (n + 1)) k (p + length px + length py) sp is.4 hd
        (operand_there fs h l links.constants t.rate t.elem x n is.0 is.2 f.1.1.0)
        (operand_there fs h l links.constants t.rate t.elem y (n + 1) is.1 is.3 f.1.1.1) lk
        (few_back (length code.places) (p + length px) py (operate_places o sp) back))
    expr_sound (t_compare c x y r sp) d pc p k n is f hd lk lp =
        let px = expr_places l x in
        let py = expr_places l y in
        pair_sound code h pc (operand_of l r x k n (expr_code l x pc p k n)) (λ pc1. operand_of l r y k (n + 1) (expr_code l y pc1 (p + length px) k (n + 1))) (compare r c d (operand l r x n) (operand l r y (n + 1)) k)
        (operand_sound code h fs l links.constants r (type_of x).elem x pc k n (expr_code l x pc p k n) is.0 is.2 f.1.1.0 lk
        (λ lt. expr_sound x (found l x n) pc p k n is.2 f.1.1.0.1 (found_there fs h l links.constants x n is.2 f.1.1.0.1) lk
        (few_front (length code.places) p px py lp) lt))
        (λ pc1. operand_sound code h fs l links.constants r (type_of x).elem y pc1 k (n + 1) (expr_code l y pc1 (p + length px) k (n + 1)) is.1 is.3
        f.1.1.1 lk (λ lt. expr_sound y (found l y (n + 1)) pc1 (p + length px) k (n + 1) is.3 f.1.1.1.1
        (found_there fs h l links.constants y (n + 1) is.3 f.1.1.1.1) lk (few_back (length code.places) p px py lp) lt))
        (compare_sound code h r c (type_of x).elem d (operand l r x n) (operand l r y (n + 1)) k hd
        (operand_there fs h l links.constants r (type_of x).elem x n is.0 is.2 f.1.1.0)
        (operand_there fs h l links.constants r (type_of x).elem y (n + 1) is.1 is.3 f.1.1.1) lk)
    expr_sound (t_logic g x y r sp) d pc p k n is f hd lk lp =
        let px = expr_places l x in
        let py = expr_places l y in
        logic_sound code h fs l links.constants r g (l.spare r Truth n) (operand l r x n) (operand l r y (n + 1)) pc k n
        (operand_of l r x k n (expr_code l x pc p k n)) (λ pc1 m. operand_of l r y m (n + 1) (expr_code l y pc1 (p + length px) m (n + 1))) f.0
        (operand_there fs h l links.constants r Truth x n is.0 is.2 f.1.1.1.0)
        (operand_there fs h l links.constants r Truth y (n + 1) is.1 is.3 f.1.1.1.1) lk f.1.0
        (operand_sound code h fs l links.constants r Truth x pc k n (expr_code l x pc p k n) is.0 is.2 f.1.1.1.0 lk
        (λ lt. expr_sound x (found l x n) pc p k n is.2 f.1.1.1.0.1 (found_there fs h l links.constants x n is.2 f.1.1.1.0.1) lk
        (few_front (length code.places) p px py lp) lt))
        (λ pc1 m lm. operand_sound code h fs l links.constants r Truth y pc1 m (n + 1) (expr_code l y pc1 (p + length px) m (n + 1)) is.1 is.3
        f.1.1.1.1 lm (λ lt. expr_sound y (found l y (n + 1)) pc1 (p + length px) m (n + 1) is.3 f.1.1.1.1.1
        (found_there fs h l links.constants y (n + 1) is.3 f.1.1.1.1.1) lm (few_back (length code.places) p px py lp) lt))
    expr_sound (t_choose c x y t sp) d pc p k n is f hd lk lp =
        let pl = expr_places l c in
        let px = expr_places l x in
        let py = expr_places l y in
        let nx = first_slot (type_of c).rate n in
        let ny = second_slot (type_of c).rate n in
        let back = few_back (length code.places) p pl (px ++ py) lp in
        choose_there (is_short l t.rate c x y) d c x y t sp pc k n (expr_code l c pc p k n)
        (λ pc1 m i. operand_of l t.rate x m i (expr_code l x pc1 (p + length pl) m i))
        (λ pc1 m i. operand_of l t.rate y m i (expr_code l y pc1 (p + length pl + length px) m i)) refl is f hd lk
        (λ lt. expr_sound c (found l c n) pc p k n is.3 f.1.0 (found_there fs h l links.constants c n is.3 f.1.0) lk (few_front (length code.places) p pl (px ++ py) lp) lt)
        (λ pc1 m lm. operand_sound code h fs l links.constants t.rate t.elem x pc1 m nx (expr_code l x pc1 (p + length pl) m nx) is.1 is.4 f.1.1.0 lm
        (λ lt. expr_sound x (found l x nx) pc1 (p + length pl) m nx is.4 f.1.1.0.1 (found_there fs h l links.constants x nx is.4 f.1.1.0.1) lm
        (few_front (length code.places) (p + length pl) px py back) lt))
        (λ pc1 m lm. operand_sound code h fs l links.constants t.rate t.elem y pc1 m ny (expr_code l y pc1 (p + length pl + length px) m ny) is.2 is.5
        f.1.1.1.0 lm (λ lt. expr_sound y (found l y ny) pc1 (p + length pl + length px) m ny is.5 f.1.1.1.0.1
        (found_there fs h l links.constants y ny is.5 f.1.1.1.0.1) lm (few_back (length code.places) (p + length pl) px py back) lt))
    expr_sound (t_call c t) d pc p k n is f hd lk lp = call_sound c (Some t) (Some (register t.rate d)) pc p k n is f.1 (result_given h t.rate t.elem d hd) (result_there h t.rate t.elem d hd, tt) lk lp
    expr_sound (t_library g e xs t sp) d pc p k n is f hd lk lp =
        let rs = library_rates g t.rate in
        here_both code h pc (values_code l rs xs pc p k n) (library_code g t.rate d (l.spare t.rate t.elem n) (value_registers l rs xs n) k) (values_sound rs xs pc p k n is.1 f.1 lk lp) (λ lt. made_sound g e xs t d k n is.0 is.1 f.1 hd f.0 lk)
    expr_sound (t_packed_store b x sp) d pc p k n is f hd lk lp =
        let t = (base_array b).ty.elem in
        let m = n + 1 in
        let pb = base_places l b in
        let px = expr_places l x in
        let p1 = p + length pb in
        let back = few_back (length code.places) p pb (px ++ sp ∷ []) lp in
        let last = few_back (length code.places) p1 px (sp ∷ []) back in
        pair_sound code h pc (base_code l b pc p k n) (λ pc1. operand_of l Varying x k m (expr_code l x pc1 p1 k m)) (packed_store d (l.array (base_array b).number) (base_register l b n) (operand l Varying x m) k (p1 + length px))
        (base_sound b pc p k n is.0 f.1.0 lk (few_front (length code.places) p pb (px ++ sp ∷ []) lp))
        (λ pc1. operand_sound code h fs l links.constants Varying t x pc1 k m (expr_code l x pc1 p1 k m) is.1 is.2 f.1.1.1 lk
        (λ lt. expr_sound x (found l x m) pc1 p1 k m is.2 f.1.1.1.1 (found_there fs h l links.constants x m is.2 f.1.1.1.1) lk
        (few_front (length code.places) p1 px (sp ∷ []) back) lt))
        (packed_store_sound code h t d (l.array (base_array b).number) (base_register l b n) (operand l Varying x m) k (p1 + length px)
        (base_words b is.0) hd (base_there b n is.0 f.1.0) (first_there b n is.0 f.1.0)
        (operand_there fs h l links.constants Varying t x m is.1 is.2 f.1.1.1) lk (omega (arith, last)))
    expr_sound (t_packed_load b v sp) d pc p k n is f hd lk lp =
        let pb = base_places l b in
        let last = few_back (length code.places) p pb (sp ∷ []) lp in
        here_then code h pc (base_code l b pc p k n) (packed_load d (l.array (base_array b).number) (base_register l b n) (l.variable Varying v) k (p + length pb))
        (base_sound b pc p k n is f.1.0 lk (few_front (length code.places) p pb (sp ∷ []) lp))
        (packed_load_sound code h (base_array b).ty.elem d (l.array (base_array b).number) (base_register l b n) (l.variable Varying v) k
        (p + length pb) (base_words b is) hd (base_there b n is f.1.0) (first_there b n is f.1.0) f.1.1.0 lk (omega (arith, last)))

    base_sound : (b : TBase) (pc p k n : ℕ) → BaseTree fs b → Granted h l (base_asks b n) → k < h.masks → Named code h l p (base_places l b) → Here code h pc (base_code l b pc p k n)
    base_sound (t_whole b sp) pc p k n is f lk lp = λ lt. (constant_sound code h I64 (l.spare Uniform I64 n) 0 f.1, tt)
    base_sound (t_from b i sp) pc p k n is f lk lp =
        index_sound code h fs l links.constants Uniform i pc k n (expr_code l i pc p k n) is.2 is.3 f.1 lk (λ lt. expr_sound i (found l i n) pc p k n is.3 f.1.1.1 (found_there fs h l links.constants i n is.3 f.1.1.1) lk lp lt)

    -- the index of a place
    pub place_sound : (q : TPlace) (pc p k n : ℕ) → PlaceTree fs q → Granted h l (target_asks q n) → k < h.masks → Named code h l p (index_places l q) → Here code h pc (index_code l q pc p k n)
    place_sound (t_variable v t sp) pc p k n is f lk lp = λ lt. tt
    place_sound (t_element b i t sp) pc p k n is f lk lp =
        reached_sound fs code h l links b i t sp n is f pc p k (expr_code l i pc p k n) lk lp (λ lt. expr_sound i (found l i n) pc p k n is.2 f.1.1.1.1 (found_there fs h l links.constants i n is.2 f.1.1.1.1) lk lp lt)

    pub values_sound : (rs : List Rate) (xs : TExprs) (pc p k n : ℕ) → ValuesTree fs rs xs → Granted h l (values_asks rs xs n) → k < h.masks → Named code h l p (values_places l xs) → Here code h pc (values_code l rs xs pc p k n)
    values_sound rs t_no_exprs pc p k n is f lk lp = λ lt. tt
    values_sound rs (t_expr_then x xs) pc p k n is f lk lp =
        let r = next_rate rs in
        let px = expr_places l x in
        let ca = operand_of l r x k n (expr_code l x pc p k n) in
        here_both code h pc ca (values_code l (later rs) xs (pc + length ca) (p + length px) k (n + 1))
        (operand_sound code h fs l links.constants r (type_of x).elem x pc k n (expr_code l x pc p k n) is.0 is.1 f.1.0 lk
        (λ lt. expr_sound x (found l x n) pc p k n is.1 f.1.0.1 (found_there fs h l links.constants x n is.1 f.1.0.1) lk
        (few_front (length code.places) p px (values_places l xs) lp) lt))
        (values_sound (later rs) xs (pc + length ca) (p + length px) k (n + 1) is.2 f.1.1 lk (few_back (length code.places) p px (values_places l xs) lp))

    -- a call has what its callee's routine asks
    pub call_sound : (c : TCall) (answer : Option Ty) (d : Option Register) (pc p k n : ℕ) → CallTree fs c answer → Granted h l (call_asks c n)
        → IsGiven h (returns_of answer) d → AllFine code h (result_operands d) → k < h.masks → Named code h l p (call_places l c)
        → Here code h pc (call_code l d c pc p k n)
    call_sound (t_called f xs sp) answer d pc p k n is g given there lk lp =
        let vs = params_of is.0 in
        let er : rates_held vs ≡ l.rates f = sym (ap (λ z. z f) links.rates ∙ ap rates_of is.1) in
        let to = links.headers f is.0 is.1 in
        let ps = arguments_places l xs in
        here_then code h pc (arguments_code l (l.rates f) xs pc p k n) (calling l d f xs (p + length ps) k n)
        (subst (λ rs. Here code h pc (arguments_code l rs xs pc p k n)) er
        (arguments_sound vs xs pc p k n is.3 g.1 lk (few_front (length code.places) p ps (sp ∷ []) lp)))
        (calling_sound code h l d f xs (p + length ps) k n is.0 to (subst (λ a. IsGiven h a d) (sym (to.returns ∙ ap returns_of is.2)) given) there lk
        (few_back (length code.places) p ps (sp ∷ []) lp)
        (subst (λ rs. ArePassed h to.routine.params (argument_registers l rs xs n)) er
        (arguments_passed fs h l links.constants vs xs to.routine.params n is.3 g.1 to.params)))

    arguments_sound : (vs : List Variable) (xs : TArguments) (pc p k n : ℕ) → ArgumentsTree fs vs xs → Granted h l (arguments_asks xs n) → k < h.masks
        → Named code h l p (arguments_places l xs) → Here code h pc (arguments_code l (rates_held vs) xs pc p k n)
    arguments_sound [] t_no_arguments pc p k n is f lk lp = λ lt. tt
    arguments_sound [] (t_argument_then x xs) pc p k n is f lk lp = absurd is
    arguments_sound (v ∷ vs) t_no_arguments pc p k n is f lk lp = absurd is
    arguments_sound (v ∷ vs) (t_argument_then x xs) pc p k n is f lk lp =
        let px = argument_places l x in
        let ca = argument_code l (rate_held v.holds) x pc p k n in
        here_both code h pc ca (arguments_code l (rates_held vs) xs (pc + length ca) (p + length px) k (n + 1))
        (argument_sound v.holds x pc p k n is.0 f.1.0 lk (few_front (length code.places) p px (arguments_places l xs) lp))
        (arguments_sound vs xs (pc + length ca) (p + length px) k (n + 1) is.1 f.1.1 lk
        (few_back (length code.places) p px (arguments_places l xs) lp))

    argument_sound : (y : Held) (x : TArgument) (pc p k n : ℕ) → ArgumentTree fs y x → Granted h l (argument_asks x n) → k < h.masks → Named code h l p (argument_places l x) → Here code h pc (argument_code l (rate_held y) x pc p k n)
    argument_sound (holds.Value t) (t_by_value x) pc p k n is f lk lp =
        let g = taken_there h l t.rate x n (expr_asks x n) f in
        operand_sound code h fs l links.constants t.rate t.elem x pc k n (expr_code l x pc p k n) is.0 is.1 g lk (λ lt. expr_sound x (found l x n) pc p k n is.1 f.1 (found_there fs h l links.constants x n is.1 f.1) lk lp lt)
    argument_sound (holds.Value t) (t_by_name b sp) pc p k n is f lk lp = absurd is
    argument_sound (holds.Given e) (t_by_value x) pc p k n is f lk lp = absurd is
    argument_sound (holds.Given e) (t_by_name b sp) pc p k n is f lk lp = λ lt. tt
    argument_sound (holds.Local t m) (t_by_value x) pc p k n is f lk lp = absurd is
    argument_sound (holds.Local t m) (t_by_name b sp) pc p k n is f lk lp = absurd is

  pub value_sound : (x : TExpr) (n : ℕ) → ExprTree fs x → Granted h l (expr_asks x n) → PartSound code h (expr_places l x) (λ pc p k. expr_code l x pc p k n)
  value_sound x n is f pc p k lk lp lt = expr_sound x (found l x n) pc p k n is f (found_there fs h l links.constants x n is f) lk lp lt

  -- an operand, lifted to its rate
  pub part_sound : (r : Rate) (t : Elem) (x : TExpr) (pc p k n : ℕ) → OperandTree r t x → ExprTree fs x → Granted h l (operand_asks r x n)
      → k < h.masks → Named code h l p (expr_places l x) → Here code h pc (operand_of l r x k n (expr_code l x pc p k n))
  part_sound r t x pc p k n o is f lk lp =
      operand_sound code h fs l links.constants r t x pc k n (expr_code l x pc p k n) o is f lk (λ lt. value_sound x n is f.1 pc p k lk lp lt)
