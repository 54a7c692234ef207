-- Each instruction of the code of what stands before a semicolon has its operands, and so has that of declarations.
use Rattle.std.proofs.Common.{◌≡◌, ℕ, ◌+◌, ◌≤◌, ◌<◌, List, [], ◌∷◌, ◌++◌, length, None, Bool, true, false, refl, ◌∙◌, arith}
use Rattle.isp_base.specs.Ranks.{same_elem}
use Rattle.isp_base.specs.declared.operators.BinOp.{BinOp}
use Rattle.isp_base.specs.declared.types.Elem.{Elem}
use Rattle.isp_base.specs.declared.types.Rate.{Rate}
use Rattle.isp_base.specs.declared.types.Rate.TheVariants.{Uniform, Varying}
use Rattle.isp_base.specs.declared.types.Span.{Span}
use Rattle.isp_code.specs.Listing.{Listing, Routine}
use Rattle.isp_typed.specs.Typed.{TExpr, TPlace, t_variable, t_element, TItem, t_plain, t_with_value, t_with_size, TFunction, TSimple, t_value, t_run, t_assign, t_update, t_step, place_type, type_of}
use Rattle.isp_lower_code.specs.Layout.{Layout}
use Rattle.isp_lower_code.specs.Code.{expr_to, expr_code, index_code, variable_from, variable_code}
use Rattle.isp_lower_code.specs.Elements.{access, reached, read_from, write_from}
use Rattle.isp_lower_code.specs.Found.{part_to, lift_to, found, operand, operand_of}
use Rattle.isp_lower_code.specs.Instructions.{copy, operate_places}
use Rattle.isp_lower_code.specs.Spans.{expr_places, index_places}
use Rattle.isp_lower_code.specs.Stays.{writes_part, writes_last}
use Rattle.isp_lower_code.specs.Items.{zero_code, zero_each, item_code, item_places, items_code, items_places}
use Rattle.isp_lower_code.specs.Asks.{beyond, change_asks, item_asks, items_asks, operand_asks, simple_asks, step_asks, target_asks, work_asks, zero_asks}
use Rattle.isp_lower_code.specs.Simple.{update_to, change_code, change_places, one_in, one_code, assign_code, assign_places, change_by_code, step_code, simple_code, simple_places, one_of}
use Rattle.isp_lower_code.specs.Sound.{AreSound, Links, PartSound, IsRegister, Granted}
use Rattle.isp_lower_code.proofs.Splits.{same_elem-is}
use Rattle.isp_lower_code.proofs.SoundElements.{read_from_sound, write_from_sound}
use Rattle.isp_lower_code.proofs.SoundExprs.{Named, call_sound, expr_sound, place_sound, part_sound, value_sound}
use Rattle.isp_lower_code.proofs.SoundFound.{part_there, found_there, operand_there}
use Rattle.isp_lower_code.proofs.SoundLines.{copy_sound, convert_sound, operate_sound, constant_sound, splat_sound}
use Rattle.isp_lower_code.proofs.SoundParts.{few_front, few_back, Here, here_both, here_then, lift_to_sound}
use Rattle.isp_lower_code.proofs.Parts.{IsNumber}
use Rattle.isp_lower_code.proofs.Trees.{ExprTree, ItemTree, ItemsTree, OperandTree, PlaceTree, SimpleTree}

module _ (fs : List TFunction) (code : Listing) (h : Routine) (l : Layout) (links : Links fs code h l) where
  -- ---- a register of a variable gets a value

  from_sound : (b : Bool) (r : Rate) (t : Elem) (d : ℕ) (x : TExpr) (pc p k n : ℕ) → IsRegister h r d t → OperandTree r t x → ExprTree fs x
      → Granted h l (operand_asks r x n) → k < h.masks → Named code h l p (expr_places l x) → Here code h pc (variable_from l b r d x pc p k n)
  from_sound true r t d x pc p k n hd o is f lk lp =
      let hx = found_there fs h l links.constants x n is f.1 in
      let e = part_to l r (type_of x).rate d (found l x n) in
      here_both code h pc (expr_to l e x pc p k n) (lift_to l r (type_of x).rate d (found l x n) k)
      (expr_sound fs code h l links x e pc p k n is f.1
      (part_there fs h l links.constants (type_of x).rate r (type_of x).elem t d (found l x n) o.reaches o.elem hd hx) lk lp)
      (λ lt. lift_to_sound code h fs l links.constants (type_of x).rate r (type_of x).elem t d (found l x n) k o.reaches o.elem hd hx lk)
  from_sound false r t d x pc p k n hd o is f lk lp =
      here_then code h pc (operand_of l r x k n (expr_code l x pc p k n)) (copy r d (operand l r x n) k)
      (part_sound fs code h l links r t x pc p k n o is f lk lp)
      (copy_sound code h r t d (operand l r x n) k hd (operand_there fs h l links.constants r t x n o is f) lk)

  variable_sound : (r : Rate) (t : Elem) (v : ℕ) (x : TExpr) (pc p k n : ℕ) → IsRegister h r (l.variable r v) t → OperandTree r t x → ExprTree fs x
      → Granted h l (operand_asks r x n) → k < h.masks → Named code h l p (expr_places l x) → Here code h pc (variable_code l r v x pc p k n)
  variable_sound r t v x pc p k n hd o is f lk lp =
      from_sound (writes_part l r (type_of x).rate (writes_last l x)) r t (l.variable r v) x pc p k n hd o is f lk lp

  -- ---- assignments

  assign_sound : (z : TPlace) (x : TExpr) (pc p k n : ℕ) → PlaceTree fs z → OperandTree (place_type z).rate (place_type z).elem x → ExprTree fs x
      → Granted h l (target_asks z n) → Granted h l (operand_asks (place_type z).rate x (beyond z n)) → k < h.masks
      → Named code h l p (assign_places l z x) → Here code h pc (assign_code l z x pc p k n)
  assign_sound (t_variable v t sp) x pc p k n iz o ix fz f lk lp =
      variable_sound t.rate t.elem v x pc p k n fz o ix f lk (few_front (length code.places) p (expr_places l x) [] lp)
  assign_sound (t_element b i t sp) x pc p k n iz o ix fz f lk lp =
      let pi = expr_places l i in
      let px = expr_places l x in
      let back = few_back (length code.places) p pi (px ++ sp ∷ []) lp in
      let ci = index_code l (t_element b i t sp) pc p k n in
      let pc1 = pc + length ci in
      let cx = operand_of l t.rate x k (n + 1) (expr_code l x pc1 (p + length pi) k (n + 1)) in
      let z = access l b.ty.rate t.rate i n in
      let pc2 = pc1 + length cx in
      let last = write_from l z (type_of i).elem t.rate (l.array b.number) (reached l z t.rate i n) (operand l t.rate x (n + 1)) (p + length pi + length px) pc2 k (n + 2) in
      let low = few_back (length code.places) (p + length pi) px (sp ∷ []) back in
      here_both code h pc ci (cx ++ last) (place_sound fs code h l links (t_element b i t sp) pc p k n iz fz lk (few_front (length code.places) p pi (px ++ sp ∷ []) lp))
      (here_both code h pc1 cx last (part_sound fs code h l links t.rate t.elem x pc1 (p + length pi) k (n + 1) o ix f lk
      (few_front (length code.places) (p + length pi) px (sp ∷ []) back))
      (write_from_sound fs code h l links b i t sp n iz fz (operand l t.rate x (n + 1)) pc2 (p + length pi + length px) k (n + 2) (omega arith) (omega arith)
      (operand_there fs h l links.constants t.rate t.elem x (n + 1) o ix f) lk (omega (arith, low))))

  -- ---- an operator on a place

  update_sound : (b : Bool) (o : BinOp) (t u : Elem) (r : Rate) (d x y k i p : ℕ) (sp : Span) → same_elem u t ≡ b → IsNumber t → IsRegister h r d u
      → IsRegister h r x u → IsRegister h r y t → Granted h l (work_asks b r t i) → k < h.masks → Named code h l p (operate_places o sp)
      → AreSound code h (update_to l b o t r d x y k i p)
  update_sound true o t u r d x y k i p sp e is hd hx hy f lk lp =
      let same = same_elem-is u t e in
      (operate_sound code h r o t d x y k p sp is (hd.0, hd.1 ∙ same) (hx.0, hx.1 ∙ same) hy lk lp, tt)
  update_sound false o t u r d x y k i p sp e is hd hx hy f lk lp =
      (convert_sound code h r t u (l.spare r t i) x k f hx lk, (operate_sound code h r o t (l.spare r t i) (l.spare r t i) y k p sp is f f hy lk lp, (convert_sound code h r u t d (l.spare r t i) k hd f lk, tt)))

  change_sound : (o : BinOp) (t : Elem) (z : TPlace) (y pc p k n i : ℕ) (sp : Span) → IsNumber t → PlaceTree fs z → beyond z n ≤ i → i ≤ beyond z n + 1
      → Granted h l (target_asks z n) → Granted h l (change_asks t z i) → IsRegister h (place_type z).rate y t → k < h.masks → Named code h l p (change_places l o z sp)
      → Here code h pc (change_code l o t z y pc p k n i)
  change_sound o t (t_variable v u s) y pc p k n i sp is iz low high fz f hy lk lp = λ lt.
      update_sound (same_elem u.elem t) o t u.elem u.rate (l.variable u.rate v) (l.variable u.rate v) y k i p sp refl is fz fz hy f.0 lk lp
  change_sound o t (t_element b j u s) y pc p k n i sp is iz low high fz f hy lk lp =
      let z = access l b.ty.rate u.rate j n in
      let e = reached l z u.rate j n in
      let d = l.spare u.rate u.elem i in
      let first = read_from l z (type_of j).elem u.rate d (l.array b.number) e p pc k (i + 1) in
      let middle = update_to l (same_elem u.elem t) o t u.rate d d y k i (p + 1) in
      let pc2 = pc + length first + length middle in
      let last = write_from l z (type_of j).elem u.rate (l.array b.number) e d p pc2 k (i + 1) in
      here_both code h pc first (middle ++ last)
      (read_from_sound fs code h l links b j u s n iz fz d pc p k (i + 1) (omega (arith, low)) (omega (arith, high)) f.1 lk (omega (arith, lp)))
      (here_both code h (pc + length first) middle last
      (λ lt. update_sound (same_elem u.elem t) o t u.elem u.rate d d y k i (p + 1) sp refl is f.1 f.1 hy f.0 lk (omega (arith, lp)))
      (write_from_sound fs code h l links b j u s n iz fz d pc2 p k (i + 1) (omega (arith, low)) (omega (arith, high)) f.1 lk (omega (arith, lp))))

  change_by_sound : (o : BinOp) (t : Elem) (z : TPlace) (x : TExpr) (pc p k n : ℕ) (sp : Span) → IsNumber t → PlaceTree fs z
      → OperandTree (place_type z).rate t x → ExprTree fs x → Granted h l (target_asks z n)
      → Granted h l (operand_asks (place_type z).rate x (beyond z n)) → Granted h l (change_asks t z (beyond z n + 1)) → k < h.masks
      → Named code h l p (index_places l z ++ (expr_places l x ++ change_places l o z sp)) → Here code h pc (change_by_code l o t z x pc p k n)
  change_by_sound o t z x pc p k n sp is iz ox ix fz f fc lk lp =
      let pz = index_places l z in
      let px = expr_places l x in
      let m = beyond z n in
      let back = few_back (length code.places) p pz (px ++ change_places l o z sp) lp in
      let cz = index_code l z pc p k n in
      let pc1 = pc + length cz in
      let cx = operand_of l (place_type z).rate x k m (expr_code l x pc1 (p + length pz) k m) in
      let pc2 = pc1 + length cx in
      let last = change_code l o t z (operand l (place_type z).rate x m) pc2 (p + length pz + length px) k n (m + 1) in
      here_both code h pc cz (cx ++ last) (place_sound fs code h l links z pc p k n iz fz lk (few_front (length code.places) p pz (px ++ change_places l o z sp) lp))
      (here_both code h pc1 cx last (part_sound fs code h l links (place_type z).rate t x pc1 (p + length pz) k m ox ix f lk
      (few_front (length code.places) (p + length pz) px (change_places l o z sp) back))
      (change_sound o t z (operand l (place_type z).rate x m) pc2 (p + length pz + length px) k n (m + 1) sp is iz (omega arith) (omega arith) fz fc
      (operand_there fs h l links.constants (place_type z).rate t x m ox ix f) lk
      (few_back (length code.places) (p + length pz) px (change_places l o z sp) back)))

  step_sound : (o : BinOp) (t : Elem) (z : TPlace) (pc p k n : ℕ) (sp : Span) → IsNumber t → PlaceTree fs z → Granted h l (step_asks t z n)
      → k < h.masks → Named code h l p (index_places l z ++ change_places l o z sp) → Here code h pc (step_code l o t z pc p k n)
  step_sound o t z pc p k n sp is iz f lk lp =
      let pz = index_places l z in
      let m = beyond z n in
      let r = (place_type z).rate in
      let cz = index_code l z pc p k n in
      let fit : OperandTree r t (one_of t) = record { elem = refl; reaches = tt } in
      let one = one_code l r t k m in
      let pc2 = pc + length cz + length one in
      let last = change_code l o t z (one_in l r t m) pc2 (p + length pz) k n (m + 1) in
      here_both code h pc cz (one ++ last) (place_sound fs code h l links z pc p k n iz f.0 lk
      (few_front (length code.places) p pz (change_places l o z sp) lp))
      (here_both code h (pc + length cz) one last (part_sound fs code h l links r t (one_of t) (pc + length cz) 0 k m fit tt
      (f.1.1.0.1, f.1.1.0.0) lk (omega arith)) (change_sound o t z (one_in l r t m) pc2 (p + length pz) k n (m + 1) sp is iz (omega arith) (omega arith) f.0 f.1.1.1
      (operand_there fs h l links.constants r t (one_of t) m fit tt (f.1.1.0.1, f.1.1.0.0)) lk
      (few_back (length code.places) p pz (change_places l o z sp) lp)))

  pub simple_sound : (x : TSimple) (n : ℕ) → SimpleTree fs x → Granted h l (simple_asks x n) → PartSound code h (simple_places l x) (λ pc p k. simple_code l x pc p k n)
  simple_sound (t_value x) n is f pc p k lk lp lt = value_sound fs code h l links x n is f pc p k lk lp lt
  simple_sound (t_run c) n is f pc p k lk lp lt = call_sound fs code h l links c None None pc p k n is f tt tt lk lp lt
  simple_sound (t_assign z x sp) n is f pc p k lk lp lt = assign_sound z x pc p k n is.0 is.1 is.2 f.0 f.1.1 lk lp lt
  simple_sound (t_update o t z x sp) n is f pc p k lk lp lt = change_by_sound o t z x pc p k n sp is.3 is.0 is.1 is.2 f.0 f.1.1.0 f.1.1.1 lk lp lt
  simple_sound (t_step o t z sp) n is f pc p k lk lp lt = step_sound o t z pc p k n sp is.1 is.0 f lk lp lt

  -- ---- declarations

  zero_sound : (r : Rate) (t : Elem) (v k n : ℕ) → Granted h l (zero_asks r t v n) → k < h.masks → AreSound code h (zero_code l r t v k n)
  zero_sound Uniform t v k n f lk = (constant_sound code h t (l.variable Uniform v) 0 f, tt)
  zero_sound Varying t v k n f lk = go (l.kept Varying t 0) refl
    where
      go : (z : Bool) → l.kept Varying t 0 ≡ z → AreSound code h (zero_each l z t v k n)
      go true e = (copy_sound code h Varying t (l.variable Varying v) (l.constant Varying t 0) k f.1 (links.constants Varying t 0 e) lk, tt)
      go false e = (constant_sound code h t (l.spare Uniform t n) 0 f.0, (splat_sound code h t (l.variable Varying v) (l.spare Uniform t n) k f.1 f.0 lk, tt))

  item_sound : (x : TItem) (pc p k n : ℕ) → ItemTree fs x → Granted h l (item_asks n x) → k < h.masks → Named code h l p (item_places l x) → Here code h pc (item_code l x pc p k n)
  item_sound (t_plain v t sp) pc p k n is f lk lp = λ lt. zero_sound t.rate t.elem v k n f lk
  item_sound (t_with_value v t x sp) pc p k n is f lk lp = variable_sound t.rate t.elem v x pc p k n f.0 is.0 is.1 f.1 lk lp
  item_sound (t_with_size b sp) pc p k n is f lk lp = λ lt. ((((f.0.0, f.1, tt), ((refl, lk), tt)), tt), tt)

  pub items_sound : (xs : List TItem) (n : ℕ) → ItemsTree fs xs → Granted h l (items_asks n xs) → PartSound code h (items_places l xs) (λ pc p k. items_code l xs pc p k n)
  items_sound [] n is f pc p k lk lp = λ lt. tt
  items_sound (x ∷ xs) n is f pc p k lk lp =
      let px = item_places l x in
      let cx = item_code l x pc p k n in
      let pc1 = pc + length cx in
      here_both code h pc cx (items_code l xs pc1 (p + length px) k n)
      (item_sound x pc p k n is.0 f.0 lk (few_front (length code.places) p px (items_places l xs) lp))
      (items_sound xs n is.1 f.1 pc1 (p + length px) k lk (few_back (length code.places) p px (items_places l xs) lp))
