-- Two layouts in which what code asks for lies in the same registers: the code of what stands before a semicolon is the same.
use Rattle.std.proofs.Common.{◌≡◌, ℕ, ◌+◌, [], ◌∷◌, ◌++◌, length, None, Bool, true, false, not, refl, ap, ap₂, ◌∙◌}
use Rattle.isp_base.specs.Ranks.{same_elem}
use Rattle.isp_base.specs.declared.operators.BinOp.{BinOp}
use Rattle.isp_base.specs.declared.types.Elem.{Elem}
use Rattle.isp_base.specs.declared.types.Rate.{Rate}
use Rattle.isp_base.specs.declared.types.Rate.TheVariants.{Uniform, Varying}
use Rattle.isp_typed.specs.Typed.{TExpr, t_constant, t_program_index, t_place, t_convert, t_cast, t_unary, t_binary, t_compare, t_logic, t_choose, t_call, t_library, t_packed_store}
use Rattle.isp_typed.specs.Typed.{t_packed_load, TPlace, t_variable, t_element, TSimple, t_value, t_run, t_assign, t_update, t_step, place_type, type_of}
use Rattle.isp_lower_code.specs.Asks.{beyond, taken, work_asks, change_asks, one_asks, assign_asks, update_asks, step_asks, expr_asks, target_asks, simple_asks}
use Rattle.isp_lower_code.specs.Code.{expr_to, expr_code, index_code, variable_from, variable_code}
use Rattle.isp_lower_code.specs.Elements.{access, reached, read_from, write_from}
use Rattle.isp_lower_code.specs.Pieces.{two}
use Rattle.isp_lower_code.specs.Found.{part_to, lift_to, found, operand, operand_of}
use Rattle.isp_lower_code.specs.Instructions.{convert, operate, operate_places, copy}
use Rattle.isp_lower_code.specs.Known.{constant_of}
use Rattle.isp_lower_code.specs.Spans.{expr_places, index_places}
use Rattle.isp_lower_code.specs.Stays.{writes_part, writes_last}
use Rattle.isp_lower_code.specs.Layout.{Layout}
use Rattle.isp_lower_code.specs.Simple.{one_of, assign_code, update_to, change_code, change_by_code, one_in, one_code, step_code, simple_code, simple_places}
use Rattle.isp_emitter_laws.proofs.Same.{is_kept_same, Alike, SameIn, two_same, joined_same, part_same, lift_to_same, copied_same, found_same, operand_same, reached_same, read_from_same, write_from_same, short_same}
use Rattle.isp_emitter_laws.proofs.SameCode.{places_same, index_places_same, read_places_same, call_places_same, to_same, code_same, taken_same, target_same, call_same}

pub simple_places_same : (l m : Layout) (x : TSimple) → simple_places l x ≡ simple_places m x
simple_places_same l m (t_value x) = places_same l m x
simple_places_same l m (t_run c) = call_places_same l m c
simple_places_same l m (t_assign z x sp) =
    ap₂ (λ a b. a ++ b) (index_places_same l m z) (ap₂ (λ a b. a ++ b) (places_same l m x) (read_places_same l m z))
simple_places_same l m (t_update o t z x sp) =
    ap₂ (λ a b. a ++ b) (index_places_same l m z) (ap₂ (λ a b. a ++ (b ++ operate_places o sp)) (places_same l m x) (read_places_same l m z))
simple_places_same l m (t_step o t z sp) =
    ap₂ (λ a b. a ++ (b ++ operate_places o sp)) (index_places_same l m z) (read_places_same l m z)

module _ (l m : Layout) (alike : Alike l m) where
  -- ---- a variable gets a value

  part_same_writes : (r given : Rate) (a b : Bool) → a ≡ b → writes_part l r given a ≡ writes_part m r given b
  part_same_writes Uniform given a b e = e
  part_same_writes Varying Uniform a b e = refl
  part_same_writes Varying Varying a b e = e

  writes_same : (x : TExpr) → writes_last l x ≡ writes_last m x
  writes_same (t_constant v sp) = ap not (alike.kept Uniform v.elem v.bits)
  writes_same (t_program_index sp) = refl
  writes_same (t_place (t_variable v t sp)) = copied_same l m alike t.rate v
  writes_same (t_place (t_element b i t sp)) = refl
  writes_same (t_convert e x) = ap not (is_kept_same l m alike (constant_of x) (type_of x).rate e)
  writes_same (t_cast x t sp) =
      part_same_writes t.rate (type_of x).rate (writes_last l x) (writes_last m x) (writes_same x)
  writes_same (t_unary o x t sp) = refl
  writes_same (t_binary o x y t sp) = refl
  writes_same (t_compare c x y r sp) = refl
  writes_same (t_logic g x y r sp) = refl
  writes_same (t_choose c x y t sp) = short_same l m alike t.rate c x y
  writes_same (t_call c t) = refl
  writes_same (t_library g e xs t sp) = refl
  writes_same (t_packed_store b x sp) = refl
  writes_same (t_packed_load b v sp) = refl

  from_same : (b : Bool) (r : Rate) (d d' : ℕ) (x : TExpr) (pc p p' k n : ℕ) → d ≡ d' → p ≡ p' → SameIn l m (taken r x n (expr_asks x n)) → variable_from l b r d x pc p k n ≡ variable_from m b r d' x pc p' k n
  from_same true r d d' x pc p p' k n e ep f =
      let there = found_same l m alike x n f.1 in
      let given = (type_of x).rate in
      joined_same (expr_to l (part_to l r given d (found l x n)) x pc p k n) (expr_to m (part_to m r given d' (found m x n)) x pc p' k n) (lift_to l r given d (found l x n) k) (lift_to m r given d' (found m x n) k)
      (to_same l m alike (part_to l r given d (found l x n)) (part_to m r given d' (found m x n)) x pc p p' k n (part_same l m alike r given d d' (found l x n) (found m x n) e there) ep f.1)
      (lift_to_same l m alike r given d d' (found l x n) (found m x n) k e there)
  from_same false r d d' x pc p p' k n e ep f =
      joined_same (operand_of l r x k n (expr_code l x pc p k n)) (operand_of m r x k n (expr_code m x pc p' k n)) (copy r d (operand l r x n) k ∷ []) (copy r d' (operand m r x n) k ∷ [])
      (taken_same l m alike r x pc p p' k n ep f) (ap₂ (λ c z. copy r c z k ∷ []) e (operand_same l m alike r x n f))

  variable_same : (r : Rate) (v : ℕ) (x : TExpr) (pc p p' k n : ℕ) → p ≡ p' → l.variable r v ≡ m.variable r v → SameIn l m (taken r x n (expr_asks x n)) → variable_code l r v x pc p k n ≡ variable_code m r v x pc p' k n
  variable_same r v x pc p p' k n ep e f =
      ap (λ b. variable_from l b r (l.variable r v) x pc p k n) (part_same_writes r (type_of x).rate (writes_last l x) (writes_last m x) (writes_same x))
      ∙ from_same (writes_part m r (type_of x).rate (writes_last m x)) r (l.variable r v) (m.variable r v) x pc p p' k n e ep f

  assign_same : (z : TPlace) (x : TExpr) (pc p k n : ℕ) → SameIn l m (assign_asks z x n) → assign_code l z x pc p k n ≡ assign_code m z x pc p k n
  assign_same (t_variable v t sp) x pc p k n f = variable_same t.rate v x pc p p k n refl f.0 f.1.1
  assign_same (t_element b i t sp) x pc p k n f =
      let ei = ap (λ s. p + length s) (places_same l m i) in
      let ex = ap₂ (λ z s. z + length s) ei (places_same l m x) in
      let z = t_element b i t sp in
      let ol = λ (q : ℕ). operand_of l t.rate x k (n + 1) (expr_code l x q (p + length (expr_places l i)) k (n + 1)) in
      let om = λ (q : ℕ). operand_of m t.rate x k (n + 1) (expr_code m x q (p + length (expr_places m i)) k (n + 1)) in
      let al = reached l (access l b.ty.rate t.rate i n) t.rate i n in
      let am = reached m (access m b.ty.rate t.rate i n) t.rate i n in
      let pl = p + length (expr_places l i) + length (expr_places l x) in
      let pm = p + length (expr_places m i) + length (expr_places m x) in
      let wl = λ (q : ℕ). write_from l (access l b.ty.rate t.rate i n) (type_of i).elem t.rate (l.array b.number) al (operand l t.rate x (n + 1)) pl q k (n + 2) in
      let wm = λ (q : ℕ). write_from m (access m b.ty.rate t.rate i n) (type_of i).elem t.rate (m.array b.number) am (operand m t.rate x (n + 1)) pm q k (n + 2) in
      two_same pc (index_code l z pc p k n) (index_code m z pc p k n) (λ q. two q (ol q) wl) (λ q. two q (om q) wm) (target_same l m alike z pc p p k n refl f.0)
      (λ q. two_same q (ol q) (om q) wl wm (taken_same l m alike t.rate x q (p + length (expr_places l i)) (p + length (expr_places m i)) k (n + 1) ei f.1.1)
      (λ q2. write_from_same l m alike b.ty.rate t.rate i n (type_of i).elem (l.array b.number) (m.array b.number) al am (operand l t.rate x (n + 1))
      (operand m t.rate x (n + 1)) pl pm q2 q2 k (n + 2) f.0.0 (reached_same l m alike b.ty.rate t.rate i n f.0.1) (operand_same l m alike t.rate x (n + 1) f.1.1) ex))

  -- ---- a place is changed

  update_same : (b : Bool) (o : BinOp) (t : Elem) (r : Rate) (d d' h h' y y' k i p p' : ℕ) → d ≡ d' → h ≡ h' → y ≡ y' → p ≡ p' → SameIn l m (work_asks b r t i) → update_to l b o t r d h y k i p ≡ update_to m b o t r d' h' y' k i p'
  update_same true o t r d d' h h' y y' k i p p' ed eh ey ep f =
      ap₂ (λ a b. operate r o a b y k p ∷ []) ed eh ∙ ap₂ (λ a b. operate r o d' h' a k b ∷ []) ey ep
  update_same false o t r d d' h h' y y' k i p p' ed eh ey ep f =
      ap₂ (λ a b. convert r a b k ∷ (operate r o a a y k p ∷ convert r d a k ∷ [])) f eh
      ∙ ap₂ (λ a b. convert r (m.spare r t i) h' k ∷ (operate r o (m.spare r t i) (m.spare r t i) a k b ∷ convert r d (m.spare r t i) k ∷ [])) ey ep
      ∙ ap (λ a. convert r (m.spare r t i) h' k ∷ (operate r o (m.spare r t i) (m.spare r t i) y' k p' ∷ convert r a (m.spare r t i) k ∷ [])) ed

  change_same : (o : BinOp) (t : Elem) (z : TPlace) (y y' pc p p' k n i : ℕ) → y ≡ y' → p ≡ p' → SameIn l m (target_asks z n) → SameIn l m (change_asks t z i) → change_code l o t z y pc p k n i ≡ change_code m o t z y' pc p' k n i
  change_same o t (t_variable v u sp) y y' pc p p' k n i ey ep f g =
      update_same (same_elem u.elem t) o t u.rate (l.variable u.rate v) (m.variable u.rate v) (l.variable u.rate v) (m.variable u.rate v) y y' k i p p' f f ey ep g.0
  change_same o t (t_element b j u sp) y y' pc p p' k n i ey ep f g =
      let c = l.spare u.rate u.elem i in
      let d = m.spare u.rate u.elem i in
      let al = reached l (access l b.ty.rate u.rate j n) u.rate j n in
      let am = reached m (access m b.ty.rate u.rate j n) u.rate j n in
      let ex = reached_same l m alike b.ty.rate u.rate j n f.1 in
      let rl = read_from l (access l b.ty.rate u.rate j n) (type_of j).elem u.rate c (l.array b.number) al p pc k (i + 1) in
      let rm = read_from m (access m b.ty.rate u.rate j n) (type_of j).elem u.rate d (m.array b.number) am p' pc k (i + 1) in
      let ul = update_to l (same_elem u.elem t) o t u.rate c c y k i (p + 1) in
      let um = update_to m (same_elem u.elem t) o t u.rate d d y' k i (p' + 1) in
      let wl = λ (q : ℕ). write_from l (access l b.ty.rate u.rate j n) (type_of j).elem u.rate (l.array b.number) al c p q k (i + 1) in
      let wm = λ (q : ℕ). write_from m (access m b.ty.rate u.rate j n) (type_of j).elem u.rate (m.array b.number) am d p' q k (i + 1) in
      two_same pc rl rm (λ q. two q ul wl) (λ q. two q um wm)
      (read_from_same l m alike b.ty.rate u.rate j n (type_of j).elem c d (l.array b.number) (m.array b.number) al am p p' pc pc k (i + 1) g.1 f.0 ex ep)
      (λ q. two_same q ul um wl wm (update_same (same_elem u.elem t) o t u.rate c d c d y y' k i (p + 1) (p' + 1) g.1 g.1 ey (ap (λ a. a + 1) ep) g.0)
      (λ q2. write_from_same l m alike b.ty.rate u.rate j n (type_of j).elem (l.array b.number) (m.array b.number) al am c d p p' q2 q2 k (i + 1) f.0 ex g.1 ep))

  update_code_same : (o : BinOp) (t : Elem) (z : TPlace) (x : TExpr) (pc p k n : ℕ) → SameIn l m (update_asks t z x n) → change_by_code l o t z x pc p k n ≡ change_by_code m o t z x pc p k n
  update_code_same o t z x pc p k n f =
      let r = (place_type z).rate in
      let i = beyond z n in
      let ez = ap (λ s. p + length s) (index_places_same l m z) in
      let ex = ap₂ (λ a s. a + length s) ez (places_same l m x) in
      let ol = λ (q : ℕ). operand_of l r x k i (expr_code l x q (p + length (index_places l z)) k i) in
      let om = λ (q : ℕ). operand_of m r x k i (expr_code m x q (p + length (index_places m z)) k i) in
      let pl = p + length (index_places l z) + length (expr_places l x) in
      let pm = p + length (index_places m z) + length (expr_places m x) in
      let cl = λ (q : ℕ). change_code l o t z (operand l r x i) q pl k n (i + 1) in
      let cm = λ (q : ℕ). change_code m o t z (operand m r x i) q pm k n (i + 1) in
      two_same pc (index_code l z pc p k n) (index_code m z pc p k n) (λ q. two q (ol q) cl) (λ q. two q (om q) cm) (target_same l m alike z pc p p k n refl f.0)
      (λ q. two_same q (ol q) (om q) cl cm (taken_same l m alike r x q (p + length (index_places l z)) (p + length (index_places m z)) k i ez f.1.1.0)
      (λ q2. change_same o t z (operand l r x i) (operand m r x i) q2 pl pm k n (i + 1) (operand_same l m alike r x i f.1.1.0) ex f.0 f.1.1.1))

  -- the number 1 at a rate
  one_in_same : (r : Rate) (t : Elem) (i : ℕ) → SameIn l m (one_asks r t i) → one_in l r t i ≡ one_in m r t i
  one_in_same r t i f = operand_same l m alike r (one_of t) i (f.1, f.0)

  one_code_same : (r : Rate) (t : Elem) (k i : ℕ) → SameIn l m (one_asks r t i) → one_code l r t k i ≡ one_code m r t k i
  one_code_same r t k i f = taken_same l m alike r (one_of t) 0 0 0 k i refl (f.1, f.0)

  step_same : (o : BinOp) (t : Elem) (z : TPlace) (pc p k n : ℕ) → SameIn l m (step_asks t z n) → step_code l o t z pc p k n ≡ step_code m o t z pc p k n
  step_same o t z pc p k n f =
      let r = (place_type z).rate in
      let i = beyond z n in
      let ez = ap (λ s. p + length s) (index_places_same l m z) in
      let pl = p + length (index_places l z) in
      let pm = p + length (index_places m z) in
      let cl = λ (q : ℕ). change_code l o t z (one_in l r t i) q pl k n (i + 1) in
      let cm = λ (q : ℕ). change_code m o t z (one_in m r t i) q pm k n (i + 1) in
      two_same pc (index_code l z pc p k n) (index_code m z pc p k n) (λ q. two q (one_code l r t k i) cl) (λ q. two q (one_code m r t k i) cm) (target_same l m alike z pc p p k n refl f.0)
      (λ q. two_same q (one_code l r t k i) (one_code m r t k i) cl cm (one_code_same r t k i f.1.1.0)
      (λ q2. change_same o t z (one_in l r t i) (one_in m r t i) q2 pl pm k n (i + 1) (one_in_same r t i f.1.1.0) ez f.0 f.1.1.1))

  pub simple_same : (x : TSimple) (pc p k n : ℕ) → SameIn l m (simple_asks x n) → simple_code l x pc p k n ≡ simple_code m x pc p k n
  simple_same (t_value x) pc p k n f = code_same l m alike x pc p p k n refl f
  simple_same (t_run c) pc p k n f = call_same l m alike None None c pc p p k n refl refl f
  simple_same (t_assign z x sp) pc p k n f = assign_same z x pc p k n f
  simple_same (t_update o t z x sp) pc p k n f = update_code_same o t z x pc p k n f
  simple_same (t_step o t z sp) pc p k n f = step_same o t z pc p k n f
