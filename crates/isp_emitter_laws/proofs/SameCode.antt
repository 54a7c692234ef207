-- Two layouts in which what code asks for lies in the same registers: the code of expressions is the same.
use Rattle.std.proofs.Common.{◌≡◌, ℕ, ◌+◌, List, [], ◌∷◌, ◌++◌, length, Option, Some, Bool, true, false, refl, ap, ap₂, ◌∙◌}
use Rattle.isp_base.specs.declared.types.Elem.{Elem}
use Rattle.isp_base.specs.declared.types.Elem.TheVariants.{Bool as Truth, I64}
use Rattle.isp_base.specs.declared.types.Rate.{Rate}
use Rattle.isp_base.specs.declared.types.Rate.TheVariants.{Uniform, Varying}
use Rattle.isp_base.specs.declared.types.Ty.{Ty}
use Rattle.isp_code.specs.declared.instr.Instr.{Instr}
use Rattle.isp_code.specs.declared.instr.Instr.TheVariants as instr
use Rattle.isp_code.specs.declared.instr.JumpTest.TheVariants as jump
use Rattle.isp_code.specs.declared.register.Register.{Register}
use Rattle.isp_typed.specs.Typed.{TExpr, t_constant, t_program_index, t_place, t_convert, t_cast, t_unary, t_binary, t_compare, t_logic, t_choose, t_call, t_library}
use Rattle.isp_typed.specs.Typed.{t_packed_store, t_packed_load, TPlace, t_variable, t_element, TBase, t_whole, t_from, base_array, TArgument, t_by_value, t_by_name, TCall}
use Rattle.isp_typed.specs.Typed.{t_called, TArguments, t_no_arguments, t_argument_then, TExprs, t_no_exprs, t_expr_then, type_of}
use Rattle.isp_typed.specs.declared.variable.Logic.{Logic}
use Rattle.isp_lower_code.specs.Asks.{taken, first_slot, second_slot, expr_asks, target_asks, first_asks, values_asks, call_asks, arguments_asks, argument_asks}
use Rattle.isp_lower_code.specs.Callees.{next_rate, later}
use Rattle.isp_lower_code.specs.Code.{read_code, choose_code, choose_to, value_registers, argument_register, argument_registers, calling, base_register, expr_to, index_code, base_code, values_code, call_code, arguments_code, argument_code, expr_code}
use Rattle.isp_lower_code.specs.Found.{part_to, lift_to, found, operand, operand_of, is_kept, convert_to}
use Rattle.isp_lower_code.specs.Instructions.{constant, unary, compare, operate, operate_places, packed_store, packed_load, copy, select, where_so, the_others, jump_off, jump_on}
use Rattle.isp_lower_code.specs.Known.{constant_of, unless_kept}
use Rattle.isp_lower_code.specs.Pieces.{guard, choice, needing, decided, logic_code, choose_rest, move_code}
use Rattle.isp_lower_code.specs.Spans.{expr_places, index_places, read_places, base_places, values_places, call_places, arguments_places, argument_places}
use Rattle.isp_lower_code.specs.Stays.{is_short}
use Rattle.isp_lower_code.specs.Layout.{Layout, register, array_register, mask_register}
use Rattle.isp_lower_code.specs.Library.{library_code, library_rates}
use Rattle.isp_registers.specs.Reserved.{choice_asks}
use Rattle.isp_emitter_laws.proofs.Same.{is_kept_same, Alike, SameIn, two_same, guard_same, choice_same, joined_same, pair_same, part_same, lift_to_same, convert_same, found_same, operand_same}
use Rattle.isp_emitter_laws.proofs.Same.{operand_of_same, argument_found, argument_of_same, index_same, index_of_same, reached_of_same, read_same, short_same, sides_found}

-- ---- the places that code names are the same in all layouts

module _ (l m : Layout) where
  mutual
    pub places_same : (x : TExpr) → expr_places l x ≡ expr_places m x
    places_same (t_constant v sp) = refl
    places_same (t_program_index sp) = refl
    places_same (t_place q) = ap₂ (λ a b. a ++ b) (index_places_same q) (read_places_same q)
    places_same (t_convert e x) = places_same x
    places_same (t_cast x t sp) = places_same x
    places_same (t_unary o x t sp) = places_same x
    places_same (t_binary o x y t sp) = ap₂ (λ a b. a ++ (b ++ operate_places o sp)) (places_same x) (places_same y)
    places_same (t_compare c x y r sp) = ap₂ (λ a b. a ++ b) (places_same x) (places_same y)
    places_same (t_logic g x y r sp) = ap₂ (λ a b. a ++ b) (places_same x) (places_same y)
    places_same (t_choose c x y t sp) = ap₂ (λ a b. a ++ b) (places_same c) (ap₂ (λ a b. a ++ b) (places_same x) (places_same y))
    places_same (t_call c t) = call_places_same c
    places_same (t_library f e xs t sp) = values_places_same xs
    places_same (t_packed_store b x sp) = ap₂ (λ a z. a ++ (z ++ sp ∷ [])) (base_places_same b) (places_same x)
    places_same (t_packed_load b v sp) = ap (λ a. a ++ sp ∷ []) (base_places_same b)

    pub index_places_same : (z : TPlace) → index_places l z ≡ index_places m z
    index_places_same (t_variable v t sp) = refl
    index_places_same (t_element b i t sp) = places_same i

    pub read_places_same : (z : TPlace) → read_places l z ≡ read_places m z
    read_places_same (t_variable v t sp) = refl
    read_places_same (t_element b i t sp) = refl

    pub base_places_same : (b : TBase) → base_places l b ≡ base_places m b
    base_places_same (t_whole b sp) = refl
    base_places_same (t_from b i sp) = places_same i

    values_places_same : (xs : TExprs) → values_places l xs ≡ values_places m xs
    values_places_same t_no_exprs = refl
    values_places_same (t_expr_then x xs) = ap₂ (λ a b. a ++ b) (places_same x) (values_places_same xs)

    pub call_places_same : (c : TCall) → call_places l c ≡ call_places m c
    call_places_same (t_called f xs sp) = ap (λ a. a ++ sp ∷ []) (arguments_places_same xs)

    pub arguments_places_same : (xs : TArguments) → arguments_places l xs ≡ arguments_places m xs
    arguments_places_same t_no_arguments = refl
    arguments_places_same (t_argument_then x xs) = ap₂ (λ a b. a ++ b) (argument_places_same x) (arguments_places_same xs)

    pub argument_places_same : (x : TArgument) → argument_places l x ≡ argument_places m x
    argument_places_same (t_by_value x) = places_same x
    argument_places_same (t_by_name b sp) = refl

-- ---- pieces

logic_same : (r : Rate) (g : Logic) (d d' x x' y y' pc k n : ℕ) (a a' : List Instr) (b b' : ℕ → ℕ → List Instr) → d ≡ d' → x ≡ x' → y ≡ y' → a ≡ a'
    → ((q j : ℕ) → b q j ≡ b' q j) → logic_code r g d x y pc k n a b ≡ logic_code r g d' x' y' pc k n a' b'
logic_same Uniform g d d' x x' y y' pc k n a a' b b' ed ex ey ea eb =
    two_same pc (a ++ move_code Uniform d x k) (a' ++ move_code Uniform d' x' k) (λ p. guard (jump_on (decided g) d) p (λ q. b q k ++ copy Uniform d y k ∷ [])) (λ p. guard (jump_on (decided g) d') p (λ q. b' q k ++ copy Uniform d' y' k ∷ []))
    (joined_same a a' (move_code Uniform d x k) (move_code Uniform d' x' k) ea (ap₂ (λ c z. move_code Uniform c z k) ed ex))
    (λ p. guard_same (jump_on (decided g) d) (jump_on (decided g) d') p (λ q. b q k ++ copy Uniform d y k ∷ [])
    (λ q. b' q k ++ copy Uniform d' y' k ∷ []) (ap (jump_on (decided g)) ed)
    (λ q. joined_same (b q k) (b' q k) (copy Uniform d y k ∷ []) (copy Uniform d' y' k ∷ []) (eb q k)
    (ap₂ (λ c z. copy Uniform c z k ∷ []) ed ey)))
logic_same Varying g d d' x x' y y' pc k n a a' b b' ed ex ey ea eb =
    two_same pc (a ++ (move_code Varying d x k ++ needing g n d k)) (a' ++ (move_code Varying d' x' k ++ needing g n d' k))
    (λ p. guard (jump_off n) p (λ q. b q n ++ copy Varying d y n ∷ [])) (λ p. guard (jump_off n) p (λ q. b' q n ++ copy Varying d' y' n ∷ []))
    (joined_same a a' (move_code Varying d x k ++ needing g n d k) (move_code Varying d' x' k ++ needing g n d' k) ea (ap₂ (λ c z. move_code Varying c z k ++ needing g n c k) ed ex))
    (λ p. guard_same (jump_off n) (jump_off n) p (λ q. b q n ++ copy Varying d y n ∷ []) (λ q. b' q n ++ copy Varying d' y' n ∷ []) refl
    (λ q. joined_same (b q n) (b' q n) (copy Varying d y n ∷ []) (copy Varying d' y' n ∷ []) (eb q n)
    (ap₂ (λ c z. copy Varying c z n ∷ []) ed ey)))

rest_same : (d d' c c' x x' y y' pc k n : ℕ) (a a' b b' : ℕ → ℕ → ℕ → List Instr) → d ≡ d' → c ≡ c' → x ≡ x' → y ≡ y'
    → ((q j : ℕ) → a q j (n + 1) ≡ a' q j (n + 1)) → ((q j : ℕ) → b q j (n + 2) ≡ b' q j (n + 2))
    → choose_rest d c x y pc k n a b ≡ choose_rest d' c' x' y' pc k n a' b'
rest_same d d' c c' x x' y y' pc k n a a' b b' ed ec ex ey ea eb =
    ap₂ (λ z w. where_so n z k ∷ w) ec
    (two_same (pc + 1) (guard (jump_off n) (pc + 1) (λ q. a q n (n + 1))) (guard (jump_off n) (pc + 1) (λ q. a' q n (n + 1)))
    (λ p. the_others (n + 1) k n ∷ (guard (jump_off (n + 1)) (p + 1) (λ q. b q (n + 1) (n + 2)) ++ select Varying d c x y k ∷ []))
    (λ p. the_others (n + 1) k n ∷ (guard (jump_off (n + 1)) (p + 1) (λ q. b' q (n + 1) (n + 2)) ++ select Varying d' c' x' y' k ∷ []))
    (guard_same (jump_off n) (jump_off n) (pc + 1) (λ q. a q n (n + 1)) (λ q. a' q n (n + 1)) refl (λ q. ea q n))
    (λ p. ap (λ w. the_others (n + 1) k n ∷ w)
    (joined_same (guard (jump_off (n + 1)) (p + 1) (λ q. b q (n + 1) (n + 2))) (guard (jump_off (n + 1)) (p + 1) (λ q. b' q (n + 1) (n + 2))) (select Varying d c x y k ∷ []) (select Varying d' c' x' y' k ∷ [])
    (guard_same (jump_off (n + 1)) (jump_off (n + 1)) (p + 1) (λ q. b q (n + 1) (n + 2)) (λ q. b' q (n + 1) (n + 2)) refl (λ q. eb q (n + 1)))
    (ap₂ (λ u v. select Varying u v x y k ∷ []) ed ec ∙ ap₂ (λ u v. select Varying d' c' u v k ∷ []) ex ey))))

move_same : (r : Rate) (d d' x x' k : ℕ) → d ≡ d' → x ≡ x' → move_code r d x k ≡ move_code r d' x' k
move_same r d d' x x' k ed ex = ap₂ (λ c z. move_code r c z k) ed ex

module _ (l m : Layout) (alike : Alike l m) where
  choose_same : (R r : Rate) (t : Elem) (x y : TExpr) (c c' pc k n : ℕ) (a a' : List Instr) (f f' g g' : ℕ → ℕ → ℕ → List Instr)
      → l.spare r t n ≡ m.spare r t n → c ≡ c' → a ≡ a' → operand l r x (first_slot R n) ≡ operand m r x (first_slot R n)
      → operand l r y (second_slot R n) ≡ operand m r y (second_slot R n) → ((q j : ℕ) → f q j (first_slot R n) ≡ f' q j (first_slot R n))
      → ((q j : ℕ) → g q j (second_slot R n) ≡ g' q j (second_slot R n))
      → choose_code l R r t x y c pc k n a f g ≡ choose_code m R r t x y c' pc k n a' f' g'
  choose_same Uniform r t x y c c' pc k n a a' f f' g g' ed ec ea ex ey ef eg =
      two_same pc a a' (λ p. choice (jump_on jump.False c) p (λ q. f q k n ++ move_code r (l.spare r t n) (operand l r x n) k)
      (λ q. g q k n ++ move_code r (l.spare r t n) (operand l r y n) k))
      (λ p. choice (jump_on jump.False c') p (λ q. f' q k n ++ move_code r (m.spare r t n) (operand m r x n) k)
      (λ q. g' q k n ++ move_code r (m.spare r t n) (operand m r y n) k)) ea
      (λ p. choice_same (jump_on jump.False c) (jump_on jump.False c') p (λ q. f q k n ++ move_code r (l.spare r t n) (operand l r x n) k)
      (λ q. f' q k n ++ move_code r (m.spare r t n) (operand m r x n) k) (λ q. g q k n ++ move_code r (l.spare r t n) (operand l r y n) k)
      (λ q. g' q k n ++ move_code r (m.spare r t n) (operand m r y n) k) (ap (jump_on jump.False) ec)
      (λ q. joined_same (f q k n) (f' q k n) (move_code r (l.spare r t n) (operand l r x n) k) (move_code r (m.spare r t n) (operand m r x n) k) (ef q k) (move_same r (l.spare r t n) (m.spare r t n) (operand l r x n) (operand m r x n) k ed ex))
      (λ q. joined_same (g q k n) (g' q k n) (move_code r (l.spare r t n) (operand l r y n) k) (move_code r (m.spare r t n) (operand m r y n) k) (eg q k) (move_same r (l.spare r t n) (m.spare r t n) (operand l r y n) (operand m r y n) k ed ey)))
  choose_same Varying r t x y c c' pc k n a a' f f' g g' ed ec ea ex ey ef eg =
      two_same pc a a' (λ p. choose_rest (l.spare r t n) c (operand l r x (n + 1)) (operand l r y (n + 2)) p k n f g) (λ p. choose_rest (m.spare r t n) c' (operand m r x (n + 1)) (operand m r y (n + 2)) p k n f' g') ea
      (λ p. rest_same (l.spare r t n) (m.spare r t n) c c' (operand l r x (n + 1)) (operand m r x (n + 1)) (operand l r y (n + 2)) (operand m r y (n + 2)) p k n f f' g g' ed ec ex ey ef eg)

  choose_to_same : (d d' : ℕ) (c x y : TExpr) (t : Ty) (pc k n : ℕ) (a a' : List Instr) (f f' g g' : ℕ → ℕ → ℕ → List Instr)
      → SameIn l m (choice_asks t c x y n) → d ≡ d' → a ≡ a'
      → ((q j : ℕ) → f q j (first_slot (type_of c).rate n) ≡ f' q j (first_slot (type_of c).rate n))
      → ((q j : ℕ) → g q j (second_slot (type_of c).rate n) ≡ g' q j (second_slot (type_of c).rate n))
      → choose_to l (is_short l t.rate c x y) d c x y t pc k n a f g ≡ choose_to m (is_short m t.rate c x y) d' c x y t pc k n a' f' g'
  choose_to_same d d' c x y t pc k n a a' f f' g g' h e ea ef eg =
      ap (λ b. choose_to l b d c x y t pc k n a f g) (short_same l m alike t.rate c x y) ∙ go (is_short m t.rate c x y) refl
    where
      go : (b : Bool) → is_short m t.rate c x y ≡ b → choose_to l b d c x y t pc k n a f g ≡ choose_to m b d' c x y t pc k n a' f' g'
      go true is =
          let sides = sides_found l m alike t.rate c x y (first_slot (type_of c).rate n) (second_slot (type_of c).rate n) n is h.1.1.0.1 h.1.1.1.0.1 in
          joined_same a a' (select t.rate d (found l c n) (found l x n) (found l y n) k ∷ []) (select t.rate d' (found m c n) (found m x n) (found m y n) k ∷ []) ea
          (ap₂ (λ u v. select t.rate u v (found l x n) (found l y n) k ∷ []) e (found_same l m alike c n h.1.0) ∙ ap₂ (λ u v. select t.rate d' (found m c n) u v k ∷ []) sides.0 sides.1)
      go false is =
          choose_same (type_of c).rate t.rate t.elem x y (found l c n) (found m c n) pc k n a a' f f' g g' h.0 (found_same l m alike c n h.1.0) ea
          (operand_same l m alike t.rate x (first_slot (type_of c).rate n) h.1.1.0)
          (operand_same l m alike t.rate y (second_slot (type_of c).rate n) h.1.1.1.0) ef eg

  -- ---- registers in a row

  registers_same : (rs : List Rate) (xs : TExprs) (n : ℕ) → SameIn l m (values_asks rs xs n) → value_registers l rs xs n ≡ value_registers m rs xs n
  registers_same rs t_no_exprs n f = refl
  registers_same rs (t_expr_then x xs) n f =
      ap₂ (λ a b. a ∷ b) (operand_same l m alike (next_rate rs) x n f.1.0) (registers_same (later rs) xs (n + 1) f.1.1)

  argument_register_same : (r : Rate) (x : TArgument) (n : ℕ) → SameIn l m (argument_asks x n) → argument_register l r x n ≡ argument_register m r x n
  argument_register_same r (t_by_value x) n f = ap (register r) (argument_found l m alike r x n f)
  argument_register_same r (t_by_name b sp) n f = ap array_register f

  argument_registers_same : (rs : List Rate) (xs : TArguments) (n : ℕ) → SameIn l m (arguments_asks xs n) → argument_registers l rs xs n ≡ argument_registers m rs xs n
  argument_registers_same rs t_no_arguments n f = refl
  argument_registers_same rs (t_argument_then x xs) n f =
      ap₂ (λ a b. a ∷ b) (argument_register_same (next_rate rs) x n f.1.0) (argument_registers_same (later rs) xs (n + 1) f.1.1)

  calling_same : (d d' : Option Register) (f : ℕ) (xs : TArguments) (p p' k n : ℕ) → d ≡ d' → p ≡ p' → SameIn l m (arguments_asks xs n) → calling l d f xs p k n ≡ calling m d' f xs p' k n
  calling_same d d' f xs p p' k n ed ep h =
      let go = λ (c : Option Register) (q : ℕ) (zs : List Register). instr.Call (record { function = f; result = c; mask = mask_register k; place = q; arguments = zs }) in
      ap₂ (λ c q. go c q (argument_registers l (l.rates f) xs n)) ed ep
      ∙ ap (go d' p') (argument_registers_same (l.rates f) xs n h ∙ ap (λ (rs : ℕ → List Rate). argument_registers m (rs f) xs n) alike.rates)

  base_register_same : (b : TBase) (n : ℕ) → SameIn l m (first_asks b n) → base_register l b n ≡ base_register m b n
  base_register_same (t_whole b sp) n f = f
  base_register_same (t_from b i sp) n f = index_same l m alike Uniform i n f

  -- ---- code

  -- where the places before it are
  later_place : (p : ℕ) (x : TExpr) → p + length (expr_places l x) ≡ p + length (expr_places m x)
  later_place p x = ap (λ s. p + length s) (places_same l m x)

  mutual
    pub to_same : (d d' : ℕ) (x : TExpr) (pc p p' k n : ℕ) → d ≡ d' → p ≡ p' → SameIn l m (expr_asks x n) → expr_to l d x pc p k n ≡ expr_to m d' x pc p' k n
    to_same d d' (t_constant v sp) pc p p' k n e ep f = ap₂ (λ z c. unless_kept z (constant c v.elem v.bits ∷ [])) (alike.kept Uniform v.elem v.bits) e
    to_same d d' (t_program_index sp) pc p p' k n e ep f = ap (λ c. expr_to m c (t_program_index sp) pc p k n) e
    to_same d d' (t_place q) pc p p' k n e ep f =
        let pc1 = pc + length (index_code l q pc p k n) in
        let pc2 = pc + length (index_code m q pc p' k n) in
        joined_same (index_code l q pc p k n) (index_code m q pc p' k n) (read_code l d q pc1 (p + length (index_places l q)) k n) (read_code m d' q pc2 (p' + length (index_places m q)) k n) (target_same q pc p p' k n ep f.0)
        (ap (λ z. read_code l d q pc1 z k n) (ap₂ (λ z s. z + length s) ep (index_places_same l m q)) ∙ read_same l m alike d d' q pc1 pc2 (p' + length (index_places m q)) k n e f.0)
    to_same d d' (t_convert t x) pc p p' k n e ep f =
        ap (λ z. unless_kept z (convert_to l (constant_of x) t (type_of x).rate d (found l x n) k (expr_code l x pc p k n))) (is_kept_same l m alike (constant_of x) (type_of x).rate t)
        ∙ ap (unless_kept (is_kept m (constant_of x) (type_of x).rate t))
        (convert_same l m alike (constant_of x) t (type_of x).rate d d' (found l x n) (found m x n) k (expr_code l x pc p k n)
        (expr_code m x pc p' k n) e (found_same l m alike x n f.1) (to_same _ _ x pc p p' k n (found_same l m alike x n f.1) ep f.1))
    to_same d d' (t_cast x t sp) pc p p' k n e ep f =
        let there = found_same l m alike x n f.1 in
        joined_same (expr_to l (part_to l t.rate (type_of x).rate d (found l x n)) x pc p k n)
        (expr_to m (part_to m t.rate (type_of x).rate d' (found m x n)) x pc p' k n) (lift_to l t.rate (type_of x).rate d (found l x n) k)
        (lift_to m t.rate (type_of x).rate d' (found m x n) k)
        (to_same (part_to l t.rate (type_of x).rate d (found l x n)) (part_to m t.rate (type_of x).rate d' (found m x n)) x pc p p' k n (part_same l m alike t.rate (type_of x).rate d d' (found l x n) (found m x n) e there) ep f.1)
        (lift_to_same l m alike t.rate (type_of x).rate d d' (found l x n) (found m x n) k e there)
    to_same d d' (t_unary o x t sp) pc p p' k n e ep f =
        joined_same (operand_of l t.rate x k n (expr_code l x pc p k n)) (operand_of m t.rate x k n (expr_code m x pc p' k n)) (unary t.rate o d (operand l t.rate x n) k ∷ []) (unary t.rate o d' (operand m t.rate x n) k ∷ [])
        (operand_of_same l m alike t.rate x k n _ _ f.1 (to_same _ _ x pc p p' k n (found_same l m alike x n f.1.1) ep f.1.1)) (ap₂ (λ c z. unary t.rate o c z k ∷ []) e (operand_same l m alike t.rate x n f.1))
    to_same d d' (t_binary o x y t sp) pc p p' k n e ep f =
        let ex = ap₂ (λ z s. z + length s) ep (places_same l m x) in
        pair_same pc (operand_of l t.rate x k n (expr_code l x pc p k n)) (operand_of m t.rate x k n (expr_code m x pc p' k n))
        (λ q. operand_of l t.rate y k (n + 1) (expr_code l y q (p + length (expr_places l x)) k (n + 1)))
        (λ q. operand_of m t.rate y k (n + 1) (expr_code m y q (p' + length (expr_places m x)) k (n + 1)))
        (operate t.rate o d (operand l t.rate x n) (operand l t.rate y (n + 1)) k (p + length (expr_places l x) + length (expr_places l y)))
        (operate t.rate o d' (operand m t.rate x n) (operand m t.rate y (n + 1)) k (p' + length (expr_places m x) + length (expr_places m y)))
        (operand_of_same l m alike t.rate x k n _ _ f.1.1.0 (to_same _ _ x pc p p' k n (found_same l m alike x n f.1.1.0.1) ep f.1.1.0.1))
        (λ q. operand_of_same l m alike t.rate y k (n + 1) _ _ f.1.1.1 (to_same _ _ y q (p + length (expr_places l x)) (p' + length (expr_places m x)) k (n + 1) (found_same l m alike y (n + 1) f.1.1.1.1) ex f.1.1.1.1))
        (ap₂ (λ c z. operate t.rate o c z (operand l t.rate y (n + 1)) k (p + length (expr_places l x) + length (expr_places l y))) e
        (operand_same l m alike t.rate x n f.1.1.0) ∙ ap₂ (λ z w. operate t.rate o d' (operand m t.rate x n) z k w)
        (operand_same l m alike t.rate y (n + 1) f.1.1.1) (ap₂ (λ z s. z + length s) ex (places_same l m y)))
    to_same d d' (t_compare c x y r sp) pc p p' k n e ep f =
        let ex = ap₂ (λ z s. z + length s) ep (places_same l m x) in
        pair_same pc (operand_of l r x k n (expr_code l x pc p k n)) (operand_of m r x k n (expr_code m x pc p' k n))
        (λ q. operand_of l r y k (n + 1) (expr_code l y q (p + length (expr_places l x)) k (n + 1)))
        (λ q. operand_of m r y k (n + 1) (expr_code m y q (p' + length (expr_places m x)) k (n + 1)))
        (compare r c d (operand l r x n) (operand l r y (n + 1)) k) (compare r c d' (operand m r x n) (operand m r y (n + 1)) k)
        (operand_of_same l m alike r x k n _ _ f.1.1.0 (to_same _ _ x pc p p' k n (found_same l m alike x n f.1.1.0.1) ep f.1.1.0.1))
        (λ q. operand_of_same l m alike r y k (n + 1) _ _ f.1.1.1 (to_same _ _ y q (p + length (expr_places l x)) (p' + length (expr_places m x)) k (n + 1) (found_same l m alike y (n + 1) f.1.1.1.1) ex f.1.1.1.1))
        (ap₂ (λ z w. compare r c z w (operand l r y (n + 1)) k) e (operand_same l m alike r x n f.1.1.0) ∙ ap (λ z. compare r c d' (operand m r x n) z k) (operand_same l m alike r y (n + 1) f.1.1.1))
    to_same d d' (t_logic g x y r sp) pc p p' k n e ep f =
        let ex = ap₂ (λ z s. z + length s) ep (places_same l m x) in
        logic_same r g (l.spare r Truth n) (m.spare r Truth n) (operand l r x n) (operand m r x n) (operand l r y (n + 1)) (operand m r y (n + 1)) pc
        k n (operand_of l r x k n (expr_code l x pc p k n)) (operand_of m r x k n (expr_code m x pc p' k n))
        (λ q j. operand_of l r y j (n + 1) (expr_code l y q (p + length (expr_places l x)) j (n + 1)))
        (λ q j. operand_of m r y j (n + 1) (expr_code m y q (p' + length (expr_places m x)) j (n + 1)))
        f.0 (operand_same l m alike r x n f.1.1.1.0) (operand_same l m alike r y (n + 1) f.1.1.1.1) (operand_of_same l m alike r x k n _ _ f.1.1.1.0 (to_same _ _ x pc p p' k n (found_same l m alike x n f.1.1.1.0.1) ep f.1.1.1.0.1))
        (λ q j. operand_of_same l m alike r y j (n + 1) _ _ f.1.1.1.1 (to_same _ _ y q (p + length (expr_places l x)) (p' + length (expr_places m x)) j (n + 1) (found_same l m alike y (n + 1) f.1.1.1.1.1) ex f.1.1.1.1.1))
    to_same d d' (t_choose c x y t sp) pc p p' k n e ep f =
        let ec = ap₂ (λ z s. z + length s) ep (places_same l m c) in
        let ex = ap₂ (λ z s. z + length s) ec (places_same l m x) in
        choose_to_same d d' c x y t pc k n (expr_code l c pc p k n) (expr_code m c pc p' k n)
        (λ q a z. operand_of l t.rate x a z (expr_code l x q (p + length (expr_places l c)) a z))
        (λ q a z. operand_of m t.rate x a z (expr_code m x q (p' + length (expr_places m c)) a z))
        (λ q a z. operand_of l t.rate y a z (expr_code l y q (p + length (expr_places l c) + length (expr_places l x)) a z))
        (λ q a z. operand_of m t.rate y a z (expr_code m y q (p' + length (expr_places m c) + length (expr_places m x)) a z))
        f e (to_same _ _ c pc p p' k n (found_same l m alike c n f.1.0) ep f.1.0)
        (λ q a. operand_of_same l m alike t.rate x a (first_slot (type_of c).rate n) _ _ f.1.1.0
        (to_same _ _ x q (p + length (expr_places l c)) (p' + length (expr_places m c)) a (first_slot (type_of c).rate n)
        (found_same l m alike x (first_slot (type_of c).rate n) f.1.1.0.1) ec f.1.1.0.1))
        (λ q a. operand_of_same l m alike t.rate y a (second_slot (type_of c).rate n) _ _ f.1.1.1.0
        (to_same _ _ y q (p + length (expr_places l c) + length (expr_places l x)) (p' + length (expr_places m c) + length (expr_places m x)) a
        (second_slot (type_of c).rate n) (found_same l m alike y (second_slot (type_of c).rate n) f.1.1.1.0.1) ex f.1.1.1.0.1))
    to_same d d' (t_call c t) pc p p' k n e ep f = call_same (Some (register t.rate d)) (Some (register t.rate d')) c pc p p' k n (ap (λ z. Some (register t.rate z)) e) ep f.1
    to_same d d' (t_library g u xs t sp) pc p p' k n e ep f =
        let rs = library_rates g t.rate in
        joined_same (values_code l rs xs pc p k n) (values_code m rs xs pc p' k n)
        (library_code g t.rate d (l.spare t.rate t.elem n) (value_registers l rs xs n) k)
        (library_code g t.rate d' (m.spare t.rate t.elem n) (value_registers m rs xs n) k) (values_same rs xs pc p p' k n ep f.1)
        (ap₂ (λ c z. library_code g t.rate c z (value_registers l rs xs n) k) e f.0 ∙ ap (λ z. library_code g t.rate d' (m.spare t.rate t.elem n) z k) (registers_same rs xs n f.1))
    to_same d d' (t_packed_store b x sp) pc p p' k n e ep f =
        let eb = ap₂ (λ z s. z + length s) ep (base_places_same l m b) in
        pair_same pc (base_code l b pc p k n) (base_code m b pc p' k n)
        (λ q. operand_of l Varying x k (n + 1) (expr_code l x q (p + length (base_places l b)) k (n + 1)))
        (λ q. operand_of m Varying x k (n + 1) (expr_code m x q (p' + length (base_places m b)) k (n + 1)))
        (packed_store d (l.array (base_array b).number) (base_register l b n) (operand l Varying x (n + 1)) k
        (p + length (base_places l b) + length (expr_places l x)))
        (packed_store d' (m.array (base_array b).number) (base_register m b n) (operand m Varying x (n + 1)) k
        (p' + length (base_places m b) + length (expr_places m x)))
        (base_same b pc p p' k n ep f.1.0.1)
        (λ q. operand_of_same l m alike Varying x k (n + 1) _ _ f.1.1.1 (to_same _ _ x q (p + length (base_places l b)) (p' + length (base_places m b)) k (n + 1) (found_same l m alike x (n + 1) f.1.1.1.1) eb f.1.1.1.1))
        (ap₂ (λ c a. packed_store c a (base_register l b n) (operand l Varying x (n + 1)) k (p + length (base_places l b) + length (expr_places l x)))
        e f.1.0.0 ∙ ap₂ (λ i z. packed_store d' (m.array (base_array b).number) i z k (p + length (base_places l b) + length (expr_places l x)))
        (base_register_same b n f.1.0.1) (operand_same l m alike Varying x (n + 1) f.1.1.1)
        ∙ ap (packed_store d' (m.array (base_array b).number) (base_register m b n) (operand m Varying x (n + 1)) k)
        (ap₂ (λ z s. z + length s) eb (places_same l m x)))
    to_same d d' (t_packed_load b v sp) pc p p' k n e ep f =
        joined_same (base_code l b pc p k n) (base_code m b pc p' k n)
        (packed_load d (l.array (base_array b).number) (base_register l b n) (l.variable Varying v) k (p + length (base_places l b)) ∷ [])
        (packed_load d' (m.array (base_array b).number) (base_register m b n) (m.variable Varying v) k (p' + length (base_places m b)) ∷ [])
        (base_same b pc p p' k n ep f.1.0.1)
        (ap₂ (λ c a. packed_load c a (base_register l b n) (l.variable Varying v) k (p + length (base_places l b)) ∷ []) e f.1.0.0
        ∙ ap₂ (λ i z. packed_load d' (m.array (base_array b).number) i z k (p + length (base_places l b)) ∷ []) (base_register_same b n f.1.0.1)
        f.1.1.0 ∙ ap (λ z. packed_load d' (m.array (base_array b).number) (base_register m b n) (m.variable Varying v) k z ∷ [])
        (ap₂ (λ z s. z + length s) ep (base_places_same l m b)))

    pub target_same : (z : TPlace) (pc p p' k n : ℕ) → p ≡ p' → SameIn l m (target_asks z n) → index_code l z pc p k n ≡ index_code m z pc p' k n
    target_same (t_variable v t sp) pc p p' k n ep f = refl
    target_same (t_element b i t sp) pc p p' k n ep f =
        reached_of_same l m alike b.ty.rate t.rate i pc p p' k n (expr_code l i pc p k n) (expr_code m i pc p' k n) f.1 (to_same _ _ i pc p p' k n (found_same l m alike i n f.1.1.1.1) ep f.1.1.1.1)

    base_same : (b : TBase) (pc p p' k n : ℕ) → p ≡ p' → SameIn l m (first_asks b n) → base_code l b pc p k n ≡ base_code m b pc p' k n
    base_same (t_whole b sp) pc p p' k n ep f = ap (λ c. constant c I64 0 ∷ []) f
    base_same (t_from b i sp) pc p p' k n ep f =
        index_of_same l m alike Uniform i k n (expr_code l i pc p k n) (expr_code m i pc p' k n) f (to_same _ _ i pc p p' k n (found_same l m alike i n f.1.1) ep f.1.1)

    values_same : (rs : List Rate) (xs : TExprs) (pc p p' k n : ℕ) → p ≡ p' → SameIn l m (values_asks rs xs n) → values_code l rs xs pc p k n ≡ values_code m rs xs pc p' k n
    values_same rs t_no_exprs pc p p' k n ep f = refl
    values_same rs (t_expr_then x xs) pc p p' k n ep f =
        two_same pc (operand_of l (next_rate rs) x k n (expr_code l x pc p k n)) (operand_of m (next_rate rs) x k n (expr_code m x pc p' k n))
        (λ q. values_code l (later rs) xs q (p + length (expr_places l x)) k (n + 1))
        (λ q. values_code m (later rs) xs q (p' + length (expr_places m x)) k (n + 1))
        (operand_of_same l m alike (next_rate rs) x k n _ _ f.1.0 (to_same _ _ x pc p p' k n (found_same l m alike x n f.1.0.1) ep f.1.0.1))
        (λ q. values_same (later rs) xs q (p + length (expr_places l x)) (p' + length (expr_places m x)) k (n + 1) (ap₂ (λ z s. z + length s) ep (places_same l m x)) f.1.1)

    pub call_same : (d d' : Option Register) (c : TCall) (pc p p' k n : ℕ) → d ≡ d' → p ≡ p' → SameIn l m (call_asks c n) → call_code l d c pc p k n ≡ call_code m d' c pc p' k n
    call_same d d' (t_called g xs sp) pc p p' k n e ep f =
        joined_same (arguments_code l (l.rates g) xs pc p k n) (arguments_code m (m.rates g) xs pc p' k n) (calling l d g xs (p + length (arguments_places l xs)) k n ∷ []) (calling m d' g xs (p' + length (arguments_places m xs)) k n ∷ [])
        (ap (λ (rs : ℕ → List Rate). arguments_code l (rs g) xs pc p k n) alike.rates ∙ arguments_same (m.rates g) xs pc p p' k n ep f.1)
        (ap (λ z. z ∷ []) (calling_same d d' g xs (p + length (arguments_places l xs)) (p' + length (arguments_places m xs)) k n e (ap₂ (λ z s. z + length s) ep (arguments_places_same l m xs)) f.1))

    arguments_same : (rs : List Rate) (xs : TArguments) (pc p p' k n : ℕ) → p ≡ p' → SameIn l m (arguments_asks xs n) → arguments_code l rs xs pc p k n ≡ arguments_code m rs xs pc p' k n
    arguments_same rs t_no_arguments pc p p' k n ep f = refl
    arguments_same rs (t_argument_then x xs) pc p p' k n ep f =
        two_same pc (argument_code l (next_rate rs) x pc p k n) (argument_code m (next_rate rs) x pc p' k n)
        (λ q. arguments_code l (later rs) xs q (p + length (argument_places l x)) k (n + 1))
        (λ q. arguments_code m (later rs) xs q (p' + length (argument_places m x)) k (n + 1))
        (argument_same (next_rate rs) x pc p p' k n ep f.1.0)
        (λ q. arguments_same (later rs) xs q (p + length (argument_places l x)) (p' + length (argument_places m x)) k (n + 1) (ap₂ (λ z s. z + length s) ep (argument_places_same l m x)) f.1.1)

    argument_same : (r : Rate) (x : TArgument) (pc p p' k n : ℕ) → p ≡ p' → SameIn l m (argument_asks x n) → argument_code l r x pc p k n ≡ argument_code m r x pc p' k n
    argument_same r (t_by_value x) pc p p' k n ep f =
        argument_of_same l m alike r x k n (expr_code l x pc p k n) (expr_code m x pc p' k n) f (to_same _ _ x pc p p' k n (found_same l m alike x n f.1) ep f.1)
    argument_same r (t_by_name b sp) pc p p' k n ep f = refl

  pub code_same : (x : TExpr) (pc p p' k n : ℕ) → p ≡ p' → SameIn l m (expr_asks x n) → expr_code l x pc p k n ≡ expr_code m x pc p' k n
  code_same x pc p p' k n ep f = to_same (found l x n) (found m x n) x pc p p' k n (found_same l m alike x n f) ep f

  pub taken_same : (r : Rate) (x : TExpr) (pc p p' k n : ℕ) → p ≡ p' → SameIn l m (taken r x n (expr_asks x n)) → operand_of l r x k n (expr_code l x pc p k n) ≡ operand_of m r x k n (expr_code m x pc p' k n)
  taken_same r x pc p p' k n ep f =
      operand_of_same l m alike r x k n (expr_code l x pc p k n) (expr_code m x pc p' k n) f (code_same x pc p p' k n ep f.1)
