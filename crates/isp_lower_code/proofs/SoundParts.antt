-- Values are found in registers that are there, and what lifts, converts and chooses them has its operands.
use Rattle.std.proofs.Common.{◌≡◌, ℕ, ◌+◌, ◌<◌, ◌≤◌, List, [], ◌∷◌, ◌++◌, length, Option, Some, None, Bool, true, false, refl, sym, ◌∙◌, subst, arith, length-append, inl, inr}
use Rattle.std.specs.Prelude.{◌&&◌}
use Rattle.isp_base.specs.declared.types.Elem.{Elem}
use Rattle.isp_base.specs.declared.types.Elem.TheVariants.{Bool as Truth, I64}
use Rattle.isp_base.specs.declared.types.Rate.{Rate}
use Rattle.isp_base.specs.declared.types.Rate.TheVariants.{Uniform, Varying}
use Rattle.isp_base.specs.declared.types.Value.{Value}
use Rattle.isp_code.specs.Listing.{Listing, Routine}
use Rattle.isp_code.specs.declared.instr.Instr.{Instr}
use Rattle.isp_code.specs.declared.instr.Instr.TheVariants as instr
use Rattle.isp_code.specs.declared.instr.JumpTest.TheVariants as jump
use Rattle.isp_meaning.specs.Payloads.{converted}
use Rattle.isp_typed.specs.Typed.{TExpr, TFunction, type_of}
use Rattle.isp_typed.specs.declared.variable.Logic.{Logic}
use Rattle.isp_meaning.specs.Calls.{same_rate}
use Rattle.isp_lower_code.specs.Layout.{Layout}
use Rattle.isp_lower_code.specs.Code.{choose_code}
use Rattle.isp_lower_code.specs.Elements.{index_by_of, is_run, start_code}
use Rattle.isp_lower_code.specs.Found.{in_vector, is_whole, lift_code, lift_to, convert_to, found, operand, operand_of, whole, whole_of, index_of}
use Rattle.isp_lower_code.specs.Instructions.{convert, copy, select, jump_on, jump_off, the_others}
use Rattle.isp_lower_code.specs.Known.{known, unless_kept, constant_of}
use Rattle.isp_lower_code.specs.Pieces.{decided, guard, choice, move_code, needing, pair_code, logic_code, choose_rest}
use Rattle.isp_lower_code.specs.Stays.{stays_at, is_short}
use Rattle.isp_lower_code.specs.Asks.{expr_asks, first_slot, index_asks, lift_asks, operand_asks, second_slot, sides_ask, test_asks, whole_asks, element_asks, is_lane, run_asks, start_asks}
use Rattle.isp_lower_code.specs.Sound.{HasKept, IsSound, AreSound, IsRegister, Granted}
use Rattle.isp_lower_code.proofs.Found.{constant_is_one}
use Rattle.isp_lower_code.proofs.Short.{same_rate-is}
use Rattle.isp_lower_code.proofs.SoundFound.{both_first, both_second, lift_there, found_there, whole_there, stayed_there}
use Rattle.isp_lower_code.proofs.SoundLines.{convert_sound, copy_sound, constant_sound, splat_sound, select_sound, where_sound, others_sound, off_sound, decided_sound, jump_sound, sound_both, move_sound, needing_sound}
use Rattle.isp_lower_code.proofs.Trees.{ExprTree, OperandTree}
use Rattle.isp_lower_code.specs.Rated.{Reaches}
use Rattle.isp_typed.specs.declared.variable.ArrayVariable.{ArrayVariable}
use Rattle.isp_lower_code.proofs.Consecutive.{Counting, run_is}

-- ---- lengths

pub low_front : (m pc : ℕ) (a b : List Instr) → pc + length (a ++ b) < m → pc + length a < m
low_front m pc a b lt = omega (arith, length-append a b, lt)

pub low_back : (m pc : ℕ) (a b : List Instr) → pc + length (a ++ b) < m → pc + length a + length b < m
low_back m pc a b lt = omega (arith, length-append a b, lt)

pub few_front : {A : Type 0} (m p : ℕ) (a b : List A) → p + length (a ++ b) ≤ m → p + length a ≤ m
few_front m p a b le = omega (arith, length-append a b, le)

pub few_back : {A : Type 0} (m p : ℕ) (a b : List A) → p + length (a ++ b) ≤ m → p + length a + length b ≤ m
few_back m p a b le = omega (arith, length-append a b, le)

module _ (code : Listing) (h : Routine) where
  -- code at a place, before the function's last instruction
  abbrev pub Here : ℕ → List Instr → Type 0
  Here pc a = pc + length a < length h.code → AreSound code h a

  -- the same at every place, and under every mask
  abbrev pub Anywhere : (ℕ → List Instr) → Type 0
  Anywhere b = (pc : ℕ) → Here pc (b pc)

  abbrev pub AnyMask : (ℕ → ℕ → List Instr) → Type 0
  AnyMask b = (pc m : ℕ) → m < h.masks → Here pc (b pc m)

  pub here_both : (pc : ℕ) (a b : List Instr) → Here pc a → Here (pc + length a) b → Here pc (a ++ b)
  here_both pc a b f g lt = sound_both code h a b (f (low_front (length h.code) pc a b lt)) (g (low_back (length h.code) pc a b lt))

  pub here_then : (pc : ℕ) (a : List Instr) (i : Instr) → Here pc a → IsSound code h i → Here pc (a ++ i ∷ [])
  here_then pc a i f s = here_both pc a (i ∷ []) f (λ lt. (s, tt))

  -- code that is left out where a constant is kept
  pub unless_sound : (z : Bool) (pc : ℕ) (xs : List Instr) → Here pc xs → Here pc (unless_kept z xs)
  unless_sound true pc xs s = λ lt. tt
  unless_sound false pc xs s = s

  pub pair_sound : (pc : ℕ) (a : List Instr) (b : ℕ → List Instr) (i : Instr) → Here pc a → Anywhere b → IsSound code h i → Here pc (pair_code pc a b i)
  pair_sound pc a b i f g s =
      here_both pc a (b (pc + length a) ++ i ∷ []) f (here_then (pc + length a) (b (pc + length a)) i (g (pc + length a)) s)

  -- a jump past code
  pub guard_sound : (go : ℕ → Instr) (b : ℕ → List Instr) → ((to : ℕ) → to < length h.code → IsSound code h (go to)) → Anywhere b → Anywhere (λ pc. guard go pc b)
  guard_sound go b s g pc lt = (s (pc + 1 + length (b (pc + 1))) (omega (arith, lt)), g (pc + 1) (omega (arith, lt)))

  pub choice_sound : (go : ℕ → Instr) (a b : ℕ → List Instr) → ((to : ℕ) → to < length h.code → IsSound code h (go to)) → Anywhere a → Anywhere b → Anywhere (λ pc. choice go pc a b)
  choice_sound go a b s f g pc lt =
      let ca = a (pc + 1) in
      let pb = pc + 1 + length ca + 1 in
      let e1 = length-append ca (instr.Jump (pb + length (b pb)) ∷ b pb) in
      (s pb (omega (arith, e1, lt)), sound_both code h ca (instr.Jump (pb + length (b pb)) ∷ b pb) (f (pc + 1) (omega (arith, e1, lt))) (jump_sound code h (pb + length (b pb)) (omega (arith, e1, lt)), g pb (omega (arith, e1, lt))))

  module _ (fs : List TFunction) (l : Layout) (constants : HasKept h l) where
    -- `&&` and `||`
    pub logic_sound : (r : Rate) (g : Logic) (d x y pc k n : ℕ) (a : List Instr) (b : ℕ → ℕ → List Instr) → IsRegister h r d Truth
        → IsRegister h r x Truth → IsRegister h r y Truth → k < h.masks → Granted h l (test_asks r n) → Here pc a → AnyMask b
        → Here pc (logic_code r g d x y pc k n a b)
    logic_sound Uniform g d x y pc k n a b hd hx hy lk test f t =
        let first = a ++ move_code Uniform d x k in
        here_both pc first (guard (jump_on (decided g) d) (pc + length first) (λ pc2. b pc2 k ++ copy Uniform d y k ∷ []))
        (here_both pc a (move_code Uniform d x k) f (λ lt. move_sound code h Uniform Truth d x k hd hx lk))
        (guard_sound (jump_on (decided g) d) (λ pc2. b pc2 k ++ copy Uniform d y k ∷ []) (λ to lt. decided_sound code h g d to hd lt)
        (λ pc2. here_then pc2 (b pc2 k) (copy Uniform d y k) (t pc2 k lk) (copy_sound code h Uniform Truth d y k hd hy lk)) (pc + length first))
    logic_sound Varying g d x y pc k n a b hd hx hy lk test f t =
        let first = a ++ (move_code Varying d x k ++ needing g n d k) in
        here_both pc first (guard (jump_off n) (pc + length first) (λ pc2. b pc2 n ++ copy Varying d y n ∷ []))
        (here_both pc a (move_code Varying d x k ++ needing g n d k) f (λ lt. sound_both code h (move_code Varying d x k) (needing g n d k) (move_sound code h Varying Truth d x k hd hx lk) (needing_sound code h g n d k test hd lk)))
        (guard_sound (jump_off n) (λ pc2. b pc2 n ++ copy Varying d y n ∷ []) (λ to lt. off_sound code h n to test lt)
        (λ pc2. here_then pc2 (b pc2 n) (copy Varying d y n) (t pc2 n test) (copy_sound code h Varying Truth d y n hd hy test))
        (pc + length first))

    -- the sides of a varying test
    pub rest_sound : (t : Elem) (d c x y pc k n : ℕ) (a b : ℕ → ℕ → ℕ → List Instr) → IsRegister h Varying d t → IsRegister h Varying c Truth
        → IsRegister h Varying x t → IsRegister h Varying y t → k < h.masks → Granted h l (sides_ask Varying n) → AnyMask (λ pc m. a pc m (n + 1))
        → AnyMask (λ pc m. b pc m (n + 2)) → Here pc (choose_rest d c x y pc k n a b)
    rest_sound t d c x y pc k n a b hd hc hx hy lk masks f g lt =
        let side = guard (jump_off n) (pc + 1) (λ pc1. a pc1 n (n + 1)) in
        let p2 = pc + 1 + length side in
        let other = guard (jump_off (n + 1)) (p2 + 1) (λ pc2. b pc2 (n + 1) (n + 2)) in
        let last = the_others (n + 1) k n ∷ (other ++ select Varying d c x y k ∷ []) in
        let e1 = length-append side last in
        let e2 = length-append other (select Varying d c x y k ∷ []) in (
          where_sound code h n c k masks.1.0 hc lk,
          sound_both code h side last
              (guard_sound (jump_off n) (λ pc1. a pc1 n (n + 1)) (λ to low. off_sound code h n to masks.1.0 low) (λ pc1. f pc1 n masks.1.0) (pc + 1)
              (omega (arith, e1, lt))) (
                others_sound code h (n + 1) k n masks.1.1 lk masks.1.0,
                here_then (p2 + 1) other (select Varying d c x y k)
                    (guard_sound (jump_off (n + 1)) (λ pc2. b pc2 (n + 1) (n + 2)) (λ to low. off_sound code h (n + 1) to masks.1.1 low)
                    (λ pc2. g pc2 (n + 1) masks.1.1) (p2 + 1)) (select_sound code h Varying t d c x y k hd hc hx hy lk) (omega (arith, e1, lt)),
              ),
        )

    pub lift_sound : (given r : Rate) (u t : Elem) (x k n : ℕ) → Reaches given r → u ≡ t → Granted h l (lift_asks r given u n) → IsRegister h given x u → k < h.masks → AreSound code h (lift_code l r given u x k n)
    lift_sound Uniform Uniform u t x k n is e f hx lk = tt
    lift_sound Uniform Varying u t x k n is e f hx lk =
        (splat_sound code h t (l.spare Varying u n) x k (lift_there fs h l constants Uniform Varying u t x n is e f hx) (hx.0, hx.1 ∙ e) lk, tt)
    lift_sound Varying Uniform u t x k n is e f hx lk = absurd is
    lift_sound Varying Varying u t x k n is e f hx lk = tt

    pub lift_to_sound : (given r : Rate) (u t : Elem) (d x k : ℕ) → Reaches given r → u ≡ t → IsRegister h r d t → IsRegister h given x u → k < h.masks → AreSound code h (lift_to l r given d x k)
    lift_to_sound Uniform Uniform u t d x k is e hd hx lk = tt
    lift_to_sound Uniform Varying u t d x k is e hd hx lk = (splat_sound code h t d x k hd (hx.0, hx.1 ∙ e) lk, tt)
    lift_to_sound Varying Uniform u t d x k is e hd hx lk = absurd is
    lift_to_sound Varying Varying u t d x k is e hd hx lk = tt

    pub operand_sound : (r : Rate) (t : Elem) (x : TExpr) (pc k n : ℕ) (a : List Instr) → OperandTree r t x → ExprTree fs x → Granted h l (operand_asks r x n) → k < h.masks → Here pc a → Here pc (operand_of l r x k n a)
    operand_sound r t x pc k n a o is f lk s =
        unless_sound (in_vector l r (known x)) pc (a ++ lift_code l r (type_of x).rate (type_of x).elem (found l x n) k n)
        (here_both pc a (lift_code l r (type_of x).rate (type_of x).elem (found l x n) k n) s (λ lt. lift_sound (type_of x).rate r (type_of x).elem t (found l x n) k n o.reaches o.elem f.0 (found_there fs h l constants x n is f.1) lk))

    -- ---- a value of one type where another is wanted

    pub convert_to_sound : (x : TExpr) (e : Elem) (d pc k n : ℕ) (a : List Instr) → IsRegister h (type_of x).rate d e
        → IsRegister h (type_of x).rate (found l x n) (type_of x).elem → k < h.masks → Here pc a
        → Here pc (convert_to l (constant_of x) e (type_of x).rate d (found l x n) k a)
    convert_to_sound x e d pc k n a hd hx lk f = go (constant_of x) refl
      where
        uniform : (v : Value) → constant_of x ≡ Some v → IsRegister h Uniform d e
        uniform v is = let one = constant_is_one x v is in subst (λ y. IsRegister h (type_of y).rate d e) one.1 hd

        go : (o : Option Value) → constant_of x ≡ o → Here pc (convert_to l o e (type_of x).rate d (found l x n) k a)
        go None is = here_then pc a (convert (type_of x).rate d (found l x n) k) f (convert_sound code h (type_of x).rate e (type_of x).elem d (found l x n) k hd hx lk)
        go (Some v) is = λ lt. (constant_sound code h e d (converted v.elem e v.bits) (uniform v is), tt)

    whole_sound : (b : Bool) (i : TExpr) (pc k n : ℕ) (a : List Instr) → ExprTree fs i → Granted h l (whole_asks i n (expr_asks i n)) → k < h.masks → Here pc a → Here pc (whole_of l b i k n a)
    whole_sound true i pc k n a is f lk s = s
    whole_sound false i pc k n a is f lk s =
        convert_to_sound i I64 (l.spare (type_of i).rate I64 n) pc k n a f.0 (found_there fs h l constants i n is f.1) lk s

    pub index_sound : (r : Rate) (i : TExpr) (pc k n : ℕ) (a : List Instr) → Reaches (type_of i).rate r → ExprTree fs i → Granted h l (index_asks r i n (expr_asks i n)) → k < h.masks → Here pc a → Here pc (index_of l r i k n a)
    index_sound r i pc k n a re is f lk s =
        let x = whole l (is_whole (type_of i).elem) i n in
        here_both pc (whole_of l (is_whole (type_of i).elem) i k n a) (lift_code l r (type_of i).rate I64 x k n)
        (whole_sound (is_whole (type_of i).elem) i pc k n a is f.1 lk s)
        (λ lt. lift_sound (type_of i).rate r I64 I64 x k n re refl f.0 (whole_there fs h l constants (is_whole (type_of i).elem) i n refl is f.1)
        lk)

    -- that of an element
    start_sound : (i : TExpr) (n : ℕ) → Counting l i → Granted h l (start_asks i n) → AreSound code h (start_code l (is_lane i) n)
    start_sound i n (inl e) g = subst (λ u. Granted h l (start_asks u n) → AreSound code h (start_code l (is_lane u) n)) (sym e.1) (λ f. (constant_sound code h I64 (l.spare Uniform I64 n) 0 f, tt)) g
    start_sound i n (inr e) g = subst (λ u. Granted h l (start_asks u n) → AreSound code h (start_code l (is_lane u) n)) (sym e.3) (λ f. tt) g

    pub element_index_sound : (b : ArrayVariable) (r : Rate) (i : TExpr) (pc k n : ℕ) (a : List Instr) → Reaches (type_of i).rate r → ExprTree fs i
        → Granted h l (element_asks b.ty.rate r i n (expr_asks i n)) → k < h.masks → Here pc a
        → Here pc (index_by_of l (is_run l b.ty.rate i) r i k n a)
    element_index_sound b r i pc k n a re is f lk s = go (is_run l b.ty.rate i) refl
      where
        go : (z : Bool) → is_run l b.ty.rate i ≡ z → Here pc (index_by_of l z r i k n a)
        go true e = let run = run_is l b.ty.rate i e in λ lt. start_sound i n run.1 (subst (λ u. Granted h l (run_asks u i n)) run.0 f.0)
        go false e = index_sound r i pc k n a re is f.1 lk s

    -- by a uniform test, or by a varying one; the value goes to slot n
    pub choose_sound : (g r : Rate) (t : Elem) (x y : TExpr) (c pc k n : ℕ) (test : List Instr) (a b : ℕ → ℕ → ℕ → List Instr) → Reaches g r
        → IsRegister h g c Truth → IsRegister h r (l.spare r t n) t → IsRegister h r (operand l r x (first_slot g n)) t
        → IsRegister h r (operand l r y (second_slot g n)) t → k < h.masks → Granted h l (sides_ask g n) → Here pc test
        → AnyMask (λ pc m. a pc m (first_slot g n)) → AnyMask (λ pc m. b pc m (second_slot g n)) → Here pc (choose_code l g r t x y c pc k n test a b)
    choose_sound Uniform r t x y c pc k n test a b re hc hd hx hy lk masks s f g =
        here_both pc test (choice (jump_on jump.False c) (pc + length test) (λ pc2. a pc2 k n ++ move_code r (l.spare r t n) (operand l r x n) k) (λ pc2. b pc2 k n ++ move_code r (l.spare r t n) (operand l r y n) k)) s
        (choice_sound (jump_on jump.False c) (λ pc2. a pc2 k n ++ move_code r (l.spare r t n) (operand l r x n) k)
        (λ pc2. b pc2 k n ++ move_code r (l.spare r t n) (operand l r y n) k) (λ to lt. (((hc.0, hc.1), (lt, tt)), tt))
        (λ pc2. here_both pc2 (a pc2 k n) (move_code r (l.spare r t n) (operand l r x n) k) (f pc2 k lk)
        (λ lt. move_sound code h r t (l.spare r t n) (operand l r x n) k hd hx lk))
        (λ pc2. here_both pc2 (b pc2 k n) (move_code r (l.spare r t n) (operand l r y n) k) (g pc2 k lk)
        (λ lt. move_sound code h r t (l.spare r t n) (operand l r y n) k hd hy lk)) (pc + length test))
    choose_sound Varying Uniform t x y c pc k n test a b re hc hd hx hy lk masks s f g = absurd re
    choose_sound Varying Varying t x y c pc k n test a b re hc hd hx hy lk masks s f g =
        let rest = choose_rest (l.spare Varying t n) c (operand l Varying x (n + 1)) (operand l Varying y (n + 2)) (pc + length test) k n a b in
        here_both pc test rest s (rest_sound t (l.spare Varying t n) c (operand l Varying x (n + 1)) (operand l Varying y (n + 2)) (pc + length test) k n a b hd hc hx hy lk masks f g)

    -- between two variables one instruction is enough
    pub short_sound : (r : Rate) (t : Elem) (c x y : TExpr) (d k n mx my : ℕ) → is_short l r c x y ≡ true → IsRegister h r d t → OperandTree r Truth c
        → OperandTree r t x → OperandTree r t y → ExprTree fs c → ExprTree fs x → ExprTree fs y → Granted h l (expr_asks c n)
        → Granted h l (expr_asks x mx) → Granted h l (expr_asks y my) → k < h.masks
        → IsSound code h (select r d (found l c n) (found l x n) (found l y n) k)
    short_sound r t c x y d k n mx my e hd oc ox oy ic ix iy fc fx fy lk =
        let same = same_rate-is r (type_of c).rate (both_first (same_rate r (type_of c).rate) (stays_at l r x && stays_at l r y) e) in
        let both = both_second (same_rate r (type_of c).rate) (stays_at l r x && stays_at l r y) e in
        let hc = found_there fs h l constants c n ic fc in
        let test : IsRegister h r (found l c n) Truth = subst (λ u. IsRegister h r (found l c n) u) oc.elem (subst (λ q. IsRegister h q (found l c n) (type_of c).elem) (sym same) hc) in
        select_sound code h r t d (found l c n) (found l x n) (found l y n) k hd test
        (stayed_there fs h l constants r t x n mx (both_first (stays_at l r x) (stays_at l r y) both) ox ix fx)
        (stayed_there fs h l constants r t y n my (both_second (stays_at l r x) (stays_at l r y) both) oy iy fy) lk
