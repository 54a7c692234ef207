-- A linear expression counts on from what is told without a set, or traps for the lowest.
use Rattle.std.specs.Prelude.{◌≡◌, ℕ, ◌≤◌, List, Option, Some, None, Bool, true, false}
use Rattle.std.proofs.Common.{refl, sym, ap, ◌∙◌, subst, ⊎_elim, arith}
use Rattle.std.proofs.Math.Path.{fun_ext}
use Rattle.isp_base.specs.Access.{is_zero}
use Rattle.isp_base.specs.Maps.{Lanes, on, map2, holds, where_true}
use Rattle.isp_base.specs.Sets.{Mask, any}
use Rattle.isp_base.specs.Types.{gang_width, widest}
use Rattle.isp_base.specs.Values.{op_bits}
use Rattle.isp_base.specs.declared.operators.BinOp.{BinOp}
use Rattle.isp_base.specs.declared.operators.BinOp.TheVariants.{Add, Sub, Mul, Div, Rem, And, Or, Xor, Shl, Shr, Min, Max}
use Rattle.isp_base.specs.declared.trap.TrapKind.TheVariants.{Divide}
use Rattle.isp_base.specs.declared.types.Elem.{Elem}
use Rattle.isp_base.specs.declared.types.Elem.TheVariants.{I32}
use Rattle.isp_base.specs.declared.types.Rate.{Rate}
use Rattle.isp_base.specs.declared.types.Rate.TheVariants.{Uniform, Varying}
use Rattle.isp_base.specs.declared.types.Span.{Span}
use Rattle.isp_base.specs.declared.types.Ty.{Ty}
use Rattle.isp_base.proofs.Gangs.{few_width}
use Rattle.isp_typed.specs.Fine.{FineExpr, FinePlace, HoldsValue}
use Rattle.isp_typed.specs.Typed.{TExpr, t_constant, t_program_index, t_place, t_convert, t_cast, t_unary, t_binary, t_compare, t_logic, t_choose, t_call, t_library}
use Rattle.isp_typed.specs.Typed.{t_packed_store, t_packed_load, TPlace, t_variable, t_element, TFunction, elem_of}
use Rattle.isp_typed.specs.declared.variable.Variable.{Variable as AVariable}
use Rattle.isp_meaning.specs.State.{State, Frame, tick}
use Rattle.isp_meaning.specs.Payloads.{Payload, One, Each, mapped, joined, converted, if_fails, offender}
use Rattle.isp_meaning.specs.Outcomes.{Val, Gives, Fails, Stops, checked}
use Rattle.isp_meaning.specs.Places.{variable}
use Rattle.isp_meaning.specs.Expressions.{Calls, value}
use Rattle.isp_meaning.proofs.Members.{none_all, no_lowest}
use Rattle.isp_steady.specs.Known.{Known, Unknown, Steady, Linear, IsAsKnown, IsInside, counted_on, elem_at, type_in}
use Rattle.isp_steady.specs.Steady.{steady}
use Rattle.isp_steady.specs.Linear.{linear_read, one_counts, linear, linear_place}
use Rattle.isp_steady.specs.Values.{IsCounted, IsOne, Sole, Comes, Traps, ComesTo, LinearCountsOn}
use Rattle.isp_steady.proofs.Ones.{both, spread_one, map1_on, map2_on, on_same}
use Rattle.isp_steady.proofs.Told.{read_one, sole, IsBy, bind_by}
use Rattle.isp_steady.proofs.Alones.{alone_linear, one_of}
use Rattle.isp_steady.proofs.Steadies.{value_is, steady_as}
use Rattle.isp_steady.proofs.Counts.{cut_counts, sum_counts, sum_counts_left, less_counts, index_counts}

-- a variable that is known to be linear
linear_as : (k : Known) (t : Elem) (u : ℕ) (x : Lanes) (a : Mask) → k ≡ Linear → IsAsKnown k t u x a → (p : ℕ) → a p ≡ true → x p ≡ counted_on t u p
linear_as Linear t u x a e h = h
linear_as Unknown t u x a e h = absurd (cc)
linear_as Steady t u x a e h = absurd (cc)

-- nobody fails a test that nothing fails
offender_never : (gang : ℕ) (f : ℕ → Bool) (a : Mask) (m : Payload) → ((x : ℕ) → f x ≡ false) → offender gang f a m ≡ None
offender_never gang f a (One x) h = ap (if_fails gang f a) (h x)
offender_never gang f a (Each x) h = no_lowest gang (where_true f x) (none_all gang (where_true f x) (λ q lt. by (x q)))
  where
    by : (o : Option ℕ) → holds f o ≡ false
    by None = refl
    by (Some y) = h y

module _ (a : Mask) where
  row_then_one : (f : ℕ → ℕ → ℕ) (g : Lanes) (w : ℕ) (m n : Payload) → m ≡ Each (on a g) → IsOne a w n → joined f a m n ≡ Each (on a (λ p. f (g p) w))
  row_then_one f g w m n e k = ap (λ z. joined f a z n) e ∙ ap (λ z. Each (map2 f (on a g) z)) (spread_one a w n k) ∙ ap Each (map2_on a f g (λ p. w))

  one_then_row : (f : ℕ → ℕ → ℕ) (g : Lanes) (w : ℕ) (m n : Payload) → IsOne a w m → n ≡ Each (on a g) → joined f a m n ≡ Each (on a (λ p. f w (g p)))
  one_then_row f g w (One x) n k e = ap (λ z. joined f a (One x) z) e ∙ ap (λ z. Each (map2 f z (on a g))) (spread_one a w (One x) k) ∙ ap Each (map2_on a f (λ p. w) g)
  one_then_row f g w (Each x) n k e = ap (λ z. joined f a (Each x) z) e ∙ ap (λ z. Each (map2 f z (on a g))) k ∙ ap Each (map2_on a f (λ p. w) g)

module _ (gang : ℕ) (fs : List TFunction) (vars : List AVariable) (frame : Frame) (calls : Calls) (known : ℕ → Known) (scalars : ℕ → ℕ) (a : Mask)
    (some : any gang a ≡ true) (few : gang ≤ widest) (inside : IsInside gang a) (there : ℕ → Lanes)
    (have : (v : ℕ) → known v ≡ Steady → (p : ℕ) → a p ≡ true → there v p ≡ scalars v)
    (count : (v : ℕ) → known v ≡ Linear → (p : ℕ) → a p ≡ true → there v p ≡ counted_on (elem_at vars v) (scalars v) p) where
  abbrev told : TExpr → State → Sole
  told = sole frame scalars

  abbrev Row : Elem → Sole → Val Payload → Type 0
  Row t = IsBy gang a there (IsCounted t a)

  abbrev One_is : Sole → Val Payload → Type 0
  One_is = IsBy gang a there (IsOne a)

  abbrev Rows : TExpr → Type 0
  Rows x = (s : State) → s.varying ≡ there → Row (elem_of x) (told x s) (value gang frame calls x a s)

  abbrev Ones : TExpr → Type 0
  Ones x = (s : State) → s.varying ≡ there → One_is (told x s) (value gang frame calls x a s)

  -- ---- variables

  held_elem : (v : ℕ) (t : Ty) → HoldsValue vars v t → elem_at vars v ≡ t.elem
  held_elem v t h = ap type_in h.is

  read_row : (r : Rate) (v : ℕ) (e : Elem) (k : Known) → known v ≡ k → linear_read r k ≡ true → elem_at vars v ≡ e → (s : State) → s.varying ≡ there
      → IsCounted e a (read_one frame scalars r v s) (variable r v a (tick s))
  read_row Uniform v e k is h same s j = absurd (cc)
  read_row Varying v e Unknown is h same s j = absurd (cc)
  read_row Varying v e Steady is h same s j = absurd (cc)
  read_row Varying v e Linear is h same s j =
      ap (λ f. Each (on a (f v))) j ∙ ap Each (on_same a (there v) (counted_on (elem_at vars v) (scalars v)) (count v is))
      ∙ ap (λ t. Each (on a (counted_on t (scalars v)))) same

  -- ---- sums and differences

  sum_row : (x y : TExpr) (t : Ty) (sp : Span) → elem_of x ≡ t.elem → Rows x → Ones y → Rows (t_binary Add x y t sp)
  sum_row x y t sp e h k s j =
      bind_by gang a there (IsCounted (elem_of x) a) (IsCounted t.elem a) _ _ _ _ (h (tick s) j)
      (λ u m s1 i j1. bind_by gang a there (IsOne a) (IsCounted t.elem a) _ _ _ _ (k s1 j1)
      (λ w n s2 i2 j2. subst (λ o. Row t.elem (Comes (op_bits Add t.elem u w) s2) (checked o Divide sp s2 (joined (op_bits Add t.elem) a m n)))
      (sym (offender_never gang (is_zero Add t.elem) a n (λ z. refl))) (
        row_then_one a (op_bits Add t.elem) (counted_on t.elem u) w m n (i ∙ ap (λ f. Each (on a (counted_on f u))) e) i2
            ∙ ap (λ g. Each (on a g)) (fun_ext (λ p. sum_counts t.elem u w p)),
        refl,
        j2,
      )))

  sum_row_left : (x y : TExpr) (t : Ty) (sp : Span) → elem_of y ≡ t.elem → Ones x → Rows y → Rows (t_binary Add x y t sp)
  sum_row_left x y t sp e h k s j =
      bind_by gang a there (IsOne a) (IsCounted t.elem a) _ _ _ _ (h (tick s) j)
      (λ w m s1 i j1. bind_by gang a there (IsCounted (elem_of y) a) (IsCounted t.elem a) _ _ _ _ (k s1 j1)
      (λ u n s2 i2 j2. subst (λ o. Row t.elem (Comes (op_bits Add t.elem w u) s2) (checked o Divide sp s2 (joined (op_bits Add t.elem) a m n)))
      (sym (offender_never gang (is_zero Add t.elem) a n (λ z. refl))) (
        one_then_row a (op_bits Add t.elem) (counted_on t.elem u) w m n i (i2 ∙ ap (λ f. Each (on a (counted_on f u))) e)
            ∙ ap (λ g. Each (on a g)) (fun_ext (λ p. sum_counts_left t.elem u w p)),
        refl,
        j2,
      )))

  less_row : (x y : TExpr) (t : Ty) (sp : Span) → elem_of x ≡ t.elem → Rows x → Ones y → Rows (t_binary Sub x y t sp)
  less_row x y t sp e h k s j =
      bind_by gang a there (IsCounted (elem_of x) a) (IsCounted t.elem a) _ _ _ _ (h (tick s) j)
      (λ u m s1 i j1. bind_by gang a there (IsOne a) (IsCounted t.elem a) _ _ _ _ (k s1 j1)
      (λ w n s2 i2 j2. subst (λ o. Row t.elem (Comes (op_bits Sub t.elem u w) s2) (checked o Divide sp s2 (joined (op_bits Sub t.elem) a m n)))
      (sym (offender_never gang (is_zero Sub t.elem) a n (λ z. refl))) (
        row_then_one a (op_bits Sub t.elem) (counted_on t.elem u) w m n (i ∙ ap (λ f. Each (on a (counted_on f u))) e) i2
            ∙ ap (λ g. Each (on a g)) (fun_ext (λ p. less_counts t.elem u w p)),
        refl,
        j2,
      )))

  -- by which operand counts on
  two_rows : (op : BinOp) (x y : TExpr) (t : Ty) (sp : Span) (c k d l : Bool) → elem_of x ≡ t.elem → elem_of y ≡ t.elem → one_counts op c k d l ≡ true
      → (c ≡ true → Rows x) → (k ≡ true → Ones x) → (d ≡ true → Rows y) → (l ≡ true → Ones y) → Rows (t_binary op x y t sp)
  two_rows Add x y t sp c k d l ex ey e rx ox ry oy = ⊎_elim (λ h. sum_row x y t sp ex (rx h.0) (oy h.1)) (λ h. sum_row_left x y t sp ey (ox h.0) (ry h.1)) (one_of Add c k d l e)
  two_rows Sub x y t sp c k d l ex ey e rx ox ry oy = let h = both c l e in less_row x y t sp ex (rx h.0) (oy h.1)
  two_rows Mul x y t sp c k d l ex ey e rx ox ry oy = absurd (cc)
  two_rows Div x y t sp c k d l ex ey e rx ox ry oy = absurd (cc)
  two_rows Rem x y t sp c k d l ex ey e rx ox ry oy = absurd (cc)
  two_rows And x y t sp c k d l ex ey e rx ox ry oy = absurd (cc)
  two_rows Or x y t sp c k d l ex ey e rx ox ry oy = absurd (cc)
  two_rows Xor x y t sp c k d l ex ey e rx ox ry oy = absurd (cc)
  two_rows Shl x y t sp c k d l ex ey e rx ox ry oy = absurd (cc)
  two_rows Shr x y t sp c k d l ex ey e rx ox ry oy = absurd (cc)
  two_rows Min x y t sp c k d l ex ey e rx ox ry oy = absurd (cc)
  two_rows Max x y t sp c k d l ex ey e rx ox ry oy = absurd (cc)

  -- ---- expressions

  steady_ones : (x : TExpr) → steady known x ≡ true → Ones x
  steady_ones = value_is gang frame calls known scalars a some there have

  index_row : (p : ℕ) → a p ≡ true → p ≡ counted_on I32 0 p
  index_row p h = let lt = inside p h in sym (index_counts p (omega arith))

  mutual
    rows : (x : TExpr) → FineExpr fs vars x → linear known x ≡ true → Rows x
    rows (t_program_index sp) f e s j = (ap Each (on_same a (λ p. p) (counted_on I32 0) index_row), refl, j)
    rows (t_place q) f e s j = place_rows q f e s j
    rows (t_convert t x) f e s j =
        let k = both _ _ e in
        bind_by gang a there (IsCounted (elem_of x) a) (IsCounted t a) _ _ _ _ (rows x f.0 k.0 s j)
        (λ u m s1 i j1. (
          ap (mapped (converted (elem_of x) t)) i ∙ ap Each (map1_on a (converted (elem_of x) t) (counted_on (elem_of x) u))
              ∙ ap (λ g. Each (on a g)) (fun_ext (λ p. cut_counts (elem_of x) t u p k.1)),
          refl,
          j1,
        ))
    rows (t_cast x t sp) f e s j = subst (λ z. Row z (told x (tick s)) (value gang frame calls x a (tick s))) f.1 (rows x f.0 e (tick s) j)
    rows (t_binary op x y t sp) f e s j =
        two_rows op x y t sp (linear known x) (steady known x) (linear known y) (steady known y) f.2.left f.2.right e
        (rows x f.0) (steady_ones x) (rows y f.1) (steady_ones y) s j
    rows (t_constant v sp) f e s j = absurd (cc)
    rows (t_unary op x t sp) f e s j = absurd (cc)
    rows (t_compare c x y r sp) f e s j = absurd (cc)
    rows (t_logic l x y r sp) f e s j = absurd (cc)
    rows (t_choose c x y t sp) f e s j = absurd (cc)
    rows (t_call c t) f e s j = absurd (cc)
    rows (t_library g t xs ty sp) f e s j = absurd (cc)
    rows (t_packed_store b x sp) f e s j = absurd (cc)
    rows (t_packed_load b v sp) f e s j = absurd (cc)

    place_rows : (q : TPlace) → FinePlace fs vars q → linear_place known q ≡ true → Rows (t_place q)
    place_rows (t_variable v t sp) f e s j = (read_row t.rate v t.elem (known v) refl e (held_elem v t f) s j, refl, j)
    place_rows (t_element b i t sp) f e s j = absurd (cc)

  comes_to : (t : Elem) (o : Sole) (v : Val Payload) → Row t o v → ComesTo gang (IsCounted t) a o v
  comes_to t (Comes u s) (Gives m s1) h = (h.0, h.1)
  comes_to t (Comes u s) (Fails x s1) h = absurd h
  comes_to t (Comes u s) (Stops s1) h = absurd h
  comes_to t (Traps kind sp s) v h = h

  pub linear_comes : (x : TExpr) → FineExpr fs vars x → linear known x ≡ true → (s : State) → s.varying ≡ there → ComesTo gang (IsCounted (elem_of x)) a (told x s) (value gang frame calls x a s)
  linear_comes x f e s h = comes_to (elem_of x) (told x s) _ (rows x f e s h)

pub linear_counts_on : LinearCountsOn
linear_counts_on gang fs vars frame calls known scalars x a s f e inside are =
    let n = gang_width gang in (
      sole frame scalars x s,
      λ b part some. linear_comes n fs vars frame calls known scalars b some (few_width gang) (λ p i. inside p (part p i)) s.varying
          (λ v k p i. steady_as (known v) _ (scalars v) (s.varying v) a k (are v) p (part p i))
          (λ v k p i. linear_as (known v) _ (scalars v) (s.varying v) a k (are v) p (part p i)) x f e s refl,
      λ b some. alone_linear n frame calls known scalars b some x e s,
    )
