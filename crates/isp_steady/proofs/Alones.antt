-- The scalar expression of a steady or a linear one gives what is told without a set, over every set.
use Rattle.std.specs.Prelude.{◌≡◌, ℕ, zero, suc, List, [], ◌∷◌, map, Bool, true, false, not, ◌&&◌, ◌||◌, ◌⊎◌, if◌then◌else◌}
use Rattle.std.proofs.Common.{refl, ap, ap₂, ◌∙◌, inl, inr, ⊎_elim}
use Rattle.isp_base.specs.Access.{is_zero, is_outside, element}
use Rattle.isp_base.specs.Values.{op_bits, compare_bits}
use Rattle.isp_base.specs.Sets.{Mask, any}
use Rattle.isp_base.specs.declared.trap.TrapKind.{TrapKind}
use Rattle.isp_base.specs.declared.trap.TrapKind.TheVariants.{Divide, Index}
use Rattle.isp_base.specs.declared.operators.BinOp.{BinOp}
use Rattle.isp_base.specs.declared.operators.BinOp.TheVariants.{Add, Sub, Mul, Div, Rem, And, Or, Xor, Shl, Shr, Min, Max}
use Rattle.isp_base.specs.declared.types.Elem.{Elem}
use Rattle.isp_base.specs.declared.types.Rate.{Rate}
use Rattle.isp_base.specs.declared.types.Rate.TheVariants.{Uniform, Varying}
use Rattle.isp_base.specs.declared.types.Span.{Span}
use Rattle.isp_base.specs.declared.types.Ty.{Ty}
use Rattle.isp_typed.specs.Typed.{TExpr, t_constant, t_program_index, t_place, t_convert, t_cast, t_unary, t_binary, t_compare, t_logic, t_choose, t_call, t_library}
use Rattle.isp_typed.specs.Typed.{t_packed_store, t_packed_load, TPlace, t_variable, t_element, TExprs, t_no_exprs, t_expr_then, type_of}
use Rattle.isp_typed.specs.declared.library.Library.{Library}
use Rattle.isp_typed.specs.declared.library.Library.TheVariants as library
use Rattle.isp_typed.specs.declared.variable.ArrayVariable.{ArrayVariable}
use Rattle.isp_typed.specs.declared.variable.Logic.{Logic}
use Rattle.isp_meaning.specs.State.{State, Frame, tick, extent}
use Rattle.isp_meaning.specs.Payloads.{Payload, One, converted, is_true, is_false, nothing, if_fails, kept_by, selected}
use Rattle.isp_meaning.specs.Outcomes.{Val, Gives, bind, checked, value_unless_empty}
use Rattle.isp_meaning.specs.Places.{Element, held, outside, elements}
use Rattle.isp_meaning.specs.Library.{library_value, argument}
use Rattle.isp_meaning.specs.Expressions.{Calls, value, values, needs, settled}
use Rattle.isp_steady.specs.Known.{Known, Unknown, Steady, Linear, is_known}
use Rattle.isp_steady.specs.Steady.{steady_read, is_shared, by_itself, steady, steady_place, all_steady}
use Rattle.isp_steady.specs.Linear.{linear_read, one_counts, linear, linear_place}
use Rattle.isp_steady.specs.Alone.{alone, alone_place, all_alone, lent}
use Rattle.isp_steady.specs.Values.{Sole, Comes, Traps, over_set}
use Rattle.isp_steady.proofs.Ones.{both}
use Rattle.isp_steady.proofs.Told.{then_one, checked_one, nth, library_one, read_one, sole, sole_place, soles, bind_bind, bind_same, bind_gives, checked_fails, later_all, later_none}

-- it has the same element type
pub alone_elem : (x : TExpr) → (type_of (alone x)).elem ≡ (type_of x).elem
alone_elem (t_constant v sp) = refl
alone_elem (t_program_index sp) = refl
alone_elem (t_place (t_variable v t sp)) = refl
alone_elem (t_place (t_element b i t sp)) = refl
alone_elem (t_convert e x) = refl
alone_elem (t_cast x t sp) = refl
alone_elem (t_unary op x t sp) = refl
alone_elem (t_binary op x y t sp) = refl
alone_elem (t_compare c x y r sp) = refl
alone_elem (t_logic l x y r sp) = refl
alone_elem (t_choose c x y t sp) = refl
alone_elem (t_call c t) = refl
alone_elem (t_library f e xs t sp) = refl
alone_elem (t_packed_store b x sp) = refl
alone_elem (t_packed_load b v sp) = refl

-- which operand counts on
either : (b c : Bool) → (b || c) ≡ true → (b ≡ true) ⊎ (c ≡ true)
either true c e = inl refl
either false c e = inr e

pub one_of : (op : BinOp) (c k d l : Bool) → one_counts op c k d l ≡ true → ((c ≡ true) × (l ≡ true)) ⊎ ((k ≡ true) × (d ≡ true))
one_of Add c k d l e = ⊎_elim (λ h. inl (both c l h)) (λ h. inr (both k d h)) (either (c && l) (k && d) e)
one_of Sub c k d l e = inl (both c l e)
one_of Mul c k d l e = absurd (cc)
one_of Div c k d l e = absurd (cc)
one_of Rem c k d l e = absurd (cc)
one_of And c k d l e = absurd (cc)
one_of Or c k d l e = absurd (cc)
one_of Xor c k d l e = absurd (cc)
one_of Shl c k d l e = absurd (cc)
one_of Shr c k d l e = absurd (cc)
one_of Min c k d l e = absurd (cc)
one_of Max c k d l e = absurd (cc)

abbrev ones : List ℕ → List Payload
ones us = map One us

argument_ones : (us : List ℕ) (k : ℕ) → argument (ones us) k ≡ One (nth us k)
argument_ones [] k = refl
argument_ones (u ∷ us) zero = refl
argument_ones (u ∷ us) (suc k) = argument_ones us k

chosen_ones : (b : Bool) (x y : ℕ) → (if b then One x else One y) ≡ One (if b then x else y)
chosen_ones true x y = refl
chosen_ones false x y = refl

module _ (gang : ℕ) (a : Mask) (t : Elem) where
  of_ones : (f : Library) → by_itself f ≡ true → (x y z : ℕ) → library_value gang t a f (One x) (One y) (One z) ≡ One (library_one f t (x ∷ y ∷ z ∷ []))
  of_ones library.Min e x y z = refl
  of_ones library.Max e x y z = refl
  of_ones library.Clamp e x y z = refl
  of_ones library.Abs e x y z = refl
  of_ones library.Select e x y z = chosen_ones (is_true x) y z
  of_ones library.ReduceAdd e x y z = absurd (cc)
  of_ones library.ReduceMin e x y z = absurd (cc)
  of_ones library.ReduceMax e x y z = absurd (cc)
  of_ones library.ReduceEqual e x y z = absurd (cc)
  of_ones library.Any e x y z = absurd (cc)
  of_ones library.All e x y z = absurd (cc)
  of_ones library.None e x y z = absurd (cc)
  of_ones library.ScanAdd e x y z = absurd (cc)
  of_ones library.ScanAnd e x y z = absurd (cc)
  of_ones library.ScanOr e x y z = absurd (cc)
  of_ones library.Broadcast e x y z = absurd (cc)
  of_ones library.Rotate e x y z = absurd (cc)
  of_ones library.Shift e x y z = absurd (cc)
  of_ones library.Shuffle e x y z = absurd (cc)
  of_ones library.ShuffleTwo e x y z = absurd (cc)
  of_ones library.Extract e x y z = absurd (cc)
  of_ones library.Insert e x y z = absurd (cc)

  at_three : (f : Library) (us : List ℕ) → library_one f t (nth us 0 ∷ nth us 1 ∷ nth us 2 ∷ []) ≡ library_one f t us
  at_three library.Min us = refl
  at_three library.Max us = refl
  at_three library.Clamp us = refl
  at_three library.Abs us = refl
  at_three library.Select us = refl
  at_three f us = refl

  pub library_ones : (f : Library) (us : List ℕ) → by_itself f ≡ true
      → library_value gang t a f (argument (ones us) 0) (argument (ones us) 1) (argument (ones us) 2) ≡ One (library_one f t us)
  library_ones f us e =
      ap (λ x. library_value gang t a f x (argument (ones us) 1) (argument (ones us) 2)) (argument_ones us 0)
      ∙ ap₂ (λ y z. library_value gang t a f (One (nth us 0)) y z) (argument_ones us 1) (argument_ones us 2)
      ∙ of_ones f e (nth us 0) (nth us 1) (nth us 2) ∙ ap One (at_three f us)

module _ (gang : ℕ) (frame : Frame) (calls : Calls) (known : ℕ → Known) (scalars : ℕ → ℕ) (a : Mask) (some : any gang a ≡ true) where
  abbrev lend : State → State
  lend = lent known scalars

  abbrev over : Sole → Val Payload
  over = over_set gang lend a

  abbrev told : TExpr → State → Sole
  told = sole frame scalars

  abbrev Alike : TExpr → Type 0
  Alike x = (s : State) → value gang frame calls (alone x) a (lend s) ≡ over (told x s)

  bind_over : (o : Sole) (go : ℕ → State → Sole) (does : Payload → State → Val Payload) → ((u : ℕ) (s : State) → does (One u) (lend s) ≡ over (go u s)) → bind (over o) does ≡ over (then_one o go)
  bind_over (Comes u s) go does h = h u s
  bind_over (Traps kind sp s) go does h = refl

  -- an operand, and what goes on from it
  operand : (x : TExpr) → Alike x → (s : State) (go : ℕ → State → Sole) (does : Payload → State → Val Payload)
      → ((u : ℕ) (s1 : State) → does (One u) (lend s1) ≡ over (go u s1))
      → bind (value gang frame calls (alone x) a (lend s)) does ≡ over (then_one (told x s) go)
  operand x h s go does k = ap (λ v. bind v does) (h s) ∙ bind_over (told x s) go does k

  checked_over : (b : Bool) (f : ℕ → Bool) (kind : TrapKind) (sp : Span) (s : State) (u : ℕ) → checked (if_fails gang f a b) kind sp (lend s) (One u) ≡ over (checked_one b kind sp s u)
  checked_over true f kind sp s u = checked_fails gang f a kind sp (lend s) (One u) some
  checked_over false f kind sp s u = refl

  -- a later operand
  logic_over : (l : Logic) (u : ℕ) (y : TExpr) → Alike y → (s : State) (b : Bool) → needs l u ≡ b
      → bind (value_unless_empty gang (kept_by (needs l) a (One u)) (lend s) (value gang frame calls (alone y))) (λ n s2. Gives (settled l a (One u) n) s2)
      ≡ over (if b then told y s else Comes u s)
  logic_over l u y h s true e =
      ap (λ v. bind v (λ n s2. Gives (settled l a (One u) n) s2)) (later_all gang a some (needs l u) (value gang frame calls (alone y)) (lend s) e ∙ h s)
      ∙ ap (λ b. bind (over (told y s)) (λ n s2. Gives (if b then n else One u) s2)) e ∙ bind_gives (over (told y s))
  logic_over l u y h s false e =
      ap (λ v. bind v (λ n s2. Gives (settled l a (One u) n) s2)) (later_none gang a some (needs l u) (value gang frame calls (alone y)) (lend s) e)
      ∙ ap (λ b. Gives (if b then nothing else One u) (lend s)) e

  choose_over : (k : ℕ) (x y : TExpr) → Alike x → Alike y → (s : State) (b : Bool) → is_true k ≡ b
      → bind (value_unless_empty gang (kept_by is_true a (One k)) (lend s) (value gang frame calls (alone x)))
      (λ m s2. bind (value_unless_empty gang (kept_by is_false a (One k)) s2 (value gang frame calls (alone y))) (λ n s3. Gives (selected a (One k) m n) s3))
      ≡ over (if b then told x s else told y s)
  choose_over k x y h i s true e =
      let first = value gang frame calls (alone x) in
      let second = value gang frame calls (alone y) in
      ap (λ v. bind v (λ m s2. bind (value_unless_empty gang (kept_by is_false a (One k)) s2 second) (λ n s3. Gives (selected a (One k) m n) s3)))
      (later_all gang a some (is_true k) first (lend s) e ∙ h s)
      ∙ bind_same (over (told x s)) _ (λ m s2. Gives m s2) (λ m s2. ap (λ v. bind v (λ n s3. Gives (selected a (One k) m n) s3)) (later_none gang a some (is_false k) second s2 (ap not e)) ∙ ap (λ b. Gives (if b then m else nothing) s2) e)
      ∙ bind_gives (over (told x s))
  choose_over k x y h i s false e =
      let first = value gang frame calls (alone x) in
      let second = value gang frame calls (alone y) in
      ap (λ v. bind v (λ m s2. bind (value_unless_empty gang (kept_by is_false a (One k)) s2 second) (λ n s3. Gives (selected a (One k) m n) s3)))
      (later_none gang a some (is_true k) first (lend s) e)
      ∙ ap (λ v. bind v (λ n s3. Gives (selected a (One k) nothing n) s3)) (later_all gang a some (is_false k) second (lend s) (ap not e) ∙ i s)
      ∙ ap (λ b. bind (over (told y s)) (λ n s3. Gives (if b then nothing else n) s3)) e ∙ bind_gives (over (told y s))

  -- ---- places

  shared : (r : Rate) → is_shared r ≡ true → r ≡ Uniform
  shared Uniform e = refl
  shared Varying e = absurd (cc)

  abbrev AlikePlace : TPlace → Type 0
  AlikePlace q = (s : State) → value gang frame calls (t_place (alone_place q)) a (lend s) ≡ over (sole_place frame scalars q s)

  lent_steady : (r : Rate) (v : ℕ) (s : State) (k : Known) → known v ≡ k → steady_read r k ≡ true → (if is_known (known v) then scalars v else s.uniforms v) ≡ read_one frame scalars r v s
  lent_steady Uniform v s Unknown e h = ap (λ k. if is_known k then scalars v else s.uniforms v) e
  lent_steady Uniform v s Steady e h = absurd (cc)
  lent_steady Uniform v s Linear e h = absurd (cc)
  lent_steady Varying v s Unknown e h = absurd (cc)
  lent_steady Varying v s Steady e h = ap (λ k. if is_known k then scalars v else s.uniforms v) e
  lent_steady Varying v s Linear e h = absurd (cc)

  lent_linear : (r : Rate) (v : ℕ) (s : State) (k : Known) → known v ≡ k → linear_read r k ≡ true → (if is_known (known v) then scalars v else s.uniforms v) ≡ read_one frame scalars r v s
  lent_linear Uniform v s k e h = absurd (cc)
  lent_linear Varying v s Unknown e h = absurd (cc)
  lent_linear Varying v s Steady e h = absurd (cc)
  lent_linear Varying v s Linear e h = ap (λ k. if is_known k then scalars v else s.uniforms v) e

  -- the element of a shared array
  abbrev element_at : ArrayVariable → Span → Elem → Payload → State → Val Payload
  element_at b sp e m s = checked (outside gang frame (Element b e m) a) Index sp s (held gang frame (Element b e m) a s)

  element_one : (b : ArrayVariable) (sp : Span) (e : Elem) (u : ℕ) (s : State) → is_shared b.ty.rate ≡ true
      → element_at b sp e (One u) (lend s) ≡ over (checked_one (is_outside e (extent frame b) u) Index sp s (s.arrays (frame.named b.number) (element e u)))
  element_one b sp e u s h =
      ap (λ r. checked (outside gang frame (Element b e (One u)) a) Index sp (lend s) (elements frame b e (One u) a r (lend s))) (shared b.ty.rate h)
      ∙ checked_over (is_outside e (extent frame b) u) (is_outside e (extent frame b)) Index sp s (s.arrays (frame.named b.number) (element e u))

  element_over : (b : ArrayVariable) (i : TExpr) (t : Ty) (sp : Span) → is_shared b.ty.rate ≡ true → Alike i → AlikePlace (t_element b i t sp)
  element_over b i t sp h k s =
      bind_bind (value gang frame calls (alone i) a (lend (tick s))) (λ m s1. Gives (Element b (type_of (alone i)).elem m) s1) _
      ∙ operand i k (tick s) _ (λ m s1. element_at b sp (type_of (alone i)).elem m s1)
      (λ u s1. ap (λ e. element_at b sp e (One u) (lend s1)) (alone_elem i) ∙ element_one b sp (type_of i).elem u s1 h)

  -- ---- nodes

  convert_over : (e : Elem) (x : TExpr) → Alike x → Alike (t_convert e x)
  convert_over e x h s = operand x h s _ _ (λ u s1. ap (λ f. Gives (One (converted f e u)) (lend s1)) (alone_elem x))

  binary_over : (op : BinOp) (x y : TExpr) (t : Ty) (sp : Span) → Alike x → Alike y → Alike (t_binary op x y t sp)
  binary_over op x y t sp h k s =
      operand x h (tick s) _ _ (λ u s1. operand y k s1 _ _ (λ w s2. checked_over (is_zero op t.elem w) (is_zero op t.elem) Divide sp s2 (op_bits op t.elem u w)))

  mutual
    pub alone_steady : (x : TExpr) → steady known x ≡ true → Alike x
    alone_steady (t_constant v sp) e s = refl
    alone_steady (t_program_index sp) e s = absurd (cc)
    alone_steady (t_place q) e s = place_steady q e s
    alone_steady (t_convert f x) e s = convert_over f x (alone_steady x e) s
    alone_steady (t_cast x t sp) e s = alone_steady x e (tick s)
    alone_steady (t_unary op x t sp) e s = operand x (alone_steady x e) (tick s) _ _ (λ u s1. refl)
    alone_steady (t_binary op x y t sp) e s = let k = both _ _ e in binary_over op x y t sp (alone_steady x k.0) (alone_steady y k.1) s
    alone_steady (t_compare c x y r sp) e s =
        let k = both _ _ e in
        operand x (alone_steady x k.0) (tick s) _ _
        (λ u s1. operand y (alone_steady y k.1) s1 _ _ (λ w s2. ap (λ f. Gives (One (compare_bits c f u w)) (lend s2)) (alone_elem x)))
    alone_steady (t_logic l x y r sp) e s =
        let k = both _ _ e in
        operand x (alone_steady x k.0) (tick s) _ _ (λ u s1. logic_over l u y (alone_steady y k.1) s1 (needs l u) refl)
    alone_steady (t_choose c x y t sp) e s =
        let k = both _ _ e in
        let j = both _ _ k.1 in
        operand c (alone_steady c k.0) (tick s) _ _ (λ u s1. choose_over u x y (alone_steady x j.0) (alone_steady y j.1) s1 (is_true u) refl)
    alone_steady (t_call c t) e s = absurd (cc)
    alone_steady (t_library f t xs ty sp) e s =
        let k = both _ _ e in
        values_steady xs k.1 (tick s) _ _ (λ us s1. ap (λ m. Gives m (lend s1)) (library_ones gang a t f us k.0))
    alone_steady (t_packed_store b x sp) e s = absurd (cc)
    alone_steady (t_packed_load b v sp) e s = absurd (cc)

    place_steady : (q : TPlace) → steady_place known q ≡ true → AlikePlace q
    place_steady (t_variable v t sp) e s = ap (λ u. Gives (One u) (tick (lend s))) (lent_steady t.rate v s (known v) refl e)
    place_steady (t_element b i t sp) e s = let k = both _ _ e in element_over b i t sp k.0 (alone_steady i k.1) s

    values_steady : (xs : TExprs) → all_steady known xs ≡ true → (s : State) (go : List ℕ → State → Sole) (does : List Payload → State → Val Payload)
        → ((us : List ℕ) (s1 : State) → does (ones us) (lend s1) ≡ over (go us s1))
        → bind (values gang frame calls (all_alone xs) a (lend s)) does ≡ over (soles frame scalars xs s go)
    values_steady t_no_exprs e s go does h = h [] s
    values_steady (t_expr_then x xs) e s go does h =
        let k = both _ _ e in
        bind_bind (value gang frame calls (alone x) a (lend s)) _ does
        ∙ operand x (alone_steady x k.0) s _ _
        (λ u s1. bind_bind (values gang frame calls (all_alone xs) a (lend s1)) _ does
        ∙ values_steady xs k.1 s1 (λ us s2. go (u ∷ us) s2) (λ ms s2. does (One u ∷ ms) s2) (λ us s2. h (u ∷ us) s2))

  -- ---- linear ones

  mutual
    pub alone_linear : (x : TExpr) → linear known x ≡ true → Alike x
    alone_linear (t_program_index sp) e s = refl
    alone_linear (t_place q) e s = place_linear q e s
    alone_linear (t_convert f x) e s = convert_over f x (alone_linear x (both _ _ e).0) s
    alone_linear (t_cast x t sp) e s = alone_linear x e (tick s)
    alone_linear (t_binary op x y t sp) e s =
        ⊎_elim (λ k. binary_over op x y t sp (alone_linear x k.0) (alone_steady y k.1) s) (λ k. binary_over op x y t sp (alone_steady x k.0) (alone_linear y k.1) s)
        (one_of op (linear known x) (steady known x) (linear known y) (steady known y) e)
    alone_linear (t_constant v sp) e s = absurd (cc)
    alone_linear (t_unary op x t sp) e s = absurd (cc)
    alone_linear (t_compare c x y r sp) e s = absurd (cc)
    alone_linear (t_logic l x y r sp) e s = absurd (cc)
    alone_linear (t_choose c x y t sp) e s = absurd (cc)
    alone_linear (t_call c t) e s = absurd (cc)
    alone_linear (t_library f t xs ty sp) e s = absurd (cc)
    alone_linear (t_packed_store b x sp) e s = absurd (cc)
    alone_linear (t_packed_load b v sp) e s = absurd (cc)

    place_linear : (q : TPlace) → linear_place known q ≡ true → AlikePlace q
    place_linear (t_variable v t sp) e s = ap (λ u. Gives (One u) (tick (lend s))) (lent_linear t.rate v s (known v) refl e)
    place_linear (t_element b i t sp) e s = absurd (cc)
