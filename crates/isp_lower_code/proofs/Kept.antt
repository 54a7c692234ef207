-- What later code leaves as it is: spare registers of lower slots, constants that are kept, and variables, but for the varying ones that packed loads of the function
-- write.
use Rattle.std.proofs.Common.{◌≡◌, ℕ, ◌+◌, ◌<◌, ◌≤◌, List, [], ◌∷◌, Option, Some, None, Bool, true, false, refl, sym, ap, ◌∙◌, subst, arith, ◌⊎◌, inl, inr, eqb-true}
use Rattle.std.specs.Prelude.{◌||◌, nat_eq}
use Rattle.isp_base.specs.Maps.{Lanes, on}
use Rattle.isp_base.specs.Sets.{Mask, any}
use Rattle.isp_base.specs.Types.{gang_width}
use Rattle.isp_base.specs.declared.trap.TrapKind.{TrapKind}
use Rattle.isp_base.specs.declared.types.Elem.{Elem}
use Rattle.isp_base.specs.declared.types.Rate.{Rate}
use Rattle.isp_base.specs.declared.types.Rate.TheVariants.{Uniform, Varying}
use Rattle.isp_base.specs.declared.types.Span.{Span}
use Rattle.isp_code.specs.Conf.{Conf}
use Rattle.isp_typed.specs.Typed.{TExpr, t_constant, t_program_index, t_place, t_convert, t_cast, t_unary, t_binary, t_compare, t_logic, t_choose, t_call, t_library}
use Rattle.isp_typed.specs.Typed.{t_packed_store, t_packed_load, t_variable, t_element, TBase, t_whole, t_from, TArgument, t_by_value, t_by_name, TCall, t_called}
use Rattle.isp_typed.specs.Typed.{TArguments, t_no_arguments, t_argument_then, TExprs, t_no_exprs, t_expr_then, type_of}
use Rattle.isp_meaning.specs.State.{State}
use Rattle.isp_meaning.specs.Payloads.{Payload, One, Each, nothing}
use Rattle.isp_meaning.specs.Outcomes.{Val, Gives, Fails, Stops, bind, checked, if_so, value_unless_empty}
use Rattle.isp_meaning.specs.Expressions.{value, values, arguments}
use Rattle.isp_meaning.specs.Loads.{loads, base_loads, all_load, call_loads, arguments_load, argument_loads, KeepsVariables, KeepsBy}
use Rattle.isp_meaning.proofs.Loads.{same, arguments_keep, calls_keep, variables_stay}
use Rattle.isp_base.specs.declared.types.Ty.{Ty}
use Rattle.isp_typed.specs.Fine.{params_of}
use Rattle.isp_typed.specs.declared.variable.Holds.{Holds}
use Rattle.isp_typed.specs.declared.variable.Holds.TheVariants as holds
use Rattle.isp_typed.specs.declared.variable.Variable.{Variable as Declared}
use Rattle.isp_steady.specs.Known.{is_known}
use Rattle.isp_lower_code.specs.Callees.{later}
use Rattle.isp_lower_code.specs.Found.{is_copied}
use Rattle.isp_lower_code.specs.Layout.{Layout}
use Rattle.isp_lower_code.specs.Library.{library_rates}
use Rattle.isp_lower_code.specs.Setting.{Setting, IsSettled, gang_of, calls_of, Stands, Spares, held_at}
use Rattle.isp_lower_code.specs.Runs.{Runs}
pub use Rattle.isp_lower_code.proofs.Base.{IsRead, is_read}
use Rattle.isp_lower_code.proofs.Parts.{ExprParts, BaseParts, ValuesParts, CallParts, ArgumentsParts, ArgumentParts}
use Rattle.isp_lower_code.specs.Asks.{first_slot, second_slot}
use Rattle.isp_lower_code.specs.Consecutive.{RunHolds}

-- the register of a constant that is kept
abbrev pub IsKept : Layout → Rate → ℕ → Type 0
IsKept l r x = (t : Elem) × (b : ℕ) × (l.kept r t b ≡ true) × (x ≡ l.constant r t b)

-- the register of a variable that is read in place
abbrev pub ReadInPlace : Setting → Rate → ℕ → Type 0
ReadInPlace w r x = (v : ℕ) × (is_copied w.layout r v ≡ false) × (x ≡ w.layout.variable r v) × IsRead w r v

-- such a register, that of a constant that is kept, or a spare one of a slot below n
abbrev pub Low : Setting → Rate → ℕ → ℕ → Type 0
Low w r n x = ReadInPlace w r x ⊎ (((t : Elem) × (j : ℕ) × (j < n) × (x ≡ w.layout.spare r t j)) ⊎ IsKept w.layout r x)

pub low_more : (w : Setting) (r : Rate) (n m x : ℕ) → n ≤ m → Low w r n x → Low w r m x
low_more w r n m x le (inl v) = inl v
low_more w r n m x le (inr (inl j)) = inr (inl (j.0, j.1, omega (arith, j.2), j.3))
low_more w r n m x le (inr (inr k)) = inr (inr k)

pub low_spare : (w : Setting) (r : Rate) (t : Elem) (n j : ℕ) → j < n → Low w r n (w.layout.spare r t j)
low_spare w r t n j lt = inr (inl (t, j, lt, refl))

-- such a register, that of a constant that is kept, or a spare one of this slot
abbrev pub Placed : Setting → Rate → ℕ → ℕ → Type 0
Placed w r n x = ReadInPlace w r x ⊎ (((t : Elem) × (x ≡ w.layout.spare r t n)) ⊎ IsKept w.layout r x)

pub placed_low : (w : Setting) (r : Rate) (n m x : ℕ) → n < m → Placed w r n x → Low w r m x
placed_low w r n m x lt (inl v) = inl v
placed_low w r n m x lt (inr (inl t)) = inr (inl (t.0, n, lt, t.1))
placed_low w r n m x lt (inr (inr k)) = inr (inr k)

pub record KeepsLow (w : Setting) (n : ℕ) (scalars : ℕ → ℕ) (vectors : ℕ → Lanes) (scalars' : ℕ → ℕ) (vectors' : ℕ → Lanes) : Type 0 where
  pub scalars_stay : (x : ℕ) → Low w Uniform n x → scalars' x ≡ scalars x
  pub vectors_stay : (x : ℕ) → Low w Varying n x → vectors' x ≡ vectors x
  pub place_stays : (i : ℕ) → w.layout.run ≡ Some i → scalars' (w.layout.place Uniform) ≡ scalars (w.layout.place Uniform)
  pub singles_stay : (v : ℕ) → is_known (w.layout.known v) ≡ true → scalars' (w.layout.variable Uniform v) ≡ scalars (w.layout.variable Uniform v)

abbrev pub Keeps : Setting → ℕ → Conf → Conf → Type 0
Keeps w n c c' = KeepsLow w n c.scalars c.vectors c'.scalars c'.vectors

module _ (w : Setting) where
  -- a value that changes no other variable keeps these registers
  pub kept_of : (n : ℕ) (c c' : Conf) (s s' : State) → Stands w s c → Stands w s' c' → KeepsVariables w.layout.loaded s s' → Spares w n c c' → Keeps w n c c'
  kept_of n c c' s s' st st' k sp = record { scalars_stay = scalar; vectors_stay = vector; place_stays = λ i e. place w.layout.run i e st.run st'.run; singles_stay = sp.singles_stay }
    where
      scalar : (x : ℕ) → Low w Uniform n x → c'.scalars x ≡ c.scalars x
      scalar x (inl v) = ap c'.scalars v.2 ∙ st'.uniforms v.0 v.3 ∙ ap (λ f. f v.0) k.0 ∙ sym (st.uniforms v.0 v.3) ∙ ap c.scalars (sym v.2)
      scalar x (inr (inl j)) = ap c'.scalars j.3 ∙ sp.scalars_stay j.0 j.1 j.2 ∙ ap c.scalars (sym j.3)
      scalar x (inr (inr g)) = ap c'.scalars g.3 ∙ st'.constants Uniform g.0 g.1 g.2 ∙ sym (st.constants Uniform g.0 g.1 g.2) ∙ ap c.scalars (sym g.3)

      place : (o : Option ℕ) (i : ℕ) → o ≡ Some i → RunHolds o w.start w.members (c.scalars (w.layout.place Uniform)) s.varying
          → RunHolds o w.start w.members (c'.scalars (w.layout.place Uniform)) s'.varying
          → c'.scalars (w.layout.place Uniform) ≡ c.scalars (w.layout.place Uniform)
      place None i e h h' = absurd (cc)
      place (Some j) i e h h' = h'.0 ∙ sym h.0

      vector : (x : ℕ) → Low w Varying n x → c'.vectors x ≡ c.vectors x
      vector x (inl v) = ap c'.vectors v.2 ∙ st'.varying v.0 ∙ k.1 v.0 v.1 ∙ sym (st.varying v.0) ∙ ap c.vectors (sym v.2)
      vector x (inr (inl j)) = ap c'.vectors j.3 ∙ sp.vectors_stay j.0 j.1 j.2 ∙ ap c.vectors (sym j.3)
      vector x (inr (inr g)) = ap c'.vectors g.3 ∙ st'.constants Varying g.0 g.1 g.2 ∙ sym (st.constants Varying g.0 g.1 g.2) ∙ ap c.vectors (sym g.3)

  -- and so does its code
  pub runs_kept : {A : Type 0} (c : Conf) (pc n q : ℕ) (P : A → Conf → Type 0) (v : Val A) (s : State) → Stands w s c → KeepsBy w.layout.loaded s v → Runs w c pc n q P v → Runs w c pc n q (λ x c'. P x c' × Keeps w n c c') v
  runs_kept c pc n q P (Gives x s1) s st k r = record {
    conf = r.conf;
    steps = r.steps;
    comes = r.comes;
    at = r.at;
    stands = r.stands;
    spares = r.spares;
    masks = r.masks;
    holds = (r.holds, kept_of n c r.conf s s1 st r.stands k r.spares);
    bound = r.bound;
  }
  runs_kept c pc n q P (Fails t s1) s st k r = r
  runs_kept c pc n q P (Stops s1) s st k r = r

  -- the state is the same
  pub kept_same : (n : ℕ) (c c' : Conf) (s : State) → Stands w s c → Stands w s c' → Spares w n c c' → Keeps w n c c'
  kept_same n c c' s st st' sp = kept_of n c c' s s st st' (same w.layout.loaded s) sp

  -- first one, then another that leaves more
  pub keeps_on : (n m : ℕ) (c c1 c2 : Conf) → n ≤ m → Keeps w n c c1 → Keeps w m c1 c2 → Keeps w n c c2
  keeps_on n m c c1 c2 le k h = record {
    scalars_stay = λ x low. h.scalars_stay x (low_more w Uniform n m x le low) ∙ k.scalars_stay x low;
    vectors_stay = λ x low. h.vectors_stay x (low_more w Varying n m x le low) ∙ k.vectors_stay x low;
    place_stays = λ i e. h.place_stays i e ∙ k.place_stays i e;
    singles_stay = λ v is. h.singles_stay v is ∙ k.singles_stay v is;
  }

  pub held_kept : (r : Rate) (n : ℕ) (c c' : Conf) (a : Mask) (x : ℕ) → Keeps w n c c' → Low w r n x → held_at r c'.scalars c'.vectors a x ≡ held_at r c.scalars c.vectors a x
  held_kept Uniform n c c' a x k low = ap One (k.scalars_stay x low)
  held_kept Varying n c c' a x k low = ap (λ v. Each (on a v)) (k.vectors_stay x low)

  -- ---- values that change no other variable

  -- one that is known is another one
  other_variable : (v u : ℕ) → w.layout.loaded u ≡ true → w.layout.loaded v ≡ false → nat_eq v u ≡ false
  other_variable v u known e = go (nat_eq v u) refl
    where
      go : (b : Bool) → nat_eq v u ≡ b → b ≡ false
      go false h = refl
      go true h = let no : true ≡ false = sym known ∙ ap w.layout.loaded (sym (eqb-true v u h)) ∙ e in absurd (cc)

  -- what packed loads in a tree write is known
  mutual
    pub known_loads : (x : TExpr) (n v : ℕ) → ExprParts w x n → w.layout.loaded v ≡ false → loads x v ≡ false
    known_loads (t_constant u sp) n v f e = refl
    known_loads (t_program_index sp) n v f e = refl
    known_loads (t_place (t_variable u t sp)) n v f e = refl
    known_loads (t_place (t_element b i t sp)) n v f e = known_loads i n v f.0.4 e
    known_loads (t_convert u x) n v f e = known_loads x n v f.2 e
    known_loads (t_cast x t sp) n v f e = known_loads x n v f.1 e
    known_loads (t_unary o x t sp) n v f e = known_loads x n v f.2 e
    known_loads (t_binary o x y t sp) n v f e = ap (λ b. b || loads y v) (known_loads x n v f.3 e) ∙ known_loads y (n + 1) v f.4 e
    known_loads (t_compare c x y r sp) n v f e = ap (λ b. b || loads y v) (known_loads x n v f.3 e) ∙ known_loads y (n + 1) v f.4 e
    known_loads (t_logic g x y r sp) n v f e = ap (λ b. b || loads y v) (known_loads x n v f.3 e) ∙ known_loads y (n + 1) v f.4 e
    known_loads (t_choose c x y t sp) n v f e =
        ap (λ b. b || (loads x v || loads y v)) (known_loads c n v f.5 e) ∙ ap (λ b. b || loads y v) (known_loads x (first_slot (type_of c).rate n) v f.6 e) ∙ known_loads y (second_slot (type_of c).rate n) v f.7 e
    known_loads (t_call c t) n v f e = call_known c (Some t) n v f.1 e
    known_loads (t_library g u xs t sp) n v f e = values_known (library_rates g t.rate) xs n v f.2 e
    known_loads (t_packed_store b x sp) n v f e = ap (λ d. d || loads x v) (base_known b n v f.1 e) ∙ known_loads x (n + 1) v f.3 e
    known_loads (t_packed_load b u sp) n v f e = ap (λ d. d || nat_eq v u) (base_known b n v f.1 e) ∙ other_variable v u f.2 e

    base_known : (b : TBase) (n v : ℕ) → BaseParts w b n → w.layout.loaded v ≡ false → base_loads b v ≡ false
    base_known (t_whole b sp) n v f e = refl
    base_known (t_from b i sp) n v f e = known_loads i n v f.4 e

    values_known : (rs : List Rate) (xs : TExprs) (n v : ℕ) → ValuesParts w rs xs n → w.layout.loaded v ≡ false → all_load xs v ≡ false
    values_known rs t_no_exprs n v f e = refl
    values_known rs (t_expr_then x xs) n v f e = ap (λ b. b || all_load xs v) (known_loads x n v f.1 e) ∙ values_known (later rs) xs (n + 1) v f.2 e

    call_known : (c : TCall) (answer : Option Ty) (n v : ℕ) → CallParts w c answer n → w.layout.loaded v ≡ false → call_loads c v ≡ false
    call_known (t_called g xs sp) answer n v f e = arguments_known (params_of f.0) xs n v f.3 e

    pub arguments_known : (vs : List Declared) (xs : TArguments) (n v : ℕ) → ArgumentsParts w vs xs n → w.layout.loaded v ≡ false → arguments_load xs v ≡ false
    arguments_known [] t_no_arguments n v f e = refl
    arguments_known [] (t_argument_then x xs) n v f e = absurd f
    arguments_known (y ∷ vs) t_no_arguments n v f e = absurd f
    arguments_known (y ∷ vs) (t_argument_then x xs) n v f e =
        ap (λ b. b || arguments_load xs v) (argument_known y.holds x n v f.0 e) ∙ arguments_known vs xs (n + 1) v f.1 e

    argument_known : (y : Holds) (x : TArgument) (n v : ℕ) → ArgumentParts w y x n → w.layout.loaded v ≡ false → argument_loads x v ≡ false
    argument_known (holds.Value t) (t_by_value x) n v f e = known_loads x n v f.1 e
    argument_known (holds.Value t) (t_by_name b sp) n v f e = absurd f
    argument_known (holds.Given u) (t_by_value x) n v f e = absurd f
    argument_known (holds.Given u) (t_by_name b sp) n v f e = refl
    argument_known (holds.Local t m) (t_by_value x) n v f e = absurd f
    argument_known (holds.Local t m) (t_by_name b sp) n v f e = absurd f

  still_by : {A : Type 0} (b : ℕ → Bool) (s : State) (v : Val A) → ((u : ℕ) → w.layout.loaded u ≡ false → b u ≡ false) → KeepsBy b s v → KeepsBy w.layout.loaded s v
  still_by b s (Gives x s1) without k = (k.0, λ u e. k.1 u (without u e), k.2, k.3, k.4)
  still_by b s (Fails t s1) without k = tt
  still_by b s (Stops s1) without k = tt

  still_on : {A : Type 0} (s s1 : State) (v : Val A) → KeepsVariables w.layout.loaded s s1 → KeepsBy w.layout.loaded s1 v → KeepsBy w.layout.loaded s v
  still_on s s1 (Gives x s2) k h = (h.0 ∙ k.0, λ u e. h.1 u e ∙ k.1 u e, h.2 ∙ k.2, h.3 ∙ k.3, h.4 ∙ k.4)
  still_on s s1 (Fails t s2) k h = tt
  still_on s s1 (Stops s2) k h = tt

  still_both : {A B : Type 0} (s : State) (v : Val A) (go : A → State → Val B) → KeepsBy w.layout.loaded s v → ((x : A) (s1 : State) → KeepsBy w.layout.loaded s1 (go x s1)) → KeepsBy w.layout.loaded s (bind v go)
  still_both s (Gives x s1) go k f = still_on s s1 (go x s1) k (f x s1)
  still_both s (Fails t s1) go k f = tt
  still_both s (Stops s1) go k f = tt

  pub checked_still : {A B : Type 0} (o : Option ℕ) (kind : TrapKind) (sp : Span) (s : State) (x : A) (f : A → B) → KeepsBy w.layout.loaded s (bind (checked o kind sp s x) (λ m s1. Gives (f m) s1))
  checked_still None kind sp s x f = same w.layout.loaded s
  checked_still (Some p) kind sp s x f = tt

  pub unless_still : (gang : ℕ) (a : Mask) (s : State) (v : Mask → State → Val Payload) → KeepsBy w.layout.loaded s (v a s) → KeepsBy w.layout.loaded s (value_unless_empty gang a s v)
  unless_still gang a s v k = go (any gang a)
    where
      go : (b : Bool) → KeepsBy w.layout.loaded s (if_so b (v a) (Gives nothing) s)
      go true = k
      go false = same w.layout.loaded s

module _ (w : Setting) (ready : IsSettled w) where
  pub value_still : (x : TExpr) (n : ℕ) (a : Mask) (s : State) → ExprParts w x n → KeepsBy w.layout.loaded s (value (gang_of w) w.frame (calls_of w) x a s)
  value_still x n a s f =
      still_by w (loads x) s _ (λ v e. known_loads w x n v f e) (subst (λ u. KeepsBy (loads x) s (value (gang_width u) w.frame (calls_of w) x a s)) (sym ready.gang) (variables_stay w.program w.turns w.left w.frame x a s))

  pub values_still : (rs : List Rate) (xs : TExprs) (n : ℕ) (a : Mask) (s : State) → ValuesParts w rs xs n → KeepsBy w.layout.loaded s (values (gang_of w) w.frame (calls_of w) xs a s)
  values_still rs t_no_exprs n a s f = same w.layout.loaded s
  values_still rs (t_expr_then x xs) n a s f =
      still_both w s (value (gang_of w) w.frame (calls_of w) x a s) _ (value_still x n a s f.1)
      (λ m s1. still_both w s1 (values (gang_of w) w.frame (calls_of w) xs a s1) _ (values_still (later rs) xs (n + 1) a s1 f.2) (λ ms s2. same w.layout.loaded s2))

  pub arguments_still : (vs : List Declared) (xs : TArguments) (n : ℕ) (a : Mask) (s : State) → ArgumentsParts w vs xs n → KeepsBy w.layout.loaded s (arguments (gang_of w) w.frame (calls_of w) xs a s)
  arguments_still vs xs n a s f =
      still_by w (arguments_load xs) s _ (λ v e. arguments_known w vs xs n v f e) (arguments_keep (gang_of w) w.frame (calls_of w) (calls_keep w.program w.turns w.left) xs a s)
