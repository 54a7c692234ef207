-- A value changes no variable but those that a packed load in it writes.
use Rattle.std.specs.Prelude.{◌≡◌, ℕ, zero, suc, Option, Some, None, Bool, true, false, ◌||◌, if◌then◌else◌, slice_get, nat_eq, List}
use Rattle.std.proofs.Common.{refl, ap, ◌∙◌}
use Rattle.isp_base.specs.Access.{is_zero}
use Rattle.isp_base.specs.Sets.{Mask, any, lowest}
use Rattle.isp_base.specs.Maps.{over}
use Rattle.isp_base.specs.Types.{gang_width}
use Rattle.isp_base.specs.declared.types.Rate.TheVariants.{Varying}
use Rattle.isp_base.specs.declared.types.Span.{Span}
use Rattle.isp_base.specs.declared.types.Ty.{Ty}
use Rattle.isp_base.specs.declared.trap.TrapKind.{TrapKind}
use Rattle.isp_base.specs.declared.trap.TrapKind.TheVariants.{Divide, Index}
use Rattle.isp_typed.specs.Typed.{TExpr, t_constant, t_program_index, t_place, t_convert, t_cast, t_unary, t_binary, t_compare, t_logic, t_choose, t_call, t_library, t_packed_store}
use Rattle.isp_typed.specs.Typed.{t_packed_load, TPlace, t_variable, t_element, TBase, t_whole, t_from, TArgument, t_by_value, t_by_name, TCall, t_called, TArguments}
use Rattle.isp_typed.specs.Typed.{t_no_arguments, t_argument_then, TExprs, t_no_exprs, t_expr_then, place_span, TFunction, Program}
use Rattle.isp_meaning.specs.State.{State, Frame, tick, extent}
use Rattle.isp_meaning.specs.Payloads.{Payload, is_true, is_false, spread, kept_by, nothing, offender}
use Rattle.isp_meaning.specs.Outcomes.{Val, Gives, Fails, Stops, Res, Went, Trapped, Cut, bind, checked, if_so, value_unless_empty}
use Rattle.isp_meaning.specs.Places.{outside, written}
use Rattle.isp_base.specs.Cross.{packed_outside}
use Rattle.isp_meaning.specs.Expressions.{Passed, Calls, needs, base_array, value, place, first_element, values, call, arguments, passed}
use Rattle.isp_meaning.specs.Calls.{ended, called, calls_at}
use Rattle.isp_meaning.specs.Loads.{no_variable, either, loads, place_loads, base_loads, all_load, call_loads, arguments_load, argument_loads, KeepsVariables, KeepsBy, VariablesStay}

neither : (b c : Bool) → (b || c) ≡ false → (b ≡ false) × (c ≡ false)
neither true c e = absurd (cc)
neither false c e = (refl, e)

-- ---- one change after another

pub same : (but : ℕ → Bool) (s : State) → KeepsVariables but s s
same but s = (refl, λ v h. refl, refl, refl, refl)

keeps_on : (b c : ℕ → Bool) (s s1 s2 : State) → KeepsVariables b s s1 → KeepsVariables c s1 s2 → KeepsVariables (either b c) s s2
keeps_on b c s s1 s2 h k = (
  k.0 ∙ h.0,
  λ v e. let no = neither (b v) (c v) e in k.1 v no.1 ∙ h.1 v no.0,
  k.2 ∙ h.2,
  k.3 ∙ h.3,
  k.4 ∙ h.4,
)

-- and one that changes nothing
keeps_still : (b : ℕ → Bool) (s s1 s2 : State) → KeepsVariables b s s1 → KeepsVariables no_variable s1 s2 → KeepsVariables b s s2
keeps_still b s s1 s2 h k = (k.0 ∙ h.0, λ v e. k.1 v refl ∙ h.1 v e, k.2 ∙ h.2, k.3 ∙ h.3, k.4 ∙ h.4)

by_on : {A : Type 0} (b c : ℕ → Bool) (s s1 : State) (v : Val A) → KeepsVariables b s s1 → KeepsBy c s1 v → KeepsBy (either b c) s v
by_on b c s s1 (Gives x s2) h k = keeps_on b c s s1 s2 h k
by_on b c s s1 (Fails t s2) h k = tt
by_on b c s s1 (Stops s2) h k = tt

by_still : {A : Type 0} (b : ℕ → Bool) (s s1 : State) (v : Val A) → KeepsVariables b s s1 → KeepsBy no_variable s1 v → KeepsBy b s v
by_still b s s1 (Gives x s2) h k = keeps_still b s s1 s2 h k
by_still b s s1 (Fails t s2) h k = tt
by_still b s s1 (Stops s2) h k = tt

bind_keeps : {A B : Type 0} (b c : ℕ → Bool) (s : State) (v : Val A) (go : A → State → Val B) → KeepsBy b s v → ((x : A) (s1 : State) → KeepsBy c s1 (go x s1)) → KeepsBy (either b c) s (bind v go)
bind_keeps b c s (Gives x s1) go h f = by_on b c s s1 (go x s1) h (f x s1)
bind_keeps b c s (Fails t s1) go h f = tt
bind_keeps b c s (Stops s1) go h f = tt

bind_still : {A B : Type 0} (b : ℕ → Bool) (s : State) (v : Val A) (go : A → State → Val B) → KeepsBy b s v → ((x : A) (s1 : State) → KeepsBy no_variable s1 (go x s1)) → KeepsBy b s (bind v go)
bind_still b s (Gives x s1) go h f = by_still b s s1 (go x s1) h (f x s1)
bind_still b s (Fails t s1) go h f = tt
bind_still b s (Stops s1) go h f = tt

checked_keeps : {A : Type 0} (but : ℕ → Bool) (o : Option ℕ) (k : TrapKind) (sp : Span) (s : State) (x : A) → KeepsBy but s (checked o k sp s x)
checked_keeps but None k sp s x = same but s
checked_keeps but (Some i) k sp s x = tt

unless_keeps : (but : ℕ → Bool) (gang : ℕ) (a : Mask) (s : State) (f : Mask → State → Val Payload) → KeepsBy but s (f a s) → KeepsBy but s (value_unless_empty gang a s f)
unless_keeps but gang a s f h = by (any gang a)
  where
    by : (t : Bool) → KeepsBy but s (if_so t (f a) (Gives nothing) s)
    by true = h
    by false = same but s

-- a varying variable is written
written_keeps : {A : Type 0} (v : ℕ) (a : Mask) (s : State) (o : Option ℕ) (k : TrapKind) (sp : Span) (x : Payload) (y : A) → KeepsBy (λ w. nat_eq w v) s (bind (checked o k sp (tick s) x) (λ n s2. Gives y (written Varying v a n s2)))
written_keeps v a s None k sp x y = (refl, λ w h. ap (λ t. if t then over (spread a x) (s.varying v) else s.varying w) h, refl, refl, refl)
written_keeps v a s (Some i) k sp x y = tt

-- ---- expressions

abbrev CallsKeep : Calls → Type 0
CallsKeep calls = (f : ℕ) (sp : Span) (a : Mask) (xs : List Passed) (frame : Frame) (s : State) → KeepsBy no_variable s (calls f sp a xs frame s)

module _ (gang : ℕ) (frame : Frame) (calls : Calls) (keep : CallsKeep calls) where
  mutual
    pub value_keeps : (x : TExpr) (a : Mask) (s : State) → KeepsBy (loads x) s (value gang frame calls x a s)
    value_keeps (t_constant v sp) a s = same no_variable s
    value_keeps (t_program_index sp) a s = same no_variable s
    value_keeps (t_place q) a s =
        bind_still (place_loads q) s _ _ (place_keeps q a s) (λ r s1. checked_keeps no_variable (outside gang frame r a) Index (place_span q) s1 _)
    value_keeps (t_convert e x) a s = bind_still (loads x) s _ _ (value_keeps x a s) (λ m s1. same no_variable s1)
    value_keeps (t_cast x t sp) a s = value_keeps x a (tick s)
    value_keeps (t_unary o x t sp) a s = bind_still (loads x) s _ _ (value_keeps x a (tick s)) (λ m s1. same no_variable s1)
    value_keeps (t_binary o x y t sp) a s =
        bind_keeps (loads x) (loads y) s _ _ (value_keeps x a (tick s)) (λ m s1. bind_still (loads y) s1 _ _ (value_keeps y a s1) (λ n s2. checked_keeps no_variable (offender gang (is_zero o t.elem) a n) Divide sp s2 _))
    value_keeps (t_compare c x y r sp) a s =
        bind_keeps (loads x) (loads y) s _ _ (value_keeps x a (tick s)) (λ m s1. bind_still (loads y) s1 _ _ (value_keeps y a s1) (λ n s2. same no_variable s2))
    value_keeps (t_logic l x y r sp) a s =
        bind_keeps (loads x) (loads y) s _ _ (value_keeps x a (tick s))
        (λ m s1. bind_still (loads y) s1 _ _ (unless_keeps (loads y) gang (kept_by (needs l) a m) s1 (value gang frame calls y)
        (value_keeps y (kept_by (needs l) a m) s1)) (λ n s2. same no_variable s2))
    value_keeps (t_choose c x y t sp) a s =
        bind_keeps (loads c) (either (loads x) (loads y)) s _ _ (value_keeps c a (tick s))
        (λ k s1. bind_keeps (loads x) (loads y) s1 _ _ (unless_keeps (loads x) gang (kept_by is_true a k) s1 (value gang frame calls x) (value_keeps x (kept_by is_true a k) s1))
        (λ m s2. bind_still (loads y) s2 _ _ (unless_keeps (loads y) gang (kept_by is_false a k) s2 (value gang frame calls y) (value_keeps y (kept_by is_false a k) s2)) (λ n s3. same no_variable s3)))
    value_keeps (t_call c t) a s = call_keeps c a s
    value_keeps (t_library f e xs t sp) a s = bind_still (all_load xs) s _ _ (values_keep xs a (tick s)) (λ ms s1. same no_variable s1)
    value_keeps (t_packed_store b x sp) a s =
        bind_keeps (base_loads b) (loads x) s _ _ (first_keeps b a (tick s))
        (λ z s1. bind_still (loads x) s1 _ _ (value_keeps x a s1) (λ m s2. bind_still no_variable s2 _ _ (checked_keeps no_variable (lowest gang (packed_outside (extent frame (base_array b)) z a)) Index sp s2 m) (λ n s3. same no_variable s3)))
    value_keeps (t_packed_load b v sp) a s =
        bind_keeps (base_loads b) (λ w. nat_eq w v) s _ _ (first_keeps b a (tick s))
        (λ z s1. written_keeps v a s1 (lowest gang (packed_outside (extent frame (base_array b)) z a)) Index sp _ _)

    place_keeps : (q : TPlace) (a : Mask) (s : State) → KeepsBy (place_loads q) s (place gang frame calls q a s)
    place_keeps (t_variable v t sp) a s = same no_variable s
    place_keeps (t_element b i t sp) a s = bind_still (loads i) s _ _ (value_keeps i a (tick s)) (λ m s1. same no_variable s1)

    first_keeps : (b : TBase) (a : Mask) (s : State) → KeepsBy (base_loads b) s (first_element gang frame calls b a s)
    first_keeps (t_whole b sp) a s = same no_variable s
    first_keeps (t_from b i sp) a s = bind_still (loads i) s _ _ (value_keeps i a (tick s)) (λ m s1. same no_variable s1)

    values_keep : (xs : TExprs) (a : Mask) (s : State) → KeepsBy (all_load xs) s (values gang frame calls xs a s)
    values_keep t_no_exprs a s = same no_variable s
    values_keep (t_expr_then x xs) a s =
        bind_keeps (loads x) (all_load xs) s _ _ (value_keeps x a s) (λ m s1. bind_still (all_load xs) s1 _ _ (values_keep xs a s1) (λ ms s2. same no_variable s2))

    call_keeps : (c : TCall) (a : Mask) (s : State) → KeepsBy (call_loads c) s (call gang frame calls c a s)
    call_keeps (t_called f xs sp) a s = bind_still (arguments_load xs) s _ _ (arguments_keep xs a (tick s)) (λ ps s1. keep f sp a ps frame s1)

    pub arguments_keep : (xs : TArguments) (a : Mask) (s : State) → KeepsBy (arguments_load xs) s (arguments gang frame calls xs a s)
    arguments_keep t_no_arguments a s = same no_variable s
    arguments_keep (t_argument_then x xs) a s =
        bind_keeps (argument_loads x) (arguments_load xs) s _ _ (argument_keeps x a s) (λ m s1. bind_still (arguments_load xs) s1 _ _ (arguments_keep xs a s1) (λ ms s2. same no_variable s2))

    argument_keeps : (x : TArgument) (a : Mask) (s : State) → KeepsBy (argument_loads x) s (passed gang frame calls x a s)
    argument_keeps (t_by_value x) a s = bind_still (loads x) s _ _ (value_keeps x a s) (λ m s1. same no_variable s1)
    argument_keeps (t_by_name b sp) a s = same no_variable s

-- ---- calls: the caller has its variables as they were

ended_keeps : (t : Option Ty) (frame : Frame) (a : Mask) (before : State) (v : Res) → KeepsBy no_variable before (ended t frame a before v)
ended_keeps t frame a before (Went s g b c r) = same no_variable before
ended_keeps t frame a before (Trapped x s) = tt
ended_keeps t frame a before (Cut s) = tt

pub calls_keep : (program : Program) (most left : ℕ) → CallsKeep (calls_at program most left)
calls_keep program most zero f sp a xs frame s = tt
calls_keep program most (suc left) f sp a xs frame s = by (slice_get program.functions f)
  where
    by : (o : Option TFunction) → KeepsBy no_variable s (called program most (calls_at program most left) o a xs frame s)
    by None = tt
    by (Some g) = ended_keeps g.answer frame a s _

pub variables_stay : VariablesStay
variables_stay program most left frame x a s = value_keeps (gang_width program.gang) frame (calls_at program most left) (calls_keep program most left) x a s
