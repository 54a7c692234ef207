-- Arguments of a call, one after the other: what is left of them begins with the next one.
use Rattle.std.proofs.Common.{◌≡◌, ℕ, zero, suc, ◌<◌, ◌≤◌, ◌+◌, List, [], ◌∷◌, ◌++◌, length, drop, take, get_or, Option, Some, None, refl, sym, ap, subst, ◌∙◌, arith, append_assoc, append-nil}
use Rattle.std.specs.Prelude.{option_map, slice_get}
use Rattle.std.proofs.lemmas.List.{drop_more, drop_all}
use Rattle.std.proofs.lemmas.Option.{slice_get-map}
use Rattle.isp_base.specs.declared.types.Rate.{Rate}
use Rattle.isp_base.specs.declared.types.Rate.TheVariants.{Uniform, Varying}
use Rattle.isp_base.specs.declared.types.Span.{Span}
use Rattle.isp_code.specs.declared.instr.Call.{Call}
use Rattle.isp_code.specs.declared.instr.Instr.{Instr}
use Rattle.isp_code.specs.declared.instr.Instr.TheVariants as instr
use Rattle.isp_code.specs.declared.register.Register.{Register}
use Rattle.isp_typed.specs.declared.expr.TypedArgument as rust_argument
use Rattle.isp_typed.specs.declared.expr.TypedCall as rust_call
use Rattle.isp_typed.specs.declared.function.TypedFunction as rust_function
use Rattle.isp_typed.specs.declared.variable.Variable.{Variable}
use Rattle.isp_typed.specs.Typed.{TExpr, TArguments, t_arguments}
use Rattle.isp_typed.specs.Views.{argument_of, arguments_of, call_of, function_of, functions_of}
use Rattle.isp_lower_code.specs.Lines.{naming}
use Rattle.isp_lower_code.specs.Asks.{arguments_asks, call_asks, operand_asks}
use Rattle.isp_lower_code.specs.Callees.{later, next_rate, rate_held, rates_held, rates_in, rates_of}
use Rattle.isp_lower_code.specs.Code.{argument_code, argument_register, argument_registers, arguments_code, call_code, calling}
use Rattle.isp_lower_code.specs.Spans.{argument_places, arguments_places, call_places}
use Rattle.isp_lower.specs.Emitted.{Appends, Present}
use Rattle.isp_lower_code.specs.Layout.{Layout, mask_register}
use Rattle.isp_lower.specs.declared.types.Body.{Body}
use Rattle.isp_lower.specs.declared.types.Scope.{Scope}
use Rattle.isp_registers.proofs.Lemmas.{call_view, later_drop}
use Rattle.isp_lower.proofs.Landing.{appends_self, appends_then}

-- ---- the rate of the parameter of a number, and of those after it

no_rate : (j : ℕ) → next_rate (drop j []) ≡ Varying
no_rate zero = refl
no_rate (suc j) = refl

pub rate_past : (vs : List Variable) (n j : ℕ) → n ≤ j → next_rate (drop j (rates_held (take n vs))) ≡ Varying
rate_past [] zero j h = no_rate j
rate_past [] (suc n) j h = no_rate j
rate_past (v ∷ vs) zero j h = no_rate j
rate_past (v ∷ vs) (suc n) zero h = absurd (omega (arith, h))
rate_past (v ∷ vs) (suc n) (suc j) h = rate_past vs n j (omega (arith, h))

pub rate_none : (vs : List Variable) (n j : ℕ) → slice_get vs j ≡ None → next_rate (drop j (rates_held (take n vs))) ≡ Varying
rate_none [] zero j e = no_rate j
rate_none [] (suc n) j e = no_rate j
rate_none (v ∷ vs) zero j e = no_rate j
rate_none (v ∷ vs) (suc n) zero e = absurd (cc)
rate_none (v ∷ vs) (suc n) (suc j) e = rate_none vs n j e

pub rate_there : (vs : List Variable) (n j : ℕ) (v : Variable) → j < n → slice_get vs j ≡ Some v → next_rate (drop j (rates_held (take n vs))) ≡ rate_held v.holds
rate_there [] n zero v h e = absurd (cc)
rate_there [] n (suc j) v h e = absurd (cc)
rate_there (w ∷ vs) zero j v h e = absurd (omega (arith, h))
rate_there (w ∷ vs) (suc n) zero v h e = ap (λ o. held_or o) e
  where
    held_or : Option Variable → Rate
    held_or None = Varying
    held_or (Some u) = rate_held u.holds
rate_there (w ∷ vs) (suc n) (suc j) v h e = rate_there vs n j v (omega (arith, h)) e

pub rate_of_one : (gs : List rust_function.TypedFunction) (f j : ℕ) (g : rust_function.TypedFunction) → slice_get gs f ≡ Some g
    → next_rate (drop j (rates_in (functions_of gs) f)) ≡ next_rate (drop j (rates_held (take (length g.params.items) g.variables.items)))
rate_of_one gs f j g e = ap (λ o. next_rate (drop j (rates_of o))) (slice_get-map function_of gs f ∙ ap (option_map function_of) e)

pub rate_of_nobody : (gs : List rust_function.TypedFunction) (f j : ℕ) → slice_get gs f ≡ None → next_rate (drop j (rates_in (functions_of gs) f)) ≡ Varying
rate_of_nobody gs f j e = ap (λ o. next_rate (drop j (rates_of o))) (slice_get-map function_of gs f ∙ ap (option_map function_of) e) ∙ no_rate j

-- ---- what is asked for at any rate, is there for one

pub taken_at : (on : Scope) (r : Rate) (x : TExpr) (n : ℕ) → Present on (operand_asks Varying x n) → Present on (operand_asks r x n)
taken_at on Uniform x n f = (tt, f.1)
taken_at on Varying x n f = f

-- ---- code and registers

next_of : (all : List rust_argument.TypedArgument) (i : ℕ) (x : rust_argument.TypedArgument) → i < length all → x ≡ get_or all i x → drop i all ≡ x ∷ drop (i + 1) all
next_of all i x lt is = drop_more all i x lt ∙ ap (λ z. z ∷ drop (i + 1) all) (sym is)

module _ (l : Layout) (rs : List Rate) (all : List rust_argument.TypedArgument) (i : ℕ) where
  pub code_more : (x : rust_argument.TypedArgument) → i < length all → x ≡ get_or all i x → (a b h : Body) (k m : ℕ)
      → Appends a b (λ pc p. argument_code l (next_rate (drop i rs)) (argument_of x) pc p k m) (argument_places l (argument_of x))
      → Appends b h (λ pc p. arguments_code l (drop (i + 1) rs) (t_arguments (arguments_of (drop (i + 1) all))) pc p k (m + 1)) (arguments_places l (t_arguments (arguments_of (drop (i + 1) all))))
      → Appends a h (λ pc p. arguments_code l (drop i rs) (t_arguments (arguments_of (drop i all))) pc p k m) (arguments_places l (t_arguments (arguments_of (drop i all))))
  code_more x lt is a b h k m f g =
      let rest = t_arguments (arguments_of (drop (i + 1) all)) in
      subst (λ zs. Appends a h (λ pc p. arguments_code l (drop i rs) (t_arguments (arguments_of zs)) pc p k m) (arguments_places l (t_arguments (arguments_of zs)))) (sym (next_of all i x lt is))
      (appends_then a b h (λ pc p. argument_code l (next_rate (drop i rs)) (argument_of x) pc p k m) (λ pc p. arguments_code l (later (drop i rs)) rest pc p k (m + 1)) (argument_places l (argument_of x)) (arguments_places l rest) f
      (subst (λ qs. Appends b h (λ pc p. arguments_code l qs rest pc p k (m + 1)) (arguments_places l rest)) (sym (later_drop i rs)) g))

  pub code_end : length all ≤ i → (a : Body) (k m : ℕ) → Appends a a (λ pc p. arguments_code l (drop i rs) (t_arguments (arguments_of (drop i all))) pc p k m) (arguments_places l (t_arguments (arguments_of (drop i all))))
  code_end le a k m =
      subst (λ zs. Appends a a (λ pc p. arguments_code l (drop i rs) (t_arguments (arguments_of zs)) pc p k m) (arguments_places l (t_arguments (arguments_of zs)))) (sym (drop_all i all le)) (appends_self a)

  pub registers_more : (x : rust_argument.TypedArgument) → i < length all → x ≡ get_or all i x → (ds total : List Register) (m : ℕ)
      → ds ++ argument_registers l (drop i rs) (t_arguments (arguments_of (drop i all))) m ≡ total
      → (ds ++ argument_register l (next_rate (drop i rs)) (argument_of x) m ∷ []) ++ argument_registers l (drop (i + 1) rs) (t_arguments (arguments_of (drop (i + 1) all))) (m + 1) ≡ total
  registers_more x lt is ds total m e =
      let d = argument_register l (next_rate (drop i rs)) (argument_of x) m in
      let rest = t_arguments (arguments_of (drop (i + 1) all)) in
      append_assoc ds (d ∷ []) (argument_registers l (drop (i + 1) rs) rest (m + 1))
      ∙ ap (λ qs. ds ++ d ∷ argument_registers l qs rest (m + 1)) (sym (later_drop i rs))
      ∙ ap (λ zs. ds ++ argument_registers l (drop i rs) (t_arguments (arguments_of zs)) m) (sym (next_of all i x lt is))
      ∙ e

  pub registers_end : length all ≤ i → (ds total : List Register) (m : ℕ) → ds ++ argument_registers l (drop i rs) (t_arguments (arguments_of (drop i all))) m ≡ total → ds ≡ total
  registers_end le ds total m e =
      sym (append-nil ds) ∙ ap (λ zs. ds ++ argument_registers l (drop i rs) (t_arguments (arguments_of zs)) m) (sym (drop_all i all le)) ∙ e

-- ---- the instruction after the arguments, and its place

pub called_behind : (a b c : Body) (go : ℕ → Instr) (sp : Span) (m : ℕ) → m ≡ length a.places.items → Appends a b (λ pc p. []) (sp ∷ []) → Appends b c (λ pc p. go m ∷ []) [] → Appends a c (λ pc p. go p ∷ []) (sp ∷ [])
called_behind a b c go sp m is x y =
    record {
      code = y.code ∙ ap (λ z. z ++ go m ∷ []) (x.code ∙ append-nil a.code.items) ∙ ap (λ p. a.code.items ++ go p ∷ []) is;
      places = y.places ∙ append-nil b.places.items ∙ x.places;
      texts = y.texts ∙ x.texts;
    }

abbrev pub called_with : ℕ → Option Register → Register → ℕ → List Register → Call
called_with f d m p ds = record { function = f; result = d; mask = m; place = p; arguments = ds }

pub call_boxed : (l : Layout) (d : Option Register) (f p k n : ℕ) (xs : TArguments) (m : Register) (ds : List Register) (z : Call)
    → z ≡ called_with f d m 0 ds → m ≡ mask_register k → ds ≡ argument_registers l (l.rates f) xs n → naming p (instr.Call z) ≡ calling l d f xs p k n
call_boxed l d f p k n xs m ds z is masked passed =
    ap (λ y. naming p (instr.Call y)) is ∙ ap (λ y. instr.Call (called_with f d y p ds)) masked ∙ ap (λ ys. instr.Call (called_with f d (mask_register k) p ys)) passed

pub call_done : (l : Layout) (a b c : Body) (d : Option Register) (x : rust_call.TypedCall) (k n : ℕ)
    → Appends a b (λ pc p. arguments_code l (l.rates x.function) (t_arguments (arguments_of x.arguments.items)) pc p k n) (arguments_places l (t_arguments (arguments_of x.arguments.items)))
    → Appends b c (λ pc p. calling l d x.function (t_arguments (arguments_of x.arguments.items)) p k n ∷ []) (x.span ∷ [])
    → Appends a c (λ pc p. call_code l d (call_of x) pc p k n) (call_places l (call_of x))
call_done l a b c d x k n f g =
    let xs = t_arguments (arguments_of x.arguments.items) in
    subst (λ z. Appends a c (λ pc p. call_code l d z pc p k n) (call_places l z)) (sym (call_view x))
    (appends_then a b c (λ pc p. arguments_code l (l.rates x.function) xs pc p k n) (λ pc p. calling l d x.function xs p k n ∷ []) (arguments_places l xs) (x.span ∷ []) f g)

-- the number of the function fits, and what the arguments ask for is there
pub number_fits : (on : Scope) (x : rust_call.TypedCall) (n : ℕ) → Present on (call_asks (call_of x) n) → x.function < 4294967296
number_fits on x n f = (subst (λ z. Present on (call_asks z n)) (call_view x) f).0

pub arguments_there : (on : Scope) (x : rust_call.TypedCall) (n : ℕ) → Present on (call_asks (call_of x) n) → Present on (arguments_asks (t_arguments (arguments_of x.arguments.items)) n)
arguments_there on x n f = (subst (λ z. Present on (call_asks z n)) (call_view x) f).1
