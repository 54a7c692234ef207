-- What the task of an expression leaves to be done.
use Rattle.std.proofs.Common.{◌≡◌, arith, refl, sym, ap, subst, ◌∙◌, ℕ, List, [], ◌∷◌, ◌++◌, Bool, true, false, Bor, Vec, Global, Result, Err, append_assoc}
use Rattle.std.proofs.lemmas.List.{append-nil}
use Rattle.isp_base.specs.Access.{is_zero}
use Rattle.isp_base.specs.Values.{op_bits, compare_bits}
use Rattle.isp_base.specs.declared.operators.BinOp.{BinOp}
use Rattle.isp_base.specs.declared.operators.Compare.{Compare}
use Rattle.isp_base.specs.declared.operators.UnaryOp.{UnaryOp}
use Rattle.isp_base.specs.declared.trap.Trap.{Trap}
use Rattle.isp_base.specs.declared.trap.TrapKind.TheVariants.{Divide}
use Rattle.isp_base.specs.declared.types.Elem.{Elem}
use Rattle.isp_base.specs.declared.types.Rate.{Rate}
use Rattle.isp_base.specs.declared.types.Span.{Span}
use Rattle.isp_base.specs.declared.types.Ty.{Ty}
use Rattle.isp_typed.specs.declared.expr.TypedExpr.{TypedExpr}
use Rattle.isp_typed.specs.declared.variable.Logic.{Logic}
use Rattle.isp_typed.specs.Typed.{TExpr, t_convert, t_unary, t_binary, t_compare, t_logic, t_choose, elem_of}
use Rattle.isp_typed.specs.Views.{expr_of, exprs_of}
use Rattle.isp_meaning.specs.Payloads.{is_true, converted}
use Rattle.isp_meaning.specs.Expressions.{needs}
use Rattle.isp_base.specs.Unary.{unary_bits}
use Rattle.isp_solo_meaning.specs.Answers.{Answer, Has, Bad, Long, and_then, unless, choose}
use Rattle.isp_solo_meaning.specs.Values.{answer}
use Rattle.isp_solo_run.specs.Due.{value_due}
use Rattle.isp_solo_run.specs.Most.{one, two}
use Rattle.isp_solo_run.specs.Tasks.{DoesTask, Waits, WaitBoth, Gathers, both_due, FindsValue, Store, Goes, Trapped, go, given, gives, finds, gathers, gathered, join, does_task, does_both, store_seen, state_seen, value_at, values_at, bound_in, calls_in, Tells}
use Rattle.isp_solo_run.specs.declared.state.Single.{Single}
use Rattle.isp_solo_run.specs.declared.state.Stop.{Stop}
use Rattle.isp_solo_run.specs.declared.state.Stop.TheVariants as stop
use Rattle.isp_solo_run.specs.declared.tasks.Gathering.{Gathering}
use Rattle.isp_solo_run.specs.declared.tasks.Joining.{Joining}
use Rattle.isp_solo_run.specs.declared.tasks.Joining.TheVariants as joining
use Rattle.isp_solo_run.specs.declared.tasks.Task.TheVariants as task
use Rattle.isp_solo_run.proofs.Steps.{given_then, tells_by, tells_within}

-- the task of an expression, where its tree is known
pub seen_by : (q : Result (Unit {0}) Stop) (old new : Single) (x : Bor TypedExpr) (n : TExpr) (g : Store → Goes) → expr_of x.now ≡ n
    → finds old n (store_seen old) ≡ g (store_seen old) → Tells q old new g (value_due old.setting old.left n) → DoesTask q old new (task.Value x)
seen_by q old new x n g is e h =
    subst (λ (k : TExpr). FindsValue q old new k) (sym is) (tells_by (value_due old.setting old.left n) q old new (finds old n) g e h)

-- a value
pub given_bits : (r : Store) (a b : ℕ) → b ≡ a → given r (Has a r.state) ≡ gives b r
given_bits r a b is = ap (λ k. given r (Has k r.state)) (sym is)

module _ (old : Single) (r : Store) where
  pub convert_node : (y : Bor TypedExpr) (from to : Elem) → from ≡ elem_of (expr_of y.now) → finds old (t_convert to (expr_of y.now)) r ≡ does_both old (task.Value y) (task.Convert from to) r
  convert_node y from to typed =
      given_then r (value_at old.setting r (expr_of y.now) r.state) (λ fr l i s. Has (converted (elem_of (expr_of y.now)) to i) s)
      ∙ ap (λ k. does_both old (task.Value y) (task.Convert k to) r) (sym typed)

  pub unary_node : (y : Bor TypedExpr) (op : UnaryOp) (t : Ty) (sp : Span) → finds old (t_unary op (expr_of y.now) t sp) r ≡ does_both old (task.Value y) (task.Unary op t.elem) r
  unary_node y op t sp = given_then r (value_at old.setting r (expr_of y.now) r.state) (λ fr l i s. Has (unary_bits op t.elem i) s)

  pub binary_node : (y z : Bor TypedExpr) (op : BinOp) (t : Ty) (sp : Span) → finds old (t_binary op (expr_of y.now) (expr_of z.now) t sp) r ≡ does_both old (task.Value y) (task.Right (joining.Operate op t.elem sp) z) r
  binary_node y z op t sp =
      given_then r (value_at old.setting r (expr_of y.now) r.state)
      (λ fr l i s. and_then (answer (bound_in old.setting) old.setting.instance fr (calls_in old.setting l) (expr_of z.now) s) (λ j s2. unless (is_zero op t.elem j) Divide sp old.setting.instance s2 (op_bits op t.elem i j)))

  pub compare_node : (y z : Bor TypedExpr) (k : Compare) (from : Elem) (rate : Rate) (sp : Span) → from ≡ elem_of (expr_of y.now)
      → finds old (t_compare k (expr_of y.now) (expr_of z.now) rate sp) r ≡ does_both old (task.Value y) (task.Right (joining.Compare k from) z) r
  compare_node y z k from rate sp typed =
      given_then r (value_at old.setting r (expr_of y.now) r.state)
      (λ fr l i s. and_then (answer (bound_in old.setting) old.setting.instance fr (calls_in old.setting l) (expr_of z.now) s) (λ j s2. Has (compare_bits k (elem_of (expr_of y.now)) i j) s2))
      ∙ ap (λ e. does_both old (task.Value y) (task.Right (joining.Compare k e) z) r) (sym typed)

  pub logic_node : (y z : Bor TypedExpr) (l : Logic) (rate : Rate) (sp : Span) → finds old (t_logic l (expr_of y.now) (expr_of z.now) rate sp) r ≡ does_both old (task.Value y) (task.Logic l z) r
  logic_node y z l rate sp =
      given_then r (value_at old.setting r (expr_of y.now) r.state)
      (λ fr n i s. choose (needs l i) (answer (bound_in old.setting) old.setting.instance fr (calls_in old.setting n) (expr_of z.now)) (Has i) s)

  pub choose_node : (x y z : Bor TypedExpr) (t : Ty) (sp : Span) → finds old (t_choose (expr_of x.now) (expr_of y.now) (expr_of z.now) t sp) r ≡ does_both old (task.Value x) (task.Choose y z) r
  choose_node x y z t sp =
      given_then r (value_at old.setting r (expr_of x.now) r.state)
      (λ fr n i s. choose (is_true i) (answer (bound_in old.setting) old.setting.instance fr (calls_in old.setting n) (expr_of y.now)) (answer (bound_in old.setting) old.setting.instance fr (calls_in old.setting n) (expr_of z.now)) s)

  pub right_node : (j : Joining) (y : Bor TypedExpr) → does_task old (task.Right j y) r ≡ does_both old (task.Value y) (task.Join j r.value) r
  right_node j y = given_then r (value_at old.setting r (expr_of y.now) r.state) (λ fr l n s. join old.setting j r.value n s)

  -- ---- several values

  one_before : (g : Gathering) (before : List ℕ) (x : ℕ) (v : Answer (List ℕ))
      → given r (and_then (and_then v (λ is s2. Has (x ∷ is) s2)) (λ is s. gathered old.setting g (before ++ is) s)) ≡ given r (and_then v (λ is s. gathered old.setting g ((before ++ x ∷ []) ++ is) s))
  one_before g before x (Has is s) = ap (λ ys. given r (gathered old.setting g ys s)) (sym (append_assoc before (x ∷ []) is))
  one_before g before x (Bad t s) = refl
  one_before g before x (Long s) = refl

  pub values_next : (g : Gathering) (before : Vec ℕ Global) (y : Bor TypedExpr) (ys : Bor (List TypedExpr)) (xs : List TypedExpr) → xs ≡ y.now ∷ ys.now
      → gathers old g (exprs_of xs) before.items r ≡ does_both old (task.Value y) (task.Values g ys before) r
  values_next g before y ys xs is =
      ap (λ zs. gathers old g (exprs_of zs) before.items r) is ∙ by (value_at old.setting r (expr_of y.now) r.state)
    where
      by : (a : Answer ℕ) → given r (and_then (and_then a (λ i s1. and_then (values_at old.setting r (exprs_of ys.now) s1) (λ is s2. Has (i ∷ is) s2))) (λ is s. gathered old.setting g (before.items ++ is) s))
          ≡ go (given r a) (does_task old (task.Values g ys before))
      by (Has i s1) = one_before g before.items i (values_at old.setting r (exprs_of ys.now) s1)
      by (Bad t s1) = refl
      by (Long s1) = refl

  pub values_none : (g : Gathering) (before : List ℕ) (xs : List TypedExpr) → xs ≡ [] → gathers old g (exprs_of xs) before r ≡ given r (gathered old.setting g before r.state)
  values_none g before xs none = ap (λ zs. gathers old g (exprs_of zs) before r) none ∙ ap (λ ys. given r (gathered old.setting g ys r.state)) (append-nil before)

  -- ---- tests

  pub logic_needed : (l : Logic) (y : Bor TypedExpr) (b : Bool) → needs l r.value ≡ b → b ≡ true → does_task old (task.Logic l y) r ≡ does_task old (task.Value y) r
  logic_needed l y b is t = ap (λ k. given r (choose k (value_at old.setting r (expr_of y.now)) (Has r.value) r.state)) (is ∙ t)

  pub logic_settled : (l : Logic) (y : Bor TypedExpr) (b : Bool) → needs l r.value ≡ b → b ≡ false → does_task old (task.Logic l y) r ≡ gives r.value r
  logic_settled l y b is t = ap (λ k. given r (choose k (value_at old.setting r (expr_of y.now)) (Has r.value) r.state)) (is ∙ t)

-- ---- how much is left

module _ (q : Result (Unit {0}) Stop) (old new : Single) where
  pub values_none_tells : (g : Gathering) (before : List ℕ) (xs : List TypedExpr) (f : Store → Goes) → xs ≡ [] → given (store_seen old) (gathered old.setting g before (state_seen old)) ≡ f (store_seen old) → Tells q old new f 0 → Gathers q old new g (exprs_of xs) before
  values_none_tells g before xs f none e h =
      subst (λ ys. Gathers q old new g (exprs_of ys) before) (sym none) (tells_by 0 q old new (gathers old g [] before) f (values_none old (store_seen old) g before [] refl ∙ e) h)

  pub values_next_tells : (g : Gathering) (before : Vec ℕ Global) (y : Bor TypedExpr) (ys : Bor (List TypedExpr)) (xs : List TypedExpr) → xs ≡ y.now ∷ ys.now → WaitBoth q old new (task.Value y) (task.Values g ys before)
      → Gathers q old new g (exprs_of xs) before.items
  values_next_tells g before y ys xs is h =
      subst (λ zs. Gathers q old new g (exprs_of zs) before.items) (sym is)
      (tells_by (both_due old (task.Value y) (task.Values g ys before)) q old new (gathers old g (exprs_of (y.now ∷ ys.now)) before.items) (does_both old (task.Value y) (task.Values g ys before)) (values_next old (store_seen old) g before y ys (y.now ∷ ys.now) refl) h)

  -- a later operand where it is needed, and one of two values
  pub needed_tells : (l : Logic) (y : Bor TypedExpr) (b : Bool) → needs l old.value ≡ b → b ≡ true → Waits q old new (task.Value y) → DoesTask q old new (task.Logic l y)
  needed_tells l y b is t h = tells_by (one (value_due old.setting old.left (expr_of y.now))) q old new (does_task old (task.Logic l y)) (does_task old (task.Value y)) (logic_needed old (store_seen old) l y b is t) h

  pub settled_tells : (l : Logic) (y : Bor TypedExpr) (b : Bool) → needs l old.value ≡ b → b ≡ false → Tells q old new (gives old.value) 0 → DoesTask q old new (task.Logic l y)
  settled_tells l y b is t h =
      tells_within 0 (one (value_due old.setting old.left (expr_of y.now))) q old new (does_task old (task.Logic l y)) (omega arith)
      (tells_by 0 q old new (does_task old (task.Logic l y)) (gives old.value) (logic_settled old (store_seen old) l y b is t) h)

  pub chosen_tells : (x y : Bor TypedExpr) → is_true old.value ≡ true → Waits q old new (task.Value x) → DoesTask q old new (task.Choose x y)
  chosen_tells x y t h =
      tells_within (one (value_due old.setting old.left (expr_of x.now))) (two (value_due old.setting old.left (expr_of x.now)) (value_due old.setting old.left (expr_of y.now))) q old new (does_task old (task.Choose x y)) (omega arith)
      (tells_by (one (value_due old.setting old.left (expr_of x.now))) q old new (does_task old (task.Choose x y)) (does_task old (task.Value x))
      (ap (λ k. given (store_seen old) (choose k (value_at old.setting (store_seen old) (expr_of x.now)) (value_at old.setting (store_seen old) (expr_of y.now)) (state_seen old))) t) h)

  pub other_tells : (x y : Bor TypedExpr) → is_true old.value ≡ false → Waits q old new (task.Value y) → DoesTask q old new (task.Choose x y)
  other_tells x y t h =
      tells_within (one (value_due old.setting old.left (expr_of y.now))) (two (value_due old.setting old.left (expr_of x.now)) (value_due old.setting old.left (expr_of y.now))) q old new (does_task old (task.Choose x y)) (omega arith)
      (tells_by (one (value_due old.setting old.left (expr_of y.now))) q old new (does_task old (task.Choose x y)) (does_task old (task.Value y))
      (ap (λ k. given (store_seen old) (choose k (value_at old.setting (store_seen old) (expr_of x.now)) (value_at old.setting (store_seen old) (expr_of y.now)) (state_seen old))) t) h)

-- a trap
pub trap_tells : (n : ℕ) (old : Single) (f : Store → Goes) (e : Stop) (t : Trap) → e ≡ stop.Trapped t → f (store_seen old) ≡ Trapped t (state_seen old) → Tells (Err e) old old f n
trap_tells n old f e t is h = subst (λ (k : Stop). Tells (Err k) old old f n) (sym is) h
