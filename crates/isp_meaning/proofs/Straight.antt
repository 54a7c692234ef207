-- The work of straight code.
use Rattle.std.specs.Prelude.{◌≡◌, ℕ, ◌+◌, List, Option, Some, None, true}
use Rattle.std.proofs.Common.{refl, sym, subst, arith}
use Rattle.isp_base.specs.Access.{is_zero}
use Rattle.isp_base.specs.Cross.{packed_outside}
use Rattle.isp_base.specs.Sets.{Mask, any, lowest}
use Rattle.isp_base.specs.declared.operators.BinOp.{BinOp}
use Rattle.isp_base.specs.declared.types.Elem.{Elem}
use Rattle.isp_base.specs.declared.types.Rate.{Rate}
use Rattle.isp_base.specs.declared.types.Rate.TheVariants.{Uniform, Varying}
use Rattle.isp_base.specs.declared.types.Span.{Span}
use Rattle.isp_base.specs.declared.trap.TrapKind.{TrapKind}
use Rattle.isp_base.specs.declared.trap.TrapKind.TheVariants.{Divide, Index}
use Rattle.isp_typed.specs.declared.variable.ArrayVariable.{ArrayVariable}
use Rattle.isp_typed.specs.Typed.{TExpr, TPlace, TBase, TExprs, TItem, TSimple, TStmt, TBlock, TStmts, place_span}
use Rattle.isp_meaning.specs.Payloads.{Payload, One, offender}
use Rattle.isp_meaning.specs.Expressions.{Calls, base_array, value, place, first_element, values}
use Rattle.isp_meaning.specs.Nodes as n
use Rattle.isp_meaning.specs.Nodes.{IsStraight, IsStraightPlace, IsStraightBase, AreStraight, IsStraightItem, AreStraightItems, IsStraightSimple, IsStraightStmt, IsStraightBlock, AreStraightStmts, GivesAfter, WentAfter, StraightWork}
use Rattle.isp_meaning.specs.Outcomes.{Val, Gives, Fails, Stops, Res, Went, Trapped, Cut, Done, bind, with_value, checked, went_all, then_run, unless_empty, if_so}
use Rattle.isp_meaning.specs.Places.{Place, Variable, Element, written, with_elements, outside, kept}
use Rattle.isp_meaning.specs.Simple.{cleared, update, simple, item, items}
use Rattle.isp_meaning.specs.State.{State, Frame, tick, extent}
use Rattle.isp_meaning.specs.Statements.{run, block, run_all, all_go}

-- ---- one after another

still : (w : ℕ) → w ≡ w + 0
still w = omega arith

one_more : {A : Type 0} (k : ℕ) (s : State) (v : Val A) → GivesAfter k (tick s) v → GivesAfter (1 + k) s v
one_more k s (Gives x s1) h = omega (arith, h)
one_more k s (Fails t s1) h = tt
one_more k s (Stops s1) h = tt

on : {A : Type 0} (k m : ℕ) (s s1 : State) (v : Val A) → s1.work ≡ s.work + k → GivesAfter m s1 v → GivesAfter (k + m) s v
on k m s s1 (Gives x s2) e h = omega (arith, e, h)
on k m s s1 (Fails t s2) e h = tt
on k m s s1 (Stops s2) e h = tt

bind_after : {A B : Type 0} (k m : ℕ) (s : State) (v : Val A) (go : A → State → Val B) → GivesAfter k s v → ((x : A) (s1 : State) → GivesAfter m s1 (go x s1)) → GivesAfter (k + m) s (bind v go)
bind_after k m s (Gives x s1) go h f = on k m s s1 (go x s1) h (f x s1)
bind_after k m s (Fails t s1) go h f = tt
bind_after k m s (Stops s1) go h f = tt

-- and what adds nothing
on_still : {A : Type 0} (k : ℕ) (s s1 : State) (v : Val A) → s1.work ≡ s.work + k → GivesAfter 0 s1 v → GivesAfter k s v
on_still k s s1 (Gives x s2) e h = omega (arith, e, h)
on_still k s s1 (Fails t s2) e h = tt
on_still k s s1 (Stops s2) e h = tt

bind_still : {A B : Type 0} (k : ℕ) (s : State) (v : Val A) (go : A → State → Val B) → GivesAfter k s v → ((x : A) (s1 : State) → GivesAfter 0 s1 (go x s1)) → GivesAfter k s (bind v go)
bind_still k s (Gives x s1) go h f = on_still k s s1 (go x s1) h (f x s1)
bind_still k s (Fails t s1) go h f = tt
bind_still k s (Stops s1) go h f = tt

checked_after : {A : Type 0} (o : Option ℕ) (k : TrapKind) (sp : Span) (s : State) (x : A) → GivesAfter 0 s (checked o k sp s x)
checked_after None k sp s x = still s.work
checked_after (Some p) k sp s x = tt

check_after : {A B : Type 0} (o : Option ℕ) (k : TrapKind) (sp : Span) (s : State) (x : A) (go : A → State → Val B) → GivesAfter 0 s (go x s) → GivesAfter 0 s (bind (checked o k sp s x) go)
check_after None k sp s x go h = h
check_after (Some p) k sp s x go h = tt

-- ---- what is written counts nothing

same_work : (s s1 : State) → s1.work ≡ s.work → s1.work ≡ s.work + 0
same_work s s1 e = omega (arith, e)

written_work : (r : Rate) (v : ℕ) (a : Mask) (x : Payload) (s : State) → (written r v a x s).work ≡ s.work
written_work Uniform v a x s = refl
written_work Varying v a x s = refl

cleared_work : (frame : Frame) (r : Rate) (v : ℕ) (a : Mask) (s : State) → (cleared frame r v a s).work ≡ s.work
cleared_work frame Uniform v a s = refl
cleared_work frame Varying v a s = refl

elements_work : (frame : Frame) (b : ArrayVariable) (t : Elem) (i : Payload) (a : Mask) (gang : ℕ) (r : Rate) (x : Payload) (s : State) → (with_elements frame b t i a gang r x s).work ≡ s.work
elements_work frame b t i a gang Uniform x s = refl
elements_work frame b t i a gang Varying x s = refl

kept_work : (gang : ℕ) (frame : Frame) (q : Place) (a : Mask) (x : Payload) (s : State) → (kept gang frame q a x s).work ≡ s.work
kept_work gang frame (Variable v t) a x s = written_work t.rate v a x s
kept_work gang frame (Element b t i) a x s = elements_work frame b t i a gang b.ty.rate x s

-- ---- expressions

module _ (gang : ℕ) (frame : Frame) (calls : Calls) where
  mutual
    pub value_after : {x : TExpr} {k : ℕ} → IsStraight x k → (a : Mask) (s : State) → GivesAfter k s (value gang frame calls x a s)
    value_after n.constant a s = refl
    value_after n.program_index a s = refl
    value_after (n.place q) a s = bind_still _ s _ _ (place_after q a s) (λ r s1. checked_after _ _ _ s1 _)
    value_after (n.convert x) a s = bind_still _ s _ _ (value_after x a s) (λ m s1. still s1.work)
    value_after (n.cast x) a s = one_more _ s _ (value_after x a (tick s))
    value_after (n.unary x) a s = one_more _ s _ (bind_still _ (tick s) _ _ (value_after x a (tick s)) (λ m s1. still s1.work))
    value_after (n.binary x y) a s =
        one_more _ s _ (bind_after _ _ (tick s) _ _ (value_after x a (tick s)) (λ m s1. bind_still _ s1 _ _ (value_after y a s1) (λ k s2. checked_after _ _ _ s2 _)))
    value_after (n.compare x y) a s =
        one_more _ s _ (bind_after _ _ (tick s) _ _ (value_after x a (tick s)) (λ m s1. bind_still _ s1 _ _ (value_after y a s1) (λ k s2. still s2.work)))
    value_after (n.library xs) a s = one_more _ s _ (bind_still _ (tick s) _ _ (values_after xs a (tick s)) (λ ms s1. still s1.work))
    value_after (n.packed_store {b} {sp = sp} h x) a s =
        one_more _ s _ (bind_after _ _ (tick s) _ _ (first_after h a (tick s)) (λ z s1. bind_still _ s1 _ _ (value_after x a s1) (λ m s2. check_after (lowest gang (packed_outside (extent frame (base_array b)) z a)) Index sp s2 m _ (still s2.work))))
    value_after (n.packed_load {b} {sp = sp} h) a s =
        one_more _ s _ (bind_after _ 1 (tick s) _ _ (first_after h a (tick s)) (λ z s1. one_more 0 s1 _ (check_after (lowest gang (packed_outside (extent frame (base_array b)) z a)) Index sp (tick s1) _ _ (still (tick s1).work))))

    place_after : {q : TPlace} {k : ℕ} → IsStraightPlace q k → (a : Mask) (s : State) → GivesAfter k s (place gang frame calls q a s)
    place_after n.variable a s = refl
    place_after (n.element i) a s = one_more _ s _ (bind_still _ (tick s) _ _ (value_after i a (tick s)) (λ m s1. still s1.work))

    first_after : {b : TBase} {k : ℕ} → IsStraightBase b k → (a : Mask) (s : State) → GivesAfter k s (first_element gang frame calls b a s)
    first_after n.whole a s = refl
    first_after (n.from i) a s = one_more _ s _ (bind_still _ (tick s) _ _ (value_after i a (tick s)) (λ m s1. still s1.work))

    values_after : {xs : TExprs} {k : ℕ} → AreStraight xs k → (a : Mask) (s : State) → GivesAfter k s (values gang frame calls xs a s)
    values_after n.no_exprs a s = still s.work
    values_after (n.expr_then x xs) a s =
        bind_after _ _ s _ _ (value_after x a s) (λ m s1. bind_still _ s1 _ _ (values_after xs a s1) (λ ms s2. still s2.work))

  -- ---- items, and what stands before a semicolon

  item_after : {x : TItem} {k : ℕ} → IsStraightItem x k → (a : Mask) (s : State) → GivesAfter k s (item gang frame calls x a s)
  item_after (n.plain {v} {t}) a s = written_work t.rate v a (One 0) (tick s)
  item_after (n.with_value {v} {t} x) a s = one_more _ s _ (bind_still _ (tick s) _ _ (value_after x a (tick s)) (λ m s1. same_work s1 (written t.rate v a m s1) (written_work t.rate v a m s1)))
  item_after (n.with_size {b}) a s = cleared_work frame b.ty.rate b.number a (tick s)

  items_after : {xs : List TItem} {k : ℕ} → AreStraightItems xs k → (a : Mask) (s : State) → GivesAfter k s (items gang frame calls xs a s)
  items_after n.no_items a s = still s.work
  items_after (n.item_then x xs) a s = bind_after _ _ s _ _ (item_after x a s) (λ d s1. items_after xs a s1)

  update_after : (o : BinOp) (e : Elem) (q : TPlace) (r : Place) (y : Payload) (sp : Span) (a : Mask) (s : State) → GivesAfter 0 s (update gang frame calls o e q r y sp a s)
  update_after o e q r y sp a s =
      check_after (outside gang frame r a) Index (place_span q) s _ _ (check_after (offender gang (is_zero o e) a y) Divide sp s _ _ (same_work s (kept gang frame r a _ s) (kept_work gang frame r a _ s)))

  simple_after : {x : TSimple} {k : ℕ} → IsStraightSimple x k → (a : Mask) (s : State) → GivesAfter k s (simple gang frame calls x a s)
  simple_after (n.value_alone x) a s = one_more _ s _ (bind_still _ (tick s) _ _ (value_after x a (tick s)) (λ m s1. still s1.work))
  simple_after (n.assign {q} h x) a s =
      one_more _ s _ (bind_after _ _ (tick s) _ _ (place_after h a (tick s)) (λ r s1. bind_still _ s1 _ _ (value_after x a s1)
      (λ m s2. check_after (outside gang frame r a) Index (place_span q) s2 m _ (same_work s2 (kept gang frame r a m s2) (kept_work gang frame r a m s2)))))
  simple_after (n.update {o} {e} {q} {sp = sp} h x) a s =
      one_more _ s _ (bind_after _ _ (tick s) _ _ (place_after h a (tick s)) (λ r s1. bind_still _ s1 _ _ (value_after x a s1) (λ y s2. update_after o e q r y sp a s2)))
  simple_after (n.step {o} {e} {q} {sp = sp} h) a s =
      one_more _ s _ (bind_still _ (tick s) _ _ (place_after h a (tick s)) (λ r s1. update_after o e q r (One 1) sp a s1))

-- ---- statements: all of the set go on

abbrev AllAfter : ℕ → Mask → State → Res → Type 0
AllAfter k a s (Went s1 g b c r) = (g ≡ a) × (s1.work ≡ s.work + k)
AllAfter k a s (Trapped t s1) = Unit {0}
AllAfter k a s (Cut s1) = Unit {0}

all_one_more : (k : ℕ) (a : Mask) (s : State) (v : Res) → AllAfter k a (tick s) v → AllAfter (1 + k) a s v
all_one_more k a s (Went s1 g b c r) h = (h.0, omega (arith, h.1))
all_one_more k a s (Trapped t s1) h = tt
all_one_more k a s (Cut s1) h = tt

all_go_after : (k : ℕ) (a : Mask) (s : State) (v : Val Done) → GivesAfter k s v → AllAfter k a s (all_go a v)
all_go_after k a s (Gives x s1) h = (refl, h)
all_go_after k a s (Fails t s1) h = tt
all_go_after k a s (Stops s1) h = tt

with_after : {A : Type 0} (k : ℕ) (a : Mask) (s : State) (v : Val A) (go : A → State → Res) → GivesAfter k s v → ((x : A) (s1 : State) → AllAfter 0 a s1 (go x s1)) → AllAfter k a s (with_value v go)
with_after k a s (Gives x s1) go h f = by (go x s1) (f x s1)
  where
    by : (v : Res) → AllAfter 0 a s1 v → AllAfter k a s v
    by (Went s2 g b c r) i = (i.0, omega (arith, h, i.1))
    by (Trapped t s2) i = tt
    by (Cut s2) i = tt
with_after k a s (Fails t s1) go h f = tt
with_after k a s (Stops s1) go h f = tt

then_after : (k m : ℕ) (a : Mask) (s : State) (v : Res) (go : Mask → State → Res) → AllAfter k a s v → ((s1 : State) → AllAfter m a s1 (go a s1)) → AllAfter (k + m) a s (then_run v go)
then_after k m a s (Went s1 g b c r) go h f = by (go g s1) (subst (λ (z : Mask). AllAfter m a s1 (go z s1)) (sym h.0) (f s1))
  where
    by : (v : Res) → AllAfter m a s1 v → AllAfter (k + m) a s (then_run (Went s1 g b c r) (λ x y. v))
    by (Went s2 g' b' c' r') i = (i.0, omega (arith, h.1, i.1))
    by (Trapped t s2) i = tt
    by (Cut s2) i = tt
then_after k m a s (Trapped t s1) go h f = tt
then_after k m a s (Cut s1) go h f = tt

module _ (gang : ℕ) (frame : Frame) (calls : Calls) (most : ℕ) (a : Mask) (some : any gang a ≡ true) where
  here : (k : ℕ) (s : State) (f : Mask → State → Res) → AllAfter k a s (f a s) → AllAfter k a s (unless_empty gang a s f)
  here k s f h = subst (λ t. AllAfter k a s (if_so t (f a) (went_all a) s)) (sym some) h

  mutual
    pub run_after : {x : TStmt} {k : ℕ} → IsStraightStmt x k → (s : State) → AllAfter k a s (run gang frame calls most x a s)
    run_after (n.block b) s = block_after b s
    run_after (n.declare xs) s = all_one_more _ a s _ (all_go_after _ a (tick s) _ (items_after gang frame calls xs a (tick s)))
    run_after (n.simple x) s = all_go_after _ a s _ (simple_after gang frame calls x a s)
    run_after (n.print xs) s = all_one_more _ a s _ (with_after _ a (tick s) _ _ (values_after gang frame calls xs a (tick s)) (λ ms s1. (refl, still s1.work)))
    run_after (n.assert x) s =
        all_one_more _ a s _ (with_after _ a (tick s) _ _ (value_after gang frame calls x a (tick s)) (λ m s1. all_go_after 0 a s1 _ (checked_after _ _ _ s1 _)))

    block_after : {b : TBlock} {k : ℕ} → IsStraightBlock b k → (s : State) → AllAfter k a s (block gang frame calls most b a s)
    block_after (n.braces xs) s = all_one_more _ a s _ (all_after xs (tick s))

    all_after : {xs : TStmts} {k : ℕ} → AreStraightStmts xs k → (s : State) → AllAfter k a s (run_all gang frame calls most xs a s)
    all_after n.no_stmts s = (refl, still s.work)
    all_after (n.stmt_then {xs = xs} {m = m} h hs) s = then_after _ m a s _ _ (run_after h s) (λ s1. here m s1 (run_all gang frame calls most xs) (all_after hs s1))

went_after : (k : ℕ) (a : Mask) (s : State) (v : Res) → AllAfter k a s v → WentAfter k s v
went_after k a s (Went s1 g b c r) h = h.1
went_after k a s (Trapped t s1) h = tt
went_after k a s (Cut s1) h = tt

pub straight_work : StraightWork
straight_work =
    record {
      expression = λ gang frame calls x k h a s. value_after gang frame calls h a s;
      statement = λ gang frame calls most x k h a s some. went_after k a s _ (run_after gang frame calls most a some h s);
    }
