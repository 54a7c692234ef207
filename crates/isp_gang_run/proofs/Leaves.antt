-- Nodes without operands, and with one.
use Rattle.std.proofs.Common.{◌≡◌, refl, sym, ap, ap₂, ◌∙◌, subst, ℕ, ◌+◌, ◌%◌, ◌^◌, List, Bor, Bool, Some, None}
use Rattle.isp_base.specs.Maps.{on}
use Rattle.isp_base.specs.Sets.{flag_of}
use Rattle.isp_base.specs.Traps.{trap}
use Rattle.isp_base.specs.Types.{gang_width}
use Rattle.isp_base.specs.Values.{width}
use Rattle.isp_base.specs.declared.types.Elem.{Elem}
use Rattle.isp_base.specs.declared.types.Span.{Span}
use Rattle.isp_base.specs.declared.types.Ty.{Ty}
use Rattle.isp_base.specs.declared.types.Value.{Value}
use Rattle.isp_base.specs.declared.trap.TrapKind.TheVariants.{Index}
use Rattle.isp_typed.specs.Typed.{TExpr, t_constant, t_program_index, t_place, t_variable, t_element, t_convert, t_cast, type_of}
use Rattle.isp_typed.specs.Views.{expr_of, place_of, program_of}
use Rattle.isp_typed.specs.declared.expr.TypedExpr.{TypedExpr}
use Rattle.isp_typed.specs.declared.expr.TypedPlace.{TypedPlace}
use Rattle.isp_typed.specs.declared.variable.ArrayVariable.{ArrayVariable}
use Rattle.isp_meaning.specs.State.{Frame, tick}
use Rattle.isp_meaning.specs.Payloads.{Payload, One, Each, mapped, converted}
use Rattle.isp_meaning.specs.Outcomes.{Val, Gives, Fails, Stops, bind, checked}
use Rattle.isp_meaning.specs.Places.{Variable, Element, held, outside}
use Rattle.isp_gang_values.specs.Seen.{payload_of}
use Rattle.isp_gang_values.specs.declared.computed.Computed.{Computed}
use Rattle.isp_gang_values.specs.declared.computed.Computed.TheVariants as computed
use Rattle.isp_gang_run.specs.Seen.{state_seen, frame_seen}
use Rattle.isp_gang_run.specs.Tasks.{Store, Goes, Trapped, go, given, rest, finds, Comes, Does, Traps, First, Halts, refused, value_at, store_seen}
use Rattle.isp_gang_run.specs.declared.counting.Work.{Work}
use Rattle.isp_gang_run.specs.declared.state.Evaluator.{Evaluator}
use Rattle.isp_gang_run.specs.declared.state.Stop.{Stop}
use Rattle.isp_gang_run.specs.declared.state.Stop.TheVariants as stop
use Rattle.isp_gang_run.specs.declared.tasks.Task.TheVariants as task
use Rattle.isp_gang_run.proofs.Counts.{Adds, work_of, counts_same, counts_more, counts_one}
use Rattle.isp_gang_run.proofs.Steps.{Later, regiven, then_given, later_store, later_rest, later_work}
use Rattle.isp_gang_run.proofs.Nodes.{node_comes}

-- ---- stops

pub memory_halts : (old new : Evaluator) (f : Store → Goes) (e : Stop) → e ≡ stop.Memory → Halts old new f e
memory_halts old new f e is = refused is

-- ---- a tree of a node is what its view is

pub found_does : (old new : Evaluator) (x : Bor TypedExpr) (set : List Bool) (n : TExpr) → expr_of x.now ≡ n → Comes old new (finds old n (flag_of set)) → Does old new (task.Value x set)
found_does old new x set n is c =
    record { by = λ w. ((c.by w).0, ap (λ m. go (finds old m (flag_of set) (store_seen old w)) (rest old)) is ∙ (c.by w).1); counts = c.counts }

-- ---- a value at once

pub at_once : (old : Evaluator) (work : Work) (one : Adds old work 1) (v : Computed) (n : TExpr) (set : List Bool) (m : ℕ → Payload)
    → ((w : ℕ) → value_at (program_of old.program.now) old.turns (store_seen old w) n (flag_of set) (state_seen old w) ≡ Gives (m w) (state_seen old (w + 1)))
    → ((w : ℕ) → payload_of v ≡ m w) → Comes old (record old { work = work; value = v }) (finds old n (flag_of set))
at_once old work one v n set m whole e =
    record {
      by = λ w. (
        w + 1,
        ap (λ u. go (given (store_seen old w) u) (rest old)) (whole w)
            ∙ ap (λ u. rest old (record (store_seen old w) { state = state_seen old (w + 1); value = u })) (sym (e w)),
      );
      counts = λ w k. counts_more old work 1 w one k;
    }

pub constant_node : (old : Evaluator) (work : Work) (one : Adds old work 1) (v : ℕ) (x : Bor TypedExpr) (set : List Bool) (c : Value) (sp : Span)
    → expr_of x.now ≡ t_constant c sp → v ≡ c.bits % 2 ^ width c.elem
    → Does old (record old { work = work; value = computed.One v }) (task.Value x set)
constant_node old work one v x set c sp is e =
    found_does old _ x set (t_constant c sp) is (at_once old work one (computed.One v) (t_constant c sp) set (λ w. One (c.bits % 2 ^ width c.elem)) (λ w. refl) (λ w. ap One e))

pub index_node : (old : Evaluator) (work : Work) (one : Adds old work 1) (v : Computed) (x : Bor TypedExpr) (set : List Bool) (sp : Span)
    → expr_of x.now ≡ t_program_index sp → payload_of v ≡ Each (on (flag_of set) (λ p. p))
    → Does old (record old { work = work; value = v }) (task.Value x set)
index_node old work one v x set sp is e =
    found_does old _ x set (t_program_index sp) is (at_once old work one v (t_program_index sp) set (λ w. Each (on (flag_of set) (λ p. p))) (λ w. refl) (λ w. e))

-- ---- a place

pub variable_node : (old : Evaluator) (work : Work) (one : Adds old work 1) (v : Computed) (p : Bor TypedPlace) (set : List Bool) (number : ℕ) (t : Ty) (sp : Span) → place_of p.now ≡ t_variable number t sp
    → ((w : ℕ) → payload_of v ≡ held (gang_width old.program.now.gang) (frame_seen old.here) (Variable number t) (flag_of set) (state_seen old w))
    → Comes old (record old { work = work; value = v }) (finds old (t_place (place_of p.now)) (flag_of set))
variable_node old work one v p set number t sp is e =
    subst (λ n. Comes old (record old { work = work; value = v }) (finds old (t_place n) (flag_of set))) (sym is)
    (at_once old work one v (t_place (t_variable number t sp)) set (λ w. held (gang_width old.program.now.gang) (frame_seen old.here) (Variable number t) (flag_of set) (state_seen old (w + 1))) (λ w. refl)
    (λ w. e (w + 1)))

-- what is done with what is found at an index
element_found : (old : Evaluator) (b : ArrayVariable) (e : Elem) (sp : Span) (set : List Bool) (fr : Frame) (v : Val Payload)
    → bind (bind v (λ m s1. Gives (Element b e m) s1)) (λ q s1. checked (outside (gang_width old.program.now.gang) fr q (flag_of set)) Index sp s1 (held (gang_width old.program.now.gang) fr q (flag_of set) s1))
    ≡ bind v (λ m s1. checked (outside (gang_width old.program.now.gang) fr (Element b e m) (flag_of set)) Index sp s1 (held (gang_width old.program.now.gang) fr (Element b e m) (flag_of set) s1))
element_found old b e sp set fr (Gives m s) = refl
element_found old b e sp set fr (Fails t s) = refl
element_found old b e sp set fr (Stops s) = refl

pub element_node : (old new : Evaluator) (work : Work) (one : Adds old work 1) (p : Bor TypedPlace) (y : Bor TypedExpr) (set : List Bool) (b : ArrayVariable) (e : Elem) (t : Ty) (sp : Span) → e ≡ (type_of (expr_of y.now)).elem
    → place_of p.now ≡ t_element b (expr_of y.now) t sp → First (record old { work = work }) new (task.Value y set) (task.Load b e sp set) → Comes old new (finds old (t_place (place_of p.now)) (flag_of set))
element_node old new work one p y set b e t sp typed is first =
    subst (λ n. Comes old new (finds old (t_place n) (flag_of set))) (sym is)
    (node_comes old new work one y set (task.Load b (type_of (expr_of y.now)).elem sp set) (t_place (t_element b (expr_of y.now) t sp))
    (λ fr l m s. checked (outside (gang_width old.program.now.gang) fr (Element b (type_of (expr_of y.now)).elem m) (flag_of set)) Index sp s (held (gang_width old.program.now.gang) fr (Element b (type_of (expr_of y.now)).elem m) (flag_of set) s))
    (λ q. refl)
    (λ r s. element_found old b (type_of (expr_of y.now)).elem sp set r.frame (value_at (program_of old.program.now) old.turns r (expr_of y.now) (flag_of set) (tick s)))
    (subst (λ k. First (record old { work = work }) new (task.Value y set) (task.Load b k sp set)) typed first))

pub load_does : (old new : Evaluator) (b : ArrayVariable) (e : Elem) (sp : Span) (set : List Bool) → outside (gang_width old.program.now.gang) (frame_seen old.here) (Element b e (payload_of old.value)) (flag_of set) ≡ None
    → new ≡ record old { value = new.value } → ((w : ℕ) → payload_of new.value ≡ held (gang_width old.program.now.gang) (frame_seen old.here) (Element b e (payload_of old.value)) (flag_of set) (state_seen old w)) → Does old new (task.Load b e sp set)
load_does old new b e sp set none same is =
    record {
      by = λ w. (
        w,
        ap (λ o. go (given (store_seen old w) (checked o Index sp (state_seen old w) (held (gang_width old.program.now.gang) (frame_seen old.here) (Element b e (payload_of old.value)) (flag_of set) (state_seen old w)))) (rest old)) none
            ∙ ap (λ n. rest old (record (store_seen old w) { value = n })) (sym (is w))
            ∙ sym (ap (λ (x : Evaluator). rest x (store_seen x w)) same),
      );
      counts = λ w k. counts_same old new w (ap work_of same) k;
    }

pub load_traps : (old new : Evaluator) (b : ArrayVariable) (e : Elem) (sp : Span) (set : List Bool) (p : ℕ) → outside (gang_width old.program.now.gang) (frame_seen old.here) (Element b e (payload_of old.value)) (flag_of set) ≡ Some p
    → new ≡ old → Traps old new (task.Load b e sp set) (trap Index sp p)
load_traps old new b e sp set p some same =
    record {
      by = λ w. (
        w,
        ap (λ o. given (store_seen old w) (checked o Index sp (state_seen old w) (held (gang_width old.program.now.gang) (frame_seen old.here) (Element b e (payload_of old.value)) (flag_of set) (state_seen old w)))) some
            ∙ sym (ap (λ (x : Evaluator). Trapped (trap Index sp p) (state_seen x w)) same),
      );
      counts = λ w k. counts_same old new w (ap work_of same) k;
    }

-- ---- conversions, casts and brackets

pub convert_node : (old new : Evaluator) (x y : Bor TypedExpr) (set : List Bool) (from to : Elem) → from ≡ (type_of (expr_of y.now)).elem
    → expr_of x.now ≡ t_convert to (expr_of y.now) → First old new (task.Value y set) (task.Convert from to) → Does old new (task.Value x set)
convert_node old new x y set from to typed is first =
    record {
      by = λ w. (
        w,
        ap (λ n. go (finds old n (flag_of set) (store_seen old w)) (rest old)) is
            ∙ then_given (store_seen old w) (value_at (program_of old.program.now) old.turns (store_seen old w) (expr_of y.now) (flag_of set) (state_seen old w)) (λ m s. Gives (mapped (converted (type_of (expr_of y.now)).elem to) m) s) (rest old)
            ∙ ap (λ k. go (finds old (expr_of y.now) (flag_of set) (store_seen old w)) (λ q. go (given q (Gives (mapped (converted k to) q.value) q.state)) (rest old))) (sym typed)
            ∙ sym (first.by w),
      );
      counts = λ w k. counts_same old new w first.work k;
    }

pub cast_node : (old new : Evaluator) (work : Work) (one : Adds old work 1) (x y : Bor TypedExpr) (set : List Bool) (t : Ty) (sp : Span)
    → expr_of x.now ≡ t_cast (expr_of y.now) t sp → Later (record old { work = work }) new (task.Value y set) → Does old new (task.Value x set)
cast_node old new work one x y set t sp is l =
    record {
      by = λ w. (
        w + 1,
        ap (λ n. go (finds old n (flag_of set) (store_seen old w)) (rest old)) is
            ∙ ap (λ g. go g (rest old)) (sym (regiven (store_seen old w) (payload_of old.value) (state_seen old (w + 1)) (value_at (program_of old.program.now) old.turns (store_seen old w) (expr_of y.now) (flag_of set) (state_seen old (w + 1)))))
            ∙ sym (ap₂ (λ (f : Store → Goes) (r : Store). f r) (later_rest (record old { work = work }) new (task.Value y set) l) (later_store (record old { work = work }) new (task.Value y set) l (w + 1))),
      );
      counts = λ w k. counts_one old new work w one (later_work (record old { work = work }) new (task.Value y set) l) k;
    }
