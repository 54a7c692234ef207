-- What `foreach_unique` leaves to be done.
use Rattle.std.proofs.Common.{◌≡◌, refl, sym, ap, ap₂, ◌∙◌, subst, ℕ, List, Bor, Box, Global, Bool, Option, Some, None}
use Rattle.isp_base.specs.Cross.{or_zero}
use Rattle.isp_base.specs.Maps.{Map}
use Rattle.isp_base.specs.Sets.{Mask, flag_of, lowest}
use Rattle.isp_base.specs.Types.{gang_width}
use Rattle.isp_base.specs.Values.{number, convert_bits}
use Rattle.isp_base.specs.declared.types.Elem.{Elem}
use Rattle.isp_base.specs.declared.types.Gang.{Gang}
use Rattle.isp_base.specs.declared.types.Rate.TheVariants.{Uniform}
use Rattle.isp_typed.specs.Typed.{elem_of}
use Rattle.isp_typed.specs.declared.expr.TypedExpr.{TypedExpr}
use Rattle.isp_typed.specs.declared.stmt.TypedStmt.{TypedStmt}
use Rattle.isp_typed.specs.Views.{expr_of, stmt_of, program_of}
use Rattle.isp_meaning.specs.State.{State, Frame, tick}
use Rattle.isp_meaning.specs.Payloads.{Payload, One, spread, except}
use Rattle.isp_meaning.specs.Places.{written}
use Rattle.isp_meaning.specs.Outcomes.{Val, Res, go_on, with_value}
use Rattle.isp_meaning.specs.Expressions.{value}
use Rattle.isp_meaning.specs.Rounds.{Round, rounds, have, holding, holders}
use Rattle.isp_meaning.specs.Calls.{calls_at}
use Rattle.isp_meaning.proofs.Distinct.{unique_first, unique_none}
use Rattle.isp_gang_values.specs.Seen.{map_of, payload_of}
use Rattle.isp_gang_values.specs.declared.computed.Computed.TheVariants as computed
use Rattle.isp_gang_run.specs.Foreach.{uniques}
use Rattle.isp_gang_run.specs.Tasks.{Store, First, Changes, ran, does, Comes, store_seen, parts_seen, all_parts, run_in, distinct_in}
use Rattle.isp_gang_run.specs.declared.counting.Work.{Work}
use Rattle.isp_gang_run.specs.declared.distinct.Distinct.{Distinct}
use Rattle.isp_gang_run.specs.declared.distinct.Unique.{Unique}
use Rattle.isp_gang_run.specs.declared.state.Evaluator.{Evaluator}
use Rattle.isp_gang_run.specs.declared.state.Sets.{Sets}
use Rattle.isp_gang_run.specs.declared.tasks.Task.TheVariants as task
use Rattle.isp_gang_run.proofs.Arms.{ticked, value_first}
use Rattle.isp_gang_run.proofs.Branching.{comes_same, leaves}
use Rattle.isp_gang_run.proofs.Counts.{Adds}
use Rattle.isp_gang_run.proofs.Foreach.{round_goes}

-- the turns of these values
abbrev turns_of : Evaluator → Unique → Map → Frame → ℕ → State → Res
turns_of e u m fr l s = distinct_in (program_of e.program.now) e.turns u m fr l s

-- the value comes first
pub unique_comes : (old new : Evaluator) (work : Work) (one : Adds old work 1) (b : Box Unique Global) (x : Bor TypedExpr) (index : ℕ) (from t : Elem) (body : Bor TypedStmt) (set : List Bool)
    → b.value ≡ record { index = index; from = from; to = t; body = body; set = set } → from ≡ elem_of (expr_of x.now)
    → First (record old { work = work }) new (task.Value x set) (task.Unique b) → Comes old new (uniques old index t (expr_of x.now) body (flag_of set))
unique_comes old new work one b x index from t body set is of g =
    ticked old new (λ fr l s. with_value (value_in fr l s) (follows (unique (elem_of (expr_of x.now))) fr l)) work one
    (subst (λ (u : Unique). Comes (record old { work = work }) new (λ r. ran r (with_value (value_in r.frame r.left r.state) (follows u r.frame r.left)))) (is ∙ ap unique of)
    (value_first (record old { work = work }) new x set (task.Unique b) (follows b.value) (λ q. refl) g))
  where
    unique : Elem → Unique
    unique e = record { index = index; from = e; to = t; body = body; set = set }

    value_in : Frame → ℕ → State → Val Payload
    value_in fr l s = value (gang_width old.program.now.gang) fr (calls_at (program_of old.program.now) old.turns l) (expr_of x.now) (flag_of set) s

    follows : Unique → Frame → ℕ → Payload → State → Res
    follows u fr l m s = turns_of old u (spread (flag_of u.set) m) fr l s

-- it was found
pub value_found : (old new : Evaluator) (b : Box Unique Global) (u : Unique) (row : List (Option ℕ)) (d : Box Distinct Global) → u ≡ b.value → map_of row ≡ spread (flag_of u.set) (payload_of old.value)
    → d.value ≡ record { unique = u; row = row } → Comes old new (does old (task.Distinct d)) → Comes old new (does old (task.Unique b))
value_found old new b u row d same values held c =
    comes_same old new (does old (task.Unique b)) (does old (task.Distinct d))
    (λ w.
    let r = store_seen old w in
    sym (ap (λ (e : Distinct). ran r (turns_of old e.unique (map_of e.row) r.frame r.left r.state)) held
    ∙ ap (λ (m : Map). ran r (turns_of old u m r.frame r.left r.state)) values
    ∙ ap (λ (v : Unique). ran r (turns_of old v (spread (flag_of v.set) (payload_of old.value)) r.frame r.left r.state)) same)) c

-- ---- the values that are left

-- the lowest that has a value, as it was found
pub lowest_is : {g h : Gang} {a b : Mask} {o : Option ℕ} → g ≡ h → a ≡ b → o ≡ lowest (gang_width g) a → lowest (gang_width h) b ≡ o
lowest_is gang set is = sym (is ∙ ap₂ (λ (k : Gang) (m : Mask). lowest (gang_width k) m) gang set)

module _ (old : Evaluator) (b : Box Distinct Global) (u : Unique) (row : List (Option ℕ)) (is : b.value ≡ record { unique = u; row = row }) where
  abbrev gang : ℕ
  gang = gang_width old.program.now.gang

  distinct_are : (r : Store) → does old (task.Distinct b) r ≡ ran r (turns_of old u (map_of row) r.frame r.left r.state)
  distinct_are r = ap (λ (d : Distinct). ran r (turns_of old d.unique (map_of d.row) r.frame r.left r.state)) is

  -- the turns that are left, one by one
  abbrev listed : List Round → Store → Res
  listed xs r = rounds (run_in (program_of old.program.now) old.turns r.frame r.left (stmt_of u.body.now)) (flag_of u.set) xs r.state

  pub nobody_left : (new : Evaluator) (sets : Sets) → lowest gang (have (map_of row)) ≡ None → parts_seen sets ≡ all_parts (flag_of u.set) → new ≡ record old { value = computed.One 0; sets = sets } → Comes old new (does old (task.Distinct b))
  nobody_left new sets none e same =
      leaves old new (does old (task.Distinct b)) sets (all_parts (flag_of u.set)) same e
      (λ w. let r = store_seen old w in distinct_are r ∙ ap (λ xs. ran r (listed xs r)) (unique_none gang u.from u.to u.index (map_of row) none))

  -- a turn of a set, with an index, before those of other values
  abbrev turn : Mask → ℕ → Map → Frame → ℕ → State → Res
  turn a n m fr l s =
      go_on (run_in (program_of old.program.now) old.turns fr l (stmt_of u.body.now) a (written Uniform u.index a (One n) s)) (λ s1 g b' c q. turns_of old u m fr l s1)

  pub value_goes : (mid new : Evaluator) (work : Work) (one : Adds old work 1) (p bits n : ℕ) (set1 : List Bool) (row1 : List (Option ℕ)) (d : Box Distinct Global) → lowest gang (have (map_of row)) ≡ Some p → bits ≡ or_zero (map_of row p)
      → flag_of set1 ≡ holding u.from (number u.from bits) (map_of row) → n ≡ convert_bits u.to (number u.from bits) → map_of row1 ≡ except (map_of row) (flag_of set1) → d.value ≡ record { unique = u; row = row1 }
      → Changes (record old { work = work }) mid (written Uniform u.index (flag_of set1) (One n)) → First mid new (task.Run u.body set1) (task.Distinct d) → Comes old new (does old (task.Distinct b))
  value_goes mid new work one p bits n set1 row1 d some at same index rest held c g =
      comes_same old new (does old (task.Distinct b)) (λ r. ran r (turn (flag_of set1) n (map_of row1) r.frame r.left (tick r.state)))
      (λ w.
      let r = store_seen old w in
      distinct_are r
      ∙ ap (λ xs. ran r (listed xs r)) (unique_first gang u.from u.to u.index (map_of row) p some)
      ∙ ap₂ (λ (a : Mask) (k : ℕ). ran r (turn a k (except (map_of row) a) r.frame r.left (tick r.state))) (sym members) (sym number_is)
      ∙ ap (λ (m : Map). ran r (turn (flag_of set1) n m r.frame r.left (tick r.state))) (sym rest))
      (ticked old new (turn (flag_of set1) n (map_of row1)) work one
      (round_goes (record old { work = work }) mid new (written Uniform u.index (flag_of set1) (One n)) u.body set1 (task.Distinct d) (turns_of old u (map_of row1)) c
      (λ r. ap (λ (e : Distinct). ran r (turns_of old e.unique (map_of e.row) r.frame r.left r.state)) held) g))
    where
      members : flag_of set1 ≡ holders u.from (map_of row) p
      members = same ∙ ap (λ (k : ℕ). holding u.from (number u.from k) (map_of row)) at

      number_is : n ≡ convert_bits u.to (number u.from (or_zero (map_of row p)))
      number_is = index ∙ ap (λ (k : ℕ). convert_bits u.to (number u.from k)) at
