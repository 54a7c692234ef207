-- What statements and loops leave to be done: numbers that are the same, and numbers that are no more.
use Rattle.std.proofs.Math.Nat.{mul-le-mul_right}
use Rattle.std.proofs.Common.{◌≡◌, refl, sym, ap, ap₂, ◌∙◌, ℕ, zero, suc, ◌+◌, ◌*◌, ◌^◌, ◌≤◌, List, [], ◌∷◌, ◌++◌, map, length, Option, Some, None, Bor, Box, Vec, Global, Bool, true, false, subst, arith}
use Rattle.std.specs.Prelude.{option_map, slice_get}
use Rattle.isp_base.specs.Cross.{or_zero}
use Rattle.isp_base.specs.Maps.{Map}
use Rattle.isp_base.specs.Sets.{Mask, flag_of, lone, lowest, without}
use Rattle.isp_base.specs.Types.{gang_width}
use Rattle.isp_base.specs.Values.{number}
use Rattle.isp_base.specs.declared.types.Elem.TheVariants.{I32}
use Rattle.std.proofs.lemmas.List.{length-append}
use Rattle.isp_typed.specs.Typed.{TFunction, TRange}
use Rattle.isp_typed.specs.Views.{function_of, ranges_of, stmt_of, program_of}
use Rattle.isp_typed.specs.declared.function.TypedFunction.{TypedFunction}
use Rattle.isp_typed.specs.declared.stmt.TypedStmt.{TypedStmt}
use Rattle.isp_meaning.specs.Payloads.{except}
use Rattle.isp_meaning.specs.Rounds.{length_of, members, if_listed, firsts, have, holding, holders, round_of_value, runs_of, unique_rounds}
use Rattle.isp_meaning.specs.Rounds as Meaning
use Rattle.isp_meaning.proofs.Members.{lowest_first}
use Rattle.isp_meaning.proofs.Distinct.{unique_first}
use Rattle.isp_gang_values.specs.Left.{range_seen, restarted, runs_left, advanced, is_ready}
use Rattle.isp_gang_values.specs.Seen.{map_of}
use Rattle.isp_gang_values.specs.declared.ranges.Range.{Range}
use Rattle.isp_gang_values.proofs.Left.{left_begins, next_run}
use Rattle.isp_gang_run.specs.Due.{own, run_due, call_due, body_due, perhaps_due, branch_due, second_due, rounds_due, bounds_due, end_due, members_due, distinct_due, each_due}
use Rattle.isp_gang_run.specs.Most.{one, two, rounds_most, runs_most, bounds_most, function_most}
use Rattle.isp_gang_run.specs.declared.distinct.Distinct.{Distinct}
use Rattle.isp_gang_run.specs.declared.distinct.Unique.{Unique}
use Rattle.isp_gang_run.specs.declared.rounds.Bounds.{Bounds}
use Rattle.isp_gang_run.specs.declared.rounds.Members.{Members}
use Rattle.isp_gang_run.specs.declared.rounds.Rounds.{Rounds}
use Rattle.isp_gang_run.specs.declared.state.Evaluator.{Evaluator}
use Rattle.isp_gang_run.proofs.FewRuns.{mapped, runs_few, runs_more, few_numbers}
use Rattle.isp_gang_run.proofs.Foreach.{seen_more}
use Rattle.isp_gang_run.proofs.Handing.{got}

-- ---- a call

-- the function is run with a level less
pub enters_as : (old : Evaluator) (f n : ℕ) (g : TypedFunction) → old.left ≡ suc n → slice_get old.program.now.functions.items f ≡ Some g
    → own old call_due f ≡ body_due (program_of old.program.now) old.turns n (function_of g)
enters_as old f n g more is =
    ap (λ (k : ℕ). call_due (program_of old.program.now) old.turns k f) more
    ∙ ap (λ o. function_due o) (got old.program.now.functions.items f ∙ ap (option_map function_of) is)
  where
    function_due : Option TFunction → ℕ
    function_due = function_most (gang_width old.program.now.gang) old.turns (call_due (program_of old.program.now) old.turns n)

-- ---- branches

module _ (old : Evaluator) where
  -- one of them is no more than both
  pub true_fewer : (x : Bor TypedStmt) (y : Option (Bor TypedStmt)) → own old perhaps_due (Some x) ≤ own old branch_due x y
  true_fewer x y = omega arith

  pub false_fewer : (x : Bor TypedStmt) (y : Option (Bor TypedStmt)) → own old perhaps_due y ≤ own old branch_due x y
  false_fewer x None = omega arith
  false_fewer x (Some z) = omega arith

  -- the second, and then both sets are joined
  pub second_as : (y : Option (Bor TypedStmt)) → own old second_due y ≡ own old perhaps_due y + one 0
  second_as None = refl
  second_as (Some z) = refl

-- ---- the runs of a `foreach`

module _ (old : Evaluator) (b d : Box Rounds Global) (body : d.value.body ≡ b.value.body) where
  -- a run less
  pub one_run_less : is_ready b.value.ranges.items ≡ true → d.value.ranges.items ≡ advanced (gang_width old.program.now.gang) b.value.ranges.items
      → own old rounds_due b.value ≡ two (own old run_due (stmt_of b.value.body.now)) (own old rounds_due d.value)
  one_run_less ready is =
      ap (λ xs. rounds_most (own old run_due (stmt_of b.value.body.now)) (length xs)) (next_run old.program.now.gang b.value.ranges.items ready)
      ∙ ap₂ (λ (y : Bor TypedStmt) (rs : List Range). two (own old run_due (stmt_of b.value.body.now)) (rounds_most (own old run_due (stmt_of y.now)) (length (runs_left (gang_width old.program.now.gang) rs)))) (sym body) (sym is)

  pub same_runs : runs_left (gang_width old.program.now.gang) d.value.ranges.items ≡ runs_left (gang_width old.program.now.gang) b.value.ranges.items → own old rounds_due b.value ≡ own old rounds_due d.value
  same_runs is = sym (ap₂ (λ (y : Bor TypedStmt) xs. rounds_most (own old run_due (stmt_of y.now)) (length xs)) body is)

-- fewer rounds are no more
pub rounds_grow : (body n m : ℕ) → n ≤ m → rounds_most body n ≤ rounds_most body m
rounds_grow body zero m h = omega arith
rounds_grow body (suc n) zero h = absurd (omega (arith, h))
rounds_grow body (suc n) (suc m) h = let k = rounds_grow body n m (omega (arith, h)) in omega (arith, k)

bounds_grow : (calls : ℕ → ℕ) (body : ℕ) (rs : List TRange) (n m : ℕ) → n ≤ m → bounds_most calls body rs n ≤ bounds_most calls body rs m
bounds_grow calls body [] n m h = let k = rounds_grow body n m h in omega (arith, k)
bounds_grow calls body (r ∷ rs) n m h = let k = bounds_grow calls body rs (n * 2 ^ 32) (m * 2 ^ 32) (mul-le-mul_right (2 ^ 32) h) in omega (arith, k)

module _ (old : Evaluator) where
  -- the end of a range was found: it has no more numbers than there are int32
  pub end_fewer : (b : Box Bounds Global) (i j : ℕ) (d : Bounds) (x : Range) (done : List Range) → d ≡ b.value
      → range_seen x ≡ record { index = d.range.now.index; start = number I32 i; end = number I32 j } → done ≡ d.done.items ++ x ∷ []
      → own old bounds_due (ranges_of d.rest.now) (map range_seen done) d.body ≤ own old end_due b.value
  end_fewer b i j d x done held is more =
      let few : length_of (range_seen x) ≤ 2 ^ 32 = subst (λ (r : Meaning.Range). length_of r ≤ 2 ^ 32) (sym is) (few_numbers d.range.now.index i j) in
      let fewer : runs_most (map range_seen done) ≤ runs_most (map range_seen d.done.items) * 2 ^ 32 =
      subst (λ (rs : List Meaning.Range). runs_most rs ≤ runs_most (map range_seen d.done.items) * 2 ^ 32) (sym (ap (map range_seen) more ∙ seen_more d.done.items x)) (runs_more (map range_seen d.done.items) (range_seen x) few) in
      subst (λ (k : Bounds). own old bounds_due (ranges_of d.rest.now) (map range_seen done) d.body ≤ own old end_due k) held
      (bounds_grow (own old call_due) (own old run_due (stmt_of d.body.now)) (ranges_of d.rest.now) (runs_most (map range_seen done)) (runs_most (map range_seen d.done.items) * 2 ^ 32) fewer)

  -- all bounds were found
  pub begins_fewer : (b : Box Rounds Global) (rs : List Range) (v : Vec Range Global) (body : Bor TypedStmt) (set : List Bool) → v.items ≡ restarted 0 rs → b.value ≡ record { ranges = v; body = body; set = set }
      → own old rounds_due b.value ≤ own old bounds_due [] (map range_seen rs) body
  begins_fewer b rs v body set anew held =
      let g = old.program.now.gang in
      let n = own old run_due (stmt_of body.now) in
      let is : own old rounds_due b.value ≡ rounds_most n (length (runs_of (gang_width g) (map range_seen rs))) =
      ap (λ (k : Rounds). own old rounds_due k) held ∙ ap (λ xs. rounds_most n (length xs)) (ap (runs_left (gang_width g)) anew ∙ left_begins g rs) in
      let few = rounds_grow n (length (runs_of (gang_width g) (map range_seen rs))) (runs_most (map range_seen rs)) (runs_few g (map range_seen rs)) in
      omega (arith, is, few)

-- ---- the members of a set, and the values that they hold

listed : (b : Bool) (n : ℕ) → length (if_listed b n) ≤ 1
listed true n = omega arith
listed false n = omega arith

few_members : (n : ℕ) (a : Mask) → length (members n a) ≤ n
few_members zero a = omega arith
few_members (suc n) a =
    let h = few_members n a in
    let k = listed (a n) n in
    let is = length-append (members n a) (if_listed (a n) n) in
    omega (arith, h, k, is)

module _ (old : Evaluator) where
  abbrev gang : ℕ
  gang = gang_width old.program.now.gang

  pub active_fewer : (b : Box Members Global) (index : ℕ) (body : Bor TypedStmt) (set : List Bool) → b.value ≡ record { index = index; body = body; left = set; set = set }
      → own old members_due b.value ≤ own old each_due body
  active_fewer b index body set held =
      let is : own old members_due b.value ≡ rounds_most (own old run_due (stmt_of body.now)) (length (members gang (flag_of set))) = ap (λ (m : Members). own old members_due m) held in
      let few = rounds_grow (own old run_due (stmt_of body.now)) (length (members gang (flag_of set))) gang (few_members gang (flag_of set)) in
      omega (arith, is, few)

  -- a member less
  pub member_less : (b d : Box Members Global) (index : ℕ) (body : Bor TypedStmt) (left set : List Bool) (p : ℕ) (set1 left1 : List Bool) → b.value ≡ record { index = index; body = body; left = left; set = set }
      → lowest gang (flag_of left) ≡ Some p → flag_of set1 ≡ lone (Some p) → flag_of left1 ≡ without (flag_of left) (flag_of set1) → d.value ≡ record { index = index; body = body; left = left1; set = set }
      → own old members_due b.value ≡ two (own old run_due (stmt_of body.now)) (own old members_due d.value)
  member_less b d index body left set p set1 left1 is some alone others held =
      let n = own old run_due (stmt_of body.now) in
      ap (λ (m : Members). own old members_due m) is
      ∙ ap (λ ps. rounds_most n (length ps)) (lowest_first gang (flag_of left) p some)
      ∙ ap (λ (a : Mask). two n (rounds_most n (length (members gang (without (flag_of left) a))))) (sym alone)
      ∙ ap (λ (a : Mask). two n (rounds_most n (length (members gang a)))) (sym others)
      ∙ ap (λ (m : Members). two n (own old members_due m)) (sym held)

  pub values_fewer : (b : Box Distinct Global) (u : Unique) (row : List (Option ℕ)) → b.value ≡ record { unique = u; row = row } → own old distinct_due b.value ≤ own old each_due u.body
  values_fewer b u row held =
      let n = own old run_due (stmt_of u.body.now) in
      let ps = members gang (firsts u.from (map_of row)) in
      let is : own old distinct_due b.value ≡ rounds_most n (length ps) = ap (λ (d : Distinct). own old distinct_due d) held ∙ ap (rounds_most n) (mapped (round_of_value u.from u.to (map_of row) u.index) ps) in
      let few = rounds_grow n (length ps) gang (few_members gang (firsts u.from (map_of row))) in
      omega (arith, is, few)

  -- a value less
  pub value_less : (b d : Box Distinct Global) (u : Unique) (row row1 : List (Option ℕ)) (p bits : ℕ) (set1 : List Bool) → b.value ≡ record { unique = u; row = row }
      → lowest gang (have (map_of row)) ≡ Some p → bits ≡ or_zero (map_of row p) → flag_of set1 ≡ holding u.from (number u.from bits) (map_of row)
      → map_of row1 ≡ except (map_of row) (flag_of set1) → d.value ≡ record { unique = u; row = row1 }
      → own old distinct_due b.value ≡ two (own old run_due (stmt_of u.body.now)) (own old distinct_due d.value)
  value_less b d u row row1 p bits set1 is some at same rest held =
      let n = own old run_due (stmt_of u.body.now) in
      let members : flag_of set1 ≡ holders u.from (map_of row) p = same ∙ ap (λ (k : ℕ). holding u.from (number u.from k) (map_of row)) at in
      ap (λ (e : Distinct). own old distinct_due e) is
      ∙ ap (λ xs. rounds_most n (length xs)) (unique_first gang u.from u.to u.index (map_of row) p some)
      ∙ ap (λ (a : Mask). two n (rounds_most n (length (unique_rounds gang u.from u.to u.index (except (map_of row) a))))) (sym members)
      ∙ ap (λ (m : Map). two n (rounds_most n (length (unique_rounds gang u.from u.to u.index m)))) (sym rest)
      ∙ ap (λ (e : Distinct). two n (own old distinct_due e)) (sym held)
