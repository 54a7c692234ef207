-- Sums over the steps of a run, and counts with one more instruction.
use Rattle.std.proofs.Common.{◌≡◌, ◌≢◌, refl, sym, ap, ◌∙◌, subst, ℕ, zero, suc, ◌+◌, ◌*◌, ◌<◌, ◌≤◌, ◌^◌, Bool, true, false, Option, Some, None, List, length, get_or, replicate, arith}
use Rattle.std.proofs.lemmas.Bool.{eqb-true, eqb-false, ltb-true, ltb-false}
use Rattle.std.specs.Prelude.{IfSome, if◌then◌else◌, nat_eq, nat_lt, slice_set}
use Rattle.std.proofs.lemmas.List.{get_or-replicate, get_or-set_same, get_or-set_other, length-set, length-replicate}
use Rattle.isp_base.specs.Types.{gang_width}
use Rattle.isp_code.specs.Conf.{Conf, State, Runs, Trapped, Ended}
use Rattle.isp_code.specs.Listing.{Listing}
use Rattle.isp_code.specs.Machine.{after}
use Rattle.isp_code.specs.declared.instr.Instr.{Instr}
use Rattle.isp_code.specs.declared.register.Register.{Register}
use Rattle.isp_traces.specs.Kinds.{kind_of, number_of}
use Rattle.isp_traces.specs.Named.{group_of, place_of}
use Rattle.isp_traces.specs.Operands.{under}
use Rattle.isp_traces.specs.Executed.{as_executed, instr_at, lanes_on, mask_held}
use Rattle.isp_traces.specs.Tallies.{IsGrouped, in_function, in_group, is_kind, is_number, nothing}
use Rattle.isp_traces.specs.declared.counting.Executed.{Executed}
use Rattle.isp_traces.specs.declared.kinds.Kind.{Kind}
use Rattle.isp_traces.specs.declared.kinds.Kind.TheVariants.{Scalars, Vectors, Memory, Masks, Jumps, Calls, Output, Asserts}
use Rattle.isp_traces.specs.declared.tallies.Counts.{Counts}
use Rattle.isp_traces.specs.declared.tallies.Grouping.{Grouping}
use Rattle.isp_traces.specs.declared.tallies.Tally.{Tally}
use Rattle.isp_traces.specs.reader.Adding.{Adds, AddsIf, HasRoom, HaveRoom, added, added_there, one, plus}
use Rattle.isp_traces.proofs.Lanes.{rank_le, width_le}

-- ---- sums, step by step

pub plus_nothing : (t : Tally) → plus t nothing ≡ t
plus_nothing t =
    let a : t.instructions + 0 ≡ t.instructions = omega arith in
    let b : t.masked + 0 ≡ t.masked = omega arith in
    let d : t.lanes_on + 0 ≡ t.lanes_on = omega arith in
    ap (λ (n : ℕ). record { instructions = n; masked = t.masked + 0; lanes_on = t.lanes_on + 0 }) a
    ∙ ap (λ (n : ℕ). record { instructions = t.instructions; masked = n; lanes_on = t.lanes_on + 0 }) b
    ∙ ap (λ (n : ℕ). record { instructions = t.instructions; masked = t.masked; lanes_on = n }) d

-- which instructions are counted
abbrev pub Chosen : Type 0
Chosen = Executed → Bool

abbrev pub every : Chosen
every e = true

abbrev pub counted : Chosen → Option Executed → Tally
counted chosen None = nothing
counted chosen (Some e) = if chosen e then one e.on else nothing

-- what the step from a state comes to; from an end there is none
abbrev pub step_tally : Listing → Chosen → State → Tally
step_tally code chosen (Runs c) = counted chosen (as_executed code c (instr_at code c))
step_tally code chosen (Trapped t c) = nothing
step_tally code chosen (Ended x c) = nothing

-- what the first m steps from a state come to
abbrev pub tally : Listing → Chosen → State → ℕ → Tally
tally code chosen s zero = nothing
tally code chosen s (suc m) = plus (tally code chosen s m) (step_tally code chosen (after code m s))

-- the counts of the first m steps
pub record AreSums (code : Listing) (s : State) (m : ℕ) (counts : Counts) : Type 0 where
  pub total_is : counts.total ≡ tally code every s m
  pub function_count : length counts.functions.items ≡ length code.routines
  pub functions_are : (f : ℕ) → f < length code.routines → get_or counts.functions.items f nothing ≡ tally code (in_function f) s m
  pub kind_count : length counts.kinds.items ≡ 8
  pub kinds_are : (k : Kind) → get_or counts.kinds.items (number_of k) nothing ≡ tally code (is_kind k) s m
  pub groups_are : (g : ℕ) → g < length counts.groups.tallies.items → get_or counts.groups.tallies.items g nothing ≡ tally code (in_group counts.groups.of_places.items g) s m

-- ---- no sum is too great

record Within (m : ℕ) (t : Tally) : Type 0 where
  few : t.instructions ≤ m
  fewer : t.masked ≤ t.instructions
  lanes : t.lanes_on ≤ 64 * t.instructions

nothing_within : (m : ℕ) → Within m nothing
nothing_within m = record { few = omega arith; fewer = omega arith; lanes = omega arith }

one_within : (code : Listing) (c : Conf) (k : Option Register) → Within 1 (one (lanes_on code c k))
one_within code c None = record { few = omega arith; fewer = omega arith; lanes = omega arith }
one_within code c (Some k) =
    let low = rank_le (mask_held code c k) (gang_width code.gang) in
    let wide = width_le code.gang in
    record { few = omega arith; fewer = omega arith; lanes = omega (arith, low, wide) }

if_within : (b : Bool) (t : Tally) → Within 1 t → Within 1 (if b then t else nothing)
if_within true t w = w
if_within false t w = nothing_within 1

counted_within : (code : Listing) (chosen : Chosen) (c : Conf) (i : Option Instr) → Within 1 (counted chosen (as_executed code c i))
counted_within code chosen c None = nothing_within 1
counted_within code chosen c (Some i) = if_within (chosen (record { function = c.home.fn; kind = kind_of i; place = place_of i; on = lanes_on code c (under i) })) (one (lanes_on code c (under i))) (one_within code c (under i))

step_within : (code : Listing) (chosen : Chosen) (s : State) → Within 1 (step_tally code chosen s)
step_within code chosen (Runs c) = counted_within code chosen c (instr_at code c)
step_within code chosen (Trapped t c) = nothing_within 1
step_within code chosen (Ended x c) = nothing_within 1

plus_within : (m : ℕ) (t u : Tally) → Within m t → Within 1 u → Within (suc m) (plus t u)
plus_within m t u p q = record { few = omega (arith, p.few, q.few); fewer = omega (arith, p.fewer, q.fewer); lanes = omega (arith, p.lanes, q.lanes) }

within : (code : Listing) (chosen : Chosen) (s : State) (m : ℕ) → Within m (tally code chosen s m)
within code chosen s zero = nothing_within 0
within code chosen s (suc m) = plus_within m (tally code chosen s m) (step_tally code chosen (after code m s)) (within code chosen s m) (step_within code chosen (after code m s))

room_of : (m : ℕ) (t u : Tally) → m + 1 < 2 ^ 64 → Within m u → t ≡ u → HasRoom t
room_of m t u h w e = subst (λ (z : Tally). HasRoom z) (sym e) (record { few = omega (arith, h, w.few); fewer = w.fewer; lanes = w.lanes })

-- ---- counts

-- a list of tallies with one more instruction in one of them
more_there : (ts : List Tally) (at f : ℕ) (u : Tally) → at < length ts → at ≡ f → get_or (slice_set ts at (plus (get_or ts at nothing) u)) f nothing ≡ plus (get_or ts f nothing) u
more_there ts at f u low e =
    ap (λ (k : ℕ). get_or (slice_set ts at (plus (get_or ts at nothing) u)) k nothing) (sym e)
    ∙ get_or-set_same ts at (plus (get_or ts at nothing) u) nothing low
    ∙ ap (λ (k : ℕ). plus (get_or ts k nothing) u) e

more_elsewhere : (ts : List Tally) (at f : ℕ) (u : Tally) → at ≢ f → get_or (slice_set ts at (plus (get_or ts at nothing) u)) f nothing ≡ get_or ts f nothing
more_elsewhere ts at f u off = get_or-set_other ts at f (plus (get_or ts at nothing) u) nothing (λ (e : f ≡ at). off (sym e))

more_at : (ts : List Tally) (at f : ℕ) (u : Tally) → at < length ts → get_or (slice_set ts at (plus (get_or ts at nothing) u)) f nothing ≡ plus (get_or ts f nothing) (if nat_eq at f then u else nothing)
more_at ts at f u low = by (nat_eq at f) refl
  where
    by : (b : Bool) → nat_eq at f ≡ b → get_or (slice_set ts at (plus (get_or ts at nothing) u)) f nothing ≡ plus (get_or ts f nothing) (if b then u else nothing)
    by true e = more_there ts at f u low (eqb-true at f e)
    by false e = more_elsewhere ts at f u (eqb-false at f e) ∙ sym (plus_nothing (get_or ts f nothing))

-- the same in the tally of a number, if there is one and a tally of it
there_at : (ts : List Tally) (q : Option ℕ) (on : Option ℕ) (p : ℕ) → p < length ts → get_or (added_there ts q on) p nothing ≡ plus (get_or ts p nothing) (if is_number p q then one on else nothing)
there_at ts None on p low = sym (plus_nothing (get_or ts p nothing))
there_at ts (Some q) on p low = by (nat_lt q (length ts)) refl
  where
    by : (b : Bool) → nat_lt q (length ts) ≡ b → get_or (if b then added ts q on else ts) p nothing ≡ plus (get_or ts p nothing) (if nat_eq q p then one on else nothing)
    by true e = more_at ts q p (one on) (ltb-true q (length ts) e)
    by false e = apart (nat_eq q p) refl
      where
        apart : (d : Bool) → nat_eq q p ≡ d → get_or ts p nothing ≡ plus (get_or ts p nothing) (if d then one on else nothing)
        apart true same = absurd (omega (arith, low, ltb-false q (length ts) e, eqb-true q p same))
        apart false same = sym (plus_nothing (get_or ts p nothing))

there_long : (ts : List Tally) (q : Option ℕ) (on : Option ℕ) → length (added_there ts q on) ≡ length ts
there_long ts None on = refl
there_long ts (Some q) on = by (nat_lt q (length ts))
  where
    by : (b : Bool) → length (if b then added ts q on else ts) ≡ length ts
    by true = length-set ts q _
    by false = refl

number_low : (k : Kind) → number_of k < 8
number_low Scalars = omega arith
number_low Vectors = omega arith
number_low Memory = omega arith
number_low Masks = omega arith
number_low Jumps = omega arith
number_low Calls = omega arith
number_low Output = omega arith
number_low Asserts = omega arith

-- before the first step
pub counts_none : (code : Listing) (s : State) (c : Counts) → c.total ≡ nothing → c.functions.items ≡ replicate (length code.routines) nothing → c.kinds.items ≡ replicate 8 nothing
    → (n : ℕ) × (c.groups.tallies.items ≡ replicate n nothing) → AreSums code s 0 c
counts_none code s c total functions kinds groups =
    record {
      total_is = total;
      function_count = ap length functions ∙ length-replicate (length code.routines) nothing;
      functions_are = λ f low. ap (λ (ts : List Tally). get_or ts f nothing) functions ∙ get_or-replicate (length code.routines) f nothing nothing low;
      kind_count = ap length kinds;
      kinds_are = λ k. ap (λ (ts : List Tally). get_or ts (number_of k) nothing) kinds ∙ get_or-replicate 8 (number_of k) nothing nothing (number_low k);
      groups_are = λ g low.
          let count : length c.groups.tallies.items ≡ groups.0 = ap length groups.1 ∙ length-replicate groups.0 nothing in
          ap (λ (ts : List Tally). get_or ts g nothing) groups.1 ∙ get_or-replicate groups.0 g nothing nothing (subst (λ (n : ℕ). g < n) count low);
    }

module _ (code : Listing) (s : State) (m : ℕ) where
  pub counts_room : (c : Counts) → AreSums code s m c → m + 1 < 2 ^ 64 → HaveRoom c
  counts_room c are h =
      record {
        total = room_of m c.total _ h (within code every s m) are.total_is;
        functions = λ f low. room_of m _ _ h (within code (in_function f) s m) (are.functions_are f (subst (λ (n : ℕ). f < n) are.function_count low));
        kinds = λ k. room_of m _ _ h (within code (is_kind k) s m) (are.kinds_are k);
        kind_count = are.kind_count;
        groups = λ g low. room_of m _ _ h (within code (in_group c.groups.of_places.items g) s m) (are.groups_are g low);
      }

  module _ (c : Conf) (at : after code m s ≡ Runs c) where
    -- what the next step adds
    next_is : (chosen : Chosen) (t : Option Executed) → t ≡ as_executed code c (instr_at code c) → tally code chosen s (suc m) ≡ plus (tally code chosen s m) (counted chosen t)
    next_is chosen t is =
        ap (λ (z : State). plus (tally code chosen s m) (step_tally code chosen z)) at
        ∙ ap (λ (o : Option Executed). plus (tally code chosen s m) (counted chosen o)) (sym is)

    no_more : (chosen : Chosen) → None ≡ as_executed code c (instr_at code c) → tally code chosen s (suc m) ≡ tally code chosen s m
    no_more chosen is = next_is chosen None is ∙ plus_nothing (tally code chosen s m)

    counts_same : (old : Counts) → None ≡ as_executed code c (instr_at code c) → AreSums code s m old → AreSums code s (suc m) old
    counts_same old is are =
        record {
          total_is = are.total_is ∙ sym (no_more every is);
          function_count = are.function_count;
          functions_are = λ f low. are.functions_are f low ∙ sym (no_more (in_function f) is);
          kind_count = are.kind_count;
          kinds_are = λ k. are.kinds_are k ∙ sym (no_more (is_kind k) is);
          groups_are = λ g low. are.groups_are g low ∙ sym (no_more (in_group old.groups.of_places.items g) is);
        }

    counts_one : (t : Executed) (old new : Counts) → Some t ≡ as_executed code c (instr_at code c) → AreSums code s m old → t.function < length old.functions.items → Adds t old new → AreSums code s (suc m) new
    counts_one t old new is are low adds =
        let length_same : (ts : List Tally) (k : ℕ) (u : Tally) → length (slice_set ts k u) ≡ length ts = λ ts k u. length-set ts k u in
        let low_kind : number_of t.kind < length old.kinds.items = subst (λ (n : ℕ). number_of t.kind < n) (sym are.kind_count) (number_low t.kind) in
        record {
          total_is = adds.total ∙ ap (λ (u : Tally). plus u (one t.on)) are.total_is ∙ sym (next_is every (Some t) is);
          function_count = ap length adds.functions ∙ length_same old.functions.items t.function _ ∙ are.function_count;
          functions_are = λ f below.
              ap (λ (ts : List Tally). get_or ts f nothing) adds.functions
              ∙ more_at old.functions.items t.function f (one t.on) low
              ∙ ap (λ (u : Tally). plus u (if nat_eq t.function f then one t.on else nothing)) (are.functions_are f below)
              ∙ sym (next_is (in_function f) (Some t) is);
          kind_count = ap length adds.kinds ∙ length_same old.kinds.items (number_of t.kind) _ ∙ are.kind_count;
          kinds_are = λ k.
              ap (λ (ts : List Tally). get_or ts (number_of k) nothing) adds.kinds
              ∙ more_at old.kinds.items (number_of t.kind) (number_of k) (one t.on) low_kind
              ∙ ap (λ (u : Tally). plus u (if nat_eq (number_of t.kind) (number_of k) then one t.on else nothing)) (are.kinds_are k)
              ∙ sym (next_is (is_kind k) (Some t) is);
          groups_are = λ g below.
              let of = old.groups.of_places.items in
              let q = group_of of t.place in
              let count : length new.groups.tallies.items ≡ length old.groups.tallies.items = ap length adds.groups ∙ there_long old.groups.tallies.items q t.on in
              let low_group : g < length old.groups.tallies.items = subst (λ (n : ℕ). g < n) count below in
              ap (λ (ts : List Tally). get_or ts g nothing) adds.groups
              ∙ there_at old.groups.tallies.items q t.on g low_group
              ∙ ap (λ (u : Tally). plus u (if is_number g q then one t.on else nothing)) (are.groups_are g low_group)
              ∙ sym (next_is (in_group of g) (Some t) is)
              ∙ ap (λ (ps : List ℕ). tally code (in_group ps g) s (suc m)) (sym adds.of_places);
        }

    pub counts_more : (t : Option Executed) (old new : Counts) → t ≡ as_executed code c (instr_at code c) → IfSome t (λ u. u.function < length old.functions.items) → AddsIf t old new → AreSums code s m old → AreSums code s (suc m) new
    counts_more None old new is low adds are = subst (λ (z : Counts). AreSums code s (suc m) z) (sym adds) (counts_same old is are)
    counts_more (Some t) old new is low adds are = counts_one t old new is are low adds

-- the groups stay those that were asked for
pub grouped_more : (t : Option Executed) (q : Grouping) (old new : Counts) → AddsIf t old new → IsGrouped q old.groups → IsGrouped q new.groups
grouped_more None q old new adds is = subst (λ (z : Counts). IsGrouped q z.groups) (sym adds) is
grouped_more (Some t) q old new adds is =
    record { places = adds.of_places ∙ is.places; count = ap length adds.groups ∙ there_long old.groups.tallies.items (group_of old.groups.of_places.items t.place) t.on ∙ is.count }
