-- How many instructions small pieces of the code of statements have, given how many their parts have at most.
use Rattle.std.proofs.Common.{◌≡◌, ℕ, ◌+◌, ◌*◌, ◌≤◌, List, [], ◌∷◌, ◌++◌, length, Bool, true, false, refl, arith, length-append}
use Rattle.isp_base.specs.declared.types.Rate.{Rate}
use Rattle.isp_base.specs.declared.types.Rate.TheVariants.{Uniform, Varying}
use Rattle.isp_code.specs.declared.instr.Instr.{Instr}
use Rattle.isp_code.specs.declared.instr.Instr.TheVariants as instr
use Rattle.isp_code.specs.declared.instr.JumpTest.TheVariants as jump
use Rattle.isp_code.specs.declared.instr.Plain.TheVariants as plain
use Rattle.isp_tree.specs.declared.stmt.Form.{Form}
use Rattle.isp_tree.specs.declared.stmt.Form.TheVariants.{Plain, Coherent}
use Rattle.isp_tree.specs.declared.stmt.Jump.{Jump}
use Rattle.isp_tree.specs.declared.stmt.Jump.TheVariants.{Break, Continue}
use Rattle.isp_typed.specs.Typed.{TRange}
use Rattle.isp_lower_code.specs.Instructions.{compute, convert, copy, jump_off, jump_on, the_others}
use Rattle.isp_lower_code.specs.Layout.{Layout, mask_register}
use Rattle.isp_lower_code.specs.Pieces.{guard, two}
use Rattle.isp_masks_code.specs.Asserts.{fails_code}
use Rattle.isp_masks_code.specs.Exits.{nobody_leaves}
use Rattle.isp_masks_code.specs.Loops.{copy_mask, if_needed, enter_code, loop_end_code, jump_all, rejoin_code, turn_code, sift_code, live_code, again_code, next_code, loop_code, tested_code, no_code, do_code, for_code, endless_code}
use Rattle.isp_masks_code.specs.Ranges.{RunBodies, begun, singles_code, full_back, full_code, goes_on, index_step, last_index, narrow, next_from, outer_index, ranges_code, refill, rest_run, run_place, runs_code, test, wide}
use Rattle.isp_masks_code.specs.Rounds.{Values, active_code, rounds_code, take_code, unique_code, value_code}
use Rattle.isp_masks_code.specs.Sets.{clear_mask, jump_code, jumped_code, unite}
use Rattle.isp_masks_code.specs.Spots.{Spot, under, widely}
use Rattle.isp_masks_code.specs.Statements.{both_kept_code, if_code, if_else_code, parted_code, wide_code}
use Rattle.isp_masks_code.specs.declared.exits.Exits.{Exits}
use Rattle.isp_masks_code.specs.declared.exits.Leaving.{Leaving}
use Rattle.isp_masks_code.specs.declared.exits.Leaving.TheVariants.{Never, Always, Maybe}

-- code has at most so many instructions, wherever it begins
abbrev pub Most : ℕ → (ℕ → List Instr) → Type 0
Most a code = (pc : ℕ) → length (code pc) ≤ a

-- and whatever its masks are
abbrev pub MostAt : ℕ → (ℕ → Spot → List Instr) → Type 0
MostAt a code = (pc : ℕ) (spot : Spot) → length (code pc spot) ≤ a

-- ---- jumps

jumped_long : (j : Jump) (n co : ℕ) → length (jumped_code j n co) ≤ 1
jumped_long Break n co = omega arith
jumped_long Continue n co = omega arith

pub jump_long : (j : Jump) (k co : ℕ) → length (jump_code j k co) ≤ 2
jump_long Break k co = omega arith
jump_long Continue k co = omega arith

pub fails_long : (r : Rate) (x pc p k n : ℕ) → length (fails_code r x pc p k n) ≤ 3
fails_long Uniform x pc p k n = omega arith
fails_long Varying x pc p k n = omega arith

-- ---- choices

parted_long : (x pc k n a b : ℕ) (first rest : ℕ → List Instr) → Most a first → Most b rest → length (parted_code x pc k n first rest) ≤ a + b + 4
parted_long x pc k n a b first rest fa fb =
    let side = guard (jump_off n) (pc + 1 + 1) first in
    let p = pc + 1 + 1 + length side in
    let join = unite k n k ∷ [] in
    omega (arith, length-append side (rest p ++ join), length-append (rest p) join, fa (pc + 1 + 1 + 1), fb p)

both_kept_long : (x pc k n a b : ℕ) (first second : ℕ → List Instr) → Most a first → Most b second → length (both_kept_code x pc k n first second) ≤ a + b + 4
both_kept_long x pc k n a b first second fa fb =
    let side = guard (jump_off n) (pc + 1 + 1) first in
    let p = pc + 1 + 1 + length side in
    omega (arith, length-append side (guard (jump_off (n + 1)) p second), fa (pc + 1 + 1 + 1), fb (p + 1))

wide_long : (x pc k n a b : ℕ) (first rest : ℕ → List Instr) → Most a first → Most b rest → length (wide_code x pc k n first rest) ≤ a + b + 7
wide_long x pc k n a b first rest fa fb =
    let side = guard (jump_off k) (pc + 1 + 1 + 1 + 1) first in
    let p = pc + 1 + 1 + 1 + 1 + length side in
    let join = unite k k (n + 1) ∷ [] in
    let last = guard (jump_all n) p (λ pc2. rest pc2 ++ join) in
    omega (arith, length-append side last, length-append (rest (p + 1)) join, fa (pc + 1 + 1 + 1 + 1 + 1), fb (p + 1))

pub if_long : (v : Leaving) (f : Form) (r : Rate) (x pc a : ℕ) (spot : Spot) (first : ℕ → Spot → List Instr) → MostAt a first → length (if_code v f r x pc spot first) ≤ a + 7
if_long v f Uniform x pc a spot first fa = omega (arith, fa (pc + 1) spot)
if_long v Coherent Varying x pc a spot first fa =
    let h = wide_long x pc spot.on spot.slot a 0 (λ pc1. first pc1 (widely spot.on spot)) (λ pc1. []) (λ pc1. fa pc1 (widely spot.on spot)) (λ pc1. omega arith) in
    omega (arith, h)
if_long Never Plain Varying x pc a spot first fa = omega (arith, fa (pc + 1 + 1) (under spot.slot spot))
if_long (Always j) Plain Varying x pc a spot first fa = omega (arith, jumped_long j spot.slot spot.continued)
if_long Maybe Plain Varying x pc a spot first fa =
    let h = parted_long x pc spot.on spot.slot a 0 (λ pc1. first pc1 (under spot.slot spot)) (λ pc1. []) (λ pc1. fa pc1 (under spot.slot spot)) (λ pc1. omega arith) in
    omega (arith, h)

pub if_else_long : (z : Bool) (f : Form) (r : Rate) (x pc a b : ℕ) (spot : Spot) (first second : ℕ → Spot → List Instr) → MostAt a first → MostAt b second
    → length (if_else_code z f r x pc spot first second) ≤ a + b + 8
if_else_long z f Uniform x pc a b spot first second fa fb =
    let p = pc + 1 + length (first (pc + 1) spot) + 1 in
    omega (arith, length-append (first (pc + 1) spot) (instr.Jump (p + length (second p spot)) ∷ second p spot), fa (pc + 1) spot, fb p spot)
if_else_long z Coherent Varying x pc a b spot first second fa fb =
    let k = spot.on in
    let n = spot.slot in
    let other = widely (n + 1) spot in
    let h =
    wide_long x pc k n a (b + 1) (λ pc1. first pc1 (widely k spot)) (λ pc1. guard (jump_off (n + 1)) pc1 (λ pc2. second pc2 other)) (λ pc1. fa pc1 (widely k spot)) (λ pc1. omega (arith, fb (pc1 + 1) other)) in
    omega (arith, h)
if_else_long true Plain Varying x pc a b spot first second fa fb =
    let n = spot.slot in
    let h =
    both_kept_long x pc spot.on n a b (λ pc1. first pc1 (widely n spot)) (λ pc1. second pc1 (widely (n + 1) spot)) (λ pc1. fa pc1 (widely n spot)) (λ pc1. fb pc1 (widely (n + 1) spot)) in
    omega (arith, h)
if_else_long false Plain Varying x pc a b spot first second fa fb =
    let k = spot.on in
    let n = spot.slot in
    let h =
    parted_long x pc k n a (b + 1) (λ pc1. first pc1 (widely n spot)) (λ pc1. guard (jump_off k) pc1 (λ pc2. second pc2 (widely k spot))) (λ pc1. fa pc1 (widely n spot)) (λ pc1. omega (arith, fb (pc1 + 1) (widely k spot))) in
    omega (arith, h)

-- ---- loops

needed_long : (z : Bool) (code : List Instr) → length (if_needed z code) ≤ length code
needed_long true code = omega arith
needed_long false code = omega arith

rejoin_long : (wide : Bool) (e : Exits) (pc n : ℕ) → length (rejoin_code wide e pc n) ≤ 2
rejoin_long true e pc n = omega (arith, needed_long e.continues (unite n n (n + 1) ∷ []))
rejoin_long false e pc n = omega (arith, needed_long e.continues (unite n n (n + 1) ∷ []))

turn_long : (wide : Bool) (e : Exits) (pc n a : ℕ) (body : ℕ → List Instr) → Most a body → length (turn_code wide e pc n body) ≤ a + 3
turn_long wide e pc n a body fa =
    let begin = if_needed e.continues (clear_mask (n + 1) ∷ []) in
    let p = pc + length begin in
    let back = rejoin_code wide e (p + length (body p)) n in
    omega (arith, length-append begin (body p ++ back), length-append (body p) back, needed_long e.continues (clear_mask (n + 1) ∷ []), rejoin_long wide e (p + length (body p)) n, fa p)

live_long : (z : Bool) (n pc a : ℕ) (code : ℕ → List Instr) → Most a code → length (live_code z n pc code) ≤ a + 1
live_long true n pc a code fa = omega (arith, fa pc)
live_long false n pc a code fa = omega (arith, fa (pc + 1))

next_long : (e : Exits) (n pc a b : ℕ) (step back : ℕ → List Instr) → Most a step → Most b back → length (next_code e n pc step back) ≤ a + b + 1
next_long e n pc a b step back fa fb =
    live_long (nobody_leaves e) n pc (a + b) (λ pc1. two pc1 (step pc1) back)
    (λ pc1. omega (arith, length-append (step pc1) (back (pc1 + length (step pc1))), fa pc1, fb (pc1 + length (step pc1))))

again_long : (r : Rate) (x n top : ℕ) → length (again_code r x n top) ≤ 2
again_long Uniform x n top = omega arith
again_long Varying x n top = omega arith

sift_long : (r : Rate) (x pc n a : ℕ) (rest : ℕ → List Instr) → Most a rest → length (sift_code r x pc n rest) ≤ a + 2
sift_long Uniform x pc n a rest fa = omega (arith, fa (pc + 1))
sift_long Varying x pc n a rest fa = omega (arith, fa (pc + 1 + 1))

loop_long : (e : Exits) (pc a : ℕ) (spot : Spot) (turns : ℕ → List Instr) → Most a turns → length (loop_code e pc spot turns) ≤ a + 4
loop_long e pc a spot turns fa =
    let k = spot.on in
    let n = spot.slot in
    let begin = enter_code e k n in
    let p = pc + length begin in
    let end = loop_end_code e k spot.returned n in
    omega (arith, length-append begin (turns p ++ end), length-append (turns p) end, needed_long e.returns (clear_mask (n + 2) ∷ []), needed_long e.returns (the_others k k (n + 2) ∷ unite spot.returned spot.returned (n + 2) ∷ []), fa p)

-- the code of a loop's parts: its test, its body and its step
tested_long : (wide : Bool) (e : Exits) (r : Rate) (x n top a b c : ℕ) (test body step : ℕ → List Instr) → Most a test → Most b body → Most c step
    → length (tested_code wide e r x n top test body step) ≤ a + b + c + 6
tested_long wide e r x n top a b c test body step fa fb fc =
    let turn = turn_code wide e top n body in
    let p = top + length turn in
    let more = λ (pc : ℕ). test pc ++ again_code r x n top in
    let h : length (next_code e n p step more) ≤ c + (a + 2) + 1 = next_long e n p c (a + 2) step more fc (λ pc. omega (arith, length-append (test pc) (again_code r x n top), fa pc, again_long r x n top)) in
    omega (arith, length-append turn (next_code e n p step more), h, turn_long wide e top n b body fb)

pub do_long : (wide : Bool) (e : Exits) (r : Rate) (x pc a b : ℕ) (spot : Spot) (test body : ℕ → List Instr) → Most a test → Most b body
    → length (do_code wide e r x pc spot test body) ≤ a + b + 10
do_long wide e r x pc a b spot test body fa fb =
    let n = spot.slot in
    let h =
    loop_long e pc (a + b + 0 + 6) spot (λ top. tested_code wide e r x n top test body no_code) (λ top. tested_long wide e r x n top a b 0 test body no_code fa fb (λ p. omega arith)) in
    omega (arith, h)

pub for_long : (wide : Bool) (e : Exits) (r : Rate) (x pc d a b c : ℕ) (spot : Spot) (entry test body step : ℕ → List Instr) → Most d entry → Most a test
    → Most b body → Most c step → length (for_code wide e r x pc spot entry test body step) ≤ d + a + b + c + 12
for_long wide e r x pc d a b c spot entry test body step fd fa fb fc =
    let n = spot.slot in
    let turns = λ (top : ℕ). tested_code wide e r x n top test body step in
    let sift = λ (pc2 : ℕ). sift_code r x pc2 n turns in
    let rest : (pc2 : ℕ) → length (sift pc2) ≤ a + b + c + 6 + 2 = λ pc2. sift_long r x pc2 n (a + b + c + 6) turns (λ top. tested_long wide e r x n top a b c test body step fa fb fc) in
    let h : length (loop_code e pc spot (λ pc1. two pc1 (entry pc1) sift)) ≤ d + (a + b + c + 6 + 2) + 4 =
    loop_long e pc (d + (a + b + c + 6 + 2)) spot (λ pc1. two pc1 (entry pc1) sift)
    (λ pc1. omega (arith, length-append (entry pc1) (sift (pc1 + length (entry pc1))), fd pc1, rest (pc1 + length (entry pc1)))) in
    omega (arith, h)

pub endless_long : (e : Exits) (pc b c : ℕ) (spot : Spot) (body step : ℕ → List Instr) → Most b body → Most c step → length (endless_code e pc spot body step) ≤ b + c + 9
endless_long e pc b c spot body step fb fc =
    let n = spot.slot in
    let turn = λ (top : ℕ). turn_code false e top n body in
    let next = λ (top pc1 : ℕ). next_code e n pc1 step (λ pc2. instr.Jump top ∷ []) in
    let h : length (endless_code e pc spot body step) ≤ b + 3 + (c + 1 + 1) + 4 =
    loop_long e pc (b + 3 + (c + 1 + 1)) spot (λ top. two top (turn top) (next top))
    (λ top. omega (arith, length-append (turn top) (next top (top + length (turn top))), turn_long false e top n b body fb, next_long e n (top + length (turn top)) c 1 step (λ pc2. instr.Jump top ∷ []) fc (λ pc2. omega arith))) in
    omega (arith, h)

-- ---- rounds

rounds_long : (begin : List Instr) (n top a : ℕ) (body : ℕ → List Instr) → Most a body → length (rounds_code begin n top body) ≤ length begin + a + 1
rounds_long begin n top a body fa =
    let p = top + length begin in
    let back = instr.JumpIf jump.On (mask_register n) top ∷ [] in
    omega (arith, length-append begin (body p ++ back), length-append (body p) back, fa p)

pub active_long : (i pc k n a : ℕ) (body : ℕ → List Instr) → Most a body → length (active_code i pc k n body) ≤ a + 5
active_long i pc k n a body fa = omega (arith, rounds_long (take_code i n) n (pc + 1) a body fa)

pub unique_long : (v : Values) (values : List Instr) (x pc k n a : ℕ) (body : ℕ → List Instr) → Most a body → length (unique_code v values x pc k n body) ≤ length values + a + 10
unique_long v values x pc k n a body fa =
    let both = copy Varying v.all x k ∷ copy_mask n k ∷ [] in
    let begin = values ++ both in
    let p = pc + length begin in
    omega (arith, length-append begin (rounds_code (value_code v n) n p body), length-append values both, rounds_long (value_code v n) n p a body fa)

-- ---- ranges, given the indices of those outside

refill_long : (kept : Bool) (h : ℕ) → length (refill kept h) ≤ 1
refill_long true h = omega arith
refill_long false h = omega arith

module _ (l : Layout) where
  step_long : (z : Bool) (i n h pc : ℕ) → length (index_step l z i n h pc) ≤ 2
  step_long true i n h pc = omega arith
  step_long false i n h pc = omega arith

  full_long : (alone kept : Bool) (own : List Instr) (i x m n h a : ℕ) (body : ℕ → List Instr) (pc : ℕ) → Most a body
      → length (full_code l alone kept own i x m n h body pc) ≤ a + length own + 7
  full_long alone kept own i x m n h a body pc fa =
      let first = pc + 1 in
      let at = first + length own in
      let skip = index_step l alone i n h at in
      let top = at + length skip in
      let back = full_back l x m n (next_from alone first at) in
      let turn = body top ++ (refill kept h ++ back) in
      omega (arith, length-append own (skip ++ turn), length-append skip turn, length-append (body top) (refill kept h ++ back), length-append (refill kept h) back, step_long alone i n h at, refill_long kept h, fa top)

  rest_long : (own : List Instr) (x e h a : ℕ) (body : ℕ → List Instr) (pc : ℕ) → Most a body → length (rest_run l own x e h body pc) ≤ a + length own + 2
  rest_long own x e h a body pc fa =
      let top = pc + 1 + 1 + length own in
      omega (arith, length-append own (body top), fa top)

  runs_long : (loaded : Bool) (set : List Instr) (i e m n h a : ℕ) (body : RunBodies) (pc : ℕ) → Most a body.full → Most a body.rest
      → length (runs_code l loaded set i e m n h body pc) ≤ a + a + 2 * length set + 19
  runs_long loaded set i e m n h a body pc fa fb =
      let x = run_place l loaded m in
      let index = last_index l i x m n h in
      let own = set ++ index in
      let pc3 = pc + 1 + 1 + 1 in
      let alone = goes_on loaded set in
      let full = guard (jump_on jump.False (test l (m + 1))) pc3 (full_code l alone body.kept own i x m n h body.full) in
      let tail = pc3 + length full in
      omega (arith, length-append set index, length-append full (rest_run l own x e h body.rest tail), full_long alone body.kept own i x m n h a body.full (pc3 + 1) fa, rest_long own x e h a body.rest tail fb)

  -- the scalars of the indices are one instruction each
  pub singles_long : (rs : List TRange) (m : ℕ) → length (singles_code l rs m) ≡ length rs
  singles_long [] m = refl
  singles_long (r ∷ []) m = refl
  singles_long (r ∷ q ∷ rs) m = omega (arith, singles_long (q ∷ rs) (m + 1 + 1))

  pub set_long : (rs : List TRange) (m a : ℕ) (body : ℕ → List Instr) → Most a body → Most (a + length rs) (begun (l.sets rs) (singles_code l rs m) body)
  set_long rs m a body fa = go (l.sets rs)
    where
      own : List Instr
      own = singles_code l rs m

      go : (d : Bool) → Most (a + length rs) (begun d own body)
      go false pc = omega (arith, fa pc)
      go true pc = omega (arith, length-append own (body (pc + length own)), fa (pc + length own), singles_long rs m)

  pub ranges_long : (n h a : ℕ) (body : RunBodies) (rs : List TRange) (set : List Instr) (e m pc : ℕ) → Most a body.full → Most a body.rest
      → length (ranges_code l n h body rs set e m pc) ≤ a + a + 2 * length set + 8 * length rs + 19
  ranges_long n h a body [] set e m pc fa fb =
      let ca = body.full pc in
      let cb = body.rest (pc + length ca) in
      omega (arith, length-append ca cb, fa pc, fb (pc + length ca))
  ranges_long n h a body (r ∷ []) set e m pc fa fb = omega (arith, runs_long (l.loaded r.index) set r.index e m n h a body pc fa fb)
  ranges_long n h a body (r ∷ q ∷ rs) set e m pc fa fb =
      let one = outer_index l r.index (m + 1) h ∷ [] in
      let p = pc + 1 + 1 + 1 in
      let inside = convert Uniform (narrow l (m + 1)) (wide l m) 0 ∷ ranges_code l n h body (q ∷ rs) (set ++ one) (e + 1 + 1) (m + 1 + 1) (p + 1) in
      let back = compute Uniform plain.Add (wide l m) (wide l m) (wide l (n + 1)) 0 ∷ instr.Jump (pc + 1) ∷ [] in
      omega (arith, length-append inside back, length-append set one, ranges_long n h a body (q ∷ rs) (set ++ one) (e + 1 + 1) (m + 1 + 1) (p + 1) fa fb)
