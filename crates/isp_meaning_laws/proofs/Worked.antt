-- The work of what has parts.
use Rattle.std.proofs.Common.{◌≡◌, refl, sym, ap, ◌∙◌, subst, ℕ, zero, suc, ◌+◌, ◌*◌, List, [], ◌∷◌, ◌++◌, length, map, Bool, true, false, arith, length-append}
use Rattle.std.specs.Prelude.{Option, ℤ, pos, ◌+ℤ◌}
use Rattle.isp_base.specs.Maps.{where_true}
use Rattle.isp_base.specs.Sets.{Mask, nobody, union, without, any}
use Rattle.isp_base.specs.Types.{gang_width}
use Rattle.isp_base.specs.declared.types.Ty.{Ty}
use Rattle.isp_meaning.specs.Calls.{frame_of, begun, ended, calls_at}
use Rattle.isp_meaning.specs.Expressions.{value}
use Rattle.isp_meaning.specs.Loops.{loop_end, tested, stepped, turns}
use Rattle.isp_meaning.specs.Nodes.{GivesAfter, WentAfter}
use Rattle.isp_meaning.specs.Outcomes.{Val, Gives, Fails, Stops, Res, Went, Trapped, Cut, Done, with_value, go_on, both_sides, unless_empty, if_so}
use Rattle.isp_meaning.specs.Payloads.{Payload, is_true, kept_by}
use Rattle.isp_meaning.specs.Rounds.{Range, Run, rounds, length_of, runs_for, from_on, last_run, with_outer, joined_lists, runs_of, set_indices, round_of_run, counted}
use Rattle.isp_meaning.specs.Simple.{no_step, first_part, step_part}
use Rattle.isp_meaning.specs.State.{State, Frame, tick}
use Rattle.isp_meaning.specs.Statements.{test_part, run, block}
use Rattle.isp_meaning_laws.specs.Works.{WorkOfIf, WorkOfCall, Always, SomebodyLeft, AlwaysGoesOn, WentAfterTurns, WorkOfLoops, WorkOfForeach}

-- ---- `if`

-- more work before
later : (v : Res) (n m : ℕ) (s s1 : State) → s1.work ≡ s.work + n → WentAfter m s1 v → WentAfter (n + m) s v
later (Went s2 g b c r) n m s s1 e h = omega (arith, e, h)
later (Trapped t s2) n m s s1 e h = tt
later (Cut s2) n m s s1 e h = tt

behind_tick : (n : ℕ) (s s1 : State) → s1.work ≡ (tick s).work + n → s1.work ≡ s.work + (1 + n)
behind_tick n s s1 e = omega (arith, e)

together : (v : Res) (n m : ℕ) (s s1 : State) → s1.work ≡ (tick s).work + n → WentAfter m s1 v → WentAfter (1 + (n + m)) s v
together (Went s2 g b c r) n m s s1 e h = omega (arith, e, h)
together (Trapped t s2) n m s s1 e h = tt
together (Cut s2) n m s s1 e h = tt

chosen : (t : Bool) (first second : State → Res) (m : ℕ) (s : State) → (t ≡ true → WentAfter m s (first s)) → (t ≡ false → WentAfter m s (second s)) → WentAfter m s (if_so t first second s)
chosen true first second m s h k = h refl
chosen false first second m s h k = k refl

sides : (v : Res) (second : State → Res) (m k : ℕ) (s : State) → WentAfter m s v → ((s2 : State) → WentAfter k s2 (second s2)) → WentAfter (m + k) s (both_sides v second)
sides (Trapped t s1) second m k s h i = tt
sides (Cut s1) second m k s h i = tt
sides (Went s1 g b c r) second m k s h i = go (second s1) (i s1) where
  go : (w : Res) → WentAfter k s1 w → WentAfter (m + k) s (go_on w (λ s' g' b' c' r'. Went s' (union g g') (union b b') (union c c') (union r r')))
  go (Went s2 g1 b1 c1 r1) j = omega (arith, h, j)
  go (Trapped t s2) j = tt
  go (Cut s2) j = tt

empty : (gang : ℕ) (a : Mask) (s : State) (does : Mask → State → Res) → any gang a ≡ false → WentAfter 0 s (unless_empty gang a s does)
empty gang a s does e = rw e (omega arith)

pub work_of_if : WorkOfIf
work_of_if = record {
  one = λ gang frame calls most form before e x y sp a s s1 c n m h w i j.
      rw h (together _ n m s s1 w (chosen (is_true c) (run gang frame calls most x a) (run gang frame calls most y a) m s1 i j));
  both = λ gang frame calls most form before e x y sp a s s1 c n m k h w i j.
      rw h (together _ n (m + k) s s1 w (sides (unless_empty gang (where_true is_true c) s1 (run gang frame calls most x)) (λ s2. unless_empty gang (without a (where_true is_true c)) s2 (run gang frame calls most y)) m k s1 i j));
  nobody = empty;
}

-- ---- calls

pub work_of_call : WorkOfCall
work_of_call = record {
  call = λ program most levels frame f g xs t sp a s s1 ps n m e h w i.
      rw (h, e) (over g.answer frame a s s1 n m w (block (gang_width program.gang) (frame_of g ps frame) (calls_at program most levels) most g.body a (begun g ps frame a s1)) i);
} where
  over : (t : Option Ty) (caller : Frame) (a : Mask) (s s1 : State) (n m : ℕ) → s1.work ≡ (tick s).work + n → (v : Res) → WentAfter m s1 v → GivesAfter (1 + (n + m)) s (ended t caller a s1 v)
  over t caller a s s1 n m w (Went s2 g b c r) h = omega (arith, w, h)
  over t caller a s s1 n m w (Trapped k s2) h = tt
  over t caller a s s1 n m w (Cut s2) h = tt

-- ---- loops

-- what a part of a loop has done before its turns
turns_later : (v : Res) (most n before each : ℕ) (s s1 : State) → s1.work ≡ s.work + n → WentAfterTurns most before each s1 v → WentAfterTurns most (n + before) each s v
turns_later (Went s2 g b c r) most n before each s s1 e h = let w = h.2 in (h.0, h.1, omega (arith, e, w))
turns_later (Trapped t s2) most n before each s s1 e h = tt
turns_later (Cut s2) most n before each s s1 e h = tt

-- and one turn more
one_more : (v : Res) (most each : ℕ) (s s1 : State) → s1.work ≡ s.work + each → WentAfterTurns most 0 each s1 v → WentAfterTurns (suc most) 0 each s v
one_more (Went s2 g b c r) most each s s1 e h =
    let w = h.2 in
    let le = h.1 in
    let m : suc h.0 * each ≡ each + h.0 * each = omega arith in
    (suc h.0, omega (arith, le), omega (arith, e, w, m))
one_more (Trapped t s2) most each s s1 e h = tt
one_more (Cut s2) most each s s1 e h = tt

-- a value, and what follows
follows : {A : Type 0} (v : Val A) (go : A → State → Res) (most n before each : ℕ) (s : State)
    → GivesAfter n s v → ((x : A) (s1 : State) → WentAfterTurns most before each s1 (go x s1)) → WentAfterTurns most (n + before) each s (with_value v go)
follows (Gives x s1) go most n before each s h k = turns_later (go x s1) most n before each s s1 h (k x s1)
follows (Fails t s1) go most n before each s h k = tt
follows (Stops s1) go most n before each s h k = tt

module _ (gang : ℕ) (test : Mask → State → Val Payload) (body : Mask → State → Res) (step : Mask → State → Val Done) (all : Mask) (n m k : ℕ)
    (tests : Always gang n test) (steps : Always gang k step) (goes : AlwaysGoesOn gang m body) where
  abbrev each : ℕ
  each = 1 + (m + (k + n))

  -- the test, then the turns, if somebody is kept
  then_turns : (most : ℕ) (turn : Mask → Mask → State → Res) (live returned : Mask) (s : State) → any gang live ≡ true
      → ((kept returned : Mask) (s : State) → any gang kept ≡ true → WentAfterTurns most 0 each s (turn kept returned s))
      → WentAfterTurns most (n + 0) each s (tested gang test body step all turn live returned s)
  then_turns most turn live returned s some h =
      follows (test live s) (λ m1 s1. if_so (any gang (kept_by is_true live m1)) (turn (kept_by is_true live m1) returned) (loop_end gang test body step all returned) s1) most n 0 each s (tests live s some)
      (λ x s1. choose (any gang (kept_by is_true live x)) x s1 refl) where
        choose : (t : Bool) (x : Payload) (s1 : State) → any gang (kept_by is_true live x) ≡ t → WentAfterTurns most 0 each s1 (if_so t (turn (kept_by is_true live x) returned) (loop_end gang test body step all returned) s1)
        choose true x s1 e = h (kept_by is_true live x) returned s1 e
        choose false x s1 e = (0, omega arith, omega arith)

  -- a turn of which the body is done, and what comes after it
  close : (v : Res) (most : ℕ) (s s1 : State) → s1.work ≡ (tick s).work + m → WentAfterTurns most (k + (n + 0)) each s1 v → WentAfterTurns (suc most) 0 each s v
  close (Went s2 g b c r) most s s1 e h =
      let w = h.2 in
      let le = h.1 in
      let i : suc h.0 * each ≡ each + h.0 * each = omega arith in
      (suc h.0, omega (arith, le), omega (arith, e, w, i))
  close (Trapped t s2) most s s1 e h = tt
  close (Cut s2) most s s1 e h = tt

  of_turns : (most : ℕ) (kept returned : Mask) (s : State) → any gang kept ≡ true → WentAfterTurns most 0 each s (turns gang test body step all most kept returned s)
  of_turns zero kept returned s some = tt
  of_turns (suc most) kept returned s some = go (body kept (tick s)) (goes kept (tick s) some).0 (goes kept (tick s) some).1 (of_turns most) where
    go : (v : Res) → WentAfter m (tick s) v → SomebodyLeft gang v
        → ((kept returned : Mask) (s : State) → any gang kept ≡ true → WentAfterTurns most 0 each s (turns gang test body step all most kept returned s))
        → WentAfterTurns (suc most) 0 each s
        (go_on v (λ s1 g b c r. if_so (any gang (union g c)) (stepped gang test body step all (turns gang test body step all most) (union g c) (union returned r)) (loop_end gang test body step all (union returned r)) s1))
    go (Trapped t s1) e i h = tt
    go (Cut s1) e i h = tt
    go (Went s1 g b c r) e i h = rw i (close (stepped gang test body step all (turns gang test body step all most) (union g c) (union returned r) s1) most s s1 e
        (follows (step (union g c) s1) (λ x s2. tested gang test body step all (turns gang test body step all most) (union g c) (union returned r) s2) most k (n + 0) each s1 (steps (union g c) s1 i)
        (λ x s2. then_turns most (turns gang test body step all most) (union g c) (union returned r) s2 i h)))

-- a step that is left out
idle : (gang : ℕ) → Always gang 0 no_step
idle gang a s some = omega arith

same_turns : (v : Res) (most before other turn also : ℕ) (s : State) → before ≡ other → turn ≡ also → WentAfterTurns most before turn s v → WentAfterTurns most other also s v
same_turns v most before other turn also s e f h = subst (λ b. WentAfterTurns most b also s v) e (subst (λ b. WentAfterTurns most before b s v) f h)

pub work_of_loops : WorkOfLoops
work_of_loops = record {
  of_while = λ gang frame calls most form before e x sp a s n m some tests goes.
      same_turns _ most (1 + (n + 0)) (1 + n) (1 + (m + (0 + n))) (1 + (m + n)) s (omega arith) (omega arith)
      (turns_later _ most 1 (n + 0) (1 + (m + (0 + n))) s (tick s) (omega arith)
      (then_turns gang (value gang frame calls e) (run gang frame calls most x) no_step a n m 0 tests (idle gang) goes most
      (turns gang (value gang frame calls e) (run gang frame calls most x) no_step a most) a nobody (tick s) some
      (of_turns gang (value gang frame calls e) (run gang frame calls most x) no_step a n m 0 tests (idle gang) goes most)));
  of_do = λ gang frame calls most form before e x sp a s n m some tests goes.
      same_turns _ most (1 + 0) 1 (1 + (m + (0 + n))) (1 + (m + n)) s (omega arith) (omega arith)
      (turns_later _ most 1 0 (1 + (m + (0 + n))) s (tick s) (omega arith)
      (of_turns gang (value gang frame calls e) (run gang frame calls most x) no_step a n m 0 tests (idle gang) goes most a nobody (tick s) some));
  of_for = λ gang frame calls most form before inside first e step x sp a s f n m k some firsts tests steps goes.
      same_turns _ most (1 + (f + (n + 0))) (1 + (f + n)) (1 + (m + (k + n))) (1 + (m + (k + n))) s (omega arith) refl
      (turns_later _ most 1 (f + (n + 0)) (1 + (m + (k + n))) s (tick s) (omega arith)
      (follows (first_part gang frame calls first a (tick s)) _ most f (n + 0) (1 + (m + (k + n))) (tick s) (firsts a (tick s) some)
      (λ _ s1. then_turns gang (test_part gang frame calls e) (run gang frame calls most x) (step_part gang frame calls step) a n m k tests steps goes most
      (turns gang (test_part gang frame calls e) (run gang frame calls most x) (step_part gang frame calls step) a most) a nobody s1 some
      (of_turns gang (test_part gang frame calls e) (run gang frame calls most x) (step_part gang frame calls step) a n m k tests steps goes most))));
}

-- ---- `foreach`

length_map : {A B : Type 0} (f : A → B) (xs : List A) → length (map f xs) ≡ length xs
length_map f [] = refl
length_map f (x ∷ xs) = ap suc (length_map f xs)

length_from : (k n : ℕ) (z : ℤ) → length (from_on k n z) ≡ n
length_from k zero z = refl
length_from k (suc n) z = ap suc (length_from k n (z +ℤ pos k))

length_joined : {A : Type 0} (f : ℤ → List A) (n : ℕ) → ((z : ℤ) → length (f z) ≡ n) → (zs : List ℤ) → length (joined_lists (map f zs)) ≡ length zs * n
length_joined f n h [] = omega arith
length_joined f n h (z ∷ zs) =
    let e = h z in
    let r = length_joined f n h zs in
    let l : length (f z ++ joined_lists (map f zs)) ≡ length (f z) + length (joined_lists (map f zs)) = length-append (f z) (joined_lists (map f zs)) in
    let m : suc (length zs) * n ≡ n + length zs * n = omega arith in
    omega (arith, e, r, l, m)

runs_one : (gang : ℕ) (r : Range) → length (runs_of gang (r ∷ [])) ≡ runs_for gang (length_of r)
runs_one gang r = length_map (last_run gang r) (from_on gang (runs_for gang (length_of r)) r.start) ∙ length_from gang (runs_for gang (length_of r)) r.start

runs_two : (gang : ℕ) (q r : Range) → length (runs_of gang (q ∷ r ∷ [])) ≡ length_of q * runs_for gang (length_of r)
runs_two gang q r =
    length_joined (λ z. map (with_outer q.index z) (runs_of gang (r ∷ []))) (runs_for gang (length_of r)) (λ z. length_map (with_outer q.index z) (runs_of gang (r ∷ [])) ∙ runs_one gang r) (from_on 1 (length_of q) q.start)
    ∙ ap (λ n. n * runs_for gang (length_of r)) (length_from 1 (length_of q) q.start)

-- the indices have no work
indices_free : (a : Mask) (xs : List (ℕ × (ℕ → ℤ))) (s : State) → (set_indices a xs s).work ≡ s.work
indices_free a [] s = refl
indices_free a (x ∷ xs) s = indices_free a xs _

each_round : (body : Mask → State → Res) (a : Mask) (m : ℕ) → ((b : Mask) (t : State) → WentAfter m t (body b t))
    → (xs : List Run) (s : State) → WentAfter (length xs * m) s (rounds body a (map round_of_run xs) s)
each_round body a m h [] s = omega arith
each_round body a m h (x ∷ xs) s = go (body x.members (set_indices x.members x.indices s)) (h x.members (set_indices x.members x.indices s)) (λ s1. each_round body a m h xs s1) where
  go : (v : Res) → WentAfter m (set_indices x.members x.indices s) v → ((s1 : State) → WentAfter (length xs * m) s1 (rounds body a (map round_of_run xs) s1))
      → WentAfter (suc (length xs) * m) s (go_on v (λ s1 g b c r. rounds body a (map round_of_run xs) s1))
  go (Trapped t s1) e k = tt
  go (Cut s1) e k = tt
  go (Went s1 g b c r) e k =
      let i : suc (length xs) * m ≡ m + length xs * m = omega arith in
      let f = indices_free x.members x.indices s in
      subst (λ n. WentAfter n s (rounds body a (map round_of_run xs) s1)) (sym i) (later (rounds body a (map round_of_run xs) s1) m (length xs * m) s s1 (omega (arith, e, f)) (k s1))

pub work_of_foreach : WorkOfForeach
work_of_foreach = record {
  one_range = λ gang r. let e = runs_one gang r in omega (arith, e);
  two_ranges = λ gang q r. let e = runs_two gang q r in let f : 1 * length_of q * runs_for gang (length_of r) ≡ length_of q * runs_for gang (length_of r) = ap (λ n. n * runs_for gang (length_of r)) (omega arith) in omega (arith, e, f);
  foreach = λ gang frame calls most w k rs x sp a s s1 qs n m h e always.
      rw h (together _ n (counted gang 1 qs + length (runs_of gang qs) * m) s s1 e
      (later _ (counted gang 1 qs) (length (runs_of gang qs) * m) s1 (record s1 { work = s1.work + counted gang 1 qs }) refl
      (each_round (run gang frame calls most x) a m always (runs_of gang qs) (record s1 { work = s1.work + counted gang 1 qs }))));
}
