-- The four sets of a statement: each member of the set that ran is in one of them, and nobody else in any.
use Rattle.std.specs.Prelude.{◌≡◌, ℕ, zero, suc, ◌+◌, ◌≤◌, List, [], ◌∷◌, ◌++◌, Option, Some, None, Bool, true, false, not, ◌&&◌, ◌||◌}
use Rattle.std.proofs.Common.{refl, ap, ◌∙◌, arith}
use Rattle.isp_base.specs.Sets.{Mask, nobody, everyone, union, without, any}
use Rattle.isp_base.specs.Maps.{holds, where_true}
use Rattle.isp_base.specs.Types.{gang_width}
use Rattle.isp_base.specs.declared.trap.TrapKind.TheVariants.{Assert}
use Rattle.isp_tree.specs.declared.stmt.Jump.{Jump}
use Rattle.isp_tree.specs.declared.stmt.Jump.TheVariants.{Break, Continue}
use Rattle.isp_typed.specs.Typed.{TExpr, t_exprs, elem_of, TStmt, t_block, t_declare, t_simple, t_if, t_if_else, t_while, t_do, t_for, t_foreach, t_foreach_active}
use Rattle.isp_typed.specs.Typed.{t_foreach_unique, t_unmasked, t_jump, t_return, t_print, t_assert, TBlock, t_braces, TStmts, t_no_stmts, t_stmt_then}
use Rattle.isp_meaning.specs.State.{State, Frame, tick}
use Rattle.isp_meaning.specs.Payloads.{Payload, One, Each, is_true, is_false, bit, kept_by, offender, spread}
use Rattle.isp_meaning.specs.Outcomes.{Val, Gives, Fails, Stops, Res, Went, Trapped, Cut, Done, with_value, checked, go_on, went_all, if_so, unless_empty}
use Rattle.isp_meaning.specs.Expressions.{Calls, value, values}
use Rattle.isp_meaning.specs.Simple.{simple, items, first_part, step_part}
use Rattle.isp_meaning.specs.Loops.{loop_end, tested, turns}
use Rattle.isp_meaning.specs.Rounds.{Round, rounds, unique_rounds, foreach_rounds, counted}
use Rattle.isp_meaning.specs.Statements.{all_go, answered, branches, jumped, ranges, test_part, run, block, run_all}
use Rattle.isp_base.specs.Prints.{print_text}
use Rattle.isp_meaning.specs.Printing.{shown_all}
use Rattle.isp_meaning.specs.Calls.{calls_at}
use Rattle.isp_meaning.specs.Laws.{Parted, FourSets}
use Rattle.isp_meaning.proofs.Outside.{Absent, Off, CallsOff, same, kept_off, value_off, calls_off}

-- ---- counting memberships

bit_le : (t : Bool) → bit t ≤ 1
bit_le true = omega arith
bit_le false = omega arith

abbrev count : Bool → Bool → Bool → Bool → ℕ
count g b c r = bit g + (bit b + (bit c + bit r))

in_first : (t : Bool) → count t false false false ≡ bit t
in_first true = refl
in_first false = refl

in_second : (t : Bool) → count false t false false ≡ bit t
in_second true = refl
in_second false = refl

in_third : (t : Bool) → count false false t false ≡ bit t
in_third true = refl
in_third false = refl

in_last : (t : Bool) → count false false false t ≡ bit t
in_last true = refl
in_last false = refl

then_count : (a g b c r g' b' c' r' : Bool) → count g b c r ≡ bit a → count g' b' c' r' ≡ bit g → count g' (b || b') (c || c') (r || r') ≡ bit a
then_count a g true true true g' b' c' r' h k = let l : bit a ≤ 1 = bit_le a in omega arith
then_count a g true true false g' b' c' r' h k = let l : bit a ≤ 1 = bit_le a in omega arith
then_count a g true false true g' b' c' r' h k = let l : bit a ≤ 1 = bit_le a in omega arith
then_count a g true false false g' b' c' r' h k = let l : bit a ≤ 1 = bit_le a in omega arith
then_count a g false true true g' b' c' r' h k = let l : bit a ≤ 1 = bit_le a in omega arith
then_count a g false true false g' b' c' r' h k = let l : bit a ≤ 1 = bit_le a in omega arith
then_count a g false false true g' b' c' r' h k = let l : bit a ≤ 1 = bit_le a in omega arith
then_count a g false false false g' b' c' r' h k = let l : bit a ≤ 1 = bit_le a in omega arith

sides_count : (a t u g b c r g' b' c' r' : Bool) → bit t + bit u ≡ bit a → count g b c r ≡ bit t → count g' b' c' r' ≡ bit u → count (g || g') (b || b') (c || c') (r || r') ≡ bit a
sides_count a t u true true true true g' b' c' r' e h k = let l : bit a ≤ 1 = bit_le a in omega arith
sides_count a t u false true true true g' b' c' r' e h k = let l : bit a ≤ 1 = bit_le a in omega arith
sides_count a t u true true true false g' b' c' r' e h k = let l : bit a ≤ 1 = bit_le a in omega arith
sides_count a t u false true true false g' b' c' r' e h k = let l : bit a ≤ 1 = bit_le a in omega arith
sides_count a t u true true false true g' b' c' r' e h k = let l : bit a ≤ 1 = bit_le a in omega arith
sides_count a t u false true false true g' b' c' r' e h k = let l : bit a ≤ 1 = bit_le a in omega arith
sides_count a t u true true false false g' b' c' r' e h k = let l : bit a ≤ 1 = bit_le a in omega arith
sides_count a t u false true false false g' b' c' r' e h k = let l : bit a ≤ 1 = bit_le a in omega arith
sides_count a t u true false true true g' b' c' r' e h k = let l : bit a ≤ 1 = bit_le a in omega arith
sides_count a t u false false true true g' b' c' r' e h k = let l : bit a ≤ 1 = bit_le a in omega arith
sides_count a t u true false true false g' b' c' r' e h k = let l : bit a ≤ 1 = bit_le a in omega arith
sides_count a t u false false true false g' b' c' r' e h k = let l : bit a ≤ 1 = bit_le a in omega arith
sides_count a t u true false false true g' b' c' r' e h k = let l : bit a ≤ 1 = bit_le a in omega arith
sides_count a t u false false false true g' b' c' r' e h k = let l : bit a ≤ 1 = bit_le a in omega arith
sides_count a t u true false false false g' b' c' r' e h k = let l : bit a ≤ 1 = bit_le a in omega arith
sides_count a t u false false false false g' b' c' r' e h k = let l : bit a ≤ 1 = bit_le a in omega arith

split : (t u : Bool) → (t ≡ false → u ≡ false) → bit u + bit (t && not u) ≡ bit t
split true true h = refl
split true false h = refl
split false u h = ap (λ z. bit z + 0) (h refl)

-- the members of a loop: those that returned, and all others went on
loop_count : (t r : Bool) → (t ≡ false → r ≡ false) → count (t && not r) false false r ≡ bit t
loop_count true true h = refl
loop_count true false h = refl
loop_count false r h = ap (λ z. count false false false z) (h refl)

-- who is in none of four sets
none_first : (g b c r : Bool) → count g b c r ≡ 0 → g ≡ false
none_first true b c r h = absurd (omega arith)
none_first false b c r h = refl

none_third : (g b c r : Bool) → count g b c r ≡ 0 → c ≡ false
none_third g b true r h = absurd (omega arith)
none_third g b false r h = refl

none_last : (g b c r : Bool) → count g b c r ≡ 0 → r ≡ false
none_last g b c true h = absurd (omega arith)
none_last g b c false h = refl

module _ (p : ℕ) where
  abbrev Counts : Mask → Res → Type 0
  Counts a (Went s g b c r) = count (g p) (b p) (c p) (r p) ≡ bit (a p)
  Counts a (Trapped t s) = Unit {0}
  Counts a (Cut s) = Unit {0}

  record PartedAt (a : Mask) (v : Res) : Type 0 where
    pub by : Counts a v

  -- ---- going on

  with_parted : {A : Type 0} (Q : A → Type 0) (a l : Mask) (s : State) (v : Val A) (go : A → State → Res) → (l p ≡ false → Off p Q s v) → ((x : A) (s1 : State) → (l p ≡ false → Q x) → PartedAt a (go x s1)) → PartedAt a (with_value v go)
  with_parted Q a l s (Gives x s1) go h f = f x s1 (λ e. (h e).0)
  with_parted Q a l s (Fails t s1) go h f = record { by = tt }
  with_parted Q a l s (Stops s1) go h f = record { by = tt }

  -- where nothing is asked of the value
  any_parted : {A : Type 0} (a : Mask) (v : Val A) (go : A → State → Res) → ((x : A) (s1 : State) → PartedAt a (go x s1)) → PartedAt a (with_value v go)
  any_parted a (Gives x s1) go f = f x s1
  any_parted a (Fails t s1) go f = record { by = tt }
  any_parted a (Stops s1) go f = record { by = tt }

  go_parted : (a b : Mask) (v : Res) (go : State → Mask → Mask → Mask → Mask → Res) → PartedAt b v → ((s : State) (g d c r : Mask) → count (g p) (d p) (c p) (r p) ≡ bit (b p) → PartedAt a (go s g d c r)) → PartedAt a (go_on v go)
  go_parted a b (Went s g d c r) go h f = f s g d c r h.by
  go_parted a b (Trapped t s) go h f = record { by = tt }
  go_parted a b (Cut s) go h f = record { by = tt }

  all_parted : (a : Mask) (s : State) → PartedAt a (went_all a s)
  all_parted a s = record { by = in_first (a p) }

  all_go_parted : (a : Mask) (v : Val Done) → PartedAt a (all_go a v)
  all_go_parted a v = any_parted a v _ (λ x s1. all_parted a s1)

  if_parted : (a : Mask) (t : Bool) (m n : State → Res) (s : State) → PartedAt a (m s) → PartedAt a (n s) → PartedAt a (if_so t m n s)
  if_parted a true m n s h k = h
  if_parted a false m n s h k = k

  unless_parted : (gang : ℕ) (a : Mask) (s : State) (f : Mask → State → Res) → PartedAt a (f a s) → PartedAt a (unless_empty gang a s f)
  unless_parted gang a s f h = if_parted a (any gang a) (f a) (went_all a) s h (all_parted a s)

  abbrev BodyParted : (Mask → State → Res) → Type 0
  BodyParted body = (a : Mask) (s : State) → PartedAt a (body a s)

  branches_parted : (gang : ℕ) (a : Mask) (f g : Mask → State → Res) → BodyParted f → BodyParted g → (m : Payload) (s : State) → (a p ≡ false → Absent p m) → PartedAt a (branches gang a f g m s)
  branches_parted gang a f g h k (One c) s e = if_parted a (is_true c) (f a) (g a) s (h a s) (k a s)
  branches_parted gang a f g h k (Each c) s e =
      go_parted a (where_true is_true c) _ _ (unless_parted gang (where_true is_true c) s f (h _ s))
      (λ s1 g1 b c1 r w. go_parted a (without a (where_true is_true c)) _ _ (unless_parted gang (without a (where_true is_true c)) s1 g (k _ s1))
      (λ s2 g2 b2 c2 r2 w2. record {
        by = sides_count (a p) (where_true is_true c p) (without a (where_true is_true c) p) (g1 p) (b p) (c1 p)
            (r p) (g2 p) (b2 p) (c2 p) (r2 p) (split (a p) (where_true is_true c p) (λ z. ap (holds is_true) (e z))) w w2;
      }))

  -- ---- loops

  module _ (gang : ℕ) (test : Mask → State → Val Payload) (body : Mask → State → Res) (step : Mask → State → Val Done) (all : Mask) (tests : (a : Mask) (s : State) → a p ≡ false → Off p (Absent p) s (test a s)) (bodies : BodyParted body) where
    -- a set with no instance that did not enter
    abbrev Within : Mask → Type 0
    Within l = all p ≡ false → l p ≡ false

    abbrev TurnParted : (Mask → Mask → State → Res) → Type 0
    TurnParted turn = (k r : Mask) (s : State) → Within k → Within r → PartedAt all (turn k r s)

    end_parted : (r : Mask) (s : State) → Within r → PartedAt all (loop_end gang test body step all r s)
    end_parted r s h = record { by = loop_count (all p) (r p) h }

    tested_parted : (turn : Mask → Mask → State → Res) → TurnParted turn → (live r : Mask) (s : State) → Within live → Within r → PartedAt all (tested gang test body step all turn live r s)
    tested_parted turn h live r s l w =
        with_parted (Absent p) all live s (test live s) _ (tests live s) (λ m s1 e. if_parted all (any gang (kept_by is_true live m)) _ _ s1 (h (kept_by is_true live m) r s1 (λ z. kept_off p is_true live m (l z) (e (l z))) w) (end_parted r s1 w))

    turns_parted : (n : ℕ) → TurnParted (turns gang test body step all n)
    turns_parted zero k r s l w = record { by = tt }
    turns_parted (suc n) k r s l w =
        go_parted all k _ _ (bodies k (tick s)) (λ s1 g b c r1 e.
        let none : all p ≡ false → count (g p) (b p) (c p) (r1 p) ≡ 0 = λ z. e ∙ ap bit (l z) in
        let live : Within (union g c) = λ z. ap (λ y. y || c p) (none_first (g p) (b p) (c p) (r1 p) (none z)) ∙ none_third (g p) (b p) (c p) (r1 p) (none z) in
        let back : Within (union r r1) = λ z. ap (λ y. y || r1 p) (w z) ∙ none_last (g p) (b p) (c p) (r1 p) (none z) in
        if_parted all (any gang (union g c)) _ _ s1 (any_parted all (step (union g c) s1) _ (λ _ s2. tested_parted _ (turns_parted n) (union g c) (union r r1) s2 live back)) (end_parted (union r r1) s1 back))

  -- whoever leaves a round, the next one runs
  round_parted : (all : Mask) (v : Res) (go : State → Res) → ((s : State) → PartedAt all (go s)) → PartedAt all (go_on v (λ s g b c r. go s))
  round_parted all (Went s g b c r) go h = h s
  round_parted all (Trapped t s) go h = record { by = tt }
  round_parted all (Cut s) go h = record { by = tt }

  rounds_parted : (body : Mask → State → Res) (all : Mask) (xs : List Round) (s : State) → PartedAt all (rounds body all xs s)
  rounds_parted body all [] s = all_parted all s
  rounds_parted body all (x ∷ xs) s = round_parted all (body x.members (x.begins s)) (rounds body all xs) (rounds_parted body all xs)

  jumped_parted : (j : Jump) (a : Mask) (s : State) → PartedAt a (jumped j a s)
  jumped_parted Break a s = record { by = in_second (a p) }
  jumped_parted Continue a s = record { by = in_third (a p) }

  module _ (gang : ℕ) (frame : Frame) (calls : Calls) (off : CallsOff calls) (most : ℕ) where
    test_off : (x : Option TExpr) (a : Mask) (s : State) → a p ≡ false → Off p (Absent p) s (test_part gang frame calls x a s)
    test_off None a s h = (tt, same p s)
    test_off (Some x) a s h = value_off gang frame calls off p x a s h

    mutual
      run_parted : (x : TStmt) → BodyParted (run gang frame calls most x)
      run_parted (t_block b) a s = block_parted b a s
      run_parted (t_declare xs sp) a s = all_go_parted a (items gang frame calls xs a (tick s))
      run_parted (t_simple x sp) a s = all_go_parted a (simple gang frame calls x a s)
      run_parted (t_if f k e x sp) a s =
          with_parted (Absent p) a a (tick s) _ _ (value_off gang frame calls off p e a (tick s)) (λ m s1 h. branches_parted gang a _ _ (run_parted x) (λ b s2. all_parted b s2) m s1 h)
      run_parted (t_if_else f k e x y sp) a s =
          with_parted (Absent p) a a (tick s) _ _ (value_off gang frame calls off p e a (tick s)) (λ m s1 h. branches_parted gang a _ _ (run_parted x) (run_parted y) m s1 h)
      run_parted (t_while f k e x sp) a s =
          tested_parted gang (value gang frame calls e) (run gang frame calls most x) (λ l s1. Gives tt s1) a (value_off gang frame calls off p e)
          (run_parted x) _ (turns_parted gang (value gang frame calls e) (run gang frame calls most x) (λ l s1. Gives tt s1) a
          (value_off gang frame calls off p e) (run_parted x) most) a nobody (tick s) (λ z. z) (λ z. refl)
      run_parted (t_do f k x e sp) a s =
          turns_parted gang (value gang frame calls e) (run gang frame calls most x) (λ l s1. Gives tt s1) a (value_off gang frame calls off p e) (run_parted x) most a nobody (tick s) (λ z. z) (λ z. refl)
      run_parted (t_for f k first e step i x sp) a s =
          any_parted a (first_part gang frame calls first a (tick s)) _
          (λ _ s1. tested_parted gang (test_part gang frame calls e) (run gang frame calls most x) (step_part gang frame calls step) a
          (test_off e) (run_parted x) _ (turns_parted gang (test_part gang frame calls e) (run gang frame calls most x)
          (step_part gang frame calls step) a (test_off e) (run_parted x) most) a nobody s1 (λ z. z) (λ z. refl))
      run_parted (t_foreach w k rs x sp) a s = any_parted a (ranges gang frame calls rs a (tick s)) _ (λ xs s1. rounds_parted (run gang frame calls most x) a (foreach_rounds gang xs) (record s1 { work = s1.work + counted gang 1 xs }))
      run_parted (t_foreach_active w k i x sp) a s = rounds_parted (run gang frame calls most x) a _ (tick s)
      run_parted (t_foreach_unique w k i t e x sp) a s = any_parted a (value gang frame calls e a (tick s)) _ (λ m s1. rounds_parted (run gang frame calls most x) a (unique_rounds gang (elem_of e) t i (spread a m)) s1)
      run_parted (t_unmasked w b sp) a s = round_parted a (block gang frame calls most b (everyone gang) (tick s)) (went_all a) (all_parted a)
      run_parted (t_jump j w sp) a s = jumped_parted j a (tick s)
      run_parted (t_return w None sp) a s = record { by = in_last (a p) }
      run_parted (t_return w (Some x) sp) a s = any_parted a (value gang frame calls x a (tick s)) (λ m s1. Went (answered frame.answer a m s1) nobody nobody nobody a) (λ m s1. record { by = in_last (a p) })
      run_parted (t_print w text xs sp) a s = any_parted a (values gang frame calls (t_exprs xs) a (tick s)) (λ ms s1. went_all a (record s1 { out = s1.out ++ print_text text (shown_all gang a xs ms) })) (λ ms s1. record { by = in_first (a p) })
      run_parted (t_assert x c sp) a s = any_parted a (value gang frame calls x a (tick s)) _ (λ m s1. all_go_parted a (checked (offender gang is_false a m) Assert c s1 tt))

      block_parted : (b : TBlock) → BodyParted (block gang frame calls most b)
      block_parted (t_braces xs sp) a s = run_all_parted xs a (tick s)

      run_all_parted : (xs : TStmts) → BodyParted (run_all gang frame calls most xs)
      run_all_parted t_no_stmts a s = all_parted a s
      run_all_parted (t_stmt_then x xs) a s =
          go_parted a a _ _ (run_parted x a s) (λ s1 g b c r w. go_parted a g _ _
          (unless_parted gang g s1 (run_all gang frame calls most xs) (run_all_parted xs g s1))
          (λ s2 g2 b2 c2 r2 w2. record { by = then_count (a p) (g p) (b p) (c p) (r p) (g2 p) (b2 p) (c2 p) (r2 p) w w2 }))

parted_of : (a : Mask) (v : Res) → ((p : ℕ) → PartedAt p a v) → Parted a v
parted_of a (Went s g b c r) h = λ p. (h p).by
parted_of a (Trapped t s) h = tt
parted_of a (Cut s) h = tt

pub four_sets : FourSets
four_sets program most left frame x a s =
    parted_of a _ (λ p. run_parted p (gang_width program.gang) frame (calls_at program most left) (calls_off program most left) most x a s)
