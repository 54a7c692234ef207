-- What an instance touched stays touched, whatever it does next. One line a node.
use Rattle.std.proofs.Common.{◌≡◌, ℕ, zero, suc, Bool, true, false, refl}
use Rattle.std.specs.Prelude.{List, [], ◌∷◌, Option, Some, None, IsSome, ◌&&◌, nat_eq, if◌then◌else◌, slice_get, ℤ}
use Rattle.isp_base.specs.Access.{is_outside, element, is_zero}
use Rattle.isp_base.specs.Traps.{trap}
use Rattle.isp_base.specs.Values.{wrap}
use Rattle.isp_base.specs.Types.{gang_width}
use Rattle.isp_base.specs.declared.types.Elem.TheVariants.{I32}
use Rattle.isp_base.specs.declared.types.Rate.{Rate}
use Rattle.isp_base.specs.declared.types.Rate.TheVariants.{Uniform, Varying}
use Rattle.isp_base.specs.declared.types.Span.{Span}
use Rattle.isp_base.specs.declared.operators.BinOp.{BinOp}
use Rattle.isp_base.specs.declared.types.Elem.{Elem}
use Rattle.isp_base.specs.declared.trap.TrapKind.TheVariants.{Divide, Index, Assert, Depth}
use Rattle.isp_typed.specs.declared.variable.ArrayVariable.{ArrayVariable}
use Rattle.isp_typed.specs.Typed.{TExpr, t_constant, t_program_index, t_place, t_convert, t_cast, t_unary, t_binary, t_compare, t_logic, t_choose, t_call, t_library, t_packed_store, t_packed_load, TPlace, t_variable}
use Rattle.isp_typed.specs.Typed.{t_element, TArgument, t_by_value, t_by_name, TCall, t_called, TArguments, t_no_arguments, t_argument_then, TExprs, t_no_exprs, t_expr_then, place_span, elem_of}
use Rattle.isp_typed.specs.Typed.{TItem, t_plain, t_with_value, t_with_size, TSimple, t_value, t_run, t_assign, t_update, t_step, TFirst, t_first_declare, t_first_simple, TRange, t_exprs}
use Rattle.isp_typed.specs.Typed.{TStmt, t_block, t_declare, t_simple, t_if, t_if_else, t_while, t_do, t_for, t_foreach, t_foreach_active, t_foreach_unique, t_unmasked, t_jump}
use Rattle.isp_typed.specs.Typed.{t_return, t_print, t_assert, TBlock, t_braces, TStmts, t_no_stmts, t_stmt_then, TFunction, Program}
use Rattle.isp_meaning.specs.State.{Frame, extent}
use Rattle.isp_meaning.specs.Payloads.{is_true, is_false, converted}
use Rattle.isp_meaning.specs.Expressions.{Passed, needs}
use Rattle.isp_meaning.specs.Rounds.{Run, runs_of}
use Rattle.isp_meaning.specs.Calls.{frame_of}
use Rattle.isp_solo_meaning.specs.Alone.{Alone, written, noted, stored, shared_cleared}
use Rattle.isp_solo_meaning.specs.Answers.{Answer, Has, reached, Going, Returned, End, Does, Dies, Lasts, Done}
use Rattle.isp_solo_meaning.specs.Places.{Spot, AVariable, AnElement, outside, kept, element_kept, cleared}
use Rattle.isp_solo_meaning.specs.Values.{OwnCalls, found, held, answer, spot, answers, answer_call, arguments, passed}
use Rattle.isp_solo_meaning.specs.Steps.{update, simple, item, items, first_part, step_part}
use Rattle.isp_solo_meaning.specs.Loops.{at_indices, rounds}
use Rattle.isp_solo_meaning.specs.Does.{goes_on, bounds, test_part, does, does_block, does_all}
use Rattle.isp_solo_meaning.specs.Calls.{begun, ended, called, own_calls}
use Rattle.isp_solo_laws.specs.Stands.{Within, Up, left_at}
use Rattle.isp_solo_laws.proofs.Grow.{stays, up_by, up_from, up_choose, up_then, up_has, up_bad, up_unless, up_with, up_does, up_on, up_always, tested_up, turns_up}

-- ---- what changes the state

if_true : (t u : Bool) → u ≡ true → (if t then true else u) ≡ true
if_true true u h = refl
if_true false u h = h

if_some : (t : Bool) (x : ℕ) (o : Option ℕ) → IsSome o → IsSome (if t then Some x else o)
if_some true x o h = refl
if_some false x o h = h

pub noted_more : (b e : ℕ) (s : Alone) → Within (noted b e s) s
noted_more b e s = record { read = λ c i h. if_true (nat_eq c b && nat_eq i e) (s.read c i) h; wrote = λ c i h. h }

pub stored_more : (b e x : ℕ) (s : Alone) → Within (stored b e x s) s
stored_more b e x s = record { read = λ c i h. h; wrote = λ c i h. if_some (nat_eq c b && nat_eq i e) x (s.wrote c i) h }

if_all : (t : Bool) (f : ℕ → Option ℕ) (i : ℕ) → IsSome (f i) → IsSome ((if t then (λ (e : ℕ). Some 0) else f) i)
if_all true f i h = refl
if_all false f i h = h

shared_cleared_more : (b : ℕ) (s : Alone) → Within (shared_cleared b s) s
shared_cleared_more b s = record { read = λ c i h. h; wrote = λ c i h. if_all (nat_eq c b) (s.wrote c) i h }

pub written_more : (r : Rate) (v x : ℕ) (s : Alone) → Within (written r v x s) s
written_more Uniform v x s = record { read = λ b e h. h; wrote = λ b e h. h }
written_more Varying v x s = record { read = λ b e h. h; wrote = λ b e h. h }

pub kept_more : (frame : Frame) (r : Spot) (x : ℕ) (s : Alone) → Within (kept frame r x s) s
kept_more frame (AVariable v t) x s = written_more t.rate v x s
kept_more frame (AnElement b t i) x s = go b.ty.rate where
  go : (r : Rate) → Within (element_kept frame r b (element t i) x s) s
  go Uniform = stored_more (frame.named b.number) (element t i) x s
  go Varying = record { read = λ c e h. h; wrote = λ c e h. h }

cleared_more : (frame : Frame) (r : Rate) (v : ℕ) (s : Alone) → Within (cleared frame r v s) s
cleared_more frame Uniform v s = shared_cleared_more (frame.named v) s
cleared_more frame Varying v s = record { read = λ b e h. h; wrote = λ b e h. h }

pub indices_more : (p : ℕ) (xs : List (ℕ × (ℕ → ℤ))) (s : Alone) → Within (at_indices p xs s) s
indices_more p [] s = stays s
indices_more p (x ∷ xs) s = record { read = λ b e h. (indices_more p xs (written Varying x.0 (wrap I32 (x.1 p)) s)).read b e h; wrote = λ b e h. (indices_more p xs (written Varying x.0 (wrap I32 (x.1 p)) s)).wrote b e h }

module _ (m : ℕ → ℕ → ℕ) (p : ℕ) where
  module _ (frame : Frame) where
    found_up : (r : Rate) (b : ArrayVariable) (e : ℕ) → Up reached (found m p frame r b e)
    found_up Uniform b e = record { more = λ s. noted_more (frame.named b.number) e s }
    found_up Varying b e = record { more = λ s. stays s }

    pub held_up : (place : Span) (r : Spot) → Up reached (held m p frame place r)
    held_up place (AVariable v t) = record { more = λ s. stays s }
    held_up place (AnElement b t i) = up_choose reached (is_outside t (extent frame b) i) _ _ (up_bad (trap Index place p)) (found_up b.ty.rate b (element t i))

    module _ (calls : OwnCalls) (calls_up : (f : ℕ) (place : Span) (xs : List Passed) (caller : Frame) → Up reached (calls f place xs caller)) where
      mutual
        pub answer_up : (x : TExpr) → Up reached (answer m p frame calls x)
        answer_up (t_constant v sp) = up_has _
        answer_up (t_program_index sp) = up_has p
        answer_up (t_place q) = up_then _ _ (spot_up q) (λ r. held_up (place_span q) r)
        answer_up (t_convert e x) = up_then _ _ (answer_up x) (λ i. up_has _)
        answer_up (t_cast x t sp) = answer_up x
        answer_up (t_unary op x t sp) = up_then _ _ (answer_up x) (λ i. up_has _)
        answer_up (t_binary op x y t sp) = up_then _ _ (answer_up x) (λ i. up_then _ _ (answer_up y) (λ j. up_unless (is_zero op t.elem j) Divide sp p _))
        answer_up (t_compare c x y r sp) = up_then _ _ (answer_up x) (λ i. up_then _ _ (answer_up y) (λ j. up_has _))
        answer_up (t_logic l x y r sp) = up_then _ _ (answer_up x) (λ i. up_choose reached (needs l i) _ _ (answer_up y) (up_has i))
        answer_up (t_choose c x y t sp) = up_then _ _ (answer_up c) (λ i. up_choose reached (is_true i) _ _ (answer_up x) (answer_up y))
        answer_up (t_call c t) = call_up c
        answer_up (t_library f e xs t sp) = up_then _ _ (answers_up xs) (λ is. up_has _)
        answer_up (t_packed_store b x sp) = up_has 0
        answer_up (t_packed_load b v sp) = up_has 0

        pub spot_up : (q : TPlace) → Up reached (spot m p frame calls q)
        spot_up (t_variable v t sp) = up_has _
        spot_up (t_element b i t sp) = up_then _ _ (answer_up i) (λ j. up_has _)

        pub answers_up : (xs : TExprs) → Up reached (answers m p frame calls xs)
        answers_up t_no_exprs = up_has []
        answers_up (t_expr_then x xs) = up_then _ _ (answer_up x) (λ i. up_then _ _ (answers_up xs) (λ is. up_has _))

        pub call_up : (c : TCall) → Up reached (answer_call m p frame calls c)
        call_up (t_called f xs sp) = up_then _ _ (arguments_up xs) (λ ps. calls_up f sp ps frame)

        pub arguments_up : (xs : TArguments) → Up reached (arguments m p frame calls xs)
        arguments_up t_no_arguments = up_has []
        arguments_up (t_argument_then x xs) = up_then _ _ (passed_up x) (λ i. up_then _ _ (arguments_up xs) (λ is. up_has _))

        pub passed_up : (x : TArgument) → Up reached (passed m p frame calls x)
        passed_up (t_by_value x) = up_then _ _ (answer_up x) (λ i. up_has _)
        passed_up (t_by_name b sp) = up_has _

      -- ---- assignments and declarations

      pub keeps_up : (r : Spot) (x : ℕ) → Up {R = Answer Done} reached (λ s. Has tt (kept frame r x s))
      keeps_up r x = record { more = λ s. kept_more frame r x s }

      pub writes_up : (r : Rate) (v x : ℕ) → Up {R = Answer Done} reached (λ s. Has tt (written r v x s))
      writes_up r v x = record { more = λ s. written_more r v x s }

      pub update_up : (op : BinOp) (t : Elem) (q : TPlace) (r : Spot) (j : ℕ) (sp : Span) → Up reached (update m p frame calls op t q r j sp)
      update_up op t q r j sp = up_then _ _ (held_up (place_span q) r) (λ i. up_then _ _ (up_unless (is_zero op t j) Divide sp p _) (λ k. keeps_up r _))

      pub simple_up : (x : TSimple) → Up reached (simple m p frame calls x)
      simple_up (t_value x) = up_then _ _ (answer_up x) (λ i. up_has tt)
      simple_up (t_run c) = up_then _ _ (call_up c) (λ i. up_has tt)
      simple_up (t_assign q x sp) =
          up_then _ _ (spot_up q) (λ r. up_then _ _ (answer_up x) (λ i. up_then _ _ (up_unless (outside frame r) Index (place_span q) p i) (λ j. keeps_up r j)))
      simple_up (t_update op t q x sp) = up_then _ _ (spot_up q) (λ r. up_then _ _ (answer_up x) (λ j. update_up op t q r j sp))
      simple_up (t_step op t q sp) = up_then _ _ (spot_up q) (λ r. update_up op t q r 1 sp)

      pub item_up : (x : TItem) → Up reached (item m p frame calls x)
      item_up (t_plain v t sp) = writes_up t.rate v 0
      item_up (t_with_value v t x sp) = up_then _ _ (answer_up x) (λ i. writes_up t.rate v i)
      item_up (t_with_size b sp) = record { more = λ s. cleared_more frame b.ty.rate b.number s }

      pub items_up : (xs : List TItem) → Up reached (items m p frame calls xs)
      items_up [] = up_has tt
      items_up (x ∷ xs) = up_then _ _ (item_up x) (λ i. items_up xs)

      pub first_up : (x : Option TFirst) → Up reached (first_part m p frame calls x)
      first_up None = up_has tt
      first_up (Some (t_first_declare xs sp)) = items_up xs
      first_up (Some (t_first_simple x)) = simple_up x

      pub step_up : (x : Option TSimple) → Up reached (step_part m p frame calls x)
      step_up None = up_has tt
      step_up (Some x) = simple_up x

      pub bounds_up : (rs : List TRange) → Up reached (bounds m p frame calls rs)
      bounds_up [] = up_has []
      bounds_up (r ∷ rs) = up_then _ _ (answer_up r.start) (λ i. up_then _ _ (answer_up r.end) (λ j. up_then _ _ (bounds_up rs) (λ xs. up_has _)))

      pub test_up : (x : Option TExpr) → Up reached (test_part m p frame calls x)
      test_up None = up_has 1
      test_up (Some x) = answer_up x

      pub goes_up : (f : Alone → Answer Done) → Up reached f → Up left_at (λ s. goes_on (f s))
      goes_up f x = up_with f _ x (λ u. up_does Going)

      pub rounds_up : (body : Alone → End) → Up left_at body → (rs : List Run) → Up left_at (rounds body p rs)
      rounds_up body b [] = up_does Going
      rounds_up body b (r ∷ rs) =
          up_choose left_at (r.members p) _ _ (up_always _ _ (up_from left_at body (at_indices p r.indices) (λ s. indices_more p r.indices s) b) (rounds_up body b rs)) (rounds_up body b rs)

      -- ---- statements

      module _ (gang most : ℕ) where
        mutual
          pub does_up : (x : TStmt) → Up left_at (does gang m p frame calls most x)
          does_up (t_block b) = block_up b
          does_up (t_declare xs sp) = goes_up _ (items_up xs)
          does_up (t_simple x sp) = goes_up _ (simple_up x)
          does_up (t_if f n e x sp) = up_with _ _ (answer_up e) (λ i. up_choose left_at (is_true i) _ _ (does_up x) (up_does Going))
          does_up (t_if_else f n e x y sp) = up_with _ _ (answer_up e) (λ i. up_choose left_at (is_true i) _ _ (does_up x) (does_up y))
          does_up (t_while f n e x sp) =
              tested_up _ _ _ (answer_up e) (does_up x) (up_has tt) _ (turns_up _ _ _ (answer_up e) (does_up x) (up_has tt) most)
          does_up (t_do f n x e sp) = turns_up _ _ _ (answer_up e) (does_up x) (up_has tt) most
          does_up (t_for f n first e step i x sp) =
              up_with _ _ (first_up first) (λ u. tested_up _ _ _ (test_up e) (does_up x) (step_up step) _ (turns_up _ _ _ (test_up e) (does_up x) (step_up step) most))
          does_up (t_foreach w n rs x sp) = up_with _ _ (bounds_up rs) (λ xs. rounds_up _ (does_up x) (runs_of gang xs))
          does_up (t_foreach_active w n i x sp) =
              up_always _ _ (up_from left_at (does gang m p frame calls most x) (written Uniform i p) (λ s. written_more Uniform i p s) (does_up x)) (up_does Going)
          does_up (t_foreach_unique w n i t e x sp) =
              up_with _ _ (answer_up e) (λ b. up_always _ _ (up_from left_at (does gang m p frame calls most x) (written Uniform i (converted (elem_of e) t b)) (λ s. written_more Uniform i _ s) (does_up x)) (up_does Going))
          does_up (t_unmasked w b sp) = up_always _ _ (block_up b) (up_does Going)
          does_up (t_print w text xs sp) = up_with _ _ (answers_up (t_exprs xs)) (λ is. up_does Going)
          does_up (t_jump j w sp) = up_does _
          does_up (t_return w None sp) = up_does Returned
          does_up (t_return w (Some x) sp) = up_with _ _ (answer_up x) (λ i. record { more = λ s. record { read = λ b e h. h; wrote = λ b e h. h } })
          does_up (t_assert x c sp) = up_with _ _ (answer_up x) (λ i. goes_up _ (up_unless (is_false i) Assert c p tt))

          pub block_up : (b : TBlock) → Up left_at (does_block gang m p frame calls most b)
          block_up (t_braces xs sp) = all_up xs

          pub all_up : (xs : TStmts) → Up left_at (does_all gang m p frame calls most xs)
          all_up t_no_stmts = up_does Going
          all_up (t_stmt_then x xs) = up_on _ _ (does_up x) (all_up xs)

  -- ---- calls, by the levels that are left

  ended_up : (f : Alone → End) → Up left_at f → Up reached (λ s. ended s (f s))
  ended_up f x = up_by left_at reached f (λ s r. ended s r) x up where
    up : (s : Alone) (r : End) → Within (reached (ended s r)) (left_at r)
    up s (Does t how) = record { read = λ b e h. h; wrote = λ b e h. h }
    up s (Dies u t) = stays t
    up s (Lasts t) = stays t

  module _ (program : Program) (most : ℕ) where
    called_up : (calls : OwnCalls) → ((f : ℕ) (place : Span) (xs : List Passed) (caller : Frame) → Up reached (calls f place xs caller))
        → (o : Option TFunction) (xs : List Passed) (caller : Frame) → Up reached (called program most m p calls o xs caller)
    called_up calls c None xs caller = record { more = λ s. stays s }
    called_up calls c (Some f) xs caller =
        ended_up _ (up_from left_at (does_block (gang_width program.gang) m p (frame_of f xs caller) calls most f.body) (begun f xs) (λ s. record { read = λ b e h. h; wrote = λ b e h. h })
        (block_up (frame_of f xs caller) calls c (gang_width program.gang) most f.body))

    pub own_calls_up : (left f : ℕ) (place : Span) (xs : List Passed) (caller : Frame) → Up reached (own_calls program most m p left f place xs caller)
    own_calls_up zero f place xs caller = up_bad (trap Depth place p)
    own_calls_up (suc left) f place xs caller = called_up (own_calls program most m p left) (λ g q ys c. own_calls_up left g q ys c) (slice_get program.functions f) xs caller
