-- Over arrays that agree where it reads, each node of a function does the same. One line a node.
use Rattle.std.proofs.Common.{◌≡◌, ℕ, zero, suc, Bool, true, false, refl, sym, ap, arith}
use Rattle.std.specs.Prelude.{List, [], ◌∷◌, Option, Some, None, ◌&&◌, nat_eq, if◌then◌else◌, slice_get, ℤ}
use Rattle.std.proofs.lemmas.Bool.Decides.{nat_tests}
use Rattle.isp_base.specs.Access.{is_outside, element, is_zero}
use Rattle.isp_base.specs.Maps.{or_old}
use Rattle.isp_base.specs.Traps.{trap}
use Rattle.isp_base.specs.Values.{wrap}
use Rattle.isp_base.specs.Types.{gang_width}
use Rattle.isp_base.specs.declared.signature.Argument.{Argument}
use Rattle.isp_base.specs.declared.types.Elem.TheVariants.{I32}
use Rattle.isp_base.specs.declared.types.Rate.{Rate}
use Rattle.isp_base.specs.declared.types.Rate.TheVariants.{Uniform, Varying}
use Rattle.isp_base.specs.declared.types.Span.{Span}
use Rattle.isp_base.specs.declared.operators.BinOp.{BinOp}
use Rattle.isp_base.specs.declared.types.Elem.{Elem}
use Rattle.isp_base.specs.declared.trap.TrapKind.TheVariants.{Divide, Index, Assert, Depth}
use Rattle.isp_typed.specs.declared.variable.ArrayVariable.{ArrayVariable}
use Rattle.isp_typed.specs.Typed.{TExpr, t_constant, t_program_index, t_place, t_convert, t_cast, t_unary, t_binary, t_compare, t_logic, t_choose, t_call, t_library, t_packed_store, t_packed_load, TPlace, t_variable}
use Rattle.isp_typed.specs.Typed.{t_element, TArgument, t_by_value, t_by_name, TCall, t_called, TArguments, t_no_arguments, t_argument_then, TExprs, t_no_exprs, t_expr_then, place_span, elem_of}
use Rattle.isp_typed.specs.Typed.{TItem, t_plain, t_with_value, t_with_size, TSimple, t_value, t_run, t_assign, t_update, t_step, TFirst, t_first_declare, t_first_simple, TRange, t_exprs}
use Rattle.isp_typed.specs.Typed.{TStmt, t_block, t_declare, t_simple, t_if, t_if_else, t_while, t_do, t_for, t_foreach, t_foreach_active, t_foreach_unique, t_unmasked, t_jump}
use Rattle.isp_typed.specs.Typed.{t_return, t_print, t_assert, TBlock, t_braces, TStmts, t_no_stmts, t_stmt_then, TFunction, Program}
use Rattle.isp_meaning.specs.State.{Frame, extent}
use Rattle.isp_meaning.specs.Payloads.{is_true, is_false, converted}
use Rattle.isp_meaning.specs.Expressions.{Passed, needs}
use Rattle.isp_meaning.specs.Rounds.{Run, runs_of}
use Rattle.isp_meaning.specs.Calls.{frame_of, most_calls}
use Rattle.isp_meaning.specs.Runs.{handed, first_frame, no_place}
use Rattle.isp_solo_meaning.specs.Alone.{Alone, written, noted}
use Rattle.isp_solo_meaning.specs.Answers.{Answer, Has, Long, reached, Going, Broke, Continued, Returned, End, Does, Dies, Lasts, Done}
use Rattle.isp_solo_meaning.specs.Places.{Spot, AVariable, AnElement, outside, kept, element_kept, cleared}
use Rattle.isp_solo_meaning.specs.Values.{OwnCalls, found, held, answer, spot, answers, answer_call, arguments, passed}
use Rattle.isp_solo_meaning.specs.Steps.{update, simple, item, items, first_part, step_part}
use Rattle.isp_solo_meaning.specs.Loops.{tested, stepped, turned, turns, at_indices, rounds}
use Rattle.isp_solo_meaning.specs.Does.{goes_on, bounds, test_part, does, does_block, does_all}
use Rattle.isp_solo_meaning.specs.Calls.{begun, ended, called, own_calls}
use Rattle.isp_solo_meaning.specs.Runs.{fresh, solo_run}
use Rattle.isp_solo_meaning.proofs.Framed.{left_at, Grows, stays, Agrees, Framed, framed_by, framed_from, framed_same, framed_choose, framed_then, framed_has, framed_bad, framed_unless, framed_with, framed_does, framed_on, framed_always}

-- ---- what changes the state and reads nothing

written_grows : (r : Rate) (v x : ℕ) (s : Alone) → Grows s (written r v x s)
written_grows Uniform v x s = record { read = λ b e h. h }
written_grows Varying v x s = record { read = λ b e h. h }

kept_grows : (frame : Frame) (r : Spot) (x : ℕ) (s : Alone) → Grows s (kept frame r x s)
kept_grows frame (AVariable v t) x s = written_grows t.rate v x s
kept_grows frame (AnElement b t i) x s = go b.ty.rate where
  go : (r : Rate) → Grows s (element_kept frame r b (element t i) x s)
  go Uniform = record { read = λ c e h. h }
  go Varying = record { read = λ c e h. h }

cleared_grows : (frame : Frame) (r : Rate) (v : ℕ) (s : Alone) → Grows s (cleared frame r v s)
cleared_grows frame Uniform v s = record { read = λ b e h. h }
cleared_grows frame Varying v s = record { read = λ b e h. h }

indices_grow : (p : ℕ) (xs : List (ℕ × (ℕ → ℤ))) (s : Alone) → Grows s (at_indices p xs s)
indices_grow p [] s = stays s
indices_grow p (x ∷ xs) s = record { read = λ b e h. (indices_grow p xs (written Varying x.0 (wrap I32 (x.1 p)) s)).read b e h }

-- ---- a read

pick_grows : (t u : Bool) → u ≡ true → (if t then true else u) ≡ true
pick_grows true u h = refl
pick_grows false u h = h

noted_grows : (b e : ℕ) (s : Alone) → Grows s (noted b e s)
noted_grows b e s = record { read = λ c i h. pick_grows (nat_eq c b && nat_eq i e) (s.read c i) h }

noted_there : (b e : ℕ) (s : Alone) → (noted b e s).read b e ≡ true
noted_there b e s = grind (arith, nat_tests)

module _ (m m2 : ℕ → ℕ → ℕ) (p : ℕ) where
  module _ (frame : Frame) where
    found_framed : (r : Rate) (b : ArrayVariable) (e : ℕ) → Framed m m2 reached (found m p frame r b e) (found m2 p frame r b e)
    found_framed Uniform b e = record {
      grows = λ s. noted_grows (frame.named b.number) e s;
      same = λ s a. ap (λ (x : ℕ). Has (or_old (s.wrote (frame.named b.number) e) x) (noted (frame.named b.number) e s)) (sym (a.same (frame.named b.number) e (noted_there (frame.named b.number) e s)));
    }
    found_framed Varying b e = framed_same m m2 reached (found m p frame Varying b e) (λ s. stays s)

    held_framed : (place : Span) (r : Spot) → Framed m m2 reached (held m p frame place r) (held m2 p frame place r)
    held_framed place (AVariable v t) = framed_same m m2 reached (held m p frame place (AVariable v t)) (λ s. stays s)
    held_framed place (AnElement b t i) =
        framed_choose m m2 reached (is_outside t (extent frame b) i) _ _ _ _ (framed_bad m m2 (trap Index place p)) (found_framed b.ty.rate b (element t i))

    module _ (calls calls2 : OwnCalls) (same_calls : (f : ℕ) (place : Span) (xs : List Passed) (caller : Frame) → Framed m m2 reached (calls f place xs caller) (calls2 f place xs caller)) where
      mutual
        pub answer_framed : (x : TExpr) → Framed m m2 reached (answer m p frame calls x) (answer m2 p frame calls2 x)
        answer_framed (t_constant v sp) = framed_has m m2 _
        answer_framed (t_program_index sp) = framed_has m m2 p
        answer_framed (t_place q) = framed_then m m2 _ _ _ _ (spot_framed q) (λ r. held_framed (place_span q) r)
        answer_framed (t_convert e x) = framed_then m m2 _ _ _ _ (answer_framed x) (λ i. framed_has m m2 _)
        answer_framed (t_cast x t sp) = answer_framed x
        answer_framed (t_unary op x t sp) = framed_then m m2 _ _ _ _ (answer_framed x) (λ i. framed_has m m2 _)
        answer_framed (t_binary op x y t sp) = framed_then m m2 _ _ _ _ (answer_framed x) (λ i. framed_then m m2 _ _ _ _ (answer_framed y) (λ j. framed_unless m m2 (is_zero op t.elem j) Divide sp p _))
        answer_framed (t_compare c x y r sp) = framed_then m m2 _ _ _ _ (answer_framed x) (λ i. framed_then m m2 _ _ _ _ (answer_framed y) (λ j. framed_has m m2 _))
        answer_framed (t_logic l x y r sp) = framed_then m m2 _ _ _ _ (answer_framed x) (λ i. framed_choose m m2 reached (needs l i) _ _ _ _ (answer_framed y) (framed_has m m2 i))
        answer_framed (t_choose c x y t sp) = framed_then m m2 _ _ _ _ (answer_framed c) (λ i. framed_choose m m2 reached (is_true i) _ _ _ _ (answer_framed x) (answer_framed y))
        answer_framed (t_call c t) = call_framed c
        answer_framed (t_library f e xs t sp) = framed_then m m2 _ _ _ _ (answers_framed xs) (λ is. framed_has m m2 _)
        answer_framed (t_packed_store b x sp) = framed_has m m2 0
        answer_framed (t_packed_load b v sp) = framed_has m m2 0

        pub spot_framed : (q : TPlace) → Framed m m2 reached (spot m p frame calls q) (spot m2 p frame calls2 q)
        spot_framed (t_variable v t sp) = framed_has m m2 _
        spot_framed (t_element b i t sp) = framed_then m m2 _ _ _ _ (answer_framed i) (λ j. framed_has m m2 _)

        pub answers_framed : (xs : TExprs) → Framed m m2 reached (answers m p frame calls xs) (answers m2 p frame calls2 xs)
        answers_framed t_no_exprs = framed_has m m2 []
        answers_framed (t_expr_then x xs) = framed_then m m2 _ _ _ _ (answer_framed x) (λ i. framed_then m m2 _ _ _ _ (answers_framed xs) (λ is. framed_has m m2 _))

        pub call_framed : (c : TCall) → Framed m m2 reached (answer_call m p frame calls c) (answer_call m2 p frame calls2 c)
        call_framed (t_called f xs sp) = framed_then m m2 _ _ _ _ (arguments_framed xs) (λ ps. same_calls f sp ps frame)

        arguments_framed : (xs : TArguments) → Framed m m2 reached (arguments m p frame calls xs) (arguments m2 p frame calls2 xs)
        arguments_framed t_no_arguments = framed_has m m2 []
        arguments_framed (t_argument_then x xs) = framed_then m m2 _ _ _ _ (passed_framed x) (λ i. framed_then m m2 _ _ _ _ (arguments_framed xs) (λ is. framed_has m m2 _))

        passed_framed : (x : TArgument) → Framed m m2 reached (passed m p frame calls x) (passed m2 p frame calls2 x)
        passed_framed (t_by_value x) = framed_then m m2 _ _ _ _ (answer_framed x) (λ i. framed_has m m2 _)
        passed_framed (t_by_name b sp) = framed_has m m2 _

      -- ---- assignments and declarations

      keeps : (r : Spot) (x : ℕ) → Framed m m2 {R = Answer Done} reached (λ s. Has tt (kept frame r x s)) (λ s. Has tt (kept frame r x s))
      keeps r x = framed_same m m2 reached (λ s. Has tt (kept frame r x s)) (λ s. kept_grows frame r x s)

      writes : (r : Rate) (v x : ℕ) → Framed m m2 {R = Answer Done} reached (λ s. Has tt (written r v x s)) (λ s. Has tt (written r v x s))
      writes r v x = framed_same m m2 reached (λ s. Has tt (written r v x s)) (λ s. written_grows r v x s)

      update_framed : (op : BinOp) (t : Elem) (q : TPlace) (r : Spot) (j : ℕ) (sp : Span) → Framed m m2 reached (update m p frame calls op t q r j sp) (update m2 p frame calls2 op t q r j sp)
      update_framed op t q r j sp =
          framed_then m m2 _ _ _ _ (held_framed (place_span q) r) (λ i. framed_then m m2 _ _ _ _ (framed_unless m m2 (is_zero op t j) Divide sp p _) (λ k. keeps r _))

      simple_framed : (x : TSimple) → Framed m m2 reached (simple m p frame calls x) (simple m2 p frame calls2 x)
      simple_framed (t_value x) = framed_then m m2 _ _ _ _ (answer_framed x) (λ i. framed_has m m2 tt)
      simple_framed (t_run c) = framed_then m m2 _ _ _ _ (call_framed c) (λ i. framed_has m m2 tt)
      simple_framed (t_assign q x sp) =
          framed_then m m2 _ _ _ _ (spot_framed q) (λ r. framed_then m m2 _ _ _ _ (answer_framed x) (λ i. framed_then m m2 _ _ _ _ (framed_unless m m2 (outside frame r) Index (place_span q) p i) (λ j. keeps r j)))
      simple_framed (t_update op t q x sp) = framed_then m m2 _ _ _ _ (spot_framed q) (λ r. framed_then m m2 _ _ _ _ (answer_framed x) (λ j. update_framed op t q r j sp))
      simple_framed (t_step op t q sp) = framed_then m m2 _ _ _ _ (spot_framed q) (λ r. update_framed op t q r 1 sp)

      item_framed : (x : TItem) → Framed m m2 reached (item m p frame calls x) (item m2 p frame calls2 x)
      item_framed (t_plain v t sp) = writes t.rate v 0
      item_framed (t_with_value v t x sp) = framed_then m m2 _ _ _ _ (answer_framed x) (λ i. writes t.rate v i)
      item_framed (t_with_size b sp) = framed_same m m2 reached (λ s. Has tt (cleared frame b.ty.rate b.number s)) (λ s. cleared_grows frame b.ty.rate b.number s)

      items_framed : (xs : List TItem) → Framed m m2 reached (items m p frame calls xs) (items m2 p frame calls2 xs)
      items_framed [] = framed_has m m2 tt
      items_framed (x ∷ xs) = framed_then m m2 _ _ _ _ (item_framed x) (λ i. items_framed xs)

      first_framed : (x : Option TFirst) → Framed m m2 reached (first_part m p frame calls x) (first_part m2 p frame calls2 x)
      first_framed None = framed_has m m2 tt
      first_framed (Some (t_first_declare xs sp)) = items_framed xs
      first_framed (Some (t_first_simple x)) = simple_framed x

      step_framed : (x : Option TSimple) → Framed m m2 reached (step_part m p frame calls x) (step_part m2 p frame calls2 x)
      step_framed None = framed_has m m2 tt
      step_framed (Some x) = simple_framed x

      bounds_framed : (rs : List TRange) → Framed m m2 reached (bounds m p frame calls rs) (bounds m2 p frame calls2 rs)
      bounds_framed [] = framed_has m m2 []
      bounds_framed (r ∷ rs) = framed_then m m2 _ _ _ _ (answer_framed r.start) (λ i. framed_then m m2 _ _ _ _ (answer_framed r.end) (λ j. framed_then m m2 _ _ _ _ (bounds_framed rs) (λ xs. framed_has m m2 _)))

      test_framed : (x : Option TExpr) → Framed m m2 reached (test_part m p frame calls x) (test_part m2 p frame calls2 x)
      test_framed None = framed_has m m2 1
      test_framed (Some x) = answer_framed x

      goes_framed : (f f2 : Alone → Answer Done) → Framed m m2 reached f f2 → Framed m m2 left_at (λ s. goes_on (f s)) (λ s. goes_on (f2 s))
      goes_framed f f2 x = framed_with m m2 f f2 _ _ x (λ u. framed_does m m2 Going)

      -- ---- loops

      module _ (test test2 : Alone → Answer ℕ) (body body2 : Alone → End) (step step2 : Alone → Answer Done) (t : Framed m m2 reached test test2) (b : Framed m m2 left_at body body2) (e : Framed m m2 reached step step2) where
        tested_framed : (f f2 : Alone → End) → Framed m m2 left_at f f2 → Framed m m2 left_at (tested test body step f) (tested test2 body2 step2 f2)
        tested_framed f f2 x = framed_with m m2 test test2 _ _ t (λ i. framed_choose m m2 left_at (is_true i) _ _ _ _ x (framed_does m m2 Going))

        stepped_framed : (f f2 : Alone → End) → Framed m m2 left_at f f2 → Framed m m2 left_at (stepped test body step f) (stepped test2 body2 step2 f2)
        stepped_framed f f2 x = framed_with m m2 step step2 _ _ e (λ u. tested_framed f f2 x)

        turned_framed : (f f2 : Alone → End) → Framed m m2 left_at f f2 → Framed m m2 left_at (λ s. turned test body step (body s) f) (λ s. turned test2 body2 step2 (body2 s) f2)
        turned_framed f f2 x = framed_by m m2 left_at left_at body body2 (λ s r. turned test body step r f) (λ s r. turned test2 body2 step2 r f2) b (λ s r. up r) (λ s r. is r) where
          up : (r : End) → Grows (left_at r) (left_at (turned test body step r f))
          up (Does s Going) = x.grows s
          up (Does s Broke) = stays s
          up (Does s Continued) = x.grows s
          up (Does s Returned) = stays s
          up (Dies t s) = stays s
          up (Lasts s) = stays s

          is : (r : End) → Agrees m m2 (left_at (turned test body step r f)) → turned test2 body2 step2 r f2 ≡ turned test body step r f
          is (Does s Going) a = x.same s a
          is (Does s Broke) a = refl
          is (Does s Continued) a = x.same s a
          is (Does s Returned) a = refl
          is (Dies t s) a = refl
          is (Lasts s) a = refl

        turns_framed : (n : ℕ) → Framed m m2 left_at (turns test body step n) (turns test2 body2 step2 n)
        turns_framed zero = framed_same m m2 left_at (turns test body step zero) (λ s. stays s)
        turns_framed (suc n) = turned_framed (stepped test body step (turns test body step n)) (stepped test2 body2 step2 (turns test2 body2 step2 n)) (stepped_framed _ _ (turns_framed n))

      rounds_framed : (body body2 : Alone → End) → Framed m m2 left_at body body2 → (rs : List Run) → Framed m m2 left_at (rounds body p rs) (rounds body2 p rs)
      rounds_framed body body2 b [] = framed_does m m2 Going
      rounds_framed body body2 b (r ∷ rs) =
          framed_choose m m2 left_at (r.members p) _ _ _ _
          (framed_always m m2 _ _ _ _ (framed_from m m2 left_at body body2 (at_indices p r.indices) (λ s. indices_grow p r.indices s) b) (rounds_framed body body2 b rs))
          (rounds_framed body body2 b rs)

      -- ---- statements

      module _ (gang most : ℕ) where
        mutual
          does_framed : (x : TStmt) → Framed m m2 left_at (does gang m p frame calls most x) (does gang m2 p frame calls2 most x)
          does_framed (t_block b) = block_framed b
          does_framed (t_declare xs sp) = goes_framed _ _ (items_framed xs)
          does_framed (t_simple x sp) = goes_framed _ _ (simple_framed x)
          does_framed (t_if f n e x sp) = framed_with m m2 _ _ _ _ (answer_framed e) (λ i. framed_choose m m2 left_at (is_true i) _ _ _ _ (does_framed x) (framed_does m m2 Going))
          does_framed (t_if_else f n e x y sp) = framed_with m m2 _ _ _ _ (answer_framed e) (λ i. framed_choose m m2 left_at (is_true i) _ _ _ _ (does_framed x) (does_framed y))
          does_framed (t_while f n e x sp) =
              tested_framed _ _ _ _ _ _ (answer_framed e) (does_framed x) (framed_has m m2 tt) _ _ (turns_framed _ _ _ _ _ _ (answer_framed e) (does_framed x) (framed_has m m2 tt) most)
          does_framed (t_do f n x e sp) = turns_framed _ _ _ _ _ _ (answer_framed e) (does_framed x) (framed_has m m2 tt) most
          does_framed (t_for f n first e step i x sp) =
              framed_with m m2 _ _ _ _ (first_framed first)
              (λ u. tested_framed _ _ _ _ _ _ (test_framed e) (does_framed x) (step_framed step) _ _ (turns_framed _ _ _ _ _ _ (test_framed e) (does_framed x) (step_framed step) most))
          does_framed (t_foreach w n rs x sp) = framed_with m m2 _ _ _ _ (bounds_framed rs) (λ xs. rounds_framed _ _ (does_framed x) (runs_of gang xs))
          does_framed (t_foreach_active w n i x sp) =
              framed_always m m2 _ _ _ _ (framed_from m m2 left_at (does gang m p frame calls most x) (does gang m2 p frame calls2 most x) (written Uniform i p) (λ s. written_grows Uniform i p s) (does_framed x)) (framed_does m m2 Going)
          does_framed (t_foreach_unique w n i t e x sp) =
              framed_with m m2 _ _ _ _ (answer_framed e)
              (λ b. framed_always m m2 _ _ _ _
              (framed_from m m2 left_at (does gang m p frame calls most x) (does gang m2 p frame calls2 most x) (written Uniform i (converted (elem_of e) t b)) (λ s. written_grows Uniform i _ s) (does_framed x))
              (framed_does m m2 Going))
          does_framed (t_unmasked w b sp) = framed_always m m2 _ _ _ _ (block_framed b) (framed_does m m2 Going)
          does_framed (t_print w text xs sp) = framed_with m m2 _ _ _ _ (answers_framed (t_exprs xs)) (λ is. framed_does m m2 Going)
          does_framed (t_jump j w sp) = framed_does m m2 _
          does_framed (t_return w None sp) = framed_does m m2 Returned
          does_framed (t_return w (Some x) sp) =
              framed_with m m2 _ _ _ _ (answer_framed x) (λ i. framed_same m m2 left_at (λ s. Does (record s { result = i }) Returned) (λ s. record { read = λ b e h. h }))
          does_framed (t_assert x c sp) = framed_with m m2 _ _ _ _ (answer_framed x) (λ i. goes_framed _ _ (framed_unless m m2 (is_false i) Assert c p tt))

          block_framed : (b : TBlock) → Framed m m2 left_at (does_block gang m p frame calls most b) (does_block gang m2 p frame calls2 most b)
          block_framed (t_braces xs sp) = all_framed xs

          all_framed : (xs : TStmts) → Framed m m2 left_at (does_all gang m p frame calls most xs) (does_all gang m2 p frame calls2 most xs)
          all_framed t_no_stmts = framed_does m m2 Going
          all_framed (t_stmt_then x xs) = framed_on m m2 _ _ _ _ (does_framed x) (all_framed xs)

  -- ---- calls, by the levels that are left

  ended_framed : (f f2 : Alone → End) → Framed m m2 left_at f f2 → Framed m m2 reached (λ s. ended s (f s)) (λ s. ended s (f2 s))
  ended_framed f f2 x = framed_by m m2 left_at reached f f2 (λ s r. ended s r) (λ s r. ended s r) x up (λ s r a. refl) where
    up : (s : Alone) (r : End) → Grows (left_at r) (reached (ended s r))
    up s (Does t how) = record { read = λ b e h. h }
    up s (Dies u t) = stays t
    up s (Lasts t) = stays t

  module _ (program : Program) (most : ℕ) where
    called_framed : (calls calls2 : OwnCalls) → ((f : ℕ) (place : Span) (xs : List Passed) (caller : Frame) → Framed m m2 reached (calls f place xs caller) (calls2 f place xs caller))
        → (o : Option TFunction) (xs : List Passed) (caller : Frame) → Framed m m2 reached (called program most m p calls o xs caller) (called program most m2 p calls2 o xs caller)
    called_framed calls calls2 c None xs caller = framed_same m m2 reached (λ s. Long s) (λ s. stays s)
    called_framed calls calls2 c (Some f) xs caller =
        ended_framed _ _ (framed_from m m2 left_at (does_block (gang_width program.gang) m p (frame_of f xs caller) calls most f.body)
        (does_block (gang_width program.gang) m2 p (frame_of f xs caller) calls2 most f.body) (begun f xs) (λ s. record { read = λ b e h. h })
        (block_framed (frame_of f xs caller) calls calls2 c (gang_width program.gang) most f.body))

    pub calls_framed : (left f : ℕ) (place : Span) (xs : List Passed) (caller : Frame) → Framed m m2 reached (own_calls program most m p left f place xs caller) (own_calls program most m2 p left f place xs caller)
    calls_framed zero f place xs caller = framed_bad m m2 (trap Depth place p)
    calls_framed (suc left) f place xs caller =
        called_framed (own_calls program most m p left) (own_calls program most m2 p left) (λ g q ys c. calls_framed left g q ys c) (slice_get program.functions f) xs caller

-- a run reads what decides it
pub run_framed : (program : Program) (f most : ℕ) (xs : List Argument) (m m2 : ℕ → ℕ → ℕ) (p : ℕ) → Agrees m m2 (reached (solo_run program f most xs m p))
    → solo_run program f most xs m2 p ≡ solo_run program f most xs m p
run_framed program f most xs m m2 p a = (calls_framed m m2 p program most most_calls f no_place (handed 0 xs) (first_frame xs)).same fresh a
