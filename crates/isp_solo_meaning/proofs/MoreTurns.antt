-- A run is the same with more turns, and its traps name its instance. One line a node.
use Rattle.std.proofs.Common.{◌≡◌, ℕ, zero, suc, Bool, true, false, refl, ◌≤◌, arith}
use Rattle.std.specs.Prelude.{IsSome, List, [], ◌∷◌, Option, Some, None, ◌&&◌, nat_eq, if◌then◌else◌, slice_get, ℤ}
use Rattle.isp_base.specs.Access.{is_outside, element, is_zero}
use Rattle.isp_base.specs.Values.{wrap}
use Rattle.isp_base.specs.Types.{gang_width}
use Rattle.isp_base.specs.declared.types.Elem.TheVariants.{I32}
use Rattle.isp_base.specs.declared.types.Rate.{Rate}
use Rattle.isp_base.specs.declared.types.Rate.TheVariants.{Uniform, Varying}
use Rattle.isp_base.specs.declared.types.Span.{Span}
use Rattle.isp_base.specs.declared.operators.BinOp.{BinOp}
use Rattle.isp_base.specs.declared.types.Elem.{Elem}
use Rattle.isp_base.specs.declared.trap.TrapKind.TheVariants.{Divide, Index, Assert, Depth}
use Rattle.isp_typed.specs.declared.variable.ArrayVariable.{ArrayVariable}
use Rattle.isp_typed.specs.Typed.{TExpr, t_constant, t_program_index, t_place, t_convert, t_cast, t_unary, t_binary, t_compare, t_logic, t_choose, t_call, t_library, t_packed_store, t_packed_load, TPlace, t_variable}
use Rattle.isp_typed.specs.Typed.{t_element, TArgument, t_by_value, t_by_name, TCall, t_called, TArguments, t_no_arguments, t_argument_then, TExprs, t_no_exprs, t_expr_then, place_span, elem_of}
use Rattle.isp_typed.specs.Typed.{TItem, t_plain, t_with_value, t_with_size, TSimple, t_value, t_run, t_assign, t_update, t_step, TFirst, t_first_declare, t_first_simple, TRange, t_exprs}
use Rattle.isp_typed.specs.Typed.{TStmt, t_block, t_declare, t_simple, t_if, t_if_else, t_while, t_do, t_for, t_foreach, t_foreach_active, t_foreach_unique, t_unmasked, t_jump}
use Rattle.isp_typed.specs.Typed.{t_return, t_print, t_assert, TBlock, t_braces, TStmts, t_no_stmts, t_stmt_then, TFunction, Program}
use Rattle.isp_meaning.specs.State.{Frame, extent}
use Rattle.isp_meaning.specs.Payloads.{is_true, is_false, converted}
use Rattle.isp_meaning.specs.Expressions.{Passed, needs}
use Rattle.isp_meaning.specs.Rounds.{Run, runs_of}
use Rattle.isp_meaning.specs.Calls.{frame_of, most_calls}
use Rattle.isp_meaning.specs.Runs.{handed, first_frame, no_place}
use Rattle.isp_solo_meaning.specs.Alone.{Alone, written, noted, stored}
use Rattle.isp_solo_meaning.specs.Answers.{Answer, Has, reached, How, Going, Broke, Continued, Returned, End, Does, Dies, Lasts, Done}
use Rattle.isp_solo_meaning.specs.Places.{Spot, AVariable, AnElement, outside, kept, element_kept, cleared}
use Rattle.isp_solo_meaning.specs.Values.{OwnCalls, found, held, answer, spot, answers, answer_call, arguments, passed}
use Rattle.isp_solo_meaning.specs.Steps.{update, simple, item, items, first_part, step_part}
use Rattle.isp_solo_meaning.specs.Loops.{tested, stepped, turned, turns, at_indices, rounds}
use Rattle.isp_solo_meaning.specs.Does.{goes_on, bounds, test_part, does, does_block, does_all}
use Rattle.isp_solo_meaning.specs.Calls.{begun, ended, called, own_calls}
use Rattle.isp_solo_meaning.specs.Runs.{fresh}
use Rattle.isp_solo_meaning.specs.Longer.{Within, Later, Names}
use Rattle.isp_solo_meaning.specs.Laws.{MoreTurnsAlone, TrapsNameTheInstance}
use Rattle.isp_solo_meaning.proofs.Framed.{left_at}
use Rattle.isp_solo_meaning.proofs.Beside.{stays, within_then, LaterEnd, NamesEnd, Beside, BesideEnd, beside_has, beside_changed, beside_trap, beside_unless, beside_choose, beside_then}
use Rattle.isp_solo_meaning.proofs.Beside.{beside_does, beside_cut, beside_from, beside_either, beside_with, beside_by, beside_on, beside_always}

-- ---- what changes the state

written_grows : (r : Rate) (v x : ℕ) (s : Alone) → Within s (written r v x s)
written_grows Uniform v x s = record { read = λ b e h. h; wrote = λ b e h. h }
written_grows Varying v x s = record { read = λ b e h. h; wrote = λ b e h. h }

still_some : (t : Bool) (x : ℕ) (o : Option ℕ) → IsSome o → IsSome (if t then Some x else o)
still_some true x o h = refl
still_some false x o h = h

stored_grows : (b e x : ℕ) (s : Alone) → Within s (stored b e x s)
stored_grows b e x s = record { read = λ c i h. h; wrote = λ c i h. still_some (nat_eq c b && nat_eq i e) x (s.wrote c i) h }

kept_grows : (frame : Frame) (r : Spot) (x : ℕ) (s : Alone) → Within s (kept frame r x s)
kept_grows frame (AVariable v t) x s = written_grows t.rate v x s
kept_grows frame (AnElement b t i) x s = go b.ty.rate where
  go : (r : Rate) → Within s (element_kept frame r b (element t i) x s)
  go Uniform = stored_grows (frame.named b.number) (element t i) x s
  go Varying = record { read = λ c e h. h; wrote = λ c e h. h }

zeros_are_some : (t : Bool) (f : ℕ → Option ℕ) (e : ℕ) → IsSome (f e) → IsSome ((if t then (λ i. Some 0) else f) e)
zeros_are_some true f e h = refl
zeros_are_some false f e h = h

cleared_grows : (frame : Frame) (r : Rate) (v : ℕ) (s : Alone) → Within s (cleared frame r v s)
cleared_grows frame Uniform v s = record { read = λ b e h. h; wrote = λ b e h. zeros_are_some (nat_eq b (frame.named v)) (s.wrote b) e h }
cleared_grows frame Varying v s = record { read = λ b e h. h; wrote = λ b e h. h }

indices_grow : (p : ℕ) (xs : List (ℕ × (ℕ → ℤ))) (s : Alone) → Within s (at_indices p xs s)
indices_grow p [] s = stays s
indices_grow p (x ∷ xs) s = within_then s (written Varying x.0 (wrap I32 (x.1 p)) s) (at_indices p (x ∷ xs) s) (written_grows Varying x.0 (wrap I32 (x.1 p)) s) (indices_grow p xs (written Varying x.0 (wrap I32 (x.1 p)) s))

still_true : (t u : Bool) → u ≡ true → (if t then true else u) ≡ true
still_true true u h = refl
still_true false u h = h

noted_grows : (b e : ℕ) (s : Alone) → Within s (noted b e s)
noted_grows b e s = record { read = λ c i h. still_true (nat_eq c b && nat_eq i e) (s.read c i) h; wrote = λ c i h. h }

module _ (m : ℕ → ℕ → ℕ) (p : ℕ) where
  module _ (frame : Frame) where
    found_beside : (r : Rate) (b : ArrayVariable) (e : ℕ) → Beside p (found m p frame r b e) (found m p frame r b e)
    found_beside Uniform b e = record {
      grows = λ s. noted_grows (frame.named b.number) e s;
      later = λ s. refl;
      names = λ s. tt;
    }
    found_beside Varying b e = record { grows = λ s. stays s; later = λ s. refl; names = λ s. tt }

    held_beside : (place : Span) (r : Spot) → Beside p (held m p frame place r) (held m p frame place r)
    held_beside place (AVariable v t) = record { grows = λ s. stays s; later = λ s. refl; names = λ s. tt }
    held_beside place (AnElement b t i) = beside_choose p (is_outside t (extent frame b) i) _ _ _ _ (beside_trap p Index place) (found_beside b.ty.rate b (element t i))

    module _ (calls calls2 : OwnCalls) (same_calls : (f : ℕ) (place : Span) (xs : List Passed) (caller : Frame) → Beside p (calls f place xs caller) (calls2 f place xs caller)) where
      mutual
        pub answer_beside : (x : TExpr) → Beside p (answer m p frame calls x) (answer m p frame calls2 x)
        answer_beside (t_constant v sp) = beside_has p _
        answer_beside (t_program_index sp) = beside_has p p
        answer_beside (t_place q) = beside_then p _ _ _ _ (spot_beside q) (λ r. held_beside (place_span q) r)
        answer_beside (t_convert e x) = beside_then p _ _ _ _ (answer_beside x) (λ i. beside_has p _)
        answer_beside (t_cast x t sp) = answer_beside x
        answer_beside (t_unary op x t sp) = beside_then p _ _ _ _ (answer_beside x) (λ i. beside_has p _)
        answer_beside (t_binary op x y t sp) = beside_then p _ _ _ _ (answer_beside x) (λ i. beside_then p _ _ _ _ (answer_beside y) (λ j. beside_unless p (is_zero op t.elem j) Divide sp _))
        answer_beside (t_compare c x y r sp) = beside_then p _ _ _ _ (answer_beside x) (λ i. beside_then p _ _ _ _ (answer_beside y) (λ j. beside_has p _))
        answer_beside (t_logic l x y r sp) = beside_then p _ _ _ _ (answer_beside x) (λ i. beside_choose p (needs l i) _ _ _ _ (answer_beside y) (beside_has p i))
        answer_beside (t_choose c x y t sp) = beside_then p _ _ _ _ (answer_beside c) (λ i. beside_choose p (is_true i) _ _ _ _ (answer_beside x) (answer_beside y))
        answer_beside (t_call c t) = call_beside c
        answer_beside (t_library f e xs t sp) = beside_then p _ _ _ _ (answers_beside xs) (λ is. beside_has p _)
        answer_beside (t_packed_store b x sp) = beside_has p 0
        answer_beside (t_packed_load b v sp) = beside_has p 0

        pub spot_beside : (q : TPlace) → Beside p (spot m p frame calls q) (spot m p frame calls2 q)
        spot_beside (t_variable v t sp) = beside_has p _
        spot_beside (t_element b i t sp) = beside_then p _ _ _ _ (answer_beside i) (λ j. beside_has p _)

        pub answers_beside : (xs : TExprs) → Beside p (answers m p frame calls xs) (answers m p frame calls2 xs)
        answers_beside t_no_exprs = beside_has p []
        answers_beside (t_expr_then x xs) = beside_then p _ _ _ _ (answer_beside x) (λ i. beside_then p _ _ _ _ (answers_beside xs) (λ is. beside_has p _))

        pub call_beside : (c : TCall) → Beside p (answer_call m p frame calls c) (answer_call m p frame calls2 c)
        call_beside (t_called f xs sp) = beside_then p _ _ _ _ (arguments_beside xs) (λ ps. same_calls f sp ps frame)

        arguments_beside : (xs : TArguments) → Beside p (arguments m p frame calls xs) (arguments m p frame calls2 xs)
        arguments_beside t_no_arguments = beside_has p []
        arguments_beside (t_argument_then x xs) = beside_then p _ _ _ _ (passed_beside x) (λ i. beside_then p _ _ _ _ (arguments_beside xs) (λ is. beside_has p _))

        passed_beside : (x : TArgument) → Beside p (passed m p frame calls x) (passed m p frame calls2 x)
        passed_beside (t_by_value x) = beside_then p _ _ _ _ (answer_beside x) (λ i. beside_has p _)
        passed_beside (t_by_name b sp) = beside_has p _

      -- ---- assignments and declarations

      keeps : (r : Spot) (x : ℕ) → Beside {A = Done} p (λ s. Has tt (kept frame r x s)) (λ s. Has tt (kept frame r x s))
      keeps r x = beside_changed p tt (kept frame r x) (λ s. kept_grows frame r x s)

      writes : (r : Rate) (v x : ℕ) → Beside {A = Done} p (λ s. Has tt (written r v x s)) (λ s. Has tt (written r v x s))
      writes r v x = beside_changed p tt (written r v x) (λ s. written_grows r v x s)

      update_beside : (op : BinOp) (t : Elem) (q : TPlace) (r : Spot) (j : ℕ) (sp : Span) → Beside p (update m p frame calls op t q r j sp) (update m p frame calls2 op t q r j sp)
      update_beside op t q r j sp =
          beside_then p _ _ _ _ (held_beside (place_span q) r) (λ i. beside_then p _ _ _ _ (beside_unless p (is_zero op t j) Divide sp _) (λ k. keeps r _))

      simple_beside : (x : TSimple) → Beside p (simple m p frame calls x) (simple m p frame calls2 x)
      simple_beside (t_value x) = beside_then p _ _ _ _ (answer_beside x) (λ i. beside_has p tt)
      simple_beside (t_run c) = beside_then p _ _ _ _ (call_beside c) (λ i. beside_has p tt)
      simple_beside (t_assign q x sp) =
          beside_then p _ _ _ _ (spot_beside q) (λ r. beside_then p _ _ _ _ (answer_beside x) (λ i. beside_then p _ _ _ _ (beside_unless p (outside frame r) Index (place_span q) i) (λ j. keeps r j)))
      simple_beside (t_update op t q x sp) = beside_then p _ _ _ _ (spot_beside q) (λ r. beside_then p _ _ _ _ (answer_beside x) (λ j. update_beside op t q r j sp))
      simple_beside (t_step op t q sp) = beside_then p _ _ _ _ (spot_beside q) (λ r. update_beside op t q r 1 sp)

      item_beside : (x : TItem) → Beside p (item m p frame calls x) (item m p frame calls2 x)
      item_beside (t_plain v t sp) = writes t.rate v 0
      item_beside (t_with_value v t x sp) = beside_then p _ _ _ _ (answer_beside x) (λ i. writes t.rate v i)
      item_beside (t_with_size b sp) = beside_changed p tt (cleared frame b.ty.rate b.number) (λ s. cleared_grows frame b.ty.rate b.number s)

      items_beside : (xs : List TItem) → Beside p (items m p frame calls xs) (items m p frame calls2 xs)
      items_beside [] = beside_has p tt
      items_beside (x ∷ xs) = beside_then p _ _ _ _ (item_beside x) (λ i. items_beside xs)

      first_beside : (x : Option TFirst) → Beside p (first_part m p frame calls x) (first_part m p frame calls2 x)
      first_beside None = beside_has p tt
      first_beside (Some (t_first_declare xs sp)) = items_beside xs
      first_beside (Some (t_first_simple x)) = simple_beside x

      step_beside : (x : Option TSimple) → Beside p (step_part m p frame calls x) (step_part m p frame calls2 x)
      step_beside None = beside_has p tt
      step_beside (Some x) = simple_beside x

      bounds_beside : (rs : List TRange) → Beside p (bounds m p frame calls rs) (bounds m p frame calls2 rs)
      bounds_beside [] = beside_has p []
      bounds_beside (r ∷ rs) = beside_then p _ _ _ _ (answer_beside r.start) (λ i. beside_then p _ _ _ _ (answer_beside r.end) (λ j. beside_then p _ _ _ _ (bounds_beside rs) (λ xs. beside_has p _)))

      test_beside : (x : Option TExpr) → Beside p (test_part m p frame calls x) (test_part m p frame calls2 x)
      test_beside None = beside_has p 1
      test_beside (Some x) = answer_beside x

      goes_beside : (f f2 : Alone → Answer Done) → Beside p f f2 → BesideEnd p (λ s. goes_on (f s)) (λ s. goes_on (f2 s))
      goes_beside f f2 x = beside_with p f f2 _ _ x (λ u. beside_does p Going)

      -- ---- loops

      module _ (test test2 : Alone → Answer ℕ) (body body2 : Alone → End) (step step2 : Alone → Answer Done) (t : Beside p test test2) (b : BesideEnd p body body2) (e : Beside p step step2) where
        tested_beside : (f f2 : Alone → End) → BesideEnd p f f2 → BesideEnd p (tested test body step f) (tested test2 body2 step2 f2)
        tested_beside f f2 x = beside_with p test test2 _ _ t (λ i. beside_either p (is_true i) _ _ _ _ x (beside_does p Going))

        stepped_beside : (f f2 : Alone → End) → BesideEnd p f f2 → BesideEnd p (stepped test body step f) (stepped test2 body2 step2 f2)
        stepped_beside f f2 x = beside_with p step step2 _ _ e (λ u. tested_beside f f2 x)

        turned_beside : (f f2 : Alone → End) → BesideEnd p f f2 → BesideEnd p (λ s. turned test body step (body s) f) (λ s. turned test2 body2 step2 (body2 s) f2)
        turned_beside f f2 x =
            beside_by p body body2 (λ r. turned test body step r f) (λ r. turned test2 body2 step2 r f2) b up on named (λ t s. refl) (λ t s. refl) (λ s. refl) (λ s. refl) where
              up : (s : Alone) (how : How) → Within s (left_at (turned test2 body2 step2 (Does s how) f2))
              up s Going = x.grows s
              up s Broke = stays s
              up s Continued = x.grows s
              up s Returned = stays s

              on : (s : Alone) (how : How) → LaterEnd (turned test body step (Does s how) f) (turned test2 body2 step2 (Does s how) f2)
              on s Going = x.later s
              on s Broke = refl
              on s Continued = x.later s
              on s Returned = refl

              named : (s : Alone) (how : How) → NamesEnd p (turned test2 body2 step2 (Does s how) f2)
              named s Going = x.names s
              named s Broke = tt
              named s Continued = x.names s
              named s Returned = tt

        turns_beside : (n more : ℕ) → n ≤ more → BesideEnd p (turns test body step n) (turns test2 body2 step2 more)
        turns_beside zero zero few = record { grows = λ s. stays s; later = λ s. stays s; names = λ s. tt }
        turns_beside zero (suc more) few =
            beside_cut p _ _ (turned_beside (stepped test body step (turns test body step zero)) (stepped test2 body2 step2 (turns test2 body2 step2 more)) (stepped_beside _ _ (turns_beside zero more (omega arith))))
        turns_beside (suc n) zero few = absurd (omega (arith, few))
        turns_beside (suc n) (suc more) few = turned_beside _ _ (stepped_beside _ _ (turns_beside n more (omega (arith, few))))

      rounds_beside : (body body2 : Alone → End) → BesideEnd p body body2 → (rs : List Run) → BesideEnd p (rounds body p rs) (rounds body2 p rs)
      rounds_beside body body2 b [] = beside_does p Going
      rounds_beside body body2 b (r ∷ rs) =
          beside_either p (r.members p) _ _ _ _
          (beside_always p _ _ _ _ (beside_from p body body2 (at_indices p r.indices) (λ s. indices_grow p r.indices s) b) (rounds_beside body body2 b rs))
          (rounds_beside body body2 b rs)

      -- ---- statements

      module _ (gang most most2 : ℕ) (few : most ≤ most2) where
        returned : (x : ℕ) → BesideEnd p (λ s. Does (record s { result = x }) Returned) (λ s. Does (record s { result = x }) Returned)
        returned x = record { grows = λ s. record { read = λ b e h. h; wrote = λ b e h. h }; later = λ s. refl; names = λ s. tt }

        mutual
          does_beside : (x : TStmt) → BesideEnd p (does gang m p frame calls most x) (does gang m p frame calls2 most2 x)
          does_beside (t_block b) = block_beside b
          does_beside (t_declare xs sp) = goes_beside _ _ (items_beside xs)
          does_beside (t_simple x sp) = goes_beside _ _ (simple_beside x)
          does_beside (t_if f n e x sp) = beside_with p _ _ _ _ (answer_beside e) (λ i. beside_either p (is_true i) _ _ _ _ (does_beside x) (beside_does p Going))
          does_beside (t_if_else f n e x y sp) = beside_with p _ _ _ _ (answer_beside e) (λ i. beside_either p (is_true i) _ _ _ _ (does_beside x) (does_beside y))
          does_beside (t_while f n e x sp) =
              tested_beside _ _ _ _ _ _ (answer_beside e) (does_beside x) (beside_has p tt) _ _ (turns_beside _ _ _ _ _ _ (answer_beside e) (does_beside x) (beside_has p tt) most most2 few)
          does_beside (t_do f n x e sp) = turns_beside _ _ _ _ _ _ (answer_beside e) (does_beside x) (beside_has p tt) most most2 few
          does_beside (t_for f n first e step i x sp) =
              beside_with p _ _ _ _ (first_beside first)
              (λ u. tested_beside _ _ _ _ _ _ (test_beside e) (does_beside x) (step_beside step) _ _ (turns_beside _ _ _ _ _ _ (test_beside e) (does_beside x) (step_beside step) most most2 few))
          does_beside (t_foreach w n rs x sp) = beside_with p _ _ _ _ (bounds_beside rs) (λ xs. rounds_beside _ _ (does_beside x) (runs_of gang xs))
          does_beside (t_foreach_active w n i x sp) =
              beside_always p _ _ _ _ (beside_from p (does gang m p frame calls most x) (does gang m p frame calls2 most2 x) (written Uniform i p) (λ s. written_grows Uniform i p s) (does_beside x)) (beside_does p Going)
          does_beside (t_foreach_unique w n i t e x sp) =
              beside_with p _ _ _ _ (answer_beside e)
              (λ b. beside_always p _ _ _ _
              (beside_from p (does gang m p frame calls most x) (does gang m p frame calls2 most2 x) (written Uniform i (converted (elem_of e) t b)) (λ s. written_grows Uniform i _ s) (does_beside x))
              (beside_does p Going))
          does_beside (t_unmasked w b sp) = beside_always p _ _ _ _ (block_beside b) (beside_does p Going)
          does_beside (t_print w text xs sp) = beside_with p _ _ _ _ (answers_beside (t_exprs xs)) (λ is. beside_does p Going)
          does_beside (t_jump j w sp) = beside_does p _
          does_beside (t_return w None sp) = beside_does p Returned
          does_beside (t_return w (Some x) sp) =
              beside_with p _ _ _ _ (answer_beside x) (λ i. returned i)
          does_beside (t_assert x c sp) = beside_with p _ _ _ _ (answer_beside x) (λ i. goes_beside _ _ (beside_unless p (is_false i) Assert c tt))

          block_beside : (b : TBlock) → BesideEnd p (does_block gang m p frame calls most b) (does_block gang m p frame calls2 most2 b)
          block_beside (t_braces xs sp) = all_beside xs

          all_beside : (xs : TStmts) → BesideEnd p (does_all gang m p frame calls most xs) (does_all gang m p frame calls2 most2 xs)
          all_beside t_no_stmts = beside_does p Going
          all_beside (t_stmt_then x xs) = beside_on p _ _ _ _ (does_beside x) (all_beside xs)

  -- ---- calls, by the levels that are left

  ended_beside : (f f2 : Alone → End) → BesideEnd p f f2 → Beside p (λ s. ended s (f s)) (λ s. ended s (f2 s))
  ended_beside f f2 x = record {
    grows = λ s. up s (f2 s) (x.grows s);
    later = λ s. on s (f s) (f2 s) (x.later s);
    names = λ s. called s (f2 s) (x.names s);
  } where
    up : (s : Alone) (r : End) → Within s (left_at r) → Within s (reached (ended s r))
    up s (Does t how) h = record { read = h.read; wrote = h.wrote }
    up s (Dies u t) h = h
    up s (Lasts t) h = h

    touched : (s t : Alone) (r : End) → Within t (left_at r) → Within t (reached (ended s r))
    touched s t (Does u how) h = record { read = h.read; wrote = h.wrote }
    touched s t (Dies v u) h = h
    touched s t (Lasts u) h = h

    on : (s : Alone) (r r2 : End) → LaterEnd r r2 → Later (ended s r) (ended s r2)
    on s (Does t how) r2 e = rw e refl
    on s (Dies u t) r2 e = rw e refl
    on s (Lasts t) r2 h = touched s t r2 h

    called : (s : Alone) (r : End) → NamesEnd p r → Names p (ended s r)
    called s (Does t how) h = tt
    called s (Dies u t) h = h
    called s (Lasts t) h = tt

  module _ (program : Program) (most most2 : ℕ) (few : most ≤ most2) where
    called_beside : (calls calls2 : OwnCalls) → ((f : ℕ) (place : Span) (xs : List Passed) (caller : Frame) → Beside p (calls f place xs caller) (calls2 f place xs caller))
        → (o : Option TFunction) (xs : List Passed) (caller : Frame) → Beside p (called program most m p calls o xs caller) (called program most2 m p calls2 o xs caller)
    called_beside calls calls2 c None xs caller = record { grows = λ s. stays s; later = λ s. stays s; names = λ s. tt }
    called_beside calls calls2 c (Some f) xs caller = ended_beside _ _
        (beside_from p _ _ (begun f xs) (λ s. record { read = λ b e h. h; wrote = λ b e h. h })
        (block_beside (frame_of f xs caller) calls calls2 c (gang_width program.gang) most most2 few f.body))

    pub calls_beside : (left f : ℕ) (place : Span) (xs : List Passed) (caller : Frame) → Beside p (own_calls program most m p left f place xs caller) (own_calls program most2 m p left f place xs caller)
    calls_beside zero f place xs caller = beside_trap p Depth place
    calls_beside (suc left) f place xs caller =
        called_beside (own_calls program most m p left) (own_calls program most2 m p left) (λ g q ys c. calls_beside left g q ys c) (slice_get program.functions f) xs caller

pub more_turns_alone : MoreTurnsAlone
more_turns_alone program f few most xs m p le = (calls_beside m p program few most le most_calls f no_place (handed 0 xs) (first_frame xs)).later fresh

pub traps_name_the_instance : TrapsNameTheInstance
traps_name_the_instance program f most xs m p = (calls_beside m p program most most (omega arith) most_calls f no_place (handed 0 xs) (first_frame xs)).names fresh
