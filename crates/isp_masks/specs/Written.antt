-- What each writer of statements appends, given what it is given: where registers lie, the trees, the masks of a statement and
-- its first slot, a loop, a test.
use Rattle.std.specs.Prelude.{◌≡◌, ℕ, ◌+◌, List, [], ◌∷◌, ◌++◌, length, Option, None, option_map, Bool, map}
use Rattle.std.proofs.Common.{Bor}
use Rattle.isp_base.specs.declared.types.Rate.{Rate}
use Rattle.isp_base.specs.declared.operators.Compare.TheVariants.{Less}
use Rattle.isp_base.specs.declared.types.Elem.TheVariants.{Bool as Truth, I32, I64}
use Rattle.isp_base.specs.declared.types.Rate.TheVariants.{Uniform, Varying}
use Rattle.isp_base.specs.declared.types.Span.{Span}
use Rattle.isp_code.specs.declared.instr.Instr.{Instr}
use Rattle.isp_tree.specs.declared.stmt.Form.{Form}
use Rattle.isp_typed.specs.Typed.{TExpr, type_of, elem_of, TSimple, TFirst, TStmt, TBlock, TRange}
use Rattle.isp_typed.specs.Views.{expr_of, simple_of}
use Rattle.isp_typed.specs.declared.expr.TypedExpr.{TypedExpr}
use Rattle.isp_typed.specs.declared.stmt.TypedSimple.{TypedSimple}
use Rattle.isp_lower_code.specs.Code.{expr_code}
use Rattle.isp_lower_code.specs.Spans.{expr_places}
use Rattle.isp_lower_code.specs.Found.{found, operand, operand_of}
use Rattle.isp_lower_code.specs.Instructions.{jump_off, compare, compute, convert, copy, splat, the_others, where_so}
use Rattle.isp_lower_code.specs.Pieces.{guard, two}
use Rattle.isp_lower.specs.Emitted.{layout, texts_of}
use Rattle.isp_lower.specs.declared.types.Body.{Body}
use Rattle.isp_lower.specs.declared.types.Scope.{Scope}
use Rattle.isp_lower.specs.Written.{Piece as Silent}
use Rattle.isp_code.specs.declared.instr.Plain.TheVariants as plain
use Rattle.isp_lower_code.specs.Asks.{Ask, Both, Register, Number, spare_ask}
use Rattle.isp_lower_code.specs.Layout.{Layout, within, outside}
use Rattle.isp_lower_code.specs.Rows.{Variable, Place}
use Rattle.isp_registers.specs.declared.numbered.Slot.{Slot}
use Rattle.isp_lower_code.specs.declared.constant.Constant.{Constant}
use Rattle.isp_masks_code.specs.Asks.{bounds_asks, loop_asks, measures_asks, places_asks}
use Rattle.isp_masks_code.specs.Asserts.{assert_code, assert_places}
use Rattle.isp_masks_code.specs.Exits.{all_go_on, exits_of, both_go_on, leaving_of}
use Rattle.isp_masks_code.specs.Fors.{back_code, first_code, first_places, step_code, step_places, test_places}
use Rattle.isp_masks_code.specs.Loops.{copy_mask, do_code, is_wide, jump_all, live_code, sift_code, turn_code}
use Rattle.isp_masks_code.specs.Ranges.{RunBodies, foreach_code, full_code, full_test, goes_on, last_full, last_index, narrow, outer_index, places_slot, ranges_code, ranges_places, rest_run, run_place, runs_code, runs_slot, test, wide}
use Rattle.isp_masks_code.specs.Rounds.{active_code, unique_code, unmasked_code, values_of}
use Rattle.isp_masks_code.specs.Sets.{unite}
use Rattle.isp_masks_code.specs.Spots.{Numbers, Spot as Where, body_spot, past, widely}
use Rattle.isp_masks.specs.AtWork.{next_of, spot_of}
use Rattle.isp_masks_code.specs.Statements.{answer_code, behind, run_bodies, block_code, block_places, block_texts, body_code, function_code, if_code, if_else_code, stmt_code, stmt_places, stmt_texts, test_place, turning_code, turns_code, body_layout}
use Rattle.isp_masks_code.specs.declared.exits.Leaving.{Leaving}
use Rattle.isp_masks.specs.declared.looping.Loop.{Loop}
use Rattle.isp_masks.specs.declared.looping.Test.{Test}
use Rattle.isp_masks.specs.declared.looping.Turning.{Turning}
use Rattle.isp_masks.specs.declared.masks.Spot.{Spot}
use Rattle.isp_masks.specs.declared.ranges.OuterIndex.{OuterIndex}
use Rattle.isp_masks.specs.declared.ranges.Sweep.{Sweep}

-- Code that is told the number of its first instruction and the numbers of what it names next, and the places and texts that it
-- names. What names no text is a piece of isp_lower, and `Adds` it.
pub record Piece : Type 0 where
  pub code : ℕ → Numbers → List Instr
  pub places : List Span
  pub texts : List (List ℕ)

pub record Writes (old new : Body) (x : Piece) : Type 0 where
  pub code : new.code.items ≡ old.code.items ++ x.code (length old.code.items) (next_of old)
  pub places : new.places.items ≡ old.places.items ++ x.places
  pub texts : texts_of new ≡ texts_of old ++ x.texts

-- ---- statements

abbrev pub stmt_at : Scope → TStmt → Spot → Piece
stmt_at on x spot =
    record { code = λ pc z. stmt_code (layout on) on.answer x pc z (spot_of spot); places = stmt_places (layout on) x; texts = stmt_texts x }

abbrev pub block_at : Scope → TBlock → Spot → Piece
block_at on b spot =
    record { code = λ pc z. block_code (layout on) on.answer b pc z (spot_of spot); places = block_places (layout on) b; texts = block_texts b }

-- a function's body, and what it gives back
abbrev pub function_at : Scope → List Constant → TBlock → Piece
function_at on ks b = record { code = function_code (layout on) on.answer ks b; places = block_places (layout on) b; texts = block_texts b }

-- a value where results are, under mask k, in the slots from n on
abbrev pub answer_at : Scope → TExpr → ℕ → ℕ → Silent
answer_at on x k n =
    record { code = λ pc p. answer_code (layout on) on.answer x pc p k n; places = expr_places (layout on) x }

-- an `assert` under mask k, in the slots from n on
abbrev pub assert_at : Scope → TExpr → Span → ℕ → ℕ → Silent
assert_at on x c k n =
    record { code = λ pc p. assert_code (layout on) x pc p k n; places = assert_places (layout on) x c }

-- ---- choices: a part gets its spot; those that leave it are added to the masks of the whole

abbrev pub part_code : Scope → TStmt → Numbers → ℕ → Where → List Instr
part_code on x z pc part = stmt_code (layout on) on.answer x pc z part

-- a part under mask k in the slots from n on, jumped over where the mask has nobody
abbrev pub guarded_at : Scope → TStmt → Spot → ℕ → ℕ → Piece
guarded_at on x spot k n =
    record { code = λ pc z. guard (jump_off k) pc (λ pc1. part_code on x z pc1 (record (spot_of spot) { on = k; slot = n })); places = stmt_places (layout on) x; texts = stmt_texts x }

-- One part after a test in register c, given how it is left; two of them, given whether nobody leaves them; and with the test.
abbrev pub part_at : Scope → Leaving → Form → Rate → ℕ → TStmt → Spot → Piece
part_at on v f r c x spot =
    record { code = λ pc z. if_code v f r c pc (spot_of spot) (part_code on x z); places = stmt_places (layout on) x; texts = stmt_texts x }

abbrev pub parts_at : Scope → Bool → Form → Rate → ℕ → TStmt → TStmt → Spot → Piece
parts_at on b f r c x y spot =
    let l = layout on in
    record { code = λ pc z. if_else_code b f r c pc (spot_of spot) (part_code on x z) (part_code on y (behind l x z)); places = stmt_places l x ++ stmt_places l y; texts = stmt_texts x ++ stmt_texts y }

-- the test of a c-form in register c, and its first part
abbrev pub first_widely_at : Scope → ℕ → TStmt → Spot → Piece
first_widely_at on c x spot =
    let k = spot.masks.on.number in
    let n = spot.slot.number in
    record {
      code = λ pc z. where_so n c k ∷ jump_all n (pc + 1 + 1 + 1 + 1 + 1) ∷ the_others (n + 1) k n ∷ copy_mask k n ∷ guard (jump_off k)
          (pc + 1 + 1 + 1 + 1) (λ pc1. part_code on x z pc1 (widely k (spot_of spot)));
      places = stmt_places (layout on) x;
      texts = stmt_texts x;
    }

-- the second part of a c-form, and those that went on from it come back: jumped past where a mask has all lanes
abbrev pub others_at : Scope → TStmt → Spot → ℕ → ℕ → ℕ → Piece
others_at on y spot full k n =
    let part = guarded_at on y spot k n in
    let all = spot.masks.on.number in
    record { code = λ pc z. guard (jump_all full) pc (λ pc1. part.code pc1 z ++ unite all all k ∷ []); places = part.places; texts = part.texts }

abbrev pub if_at : Scope → Form → TExpr → TStmt → Spot → Piece
if_at on f e x spot =
    let l = layout on in
    let part = part_at on (leaving_of x) f (type_of e).rate (found l e spot.slot.number) x spot in
    record { code = λ pc z. two pc (expr_code l e pc z.place spot.masks.on.number spot.slot.number) (λ pc1. part.code pc1 (past (expr_places l e) z)); places = expr_places l e ++ part.places; texts = part.texts }

-- two parts, given whether all go on from both
abbrev pub both_parts_at : Scope → Form → Rate → ℕ → TStmt → TStmt → Spot → Piece
both_parts_at on f r c x y spot = parts_at on (both_go_on x y) f r c x y spot

abbrev pub if_else_at : Scope → Form → TExpr → TStmt → TStmt → Spot → Piece
if_else_at on f e x y spot =
    let l = layout on in
    let parts = both_parts_at on f (type_of e).rate (found l e spot.slot.number) x y spot in
    record { code = λ pc z. two pc (expr_code l e pc z.place spot.masks.on.number spot.slot.number) (λ pc1. parts.code pc1 (past (expr_places l e) z)); places = expr_places l e ++ parts.places; texts = parts.texts }

-- ---- loops

abbrev pub test_in : Turning → Option TExpr
test_in t = option_map (λ (x : Bor TypedExpr). expr_of x.now) t.test

abbrev pub step_in : Turning → Option TSimple
step_in t = option_map (λ (x : Bor TypedSimple). simple_of x.now) t.step

-- a turn
abbrev pub turn_at : Scope → TStmt → Loop → Piece
turn_at on x it =
    record { code = λ pc z. turn_code it.wide it.exits pc it.slot.number (body_code (layout on) on.answer x it.slot.number z); places = stmt_places (layout on) x; texts = stmt_texts x }

-- what leads back to instruction top; after the step; and for those that are live alone
abbrev pub back_at : Scope → Option TExpr → ℕ → ℕ → Silent
back_at on e n top =
    record { code = λ pc p. back_code (layout on) e pc p n top; places = test_places (layout on) e }

abbrev pub stepped_at : Scope → Option TExpr → Option TSimple → ℕ → ℕ → Silent
stepped_at on e step n top =
    let l = layout on in
    record { code = λ pc p. two pc (step_code l step pc p n (n + 3)) (λ pc1. back_code l e pc1 (p + length (step_places l step)) n top); places = step_places l step ++ test_places l e }

abbrev pub next_at : Scope → Bool → Option TExpr → Option TSimple → ℕ → ℕ → Silent
next_at on alone e step n top =
    let part = stepped_at on e step n top in
    record { code = λ pc p. live_code alone n pc (λ pc1. part.code pc1 p); places = part.places }

-- turns from one on; after a test; and with a test before them
abbrev pub turning_at : Scope → Option TExpr → Option TSimple → TStmt → Loop → Piece
turning_at on e step x it =
    let l = layout on in
    record { code = turning_code l on.answer it.wide it.exits e step x it.slot.number; places = stmt_places l x ++ (step_places l step ++ test_places l e); texts = stmt_texts x }

abbrev pub passed_at : Scope → Test → Option TExpr → Option TSimple → TStmt → Loop → Piece
passed_at on test e step x it =
    let turns = turning_at on e step x it in
    record { code = λ pc z. sift_code test.rate test.register.number pc it.slot.number (λ pc1. turns.code pc1 z); places = turns.places; texts = turns.texts }

abbrev pub entered_at : Scope → TExpr → Option TExpr → Option TSimple → TStmt → Loop → Piece
entered_at on test e step x it =
    let l = layout on in
    let n = it.slot.number in
    let turns = turning_at on e step x it in
    record {
      code = λ pc z. two pc (expr_code l test pc z.place n (n + 3))
          (λ pc1. sift_code (type_of test).rate (found l test (n + 3)) pc1 n (λ pc2. turns.code pc2 (past (expr_places l test) z)));
      places =
          expr_places l test ++ turns.places;
      texts = turns.texts;
    }

-- a `while`, and a `for` after its first part
abbrev pub turns_at : Scope → Form → Option TExpr → Option TSimple → TStmt → Spot → Piece
turns_at on f e step x spot =
    let l = layout on in
    record { code = λ pc z. turns_code l on.answer f e step x pc z (spot_of spot); places = test_places l e ++ (stmt_places l x ++ (step_places l step ++ test_places l e)); texts = stmt_texts x }

abbrev pub do_at : Scope → Form → TStmt → TExpr → Spot → Piece
do_at on f x e spot =
    let l = layout on in
    let n = spot.slot.number in
    record {
      code = λ pc z. do_code (is_wide f (type_of e).rate) (exits_of x) (type_of e).rate (found l e (n + 3)) pc (spot_of spot)
          (λ pc1. expr_code l e pc1 (test_place l x None z) n (n + 3)) (body_code l on.answer x n z);
      places = stmt_places l x
          ++ expr_places l e;
      texts = stmt_texts x;
    }

-- ---- bodies that run over sets of their own

abbrev pub unmasked_at : Scope → TBlock → Spot → Piece
unmasked_at on b spot =
    let l = layout on in
    record { code = λ pc z. unmasked_code spot.slot.number pc (λ pc1. block_code (outside l) on.answer b pc1 z (body_spot spot.slot.number)); places = block_places (outside l) b; texts = block_texts b }

abbrev pub active_at : Scope → ℕ → TStmt → Spot → Piece
active_at on i x spot =
    let l = layout on in
    let n = spot.slot.number in
    record { code = λ pc z. active_code (l.variable Uniform i) pc spot.masks.on.number n (λ pc1. stmt_code l on.answer x pc1 z (body_spot (n + 1))); places = stmt_places l x; texts = stmt_texts x }

-- the values, kept in slot n, and mask n for those whose turn is still to come: under mask k
abbrev pub kept_at : Scope → TExpr → ℕ → ℕ → Silent
kept_at on e k n =
    let l = layout on in
    record { code = λ pc p. operand_of l Varying e k n (expr_code l e pc p k n) ++ (copy Varying (l.spare Varying (elem_of e) n) (operand l Varying e n) k ∷ copy_mask n k ∷ []); places = expr_places l e }

abbrev pub unique_at : Scope → ℕ → TExpr → TStmt → Spot → Piece
unique_at on i e x spot =
    let l = layout on in
    let k = spot.masks.on.number in
    let n = spot.slot.number in
    record {
      code = λ pc z. unique_code (values_of l (elem_of e) i n) (operand_of l Varying e k n (expr_code l e pc z.place k n))
          (operand l Varying e n) pc k n (λ pc1. stmt_code l on.answer x pc1 (past (expr_places l e) z) (body_spot (n + 1)));
      places = expr_places l e
          ++ stmt_places l x;
      texts = stmt_texts x;
    }

-- ---- parts of a `for`

abbrev pub first_at : Scope → Option TFirst → ℕ → ℕ → Silent
first_at on x k n =
    record { code = λ pc p. first_code (layout on) x pc p k n; places = first_places (layout on) x }

abbrev pub step_at : Scope → Option TSimple → ℕ → Silent
step_at on x n =
    record { code = λ pc p. step_code (layout on) x pc p n (n + 3); places = step_places (layout on) x }

-- ---- `foreach`

-- what a range needs besides its index; the last one with its index; and the ranges from one on
abbrev pub sweep_asks : Sweep → Ask
sweep_asks it =
    let e = it.bounds.number in
    let m = it.place.number in
    let n = it.measures.number in
    let bounds = Both (spare_ask Uniform I64 e) (Both (Number (e + 1)) (spare_ask Uniform I64 (e + 1))) in
    let place = Both (spare_ask Uniform I64 m) (Both (Number (m + 1)) (Both (spare_ask Uniform I32 (m + 1)) (Both (spare_ask Uniform Truth (m + 1)) (spare_ask Uniform I64 (m + 1))))) in
    Both bounds (Both place (Both (spare_ask Uniform I64 n) (Both (Number (n + 1)) (spare_ask Uniform I64 (n + 1)))))

abbrev pub last_asks : ℕ → Sweep → Ask
last_asks i it =
    Both (Register Varying (Variable i) I32) (Both (spare_ask Varying I32 (it.place.number + 1))
    (Both (spare_ask Varying I32 it.measures.number)
    (Both (spare_ask Varying I32 (it.measures.number + 1)) (Both (Register Uniform Place I64) (Number (it.masks.number + 3))))))

abbrev pub sweeps_asks : List TRange → Sweep → Ask
sweeps_asks rs it =
    Both (measures_asks it.measures.number) (Both (bounds_asks rs it.bounds.number) (Both (places_asks rs it.place.number) (loop_asks it.masks.number)))

-- the first range of all, and the one inside another
abbrev pub first_sweep : Slot → List TRange → Sweep
first_sweep n rs =
    record { measures = n; masks = record { number = runs_slot n.number rs }; bounds = record { number = n.number + 1 + 1 }; place = record { number = places_slot n.number rs } }

abbrev pub inner_sweep : Sweep → Sweep
inner_sweep it =
    record { measures = it.measures; masks = it.masks; bounds = record { number = it.bounds.number + 1 + 1 }; place = record { number = it.place.number + 1 + 1 } }

-- the instructions of a range before the last: its beginning, its test, and its step, by what a slot has
abbrev pub range_begin : Layout → Sweep → Instr
range_begin l it = copy Uniform (wide l it.place.number) (wide l it.bounds.number) 0

abbrev pub place_test : Layout → Sweep → Instr
place_test l it = compare Uniform Less (test l (it.place.number + 1)) (wide l it.place.number) (wide l (it.bounds.number + 1)) 0

abbrev pub range_step : Layout → Sweep → ℕ → Instr
range_step l it by = compute Uniform plain.Add (wide l it.place.number) (wide l it.place.number) (wide l by) 0

-- the indices of ranges outside
abbrev pub index_codes : ℕ → List OuterIndex → List Instr
index_codes h = map (λ x. splat x.index.number x.value.number h)

-- the last range: its beginning, with its place in a register; all indices of a run; its full runs after the test of the first, its last
-- run, and all of it
abbrev pub runs_begin : Layout → Sweep → ℕ → List Instr
runs_begin l it x =
    let m = it.place.number in
    copy Uniform x (wide l it.bounds.number) 0 ∷ last_full l it.bounds.number m it.measures.number ∷ full_test l x m ∷ []

abbrev pub indices_at : Layout → ℕ → List OuterIndex → Sweep → List Instr
indices_at l i set it =
    let h = it.masks.number in
    index_codes h set ++ last_index l i (run_place l (l.loaded i) it.place.number) it.place.number it.measures.number h

abbrev pub full_at : Scope → ℕ → TStmt → List OuterIndex → Sweep → Piece
full_at on i x set it =
    let l = layout on in
    let h = it.masks.number in
    record {
      code = λ pc z. full_code l (goes_on (l.loaded i) set) (all_go_on x) (indices_at l i set it) i
          (run_place l (l.loaded i) it.place.number) it.place.number it.measures.number h
          (body_code (within l i) on.answer x h z) pc;
      places = stmt_places (within l i) x;
      texts = stmt_texts x;
    }

abbrev pub rest_at : Scope → ℕ → TStmt → List OuterIndex → Sweep → Piece
rest_at on i x set it =
    let l = layout on in
    let h = it.masks.number in
    record {
      code = λ pc z. rest_run l (indices_at l i set it) (run_place l (l.loaded i) it.place.number) it.bounds.number h
          (body_code (within l i) on.answer x h z) pc;
      places = stmt_places (within l i) x;
      texts = stmt_texts x;
    }

abbrev pub last_range_at : Scope → ℕ → TStmt → List OuterIndex → Sweep → Piece
last_range_at on i x set it =
    let l = layout on in
    let h = it.masks.number in
    let lb = within l i in
    record {
      code = λ pc z. runs_code l (l.loaded i) (index_codes h set) i it.bounds.number it.place.number it.measures.number h
          (run_bodies lb on.answer x h z) pc;
      places = stmt_places lb x
          ++ stmt_places lb x;
      texts = stmt_texts x ++ stmt_texts x;
    }

-- the ranges from one on; after the beginning of a turn of the first of them; and the whole
abbrev pub ranges_at : Scope → List TRange → TStmt → List OuterIndex → Sweep → Piece
ranges_at on rs x set it =
    let l = layout on in
    let h = it.masks.number in
    let lb = body_layout l rs in
    record { code = λ pc z. ranges_code l it.measures.number h (run_bodies lb on.answer x h z) rs (index_codes h set) it.bounds.number it.place.number pc; places = stmt_places lb x ++ stmt_places lb x; texts = stmt_texts x ++ stmt_texts x }

abbrev pub outer_turn_code : Layout → ℕ → ℕ → RunBodies → List TRange → List Instr → ℕ → ℕ → ℕ → List Instr
outer_turn_code l n h body [] set e m pc = []
outer_turn_code l n h body (r ∷ rs) set e m pc =
    convert Uniform (narrow l (m + 1)) (wide l m) 0 ∷ ranges_code l n h body rs (set ++ outer_index l r.index (m + 1) h ∷ []) (e + 1 + 1) (m + 1 + 1) (pc + 1)

abbrev pub outer_turn_at : Scope → List TRange → TStmt → List OuterIndex → Sweep → Piece
outer_turn_at on rs x set it =
    let l = layout on in
    let h = it.masks.number in
    let lb = body_layout l rs in
    record { code = λ pc z. outer_turn_code l it.measures.number h (run_bodies lb on.answer x h z) rs (index_codes h set) it.bounds.number it.place.number pc; places = stmt_places lb x ++ stmt_places lb x; texts = stmt_texts x ++ stmt_texts x }

abbrev pub foreach_at : Scope → List TRange → TStmt → Spot → Piece
foreach_at on rs x spot =
    let l = layout on in
    let n = spot.slot.number in
    let lb = body_layout l rs in
    record {
      code = λ pc z. foreach_code l rs pc z.place spot.masks.on.number n
          (run_bodies lb on.answer x (runs_slot n rs) (past (ranges_places l rs) z));
      places = ranges_places l rs
          ++ (stmt_places lb x ++ stmt_places lb x);
      texts = stmt_texts x ++ stmt_texts x;
    }
