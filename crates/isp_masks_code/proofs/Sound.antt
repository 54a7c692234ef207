-- Each instruction of the code of a statement has its operands.
use Rattle.std.proofs.Common.{◌≡◌, ℕ, ◌+◌, ◌<◌, ◌≤◌, List, [], ◌∷◌, ◌++◌, length, Option, Some, None, Bool, true, false, refl, sym, ap, ◌∙◌, subst, arith, length-append}
use Rattle.isp_base.specs.Ranks.{operand as worked}
use Rattle.isp_base.specs.declared.types.Rate.{Rate}
use Rattle.isp_base.specs.declared.types.Rate.TheVariants.{Uniform, Varying}
use Rattle.isp_base.specs.declared.types.Elem.TheVariants.{Bool as Truth}
use Rattle.isp_base.specs.declared.types.Ty.{Ty}
use Rattle.isp_code.specs.Fine.{IsThere, IsGiven}
use Rattle.isp_code.specs.Listing.{Listing, Routine}
use Rattle.isp_code.specs.Registers.{elem_of}
use Rattle.isp_code.specs.declared.instr.Instr.{Instr}
use Rattle.isp_code.specs.declared.instr.Instr.TheVariants as instr
use Rattle.isp_tree.specs.declared.stmt.Form.{Form}
use Rattle.isp_tree.specs.declared.stmt.Form.TheVariants.{Plain, Coherent}
use Rattle.isp_tree.specs.declared.stmt.Jump.{Jump}
use Rattle.isp_tree.specs.declared.stmt.Jump.TheVariants.{Break, Continue}
use Rattle.isp_typed.specs.Typed.{TExpr, type_of, elem_of as type_elem, TSimple, TFirst, t_first_declare, t_first_simple, TStmt, t_block, t_declare, t_simple, t_if, t_if_else, t_while, t_do, t_for, t_foreach}
use Rattle.isp_typed.specs.Typed.{t_foreach_active, t_foreach_unique, t_unmasked, t_jump, t_return, t_print, t_assert, TBlock, t_braces, TStmts, t_no_stmts, t_stmt_then, TFunction, TRange}
use Rattle.isp_lower_code.specs.Code.{expr_code}
use Rattle.isp_lower_code.specs.Found.{found, operand, operand_of}
use Rattle.isp_lower_code.specs.Instructions.{jump_off, copy}
use Rattle.isp_lower_code.specs.Pieces.{guard}
use Rattle.isp_lower_code.specs.Spans.{expr_places}
use Rattle.isp_lower_code.specs.Layout.{Layout, class_at, register, outside}
use Rattle.isp_lower_code.specs.RowCode.{row_index_asks}
use Rattle.isp_lower_code.specs.RowLayout.{KnownRows}
use Rattle.isp_steady.specs.Indices.{indices_of, known_indices}
use Rattle.isp_masks_code.specs.Exits.{exits_of, all_go_on, both_go_on, leaving_of}
use Rattle.isp_masks_code.specs.Fors.{first_code, step_code, first_places, step_places}
use Rattle.isp_masks_code.specs.Loops.{endless_code, for_code, is_wide, jump_all, no_code}
use Rattle.isp_masks_code.specs.Ranges.{places_slot, ranges_places, runs_slot, set_bodies}
use Rattle.isp_masks_code.specs.Rounds.{values_of}
use Rattle.isp_masks_code.specs.Sets.{unite, leave_code, jump_code, jumped_code}
use Rattle.isp_masks_code.specs.declared.exits.Leaving.{Leaving}
use Rattle.isp_masks_code.specs.declared.exits.Leaving.TheVariants.{Never, Always, Maybe}
use Rattle.isp_masks_code.specs.Spots.{Numbers, Spot, body_spot, first_spot, past, under, widely}
use Rattle.isp_masks_code.specs.Statements.{behind, run_bodies, rest_code, parted_code, kept_code, both_kept_code, left_code, wide_code, if_code, if_else_code, answer_code, returned, stmt_places, block_places, stmts_places, stmt_texts, block_texts, stmts_texts, stmt_code, block_code, stmts_code, function_code, body_layout, test_place}
use Rattle.isp_masks_code.specs.Asks.{unique_asks, part_asks, first_asks, step_asks, answer_asks, block_asks, stmt_asks, stmts_asks}
use Rattle.isp_lower_code.specs.Sound.{AreSound, Links, PartSound, IsRegister, Granted, ExprPresent, HasRegister, HasArray, HasLocal, HasMask}
use Rattle.isp_lower_code.proofs.Lemmas.{found_there, operand_there, sound_both, copy_sound, here_then, value_sound, part_sound, simple_sound, items_sound, ExprTree, OperandTree, all_grow, granted_known, known_rows}
use Rattle.isp_masks_code.proofs.Combine.{part_spot}
use Rattle.isp_masks_code.proofs.SoundRanges.{foreach_sound, set_sound}
use Rattle.isp_masks_code.proofs.SoundLoops.{HereSound, ValuesThere, whole, active_sound, unique_sound, unmasked_sound, guard_sound, two_sound, for_sound, endless_sound, turned_sound}
use Rattle.isp_masks_code.specs.Keeping.{Each, constants_asks, constants_code}
use Rattle.isp_masks_code.proofs.ConstantsSound.{constants_sound}
use Rattle.isp_masks_code.proofs.SoundAsserts.{assert_sound}
use Rattle.isp_masks_code.proofs.SoundPrints.{print_sound}
use Rattle.isp_masks_code.proofs.Trees.{AnswerTree, BlockTree, FirstTree, StepTree, StmtTree, StmtsTree}
use Rattle.isp_masks_code.proofs.Bodies.{body_as, known_as, run_as}
use Rattle.isp_lower_code.specs.Rows.{Name, Variable, Result, Spare, Place, Fresh, Kept}
use Rattle.isp_lower_code.specs.Tables.{AnyArray, IsLoadedIn}
use Rattle.isp_lower_code.specs.Asks.{All, Ask}
use Rattle.isp_lower_code.specs.declared.constant.Constant.{Constant}
use Rattle.isp_base.specs.declared.types.Elem.{Elem}

module _ (code : Listing) (h : Routine) where
  leave_sound : (m k : ℕ) → m < h.masks → k < h.masks → AreSound code h (leave_code m k)
  leave_sound m k lm lk = ((((refl, lm), ((refl, lm), ((refl, lk), tt))), tt), ((((refl, lk), tt), tt), tt))

  jump_sound : (j : Jump) (k co : ℕ) → k < h.masks → co < h.masks → AreSound code h (jump_code j k co)
  jump_sound Break k co lk lc = ((((refl, lk), tt), tt), tt)
  jump_sound Continue k co lk lc = leave_sound co k lc lk

  rest_sound : (b : Bool) (xs : TStmts) (k : ℕ) (part : ℕ → List Instr) → k < h.masks → HereSound code h part → HereSound code h (λ pc. rest_code b xs k pc part)
  rest_sound true xs k part there f pc lt = f pc lt
  rest_sound false t_no_stmts k part there f pc lt = tt
  rest_sound false (t_stmt_then x xs) k part there f pc lt = guard_sound code h k part there f pc lt

  -- ---- choices

  parted_sound : (x k n : ℕ) (first rest : ℕ → List Instr) → k < h.masks → n < h.masks → IsThere h (class_at Varying) (register Varying x)
      → elem_of h (register Varying x) ≡ Truth → HereSound code h first → HereSound code h rest
      → HereSound code h (λ pc. parted_code x pc k n first rest)
  parted_sound x k n first rest lk ln there bool f g pc lt =
      let side = guard (jump_off n) (pc + 1 + 1) first in
      let p2 = pc + 1 + 1 + length side in
      let e1 = length-append side (rest p2 ++ unite k n k ∷ []) in
      let e2 = length-append (rest p2) (unite k n k ∷ []) in (
        (((refl, ln), ((there, bool), ((refl, lk), tt))), tt),
        (
          (((refl, lk), ((refl, lk), ((refl, ln), tt))), tt),
          sound_both code h side (rest p2 ++ unite k n k ∷ [])
              (guard_sound code h n first ln f (pc + 1 + 1) (omega (arith, e1, e2, lt)))
              (sound_both code h (rest p2) (unite k n k ∷ []) (g p2 (omega (arith, e1, e2, lt)))
              ((((refl, lk), ((refl, ln), ((refl, lk), tt))), tt), tt)),
        ),
      )

  kept_sound : (x k n : ℕ) (first : ℕ → List Instr) → k < h.masks → n < h.masks → IsThere h (class_at Varying) (register Varying x) → elem_of h (register Varying x) ≡ Truth → HereSound code h first → HereSound code h (λ pc. kept_code x pc k n first)
  kept_sound x k n first lk ln there bool f pc lt = ((((refl, ln), ((there, bool), ((refl, lk), tt))), tt), guard_sound code h n first ln f (pc + 1) (omega (arith, lt)))

  both_kept_sound : (x k n : ℕ) (first other : ℕ → List Instr) → k < h.masks → n < h.masks → n + 1 < h.masks
      → IsThere h (class_at Varying) (register Varying x) → elem_of h (register Varying x) ≡ Truth → HereSound code h first → HereSound code h other
      → HereSound code h (λ pc. both_kept_code x pc k n first other)
  both_kept_sound x k n first other lk ln ls there bool f g pc lt =
      let side = guard (jump_off n) (pc + 1 + 1) first in
      let p2 = pc + 1 + 1 + length side in
      let last = guard (jump_off (n + 1)) p2 other in
      let e = length-append side last in (
        (((refl, ln), ((there, bool), ((refl, lk), tt))), tt),
        (
          (((refl, ls), ((refl, lk), ((refl, ln), tt))), tt),
          sound_both code h side last
              (guard_sound code h n first ln f (pc + 1 + 1) (omega (arith, e, lt))) (guard_sound code h (n + 1) other ls g p2 (omega (arith, e, lt))),
        ),
      )

  left_sound : (j : Jump) (x k co n : ℕ) → k < h.masks → co < h.masks → n < h.masks → IsThere h (class_at Varying) (register Varying x) → elem_of h (register Varying x) ≡ Truth → AreSound code h (left_code j x k co n)
  left_sound j x k co n lk lc ln there bool = ((((refl, ln), ((there, bool), ((refl, lk), tt))), tt), ((((refl, lk), ((refl, lk), ((refl, ln), tt))), tt), jumped j))
    where
      jumped : (i : Jump) → AreSound code h (jumped_code i n co)
      jumped Break = tt
      jumped Continue = ((((refl, lc), ((refl, lc), ((refl, ln), tt))), tt), tt)

  -- in a c-form
  wide_sound : (x k n : ℕ) (first rest : ℕ → List Instr) → k < h.masks → n < h.masks → n + 1 < h.masks
      → IsThere h (class_at Varying) (register Varying x) → elem_of h (register Varying x) ≡ Truth → HereSound code h first → HereSound code h rest
      → HereSound code h (λ pc. wide_code x pc k n first rest)
  wide_sound x k n first rest lk ln ls there bool f g pc lt =
      let p1 = pc + 1 + 1 + 1 + 1 in
      let side = guard (jump_off k) p1 first in
      let p2 = p1 + length side in
      let join = rest (p2 + 1) ++ unite k k (n + 1) ∷ [] in
      let last = jump_all n (p2 + 1 + length join) ∷ join in
      let e1 = length-append side last in
      let e2 = length-append (rest (p2 + 1)) (unite k k (n + 1) ∷ []) in
      let begin = sound_both code h side last (guard_sound code h k first lk f p1 (omega (arith, e1, e2, lt))) (
        (((refl, ln), (omega (arith, e1, e2, lt), tt)), tt),
        sound_both code h (rest (p2 + 1)) (unite k k (n + 1) ∷ [])
            (g (p2 + 1) (omega (arith, e1, e2, lt))) ((((refl, lk), ((refl, lk), ((refl, ls), tt))), tt), tt),
      ) in
      ((((refl, ln), ((there, bool), ((refl, lk), tt))), tt), ((((refl, ln), (omega (arith, e1, e2, lt), tt)), tt), ((((refl, ls), ((refl, lk), ((refl, ln), tt))), tt), ((((refl, lk), ((refl, ln), tt)), tt), begin))))

  -- the three masks are there
  abbrev HasMasks : Spot → Type 0
  HasMasks spot = (spot.on < h.masks) × (spot.continued < h.masks) × (spot.returned < h.masks)

  -- a part that may be asked for any mask
  abbrev AnySound : Form → Rate → Spot → (ℕ → Spot → List Instr) → Type 0
  AnySound b r spot part = (pc m : ℕ) → m < h.masks → pc + length (part pc (part_spot b r m spot)) < length h.code → AreSound code h (part pc (part_spot b r m spot))

  -- a test: a bool; a varying one has a mask, in a c-form two
  record TestThere (l : Layout) (b : Form) (e : TExpr) (n : ℕ) : Type 0 where
    there : IsRegister h (type_of e).rate (found l e n) Truth
    mask : Granted h l (part_asks b (type_of e).rate n)

  if_sound : (l : Layout) (v : Leaving) (b : Form) (e : TExpr) (spot : Spot) (first : ℕ → Spot → List Instr) → spot.on < h.masks
      → spot.continued < h.masks → TestThere l b e spot.slot → AnySound b (type_of e).rate spot first
      → HereSound code h (λ pc. if_code v b (type_of e).rate (found l e spot.slot) pc spot first)
  if_sound l v b e spot first lk lc test f = go v b (type_of e).rate refl test.there.0 test.there.1 test.mask f
    where
      k : ℕ
      k = spot.on

      n : ℕ
      n = spot.slot

      go : (o : Leaving) (form : Form) (r : Rate) → (type_of e).rate ≡ r → IsThere h (class_at r) (register r (found l e n))
          → elem_of h (register r (found l e n)) ≡ Truth → Granted h l (part_asks form r n) → AnySound form r spot first
          → HereSound code h (λ pc. if_code o form r (found l e n) pc spot first)
      go o form Uniform er there bool mask f pc lt = ((((there, bool), (omega arith, tt)), tt), f (pc + 1) k lk (omega arith))
      go o Coherent Varying er there bool mask f pc lt = wide_sound (found l e n) k n (λ pc1. first pc1 (widely k spot)) (λ pc1. []) lk mask.0.1 mask.1.1 there bool (λ pc1 lt1. f pc1 k lk lt1) (λ pc1 lt1. tt) pc lt
      go Never Plain Varying er there bool mask f pc lt = kept_sound (found l e n) k n (λ pc1. first pc1 (under n spot)) lk mask.1 there bool (λ pc1 lt1. f pc1 n mask.1 lt1) pc lt
      go (Always j) Plain Varying er there bool mask f pc lt = left_sound j (found l e n) k spot.continued n lk lc mask.1 there bool
      go Maybe Plain Varying er there bool mask f pc lt = parted_sound (found l e n) k n (λ pc1. first pc1 (under n spot)) (λ pc1. []) lk mask.1 there bool (λ pc1 lt1. f pc1 n mask.1 lt1) (λ pc1 lt1. tt) pc lt

  if_else_sound : (l : Layout) (v : Bool) (b : Form) (e : TExpr) (spot : Spot) (first second : ℕ → Spot → List Instr) → spot.on < h.masks
      → TestThere l Coherent e spot.slot → AnySound Coherent (type_of e).rate spot first → AnySound Coherent (type_of e).rate spot second
      → HereSound code h (λ pc. if_else_code v b (type_of e).rate (found l e spot.slot) pc spot first second)
  if_else_sound l v b e spot first second lk test f g = go v b (type_of e).rate refl test.there.0 test.there.1 test.mask f g
    where
      k : ℕ
      k = spot.on

      n : ℕ
      n = spot.slot

      go : (o : Bool) (form : Form) (r : Rate) → (type_of e).rate ≡ r → IsThere h (class_at r) (register r (found l e n))
          → elem_of h (register r (found l e n)) ≡ Truth → Granted h l (part_asks Coherent r n) → AnySound Coherent r spot first
          → AnySound Coherent r spot second → HereSound code h (λ pc. if_else_code o form r (found l e n) pc spot first second)
      go o form Uniform er there bool mask f g pc lt =
          let ca = first (pc + 1) spot in
          let pb = pc + 1 + length ca + 1 in
          let cb = second pb spot in
          let e1 = length-append ca (instr.Jump (pb + length cb) ∷ cb) in
          ((((there, bool), (omega (arith, e1, lt), tt)), tt), sound_both code h ca (instr.Jump (pb + length cb) ∷ cb) (f (pc + 1) k lk (omega (arith, e1, lt))) (((omega (arith, e1, lt), tt), tt), g pb k lk (omega (arith, e1, lt))))
      go o Coherent Varying er there bool mask f g pc lt =
          wide_sound (found l e n) k n (λ pc1. first pc1 (widely k spot))
          (λ pc1. guard (jump_off (n + 1)) pc1 (λ pc2. second pc2 (widely (n + 1) spot))) lk mask.0.1 mask.1.1 there bool
          (λ pc1 lt1. f pc1 k lk lt1) (guard_sound code h (n + 1) (λ pc2. second pc2 (widely (n + 1) spot)) mask.1.1
          (λ pc2 lt2. g pc2 (n + 1) mask.1.1 lt2)) pc lt
      go true Plain Varying er there bool mask f g pc lt =
          both_kept_sound (found l e n) k n (λ pc1. first pc1 (widely n spot)) (λ pc1. second pc1 (widely (n + 1) spot)) lk mask.0.1 mask.1.1 there bool (λ pc1 lt1. f pc1 n mask.0.1 lt1) (λ pc1 lt1. g pc1 (n + 1) mask.1.1 lt1) pc lt
      go false Plain Varying er there bool mask f g pc lt =
          parted_sound (found l e n) k n (λ pc1. first pc1 (widely n spot)) (λ pc1. guard (jump_off k) pc1 (λ pc2. second pc2 (widely k spot))) lk
          mask.0.1 there bool (λ pc1 lt1. f pc1 n mask.0.1 lt1)
          (guard_sound code h k (λ pc2. second pc2 (widely k spot)) lk (λ pc2 lt2. g pc2 k lk lt2)) pc lt

  -- ---- statements

  module _ (fs : List TFunction) (l : Layout) (links : Links fs code h l) (answer : Option Ty) where
    test_there : (b : Form) (e : TExpr) (n : ℕ) → ExprTree fs e → (type_of e).elem ≡ Truth → ExprPresent h l e n → Granted h l (part_asks b (type_of e).rate n) → TestThere l b e n
    test_there b e n is bool f mask = let x = found_there fs h l links.constants e n is f in record { there = (x.0, x.1 ∙ bool); mask = mask }

    -- the parts of a `for` that may be left out
    first_sound : (o : Option TFirst) (n : ℕ) → FirstTree fs o → Granted h l (first_asks o n) → PartSound code h (first_places l o) (λ pc p k. first_code l o pc p k n)
    first_sound None n is f pc p k lk pl lt = tt
    first_sound (Some (t_first_declare xs sp)) n is f pc p k lk pl lt = items_sound fs code h l links xs n is f pc p k lk pl lt
    first_sound (Some (t_first_simple x)) n is f pc p k lk pl lt = simple_sound fs code h l links x n is f pc p k lk pl lt

    step_sound : (o : Option TSimple) (n : ℕ) → StepTree fs o → Granted h l (step_asks o n) → PartSound code h (step_places l o) (λ pc p k. step_code l o pc p k n)
    step_sound None n is f pc p k lk pl lt = tt
    step_sound (Some x) n is f pc p k lk pl lt = simple_sound fs code h l links x n is f pc p k lk pl lt

    -- a value goes to the register of the result
    answer_sound : (a : Option Ty) (x : TExpr) (pc p k n : ℕ) → AnswerTree fs a x → Granted h l (answer_asks a x n) → k < h.masks
        → p + length (expr_places l x) ≤ length code.places → pc + length (answer_code l a x pc p k n) < length h.code
        → AreSound code h (answer_code l a x pc p k n)
    answer_sound None x pc p k n is f lk pl lt = value_sound fs code h l links x n is f pc p k lk pl lt
    answer_sound (Some t) x pc p k n is f lk pl lt =
        here_then code h pc (operand_of l t.rate x k n (expr_code l x pc p k n)) (copy t.rate (l.result t.rate) (operand l t.rate x n) k)
        (part_sound fs code h l links t.rate t.elem x pc p k n is.0 is.1 f.1 lk pl)
        (copy_sound code h t.rate t.elem (l.result t.rate) (operand l t.rate x n) k f.0
        (operand_there fs h l links.constants t.rate t.elem x n is.0 is.1 f.1) lk) lt

  -- which variable counts the lanes of a run is no matter to what is there
  register_same : (l : Layout) (o : Option ℕ) (d : Bool) (r : Rate) (x : Name) (t : Elem) → HasRegister h l r x t → HasRegister h (run_as l o d) r x t
  register_same l o d r (Variable v) t f = f
  register_same l o d r Result t f = f
  register_same l o d r (Spare u j) t f = f
  register_same l o d r Place t f = f
  register_same l o d r (Fresh j) t f = f
  register_same l o d r (Kept u b) t f = f

  granted_same : (l : Layout) (o : Option ℕ) (d : Bool) (a : Ask) → Granted h l a → Granted h (run_as l o d) a
  granted_same l o d a f =
      all_grow (HasRegister h l) (HasRegister h (run_as l o d)) (HasArray h l) (HasArray h (run_as l o d)) (HasLocal h l) (HasLocal h (run_as l o d))
      (HasMask h) (HasMask h) (IsLoadedIn l) (IsLoadedIn l) (λ r x t. register_same l o d r x t) (λ y f. f) (λ y f. f) (λ k f. f) (λ v f. f) a f

  links_same : (fs : List TFunction) (l : Layout) (o : Option ℕ) (d : Bool) → Links fs code h l → Links fs code h (run_as l o d)
  links_same fs l o d links = record {
    rates = links.rates;
    headers = links.headers;
    constants = links.constants;
    rows = λ vars i n fine rated is. absurd (cc);
    sets = λ rs is. let s = links.sets rs is in record { singles = s.singles; there = λ i n e. granted_same l o d (row_index_asks i n) (s.there i n e) };
  }

  -- where indices are known
  links_known : (fs : List TFunction) (l : Layout) (rs : List TRange) (o : Option ℕ) (d : Bool) → Links fs code h l → l.sets rs ≡ true → Links fs code h (known_as l rs o d)
  links_known fs l rs o d links is =
      let rows : KnownRows = known_rows in
      rows.linked fs code h (run_as l o d) (known_indices (indices_of rs)) l.there (links_same fs l o d links) (λ i n e. granted_same l o d (row_index_asks i n) ((links.sets rs is).there i n e))

  granted_as : (l : Layout) (rs : List TRange) (o : Option ℕ) (d : Bool) (a : Ask) → Granted h l a → Granted h (known_as l rs o d) a
  granted_as l rs o d a f = granted_known (known_indices (indices_of rs)) l.there (run_as l o d) h a (granted_same l o d a f)

  -- the values of `foreach_unique`, and their registers
  any_operand : (t : Elem) (e : TExpr) → OperandTree Varying (worked t) e → OperandTree Varying (type_elem e) e
  any_operand t e is = record { elem = refl; reaches = is.reaches }

  values_there : (l : Layout) (i : ℕ) (t : Elem) (e : TExpr) (n : ℕ) → Granted h l (unique_asks i t e n) → ValuesThere code h (values_of l (type_elem e) i n) (type_elem e) t
  values_there l i t e n f =
      let two : n + 1 + 1 ≡ n + 2 = omega arith in
      let same = subst (λ j. IsRegister h Varying (l.spare Varying Truth j) Truth) two f.1.1.1.1.0.1.1.1 in
      record { all = f.1.0; one = f.1.1.1.1.0.0; each = f.1.1.1.1.0.1.0; same = same; index = f.1.1.0 }

  module _ (fs : List TFunction) (answer : Option Ty) where
    mutual
      pub stmt_sound : (x : TStmt) (l : Layout) (links : Links fs code h l) (pc : ℕ) (z : Numbers) (spot : Spot) → StmtTree fs answer x
          → Granted h l (stmt_asks answer x spot.slot) → HasMasks spot → z.place + length (stmt_places l x) ≤ length code.places
          → z.text + length (stmt_texts x) ≤ length code.texts → pc + length (stmt_code l answer x pc z spot) < length h.code
          → AreSound code h (stmt_code l answer x pc z spot)
      stmt_sound (t_block b) l links pc z spot is f lm pl tx lt = block_sound b l links pc z spot is f lm pl tx lt
      stmt_sound (t_declare xs sp) l links pc z spot is f lm pl tx lt = items_sound fs code h l links xs spot.slot is f pc z.place spot.on lm.0 pl lt
      stmt_sound (t_simple x sp) l links pc z spot is f lm pl tx lt = simple_sound fs code h l links x spot.slot is f pc z.place spot.on lm.0 pl lt
      stmt_sound (t_if b g e x sp) l links pc z spot is f lm pl tx lt =
          let n = spot.slot in
          let ce = expr_code l e pc z.place spot.on n in
          let pe = expr_places l e in
          let z1 = past pe z in
          let part = λ (pc2 : ℕ) (at : Spot). stmt_code l answer x pc2 z1 at in
          let rest = if_code (leaving_of x) b (type_of e).rate (found l e n) (pc + length ce) spot part in
          let e1 = length-append ce rest in
          let e2 = length-append pe (stmt_places l x) in
          sound_both code h ce rest (value_sound fs code h l links e n is.0 f.0 pc z.place spot.on lm.0 (omega (arith, e2, pl))
          (omega (arith, e1, lt))) (if_sound l (leaving_of x) b e spot part lm.0 lm.1 (test_there fs l links answer b e n is.0 is.2 f.0 f.1.0)
          (λ pc2 m low lt2. stmt_sound x l links pc2 z1 (part_spot b (type_of e).rate m spot) is.1 f.1.1 (low, lm.1, lm.2) (omega (arith, e2, pl))
          tx lt2) (pc + length ce) (omega (arith, e1, lt)))
      stmt_sound (t_if_else b g e x y sp) l links pc z spot is f lm pl tx lt =
          let n = spot.slot in
          let ce = expr_code l e pc z.place spot.on n in
          let pe = expr_places l e in
          let px = stmt_places l x in
          let z1 = past pe z in
          let part = λ (pc2 : ℕ) (at : Spot). stmt_code l answer x pc2 z1 at in
          let other = λ (pc2 : ℕ) (at : Spot). stmt_code l answer y pc2 (behind l x z1) at in
          let rest = if_else_code (both_go_on x y) b (type_of e).rate (found l e n) (pc + length ce) spot part other in
          let e1 = length-append ce rest in
          let e2 = length-append pe (px ++ stmt_places l y) in
          let e3 = length-append px (stmt_places l y) in
          let e4 = length-append (stmt_texts x) (stmt_texts y) in
          sound_both code h ce rest (value_sound fs code h l links e n is.0 f.0 pc z.place spot.on lm.0 (omega (arith, e2, pl))
          (omega (arith, e1, lt))) (if_else_sound l (both_go_on x y) b e spot part other lm.0
          (test_there fs l links answer Coherent e n is.0 is.3 f.0 f.1.0)
          (λ pc2 m low lt2. stmt_sound x l links pc2 z1 (part_spot Coherent (type_of e).rate m spot) is.1 f.1.1.0 (low, lm.1, lm.2)
          (omega (arith, e2, e3, pl)) (omega (arith, e4, tx)) lt2)
          (λ pc2 m low lt2. stmt_sound y l links pc2 (behind l x z1) (part_spot Coherent (type_of e).rate m spot) is.2 f.1.1.1 (low, lm.1, lm.2)
          (omega (arith, e2, e3, pl)) (omega (arith, e4, tx)) lt2) (pc + length ce) (omega (arith, e1, lt)))
      stmt_sound (t_while b g e x sp) l links pc z spot is f lm pl tx lt =
          let pe = expr_places l e in
          let px = stmt_places l x in
          let z1 = past pe z in
          let e1 = length-append pe (px ++ pe) in
          let e2 = length-append px pe in
          let n = spot.slot in
          let own : HasMasks (body_spot n) = (f.0.1.0, f.0.1.1.0, f.0.1.1.1) in
          let test = found_there fs h l links.constants e (n + 3) is.0.0 f.1.0 in
          let tests = λ (p pc1 : ℕ). expr_code l e pc1 p n (n + 3) in
          let fine = λ (p : ℕ) (low : p + length pe ≤ length code.places) (pc1 : ℕ) (lt1 : pc1 + length (tests p pc1) < length h.code). value_sound fs code h l links e (n + 3) is.0.0 f.1.0 pc1 p n own.0 low lt1 in
          let p2 = test_place l x None z1 in
          for_sound code h (exits_of x) spot lm.0 lm.2 own (is_wide b (type_of e).rate) (type_of e).rate (found l e (n + 3)) (tests p2) (λ pc1. stmt_code l answer x pc1 z1 (body_spot n)) no_code test.0 (test.1 ∙ is.0.1)
          (fine p2 (omega (arith, e1, e2, pl))) (λ pc1 lt1. stmt_sound x l links pc1 z1 (body_spot n) is.1 f.1.1 own (omega (arith, e1, e2, pl)) tx lt1) (λ pc1 lt1. tt) (tests z.place) (fine z.place (omega (arith, e1, pl))) pc lt
      stmt_sound (t_do b g x e sp) l links pc z spot is f lm pl tx lt =
          let px = stmt_places l x in
          let e2 = length-append px (expr_places l e) in
          let n = spot.slot in
          let own : HasMasks (body_spot n) = (f.0.1.0, f.0.1.1.0, f.0.1.1.1) in
          let test = found_there fs h l links.constants e (n + 3) is.0.0 f.1.1 in
          turned_sound code h (exits_of x) spot lm.0 lm.2 own (is_wide b (type_of e).rate) (type_of e).rate (found l e (n + 3))
          (λ pc1. expr_code l e pc1 (test_place l x None z) n (n + 3)) (λ pc1. stmt_code l answer x pc1 z (body_spot n)) no_code test.0
          (test.1 ∙ is.0.1)
          (λ pc1 lt1. value_sound fs code h l links e (n + 3) is.0.0 f.1.1 pc1 (test_place l x None z) n own.0 (omega (arith, e2, pl)) lt1)
          (λ pc1 lt1. stmt_sound x l links pc1 z (body_spot n) is.1 f.1.0 own (omega (arith, e2, pl)) tx lt1) (λ pc1 lt1. tt) pc lt
      stmt_sound (t_for b g first None step i x sp) l links pc z spot is f lm pl tx lt =
          let pf = first_places l first in
          let px = stmt_places l x in
          let ps = step_places l step in
          let z1 = past pf z in
          let e1 = length-append pf (px ++ (ps ++ [])) in
          let e2 = length-append px (ps ++ []) in
          let e3 = length-append ps [] in
          let n = spot.slot in
          let own : HasMasks (body_spot n) = (f.1.0.1.0, f.1.0.1.1.0, f.1.0.1.1.1) in
          let body = λ (pc1 : ℕ). stmt_code l answer x pc1 z1 (body_spot n) in
          let stepping = λ (pc1 : ℕ). step_code l step pc1 (z1.place + length px) n (n + 3) in
          two_sound code h (λ pc1. first_code l first pc1 z.place spot.on n) (λ pc1. endless_code (exits_of x) pc1 spot body stepping) (λ pc1 lt1. first_sound fs l links answer first n is.0 f.0 pc1 z.place spot.on lm.0 (omega (arith, e1, pl)) lt1)
          (endless_sound code h (exits_of x) spot lm.0 lm.2 own body stepping
          (λ pc1 lt1. stmt_sound x l links pc1 z1 (body_spot n) is.3 f.1.1.1.1 own (omega (arith, e1, e2, pl)) tx lt1)
          (λ pc1 lt1. step_sound fs l links answer step (n + 3) is.2 f.1.1.1.0 pc1 (z1.place + length px) n own.0 (omega (arith, e1, e2, e3, pl))
          lt1)) pc lt
      stmt_sound (t_for b g first (Some e) step i x sp) l links pc z spot is f lm pl tx lt =
          let pf = first_places l first in
          let pe = expr_places l e in
          let px = stmt_places l x in
          let ps = step_places l step in
          let z1 = past pf z in
          let z2 = past pe z1 in
          let e1 = length-append pf (pe ++ (px ++ (ps ++ pe))) in
          let e2 = length-append pe (px ++ (ps ++ pe)) in
          let e3 = length-append px (ps ++ pe) in
          let e4 = length-append ps pe in
          let n = spot.slot in
          let own : HasMasks (body_spot n) = (f.1.0.1.0, f.1.0.1.1.0, f.1.0.1.1.1) in
          let test = found_there fs h l links.constants e (n + 3) is.1.0 f.1.1.0 in
          let tests = λ (p pc1 : ℕ). expr_code l e pc1 p n (n + 3) in
          let fine = λ (p : ℕ) (low : p + length pe ≤ length code.places) (pc1 : ℕ) (lt1 : pc1 + length (tests p pc1) < length h.code). value_sound fs code h l links e (n + 3) is.1.0 f.1.1.0 pc1 p n own.0 low lt1 in
          let p2 = test_place l x step z2 in
          let body = λ (pc1 : ℕ). stmt_code l answer x pc1 z2 (body_spot n) in
          let stepping = λ (pc1 : ℕ). step_code l step pc1 (z2.place + length px) n (n + 3) in
          two_sound code h (λ pc1. first_code l first pc1 z.place spot.on n)
          (λ pc1. for_code (is_wide b (type_of e).rate) (exits_of x) (type_of e).rate (found l e (n + 3)) pc1 spot (tests z1.place) (tests p2)
          body stepping) (λ pc1 lt1. first_sound fs l links answer first n is.0 f.0 pc1 z.place spot.on lm.0 (omega (arith, e1, pl)) lt1)
          (for_sound code h (exits_of x) spot lm.0 lm.2 own (is_wide b (type_of e).rate) (type_of e).rate (found l e (n + 3)) (tests p2) body stepping
          test.0 (test.1 ∙ is.1.1) (fine p2 (omega (arith, e1, e2, e3, e4, pl)))
          (λ pc1 lt1. stmt_sound x l links pc1 z2 (body_spot n) is.3 f.1.1.1.1 own (omega (arith, e1, e2, e3, pl)) tx lt1)
          (λ pc1 lt1. step_sound fs l links answer step (n + 3) is.2 f.1.1.1.0 pc1 (z2.place + length px) n own.0
          (omega (arith, e1, e2, e3, e4, pl)) lt1)
          (tests z1.place) (fine z1.place (omega (arith, e1, e2, pl)))) pc lt
      stmt_sound (t_foreach w g rs x sp) l links pc z spot is f lm pl tx lt =
          let n = spot.slot in
          let k = runs_slot n rs in
          let pr = ranges_places l rs in
          let lb = body_layout l rs in
          let px = stmt_places lb x in
          let z1 = past pr z in
          let z2 = behind lb x z1 in
          let e1 = length-append pr (px ++ px) in
          let e2 = length-append px px in
          let t1 = length-append (stmt_texts x) (stmt_texts x) in
          let own : HasMasks (body_spot k) = (f.0.1.1.1.1.0, f.0.1.1.1.1.1.0, f.0.1.1.1.1.1.1) in
          let linked = body_as (λ m. Links fs code h m) l rs links (λ o d. links_same fs l o d links) (λ e o d. links_known fs l rs o d links e) in
          let granted = body_as (λ m. Granted h m (stmt_asks answer x (k + 3))) l rs f.1 (λ o d. granted_same l o d (stmt_asks answer x (k + 3)) f.1) (λ e o d. granted_as l rs o d (stmt_asks answer x (k + 3)) f.1) in
          let m = places_slot n rs in
          let some : 0 < h.masks = omega (arith, own.0) in
          foreach_sound code h l fs links rs z.place spot.on n (set_bodies l rs m (run_bodies lb answer x k z1)) is.1 f.0.0 f.0.1.0
          f.0.1.1.0 lm.0 own.0 (omega (arith, e1, pl))
          (set_sound code h l fs links rs m (λ pc1. stmt_code lb answer x pc1 z1 (body_spot k)) f.0.1.1.0 some
          (λ pc1 lt1. stmt_sound x lb linked pc1 z1 (body_spot k) is.2 granted own (omega (arith, e1, e2, pl)) (omega (arith, t1, tx)) lt1))
          (set_sound code h l fs links rs m (λ pc1. stmt_code lb answer x pc1 z2 (body_spot k)) f.0.1.1.0 some
          (λ pc1 lt1. stmt_sound x lb linked pc1 z2 (body_spot k) is.2 granted own (omega (arith, e1, e2, pl)) (omega (arith, t1, tx)) lt1)) pc lt
      stmt_sound (t_foreach_active w g i x sp) l links pc z spot is f lm pl tx lt =
          let n = spot.slot in
          let own : HasMasks (body_spot (n + 1)) = (f.0.1.1.1.1.0, f.0.1.1.1.1.1.0, f.0.1.1.1.1.1.1) in
          active_sound code h (l.variable Uniform i) spot.on n (λ pc1. stmt_code l answer x pc1 z (body_spot (n + 1))) f.0.0 lm.0 f.0.1.1.0 own.0 (λ pc1 lt1. stmt_sound x l links pc1 z (body_spot (n + 1)) is f.1 own pl tx lt1) pc lt
      stmt_sound (t_foreach_unique w g i t e x sp) l links pc z spot is f lm pl tx lt =
          let k = spot.on in
          let n = spot.slot in
          let u = type_elem e in
          let pe = expr_places l e in
          let e1 = length-append pe (stmt_places l x) in
          let own : HasMasks (body_spot (n + 1)) = (f.0.1.1.1.1.1.1.1.0, f.0.1.1.1.1.1.1.1.1.0, f.0.1.1.1.1.1.1.1.1.1) in
          let tree : OperandTree Varying u e = any_operand t e is.0 in
          let there = operand_there fs h l links.constants Varying u e n tree is.1 f.0.0 in
          let values = λ (pc1 : ℕ). operand_of l Varying e k n (expr_code l e pc1 z.place k n) in
          let body = λ (pc1 : ℕ). stmt_code l answer x pc1 (past pe z) (body_spot (n + 1)) in
          unique_sound code h (values_of l u i n) u t values (operand l Varying e n) k n body (λ same. whole t (sym is.0.elem ∙ same)) (values_there l i t e n f.0) there lm.0 f.0.1.1.1.1.1.0 own.0
          (λ pc1 lt1. part_sound fs code h l links Varying u e pc1 z.place k n tree is.1 f.0.0 lm.0 (omega (arith, e1, pl)) lt1)
          (λ pc1 lt1. stmt_sound x l links pc1 (past pe z) (body_spot (n + 1)) is.2 f.1 own (omega (arith, e1, pl)) tx lt1) pc lt
      stmt_sound (t_unmasked w b sp) l links pc z spot is f lm pl tx lt =
          let n = spot.slot in
          let own : HasMasks (body_spot n) = (f.0.1.0, f.0.1.1.0, f.0.1.1.1) in
          unmasked_sound code h n (λ pc1. block_code (outside l) answer b pc1 z (body_spot n)) own.0
          (λ pc1 lt1. block_sound b (outside l) (links_same fs l l.run false links) pc1 z (body_spot n) is
          (granted_same l l.run false (block_asks answer b (n + 3)) f.1) own pl tx lt1) pc lt
      stmt_sound (t_jump j w sp) l links pc z spot is f lm pl tx lt = jump_sound j spot.on spot.continued lm.0 lm.1
      stmt_sound (t_return w None sp) l links pc z spot is f lm pl tx lt = leave_sound spot.returned spot.on lm.2 lm.0
      stmt_sound (t_return w (Some x) sp) l links pc z spot is f lm pl tx lt =
          let ca = answer_code l answer x pc z.place spot.on spot.slot in
          sound_both code h ca (leave_code spot.returned spot.on)
          (answer_sound fs l links answer answer x pc z.place spot.on spot.slot is f lm.0 pl
          (omega (arith, length-append ca (leave_code spot.returned spot.on), lt))) (leave_sound spot.returned spot.on lm.2 lm.0)
      stmt_sound (t_print w text xs sp) l links pc z spot is f lm pl tx lt = print_sound code h l fs links text xs pc z.place z.text spot.on spot.slot is.1 f lm.0 pl tx lt
      stmt_sound (t_assert x c sp) l links pc z spot is f lm pl tx lt = assert_sound code h l fs links x c pc z.place spot.on spot.slot is.0 is.1 f lm.0 pl lt

      pub block_sound : (x : TBlock) (l : Layout) (links : Links fs code h l) (pc : ℕ) (z : Numbers) (spot : Spot) → BlockTree fs answer x
          → Granted h l (block_asks answer x spot.slot) → HasMasks spot → z.place + length (block_places l x) ≤ length code.places
          → z.text + length (block_texts x) ≤ length code.texts → pc + length (block_code l answer x pc z spot) < length h.code
          → AreSound code h (block_code l answer x pc z spot)
      block_sound (t_braces xs sp) l links pc z spot is f lm pl tx lt = stmts_sound xs l links pc z spot is f lm pl tx lt

      pub stmts_sound : (xs : TStmts) (l : Layout) (links : Links fs code h l) (pc : ℕ) (z : Numbers) (spot : Spot) → StmtsTree fs answer xs
          → Granted h l (stmts_asks answer xs spot.slot) → HasMasks spot → z.place + length (stmts_places l xs) ≤ length code.places
          → z.text + length (stmts_texts xs) ≤ length code.texts → pc + length (stmts_code l answer xs pc z spot) < length h.code
          → AreSound code h (stmts_code l answer xs pc z spot)
      stmts_sound t_no_stmts l links pc z spot is f lm pl tx lt = tt
      stmts_sound (t_stmt_then x xs) l links pc z spot is f lm pl tx lt =
          let ca = stmt_code l answer x pc z spot in
          let px = stmt_places l x in
          let part = λ (pc2 : ℕ). stmts_code l answer xs pc2 (behind l x z) spot in
          let rest = rest_code (all_go_on x) xs spot.on (pc + length ca) part in
          let e1 = length-append ca rest in
          let e2 = length-append px (stmts_places l xs) in
          let e3 = length-append (stmt_texts x) (stmts_texts xs) in
          sound_both code h ca rest (stmt_sound x l links pc z spot is.0 f.0 lm (omega (arith, e2, pl)) (omega (arith, e3, tx))
          (omega (arith, e1, lt))) (rest_sound (all_go_on x) xs spot.on part lm.0
          (λ pc2 lt2. stmts_sound xs l links pc2 (behind l x z) spot is.1 f.1 lm (omega (arith, e2, pl)) (omega (arith, e3, tx)) lt2)
          (pc + length ca) (omega (arith, e1, lt)))

-- a whole function: its body, and the return
pub function_sound : (fs : List TFunction) (code : Listing) (h : Routine) (l : Layout) → Links fs code h l
    → (answer : Option Ty) (ks : List Constant) (b : TBlock) (z : Numbers) → h.code ≡ function_code l answer ks b 0 z → BlockTree fs answer b
    → Granted h l (block_asks answer b 3) → Each (λ x. l.kept x.rate x.elem x.bits ≡ true) ks
    → All (HasRegister h l) AnyArray AnyArray (HasMask h) (IsLoadedIn l) (constants_asks 3 ks) → 3 ≤ h.masks
    → z.place + length (block_places l b) ≤ length code.places → z.text + length (block_texts b) ≤ length code.texts
    → IsGiven h h.returns (returned l answer) → AreSound code h h.code
function_sound fs code h l links answer ks b z is tree body kept spares masks places texts given =
    let ca = constants_code l 3 ks in
    let pc = 0 + length ca in
    let cb = block_code l answer b pc z first_spot in
    let last = instr.Return (returned l answer) ∷ [] in
    let size : length h.code ≡ length ca + length cb + 1 = ap length is ∙ length-append (ca ++ cb) last ∙ ap (λ m. m + 1) (length-append ca cb) in
    subst (AreSound code h) (sym is)
    (sound_both code h (ca ++ cb) last
    (sound_both code h ca cb (constants_sound code h l 3 links.constants ks kept spares)
    (block_sound code h fs answer b l links pc z first_spot tree body (omega (arith, masks), omega (arith, masks), omega (arith, masks)) places texts (omega (arith, size))))
    (((given, tt), tt), tt))
