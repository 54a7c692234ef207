-- From the clauses of the calls to what the code does: a function is begun, a tree is written, a register is taken, a return is added, and
-- the code is finished.
use Rattle.std.proofs.Common.{◌≡◌, ◌≤◌, ◌<◌, List, [], ◌∷◌, ◌++◌, length, Some, None, true, refl, ap, sym, subst, ◌∙◌, arith, append-nil, is_some}
use Rattle.std.specs.List.{list_all}
use Rattle.std.proofs.lemmas.Bool.{and_from}
use Rattle.std.proofs.lemmas.List.Folds.{list_all-append}
use Rattle.isp_base.specs.declared.types.Elem.TheVariants.{I32}
use Rattle.isp_base.specs.declared.types.Rate.TheVariants.{Uniform}
use Rattle.isp_code.specs.Writable.{constant_in}
use Rattle.isp_code.specs.declared.instr.Instr.{Instr}
use Rattle.isp_code.specs.declared.instr.Instr.TheVariants as instr
use Rattle.isp_code.specs.declared.register.Class.TheVariants as class
use Rattle.isp_emitter_laws.specs.Called.{FinishedIsWritten, IsFinished}
use Rattle.isp_emitter_laws.specs.Parts.{PartsStay, SamePart}
use Rattle.isp_emitter_laws.specs.Staying.{RegistersGrow}
use Rattle.isp_emitter_laws.specs.Written.{WrittenRuns}
use Rattle.isp_lower.specs.Adding.{Adds, FewMore, Takes, expr_in, layout_in, simple_in}
use Rattle.isp_lower.specs.Behind.{NextIsBehind}
use Rattle.isp_lower.specs.Drafts.{CanBeWritten, Draft, HasAllNamed, begun, draft_of, finished, first_draft, next_register, with_instr, with_register}
use Rattle.isp_lower.specs.Written.{Piece}
use Rattle.isp_lower.specs.declared.types.Emitter.{Emitter}
use Rattle.isp_lower_code.specs.Asked.{AsksAreFew, BeginsWith, CodeIsWritten, IsWritten, OwnIsThere}
use Rattle.isp_lower_code.specs.Asks.{Ask, expr_asks, simple_asks}
use Rattle.isp_lower_code.specs.Code.{expr_code}
use Rattle.isp_lower_code.specs.FirstRows.{Begins, first_rows}
use Rattle.isp_lower_code.specs.Found.{found}
use Rattle.isp_lower_code.specs.Header.{heading_of}
use Rattle.isp_lower_code.specs.Lines.{has_small_number}
use Rattle.isp_lower_code.specs.Named.{behind_named}
use Rattle.isp_lower_code.specs.Own.{HasOwn}
use Rattle.isp_lower_code.specs.Room.{HasNumbers, HasRoom, registers_asked}
use Rattle.isp_lower_code.specs.Rows.{Row, Rows}
use Rattle.isp_lower_code.specs.Runs.{Enters}
use Rattle.isp_lower_code.specs.Setting.{Setting}
use Rattle.isp_lower_code.specs.Simple.{simple_code, simple_places}
use Rattle.isp_lower_code.specs.Spans.{expr_places}
use Rattle.isp_registers.specs.Growth.{Grows}
use Rattle.isp_registers.specs.Reserved.{Has}
use Rattle.isp_tests_lower.specs.Runs.{AssignmentRuns, IsCallOf, SumRuns}
use Rattle.isp_tests_lower.specs.Stages.{NoneKept}
use Rattle.isp_tests_lower.specs.Trees.{IsFunction, assignment, site, sum, variables}
use Rattle.isp_tests_lower.proofs.Drafted.{assignment_is_fine, assignment_rated, assignment_short, sum_is_fine, sum_rated, sum_short}
use Rattle.isp_typed.specs.Fine.{FineExpr, FineSimple}
use Rattle.isp_typed.specs.Typed.{Program, TFunction}

-- ---- what is asked, of a function that begins

begins_all : (rows : Rows) → BeginsWith rows rows
begins_all rows = record { scalars = all rows.scalars; vectors = all rows.vectors; arrays = all rows.arrays }
  where
    all : (xs : List Row) → Begins xs xs
    all xs = record { more = []; is = sym (append-nil xs) }

sum_numbers : AsksAreFew → HasNumbers (expr_asks sum 3)
sum_numbers asks = asks.expr_numbers [] variables sum 3 (omega arith) (sum_is_fine []) (omega arith)

assignment_numbers : AsksAreFew → HasNumbers (simple_asks assignment 3)
assignment_numbers asks = asks.simple_numbers [] variables assignment 3 (omega arith) (assignment_is_fine []) (omega arith)

module _ (p : Program) (f : TFunction) (is : IsFunction variables f) (d : Draft) (begun_is : d ≡ begun f (first_draft p)) where
  rows_are : d.rows ≡ first_rows variables None
  rows_are = ap (λ (d : Draft). d.rows) begun_is ∙ ap (λ vs. first_rows vs f.answer) is.variables ∙ ap (first_rows variables) is.answer

  sum_own : OwnIsThere → HasOwn d.rows (expr_asks sum 3)
  sum_own own = subst (λ rows. HasOwn rows (expr_asks sum 3)) (sym rows_are) (own.exprs [] variables None (first_rows variables None) sum 3 (begins_all _) (sum_is_fine []))

  assignment_own : OwnIsThere → HasOwn d.rows (simple_asks assignment 3)
  assignment_own own =
      subst (λ rows. HasOwn rows (simple_asks assignment 3)) (sym rows_are) (own.simples [] variables None (first_rows variables None) assignment 3 (begins_all _) (assignment_is_fine []))

  room : (a : Ask) → registers_asked a ≤ 100 → HasRoom d.rows a
  room a few = rw rows_are (record { scalars = omega (arith, few); vectors = omega (arith, few); arrays = omega arith })

  sum_room : AsksAreFew → HasRoom d.rows (expr_asks sum 3)
  sum_room asks = room (expr_asks sum 3) (let few = asks.expr_registers sum 3 in omega (arith, few))

  assignment_room : AsksAreFew → HasRoom d.rows (simple_asks assignment 3)
  assignment_room asks = room (simple_asks assignment 3) (let few = asks.simple_registers assignment 3 in omega (arith, few))

  begun_mask : 0 < d.masks
  begun_mask = omega (arith, ap (λ (d : Draft). d.masks) begun_is)

  pub sum_takes : OwnIsThere → AsksAreFew → Takes d (expr_asks sum 3) site
  sum_takes own asks =
      record { begun = ap (λ (d : Draft). is_some d.heading) begun_is; own = sum_own own; mask = begun_mask; numbers = sum_numbers asks; room = sum_room asks }

  pub assignment_takes : OwnIsThere → AsksAreFew → Takes d (simple_asks assignment 3) site
  assignment_takes own asks =
      record { begun = ap (λ (d : Draft). is_some d.heading) begun_is; own = assignment_own own; mask = begun_mask; numbers = assignment_numbers asks; room = assignment_room asks }

  pub none_named : HasAllNamed d
  none_named = subst HasAllNamed (sym begun_is) tt

  -- the next register, when a tree was written
  pub next_few : NextIsBehind → (e : Draft) (a : Ask) → registers_asked a ≤ 100 → FewMore d e a → HasAllNamed e → next_register Uniform e < 4294967296
  next_few behind e a few more named =
      let begins = ap (λ (rows : Rows). length rows.scalars) rows_are in
      omega (arith, behind.registers e Uniform named, more.rows.scalars, few, begins)

pub sum_few : AsksAreFew → registers_asked (expr_asks sum 3) ≤ 100
sum_few asks = let few = asks.expr_registers sum 3 in omega (arith, few)

pub assignment_few : AsksAreFew → registers_asked (simple_asks assignment 3) ≤ 100
assignment_few asks = let few = asks.simple_registers assignment 3 in omega (arith, few)

-- ---- what becomes of the emitter, call by call

module _ (p : Program) (f : TFunction) (is : IsFunction variables f) (e1 e2 e3 e4 : Emitter) (piece : Piece) (begun_is : draft_of e1 ≡ begun f (first_draft p)) (adds : Adds e1 e2 piece)
    (fresh_is : draft_of e3 ≡ with_register Uniform I32 (draft_of e2)) (return_is : draft_of e4 ≡ with_instr (instr.Return None) (draft_of e3)) where
  code_is : (draft_of e4).code ≡ (draft_of e2).code ++ instr.Return None ∷ []
  code_is = ap (λ (d : Draft). d.code) return_is ∙ ap (λ (d : Draft). d.code ++ instr.Return None ∷ []) fresh_is

  -- a part that no call after the tree's changes
  stays : {A : Type 0} (part : Draft → A) → part (draft_of e4) ≡ part (draft_of e3) → part (draft_of e3) ≡ part (draft_of e2) → part (draft_of e2) ≡ part (draft_of e1)
      → part (draft_of e4) ≡ part (draft_of e1)
  stays part a b c = a ∙ b ∙ c

  heading_is : (draft_of e4).heading ≡ Some (heading_of f)
  heading_is = ap (λ (d : Draft). d.heading) return_is ∙ ap (λ (d : Draft). d.heading) fresh_is ∙ ap (λ (d : Draft). d.heading) adds.kept ∙ ap (λ (d : Draft). d.heading) begun_is

  routines_are : (draft_of e4).routines ≡ []
  routines_are = ap (λ (d : Draft). d.routines) return_is ∙ ap (λ (d : Draft). d.routines) fresh_is ∙ ap (λ (d : Draft). d.routines) adds.kept ∙ ap (λ (d : Draft). d.routines) begun_is

  texts_are : (draft_of e4).texts ≡ []
  texts_are = ap (λ (d : Draft). d.texts) return_is ∙ ap (λ (d : Draft). d.texts) fresh_is ∙ ap (λ (d : Draft). d.texts) adds.kept ∙ ap (λ (d : Draft). d.texts) begun_is

  places_are : (draft_of e4).places ≡ (draft_of e2).places
  places_are = ap (λ (d : Draft). d.places) return_is ∙ ap (λ (d : Draft). d.places) fresh_is

  pub at_end : RegistersGrow → PartsStay Instr → (w : Setting) → IsCallOf p f (finished (draft_of e4)) (draft_of e4).rows w → IsFinished w e1 e2 e4
  at_end grow parts w call =
      let n = behind_named class.Scalar (draft_of e2).code in
      let taken = grow.fresh e2.reserved.registers e3.reserved.registers n Uniform I32 (ap (λ (d : Draft). d.rows) fresh_is) in
      let same = grow.same e3.reserved.registers e4.reserved.registers (ap (λ (d : Draft). d.rows) return_is) in
      let later = grow.on e2.reserved.registers e3.reserved.registers e4.reserved.registers taken same in
      let all = grow.on e1.reserved.registers e2.reserved.registers e4.reserved.registers adds.rows later in
      let first = ap (λ (d : Draft). d.rows) begun_is ∙ ap (λ (g : TFunction). first_rows g.variables g.answer) (sym call.function) in
      record {
        callees = ap (λ (d : Draft). d.callees) adds.kept ∙ ap (λ (d : Draft). d.callees) begun_is ∙ sym (ap (λ (p : Program). p.functions) call.program);
        grows = later;
        code = subst (λ is. SamePart (length (draft_of e1).code) (length (draft_of e2).code) (draft_of e2).code is) (sym code_is)
            (parts.grown (length (draft_of e1).code) (length (draft_of e2).code) (draft_of e2).code (instr.Return None ∷ []) (omega arith));
        places = subst (λ ps. SamePart (length (draft_of e1).places) (length (draft_of e2).places) (draft_of e2).places ps) (sym places_are) (λ i from lt. refl);
        heading = heading_is ∙ ap (λ (g : TFunction). Some (heading_of g)) (sym call.function);
        begun = record {
          scalars = subst (λ (r : Rows). Begins r.scalars (draft_of e4).rows.scalars) first all.scalars;
          vectors = subst (λ (r : Rows). Begins r.vectors (draft_of e4).rows.vectors) first all.vectors;
        };
        given = call.given;
        number = call.first ∙ sym (ap length routines_are);
        layout = call.layout;
      }

  -- the text of code can have it, where it can have what was added
  pub can_be_written : IsWritten (piece.code (length (draft_of e1).code) (length (draft_of e1).places)) piece.places → length piece.places ≤ 100 → CanBeWritten (draft_of e4)
  can_be_written it few =
      let none : (draft_of e1).code ≡ [] = ap (λ (d : Draft). d.code) begun_is in
      let no_place : (draft_of e1).places ≡ [] = ap (λ (d : Draft). d.places) begun_is in
      let added = piece.code (length (draft_of e1).code) (length (draft_of e1).places) in
      let back : List Instr = instr.Return None ∷ [] in
      let code : (draft_of e4).code ≡ added ++ back = code_is ∙ ap (λ is. is ++ back) (adds.appends.code ∙ ap (λ is. is ++ added) none) in
      let places : (draft_of e4).places ≡ piece.places = places_are ∙ adds.appends.places ∙ ap (λ ps. ps ++ piece.places) no_place in
      let constants : list_all constant_in (draft_of e4).code ≡ true = ap (list_all constant_in) code ∙ list_all-append constant_in added back ∙ and_from (list_all constant_in added) true it.constants refl in
      let numbers : list_all has_small_number (draft_of e4).code ≡ true = ap (list_all has_small_number) code ∙ list_all-append has_small_number added back ∙ and_from (list_all has_small_number added) true it.numbers refl in
      record {
        tables = record { places = rw places it.places; few_places = rw places (omega (arith, few)); texts = rw texts_are refl; few_texts = rw texts_are (omega arith) };
        routines = rw (routines_are, heading_is) (rw (is.named, is.params, is.variables, constants) refl);
        numbers = rw (routines_are, heading_is) (rw numbers refl);
      }

-- ---- what the text of code asks of it

module _ (p : Program) (f : TFunction) (is : IsFunction variables f) (e1 e2 : Emitter) (begun_is : draft_of e1 ≡ begun f (first_draft p)) where
  no_code : length (draft_of e1).code ≡ 0
  no_code = ap (λ (d : Draft). length d.code) begun_is

  no_place : length (draft_of e1).places ≡ 0
  no_place = ap (λ (d : Draft). length d.places) begun_is

  three : (draft_of e1).masks ≡ 3
  three = ap (λ (d : Draft). d.masks) begun_is

  none_kept : Grows e1.reserved.registers e2.reserved.registers → NoneKept (draft_of e2).rows
  none_kept grows =
      let first : NoneKept (draft_of e1).rows = subst NoneKept (sym (rows_are p f is (draft_of e1) begun_is)) (refl, refl, refl, refl) in
      (grows.kept_scalars I32 1 ∙ first.0, grows.kept_scalars I32 2 ∙ first.1, grows.kept_vectors I32 1 ∙ first.2, grows.kept_vectors I32 2 ∙ first.3)

  pub sum_written : CodeIsWritten → Adds e1 e2 (expr_in e2 sum site) → Has e2.reserved (expr_asks sum 3)
      → IsWritten (expr_code (layout_in e2) sum (length (draft_of e1).code) (length (draft_of e1).places) 0 3) (expr_places (layout_in e2) sum)
  sum_written law adds has =
      let fs = (draft_of e2).callees in
      let none = none_kept adds.rows in
      let short = sum_short (layout_in e2) (length (draft_of e1).code) (length (draft_of e1).places) none.0 in
      law.exprs fs variables (draft_of e2).rows (draft_of e2).masks sum (length (draft_of e1).code) (length (draft_of e1).places) 0 3 (sum_is_fine fs) (sum_rated fs sum refl) has
      (omega (arith, three, adds.masks)) (omega (arith, no_code, short)) (omega (arith, no_place))

  pub assignment_written : CodeIsWritten → Adds e1 e2 (simple_in e2 assignment site) → Has e2.reserved (simple_asks assignment 3)
      → IsWritten (simple_code (layout_in e2) assignment (length (draft_of e1).code) (length (draft_of e1).places) 0 3) (simple_places (layout_in e2) assignment)
  assignment_written law adds has =
      let fs = (draft_of e2).callees in
      let none = none_kept adds.rows in
      let short = assignment_short (layout_in e2) (length (draft_of e1).code) (length (draft_of e1).places) (λ i n. refl) none.0 none.1 none.2 none.3 in
      law.simples fs variables (draft_of e2).rows (draft_of e2).masks assignment (length (draft_of e1).code) (length (draft_of e1).places) 0 3 (assignment_is_fine fs) (assignment_rated fs assignment refl) has
      (omega (arith, three, adds.masks)) (omega (arith, no_code, short)) (omega (arith, no_place))

-- ---- what the code does

module _ (p : Program) (f : TFunction) (is : IsFunction variables f) (e1 e2 e3 e4 : Emitter) (begun_is : draft_of e1 ≡ begun f (first_draft p))
    (fresh_is : draft_of e3 ≡ with_register Uniform I32 (draft_of e2)) (return_is : draft_of e4 ≡ with_instr (instr.Return None) (draft_of e3))
    (grow : RegistersGrow) (parts : PartsStay Instr) (written : FinishedIsWritten) (runs : WrittenRuns) where
  begins : 0 ≡ length (draft_of e1).code
  begins = sym (ap (λ (d : Draft). length d.code) begun_is)

  pub sum_runs : Adds e1 e2 (expr_in e2 sum site) → Has e2.reserved (expr_asks sum 3) → SumRuns p f (finished (draft_of e4))
  sum_runs adds has = record {
    rows = (draft_of e4).rows;
    register = found (layout_in e2) sum 3;
    end = length (draft_of e2).code;
    runs = λ w call q a s c enters.
        let vars = ap (λ (g : TFunction). g.variables) call.function ∙ is.variables in
        let fine = subst (λ vs. FineExpr w.program.functions vs sum) (sym vars) (sum_is_fine w.program.functions) in
        runs.exprs w call.settled e1 e2 e4 sum site q a s c (fine, sum_rated w.program.functions sum refl)
        (written.exprs w call.settled e1 e2 e4 sum site adds has (at_end p f is e1 e2 e3 e4 (expr_in e2 sum site) begun_is adds fresh_is return_is grow parts w call))
        (subst (λ n. Enters w n 0 3 a s c q) begins enters);
  }

  pub assignment_runs : Adds e1 e2 (simple_in e2 assignment site) → Has e2.reserved (simple_asks assignment 3) → AssignmentRuns p f (finished (draft_of e4))
  assignment_runs adds has = record {
    rows = (draft_of e4).rows;
    end = length (draft_of e2).code;
    runs = λ w call q a s c enters.
        let vars = ap (λ (g : TFunction). g.variables) call.function ∙ is.variables in
        let fine = subst (λ vs. FineSimple w.program.functions vs assignment) (sym vars) (assignment_is_fine w.program.functions) in
        runs.simples w call.settled e1 e2 e4 assignment site q a s c (fine, assignment_rated w.program.functions assignment refl)
        (written.simples w call.settled e1 e2 e4 assignment site adds has (at_end p f is e1 e2 e3 e4 (simple_in e2 assignment site) begun_is adds fresh_is return_is grow parts w call))
        (subst (λ n. Enters w n 0 3 a s c q) begins enters);
  }
