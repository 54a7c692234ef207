-- The trees are fine, and what an emitter has when they are written can be a text.
use Rattle.std.proofs.Common.{◌≡◌, ◌∙◌, ◌<◌, ◌≤◌, ◌+◌, ◌^◌, ◌&&◌, ℕ, List, [], ◌∷◌, ◌++◌, length, Some, None, true, false, is_some, nat_lt, refl, ap, sym, subst, arith}
use Rattle.std.proofs.Common.{append-nil, append_assoc, length-append, lt-ltb}
use Rattle.std.specs.List.{list_all}
use Rattle.std.proofs.lemmas.Bool.{and_from}
use Rattle.isp_base.specs.Values.{greatest, number_to}
use Rattle.isp_base.specs.declared.types.Elem.TheVariants.{I32, I64}
use Rattle.isp_base.specs.declared.types.Rate.TheVariants.{Uniform, Varying}
use Rattle.isp_base.specs.declared.types.Span.{Span}
use Rattle.isp_code.specs.Writable.{constant_in, has_byte, local_fits, parts_fit, place_fits}
use Rattle.isp_code.specs.declared.instr.Instr.{Instr}
use Rattle.isp_code.specs.declared.instr.Instr.TheVariants as instr
use Rattle.isp_typed.specs.Fine.{AreOperands, FineExpr, FinePlace, FineSimple}
use Rattle.isp_typed.specs.Typed.{TExpr, TFunction, TSimple, t_place, t_program_index, t_variable}
use Rattle.isp_typed.specs.declared.variable.Variable.{Variable}
use Rattle.isp_lex.specs.Lexing.{limit}
use Rattle.isp_lower_code.specs.Asks.{Ask, expr_asks, simple_asks, target_asks}
use Rattle.isp_lower_code.specs.Code.{expr_code}
use Rattle.isp_lower.specs.Adding.{Adds, AddsCode, FewMore, Takes, expr_in, layout_in, simple_in}
use Rattle.isp_lower_code.specs.Lines.{has_small_numbers}
use Rattle.isp_lower.specs.Drafts.{CanBeWritten, Draft, IsBegun, draft_of, next_register, routine_at_work, with_instr, with_target}
use Rattle.isp_lower_code.specs.FirstRows.{Begins, array_rows, first_rows}
use Rattle.isp_registers.specs.Growth.{Grows}
use Rattle.isp_lower_code.specs.Header.{AreSmall, HeadingFits, heading_of, locals_of, routine_with}
use Rattle.isp_lower_code.specs.Layout.{HasNoRows, Layout}
use Rattle.isp_lower_code.specs.Lines.{has_small_number}
use Rattle.isp_lower_code.specs.Patched.{IsJump, instr_at, patched}
use Rattle.isp_lower_code.specs.Rated.{IsFineExpr, IsFineSimple, IsRated, SimpleRated}
use Rattle.isp_lower_code.specs.Room.{HasNumbers, HasRoom, registers_asked}
use Rattle.isp_lower_code.specs.Own.{HasOwn}
use Rattle.isp_lower_code.specs.Rows.{Row, Rows, Variable as VariableName, elem_in, with_fresh_from_at}
use Rattle.isp_lower_code.specs.Simple.{simple_code, simple_places}
use Rattle.isp_lower_code.specs.Spans.{expr_places}
use Rattle.isp_lower.specs.declared.types.Emitter.{Emitter}
use Rattle.isp_lower_code.proofs.Lemmas.{all_both, expr_placed, simple_placed}
use Rattle.isp_tests_lower.specs.Stages.{HasCode, HasFew, HasJump, NoneKept}
use Rattle.isp_tests_lower.specs.Trees.{IsFunction, assignment, doubled, element, int, number, one_more, read, site, sum, value, variables, written}

-- ---- names, types and rates

-- a place in a source
abbrev pub InText : Span → Type 0
InText s = (s.start < s.end) × (s.end ≤ limit)

read_in : InText read
read_in = (omega arith, omega arith)

written_in : InText written
written_in = (omega arith, omega arith)

element_fine : (fs : List TFunction) (s : Span) → InText s → FinePlace fs variables (element s)
element_fine fs s h = (record { variable = _; is = refl; ty = refl; constant = refl }, tt, refl, h)

pub sum_is_fine : (fs : List TFunction) → FineExpr fs variables sum
sum_is_fine fs =
    let operands : AreOperands (t_place (t_variable 1 (int Uniform) read)) (number 1) I32 Uniform = record { left = refl; right = refl; rate = refl } in
    let small : 1 ≤ greatest I32 = omega arith in
    (record { constant = _; is = refl }, small, operands, refl, read_in)

pub assignment_is_fine : (fs : List TFunction) → FineSimple fs variables assignment
assignment_is_fine fs =
    let one : 1 ≤ greatest I32 = omega arith in
    let two : 2 ≤ greatest I32 = omega arith in
    let factors : AreOperands (t_place (element read)) (number 2) I32 Varying = record { left = refl; right = refl; rate = refl } in
    let product : FineExpr fs variables doubled = (element_fine fs read read_in, two, factors, refl, read_in) in
    let summands : AreOperands doubled (number 1) I32 Varying = record { left = refl; right = refl; rate = refl } in
    let whole : FineExpr fs variables (one_more doubled Varying) = (product, one, summands, refl, read_in) in
    ((element_fine fs written written_in, refl), (whole, refl))

pub sum_fine : (fs : List TFunction) (x : TExpr) → x ≡ sum → IsFineExpr fs x
sum_fine fs x e = rw e (variables, sum_is_fine fs)

pub assignment_fine : (fs : List TFunction) (s : TSimple) → s ≡ assignment → IsFineSimple fs s
assignment_fine fs s e = rw e (variables, assignment_is_fine fs)

pub sum_rated : (fs : List TFunction) (x : TExpr) → x ≡ sum → IsRated fs x
sum_rated fs x e = rw e (tt, tt)

pub assignment_rated : (fs : List TFunction) (s : TSimple) → s ≡ assignment → SimpleRated fs s
assignment_rated fs s e = rw e (tt, (tt, ((tt, tt), tt)))

-- ---- the functions at work

pub heading_fits : (h : TFunction) (vs : List Variable) → IsFunction vs h → AreSmall vs → HeadingFits h
heading_fits h vs is small =
    record { params = subst (λ ps. length ps ≤ length h.variables) (sym is.params) (omega arith); small = subst AreSmall (sym is.variables) small }

pub first_small : AreSmall (value ∷ [])
first_small = (tt, tt)

pub second_small : AreSmall variables
second_small = (omega arith, (tt, (tt, (tt, (tt, tt)))))

-- a function that begins has room for a register
pub begins_with_room : (h : TFunction) (vs : List Variable) (d : Draft) → IsFunction vs h → length (first_rows vs None).scalars ≤ 10 → d.rows ≡ first_rows h.variables h.answer → d.code ≡ [] → next_register Uniform d < 4294967296
begins_with_room h vs d is few rows code = rw (rows, code, is.variables, is.answer) (omega (arith, few))

-- few registers leave room for few more
room : (d : Draft) (n : ℕ) (a : Ask) → HasFew n d → n + registers_asked a ≤ 100 → HasRoom d.rows a
room d n a few less =
    record { scalars = omega (arith, few.scalars, less); vectors = omega (arith, few.vectors, less); arrays = omega (arith, few.arrays, less) }

sum_numbers : (x : TExpr) → x ≡ sum → HasNumbers (expr_asks x 3)
sum_numbers x e = rw e (tt, (omega arith, ((tt, (tt, tt)), (tt, tt))))

assignment_numbers : (s : TSimple) → s ≡ assignment → HasNumbers (simple_asks s 3)
assignment_numbers s e =
    let double : HasNumbers (expr_asks doubled 4) = (tt, (omega arith, ((tt, ((tt, (tt, (tt, (tt, tt)))), tt)), (tt, tt)))) in
    rw e ((tt, (tt, (tt, (tt, tt)))), (omega arith, (tt, (tt, (omega arith, ((tt, double), (tt, tt)))))))

-- with its jump the second has its registers, its array and its masks
module _ (f g : TFunction) (d : Draft) (is : IsFunction variables g) (j : HasJump f g d) where
  jump_begun : IsBegun d
  jump_begun = ap (λ (d : Draft). is_some d.heading) j.is

  jump_mask : 0 < d.masks
  jump_mask = omega (arith, ap (λ (d : Draft). d.masks) j.is)

  sum_own : (x : TExpr) → x ≡ sum → HasOwn d.rows (expr_asks x 3)
  sum_own x e = rw (j.is, is.variables, is.answer, e) (tt, (tt, ((tt, (refl, tt)), (tt, tt))))

  jump_few : HasFew 10 d
  jump_few = rw (j.is, is.variables, is.answer) (record { code = omega arith; places = omega arith; scalars = omega arith; vectors = omega arith; arrays = omega arith })

  sum_room : (x : TExpr) → x ≡ sum → HasRoom d.rows (expr_asks x 3)
  sum_room x e = room d 10 (expr_asks x 3) jump_few (rw e (omega arith))

  pub sum_takes : (x : TExpr) → x ≡ sum → Takes d (expr_asks x 3) site
  sum_takes x e = record { begun = jump_begun; own = sum_own x e; mask = jump_mask; numbers = sum_numbers x e; room = sum_room x e }

  pub jump_code : HasCode f g 10 d
  jump_code = record {
    program = j.program;
    heading = ap (λ (d : Draft). d.heading) j.is;
    texts = ap (λ (d : Draft). d.texts) j.is;
    routines = ap (λ (d : Draft). d.routines) j.is;
    places = ap (λ (d : Draft). list_all place_fits d.places) j.is;
    rest = [];
    code = ap (λ (d : Draft). d.code) j.is;
    constants = refl;
    numbers = refl;
    arrays = record { more = []; is = ap (λ (d : Draft). d.rows.arrays) j.is ∙ sym (append-nil (array_rows 0 g.variables)) };
    kept = rw (j.is, is.variables, is.answer) (refl, refl, refl, refl);
    masks = omega (arith, ap (λ (d : Draft). d.masks) j.is);
    few = jump_few;
  }

-- and so with code after it
module _ (f g : TFunction) (n : ℕ) (d : Draft) (c : HasCode f g n d) where
  pub code_begun : IsBegun d
  code_begun = ap is_some c.heading

  code_mask : 0 < d.masks
  code_mask = omega (arith, c.masks)

  assignment_own : (s : TSimple) → IsFunction variables g → s ≡ assignment → HasOwn d.rows (simple_asks s 3)
  assignment_own s is e =
      let held : elem_in d.rows.arrays (VariableName 0) ≡ Some I32 = rw (c.arrays.is, is.variables) refl in
      let at : HasOwn d.rows (target_asks (element read) 4) = (held, (tt, (tt, (tt, tt)))) in
      let double : HasOwn d.rows (expr_asks doubled 4) = (tt, (tt, ((tt, (at, tt)), (tt, tt)))) in
      rw e (at, (tt, (tt, (tt, (tt, ((tt, double), (tt, tt)))))))

  assignment_room : (s : TSimple) → n ≤ 20 → s ≡ assignment → HasRoom d.rows (simple_asks s 3)
  assignment_room s less e = room d n (simple_asks s 3) c.few (rw e (omega (arith, less)))

  pub assignment_takes : (s : TSimple) → IsFunction variables g → n ≤ 20 → s ≡ assignment → Takes d (simple_asks s 3) site
  assignment_takes s is less e =
      record { begun = code_begun; own = assignment_own s is e; mask = code_mask; numbers = assignment_numbers s e; room = assignment_room s less e }

  pub jump_there : 0 < length d.code
  jump_there = rw c.code (omega arith)

  pub jump_is : IsJump (instr_at d.code 0)
  jump_is = rw c.code tt

-- ---- code is added

joined : (j : Instr) (c1 c2 u v : List Instr) → c1 ≡ j ∷ u → c2 ≡ c1 ++ v → c2 ≡ j ∷ (u ++ v)
joined j c1 c2 u v e1 e2 = rw (e2, e1) refl

begins_then : (xs ys zs : List Row) → Begins xs ys → Begins ys zs → Begins xs zs
begins_then xs ys zs a b = record { more = a.more ++ b.more; is = b.is ∙ ap (λ w. w ++ b.more) a.is ∙ append_assoc xs a.more b.more }

pub return_added : (f g : TFunction) (n : ℕ) (old new : Draft) (i : Instr) → HasCode f g n old → i ≡ instr.Return None → new ≡ with_instr i old → HasCode f g (n + 1) new
return_added f g n old new i c is e = subst (HasCode f g (n + 1)) (sym e) (record {
  program = c.program;
  heading = c.heading;
  texts = c.texts;
  routines = c.routines;
  places = c.places;
  rest = c.rest ++ i ∷ [];
  code = ap (λ z. z ++ i ∷ []) c.code;
  constants = all_both constant_in c.rest (i ∷ []) c.constants (rw is refl);
  numbers = all_both has_small_number c.rest (i ∷ []) c.numbers (rw is refl);
  arrays = c.arrays;
  kept = c.kept;
  masks = c.masks;
  few =
      record {
        code = omega (arith, c.few.code, length-append old.code (i ∷ []));
        places = omega (arith, c.few.places);
        scalars = omega (arith, c.few.scalars);
        vectors = omega (arith, c.few.vectors);
        arrays = omega (arith, c.few.arrays);
      };
})

-- few instructions and places, which a text can have
record CanBeAdded (k : ℕ) (is : List Instr) (ps : List Span) : Type 0 where
  pub constants : list_all constant_in is ≡ true
  pub numbers : list_all has_small_number is ≡ true
  pub places : list_all place_fits ps ≡ true
  pub few_code : length is ≤ k
  pub few_places : length ps ≤ k

code_added : (f g : TFunction) (n k : ℕ) (a : Ask) (old new : Emitter) (u : ℕ → ℕ → List Instr) (ps : List Span) → HasCode f g n (draft_of old) → AddsCode old new u ps
    → FewMore (draft_of old) (draft_of new) a → registers_asked a ≤ k → NoneKept (draft_of new).rows → CanBeAdded k (u (length (draft_of old).code) (length (draft_of old).places)) ps
    → HasCode f g (n + k) (draft_of new)
code_added f g n k asked old new u ps c a more_of less none can =
    let more = u (length (draft_of old).code) (length (draft_of old).places) in
    record {
      program = c.program;
      heading = ap (λ (d : Draft). d.heading) a.kept ∙ c.heading;
      texts = ap (λ (d : Draft). d.texts) a.kept ∙ c.texts;
      routines = ap (λ (d : Draft). d.routines) a.kept ∙ c.routines;
      places = ap (list_all place_fits) a.appends.places ∙ all_both place_fits (draft_of old).places ps c.places can.places;
      rest = c.rest ++ more;
      code = joined (instr.Jump 0) (draft_of old).code (draft_of new).code c.rest more c.code a.appends.code;
      constants = all_both constant_in c.rest more c.constants can.constants;
      numbers = all_both has_small_number c.rest more c.numbers can.numbers;
      arrays = begins_then (array_rows 0 g.variables) (draft_of old).rows.arrays (draft_of new).rows.arrays c.arrays a.rows.arrays;
      kept = none;
      masks = omega (arith, c.masks, a.masks);
      few =
          record {
            code = omega (arith, ap length a.appends.code, length-append (draft_of old).code more, c.few.code, can.few_code);
            places = omega (arith, ap length a.appends.places, length-append (draft_of old).places ps, c.few.places, can.few_places);
            scalars = omega (arith, more_of.rows.scalars, c.few.scalars, less);
            vectors = omega (arith, more_of.rows.vectors, c.few.vectors, less);
            arrays = omega (arith, ap length more_of.rows.arrays, c.few.arrays);
          };
    }

-- of constants that are not kept the code has each, and it names the places that it adds
module _ (l : Layout) (pc p : ℕ) where
  sum_constants : l.kept Uniform I32 1 ≡ false → list_all constant_in (expr_code l sum pc p 0 3) ≡ true
  unfolding number_to
  sum_constants e = rw e refl

  pub sum_short : l.kept Uniform I32 1 ≡ false → length (expr_code l sum pc p 0 3) ≤ 10
  sum_short e = rw e (omega arith)

  sum_can_be : l.kept Uniform I32 1 ≡ false → CanBeAdded 10 (expr_code l sum pc p 0 3) (expr_places l sum)
  sum_can_be e = record {
    constants = sum_constants e;
    numbers = rw e refl;
    places = expr_placed [] variables l sum (sum_is_fine []);
    few_code = sum_short e;
    few_places = omega arith;
  }

  module _ (rows : HasNoRows l) (u1 : l.kept Uniform I32 1 ≡ false) (u2 : l.kept Uniform I32 2 ≡ false) (v1 : l.kept Varying I32 1 ≡ false) (v2 : l.kept Varying I32 2 ≡ false) where
    assignment_constants : list_all constant_in (simple_code l assignment pc p 0 3) ≡ true
    unfolding number_to
    assignment_constants = rw (rows (t_program_index written) 3, rows (t_program_index read) 4, v1, v2, u1, u2) refl

    assignment_names : list_all has_small_number (simple_code l assignment pc p 0 3) ≡ (nat_lt (p + 0 + 0) (2 ^ 32) && (nat_lt (p + 0 + 1) (2 ^ 32) && true))
    assignment_names = rw (rows (t_program_index written) 3, rows (t_program_index read) 4, v1, v2, u1, u2) refl

    pub assignment_short : length (simple_code l assignment pc p 0 3) ≤ 20
    assignment_short = rw (rows (t_program_index written) 3, rows (t_program_index read) 4, v1, v2, u1, u2) (omega arith)

    assignment_can_be : p ≤ 20 → CanBeAdded 20 (simple_code l assignment pc p 0 3) (simple_places l assignment)
    assignment_can_be less = record {
      constants = assignment_constants;
      numbers = assignment_names ∙ and_from _ _ (lt-ltb (p + 0 + 0) (2 ^ 32) (omega (arith, less))) (and_from _ true (lt-ltb (p + 0 + 1) (2 ^ 32) (omega (arith, less))) refl);
      places = simple_placed [] variables l assignment (assignment_is_fine []);
      few_code = assignment_short;
      few_places = omega arith;
    }

module _ (f g : TFunction) (n : ℕ) (old new : Emitter) (c : HasCode f g n (draft_of old)) where
  still_none : Grows old.reserved.registers new.reserved.registers → NoneKept (draft_of new).rows
  still_none r = (r.kept_scalars I32 1 ∙ c.kept.0, r.kept_scalars I32 2 ∙ c.kept.1, r.kept_vectors I32 1 ∙ c.kept.2, r.kept_vectors I32 2 ∙ c.kept.3)

  pub sum_added : (x : TExpr) → x ≡ sum → Adds old new (expr_in new x site) → FewMore (draft_of old) (draft_of new) (expr_asks x 3) → HasCode f g (n + 10) (draft_of new)
  sum_added x e a more =
      let added : Adds old new (expr_in new sum site) = subst (λ z. Adds old new (expr_in new z site)) e a in
      let none = still_none a.rows in
      code_added f g n 10 (expr_asks x 3) old new _ _ c added more (rw e (omega arith)) none (sum_can_be (layout_in new) (length (draft_of old).code) (length (draft_of old).places) none.0)

  pub assignment_added : n ≤ 20 → (s : TSimple) → s ≡ assignment → Adds old new (simple_in new s site) → FewMore (draft_of old) (draft_of new) (simple_asks s 3) → HasCode f g (n + 20) (draft_of new)
  assignment_added less s e a more =
      let added : Adds old new (simple_in new assignment site) = subst (λ z. Adds old new (simple_in new z site)) e a in
      let none = still_none a.rows in
      let can = assignment_can_be (layout_in new) (length (draft_of old).code) (length (draft_of old).places) (λ i n. refl) none.0 none.1 none.2 none.3 (omega (arith, c.few.places, less)) in
      code_added f g n 20 (simple_asks s 3) old new _ _ c added more (rw e (omega arith)) none can

-- ---- what is finished can be a text

routine_fits : (h : TFunction) (vs : List Variable) (rows : Rows) (masks : ℕ) (code : List Instr) → IsFunction vs h
    → list_all local_fits (locals_of vs) ≡ true → list_all constant_in code ≡ true → parts_fit (routine_with (heading_of h) rows masks code) ≡ true
routine_fits h vs rows masks code is locals constants = rw (is.named, is.params, is.variables, locals, constants) refl

module _ (f g : TFunction) (n : ℕ) (d : Draft) (to : ℕ) (first : IsFunction (value ∷ []) f) (second : IsFunction variables g) (c : HasCode f g n d) (less : n ≤ 100) (near : to ≤ 100) where
  closed_fits : list_all parts_fit d.routines ≡ true
  closed_fits = ap (list_all parts_fit) c.routines ∙ and_from _ true (routine_fits f (value ∷ []) (with_fresh_from_at 0 Uniform I64 (first_rows f.variables f.answer)) 3 (instr.Return None ∷ []) first refl refl) refl

  last_fits : list_all parts_fit (routine_at_work (Some (heading_of g)) d.rows d.masks (patched (instr.Jump 0 ∷ c.rest) 0 to)) ≡ true
  last_fits = and_from _ true (routine_fits g variables d.rows d.masks (instr.Jump to ∷ c.rest) second refl c.constants) refl

  closed_small : list_all has_small_numbers d.routines ≡ true
  closed_small = ap (list_all has_small_numbers) c.routines

  last_small : list_all has_small_numbers (routine_at_work (Some (heading_of g)) d.rows d.masks (patched (instr.Jump 0 ∷ c.rest) 0 to)) ≡ true
  last_small = and_from _ true (and_from _ _ (lt-ltb to (2 ^ 32) (omega (arith, near))) c.numbers) refl

  patched_fits : CanBeWritten (with_target 0 to d)
  patched_fits =
      let last = routine_at_work d.heading d.rows d.masks (patched d.code 0 to) in
      record {
        tables = record { places = c.places; few_places = omega (arith, c.few.places, less); texts = ap (list_all has_byte) c.texts; few_texts = omega (arith, ap length c.texts) };
        routines = all_both parts_fit d.routines last closed_fits (rw (c.heading, c.code) last_fits);
        numbers = all_both has_small_numbers d.routines last closed_small (rw (c.heading, c.code) last_small);
      }

  pub can_be_written : (new : Draft) → new ≡ with_target 0 to d → CanBeWritten new
  can_be_written new e = subst CanBeWritten (sym e) patched_fits
