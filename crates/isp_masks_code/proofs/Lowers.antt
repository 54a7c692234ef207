-- The code of a program is what is asked of code, so it agrees with the program and the verifier accepts it.
use Rattle.std.proofs.Common.{◌≡◌, ℕ, zero, suc, ◌<◌, ◌≤◌, List, [], ◌∷◌, length, map, take, Option, Some, None, Bool, true, refl, sym, ap, ◌∙◌, subst, arith}
use Rattle.std.specs.Prelude.{slice_get, option_map}
use Rattle.std.specs.List.{All, list_all}
use Rattle.std.proofs.lemmas.Bool.{and_from}
use Rattle.std.proofs.lemmas.Option.{get_or_from_slice_get, slice_get_within}
use Rattle.isp_base.specs.declared.types.Elem.{Elem}
use Rattle.isp_base.specs.declared.types.Rate.{Rate}
use Rattle.isp_base.specs.declared.types.Rate.TheVariants.{Uniform, Varying}
use Rattle.isp_base.specs.declared.types.Ty.{Ty}
use Rattle.isp_code.specs.Entries.{parameter_of, parameters_of, result_of}
use Rattle.isp_code.specs.Listing.{Listing, Routine}
use Rattle.isp_code.specs.Registers.{table_of, types_in}
use Rattle.isp_code.specs.Writable.{parts_fit}
use Rattle.isp_rates.specs.Accepted.{IsAccepted}
use Rattle.isp_typed.specs.Fine.{AreParams, FineFunction, all_new, params_of}
use Rattle.isp_typed.specs.Scoped.{ScopedFunction}
use Rattle.isp_typed.specs.Typed.{Program, TFunction}
use Rattle.isp_verify.specs.Faults.{header_fits, code_fault}
use Rattle.isp_base.specs.declared.signature.Parameter.{Parameter}
use Rattle.isp_typed.specs.declared.variable.Variable.{Variable}
use Rattle.isp_lower_code.specs.Callees.{rates_in}
use Rattle.isp_lower_code.specs.Lines.{has_small_numbers}
use Rattle.isp_lower_code.specs.Header as header
use Rattle.isp_lower_code.specs.Sound.{AreHeld, HasHeader}
use Rattle.isp_lower_code.specs.Layout.{class_at}
use Rattle.isp_lower_code.specs.Rows.{rows_at, layout_of}
use Rattle.isp_masks_code.specs.Accepted.{IsBodyCode}
use Rattle.isp_masks_code.specs.Agreed.{LoweredAgrees}
use Rattle.isp_masks_code.specs.Compiled.{IsEntry, IsFunctionCode, IsProgramCode}
use Rattle.isp_lower_code.specs.Header.{returns_of, types_of, value_returned}
use Rattle.isp_masks_code.specs.Lowered.{IsLowered, HasCode}
use Rattle.isp_masks_code.specs.Made.{IsMade, GivesUniform}
use Rattle.isp_masks_code.proofs.Accepted.{body_sound, code_accepted}
use Rattle.isp_masks_code.proofs.Checked.{FunctionFits, function_fits}
use Rattle.isp_masks_code.proofs.CodeLengths.{function_long}
use Rattle.isp_masks_code.proofs.FewVariables.{nodes_of_one}
use Rattle.isp_lower_code.proofs.Lemmas.{numbers_small}
use Rattle.isp_masks_code.proofs.Constants.{routine_parts_fit}
use Rattle.isp_masks_code.proofs.FirstRows.{parameters_same, result_row}
use Rattle.isp_masks_code.proofs.Heads.{names_apart, names_same, new_name, exports, head_fits}
use Rattle.isp_masks_code.proofs.Made.{made_accepted, made_compiled, made_entry}
use Rattle.isp_masks_code.proofs.Programs.{program_agrees}
use Rattle.isp_masks_code.proofs.SmallFunctions.{functions_twice}
use Rattle.isp_masks_code.proofs.Standing.{arrays_stand}
use Rattle.isp_masks_code.specs.Rated.{BlockRated}

-- ---- one function

given_at : (r : Rate) (t : Elem) → result_of (value_returned r t) ≡ Some t
given_at Uniform t = refl
given_at Varying t = refl

given_is : (answer : Option Ty) → result_of (returns_of answer) ≡ option_map (λ t. t.elem) answer
given_is None = refl
given_is (Some t) = given_at t.rate t.elem

gives_one : (answer : Option Ty) → ((t : Ty) → answer ≡ Some t → t.rate ≡ Uniform) → GivesUniform answer
gives_one None one = tt
gives_one (Some t) one = one t refl

-- a header's parameters are what the variables hold
params_held : (n : ℕ) (ps : List Parameter) (vs : List Variable) → AreParams ps (take n vs) → AreHeld (take n vs) (header.params_of ps vs)
params_held zero [] vs a = tt
params_held (suc n) [] [] a = tt
params_held (suc n) [] (v ∷ vs) a = absurd a
params_held zero (p ∷ ps) vs a = absurd a
params_held (suc n) (p ∷ ps) [] a = absurd a
params_held (suc n) (p ∷ ps) (v ∷ vs) a = (refl, refl, params_held n ps vs a.1)

module _ (fs : List TFunction) (code : Listing) (h : TFunction) (g : Routine) (fine : FineFunction fs h) (low : IsLowered fs h g code.places code.texts) where
  pub parameters : parameters_of g ≡ h.parameters
  parameters = ap (map parameter_of) low.params ∙ parameters_same (length h.params) h.parameters h.variables fine.params

  types : (r : Rate) → types_in (table_of g) (class_at r) ≡ types_of (rows_at low.rows r)
  types Uniform = low.scalars
  types Varying = low.vectors

  pub is_made : IsMade fs code h g low.rows low.numbers
  is_made = record {
    types = types;
    parameters = parameters;
    returns = low.returns;
    arrays = arrays_stand fs h g (rates_in fs) low.rows fine parameters low.locals low.arrays_first;
    rows_are = low.present;
    result = result_row h.variables h.answer low.rows low.scalars_first low.vectors_first;
    masks = low.three;
    constants = low.constants;
    keeps = low.keeps;
    spares = low.spares;
    code_is = low.code_is;
    low = low.low;
    low_texts = low.low_texts;
    names = record { places_are = low.places_are; texts_are = low.texts_are };
  }

-- ---- a program

is_there : {A : Type 0} (xs : List A) (k : ℕ) → k < length xs → (x : A) × (slice_get xs k ≡ Some x)
is_there [] k lt = absurd (omega arith)
is_there (x ∷ xs) zero lt = (x, refl)
is_there (x ∷ xs) (suc k) lt = is_there xs k (omega arith)

fine_of : {A : Type 0} (P : A → Type 0) (xs : List A) (k : ℕ) (a : A) → All P xs → slice_get xs k ≡ Some a → P a
fine_of P xs k a all e = subst P (get_or_from_slice_get xs k a a e) (all k a (slice_get_within xs k a e))

module _ (program : Program) (code : Listing) (accepted : IsAccepted program) (has : HasCode program code) where
  fine_at : (f : ℕ) (h : TFunction) → slice_get program.functions f ≡ Some h → FineFunction program.functions h
  fine_at f h e = fine_of (FineFunction program.functions) program.functions f h accepted.fine.each e

  fits_at : (f : ℕ) (h : TFunction) → slice_get program.functions f ≡ Some h → FunctionFits program.functions h
  fits_at f h e = function_fits program accepted f h e

  rated_at : (f : ℕ) (h : TFunction) → slice_get program.functions f ≡ Some h → BlockRated program.functions h.answer h.body
  rated_at f h e = (fits_at f h e).rated

  -- the function whose routine it is
  source : (f : ℕ) (g : Routine) → slice_get code.routines f ≡ Some g → (h : TFunction) × (slice_get program.functions f ≡ Some h)
  source f g e =
      let in_code = slice_get_within code.routines f g e in
      is_there program.functions f (omega (arith, in_code, has.count))

  -- each function has its header
  head : (f : ℕ) (h : TFunction) → slice_get program.functions f ≡ Some h → HasHeader code f h
  head f h e =
      let in_program = slice_get_within program.functions f h e in
      let g = is_there code.routines f (omega (arith, in_program, has.count)) in
      let low = has.each f h g.0 e g.1 in
      record { routine = g.0; found = g.1; params = subst (AreHeld (params_of h)) (sym low.params) (params_held (length h.params) h.parameters h.variables (fine_at f h e).params); returns = low.returns }

  abbrev function : (f : ℕ) (h : TFunction) (g : Routine) → slice_get program.functions f ≡ Some h → slice_get code.routines f ≡ Some g → IsFunctionCode program code f h g
  function f h g eh eg =
      let low = has.each f h g eh eg in
      let own = fine_at f h eh in
      record {
        layout = layout_of (rates_in program.functions) low.rows;
        numbers = low.numbers;
        compiled = made_compiled program code f h g low.rows low.numbers has.gang eh eg own (rated_at f h eh) (fits_at f h eh).free (is_made program.functions code h g own low) low.scalars_first low.vectors_first;
      }

  entry : (f : ℕ) (h : TFunction) (g : Routine) (eh : slice_get program.functions f ≡ Some h) (eg : slice_get code.routines f ≡ Some g) → h.exported ≡ true → IsEntry h g (function f h g eh eg).layout
  entry f h g eh eg out =
      let low = has.each f h g eh eg in
      let own = fine_at f h eh in
      made_entry program.functions code h g low.rows low.numbers own (is_made program.functions code h g own low)
      (ap result_of low.returns ∙ given_is h.answer ∙ sym own.gives)
      (record { takes = (fits_at f h eh).passed out; gives = gives_one h.answer ((fits_at f h eh).result out) })

  pub program_code : IsProgramCode program code
  program_code = record {
    gang = has.gang;
    compiled = record { count = has.count; each = function };
    named = λ f h g eh eg. ((has.each f h g eh eg).name, (has.each f h g eh eg).exported);
    entries = entry;
  }

  bodies : (f : ℕ) (g : Routine) → slice_get code.routines f ≡ Some g → IsBodyCode code g
  bodies f g eg =
      let h = source f g eg in
      let low = has.each f h.0 g h.1 eg in
      let own = fine_at f h.0 h.1 in
      made_accepted program.functions code h.0 g low.rows low.numbers own (is_made program.functions code h.0 g own low) head (rated_at f h.0 h.1)

  all_differ : all_new [] (map (λ g. g.name) code.routines) ≡ true
  all_differ = subst (λ z. all_new [] z ≡ true) (sym (names_same program.functions code.routines has.count (λ f h g eh eg. (has.each f h g eh eg).name))) accepted.fine.names

  headers : (f : ℕ) (g : Routine) → slice_get code.routines f ≡ Some g → header_fits (take f code.routines) g ≡ true
  headers f g eg =
      let h = source f g eg in
      let low = has.each f h.0 g h.1 eg in
      let own = fine_at f h.0 h.1 in
      let fits = fits_at f h.0 h.1 in
      head_fits (take f code.routines) g (new_name code.routines f g all_differ eg)
      (names_apart g h.0.parameters (parameters program.functions code h.0 g own low) own.names)
      (λ out. let is : h.0.exported ≡ true = sym low.exported
      ∙ out in exports (length h.0.params) h.0.parameters h.0.variables h.0.answer g own.params (fits.passed is)
      (gives_one h.0.answer (fits.result is)) low.params low.returns) low.three

  pub code_passes : code_fault code ≡ None
  code_passes = code_accepted code headers bodies

-- ---- the text of code can have it

all_of : {A : Type 0} (p : A → Bool) (xs : List A) → ((k : ℕ) (x : A) → slice_get xs k ≡ Some x → p x ≡ true) → list_all p xs ≡ true
all_of p [] each = refl
all_of p (x ∷ xs) each = and_from (p x) (list_all p xs) (each 0 x refl) (all_of p xs (λ k y e. each (suc k) y e))

pub routines_fit : (program : Program) (code : Listing) → IsAccepted program → HasCode program code → list_all parts_fit code.routines ≡ true
routines_fit program code accepted has =
    all_of parts_fit code.routines
    (λ f g eg.
    let h = source program code accepted has f g eg in
    let low = has.each f h.0 g h.1 eg in
    routine_parts_fit code g program.functions h.0 (fine_at program code accepted has f h.0 h.1)
    (fine_of ScopedFunction program.functions f h.0 accepted.scoped.each h.1) (body_sound code g (bodies program code accepted has f g eg))
    low.name low.params low.locals)

-- each number that an instruction names has 32 bits, where there are few places and texts: routines are short
pub numbers_fit : (program : Program) (code : Listing) → IsAccepted program → HasCode program code → length code.places ≤ 4294967296 → length code.texts ≤ 4294967296 → list_all has_small_numbers code.routines ≡ true
numbers_fit program code accepted has places texts =
    all_of has_small_numbers code.routines
    (λ f g eg.
    let h = source program code accepted has f g eg in
    let low = has.each f h.0 g h.1 eg in
    let fine = fine_at program code accepted has f h.0 h.1 in
    let same = ap length low.code_is in
    let most = function_long program.functions h.0.variables h.0.answer (layout_of (rates_in program.functions) low.rows) (λ i pc p k n is. absurd (cc)) low.constants h.0.body low.keeps.short fine.body 0 low.numbers in
    let twice = functions_twice program accepted f h.0 h.1 in
    let short : length g.code ≤ 4294967296 = omega (arith, same, most, twice, nodes_of_one program f h.0 h.1, accepted.fine.few) in
    numbers_small code g places texts short g.code (body_sound code g (bodies program code accepted has f g eg)))

pub lowered_agrees : LoweredAgrees
lowered_agrees = record {
  agrees = λ program code accepted has. program_agrees program code (program_code program code accepted has);
  accepted = λ program code accepted has. code_passes program code accepted has;
}
