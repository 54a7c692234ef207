-- A routine that is made from a function is what is asked of code.
use Rattle.std.proofs.Common.{◌≡◌, ℕ, suc, ◌+◌, ◌≤◌, List, [], ◌∷◌, length, Option, Some, None, refl, sym, subst, arith}
use Rattle.std.specs.Prelude.{slice_get, option_map}
use Rattle.std.proofs.lemmas.Option.{slice_get_within}
use Rattle.isp_base.specs.declared.types.Elem.{Elem}
use Rattle.isp_base.specs.declared.types.Rate.{Rate}
use Rattle.isp_base.specs.declared.types.Rate.TheVariants.{Uniform, Varying}
use Rattle.isp_base.specs.declared.types.Ty.{Ty}
use Rattle.isp_code.specs.Entries.{result_of}
use Rattle.isp_code.specs.Fine.{IsGiven}
use Rattle.isp_code.specs.Listing.{Listing, Routine}
use Rattle.isp_code.specs.Registers.{elem_of}
use Rattle.isp_typed.specs.Fine.{FineFunction}
use Rattle.isp_typed.specs.Typed.{Program, TFunction}
use Rattle.isp_lower_code.specs.Asks.{All}
use Rattle.isp_lower_code.specs.Callees.{rates_in}
use Rattle.isp_lower_code.specs.Layout.{register}
use Rattle.isp_lower_code.specs.FirstRows.{Begins, first_rows}
use Rattle.isp_lower_code.specs.Rows.{Rows, Result, HasRow, IsLoaded, layout_of}
use Rattle.isp_lower_code.specs.Setting.{AreAt}
use Rattle.isp_lower_code.specs.Sound.{HasMask, HasHeader, HasRegister}
use Rattle.isp_lower_code.specs.Tables.{AnyArray, IsLoadedIn}
use Rattle.isp_lower_code.proofs.Lemmas.{kept_there, layout_apart, register_there, all_grow}
use Rattle.isp_lower_code.specs.declared.constant.Constant.{Constant}
use Rattle.isp_masks_code.specs.Accepted.{IsBodyCode}
use Rattle.isp_masks_code.specs.Compiled.{ResultFits, IsCompiled, IsEntry}
use Rattle.isp_lower_code.specs.Header.{value_returned, returns_of}
use Rattle.isp_masks_code.specs.Made.{ResultRow, IsMade, IsUniform, GivesUniform}
use Rattle.isp_masks_code.specs.Spots.{Numbers}
use Rattle.isp_masks_code.specs.Statements.{block_places, block_texts, returned, function_code}
use Rattle.isp_masks_code.proofs.ArraysThere.{BodyPresent, body_present}
use Rattle.isp_masks_code.specs.Keeping.{Each, constants_asks}
use Rattle.isp_masks_code.proofs.Passing.{passed_first}
use Rattle.isp_masks_code.specs.Asks.{block_asks}
use Rattle.isp_masks_code.specs.Rated.{BlockRated}
use Rattle.isp_meaning.specs.Loads.{no_variable}
use Rattle.isp_masks_code.specs.Free.{BlockFree}

-- ---- lists

at_later : {A : Type 0} (x : A) (xs : List A) (n : ℕ) (ys : List A) → AreAt xs n ys → AreAt (x ∷ xs) (n + 1) ys
at_later x xs n [] is = tt
at_later x xs n (y ∷ ys) is =
    let e : suc n ≡ n + 1 = omega arith in
    (subst (λ m. slice_get (x ∷ xs) m ≡ Some y) e is.0, at_later x xs (n + 1) ys is.1)

at_whole : {A : Type 0} (xs : List A) → AreAt xs 0 xs
at_whole [] = tt
at_whole (x ∷ xs) = (refl, at_later x xs 0 xs (at_whole xs))

at_low : {A : Type 0} (xs : List A) (n : ℕ) (ys : List A) → n ≤ length xs → AreAt xs n ys → n + length ys ≤ length xs
at_low xs n [] le is = omega (arith, le)
at_low xs n (y ∷ ys) le is =
    let low = slice_get_within xs n y is.0 in
    let rest = at_low xs (n + 1) ys (omega (arith, low)) is.1 in
    omega (arith, rest)

module _ (fs : List TFunction) (code : Listing) (h : TFunction) (g : Routine) (rows : Rows) (z : Numbers) (fine : FineFunction fs h) (made : IsMade fs code h g rows z) where
  present : BodyPresent h g (layout_of (rates_in fs) rows) 3
  present =
      body_present fs h g (layout_of (rates_in fs) rows) fine made.arrays made.parameters 3
      (all_grow (HasRow rows) (HasRegister g (layout_of (rates_in fs) rows)) AnyArray AnyArray AnyArray AnyArray (HasMask g) (HasMask g)
      (IsLoaded rows) (IsLoadedIn (layout_of (rates_in fs) rows)) (register_there g (rates_in fs) rows made.types) (λ b z. z) (λ b z. z)
      (λ n z. z) (λ v z. z) (block_asks h.answer h.body 3) made.rows_are)

  given_at : (r : Rate) (t : Elem) → HasRegister g (layout_of (rates_in fs) rows) r Result t → IsGiven g (value_returned r t) (Some (register r ((layout_of (rates_in fs) rows).result r)))
  given_at Uniform t is = is
  given_at Varying t is = is

  given : (answer : Option Ty) → ResultRow rows answer → g.returns ≡ returns_of answer → IsGiven g g.returns (returned (layout_of (rates_in fs) rows) answer)
  given None row e = subst (λ z. IsGiven g z None) (sym e) tt
  given (Some t) row e =
      subst (λ z. IsGiven g z (Some (register t.rate ((layout_of (rates_in fs) rows).result t.rate)))) (sym e) (given_at t.rate t.elem (register_there g (rates_in fs) rows made.types t.rate Result t.elem row))

  -- what the code asks for that keeps constants
  there : (ks : List Constant) → All (HasRow rows) AnyArray AnyArray (HasMask g) (IsLoaded rows) (constants_asks 3 ks)
      → All (HasRegister g (layout_of (rates_in fs) rows)) AnyArray AnyArray (HasMask g) (IsLoadedIn (layout_of (rates_in fs) rows))
      (constants_asks 3 ks)
  there ks f =
      all_grow (HasRow rows) (HasRegister g (layout_of (rates_in fs) rows)) AnyArray AnyArray AnyArray AnyArray (HasMask g) (HasMask g)
      (IsLoaded rows) (IsLoadedIn (layout_of (rates_in fs) rows)) (register_there g (rates_in fs) rows made.types) (λ b z. z) (λ b z. z)
      (λ n z. z) (λ v z. z) (constants_asks 3 ks) f

  spares_typed : (ks : List Constant) → All (HasRegister g (layout_of (rates_in fs) rows)) AnyArray AnyArray (HasMask g)
      (IsLoadedIn (layout_of (rates_in fs) rows)) (constants_asks 3 ks)
      → Each (λ x. elem_of g (register Uniform ((layout_of (rates_in fs) rows).spare Uniform x.elem 3)) ≡ x.elem) ks
  spares_typed [] f = tt
  spares_typed (x ∷ xs) f = (f.1.0.1, spares_typed xs f.1.1)

  pub made_accepted : ((f : ℕ) (k : TFunction) → slice_get fs f ≡ Some k → HasHeader code f k) → BlockRated fs h.answer h.body → IsBodyCode code g
  made_accepted headers plain = record {
    layout = layout_of (rates_in fs) rows;
    answer = h.answer;
    body = h.body;
    numbers = z;
    code_is = made.code_is;
    functions = fs;
    variables = h.variables;
    fine = fine.body;
    rated = plain;
    links = record { rates = refl; headers = headers; constants = kept_there g (rates_in fs) rows made.types; rows = λ vars i n fine rated is. absurd (cc); sets = λ rs is. absurd (cc) };
    present = present.present;
    masks = made.masks;
    constants = made.constants;
    kept = made.keeps.all;
    spares = there made.constants made.spares;
    places = at_low code.places z.place (block_places (layout_of (rates_in fs) rows) h.body) made.low made.names.places_are;
    texts = at_low code.texts z.text (block_texts h.body) made.low_texts made.names.texts_are;
    given = given h.answer made.result made.returns;
  }

  result_fits : (answer : Option Ty) → h.gives ≡ option_map (λ t. t.elem) answer → ResultRow rows answer → GivesUniform answer → ResultFits g (layout_of (rates_in fs) rows) answer h.gives
  result_fits None e row u = e
  result_fits (Some t) e row u =
      (u, e, subst (λ r. elem_of g (register r ((layout_of (rates_in fs) rows).result r)) ≡ t.elem) u (register_there g (rates_in fs) rows made.types t.rate Result t.elem row).1)

  pub made_entry : result_of g.returns ≡ h.gives → IsUniform h → IsEntry h g (layout_of (rates_in fs) rows)
  made_entry result uniform = record { parameters = made.parameters; result = result; one = uniform.takes; gives = result_fits h.answer fine.gives made.result uniform.gives }

pub made_compiled : (program : Program) (code : Listing) (f : ℕ) (h : TFunction) (g : Routine) (rows : Rows) (z : Numbers) → code.gang ≡ program.gang
    → slice_get program.functions f ≡ Some h → slice_get code.routines f ≡ Some g → FineFunction program.functions h
    → BlockRated program.functions h.answer h.body → BlockFree no_variable h.body → IsMade program.functions code h g rows z
    → Begins (first_rows h.variables h.answer).scalars rows.scalars → Begins (first_rows h.variables h.answer).vectors rows.vectors
    → IsCompiled program code f h g (layout_of (rates_in program.functions) rows) z
made_compiled program code f h g rows z gang source found fine plain free made scalars vectors = record {
  gang = gang;
  source = source;
  found = found;
  apart = layout_apart (rates_in program.functions) rows;
  rates = refl;
  fine = fine;
  passed = passed_first h (rates_in program.functions) rows scalars vectors;
  code_is = subst (λ c. AreAt c 0 (function_code (layout_of (rates_in program.functions) rows) h.answer made.constants h.body 0 z)) (sym made.code_is)
      (at_whole (function_code (layout_of (rates_in program.functions) rows) h.answer made.constants h.body 0 z));
  names = made.names;
  rated = plain;
  free = free;
  run = refl;
  outside = refl;
  known = λ v. refl;
  rows = λ i n. refl;
  sets = λ rs. refl;
  constants = made.constants;
  keeps = made.keeps;
  kept_typed = λ r t b e. (kept_there g (rates_in program.functions) rows made.types r t b e).1;
  spares_typed = spares_typed program.functions code h g rows z fine made made.constants (there program.functions code h g rows z fine made made.constants made.spares);
  named = (present program.functions code h g rows z fine made).named;
  arrays = made.arrays;
}
