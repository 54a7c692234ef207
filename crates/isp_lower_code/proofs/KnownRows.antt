-- Where variables are known, the code of an index that counts on from a scalar does what `RowRuns` asks, has its operands, and is short.
use Rattle.std.proofs.Common.{◌≡◌, ℕ, ◌+◌, ◌*◌, ◌<◌, ◌≤◌, length, List, Bool, true, false, ◌⊎◌, inl, inr, refl, sym, ap, ◌∙◌, subst, arith}
use Rattle.std.proofs.lemmas.Bool.{cases_eq}
use Rattle.std.specs.Prelude.{not, ◌&&◌, ◌||◌}
use Rattle.isp_base.specs.Sets.{Mask}
use Rattle.isp_base.specs.Types.{gang_width}
use Rattle.isp_base.specs.declared.types.Elem.{Elem}
use Rattle.isp_base.specs.declared.types.Rate.{Rate}
use Rattle.isp_base.specs.declared.types.Rate.TheVariants.{Uniform, Varying}
use Rattle.isp_base.specs.declared.types.Span.{Span}
use Rattle.isp_base.specs.declared.types.Ty.{Ty}
use Rattle.isp_code.specs.Conf.{Conf}
use Rattle.isp_code.specs.Listing.{Listing, Routine}
use Rattle.isp_code.specs.Registers.{elem_of}
use Rattle.isp_typed.specs.Fine.{FineExpr}
use Rattle.isp_typed.specs.Typed.{TExpr, TFunction, type_of}
use Rattle.isp_typed.specs.declared.variable.ArrayVariable.{ArrayVariable}
use Rattle.isp_typed.specs.declared.variable.Variable.{Variable}
use Rattle.isp_meaning.specs.Expressions.{value}
use Rattle.isp_meaning.specs.Loads.{KeepsBy, loads}
use Rattle.isp_meaning.specs.Outcomes.{Val, Gives, Fails, Stops}
use Rattle.isp_meaning.specs.Payloads.{Payload}
use Rattle.isp_meaning.specs.State.{State}
use Rattle.isp_meaning.proofs.Loads.{variables_stay}
use Rattle.isp_steady.specs.Alone.{alone, single}
use Rattle.isp_steady.specs.Known.{Known, Unknown, Steady, Linear, is_known, elem_at, AreAsKnown}
use Rattle.isp_steady.specs.Linear.{linear}
use Rattle.isp_steady.specs.Singled.{singled}
use Rattle.isp_steady.specs.Steady.{steady}
use Rattle.isp_steady.specs.Values.{IsCounted}
use Rattle.isp_steady.proofs.Lemmas.{both, scalars_are_fine}
use Rattle.isp_lower_code.specs.Asks.{expr_asks}
use Rattle.isp_lower_code.specs.Code.{expr_code}
use Rattle.isp_lower_code.specs.Elements.{counts}
use Rattle.isp_lower_code.specs.Fits.{InTable}
use Rattle.isp_lower_code.specs.Found.{found}
use Rattle.isp_lower_code.specs.Layout.{HasNoRows, IsApart, KnowsNothing, Layout, register}
use Rattle.isp_lower_code.specs.RowCode.{IsRowType, row_asks}
use Rattle.isp_lower_code.specs.RowLayout.{KnownRows, MayKnow, RowsShort, is_row_type, knowing, row_index_asks, with_known}
use Rattle.isp_lower_code.specs.Runs.{Enters, Runs}
use Rattle.isp_lower_code.specs.Scalar.{IsBy, ScalarsHold}
use Rattle.isp_lower_code.specs.Setting.{ArrayFitsAt, AreAt, IsScalar, IsSettled, IsUniform, OfConstant, OfSlot, OfUniform, OfKnown, RowRuns, Setting, Spares, Stands, calls_of, gang_of}
use Rattle.isp_lower_code.specs.Sound.{Granted, IsRegister, Links, PartSound, RowLinked}
use Rattle.isp_lower_code.specs.Spans.{expr_places}
use Rattle.isp_lower_code.proofs.CodeLengths.{expr_long}
use Rattle.isp_lower_code.proofs.Fitting.{expr_parts}
use Rattle.isp_lower_code.proofs.Fixed.{known_on, known_part, unknown_holds}
use Rattle.isp_lower_code.proofs.Found.{found_placed, found_typed}
use Rattle.isp_lower_code.proofs.Kept.{Placed}
use Rattle.isp_lower_code.proofs.KnownTables.{granted_known, table_known}
use Rattle.isp_lower_code.proofs.Linears.{alone_nodes, linear_loads, linear_not}
use Rattle.isp_lower_code.proofs.Parts.{ExprParts}
use Rattle.isp_lower_code.proofs.Rated.{expr_tree}
use Rattle.isp_lower_code.proofs.Scalar.{one_was, scalar_runs, settled, singled_in, table}
use Rattle.isp_lower_code.proofs.ScalarPlaces.{places_by}
use Rattle.isp_lower_code.proofs.ScalarRates.{alone_rated}
use Rattle.isp_lower_code.proofs.SoundExprs.{value_sound}
use Rattle.isp_lower_code.proofs.SoundFound.{found_there}

-- ---- what is said of an index that is taken as a row

row_typed : (t : Elem) → is_row_type t ≡ true → IsRowType t
row_typed t e = record { whole = λ same. no (ap is_row_type same); narrow = λ same. no (ap is_row_type same) }
  where
    no : is_row_type t ≡ false → ⊥
    no h = let n : true ≡ false = sym e ∙ h in cc

-- one of three slots
one_slot : (P : ℕ → Type 0) (n m : ℕ) → n < m → m ≤ n + 3 → P (n + 1) → P (n + 2) → P (n + 3) → P m
one_slot P n m lt le x y z = go (cases_eq m (n + 1)) (cases_eq m (n + 2))
  where
    go : (m ≡ n + 1) ⊎ (m ≡ n + 1 → ⊥) → (m ≡ n + 2) ⊎ (m ≡ n + 2 → ⊥) → P m
    go (inl e) h = subst P (sym e) x
    go (inr ne) (inl e) = subst P (sym e) y
    go (inr ne) (inr nf) = let e : m ≡ n + 3 = omega (arith, lt, le, ne, nf) in subst P (sym e) z

module _ (known : ℕ → Known) (there : TExpr → ℕ → Bool) (l : Layout) where
  record IsRow (i : TExpr) (n : ℕ) : Type 0 where
    pub linear_is : linear known i ≡ true
    pub type_is : IsRowType (type_of i).elem
    pub there_is : there i n ≡ true

  row_is : (i : TExpr) (n : ℕ) → (with_known known there l).is_row i n ≡ true → IsRow i n
  row_is i n e =
      let one = both (linear known i) (is_row_type (type_of i).elem && (not (counts l i) && there i n)) e in
      let two = both (is_row_type (type_of i).elem) (not (counts l i) && there i n) one.1 in
      let three = both (not (counts l i)) (there i n) two.1 in
      record { linear_is = one.0; type_is = row_typed (type_of i).elem two.0; there_is = three.1 }

or_known : (a b : Bool) → b ≡ true → (a || b) ≡ true
or_known true b e = refl
or_known false b e = e

-- ---- the machine stands for a state

module _ (w : Setting) (known : ℕ → Known) (there : TExpr → ℕ → Bool) where
  stands_there : (s : State) (c : Conf) → Stands w s c → AreAsKnown w.function.variables known (λ v. c.scalars (w.layout.variable Uniform v)) w.members s → Stands (knowing w known there) s c
  stands_there s c f are =
      record { uniforms = f.uniforms; varying = f.varying; result = f.result; results = f.results; own_arrays = f.own_arrays; arrays_are = f.arrays_are; out_is = f.out_is; run = f.run; known = are; constants = f.constants }

  stands_back : (s : State) (c : Conf) → KnowsNothing w.layout → Stands (knowing w known there) s c → Stands w s c
  stands_back s c nothing f =
      record {
        uniforms = f.uniforms;
        varying = f.varying;
        result = f.result;
        results = f.results;
        own_arrays = f.own_arrays;
        arrays_are = f.arrays_are;
        out_is = f.out_is;
        run = f.run;
        known = unknown_holds w.function.variables w.layout w.members c.scalars s.varying nothing;
        constants = f.constants;
      }

  spares_there : (n : ℕ) (c c1 : Conf) → ScalarsHold w.layout known (λ v. c.scalars (w.layout.variable Uniform v)) c1 → Spares w n c c1 → Spares (knowing w known there) n c c1
  spares_there n c c1 hold f =
      record { scalars_stay = f.scalars_stay; vectors_stay = f.vectors_stay; fresh_scalars = f.fresh_scalars; fresh_vectors = f.fresh_vectors; singles_stay = hold }

-- ---- the code of an index

module _ (w : Setting) (known : ℕ → Known) (there : TExpr → ℕ → Bool) (ready : IsSettled w) (may : MayKnow w known there) (i : TExpr) (n : ℕ)
    (fine : FineExpr w.program.functions w.function.variables i) (row : IsRow known there w.layout i n) where
  abbrev known_in : Setting
  known_in = knowing w known there

  abbrev single_in : Setting
  single_in = singled_in w known

  abbrev at : ℕ
  at = found w.layout (alone i) n

  counts_on : (steady known i || linear known i) ≡ true
  counts_on = or_known (steady known i) (linear known i) row.linear_is

  asked : InTable w (row_index_asks i n)
  asked = may.registers i n row.there_is

  fine_alone : FineExpr w.program.functions (singled known w.function.variables) (alone i) × (type_of (alone i) ≡ single (type_of i))
  fine_alone = scalars_are_fine w.program.functions w.function.variables known i fine counts_on

  parts : ExprParts single_in (alone i) n
  parts = expr_parts single_in (alone i) n (record { fine = fine_alone.0; rated = alone_rated w.program.functions known i counts_on; named = table w known (expr_asks (alone i) n) asked.0 })

  sure : IsSettled single_in
  sure = settled w known ready may.rows may.nothing

  typed : elem_of w.routine (register Uniform at) ≡ (type_of i).elem
  typed = subst (λ (z : Ty). elem_of w.routine (register z.rate at) ≡ z.elem) fine_alone.1 (found_typed single_in sure (alone i) n parts)

  -- a variable that is read in place is uniform, or known
  in_place : (v : ℕ) (k : Known) → known v ≡ k → at ≡ w.layout.variable Uniform v → IsUniform (singled known w.function.variables) v → IsScalar known_in n at
  in_place v Unknown e is h = OfUniform v (one_was known w.function.variables v e h) is
  in_place v Steady e is h = OfKnown v (ap is_known e) is
  in_place v Linear e is h = OfKnown v (ap is_known e) is

  scalar : IsScalar known_in n at
  scalar = by (subst (λ (z : Ty). Placed single_in z.rate n at) fine_alone.1 (found_placed single_in sure (alone i) n parts))
    where
      by : Placed single_in Uniform n at → IsScalar known_in n at
      by (inl v) = in_place v.0 (known v.0) refl v.2 v.3
      by (inr (inl t)) = OfSlot t.0 t.1
      by (inr (inr k)) = OfConstant k.0 k.1 k.2 k.3

  -- what it leaves
  module _ (a : Mask) (s : State) (c : Conf) (stands : Stands known_in s c) where
    abbrev scalars : ℕ → ℕ
    scalars v = c.scalars (w.layout.variable Uniform v)

    over : (end q : ℕ) (v : Val Payload) → KeepsBy (loads i) s v
        → Runs w c end n q (λ m c1. IsBy (steady known i) (type_of i).elem a (c1.scalars at) m × ScalarsHold w.layout known scalars c1) v
        → Runs known_in c end n q (λ m c1. IsCounted (type_of i).elem a (c1.scalars at) m) v
    over end q (Gives m s1) keeps r = record {
      conf = r.conf;
      steps = r.steps;
      comes = r.comes;
      at = r.at;
      stands = stands_there w known there s1 r.conf r.stands
          (known_on w.function.variables (with_known known there w.layout) w.members c.scalars r.conf.scalars s.varying s1.varying
          (λ v e. r.holds.1 v e) (λ v e. keeps.1 v (linear_loads known v i row.linear_is)) stands.known);
      spares = spares_there w known there n c r.conf r.holds.1 r.spares;
      masks = r.masks;
      holds = subst (λ d. IsBy d (type_of i).elem a (r.conf.scalars at) m) (linear_not known i row.linear_is) r.holds.0;
      bound = r.bound;
    }
    over end q (Fails t s1) keeps r = r
    over end q (Stops s1) keeps r = r

  abbrev Ran : (pc p k q : ℕ) (a : Mask) (s : State) (c : Conf) → Type 0
  Ran pc p k q a s c =
      Runs known_in c (pc + length (expr_code w.layout (alone i) pc p k n)) n (4 + q) (λ m c1. IsCounted (type_of i).elem a (c1.scalars at) m) (value (gang_of w) w.frame (calls_of w) i a s)

  row_ran : (pc p k q : ℕ) (a : Mask) (s : State) (c : Conf) → AreAt w.routine.code pc (expr_code w.layout (alone i) pc p k n)
      → AreAt w.code.places p (expr_places (with_known known there w.layout) i) → Enters known_in pc k n a s c q → Ran pc p k q a s c
  row_ran pc p k q a s c has places b =
      over a s c b.stands (pc + length (expr_code w.layout (alone i) pc p k n)) (4 + q) (value (gang_of w) w.frame (calls_of w) i a s) keeps
      (scalar_runs w known ready may.rows may.nothing (scalars a s c b.stands) i pc p k n q a s c fine counts_on (λ v e. (may.variables v e).varying) asked.0 has
      (subst (AreAt w.code.places p) (sym (places_by w.layout (with_known known there w.layout) known i counts_on)) places) are (λ v e. refl)
      (record { at = b.at; mask = b.mask; some = b.some; inside = b.inside; stands = stands_back w known there s c may.nothing b.stands; used = b.used; low = b.low }))
    where
      keeps : KeepsBy (loads i) s (value (gang_of w) w.frame (calls_of w) i a s)
      keeps = subst (λ g. KeepsBy (loads i) s (value (gang_width g) w.frame (calls_of w) i a s)) (sym ready.gang) (variables_stay w.program w.turns w.left w.frame i a s)

      are : AreAsKnown w.function.variables known (scalars a s c b.stands) a s
      are v = known_part (known v) (elem_at w.function.variables v) (scalars a s c b.stands v) (s.varying v) w.members a (λ r on. (b.inside r on).1 may.inside) (b.stands.known v)

  row_runs : RowRuns known_in i n
  row_runs = record {
    row = row.type_is;
    typed = typed;
    scalar = scalar;
    table = λ m lt le. one_slot (λ j. InTable known_in (row_asks (type_of i).elem j)) n m lt le asked.1.0 asked.1.1.0 asked.1.1.1;
    runs = row_ran;
  }

-- ---- the call

apart_known : (known : ℕ → Known) (there : TExpr → ℕ → Bool) (l : Layout) → IsApart l → IsApart (with_known known there l)
apart_known known there l a = record {
  variables = a.variables;
  spares = a.spares;
  variable_spare = a.variable_spare;
  result_variable = a.result_variable;
  result_spare = a.result_spare;
  place_variable = a.place_variable;
  place_result = a.place_result;
  place_spare = a.place_spare;
  freshes = a.freshes;
  variable_fresh = a.variable_fresh;
  result_fresh = a.result_fresh;
  spare_fresh = a.spare_fresh;
  place_fresh = a.place_fresh;
  arrays = a.arrays;
  constants = a.constants;
  kept_variable = a.kept_variable;
  kept_result = a.kept_result;
  kept_spare = a.kept_spare;
  kept_place = a.kept_place;
  kept_fresh = a.kept_fresh;
}

module _ (w : Setting) (known : ℕ → Known) (there : TExpr → ℕ → Bool) where
  arrays_at : (r : Rate) (b : ArrayVariable) → ArrayFitsAt w r b → ArrayFitsAt (knowing w known there) r b
  arrays_at Uniform b f = f
  arrays_at Varying b f = f

  known_settled : IsSettled w → MayKnow w known there → IsSettled (knowing w known there)
  known_settled f may =
      record {
        gang = f.gang;
        found = f.found;
        apart = apart_known known there w.layout f.apart;
        rates = f.rates;
        deep = f.deep;
        answer = f.answer;
        opened = f.opened;
        sizes = f.sizes;
        arrays = λ b held. let g = f.arrays b held in record { is = arrays_at b.ty.rate b g.is; below = g.below; few = g.few };
        calls = λ k g pc q sp a ps s c is. f.calls k g pc q sp a ps s c
            (record { function = is.function; here = is.here; place = is.place; at = is.at; mask = is.mask; some = is.some; inside = is.inside; hands = is.hands; result = is.result; arrays_are = is.arrays_are; out_is = is.out_is; used = is.used });
        counter = λ i is. let k = f.counter i is in record { typed = k.typed; constant = k.constant; unloaded = k.unloaded };
        known = λ v e. let k = may.variables v e in record { varying = k.varying; constant = k.constant; unloaded = k.unloaded };
        constants = f.constants;
        rows = λ i n fine is. row_runs w known there f may i n fine (row_is known there w.layout i n is);
        sets = λ rs is.
            let s = f.sets rs is in
            record { apart = s.apart; typed = s.typed; unloaded = s.unloaded; there = λ i n e. table_known known there w.layout w.routine w.function.variables (row_index_asks i n) (s.there i n e) };
      }

-- ---- its instructions have their operands

module _ (fs : List TFunction) (code : Listing) (h : Routine) (l : Layout) (known : ℕ → Known) (there : TExpr → ℕ → Bool) (links : Links fs code h l)
    (granted : (i : TExpr) (n : ℕ) → there i n ≡ true → Granted h l (row_index_asks i n)) where
  row_linked : (vars : List Variable) (i : TExpr) (n : ℕ) → FineExpr fs vars i → IsRow known there l i n → RowLinked code h (with_known known there l) i n
  row_linked vars i n fine row =
      let on = or_known (steady known i) (linear known i) row.linear_is in
      let alone_fine = scalars_are_fine fs vars known i fine on in
      let asked = granted i n row.there_is in
      let tree = expr_tree fs (singled known vars) (alone i) alone_fine.0 (alone_rated fs known i on) in
      record {
        row = row.type_is;
        scalar = subst (λ (z : Ty). IsRegister h z.rate (found l (alone i) n) z.elem) alone_fine.1 (found_there fs h l links.constants (alone i) n tree asked.0);
        granted = λ m lt le. one_slot (λ j. Granted h (with_known known there l) (row_asks (type_of i).elem j)) n m lt le asked.1.0 asked.1.1.0 asked.1.1.1;
        sound = subst (λ (ps : List Span). PartSound code h ps (λ pc p k. expr_code l (alone i) pc p k n)) (places_by l (with_known known there l) known i on) (value_sound fs code h l links (alone i) n tree asked.0);
      }

  known_linked : Links fs code h (with_known known there l)
  known_linked =
      record {
        rates = links.rates;
        headers = links.headers;
        constants = links.constants;
        rows = λ vars i n fine rated is. row_linked vars i n fine (row_is known there l i n is);
        sets = λ rs is. let s = links.sets rs is in record { singles = s.singles; there = λ i n e. granted_known known there l h (row_index_asks i n) (s.there i n e) };
      }

-- ---- it is short

known_short : (l : Layout) (known : ℕ → Known) (there : TExpr → ℕ → Bool) → HasNoRows l → RowsShort (with_known known there l)
known_short l known there none i pc p k n is =
    subst (λ m. length (expr_code l (alone i) pc p k n) + 8 ≤ 32 * m) (alone_nodes i) (expr_long l (λ j pc1 p1 k1 m e. absurd (let no : true ≡ false = sym e ∙ none j m in cc)) (alone i) pc p k n)

pub known_rows : KnownRows
known_rows = record {
  settled = known_settled;
  stands = stands_there;
  back = stands_back;
  linked = known_linked;
  short = known_short;
}
