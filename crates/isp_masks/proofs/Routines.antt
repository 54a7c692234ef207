-- A routine from its parts.
use Rattle.std.proofs.Common.{◌≡◌, ℕ, suc, ◌+◌, ◌<◌, ◌≤◌, List, [], ◌∷◌, ◌++◌, length, refl, sym, ap, subst, ◌∙◌, arith, append_assoc, append-nil, length-append, drop, Option, Some, None, slice_get}
use Rattle.std.proofs.Math.Seq.{drop-append_seam}
use Rattle.std.proofs.lemmas.List.{map-append}
use Rattle.isp_base.specs.declared.types.Ty.{Ty}
use Rattle.isp_base.specs.declared.signature.Parameter.{Parameter}
use Rattle.isp_base.specs.declared.types.Elem.{Elem}
use Rattle.isp_base.specs.declared.types.Rate.{Rate}
use Rattle.isp_base.specs.declared.types.Rate.TheVariants.{Uniform, Varying}
use Rattle.isp_code.specs.Listing.{Routine}
use Rattle.isp_code.specs.Registers.{class_of, if_class, param_elems, same_class}
use Rattle.isp_code.specs.declared.function.Param.{Param}
use Rattle.isp_code.specs.declared.instr.Instr.{Instr}
use Rattle.isp_code.specs.declared.register.Class.TheVariants as class
use Rattle.isp_meaning.specs.Calls.{same_rate}
use Rattle.isp_lower_code.specs.Callees.{rates_in}
use Rattle.isp_lower_code.specs.FirstRows.{Begins, first_rows, result_rows, row_at, row_where, value_row, value_rows}
use Rattle.isp_registers.specs.Growth.{HasArray, Longer, HasRow, rows_of, HasLoaded}
use Rattle.isp_lower.specs.Emitted.{texts_of}
use Rattle.isp_lower_code.specs.Layout.{Layout, class_at}
use Rattle.isp_lower_code.specs.Room.{masks_with}
use Rattle.isp_lower_code.specs.Rows.{Row, Rows, layout_of}
use Rattle.isp_lower_code.specs.Setting.{AreAt}
use Rattle.isp_lower_code.specs.Asks.{All, Ask, Both}
use Rattle.isp_lower_code.specs.declared.constant.Constant.{Constant}
use Rattle.isp_registers.specs.declared.registers.Registers.{Registers}
use Rattle.isp_lower.specs.declared.types.Body.{Body}
use Rattle.isp_lower_code.specs.Tables.{AnyArray}
use Rattle.isp_lower_code.proofs.Lemmas.{all_grow}
use Rattle.isp_typed.specs.Fine.{FineFunction}
use Rattle.isp_typed.specs.Nodes.{block_nodes}
use Rattle.isp_typed.specs.Typed.{TFunction}
use Rattle.isp_typed.specs.declared.variable.Holds.{Holds}
use Rattle.isp_typed.specs.declared.variable.Holds.TheVariants as holds
use Rattle.isp_typed.specs.declared.variable.Variable.{Variable as Declared}
use Rattle.isp_lower.specs.Drafts.{Draft, begun, routine_at_work}
use Rattle.isp_lower_code.specs.Header.{heading_of, locals_of, param_of, params_of, returns_of, routine_with, types_of, value_kind}
use Rattle.isp_registers.specs.Reserved.{Has, IsReserved}
use Rattle.isp_registers.specs.declared.reserve.Reserve.{Reserve}
use Rattle.isp_masks.specs.Added.{AddsLowered}
use Rattle.isp_masks_code.specs.Lowered.{IsLowered}
use Rattle.isp_masks_code.specs.Again.{block_again}
use Rattle.isp_masks_code.specs.Asks.{block_asks, result_asks}
use Rattle.isp_masks_code.specs.Keeping.{KeepsThem, constants_asks}
use Rattle.isp_masks.specs.AtWork.{next_of}
use Rattle.isp_masks_code.specs.Statements.{block_places, block_texts, function_code}
use Rattle.isp_masks.specs.Written.{Piece, Writes}
use Rattle.isp_masks_code.proofs.Lemmas.{block_places_few, block_texts_few, block_placed, block_told}

-- ---- registers: those of the parameters come first

-- by the rate that a value has
value_type : (r q : Rate) (k : ℕ) (e : Elem) (rows : List Row) (ts rest : List Elem) → types_of rows ≡ ts ++ rest
    → types_of (row_where (same_rate r q) (row_at k e) rows) ≡ if_class (same_class (class_of (value_kind q)) (class_at r)) e ts ++ rest
value_type Uniform Uniform k e rows ts rest is = ap (λ z. e ∷ z) is
value_type Uniform Varying k e rows ts rest is = is
value_type Varying Uniform k e rows ts rest is = is
value_type Varying Varying k e rows ts rest is = ap (λ z. e ∷ z) is

array_type : (r : Rate) (k : ℕ) (e : Elem) (rows : List Row) (ts rest : List Elem) → types_of rows ≡ ts ++ rest → types_of rows ≡ if_class (same_class class.Array (class_at r)) e ts ++ rest
array_type Uniform k e rows ts rest is = is
array_type Varying k e rows ts rest is = is

one_type : (r : Rate) (k : ℕ) (p : Parameter) (h : Holds) (rows : List Row) (ps : List Param) (rest : List Elem) → types_of rows ≡ param_elems (class_at r) ps ++ rest
    → types_of (value_row r h k rows) ≡ param_elems (class_at r) (param_of p h ∷ ps) ++ rest
one_type r k p (holds.Value t) rows ps rest is = value_type r t.rate k t.elem rows (param_elems (class_at r) ps) rest is
one_type r k p (holds.Given t) rows ps rest is = array_type r k t rows (param_elems (class_at r) ps) rest is
one_type r k p (holds.Local t n) rows ps rest is = array_type r k t.elem rows (param_elems (class_at r) ps) rest is

values_first : (r : Rate) (k : ℕ) (ps : List Parameter) (vs : List Declared) → (rest : List Elem) × (types_of (value_rows r k vs) ≡ param_elems (class_at r) (params_of ps vs) ++ rest)
values_first r k [] vs = (types_of (value_rows r k vs), refl)
values_first r k (p ∷ ps) [] = ([], refl)
values_first r k (p ∷ ps) (v ∷ vs) = let w = values_first r (suc k) ps vs in (w.0, one_type r k p v.holds (value_rows r (suc k) vs) (params_of ps vs) w.0 w.1)

refilled : (ts ps rest : List Elem) → ts ≡ ps ++ rest → ps ++ drop (length ps) ts ≡ ts
refilled ts ps rest is = ap (λ z. ps ++ drop (length ps) z) is ∙ ap (λ z. ps ++ z) (drop-append_seam ps rest) ∙ sym is

-- all registers of a class: the parameters, and those after them
registers_are : (r : Rate) (ps : List Parameter) (vs : List Declared) (more : List Row) (rows : List Row) (params : List Param) (types : List Elem) → params ≡ params_of ps vs → rows ≡ value_rows r 0 vs ++ more
    → types ≡ drop (length (param_elems (class_at r) params)) (types_of rows) → param_elems (class_at r) params ++ types ≡ types_of rows
registers_are r ps vs more rows params types is all behind =
    let w = values_first r 0 ps vs in
    let front = param_elems (class_at r) params in
    let same : front ≡ param_elems (class_at r) (params_of ps vs) = ap (param_elems (class_at r)) is in
    let long : types_of rows ≡ front ++ (w.0 ++ types_of more) =
    ap types_of all ∙ map-append (λ (y : Row). y.elem) (value_rows r 0 vs) more ∙ ap (λ z. z ++ types_of more) w.1 ∙ append_assoc (param_elems (class_at r) (params_of ps vs)) w.0 (types_of more) ∙ ap (λ z. z ++ (w.0 ++ types_of more)) (sym same) in
    ap (λ z. front ++ z) behind ∙ refilled (types_of rows) front (w.0 ++ types_of more) long

-- ---- places and texts

get_seam : {A : Type 0} (xs : List A) (y : A) (zs : List A) → slice_get (xs ++ y ∷ zs) (length xs) ≡ Some y
get_seam [] y zs = refl
get_seam (x ∷ xs) y zs = get_seam xs y zs

pub at_seam : {A : Type 0} (xs ys zs : List A) → AreAt (xs ++ (ys ++ zs)) (length xs) ys
at_seam xs [] zs = tt
at_seam xs (y ∷ ys) zs = (
  get_seam xs y (ys ++ zs),
  subst (λ z. AreAt z (length xs + 1) ys) (append_assoc xs (y ∷ []) (ys ++ zs))
      (subst (λ n. AreAt ((xs ++ y ∷ []) ++ (ys ++ zs)) n ys) (length-append xs (y ∷ [])) (at_seam (xs ++ y ∷ []) ys zs)),
)

-- ---- a routine

-- the code of a body, and what it gives back
abbrev body_piece : Layout → List Constant → TFunction → Piece
body_piece l ks h = record { code = function_code l h.answer ks h.body; places = block_places l h.body; texts = block_texts h.body }

pub lowered : (fs : List TFunction) (h : TFunction) (g : Routine) (ks : List Constant) (z r : Registers) (a b : Body) → a.code.items ≡ [] → rows_of z ≡ first_rows h.variables h.answer → Longer z r → KeepsThem (layout_of (rates_in fs) (rows_of r)) ks
    → Writes a b (body_piece (layout_of (rates_in fs) (rows_of r)) ks h)
    → g.name ≡ h.name → g.exported ≡ h.exported → g.params ≡ params_of h.parameters h.variables → g.returns ≡ returns_of h.answer → g.locals ≡ locals_of h.variables
    → g.scalars ≡ drop (length (param_elems class.Scalar g.params)) (types_of (rows_of r).scalars)
    → g.vectors ≡ drop (length (param_elems class.Vector g.params)) (types_of (rows_of r).vectors)
    → All (HasRow r) (HasArray r) (HasArray r) (λ k. k < g.masks) (HasLoaded r) (Both (constants_asks 3 ks) (block_asks h.answer h.body 3)) → 3 ≤ g.masks → g.masks ≡ masks_with 3 (Both (constants_asks 3 ks) (block_asks h.answer h.body 3)) → g.code ≡ b.code.items
    → IsLowered fs h g b.places.items (texts_of b)
lowered fs h g ks z r a b none first grows keeps y name exported params returns locals scalars vectors present three masks code =
    let l = layout_of (rates_in fs) (rows_of r) in
    let rows = subst (λ (q : Rows). Begins q.scalars (rows_of r).scalars × Begins q.vectors (rows_of r).vectors × Begins q.arrays (rows_of r).arrays) first (grows.scalars, grows.vectors, grows.arrays) in
    let part : List Instr → List Instr = λ before. before ++ function_code l h.answer ks h.body (length before) (next_of a) in
    record {
      name = name;
      exported = exported;
      params = params;
      returns = returns;
      locals = locals;
      rows = rows_of r;
      scalars_first = rows.0;
      vectors_first = rows.1;
      arrays_first = rows.2;
      scalars = registers_are Uniform h.parameters h.variables (result_rows Uniform h.answer ++ rows.0.more) (rows_of r).scalars g.params g.scalars params
          (rows.0.is ∙ append_assoc (value_rows Uniform 0 h.variables) (result_rows Uniform h.answer) rows.0.more) scalars;
      vectors = registers_are Varying h.parameters h.variables (result_rows Varying h.answer ++ rows.1.more) (rows_of r).vectors g.params g.vectors params
          (rows.1.is ∙ append_assoc (value_rows Varying 0 h.variables) (result_rows Varying h.answer) rows.1.more) vectors;
      three = three;
      masks_are = masks;
      constants = ks;
      keeps = keeps;
      present = rows_there (block_asks h.answer h.body 3) present.1;
      spares = rows_there (constants_asks 3 ks) present.0;
      numbers = next_of a;
      low = let n = ap length y.places ∙ length-append a.places.items (block_places l h.body) in omega (arith, n);
      low_texts = let n = ap length y.texts ∙ length-append (texts_of a) (block_texts h.body) in omega (arith, n);
      code_is = code ∙ y.code ∙ ap part none;
      places_are = subst (λ z. AreAt z (length a.places.items) (block_places l h.body)) (ap (λ z. a.places.items ++ z) (append-nil (block_places l h.body)) ∙ sym y.places) (at_seam a.places.items (block_places l h.body) []);
      texts_are = subst (λ z. AreAt z (length (texts_of a)) (block_texts h.body)) (ap (λ z. texts_of a ++ z) (append-nil (block_texts h.body)) ∙ sym y.texts) (at_seam (texts_of a) (block_texts h.body) []);
    }
  where
    rows_there : (x : Ask) → All (HasRow r) (HasArray r) (HasArray r) (λ k. k < g.masks) (HasLoaded r) x → All (HasRow r) AnyArray AnyArray (λ k. k < g.masks) (HasLoaded r) x
    rows_there x f = all_grow (HasRow r) (HasRow r) (HasArray r) AnyArray (HasArray r) AnyArray (λ k. k < g.masks) (λ k. k < g.masks) (HasLoaded r) (HasLoaded r) (λ q y t z. z) (λ v z. tt) (λ v z. tt) (λ k z. z) (λ v z. z) x f

-- the function at work, whose registers are reserved and whose body is written, is added
pub adds : (h : TFunction) (ks : List Constant) (old d : Draft) (z r : Reserve) (a b : Body) → d ≡ begun h old → a.code.items ≡ d.code → a.places.items ≡ d.places → texts_of a ≡ d.texts → rows_of z.registers ≡ d.rows → z.masks ≡ d.masks
    → Longer z.registers r.registers → z.masks ≤ r.masks → r.masks ≡ masks_with z.masks (Both (constants_asks 3 ks) (block_asks h.answer h.body 3)) → KeepsThem (layout_of (rates_in d.callees) (rows_of r.registers)) ks → Has r (Both (constants_asks 3 ks) (block_asks h.answer h.body 3))
    → Writes a b (body_piece (layout_of (rates_in d.callees) (rows_of r.registers)) ks h)
    → (fs : List TFunction) → FineFunction fs h → block_again h.body ≤ block_nodes h.body
    → AddsLowered h old (record d { places = b.places.items; texts = texts_of b; rows = rows_of r.registers; masks = r.masks; code = b.code.items })
adds h ks old d z r a b is code places texts rows masks grows more asked keeps has y fs fine twice =
    let l = layout_of (rates_in d.callees) (rows_of r.registers) in
    let begins : z.masks ≡ 3 = masks ∙ ap (λ (x : Draft). x.masks) is in
    let three : 3 ≤ r.masks = omega (arith, more, begins) in
    let are = asked ∙ ap (λ m. masks_with m (Both (constants_asks 3 ks) (block_asks h.answer h.body 3))) begins in
    record {
      routine = routine_with (heading_of h) (rows_of r.registers) r.masks b.code.items;
      added = ap (λ (x : Draft). x.routines ++ routine_at_work x.heading (rows_of r.registers) r.masks b.code.items) is;
      places = record { more = block_places l h.body; is = y.places ∙ ap (λ ps. ps ++ block_places l h.body) (places ∙ ap (λ (x : Draft). x.places) is) };
      texts = record { more = block_texts h.body; is = y.texts ∙ ap (λ ts. ts ++ block_texts h.body) (texts ∙ ap (λ (x : Draft). x.texts) is) };
      gang = ap (λ (x : Draft). x.gang) is;
      callees = ap (λ (x : Draft). x.callees) is;
      places_fit = block_placed fs h.variables h.answer l h.body fine.body;
      texts_fit = block_told h.body;
      few_places = omega (arith, twice, block_places_few l h.body);
      few_texts = omega (arith, twice, block_texts_few fs h.variables h.answer h.body fine.body);
      lowered = subst (λ fs. IsLowered fs h (routine_with (heading_of h) (rows_of r.registers) r.masks b.code.items) b.places.items (texts_of b))
          (ap (λ (x : Draft). x.callees) is) (lowered d.callees h (routine_with (heading_of h) (rows_of r.registers) r.masks b.code.items) ks
          z.registers r.registers a b (code ∙ ap (λ (x : Draft). x.code) is)
          (rows ∙ ap (λ (x : Draft). x.rows) is) grows keeps y refl refl refl refl refl refl refl has three are refl);
    }

-- the register of the result is there from the beginning
pub result_reserved : (r : Reserve) (answer : Option Ty) → IsReserved r (result_asks answer)
result_reserved r None = tt
result_reserved r (Some t) = tt
