-- The elements of a run's arrays fit their types, and so does what it gives back.
use Rattle.std.specs.Prelude.{◌≡◌, ℕ, zero, suc, ◌+◌, ◌%◌, ◌^◌, ◌<◌, ◌≤◌, List, [], ◌∷◌, length, take, drop, Option, Some, None, Bool, true, false, not, ◌&&◌, option_map, slice_get, slice_index}
use Rattle.std.specs.List.{All}
use Rattle.std.proofs.Common.{refl, sym, ap, ◌∙◌, subst, arith, pow_pos, mod-lt}
use Rattle.std.proofs.lemmas.List.Elements.{All-head, All-tail}
use Rattle.isp_base.specs.Arguments.{rows, row_bits}
use Rattle.isp_base.specs.Binding.{is_for, has_signature}
use Rattle.isp_base.specs.Maps.{Lanes}
use Rattle.isp_base.specs.Ranks.{same_elem}
use Rattle.isp_base.specs.Rows.{Row, Fit}
use Rattle.isp_base.specs.Sets.{everyone}
use Rattle.isp_base.specs.Types.{gang_width}
use Rattle.isp_base.specs.Values.{width}
use Rattle.isp_base.specs.declared.signature.Argument.{Argument}
use Rattle.isp_base.specs.declared.signature.Argument.TheVariants.{Value as AValue, Array as AnArray}
use Rattle.isp_base.specs.declared.signature.Parameter.{Parameter}
use Rattle.isp_base.specs.declared.types.Elem.{Elem}
use Rattle.isp_base.specs.declared.types.Elem.TheVariants.{Bool as Truth}
use Rattle.isp_base.proofs.Gangs.{few_width, some_width}
use Rattle.isp_base.proofs.RankLaws.{same_is}
use Rattle.isp_base.specs.declared.types.Ty.{Ty}
use Rattle.isp_rates.specs.Accepted.{IsAccepted}
use Rattle.isp_typed.specs.Typed.{Program, TFunction}
use Rattle.isp_typed.specs.Fine.{AreParams, IsParam, IsDeclared, FineFunction}
use Rattle.isp_typed.specs.declared.variable.Holds.{Holds}
use Rattle.isp_typed.specs.declared.variable.Holds.TheVariants as hold
use Rattle.isp_typed.specs.declared.variable.Variable.{Variable}
use Rattle.isp_meaning.specs.Outcomes.{Val, Gives, Fails, Stops}
use Rattle.isp_meaning.specs.Payloads.{Payload, One, Each}
use Rattle.isp_meaning.specs.Expressions.{Values, Store}
use Rattle.isp_meaning.specs.Calls.{most_calls}
use Rattle.isp_meaning.specs.Runs.{handed, first_frame, first_state, no_place, meaning, state_of}
use Rattle.isp_type_laws.specs.Fits.{RowsFit, ElementsFit, GivenFits, ResultFits}
use Rattle.isp_type_laws.proofs.Bounds.{Fits}
use Rattle.isp_type_laws.proofs.Typing.{World, IsStore, answer_elem, Left, Sound, ValFits, left_of}
use Rattle.isp_type_laws.proofs.Expressions.{Passes, ArgumentsFit}
use Rattle.isp_type_laws.proofs.Calls.{fine_of, calls_fit}

-- ---- arrays by number

abbrev row_elem : List Row → ℕ → Elem
row_elem [] b = Truth
row_elem (r ∷ rs) zero = r.elem
row_elem (r ∷ rs) (suc b) = row_elem rs b

bits_fit : (rs : List Row) → All (λ r. Fit r.elem r.bits) rs → (b e : ℕ) → slice_index (row_bits rs b) e < 2 ^ width (row_elem rs b)
bits_fit [] h b e = pow_pos 1
bits_fit (r ∷ rs) h zero e = All-head (λ r. Fit r.elem r.bits) r rs h e
bits_fit (r ∷ rs) h (suc b) e = bits_fit rs (All-tail (λ r. Fit r.elem r.bits) r rs h) b e

rows_fit : (rs : List Row) (f : ℕ → Lanes) → ((b : ℕ) → b < length rs → (e : ℕ) → f b e < 2 ^ width (row_elem rs b)) → RowsFit rs f
rows_fit [] f h = tt
rows_fit (r ∷ rs) f h = (h 0 (omega arith), rows_fit rs (λ b. f (suc b)) (λ b l. h (suc b) (omega (arith, l))))

-- ---- the arguments are what the function takes

-- the rows are stores, from this on
abbrev StoresAre : World → ℕ → List Row → Type 0
StoresAre w b [] = Unit {0}
StoresAre w b (r ∷ rs) = IsStore w b r.elem × StoresAre w (suc b) rs

stores_are : (w : World) (b : ℕ) (rs : List Row) → ((j : ℕ) → w.stores (b + j) ≡ row_elem rs j) → b + length rs ≤ w.frame.opened → StoresAre w b rs
stores_are w b [] h l = tt
stores_are w b (r ∷ rs) h l =
    let first : b ≡ b + 0 = omega arith in
    ((ap w.stores first ∙ h 0, omega (arith, l)), stores_are w (suc b) rs (λ j. let next : suc b + j ≡ b + suc j = omega arith in ap w.stores next ∙ h (suc j)) (omega (arith, l)))

both_so : (a b : Bool) → (a && b) ≡ true → (a ≡ true) × (b ≡ true)
both_so true b e = (refl, e)
both_so false b e = absurd (cc)

not_so : (a : Bool) → not a ≡ true → a ≡ false
not_so true e = absurd (cc)
not_so false e = refl

true_false : (a : Bool) → a ≡ true → a ≡ false → ⊥
true_false a t f = cc

value_passes : (gang : ℕ) (w : World) (p : Parameter) (h : Holds) (e : Elem) (n : ℕ) → IsParam p h → p.is_array ≡ false → e ≡ p.elem → Passes gang w h (Values (One (n % 2 ^ width e)))
value_passes gang w p (hold.Value t) e n i k q = subst (λ z. n % 2 ^ width e < 2 ^ width z) (q ∙ i.1) (mod-lt n (pow_pos (width e)))
value_passes gang w p (hold.Given u) e n i k q = true_false p.is_array i.0 k
value_passes gang w p (hold.Local t m) e n i k q = i

array_passes : (gang : ℕ) (w : World) (p : Parameter) (h : Holds) (e : Elem) (b : ℕ) → IsParam p h → p.is_array ≡ true → e ≡ p.elem → IsStore w b e → Passes gang w h (Store b)
array_passes gang w p (hold.Value t) e b i k q s = true_false p.is_array k i.0
array_passes gang w p (hold.Given u) e b i k q s = subst (IsStore w b) (q ∙ i.1) s
array_passes gang w p (hold.Local t m) e b i k q s = i

handed_fits : (gang : ℕ) (w : World) (n : ℕ) (vs : List Variable) (ps : List Parameter) (xs : List Argument) (b : ℕ) → AreParams ps (take n vs)
    → All IsDeclared (drop n vs) → has_signature ps xs ≡ true → StoresAre w b (rows xs) → ArgumentsFit gang w vs (handed b xs)
handed_fits gang w n [] [] [] b a d e s = tt
handed_fits gang w zero (v ∷ vs) [] [] b a d e s = d
handed_fits gang w (suc n) (v ∷ vs) [] [] b a d e s = absurd a
handed_fits gang w n vs [] (x ∷ xs) b a d e s = absurd (cc)
handed_fits gang w n vs (p ∷ ps) [] b a d e s = absurd (cc)
handed_fits gang w zero [] (p ∷ ps) (x ∷ xs) b a d e s = absurd a
handed_fits gang w (suc n) [] (p ∷ ps) (x ∷ xs) b a d e s = absurd a
handed_fits gang w zero (v ∷ vs) (p ∷ ps) (x ∷ xs) b a d e s = absurd a
handed_fits gang w (suc n) (v ∷ vs) (p ∷ ps) (AValue y ∷ xs) b a d e s =
    let h = both_so (is_for p (AValue y)) (has_signature ps xs) e in
    let k = both_so (not p.is_array) (same_elem y.elem p.elem) h.0 in
    (value_passes gang w p v.holds y.elem y.bits a.0 (not_so p.is_array k.0) (same_is y.elem p.elem k.1), handed_fits gang w n vs ps xs b a.1 d h.1 s)
handed_fits gang w (suc n) (v ∷ vs) (p ∷ ps) (AnArray r ∷ xs) b a d e s =
    let h = both_so (is_for p (AnArray r)) (has_signature ps xs) e in
    let k = both_so p.is_array (same_elem r.elem p.elem) h.0 in
    (array_passes gang w p v.holds r.elem b a.0 k.0 (same_is r.elem p.elem k.1) s.0, handed_fits gang w n vs ps xs (suc b) a.1 d h.1 s.1)

-- ---- runs

abbrev first_world : List Argument → World
first_world xs = record { frame = first_frame xs; variables = []; stores = row_elem (rows xs) }

first_fits : (gang : ℕ) (xs : List Argument) → All (λ r. Fit r.elem r.bits) (rows xs) → Sound gang (first_world xs) (first_state xs)
first_fits gang xs h = record { uniforms = λ v. pow_pos 1; varying = λ v p l. pow_pos 1; own = λ v e p l. pow_pos 1; result = pow_pos 1; results = λ p l. pow_pos 1; arrays = bits_fit (rows xs) h }

state_fits : {A : Type 0} (gang : ℕ) (w : World) (Q : A → Type 0) (v : Val A) → ValFits gang w Q v → Left w (state_of v)
state_fits gang w Q (Gives x s) h = left_of gang w s h.by.1
state_fits gang w Q (Fails t s) h = h.by
state_fits gang w Q (Stops s) h = h.by

given_fits : (gang : ℕ) (w : World) (t : Option Ty) (v : Val Payload) → ValFits gang w (Fits gang (answer_elem t)) v → GivenFits (option_map (λ u. u.elem) t) v
given_fits gang w None v h = tt
given_fits gang w (Some t) (Gives (One x) s) h = h.by.0
given_fits gang w (Some t) (Gives (Each x) s) h = pow_pos (width t.elem)
given_fits gang w (Some t) (Fails u s) h = tt
given_fits gang w (Some t) (Stops s) h = tt

module _ (program : Program) (f : ℕ) (h : TFunction) (xs : List Argument) (n : ℕ) (accepted : IsAccepted program)
    (is : slice_get program.functions f ≡ Some h) (signed : has_signature h.parameters xs ≡ true) (fit : All (λ r. Fit r.elem r.bits) (rows xs)) where
  abbrev gang : ℕ
  gang = gang_width program.gang

  abbrev w : World
  w = first_world xs

  own : FineFunction program.functions h
  own = fine_of (FineFunction program.functions) program.functions f h accepted.fine.each is

  run_fits : ValFits gang w (Fits gang (answer_elem h.answer)) (meaning program f n xs)
  run_fits =
      let passes = handed_fits gang w (length h.params) h.variables h.parameters xs 0 own.params own.declared signed (stores_are w 0 (rows xs) (λ j. let same : 0 + j ≡ j = omega arith in ap (row_elem (rows xs)) same) (omega arith)) in
      calls_fit program (some_width program.gang) (few_width program.gang) accepted.fine.each accepted.sound n most_calls f h is no_place (everyone gang) (handed 0 xs) w (first_state xs) passes (first_fits gang xs fit)

  all_fit : RowsFit (rows xs) (state_of (meaning program f n xs)).arrays
  all_fit = rows_fit (rows xs) (state_of (meaning program f n xs)).arrays (state_fits gang w (Fits gang (answer_elem h.answer)) (meaning program f n xs) run_fits)

  what_is_given_fits : GivenFits h.gives (meaning program f n xs)
  what_is_given_fits = subst (λ t. GivenFits t (meaning program f n xs)) (sym own.gives) (given_fits gang w h.answer (meaning program f n xs) run_fits)

pub elements_fit : ElementsFit
elements_fit = all_fit

pub result_fits : ResultFits
result_fits = what_is_given_fits
