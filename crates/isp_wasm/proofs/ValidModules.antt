-- The functions of the module of accepted code are valid.
use Rattle.std.proofs.Common.{◌≡◌, ℕ, zero, suc, ◌+◌, ◌-◌, ◌<◌, ◌≤◌, ◌⊎◌, inl, inr, List, [], ◌∷◌, ◌++◌, length, map, take, Option, Some, None, Bool, true, false, not, ◌&&◌, refl, sym, ap, ◌∙◌, subst, arith}
use Rattle.std.specs.Prelude.{slice_get, slice_index_or, ◌==◌, if◌then◌else◌}
use Rattle.std.specs.List.{list_all, list_any}
use Rattle.std.proofs.lemmas.Bool.{cases_lt}
use Rattle.std.proofs.lemmas.Option.{slice_get-get_or}
use Rattle.std.proofs.lemmas.List.{get_or_past, length-append, length-map}
use Rattle.std.proofs.Math.ListN.{get_or}
use Rattle.isp_base.specs.Sets.{everyone}
use Rattle.isp_base.specs.Types.{gang_width}
use Rattle.isp_base.specs.declared.types.Elem.TheVariants.{Bool as Truth}
use Rattle.isp_code.specs.Entries.{result_of}
use Rattle.isp_code.specs.Fine.{AllFine, CallFine, CallsFine, IsThere}
use Rattle.isp_code.specs.Listing.{Listing, Routine}
use Rattle.isp_code.specs.Operands.{operands}
use Rattle.isp_code.specs.Registers.{passed as array_params, param_elems, local_elem, scalars_of, vectors_of, arrays_of, types_in, table_of}
use Rattle.isp_code.specs.declared.function.Local.{Local as Opened}
use Rattle.isp_code.specs.declared.function.Returns.{Returns}
use Rattle.isp_code.specs.declared.function.Returns.TheVariants.{Nothing, Scalar as GivesScalar, Vector as GivesVector}
use Rattle.isp_code.specs.declared.instr.Call.{Call}
use Rattle.isp_code.specs.declared.instr.Instr.{Instr}
use Rattle.isp_code.specs.declared.instr.Instr.TheVariants as instr
use Rattle.isp_code.specs.declared.register.Class.TheVariants as class
use Rattle.isp_code.specs.declared.register.Register.{Register}
use Rattle.isp_verify.specs.Accepted.{IsFine}
use Rattle.isp_verify.specs.Faults.{export_fits, names_differ, is_function, gives_vector}
use Rattle.isp_verify.proofs.AcceptedLaws.{accepted_fine}
use Rattle.isp_forms.specs.Runs.{Forms}
use Rattle.isp_wasm_meaning.specs.Ladder.{counting, ladder, dispatched}
use Rattle.isp_wasm_meaning.specs.Module.{ValueType, V128, Function, unused}
use Rattle.isp_wasm_meaning.specs.Module as valued
use Rattle.isp_wasm_meaning.specs.Syntax as wasm
use Rattle.isp_wasm_meaning.specs.Syntax.{I8x16, I64x2, Add, Of, Code, Skip, Then, Set, Block, BrTable, Local, Two, Const32, Const64, Const128, Unreachable, GetGlobal, Clear}
use Rattle.isp_wasm_meaning.specs.Valid.{sized, has_type, is_label, is_valid, ends_there, may_end, is_valid_function}
use Rattle.isp_wasm.specs.Entry.{stack_code, entry_code}
use Rattle.isp_wasm.specs.Kernel.{ModulesValid}
use Rattle.isp_wasm.specs.Locals.{row, param_places, taken_from, taken_places, vector_places, mask_places, array_places, own_places, local_at}
use Rattle.isp_wasm.specs.Stack.{uses_stack, has_call, local_bytes, bytes_in}
use Rattle.isp_wasm.specs.Module.{heads_of, is_plain, all_plain, is_covered, is_called, given_type, back_type, numbered, type_of, kernel_of, inner_of, function_of, inner_function, each_function, module_with}
use Rattle.isp_wasm.specs.Places.{Setting, Place, Counter, Scalar, Vector, Mask, Base, Count, Fresh, Spare, Depth, Top, gang, parts, parts_for, elem, shape_of, size_of}
use Rattle.isp_wasm.specs.Standing.{scalar_register}
use Rattle.isp_wasm.specs.Templates.{each, mask_part, call_code, code_at, span, rung, function_code, arrays_code, begin_code, routine_code}
use Rattle.isp_wasm.proofs.Inner.{inner_at}
use Rattle.isp_wasm.proofs.Kernels.{gives_none}
use Rattle.isp_wasm.proofs.Plain.{covered_plain, covered_calls, heads_rise, all_at}
use Rattle.isp_wasm.proofs.LocalTypes.{Has, has_next, has_left, has_right, local_type, row_has, has_scalar, has_array, has_own, has_vector, has_mask, has_taken_scalar, has_taken_array}
use Rattle.isp_wasm.proofs.Passing.{both_first, both_second}
use Rattle.isp_wasm.proofs.Typed.{both, two}
use Rattle.isp_wasm.proofs.ValidLines.{HasTypes, Gives, gang_low, few_parts, then_valid, each_valid, set_valid, local_typed, label, line_valid}
use Rattle.isp_wasm.proofs.ValidCalls.{call_valid}

some_masks : (n : ℕ) → not (n == 0) ≡ true → 0 < n
some_masks zero e = absurd cc
some_masks (suc n) e = omega arith

ended : (r : Option ValueType) (c : Code) → ends_there c ≡ true → may_end r c ≡ true
ended None c e = refl
ended (Some t) c e = e

-- ---- control

module _ (w : Setting) (local : ℕ → Option ValueType) (functions : List Function) (result : Option ValueType) (typed : HasTypes w local) (back : Gives w local functions result typed w.routine.returns)
    (fine : (pc : ℕ) (i : Instr) → slice_get w.routine.code pc ≡ Some i → AllFine w.code w.routine (operands i) × CallsFine w.code w.routine i)
    (calls : (pc n : ℕ) (c : Call) → slice_get w.routine.code pc ≡ Some (instr.Call c) → CallFine w.code w.routine c → IsThere w.routine class.Mask c.mask → is_valid local functions result n (call_code w c) ≡ true)
    (up : (k : ℕ) → k < w.rungs → w.heads k < w.heads (suc k)) (end : w.heads w.rungs ≡ length w.routine.code) where
  abbrev pub C : ℕ → Code → Type 0
  C d c = is_valid local functions result d c ≡ true

  at_valid : (n k pc : ℕ) → k < n → (o : Option Instr) → slice_get w.routine.code pc ≡ o → pc < length w.routine.code → C n (code_at w k (w.forms w.home.fn pc) o)
  at_valid n k pc h None e low = absurd (let some = slice_get-get_or w.routine.code pc (instr.Jump 0) low in let impossible : None ≡ Some (get_or w.routine.code pc (instr.Jump 0)) = sym e ∙ some in cc)
  at_valid n k pc h (Some i) e low =
      line_valid w local functions result typed back n k h i (λ c same. calls pc n c (e ∙ ap Some same)) (fine pc i e).0 (fine pc i e).1 (w.forms w.home.fn pc)

  span_valid : (n k pc m : ℕ) → k < n → pc + m ≤ length w.routine.code → C n (span w k pc m)
  span_valid n k pc zero h le = refl
  span_valid n k pc (suc m) h le =
      then_valid w local functions result typed n (code_at w k (w.forms w.home.fn pc) (slice_get w.routine.code pc)) (span w k (pc + 1) m) (at_valid n k pc h (slice_get w.routine.code pc) refl (omega (arith, le))) (span_valid n k (pc + 1) m h (omega (arith, le)))

  heads_below : (d k : ℕ) → k + d ≡ w.rungs → w.heads k ≤ length w.routine.code
  heads_below zero k e = subst (λ j. w.heads j ≤ length w.routine.code) (let same : w.rungs ≡ k = omega (arith, e) in same) (let is = end in omega (arith, is))
  heads_below (suc d) k e = let less = up k (omega (arith, e)) in let more = heads_below d (suc k) (omega (arith, e)) in omega (arith, less, more)

  labels_valid : (n m j : ℕ) → j + m ≤ n → list_all (is_label local result n) (counting m j) ≡ true
  labels_valid n zero j h = refl
  labels_valid n (suc m) j h = both (is_label local result n j) (list_all (is_label local result n) (counting m (suc j))) (label w local functions result typed result n j (omega (arith, h))) (labels_valid n m (suc j) (omega (arith, h)))

  ladder_valid : (k d : ℕ) → 0 < d → d + k ≡ suc w.rungs → C d (ladder (w.local Counter) (rung w) w.rungs k)
  ladder_valid zero d some e =
      both (list_all (is_label local result d) (counting w.rungs 0)) (is_label local result d w.rungs && has_type local (Local (w.local Counter)) valued.I32) (labels_valid d w.rungs 0 (omega (arith, e)))
      (both (is_label local result d w.rungs) (has_type local (Local (w.local Counter)) valued.I32) (label w local functions result typed result d w.rungs (omega (arith, e))) (local_typed w local functions result typed (w.local Counter) valued.I32 typed.counter))
  ladder_valid (suc k) d some e =
      then_valid w local functions result typed d (Block (ladder (w.local Counter) (rung w) w.rungs k)) (rung w k) (ladder_valid k (suc d) (omega arith) (omega (arith, e)))
      (span_valid d (w.rungs - suc k) (w.heads k) (w.heads (suc k) - w.heads k) (omega (arith, some, e))
      (let less = up k (omega (arith, some, e)) in let below = heads_below (w.rungs - suc k) (suc k) (omega (arith, some, e)) in omega (arith, less, below)))

  code_valid : C 0 (function_code w)
  code_valid = then_valid w local functions result typed 0 (dispatched (w.local Counter) (rung w) w.rungs) Unreachable (ladder_valid w.rungs 1 (omega arith) (omega arith)) refl

  stack_valid : (b : Bool) → C 0 (if b then GetGlobal (w.local Top) 17 else Skip)
  stack_valid true = local_typed w local functions result typed (w.local Top) valued.I32 typed.top_is
  stack_valid false = refl

  -- the arrays that it opens have their locals
  arrays_valid : (ls : List Opened) (a : ℕ) → ((i : ℕ) → i < length ls → (local (w.local (Base (a + i))) ≡ Some valued.I32) × (local (w.local (Count (a + i))) ≡ Some valued.I64)) → C 0 (arrays_code w ls a)
  arrays_valid [] a h = refl
  arrays_valid (l ∷ ls) a h =
      then_valid w local functions result typed 0 (Set (w.local (Base a)) (Local (w.local Top))) (Then (Set (w.local (Count a)) (Const64 l.size)) (Then step (arrays_code w ls (suc a))))
      (set_valid w local functions result typed 0 (w.local (Base a)) (Local (w.local Top)) valued.I32 (first (λ n. local (w.local (Base n)) ≡ Some valued.I32) (h 0 (omega arith)).0) top_typed)
      (then_valid w local functions result typed 0 (Set (w.local (Count a)) (Const64 l.size)) (Then step (arrays_code w ls (suc a)))
      (set_valid w local functions result typed 0 (w.local (Count a)) (Const64 l.size) valued.I64 (first (λ n. local (w.local (Count n)) ≡ Some valued.I64) (h 0 (omega arith)).1) refl)
      (then_valid w local functions result typed 0 step (arrays_code w ls (suc a))
      (set_valid w local functions result typed 0 (w.local Top) (Two (Of wasm.I32 Add) (Local (w.local Top)) (Const32 (local_bytes (gang w) l))) valued.I32 typed.top_is
      (two local (Of wasm.I32 Add) (Local (w.local Top)) (Const32 (local_bytes (gang w) l)) refl top_typed refl))
      (arrays_valid ls (suc a) (λ i lt. (more i (λ n. local (w.local (Base n)) ≡ Some valued.I32) (h (suc i) (omega (arith, lt))).0, more i (λ n. local (w.local (Count n)) ≡ Some valued.I64) (h (suc i) (omega (arith, lt))).1)))))
    where
      step : Code
      step = Set (w.local Top) (Two (Of wasm.I32 Add) (Local (w.local Top)) (Const32 (local_bytes (gang w) l)))

      top_typed : has_type local (Local (w.local Top)) valued.I32 ≡ true
      top_typed = local_typed w local functions result typed (w.local Top) valued.I32 typed.top_is

      first : (P : ℕ → Type 0) → P (a + 0) → P a
      first P h = subst P (let same : a + 0 ≡ a = omega arith in same) h

      more : (i : ℕ) (P : ℕ → Type 0) → P (a + suc i) → P (suc a + i)
      more i P h = subst P (let same : a + suc i ≡ suc a + i = omega arith in same) h

  own_there : (i : ℕ) → i < length w.routine.locals → IsThere w.routine class.Array (record { class = class.Array; number = array_params w.routine + i })
  own_there i lt = (
    refl,
    (let both = length-append (param_elems class.Array w.routine.params) (map local_elem w.routine.locals) in let mapped = length-map w.routine.locals local_elem in
        let low : array_params w.routine + i < length (arrays_of w.routine) = omega (arith, lt, both, mapped) in low),
  )

  begin_valid : (ls : List Opened) → ls ≡ w.routine.locals → C 0 (begin_code w ls)
  begin_valid [] e = refl
  begin_valid (l ∷ ls) e =
      then_valid w local functions result typed 0 (Clear (Local (w.local Top)) (Const32 (suc (bytes_in (gang w) (l ∷ ls))))) (arrays_code w (l ∷ ls) (array_params w.routine))
      (both (has_type local (Local (w.local Top)) valued.I32) true (local_typed w local functions result typed (w.local Top) valued.I32 typed.top_is) refl)
      (arrays_valid (l ∷ ls) (array_params w.routine) (λ i lt. (let low : i < length w.routine.locals = subst (λ z. i < length z) e lt in
      (typed.bases (record { class = class.Array; number = array_params w.routine + i }) (own_there i low), typed.counts (record { class = class.Array; number = array_params w.routine + i }) (own_there i low)))))

  routine_valid : C 0 (routine_code w)
  routine_valid = then_valid w local functions result typed 0 (begin_code w w.routine.locals) (function_code w) (begin_valid w.routine.locals refl) code_valid

  entry_valid : 0 < w.routine.masks → C 0 (entry_code w)
  entry_valid some =
      then_valid w local functions result typed 0 (stack_code w) (Then (each (parts w I8x16) (λ j. Set (w.local (Mask 0 j)) (Const128 (mask_part (everyone (gang w)) j)))) (routine_code w)) (stack_valid (uses_stack w.routine))
      (then_valid w local functions result typed 0 (each (parts w I8x16) (λ j. Set (w.local (Mask 0 j)) (Const128 (mask_part (everyone (gang w)) j)))) (routine_code w)
      (each_valid w local functions result typed 0 (parts w I8x16) (λ j. Set (w.local (Mask 0 j)) (Const128 (mask_part (everyone (gang w)) j)))
      (λ j l. set_valid w local functions result typed 0 (w.local (Mask 0 j)) (Const128 (mask_part (everyone (gang w)) j)) V128 (typed.masks (record { class = class.Mask; number = 0 }) (refl, some) j (few_parts (gang w) j (gang_low w.code.gang) l)) refl))
      routine_valid)

-- ---- a function

-- whose parameters are these places
module _ (code : Listing) (forms : Forms) (h : Routine) (f : ℕ) (accepted : IsFine code) (found : slice_get code.routines f ≡ Some h) (plain : is_plain code h ≡ true) (qs : List Place)
    (scalars_in : (r : ℕ) → r < length (param_elems class.Scalar h.params) → Has qs (Scalar r)) (arrays_in : (a : ℕ) → a < length (param_elems class.Array h.params) → Has qs (Base a) × Has qs (Count a)) where
  abbrev pub w : Setting
  w = record (numbered code forms f h) { local = local_at (qs ++ own_places (gang_width code.gang) h) }

  lanes : ℕ
  lanes = gang_width code.gang

  places : List Place
  places = qs ++ own_places (gang_width code.gang) h

  locals : ℕ → Option ValueType
  locals = slice_get (map (type_of code h) qs ++ map (type_of code h) (own_places (gang_width code.gang) h))

  typed_at : (p : Place) → Has places p → locals (w.local p) ≡ Some (type_of code h p)
  unfolding places locals
  typed_at p has = local_type (type_of code h) qs (own_places (gang_width code.gang) h) p has

  passed : ℕ
  passed = length (param_elems class.Scalar h.params)

  abbrev last : List Place
  last = Depth ∷ Top ∷ array_places (length h.locals) (length (param_elems class.Array h.params))

  -- after the four first
  own_has : (p : Place) → Has (row (parts_for lanes I64x2) Fresh ++ (row (length h.scalars) (λ r. Scalar (passed + r)) ++ (vector_places lanes (vectors_of h) 0 ++ (mask_places h.masks 0 ++ last)))) p → Has places p
  unfolding places lanes passed
  own_has p has = has_right qs (own_places (gang_width code.gang) h) p (suc (suc (suc (suc has.0))), has.1)

  registers_has : (p : Place) → Has (vector_places lanes (vectors_of h) 0 ++ (mask_places h.masks 0 ++ last)) p → Has places p
  registers_has p has =
      own_has p (has_right (row (parts_for lanes I64x2) Fresh) (row (length h.scalars) (λ r. Scalar (passed + r)) ++ (vector_places lanes (vectors_of h) 0 ++ (mask_places h.masks 0 ++ last))) p
      (has_right (row (length h.scalars) (λ r. Scalar (passed + r))) (vector_places lanes (vectors_of h) 0 ++ (mask_places h.masks 0 ++ last)) p has))

  param_has : (p : Place) → Has qs p → Has places p
  unfolding places
  param_has p has = has_left qs (own_places (gang_width code.gang) h) p has

  scalar_has : (r : ℕ) → r < length (scalars_of h) → Has places (Scalar r)
  unfolding passed
  scalar_has r lt = by (cases_lt r passed)
    where
      by : (r < passed) ⊎ (passed ≤ r) → Has places (Scalar r)
      by (inl low) = param_has (Scalar r) (scalars_in r low)
      by (inr le) =
          own_has (Scalar r) (has_right (row (parts_for lanes I64x2) Fresh) (row (length h.scalars) (λ r. Scalar (passed + r)) ++ (vector_places lanes (vectors_of h) 0 ++ (mask_places h.masks 0 ++ last))) (Scalar r)
          (has_left (row (length h.scalars) (λ r. Scalar (passed + r))) (vector_places lanes (vectors_of h) 0 ++ (mask_places h.masks 0 ++ last)) (Scalar r)
          (subst (λ n. Has (row (length h.scalars) (λ r. Scalar (passed + r))) (Scalar n)) (let same : passed + (r - passed) ≡ r = omega (arith, le) in same)
          (row_has (length h.scalars) (λ r. Scalar (passed + r)) (r - passed) (let all = length-append (param_elems class.Scalar h.params) h.scalars in omega (arith, lt, le, all))))))

  vector_has : (r j : ℕ) → r < length (vectors_of h) → j < parts_for lanes (shape_of (slice_index_or (vectors_of h) r Truth)) → Has places (Vector r j)
  vector_has r j lt l =
      registers_has (Vector r j) (has_left (vector_places lanes (vectors_of h) 0) (mask_places h.masks 0 ++ last) (Vector r j)
      (subst (λ n. Has (vector_places lanes (vectors_of h) 0) (Vector n j)) (let same : 0 + r ≡ r = omega arith in same) (has_vector lanes (vectors_of h) 0 r j lt l)))

  mask_has : (r j : ℕ) → r < h.masks → j < 2 → Has places (Mask r j)
  mask_has r j lt l =
      registers_has (Mask r j) (has_right (vector_places lanes (vectors_of h) 0) (mask_places h.masks 0 ++ last) (Mask r j) (has_left (mask_places h.masks 0) last (Mask r j)
      (subst (λ n. Has (mask_places h.masks 0) (Mask n j)) (let same : 0 + r ≡ r = omega arith in same) (has_mask h.masks 0 r j lt l))))

  fresh_has : (j : ℕ) → j < parts_for lanes I64x2 → Has places (Fresh j)
  fresh_has j l = own_has (Fresh j) (has_left (row (parts_for lanes I64x2) Fresh) (row (length h.scalars) (λ r. Scalar (passed + r)) ++ (vector_places lanes (vectors_of h) 0 ++ (mask_places h.masks 0 ++ last))) (Fresh j) (row_has (parts_for lanes I64x2) Fresh j l))

  depth_has : Has places Depth
  depth_has =
      registers_has Depth (has_right (vector_places lanes (vectors_of h) 0) (mask_places h.masks 0 ++ last) Depth (has_right (mask_places h.masks 0) last Depth (zero, refl)))

  top_has : Has places Top
  top_has =
      registers_has Top (has_right (vector_places lanes (vectors_of h) 0) (mask_places h.masks 0 ++ last) Top (has_right (mask_places h.masks 0) last Top (suc zero, refl)))

  array_has : (a : ℕ) → a < length (arrays_of h) → Has places (Base a) × Has places (Count a)
  array_has a lt = by (cases_lt a (length (param_elems class.Array h.params)))
    where
      own_array : (p : Place) → Has (array_places (length h.locals) (length (param_elems class.Array h.params))) p → Has places p
      own_array p has =
          registers_has p (has_right (vector_places lanes (vectors_of h) 0) (mask_places h.masks 0 ++ last) p (has_right (mask_places h.masks 0) last p
          (has_next Depth (Top ∷ array_places (length h.locals) (length (param_elems class.Array h.params))) p (has_next Top (array_places (length h.locals) (length (param_elems class.Array h.params))) p has))))

      by : (a < length (param_elems class.Array h.params)) ⊎ (length (param_elems class.Array h.params) ≤ a) → Has places (Base a) × Has places (Count a)
      by (inl low) = let has = arrays_in a low in (param_has (Base a) has.0, param_has (Count a) has.1)
      by (inr le) =
          let n = length (param_elems class.Array h.params) in
          let both = length-append (param_elems class.Array h.params) (map local_elem h.locals) in
          let mapped = length-map h.locals local_elem in
          let has = has_own (length h.locals) n (a - n) (omega (arith, lt, le, both, mapped)) in
          let same : n + (a - n) ≡ a = omega (arith, le) in
          (subst (λ k. Has places (Base k)) same (own_array (Base (n + (a - n))) has.0), subst (λ k. Has places (Count k)) same (own_array (Count (n + (a - n))) has.1))

  first_has : (p : Place) (k : ℕ) → slice_get (own_places (gang_width code.gang) h) k ≡ Some p → Has places p
  unfolding places
  first_has p k e = has_right qs (own_places (gang_width code.gang) h) p (k, e)

  -- a register's type is that of its number
  elem_at : (x : Register) → IsThere h class.Scalar x → elem w x ≡ elem w (scalar_register x.number)
  elem_at x is = ap (λ c. slice_index_or (types_in (table_of h) c) x.number Truth) is.0

  vector_elem : (x : Register) → IsThere h class.Vector x → elem w x ≡ slice_index_or (vectors_of h) x.number Truth
  vector_elem x is = ap (λ c. slice_index_or (types_in (table_of h) c) x.number Truth) is.0

  has_types : HasTypes w locals
  unfolding lanes
  has_types =
      record {
        counter = typed_at Counter (first_has Counter 0 refl);
        scalars = λ x is. typed_at (Scalar x.number) (scalar_has x.number is.1) ∙ sym (ap (λ t. Some (sized (size_of t))) (elem_at x is));
        vectors = λ x is j l. typed_at (Vector x.number j) (vector_has x.number j is.1 (subst (λ t. j < parts_for lanes (shape_of t)) (vector_elem x is) l));
        masks = λ k is j l. typed_at (Mask k.number j) (mask_has k.number j is.1 l);
        bases = λ a is. typed_at (Base a.number) (array_has a.number is.1).0;
        counts = λ a is. typed_at (Count a.number) (array_has a.number is.1).1;
        fresh = λ j l. typed_at (Fresh j) (fresh_has j l);
        spares = spare_typed;
        seen = typed_at (Spare wasm.I32 1) (first_has (Spare wasm.I32 1) 2 refl);
        depth = typed_at Depth depth_has;
        top_is = typed_at Top top_has;
      }
    where
      spare_typed : (t : wasm.Size) → locals (w.local (Spare t 0)) ≡ Some (sized t)
      spare_typed wasm.I32 = typed_at (Spare wasm.I32 0) (first_has (Spare wasm.I32 0) 1 refl)
      spare_typed wasm.I64 = typed_at (Spare wasm.I64 0) (first_has (Spare wasm.I64 0) 3 refl)

  functions : List Function
  functions = (module_with code forms).functions

  gives_back : (g : Returns) → gives_vector g ≡ false → Gives w locals functions (given_type (result_of g)) has_types g
  gives_back Nothing e = refl
  gives_back (GivesScalar t) e = refl
  gives_back (GivesVector t) e = absurd cc

  inner_back : (g : Returns) → Gives w locals functions (back_type g) has_types g
  inner_back Nothing = refl
  inner_back (GivesScalar t) = refl
  inner_back (GivesVector t) = refl

  masked : 0 < h.masks
  masked =
      some_masks h.masks (both_second (export_fits h.exported h) (not (h.masks == 0))
      (both_second (names_differ h.params) (export_fits h.exported h && not (h.masks == 0)) (both_second (not (list_any (is_function h.name) (take f code.routines))) (names_differ h.params && (export_fits h.exported h && not (h.masks == 0)))
      (accepted.headers f h found))))

  module _ (result : Option ValueType) (back : Gives w locals functions result has_types h.returns) (calling : (pc : ℕ) (k : Call) → slice_get h.code pc ≡ Some (instr.Call k) → all_plain code ≡ true) where
    -- what is called is a function of the module
    calls : (pc n : ℕ) (c : Call) → slice_get h.code pc ≡ Some (instr.Call c) → CallFine code h c → IsThere h class.Mask c.mask → is_valid locals functions result n (call_code w c) ≡ true
    unfolding functions
    calls pc n c has fine ks =
        let g = fine.callee in
        let all = calling pc c has in
        call_valid w locals functions result has_types n c fine (inner_of code forms c.function g)
        (record {
          place_type = type_of code g;
          types = record { depth_is = refl; top_is = refl; scalar_is = λ r. refl; vector_is = λ r j. refl; mask_is = λ r j. refl; base_is = λ a. refl; count_is = λ a. refl };
          found = inner_at code forms h f pc c found has all g fine.found;
          params_are = refl;
          result_is = refl;
        })
        ks

    lines : (pc : ℕ) (i : Instr) → slice_get h.code pc ≡ Some i → AllFine code h (operands i) × CallsFine code h i
    lines pc i has = accepted.lines f h found pc i has

    heads_end : w.heads w.rungs ≡ length h.code
    heads_end = get_or_past (heads_of h.code) (length (heads_of h.code)) (length h.code) (omega arith)

    body_valid : is_valid locals functions result 0 (routine_code w) ≡ true
    body_valid =
        routine_valid w locals functions result has_types back lines calls (heads_rise code h f accepted found plain) heads_end

    whole_valid : is_valid locals functions result 0 (entry_code w) ≡ true
    whole_valid =
        entry_valid w locals functions result has_types back lines calls (heads_rise code h f accepted found plain) heads_end masked

    -- a function of this code
    abbrev function_with : Option (List ℕ) → Code → Function
    function_with name c = record { export = name; params = map (type_of code h) qs; result = result; locals = map (type_of code h) (own_places (gang_width code.gang) h); code = c }

    inner_ends : is_valid_function (module_with code forms).functions (function_with None (routine_code w)) ≡ true
    unfolding locals functions
    inner_ends = both (is_valid locals functions result 0 (routine_code w)) (may_end result (routine_code w)) body_valid (ended result (routine_code w) refl)

    kernel_ends : is_valid_function (module_with code forms).functions (function_with (Some h.name) (entry_code w)) ≡ true
    unfolding locals functions
    kernel_ends = both (is_valid locals functions result 0 (entry_code w)) (may_end result (entry_code w)) whole_valid (ended result (entry_code w) refl)

-- ---- all of them

from_zero : (n : ℕ) → 0 + n ≡ n
from_zero n = omega arith

kernel_valid : (code : Listing) (forms : Forms) (h : Routine) (f : ℕ) → IsFine code → slice_get code.routines f ≡ Some h → h.exported ≡ true → is_covered code h ≡ true → is_valid_function (module_with code forms).functions (kernel_of code forms f h) ≡ true
kernel_valid code forms h f accepted found exported covers =
    kernel_ends code forms h f accepted found (covered_plain code h covers) (param_places h) scalars arrays (given_type (result_of h.returns))
    (gives_back code forms h f accepted found (covered_plain code h covers) (param_places h) scalars arrays h.returns (gives_none code h f accepted found exported covers)) (covered_calls code h covers)
  where
    scalars : (r : ℕ) → r < length (param_elems class.Scalar h.params) → Has (param_places h) (Scalar r)
    scalars r lt = subst (λ n. Has (param_places h) (Scalar n)) (from_zero r) (has_scalar h.params 0 0 r lt)

    arrays : (a : ℕ) → a < length (param_elems class.Array h.params) → Has (param_places h) (Base a) × Has (param_places h) (Count a)
    arrays a lt = let has = has_array h.params 0 0 a lt in (subst (λ n. Has (param_places h) (Base n)) (from_zero a) has.0, subst (λ n. Has (param_places h) (Count n)) (from_zero a) has.1)

inner_valid : (code : Listing) (forms : Forms) (h : Routine) (f : ℕ) → IsFine code → slice_get code.routines f ≡ Some h → all_plain code ≡ true → is_valid_function (module_with code forms).functions (inner_of code forms f h) ≡ true
inner_valid code forms h f accepted found all =
    inner_ends code forms h f accepted found (all_at (is_plain code) code.routines f h all found) (taken_places (gang_width code.gang) h) scalars arrays (back_type h.returns)
    (inner_back code forms h f accepted found (all_at (is_plain code) code.routines f h all found) (taken_places (gang_width code.gang) h) scalars arrays h.returns) (λ pc k has. all)
  where
    behind : (p : Place) → Has (taken_from (gang_width code.gang) h.params 0 0 0) p → Has (taken_places (gang_width code.gang) h) p
    behind p has =
        has_next Depth (Top ∷ (row (parts_for (gang_width code.gang) I8x16) (Mask 0) ++ taken_from (gang_width code.gang) h.params 0 0 0)) p
        (has_next Top (row (parts_for (gang_width code.gang) I8x16) (Mask 0) ++ taken_from (gang_width code.gang) h.params 0 0 0) p (has_right (row (parts_for (gang_width code.gang) I8x16) (Mask 0)) (taken_from (gang_width code.gang) h.params 0 0 0) p has))

    scalars : (r : ℕ) → r < length (param_elems class.Scalar h.params) → Has (taken_places (gang_width code.gang) h) (Scalar r)
    scalars r lt = behind (Scalar r) (subst (λ n. Has (taken_from (gang_width code.gang) h.params 0 0 0) (Scalar n)) (from_zero r) (has_taken_scalar (gang_width code.gang) h.params 0 0 0 r lt))

    arrays : (a : ℕ) → a < length (param_elems class.Array h.params) → Has (taken_places (gang_width code.gang) h) (Base a) × Has (taken_places (gang_width code.gang) h) (Count a)
    arrays a lt =
        let has = has_taken_array (gang_width code.gang) h.params 0 0 0 a lt in
        (behind (Base a) (subst (λ n. Has (taken_from (gang_width code.gang) h.params 0 0 0) (Base n)) (from_zero a) has.0), behind (Count a) (subst (λ n. Has (taken_from (gang_width code.gang) h.params 0 0 0) (Count n)) (from_zero a) has.1))

function_valid : (code : Listing) (forms : Forms) (h : Routine) (f : ℕ) → IsFine code → slice_get code.routines f ≡ Some h → (a b : Bool) → h.exported ≡ a → is_covered code h ≡ b
    → is_valid_function (module_with code forms).functions (if a && b then kernel_of code forms f h else unused) ≡ true
function_valid code forms h f accepted found false b e g = refl
function_valid code forms h f accepted found true false e g = refl
function_valid code forms h f accepted found true true e g = kernel_valid code forms h f accepted found e g

called_valid : (code : Listing) (forms : Forms) (h : Routine) (f : ℕ) → IsFine code → slice_get code.routines f ≡ Some h → (a b : Bool) → all_plain code ≡ b → is_valid_function (module_with code forms).functions (if a && b then inner_of code forms f h else unused) ≡ true
called_valid code forms h f accepted found false b e = refl
called_valid code forms h f accepted found true false e = refl
called_valid code forms h f accepted found true true e = inner_valid code forms h f accepted found e

all_each : (p : Function → Bool) (make : ℕ → Routine → Function) (xs : List Routine) (i : ℕ) → ((k : ℕ) (x : Routine) → slice_get xs k ≡ Some x → p (make (i + k) x) ≡ true) → list_all p (each_function make i xs) ≡ true
all_each p make [] i h = refl
all_each p make (x ∷ xs) i h =
    both (p (make i x)) (list_all p (each_function make (suc i) xs)) (subst (λ n. p (make n x) ≡ true) (let same : i + 0 ≡ i = omega arith in same) (h zero x refl))
    (all_each p make xs (suc i) (λ k y e. subst (λ n. p (make n y) ≡ true) (let same : i + suc k ≡ suc i + k = omega arith in same) (h (suc k) y e)))

all_behind : (p : Function → Bool) (xs ys : List Function) → list_all p xs ≡ true → list_all p ys ≡ true → list_all p (xs ++ ys) ≡ true
all_behind p [] ys h k = k
all_behind p (x ∷ xs) ys h k = both (p x) (list_all p (xs ++ ys)) (both_first (p x) (list_all p xs) h) (all_behind p xs ys (both_second (p x) (list_all p xs) h) k)

if_any : (p : Function → Bool) (b : Bool) (xs : List Function) → list_all p xs ≡ true → list_all p (if b then xs else []) ≡ true
if_any p true xs h = h
if_any p false xs h = refl

pub modules_valid : ModulesValid
modules_valid code forms accepted =
    let valid = is_valid_function (module_with code forms).functions in
    all_behind valid (each_function (function_of code forms) 0 code.routines) (if list_any has_call code.routines then each_function (inner_function code forms) 0 code.routines else [])
    (all_each valid (function_of code forms) code.routines 0
    (λ k h e. subst (λ n. valid (function_of code forms n h) ≡ true) (sym (from_zero k)) (function_valid code forms h k (accepted_fine code accepted) e h.exported (is_covered code h) refl refl)))
    (if_any valid (list_any has_call code.routines) (each_function (inner_function code forms) 0 code.routines)
    (all_each valid (inner_function code forms) code.routines 0
    (λ k h e. subst (λ n. valid (inner_function code forms n h) ≡ true) (sym (from_zero k)) (called_valid code forms h k (accepted_fine code accepted) e (is_called code k) (all_plain code) refl))))
