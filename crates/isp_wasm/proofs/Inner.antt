-- The functions that others call do what the machine's calls of them do, with any fuel.
use Rattle.std.proofs.Common.{◌≡◌, ℕ, zero, suc, ◌+◌, ◌-◌, ◌*◌, ◌%◌, ◌^◌, ◌<◌, ◌≤◌, ◌⊎◌, inl, inr, List, [], ◌∷◌, ◌++◌, length, map, Option, Some, None, Bool, true, false, ◌&&◌, refl, sym, ap, ◌∙◌, subst, append_assoc, eq-eqb, arith, mod-eq_of_lt, lit≤}
use Rattle.std.specs.Prelude.{slice_get, slice_index, slice_index_or, nat_lt, if◌then◌else◌}
use Rattle.std.specs.List.{list_any}
use Rattle.std.proofs.lemmas.Bool.{cases_lt, cases_eq, lt-ltb, le-ltb, cond-true, cond-false}
use Rattle.std.proofs.lemmas.List.{length-append, length-map, get_or_append_left}
use Rattle.std.proofs.lemmas.Nat.{pow_pos}
use Rattle.std.proofs.lemmas.Option.{slice_get_past, slice_get-get_or, get_or_from_slice_get}
use Rattle.std.proofs.Math.ListN.{get_or}
use Rattle.isp_base.specs.Depths.{most_calls}
use Rattle.isp_base.specs.Maps.{Lanes, on, over, put}
use Rattle.isp_base.specs.Sets as Sets
use Rattle.isp_base.specs.Sets.{nobody}
use Rattle.isp_base.specs.Stores.{below}
use Rattle.isp_base.specs.Values.{width}
use Rattle.isp_base.specs.declared.types.Elem.{Elem}
use Rattle.isp_base.specs.declared.types.Elem.TheVariants.{Bool as Truth}
use Rattle.isp_code.specs.Calls as calls
use Rattle.isp_code.specs.Calls.{from, numbers, new_home, shared_sizes, waits, depth}
use Rattle.isp_code.specs.Conf.{Home, Frame, Conf}
use Rattle.isp_code.specs.Fine.{CallFine, IsGiven, IsThere}
use Rattle.isp_code.specs.Listing.{Listing, Routine}
use Rattle.isp_code.specs.Registers.{passed, param_elems, arrays_of, local_elem, elem_of, types_in, table_of, is_per_lane}
use Rattle.isp_code.specs.declared.function.Returns.{Returns}
use Rattle.isp_code.specs.declared.function.Returns.TheVariants.{Nothing, Scalar as GivesScalar, Vector as GivesVector}
use Rattle.isp_code.specs.declared.instr.Call.{Call}
use Rattle.isp_code.specs.declared.instr.Instr.TheVariants as instr
use Rattle.isp_code.specs.declared.register.Class.{Class}
use Rattle.isp_code.specs.declared.register.Class.TheVariants as class
use Rattle.isp_code.specs.declared.register.Register.{Register}
use Rattle.isp_verify.specs.Accepted.{IsFine}
use Rattle.isp_forms.specs.Runs.{Forms}
use Rattle.isp_wasm_meaning.specs.Syntax.{I8x16, Code, Const128}
use Rattle.isp_wasm_meaning.specs.Meaning.{loaded, State, Result, Fell, Branched, Returned, Trapped, OutOfFuel, called, run, left, then_to, value, lane, flags, count}
use Rattle.isp_wasm_meaning.specs.Module.{Function, code_in, unused}
use Rattle.isp_wasm_meaning.specs.Ladder.{Told}
use Rattle.isp_wasm.specs.Places as place
use Rattle.isp_wasm.specs.Places.{Setting, Place, Counter, gang, parts, elem, shape, shape_of, text, bytes_of}
use Rattle.isp_wasm.specs.Rows.{cell, widened}
use Rattle.isp_wasm.specs.Locals.{row, taken_from, taken_places, own_places, inner_local, local_at}
use Rattle.isp_wasm.specs.Lanes.{array_register, store_at}
use Rattle.isp_wasm.specs.Lines.{HasArrays}
use Rattle.isp_wasm.specs.Module.{is_plain, all_plain, calls_function, is_called, inner, inner_of, inner_function, each_function, function_of, module_with}
use Rattle.isp_wasm.specs.Stack.{IsBelow, moved_up, start, has_call, waiting_bytes, function_bytes, bytes_if, bytes_in, top}
use Rattle.isp_wasm.specs.Standing.{all_of, shared_of, Holds, Keeps, Stands, IsFull, IsSettled, bits_by, bits_of, LanesBy, LanesOf, scalar_register, vector_register, the_machine}
use Rattle.isp_wasm.specs.Templates.{listed, plus, waiting_calls, part_under, vector_local, mask_local, passed_all, arguments_of, called_number, function_code, begin_code, routine_code}
use Rattle.isp_wasm.specs.Agreement.{BringsTo, Brings, Back, CallsAgree, ComesBack}
use Rattle.isp_wasm.proofs.Agreement.{calls_come_back}
use Rattle.isp_wasm.proofs.Cells.{select_cells, zero_cells}
use Rattle.isp_wasm.proofs.Entries.{digit_zero, no_cell}
use Rattle.isp_wasm.proofs.Frames.{put_same, put_other}
use Rattle.isp_wasm.proofs.Given.{Gives, gives, in_row, past_row, scalar_got, base_got, count_got, part_got, passed_fits, passed_shared, passed_long}
use Rattle.isp_wasm.proofs.Heads.{first_head}
use Rattle.isp_wasm.proofs.Numbers.{place_apart}
use Rattle.isp_wasm.proofs.Passing.{At, first_at, other_at, no_number}
use Rattle.isp_wasm.proofs.Copies as copies
use Rattle.isp_wasm.proofs.Copies.{laid_of, per_lane_at, none_per_lane}
use Rattle.isp_wasm.proofs.Opened.{AreLaid, IsUnder, inside, past_list, get_low, old_size, old_begin, old_elem, past_size, past_begin, keeps_out, beside_in, named_low, named_past, own_low}
use Rattle.isp_wasm.proofs.Shared.{all_low, all_high, beside_shared, forget, loaded_same, store_shared}
use Rattle.isp_wasm.proofs.Indices.{in_row as row_low}
use Rattle.isp_wasm.proofs.Opening.{which_array, IsOpen, IsEntered, Starts, starts}
use Rattle.isp_wasm.proofs.Plain.{all_at, any_at, calls_some, text_low, few_heads, heads_rise, some_code, bytes_low, covered, all_thin}
use Rattle.isp_wasm.proofs.Rows.{enough}
use Rattle.isp_wasm.proofs.Vectors.{chosen_over, mask_row}

-- a function of the module of its code, in a call
pub record IsOf (w : Setting) : Type 0 where
  pub accepted : IsFine w.code
  pub settled : IsSettled w
  pub laid : AreLaid (shared_of w)
  pub stored : (a : Register) → IsThere w.routine class.Array a → is_per_lane w.routine a ≡ false → w.elems (w.home.named a.number) ≡ elem w a
  pub named_low : (a : ℕ) → a < length (arrays_of w.routine) → is_per_lane w.routine (array_register a) ≡ false → w.home.named a < w.home.opened
  pub plain : (pc : ℕ) (k : Call) → slice_get w.routine.code pc ≡ Some (instr.Call k) → all_plain w.code ≡ true
  pub under : (pc : ℕ) (k : Call) → slice_get w.routine.code pc ≡ Some (instr.Call k) → IsUnder w (top w)

-- ---- its number

pub each_get : (make : ℕ → Routine → Function) (hs : List Routine) (i f : ℕ) (h : Routine) → slice_get hs f ≡ Some h → slice_get (each_function make i hs) f ≡ Some (make (i + f) h)
each_get make [] i f h has = absurd cc
each_get make (g ∷ hs) i zero h has = let same : g ≡ h = cc in ap (λ z. Some (make i z)) same ∙ ap (λ n. Some (make n h)) (let n : i ≡ i + 0 = omega arith in n)
each_get make (g ∷ hs) i (suc f) h has = each_get make hs (suc i) f h has ∙ ap (λ n. Some (make n h)) (let n : suc i + f ≡ i + suc f = omega arith in n)

pub each_long : (make : ℕ → Routine → Function) (hs : List Routine) (i : ℕ) → length (each_function make i hs) ≡ length hs
each_long make [] i = refl
each_long make (h ∷ hs) i = ap suc (each_long make hs (suc i))

module _ (code : Listing) (forms : Forms) (h : Routine) (fn pc : ℕ) (k : Call) (found : slice_get code.routines fn ≡ Some h) (has : slice_get h.code pc ≡ Some (instr.Call k)) (plain : all_plain code ≡ true) (g : Routine) (callee : slice_get code.routines k.function ≡ Some g) where
  calls_any : list_any has_call code.routines ≡ true
  calls_any = any_at has_call code.routines fn h found (calls_some h pc k has)

  called_one : is_called code k.function ≡ true
  called_one = any_at (λ h. list_any (calls_function k.function) h.code) code.routines fn h found (any_at (calls_function k.function) h.code pc (instr.Call k) has (eq-eqb k.function k.function refl))

  function_is : inner_function code forms k.function g ≡ inner_of code forms k.function g
  function_is = ap (λ b. if b && all_plain code then inner_of code forms k.function g else unused) called_one ∙ ap (λ b. if b then inner_of code forms k.function g else unused) plain

  pub inner_at : slice_get (module_with code forms).functions (length code.routines + k.function) ≡ Some (inner_of code forms k.function g)
  inner_at =
      ap (λ b. slice_get (each_function (function_of code forms) 0 code.routines ++ (if b then each_function (inner_function code forms) 0 code.routines else [])) (length code.routines + k.function)) calls_any
      ∙ ap (λ n. slice_get (each_function (function_of code forms) 0 code.routines ++ each_function (inner_function code forms) 0 code.routines) (n + k.function)) (sym (each_long (function_of code forms) code.routines 0))
      ∙ past_list (each_function (function_of code forms) 0 code.routines) (each_function (inner_function code forms) 0 code.routines) k.function
      ∙ each_get (inner_function code forms) code.routines 0 k.function g callee
      ∙ ap (λ n. Some (inner_function code forms n g)) (let n : 0 + k.function ≡ k.function = omega arith in n) ∙ ap Some function_is

  inner_code : code_in (module_with code forms) (length code.routines + k.function) ≡ routine_code (inner code forms k.function g)
  inner_code = ap (λ (z : Function). z.code) (get_or_from_slice_get (module_with code forms).functions (length code.routines + k.function) (inner_of code forms k.function g) unused inner_at)

-- ---- registers that are passed

pub some_low : {A : Type 0} (xs : List A) (k : ℕ) (x : A) → slice_get xs k ≡ Some x → k < length xs
some_low xs k x e = by (cases_lt k (length xs))
  where
    by : (k < length xs) ⊎ (length xs ≤ k) → k < length xs
    by (inl lt) = lt
    by (inr le) = absurd (let gone = slice_get_past xs k le in let impossible : None ≡ Some x = sym gone ∙ e in cc)

module _ (w : Setting) (of : IsOf w) (x : Call) (pc : ℕ) (has : slice_get w.routine.code pc ≡ Some (instr.Call x)) (fine : CallFine w.code w.routine x) where
  abbrev pub g : Routine
  g = fine.callee

  plain_g : is_plain w.code g ≡ true
  plain_g = all_at (is_plain w.code) w.code.routines x.function g (of.plain pc x has) fine.found

  module _ (c : Conf) (s : State) (st : Stands w pc c s) (few : depth c < most_calls) where
    abbrev pub mask : Sets.Mask
    mask = c.masks x.mask.number

    abbrev pub names : ℕ → ℕ
    names a = from 0 w.home.named (slice_get (numbers class.Array x.arguments) a)

    abbrev pub home : Home
    home = new_home g x.function names w.home.sizes w.home.opened

    abbrev pub frames : List Frame
    frames = waits c x.result mask ∷ c.waiting

    -- where its arrays begin
    abbrev pub at : ℕ
    at = start w.stack + waiting_bytes w.code frames

    abbrev pub callee : Setting
    callee = copies.whole w g x.function names (inner_local (gang w) g) frames at s.memory

    abbrev pub begun : Conf
    begun = calls.called c x g

    abbrev pub entered : State
    entered = record s { locals = slice_index (map (value s.locals) (arguments_of w x)) }

    home_is : begun.home ≡ home
    home_is = ap (λ (h : Home). new_home g x.function (λ a. from 0 h.named (slice_get (numbers class.Array x.arguments) a)) h.sizes h.opened) st.home_is

    -- ---- arrays

    -- its arrays lie after those of the caller
    bytes_are : function_bytes w.code c.home.fn ≡ bytes_in (gang w) w.routine.locals
    bytes_are = ap (λ (h : Home). function_bytes w.code h.fn) st.home_is ∙ ap (bytes_if (gang w)) of.settled.found

    waiting_are : waiting_bytes w.code c.waiting ≡ waiting_bytes w.code w.waiting
    waiting_are = ap (waiting_bytes w.code) st.waiting_is

    above : top w ≡ at
    above = omega (arith, bytes_are, waiting_are)

    under_whole : IsUnder w at
    under_whole = subst (IsUnder w) above (of.under pc x has)

    under : IsUnder (shared_of w) at
    under = record { arrays = λ b. by b (cases_lt w.home.opened b); texts = under_whole.texts; above = under_whole.above; stacked = under_whole.stacked }
      where
        by : (b : ℕ) → (w.home.opened < b) ⊎ (b ≤ w.home.opened) → w.begins b + w.home.sizes b * bytes_of (w.elems b) ≤ at
        by b (inr le) = subst (λ n. w.begins b + n * bytes_of (w.elems b) ≤ at) (of.settled.sizes_are b le) (under_whole.arrays b)
        by b (inl gt) =
            let none = of.settled.closed b (omega (arith, gt)) in
            let n = bytes_of (w.elems b) in
            let le = under_whole.arrays b in
            let end : w.begins b + w.home.sizes b * n ≡ w.begins b + 0 * n = ap (λ k. w.begins b + k * n) none in let more = w.sizes b * n in omega (arith, end, le)

    small : suc (bytes_in (gang w) g.locals) < 2 ^ 32
    small = bytes_low w.code g x.function of.accepted fine.found plain_g

    settled : IsSettled callee
    settled =
        record {
          found = fine.found;
          apart = λ p q e. place_apart (taken_places (gang w) g ++ own_places (gang w) g) p q e;
          few = few_heads w.code g x.function of.accepted fine.found plain_g;
          heads_up = heads_rise w.code g x.function of.accepted fine.found plain_g;
          text_low = text_low w.code g x.function of.accepted fine.found plain_g;
          text_apart = copies.text_apart w g x.function names (inner_local (gang w) g) frames at s.memory of.laid (λ e. under) small refl;
          bounded = copies.bounded w g x.function names (inner_local (gang w) g) frames at s.memory of.laid (λ e. under) small refl;
          closed = past_size w g x.function names (inner_local (gang w) g) frames at s.memory;
          disjoint = copies.disjoint w g x.function names (inner_local (gang w) g) frames at s.memory of.laid (λ e. under) small refl;
          sizes_are = λ b le. copies.low_size w g x.function names (inner_local (gang w) g) frames at s.memory b le;
          lanes_apart = copies.lanes_apart w g x.function names (inner_local (gang w) g) frames at s.memory of.laid (λ e. under) small refl;
        }

    shared_now : Keeps (shared_of w) c.arrays s.memory s.size
    shared_now = forget w of.settled c s.memory s.size st.keeps

    below_old : (arrays : ℕ → Lanes) (b e : ℕ) → b < w.home.opened → below c.home.opened arrays b e ≡ arrays b e
    below_old arrays b e low = ap (λ (f : Lanes). f e) (cond-true (nat_lt b c.home.opened) (arrays b) (λ e. 0) (ap (λ (h : Home). nat_lt b h.opened) st.home_is ∙ lt-ltb b w.home.opened low))

    below_new : (arrays : ℕ → Lanes) (b e : ℕ) → w.home.opened ≤ b → below c.home.opened arrays b e ≡ 0
    below_new arrays b e le = ap (λ (f : Lanes). f e) (cond-false (nat_lt b c.home.opened) (arrays b) (λ e. 0) (ap (λ (h : Home). nat_lt b h.opened) st.home_is ∙ le-ltb b w.home.opened le))

    -- the arrays that the caller has are in both
    kept : (arrays : ℕ → Lanes) (b e : ℕ) → e < w.home.sizes b → below c.home.opened arrays b e ≡ arrays b e
    kept arrays b e lt = by (cases_lt b w.home.opened)
      where
        by : (b < w.home.opened) ⊎ (w.home.opened ≤ b) → below c.home.opened arrays b e ≡ arrays b e
        by (inl low) = below_old arrays b e low
        by (inr le) = absurd (let nothing = of.settled.closed b le in omega (arith, lt, nothing))

    -- what lies below the caller's arrays lies below those of the function
    lower : (o : Option ℕ) (a n m : ℕ) → n ≤ m → IsBelow (moved_up o n) a → IsBelow (moved_up o m) a
    lower None a n m le h = h
    lower (Some y) a n m le h = omega (arith, le, h)

    higher : waiting_bytes w.code w.waiting ≤ waiting_bytes w.code frames
    higher = omega (arith, waiting_are)

    returned : (arrays others : ℕ → Lanes) (memory : ℕ → ℕ) (size : ℕ) → ((b e : ℕ) → e < w.home.sizes b → others b e ≡ arrays b e) → Keeps (shared_of callee) arrays memory size → Keeps (shared_of w) others memory size
    returned arrays others memory size same k =
        keeps_out w g x.function names (inner_local (gang w) g) frames at s.memory of.laid (λ e. under) small refl arrays others memory size (λ b. subst (λ n. w.begins b + w.home.sizes b * bytes_of (w.elems b) ≤ n) (shared_now.whole ∙ sym k.whole) (shared_now.room b)) same shared_now.rest
        (λ a h. lower w.stack a (waiting_bytes w.code w.waiting) (waiting_bytes w.code frames) higher h) (copies.without_lanes w g x.function names (inner_local (gang w) g) frames at s.memory arrays memory size k)

    -- ---- what is passed

    abbrev pub own : List Place
    own = own_places (gang w) g

    abbrev pub places : List Place
    places = taken_from (gang w) g.params 0 0 0 ++ own

    abbrev pub given : List ℕ
    given = map (value s.locals) (passed_all w x.mask x.arguments)

    all : Gives w s.locals x.mask places given x.arguments 0 0 0
    all = gives w s.locals x.mask g.params x.arguments fine.passed own (λ p. no_number (local_at own p)) 0 0 0

    in_order : (p : Place) → entered.locals (inner_local (gang w) g p) ≡ At (place.Depth ∷ place.Top ∷ (row (parts w I8x16) (place.Mask 0) ++ places)) (map (value s.locals) (arguments_of w x)) p
    in_order p = ap (λ qs. At (place.Depth ∷ place.Top ∷ qs) (map (value s.locals) (arguments_of w x)) p) (append_assoc (row (parts w I8x16) (place.Mask 0)) (taken_from (gang w) g.params 0 0 0) own)

    abbrev pub passed_values : List ℕ
    passed_values = map (value s.locals) (listed w (parts w I8x16) (mask_local w x.mask) ++ passed_all w x.mask x.arguments)

    depth_got : entered.locals (inner_local (gang w) g place.Depth) ≡ value s.locals (plus w (waiting_calls w) 1)
    depth_got = in_order place.Depth ∙ first_at place.Depth (place.Top ∷ (row (parts w I8x16) (place.Mask 0) ++ places)) (value s.locals (plus w (waiting_calls w) 1)) (s.locals (w.local place.Top) ∷ passed_values)

    past_depth : (p : Place) → (place.Depth ≡ p → ⊥) → entered.locals (inner_local (gang w) g p) ≡ At (place.Top ∷ (row (parts w I8x16) (place.Mask 0) ++ places)) (s.locals (w.local place.Top) ∷ passed_values) p
    past_depth p ne = in_order p ∙ other_at place.Depth p (place.Top ∷ (row (parts w I8x16) (place.Mask 0) ++ places)) (value s.locals (plus w (waiting_calls w) 1)) (s.locals (w.local place.Top) ∷ passed_values) ne

    top_got : entered.locals (inner_local (gang w) g place.Top) ≡ s.locals (w.local place.Top)
    top_got = past_depth place.Top (λ e. cc) ∙ first_at place.Top (row (parts w I8x16) (place.Mask 0) ++ places) (s.locals (w.local place.Top)) passed_values

    past_top : (p : Place) → (place.Depth ≡ p → ⊥) → (place.Top ≡ p → ⊥) → entered.locals (inner_local (gang w) g p) ≡ At (row (parts w I8x16) (place.Mask 0) ++ places) passed_values p
    past_top p d t = past_depth p d ∙ other_at place.Top p (row (parts w I8x16) (place.Mask 0) ++ places) (s.locals (w.local place.Top)) passed_values t

    mask_got : (j : ℕ) → j < parts w I8x16 → entered.locals (inner_local (gang w) g (place.Mask 0 j)) ≡ s.locals (w.local (place.Mask x.mask.number j))
    mask_got j lt =
        past_top (place.Mask 0 j) (λ e. cc) (λ e. cc)
        ∙ in_row w s.locals places (passed_all w x.mask x.arguments) (parts w I8x16) (place.Mask 0) (mask_local w x.mask) j (λ i k e. cc) lt

    got : (p : Place) → (place.Depth ≡ p → ⊥) → (place.Top ≡ p → ⊥) → ((j : ℕ) → j < parts w I8x16 → place.Mask 0 j ≡ p → ⊥) → entered.locals (inner_local (gang w) g p) ≡ At places given p
    got p d t out = past_top p d t ∙ past_row w s.locals places (passed_all w x.mask x.arguments) (parts w I8x16) (place.Mask 0) (mask_local w x.mask) p out

    zero_more : (n : ℕ) → n ≡ 0 + n
    zero_more n = omega arith

    -- ---- types of what is passed

    scalar_elem : (r q : ℕ) → slice_get (numbers class.Scalar x.arguments) r ≡ Some q → elem callee (scalar_register r) ≡ elem w (scalar_register q)
    scalar_elem r q has =
        let fits = passed_fits w.routine class.Scalar g.params x.arguments fine.passed r q has in
        get_or_append_left (param_elems class.Scalar g.params) g.scalars Truth r (subst (λ n. r < n) (passed_long w.routine class.Scalar g.params x.arguments fine.passed) (some_low (numbers class.Scalar x.arguments) r q has))
        ∙ sym fits.elem_is

    vector_elem : (r q : ℕ) → slice_get (numbers class.Vector x.arguments) r ≡ Some q → elem callee (vector_register r) ≡ elem w (vector_register q)
    vector_elem r q has =
        let fits = passed_fits w.routine class.Vector g.params x.arguments fine.passed r q has in
        get_or_append_left (param_elems class.Vector g.params) g.vectors Truth r (subst (λ n. r < n) (passed_long w.routine class.Vector g.params x.arguments fine.passed) (some_low (numbers class.Vector x.arguments) r q has))
        ∙ sym fits.elem_is

    -- ---- registers

    scalars : (r : ℕ) (o : Option ℕ) → from 0 (scalar_got w s.locals x.mask) o ≡ from 0 c.scalars o
    scalars r None = refl
    scalars r (Some q) = st.holds.scalars_are q

    scalar_fits : (r : ℕ) (o : Option ℕ) → slice_get (numbers class.Scalar x.arguments) r ≡ o → from 0 c.scalars o < 2 ^ width (elem callee (scalar_register r))
    scalar_fits r None has = pow_pos (width (elem callee (scalar_register r)))
    scalar_fits r (Some q) has = subst (λ t. c.scalars q < 2 ^ width t) (sym (scalar_elem r q has)) (st.holds.fits q)

    vectors : (r j i : ℕ) (o : Option ℕ) → slice_get (numbers class.Vector x.arguments) r ≡ o → i < count (shape callee (vector_register r)) → j * count (shape callee (vector_register r)) + i < gang w
        → lane (shape callee (vector_register r)) i (from 0 (part_got w s.locals x.mask j) o)
        ≡ cell (elem callee (vector_register r)) (from (λ p. 0) (λ q. over (on mask (c.vectors q)) (λ p. 0)) o (j * count (shape callee (vector_register r)) + i))
    vectors r j i None has l q = digit_zero _ i (pow_pos _) ∙ no_cell (elem callee (vector_register r))
    vectors r j i (Some v) has l q =
        subst
        (λ t. i < count (shape_of t) → j * count (shape_of t) + i < gang w
        → lane (shape_of t) i (part_got w s.locals x.mask j v) ≡ cell t (over (on mask (c.vectors v)) (λ p. 0) (j * count (shape_of t) + i)))
        (sym (vector_elem r v has)) (λ l q. here l q) l q
      where
        t : Elem
        t = elem w (vector_register v)

        here : i < count (shape w (vector_register v)) → j * count (shape w (vector_register v)) + i < gang w
            → lane (shape w (vector_register v)) i (part_got w s.locals x.mask j v) ≡ cell (elem w (vector_register v)) (over (on mask (c.vectors v)) (λ p. 0) (j * count (shape w (vector_register v)) + i))
        here l q =
            ap (lane (shape w (vector_register v)) i) (cond-true (nat_lt j (parts w (shape w (vector_register v)))) (value s.locals (part_under w x.mask (vector_register v) j)) 0 (lt-ltb j (parts w (shape w (vector_register v))) (enough w (shape w (vector_register v)) j i q)))
            ∙ select_cells (gang w) (elem w (vector_register v)) s.locals (vector_local w (vector_register v)) (λ j. Const128 0) (widened (shape w (vector_register v)) (mask_local w x.mask)) (c.vectors v) (λ p. 0) mask
            (st.holds.vectors_are v) (zero_cells (gang w) (elem w (vector_register v)) s.locals) (mask_row w c s.locals st.holds (shape w (vector_register v)) x.mask (gang w)) j i l q
            ∙ ap (cell (elem w (vector_register v))) (chosen_over (mask (j * count (shape w (vector_register v)) + i)) (c.vectors v (j * count (shape w (vector_register v)) + i)) 0)

    masks : (r j i : ℕ) → i < 16 → (r ≡ 0) ⊎ (r ≡ 0 → ⊥) → (j < parts w I8x16) ⊎ (parts w I8x16 ≤ j)
        → lane I8x16 i (entered.locals (inner_local (gang w) g (place.Mask r j))) ≡ flags 8 (put (λ k. nobody) 0 mask r (j * 16 + i))
    masks r j i l (inl e) (inl lt) =
        subst (λ r. lane I8x16 i (entered.locals (inner_local (gang w) g (place.Mask r j))) ≡ flags 8 (put (λ k. nobody) 0 mask r (j * 16 + i))) (sym e)
        (ap (lane I8x16 i) (mask_got j lt) ∙ st.holds.masks_are x.mask.number j i l)
    masks r j i l (inl e) (inr le) =
        subst (λ r. lane I8x16 i (entered.locals (inner_local (gang w) g (place.Mask r j))) ≡ flags 8 (put (λ k. nobody) 0 mask r (j * 16 + i))) (sym e)
        (ap (lane I8x16 i) (got (place.Mask 0 j) (λ e. cc) (λ e. cc) (λ k low e. (let same : k ≡ j = cc in omega (arith, same, low, le))) ∙ all.others (place.Mask 0 j) tt) ∙ digit_zero 256 i (lit≤ tt)
        ∙ ap (flags 8) (sym (off (mask (j * 16 + i)) refl)))
      where
        off : (b : Bool) → mask (j * 16 + i) ≡ b → mask (j * 16 + i) ≡ false
        off false e = e
        off true e = absurd (let low = st.holds.members x.mask.number (j * 16 + i) e in let some = enough w I8x16 j i low in omega (arith, some, le))
    masks r j i l (inr ne) h =
        ap (lane I8x16 i) (got (place.Mask r j) (λ e. cc) (λ e. cc) (λ k low e. ne cc) ∙ all.others (place.Mask r j) tt) ∙ digit_zero 256 i (lit≤ tt)
        ∙ ap (λ f. flags 8 (f (j * 16 + i))) (sym (put_other (λ k. nobody) 0 mask r ne))

    members : (r p : ℕ) → (r ≡ 0) ⊎ (r ≡ 0 → ⊥) → put (λ k. nobody) 0 mask r p ≡ true → p < gang w
    members r p (inl e) h = st.holds.members x.mask.number p (sym (ap (λ f. f p) (put_same (λ k. nobody) 0 mask r e)) ∙ h)
    members r p (inr ne) h = absurd (let impossible : false ≡ true = sym (ap (λ f. f p) (put_other (λ k. nobody) 0 mask r ne)) ∙ h in cc)

    -- ---- arrays that are passed

    abbrev pub array_numbers : List ℕ
    array_numbers = numbers class.Array x.arguments

    arrays_long : length array_numbers ≡ length (param_elems class.Array g.params)
    arrays_long = passed_long w.routine class.Array g.params x.arguments fine.passed

    passed_low : (a q : ℕ) → slice_get array_numbers a ≡ Some q → a < length (param_elems class.Array g.params)
    passed_low a q has = subst (λ n. a < n) arrays_long (some_low array_numbers a q has)

    named_in : (a q : ℕ) → slice_get array_numbers a ≡ Some q → home.named a ≡ w.home.named q
    named_in a q has = named_low w g x.function names (inner_local (gang w) g) frames at s.memory a (passed_low a q has) ∙ ap (from 0 w.home.named) has

    shared_in : (a q : ℕ) → slice_get array_numbers a ≡ Some q → is_per_lane w.routine (array_register q) ≡ false
    shared_in a q has = passed_shared w.routine class.Array g.params x.arguments fine.passed a q has

    old_named : (a q : ℕ) → slice_get array_numbers a ≡ Some q → w.home.named q < w.home.opened
    old_named a q has = of.named_low q (passed_fits w.routine class.Array g.params x.arguments fine.passed a q has).there (shared_in a q has)

    which : (a : ℕ) → ((q : ℕ) × (slice_get array_numbers a ≡ Some q)) ⊎ (length (param_elems class.Array g.params) ≤ a)
    which a = by (cases_lt a (length array_numbers))
      where
        by : (a < length array_numbers) ⊎ (length array_numbers ≤ a) → ((q : ℕ) × (slice_get array_numbers a ≡ Some q)) ⊎ (length (param_elems class.Array g.params) ≤ a)
        by (inl lt) = inl (get_or array_numbers a 0, slice_get-get_or array_numbers a 0 lt)
        by (inr le) = inr (subst (λ n. n ≤ a) arrays_long le)

    no_array : (a : ℕ) → length (param_elems class.Array g.params) ≤ a → slice_get array_numbers a ≡ None
    no_array a le = slice_get_past array_numbers a (subst (λ n. n ≤ a) (sym arrays_long) le)

    -- an array that it does not open
    abbrev NotOwn : ℕ → Type 0
    NotOwn a = (i : ℕ) → i < length g.locals → a ≡ length (param_elems class.Array g.params) + i → ⊥

    past_own : (a : ℕ) → NotOwn a → length (param_elems class.Array g.params) ≤ a → home.named a ≡ home.opened
    past_own a out le = named_past w g x.function names (inner_local (gang w) g) frames at s.memory a (past (cases_lt a (length (param_elems class.Array g.params) + length g.locals)))
      where
        past : (a < length (param_elems class.Array g.params) + length g.locals) ⊎ (length (param_elems class.Array g.params) + length g.locals ≤ a) → length (param_elems class.Array g.params) + length g.locals ≤ a
        past (inl lt) = absurd (out (a - length (param_elems class.Array g.params)) (omega (arith, lt, le)) (omega (arith, le)))
        past (inr ge) = ge

    not_own : (a : ℕ) → NotOwn a → store_at callee a 0 ≡ home.named a
    not_own a out = copies.shared_store w g x.function names (inner_local (gang w) g) frames at s.memory a 0 (none_per_lane g a out)

    callee_low : (b : ℕ) → b ≤ home.opened → callee.begins b ≡ (inside w g x.function names (inner_local (gang w) g) frames at s.memory).begins b
    callee_low b le = copies.low_begin w g x.function names (inner_local (gang w) g) frames at s.memory b le

    bases : (a : ℕ) → NotOwn a → ((q : ℕ) × (slice_get array_numbers a ≡ Some q)) ⊎ (length (param_elems class.Array g.params) ≤ a) → from 0 (base_got w s.locals x.mask) (slice_get array_numbers a) ≡ callee.begins (store_at callee a 0)
    bases a out (inl (q, has)) =
        ap (from 0 (base_got w s.locals x.mask)) has ∙ st.holds.bases q ∙ ap w.begins (store_shared w q 0 (shared_in a q has))
        ∙ sym (ap callee.begins (not_own a out ∙ named_in a q has) ∙ callee_low (w.home.named q) (let low = old_named a q has in omega (arith, low)) ∙ old_begin w g x.function names (inner_local (gang w) g) frames at s.memory (w.home.named q) (old_named a q has))
    bases a out (inr le) =
        ap (from 0 (base_got w s.locals x.mask)) (no_array a le) ∙ sym (ap callee.begins (not_own a out ∙ past_own a out le) ∙ callee_low home.opened (omega arith) ∙ past_begin w g x.function names (inner_local (gang w) g) frames at s.memory home.opened (omega arith))

    counts : (a : ℕ) → NotOwn a → ((q : ℕ) × (slice_get array_numbers a ≡ Some q)) ⊎ (length (param_elems class.Array g.params) ≤ a) → from 0 (count_got w s.locals x.mask) (slice_get array_numbers a) ≡ callee.sizes (store_at callee a 0)
    counts a out (inl (q, has)) =
        ap (from 0 (count_got w s.locals x.mask)) has ∙ st.holds.counts q ∙ ap w.sizes (store_shared w q 0 (shared_in a q has)) ∙ of.settled.sizes_are (w.home.named q) (let low = old_named a q has in omega (arith, low))
        ∙ sym (ap callee.sizes (not_own a out ∙ named_in a q has) ∙ copies.low_size w g x.function names (inner_local (gang w) g) frames at s.memory (w.home.named q) (let low = old_named a q has in omega (arith, low)) ∙ old_size w g x.function names (inner_local (gang w) g) frames at s.memory (w.home.named q) (old_named a q has))
    counts a out (inr le) =
        ap (from 0 (count_got w s.locals x.mask)) (no_array a le) ∙ sym (ap callee.sizes (not_own a out ∙ past_own a out le) ∙ copies.low_size w g x.function names (inner_local (gang w) g) frames at s.memory home.opened (omega arith) ∙ past_size w g x.function names (inner_local (gang w) g) frames at s.memory home.opened (omega arith))

    all_low_named : (a : ℕ) → a < length (arrays_of g) → is_per_lane g (array_register a) ≡ false → home.named a < home.opened
    all_low_named a lt shared = by (which_array a (length (param_elems class.Array g.params)) (length g.locals)) (which a)
      where
        by : ((i : ℕ) × (a ≡ length (param_elems class.Array g.params) + i) × (i < length g.locals)) ⊎ NotOwn a → ((q : ℕ) × (slice_get array_numbers a ≡ Some q)) ⊎ (length (param_elems class.Array g.params) ≤ a) → home.named a < home.opened
        by (inl (i, e, low)) h =
            let one = get_low g.locals i low in
            subst (λ n. home.named n < home.opened) (sym e) (own_low w g x.function names (inner_local (gang w) g) frames at s.memory i one.0 one.1 (sym (per_lane_at g i one.0 one.1) ∙ ap (λ n. is_per_lane g (array_register n)) (sym e) ∙ shared))
        by (inr out) (inl (q, has)) = let low = old_named a q has in let is = named_in a q has in omega (arith, low, is)
        by (inr out) (inr le) =
            absurd
            (let long = length-append (param_elems class.Array g.params) (map local_elem g.locals) in let mapped = length-map g.locals local_elem in
            out (a - length (param_elems class.Array g.params)) (omega (arith, lt, le, long, mapped)) (omega (arith, le)))

    has_arrays : HasArrays callee
    has_arrays = copies.has_arrays w g x.function names (inner_local (gang w) g) frames at s.memory small passes all_low_named
      where
        passes : (a : Register) → IsThere g class.Array a → a.number < length (param_elems class.Array g.params) → (inside w g x.function names (inner_local (gang w) g) frames at s.memory).elems (home.named a.number) ≡ elem_of g a
        passes a there lt = by (which a.number)
          where
            by : ((q : ℕ) × (slice_get array_numbers a.number ≡ Some q)) ⊎ (length (param_elems class.Array g.params) ≤ a.number) → (inside w g x.function names (inner_local (gang w) g) frames at s.memory).elems (home.named a.number) ≡ elem_of g a
            by (inr le) = absurd (omega (arith, lt, le))
            by (inl (q, has)) =
                let fits = passed_fits w.routine class.Array g.params x.arguments fine.passed a.number q has in
                ap (inside w g x.function names (inner_local (gang w) g) frames at s.memory).elems (named_in a.number q has) ∙ old_elem w g x.function names (inner_local (gang w) g) frames at s.memory (w.home.named q) (old_named a.number q has)
                ∙ of.stored (record { class = class.Array; number = q }) (refl, fits.there) (shared_in a.number q has) ∙ fits.elem_is
                ∙ sym (ap (λ c. slice_index_or (types_in (table_of g) c) a.number Truth) there.0 ∙ get_or_append_left (param_elems class.Array g.params) (map local_elem g.locals) Truth a.number lt)

    -- ---- before the first instruction

    depth_is : value s.locals (plus w (waiting_calls w) 1) ≡ suc (length c.waiting)
    depth_is =
        let waiting : s.locals (w.local place.Depth) ≡ length c.waiting = st.holds.depth ∙ sym (ap length st.waiting_is) in
        ap (λ n. (n + 1 % 2 ^ 32) % 2 ^ 32) waiting ∙ mod-eq_of_lt (omega (arith, few)) ∙ (let same : length c.waiting + 1 % 2 ^ 32 ≡ suc (length c.waiting) = omega arith in same)

    module _ (m : ℕ → ℕ) (o : IsOpen callee g.locals (passed g) at entered.locals m) where
      other : (p : Place) → (p ≡ place.Top → ⊥) → ((i : ℕ) → i < length g.locals → p ≡ place.Base (passed g + i) → ⊥) → ((i : ℕ) → i < length g.locals → p ≡ place.Count (passed g + i) → ⊥) → m (callee.local p) ≡ entered.locals (inner_local (gang w) g p)
      other p x y z = o.others p x y z

      base_holds : (a : ℕ) → ((i : ℕ) × (a ≡ passed g + i) × (i < length g.locals)) ⊎ NotOwn a → m (callee.local (place.Base a)) ≡ callee.begins (store_at callee a 0)
      base_holds a (inl (i, e, lt)) = subst (λ n. m (callee.local (place.Base n)) ≡ callee.begins (store_at callee n 0)) (sym e) (o.bases i lt ∙ sym (copies.own_base w g x.function names (inner_local (gang w) g) frames at s.memory i lt))
      base_holds a (inr out) =
          other (place.Base a) (λ e. cc) (λ i lt e. out i lt cc) (λ i lt e. cc) ∙ got (place.Base a) (λ e. cc) (λ e. cc) (λ j lt e. cc) ∙ ap (λ n. At places given (place.Base n)) (zero_more a) ∙ all.bases a ∙ bases a out (which a)

      count_holds : (a : ℕ) → ((i : ℕ) × (a ≡ passed g + i) × (i < length g.locals)) ⊎ NotOwn a → m (callee.local (place.Count a)) ≡ callee.sizes (store_at callee a 0)
      count_holds a (inl (i, e, lt)) = subst (λ n. m (callee.local (place.Count n)) ≡ callee.sizes (store_at callee n 0)) (sym e) (o.counts i lt ∙ sym (copies.own_count w g x.function names (inner_local (gang w) g) frames at s.memory i lt))
      count_holds a (inr out) =
          other (place.Count a) (λ e. cc) (λ i lt e. cc) (λ i lt e. out i lt cc) ∙ got (place.Count a) (λ e. cc) (λ e. cc) (λ j lt e. cc) ∙ ap (λ n. At places given (place.Count n)) (zero_more a) ∙ all.counts a ∙ counts a out (which a)

      holds : Holds callee begun.scalars begun.vectors begun.masks m
      holds =
          record {
            scalars_are = λ r. other (place.Scalar r) (λ e. cc) (λ i lt e. cc) (λ i lt e. cc) ∙ got (place.Scalar r) (λ e. cc) (λ e. cc) (λ j lt e. cc) ∙ ap (λ n. At places given (place.Scalar n)) (zero_more r) ∙ all.scalars r
                ∙ scalars r (slice_get (numbers class.Scalar x.arguments) r);
            vectors_are = λ r j i l q. ap (lane (shape callee (vector_register r)) i)
                (other (place.Vector r j) (λ e. cc) (λ i lt e. cc) (λ i lt e. cc) ∙ got (place.Vector r j) (λ e. cc) (λ e. cc) (λ k lt e. cc) ∙ ap (λ n. At places given (place.Vector n j)) (zero_more r) ∙ all.vectors r j)
                ∙ vectors r j i (slice_get (numbers class.Vector x.arguments) r) refl l q;
            masks_are = λ r j i l. ap (lane I8x16 i) (other (place.Mask r j) (λ e. cc) (λ i lt e. cc) (λ i lt e. cc)) ∙ masks r j i l (cases_eq r 0) (cases_lt j (parts w I8x16));
            fits = λ r. scalar_fits r (slice_get (numbers class.Scalar x.arguments) r) refl;
            members = λ r p h. members r p (cases_eq r 0) h;
            bases = λ a. base_holds a (which_array a (passed g) (length g.locals));
            counts = λ a. count_holds a (which_array a (passed g) (length g.locals));
            depth = other place.Depth (λ e. cc) (λ i lt e. cc) (λ i lt e. cc) ∙ depth_got ∙ depth_is;
            top_is = o.top_is;
          }

    counter_is : entered.locals (callee.local Counter) ≡ 0
    counter_is = got Counter (λ e. cc) (λ e. cc) (λ j lt e. cc) ∙ all.others Counter tt

    head_is : callee.heads (entered.locals (callee.local Counter)) ≡ 0
    head_is = ap callee.heads counter_is ∙ (first_head g.code (length g.code) (some_code w.code g x.function of.accepted fine.found plain_g)).1

    opened_is : home.opened ≡ w.home.opened + length (shared_sizes g.locals)
    opened_is = refl

    begun_old : (b e : ℕ) → b < w.home.opened → all_of callee begun b e ≡ c.arrays b e
    begun_old b e lt = ap (λ (g : Lanes). g e) (all_low callee begun b (omega (arith, lt))) ∙ below_old c.arrays b e lt

    begun_new : (b e : ℕ) → w.home.opened ≤ b → all_of callee begun b e ≡ 0
    begun_new b e le = by (cases_lt home.opened b)
      where
        by : (home.opened < b) ⊎ (b ≤ home.opened) → all_of callee begun b e ≡ 0
        by (inl gt) = ap (λ (g : Lanes). g e) (all_high callee begun b gt)
        by (inr low) = ap (λ (g : Lanes). g e) (all_low callee begun b low) ∙ below_new c.arrays b e le

    is_entered : IsEntered callee settled begun entered
    is_entered =
        record {
          home_is = home_is;
          waiting_is = refl;
          pc_is = refl;
          out_is = st.out_is;
          top_is = top_got ∙ st.holds.top_is ∙ above;
          few = small;
          small = st.keeps.small;
          whole = st.keeps.whole;
          stacked = λ e. under.stacked;
          holds = λ m o. holds m o;
          keeps = λ room. copies.keeps_in w g x.function names (inner_local (gang w) g) frames at s.memory of.laid (λ e. under) small refl c.arrays (all_of callee begun) s.memory s.size room begun_old begun_new (λ a. refl) shared_now;
        }

    is_of : IsOf callee
    is_of =
        record {
          accepted = of.accepted;
          settled = settled;
          laid = laid_of callee settled refl;
          stored = λ a there e. (has_arrays.shared a there e).stored_as;
          named_low = all_low_named;
          plain = λ p k h. of.plain pc x has;
          under = λ p k h. copies.under_all w g x.function names (inner_local (gang w) g) frames at s.memory of.laid (λ e. under) small refl under;
        }

    -- ---- what its result says

    module _ (conf : Conf) (v : Option ℕ) (u : State) (fits : (r : ℕ) → conf.scalars r < 2 ^ width (elem callee (scalar_register r))) where
      brings_scalar : (t : Elem) (a b : Class) (d y : ℕ) → a ≡ class.Scalar → b ≡ class.Scalar → elem w (record { class = a; number = d }) ≡ t → elem callee (record { class = b; number = y }) ≡ t
          → v ≡ bits_by callee b conf (record { class = b; number = y }) → BringsTo w a (record { class = a; number = d }) (record { class = b; number = y }) conf v u
      brings_scalar t class.Scalar class.Scalar d y p q e f is = (is, subst (λ t. conf.scalars y < 2 ^ width t) (f ∙ sym e) (fits y))
      brings_scalar t class.Vector b d y p q e f is = absurd cc
      brings_scalar t class.Mask b d y p q e f is = absurd cc
      brings_scalar t class.Array b d y p q e f is = absurd cc
      brings_scalar t class.Scalar class.Vector d y p q e f is = absurd cc
      brings_scalar t class.Scalar class.Mask d y p q e f is = absurd cc
      brings_scalar t class.Scalar class.Array d y p q e f is = absurd cc

      brings_vector : (t : Elem) (a b : Class) (d y : ℕ) → a ≡ class.Vector → b ≡ class.Vector → elem w (record { class = a; number = d }) ≡ t → elem callee (record { class = b; number = y }) ≡ t
          → v ≡ bits_by callee b conf (record { class = b; number = y }) → LanesBy callee b conf (record { class = b; number = y }) u → BringsTo w a (record { class = a; number = d }) (record { class = b; number = y }) conf v u
      brings_vector t class.Vector class.Vector d y p q e f is lanes = (
        is,
        subst
            (λ t. (j i : ℕ) → i < count (shape_of t) → j * count (shape_of t) + i < gang w → lane (shape_of t) i (u.globals (suc j)) ≡ cell t (conf.vectors y (j * count (shape_of t) + i)))
            (f ∙ sym e) lanes,
      )
      brings_vector t class.Scalar b d y p q e f is lanes = absurd cc
      brings_vector t class.Mask b d y p q e f is lanes = absurd cc
      brings_vector t class.Array b d y p q e f is lanes = absurd cc
      brings_vector t class.Vector class.Scalar d y p q e f is lanes = absurd cc
      brings_vector t class.Vector class.Mask d y p q e f is lanes = absurd cc
      brings_vector t class.Vector class.Array d y p q e f is lanes = absurd cc

      brings : (r : Returns) (d y : Option Register) → IsGiven w.routine r d → IsGiven g r y → v ≡ bits_of callee conf y → LanesOf callee conf y u → Brings w d y conf v u
      brings Nothing None None goes back is lanes = is
      brings Nothing None (Some y) goes back is lanes = absurd back
      brings Nothing (Some d) y goes back is lanes = absurd goes
      brings (GivesScalar t) None y goes back is lanes = absurd goes
      brings (GivesScalar t) (Some d) None goes back is lanes = absurd back
      brings (GivesScalar t) (Some d) (Some y) goes back is lanes = brings_scalar t d.class y.class d.number y.number (goes.0).0 (back.0).0 goes.1 back.1 is
      brings (GivesVector t) None y goes back is lanes = absurd goes
      brings (GivesVector t) (Some d) None goes back is lanes = absurd back
      brings (GivesVector t) (Some d) (Some y) goes back is lanes = brings_vector t d.class y.class d.number y.number (goes.0).0 (back.0).0 goes.1 back.1 is lanes

    -- what each lane has of its own lies below the arrays of the function, and is as it was
    module _ (conf : Conf) (t : State) (k : Keeps (shared_of callee) conf.arrays t.memory t.size) where
      abbrev after_it : Conf
      after_it = record c { arrays = below c.home.opened conf.arrays }

      sh : Keeps (shared_of w) (below c.home.opened conf.arrays) t.memory t.size
      sh = returned conf.arrays (below c.home.opened conf.arrays) t.memory t.size (kept conf.arrays) k

      own_byte : (b a : ℕ) → w.home.opened < b → w.begins b ≤ a → a < w.begins b + w.sizes b * bytes_of (w.elems b) → t.memory a ≡ s.memory a
      own_byte b a gt low high =
          (copies.without_lanes w g x.function names (inner_local (gang w) g) frames at s.memory conf.arrays t.memory t.size k).rest a
          (beside_in w g x.function names (inner_local (gang w) g) frames at s.memory of.laid (λ e. under) small refl a lt (λ r old. apart r old (of.settled.disjoint r b (λ e. omega (arith, e, gt, old)))), low_floor w.stack (waiting_bytes w.code frames) lt)
        where
          lt : a < at
          lt = let le = under_whole.arrays b in omega (arith, high, le)

          low_floor : (o : Option ℕ) (n : ℕ) → a < start o + n → IsBelow (moved_up o n) a
          low_floor None n h = tt
          low_floor (Some y) n h = h

          apart : (r : ℕ) → r < w.home.opened → (w.begins r + w.sizes r * bytes_of (w.elems r) ≤ w.begins b) ⊎ (w.begins b + w.sizes b * bytes_of (w.elems b) ≤ w.begins r) → (a < w.begins r) ⊎ (w.begins r + w.home.sizes r * bytes_of (w.elems r) ≤ a)
          apart r old (inl le) = inr (subst (λ n. w.begins r + n * bytes_of (w.elems r) ≤ a) (of.settled.sizes_are r (omega (arith, old))) (omega (arith, le, low)))
          apart r old (inr le) = inl (omega (arith, le, high))

      recovered : Keeps w (all_of w after_it) t.memory t.size
      recovered =
          record {
            bytes_fit = sh.bytes_fit;
            elements = λ b e lt. elements b e lt (cases_lt w.home.opened b);
            elements_fit = λ b e lt. fits_so b e lt (cases_lt w.home.opened b);
            room = λ b. subst (λ n. w.begins b + w.sizes b * bytes_of (w.elems b) ≤ n) (st.keeps.whole ∙ sym sh.whole) (st.keeps.room b);
            small = sh.small;
            whole = sh.whole;
            texts = sh.texts;
            text_room = sh.text_room;
            rest = λ a h. sh.rest a (beside_shared w of.settled a h);
          }
        where
          own_same : (b e : ℕ) → w.home.opened < b → all_of w c b e ≡ all_of w after_it b e
          own_same b e gt = ap (λ (g : Lanes). g e) (all_high w c b gt) ∙ sym (ap (λ (g : Lanes). g e) (all_high w after_it b gt))

          elements : (b e : ℕ) → e < w.sizes b → (w.home.opened < b) ⊎ (b ≤ w.home.opened) → loaded (bytes_of (w.elems b)) (w.begins b + e * bytes_of (w.elems b)) t.memory ≡ all_of w after_it b e
          elements b e lt (inr le) = sh.elements b e (subst (λ n. e < n) (of.settled.sizes_are b le) lt) ∙ sym (ap (λ (g : Lanes). g e) (all_low w after_it b le))
          elements b e lt (inl gt) =
              loaded_same (bytes_of (w.elems b)) (w.begins b + e * bytes_of (w.elems b)) t.memory s.memory
              (λ j l. own_byte b (w.begins b + e * bytes_of (w.elems b) + j) gt (omega arith) (let le = row_low e (w.sizes b) (bytes_of (w.elems b)) lt in omega (arith, le, l)))
              ∙ st.keeps.elements b e lt ∙ own_same b e gt

          fits_so : (b e : ℕ) → e < w.sizes b → (w.home.opened < b) ⊎ (b ≤ w.home.opened) → all_of w after_it b e < 2 ^ width (w.elems b)
          fits_so b e lt (inr le) = subst (λ n. n < 2 ^ width (w.elems b)) (sym (ap (λ (g : Lanes). g e) (all_low w after_it b le))) (sh.elements_fit b e (subst (λ n. e < n) (of.settled.sizes_are b le) lt))
          fits_so b e lt (inl gt) = subst (λ n. n < 2 ^ width (w.elems b)) (own_same b e gt) (st.keeps.elements_fit b e lt)

    abbrev pub Comes : ℕ → Conf → Result → Type 0
    Comes f d r = Told (the_machine callee) (ComesBack callee (waits c x.result mask) c.waiting) f d r

    told : (f : ℕ) (d : Conf) (r : Result) → Comes f d r → Told (the_machine w) (Back w x c) f d r
    told f d (Fell t) h = h
    told f d (Branched k t) h = h
    told f d (Returned v t) h =
        record {
          conf = h.conf;
          steps = h.steps;
          register = h.register;
          goes = h.goes;
          brings = brings h.conf v t h.fits g.returns x.result h.register fine.result h.given h.value_is h.lanes_are;
          out_is = h.out_is;
          keeps = recovered h.conf t h.keeps;
        }
    told f d (Trapped None t) h = record { conf = h.conf; steps = h.steps; goes = h.goes; address = h.address; stack_is = h.stack_is; full = h.full }
    told f d (Trapped (Some q) t) h =
        record { conf = h.conf; steps = h.steps; trap = h.trap; fails = h.fails; report_is = h.report_is; out_is = h.out_is; keeps = returned h.conf.arrays h.conf.arrays t.memory t.size (λ b e lt. refl) h.keeps }
    told f d (OutOfFuel t) h = record { conf = h.conf; steps = h.steps; goes = h.goes; far = h.far; out_is = h.out_is }

    abbrev pub functions : ℕ → Code
    functions = code_in (module_with w.code w.forms)

    -- with one more for the loop than its calls have
    pub one_more : (f : ℕ) → CallsAgree callee f (called functions f) → Told (the_machine w) (Back w x c) (suc f) begun (called functions (suc f) (called_number w x) (map (value s.locals) (arguments_of w x)) s)
    one_more f right =
        subst (λ code. Told (the_machine w) (Back w x c) (suc f) begun (left (run (suc f) (called functions f) code entered))) (sym (inner_code w.code w.forms w.routine w.home.fn pc x of.settled.found has (of.plain pc x has) g fine.found))
        (by (starts callee settled begun entered is_entered))
      where
        runs : State → Result
        runs u = run (suc f) (called functions f) (function_code callee) u

        by : Starts callee settled begun entered ⊎ (((fuel : ℕ) (call : ℕ → List ℕ → State → Result) → run fuel call (begin_code callee g.locals) entered ≡ Trapped None entered) × IsFull callee callee.forms begun)
            → Told (the_machine w) (Back w x c) (suc f) begun (left (run (suc f) (called functions f) (routine_code callee) entered))
        by (inl b) =
            subst (λ r. Told (the_machine w) (Back w x c) (suc f) begun (left (then_to r (run (suc f) (called functions f) (function_code callee))))) (sym (b.fell (suc f) (called functions f)))
            (told (suc f) begun (left (run (suc f) (called functions f) (function_code callee) b.state))
            (calls_come_back callee settled (covered w.code g x.function of.accepted fine.found plain_g w.forms (inner_local (gang w) g) home frames callee.begins callee.sizes callee.elems s.memory w.room w.stack)
            (all_thin w.code g x.function of.accepted fine.found plain_g w.forms (inner_local (gang w) g) home frames callee.begins callee.sizes callee.elems s.memory w.room w.stack has_arrays)
            (waits c x.result mask) c.waiting refl (called functions f) (suc f) (λ n e. subst (λ m. CallsAgree callee m (called functions f)) (let same : f ≡ n = omega (arith, e) in same) right) begun b.state
            (subst (λ n. n < callee.rungs) (sym (b.counter ∙ counter_is)) (first_head g.code (length g.code) (some_code w.code g x.function of.accepted fine.found plain_g)).0)
            (subst (λ n. Stands callee n begun b.state) (sym (ap callee.heads b.counter ∙ head_is)) b.stands)))
        by (inr (fell, full)) =
            subst (λ r. Told (the_machine w) (Back w x c) (suc f) begun (left (then_to r (run (suc f) (called functions f) (function_code callee))))) (sym (fell (suc f) (called functions f))) (told (suc f) begun (Trapped None entered) full)

-- all functions that others call
pub calls_agree : (f : ℕ) (w : Setting) → IsOf w → CallsAgree w f (called (code_in (module_with w.code w.forms)) f)
calls_agree zero w of x pc c s has fine st few = record { conf = calls.called c x fine.callee; steps = 0; goes = refl; far = omega arith; out_is = st.out_is }
calls_agree (suc f) w of x pc c s has fine st few = one_more w of x pc has fine c s st few f (calls_agree f (callee w of x pc has fine c s st few) (is_of w of x pc has fine c s st few))
