-- Accepted code meets what the law of entries asks, where its form is covered.
use Rattle.std.proofs.Common.{◌≡◌, ℕ, zero, suc, ◌+◌, ◌-◌, ◌*◌, ◌^◌, ◌<◌, ◌≤◌, ◌⊎◌, inl, inr, List, [], ◌∷◌, ◌++◌, length, take, map, Option, Some, None, Bool, true, false, not, ◌&&◌, ◌||◌, refl, sym, ap, ◌∙◌, subst, arith, lit≤}
use Rattle.std.specs.Prelude.{slice_get, slice_index, slice_index_or, nat_lt, ◌==◌, if◌then◌else◌}
use Rattle.std.specs.List.{list_any}
use Rattle.std.proofs.lemmas.Bool.{cases_lt, lt-ltb, le-ltb, cond-true, cond-false, not-true}
use Rattle.std.proofs.lemmas.Option.{get_or_from_slice_get}
use Rattle.std.proofs.lemmas.List.{get_or_past, get_or_append_left, length-append, length-map}
use Rattle.std.proofs.lemmas.Nat.{mul-le}
use Rattle.isp_base.specs.Arguments.{rows, row_bits}
use Rattle.isp_base.specs.Binding.{has_signature}
use Rattle.isp_base.specs.Rows.{Row}
use Rattle.isp_base.specs.Types.{gang_width}
use Rattle.isp_base.specs.declared.signature.Argument.{Argument}
use Rattle.isp_base.specs.declared.types.Elem.{Elem}
use Rattle.isp_base.specs.declared.types.Elem.TheVariants.{Bool as Truth, I8, U8, I16, U16, I32, U32, I64, U64}
use Rattle.isp_code.specs.Entries.{parameters_of}
use Rattle.isp_code.specs.Fine.{IsThere}
use Rattle.isp_code.specs.Listing.{Listing, Routine}
use Rattle.isp_code.specs.Machine.{first_conf}
use Rattle.isp_code.specs.Registers.{param_elems, arrays_of, local_elem, elem_of, types_in, table_of, is_per_lane}
use Rattle.isp_code.specs.declared.instr.Call.{Call}
use Rattle.isp_code.specs.declared.instr.Instr.TheVariants as instr
use Rattle.isp_code.specs.declared.register.Class.TheVariants as class
use Rattle.isp_code.specs.declared.register.Register.{Register}
use Rattle.isp_verify.specs.Accepted.{IsFine}
use Rattle.isp_verify.specs.Faults.{header_fits, export_fits, can_export, is_vector, gives_vector, names_differ, is_function}
use Rattle.isp_verify.proofs.AcceptedLaws.{accepted_fine}
use Rattle.isp_code.specs.Conf as machine
use Rattle.isp_forms.specs.Runs.{Forms, all_kept, AreHarmless}
use Rattle.isp_forms.proofs.Runs.{kept_run}
use Rattle.isp_wasm_meaning.specs.Meaning.{State, called, bytes}
use Rattle.isp_wasm_meaning.specs.Module.{Function, code_in, unused}
use Rattle.isp_wasm.specs.Places.{Setting, Place, bytes_of, Counter, Scalar, Vector, Mask, Base, Count, Depth, Top}
use Rattle.isp_wasm.specs.Entry.{stack_in, entry_code, IsPassed, IsCalled, SameOutcomes}
use Rattle.isp_wasm.specs.Locals.{param_places, own_places, local_in}
use Rattle.isp_wasm.specs.Module.{text_start, is_plain, is_covered, kernel_of, function_of, inner_function, each_function, module_with}
use Rattle.isp_wasm.specs.Lanes.{array_register, store_at}
use Rattle.isp_wasm.specs.Lines.{HasArrays}
use Rattle.isp_wasm.specs.Kernel.{row_elem, passed, array_end, IsLaidOut, HasRoom, in_call, KernelsAgree}
use Rattle.isp_wasm.specs.Stack.{IsBelow, moved_up, none_open, has_call, uses_stack, start, bytes_in, bottom, opened_memory}
use Rattle.isp_wasm.specs.Standing.{all_of, IsFull, IsSettled, Keeps}
use Rattle.isp_wasm.proofs.Entries.{some_row, entries_agree}
use Rattle.isp_wasm.proofs.Numbers.{place_apart}
use Rattle.isp_wasm.proofs.Plain.{placed, covered_plain, covered_calls, calls_some, text_low, few_heads, heads_rise, some_code, bytes_low, covered, all_thin}
use Rattle.isp_wasm.proofs.Shared.{all_low, all_high}
use Rattle.isp_wasm.proofs.Copies as copies
use Rattle.isp_wasm.proofs.Copies.{laid_of, per_lane_at, none_per_lane}
use Rattle.isp_wasm.proofs.Opened as opened
use Rattle.isp_wasm.proofs.Opened.{AreLaid, IsUnder}
use Rattle.isp_wasm.proofs.Opening.{which_array}
use Rattle.isp_wasm.proofs.Inner.{some_low, each_get, each_long, IsOf, calls_agree}
use Rattle.isp_wasm.proofs.Passing.{At, both_first, both_second, Passes, passes, rows_long, rows_typed, values_fit}
use Rattle.isp_wasm.proofs.Heads.{first_head}
use Rattle.isp_wasm.proofs.TextPlaces.{text_there, text_ends}

no_row : (b : ℕ) → row_bits [] b ≡ []
no_row zero = refl
no_row (suc b) = refl

bytes_some : (t : Elem) → 1 ≤ bytes_of t
bytes_some Truth = lit≤ tt
bytes_some I8 = lit≤ tt
bytes_some U8 = lit≤ tt
bytes_some I16 = lit≤ tt
bytes_some U16 = lit≤ tt
bytes_some I32 = lit≤ tt
bytes_some U32 = lit≤ tt
bytes_some I64 = lit≤ tt
bytes_some U64 = lit≤ tt

row_past : (rs : List Row) (b : ℕ) → length rs ≤ b → row_bits rs b ≡ []
row_past [] b le = no_row b
row_past (r ∷ rs) zero le = absurd (omega (arith, le))
row_past (r ∷ rs) (suc b) le = row_past rs b (omega (arith, le))

-- ---- what the header says

pub exports : (earlier : List Routine) (h : Routine) → header_fits earlier h ≡ true → h.exported ≡ true → can_export h ≡ true
exports earlier h fits e =
    ap (λ b. export_fits b h) (sym e)
    ∙ both_first (export_fits h.exported h) (not (h.masks == 0))
    (both_second (names_differ h.params) (export_fits h.exported h && not (h.masks == 0)) (both_second (not (list_any (is_function h.name) earlier)) (names_differ h.params && (export_fits h.exported h && not (h.masks == 0))) fits))

-- ---- a call of a function

module _ (code : Listing) (h : Routine) (f : ℕ) (accepted : IsFine code) (found : slice_get code.routines f ≡ Some h) (exported : h.exported ≡ true) (covers : is_covered code h ≡ true) where
  plain : is_plain code h ≡ true
  plain = covered_plain code h covers

  can : can_export h ≡ true
  can = exports (take f code.routines) h (accepted.headers f h found) exported

  pub no_vector : list_any is_vector h.params ≡ false
  no_vector = not-true (list_any is_vector h.params) (both_first (not (list_any is_vector h.params)) (not (gives_vector h.returns)) can)

  pub gives_none : gives_vector h.returns ≡ false
  gives_none = not-true (gives_vector h.returns) (both_second (not (list_any is_vector h.params)) (not (gives_vector h.returns)) can)

  module _ (forms : Forms) (xs : List Argument) (signature : has_signature (parameters_of h) xs ≡ true) (at : List ℕ) (s : State) (laid : IsLaidOut code forms xs at s) (room : uses_stack h ≡ true → HasRoom code forms xs at f h s) where
    abbrev lanes : ℕ
    lanes = gang_width code.gang

    abbrev local : Place → ℕ
    local = local_in lanes h

    -- what there is before it opens its arrays, and from where on those lie
    abbrev outer : Setting
    outer =
        placed code forms h local (record { fn = f; named = λ a. a; sizes = λ b. length (row_bits (rows xs) b); opened = length (rows xs) }) [] (slice_index at) (λ b. length (row_bits (rows xs) b)) (row_elem (rows xs)) s.memory s.size (stack_in h s)

    abbrev from_here : ℕ
    from_here = start (stack_in h s)

    abbrev w : Setting
    w = in_call code forms xs at f h s

    long : length (rows xs) ≡ length (param_elems class.Array h.params)
    long = rows_long h.params xs no_vector signature

    few : suc (bytes_in lanes h.locals) < 2 ^ 32
    few = bytes_low code h f accepted found plain

    -- ---- arrays

    begins_past : (b : ℕ) → length at ≤ b → slice_index at b ≡ 0
    begins_past b le = get_or_past at b 0 le

    end_past : (b : ℕ) → length at ≤ b → array_end code xs at b ≡ 0
    end_past b le =
        ap (λ n. n + length (row_bits (rows xs) b) * bytes_of (row_elem (rows xs) b)) (begins_past b le)
        ∙ ap (λ l. 0 + length l * bytes_of (row_elem (rows xs) b)) (row_past (rows xs) b (subst (λ n. n ≤ b) laid.each le)) ∙ (let same : 0 + 0 * bytes_of (row_elem (rows xs) b) ≡ 0 = omega arith in same)

    ends_low : (b : ℕ) → array_end code xs at b ≤ s.size
    ends_low b = by (cases_lt b (length at))
      where
        by : (b < length at) ⊎ (length at ≤ b) → array_end code xs at b ≤ s.size
        by (inl lt) = laid.room b lt
        by (inr le) = subst (λ n. n ≤ s.size) (sym (end_past b le)) (omega arith)

    few_elements : (b : ℕ) → length (row_bits (rows xs) b) ≤ 2 ^ 32
    few_elements b =
        let n = length (row_bits (rows xs) b) in
        let k = bytes_of (row_elem (rows xs) b) in
        let more : n * 1 ≤ n * k = mul-le n 1 n k (omega arith) (bytes_some (row_elem (rows xs) b)) in
        let low = ends_low b in omega (arith, more, low, laid.small)

    apart : (a b : ℕ) → (a ≡ b → ⊥) → (array_end code xs at a ≤ slice_index at b) ⊎ (array_end code xs at b ≤ slice_index at a)
    apart a b ne = by (cases_lt a (length at)) (cases_lt b (length at))
      where
        by : (a < length at) ⊎ (length at ≤ a) → (b < length at) ⊎ (length at ≤ b) → (array_end code xs at a ≤ slice_index at b) ⊎ (array_end code xs at b ≤ slice_index at a)
        by (inl p) (inl q) = laid.apart a b p q ne
        by (inr p) q = inl (subst (λ n. n ≤ slice_index at b) (sym (end_past a p)) (omega arith))
        by (inl p) (inr q) = inr (subst (λ n. n ≤ slice_index at a) (sym (end_past b q)) (omega arith))

    text_apart : (t b : ℕ) → (text_start code.texts t + length (slice_index_or code.texts t []) ≤ slice_index at b) ⊎ (array_end code xs at b ≤ text_start code.texts t)
    text_apart t b = by (cases_lt b (length at))
      where
        by : (b < length at) ⊎ (length at ≤ b) → (text_start code.texts t + length (slice_index_or code.texts t []) ≤ slice_index at b) ⊎ (array_end code xs at b ≤ text_start code.texts t)
        by (inl p) = inl (let ends = text_ends code.texts t in let behind = laid.behind b p in omega (arith, ends, behind))
        by (inr p) = inr (subst (λ n. n ≤ text_start code.texts t) (sym (end_past b p)) (omega arith))

    laid_out : AreLaid outer
    laid_out =
        record {
          texts_at = refl;
          closed = λ b le. ap length (row_past (rows xs) b le);
          bounded = few_elements;
          text_apart = text_apart;
          disjoint = apart;
        }

    -- ---- where it may open arrays

    stack_is : uses_stack h ≡ true → stack_in h s ≡ Some (s.globals 17)
    stack_is e = ap (λ b. if b then Some (s.globals 17) else None) e

    from_stack : from_here ≡ start (stack_in h s) + 0
    from_stack = omega arith

    below_stack : (o : Option ℕ) → o ≡ Some (s.globals 17) → (a : ℕ) → IsBelow (moved_up o 0) a → a < start o
    below_stack None e a h = absurd cc
    below_stack (Some n) e a h = omega (arith, h)

    under_so : uses_stack h ≡ true → IsUnder outer from_here
    under_so e =
        record {
          arrays = λ b. by b (cases_lt b (length at));
          texts = λ i. (let ends = text_ends code.texts i in let le = (room e).texts in let is = here in omega (arith, ends, le, is));
          above = below_stack (stack_in h s) (stack_is e);
          stacked = (s.globals 17, stack_is e);
        }
      where
        here : from_here ≡ s.globals 17
        here = ap start (stack_is e)

        by : (b : ℕ) → (b < length at) ⊎ (length at ≤ b) → array_end code xs at b ≤ from_here
        by b (inl lt) = let le = (room e).arrays b lt in let is = here in omega (arith, le, is)
        by b (inr le) = let none = end_past b le in omega (arith, none)

    opens_some : (a b : Bool) → b ≡ false → (a || not b) ≡ true
    opens_some true b e = refl
    opens_some false false e = refl
    opens_some false true e = absurd cc

    under : none_open h.locals ≡ false → IsUnder outer from_here
    under e = under_so (opens_some (has_call h) (none_open h.locals) e)

    ready : IsSettled w
    ready =
        record {
          found = found;
          apart = λ x y e. place_apart (param_places h ++ own_places (gang_width code.gang) h) x y e;
          few = few_heads code h f accepted found plain;
          heads_up = heads_rise code h f accepted found plain;
          text_low = text_low code h f accepted found plain;
          text_apart = copies.text_apart outer h f (λ a. a) local [] from_here s.memory laid_out under few from_stack;
          bounded = copies.bounded outer h f (λ a. a) local [] from_here s.memory laid_out under few from_stack;
          closed = opened.past_size outer h f (λ a. a) local [] from_here s.memory;
          disjoint = copies.disjoint outer h f (λ a. a) local [] from_here s.memory laid_out under few from_stack;
          sizes_are = λ b le. copies.low_size outer h f (λ a. a) local [] from_here s.memory b le;
          lanes_apart = copies.lanes_apart outer h f (λ a. a) local [] from_here s.memory laid_out under few from_stack;
        }

    named_low : (a : ℕ) → a < length (param_elems class.Array h.params) → w.home.named a < length (rows xs)
    named_low a lt = let is = opened.named_low outer h f (λ a. a) local [] from_here s.memory a lt in let all = long in omega (arith, is, lt, all)

    all_low_named : (a : ℕ) → a < length (arrays_of h) → is_per_lane h (array_register a) ≡ false → w.home.named a < w.home.opened
    all_low_named a lt shared = by (which_array a (length (param_elems class.Array h.params)) (length h.locals)) (cases_lt a (length (param_elems class.Array h.params)))
      where
        by : ((i : ℕ) × (a ≡ length (param_elems class.Array h.params) + i) × (i < length h.locals)) ⊎ ((i : ℕ) → i < length h.locals → a ≡ length (param_elems class.Array h.params) + i → ⊥)
            → (a < length (param_elems class.Array h.params)) ⊎ (length (param_elems class.Array h.params) ≤ a) → w.home.named a < w.home.opened
        by (inl (i, e, low)) h2 =
            let one = opened.get_low h.locals i low in
            subst (λ n. w.home.named n < w.home.opened) (sym e) (opened.own_low outer h f (λ a. a) local [] from_here s.memory i one.0 one.1 (sym (per_lane_at h i one.0 one.1) ∙ ap (λ n. is_per_lane h (array_register n)) (sym e) ∙ shared))
        by (inr out) (inl low) = let is = named_low a low in omega (arith, is)
        by (inr out) (inr le) =
            absurd
            (let both = length-append (param_elems class.Array h.params) (map local_elem h.locals) in let mapped = length-map h.locals local_elem in
            out (a - length (param_elems class.Array h.params)) (omega (arith, lt, le, both, mapped)) (omega (arith, le)))

    has_arrays : HasArrays w
    has_arrays = copies.has_arrays outer h f (λ a. a) local [] from_here s.memory few passes all_low_named
      where
        passes : (a : Register) → IsThere h class.Array a → a.number < length (param_elems class.Array h.params) → (opened.inside outer h f (λ a. a) local [] from_here s.memory).elems (w.home.named a.number) ≡ elem_of h a
        passes a there lt =
            opened.old_elem outer h f (λ a. a) local [] from_here s.memory (w.home.named a.number) (named_low a.number lt)
            ∙ ap (row_elem (rows xs)) (opened.named_low outer h f (λ a. a) local [] from_here s.memory a.number lt) ∙ rows_typed h.params xs no_vector signature a.number
            ∙ sym (ap (λ c. slice_index_or (types_in (table_of h) c) a.number Truth) there.0 ∙ get_or_append_left (param_elems class.Array h.params) (map local_elem h.locals) Truth a.number lt)

    -- ---- memory

    element_at : (b e : ℕ) → e < length (row_bits (rows xs) b) → (first_conf code f h xs).arrays b e ≡ slice_index (row_bits (rows xs) b) e
    element_at b e lt = ap (λ (g : ℕ → ℕ). g e) (cond-true (nat_lt b (length (rows xs))) (λ e. slice_index (row_bits (rows xs) b) e) (λ e. 0) (lt-ltb b (length (rows xs)) (some_row (rows xs) b e lt)))

    begun_old : (b e : ℕ) → b < length (rows xs) → (first_conf code f h xs).arrays b e ≡ slice_index (row_bits (rows xs) b) e
    begun_old b e lt = ap (λ (g : ℕ → ℕ). g e) (cond-true (nat_lt b (length (rows xs))) (λ e. slice_index (row_bits (rows xs) b) e) (λ e. 0) (lt-ltb b (length (rows xs)) lt))

    begun_new : (b e : ℕ) → length (rows xs) ≤ b → (first_conf code f h xs).arrays b e ≡ 0
    begun_new b e le = ap (λ (g : ℕ → ℕ). g e) (cond-false (nat_lt b (length (rows xs))) (λ e. slice_index (row_bits (rows xs) b) e) (λ e. 0) (le-ltb b (length (rows xs)) le))

    all_old : (b e : ℕ) → b < length (rows xs) → all_of w (first_conf code f h xs) b e ≡ slice_index (row_bits (rows xs) b) e
    all_old b e lt = ap (λ (g : ℕ → ℕ). g e) (all_low w (first_conf code f h xs) b (omega (arith, lt))) ∙ begun_old b e lt

    all_new : (b e : ℕ) → length (rows xs) ≤ b → all_of w (first_conf code f h xs) b e ≡ 0
    all_new b e le = by (cases_lt w.home.opened b)
      where
        by : (w.home.opened < b) ⊎ (b ≤ w.home.opened) → all_of w (first_conf code f h xs) b e ≡ 0
        by (inl gt) = ap (λ (g : ℕ → ℕ). g e) (all_high w (first_conf code f h xs) b gt)
        by (inr low) = ap (λ (g : ℕ → ℕ). g e) (all_low w (first_conf code f h xs) b low) ∙ begun_new b e le

    outer_keeps : Keeps outer (λ b e. slice_index (row_bits (rows xs) b) e) s.memory s.size
    outer_keeps =
        record {
          bytes_fit = laid.bytes_fit;
          elements = laid.elements;
          elements_fit = laid.elements_fit;
          room = ends_low;
          small = laid.small;
          whole = refl;
          texts = λ t. ap (λ a. bytes (length (slice_index_or code.texts t [])) a s.memory) (let same : text_start code.texts t ≡ 0 + text_start code.texts t = omega arith in same)
              ∙ text_there s.memory code.texts 0 t laid.begins.same;
          text_room = λ t. (let ends = text_ends code.texts t in let room = laid.begins.room in omega (arith, ends, room));
          rest = λ a beside. refl;
        }

    from_bottom : from_here ≡ bottom w
    from_bottom = omega arith

    keeps : (none_open h.locals ≡ false → bottom w + bytes_in lanes h.locals < s.size) → Keeps w (all_of w (first_conf code f h xs)) (opened_memory lanes (bottom w) h.locals s.memory) s.size
    keeps fits =
        subst (λ t. Keeps w (all_of w (first_conf code f h xs)) (opened_memory lanes t h.locals s.memory) s.size) from_bottom
        (copies.keeps_in outer h f (λ a. a) local [] from_here s.memory laid_out under few from_stack (λ b e. slice_index (row_bits (rows xs) b) e) (all_of w (first_conf code f h xs)) s.memory s.size
        (λ e. subst (λ t. t + bytes_in lanes h.locals < s.size) (sym from_bottom) (fits e)) all_old all_new (λ a. refl) outer_keeps)

    -- ---- arguments

    places : Passes (param_places h ++ own_places (gang_width code.gang) h) xs at 0 0
    places = passes h.params xs at 0 0 (own_places (gang_width code.gang) h) no_vector signature laid.each

    counted : (n : ℕ) → 0 + n ≡ n
    counted n = omega arith

    -- arrays that are not there begin at 0 and have no elements
    past_all : (a : ℕ) → IsPassed w a → length (param_elems class.Array h.params) ≤ a → w.home.named a ≡ w.home.opened
    past_all a out le = opened.named_past outer h f (λ a. a) local [] from_here s.memory a (past (cases_lt a (length (param_elems class.Array h.params) + length h.locals)))
      where
        past : (a < length (param_elems class.Array h.params) + length h.locals) ⊎ (length (param_elems class.Array h.params) + length h.locals ≤ a) → length (param_elems class.Array h.params) + length h.locals ≤ a
        past (inl lt) = absurd (out (a - length (param_elems class.Array h.params)) (omega (arith, lt, le)) (omega (arith, le)))
        past (inr ge) = ge

    not_own : (a : ℕ) → IsPassed w a → store_at w a 0 ≡ w.home.named a
    not_own a out = copies.shared_store outer h f (λ a. a) local [] from_here s.memory a 0 (none_per_lane h a out)

    base_of : (a : ℕ) → IsPassed w a → slice_index at a ≡ w.begins (store_at w a 0)
    base_of a out = by (cases_lt a (length (param_elems class.Array h.params)))
      where
        by : (a < length (param_elems class.Array h.params)) ⊎ (length (param_elems class.Array h.params) ≤ a) → slice_index at a ≡ w.begins (store_at w a 0)
        by (inl lt) = sym (ap w.begins (not_own a out) ∙ copies.low_begin outer h f (λ a. a) local [] from_here s.memory (w.home.named a) (let low = named_low a lt in omega (arith, low)) ∙ opened.old_begin outer h f (λ a. a) local [] from_here s.memory (w.home.named a) (named_low a lt) ∙ ap (slice_index at) (opened.named_low outer h f (λ a. a) local [] from_here s.memory a lt))
        by (inr le) =
            begins_past a (subst (λ n. n ≤ a) (sym (laid.each ∙ long)) le) ∙ sym (ap w.begins (not_own a out ∙ past_all a out le) ∙ copies.low_begin outer h f (λ a. a) local [] from_here s.memory w.home.opened (omega arith) ∙ opened.past_begin outer h f (λ a. a) local [] from_here s.memory w.home.opened (omega arith))

    count_of : (a : ℕ) → IsPassed w a → length (row_bits (rows xs) a) ≡ w.sizes (store_at w a 0)
    count_of a out = by (cases_lt a (length (param_elems class.Array h.params)))
      where
        by : (a < length (param_elems class.Array h.params)) ⊎ (length (param_elems class.Array h.params) ≤ a) → length (row_bits (rows xs) a) ≡ w.sizes (store_at w a 0)
        by (inl lt) =
            sym (ap w.sizes (not_own a out) ∙ copies.low_size outer h f (λ a. a) local [] from_here s.memory (w.home.named a) (let low = named_low a lt in omega (arith, low)) ∙ opened.old_size outer h f (λ a. a) local [] from_here s.memory (w.home.named a) (named_low a lt) ∙ ap (λ n. length (row_bits (rows xs) n)) (opened.named_low outer h f (λ a. a) local [] from_here s.memory a lt))
        by (inr le) =
            ap length (row_past (rows xs) a (subst (λ n. n ≤ a) (sym long) le)) ∙ sym (ap w.sizes (not_own a out ∙ past_all a out le) ∙ copies.low_size outer h f (λ a. a) local [] from_here s.memory w.home.opened (omega arith) ∙ opened.past_size outer h f (λ a. a) local [] from_here s.memory w.home.opened (omega arith))

    call_is : IsCalled w xs (passed xs at) s
    call_is =
        record {
          home_is = refl;
          alone = refl;
          no_vector = gives_none;
          some = (first_head h.code (length h.code) (some_code code h f accepted found plain)).0;
          head_is = (first_head h.code (length h.code) (some_code code h f accepted found plain)).1;
          counter_is = places.others Counter tt;
          scalars_are = λ r. ap (λ n. At (param_places h ++ own_places (gang_width code.gang) h) (passed xs at) (Scalar n)) (sym (counted r)) ∙ places.scalars r;
          fits = values_fit h.params h.scalars xs no_vector signature;
          vectors_are = λ r j. places.others (Vector r j) tt;
          masks_are = λ r j. places.others (Mask r j) tt;
          bases = λ a out. ap (λ n. At (param_places h ++ own_places (gang_width code.gang) h) (passed xs at) (Base n)) (sym (counted a)) ∙ places.bases a ∙ base_of a out;
          counts = λ a out. ap (λ n. At (param_places h ++ own_places (gang_width code.gang) h) (passed xs at) (Count n)) (sym (counted a)) ∙ places.counts a ∙ count_of a out;
          own_bases = λ i lt. copies.own_base outer h f (λ a. a) local [] from_here s.memory i lt ∙ ap (λ t. t + bytes_in lanes (take i h.locals)) from_bottom;
          own_counts = λ i lt. copies.own_count outer h f (λ a. a) local [] from_here s.memory i lt;
          depth_is = places.others Depth tt;
          top_zero = places.others Top tt;
          stack_is = refl;
          few = few;
          whole = refl;
          small = laid.small;
          keeps = keeps;
          silent = laid.silent;
        }

    -- ---- the module

    code_is : code_in (module_with code forms) f ≡ entry_code w
    code_is =
        ap (λ (g : Function). g.code)
        (get_or_append_left (each_function (function_of code forms) 0 code.routines) (if list_any has_call code.routines then each_function (inner_function code forms) 0 code.routines else []) unused f
        (subst (λ n. f < n) (sym (each_long (function_of code forms) code.routines 0)) (some_low code.routines f h found))
        ∙ get_or_from_slice_get (each_function (function_of code forms) 0 code.routines) f (function_of code forms (0 + f) h) unused (each_get (function_of code forms) code.routines 0 f h found)
        ∙ ap (λ n. function_of code forms n h) (let n : 0 + f ≡ f = omega arith in n)
        ∙ ap (λ b. if b && is_covered code h then kernel_of code forms f h else unused) exported ∙ ap (λ b. if b then kernel_of code forms f h else unused) covers)

    calls_use : (pc : ℕ) (k : Call) → slice_get h.code pc ≡ Some (instr.Call k) → uses_stack h ≡ true
    calls_use pc k has = ap (λ b. b || not (none_open h.locals)) (calls_some h pc k has)

    of : IsOf w
    of =
        record {
          accepted = accepted;
          settled = ready;
          laid = laid_of w ready refl;
          stored = λ a there e. (has_arrays.shared a there e).stored_as;
          named_low = all_low_named;
          plain = covered_calls code h covers;
          under = λ pc k has. subst (λ t. IsUnder w (t + bytes_in lanes h.locals)) from_bottom (copies.under_all outer h f (λ a. a) local [] from_here s.memory laid_out under few from_stack (under_so (calls_use pc k has)));
        }

    -- the run does not come to where there is no room
    some_stack : (b : Bool) → uses_stack h ≡ b → IsFull w all_kept (first_conf code f h xs) → ⊥
    some_stack false e full = let none : None ≡ Some full.address = sym (ap (λ b. if b then Some (s.globals 17) else None) e) ∙ full.stack_is in cc
    some_stack true e full =
        let same : Some (s.globals 17) ≡ Some full.address = sym (stack_is e) ∙ full.stack_is in
        let here : s.globals 17 ≡ full.address = cc in
        let lt = (room e).room full.steps full.conf (kept_run code full.steps (machine.Runs (first_conf code f h xs)) (machine.Runs full.conf) full.goes) in let no_room = full.full in omega (arith, lt, no_room, here)

    same_outcomes : AreHarmless code forms (first_conf code f h xs) → SameOutcomes w xs (λ n. called (code_in (module_with code forms)) n f (passed xs at) s)
    same_outcomes harmless =
        entries_agree w ready (covered code h f accepted found plain forms local (first_conf code f h xs).home [] w.begins w.sizes w.elems s.memory s.size (stack_in h s))
        (all_thin code h f accepted found plain forms local (first_conf code f h xs).home [] w.begins w.sizes w.elems s.memory s.size (stack_in h s) has_arrays)
        (code_in (module_with code forms)) f code_is (λ n. calls_agree n w of) xs (passed xs at) s call_is harmless (some_stack (uses_stack h) refl)

pub kernels_agree : KernelsAgree
kernels_agree code forms accepted name xs f h entry covers harmless at s laid room =
    same_outcomes code h f (accepted_fine code accepted) entry.export.found entry.export.exported covers forms xs entry.fits at s laid room harmless
