-- The functions of a module, one after the other, as those of the code are exported or called or not.
use Rattle.std.proofs.Common.{◌≡◌, ℕ, zero, suc, ◌+◌, ◌-◌, ◌*◌, ◌<◌, ◌≤◌, List, [], ◌∷◌, ◌++◌, length, map, drop, Bool, true, false, Option, Some, None, refl, ap, sym, subst, ◌∙◌, append_assoc, arith}
use Rattle.std.proofs.lemmas.List.{drop_more, drop_all, length-append}
use Rattle.std.specs.Prelude.{slice_get, slice_index_or, ◌&&◌, if◌then◌else◌}
use Rattle.std.specs.List.{flat_map, list_any}
use Rattle.isp_base.specs.Types.{gang_width}
use Rattle.isp_code.specs.Listing.{Listing, Routine}
use Rattle.isp_forms.specs.Tables.{forms_in}
use Rattle.isp_forms.specs.declared.form.Form.{Form}
use Rattle.isp_wasm_meaning.specs.Module.{Function, unused}
use Rattle.isp_wasm.specs.Module.{is_covered, is_called, all_plain, kernel_of, inner_of, function_of, inner_function, each_function}
use Rattle.isp_wasm.specs.Stack.{has_call}
use Rattle.isp_wasm_binary.specs.Binary.{type_of, bodies}
use Rattle.isp_wasm_binary.specs.Modules.{func_type, type_bytes, body_bytes}
use Rattle.isp_wasm_binary.specs.Numbers.{u32, bytes}
use Rattle.isp_wasm_write.specs.Limits.{limit_fault}
use Rattle.isp_wasm_write.specs.Settings.{Written}
use Rattle.isp_wasm_write.specs.declared.kernel.Caller.TheVariants.{Host, Function as Called}
use Rattle.isp_wasm_module.specs.Refused.{named, exported_refusal, inner_refusal, function_refusal, or_later, first_refusal, module_refusal}
use Rattle.isp_wasm_module.specs.declared.refusal.Refusal.{Refusal}
use Rattle.isp_wasm_module.specs.declared.refusal.Refusal.TheVariants.{NotCovered}
use Rattle.isp_wasm_module.specs.reader.Pieces as pieces
use Rattle.isp_wasm_module.specs.reader.Pieces.{made_of, function_at, IsWritten}

pub some_same : {A : Type 0} {x y : A} → Some x ≡ Some y → x ≡ y
some_same e = cc

-- ---- which function it is

made_at : (g : ℕ → Routine → Function) (i : ℕ) (hs : List Routine) (more : List Function) (f : ℕ) (h : Routine) → slice_get hs f ≡ Some h → slice_index_or (each_function g i hs ++ more) f unused ≡ g (i + f) h
made_at g i [] more f h e = cc
made_at g i (k ∷ hs) more zero h e = ap (g i) (let same : k ≡ h = cc in same) ∙ ap (λ n. g n h) (let same : i ≡ i + 0 = omega arith in same)
made_at g i (k ∷ hs) more (suc f) h e = made_at g (suc i) hs more f h e ∙ ap (λ n. g n h) (let same : suc i + f ≡ i + suc f = omega arith in same)

abbrev more_of : Listing → List (List Form) → List Function
more_of code lists = if list_any has_call code.routines then each_function (inner_function code (forms_in lists)) 0 code.routines else []

at : (code : Listing) (lists : List (List Form)) (f : ℕ) (h : Routine) → slice_get code.routines f ≡ Some h → function_at code lists f ≡ function_of code (forms_in lists) f h
at code lists f h e = made_at (function_of code (forms_in lists)) 0 code.routines (more_of code lists) f h e ∙ ap (λ n. function_of code (forms_in lists) n h) (let same : 0 + f ≡ f = omega arith in same)

both_none : (r l : Option Refusal) → or_later r l ≡ None → (r ≡ None) × (l ≡ None)
both_none None l e = (refl, e)
both_none (Some r) l e = cc

fine : (code : Listing) (n : ℕ) (hs : List Routine) → first_refusal code n hs ≡ None → (f : ℕ) (h : Routine) → slice_get hs f ≡ Some h
    → (m : ℕ) × (exported_refusal code m h ≡ None)
fine code n [] e f h s = cc
fine code n (k ∷ hs) e zero h s =
    let here = (both_none (function_refusal code n k) (first_refusal code (suc n) hs) e).0 in
    (n, ap (exported_refusal code n) (let same : h ≡ k = cc in same) ∙ (both_none (exported_refusal code n k) (inner_refusal code n k) here).0)
fine code n (k ∷ hs) e (suc f) h s = fine code (suc n) hs (both_none (function_refusal code n k) (first_refusal code (suc n) hs) e).1 f h s

covered_by : (x b : Bool) (r : Option Refusal) (m : ℕ) → x ≡ true → (if x then (if b then r else Some (NotCovered m)) else None) ≡ None → b ≡ true
covered_by true true r m p e = refl
covered_by true false r m p e = cc
covered_by false b r m p e = cc

pub is_covered_at : (code : Listing) (f : ℕ) (h : Routine) → slice_get code.routines f ≡ Some h → h.exported ≡ true → module_refusal code ≡ None → is_covered code h ≡ true
is_covered_at code f h s x e =
    let found = fine code 0 code.routines e f h s in
    covered_by h.exported (is_covered code h) (named found.0 (limit_fault Host (gang_width code.gang) h)) found.0 x found.1

pub not_exported : (code : Listing) (lists : List (List Form)) (f : ℕ) (h : Routine) → slice_get code.routines f ≡ Some h → h.exported ≡ false → function_at code lists f ≡ unused
not_exported code lists f h s x =
    at code lists f h s ∙ ap (λ b. if b && is_covered code h then kernel_of code (forms_in lists) f h else unused) x

pub exported : (code : Listing) (lists : List (List Form)) (f : ℕ) (h : Routine) → slice_get code.routines f ≡ Some h → h.exported ≡ true → module_refusal code ≡ None → function_at code lists f ≡ kernel_of code (forms_in lists) f h
exported code lists f h s x e =
    at code lists f h s ∙ ap (λ b. if b && is_covered code h then kernel_of code (forms_in lists) f h else unused) x
    ∙ ap (λ b. if true && b then kernel_of code (forms_in lists) f h else unused) (is_covered_at code f h s x e)

pub is_written : (code : Listing) (lists : List (List Form)) (f : ℕ) (h : Routine) → slice_get code.routines f ≡ Some h → h.exported ≡ true → module_refusal code ≡ None
    → IsWritten code lists f (record { code = code; routine = h; caller = Host; forms = slice_index_or lists f [] })
is_written code lists f h s x e = record { is = exported code lists f h s x e }

abbrev of_host : Listing → List Form → Routine → Written
of_host code fs h = record { code = code; routine = h; caller = Host; forms = fs }

-- the same of what a call has made
pub host_written : (code used : Listing) (lists : List (List Form)) (f : ℕ) (h : Routine) (k : Written) (fs : List Form) → slice_get code.routines f ≡ Some h → h.exported ≡ true
    → module_refusal code ≡ None → used ≡ code → fs ≡ slice_index_or lists f [] → k ≡ record { code = used; routine = h; caller = Host; forms = fs } → IsWritten code lists f k
host_written code used lists f h k fs s x e same formed made =
    subst (λ (j : Written). IsWritten code lists f j) (sym (made ∙ ap (λ (c : Listing). of_host c fs h) same ∙ ap (λ l. of_host code l h) formed)) (is_written code lists f h s x e)

-- ---- those that others call

behind : (g : ℕ → Routine → Function) (i : ℕ) (hs : List Routine) (more : List Function) (f : ℕ) → slice_index_or (each_function g i hs ++ more) (length hs + f) unused ≡ slice_index_or more f unused
behind g i [] more f = ap (λ m. slice_index_or more m unused) (let same : 0 + f ≡ f = omega arith in same)
behind g i (k ∷ hs) more f =
    ap (λ m. slice_index_or (g i k ∷ (each_function g (suc i) hs ++ more)) m unused) (let same : suc (length hs) + f ≡ suc (length hs + f) = omega arith in same) ∙ behind g (suc i) hs more f

inner_at : (code : Listing) (lists : List (List Form)) (n : ℕ) (hs : List Routine) (f : ℕ) (h : Routine) → slice_get hs f ≡ Some h
    → slice_index_or (each_function (inner_function code (forms_in lists)) n hs) f unused ≡ inner_function code (forms_in lists) (n + f) h
inner_at code lists n [] f h e = cc
inner_at code lists n (k ∷ hs) zero h e =
    ap (inner_function code (forms_in lists) n) (let same : k ≡ h = cc in same) ∙ ap (λ m. inner_function code (forms_in lists) m h) (let same : n ≡ n + 0 = omega arith in same)
inner_at code lists n (k ∷ hs) (suc f) h e = inner_at code lists (suc n) hs f h e ∙ ap (λ m. inner_function code (forms_in lists) m h) (let same : suc n + f ≡ n + suc f = omega arith in same)

inner_is : (code : Listing) (lists : List (List Form)) (f n : ℕ) (h : Routine) → slice_get code.routines f ≡ Some h → n ≡ length code.routines + f → list_any has_call code.routines ≡ true
    → function_at code lists n ≡ inner_function code (forms_in lists) f h
inner_is code lists f n h s e c =
    ap (λ m. slice_index_or (each_function (function_of code (forms_in lists)) 0 code.routines ++ more_of code lists) m unused) e ∙ behind (function_of code (forms_in lists)) 0 code.routines (more_of code lists) f
    ∙ ap (λ b. slice_index_or (if b then each_function (inner_function code (forms_in lists)) 0 code.routines else []) f unused) c ∙ inner_at code lists 0 code.routines f h s
    ∙ ap (λ m. inner_function code (forms_in lists) m h) (let same : 0 + f ≡ f = omega arith in same)

pub not_called : (code : Listing) (lists : List (List Form)) (f n : ℕ) (h : Routine) → slice_get code.routines f ≡ Some h → n ≡ length code.routines + f → list_any has_call code.routines ≡ true
    → (is_called code f && all_plain code) ≡ false → function_at code lists n ≡ unused
not_called code lists f n h s e c p = inner_is code lists f n h s e c ∙ ap (λ b. if b then inner_of code (forms_in lists) f h else unused) p

is_called_so : (code : Listing) (lists : List (List Form)) (f n : ℕ) (h : Routine) → slice_get code.routines f ≡ Some h → n ≡ length code.routines + f → list_any has_call code.routines ≡ true
    → (is_called code f && all_plain code) ≡ true → IsWritten code lists n (record { code = code; routine = h; caller = Called; forms = slice_index_or lists f [] })
is_called_so code lists f n h s e c p = record { is = inner_is code lists f n h s e c ∙ ap (λ b. if b then inner_of code (forms_in lists) f h else unused) p }

abbrev of_called : Listing → List Form → Routine → Written
of_called code fs h = record { code = code; routine = h; caller = Called; forms = fs }

-- the same of what a call has made
pub inner_written : (code used : Listing) (lists : List (List Form)) (f n : ℕ) (h : Routine) (k : Written) (fs : List Form) → slice_get code.routines f ≡ Some h
    → n ≡ length code.routines + f → list_any has_call code.routines ≡ true → (is_called code f && all_plain code) ≡ true
    → used ≡ code → fs ≡ slice_index_or lists f [] → k ≡ record { code = used; routine = h; caller = Called; forms = fs } → IsWritten code lists n k
inner_written code used lists f n h k fs s e c p same formed made =
    subst (λ (j : Written). IsWritten code lists n j) (sym (made ∙ ap (λ (d : Listing). of_called d fs h) same ∙ ap (λ l. of_called code l h) formed)) (is_called_so code lists f n h s e c p)

-- ---- how many

made_long : (g : ℕ → Routine → Function) (n : ℕ) (hs : List Routine) → length (each_function g n hs) ≡ length hs
made_long g n [] = refl
made_long g n (h ∷ hs) = ap suc (made_long g (suc n) hs)

long : (code : Listing) (lists : List (List Form)) → length (made_of code lists).functions ≡ length code.routines + length (more_of code lists)
long code lists =
    let both = length-append (each_function (function_of code (forms_in lists)) 0 code.routines) (more_of code lists) in
    let first = made_long (function_of code (forms_in lists)) 0 code.routines in omega (arith, both, first)

pub count_alone : (code : Listing) (lists : List (List Form)) → list_any has_call code.routines ≡ false → length code.routines ≡ length (made_of code lists).functions
count_alone code lists e =
    let whole = long code lists in
    let none : length (more_of code lists) ≡ 0 = ap (λ b. length (if b then each_function (inner_function code (forms_in lists)) 0 code.routines else [])) e in omega (arith, whole, none)

pub count_twice : (code : Listing) (lists : List (List Form)) → list_any has_call code.routines ≡ true → 2 * length code.routines ≡ length (made_of code lists).functions
count_twice code lists e =
    let whole = long code lists in
    let more : length (more_of code lists) ≡ length code.routines = ap (λ b. length (if b then each_function (inner_function code (forms_in lists)) 0 code.routines else [])) e ∙ made_long (inner_function code (forms_in lists)) 0 code.routines in
    omega (arith, whole, more)

pub count_least : (code : Listing) (lists : List (List Form)) → length code.routines ≤ length (made_of code lists).functions
count_least code lists = let whole = long code lists in omega (arith, whole)

pub past_calls : (code : Listing) (lists : List (List Form)) (n : ℕ) → length code.routines ≤ n → n < length (made_of code lists).functions → list_any has_call code.routines ≡ true
past_calls code lists n l h = by (list_any has_call code.routines) refl
  where
    by : (b : Bool) → list_any has_call code.routines ≡ b → list_any has_call code.routines ≡ true
    by true e = e
    by false e = let alone = count_alone code lists e in absurd (omega (arith, alone, l, h))

pub past_is : (code : Listing) (lists : List (List Form)) (n : ℕ) → length code.routines ≤ n → n < length (made_of code lists).functions → n - length code.routines < length code.routines
past_is code lists n l h = let twice = count_twice code lists (past_calls code lists n l h) in omega (arith, twice, l, h)

-- ---- one after the other

pub function_next : (code : Listing) (lists : List (List Form)) (n : ℕ) → n < length (made_of code lists).functions → drop n (made_of code lists).functions ≡ function_at code lists n ∷ drop (n + 1) (made_of code lists).functions
function_next code lists n h = drop_more (made_of code lists).functions n unused h

pub none_left : (code : Listing) (lists : List (List Form)) (n : ℕ) → length (made_of code lists).functions ≤ n → drop n (made_of code lists).functions ≡ []
none_left code lists n h = drop_all n (made_of code lists).functions h

pub more_types : (code : Listing) (lists : List (List Form)) (n : ℕ) → n < length (made_of code lists).functions
    → flat_map func_type (map type_of (drop n (made_of code lists).functions)) ≡ func_type (type_of (function_at code lists n)) ++ flat_map func_type (map type_of (drop (n + 1) (made_of code lists).functions))
more_types code lists n h = ap (λ l. flat_map func_type (map type_of l)) (function_next code lists n h)

same_next : (n : ℕ) → suc n ≡ n + 1
same_next n = omega arith

pub more_bodies : (code : Listing) (lists : List (List Form)) (n : ℕ) → n < length (made_of code lists).functions
    → flat_map body_bytes (bodies n (drop n (made_of code lists).functions)) ≡ bytes (pieces.inner_of (function_at code lists n)) ++ flat_map body_bytes (bodies (n + 1) (drop (n + 1) (made_of code lists).functions))
more_bodies code lists n h =
    ap (λ l. flat_map body_bytes (bodies n l)) (function_next code lists n h)
    ∙ ap (λ m. bytes (pieces.inner_of (function_at code lists n)) ++ flat_map body_bytes (bodies m (drop (n + 1) (made_of code lists).functions))) (same_next n)

pub more_numbers : (code : Listing) (lists : List (List Form)) (n : ℕ) → n < length (made_of code lists).functions
    → flat_map type_bytes (bodies n (drop n (made_of code lists).functions)) ≡ u32 (6 + n) ++ flat_map type_bytes (bodies (n + 1) (drop (n + 1) (made_of code lists).functions))
more_numbers code lists n h =
    ap (λ l. flat_map type_bytes (bodies n l)) (function_next code lists n h)
    ∙ ap (λ m. u32 (6 + n) ++ flat_map type_bytes (bodies m (drop (n + 1) (made_of code lists).functions))) (same_next n)

-- the number of one is written, and what the others will add
pub number_step : (code : Listing) (lists : List (List Form)) (n index : ℕ) (a b whole : List ℕ) → n < length (made_of code lists).functions → index ≡ 6 + n → b ≡ a ++ u32 index
    → a ++ flat_map type_bytes (bodies n (drop n (made_of code lists).functions)) ≡ whole → b ++ flat_map type_bytes (bodies (n + 1) (drop (n + 1) (made_of code lists).functions)) ≡ whole
number_step code lists n index a b whole h e f g =
    let rest = flat_map type_bytes (bodies (n + 1) (drop (n + 1) (made_of code lists).functions)) in
    ap (λ l. l ++ rest) (f ∙ ap (λ m. a ++ u32 m) e) ∙ append_assoc a (u32 (6 + n)) rest ∙ ap (λ l. a ++ l) (sym (more_numbers code lists n h)) ∙ g
