-- What the exports of functions are, one after the other.
use Rattle.std.proofs.Common.{◌≡◌, ℕ, suc, ◌+◌, ◌<◌, List, [], ◌∷◌, ◌++◌, length, drop, Bool, true, false, Option, Some, None, refl, ap, sym, ◌∙◌, append-nil, append_assoc, arith}
use Rattle.std.specs.Prelude.{slice_get, codes, ◌&&◌, if◌then◌else◌}
use Rattle.std.specs.List.{flat_map, list_any}
use Rattle.isp_code.specs.Listing.{Listing, Routine}
use Rattle.isp_forms.specs.Tables.{forms_in}
use Rattle.isp_forms.specs.declared.form.Form.{Form}
use Rattle.isp_wasm_meaning.specs.Module.{Function, Module, unused}
use Rattle.isp_wasm.specs.Module.{is_called, all_plain, function_of, inner_of, inner_function, each_function}
use Rattle.isp_wasm.specs.Stack.{has_call}
use Rattle.isp_wasm_binary.specs.Binary.{named, names, sections_of}
use Rattle.isp_wasm_binary.specs.Modules.{Export, FunctionKind, MemoryKind, GlobalKind, export_bytes}
use Rattle.isp_wasm_binary.specs.Numbers.{u32, groups, bytes, vector}
use Rattle.isp_wasm_module.specs.Refused.{module_refusal}
use Rattle.isp_wasm_module.specs.reader.Pieces.{made_of, function_at}
use Rattle.isp_wasm_module.proofs.Written.{not_exported, exported, function_next, count_least}

names_next : (code : Listing) (lists : List (List Form)) (n : ℕ) → n < length (made_of code lists).functions
    → names n (drop n (made_of code lists).functions) ≡ named (function_at code lists n).export n (names (n + 1) (drop (n + 1) (made_of code lists).functions))
names_next code lists n h =
    ap (names n) (function_next code lists n h)
    ∙ ap (λ m. named (function_at code lists n).export n (names m (drop (n + 1) (made_of code lists).functions))) (let same : suc n ≡ n + 1 = omega arith in same)

below : (code : Listing) (lists : List (List Form)) (n : ℕ) → n < length code.routines → n < length (made_of code lists).functions
below code lists n h = let least = count_least code lists in omega (arith, least, h)

unnamed : (code : Listing) (lists : List (List Form)) (n f : ℕ) (hs : List Routine) → names n (each_function (inner_function code (forms_in lists)) f hs) ≡ []
unnamed code lists n f [] = refl
unnamed code lists n f (h ∷ hs) = by (is_called code f && all_plain code) (unnamed code lists (suc n) (suc f) hs)
  where
    by : (b : Bool) → names (suc n) (each_function (inner_function code (forms_in lists)) (suc f) hs) ≡ [] → named (if b then inner_of code (forms_in lists) f h else unused).export n (names (suc n) (each_function (inner_function code (forms_in lists)) (suc f) hs)) ≡ []
    by true e = e
    by false e = e

past : (g : ℕ → Routine → Function) (i : ℕ) (hs : List Routine) (more : List Function) → drop (length hs) (each_function g i hs ++ more) ≡ more
past g i [] more = refl
past g i (h ∷ hs) more = past g (suc i) hs more

-- after the functions that a host may call none has a name
pub none_exported : (code : Listing) (lists : List (List Form)) (n : ℕ) → n ≡ length code.routines → names n (drop n (made_of code lists).functions) ≡ []
none_exported code lists n e =
    ap (λ m. names n (drop m (made_of code lists).functions)) e
    ∙ ap (names n) (past (function_of code (forms_in lists)) 0 code.routines (if list_any has_call code.routines then each_function (inner_function code (forms_in lists)) 0 code.routines else []))
    ∙ by (list_any has_call code.routines)
  where
    by : (b : Bool) → names n (if b then each_function (inner_function code (forms_in lists)) 0 code.routines else []) ≡ []
    by true = unnamed code lists n 0 code.routines
    by false = refl

-- what is written after the last of them
pub functions_end : (code : Listing) (lists : List (List Form)) (n : ℕ) (a whole : List ℕ) → n ≡ length code.routines
    → a ++ flat_map export_bytes (names n (drop n (made_of code lists).functions)) ≡ whole → a ≡ whole
functions_end code lists n a whole e g = sym (append-nil a) ∙ ap (λ l. a ++ flat_map export_bytes l) (sym (none_exported code lists n e)) ∙ g

pub one_named : (code : Listing) (lists : List (List Form)) (n : ℕ) → n < length code.routines
    → flat_map export_bytes (names n (drop n (made_of code lists).functions))
    ≡ flat_map export_bytes (named (function_at code lists n).export n []) ++ flat_map export_bytes (names (n + 1) (drop (n + 1) (made_of code lists).functions))
one_named code lists n h = ap (flat_map export_bytes) (names_next code lists n (below code lists n h)) ∙ by (function_at code lists n).export
  where
    by : (o : Option (List ℕ)) → flat_map export_bytes (named o n (names (n + 1) (drop (n + 1) (made_of code lists).functions)))
        ≡ flat_map export_bytes (named o n []) ++ flat_map export_bytes (names (n + 1) (drop (n + 1) (made_of code lists).functions))
    by None = refl
    by (Some name) = (let same : export_bytes (record { name = name; kind = FunctionKind; index = 6 + n }) ++ flat_map export_bytes (names (n + 1) (drop (n + 1) (made_of code lists).functions)) ≡ (export_bytes (record { name = name; kind = FunctionKind; index = 6 + n }) ++ []) ++ flat_map export_bytes (names (n + 1) (drop (n + 1) (made_of code lists).functions)) = simp append-nil in same)

pub hidden_bytes : (code : Listing) (lists : List (List Form)) (n : ℕ) (h : Routine) → slice_get code.routines n ≡ Some h → h.exported ≡ false
    → flat_map export_bytes (named (function_at code lists n).export n []) ≡ []
hidden_bytes code lists n h s x = ap (λ f. flat_map export_bytes (named f.export n [])) (not_exported code lists n h s x)

pub shown_bytes : (code : Listing) (lists : List (List Form)) (n : ℕ) (h : Routine) → slice_get code.routines n ≡ Some h → h.exported ≡ true → module_refusal code ≡ None
    → flat_map export_bytes (named (function_at code lists n).export n []) ≡ bytes h.name ++ (0 ∷ u32 (6 + n))
shown_bytes code lists n h s x e =
    ap (λ f. flat_map export_bytes (named f.export n [])) (exported code lists n h s x e) ∙ append-nil (bytes h.name ++ (0 ∷ u32 (6 + n)))

-- the same of what a call has appended
pub shown_chain : (code : Listing) (lists : List (List Form)) (n : ℕ) (h : Routine) (o b name : List ℕ) (index : ℕ) → slice_get code.routines n ≡ Some h → h.exported ≡ true → module_refusal code ≡ None
    → b ≡ o ++ (bytes name ++ (0 ∷ u32 index)) → name ≡ h.name → index ≡ 6 + n → b ≡ o ++ flat_map export_bytes (named (function_at code lists n).export n [])
shown_chain code lists n h o b name index s x e made named_so numbered =
    made ∙ ap (λ l. o ++ (bytes l ++ (0 ∷ u32 index))) named_so ∙ ap (λ m. o ++ (bytes h.name ++ (0 ∷ u32 m))) numbered ∙ ap (λ l. o ++ l) (sym (shown_bytes code lists n h s x e))

pub hidden_count : (code : Listing) (lists : List (List Form)) (n : ℕ) (h : Routine) → slice_get code.routines n ≡ Some h → n < length code.routines → h.exported ≡ false
    → 0 + length (names (n + 1) (drop (n + 1) (made_of code lists).functions)) ≡ length (names n (drop n (made_of code lists).functions))
hidden_count code lists n h s l x =
    (let same : 0 + length (names (n + 1) (drop (n + 1) (made_of code lists).functions)) ≡ length (names (n + 1) (drop (n + 1) (made_of code lists).functions)) = omega arith in same)
    ∙ sym (ap length (names_next code lists n (below code lists n l)) ∙ ap (λ f. length (named f.export n (names (n + 1) (drop (n + 1) (made_of code lists).functions)))) (not_exported code lists n h s x))

pub shown_count : (code : Listing) (lists : List (List Form)) (n : ℕ) (h : Routine) → slice_get code.routines n ≡ Some h → n < length code.routines → h.exported ≡ true → module_refusal code ≡ None
    → 1 + length (names (n + 1) (drop (n + 1) (made_of code lists).functions)) ≡ length (names n (drop n (made_of code lists).functions))
shown_count code lists n h s l x e =
    (let same : 1 + length (names (n + 1) (drop (n + 1) (made_of code lists).functions)) ≡ suc (length (names (n + 1) (drop (n + 1) (made_of code lists).functions))) = omega arith in same)
    ∙ sym (ap length (names_next code lists n (below code lists n l)) ∙ ap (λ f. length (named f.export n (names (n + 1) (drop (n + 1) (made_of code lists).functions)))) (exported code lists n h s x e))

abbrev at_memory : Export
at_memory = record { name = codes "isp.memory"; kind = MemoryKind; index = 0 }

abbrev at_base : Export
at_base = record { name = codes "isp.base"; kind = GlobalKind; index = 0 }

abbrev at_stack : Export
at_stack = record { name = codes "isp.stack"; kind = GlobalKind; index = 17 }

first_bytes : export_bytes at_memory ++ (export_bytes at_base ++ export_bytes at_stack)
    ≡ 10 ∷ 105 ∷ 115 ∷ 112 ∷ 46 ∷ 109 ∷ 101 ∷ 109 ∷ 111 ∷ 114 ∷ 121 ∷ 2 ∷ 0 ∷ 8 ∷ 105 ∷ 115 ∷ 112 ∷ 46 ∷ 98 ∷ 97 ∷ 115 ∷ 101 ∷ 3 ∷ 0 ∷ 9 ∷ 105 ∷ 115 ∷ 112 ∷ 46 ∷ 115 ∷ 116 ∷ 97 ∷ 99 ∷ 107 ∷ 3 ∷ 17 ∷ []
unfolding u32 groups
first_bytes = refl

regrouped : (a b c d : List ℕ) → a ++ (b ++ (c ++ d)) ≡ (a ++ (b ++ c)) ++ d
regrouped a b c d = simp append_assoc

pub all_exports : (m : Module)
    → vector export_bytes (sections_of m).exports
    ≡ u32 (3 + length (names 0 m.functions))
    ++ ((10 ∷ 105 ∷ 115 ∷ 112 ∷ 46 ∷ 109 ∷ 101 ∷ 109 ∷ 111 ∷ 114 ∷ 121 ∷ 2 ∷ 0 ∷ 8 ∷ 105 ∷ 115 ∷ 112 ∷ 46 ∷ 98 ∷ 97 ∷ 115 ∷ 101 ∷ 3 ∷ 0 ∷ 9 ∷ 105 ∷ 115 ∷ 112 ∷ 46 ∷ 115 ∷ 116 ∷ 97 ∷ 99 ∷ 107 ∷ 3 ∷ 17 ∷ []) ++ flat_map export_bytes (names 0 m.functions))
all_exports m =
    let count = length (names 0 m.functions) in
    let rest = flat_map export_bytes (names 0 m.functions) in
    ap (λ n. u32 n ++ (export_bytes at_memory ++ (export_bytes at_base ++ (export_bytes at_stack ++ rest)))) (let same : suc (suc (suc count)) ≡ 3 + count = omega arith in same)
    ∙ ap (λ l. u32 (3 + count) ++ l) (regrouped (export_bytes at_memory) (export_bytes at_base) (export_bytes at_stack) rest ∙ ap (λ l. l ++ rest) first_bytes)

-- what is appended, one after the other
pub exports_chain : (m : Module) (o a b c : List ℕ) (count index : ℕ) → index ≡ 3 + count → count ≡ length (names 0 m.functions) → a ≡ o ++ u32 index
    → b ≡ a ++ 10 ∷ 105 ∷ 115 ∷ 112 ∷ 46 ∷ 109 ∷ 101 ∷ 109 ∷ 111 ∷ 114 ∷ 121 ∷ 2 ∷ 0 ∷ 8 ∷ 105 ∷ 115 ∷ 112 ∷ 46 ∷ 98 ∷ 97 ∷ 115 ∷ 101 ∷ 3 ∷ 0 ∷ 9 ∷ 105 ∷ 115 ∷ 112 ∷ 46 ∷ 115 ∷ 116 ∷ 97 ∷ 99 ∷ 107 ∷ 3 ∷ 17 ∷ []
    → c ≡ b ++ flat_map export_bytes (names 0 m.functions) → c ≡ o ++ vector export_bytes (sections_of m).exports
exports_chain m o a b c count index e f g h i =
    let own = 10 ∷ 105 ∷ 115 ∷ 112 ∷ 46 ∷ 109 ∷ 101 ∷ 109 ∷ 111 ∷ 114 ∷ 121 ∷ 2 ∷ 0 ∷ 8 ∷ 105 ∷ 115 ∷ 112 ∷ 46 ∷ 98 ∷ 97 ∷ 115 ∷ 101 ∷ 3 ∷ 0 ∷ 9 ∷ 105 ∷ 115 ∷ 112 ∷ 46 ∷ 115 ∷ 116 ∷ 97 ∷ 99 ∷ 107 ∷ 3 ∷ 17 ∷ [] in
    let rest = flat_map export_bytes (names 0 m.functions) in
    i ∙ ap (λ l. l ++ rest) (h ∙ ap (λ l. l ++ own) g) ∙ append_assoc (o ++ u32 index) own rest ∙ append_assoc o (u32 index) (own ++ rest)
    ∙ ap (λ n. o ++ (u32 n ++ (own ++ rest))) (e ∙ ap (λ n. 3 + n) f) ∙ ap (λ l. o ++ l) (sym (all_exports m))
