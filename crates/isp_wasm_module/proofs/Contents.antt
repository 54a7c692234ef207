-- The content of sections, and the sections of a module.
use Rattle.std.proofs.Common.{◌≡◌, ℕ, suc, ◌+◌, List, [], ◌∷◌, ◌++◌, length, map, refl, ap, sym, ◌∙◌, append_assoc, arith}
use Rattle.std.proofs.lemmas.List.{length-map}
use Rattle.std.specs.List.{flat_map}
use Rattle.isp_code.specs.Listing.{Listing}
use Rattle.isp_forms.specs.declared.form.Form.{Form}
use Rattle.isp_wasm_meaning.specs.Module.{Function}
use Rattle.isp_wasm.specs.Module.{joined}
use Rattle.isp_wasm_binary.specs.Binary.{type_of, write_type, trap_type, long_type, word_type, host_imports, bodies, sections_of, bytes_of}
use Rattle.isp_wasm_binary.specs.Modules.{Sections, func_type, import_bytes, type_bytes, memory_bytes, global_bytes, export_bytes, body_bytes, piece_bytes, section, head, sections_bytes}
use Rattle.isp_wasm_binary.specs.Numbers.{u32, groups, vector}
use Rattle.isp_wasm_module.specs.reader.Pieces.{made_of, signature_sections, memory_sections, content_sections}

host_bytes : func_type write_type ++ (func_type trap_type ++ (func_type long_type ++ (func_type long_type ++ (func_type word_type ++ func_type word_type))))
    ≡ 0x60 ∷ 2 ∷ 0x7F ∷ 0x7F ∷ 0 ∷ 0x60 ∷ 4 ∷ 0x7F ∷ 0x7F ∷ 0x7F ∷ 0x7F ∷ 0 ∷ 0x60 ∷ 1 ∷ 0x7E ∷ 0 ∷ 0x60 ∷ 1 ∷ 0x7E ∷ 0 ∷ 0x60 ∷ 1 ∷ 0x7F ∷ 0 ∷ 0x60 ∷ 1 ∷ 0x7F ∷ 0 ∷ []
unfolding u32 groups
host_bytes = refl

in_front : (a b c d e f g : List ℕ) → a ++ (b ++ (c ++ (d ++ (e ++ (f ++ g))))) ≡ (a ++ (b ++ (c ++ (d ++ (e ++ f))))) ++ g
in_front a b c d e f g = simp append_assoc

pub types_are : (code : Listing) (lists : List (List Form))
    → vector func_type (sections_of (made_of code lists)).types
    ≡ u32 (6 + length (made_of code lists).functions)
    ++ ((0x60 ∷ 2 ∷ 0x7F ∷ 0x7F ∷ 0 ∷ 0x60 ∷ 4 ∷ 0x7F ∷ 0x7F ∷ 0x7F ∷ 0x7F ∷ 0 ∷ 0x60 ∷ 1 ∷ 0x7E ∷ 0 ∷ 0x60 ∷ 1 ∷ 0x7E ∷ 0 ∷ 0x60 ∷ 1 ∷ 0x7F ∷ 0 ∷ 0x60 ∷ 1 ∷ 0x7F ∷ 0 ∷ [])
    ++ flat_map func_type (map type_of (made_of code lists).functions))
types_are code lists =
    let fs = (made_of code lists).functions in
    let rest = flat_map func_type (map type_of fs) in
    ap (λ n. u32 n ++ (func_type write_type ++ (func_type trap_type ++ (func_type long_type ++ (func_type long_type ++ (func_type word_type ++ (func_type word_type ++ rest)))))))
    (let a = length-map fs type_of in let same : suc (suc (suc (suc (suc (suc (length (map type_of fs))))))) ≡ 6 + length fs = omega (arith, a) in same)
    ∙ ap (λ l. u32 (6 + length fs) ++ l)
    (in_front (func_type write_type) (func_type trap_type) (func_type long_type) (func_type long_type) (func_type word_type) (func_type word_type) rest ∙ ap (λ l. l ++ rest) host_bytes)

-- the same of what is appended
pub types_chain : (code : Listing) (lists : List (List Form)) (o a b c : List ℕ) (n : ℕ) → o ≡ [] → n ≡ 6 + length (made_of code lists).functions → a ≡ o ++ u32 n
    → b ≡ a ++ (0x60 ∷ 2 ∷ 0x7F ∷ 0x7F ∷ 0 ∷ 0x60 ∷ 4 ∷ 0x7F ∷ 0x7F ∷ 0x7F ∷ 0x7F ∷ 0 ∷ 0x60 ∷ 1 ∷ 0x7E ∷ 0 ∷ 0x60 ∷ 1 ∷ 0x7E ∷ 0 ∷ 0x60 ∷ 1 ∷ 0x7F ∷ 0 ∷ 0x60 ∷ 1 ∷ 0x7F ∷ 0 ∷ [])
    → c ≡ b ++ flat_map func_type (map type_of (made_of code lists).functions) → c ≡ vector func_type (sections_of (made_of code lists)).types
types_chain code lists o a b c n e f g h i =
    let host = 0x60 ∷ 2 ∷ 0x7F ∷ 0x7F ∷ 0 ∷ 0x60 ∷ 4 ∷ 0x7F ∷ 0x7F ∷ 0x7F ∷ 0x7F ∷ 0 ∷ 0x60 ∷ 1 ∷ 0x7E ∷ 0 ∷ 0x60 ∷ 1 ∷ 0x7E ∷ 0 ∷ 0x60 ∷ 1 ∷ 0x7F ∷ 0 ∷ 0x60 ∷ 1 ∷ 0x7F ∷ 0 ∷ [] in
    let rest = flat_map func_type (map type_of (made_of code lists).functions) in
    i ∙ ap (λ l. l ++ rest) (h ∙ ap (λ l. l ++ host) (g ∙ ap (λ l. l ++ u32 n) e)) ∙ append_assoc (u32 n) host rest ∙ ap (λ m. u32 m ++ (host ++ rest)) f ∙ sym (types_are code lists)

pub imports_are : vector import_bytes host_imports
    ≡ 6 ∷ 3 ∷ 105 ∷ 115 ∷ 112 ∷ 5 ∷ 119 ∷ 114 ∷ 105 ∷ 116 ∷ 101 ∷ 0 ∷ 0 ∷ 3 ∷ 105 ∷ 115 ∷ 112 ∷ 4 ∷ 116 ∷ 114 ∷ 97 ∷ 112 ∷ 0 ∷ 1 ∷ 3 ∷ 105 ∷ 115 ∷ 112 ∷ 12 ∷ 112 ∷ 114 ∷ 105 ∷ 110 ∷ 116 ∷ 95 ∷ 115 ∷ 105 ∷ 103 ∷ 110 ∷ 101 ∷ 100 ∷ 0 ∷ 2 ∷ 3 ∷ 105 ∷ 115 ∷ 112 ∷ 14 ∷ 112 ∷ 114 ∷ 105 ∷ 110 ∷ 116 ∷ 95 ∷ 117 ∷ 110 ∷ 115 ∷ 105 ∷ 103 ∷ 110 ∷ 101 ∷ 100 ∷ 0 ∷ 3 ∷ 3 ∷ 105 ∷ 115 ∷ 112 ∷ 10 ∷ 112 ∷ 114 ∷ 105 ∷ 110 ∷ 116 ∷ 95 ∷ 98 ∷ 111 ∷ 111 ∷ 108 ∷ 0 ∷ 4 ∷ 3 ∷ 105 ∷ 115 ∷ 112 ∷ 10 ∷ 112 ∷ 114 ∷ 105 ∷ 110 ∷ 116 ∷ 95 ∷ 98 ∷ 121 ∷ 116 ∷ 101 ∷ 0 ∷ 5 ∷ []
unfolding u32 groups
imports_are = refl

bodies_long : (n : ℕ) (fs : List Function) → length (bodies n fs) ≡ length fs
bodies_long n [] = refl
bodies_long n (f ∷ fs) = ap suc (bodies_long (suc n) fs)

same_count : (code : Listing) (lists : List (List Form)) → length (bodies 0 (made_of code lists).functions) ≡ 0 + length (made_of code lists).functions
same_count code lists = let a = bodies_long 0 (made_of code lists).functions in omega (arith, a)

pub numbers_are : (code : Listing) (lists : List (List Form))
    → vector type_bytes (sections_of (made_of code lists)).functions ≡ u32 (0 + length (made_of code lists).functions) ++ flat_map type_bytes (bodies 0 (made_of code lists).functions)
numbers_are code lists = ap (λ n. u32 n ++ flat_map type_bytes (bodies 0 (made_of code lists).functions)) (same_count code lists)

pub bodies_are : (code : Listing) (lists : List (List Form))
    → vector body_bytes (sections_of (made_of code lists)).functions ≡ u32 (0 + length (made_of code lists).functions) ++ flat_map body_bytes (bodies 0 (made_of code lists).functions)
bodies_are code lists = ap (λ n. u32 n ++ flat_map body_bytes (bodies 0 (made_of code lists).functions)) (same_count code lists)

in_three : (h a b c d e f g i : List ℕ) → h ++ (a ++ (b ++ (c ++ (d ++ (e ++ (f ++ (g ++ i))))))) ≡ h ++ ((a ++ (b ++ c)) ++ ((d ++ e) ++ (f ++ (g ++ i))))
in_three h a b c d e f g i = simp append_assoc

all_sections : (m : Sections)
    → sections_bytes m
    ≡ head ++ ((section 1 (vector func_type m.types) ++ (section 2 (vector import_bytes m.imports) ++ section 3 (vector type_bytes m.functions)))
    ++ ((section 5 (vector memory_bytes (m.pages ∷ [])) ++ section 6 (vector global_bytes m.globals)) ++ content_sections m))
unfolding sections_bytes
all_sections m =
    in_three head (section 1 (vector func_type m.types)) (section 2 (vector import_bytes m.imports)) (section 3 (vector type_bytes m.functions))
    (section 5 (vector memory_bytes (m.pages ∷ []))) (section 6 (vector global_bytes m.globals)) (section 7 (vector export_bytes m.exports))
    (section 10 (vector body_bytes m.functions)) (section 11 (vector piece_bytes m.pieces))

pub whole_is : (code : Listing) (lists : List (List Form))
    → bytes_of (made_of code lists)
    ≡ head ++ (signature_sections (sections_of (made_of code lists)) ++ (memory_sections (length (made_of code lists).memory) ++ content_sections (sections_of (made_of code lists))))
whole_is code lists = all_sections (sections_of (made_of code lists))

-- the same of what is appended
pub whole_chain : (code used : Listing) (lists : List (List Form)) (memory : List ℕ) (n : ℕ) (o a b c d e : List ℕ) → memory ≡ joined used.texts → used ≡ code → n ≡ length memory → o ≡ [] → a ≡ o ++ head
    → b ≡ a ++ signature_sections (sections_of (made_of code lists)) → c ≡ b ++ memory_sections n → d ≡ c ++ content_sections (sections_of (made_of code lists)) → e ≡ d
    → e ≡ bytes_of (made_of code lists)
whole_chain code used lists memory n o a b c d e texts same long p q r s t u =
    let first = signature_sections (sections_of (made_of code lists)) in
    let last = content_sections (sections_of (made_of code lists)) in
    let written : e ≡ ((head ++ first) ++ memory_sections n) ++ last = u ∙ t ∙ ap (λ l. l ++ last) (s ∙ ap (λ l. l ++ memory_sections n) (r ∙ ap (λ l. l ++ first) (q ∙ ap (λ l. l ++ head) p))) in
    let count : n ≡ length (made_of code lists).memory = long ∙ ap length (texts ∙ ap (λ (l : Listing). joined l.texts) same) in
    written ∙ append_assoc (head ++ first) (memory_sections n) last ∙ append_assoc head first (memory_sections n ++ last)
    ∙ ap (λ m. head ++ (first ++ (memory_sections m ++ last))) count ∙ sym (whole_is code lists)
