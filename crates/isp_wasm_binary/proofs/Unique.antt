-- The bytes of a module tell what it is.
use Rattle.std.proofs.Common.{◌≡◌, ℕ, ◌%◌, ◌^◌, Bool, true, false, List, [], ◌∷◌, ◌++◌, length, map, refl, sym, ap, ap₂, ◌∙◌, subst, append_assoc, arith}
use Rattle.std.specs.Prelude.{nat_eq, if◌then◌else◌}
use Rattle.std.specs.List.{flat_map}
use Rattle.std.proofs.lemmas.List.{map-id, append_cancel_right}
use Rattle.std.proofs.lemmas.Grind.{flat_map-append}
use Rattle.std.proofs.Math.Nat.{mod-lt}
use Rattle.std.proofs.lemmas.Nat.{pow_pos}
use Rattle.isp_wasm_binary.specs.Numbers.{u32, i32, i64, v128, vector, bytes}
use Rattle.isp_wasm_binary.specs.Instructions.{Word, End_word, word_bytes, code_bytes}
use Rattle.isp_wasm_meaning.specs.Module.{ValueType, I32, I64, V128}
use Rattle.isp_wasm_binary.specs.Modules.{Sections, Import, Global, Group, Body, Kind, FunctionKind, MemoryKind, GlobalKind, Export}
use Rattle.isp_wasm_binary.specs.Modules.{value_type, func_type, import_bytes, type_bytes, memory_bytes, changes_byte, constant, first_of as first_value, global_bytes, kind_byte, export_bytes, group_bytes, inner_bytes, body_bytes, piece_bytes, section, head, sections_bytes}
use Rattle.isp_wasm_binary.specs.Operators.{simd}
use Rattle.isp_wasm_binary.specs.Same.{code_words, kept_by, kept, placed, SameSections}
use Rattle.isp_wasm_binary.proofs.Numbers.{read_signed, read_low, u32_free, i32_back, i64_back, v128_back}
use Rattle.isp_wasm_binary.proofs.ReadWords.{AllWords, words_same}
use Rattle.isp_wasm_binary.proofs.Folded.{same_i32, same_i64, same_v128, code_flat, code_all}

-- from its bytes, whatever follows, one knows of a value what g says of it
abbrev Tells : {A B : Type 0} → (A → List ℕ) → (A → B) → Type 0
Tells {A} {B} f g = (x y : A) (r s : List ℕ) → f x ++ r ≡ f y ++ s → (g x ≡ g y) × (r ≡ s)

-- ---- lists

tail_of : List ℕ → List ℕ
tail_of [] = []
tail_of (x ∷ xs) = xs

first_of : List ℕ → ℕ
first_of [] = 0
first_of (x ∷ xs) = x

behind_first : (x y : ℕ) (r s : List ℕ) → x ∷ r ≡ y ∷ s → (x ≡ y) × (r ≡ s)
behind_first x y r s e = (cc, cc)

pieces : (xs ys r s : List ℕ) → length xs ≡ length ys → xs ++ r ≡ ys ++ s → (xs ≡ ys) × (r ≡ s)
pieces [] [] r s l e = (refl, e)
pieces [] (y ∷ ys) r s l e = cc
pieces (x ∷ xs) [] r s l e = cc
pieces (x ∷ xs) (y ∷ ys) r s l e =
    let h = behind_first x y (xs ++ r) (ys ++ s) e in
    let t = pieces xs ys r s (omega arith) h.1 in (ap₂ (λ a b. a ∷ b) h.0 t.0, t.1)

-- a value, and then more
then_more : {A B : Type 0} (f : A → List ℕ) (g : A → B) → Tells f g → (x y : A) (a b r s : List ℕ) → (f x ++ a) ++ r ≡ (f y ++ b) ++ s → (g x ≡ g y) × (a ++ r ≡ b ++ s)
then_more f g t x y a b r s e = t x y (a ++ r) (b ++ s) (sym (append_assoc (f x) a r) ∙ e ∙ append_assoc (f y) b s)

each_tells : {A B : Type 0} (f : A → List ℕ) (g : A → B) → Tells f g → (xs ys : List A) (r s : List ℕ) → length xs ≡ length ys → flat_map f xs ++ r ≡ flat_map f ys ++ s → (map g xs ≡ map g ys) × (r ≡ s)
each_tells f g t [] [] r s l e = (refl, e)
each_tells f g t [] (y ∷ ys) r s l e = cc
each_tells f g t (x ∷ xs) [] r s l e = cc
each_tells f g t (x ∷ xs) (y ∷ ys) r s l e =
    let h = then_more f g t x y (flat_map f xs) (flat_map f ys) r s e in
    let k = each_tells f g t xs ys r s (omega arith) h.1 in (ap₂ (λ a b. a ∷ b) h.0 k.0, k.1)

number_tells : Tells u32 (λ n. n)
number_tells m n r s e = u32_free m n r s e

vector_tells : {A B : Type 0} (f : A → List ℕ) (g : A → B) → Tells f g → Tells (vector f) (map g)
vector_tells f g t xs ys r s e =
    let h = then_more u32 (λ n. n) number_tells (length xs) (length ys) (flat_map f xs) (flat_map f ys) r s e in each_tells f g t xs ys r s h.0 h.1

list_tells : {A : Type 0} (f : A → List ℕ) → Tells f (λ x. x) → Tells (vector f) (λ xs. xs)
list_tells f t xs ys r s e = let h = vector_tells f (λ x. x) t xs ys r s e in (sym (map-id xs) ∙ h.0 ∙ map-id ys, h.1)

bytes_tell : Tells bytes (λ bs. bs)
bytes_tell bs cs r s e =
    let h = then_more u32 (λ n. n) number_tells (length bs) (length cs) bs cs r s e in pieces bs cs r s h.0 h.1

-- ---- small sorts

abbrev val_of : ℕ → ValueType
val_of n = if nat_eq n 0x7F then I32 else (if nat_eq n 0x7E then I64 else V128)

val_back : (t : ValueType) (r : List ℕ) → val_of (first_of (value_type t ++ r)) ≡ t
unfolding first_of
val_back I32 r = refl
val_back I64 r = refl
val_back V128 r = refl

val_rest : (t : ValueType) (r : List ℕ) → tail_of (value_type t ++ r) ≡ r
unfolding tail_of
val_rest I32 r = refl
val_rest I64 r = refl
val_rest V128 r = refl

val_tells : Tells value_type (λ t. t)
val_tells x y r s e =
    (sym (val_back x r) ∙ ap (λ l. val_of (first_of l)) e ∙ val_back y s, sym (val_rest x r) ∙ ap tail_of e ∙ val_rest y s)

abbrev kind_of : ℕ → Kind
kind_of n = if nat_eq n 0 then FunctionKind else (if nat_eq n 2 then MemoryKind else GlobalKind)

kind_back : (t : Kind) (r : List ℕ) → kind_of (first_of (kind_byte t ++ r)) ≡ t
unfolding first_of
kind_back FunctionKind r = refl
kind_back MemoryKind r = refl
kind_back GlobalKind r = refl

kind_rest : (t : Kind) (r : List ℕ) → tail_of (kind_byte t ++ r) ≡ r
unfolding tail_of
kind_rest FunctionKind r = refl
kind_rest MemoryKind r = refl
kind_rest GlobalKind r = refl

kind_tells : Tells kind_byte (λ t. t)
kind_tells x y r s e =
    (sym (kind_back x r) ∙ ap (λ l. kind_of (first_of l)) e ∙ kind_back y s, sym (kind_rest x r) ∙ ap tail_of e ∙ kind_rest y s)

changes_back : (t : Bool) (r : List ℕ) → nat_eq (first_of (changes_byte t ++ r)) 1 ≡ t
unfolding first_of
changes_back true r = refl
changes_back false r = refl

changes_rest : (t : Bool) (r : List ℕ) → tail_of (changes_byte t ++ r) ≡ r
unfolding tail_of
changes_rest true r = refl
changes_rest false r = refl

changes_tell : Tells changes_byte (λ t. t)
changes_tell x y r s e =
    (sym (changes_back x r) ∙ ap (λ l. nat_eq (first_of l) 1) e ∙ changes_back y s, sym (changes_rest x r) ∙ ap tail_of e ∙ changes_rest y s)

-- ---- what modules have

func_type_tells : Tells func_type (λ t. t)
func_type_tells x y r s e =
    let a = behind_first 0x60 0x60 _ _ e in
    let b = then_more (vector value_type) (λ ts. ts) (list_tells value_type val_tells) x.params y.params (vector value_type x.results) (vector value_type y.results) r s a.1 in
    let c = list_tells value_type val_tells x.results y.results r s b.1 in (ap₂ (λ p q. record { params = p; results = q }) b.0 c.0, c.1)

abbrev import_of : List ℕ → List ℕ → ℕ → Import
import_of f n t = record { from = f; name = n; type = t }

import_tells : Tells import_bytes (λ i. i)
import_tells x y r s e =
    let a = then_more bytes (λ b. b) bytes_tell x.from y.from _ _ r s e in
    let b = then_more bytes (λ b. b) bytes_tell x.name y.name _ _ r s a.1 in
    let c = number_tells x.type y.type r s (behind_first 0 0 _ _ b.1).1 in
    (ap (λ f. import_of f x.name x.type) a.0 ∙ ap (λ n. import_of y.from n x.type) b.0 ∙ ap (import_of y.from y.name) c.0, c.1)

i32_tells : Tells i32 (λ n. n % 2 ^ 32)
i32_tells x y r s e =
    let back : (n : ℕ) (t : List ℕ) → read_signed 4 32 (i32 n ++ t) ≡ (n % 2 ^ 32, t) =
    λ n t. ap (λ l. read_signed 4 32 (l ++ t)) (sym (same_i32 n)) ∙ i32_back (n % 2 ^ 32) t (mod-lt n (pow_pos 32)) in
    let same = sym (back x r) ∙ ap (read_signed 4 32) e ∙ back y s in (ap (λ t. t.0) same, ap (λ t. t.1) same)

constant_tells : Tells constant (λ n. n % 2 ^ 32)
constant_tells x y r s e =
    let a = behind_first 0x41 0x41 _ _ e in
    let b = then_more i32 (λ n. n % 2 ^ 32) i32_tells x y (0x0B ∷ []) (0x0B ∷ []) r s a.1 in (b.0, (behind_first 0x0B 0x0B _ _ b.1).1)

i64_tells : Tells i64 (λ n. n % 2 ^ 64)
i64_tells x y r s e =
    let back : (n : ℕ) (t : List ℕ) → read_signed 9 64 (i64 n ++ t) ≡ (n % 2 ^ 64, t) =
    λ n t. ap (λ l. read_signed 9 64 (l ++ t)) (sym (same_i64 n)) ∙ i64_back (n % 2 ^ 64) t (mod-lt n (pow_pos 64)) in
    let same = sym (back x r) ∙ ap (read_signed 9 64) e ∙ back y s in (ap (λ t. t.0) same, ap (λ t. t.1) same)

v128_tells : Tells v128 (λ n. n % 2 ^ 128)
v128_tells x y r s e =
    let back : (n : ℕ) (t : List ℕ) → read_low 16 (v128 n ++ t) ≡ (n % 2 ^ 128, t) =
    λ n t. ap (λ l. read_low 16 (l ++ t)) (sym (same_v128 n)) ∙ v128_back (n % 2 ^ 128) t (mod-lt n (pow_pos 128)) in
    let same = sym (back x r) ∙ ap (read_low 16) e ∙ back y s in (ap (λ t. t.0) same, ap (λ t. t.1) same)

first_tells : (t : ValueType) → Tells (first_value t) (kept_by t)
first_tells I32 x y r s e = constant_tells x y r s e
first_tells I64 x y r s e =
    let a = behind_first 0x42 0x42 _ _ e in
    let b = then_more i64 (λ n. n % 2 ^ 64) i64_tells x y (0x0B ∷ []) (0x0B ∷ []) r s a.1 in (b.0, (behind_first 0x0B 0x0B _ _ b.1).1)
first_tells V128 x y r s e =
    let a = pieces (simd 12) (simd 12) _ _ refl (sym (append_assoc (simd 12) _ r) ∙ ap (λ l. l ++ r) (sym (append_assoc (simd 12) (v128 x) (0x0B ∷ []))) ∙ e
    ∙ ap (λ l. l ++ s) (append_assoc (simd 12) (v128 y) (0x0B ∷ [])) ∙ append_assoc (simd 12) _ s) in
    let b = then_more v128 (λ n. n % 2 ^ 128) v128_tells x y (0x0B ∷ []) (0x0B ∷ []) r s a.1 in (b.0, (behind_first 0x0B 0x0B _ _ b.1).1)

abbrev pub global_of : ValueType → Bool → ℕ → Global
global_of t c n = record { type = t; changes = c; first = n }

global_tells : Tells global_bytes kept
global_tells x y r s e =
    let a = then_more value_type (λ t. t) val_tells x.type y.type _ _ r s e in
    let b = then_more changes_byte (λ t. t) changes_tell x.changes y.changes _ _ r s a.1 in
    let c = first_tells y.type x.first y.first r s (subst (λ t. first_value t x.first ++ r ≡ first_value y.type y.first ++ s) a.0 b.1) in
    (ap (λ t. global_of t x.changes (kept_by t x.first)) a.0 ∙ ap (λ c. global_of y.type c (kept_by y.type x.first)) b.0 ∙ ap (global_of y.type y.changes) c.0, c.1)

abbrev export_of : List ℕ → Kind → ℕ → Export
export_of n k i = record { name = n; kind = k; index = i }

export_tells : Tells export_bytes (λ e. e)
export_tells x y r s e =
    let a = then_more bytes (λ b. b) bytes_tell x.name y.name _ _ r s e in
    let b = then_more kind_byte (λ k. k) kind_tells x.kind y.kind _ _ r s a.1 in
    let c = number_tells x.index y.index r s b.1 in
    (ap (λ n. export_of n x.kind x.index) a.0 ∙ ap (λ k. export_of y.name k x.index) b.0 ∙ ap (export_of y.name y.kind) c.0, c.1)

group_tells : Tells group_bytes (λ g. g)
group_tells x y r s e =
    let a = then_more u32 (λ n. n) number_tells x.count y.count _ _ r s e in
    let b = val_tells x.type y.type r s a.1 in (ap₂ (λ n t. record { count = n; type = t }) a.0 b.0, b.1)

piece_tells : Tells piece_bytes placed
piece_tells x y r s e =
    let a = then_more constant (λ n. n % 2 ^ 32) constant_tells x.at y.at _ _ r s (behind_first 0 0 _ _ e).1 in
    let b = bytes_tell x.has y.has r s a.1 in (ap₂ (λ p q. record { at = p; has = q }) a.0 b.0, b.1)

memory_tells : Tells memory_bytes (λ n. n)
memory_tells x y r s e = number_tells x y r s (behind_first 0 0 _ _ e).1

-- ---- functions

abbrev flat : List Word → List ℕ
flat ws = flat_map word_bytes ws

both : (ws vs : List Word) → AllWords ws → AllWords vs → AllWords (ws ++ vs)
both [] vs h k = k
both (w ∷ ws) vs h k = (h.0, both ws vs h.1 k)

ended : (ws : List Word) → flat (ws ++ End_word ∷ []) ≡ flat ws ++ word_bytes End_word
ended ws = flat_map-append word_bytes ws (End_word ∷ [])

last_off : (ws vs : List Word) (w : Word) → ws ++ w ∷ [] ≡ vs ++ w ∷ [] → ws ≡ vs
last_off ws vs w e = append_cancel_right ws vs (w ∷ []) e

code_same : (f g : Body) → code_bytes f.code ++ word_bytes End_word ≡ code_bytes g.code ++ word_bytes End_word → code_words f.code ≡ code_words g.code
code_same f g e =
    let is : (h : Body) → flat (code_words h.code ++ End_word ∷ []) ≡ code_bytes h.code ++ word_bytes End_word =
    λ h. ended (code_words h.code) ∙ ap (λ t. t ++ word_bytes End_word) (code_flat h.code) in
    let all : (h : Body) → AllWords (code_words h.code ++ End_word ∷ []) = λ h. both (code_words h.code) (End_word ∷ []) (code_all h.code) (tt, tt) in
    last_off (code_words f.code) (code_words g.code) End_word
    (words_same (code_words f.code ++ End_word ∷ []) (code_words g.code ++ End_word ∷ []) (all f) (all g) (is f ∙ e ∙ sym (is g)))

abbrev seen : Body → List Group × List Word
seen f = (f.locals, code_words f.code)

body_tells : Tells body_bytes seen
body_tells f g r s e =
    let a = bytes_tell (inner_bytes f) (inner_bytes g) r s e in
    let b = list_tells group_bytes group_tells f.locals g.locals _ _ a.0 in (ap₂ (λ x y. (x, y)) b.0 (code_same f g b.1), a.1)

type_tells : Tells type_bytes (λ f. f.type)
type_tells f g r s e = number_tells f.type g.type r s e

pub cons_parts : {A : Type 0} (x y : A) (xs ys : List A) → x ∷ xs ≡ y ∷ ys → (x ≡ y) × (xs ≡ ys)
cons_parts x y xs ys e = (cc, cc)

-- what a second look sees of what the first one saw
pub again : {A B C : Type 0} (g : A → B) (h : B → C) (k : A → C) → ((x : A) → h (g x) ≡ k x) → (xs ys : List A) → map g xs ≡ map g ys → map k xs ≡ map k ys
again g h k e [] [] q = refl
again g h k e [] (y ∷ ys) q = cc
again g h k e (x ∷ xs) [] q = cc
again g h k e (x ∷ xs) (y ∷ ys) q =
    let p = cons_parts (g x) (g y) (map g xs) (map g ys) q in ap₂ (λ a b. a ∷ b) (sym (e x) ∙ ap h p.0 ∙ e y) (again g h k e xs ys p.1)

first_page : (p q : ℕ) → p ∷ [] ≡ q ∷ [] → p ≡ q
first_page p q e = cc

-- ---- sections

section_tells : (n : ℕ) → Tells (section n) (λ bs. bs)
section_tells n x y r s e = bytes_tell x y r s (behind_first n n _ _ e).1

-- what is all of a section
whole : {A B : Type 0} (f : A → List ℕ) (g : A → B) → Tells f g → (x y : A) → f x ≡ f y → g x ≡ g y
whole f g t x y e = (t x y [] [] (ap (λ l. l ++ []) e)).0

pub sections_tell : (m n : Sections) → sections_bytes m ≡ sections_bytes n → SameSections m n
unfolding sections_bytes
sections_tell m n e =
    let e0 = (pieces head head _ _ refl e).1 in
    let e1 = section_tells 1 (vector func_type m.types) (vector func_type n.types) _ _ e0 in
    let e2 = section_tells 2 (vector import_bytes m.imports) (vector import_bytes n.imports) _ _ e1.1 in
    let e3 = section_tells 3 (vector type_bytes m.functions) (vector type_bytes n.functions) _ _ e2.1 in
    let e5 = section_tells 5 (vector memory_bytes (m.pages ∷ [])) (vector memory_bytes (n.pages ∷ [])) _ _ e3.1 in
    let e6 = section_tells 6 (vector global_bytes m.globals) (vector global_bytes n.globals) _ _ e5.1 in
    let e7 = section_tells 7 (vector export_bytes m.exports) (vector export_bytes n.exports) _ _ e6.1 in
    let e10 = section_tells 10 (vector body_bytes m.functions) (vector body_bytes n.functions) _ _ e7.1 in
    let e11 = whole (section 11) (λ b. b) (section_tells 11) (vector piece_bytes m.pieces) (vector piece_bytes n.pieces) e10.1 in
    let bodies = whole (vector body_bytes) (map seen) (vector_tells body_bytes seen body_tells) m.functions n.functions e10.0 in
    record {
      types_are = whole (vector func_type) (λ ts. ts) (list_tells func_type func_type_tells) m.types n.types e1.0;
      imports_are = whole (vector import_bytes) (λ is. is) (list_tells import_bytes import_tells) m.imports n.imports e2.0;
      pages_are = first_page m.pages n.pages (whole (vector memory_bytes) (λ ps. ps) (list_tells memory_bytes memory_tells) (m.pages ∷ []) (n.pages ∷ []) e5.0);
      globals_are = whole (vector global_bytes) (map kept) (vector_tells global_bytes kept global_tells) m.globals n.globals e6.0;
      exports_are = whole (vector export_bytes) (λ es. es) (list_tells export_bytes export_tells) m.exports n.exports e7.0;
      pieces_are = whole (vector piece_bytes) (map placed) (vector_tells piece_bytes placed piece_tells) m.pieces n.pieces e11;
      function_types = whole (vector type_bytes) (map (λ f. f.type)) (vector_tells type_bytes (λ f. f.type) type_tells) m.functions n.functions e3.0;
      function_locals = again seen (λ p. p.0) (λ f. f.locals) (λ f. refl) m.functions n.functions bodies;
      function_words = again seen (λ p. p.1) (λ f. code_words f.code) (λ f. refl) m.functions n.functions bodies;
    }
