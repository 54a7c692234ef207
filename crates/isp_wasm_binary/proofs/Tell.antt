-- The bytes of a module tell its functions and its memory.
use Rattle.std.proofs.Common.{◌≡◌, ℕ, zero, suc, ◌+◌, ◌≤◌, Bool, true, false, List, [], ◌∷◌, Option, Some, None, map, refl, sym, ap, ap₂, ◌∙◌, arith}
use Rattle.isp_wasm_meaning.specs.Module.{ValueType, I32, I64, V128, Function}
use Rattle.isp_wasm_binary.specs.Instructions.{hosts}
use Rattle.isp_wasm_binary.specs.Modules.{Group, FunctionKind, Export, Piece}
use Rattle.isp_wasm_binary.specs.Same.{code_words, placed}
use Rattle.isp_wasm_binary.specs.Binary.{results_of, type_of, is_same, one_more, joined, grouped, bodies, named, names, pieces_of, sections_of, ModulesTell}
use Rattle.isp_wasm_binary.proofs.Unique.{again, cons_parts, sections_tell}

-- ---- types

first_of : List ValueType → Option ValueType
first_of [] = None
first_of (t ∷ ts) = Some t

first_result : (r : Option ValueType) → first_of (results_of r) ≡ r
unfolding first_of
first_result None = refl
first_result (Some t) = refl

-- ---- locals

repeated : ℕ → ValueType → List ValueType → List ValueType
repeated zero t ts = ts
repeated (suc n) t ts = t ∷ repeated n t ts

spread : List Group → List ValueType
spread [] = []
spread (g ∷ gs) = repeated g.count g.type (spread gs)

same_type : (t u : ValueType) → is_same t u ≡ true → t ≡ u
same_type I32 I32 e = refl
same_type I64 I64 e = refl
same_type V128 V128 e = refl
same_type I32 I64 e = cc
same_type I32 V128 e = cc
same_type I64 I32 e = cc
same_type I64 V128 e = cc
same_type V128 I32 e = cc
same_type V128 I64 e = cc

one_spread : (b : Bool) (t : ValueType) (g : Group) (gs : List Group) → is_same t g.type ≡ b → spread (one_more b t g gs) ≡ t ∷ spread (g ∷ gs)
unfolding spread repeated
one_spread true t g gs e = ap (λ u. u ∷ repeated g.count g.type (spread gs)) (sym (same_type t g.type e))
one_spread false t g gs e = refl

spread_joined : (t : ValueType) (gs : List Group) → spread (joined t gs) ≡ t ∷ spread gs
unfolding spread repeated
spread_joined t [] = refl
spread_joined t (g ∷ gs) = one_spread (is_same t g.type) t g gs refl

spread_grouped : (ts : List ValueType) → spread (grouped ts) ≡ ts
unfolding spread
spread_grouped [] = refl
spread_grouped (t ∷ ts) = spread_joined t (grouped ts) ∙ ap (λ us. t ∷ us) (spread_grouped ts)

body_locals : (f : ℕ) (hs : List Function) → map (λ b. b.locals) (bodies f hs) ≡ map (λ h. grouped h.locals) hs
body_locals f [] = refl
body_locals f (h ∷ hs) = ap (λ t. grouped h.locals ∷ t) (body_locals (suc f) hs)

body_words : (f : ℕ) (hs : List Function) → map (λ b. code_words b.code) (bodies f hs) ≡ map (λ h. code_words h.code) hs
body_words f [] = refl
body_words f (h ∷ hs) = ap (λ t. code_words h.code ∷ t) (body_words (suc f) hs)

-- ---- exports

-- no export of these functions has a number below
abbrev Above : ℕ → List Export → Type 0
Above n [] = Unit {0}
Above n (e ∷ es) = n ≤ e.index

named_above : (o : Option (List ℕ)) (f n : ℕ) (es : List Export) → n ≤ hosts + f → Above n es → Above n (named o f es)
named_above None f n es h k = k
named_above (Some name) f n es h k = h

names_above : (f n : ℕ) (hs : List Function) → n ≤ hosts + f → Above n (names f hs)
names_above f n [] h = tt
names_above f n (x ∷ xs) h = named_above x.export f n (names (suc f) xs) h (names_above (suc f) n xs (omega arith))

not_first : (f : ℕ) (name : List ℕ) (es fs : List Export) → Above (hosts + suc f) es → es ≡ record { name = name; kind = FunctionKind; index = hosts + f } ∷ fs → ⊥
not_first f name [] fs h e = cc
not_first f name (x ∷ es) fs h e = let i : x.index ≡ hosts + f = ap (λ y. y.index) (cons_parts x _ es fs e).0 in omega arith

export_step : (f : ℕ) (o p : Option (List ℕ)) (es fs : List Export) → Above (hosts + suc f) es → Above (hosts + suc f) fs → named o f es ≡ named p f fs → (o ≡ p) × (es ≡ fs)
export_step f None None es fs h k e = (refl, e)
export_step f (Some a) None es fs h k e = absurd (not_first f a fs es k (sym e))
export_step f None (Some b) es fs h k e = absurd (not_first f b es fs h e)
export_step f (Some a) (Some b) es fs h k e =
    let p = cons_parts _ _ es fs e in (ap Some (ap (λ x. x.name) p.0), p.1)

exports_same : (f : ℕ) (hs gs : List Function) → map type_of hs ≡ map type_of gs → names f hs ≡ names f gs → map (λ h. h.export) hs ≡ map (λ h. h.export) gs
exports_same f [] [] t e = refl
exports_same f [] (g ∷ gs) t e = cc
exports_same f (h ∷ hs) [] t e = cc
exports_same f (h ∷ hs) (g ∷ gs) t e =
    let ts = cons_parts (type_of h) (type_of g) (map type_of hs) (map type_of gs) t in
    let p = export_step f h.export g.export (names (suc f) hs) (names (suc f) gs) (names_above (suc f) (hosts + suc f) hs (omega arith)) (names_above (suc f) (hosts + suc f) gs (omega arith)) e in
    ap₂ (λ x xs. x ∷ xs) p.0 (exports_same (suc f) hs gs ts.1 p.1)

-- ---- memory

memory_of : List Piece → List ℕ
memory_of [] = []
memory_of (p ∷ ps) = p.has

memory_back : (bs : List ℕ) → memory_of (map placed (pieces_of bs)) ≡ bs
unfolding memory_of
memory_back [] = refl
memory_back (b ∷ bs) = refl

pub modules_tell : ModulesTell
modules_tell m n e =
    let s = sections_tell (sections_of m) (sections_of n) e in
    let t1 = cons_parts _ _ _ _ s.types_are in
    let t2 = cons_parts _ _ _ _ t1.1 in
    let t3 = cons_parts _ _ _ _ t2.1 in
    let t4 = cons_parts _ _ _ _ t3.1 in
    let t5 = cons_parts _ _ _ _ t4.1 in
    let t6 = cons_parts _ _ _ _ t5.1 in
    let x1 = cons_parts _ _ _ _ s.exports_are in
    let x2 = cons_parts _ _ _ _ x1.1 in
    let x3 = cons_parts _ _ _ _ x2.1 in
    let groups = sym (body_locals 0 m.functions) ∙ s.function_locals ∙ body_locals 0 n.functions in
    record {
      exports_are = exports_same 0 m.functions n.functions t6.1 x3.1;
      params_are = again type_of (λ t. t.params) (λ f. f.params) (λ f. refl) m.functions n.functions t6.1;
      results_are = again type_of (λ t. first_of t.results) (λ f. f.result) (λ f. first_result f.result) m.functions n.functions t6.1;
      locals_are = again (λ f. grouped f.locals) spread (λ f. f.locals) (λ f. spread_grouped f.locals) m.functions n.functions groups;
      words_are = sym (body_words 0 m.functions) ∙ s.function_words ∙ body_words 0 n.functions;
      memory_is = sym (memory_back m.memory) ∙ ap memory_of s.pieces_are ∙ memory_back n.memory;
    }
