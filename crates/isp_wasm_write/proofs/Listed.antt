-- The places of a function, one after the other.
use Rattle.std.proofs.Common.{◌≡◌, ℕ, zero, suc, ◌+◌, ◌-◌, ◌*◌, ◌<◌, List, [], ◌∷◌, ◌++◌, length, map, drop, get_or, refl, ap, sym, ◌∙◌, add-one, arith, append_assoc}
use Rattle.std.proofs.lemmas.List.{map_push, map-append, drop_more, length-append}
use Rattle.isp_base.specs.declared.types.Elem.{Elem}
use Rattle.isp_code.specs.Listing.{Routine}
use Rattle.isp_code.specs.Registers.{param_elems, scalars_of, vectors_of}
use Rattle.isp_code.specs.declared.register.Class.TheVariants as class
use Rattle.isp_wasm_meaning.specs.Syntax as wasm
use Rattle.isp_wasm.specs.Places as places
use Rattle.isp_wasm.specs.Places.{shape_of, parts_for}
use Rattle.isp_wasm.specs.Locals.{row, vector_places, mask_places, array_places, own_places, name_of}
use Rattle.isp_wasm_write.specs.Places.{place_of}
use Rattle.isp_wasm_write.specs.reader.Own.{register_places, last_places}
use Rattle.isp_wasm_write.specs.declared.kernel.Place.{Place}
use Rattle.isp_wasm_write.specs.declared.kernel.Place.TheVariants as kernel

-- ---- rows

row_more : (n : ℕ) (p : ℕ → places.Place) → row (suc n) p ≡ row n p ++ p n ∷ []
row_more zero p = refl
row_more (suc n) p = ap (λ l. p 0 ∷ l) (row_more n (λ j. p (suc j)))

pub row_long : (n : ℕ) (p : ℕ → places.Place) → length (row n p) ≡ n
row_long zero p = refl
row_long (suc n) p = ap suc (row_long n (λ j. p (suc j)))

-- one more place after a row
pub row_step : (before : List places.Place) (p : ℕ → places.Place) (n : ℕ) (got : List Place) (x : Place)
    → map place_of got ≡ before ++ row n p → place_of x ≡ p n → map place_of (got ++ x ∷ []) ≡ before ++ row (n + 1) p
row_step before p n got x e f =
    map_push place_of got x ∙ ap (λ l. l ++ place_of x ∷ []) e ∙ ap (λ q. (before ++ row n p) ++ q ∷ []) f ∙ append_assoc before (row n p) (p n ∷ [])
    ∙ ap (λ l. before ++ l) (sym (row_more n p)) ∙ ap (λ m. before ++ row m p) (sym (add-one n))

-- ---- how many

vectors_long : (lanes : ℕ) (ts : List Elem) (r s : ℕ) → length (vector_places lanes ts r) ≡ length (vector_places lanes ts s)
vectors_long lanes [] r s = refl
vectors_long lanes (t ∷ ts) r s =
    length-append (row (parts_for lanes (shape_of t)) (places.Vector r)) (vector_places lanes ts (suc r))
    ∙ (let one = row_long (parts_for lanes (shape_of t)) (places.Vector r) in let other = row_long (parts_for lanes (shape_of t)) (places.Vector s) in
    let more = vectors_long lanes ts (suc r) (suc s) in let both = length-append (row (parts_for lanes (shape_of t)) (places.Vector s)) (vector_places lanes ts (suc s)) in omega (arith, one, other, more, both))

pub vector_long : (lanes : ℕ) (t : Elem) (ts : List Elem)
    → length (vector_places lanes (t ∷ ts) 0) ≡ parts_for lanes (shape_of t) + length (vector_places lanes ts 0)
vector_long lanes t ts =
    length-append (row (parts_for lanes (shape_of t)) (places.Vector 0)) (vector_places lanes ts 1)
    ∙ (let one = row_long (parts_for lanes (shape_of t)) (places.Vector 0) in let more = vectors_long lanes ts 1 0 in omega (arith, one, more))

masks_long : (n r : ℕ) → length (mask_places n r) ≡ 2 * n
masks_long zero r = refl
masks_long (suc n) r = (let more = masks_long n (suc r) in omega (arith, more))

arrays_long : (n a : ℕ) → length (array_places n a) ≡ 2 * n
arrays_long zero a = refl
arrays_long (suc n) a = (let more = arrays_long n (suc a) in omega (arith, more))

pub own_long : (lanes : ℕ) (h : Routine)
    → length (own_places lanes h)
    ≡ 6 + parts_for lanes wasm.I64x2 + length h.scalars + length (vector_places lanes (vectors_of h) 0) + 2 * h.masks + 2 * length h.locals
own_long lanes h =
    let passed = length (param_elems class.Scalar h.params) in
    let fresh = row (parts_for lanes wasm.I64x2) places.Fresh in
    let scalars = row (length h.scalars) (λ r. places.Scalar (passed + r)) in
    let vectors = vector_places lanes (vectors_of h) 0 in
    let masks = mask_places h.masks 0 in
    let last = last_places h in
    let a = length-append fresh (scalars ++ (vectors ++ (masks ++ last))) in
    let b = length-append scalars (vectors ++ (masks ++ last)) in
    let c = length-append vectors (masks ++ last) in
    let g = length-append masks last in
    let d = row_long (parts_for lanes wasm.I64x2) places.Fresh in
    let e = row_long (length h.scalars) (λ r. places.Scalar (passed + r)) in
    let i = arrays_long (length h.locals) (length (param_elems class.Array h.params)) in
    let f = masks_long h.masks 0 in omega (arith, a, b, c, d, e, f, g, i)

-- ---- all of them

-- how many scalars are parameters
pub passed_is : (h : Routine) → length (scalars_of h) - length h.scalars ≡ length (param_elems class.Scalar h.params)
passed_is h = let both = length-append (param_elems class.Scalar h.params) h.scalars in omega (arith, both)

joined : (a s r v m : List places.Place) → (((a ++ s) ++ r) ++ v) ++ m ≡ a ++ (s ++ (r ++ (v ++ m)))
joined a s r v m = simp append_assoc

regrouped : (s r v m d : List places.Place) → (s ++ (r ++ (v ++ m))) ++ d ≡ s ++ (r ++ (v ++ (m ++ d)))
regrouped s r v m d = simp append_assoc

abbrev spares : ℕ → List places.Place
spares n = places.Counter ∷ places.Spare wasm.I32 0 ∷ places.Spare wasm.I32 1 ∷ places.Spare wasm.I64 0 ∷ row n places.Fresh

pub names_join : (ps qs : List places.Place) → map name_of (ps ++ qs) ≡ map name_of ps ++ map name_of qs
names_join ps qs = map-append name_of ps qs

-- ---- masks, one after the other

pub mask_more : (n i : ℕ) → i < n → mask_places (n - i) i ≡ places.Mask i 0 ∷ places.Mask i 1 ∷ mask_places (n - (i + 1)) (i + 1)
mask_more n i h =
    ap (λ m. mask_places m i) (let less : n - i ≡ suc (n - (i + 1)) = omega arith in less)
    ∙ ap (λ k. places.Mask i 0 ∷ places.Mask i 1 ∷ mask_places (n - (i + 1)) k) (let same : suc i ≡ i + 1 = omega arith in same)

-- ---- what is pushed, and what the others will add

-- one vector more
pub part_step : (lanes : ℕ) (ts : List Elem) (i n w p : ℕ) (s : wasm.Shape) (t : Elem) → s ≡ shape_of t → p ≡ parts_for lanes s → i < length ts
    → t ≡ get_or ts i t → n + length (vector_places lanes (drop i ts) 0) ≡ w → n + p + length (vector_places lanes (drop (i + 1) ts) 0) ≡ w
part_step lanes ts i n w p s t f q h e g =
    let a = ap (λ l. length (vector_places lanes l 0)) (drop_more ts i t h) in
    let b = vector_long lanes (get_or ts i t) (drop (i + 1) ts) in
    let d = q ∙ ap (parts_for lanes) (f ∙ ap shape_of e) in omega (arith, a, b, d, g)

-- two places more
two_step : (got one two : List Place) (x y : Place) (whole now rest : List places.Place) → now ≡ place_of x ∷ place_of y ∷ rest → one ≡ got ++ x ∷ [] → two ≡ one ++ y ∷ []
    → map place_of got ++ now ≡ whole → map place_of two ++ rest ≡ whole
two_step got one two x y whole now rest h e f g =
    ap (λ l. map place_of l ++ rest) (f ∙ ap (λ l. l ++ y ∷ []) e)
    ∙ ap (λ l. l ++ rest) (map_push place_of (got ++ x ∷ []) y ∙ ap (λ l. l ++ place_of y ∷ []) (map_push place_of got x))
    ∙ append_assoc (map place_of got ++ place_of x ∷ []) (place_of y ∷ []) rest ∙ append_assoc (map place_of got) (place_of x ∷ []) (place_of y ∷ rest)
    ∙ ap (λ l. map place_of got ++ l) (sym h) ∙ g

-- one mask more
pub mask_step : (got one two : List Place) (whole : List places.Place) (n i : ℕ) → i < n → one ≡ got ++ kernel.Mask i 0 ∷ [] → two ≡ one ++ kernel.Mask i 1 ∷ []
    → map place_of got ++ mask_places (n - i) i ≡ whole → map place_of two ++ mask_places (n - (i + 1)) (i + 1) ≡ whole
mask_step got one two whole n i h e f g = two_step got one two (kernel.Mask i 0) (kernel.Mask i 1) whole _ _ (mask_more n i h) e f g

array_more : (n i a : ℕ) → i < n
    → array_places (n - i) (a + i) ≡ places.Base (a + i) ∷ places.Count (a + i) ∷ array_places (n - (i + 1)) (a + (i + 1))
array_more n i a h =
    ap (λ m. array_places m (a + i)) (let less : n - i ≡ suc (n - (i + 1)) = omega arith in less)
    ∙ ap (λ k. places.Base (a + i) ∷ places.Count (a + i) ∷ array_places (n - (i + 1)) k) (let same : suc (a + i) ≡ a + (i + 1) = omega arith in same)

-- one array more
pub array_step : (got one two : List Place) (whole : List places.Place) (n i a b c : ℕ) → i < n → b ≡ a + i → c ≡ a + i → one ≡ got ++ kernel.Base b ∷ [] → two ≡ one ++ kernel.Count c ∷ []
    → map place_of got ++ array_places (n - i) (a + i) ≡ whole → map place_of two ++ array_places (n - (i + 1)) (a + (i + 1)) ≡ whole
array_step got one two whole n i a b c h p q e f g =
    two_step got one two (kernel.Base (a + i)) (kernel.Count (a + i)) whole _ _ (array_more n i a h) (e ∙ ap (λ k. got ++ kernel.Base k ∷ []) p) (f ∙ ap (λ k. one ++ kernel.Count k ∷ []) q) g

abbrev all_registers : List places.Place → (lanes parts passed scalars : ℕ) → List Elem → ℕ → List places.Place
all_registers a lanes n f k vs m = (((a ++ spares n) ++ row k (λ r. places.Scalar (f + r))) ++ vector_places lanes vs 0) ++ mask_places m 0

-- all registers
pub own_chain : (lanes : ℕ) (h : Routine) (a b c d e : List places.Place) (n f k : ℕ) (vs : List Elem) → n ≡ parts_for lanes wasm.I64x2
    → f ≡ length (param_elems class.Scalar h.params) → k ≡ length h.scalars → vs ≡ vectors_of h → b ≡ a ++ spares n → c ≡ b ++ row k (λ r. places.Scalar (f + r))
    → d ≡ c ++ vector_places lanes vs 0 → e ≡ d ++ mask_places h.masks 0 → e ≡ a ++ register_places lanes h
own_chain lanes h a b c d e n f k vs en ef ek ev eb ec ed ee =
    let whole : e ≡ all_registers a lanes n f k vs h.masks = cc in
    whole ∙ ap (λ m. all_registers a lanes m f k vs h.masks) en
    ∙ ap (λ m. all_registers a lanes (parts_for lanes wasm.I64x2) m k vs h.masks) ef
    ∙ ap (λ m. all_registers a lanes (parts_for lanes wasm.I64x2) (length (param_elems class.Scalar h.params)) m vs h.masks) ek
    ∙ ap (λ l. all_registers a lanes (parts_for lanes wasm.I64x2) (length (param_elems class.Scalar h.params)) (length h.scalars) l h.masks) ev
    ∙ joined a (spares (parts_for lanes wasm.I64x2)) (row (length h.scalars) (λ r. places.Scalar (length (param_elems class.Scalar h.params) + r))) (vector_places lanes (vectors_of h) 0)
    (mask_places h.masks 0)

-- how many calls wait, and then the arrays
pub last_chain : (h : Routine) (n a : ℕ) (got one two all : List Place) → n ≡ length h.locals → a ≡ length (param_elems class.Array h.params)
    → one ≡ got ++ kernel.Depth ∷ [] → two ≡ one ++ kernel.Top ∷ [] → map place_of all ≡ map place_of two ++ array_places n a
    → map place_of all ≡ map place_of got ++ last_places h
last_chain h n a got one two all en ea e f g =
    g ∙ two_step got one two kernel.Depth kernel.Top (map place_of got ++ (places.Depth ∷ places.Top ∷ array_places n a)) _ (array_places n a) refl e f refl
    ∙ ap (λ m. map place_of got ++ (places.Depth ∷ places.Top ∷ array_places m a)) en
    ∙ ap (λ m. map place_of got ++ (places.Depth ∷ places.Top ∷ array_places (length h.locals) m)) ea

pub own_is : (lanes : ℕ) (h : Routine) → register_places lanes h ++ last_places h ≡ own_places lanes h
own_is lanes h =
    regrouped (spares (parts_for lanes wasm.I64x2)) (row (length h.scalars) (λ r. places.Scalar (length (param_elems class.Scalar h.params) + r))) (vector_places lanes (vectors_of h) 0)
    (mask_places h.masks 0) (last_places h)
