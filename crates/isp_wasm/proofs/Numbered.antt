-- Where each place stands in the list of a function's places.
use Rattle.std.proofs.Common.{◌≡◌, ℕ, zero, suc, ◌+◌, ◌*◌, ◌<◌, ◌≤◌, List, [], ◌∷◌, ◌++◌, length, map, refl, ap, ◌∙◌, append_assoc, arith}
use Rattle.std.proofs.lemmas.List.{length-append}
use Rattle.std.specs.Prelude.{slice_index_or}
use Rattle.isp_base.specs.declared.types.Elem.{Elem}
use Rattle.isp_base.specs.declared.types.Elem.TheVariants.{Bool as Truth}
use Rattle.isp_code.specs.Listing.{Routine}
use Rattle.isp_code.specs.Registers.{class_of, same_class, if_class, param_elems, vectors_of}
use Rattle.isp_code.specs.declared.function.Param.{Param}
use Rattle.isp_code.specs.declared.function.ParamKind.{ParamKind}
use Rattle.isp_code.specs.declared.function.ParamKind.TheVariants as kind
use Rattle.isp_code.specs.declared.register.Class.TheVariants as class
use Rattle.isp_wasm_meaning.specs.Syntax as wasm
use Rattle.isp_wasm.specs.Places.{Place, Counter, Scalar, Vector, Mask, Base, Count, Fresh, Spare, Depth, Top, shape_of, parts_for}
use Rattle.isp_wasm.specs.Locals.{row, passing, params_from, param_places, vector_places, mask_places, array_places, own_places, name_of, position, local_in}
use Rattle.isp_wasm.specs.Numbering.{next_scalar, next_array, scalar_number, array_number, parts_before, own_from, scalars_from, vectors_from, masks_from, LocalsAreNumbered}
use Rattle.isp_wasm.proofs.Numbers.{here, further, name_apart}

-- where a place stands
abbrev pub Where : List Place → Place → ℕ
Where qs p = position (map name_of qs) (name_of p)

first_is : (p : Place) (qs : List Place) → Where (p ∷ qs) p ≡ 0
first_is p qs = here (name_of p) (map name_of qs)

next_is : (q p : Place) (qs : List Place) → (q ≡ p → ⊥) → Where (q ∷ qs) p ≡ suc (Where qs p)
next_is q p qs ne = further (name_of q) (name_of p) (map name_of qs) (λ e. ne (name_apart q p e))

-- a place that does not stand there
abbrev pub Lacks : List Place → Place → Type 0
Lacks [] p = Unit {0}
Lacks (q ∷ qs) p = (q ≡ p → ⊥) × Lacks qs p

lacks_both : (qs rs : List Place) (p : Place) → Lacks qs p → Lacks rs p → Lacks (qs ++ rs) p
lacks_both [] rs p h k = k
lacks_both (q ∷ qs) rs p h k = (h.0, lacks_both qs rs p h.1 k)

behind : (qs rs : List Place) (p : Place) → Lacks qs p → Where (qs ++ rs) p ≡ length qs + Where rs p
behind [] rs p h = let same : Where rs p ≡ 0 + Where rs p = omega arith in same
behind (q ∷ qs) rs p h = next_is q p (qs ++ rs) h.0 ∙ (let more = behind qs rs p h.1 in omega (arith, more))

-- ---- rows

row_lacks : (n : ℕ) (place : ℕ → Place) (p : Place) → ((j : ℕ) → j < n → place j ≡ p → ⊥) → Lacks (row n place) p
row_lacks zero place p h = tt
row_lacks (suc n) place p h = (h 0 (omega arith), row_lacks n (λ j. place (suc j)) p (λ j l. h (suc j) (omega (arith, l))))

row_long : (n : ℕ) (place : ℕ → Place) → length (row n place) ≡ n
row_long zero place = refl
row_long (suc n) place = ap suc (row_long n (λ j. place (suc j)))

in_row : (n : ℕ) (place : ℕ → Place) (rs : List Place) (j : ℕ) → ((i k : ℕ) → place i ≡ place k → i ≡ k) → j < n → Where (row n place ++ rs) (place j) ≡ j
in_row zero place rs j one h = absurd (omega (arith, h))
in_row (suc n) place rs zero one h = first_is (place 0) (row n (λ j. place (suc j)) ++ rs)
in_row (suc n) place rs (suc j) one h =
    next_is (place 0) (place (suc j)) (row n (λ j. place (suc j)) ++ rs) (λ e. (let same = one 0 (suc j) e in omega (arith, same)))
    ∙ ap suc (in_row n (λ j. place (suc j)) rs j (λ i k e. (let same = one (suc i) (suc k) e in omega (arith, same))) (omega (arith, h)))

-- ---- vectors and masks

vectors_lack : (lanes : ℕ) (ts : List Elem) (r : ℕ) (p : Place) → ((q j : ℕ) → Vector q j ≡ p → ⊥) → Lacks (vector_places lanes ts r) p
vectors_lack lanes [] r p h = tt
vectors_lack lanes (t ∷ ts) r p h = lacks_both (row (parts_for lanes (shape_of t)) (Vector r)) (vector_places lanes ts (suc r)) p (row_lacks (parts_for lanes (shape_of t)) (Vector r) p (λ j l. h r j)) (vectors_lack lanes ts (suc r) p h)

vectors_long : (lanes : ℕ) (ts : List Elem) (r : ℕ) → length (vector_places lanes ts r) ≡ parts_before lanes ts (length ts)
vectors_long lanes [] r = refl
vectors_long lanes (t ∷ ts) r =
    length-append (row (parts_for lanes (shape_of t)) (Vector r)) (vector_places lanes ts (suc r))
    ∙ (let one = row_long (parts_for lanes (shape_of t)) (Vector r) in let more = vectors_long lanes ts (suc r) in omega (arith, one, more))

vector_is : (lanes : ℕ) (ts : List Elem) (r i j : ℕ) (rs : List Place) → i < length ts → j < parts_for lanes (shape_of (slice_index_or ts i Truth))
    → Where (vector_places lanes ts r ++ rs) (Vector (r + i) j) ≡ parts_before lanes ts i + j
vector_is lanes [] r i j rs h l = absurd (omega (arith, h))
vector_is lanes (t ∷ ts) r zero j rs h l =
    ap (λ n. Where ((row (parts_for lanes (shape_of t)) (Vector r) ++ vector_places lanes ts (suc r)) ++ rs) (Vector n j)) (let same : r + 0 ≡ r = omega arith in same)
    ∙ ap (λ z. Where z (Vector r j)) (append_assoc (row (parts_for lanes (shape_of t)) (Vector r)) (vector_places lanes ts (suc r)) rs)
    ∙ in_row (parts_for lanes (shape_of t)) (Vector r) (vector_places lanes ts (suc r) ++ rs) j (λ i k e. cc) l ∙ (let same : j ≡ 0 + j = omega arith in same)
vector_is lanes (t ∷ ts) r (suc i) j rs h l =
    let n = parts_for lanes (shape_of t) in
    let one = row_long n (Vector r) in
    let more = vector_is lanes ts (suc r) i j rs (omega (arith, h)) l in
    ap (λ z. Where z (Vector (r + suc i) j)) (append_assoc (row n (Vector r)) (vector_places lanes ts (suc r)) rs)
    ∙ behind (row n (Vector r)) (vector_places lanes ts (suc r) ++ rs) (Vector (r + suc i) j) (row_lacks n (Vector r) (Vector (r + suc i) j) (λ k q e. (let same : r ≡ r + suc i = cc in omega (arith, same))))
    ∙ ap (λ x. length (row n (Vector r)) + x) (ap (λ m. Where (vector_places lanes ts (suc r) ++ rs) (Vector m j)) (let same : r + suc i ≡ suc r + i = omega arith in same) ∙ more)
    ∙ (let same : length (row n (Vector r)) + (parts_before lanes ts i + j) ≡ n + parts_before lanes ts i + j = omega (arith, one) in same)

masks_apart : (r : ℕ) → Mask r 0 ≡ Mask r 1 → ⊥
masks_apart r e = let i : ℕ = 0 in let j : ℕ = 1 in let same : i ≡ j = cc in omega (arith, same)

spares_apart : Spare wasm.I32 0 ≡ Spare wasm.I32 1 → ⊥
spares_apart e = let i : ℕ = 0 in let j : ℕ = 1 in let same : i ≡ j = cc in omega (arith, same)

mask_is : (n r i j : ℕ) (rs : List Place) → i < n → j < 2 → Where (mask_places n r ++ rs) (Mask (r + i) j) ≡ 2 * i + j
mask_is zero r i j rs h l = absurd (omega (arith, h))
mask_is (suc n) r zero zero rs h l =
    ap (λ m. Where (Mask r 0 ∷ Mask r 1 ∷ (mask_places n (suc r) ++ rs)) (Mask m 0)) (let same : r + 0 ≡ r = omega arith in same) ∙ first_is (Mask r 0) (Mask r 1 ∷ (mask_places n (suc r) ++ rs))
mask_is (suc n) r zero (suc zero) rs h l =
    ap (λ m. Where (Mask r 0 ∷ Mask r 1 ∷ (mask_places n (suc r) ++ rs)) (Mask m 1)) (let same : r + 0 ≡ r = omega arith in same)
    ∙ next_is (Mask r 0) (Mask r 1) (Mask r 1 ∷ (mask_places n (suc r) ++ rs)) (masks_apart r) ∙ ap suc (first_is (Mask r 1) (mask_places n (suc r) ++ rs))
mask_is (suc n) r zero (suc (suc j)) rs h l = absurd (omega (arith, l))
mask_is (suc n) r (suc i) j rs h l =
    let more = mask_is n (suc r) i j rs (omega (arith, h)) l in
    next_is (Mask r 0) (Mask (r + suc i) j) (Mask r 1 ∷ (mask_places n (suc r) ++ rs)) (λ e. (let same : r ≡ r + suc i = cc in omega (arith, same)))
    ∙ ap suc (next_is (Mask r 1) (Mask (r + suc i) j) (mask_places n (suc r) ++ rs) (λ e. (let same : r ≡ r + suc i = cc in omega (arith, same))))
    ∙ ap (λ m. suc (suc (Where (mask_places n (suc r) ++ rs) (Mask m j)))) (let same : r + suc i ≡ suc r + i = omega arith in same) ∙ (let same : suc (suc (Where (mask_places n (suc r) ++ rs) (Mask (suc r + i) j))) ≡ 2 * suc i + j = omega (arith, more) in same)

masks_lack : (n r : ℕ) (p : Place) → ((q j : ℕ) → Mask q j ≡ p → ⊥) → Lacks (mask_places n r) p
masks_lack zero r p h = tt
masks_lack (suc n) r p h = (h r 0, (h r 1, masks_lack n (suc r) p h))

masks_long : (n r : ℕ) → length (mask_places n r) ≡ 2 * n
masks_long zero r = refl
masks_long (suc n) r = let more = masks_long n (suc r) in omega (arith, more)

-- ---- parameters

-- no parameter's place is this one
abbrev pub IsOwn : (r a : ℕ) → Place → Type 0
IsOwn r a (Scalar q) = r ≤ q
IsOwn r a (Base q) = ⊥
IsOwn r a (Count q) = ⊥
IsOwn r a p = Unit {0}

one_lacks : (k : ParamKind) (t : Elem) (ts : List Elem) (more : ℕ → ℕ → List Place) (r a : ℕ) (p : Place)
    → ((r a : ℕ) → IsOwn (r + length ts) a p → Lacks (more r a) p) → IsOwn (r + length (if_class (same_class (class_of k) class.Scalar) t ts)) a p → Lacks (passing k more r a) p
one_lacks kind.Vector t ts more r a p all own = all r a own
one_lacks kind.Array t ts more r a (Scalar q) all own = (λ e. cc, (λ e. cc, all r (suc a) own))
one_lacks kind.Array t ts more r a (Base q) all own = absurd own
one_lacks kind.Array t ts more r a (Count q) all own = absurd own
one_lacks kind.Array t ts more r a Counter all own = (λ e. cc, (λ e. cc, all r (suc a) tt))
one_lacks kind.Array t ts more r a (Vector q j) all own = (λ e. cc, (λ e. cc, all r (suc a) tt))
one_lacks kind.Array t ts more r a (Mask q j) all own = (λ e. cc, (λ e. cc, all r (suc a) tt))
one_lacks kind.Array t ts more r a (Fresh j) all own = (λ e. cc, (λ e. cc, all r (suc a) tt))
one_lacks kind.Array t ts more r a (Spare s j) all own = (λ e. cc, (λ e. cc, all r (suc a) tt))
one_lacks kind.Array t ts more r a Depth all own = (λ e. cc, (λ e. cc, all r (suc a) tt))
one_lacks kind.Array t ts more r a Top all own = (λ e. cc, (λ e. cc, all r (suc a) tt))
one_lacks kind.Scalar t ts more r a (Scalar q) all own = (λ e. (let same : r ≡ q = cc in omega (arith, own, same)), all (suc r) a (omega (arith, own)))
one_lacks kind.Scalar t ts more r a (Base q) all own = absurd own
one_lacks kind.Scalar t ts more r a (Count q) all own = absurd own
one_lacks kind.Scalar t ts more r a Counter all own = (λ e. cc, all (suc r) a tt)
one_lacks kind.Scalar t ts more r a (Vector q j) all own = (λ e. cc, all (suc r) a tt)
one_lacks kind.Scalar t ts more r a (Mask q j) all own = (λ e. cc, all (suc r) a tt)
one_lacks kind.Scalar t ts more r a (Fresh j) all own = (λ e. cc, all (suc r) a tt)
one_lacks kind.Scalar t ts more r a (Spare s j) all own = (λ e. cc, all (suc r) a tt)
one_lacks kind.Scalar t ts more r a Depth all own = (λ e. cc, all (suc r) a tt)
one_lacks kind.Scalar t ts more r a Top all own = (λ e. cc, all (suc r) a tt)

params_lack : (ps : List Param) (r a : ℕ) (p : Place) → IsOwn (r + length (param_elems class.Scalar ps)) a p → Lacks (params_from ps r a) p
params_lack [] r a p own = tt
params_lack (q ∷ ps) r a p own = one_lacks q.kind q.elem (param_elems class.Scalar ps) (params_from ps) r a p (λ r a. params_lack ps r a p) own

scalar_once : (k : ParamKind) (t : Elem) (ts : List Elem) (more : ℕ → ℕ → List Place) (number : ℕ → ℕ) (r a i : ℕ) (rs : List Place)
    → ((r a i : ℕ) → i < length ts → Where (more r a ++ rs) (Scalar (r + i)) ≡ number i) → i < length (if_class (same_class (class_of k) class.Scalar) t ts)
    → Where (passing k more r a ++ rs) (Scalar (r + i)) ≡ next_scalar k number i
scalar_once kind.Vector t ts more number r a i rs all h = all r a i h ∙ (let same : number i ≡ 0 + number i = omega arith in same)
scalar_once kind.Array t ts more number r a i rs all h =
    next_is (Base a) (Scalar (r + i)) (Count a ∷ (more r (suc a) ++ rs)) (λ e. cc) ∙ ap suc (next_is (Count a) (Scalar (r + i)) (more r (suc a) ++ rs) (λ e. cc))
    ∙ (let more_is = all r (suc a) i h in let same : suc (suc (Where (more r (suc a) ++ rs) (Scalar (r + i)))) ≡ 2 + number i = omega (arith, more_is) in same)
scalar_once kind.Scalar t ts more number r a zero rs all h =
    ap (λ n. Where (Scalar r ∷ (more (suc r) a ++ rs)) (Scalar n)) (let same : r + 0 ≡ r = omega arith in same) ∙ first_is (Scalar r) (more (suc r) a ++ rs)
scalar_once kind.Scalar t ts more number r a (suc i) rs all h =
    next_is (Scalar r) (Scalar (r + suc i)) (more (suc r) a ++ rs) (λ e. (let same : r ≡ r + suc i = cc in omega (arith, same)))
    ∙ ap (λ n. suc (Where (more (suc r) a ++ rs) (Scalar n))) (let same : r + suc i ≡ suc r + i = omega arith in same)
    ∙ (let more_is = all (suc r) a i (omega (arith, h)) in let same : suc (Where (more (suc r) a ++ rs) (Scalar (suc r + i))) ≡ 1 + number i = omega (arith, more_is) in same)

scalar_is : (ps : List Param) (r a i : ℕ) (rs : List Place) → i < length (param_elems class.Scalar ps) → Where (params_from ps r a ++ rs) (Scalar (r + i)) ≡ scalar_number ps i
scalar_is [] r a i rs h = absurd (omega (arith, h))
scalar_is (p ∷ ps) r a i rs h = scalar_once p.kind p.elem (param_elems class.Scalar ps) (params_from ps) (scalar_number ps) r a i rs (λ r a i. scalar_is ps r a i rs) h

array_once : (k : ParamKind) (t : Elem) (ts : List Elem) (more : ℕ → ℕ → List Place) (number : ℕ → ℕ) (r a i : ℕ) (rs : List Place)
    → ((r a i : ℕ) → i < length ts → (Where (more r a ++ rs) (Base (a + i)) ≡ number i) × (Where (more r a ++ rs) (Count (a + i)) ≡ number i + 1)) → i < length (if_class (same_class (class_of k) class.Array) t ts)
    → (Where (passing k more r a ++ rs) (Base (a + i)) ≡ next_array k number i) × (Where (passing k more r a ++ rs) (Count (a + i)) ≡ next_array k number i + 1)
array_once kind.Vector t ts more number r a i rs all h = let both = all r a i h in let b = both.0 in let c = both.1 in (omega (arith, b), omega (arith, c))
array_once kind.Scalar t ts more number r a i rs all h =
    let both = all (suc r) a i h in
    let b = both.0 in
    let c = both.1 in
    let p = next_is (Scalar r) (Base (a + i)) (more (suc r) a ++ rs) (λ e. cc) in
    let q = next_is (Scalar r) (Count (a + i)) (more (suc r) a ++ rs) (λ e. cc) in (omega (arith, b, p), omega (arith, c, q))
array_once kind.Array t ts more number r a zero rs all h =
    let same : a + 0 ≡ a = omega arith in (
      ap (λ n. Where (Base a ∷ Count a ∷ (more r (suc a) ++ rs)) (Base n)) same ∙ first_is (Base a) (Count a ∷ (more r (suc a) ++ rs)),
      ap (λ n. Where (Base a ∷ Count a ∷ (more r (suc a) ++ rs)) (Count n)) same ∙ next_is (Base a) (Count a) (Count a ∷ (more r (suc a) ++ rs)) (λ e. cc) ∙ ap suc (first_is (Count a) (more r (suc a) ++ rs)),
    )
array_once kind.Array t ts more number r a (suc i) rs all h =
    let same : a + suc i ≡ suc a + i = omega arith in
    let both = all r (suc a) i (omega (arith, h)) in
    let b = both.0 in
    let c = both.1 in
    let p = next_is (Base a) (Base (a + suc i)) (Count a ∷ (more r (suc a) ++ rs)) (λ e. (let other : a ≡ a + suc i = cc in omega (arith, other))) in
    let q = next_is (Count a) (Base (a + suc i)) (more r (suc a) ++ rs) (λ e. cc) in
    let u = next_is (Base a) (Count (a + suc i)) (Count a ∷ (more r (suc a) ++ rs)) (λ e. cc) in
    let v = next_is (Count a) (Count (a + suc i)) (more r (suc a) ++ rs) (λ e. (let other : a ≡ a + suc i = cc in omega (arith, other))) in
    let b1 : Where (more r (suc a) ++ rs) (Base (a + suc i)) ≡ number i = ap (λ n. Where (more r (suc a) ++ rs) (Base n)) same ∙ b in
    let c1 : Where (more r (suc a) ++ rs) (Count (a + suc i)) ≡ number i + 1 = ap (λ n. Where (more r (suc a) ++ rs) (Count n)) same ∙ c in (omega (arith, p, q, b1), omega (arith, u, v, c1))

array_is : (ps : List Param) (r a i : ℕ) (rs : List Place) → i < length (param_elems class.Array ps) → (Where (params_from ps r a ++ rs) (Base (a + i)) ≡ array_number ps i) × (Where (params_from ps r a ++ rs) (Count (a + i)) ≡ array_number ps i + 1)
array_is [] r a i rs h = absurd (omega (arith, h))
array_is (p ∷ ps) r a i rs h = array_once p.kind p.elem (param_elems class.Array ps) (params_from ps) (array_number ps) r a i rs (λ r a i. array_is ps r a i rs) h

-- ---- all

module _ (lanes : ℕ) (h : Routine) where
  -- what stands after the four first, and what after the fresh parts, the scalars and the vectors
  fresh_row : List Place
  fresh_row = row (parts_for lanes wasm.I64x2) Fresh

  scalar_row : List Place
  scalar_row = row (length h.scalars) (λ r. Scalar (length (param_elems class.Scalar h.params) + r))

  vector_row : List Place
  vector_row = vector_places lanes (vectors_of h) 0

  arrays_row : List Place
  arrays_row = array_places (length h.locals) (length (param_elems class.Array h.params))

  own_last : List Place
  own_last = Depth ∷ Top ∷ arrays_row

  mask_row : List Place
  mask_row = mask_places h.masks 0 ++ own_last

  past_params : (p : Place) → IsOwn (0 + length (param_elems class.Scalar h.params)) 0 p → local_in lanes h p ≡ own_from lanes h + Where (own_places lanes h) p
  past_params p own = behind (param_places h) (own_places lanes h) p (params_lack h.params 0 0 p own)

  past_four : (p : Place) → IsOwn (0 + length (param_elems class.Scalar h.params)) 0 p → (Counter ≡ p → ⊥) → ((t : wasm.Size) (j : ℕ) → Spare t j ≡ p → ⊥)
      → local_in lanes h p ≡ own_from lanes h + 4 + Where (fresh_row ++ (scalar_row ++ (vector_row ++ mask_row))) p
  unfolding fresh_row scalar_row vector_row mask_row own_last arrays_row
  past_four p own c s =
      past_params p own
      ∙ (let four = behind (Counter ∷ Spare wasm.I32 0 ∷ Spare wasm.I32 1 ∷ Spare wasm.I64 0 ∷ []) (fresh_row ++ (scalar_row ++ (vector_row ++ mask_row))) p (c, (s wasm.I32 0, (s wasm.I32 1, (s wasm.I64 0, tt)))) in omega (arith, four))

  past_fresh : (p : Place) → ((j : ℕ) → Fresh j ≡ p → ⊥) → Where (fresh_row ++ (scalar_row ++ (vector_row ++ mask_row))) p ≡ parts_for lanes wasm.I64x2 + Where (scalar_row ++ (vector_row ++ mask_row)) p
  unfolding fresh_row
  past_fresh p f = behind fresh_row (scalar_row ++ (vector_row ++ mask_row)) p (row_lacks (parts_for lanes wasm.I64x2) Fresh p (λ j l. f j)) ∙ ap (λ n. n + Where (scalar_row ++ (vector_row ++ mask_row)) p) (row_long (parts_for lanes wasm.I64x2) Fresh)

  past_scalars : (p : Place) → ((r : ℕ) → Scalar r ≡ p → ⊥) → Where (scalar_row ++ (vector_row ++ mask_row)) p ≡ length h.scalars + Where (vector_row ++ mask_row) p
  unfolding scalar_row
  past_scalars p f =
      behind scalar_row (vector_row ++ mask_row) p (row_lacks (length h.scalars) (λ r. Scalar (length (param_elems class.Scalar h.params) + r)) p (λ j l. f (length (param_elems class.Scalar h.params) + j)))
      ∙ ap (λ n. n + Where (vector_row ++ mask_row) p) (row_long (length h.scalars) (λ r. Scalar (length (param_elems class.Scalar h.params) + r)))

  past_vectors : (p : Place) → ((r j : ℕ) → Vector r j ≡ p → ⊥) → Where (vector_row ++ mask_row) p ≡ parts_before lanes (vectors_of h) (length (vectors_of h)) + Where mask_row p
  unfolding vector_row
  past_vectors p f = behind vector_row mask_row p (vectors_lack lanes (vectors_of h) 0 p f) ∙ ap (λ n. n + Where mask_row p) (vectors_long lanes (vectors_of h) 0)

  fresh_at : (j : ℕ) → j < parts_for lanes wasm.I64x2 → local_in lanes h (Fresh j) ≡ own_from lanes h + 4 + j
  unfolding fresh_row
  fresh_at j l =
      let four = past_four (Fresh j) tt (λ e. cc) (λ t i e. cc) in
      let at = in_row (parts_for lanes wasm.I64x2) Fresh (scalar_row ++ (vector_row ++ mask_row)) j (λ i k e. cc) l in omega (arith, four, at)

  scalar_at : (r : ℕ) → r < length h.scalars → local_in lanes h (Scalar (length (param_elems class.Scalar h.params) + r)) ≡ scalars_from lanes h + r
  unfolding scalar_row
  scalar_at r l =
      let p = Scalar (length (param_elems class.Scalar h.params) + r) in
      let four = past_four p (omega arith) (λ e. cc) (λ t i e. cc) in
      let fresh = past_fresh p (λ j e. cc) in
      let at = in_row (length h.scalars) (λ r. Scalar (length (param_elems class.Scalar h.params) + r)) (vector_row ++ mask_row) r
      (λ i k e. (let same : length (param_elems class.Scalar h.params) + i ≡ length (param_elems class.Scalar h.params) + k = cc in omega (arith, same))) l in omega (arith, four, fresh, at)

  vector_at : (r j : ℕ) → r < length (vectors_of h) → j < parts_for lanes (shape_of (slice_index_or (vectors_of h) r Truth)) → local_in lanes h (Vector r j) ≡ vectors_from lanes h + parts_before lanes (vectors_of h) r + j
  unfolding vector_row
  vector_at r j l m =
      let p = Vector r j in
      let four = past_four p tt (λ e. cc) (λ t i e. cc) in
      let fresh = past_fresh p (λ j e. cc) in
      let scalars = past_scalars p (λ r e. cc) in
      let at : Where (vector_row ++ mask_row) p ≡ parts_before lanes (vectors_of h) r + j =
      ap (λ n. Where (vector_row ++ mask_row) (Vector n j)) (let same : r ≡ 0 + r = omega arith in same) ∙ vector_is lanes (vectors_of h) 0 r j mask_row l m in omega (arith, four, fresh, scalars, at)

  mask_at : (r j : ℕ) → r < h.masks → j < 2 → local_in lanes h (Mask r j) ≡ masks_from lanes h + 2 * r + j
  unfolding mask_row
  mask_at r j l m =
      let p = Mask r j in
      let four = past_four p tt (λ e. cc) (λ t i e. cc) in
      let fresh = past_fresh p (λ j e. cc) in
      let scalars = past_scalars p (λ r e. cc) in
      let vectors = past_vectors p (λ r j e. cc) in
      let at : Where mask_row p ≡ 2 * r + j = ap (λ n. Where mask_row (Mask n j)) (let same : r ≡ 0 + r = omega arith in same) ∙ mask_is h.masks 0 r j own_last l m in omega (arith, four, fresh, scalars, vectors, at)

  depth_at : local_in lanes h Depth ≡ masks_from lanes h + 2 * h.masks
  unfolding mask_row own_last arrays_row
  depth_at =
      let four = past_four Depth tt (λ e. cc) (λ t i e. cc) in
      let fresh = past_fresh Depth (λ j e. cc) in
      let scalars = past_scalars Depth (λ r e. cc) in
      let vectors = past_vectors Depth (λ r j e. cc) in
      let at = behind (mask_places h.masks 0) own_last Depth (masks_lack h.masks 0 Depth (λ q j e. cc)) in
      let long = masks_long h.masks 0 in
      let last = first_is Depth (Top ∷ arrays_row) in omega (arith, four, fresh, scalars, vectors, at, long, last)

  top_at : local_in lanes h Top ≡ masks_from lanes h + 2 * h.masks + 1
  unfolding mask_row own_last arrays_row
  top_at =
      let four = past_four Top tt (λ e. cc) (λ t i e. cc) in
      let fresh = past_fresh Top (λ j e. cc) in
      let scalars = past_scalars Top (λ r e. cc) in
      let vectors = past_vectors Top (λ r j e. cc) in
      let at = behind (mask_places h.masks 0) own_last Top (masks_lack h.masks 0 Top (λ q j e. cc)) in
      let long = masks_long h.masks 0 in
      let next = next_is Depth Top (Top ∷ arrays_row) (λ e. cc) in
      let last = first_is Top arrays_row in omega (arith, four, fresh, scalars, vectors, at, long, next, last)

  param_at : (r : ℕ) → r < length (param_elems class.Scalar h.params) → local_in lanes h (Scalar r) ≡ scalar_number h.params r
  param_at r l = ap (λ n. local_in lanes h (Scalar n)) (let same : r ≡ 0 + r = omega arith in same) ∙ scalar_is h.params 0 0 r (own_places lanes h) l

  array_at : (a : ℕ) → a < length (param_elems class.Array h.params) → (local_in lanes h (Base a) ≡ array_number h.params a) × (local_in lanes h (Count a) ≡ array_number h.params a + 1)
  array_at a l =
      let both = array_is h.params 0 0 a (own_places lanes h) l in
      let same : a ≡ 0 + a = omega arith in (ap (λ n. local_in lanes h (Base n)) same ∙ both.0, ap (λ n. local_in lanes h (Count n)) same ∙ both.1)

pub locals_are_numbered : LocalsAreNumbered
locals_are_numbered lanes h =
    record {
      params = param_at lanes h;
      bases = λ a l. (array_at lanes h a l).0;
      counts = λ a l. (array_at lanes h a l).1;
      counter = (let at = past_params lanes h Counter tt in let is = first_is Counter (own_rest lanes h) in omega (arith, at, is));
      spare = (let at = past_params lanes h (Spare wasm.I32 0) tt in
          let a = next_is Counter (Spare wasm.I32 0) (own_rest lanes h) (λ e. cc) in
          let b = first_is (Spare wasm.I32 0) (Spare wasm.I32 1 ∷ Spare wasm.I64 0 ∷ own_behind lanes h) in omega (arith, at, a, b));
      seen = (let at = past_params lanes h (Spare wasm.I32 1) tt in
          let a = next_is Counter (Spare wasm.I32 1) (own_rest lanes h) (λ e. cc) in
          let b = next_is (Spare wasm.I32 0) (Spare wasm.I32 1) (Spare wasm.I32 1 ∷ Spare wasm.I64 0 ∷ own_behind lanes h) spares_apart in
          let c = first_is (Spare wasm.I32 1) (Spare wasm.I64 0 ∷ own_behind lanes h) in omega (arith, at, a, b, c));
      long_spare = (let at = past_params lanes h (Spare wasm.I64 0) tt in
          let a = next_is Counter (Spare wasm.I64 0) (own_rest lanes h) (λ e. cc) in
          let b = next_is (Spare wasm.I32 0) (Spare wasm.I64 0) (Spare wasm.I32 1 ∷ Spare wasm.I64 0 ∷ own_behind lanes h) (λ e. cc) in
          let c = next_is (Spare wasm.I32 1) (Spare wasm.I64 0) (Spare wasm.I64 0 ∷ own_behind lanes h) (λ e. cc) in
          let d = first_is (Spare wasm.I64 0) (own_behind lanes h) in omega (arith, at, a, b, c, d));
      fresh = fresh_at lanes h;
      scalars = scalar_at lanes h;
      vectors = vector_at lanes h;
      masks = mask_at lanes h;
      depth = depth_at lanes h;
      top = top_at lanes h;
    }
  where
    own_behind : (lanes : ℕ) (h : Routine) → List Place
    own_behind lanes h = fresh_row lanes h ++ (scalar_row lanes h ++ (vector_row lanes h ++ mask_row lanes h))

    own_rest : (lanes : ℕ) (h : Routine) → List Place
    own_rest lanes h = Spare wasm.I32 0 ∷ Spare wasm.I32 1 ∷ Spare wasm.I64 0 ∷ own_behind lanes h
