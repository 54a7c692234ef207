-- The arrays of a call are what its variables are; so are those of an entry.
use Rattle.std.proofs.Common.{◌≡◌, ℕ, zero, suc, ◌+◌, ◌<◌, ◌≤◌, ◌^◌, List, [], ◌∷◌, length, take, Some, None, Bool, true, false, refl, sym, ap, ◌∙◌, subst, arith}
use Rattle.std.proofs.lemmas.Option.{same_Some}
use Rattle.std.specs.Prelude.{slice_get, slice_index, nat_lt, ◌-◌, ◌&&◌, if◌then◌else◌}
use Rattle.std.proofs.lemmas.Bool.{lt-ltb, le-ltb, lt-leb, le-leb, cond-true, cond-false}
use Rattle.std.specs.List.{AllByRecursion}
use Rattle.std.proofs.lemmas.List.Elements.{recursion_from_All}
use Rattle.isp_base.specs.Arguments.{rows, row_bits, IsShort, AreShort}
use Rattle.isp_base.specs.Binding.{is_for, has_signature}
use Rattle.isp_base.specs.declared.signature.Argument.{Argument}
use Rattle.isp_base.specs.declared.signature.Argument.TheVariants.{Value as AValue, Array as AnArray}
use Rattle.isp_base.specs.declared.signature.Parameter.{Parameter}
use Rattle.isp_base.specs.declared.types.Elem.{Elem}
use Rattle.isp_base.specs.declared.types.Rate.{Rate}
use Rattle.isp_base.specs.declared.types.Rate.TheVariants.{Uniform, Varying}
use Rattle.isp_base.specs.declared.types.Ty.{Ty}
use Rattle.isp_code.specs.Calls as code
use Rattle.isp_code.specs.Conf as machine
use Rattle.isp_code.specs.Lines.{local_size}
use Rattle.isp_code.specs.Listing.{Listing, Routine}
use Rattle.isp_code.specs.Registers.{is_per_instance, is_own, is_per_lane, passed}
use Rattle.isp_code.specs.declared.function.Local.{Local}
use Rattle.isp_meaning.specs.Calls as meaning
use Rattle.isp_meaning.specs.Expressions.{Passed, Store}
use Rattle.isp_meaning.specs.Runs.{handed, first_frame}
use Rattle.isp_meaning.specs.State.{Frame, extent_at}
use Rattle.isp_typed.specs.Fine.{array_type, HoldsArray}
use Rattle.isp_typed.specs.Typed.{ty_of, Program, TFunction}
use Rattle.isp_typed.specs.declared.variable.ArrayVariable.{ArrayVariable}
use Rattle.isp_lower_code.specs.Layout.{Layout, array_register}
use Rattle.isp_lower_code.specs.Setting.{ArrayFitsAt, ArrayFits, Setting}
use Rattle.isp_masks_code.specs.Compiled.{call_setting, entry_setting}
use Rattle.isp_typed.specs.declared.variable.Holds.{Holds}
use Rattle.isp_typed.specs.declared.variable.Holds.TheVariants as holds
use Rattle.isp_typed.specs.declared.variable.Variable.{Variable}
use Rattle.isp_lower_code.specs.Header.{sharing_of, local_of, local_then, locals_of}
use Rattle.isp_masks_code.specs.Arrays.{array_then, array_count, count_then, local_count, ArraysStand}
use Rattle.isp_masks_code.proofs.Begins.{not_so, handed_none}
use Rattle.isp_masks_code.proofs.Unions.{both_so}

-- which is one of them
size_below : (vs : List Variable) (v : ℕ) (x : Variable) (t : Ty) (n : ℕ) → slice_get vs v ≡ Some x → x.holds ≡ holds.Local t n → t.rate ≡ Uniform → length (meaning.shared_sizes (take v vs)) < length (meaning.shared_sizes vs)
size_below [] v x t n e k r = absurd (cc)
size_below (y ∷ vs) zero x t n e k r =
    subst (λ z. 0 < length (meaning.size_of z (meaning.shared_sizes vs))) (sym (ap (λ z. z.holds) (same_Some y x e) ∙ k)) (subst (λ z. 0 < length (meaning.size_at z n (meaning.shared_sizes vs))) (sym r) (omega arith))
size_below (y ∷ vs) (suc v) x t n e k r = go y.holds (size_below vs v x t n e k r)
  where
    go : (z : Holds) → length (meaning.shared_sizes (take v vs)) < length (meaning.shared_sizes vs) → length (meaning.size_of z (meaning.shared_sizes (take v vs))) < length (meaning.size_of z (meaning.shared_sizes vs))
    go (holds.Value u) ih = ih
    go (holds.Given u) ih = ih
    go (holds.Local u m) ih = at u.rate
      where
        at : (q : Rate) → length (meaning.size_at q m (meaning.shared_sizes (take v vs))) < length (meaning.size_at q m (meaning.shared_sizes vs))
        at Uniform = omega (arith, ih)
        at Varying = ih

apart_rates : Uniform ≡ Varying → ⊥
apart_rates e = cc

-- ---- arrays that are handed over

rows_few : (xs : List Argument) → AllByRecursion IsShort xs → (b : ℕ) → length (row_bits (rows xs) b) ≤ 2 ^ 63
rows_few [] h b = omega arith
rows_few (AValue v ∷ xs) h b = rows_few xs h.1 b
rows_few (AnArray a ∷ xs) h zero = omega (arith, h.0)
rows_few (AnArray a ∷ xs) h (suc b) = rows_few xs h.1 b

-- ---- local arrays

shared_is : (vs : List Variable) → code.shared_sizes (locals_of vs) ≡ meaning.shared_sizes vs
shared_is [] = refl
shared_is (v ∷ vs) = go v.holds (shared_is vs)
  where
    go : (x : Holds) → code.shared_sizes (locals_of vs) ≡ meaning.shared_sizes vs → code.shared_sizes (local_then x (locals_of vs)) ≡ meaning.size_of x (meaning.shared_sizes vs)
    go (holds.Value t) e = e
    go (holds.Given t) e = e
    go (holds.Local t n) e = at t.rate
      where
        at : (r : Rate) → code.if_shared (is_per_instance (sharing_of r)) n (code.shared_sizes (locals_of vs)) ≡ meaning.size_at r n (meaning.shared_sizes vs)
        at Uniform = ap (λ z. n ∷ z) e
        at Varying = e

take_locals : (vs : List Variable) (v : ℕ) → take (local_count (take v vs)) (locals_of vs) ≡ locals_of (take v vs)
take_locals [] zero = refl
take_locals [] (suc v) = refl
take_locals (x ∷ vs) zero = go (local_then x.holds (locals_of vs))
  where
    go : (ls : List Local) → take 0 ls ≡ []
    go [] = refl
    go (l ∷ ls) = refl
take_locals (x ∷ vs) (suc v) = go x.holds (take_locals vs v)
  where
    go : (y : Holds) → take (local_count (take v vs)) (locals_of vs) ≡ locals_of (take v vs) → take (count_then y (local_count (take v vs))) (local_then y (locals_of vs)) ≡ local_then y (locals_of (take v vs))
    go (holds.Value t) e = e
    go (holds.Given t) e = e
    go (holds.Local t n) e = ap (λ z. local_of t n ∷ z) e

pub local_at : (vs : List Variable) (v : ℕ) (x : Variable) (t : Ty) (n : ℕ) → slice_get vs v ≡ Some x → x.holds ≡ holds.Local t n → slice_get (locals_of vs) (local_count (take v vs)) ≡ Some (local_of t n)
local_at [] v x t n e k = absurd (cc)
local_at (y ∷ vs) zero x t n e k = ap (λ z. slice_get (local_then z (locals_of vs)) 0) (ap (λ z. z.holds) (same_Some y x e) ∙ k)
local_at (y ∷ vs) (suc v) x t n e k = go y.holds (local_at vs v x t n e k)
  where
    go : (z : Holds) → slice_get (locals_of vs) (local_count (take v vs)) ≡ Some (local_of t n) → slice_get (local_then z (locals_of vs)) (count_then z (local_count (take v vs))) ≡ Some (local_of t n)
    go (holds.Value u) ih = ih
    go (holds.Given u) ih = ih
    go (holds.Local u m) ih = ih

-- the size of a shared one, by how many shared ones stand before it
size_is : (vs : List Variable) (v : ℕ) (x : Variable) (t : Ty) (n : ℕ) → slice_get vs v ≡ Some x → x.holds ≡ holds.Local t n → t.rate ≡ Uniform → slice_index (meaning.shared_sizes vs) (length (meaning.shared_sizes (take v vs))) ≡ n
size_is [] v x t n e k r = absurd (cc)
size_is (y ∷ vs) zero x t n e k r = ap (λ z. slice_index (meaning.size_of z (meaning.shared_sizes vs)) 0) (ap (λ z. z.holds) (same_Some y x e) ∙ k) ∙ ap (λ z. slice_index (meaning.size_at z n (meaning.shared_sizes vs)) 0) r
size_is (y ∷ vs) (suc v) x t n e k r = go y.holds (size_is vs v x t n e k r)
  where
    go : (z : Holds) → slice_index (meaning.shared_sizes vs) (length (meaning.shared_sizes (take v vs))) ≡ n → slice_index (meaning.size_of z (meaning.shared_sizes vs)) (length (meaning.size_of z (meaning.shared_sizes (take v vs)))) ≡ n
    go (holds.Value u) ih = ih
    go (holds.Given u) ih = ih
    go (holds.Local u m) ih = at u.rate
      where
        at : (q : Rate) → slice_index (meaning.size_at q m (meaning.shared_sizes vs)) (length (meaning.size_at q m (meaning.shared_sizes (take v vs)))) ≡ n
        at Uniform = ih
        at Varying = ih

-- ---- arrays that are handed over

-- the store, by how many arrays stand before it, and its size
store_is : (ps : List Parameter) (xs : List Argument) (b v : ℕ) (p : Parameter) → has_signature ps xs ≡ true → slice_get ps v ≡ Some p → p.is_array ≡ true → slice_get (handed b xs) v ≡ Some (Store (b + array_count (take v ps)))
store_is [] [] b v p e n k = absurd (cc)
store_is [] (x ∷ xs) b v p e n k = absurd (cc)
store_is (p1 ∷ ps) [] b v p e n k = absurd (cc)
store_is (p1 ∷ ps) (AValue y ∷ xs) b zero p e n k =
    let h = both_so (is_for p1 (AValue y)) (has_signature ps xs) e in
    let kind : p1.is_array ≡ false = not_so p1.is_array (both_so _ _ h.0).0 in
    let no : true ≡ false = sym k ∙ ap (λ z. z.is_array) (sym (same_Some p1 p n)) ∙ kind in
    absurd (cc)
store_is (p1 ∷ ps) (AnArray y ∷ xs) b zero p e n k = let b0 : b ≡ b + 0 = omega arith in ap (λ z. Some (Store z)) b0
store_is (p1 ∷ ps) (AValue y ∷ xs) b (suc v) p e n k =
    let h = both_so (is_for p1 (AValue y)) (has_signature ps xs) e in
    let kind : p1.is_array ≡ false = not_so p1.is_array (both_so _ _ h.0).0 in
    store_is ps xs b v p h.1 n k ∙ ap (λ z. Some (Store (b + array_then z (array_count (take v ps))))) (sym kind)
store_is (p1 ∷ ps) (AnArray y ∷ xs) b (suc v) p e n k =
    let h = both_so (is_for p1 (AnArray y)) (has_signature ps xs) e in
    let kind : p1.is_array ≡ true = (both_so p1.is_array _ h.0).0 in
    let moved : suc b + array_count (take v ps) ≡ b + suc (array_count (take v ps)) = omega arith in
    store_is ps xs (suc b) v p h.1 n k ∙ ap (λ z. Some (Store z)) moved ∙ ap (λ z. Some (Store (b + array_then z (array_count (take v ps))))) (sym kind)

-- there are as many arrays as the parameters say, and each is one of them
array_below : (ps : List Parameter) (v : ℕ) (p : Parameter) → slice_get ps v ≡ Some p → p.is_array ≡ true → array_count (take v ps) < array_count ps
array_below [] v p e k = absurd (cc)
array_below (p1 ∷ ps) zero p e k =
    let kind : p1.is_array ≡ true = ap (λ z. z.is_array) (same_Some p1 p e) ∙ k in
    let n : array_then p1.is_array (array_count ps) ≡ suc (array_count ps) = ap (λ z. array_then z (array_count ps)) kind in
    omega (arith, n)
array_below (p1 ∷ ps) (suc v) p e k = go p1.is_array (array_below ps v p e k)
  where
    go : (z : Bool) → array_count (take v ps) < array_count ps → array_then z (array_count (take v ps)) < array_then z (array_count ps)
    go true lt = omega arith
    go false lt = lt

rows_count : (ps : List Parameter) (xs : List Argument) → has_signature ps xs ≡ true → length (rows xs) ≡ array_count ps
rows_count [] [] e = refl
rows_count [] (x ∷ xs) e = absurd (cc)
rows_count (p ∷ ps) [] e = absurd (cc)
rows_count (p ∷ ps) (AValue y ∷ xs) e =
    let h = both_so (is_for p (AValue y)) (has_signature ps xs) e in
    let kind : p.is_array ≡ false = not_so p.is_array (both_so _ _ h.0).0 in
    rows_count ps xs h.1 ∙ ap (λ b. array_then b (array_count ps)) (sym kind)
rows_count (p ∷ ps) (AnArray y ∷ xs) e =
    let h = both_so (is_for p (AnArray y)) (has_signature ps xs) e in
    let kind : p.is_array ≡ true = (both_so p.is_array _ h.0).0 in
    ap suc (rows_count ps xs h.1) ∙ ap (λ b. array_then b (array_count ps)) (sym kind)

-- ---- arrays of a call

-- an array that is handed over is the store that was passed, which is open and not too large
pub record Given (h : TFunction) (names : ℕ → ℕ) (ps : List Passed) (caller : Frame) (v : ℕ) : Type 0 where
  pub store : slice_get ps v ≡ Some (Store (names (array_count (take v h.parameters))))
  pub below : names (array_count (take v h.parameters)) < caller.opened
  pub few : caller.sizes (names (array_count (take v h.parameters))) ≤ 2 ^ 63

pub record Opens (h : TFunction) (names : ℕ → ℕ) (ps : List Passed) (caller : Frame) : Type 0 where
  pub given : (v : ℕ) (x : Variable) (e : Elem) → slice_get h.variables v ≡ Some x → x.holds ≡ holds.Given e → Given h names ps caller v
  pub local : (v : ℕ) → slice_get h.parameters v ≡ None → slice_get ps v ≡ None

module _ (program : Program) (listing : Listing) (f : ℕ) (h : TFunction) (g : Routine) (l : Layout) (names : ℕ → ℕ) (waiting : List machine.Frame)
    (ps : List Passed) (caller : Frame) (turns left : ℕ) (stand : ArraysStand h g l) (opens : Opens h names ps caller) where
  abbrev world : Setting
  world = call_setting program listing f h g l names waiting ps caller turns left

  abbrev opened : ℕ
  opened = caller.opened

  abbrev sizes : List ℕ
  sizes = meaning.shared_sizes h.variables

  same_sizes : code.shared_sizes g.locals ≡ meaning.shared_sizes h.variables
  same_sizes = ap code.shared_sizes stand.locals_are ∙ shared_is h.variables

  -- the same stores are open on both sides, with the same sizes
  pub opened_same : world.home.opened ≡ world.frame.opened
  opened_same = ap (λ s. opened + length s) same_sizes

  pub sizes_same : world.home.sizes ≡ world.frame.sizes
  sizes_same = ap (λ s. (λ (z : ℕ). if nat_lt z opened then caller.sizes z else slice_index s (z - opened))) same_sizes

  given_fits : (b : ArrayVariable) (x : Variable) (e : Elem) → slice_get h.variables b.number ≡ Some x → x.holds ≡ holds.Given e → b.ty.rate ≡ Uniform → ArrayFits world b
  given_fits b x e ex k er = record { is = subst (λ z. ArrayFitsAt world z b) (sym er) (per_lane, named); below = λ one. low_store; few = subst (λ z. extent_at z world.frame b.number ≤ 2 ^ 63) (sym er) small }
    where
      n : ℕ
      n = array_count (take b.number h.parameters)

      a_is : l.array b.number ≡ n
      a_is = (stand.given b.number x e ex k).3

      under : n < array_count h.parameters
      under = array_below h.parameters b.number (stand.given b.number x e ex k).0 (stand.given b.number x e ex k).1 (stand.given b.number x e ex k).2

      low : l.array b.number < passed g
      low = omega (arith, a_is, under, stand.passed_is)

      per_lane : is_per_lane g (array_register (l.array b.number)) ≡ false
      per_lane = ap (λ z. z && is_own (slice_get g.locals (l.array b.number - passed g))) (lt-leb (passed g) (l.array b.number) low)

      -- the store that was passed
      is : Given h names ps caller b.number
      is = opens.given b.number x e ex k

      frame_named : world.frame.named b.number ≡ names n
      frame_named = ap (λ o. meaning.store_or o (opened + length (meaning.shared_sizes (take b.number h.variables)))) is.store

      named : world.home.named (l.array b.number) ≡ world.frame.named b.number
      named = cond-true (nat_lt (l.array b.number) (passed g)) (names (l.array b.number)) (opened + length (code.shared_sizes (take (l.array b.number - passed g) g.locals))) (lt-ltb (l.array b.number) (passed g) low) ∙ ap names a_is ∙ sym frame_named

      low_store : world.frame.named b.number < world.frame.opened
      low_store = subst (λ z. z < world.frame.opened) (sym frame_named) (omega (arith, is.below))

      small : extent_at Uniform world.frame b.number ≤ 2 ^ 63
      small =
          subst (λ z. z ≤ 2 ^ 63) (sym (ap world.frame.sizes frame_named ∙ cond-true (nat_lt (names n) opened) (caller.sizes (names n)) (slice_index sizes (names n - opened)) (lt-ltb (names n) opened is.below))) is.few

  local_fits : (b : ArrayVariable) (x : Variable) (n : ℕ) → slice_get h.variables b.number ≡ Some x → x.holds ≡ holds.Local b.ty n → ArrayFits world b
  local_fits b x n ex k = go b.ty.rate refl
    where
      has : (slice_get h.parameters b.number ≡ None) × (l.array b.number ≡ passed g + local_count (take b.number h.variables)) × (n ≤ 65536)
      has = stand.local b.number x b.ty n ex k

      j : ℕ
      j = local_count (take b.number h.variables)

      there : l.array b.number - passed g ≡ j
      there = omega (arith, has.1)

      at : slice_get g.locals (l.array b.number - passed g) ≡ Some (local_of b.ty n)
      at = ap (slice_get g.locals) there ∙ ap (λ z. slice_get z j) stand.locals_are ∙ local_at h.variables b.number x b.ty n ex k

      per_lane : is_per_lane g (array_register (l.array b.number)) ≡ is_per_instance (sharing_of b.ty.rate)
      per_lane = ap (λ z. z && is_own (slice_get g.locals (l.array b.number - passed g))) (le-leb (passed g) (l.array b.number) (omega (arith, has.1))) ∙ ap is_own at

      few_elements : n ≤ 2 ^ 63
      few_elements = let big : 65536 ≤ 2 ^ 63 = omega arith in omega (arith, has.2, big)

      place : ℕ
      place = length (meaning.shared_sizes (take b.number h.variables))

      frame_named : world.frame.named b.number ≡ opened + place
      frame_named = ap (λ o. meaning.store_or o (opened + place)) (opens.local b.number has.0)

      home_named : world.home.named (l.array b.number) ≡ opened + place
      home_named =
          cond-false (nat_lt (l.array b.number) (passed g)) (names (l.array b.number)) (opened + length (code.shared_sizes (take (l.array b.number - passed g) g.locals))) (le-ltb (l.array b.number) (passed g) (omega (arith, has.1)))
          ∙ ap (λ z. opened + length (code.shared_sizes (take z g.locals))) there
          ∙ ap (λ z. opened + length (code.shared_sizes (take j z))) stand.locals_are
          ∙ ap (λ z. opened + length (code.shared_sizes z)) (take_locals h.variables b.number)
          ∙ ap (λ z. opened + length z) (shared_is (take b.number h.variables))

      own_is : world.frame.own_sizes b.number ≡ n
      own_is = ap meaning.own_size ex ∙ ap meaning.local_size k

      shared_size : b.ty.rate ≡ Uniform → extent_at Uniform world.frame b.number ≡ n
      shared_size er =
          let off : opened + place - opened ≡ place = omega arith in
          ap world.frame.sizes frame_named ∙ cond-false (nat_lt (opened + place) opened) (caller.sizes (opened + place))
          (slice_index sizes (opened + place - opened)) (le-ltb (opened + place) opened (omega arith)) ∙ ap (slice_index sizes) off
          ∙ size_is h.variables b.number x b.ty n ex k er

      go : (r : Rate) → b.ty.rate ≡ r → ArrayFits world b
      go Uniform er = record {
        is = subst (λ z. ArrayFitsAt world z b) (sym er) (per_lane ∙ ap (λ z. is_per_instance (sharing_of z)) er, home_named ∙ sym frame_named);
        below = λ one. subst (λ z. z < world.frame.opened) (sym frame_named) (let lt : place < length sizes = size_below h.variables b.number x b.ty n ex k er in omega (arith, lt));
        few = subst (λ z. extent_at z world.frame b.number ≤ 2 ^ 63) (sym er) (subst (λ z. z ≤ 2 ^ 63) (sym (shared_size er)) few_elements);
      }
      go Varying er = record {
        is = subst (λ z. ArrayFitsAt world z b) (sym er) (per_lane ∙ ap (λ z. is_per_instance (sharing_of z)) er, ap local_size at ∙ sym own_is);
        below = λ one. absurd (apart_rates (sym one ∙ er));
        few = subst (λ z. extent_at z world.frame b.number ≤ 2 ^ 63) (sym er) (subst (λ z. z ≤ 2 ^ 63) (sym own_is) few_elements);
      }

  pub fit_there : (b : ArrayVariable) → HoldsArray h.variables b → ArrayFits world b
  fit_there b has = go has.variable.holds refl
    where
      go : (y : Holds) → has.variable.holds ≡ y → ArrayFits world b
      go (holds.Value t) e = let no : None ≡ Some b.ty = ap array_type (sym e) ∙ has.ty in absurd (cc)
      go (holds.Given t) e =
          let same : ty_of Uniform t ≡ b.ty = same_Some (ty_of Uniform t) b.ty (ap array_type (sym e) ∙ has.ty) in
          given_fits b has.variable t has.is e (ap (λ z. z.rate) (sym same))
      go (holds.Local t n) e =
          let same : t ≡ b.ty = same_Some t b.ty (ap array_type (sym e) ∙ has.ty) in
          local_fits b has.variable n has.is (e ∙ ap (λ z. holds.Local z n) same)

-- ---- arrays of an entry

module _ (program : Program) (listing : Listing) (f : ℕ) (h : TFunction) (g : Routine) (l : Layout) (turns : ℕ) (xs : List Argument) (stand : ArraysStand h g l) (sig : has_signature h.parameters xs ≡ true) (short : AreShort xs) where
  pub entry_opens : Opens h (λ a. a) (handed 0 xs) (first_frame xs)
  entry_opens = record {
    given = λ v x e ex k.
        let is = stand.given v x e ex k in
        let n = array_count (take v h.parameters) in
        let e0 : 0 + n ≡ n = omega arith in
        let under = array_below h.parameters v is.0 is.1 is.2 in record {
          store = store_is h.parameters xs 0 v is.0 sig is.1 is.2 ∙ ap (λ z. Some (Store z)) e0;
          below = omega (arith, under, rows_count h.parameters xs sig);
          few = rows_few xs (recursion_from_All IsShort xs short) n;
        };
    local = λ v none. handed_none h.parameters xs 0 v sig none;
  }

  pub arrays_fit : (b : ArrayVariable) → HoldsArray h.variables b → ArrayFits (entry_setting program listing f h g l turns xs) b
  arrays_fit b has = fit_there program listing f h g l (λ a. a) [] (handed 0 xs) (first_frame xs) turns 255 stand entry_opens b has
