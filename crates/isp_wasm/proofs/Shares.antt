-- The arrays that a function opens and that all lanes share: where each begins, and that they lie one after the other.
use Rattle.std.proofs.Common.{◌≡◌, ℕ, zero, suc, ◌+◌, ◌*◌, ◌<◌, ◌≤◌, List, [], ◌∷◌, length, take, Some, Bool, true, false, refl, sym, ap, ap₂, ◌∙◌, subst, arith}
use Rattle.std.specs.Prelude.{slice_get, slice_index, slice_index_or}
use Rattle.isp_base.specs.declared.types.Elem.TheVariants.{Bool as Truth}
use Rattle.isp_code.specs.Calls.{if_shared, shared_sizes}
use Rattle.isp_code.specs.Registers.{is_per_instance}
use Rattle.isp_code.specs.declared.function.Local.{Local}
use Rattle.isp_wasm.specs.Places.{bytes_of}
use Rattle.isp_wasm.specs.Stack.{copies, local_bytes, bytes_in, if_shared_elem, shared_starts, shared_elems}

pub taken_all : (ls : List Local) (n : ℕ) → length ls ≤ n → take n ls ≡ ls
taken_all [] zero le = refl
taken_all [] (suc n) le = refl
taken_all (x ∷ ls) zero le = absurd (omega (arith, le))
taken_all (x ∷ ls) (suc n) le = ap (λ z. x ∷ z) (taken_all ls n (omega (arith, le)))

module _ (lanes : ℕ) where
  -- ---- array i, if all lanes share it

  pub record IsAt (t : ℕ) (ls : List Local) (i : ℕ) (l : Local) : Type 0 where
    pub start_is : slice_index (shared_starts lanes t ls) (length (shared_sizes (take i ls))) ≡ t + bytes_in lanes (take i ls)
    pub size_is : slice_index (shared_sizes ls) (length (shared_sizes (take i ls))) ≡ l.size
    pub elem_is : slice_index_or (shared_elems ls) (length (shared_sizes (take i ls))) Truth ≡ l.elem
    pub number_low : length (shared_sizes (take i ls)) < length (shared_sizes ls)

  at_first : (t : ℕ) (l : Local) (ls : List Local) (b : Bool) → b ≡ false
      → (slice_index (if_shared b t (shared_starts lanes (t + copies lanes b * (l.size * bytes_of l.elem)) ls)) 0 ≡ t + 0) × (slice_index (if_shared b l.size (shared_sizes ls)) 0 ≡ l.size) × (slice_index_or (if_shared_elem b l.elem (shared_elems ls)) 0 Truth ≡ l.elem)
      × (0 < length (if_shared b l.size (shared_sizes ls)))
  at_first t l ls true e = absurd cc
  at_first t l ls false e = ((let same : t ≡ t + 0 = omega arith in same), refl, refl, omega arith)

  module _ (t : ℕ) (x l : Local) (ls : List Local) (i : ℕ) where
    next : (b : Bool) → IsAt (t + copies lanes b * (x.size * bytes_of x.elem)) ls i l
        → (slice_index (if_shared b t (shared_starts lanes (t + copies lanes b * (x.size * bytes_of x.elem)) ls)) (length (if_shared b x.size (shared_sizes (take i ls)))) ≡ t + (copies lanes b * (x.size * bytes_of x.elem) + bytes_in lanes (take i ls)))
        × (slice_index (if_shared b x.size (shared_sizes ls)) (length (if_shared b x.size (shared_sizes (take i ls)))) ≡ l.size)
        × (slice_index_or (if_shared_elem b x.elem (shared_elems ls)) (length (if_shared b x.size (shared_sizes (take i ls)))) Truth ≡ l.elem)
        × (length (if_shared b x.size (shared_sizes (take i ls))) < length (if_shared b x.size (shared_sizes ls)))
    next true h = (h.start_is ∙ (let n = copies lanes true * (x.size * bytes_of x.elem) in let m = bytes_in lanes (take i ls) in let same : t + n + m ≡ t + (n + m) = omega arith in same), h.size_is, h.elem_is, h.number_low)
    next false h = (h.start_is ∙ (let n = copies lanes false * (x.size * bytes_of x.elem) in let m = bytes_in lanes (take i ls) in let same : t + n + m ≡ t + (n + m) = omega arith in same), h.size_is, h.elem_is, (let low = h.number_low in omega (arith, low)))

  pub is_at : (t : ℕ) (ls : List Local) (i : ℕ) (l : Local) → slice_get ls i ≡ Some l → is_per_instance l.sharing ≡ false → IsAt t ls i l
  is_at t [] i l e s = absurd cc
  is_at t (x ∷ ls) zero l e s =
      let same : x ≡ l = cc in
      let all = at_first t x ls (is_per_instance x.sharing) (ap (λ (z : Local). is_per_instance z.sharing) same ∙ s) in
      record { start_is = all.0; size_is = all.1 ∙ ap (λ (z : Local). z.size) same; elem_is = all.2 ∙ ap (λ (z : Local). z.elem) same; number_low = all.3 }
  is_at t (x ∷ ls) (suc i) l e s =
      let all = next t x l ls i (is_per_instance x.sharing) (is_at (t + local_bytes lanes x) ls i l e s) in record { start_is = all.0; size_is = all.1; elem_is = all.2; number_low = all.3 }

  -- ---- store k of them

  abbrev pub start_of : ℕ → List Local → ℕ → ℕ
  start_of t ls k = slice_index (shared_starts lanes t ls) k

  abbrev pub end_of : ℕ → List Local → ℕ → ℕ
  end_of t ls k = slice_index (shared_starts lanes t ls) k + slice_index (shared_sizes ls) k * bytes_of (slice_index_or (shared_elems ls) k Truth)

  pub record IsWithin (t : ℕ) (ls : List Local) (k : ℕ) : Type 0 where
    pub low : t ≤ start_of t ls k
    pub high : end_of t ls k ≤ t + bytes_in lanes ls

  abbrev starts_if : Bool → ℕ → Local → List Local → List ℕ
  starts_if b t x ls = if_shared b t (shared_starts lanes (t + copies lanes b * (x.size * bytes_of x.elem)) ls)

  abbrev end_if : Bool → ℕ → Local → List Local → ℕ → ℕ
  end_if b t x ls k = slice_index (starts_if b t x ls) k + slice_index (if_shared b x.size (shared_sizes ls)) k * bytes_of (slice_index_or (if_shared_elem b x.elem (shared_elems ls)) k Truth)

  within_next : (t : ℕ) (x : Local) (ls : List Local) (b : Bool) (k : ℕ) → k < length (if_shared b x.size (shared_sizes ls))
      → ((u j : ℕ) → j < length (shared_sizes ls) → IsWithin u ls j)
      → (t ≤ slice_index (starts_if b t x ls) k) × (end_if b t x ls k ≤ t + (copies lanes b * (x.size * bytes_of x.elem) + bytes_in lanes ls))
  within_next t x ls true k lt more =
      let h = more (t + copies lanes true * (x.size * bytes_of x.elem)) k lt in let n = copies lanes true * (x.size * bytes_of x.elem) in
      ((let low = h.low in omega (arith, low)), (let high = h.high in omega (arith, high)))
  within_next t x ls false zero lt more = (omega arith, (let n = x.size * bytes_of x.elem in let m = bytes_in lanes ls in omega arith))
  within_next t x ls false (suc k) lt more =
      let h = more (t + copies lanes false * (x.size * bytes_of x.elem)) k (omega (arith, lt)) in
      ((let low = h.low in omega (arith, low)), (let high = h.high in omega (arith, high)))

  pub within : (t : ℕ) (ls : List Local) (k : ℕ) → k < length (shared_sizes ls) → IsWithin t ls k
  within t [] k lt = absurd (omega (arith, lt))
  within t (x ∷ ls) k lt = let both = within_next t x ls (is_per_instance x.sharing) k lt (λ u j l. within u ls j l) in record { low = both.0; high = both.1 }

  apart_next : (t : ℕ) (x : Local) (ls : List Local) (b : Bool) (j k : ℕ) → j < k → k < length (if_shared b x.size (shared_sizes ls))
      → ((u j k : ℕ) → j < k → k < length (shared_sizes ls) → end_of u ls j ≤ start_of u ls k) → end_if b t x ls j ≤ slice_index (starts_if b t x ls) k
  apart_next t x ls true j k up lt more = more (t + copies lanes true * (x.size * bytes_of x.elem)) j k up lt
  apart_next t x ls false zero zero up lt more = absurd (omega (arith, up))
  apart_next t x ls false (suc j) zero up lt more = absurd (omega (arith, up))
  apart_next t x ls false zero (suc k) up lt more =
      let h = within (t + copies lanes false * (x.size * bytes_of x.elem)) ls k (omega (arith, lt)) in let low = h.low in omega (arith, low)
  apart_next t x ls false (suc j) (suc k) up lt more = more (t + copies lanes false * (x.size * bytes_of x.elem)) j k (omega (arith, up)) (omega (arith, lt))

  pub apart : (t : ℕ) (ls : List Local) (j k : ℕ) → j < k → k < length (shared_sizes ls) → end_of t ls j ≤ start_of t ls k
  apart t [] j k up lt = absurd (omega (arith, lt))
  apart t (x ∷ ls) j k up lt = apart_next t x ls (is_per_instance x.sharing) j k up lt (λ u j k p q. apart u ls j k p q)

  -- ---- how many bytes one has

  pub part_low : (ls : List Local) (i : ℕ) (l : Local) → slice_get ls i ≡ Some l → local_bytes lanes l ≤ bytes_in lanes ls
  part_low [] i l e = absurd cc
  part_low (x ∷ ls) zero l e = let same : x ≡ l = cc in subst (λ z. local_bytes lanes z ≤ bytes_in lanes (x ∷ ls)) same (omega arith)
  part_low (x ∷ ls) (suc i) l e = let le = part_low ls i l e in omega (arith, le)

  pub one_copy : (l : Local) → is_per_instance l.sharing ≡ false → l.size * bytes_of l.elem ≤ local_bytes lanes l
  one_copy l e = subst (λ b. l.size * bytes_of l.elem ≤ copies lanes b * (l.size * bytes_of l.elem)) (sym e) (let n = l.size * bytes_of l.elem in let le : n ≤ 1 * n = omega arith in le)

  -- one lies after all of those before it, and before all of those after it
  pub part_before : (ls : List Local) (i : ℕ) (l : Local) (j : ℕ) → slice_get ls i ≡ Some l → i < j → bytes_in lanes (take i ls) + local_bytes lanes l ≤ bytes_in lanes (take j ls)
  part_before [] i l j e up = absurd cc
  part_before (x ∷ ls) i l zero e up = absurd (omega (arith, up))
  part_before (x ∷ ls) zero l (suc j) e up = let same : x ≡ l = cc in subst (λ z. bytes_in lanes (take zero (x ∷ ls)) + local_bytes lanes z ≤ bytes_in lanes (take (suc j) (x ∷ ls))) same (let m = bytes_in lanes (take j ls) in let n = local_bytes lanes x in let le : 0 + n ≤ n + m = omega arith in le)
  part_before (x ∷ ls) (suc i) l (suc j) e up =
      let le = part_before ls i l j e (omega (arith, up)) in
      let n = local_bytes lanes x in
      let all : n + bytes_in lanes (take i ls) + local_bytes lanes l ≤ n + bytes_in lanes (take j ls) = omega (arith, le) in all

  pub part_within : (ls : List Local) (i : ℕ) (l : Local) → slice_get ls i ≡ Some l → bytes_in lanes (take i ls) + local_bytes lanes l ≤ bytes_in lanes ls
  part_within ls i l e =
      subst (λ zs. bytes_in lanes (take i ls) + local_bytes lanes l ≤ bytes_in lanes zs) (taken_all ls (suc (i + length ls)) (omega arith)) (part_before ls i l (suc (i + length ls)) e (omega arith))

  -- which array a store is
  pub record IsShared (t : ℕ) (ls : List Local) (k : ℕ) : Type 0 where
    pub number : ℕ
    pub local : Local
    pub has : slice_get ls number ≡ Some local
    pub shared : is_per_instance local.sharing ≡ false
    pub start_is : start_of t ls k ≡ t + bytes_in lanes (take number ls)
    pub end_low : end_of t ls k ≤ t + bytes_in lanes (take number ls) + local_bytes lanes local

  -- the number of an array by that of its store
  which_next : (x : Local) (ls : List Local) (b : Bool) (k : ℕ) → is_per_instance x.sharing ≡ b → k < length (if_shared b x.size (shared_sizes ls))
      → ((j : ℕ) → j < length (shared_sizes ls) → (i : ℕ) × (l : Local) × (slice_get ls i ≡ Some l) × (is_per_instance l.sharing ≡ false) × (length (shared_sizes (take i ls)) ≡ j))
      → (i : ℕ) × (l : Local) × (slice_get (x ∷ ls) i ≡ Some l) × (is_per_instance l.sharing ≡ false) × (length (shared_sizes (take i (x ∷ ls))) ≡ k)
  which_next x ls true k e lt more =
      let h = more k lt in (suc h.0, h.1, h.2, h.3, ap (λ b. length (if_shared b x.size (shared_sizes (take h.0 ls)))) e ∙ h.4)
  which_next x ls false zero e lt more = (zero, x, refl, e, refl)
  which_next x ls false (suc k) e lt more =
      let h = more k (omega (arith, lt)) in (suc h.0, h.1, h.2, h.3, ap (λ b. length (if_shared b x.size (shared_sizes (take h.0 ls)))) e ∙ ap suc h.4)

  which_local : (ls : List Local) (k : ℕ) → k < length (shared_sizes ls) → (i : ℕ) × (l : Local) × (slice_get ls i ≡ Some l) × (is_per_instance l.sharing ≡ false) × (length (shared_sizes (take i ls)) ≡ k)
  which_local [] k lt = absurd (omega (arith, lt))
  which_local (x ∷ ls) k lt = which_next x ls (is_per_instance x.sharing) k refl lt (λ j l. which_local ls j l)

  pub is_shared : (t : ℕ) (ls : List Local) (k : ℕ) → k < length (shared_sizes ls) → IsShared t ls k
  is_shared t ls k lt =
      let h = which_local ls k lt in
      let at = is_at t ls h.0 h.1 h.2 h.3 in
      let start : start_of t ls k ≡ t + bytes_in lanes (take h.0 ls) = ap (start_of t ls) (sym h.4) ∙ at.start_is in
      let size : slice_index (shared_sizes ls) k ≡ (h.1).size = ap (slice_index (shared_sizes ls)) (sym h.4) ∙ at.size_is in
      let elem : slice_index_or (shared_elems ls) k Truth ≡ (h.1).elem = ap (λ n. slice_index_or (shared_elems ls) n Truth) (sym h.4) ∙ at.elem_is in
      let end : end_of t ls k ≡ t + bytes_in lanes (take h.0 ls) + (h.1).size * bytes_of (h.1).elem = ap₂ (λ x y. x + y) start (ap₂ (λ x y. x * bytes_of y) size elem) in
      let le = one_copy h.1 h.3 in
      record { number = h.0; local = h.1; has = h.2; shared = h.3; start_is = start; end_low = subst (λ n. n ≤ t + bytes_in lanes (take h.0 ls) + local_bytes lanes h.1) (sym end) (omega (arith, le)) }

  -- ---- how many there are

  long_next : (t : ℕ) (x : Local) (ls : List Local) (b : Bool) → ((u : ℕ) → length (shared_starts lanes u ls) ≡ length (shared_sizes ls)) → length (starts_if b t x ls) ≡ length (if_shared b x.size (shared_sizes ls))
  long_next t x ls true more = more (t + copies lanes true * (x.size * bytes_of x.elem))
  long_next t x ls false more = ap suc (more (t + copies lanes false * (x.size * bytes_of x.elem)))

  pub starts_long : (t : ℕ) (ls : List Local) → length (shared_starts lanes t ls) ≡ length (shared_sizes ls)
  starts_long t [] = refl
  starts_long t (x ∷ ls) = long_next t x ls (is_per_instance x.sharing) (λ u. starts_long u ls)
