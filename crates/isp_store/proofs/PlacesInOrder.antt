-- Places of consecutive elements, one lane after the other.
use Rattle.std.proofs.Common.{◌≡◌, ◌≢◌, refl, sym, ap, ap₂, ◌∙◌, subst, ⊎_elim, ℕ, zero, suc, ◌+◌, ◌-◌, ◌<◌, Bool, true, false, ◌&&◌, Some, None, List, length, ℤ}
use Rattle.std.proofs.Common.{pos, negsuc, ◌+ℤ◌, ◌-ℤ◌, ◌≤ℤ◌, ◌^◌, ◌≤◌, unsigned_abs, arith, add-one, mod-eq_of_lt, FitsSigned}
use Rattle.std.specs.Prelude.{slice_set, if◌then◌else◌}
use Rattle.std.proofs.Math.Path.{fun_ext}
use Rattle.std.proofs.lemmas.Bool.{cases_eq, cases_lt}
use Rattle.std.proofs.lemmas.Int.{ints}
use Rattle.std.specs.Int.{w128}
use Rattle.std.proofs.lemmas.List.{get_or-set_other, get_or-set_same}
use Rattle.isp_base.specs.Access.{is_beyond}
use Rattle.isp_base.specs.Cross.{rank}
use Rattle.isp_base.specs.Maps.{Lanes, lane_of, on, map1, each1}
use Rattle.isp_base.specs.Sets.{Mask, lowest, or_this, flag_of}
use Rattle.isp_base.specs.Values.{number, number_to}
use Rattle.isp_base.specs.declared.types.Elem.TheVariants.{I64}
use Rattle.isp_base.proofs.Elems.{number_above}
use Rattle.isp_cells.proofs.Indices.{on_there, number_low}

-- the lowest of a set, one number more
next : (m : Mask) (k : ℕ) → lowest k m ≡ None → m k ≡ false → lowest (k + 1) m ≡ None
next m k none off = ap (λ j. lowest j m) (add-one k) ∙ ap₂ (λ o b. or_this o b k) none off

pub first : (m : Mask) (n p : ℕ) → p < n → lowest p m ≡ None → m p ≡ true → lowest n m ≡ Some p
first m zero p h none is = absurd (omega (arith, h))
first m (suc n) p h none is = ⊎_elim (λ e. here e) (λ ne. ap (λ o. or_this o (m n) n) (first m n p (omega (arith, h, ne)) none is)) (cases_eq p n)
  where
    here : p ≡ n → or_this (lowest n m) (m n) n ≡ Some p
    here e = ap₂ (λ o b. or_this o b n) (subst (λ k. lowest k m ≡ None) e none) (subst (λ k. m k ≡ true) e is) ∙ ap Some (sym e)

-- among n elements, for the lanes of a set, at whole numbers
module _ (n : ℕ) (at : ℕ → ℤ) (a : Mask) where
  abbrev pub beyond : Mask
  beyond p = a p && is_beyond n (at p)

  -- the first k lanes have their places
  abbrev pub Placed : List ℕ → ℕ → Type 0
  Placed xs k = (p : ℕ) → p < k → a p ≡ true → (lane_of xs p ≡ unsigned_abs (at p)) × (lane_of xs p < n)

  pub past_off : (k : ℕ) → lowest k beyond ≡ None → a k ≡ false → lowest (k + 1) beyond ≡ None
  past_off k none off = next beyond k none (ap (λ b. b && is_beyond n (at k)) off)

  pub past_inside : (k : ℕ) → lowest k beyond ≡ None → a k ≡ true → is_beyond n (at k) ≡ false → lowest (k + 1) beyond ≡ None
  past_inside k none is inside = next beyond k none (ap₂ (λ b d. b && d) is inside)

  pub found : (m k : ℕ) → k < m → lowest k beyond ≡ None → a k ≡ true → is_beyond n (at k) ≡ true → lowest m beyond ≡ Some k
  found m k low none is out = first beyond m k low none (ap₂ (λ b d. b && d) is out)

  pub placed_off : (xs : List ℕ) (k : ℕ) → Placed xs k → a k ≡ false → Placed xs (k + 1)
  placed_off xs k placed off p h is = ⊎_elim (λ e. other e) (λ ne. placed p (omega (arith, h, ne)) is) (cases_eq p k)
    where
      other : p ≡ k → (lane_of xs p ≡ unsigned_abs (at p)) × (lane_of xs p < n)
      other e = let f = sym (subst (λ q. a q ≡ true) e is) ∙ off in cc

  pub placed_on : (xs : List ℕ) (k e : ℕ) → Placed xs k → k < length xs → e ≡ unsigned_abs (at k) → e < n → Placed (slice_set xs k e) (k + 1)
  placed_on xs k e placed low is there p h on = ⊎_elim (λ s. here s) (λ ne. other ne) (cases_eq p k)
    where
      here : p ≡ k → (lane_of (slice_set xs k e) p ≡ unsigned_abs (at p)) × (lane_of (slice_set xs k e) p < n)
      here s =
          let new : lane_of (slice_set xs k e) p ≡ e = ap (lane_of (slice_set xs k e)) s ∙ get_or-set_same xs k e 0 low in
          (new ∙ is ∙ ap (λ q. unsigned_abs (at q)) (sym s), subst (λ v. v < n) (sym new) there)

      other : p ≢ k → (lane_of (slice_set xs k e) p ≡ unsigned_abs (at p)) × (lane_of (slice_set xs k e) p < n)
      other ne =
          let old = placed p (omega (arith, h, ne)) on in
          let same : lane_of (slice_set xs k e) p ≡ lane_of xs p = get_or-set_other xs k p e 0 ne in
          (same ∙ old.0, subst (λ v. v < n) (sym same) old.1)

-- a set counts one more, or none
pub rank_on : (a : Mask) (p : ℕ) → a p ≡ true → rank a (p + 1) ≡ rank a p + 1
rank_on a p is = ap (rank a) (add-one p) ∙ ap (λ b. rank a p + (if b then 1 else 0)) is

pub rank_off : (a : Mask) (p : ℕ) → a p ≡ false → rank a (p + 1) ≡ rank a p
rank_off a p off = ap (rank a) (add-one p) ∙ ap (λ b. rank a p + (if b then 1 else 0)) off ∙ none
  where
    none : rank a p + 0 ≡ rank a p
    none = omega arith

-- all lanes of a mask have their places
pub all_placed : (n count : ℕ) (at : ℕ → ℤ) (bs : List Bool) (xs : List ℕ) → length bs ≡ n → Placed count at (flag_of bs) xs n → (p : ℕ) → flag_of bs p ≡ true → (lane_of xs p ≡ unsigned_abs (at p)) × (lane_of xs p < count)
all_placed n count at bs xs long placed p is = placed p (on_there bs n p long is) is

-- what the lanes of a set have, given by other words
pub on_same : (a : Mask) (x y : Lanes) → ((p : ℕ) → a p ≡ true → x p ≡ y p) → on a x ≡ on a y
on_same a x y same = fun_ext (λ p. by p (a p) refl)
  where
    by : (p : ℕ) (b : Bool) → a p ≡ b → on a x p ≡ on a y p
    by p true is = ap (λ b. if b then Some (x p) else None) is ∙ ap Some (same p is) ∙ sym (ap (λ b. if b then Some (y p) else None) is)
    by p false off = ap (λ b. if b then Some (x p) else None) off ∙ sym (ap (λ b. if b then Some (y p) else None) off)

pub map1_same : (f : ℕ → ℕ) (a : Mask) (x y : Lanes) → ((p : ℕ) → a p ≡ true → x p ≡ y p) → map1 f (on a x) ≡ on a (λ p. f (y p))
map1_same f a x y same = fun_ext (λ p. by p (a p) refl)
  where
    by : (p : ℕ) (b : Bool) → a p ≡ b → each1 f (on a x p) ≡ on a (λ q. f (y q)) p
    by p true is = ap (λ b. each1 f (if b then Some (x p) else None)) is ∙ ap (λ v. Some (f v)) (same p is) ∙ sym (ap (λ b. if b then Some (f (y p)) else None) is)
    by p false off = ap (λ b. each1 f (if b then Some (x p) else None)) off ∙ sym (ap (λ b. if b then Some (f (y p)) else None) off)

pub map1_id : (a : Mask) (x : Lanes) → map1 (λ e. e) (on a x) ≡ on a x
map1_id a x = map1_same (λ e. e) a x x (λ p is. refl)

-- an index and a few more are a number of 128 bits
of_128 : (z : ℤ) → (pos 0 -ℤ pos (2 ^ 120)) ≤ℤ z → z ≤ℤ pos (2 ^ 120) → FitsSigned w128 z
of_128 (pos n) l h = record { sfits = omega (arith, ints, h) }
of_128 (negsuc n) l h = record { sfits = omega (arith, ints, l) }

pub sum_fits : (x o : ℕ) → x < 2 ^ 64 → o ≤ 64 → FitsSigned w128 (number I64 x +ℤ pos o)
sum_fits x o small few = ⊎_elim (λ (h : x < 2 ^ 63). low h) (λ (h : 2 ^ 63 ≤ x). high h) (cases_lt x (2 ^ 63))
  where
    low : x < 2 ^ 63 → FitsSigned w128 (number I64 x +ℤ pos o)
    low h = subst (λ (z : ℤ). FitsSigned w128 (z +ℤ pos o)) (sym (number_low x h)) (of_128 (pos x +ℤ pos o) (omega (arith, ints)) (omega (arith, ints, h, few)))

    high : 2 ^ 63 ≤ x → FitsSigned w128 (number I64 x +ℤ pos o)
    high h =
        let a = number_above 64 (2 ^ 63 - 1) x (omega (arith, h)) in
        let e : number I64 x ≡ number_to 64 (2 ^ 63 - 1) x = ap (number_to 64 (2 ^ 63 - 1)) (mod-eq_of_lt small) in
        of_128 (number I64 x +ℤ pos o) (let f = e ∙ a in omega (arith, ints, f, h, small, few)) (let f = e ∙ a in omega (arith, ints, f, h, small, few))
