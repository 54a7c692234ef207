-- The first instructions of rungs lie in order, and each instruction that a jump goes to is one.
use Rattle.std.proofs.Common.{◌≡◌, ℕ, zero, suc, ◌+◌, ◌<◌, ◌≤◌, ◌⊎◌, inl, inr, List, [], ◌∷◌, length, Some, Bool, true, false, ◌||◌, refl, sym, ap, ◌∙◌, subst, arith}
use Rattle.std.specs.Prelude.{slice_get, slice_index_or, nat_eq, if◌then◌else◌}
use Rattle.std.specs.List.{list_any}
use Rattle.std.proofs.lemmas.Bool.{cases_eq}
use Rattle.isp_code.specs.declared.instr.Instr.{Instr}
use Rattle.isp_wasm.specs.Locals.{position}
use Rattle.isp_wasm.specs.Module.{goes_to, is_head, heads_from, heads_of}
use Rattle.isp_wasm.proofs.Numbers.{here, further}

module _ (is : List Instr) where
  -- one instruction more
  abbrev pub with_one : Bool → ℕ → List ℕ → List ℕ
  with_one b pc l = if b then pc ∷ l else l

  few_once : (b : Bool) (pc n : ℕ) (l : List ℕ) → length l ≤ n → length (with_one b pc l) ≤ suc n
  few_once true pc n l h = omega (arith, h)
  few_once false pc n l h = omega (arith, h)

  pub few : (n pc : ℕ) → length (heads_from is n pc) ≤ n
  few zero pc = omega arith
  few (suc n) pc = few_once (is_head is pc) pc n (heads_from is n (suc pc)) (few n (suc pc))

  low_once : (b : Bool) (pc d : ℕ) (l : List ℕ) → pc ≤ d → ((k : ℕ) → suc pc ≤ slice_index_or l k d) → (k : ℕ) → pc ≤ slice_index_or (with_one b pc l) k d
  low_once true pc d l le h zero = omega arith
  low_once true pc d l le h (suc k) = let up = h k in omega arith
  low_once false pc d l le h k = let up = h k in omega arith

  past : (k pc d : ℕ) → pc ≤ d → pc ≤ slice_index_or [] k d
  past zero pc d h = h
  past (suc k) pc d h = h

  -- all are at or after the first one, as the end is
  low : (n pc d : ℕ) → pc + n ≤ d → (k : ℕ) → pc ≤ slice_index_or (heads_from is n pc) k d
  low zero pc d h k = past k pc d (omega (arith, h))
  low (suc n) pc d h k = low_once (is_head is pc) pc d (heads_from is n (suc pc)) (omega (arith, h)) (low n (suc pc) d (omega (arith, h))) k

  up_once : (b : Bool) (pc d : ℕ) (l : List ℕ) → ((k : ℕ) → suc pc ≤ slice_index_or l k d) → ((k : ℕ) → k < length l → slice_index_or l k d < slice_index_or l (suc k) d)
      → (k : ℕ) → k < length (with_one b pc l) → slice_index_or (with_one b pc l) k d < slice_index_or (with_one b pc l) (suc k) d
  up_once true pc d l h more zero lt = let first = h zero in omega arith
  up_once true pc d l h more (suc k) lt = more k (omega (arith, lt))
  up_once false pc d l h more k lt = more k lt

  pub up : (n pc d : ℕ) → pc + n ≤ d → (k : ℕ) → k < length (heads_from is n pc) → slice_index_or (heads_from is n pc) k d < slice_index_or (heads_from is n pc) (suc k) d
  up zero pc d h k lt = absurd (omega (arith, lt))
  up (suc n) pc d h k lt = up_once (is_head is pc) pc d (heads_from is n (suc pc)) (low n (suc pc) d (omega (arith, h))) (up n (suc pc) d (omega (arith, h))) k lt

  -- one of them, at its position
  pub record IsIn (l : List ℕ) (to d : ℕ) : Type 0 where
    pub low : position l to < length l
    pub here : slice_index_or l (position l to) d ≡ to

  in_further : (y : ℕ) (l : List ℕ) (to d : ℕ) → (y ≡ to → ⊥) → IsIn l to d → IsIn (y ∷ l) to d
  in_further y l to d ne h =
      record { low = subst (λ p. p < suc (length l)) (sym (further y to l ne)) (let lt = h.low in omega (arith, lt)); here = ap (λ p. slice_index_or (y ∷ l) p d) (further y to l ne) ∙ h.here }

  in_once : (b : Bool) (pc d to : ℕ) (l : List ℕ) → (pc ≡ to → b ≡ true) → (pc ≡ to) ⊎ (pc ≡ to → ⊥) → ((pc ≡ to → ⊥) → IsIn l to d) → IsIn (with_one b pc l) to d
  in_once false pc d to l head (inl e) more = absurd (let no = head e in cc)
  in_once false pc d to l head (inr ne) more = more ne
  in_once true pc d to l head (inl e) more =
      subst (λ t. IsIn (pc ∷ l) t d) e (record { low = subst (λ p. p < suc (length l)) (sym (here pc l)) (omega arith); here = ap (λ p. slice_index_or (pc ∷ l) p d) (here pc l) })
  in_once true pc d to l head (inr ne) more = in_further pc l to d ne (more ne)

  pub inside : (n pc d to : ℕ) → is_head is to ≡ true → pc ≤ to → to < pc + n → IsIn (heads_from is n pc) to d
  inside zero pc d to head le lt = absurd (omega (arith, le, lt))
  inside (suc n) pc d to head le lt =
      in_once (is_head is pc) pc d to (heads_from is n (suc pc)) (λ e. ap (is_head is) e ∙ head) (cases_eq pc to) (λ ne. inside n (suc pc) d to head (omega (arith, le, ne)) (omega (arith, lt)))

-- where a jump goes
any_at : (to : ℕ) (is : List Instr) (pc : ℕ) (i : Instr) → slice_get is pc ≡ Some i → goes_to to i ≡ true → list_any (goes_to to) is ≡ true
any_at to [] pc i has goes = absurd cc
any_at to (j ∷ is) zero i has goes = let same : j ≡ i = cc in ap (λ b. b || list_any (goes_to to) is) (ap (goes_to to) same ∙ goes)
any_at to (j ∷ is) (suc pc) i has goes = or_true (goes_to to j) (list_any (goes_to to) is) (any_at to is pc i has goes)
  where
    or_true : (a b : Bool) → b ≡ true → (a || b) ≡ true
    or_true true b e = refl
    or_true false b e = e

pub target_is : (is : List Instr) (to pc : ℕ) (i : Instr) → slice_get is pc ≡ Some i → goes_to to i ≡ true → is_head is to ≡ true
target_is is to pc i has goes = by (nat_eq to 0) (any_at to is pc i has goes)
  where
    by : (b : Bool) → list_any (goes_to to) is ≡ true → (b || list_any (goes_to to) is) ≡ true
    by true e = refl
    by false e = e

pub first_head : (is : List Instr) (d : ℕ) → 0 < length is → (0 < length (heads_of is)) × (slice_index_or (heads_of is) 0 d ≡ 0)
first_head [] d h = absurd (omega (arith, h))
first_head (i ∷ is) d h = (omega arith, refl)
