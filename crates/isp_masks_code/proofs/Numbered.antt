-- The indices of a run, and the lanes that are on in it.
use Rattle.std.proofs.Common.{◌≡◌, refl, ap, ap₂, ◌∙◌, ℕ, zero, suc, ◌-◌, ◌<◌, ◌≤◌, Bool, true, false, Some, arith}
use Rattle.std.specs.Prelude.{ℤ, pos, negsuc, ◌+ℤ◌, ◌*ℤ◌, ◌^◌, ◌&&◌, ◌||◌, nat_lt, int_lt}
use Rattle.std.proofs.lemmas.Bool.{lt-ltb, ltb-true}
use Rattle.std.proofs.lemmas.Int.{ints}
use Rattle.std.proofs.Math.Path.{fun_ext}
use Rattle.std.proofs.Math.IntN.{negsuc-*ℤ-pos}
use Rattle.std.proofs.Common.{mod-eq_of_lt}
use Rattle.isp_base.proofs.Elems.{number_below}
use Rattle.isp_base.proofs.Laws.{back_is, same_is}
use Rattle.isp_base.proofs.Wraps.{wrap_to-same}
use Rattle.isp_base.specs.Maps.{Lanes, on, over, map2}
use Rattle.isp_base.specs.Sets.{Mask, any}
use Rattle.isp_base.specs.Types.{widest}
use Rattle.isp_base.specs.Values.{number, number_to, op_bits, wrap}
use Rattle.isp_base.specs.declared.operators.BinOp.TheVariants as op
use Rattle.isp_base.specs.declared.types.Elem.TheVariants.{I32}
use Rattle.isp_meaning.specs.Rounds.{Range, last_run}

-- a small natural stands for itself
pub small_number : (p : ℕ) → p < widest → number I32 p ≡ pos p
small_number p lt = ap (number_to 32 (2 ^ 31 - 1)) (mod-eq_of_lt (far p lt)) ∙ number_below 32 (2 ^ 31 - 1) p (omega arith)
  where
    far : (p : ℕ) → p < widest → p < 2 ^ 32
    far p lt = omega arith

-- wrapping first does not matter
pub wrapped_sum : (z : ℤ) (p : ℕ) → wrap I32 (number I32 (wrap I32 z) +ℤ pos p) ≡ wrap I32 (z +ℤ pos p)
wrapped_sum z p = by (same_is I32 z).0 (same_is I32 z).1
  where
    by : (k : ℤ) → number I32 (wrap I32 z) ≡ z +ℤ k *ℤ pos (2 ^ 32) → wrap I32 (number I32 (wrap I32 z) +ℤ pos p) ≡ wrap I32 (z +ℤ pos p)
    by (pos c) e = wrap_to-same 32 (number I32 (wrap I32 z) +ℤ pos p) (z +ℤ pos p) 0 c (omega (arith, ints, e))
    by (negsuc c) e = wrap_to-same 32 (number I32 (wrap I32 z) +ℤ pos p) (z +ℤ pos p) (suc c) 0 (omega (arith, ints, e, negsuc-*ℤ-pos c (2 ^ 32)))

pub index_bits : (z : ℤ) (p : ℕ) → p < widest → op_bits op.Add I32 (wrap I32 z) p ≡ wrap I32 (z +ℤ pos p)
index_bits z p lt = ap (λ n. wrap I32 (number I32 (wrap I32 z) +ℤ n)) (small_number p lt) ∙ wrapped_sum z p

-- the place in each lane of a set, and the lane's number added
pub index_is : (z : ℤ) (a : Mask) (old numbers : Lanes) → ((p : ℕ) → a p ≡ true → p < widest) → ((p : ℕ) → a p ≡ true → numbers p ≡ p)
    → map2 (op_bits op.Add I32) (on a (over (on a (λ p. wrap I32 z)) old)) (on a numbers) ≡ on a (λ p. wrap I32 (z +ℤ pos p))
index_is z a old numbers few are = fun_ext (λ p. at p (a p) refl)
  where
    at : (p : ℕ) (b : Bool) → a p ≡ b → map2 (op_bits op.Add I32) (on a (over (on a (λ q. wrap I32 z)) old)) (on a numbers) p ≡ on a (λ q. wrap I32 (z +ℤ pos q)) p
    at p true e = rw e (ap Some (ap (op_bits op.Add I32 (wrap I32 z)) (are p e) ∙ index_bits z p (few p e)))
    at p false e = rw e refl

-- the index of a run, and that much more
pub next_is : (z : ℤ) (g : ℕ) (a : Mask) (v counts : Lanes) → g ≤ widest → ((p : ℕ) → a p ≡ true → v p ≡ wrap I32 (z +ℤ pos p))
    → ((p : ℕ) → a p ≡ true → counts p ≡ wrap I32 (pos g))
    → map2 (op_bits op.Add I32) (on a v) (on a counts) ≡ on a (λ p. wrap I32 ((z +ℤ pos g) +ℤ pos p))
next_is z g a v counts few is are = fun_ext (λ p. at p (a p) refl)
  where
    back : number I32 (wrap I32 (pos g)) ≡ pos g
    back = back_is I32 (pos g) (omega (arith, ints), omega (arith, ints, few))

    sum : (p : ℕ) → op_bits op.Add I32 (wrap I32 (z +ℤ pos p)) (wrap I32 (pos g)) ≡ wrap I32 ((z +ℤ pos g) +ℤ pos p)
    sum p =
        let e : (z +ℤ pos p) +ℤ pos g ≡ (z +ℤ pos g) +ℤ pos p = omega (arith, ints) in
        ap (λ n. wrap I32 (number I32 (wrap I32 (z +ℤ pos p)) +ℤ n)) back ∙ wrapped_sum (z +ℤ pos p) g ∙ ap (wrap I32) e

    at : (p : ℕ) (b : Bool) → a p ≡ b → map2 (op_bits op.Add I32) (on a v) (on a counts) p ≡ on a (λ q. wrap I32 ((z +ℤ pos g) +ℤ pos q)) p
    at p true e = rw e (ap Some (ap₂ (op_bits op.Add I32) (is p e) (are p e) ∙ sum p))
    at p false e = rw e refl

-- where nobody is on, no lane gets another value
pub over_nobody : (f : ℕ → ℕ → ℕ) (a : Mask) (v u old : Lanes) → ((p : ℕ) → a p ≡ false) → over (map2 f (on a v) (on a u)) old ≡ old
over_nobody f a v u old none = fun_ext (λ p. at p (none p))
  where
    at : (p : ℕ) → a p ≡ false → over (map2 f (on a v) (on a u)) old p ≡ old p
    at p e = rw e refl

-- somebody is on in a run where its first number is below the end
pub any_run : (gang n : ℕ) (x : Range) (z : ℤ) → 1 ≤ n → n ≤ gang → any n (last_run gang x z).members ≡ int_lt z x.end
any_run gang zero x z some le = absurd (omega arith)
any_run gang (suc zero) x z some le = let e : z +ℤ pos 0 ≡ z = omega (arith, ints) in ap₂ (λ b y. b && int_lt y x.end) (lt-ltb 0 gang (omega arith)) e
any_run gang (suc (suc n)) x z some le = ap (λ b. b || (last_run gang x z).members (suc n)) (any_run gang (suc n) x z (omega arith) (omega arith)) ∙ go (int_lt z x.end) refl
  where
    go : (b : Bool) → int_lt z x.end ≡ b → (b || (nat_lt (suc n) gang && int_lt (z +ℤ pos (suc n)) x.end)) ≡ b
    go true e = refl
    go false e = let f : int_lt (z +ℤ pos (suc n)) x.end ≡ false = grind (arith, ints, e) in ap (λ b. nat_lt (suc n) gang && b) f ∙ and_false (nat_lt (suc n) gang)
      where
        and_false : (b : Bool) → (b && false) ≡ false
        and_false true = refl
        and_false false = refl

pub run_inside : (gang : ℕ) (x : Range) (z : ℤ) (p : ℕ) → (last_run gang x z).members p ≡ true → p < gang
run_inside gang x z p h = go (nat_lt p gang) refl h
  where
    go : (b : Bool) → nat_lt p gang ≡ b → (b && int_lt (z +ℤ pos p) x.end) ≡ true → p < gang
    go true e k = ltb-true p gang e
    go false e k = absurd (cc)

-- nobody, where it is not below the end
pub no_run : (gang : ℕ) (x : Range) (z : ℤ) (p : ℕ) → int_lt z x.end ≡ false → (last_run gang x z).members p ≡ false
no_run gang x z p e = let f : int_lt (z +ℤ pos p) x.end ≡ false = grind (arith, ints, e) in ap (λ b. nat_lt p gang && b) f ∙ and_false (nat_lt p gang)
  where
    and_false : (b : Bool) → (b && false) ≡ false
    and_false true = refl
    and_false false = refl

-- who is on in a run was on in the one before
pub run_before : (gang : ℕ) (x : Range) (z : ℤ) (p : ℕ) → (last_run gang x (z +ℤ pos gang)).members p ≡ true → (last_run gang x z).members p ≡ true
run_before gang x z p h = go (nat_lt p gang) (int_lt ((z +ℤ pos gang) +ℤ pos p) x.end) refl h
  where
    go : (b d : Bool) → int_lt ((z +ℤ pos gang) +ℤ pos p) x.end ≡ d → (b && d) ≡ true → (b && int_lt (z +ℤ pos p) x.end) ≡ true
    go true true e k = grind (arith, ints, e)
    go true false e k = absurd (cc)
    go false d e k = absurd (cc)
