-- Instances one after the other, from 0 up: what they leave is what each stores alone.
use Rattle.std.proofs.Common.{◌≡◌, refl, sym, ap, ap₂, ◌∙◌, ℕ, zero, suc, ◌+◌, ◌<◌, ◌≤◌, ◌⊎◌, inl, inr, ⊎_elim, Bool, cond, List, Some, None, arith, eq-eqb, ne_eqb}
use Rattle.std.specs.Prelude.{Option, nat_eq, count_by}
use Rattle.std.specs.List.{All}
use Rattle.std.proofs.Math.Path.{fun_ext}
use Rattle.std.proofs.lemmas.Bool.{cases_eq}
use Rattle.std.proofs.lemmas.List.Elements.{All-nil, All-push}
use Rattle.std.proofs.lemmas.List.Sums.{sum_by_push}
use Rattle.isp_base.specs.Maps.{or_old}
use Rattle.isp_base.specs.Types.{gang_width}
use Rattle.isp_base.specs.declared.signature.Argument.{Argument}
use Rattle.isp_typed.specs.Typed.{Program}
use Rattle.isp_solo_meaning.specs.Answers.{Answer, reached}
use Rattle.isp_solo_meaning.specs.OneByOne.{one_by_one, IsOrder}
use Rattle.isp_solo_meaning.specs.Runs.{solo_run}
use Rattle.isp_solo_meaning.specs.Touched.{AreApart}
use Rattle.isp_solo_meaning.proofs.Orders.{any_order}
use Rattle.isp_solo.specs.Left.{left_by}
use Rattle.isp_solo.specs.Report.{upward}

-- ---- the order from 0 up

all_below : (n k : ℕ) → n ≤ k → All (λ p. p < k) (upward n)
all_below zero k h = All-nil (λ p. p < k)
all_below (suc n) k h = All-push (λ p. p < k) (upward n) n (all_below n k (omega (arith, h))) (omega (arith, h))

abbrev counted : ℕ → ℕ → ℕ
counted p q = cond (nat_eq q p) 1 0

not_yet : (n p : ℕ) → n ≤ p → count_by (λ q. nat_eq q p) (upward n) ≡ 0
not_yet zero p h = refl
not_yet (suc n) p h =
    sum_by_push (counted p) (upward n) n ∙ ap₂ (λ (x : ℕ) (t : Bool). x + cond t 1 0) (not_yet n p (omega (arith, h))) (ne_eqb n p (λ e. (omega (arith, h, e))))

is_once : (n p : ℕ) → p < n → count_by (λ q. nat_eq q p) (upward n) ≡ 1
is_once zero p h = absurd (omega (arith, h))
is_once (suc n) p h =
    sum_by_push (counted p) (upward n) n
    ∙ ⊎_elim (λ (e : n ≡ p). ap₂ (λ (x : ℕ) (t : Bool). x + cond t 1 0) (not_yet n p (omega (arith, e))) (eq-eqb n p e))
    (λ ne. ap₂ (λ (x : ℕ) (t : Bool). x + cond t 1 0) (is_once n p (omega (arith, h, ne))) (ne_eqb n p ne)) (cases_eq n p)

pub upward_order : (gang : ℕ) → IsOrder gang (upward gang)
upward_order gang = record { below = all_below gang gang (omega arith); once = λ p h. is_once gang p h }

-- ---- one element

module _ (run : ℕ → Answer ℕ) (m : ℕ → ℕ → ℕ) (b e : ℕ) where
  abbrev wrote : ℕ → Option ℕ
  wrote p = (reached (run p)).wrote b e

  -- none of the first n stores there, or what is left is what one of them stores
  record NoneStores (n : ℕ) : Type 0 where
    pub none : (p : ℕ) → p < n → wrote p ≡ None
    pub left : left_by run m n b e ≡ m b e

  record OneStores (n : ℕ) : Type 0 where
    pub instance : ℕ
    pub bits : ℕ
    pub below : instance < n
    pub stores : wrote instance ≡ Some bits
    pub left : left_by run m n b e ≡ bits

  stored_by : (n : ℕ) → NoneStores n ⊎ OneStores n
  stored_by zero = inl (record { none = λ p h. absurd (omega (arith, h)); left = refl })
  stored_by (suc n) = next (wrote n) refl (stored_by n) where
    next : (o : Option ℕ) → wrote n ≡ o → NoneStores n ⊎ OneStores n → NoneStores (suc n) ⊎ OneStores (suc n)
    next (Some x) i before = inr (record { instance = n; bits = x; below = omega arith; stores = i; left = ap (λ z. or_old z (left_by run m n b e)) i })
    next None i (inl k) =
        inl (record {
          none = λ p h. ⊎_elim (λ (j : p ≡ n). ap wrote j ∙ i) (λ ne. k.none p (omega (arith, h, ne))) (cases_eq p n);
          left = ap (λ z. or_old z (left_by run m n b e)) i ∙ k.left;
        })
    next None i (inr k) =
        inr (record { instance = k.instance; bits = k.bits; below = (let h = k.below in omega (arith, h)); stores = k.stores; left = ap (λ z. or_old z (left_by run m n b e)) i ∙ k.left })

-- where no two clash
pub upward_left : (program : Program) (f most : ℕ) (xs : List Argument) (m : ℕ → ℕ → ℕ) → AreApart (gang_width program.gang) (solo_run program f most xs m)
    → left_by (solo_run program f most xs m) m (gang_width program.gang) ≡ one_by_one program f most xs (upward (gang_width program.gang)) m
upward_left program f most xs m apart = fun_ext (λ b. fun_ext (λ e. at b e)) where
  at : (b e : ℕ) → left_by (solo_run program f most xs m) m (gang_width program.gang) b e ≡ one_by_one program f most xs (upward (gang_width program.gang)) m b e
  at b e =
      let law = any_order program f most xs m (upward (gang_width program.gang)) apart (upward_order (gang_width program.gang)) b e in
      ⊎_elim (λ (k : NoneStores (solo_run program f most xs m) m b e (gang_width program.gang)). k.left ∙ sym (law.1 k.none))
      (λ (k : OneStores (solo_run program f most xs m) m b e (gang_width program.gang)). k.left ∙ sym (law.0 k.instance k.bits k.below k.stores)) (stored_by (solo_run program f most xs m) m b e (gang_width program.gang))
