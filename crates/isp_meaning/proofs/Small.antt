-- What a branch is that nobody takes, and what the work counts.
use Rattle.std.specs.Prelude.{◌≡◌, ℕ, List, [], ◌∷◌, Bool, false}
use Rattle.std.proofs.Common.{refl, sym, ap, ◌∙◌}
use Rattle.isp_base.specs.Values.{number_to, wrap_to}
use Rattle.isp_base.specs.declared.signature.Argument.{Argument}
use Rattle.isp_base.specs.declared.types.Gang.{Gang}
use Rattle.isp_base.specs.declared.types.Gang.TheVariants.{W4}
use Rattle.isp_base.specs.Maps.{Map, where_true}
use Rattle.isp_base.specs.Sets.{Mask, any, without}
use Rattle.isp_meaning.specs.Payloads.{Each, is_true}
use Rattle.isp_meaning.specs.State.{State}
use Rattle.isp_meaning.specs.Outcomes.{Val, Gives, Res, with_value, both_sides, unless_empty, went_all, if_so}
use Rattle.isp_meaning.specs.Statements.{run, branches}
use Rattle.isp_meaning.specs.Runs.{work_of}
use Rattle.isp_meaning.specs.Samples.{doubles, does_nothing, row}
use Rattle.isp_meaning.specs.Laws.{IdleBranches, CountsWork}

-- whichever the branch is that no member takes
module _ (gang : ℕ) (a : Mask) (s1 : State) (c : Map) where
  idle_first : (f g h : Mask → State → Res) → any gang (where_true is_true c) ≡ false → branches gang a f h (Each c) s1 ≡ branches gang a g h (Each c) s1
  idle_first f g h none = by f ∙ sym (by g)
    where
      by : (x : Mask → State → Res) → branches gang a x h (Each c) s1 ≡ both_sides (went_all (where_true is_true c) s1) (λ s2. unless_empty gang (without a (where_true is_true c)) s2 h)
      by x = ap (λ (t : Bool). both_sides (if_so t (x (where_true is_true c)) (went_all (where_true is_true c)) s1) (λ s2. unless_empty gang (without a (where_true is_true c)) s2 h)) none

  idle_second : (f g h : Mask → State → Res) → any gang (without a (where_true is_true c)) ≡ false → branches gang a f g (Each c) s1 ≡ branches gang a f h (Each c) s1
  idle_second f g h none = by g ∙ sym (by h)
    where
      by : (y : Mask → State → Res) → branches gang a f y (Each c) s1 ≡ both_sides (unless_empty gang (where_true is_true c) s1 f) (went_all (without a (where_true is_true c)))
      by y = ap (λ (t : Bool). both_sides (unless_empty gang (where_true is_true c) s1 f) (λ s2. if_so t (y (without a (where_true is_true c))) (went_all (without a (where_true is_true c))) s2)) none

-- a choice of branches by a test whose value is known
tested : {A : Type 0} (v : Val A) (x : A) (s1 : State) (f g : A → State → Res) → v ≡ Gives x s1 → f x s1 ≡ g x s1 → with_value v f ≡ with_value v g
tested v x s1 f g is e = ap (λ u. with_value u f) is ∙ e ∙ sym (ap (λ u. with_value u g) is)

pub idle_branches : IdleBranches
idle_branches =
    record {
      alone = λ gang frame calls most form k test sp a s s1 c x other is none. tested _ (Each c) s1 _ _ is (idle_first gang a s1 c (run gang frame calls most x) (run gang frame calls most other) went_all none);
      first = λ gang frame calls most form k test sp a s s1 c x other y is none. tested _ (Each c) s1 _ _ is (idle_first gang a s1 c (run gang frame calls most x) (run gang frame calls most other) (run gang frame calls most y) none);
      second = λ gang frame calls most form k test sp a s s1 c x y other is none. tested _ (Each c) s1 _ _ is (idle_second gang a s1 c (run gang frame calls most x) (run gang frame calls most y) (run gang frame calls most other) none);
    }

doubling : (most w x y z : ℕ) → work_of (doubles W4) 0 most (row (w ∷ x ∷ y ∷ z ∷ []) ∷ []) ≡ 10
unfolding number_to wrap_to
doubling most w x y z = refl

nothing : (gang : Gang) (most : ℕ) (xs : List Argument) → work_of (does_nothing gang) 0 most xs ≡ 1
nothing gang most xs = refl

pub counts_work : CountsWork
counts_work = record { doubling = doubling; nothing = nothing }
