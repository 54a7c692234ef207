-- One value of a test chooses as two parts do.
use Rattle.std.proofs.Common.{◌≡◌, ℕ, Bool, true, false, refl, sym, ap, ◌∙◌}
use Rattle.std.specs.Prelude.{if◌then◌else◌}
use Rattle.isp_base.specs.Sets.{Mask, nobody, union, without, any}
use Rattle.isp_meaning.specs.State.{State}
use Rattle.isp_meaning.specs.Payloads.{Payload, One, Each, is_true, kept_by}
use Rattle.isp_meaning.specs.Outcomes.{Res, Went, Trapped, Cut, go_on, went_all, both_sides, unless_empty, if_so}
use Rattle.isp_meaning.specs.Statements.{branches}
use Rattle.isp_lower_code.proofs.Lemmas.{any_nobody}
use Rattle.isp_masks_code.proofs.Unions.{union_nobody, without_nobody, without_self}

-- with nobody in one of the parts
first_alone : (v : Res) → both_sides v (λ s1. went_all nobody s1) ≡ v
first_alone (Went s g b c r) =
    ap (λ z. Went s z (union b nobody) (union c nobody) (union r nobody)) (union_nobody g)
    ∙ ap (λ z. Went s g z (union c nobody) (union r nobody)) (union_nobody b) ∙ ap (λ z. Went s g b z (union r nobody)) (union_nobody c) ∙ ap (Went s g b c) (union_nobody r)
first_alone (Trapped t s) = refl
first_alone (Cut s) = refl

second_alone : (v : Res) → go_on v (λ s g b c r. Went s (union nobody g) (union nobody b) (union nobody c) (union nobody r)) ≡ v
second_alone (Went s g b c r) = refl
second_alone (Trapped t s) = refl
second_alone (Cut s) = refl

pub branches_parts : (gang : ℕ) (a : Mask) (first second : Mask → State → Res) (m : Payload) (s : State) → any gang a ≡ true
    → branches gang a first second m s ≡ both_sides (unless_empty gang (kept_by is_true a m) s first)
    (λ s1. unless_empty gang (without a (kept_by is_true a m)) s1 second)
branches_parts gang a first second (Each c) s some = refl
branches_parts gang a first second (One c) s some = go (is_true c)
  where
    go : (b : Bool) → if_so b (first a) (second a) s ≡ both_sides (unless_empty gang (if b then a else nobody) s first) (λ s1. unless_empty gang (without a (if b then a else nobody)) s1 second)
    go true =
        sym
        (ap (λ z. both_sides (if_so z (first a) (went_all a) s) (λ s1. unless_empty gang (without a a) s1 second)) some
        ∙ ap (λ z. both_sides (first a s) (λ s1. unless_empty gang z s1 second)) (without_self a)
        ∙ ap (λ z. both_sides (first a s) (λ s1. if_so z (second nobody) (went_all nobody) s1)) (any_nobody gang) ∙ first_alone (first a s))
    go false =
        sym
        (ap (λ z. both_sides (if_so z (first nobody) (went_all nobody) s) (λ s1. unless_empty gang (without a nobody) s1 second)) (any_nobody gang)
        ∙ second_alone (unless_empty gang (without a nobody) s second) ∙ ap (λ z. unless_empty gang z s second) (without_nobody a) ∙ ap (λ z. if_so z (second a) (went_all a) s) some)

pub nobody_left : (gang : ℕ) (a : Mask) (s : State) → went_all a s ≡ unless_empty gang a s went_all
nobody_left gang a s = go (any gang a)
  where
    go : (b : Bool) → went_all a s ≡ if_so b (went_all a) (went_all a) s
    go true = refl
    go false = refl
