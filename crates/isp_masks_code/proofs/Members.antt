-- Those that go on after a statement are of the set that it ran over, and all of the set where nobody leaves.
use Rattle.std.proofs.Common.{◌≡◌, ℕ, ◌+◌, Bool, true, false, refl, sym, ap, ◌∙◌, subst, arith}
use Rattle.std.specs.Prelude.{not, ◌||◌}
use Rattle.std.proofs.Math.Path.{fun_ext}
use Rattle.isp_base.specs.Sets.{Mask}
use Rattle.isp_base.specs.Types.{gang_width}
use Rattle.isp_typed.specs.Typed.{TStmt}
use Rattle.isp_meaning.specs.Laws.{Parted}
use Rattle.isp_meaning.specs.Outcomes.{Went}
use Rattle.isp_meaning.specs.Payloads.{bit}
use Rattle.isp_meaning.specs.State.{State}
use Rattle.isp_meaning.specs.Statements.{run}
use Rattle.isp_meaning.proofs.Parts.{four_sets}
use Rattle.isp_lower_code.specs.Setting.{Setting, IsSettled, gang_of, calls_of}
use Rattle.isp_masks_code.specs.Exits.{exits_of, nobody_leaves, all_go_on, Leave}
use Rattle.isp_masks_code.specs.StmtRuns.{Inside}
use Rattle.isp_masks_code.specs.declared.exits.Exits.{Exits}
use Rattle.isp_masks_code.proofs.Exiting.{run_leaves}

-- who is counted in a part is counted in the whole
counted_in : (x y : Bool) (n : ℕ) → bit x + n ≡ bit y → x ≡ true → y ≡ true
counted_in x true n e h = refl
counted_in true false n e h = absurd (omega (arith, e))
counted_in false false n e h = absurd (cc)

-- and is the only part where the others are empty
alone_in : (x y : Bool) → bit x + (0 + (0 + 0)) ≡ bit y → x ≡ y
alone_in true true e = refl
alone_in true false e = absurd (omega (arith, e))
alone_in false true e = absurd (omega (arith, e))
alone_in false false e = refl

pub none_of : (b c r : Bool) → not (b || (c || r)) ≡ true → (b ≡ false) × (c ≡ false) × (r ≡ false)
none_of true c r e = absurd (cc)
none_of false true r e = absurd (cc)
none_of false false true e = absurd (cc)
none_of false false false e = (refl, refl, refl)

-- where nobody leaves, all go on
pub whole : (e : Exits) (a g b c r : Mask) (s : State) → Parted a (Went s g b c r) → Leave e (Went s g b c r) → nobody_leaves e ≡ true → g ≡ a
whole e a g b c r s parts leave all =
    let none = none_of e.breaks e.continues e.returns all in
    fun_ext
    (λ p. alone_in (g p) (a p)
    (ap (λ m. bit (g p) + (bit (m p) + (0 + 0))) (sym (leave.0 none.0)) ∙ ap (λ m. bit (g p) + (bit (b p) + (bit (m p) + 0))) (sym (leave.1 none.1)) ∙ ap (λ m. bit (g p) + (bit (b p) + (bit (c p) + bit (m p)))) (sym (leave.2 none.2)) ∙ parts p))

module _ (w : Setting) (ready : IsSettled w) (x : TStmt) (a : Mask) (s s1 : State) (g b ct rt : Mask) (went : run (gang_of w) w.frame (calls_of w) w.turns x a s ≡ Went s1 g b ct rt) where
  parted : Parted a (Went s1 g b ct rt)
  parted = subst (Parted a) went (subst (λ u. Parted a (run (gang_width u) w.frame (calls_of w) w.turns x a s)) (sym ready.gang) (four_sets w.program w.turns w.left w.frame x a s))

  pub went_inside : Inside w a → Inside w g
  went_inside inside p h = inside p (counted_in (g p) (a p) _ (parted p) h)

  pub went_whole : all_go_on x ≡ true → g ≡ a
  went_whole all =
      whole (exits_of x) a g b ct rt s1 parted (subst (Leave (exits_of x)) went (run_leaves (gang_of w) w.frame (calls_of w) w.turns x a s)) all
