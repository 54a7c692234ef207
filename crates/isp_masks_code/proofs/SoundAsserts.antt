-- The instructions of an `assert` have their operands.
use Rattle.std.proofs.Common.{◌≡◌, ℕ, ◌+◌, ◌<◌, ◌≤◌, List, [], ◌∷◌, length, refl, ◌∙◌, arith, length-append}
use Rattle.isp_base.specs.declared.types.Elem.TheVariants.{Bool as Truth}
use Rattle.isp_base.specs.declared.types.Rate.{Rate}
use Rattle.isp_base.specs.declared.types.Rate.TheVariants.{Uniform, Varying}
use Rattle.isp_base.specs.declared.types.Span.{Span}
use Rattle.isp_code.specs.Listing.{Listing, Routine}
use Rattle.isp_typed.specs.Typed.{TExpr, type_of, TFunction}
use Rattle.isp_lower_code.specs.Asks.{test_asks}
use Rattle.isp_lower_code.specs.Code.{expr_code}
use Rattle.isp_lower_code.specs.Found.{found}
use Rattle.isp_lower_code.specs.Spans.{expr_places}
use Rattle.isp_lower_code.specs.Layout.{Layout}
use Rattle.isp_lower_code.specs.Sound.{AreSound, Granted, IsRegister, Links}
use Rattle.isp_lower_code.proofs.Lemmas.{ExprTree, found_there, sound_both, value_sound}
use Rattle.isp_masks_code.specs.Asks.{assert_asks}
use Rattle.isp_masks_code.specs.Asserts.{assert_code, assert_places, fails_code}

module _ (code : Listing) (h : Routine) (l : Layout) where
  fails_sound : (r : Rate) (x pc p k n : ℕ) → k < h.masks → IsRegister h r x Truth → Granted h l (test_asks r n) → p < length code.places → pc + length (fails_code r x pc p k n) < length h.code → AreSound code h (fails_code r x pc p k n)
  fails_sound Uniform x pc p k n lk hx f lp lt = ((((hx.0, hx.1), (omega (arith, lt), tt)), tt), ((((refl, lk), (lp, tt)), tt), tt))
  fails_sound Varying x pc p k n lk hx f lp lt =
      ((((refl, f), ((hx.0, hx.1), ((refl, lk), tt))), tt), ((((refl, f), ((refl, lk), ((refl, f), tt))), tt), ((((refl, f), (lp, tt)), tt), tt)))

  module _ (fs : List TFunction) (links : Links fs code h l) where
    pub assert_sound : (x : TExpr) (c : Span) (pc p k n : ℕ) → ExprTree fs x → (type_of x).elem ≡ Truth → Granted h l (assert_asks x n) → k < h.masks
        → p + length (assert_places l x c) ≤ length code.places → pc + length (assert_code l x pc p k n) < length h.code
        → AreSound code h (assert_code l x pc p k n)
    assert_sound x c pc p k n is bool f lk pl lt =
        let ce = expr_code l x pc p k n in
        let pe = expr_places l x in
        let rest = fails_code (type_of x).rate (found l x n) (pc + length ce) (p + length pe) k n in
        let e1 = length-append ce rest in
        let e2 = length-append pe (c ∷ []) in
        let test = found_there fs h l links.constants x n is f.0 in
        sound_both code h ce rest (value_sound fs code h l links x n is f.0 pc p k lk (omega (arith, e2, pl)) (omega (arith, e1, lt)))
        (fails_sound (type_of x).rate (found l x n) (pc + length ce) (p + length pe) k n lk (test.0, test.1 ∙ bool) f.1 (omega (arith, e2, pl))
        (omega (arith, e1, lt)))
