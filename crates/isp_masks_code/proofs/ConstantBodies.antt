-- A function's body after the code that keeps its constants, which the body's own unit of work pays.
use Rattle.std.proofs.Common.{◌≡◌, ◌≢◌, ◌≤◌, ℕ, ◌+◌, ◌*◌, List, [], ◌∷◌, ◌++◌, length, true, refl, ap, ◌∙◌, subst, arith, length-append}
use Rattle.isp_base.specs.Sets.{Mask, any}
use Rattle.isp_base.specs.declared.types.Elem.{Elem}
use Rattle.isp_base.specs.declared.types.Rate.{Rate}
use Rattle.isp_base.specs.declared.types.Rate.TheVariants.{Uniform, Varying}
use Rattle.isp_code.specs.Conf.{Conf}
use Rattle.isp_code.specs.declared.instr.Instr.{Instr}
use Rattle.isp_typed.specs.Typed.{TBlock, t_braces}
use Rattle.isp_meaning.specs.State.{State, tick}
use Rattle.isp_meaning.specs.Statements.{block, run_all}
use Rattle.isp_lower_code.specs.Pieces.{two}
use Rattle.isp_lower_code.specs.Layout.{Layout}
use Rattle.isp_lower_code.specs.Tables.{IsTyped}
use Rattle.isp_lower_code.specs.Setting.{Setting, IsSettled, gang_of, calls_of, AreAt, At}
use Rattle.isp_lower_code.proofs.Lemmas.{are_front, are_back}
use Rattle.isp_lower_code.specs.declared.constant.Constant.{Constant}
use Rattle.isp_masks_code.specs.Keeping.{Each, KeepsThem, constants_code, keep_at, keep_code, keep_steps, steps_at}
use Rattle.isp_masks_code.specs.Named.{BlockNamed}
use Rattle.isp_masks_code.specs.Spots.{Numbers, first_spot}
use Rattle.isp_masks_code.specs.Statements.{block_code, stmts_code}
use Rattle.isp_masks_code.specs.StmtRuns.{AreThree, Inside, StmtRuns}
use Rattle.isp_masks_code.proofs.Combine.{stmt_after}
use Rattle.isp_masks_code.proofs.ConstantsRun.{Bare, KeepAll, NoneOutside, constants_run}
use Rattle.isp_masks_code.proofs.Parts.{BlockParts}
use Rattle.isp_masks_code.proofs.Stmts.{stmts_runs}

pub first_three : AreThree first_spot
first_three =
    let n01 : ◌≢◌ {A = ℕ} 0 1 = omega arith in
    let n02 : ◌≢◌ {A = ℕ} 0 2 = omega arith in
    let n12 : ◌≢◌ {A = ℕ} 1 2 = omega arith in
    record { low_on = omega arith; low_continued = omega arith; low_returned = omega arith; on_continued = n01; on_returned = n02; continued_returned = n12 }

-- ---- the code that keeps constants is short

at_steps : (l : Layout) (n : ℕ) (r : Rate) (t : Elem) (b : ℕ) → length (keep_at l n r t b) ≡ steps_at r
at_steps l n Uniform t b = refl
at_steps l n Varying t b = refl

all_steps : (l : Layout) (n : ℕ) (ks : List Constant) → length (keep_code l n ks) ≡ keep_steps ks
all_steps l n [] = refl
all_steps l n (x ∷ xs) =
    let a = keep_at l n x.rate x.elem x.bits in
    length-append a (keep_code l n xs) ∙ ap (λ m. m + length (keep_code l n xs)) (at_steps l n x.rate x.elem x.bits) ∙ ap (λ m. steps_at x.rate + m) (all_steps l n xs)

pub constants_short : (l : Layout) (n : ℕ) (ks : List Constant) → keep_steps ks ≤ 24 → length (constants_code l n ks) ≤ 30
constants_short l n [] le = omega arith
constants_short l n (x ∷ xs) le = let e = all_steps l n (x ∷ xs) in omega (arith, le, e)

-- ---- the body

module _ (w : Setting) (ready : IsSettled w) where
  abbrev kept : List Constant → List Instr
  kept ks = constants_code w.layout 3 ks

  both_so : (ks : List Constant) → Each (λ x. w.layout.kept x.rate x.elem x.bits ≡ true) ks → Each (λ x. IsTyped w Uniform (w.layout.spare Uniform x.elem 3) x.elem) ks → KeepAll w ready 3 ks
  both_so [] kept typed = tt
  both_so (x ∷ xs) kept typed = ((kept.0, typed.0), both_so xs kept.1 typed.1)

  -- with one step left for the return
  pub kept_body_runs : (x : TBlock) (ks : List Constant) (pc : ℕ) (z : Numbers) (q : ℕ) (a : Mask) (s : State) (c : Conf) → BlockParts w x 3 → KeepsThem w.layout ks → Each (λ x. IsTyped w Uniform (w.layout.spare Uniform x.elem 3) x.elem) ks
      → AreAt w.routine.code pc (two pc (kept ks) (λ pc1. block_code w.layout w.frame.answer x pc1 z first_spot)) → BlockNamed w z x → At w c pc → c.masks 0 ≡ a → any (gang_of w) a ≡ true → Inside w a → Bare w s c → NoneOutside w c → q ≤ 32 * s.work
      → StmtRuns w w.turns c (pc + length (two pc (kept ks) (λ pc1. block_code w.layout w.frame.answer x pc1 z first_spot))) first_spot (1 + q) (block (gang_of w) w.frame (calls_of w) w.turns x a s)
  kept_body_runs (t_braces xs sp) ks pc z q a s c fit keep typed has names at mask some inside st none used =
      let few = constants_short w.layout 3 ks keep.short in
      let m = length (kept ks) in
      let code = stmts_code w.layout w.frame.answer xs (pc + m) z first_spot in
      let end = pc + length (kept ks ++ code) in
      let to : pc + m + length code ≡ end = omega (arith, length-append (kept ks) code) in
      let k = constants_run w ready 3 ks pc s c (both_so ks keep.all typed) keep.only at (are_front w.routine.code pc (kept ks) code has) st none in
      let n0 : ◌≢◌ {A = ℕ} 0 3 = omega arith in
      stmt_after w ready w.turns c k.conf m end first_spot (1 + q) _ k.comes k.spares (λ r lt ne. let n3 : r ≢ 3 = omega arith in k.masks r n3) first_three
      (subst (λ e. StmtRuns w w.turns k.conf e first_spot (m + (1 + q)) (run_all (gang_of w) w.frame (calls_of w) w.turns xs a (tick s))) to
      (stmts_runs xs w ready (pc + m) z first_spot (m + (1 + q)) a (tick s) k.conf fit (are_back w.routine.code pc (kept ks) code has) names first_three
      (record { at = k.at; mask = k.masks 0 n0 ∙ mask; some = some; inside = inside; stands = k.stands; used = omega (arith, used, few); low = omega arith })))
