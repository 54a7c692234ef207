-- What operators make of lanes, as the templates have it.
use Rattle.std.proofs.Common.{◌≡◌, ℕ, zero, suc, refl, ap, ◌∙◌}
use Rattle.isp_base.specs.declared.types.Elem.TheVariants.{Bool as Truth}
use Rattle.isp_code.specs.declared.instr.Reduction.TheVariants as reduction
use Rattle.isp_code.specs.declared.instr.Scan.{Scan}
use Rattle.isp_code.specs.declared.instr.Scan.TheVariants as scan
use Rattle.isp_code.specs.declared.register.Register.{Register}
use Rattle.isp_wasm_meaning.specs.Syntax.{I32, And, Or, BitsOf, Expr, Const32, Two}
use Rattle.isp_wasm.specs.Places.{Setting, elem, gang}
use Rattle.isp_wasm.specs.Words.{plain_expr}
use Rattle.isp_wasm.specs.Templates.{folded, lane_or, reduce_expr, scan_expr}
use Rattle.isp_wasm_vectors.specs.declared.folds.Item.TheVariants.{Lane}
use Rattle.isp_wasm_vectors.specs.reader.Across.{fold_expr, of_bools, plain_of, scan_fold, taken_expr, unit_expr}

module _ (w : Setting) where
  same_folded : (f g : Expr → Expr → Expr) (e : Expr) (x y : ℕ → Expr) → ((a b : Expr) → f a b ≡ g a b) → ((p : ℕ) → x p ≡ y p)
      → (n : ℕ) → folded w f e x n ≡ folded w g e y n
  same_folded f g e x y h k zero = refl
  same_folded f g e x y h k (suc n) =
      ap (λ a. f a (x n)) (same_folded f g e x y h k n) ∙ ap (f (folded w g e y n)) (k n) ∙ h (folded w g e y n) (y n)

  pub any_is : (x k : Register) → fold_expr w (of_bools scan.Or Lane x k) (gang w) ≡ reduce_expr w reduction.Any x k
  any_is x k =
      same_folded (plain_expr (plain_of scan.Or) Truth) (Two (BitsOf I32 Or)) (Const32 0) (taken_expr w (of_bools scan.Or Lane x k)) (lane_or w x k (Const32 0))
      (λ a b. refl) (λ p. refl) (gang w)

  pub all_is : (x k : Register) → fold_expr w (of_bools scan.And Lane x k) (gang w) ≡ reduce_expr w reduction.All x k
  all_is x k =
      same_folded (plain_expr (plain_of scan.And) Truth) (Two (BitsOf I32 And)) (Const32 1) (taken_expr w (of_bools scan.And Lane x k)) (lane_or w x k (Const32 1))
      (λ a b. refl) (λ p. refl) (gang w)

  pub scan_is : (o : Scan) (x k : Register) (n : ℕ) → fold_expr w (scan_fold o (elem w x) x k) n ≡ scan_expr w o x k n
  scan_is scan.Add x k n =
      let f = scan_fold scan.Add (elem w x) x k in
      same_folded (plain_expr (plain_of scan.Add) (elem w x)) (plain_expr (plain_of scan.Add) (elem w x)) (unit_expr f) (taken_expr w f) (lane_or w x k (unit_expr f))
      (λ a b. refl) (λ p. refl) n
  scan_is scan.And x k n =
      let f = scan_fold scan.And (elem w x) x k in
      same_folded (plain_expr (plain_of scan.And) (elem w x)) (plain_expr (plain_of scan.And) (elem w x)) (unit_expr f) (taken_expr w f) (lane_or w x k (unit_expr f))
      (λ a b. refl) (λ p. refl) n
  scan_is scan.Or x k n =
      let f = scan_fold scan.Or (elem w x) x k in
      same_folded (plain_expr (plain_of scan.Or) (elem w x)) (plain_expr (plain_of scan.Or) (elem w x)) (unit_expr f) (taken_expr w f) (lane_or w x k (unit_expr f))
      (λ a b. refl) (λ p. refl) n
