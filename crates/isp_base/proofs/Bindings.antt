-- When a list of arguments has no signature.
use Rattle.std.proofs.Common.{◌≡◌, refl, Bool, true, false, ◌&&◌, List, [], ◌∷◌, length, arith}
use Rattle.isp_base.specs.declared.signature.Parameter.{Parameter}
use Rattle.isp_base.specs.declared.signature.Argument.{Argument}
use Rattle.isp_base.specs.Binding.{is_for, has_signature}

and_false : (a b : Bool) → b ≡ false → (a && b) ≡ false
and_false true b e = e
and_false false b e = refl

-- lists of two lengths do not belong together
pub unlike : (ps : List Parameter) (xs : List Argument) → (length ps ≡ length xs → ⊥) → has_signature ps xs ≡ false
unlike [] [] n = absurd (n refl)
unlike [] (x ∷ xs) n = refl
unlike (p ∷ ps) [] n = refl
unlike (p ∷ ps) (x ∷ xs) n = and_false (is_for p x) (has_signature ps xs) (unlike ps xs (λ e. n (omega (arith, e))))
