-- The 16 bytes of constants.
use Rattle.std.proofs.Common.{◌≡◌, ◌-◌, ◌^◌, [], ◌∷◌, refl}
use Rattle.std.specs.Prelude.{slice_index}
use Rattle.isp_wasm_meaning.specs.Digits.{packed}
use Rattle.isp_wasm_meaning.specs.Meaning.{of_lanes}
use Rattle.isp_wasm_meaning.specs.Syntax.{I64x2}

pub zeros_are : packed 256 16 (slice_index (0 ∷ 0 ∷ 0 ∷ 0 ∷ 0 ∷ 0 ∷ 0 ∷ 0 ∷ 0 ∷ 0 ∷ 0 ∷ 0 ∷ 0 ∷ 0 ∷ 0 ∷ 0 ∷ [])) ≡ 0
unfolding packed
zeros_are = refl

pub ones_are : packed 256 16 (slice_index (255 ∷ 255 ∷ 255 ∷ 255 ∷ 255 ∷ 255 ∷ 255 ∷ 255 ∷ 255 ∷ 255 ∷ 255 ∷ 255 ∷ 255 ∷ 255 ∷ 255 ∷ 255 ∷ [])) ≡ 2 ^ 128 - 1
unfolding packed
ones_are = refl

pub top_bits_are : packed 256 16 (slice_index (0 ∷ 0 ∷ 0 ∷ 0 ∷ 0 ∷ 0 ∷ 0 ∷ 128 ∷ 0 ∷ 0 ∷ 0 ∷ 0 ∷ 0 ∷ 0 ∷ 0 ∷ 128 ∷ [])) ≡ of_lanes I64x2 (λ i. 2 ^ 63)
unfolding packed
top_bits_are = refl
