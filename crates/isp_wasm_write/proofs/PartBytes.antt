-- The bytes of parts that are constants.
use Rattle.std.proofs.Common.{◌≡◌, ℕ, ◌<◌, List, get_or, refl}
use Rattle.std.specs.Prelude.{slice_index}
use Rattle.isp_base.specs.Sets.{nobody}
use Rattle.isp_wasm_meaning.specs.Digits.{packed}
use Rattle.isp_wasm_meaning.specs.Meaning.{of_lanes}
use Rattle.isp_wasm_meaning.specs.Syntax.{I8x16}
use Rattle.isp_wasm_meaning.proofs.Digits.{packed-same}
use Rattle.isp_wasm.specs.Templates.{mask_part}

-- 16 bytes are the lanes of a part
pub same_part : (bytes : List ℕ) (f : ℕ → ℕ) → ((k : ℕ) → k < 16 → get_or bytes k 0 ≡ f k) → packed 256 16 (slice_index bytes) ≡ of_lanes I8x16 f
same_part bytes f h = packed-same 256 16 (slice_index bytes) f h

pub nobody_is : (j : ℕ) → mask_part nobody j ≡ 0
unfolding packed
nobody_is j = refl
