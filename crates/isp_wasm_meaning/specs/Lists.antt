-- The lists that shuffles name.
use Rattle.std.specs.Prelude.{ℕ, zero, suc, ◌+◌, ◌*◌, ◌/◌, ◌%◌, List, [], ◌∷◌}
use Rattle.isp_wasm_meaning.specs.Syntax.{Shape, I8x16, I16x8, I32x4, I64x2}

abbrev pub listed : ℕ → (ℕ → ℕ) → List ℕ
listed zero f = []
listed (suc n) f = f 0 ∷ listed n (λ i. f (suc i))

-- the bytes of half a lane
abbrev pub lane_bytes : Shape → ℕ
lane_bytes I8x16 = 1
lane_bytes I16x8 = 1
lane_bytes I32x4 = 2
lane_bytes I64x2 = 4

-- the low halves of all lanes of two vectors, side by side
abbrev pub evens : Shape → List ℕ
evens s = listed 16 (λ i. 2 * lane_bytes s * (i / lane_bytes s) + i % lane_bytes s)
