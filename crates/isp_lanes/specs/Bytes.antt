-- The bytes of 0 and 1 that hold a mask, made again from its lanes: a mask may be copied because nothing is lost.
use Rattle.std.specs.Prelude.{◌≡◌, ℕ, zero, suc, ◌<◌, List, [], ◌∷◌, Bool, cond, map, refl}
use Rattle.std.proofs.Common.{ap₂, arith, get_or}
use Rattle.isp_lanes.specs.Lanes.{is_on}

abbrev pub byte_of : Bool → ℕ
byte_of b = cond b 1 0

byte_back : (x : ℕ) → x < 2 → byte_of (is_on x) ≡ x
byte_back zero p = refl
byte_back (suc zero) p = refl
byte_back (suc (suc x)) p = absurd (omega arith)

pub bytes_back : (xs : List ℕ) → ((k : ℕ) → get_or xs k 0 < 2) → map byte_of (map is_on xs) ≡ xs
bytes_back [] p = refl
bytes_back (x ∷ xs) p = ap₂ (λ c t. c ∷ t) (byte_back x (p 0)) (bytes_back xs (λ k. p (suc k)))
