-- A text of bytes fits if it has one.
use Rattle.std.proofs.Common.{◌≡◌, refl, sym, ap, ap₂, ◌∙◌, ℕ, suc, ◌<◌, List, [], ◌∷◌, length, get_or, Bool, true, not, ◌&&◌, ◌==◌, lt-ltb, ne_eqb, arith}
use Rattle.std.specs.List.{list_all}
use Rattle.isp_code.specs.Writable.{has_byte, is_byte, text_fits}

are_bytes : (bs : List ℕ) → ((k : ℕ) → get_or bs k 0 < 256) → list_all is_byte bs ≡ true
are_bytes [] small = refl
are_bytes (b ∷ bs) small = ap₂ (λ x y. x && y) (lt-ltb b 256 (small 0)) (are_bytes bs (λ k. small (suc k)))

pub text_tested : (bs : List ℕ) (empty : Bool) → empty ≡ (length bs == 0) → ((k : ℕ) → get_or bs k 0 < 256) → not empty ≡ text_fits bs
text_tested [] empty is small = ap not is
text_tested (b ∷ bs) empty is small = ap not (is ∙ ne_eqb (suc (length bs)) 0 (λ e. omega (arith, e))) ∙ sym (are_bytes (b ∷ bs) small)

pub byte_tested : (bs : List ℕ) (empty : Bool) → empty ≡ (length bs == 0) → not empty ≡ has_byte bs
byte_tested [] empty is = ap not is
byte_tested (b ∷ bs) empty is = ap not (is ∙ ne_eqb (suc (length bs)) 0 (λ e. omega (arith, e)))
