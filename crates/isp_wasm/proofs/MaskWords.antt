-- What expressions over a mask's locals compute.
use Rattle.std.proofs.Common.{◌≡◌, ℕ, ◌+◌, ◌-◌, ◌*◌, ◌/◌, ◌%◌, ◌^◌, not, sym, ap, ◌∙◌, arith}
use Rattle.std.specs.Prelude.{nat_eq}
use Rattle.isp_base.specs.Cross.{or_zero}
use Rattle.isp_base.specs.Maps.{Lanes}
use Rattle.isp_base.specs.Sets.{Mask, lowest, any, all}
use Rattle.isp_code.specs.declared.register.Register.{Register}
use Rattle.isp_wasm_meaning.specs.Meaning.{value, flags, chosen, trailing}
use Rattle.isp_wasm.specs.Places as place
use Rattle.isp_wasm.specs.Places.{Setting, gang}
use Rattle.isp_wasm.specs.Templates.{is_member, lanes_as_bits, lowest_of}
use Rattle.isp_wasm.specs.Standing.{Holds}
use Rattle.isp_wasm.proofs.Lowest.{both_parts, low_or_zero, member_bits, any_is, all_is}
use Rattle.isp_wasm.proofs.Vectors.{narrow}

module _ (w : Setting) (sc : ℕ → ℕ) (ve : ℕ → Lanes) (ma : ℕ → Mask) (l : ℕ → ℕ) (h : Holds w sc ve ma l) (m : Register) where
  pub word_is : value l (lanes_as_bits w m) ≡ member_bits 32 (ma m.number)
  word_is = both_parts (ma m.number) (l (w.local (place.Mask m.number 0))) (l (w.local (place.Mask m.number 1))) (h.masks_are m.number 0) (h.masks_are m.number 1)

  pub some_is : any (gang w) (ma m.number) ≡ not (nat_eq (value l (lanes_as_bits w m)) 0)
  some_is = any_is (gang w) (ma m.number) (narrow w.code.gang) (h.members m.number) ∙ ap (λ x. not (nat_eq x 0)) (sym word_is)

  pub full_is : all (gang w) (ma m.number) ≡ nat_eq (value l (lanes_as_bits w m)) (2 ^ gang w - 1)
  full_is = all_is (gang w) (ma m.number) (narrow w.code.gang) (h.members m.number) ∙ ap (λ x. nat_eq x (2 ^ gang w - 1)) (sym word_is)

  pub lowest_is : value l (lowest_of w m) ≡ or_zero (lowest (gang w) (ma m.number))
  lowest_is = ap (λ b. chosen b (trailing 32 b) 0) word_is ∙ low_or_zero (gang w) (ma m.number) (narrow w.code.gang) (h.members m.number)

  pub member_is : (p : ℕ) → value l (is_member w m p) ≡ flags 8 (ma m.number p)
  member_is p = h.masks_are m.number (p / 16) (p % 16) (omega arith) ∙ ap (λ r. flags 8 (ma m.number r)) (let e : p / 16 * 16 + p % 16 ≡ p = omega arith in e)
