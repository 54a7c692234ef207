use Rattle.std.proofs.Common.{◌≡◌, ◌++◌, ◌∙◌, sym, ap, arith, false, true}
use Rattle.std.proofs.lemmas.Result.{on_ok_weaker}
use Rattle.isp_wasm_binary.specs.Numbers.{is_small}
use Rattle.isp_wasm_binary.proofs.Steps.{behind_byte, signed_one, signed_more, signed_rest}
use Rattle.isp_wasm_binary.proofs.bytes.Bytes.signed.Goals as goal

pub loop-self-preserved : goal.loop-self-preserved
loop-self-preserved c =
    let large : is_small c.loop-self.bits c.loop-self.rest ≡ false = sym c.is_small.ensures ∙ c.loop-self-test.true in
    let h = c.loop-self.invariant in
    record {
      written = behind_byte _ _ _ _ c.in_ok-byte.ensures ∙ ap (λ t. c.loop-self.self ++ t) (sym (signed_more c.loop-self.bits c.loop-self.rest h.within large)) ∙ h.written;
      within = signed_rest c.loop-self.bits c.loop-self.rest h.within large;
      few = omega arith;
    }

pub returns : goal.returns
returns c =
    let small : is_small c.loop-self.bits c.loop-self.rest ≡ true = sym c.is_small.ensures ∙ c.loop-self-test.false in
    on_ok_weaker c.byte-2.result
    (λ e. e ∙ ap (λ t. c.loop-self.self ++ t) (c.last_byte.ensures ∙ sym (signed_one c.loop-self.bits c.loop-self.rest small)) ∙ c.loop-self.invariant.written)
    c.byte-2.ensures
