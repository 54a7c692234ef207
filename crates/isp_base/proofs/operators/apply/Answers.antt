use Rattle.std.proofs.Common.{◌≡◌, sym, ap, ap₂, ◌∙◌, ◌%◌, ◌^◌, ◌<◌, arith, pos, mod-lt, pow_pos, inl, inr}
use Rattle.isp_base.specs.Values.{width, greatest, op_bits}
use Rattle.isp_base.proofs.Elems.{number_below}
use Rattle.isp_base.proofs.Words.{low_op, zero_number}
use Rattle.isp_base.proofs.operators.apply.Goals as goal

pub returns-then-y-eq0 : goal.returns-then-y-eq0
returns-then-y-eq0 c =
    let t = c.args.elem in
    let e : c.args.y % 2 ^ width t ≡ 0 = sym c.low_bits-y.ensures ∙ c.if-y-eq0.true in
    (sym c.divides.ensures ∙ c.if-divides.true, number_below (width t) (greatest t) (c.args.y % 2 ^ width t) (omega (arith, e)) ∙ ap pos e)

pub returns-else-divides : goal.returns-else-divides
returns-else-divides c =
    let t = c.args.elem in
    let small : c.args.y % 2 ^ width t < 2 ^ width t = mod-lt c.args.y (pow_pos (width t)) in (
      λ d z. elim c.else-divides.either as (λ _. ⊥) [
        | inl h ↦ h.1 (c.low_bits-y.ensures ∙ zero_number t (c.args.y % 2 ^ width t) small z)
        | inr h ↦ grind (arith, d, h, c.divides.ensures)
      ],
      c.apply_nonzero.ensures ∙ ap₂ (λ a b. op_bits c.args.op t a b) c.low_bits-x.ensures c.low_bits-y.ensures ∙ low_op c.args.op t c.args.x c.args.y,
    )
