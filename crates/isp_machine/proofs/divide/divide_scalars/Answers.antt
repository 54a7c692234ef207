use Rattle.std.proofs.Common.{◌≡◌, sym, ap, ◌∙◌, subst, ℕ, ◌+◌, ◌<◌, ◌^◌, false, Bool, rules}
use Rattle.isp_base.specs.Access.{is_zero}
use Rattle.isp_base.specs.Values.{width, op_bits}
use Rattle.isp_base.specs.declared.trap.TrapKind.TheVariants.{Divide}
use Rattle.isp_base.specs.declared.types.Elem.{Elem}
use Rattle.isp_code.specs.Conf.{Go}
use Rattle.isp_code.specs.Lines.{division_of, divided, moved, unless, failing, set_scalar}
use Rattle.isp_code.specs.Registers.{elem_of}
use Rattle.isp_code.specs.declared.instr.Instr.TheVariants as instr
use Rattle.isp_code.specs.declared.register.Class.{Class}
use Rattle.isp_frames.specs.Rows.{FrameRows}
use Rattle.isp_frames.specs.Views.{conf_of, scalars_at}
use Rattle.isp_frames.proofs.MaskViews.{not_zero}
use Rattle.isp_frames.proofs.Shaping.{goes_by_scalar}
use Rattle.isp_machine.proofs.divide.divide_scalars.Goals as goal

pub returns-clause-ok : goal.returns-clause-ok
returns-clause-ok g c =
    let h = c.args.here.now in
    let f = c.args.frame.now in
    let a = c.args in
    let o = division_of a.ratio.op in
    let t = elem_of h.routine a.d in
    let low : c.scalar-divisor.result < 2 ^ width t = subst (λ (e : Elem). c.scalar-divisor.result < 2 ^ width e) c.requires.like_y c.scalar-divisor.ensures.fits in
    let some : 0 < c.scalar-divisor.result = search rules in
    let zero : is_zero o t (scalars_at f a.ratio.divisor.number) ≡ false = not_zero a.ratio.op t c.scalar-divisor.result (scalars_at f a.ratio.divisor.number) some low c.scalar-divisor.ensures.value in
    let bits : c.quotient-bits.result ≡ op_bits o t (scalars_at f a.ratio.dividend.number) (scalars_at f a.ratio.divisor.number) =
    c.quotient-bits.ensures.value ∙ (λ j. op_bits o (c.elem.ensures j) (c.scalar.ensures.value j) (c.scalar-divisor.ensures.value j)) in
    λ s opened.
    goes_by_scalar h s f c.requires.shaped opened a.d (instr.Divide a.ratio.op a.d a.ratio.dividend a.ratio.divisor a.ratio.mask a.ratio.place)
    c.quotient-bits.result c.next.new.self c.requires.d
    (subst (λ (e : Elem). c.quotient-bits.result < 2 ^ width e) c.elem.ensures c.quotient-bits.ensures.fits)
    (λ ws out.
    ap (λ (r : Class). divided h.code h.routine (conf_of s f ws out) r o a.d a.ratio.dividend a.ratio.divisor a.ratio.mask a.ratio.place) c.requires.d.0
    ∙ ap (λ (b : Bool). moved (unless h.code h.routine (conf_of s f ws out) (failing h.code h.routine (conf_of s f ws out) b a.ratio.mask) Divide
    a.ratio.place (op_bits o t (scalars_at f a.ratio.dividend.number) (scalars_at f a.ratio.divisor.number)))
    (set_scalar (conf_of s f ws out) a.d)) zero
    ∙ ap (λ (v : ℕ). Go (set_scalar (conf_of s f ws out) a.d v)) (sym bits))
    (c.next.ensures ∙ ap (λ (z : FrameRows). record z { pc = z.pc + 1 }) c.set_scalar.ensures)
