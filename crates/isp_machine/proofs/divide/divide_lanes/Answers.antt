use Rattle.std.proofs.Common.{◌≡◌, refl, sym, ap, ◌∙◌, ℕ, ◌+◌, Option, None}
use Rattle.isp_base.specs.Access.{is_zero}
use Rattle.isp_base.specs.Maps.{Map, on, over, map2, lowest_failing}
use Rattle.isp_base.specs.Types.{gang_width}
use Rattle.isp_base.specs.Values.{op_bits}
use Rattle.isp_base.specs.declared.trap.TrapKind.TheVariants.{Divide}
use Rattle.isp_code.specs.Lines.{division_of, divided, moved, unless, set_vector}
use Rattle.isp_code.specs.Registers.{elem_of}
use Rattle.isp_code.specs.declared.instr.Instr.TheVariants as instr
use Rattle.isp_code.specs.declared.register.Class.{Class}
use Rattle.isp_frames.specs.Arrays.{vector_in}
use Rattle.isp_frames.specs.Rows.{FrameRows}
use Rattle.isp_frames.specs.Views.{conf_of, vectors_at, masks_at}
use Rattle.isp_frames.proofs.Shaping.{goes_by_vector}
use Rattle.isp_machine.proofs.divide.divide_lanes.Goals as goal

pub returns-in-Ok-clause-ok : goal.returns-in-Ok-clause-ok
returns-in-Ok-clause-ok g c =
    let h = c.args.here.now in
    let f = c.args.frame.now in
    let a = c.args in
    let o = division_of a.ratio.op in
    let t = elem_of h.routine a.d in
    let m = masks_at f a.ratio.mask.number in
    let x : Map = on m (vectors_at f a.ratio.dividend.number) in
    let y : Map = on m (vectors_at f a.ratio.divisor.number) in
    let lanes : Map = map2 (op_bits o t) x y in
    let left = c.in-Ok.ensures.lanes in
    let low : lowest_failing (gang_width h.code.gang) (is_zero o t) y ≡ None = sym (λ j. lowest_failing (c.requires.gang j) (is_zero o (c.vector_told.ensures.elem j)) y) ∙ c.in-Ok.ensures.none in
    λ s opened.
    goes_by_vector h s f c.requires.shaped opened a.d (instr.Divide a.ratio.op a.d a.ratio.dividend a.ratio.divisor a.ratio.mask a.ratio.place) lanes
    (vector_in f a.d.number) left.value c.next.new.self c.requires.d refl (left.elem ∙ c.vector_told.ensures.elem)
    (λ ws out.
    ap (λ (r : Class). divided h.code h.routine (conf_of s f ws out) r o a.d a.ratio.dividend a.ratio.divisor a.ratio.mask a.ratio.place) c.requires.d.0
    ∙ ap (λ (l : Option ℕ). moved (unless h.code h.routine (conf_of s f ws out) l Divide a.ratio.place lanes) (set_vector (conf_of s f ws out) a.d)) low)
    (left.bits ∙ (λ j. over (map2 (op_bits o (c.vector_told.ensures.elem j)) x y) (vectors_at f a.d.number)))
    (c.next.ensures ∙ ap (λ (z : FrameRows). record z { pc = z.pc + 1 }) left.now)
