use Rattle.std.proofs.Common.{◌≡◌, sym, ap, ◌∙◌, ℕ, ◌+◌, Option, Some, None}
use Rattle.isp_base.specs.Sets.{flag_of, lowest}
use Rattle.isp_base.specs.Types.{gang_width}
use Rattle.isp_base.specs.declared.trap.Trap.{Trap}
use Rattle.isp_base.specs.declared.trap.TrapKind.TheVariants.{Assert}
use Rattle.isp_base.specs.Cross.{or_zero}
use Rattle.isp_code.specs.Conf.{Fail}
use Rattle.isp_code.specs.Lines.{moved, unless, next}
use Rattle.isp_code.specs.declared.instr.Instr.TheVariants as instr
use Rattle.isp_frames.specs.Views.{conf_of, masks_at}
use Rattle.isp_frames.proofs.MaskViews.{found_first, any_lowest}
use Rattle.isp_frames.proofs.Shaping.{goes_to}
use Rattle.isp_machine.proofs.jumps.fail.Goals as goal

pub returns-then-any_lane-clause-err : goal.returns-then-any_lane-clause-err
returns-then-any_lane-clause-err g c =
    let h = c.args.here.now in
    let f = c.args.frame.now in
    let m = flag_of c.mask.result.now in
    let lane : c.first_lane-lane.result ≡ or_zero (lowest g.row.N m) = c.first_lane-lane.ensures.value ∙ (λ j. or_zero (lowest g.row.N ((c.mask-then-any_lane.ensures ∙ sym c.mask.ensures) j))) in
    let low : lowest (gang_width h.code.gang) (masks_at f c.args.x.number)
    ≡ Some c.first_lane-lane.result = sym (λ j. lowest (c.requires.gang j) (c.mask.ensures j))
    ∙ found_first g.row.N m c.first_lane-lane.result (sym c.any_lane.ensures ∙ c.if-any_lane.true) lane in
    λ s ws out.
    ap (λ (l : Option ℕ). moved (unless h.code h.routine (conf_of s f ws out) l Assert c.args.place (next (conf_of s f ws out))) (λ c1. c1)) low ∙ ap (λ (t : Trap). Fail t) (sym c.trap.ensures)

pub returns-clause-ok : goal.returns-clause-ok
returns-clause-ok g c =
    let h = c.args.here.now in
    let f = c.args.frame.now in
    let none : lowest (gang_width h.code.gang) (masks_at f c.args.x.number) ≡ None = sym (λ j. lowest (c.requires.gang j) (c.mask.ensures j)) ∙ any_lowest g.row.N (flag_of c.mask.result.now) (sym c.any_lane.ensures ∙ c.if-any_lane.false) in
    λ s opened.
    goes_to h s f c.requires.shaped opened (instr.Fail c.args.x c.args.place) (f.pc + 1) c.next.new.self
    (λ ws out. ap (λ (l : Option ℕ). moved (unless h.code h.routine (conf_of s f ws out) l Assert c.args.place (next (conf_of s f ws out))) (λ c1. c1)) none) c.next.ensures
