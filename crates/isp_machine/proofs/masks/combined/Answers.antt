use Rattle.std.proofs.Common.{ap, ◌∙◌, sym, refl, not, ◌&&◌, ◌||◌}
use Rattle.isp_base.specs.Sets.{flag_of}
use Rattle.isp_code.specs.Lines.{combined}
use Rattle.isp_code.specs.declared.instr.MaskOp.{MaskOp}
use Rattle.isp_frames.proofs.LaneViews.{joined}
use Rattle.isp_machine.proofs.masks.combined.Goals as goal

pub returns-in-And : goal.returns-in-And
returns-in-And g c = ap flag_of c.and.ensures ∙ joined g.row.N (λ a b. a && b) refl c.args.x.now c.args.y.now c.told.ensures.long c.told-2.ensures.long ∙ ap (λ (o : MaskOp). combined o (flag_of c.args.x.now) (flag_of c.args.y.now)) (sym c.in-And.is)

pub returns-in-Or : goal.returns-in-Or
returns-in-Or g c = ap flag_of c.or.ensures ∙ joined g.row.N (λ a b. a || b) refl c.args.x.now c.args.y.now c.told.ensures.long c.told-2.ensures.long ∙ ap (λ (o : MaskOp). combined o (flag_of c.args.x.now) (flag_of c.args.y.now)) (sym c.in-Or.is)

pub returns-in-AndNot : goal.returns-in-AndNot
returns-in-AndNot g c = ap flag_of c.and_not.ensures
    ∙ joined g.row.N (λ a b. a && not b) refl c.args.x.now c.args.y.now c.told.ensures.long c.told-2.ensures.long
    ∙ ap (λ (o : MaskOp). combined o (flag_of c.args.x.now) (flag_of c.args.y.now)) (sym c.in-AndNot.is)
