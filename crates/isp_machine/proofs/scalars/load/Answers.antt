use Rattle.std.proofs.Common.{sym, ◌∙◌, subst, ◌<◌, ◌^◌, Err}
use Rattle.isp_base.specs.Sets.{flag_of}
use Rattle.isp_base.specs.Values.{width}
use Rattle.isp_base.specs.declared.trap.Trap.{Trap}
use Rattle.isp_base.specs.declared.types.Elem.{Elem}
use Rattle.isp_code.specs.declared.instr.ScalarInstr.TheVariants as scalar
use Rattle.isp_frames.specs.Moves.{ScalarIs}
use Rattle.isp_frames.proofs.Stored.{loaded, not_loaded}
use Rattle.isp_machine.proofs.scalars.load.Goals as goal

pub returns-in-Ok-clause-value : goal.returns-in-Ok-clause-value
returns-in-Ok-clause-value g c =
    loaded c.args.here.now c.args.stores.now c.args.frame.now c.args.access.array c.args.access.index c.args.access.mask c.args.d c.args.access.place
    c.requires.operands.1.0.1 c.store-store.result c.scalar.result c.store-store.ensures.value c.store-store.ensures.size c.scalar.ensures.value
    c.in-Ok.bits c.in-Ok.ensures.inside c.in-Ok.ensures.value

pub returns-in-Ok-clause-fits : goal.returns-in-Ok-clause-fits
returns-in-Ok-clause-fits g c = subst (λ (t : Elem). c.in-Ok.bits < 2 ^ width t) (c.store-store.ensures.elem ∙ c.requires.operands.1.0.2) c.in-Ok.ensures.fits

pub returns-in-Err-clause-value : goal.returns-in-Err-clause-value
returns-in-Err-clause-value g c =
    subst (λ (t : Trap). ScalarIs c.args.here.now c.args.stores.now c.args.frame.now c.args.d (scalar.Load c.args.access.array c.args.access.index c.args.access.mask c.args.access.place) (Err t)) (sym c.trap.ensures)
    (not_loaded c.args.here.now c.args.stores.now c.args.frame.now c.args.access.array c.args.access.index c.args.access.mask c.args.d
    c.args.access.place c.requires.operands.1.0.1 c.store-store.result c.scalar.result c.store-store.ensures.value c.store-store.ensures.size
    c.scalar.ensures.value
    g.row.N (flag_of c.mask.result.now) c.in-Err.trap.instance c.requires.works.gang c.mask.ensures c.in-Err.ensures.lane c.in-Err.ensures.outside)
