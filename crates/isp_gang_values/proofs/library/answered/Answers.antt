use Rattle.std.proofs.Common.{sym, ap, ap₂, ◌∙◌, ℕ}
use Rattle.std.proofs.Common.{w32}
use Rattle.std.proofs.lemmas.Int.{to_z-of_z}
use Rattle.isp_base.specs.Cross.{extract, reduce_best}
use Rattle.isp_base.specs.Maps.{on}
use Rattle.isp_base.specs.Sets.{flag_of}
use Rattle.isp_base.specs.Types.{gang_width}
use Rattle.isp_base.specs.Values.{number}
use Rattle.isp_base.specs.declared.operators.BinOp.TheVariants as op
use Rattle.isp_base.specs.declared.types.Elem.TheVariants.{I32}
use Rattle.isp_meaning.specs.Library.{library_value}
use Rattle.isp_meaning.specs.Payloads.{One, Each}
use Rattle.isp_gang_values.specs.Seen.{payload_of}
use Rattle.isp_gang_values.proofs.library.answered.Goals as goal

pub returns-in-ReduceMin : goal.returns-in-ReduceMin
returns-in-ReduceMin c =
    ap One (c.extreme.ensures ∙ ap (reduce_best op.Min c.args.elem (gang_width c.args.gang)) c.spread-row.ensures)
    ∙ sym (ap (λ f. library_value (gang_width c.args.gang) c.args.elem (flag_of c.args.set.now) f (payload_of c.args.x.now) (payload_of c.args.y.now) (payload_of c.args.z.now)) c.in-ReduceMin.is)

pub returns-in-ReduceMax : goal.returns-in-ReduceMax
returns-in-ReduceMax c =
    ap One (c.extreme-in-ReduceMax.ensures ∙ ap (reduce_best op.Max c.args.elem (gang_width c.args.gang)) c.spread-row.ensures)
    ∙ sym (ap (λ f. library_value (gang_width c.args.gang) c.args.elem (flag_of c.args.set.now) f (payload_of c.args.x.now) (payload_of c.args.y.now) (payload_of c.args.z.now)) c.in-ReduceMax.is)

pub returns-in-Broadcast : goal.returns-in-Broadcast
returns-in-Broadcast c =
    ap Each (c.repeated.ensures ∙ ap (λ (v : ℕ). on (flag_of c.args.set.now) (λ p. v))
    (c.extracted.ensures ∙ ap₂ (extract (gang_width c.args.gang)) c.spread-row.ensures
    (to_z-of_z w32 c.int-count.result (record { sfits = c.int-count.type_inv }) ∙ c.int-count.ensures ∙ ap (number I32) c.sole.ensures)))
    ∙ sym (ap (λ f. library_value (gang_width c.args.gang) c.args.elem (flag_of c.args.set.now) f (payload_of c.args.x.now) (payload_of c.args.y.now) (payload_of c.args.z.now)) c.in-Broadcast.is)
