use Rattle.std.proofs.Common.{rules, ◌≡◌, ap, ◌∙◌, Option, Some, ℕ, slice_get}
use Rattle.std.specs.Prelude.{unwrap_or}
use Rattle.isp_base.specs.Types.{gang_width}
use Rattle.isp_code.specs.declared.register.Class.TheVariants as class
use Rattle.isp_code.specs.declared.register.Register.{Register}
use Rattle.isp_machine.specs.Seen.{has_register, seen_conf, seen_count}
use Rattle.isp_traces.specs.Executed.{lanes_on}
use Rattle.isp_traces.specs.Operands.{under}
use Rattle.isp_traces.proofs.Lanes.{on_or_zero}
use Rattle.isp_traces.proofs.counting.on_under.Goals as goal

pub returns-in-Some : goal.returns-in-Some
returns-in-Some g c =
    let m = c.args.machine.now in
    let k = c.in-Some.mask in
    let seen : c.lanes_on.result ≡ seen_count m k.number = search rules in
    let counted : c.unwrap_or.result ≡ unwrap_or c.lanes_on.result 0 = search rules in
    let named : Some k ≡ under c.args.instr.now = cc in
    ap (λ (n : ℕ). Some n) (counted ∙ on_or_zero (has_register (slice_get m.code.routines (seen_conf m).home.fn) class.Mask k.number) ((seen_conf m).masks k.number) (gang_width m.code.gang) c.lanes_on.result seen)
    ∙ ap (λ (o : Option Register). lanes_on m.code (seen_conf m) o) named
