use Rattle.std.proofs.Common.{sym, ap, ◌∙◌, arith, None}
use Rattle.isp_gang_values.proofs.Vectors.{at_there, at_past}
use Rattle.isp_solo_run.specs.Arrays.{wrote_in}
use Rattle.isp_solo_run.proofs.arrays.Arrays.stored_at.Goals as goal

pub returns-then-store-len : goal.returns-then-store-len
returns-then-store-len c =
    c.stored_at.ensures ∙ ap (λ s. wrote_in s c.args.place) c.index.ensures
    ∙ sym (ap (λ f. f c.args.place) (at_there wrote_in (λ e. None) c.args.self.now.stores.items c.args.store c.index.result.now (omega (arith, c.if-store-len.true, c.len.ensures))))

pub returns-else-store-len : goal.returns-else-store-len
returns-else-store-len c = sym (ap (λ f. f c.args.place) (at_past wrote_in (λ e. None) c.args.self.now.stores.items c.args.store (omega (arith, c.if-store-len.false, c.len.ensures))))
