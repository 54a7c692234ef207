use Rattle.std.proofs.Common.{sym, ◌∙◌, arith}
use Rattle.isp_packed.proofs.Writes.{one_bytes}
use Rattle.isp_packed.proofs.answers.put_bytes.Goals as goal

pub returns : goal.returns
returns c =
    c.copy_from_slice.ensures.after ∙ sym (one_bytes c.args.words.now (λ k. let h = c.type_inv.words k in omega (arith, h)))
