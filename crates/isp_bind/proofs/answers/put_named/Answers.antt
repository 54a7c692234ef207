use Rattle.std.proofs.Common.{ap, ◌∙◌}
use Rattle.isp_bind.specs.Entries.{entries_members}
use Rattle.isp_bind.proofs.Texts.{entries_put}
use Rattle.isp_bind.proofs.answers.put_named.Goals as goal

pub returns : goal.returns
returns c =
    ap entries_members c.in_ok-insert.ensures.entries ∙ entries_put c.args.named.now.entries c.args.name c.args.array
