use Rattle.std.proofs.Common.{◌∙◌, ap}
use Rattle.isp_asm.specs.Heads.{first_spelled}
use Rattle.isp_asm.proofs.head.Head.of.Goals as goal

pub returns : goal.returns
returns c = c.first_spelled.ensures ∙ ap (λ hs. first_spelled hs c.args.word.now) c.as_slice.ensures
