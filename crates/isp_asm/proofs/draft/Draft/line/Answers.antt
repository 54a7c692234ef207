use Rattle.isp_asm.specs.reader.Drafting.{drafted}
use Rattle.isp_asm.specs.reader.Reading.{said}
use Rattle.isp_asm.proofs.LineSteps.{line_added}
use Rattle.isp_asm.proofs.draft.Draft.line.Goals as goal

pub returns-clause-ok : goal.returns-clause-ok
returns-clause-ok c =
    rw c.in_ok-take.ensures (line_added (said c.in_ok-line.line) (drafted c.args.self.now) c.args.text.now c.requires (record { words = c.in_ok-line.ensures.words; stands = c.in_ok-line.ensures.stands }))
