use Rattle.std.proofs.Common.{sym, ◌∙◌, ap}
use Rattle.isp_asm.specs.Faults.{takes}
use Rattle.isp_asm.specs.reader.Drafting.{drafted, seen_of}
use Rattle.isp_asm.specs.reader.Reading.{words_of}
use Rattle.isp_asm.proofs.LineSteps.{ok_stands, ok_words}
use Rattle.isp_asm.proofs.draft.Draft.parse_words.Goals as goal

pub returns-then-takes-clause-words : goal.returns-then-takes-clause-words
returns-then-takes-clause-words c =
    ok_words c.args.first.now (words_of c.args.operands.now) c.in-Some.head c.read.result (sym c.of.ensures ∙ c.in-Some.is) c.read.ensures.spelled

pub returns-then-takes-clause-stands : goal.returns-then-takes-clause-stands
returns-then-takes-clause-stands c =
    ok_stands (seen_of (drafted c.args.self.now)) (words_of c.args.operands.now) c.in-Some.head c.read.result
    (ap (λ k. takes (seen_of (drafted c.args.self.now)) k) (sym c.kind.ensures) ∙ sym c.takes.ensures ∙ c.if-takes.true)
    c.read.ensures.spelled c.read.ensures.fits
