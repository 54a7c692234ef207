use Rattle.std.proofs.Common.{◌≡◌, drop}
use Rattle.isp_files.specs.Reading.{word_of}
use Rattle.isp_files.proofs.reader.Reader.word.Given as goal

abbrev pub invariant-loop-sign : goal.invariant-loop-sign
invariant-loop-sign l = word_of l.flaw l.wanted l.initial.self ≡ word_of l.flaw (drop l.sign-index l.wanted) l.self
