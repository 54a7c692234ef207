use Rattle.isp_run_words.proofs.Patterns.{parts}
use Rattle.isp_run_words.proofs.words.parts.Goals as goal

pub returns : goal.returns
returns c = parts c.args.word.now c.split_once.result c.split_once.ensures.cases
