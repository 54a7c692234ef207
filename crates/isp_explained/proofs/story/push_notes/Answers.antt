use Rattle.isp_verdicts.proofs.Lines.{entry_is_found}
use Rattle.isp_explained.proofs.story.push_notes.Goals as goal

pub breach-requires : goal.breach-requires
breach-requires c = entry_is_found c.args.checked.now.functions.items c.loop-k.k c.in-Some.name.now c.in-Some.ensures
