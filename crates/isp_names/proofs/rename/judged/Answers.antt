use Rattle.isp_typed.specs.Views.{program_of}
use Rattle.isp_names.proofs.rename.judged.Goals as goal

pub returns-then-same-clause-ok : goal.returns-then-same-clause-ok
returns-then-same-clause-ok c =
    let new = c.in_ok-new.new in
    record {
      other = program_of new.program;
      others = new.tokens;
      noted = new.notes.items;
      known = c.in_ok-new.ensures.ok;
      same = c.same.ensures.tree c.if-same.true;
      alike = c.same.ensures.tokens c.if-same.true;
    }
