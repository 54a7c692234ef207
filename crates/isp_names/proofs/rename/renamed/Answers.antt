use Rattle.std.proofs.Common.{◌≡◌, rules}
use Rattle.std.specs.Prelude.{Some}
use Rattle.std.proofs.lemmas.Result.{IfErr-weaker}
use Rattle.isp_typed.specs.Views.{program_of}
use Rattle.isp_known.specs.Places.{subject_at, word_of}
use Rattle.isp_names.proofs.Refusals.{both_ok, by_clash}
use Rattle.isp_names.proofs.rename.renamed.Goals as goal

pub returns-in-Some-clause-ok : goal.returns-in-Some-clause-ok
returns-in-Some-clause-ok c =
    let old = c.in_ok-old.old in
    let stands : subject_at (word_of c.args.text.now c.args.at).start old.notes.items ≡ Some c.in-Some.subject = search rules in
    both_ok c.replace.result (λ v spans alike. record {
      given = c.in_ok-new_name.ensures.ok;
      program = program_of old.program;
      tokens = old.tokens;
      notes = old.notes.items;
      known = c.in_ok-old.ensures.ok;
      subject = c.in-Some.subject;
      stands = stands;
      spans_are = spans;
      alike = alike;
    }) c.replace.ensures.spans c.replace.ensures.alike

pub returns-in-Some-clause-err : goal.returns-in-Some-clause-err
returns-in-Some-clause-err c =
    let old = c.in_ok-old.old in
    let stands : subject_at (word_of c.args.text.now c.args.at).start old.notes.items ≡ Some c.in-Some.subject = search rules in
    IfErr-weaker c.replace.result _ _ (by_clash c.args.gang c.args.text.now c.args.at c.args.name.now _ (λ f faulty. record {
      program = program_of old.program;
      tokens = old.tokens;
      notes = old.notes.items;
      known = c.in_ok-old.ensures.ok;
      subject = c.in-Some.subject;
      stands = stands;
      faulty = faulty;
    })) c.replace.ensures.err
