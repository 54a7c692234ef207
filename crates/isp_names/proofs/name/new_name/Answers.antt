use Rattle.std.proofs.Common.{◌∙◌, refl}
use Rattle.std.proofs.lemmas.Result.{IfErr-weaker, on_ok_weaker}
use Rattle.isp_names.proofs.Refusals.{by_another}
use Rattle.isp_names.proofs.Words.{may_be_given, name_token, name_tokens}
use Rattle.isp_names.proofs.name.new_name.Goals as goal

pub returns-in-Ok-clause-ok : goal.returns-in-Ok-clause-ok
returns-in-Ok-clause-ok c =
    on_ok_weaker c.one_word.result (may_be_given c.args.name.now _ _ c.as_slice.ensures.items c.in-Ok.ensures.slices c.in-Ok.ensures.length.1) c.one_word.ensures.ok

pub returns-in-Ok-clause-err : goal.returns-in-Ok-clause-err
returns-in-Ok-clause-err c =
    let w = c.args.name.now in
    IfErr-weaker c.one_word.result _ _ (by_another _ _ (λ other n. other (name_token w) (c.as_slice.ensures.items ∙ c.in-Ok.ensures.only _ (name_tokens w n) n.short) refl) w) c.one_word.ensures.err

pub returns-in-Err-Refused-clause-err : goal.returns-in-Err-Refused-clause-err
returns-in-Err-Refused-clause-err c = λ n.
    let e = c.in-Err-Refused.ensures.only _ (name_tokens c.args.name.now n) n.short in
    cc
