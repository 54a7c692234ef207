use Rattle.std.proofs.Common.{string_bytes, rules}
use Rattle.serde_json.specs.Data.{no_members}
use Rattle.isp_bind.specs.Answering.{named_arrays, shown_result}
use Rattle.isp_bind.proofs.Texts.{whole_answer}
use Rattle.isp_bind.proofs.answers.answer.Goals as goal

pub returns : goal.returns
returns c =
    whole_answer
    (named_arrays c.args.signature.now.params.items c.args.arrays.now no_members)
    (shown_result c.args.returned)
    (string_bytes c.in_ok-text.text) (string_bytes c.push_arrays.new.text) (string_bytes c.push_str.new.self) (string_bytes c.push_result.new.text) (string_bytes c.push_str-2.new.self)
    (search rules) (search rules) (search rules) (search rules) (search rules)
