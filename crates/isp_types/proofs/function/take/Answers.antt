use Rattle.std.proofs.Common.{◌∙◌, true}
use Rattle.std.specs.Prelude.{string_bytes}
use Rattle.std.proofs.lemmas.Map.Text.{btree_set_updates_text}
use Rattle.isp_types.proofs.function.take.Goals as goal

pub returns : goal.returns
returns c = λ w.
    let k = c.in_ok-key.ensures.ok ∙ c.as_str.ensures in
    rw (← k) (btree_set_updates_text (string_bytes c.in_ok-key.key) c.args.taken.now c.insert.new.self true c.in_ok-insert.ensures.updates w)
