use Rattle.std.proofs.Common.{◌∙◌, string_bytes}
use Rattle.std.specs.BTreeMap.{get_by_text}
use Rattle.std.proofs.lemmas.Map.Text.{btree_map_updates_text}
use Rattle.isp_bind.proofs.Members.{names_step}
use Rattle.isp_bind.proofs.arguments.names.Goals as goal

pub loop-param-preserved : goal.loop-param-preserved
loop-param-preserved c = λ w.
    names_step c.args.params.now c.loop-param.param-index c.param-item.result w (string_bytes c.in_ok-name.name) _ (get_by_text c.loop-param.names w) (get_by_text c.insert.new.self w) _
    c.loop-param-test.true c.param-item.is (c.in_ok-name.ensures.ok ∙ c.as_str.ensures)
    (btree_map_updates_text (string_bytes c.in_ok-name.name) c.loop-param.names c.insert.new.self _ c.in_ok-insert.ensures.updates w) (c.loop-param.invariant w)
