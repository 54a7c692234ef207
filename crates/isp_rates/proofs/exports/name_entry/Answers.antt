use Rattle.std.proofs.Common.{ap, sym, ◌∙◌}
use Rattle.std.specs.Prelude.{Some, is_some, string_bytes}
use Rattle.std.specs.BTreeMap.{get_by_text}
use Rattle.std.proofs.lemmas.Map.Text.{btree_map_updates_text}
use Rattle.isp_rates.proofs.Entries.{entry_new}
use Rattle.isp_rates.proofs.exports.name_entry.Goals as goal

pub returns : goal.returns
returns c = λ w.
    let before = c.args.entries.now in
    entry_new w c.args.number c.args.one.now (get_by_text before) (string_bytes c.in_ok-name.name) (get_by_text c.insert.new.self w)
    c.if-not-one.false (ap (λ z. is_some (get_by_text before z)) (sym c.as_str.ensures) ∙ sym c.if-contains_key.ensures) (c.in_ok-name.ensures.ok ∙ c.as_str-2.ensures)
    (btree_map_updates_text (string_bytes c.in_ok-name.name) before c.insert.new.self (Some c.args.number) c.in_ok-insert.ensures.updates w)
