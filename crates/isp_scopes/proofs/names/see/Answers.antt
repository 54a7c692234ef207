use Rattle.std.specs.Prelude.{string_bytes}
use Rattle.std.proofs.Common.{true}
use Rattle.std.proofs.lemmas.Map.Text.{btree_set_updates_text}
use Rattle.isp_scopes.proofs.names.see.Goals as goal

pub returns : goal.returns
returns c = λ w. rw (← c.in_ok-key.ensures.ok) (btree_set_updates_text (string_bytes c.in_ok-key.key) c.args.seen.now c.insert.new.self true c.in_ok-insert.ensures.updates w)
