use Rattle.std.proofs.Common.{◌∙◌, sym, ap}
use Rattle.std.specs.Prelude.{Some, string_bytes}
use Rattle.std.specs.BTreeMap.{get_by_text}
use Rattle.std.proofs.lemmas.Map.Text.{btree_map_updates_text}
use Rattle.isp_exprs.specs.reader.Scopes.{last_place, hidden_places}
use Rattle.isp_exprs.proofs.Bindings.{places_more}
use Rattle.isp_exprs.proofs.Shadows.{hidden_pushed, popped_back, same_places}
use Rattle.isp_exprs.proofs.scope.Scope.push.Goals as goal

pub invariant_of-self-in-Ok-insert : goal.invariant_of-self-in-Ok-insert
invariant_of-self-in-Ok-insert c =
    let s = c.self.inside in (
      (λ w. rw c.in-Ok.ensures.items
          (places_more w s.names.items _ (string_bytes c.in_ok-key.key) c.len-place.result (get_by_text s.places w) (get_by_text c.insert.new.self w)
          (c.in_ok-key.ensures.ok ∙ c.as_str.ensures ∙ sym c.in_ok-name.ensures) (c.len-place.ensures ∙ s.names.ok.0) (c.self.invariant.0 w)
          (btree_map_updates_text (string_bytes c.in_ok-key.key) s.places c.insert.new.self (Some c.len-place.result) c.in-Ok-insert.ensures.updates w))),
      rw (c.in_ok-push.ensures.items, c.in-Ok.ensures.items) (hidden_pushed s.names.items _ s.hidden.items _ c.self.invariant.1
          (c.copied-before.ensures ∙ (rw c.as_str-2.ensures at c.get.ensures.value ∙ c.self.invariant.0 c.in_ok-name.name))),
    )

pub invariant_of-self-in-Err-insert : goal.invariant_of-self-in-Err-insert
invariant_of-self-in-Err-insert c =
    let s = c.self.inside in
    let names = popped_back s.names.items c.push-2.new.self.items c.pop-in-Err-insert.new.self.items _ _ c.in-Ok.ensures.items c.push-2.new.self.ok.0 c.pop-in-Err-insert.ensures.rest in
    let hidden = popped_back s.hidden.items c.push.new.self.items c.pop-in-Err-insert-2.new.self.items _ _ c.in_ok-push.ensures.items c.push.new.self.ok.0 c.pop-in-Err-insert-2.ensures.rest in
    ((λ w. same_places w s.places c.insert.new.self c.in-Err-insert.ensures.err ∙ (c.self.invariant.0 w ∙ ap (last_place w) (sym names))), hidden ∙ (c.self.invariant.1 ∙ ap hidden_places (sym names)))
