use Rattle.std.proofs.Common.{◌≡◌, ◌++◌, ◌∷◌, [], ◌∙◌, ap}
use Rattle.std.specs.Prelude.{is_some}
use Rattle.std.specs.Option.{option_flatten}
use Rattle.std.specs.BTreeMap.{get_by_text}
use Rattle.isp_exprs.specs.reader.Scopes.{last_place, hidden_places}
use Rattle.isp_exprs.proofs.Shadows.{hidden_last, hidden_rest, last_here, places_less}
use Rattle.isp_exprs.proofs.scope.Scope.pop.Goals as goal

pub invariant_of-self-2 : goal.invariant_of-self-2
invariant_of-self-2 c =
    let s = c.self.inside in
    let b = c.in-Some.binding in
    let ns = c.pop.new.self.items in
    let hs = c.pop-hidden.new.self.items in
    let all : s.names.items ≡ ns ++ b ∷ [] = c.in-Some.ensures.items in
    let marks : s.hidden.items ≡ hidden_places (ns ++ b ∷ []) = c.self.invariant.1 ∙ ap hidden_places all in
    let last = hidden_last s.hidden.items hs c.pop-hidden.result ns b _ s.hidden.ok.0 c.pop-hidden.ensures.items c.pop-hidden.ensures.variant.1 marks in
    let there = ap is_some (c.self.invariant.0 b.name ∙ (ap (last_place b.name) all ∙ last_here ns b)) in (
      (λ w. places_less w ns b (get_by_text s.places w) (get_by_text c.seen_again.new.places w) c.flatten.result (c.self.invariant.0 w ∙ ap (last_place w) all)
          (c.flatten.ensures ∙ ap option_flatten last) (c.seen_again.ensures there w)),
      hidden_rest s.hidden.items hs c.pop-hidden.result ns b _ s.hidden.ok.0 c.pop-hidden.ensures.items c.pop-hidden.ensures.variant.1 marks,
    )
