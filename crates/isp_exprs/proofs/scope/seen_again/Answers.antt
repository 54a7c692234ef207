use Rattle.std.proofs.Common.{◌∙◌, ℕ, List, sym, ap₂, cond, rules}
use Rattle.std.specs.Prelude.{Option, Some, None, bytes_eq}
use Rattle.std.specs.BTreeMap.{get_by_text}
use Rattle.std.proofs.lemmas.Map.Text.{btree_map_updates_text}
use Rattle.isp_exprs.proofs.scope.seen_again.Goals as goal

pub returns-in-Some-get_mut : goal.returns-in-Some-get_mut
returns-in-Some-get_mut c = λ h w.
    btree_map_updates_text c.as_str.result.now c.args.places.now (c.get_mut.follows.lender c.in-Some.place) (Some c.in-Some.place) ((c.get_mut.follows.holds c.in-Some.place).3 (search rules)) w
    ∙ ap₂ (λ (z : List ℕ) (o : Option ℕ). cond (bytes_eq z w) o (get_by_text c.args.places.now w)) c.as_str.ensures (sym c.in-Some.is)

pub returns-in-None : goal.returns-in-None
returns-in-None c = λ h w.
    btree_map_updates_text c.as_str-in-None.result.now c.args.places.now c.remove.new.self None c.remove.ensures.updates w
    ∙ ap₂ (λ (z : List ℕ) (o : Option ℕ). cond (bytes_eq z w) o (get_by_text c.args.places.now w)) c.as_str-in-None.ensures (sym c.in-None.is)
