use Rattle.std.proofs.Common.{◌∙◌, sym, ap}
use Rattle.std.specs.Prelude.{Some, string_bytes}
use Rattle.std.specs.BTreeMap.{get_by_text}
use Rattle.std.proofs.lemmas.Map.Text.{btree_map_updates_text}
use Rattle.isp_exprs.specs.reader.Headings.{heading_of, headings_of}
use Rattle.isp_exprs.proofs.Headings.{headings_more, headings_counted, number_known, number_new, number_of, known_is}
use Rattle.isp_exprs.proofs.callee.Headers.push.Goals as goal

pub invariant_of-self-then-known : goal.invariant_of-self-then-known
invariant_of-self-then-known c = λ w.
    let s = c.self.inside in
    let h = c.args.header in
    let known = known_is h.name s.numbers (headings_of s.all.items) _ _ c.contains_key-known.ensures c.as_str.ensures (c.self.invariant h.name) in
    number_known w (headings_of s.all.items) (heading_of h) (get_by_text s.numbers w) (c.self.invariant w) (sym c.if-known.true ∙ known)
    ∙ ap (number_of w) (sym (headings_more s.all.items c.push.new.self.items h c.in_ok-push.ensures.items))

pub invariant_of-self-in-Ok : goal.invariant_of-self-in-Ok
invariant_of-self-in-Ok c = λ w.
    let s = c.self.inside in
    let h = c.args.header in
    let known = known_is h.name s.numbers (headings_of s.all.items) _ _ c.contains_key-known.ensures c.as_str.ensures (c.self.invariant h.name) in
    number_new w (headings_of s.all.items) (heading_of h) (string_bytes c.in_ok-key.key) c.len-number.result (get_by_text s.numbers w) (get_by_text c.insert.new.self w)
    (c.in_ok-key.ensures.ok ∙ c.as_str-2.ensures) (c.len-number.ensures ∙ (s.all.ok.0 ∙ headings_counted s.all.items)) (c.self.invariant w) (sym c.if-known.false ∙ known)
    (btree_map_updates_text (string_bytes c.in_ok-key.key) s.numbers c.insert.new.self (Some c.len-number.result) c.in-Ok.ensures.updates w)
    ∙ ap (number_of w) (sym (headings_more s.all.items c.push.new.self.items h c.in_ok-push.ensures.items))
