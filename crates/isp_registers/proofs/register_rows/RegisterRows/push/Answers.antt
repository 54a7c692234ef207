use Rattle.std.proofs.Common.{◌∙◌, sym, ap, subst, map, ◌++◌, ◌∷◌, []}
use Rattle.isp_registers.specs.Lookup.{AreNamedFrom, Tells, row_of}
use Rattle.isp_registers.proofs.Lookup.{pushed_known, pushed_named, pushed_new, refused_new}
use Rattle.isp_registers.proofs.register_rows.RegisterRows.push.Goals as goal
use Rattle.isp_registers.proofs.register_rows.RegisterRows.push.Goals.{then-is_none+in_ok-insert, else-is_none}

pub invariant_of-self-in_err-append : goal.invariant_of-self-in_err-append
invariant_of-self-in_err-append c =
    let s = c.self.inside in
    let new = c.append.new.rows.items in (
      elim c.if-is_none.branch [
        | then-is_none+in_ok-insert w ↦ rw (ap (λ z. z.places) w.self-inside-is)
            (subst (λ zs. Tells w.insert.new.self (map row_of zs)) (sym (c.in_err-append.ensures.err ∙ ap (λ z. z.rows.items) w.self-inside-is))
            (refused_new s.rows.items c.args.row c.find.result s.places w.insert.new.self w.name_number.result w.len.result c.self.invariant.0
            w.if-is_none.ensures (rw (sym c.self.view_is) at c.find.ensures.none) w.name_number.ensures w.in_ok-insert.ensures.updates.0))
        | else-is_none w ↦ rw (ap (λ z. z.places) w.self-inside-is)
            (subst (λ zs. Tells s.places (map row_of zs)) (sym (c.in_err-append.ensures.err ∙ ap (λ z. z.rows.items) w.self-inside-is)) c.self.invariant.0)
      ],
      elim c.if-is_none.branch [
        | then-is_none+in_ok-insert w ↦ subst (λ zs. AreNamedFrom 0 (map row_of zs)) (sym (c.in_err-append.ensures.err ∙ ap (λ z. z.rows.items) w.self-inside-is)) c.self.invariant.1
        | else-is_none w ↦ subst (λ zs. AreNamedFrom 0 (map row_of zs)) (sym (c.in_err-append.ensures.err ∙ ap (λ z. z.rows.items) w.self-inside-is)) c.self.invariant.1
      ],
    )

pub invariant_of-self-2 : goal.invariant_of-self-2
invariant_of-self-2 c =
    let s = c.self.inside in
    let new = c.append.new.rows.items in
    let at = rw (sym c.self.view_is) at c.requires.named in (
      elim c.if-is_none.branch [
        | then-is_none+in_ok-insert w ↦ rw (ap (λ z. z.places) w.self-inside-is)
            (pushed_new s.rows.items new c.args.row c.find.result (c.in_ok-append.ensures.ok ∙ ap (λ z. z.rows.items ++ c.args.row ∷ []) w.self-inside-is)
            s.places w.insert.new.self w.name_number.result w.len.result c.self.invariant.0 w.if-is_none.ensures (rw (sym c.self.view_is) at c.find.ensures.none) w.name_number.ensures (w.len.ensures ∙ s.rows.ok.0) w.in_ok-insert.ensures.updates.0)
        | else-is_none w ↦ rw (ap (λ z. z.places) w.self-inside-is)
            (pushed_known s.rows.items new c.args.row c.find.result (c.in_ok-append.ensures.ok ∙ ap (λ z. z.rows.items ++ c.args.row ∷ []) w.self-inside-is)
            s.places c.self.invariant.0 w.if-is_none.ensures (rw (sym c.self.view_is) at c.find.ensures.elem))
      ],
      elim c.if-is_none.branch [
        | then-is_none+in_ok-insert w ↦ pushed_named s.rows.items new c.args.row (c.in_ok-append.ensures.ok ∙ ap (λ z. z.rows.items ++ c.args.row ∷ []) w.self-inside-is) c.self.invariant.1 at c.requires.own
        | else-is_none w ↦ pushed_named s.rows.items new c.args.row (c.in_ok-append.ensures.ok ∙ ap (λ z. z.rows.items ++ c.args.row ∷ []) w.self-inside-is) c.self.invariant.1 at c.requires.own
      ],
    )
