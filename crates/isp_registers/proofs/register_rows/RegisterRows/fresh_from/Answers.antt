use Rattle.std.proofs.Common.{◌≡◌, ◌∙◌, ◌-◌, arith, length, map, subst}
use Rattle.isp_lower_code.specs.Rows.{with_many_fresh}
use Rattle.isp_registers.specs.Lookup.{row_of}
use Rattle.isp_registers.proofs.Filling.{filled_long}
use Rattle.isp_registers.proofs.register_rows.RegisterRows.fresh_from.Goals as goal

pub fresh-requires-2 : goal.fresh-requires-2
fresh-requires-2 c =
    let new = c.fill.new.self in
    let n = c.args.number in
    let t = c.args.elem in
    let filled = subst (λ xs. map row_of new ≡ with_many_fresh (n - length xs) t (map row_of xs)) c.in_ok-all.ensures c.in_ok-fill.ensures in
    omega (arith, filled_long c.args.self.now new n t filled, c.requires)

pub returns-clause-number : goal.returns-clause-number
returns-clause-number c =
    let new = c.fill.new.self in
    let n = c.args.number in
    let t = c.args.elem in
    let filled = subst (λ xs. map row_of new ≡ with_many_fresh (n - length xs) t (map row_of xs)) c.in_ok-all.ensures c.in_ok-fill.ensures in
    c.in_ok-given.ensures.number ∙ filled_long c.args.self.now new n t filled
