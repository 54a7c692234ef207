use Rattle.std.proofs.Common.{◌≡◌, ◌∙◌, sym, ap, subst, length, map, ◌++◌, ◌∷◌, [], List}
use Rattle.isp_registers.specs.Lookup.{row_of}
use Rattle.isp_lower_code.specs.Rows.{Fresh, number_in}
use Rattle.isp_registers.specs.declared.registers.RegisterName.TheVariants as one
use Rattle.isp_registers.specs.declared.registers.RegisterRow.{RegisterRow}
use Rattle.isp_registers.proofs.Lookup.{fresh_number}
use Rattle.isp_registers.proofs.register_rows.RegisterRows.fresh.Goals as goal

pub returns-clause-named : goal.returns-clause-named
returns-clause-named c =
    let rows = c.self.inside.rows.items in
    let n : c.len-number.result ≡ length rows = c.len-number.ensures ∙ c.self.inside.rows.ok.0 in
    let row : RegisterRow = record { name = one.Fresh c.len-number.result; elem = c.args.elem } in
    let all : c.push.new.self ≡ rows ++ row ∷ [] = c.in_ok-push.ensures.ok ∙ ap (λ (z : List RegisterRow). z ++ row ∷ []) (sym c.self.view_is) in
    let is : row_of row ≡ record { name = Fresh (length rows); elem = c.args.elem } = ap (λ k. record { name = Fresh k; elem = c.args.elem }) n in
    subst (λ k. number_in (map row_of c.push.new.self) (Fresh k) ≡ k) (sym n)
    (fresh_number rows c.push.new.self row c.args.elem all is c.self.invariant.1)
