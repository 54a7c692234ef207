use Rattle.std.proofs.Common.{◌∙◌, sym, ap, map, eq-eqb, ne_eqb}
use Rattle.std.specs.Prelude.{option_map, slice_get}
use Rattle.std.specs.BTreeMap.{get}
use Rattle.std.specs.Ordering.{nat_cmp}
use Rattle.std.proofs.lemmas.Option.{slice_get-map}
use Rattle.isp_registers.specs.Lookup.{name_of, row_of}
use Rattle.isp_lower_code.specs.Rows.{name_number}
use Rattle.isp_registers.proofs.Lookup.{found_number, found_elem, none_behind, none_other, own_found}
use Rattle.isp_registers.proofs.register_rows.RegisterRows.find.Goals as goal

pub returns-in-Some-clause-number : goal.returns-in-Some-clause-number
returns-in-Some-clause-number c =
    let rows = c.self.inside.rows.items in
    let place = c.in_ok-place.field-0.now in
    let row = c.in-Some.row in
    let told = ap (get nat_cmp c.self.inside.places) (sym c.name_number-number.ensures) ∙ sym c.in_ok-place.ensures.value in
    let at = ap (λ z. slice_get z place) (sym c.as_slice.ensures.value) ∙ (sym c.row_at.ensures ∙ c.in-Some.is) in
    let stands = slice_get-map row_of rows place ∙ ap (option_map row_of) at in
    let same = eq-eqb (name_number (name_of row.name)) (name_number (name_of c.args.name)) (sym c.name_number.ensures ∙ (c.if-name_number-number.true ∙ c.name_number-number.ensures)) in
    rw (← c.self.view_is) (found_number c.self.inside.places (map row_of rows) (name_of c.args.name) c.self.invariant.0 place (row_of row) told stands same)

pub returns-in-Some-clause-elem : goal.returns-in-Some-clause-elem
returns-in-Some-clause-elem c =
    let rows = c.self.inside.rows.items in
    let place = c.in_ok-place.field-0.now in
    let row = c.in-Some.row in
    let told = ap (get nat_cmp c.self.inside.places) (sym c.name_number-number.ensures) ∙ sym c.in_ok-place.ensures.value in
    let at = ap (λ z. slice_get z place) (sym c.as_slice.ensures.value) ∙ (sym c.row_at.ensures ∙ c.in-Some.is) in
    let stands = slice_get-map row_of rows place ∙ ap (option_map row_of) at in
    let same = eq-eqb (name_number (name_of row.name)) (name_number (name_of c.args.name)) (sym c.name_number.ensures ∙ (c.if-name_number-number.true ∙ c.name_number-number.ensures)) in
    rw (← c.self.view_is) (found_elem c.self.inside.places (map row_of rows) (name_of c.args.name) c.self.invariant.0 place (row_of row) told stands same)

pub returns-in_default-clause-none : goal.returns-in_default-clause-none
returns-in_default-clause-none c =
    let rows = c.self.inside.rows.items in
    let place = c.in_ok-place.field-0.now in
    let row = c.in-Some.row in
    let told = ap (get nat_cmp c.self.inside.places) (sym c.name_number-number.ensures) ∙ sym c.in_ok-place.ensures.value in
    let at = ap (λ z. slice_get z place) (sym c.as_slice.ensures.value) ∙ (sym c.row_at.ensures ∙ c.in-Some.is) in
    let stands = slice_get-map row_of rows place ∙ ap (option_map row_of) at in
    let other = ne_eqb (name_number (name_of row.name)) (name_number (name_of c.args.name)) (λ e. c.if-name_number-number.false (c.name_number.ensures ∙ (e ∙ sym c.name_number-number.ensures))) in
    rw (← c.self.view_is) (none_other c.self.inside.places (map row_of rows) (name_of c.args.name) c.self.invariant.0 place (row_of row) told stands other)

pub returns-in_default-2-clause-none : goal.returns-in_default-2-clause-none
returns-in_default-2-clause-none c =
    let rows = c.self.inside.rows.items in
    let place = c.in_ok-place.field-0.now in
    let told = ap (get nat_cmp c.self.inside.places) (sym c.name_number-number.ensures) ∙ sym c.in_ok-place.ensures.value in
    let at = ap (λ z. slice_get z place) (sym c.as_slice.ensures.value) ∙ (sym c.row_at.ensures ∙ c.in_default.is) in
    let stands = slice_get-map row_of rows place ∙ ap (option_map row_of) at in
    rw (← c.self.view_is) (none_behind c.self.inside.places (map row_of rows) (name_of c.args.name) c.self.invariant.0 place told stands)

pub returns-in-Some-clause-own : goal.returns-in-Some-clause-own
returns-in-Some-clause-own c =
    let rows = c.self.inside.rows.items in
    let place = c.in_ok-place.field-0.now in
    let row = c.in-Some.row in
    let at = ap (λ z. slice_get z place) (sym c.as_slice.ensures.value) ∙ (sym c.row_at.ensures ∙ c.in-Some.is) in
    own_found rows place row (name_of c.args.name) at (sym c.name_number.ensures ∙ (c.if-name_number-number.true ∙ c.name_number-number.ensures)) c.self.invariant.1
