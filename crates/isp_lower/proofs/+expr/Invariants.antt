-- The recursion goes down the tree.
use Rattle.std.proofs.Common.{◌≡◌, ◌+◌, ◌-◌, ◌*◌, ◌++◌, drop}
use Rattle.isp_typed.specs.Nodes.{typed_nodes, place_nodes, base_nodes, call_nodes, argument_nodes, arguments_nodes, exprs_nodes}
use Rattle.isp_typed.specs.Typed.{t_arguments, t_exprs}
use Rattle.isp_typed.specs.Views.{argument_of, arguments_of, base_of, call_of, expr_of, exprs_of, place_of}
use Rattle.isp_lower_code.specs.Asks.{arguments_asks, values_asks}
use Rattle.isp_lower_code.specs.Code.{argument_registers, arguments_code, value_registers, values_code}
use Rattle.isp_lower_code.specs.Spans.{arguments_places, values_places}
use Rattle.isp_lower.specs.Emitted.{Appends, Present, layout}
use Rattle.isp_lower_code.specs.Library.{library_rates}
use Rattle.isp_lower.specs.Written.{numbers}
use Rattle.isp_lower.specs.declared.types.Body.{Body}
use Rattle.isp_lower.proofs.+expr.Given as goal

abbrev pub decreases-expression::write_to : goal.decreases-expression::write_to
decreases-expression::write_to l = 8 * typed_nodes (expr_of l.x.now) + 1

abbrev pub decreases-expression::expr : goal.decreases-expression::expr
decreases-expression::expr l = 8 * typed_nodes (expr_of l.x.now) + 2

abbrev pub decreases-expression::operand : goal.decreases-expression::operand
decreases-expression::operand l = 8 * typed_nodes (expr_of l.x.now) + 3

abbrev pub decreases-expression::copied : goal.decreases-expression::copied
decreases-expression::copied l = 8 * typed_nodes (expr_of l.x.now) + 4

abbrev pub decreases-expression::right_side : goal.decreases-expression::right_side
decreases-expression::right_side l = 8 * typed_nodes (expr_of l.x.now) + 5

abbrev pub decreases-expression::unary_to : goal.decreases-expression::unary_to
decreases-expression::unary_to l = 8 * typed_nodes (expr_of l.x.now) + 4

abbrev pub decreases-expression::binary_to : goal.decreases-expression::binary_to
decreases-expression::binary_to l = 8 * (typed_nodes (expr_of l.left.now) + typed_nodes (expr_of l.right.now)) + 4

abbrev pub decreases-expression::logic_to : goal.decreases-expression::logic_to
decreases-expression::logic_to l = 8 * (typed_nodes (expr_of l.left.now) + typed_nodes (expr_of l.right.now)) + 7

abbrev pub decreases-expression::logic_of_each : goal.decreases-expression::logic_of_each
decreases-expression::logic_of_each l = 8 * (typed_nodes (expr_of l.left.now) + typed_nodes (expr_of l.right.now)) + 6

abbrev pub decreases-expression::masked_side : goal.decreases-expression::masked_side
decreases-expression::masked_side l = 8 * typed_nodes (expr_of l.x.now) + 4

abbrev pub decreases-expression::choose_by_masks : goal.decreases-expression::choose_by_masks
decreases-expression::choose_by_masks l = 8 * (typed_nodes (expr_of l.then.now) + typed_nodes (expr_of l.otherwise.now)) + 5

abbrev pub decreases-expression::choose_to : goal.decreases-expression::choose_to
decreases-expression::choose_to l = 8 * (typed_nodes (expr_of l.test.now) + typed_nodes (expr_of l.then.now) + typed_nodes (expr_of l.otherwise.now)) + 7

abbrev pub decreases-expression::choose_each : goal.decreases-expression::choose_each
decreases-expression::choose_each l = 8 * (typed_nodes (expr_of l.test.now) + typed_nodes (expr_of l.then.now) + typed_nodes (expr_of l.otherwise.now)) + 6

abbrev pub decreases-expression::cast_to : goal.decreases-expression::cast_to
decreases-expression::cast_to l = 8 * typed_nodes (expr_of l.x.now) + 3

abbrev pub decreases-expression::compare_to : goal.decreases-expression::compare_to
decreases-expression::compare_to l = 8 * (typed_nodes (expr_of l.left.now) + typed_nodes (expr_of l.right.now)) + 4

abbrev pub decreases-expression::convert_to : goal.decreases-expression::convert_to
decreases-expression::convert_to l = 8 * typed_nodes (expr_of l.x.now) + 3

abbrev pub decreases-expression::converted_to : goal.decreases-expression::converted_to
decreases-expression::converted_to l = 8 * typed_nodes (expr_of l.x.now) + 4

abbrev pub decreases-expression::whole : goal.decreases-expression::whole
decreases-expression::whole l = 8 * typed_nodes (expr_of l.x.now) + 4

abbrev pub decreases-expression::index : goal.decreases-expression::index
decreases-expression::index l = 8 * typed_nodes (expr_of l.x.now) + 5

abbrev pub decreases-elements::element_index : goal.decreases-elements::element_index
decreases-elements::element_index l = 8 * typed_nodes (expr_of l.x.now) + 6

abbrev pub decreases-elements::element_to : goal.decreases-elements::element_to
decreases-elements::element_to l = 8 * typed_nodes (expr_of l.inner.now) + 7

abbrev pub decreases-expression::place_to : goal.decreases-expression::place_to
decreases-expression::place_to l = 8 * place_nodes (place_of l.place.now)

abbrev pub decreases-expression::logic_of_one : goal.decreases-expression::logic_of_one
decreases-expression::logic_of_one l = 8 * (typed_nodes (expr_of l.left.now) + typed_nodes (expr_of l.right.now)) + 6

abbrev pub decreases-expression::side : goal.decreases-expression::side
decreases-expression::side l = 8 * typed_nodes (expr_of l.x.now) + 4

abbrev pub decreases-expression::choose_by_jump : goal.decreases-expression::choose_by_jump
decreases-expression::choose_by_jump l = 8 * (typed_nodes (expr_of l.then.now) + typed_nodes (expr_of l.otherwise.now)) + 5

abbrev pub decreases-expression::choose_one : goal.decreases-expression::choose_one
decreases-expression::choose_one l = 8 * (typed_nodes (expr_of l.test.now) + typed_nodes (expr_of l.then.now) + typed_nodes (expr_of l.otherwise.now)) + 6

abbrev pub decreases-expression::choose_short : goal.decreases-expression::choose_short
decreases-expression::choose_short l = 8 * (typed_nodes (expr_of l.test.now) + typed_nodes (expr_of l.then.now) + typed_nodes (expr_of l.otherwise.now)) + 6

abbrev pub decreases-expression::call_to : goal.decreases-expression::call_to
decreases-expression::call_to l = 8 * call_nodes (call_of l.x.now) - 1

abbrev pub decreases-expression::arguments : goal.decreases-expression::arguments
decreases-expression::arguments l = 8 * arguments_nodes (t_arguments (arguments_of l.all.now)) + 6

abbrev pub decreases-expression::passed : goal.decreases-expression::passed
decreases-expression::passed l = 8 * typed_nodes (expr_of l.x.now) + 4

abbrev pub decreases-expression::argument : goal.decreases-expression::argument
decreases-expression::argument l = 8 * argument_nodes (argument_of l.x.now) + 5

-- whatever comes after the arguments that are left comes after all of them; what they ask for is there; and their registers stand
-- after those of the arguments before
abbrev pub invariant-expression::arguments-loop-place : goal.invariant-expression::arguments-loop-place
invariant-expression::arguments-loop-place l =
    ((h : Body) → Appends l.b h (λ pc p. arguments_code (layout l.on) (drop l.place ((layout l.on).rates l.function))
    (t_arguments (arguments_of (drop l.place l.all))) pc p l.site.mask.number l.slot.number)
    (arguments_places (layout l.on) (t_arguments (arguments_of (drop l.place l.all))))
    → Appends l.initial.b h (λ pc p. arguments_code (layout l.on) ((layout l.on).rates l.function) (t_arguments (arguments_of l.all)) pc p
    l.site.mask.number l.site.slot.number) (arguments_places (layout l.on) (t_arguments (arguments_of l.all))))
    × Present l.on (arguments_asks (t_arguments (arguments_of (drop l.place l.all))) l.slot.number)
    × (l.registers.items ++ argument_registers (layout l.on) (drop l.place ((layout l.on).rates l.function))
    (t_arguments (arguments_of (drop l.place l.all))) l.slot.number
    ≡ argument_registers (layout l.on) ((layout l.on).rates l.function) (t_arguments (arguments_of l.all)) l.site.slot.number)

abbrev pub decreases-expression::library_to : goal.decreases-expression::library_to
decreases-expression::library_to l = 8 * exprs_nodes (t_exprs (exprs_of l.all.now)) + 7

abbrev pub decreases-expression::values : goal.decreases-expression::values
decreases-expression::values l = 8 * exprs_nodes (t_exprs (exprs_of l.all.now)) + 6

-- the same of the values of a call of the library
abbrev pub invariant-expression::values-loop-place : goal.invariant-expression::values-loop-place
invariant-expression::values-loop-place l =
    ((h : Body) → Appends l.b h (λ pc p. values_code (layout l.on) (drop l.place (library_rates l.function l.rate))
    (t_exprs (exprs_of (drop l.place l.all))) pc p l.site.mask.number l.slot.number)
    (values_places (layout l.on) (t_exprs (exprs_of (drop l.place l.all))))
    → Appends l.initial.b h (λ pc p. values_code (layout l.on) (library_rates l.function l.rate) (t_exprs (exprs_of l.all)) pc p
    l.site.mask.number l.site.slot.number) (values_places (layout l.on) (t_exprs (exprs_of l.all))))
    × Present l.on (values_asks (drop l.place (library_rates l.function l.rate)) (t_exprs (exprs_of (drop l.place l.all))) l.slot.number)
    × (numbers l.registers.items ++ value_registers (layout l.on) (drop l.place (library_rates l.function l.rate))
    (t_exprs (exprs_of (drop l.place l.all))) l.slot.number
    ≡ value_registers (layout l.on) (library_rates l.function l.rate) (t_exprs (exprs_of l.all)) l.site.slot.number)

abbrev pub decreases-packed::base : goal.decreases-packed::base
decreases-packed::base l = 8 * base_nodes (base_of l.base.now) - 1

abbrev pub decreases-packed::packed_store_to : goal.decreases-packed::packed_store_to
decreases-packed::packed_store_to l = 8 * (base_nodes (base_of l.into.now) + typed_nodes (expr_of l.x.now)) + 7

abbrev pub decreases-packed::packed_load_to : goal.decreases-packed::packed_load_to
decreases-packed::packed_load_to l = 8 * base_nodes (base_of l.from.now) + 7
