-- The recursion goes down the tree: a conversion is a node too.
use Rattle.std.proofs.Common.{◌+◌, ◌-◌, ◌*◌, drop}
use Rattle.isp_typed.specs.Nodes.{typed_nodes, place_nodes, base_nodes, call_nodes, argument_nodes, arguments_nodes, exprs_nodes}
use Rattle.isp_typed.specs.Typed.{t_arguments, t_exprs}
use Rattle.isp_typed.specs.Views.{argument_of, arguments_of, base_of, call_of, expr_of, exprs_of, place_of}
use Rattle.isp_lower_code.specs.Asks.{arguments_asks, values_asks}
use Rattle.isp_lower_code.specs.Library.{library_rates}
use Rattle.isp_lower_code.specs.Room.{HasNumbers}
use Rattle.isp_registers.specs.Reserved.{Gives}
use Rattle.isp_registers.specs.declared.reserve.Reserve.{Reserve}
use Rattle.isp_registers.proofs.reserve.Reserve.+expr.Given as goal

abbrev pub decreases-expr : goal.decreases-expr
decreases-expr l = 8 * typed_nodes (expr_of l.x.now)

abbrev pub decreases-converted : goal.decreases-converted
decreases-converted l = 8 * typed_nodes (expr_of l.x.now) + 1

abbrev pub decreases-operand : goal.decreases-operand
decreases-operand l = 8 * typed_nodes (expr_of l.x.now) + 1

abbrev pub decreases-unary : goal.decreases-unary
decreases-unary l = 8 * typed_nodes (expr_of l.x.now) + 2

abbrev pub decreases-pair : goal.decreases-pair
decreases-pair l = 8 * (typed_nodes (expr_of l.left.now) + typed_nodes (expr_of l.right.now)) + 2

abbrev pub decreases-work_of_two : goal.decreases-work_of_two
decreases-work_of_two l = 8 * (typed_nodes (expr_of l.left.now) + typed_nodes (expr_of l.right.now)) + 3

abbrev pub decreases-logic : goal.decreases-logic
decreases-logic l = 8 * (typed_nodes (expr_of l.left.now) + typed_nodes (expr_of l.right.now)) + 3

abbrev pub decreases-choice : goal.decreases-choice
decreases-choice l = 8 * (typed_nodes (expr_of l.test.now) + typed_nodes (expr_of l.then.now) + typed_nodes (expr_of l.otherwise.now)) + 2

abbrev pub decreases-read : goal.decreases-read
decreases-read l = 8 * place_nodes (place_of l.place.now) - 1

abbrev pub decreases-target : goal.decreases-target
decreases-target l = 8 * place_nodes (place_of l.place.now) - 2

abbrev pub decreases-element_index : goal.decreases-element_index
decreases-element_index l = 8 * typed_nodes (expr_of l.index.now) + 3

abbrev pub decreases-index : goal.decreases-index
decreases-index l = 8 * typed_nodes (expr_of l.index.now) + 2

abbrev pub decreases-called : goal.decreases-called
decreases-called l = 8 * call_nodes (call_of l.call.now) - 1

abbrev pub decreases-call : goal.decreases-call
decreases-call l = 8 * call_nodes (call_of l.x.now) - 2

abbrev pub decreases-arguments : goal.decreases-arguments
decreases-arguments l = 8 * arguments_nodes (t_arguments (arguments_of l.all.now)) + 5

abbrev pub decreases-argument : goal.decreases-argument
decreases-argument l = 8 * argument_nodes (argument_of l.x.now) + 4

-- who is given what the arguments that are left ask for, is given what all ask for; and their numbers are small
abbrev pub invariant-arguments-loop-x : goal.invariant-arguments-loop-x
invariant-arguments-loop-x l =
    ((c : Reserve) → Gives l.self c (arguments_asks (t_arguments (arguments_of (drop l.x-index l.all))) l.at.number) → Gives l.initial.self c (arguments_asks (t_arguments (arguments_of l.all)) l.initial.at.number))
    × HasNumbers (arguments_asks (t_arguments (arguments_of (drop l.x-index l.all))) l.at.number)

abbrev pub decreases-library : goal.decreases-library
decreases-library l = 8 * exprs_nodes (t_exprs (exprs_of l.all.now)) + 6

abbrev pub decreases-values : goal.decreases-values
decreases-values l = 8 * exprs_nodes (t_exprs (exprs_of l.all.now)) + 5

abbrev pub invariant-values-loop-place : goal.invariant-values-loop-place
invariant-values-loop-place l =
    ((c : Reserve) → Gives l.self c (values_asks (drop l.place (library_rates l.function l.rate)) (t_exprs (exprs_of (drop l.place l.all)))
    l.at.number) → Gives l.initial.self c (values_asks (library_rates l.function l.rate) (t_exprs (exprs_of l.all)) l.initial.at.number))
    × HasNumbers (values_asks (drop l.place (library_rates l.function l.rate)) (t_exprs (exprs_of (drop l.place l.all))) l.at.number)

abbrev pub decreases-base : goal.decreases-base
decreases-base l = 8 * base_nodes (base_of l.base.now) - 1

abbrev pub decreases-packed_store : goal.decreases-packed_store
decreases-packed_store l = 8 * (base_nodes (base_of l.base.now) + typed_nodes (expr_of l.value.now)) + 2

abbrev pub decreases-packed_load : goal.decreases-packed_load
decreases-packed_load l = 8 * base_nodes (base_of l.base.now) + 2
