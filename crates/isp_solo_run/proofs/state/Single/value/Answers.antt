use Rattle.std.proofs.Common.{refl, sym, ap, ap₂, ◌∙◌}
use Rattle.isp_typed.specs.Typed.{TExpr, TPlace, TBase, TArgument, TCall, t_binary, t_cast, t_choose, t_compare, t_convert, t_exprs, t_library, t_logic, t_unary, type_of}
use Rattle.isp_typed.specs.Views.{argument_step, base_step, expr_step, place_step, call_step, expr_of, exprs_of}
use Rattle.isp_typed.specs.declared.expr.TypedExpr.TheVariants as variant
use Rattle.isp_typed.specs.declared.expr.TypedArgument.TheFolds.{fold-roll-TypedExpr}
use Rattle.isp_solo_run.specs.Tasks.{store_seen, gathers}
use Rattle.isp_solo_run.specs.declared.tasks.Gathering.TheVariants as gathering
use Rattle.isp_solo_run.proofs.Nodes.{seen_by, given_bits, convert_node, unary_node, binary_node, compare_node, logic_node, choose_node}
use Rattle.isp_solo_run.proofs.state.Single.value.Goals as goal

pub returns-in-Constant : goal.returns-in-Constant
returns-in-Constant c =
    seen_by c.give.result c.args.self.now c.give.new.self c.args.x _ _
    (ap expr_of (c.in-Constant.is ∙ sym (variant.rolls-Constant c.in-Constant.value c.in-Constant.span)) ∙ fold-roll-TypedExpr TArgument TBase TExpr TPlace TCall argument_step base_step expr_step place_step call_step _)
    (given_bits (store_seen c.args.self.now) _ _ c.low_bits.ensures)
    c.give.ensures

pub returns-in-ProgramIndex : goal.returns-in-ProgramIndex
returns-in-ProgramIndex c =
    seen_by c.give-in-ProgramIndex.result c.args.self.now c.give-in-ProgramIndex.new.self c.args.x _ _
    (ap expr_of (c.in-ProgramIndex.is ∙ sym (variant.rolls-ProgramIndex c.in-ProgramIndex.span)) ∙ fold-roll-TypedExpr TArgument TBase TExpr TPlace TCall argument_step base_step expr_step place_step call_step _)
    refl
    c.give-in-ProgramIndex.ensures

pub returns-in-Place : goal.returns-in-Place
returns-in-Place c =
    seen_by c.place.result c.args.self.now c.place.new.self c.args.x _ _
    (ap expr_of (c.in-Place.is ∙ sym (variant.rolls-Place c.in-Place.place)) ∙ fold-roll-TypedExpr TArgument TBase TExpr TPlace TCall argument_step base_step expr_step place_step call_step _)
    refl
    c.place.ensures

pub returns-in-Convert : goal.returns-in-Convert
returns-in-Convert c =
    seen_by c.both.result c.args.self.now c.both.new.self c.args.x _ _
    (ap expr_of (c.in-Convert.is ∙ sym (variant.rolls-Convert c.in-Convert.elem c.in-Convert.operand))
    ∙ fold-roll-TypedExpr TArgument TBase TExpr TPlace TCall argument_step base_step expr_step place_step call_step _
    ∙ ap (λ i. t_convert c.in-Convert.elem (expr_of i)) (sym c.deref-in-Convert.ensures))
    (convert_node c.args.self.now (store_seen c.args.self.now) c.deref-in-Convert.result c.ty.result.elem c.in-Convert.elem (ap (λ t. t.elem) c.ty.ensures ∙ ap (λ l. (type_of (expr_of l)).elem) (c.deref.ensures ∙ sym c.deref-in-Convert.ensures)))
    c.both.ensures

pub returns-in-Cast : goal.returns-in-Cast
returns-in-Cast c =
    seen_by c.later.result c.args.self.now c.later.new.self c.args.x _ _
    (ap expr_of (c.in-Cast.is ∙ sym (variant.rolls-Cast c.in-Cast.operand c.in-Cast.ty c.in-Cast.span))
    ∙ fold-roll-TypedExpr TArgument TBase TExpr TPlace TCall argument_step base_step expr_step place_step call_step _
    ∙ ap (λ i. t_cast (expr_of i) c.in-Cast.ty c.in-Cast.span) (sym c.deref-in-Cast.ensures))
    refl
    c.later.ensures

pub returns-in-Unary : goal.returns-in-Unary
returns-in-Unary c =
    seen_by c.both-in-Unary.result c.args.self.now c.both-in-Unary.new.self c.args.x _ _
    (ap expr_of (c.in-Unary.is ∙ sym (variant.rolls-Unary c.in-Unary.operator c.in-Unary.operand c.in-Unary.ty c.in-Unary.span))
    ∙ fold-roll-TypedExpr TArgument TBase TExpr TPlace TCall argument_step base_step expr_step place_step call_step _
    ∙ ap (λ i. t_unary c.in-Unary.operator (expr_of i) c.in-Unary.ty c.in-Unary.span) (sym c.deref-in-Unary.ensures))
    (unary_node c.args.self.now (store_seen c.args.self.now) c.deref-in-Unary.result c.in-Unary.operator c.in-Unary.ty c.in-Unary.span)
    c.both-in-Unary.ensures

pub returns-in-Binary : goal.returns-in-Binary
returns-in-Binary c =
    seen_by c.both-in-Binary.result c.args.self.now c.both-in-Binary.new.self c.args.x _ _
    (ap expr_of (c.in-Binary.is ∙ sym (variant.rolls-Binary c.in-Binary.operator c.in-Binary.left c.in-Binary.right c.in-Binary.ty c.in-Binary.span))
    ∙ fold-roll-TypedExpr TArgument TBase TExpr TPlace TCall argument_step base_step expr_step place_step call_step _
    ∙ ap₂ (λ l r. t_binary c.in-Binary.operator (expr_of l) (expr_of r) c.in-Binary.ty c.in-Binary.span) (sym c.deref-in-Binary.ensures)
    (sym c.deref-in-Binary-2.ensures))
    (binary_node c.args.self.now (store_seen c.args.self.now) c.deref-in-Binary.result c.deref-in-Binary-2.result c.in-Binary.operator c.in-Binary.ty c.in-Binary.span)
    c.both-in-Binary.ensures

pub returns-in-Compare : goal.returns-in-Compare
returns-in-Compare c =
    seen_by c.both-in-Compare.result c.args.self.now c.both-in-Compare.new.self c.args.x _ _
    (ap expr_of (c.in-Compare.is ∙ sym (variant.rolls-Compare c.in-Compare.comparison c.in-Compare.left c.in-Compare.right c.in-Compare.rate
    c.in-Compare.span)) ∙ fold-roll-TypedExpr TArgument TBase TExpr TPlace TCall argument_step base_step expr_step place_step call_step _
    ∙ ap₂ (λ l r. t_compare c.in-Compare.comparison (expr_of l) (expr_of r) c.in-Compare.rate c.in-Compare.span)
    (sym c.deref-in-Compare-2.ensures) (sym c.deref-in-Compare-3.ensures))
    (compare_node c.args.self.now (store_seen c.args.self.now) c.deref-in-Compare-2.result c.deref-in-Compare-3.result c.in-Compare.comparison
    c.ty-in-Compare.result.elem c.in-Compare.rate c.in-Compare.span
    (ap (λ t. t.elem) c.ty-in-Compare.ensures ∙ ap (λ l. (type_of (expr_of l)).elem)
    (c.deref-in-Compare.ensures ∙ sym c.deref-in-Compare-2.ensures)))
    c.both-in-Compare.ensures

pub returns-in-Logic : goal.returns-in-Logic
returns-in-Logic c =
    seen_by c.both-in-Logic.result c.args.self.now c.both-in-Logic.new.self c.args.x _ _
    (ap expr_of (c.in-Logic.is ∙ sym (variant.rolls-Logic c.in-Logic.logic c.in-Logic.left c.in-Logic.right c.in-Logic.rate c.in-Logic.span))
    ∙ fold-roll-TypedExpr TArgument TBase TExpr TPlace TCall argument_step base_step expr_step place_step call_step _
    ∙ ap₂ (λ l r. t_logic c.in-Logic.logic (expr_of l) (expr_of r) c.in-Logic.rate c.in-Logic.span) (sym c.deref-in-Logic-2.ensures)
    (sym c.deref-in-Logic.ensures))
    (logic_node c.args.self.now (store_seen c.args.self.now) c.deref-in-Logic-2.result c.deref-in-Logic.result c.in-Logic.logic c.in-Logic.rate c.in-Logic.span)
    c.both-in-Logic.ensures

pub returns-in-Choose : goal.returns-in-Choose
returns-in-Choose c =
    seen_by c.both-in-Choose.result c.args.self.now c.both-in-Choose.new.self c.args.x _ _
    (ap expr_of (c.in-Choose.is ∙ sym (variant.rolls-Choose c.in-Choose.test c.in-Choose.then c.in-Choose.otherwise c.in-Choose.ty c.in-Choose.span))
    ∙ fold-roll-TypedExpr TArgument TBase TExpr TPlace TCall argument_step base_step expr_step place_step call_step _
    ∙ ap₂ (λ l r. t_choose (expr_of l) (expr_of r) (expr_of c.in-Choose.otherwise.value) c.in-Choose.ty c.in-Choose.span)
    (sym c.deref-in-Choose.ensures) (sym c.deref-in-Choose-2.ensures)
    ∙ ap (λ u. t_choose (expr_of c.deref-in-Choose.result.now) (expr_of c.deref-in-Choose-2.result.now) (expr_of u) c.in-Choose.ty
    c.in-Choose.span) (sym c.deref-in-Choose-3.ensures))
    (choose_node c.args.self.now (store_seen c.args.self.now) c.deref-in-Choose.result c.deref-in-Choose-2.result c.deref-in-Choose-3.result c.in-Choose.ty c.in-Choose.span)
    c.both-in-Choose.ensures

pub returns-in-Call : goal.returns-in-Call
returns-in-Call c =
    seen_by c.call.result c.args.self.now c.call.new.self c.args.x _ _
    (ap expr_of (c.in-Call.is ∙ sym (variant.rolls-Call c.in-Call.call c.in-Call.ty)) ∙ fold-roll-TypedExpr TArgument TBase TExpr TPlace TCall argument_step base_step expr_step place_step call_step _)
    refl
    c.call.ensures

pub returns-in-Library : goal.returns-in-Library
returns-in-Library c =
    seen_by c.values.result c.args.self.now c.values.new.self c.args.x _ _
    (ap expr_of (c.in-Library.is ∙ sym (variant.rolls-Library c.in-Library.function c.in-Library.elem c.in-Library.values c.in-Library.ty
    c.in-Library.span)) ∙ fold-roll-TypedExpr TArgument TBase TExpr TPlace TCall argument_step base_step expr_step place_step call_step _
    ∙ ap (λ ys. t_library c.in-Library.function c.in-Library.elem (t_exprs (exprs_of ys)) c.in-Library.ty c.in-Library.span)
    (sym c.as_slice.ensures.value))
    (ap (λ ds. gathers c.args.self.now (gathering.Library c.in-Library.function c.in-Library.elem) (exprs_of c.as_slice.result.now) ds (store_seen c.args.self.now)) (sym c.new.ensures.items))
    c.values.ensures

pub returns-in-PackedStore : goal.returns-in-PackedStore
returns-in-PackedStore c =
    seen_by c.give-in-PackedStore.result c.args.self.now c.give-in-PackedStore.new.self c.args.x _ _
    (ap expr_of (c.in-PackedStore.is ∙ sym (variant.rolls-PackedStore c.in-PackedStore.base c.in-PackedStore.value c.in-PackedStore.span))
    ∙ fold-roll-TypedExpr TArgument TBase TExpr TPlace TCall argument_step base_step expr_step place_step call_step _)
    refl
    c.give-in-PackedStore.ensures

pub returns-in-PackedLoad : goal.returns-in-PackedLoad
returns-in-PackedLoad c =
    seen_by c.give-in-PackedLoad.result c.args.self.now c.give-in-PackedLoad.new.self c.args.x _ _
    (ap expr_of (c.in-PackedLoad.is ∙ sym (variant.rolls-PackedLoad c.in-PackedLoad.base c.in-PackedLoad.variable c.in-PackedLoad.span))
    ∙ fold-roll-TypedExpr TArgument TBase TExpr TPlace TCall argument_step base_step expr_step place_step call_step _)
    refl
    c.give-in-PackedLoad.ensures
