use Rattle.isp_solo_run.proofs.Nodes.{values_next_tells, values_none_tells}
use Rattle.std.proofs.Common.{◌∙◌, ap, sym, arith, get_or, length, take, drop, ◌-◌}
use Rattle.isp_solo_meaning.specs.Answers.{Has}
use Rattle.isp_solo_meaning.specs.Values.{by_instance}
use Rattle.isp_solo_run.specs.Tasks.{given, gathered, state_seen, store_seen}
use Rattle.isp_solo_run.specs.declared.tasks.Gathering.{Gathering}
use Rattle.isp_solo_run.proofs.Lists.{nothing_left, headed}
use Rattle.isp_solo_run.proofs.Nodes.{values_none, values_next, given_bits}
use Rattle.isp_solo_run.proofs.Steps.{tells_by}
use Rattle.isp_solo_run.proofs.state.Single.values.Goals as goal

pub returns-in-Library : goal.returns-in-Library
returns-in-Library c =
    let old = c.args.self.now in
    values_none_tells c.give.result old c.give.new.self c.args.gathering c.args.done.items c.args.rest.now _ (nothing_left c.args.rest.now c.in-empty.len_below)
    (ap (λ (g : Gathering). given (store_seen old) (gathered old.setting g c.args.done.items (state_seen old))) c.in-Library.is
    ∙ ap (λ xs. given (store_seen old) (Has (by_instance c.in-Library.function c.in-Library.elem (get_or xs 0 0) (get_or xs 1 0) (get_or xs 2 0)) (state_seen old))) (sym c.as_slice.ensures.value)
    ∙ given_bits (store_seen old) _ _ c.by_instance.ensures)
    c.give.ensures

pub returns-in-empty : goal.returns-in-empty
returns-in-empty c =
    let old = c.args.self.now in
    values_none_tells c.give-in-Print.result old c.give-in-Print.new.self c.args.gathering c.args.done.items c.args.rest.now _ (nothing_left c.args.rest.now c.in-empty.len_below)
    (ap (λ (g : Gathering). given (store_seen old) (gathered old.setting g c.args.done.items (state_seen old))) c.in-Print.is)
    c.give-in-Print.ensures

pub returns : goal.returns
returns c =
    let old = c.args.self.now in
    values_next_tells c.both.result old c.both.new.self c.args.gathering c.args.done (record { ref_ptr = (0, 0); now = c.x-item.result })
    (record { ref_ptr = (0, 0); now = take (length c.args.rest.now - 1) (drop 1 c.args.rest.now) }) c.args.rest.now
    (headed c.args.rest.now c.x-item.result (omega (arith, c.in-len1-up.len_at_least)) c.x-item.is)
    c.both.ensures
