use Rattle.std.proofs.Common.{◌∙◌, ◌∷◌, [], ap, map, sym}
use Rattle.std.proofs.lemmas.List.{map-append}
use Rattle.isp_typed.specs.Views.{arguments_of, call_of}
use Rattle.isp_solo_run.specs.Seen.{passed_seen}
use Rattle.isp_solo_run.specs.Tasks.{hands, store_seen}
use Rattle.isp_solo_run.specs.declared.tasks.Passed.TheVariants as rust_passed
use Rattle.isp_solo_run.proofs.Steps.{tells_by}
use Rattle.isp_solo_run.proofs.state.Single.argument.Goals as goal

pub returns-in-Ok : goal.returns-in-Ok
returns-in-Ok c =
    let old = c.args.self.now in
    tells_by _ c.arguments.result old c.arguments.new.self _ _
    (ap (λ ps. hands old (call_of c.args.call.now) (arguments_of c.args.rest.now) ps (store_seen old)) (sym (ap (map passed_seen) (c.in-Ok.ensures.items) ∙ map-append passed_seen c.args.done.items (rust_passed.Value old.value ∷ []))))
    c.arguments.ensures
