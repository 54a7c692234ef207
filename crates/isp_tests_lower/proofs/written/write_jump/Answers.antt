-- The calls one after the other.
use Rattle.std.proofs.Common.{◌∙◌, ap, ap₂, arith, is_some}
use Rattle.isp_base.specs.declared.types.Elem.TheVariants.{I64}
use Rattle.isp_base.specs.declared.types.Rate.TheVariants.{Uniform}
use Rattle.isp_typed.specs.Views.{function_of}
use Rattle.isp_lower.specs.Drafts.{Draft, begun, draft_of, with_instr, with_register}
use Rattle.isp_tests_lower.specs.Trees.{variables}
use Rattle.isp_tests_lower.proofs.Drafted.{begins_with_room, heading_fits, second_small}
use Rattle.isp_tests_lower.proofs.written.write_jump.Goals as goal

pub begin-requires : goal.begin-requires
begin-requires c = heading_fits _ variables c.requires.trees.second second_small

pub add_register-requires : goal.add_register-requires
add_register-requires c = record {
  begun = ap (λ (d : Draft). is_some d.heading) c.in_ok-begin.ensures;
  few = begins_with_room _ variables (draft_of c.begin.new.e) c.requires.trees.second (omega arith) (ap (λ (d : Draft). d.rows) c.in_ok-begin.ensures) (ap (λ (d : Draft). d.code) c.in_ok-begin.ensures);
}

pub emit-requires : goal.emit-requires
emit-requires c = ap (λ (d : Draft). is_some d.heading) (c.in_ok-register.ensures ∙ ap (with_register Uniform I64) c.in_ok-begin.ensures)

pub returns : goal.returns
returns c =
    let g = function_of c.args.trees.now.second in
    let given = c.in_ok-register.ensures ∙ ap (with_register Uniform I64) (c.in_ok-begin.ensures ∙ ap (begun g) c.requires.first.is) in
    record { program = c.requires.first.program; is = c.in_ok-at.ensures.added ∙ ap₂ with_instr c.new.ensures given }
