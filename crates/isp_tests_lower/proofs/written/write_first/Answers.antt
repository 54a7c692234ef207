-- The calls one after the other.
use Rattle.std.proofs.Common.{◌∙◌, ◌∷◌, [], None, ap, arith, is_some}
use Rattle.isp_base.specs.declared.types.Elem.TheVariants.{I64}
use Rattle.isp_base.specs.declared.types.Rate.TheVariants.{Uniform}
use Rattle.isp_code.specs.declared.instr.Instr.TheVariants as instr
use Rattle.isp_typed.specs.Views.{function_of}
use Rattle.isp_lower.specs.Drafts.{Draft, begun, draft_of, with_instr, with_place, with_register, with_text}
use Rattle.isp_tests_lower.specs.Stages.{hi, place}
use Rattle.isp_tests_lower.specs.Trees.{value}
use Rattle.isp_tests_lower.proofs.Drafted.{begins_with_room, first_small, heading_fits}
use Rattle.isp_tests_lower.proofs.written.write_first.Goals as goal

pub begin-requires : goal.begin-requires
begin-requires c = heading_fits _ (value ∷ []) c.requires.trees.first first_small

pub fresh-requires : goal.fresh-requires
fresh-requires c =
    let texted = c.in_ok-text.ensures ∙ ap (with_text hi) (c.in_ok-place.ensures ∙ ap (with_place place) c.in_ok-begin.ensures) in
    record {
      begun = ap (λ (d : Draft). is_some d.heading) texted;
      few = begins_with_room _ (value ∷ []) (draft_of c.add_text.new.e) c.requires.trees.first (omega arith) (ap (λ (d : Draft). d.rows) texted) (ap (λ (d : Draft). d.code) texted);
    }

pub add_return-requires : goal.add_return-requires
add_return-requires c =
    let texted = c.in_ok-text.ensures ∙ ap (with_text hi) (c.in_ok-place.ensures ∙ ap (with_place place) c.in_ok-begin.ensures) in
    ap (λ (d : Draft). is_some d.heading) (c.in_ok-register.ensures.added ∙ ap (with_register Uniform I64) texted)

pub returns : goal.returns
returns c =
    let f = function_of c.args.trees.now.first in
    let placed = c.in_ok-place.ensures ∙ ap (with_place place) (c.in_ok-begin.ensures ∙ ap (begun f) c.requires.new.is) in
    let given = c.in_ok-register.ensures.added ∙ ap (with_register Uniform I64) (c.in_ok-text.ensures ∙ ap (with_text hi) placed) in
    record { program = c.requires.new.program; is = c.in_ok-at.ensures ∙ ap (with_instr (instr.Return None)) given }
