use Rattle.std.proofs.Common.{◌≡◌, sym, ap, subst, ◌∙◌, ℕ, Some, rules}
use Rattle.std.specs.Prelude.{slice_get}
use Rattle.isp_code.specs.Fine.{AllFine, CallsFine}
use Rattle.isp_code.specs.Listing.{Listing}
use Rattle.isp_code.specs.Operands.{operands}
use Rattle.isp_frames.specs.Rows.{FrameRows}
use Rattle.isp_machine.specs.Steps.{Steady}
use Rattle.isp_machine.proofs.Doing.{line_fine, line_calls, line_goes_on}
use Rattle.isp_machine.proofs.step.step.Goals as goal

pub execute-requires : goal.execute-requires
execute-requires g c =
    let h = c.new-here.result.routine in
    let p = c.args.code.now in
    let r = c.args.run.now in
    let i = c.instr-instr.result.now in
    let same : c.new-here.result.code ≡ p = c.new-here.ensures.code in
    let first : c.deref.result.now ≡ c.run.inside.frame = search rules in
    let second : c.deref-2.result.now ≡ c.run.inside.frame = search rules in
    let found : slice_get p.routines r.frame.function ≡ Some h = subst (λ (k : ℕ). slice_get p.routines k ≡ Some h) (c.function.ensures ∙ ap (λ (f : FrameRows). f.function) first ∙ (λ j. (c.run.view_is j).frame.function)) c.new-here.ensures.found in
    let at : slice_get h.code r.frame.pc ≡ Some i = subst (λ (k : ℕ). slice_get h.code k ≡ Some i) (c.pc.ensures ∙ ap (λ (f : FrameRows). f.pc) second ∙ (λ j. (c.run.view_is j).frame.pc)) c.instr-instr.ensures in
    let never = c.new-here.ensures.goes_on in (
      search rules,
      (
        same,
        (
          subst (λ (q : Listing). slice_get q.routines r.frame.function ≡ Some h) (sym same) found,
          (
            subst (λ (q : Listing). Steady g.row.N q r) (sym same) c.requires.steady,
            (
              subst (λ (q : Listing). AllFine q h (operands i)) (sym same) (line_fine p h r.frame.function r.frame.pc i never found at),
              (
                subst (λ (q : Listing). CallsFine q h i) (sym same) (line_calls p h r.frame.function r.frame.pc i never found at),
                (line_goes_on p h r.frame.function r.frame.pc i never found at, c.requires.went),
              ),
            ),
          ),
        ),
      ),
    )
