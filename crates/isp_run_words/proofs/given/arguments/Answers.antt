use Rattle.std.proofs.Common.{◌≡◌, ◌+◌, List, drop, take, true, sym, subst, ap, ◌∙◌}
use Rattle.isp_base.specs.Binding.{has_signature}
use Rattle.isp_base.specs.declared.signature.Argument.{Argument}
use Rattle.isp_run_words.specs.Giving.{arguments_by}
use Rattle.isp_run_words.proofs.Suited.{kinds_next}
use Rattle.isp_run_words.proofs.Turns.{done_next, with_done}
use Rattle.isp_run_words.proofs.given.arguments.Goals as goal

pub loop-number-preserved : goal.loop-number-preserved
loop-number-preserved c =
    let ps = c.args.params.now in
    let gs = c.args.given.now in
    let i = c.loop-number.number in
    let xs = c.loop-number.arguments.items in
    let one = c.in_ok-argument.argument in
    let grown = sym c.in_ok-push.ensures.items in (
      c.loop-number.invariant.0
          ∙ done_next ps gs i c.index-params-number.result one xs c.loop-number-test.true c.index-params-number.is c.in_ok-argument.ensures.ok
          ∙ ap (λ (l : List Argument). with_done l (arguments_by (i + 1) (drop (i + 1) ps) gs)) grown,
      subst (λ (l : List Argument). has_signature (take (i + 1) ps) l ≡ true) grown
          (kinds_next ps xs i c.index-params-number.result one c.loop-number-test.true c.index-params-number.is c.loop-number.invariant.1 c.in_ok-argument.ensures.fits),
    )
