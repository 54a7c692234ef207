use Rattle.std.proofs.Common.{◌≡◌, drop, take, true}
use Rattle.isp_base.specs.Binding.{has_signature}
use Rattle.isp_run_words.specs.Giving.{arguments_by}
use Rattle.isp_run_words.proofs.Turns.{with_done}
use Rattle.isp_run_words.proofs.given.arguments.Given as goal

abbrev pub invariant-loop-number : goal.invariant-loop-number
invariant-loop-number l =
    (arguments_by 0 l.params l.given ≡ with_done l.arguments.items (arguments_by l.number (drop l.number l.params) l.given))
    × (has_signature (take l.number l.params) l.arguments.items ≡ true)
