use Rattle.std.proofs.Common.{◌≡◌, drop, bytes_eq}
use Rattle.std.specs.Prelude.{find}
use Rattle.isp_tests_command.proofs.fakes.text_of.Given as goal

abbrev pub invariant-loop-known : goal.invariant-loop-known
invariant-loop-known l =
    find (λ file. bytes_eq file.0.now l.name) (drop l.known-index l.files) ≡ find (λ file. bytes_eq file.0.now l.name) l.files
