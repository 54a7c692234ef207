use Rattle.std.proofs.Common.{◌≡◌, true, Ok, subst}
use Rattle.isp_base.specs.Binding.{has_signature}
use Rattle.isp_bind.specs.Binding.{bound_of}
use Rattle.isp_code_commands.proofs.runs.entry.Goals as goal

pub returns-clause-ok : goal.returns-clause-ok
returns-clause-ok c =
    let s = c.in-Some.ensures.found in
    let e = c.in_ok-bound.ensures in
    let xs = c.in_ok-bound.bound.arguments.items in
    let fits = subst (λ ps. has_signature ps xs ≡ true) s.3 e.bound.kinds in
    let bound = subst (λ ps. bound_of ps c.args.json.now ≡ Ok xs) s.3 e.ok in
    (record { function = s.0; routine = s.1; entry = record { export = s.2; fits = fits }; bound = bound }, s.3)
