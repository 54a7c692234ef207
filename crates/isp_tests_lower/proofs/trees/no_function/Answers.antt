-- A program without functions is fine and scoped.
use Rattle.std.proofs.Common.{[], arith, refl, subst, sym}
use Rattle.std.proofs.lemmas.List.Elements.{All-nil}
use Rattle.isp_base.specs.declared.types.Gang.TheVariants.{W8}
use Rattle.isp_typed.specs.Fine.{FineFunction, IsFine}
use Rattle.isp_typed.specs.Scoped.{IsScoped, ScopedFunction}
use Rattle.isp_typed.specs.Typed.{Program}
use Rattle.isp_typed.specs.Views.{functions_of}
use Rattle.isp_tests_lower.proofs.trees.no_function.Goals as goal

abbrev empty : Program
empty = record { gang = W8; functions = [] }

empty_fine : IsFine empty
empty_fine = record { each = All-nil (FineFunction []); names = refl; few = omega arith }

empty_scoped : IsScoped empty
empty_scoped = record { each = All-nil ScopedFunction }

pub new-requires-2-clause-fine : goal.new-requires-2-clause-fine
new-requires-2-clause-fine c = subst (λ fs. IsFine (record { gang = W8; functions = functions_of fs })) (sym c.new.ensures.items) empty_fine

pub new-requires-2-clause-scoped : goal.new-requires-2-clause-scoped
new-requires-2-clause-scoped c = subst (λ fs. IsScoped (record { gang = W8; functions = functions_of fs })) (sym c.new.ensures.items) empty_scoped
