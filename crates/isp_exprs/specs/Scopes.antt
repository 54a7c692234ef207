-- The names in scope, the oldest first, and the variables of a function in the order of the text.
--     ns     the names in scope; those from `start` on are the innermost scope's
--     vars   the variables that were declared so far
use Rattle.std.specs.Prelude.{ℕ, List, [], ◌∷◌, ◌++◌, length, drop, find, reverse, bytes_eq, Bool, not, Option, Some, None, option_map, Result, Ok, Err}
use Rattle.std.specs.List.{list_any}
use Rattle.isp_lex.specs.declared.fault.Fault.{Fault}
use Rattle.isp_lex.specs.declared.fault.Rule.TheVariants.{UnknownName}
use Rattle.isp_lex.specs.Faults.{fault}
use Rattle.isp_tree.specs.declared.types.Word.{Word}
use Rattle.isp_typed.specs.declared.variable.Variable.{Variable}
use Rattle.isp_exprs.specs.declared.scope.Known.{Known}
use Rattle.isp_exprs.specs.declared.scope.Binding.{Binding}

-- What a name stands for: a variable, or the fault of its declaration where the words of its type contradict each
-- other. A use of such a name has that fault, and so no further one.
abbrev pub Meaning : Type 0
Meaning = Result Known Fault

-- what a name means: its last binding, so that an inner name hides an outer one
abbrev pub visible : List ℕ → List Binding → Option Meaning
visible w ns = option_map (λ b. b.meaning) (find (λ b. bytes_eq b.name w) (reverse ns))

abbrev pub or_unknown : Word → Option Meaning → Meaning
or_unknown w None = Err (fault UnknownName w.span)
or_unknown w (Some m) = m

abbrev pub named : List Binding → Word → Meaning
named ns w = or_unknown w (visible w.name ns)

-- the innermost scope has no such name
abbrev pub is_new : List ℕ → ℕ → List Binding → Bool
is_new w start ns = not (list_any (λ b. bytes_eq b.name w) (drop start ns))

-- the variable that is declared next, where its type is found
abbrev pub next_known : List Variable → Result Variable Fault → Meaning
next_known vars (Ok v) = Ok (record { number = length vars; variable = v })
next_known vars (Err f) = Err f

-- one more name, for the variable after those there are
abbrev pub with_name : List Binding → List Variable → List ℕ → Result Variable Fault → List Binding
with_name ns vars w v = ns ++ record { name = w; meaning = next_known vars v } ∷ []
