-- What a run begins with, argument by argument.
use Rattle.std.specs.Prelude.{ℕ, suc, ◌%◌, ◌^◌, List, [], ◌∷◌, length}
use Rattle.std.specs.List.{All}
use Rattle.isp_base.specs.Arguments.{rows}
use Rattle.isp_base.specs.Rows.{Fit}
use Rattle.isp_base.specs.Values.{width}
use Rattle.isp_base.specs.declared.signature.Argument.{Argument}
use Rattle.isp_base.specs.declared.signature.Argument.TheVariants.{Value as AValue, Array as AnArray}
use Rattle.isp_meaning.specs.Payloads.{One}
use Rattle.isp_meaning.specs.Expressions.{Passed, Values, Store}

-- what an argument hands over, where so many arrays came before, and how many have come then
abbrev pub one_handed : ℕ → Argument → Passed
one_handed b (AValue v) = Values (One (v.bits % 2 ^ width v.elem))
one_handed b (AnArray r) = Store b

abbrev pub next_after : ℕ → Argument → ℕ
next_after b (AValue v) = b
next_after b (AnArray r) = suc b

-- the elements, and their number, of an array
abbrev pub one_store : Argument → List (List ℕ)
one_store (AValue v) = []
one_store (AnArray r) = r.bits ∷ []

abbrev pub one_size : Argument → List ℕ
one_size (AValue v) = []
one_size (AnArray r) = length r.bits ∷ []

-- each element of each array fits its type
abbrev pub OneFits : Argument → Type 0
OneFits (AValue v) = Unit {0}
OneFits (AnArray r) = Fit r.elem r.bits

abbrev pub ArgumentsFit : List Argument → Type 0
ArgumentsFit xs = All (λ r. Fit r.elem r.bits) (rows xs)
