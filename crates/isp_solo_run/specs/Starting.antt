-- What a run begins with, argument by argument, and what it comes to.
use Rattle.std.specs.Prelude.{ℕ, suc, ◌%◌, ◌^◌, List, [], ◌∷◌, length}
use Rattle.isp_base.specs.Rows.{Row}
use Rattle.isp_base.specs.Values.{width}
use Rattle.isp_base.specs.declared.signature.Argument.{Argument}
use Rattle.isp_base.specs.declared.signature.Argument.TheVariants.{Value as AValue, Array as AnArray}
use Rattle.isp_meaning.specs.Payloads.{One}
use Rattle.isp_meaning.specs.Expressions.{Passed, Values, Store}

-- what an argument hands over, where so many arrays came before, and how many have come then
abbrev pub one_handed : ℕ → Argument → Passed
one_handed b (AValue v) = Values (One (v.bits % 2 ^ width v.elem))
one_handed b (AnArray r) = Store b

abbrev pub next_after : ℕ → Argument → ℕ
next_after b (AValue v) = b
next_after b (AnArray r) = suc b

-- an array, and the number of its elements
abbrev pub one_row : Argument → List Row
one_row (AValue v) = []
one_row (AnArray r) = r ∷ []

abbrev pub one_size : Argument → List ℕ
one_size (AValue v) = []
one_size (AnArray r) = length r.bits ∷ []
