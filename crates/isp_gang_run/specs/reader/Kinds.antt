-- Groups of tasks and of expressions, as the code takes them apart. No part of a promise.
use Rattle.std.specs.Prelude.{Bool, true, false}
use Rattle.isp_typed.specs.Typed.{TExpr, t_convert, t_cast, t_unary, t_binary, t_compare, t_logic, t_choose, t_library, t_packed_store, t_packed_load}
use Rattle.isp_gang_run.specs.declared.tasks.Task.{Task}
use Rattle.isp_gang_run.specs.declared.tasks.Task.TheVariants as task

-- ---- expressions: with one operand, with two, with parts over fewer members, and calls of the library

abbrev pub has_one : TExpr → Bool
has_one (t_convert e x) = true
has_one (t_cast x t sp) = true
has_one (t_unary op x t sp) = true
has_one x = false

abbrev pub has_two : TExpr → Bool
has_two (t_binary op x y t sp) = true
has_two (t_compare c x y r sp) = true
has_two x = false

abbrev pub has_sides : TExpr → Bool
has_sides (t_logic l x y r sp) = true
has_sides (t_choose x y z t sp) = true
has_sides x = false

abbrev pub is_library : TExpr → Bool
is_library (t_library f e xs t sp) = true
is_library (t_packed_store b x sp) = true
is_library (t_packed_load b v sp) = true
is_library x = false

-- ---- tasks: of `?:`, of elements, of lists of values, of calls, of turns, and of bodies that run over each of a list of sets

abbrev pub is_side : Task → Bool
is_side (task.Choose x y set) = true
is_side (task.Otherwise k y set) = true
is_side t = false

abbrev pub is_access : Task → Bool
is_access (task.Load b t span set) = true
is_access (task.Indexed p b t w set) = true
is_access (task.Update o q p set) = true
is_access t = false

abbrev pub is_gathering : Task → Bool
is_gathering (task.Values g ys before set) = true
is_gathering (task.Packed p b t span set) = true
is_gathering t = false

abbrev pub is_calling : Task → Bool
is_calling (task.Arguments c ys before set) = true
is_calling (task.Argument c ys before set) = true
is_calling (task.Return caller left parts set) = true
is_calling t = false

abbrev pub is_turn : Task → Bool
is_turn (task.Test x) = true
is_turn (task.Tested x) = true
is_turn (task.Turned x) = true
is_turn t = false

abbrev pub is_round : Task → Bool
is_round (task.Start b) = true
is_round (task.End start b) = true
is_round (task.Rounds x) = true
is_round (task.Members x) = true
is_round (task.Unique x) = true
is_round (task.Distinct x) = true
is_round t = false
