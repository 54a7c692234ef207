-- Expressions that look across the gang. One line for each kind of node.
use Rattle.std.specs.Prelude.{◌≡◌, ◌⊎◌, Bool, true, false, not}
use Rattle.isp_independence.specs.declared.dependence.Dependence.{Dependence}
use Rattle.isp_independence.specs.declared.dependence.Restriction.TheVariants.{Crossing}
use Rattle.isp_typed.specs.declared.library.Library.{Library}
use Rattle.isp_typed.specs.declared.library.Library.TheVariants as library
use Rattle.isp_typed.specs.Typed.{TExpr, t_constant, t_program_index, t_place, t_convert, t_cast, t_unary, t_binary, t_compare, t_logic, t_choose, t_call, t_library, t_packed_store, t_packed_load, TPlace, t_variable, t_element}
use Rattle.isp_typed.specs.Typed.{TBase, t_whole, t_from, TArgument, t_by_value, t_by_name, TCall, t_called, TArguments, t_no_arguments, t_argument_then, TExprs, t_no_exprs, t_expr_then}
use Rattle.isp_independence.specs.Dependences.{at, Unmet}

-- whether a function of the library gives an instance what others have
abbrev pub looks_across : Library → Bool
looks_across library.ReduceAdd = true
looks_across library.ReduceMin = true
looks_across library.ReduceMax = true
looks_across library.ReduceEqual = true
looks_across library.Any = true
looks_across library.All = true
looks_across library.None = true
looks_across library.ScanAdd = true
looks_across library.ScanAnd = true
looks_across library.ScanOr = true
looks_across library.Broadcast = true
looks_across library.Rotate = true
looks_across library.Shift = true
looks_across library.Shuffle = true
looks_across library.ShuffleTwo = true
looks_across library.Extract = true
looks_across library.Insert = true
looks_across library.Min = false
looks_across library.Max = false
looks_across library.Clamp = false
looks_across library.Abs = false
looks_across library.Select = false

abbrev mutual
  pub Cross : TExpr → Dependence → Type 0
  Cross (t_constant v s) d = ⊥
  Cross (t_program_index s) d = ⊥
  Cross (t_place p) d = CrossPlace p d
  Cross (t_convert e x) d = Cross x d
  Cross (t_cast x t s) d = Cross x d
  Cross (t_unary op x t s) d = Cross x d
  Cross (t_binary op x y t s) d = Cross x d ⊎ Cross y d
  Cross (t_compare c x y r s) d = Cross x d ⊎ Cross y d
  Cross (t_logic l x y r s) d = Cross x d ⊎ Cross y d
  Cross (t_choose c x y t s) d = Cross c d ⊎ Cross x d ⊎ Cross y d
  Cross (t_call c t) d = CrossCall c d
  Cross (t_library f e xs t s) d = Unmet (not (looks_across f)) (at Crossing s) d ⊎ CrossAll xs d
  -- a packed call finds its element by the instances before
  Cross (t_packed_store b x s) d = (d ≡ at Crossing s) ⊎ CrossBase b d ⊎ Cross x d
  Cross (t_packed_load b k s) d = (d ≡ at Crossing s) ⊎ CrossBase b d

  pub CrossPlace : TPlace → Dependence → Type 0
  CrossPlace (t_variable k t s) d = ⊥
  CrossPlace (t_element a i t s) d = Cross i d

  pub CrossBase : TBase → Dependence → Type 0
  CrossBase (t_whole a s) d = ⊥
  CrossBase (t_from a i s) d = Cross i d

  pub CrossArgument : TArgument → Dependence → Type 0
  CrossArgument (t_by_value x) d = Cross x d
  CrossArgument (t_by_name a s) d = ⊥

  pub CrossCall : TCall → Dependence → Type 0
  CrossCall (t_called f xs s) d = CrossArguments xs d

  pub CrossArguments : TArguments → Dependence → Type 0
  CrossArguments t_no_arguments d = ⊥
  CrossArguments (t_argument_then x xs) d = CrossArgument x d ⊎ CrossArguments xs d

  pub CrossAll : TExprs → Dependence → Type 0
  CrossAll t_no_exprs d = ⊥
  CrossAll (t_expr_then x xs) d = Cross x d ⊎ CrossAll xs d
