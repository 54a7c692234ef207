-- Which expressions are steady: every member of a set has the same value, whatever some of them did before. What looks
-- across the gang, is called, stores or loads packed is not, and neither is what each instance has of its own.
use Rattle.std.specs.Prelude.{ℕ, Bool, true, false, ◌&&◌}
use Rattle.isp_base.specs.declared.types.Rate.{Rate}
use Rattle.isp_base.specs.declared.types.Rate.TheVariants.{Uniform, Varying}
use Rattle.isp_typed.specs.Typed.{TExpr, t_constant, t_program_index, t_place, t_convert, t_cast, t_unary, t_binary, t_compare, t_logic, t_choose, t_call, t_library}
use Rattle.isp_typed.specs.Typed.{t_packed_store, t_packed_load, TPlace, t_variable, t_element, TExprs, t_no_exprs, t_expr_then}
use Rattle.isp_typed.specs.declared.library.Library.{Library}
use Rattle.isp_typed.specs.declared.library.Library.TheVariants as library
use Rattle.isp_steady.specs.Known.{Known, Unknown, Steady}

-- a uniform variable, of which nothing needs to be known, or a varying one that is known to be steady
abbrev pub steady_read : Rate → Known → Bool
steady_read Uniform Unknown = true
steady_read Varying Steady = true
steady_read r k = false

-- an array that all instances share
abbrev pub is_shared : Rate → Bool
is_shared Uniform = true
is_shared Varying = false

-- the functions of the library that each instance does by itself
abbrev pub by_itself : Library → Bool
by_itself library.Min = true
by_itself library.Max = true
by_itself library.Clamp = true
by_itself library.Abs = true
by_itself library.Select = true
by_itself library.ReduceAdd = false
by_itself library.ReduceMin = false
by_itself library.ReduceMax = false
by_itself library.ReduceEqual = false
by_itself library.Any = false
by_itself library.All = false
by_itself library.None = false
by_itself library.ScanAdd = false
by_itself library.ScanAnd = false
by_itself library.ScanOr = false
by_itself library.Broadcast = false
by_itself library.Rotate = false
by_itself library.Shift = false
by_itself library.Shuffle = false
by_itself library.ShuffleTwo = false
by_itself library.Extract = false
by_itself library.Insert = false

module _ (known : ℕ → Known) where
  abbrev mutual
    pub steady : TExpr → Bool
    steady (t_constant v sp) = true
    steady (t_program_index sp) = false
    steady (t_place q) = steady_place q
    steady (t_convert e x) = steady x
    steady (t_cast x t sp) = steady x
    steady (t_unary op x t sp) = steady x
    steady (t_binary op x y t sp) = steady x && steady y
    steady (t_compare c x y r sp) = steady x && steady y
    steady (t_logic l x y r sp) = steady x && steady y
    steady (t_choose c x y t sp) = steady c && (steady x && steady y)
    steady (t_call c t) = false
    steady (t_library f e xs t sp) = by_itself f && all_steady xs
    steady (t_packed_store b x sp) = false
    steady (t_packed_load b v sp) = false

    pub steady_place : TPlace → Bool
    steady_place (t_variable v t sp) = steady_read t.rate (known v)
    steady_place (t_element b i t sp) = is_shared b.ty.rate && steady i

    pub all_steady : TExprs → Bool
    all_steady t_no_exprs = true
    all_steady (t_expr_then x xs) = steady x && all_steady xs
