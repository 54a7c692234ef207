-- Where the loops of a typed program are slow, one line a statement.
--     while, do, for    a test that is varying: instances leave one by one, and the others wait                        Parted
--     foreach           of several ranges the last, which is run in lanes for each step of those before it: its last
--                       run leaves lanes off, unless its bounds are constants that are some whole gangs apart          LeftOff
use Rattle.std.specs.Prelude.{ℕ, ◌-◌, ◌%◌, ◌==◌, Bool, false, nat_lt, List, [], ◌∷◌, ◌++◌, length, slice_get, if◌then◌else◌, Option, Some, None}
use Rattle.isp_base.specs.Types.{gang_width}
use Rattle.isp_base.specs.declared.types.Gang.{Gang}
use Rattle.isp_base.specs.declared.types.Rate.{Rate}
use Rattle.isp_base.specs.declared.types.Rate.TheVariants.{Uniform, Varying}
use Rattle.isp_base.specs.declared.types.Span.{Span}
use Rattle.isp_typed.specs.Typed.{TExpr, t_constant}
use Rattle.isp_typed.specs.Typed.{TRange, rate_of, span_of, TStmt, t_block, t_declare, t_simple, t_if, t_if_else, t_while, t_do, t_for, t_foreach, t_foreach_active, t_foreach_unique}
use Rattle.isp_typed.specs.Typed.{t_unmasked, t_jump, t_return, t_print, t_assert, TBlock, t_braces, TStmts, t_no_stmts, t_stmt_then, TFunction, Program}
use Rattle.isp_hints.specs.declared.hint.Hint.{Hint}
use Rattle.isp_hints.specs.declared.hint.Slow.TheVariants.{Parted, LeftOff}

-- of a test of some rate that stands there
abbrev pub parted : Rate → Span → List Hint
parted Uniform s = []
parted Varying s = record { slow = Parted; place = s } ∷ []

abbrev pub test_hints : TExpr → List Hint
test_hints x = parted (rate_of x) (span_of x)

-- a `for` may have no test, and goes on for all
abbrev pub any_test_hints : Option TExpr → List Hint
any_test_hints None = []
any_test_hints (Some x) = test_hints x

-- what is left of a constant by whole gangs
abbrev pub rest_of : Gang → TExpr → Option ℕ
rest_of g (t_constant v s) = Some (v.bits % gang_width g)
rest_of g x = None

-- constants that are some whole gangs apart
abbrev pub fill : Option ℕ → Option ℕ → Bool
fill (Some a) (Some b) = a == b
fill (Some a) None = false
fill None o = false

-- of several ranges the last
abbrev pub inner : List TRange → Option TRange
inner rs = if nat_lt 1 (length rs) then slice_get rs (length rs - 1) else None

-- of a range that stands there, whose runs all are full or not
abbrev pub left_off : Bool → Span → List Hint
left_off full s = if full then [] else record { slow = LeftOff; place = s } ∷ []

module _ (g : Gang) where
  abbrev pub range_hints : Option TRange → List Hint
  range_hints None = []
  range_hints (Some r) = left_off (fill (rest_of g r.start) (rest_of g r.end)) r.span

  abbrev mutual
    pub stmt_hints : TStmt → List Hint
    stmt_hints (t_block b) = block_hints b
    stmt_hints (t_declare is s) = []
    stmt_hints (t_simple p s) = []
    stmt_hints (t_if c n x a s) = stmt_hints a
    stmt_hints (t_if_else c n x a b s) = stmt_hints a ++ stmt_hints b
    stmt_hints (t_while c n x a s) = test_hints x ++ stmt_hints a
    stmt_hints (t_do c n a x s) = test_hints x ++ stmt_hints a
    stmt_hints (t_for c n i x p m a s) = any_test_hints x ++ stmt_hints a
    stmt_hints (t_foreach w n rs a s) = range_hints (inner rs) ++ stmt_hints a
    stmt_hints (t_foreach_active w n i a s) = stmt_hints a
    stmt_hints (t_foreach_unique w n i e x a s) = stmt_hints a
    stmt_hints (t_unmasked w b s) = block_hints b
    stmt_hints (t_jump j w s) = []
    stmt_hints (t_return w x s) = []
    stmt_hints (t_print w t xs s) = []
    stmt_hints (t_assert x c s) = []

    pub block_hints : TBlock → List Hint
    block_hints (t_braces ss s) = stmts_hints ss

    pub stmts_hints : TStmts → List Hint
    stmts_hints t_no_stmts = []
    stmts_hints (t_stmt_then s ss) = stmt_hints s ++ stmts_hints ss

  abbrev pub functions_hints : List TFunction → List Hint
  functions_hints [] = []
  functions_hints (f ∷ fs) = block_hints f.body ++ functions_hints fs

abbrev pub loops_of : Program → List Hint
loops_of p = functions_hints p.gang p.functions
