-- What the laws ask of a tree in a call: names and types accept it, its rates are as code asks, and what its code asks for is in the
-- table of registers.
use Rattle.std.specs.Prelude.{ℕ, List, [], ◌∷◌}
use Rattle.std.specs.List.{All}
use Rattle.isp_typed.specs.Fine.{FineExpr, FineSimple, FineItem}
use Rattle.isp_typed.specs.Typed.{TExpr, TSimple, TItem, t_plain, t_with_value, t_with_size}
use Rattle.isp_lower_code.specs.Asks.{Ask, expr_asks, simple_asks, items_asks}
use Rattle.isp_lower_code.specs.Rated.{IsRated, SimpleRated, ItemsRated}
use Rattle.isp_lower_code.specs.Standing.{Setting, OtherAt}
use Rattle.isp_lower_code.specs.Tables.{Table}

-- a variable that is declared counts no lanes
abbrev pub ItemOther : Setting → TItem → Type 0
ItemOther w (t_plain v t sp) = OtherAt w t.rate v
ItemOther w (t_with_value v t x sp) = OtherAt w t.rate v
ItemOther w (t_with_size b sp) = Unit {0}

abbrev pub ItemsOther : Setting → List TItem → Type 0
ItemsOther w [] = Unit {0}
ItemsOther w (x ∷ xs) = ItemOther w x × ItemsOther w xs

module _ (w : Setting) where
  abbrev pub InTable : Ask → Type 0
  InTable a = Table w.routine w.layout w.function.variables a

  pub record ExprFits (x : TExpr) (n : ℕ) : Type 0 where
    pub fine : FineExpr w.program.functions w.function.variables x
    pub rated : IsRated w.program.functions x
    pub named : InTable (expr_asks x n)

  pub record SimpleFits (x : TSimple) (n : ℕ) : Type 0 where
    pub fine : FineSimple w.program.functions w.function.variables x
    pub rated : SimpleRated w.program.functions x
    pub named : InTable (simple_asks x n)

  pub record ItemsFit (n : ℕ) (xs : List TItem) : Type 0 where
    pub fine : All (FineItem w.program.functions w.function.variables) xs
    pub rated : ItemsRated w.program.functions xs
    pub named : InTable (items_asks n xs)
    pub others : ItemsOther w xs
