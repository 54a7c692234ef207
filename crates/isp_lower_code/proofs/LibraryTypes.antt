-- What names and types promise of a call of the library: its values are of the types that its parts ask.
use Rattle.std.proofs.Common.{◌≡◌, ℕ, suc, List, [], ◌∷◌, length, refl, ap, ◌∙◌}
use Rattle.isp_base.specs.declared.types.Elem.{Elem}
use Rattle.isp_base.specs.declared.types.Ty.{Ty}
use Rattle.isp_typed.specs.Fine.{FineParts, LibraryWorksIn, rates_of}
use Rattle.isp_typed.specs.Library.{library_type, part_elem, parts}
use Rattle.isp_typed.specs.Typed.{TExprs, t_no_exprs, t_expr_then, TFunction, type_of}
use Rattle.isp_typed.specs.declared.library.Library.{Library}
use Rattle.isp_typed.specs.declared.library.Part.{Part}
use Rattle.isp_typed.specs.declared.variable.Variable.{Variable}

-- the types of some values, and how many there are
abbrev pub elems_of : TExprs → List Elem
elems_of t_no_exprs = []
elems_of (t_expr_then x xs) = (type_of x).elem ∷ elems_of xs

abbrev pub count_of : TExprs → ℕ
count_of t_no_exprs = 0
count_of (t_expr_then x xs) = suc (count_of xs)

-- the types that parts ask
abbrev pub part_elems : Elem → List Part → List Elem
part_elems e [] = []
part_elems e (p ∷ ps) = part_elem e p ∷ part_elems e ps

pub record LibraryTyped (f : Library) (e : Elem) (xs : TExprs) (t : Ty) : Type 0 where
  pub elems : elems_of xs ≡ part_elems e (parts f)
  pub works : LibraryWorksIn f e
  pub gives : t ≡ library_type f e (rates_of xs)

pub parts_are : (fs : List TFunction) (vars : List Variable) (e : Elem) (ps : List Part) (xs : TExprs) → FineParts fs vars e ps xs → elems_of xs ≡ part_elems e ps
parts_are fs vars e [] t_no_exprs f = refl
parts_are fs vars e [] (t_expr_then x xs) f = absurd f
parts_are fs vars e (p ∷ ps) t_no_exprs f = absurd f
parts_are fs vars e (p ∷ ps) (t_expr_then x xs) f = ap (λ u. u ∷ elems_of xs) f.1 ∙ ap (λ us. part_elem e p ∷ us) (parts_are fs vars e ps xs f.2)

pub counts : (xs : TExprs) → length (elems_of xs) ≡ count_of xs
counts t_no_exprs = refl
counts (t_expr_then x xs) = ap suc (counts xs)
