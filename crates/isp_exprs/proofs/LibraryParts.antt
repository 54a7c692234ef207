-- The values of a call, each as its place asks.
use Rattle.std.proofs.Common.{◌≡◌, refl, ap, ◌∙◌}
use Rattle.std.specs.Prelude.{List, [], ◌∷◌, map}
use Rattle.std.specs.Borrow.{Bor}
use Rattle.std.specs.Global.{Box}
use Rattle.std.specs.List.{zip}
use Rattle.isp_base.specs.declared.types.Elem.{Elem}
use Rattle.isp_typed.specs.declared.expr.TypedExpr as rust
use Rattle.isp_typed.specs.declared.library.Part.{Part}
use Rattle.isp_typed.specs.Library.{part_elem}
use Rattle.isp_typed.specs.Typed.{TExpr, t_exprs, t_expr_then}
use Rattle.isp_exprs.specs.Values.{converted}
use Rattle.isp_exprs.specs.reader.Parts.{boxed_of, boxes_of}
use Rattle.isp_exprs.specs.LibraryCalls.{as_parts}

-- a value as its place asks
abbrev pub as_part : Elem → Bor Part × Box rust.TypedExpr → TExpr
as_part t p = converted (part_elem t p.0.now) (boxed_of p.1)

abbrev pub pair_seen : Bor Part × Box rust.TypedExpr → Part × Box rust.TypedExpr
pair_seen p = (p.0.now, p.1)

abbrev zipped_part : Elem → Part × Box rust.TypedExpr → TExpr
zipped_part t q = converted (part_elem t q.0) (boxed_of q.1)

zipped_parts : (t : Elem) (ps : List Part) (xs : List (Box rust.TypedExpr)) → t_exprs (map (zipped_part t) (zip ps xs)) ≡ as_parts t ps (boxes_of xs)
zipped_parts t [] xs = refl
zipped_parts t (p ∷ ps) [] = refl
zipped_parts t (p ∷ ps) (x ∷ xs) = ap (t_expr_then (converted (part_elem t p) (boxed_of x))) (zipped_parts t ps xs)

seen_parts : (t : Elem) (ys : List (Bor Part × Box rust.TypedExpr)) → map (as_part t) ys ≡ map (zipped_part t) (map pair_seen ys)
seen_parts t [] = refl
seen_parts t (y ∷ ys) = ap (λ z. as_part t y ∷ z) (seen_parts t ys)

-- all of them
pub parts_end : (t : Elem) (ps : List Part) (xs : List (Box rust.TypedExpr)) (ys : List (Bor Part × Box rust.TypedExpr)) (all : List TExpr) → map pair_seen ys ≡ zip ps xs → all ≡ map (as_part t) ys
    → t_exprs all ≡ as_parts t ps (boxes_of xs)
parts_end t ps xs ys all e k = ap t_exprs (k ∙ (seen_parts t ys ∙ ap (map (zipped_part t)) e)) ∙ zipped_parts t ps xs
