-- Names and statements only add names after those there are.
use Rattle.std.proofs.Common.{◌≡◌, refl, sym, ap, ◌∙◌, ◌++◌, append_assoc, take, drop}
use Rattle.std.specs.Prelude.{List, [], ◌∷◌, length, Option, Some, None, Result}
use Rattle.std.proofs.Math.Seq.{take-append_seam}
use Rattle.std.proofs.lemmas.List.{append-nil, take-append-drop}
use Rattle.isp_base.specs.declared.types.Gang.{Gang}
use Rattle.isp_lex.specs.declared.fault.Fault.{Fault}
use Rattle.isp_tree.specs.Tree.{Item, First, first_declare, first_simple, Range, Stmt, block, empty, declare, simple, if_then, if_else, loop_while, loop_do, loop_for, foreach, foreach_active, foreach_unique, unmasked, jump, returning, print, assert}
use Rattle.isp_typed.specs.declared.variable.Variable.{Variable}
use Rattle.isp_exprs.specs.declared.scope.Binding.{Binding}
use Rattle.isp_exprs.specs.declared.words.ValueWords.{ValueWords}
use Rattle.isp_exprs.specs.Words.{value_said}
use Rattle.isp_types.specs.Numbering.{item_names, item_variables, items_names, first_names, range_names, names_after}

-- one list is another with more after it
pub record Grown {A : Type 0} (before after : List A) : Type 0 where
  pub more : List A
  pub is : after ≡ before ++ more

pub same : {A : Type 0} (xs : List A) → Grown xs xs
same xs = record { more = []; is = sym (append-nil xs) }

pub then : {A : Type 0} (xs ys zs : List A) → Grown xs ys → Grown ys zs → Grown xs zs
then xs ys zs g h = record { more = g.more ++ h.more; is = h.is ∙ (ap (λ l. l ++ h.more) g.is ∙ append_assoc xs g.more h.more) }

pub one_more : {A : Type 0} (xs : List A) (x : A) → Grown xs (xs ++ x ∷ [])
one_more xs x = record { more = x ∷ []; is = refl }

pub kept : {A : Type 0} (xs ys : List A) → Grown xs ys → take (length xs) ys ≡ xs
kept xs ys g = ap (take (length xs)) g.is ∙ take-append_seam xs g.more

pub grown : {A : Type 0} (xs ys : List A) → take (length xs) ys ≡ xs → Grown xs ys
grown xs ys e = record { more = drop (length xs) ys; is = sym (take-append-drop (length xs) ys) ∙ ap (λ l. l ++ drop (length xs) ys) e }

pub items_grow : (gang : Gang) (r : Result ValueWords Fault) (ns : List Binding) (vars : List Variable) (is : List Item) → Grown ns (items_names gang r ns vars is)
items_grow gang r ns vars [] = same ns
items_grow gang r ns vars (i ∷ is) =
    then _ _ _ (one_more ns _) (items_grow gang r (item_names gang r ns vars i) (item_variables gang r vars i) is)

pub first_grows : (gang : Gang) (ns : List Binding) (vars : List Variable) (i : Option First) → Grown ns (first_names gang ns vars i)
first_grows gang ns vars None = same ns
first_grows gang ns vars (Some (first_declare d)) = items_grow gang (value_said d.ty) ns vars d.items
first_grows gang ns vars (Some (first_simple s)) = same ns

pub ranges_grow : (ns : List Binding) (vars : List Variable) (rs : List Range) → Grown ns (range_names ns vars rs)
ranges_grow ns vars [] = same ns
ranges_grow ns vars (r ∷ rs) = then _ _ _ (one_more ns _) (ranges_grow _ _ rs)

pub names_grow : (gang : Gang) (ns : List Binding) (vars : List Variable) (s : Stmt) → Grown ns (names_after gang ns vars s)
names_grow gang ns vars (block b) = same ns
names_grow gang ns vars (empty s) = same ns
names_grow gang ns vars (declare d s) = items_grow gang (value_said d.ty) ns vars d.items
names_grow gang ns vars (simple p s) = same ns
names_grow gang ns vars (if_then f x a s) = same ns
names_grow gang ns vars (if_else f x a b s) = same ns
names_grow gang ns vars (loop_while f x a s) = same ns
names_grow gang ns vars (loop_do f a x s) = same ns
names_grow gang ns vars (loop_for f i x p a s) = same ns
names_grow gang ns vars (foreach t k rs a s) = same ns
names_grow gang ns vars (foreach_active k w a s) = same ns
names_grow gang ns vars (foreach_unique k w x a s) = same ns
names_grow gang ns vars (unmasked k b s) = same ns
names_grow gang ns vars (jump j k s) = same ns
names_grow gang ns vars (returning k x s) = same ns
names_grow gang ns vars (print k t p xs s) = same ns
names_grow gang ns vars (assert x c s) = same ns

-- after a statement the names before it are those there were
pub names_kept : (gang : Gang) (ns : List Binding) (vars : List Variable) (s : Stmt) → take (length ns) (names_after gang ns vars s) ≡ ns
names_kept gang ns vars s = kept ns _ (names_grow gang ns vars s)

pub first_kept : (gang : Gang) (ns : List Binding) (vars : List Variable) (i : Option First) → take (length ns) (first_names gang ns vars i) ≡ ns
first_kept gang ns vars i = kept ns _ (first_grows gang ns vars i)

pub ranges_kept : (ns : List Binding) (vars : List Variable) (rs : List Range) → take (length ns) (range_names ns vars rs) ≡ ns
ranges_kept ns vars rs = kept ns _ (ranges_grow ns vars rs)

pub one_kept : (ns : List Binding) (b : Binding) → take (length ns) (ns ++ b ∷ []) ≡ ns
one_kept ns b = kept ns _ (one_more ns b)

-- and so after statements one after another
pub kept_then : (gang : Gang) (first ns : List Binding) (vars : List Variable) (s : Stmt) → take (length first) ns ≡ first → take (length first) (names_after gang ns vars s) ≡ first
kept_then gang first ns vars s e = kept first _ (then _ _ _ (grown first ns e) (names_grow gang ns vars s))
