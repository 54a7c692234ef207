-- Where the tokens of a program stand has no bearing on whether they are one, nor on how deep it is.
use Rattle.std.proofs.Common.{◌≡◌, ℕ, suc, true, false, List, [], ◌∷◌, ◌++◌, length, Some, None, refl, sym, ap, subst, ◌∙◌, arith}
use Rattle.isp_base.specs.Types.{span_to}
use Rattle.isp_base.specs.declared.types.Span.{Span}
use Rattle.isp_lex.specs.Tokens.{at}
use Rattle.isp_lex.specs.declared.token.Mark.TheVariants as mark
use Rattle.isp_lex.specs.declared.token.Token.{Token}
use Rattle.isp_syntax.proofs.ExprsRespan.{type_respan, expr_respan, exprs_respan}
use Rattle.isp_syntax.proofs.SameKinds.{Same, same_none, same_first, same_one, same_split, same_before, same_around, moved, Respans, all_respan, listed_respan}
use Rattle.isp_tree.specs.Depth.{depth, depth_of_option, deepest_of, depth_of_item, depth_of_declaration, depth_of_simple, depth_of_first, depth_of_step, depth_of_range, depth_of_stmt, depth_of_block, depth_of_stmts, depth_of_functions}
use Rattle.isp_grammar.specs.Grammar.{IsMaybe, AreListed, AreBehindCommas, IsExpr, IsSize, is_number_size, is_count_size, IsItem, is_plain, is_with_value, is_with_size, span_of_last, IsDeclaration, is_declaration, IsSimple}
use Rattle.isp_grammar.specs.Grammar.{is_value, is_assign, is_change_after, is_change_before, IsFirst, is_first_declare, is_first_simple, IsRange, is_range, is_open, IsBlock, is_braces, IsStmts, is_end, is_next, IsStmt, is_block}
use Rattle.isp_grammar.specs.Grammar.{is_empty, is_declare, is_simple, is_if, is_if_else, is_while, is_do, is_for, is_foreach, is_foreach_active, is_foreach_unique, is_unmasked, is_jump, is_return, is_print, is_assert, IsLinkage}
use Rattle.isp_grammar.specs.Grammar.{is_linkage, IsParam, is_scalar, is_array, IsParams, is_none, is_void, is_some, IsFunction, is_function, IsProgram}
use Rattle.isp_syntax.specs.Promise.{kinds}
use Rattle.isp_grammar.specs.Signs.{word, preposition, numeral, textual, loosest, assignment_mark, change_mark, if_mark, while_mark, do_mark, for_mark, foreach_mark, jump_mark, linkage_mark, first_span}
use Rattle.isp_tree.specs.Tree.{span_of, Item, plain, with_value, with_size, Declaration, Simple, value, assign, change, span_of_simple, First, first_declare, first_simple, Range}
use Rattle.isp_tree.specs.Tree.{Stmt, block, empty, declare, simple, if_then, if_else, loop_while, loop_do, loop_for, foreach, foreach_active, foreach_unique, unmasked, jump}
use Rattle.isp_tree.specs.Tree.{returning, print, assert, all, Block, braces, span_of_block, span_of_stmt, Param, Function}
use Rattle.isp_tree.specs.declared.stmt.Size.{Size}
use Rattle.isp_tree.specs.declared.stmt.Size.TheVariants as size
use Rattle.isp_tree.specs.declared.function.Linkage.{Linkage}

maybe_respan : {A : Type 0} (is : List Token → A → Type 0) (deep : A → ℕ) → Respans is deep → Respans (IsMaybe is) (depth_of_option deep)
maybe_respan is deep f ts None i us e = (None, same_none us (e ∙ ap kinds i), refl)
maybe_respan is deep f ts (Some x) i us e = let y = f ts x i us e in (Some y.0, y.1, y.2)

-- ---- declarations, and what stands before a semicolon

size_respan : {ts : List Token} {n : Size} → IsSize ts n → (us : List Token) → Same us ts → (m : Size) × IsSize us m
size_respan (is_number_size v s) us e = let p = same_one (numeral v s) us e in (size.Number v p.0, subst (λ (l : List Token). IsSize l (size.Number v p.0)) (sym p.1) (is_number_size v p.0))
size_respan (is_count_size s) us e = let p = same_one (at mark.ProgramCount s) us e in (size.ProgramCount p.0, subst (λ (l : List Token). IsSize l (size.ProgramCount p.0)) (sym p.1) (is_count_size p.0))

item_respan : {ts : List Token} {x : Item} → IsItem ts x → (us : List Token) → Same us ts → (y : Item) × IsItem us y × (depth_of_item y ≡ depth_of_item x)
item_respan (is_plain w) us e = let p = same_one (word w) us e in (plain (moved w p.0), subst (λ (l : List Token). IsItem l (plain (moved w p.0))) (sym p.1) (is_plain (moved w p.0)), refl)
item_respan (is_with_value w d ts x i) us e =
    let p = same_first (word w) (at mark.Assign d ∷ ts) us e in
    let q = same_first (at mark.Assign d) ts p.1 p.3 in
    let y = expr_respan i q.1 q.3 in
    let v = moved w p.0 in
    let z = with_value v y.0 (span_to p.0 (span_of y.0)) in
    (z, subst (λ (l : List Token). IsItem l z) (sym (p.2 ∙ ap (λ (l : List Token). word v ∷ l) q.2)) (is_with_value v q.0 q.1 y.0 y.1), y.2)
item_respan (is_with_size w o c ts n i) us e =
    let p = same_first (word w) (at mark.BracketOpen o ∷ (ts ++ at mark.BracketClose c ∷ [])) us e in
    let q = same_first (at mark.BracketOpen o) (ts ++ at mark.BracketClose c ∷ []) p.1 p.3 in
    let r = same_before ts (at mark.BracketClose c) q.1 q.3 in
    let m = size_respan i r.0 r.3 in
    let v = moved w p.0 in
    let z = with_size v m.0 (span_to p.0 r.1) in
    (z, subst (λ (l : List Token). IsItem l z) (sym (p.2 ∙ ap (λ (l : List Token). word v ∷ l) (q.2 ∙ ap (λ (l : List Token). at mark.BracketOpen q.0 ∷ l) r.2))) (is_with_size v q.0 r.1 r.0 m.0 m.1), refl)

items_respan : Respans (AreListed IsItem) (deepest_of depth_of_item)
items_respan = listed_respan IsItem depth_of_item (λ ts x i us e. item_respan i us e)

declaration_respan : {ts : List Token} {x : Declaration} → IsDeclaration ts x → (us : List Token) → Same us ts → (y : Declaration) × IsDeclaration us y × (depth_of_declaration y ≡ depth_of_declaration x)
declaration_respan (is_declaration ts vs t is i j) us e =
    let p = same_split ts vs us e in
    let u = type_respan i p.0 p.3 in
    let ys = items_respan vs is j p.1 p.4 in
    let z : Declaration = record { ty = u.0; items = ys.0; span = span_to u.0.span (span_of_last ys.0) } in
    (z, subst (λ (l : List Token). IsDeclaration l z) (sym p.2) (is_declaration p.0 p.1 u.0 ys.0 u.1 ys.1), ys.2)

simple_respan : {ts : List Token} {x : Simple} → IsSimple ts x → (us : List Token) → Same us ts → (y : Simple) × IsSimple us y × (depth_of_simple y ≡ depth_of_simple x)
simple_respan (is_value ts x i) us e = let y = expr_respan i us e in (value y.0, is_value us y.0 y.1, y.2)
simple_respan (is_assign op s a b t x i j) us e =
    let p = same_around a (at (assignment_mark op) s) b us e in
    let v = expr_respan i p.0 p.4 in
    let w = expr_respan j p.2 p.5 in
    let z = assign op v.0 w.0 (span_to (span_of v.0) (span_of w.0)) in
    (z, subst (λ (l : List Token). IsSimple l z) (sym p.3) (is_assign op p.1 p.0 p.2 v.0 w.0 v.1 w.1), rw (v.2, w.2) refl)
simple_respan (is_change_after c s a t i) us e =
    let p = same_before a (at (change_mark c) s) us e in
    let v = expr_respan i p.0 p.3 in
    let z = change c v.0 (span_to (span_of v.0) p.1) in
    (z, subst (λ (l : List Token). IsSimple l z) (sym p.2) (is_change_after c p.1 p.0 v.0 v.1), v.2)
simple_respan (is_change_before c s a t i) us e =
    let p = same_first (at (change_mark c) s) a us e in
    let v = expr_respan i p.1 p.3 in
    let z = change c v.0 (span_to p.0 (span_of v.0)) in
    (z, subst (λ (l : List Token). IsSimple l z) (sym p.2) (is_change_before c p.0 p.1 v.0 v.1), v.2)

first_respan : {ts : List Token} {x : First} → IsFirst ts x → (us : List Token) → Same us ts → (y : First) × IsFirst us y × (depth_of_first y ≡ depth_of_first x)
first_respan (is_first_declare ts d i) us e = let y = declaration_respan i us e in (first_declare y.0, is_first_declare us y.0 y.1, ap suc y.2)
first_respan (is_first_simple ts p i) us e = let y = simple_respan i us e in (first_simple y.0, is_first_simple us y.0 y.1, ap suc y.2)

range_respan : {ts : List Token} {x : Range} → IsRange ts x → (us : List Token) → Same us ts → (y : Range) × IsRange us y × (depth_of_range y ≡ depth_of_range x)
range_respan (is_range w d l a b x y i j) us e =
    let p = same_first (word w) (at mark.Assign d ∷ (a ++ at mark.Ellipsis l ∷ b)) us e in
    let q = same_first (at mark.Assign d) (a ++ at mark.Ellipsis l ∷ b) p.1 p.3 in
    let r = same_around a (at mark.Ellipsis l) b q.1 q.3 in
    let v = expr_respan i r.0 r.4 in
    let u = expr_respan j r.2 r.5 in
    let n = moved w p.0 in
    let z : Range = record { word = n; start = v.0; end = u.0; span = span_to p.0 (span_of u.0) } in
    let s = p.2 ∙ ap (λ (l : List Token). word n ∷ l) (q.2 ∙ ap (λ (l : List Token). at mark.Assign q.0 ∷ l) r.3) in
    (z, subst (λ (l : List Token). IsRange l z) (sym s) (is_range n q.0 r.1 r.0 r.2 v.0 u.0 v.1 u.1), rw (v.2, u.2) refl)

more_ranges : (a b : List Token) (s : Span) (y : Range) (ys : List Range) → IsRange a y → AreListed IsRange b ys → AreListed IsRange (a ++ at mark.Comma s ∷ b) (y ∷ ys)
more_ranges a b s y [] i j = absurd j
more_ranges a b s y (z ∷ zs) i j = (a, s, b, refl, i, j)

ranges_respan : (ts : List Token) (xs : List Range) → AreListed IsRange ts xs → (us : List Token) → Same us ts → (ys : List Range) × AreListed IsRange us ys × (deepest_of depth_of_range ys ≡ deepest_of depth_of_range xs) × (length ys ≡ length xs)
ranges_respan ts [] i us e = absurd i
ranges_respan ts (x ∷ []) i us e = let y = range_respan i us e in (y.0 ∷ [], y.1, rw y.2 refl, refl)
ranges_respan ts (x ∷ z ∷ zs) i us e =
    let p = same_around i.0 (at mark.Comma i.1) i.2 us (e ∙ ap kinds i.3) in
    let y = range_respan i.4 p.0 p.4 in
    let ys = ranges_respan i.2 (z ∷ zs) i.5 p.2 p.5 in
    (y.0 ∷ ys.0, subst (λ (l : List Token). AreListed IsRange l (y.0 ∷ ys.0)) (sym p.3) (more_ranges p.0 p.2 p.1 y.0 ys.0 y.1 ys.1), rw (y.2, ys.2) refl, rw ys.3 refl)

next_value_respan : Respans (λ ts x. (s : Span) × (a : List Token) × (ts ≡ at mark.Comma s ∷ a) × IsExpr loosest a x) depth
next_value_respan ts x i us e =
    let p = same_first (at mark.Comma i.0) i.1 us (e ∙ ap kinds i.2) in
    let y = expr_respan i.3 p.1 p.3 in
    (y.0, (p.0, p.1, p.2, y.1), y.2)

values_respan : Respans (AreBehindCommas (IsExpr loosest)) (deepest_of depth)
values_respan = all_respan _ depth next_value_respan

-- tokens in brackets, and what stands after
in_brackets : (o c : Span) (ts a us : List Token) → Same us (at mark.ParenOpen o ∷ (ts ++ at mark.ParenClose c ∷ a))
    → (p : Span) × (q : Span) × (vs : List Token) × (b : List Token) × (us ≡ at mark.ParenOpen p ∷ (vs ++ at mark.ParenClose q ∷ b)) × Same vs ts
    × Same b a
in_brackets o c ts a us e =
    let p = same_first (at mark.ParenOpen o) (ts ++ at mark.ParenClose c ∷ a) us e in
    let q = same_around ts (at mark.ParenClose c) a p.1 p.3 in
    (p.0, q.1, q.0, q.2, p.2 ∙ ap (λ (l : List Token). at mark.ParenOpen p.0 ∷ l) q.3, q.4, q.5)

-- ---- statements

abbrev Moved : List Token → Stmt → Type 0
Moved us x = (y : Stmt) × IsStmt us y × (depth_of_stmt y ≡ depth_of_stmt x) × (is_open y ≡ is_open x)

mutual
  block_respan : {ts : List Token} {x : Block} → IsBlock ts x → (us : List Token) → Same us ts → (y : Block) × IsBlock us y × (depth_of_block y ≡ depth_of_block x)
  block_respan (is_braces o c ts ss i) us e =
      let p = same_first (at mark.BraceOpen o) (ts ++ at mark.BraceClose c ∷ []) us e in
      let q = same_before ts (at mark.BraceClose c) p.1 p.3 in
      let y = stmts_respan i q.0 q.3 in
      let z = braces (all y.0) (span_to p.0 q.1) in
      (z, subst (λ (l : List Token). IsBlock l z) (sym (p.2 ∙ ap (λ (l : List Token). at mark.BraceOpen p.0 ∷ l) q.2)) (is_braces p.0 q.1 q.0 y.0 y.1), ap suc y.2)

  stmts_respan : {ts : List Token} {xs : List Stmt} → IsStmts ts xs → (us : List Token) → Same us ts → (ys : List Stmt) × IsStmts us ys × (depth_of_stmts (all ys) ≡ depth_of_stmts (all xs))
  stmts_respan is_end us e = ([], subst (λ (l : List Token). IsStmts l []) (sym (same_none us e)) is_end, refl)
  stmts_respan (is_next a b s ss i j) us e =
      let p = same_split a b us e in
      let v = stmt_respan i p.0 p.3 in
      let w = stmts_respan j p.1 p.4 in
      (v.0 ∷ w.0, subst (λ (l : List Token). IsStmts l (v.0 ∷ w.0)) (sym p.2) (is_next p.0 p.1 v.0 w.0 v.1 w.1), rw (v.2, w.2) refl)

  stmt_respan : {ts : List Token} {x : Stmt} → IsStmt ts x → (us : List Token) → Same us ts → Moved us x
  stmt_respan (is_block ts b i) us e = let y = block_respan i us e in (block y.0, is_block us y.0 y.1, y.2, refl)
  stmt_respan (is_empty s) us e = let p = same_one (at mark.Semicolon s) us e in (empty p.0, subst (λ (l : List Token). IsStmt l (empty p.0)) (sym p.1) (is_empty p.0), refl, refl)
  stmt_respan (is_declare s ts d i) us e =
      let p = same_before ts (at mark.Semicolon s) us e in
      let y = declaration_respan i p.0 p.3 in
      let z = declare y.0 (span_to y.0.span p.1) in
      (z, subst (λ (l : List Token). IsStmt l z) (sym p.2) (is_declare p.1 p.0 y.0 y.1), ap suc y.2, refl)
  stmt_respan (is_simple s ts d i) us e =
      let p = same_before ts (at mark.Semicolon s) us e in
      let y = simple_respan i p.0 p.3 in
      let z = simple y.0 (span_to (span_of_simple y.0) p.1) in
      (z, subst (λ (l : List Token). IsStmt l z) (sym p.2) (is_simple p.1 p.0 y.0 y.1), ap suc y.2, refl)
  stmt_respan (is_if f w o c ts a x s i j) us e =
      let p = same_first (at (if_mark f) w) (at mark.ParenOpen o ∷ (ts ++ at mark.ParenClose c ∷ a)) us e in
      let q = in_brackets o c ts a p.1 p.3 in
      let y = expr_respan i q.2 q.5 in
      let b = stmt_respan j q.3 q.6 in
      let z = if_then f y.0 b.0 (span_to p.0 (span_of_stmt b.0)) in
      (z, subst (λ (l : List Token). IsStmt l z) (sym (p.2 ∙ ap (λ (l : List Token). at (if_mark f) p.0 ∷ l) q.4)) (is_if f p.0 q.0 q.1 q.2 q.3 y.0 b.0 y.1 b.1), rw (y.2, b.2) refl, refl)
  stmt_respan (is_if_else f w o c d ts a b x s t i j n k) us e =
      let p = same_first (at (if_mark f) w) (at mark.ParenOpen o ∷ (ts ++ at mark.ParenClose c ∷ (a ++ at mark.Else d ∷ b))) us e in
      let q = in_brackets o c ts (a ++ at mark.Else d ∷ b) p.1 p.3 in
      let r = same_around a (at mark.Else d) b q.3 q.6 in
      let y = expr_respan i q.2 q.5 in
      let u = stmt_respan j r.0 r.4 in
      let v = stmt_respan k r.2 r.5 in
      let z = if_else f y.0 u.0 v.0 (span_to p.0 (span_of_stmt v.0)) in
      let l = p.2 ∙ ap (λ (l : List Token). at (if_mark f) p.0 ∷ l) (q.4 ∙ ap (λ (l : List Token). at mark.ParenOpen q.0 ∷ (q.2 ++ at mark.ParenClose q.1 ∷ l)) r.3) in
      (z, subst (λ (l : List Token). IsStmt l z) (sym l) (is_if_else f p.0 q.0 q.1 r.1 q.2 r.0 r.2 y.0 u.0 v.0 y.1 u.1 (u.3 ∙ n) v.1), rw (y.2, u.2, v.2) refl, v.3)
  stmt_respan (is_while f w o c ts a x s i j) us e =
      let p = same_first (at (while_mark f) w) (at mark.ParenOpen o ∷ (ts ++ at mark.ParenClose c ∷ a)) us e in
      let q = in_brackets o c ts a p.1 p.3 in
      let y = expr_respan i q.2 q.5 in
      let b = stmt_respan j q.3 q.6 in
      let z = loop_while f y.0 b.0 (span_to p.0 (span_of_stmt b.0)) in
      (z, subst (λ (l : List Token). IsStmt l z) (sym (p.2 ∙ ap (λ (l : List Token). at (while_mark f) p.0 ∷ l) q.4)) (is_while f p.0 q.0 q.1 q.2 q.3 y.0 b.0 y.1 b.1), rw (y.2, b.2) refl, b.3)
  stmt_respan (is_do f d w o c s a ts b x i j) us e =
      let last : List Token = at mark.ParenOpen o ∷ (ts ++ at mark.ParenClose c ∷ at mark.Semicolon s ∷ []) in
      let p = same_first (at (do_mark f) d) (a ++ at mark.While w ∷ last) us e in
      let q = same_around a (at mark.While w) last p.1 p.3 in
      let r = in_brackets o c ts (at mark.Semicolon s ∷ []) q.2 q.5 in
      let m = same_one (at mark.Semicolon s) r.3 r.6 in
      let u = stmt_respan i q.0 q.4 in
      let y = expr_respan j r.2 r.5 in
      let z = loop_do f u.0 y.0 (span_to p.0 m.0) in
      let l = p.2 ∙ ap (λ (l : List Token). at (do_mark f) p.0 ∷ l) (q.3 ∙ ap (λ (l : List Token). q.0 ++ at mark.While q.1 ∷ l) (r.4 ∙ ap (λ (l : List Token). at mark.ParenOpen r.0 ∷ (r.2 ++ at mark.ParenClose r.1 ∷ l)) m.1)) in
      (z, subst (λ (l : List Token). IsStmt l z) (sym l) (is_do f p.0 q.1 r.0 r.1 m.0 q.0 r.2 u.0 y.0 u.1 y.1), rw (u.2, y.2) refl, refl)
  stmt_respan (is_for f w o d s c is ts vs a i x q b j k l m) us e =
      let back : List Token = vs ++ at mark.ParenClose c ∷ a in
      let mid : List Token = ts ++ at mark.Semicolon s ∷ back in
      let p = same_first (at (for_mark f) w) (at mark.ParenOpen o ∷ (is ++ at mark.Semicolon d ∷ mid)) us e in
      let r = same_first (at mark.ParenOpen o) (is ++ at mark.Semicolon d ∷ mid) p.1 p.3 in
      let g = same_around is (at mark.Semicolon d) mid r.1 r.3 in
      let h = same_around ts (at mark.Semicolon s) back g.2 g.5 in
      let n = same_around vs (at mark.ParenClose c) a h.2 h.5 in
      let y = maybe_respan IsFirst depth_of_first (λ ts x i us e. first_respan i us e) is i j g.0 g.4 in
      let u = maybe_respan (IsExpr loosest) depth (exprs_respan loosest) ts x k h.0 h.4 in
      let v = maybe_respan IsSimple depth_of_step (λ ts x i us e. let y = simple_respan i us e in (y.0, y.1, ap suc y.2)) vs q l n.0 n.4 in
      let t = stmt_respan m n.2 n.5 in
      let z = loop_for f y.0 u.0 v.0 t.0 (span_to p.0 (span_of_stmt t.0)) in
      let whole = p.2 ∙ ap (λ (l : List Token). at (for_mark f) p.0 ∷ l)
      (r.2 ∙ ap (λ (l : List Token). at mark.ParenOpen r.0 ∷ l)
      (g.3 ∙ ap (λ (l : List Token). g.0 ++ at mark.Semicolon g.1 ∷ l) (h.3 ∙ ap (λ (l : List Token). h.0 ++ at mark.Semicolon h.1 ∷ l) n.3)))
      in
      (z, subst (λ (l : List Token). IsStmt l z) (sym whole) (is_for f p.0 r.0 g.1 h.1 n.1 g.0 h.0 n.0 n.2 y.0 u.0 v.0 t.0 y.1 u.1 v.1 t.1), rw (y.2, u.2, v.2, t.2) refl, t.3)
  stmt_respan (is_foreach t w o c ts a rs s i n j) us e =
      let p = same_first (at (foreach_mark t) w) (at mark.ParenOpen o ∷ (ts ++ at mark.ParenClose c ∷ a)) us e in
      let q = in_brackets o c ts a p.1 p.3 in
      let y = ranges_respan ts rs i q.2 q.5 in
      let b = stmt_respan j q.3 q.6 in
      let z = foreach t p.0 y.0 b.0 (span_to p.0 (span_of_stmt b.0)) in
      (z, subst (λ (l : List Token). IsStmt l z) (sym (p.2 ∙ ap (λ (l : List Token). at (foreach_mark t) p.0 ∷ l) q.4)) (is_foreach t p.0 q.0 q.1 q.2 q.3 y.0 b.0 y.1 (omega (arith, y.3, n)) b.1), rw (y.2, b.2) refl, b.3)
  stmt_respan (is_foreach_active f o c w a s i) us e =
      let p = same_first (at mark.ForeachActive f) (at mark.ParenOpen o ∷ word w ∷ at mark.ParenClose c ∷ a) us e in
      let q = same_first (at mark.ParenOpen o) (word w ∷ at mark.ParenClose c ∷ a) p.1 p.3 in
      let r = same_first (word w) (at mark.ParenClose c ∷ a) q.1 q.3 in
      let m = same_first (at mark.ParenClose c) a r.1 r.3 in
      let b = stmt_respan i m.1 m.3 in
      let v = moved w r.0 in
      let z = foreach_active p.0 v b.0 (span_to p.0 (span_of_stmt b.0)) in
      let l = p.2 ∙ ap (λ (l : List Token). at mark.ForeachActive p.0 ∷ l) (q.2 ∙ ap (λ (l : List Token). at mark.ParenOpen q.0 ∷ l) (r.2 ∙ ap (λ (l : List Token). word v ∷ l) m.2)) in
      (z, subst (λ (l : List Token). IsStmt l z) (sym l) (is_foreach_active p.0 q.0 m.0 v m.1 b.0 b.1), ap suc b.2, b.3)
  stmt_respan (is_foreach_unique f o m c w ts a x s i j) us e =
      let inside : List Token = ts ++ at mark.ParenClose c ∷ a in
      let p = same_first (at mark.ForeachUnique f) (at mark.ParenOpen o ∷ word w ∷ preposition m ∷ inside) us e in
      let q = same_first (at mark.ParenOpen o) (word w ∷ preposition m ∷ inside) p.1 p.3 in
      let r = same_first (word w) (preposition m ∷ inside) q.1 q.3 in
      let n = same_first (preposition m) inside r.1 r.3 in
      let k = same_around ts (at mark.ParenClose c) a n.1 n.3 in
      let y = expr_respan i k.0 k.4 in
      let b = stmt_respan j k.2 k.5 in
      let v = moved w r.0 in
      let z = foreach_unique p.0 v y.0 b.0 (span_to p.0 (span_of_stmt b.0)) in
      let named = r.2 ∙ ap (λ (l : List Token). word v ∷ l) (n.2 ∙ ap (λ (l : List Token). preposition n.0 ∷ l) k.3) in
      let l = p.2 ∙ ap (λ (l : List Token). at mark.ForeachUnique p.0 ∷ l) (q.2 ∙ ap (λ (l : List Token). at mark.ParenOpen q.0 ∷ l) named) in
      (z, subst (λ (l : List Token). IsStmt l z) (sym l) (is_foreach_unique p.0 q.0 n.0 k.1 v k.0 k.2 y.0 b.0 y.1 b.1), rw (y.2, b.2) refl, b.3)
  stmt_respan (is_unmasked u ts b i) us e =
      let p = same_first (at mark.Unmasked u) ts us e in
      let y = block_respan i p.1 p.3 in
      let z = unmasked p.0 y.0 (span_to p.0 (span_of_block y.0)) in
      (z, subst (λ (l : List Token). IsStmt l z) (sym p.2) (is_unmasked p.0 p.1 y.0 y.1), ap suc y.2, refl)
  stmt_respan (is_jump j w s) us e =
      let p = same_first (at (jump_mark j) w) (at mark.Semicolon s ∷ []) us e in
      let q = same_one (at mark.Semicolon s) p.1 p.3 in
      let z = jump j p.0 (span_to p.0 q.0) in
      (z, subst (λ (l : List Token). IsStmt l z) (sym (p.2 ∙ ap (λ (l : List Token). at (jump_mark j) p.0 ∷ l) q.1)) (is_jump j p.0 q.0), refl, refl)
  stmt_respan (is_return w s ts x i) us e =
      let p = same_first (at mark.Return w) (ts ++ at mark.Semicolon s ∷ []) us e in
      let q = same_before ts (at mark.Semicolon s) p.1 p.3 in
      let y = maybe_respan (IsExpr loosest) depth (exprs_respan loosest) ts x i q.0 q.3 in
      let z = returning p.0 y.0 (span_to p.0 q.1) in
      (z, subst (λ (l : List Token). IsStmt l z) (sym (p.2 ∙ ap (λ (l : List Token). at mark.Return p.0 ∷ l) q.2)) (is_return p.0 q.1 q.0 y.0 y.1), ap suc y.2, refl)
  stmt_respan (is_print w o k c s t ts xs i) us e =
      let last : List Token = at mark.ParenClose c ∷ at mark.Semicolon s ∷ [] in
      let p = same_first (at mark.Print w) (at mark.ParenOpen o ∷ textual t k ∷ (ts ++ last)) us e in
      let q = same_first (at mark.ParenOpen o) (textual t k ∷ (ts ++ last)) p.1 p.3 in
      let r = same_first (textual t k) (ts ++ last) q.1 q.3 in
      let m = same_around ts (at mark.ParenClose c) (at mark.Semicolon s ∷ []) r.1 r.3 in
      let n = same_one (at mark.Semicolon s) m.2 m.5 in
      let y = values_respan ts xs i m.0 m.4 in
      let z = print p.0 t r.0 y.0 (span_to p.0 n.0) in
      let l = p.2 ∙ ap (λ (l : List Token). at mark.Print p.0 ∷ l) (q.2 ∙ ap (λ (l : List Token). at mark.ParenOpen q.0 ∷ l) (r.2 ∙ ap (λ (l : List Token). textual t r.0 ∷ l) (m.3 ∙ ap (λ (l : List Token). m.0 ++ at mark.ParenClose m.1 ∷ l) n.1))) in
      (z, subst (λ (l : List Token). IsStmt l z) (sym l) (is_print p.0 q.0 r.0 m.1 n.0 t m.0 y.0 y.1), ap suc y.2, refl)
  stmt_respan (is_assert w o c s ts x i) us e =
      let p = same_first (at mark.Assert w) (at mark.ParenOpen o ∷ (ts ++ at mark.ParenClose c ∷ at mark.Semicolon s ∷ [])) us e in
      let q = in_brackets o c ts (at mark.Semicolon s ∷ []) p.1 p.3 in
      let m = same_one (at mark.Semicolon s) q.3 q.6 in
      let y = expr_respan i q.2 q.5 in
      let z = assert y.0 (span_to p.0 q.1) (span_to p.0 m.0) in
      let l = p.2 ∙ ap (λ (l : List Token). at mark.Assert p.0 ∷ l) (q.4 ∙ ap (λ (l : List Token). at mark.ParenOpen q.0 ∷ (q.2 ++ at mark.ParenClose q.1 ∷ l)) m.1) in
      (z, subst (λ (l : List Token). IsStmt l z) (sym l) (is_assert p.0 q.0 q.1 m.0 q.2 y.0 y.1), ap suc y.2, refl)

-- ---- functions

linkage_respan : Respans IsLinkage (λ l. 0)
linkage_respan ts l i us e = moved_linkage i us e
  where
    moved_linkage : {ts : List Token} {l : Linkage} → IsLinkage ts l → (us : List Token) → Same us ts → (m : Linkage) × IsLinkage us m × (◌≡◌ {A = ℕ} 0 0)
    moved_linkage (is_linkage l s) us e = let p = same_one (at (linkage_mark l) s) us e in (l, subst (λ (u : List Token). IsLinkage u l) (sym p.1) (is_linkage l p.0), refl)

param_respan : {ts : List Token} {x : Param} → IsParam ts x → (us : List Token) → Same us ts → (y : Param) × IsParam us y × (◌≡◌ {A = ℕ} 0 0)
param_respan (is_scalar ts t w i) us e =
    let p = same_before ts (word w) us e in
    let u = type_respan i p.0 p.3 in
    let v = moved w p.1 in
    let z : Param = record { ty = u.0; word = v; is_array = false; span = span_to u.0.span v.span } in
    (z, subst (λ (l : List Token). IsParam l z) (sym p.2) (is_scalar p.0 u.0 v u.1), refl)
param_respan (is_array ts t w o c i) us e =
    let p = same_around ts (word w) (at mark.BracketOpen o ∷ at mark.BracketClose c ∷ []) us e in
    let q = same_first (at mark.BracketOpen o) (at mark.BracketClose c ∷ []) p.2 p.5 in
    let r = same_one (at mark.BracketClose c) q.1 q.3 in
    let u = type_respan i p.0 p.4 in
    let v = moved w p.1 in
    let z : Param = record { ty = u.0; word = v; is_array = true; span = span_to u.0.span r.0 } in
    (z, subst (λ (l : List Token). IsParam l z) (sym (p.3 ∙ ap (λ (l : List Token). p.0 ++ word v ∷ l) (q.2 ∙ ap (λ (l : List Token). at mark.BracketOpen q.0 ∷ l) r.1))) (is_array p.0 u.0 v q.0 r.0 u.1), refl)

params_respan : {ts : List Token} {xs : List Param} → IsParams ts xs → (us : List Token) → Same us ts → (ys : List Param) × IsParams us ys
params_respan is_none us e = ([], subst (λ (l : List Token). IsParams l []) (sym (same_none us e)) is_none)
params_respan (is_void v) us e = let p = same_one (at mark.Void v) us e in ([], subst (λ (l : List Token). IsParams l []) (sym p.1) (is_void p.0))
params_respan (is_some ts ps i) us e = let y = listed_respan IsParam (λ p. 0) (λ ts x i us e. param_respan i us e) ts ps i us e in (y.0, is_some us y.0 y.1)

function_respan : {ts : List Token} {x : Function} → IsFunction ts x → (us : List Token) → Same us ts → (y : Function) × IsFunction us y × (depth_of_block y.body ≡ depth_of_block x.body)
function_respan (is_function o c ls ts ps bs linkages t w params b i j k l) us e =
    let back : List Token = ps ++ at mark.ParenClose c ∷ bs in
    let p = same_split ls (ts ++ word w ∷ at mark.ParenOpen o ∷ back) us e in
    let q = same_around ts (word w) (at mark.ParenOpen o ∷ back) p.1 p.4 in
    let r = in_brackets o c ps bs q.2 q.5 in
    let a = all_respan IsLinkage (λ l. 0) linkage_respan ls linkages i p.0 p.3 in
    let u = type_respan j q.0 q.4 in
    let m = params_respan k r.2 r.5 in
    let n = block_respan l r.3 r.6 in
    let v = moved w q.1 in
    let z : Function = record { linkages = a.0; answer = u.0; word = v; params = m.0; body = n.0; span = span_to (first_span (p.0 ++ q.0)) (span_of_block n.0) } in
    let s = p.2 ∙ ap (λ (l : List Token). p.0 ++ l) (q.3 ∙ ap (λ (l : List Token). q.0 ++ word v ∷ l) r.4) in
    (z, subst (λ (l : List Token). IsFunction l z) (sym s) (is_function r.0 r.1 p.0 q.0 r.2 r.3 a.0 u.0 v m.0 n.0 a.1 u.1 m.1 n.1), n.2)

-- Tokens of the same kinds as a program's are a program of the same depth.
pub program_respan : (ts : List Token) (fs : List Function) → IsProgram ts fs → (us : List Token) → Same us ts → (gs : List Function) × IsProgram us gs × (depth_of_functions gs ≡ depth_of_functions fs)
program_respan ts fs i us e = all_respan IsFunction (λ f. depth_of_block f.body) (λ ts x i us e. function_respan i us e) ts fs i us e
