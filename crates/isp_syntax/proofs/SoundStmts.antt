-- Declarations, statements and functions of tokens in the order of a text are sound, and have no more nodes than tokens.
use Rattle.std.proofs.Common.{◌≡◌, ℕ, suc, ◌<◌, ◌≤◌, List, [], ◌∷◌, ◌++◌, length, Option, Some, None, refl, sym, ap, subst, arith, length-append, append_assoc}
use Rattle.std.specs.List.{All}
use Rattle.std.proofs.lemmas.List.Elements.{All-cons, All-nil}
use Rattle.isp_base.specs.Types.{span_to}
use Rattle.isp_base.specs.declared.types.Span.{Span}
use Rattle.isp_lex.specs.Listed.{AreTokens}
use Rattle.isp_lex.specs.Tokens.{TokenList, at}
use Rattle.isp_lex.specs.declared.token.Mark.TheVariants as mark
use Rattle.isp_lex.specs.declared.token.Token.{Token}
use Rattle.isp_syntax.proofs.Places.{Within, InLine, line_up, line_end, cut, in_text, within_to, wider, later, first_of_line, tokens_in_line, all_one}
use Rattle.isp_syntax.proofs.SoundExprs.{name_in, token_in, type_in, type_long, Good, expr_in}
use Rattle.isp_grammar.specs.Grammar.{IsMaybe, AreAll, AreListed, AreBehindCommas, IsExpr, IsSize, is_number_size, is_count_size, IsItem, is_plain, is_with_value, is_with_size, span_of_last, IsDeclaration}
use Rattle.isp_grammar.specs.Grammar.{is_declaration, IsSimple, is_value, is_assign, is_change_after, is_change_before, IsFirst, is_first_declare, is_first_simple, IsRange, is_range}
use Rattle.isp_grammar.specs.Grammar.{IsBlock, is_braces, IsStmts, is_end, is_next, IsStmt, is_block, is_empty, is_declare, is_simple, is_if, is_if_else, is_while, is_do}
use Rattle.isp_grammar.specs.Grammar.{is_for, is_foreach, is_foreach_active, is_foreach_unique, is_unmasked, is_jump, is_return, is_print, is_assert, IsParam, is_scalar}
use Rattle.isp_grammar.specs.Grammar.{is_array, IsParams, is_none, is_void, is_some, IsFunction, is_function, IsProgram}
use Rattle.isp_grammar.specs.Signs.{word, preposition, numeral, textual, assignment_mark, change_mark, foreach_mark, jump_mark, loosest, first_span}
use Rattle.isp_tree.specs.Depth.{depth_of_functions, limit}
use Rattle.isp_tree.specs.Nodes.{nodes, nodes_of_option, nodes_of_all, nodes_of_item, nodes_of_declaration, nodes_of_simple, nodes_of_first, nodes_of_step, nodes_of_range, nodes_of_stmt, nodes_of_block, nodes_of_stmts, nodes_of_function}
use Rattle.isp_tree.specs.Sound.{IfAny, IsSoundExpr, IsSoundSize, IsSoundItem, IsSoundDeclaration, IsSoundSimple, IsSoundFirst, IsSoundRange, IsSoundStmt, IsSoundBlock, AreSoundStmts, IsSoundParam, IsSoundFunction, IsSound}
use Rattle.isp_tree.specs.Tree.{Expr, span_of, Item, span_of_item, Declaration, Simple, span_of_simple, First, Range, Stmt, Block, all, span_of_block, span_of_stmt, Param, Function}
use Rattle.isp_tree.specs.declared.stmt.Size.{Size}

-- ---- sizes and items

size_in : (low : ℕ) {ts : List Token} {n : Size} (high : ℕ) → IsSize ts n → InLine low ts high → IsSoundSize n
size_in low high (is_number_size v s) l = (l.1, token_in low (numeral v s) [] high l)
size_in low high (is_count_size s) l = token_in low (at mark.ProgramCount s) [] high l

item_in : (low : ℕ) {ts : List Token} {i : Item} (high : ℕ) → IsItem ts i → InLine low ts high → Good (IsSoundItem i) (span_of_item i) (nodes_of_item i) low high ts
item_in low high (is_plain w) l = record { is = name_in low w [] high l; place = wider low w.span w.span.end high l.0 (line_up w.span.end [] high l.2); few = omega arith }
item_in low high (is_with_value w e ts x i) l =
    let m = l.2 in
    let inside = expr_in e.end high i m.2 in
    let s = within_to low w.span w.span.end e.end (span_of x) high l.0 (omega (arith, m.0.from, m.0.some)) inside.place in
    record {
      is = (name_in low w (at mark.Assign e ∷ ts) high l, inside.is, in_text low (span_to w.span (span_of x)) high s (line_end e.end ts high m.2));
      place = s;
      few = omega (arith, inside.few);
    }
item_in low high (is_with_size w o c ts n i) l =
    let m = l.2 in
    let r = cut o.end ts (at mark.BracketClose c ∷ []) high m.2 in
    let last = r.back in
    let s = within_to low w.span w.span.end r.at c high l.0 (omega (arith, m.0.from, m.0.some, line_up o.end ts r.at r.front)) (wider r.at c c.end high last.0 (line_up c.end [] high last.2)) in
    record {
      is = (name_in low w (at mark.BracketOpen o ∷ (ts ++ at mark.BracketClose c ∷ [])) high l, size_in o.end r.at i r.front, in_text low (span_to w.span c) high s (line_end c.end [] high last.2));
      place = s;
      few = omega arith;
    }

-- ---- lists

module _ {A : Type 0} (is : List Token → A → Type 0) (sound : A → Type 0) (span : A → Span) (count : A → ℕ) where
  abbrev Each : Type 0
  Each = (low : ℕ) (ts : List Token) (x : A) (high : ℕ) → is ts x → InLine low ts high → Good (sound x) (span x) (count x) low high ts

  pub record Several (low : ℕ) (ts : List Token) (xs : List A) (high : ℕ) : Type 0 where
    pub each : All sound xs
    pub few : nodes_of_all count xs ≤ length ts
    pub some : 1 ≤ length xs

  pub listed_in : Each → (low : ℕ) (ts : List Token) (xs : List A) (high : ℕ) → AreListed is ts xs → InLine low ts high → Several low ts xs high
  listed_in one low ts [] high i l = absurd i
  listed_in one low ts (x ∷ []) high i l = let g = one low ts x high i l in record { each = all_one sound x g.is; few = omega (arith, g.few); some = omega arith }
  listed_in one low ts (x ∷ y ∷ ys) high i l =
      let r = cut low i.0 (at mark.Comma i.1 ∷ i.2) high (subst (λ (u : List Token). InLine low u high) i.3 l) in
      let g = one low i.0 x r.at i.4 r.front in
      let back = r.back in
      let more = listed_in one i.1.end i.2 (y ∷ ys) high i.5 back.2 in
      record {
        each = All-cons sound x (y ∷ ys) g.is more.each;
        few = omega (arith, g.few, more.few, ap length i.3, length-append i.0 (at mark.Comma i.1 ∷ i.2));
        some = omega arith;
      }

  pub all_in : Each → (low : ℕ) (ts : List Token) (xs : List A) (high : ℕ) → AreAll is ts xs → InLine low ts high → All sound xs × (nodes_of_all count xs ≤ length ts)
  all_in one low ts [] high i l = (All-nil sound, omega arith)
  all_in one low ts (x ∷ xs) high i l =
      let r = cut low i.0 i.1 high (subst (λ (u : List Token). InLine low u high) i.2 l) in
      let g = one low i.0 x r.at i.3 r.front in
      let more = all_in one r.at i.1 xs high i.4 r.back in
      (All-cons sound x xs g.is more.0, omega (arith, g.few, more.1, ap length i.2, length-append i.0 i.1))

last_item_in : (low : ℕ) (ts : List Token) (is : List Item) (high : ℕ) → AreListed IsItem ts is → InLine low ts high → Within low (span_of_last is) high
last_item_in low ts [] high i l = absurd i
last_item_in low ts (x ∷ []) high i l = let g = item_in low high i l in g.place
last_item_in low ts (x ∷ y ∷ ys) high i l =
    let r = cut low i.0 (at mark.Comma i.1 ∷ i.2) high (subst (λ (u : List Token). InLine low u high) i.3 l) in
    let back = r.back in
    later low i.1.end (span_of_last (y ∷ ys)) high (last_item_in i.1.end i.2 (y ∷ ys) high i.5 back.2) (omega (arith, line_up low i.0 r.at r.front, back.0.from, back.0.some))

-- ---- declarations, and what stands before a semicolon

declaration_in : (low : ℕ) {ts : List Token} {d : Declaration} (high : ℕ) → IsDeclaration ts d → InLine low ts high → Good (IsSoundDeclaration d) d.span (nodes_of_declaration d) low high ts
declaration_in low high (is_declaration ts us t is i j) l =
    let r = cut low ts us high l in
    let ty = type_in low r.at i r.front in
    let items = listed_in IsItem IsSoundItem span_of_item nodes_of_item (λ low ts x high i l. item_in low high i l) r.at us is high j r.back in
    let s = within_to low t.span r.at r.at (span_of_last is) high ty.1 (omega arith) (last_item_in r.at us is high j r.back) in
    record {
      is = record { ty = ty.0; some = items.some; items = items.each; span = in_text low (span_to t.span (span_of_last is)) high s (line_end r.at us high r.back) };
      place = s;
      few = omega (arith, items.few, length-append ts us);
    }

simple_in : (low : ℕ) {ts : List Token} {p : Simple} (high : ℕ) → IsSimple ts p → InLine low ts high → Good (IsSoundSimple p) (span_of_simple p) (nodes_of_simple p) low high ts
simple_in low high (is_value ts x i) l = let g = expr_in low high i l in record { is = g.is; place = g.place; few = g.few }
simple_in low high (is_assign op o a b t x i j) l =
    let r = cut low a (at (assignment_mark op) o ∷ b) high l in
    let target = expr_in low r.at i r.front in
    let back = r.back in
    let source = expr_in o.end high j back.2 in
    let s = within_to low (span_of t) r.at o.end (span_of x) high target.place (omega (arith, back.0.from, back.0.some)) source.place in
    record {
      is = (target.is, source.is, in_text low (span_to (span_of t) (span_of x)) high s (line_end o.end b high back.2));
      place = s;
      few = omega (arith, target.few, source.few, length-append a (at (assignment_mark op) o ∷ b));
    }
simple_in low high (is_change_after c o a t i) l =
    let r = cut low a (at (change_mark c) o ∷ []) high l in
    let target = expr_in low r.at i r.front in
    let back = r.back in
    let s = within_to low (span_of t) r.at r.at o high target.place (omega arith) (wider r.at o o.end high back.0 (line_up o.end [] high back.2)) in
    record {
      is = (target.is, in_text low (span_to (span_of t) o) high s (line_end o.end [] high back.2));
      place = s;
      few = omega (arith, target.few, length-append a (at (change_mark c) o ∷ []));
    }
simple_in low high (is_change_before c o a t i) l =
    let target = expr_in o.end high i l.2 in
    let s = within_to low o o.end o.end (span_of t) high l.0 (omega arith) target.place in
    record { is = (target.is, in_text low (span_to o (span_of t)) high s (line_end o.end a high l.2)); place = s; few = omega (arith, target.few) }

-- the first part and the step of a `for`: a node more, and the sign after it is a token more
maybe_first_in : (low : ℕ) (ts : List Token) (x : Option First) (high : ℕ) → IsMaybe IsFirst ts x → InLine low ts high → IfAny IsSoundFirst x × (nodes_of_option nodes_of_first x ≤ suc (length ts))
maybe_first_in low ts None high i l = (tt, omega arith)
maybe_first_in low ts (Some f) high i l = first_in i l
  where
    first_in : {ts : List Token} {f : First} → IsFirst ts f → InLine low ts high → IsSoundFirst f × (nodes_of_first f ≤ suc (length ts))
    first_in (is_first_declare ts d i) l = let g = declaration_in low high i l in (g.is, omega (arith, g.few))
    first_in (is_first_simple ts p i) l = let g = simple_in low high i l in (g.is, omega (arith, g.few))

maybe_step_in : (low : ℕ) (ts : List Token) (x : Option Simple) (high : ℕ) → IsMaybe IsSimple ts x → InLine low ts high → IfAny IsSoundSimple x × (nodes_of_option nodes_of_step x ≤ suc (length ts))
maybe_step_in low ts None high i l = (tt, omega arith)
maybe_step_in low ts (Some p) high i l = let g = simple_in low high i l in (g.is, omega (arith, g.few))

maybe_expr_in : (low : ℕ) (ts : List Token) (x : Option Expr) (high : ℕ) → IsMaybe (IsExpr loosest) ts x → InLine low ts high → IfAny IsSoundExpr x × (nodes_of_option nodes x ≤ length ts)
maybe_expr_in low ts None high i l = (tt, omega arith)
maybe_expr_in low ts (Some x) high i l = let g = expr_in low high i l in (g.is, omega (arith, g.few))

range_in : (low : ℕ) {ts : List Token} {r : Range} (high : ℕ) → IsRange ts r → InLine low ts high → Good (IsSoundRange r) r.span (nodes_of_range r) low high ts
range_in low high (is_range w e d a b x y i j) l =
    let m = l.2 in
    let r = cut e.end a (at mark.Ellipsis d ∷ b) high m.2 in
    let start = expr_in e.end r.at i r.front in
    let back = r.back in
    let end = expr_in d.end high j back.2 in
    let s = within_to low w.span w.span.end d.end (span_of y) high l.0 (omega (arith, m.0.from, m.0.some, line_up e.end a r.at r.front, back.0.from, back.0.some)) end.place in
    record {
      is = record { word = name_in low w (at mark.Assign e ∷ (a ++ at mark.Ellipsis d ∷ b)) high l; start = start.is; end = end.is; span = in_text low (span_to w.span (span_of y)) high s (line_end d.end b high back.2) };
      place = s;
      few = omega (arith, start.few, end.few, length-append a (at mark.Ellipsis d ∷ b));
    }

values_in : (low : ℕ) (ts : List Token) (xs : List Expr) (high : ℕ) → AreBehindCommas (IsExpr loosest) ts xs → InLine low ts high → All IsSoundExpr xs × (nodes_of_all nodes xs ≤ length ts)
values_in low ts xs high i l = all_in _ IsSoundExpr span_of nodes one low ts xs high i l
  where
    one : (low : ℕ) (ts : List Token) (x : Expr) (high : ℕ) → ((s : Span) × (a : List Token) × (ts ≡ at mark.Comma s ∷ a) × IsExpr loosest a x) → InLine low ts high → Good (IsSoundExpr x) (span_of x) (nodes x) low high ts
    one low ts x high i l =
        let m = subst (λ (u : List Token). InLine low u high) i.2 l in
        let g = expr_in i.0.end high i.3 m.2 in
        record { is = g.is; place = later low i.0.end (span_of x) high g.place (omega (arith, m.0.from, m.0.some)); few = omega (arith, g.few, ap length i.2) }

-- ---- statements

-- from the first of some tokens to the end of what stands after it
begun : (low : ℕ) (k : Span) (b : ℕ) (s : Span) (high : ℕ) → Within low k k.end → k.end ≤ b → Within b s high → Within low (span_to k s) high
begun low k b s high w le v = within_to low k k.end b s high w le v

-- up to a last token
closed : (a : ℕ) (t : Token) (high : ℕ) → InLine a (t ∷ []) high → Within a t.span high
closed a t high l = wider a t.span t.span.end high l.0 (line_up t.span.end [] high l.2)

-- `"(" expr ")"` and what follows, after a place
record Tested (low : ℕ) (o c : Span) (ts a : List Token) (x : Expr) (high : ℕ) : Type 0 where
  pub test : IsSoundExpr x
  pub few : nodes x ≤ length ts
  pub on : low ≤ c.end
  pub close : Within o.end c c.end
  pub opens : Within low o o.end
  pub rest : InLine c.end a high

tested : (low : ℕ) (o c : Span) (ts a : List Token) (x : Expr) (high : ℕ) → IsExpr loosest ts x → InLine low (at mark.ParenOpen o ∷ (ts ++ at mark.ParenClose c ∷ a)) high → Tested low o c ts a x high
tested low o c ts a x high i l =
    let r = cut o.end ts (at mark.ParenClose c ∷ a) high l.2 in
    let g = expr_in o.end r.at i r.front in
    let back = r.back in
    let up = line_up o.end ts r.at r.front in
    record {
      test = g.is;
      few = g.few;
      on = omega (arith, l.0.from, l.0.some, up, back.0.from, back.0.some);
      close = record { from = omega (arith, up, back.0.from); some = back.0.some; upto = omega arith };
      opens = l.0;
      rest = back.2;
    }

mutual
  pub block_in : (low : ℕ) {ts : List Token} {b : Block} (high : ℕ) → IsBlock ts b → InLine low ts high → Good (IsSoundBlock b) (span_of_block b) (nodes_of_block b) low high ts
  block_in low high (is_braces o c ts ss i) l =
      let r = cut o.end ts (at mark.BraceClose c ∷ []) high l.2 in
      let inside = stmts_in o.end r.at i r.front in
      let s = begun low o r.at c high l.0 (line_up o.end ts r.at r.front) (closed r.at (at mark.BraceClose c) high r.back) in
      record {
        is = (inside.0, in_text low (span_to o c) high s (line_end r.at (at mark.BraceClose c ∷ []) high r.back));
        place = s;
        few = omega (arith, inside.1, length-append ts (at mark.BraceClose c ∷ []));
      }

  stmts_in : (low : ℕ) {ts : List Token} {ss : List Stmt} (high : ℕ) → IsStmts ts ss → InLine low ts high → AreSoundStmts (all ss) × (nodes_of_stmts (all ss) ≤ length ts)
  stmts_in low high is_end l = (tt, omega arith)
  stmts_in low high (is_next a b s ss i j) l =
      let r = cut low a b high l in
      let g = stmt_in low r.at i r.front in
      let more = stmts_in r.at high j r.back in
      ((g.is, more.0), omega (arith, g.few, more.1, length-append a b))

  pub stmt_in : (low : ℕ) {ts : List Token} {s : Stmt} (high : ℕ) → IsStmt ts s → InLine low ts high → Good (IsSoundStmt s) (span_of_stmt s) (nodes_of_stmt s) low high ts
  stmt_in low high (is_block ts b i) l = let g = block_in low high i l in record { is = g.is; place = g.place; few = g.few }
  stmt_in low high (is_empty e) l = record { is = token_in low (at mark.Semicolon e) [] high l; place = closed low (at mark.Semicolon e) high l; few = omega arith }
  stmt_in low high (is_declare e ts d i) l =
      let r = cut low ts (at mark.Semicolon e ∷ []) high l in
      let g = declaration_in low r.at i r.front in
      let s = within_to low d.span r.at r.at e high g.place (omega arith) (closed r.at (at mark.Semicolon e) high r.back) in
      record { is = (g.is, in_text low (span_to d.span e) high s (line_end low (ts ++ at mark.Semicolon e ∷ []) high l)); place = s; few = omega (arith, g.few, length-append ts (at mark.Semicolon e ∷ [])) }
  stmt_in low high (is_simple e ts p i) l =
      let r = cut low ts (at mark.Semicolon e ∷ []) high l in
      let g = simple_in low r.at i r.front in
      let s = within_to low (span_of_simple p) r.at r.at e high g.place (omega arith) (closed r.at (at mark.Semicolon e) high r.back) in
      record { is = (g.is, in_text low (span_to (span_of_simple p) e) high s (line_end low (ts ++ at mark.Semicolon e ∷ []) high l)); place = s; few = omega (arith, g.few, length-append ts (at mark.Semicolon e ∷ [])) }
  stmt_in low high (is_if f k o c ts a x b i j) l =
      let t = tested k.end o c ts a x high i l.2 in
      let g = stmt_in c.end high j t.rest in
      let s = begun low k c.end (span_of_stmt b) high l.0 t.on g.place in
      record { is = (t.test, g.is, in_text low (span_to k (span_of_stmt b)) high s (line_end c.end a high t.rest)); place = s; few = omega (arith, t.few, g.few, length-append ts (at mark.ParenClose c ∷ a)) }
  stmt_in low high (is_if_else f k o c e ts a b x s t i j n m) l =
      let q = tested k.end o c ts (a ++ at mark.Else e ∷ b) x high i l.2 in
      let r = cut c.end a (at mark.Else e ∷ b) high q.rest in
      let g = stmt_in c.end r.at j r.front in
      let back = r.back in
      let h = stmt_in e.end high m back.2 in
      let w = begun low k e.end (span_of_stmt t) high l.0 (omega (arith, q.on, line_up c.end a r.at r.front, back.0.from, back.0.some)) h.place in
      record {
        is = (q.test, g.is, h.is, in_text low (span_to k (span_of_stmt t)) high w (line_end e.end b high back.2));
        place = w;
        few = omega (arith, q.few, g.few, h.few, length-append ts (at mark.ParenClose c ∷ (a ++ at mark.Else e ∷ b)), length-append a (at mark.Else e ∷ b));
      }
  stmt_in low high (is_while f k o c ts a x b i j) l =
      let t = tested k.end o c ts a x high i l.2 in
      let g = stmt_in c.end high j t.rest in
      let s = begun low k c.end (span_of_stmt b) high l.0 t.on g.place in
      record { is = (t.test, g.is, in_text low (span_to k (span_of_stmt b)) high s (line_end c.end a high t.rest)); place = s; few = omega (arith, t.few, g.few, length-append ts (at mark.ParenClose c ∷ a)) }
  stmt_in low high (is_do f k w o c e a ts b x i j) l =
      let last : List Token = at mark.ParenOpen o ∷ (ts ++ at mark.ParenClose c ∷ at mark.Semicolon e ∷ []) in
      let r = cut k.end a (at mark.While w ∷ last) high l.2 in
      let g = stmt_in k.end r.at i r.front in
      let back = r.back in
      let t = tested w.end o c ts (at mark.Semicolon e ∷ []) x high j back.2 in
      let s = begun low k c.end e high l.0 (omega (arith, line_up k.end a r.at r.front, back.0.from, back.0.some, t.on)) (closed c.end (at mark.Semicolon e) high t.rest) in
      record {
        is = (g.is, t.test, in_text low (span_to k e) high s (line_end c.end (at mark.Semicolon e ∷ []) high t.rest));
        place = s;
        few = omega (arith, g.few, t.few, length-append a (at mark.While w ∷ last), length-append ts (at mark.ParenClose c ∷ at mark.Semicolon e ∷ []));
      }
  stmt_in low high (is_for f k o d e c is ts us a i x p b j m n q) l =
      let m0 = l.2 in
      let r = cut o.end is (at mark.Semicolon d ∷ (ts ++ at mark.Semicolon e ∷ (us ++ at mark.ParenClose c ∷ a))) high m0.2 in
      let first = maybe_first_in o.end is i r.at j r.front in
      let back = r.back in
      let u = cut d.end ts (at mark.Semicolon e ∷ (us ++ at mark.ParenClose c ∷ a)) high back.2 in
      let test = maybe_expr_in d.end ts x u.at m u.front in
      let behind = u.back in
      let v = cut e.end us (at mark.ParenClose c ∷ a) high behind.2 in
      let step = maybe_step_in e.end us p v.at n v.front in
      let last = v.back in
      let g = stmt_in c.end high q last.2 in
      let on : k.end ≤ c.end = omega (arith, m0.0.from, m0.0.some, line_up o.end is r.at r.front, back.0.from, back.0.some, line_up d.end ts u.at u.front, behind.0.from, behind.0.some, line_up e.end us v.at v.front, last.0.from, last.0.some) in
      let s = begun low k c.end (span_of_stmt b) high l.0 on g.place in
      record {
        is = (first.0, test.0, step.0, g.is, in_text low (span_to k (span_of_stmt b)) high s (line_end c.end a high last.2));
        place = s;
        few = omega (
          arith,
          first.1,
          test.1,
          step.1,
          g.few,
          length-append is
              (at mark.Semicolon d ∷ (ts ++ at mark.Semicolon e ∷ (us ++ at mark.ParenClose c ∷ a))),
          length-append ts
              (at mark.Semicolon e ∷ (us ++ at mark.ParenClose c ∷ a)),
          length-append us (at mark.ParenClose c ∷ a),
        );
      }
  stmt_in low high (is_foreach t k o c ts a rs b i n j) l =
      let m = l.2 in
      let r = cut o.end ts (at mark.ParenClose c ∷ a) high m.2 in
      let ranges = listed_in IsRange IsSoundRange (λ r. r.span) nodes_of_range (λ low ts x high i l. range_in low high i l) o.end ts rs r.at i r.front in
      let back = r.back in
      let g = stmt_in c.end high j back.2 in
      let s = begun low k c.end (span_of_stmt b) high l.0 (omega (arith, m.0.from, m.0.some, line_up o.end ts r.at r.front, back.0.from, back.0.some)) g.place in
      record {
        is = (
          token_in low (at (foreach_mark t) k) (at mark.ParenOpen o ∷ (ts ++ at mark.ParenClose c ∷ a)) high l,
          record
              { some = ranges.some; few = n; each = ranges.each },
          g.is,
          in_text low (span_to k (span_of_stmt b)) high s
              (line_end c.end a high back.2),
        );
        place = s;
        few = omega (arith, ranges.few, g.few, length-append ts (at mark.ParenClose c ∷ a));
      }
  stmt_in low high (is_foreach_active k o c w a b i) l =
      let m = l.2 in
      let n = m.2 in
      let q = n.2 in
      let g = stmt_in c.end high i q.2 in
      let s = begun low k c.end (span_of_stmt b) high l.0 (omega (arith, m.0.from, m.0.some, n.0.from, n.0.some, q.0.from, q.0.some)) g.place in
      record {
        is = (
          token_in low (at mark.ForeachActive k) (at mark.ParenOpen o ∷ word w ∷ at mark.ParenClose c ∷ a) high l,
          name_in o.end w
              (at mark.ParenClose c ∷ a) high n,
          g.is,
          in_text low (span_to k (span_of_stmt b)) high s (line_end c.end a high q.2),
        );
        place = s;
        few = omega (arith, g.few);
      }
  stmt_in low high (is_foreach_unique k o m c w ts a x b i j) l =
      let p = l.2 in
      let n = p.2 in
      let q = n.2 in
      let r = cut m.end ts (at mark.ParenClose c ∷ a) high q.2 in
      let v = expr_in m.end r.at i r.front in
      let back = r.back in
      let g = stmt_in c.end high j back.2 in
      let on : k.end ≤ c.end = omega (arith, p.0.from, p.0.some, n.0.from, n.0.some, q.0.from, q.0.some, line_up m.end ts r.at r.front, back.0.from, back.0.some) in
      let s = begun low k c.end (span_of_stmt b) high l.0 on g.place in
      let inside : List Token = preposition m ∷ (ts ++ at mark.ParenClose c ∷ a) in
      record {
        is = (token_in low (at mark.ForeachUnique k) (at mark.ParenOpen o ∷ word w ∷ inside) high l, name_in o.end w inside high n, v.is, g.is, in_text low (span_to k (span_of_stmt b)) high s (line_end c.end a high back.2));
        place = s;
        few = omega (arith, v.few, g.few, length-append ts (at mark.ParenClose c ∷ a));
      }
  stmt_in low high (is_unmasked k ts b i) l =
      let g = block_in k.end high i l.2 in
      let s = begun low k k.end (span_of_block b) high l.0 (omega arith) g.place in
      record { is = (token_in low (at mark.Unmasked k) ts high l, g.is, in_text low (span_to k (span_of_block b)) high s (line_end k.end ts high l.2)); place = s; few = omega (arith, g.few) }
  stmt_in low high (is_jump j k e) l =
      let s = begun low k k.end e high l.0 (omega arith) (closed k.end (at mark.Semicolon e) high l.2) in
      record { is = (token_in low (at (jump_mark j) k) (at mark.Semicolon e ∷ []) high l, in_text low (span_to k e) high s (line_end k.end (at mark.Semicolon e ∷ []) high l.2)); place = s; few = omega arith }
  stmt_in low high (is_return k e ts x i) l =
      let r = cut k.end ts (at mark.Semicolon e ∷ []) high l.2 in
      let v = maybe_expr_in k.end ts x r.at i r.front in
      let s = begun low k r.at e high l.0 (line_up k.end ts r.at r.front) (closed r.at (at mark.Semicolon e) high r.back) in
      record {
        is = (token_in low (at mark.Return k) (ts ++ at mark.Semicolon e ∷ []) high l, v.0, in_text low (span_to k e) high s (line_end r.at (at mark.Semicolon e ∷ []) high r.back));
        place = s;
        few = omega (arith, v.1, length-append ts (at mark.Semicolon e ∷ []));
      }
  stmt_in low high (is_print k o p c e t ts xs i) l =
      let last : List Token = at mark.ParenClose c ∷ at mark.Semicolon e ∷ [] in
      let m = l.2 in
      let n = m.2 in
      let r = cut p.end ts last high n.2 in
      let v = values_in p.end ts xs r.at i r.front in
      let back = r.back in
      let s = begun low k c.end e high l.0 (omega (arith, m.0.from, m.0.some, n.0.from, n.0.some, line_up p.end ts r.at r.front, back.0.from, back.0.some)) (closed c.end (at mark.Semicolon e) high back.2) in
      record {
        is = (token_in low (at mark.Print k) (at mark.ParenOpen o ∷ textual t p ∷ (ts ++ last)) high l, token_in o.end (textual t p) (ts ++ last) high n, v.0, in_text low (span_to k e) high s (line_end c.end (at mark.Semicolon e ∷ []) high back.2));
        place = s;
        few = omega (arith, v.1, length-append ts last);
      }
  stmt_in low high (is_assert k o c e ts x i) l =
      let t = tested k.end o c ts (at mark.Semicolon e ∷ []) x high i l.2 in
      let s = begun low k c.end e high l.0 t.on (closed c.end (at mark.Semicolon e) high t.rest) in
      let end = line_end c.end (at mark.Semicolon e ∷ []) high t.rest in
      let call = begun low k o.end c c.end l.0 (omega (arith, t.opens.from, t.opens.some)) t.close in
      record {
        is = (t.test, in_text low (span_to k c) c.end call (omega (arith, line_up c.end (at mark.Semicolon e ∷ []) high t.rest, end)), in_text low (span_to k e) high s end);
        place = s;
        few = omega (arith, t.few, length-append ts (at mark.ParenClose c ∷ at mark.Semicolon e ∷ []));
      }

-- ---- functions

param_in : (low : ℕ) {ts : List Token} {p : Param} (high : ℕ) → IsParam ts p → InLine low ts high → Good (IsSoundParam p) p.span 1 low high ts
param_in low high (is_scalar ts t w i) l =
    let r = cut low ts (word w ∷ []) high l in
    let ty = type_in low r.at i r.front in
    let s = within_to low t.span r.at r.at w.span high ty.1 (omega arith) (closed r.at (word w) high r.back) in
    record { is = record { ty = ty.0; word = name_in r.at w [] high r.back; span = in_text low (span_to t.span w.span) high s (line_end low (ts ++ word w ∷ []) high l) }; place = s; few = omega (arith, length-append ts (word w ∷ [])) }
param_in low high (is_array ts t w o c i) l =
    let last : List Token = at mark.BracketOpen o ∷ at mark.BracketClose c ∷ [] in
    let r = cut low ts (word w ∷ last) high l in
    let ty = type_in low r.at i r.front in
    let back = r.back in
    let n = back.2 in
    let s = within_to low t.span r.at o.end c high ty.1 (omega (arith, back.0.from, back.0.some, n.0.from, n.0.some)) (closed o.end (at mark.BracketClose c) high n.2) in
    record { is = record { ty = ty.0; word = name_in r.at w last high back; span = in_text low (span_to t.span c) high s (line_end low (ts ++ word w ∷ last) high l) }; place = s; few = omega (arith, length-append ts (word w ∷ last)) }

ones : {A : Type 0} (xs : List A) → nodes_of_all (λ x. 1) xs ≡ length xs
ones [] = refl
ones (x ∷ xs) = omega (arith, ones xs)

params_in : (low : ℕ) {ts : List Token} {ps : List Param} (high : ℕ) → IsParams ts ps → InLine low ts high → All IsSoundParam ps × (length ps ≤ length ts)
params_in low high is_none l = (All-nil IsSoundParam, omega arith)
params_in low high (is_void v) l = (All-nil IsSoundParam, omega arith)
params_in low high (is_some ts ps i) l =
    let s = listed_in IsParam IsSoundParam (λ p. p.span) (λ p. 1) (λ low ts x high i l. param_in low high i l) low ts ps high i l in
    (s.each, omega (arith, s.few, ones ps))

function_in : (low : ℕ) {ts : List Token} {f : Function} (high : ℕ) → IsFunction ts f → InLine low ts high → Good (IsSoundFunction f) f.span (nodes_of_function f) low high ts
function_in low high (is_function o c ls ts ps bs linkages t w params b i j k m) l =
    let inside : List Token = ps ++ at mark.ParenClose c ∷ bs in
    let back : List Token = word w ∷ at mark.ParenOpen o ∷ inside in
    let r = cut low ls (ts ++ back) high l in
    let u = cut r.at ts back high r.back in
    let ty = type_in r.at u.at j u.front in
    let n = u.back in
    let q = n.2 in
    let v = cut o.end ps (at mark.ParenClose c ∷ bs) high q.2 in
    let given = params_in o.end v.at k v.front in
    let last = v.back in
    let body = block_in c.end high m last.2 in
    let front = cut low (ls ++ ts) back high (subst (λ (z : List Token). InLine low z high) (sym (append_assoc ls ts back)) l) in
    let long : 0 < length (ls ++ ts) = omega (arith, type_long j, length-append ls ts) in
    let first = first_of_line low (ls ++ ts) front.at front.front long in
    let rest = front.back in
    let on : front.at ≤ c.end = omega (arith, rest.0.from, rest.0.some, q.0.from, q.0.some, line_up o.end ps v.at v.front, last.0.from, last.0.some) in
    let s = within_to low (first_span (ls ++ ts)) front.at c.end (span_of_block b) high first on body.place in
    record {
      is = record { answer = ty.0; word = name_in u.at w (at mark.ParenOpen o ∷ inside) high n; params = given.0; body = body.is; span = in_text low (span_to (first_span (ls ++ ts)) (span_of_block b)) high s (line_end c.end bs high last.2) };
      place = s;
      few = omega (arith, given.1, body.few, length-append ls (ts ++ back), length-append ts back, length-append ps (at mark.ParenClose c ∷ bs));
    }

-- What the grammar makes of the tokens of a text is sound.
pub program_sound : (list : TokenList) (fs : List Function) → AreTokens list → IsProgram list.items fs → depth_of_functions fs ≤ limit → IsSound fs
program_sound list fs a i shallow =
    let p = all_in IsFunction IsSoundFunction (λ f. f.span) nodes_of_function (λ low ts x high i l. function_in low high i l) 0 list.items fs list.end i (tokens_in_line list a) in
    record { each = p.0; shallow = shallow; few = omega (arith, p.1, a.few, a.short) }
