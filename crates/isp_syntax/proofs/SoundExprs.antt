-- Expressions of tokens in the order of a text are sound, and have no more nodes than tokens.
use Rattle.std.proofs.Common.{◌≡◌, ℕ, ◌<◌, ◌≤◌, true, List, [], ◌∷◌, ◌++◌, length, ap, arith, length-append}
use Rattle.isp_base.specs.Types.{span_to}
use Rattle.isp_base.specs.declared.types.Span.{Span}
use Rattle.isp_lex.specs.Tokens.{at}
use Rattle.isp_lex.specs.declared.token.Mark.TheVariants as mark
use Rattle.isp_lex.specs.declared.token.Token.{Token}
use Rattle.isp_syntax.proofs.Places.{Within, InLine, line_up, line_end, cut, in_text, within_to, wider, spread_within}
use Rattle.isp_grammar.specs.Grammar.{AreAll, IsQualifier, is_qualifier, IsType, is_based, is_signed, IsPlace, is_variable, is_element, IsExpr, is_number, is_truth, is_program_index}
use Rattle.isp_grammar.specs.Grammar.{is_program_count, is_place, is_call, is_brackets, is_cast, is_prefix, is_tighter, is_binary, is_choose, IsArgument, is_value_argument, is_reference}
use Rattle.isp_grammar.specs.Grammar.{IsArguments, is_no_argument, is_some_arguments, IsArgumentList, is_last_argument, is_more_arguments}
use Rattle.isp_grammar.specs.Signs.{word, numeral, truth_mark, sign, base_mark}
use Rattle.isp_tree.specs.Nodes.{nodes, nodes_of_place, nodes_of_argument, nodes_of_row}
use Rattle.isp_tree.specs.Sound.{InText, IsName, Fits, IsSoundType, IsSoundExpr, IsSoundPlace, IsSoundArgument, AreSoundArguments}
use Rattle.isp_tree.specs.Tree.{TypeTree, has_sign, Expr, Place, Argument, listed, span_of, span_of_place, span_of_argument}
use Rattle.isp_tree.specs.declared.types.Qualifier.{Qualifier}
use Rattle.isp_tree.specs.declared.types.Word.{Word}

-- ---- single tokens

pub name_in : (low : ℕ) (w : Word) (ts : List Token) (high : ℕ) → InLine low (word w ∷ ts) high → IsName w
name_in low w ts high l = record { word = l.1.0; free = l.1.1; span = in_text low w.span high (wider low w.span w.span.end high l.0 (line_up w.span.end ts high l.2)) (line_end w.span.end ts high l.2) }

pub token_in : (low : ℕ) (t : Token) (ts : List Token) (high : ℕ) → InLine low (t ∷ ts) high → InText t.span
token_in low t ts high l = in_text low t.span high (wider low t.span t.span.end high l.0 (line_up t.span.end ts high l.2)) (line_end t.span.end ts high l.2)

-- ---- types

qualifier_long : {ts : List Token} {q : Qualifier} → IsQualifier ts q → 0 < length ts
qualifier_long (is_qualifier q s) = omega arith

signed_long : (ts : List Token) (qs : List Qualifier) → AreAll IsQualifier ts qs → has_sign qs ≡ true → 0 < length ts
signed_long ts [] i h = absurd cc
signed_long ts (q ∷ qs) i h = omega (arith, ap length i.2, length-append i.0 i.1, qualifier_long i.3)

pub type_long : {ts : List Token} {t : TypeTree} → IsType ts t → 0 < length ts
type_long (is_based b s ts qs i) = omega (arith, length-append ts (at (base_mark b) s ∷ []))
type_long (is_signed ts qs i h) = signed_long ts qs i h

pub type_in : (low : ℕ) {ts : List Token} {t : TypeTree} (high : ℕ) → IsType ts t → InLine low ts high → IsSoundType t × Within low t.span high
type_in low high (is_based b s ts qs i) l =
    let w = spread_within low (ts ++ at (base_mark b) s ∷ []) high l (omega (arith, length-append ts (at (base_mark b) s ∷ []))) in
    ((tt, in_text low _ high w (line_end low (ts ++ at (base_mark b) s ∷ []) high l)), w)
type_in low high (is_signed ts qs i h) l =
    let w = spread_within low ts high l (signed_long ts qs i h) in
    ((h, in_text low _ high w (line_end low ts high l)), w)

-- ---- expressions

pub record Good (sound : Type 0) (s : Span) (nodes low high : ℕ) (ts : List Token) : Type 0 where
  pub is : sound
  pub place : Within low s high
  pub few : nodes ≤ length ts

-- a token alone
alone : (S : Type 0) (low : ℕ) (t : Token) (high : ℕ) → InLine low (t ∷ []) high → S → Good S t.span 1 low high (t ∷ [])
alone S low t high l s = record { is = s; place = wider low t.span t.span.end high l.0 (line_up t.span.end [] high l.2); few = omega arith }

mutual
  pub place_in : (low : ℕ) {ts : List Token} {p : Place} (high : ℕ) → IsPlace ts p → InLine low ts high → Good (IsSoundPlace p) (span_of_place p) (nodes_of_place p) low high ts
  place_in low high (is_variable w) l = alone (IsName w) low (word w) high l (name_in low w [] high l)
  place_in low high (is_element w o c ts x i) l =
      let m = l.2.2 in
      let r = cut o.end ts (at mark.BracketClose c ∷ []) high m in
      let inside = expr_in o.end r.at i r.front in
      let last = r.back in
      let s = within_to low w.span w.span.end r.at c high l.0 (omega (arith, l.2.0.from, l.2.0.some, line_up o.end ts r.at r.front)) (wider r.at c c.end high last.0 (line_up c.end [] high last.2)) in
      record {
        is = (name_in low w (at mark.BracketOpen o ∷ (ts ++ at mark.BracketClose c ∷ [])) high l, inside.is, in_text low (span_to w.span c) high s (line_end c.end [] high last.2));
        place = s;
        few = omega (arith, inside.few, length-append ts (at mark.BracketClose c ∷ []));
      }

  pub expr_in : (low : ℕ) {k : ℕ} {ts : List Token} {x : Expr} (high : ℕ) → IsExpr k ts x → InLine low ts high → Good (IsSoundExpr x) (span_of x) (nodes x) low high ts
  expr_in low high (is_number v s) l = alone (Fits v × InText s) low (numeral v s) high l (l.1, token_in low (numeral v s) [] high l)
  expr_in low high (is_truth b s) l = alone (InText s) low (at (truth_mark b) s) high l (token_in low (at (truth_mark b) s) [] high l)
  expr_in low high (is_program_index s) l = alone (InText s) low (at mark.ProgramIndex s) high l (token_in low (at mark.ProgramIndex s) [] high l)
  expr_in low high (is_program_count s) l = alone (InText s) low (at mark.ProgramCount s) high l (token_in low (at mark.ProgramCount s) [] high l)
  expr_in low high (is_place ts p i) l = let g = place_in low high i l in record { is = g.is; place = g.place; few = g.few }
  expr_in low high (is_call w o c ts xs i) l =
      let m = l.2.2 in
      let r = cut o.end ts (at mark.ParenClose c ∷ []) high m in
      let inside = arguments_in o.end r.at i r.front in
      let last = r.back in
      let s = within_to low w.span w.span.end r.at c high l.0 (omega (arith, l.2.0.from, l.2.0.some, line_up o.end ts r.at r.front)) (wider r.at c c.end high last.0 (line_up c.end [] high last.2)) in
      record {
        is = (name_in low w (at mark.ParenOpen o ∷ (ts ++ at mark.ParenClose c ∷ [])) high l, inside.0, in_text low (span_to w.span c) high s (line_end c.end [] high last.2));
        place = s;
        few = omega (arith, inside.1, length-append ts (at mark.ParenClose c ∷ []));
      }
  expr_in low high (is_brackets o c ts x i) l =
      let r = cut o.end ts (at mark.ParenClose c ∷ []) high l.2 in
      let inside = expr_in o.end r.at i r.front in
      let last = r.back in
      let s = within_to low o o.end r.at c high l.0 (line_up o.end ts r.at r.front) (wider r.at c c.end high last.0 (line_up c.end [] high last.2)) in
      record {
        is = (inside.is, in_text low (span_to o c) high s (line_end c.end [] high last.2));
        place = s;
        few = omega (arith, inside.few, length-append ts (at mark.ParenClose c ∷ []));
      }
  expr_in low high (is_cast o c ts us t x i j) l =
      let r = cut o.end ts (at mark.ParenClose c ∷ us) high l.2 in
      let ty = type_in o.end r.at i r.front in
      let back = r.back in
      let inside = expr_in c.end high j back.2 in
      let s = within_to low o o.end c.end (span_of x) high l.0 (omega (arith, line_up o.end ts r.at r.front, back.0.from, back.0.some)) inside.place in
      record {
        is = (ty.0, inside.is, in_text low (span_to o (span_of x)) high s (line_end c.end us high back.2));
        place = s;
        few = omega (arith, inside.few, length-append ts (at mark.ParenClose c ∷ us));
      }
  expr_in low high (is_prefix p o ts x i) l =
      let inside = expr_in o.end high i l.2 in
      let s = within_to low o o.end o.end (span_of x) high l.0 (omega arith) inside.place in
      record { is = (inside.is, in_text low (span_to o (span_of x)) high s (line_end o.end ts high l.2)); place = s; few = omega (arith, inside.few) }
  expr_in low high (is_tighter k ts x i) l = expr_in low high i l
  expr_in low high (is_binary k a b x op o y e i j) l =
      let r = cut low a (at (sign op) o ∷ b) high l in
      let left = expr_in low r.at i r.front in
      let back = r.back in
      let right = expr_in o.end high j back.2 in
      let s = within_to low (span_of x) r.at o.end (span_of y) high left.place (omega (arith, back.0.from, back.0.some)) right.place in
      record {
        is = (left.is, right.is, in_text low (span_to (span_of x) (span_of y)) high s (line_end o.end b high back.2));
        place = s;
        few = omega (arith, left.few, right.few, length-append a (at (sign op) o ∷ b));
      }
  expr_in low high (is_choose q d a b c x y z i j m) l =
      let r = cut low a (at mark.Question q ∷ (b ++ at mark.Colon d ∷ c)) high l in
      let test = expr_in low r.at i r.front in
      let back = r.back in
      let u = cut q.end b (at mark.Colon d ∷ c) high back.2 in
      let first = expr_in q.end u.at j u.front in
      let behind = u.back in
      let second = expr_in d.end high m behind.2 in
      let s = within_to low (span_of x) r.at d.end (span_of z) high test.place (omega (arith, back.0.from, back.0.some, line_up q.end b u.at u.front, behind.0.from, behind.0.some)) second.place in
      record {
        is = (test.is, first.is, second.is, in_text low (span_to (span_of x) (span_of z)) high s (line_end d.end c high behind.2));
        place = s;
        few = omega (arith, test.few, first.few, second.few, length-append a (at mark.Question q ∷ (b ++ at mark.Colon d ∷ c)), length-append b (at mark.Colon d ∷ c));
      }

  pub argument_in : (low : ℕ) {ts : List Token} {x : Argument} (high : ℕ) → IsArgument ts x → InLine low ts high → Good (IsSoundArgument x) (span_of_argument x) (nodes_of_argument x) low high ts
  argument_in low high (is_value_argument ts x i) l = let g = expr_in low high i l in record { is = g.is; place = g.place; few = g.few }
  argument_in low high (is_reference o ts p i) l =
      let inside = place_in o.end high i l.2 in
      let s = within_to low o o.end o.end (span_of_place p) high l.0 (omega arith) inside.place in
      record { is = (inside.is, in_text low (span_to o (span_of_place p)) high s (line_end o.end ts high l.2)); place = s; few = omega (arith, inside.few) }

  arguments_in : (low : ℕ) {ts : List Token} {xs : List Argument} (high : ℕ) → IsArguments ts xs → InLine low ts high → AreSoundArguments (listed xs) × (nodes_of_row (listed xs) ≤ length ts)
  arguments_in low high is_no_argument l = (tt, omega arith)
  arguments_in low high (is_some_arguments ts xs i) l = row_in low high i l

  row_in : (low : ℕ) {ts : List Token} {xs : List Argument} (high : ℕ) → IsArgumentList ts xs → InLine low ts high → AreSoundArguments (listed xs) × (nodes_of_row (listed xs) ≤ length ts)
  row_in low high (is_last_argument ts x i) l = let g = argument_in low high i l in ((g.is, tt), omega (arith, g.few))
  row_in low high (is_more_arguments a b s x xs i j) l =
      let r = cut low a (at mark.Comma s ∷ b) high l in
      let g = argument_in low r.at i r.front in
      let back = r.back in
      let more = row_in s.end high j back.2 in
      ((g.is, more.0), omega (arith, g.few, more.1, length-append a (at mark.Comma s ∷ b)))
