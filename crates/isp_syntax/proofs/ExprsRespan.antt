-- Where the tokens of a type or an expression stand has no bearing on whether they are one, nor on how deep it is.
use Rattle.std.proofs.Common.{◌≡◌, ℕ, zero, suc, List, [], ◌∷◌, ◌++◌, refl, sym, ap, subst, ◌∙◌}
use Rattle.isp_base.specs.Types.{span_to}
use Rattle.isp_lex.specs.Tokens.{at}
use Rattle.isp_lex.specs.declared.token.Mark.TheVariants as mark
use Rattle.isp_lex.specs.declared.token.Token.{Token}
use Rattle.isp_syntax.proofs.SameKinds.{Same, same_none, same_first, same_one, same_split, same_before, same_around, moved, Respans}
use Rattle.isp_tree.specs.Depth.{depth, depth_of_place, depth_of_argument, depth_of_row}
use Rattle.isp_grammar.specs.Grammar.{AreAll, IsQualifier, is_qualifier, IsType, is_based, is_signed, IsPlace, is_variable, is_element, IsExpr, is_number, is_truth, is_program_index}
use Rattle.isp_grammar.specs.Grammar.{is_program_count, is_place, is_call, is_brackets, is_cast, is_prefix, is_tighter, is_binary, is_choose, IsArgument, is_value_argument, is_reference}
use Rattle.isp_grammar.specs.Grammar.{IsArguments, is_no_argument, is_some_arguments, IsArgumentList, is_last_argument, is_more_arguments}
use Rattle.isp_syntax.specs.Promise.{kinds}
use Rattle.isp_grammar.specs.Signs.{word, numeral, qualifier_mark, base_mark, truth_mark, prefix_mark, sign, loosest}
use Rattle.isp_tree.specs.Tree.{TypeTree, Expr, number, truth, program_index, program_count, place, call, brackets, cast, prefix, binary, choose, listed, span_of, Place, variable, element, span_of_place, Argument, by_value, by_reference}
use Rattle.isp_tree.specs.declared.types.Qualifier.{Qualifier}

-- ---- types

qualifier_respan : {ts : List Token} {q : Qualifier} → IsQualifier ts q → (us : List Token) → Same us ts → IsQualifier us q
qualifier_respan (is_qualifier q s) us e =
    let p = same_one (at (qualifier_mark q) s) us e in
    subst (λ (l : List Token). IsQualifier l q) (sym p.1) (is_qualifier q p.0)

qualifiers_respan : (qs : List Qualifier) (ts : List Token) → AreAll IsQualifier ts qs → (us : List Token) → Same us ts → AreAll IsQualifier us qs
qualifiers_respan [] ts i us e = same_none us (e ∙ ap kinds i)
qualifiers_respan (q ∷ qs) ts i us e =
    let p = same_split i.0 i.1 us (e ∙ ap kinds i.2) in
    (p.0, p.1, p.2, qualifier_respan i.3 p.0 p.3, qualifiers_respan qs i.1 i.4 p.1 p.4)

-- the span alone may be another
pub type_respan : {ts : List Token} {t : TypeTree} → IsType ts t → (us : List Token) → Same us ts → (u : TypeTree) × IsType us u
type_respan (is_based b s ts qs i) us e =
    let p = same_before ts (at (base_mark b) s) us e in
    let j = is_based b p.1 p.0 qs (qualifiers_respan qs ts i p.0 p.3) in
    subst (λ (l : List Token). (u : TypeTree) × IsType l u) (sym p.2) (_, j)
type_respan (is_signed ts qs i h) us e = (_, is_signed us qs (qualifiers_respan qs ts i us e) h)

-- ---- expressions

mutual
  pub place_respan : {ts : List Token} {x : Place} → IsPlace ts x → (us : List Token) → Same us ts → (y : Place) × IsPlace us y × (depth_of_place y ≡ depth_of_place x)
  place_respan (is_variable w) us e =
      let p = same_one (word w) us e in
      (variable (moved w p.0), subst (λ (l : List Token). IsPlace l (variable (moved w p.0))) (sym p.1) (is_variable (moved w p.0)), refl)
  place_respan (is_element w o c ts x i) us e =
      let p = same_first (word w) (at mark.BracketOpen o ∷ (ts ++ at mark.BracketClose c ∷ [])) us e in
      let q = same_first (at mark.BracketOpen o) (ts ++ at mark.BracketClose c ∷ []) p.1 p.3 in
      let r = same_before ts (at mark.BracketClose c) q.1 q.3 in
      let y = expr_respan i r.0 r.3 in
      let v = moved w p.0 in
      let s = p.2 ∙ ap (λ (l : List Token). word v ∷ l) (q.2 ∙ ap (λ (l : List Token). at mark.BracketOpen q.0 ∷ l) r.2) in
      (element v y.0 (span_to p.0 r.1), subst (λ (l : List Token). IsPlace l (element v y.0 (span_to p.0 r.1))) (sym s) (is_element v q.0 r.1 r.0 y.0 y.1), ap suc y.2)

  pub expr_respan : {k : ℕ} {ts : List Token} {x : Expr} → IsExpr k ts x → (us : List Token) → Same us ts → (y : Expr) × IsExpr k us y × (depth y ≡ depth x)
  expr_respan (is_number v s) us e =
      let p = same_one (numeral v s) us e in
      (number v p.0, subst (λ (l : List Token). IsExpr zero l (number v p.0)) (sym p.1) (is_number v p.0), refl)
  expr_respan (is_truth b s) us e =
      let p = same_one (at (truth_mark b) s) us e in
      (truth b p.0, subst (λ (l : List Token). IsExpr zero l (truth b p.0)) (sym p.1) (is_truth b p.0), refl)
  expr_respan (is_program_index s) us e =
      let p = same_one (at mark.ProgramIndex s) us e in
      (program_index p.0, subst (λ (l : List Token). IsExpr zero l (program_index p.0)) (sym p.1) (is_program_index p.0), refl)
  expr_respan (is_program_count s) us e =
      let p = same_one (at mark.ProgramCount s) us e in
      (program_count p.0, subst (λ (l : List Token). IsExpr zero l (program_count p.0)) (sym p.1) (is_program_count p.0), refl)
  expr_respan (is_place ts x i) us e = let y = place_respan i us e in (place y.0, is_place us y.0 y.1, y.2)
  expr_respan (is_call w o c ts xs i) us e =
      let p = same_first (word w) (at mark.ParenOpen o ∷ (ts ++ at mark.ParenClose c ∷ [])) us e in
      let q = same_first (at mark.ParenOpen o) (ts ++ at mark.ParenClose c ∷ []) p.1 p.3 in
      let r = same_before ts (at mark.ParenClose c) q.1 q.3 in
      let ys = arguments_respan i r.0 r.3 in
      let v = moved w p.0 in
      let s = p.2 ∙ ap (λ (l : List Token). word v ∷ l) (q.2 ∙ ap (λ (l : List Token). at mark.ParenOpen q.0 ∷ l) r.2) in
      (call v (listed ys.0) (span_to p.0 r.1), subst (λ (l : List Token). IsExpr zero l (call v (listed ys.0) (span_to p.0 r.1))) (sym s) (is_call v q.0 r.1 r.0 ys.0 ys.1), ap suc ys.2)
  expr_respan (is_brackets o c ts x i) us e =
      let q = same_first (at mark.ParenOpen o) (ts ++ at mark.ParenClose c ∷ []) us e in
      let r = same_before ts (at mark.ParenClose c) q.1 q.3 in
      let y = expr_respan i r.0 r.3 in
      let s = q.2 ∙ ap (λ (l : List Token). at mark.ParenOpen q.0 ∷ l) r.2 in
      (brackets y.0 (span_to q.0 r.1), subst (λ (l : List Token). IsExpr zero l (brackets y.0 (span_to q.0 r.1))) (sym s) (is_brackets q.0 r.1 r.0 y.0 y.1), ap suc y.2)
  expr_respan (is_cast o c ts bs t x i j) us e =
      let q = same_first (at mark.ParenOpen o) (ts ++ at mark.ParenClose c ∷ bs) us e in
      let r = same_around ts (at mark.ParenClose c) bs q.1 q.3 in
      let u = type_respan i r.0 r.4 in
      let y = expr_respan j r.2 r.5 in
      let s = q.2 ∙ ap (λ (l : List Token). at mark.ParenOpen q.0 ∷ l) r.3 in
      let z = cast u.0 y.0 (span_to q.0 (span_of y.0)) in
      (z, subst (λ (l : List Token). IsExpr zero l z) (sym s) (is_cast q.0 r.1 r.0 r.2 u.0 y.0 u.1 y.1), ap suc y.2)
  expr_respan (is_prefix p s ts x i) us e =
      let q = same_first (at (prefix_mark p) s) ts us e in
      let y = expr_respan i q.1 q.3 in
      let z = prefix p y.0 (span_to q.0 (span_of y.0)) in
      (z, subst (λ (l : List Token). IsExpr zero l z) (sym q.2) (is_prefix p q.0 q.1 y.0 y.1), ap suc y.2)
  expr_respan (is_tighter k ts x i) us e = let y = expr_respan i us e in (y.0, is_tighter k us y.0 y.1, y.2)
  expr_respan (is_binary k a b x op s y l i j) us e =
      let p = same_around a (at (sign op) s) b us e in
      let v = expr_respan i p.0 p.4 in
      let w = expr_respan j p.2 p.5 in
      let z = binary op v.0 w.0 (span_to (span_of v.0) (span_of w.0)) in
      (z, subst (λ (m : List Token). IsExpr (suc k) m z) (sym p.3) (is_binary k p.0 p.2 v.0 op p.1 w.0 l v.1 w.1), rw (v.2, w.2) refl)
  expr_respan (is_choose q d a b c x y z i j l) us e =
      let p = same_around a (at mark.Question q) (b ++ at mark.Colon d ∷ c) us e in
      let r = same_around b (at mark.Colon d) c p.2 p.5 in
      let f = expr_respan i p.0 p.4 in
      let g = expr_respan j r.0 r.4 in
      let h = expr_respan l r.2 r.5 in
      let s = p.3 ∙ ap (λ (m : List Token). p.0 ++ at mark.Question p.1 ∷ m) r.3 in
      let o = choose f.0 g.0 h.0 (span_to (span_of f.0) (span_of h.0)) in
      (o, subst (λ (m : List Token). IsExpr loosest m o) (sym s) (is_choose p.1 r.1 p.0 r.0 r.2 f.0 g.0 h.0 f.1 g.1 h.1), rw (f.2, g.2, h.2) refl)

  argument_respan : {ts : List Token} {x : Argument} → IsArgument ts x → (us : List Token) → Same us ts → (y : Argument) × IsArgument us y × (depth_of_argument y ≡ depth_of_argument x)
  argument_respan (is_value_argument ts x i) us e = let y = expr_respan i us e in (by_value y.0, is_value_argument us y.0 y.1, y.2)
  argument_respan (is_reference s ts x i) us e =
      let q = same_first (at mark.And s) ts us e in
      let y = place_respan i q.1 q.3 in
      let z = by_reference y.0 (span_to q.0 (span_of_place y.0)) in
      (z, subst (λ (l : List Token). IsArgument l z) (sym q.2) (is_reference q.0 q.1 y.0 y.1), y.2)

  arguments_respan : {ts : List Token} {xs : List Argument} → IsArguments ts xs → (us : List Token) → Same us ts → (ys : List Argument) × IsArguments us ys × (depth_of_row (listed ys) ≡ depth_of_row (listed xs))
  arguments_respan is_no_argument us e = ([], subst (λ (l : List Token). IsArguments l []) (sym (same_none us e)) is_no_argument, refl)
  arguments_respan (is_some_arguments ts xs i) us e = let y = row_respan i us e in (y.0, is_some_arguments us y.0 y.1, y.2)

  row_respan : {ts : List Token} {xs : List Argument} → IsArgumentList ts xs → (us : List Token) → Same us ts → (ys : List Argument) × IsArgumentList us ys × (depth_of_row (listed ys) ≡ depth_of_row (listed xs))
  row_respan (is_last_argument ts x i) us e = let y = argument_respan i us e in (y.0 ∷ [], is_last_argument us y.0 y.1, rw y.2 refl)
  row_respan (is_more_arguments a b s x xs i j) us e =
      let q = same_around a (at mark.Comma s) b us e in
      let v = argument_respan i q.0 q.4 in
      let w = row_respan j q.2 q.5 in
      (v.0 ∷ w.0, subst (λ (l : List Token). IsArgumentList l (v.0 ∷ w.0)) (sym q.3) (is_more_arguments q.0 q.2 q.1 v.0 w.0 v.1 w.1), rw (v.2, w.2) refl)

-- Tokens of the same kinds as an expression's are an expression of the same depth.
pub exprs_respan : (k : ℕ) → Respans (IsExpr k) depth
exprs_respan k ts x i us e = expr_respan i us e
