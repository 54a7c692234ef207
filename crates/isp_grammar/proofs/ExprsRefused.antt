-- What a refusal of an expression means.
use Rattle.std.proofs.Common.{◌≡◌, ℕ, zero, suc, ◌+◌, ◌≤◌, ◌<◌, Bool, true, false, List, [], ◌∷◌, ◌++◌, drop, Option, Some, None, Ok, Err, refl, sym, ap, subst, ◌∙◌, append_assoc, arith, inl, inr, ◌⊎◌}
use Rattle.std.specs.Prelude.{nat_lt}
use Rattle.std.proofs.lemmas.Bool.{cases_lt, ltb-false, ltb-true}
use Rattle.std.proofs.lemmas.List.{append-nil}
use Rattle.isp_base.specs.declared.types.Span.{Span}
use Rattle.isp_lex.specs.Tokens.{is_mark, at, starts_with}
use Rattle.isp_lex.specs.declared.token.Mark.TheVariants as mark
use Rattle.isp_lex.specs.declared.token.TokenKind.{TokenKind}
use Rattle.isp_lex.specs.declared.token.TokenKind.TheVariants as kind
use Rattle.isp_lex.specs.declared.token.Token.{Token}
use Rattle.std.proofs.lemmas.Bool.{false≢true}
use Rattle.isp_grammar.proofs.Basics.{token, err_is, ok_err, bind_err, chosen, starts_same, starts_cons, word_off}
use Rattle.isp_grammar.proofs.Choices.{nowhere, nameless, begins_same, either_refused, Limits, limit_refused}
use Rattle.isp_grammar.proofs.Forms.{IsSound, IsComplete, Can, One, one_sound, one_complete, Named, named_sound, named_complete, Free, Behind, is_behind, series_sound}
use Rattle.isp_grammar.proofs.FormsComplete.{EndsByHead, one_by_head, named_by_head, read_again, series_complete}
use Rattle.isp_grammar.proofs.Refused.{Completes, Refused, lift, refused_here, raise, FailsForm, IsRefused, one_refused, named_refused, both_refused, made_err, made_fails, made_refused, optional_refused, series_refused}
use Rattle.isp_grammar.proofs.Exprs.{Exprs, started, with_kind, operator_is, Bracketed, Index, Placed, Target, placed_makes, place_reads, place_then, bracket_then, ArgumentForm, Referring, Passed, ArgumentForms, Called}
use Rattle.isp_grammar.proofs.Exprs.{argument_reads, passed_makes, referring_then, called_then, Suffixes, NamedForm, name_then, named_reads, named_makes, Closed, Typed, Bracket, bracket_reads, bracket_makes, closed_then}
use Rattle.isp_grammar.proofs.Exprs.{cast_then, typed_then, zero_value, zero_tokens, number_at_level, zero_at, Parts, colon_then, parts_then, parts_read, choice_makes}
use Rattle.isp_grammar.proofs.ExprsSound.{argument_sound, expr_sound, target_sound, wider}
use Rattle.isp_grammar.proofs.ExprsComplete.{operator_same, ends_same, argument_same, sign_at, argument_comma, argument_off, argument_complete, expr_complete, target_complete}
use Rattle.isp_grammar.proofs.ExprSteps.{depth_pos, at_level, at_choice, more_deep, more_step, more_fails, choice_deep, choice_fails_later, target_none, binary_off, expr_off}
use Rattle.isp_grammar.proofs.TypesRead.{Types, types_by_head, types_sound, types_complete, types_refused}
use Rattle.isp_tree.specs.Depth.{depth}
use Rattle.isp_grammar.specs.Grammar.{is_variable, IsExpr, is_number, is_truth, is_program_index, is_program_count, is_place, is_brackets, is_prefix, is_tighter, is_binary}
use Rattle.isp_grammar.specs.reader.Readers.{Reader, ◌>>=◌, refusal, refuse, head, on_head, is_word}
use Rattle.isp_grammar.specs.reader.Choices.{begins_with}
use Rattle.isp_grammar.specs.reader.Types.{begins_type}
use Rattle.isp_grammar.specs.reader.Exprs.{start_of, is_start, begins_expr, operator_at, place_by, argument_by, by_index, by_arguments, suffix_from, suffix_at, named, named_at, bracket_of, bracket_at, prefix_of}
use Rattle.isp_grammar.specs.reader.Exprs.{operand_from, operand_at, joined, step_at, more_at, binary_at, choice_of, parts_at, choice_from, choice_at, expr_at, target_at}
use Rattle.isp_grammar.specs.Signs.{word, prefix_mark, sign, joined_level, loosest}
use Rattle.isp_tree.specs.Tree.{Expr, number, variable}
use Rattle.isp_grammar.specs.declared.expr.Start.{Start}
use Rattle.isp_grammar.specs.declared.expr.Start.TheVariants as by
use Rattle.isp_grammar.specs.declared.stop.Why.TheVariants.{Unexpected, TooDeep}
use Rattle.isp_grammar.specs.declared.stop.Refusal.{Refusal}
use Rattle.isp_tree.specs.declared.expr.Operator.{Operator}
use Rattle.isp_tree.specs.declared.expr.Prefix.{Prefix}
use Rattle.isp_tree.specs.declared.expr.Prefix.TheVariants.{Negative, Inverse, Not}

-- an operand, and a level of operators, with one more level of depth left
abbrev FailsBinary : ℕ → ℕ → List Token → Refusal → Type 0
FailsBinary k m u d = binary_at (expr_at m) (target_at m) m k u ≡ Err d

abbrev FailsOperand : ℕ → List Token → Refusal → Type 0
FailsOperand m u d = operand_at (expr_at m) (target_at m) u ≡ Err d

operand_word : (m : ℕ) (u : List Token) → on_head by.Nothing start_of (head u) ≡ by.Word → operand_at (expr_at m) (target_at m) u ≡ named_at (expr_at m loosest) (target_at m) u
unfolding operand_at
operand_word m [] e = absurd cc
operand_word m (t ∷ u) e = ap (λ (c : Start). operand_from (expr_at m) (target_at m) c t u) e

operand_prefix : (m : ℕ) (p : Prefix) (s : Span) (u : List Token) → operand_at (expr_at m) (target_at m) (at (prefix_mark p) s ∷ u) ≡ (expr_at m zero u >>= λ x. Ok (prefix_of p s x.0, x.1))
unfolding operand_at
operand_prefix m Negative s u = refl
operand_prefix m Inverse s u = refl
operand_prefix m Not s u = refl

operand_bracket : (m : ℕ) (s : Span) (u : List Token) → operand_at (expr_at m) (target_at m) (at mark.ParenOpen s ∷ u) ≡ (Bracket.read m u >>= λ p. Ok (bracket_of s p.0, p.1))
unfolding operand_at
operand_bracket m s u = bracket_reads m s u

operand_off : (m : ℕ) (u : List Token) → begins_with begins_expr u ≡ false → operand_at (expr_at m) (target_at m) u ≡ refuse Unexpected u
unfolding binary_at
operand_off m u e = binary_off (expr_at m) (target_at m) m zero u e

-- the same for what follows, where a whole level fails
level_fails : (k m : ℕ) (a : List Token) (x : Expr) (u : List Token) (d : Refusal) → binary_at (expr_at m) (target_at m) m k (a ++ u) ≡ Ok (x, u)
    → ((f : ℕ) → m < f + depth x → more_at (expr_at m k) m k f x u ≡ Err d) → FailsBinary (suc k) m (a ++ u) d
unfolding binary_at
level_fails k m a x u d e f = rw e (f m (omega (arith, depth_pos x)))

rest_regroup : (a b l : List Token) → (a ++ b) ++ l ≡ a ++ (b ++ (l ++ []))
rest_regroup a b l = append_assoc a b l ∙ ap (λ (c : List Token). a ++ (b ++ c)) (sym (append-nil l))

arguments_same : EndsByHead ArgumentForms
arguments_same [] a b e h = sym (starts_same mark.ParenClose a b e) ∙ h
arguments_same (x ∷ []) a b e h = (argument_same x a b e h.0, sym (starts_same mark.Comma a b e) ∙ h.1)
arguments_same (x ∷ y ∷ ys) a b e h = arguments_same (y ∷ ys) a b e h

each_argument_complete : (m : ℕ) → IsComplete ArgumentForm m
each_argument_complete m = argument_complete m (λ k. expr_complete m k) (target_complete m)

each_argument_sound : (m : ℕ) → IsSound ArgumentForm m
each_argument_sound m = argument_sound m (λ k. expr_sound m k) (target_sound m)

module _ (n : ℕ) (ih : (k : ℕ) → IsRefused (Exprs k) n) (target : IsRefused Target n) where
  bracketed_refused : IsRefused Bracketed n
  bracketed_refused = both_refused (Exprs loosest) (One mark.BracketClose) Free bracket_then n (ends_same loosest) (λ m. expr_complete m loosest) (expr_sound n loosest) (ih loosest) (one_refused mark.BracketClose n)

  placed_refused : IsRefused Placed n
  placed_refused = both_refused Named Index Free place_then n named_by_head named_complete (named_sound n) (named_refused n) (optional_refused mark.BracketOpen Bracketed n bracketed_refused)

  place_refused : (ts : List Token) (r : Refusal) → target_at (suc n) ts ≡ Err r → Refused (Can Target) (λ m u d. target_at (suc m) u ≡ Err d) n ts r
  place_refused ts r e =
      made_refused Placed Target (λ p. place_by p.0 p.1) [] (λ m u d. target_at (suc m) u ≡ Err d) n ts r placed_refused (made_err (λ p. place_by p.0 p.1) (Placed.read n ts) r (sym (place_reads n ts) ∙ e))
      (λ a p i. placed_makes a p i) (λ m u d le h w. made_fails (λ p. place_by p.0 p.1) (Placed.read m u) (target_at (suc m) u) d (place_reads m u) w)

  passed_refused : IsRefused Passed n
  passed_refused =
      either_refused (is_mark mark.And) Referring (Exprs loosest) n
      (both_refused (One mark.And) Target Free referring_then n (one_by_head mark.And) (λ m. one_complete mark.And m) (one_sound mark.And n) (one_refused mark.And n) target) (ih loosest)

  argument_refused : IsRefused ArgumentForm n
  argument_refused ts r e =
      made_refused Passed ArgumentForm argument_by [] (FailsForm ArgumentForm) n ts r passed_refused (made_err argument_by (Passed.read n ts) r (sym (argument_reads n ts) ∙ e))
      (λ a p i. passed_makes a p i) (λ m u d le h w. made_fails argument_by (Passed.read m u) (ArgumentForm.read m u) d (argument_reads m u) w)

  called_refused : IsRefused Called n
  called_refused =
      both_refused ArgumentForms (One mark.ParenClose) Free called_then n arguments_same (λ m. series_complete ArgumentForm mark.ParenClose argument_comma argument_off m (each_argument_complete m))
      (series_sound ArgumentForm mark.ParenClose n (each_argument_sound n)) (series_refused ArgumentForm n argument_same argument_comma each_argument_complete (each_argument_sound n) argument_refused mark.ParenClose) (one_refused mark.ParenClose n)

  suffix_from_refused : (ts : List Token) (b c : Bool) (r : Refusal) → starts_with mark.BracketOpen ts ≡ b → starts_with mark.ParenOpen ts ≡ c
      → suffix_from (Bracketed.read n) (Called.read n) ts b c ≡ Err r → Refused (Can Suffixes) (FailsForm Suffixes) n ts r
  unfolding suffix_at
  suffix_from_refused ts true c r s t e =
      let o = starts_cons mark.BracketOpen ts s in
      elim (bind_err (Bracketed.read n (drop 1 ts)) (λ x. Ok (by_index x.0, x.1)) r e) [
        | inl p ↦
            subst (λ (l : List Token). Refused (Can Suffixes) (FailsForm Suffixes) n l r) (sym o.1)
            (lift (Can Bracketed) (Can Suffixes) (FailsForm Bracketed) (FailsForm Suffixes) n (at mark.BracketOpen o.0 ∷ []) [] (drop 1 ts) r (bracketed_refused (drop 1 ts) r p)
            (λ l i. (by_index i.0, (o.0, l, ap (λ (a : List Token). at mark.BracketOpen o.0 ∷ a) (append-nil l), i.1)))
            (λ k u d le h w. rw w refl))
        | inr p ↦ absurd (ok_err p.2)
      ]
  suffix_from_refused ts false true r s t e =
      let o = starts_cons mark.ParenOpen ts t in
      elim (bind_err (Called.read n (drop 1 ts)) (λ x. Ok (by_arguments x.0, x.1)) r e) [
        | inl p ↦
            subst (λ (l : List Token). Refused (Can Suffixes) (FailsForm Suffixes) n l r) (sym o.1)
            (lift (Can Called) (Can Suffixes) (FailsForm Called) (FailsForm Suffixes) n (at mark.ParenOpen o.0 ∷ []) [] (drop 1 ts) r (called_refused (drop 1 ts) r p)
            (λ l i. (by_arguments i.0, (o.0, l, ap (λ (a : List Token). at mark.ParenOpen o.0 ∷ a) (append-nil l), i.1)))
            (λ k u d le h w. rw w refl))
        | inr p ↦ absurd (ok_err p.2)
      ]
  suffix_from_refused ts false false r s t e = absurd (ok_err e)

  suffix_refused : IsRefused Suffixes n
  unfolding suffix_at
  suffix_refused ts r e = suffix_from_refused ts (starts_with mark.BracketOpen ts) (starts_with mark.ParenOpen ts) r refl refl e

  names_refused : IsRefused NamedForm n
  names_refused = both_refused Named Suffixes Free name_then n named_by_head named_complete (named_sound n) (named_refused n) suffix_refused

  typed_refused : IsRefused Typed n
  typed_refused =
      both_refused Types (Behind mark.ParenClose (Exprs zero)) Free typed_then n types_by_head types_complete (types_sound n) (types_refused n)
      (both_refused (One mark.ParenClose) (Exprs zero) Free cast_then n (one_by_head mark.ParenClose) (λ m. one_complete mark.ParenClose m) (one_sound mark.ParenClose n) (one_refused mark.ParenClose n) (ih zero))

  closed_refused : IsRefused Closed n
  closed_refused = both_refused (Exprs loosest) (One mark.ParenClose) Free closed_then n (ends_same loosest) (λ m. expr_complete m loosest) (expr_sound n loosest) (ih loosest) (one_refused mark.ParenClose n)

  -- ---- operands

  bracket_refused : (s : Span) (ts : List Token) (r : Refusal) → bracket_at (expr_at n) s ts ≡ Err r → Refused (Can (Exprs zero)) FailsOperand n (at mark.ParenOpen s ∷ ts) r
  bracket_refused s ts r e =
      made_refused Bracket (Exprs zero) (bracket_of s) (at mark.ParenOpen s ∷ []) FailsOperand n ts r
      (either_refused begins_type Typed Closed n typed_refused closed_refused)
      (made_err (bracket_of s) (Bracket.read n ts) r (sym (bracket_reads n s ts) ∙ e))
      (λ a p i. bracket_makes s a p i) (λ m u d le h w. made_fails (bracket_of s) (Bracket.read m u) (operand_at (expr_at m) (target_at m) (at mark.ParenOpen s ∷ u)) d (operand_bracket m s u) w)

  prefix_refused : (p : Prefix) (s : Span) (ts : List Token) (r : Refusal) → operand_from (expr_at n) (target_at n) (by.Prefix p) (at (prefix_mark p) s) ts ≡ Err r → Refused (Can (Exprs zero)) FailsOperand n (at (prefix_mark p) s ∷ ts) r
  prefix_refused p s ts r e =
      made_refused (Exprs zero) (Exprs zero) (prefix_of p s) (at (prefix_mark p) s ∷ []) FailsOperand n ts r (ih zero) (made_err (prefix_of p s) (expr_at n zero ts) r e)
      (λ a x i. is_prefix p s a x i) (λ m u d le h w. made_fails (prefix_of p s) (expr_at m zero u) (operand_at (expr_at m) (target_at m) (at (prefix_mark p) s ∷ u)) d (operand_prefix m p s u) w)

  none_refused : (ts : List Token) (r : Refusal) → begins_with begins_expr ts ≡ false → operand_at (expr_at n) (target_at n) ts ≡ Err r → Refused (Can (Exprs zero)) FailsOperand n ts r
  none_refused ts r off e =
      subst (λ (d : Refusal). Refused (Can (Exprs zero)) FailsOperand n ts d) (err_is (sym (operand_off n ts off) ∙ e))
      (refused_here (Can (Exprs zero)) FailsOperand n ts zero_tokens (zero_at zero) (λ m more le h. operand_off m more (sym (begins_same begins_expr ts more h) ∙ off)))

  from_refused : (c : Start) (t : Token) (ts : List Token) (r : Refusal) → start_of t.kind ≡ c → operand_from (expr_at n) (target_at n) c t ts ≡ Err r
      → operand_at (expr_at n) (target_at n) (t ∷ ts) ≡ Err r → Refused (Can (Exprs zero)) FailsOperand n (t ∷ ts) r
  from_refused (by.Atom a) t ts r s e w = absurd (ok_err e)
  from_refused by.Word t ts r s e w =
      made_refused NamedForm (Exprs zero) (λ p. named p.0 p.1) [] FailsOperand n (t ∷ ts) r names_refused (made_err (λ p. named p.0 p.1) (NamedForm.read n (t ∷ ts)) r (sym (named_reads n (t ∷ ts)) ∙ e))
      (λ a p i. named_makes a p i)
      (λ m u d le h f. made_fails (λ p. named p.0 p.1) (NamedForm.read m u) (operand_at (expr_at m) (target_at m) u) d (operand_word m u (ap (λ (o : Option TokenKind). on_head by.Nothing start_of o) (sym h) ∙ s) ∙ named_reads m u) f)
  from_refused by.Bracket t ts r s e w =
      subst (λ (u : Token). Refused (Can (Exprs zero)) FailsOperand n (u ∷ ts) r) (sym (with_kind t (kind.Mark mark.ParenOpen) (started t by.Bracket s))) (bracket_refused t.span ts r e)
  from_refused (by.Prefix p) t ts r s e w =
      subst (λ (u : Token). Refused (Can (Exprs zero)) FailsOperand n (u ∷ ts) r) (sym (with_kind t (kind.Mark (prefix_mark p)) (started t (by.Prefix p) s))) (prefix_refused p t.span ts r e)
  from_refused by.Nothing t ts r s e w = none_refused (t ∷ ts) r (ap is_start s) w

  operand_refused : (ts : List Token) (r : Refusal) → operand_at (expr_at n) (target_at n) ts ≡ Err r → Refused (Can (Exprs zero)) FailsOperand n ts r
  unfolding operand_at
  operand_refused [] r e = none_refused [] r refl e
  operand_refused (t ∷ ts) r e = from_refused (start_of t.kind) t ts r refl e e

  -- ---- operators

  -- what goes on after a left operand
  abbrev IsRest : ℕ → List Token → List Token → Type 0
  IsRest k front ts = Can (Exprs (suc k)) (front ++ ts)

  abbrev FailsMore : ℕ → Expr → ℕ → List Token → Refusal → Type 0
  FailsMore k x m u d = (f : ℕ) → m < f + depth x → more_at (expr_at m k) m k f x u ≡ Err d

  -- the loop is refused: too deep at once, in the right side, or later
  step_err : (k : ℕ) (more : Expr → Reader Expr) (x : Expr) (ts : List Token) (o : Option Operator) (r : Refusal) → operator_at (suc k) ts ≡ o → step_at (expr_at n k) more n x ts o ≡ Err r
      → (op : Operator) × (operator_at (suc k) ts ≡ Some op)
      × (((n < depth x) × (refusal TooDeep ts ≡ r)) ⊎ ((depth x ≤ n)
      × ((expr_at n k (drop 1 ts) ≡ Err r) ⊎ ((z : Expr) × (after : List Token) × (expr_at n k (drop 1 ts) ≡ Ok (z, after))
      × (more (joined x op z) after ≡ Err r)))))
  step_err k more x ts None r s e = absurd (ok_err e)
  step_err k more x ts (Some op) r s e = (
    op,
    s,
    elim (chosen (nat_lt n (depth x)) (refuse TooDeep ts) (expr_at n k (drop 1 ts) >>= λ y. more (joined x op y.0) y.1) (Err r) e) [
      | inl p ↦ inl (ltb-true _ _ p.0, err_is p.1)
      | inr p ↦
          inr (
            ltb-false _ _ p.0,
            elim (bind_err (expr_at n k (drop 1 ts)) (λ y. more (joined x op y.0) y.1) r p.1) [
              | inl q ↦ inl q
              | inr q ↦ inr (q.0.0, q.0.1, q.1, q.2)
            ],
          )
    ],
  )

  deep_refused : (k : ℕ) (front mid : List Token) (x : Expr) (op : Operator) → IsExpr (suc k) front x → operator_at (suc k) mid ≡ Some op → n < depth x → Refused (IsRest k front) (FailsMore k x) n mid (refusal TooDeep mid)
  deep_refused k front mid x op i s lt =
      let o = operator_is (suc k) mid op s in
      record {
        used = [];
        after = mid;
        split = refl;
        place = refl;
        viable = subst (λ (l : List Token). Completes (IsRest k front) TooDeep [] l) (sym o.1.1)
            (zero_tokens, (joined x op (number zero_value nowhere), is_binary k front zero_tokens x op o.1.0 (number zero_value nowhere) o.0 i (number_at_level k)));
        stays = λ m more a h f lt2. let e : n ≡ m = a in more_deep (expr_at m k) m k f x more op (sym (operator_same (suc k) mid more h) ∙ s) (omega arith);
      }

  right_refused : (k : ℕ) (front mid : List Token) (x : Expr) (op : Operator) (r : Refusal) → IsExpr (suc k) front x
      → operator_at (suc k) mid ≡ Some op → depth x ≤ n → expr_at n k (drop 1 mid) ≡ Err r → Refused (IsRest k front) (FailsMore k x) n mid r
  right_refused k front mid x op r i s le e =
      let o = operator_is (suc k) mid op s in
      subst (λ (l : List Token). Refused (IsRest k front) (FailsMore k x) n l r) (sym o.1.1)
      (lift (Can (Exprs k)) (IsRest k front) (FailsForm (Exprs k)) (FailsMore k x) n (at (sign op) o.1.0 ∷ []) [] (drop 1 mid) r (ih k (drop 1 mid) r e)
      (λ l j. (joined x op j.0, is_binary k front (l ++ []) x op o.1.0 j.0 o.0 i (subst (λ (a : List Token). IsExpr k a j.0) (sym (append-nil l)) j.1)))
      (λ m u d le2 h w f lt. more_fails (expr_at m k) m k f x (at (sign op) o.1.0 ∷ u) op d lt (omega arith) (sign_at (suc k) op o.1.0 u o.0) w))

  more_refused : (k f : ℕ) (front mid : List Token) (x : Expr) (r : Refusal) → n < f + depth x → IsExpr (suc k) front x → more_at (expr_at n k) n k f x mid ≡ Err r → Refused (IsRest k front) (FailsMore k x) n mid r
  unfolding more_at
  more_refused k zero front mid x r lt i e =
      let p = step_err k (λ _ ts. refuse TooDeep ts) x mid (operator_at (suc k) mid) r refl e in
      elim p.2 [
        | inl q ↦ subst (λ (d : Refusal). Refused (IsRest k front) (FailsMore k x) n mid d) q.1 (deep_refused k front mid x p.0 i p.1 q.0)
        | inr q ↦ absurd (omega arith)
      ]
  more_refused k (suc f) front mid x r lt i e =
      let p = step_err k (more_at (expr_at n k) n k f) x mid (operator_at (suc k) mid) r refl e in
      elim p.2 [
        | inl q ↦ subst (λ (d : Refusal). Refused (IsRest k front) (FailsMore k x) n mid d) q.1 (deep_refused k front mid x p.0 i p.1 q.0)
        | inr q ↦
            elim q.1 [
              | inl w ↦ right_refused k front mid x p.0 r i p.1 q.0 w
              | inr w ↦
                  let z = expr_sound n k (drop 1 mid) w.0 w.1 w.2 in
                  let o = operator_is (suc k) mid p.0 p.1 in
                  let split : mid ≡ (at (sign p.0) o.1.0 ∷ z.used) ++ w.1 = o.1.1 ∙ ap (λ (l : List Token). at (sign p.0) o.1.0 ∷ l) z.split in
                  let longer = is_binary k front z.used x p.0 o.1.0 w.0 o.0 i z.is in
                  subst (λ (l : List Token). Refused (IsRest k front) (FailsMore k x) n l r) (sym split)
                  (lift (IsRest k (front ++ at (sign p.0) o.1.0 ∷ z.used)) (IsRest k front) (FailsMore k (joined x p.0 w.0)) (FailsMore k x) n (at (sign p.0) o.1.0 ∷ z.used) [] w.1 r
                  (more_refused k f (front ++ at (sign p.0) o.1.0 ∷ z.used) w.1 (joined x p.0 w.0) r (omega arith) longer w.3)
                  (λ l j. (j.0, subst (λ (a : List Token). IsExpr (suc k) a j.0) (rest_regroup front (at (sign p.0) o.1.0 ∷ z.used) l) j.1))
                  (λ m u d le2 h v g lt2.
                  let q = more_step (expr_at m k) m k g x (at (sign p.0) o.1.0 ∷ (z.used ++ u)) p.0 w.0 u lt2 (omega (arith, q.0)) (sign_at (suc k) p.0 o.1.0 (z.used ++ u) o.0)
                  (read_again (Exprs k) (ends_same k) (λ m. expr_complete m k) n (drop 1 mid) w.0 w.1 z m u le2 h) in
                  q.2 ∙ v q.0 q.1))
            ]
      ]

  -- a level that was read is read again before the same token
  binary_again : (k : ℕ) (ts : List Token) (x : Expr) (rest : List Token) → k ≤ joined_level → binary_at (expr_at n) (target_at n) n k ts ≡ Ok (x, rest)
      → (used : List Token) × (ts ≡ used ++ rest) × IsExpr k used x × ((m : ℕ) (u : List Token) → n ≤ m → head rest ≡ head u → binary_at (expr_at m) (target_at m) m k (used ++ u) ≡ Ok (x, u))
  binary_again k ts x rest lk e =
      let p = expr_sound (suc n) k ts x rest (at_level n k ts lk ∙ e) in
      (p.used, p.split, p.is, λ m u le h. sym (at_level m k (p.used ++ u) lk) ∙ read_again (Exprs k) (ends_same k) (λ m. expr_complete m k) (suc n) ts x rest p (suc m) u (omega arith) h)

  binary_refused : (k : ℕ) (ts : List Token) (r : Refusal) → k ≤ joined_level → binary_at (expr_at n) (target_at n) n k ts ≡ Err r → Refused (Can (Exprs k)) (FailsBinary k) n ts r
  unfolding binary_at
  binary_refused zero ts r lk e = operand_refused ts r e
  binary_refused (suc k) ts r lk e =
      elim (bind_err (binary_at (expr_at n) (target_at n) n k ts) (λ x. more_at (expr_at n k) n k n x.0 x.1) r e) [
        | inl p ↦
            lift (Can (Exprs k)) (Can (Exprs (suc k))) (FailsBinary k) (FailsBinary (suc k)) n [] [] ts r (binary_refused k ts r (omega arith) p)
            (λ l i. (i.0, is_tighter k (l ++ []) i.0 (subst (λ (a : List Token). IsExpr k a i.0) (sym (append-nil l)) i.1)))
            (λ m u d le h f. rw f refl)
        | inr p ↦
            let x = binary_again k ts p.0.0 p.0.1 (omega arith) p.1 in
            subst (λ (l : List Token). Refused (Can (Exprs (suc k))) (FailsBinary (suc k)) n l r) (sym x.1)
            (lift (IsRest k x.0) (Can (Exprs (suc k))) (FailsMore k p.0.0) (FailsBinary (suc k)) n x.0 [] p.0.1 r
            (more_refused k n x.0 p.0.1 p.0.0 r (omega (arith, depth_pos p.0.0)) (is_tighter k x.0 p.0.0 x.2) p.2)
            (λ l j. (j.0, subst (λ (a : List Token). IsExpr (suc k) (x.0 ++ a) j.0) (sym (append-nil l)) j.1))
            (λ m u d le h f. level_fails k m x.0 p.0.0 u d (x.3 m u le h) f))
      ]

  -- ---- a choice

  parts_refused : IsRefused Parts n
  parts_refused =
      both_refused (Exprs loosest) (Behind mark.Colon (Exprs loosest)) Free parts_then n (ends_same loosest) (λ m. expr_complete m loosest) (expr_sound n loosest) (ih loosest)
      (both_refused (One mark.Colon) (Exprs loosest) Free colon_then n (one_by_head mark.Colon) (λ m. one_complete mark.Colon m) (one_sound mark.Colon n) (one_refused mark.Colon n) (ih loosest))

  abbrev IsTail : List Token → List Token → Type 0
  IsTail front ts = Can (Exprs loosest) (front ++ ts)

  abbrev FailsChoice : Expr → ℕ → List Token → Refusal → Type 0
  FailsChoice x m u d = choice_at (expr_at m loosest) m x u ≡ Err d

  abbrev FailsTop : ℕ → List Token → Refusal → Type 0
  FailsTop m u d = (binary_at (expr_at m) (target_at m) m joined_level u >>= λ x. choice_at (expr_at m loosest) m x.0 x.1) ≡ Err d

  least_parts : Can Parts (zero_tokens ++ at mark.Colon nowhere ∷ zero_tokens)
  least_parts =
      let x = number zero_value nowhere in
      ((x, (nowhere, x)), (zero_tokens, at mark.Colon nowhere ∷ zero_tokens, refl, number_at_level loosest, is_behind mark.Colon (Exprs loosest) nowhere zero_tokens x (number_at_level loosest), tt))

  choice_refused : (front mid : List Token) (x : Expr) (r : Refusal) (b : Bool) → IsExpr joined_level front x → starts_with mark.Question mid ≡ b → choice_from (expr_at n loosest) n x mid b ≡ Err r → Refused (IsTail front) (FailsChoice x) n mid r
  choice_refused front mid x r false i s e = absurd (ok_err e)
  choice_refused front mid x r true i s e =
      let o = starts_cons mark.Question mid s in
      elim (chosen (nat_lt n (depth x)) (refuse TooDeep mid) (parts_at (expr_at n loosest) (drop 1 mid) >>= λ p. Ok (choice_of x p.0, p.1)) (Err r) e) [
        | inl p ↦
            let lt = ltb-true _ _ p.0 in
            subst (λ (d : Refusal). Refused (IsTail front) (FailsChoice x) n mid d) (err_is p.1) (record {
              used = [];
              after = mid;
              split = refl;
              place = refl;
              viable = subst (λ (l : List Token). Completes (IsTail front) TooDeep [] l) (sym o.1)
                  (zero_tokens ++ at mark.Colon nowhere ∷ zero_tokens, (choice_of x least_parts.0, choice_makes front o.0 (zero_tokens ++ at mark.Colon nowhere ∷ zero_tokens) x least_parts.0 i least_parts.1));
              stays = λ m more a h. let w : n ≡ m = a in choice_deep (expr_at m loosest) m x more (sym (starts_same mark.Question mid more h) ∙ s) (omega (arith, lt));
            })
        | inr p ↦
            let le = ltb-false _ _ p.0 in
            elim (bind_err (parts_at (expr_at n loosest) (drop 1 mid)) (λ p. Ok (choice_of x p.0, p.1)) r p.1) [
              | inl q ↦
                  subst (λ (l : List Token). Refused (IsTail front) (FailsChoice x) n l r) (sym o.1)
                  (lift (Can Parts) (IsTail front) (FailsForm Parts) (FailsChoice x) n (at mark.Question o.0 ∷ []) [] (drop 1 mid) r (parts_refused (drop 1 mid) r (sym (parts_read n (drop 1 mid)) ∙ q))
                  (λ l j. (choice_of x j.0, choice_makes front o.0 (l ++ []) x j.0 i (subst (λ (a : List Token). Parts.is a j.0) (sym (append-nil l)) j.1)))
                  (λ m u d le2 h w. choice_fails_later (expr_at m loosest) m x (at mark.Question o.0 ∷ u) d refl (omega (arith, le)) (parts_read m u ∙ w)))
              | inr q ↦ absurd (ok_err q.2)
            ]
      ]

  top_refused : (ts : List Token) (r : Refusal) → FailsTop n ts r → Refused (Can (Exprs loosest)) FailsTop n ts r
  unfolding choice_at
  top_refused ts r e =
      elim (bind_err (binary_at (expr_at n) (target_at n) n joined_level ts) (λ x. choice_at (expr_at n loosest) n x.0 x.1) r e) [
        | inl p ↦
            lift (Can (Exprs joined_level)) (Can (Exprs loosest)) (FailsBinary joined_level) FailsTop n [] [] ts r (binary_refused joined_level ts r (omega arith) p)
            (λ l i. (i.0, is_tighter joined_level (l ++ []) i.0 (subst (λ (a : List Token). IsExpr joined_level a i.0) (sym (append-nil l)) i.1)))
            (λ m u d le h f. rw f refl)
        | inr p ↦
            let x = binary_again joined_level ts p.0.0 p.0.1 (omega arith) p.1 in
            subst (λ (l : List Token). Refused (Can (Exprs loosest)) FailsTop n l r) (sym x.1)
            (lift (IsTail x.0) (Can (Exprs loosest)) (FailsChoice p.0.0) FailsTop n x.0 [] p.0.1 r
            (choice_refused x.0 p.0.1 p.0.0 r (starts_with mark.Question p.0.1) x.2 refl p.2)
            (λ l j. (j.0, subst (λ (a : List Token). IsExpr loosest (x.0 ++ a) j.0) (sym (append-nil l)) j.1))
            (λ m u d le h f. rw (x.3 m u le h) f))
      ]

  each_refused : (k : ℕ) → IsRefused (Exprs k) (suc n)
  each_refused k ts r e = raise n (Can (Exprs k)) (FailsForm (Exprs k)) ts r
      (elim (cases_lt joined_level k) [
        | inl l ↦
            lift (Can (Exprs loosest)) (Can (Exprs k)) FailsTop (λ m u d. expr_at (suc m) k u ≡ Err d) n [] [] ts r (top_refused ts r (sym (at_choice n k ts l) ∙ e))
            (λ a i. (i.0, subst (λ (b : List Token). IsExpr k b i.0) (sym (append-nil a)) (wider k a i.0 l i.1)))
            (λ m u d le h f. at_choice m k u l ∙ f)
        | inr g ↦
            lift (Can (Exprs k)) (Can (Exprs k)) (FailsBinary k) (λ m u d. expr_at (suc m) k u ≡ Err d) n [] [] ts r (binary_refused k ts r (omega arith) (sym (at_level n k ts (omega arith)) ∙ e))
            (λ a i. (i.0, subst (λ (b : List Token). IsExpr k b i.0) (sym (append-nil a)) i.1))
            (λ m u d le h f. at_level m k u (omega arith) ∙ f)
      ])

-- ---- where no node may be deeper

pub level_up : (k : ℕ) (ts : List Token) (x : Expr) → IsExpr zero ts x → IsExpr k ts x
level_up zero ts x i = i
level_up (suc k) ts x i = is_tighter k ts x (level_up k ts x i)

-- what begins an expression can be completed
pub first_completes : (c : TokenKind) (s : Span) → begins_expr c ≡ true → (closing : List Token) × Can (Exprs zero) (token c s ∷ closing)
first_completes (kind.Word n) s e = ([], (_, is_place _ _ (is_variable (record { name = n; span = s }))))
first_completes (kind.Number v) s e = ([], (number v s, is_number v s))
first_completes (kind.Text t) s e = absurd (false≢true e)
first_completes (kind.Mark mark.True) s e = ([], (_, is_truth true s))
first_completes (kind.Mark mark.False) s e = ([], (_, is_truth false s))
first_completes (kind.Mark mark.ProgramIndex) s e = ([], (_, is_program_index s))
first_completes (kind.Mark mark.ProgramCount) s e = ([], (_, is_program_count s))
first_completes (kind.Mark mark.ParenOpen) s e = (zero_tokens ++ at mark.ParenClose nowhere ∷ [], (_, is_brackets s nowhere zero_tokens (number zero_value nowhere) (number_at_level loosest)))
first_completes (kind.Mark mark.Minus) s e = (zero_tokens, (_, is_prefix Negative s zero_tokens (number zero_value nowhere) (number_at_level zero)))
first_completes (kind.Mark mark.Inverse) s e = (zero_tokens, (_, is_prefix Inverse s zero_tokens (number zero_value nowhere) (number_at_level zero)))
first_completes (kind.Mark mark.Not) s e = (zero_tokens, (_, is_prefix Not s zero_tokens (number zero_value nowhere) (number_at_level zero)))
first_completes (kind.Mark _) s e = absurd (false≢true e)
first_completes kind.LeftOut s e = absurd (false≢true e)

expr_limits : (k : ℕ) → Limits begins_expr (Exprs k)
unfolding expr_at
expr_limits k = record {
  limit = λ u. refl;
  off = λ m u e. expr_off m k u e;
  some = (zero_tokens, zero_at k);
  completes = λ c s e. let p = first_completes c s e in (p.0, (p.1.0, level_up k (token c s ∷ p.0) p.1.0 p.1.1));
}

target_off : (m : ℕ) (u : List Token) → begins_with is_word u ≡ false → target_at m u ≡ refuse Unexpected u
target_off zero u e = target_none u e
target_off (suc m) u e = let w = word_off u e in place_reads m u ∙ rw w refl

word_completes : (c : TokenKind) (s : Span) → is_word c ≡ true → Can Target (token c s ∷ [])
word_completes (kind.Word n) s e = (_, is_variable (record { name = n; span = s }))
word_completes (kind.Number v) s e = absurd cc
word_completes (kind.Text t) s e = absurd cc
word_completes (kind.Mark m) s e = absurd cc
word_completes kind.LeftOut s e = absurd cc

target_limits : Limits is_word Target
unfolding target_at
target_limits = record {
  limit = λ u. refl;
  off = λ m u e. target_off m u e;
  some = (word nameless ∷ [], (variable nameless, is_variable nameless));
  completes = λ c s e. ([], word_completes c s e);
}

pub record AllRefused (n : ℕ) : Type 0 where
  pub exprs : (k : ℕ) → IsRefused (Exprs k) n
  pub targets : IsRefused Target n

all_refused : (n : ℕ) → AllRefused n
all_refused zero = record { exprs = λ k ts r e. limit_refused begins_expr (Exprs k) (expr_limits k) ts r e; targets = λ ts r e. limit_refused is_word Target target_limits ts r e }
all_refused (suc n) = let a = all_refused n in record { exprs = λ k. each_refused n a.exprs a.targets k; targets = λ ts r e. raise n (Can Target) (FailsForm Target) ts r (place_refused n a.exprs a.targets ts r e) }

-- What a refusal of an expression means.
pub expr_refused : (n k : ℕ) → IsRefused (Exprs k) n
expr_refused n k = let a = all_refused n in a.exprs k
