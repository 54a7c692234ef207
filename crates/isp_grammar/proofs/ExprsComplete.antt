-- What is an expression, that is read.
use Rattle.std.proofs.Common.{◌≡◌, ℕ, zero, suc, ◌+◌, ◌≤◌, ◌<◌, Bool, true, false, cond, eqb, List, [], ◌∷◌, ◌++◌, Some, None, Ok, refl, sym, ap, subst, ◌∙◌, append_assoc, arith, inl, inr, ◌⊎◌, eq-eqb}
use Rattle.std.proofs.lemmas.Bool.{ne_eqb, cases_lt}
use Rattle.isp_base.specs.declared.types.Span.{Span}
use Rattle.isp_lex.specs.Tokens.{is_mark, at, starts_with}
use Rattle.isp_lex.specs.declared.token.Mark.{Mark}
use Rattle.isp_lex.specs.declared.token.Mark.TheVariants as mark
use Rattle.isp_lex.specs.declared.token.TokenKind.{TokenKind}
use Rattle.isp_lex.specs.declared.token.TokenKind.TheVariants as kind
use Rattle.isp_lex.specs.declared.token.Token.{Token}
use Rattle.std.proofs.lemmas.Bool.{false≢true}
use Rattle.isp_grammar.proofs.Basics.{starts_same}
use Rattle.isp_grammar.proofs.Choices.{either_complete}
use Rattle.isp_grammar.proofs.Forms.{IsComplete, One, one_complete, Named, named_complete, Free, both_complete, Behind, is_behind, is_name_then, is_before, made_complete, AreListed, IsSeries}
use Rattle.isp_grammar.proofs.FormsComplete.{EndsByHead, optional_complete, TakesComma, StartsOff, series_complete}
use Rattle.isp_grammar.proofs.Exprs.{Ends, Exprs, level_small, closes_ends, Bracketed, Index, Placed, Target, place_reads, place_then, bracket_then, ArgumentForm, Referring, Passed, ArgumentForms}
use Rattle.isp_grammar.proofs.Exprs.{Called, argument_reads, referring_then, called_then, row_deep, IsSuffix, deep_of_suffix, EndsSuffix, Suffixes, NamedForm, name_then, named_reads, Closed, Typed}
use Rattle.isp_grammar.proofs.Exprs.{Bracket, bracket_reads, closed_then, cast_then, typed_then, Parts, colon_then, parts_then, parts_read}
use Rattle.isp_grammar.proofs.ExprSteps.{depth_pos, at_level, at_choice, more_stop, more_step, choice_stops, choice_made}
use Rattle.isp_grammar.proofs.Starts.{begins_off, starts_off}
use Rattle.isp_grammar.proofs.TypesRead.{Types, types_complete, type_starts}
use Rattle.isp_tree.specs.Depth.{depth, depth_of_place, depth_of_argument}
use Rattle.isp_grammar.specs.Grammar.{IsPlace, is_variable, is_element, IsExpr, is_number, is_truth, is_program_index, is_program_count, is_place, is_call, is_brackets, is_cast, is_prefix, is_tighter, is_binary, is_choose}
use Rattle.isp_grammar.specs.Grammar.{IsArgument, is_value_argument, is_reference, IsArguments, is_no_argument, is_some_arguments, IsArgumentList, is_last_argument, is_more_arguments}
use Rattle.isp_grammar.specs.reader.Readers.{◌>>=◌, head, on_head}
use Rattle.isp_grammar.specs.reader.Choices.{begins_with}
use Rattle.isp_grammar.specs.reader.Types.{begins_type}
use Rattle.isp_grammar.specs.reader.Exprs.{start_of, begins_expr, operator_of, of_level, operator_at, place_by, argument_by, Suffix, by_nothing, by_index, by_arguments, suffix_at}
use Rattle.isp_grammar.specs.reader.Exprs.{named, named_at, bracket_of, bracket_at, operand_at, more_at, binary_at, choice_at, expr_at, target_at}
use Rattle.isp_grammar.specs.Signs.{word, truth_mark, prefix_mark, sign, level, joined_level, loosest}
use Rattle.isp_tree.specs.Tree.{TypeTree, Expr, place, Place, Argument, by_value, by_reference}
use Rattle.isp_grammar.specs.declared.expr.Atom.TheVariants as atom
use Rattle.isp_grammar.specs.declared.expr.Start.TheVariants as by
use Rattle.isp_tree.specs.declared.types.Word.{Word}
use Rattle.isp_tree.specs.declared.expr.Prefix.{Prefix}
use Rattle.isp_tree.specs.declared.expr.Prefix.TheVariants.{Negative, Inverse, Not}
use Rattle.isp_tree.specs.declared.expr.Operator.{Operator}
use Rattle.isp_tree.specs.declared.expr.Operator.TheVariants as operator

-- ---- the next token

operator_by_head : (k : ℕ) (ts : List Token) → operator_at k ts ≡ on_head None (λ c. of_level k (operator_of c)) (head ts)
operator_by_head k [] = refl
operator_by_head k (t ∷ ts) = refl

pub operator_same : (k : ℕ) (a b : List Token) → head a ≡ head b → operator_at k a ≡ operator_at k b
operator_same k a b e = operator_by_head k a ∙ ap (λ h. on_head None (λ c. of_level k (operator_of c)) h) e ∙ sym (operator_by_head k b)

pub ends_same : (k : ℕ) → EndsByHead (Exprs k)
ends_same k x a b e h = record {
  index = λ i. sym (starts_same mark.BracketOpen a b e) ∙ h.index i;
  arguments = λ i. sym (starts_same mark.ParenOpen a b e) ∙ h.arguments i;
  operators = λ j lt. sym (operator_same (suc j) a b e) ∙ h.operators j lt;
  choice = λ lt. sym (starts_same mark.Question a b e) ∙ h.choice lt;
}

pub target_same : EndsByHead Target
target_same x a b e h = λ i. sym (starts_same mark.BracketOpen a b e) ∙ h i

pub argument_same : EndsByHead ArgumentForm
argument_same (by_value x) a b e h = ends_same loosest x a b e h
argument_same (by_reference p s) a b e h = target_same p a b e h

-- ---- operators

sign_operator : (op : Operator) → operator_of (kind.Mark (sign op)) ≡ Some op
sign_operator operator.Multiply = refl
sign_operator operator.Divide = refl
sign_operator operator.Remainder = refl
sign_operator operator.Add = refl
sign_operator operator.Subtract = refl
sign_operator operator.ShiftLeft = refl
sign_operator operator.ShiftRight = refl
sign_operator operator.Less = refl
sign_operator operator.LessEqual = refl
sign_operator operator.Greater = refl
sign_operator operator.GreaterEqual = refl
sign_operator operator.Equal = refl
sign_operator operator.NotEqual = refl
sign_operator operator.And = refl
sign_operator operator.Xor = refl
sign_operator operator.Or = refl
sign_operator operator.AndAlso = refl
sign_operator operator.OrElse = refl

abbrev Plain : Mark → Type 0
Plain m = (is_mark mark.BracketOpen (kind.Mark m) ≡ false) × (is_mark mark.ParenOpen (kind.Mark m) ≡ false) × (is_mark mark.Question (kind.Mark m) ≡ false)

sign_plain : (op : Operator) → Plain (sign op)
sign_plain operator.Multiply = (refl, refl, refl)
sign_plain operator.Divide = (refl, refl, refl)
sign_plain operator.Remainder = (refl, refl, refl)
sign_plain operator.Add = (refl, refl, refl)
sign_plain operator.Subtract = (refl, refl, refl)
sign_plain operator.ShiftLeft = (refl, refl, refl)
sign_plain operator.ShiftRight = (refl, refl, refl)
sign_plain operator.Less = (refl, refl, refl)
sign_plain operator.LessEqual = (refl, refl, refl)
sign_plain operator.Greater = (refl, refl, refl)
sign_plain operator.GreaterEqual = (refl, refl, refl)
sign_plain operator.Equal = (refl, refl, refl)
sign_plain operator.NotEqual = (refl, refl, refl)
sign_plain operator.And = (refl, refl, refl)
sign_plain operator.Xor = (refl, refl, refl)
sign_plain operator.Or = (refl, refl, refl)
sign_plain operator.AndAlso = (refl, refl, refl)
sign_plain operator.OrElse = (refl, refl, refl)

-- the sign of an operator is found
pub sign_at : (k : ℕ) (op : Operator) (s : Span) (u : List Token) → level op ≡ k → operator_at k (at (sign op) s ∷ u) ≡ Some op
sign_at k op s u e = let b : eqb (level op) k ≡ true = eq-eqb (level op) k e in rw (sign_operator op, b) refl

level_other : (l j : ℕ) (op : Operator) → j < l → cond (eqb l j) (Some op) None ≡ None
level_other l j op h = let e : eqb l j ≡ false = ne_eqb l j (λ q. absurd (omega arith)) in rw e refl

-- before the sign of an operator an expression of a tighter level ends
pub ends_at_sign : (k : ℕ) (x : Expr) (op : Operator) (s : Span) (rest : List Token) → level op ≡ suc k → Ends k x (at (sign op) s ∷ rest)
ends_at_sign k x op s rest e =
    let p = sign_plain op in
    record {
      index = λ b. p.0;
      arguments = λ b. p.1;
      operators = λ j h. ap (of_level (suc j)) (sign_operator op) ∙ level_other (level op) (suc j) op (omega (arith, e));
      choice = λ lt. p.2;
    }

-- ---- the first token of an expression

start_truth : (b : Bool) → start_of (kind.Mark (truth_mark b)) ≡ by.Atom (atom.Truth b)
start_truth true = refl
start_truth false = refl

start_prefix : (p : Prefix) → start_of (kind.Mark (prefix_mark p)) ≡ by.Prefix p
start_prefix Negative = refl
start_prefix Inverse = refl
start_prefix Not = refl

place_first : {ts : List Token} {p : Place} → IsPlace ts p → (rest : List Token) → begins_with begins_expr (ts ++ rest) ≡ true
place_first (is_variable w) rest = refl
place_first (is_element w o c ts x i) rest = refl

pub expr_first : {k : ℕ} {ts : List Token} {x : Expr} → IsExpr k ts x → (rest : List Token) → begins_with begins_expr (ts ++ rest) ≡ true
expr_first (is_number v s) rest = refl
expr_first (is_truth b s) rest = rw (start_truth b) refl
expr_first (is_program_index s) rest = refl
expr_first (is_program_count s) rest = refl
expr_first (is_place ts x i) rest = place_first i rest
expr_first (is_call w o c ts xs i) rest = refl
expr_first (is_brackets o c ts x i) rest = refl
expr_first (is_cast o c ts us t x i j) rest = refl
expr_first (is_prefix p s ts x i) rest = rw (start_prefix p) refl
expr_first (is_tighter k ts x i) rest = expr_first i rest
expr_first (is_binary k a b x op s y e i j) rest = ap (begins_with begins_expr) (append_assoc a (at (sign op) s ∷ b) rest) ∙ expr_first i (at (sign op) s ∷ (b ++ rest))
expr_first (is_choose q d a b c x y z i j l) rest = ap (begins_with begins_expr) (append_assoc a (at mark.Question q ∷ (b ++ at mark.Colon d ∷ c)) rest) ∙ expr_first i (at mark.Question q ∷ ((b ++ at mark.Colon d ∷ c) ++ rest))

-- no expression begins as a type does
pub expr_no_type : (k : TokenKind) → begins_expr k ≡ true → begins_type k ≡ false
expr_no_type (kind.Word n) e = refl
expr_no_type (kind.Number v) e = refl
expr_no_type (kind.Text t) e = refl
expr_no_type (kind.Mark mark.True) e = refl
expr_no_type (kind.Mark mark.False) e = refl
expr_no_type (kind.Mark mark.ProgramIndex) e = refl
expr_no_type (kind.Mark mark.ProgramCount) e = refl
expr_no_type (kind.Mark mark.ParenOpen) e = refl
expr_no_type (kind.Mark mark.Minus) e = refl
expr_no_type (kind.Mark mark.Inverse) e = refl
expr_no_type (kind.Mark mark.Not) e = refl
expr_no_type (kind.Mark _) e = absurd (false≢true e)
expr_no_type kind.LeftOut e = refl

exprs_no_type : {k : ℕ} {ts : List Token} {x : Expr} → IsExpr k ts x → (rest : List Token) → begins_with begins_type (ts ++ rest) ≡ false
exprs_no_type {ts = ts} i rest = begins_off begins_expr begins_type expr_no_type (ts ++ rest) (expr_first i rest)

-- no expression begins with a mark that begins none
pub exprs_off : (k : ℕ) (m : Mark) → begins_expr (kind.Mark m) ≡ false → StartsOff (Exprs k) m
exprs_off k m o a x rest i = starts_off m begins_expr o (a ++ rest) (expr_first i rest)

-- ---- arguments

argument_first : {a : List Token} {x : Argument} → IsArgument a x → (rest : List Token) → starts_with mark.ParenClose (a ++ rest) ≡ false
argument_first (is_value_argument ts x i) rest = exprs_off loosest mark.ParenClose refl ts x rest i
argument_first (is_reference s ts x i) rest = refl

pub argument_off : StartsOff ArgumentForm mark.ParenClose
argument_off a x rest i = argument_first i rest

pub argument_comma : TakesComma ArgumentForm
argument_comma (by_value x) s rest = closes_ends loosest mark.Comma refl x s rest
argument_comma (by_reference p t) s rest = λ b. refl

more_listed : (a b : List Token) (s : Span) (x : Argument) (xs : List Argument) → IsArgument a x → AreListed ArgumentForm b xs → AreListed ArgumentForm (a ++ at mark.Comma s ∷ b) (x ∷ xs)
more_listed a b s x [] i j = absurd j
more_listed a b s x (y ∷ ys) i j = (a, s, b, refl, i, j)

list_of : {ts : List Token} {xs : List Argument} → IsArgumentList ts xs → AreListed ArgumentForm ts xs
list_of (is_last_argument ts x i) = i
list_of (is_more_arguments a b s x xs i j) = more_listed a b s x xs i (list_of j)

series_of_list : (ts : List Token) (xs : List Argument) → AreListed ArgumentForm ts xs → IsSeries ArgumentForm ts xs
series_of_list ts [] i = absurd i
series_of_list ts (x ∷ xs) i = i

series_of : {ts : List Token} {xs : List Argument} → IsArguments ts xs → IsSeries ArgumentForm ts xs
series_of is_no_argument = refl
series_of (is_some_arguments ts xs i) = series_of_list ts xs (list_of i)

-- ---- at a depth, over the one below

module _ (n : ℕ) (ih : (k : ℕ) → IsComplete (Exprs k) n) (target : IsComplete Target n) where
  bracketed_complete : IsComplete Bracketed n
  bracketed_complete = both_complete (Exprs loosest) (One mark.BracketClose) Free bracket_then n (ih loosest) (one_complete mark.BracketClose n)

  placed_complete : IsComplete Placed n
  placed_complete = both_complete Named Index Free place_then n (named_complete n) (optional_complete mark.BracketOpen Bracketed n bracketed_complete)

  place_read : {used : List Token} {x : Place} → IsPlace used x → (rest : List Token) → depth_of_place x ≤ suc n → Target.ends x rest → target_at (suc n) (used ++ rest) ≡ Ok (x, rest)
  place_read (is_variable w) rest le h =
      made_complete Placed Target (λ p. place_by p.0 p.1) [] n (target_at (suc n)) (word w ∷ []) (w, None) rest (place_reads n (word w ∷ rest)) placed_complete
      (is_name_then Index w [] None refl) (omega arith) (h refl)
  place_read (is_element w o c ts x i) rest le h =
      let used : List Token = at mark.BracketOpen o ∷ (ts ++ at mark.BracketClose c ∷ []) in
      made_complete Placed Target (λ p. place_by p.0 p.1) [] n (target_at (suc n)) (word w ∷ used) (w, Some (x, c)) rest (place_reads n (word w ∷ (used ++ rest))) placed_complete
      (is_name_then Index w used (Some (x, c)) (o, ts ++ at mark.BracketClose c ∷ [], refl, is_before (Exprs loosest) mark.BracketClose ts x c i)) (omega arith) tt

  place_complete : IsComplete Target (suc n)
  place_complete used x rest i le h = place_read i rest le h

  passed_complete : IsComplete Passed n
  passed_complete =
      either_complete (is_mark mark.And) Referring (Exprs loosest) (record { first = λ a x rest i. referring_first a x rest i; other = λ a x rest i. exprs_off_and a x rest i }) n
      (both_complete (One mark.And) Target Free referring_then n (one_complete mark.And n) target) (ih loosest)
    where
      referring_first : (a : List Token) (x : Span × Place) (rest : List Token) → Referring.is a x → begins_with (is_mark mark.And) (a ++ rest) ≡ true
      referring_first a x rest i = rw (i.2, i.3) refl

      and_by_head : (l : List Token) → begins_with (is_mark mark.And) l ≡ starts_with mark.And l
      and_by_head [] = refl
      and_by_head (t ∷ l) = refl

      exprs_off_and : (a : List Token) (x : Expr) (rest : List Token) → IsExpr loosest a x → begins_with (is_mark mark.And) (a ++ rest) ≡ false
      exprs_off_and a x rest i = and_by_head (a ++ rest) ∙ exprs_off loosest mark.And refl a x rest i

  argument_read : {used : List Token} {x : Argument} → IsArgument used x → (rest : List Token) → depth_of_argument x ≤ n → ArgumentForm.ends x rest → ArgumentForm.read n (used ++ rest) ≡ Ok (x, rest)
  argument_read (is_value_argument ts x i) rest le h =
      made_complete Passed ArgumentForm argument_by [] n (ArgumentForm.read n) ts (inr x) rest (argument_reads n (ts ++ rest)) passed_complete i le h
  argument_read (is_reference s ts x i) rest le h =
      made_complete Passed ArgumentForm argument_by [] n (ArgumentForm.read n) (at mark.And s ∷ ts) (inl (s, x)) rest (argument_reads n (at mark.And s ∷ (ts ++ rest))) passed_complete
      (is_behind mark.And Target s ts x i) (omega arith) h

  pub argument_complete : IsComplete ArgumentForm n
  argument_complete used x rest i le h = argument_read i rest le h

  called_complete : IsComplete Called n
  called_complete = both_complete ArgumentForms (One mark.ParenClose) Free called_then n (series_complete ArgumentForm mark.ParenClose argument_comma argument_off n argument_complete) (one_complete mark.ParenClose n)

  suffix_complete : IsComplete Suffixes n
  unfolding suffix_at
  suffix_complete used by_nothing rest i le h = rw (i, h.0, h.1) refl
  suffix_complete used (by_index x) rest i le h =
      let one = bracketed_complete i.1 x rest i.3 le tt in
      rw (i.2, one) refl
  suffix_complete used (by_arguments a) rest i le h =
      let one = called_complete i.1 a rest i.3 le tt in
      rw (i.2, one) refl

  names_complete : IsComplete NamedForm n
  names_complete = both_complete Named Suffixes Free name_then n (named_complete n) suffix_complete

  brackets_complete : IsComplete Bracket n
  brackets_complete =
      either_complete begins_type Typed Closed (record { first = λ a x rest i. typed_first a x rest i; other = λ a x rest i. closed_first a x rest i }) n
      (both_complete Types (Behind mark.ParenClose (Exprs zero)) Free typed_then n (types_complete n) (both_complete (One mark.ParenClose) (Exprs zero) Free cast_then n (one_complete mark.ParenClose n) (ih zero)))
      (both_complete (Exprs loosest) (One mark.ParenClose) Free closed_then n (ih loosest) (one_complete mark.ParenClose n))
    where
      front : (a b c rest : List Token) → a ≡ b ++ c → a ++ rest ≡ b ++ (c ++ rest)
      front a b c rest e = ap (λ (l : List Token). l ++ rest) e ∙ append_assoc b c rest

      typed_first : (a : List Token) (x : TypeTree × (Span × Expr)) (rest : List Token) → Typed.is a x → begins_with begins_type (a ++ rest) ≡ true
      typed_first a x rest i = ap (begins_with begins_type) (front a i.0 i.1 rest i.2) ∙ type_starts i.3 (i.1 ++ rest)

      closed_first : (a : List Token) (x : Expr × Span) (rest : List Token) → Closed.is a x → begins_with begins_type (a ++ rest) ≡ false
      closed_first a x rest i = ap (begins_with begins_type) (front a i.0 i.1 rest i.2) ∙ exprs_no_type i.3 (i.1 ++ rest)

  -- ---- operands

  named_read : (w : Word) (s : Suffix) (b rest : List Token) → IsSuffix b s → deep_of_suffix s ≤ n → EndsSuffix s rest → operand_at (expr_at n) (target_at n) (word w ∷ (b ++ rest)) ≡ Ok (named w s, rest)
  unfolding operand_at
  named_read w s b rest i le h =
      made_complete NamedForm (Exprs zero) (λ p. named p.0 p.1) [] n (named_at (expr_at n loosest) (target_at n)) (word w ∷ b) (w, s) rest (named_reads n (word w ∷ (b ++ rest))) names_complete
      (is_name_then Suffixes w b s i) (omega arith) h

  bracket_read : (o : Span) (a : List Token) (p : (TypeTree × (Span × Expr)) ⊎ (Expr × Span)) (rest : List Token) → Bracket.is a p
      → Bracket.deep p ≤ n → Bracket.ends p rest → operand_at (expr_at n) (target_at n) (at mark.ParenOpen o ∷ (a ++ rest))
      ≡ Ok (bracket_of o p, rest)
  unfolding operand_at
  bracket_read o a p rest i le h = made_complete Bracket (Exprs zero) (bracket_of o) [] n (bracket_at (expr_at n) o) a p rest (bracket_reads n o (a ++ rest)) brackets_complete i le h

  variable_read : {used : List Token} {p : Place} → IsPlace used p → (rest : List Token) → depth_of_place p ≤ suc n → Ends zero (place p) rest → operand_at (expr_at n) (target_at n) (used ++ rest) ≡ Ok (place p, rest)
  variable_read (is_variable w) rest le h = named_read w by_nothing [] rest refl (omega arith) (h.index refl, h.arguments refl)
  variable_read (is_element w o c ts x i) rest le h =
      named_read w (by_index (x, c)) (at mark.BracketOpen o ∷ (ts ++ at mark.BracketClose c ∷ [])) rest (o, ts ++ at mark.BracketClose c ∷ [], refl, is_before (Exprs loosest) mark.BracketClose ts x c i) (omega arith) tt

  -- by the levels of operators: what stands on the left of more operators
  abbrev Left : ℕ → List Token → Expr → Type 0
  Left zero used x = (rest : List Token) → Ends zero x rest → binary_at (expr_at n) (target_at n) n zero (used ++ rest) ≡ Ok (x, rest)
  Left (suc k) used x = (rest : List Token) → Ends k x rest → (f : ℕ) × (n < f + depth x) × (binary_at (expr_at n) (target_at n) n (suc k) (used ++ rest) ≡ more_at (expr_at n k) n k f x rest)

  whole : (k : ℕ) (used : List Token) (x : Expr) → k ≤ joined_level → Left k used x → (rest : List Token) → Ends k x rest → binary_at (expr_at n) (target_at n) n k (used ++ rest) ≡ Ok (x, rest)
  whole zero used x lk l rest h = l rest h
  whole (suc k) used x lk l rest h =
      let p = l rest (record { index = h.index; arguments = h.arguments; operators = λ j lt. h.operators j (omega arith); choice = λ lt. absurd (omega arith) }) in
      p.2 ∙ more_stop (expr_at n k) n k p.0 x rest (h.operators k (omega arith))

  left : {k : ℕ} {used : List Token} {x : Expr} → IsExpr k used x → k ≤ joined_level → depth x ≤ suc n → Left k used x
  unfolding binary_at operand_at
  left (is_number v s) lk le = λ rest h. refl
  left (is_truth b s) lk le = λ rest h. rw (start_truth b) refl
  left (is_program_index s) lk le = λ rest h. refl
  left (is_program_count s) lk le = λ rest h. refl
  left (is_place ts x i) lk le = λ rest h. variable_read i rest le h
  left (is_call w o c ts xs i) lk le = λ rest h.
      named_read w (by_arguments (xs, c)) (at mark.ParenOpen o ∷ (ts ++ at mark.ParenClose c ∷ [])) rest (o, ts ++ at mark.ParenClose c ∷ [], refl, is_before ArgumentForms mark.ParenClose ts xs c (series_of i)) (omega (arith, le, row_deep xs)) tt
  left (is_brackets o c ts x i) lk le = λ rest h. bracket_read o (ts ++ at mark.ParenClose c ∷ []) (inr (x, c)) rest (is_before (Exprs loosest) mark.ParenClose ts x c i) (omega arith) tt
  left (is_cast o c ts us t x i j) lk le = λ rest h.
      bracket_read o (ts ++ at mark.ParenClose c ∷ us) (inl (t, (c, x))) rest (ts, at mark.ParenClose c ∷ us, refl, i, is_behind mark.ParenClose (Exprs zero) c us x j, tt) (omega arith)
      (record { index = h.index; arguments = h.arguments; operators = λ j lt. absurd (omega arith); choice = λ lt. absurd (omega arith) })
  left (is_prefix p s ts x i) lk le = λ rest h.
      let one = ih zero ts x rest i (omega arith) (record { index = h.index; arguments = h.arguments; operators = λ j lt. absurd (omega arith); choice = λ lt. absurd (omega arith) }) in
      rw (start_prefix p, one) refl
  left (is_tighter k ts x i) lk le = λ rest h.
      let p = whole k ts x (omega arith) (left i (omega arith) le) rest h in
      (n, omega (arith, depth_pos x), rw p refl)
  left (is_binary k a b x op s y e i j) lk le = λ rest h.
      let p = left i lk (omega arith) (at (sign op) s ∷ (b ++ rest)) (ends_at_sign k x op s (b ++ rest) e) in
      let r = ih k b y rest j (omega arith) (record { index = h.index; arguments = h.arguments; operators = h.operators; choice = h.choice }) in
      let o = sign_at (suc k) op s (b ++ rest) e in
      let q = more_step (expr_at n k) n k p.0 x (at (sign op) s ∷ (b ++ rest)) op y rest p.1 (omega arith) o r in
      (q.0, q.1, ap (λ (l : List Token). binary_at (expr_at n) (target_at n) n (suc k) l) (append_assoc a (at (sign op) s ∷ b) rest) ∙ p.2 ∙ q.2)
  left (is_choose q d a b c x y z i j l) lk le = absurd (omega arith)

  -- ---- a choice

  parts_complete : IsComplete Parts n
  parts_complete = both_complete (Exprs loosest) (Behind mark.Colon (Exprs loosest)) Free parts_then n (ih loosest) (both_complete (One mark.Colon) (Exprs loosest) Free colon_then n (one_complete mark.Colon n) (ih loosest))

  abbrev Top : List Token → Expr → Type 0
  Top used x = (rest : List Token) → Ends loosest x rest → (binary_at (expr_at n) (target_at n) n joined_level (used ++ rest) >>= λ x. choice_at (expr_at n loosest) n x.0 x.1) ≡ Ok (x, rest)

  alone_top : (used : List Token) (x : Expr) → IsExpr joined_level used x → depth x ≤ suc n → Top used x
  alone_top used x i le = λ rest h.
      let p = whole joined_level used x (omega arith) (left i (omega arith) le) rest (record { index = h.index; arguments = h.arguments; operators = λ j lt. h.operators j (omega arith); choice = λ lt. absurd (omega arith) }) in
      let q = choice_stops (expr_at n loosest) n x rest (h.choice (omega arith)) in
      rw (p, q) refl

  top : {k : ℕ} {used : List Token} {x : Expr} → IsExpr k used x → k ≡ loosest → depth x ≤ suc n → Top used x
  top (is_number v s) e le = absurd (omega arith)
  top (is_truth b s) e le = absurd (omega arith)
  top (is_program_index s) e le = absurd (omega arith)
  top (is_program_count s) e le = absurd (omega arith)
  top (is_place ts x i) e le = absurd (omega arith)
  top (is_call w o c ts xs i) e le = absurd (omega arith)
  top (is_brackets o c ts x i) e le = absurd (omega arith)
  top (is_cast o c ts us t x i j) e le = absurd (omega arith)
  top (is_prefix p s ts x i) e le = absurd (omega arith)
  top (is_tighter k ts x i) e le = let w : k ≡ joined_level = omega arith in alone_top ts x (subst (λ (j : ℕ). IsExpr j ts x) w i) le
  top (is_binary k a b x op s y w i j) e le = absurd (omega (arith, w, level_small op))
  top (is_choose q d a b c x y z i j l) e le = λ rest h.
      let parts : List Token = b ++ at mark.Colon d ∷ c in
      let p = whole joined_level a x (omega arith) (left i (omega arith) (omega arith)) (at mark.Question q ∷ (parts ++ rest)) (record { index = λ b. refl; arguments = λ b. refl; operators = λ j lt. refl; choice = λ lt. absurd (omega arith) }) in
      let r = parts_complete parts (y, (d, z)) rest (b, at mark.Colon d ∷ c, refl, j, is_behind mark.Colon (Exprs loosest) d c z l, tt) (omega arith)
      (record { index = h.index; arguments = h.arguments; operators = h.operators; choice = h.choice }) in
      let m = choice_made (expr_at n loosest) n x (at mark.Question q ∷ (parts ++ rest)) (y, (d, z)) rest refl (omega arith) (parts_read n (parts ++ rest) ∙ r) in
      rw (append_assoc a (at mark.Question q ∷ parts) rest, p, m) refl

-- ---- levels past the loosest

flat : {k : ℕ} {ts : List Token} {x : Expr} → IsExpr k ts x → joined_level < k → IsExpr loosest ts x
flat (is_number v s) lt = absurd (omega arith)
flat (is_truth b s) lt = absurd (omega arith)
flat (is_program_index s) lt = absurd (omega arith)
flat (is_program_count s) lt = absurd (omega arith)
flat (is_place ts x i) lt = absurd (omega arith)
flat (is_call w o c ts xs i) lt = absurd (omega arith)
flat (is_brackets o c ts x i) lt = absurd (omega arith)
flat (is_cast o c ts us t x i j) lt = absurd (omega arith)
flat (is_prefix p s ts x i) lt = absurd (omega arith)
flat (is_tighter k ts x i) lt =
    elim (cases_lt joined_level k) [
      | inl l ↦ flat i l
      | inr g ↦ let w : k ≡ joined_level = omega arith in is_tighter joined_level ts x (subst (λ (j : ℕ). IsExpr j ts x) w i)
    ]
flat (is_binary k a b x op s y w i j) lt = absurd (omega (arith, w, level_small op))
flat (is_choose q d a b c x y z i j l) lt = is_choose q d a b c x y z i j l

narrow : (k : ℕ) (x : Expr) (rest : List Token) → joined_level < k → Ends k x rest → Ends loosest x rest
narrow k x rest lt h = record { index = h.index; arguments = h.arguments; operators = λ j l. h.operators j (omega arith); choice = λ l. h.choice lt }

pub record AllComplete (n : ℕ) : Type 0 where
  pub exprs : (k : ℕ) → IsComplete (Exprs k) n
  pub targets : IsComplete Target n

each_complete : (n k : ℕ) → AllComplete n → IsComplete (Exprs k) (suc n)
each_complete n k a used x rest i le h =
    elim (cases_lt joined_level k) [
      | inl l ↦ at_choice n k (used ++ rest) l ∙ top n a.exprs a.targets (flat i l) refl le rest (narrow k x rest l h)
      | inr g ↦ at_level n k (used ++ rest) (omega arith) ∙ whole n a.exprs a.targets k used x (omega arith) (left n a.exprs a.targets i (omega arith) le) rest h
    ]

all_complete : (n : ℕ) → AllComplete n
all_complete zero = record { exprs = λ k used x rest i le h. absurd (omega (arith, depth_pos x)); targets = λ used x rest i le h. absurd (omega (arith, depth_pos (place x))) }
all_complete (suc n) = let a = all_complete n in record { exprs = λ k. each_complete n k a; targets = place_complete n a.exprs a.targets }

-- What is an expression of a level, no deeper, is read.
pub expr_complete : (n k : ℕ) → IsComplete (Exprs k) n
expr_complete n k = let a = all_complete n in a.exprs k

pub target_complete : (n : ℕ) → IsComplete Target n
target_complete n = let a = all_complete n in a.targets
