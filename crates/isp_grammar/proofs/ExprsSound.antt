-- What is read as an expression is one.
use Rattle.std.proofs.Common.{◌≡◌, ℕ, zero, suc, ◌+◌, ◌-◌, ◌≤◌, ◌<◌, Bool, true, false, List, [], ◌∷◌, ◌++◌, drop, Option, Some, None, Ok, refl, sym, ap, subst, ◌∙◌, append_assoc, arith, inl, inr, ◌⊎◌}
use Rattle.std.specs.Prelude.{nat_lt}
use Rattle.std.proofs.lemmas.Bool.{cases_lt, ltb-false}
use Rattle.isp_base.specs.declared.types.Span.{Span}
use Rattle.isp_lex.specs.Tokens.{at, starts_with, is_mark}
use Rattle.isp_lex.specs.declared.token.Mark.TheVariants as mark
use Rattle.isp_lex.specs.declared.token.TokenKind.TheVariants as kind
use Rattle.isp_lex.specs.declared.token.Token.{Token}
use Rattle.isp_grammar.proofs.Basics.{token, ok_is, err_ok, bind_ok, chosen, starts_cons}
use Rattle.isp_grammar.proofs.Choices.{either_sound, limit_reads_none}
use Rattle.isp_grammar.proofs.Forms.{Found, IsSound, One, one_sound, Named, named_sound, Free, both_sound, Behind, made_sound, optional_sound, series_sound}
use Rattle.isp_grammar.proofs.Exprs.{Ends, Exprs, kind_of, started, with_kind, operator_is, over_none, atom_ends, name_ends, Bracketed, Index, Placed, Target, placed_makes, place_depth, place_ends, place_reads}
use Rattle.isp_grammar.proofs.Exprs.{place_then, bracket_then, ArgumentForm, Referring, Passed, ArgumentForms, Called, argument_reads, passed_makes, passed_depth, passed_ends, referring_then, called_then}
use Rattle.isp_grammar.proofs.Exprs.{Suffixes, NamedForm, name_then, named_reads, suffix_sound, named_makes, named_depth, named_ends, Closed, Typed, Bracket, bracket_reads, bracket_makes, bracket_depth}
use Rattle.isp_grammar.proofs.Exprs.{bracket_ends, closed_then, cast_then, typed_then, Parts, colon_then, parts_then, parts_read, choice_makes}
use Rattle.isp_grammar.proofs.ExprSteps.{atom_depth, at_level, at_choice}
use Rattle.isp_grammar.proofs.TypesRead.{Types, types_sound}
use Rattle.isp_tree.specs.Depth.{depth}
use Rattle.isp_grammar.specs.Grammar.{IsExpr, is_number, is_truth, is_program_index, is_program_count, is_prefix, is_tighter, is_binary}
use Rattle.isp_grammar.specs.reader.Readers.{Reader, ◌>>=◌, refuse, is_word}
use Rattle.isp_grammar.specs.reader.Types.{begins_type}
use Rattle.isp_grammar.specs.reader.Exprs.{start_of, atom_of, begins_expr, operator_at, place_by, argument_by, named, named_at, bracket_of, bracket_at, prefix_of, operand_from}
use Rattle.isp_grammar.specs.reader.Exprs.{operand_at, joined, step_at, more_at, binary_at, choice_of, parts_at, choice_from, choice_at, expr_at, target_at}
use Rattle.isp_grammar.specs.Signs.{prefix_mark, sign, joined_level, loosest}
use Rattle.isp_tree.specs.Tree.{Expr}
use Rattle.isp_grammar.specs.declared.expr.Atom.{Atom}
use Rattle.isp_grammar.specs.declared.expr.Atom.TheVariants as atom
use Rattle.isp_grammar.specs.declared.expr.Start.{Start}
use Rattle.isp_grammar.specs.declared.expr.Start.TheVariants as by
use Rattle.isp_grammar.specs.declared.stop.Why.TheVariants.{TooDeep}
use Rattle.isp_tree.specs.declared.expr.Operator.{Operator}

-- a token alone
alone : (n : ℕ) (t u : Token) (ts : List Token) (x y : Expr) (rest : List Token) → t ≡ u → IsExpr zero (u ∷ []) x → depth x ≤ suc n → Ends zero x ts → ◌≡◌ {A = Expr × List Token} (x, ts) (y, rest) → Found (Exprs zero) (suc n) (t ∷ ts) y rest
alone n t u ts x y rest s i le h e =
    subst (λ (q : Expr × List Token). Found (Exprs zero) (suc n) (t ∷ ts) q.0 q.1) e (record {
      used = t ∷ [];
      split = refl;
      is = subst (λ (u : Token). IsExpr zero (u ∷ []) x) (sym s) i;
      shallow = le;
      ends = h;
    })

is_atom : (a : Atom) (s : Span) → IsExpr zero (token (kind_of a) s ∷ []) (atom_of a s)
is_atom (atom.Number v) s = is_number v s
is_atom (atom.Truth b) s = is_truth b s
is_atom atom.ProgramIndex s = is_program_index s
is_atom atom.ProgramCount s = is_program_count s

module _ (n : ℕ) (ih : (k : ℕ) → IsSound (Exprs k) n) (target : IsSound Target n) where
  bracketed_sound : IsSound Bracketed n
  bracketed_sound = both_sound (Exprs loosest) (One mark.BracketClose) Free bracket_then n (ih loosest) (one_sound mark.BracketClose n)

  placed_sound : IsSound Placed n
  placed_sound = both_sound Named Index Free place_then n (named_sound n) (optional_sound mark.BracketOpen Bracketed n bracketed_sound)

  place_sound : IsSound Target (suc n)
  place_sound ts x rest e =
      made_sound Placed Target (λ p. place_by p.0 p.1) [] n (suc n) (target_at (suc n)) ts (place_reads n ts) placed_sound
      (λ a p i. placed_makes a p i) (λ p le. place_depth p.0 p.1 n (omega arith)) (λ p rest h. place_ends p.0 p.1 rest h) x rest e

  pub argument_sound : IsSound ArgumentForm n
  argument_sound ts x rest e =
      made_sound Passed ArgumentForm argument_by [] n n (ArgumentForm.read n) ts (argument_reads n ts)
      (either_sound (is_mark mark.And) Referring (Exprs loosest) n (both_sound (One mark.And) Target Free referring_then n (one_sound mark.And n) target) (ih loosest))
      (λ a p i. passed_makes a p i) (λ p le. passed_depth p n le) (λ p rest h. passed_ends p rest h) x rest e

  called_sound : IsSound Called n
  called_sound = both_sound ArgumentForms (One mark.ParenClose) Free called_then n (series_sound ArgumentForm mark.ParenClose n argument_sound) (one_sound mark.ParenClose n)

  names_sound : IsSound NamedForm n
  names_sound = both_sound Named Suffixes Free name_then n (named_sound n) (suffix_sound n bracketed_sound called_sound)

  brackets_sound : IsSound Bracket n
  brackets_sound =
      either_sound begins_type Typed Closed n
      (both_sound Types (Behind mark.ParenClose (Exprs zero)) Free typed_then n (types_sound n) (both_sound (One mark.ParenClose) (Exprs zero) Free cast_then n (one_sound mark.ParenClose n) (ih zero)))
      (both_sound (Exprs loosest) (One mark.ParenClose) Free closed_then n (ih loosest) (one_sound mark.ParenClose n))

  from_sound : (c : Start) (t : Token) (ts : List Token) (x : Expr) (rest : List Token) → start_of t.kind ≡ c → operand_from (expr_at n) (target_at n) c t ts ≡ Ok (x, rest) → Found (Exprs zero) (suc n) (t ∷ ts) x rest
  from_sound (by.Atom a) t ts x rest s e =
      alone n t (token (kind_of a) t.span) ts (atom_of a t.span) x rest (with_kind t (kind_of a) (started t (by.Atom a) s)) (is_atom a t.span) (omega (arith, atom_depth a t.span)) (atom_ends a t.span ts) (ok_is e)
  from_sound by.Word t ts x rest s e =
      made_sound NamedForm (Exprs zero) (λ p. named p.0 p.1) [] n (suc n) (named_at (expr_at n loosest) (target_at n)) (t ∷ ts) (named_reads n (t ∷ ts)) names_sound
      (λ a p i. named_makes a p i) (λ p le. named_depth p.0 p.1 n (omega arith)) (λ p rest h. named_ends p.0 p.1 rest h) x rest e
  from_sound by.Bracket t ts x rest s e =
      subst (λ (u : Token). Found (Exprs zero) (suc n) (u ∷ ts) x rest) (sym (with_kind t (kind.Mark mark.ParenOpen) (started t by.Bracket s)))
      (made_sound Bracket (Exprs zero) (bracket_of t.span) (at mark.ParenOpen t.span ∷ []) n (suc n) (λ l. bracket_at (expr_at n) t.span (drop 1 l)) ts (bracket_reads n t.span ts) brackets_sound
      (λ a p i. bracket_makes t.span a p i) (λ p le. bracket_depth t.span p n le) (λ p rest h. bracket_ends t.span p rest h) x rest e)
  from_sound (by.Prefix p) t ts x rest s e =
      subst (λ (u : Token). Found (Exprs zero) (suc n) (u ∷ ts) x rest) (sym (with_kind t (kind.Mark (prefix_mark p)) (started t (by.Prefix p) s)))
      (made_sound (Exprs zero) (Exprs zero) (prefix_of p t.span) (at (prefix_mark p) t.span ∷ []) n (suc n) (λ l. operand_from (expr_at n) (target_at n) (by.Prefix p) t (drop 1 l)) ts refl (ih zero)
      (λ a y i. is_prefix p t.span a y i) (λ y le. omega arith) (λ y rest h. name_ends (prefix_of p t.span y) rest h.index h.arguments) x rest e)
  from_sound by.Nothing t ts x rest s e = absurd (err_ok e)

  operand_sound : (ts : List Token) (x : Expr) (rest : List Token) → operand_at (expr_at n) (target_at n) ts ≡ Ok (x, rest) → Found (Exprs zero) (suc n) ts x rest
  unfolding operand_at
  operand_sound [] x rest e = absurd (err_ok e)
  operand_sound (t ∷ ts) x rest e = from_sound (start_of t.kind) t ts x rest refl e

  -- ---- operators

  -- what one step of the loop does, at any way to go on
  step_ok : (k : ℕ) (more : Expr → Reader Expr) (x : Expr) (ts : List Token) (o : Option Operator) (y : Expr) (rest : List Token) → operator_at (suc k) ts ≡ o → step_at (expr_at n k) more n x ts o ≡ Ok (y, rest)
      → ((operator_at (suc k) ts ≡ None) × (x ≡ y) × (ts ≡ rest))
      ⊎ ((op : Operator) × (operator_at (suc k) ts ≡ Some op) × (depth x ≤ n) × (z : Expr) × (after : List Token) × (expr_at n k (drop 1 ts) ≡ Ok (z, after)) × (more (joined x op z) after ≡ Ok (y, rest)))
  step_ok k more x ts None y rest s e = let p = ok_is e in inl (s, ap (λ (q : Expr × List Token). q.0) p, ap (λ (q : Expr × List Token). q.1) p)
  step_ok k more x ts (Some op) y rest s e =
      elim (chosen (nat_lt n (depth x)) (refuse TooDeep ts) (expr_at n k (drop 1 ts) >>= λ y. more (joined x op y.0) y.1) (Ok (y, rest)) e) [
        | inl p ↦ absurd (err_ok p.1)
        | inr p ↦
            let q = bind_ok (expr_at n k (drop 1 ts)) (λ y. more (joined x op y.0) y.1) (y, rest) p.1 in
            inr (op, s, ltb-false _ _ p.0, q.0.0, q.0.1, q.1, q.2)
      ]

  none_at_all : (k : ℕ) (x : Expr) (rest : List Token) → suc k ≤ joined_level → Ends k x rest → operator_at (suc k) rest ≡ None → Ends (suc k) x rest
  none_at_all k x rest le h s = record {
    index = h.index;
    arguments = h.arguments;
    operators = λ j lt. elim (cases_lt j k) [ inl l ↦ h.operators j l | inr g ↦ let e : k ≡ j = omega arith in subst (λ (i : ℕ). operator_at (suc i) rest ≡ None) e s ];
    choice = λ lt. absurd (omega arith);
  }

  -- one more operator and its right side
  joined_reads : (k : ℕ) (front mid : List Token) (x : Expr) (op : Operator) (z : Expr) (after : List Token) → IsExpr (suc k) front x → depth x ≤ n → operator_at (suc k) mid ≡ Some op → Found (Exprs k) n (drop 1 mid) z after
      → (used : List Token) × (front ++ mid ≡ used ++ after) × IsExpr (suc k) used (joined x op z) × (depth (joined x op z) ≤ suc n) × Ends k (joined x op z) after
  joined_reads k front mid x op z after i le s r =
      let o = operator_is (suc k) mid op s in (
        front ++ at (sign op) o.1.0 ∷ r.used,
        ap (λ (l : List Token). front ++ l) (o.1.1 ∙ ap (λ (l : List Token). at (sign op) o.1.0 ∷ l) r.split) ∙ sym (append_assoc front (at (sign op) o.1.0 ∷ r.used) after),
        is_binary k front r.used x op o.1.0 z o.0 i r.is,
        omega (arith, r.shallow),
        record { index = r.ends.index; arguments = r.ends.arguments; operators = r.ends.operators; choice = r.ends.choice },
      )

  -- the loop, over what was read before
  more_sound : (k f : ℕ) (front mid : List Token) (x y : Expr) (rest : List Token) → suc k ≤ joined_level → IsExpr (suc k) front x → depth x ≤ suc n
      → Ends k x mid → more_at (expr_at n k) n k f x mid ≡ Ok (y, rest) → Found (Exprs (suc k)) (suc n) (front ++ mid) y rest
  unfolding more_at
  more_sound k zero front mid x y rest lk i le h e =
      elim (step_ok k (λ _ ts. refuse TooDeep ts) x mid (operator_at (suc k) mid) y rest refl e) [
        | inl p ↦
            subst (λ (q : Expr). Found (Exprs (suc k)) (suc n) (front ++ mid) q rest) p.1 (subst (λ (r : List Token). Found (Exprs (suc k)) (suc n) (front ++ mid) x r) p.2
            (record { used = front; split = refl; is = i; shallow = le; ends = none_at_all k x mid lk h p.0 }))
        | inr p ↦ absurd (err_ok p.6)
      ]
  more_sound k (suc f) front mid x y rest lk i le h e =
      elim (step_ok k (more_at (expr_at n k) n k f) x mid (operator_at (suc k) mid) y rest refl e) [
        | inl p ↦
            subst (λ (q : Expr). Found (Exprs (suc k)) (suc n) (front ++ mid) q rest) p.1 (subst (λ (r : List Token). Found (Exprs (suc k)) (suc n) (front ++ mid) x r) p.2
            (record { used = front; split = refl; is = i; shallow = le; ends = none_at_all k x mid lk h p.0 }))
        | inr p ↦
            let r = ih k (drop 1 mid) p.3 p.4 p.5 in
            let j = joined_reads k front mid x p.0 p.3 p.4 i p.2 p.1 r in
            subst (λ (l : List Token). Found (Exprs (suc k)) (suc n) l y rest) (sym j.1) (more_sound k f j.0 p.4 (joined x p.0 p.3) y rest lk j.2 j.3 j.4 p.6)
      ]

  binary_sound : (k : ℕ) (ts : List Token) (x : Expr) (rest : List Token) → k ≤ joined_level → binary_at (expr_at n) (target_at n) n k ts ≡ Ok (x, rest) → Found (Exprs k) (suc n) ts x rest
  unfolding binary_at
  binary_sound zero ts x rest lk e = operand_sound ts x rest e
  binary_sound (suc k) ts x rest lk e =
      let p = bind_ok (binary_at (expr_at n) (target_at n) n k ts) (λ x. more_at (expr_at n k) n k n x.0 x.1) (x, rest) e in
      let r = binary_sound k ts p.0.0 p.0.1 (omega arith) p.1 in
      subst (λ (l : List Token). Found (Exprs (suc k)) (suc n) l x rest) (sym r.split) (more_sound k n r.used p.0.1 p.0.0 x rest lk (is_tighter k r.used p.0.0 r.is) r.shallow r.ends p.2)

  -- ---- a choice

  parts_sound : IsSound Parts n
  parts_sound = both_sound (Exprs loosest) (Behind mark.Colon (Exprs loosest)) Free parts_then n (ih loosest) (both_sound (One mark.Colon) (Exprs loosest) Free colon_then n (one_sound mark.Colon n) (ih loosest))

  choice_sound : (front mid : List Token) (x y : Expr) (rest : List Token) (b : Bool) → IsExpr joined_level front x → depth x ≤ suc n
      → Ends joined_level x mid → starts_with mark.Question mid ≡ b → choice_from (expr_at n loosest) n x mid b ≡ Ok (y, rest)
      → Found (Exprs loosest) (suc n) (front ++ mid) y rest
  choice_sound front mid x y rest false i le h s e =
      subst (λ (z : Expr × List Token). Found (Exprs loosest) (suc n) (front ++ mid) z.0 z.1) (ok_is e) (record {
        used = front;
        split = refl;
        is = is_tighter joined_level front x i;
        shallow = le;
        ends = record {
          index = h.index;
          arguments = h.arguments;
          operators = λ j lt. elim (cases_lt j joined_level) [ inl l ↦ h.operators j l | inr g ↦ over_none j mid (omega arith) ];
          choice = λ lt. s;
        };
      })
  choice_sound front mid x y rest true i le h s e =
      elim (chosen (nat_lt n (depth x)) (refuse TooDeep mid) (parts_at (expr_at n loosest) (drop 1 mid) >>= λ p. Ok (choice_of x p.0, p.1)) (Ok (y, rest)) e) [
        | inl p ↦ absurd (err_ok p.1)
        | inr p ↦
            let q = bind_ok (parts_at (expr_at n loosest) (drop 1 mid)) (λ p. Ok (choice_of x p.0, p.1)) (y, rest) p.1 in
            let r = parts_sound (drop 1 mid) q.0.0 q.0.1 (sym (parts_read n (drop 1 mid)) ∙ q.1) in
            let o = starts_cons mark.Question mid s in
            let d = ltb-false _ _ p.0 in
            subst (λ (z : Expr × List Token). Found (Exprs loosest) (suc n) (front ++ mid) z.0 z.1) (ok_is q.2) (record {
              used = front ++ at mark.Question o.0 ∷ r.used;
              split = ap (λ (l : List Token). front ++ l) (o.1 ∙ ap (λ (l : List Token). at mark.Question o.0 ∷ l) r.split) ∙ sym (append_assoc front (at mark.Question o.0 ∷ r.used) q.0.1);
              is = choice_makes front o.0 r.used x q.0.0 i r.is;
              shallow = omega (arith, d, r.shallow);
              ends = record { index = r.ends.index; arguments = r.ends.arguments; operators = r.ends.operators; choice = r.ends.choice };
            })
      ]

  top_sound : (ts : List Token) (x : Expr) (rest : List Token) → (binary_at (expr_at n) (target_at n) n joined_level ts >>= λ x. choice_at (expr_at n loosest) n x.0 x.1) ≡ Ok (x, rest) → Found (Exprs loosest) (suc n) ts x rest
  unfolding choice_at
  top_sound ts x rest e =
      let p = bind_ok (binary_at (expr_at n) (target_at n) n joined_level ts) (λ x. choice_at (expr_at n loosest) n x.0 x.1) (x, rest) e in
      let r = binary_sound joined_level ts p.0.0 p.0.1 (omega arith) p.1 in
      subst (λ (l : List Token). Found (Exprs loosest) (suc n) l x rest) (sym r.split) (choice_sound r.used p.0.1 p.0.0 x rest (starts_with mark.Question p.0.1) r.is r.shallow r.ends refl p.2)

-- ---- levels past the loosest

pub past_loosest : (d : ℕ) (ts : List Token) (x : Expr) → IsExpr loosest ts x → IsExpr (d + loosest) ts x
past_loosest zero ts x i = i
past_loosest (suc d) ts x i = let e : suc (d + loosest) ≡ suc d + loosest = omega arith in subst (λ (j : ℕ). IsExpr j ts x) e (is_tighter (d + loosest) ts x (past_loosest d ts x i))

pub wider : (k : ℕ) (ts : List Token) (x : Expr) → joined_level < k → IsExpr loosest ts x → IsExpr k ts x
wider k ts x lt i = let e : (k - loosest) + loosest ≡ k = omega arith in subst (λ (j : ℕ). IsExpr j ts x) e (past_loosest (k - loosest) ts x i)

wider_found : (k n : ℕ) (ts : List Token) (x : Expr) (rest : List Token) → joined_level < k → Found (Exprs loosest) n ts x rest → Found (Exprs k) n ts x rest
wider_found k n ts x rest lt p = record {
  used = p.used;
  split = p.split;
  is = wider k p.used x lt p.is;
  shallow = p.shallow;
  ends = record {
    index = p.ends.index;
    arguments = p.ends.arguments;
    operators = λ j l. elim (cases_lt j joined_level) [ inl m ↦ p.ends.operators j (omega arith) | inr g ↦ over_none j rest (omega arith) ];
    choice = λ l. p.ends.choice (omega arith);
  };
}

pub record AllSound (n : ℕ) : Type 0 where
  pub exprs : (k : ℕ) → IsSound (Exprs k) n
  pub targets : IsSound Target n

none_sound : AllSound zero
unfolding expr_at target_at
none_sound = record { exprs = λ k ts x rest e. absurd (limit_reads_none begins_expr ts x rest e); targets = λ ts x rest e. absurd (limit_reads_none is_word ts x rest e) }

each_sound : (n k : ℕ) → AllSound n → IsSound (Exprs k) (suc n)
each_sound n k a ts x rest e =
    elim (cases_lt joined_level k) [
      | inl l ↦ wider_found k (suc n) ts x rest l (top_sound n a.exprs a.targets ts x rest (sym (at_choice n k ts l) ∙ e))
      | inr g ↦ binary_sound n a.exprs a.targets k ts x rest (omega arith) (sym (at_level n k ts (omega arith)) ∙ e)
    ]

all_sound : (n : ℕ) → AllSound n
all_sound zero = none_sound
all_sound (suc n) = let a = all_sound n in record { exprs = λ k. each_sound n k a; targets = place_sound n a.exprs a.targets }

-- What is read at a depth and a level is an expression of that level, no deeper.
pub expr_sound : (n k : ℕ) → IsSound (Exprs k) n
expr_sound n k = let a = all_sound n in a.exprs k

pub target_sound : (n : ℕ) → IsSound Target n
target_sound n = let a = all_sound n in a.targets
