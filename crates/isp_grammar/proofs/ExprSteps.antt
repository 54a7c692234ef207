-- Steps of reading expressions.
use Rattle.std.proofs.Common.{◌≡◌, ℕ, zero, suc, ◌+◌, ◌-◌, ◌≤◌, ◌<◌, max, Bool, true, false, ltb, List, [], ◌∷◌, ◌++◌, drop, Some, None, Ok, Err, refl, sym, ap, subst, ◌∙◌, arith, inl, inr, ◌⊎◌}
use Rattle.std.proofs.lemmas.Bool.{lt-ltb, le-ltb}
use Rattle.isp_base.specs.Types.{span_to}
use Rattle.isp_base.specs.declared.types.Span.{Span}
use Rattle.isp_lex.specs.Tokens.{starts_with}
use Rattle.isp_lex.specs.declared.token.Mark.TheVariants as mark
use Rattle.isp_lex.specs.declared.token.TokenKind.{TokenKind}
use Rattle.isp_lex.specs.declared.token.Token.{Token}
use Rattle.isp_grammar.proofs.Basics.{choice_fails}
use Rattle.isp_grammar.proofs.Choices.{limit_off, limit_deep}
use Rattle.isp_grammar.proofs.ListForms.{mapped_twice, limit_is}
use Rattle.isp_grammar.proofs.SimpleSteps.{mark_read}
use Rattle.isp_tree.specs.Depth.{depth, depth_of_argument, depth_of_all}
use Rattle.isp_grammar.specs.reader.Readers.{Read, Reader, ◌>>=◌, Fails, refusal, refuse, mark_at, both, at_limit, refusal_at_limit, is_word}
use Rattle.isp_grammar.specs.reader.Choices.{begins_with, either_at}
use Rattle.isp_grammar.specs.reader.Types.{begins_type, type_at}
use Rattle.isp_grammar.specs.reader.Exprs.{start_of, is_start, atom_of, begins_expr, operator_at, place_at, bracket_of, cast_at, closed_at, bracket_at, operand_from, operand_at, joined, more_at}
use Rattle.isp_grammar.specs.reader.Exprs.{binary_at, choice_of, parts_at, choice_at, level_from, level_at, expr_at, target_at, argument_by, argument_at}
use Rattle.isp_grammar.specs.Signs.{joined_level, loosest, first_span}
use Rattle.isp_tree.specs.Tree.{Expr, number, truth, program_index, program_count, place, call, brackets, cast, prefix, binary, choose, Place, variable, element, span_of_place, Argument, by_value, by_reference}
use Rattle.isp_tree.specs.Views.{argument_of, arguments_of}
use Rattle.isp_tree.specs.declared.expr.Argument as rust
use Rattle.isp_grammar.specs.declared.expr.Atom.{Atom}
use Rattle.isp_grammar.specs.declared.expr.Atom.TheVariants as atom
use Rattle.isp_grammar.specs.declared.expr.Start.{Start}
use Rattle.isp_grammar.specs.declared.expr.Start.TheVariants as by
use Rattle.isp_grammar.specs.declared.stop.Why.TheVariants.{Unexpected, TooDeep}
use Rattle.isp_grammar.specs.declared.stop.Refusal.{Refusal}
use Rattle.isp_grammar.specs.declared.stop.Stop.{Stop}
use Rattle.isp_grammar.specs.declared.stop.Stop.TheVariants as stops
use Rattle.isp_tree.specs.declared.expr.Operator.{Operator}

place_depth_pos : (p : Place) → 0 < depth (place p)
place_depth_pos (variable w) = omega arith
place_depth_pos (element w x s) = omega arith

pub depth_pos : (x : Expr) → 0 < depth x
depth_pos (number v s) = omega arith
depth_pos (truth b s) = omega arith
depth_pos (program_index s) = omega arith
depth_pos (program_count s) = omega arith
depth_pos (place p) = place_depth_pos p
depth_pos (call w xs s) = omega arith
depth_pos (brackets x s) = omega arith
depth_pos (cast t x s) = omega arith
depth_pos (prefix p x s) = omega arith
depth_pos (binary op x y s) = omega arith
depth_pos (choose x y z s) = omega arith

pub atom_depth : (a : Atom) (s : Span) → depth (atom_of a s) ≡ 1
atom_depth (atom.Number v) s = refl
atom_depth (atom.Truth b) s = refl
atom_depth atom.ProgramIndex s = refl
atom_depth atom.ProgramCount s = refl

-- one more at the end of the arguments
pub deepest_past : (xs : List Argument) (x : Argument) → depth_of_all (xs ++ x ∷ []) ≡ max (depth_of_all xs) (depth_of_argument x)
deepest_past [] x = omega arith
deepest_past (y ∷ ys) x = omega (arith, deepest_past ys x)

pub arguments_past : (xs : List rust.Argument) (x : rust.Argument) → arguments_of (xs ++ x ∷ []) ≡ arguments_of xs ++ argument_of x ∷ []
arguments_past [] x = refl
arguments_past (y ∷ ys) x = ap (λ (l : List Argument). argument_of y ∷ l) (arguments_past ys x)

pub depth_past : (xs : List rust.Argument) (x : rust.Argument) → depth_of_all (arguments_of (xs ++ x ∷ [])) ≡ max (depth_of_all (arguments_of xs)) (depth_of_argument (argument_of x))
depth_past xs x = ap depth_of_all (arguments_past xs x) ∙ deepest_past (arguments_of xs) (argument_of x)

at_limit_fails : {A : Type 0} (b : TokenKind → Bool) (ts : List Token) → (r : Refusal) × (at_limit {A = A} b ts ≡ Err r)
unfolding at_limit
at_limit_fails b [] = (refusal Unexpected [], refl)
at_limit_fails b (t ∷ ts) = choice_fails (b t.kind) (refusal TooDeep (t ∷ ts)) (refusal Unexpected (t ∷ ts))

-- ---- levels

pub at_level : (n k : ℕ) (ts : List Token) → k ≤ joined_level → expr_at (suc n) k ts ≡ binary_at (expr_at n) (target_at n) n k ts
unfolding expr_at level_at
at_level n k ts h = let b : ltb joined_level k ≡ false = le-ltb _ _ h in rw b refl

pub at_choice : (n k : ℕ) (ts : List Token) → joined_level < k → expr_at (suc n) k ts ≡ (binary_at (expr_at n) (target_at n) n joined_level ts >>= λ x. choice_at (expr_at n loosest) n x.0 x.1)
unfolding expr_at level_at
at_choice n k ts h = let b : ltb joined_level k ≡ true = lt-ltb _ _ h in rw b refl

-- a level above the operands, by the level below
pub level_step : (n k : ℕ) (ts : List Token) → 0 < k → k ≤ joined_level → expr_at n k ts ≡ (expr_at n (k - 1) ts >>= λ x. more_at (expr_at (n - 1) (k - 1)) (n - 1) (k - 1) (n - 1) x.0 x.1)
unfolding expr_at binary_at
level_step zero k ts h le = let p = at_limit_fails {A = Expr} begins_expr ts in p.1 ∙ rw p.1 refl
level_step (suc n) zero ts h le = absurd (omega arith)
level_step (suc n) (suc k) ts h le =
    let e : suc n - 1 ≡ n = omega arith in
    let d : suc k - 1 ≡ k = omega arith in
    let lower = at_level n k ts (omega arith) in
    at_level n (suc k) ts le ∙ rw (e, d, lower) refl

-- an expression, by the operands joined by operators
pub choice_step : (n : ℕ) (ts : List Token) → expr_at n loosest ts ≡ (expr_at n joined_level ts >>= λ x. choice_at (expr_at (n - 1) loosest) (n - 1) x.0 x.1)
unfolding expr_at
choice_step zero ts = let p = at_limit_fails {A = Expr} begins_expr ts in p.1 ∙ rw p.1 refl
choice_step (suc n) ts =
    let e : suc n - 1 ≡ n = omega arith in
    let lower = at_level n joined_level ts (omega arith) in
    at_choice n loosest ts (omega arith) ∙ rw (e, lower) refl

-- ---- operators

pub more_stop : (right : Reader Expr) (n k f : ℕ) (x : Expr) (ts : List Token) → operator_at (suc k) ts ≡ None → more_at right n k f x ts ≡ Ok (x, ts)
unfolding more_at
more_stop right n k zero x ts e = rw e refl
more_stop right n k (suc f) x ts e = rw e refl

pub more_deep : (right : Reader Expr) (n k f : ℕ) (x : Expr) (ts : List Token) (op : Operator) → operator_at (suc k) ts ≡ Some op → n < depth x → more_at right n k f x ts ≡ refuse TooDeep ts
unfolding more_at
more_deep right n k zero x ts op e h = let b : ltb n (depth x) ≡ true = lt-ltb _ _ h in rw (e, b) refl
more_deep right n k (suc f) x ts op e h = let b : ltb n (depth x) ≡ true = lt-ltb _ _ h in rw (e, b) refl

pub more_step : (right : Reader Expr) (n k f : ℕ) (x : Expr) (ts : List Token) (op : Operator) (y : Expr) (after : List Token) → n < f + depth x → depth x ≤ n → operator_at (suc k) ts ≡ Some op → right (drop 1 ts) ≡ Ok (y, after)
    → (g : ℕ) × (n < g + depth (joined x op y)) × (more_at right n k f x ts ≡ more_at right n k g (joined x op y) after)
unfolding more_at
more_step right n k zero x ts op y after lt le e r = absurd (omega arith)
more_step right n k (suc f) x ts op y after lt le e r = let b : ltb n (depth x) ≡ false = le-ltb _ _ le in (f, omega arith, rw (e, b, r) refl)

pub more_fails : (right : Reader Expr) (n k f : ℕ) (x : Expr) (ts : List Token) (op : Operator) (d : Refusal) → n < f + depth x → depth x ≤ n → operator_at (suc k) ts ≡ Some op → right (drop 1 ts) ≡ Err d → more_at right n k f x ts ≡ Err d
unfolding more_at
more_fails right n k zero x ts op d lt le e r = absurd (omega arith)
more_fails right n k (suc f) x ts op d lt le e r = let b : ltb n (depth x) ≡ false = le-ltb _ _ le in rw (e, b, r) refl

-- ---- a choice

pub choice_stops : (expr : Reader Expr) (n : ℕ) (x : Expr) (ts : List Token) → starts_with mark.Question ts ≡ false → choice_at expr n x ts ≡ Ok (x, ts)
unfolding choice_at
choice_stops expr n x ts s = rw s refl

pub choice_deep : (expr : Reader Expr) (n : ℕ) (x : Expr) (ts : List Token) → starts_with mark.Question ts ≡ true → n < depth x → choice_at expr n x ts ≡ refuse TooDeep ts
unfolding choice_at
choice_deep expr n x ts s h = let b : ltb n (depth x) ≡ true = lt-ltb _ _ h in rw (s, b) refl

pub choice_made : (expr : Reader Expr) (n : ℕ) (x : Expr) (ts : List Token) (p : Expr × (Span × Expr)) (after : List Token)
    → starts_with mark.Question ts ≡ true → depth x ≤ n → parts_at expr (drop 1 ts) ≡ Ok (p, after)
    → choice_at expr n x ts ≡ Ok (choice_of x p, after)
unfolding choice_at
choice_made expr n x ts p after s le r = let b : ltb n (depth x) ≡ false = le-ltb _ _ le in rw (s, b, r) refl

pub choice_fails_later : (expr : Reader Expr) (n : ℕ) (x : Expr) (ts : List Token) (d : Refusal) → starts_with mark.Question ts ≡ true → depth x ≤ n → parts_at expr (drop 1 ts) ≡ Err d → choice_at expr n x ts ≡ Err d
unfolding choice_at
choice_fails_later expr n x ts d s le r = let b : ltb n (depth x) ≡ false = le-ltb _ _ le in rw (s, b, r) refl

-- ---- the code's loop over operators, with n for the depth left and k for the level

pub first_fails : (e : Stop) (n k : ℕ) (ts : List Token) → 0 < k → k ≤ joined_level → Fails e (expr_at n (k - 1) ts) → Fails e (expr_at n k ts)
first_fails stops.Memory n k ts h le w = tt
first_fails (stops.Refused r) n k ts h le w = level_step n k ts h le ∙ rw w refl

pub loop_begins : (n k : ℕ) (ts : List Token) (x : Expr) (rest : List Token) → 0 < k → k ≤ joined_level → expr_at n (k - 1) ts ≡ Ok (x, rest) → more_at (expr_at (n - 1) (k - 1)) (n - 1) (k - 1) (n - 1) x rest ≡ expr_at n k ts
loop_begins n k ts x rest h le w = sym (level_step n k ts h le ∙ rw w refl)

above : (k : ℕ) → 0 < k → k ≡ suc (k - 1)
above k h = omega arith

pub loop_ends : (n k f : ℕ) (x : Expr) (ts : List Token) (total : Read Expr) → 0 < k → operator_at k ts ≡ None → more_at (expr_at (n - 1) (k - 1)) (n - 1) (k - 1) f x ts ≡ total → total ≡ Ok (x, ts)
loop_ends n k f x ts total h o e =
    let o' = subst (λ (j : ℕ). operator_at j ts ≡ None) (above k h) o in
    sym e ∙ more_stop (expr_at (n - 1) (k - 1)) (n - 1) (k - 1) f x ts o'

pub loop_deep : (n k f : ℕ) (x : Expr) (ts : List Token) (op : Operator) (total : Read Expr) → 0 < k → operator_at k ts ≡ Some op → n ≤ depth x → more_at (expr_at (n - 1) (k - 1)) (n - 1) (k - 1) f x ts ≡ total → total ≡ refuse TooDeep ts
loop_deep n k f x ts op total h o le e =
    let o' = subst (λ (j : ℕ). operator_at j ts ≡ Some op) (above k h) o in
    sym e ∙ more_deep (expr_at (n - 1) (k - 1)) (n - 1) (k - 1) f x ts op o' (omega (arith, depth_pos x))

pub loop_fails : (s : Stop) (n k f : ℕ) (x : Expr) (ts : List Token) (op : Operator) (total : Read Expr) → 0 < k → operator_at k ts ≡ Some op → depth x < n → n ≤ f + depth x → Fails s (expr_at (n - 1) (k - 1) (drop 1 ts))
    → more_at (expr_at (n - 1) (k - 1)) (n - 1) (k - 1) f x ts ≡ total → Fails s total
loop_fails stops.Memory n k f x ts op total h o lt le w e = tt
loop_fails (stops.Refused r) n k f x ts op total h o lt le w e =
    let o' = subst (λ (j : ℕ). operator_at j ts ≡ Some op) (above k h) o in
    sym e ∙ more_fails (expr_at (n - 1) (k - 1)) (n - 1) (k - 1) f x ts op r (omega arith) (omega arith) o' w

pub loop_step : (n k f : ℕ) (x : Expr) (ts : List Token) (op : Operator) (y : Expr) (after : List Token) (total : Read Expr) → 0 < k → operator_at k ts ≡ Some op → depth x < n → n ≤ f + depth x → expr_at (n - 1) (k - 1) (drop 1 ts) ≡ Ok (y, after)
    → more_at (expr_at (n - 1) (k - 1)) (n - 1) (k - 1) f x ts ≡ total
    → (g : ℕ) × (n ≤ g + depth (joined x op y)) × (more_at (expr_at (n - 1) (k - 1)) (n - 1) (k - 1) g (joined x op y) after ≡ total)
loop_step n k f x ts op y after total h o lt le w e =
    let o' = subst (λ (j : ℕ). operator_at j ts ≡ Some op) (above k h) o in
    let p = more_step (expr_at (n - 1) (k - 1)) (n - 1) (k - 1) f x ts op y after (omega arith) (omega arith) o' w in
    (p.0, omega (arith, p.1), sym p.2 ∙ e)

-- ---- the code's choice, with n for the depth left

pub test_fails : (e : Stop) (n : ℕ) (ts : List Token) → Fails e (expr_at n joined_level ts) → Fails e (expr_at n loosest ts)
test_fails stops.Memory n ts w = tt
test_fails (stops.Refused r) n ts w = choice_step n ts ∙ rw w refl

pub test_alone : (n : ℕ) (ts : List Token) (x : Expr) (rest : List Token) → expr_at n joined_level ts ≡ Ok (x, rest) → starts_with mark.Question rest ≡ false → expr_at n loosest ts ≡ Ok (x, rest)
test_alone n ts x rest w s = let p = choice_stops (expr_at (n - 1) loosest) (n - 1) x rest s in choice_step n ts ∙ rw (w, p) refl

pub test_deep : (n : ℕ) (ts : List Token) (x : Expr) (rest : List Token) → expr_at n joined_level ts ≡ Ok (x, rest) → starts_with mark.Question rest ≡ true → n ≤ depth x → expr_at n loosest ts ≡ refuse TooDeep rest
test_deep n ts x rest w s le = let p = choice_deep (expr_at (n - 1) loosest) (n - 1) x rest s (omega (arith, depth_pos x)) in choice_step n ts ∙ rw (w, p) refl

pub parts_fail : (e : Stop) (n : ℕ) (ts : List Token) (x : Expr) (rest : List Token) → expr_at n joined_level ts ≡ Ok (x, rest)
    → starts_with mark.Question rest ≡ true → depth x < n → Fails e (parts_at (expr_at (n - 1) loosest) (drop 1 rest))
    → Fails e (expr_at n loosest ts)
parts_fail stops.Memory n ts x rest w s lt f = tt
parts_fail (stops.Refused r) n ts x rest w s lt f = let p = choice_fails_later (expr_at (n - 1) loosest) (n - 1) x rest r s (omega arith) f in choice_step n ts ∙ rw (w, p) refl

pub parts_made : (n : ℕ) (ts : List Token) (x : Expr) (rest : List Token) (q : Expr × (Span × Expr)) (after : List Token)
    → expr_at n joined_level ts ≡ Ok (x, rest) → starts_with mark.Question rest ≡ true → depth x < n
    → parts_at (expr_at (n - 1) loosest) (drop 1 rest) ≡ Ok (q, after)
    → expr_at n loosest ts ≡ Ok (choice_of x q, after)
parts_made n ts x rest q after w s lt f = let p = choice_made (expr_at (n - 1) loosest) (n - 1) x rest q after s (omega arith) f in choice_step n ts ∙ rw (w, p) refl

-- ---- an operand, and a place

pub operand_step : (n : ℕ) (t : Token) (ts : List Token) → 0 < n → expr_at n zero (t ∷ ts) ≡ operand_from (expr_at (n - 1)) (target_at (n - 1)) (start_of t.kind) t ts
unfolding binary_at operand_at
operand_step zero t ts h = absurd (omega arith)
operand_step (suc n) t ts h = let e : suc n - 1 ≡ n = omega arith in at_level n zero (t ∷ ts) (omega arith) ∙ rw e refl

pub target_step : (n : ℕ) (ts : List Token) → 0 < n → target_at n ts ≡ place_at (expr_at (n - 1) loosest) ts
unfolding target_at
target_step zero ts h = absurd (omega arith)
target_step (suc n) ts h = let e : suc n - 1 ≡ n = omega arith in rw e refl

-- ---- brackets

pub bracket_typed : (inner : ℕ → Reader Expr) (o : Span) (ts : List Token) → begins_with begins_type ts ≡ true → bracket_at inner o ts ≡ cast_at inner o ts
unfolding bracket_at either_at cast_at
bracket_typed inner o ts e = rw e (mapped_twice inl (bracket_of o) (both type_at (both (mark_at mark.ParenClose) (inner zero)) ts))

pub bracket_closed : (inner : ℕ → Reader Expr) (o : Span) (ts : List Token) → begins_with begins_type ts ≡ false → bracket_at inner o ts ≡ closed_at inner o ts
unfolding bracket_at either_at closed_at
bracket_closed inner o ts e = rw e (mapped_twice inr (bracket_of o) (both (inner loosest) (mark_at mark.ParenClose) ts))

-- ---- where nothing begins, or the limit is reached

pub target_at_limit : (ts : List Token) → target_at zero ts ≡ Err (refusal_at_limit (begins_with is_word ts) ts)
unfolding target_at
target_at_limit ts = limit_is is_word ts

pub target_none : (u : List Token) → begins_with is_word u ≡ false → target_at zero u ≡ refuse Unexpected u
unfolding target_at
target_none u e = limit_off is_word u e

from_off : (inner : ℕ → Reader Expr) (target : Reader Place) (c : Start) (t : Token) (u : List Token) → is_start c ≡ false → operand_from inner target c t u ≡ refuse Unexpected (t ∷ u)
from_off inner target (by.Atom a) t u e = absurd cc
from_off inner target by.Word t u e = absurd cc
from_off inner target by.Bracket t u e = absurd cc
from_off inner target (by.Prefix p) t u e = absurd cc
from_off inner target by.Nothing t u e = refl

operand_off : (inner : ℕ → Reader Expr) (target : Reader Place) (u : List Token) → begins_with begins_expr u ≡ false → operand_at inner target u ≡ refuse Unexpected u
unfolding operand_at
operand_off inner target [] e = refl
operand_off inner target (t ∷ u) e = from_off inner target (start_of t.kind) t u e

pub binary_off : (inner : ℕ → Reader Expr) (target : Reader Place) (n k : ℕ) (u : List Token) → begins_with begins_expr u ≡ false → binary_at inner target n k u ≡ refuse Unexpected u
unfolding binary_at
binary_off inner target n zero u e = operand_off inner target u e
binary_off inner target n (suc k) u e = let p = binary_off inner target n k u e in rw p refl

level_off : (inner : ℕ → Reader Expr) (target : Reader Place) (n k : ℕ) (u : List Token) (b : Bool) → begins_with begins_expr u ≡ false → level_from inner target n k u b ≡ refuse Unexpected u
level_off inner target n k u true e = let p = binary_off inner target n joined_level u e in rw p refl
level_off inner target n k u false e = binary_off inner target n k u e

-- where no expression begins, none is read, at any depth and level
pub expr_off : (m k : ℕ) (u : List Token) → begins_with begins_expr u ≡ false → expr_at m k u ≡ refuse Unexpected u
unfolding expr_at level_at
expr_off zero k u e = limit_off begins_expr u e
expr_off (suc m) k u e = level_off (expr_at m) (target_at m) m k u (ltb joined_level k) e

pub expr_deep : (k : ℕ) (u : List Token) → begins_with begins_expr u ≡ true → expr_at zero k u ≡ refuse TooDeep u
unfolding expr_at
expr_deep k u e = limit_deep begins_expr u e

-- ---- an argument

referred : (s : Span) (read : Read Place) → ◌≡◌ {A = Read Argument}
    (◌>>=◌ {B = ((Span × Place) ⊎ Expr) × List Token} (◌>>=◌ {B = (Span × Place) × List Token} read (λ y. Ok ((s, y.0), y.1)))
    (λ x. Ok (inl x.0, x.1)) >>= λ p. Ok (argument_by p.0, p.1))
    (read >>= λ x. Ok (by_reference x.0 (span_to s (span_of_place x.0)), x.1))
referred s (Ok x) = refl
referred s (Err e) = refl

-- a reference, where `&` stands
pub argument_referred : (expr : Reader Expr) (target : Reader Place) (ts : List Token) → starts_with mark.And ts ≡ true
    → argument_at expr target ts ≡ (target (drop 1 ts) >>= λ x. Ok (by_reference x.0 (span_to (first_span ts) (span_of_place x.0)), x.1))
unfolding argument_at either_at
argument_referred expr target [] e = absurd cc
argument_referred expr target (t ∷ ts) e = rw (e, mark_read mark.And t ts e) (referred t.span (target ts))

valued : (read : Read Expr) → ◌≡◌ {A = Read Argument} (◌>>=◌ {B = ((Span × Place) ⊎ Expr) × List Token} read (λ x. Ok (inr x.0, x.1)) >>= λ p. Ok (argument_by p.0, p.1)) (read >>= λ x. Ok (by_value x.0, x.1))
valued (Ok x) = refl
valued (Err e) = refl

-- a value, where none stands
pub argument_valued : (expr : Reader Expr) (target : Reader Place) (ts : List Token) → starts_with mark.And ts ≡ false → argument_at expr target ts ≡ (expr ts >>= λ x. Ok (by_value x.0, x.1))
unfolding argument_at either_at
argument_valued expr target [] e = valued (expr [])
argument_valued expr target (t ∷ ts) e = rw e (valued (expr (t ∷ ts)))
