-- Expressions, assignments and steps by one, as they stand before a semicolon: what is read is what they are.
use Rattle.std.proofs.Common.{◌≡◌, ℕ, zero, true, false, List, [], ◌∷◌, ◌++◌, Option, Some, None, Ok, refl, sym, ap, subst, ◌∙◌, append_assoc, arith, inl, inr, ◌⊎◌}
use Rattle.std.proofs.lemmas.Bool.{false≢true, false_from_ne_true}
use Rattle.isp_base.specs.declared.types.Span.{Span}
use Rattle.isp_lex.specs.Tokens.{at}
use Rattle.isp_lex.specs.declared.token.Mark.{Mark}
use Rattle.isp_lex.specs.declared.token.Mark.TheVariants as mark
use Rattle.isp_lex.specs.declared.token.TokenKind.{TokenKind}
use Rattle.isp_lex.specs.declared.token.TokenKind.TheVariants as kind
use Rattle.isp_lex.specs.declared.token.Token.{Token}
use Rattle.isp_grammar.proofs.Choices.{Sign, Signs, sign_sound, sign_complete, sign_refused, Tail, Joins, tail_sound, tail_complete, tail_by_head, tail_refused, Either, Parts, either_sound, either_complete, either_by_head, either_refused}
use Rattle.isp_grammar.proofs.Declarations.{some_expr}
use Rattle.isp_grammar.proofs.ExprLaws.{exprs_sound, exprs_complete, exprs_by_head, exprs_refused}
use Rattle.isp_grammar.proofs.Exprs.{Exprs, closes_ends}
use Rattle.isp_grammar.proofs.ExprsComplete.{expr_first}
use Rattle.isp_grammar.proofs.Forms.{Form, IsSound, IsComplete, Both, Free, Follows, follows, both_sound, both_complete}
use Rattle.isp_grammar.proofs.FormsComplete.{EndsByHead}
use Rattle.isp_grammar.proofs.Refused.{IsRefused, both_refused}
use Rattle.isp_grammar.proofs.Starts.{begins_off, change_found, change_again, assignment_found, assignment_again}
use Rattle.isp_tree.specs.Depth.{depth_of_simple}
use Rattle.isp_grammar.specs.Grammar.{IsExpr, IsSimple, is_value, is_assign, is_change_after, is_change_before}
use Rattle.isp_grammar.specs.reader.Readers.{◌>>=◌}
use Rattle.isp_grammar.specs.reader.Choices.{begins_with}
use Rattle.isp_grammar.specs.reader.Exprs.{begins_expr}
use Rattle.isp_grammar.specs.reader.Stmts.{stands, assignment_of, change_of, is_assignment, is_change, is_ending, Ending, ending_at, ended_from, simple_from, simple_at}
use Rattle.isp_grammar.specs.Signs.{loosest, assignment_mark, change_mark}
use Rattle.isp_tree.specs.Tree.{Expr, Simple}
use Rattle.isp_tree.specs.declared.stmt.Assignment.{Assignment}
use Rattle.isp_tree.specs.declared.stmt.Assignment.TheVariants as assignment
use Rattle.isp_tree.specs.declared.stmt.Change.{Change}
use Rattle.isp_tree.specs.declared.stmt.Change.TheVariants.{Increment, Decrement}

-- ---- signs

abbrev pub change_kind : Change → TokenKind
change_kind c = kind.Mark (change_mark c)

abbrev pub assignment_kind : Assignment → TokenKind
assignment_kind a = kind.Mark (assignment_mark a)

abbrev pub Changing : Form (Change × Span)
Changing = Sign change_of change_kind

abbrev pub Assigning : Form (Assignment × Span)
Assigning = Sign assignment_of assignment_kind

changes : Signs change_of change_kind
changes = record { found = λ k c e. change_found k c e; again = λ c. change_again c; some = Increment }

assignments : Signs assignment_of assignment_kind
assignments = record { found = λ k c e. assignment_found k c e; again = λ c. assignment_again c; some = assignment.Replace }

stands_is : {A : Type 0} (o : Option A) → stands o ≡ true → (x : A) × (o ≡ Some x)
stands_is None e = absurd (false≢true e)
stands_is (Some x) e = (x, refl)

-- the token of a step by one is no first token of an expression, nor a sign of assignment
pub change_is : (k : TokenKind) → is_change k ≡ true → (c : Change) × (k ≡ change_kind c)
change_is k e = let p = stands_is (change_of k) e in (p.0, change_found k p.0 p.1)

change_no_expr : (c : Change) → begins_expr (change_kind c) ≡ false
change_no_expr Increment = refl
change_no_expr Decrement = refl

change_no_assignment : (c : Change) → is_assignment (change_kind c) ≡ false
change_no_assignment Increment = refl
change_no_assignment Decrement = refl

pub expr_no_change : (k : TokenKind) → begins_expr k ≡ true → is_change k ≡ false
expr_no_change k e = false_from_ne_true (is_change k) (λ c. let p = change_is k c in false≢true (sym (change_no_expr p.0) ∙ ap begins_expr (sym p.1) ∙ e))

change_begins : (c : Change) → is_change (change_kind c) ≡ true
change_begins Increment = refl
change_begins Decrement = refl

change_ends : (c : Change) → is_ending (change_kind c) ≡ true
change_ends Increment = refl
change_ends Decrement = refl

assignment_begins : (c : Assignment) → is_assignment (assignment_kind c) ≡ true
assignment_begins c = ap (λ (o : Option Assignment). stands o) (assignment_again c)

assignment_ends : (c : Assignment) → is_ending (assignment_kind c) ≡ true
assignment_ends c = rw (assignment_again c) refl

change_may_follow : (k : ℕ) (x : Expr) (c : Change) (s : Span) (rest : List Token) → (Exprs k).ends x (at (change_mark c) s ∷ rest)
change_may_follow k x Increment s rest = closes_ends k mark.Increment refl x s rest
change_may_follow k x Decrement s rest = closes_ends k mark.Decrement refl x s rest

assignment_may_follow : (k : ℕ) (x : Expr) (c : Assignment) (s : Span) (rest : List Token) → (Exprs k).ends x (at (assignment_mark c) s ∷ rest)
assignment_may_follow k x assignment.Replace s rest = closes_ends k mark.Assign refl x s rest
assignment_may_follow k x assignment.Add s rest = closes_ends k mark.PlusAssign refl x s rest
assignment_may_follow k x assignment.Subtract s rest = closes_ends k mark.MinusAssign refl x s rest
assignment_may_follow k x assignment.Multiply s rest = closes_ends k mark.StarAssign refl x s rest
assignment_may_follow k x assignment.Divide s rest = closes_ends k mark.SlashAssign refl x s rest
assignment_may_follow k x assignment.Remainder s rest = closes_ends k mark.PercentAssign refl x s rest
assignment_may_follow k x assignment.And s rest = closes_ends k mark.AndAssign refl x s rest
assignment_may_follow k x assignment.Or s rest = closes_ends k mark.OrAssign refl x s rest
assignment_may_follow k x assignment.Xor s rest = closes_ends k mark.XorAssign refl x s rest
assignment_may_follow k x assignment.ShiftLeft s rest = closes_ends k mark.ShiftLeftAssign refl x s rest
assignment_may_follow k x assignment.ShiftRight s rest = closes_ends k mark.ShiftRightAssign refl x s rest

-- ---- an assignment's sign and value, or a step by one

abbrev pub Assigned : Form ((Assignment × Span) × Expr)
Assigned = Both Assigning (Exprs loosest) Free

abbrev pub EndingForm : Form Ending
EndingForm = Either is_assignment Assigned Changing

assigned_then : Follows Assigning (Exprs loosest) Free
assigned_then = follows Assigning (Exprs loosest) (λ x y b rest i h. tt) (some_expr loosest).0 (some_expr loosest).1

assigned_is : (a : List Token) (x : (Assignment × Span) × Expr) → Assigned.is a x → (b : List Token) × (a ≡ at (assignment_mark x.0.0) x.0.1 ∷ b) × IsExpr loosest b x.1
assigned_is a x i = (i.1, i.2 ∙ ap (λ (l : List Token). l ++ i.1) i.3, i.4)

ending_parts : Parts is_assignment Assigned Changing
ending_parts = record {
  first = λ a x rest i. let j = assigned_is a x i in subst (λ (l : List Token). begins_with is_assignment (l ++ rest) ≡ true) (sym j.1) (assignment_begins x.0.0);
  other = λ a y rest i. subst (λ (l : List Token). begins_with is_assignment (l ++ rest) ≡ false) (sym i) (change_no_assignment y.0);
}

assigned_sound : (n : ℕ) → IsSound Assigned n
assigned_sound n = both_sound Assigning (Exprs loosest) Free assigned_then n (sign_sound assignment_of assignment_kind assignments n) (exprs_sound loosest n)

assigned_complete : (n : ℕ) → IsComplete Assigned n
assigned_complete n = both_complete Assigning (Exprs loosest) Free assigned_then n (sign_complete assignment_of assignment_kind assignments n) (exprs_complete loosest n)

assigned_refused : (n : ℕ) → IsRefused Assigned n
assigned_refused n =
    both_refused Assigning (Exprs loosest) Free assigned_then n (λ x a b e h. tt) (sign_complete assignment_of assignment_kind assignments) (sign_sound assignment_of assignment_kind assignments n)
    (sign_refused assignment_of assignment_kind assignments n) (exprs_refused loosest n)

ending_sound : (n : ℕ) → IsSound EndingForm n
ending_sound n = either_sound is_assignment Assigned Changing n (assigned_sound n) (sign_sound change_of change_kind changes n)

ending_complete : (n : ℕ) → IsComplete EndingForm n
ending_complete n = either_complete is_assignment Assigned Changing ending_parts n (assigned_complete n) (sign_complete change_of change_kind changes n)

ending_refused : (n : ℕ) → IsRefused EndingForm n
ending_refused n = either_refused is_assignment Assigned Changing n (assigned_refused n) (sign_refused change_of change_kind changes n)

ending_by_head : EndsByHead EndingForm
ending_by_head = either_by_head is_assignment Assigned Changing (λ x a b e h. exprs_by_head loosest x.1 a b e h) (λ x a b e h. tt)

-- ---- the parts of what stands before a semicolon

abbrev pub Changed : Form ((Change × Span) × Expr)
Changed = Both Changing (Exprs zero) Free

abbrev pub Ended : Form (Expr × Option Ending)
Ended = Tail (Exprs loosest) is_ending EndingForm

abbrev pub SimpleTree : Type 0
SimpleTree = ((Change × Span) × Expr) ⊎ (Expr × Option Ending)

abbrev pub SimpleParts : Form SimpleTree
SimpleParts = Either is_change Changed Ended

changed_then : Follows Changing (Exprs zero) Free
changed_then = follows Changing (Exprs zero) (λ x y b rest i h. tt) (some_expr zero).0 (some_expr zero).1

changed_is : (a : List Token) (x : (Change × Span) × Expr) → Changed.is a x → (b : List Token) × (a ≡ at (change_mark x.0.0) x.0.1 ∷ b) × IsExpr zero b x.1
changed_is a x i = (i.1, i.2 ∙ ap (λ (l : List Token). l ++ i.1) i.3, i.4)

ending_joins : Joins (Exprs loosest) is_ending EndingForm
ending_joins = record { begins = λ d y rest i. begun d y rest i; ends = λ x d y rest i. follow x d y rest i }
  where
    begun : (d : List Token) (y : Ending) (rest : List Token) → EndingForm.is d y → begins_with is_ending (d ++ rest) ≡ true
    begun d (inl y) rest i = let j = assigned_is d y i in subst (λ (l : List Token). begins_with is_ending (l ++ rest) ≡ true) (sym j.1) (assignment_ends y.0.0)
    begun d (inr y) rest i = subst (λ (l : List Token). begins_with is_ending (l ++ rest) ≡ true) (sym i) (change_ends y.0)

    follow : (x : Expr) (d : List Token) (y : Ending) (rest : List Token) → EndingForm.is d y → (Exprs loosest).ends x (d ++ rest)
    follow x d (inl y) rest i = let j = assigned_is d y i in subst (λ (l : List Token). (Exprs loosest).ends x (l ++ rest)) (sym j.1) (assignment_may_follow loosest x y.0.0 y.0.1 (j.0 ++ rest))
    follow x d (inr y) rest i = subst (λ (l : List Token). (Exprs loosest).ends x (l ++ rest)) (sym i) (change_may_follow loosest x y.0 y.1 rest)

ended_starts : (a : List Token) (y : Expr × Option Ending) (rest : List Token) → Ended.is a y → begins_with begins_expr (a ++ rest) ≡ true
ended_starts a (x, None) rest i = expr_first i rest
ended_starts a (x, Some y) rest i =
    let e : a ++ rest ≡ i.0 ++ (i.1 ++ rest) = ap (λ (l : List Token). l ++ rest) i.2 ∙ append_assoc i.0 i.1 rest in
    ap (λ (l : List Token). begins_with begins_expr l) e ∙ expr_first i.3 (i.1 ++ rest)

simple_parts : Parts is_change Changed Ended
simple_parts = record {
  first = λ a x rest i. let j = changed_is a x i in subst (λ (l : List Token). begins_with is_change (l ++ rest) ≡ true) (sym j.1) (change_begins x.0.0);
  other = λ a y rest i. begins_off begins_expr is_change expr_no_change (a ++ rest) (ended_starts a y rest i);
}

changed_sound : (n : ℕ) → IsSound Changed n
changed_sound n = both_sound Changing (Exprs zero) Free changed_then n (sign_sound change_of change_kind changes n) (exprs_sound zero n)

changed_complete : (n : ℕ) → IsComplete Changed n
changed_complete n = both_complete Changing (Exprs zero) Free changed_then n (sign_complete change_of change_kind changes n) (exprs_complete zero n)

changed_refused : (n : ℕ) → IsRefused Changed n
changed_refused n =
    both_refused Changing (Exprs zero) Free changed_then n (λ x a b e h. tt) (sign_complete change_of change_kind changes) (sign_sound change_of change_kind changes n)
    (sign_refused change_of change_kind changes n) (exprs_refused zero n)

ended_sound : (n : ℕ) → IsSound Ended n
ended_sound n = tail_sound (Exprs loosest) is_ending EndingForm n (exprs_sound loosest n) (ending_sound n)

ended_complete : (n : ℕ) → IsComplete Ended n
ended_complete n = tail_complete (Exprs loosest) is_ending EndingForm ending_joins n (exprs_complete loosest n) (ending_complete n)

ended_refused : (n : ℕ) → IsRefused Ended n
ended_refused n = tail_refused (Exprs loosest) is_ending EndingForm n (exprs_by_head loosest) (exprs_complete loosest) (exprs_sound loosest n) (exprs_refused loosest n) (ending_refused n)

pub simple_sound : (n : ℕ) → IsSound SimpleParts n
simple_sound n = either_sound is_change Changed Ended n (changed_sound n) (ended_sound n)

pub simple_complete : (n : ℕ) → IsComplete SimpleParts n
simple_complete n = either_complete is_change Changed Ended simple_parts n (changed_complete n) (ended_complete n)

pub simple_refused : (n : ℕ) → IsRefused SimpleParts n
simple_refused n = either_refused is_change Changed Ended n (changed_refused n) (ended_refused n)

pub simple_by_head : EndsByHead SimpleParts
simple_by_head = either_by_head is_change Changed Ended (λ x a b e h. exprs_by_head zero x.1 a b e h) (tail_by_head (Exprs loosest) is_ending EndingForm (exprs_by_head loosest) ending_by_head)

-- ---- the tree of the parts

pub simple_reads : (n : ℕ) (ts : List Token) → simple_at n ts ≡ (SimpleParts.read n ts >>= λ p. Ok (simple_from p.0, p.1))
unfolding simple_at ending_at
simple_reads n ts = refl

pub simple_makes : (ts : List Token) (p : SimpleTree) → SimpleParts.is ts p → IsSimple ts (simple_from p)
simple_makes ts (inl p) i = let j = changed_is ts p i in subst (λ (l : List Token). IsSimple l (simple_from (inl p))) (sym j.1) (is_change_before p.0.0 p.0.1 j.0 p.1 j.2)
simple_makes ts (inr (x, None)) i = is_value ts x i
simple_makes ts (inr (x, Some (inl e))) i =
    let j = assigned_is i.1 e i.4 in
    subst (λ (l : List Token). IsSimple l (ended_from x (Some (inl e)))) (sym (i.2 ∙ ap (λ (l : List Token). i.0 ++ l) j.1)) (is_assign e.0.0 e.0.1 i.0 j.0 x e.1 i.3 j.2)
simple_makes ts (inr (x, Some (inr e))) i =
    subst (λ (l : List Token). IsSimple l (ended_from x (Some (inr e)))) (sym (i.2 ∙ ap (λ (l : List Token). i.0 ++ l) i.4)) (is_change_after e.0 e.1 i.0 x i.3)

pub simple_unmakes : {ts : List Token} {y : Simple} → IsSimple ts y → (p : SimpleTree) × SimpleParts.is ts p × (simple_from p ≡ y)
simple_unmakes (is_value ts x i) = (inr (x, None), i, refl)
simple_unmakes (is_assign op s a b t x i j) = (inr (t, Some (inl ((op, s), x))), (a, at (assignment_mark op) s ∷ b, refl, i, (at (assignment_mark op) s ∷ [], b, refl, refl, j, tt)), refl)
simple_unmakes (is_change_after c s a t i) = (inr (t, Some (inr (c, s))), (a, at (change_mark c) s ∷ [], refl, i, refl), refl)
simple_unmakes (is_change_before c s a t i) = (inl ((c, s), t), (at (change_mark c) s ∷ [], a, refl, refl, i, tt), refl)

pub simple_deep : (p : SimpleTree) → depth_of_simple (simple_from p) ≡ SimpleParts.deep p
simple_deep (inl p) = omega arith
simple_deep (inr (x, None)) = refl
simple_deep (inr (x, Some (inl e))) = omega arith
simple_deep (inr (x, Some (inr e))) = omega arith

-- a semicolon or a bracket may follow
pub simple_end : (m : Mark) → is_ending (kind.Mark m) ≡ false → ((k : ℕ) (x : Expr) (s : Span) (rest : List Token) → (Exprs k).ends x (at m s ∷ rest)) → (p : SimpleTree) (s : Span) (rest : List Token) → SimpleParts.ends p (at m s ∷ rest)
simple_end m c f (inl p) s rest = f zero p.1 s rest
simple_end m c f (inr (x, None)) s rest = (f loosest x s rest, c)
simple_end m c f (inr (x, Some (inl e))) s rest = f loosest e.1 s rest
simple_end m c f (inr (x, Some (inr e))) s rest = tt

-- how it begins
pub simple_starts : (a : List Token) (p : SimpleTree) (rest : List Token) → SimpleParts.is a p → (begins_with begins_expr (a ++ rest) ≡ true) ⊎ (begins_with is_change (a ++ rest) ≡ true)
simple_starts a (inl p) rest i = inr (simple_parts.first a p rest i)
simple_starts a (inr p) rest i = inl (ended_starts a p rest i)
