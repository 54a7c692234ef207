-- What reading an assignment or a step by one comes to, by the sign that was found.
use Rattle.std.proofs.Common.{◌≡◌, ◌≤◌, ◌<◌, ℕ, length, arith, sym, true, false, List, [], ◌∷◌, drop, Option, Some, None, Result, Ok, Err, refl, ap, inl, inr, ◌⊎◌, IfOk, IfErr, Box, Global, Bor}
use Rattle.isp_base.specs.declared.types.Span.{Span}
use Rattle.isp_lex.specs.Tokens.{is_mark, starts_with}
use Rattle.isp_lex.specs.declared.token.Mark.{Mark}
use Rattle.isp_lex.specs.declared.token.Token.{Token}
use Rattle.isp_tree.specs.Tree.{Expr, Simple}
use Rattle.isp_tree.specs.declared.stmt.Assignment.{Assignment}
use Rattle.isp_tree.specs.declared.stmt.Change.{Change}
use Rattle.isp_grammar.specs.Signs.{loosest, first_span}
use Rattle.isp_grammar.specs.reader.Readers.{Read, ◌>>=◌, mark_at, both, Fails, Gives}
use Rattle.isp_grammar.specs.reader.Choices.{begins_with, sign_at, found_from, found_at, perhaps_at, either_at}
use Rattle.isp_grammar.specs.reader.Exprs.{expr_at}
use Rattle.isp_grammar.specs.reader.Stmts.{stands, assignment_of, change_of, is_assignment, is_change, is_ending, Ending, ending_at, simple_from, simple_at}
use Rattle.isp_grammar.specs.declared.stop.Refusal.{Refusal}
use Rattle.isp_grammar.specs.declared.stop.Stop.{Stop}
use Rattle.isp_grammar.specs.declared.stop.Stop.TheVariants as stops

found_is : {C : Type 0} (o : Option C) (p : Span) (s : C × Span) → found_from o p ≡ Some s → (o ≡ Some s.0) × (p ≡ s.1)
found_is None p s e = absurd cc
found_is (Some c) p s e = (cc, cc)

found_none : {C : Type 0} (o : Option C) (p : Span) → ◌≡◌ {A = Option (C × Span)} (found_from o p) None → o ≡ None
found_none None p e = refl
found_none (Some c) p e = absurd cc

abbrev Stepped : Type 0
Stepped = ((Change × Span) × Expr) ⊎ (Expr × Option Ending)

behind_sign : (s : Assignment × Span) (read : Read Expr)
    → ◌≡◌ {A = Read (Option Ending)} (◌>>=◌ {B = Ending × List Token}
    (◌>>=◌ {B = ((Assignment × Span) × Expr) × List Token} read (λ y. Ok ((s, y.0), y.1))) (λ x. Ok (inl x.0, x.1)) >>= λ x. Ok (Some x.0, x.1))
    (read >>= λ x. Ok (Some (inl (s, x.0)), x.1))
behind_sign s (Ok x) = refl
behind_sign s (Err e) = refl

behind_step : (s : Change × Span) (read : Read Expr)
    → ◌≡◌ {A = Read Simple} (◌>>=◌ {B = Stepped × List Token} (◌>>=◌ {B = ((Change × Span) × Expr) × List Token} read (λ y. Ok ((s, y.0), y.1)))
    (λ x. Ok (inl x.0, x.1)) >>= λ p. Ok (simple_from p.0, p.1)) (read >>= λ x. Ok (simple_from (inl (s, x.0)), x.1))
behind_step s (Ok x) = refl
behind_step s (Err e) = refl

as_other : (read : Read (Expr × Option Ending))
    → ◌≡◌ {A = Read Simple} (◌>>=◌ {B = Stepped × List Token} read (λ x. Ok (inr x.0, x.1)) >>= λ p. Ok (simple_from p.0, p.1)) (read >>= λ p. Ok (simple_from (inr p.0), p.1))
as_other (Ok x) = refl
as_other (Err e) = refl

-- an assignment and its value
pub end_assigned : (n : ℕ) (ts : List Token) (s : Assignment × Span) → found_at assignment_of ts ≡ Some s
    → perhaps_at is_ending (ending_at n) ts ≡ (expr_at n loosest (drop 1 ts) >>= λ x. Ok (Some (inl (s, x.0)), x.1))
unfolding perhaps_at ending_at either_at sign_at
end_assigned n [] s e = absurd cc
end_assigned n (t ∷ ts) s e =
    let f = found_is (assignment_of t.kind) t.span s e in
    let a : begins_with is_ending (t ∷ ts) ≡ true = rw f.0 refl in
    let b : begins_with is_assignment (t ∷ ts) ≡ true = ap stands f.0 in
    rw (a, b, f.0, f.1) (behind_sign s (expr_at n loosest ts))

pub end_changed : (n : ℕ) (ts : List Token) (s : Change × Span) → ◌≡◌ {A = Option (Assignment × Span)} (found_at assignment_of ts) None → found_at change_of ts ≡ Some s
    → perhaps_at is_ending (ending_at n) ts ≡ Ok (Some (inr s), drop 1 ts)
unfolding perhaps_at ending_at either_at sign_at
end_changed n [] s a e = absurd cc
end_changed n (t ∷ ts) s a e =
    let f = found_is (change_of t.kind) t.span s e in
    let none = found_none (assignment_of t.kind) t.span a in
    let b : begins_with is_ending (t ∷ ts) ≡ true = rw (none, f.0) refl in
    let d : begins_with is_assignment (t ∷ ts) ≡ false = ap stands none in
    rw (b, d, f.0, f.1) refl

pub end_none : (n : ℕ) (ts : List Token) → ◌≡◌ {A = Option (Assignment × Span)} (found_at assignment_of ts) None → ◌≡◌ {A = Option (Change × Span)} (found_at change_of ts) None
    → perhaps_at is_ending (ending_at n) ts ≡ Ok (None, ts)
unfolding perhaps_at
end_none n [] a e = refl
end_none n (t ∷ ts) a e = rw (found_none (assignment_of t.kind) t.span a, found_none (change_of t.kind) t.span e) refl

-- a step by one before its target
pub simple_changed : (n : ℕ) (ts : List Token) (s : Change × Span) → found_at change_of ts ≡ Some s
    → simple_at n ts ≡ (expr_at n 0 (drop 1 ts) >>= λ x. Ok (simple_from (inl (s, x.0)), x.1))
unfolding simple_at either_at sign_at
simple_changed n [] s e = absurd cc
simple_changed n (t ∷ ts) s e =
    let f = found_is (change_of t.kind) t.span s e in
    let b : begins_with is_change (t ∷ ts) ≡ true = ap stands f.0 in
    rw (b, f.0, f.1) (behind_step s (expr_at n 0 ts))

pub simple_other : (n : ℕ) (ts : List Token) → ◌≡◌ {A = Option (Change × Span)} (found_at change_of ts) None
    → simple_at n ts ≡ (both (expr_at n loosest) (perhaps_at is_ending (ending_at n)) ts >>= λ p. Ok (simple_from (inr p.0), p.1))
unfolding simple_at either_at
simple_other n [] e = as_other (both (expr_at n loosest) (perhaps_at is_ending (ending_at n)) [])
simple_other n (t ∷ ts) e = rw (found_none (change_of t.kind) t.span e) (as_other (both (expr_at n loosest) (perhaps_at is_ending (ending_at n)) (t ∷ ts)))

pub fails_then : {A B : Type 0} (e : Stop) (read : Result A Refusal) (f : A → Result B Refusal) → Fails e read → Fails e (read >>= f)
fails_then stops.Memory read f h = tt
fails_then (stops.Refused r) read f h = rw h refl

-- what a box made of a value gives
pub boxed_gives : {T S : Type 0} (view : T → S) (result : Result (Box T Global × Bor (List Token)) Stop) (v : T) (rest : List Token)
    → IfOk result (λ r. r.0.value ≡ v) → IfOk result (λ r. r.1.now ≡ rest) → IfErr result (λ e. e ≡ stops.Memory)
    → Gives {Y = S × List Token} (λ (r : Box T Global × Bor (List Token)). (view r.0.value, r.1.now)) result (Ok (view v, rest))
boxed_gives view (Ok x) v rest a b m = rw (a, b) refl
boxed_gives view (Err e) v rest a b m = rw m tt

-- the same where a call makes the value
pub boxed_made : {T S : Type 0} (view : T → S) (result : Result (Box T Global × Bor (List Token)) Stop) (v : S) (rest : List Token)
    → IfOk result (λ r. view r.0.value ≡ v) → IfOk result (λ r. r.1.now ≡ rest) → IfErr result (λ e. e ≡ stops.Memory)
    → Gives {Y = S × List Token} (λ (r : Box T Global × Bor (List Token)). (view r.0.value, r.1.now)) result (Ok (v, rest))
boxed_made view (Ok x) v rest a b m = rw (a, b) refl
boxed_made view (Err e) v rest a b m = rw m tt

-- what a call gives that puts a value in a box, with its depth
pub made_gives : {T S : Type 0} (view : T → S) (result : Result (Box T Global × ℕ × Bor (List Token)) Stop) (v : S) (rest : List Token)
    → IfOk result (λ r. view r.0.value ≡ v) → IfOk result (λ r. r.2.now ≡ rest) → IfErr result (λ e. e ≡ stops.Memory)
    → Gives {Y = S × List Token} (λ (r : Box T Global × ℕ × Bor (List Token)). (view r.0.value, r.2.now)) result (Ok (v, rest))
made_gives view (Ok x) v rest a b m = rw (a, b) refl
made_gives view (Err e) v rest a b m = rw m tt

-- the mark that stands first
pub mark_read : (m : Mark) (t : Token) (ts : List Token) → is_mark m t.kind ≡ true → mark_at m (t ∷ ts) ≡ Ok (t.span, ts)
unfolding mark_at
mark_read m t ts e = rw e refl

pub mark_here : (m : Mark) (ts : List Token) → starts_with m ts ≡ true → mark_at m ts ≡ Ok (first_span ts, drop 1 ts)
mark_here m [] e = absurd cc
mark_here m (t ∷ ts) e = mark_read m t ts e

-- ---- what is left is shorter, where a reading goes on after a first token

pub shorter : {X : Type 0} (result : Result (X × Bor (List Token)) Stop) (t : Token) (rest tokens : List Token) → tokens ≡ t ∷ rest
    → IfOk result (λ r. length r.1.now < length rest) → IfOk result (λ r. length r.1.now < length tokens)
shorter (Ok r) t rest tokens w h = let k : length r.1.now < length rest = h in rw w (omega arith)
shorter (Err e) t rest tokens w h = tt

pub shorter_found : {X : Type 0} (result : Result (X × ℕ × Bor (List Token)) Stop) (t : Token) (rest tokens : List Token) → tokens ≡ t ∷ rest
    → IfOk result (λ r. length r.2.now < length rest) → IfOk result (λ r. length r.2.now < length tokens)
shorter_found (Ok r) t rest tokens w h = let k : length r.2.now < length rest = h in rw w (omega arith)
shorter_found (Err e) t rest tokens w h = tt

pub shorter_made : {X : Type 0} (result : Result (X × ℕ × Bor (List Token)) Stop) (t : Token) (rest tokens : List Token) → tokens ≡ t ∷ rest
    → IfOk result (λ r. r.2.now ≡ rest) → IfOk result (λ r. length r.2.now < length tokens)
shorter_made (Ok r) t rest tokens w h = rw (w, h) (omega arith)
shorter_made (Err e) t rest tokens w h = tt

pub bounded_made : {X : Type 0} (result : Result (X × ℕ × Bor (List Token)) Stop) (h n : ℕ) → h ≤ n → IfOk result (λ r. r.1 ≡ h) → IfOk result (λ r. r.1 ≤ n)
bounded_made (Ok r) h n le e = rw e le
bounded_made (Err e) h n le f = tt

pub height_made : {T S : Type 0} (view : T → S) (deep : S → ℕ) (result : Result (Box T Global × ℕ × Bor (List Token)) Stop) (v : S) (h : ℕ) → deep v ≡ h
    → IfOk result (λ r. view r.0.value ≡ v) → IfOk result (λ r. r.1 ≡ h) → IfOk result (λ r. r.1 ≡ deep (view r.0.value))
height_made view deep (Ok r) v h d a b = rw (a, b) (sym d)
height_made view deep (Err e) v h d a b = tt
