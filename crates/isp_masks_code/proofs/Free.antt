-- In a program that is scoped each declaration has the next number, so none names a variable that was declared before.
use Rattle.std.proofs.Common.{◌≡◌, ℕ, suc, ◌+◌, ◌<◌, ◌≤◌, List, [], ◌∷◌, length, Option, Some, None, Bool, true, false, refl, sym, ap, ◌∙◌, inl, inr, eqb-true, arith}
use Rattle.std.specs.Prelude.{not, nat_eq, ◌||◌}
use Rattle.isp_base.specs.declared.types.Span.{Span}
use Rattle.isp_base.specs.declared.types.Ty.{Ty}
use Rattle.isp_typed.specs.Scoped.{Scope, ItemsAt, RangesAt, StmtAt, BlockAt, StmtsAt, declared, scope_after, number_after, number_after_first, scope_after_stmt, number_after_stmt, number_after_block, number_after_stmts}
use Rattle.isp_typed.specs.Typed.{TItem, t_plain, t_with_value, t_with_size, TFirst, t_first_declare, t_first_simple, TRange, TStmt, t_block, t_declare, t_simple, t_if, t_if_else, t_while, t_do, t_for, t_foreach}
use Rattle.isp_typed.specs.Typed.{t_foreach_active, t_foreach_unique, t_unmasked, t_jump, t_return, t_print, t_assert, TBlock, t_braces, TStmts, t_no_stmts, t_stmt_then}
use Rattle.isp_lex.specs.declared.fault.Fault.{Fault}
use Rattle.isp_lex.specs.declared.fault.Rule.TheVariants.{NestedForeach}
use Rattle.isp_lex.specs.Faults.{fault}
use Rattle.isp_rates.specs.Breaches.{Unmet}
use Rattle.isp_rates.specs.Exits.{in_loop, in_foreach, in_turns, in_unmasked, StmtBreach, BlockBreach, StmtsBreach}
use Rattle.isp_rates.specs.declared.exits.Within.{Within}
use Rattle.isp_typed.specs.Typed.{TFunction}
use Rattle.isp_meaning.specs.Loads.{no_variable}
use Rattle.isp_masks_code.specs.Free.{ItemsFree, NoneYet, is_index, StmtFree, BlockFree, StmtsFree}

abbrev NoneOf : (Fault → Type 0) → Type 0
NoneOf B = (f : Fault) → B f → ⊥

-- the variables were declared before
abbrev pub AreBefore : (ℕ → Bool) → ℕ → Type 0
AreBefore o n = (i : ℕ) → o i ≡ true → i < n

pub none_before : (n : ℕ) → AreBefore no_variable n
none_before n i e = absurd (cc)

before_more : (o : ℕ → Bool) (n m : ℕ) → n ≤ m → AreBefore o n → AreBefore o m
before_more o n m le b i e = let lt = b i e in omega (arith, le, lt)

apart_at : (o : ℕ → Bool) (n k : ℕ) → k ≡ n → AreBefore o n → o k ≡ false
apart_at o n k e b = go (o k) refl
  where
    go : (d : Bool) → o k ≡ d → o k ≡ false
    go false h = h
    go true h = absurd (let lt = b k h in omega (arith, lt, e))

-- ---- numbers only grow

pub count_more : {A : Type 0} (n : ℕ) (xs : List A) → number_after n xs ≡ n + length xs
count_more n [] = omega arith
count_more n (x ∷ xs) = let more = count_more (suc n) xs in omega (arith, more)

first_more : (n : ℕ) (o : Option TFirst) → n ≤ number_after_first n o
first_more n None = omega arith
first_more n (Some (t_first_declare xs sp)) = let more = count_more n xs in omega (arith, more)
first_more n (Some (t_first_simple x)) = omega arith

mutual
  stmt_more : (n : ℕ) (x : TStmt) → n ≤ number_after_stmt n x
  stmt_more n (t_block b) = block_more n b
  stmt_more n (t_declare xs sp) = let more = count_more n xs in omega (arith, more)
  stmt_more n (t_simple x sp) = omega arith
  stmt_more n (t_if f g e x sp) = stmt_more n x
  stmt_more n (t_if_else f g e x y sp) =
      let one = stmt_more n x in
      let two = stmt_more (number_after_stmt n x) y in
      omega (arith, one, two)
  stmt_more n (t_while f g e x sp) = stmt_more n x
  stmt_more n (t_do f g x e sp) = stmt_more n x
  stmt_more n (t_for f g first e step m x sp) =
      let one = first_more n first in
      let two = stmt_more (number_after_first n first) x in
      omega (arith, one, two)
  stmt_more n (t_foreach w g rs x sp) =
      let one = count_more n rs in
      let two = stmt_more (number_after n rs) x in
      omega (arith, one, two)
  stmt_more n (t_foreach_active w g i x sp) = let more = stmt_more (suc n) x in omega (arith, more)
  stmt_more n (t_foreach_unique w g i t e x sp) = let more = stmt_more (suc n) x in omega (arith, more)
  stmt_more n (t_unmasked w b sp) = block_more n b
  stmt_more n (t_jump j w sp) = omega arith
  stmt_more n (t_return w x sp) = omega arith
  stmt_more n (t_print w text xs sp) = omega arith
  stmt_more n (t_assert x c sp) = omega arith

  block_more : (n : ℕ) (b : TBlock) → n ≤ number_after_block n b
  block_more n (t_braces xs sp) = stmts_more n xs

  stmts_more : (n : ℕ) (xs : TStmts) → n ≤ number_after_stmts n xs
  stmts_more n t_no_stmts = omega arith
  stmts_more n (t_stmt_then x xs) =
      let one = stmt_more n x in
      let two = stmts_more (number_after_stmt n x) xs in
      omega (arith, one, two)

-- ---- so nothing that is declared is one of those before

items_free : (o : ℕ → Bool) (v : Scope) (n : ℕ) (xs : List TItem) → AreBefore o n → ItemsAt v n xs → ItemsFree o xs
items_free o v n [] b at = tt
items_free o v n (t_plain k t sp ∷ xs) b at = (apart_at o n k at.0 b, items_free o (declared n v) (suc n) xs (before_more o n (suc n) (omega arith) b) at.1)
items_free o v n (t_with_value k t x sp ∷ xs) b at = (apart_at o n k at.0.0 b, items_free o (declared n v) (suc n) xs (before_more o n (suc n) (omega arith) b) at.1)
items_free o v n (t_with_size y sp ∷ xs) b at = (tt, items_free o (declared n v) (suc n) xs (before_more o n (suc n) (omega arith) b) at.1)

-- while there are such variables, code is in the body of a `foreach`
abbrev pub InBody : (ℕ → Bool) → Within → Type 0
InBody o w = (i : ℕ) → o i ≡ true → w.in_foreach ≡ true

body_in : (o : ℕ → Bool) (w u : Within) → w.in_foreach ≡ u.in_foreach → InBody o w → InBody o u
body_in o w u e h i is = sym e ∙ h i is

body_of : (o : ℕ → Bool) (w : Within) → InBody o (in_foreach w)
body_of o w i is = refl

-- the indices have numbers below those after the ranges
indices_before : (v : Scope) (n : ℕ) (rs : List TRange) → RangesAt v n rs → AreBefore (is_index rs) (number_after n rs)
indices_before v n [] at i e = absurd (cc)
indices_before v n (r ∷ rs) at i e = by (nat_eq i r.index) refl e (indices_before v (suc n) rs at.3 i)
  where
    by : (d : Bool) → nat_eq i r.index ≡ d → (d || is_index rs i) ≡ true → (is_index rs i ≡ true → i < number_after (suc n) rs) → i < number_after n (r ∷ rs)
    by true same h later = let is : i ≡ r.index = eqb-true i r.index same in omega (arith, at.0, is, count_more (suc n) rs)
    by false other h later = later h

none_yet : (o : ℕ → Bool) (w : Within) (k : Span) → InBody o w → NoneOf (Unmet (not w.in_foreach) (fault NestedForeach k)) → NoneYet o
none_yet o w k h clean v = go (o v) refl
  where
    go : (d : Bool) → o v ≡ d → o v ≡ false
    go false e = e
    go true e = absurd (clean (fault NestedForeach k) (ap not (h v e), refl))

module _ (fs : List TFunction) (answer : Option Ty) where
  mutual
    pub stmt_free : (o : ℕ → Bool) (v : Scope) (n : ℕ) (u : Within) (x : TStmt) → AreBefore o n → InBody o u → StmtAt v n x → NoneOf (StmtBreach fs answer u x) → StmtFree o x
    stmt_free o v n u (t_block y) b h at clean = block_free o v n u y b h at clean
    stmt_free o v n u (t_declare xs sp) b h at clean = items_free o v n xs b at
    stmt_free o v n u (t_simple x sp) b h at clean = tt
    stmt_free o v n u (t_if f g e x sp) b h at clean = stmt_free o v n u x b h at.2 (λ g b. clean g (inr b))
    stmt_free o v n u (t_if_else f g e x y sp) b h at clean =
        (stmt_free o v n u x b h at.2 (λ g b. clean g (inr (inl b))), stmt_free o v (number_after_stmt n x) u y (before_more o n (number_after_stmt n x) (stmt_more n x) b) h at.3 (λ g b. clean g (inr (inr b))))
    stmt_free o v n u (t_while f g e x sp) b h at clean = stmt_free o v n (in_loop u) x b (body_in o u (in_loop u) refl h) at.2 (λ g b. clean g (inr b))
    stmt_free o v n u (t_do f g x e sp) b h at clean = stmt_free o v n (in_loop u) x b (body_in o u (in_loop u) refl h) at.1 (λ g b. clean g (inl b))
    stmt_free o v n u (t_for f g None e step m x sp) b h at clean =
        (tt, stmt_free o v m (in_loop u) x (let em = at.2 in before_more o n m (omega (arith, em)) b) (body_in o u (in_loop u) refl h) at.5 (λ g b. clean g (inr (inr (inr b)))))
    stmt_free o v n u (t_for f g (Some (t_first_simple y)) e step m x sp) b h at clean =
        (tt, stmt_free o v m (in_loop u) x (let em = at.2 in before_more o n m (omega (arith, em)) b) (body_in o u (in_loop u) refl h) at.5 (λ g b. clean g (inr (inr (inr b)))))
    stmt_free o v n u (t_for f g (Some (t_first_declare xs s1)) e step m x sp) b h at clean = (
      items_free o v n xs b at.1,
      stmt_free o (scope_after v n xs) m (in_loop u) x
          (let em = at.2 in let more = count_more n xs in before_more o n m (omega (arith, em, more)) b) (body_in o u (in_loop u) refl h) at.5
          (λ g b. clean g (inr (inr (inr b)))),
    )
    stmt_free o v n u (t_foreach k g rs x sp) b h at clean = (
      none_yet o u k h (λ g b. clean g (inl b)),
      λ d are. stmt_free d (scope_after v n rs) (number_after n rs) (in_foreach u) x
          (λ i e. indices_before v n rs at.3 i (are i e)) (body_of d u) at.4 (λ g b. clean g (inr (inr b))),
    )
    stmt_free o v n u (t_foreach_active k g i x sp) b h at clean = stmt_free o (declared n v) (suc n) (in_turns u) x (before_more o n (suc n) (omega arith) b) (body_in o u (in_turns u) refl h) at.2 clean
    stmt_free o v n u (t_foreach_unique k g i t e x sp) b h at clean =
        stmt_free o (declared n v) (suc n) (in_turns u) x (before_more o n (suc n) (omega arith) b) (body_in o u (in_turns u) refl h) at.3 (λ g b. clean g (inr b))
    stmt_free o v n u (t_unmasked k y sp) b h at clean = block_free o v n (in_unmasked u) y b (body_in o u (in_unmasked u) refl h) at clean
    stmt_free o v n u (t_jump j k sp) b h at clean = tt
    stmt_free o v n u (t_return k x sp) b h at clean = tt
    stmt_free o v n u (t_print k text xs sp) b h at clean = tt
    stmt_free o v n u (t_assert x c sp) b h at clean = tt

    pub block_free : (o : ℕ → Bool) (v : Scope) (n : ℕ) (u : Within) (y : TBlock) → AreBefore o n → InBody o u → BlockAt v n y → NoneOf (BlockBreach fs answer u y) → BlockFree o y
    block_free o v n u (t_braces xs sp) b h at clean = stmts_free o v n u xs b h at clean

    stmts_free : (o : ℕ → Bool) (v : Scope) (n : ℕ) (u : Within) (xs : TStmts) → AreBefore o n → InBody o u → StmtsAt v n xs → NoneOf (StmtsBreach fs answer u xs) → StmtsFree o xs
    stmts_free o v n u t_no_stmts b h at clean = tt
    stmts_free o v n u (t_stmt_then x xs) b h at clean =
        (stmt_free o v n u x b h at.0 (λ g b. clean g (inl b)), stmts_free o (scope_after_stmt v n x) (number_after_stmt n x) u xs (before_more o n (number_after_stmt n x) (stmt_more n x) b) h at.1 (λ g b. clean g (inr b)))
