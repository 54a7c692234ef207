-- Numbers of variables and scopes: what is in scope was declared before, and stays so.
use Rattle.std.proofs.Common.{◌≡◌, ℕ, suc, ◌<◌, ◌⊎◌, inl, inr, Bool, true, false, refl, sym, ap, ◌∙◌, arith, true≢false}
use Rattle.std.specs.Prelude.{◌≤◌, List, [], ◌∷◌, Option, Some, None, ◌&&◌, ◌||◌, nat_eq, nat_lt, slice_get}
use Rattle.std.proofs.lemmas.Bool.Decides.{nat_tests}
use Rattle.isp_typed.specs.declared.variable.Variable.{Variable as AVar}
use Rattle.isp_typed.specs.Scoped.{Scope, declared, number_after, scope_after, number_after_first, scope_after_first, number_after_stmt, number_after_block, number_after_stmts, scope_after_stmt}
use Rattle.isp_typed.specs.Typed.{TFirst, t_first_declare, t_first_simple}
use Rattle.isp_typed.specs.Typed.{TStmt, t_block, t_declare, t_simple, t_if, t_if_else, t_while, t_do, t_for, t_foreach, t_foreach_active, t_foreach_unique}
use Rattle.isp_typed.specs.Typed.{t_unmasked, t_jump, t_return, t_print, t_assert, TBlock, t_braces, TStmts, t_no_stmts, t_stmt_then}
use Rattle.isp_solo_laws.specs.Asked.{is_uniform, uniforms_in}

-- ---- numbers and scopes

pub lt_of : (k n : ℕ) → nat_lt k n ≡ true → k < n
lt_of k n h = grind (arith, h, nat_tests)

pub of_lt : (k n : ℕ) → k < n → nat_lt k n ≡ true
of_lt k n h = grind (arith, h, nat_tests)

pub next : (k n : ℕ) → k < n → k < suc n
next k n h = omega (arith, h)

pub up_to : (k n m : ℕ) → k < n → n ≤ m → k < m
up_to k n m h i = omega (arith, h, i)

pub le_same : (n : ℕ) → n ≤ n
le_same n = omega arith

pub le_next : (n m : ℕ) → suc n ≤ m → n ≤ m
le_next n m h = omega (arith, h)

pub le_then : (n m k : ℕ) → n ≤ m → m ≤ k → n ≤ k
le_then n m k h i = omega (arith, h, i)

pub either_true : (x y : Bool) → (x || y) ≡ true → (x ≡ true) ⊎ (y ≡ true)
either_true true y e = inl refl
either_true false y e = inr e

pub or_second : (x y : Bool) → y ≡ true → (x || y) ≡ true
or_second true y e = refl
or_second false y e = e

pub or_first : (x y : Bool) → x ≡ true → (x || y) ≡ true
or_first true y e = refl
or_first false y e = absurd (true≢false (sym e))

pub and_first : (x y : Bool) → (x && y) ≡ true → x ≡ true
and_first true y e = refl
and_first false y e = e

pub number_up : {A : Type 0} (n : ℕ) (xs : List A) → n ≤ number_after n xs
number_up n [] = le_same n
number_up n (x ∷ xs) = le_next n _ (number_up (suc n) xs)

pub number_up_first : (n : ℕ) (i : Option TFirst) → n ≤ number_after_first n i
number_up_first n None = le_same n
number_up_first n (Some (t_first_declare is s)) = number_up n is
number_up_first n (Some (t_first_simple p)) = le_same n

mutual
  pub stmt_up : (n : ℕ) (x : TStmt) → n ≤ number_after_stmt n x
  stmt_up n (t_block b) = block_up n b
  stmt_up n (t_declare is s) = number_up n is
  stmt_up n (t_simple p s) = le_same n
  stmt_up n (t_if f k x a s) = stmt_up n a
  stmt_up n (t_if_else f k x a b s) = le_then n (number_after_stmt n a) _ (stmt_up n a) (stmt_up (number_after_stmt n a) b)
  stmt_up n (t_while f k x a s) = stmt_up n a
  stmt_up n (t_do f k a x s) = stmt_up n a
  stmt_up n (t_for f k i x p m a s) = le_then n (number_after_first n i) _ (number_up_first n i) (stmt_up (number_after_first n i) a)
  stmt_up n (t_foreach w k rs a s) = le_then n (number_after n rs) _ (number_up n rs) (stmt_up (number_after n rs) a)
  stmt_up n (t_foreach_active w k i a s) = le_next n _ (stmt_up (suc n) a)
  stmt_up n (t_foreach_unique w k i e x a s) = le_next n _ (stmt_up (suc n) a)
  stmt_up n (t_unmasked w b s) = block_up n b
  stmt_up n (t_jump j w s) = le_same n
  stmt_up n (t_return w x s) = le_same n
  stmt_up n (t_print w t xs s) = le_same n
  stmt_up n (t_assert x c s) = le_same n

  pub block_up : (n : ℕ) (b : TBlock) → n ≤ number_after_block n b
  block_up n (t_braces ss s) = stmts_up n ss

  pub stmts_up : (n : ℕ) (xs : TStmts) → n ≤ number_after_stmts n xs
  stmts_up n t_no_stmts = le_same n
  stmts_up n (t_stmt_then s ss) = le_then n (number_after_stmt n s) _ (stmt_up n s) (stmts_up (number_after_stmt n s) ss)

-- all in scope was declared before
abbrev pub Below : Scope → ℕ → Type 0
Below v n = (k : ℕ) → v k ≡ true → k < n

pub below_next : (v : Scope) (n : ℕ) → Below v n → Below (declared n v) (suc n)
below_next v n b k h = go (either_true (nat_eq k n) (v k) h) where
  go : (nat_eq k n ≡ true) ⊎ (v k ≡ true) → k < suc n
  go (inl e) = grind (arith, e, nat_tests)
  go (inr e) = next k n (b k e)

pub below_after : {A : Type 0} (v : Scope) (n : ℕ) (xs : List A) → Below v n → Below (scope_after v n xs) (number_after n xs)
below_after v n [] b = b
below_after v n (x ∷ xs) b = below_after (declared n v) (suc n) xs (below_next v n b)

pub below_first : (v : Scope) (n : ℕ) (i : Option TFirst) → Below v n → Below (scope_after_first v n i) (number_after_first n i)
below_first v n None b = b
below_first v n (Some (t_first_declare is s)) b = below_after v n is b
below_first v n (Some (t_first_simple p)) b = b

pub below_up : (v : Scope) (n m : ℕ) → n ≤ m → Below v n → Below v m
below_up v n m h b k i = up_to k n m (b k i) h

pub below_stmt : (v : Scope) (n : ℕ) (x : TStmt) → Below v n → Below (scope_after_stmt v n x) (number_after_stmt n x)
below_stmt v n (t_declare is s) b = below_after v n is b
below_stmt v n (t_block x) b = below_up v n _ (block_up n x) b
below_stmt v n (t_simple p s) b = b
below_stmt v n (t_if f k x a s) b = below_up v n _ (stmt_up n a) b
below_stmt v n (t_if_else f k x a c s) b = below_up v n _ (stmt_up n (t_if_else f k x a c s)) b
below_stmt v n (t_while f k x a s) b = below_up v n _ (stmt_up n a) b
below_stmt v n (t_do f k a x s) b = below_up v n _ (stmt_up n a) b
below_stmt v n (t_for f k i x p m a s) b = below_up v n _ (stmt_up n (t_for f k i x p m a s)) b
below_stmt v n (t_foreach w k rs a s) b = below_up v n _ (stmt_up n (t_foreach w k rs a s)) b
below_stmt v n (t_foreach_active w k i a s) b = below_up v n _ (stmt_up n (t_foreach_active w k i a s)) b
below_stmt v n (t_foreach_unique w k i e x a s) b = below_up v n _ (stmt_up n (t_foreach_unique w k i e x a s)) b
below_stmt v n (t_unmasked w x s) b = below_up v n _ (block_up n x) b
below_stmt v n (t_jump j w s) b = b
below_stmt v n (t_return w x s) b = b
below_stmt v n (t_print w t xs s) b = b
below_stmt v n (t_assert x c s) b = b

pub wider_after : {A : Type 0} (v : Scope) (n : ℕ) (xs : List A) → (k : ℕ) → v k ≡ true → scope_after v n xs k ≡ true
wider_after v n [] k h = h
wider_after v n (x ∷ xs) k h = wider_after (declared n v) (suc n) xs k (or_second (nat_eq k n) (v k) h)

pub wider_first : (v : Scope) (n : ℕ) (i : Option TFirst) → (k : ℕ) → v k ≡ true → scope_after_first v n i k ≡ true
wider_first v n None k h = h
wider_first v n (Some (t_first_declare is s)) k h = wider_after v n is k h
wider_first v n (Some (t_first_simple p)) k h = h

pub wider_stmt : (v : Scope) (n : ℕ) (x : TStmt) → (k : ℕ) → v k ≡ true → scope_after_stmt v n x k ≡ true
wider_stmt v n (t_declare is s) k h = wider_after v n is k h
wider_stmt v n (t_block x) k h = h
wider_stmt v n (t_simple p s) k h = h
wider_stmt v n (t_if f j x a s) k h = h
wider_stmt v n (t_if_else f j x a c s) k h = h
wider_stmt v n (t_while f j x a s) k h = h
wider_stmt v n (t_do f j a x s) k h = h
wider_stmt v n (t_for f j i x p m a s) k h = h
wider_stmt v n (t_foreach w j rs a s) k h = h
wider_stmt v n (t_foreach_active w j i a s) k h = h
wider_stmt v n (t_foreach_unique w j i e x a s) k h = h
wider_stmt v n (t_unmasked w x s) k h = h
wider_stmt v n (t_jump j w s) k h = h
wider_stmt v n (t_return w x s) k h = h
wider_stmt v n (t_print w t xs s) k h = h
wider_stmt v n (t_assert x c s) k h = h

module _ (vars : List AVar) where
  pub uniforms_wider : (v v1 : Scope) → ((k : ℕ) → v k ≡ true → v1 k ≡ true) → (k : ℕ) → uniforms_in vars v k ≡ true → uniforms_in vars v1 k ≡ true
  uniforms_wider v v1 h k e = go (v k) (is_uniform (slice_get vars k)) (h k) e where
    go : (x y : Bool) → (x ≡ true → v1 k ≡ true) → (x && y) ≡ true → (v1 k && y) ≡ true
    go true y f e = ap (λ z. z && y) (f refl) ∙ e
    go false y f e = absurd (true≢false (sym e))
