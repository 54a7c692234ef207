-- What a body declares is no array that all instances share.
use Rattle.std.proofs.Common.{◌≡◌, ℕ, suc, ◌<◌, ◌≤◌, ◌⊎◌, inl, inr, false, refl, sym, subst, arith}
use Rattle.std.specs.Prelude.{List, [], ◌∷◌, length, Option, Some, None, slice_get, option_map}
use Rattle.std.specs.List.{All}
use Rattle.std.proofs.lemmas.Bool.{cases_lt}
use Rattle.std.proofs.lemmas.List.Elements.{All-head, All-tail}
use Rattle.std.proofs.lemmas.Option.{slice_get_past}
use Rattle.isp_base.specs.declared.types.Rate.{Rate}
use Rattle.isp_base.specs.declared.types.Rate.TheVariants.{Uniform, Varying}
use Rattle.isp_base.specs.declared.types.Ty.{Ty}
use Rattle.isp_tree.specs.Sound.{IfAny}
use Rattle.isp_typed.specs.declared.variable.Holds.{Holds}
use Rattle.isp_typed.specs.declared.variable.Holds.TheVariants as holds
use Rattle.isp_typed.specs.declared.variable.Variable.{Variable}
use Rattle.isp_typed.specs.Fine.{HoldsValue, FineItem, FineFirst, FineRange, FineStmt, FineBlock, FineStmts}
use Rattle.isp_typed.specs.Scoped.{Scope, declared, ItemAt, ItemsAt, FirstAt, RangesAt, number_after, scope_after, number_after_first, scope_after_first, number_after_stmt}
use Rattle.isp_typed.specs.Scoped.{number_after_block, number_after_stmts, scope_after_stmt, StmtAt, BlockAt, StmtsAt, ScopedFunction}
use Rattle.isp_typed.specs.Typed.{TItem, t_plain, t_with_value, t_with_size, TFirst, t_first_declare, t_first_simple, TRange, TFunction, rate_of}
use Rattle.isp_typed.specs.Typed.{TStmt, t_block, t_declare, t_simple, t_if, t_if_else, t_while, t_do, t_for, t_foreach, t_foreach_active, t_foreach_unique}
use Rattle.isp_typed.specs.Typed.{t_unmasked, t_jump, t_return, t_print, t_assert, TBlock, t_braces, TStmts, t_no_stmts, t_stmt_then}
use Rattle.isp_independence.specs.declared.control.Control.{Control}
use Rattle.isp_independence.specs.declared.dependence.Dependence.{Dependence}
use Rattle.isp_independence.specs.declared.dependence.Restriction.TheVariants.{Crossing, SharedArray}
use Rattle.isp_independence.specs.Control.{branch, loop, turn, round}
use Rattle.isp_independence.specs.Dependences.{at, OfAny, OfEach}
use Rattle.isp_independence.specs.Exits.{is_varying}
use Rattle.isp_independence.specs.Statements.{ItemDepends, FirstDepends, StmtDepends, BlockDepends, StmtsDepends}

-- a value, or an array of which each instance has its own
abbrev pub IsOwn : Holds → Type 0
IsOwn (holds.Value t) = Unit {0}
IsOwn (holds.Given e) = ⊥
IsOwn (holds.Local t n) = t.rate ≡ Varying

abbrev pub OwnAt : Option Variable → Type 0
OwnAt None = Unit {0}
OwnAt (Some x) = IsOwn x.holds

varies : (r : Rate) → (is_varying r ≡ false → ⊥) → r ≡ Varying
varies Varying h = refl
varies Uniform h = absurd (h refl)

module _ (fs : List TFunction) (vars : List Variable) (answer : Option Ty) where
  -- the variables from the n-th on, below the m-th
  abbrev AllOwn : ℕ → ℕ → Type 0
  AllOwn n m = (k : ℕ) → n ≤ k → k < m → OwnAt (slice_get vars k)

  none_own : (n : ℕ) → AllOwn n n
  none_own n k l h = let no : ⊥ = omega (arith, l, h) in absurd no

  then_own : (n m l : ℕ) → AllOwn n m → AllOwn m l → AllOwn n l
  then_own n m l f g k i j = go (cases_lt k m) where
    go : (k < m) ⊎ (m ≤ k) → OwnAt (slice_get vars k)
    go (inl h) = f k i h
    go (inr h) = g k h j

  one_own : (n : ℕ) → OwnAt (slice_get vars n) → AllOwn n (suc n)
  one_own n h k l i = let e : n ≡ k = omega (arith, l, i) in subst (λ z. OwnAt (slice_get vars z)) e h

  -- the variable k, which has the next number
  this_own : (k n : ℕ) → k ≡ n → OwnAt (slice_get vars k) → AllOwn n (suc n)
  this_own k n e h = one_own n (subst (λ z. OwnAt (slice_get vars z)) e h)

  value_own : (k : ℕ) (t : Ty) → HoldsValue vars k t → OwnAt (slice_get vars k)
  value_own k t h = subst OwnAt (sym h.is) tt

  item_own : (x : TItem) (v : Scope) (n : ℕ) → FineItem fs vars x → ((d : Dependence) → ItemDepends x d → ⊥) → ItemAt v n x → AllOwn n (suc n)
  item_own (t_plain k t s) v n f d i = this_own k n i (value_own k t f)
  item_own (t_with_value k t x s) v n f d i = this_own k n i.0 (value_own k t f.0)
  item_own (t_with_size a s) v n f d i = this_own a.number n i (subst OwnAt (sym f.1) (varies a.ty.rate (λ e. d (at SharedArray s) (e, refl))))

  items_own : (xs : List TItem) (v : Scope) (n : ℕ) → All (FineItem fs vars) xs → ((d : Dependence) → OfEach ItemDepends xs d → ⊥) → ItemsAt v n xs → AllOwn n (number_after n xs)
  items_own [] v n f d i = none_own n
  items_own (x ∷ xs) v n f d i =
      then_own n (suc n) (number_after (suc n) xs) (item_own x v n (All-head (FineItem fs vars) x xs f) (λ z b. d z (inl b)) i.0)
      (items_own xs (declared n v) (suc n) (All-tail (FineItem fs vars) x xs f) (λ z b. d z (inr b)) i.1)

  first_own : (c : Control) (x : Option TFirst) (v : Scope) (n : ℕ) → IfAny (FineFirst fs vars) x → ((d : Dependence) → OfAny (FirstDepends c) x d → ⊥) → IfAny (FirstAt v n) x → AllOwn n (number_after_first n x)
  first_own c None v n f d i = none_own n
  first_own c (Some (t_first_declare xs s)) v n f d i = items_own xs v n f d i
  first_own c (Some (t_first_simple p)) v n f d i = none_own n

  ranges_own : (rs : List TRange) (v : Scope) (n : ℕ) → All (FineRange fs vars) rs → RangesAt v n rs → AllOwn n (number_after n rs)
  ranges_own [] v n f i = none_own n
  ranges_own (r ∷ rs) v n f i =
      then_own n (suc n) (number_after (suc n) rs) (this_own r.index n i.0 (subst OwnAt (sym (All-head (FineRange fs vars) r rs f).index) tt)) (ranges_own rs v (suc n) (All-tail (FineRange fs vars) r rs f) i.3)

  mutual
    stmt_own : (x : TStmt) (c : Control) (v : Scope) (n : ℕ) → FineStmt fs vars answer x → ((d : Dependence) → StmtDepends c x d → ⊥) → StmtAt v n x → AllOwn n (number_after_stmt n x)
    stmt_own (t_block b) c v n f d i = block_own b c v n f d i
    stmt_own (t_declare xs s) c v n f d i = items_own xs v n f d i
    stmt_own (t_simple p s) c v n f d i = none_own n
    stmt_own (t_if g k x a s) c v n f d i = stmt_own a (branch (rate_of x) k c) v n f.2 (λ z b. d z (inr b)) i.2
    stmt_own (t_if_else g k x a b s) c v n f d i =
        then_own n (number_after_stmt n a) (number_after_stmt (number_after_stmt n a) b) (stmt_own a (branch (rate_of x) k c) v n f.2 (λ z h. d z (inr (inl h))) i.2)
        (stmt_own b (branch (rate_of x) k c) v (number_after_stmt n a) f.3 (λ z h. d z (inr (inr h))) i.3)
    stmt_own (t_while g k x a s) c v n f d i = stmt_own a (turn k a (loop (Some (rate_of x)) k a c)) v n f.2 (λ z h. d z (inr h)) i.2
    stmt_own (t_do g k a x s) c v n f d i = stmt_own a (turn k a (loop (Some (rate_of x)) k a c)) v n f.1 (λ z h. d z (inl h)) i.1
    stmt_own (t_for g k first x p m a s) c v n f d i =
        then_own n (number_after_first n first) (number_after_stmt (number_after_first n first) a) (first_own (loop (option_map rate_of x) k a c) first v n f.2 (λ z h. d z (inl h)) i.1)
        (subst (λ z. AllOwn z (number_after_stmt z a)) i.2 (stmt_own a (turn m a (loop (option_map rate_of x) k a c)) (scope_after_first v n first) m f.5 (λ z h. d z (inr (inr (inr h)))) i.5))
    stmt_own (t_foreach g k rs a s) c v n f d i =
        then_own n (number_after n rs) (number_after_stmt (number_after n rs) a) (ranges_own rs v n f.1 i.3) (stmt_own a (round k c) (scope_after v n rs) (number_after n rs) f.2 (λ z h. d z (inr (inr h))) i.4)
    stmt_own (t_foreach_active g k j a s) c v n f d i = absurd (d (at Crossing g) (inl refl))
    stmt_own (t_foreach_unique g k j e x a s) c v n f d i = absurd (d (at Crossing g) (inl refl))
    stmt_own (t_unmasked g b s) c v n f d i = absurd (d (at Crossing g) (inl refl))
    stmt_own (t_jump j g s) c v n f d i = none_own n
    stmt_own (t_return g x s) c v n f d i = none_own n
    stmt_own (t_print g t xs s) c v n f d i = none_own n
    stmt_own (t_assert x g s) c v n f d i = none_own n

    block_own : (b : TBlock) (c : Control) (v : Scope) (n : ℕ) → FineBlock fs vars answer b → ((d : Dependence) → BlockDepends c b d → ⊥) → BlockAt v n b → AllOwn n (number_after_block n b)
    block_own (t_braces xs s) c v n f d i = all_own xs c v n f d i

    all_own : (xs : TStmts) (c : Control) (v : Scope) (n : ℕ) → FineStmts fs vars answer xs → ((d : Dependence) → StmtsDepends c xs d → ⊥) → StmtsAt v n xs → AllOwn n (number_after_stmts n xs)
    all_own t_no_stmts c v n f d i = none_own n
    all_own (t_stmt_then x xs) c v n f d i =
        then_own n (number_after_stmt n x) (number_after_stmts (number_after_stmt n x) xs) (stmt_own x c v n f.0 (λ z b. d z (inl b)) i.0)
        (all_own xs c (scope_after_stmt v n x) (number_after_stmt n x) f.1 (λ z b. d z (inr b)) i.1)

-- the variables after the parameters
pub declared_own : (fs : List TFunction) (g : TFunction) (c : Control) → FineBlock fs g.variables g.answer g.body → ((d : Dependence) → BlockDepends c g.body d → ⊥) → ScopedFunction g
    → (k : ℕ) → length g.params ≤ k → OwnAt (slice_get g.variables k)
declared_own fs g c f d scoped k l = go (cases_lt k (length g.variables)) where
  go : (k < length g.variables) ⊎ (length g.variables ≤ k) → OwnAt (slice_get g.variables k)
  go (inl h) = block_own fs g.variables g.answer g.body c _ (length g.params) f d scoped.body k l (subst (λ z. k < z) (sym scoped.all) h)
  go (inr h) = subst OwnAt (sym (slice_get_past g.variables k h)) tt
