-- Paths along arcs, and tables that get more arcs.
use Rattle.std.proofs.Common.{◌≡◌, ℕ, ◌⊎◌, inl, inr, refl, sym, subst, arith}
use Rattle.std.specs.Prelude.{List, Option, Some, None, slice_get, Contains}
use Rattle.isp_independence.specs.reader.Paths.{Arc, given_row, row_at, Path, stays, goes}

pub before : (t : List (List ℕ)) (a b c : ℕ) → Arc t a b → Path t b c → Path t a c
before t a b c x stays = goes a b stays x
before t a b c x (goes m n p y) = goes m n (before t a b m x p) y

-- a path that goes anywhere goes over one that is called first
pub record Begins (t : List (List ℕ)) (a c : ℕ) : Type 0 where
  pub over : ℕ
  pub first : Arc t a over
  pub rest : Path t over c

pub begins : (t : List (List ℕ)) (a c : ℕ) → Path t a c → (a ≡ c) ⊎ Begins t a c
begins t a c stays = inl refl
begins t a c (goes m n p y) =
    elim (begins t a m p) as (λ z. (a ≡ n) ⊎ Begins t a n) [
      | inl e ↦ inr (record { over = n; first = subst (λ k. Arc t k n) (sym e) y; rest = stays })
      | inr w ↦ inr (record { over = w.over; first = w.first; rest = goes m n w.rest y })
    ]

-- a set that has who calls those in it has who leads to those in it
pub closed_path : (t : List (List ℕ)) (P : ℕ → Type 0) → ((a b : ℕ) → P b → Arc t a b → P a) → (a c : ℕ) → Path t a c → P c → P a
closed_path t P step a c stays h = h
closed_path t P step a c (goes m n p y) h = closed_path t P step a m p (step m n h y)

pub row_arc : (t : List (List ℕ)) (a b : ℕ) → Contains (row_at t a) b → Arc t a b
row_arc t a b h = go (slice_get t a) refl h where
  go : (o : Option (List ℕ)) → slice_get t a ≡ o → Contains (given_row o) b → Arc t a b
  go None e k = absurd (omega (arith, k.1))
  go (Some row) e k = record { row = row; there = e; holds = k }

pub arc_row : (t : List (List ℕ)) (a b : ℕ) → Arc t a b → Contains (row_at t a) b
arc_row t a b x = subst (λ (o : Option (List ℕ)). Contains (given_row o) b) (sym x.there) x.holds
