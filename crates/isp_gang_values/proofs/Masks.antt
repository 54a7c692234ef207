-- Sets that are made place by place.
use Rattle.std.proofs.Common.{◌≡◌, sym, ap, ap₂, ◌∙◌, ℕ, zero, suc, ◌<◌, Bool, true, false, ◌&&◌, ◌||◌, not, List, arith, length, None, Some, replicate}
use Rattle.std.proofs.Math.Path.{fun_ext}
use Rattle.std.proofs.Common.{⊎_elim, eq-eqb, ne_eqb}
use Rattle.std.proofs.lemmas.Bool.{cases_eq, le-ltb}
use Rattle.std.proofs.lemmas.List.{get_or-set_other, get_or-set_same, length-replicate}
use Rattle.std.specs.Prelude.{slice_set}
use Rattle.isp_base.specs.Sets.{Mask, everyone, flag_of, lone, lowest, nobody, or_this, union, without}
use Rattle.isp_base.specs.Types.{widest}
use Rattle.isp_gang_values.proofs.Made.{Made, begins, made, past, repeated}

pub begun : (f : Mask) → Made false f (replicate widest false) 0
begun f = begins false f (replicate widest false) (length-replicate widest false) (λ p. repeated widest p false)

pub nobody_made : flag_of (replicate widest false) ≡ nobody
nobody_made = fun_ext (λ p. repeated widest p false)

pub everyone_made : (n : ℕ) (xs : List Bool) → Made false (everyone n) xs n → flag_of xs ≡ everyone n
everyone_made n xs m = made false _ xs n m (λ p h. le-ltb p n h)

pub alone_made : (i : ℕ) → i < widest → flag_of (slice_set (replicate widest false) i true) ≡ lone (Some i)
alone_made i lt = fun_ext (λ p. ⊎_elim (λ (e : p ≡ i). ap (flag_of (slice_set (replicate widest false) i true)) e
    ∙ get_or-set_same (replicate widest false) i true false (omega (arith, length-replicate widest false, lt)) ∙ sym (eq-eqb p i e))
    (λ ne. get_or-set_other (replicate widest false) i p true false ne ∙ repeated widest p false ∙ sym (ne_eqb p i ne)) (cases_eq p i))

pub union_made : (xs ys zs : List Bool) → length xs ≡ widest → length ys ≡ widest → Made false (union (flag_of xs) (flag_of ys)) zs widest → flag_of zs ≡ union (flag_of xs) (flag_of ys)
union_made xs ys zs long long' m = made false _ zs widest m (λ p h. ap₂ (λ a b. a || b) (past xs p false (omega (arith, long, h))) (past ys p false (omega (arith, long', h))))

pub without_made : (xs ys zs : List Bool) → length xs ≡ widest → Made false (without (flag_of xs) (flag_of ys)) zs widest → flag_of zs ≡ without (flag_of xs) (flag_of ys)
without_made xs ys zs long m = made false _ zs widest m (λ p h. ap (λ a. a && not (flag_of ys p)) (past xs p false (omega (arith, long, h))))

-- the first of those that are left is the lowest
pub lowest_is : (n i : ℕ) (a : Mask) → i < n → lowest i a ≡ None → a i ≡ true → lowest n a ≡ Some i
lowest_is zero i a lt none is = absurd (omega (arith, lt))
lowest_is (suc n) i a lt none is =
    ⊎_elim (λ (e : n ≡ i). ap (λ m. or_this (lowest m a) (a m) m) e ∙ ap₂ (λ o b. or_this o b i) none is)
    (λ ne. ap (λ o. or_this o (a n) n) (lowest_is n i a (omega (arith, lt, ne)) none is)) (cases_eq n i)
