-- The members of a set one by one, from the lowest.
use Rattle.std.proofs.Common.{◌≡◌, refl, sym, ap, ap₂, ◌∙◌, subst, ℕ, zero, suc, ◌<◌, ◌&&◌, ◌||◌, Bool, true, false, not, [], ◌∷◌, ◌++◌, map, Option, Some, None, ⊎_elim, arith, eq-eqb}
use Rattle.std.specs.Prelude.{nat_eq}
use Rattle.std.proofs.lemmas.Bool.{cases_eq, ne_eqb}
use Rattle.std.proofs.lemmas.List.{map-append}
use Rattle.isp_base.specs.Sets.{Mask, any, lowest, or_this, without, lone}
use Rattle.isp_meaning.specs.Rounds.{members, if_listed}

or_true : (b : Bool) → (b || true) ≡ true
or_true true = refl
or_true false = refl

-- ---- whether one of the first n is in the set

pub any_at : (n : ℕ) (a : Mask) (q : ℕ) → q < n → a q ≡ true → any n a ≡ true
any_at zero a q lt h = absurd (omega (arith, lt))
any_at (suc n) a q lt h =
    ⊎_elim (λ (e : q ≡ n). ap (λ z. any n a || z) (subst (λ r. a r ≡ true) e h) ∙ or_true (any n a))
    (λ ne. ap (λ z. z || a n) (any_at n a q (omega (arith, lt, ne)) h)) (cases_eq q n)

pub none_at : (n : ℕ) (a : Mask) (q : ℕ) → any n a ≡ false → q < n → a q ≡ false
none_at n a q e lt = by (a q) refl
  where
    by : (b : Bool) → a q ≡ b → a q ≡ false
    by true h = absurd (let k : any n a ≡ true = any_at n a q lt h in cc (e, k))
    by false h = h

pub none_all : (n : ℕ) (a : Mask) → ((q : ℕ) → q < n → a q ≡ false) → any n a ≡ false
none_all zero a f = refl
none_all (suc n) a f = ap (λ z. z || a n) (none_all n a (λ q lt. f q (omega (arith, lt)))) ∙ f n (omega arith)

-- ---- the lowest

pub no_lowest : (n : ℕ) (a : Mask) → any n a ≡ false → lowest n a ≡ None
no_lowest zero a e = refl
no_lowest (suc n) a e =
    let less : any n a ≡ false = none_all n a (λ q lt. none_at (suc n) a q e (omega (arith, lt))) in
    ap₂ (λ o b. or_this o b n) (no_lowest n a less) (none_at (suc n) a n e (omega arith))

-- it is a member, one of the first n, with no lower one
pub lowest_is : (n : ℕ) (a : Mask) (q : ℕ) → q < n → a q ≡ true → any q a ≡ false → lowest n a ≡ Some q
lowest_is zero a q lt h none = absurd (omega (arith, lt))
lowest_is (suc n) a q lt h none =
    ⊎_elim (λ (e : q ≡ n). ap₂ (λ o b. or_this o b n) (no_lowest n a (subst (λ m. any m a ≡ false) e none)) (subst (λ r. a r ≡ true) e h) ∙ ap Some (sym e))
    (λ ne. ap (λ o. or_this o (a n) n) (lowest_is n a q (omega (arith, lt, ne)) h none)) (cases_eq q n)

pub lowest_below : (n : ℕ) (a : Mask) (p : ℕ) → lowest n a ≡ Some p → p < n
lowest_below zero a p e = absurd (let h : ⊥ = cc in h)
lowest_below (suc n) a p e = by (lowest_below n a) (lowest n a) (a n) refl e
  where
    by : ((q : ℕ) → lowest n a ≡ Some q → q < n) → (o : Option ℕ) (b : Bool) → lowest n a ≡ o → or_this o b n ≡ Some p → p < suc n
    by more (Some q) b was is = let h : q ≡ p = cc in let k = more q was in omega (arith, h, k)
    by more None true was is = let h : n ≡ p = cc in omega (arith, h)
    by more None false was is = absurd (let h : ⊥ = cc in h)

pub lowest_in : (n : ℕ) (a : Mask) (p : ℕ) → lowest n a ≡ Some p → a p ≡ true
lowest_in zero a p e = absurd (let h : ⊥ = cc in h)
lowest_in (suc n) a p e = by (lowest_in n a p) (lowest n a) (a n) refl refl e
  where
    by : (lowest n a ≡ Some p → a p ≡ true) → (o : Option ℕ) (b : Bool) → lowest n a ≡ o → a n ≡ b → or_this o b n ≡ Some p → a p ≡ true
    by more (Some q) b was at is = more (was ∙ is)
    by more None true was at is = let same : n ≡ p = cc in subst (λ r. a r ≡ true) same at
    by more None false was at is = absurd (let h : ⊥ = cc in h)

pub no_member : (n : ℕ) (a : Mask) → lowest n a ≡ None → any n a ≡ false
no_member zero a e = refl
no_member (suc n) a e = by (no_member n a) (lowest n a) (a n) refl refl e
  where
    by : (lowest n a ≡ None → any n a ≡ false) → (o : Option ℕ) (b : Bool) → lowest n a ≡ o → a n ≡ b → or_this o b n ≡ None → (any n a || a n) ≡ false
    by more (Some q) b was at is = absurd (let h : ⊥ = cc in h)
    by more None true was at is = absurd (let h : ⊥ = cc in h)
    by more None false was at is = ap₂ (λ x y. x || y) (more was) at

pub lowest_least : (n : ℕ) (a : Mask) (p : ℕ) → lowest n a ≡ Some p → any p a ≡ false
lowest_least zero a p e = absurd (let h : ⊥ = cc in h)
lowest_least (suc n) a p e = by (lowest_least n a p) (lowest n a) (a n) refl e
  where
    by : (lowest n a ≡ Some p → any p a ≡ false) → (o : Option ℕ) (b : Bool) → lowest n a ≡ o → or_this o b n ≡ Some p → any p a ≡ false
    by more (Some q) b was is = more (was ∙ is)
    by more None true was is = let same : n ≡ p = cc in subst (λ m. any m a ≡ false) same (no_member n a was)
    by more None false was is = absurd (let h : ⊥ = cc in h)

-- ---- the list

-- nobody is listed where there is no lowest
pub nobody_listed : (n : ℕ) (a b : Mask) → lowest n a ≡ None → members n (without a b) ≡ []
nobody_listed zero a b e = refl
nobody_listed (suc n) a b e = by (nobody_listed n a b) (lowest n a) (a n) refl refl e
  where
    by : (lowest n a ≡ None → members n (without a b) ≡ []) → (o : Option ℕ) (c : Bool) → lowest n a ≡ o → a n ≡ c → or_this o c n ≡ None → members n (without a b) ++ if_listed (a n && not (b n)) n ≡ []
    by more (Some q) c was at is = absurd (let h : ⊥ = cc in h)
    by more None true was at is = absurd (let h : ⊥ = cc in h)
    by more None false was at is = ap₂ (λ xs d. xs ++ if_listed (d && not (b n)) n) (more was) at

pub none_listed : (n : ℕ) (a : Mask) → lowest n a ≡ None → members n a ≡ []
none_listed zero a e = refl
none_listed (suc n) a e = by (none_listed n a) (lowest n a) (a n) refl refl e
  where
    by : (lowest n a ≡ None → members n a ≡ []) → (o : Option ℕ) (c : Bool) → lowest n a ≡ o → a n ≡ c → or_this o c n ≡ None → members n a ++ if_listed (a n) n ≡ []
    by more (Some q) c was at is = absurd (let h : ⊥ = cc in h)
    by more None true was at is = absurd (let h : ⊥ = cc in h)
    by more None false was at is = ap₂ (λ xs d. xs ++ if_listed d n) (more was) at

-- a number is itself, and no greater one
eq_self : (n : ℕ) → nat_eq n n ≡ true
eq_self n = eq-eqb n n refl

eq_above : (n p : ℕ) → p < n → nat_eq n p ≡ false
eq_above n p h = ne_eqb n p (λ e. absurd (omega (arith, h, e)))

and_true : (b : Bool) → b && true ≡ b
and_true true = refl
and_true false = refl

and_false : (b : Bool) → b && false ≡ false
and_false true = refl
and_false false = refl

-- the lowest comes first, then the others
pub lowest_first : (n : ℕ) (a : Mask) (p : ℕ) → lowest n a ≡ Some p → members n a ≡ p ∷ members n (without a (lone (Some p)))
lowest_first zero a p e = absurd (let h : ⊥ = cc in h)
lowest_first (suc n) a p e = by (lowest_first n a p) (lowest n a) (a n) refl refl e
  where
    by : (lowest n a ≡ Some p → members n a ≡ p ∷ members n (without a (lone (Some p)))) → (o : Option ℕ) (c : Bool) → lowest n a ≡ o → a n ≡ c
        → or_this o c n ≡ Some p → members n a ++ if_listed (a n) n
        ≡ p ∷ (members n (without a (lone (Some p))) ++ if_listed (a n && not (nat_eq n p)) n)
    by more (Some q) c was at is =
        let same : q ≡ p = cc in
        let found : lowest n a ≡ Some p = was ∙ ap Some same in
        ap (λ xs. xs ++ if_listed (a n) n) (more found)
        ∙ ap (λ d. p ∷ (members n (without a (lone (Some p))) ++ if_listed d n)) (sym (ap (λ d. a n && not d) (eq_above n p (lowest_below n a p found)) ∙ and_true (a n)))
    by more None true was at is =
        let same : n ≡ p = cc in
        ap₂ (λ xs d. xs ++ if_listed d n) (none_listed n a was) at
        ∙ ap (λ k. k ∷ []) same
        ∙ sym (ap₂ (λ xs d. p ∷ (xs ++ if_listed d n)) (nobody_listed n a (lone (Some p)) was) (ap (λ k. a n && not (nat_eq n k)) (sym same) ∙ ap (λ d. a n && not d) (eq_self n) ∙ and_false (a n)))
    by more None false was at is = absurd (let h : ⊥ = cc in h)

-- what is made of each is the same where it is so of each member
pub alike : {A : Type 0} (n : ℕ) (a : Mask) (f g : ℕ → A) → ((q : ℕ) → a q ≡ true → f q ≡ g q) → map f (members n a) ≡ map g (members n a)
alike zero a f g h = refl
alike (suc n) a f g h =
    map-append f (members n a) (if_listed (a n) n) ∙ ap₂ (λ xs ys. xs ++ ys) (alike n a f g h) (last (a n) refl) ∙ sym (map-append g (members n a) (if_listed (a n) n))
  where
    last : (b : Bool) → a n ≡ b → map f (if_listed b n) ≡ map g (if_listed b n)
    last true e = ap (λ x. x ∷ []) (h n e)
    last false e = refl
