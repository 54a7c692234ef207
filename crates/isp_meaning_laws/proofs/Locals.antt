-- How many elements a local array has, and that a declaration makes them zero.
use Rattle.std.proofs.Common.{◌≡◌, refl, sym, ap, ◌∙◌, subst, ⊎_elim, ℕ, zero, suc, ◌+◌, ◌<◌, ◌⊎◌, inl, inr, List, [], ◌∷◌, length, take, Bool, true, false, arith, eq-eqb}
use Rattle.std.proofs.lemmas.Bool.{cases_eq, cond-true, cond-false, ne_eqb}
use Rattle.std.proofs.lemmas.Bool.Decides.{nat_tests}
use Rattle.std.proofs.lemmas.Int.{ints}
use Rattle.std.specs.Prelude.{Some, nat_eq, nat_lt, if◌then◌else◌, slice_get, slice_index, pos}
use Rattle.isp_base.specs.Access.{is_beyond}
use Rattle.isp_base.specs.Maps.{put}
use Rattle.isp_base.specs.Sets.{Mask}
use Rattle.isp_base.specs.declared.types.Rate.{Rate}
use Rattle.isp_base.specs.declared.types.Rate.TheVariants.{Uniform, Varying}
use Rattle.isp_base.specs.declared.types.Ty.{Ty}
use Rattle.isp_typed.specs.declared.variable.ArrayVariable.{ArrayVariable}
use Rattle.isp_typed.specs.declared.variable.Holds.{Holds}
use Rattle.isp_typed.specs.declared.variable.Holds.TheVariants.{Value as AValue, Given, Local}
use Rattle.isp_typed.specs.declared.variable.Variable.{Variable}
use Rattle.isp_typed.specs.Typed.{TFunction}
use Rattle.isp_meaning.specs.Calls.{size_at, size_of, shared_sizes, store_or, own_size, frame_of}
use Rattle.isp_meaning.specs.Expressions.{Passed}
use Rattle.isp_meaning.specs.Outcomes.{went_all}
use Rattle.isp_meaning.specs.Simple.{cleared}
use Rattle.isp_meaning.specs.State.{State, Frame, tick, extent_at, extent}
use Rattle.isp_meaning_laws.specs.LocalArrays.{local, IsLocal, Zeroed, AreLocal}

-- ---- how many elements

-- a variable more, before both
one_before : (h : Holds) (xs ys : List ℕ) (n : ℕ) → slice_index xs (length ys) ≡ n → slice_index (size_of h xs) (length (size_of h ys)) ≡ n
one_before (AValue t) xs ys n e = e
one_before (Given t) xs ys n e = e
one_before (Local t m) xs ys n e = by t.rate where
  by : (r : Rate) → slice_index (size_at r m xs) (length (size_at r m ys)) ≡ n
  by Uniform = e
  by Varying = e

itself : (r : Rate) (n : ℕ) (xs : List ℕ) → r ≡ Uniform → slice_index (size_at r n xs) 0 ≡ n
itself Uniform n xs e = refl
itself Varying n xs e = absurd (cc)

-- the size of a shared array stands where those of the arrays before it end
size_there : (vs : List Variable) (v : ℕ) (t : Ty) (n : ℕ) (c : Bool)
    → slice_get vs v ≡ Some (record { holds = Local t n; constant = c }) → t.rate ≡ Uniform → slice_index (shared_sizes vs) (length (shared_sizes (take v vs))) ≡ n
size_there [] v t n c e u = absurd (cc)
size_there (w ∷ vs) zero t n c e u =
    let d : w ≡ record { holds = Local t n; constant = c } = cc in
    subst (λ h. slice_index (size_of h (shared_sizes vs)) 0 ≡ n) (sym (ap (λ z. z.holds) d)) (itself t.rate n (shared_sizes vs) u)
size_there (w ∷ vs) (suc v) t n c e u = one_before w.holds (shared_sizes vs) (shared_sizes (take v vs)) n (size_there vs v t n c e u)

not_below : (m k : ℕ) → nat_lt (m + k) m ≡ false
not_below m k = grind (arith, nat_tests)

module _ (f : TFunction) (xs : List Passed) (caller : Frame) (v : ℕ) (t : Ty) (n : ℕ) (c : Bool) (h : IsLocal f xs v t n c) where
  shared : t.rate ≡ Uniform → (frame_of f xs caller).sizes ((frame_of f xs caller).named v) ≡ n
  shared u =
      ap (λ o. (frame_of f xs caller).sizes (store_or o (caller.opened + length (shared_sizes (take v f.variables))))) h.no_parameter
      ∙ (cond-false (nat_lt (caller.opened + length (shared_sizes (take v f.variables))) caller.opened) _ _ (not_below caller.opened (length (shared_sizes (take v f.variables))))
      ∙ (ap (λ k. slice_index (shared_sizes f.variables) k) (omega arith) ∙ size_there f.variables v t n c h.is u))

  own : (frame_of f xs caller).own_sizes v ≡ n
  own = ap own_size h.is

  as_said : extent (frame_of f xs caller) (local v t c) ≡ n
  as_said = by t.rate refl where
    by : (r : Rate) → t.rate ≡ r → extent_at r (frame_of f xs caller) v ≡ n
    by Uniform e = shared e
    by Varying e = own

-- ---- which index is outside

beyond : (n : ℕ) → is_beyond n (pos n) ≡ true
beyond n = grind (arith, ints, nat_tests)

within : (n m : ℕ) → m < n → is_beyond n (pos m) ≡ false
within n m lt = grind (arith, ints, nat_tests)

-- ---- zeros

zeroed : (a : Mask) (b : ArrayVariable) (frame : Frame) (s : State) → Zeroed a b frame s (went_all a (cleared frame b.ty.rate b.number a (tick (tick s))))
zeroed a b frame s = by b.ty.rate refl where
  put_same : {A : Type 0} (f : ℕ → A) (d : ℕ) (x : A) → put f d x d ≡ x
  put_same f d x = cond-true (nat_eq d d) x (f d) (eq-eqb d d refl)

  put_other : {A : Type 0} (f : ℕ → A) (d : ℕ) (x : A) (r : ℕ) → (r ≡ d → ⊥) → put f d x r ≡ f r
  put_other f d x r ne = cond-false (nat_eq r d) x (f r) (ne_eqb r d ne)

  by : (r : Rate) → b.ty.rate ≡ r → Zeroed a b frame s (went_all a (cleared frame r b.number a (tick (tick s))))
  by Uniform u = inl (u, λ e. ap (λ f. f e) (put_same s.arrays (frame.named b.number) (λ e. 0)), λ k ne. put_other s.arrays (frame.named b.number) (λ e. 0) k ne, refl)
  by Varying u = inr (u, λ e p on. ap (λ f. f e p) (put_same s.own b.number zeros) ∙ cond-true (a p) 0 (s.own b.number e p) on, λ w e p. other w e p, refl) where
    zeros : ℕ → ℕ → ℕ
    zeros e p = if a p then 0 else s.own b.number e p

    other : (w e p : ℕ) → (w ≡ b.number → ⊥) ⊎ (a p ≡ false) → put s.own b.number (λ e p. if a p then 0 else s.own b.number e p) w e p ≡ s.own w e p
    other w e p (inl ne) = ap (λ f. f e p) (put_other s.own b.number _ w ne)
    other w e p (inr off) = ⊎_elim
        (λ d. subst (λ z. put s.own b.number (λ e p. if a p then 0 else s.own b.number e p) z e p ≡ s.own z e p) (sym d)
        (ap (λ f. f e p) (put_same s.own b.number (λ e p. if a p then 0 else s.own b.number e p)) ∙ cond-false (a p) 0 (s.own b.number e p) off))
        (λ ne. ap (λ f. f e p) (put_other s.own b.number _ w ne)) (cases_eq w b.number)

pub are_local : AreLocal
are_local = record {
  extent = λ f xs caller v t n c h. as_said f xs caller v t n c h;
  past_the_end = λ gang f xs caller calls v t n c i u at a s s1 k p h e d l. rw (e, as_said f xs caller v t n c h, d, beyond n, l);
  inside = λ gang f xs caller calls v t n c i u at a s s1 k m h e d lt. rw (e, as_said f xs caller v t n c h, d, within n m lt) (_, refl);
  declared = λ gang frame calls most b at sp a s. zeroed a b frame s;
}
