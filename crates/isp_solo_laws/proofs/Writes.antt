-- Variables that are written, and what comes after a value.
use Rattle.std.proofs.Common.{◌≡◌, ℕ, ◌⊎◌, inl, inr, Bool, true, false, refl, sym, ap, ◌∙◌, arith, true≢false}
use Rattle.std.specs.Prelude.{Some, None, nat_eq, if◌then◌else◌}
use Rattle.std.proofs.lemmas.Bool.{cases_eq}
use Rattle.std.proofs.lemmas.Bool.Decides.{nat_tests}
use Rattle.isp_base.specs.Sets.{Mask}
use Rattle.isp_base.specs.Maps.{Lanes, on, over, or_old, put}
use Rattle.isp_base.specs.declared.types.Rate.{Rate}
use Rattle.isp_base.specs.declared.types.Rate.TheVariants.{Uniform, Varying}
use Rattle.isp_typed.specs.Scoped.{Scope}
use Rattle.isp_meaning.specs.Payloads.{Payload, One, Each, spread}
use Rattle.isp_meaning.specs.Outcomes.{Gives, Done}
use Rattle.isp_meaning.specs.Places.{written}
use Rattle.isp_solo_meaning.specs.Alone.{Alone, written as own_written}
use Rattle.isp_solo_meaning.specs.Answers.{Has}
use Rattle.isp_solo_laws.specs.Stands.{World, AreSome}
use Rattle.isp_solo_laws.specs.Values.{AnswersAlone, Stand}
use Rattle.isp_solo_laws.specs.Statements.{ActSim}
use Rattle.isp_solo_laws.proofs.Lanes.{one_is}

pub put_here : {A : Type 0} (f : ℕ → A) (k n : ℕ) (x : A) → n ≡ k → put f k x n ≡ x
put_here f k n x e = let t : nat_eq n k ≡ true = grind (arith, e, nat_tests) in ap (λ b. if b then x else f n) t

pub put_there : {A : Type 0} (f : ℕ → A) (k n : ℕ) (x : A) → (n ≡ k → ⊥) → put f k x n ≡ f n
put_there f k n x e = let t : nat_eq n k ≡ false = grind (arith, e, nat_tests) in ap (λ b. if b then x else f n) t

-- a member's variable is written, another's stays
abbrev pub put_if : Bool → (ℕ → ℕ) → ℕ → ℕ → ℕ → ℕ
put_if true f k x = put f k x
put_if false f k x = f

put_if_there : (t : Bool) (f : ℕ → ℕ) (k n x : ℕ) → (n ≡ k → ⊥) → put_if t f k x n ≡ f n
put_if_there true f k n x e = put_there f k n x e
put_if_there false f k n x e = refl

put_if_here : (t : Bool) (f : ℕ → ℕ) (k n x : ℕ) → t ≡ true → n ≡ k → put_if t f k x n ≡ x
put_if_here true f k n x i e = put_here f k n x e
put_if_here false f k n x i e = absurd (true≢false (sym i))

module _ (w : World) (closed : ℕ → Bool) (v v1 : Scope) (a : Mask) (some : AreSome w.gang a) where
  -- a variable is written for the members: a uniform one with the one value, and none that is closed
  pub written_sim : (r : Rate) (k : ℕ) (m : Payload) (y : ℕ → ℕ) → Stand w.gang a r m y → (r ≡ Uniform → closed k ≡ false) → ((n : ℕ) → v1 n ≡ true → (n ≡ k → ⊥) → v n ≡ true) → (r ≡ Varying → (n : ℕ) → v1 n ≡ true → v n ≡ true)
      → ActSim w closed v v1 a (λ s. Gives tt (written r k a m s)) (λ p s. Has tt (own_written r k (y p) s))
  written_sim Varying k m y h open_ older wider = record {
    go = λ s σ st sa ends.
        record {
          s = written Varying k a m s;
          after = λ p. record (σ p) { varying = put_if (a p) (σ p).varying k (y p) };
          is = refl;
          alone = λ p. alone_if (a p) (σ p) (y p);
          quiet = λ n i. refl;
          own_quiet = λ p n i. refl;
          same = λ p n i j. sa p n i (wider refl n j);
          stands = record {
            varying_is = λ n p. written_is s.varying (σ p).varying n p (h.at p) (λ u. st.varying_is u p);
            own_is = st.own_is;
            result_is = st.result_is;
            stored = st.stored;
            unstored = st.unstored;
            within = λ p lt. record { read = (st.within p lt).read; wrote = (st.within p lt).wrote };
            silent = st.silent;
          };
        };
  } where
    alone_if : (t : Bool) (s : Alone) (x : ℕ) → AnswersAlone {A = Done} t (Has tt (own_written Varying k x s)) s tt (record s { varying = put_if t s.varying k x })
    alone_if true s x = refl
    alone_if false s x = refl

    old_or_new : (t : Bool) (x o q : ℕ) → o ≡ q → or_old (if t then Some x else None) o ≡ (if t then x else q)
    old_or_new true x o q e = refl
    old_or_new false x o q e = e

    put_if_is : (t : Bool) (f : ℕ → ℕ) (n x : ℕ) → n ≡ k → put_if t f k x n ≡ (if t then x else f k)
    put_if_is true f n x e = put_here f k n x e
    put_if_is false f n x e = ap f e

    written_is : (vs : ℕ → Lanes) (own : ℕ → ℕ) (n p : ℕ) → spread a m p ≡ on a y p → ((u : ℕ) → vs u p ≡ own u) → put vs k (over (spread a m) (vs k)) n p ≡ put_if (a p) own k (y p) n
    written_is vs own n p i e = at (cases_eq n k) where
      at : (n ≡ k) ⊎ (n ≡ k → ⊥) → put vs k (over (spread a m) (vs k)) n p ≡ put_if (a p) own k (y p) n
      at (inl d) = ap (λ f. f p) (put_here vs k n (over (spread a m) (vs k)) d) ∙ ap (λ o. or_old o (vs k p)) i ∙ old_or_new (a p) (y p) (vs k p) (own k) (e k) ∙ sym (put_if_is (a p) own n (y p) d)
      at (inr d) = ap (λ f. f p) (put_there vs k n (over (spread a m) (vs k)) d) ∙ e n ∙ sym (put_if_there (a p) own k n (y p) d)
  written_sim Uniform k (Each x) y h open_ older wider = absurd (h.one some.some refl)
  written_sim Uniform k (One c) y h open_ older wider = record {
    go = λ s σ st sa ends.
        record {
          s = written Uniform k a (One c) s;
          after = λ p. record (σ p) { uniforms = put_if (a p) (σ p).uniforms k (y p) };
          is = refl;
          alone = λ p. alone_if (a p) (σ p) (y p);
          quiet = λ n i. put_there s.uniforms k n c (other n i);
          own_quiet = λ p n i. put_if_there (a p) (σ p).uniforms k n (y p) (other n i);
          same = λ p n i j. both (σ p).uniforms s.uniforms p n i (λ d. sa p n i (older n j d)) (cases_eq n k);
          stands = record {
            varying_is = st.varying_is;
            own_is = st.own_is;
            result_is = st.result_is;
            stored = st.stored;
            unstored = st.unstored;
            within = λ p lt. record { read = (st.within p lt).read; wrote = (st.within p lt).wrote };
            silent = st.silent;
          };
        };
  } where
    alone_if : (t : Bool) (s : Alone) (x : ℕ) → AnswersAlone {A = Done} t (Has tt (own_written Uniform k x s)) s tt (record s { uniforms = put_if t s.uniforms k x })
    alone_if true s x = refl
    alone_if false s x = refl

    other : (n : ℕ) → closed n ≡ true → n ≡ k → ⊥
    other n i e = true≢false (sym i ∙ ap closed e ∙ open_ refl)

    both : (f u : ℕ → ℕ) (p n : ℕ) → a p ≡ true → ((n ≡ k → ⊥) → f n ≡ u n) → (n ≡ k) ⊎ (n ≡ k → ⊥) → put_if (a p) f k (y p) n ≡ put u k c n
    both f u p n i e (inl d) = put_if_here (a p) f k n (y p) i d ∙ sym (one_is a c y p (h.at p) i) ∙ sym (put_here u k n c d)
    both f u p n i e (inr d) = put_if_there (a p) f k n (y p) d ∙ e d ∙ sym (put_there u k n c d)
