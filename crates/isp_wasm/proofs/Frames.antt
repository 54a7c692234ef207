-- Locals that are set, and the registers that they hold.
use Rattle.std.proofs.Common.{◌≡◌, ℕ, ◌+◌, ◌*◌, ◌^◌, ◌<◌, ◌⊎◌, inl, inr, true, refl, sym, ap, ◌∙◌, subst, eq-eqb}
use Rattle.std.specs.Prelude.{nat_eq}
use Rattle.std.proofs.lemmas.Bool.{ne_eqb, cond-true, cond-false, cases_eq}
use Rattle.isp_base.specs.Maps.{put, Lanes}
use Rattle.isp_base.specs.Sets as Sets
use Rattle.isp_base.specs.Values.{width}
use Rattle.isp_wasm_meaning.specs.Syntax.{I8x16}
use Rattle.isp_wasm_meaning.specs.Meaning.{State, set_local, lane, count, flags}
use Rattle.isp_wasm.specs.Places.{Setting, Place, Scalar, Vector, Mask, Base, Count, Depth, Top, IsKept, shape, elem, gang}
use Rattle.isp_wasm.specs.Rows.{cell}
use Rattle.isp_wasm.specs.Standing.{Holds, IsSettled, scalar_register, vector_register}

pub put_same : {A : Type 0} (f : ℕ → A) (d : ℕ) (x : A) (r : ℕ) → r ≡ d → put f d x r ≡ x
put_same f d x r e = cond-true (nat_eq r d) x (f r) (eq-eqb r d e)

pub put_other : {A : Type 0} (f : ℕ → A) (d : ℕ) (x : A) (r : ℕ) → (r ≡ d → ⊥) → put f d x r ≡ f r
put_other f d x r ne = cond-false (nat_eq r d) x (f r) (ne_eqb r d ne)

module _ (w : Setting) where
  -- frames that are the same but for what is of use within one instruction
  abbrev pub Alike : (ℕ → ℕ) → (ℕ → ℕ) → Type 0
  Alike l m = (p : Place) → IsKept p → m (w.local p) ≡ l (w.local p)

  -- and but for some places
  abbrev pub AlikeBut : (Place → Type 0) → (ℕ → ℕ) → (ℕ → ℕ) → Type 0
  AlikeBut P l m = (p : Place) → IsKept p → (P p → ⊥) → m (w.local p) ≡ l (w.local p)

  pub alike_trans : (l m n : ℕ → ℕ) → Alike l m → Alike m n → Alike l n
  alike_trans l m n a b p h = b p h ∙ a p h

  pub holds_alike : (sc : ℕ → ℕ) (ve : ℕ → Lanes) (ma : ℕ → Sets.Mask) (l m : ℕ → ℕ) → Holds w sc ve ma l → Alike l m → Holds w sc ve ma m
  holds_alike sc ve ma l m h a =
      record {
        scalars_are = λ r. a (Scalar r) tt ∙ h.scalars_are r;
        vectors_are = λ r j k p q. ap (lane (shape w (vector_register r)) k) (a (Vector r j) tt) ∙ h.vectors_are r j k p q;
        masks_are = λ r j k p. ap (lane I8x16 k) (a (Mask r j) tt) ∙ h.masks_are r j k p;
        fits = h.fits;
        members = h.members;
        bases = λ b. a (Base b) tt ∙ h.bases b;
        counts = λ b. a (Count b) tt ∙ h.counts b;
        depth = a Depth tt ∙ h.depth;
        top_is = a Top tt ∙ h.top_is;
      }

  pub holds_scalar : (sc : ℕ → ℕ) (ve : ℕ → Lanes) (ma : ℕ → Sets.Mask) (l m : ℕ → ℕ) (d v : ℕ) → Holds w sc ve ma l → v < 2 ^ width (elem w (scalar_register d)) → m (w.local (Scalar d)) ≡ v
      → AlikeBut (λ p. p ≡ Scalar d) l m → Holds w (put sc d v) ve ma m
  holds_scalar sc ve ma l m d v h fit is a =
      record {
        scalars_are = λ r. by r (cases_eq r d);
        vectors_are = λ r j k p q. ap (lane (shape w (vector_register r)) k) (a (Vector r j) tt (λ e. cc)) ∙ h.vectors_are r j k p q;
        masks_are = λ r j k p. ap (lane I8x16 k) (a (Mask r j) tt (λ e. cc)) ∙ h.masks_are r j k p;
        fits = λ r. fits_put r (cases_eq r d);
        members = h.members;
        bases = λ b. a (Base b) tt (λ e. cc) ∙ h.bases b;
        counts = λ b. a (Count b) tt (λ e. cc) ∙ h.counts b;
        depth = a Depth tt (λ e. cc) ∙ h.depth;
        top_is = a Top tt (λ e. cc) ∙ h.top_is;
      }
    where
      by : (r : ℕ) → (r ≡ d) ⊎ (r ≡ d → ⊥) → m (w.local (Scalar r)) ≡ put sc d v r
      by r (inl e) = ap (λ x. m (w.local (Scalar x))) e ∙ is ∙ sym (put_same sc d v r e)
      by r (inr ne) = a (Scalar r) tt (λ e. ne cc) ∙ h.scalars_are r ∙ sym (put_other sc d v r ne)

      fits_put : (r : ℕ) → (r ≡ d) ⊎ (r ≡ d → ⊥) → put sc d v r < 2 ^ width (elem w (scalar_register r))
      fits_put r (inl e) = subst (λ u. u < 2 ^ width (elem w (scalar_register r))) (sym (put_same sc d v r e)) (subst (λ x. v < 2 ^ width (elem w (scalar_register x))) (sym e) fit)
      fits_put r (inr ne) = subst (λ u. u < 2 ^ width (elem w (scalar_register r))) (sym (put_other sc d v r ne)) (h.fits r)

  -- a row of parts of a vector
  abbrev pub IsPart : ℕ → Place → Type 0
  IsPart d p = (j : ℕ) × (p ≡ Vector d j)

  pub holds_vector : (sc : ℕ → ℕ) (ve : ℕ → Lanes) (ma : ℕ → Sets.Mask) (l m : ℕ → ℕ) (d : ℕ) (f : Lanes) → Holds w sc ve ma l
      → ((j k : ℕ) → k < count (shape w (vector_register d)) → j * count (shape w (vector_register d)) + k < gang w
      → lane (shape w (vector_register d)) k (m (w.local (Vector d j))) ≡ cell (elem w (vector_register d)) (f (j * count (shape w (vector_register d)) + k)))
      → AlikeBut (IsPart d) l m → Holds w sc (put ve d f) ma m
  holds_vector sc ve ma l m d f h new a =
      record {
        scalars_are = λ r. a (Scalar r) tt (λ e. let f = e.1 in cc) ∙ h.scalars_are r;
        vectors_are = λ r j k p q. by r j k p q (cases_eq r d);
        masks_are = λ r j k p. ap (lane I8x16 k) (a (Mask r j) tt (λ e. let f = e.1 in cc)) ∙ h.masks_are r j k p;
        fits = h.fits;
        members = h.members;
        bases = λ b. a (Base b) tt (λ e. let f = e.1 in cc) ∙ h.bases b;
        counts = λ b. a (Count b) tt (λ e. let f = e.1 in cc) ∙ h.counts b;
        depth = a Depth tt (λ e. let f = e.1 in cc) ∙ h.depth;
        top_is = a Top tt (λ e. let f = e.1 in cc) ∙ h.top_is;
      }
    where
      by : (r j k : ℕ) → k < count (shape w (vector_register r)) → j * count (shape w (vector_register r)) + k < gang w → (r ≡ d) ⊎ (r ≡ d → ⊥)
          → lane (shape w (vector_register r)) k (m (w.local (Vector r j))) ≡ cell (elem w (vector_register r)) (put ve d f r (j * count (shape w (vector_register r)) + k))
      by r j k p q (inl e) =
          subst
          (λ r. k < count (shape w (vector_register r)) → j * count (shape w (vector_register r)) + k < gang w
          → lane (shape w (vector_register r)) k (m (w.local (Vector r j))) ≡ cell (elem w (vector_register r)) (put ve d f r (j * count (shape w (vector_register r)) + k)))
          (sym e)
          (λ p q. new j k p q ∙ ap (λ g. cell (elem w (vector_register d)) (g (j * count (shape w (vector_register d)) + k))) (sym (put_same ve d f d refl))) p q
      by r j k p q (inr ne) =
          ap (lane (shape w (vector_register r)) k) (a (Vector r j) tt (λ e. let f = e.1 in ne cc)) ∙ h.vectors_are r j k p q
          ∙ ap (λ g. cell (elem w (vector_register r)) (g (j * count (shape w (vector_register r)) + k))) (sym (put_other ve d f r ne))

  -- a register that is set twice
  pub holds_again : (sc : ℕ → ℕ) (ve : ℕ → Lanes) (ma : ℕ → Sets.Mask) (l : ℕ → ℕ) (d : ℕ) (f g : Lanes) → Holds w sc (put ve d g) ma l → Holds w sc (put (put ve d f) d g) ma l
  holds_again sc ve ma l d f g h =
      record {
        scalars_are = h.scalars_are;
        vectors_are = λ r j k p q. h.vectors_are r j k p q ∙ ap (λ u. cell (elem w (vector_register r)) (u (j * count (shape w (vector_register r)) + k))) (same r (cases_eq r d));
        masks_are = h.masks_are;
        fits = h.fits;
        members = h.members;
        bases = h.bases;
        counts = h.counts;
        depth = h.depth;
        top_is = h.top_is;
      }
    where
      same : (r : ℕ) → (r ≡ d) ⊎ (r ≡ d → ⊥) → put ve d g r ≡ put (put ve d f) d g r
      same r (inl e) = put_same ve d g r e ∙ sym (put_same (put ve d f) d g r e)
      same r (inr ne) = put_other ve d g r ne ∙ sym (put_other (put ve d f) d g r ne ∙ put_other ve d f r ne)

  abbrev pub IsMaskPart : ℕ → Place → Type 0
  IsMaskPart d p = (j : ℕ) × (p ≡ Mask d j)

  pub holds_mask : (sc : ℕ → ℕ) (ve : ℕ → Lanes) (ma : ℕ → Sets.Mask) (l m : ℕ → ℕ) (d : ℕ) (x : Sets.Mask) → Holds w sc ve ma l → ((p : ℕ) → x p ≡ true → p < gang w)
      → ((j k : ℕ) → k < 16 → lane I8x16 k (m (w.local (Mask d j))) ≡ flags 8 (x (j * 16 + k))) → AlikeBut (IsMaskPart d) l m → Holds w sc ve (put ma d x) m
  holds_mask sc ve ma l m d x h inside new a =
      record {
        scalars_are = λ r. a (Scalar r) tt (λ e. let f = e.1 in cc) ∙ h.scalars_are r;
        vectors_are = λ r j k p q. ap (lane (shape w (vector_register r)) k) (a (Vector r j) tt (λ e. let f = e.1 in cc)) ∙ h.vectors_are r j k p q;
        masks_are = λ r j k p. by r j k p (cases_eq r d);
        fits = h.fits;
        members = λ r p. members_put r p (cases_eq r d);
        bases = λ b. a (Base b) tt (λ e. let f = e.1 in cc) ∙ h.bases b;
        counts = λ b. a (Count b) tt (λ e. let f = e.1 in cc) ∙ h.counts b;
        depth = a Depth tt (λ e. let f = e.1 in cc) ∙ h.depth;
        top_is = a Top tt (λ e. let f = e.1 in cc) ∙ h.top_is;
      }
    where
      by : (r j k : ℕ) → k < 16 → (r ≡ d) ⊎ (r ≡ d → ⊥) → lane I8x16 k (m (w.local (Mask r j))) ≡ flags 8 (put ma d x r (j * 16 + k))
      by r j k p (inl e) =
          subst (λ r. lane I8x16 k (m (w.local (Mask r j))) ≡ flags 8 (put ma d x r (j * 16 + k))) (sym e) (new j k p ∙ ap (λ f. flags 8 (f (j * 16 + k))) (sym (put_same ma d x d refl)))
      by r j k p (inr ne) =
          ap (lane I8x16 k) (a (Mask r j) tt (λ e. let f = e.1 in ne cc)) ∙ h.masks_are r j k p ∙ ap (λ f. flags 8 (f (j * 16 + k))) (sym (put_other ma d x r ne))

      members_put : (r p : ℕ) → (r ≡ d) ⊎ (r ≡ d → ⊥) → put ma d x r p ≡ true → p < gang w
      members_put r p (inl e) g = inside p (sym (ap (λ f. f p) (put_same ma d x r e)) ∙ g)
      members_put r p (inr ne) g = h.members r p (sym (ap (λ f. f p) (put_other ma d x r ne)) ∙ g)

module _ (w : Setting) (ready : IsSettled w) where
  pub there : (x : Place) (v : ℕ) (s : State) → (set_local (w.local x) v s).locals (w.local x) ≡ v
  there x v s = cond-true (nat_eq (w.local x) (w.local x)) v (s.locals (w.local x)) (eq-eqb (w.local x) (w.local x) refl)

  pub elsewhere : (x y : Place) (v : ℕ) (s : State) → (y ≡ x → ⊥) → (set_local (w.local x) v s).locals (w.local y) ≡ s.locals (w.local y)
  elsewhere x y v s ne = cond-false (nat_eq (w.local y) (w.local x)) v (s.locals (w.local y)) (ne_eqb (w.local y) (w.local x) (λ e. ne (ready.apart y x e)))
