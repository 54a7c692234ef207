-- Parts that are set one after the other.
use Rattle.std.proofs.Common.{◌≡◌, ℕ, zero, suc, ◌+◌, ◌*◌, ◌<◌, ◌≢◌, ◌⊎◌, inl, inr, List, Option, refl, sym, ap, ◌∙◌, subst, arith}
use Rattle.std.proofs.lemmas.Bool.{cases_eq}
use Rattle.isp_wasm_meaning.specs.Syntax.{Shape, Expr, Code, Set}
use Rattle.isp_wasm_meaning.specs.Meaning.{Report, State, Result, Fell, Trapped, run, value, behind, set_local, then_to, lane, count}
use Rattle.isp_wasm.specs.Places.{Setting, Place, Fresh, IsKept}
use Rattle.isp_wasm.specs.Templates.{each}
use Rattle.isp_wasm.specs.Standing.{IsSettled}
use Rattle.isp_wasm.proofs.Frames.{there, elsewhere, Alike}
use Rattle.isp_wasm.proofs.Rows.{IsRow}

-- only the first n parts of a row are other than they were
abbrev pub Outside : (ℕ → Place) → ℕ → Place → Type 0
Outside row n p = (i : ℕ) → i < n → p ≡ row i → ⊥

pub record AreSet (w : Setting) (row : ℕ → Place) (n : ℕ) (new : ℕ → Expr) (s : State) (r : Result) : Type 0 where
  pub locals : ℕ → ℕ
  pub fell : r ≡ Fell (record s { locals = locals })
  pub set_to : (j : ℕ) → j < n → locals (w.local (row j)) ≡ value s.locals (new j)
  pub others : (p : Place) → Outside row n p → locals (w.local p) ≡ s.locals (w.local p)

-- each part's new value is the same where the parts before it are set
abbrev pub IsParallel : (w : Setting) → (ℕ → Place) → (ℕ → Expr) → (ℕ → ℕ) → Type 0
IsParallel w row new l = (j : ℕ) (m : ℕ → ℕ) → ((p : Place) → Outside row j p → m (w.local p) ≡ l (w.local p)) → value m (new j) ≡ value l (new j)

module _ (w : Setting) (ready : IsSettled w) (fuel : ℕ) (call : ℕ → List ℕ → State → Result) (row : ℕ → Place) (apart : (i j : ℕ) → row i ≡ row j → i ≡ j) (new : ℕ → Expr) (s : State) (parallel : IsParallel w row new s.locals) where
  part : ℕ → Code
  part j = Set (w.local (row j)) (new j)

  one_more : (n : ℕ) (r : Result) → AreSet w row n new s r → AreSet w row (suc n) new s (then_to r (λ t. run fuel call (Set (w.local (row n)) (new n)) t))
  one_more n r a =
      let t : State = record s { locals = a.locals } in
      let v = value a.locals (new n) in
      record {
        locals = (set_local (w.local (row n)) v t).locals;
        fell = ap (λ x. then_to x (λ t. run fuel call (Set (w.local (row n)) (new n)) t)) a.fell;
        set_to = λ j low. by j low (cases_eq j n);
        others = λ p out. elsewhere w ready (row n) p v t (out n (omega arith)) ∙ a.others p (λ i l. out i (omega arith));
      }
    where
      by : (j : ℕ) → j < suc n → (j ≡ n) ⊎ (j ≡ n → ⊥) → (set_local (w.local (row n)) (value a.locals (new n)) (record s { locals = a.locals })).locals (w.local (row j)) ≡ value s.locals (new j)
      by j low (inl e) =
          subst (λ i. (set_local (w.local (row n)) (value a.locals (new n)) (record s { locals = a.locals })).locals (w.local (row i)) ≡ value s.locals (new i)) (sym e)
          (there w ready (row n) (value a.locals (new n)) (record s { locals = a.locals }) ∙ parallel n a.locals a.others)
      by j low (inr ne) =
          elsewhere w ready (row n) (row j) (value a.locals (new n)) (record s { locals = a.locals }) (λ e. ne (apart j n e)) ∙ a.set_to j (omega arith)

  pub are_set : (n : ℕ) → AreSet w row n new s (run fuel call (each n (λ j. Set (w.local (row j)) (new j))) s)
  are_set zero = record { locals = s.locals; fell = refl; set_to = λ j low. absurd (omega arith); others = λ p out. refl }
  are_set (suc n) = one_more n (run fuel call (each n (λ j. Set (w.local (row j)) (new j))) s) (are_set n)

-- ---- parts that may trap: what holds before part j and after it, or what is reported

pub record Kept (I : State → Type 0) (r : Result) : Type 0 where
  pub state : State
  pub fell : r ≡ Fell state
  pub holds : I state

pub record Told (T : Option Report → State → Type 0) (r : Result) : Type 0 where
  pub state : State
  pub report : Option Report
  pub trapped : r ≡ Trapped report state
  pub holds : T report state

-- an if ends as its branch does, where that falls through or traps
pub ends_behind : (I : State → Type 0) (T : Option Report → State → Type 0) (r : Result) → Kept I r ⊎ Told T r → behind r ≡ r
ends_behind I T r (inl k) = ap behind k.fell ∙ sym k.fell
ends_behind I T r (inr t) = ap behind t.trapped ∙ sym t.trapped

module _ (fuel : ℕ) (call : ℕ → List ℕ → State → Result) (body : ℕ → Code) (I : ℕ → State → Type 0) (T : Option Report → State → Type 0) where
  pub each_part : (n : ℕ) → ((j : ℕ) → j < n → (t : State) → I j t → Kept (I (suc j)) (run fuel call (body j) t) ⊎ Told T (run fuel call (body j) t)) → (s : State) → I 0 s
      → Kept (I n) (run fuel call (each n body) s) ⊎ Told T (run fuel call (each n body) s)
  each_part zero step s h = inl (record { state = s; fell = refl; holds = h })
  each_part (suc n) step s h = by (each_part n (λ j l. step j (omega arith)) s h)
    where
      from : (k : Kept (I n) (run fuel call (each n body) s)) → Kept (I (suc n)) (run fuel call (body n) k.state) ⊎ Told T (run fuel call (body n) k.state)
          → Kept (I (suc n)) (run fuel call (each (suc n) body) s) ⊎ Told T (run fuel call (each (suc n) body) s)
      from k (inl a) = inl (record { state = a.state; fell = ap (λ r. then_to r (run fuel call (body n))) k.fell ∙ a.fell; holds = a.holds })
      from k (inr a) = inr (record { state = a.state; report = a.report; trapped = ap (λ r. then_to r (run fuel call (body n))) k.fell ∙ a.trapped; holds = a.holds })

      by : Kept (I n) (run fuel call (each n body) s) ⊎ Told T (run fuel call (each n body) s) → Kept (I (suc n)) (run fuel call (each (suc n) body) s) ⊎ Told T (run fuel call (each (suc n) body) s)
      by (inl k) = from k (step n (omega arith) k.state k.holds)
      by (inr a) = inr (record { state = a.state; report = a.report; trapped = ap (λ r. then_to r (run fuel call (body n))) a.trapped; holds = a.holds })

-- ---- new values, worked out before a register is written

-- so many parts are worked out: lanes f of a shape
pub record AreFresh (w : Setting) (b : ℕ) (s : Shape) (f : ℕ → ℕ) (m : ℕ) (t : State) (r : Result) : Type 0 where
  pub locals : ℕ → ℕ
  pub fell : r ≡ Fell (record t { locals = locals })
  pub alike : Alike w t.locals locals
  pub lanes : (j i : ℕ) → j < m → i < count s → j * count s + i < b → lane s i (locals (w.local (Fresh j))) ≡ f (j * count s + i)

module _ (w : Setting) (ready : IsSettled w) (fuel : ℕ) (call : ℕ → List ℕ → State → Result) (b : ℕ) (s : Shape) (f : ℕ → ℕ) (new : ℕ → Expr) (t : State)
    (is : (l : ℕ → ℕ) → Alike w t.locals l → IsRow b s l new f) where
  next_fresh : (m : ℕ) (r : Result) → AreFresh w b s f m t r → AreFresh w b s f (suc m) t (then_to r (λ u. run fuel call (Set (w.local (Fresh m)) (new m)) u))
  next_fresh m r a =
      let u : State = record t { locals = a.locals } in
      let v = value a.locals (new m) in
      record {
        locals = (set_local (w.local (Fresh m)) v u).locals;
        fell = ap (λ x. then_to x (λ u. run fuel call (Set (w.local (Fresh m)) (new m)) u)) a.fell;
        alike = λ p kept. elsewhere w ready (Fresh m) p v u (λ e. subst IsKept e kept) ∙ a.alike p kept;
        lanes = λ j i low q x. by j i low q x (cases_eq j m);
      }
    where
      by : (j i : ℕ) → j < suc m → i < count s → j * count s + i < b → (j ≡ m) ⊎ (j ≡ m → ⊥)
          → lane s i ((set_local (w.local (Fresh m)) (value a.locals (new m)) (record t { locals = a.locals })).locals (w.local (Fresh j))) ≡ f (j * count s + i)
      by j i low q x (inl e) =
          ap (λ h. lane s i ((set_local (w.local (Fresh m)) (value a.locals (new m)) (record t { locals = a.locals })).locals (w.local (Fresh h)))) e
          ∙ ap (lane s i) (there w ready (Fresh m) (value a.locals (new m)) (record t { locals = a.locals }))
          ∙ subst (λ h. h * count s + i < b → lane s i (value a.locals (new h)) ≡ f (h * count s + i)) e (is a.locals a.alike j i q) (subst (λ h. h * count s + i < b) e x)
          ∙ ap (λ h. f (h * count s + i)) (sym e)
      by j i low q x (inr ne) =
          let other : j ≢ m = ne in
          ap (lane s i) (elsewhere w ready (Fresh m) (Fresh j) (value a.locals (new m)) (record t { locals = a.locals }) (λ e. ne cc)) ∙ a.lanes j i (omega arith) q x

  pub are_fresh : (m : ℕ) → AreFresh w b s f m t (run fuel call (each m (λ j. Set (w.local (Fresh j)) (new j))) t)
  are_fresh zero = record { locals = t.locals; fell = refl; alike = λ p kept. refl; lanes = λ j i low q x. absurd (omega arith) }
  are_fresh (suc m) = next_fresh m (run fuel call (each m (λ j. Set (w.local (Fresh j)) (new j))) t) (are_fresh m)
