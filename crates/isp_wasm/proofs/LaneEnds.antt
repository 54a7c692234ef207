-- What the machine does where a loop over the lanes has set a vector register, or a lane trapped.
use Rattle.std.proofs.Common.{◌≡◌, ℕ, suc, ◌+◌, ◌<◌, ◌⊎◌, inl, inr, List, Some, None, Bool, true, false, ◌&&◌, refl, sym, ap, ◌∙◌, subst, arith, mod-eq_of_lt}
use Rattle.std.specs.Prelude.{slice_get, if◌then◌else◌}
use Rattle.isp_base.specs.Maps.{Map, over, put, holds}
use Rattle.isp_base.specs.Sets.{Mask, lowest}
use Rattle.isp_base.specs.Traps.{trap}
use Rattle.isp_base.specs.declared.trap.TrapKind.{TrapKind}
use Rattle.isp_code.specs.Calls.{place_at}
use Rattle.isp_code.specs.Conf.{Conf}
use Rattle.isp_code.specs.Lines.{act, set_vector, moved, unless}
use Rattle.isp_code.specs.declared.instr.Instr.{Instr}
use Rattle.isp_code.specs.declared.register.Register.{Register}
use Rattle.isp_wasm_meaning.specs.Syntax.{Code}
use Rattle.isp_wasm_meaning.specs.Meaning.{State, Result, Fell, Trapped}
use Rattle.isp_wasm_meaning.specs.Ladder.{Meets}
use Rattle.isp_wasm.specs.Places.{Setting, Counter, gang}
use Rattle.isp_wasm.specs.Standing.{all_of, Stands, Keeps, IsSettled, the_machine, kind_number, vector_register}
use Rattle.isp_wasm.proofs.Steps.{falls_on, fails_here}
use Rattle.isp_wasm.proofs.Parts.{Kept, Told}
use Rattle.isp_wasm.proofs.Vectors.{narrow}
use Rattle.isp_wasm.proofs.LaneLoops.{lowest_at, none_lowest, lowest_same, ill, fault_of, Sound, Refused, Filled, all_filled}

-- a test of the lanes that there are
pub one_test : (b : Bool) (f : ℕ → Bool) (v : ℕ) → holds f (if b then Some v else None) ≡ (b && f v)
one_test true f v = refl
one_test false f v = refl

module _ (w : Setting) (ready : IsSettled w) (fuel n k : ℕ) (call : ℕ → List ℕ → State → Result) (pc : ℕ) (c : Conf) (s : State) (st : Stands w pc c s) where
  abbrev pub Good : ℕ → Conf → Result → Type 0
  Good pc = Meets (the_machine w) (w.local Counter) n fuel (Stands w pc) (suc k)

  module _ (m : Register) (bad : Mask) (kind : TrapKind) (q : ℕ) (body : ℕ → Code) (I : ℕ → State → Type 0)
      (worse : Mask) (same_bad : (p : ℕ) → p < gang w → worse p ≡ (c.masks m.number p && bad p)) where
    -- no lane fails
    pub none_fails : (u : State) → Sound w fuel call c.masks m bad (kind_number w kind) q body I (gang w) u → lowest (gang w) worse ≡ None
    none_fails u f = none_lowest (gang w) worse (λ p l. same_bad p l ∙ f.sound p l)

    -- a lane fails; nothing is written, but perhaps locals
    pub lane_fails : (i : Instr) (A : Type 0) (x : A) (go : A → Conf) → slice_get w.routine.code pc ≡ Some i → act w.code w.routine c i ≡ moved (unless w.code w.routine c (lowest (gang w) worse) kind q x) go
        → ((p : ℕ) (u : State) → I p u → (u.out ≡ s.out) × Keeps w (all_of w c) u.memory u.size) → (r : Result) → Told (Refused w fuel call c.masks m bad (kind_number w kind) q body I) r → Good (pc + 1) c r
    lane_fails i A x go has is same r told =
        let f = told.holds in
        let kept = same f.number told.state f.inv in
        subst (Good (pc + 1) c) (sym (told.trapped ∙ ap (λ o. Trapped o told.state) f.report_is))
        (fails_here w ready fuel n k pc c s i st has (trap kind (place_at w.code q) f.number) told.state
        (is ∙ ap (λ o. moved (unless w.code w.routine c o kind q x) go) (lowest_same (gang w) worse (ill w fuel call c.masks m bad (kind_number w kind) q body I) same_bad ∙ lowest_at (gang w) f.number (ill w fuel call c.masks m bad (kind_number w kind) q body I) f.low f.outside f.before))
        kept.0 kept.1 (fault_of w fuel call c.masks m bad (kind_number w kind) q body I f.number)
        (ap (λ p. record { kind = kind_number w kind; start = (place_at w.code q).start; end = (place_at w.code q).end; instance = p }) (mod-eq_of_lt (let le = narrow w.code.gang in let l = f.low in omega arith))))

  filled_keeps : (d : ℕ) (m : Register) (v : ℕ → ℕ) (p : ℕ) (u : State) → Filled w ready fuel call c s d m v p u → (u.out ≡ s.out) × Keeps w (all_of w c) u.memory u.size
  filled_keeps d m v p u f = subst (λ u. (u.out ≡ s.out) × Keeps w (all_of w c) u.memory u.size) (sym f.is) (refl, st.keeps)

  pub filled_fails : (d : ℕ) (m : Register) (v : ℕ → ℕ) (bad : Mask) (kind : TrapKind) (q : ℕ) (body : ℕ → Code) (i : Instr) (worse : Mask) (A : Type 0) (x : A) (go : A → Conf)
      → slice_get w.routine.code pc ≡ Some i → act w.code w.routine c i ≡ moved (unless w.code w.routine c (lowest (gang w) worse) kind q x) go
      → ((p : ℕ) → p < gang w → worse p ≡ (c.masks m.number p && bad p)) → (r : Result)
      → Told (Refused w fuel call c.masks m bad (kind_number w kind) q body (Filled w ready fuel call c s d m v)) r → Good (pc + 1) c r
  filled_fails d m v bad kind q body i worse A x go has is same_bad r told =
      lane_fails m bad kind q body (Filled w ready fuel call c s d m v) worse same_bad i A x go has is (filled_keeps d m v) r told

  -- a vector register is set
  pub lanes_end : (d : ℕ) (m : Register) (v : ℕ → ℕ) (bad : Mask) (kind : TrapKind) (q : ℕ) (body : ℕ → Code) (i : Instr) (worse : Mask) (y : Map)
      → slice_get w.routine.code pc ≡ Some i → act w.code w.routine c i ≡ moved (unless w.code w.routine c (lowest (gang w) worse) kind q y) (set_vector c (vector_register d))
      → ((p : ℕ) → p < gang w → worse p ≡ (c.masks m.number p && bad p))
      → ((p : ℕ) → p < gang w → (c.masks m.number p && bad p) ≡ false → (if c.masks m.number p then v p else c.vectors d p) ≡ over y (c.vectors d) p) → (r : Result)
      → Kept (Sound w fuel call c.masks m bad (kind_number w kind) q body (Filled w ready fuel call c s d m v) (gang w)) r ⊎ Told (Refused w fuel call c.masks m bad (kind_number w kind) q body (Filled w ready fuel call c s d m v)) r
      → Good (pc + 1) c r
  lanes_end d m v bad kind q body i worse y has is same_bad same_got r (inl kept) =
      let f = kept.holds.inv in
      subst (Good (pc + 1) c) (sym (kept.fell ∙ ap Fell f.is))
      (falls_on w ready fuel n k pc c s i st has (record c { pc = c.pc + 1; vectors = put c.vectors d (over y (c.vectors d)) }) (record s { locals = f.locals })
      (is ∙ ap (λ o. moved (unless w.code w.routine c o kind q y) (set_vector c (vector_register d))) (none_fails m bad kind q body (Filled w ready fuel call c s d m v) worse same_bad kept.state kept.holds))
      refl refl refl refl
      (all_filled w ready fuel call c s d m v kept.state f (over y (c.vectors d)) (λ p l. same_got p l (kept.holds.sound p l)))
      st.keeps)
  lanes_end d m v bad kind q body i worse y has is same_bad same_got r (inr told) =
      filled_fails d m v bad kind q body i worse Map y (set_vector c (vector_register d)) has is same_bad r told
