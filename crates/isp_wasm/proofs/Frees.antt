-- A vector whose lanes that are off may become anything: all lanes get what is worked out.
use Rattle.std.proofs.Common.{◌≡◌, ℕ, suc, ◌+◌, ◌*◌, ◌<◌, List, Some, Bool, true, false, refl, sym, ap, ◌∙◌, subst}
use Rattle.std.specs.Prelude.{slice_get, if◌then◌else◌}
use Rattle.isp_base.specs.Maps.{Lanes as AllLanes, Map, over, put}
use Rattle.isp_code.specs.Conf.{Conf, Go}
use Rattle.isp_code.specs.Lines.{act, set_vector}
use Rattle.isp_code.specs.declared.instr.Instr.TheVariants as instr
use Rattle.isp_code.specs.declared.instr.VectorInstr.{VectorInstr}
use Rattle.isp_code.specs.declared.register.Register.{Register}
use Rattle.isp_forms.specs.Runs.{forgotten}
use Rattle.isp_forms.specs.Writes.{mask_under}
use Rattle.isp_forms.specs.declared.form.Form.TheVariants.{Free}
use Rattle.isp_wasm_meaning.specs.Syntax.{Local}
use Rattle.isp_wasm_meaning.specs.Meaning.{State, Result, Fell, run, lane, count}
use Rattle.isp_wasm_meaning.specs.Ladder.{Meets}
use Rattle.isp_wasm.specs.Places as place
use Rattle.isp_wasm.specs.Places.{Setting, Counter, Fresh, elem, shape, parts, gang}
use Rattle.isp_wasm.specs.Rows.{cell}
use Rattle.isp_wasm.specs.Templates.{put_lanes}
use Rattle.isp_wasm.specs.Standing.{Stands, Holds, Keeps, all_of, IsSettled, the_machine, vector_register}
use Rattle.isp_wasm.proofs.Frames.{put_same, holds_vector, holds_again}
use Rattle.isp_wasm.proofs.Steps.{falls_free}
use Rattle.isp_wasm.proofs.Parts.{AreSet, are_set}
use Rattle.isp_wasm.proofs.Rows.{enough}

chosen_same : (b : Bool) (x old o : ℕ) → (if b then x else old) ≡ o → x ≡ (if b then o else x)
chosen_same true x old o e = e
chosen_same false x old o e = refl

module _ (w : Setting) (ready : IsSettled w) (fuel n k : ℕ) (call : ℕ → List ℕ → State → Result) (pc : ℕ) (c : Conf) (s : State) (st : Stands w pc c s) where
  abbrev Good : Result → Type 0
  Good = Meets (the_machine w) (w.local Counter) n fuel (Stands w (pc + 1)) (suc k) c

  -- the machine goes on with a vector whose lanes that are off become anything
  abbrev pub Frees : ℕ → Map → Register → Type 0
  Frees d x m =
      (old : AllLanes) (t : State) → t.out ≡ s.out → Holds w c.scalars (forgotten (set_vector c (vector_register d) x) d (c.masks m.number) old).vectors c.masks t.locals → Keeps w (all_of w c) t.memory t.size → Good (Fell t)

  pub all_fall : (m : Register) (d : ℕ) (x : Map) (v : AllLanes) (l : ℕ → ℕ) → Frees d x m
      → ((p : ℕ) → p < gang w → (if c.masks m.number p then v p else c.vectors d p) ≡ over x (c.vectors d) p)
      → Holds w c.scalars c.vectors c.masks l
      → ((j q : ℕ) → q < count (shape w (vector_register d)) → j * count (shape w (vector_register d)) + q < gang w
      → lane (shape w (vector_register d)) q (l (w.local (Fresh j))) ≡ cell (elem w (vector_register d)) (v (j * count (shape w (vector_register d)) + q)))
      → Good (run fuel call (put_lanes w Free (vector_register d) m) (record s { locals = l }))
  all_fall m d x v l goes where_on held fresh =
      subst Good (sym set.fell)
      (goes v (record s { locals = set.locals }) refl
      (holds_again w c.scalars c.vectors c.masks set.locals d (over x (c.vectors d)) new
      (holds_vector w c.scalars c.vectors c.masks l set.locals d new held lanes (λ p kept out. set.others p (λ i l e. out (i, e)))))
      st.keeps)
    where
      sh : ℕ
      sh = count (shape w (vector_register d))

      -- what the register has then
      new : AllLanes
      new p = if c.masks m.number p then put c.vectors d (over x (c.vectors d)) d p else v p

      set : AreSet w (place.Vector d) (parts w (shape w (vector_register d))) (λ j. Local (w.local (Fresh j))) (record s { locals = l }) (run fuel call (put_lanes w Free (vector_register d) m) (record s { locals = l }))
      set = are_set w ready fuel call (place.Vector d) (λ i j e. cc) (λ j. Local (w.local (Fresh j))) (record s { locals = l }) (λ j m same. same (Fresh j) (λ i q e. cc)) (parts w (shape w (vector_register d)))

      new_is : (p : ℕ) → p < gang w → v p ≡ new p
      new_is p q =
          chosen_same (c.masks m.number p) (v p) (c.vectors d p) (over x (c.vectors d) p) (where_on p q)
          ∙ ap (λ (z : AllLanes). if c.masks m.number p then z p else v p) (sym (put_same c.vectors d (over x (c.vectors d)) d refl))

      lanes : (j q : ℕ) → q < sh → j * sh + q < gang w → lane (shape w (vector_register d)) q (set.locals (w.local (place.Vector d j))) ≡ cell (elem w (vector_register d)) (new (j * sh + q))
      lanes j q a b =
          ap (lane (shape w (vector_register d)) q) (set.set_to j (enough w (shape w (vector_register d)) j q b))
          ∙ fresh j q a b ∙ ap (cell (elem w (vector_register d))) (new_is (j * sh + q) b)

  pub frees_fall : (i : VectorInstr) (d : ℕ) (x : Map) (v : AllLanes) (l : ℕ → ℕ) → w.forms w.home.fn pc ≡ Free → slice_get w.routine.code pc ≡ Some (instr.Vector (vector_register d) i)
      → act w.code w.routine c (instr.Vector (vector_register d) i) ≡ Go (set_vector c (vector_register d) x)
      → ((p : ℕ) → p < gang w → (if c.masks (mask_under i).number p then v p else c.vectors d p) ≡ over x (c.vectors d) p)
      → Holds w c.scalars c.vectors c.masks l
      → ((j q : ℕ) → q < count (shape w (vector_register d)) → j * count (shape w (vector_register d)) + q < gang w
      → lane (shape w (vector_register d)) q (l (w.local (Fresh j))) ≡ cell (elem w (vector_register d)) (v (j * count (shape w (vector_register d)) + q)))
      → Good (run fuel call (put_lanes w Free (vector_register d) (mask_under i)) (record s { locals = l }))
  frees_fall i d x v l form has is where_on held fresh =
      all_fall (mask_under i) d x v l (λ old t out holds keeps. falls_free w ready fuel n k pc c s (vector_register d) i st has x old t form is out holds keeps) where_on held fresh
