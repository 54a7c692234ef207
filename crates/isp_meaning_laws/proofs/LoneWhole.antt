-- The law: expressions, statements and whole runs.
use Rattle.std.proofs.Common.{◌≡◌, ℕ, zero, suc, inl, Bool, true, false, refl, sym, ◌∙◌, arith, true≢false}
use Rattle.std.specs.Prelude.{List, [], ◌∷◌, ◌+◌, take, length, not, ◌&&◌}
use Rattle.isp_base.specs.Arguments.{rows}
use Rattle.isp_base.specs.Binding.{is_for, has_signature}
use Rattle.isp_base.specs.Types.{gang_width}
use Rattle.isp_base.specs.declared.signature.Argument.{Argument}
use Rattle.isp_base.specs.declared.signature.Argument.TheVariants.{Value as AValue, Array as AnArray}
use Rattle.isp_base.specs.declared.signature.Parameter.{Parameter}
use Rattle.isp_typed.specs.declared.variable.Holds.{Holds}
use Rattle.isp_typed.specs.declared.variable.Holds.TheVariants as holds
use Rattle.isp_typed.specs.declared.variable.Variable.{Variable as AVar}
use Rattle.isp_typed.specs.Fine.{IsParam, AreParams}
use Rattle.isp_meaning.specs.Calls.{calls_at}
use Rattle.isp_meaning.specs.Expressions.{Values, Store}
use Rattle.isp_meaning.specs.Payloads.{One}
use Rattle.isp_meaning.specs.Runs.{handed, first_frame, first_state, no_place}
use Rattle.isp_solo_meaning.specs.Calls.{own_calls}
use Rattle.isp_solo_meaning.specs.Runs.{bound, fresh}
use Rattle.isp_meaning_laws.specs.Lone.{LooksAtNobody, World, LoneIsAlone}
use Rattle.isp_meaning_laws.proofs.LoneValues.{PassedIs, AllPassed, value_came}
use Rattle.isp_meaning_laws.proofs.LoneDoes.{run_left}
use Rattle.isp_meaning_laws.proofs.LoneAsked.{fair, fair_stmt}
use Rattle.isp_meaning_laws.proofs.LoneCalls.{frame_opens, fine, calls_agree}

-- ---- what a run begins with

and_left : (x y : Bool) → (x && y) ≡ true → x ≡ true
and_left true y e = refl
and_left false y e = e

and_right : (x y : Bool) → (x && y) ≡ true → y ≡ true
and_right true y e = e
and_right false y e = absurd (true≢false (sym e))

-- an array is one of those that are bound
handed_passed : (w : World) (n : ℕ) (vs : List AVar) (ps : List Parameter) (xs : List Argument) (b : ℕ) → AreParams ps (take n vs)
    → has_signature ps xs ≡ true → b + length (rows xs) ≡ w.frame.opened → AllPassed w (take n vs) (handed b xs) (handed b xs)
handed_passed w n vs [] (x ∷ xs) b a e l = absurd (true≢false (sym e))
handed_passed w n vs (p ∷ ps) [] b a e l = absurd (true≢false (sym e))
handed_passed w zero [] [] [] b a e l = tt
handed_passed w (suc n) [] [] [] b a e l = tt
handed_passed w zero (v ∷ vs) [] [] b a e l = tt
handed_passed w (suc n) (v ∷ vs) [] [] b a e l = absurd a
handed_passed w zero [] (p ∷ ps) (x ∷ xs) b a e l = absurd a
handed_passed w (suc n) [] (p ∷ ps) (x ∷ xs) b a e l = absurd a
handed_passed w zero (v ∷ vs) (p ∷ ps) (x ∷ xs) b a e l = absurd a
handed_passed w (suc n) (v ∷ vs) (p ∷ ps) (AValue y ∷ xs) b a e l = (value v.holds a.0 _, handed_passed w n vs ps xs b a.1 (and_right (is_for p (AValue y)) (has_signature ps xs) e) l) where
  no_array : (s : Bool) → not s ≡ true → s ≡ true → ⊥
  no_array true e d = true≢false (sym e)
  no_array false e d = true≢false (sym d)

  is_value : not p.is_array ≡ true
  is_value = and_left (not p.is_array) _ (and_left (is_for p (AValue y)) (has_signature ps xs) e)

  value : (o : Holds) → IsParam p o → (z : ℕ) → PassedIs w o (Values (One z)) (Values (One z))
  value (holds.Value t) i z = (z, refl, inl refl)
  value (holds.Given u) i z = absurd (no_array p.is_array is_value i.0)
  value (holds.Local t m) i z = absurd i
handed_passed w (suc n) (v ∷ vs) (p ∷ ps) (AnArray r ∷ xs) b a e l = (array v.holds a.0, handed_passed w n vs ps xs (suc b) a.1 (and_right (is_for p (AnArray r)) (has_signature ps xs) e) (omega (arith, l))) where
  is_array : p.is_array ≡ true
  is_array = and_left p.is_array _ (and_left (is_for p (AnArray r)) (has_signature ps xs) e)

  array : (o : Holds) → IsParam p o → PassedIs w o (Store b) (Store b)
  array (holds.Value t) i = absurd (true≢false (sym is_array ∙ i.0))
  array (holds.Given u) i = (refl, omega (arith, l))
  array (holds.Local t m) i = absurd i

-- ---- the law

pub lone_is_alone : LoneIsAlone
lone_is_alone = record {
  expression = λ program most levels w g x s t accepted lt frame asked st.
      (value_came w (gang_width program.gang) lt program.functions (LooksAtNobody program) (calls_at program most levels) (own_calls program most w.begin w.instance levels) (calls_agree program most accepted levels w lt)
      x (fair w.frame program.functions (LooksAtNobody program) g.variables (frame_opens w.frame g frame) x asked.fine asked.rates asked.lonely asked.calls) s t st).by;
  statement = λ program most levels w g around x s t accepted lt frame asked st.
      (run_left w (gang_width program.gang) lt program.functions (LooksAtNobody program) (calls_at program most levels) (own_calls program most w.begin w.instance levels) (calls_agree program most accepted levels w lt) most
      x (fair_stmt w.frame program.functions (LooksAtNobody program) g.variables (frame_opens w.frame g frame) asked.arrays g.answer frame.answer around x asked.fine asked.rates asked.lonely asked.calls) s t st).by;
  whole = λ program name f most h xs p accepted entry looks lt.
      let w : World = record { instance = p; begin = bound xs; out = []; frame = first_frame xs } in
      ((calls_agree program most accepted 256 w lt).go f h no_place (handed 0 xs) (handed 0 xs) (first_state xs) fresh entry.export.found looks
      (handed_passed w (length h.params) h.variables h.parameters xs 0 (fine program most accepted f h entry.export.found).params entry.fits (omega arith))
      (refl, λ v. refl, λ v e. refl, tt, (λ b e b_lt. refl, refl))).by;
}
