-- The template of a text that is written.
use Rattle.std.proofs.Common.{◌≡◌, ℕ, suc, ◌+◌, List, ◌++◌, length, Some, refl, sym, ap, ap₂, ◌∙◌, subst, mod-eq_of_lt}
use Rattle.std.specs.Prelude.{slice_get, nat_le}
use Rattle.std.proofs.lemmas.Bool.{le-leb, cond-true}
use Rattle.isp_code.specs.Conf.{Conf, Say}
use Rattle.isp_code.specs.Lines.{next}
use Rattle.isp_code.specs.declared.instr.Instr.TheVariants as instr
use Rattle.isp_wasm_meaning.specs.Syntax.{Write, Const32}
use Rattle.isp_wasm_meaning.specs.Meaning.{State, Result, Fell, Trapped, run, inside, bytes}
use Rattle.isp_wasm_meaning.specs.Ladder.{Meets}
use Rattle.isp_wasm.specs.Places.{Setting, Counter, text}
use Rattle.isp_wasm.specs.Standing.{Stands, IsSettled, the_machine}
use Rattle.isp_wasm.proofs.Steps.{step_is}

module _ (w : Setting) (ready : IsSettled w) (fuel n k : ℕ) (call : ℕ → List ℕ → State → Result) where
  abbrev pub Good : ℕ → Conf → Result → Type 0
  Good pc = Meets (the_machine w) (w.local Counter) n fuel (Stands w pc) (suc k)

  written : (pc : ℕ) (c : Conf) (s : State) (t : ℕ) → Stands w pc c s → run fuel call (Write (Const32 (w.text_at t)) (Const32 (length (text w t)))) s ≡ Fell (record s { out = s.out ++ text w t })
  written pc c s t st =
      ap₂ (λ a m. inside m a s (Fell (record s { out = s.out ++ bytes m a s.memory }))) (mod-eq_of_lt (ready.text_low t).0) (mod-eq_of_lt (ready.text_low t).1)
      ∙ cond-true (nat_le (w.text_at t + length (text w t)) s.size) (Fell (record s { out = s.out ++ bytes (length (text w t)) (w.text_at t) s.memory })) (Trapped _ s) (le-leb (w.text_at t + length (text w t)) s.size (st.keeps.text_room t))
      ∙ ap (λ xs. Fell (record s { out = s.out ++ xs })) (st.keeps.texts t)

  pub says_fall : (pc : ℕ) (c : Conf) (s : State) (t : ℕ) → Stands w pc c s → slice_get w.routine.code pc ≡ Some (instr.Say t) → Good (pc + 1) c (run fuel call (Write (Const32 (w.text_at t)) (Const32 (length (text w t)))) s)
  says_fall pc c s t st has =
      subst (Good (pc + 1) c) (sym (written pc c s t st))
      (record {
        conf = record c { pc = c.pc + 1; out = c.out ++ text w t };
        steps = 1;
        goes = step_is w ready pc c s (instr.Say t) (Say (text w t) (next c)) st has refl;
        stands =
            record {
              home_is = st.home_is;
              waiting_is = st.waiting_is;
              pc_is = ap (λ p. p + 1) st.pc_is;
              out_is = ap (λ xs. xs ++ text w t) st.out_is;
              holds = st.holds;
              keeps = st.keeps;
            };
      })
