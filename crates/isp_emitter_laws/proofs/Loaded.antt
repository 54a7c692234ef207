-- Which variables packed loads write is no part of how the machine stands for a state: a call is settled, and code in it runs, whatever its
-- layout says of them.
use Rattle.std.proofs.Common.{◌≡◌, ℕ, List, Bool, true, false, Some, None, sym, ◌∙◌}
use Rattle.isp_base.specs.Sets.{Mask}
use Rattle.isp_base.specs.declared.types.Rate.{Rate}
use Rattle.isp_base.specs.declared.types.Rate.TheVariants.{Uniform, Varying}
use Rattle.isp_base.specs.declared.types.Span.{Span}
use Rattle.isp_code.specs.Conf.{Conf}
use Rattle.isp_code.specs.declared.instr.Call.{Call}
use Rattle.isp_meaning.specs.Expressions.{Passed}
use Rattle.isp_meaning.specs.Outcomes.{Val, Gives, Fails, Stops, Done}
use Rattle.isp_meaning.specs.State.{State}
use Rattle.isp_typed.specs.Typed.{TFunction}
use Rattle.isp_typed.specs.declared.variable.ArrayVariable.{ArrayVariable}
use Rattle.isp_lower_code.specs.Layout.{HasNoRows, IsApart, KnowsNothing, SetsNone}
use Rattle.isp_lower_code.specs.Runs.{DoneRuns, Enters, Runs}
use Rattle.isp_lower_code.specs.Setting.{Setting, ArrayFits, ArrayFitsAt, IsCalling, IsSettled, Spares, Stands}
use Rattle.isp_lower_code.proofs.Lemmas.{none_known}

abbrev pub with_loaded : Setting → (ℕ → Bool) → Setting
with_loaded w k = record w { layout = record w.layout { loaded = k } }

module _ (w : Setting) (k : ℕ → Bool) where
  -- ---- the call is settled

  arrays_at : (r : Rate) (b : ArrayVariable) → ArrayFitsAt w r b → ArrayFitsAt (with_loaded w k) r b
  arrays_at Uniform b f = f
  arrays_at Varying b f = f

  array_fits : (b : ArrayVariable) → ArrayFits w b → ArrayFits (with_loaded w k) b
  array_fits b f = record { is = arrays_at b.ty.rate b f.is; below = f.below; few = f.few }

  calling : (i : Call) (g : TFunction) (pc q : ℕ) (sp : Span) (a : Mask) (ps : List Passed) (s : State) (c : Conf) → IsCalling (with_loaded w k) i g pc q sp a ps s c → IsCalling w i g pc q sp a ps s c
  calling i g pc q sp a ps s c f =
      record { function = f.function; here = f.here; place = f.place; at = f.at; mask = f.mask; some = f.some; inside = f.inside; hands = f.hands; result = f.result; arrays_are = f.arrays_are; out_is = f.out_is; used = f.used }

  pub settled_with : w.layout.run ≡ None → HasNoRows w.layout → SetsNone w.layout → KnowsNothing w.layout → IsApart (with_loaded w k).layout → IsSettled w → IsSettled (with_loaded w k)
  settled_with none rows unset nothing apart f =
      record {
        gang = f.gang;
        found = f.found;
        apart = apart;
        rates = f.rates;
        deep = f.deep;
        answer = f.answer;
        opened = f.opened;
        sizes = f.sizes;
        arrays = λ b held. array_fits b (f.arrays b held);
        calls = λ i g pc q sp a ps s c calls. f.calls i g pc q sp a ps s c (calling i g pc q sp a ps s c calls);
        counter = λ i is. let no : None ≡ Some i = sym none ∙ is in absurd (cc);
        known = λ v e. absurd (none_known w.layout nothing v e);
        constants = f.constants;
        rows = λ i n fine is. let no : true ≡ false = sym is ∙ rows i n in absurd (cc);
        sets = λ rs is. let no : true ≡ false = sym is ∙ unset rs in absurd (cc);
      }

  -- ---- code runs

  stands_with : (s : State) (c : Conf) → Stands w s c → Stands (with_loaded w k) s c
  stands_with s c f =
      record { uniforms = f.uniforms; varying = f.varying; result = f.result; results = f.results; own_arrays = f.own_arrays; arrays_are = f.arrays_are; out_is = f.out_is; run = f.run; known = f.known; constants = f.constants }

  stands_back : (s : State) (c : Conf) → Stands (with_loaded w k) s c → Stands w s c
  stands_back s c f =
      record { uniforms = f.uniforms; varying = f.varying; result = f.result; results = f.results; own_arrays = f.own_arrays; arrays_are = f.arrays_are; out_is = f.out_is; run = f.run; known = f.known; constants = f.constants }

  spares_back : (n : ℕ) (c d : Conf) → Spares (with_loaded w k) n c d → Spares w n c d
  spares_back n c d f = record { scalars_stay = f.scalars_stay; vectors_stay = f.vectors_stay; fresh_scalars = f.fresh_scalars; fresh_vectors = f.fresh_vectors; singles_stay = f.singles_stay }

  pub enters_with : (pc j n : ℕ) (a : Mask) (s : State) (c : Conf) (q : ℕ) → Enters w pc j n a s c q → Enters (with_loaded w k) pc j n a s c q
  enters_with pc j n a s c q f =
      record { at = f.at; mask = f.mask; some = f.some; inside = f.inside; stands = stands_with s c f.stands; used = f.used; low = f.low }

  pub runs_back : {A : Type 0} (c : Conf) (pc n q : ℕ) (P : A → Conf → Type 0) (v : Val A) → Runs (with_loaded w k) c pc n q P v → Runs w c pc n q P v
  runs_back c pc n q P (Gives x s) f =
      record { conf = f.conf; steps = f.steps; comes = f.comes; at = f.at; stands = stands_back s f.conf f.stands; spares = spares_back n c f.conf f.spares; masks = f.masks; holds = f.holds; bound = f.bound }
  runs_back c pc n q P (Fails t s) f = f
  runs_back c pc n q P (Stops s) f = f

  pub done_back : (c : Conf) (pc n q : ℕ) (v : Val Done) → DoneRuns (with_loaded w k) c pc n q v → DoneRuns w c pc n q v
  done_back c pc n q (Gives x s) f =
      record { conf = f.conf; steps = f.steps; comes = f.comes; at = f.at; stands = stands_back s f.conf f.stands; spares = spares_back n c f.conf f.spares; masks = f.masks; bound = f.bound }
  done_back c pc n q (Fails t s) f = f
  done_back c pc n q (Stops s) f = f
