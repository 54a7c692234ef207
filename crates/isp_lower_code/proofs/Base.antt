-- Lists in a list, spare registers that stay, and steps of the machine.
use Rattle.std.proofs.lemmas.Option.{same_Some}
use Rattle.isp_base.specs.declared.types.Elem.{Elem}
use Rattle.isp_base.specs.declared.types.Rate.{Rate}
use Rattle.isp_base.specs.declared.types.Rate.TheVariants.{Uniform, Varying}
use Rattle.isp_typed.specs.Fine.{HoldsValue}
use Rattle.isp_typed.specs.Typed.{ty_of}
use Rattle.isp_typed.specs.declared.variable.Variable.{Variable}
use Rattle.isp_lower_code.specs.Callees.{rate_held}
use Rattle.std.proofs.Common.{◌≡◌, ◌≢◌, ℕ, ◌+◌, ◌≤◌, List, [], ◌∷◌, ◌++◌, length, Option, Some, None, refl, sym, ap, ◌∙◌, subst, arith, eq-eqb}
use Rattle.std.specs.Prelude.{slice_get, nat_eq}
use Rattle.std.proofs.lemmas.Bool.{ne_eqb, cond-true, cond-false}
use Rattle.isp_base.specs.Maps.{put}
use Rattle.isp_base.specs.declared.trap.Trap.{Trap}
use Rattle.isp_base.specs.declared.trap.TrapKind.{TrapKind}
use Rattle.isp_base.specs.declared.types.Span.{Span}
use Rattle.isp_base.specs.Traps.{trap}
use Rattle.isp_code.specs.Conf as machine
use Rattle.isp_code.specs.Conf.{Conf, Move, Go, Fail}
use Rattle.isp_code.specs.Lines.{act}
use Rattle.isp_code.specs.Machine.{after, step, act_in, act_at, arrive}
use Rattle.isp_code.proofs.Steps.{after-sum}
use Rattle.isp_code.specs.declared.instr.Instr.{Instr}
use Rattle.isp_lower_code.specs.Setting.{Setting, IsSettled, IsUniform, IsVarying, OtherAt, AreAt, At, Spares}
use Rattle.isp_lower_code.specs.Runs.{Comes}

pub are_front : {A : Type 0} (xs : List A) (n : ℕ) (a b : List A) → AreAt xs n (a ++ b) → AreAt xs n a
are_front xs n [] b h = tt
are_front xs n (i ∷ a) b h = (h.0, are_front xs (n + 1) a b h.1)

pub are_back : {A : Type 0} (xs : List A) (n : ℕ) (a b : List A) → AreAt xs n (a ++ b) → AreAt xs (n + length a) b
are_back xs n [] b h = let e : n ≡ n + 0 = omega arith in subst (λ m. AreAt xs m b) e h
are_back xs n (i ∷ a) b h =
    let e : n + 1 + length a ≡ n + length (i ∷ a) = omega arith in
    subst (λ m. AreAt xs m b) e (are_back xs (n + 1) a b h.1)

pub put_same : {A : Type 0} (f : ℕ → A) (d : ℕ) (x : A) → put f d x d ≡ x
put_same f d x = cond-true (nat_eq d d) x (f d) (eq-eqb d d refl)

pub put_other : {A : Type 0} (f : ℕ → A) (d : ℕ) (x : A) (r : ℕ) → r ≢ d → put f d x r ≡ f r
put_other f d x r ne = cond-false (nat_eq r d) x (f r) (ne_eqb r d ne)

-- ---- uniform and varying variables

-- no variable is both
pub not_both : (vars : List Variable) (v : ℕ) → IsVarying vars v → IsUniform vars v → ⊥
not_both vars v h g =
    let no : Varying ≡ Uniform = ap (λ (z : Variable). rate_held z.holds) (same_Some _ _ (sym h.1.is ∙ g.1.is)) in
    cc

-- what is read or written at a rate: a uniform variable, or any varying one
abbrev pub IsRead : Setting → Rate → ℕ → Type 0
IsRead w Uniform v = IsUniform w.function.variables v
IsRead w Varying v = Unit {0}

pub is_read : (w : Setting) (r : Rate) (t : Elem) (v : ℕ) → HoldsValue w.function.variables v (ty_of r t) → IsRead w r v
is_read w Uniform t v has = (t, has)
is_read w Varying t v has = tt

-- a variable that is written counts no lanes
abbrev pub MayWrite : Setting → Rate → ℕ → Type 0
MayWrite w r v = OtherAt w r v × IsRead w r v

-- ---- spare registers of lower slots

module _ (w : Setting) where
  pub spares_all : (n : ℕ) (c : Conf) → Spares w n c c
  spares_all n c = record { scalars_stay = λ t j lt. refl; vectors_stay = λ t j lt. refl; fresh_scalars = λ j. refl; fresh_vectors = λ j. refl; singles_stay = λ v is. refl }

  pub spares_less : (n m : ℕ) (c c' : Conf) → n ≤ m → Spares w m c c' → Spares w n c c'
  spares_less n m c c' le k = record {
    scalars_stay = λ t j lt. k.scalars_stay t j (omega arith);
    vectors_stay = λ t j lt. k.vectors_stay t j (omega arith);
    fresh_scalars = k.fresh_scalars;
    fresh_vectors = k.fresh_vectors;
    singles_stay = k.singles_stay;
  }

  pub spares_on : (n : ℕ) (c c1 c2 : Conf) → Spares w n c c1 → Spares w n c1 c2 → Spares w n c c2
  spares_on n c c1 c2 k h = record {
    scalars_stay = λ t j lt. h.scalars_stay t j lt ∙ k.scalars_stay t j lt;
    vectors_stay = λ t j lt. h.vectors_stay t j lt ∙ k.vectors_stay t j lt;
    fresh_scalars = λ j. h.fresh_scalars j ∙ k.fresh_scalars j;
    fresh_vectors = λ j. h.fresh_vectors j ∙ k.fresh_vectors j;
    singles_stay = λ v is. h.singles_stay v is ∙ k.singles_stay v is;
  }

  -- ---- steps

  pub comes_none : (c : Conf) → Comes w c 0 c
  comes_none c = refl

  after_more : (c c1 : Conf) (s t : ℕ) → Comes w c s c1 → after w.code (s + t) (machine.Runs c) ≡ after w.code t (machine.Runs c1)
  after_more c c1 s t h =
      let e : s + t ≡ t + s = omega arith in
      ap (λ n. after w.code n (machine.Runs c)) e ∙ after-sum w.code t s (machine.Runs c) ∙ ap (after w.code t) h

  pub comes_on : (c c1 c2 : Conf) (s t : ℕ) → Comes w c s c1 → Comes w c1 t c2 → Comes w c (s + t) c2
  comes_on c c1 c2 s t h g = after_more c c1 s t h ∙ g

  pub fails_on : (c c1 c2 : Conf) (s t : ℕ) (p : Trap) → Comes w c s c1 → after w.code t (machine.Runs c1) ≡ machine.Trapped p c2 → after w.code (s + t) (machine.Runs c) ≡ machine.Trapped p c2
  fails_on c c1 c2 s t p h g = after_more c c1 s t h ∙ g

  -- where the routine is the one that runs
  pub step_by : (c : Conf) (pc : ℕ) (i : Instr) → slice_get w.code.routines w.home.fn ≡ Some w.routine → At w c pc → slice_get w.routine.code pc ≡ Some i → step w.code c ≡ act w.code w.routine c i
  step_by c pc i found at has =
      ap (λ h. act_in w.code c (slice_get w.code.routines h.fn)) at.home_is
      ∙ ap (act_in w.code c) found
      ∙ ap (λ p. act_at w.code w.routine c (slice_get w.routine.code p)) at.pc_is
      ∙ ap (act_at w.code w.routine c) has

  pub step_is : (c : Conf) (pc : ℕ) (i : Instr) → IsSettled w → At w c pc → slice_get w.routine.code pc ≡ Some i → step w.code c ≡ act w.code w.routine c i
  step_is c pc i ready at has = step_by c pc i ready.found at has

  pub step_go : (c : Conf) (pc : ℕ) (i : Instr) (c' : Conf) → IsSettled w → At w c pc → slice_get w.routine.code pc ≡ Some i → act w.code w.routine c i ≡ Go c' → Comes w c 1 (record c' { out = c.out })
  step_go c pc i c' ready at has is = ap (λ m. arrive w.code m c) (step_is c pc i ready at has ∙ is)

  pub step_fail : (c : Conf) (pc : ℕ) (i : Instr) (t : Trap) → IsSettled w → At w c pc → slice_get w.routine.code pc ≡ Some i → act w.code w.routine c i ≡ Fail t → after w.code 1 (machine.Runs c) ≡ machine.Trapped t c
  step_fail c pc i t ready at has is = ap (λ m. arrive w.code m c) (step_is c pc i ready at has ∙ is)

  pub next_at : (c c' : Conf) (pc : ℕ) → At w c pc → c'.home ≡ c.home → c'.waiting ≡ c.waiting → c'.pc ≡ c.pc + 1 → At w c' (pc + 1)
  next_at c c' pc at h v p = record { home_is = h ∙ at.home_is; waiting_is = v ∙ at.waiting_is; pc_is = p ∙ ap (λ n. n + 1) at.pc_is }

  pub at_to : (c : Conf) (pc pc' : ℕ) → At w c pc → pc ≡ pc' → At w c pc'
  at_to c pc pc' at e = record { home_is = at.home_is; waiting_is = at.waiting_is; pc_is = at.pc_is ∙ e }

-- an instruction that goes on, or traps where there is an offender
abbrev pub moved_by : Option ℕ → TrapKind → Span → Conf → Move
moved_by None kind sp c = Go c
moved_by (Some p) kind sp c = Fail (trap kind sp p)
