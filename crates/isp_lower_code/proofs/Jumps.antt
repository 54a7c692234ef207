-- Steps that change no value: jumps, masks, and a value that moves to another register.
use Rattle.std.proofs.Common.{◌≡◌, ℕ, ◌+◌, length, Some, None, Bool, true, false, refl, sym, ap, ◌∙◌, subst, arith}
use Rattle.std.specs.Prelude.{slice_get, nat_eq, if◌then◌else◌}
use Rattle.std.proofs.lemmas.Bool.{eqb-true}
use Rattle.isp_base.specs.Maps.{on, where_true}
use Rattle.isp_base.specs.Sets.{Mask, without}
use Rattle.isp_base.specs.Truths.{is_true}
use Rattle.isp_base.specs.declared.trap.TrapKind.TheVariants.{Divide}
use Rattle.isp_base.specs.declared.types.Elem.{Elem}
use Rattle.isp_base.specs.declared.types.Rate.{Rate}
use Rattle.isp_code.specs.Calls.{no_place}
use Rattle.isp_code.specs.Conf.{Conf, Go}
use Rattle.isp_code.specs.Lines.{jumps, set_mask}
use Rattle.isp_code.specs.declared.instr.Instr.TheVariants as instr
use Rattle.isp_code.specs.declared.instr.JumpTest.{JumpTest}
use Rattle.isp_code.specs.declared.register.Register.{Register}
use Rattle.isp_meaning.specs.State.{State}
use Rattle.isp_meaning.specs.Payloads.{Payload}
use Rattle.isp_lower_code.specs.Layout.{mask_register}
use Rattle.isp_lower_code.specs.Setting.{Setting, IsSettled, AreAt, At, held_at, Holds}
use Rattle.isp_lower_code.specs.Runs.{Comes, Ok}
use Rattle.isp_lower_code.specs.Instructions.{copy, where_so, the_others}
use Rattle.isp_lower_code.specs.Pieces.{move, move_code}
use Rattle.isp_lower_code.proofs.Base.{step_go, next_at}
use Rattle.isp_lower_code.proofs.Rates.{filled_held}
use Rattle.isp_lower_code.proofs.Lines.{set_at, copy_line}
use Rattle.isp_lower_code.proofs.Combine.{ok_less, write_runs}

module _ (w : Setting) (ready : IsSettled w) where
  -- after a jump by a test
  abbrev pub jumped : Conf → JumpTest → Register → ℕ → Conf
  jumped c t x to = record c { pc = if jumps w.code w.routine c t x then to else c.pc + 1 }

  pub jump_comes : (c : Conf) (pc : ℕ) (t : JumpTest) (x : Register) (to : ℕ) → At w c pc → slice_get w.routine.code pc ≡ Some (instr.JumpIf t x to) → Comes w c 1 (jumped c t x to)
  jump_comes c pc t x to at has = step_go w c pc (instr.JumpIf t x to) (jumped c t x to) ready at has refl

  pub jump_at : (c : Conf) (pc : ℕ) (t : JumpTest) (x : Register) (to : ℕ) (b : Bool) → At w c pc → jumps w.code w.routine c t x ≡ b → At w (jumped c t x to) (if b then to else pc + 1)
  jump_at c pc t x to b at e = record { home_is = at.home_is; waiting_is = at.waiting_is; pc_is = ap (λ d. if d then to else c.pc + 1) e ∙ ap (λ p. if b then to else p + 1) at.pc_is }

  -- a mask is made of lanes where a vector is true, or of those of a mask that are not in another
  abbrev pub masked : Conf → ℕ → Mask → Conf
  masked c m x = set_mask c (mask_register m) x

  pub where_comes : (c : Conf) (pc m x k : ℕ) → At w c pc → slice_get w.routine.code pc ≡ Some (where_so m x k) → Comes w c 1 (masked c m (where_true is_true (on (c.masks k) (c.vectors x))))
  where_comes c pc m x k at has = step_go w c pc (where_so m x k) (masked c m (where_true is_true (on (c.masks k) (c.vectors x)))) ready at has refl

  pub others_comes : (c : Conf) (pc m k x : ℕ) → At w c pc → slice_get w.routine.code pc ≡ Some (the_others m k x) → Comes w c 1 (masked c m (without (c.masks k) (c.masks x)))
  others_comes c pc m k x at has = step_go w c pc (the_others m k x) (masked c m (without (c.masks k) (c.masks x))) ready at has refl

  pub masked_at : (c : Conf) (pc m : ℕ) (x : Mask) → At w c pc → At w (masked c m x) (pc + 1)
  masked_at c pc m x at = next_at w c (masked c m x) pc at refl refl refl

  -- a value is copied to slot n
  pub copy_ok : (c : Conf) (pc k n q : ℕ) (a : Mask) (m : Payload) (s : State) (r : Rate) (t : Elem) (x : ℕ)
      → (ok : Ok w c pc n (1 + q) (Holds r a x m) s) → ok.conf.masks k ≡ a → slice_get w.routine.code pc ≡ Some (copy r (w.layout.spare r t n) x k)
      → Ok w c (pc + 1) n q (Holds r a (w.layout.spare r t n) m) s
  copy_ok c pc k n q a m s r t x ok em has =
      let c2 = ok.conf in
      write_runs w ready c c2 ok.steps pc _ n q a s (copy r (w.layout.spare r t n) x k) r t None Divide no_place m
      (held_at r c2.scalars c2.vectors a x) ok.comes ok.at refl has ok.stands ok.spares ok.masks (omega (arith, ok.bound)) ok.holds
      (filled_held r a c2.scalars c2.vectors x)
      (copy_line w.code w.routine c2 r (w.layout.spare r t n) x k ∙ ap (λ u. Go (set_at r c2 (w.layout.spare r t n) (held_at r c2.scalars c2.vectors u x))) em)

  -- a value moves to slot n
  pub move_ok : (c : Conf) (pc k n q : ℕ) (a : Mask) (m : Payload) (s : State) (r : Rate) (t : Elem) (x : ℕ)
      → (ok : Ok w c pc n (1 + q) (Holds r a x m) s) → ok.conf.masks k ≡ a → AreAt w.routine.code pc (move_code r (w.layout.spare r t n) x k)
      → Ok w c (pc + length (move_code r (w.layout.spare r t n) x k)) n q (Holds r a (w.layout.spare r t n) m) s
  move_ok c pc k n q a m s r t x ok em has = go (nat_eq (w.layout.spare r t n) x) refl has
    where
      go : (b : Bool) → nat_eq (w.layout.spare r t n) x ≡ b → AreAt w.routine.code pc (move b r (w.layout.spare r t n) x k) → Ok w c (pc + length (move b r (w.layout.spare r t n) x k)) n q (Holds r a (w.layout.spare r t n) m) s
      go true e at =
          let same : w.layout.spare r t n ≡ x = eqb-true (w.layout.spare r t n) x e in
          subst (λ y. Ok w c (pc + 0) n q (Holds r a y m) s) (sym same) (ok_less w ready c pc (pc + 0) n 1 q _ s (omega arith) ok)
      go false e at = copy_ok c pc k n q a m s r t x ok em at.0
