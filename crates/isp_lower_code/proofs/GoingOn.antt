-- Code that is cut however far it may go: it runs without end, and its output only grows.
use Rattle.std.proofs.Common.{◌≡◌, ℕ, zero, suc, ◌+◌, ◌-◌, ◌≤◌, List, [], ◌++◌, refl, sym, ap, ◌∙◌, subst, arith, append_assoc, append-nil}
use Rattle.isp_base.specs.Prefixes.{IsPrefix}
use Rattle.isp_base.specs.Sets.{Mask}
use Rattle.isp_code.specs.Conf as machine
use Rattle.isp_code.specs.Conf.{Conf, Move, Go, Say, Fail, Over}
use Rattle.isp_code.specs.Listing.{Listing}
use Rattle.isp_code.specs.Machine.{advance, after, arrive, step}
use Rattle.isp_code.proofs.Steps.{after-sum}
use Rattle.isp_meaning.specs.State.{State}
use Rattle.isp_typed.specs.Typed.{TExpr, TSimple}
use Rattle.isp_lower_code.specs.Fits.{ExprFits, SimpleFits}
use Rattle.isp_lower_code.specs.Runs.{Enters}
use Rattle.isp_lower_code.specs.Setting.{Setting, with_turns}
use Rattle.isp_lower_code.specs.Steps.{GoesOn, StillRuns, StoppedIn}

out_in : machine.State → List ℕ
out_in (machine.Runs c) = c.out
out_in (machine.Trapped t c) = c.out
out_in (machine.Ended x c) = c.out

-- a state from which the machine came so far that it had written that much: it ran, and had written the beginning
record RanFor (z : machine.State) (out : List ℕ) : Type 0 where
  pub conf : Conf
  pub is : z ≡ machine.Runs conf
  pub wrote : IsPrefix conf.out out

module _ (code : Listing) where
  moved : (mv : Move) (c conf : Conf) → arrive code mv c ≡ machine.Runs conf → IsPrefix c.out conf.out
  unfolding out_in
  moved (Go c1) c conf e = ([], append-nil c.out ∙ ap out_in e)
  moved (Say text c1) c conf e = (text, ap out_in e)
  moved (Fail t) c conf e = absurd (cc)
  moved (Over x) c conf e = absurd (cc)

  before : (d : ℕ) (z : machine.State) (conf : Conf) → ((c : Conf) → after code d z ≡ machine.Runs c → RanFor z c.out) → (y : machine.State) → after code d z ≡ y → advance code y ≡ machine.Runs conf → RanFor z conf.out
  before d z conf earlier (machine.Runs c) at e =
      let r = earlier c at in
      let more = moved (step code c) c conf e in
      record { conf = r.conf; is = r.is; wrote = (r.wrote.0 ++ more.0, sym (append_assoc r.conf.out r.wrote.0 more.0) ∙ ap (λ out. out ++ more.0) r.wrote.1 ∙ more.1) }
  before d z conf earlier (machine.Trapped t c) at e = absurd (cc)
  before d z conf earlier (machine.Ended x c) at e = absurd (cc)

  ran : (d : ℕ) (z : machine.State) (conf : Conf) → after code d z ≡ machine.Runs conf → RanFor z conf.out
  ran zero z conf e = record { conf = conf; is = e; wrote = ([], append-nil conf.out) }
  ran (suc d) z conf e = before d z conf (λ c at. ran d z c at) (after code d z) refl e

  still : (m k : ℕ) (c conf : Conf) → m ≤ k → after code k (machine.Runs c) ≡ machine.Runs conf → StillRuns code c m (λ out. IsPrefix out conf.out)
  still m k c conf le e =
      let split : k ≡ k - m + m = omega (arith, le) in
      let r = ran (k - m) (after code m (machine.Runs c)) conf (sym (ap (λ i. after code i (machine.Runs c)) split ∙ after-sum code (k - m) m (machine.Runs c)) ∙ e) in
      record { conf = r.conf; comes = r.is; writes = r.wrote }

  pub goes_on : (c : Conf) (q : ℕ) (cuts : ℕ → State) → ((n : ℕ) → StoppedIn code n c q (cuts n)) → GoesOn code c cuts
  goes_on c q cuts stopped = record {
    reaches = λ n. let r = stopped n in (r.steps, record { conf = r.conf; comes = r.goes; writes = ([], append-nil (cuts n).out ∙ sym r.out_is) });
    so_far = λ m. let r = stopped m in (m, subst (λ all. StillRuns code c m (λ out. IsPrefix out all)) r.out_is (still m r.steps c r.conf r.far r.goes));
  }

-- ---- what holds where code begins, and of a tree, is told of no number of turns

module _ (w : Setting) (m : ℕ) where
  pub enters_turns : (pc k n q : ℕ) (a : Mask) (s : State) (c : Conf) → Enters w pc k n a s c q → Enters (with_turns w m) pc k n a s c q
  enters_turns pc k n q a s c b =
      record { at = b.at; mask = b.mask; some = b.some; inside = b.inside; stands = b.stands; used = b.used; low = b.low }

  pub expr_turns : (x : TExpr) (n : ℕ) → ExprFits w x n → ExprFits (with_turns w m) x n
  expr_turns x n f = record { fine = f.fine; rated = f.rated; named = f.named }

  pub simple_turns : (x : TSimple) (n : ℕ) → SimpleFits w x n → SimpleFits (with_turns w m) x n
  simple_turns x n f = record { fine = f.fine; rated = f.rated; named = f.named }
