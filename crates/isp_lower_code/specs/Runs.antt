-- Code does what a value means. The steps ride along as a potential: q steps were made before, within 32 for each unit
-- of the work so far.
use Rattle.std.specs.Prelude.{◌≡◌, ◌≤◌, ◌<◌, ℕ, ◌+◌, ◌*◌, true}
use Rattle.isp_base.specs.Sets.{Mask, any}
use Rattle.isp_base.specs.declared.trap.Trap.{Trap}
use Rattle.isp_code.specs.Conf.{Conf}
use Rattle.isp_meaning.specs.State.{State}
use Rattle.isp_meaning.specs.Outcomes.{Val, Gives, Fails, Stops, Done}
use Rattle.isp_lower_code.specs.Standing.{Setting, Allowed, gang_of, At, Stands, Spares}
pub use Rattle.isp_lower_code.specs.Steps.{ComesIn, FailedIn, StoppedIn}

module _ (w : Setting) where
  abbrev pub Comes : Conf → ℕ → Conf → Type 0
  Comes = ComesIn w.code

  abbrev pub Failed : Conf → ℕ → Trap → State → Type 0
  Failed = FailedIn w.code

  abbrev pub Stopped : ℕ → Conf → ℕ → State → Type 0
  Stopped = StoppedIn w.code

  -- what holds where code begins: mask register k has the members of a set that is not empty, registers stand for the
  -- state, and slots from n on are free
  pub record Enters (pc k n : ℕ) (a : Mask) (s : State) (c : Conf) (q : ℕ) : Type 0 where
    pub at : At w c pc
    pub mask : c.masks k ≡ a
    pub some : any (gang_of w) a ≡ true
    pub inside : (p : ℕ) → a p ≡ true → Allowed w p
    pub stands : Stands w s c
    pub used : q ≤ 32 * s.work
    pub low : k < n

  -- the code came to its end with what was asked; the spare registers of lower slots and all fresh registers are as they were
  pub record Ok (c : Conf) (pc n q : ℕ) (holds_there : Conf → Type 0) (s : State) : Type 0 where
    pub conf : Conf
    pub steps : ℕ
    pub comes : Comes c steps conf
    pub at : At w conf pc
    pub stands : Stands w s conf
    pub spares : Spares w n c conf
    pub masks : (r : ℕ) → r < n → conf.masks r ≡ c.masks r
    pub holds : holds_there conf
    pub bound : steps + q ≤ 32 * s.work

  -- code from c on, that ends before instruction pc, does what a value means, of which P says where it is held
  abbrev pub Runs : {A : Type 0} → Conf → ℕ → ℕ → ℕ → (A → Conf → Type 0) → Val A → Type 0
  Runs c pc n q P (Gives x s) = Ok c pc n q (P x) s
  Runs c pc n q P (Fails t s) = Failed c q t s
  Runs c pc n q P (Stops s) = Stopped w.turns c q s

  -- ---- statements after which all of the set go on

  pub record DoneOk (c : Conf) (pc n q : ℕ) (s : State) : Type 0 where
    pub conf : Conf
    pub steps : ℕ
    pub comes : Comes c steps conf
    pub at : At w conf pc
    pub stands : Stands w s conf
    pub spares : Spares w n c conf
    pub masks : (r : ℕ) → r < n → conf.masks r ≡ c.masks r
    pub bound : steps + q ≤ 32 * s.work

  abbrev pub DoneRuns : Conf → ℕ → ℕ → ℕ → Val Done → Type 0
  DoneRuns c pc n q (Gives x s) = DoneOk c pc n q s
  DoneRuns c pc n q (Fails t s) = Failed c q t s
  DoneRuns c pc n q (Stops s) = Stopped w.turns c q s
