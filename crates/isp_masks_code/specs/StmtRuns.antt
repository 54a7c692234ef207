-- Code does what a statement means, from registers that stand for a state and a mask register that stands for a set that
-- is not empty. The steps ride along as a potential, as for values.
use Rattle.std.specs.Prelude.{◌≡◌, ◌≢◌, ◌≤◌, ◌<◌, ℕ, ◌+◌, ◌*◌, Bool, true, false}
use Rattle.isp_base.specs.Sets.{Mask, union}
use Rattle.isp_code.specs.Conf.{Conf}
use Rattle.isp_meaning.specs.State.{State}
use Rattle.isp_meaning.specs.Outcomes.{Res, Went, Trapped, Cut}
use Rattle.isp_lower_code.specs.Setting.{Setting, At, Stands, Spares, Allowed}
use Rattle.isp_lower_code.specs.Runs.{Comes, Enters, Failed, Stopped}
use Rattle.isp_masks_code.specs.Spots.{Spot}

-- three mask registers below the free slots
pub record AreThree (spot : Spot) : Type 0 where
  pub low_on : spot.on < spot.slot
  pub low_continued : spot.continued < spot.slot
  pub low_returned : spot.returned < spot.slot
  pub on_continued : spot.on ≢ spot.continued
  pub on_returned : spot.on ≢ spot.returned
  pub continued_returned : spot.continued ≢ spot.returned

-- a step is set aside after a statement that some may not go on from: for the jump past what follows
abbrev pub aside : Bool → ℕ
aside true = 0
aside false = 1

module _ (w : Setting) where
  -- all of a set may run
  abbrev pub Inside : Mask → Type 0
  Inside a = (p : ℕ) → a p ≡ true → Allowed w p

  -- what holds where the code of a statement begins, as for an expression
  abbrev pub EntersAt : ℕ → Spot → Mask → State → Conf → ℕ → Type 0
  EntersAt pc spot a s c q = Enters w pc spot.on spot.slot a s c q

  -- The code came to its end: its mask has those that went on, and the two others have grown. Spare registers of lower slots
  -- and all other masks are as they were.
  pub record StmtOk (c : Conf) (pc : ℕ) (spot : Spot) (q : ℕ) (s : State) (g ct rt : Mask) : Type 0 where
    pub conf : Conf
    pub steps : ℕ
    pub comes : Comes w c steps conf
    pub at : At w conf pc
    pub stands : Stands w s conf
    pub spares : Spares w spot.slot c conf
    pub went : conf.masks spot.on ≡ g
    pub continued : conf.masks spot.continued ≡ union (c.masks spot.continued) ct
    pub returned : conf.masks spot.returned ≡ union (c.masks spot.returned) rt
    pub masks : (r : ℕ) → r < spot.slot → r ≢ spot.on → r ≢ spot.continued → r ≢ spot.returned → conf.masks r ≡ c.masks r
    pub bound : steps + q ≤ 32 * s.work

  -- code from c on, that ends before instruction pc, does what a statement comes to; a cut is past so many turns
  abbrev pub StmtRuns : ℕ → Conf → ℕ → Spot → ℕ → Res → Type 0
  StmtRuns turns c pc spot q (Went s g b ct rt) = StmtOk c pc spot q s g ct rt
  StmtRuns turns c pc spot q (Trapped t s) = Failed w c q t s
  StmtRuns turns c pc spot q (Cut s) = Stopped w turns c q s
