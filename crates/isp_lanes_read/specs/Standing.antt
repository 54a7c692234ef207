-- What tables say of a configuration of the machine, and when two configurations agree in all that may still be read.
use Rattle.std.specs.Prelude.{◌≡◌, ℕ, zero, suc, List, [], ◌∷◌, Option, Some, None, Bool, true, false, ◌&&◌, nat_eq, slice_get}
use Rattle.isp_base.specs.Sets.{Mask, everyone}
use Rattle.isp_base.specs.Types.{gang_width}
use Rattle.isp_code.specs.Conf.{Frame, Conf, State, Runs, Trapped, Ended}
use Rattle.isp_code.specs.Listing.{Listing, Routine}
use Rattle.isp_code.specs.Machine.{advance}
use Rattle.isp_code.specs.declared.register.Register.{Register}
use Rattle.isp_lanes_read.specs.Lanes.{IsWithin, sets, frame_sets, IsTold, IsRead}
use Rattle.isp_lanes_read.specs.Reads.{is_vector, gives_lanes}
use Rattle.isp_lanes_read.specs.Rows.{Rows, row_at}

abbrev pub takes_lanes : Option Register → Bool
takes_lanes None = false
takes_lanes (Some d) = is_vector d

abbrev pub routine_gives : Option Routine → Bool
routine_gives None = false
routine_gives (Some h) = gives_lanes h.returns

-- lane p of vector v gets the result that a call waits for
abbrev pub is_filled : Option Register → Mask → ℕ → ℕ → Bool
is_filled None under v p = false
is_filled (Some d) under v p = is_vector d && (nat_eq v d.number && under p)

module _ (code : Listing) (rows : Rows) where
  -- A call that waits for function fn: its row is right, its masks lie in the gang, and where its result is a vector the
  -- function gives one.
  pub record WaitsRight (fn : ℕ) (fr : Frame) (rest : List Frame) : Type 0 where
    pub told : IsTold (frame_sets code fr rest) (row_at rows fr.home.fn fr.pc)
    pub inside : (k : ℕ) → IsWithin (fr.masks k) (everyone (gang_width code.gang))
    pub under_inside : IsWithin fr.under (everyone (gang_width code.gang))
    pub gives : takes_lanes fr.result ≡ true → routine_gives (slice_get code.routines fn) ≡ true

  abbrev pub AllWaitRight : ℕ → List Frame → Type 0
  AllWaitRight fn [] = Unit {0}
  AllWaitRight fn (fr ∷ rest) = WaitsRight fn fr rest × AllWaitRight fr.home.fn rest

  -- what the tables say of masks is so, in the call that runs and in those that wait
  pub record Holds (c : Conf) : Type 0 where
    pub told : IsTold (sets code c) (row_at rows c.home.fn c.pc)
    pub inside : (k : ℕ) → IsWithin (c.masks k) (everyone (gang_width code.gang))
    pub waiting : AllWaitRight c.home.fn c.waiting

  abbrev pub StateHolds : State → Type 0
  StateHolds (Runs c) = Holds c
  StateHolds s = Unit {0}

  -- Two calls that wait are the same, but for lanes that nobody reads, and for those that get the result.
  pub record FramesAlike (fr fr1 : Frame) (rest : List Frame) : Type 0 where
    pub same : fr1 ≡ record fr { vectors = fr1.vectors }
    pub lanes : (v p : ℕ) → IsRead (frame_sets code fr rest) (row_at rows fr.home.fn fr.pc) v p → is_filled fr.result fr.under v p ≡ false → fr.vectors v p ≡ fr1.vectors v p

  abbrev pub AllAlike : List Frame → List Frame → Type 0
  AllAlike [] [] = Unit {0}
  AllAlike (fr ∷ rest) (fr1 ∷ rest1) = FramesAlike fr fr1 rest × AllAlike rest rest1
  AllAlike a b = ⊥

  -- Two configurations are the same, but for lanes of vectors that nobody reads.
  pub record Alike (c c1 : Conf) : Type 0 where
    pub same : c1 ≡ record c { waiting = c1.waiting; vectors = c1.vectors }
    pub lanes : (v p : ℕ) → IsRead (sets code c) (row_at rows c.home.fn c.pc) v p → c.vectors v p ≡ c1.vectors v p
    pub waiting : AllAlike c.waiting c1.waiting

  abbrev pub StatesAlike : State → State → Type 0
  StatesAlike (Runs c) (Runs c1) = Alike c c1
  StatesAlike (Trapped t c) (Trapped t1 c1) = (t ≡ t1) × Alike c c1
  StatesAlike (Ended x c) (Ended x1 c1) = (x ≡ x1) × Alike c c1
  StatesAlike s s1 = ⊥

  -- A run of m steps of a machine that forgets: at the beginning and after each step lanes that nobody reads become anything.
  abbrev pub Forgetful : ℕ → State → State → Type 0
  Forgetful zero s t = StatesAlike s t
  Forgetful (suc m) s t = (u : State) × Forgetful m s u × StatesAlike (advance code u) t
