-- What holds of runs by forms.
use Rattle.std.specs.Prelude.{◌≡◌, ℕ, ◌+◌}
use Rattle.isp_code.specs.Conf.{Conf, State}
use Rattle.isp_code.specs.Listing.{Listing}
use Rattle.isp_code.specs.Machine.{after}
use Rattle.isp_forms.specs.Runs.{Forms, all_kept, IsRun, AreHarmless}

-- A run of the machine is one by any forms, and so are two of them one after the other. By forms that are all kept there is no other,
-- so that they are harmless.
pub record RunsByForms : Type 0 where
  pub own : (code : Listing) (forms : Forms) (m : ℕ) (s t : State) → after code m s ≡ t → IsRun code forms m s t
  pub joined : (code : Listing) (forms : Forms) (a b : ℕ) (s t u : State) → IsRun code forms a s t → IsRun code forms b t u → IsRun code forms (b + a) s u
  pub kept : (code : Listing) (m : ℕ) (s t : State) → IsRun code all_kept m s t → after code m s ≡ t
  pub harmless : (code : Listing) (c : Conf) → AreHarmless code all_kept c
