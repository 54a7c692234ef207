-- What isp_command does.
use Rattle.std.specs.Prelude.{◌≡◌, ◌⊎◌, ℕ, ◌<◌, ◌≤◌, List, [], ◌∷◌, length, false, Option, None, Some, bytes_eq, if◌then◌else◌, IsUtf8}
use Rattle.isp_commands.specs.Commands.{Commands}
use Rattle.isp_engine.specs.Told.{Told}
use Rattle.isp_reports.specs.Rooms.{fronted}
use Rattle.isp_c.specs.declared.command.File.{File}
use Rattle.isp_c.specs.declared.command.Used.{Used}

-- the bytes of the first file of a name
abbrev pub bytes_in : List File → List ℕ → Option (List ℕ)
bytes_in [] name = None
bytes_in (f ∷ fs) name = if bytes_eq f.name.bytes.now name then Some f.text.bytes.now else bytes_in fs name

-- its text, where it is one
abbrev pub Holds : List File → List ℕ → Option (List ℕ) → Type 0
Holds files name (Some text) = (bytes_in files name ≡ Some text) × IsUtf8 text
Holds files name None = (bytes : List ℕ) → bytes_in files name ≡ Some bytes → IsUtf8 bytes → ⊥

-- the program answered this status, with these bytes on standard output and on standard error
abbrev pub Did : List File → List ℕ → List ℕ → ℕ → Type 0
Did files out err status =
    Commands (Holds files) (Some []) (Some out) false (λ line. Told line (Some []) (Some err) false) status

-- both are given where there is room for both
pub record Gives (out err : List ℕ) (status : ℕ) (old_out new_out old_err new_err : List ℕ) (used : Used) (given : ℕ) : Type 0 where
  pub used_is : used ≡ record { out = length out; err = length err }
  pub whole : length out ≤ length old_out → length err ≤ length old_err → (given ≡ status) × (new_out ≡ fronted out old_out) × (new_err ≡ fronted err old_err)
  pub short_out : length old_out < length out → (given ≡ 10) × (new_out ≡ old_out) × (new_err ≡ old_err)
  pub short_err : length old_err < length err → (given ≡ 10) × (new_out ≡ old_out) × (new_err ≡ old_err)

-- memory was refused, and nothing is given
pub record Refused (old_out new_out old_err new_err : List ℕ) (used : Used) (given : ℕ) : Type 0 where
  pub used_is : used ≡ record { out = 0; err = 0 }
  pub status : given ≡ 7
  pub out_stays : new_out ≡ old_out
  pub err_stays : new_err ≡ old_err

abbrev pub Commanded : List File → List ℕ → List ℕ → List ℕ → List ℕ → Used → ℕ → Type 0
Commanded files old_out new_out old_err new_err used given =
    Refused old_out new_out old_err new_err used given
    ⊎ ((out err : List ℕ) × (status : ℕ) × Did files out err status × Gives out err status old_out new_out old_err new_err used given)
