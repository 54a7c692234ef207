-- What a file holds: a shape and an array of its elements.
use Rattle.std.specs.Prelude.{ℕ, ◌-◌, ◌*◌, List, [], ◌∷◌, nat_lt, Option, Some, None, Result, Ok, Err, if◌then◌else◌}
use Rattle.isp_base.specs.Rows.{Row}
use Rattle.isp_files.specs.Reading.{Read, longest}
use Rattle.isp_files.specs.declared.fault.FileFault.{FileFault}
use Rattle.isp_files.specs.declared.fault.FileFault.TheVariants as fault
use Rattle.isp_files.specs.declared.fault.Slip.{Slip}
use Rattle.isp_files.specs.declared.fault.Slip.TheVariants as slip

-- the lengths of the dimensions, the outermost first, and the elements, those of the innermost next to each other
abbrev pub Sheet : Type 0
Sheet = List ℕ × Row

-- n times as many elements for each dimension, where an array may have them
abbrev pub counted : ℕ → List ℕ → Option ℕ
counted n [] = Some n
counted n (d ∷ ds) = if nat_lt longest (n * d) then None else counted (n * d) ds

-- how many elements a shape has
abbrev pub count_of : List ℕ → Option ℕ
count_of shape = counted 1 shape

-- where a file of so many bytes is wrong
abbrev pub placed : ℕ → Slip → FileFault
placed total slip.Memory = fault.Memory
placed total (slip.At w left) = fault.At w (total - left)

-- what a file of so many bytes holds
abbrev pub file_of : ℕ → Read Sheet → Result Sheet FileFault
file_of total (Ok p) = Ok p.0
file_of total (Err e) = Err (placed total e)
