use Rattle.std.proofs.Common.{◌≡◌, ◌++◌, take}
use Rattle.std.specs.List.{flat_map}
use Rattle.isp_files.specs.Endian.{bytes_in}
use Rattle.isp_files.proofs.writing.push_elements.Given as goal

abbrev pub invariant-loop-place : goal.invariant-loop-place
invariant-loop-place l = l.bytes.items ≡ l.initial.bytes.items ++ flat_map (bytes_in l.endian l.size) (take l.place l.array.bits)
