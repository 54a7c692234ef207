use Rattle.std.proofs.Common.{◌≡◌, ◌++◌, take}
use Rattle.std.specs.Prelude.{codes}
use Rattle.std.specs.List.{flat_map}
use Rattle.isp_files.specs.Writing.{length_text, type_name}
use Rattle.isp_files.proofs.writing.dict.Given as goal

abbrev pub invariant-loop-length : goal.invariant-loop-length
invariant-loop-length l =
    l.bytes.items ≡ codes "{'descr': '" ++ type_name l.fn.elem ++ codes "', 'fortran_order': False, 'shape': (" ++ flat_map length_text (take l.length-index l.shape)
