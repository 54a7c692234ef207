use Rattle.std.proofs.Common.{◌≡◌, drop}
use Rattle.isp_c.specs.Commanding.{bytes_in}
use Rattle.isp_c.proofs.command.found.Given as goal

-- the files before have other names
abbrev pub invariant-loop-file : goal.invariant-loop-file
invariant-loop-file l = bytes_in l.files l.name ≡ bytes_in (drop l.file-index l.files) l.name
