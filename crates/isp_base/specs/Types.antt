-- Gangs and places.
use Rattle.std.specs.Prelude.{ℕ, List, ◌++◌, codes}
use Rattle.std.specs.Fmt.{decimal}
use Rattle.isp_base.specs.declared.types.Gang.{Gang}
use Rattle.isp_base.specs.declared.types.Gang.TheVariants.{W4, W8, W16, W32}
use Rattle.isp_base.specs.declared.types.Span.{Span}

-- how many instances a gang has
abbrev pub gang_width : Gang → ℕ
gang_width W4 = 4
gang_width W8 = 8
gang_width W16 = 16
gang_width W32 = 32

-- how many instances the widest gang has
abbrev pub widest : ℕ
widest = gang_width W32

-- from the start of one to the end of the other
abbrev pub span_to : Span → Span → Span
span_to first last = record { start = first.start; end = last.end }

-- as it is printed: both ends, and two dots between them
abbrev pub span_text : Span → List ℕ
span_text s = decimal s.start ++ codes ".." ++ decimal s.end
