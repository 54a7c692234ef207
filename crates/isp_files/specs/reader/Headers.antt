-- For private clauses: what an entry of a header says, in the words of specs/Npy.antt.
use Rattle.isp_files.specs.Npy as npy
use Rattle.isp_files.specs.declared.entry.Entry.{Entry}
use Rattle.isp_files.specs.declared.entry.Entry.TheVariants.{Kind, Order, Shape}

abbrev pub said : Entry → npy.Entry
said (Kind t) = npy.Typed t
said Order = npy.Ordered
said (Shape v) = npy.Shaped v.items
