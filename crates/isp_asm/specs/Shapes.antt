-- How many registers stand after the word of an instruction, and what ends the line.
use Rattle.std.specs.Prelude.{ℕ, true, false}
use Rattle.isp_asm.specs.declared.head.Op.{Op}
use Rattle.isp_asm.specs.declared.head.Op.TheVariants as op
use Rattle.isp_asm.specs.declared.shape.Ending.{Ending}
use Rattle.isp_asm.specs.declared.shape.Ending.TheVariants.{Nothing, Place, Label, Text, Number, Back}
use Rattle.isp_asm.specs.declared.shape.Shape.{Shape}

-- so many registers, and an ending
abbrev pub just : ℕ → Ending → Shape
just n e = record { fewest = n; more = false; ending = e }

-- so many registers, and one more, the mask, where lanes are written
abbrev pub with_mask : ℕ → Shape
with_mask n = record { fewest = n; more = true; ending = Nothing }

abbrev pub shape_of : Op → Shape
shape_of op.Const = just 1 Number
shape_of op.Copy = with_mask 2
shape_of op.Convert = with_mask 2
shape_of (op.Unary o) = with_mask 2
shape_of (op.Plain o) = with_mask 3
shape_of (op.Compare o) = with_mask 3
shape_of op.Select = with_mask 4
shape_of (op.Divide o) = just 4 Place
shape_of op.First = just 2 Nothing
shape_of (op.Reduce o) = just 3 Nothing
shape_of op.Extract = just 4 Nothing
shape_of op.Load = just 4 Place
shape_of op.Store = just 4 Place
shape_of op.Gather = just 4 Place
shape_of op.Scatter = just 4 Place
shape_of op.LoadRun = just 4 Place
shape_of op.StoreRun = just 4 Place
shape_of op.PackedLoad = just 5 Place
shape_of op.PackedStore = just 5 Place
shape_of op.Splat = just 3 Nothing
shape_of op.Index = just 2 Nothing
shape_of (op.Scan o) = just 3 Nothing
shape_of (op.Exchange o) = just 4 Nothing
shape_of op.Shuffle = just 4 Nothing
shape_of op.ShuffleTwo = just 5 Nothing
shape_of op.Insert = just 5 Nothing
shape_of op.MaskCopy = just 2 Nothing
shape_of (op.MaskBinary o) = just 3 Nothing
shape_of op.Full = just 1 Nothing
shape_of op.Off = just 1 Nothing
shape_of op.Test = just 3 Nothing
shape_of op.Lowest = just 2 Nothing
shape_of op.Range = just 3 Nothing
shape_of op.Clear = just 2 Nothing
shape_of op.Jump = just 0 Label
shape_of (op.JumpIf t) = just 1 Label
shape_of op.Say = just 0 Text
shape_of op.PrintScalar = just 1 Nothing
shape_of op.PrintVector = just 2 Nothing
shape_of op.Fail = just 1 Place
shape_of op.Return = just 0 Back
