-- Groups of words and of instructions, as the code takes them apart. No part of a promise.
use Rattle.std.specs.Prelude.{Bool, true, false}
use Rattle.isp_code.specs.declared.instr.Instr.{Instr}
use Rattle.isp_code.specs.declared.instr.Instr.TheVariants as instr
use Rattle.isp_code.specs.declared.instr.VectorInstr.{VectorInstr}
use Rattle.isp_code.specs.declared.instr.VectorInstr.TheVariants as vector
use Rattle.isp_asm.specs.declared.head.Op.{Op}
use Rattle.isp_asm.specs.declared.head.Op.TheVariants as op

-- ---- words: operators on scalars or lanes; what scalars get from lanes; what lanes and masks get; loads, stores and packed calls

abbrev pub is_operator : Op → Bool
is_operator op.Copy = true
is_operator op.Convert = true
is_operator (op.Unary o) = true
is_operator (op.Plain o) = true
is_operator (op.Compare o) = true
is_operator op.Select = true
is_operator o = false

abbrev pub is_from_lanes : Op → Bool
is_from_lanes op.First = true
is_from_lanes (op.Reduce o) = true
is_from_lanes op.Extract = true
is_from_lanes o = false

abbrev pub is_to_lanes : Op → Bool
is_to_lanes op.Splat = true
is_to_lanes op.Index = true
is_to_lanes (op.Scan o) = true
is_to_lanes (op.Exchange o) = true
is_to_lanes op.Shuffle = true
is_to_lanes op.ShuffleTwo = true
is_to_lanes op.Insert = true
is_to_lanes o = false

abbrev pub is_to_mask : Op → Bool
is_to_mask op.MaskCopy = true
is_to_mask (op.MaskBinary o) = true
is_to_mask op.Full = true
is_to_mask op.Off = true
is_to_mask op.Test = true
is_to_mask op.Lowest = true
is_to_mask op.Range = true
is_to_mask o = false

abbrev pub is_load : Op → Bool
is_load op.Load = true
is_load op.Gather = true
is_load op.LoadRun = true
is_load o = false

abbrev pub is_store : Op → Bool
is_store op.Store = true
is_store op.Scatter = true
is_store op.StoreRun = true
is_store o = false

abbrev pub is_packed : Op → Bool
is_packed op.PackedLoad = true
is_packed op.PackedStore = true
is_packed o = false

-- ---- instructions: what is written across lanes; what stores, and packed calls

abbrev pub is_across : VectorInstr → Bool
is_across (vector.Scan op x k) = true
is_across (vector.Exchange e x i k) = true
is_across (vector.Shuffle x i k) = true
is_across (vector.ShuffleTwo x y i k) = true
is_across (vector.Insert x i y k) = true
is_across i = false

abbrev pub is_access : Instr → Bool
is_access (instr.Store a i y k p) = true
is_access (instr.Scatter a i y k p) = true
is_access (instr.StoreRun a i y k p) = true
is_access (instr.PackedStore d a i y k p) = true
is_access (instr.PackedLoad d a i y k p) = true
is_access i = false
