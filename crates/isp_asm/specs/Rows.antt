-- How each instruction is written: its word, its registers in the order of docs/MACHINE.md, and what ends the line.
use Rattle.std.specs.Prelude.{ℕ, List, [], ◌∷◌, ◌++◌, map, codes}
use Rattle.std.specs.Fmt.{signed_decimal}
use Rattle.isp_code.specs.declared.instr.Call.{Call}
use Rattle.isp_code.specs.declared.instr.Instr.{Instr}
use Rattle.isp_code.specs.declared.instr.Instr.TheVariants as instr
use Rattle.isp_code.specs.declared.instr.MaskInstr.{MaskInstr}
use Rattle.isp_code.specs.declared.instr.MaskInstr.TheVariants as mask
use Rattle.isp_code.specs.declared.instr.ScalarInstr.{ScalarInstr}
use Rattle.isp_code.specs.declared.instr.ScalarInstr.TheVariants as scalar
use Rattle.isp_code.specs.declared.instr.VectorInstr.{VectorInstr}
use Rattle.isp_code.specs.declared.instr.VectorInstr.TheVariants as vector
use Rattle.isp_code.specs.declared.register.Register.{Register}
use Rattle.isp_asm.specs.declared.head.Op.{Op}
use Rattle.isp_asm.specs.declared.head.Op.TheVariants as op
use Rattle.isp_asm.specs.declared.row.Tail.{Tail}
use Rattle.isp_asm.specs.declared.row.Tail.TheVariants.{Nothing, Place, Label, Text, Number, Back}
use Rattle.isp_asm.specs.Heads.{op_word}
use Rattle.isp_asm.specs.Words.{register_word, place_word, label_word, text_word, back_word, function_word}

pub data Row : Type 0 where
  line : Op → List Register → Tail → Row
  call : Call → Row

abbrev pub scalar_row : Register → ScalarInstr → Row
scalar_row d (scalar.Constant n) = line op.Const (d ∷ []) (Number n)
scalar_row d (scalar.Copy x) = line op.Copy (d ∷ x ∷ []) Nothing
scalar_row d (scalar.Convert x) = line op.Convert (d ∷ x ∷ []) Nothing
scalar_row d (scalar.Unary o x) = line (op.Unary o) (d ∷ x ∷ []) Nothing
scalar_row d (scalar.Binary o x y) = line (op.Plain o) (d ∷ x ∷ y ∷ []) Nothing
scalar_row d (scalar.Compare o x y) = line (op.Compare o) (d ∷ x ∷ y ∷ []) Nothing
scalar_row d (scalar.Select c x y) = line op.Select (d ∷ c ∷ x ∷ y ∷ []) Nothing
scalar_row d (scalar.First x) = line op.First (d ∷ x ∷ []) Nothing
scalar_row d (scalar.Load a i k p) = line op.Load (d ∷ a ∷ i ∷ k ∷ []) (Place p)
scalar_row d (scalar.Reduce o x k) = line (op.Reduce o) (d ∷ x ∷ k ∷ []) Nothing
scalar_row d (scalar.Extract x i k) = line op.Extract (d ∷ x ∷ i ∷ k ∷ []) Nothing

abbrev pub vector_row : Register → VectorInstr → Row
vector_row d (vector.Copy x k) = line op.Copy (d ∷ x ∷ k ∷ []) Nothing
vector_row d (vector.Convert x k) = line op.Convert (d ∷ x ∷ k ∷ []) Nothing
vector_row d (vector.Unary o x k) = line (op.Unary o) (d ∷ x ∷ k ∷ []) Nothing
vector_row d (vector.Binary o x y k) = line (op.Plain o) (d ∷ x ∷ y ∷ k ∷ []) Nothing
vector_row d (vector.Compare o x y k) = line (op.Compare o) (d ∷ x ∷ y ∷ k ∷ []) Nothing
vector_row d (vector.Select c x y k) = line op.Select (d ∷ c ∷ x ∷ y ∷ k ∷ []) Nothing
vector_row d (vector.Splat x k) = line op.Splat (d ∷ x ∷ k ∷ []) Nothing
vector_row d (vector.Index k) = line op.Index (d ∷ k ∷ []) Nothing
vector_row d (vector.Gather a i k p) = line op.Gather (d ∷ a ∷ i ∷ k ∷ []) (Place p)
vector_row d (vector.LoadRun a i k p) = line op.LoadRun (d ∷ a ∷ i ∷ k ∷ []) (Place p)
vector_row d (vector.Scan o x k) = line (op.Scan o) (d ∷ x ∷ k ∷ []) Nothing
vector_row d (vector.Exchange o x i k) = line (op.Exchange o) (d ∷ x ∷ i ∷ k ∷ []) Nothing
vector_row d (vector.Shuffle x i k) = line op.Shuffle (d ∷ x ∷ i ∷ k ∷ []) Nothing
vector_row d (vector.ShuffleTwo x y i k) = line op.ShuffleTwo (d ∷ x ∷ y ∷ i ∷ k ∷ []) Nothing
vector_row d (vector.Insert x i y k) = line op.Insert (d ∷ x ∷ i ∷ y ∷ k ∷ []) Nothing

abbrev pub mask_row : Register → MaskInstr → Row
mask_row d (mask.Copy x) = line op.MaskCopy (d ∷ x ∷ []) Nothing
mask_row d (mask.Binary o x y) = line (op.MaskBinary o) (d ∷ x ∷ y ∷ []) Nothing
mask_row d mask.Full = line op.Full (d ∷ []) Nothing
mask_row d mask.Off = line op.Off (d ∷ []) Nothing
mask_row d (mask.Test x y) = line op.Test (d ∷ x ∷ y ∷ []) Nothing
mask_row d (mask.Lowest x) = line op.Lowest (d ∷ x ∷ []) Nothing
mask_row d (mask.Range x y) = line op.Range (d ∷ x ∷ y ∷ []) Nothing

abbrev pub row : Instr → Row
row (instr.Scalar d i) = scalar_row d i
row (instr.Vector d i) = vector_row d i
row (instr.Mask d i) = mask_row d i
row (instr.Divide o d x y k p) = line (op.Divide o) (d ∷ x ∷ y ∷ k ∷ []) (Place p)
row (instr.Store a i y k p) = line op.Store (a ∷ i ∷ y ∷ k ∷ []) (Place p)
row (instr.Scatter a i y k p) = line op.Scatter (a ∷ i ∷ y ∷ k ∷ []) (Place p)
row (instr.StoreRun a i y k p) = line op.StoreRun (a ∷ i ∷ y ∷ k ∷ []) (Place p)
row (instr.PackedStore d a i y k p) = line op.PackedStore (d ∷ a ∷ i ∷ y ∷ k ∷ []) (Place p)
row (instr.PackedLoad d a i y k p) = line op.PackedLoad (d ∷ a ∷ i ∷ y ∷ k ∷ []) (Place p)
row (instr.Clear a k) = line op.Clear (a ∷ k ∷ []) Nothing
row (instr.Jump to) = line op.Jump [] (Label to)
row (instr.JumpIf t x to) = line (op.JumpIf t) (x ∷ []) (Label to)
row (instr.Say t) = line op.Say [] (Text t)
row (instr.PrintScalar x) = line op.PrintScalar (x ∷ []) Nothing
row (instr.PrintVector x k) = line op.PrintVector (x ∷ k ∷ []) Nothing
row (instr.Fail x p) = line op.Fail (x ∷ []) (Place p)
row (instr.Call c) = call c
row (instr.Return x) = line op.Return [] (Back x)

abbrev pub tail_words : Tail → List (List ℕ)
tail_words Nothing = []
tail_words (Place p) = place_word p ∷ []
tail_words (Label n) = label_word n ∷ []
tail_words (Text t) = text_word t ∷ []
tail_words (Number z) = signed_decimal z ∷ []
tail_words (Back x) = back_word x ∷ []

-- a call passes any number of registers, so they come last
abbrev pub row_words : Row → List (List ℕ)
row_words (line o rs t) = op_word o ∷ (map register_word rs ++ tail_words t)
row_words (call c) = codes "call" ∷ function_word c.function ∷ back_word c.result ∷ register_word c.mask ∷ place_word c.place ∷ map register_word c.arguments

abbrev pub instr_words : Instr → List (List ℕ)
instr_words i = row_words (row i)
