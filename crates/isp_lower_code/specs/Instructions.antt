-- Instructions of a rate: on scalars, or on lanes of mask k.
use Rattle.std.specs.Prelude.{ℕ, ◌∷◌, [], List, Bool, true, false, if◌then◌else◌}
use Rattle.isp_base.specs.Values.{number, divides}
use Rattle.isp_base.specs.declared.operators.BinOp.{BinOp}
use Rattle.isp_base.specs.declared.operators.BinOp.TheVariants as op
use Rattle.isp_base.specs.declared.operators.Compare.{Compare}
use Rattle.isp_base.specs.declared.operators.UnaryOp.{UnaryOp}
use Rattle.isp_base.specs.declared.types.Elem.{Elem}
use Rattle.isp_base.specs.declared.types.Rate.{Rate}
use Rattle.isp_base.specs.declared.types.Rate.TheVariants.{Uniform, Varying}
use Rattle.isp_base.specs.declared.types.Span.{Span}
use Rattle.isp_code.specs.declared.instr.Division.TheVariants as division
use Rattle.isp_code.specs.declared.instr.Instr.{Instr}
use Rattle.isp_code.specs.declared.instr.Instr.TheVariants as instr
use Rattle.isp_code.specs.declared.instr.JumpTest.{JumpTest}
use Rattle.isp_code.specs.declared.instr.JumpTest.TheVariants as jump
use Rattle.isp_code.specs.declared.instr.MaskInstr.TheVariants as mask
use Rattle.isp_code.specs.declared.instr.MaskOp.TheVariants as mask_op
use Rattle.isp_code.specs.declared.instr.Plain.{Plain}
use Rattle.isp_code.specs.declared.instr.Plain.TheVariants as plain
use Rattle.isp_code.specs.declared.instr.ScalarInstr.TheVariants as scalar
use Rattle.isp_code.specs.declared.instr.VectorInstr.TheVariants as vector
use Rattle.isp_lower_code.specs.Layout.{register, mask_register, array_register}

abbrev pub copy : Rate → ℕ → ℕ → ℕ → Instr
copy Uniform d x k = instr.Scalar (register Uniform d) (scalar.Copy (register Uniform x))
copy Varying d x k = instr.Vector (register Varying d) (vector.Copy (register Varying x) (mask_register k))

abbrev pub convert : Rate → ℕ → ℕ → ℕ → Instr
convert Uniform d x k = instr.Scalar (register Uniform d) (scalar.Convert (register Uniform x))
convert Varying d x k = instr.Vector (register Varying d) (vector.Convert (register Varying x) (mask_register k))

abbrev pub unary : Rate → UnaryOp → ℕ → ℕ → ℕ → Instr
unary Uniform o d x k = instr.Scalar (register Uniform d) (scalar.Unary o (register Uniform x))
unary Varying o d x k = instr.Vector (register Varying d) (vector.Unary o (register Varying x) (mask_register k))

abbrev pub compare : Rate → Compare → ℕ → ℕ → ℕ → ℕ → Instr
compare Uniform c d x y k = instr.Scalar (register Uniform d) (scalar.Compare c (register Uniform x) (register Uniform y))
compare Varying c d x y k = instr.Vector (register Varying d) (vector.Compare c (register Varying x) (register Varying y) (mask_register k))

abbrev pub compute : Rate → Plain → ℕ → ℕ → ℕ → ℕ → Instr
compute Uniform o d x y k = instr.Scalar (register Uniform d) (scalar.Binary o (register Uniform x) (register Uniform y))
compute Varying o d x y k = instr.Vector (register Varying d) (vector.Binary o (register Varying x) (register Varying y) (mask_register k))

-- a division names the place of its trap
abbrev pub operate : Rate → BinOp → ℕ → ℕ → ℕ → ℕ → ℕ → Instr
operate r op.Add d x y k p = compute r plain.Add d x y k
operate r op.Sub d x y k p = compute r plain.Sub d x y k
operate r op.Mul d x y k p = compute r plain.Mul d x y k
operate r op.Div d x y k p = instr.Divide division.Div (register r d) (register r x) (register r y) (mask_register k) p
operate r op.Rem d x y k p = instr.Divide division.Rem (register r d) (register r x) (register r y) (mask_register k) p
operate r op.And d x y k p = compute r plain.And d x y k
operate r op.Or d x y k p = compute r plain.Or d x y k
operate r op.Xor d x y k p = compute r plain.Xor d x y k
operate r op.Shl d x y k p = compute r plain.Shl d x y k
operate r op.Shr d x y k p = compute r plain.Shr d x y k
operate r op.Min d x y k p = compute r plain.Min d x y k
operate r op.Max d x y k p = compute r plain.Max d x y k

abbrev pub operate_places : BinOp → Span → List Span
operate_places o sp = if divides o then sp ∷ [] else []

abbrev pub read : Rate → ℕ → ℕ → ℕ → ℕ → ℕ → Instr
read Uniform d b i k p = instr.Scalar (register Uniform d) (scalar.Load (array_register b) (register Uniform i) (mask_register k) p)
read Varying d b i k p = instr.Vector (register Varying d) (vector.Gather (array_register b) (register Varying i) (mask_register k) p)

abbrev pub write : Rate → ℕ → ℕ → ℕ → ℕ → ℕ → Instr
write Uniform b i x k p = instr.Store (array_register b) (register Uniform i) (register Uniform x) (mask_register k) p
write Varying b i x k p = instr.Scatter (array_register b) (register Varying i) (register Varying x) (mask_register k) p

-- a run of elements: lane p has the element that is p places after that of a scalar index
abbrev pub read_run : ℕ → ℕ → ℕ → ℕ → ℕ → Instr
read_run d b i k p = instr.Vector (register Varying d) (vector.LoadRun (array_register b) (register Uniform i) (mask_register k) p)

abbrev pub write_run : ℕ → ℕ → ℕ → ℕ → ℕ → Instr
write_run b i x k p = instr.StoreRun (array_register b) (register Uniform i) (register Varying x) (mask_register k) p

-- elements as a run, or by an index of their rate
abbrev pub read_by : Bool → Rate → ℕ → ℕ → ℕ → ℕ → ℕ → Instr
read_by true r d b i k p = read_run d b i k p
read_by false r d b i k p = read r d b i k p

abbrev pub write_by : Bool → Rate → ℕ → ℕ → ℕ → ℕ → ℕ → Instr
write_by true r b i x k p = write_run b i x k p
write_by false r b i x k p = write r b i x k p

abbrev pub constant : ℕ → Elem → ℕ → Instr
constant d t bits = instr.Scalar (register Uniform d) (scalar.Constant (number t bits))

abbrev pub splat : ℕ → ℕ → ℕ → Instr
splat d x k = instr.Vector (register Varying d) (vector.Splat (register Uniform x) (mask_register k))

-- a packed call on an array and the number of its first element: register d gets the count; y has what is stored, or gets what is loaded
abbrev pub packed_store : ℕ → ℕ → ℕ → ℕ → ℕ → ℕ → Instr
packed_store d a i y k p =
    instr.PackedStore (register Uniform d) (array_register a) (register Uniform i) (register Varying y) (mask_register k) p

abbrev pub packed_load : ℕ → ℕ → ℕ → ℕ → ℕ → ℕ → Instr
packed_load d a i y k p =
    instr.PackedLoad (register Uniform d) (array_register a) (register Uniform i) (register Varying y) (mask_register k) p

abbrev pub select : Rate → ℕ → ℕ → ℕ → ℕ → ℕ → Instr
select Uniform d c x y k = instr.Scalar (register Uniform d) (scalar.Select (register Uniform c) (register Uniform x) (register Uniform y))
select Varying d c x y k = instr.Vector (register Varying d) (vector.Select (register Varying c) (register Varying x) (register Varying y) (mask_register k))

-- the lanes of mask k where a vector is true, into mask m; those of mask k that are not in mask x
abbrev pub where_so : ℕ → ℕ → ℕ → Instr
where_so m x k = instr.Mask (mask_register m) (mask.Test (register Varying x) (mask_register k))

abbrev pub the_others : ℕ → ℕ → ℕ → Instr
the_others m k x = instr.Mask (mask_register m) (mask.Binary mask_op.AndNot (mask_register k) (mask_register x))

abbrev pub jump_off : ℕ → ℕ → Instr
jump_off k to = instr.JumpIf jump.Off (mask_register k) to

abbrev pub jump_on : JumpTest → ℕ → ℕ → Instr
jump_on t x to = instr.JumpIf t (register Uniform x) to
