-- The first word of each line, and which word is which.
use Rattle.std.specs.Prelude.{ℕ, List, [], ◌∷◌, map, Option, Some, None, cond, codes, bytes_eq}
use Rattle.isp_base.specs.declared.operators.Compare.{Compare}
use Rattle.isp_base.specs.declared.operators.Compare.TheVariants as compare
use Rattle.isp_base.specs.declared.operators.UnaryOp.{UnaryOp}
use Rattle.isp_base.specs.declared.operators.UnaryOp.TheVariants as unary
use Rattle.isp_code.specs.declared.instr.Division.{Division}
use Rattle.isp_code.specs.declared.instr.Division.TheVariants as division
use Rattle.isp_code.specs.declared.instr.Exchange.{Exchange}
use Rattle.isp_code.specs.declared.instr.Exchange.TheVariants as exchange
use Rattle.isp_code.specs.declared.instr.JumpTest.{JumpTest}
use Rattle.isp_code.specs.declared.instr.JumpTest.TheVariants as jump
use Rattle.isp_code.specs.declared.instr.MaskOp.{MaskOp}
use Rattle.isp_code.specs.declared.instr.MaskOp.TheVariants as mask_op
use Rattle.isp_code.specs.declared.instr.Plain.{Plain}
use Rattle.isp_code.specs.declared.instr.Plain.TheVariants as plain
use Rattle.isp_code.specs.declared.instr.Reduction.{Reduction}
use Rattle.isp_code.specs.declared.instr.Reduction.TheVariants as reduction
use Rattle.isp_code.specs.declared.instr.Scan.{Scan}
use Rattle.isp_code.specs.declared.instr.Scan.TheVariants as scan
use Rattle.isp_asm.specs.declared.head.Head.{Head}
use Rattle.isp_asm.specs.declared.head.Head.TheVariants as head
use Rattle.isp_asm.specs.declared.head.Op.{Op}
use Rattle.isp_asm.specs.declared.head.Op.TheVariants as op

abbrev pub unary_word : UnaryOp → List ℕ
unary_word unary.Negate = codes "neg"
unary_word unary.Invert = codes "inv"
unary_word unary.Absolute = codes "abs"
unary_word unary.Not = codes "lnot"

abbrev pub plain_word : Plain → List ℕ
plain_word plain.Add = codes "add"
plain_word plain.Sub = codes "sub"
plain_word plain.Mul = codes "mul"
plain_word plain.And = codes "and"
plain_word plain.Or = codes "or"
plain_word plain.Xor = codes "xor"
plain_word plain.Shl = codes "shl"
plain_word plain.Shr = codes "shr"
plain_word plain.Min = codes "min"
plain_word plain.Max = codes "max"

abbrev pub compare_word : Compare → List ℕ
compare_word compare.Equal = codes "eq"
compare_word compare.NotEqual = codes "ne"
compare_word compare.Less = codes "lt"
compare_word compare.LessOrEqual = codes "le"
compare_word compare.Greater = codes "gt"
compare_word compare.GreaterOrEqual = codes "ge"

abbrev pub division_word : Division → List ℕ
division_word division.Div = codes "div"
division_word division.Rem = codes "rem"

abbrev pub mask_word : MaskOp → List ℕ
mask_word mask_op.And = codes "mand"
mask_word mask_op.Or = codes "mor"
mask_word mask_op.AndNot = codes "mandn"

abbrev pub jump_word : JumpTest → List ℕ
jump_word jump.False = codes "jz"
jump_word jump.True = codes "jnz"
jump_word jump.Off = codes "joff"
jump_word jump.On = codes "jon"
jump_word jump.All = codes "jall"

abbrev pub reduction_word : Reduction → List ℕ
reduction_word reduction.Add = codes "radd"
reduction_word reduction.Min = codes "rmin"
reduction_word reduction.Max = codes "rmax"
reduction_word reduction.Equal = codes "requ"
reduction_word reduction.Any = codes "rany"
reduction_word reduction.All = codes "rall"

abbrev pub scan_word : Scan → List ℕ
scan_word scan.Add = codes "sadd"
scan_word scan.And = codes "sand"
scan_word scan.Or = codes "sor"

abbrev pub exchange_word : Exchange → List ℕ
exchange_word exchange.Broadcast = codes "bcast"
exchange_word exchange.Rotate = codes "rot"
exchange_word exchange.Shift = codes "shf"

abbrev pub op_word : Op → List ℕ
op_word op.Const = codes "const"
op_word op.Copy = codes "copy"
op_word op.Convert = codes "conv"
op_word (op.Unary o) = unary_word o
op_word (op.Plain o) = plain_word o
op_word (op.Compare o) = compare_word o
op_word op.Select = codes "sel"
op_word (op.Divide o) = division_word o
op_word op.First = codes "mfirst"
op_word (op.Reduce o) = reduction_word o
op_word op.Extract = codes "extr"
op_word op.Load = codes "load"
op_word op.Store = codes "store"
op_word op.Gather = codes "gather"
op_word op.Scatter = codes "scatter"
op_word op.LoadRun = codes "vload"
op_word op.StoreRun = codes "vstore"
op_word op.PackedLoad = codes "pload"
op_word op.PackedStore = codes "pstore"
op_word op.Splat = codes "splat"
op_word op.Index = codes "index"
op_word (op.Scan o) = scan_word o
op_word (op.Exchange o) = exchange_word o
op_word op.Shuffle = codes "shuf"
op_word op.ShuffleTwo = codes "shuf2"
op_word op.Insert = codes "ins"
op_word op.MaskCopy = codes "mcopy"
op_word (op.MaskBinary o) = mask_word o
op_word op.Full = codes "mfull"
op_word op.Off = codes "mnone"
op_word op.Test = codes "mtest"
op_word op.Lowest = codes "mlow"
op_word op.Range = codes "mrange"
op_word op.Clear = codes "clear"
op_word op.Jump = codes "jmp"
op_word (op.JumpIf t) = jump_word t
op_word op.Say = codes "say"
op_word op.PrintScalar = codes "prs"
op_word op.PrintVector = codes "prv"
op_word op.Fail = codes "fail"
op_word op.Return = codes "ret"

abbrev pub head_word : Head → List ℕ
head_word head.Isp = codes "isp"
head_word head.Place = codes "place"
head_word head.Text = codes "text"
head_word head.Func = codes "func"
head_word head.Par = codes "par"
head_word head.Loc = codes "loc"
head_word head.Scalars = codes "s"
head_word head.Vectors = codes "v"
head_word head.Masks = codes "m"
head_word head.End = codes "end"
head_word head.Call = codes "call"
head_word (head.Op o) = op_word o

-- all of them
abbrev pub ops : List Op
ops =
    op.Const ∷ op.Copy ∷ op.Convert ∷ op.Unary unary.Negate ∷ op.Unary unary.Invert ∷ op.Unary unary.Absolute ∷ op.Unary unary.Not ∷
    op.Plain plain.Add ∷ op.Plain plain.Sub ∷ op.Plain plain.Mul ∷ op.Plain plain.And ∷ op.Plain plain.Or ∷ op.Plain plain.Xor ∷
    op.Plain plain.Shl ∷ op.Plain plain.Shr ∷ op.Plain plain.Min ∷ op.Plain plain.Max ∷
    op.Compare compare.Equal ∷ op.Compare compare.NotEqual ∷ op.Compare compare.Less ∷ op.Compare compare.LessOrEqual ∷ op.Compare compare.Greater ∷ op.Compare compare.GreaterOrEqual ∷
    op.Select ∷ op.Divide division.Div ∷ op.Divide division.Rem ∷ op.First ∷
    op.Reduce reduction.Add ∷ op.Reduce reduction.Min ∷ op.Reduce reduction.Max ∷ op.Reduce reduction.Equal ∷ op.Reduce reduction.Any ∷ op.Reduce reduction.All ∷ op.Extract ∷
    op.Load ∷ op.Store ∷ op.Gather ∷ op.Scatter ∷ op.LoadRun ∷ op.StoreRun ∷ op.PackedLoad ∷ op.PackedStore ∷
    op.Splat ∷ op.Index ∷ op.Scan scan.Add ∷ op.Scan scan.And ∷ op.Scan scan.Or ∷
    op.Exchange exchange.Broadcast ∷ op.Exchange exchange.Rotate ∷ op.Exchange exchange.Shift ∷ op.Shuffle ∷ op.ShuffleTwo ∷ op.Insert ∷
    op.MaskCopy ∷ op.MaskBinary mask_op.And ∷ op.MaskBinary mask_op.Or ∷ op.MaskBinary mask_op.AndNot ∷
    op.Full ∷ op.Off ∷ op.Test ∷ op.Lowest ∷ op.Range ∷ op.Clear ∷
    op.Jump ∷ op.JumpIf jump.False ∷ op.JumpIf jump.True ∷ op.JumpIf jump.Off ∷ op.JumpIf jump.On ∷ op.JumpIf jump.All ∷
    op.Say ∷ op.PrintScalar ∷ op.PrintVector ∷ op.Fail ∷ op.Return ∷ []

abbrev pub heads : List Head
heads =
    head.Isp ∷ head.Place ∷ head.Text ∷ head.Func ∷ head.Par ∷ head.Loc ∷ head.Scalars ∷ head.Vectors ∷ head.Masks ∷ head.End ∷ head.Call ∷ map (λ o. head.Op o) ops

-- the head that a word is, if it is one
abbrev pub first_spelled : List Head → List ℕ → Option Head
first_spelled [] w = None
first_spelled (h ∷ hs) w = cond (bytes_eq w (head_word h)) (Some h) (first_spelled hs w)

abbrev pub head_of : List ℕ → Option Head
head_of w = first_spelled heads w
