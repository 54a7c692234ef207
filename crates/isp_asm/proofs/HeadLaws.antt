-- The look-up of a first word finds each head by its word, and what it finds is spelled so.
use Rattle.std.specs.Prelude.{◌≡◌, ℕ, Bool, true, false, cond, List, [], ◌∷◌, Option, Some, bytes_eq}
use Rattle.std.proofs.Common.{refl, sym, subst, ◌∙◌}
use Rattle.std.proofs.lemmas.Slice.Eq.{bytes_eq-Decides}
use Rattle.isp_base.specs.declared.operators.Compare.{Compare}
use Rattle.isp_base.specs.declared.operators.Compare.TheVariants as compare
use Rattle.isp_base.specs.declared.operators.UnaryOp.{UnaryOp}
use Rattle.isp_base.specs.declared.operators.UnaryOp.TheVariants as unary
use Rattle.isp_code.specs.declared.instr.Division.{Division}
use Rattle.isp_code.specs.declared.instr.Division.TheVariants as division
use Rattle.isp_code.specs.declared.instr.Exchange.{Exchange}
use Rattle.isp_code.specs.declared.instr.Exchange.TheVariants as exchange
use Rattle.isp_code.specs.declared.instr.JumpTest.{JumpTest}
use Rattle.isp_code.specs.declared.instr.JumpTest.TheVariants as jump
use Rattle.isp_code.specs.declared.instr.MaskOp.{MaskOp}
use Rattle.isp_code.specs.declared.instr.MaskOp.TheVariants as mask_op
use Rattle.isp_code.specs.declared.instr.Plain.{Plain}
use Rattle.isp_code.specs.declared.instr.Plain.TheVariants as plain
use Rattle.isp_code.specs.declared.instr.Reduction.{Reduction}
use Rattle.isp_code.specs.declared.instr.Reduction.TheVariants as reduction
use Rattle.isp_code.specs.declared.instr.Scan.{Scan}
use Rattle.isp_code.specs.declared.instr.Scan.TheVariants as scan
use Rattle.isp_asm.specs.declared.head.Head.{Head}
use Rattle.isp_asm.specs.declared.head.Head.TheVariants as head
use Rattle.isp_asm.specs.declared.head.Op.{Op}
use Rattle.isp_asm.specs.declared.head.Op.TheVariants as op
use Rattle.isp_asm.specs.Heads.{head_word, op_word, heads, head_of, first_spelled}

abbrev IsFound : Head → Type 0
IsFound h = head_of (head_word h) ≡ Some h

unary_found : (o : UnaryOp) → IsFound (head.Op (op.Unary o))
unary_found unary.Negate = refl
unary_found unary.Invert = refl
unary_found unary.Absolute = refl
unary_found unary.Not = refl

plain_found : (o : Plain) → IsFound (head.Op (op.Plain o))
plain_found plain.Add = refl
plain_found plain.Sub = refl
plain_found plain.Mul = refl
plain_found plain.And = refl
plain_found plain.Or = refl
plain_found plain.Xor = refl
plain_found plain.Shl = refl
plain_found plain.Shr = refl
plain_found plain.Min = refl
plain_found plain.Max = refl

compare_found : (o : Compare) → IsFound (head.Op (op.Compare o))
compare_found compare.Equal = refl
compare_found compare.NotEqual = refl
compare_found compare.Less = refl
compare_found compare.LessOrEqual = refl
compare_found compare.Greater = refl
compare_found compare.GreaterOrEqual = refl

division_found : (o : Division) → IsFound (head.Op (op.Divide o))
division_found division.Div = refl
division_found division.Rem = refl

mask_found : (o : MaskOp) → IsFound (head.Op (op.MaskBinary o))
mask_found mask_op.And = refl
mask_found mask_op.Or = refl
mask_found mask_op.AndNot = refl

jump_found : (t : JumpTest) → IsFound (head.Op (op.JumpIf t))
jump_found jump.False = refl
jump_found jump.True = refl
jump_found jump.Off = refl
jump_found jump.On = refl
jump_found jump.All = refl

reduction_found : (o : Reduction) → IsFound (head.Op (op.Reduce o))
reduction_found reduction.Add = refl
reduction_found reduction.Min = refl
reduction_found reduction.Max = refl
reduction_found reduction.Equal = refl
reduction_found reduction.Any = refl
reduction_found reduction.All = refl

scan_found : (o : Scan) → IsFound (head.Op (op.Scan o))
scan_found scan.Add = refl
scan_found scan.And = refl
scan_found scan.Or = refl

exchange_found : (o : Exchange) → IsFound (head.Op (op.Exchange o))
exchange_found exchange.Broadcast = refl
exchange_found exchange.Rotate = refl
exchange_found exchange.Shift = refl

pub op_found : (o : Op) → head_of (op_word o) ≡ Some (head.Op o)
op_found op.Const = refl
op_found op.Copy = refl
op_found op.Convert = refl
op_found (op.Unary o) = unary_found o
op_found (op.Plain o) = plain_found o
op_found (op.Compare o) = compare_found o
op_found op.Select = refl
op_found (op.Divide o) = division_found o
op_found op.First = refl
op_found (op.Reduce o) = reduction_found o
op_found op.Extract = refl
op_found op.Load = refl
op_found op.Store = refl
op_found op.Gather = refl
op_found op.Scatter = refl
op_found op.LoadRun = refl
op_found op.StoreRun = refl
op_found op.PackedLoad = refl
op_found op.PackedStore = refl
op_found op.Splat = refl
op_found op.Index = refl
op_found (op.Scan o) = scan_found o
op_found (op.Exchange o) = exchange_found o
op_found op.Shuffle = refl
op_found op.ShuffleTwo = refl
op_found op.Insert = refl
op_found op.MaskCopy = refl
op_found (op.MaskBinary o) = mask_found o
op_found op.Full = refl
op_found op.Off = refl
op_found op.Test = refl
op_found op.Lowest = refl
op_found op.Range = refl
op_found op.Clear = refl
op_found op.Jump = refl
op_found (op.JumpIf t) = jump_found t
op_found op.Say = refl
op_found op.PrintScalar = refl
op_found op.PrintVector = refl
op_found op.Fail = refl
op_found op.Return = refl

pub head_found : (h : Head) → head_of (head_word h) ≡ Some h
head_found head.Isp = refl
head_found head.Place = refl
head_found head.Text = refl
head_found head.Func = refl
head_found head.Par = refl
head_found head.Loc = refl
head_found head.Scalars = refl
head_found head.Vectors = refl
head_found head.Masks = refl
head_found head.End = refl
head_found head.Call = refl
head_found (head.Op o) = op_found o

-- what is found is spelled so
spelled_at : (h : Head) (w : List ℕ) (g : Head) (next : Option Head) (t : Bool) → bytes_eq w (head_word h) ≡ t → (next ≡ Some g → head_word g ≡ w) → cond t (Some h) next ≡ Some g → head_word g ≡ w
spelled_at h w g next true f more e =
    let i : h ≡ g = cc in
    subst (λ (j : Head). head_word j ≡ w) i (sym ((bytes_eq-Decides w (head_word h)).0 f))
spelled_at h w g next false f more e = more e

spelled_in : (hs : List Head) (w : List ℕ) (g : Head) → first_spelled hs w ≡ Some g → head_word g ≡ w
spelled_in [] w g e = absurd cc
spelled_in (h ∷ hs) w g e = spelled_at h w g (first_spelled hs w) (bytes_eq w (head_word h)) refl (spelled_in hs w g) e

pub head_spelled : (w : List ℕ) (g : Head) → head_of w ≡ Some g → head_word g ≡ w
head_spelled w g e = spelled_in heads w g e

-- two heads have two words
pub op_word_one : (o p : Op) → op_word o ≡ op_word p → o ≡ p
op_word_one o p e =
    let h : Some (head.Op o) ≡ Some (head.Op p) = sym (op_found o) ∙ (rw e (op_found p)) in
    let i : head.Op o ≡ head.Op p = cc in
    cc
