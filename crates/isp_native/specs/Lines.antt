-- The line of each instruction: its word, and its operands in the order of docs/MACHINE.md. Of lanes the word has a V in front.
use Rattle.std.specs.Prelude.{ℕ, List, [], ◌∷◌, ◌++◌, Option, Some, None, codes}
use Rattle.std.specs.Fmt.{decimal, signed_decimal}
use Rattle.std.specs.List.{flat_map}
use Rattle.isp_code.specs.declared.instr.Call.{Call}
use Rattle.isp_code.specs.declared.instr.Instr.{Instr}
use Rattle.isp_code.specs.declared.instr.Instr.TheVariants as instr
use Rattle.isp_code.specs.declared.instr.MaskInstr.{MaskInstr}
use Rattle.isp_code.specs.declared.instr.MaskInstr.TheVariants as mask
use Rattle.isp_code.specs.declared.instr.ScalarInstr.{ScalarInstr}
use Rattle.isp_code.specs.declared.instr.ScalarInstr.TheVariants as scalar
use Rattle.isp_code.specs.declared.instr.VectorInstr.{VectorInstr}
use Rattle.isp_code.specs.declared.instr.VectorInstr.TheVariants as vector
use Rattle.isp_code.specs.declared.register.Register.{Register}
use Rattle.isp_native.specs.declared.line.Tail.{Tail}
use Rattle.isp_native.specs.declared.line.Tail.TheVariants.{Nothing, Place, Label, Number}
use Rattle.isp_native.specs.Words.{capital, register_word, unary_word, plain_word, compare_word, division_word, mask_word, jump_word, reduction_word, scan_word, exchange_word, call_word}

abbrev pub lanes : List ℕ → List ℕ
lanes w = codes "V" ++ w

abbrev pub behind : Register → List ℕ
behind r = codes ", " ++ register_word r

-- what ends the operands
abbrev pub tail_text : Tail → List ℕ
tail_text Nothing = []
tail_text (Place p) = codes ", p" ++ decimal p
tail_text (Label n) = codes ", L" ++ decimal n
tail_text (Number z) = codes ", " ++ (signed_decimal z ++ codes "ull")

-- a word, its registers, and what ends its operands
abbrev pub opened : List ℕ → Register → List ℕ
opened w r = w ++ (codes "(" ++ register_word r)

abbrev pub line : List ℕ → Register → List Register → Tail → List ℕ
line w r rs t = opened w r ++ (flat_map behind rs ++ (tail_text t ++ codes ");"))

abbrev pub scalar_line : Register → ScalarInstr → List ℕ
scalar_line d (scalar.Constant n) = line (codes "CONST") d [] (Number n)
scalar_line d (scalar.Copy x) = line (codes "COPY") d (x ∷ []) Nothing
scalar_line d (scalar.Convert x) = line (codes "CONV") d (x ∷ []) Nothing
scalar_line d (scalar.Unary o x) = line (unary_word o) d (x ∷ []) Nothing
scalar_line d (scalar.Binary o x y) = line (plain_word o) d (x ∷ y ∷ []) Nothing
scalar_line d (scalar.Compare o x y) = line (compare_word o) d (x ∷ y ∷ []) Nothing
scalar_line d (scalar.Select c x y) = line (codes "SEL") d (c ∷ x ∷ y ∷ []) Nothing
scalar_line d (scalar.First x) = line (codes "MFIRST") d (x ∷ []) Nothing
scalar_line d (scalar.Load a i k p) = line (codes "LOAD") d (a ∷ i ∷ k ∷ []) (Place p)
scalar_line d (scalar.Reduce o x k) = line (reduction_word o) d (x ∷ k ∷ []) Nothing
scalar_line d (scalar.Extract x i k) = line (codes "EXTR") d (x ∷ i ∷ k ∷ []) Nothing

abbrev pub vector_line : Register → VectorInstr → List ℕ
vector_line d (vector.Copy x k) = line (codes "VCOPY") d (x ∷ k ∷ []) Nothing
vector_line d (vector.Convert x k) = line (codes "VCONV") d (x ∷ k ∷ []) Nothing
vector_line d (vector.Unary o x k) = line (lanes (unary_word o)) d (x ∷ k ∷ []) Nothing
vector_line d (vector.Binary o x y k) = line (lanes (plain_word o)) d (x ∷ y ∷ k ∷ []) Nothing
vector_line d (vector.Compare o x y k) = line (lanes (compare_word o)) d (x ∷ y ∷ k ∷ []) Nothing
vector_line d (vector.Select c x y k) = line (codes "VSEL") d (c ∷ x ∷ y ∷ k ∷ []) Nothing
vector_line d (vector.Splat x k) = line (codes "SPLAT") d (x ∷ k ∷ []) Nothing
vector_line d (vector.Index k) = line (codes "INDEX") d (k ∷ []) Nothing
vector_line d (vector.Gather a i k p) = line (codes "GATHER") d (a ∷ i ∷ k ∷ []) (Place p)
vector_line d (vector.LoadRun a i k p) = line (codes "VLOAD") d (a ∷ i ∷ k ∷ []) (Place p)
vector_line d (vector.Scan o x k) = line (scan_word o) d (x ∷ k ∷ []) Nothing
vector_line d (vector.Exchange o x i k) = line (exchange_word o) d (x ∷ i ∷ k ∷ []) Nothing
vector_line d (vector.Shuffle x i k) = line (codes "SHUF") d (x ∷ i ∷ k ∷ []) Nothing
vector_line d (vector.ShuffleTwo x y i k) = line (codes "SHUF2") d (x ∷ y ∷ i ∷ k ∷ []) Nothing
vector_line d (vector.Insert x i y k) = line (codes "INS") d (x ∷ i ∷ y ∷ k ∷ []) Nothing

abbrev pub mask_line : Register → MaskInstr → List ℕ
mask_line d (mask.Copy x) = line (codes "MCOPY") d (x ∷ []) Nothing
mask_line d (mask.Binary o x y) = line (mask_word o) d (x ∷ y ∷ []) Nothing
mask_line d mask.Full = line (codes "MFULL") d [] Nothing
mask_line d mask.Off = line (codes "MNONE") d [] Nothing
mask_line d (mask.Test x y) = line (codes "MTEST") d (x ∷ y ∷ []) Nothing
mask_line d (mask.Lowest x) = line (codes "MLOW") d (x ∷ []) Nothing
mask_line d (mask.Range x y) = line (codes "MRANGE") d (x ∷ y ∷ []) Nothing

abbrev pub jump_line : ℕ → List ℕ
jump_line to = codes "JMP(L" ++ (decimal to ++ codes ");")

abbrev pub say_line : ℕ → List ℕ
say_line t = codes "SAY(t" ++ (decimal t ++ codes ");")

-- a call: the function, where the result goes, the mask, the place, and what is passed, each by its class
abbrev pub back_text : Option Register → List ℕ
back_text None = []
back_text (Some r) = behind r

abbrev pub passed : Register → List ℕ
passed r = codes ", " ++ (capital r.class ++ (codes "(" ++ (register_word r ++ codes ")")))

abbrev pub called : Option Register → ℕ → List ℕ
called r f = call_word r ++ (codes "(f" ++ (decimal f ++ back_text r))

abbrev pub call_line : Call → List ℕ
call_line c = called c.result c.function ++ (behind c.mask ++ (tail_text (Place c.place) ++ (flat_map passed c.arguments ++ codes ");")))

abbrev pub return_line : Option Register → List ℕ
return_line None = codes "LEAVE();"
return_line (Some r) = line (codes "RET") r [] Nothing

abbrev pub instr_line : Instr → List ℕ
instr_line (instr.Scalar d i) = scalar_line d i
instr_line (instr.Vector d i) = vector_line d i
instr_line (instr.Mask d i) = mask_line d i
instr_line (instr.Divide o d x y k p) = line (division_word d.class o) d (x ∷ y ∷ k ∷ []) (Place p)
instr_line (instr.Store a i y k p) = line (codes "STORE") a (i ∷ y ∷ k ∷ []) (Place p)
instr_line (instr.Scatter a i y k p) = line (codes "SCATTER") a (i ∷ y ∷ k ∷ []) (Place p)
instr_line (instr.StoreRun a i y k p) = line (codes "VSTORE") a (i ∷ y ∷ k ∷ []) (Place p)
instr_line (instr.PackedStore d a i y k p) = line (codes "PSTORE") d (a ∷ i ∷ y ∷ k ∷ []) (Place p)
instr_line (instr.PackedLoad d a i y k p) = line (codes "PLOAD") d (a ∷ i ∷ y ∷ k ∷ []) (Place p)
instr_line (instr.Clear a k) = line (codes "CLEAR") a (k ∷ []) Nothing
instr_line (instr.Jump to) = jump_line to
instr_line (instr.JumpIf t x to) = line (jump_word t) x [] (Label to)
instr_line (instr.Say t) = say_line t
instr_line (instr.PrintScalar x) = line (codes "PRS") x [] Nothing
instr_line (instr.PrintVector x k) = line (codes "PRV") x (k ∷ []) Nothing
instr_line (instr.Fail x p) = line (codes "FAIL") x [] (Place p)
instr_line (instr.Call c) = call_line c
instr_line (instr.Return x) = return_line x
