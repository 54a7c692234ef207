-- The row of the instruction that is made of registers and an ending is these registers and this ending, where they are as many
-- as the shape of the word says.
use Rattle.std.specs.Prelude.{◌≡◌, ℕ, suc, Bool, true, false, ◌||◌, ◌==◌, if◌then◌else◌, length, List, [], ◌∷◌}
use Rattle.std.proofs.Common.{refl, arith}
use Rattle.std.proofs.lemmas.Bool.{eqb-true}
use Rattle.std.proofs.lemmas.Bool.Decides.{nat_tests}
use Rattle.isp_code.specs.declared.instr.Instr.TheVariants as instr
use Rattle.isp_code.specs.declared.instr.ScalarInstr.TheVariants as scalar
use Rattle.isp_code.specs.declared.instr.VectorInstr.TheVariants as vector
use Rattle.isp_code.specs.declared.register.Register.{Register}
use Rattle.isp_asm.specs.declared.head.Op.{Op}
use Rattle.isp_asm.specs.declared.head.Op.TheVariants as op
use Rattle.isp_asm.specs.declared.row.Tail.{Tail}
use Rattle.isp_asm.specs.declared.row.Tail.TheVariants as tail
use Rattle.isp_asm.specs.declared.shape.Ending.TheVariants as ending
use Rattle.isp_asm.specs.Rows.{line, row}
use Rattle.isp_asm.specs.Shapes.{shape_of}
use Rattle.isp_asm.specs.reader.Making.{made, nth, number_of, constant_of, result_of}
use Rattle.isp_asm.specs.reader.Reading.{ending_of, has_registers}

none_left : (rs : List Register) → length rs ≡ 0 → [] ≡ rs
none_left [] h = refl
none_left (a ∷ rs) h = absurd (omega (arith, h))

one : (rs : List Register) → length rs ≡ 1 → nth rs 0 ∷ [] ≡ rs
one [] h = absurd (omega (arith, h))
one (a ∷ []) h = refl
one (a ∷ x ∷ rs) h = absurd (omega (arith, h))

two : (rs : List Register) → length rs ≡ 2 → nth rs 0 ∷ nth rs 1 ∷ [] ≡ rs
two [] h = absurd (omega (arith, h))
two (a ∷ []) h = absurd (omega (arith, h))
two (a ∷ b ∷ []) h = refl
two (a ∷ b ∷ x ∷ rs) h = absurd (omega (arith, h))

three : (rs : List Register) → length rs ≡ 3 → nth rs 0 ∷ nth rs 1 ∷ nth rs 2 ∷ [] ≡ rs
three [] h = absurd (omega (arith, h))
three (a ∷ []) h = absurd (omega (arith, h))
three (a ∷ b ∷ []) h = absurd (omega (arith, h))
three (a ∷ b ∷ c ∷ []) h = refl
three (a ∷ b ∷ c ∷ x ∷ rs) h = absurd (omega (arith, h))

four : (rs : List Register) → length rs ≡ 4 → nth rs 0 ∷ nth rs 1 ∷ nth rs 2 ∷ nth rs 3 ∷ [] ≡ rs
four [] h = absurd (omega (arith, h))
four (a ∷ []) h = absurd (omega (arith, h))
four (a ∷ b ∷ []) h = absurd (omega (arith, h))
four (a ∷ b ∷ c ∷ []) h = absurd (omega (arith, h))
four (a ∷ b ∷ c ∷ d ∷ []) h = refl
four (a ∷ b ∷ c ∷ d ∷ x ∷ rs) h = absurd (omega (arith, h))

five : (rs : List Register) → length rs ≡ 5 → nth rs 0 ∷ nth rs 1 ∷ nth rs 2 ∷ nth rs 3 ∷ nth rs 4 ∷ [] ≡ rs
five [] h = absurd (omega (arith, h))
five (a ∷ []) h = absurd (omega (arith, h))
five (a ∷ b ∷ []) h = absurd (omega (arith, h))
five (a ∷ b ∷ c ∷ []) h = absurd (omega (arith, h))
five (a ∷ b ∷ c ∷ d ∷ []) h = absurd (omega (arith, h))
five (a ∷ b ∷ c ∷ d ∷ e ∷ []) h = refl
five (a ∷ b ∷ c ∷ d ∷ e ∷ x ∷ rs) h = absurd (omega (arith, h))

no_tail : (t : Tail) → ending_of t ≡ ending.Nothing → tail.Nothing ≡ t
no_tail tail.Nothing e = refl
no_tail (tail.Place p) e = absurd cc
no_tail (tail.Label n) e = absurd cc
no_tail (tail.Text n) e = absurd cc
no_tail (tail.Number z) e = absurd cc
no_tail (tail.Back x) e = absurd cc

place_tail : (t : Tail) → ending_of t ≡ ending.Place → tail.Place (number_of t) ≡ t
place_tail tail.Nothing e = absurd cc
place_tail (tail.Place p) e = refl
place_tail (tail.Label n) e = absurd cc
place_tail (tail.Text n) e = absurd cc
place_tail (tail.Number z) e = absurd cc
place_tail (tail.Back x) e = absurd cc

label_tail : (t : Tail) → ending_of t ≡ ending.Label → tail.Label (number_of t) ≡ t
label_tail tail.Nothing e = absurd cc
label_tail (tail.Place p) e = absurd cc
label_tail (tail.Label n) e = refl
label_tail (tail.Text n) e = absurd cc
label_tail (tail.Number z) e = absurd cc
label_tail (tail.Back x) e = absurd cc

text_tail : (t : Tail) → ending_of t ≡ ending.Text → tail.Text (number_of t) ≡ t
text_tail tail.Nothing e = absurd cc
text_tail (tail.Place p) e = absurd cc
text_tail (tail.Label n) e = absurd cc
text_tail (tail.Text n) e = refl
text_tail (tail.Number z) e = absurd cc
text_tail (tail.Back x) e = absurd cc

number_tail : (t : Tail) → ending_of t ≡ ending.Number → tail.Number (constant_of t) ≡ t
number_tail tail.Nothing e = absurd cc
number_tail (tail.Place p) e = absurd cc
number_tail (tail.Label n) e = absurd cc
number_tail (tail.Text n) e = absurd cc
number_tail (tail.Number z) e = refl
number_tail (tail.Back x) e = absurd cc

back_tail : (t : Tail) → ending_of t ≡ ending.Back → tail.Back (result_of t) ≡ t
back_tail tail.Nothing e = absurd cc
back_tail (tail.Place p) e = absurd cc
back_tail (tail.Label n) e = absurd cc
back_tail (tail.Text n) e = absurd cc
back_tail (tail.Number z) e = absurd cc
back_tail (tail.Back x) e = refl

just_so : (n m : ℕ) → ((n == m) || false) ≡ true → n ≡ m
just_so n m h = grind (arith, nat_tests)

one_more : (n m : ℕ) → (n == m) ≡ false → ((n == m) || (n == suc m)) ≡ true → n ≡ suc m
one_more n m k h = grind (arith, nat_tests)

line_is : (o : Op) {rs rs' : List Register} {t t' : Tail} → rs ≡ rs' → t ≡ t' → line o rs t ≡ line o rs' t'
line_is o e f = cc

pub made_row : (o : Op) (rs : List Register) (t : Tail) → ending_of t ≡ (shape_of o).ending → has_registers (shape_of o) (length rs) ≡ true → row (made o rs t) ≡ line o rs t
made_row op.Const rs t e h = line_is op.Const (one rs (just_so (length rs) 1 h)) (number_tail t e)
made_row op.Copy rs t e h = by (length rs == 2) refl
  where
    by : (b : Bool) → (length rs == 2) ≡ b → row (if b then instr.Scalar (nth rs 0) (scalar.Copy (nth rs 1)) else instr.Vector (nth rs 0) (vector.Copy (nth rs 1) (nth rs 2))) ≡ line op.Copy rs t
    by true k = line_is op.Copy (two rs (eqb-true (length rs) 2 k)) (no_tail t e)
    by false k = line_is op.Copy (three rs (one_more (length rs) 2 k h)) (no_tail t e)
made_row op.Convert rs t e h = by (length rs == 2) refl
  where
    by : (b : Bool) → (length rs == 2) ≡ b → row (if b then instr.Scalar (nth rs 0) (scalar.Convert (nth rs 1)) else instr.Vector (nth rs 0) (vector.Convert (nth rs 1) (nth rs 2))) ≡ line op.Convert rs t
    by true k = line_is op.Convert (two rs (eqb-true (length rs) 2 k)) (no_tail t e)
    by false k = line_is op.Convert (three rs (one_more (length rs) 2 k h)) (no_tail t e)
made_row (op.Unary o) rs t e h = by (length rs == 2) refl
  where
    by : (b : Bool) → (length rs == 2) ≡ b → row (if b then instr.Scalar (nth rs 0) (scalar.Unary o (nth rs 1)) else instr.Vector (nth rs 0) (vector.Unary o (nth rs 1) (nth rs 2))) ≡ line (op.Unary o) rs t
    by true k = line_is (op.Unary o) (two rs (eqb-true (length rs) 2 k)) (no_tail t e)
    by false k = line_is (op.Unary o) (three rs (one_more (length rs) 2 k h)) (no_tail t e)
made_row (op.Plain o) rs t e h = by (length rs == 3) refl
  where
    by : (b : Bool) → (length rs == 3) ≡ b → row (if b then instr.Scalar (nth rs 0) (scalar.Binary o (nth rs 1) (nth rs 2)) else instr.Vector (nth rs 0) (vector.Binary o (nth rs 1) (nth rs 2) (nth rs 3))) ≡ line (op.Plain o) rs t
    by true k = line_is (op.Plain o) (three rs (eqb-true (length rs) 3 k)) (no_tail t e)
    by false k = line_is (op.Plain o) (four rs (one_more (length rs) 3 k h)) (no_tail t e)
made_row (op.Compare o) rs t e h = by (length rs == 3) refl
  where
    by : (b : Bool) → (length rs == 3) ≡ b → row (if b then instr.Scalar (nth rs 0) (scalar.Compare o (nth rs 1) (nth rs 2)) else instr.Vector (nth rs 0) (vector.Compare o (nth rs 1) (nth rs 2) (nth rs 3))) ≡ line (op.Compare o) rs t
    by true k = line_is (op.Compare o) (three rs (eqb-true (length rs) 3 k)) (no_tail t e)
    by false k = line_is (op.Compare o) (four rs (one_more (length rs) 3 k h)) (no_tail t e)
made_row op.Select rs t e h = by (length rs == 4) refl
  where
    by : (b : Bool) → (length rs == 4) ≡ b → row (if b then instr.Scalar (nth rs 0) (scalar.Select (nth rs 1) (nth rs 2) (nth rs 3)) else instr.Vector (nth rs 0) (vector.Select (nth rs 1) (nth rs 2) (nth rs 3) (nth rs 4))) ≡ line op.Select rs t
    by true k = line_is op.Select (four rs (eqb-true (length rs) 4 k)) (no_tail t e)
    by false k = line_is op.Select (five rs (one_more (length rs) 4 k h)) (no_tail t e)
made_row (op.Divide o) rs t e h = line_is (op.Divide o) (four rs (just_so (length rs) 4 h)) (place_tail t e)
made_row op.First rs t e h = line_is op.First (two rs (just_so (length rs) 2 h)) (no_tail t e)
made_row (op.Reduce o) rs t e h = line_is (op.Reduce o) (three rs (just_so (length rs) 3 h)) (no_tail t e)
made_row op.Extract rs t e h = line_is op.Extract (four rs (just_so (length rs) 4 h)) (no_tail t e)
made_row op.Load rs t e h = line_is op.Load (four rs (just_so (length rs) 4 h)) (place_tail t e)
made_row op.Store rs t e h = line_is op.Store (four rs (just_so (length rs) 4 h)) (place_tail t e)
made_row op.Gather rs t e h = line_is op.Gather (four rs (just_so (length rs) 4 h)) (place_tail t e)
made_row op.Scatter rs t e h = line_is op.Scatter (four rs (just_so (length rs) 4 h)) (place_tail t e)
made_row op.LoadRun rs t e h = line_is op.LoadRun (four rs (just_so (length rs) 4 h)) (place_tail t e)
made_row op.StoreRun rs t e h = line_is op.StoreRun (four rs (just_so (length rs) 4 h)) (place_tail t e)
made_row op.PackedLoad rs t e h = line_is op.PackedLoad (five rs (just_so (length rs) 5 h)) (place_tail t e)
made_row op.PackedStore rs t e h = line_is op.PackedStore (five rs (just_so (length rs) 5 h)) (place_tail t e)
made_row op.Splat rs t e h = line_is op.Splat (three rs (just_so (length rs) 3 h)) (no_tail t e)
made_row op.Index rs t e h = line_is op.Index (two rs (just_so (length rs) 2 h)) (no_tail t e)
made_row (op.Scan o) rs t e h = line_is (op.Scan o) (three rs (just_so (length rs) 3 h)) (no_tail t e)
made_row (op.Exchange o) rs t e h = line_is (op.Exchange o) (four rs (just_so (length rs) 4 h)) (no_tail t e)
made_row op.Shuffle rs t e h = line_is op.Shuffle (four rs (just_so (length rs) 4 h)) (no_tail t e)
made_row op.ShuffleTwo rs t e h = line_is op.ShuffleTwo (five rs (just_so (length rs) 5 h)) (no_tail t e)
made_row op.Insert rs t e h = line_is op.Insert (five rs (just_so (length rs) 5 h)) (no_tail t e)
made_row op.MaskCopy rs t e h = line_is op.MaskCopy (two rs (just_so (length rs) 2 h)) (no_tail t e)
made_row (op.MaskBinary o) rs t e h = line_is (op.MaskBinary o) (three rs (just_so (length rs) 3 h)) (no_tail t e)
made_row op.Full rs t e h = line_is op.Full (one rs (just_so (length rs) 1 h)) (no_tail t e)
made_row op.Off rs t e h = line_is op.Off (one rs (just_so (length rs) 1 h)) (no_tail t e)
made_row op.Test rs t e h = line_is op.Test (three rs (just_so (length rs) 3 h)) (no_tail t e)
made_row op.Lowest rs t e h = line_is op.Lowest (two rs (just_so (length rs) 2 h)) (no_tail t e)
made_row op.Range rs t e h = line_is op.Range (three rs (just_so (length rs) 3 h)) (no_tail t e)
made_row op.Clear rs t e h = line_is op.Clear (two rs (just_so (length rs) 2 h)) (no_tail t e)
made_row op.Jump rs t e h = line_is op.Jump (none_left rs (just_so (length rs) 0 h)) (label_tail t e)
made_row (op.JumpIf c) rs t e h = line_is (op.JumpIf c) (one rs (just_so (length rs) 1 h)) (label_tail t e)
made_row op.Say rs t e h = line_is op.Say (none_left rs (just_so (length rs) 0 h)) (text_tail t e)
made_row op.PrintScalar rs t e h = line_is op.PrintScalar (one rs (just_so (length rs) 1 h)) (no_tail t e)
made_row op.PrintVector rs t e h = line_is op.PrintVector (two rs (just_so (length rs) 2 h)) (no_tail t e)
made_row op.Fail rs t e h = line_is op.Fail (one rs (just_so (length rs) 1 h)) (place_tail t e)
made_row op.Return rs t e h = line_is op.Return (none_left rs (just_so (length rs) 0 h)) (back_tail t e)
