-- Rows of instructions: they have the shape of their word, fit where the instruction does, and give the instruction back.
use Rattle.std.specs.Prelude.{◌≡◌, Bool, true, ◌&&◌, length, ◌++◌, map, Some}
use Rattle.std.specs.List.{list_all}
use Rattle.std.proofs.Common.{refl, arith}
use Rattle.isp_code.specs.Writable.{number_fits, constant_fits, register_fits, result_fits, call_fits, instr_fits}
use Rattle.isp_code.specs.declared.instr.Instr.{Instr}
use Rattle.isp_code.specs.declared.instr.Instr.TheVariants as instr
use Rattle.isp_code.specs.declared.instr.MaskInstr.TheVariants as mask
use Rattle.isp_code.specs.declared.instr.ScalarInstr.TheVariants as scalar
use Rattle.isp_code.specs.declared.instr.VectorInstr.TheVariants as vector
use Rattle.isp_code.specs.declared.register.Register.{Register}
use Rattle.isp_asm.specs.declared.head.Head.TheVariants as head
use Rattle.isp_asm.specs.Forms.{Form, forms_at, register, ending_forms}
use Rattle.isp_asm.specs.Rows.{Row, line, call, row, tail_words}
use Rattle.isp_asm.specs.Shapes.{shape_of}
use Rattle.isp_asm.specs.Words.{register_word}
use Rattle.isp_asm.specs.reader.Making.{made}
use Rattle.isp_asm.specs.reader.Reading.{ending_of, tail_fits}

abbrev pub row_fits : Row → Bool
row_fits (line o rs t) = list_all register_fits rs && tail_fits t
row_fits (call c) = call_fits c

abbrev pub remade : Row → Instr
remade (line o rs t) = made o rs t
remade (call c) = instr.Call c

-- an instruction is that of its row, so no two have one row
pub row_kept : (i : Instr) → remade (row i) ≡ i
row_kept (instr.Scalar d (scalar.Constant n)) = refl
row_kept (instr.Scalar d (scalar.Copy x)) = refl
row_kept (instr.Scalar d (scalar.Convert x)) = refl
row_kept (instr.Scalar d (scalar.Unary o x)) = refl
row_kept (instr.Scalar d (scalar.Binary o x y)) = refl
row_kept (instr.Scalar d (scalar.Compare o x y)) = refl
row_kept (instr.Scalar d (scalar.Select c x y)) = refl
row_kept (instr.Scalar d (scalar.First x)) = refl
row_kept (instr.Scalar d (scalar.Load a i k p)) = refl
row_kept (instr.Scalar d (scalar.Reduce o x k)) = refl
row_kept (instr.Scalar d (scalar.Extract x i k)) = refl
row_kept (instr.Vector d (vector.Copy x k)) = refl
row_kept (instr.Vector d (vector.Convert x k)) = refl
row_kept (instr.Vector d (vector.Unary o x k)) = refl
row_kept (instr.Vector d (vector.Binary o x y k)) = refl
row_kept (instr.Vector d (vector.Compare o x y k)) = refl
row_kept (instr.Vector d (vector.Select c x y k)) = refl
row_kept (instr.Vector d (vector.Splat x k)) = refl
row_kept (instr.Vector d (vector.Index k)) = refl
row_kept (instr.Vector d (vector.Gather a i k p)) = refl
row_kept (instr.Vector d (vector.LoadRun a i k p)) = refl
row_kept (instr.Vector d (vector.Scan o x k)) = refl
row_kept (instr.Vector d (vector.Exchange o x i k)) = refl
row_kept (instr.Vector d (vector.Shuffle x i k)) = refl
row_kept (instr.Vector d (vector.ShuffleTwo x y i k)) = refl
row_kept (instr.Vector d (vector.Insert x i y k)) = refl
row_kept (instr.Mask d (mask.Copy x)) = refl
row_kept (instr.Mask d (mask.Binary o x y)) = refl
row_kept (instr.Mask d mask.Full) = refl
row_kept (instr.Mask d mask.Off) = refl
row_kept (instr.Mask d (mask.Test x y)) = refl
row_kept (instr.Mask d (mask.Lowest x)) = refl
row_kept (instr.Mask d (mask.Range x y)) = refl
row_kept (instr.Divide o d x y k p) = refl
row_kept (instr.Store a i y k p) = refl
row_kept (instr.Scatter a i y k p) = refl
row_kept (instr.StoreRun a i y k p) = refl
row_kept (instr.PackedStore d a i y k p) = refl
row_kept (instr.PackedLoad d a i y k p) = refl
row_kept (instr.Clear a k) = refl
row_kept (instr.Jump to) = refl
row_kept (instr.JumpIf t x to) = refl
row_kept (instr.Say t) = refl
row_kept (instr.PrintScalar x) = refl
row_kept (instr.PrintVector x k) = refl
row_kept (instr.Fail x p) = refl
row_kept (instr.Return x) = refl
row_kept (instr.Call c) = refl

-- a row ends as the shape of its word says
abbrev pub EndsRight : Row → Type 0
EndsRight (line o rs t) = ending_of t ≡ (shape_of o).ending
EndsRight (call c) = Unit {0}

pub row_ends : (i : Instr) → EndsRight (row i)
row_ends (instr.Scalar d (scalar.Constant n)) = refl
row_ends (instr.Scalar d (scalar.Copy x)) = refl
row_ends (instr.Scalar d (scalar.Convert x)) = refl
row_ends (instr.Scalar d (scalar.Unary o x)) = refl
row_ends (instr.Scalar d (scalar.Binary o x y)) = refl
row_ends (instr.Scalar d (scalar.Compare o x y)) = refl
row_ends (instr.Scalar d (scalar.Select c x y)) = refl
row_ends (instr.Scalar d (scalar.First x)) = refl
row_ends (instr.Scalar d (scalar.Load a i k p)) = refl
row_ends (instr.Scalar d (scalar.Reduce o x k)) = refl
row_ends (instr.Scalar d (scalar.Extract x i k)) = refl
row_ends (instr.Vector d (vector.Copy x k)) = refl
row_ends (instr.Vector d (vector.Convert x k)) = refl
row_ends (instr.Vector d (vector.Unary o x k)) = refl
row_ends (instr.Vector d (vector.Binary o x y k)) = refl
row_ends (instr.Vector d (vector.Compare o x y k)) = refl
row_ends (instr.Vector d (vector.Select c x y k)) = refl
row_ends (instr.Vector d (vector.Splat x k)) = refl
row_ends (instr.Vector d (vector.Index k)) = refl
row_ends (instr.Vector d (vector.Gather a i k p)) = refl
row_ends (instr.Vector d (vector.LoadRun a i k p)) = refl
row_ends (instr.Vector d (vector.Scan o x k)) = refl
row_ends (instr.Vector d (vector.Exchange o x i k)) = refl
row_ends (instr.Vector d (vector.Shuffle x i k)) = refl
row_ends (instr.Vector d (vector.ShuffleTwo x y i k)) = refl
row_ends (instr.Vector d (vector.Insert x i y k)) = refl
row_ends (instr.Mask d (mask.Copy x)) = refl
row_ends (instr.Mask d (mask.Binary o x y)) = refl
row_ends (instr.Mask d mask.Full) = refl
row_ends (instr.Mask d mask.Off) = refl
row_ends (instr.Mask d (mask.Test x y)) = refl
row_ends (instr.Mask d (mask.Lowest x)) = refl
row_ends (instr.Mask d (mask.Range x y)) = refl
row_ends (instr.Divide o d x y k p) = refl
row_ends (instr.Store a i y k p) = refl
row_ends (instr.Scatter a i y k p) = refl
row_ends (instr.StoreRun a i y k p) = refl
row_ends (instr.PackedStore d a i y k p) = refl
row_ends (instr.PackedLoad d a i y k p) = refl
row_ends (instr.Clear a k) = refl
row_ends (instr.Jump to) = refl
row_ends (instr.JumpIf t x to) = refl
row_ends (instr.Say t) = refl
row_ends (instr.PrintScalar x) = refl
row_ends (instr.PrintVector x k) = refl
row_ends (instr.Fail x p) = refl
row_ends (instr.Return x) = refl
row_ends (instr.Call c) = tt

-- and it has as many registers: its words have forms
abbrev pub one_register : Register → Form
one_register r = register

abbrev pub HasForms : Row → Type 0
HasForms (line o rs t) = forms_at (head.Op o) (length (map register_word rs ++ tail_words t)) ≡ Some (map one_register rs ++ ending_forms (ending_of t))
HasForms (call c) = Unit {0}

pub row_forms : (i : Instr) → HasForms (row i)
row_forms (instr.Scalar d (scalar.Constant n)) = refl
row_forms (instr.Scalar d (scalar.Copy x)) = refl
row_forms (instr.Scalar d (scalar.Convert x)) = refl
row_forms (instr.Scalar d (scalar.Unary o x)) = refl
row_forms (instr.Scalar d (scalar.Binary o x y)) = refl
row_forms (instr.Scalar d (scalar.Compare o x y)) = refl
row_forms (instr.Scalar d (scalar.Select c x y)) = refl
row_forms (instr.Scalar d (scalar.First x)) = refl
row_forms (instr.Scalar d (scalar.Load a i k p)) = refl
row_forms (instr.Scalar d (scalar.Reduce o x k)) = refl
row_forms (instr.Scalar d (scalar.Extract x i k)) = refl
row_forms (instr.Vector d (vector.Copy x k)) = refl
row_forms (instr.Vector d (vector.Convert x k)) = refl
row_forms (instr.Vector d (vector.Unary o x k)) = refl
row_forms (instr.Vector d (vector.Binary o x y k)) = refl
row_forms (instr.Vector d (vector.Compare o x y k)) = refl
row_forms (instr.Vector d (vector.Select c x y k)) = refl
row_forms (instr.Vector d (vector.Splat x k)) = refl
row_forms (instr.Vector d (vector.Index k)) = refl
row_forms (instr.Vector d (vector.Gather a i k p)) = refl
row_forms (instr.Vector d (vector.LoadRun a i k p)) = refl
row_forms (instr.Vector d (vector.Scan o x k)) = refl
row_forms (instr.Vector d (vector.Exchange o x i k)) = refl
row_forms (instr.Vector d (vector.Shuffle x i k)) = refl
row_forms (instr.Vector d (vector.ShuffleTwo x y i k)) = refl
row_forms (instr.Vector d (vector.Insert x i y k)) = refl
row_forms (instr.Mask d (mask.Copy x)) = refl
row_forms (instr.Mask d (mask.Binary o x y)) = refl
row_forms (instr.Mask d mask.Full) = refl
row_forms (instr.Mask d mask.Off) = refl
row_forms (instr.Mask d (mask.Test x y)) = refl
row_forms (instr.Mask d (mask.Lowest x)) = refl
row_forms (instr.Mask d (mask.Range x y)) = refl
row_forms (instr.Divide o d x y k p) = refl
row_forms (instr.Store a i y k p) = refl
row_forms (instr.Scatter a i y k p) = refl
row_forms (instr.StoreRun a i y k p) = refl
row_forms (instr.PackedStore d a i y k p) = refl
row_forms (instr.PackedLoad d a i y k p) = refl
row_forms (instr.Clear a k) = refl
row_forms (instr.Jump to) = refl
row_forms (instr.JumpIf t x to) = refl
row_forms (instr.Say t) = refl
row_forms (instr.PrintScalar x) = refl
row_forms (instr.PrintVector x k) = refl
row_forms (instr.Fail x p) = refl
row_forms (instr.Return x) = refl
row_forms (instr.Call c) = tt

-- the tests of an instruction, in the order of its row
one : (a : Bool) → a ≡ true → ((a && true) && true) ≡ true
one a h = grind arith

alone : (t : Bool) → t ≡ true → (true && t) ≡ true
alone t h = grind arith

one_only : (a : Bool) → (a && true) ≡ true → ((a && true) && true) ≡ true
one_only a h = grind arith

one_tail : (a t : Bool) → (a && t) ≡ true → ((a && true) && t) ≡ true
one_tail a t h = grind arith

two : (a b : Bool) → (a && b) ≡ true → ((a && (b && true)) && true) ≡ true
two a b h = grind arith

three : (a b c : Bool) → (a && (b && c)) ≡ true → ((a && (b && (c && true))) && true) ≡ true
three a b c h = grind arith

four : (a b c d : Bool) → (a && ((b && c) && d)) ≡ true → ((a && (b && (c && (d && true)))) && true) ≡ true
four a b c d h = grind arith

five : (a b c d e : Bool) → (a && (((b && c) && d) && e)) ≡ true → ((a && (b && (c && (d && (e && true))))) && true) ≡ true
five a b c d e h = grind arith

four_tail : (a b c d t : Bool) → (a && (((b && c) && d) && t)) ≡ true → ((a && (b && (c && (d && true)))) && t) ≡ true
four_tail a b c d t h = grind arith

access : (a b c d t : Bool) → ((((a && b) && c) && d) && t) ≡ true → ((a && (b && (c && (d && true)))) && t) ≡ true
access a b c d t h = grind arith

five_tail : (a b c d e t : Bool) → (a && ((((b && c) && d) && e) && t)) ≡ true → ((a && (b && (c && (d && (e && true))))) && t) ≡ true
five_tail a b c d e t h = grind arith

pub row_fit : (i : Instr) → instr_fits i ≡ true → row_fits (row i) ≡ true
row_fit (instr.Scalar d (scalar.Constant n)) h = one_tail (register_fits d) (constant_fits n) h
row_fit (instr.Scalar d (scalar.Copy x)) h = two (register_fits d) (register_fits x) h
row_fit (instr.Scalar d (scalar.Convert x)) h = two (register_fits d) (register_fits x) h
row_fit (instr.Scalar d (scalar.Unary o x)) h = two (register_fits d) (register_fits x) h
row_fit (instr.Scalar d (scalar.Binary o x y)) h = three (register_fits d) (register_fits x) (register_fits y) h
row_fit (instr.Scalar d (scalar.Compare o x y)) h = three (register_fits d) (register_fits x) (register_fits y) h
row_fit (instr.Scalar d (scalar.Select c x y)) h = four (register_fits d) (register_fits c) (register_fits x) (register_fits y) h
row_fit (instr.Scalar d (scalar.First x)) h = two (register_fits d) (register_fits x) h
row_fit (instr.Scalar d (scalar.Load a i k p)) h = four_tail (register_fits d) (register_fits a) (register_fits i) (register_fits k) (number_fits p) h
row_fit (instr.Scalar d (scalar.Reduce o x k)) h = three (register_fits d) (register_fits x) (register_fits k) h
row_fit (instr.Scalar d (scalar.Extract x i k)) h = four (register_fits d) (register_fits x) (register_fits i) (register_fits k) h
row_fit (instr.Vector d (vector.Copy x k)) h = three (register_fits d) (register_fits x) (register_fits k) h
row_fit (instr.Vector d (vector.Convert x k)) h = three (register_fits d) (register_fits x) (register_fits k) h
row_fit (instr.Vector d (vector.Unary o x k)) h = three (register_fits d) (register_fits x) (register_fits k) h
row_fit (instr.Vector d (vector.Binary o x y k)) h = four (register_fits d) (register_fits x) (register_fits y) (register_fits k) h
row_fit (instr.Vector d (vector.Compare o x y k)) h = four (register_fits d) (register_fits x) (register_fits y) (register_fits k) h
row_fit (instr.Vector d (vector.Select c x y k)) h = five (register_fits d) (register_fits c) (register_fits x) (register_fits y) (register_fits k) h
row_fit (instr.Vector d (vector.Splat x k)) h = three (register_fits d) (register_fits x) (register_fits k) h
row_fit (instr.Vector d (vector.Index k)) h = two (register_fits d) (register_fits k) h
row_fit (instr.Vector d (vector.Gather a i k p)) h = four_tail (register_fits d) (register_fits a) (register_fits i) (register_fits k) (number_fits p) h
row_fit (instr.Vector d (vector.LoadRun a i k p)) h = four_tail (register_fits d) (register_fits a) (register_fits i) (register_fits k) (number_fits p) h
row_fit (instr.Vector d (vector.Scan o x k)) h = three (register_fits d) (register_fits x) (register_fits k) h
row_fit (instr.Vector d (vector.Exchange o x i k)) h = four (register_fits d) (register_fits x) (register_fits i) (register_fits k) h
row_fit (instr.Vector d (vector.Shuffle x i k)) h = four (register_fits d) (register_fits x) (register_fits i) (register_fits k) h
row_fit (instr.Vector d (vector.ShuffleTwo x y i k)) h = five (register_fits d) (register_fits x) (register_fits y) (register_fits i) (register_fits k) h
row_fit (instr.Vector d (vector.Insert x i y k)) h = five (register_fits d) (register_fits x) (register_fits i) (register_fits y) (register_fits k) h
row_fit (instr.Mask d (mask.Copy x)) h = two (register_fits d) (register_fits x) h
row_fit (instr.Mask d (mask.Binary o x y)) h = three (register_fits d) (register_fits x) (register_fits y) h
row_fit (instr.Mask d mask.Full) h = one_only (register_fits d) h
row_fit (instr.Mask d mask.Off) h = one_only (register_fits d) h
row_fit (instr.Mask d (mask.Test x y)) h = three (register_fits d) (register_fits x) (register_fits y) h
row_fit (instr.Mask d (mask.Lowest x)) h = two (register_fits d) (register_fits x) h
row_fit (instr.Mask d (mask.Range x y)) h = three (register_fits d) (register_fits x) (register_fits y) h
row_fit (instr.Divide o d x y k p) h = access (register_fits d) (register_fits x) (register_fits y) (register_fits k) (number_fits p) h
row_fit (instr.Store a i y k p) h = access (register_fits a) (register_fits i) (register_fits y) (register_fits k) (number_fits p) h
row_fit (instr.Scatter a i y k p) h = access (register_fits a) (register_fits i) (register_fits y) (register_fits k) (number_fits p) h
row_fit (instr.StoreRun a i y k p) h = access (register_fits a) (register_fits i) (register_fits y) (register_fits k) (number_fits p) h
row_fit (instr.PackedStore d a i y k p) h = five_tail (register_fits d) (register_fits a) (register_fits i) (register_fits y) (register_fits k) (number_fits p) h
row_fit (instr.PackedLoad d a i y k p) h = five_tail (register_fits d) (register_fits a) (register_fits i) (register_fits y) (register_fits k) (number_fits p) h
row_fit (instr.Clear a k) h = two (register_fits a) (register_fits k) h
row_fit (instr.Jump to) h = alone (number_fits to) h
row_fit (instr.JumpIf t x to) h = one_tail (register_fits x) (number_fits to) h
row_fit (instr.Say t) h = alone (number_fits t) h
row_fit (instr.PrintScalar x) h = one (register_fits x) h
row_fit (instr.PrintVector x k) h = two (register_fits x) (register_fits k) h
row_fit (instr.Fail x p) h = one_tail (register_fits x) (number_fits p) h
row_fit (instr.Return x) h = alone (result_fits x) h
row_fit (instr.Call c) h = h
