-- An instruction fits where its row does.
use Rattle.std.specs.Prelude.{◌≡◌, Bool, true, ◌&&◌}
use Rattle.std.proofs.Common.{arith}
use Rattle.isp_code.specs.Writable.{number_fits, constant_fits, register_fits, result_fits, instr_fits}
use Rattle.isp_code.specs.declared.instr.Instr.{Instr}
use Rattle.isp_code.specs.declared.instr.Instr.TheVariants as instr
use Rattle.isp_code.specs.declared.instr.MaskInstr.TheVariants as mask
use Rattle.isp_code.specs.declared.instr.ScalarInstr.TheVariants as scalar
use Rattle.isp_code.specs.declared.instr.VectorInstr.TheVariants as vector
use Rattle.isp_asm.specs.Rows.{row}
use Rattle.isp_asm.proofs.RowLaws.{row_fits}

one_back : (a : Bool) → ((a && true) && true) ≡ true → a ≡ true
one_back a h = grind arith

alone_back : (t : Bool) → (true && t) ≡ true → t ≡ true
alone_back t h = grind arith

one_only_back : (a : Bool) → ((a && true) && true) ≡ true → (a && true) ≡ true
one_only_back a h = grind arith

one_tail_back : (a t : Bool) → ((a && true) && t) ≡ true → (a && t) ≡ true
one_tail_back a t h = grind arith

two_back : (a b : Bool) → ((a && (b && true)) && true) ≡ true → (a && b) ≡ true
two_back a b h = grind arith

three_back : (a b c : Bool) → ((a && (b && (c && true))) && true) ≡ true → (a && (b && c)) ≡ true
three_back a b c h = grind arith

four_back : (a b c d : Bool) → ((a && (b && (c && (d && true)))) && true) ≡ true → (a && ((b && c) && d)) ≡ true
four_back a b c d h = grind arith

five_back : (a b c d e : Bool) → ((a && (b && (c && (d && (e && true))))) && true) ≡ true → (a && (((b && c) && d) && e)) ≡ true
five_back a b c d e h = grind arith

four_tail_back : (a b c d t : Bool) → ((a && (b && (c && (d && true)))) && t) ≡ true → (a && (((b && c) && d) && t)) ≡ true
four_tail_back a b c d t h = grind arith

access_back : (a b c d t : Bool) → ((a && (b && (c && (d && true)))) && t) ≡ true → ((((a && b) && c) && d) && t) ≡ true
access_back a b c d t h = grind arith

five_tail_back : (a b c d e t : Bool) → ((a && (b && (c && (d && (e && true))))) && t) ≡ true → (a && ((((b && c) && d) && e) && t)) ≡ true
five_tail_back a b c d e t h = grind arith

pub fit_row : (i : Instr) → row_fits (row i) ≡ true → instr_fits i ≡ true
fit_row (instr.Scalar d (scalar.Constant n)) h = one_tail_back (register_fits d) (constant_fits n) h
fit_row (instr.Scalar d (scalar.Copy x)) h = two_back (register_fits d) (register_fits x) h
fit_row (instr.Scalar d (scalar.Convert x)) h = two_back (register_fits d) (register_fits x) h
fit_row (instr.Scalar d (scalar.Unary o x)) h = two_back (register_fits d) (register_fits x) h
fit_row (instr.Scalar d (scalar.Binary o x y)) h = three_back (register_fits d) (register_fits x) (register_fits y) h
fit_row (instr.Scalar d (scalar.Compare o x y)) h = three_back (register_fits d) (register_fits x) (register_fits y) h
fit_row (instr.Scalar d (scalar.Select c x y)) h = four_back (register_fits d) (register_fits c) (register_fits x) (register_fits y) h
fit_row (instr.Scalar d (scalar.First x)) h = two_back (register_fits d) (register_fits x) h
fit_row (instr.Scalar d (scalar.Load a i k p)) h = four_tail_back (register_fits d) (register_fits a) (register_fits i) (register_fits k) (number_fits p) h
fit_row (instr.Scalar d (scalar.Reduce o x k)) h = three_back (register_fits d) (register_fits x) (register_fits k) h
fit_row (instr.Scalar d (scalar.Extract x i k)) h = four_back (register_fits d) (register_fits x) (register_fits i) (register_fits k) h
fit_row (instr.Vector d (vector.Copy x k)) h = three_back (register_fits d) (register_fits x) (register_fits k) h
fit_row (instr.Vector d (vector.Convert x k)) h = three_back (register_fits d) (register_fits x) (register_fits k) h
fit_row (instr.Vector d (vector.Unary o x k)) h = three_back (register_fits d) (register_fits x) (register_fits k) h
fit_row (instr.Vector d (vector.Binary o x y k)) h = four_back (register_fits d) (register_fits x) (register_fits y) (register_fits k) h
fit_row (instr.Vector d (vector.Compare o x y k)) h = four_back (register_fits d) (register_fits x) (register_fits y) (register_fits k) h
fit_row (instr.Vector d (vector.Select c x y k)) h = five_back (register_fits d) (register_fits c) (register_fits x) (register_fits y) (register_fits k) h
fit_row (instr.Vector d (vector.Splat x k)) h = three_back (register_fits d) (register_fits x) (register_fits k) h
fit_row (instr.Vector d (vector.Index k)) h = two_back (register_fits d) (register_fits k) h
fit_row (instr.Vector d (vector.Gather a i k p)) h = four_tail_back (register_fits d) (register_fits a) (register_fits i) (register_fits k) (number_fits p) h
fit_row (instr.Vector d (vector.LoadRun a i k p)) h = four_tail_back (register_fits d) (register_fits a) (register_fits i) (register_fits k) (number_fits p) h
fit_row (instr.Vector d (vector.Scan o x k)) h = three_back (register_fits d) (register_fits x) (register_fits k) h
fit_row (instr.Vector d (vector.Exchange o x i k)) h = four_back (register_fits d) (register_fits x) (register_fits i) (register_fits k) h
fit_row (instr.Vector d (vector.Shuffle x i k)) h = four_back (register_fits d) (register_fits x) (register_fits i) (register_fits k) h
fit_row (instr.Vector d (vector.ShuffleTwo x y i k)) h = five_back (register_fits d) (register_fits x) (register_fits y) (register_fits i) (register_fits k) h
fit_row (instr.Vector d (vector.Insert x i y k)) h = five_back (register_fits d) (register_fits x) (register_fits i) (register_fits y) (register_fits k) h
fit_row (instr.Mask d (mask.Copy x)) h = two_back (register_fits d) (register_fits x) h
fit_row (instr.Mask d (mask.Binary o x y)) h = three_back (register_fits d) (register_fits x) (register_fits y) h
fit_row (instr.Mask d mask.Full) h = one_only_back (register_fits d) h
fit_row (instr.Mask d mask.Off) h = one_only_back (register_fits d) h
fit_row (instr.Mask d (mask.Test x y)) h = three_back (register_fits d) (register_fits x) (register_fits y) h
fit_row (instr.Mask d (mask.Lowest x)) h = two_back (register_fits d) (register_fits x) h
fit_row (instr.Mask d (mask.Range x y)) h = three_back (register_fits d) (register_fits x) (register_fits y) h
fit_row (instr.Divide o d x y k p) h = access_back (register_fits d) (register_fits x) (register_fits y) (register_fits k) (number_fits p) h
fit_row (instr.Store a i y k p) h = access_back (register_fits a) (register_fits i) (register_fits y) (register_fits k) (number_fits p) h
fit_row (instr.Scatter a i y k p) h = access_back (register_fits a) (register_fits i) (register_fits y) (register_fits k) (number_fits p) h
fit_row (instr.StoreRun a i y k p) h = access_back (register_fits a) (register_fits i) (register_fits y) (register_fits k) (number_fits p) h
fit_row (instr.PackedStore d a i y k p) h = five_tail_back (register_fits d) (register_fits a) (register_fits i) (register_fits y) (register_fits k) (number_fits p) h
fit_row (instr.PackedLoad d a i y k p) h = five_tail_back (register_fits d) (register_fits a) (register_fits i) (register_fits y) (register_fits k) (number_fits p) h
fit_row (instr.Clear a k) h = two_back (register_fits a) (register_fits k) h
fit_row (instr.Jump to) h = alone_back (number_fits to) h
fit_row (instr.JumpIf t x to) h = one_tail_back (register_fits x) (number_fits to) h
fit_row (instr.Say t) h = alone_back (number_fits t) h
fit_row (instr.PrintScalar x) h = one_back (register_fits x) h
fit_row (instr.PrintVector x k) h = two_back (register_fits x) (register_fits k) h
fit_row (instr.Fail x p) h = one_tail_back (register_fits x) (number_fits p) h
fit_row (instr.Return x) h = alone_back (result_fits x) h
fit_row (instr.Call c) h = h
