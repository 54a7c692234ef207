-- The numbers that sound code names are small where there are few places, texts and instructions: each names one of these.
use Rattle.std.proofs.Common.{◌≡◌, ℕ, ◌<◌, ◌≤◌, ◌^◌, nat_lt, List, [], ◌∷◌, ◌++◌, length, Option, Some, None, true, refl, arith, lt-ltb}
use Rattle.std.specs.List.{list_all}
use Rattle.std.proofs.lemmas.Bool.{and_from}
use Rattle.isp_code.specs.Fine.{AllFine}
use Rattle.isp_code.specs.Listing.{Listing, Routine}
use Rattle.isp_code.specs.Operands.{result_operands, scalar_operands, vector_operands}
use Rattle.isp_code.specs.declared.instr.Instr.{Instr}
use Rattle.isp_code.specs.declared.instr.Instr.TheVariants as instr
use Rattle.isp_code.specs.declared.instr.ScalarInstr.{ScalarInstr}
use Rattle.isp_code.specs.declared.instr.ScalarInstr.TheVariants as scalar
use Rattle.isp_code.specs.declared.instr.VectorInstr.{VectorInstr}
use Rattle.isp_code.specs.declared.instr.VectorInstr.TheVariants as vector
use Rattle.isp_code.specs.declared.operand.Operand.{Operand}
use Rattle.isp_code.specs.declared.operand.Operand.TheVariants.{Any as AnyRegister, Place}
use Rattle.isp_code.specs.declared.register.Register.{Register}
use Rattle.isp_lower_code.specs.Lines.{has_small_number, named_by_scalar, named_by_vector}
use Rattle.isp_lower_code.specs.Sound.{AreSound, IsSound}

below : (n m : ℕ) → n < m → m ≤ 4294967296 → nat_lt n (2 ^ 32) ≡ true
below n m lt le = lt-ltb n (2 ^ 32) (omega (arith, lt, le))

module _ (code : Listing) (h : Routine) (places : length code.places ≤ 4294967296) (texts : length code.texts ≤ 4294967296) (long : length h.code ≤ 4294967296) where
  place_small : (p : ℕ) → p < length code.places → nat_lt p (2 ^ 32) ≡ true
  place_small p lt = below p (length code.places) lt places

  scalar_small : (d : Register) (i : ScalarInstr) → AllFine code h (scalar_operands d i) → nat_lt (named_by_scalar i) (2 ^ 32) ≡ true
  scalar_small d (scalar.Load a i k p) f = place_small p f.1.1.1.1.0
  scalar_small d (scalar.Constant n) f = refl
  scalar_small d (scalar.Copy x) f = refl
  scalar_small d (scalar.Convert x) f = refl
  scalar_small d (scalar.Unary op x) f = refl
  scalar_small d (scalar.Binary op x y) f = refl
  scalar_small d (scalar.Compare op x y) f = refl
  scalar_small d (scalar.Select c x y) f = refl
  scalar_small d (scalar.First x) f = refl
  scalar_small d (scalar.Reduce r x k) f = refl
  scalar_small d (scalar.Extract x i k) f = refl

  vector_small : (d : Register) (i : VectorInstr) → AllFine code h (vector_operands d i) → nat_lt (named_by_vector i) (2 ^ 32) ≡ true
  vector_small d (vector.Gather a i k p) f = place_small p f.1.1.1.1.0
  vector_small d (vector.LoadRun a i k p) f = place_small p f.1.1.1.1.0
  vector_small d (vector.Copy x k) f = refl
  vector_small d (vector.Convert x k) f = refl
  vector_small d (vector.Unary op x k) f = refl
  vector_small d (vector.Binary op x y k) f = refl
  vector_small d (vector.Compare op x y k) f = refl
  vector_small d (vector.Select c x y k) f = refl
  vector_small d (vector.Splat x k) f = refl
  vector_small d (vector.Index k) f = refl
  vector_small d (vector.Scan op x k) f = refl
  vector_small d (vector.Exchange e x i k) f = refl
  vector_small d (vector.Shuffle x i k) f = refl
  vector_small d (vector.ShuffleTwo x y i k) f = refl
  vector_small d (vector.Insert x i y k) f = refl

  call_small : (o : Option Register) (m : Register) (p : ℕ) (os : List Operand) → AllFine code h (result_operands o ++ (AnyRegister m ∷ Place p ∷ os)) → nat_lt p (2 ^ 32) ≡ true
  call_small None m p os f = place_small p f.1.0
  call_small (Some d) m p os f = place_small p f.1.1.0

  pub number_small : (i : Instr) → IsSound code h i → has_small_number i ≡ true
  number_small (instr.Scalar d i) f = scalar_small d i f.0
  number_small (instr.Vector d i) f = vector_small d i f.0
  number_small (instr.Mask d i) f = refl
  number_small (instr.Divide op d x y k p) f = place_small p f.0.1.1.1.1.0
  number_small (instr.Store a i y k p) f = place_small p f.0.1.1.1.1.0
  number_small (instr.Scatter a i y k p) f = place_small p f.0.1.1.1.1.0
  number_small (instr.StoreRun a i y k p) f = place_small p f.0.1.1.1.1.0
  number_small (instr.PackedStore d a i y k p) f = place_small p f.0.1.1.1.1.1.0
  number_small (instr.PackedLoad d a i y k p) f = place_small p f.0.1.1.1.1.1.0
  number_small (instr.Clear a k) f = refl
  number_small (instr.Jump to) f = below to (length h.code) f.0.0 long
  number_small (instr.JumpIf t x to) f = below to (length h.code) f.0.1.0 long
  number_small (instr.Say t) f = below t (length code.texts) f.0.0 texts
  number_small (instr.PrintScalar x) f = refl
  number_small (instr.PrintVector x k) f = refl
  number_small (instr.Fail x p) f = place_small p f.0.1.0
  number_small (instr.Call c) f = call_small c.result c.mask c.place _ f.0
  number_small (instr.Return x) f = refl

  pub numbers_small : (is : List Instr) → AreSound code h is → list_all has_small_number is ≡ true
  numbers_small [] f = refl
  numbers_small (i ∷ is) f = and_from (has_small_number i) (list_all has_small_number is) (number_small i f.0) (numbers_small is f.1)
