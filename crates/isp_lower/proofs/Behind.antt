-- The number after the registers that code names: none of them has it, and it is no greater than the number of those that are there.
use Rattle.std.proofs.Common.{◌≡◌, ◌≢◌, ◌≤◌, ◌<◌, ◌+◌, ℕ, List, [], ◌∷◌, ◌++◌, length, drop, get_or, map, max, Option, Some, None, Bool, true, false, if◌then◌else◌, refl, ap, sym, subst, ◌∙◌, arith}
use Rattle.std.proofs.lemmas.List.{drop_all, drop_more}
use Rattle.isp_code.specs.Operands.{any_register, call_operands, divided, operands, tested}
use Rattle.isp_code.specs.Registers.{same_class}
use Rattle.isp_code.specs.declared.instr.Call.{Call}
use Rattle.isp_code.specs.declared.instr.Instr.{Instr}
use Rattle.isp_code.specs.declared.instr.Instr.TheVariants as instr
use Rattle.isp_code.specs.declared.instr.JumpTest.{JumpTest}
use Rattle.isp_code.specs.declared.instr.JumpTest.TheVariants as jump
use Rattle.isp_code.specs.declared.instr.ScalarInstr.{ScalarInstr}
use Rattle.isp_code.specs.declared.instr.ScalarInstr.TheVariants as scalar
use Rattle.isp_code.specs.declared.instr.VectorInstr.{VectorInstr}
use Rattle.isp_code.specs.declared.instr.VectorInstr.TheVariants as vector
use Rattle.isp_code.specs.declared.operand.Operand.{Operand}
use Rattle.isp_code.specs.declared.operand.Operand.TheVariants.{Any as AnyRegister, Scalar, Vector, Mask, Array, Number, Place, Text, Target, Back}
use Rattle.isp_code.specs.declared.operand.Want.{Want}
use Rattle.isp_code.specs.declared.register.Class.{Class}
use Rattle.isp_code.specs.declared.register.Class.TheVariants as class
use Rattle.isp_code.specs.declared.register.Register.{Register}
use Rattle.isp_lower_code.specs.Lines.{naming, naming_if, scalar_naming, vector_naming}
use Rattle.isp_lower_code.specs.Named.{InOption, InOperand, InOperands, InCode, IsOf, Unnamed, behind_named, behind_one, behind_registers, count_of, named_then, register_named, registers_named}
use Rattle.isp_lower_code.specs.Rows.{Rows}

-- ---- the number that an instruction names beside its registers is no matter

abbrev names : Instr → List Register
names i = registers_named (operands i)

scalar_same : (d : Register) (n : ℕ) (i : ScalarInstr) → names (instr.Scalar d (scalar_naming n i)) ≡ names (instr.Scalar d i)
scalar_same d n (scalar.Load a i k p) = refl
scalar_same d n (scalar.Constant z) = refl
scalar_same d n (scalar.Copy x) = refl
scalar_same d n (scalar.Convert x) = refl
scalar_same d n (scalar.Unary op x) = refl
scalar_same d n (scalar.Binary op x y) = refl
scalar_same d n (scalar.Compare op x y) = refl
scalar_same d n (scalar.Select c x y) = refl
scalar_same d n (scalar.First x) = refl
scalar_same d n (scalar.Reduce r x k) = refl
scalar_same d n (scalar.Extract x i k) = refl

vector_same : (d : Register) (n : ℕ) (i : VectorInstr) → names (instr.Vector d (vector_naming n i)) ≡ names (instr.Vector d i)
vector_same d n (vector.Gather a i k p) = refl
vector_same d n (vector.LoadRun a i k p) = refl
vector_same d n (vector.Copy x k) = refl
vector_same d n (vector.Convert x k) = refl
vector_same d n (vector.Unary op x k) = refl
vector_same d n (vector.Binary op x y k) = refl
vector_same d n (vector.Compare op x y k) = refl
vector_same d n (vector.Select c x y k) = refl
vector_same d n (vector.Splat x k) = refl
vector_same d n (vector.Index k) = refl
vector_same d n (vector.Scan op x k) = refl
vector_same d n (vector.Exchange e x i k) = refl
vector_same d n (vector.Shuffle x i k) = refl
vector_same d n (vector.ShuffleTwo x y i k) = refl
vector_same d n (vector.Insert x i y k) = refl

result_same : (n p : ℕ) (c : Call) (o : Option Register) → registers_named (call_operands (record c { result = o; place = n })) ≡ registers_named (call_operands (record c { result = o; place = p }))
result_same n p c None = refl
result_same n p c (Some d) = refl

naming_same : (n : ℕ) (i : Instr) → names (naming n i) ≡ names i
naming_same n (instr.Scalar d i) = scalar_same d n i
naming_same n (instr.Vector d i) = vector_same d n i
naming_same n (instr.Mask d i) = refl
naming_same n (instr.Divide op d x y k p) = refl
naming_same n (instr.Store a i y k p) = refl
naming_same n (instr.Scatter a i y k p) = refl
naming_same n (instr.StoreRun a i y k p) = refl
naming_same n (instr.PackedStore d a i y k p) = refl
naming_same n (instr.PackedLoad d a i y k p) = refl
naming_same n (instr.Clear a k) = refl
naming_same n (instr.Jump to) = refl
naming_same n (instr.JumpIf t x to) = refl
naming_same n (instr.Say t) = refl
naming_same n (instr.PrintScalar x) = refl
naming_same n (instr.PrintVector x k) = refl
naming_same n (instr.Fail x p) = refl
naming_same n (instr.Call c) = result_same n c.place c c.result
naming_same n (instr.Return x) = refl

pub named_same : (o : Option ℕ) (i : Instr) → registers_named (operands (naming_if o i)) ≡ registers_named (operands i)
named_same None i = refl
named_same (Some n) i = naming_same n i

-- ---- operands whose kind a class or a test says

divided_named : (c : Class) (x : Register) (w : Want) → register_named (divided c x w) ≡ Some x
divided_named class.Scalar x w = refl
divided_named class.Vector x w = refl
divided_named class.Mask x w = refl
divided_named class.Array x w = refl

tested_named : (t : JumpTest) (x : Register) → register_named (tested t x) ≡ Some x
tested_named jump.False x = refl
tested_named jump.True x = refl
tested_named jump.Off x = refl
tested_named jump.On x = refl
tested_named jump.All x = refl

pub division_names : (c : Class) (d x y k : Register) (u v w : Want) (p : ℕ) → registers_named (divided c d u ∷ divided c x v ∷ divided c y w ∷ Mask k ∷ Place p ∷ []) ≡ d ∷ x ∷ y ∷ k ∷ []
division_names c d x y k u v w p =
    ap (λ o. named_then o (named_then (register_named (divided c x v)) (named_then (register_named (divided c y w)) (k ∷ [])))) (divided_named c d u)
    ∙ ap (λ o. d ∷ named_then o (named_then (register_named (divided c y w)) (k ∷ []))) (divided_named c x v)
    ∙ ap (λ o. d ∷ x ∷ named_then o (k ∷ [])) (divided_named c y w)

pub test_names : (t : JumpTest) (x : Register) (to : ℕ) → registers_named (tested t x ∷ Target to ∷ []) ≡ x ∷ []
test_names t x to = ap (λ o. named_then o []) (tested_named t x)

-- ---- lists, one after the other

pub behind_more : (c : Class) (xs : List Register) (i : ℕ) (x : Register) → i < length xs → x ≡ get_or xs i x → behind_registers c (drop i xs) ≡ max (behind_one c x) (behind_registers c (drop (i + 1) xs))
behind_more c xs i x lt is = ap (behind_registers c) (drop_more xs i x lt) ∙ ap (λ y. max (behind_one c y) (behind_registers c (drop (i + 1) xs))) (sym is)

pub behind_end : (c : Class) (xs : List Register) (i : ℕ) → length xs ≤ i → behind_registers c (drop i xs) ≡ 0
behind_end c xs i le = ap (behind_registers c) (drop_all i xs le)

pub named_more : (c : Class) (is : List Instr) (i : ℕ) (x : Instr) → i < length is → x ≡ get_or is i x → behind_named c (drop i is) ≡ max (behind_registers c (names x)) (behind_named c (drop (i + 1) is))
named_more c is i x lt e = ap (behind_named c) (drop_more is i x lt) ∙ ap (λ y. max (behind_registers c (names y)) (behind_named c (drop (i + 1) is))) (sym e)

pub named_end : (c : Class) (is : List Instr) (i : ℕ) → length is ≤ i → behind_named c (drop i is) ≡ 0
named_end c is i le = ap (behind_named c) (drop_all i is le)

-- ---- a call

passed_names : (xs : List Register) (m : Register) → registers_named (map any_register xs ++ Mask m ∷ []) ≡ xs ++ m ∷ []
passed_names [] m = refl
passed_names (x ∷ xs) m = ap (λ ys. x ∷ ys) (passed_names xs m)

behind_both : (c : Class) (xs ys : List Register) → behind_registers c (xs ++ ys) ≡ max (behind_registers c xs) (behind_registers c ys)
behind_both c [] ys = omega arith
behind_both c (x ∷ xs) ys = omega (arith, behind_both c xs ys)

pub call_behind : (c : Class) (k : Call) (n : ℕ) → n ≡ max (behind_registers c k.arguments) (behind_registers c (k.mask ∷ [])) → k.result ≡ None → n ≡ behind_registers c (registers_named (call_operands k))
call_behind c k n is none =
    let passed = ap (behind_registers c) (passed_names k.arguments k.mask) in
    let both = behind_both c k.arguments (k.mask ∷ []) in
    rw none (omega (arith, is, passed, both))

pub call_behind_result : (c : Class) (k : Call) (d : Register) (n m : ℕ) → n ≡ max (behind_registers c k.arguments) (behind_registers c (k.mask ∷ [])) → m ≡ max n (behind_registers c (d ∷ [])) → k.result ≡ Some d
    → m ≡ behind_registers c (registers_named (call_operands k))
call_behind_result c k d n m is more some =
    let passed = ap (behind_registers c) (passed_names k.arguments k.mask) in
    let both = behind_both c k.arguments (k.mask ∷ []) in
    rw some (omega (arith, is, more, passed, both))

-- ---- nothing names a number from there on

same_self : (c : Class) → same_class c c ≡ true
same_self class.Scalar = refl
same_self class.Vector = refl
same_self class.Mask = refl
same_self class.Array = refl

one_not : (c : Class) (n : ℕ) (x : Register) → behind_one c x ≤ n → x ≢ record { class = c; number = n }
one_not c n x le e =
    let is : behind_one c x ≡ n + 1 = ap (behind_one c) e ∙ ap (λ b. if b then n + 1 else 0) (same_self c) in
    omega (arith, le, is)

module _ (c : Class) (n : ℕ) where
  abbrev IsNot : Register → Type 0
  IsNot x = x ≢ record { class = c; number = n }

  operand_not : (o : Operand) (os : List Operand) → behind_registers c (registers_named (o ∷ os)) ≤ n → InOperand IsNot o × (behind_registers c (registers_named os) ≤ n)
  operand_not (AnyRegister x) os le = (one_not c n x (omega (arith, le)), omega (arith, le))
  operand_not (Scalar x w) os le = (one_not c n x (omega (arith, le)), omega (arith, le))
  operand_not (Vector x w) os le = (one_not c n x (omega (arith, le)), omega (arith, le))
  operand_not (Mask x) os le = (one_not c n x (omega (arith, le)), omega (arith, le))
  operand_not (Array x k w) os le = (one_not c n x (omega (arith, le)), omega (arith, le))
  operand_not (Number z x) os le = (tt, le)
  operand_not (Place q) os le = (tt, le)
  operand_not (Text t) os le = (tt, le)
  operand_not (Target to) os le = (tt, le)
  operand_not (Back None) os le = (tt, le)
  operand_not (Back (Some x)) os le = (one_not c n x (omega (arith, le)), omega (arith, le))

  operands_not : (os : List Operand) → behind_registers c (registers_named os) ≤ n → InOperands IsNot os
  operands_not [] le = tt
  operands_not (o ∷ os) le = let here = operand_not o os le in (here.0, operands_not os here.1)

  pub behind_unnamed : (is : List Instr) → behind_named c is ≤ n → Unnamed (record { class = c; number = n }) is
  behind_unnamed [] le = tt
  behind_unnamed (i ∷ is) le = (operands_not (operands i) (omega (arith, le)), behind_unnamed is (omega (arith, le)))

-- ---- of registers that are there it is one of these, or the next one

same_is : (a b : Class) → same_class a b ≡ true → a ≡ b
same_is class.Scalar class.Scalar e = refl
same_is class.Scalar class.Vector e = absurd (cc)
same_is class.Scalar class.Mask e = absurd (cc)
same_is class.Scalar class.Array e = absurd (cc)
same_is class.Vector class.Scalar e = absurd (cc)
same_is class.Vector class.Vector e = refl
same_is class.Vector class.Mask e = absurd (cc)
same_is class.Vector class.Array e = absurd (cc)
same_is class.Mask class.Scalar e = absurd (cc)
same_is class.Mask class.Vector e = absurd (cc)
same_is class.Mask class.Mask e = refl
same_is class.Mask class.Array e = absurd (cc)
same_is class.Array class.Scalar e = absurd (cc)
same_is class.Array class.Vector e = absurd (cc)
same_is class.Array class.Mask e = absurd (cc)
same_is class.Array class.Array e = refl

module _ (rows : Rows) (masks : ℕ) (c : Class) where
  one_there : (x : Register) → IsOf rows masks x → behind_one c x ≤ count_of rows masks c
  one_there x f = go (same_class x.class c) refl
    where
      go : (b : Bool) → same_class x.class c ≡ b → (if b then x.number + 1 else 0) ≤ count_of rows masks c
      go true e = let k = ap (count_of rows masks) (same_is x.class c e) in omega (arith, f, k)
      go false e = omega arith

  operand_there : (o : Operand) (os : List Operand) → InOperand (IsOf rows masks) o → behind_registers c (registers_named os) ≤ count_of rows masks c
      → behind_registers c (registers_named (o ∷ os)) ≤ count_of rows masks c
  operand_there (AnyRegister x) os f le = omega (arith, le, one_there x f)
  operand_there (Scalar x w) os f le = omega (arith, le, one_there x f)
  operand_there (Vector x w) os f le = omega (arith, le, one_there x f)
  operand_there (Mask x) os f le = omega (arith, le, one_there x f)
  operand_there (Array x k w) os f le = omega (arith, le, one_there x f)
  operand_there (Number z x) os f le = le
  operand_there (Place q) os f le = le
  operand_there (Text t) os f le = le
  operand_there (Target to) os f le = le
  operand_there (Back None) os f le = le
  operand_there (Back (Some x)) os f le = omega (arith, le, one_there x f)

  operands_there : (os : List Operand) → InOperands (IsOf rows masks) os → behind_registers c (registers_named os) ≤ count_of rows masks c
  operands_there [] f = omega arith
  operands_there (o ∷ os) f = operand_there o os f.0 (operands_there os f.1)

  pub behind_there : (is : List Instr) → InCode (IsOf rows masks) is → behind_named c is ≤ count_of rows masks c
  behind_there [] f = omega arith
  behind_there (i ∷ is) f = omega (arith, operands_there (operands i) f.0, behind_there is f.1)
