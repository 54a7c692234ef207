-- Pieces of code are short: each has a few instructions besides those of its parts, which are at most 32 for each node of their trees.
use Rattle.std.proofs.Common.{◌≡◌, ℕ, suc, ◌+◌, ◌*◌, ◌≤◌, List, [], ◌∷◌, ◌++◌, length, Option, Some, None, Bool, true, false, refl, arith, length-append}
use Rattle.std.specs.Prelude.{nat_eq}
use Rattle.isp_base.specs.declared.types.Elem.{Elem}
use Rattle.isp_base.specs.declared.types.Elem.TheVariants.{I64}
use Rattle.isp_base.specs.declared.types.Rate.{Rate}
use Rattle.isp_base.specs.declared.types.Rate.TheVariants.{Uniform, Varying}
use Rattle.isp_base.specs.declared.types.Ty.{Ty}
use Rattle.isp_base.specs.declared.types.Value.{Value}
use Rattle.isp_code.specs.declared.instr.Instr.{Instr}
use Rattle.isp_code.specs.declared.instr.Instr.TheVariants as instr
use Rattle.isp_code.specs.declared.instr.JumpTest.TheVariants as jump
use Rattle.isp_typed.specs.Nodes.{typed_nodes}
use Rattle.isp_typed.specs.Typed.{TExpr, TPlace, t_variable, t_element, type_of}
use Rattle.isp_typed.specs.declared.library.Library.{Library}
use Rattle.isp_typed.specs.declared.library.Library.TheVariants as library
use Rattle.isp_typed.specs.declared.variable.Logic.{Logic}
use Rattle.isp_typed.specs.declared.variable.Logic.TheVariants.{And, Or}
use Rattle.isp_lower_code.specs.Asks.{is_lane}
use Rattle.isp_lower_code.specs.Code.{variable_read, read_code, choose_code, choose_to}
use Rattle.isp_lower_code.specs.Elements.{Access, By, Row, access, access_by, index_by_of, is_run, reached, reached_of, read_from, start_code, takes_row, write_from}
use Rattle.isp_lower_code.specs.Found.{is_whole, lift_code, lift_to, convert_to, is_copied, in_vector, found, operand, operand_of, whole, whole_of, index_of}
use Rattle.isp_lower_code.specs.Instructions.{convert, copy, select, the_others, jump_off, jump_on}
use Rattle.isp_lower_code.specs.Known.{constant_of, known, unless_kept}
use Rattle.isp_lower_code.specs.Layout.{Layout}
use Rattle.isp_lower_code.specs.Library.{library_code}
use Rattle.isp_lower_code.specs.RowCode.{row_read, row_write}
use Rattle.isp_lower_code.specs.RowLayout.{RowsShort}
use Rattle.isp_lower_code.proofs.RowScalars.{takes}
use Rattle.isp_lower_code.specs.Pieces.{guard, choice, move, move_code, pair_code, needing, decided, logic_code, choose_rest}

-- a few more after what is short
pub behind_long : (a b : List Instr) (y : ℕ) → length a ≤ 32 * y → length b ≤ 2 → length (a ++ b) + 8 ≤ 32 * suc y
behind_long a b y la lb = omega (arith, length-append a b)

pub both_long : (a b : List Instr) (x y : ℕ) → length a ≤ 32 * x → length b ≤ 32 * y → length (a ++ b) ≤ 32 * (x + y)
both_long a b x y la lb = omega (arith, length-append a b)

pub three_long : (a b c : List Instr) (x y : ℕ) → length a + 31 ≤ 32 * x → length b + 7 ≤ 32 * y → length c ≤ 38 → length (a ++ (b ++ c)) ≤ 32 * (x + y)
three_long a b c x y la lb lc = omega (arith, length-append a (b ++ c), length-append b c)

pub unless_less : (z : Bool) (code : List Instr) → length (unless_kept z code) ≤ length code
unless_less true code = omega arith
unless_less false code = omega arith

move_few : (z : Bool) (r : Rate) (d x k : ℕ) → length (move z r d x k) ≤ 1
move_few true r d x k = omega arith
move_few false r d x k = omega arith

needing_few : (g : Logic) (m x k : ℕ) → length (needing g m x k) ≤ 2
needing_few And m x k = omega arith
needing_few Or m x k = omega arith

pub library_few : (f : Library) (r : Rate) (d s : ℕ) (xs : List ℕ) (k : ℕ) → length (library_code f r d s xs k) ≤ 2
library_few library.ReduceAdd r d s xs k = omega arith
library_few library.ReduceMin r d s xs k = omega arith
library_few library.ReduceMax r d s xs k = omega arith
library_few library.ReduceEqual r d s xs k = omega arith
library_few library.Any r d s xs k = omega arith
library_few library.All r d s xs k = omega arith
library_few library.None r d s xs k = omega arith
library_few library.ScanAdd r d s xs k = omega arith
library_few library.ScanAnd r d s xs k = omega arith
library_few library.ScanOr r d s xs k = omega arith
library_few library.Broadcast r d s xs k = omega arith
library_few library.Rotate r d s xs k = omega arith
library_few library.Shift r d s xs k = omega arith
library_few library.Shuffle r d s xs k = omega arith
library_few library.ShuffleTwo r d s xs k = omega arith
library_few library.Extract r d s xs k = omega arith
library_few library.Insert r d s xs k = omega arith
library_few library.Min r d s xs k = omega arith
library_few library.Max r d s xs k = omega arith
library_few library.Clamp r d s xs k = omega arith
library_few library.Abs r d s xs k = omega arith
library_few library.Select r d s xs k = omega arith

pub pair_long : (pc : ℕ) (a : List Instr) (b : ℕ → List Instr) (i : Instr) (x y : ℕ) → length a + 7 ≤ 32 * x → ((pc1 : ℕ) → length (b pc1) + 7 ≤ 32 * y)
    → length (pair_code pc a b i) + 8 ≤ 32 * suc (x + y)
pair_long pc a b i x y la lb =
    let b1 = b (pc + length a) in
    let lb1 : length b1 + 7 ≤ 32 * y = lb (pc + length a) in
    omega (arith, length-append a (b1 ++ i ∷ []), length-append b1 (i ∷ []))

pub logic_long : (r : Rate) (g : Logic) (d f h pc k n : ℕ) (a : List Instr) (b : ℕ → ℕ → List Instr) (x y : ℕ) → length a + 7 ≤ 32 * x
    → ((pc1 m : ℕ) → length (b pc1 m) + 7 ≤ 32 * y) → length (logic_code r g d f h pc k n a b) + 8 ≤ 32 * suc (x + y)
logic_long Uniform g d f h pc k n a b x y la lb =
    let m = move_code Uniform d f k in
    let pc1 = pc + length (a ++ m) + 1 in
    let b1 = b pc1 k in
    let lb1 : length b1 + 7 ≤ 32 * y = lb pc1 k in
    let lm : length m ≤ 1 = move_few (nat_eq d f) Uniform d f k in
    let c = b1 ++ copy Uniform d h k ∷ [] in
    omega (arith, length-append a m, length-append b1 (copy Uniform d h k ∷ []), length-append (a ++ m) (jump_on (decided g) d (pc1 + length c) ∷ c))
logic_long Varying g d f h pc k n a b x y la lb =
    let m = move_code Varying d f k in
    let e = needing g n d k in
    let pc1 = pc + length (a ++ (m ++ e)) + 1 in
    let b1 = b pc1 n in
    let lb1 : length b1 + 7 ≤ 32 * y = lb pc1 n in
    let lm : length m ≤ 1 = move_few (nat_eq d f) Varying d f k in
    let le : length e ≤ 2 = needing_few g n d k in
    let c = b1 ++ copy Varying d h n ∷ [] in
    omega (arith, length-append m e, length-append a (m ++ e), length-append b1 (copy Varying d h n ∷ []), length-append (a ++ (m ++ e)) (jump_off n (pc1 + length c) ∷ c))

guard_long : (go : ℕ → Instr) (pc : ℕ) (a : ℕ → List Instr) (x : ℕ) → ((pc1 : ℕ) → length (a pc1) + 7 ≤ 32 * x) → length (guard go pc a) + 6 ≤ 32 * x
guard_long go pc a x la =
    let la1 : length (a (pc + 1)) + 7 ≤ 32 * x = la (pc + 1) in
    omega arith

choice_long : (go : ℕ → Instr) (pc : ℕ) (a b : ℕ → List Instr) (x y : ℕ) → ((pc1 : ℕ) → length (a pc1) + 6 ≤ 32 * x)
    → ((pc1 : ℕ) → length (b pc1) + 6 ≤ 32 * y) → length (choice go pc a b) + 10 ≤ 32 * (x + y)
choice_long go pc a b x y la lb =
    let a1 = a (pc + 1) in
    let pc1 = pc + 1 + length a1 + 1 in
    let b1 = b pc1 in
    let la1 : length a1 + 6 ≤ 32 * x = la (pc + 1) in
    let lb1 : length b1 + 6 ≤ 32 * y = lb pc1 in
    omega (arith, length-append a1 (instr.Jump (pc1 + length b1) ∷ b1))

rest_long : (d c f h pc k n : ℕ) (a b : ℕ → ℕ → ℕ → List Instr) (x y : ℕ) → ((pc1 m i : ℕ) → length (a pc1 m i) + 7 ≤ 32 * x)
    → ((pc1 m i : ℕ) → length (b pc1 m i) + 7 ≤ 32 * y) → length (choose_rest d c f h pc k n a b) + 9 ≤ 32 * (x + y)
rest_long d c f h pc k n a b x y la lb =
    let a1 = guard (jump_off n) (pc + 1) (λ pc1. a pc1 n (n + 1)) in
    let pc1 = pc + 1 + length a1 in
    let b1 = guard (jump_off (n + 1)) (pc1 + 1) (λ pc2. b pc2 (n + 1) (n + 2)) in
    let last = select Varying d c f h k ∷ [] in
    let la1 : length a1 + 6 ≤ 32 * x = guard_long (jump_off n) (pc + 1) (λ pc1. a pc1 n (n + 1)) x (λ pc1. la pc1 n (n + 1)) in
    let lb1 : length b1 + 6 ≤ 32 * y = guard_long (jump_off (n + 1)) (pc1 + 1) (λ pc2. b pc2 (n + 1) (n + 2)) y (λ pc1. lb pc1 (n + 1) (n + 2)) in
    omega (arith, length-append a1 (the_others (n + 1) k n ∷ (b1 ++ last)), length-append b1 last)

moved_long : (a : List Instr) (z : Bool) (r : Rate) (d f k x : ℕ) → length a + 7 ≤ 32 * x → length (a ++ move z r d f k) + 6 ≤ 32 * x
moved_long a z r d f k x la = omega (arith, length-append a (move z r d f k), move_few z r d f k)

module _ (l : Layout) where
  -- ---- a choice

  choose_code_long : (g r : Rate) (t : Elem) (x y : TExpr) (c pc k n : ℕ) (test : List Instr) (a b : ℕ → ℕ → ℕ → List Instr) (u v w : ℕ)
      → length test + 8 ≤ 32 * u → ((pc1 m i : ℕ) → length (a pc1 m i) + 7 ≤ 32 * v) → ((pc1 m i : ℕ) → length (b pc1 m i) + 7 ≤ 32 * w)
      → length (choose_code l g r t x y c pc k n test a b) + 8 ≤ 32 * suc (u + (v + w))
  choose_code_long Uniform r t x y c pc k n test a b u v w lt la lb =
      let d = l.spare r t n in
      let fx = operand l r x n in
      let fy = operand l r y n in
      let pc1 = pc + length test in
      let rest = choice (jump_on jump.False c) pc1 (λ pc2. a pc2 k n ++ move_code r d fx k) (λ pc2. b pc2 k n ++ move_code r d fy k) in
      let lr : length rest + 10 ≤ 32 * (v + w)
      = choice_long (jump_on jump.False c) pc1 (λ pc2. a pc2 k n ++ move_code r d fx k) (λ pc2. b pc2 k n ++ move_code r d fy k) v w
      (λ pc2. moved_long (a pc2 k n) (nat_eq d fx) r d fx k v (la pc2 k n)) (λ pc2. moved_long (b pc2 k n) (nat_eq d fy) r d fy k w (lb pc2 k n)) in
      omega (arith, length-append test rest)
  choose_code_long Varying r t x y c pc k n test a b u v w lt la lb =
      let d = l.spare r t n in
      let fx = operand l r x (n + 1) in
      let fy = operand l r y (n + 2) in
      let pc1 = pc + length test in
      let rest = choose_rest d c fx fy pc1 k n a b in
      omega (arith, length-append test rest, rest_long d c fx fy pc1 k n a b v w la lb)

  pub choose_long : (z : Bool) (d : ℕ) (c x y : TExpr) (t : Ty) (pc k n : ℕ) (test : List Instr) (a b : ℕ → ℕ → ℕ → List Instr) (u v w : ℕ)
      → length test + 8 ≤ 32 * u → ((pc1 m i : ℕ) → length (a pc1 m i) + 7 ≤ 32 * v) → ((pc1 m i : ℕ) → length (b pc1 m i) + 7 ≤ 32 * w)
      → length (choose_to l z d c x y t pc k n test a b) + 8 ≤ 32 * suc (u + (v + w))
  choose_long true d c x y t pc k n test a b u v w lt la lb =
      omega (arith, length-append test (select t.rate d (found l c n) (found l x n) (found l y n) k ∷ []))
  choose_long false d c x y t pc k n test a b u v w lt la lb =
      choose_code_long (type_of c).rate t.rate t.elem x y (found l c n) pc k n test a b u v w lt la lb

  -- ---- a value where it is wanted

  lift_few : (r g : Rate) (t : Elem) (f k n : ℕ) → length (lift_code l r g t f k n) ≤ 1
  lift_few Uniform g t f k n = omega arith
  lift_few Varying Uniform t f k n = omega arith
  lift_few Varying Varying t f k n = omega arith

  pub lift_to_few : (r g : Rate) (d f k : ℕ) → length (lift_to l r g d f k) ≤ 1
  lift_to_few Uniform g d f k = omega arith
  lift_to_few Varying Uniform d f k = omega arith
  lift_to_few Varying Varying d f k = omega arith

  -- of code that is at most as long as an expression's
  pub operand_of_long : (r : Rate) (x : TExpr) (k n : ℕ) (code : List Instr) (y : ℕ) → length code + 8 ≤ 32 * y → length (operand_of l r x k n code) + 7 ≤ 32 * y
  operand_of_long r x k n code y h =
      let lift = lift_code l r (type_of x).rate (type_of x).elem (found l x n) k n in
      let le : length lift ≤ 1 = lift_few r (type_of x).rate (type_of x).elem (found l x n) k n in
      omega (arith, unless_less (in_vector l r (known x)) (code ++ lift), length-append code lift)

  pub convert_long : (o : Option Value) (e : Elem) (r : Rate) (d f k : ℕ) (code : List Instr) (y : ℕ) → length code + 8 ≤ 32 * y → length (convert_to l o e r d f k code) + 7 ≤ 32 * y
  convert_long None e r d f k code y h = omega (arith, length-append code (convert r d f k ∷ []))
  convert_long (Some v) e r d f k code y h = omega arith

  whole_long : (z : Bool) (i : TExpr) (k n : ℕ) (code : List Instr) (y : ℕ) → length code + 8 ≤ 32 * y → length (whole_of l z i k n code) + 7 ≤ 32 * y
  whole_long true i k n code y h = omega arith
  whole_long false i k n code y h = convert_long (constant_of i) I64 (type_of i).rate (l.spare (type_of i).rate I64 n) (found l i n) k code y h

  pub index_of_long : (r : Rate) (i : TExpr) (k n : ℕ) (code : List Instr) (y : ℕ) → length code + 8 ≤ 32 * y → length (index_of l r i k n code) + 6 ≤ 32 * y
  index_of_long r i k n code y h =
      let z = is_whole (type_of i).elem in
      let a = whole_of l z i k n code in
      let lift = lift_code l r (type_of i).rate I64 (whole l z i n) k n in
      let la : length a + 7 ≤ 32 * y = whole_long z i k n code y h in
      let le : length lift ≤ 1 = lift_few r (type_of i).rate I64 (whole l z i n) k n in
      omega (arith, length-append a lift)

  start_few : (z : Bool) (n : ℕ) → length (start_code l z n) ≤ 1
  start_few true n = omega arith
  start_few false n = omega arith

  index_by_long : (z : Bool) (r : Rate) (i : TExpr) (k n : ℕ) (code : List Instr) (y : ℕ) → length code + 8 ≤ 32 * y → length (index_by_of l z r i k n code) + 31 ≤ 32 * suc y
  index_by_long true r i k n code y h = omega (arith, start_few (is_lane i) n)
  index_by_long false r i k n code y h = omega (arith, index_of_long r i k n code y h)

  variable_few : (z : Bool) (d : ℕ) (r : Rate) (v k : ℕ) → length (variable_read l z d r v k) ≤ 1
  variable_few true d r v k = omega arith
  variable_few false d r v k = omega arith

  -- an access is one instruction, or twelve
  pub read_from_few : (z : Access) (t : Elem) (r : Rate) (d b x p pc k m : ℕ) → length (read_from l z t r d b x p pc k m) ≤ 12
  read_from_few (By z) t r d b x p pc k m = omega arith
  read_from_few Row t r d b x p pc k m = let twelve : length (row_read l t x d b p pc k m) ≡ 12 = refl in omega (arith, twelve)

  pub write_from_few : (z : Access) (t : Elem) (r : Rate) (b x v p pc k m : ℕ) → length (write_from l z t r b x v p pc k m) ≤ 12
  write_from_few (By z) t r b x v p pc k m = omega arith
  write_from_few Row t r b x v p pc k m = let twelve : length (row_write l t x v b p pc k m) ≡ 12 = refl in omega (arith, twelve)

  pub read_few : (d : ℕ) (q : TPlace) (pc p k n : ℕ) → length (read_code l d q pc p k n) ≤ 12
  read_few d (t_variable v t sp) pc p k n = omega (arith, variable_few (is_copied l t.rate v) d t.rate v k)
  read_few d (t_element b i t sp) pc p k n =
      let z = access l b.ty.rate t.rate i n in
      read_from_few z (type_of i).elem t.rate d (l.array b.number) (reached l z t.rate i n) p pc k (n + 1)

  pub reached_long : RowsShort l → (g r : Rate) (i : TExpr) (pc p k n : ℕ) (code : List Instr) → length code + 8 ≤ 32 * typed_nodes i
      → length (reached_of l (access l g r i n) r i pc p k n code) + 31 ≤ 32 * suc (typed_nodes i)
  reached_long short g r i pc p k n code h = go (takes_row (l.is_row i n) g r) refl
    where
      go : (d : Bool) → takes_row (l.is_row i n) g r ≡ d → length (reached_of l (access_by d (is_run l g i)) r i pc p k n code) + 31 ≤ 32 * suc (typed_nodes i)
      go false e = index_by_long (is_run l g i) r i k n code (typed_nodes i) h
      go true e = let le = short i pc p k n (takes l g r i n e).taken in omega (arith, le)
