-- What code does, by the core specification of WebAssembly 2.0; the number of its section stands beside each rule. A value is
-- its bits, a natural number below 2 ^ 32, 2 ^ 64 or 2 ^ 128; an engine takes valid modules alone, where each operator gets
-- values of its types.
use Rattle.std.specs.Prelude.{ℕ, zero, suc, ◌+◌, ◌-◌, ◌*◌, ◌/◌, ◌%◌, ◌^◌, List, [], ◌∷◌, ◌++◌, map, Option, Some, None, Bool, true, false, not, if◌then◌else◌, nat_lt, nat_le, nat_eq, slice_index, slice_index_or, ◌&&◌, bit_and, bit_or, bit_xor, pos, ◌-ℤ◌, codes}
use Rattle.std.specs.Fmt.{signed_decimal}
use Rattle.isp_wasm_meaning.specs.Digits.{digit, packed}
use Rattle.isp_wasm_meaning.specs.Syntax.{Shape, I8x16, I16x8, I32x4, I64x2, Size, I32, I64, Whole, Add, Sub, Mul, Bitwise, And, Or, Xor, Shift, Shl, ShrU, ShrS, Test, Eq, Ne, LtU, LtS, Division, DivU, RemU}
use Rattle.isp_wasm_meaning.specs.Syntax.{Unary, Eqz, Ctz, Wrap, ExtendU, ExtendS, Extend8S, Extend16S, Splat, Extract, ExtendLow, ExtendHigh, Bitmask}
use Rattle.isp_wasm_meaning.specs.Syntax.{Binary, Of, BitsOf, ShiftOf, Compare, Lanes, CompareLanes, ShiftLanes, Bits, Replace, Shuffle, Expr, Const32, Const64, Const128, Local, One, Two, Select, Bitselect}
use Rattle.isp_wasm_meaning.specs.Syntax.{Printed, SignedText, UnsignedText, TruthText, ByteText}
use Rattle.isp_wasm_meaning.specs.Syntax.{Code, Skip, Unreachable, Then, Set, Load, Store, Divide, If, Block, Loop, Br, BrTable, Return, Call, Write, Fail, Print, GetGlobal, SetGlobal, Clear}

-- ---- numbers

abbrev pub bits : Size → ℕ
bits I32 = 32
bits I64 = 64

-- the bits of a lane, and the number of lanes
abbrev pub wide : Shape → ℕ
wide I8x16 = 8
wide I16x8 = 16
wide I32x4 = 32
wide I64x2 = 64

abbrev pub count : Shape → ℕ
count I8x16 = 16
count I16x8 = 8
count I32x4 = 4
count I64x2 = 2

-- the shape with twice as many lanes of half the width
abbrev pub halved : Shape → Shape
halved I8x16 = I8x16
halved I16x8 = I8x16
halved I32x4 = I16x8
halved I64x2 = I32x4

-- 4.3.1 lanes: those of a vector, and the vector that has these
abbrev pub lane : Shape → ℕ → ℕ → ℕ
lane s k v = digit (2 ^ wide s) k v

abbrev pub of_lanes : Shape → (ℕ → ℕ) → ℕ
of_lanes s f = packed (2 ^ wide s) (count s) f

-- 4.3.2 iadd, isub, imul
abbrev pub whole : ℕ → Whole → ℕ → ℕ → ℕ
whole w Add x y = (x + y) % 2 ^ w
whole w Sub x y = (x + (2 ^ w - y)) % 2 ^ w
whole w Mul x y = (x * y) % 2 ^ w

-- 4.3.2 iand, ior, ixor
abbrev pub bitwise : Bitwise → ℕ → ℕ → ℕ
bitwise And x y = bit_and x y
bitwise Or x y = bit_or x y
bitwise Xor x y = bit_xor x y

-- 4.3.2 ishl, ishr_u, ishr_s: the amount is taken modulo the bits; where a negative number is shifted, ones come in
abbrev pub shifted : ℕ → Shift → ℕ → ℕ → ℕ
shifted w Shl x y = (x * 2 ^ (y % w)) % 2 ^ w
shifted w ShrU x y = x / 2 ^ (y % w)
shifted w ShrS x y = if nat_lt x (2 ^ (w - 1)) then x / 2 ^ (y % w) else 2 ^ w - 1 - (2 ^ w - 1 - x) / 2 ^ (y % w)

-- a signed number moved up by 2 ^ (w - 1), which keeps the order
abbrev pub raised : ℕ → ℕ → ℕ
raised w x = (x + 2 ^ (w - 1)) % 2 ^ w

-- 4.3.2 ieq, ine, ilt_u, ilt_s
abbrev pub tested : ℕ → Test → ℕ → ℕ → Bool
tested w Eq x y = nat_eq x y
tested w Ne x y = not (nat_eq x y)
tested w LtU x y = nat_lt x y
tested w LtS x y = nat_lt (raised w x) (raised w y)

-- 4.3.2 idiv_u, irem_u, where the divisor is not 0
abbrev pub quotient : Division → ℕ → ℕ → ℕ
quotient DivU x y = x / y
quotient RemU x y = x % y

-- 4.3.2 bool
abbrev pub flag : Bool → ℕ
flag true = 1
flag false = 0

-- all bits of a lane, or none
abbrev pub flags : ℕ → Bool → ℕ
flags w true = 2 ^ w - 1
flags w false = 0

-- 4.3.1 bits
abbrev pub bit_of : ℕ → ℕ → ℕ
bit_of k v = digit 2 k v

-- 4.4.4 select
abbrev pub chosen : ℕ → ℕ → ℕ → ℕ
chosen c x y = if nat_eq c 0 then y else x

-- 4.3.4 extend_s: a number of w bits with its sign, as one of more bits
abbrev pub signed : ℕ → ℕ → ℕ → ℕ
signed w more x = if nat_lt x (2 ^ (w - 1)) then x else x + (2 ^ more - 2 ^ w)

-- 4.3.2 ictz: how many of the lowest n bits are 0 below the lowest 1
unfoldable pub trailing : ℕ → ℕ → ℕ
trailing zero x = 0
trailing (suc n) x = if nat_eq (x % 2) 0 then suc (trailing n (x / 2)) else 0

-- a byte of two vectors side by side
abbrev pub byte_of_two : ℕ → ℕ → ℕ → ℕ
byte_of_two c x y = if nat_lt c 16 then lane I8x16 c x else lane I8x16 (c - 16) y

-- ---- expressions

-- 4.4.1 testop, unop, cvtop (4.3.2 ieqz, ictz; 4.3.4 wrap, extend_u, extend_s; 4.3.2 iextendM_s); 4.4.3 splat, extract_lane,
-- extend_half (vcvtop), bitmask
abbrev pub unary : Unary → ℕ → ℕ
unary (Eqz t) x = flag (nat_eq x 0)
unary (Ctz t) x = trailing (bits t) x
unary Wrap x = x % 2 ^ 32
unary ExtendU x = x
unary ExtendS x = signed 32 64 x
unary Extend8S x = signed 8 32 (x % 2 ^ 8)
unary Extend16S x = signed 16 32 (x % 2 ^ 16)
unary (Splat s) x = of_lanes s (λ k. x % 2 ^ wide s)
unary (Extract s k) x = lane s k x
unary (ExtendLow s) x = of_lanes s (λ k. signed (wide (halved s)) (wide s) (lane (halved s) k x))
unary (ExtendHigh s) x = of_lanes s (λ k. signed (wide (halved s)) (wide s) (lane (halved s) (k + count s) x))
unary (Bitmask s) x = packed 2 (count s) (λ k. flag (nat_le (2 ^ (wide s - 1)) (lane s k x)))

-- 4.4.1 binop, relop; 4.4.3 vbinop, vrelop, vishiftop, vvbinop, replace_lane, shuffle
abbrev pub binary : Binary → ℕ → ℕ → ℕ
binary (Of t o) x y = whole (bits t) o x y
binary (BitsOf t o) x y = bitwise o x y
binary (ShiftOf t o) x y = shifted (bits t) o x y
binary (Compare t o) x y = flag (tested (bits t) o x y)
binary (Lanes s o) x y = of_lanes s (λ k. whole (wide s) o (lane s k x) (lane s k y))
binary (CompareLanes s o) x y = of_lanes s (λ k. flags (wide s) (tested (wide s) o (lane s k x) (lane s k y)))
binary (ShiftLanes s o) x y = of_lanes s (λ k. shifted (wide s) o (lane s k x) y)
binary (Bits o) x y = bitwise o x y
binary (Replace s k) v x = of_lanes s (λ j. if nat_eq j k then x % 2 ^ wide s else lane s j v)
binary (Shuffle cs) x y = of_lanes I8x16 (λ i. byte_of_two (slice_index cs i) x y)

-- the locals of a call, the globals, the bytes of the memory and their number, and what was written
pub record State : Type 0 where
  pub locals : ℕ → ℕ
  pub globals : ℕ → ℕ
  pub memory : ℕ → ℕ
  pub size : ℕ
  pub out : List ℕ

-- 4.4.1 const; 4.4.5 local.get; 4.4.4 select; 4.3.2 ibitselect
abbrev pub value : (ℕ → ℕ) → Expr → ℕ
value l (Const32 n) = n % 2 ^ 32
value l (Const64 n) = n % 2 ^ 64
value l (Const128 n) = n % 2 ^ 128
value l (Local x) = l x
value l (One o x) = unary o (value l x)
value l (Two o x y) = binary o (value l x) (value l y)
value l (Select c x y) = chosen (value l c) (value l x) (value l y)
value l (Bitselect x y c) = packed 2 128 (λ k. chosen (bit_of k (value l c)) (bit_of k (value l x)) (bit_of k (value l y)))

-- ---- code

pub record Report : Type 0 where
  pub kind : ℕ
  pub start : ℕ
  pub end : ℕ
  pub instance : ℕ

-- it goes on after the code, at the label of so many blocks around it, or after the function; it traps, as the host was
-- told or not; or it makes more turns and calls than it was given
pub data Result : Type 0 where
  Fell : State → Result
  Branched : ℕ → State → Result
  Returned : Option ℕ → State → Result
  Trapped : Option Report → State → Result
  OutOfFuel : State → Result

-- 4.4.5 local.set
abbrev pub set_local : ℕ → ℕ → State → State
set_local x v s = record s { locals = λ y. if nat_eq y x then v else s.locals y }

-- 4.3.1 bytes, the lowest first: those of a value, from an address on
abbrev pub stored : ℕ → ℕ → ℕ → (ℕ → ℕ) → ℕ → ℕ
stored n a v memory b = if nat_le a b && nat_lt b (a + n) then digit 256 (b - a) v else memory b

-- zeros in so many bytes from an address on
abbrev pub cleared : ℕ → ℕ → (ℕ → ℕ) → ℕ → ℕ
cleared n a memory b = if nat_le a b && nat_lt b (a + n) then 0 else memory b

-- and the value of so many bytes
abbrev pub loaded : ℕ → ℕ → (ℕ → ℕ) → ℕ
loaded n a memory = packed 256 n (λ j. memory (a + j))

-- 4.4.7 a load, a store or a fill past the end of the memory traps
abbrev pub inside : ℕ → ℕ → State → Result → Result
inside n a s r = if nat_le (a + n) s.size then r else Trapped None s

abbrev pub bytes : ℕ → ℕ → (ℕ → ℕ) → List ℕ
bytes zero a memory = []
bytes (suc n) a memory = memory a ∷ bytes n (suc a) memory

-- what the host writes of a value: a number in decimal, a bool by its word
abbrev pub printed : Printed → ℕ → List ℕ
printed SignedText v = signed_decimal (if nat_lt v (2 ^ 63) then pos v else pos v -ℤ pos (2 ^ 64))
printed UnsignedText v = signed_decimal (pos v)
printed TruthText v = if nat_eq v 0 then codes "false" else codes "true"
printed ByteText v = v % 2 ^ 8 ∷ []

-- 4.4.5 global.set
abbrev pub set_global : ℕ → ℕ → State → State
set_global g v s = record s { globals = λ y. if nat_eq y g then v else s.globals y }

-- 4.4.9 what follows in a sequence, where it falls through
abbrev pub then_to : Result → (State → Result) → Result
then_to (Fell s) go = go s
then_to (Branched k s) go = Branched k s
then_to (Returned v s) go = Returned v s
then_to (Trapped t s) go = Trapped t s
then_to (OutOfFuel s) go = OutOfFuel s

-- 4.4.8 block, if: after it, and its label is number 0 inside
abbrev pub behind : Result → Result
behind (Fell s) = Fell s
behind (Branched zero s) = Fell s
behind (Branched (suc k) s) = Branched k s
behind (Returned v s) = Returned v s
behind (Trapped t s) = Trapped t s
behind (OutOfFuel s) = OutOfFuel s

-- 4.4.8 loop: its label is before it
abbrev pub again : Result → (State → Result) → Result
again (Fell s) go = Fell s
again (Branched zero s) go = go s
again (Branched (suc k) s) go = Branched k s
again (Returned v s) go = Returned v s
again (Trapped t s) go = Trapped t s
again (OutOfFuel s) go = OutOfFuel s

abbrev pub turns : ℕ → (State → Result) → State → Result
turns zero body s = OutOfFuel s
turns (suc n) body s = again (body s) (turns n body)

-- 4.4.8 return
abbrev pub returned : Option Expr → State → Result
returned None s = Returned None s
returned (Some x) s = Returned (Some (value s.locals x)) s

-- 4.4.10 back from a call: the caller's locals, with the result
abbrev pub result_in : Option ℕ → Option ℕ → (ℕ → ℕ) → ℕ → ℕ
result_in (Some x) (Some v) l y = if nat_eq y x then v else l y
result_in x v l y = l y

abbrev pub back : Option ℕ → State → Result → Result
back x s (Fell t) = Fell (record t { locals = s.locals })
back x s (Branched k t) = Fell (record t { locals = s.locals })
back x s (Returned v t) = Fell (record t { locals = result_in x v s.locals })
back x s (Trapped r t) = Trapped r t
back x s (OutOfFuel t) = OutOfFuel t

-- with this fuel for each loop, and what the calls of functions do
module _ (fuel : ℕ) (call : ℕ → List ℕ → State → Result) where
  -- 4.4.5 local.set, global.get, global.set; 4.4.7 load, store, memory.fill; 4.4.1 binop of div_u and rem_u, which trap at the divisor 0; 4.4.8 unreachable,
  -- block, loop, if, br, br_table, return, call; 4.4.10 the functions of the host
  abbrev pub run : Code → State → Result
  run Skip s = Fell s
  run Unreachable s = Trapped None s
  run (Then a b) s = then_to (run a s) (run b)
  run (Set x e) s = Fell (set_local x (value s.locals e) s)
  run (Load n x a o) s = inside n (value s.locals a + o) s (Fell (set_local x (loaded n (value s.locals a + o) s.memory) s))
  run (Store n a o e) s = inside n (value s.locals a + o) s (Fell (record s { memory = stored n (value s.locals a + o) (value s.locals e) s.memory }))
  run (Divide t o x a b) s = if nat_eq (value s.locals b) 0 then Trapped None s else Fell (set_local x (quotient o (value s.locals a) (value s.locals b)) s)
  run (If c a b) s = behind (if nat_eq (value s.locals c) 0 then run b s else run a s)
  run (Block a) s = behind (run a s)
  run (Loop a) s = turns fuel (run a) s
  run (Br k) s = Branched k s
  run (BrTable ks k c) s = Branched (slice_index_or ks (value s.locals c) k) s
  run (Return x) s = returned x s
  run (Call f xs x) s = back x s (call f (map (value s.locals) xs) s)
  run (Write a n) s = inside (value s.locals n) (value s.locals a) s (Fell (record s { out = s.out ++ bytes (value s.locals n) (value s.locals a) s.memory }))
  run (Fail k a b p) s = Trapped (Some (record { kind = k; start = a; end = b; instance = value s.locals p })) s
  run (Print o e) s = Fell (record s { out = s.out ++ printed o (value s.locals e) })
  run (GetGlobal x g) s = Fell (set_local x (s.globals g) s)
  run (SetGlobal g e) s = Fell (set_global g (value s.locals e) s)
  run (Clear a n) s = inside (value s.locals n) (value s.locals a) s (Fell (record s { memory = cleared (value s.locals n) (value s.locals a) s.memory }))

-- 4.4.10 a function ends where its code does
abbrev pub left : Result → Result
left (Fell s) = Returned None s
left (Branched k s) = Returned None s
left (Returned v s) = Returned v s
left (Trapped t s) = Trapped t s
left (OutOfFuel s) = OutOfFuel s

-- 4.4.10 A call of a function of a module: locals after the arguments are 0. One number is the fuel of the loops, and calls
-- have one less.
abbrev pub called : (ℕ → Code) → ℕ → ℕ → List ℕ → State → Result
called module_code zero f xs s = OutOfFuel s
called module_code (suc fuel) f xs s = left (run (suc fuel) (called module_code fuel) (module_code f) (record s { locals = slice_index xs }))
