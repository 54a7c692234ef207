-- Which functions an engine takes, and that the definitions take the same. Written by tools/wasm_table.py.
use Rattle.std.proofs.Common.{◌≡◌, List, [], ◌∷◌, map, Option, Some, None, Bool, true, false, refl}
use Rattle.isp_wasm_meaning.specs.Lists.{evens}
use Rattle.isp_wasm_meaning.specs.Module.{ValueType, I32 as W, I64 as L, V128 as V}
use Rattle.isp_wasm_meaning.specs.Syntax.{Code, Add, And, Bitmask, Bits, BitsOf, Bitselect, Block, Br, BrTable, ByteText, Call, Clear, Compare, CompareLanes, Const32, Ctz, DivU, Divide, Eq, Eqz, Extend16S, Extend8S, ExtendHigh, ExtendLow, ExtendS, ExtendU, Extract, Fail, GetGlobal, I16x8, I32, I32x4, I64, I64x2, I8x16, If, Lanes, Load, Local, Loop, LtS, LtU, Mul, Ne, Of, One, Or, Print, RemU, Replace, Return, Select, Set, SetGlobal, ShiftLanes, ShiftOf, Shl, ShrS, ShrU, Shuffle, SignedText, Skip, Splat, Store, Sub, Then, TruthText, Two, Unreachable, UnsignedText, Wrap, Write, Xor}
use Rattle.isp_wasm_meaning.specs.Valid.{is_valid_function}

-- a function of this code that takes and gives values of these types, in a module with two others
abbrev takes : Code → Option ValueType → List ValueType → Bool
takes c r ts =
    is_valid_function (record { export = None; params = W ∷ L ∷ []; result = Some L; locals = []; code = Return (Some (Local 1)) } ∷ record { export = None; params = V ∷ []; result = None; locals = []; code = Skip } ∷ [])
    (record { export = None; params = ts; result = r; locals = []; code = c })

add_i32 : map (takes (Set 2 (Two (Of I32 Add) (Local 0) (Local 1))) None) ((W ∷ W ∷ W ∷ []) ∷ (W ∷ W ∷ L ∷ []) ∷ (W ∷ W ∷ V ∷ []) ∷ (W ∷ L ∷ W ∷ []) ∷ (W ∷ L ∷ L ∷ []) ∷ (W ∷ L ∷ V ∷ []) ∷ (W ∷ V ∷ W ∷ []) ∷ (W ∷ V ∷ L ∷ []) ∷ (W ∷ V ∷ V ∷ []) ∷ (L ∷ W ∷ W ∷ []) ∷ (L ∷ W ∷ L ∷ []) ∷ (L ∷ W ∷ V ∷ []) ∷ (L ∷ L ∷ W ∷ []) ∷ (L ∷ L ∷ L ∷ []) ∷ (L ∷ L ∷ V ∷ []) ∷ (L ∷ V ∷ W ∷ []) ∷ (L ∷ V ∷ L ∷ []) ∷ (L ∷ V ∷ V ∷ []) ∷ (V ∷ W ∷ W ∷ []) ∷ (V ∷ W ∷ L ∷ []) ∷ (V ∷ W ∷ V ∷ []) ∷ (V ∷ L ∷ W ∷ []) ∷ (V ∷ L ∷ L ∷ []) ∷ (V ∷ L ∷ V ∷ []) ∷ (V ∷ V ∷ W ∷ []) ∷ (V ∷ V ∷ L ∷ []) ∷ (V ∷ V ∷ V ∷ []) ∷ []) ≡ (true ∷ false ∷ false ∷ false ∷ false ∷ false ∷ false ∷ false ∷ false ∷ false ∷ false ∷ false ∷ false ∷ false ∷ false ∷ false ∷ false ∷ false ∷ false ∷ false ∷ false ∷ false ∷ false ∷ false ∷ false ∷ false ∷ false ∷ [])
add_i32 = refl

sub_i32 : map (takes (Set 2 (Two (Of I32 Sub) (Local 0) (Local 1))) None) ((W ∷ W ∷ W ∷ []) ∷ (W ∷ W ∷ L ∷ []) ∷ (W ∷ W ∷ V ∷ []) ∷ (W ∷ L ∷ W ∷ []) ∷ (W ∷ L ∷ L ∷ []) ∷ (W ∷ L ∷ V ∷ []) ∷ (W ∷ V ∷ W ∷ []) ∷ (W ∷ V ∷ L ∷ []) ∷ (W ∷ V ∷ V ∷ []) ∷ (L ∷ W ∷ W ∷ []) ∷ (L ∷ W ∷ L ∷ []) ∷ (L ∷ W ∷ V ∷ []) ∷ (L ∷ L ∷ W ∷ []) ∷ (L ∷ L ∷ L ∷ []) ∷ (L ∷ L ∷ V ∷ []) ∷ (L ∷ V ∷ W ∷ []) ∷ (L ∷ V ∷ L ∷ []) ∷ (L ∷ V ∷ V ∷ []) ∷ (V ∷ W ∷ W ∷ []) ∷ (V ∷ W ∷ L ∷ []) ∷ (V ∷ W ∷ V ∷ []) ∷ (V ∷ L ∷ W ∷ []) ∷ (V ∷ L ∷ L ∷ []) ∷ (V ∷ L ∷ V ∷ []) ∷ (V ∷ V ∷ W ∷ []) ∷ (V ∷ V ∷ L ∷ []) ∷ (V ∷ V ∷ V ∷ []) ∷ []) ≡ (true ∷ false ∷ false ∷ false ∷ false ∷ false ∷ false ∷ false ∷ false ∷ false ∷ false ∷ false ∷ false ∷ false ∷ false ∷ false ∷ false ∷ false ∷ false ∷ false ∷ false ∷ false ∷ false ∷ false ∷ false ∷ false ∷ false ∷ [])
sub_i32 = refl

mul_i32 : map (takes (Set 2 (Two (Of I32 Mul) (Local 0) (Local 1))) None) ((W ∷ W ∷ W ∷ []) ∷ (W ∷ W ∷ L ∷ []) ∷ (W ∷ W ∷ V ∷ []) ∷ (W ∷ L ∷ W ∷ []) ∷ (W ∷ L ∷ L ∷ []) ∷ (W ∷ L ∷ V ∷ []) ∷ (W ∷ V ∷ W ∷ []) ∷ (W ∷ V ∷ L ∷ []) ∷ (W ∷ V ∷ V ∷ []) ∷ (L ∷ W ∷ W ∷ []) ∷ (L ∷ W ∷ L ∷ []) ∷ (L ∷ W ∷ V ∷ []) ∷ (L ∷ L ∷ W ∷ []) ∷ (L ∷ L ∷ L ∷ []) ∷ (L ∷ L ∷ V ∷ []) ∷ (L ∷ V ∷ W ∷ []) ∷ (L ∷ V ∷ L ∷ []) ∷ (L ∷ V ∷ V ∷ []) ∷ (V ∷ W ∷ W ∷ []) ∷ (V ∷ W ∷ L ∷ []) ∷ (V ∷ W ∷ V ∷ []) ∷ (V ∷ L ∷ W ∷ []) ∷ (V ∷ L ∷ L ∷ []) ∷ (V ∷ L ∷ V ∷ []) ∷ (V ∷ V ∷ W ∷ []) ∷ (V ∷ V ∷ L ∷ []) ∷ (V ∷ V ∷ V ∷ []) ∷ []) ≡ (true ∷ false ∷ false ∷ false ∷ false ∷ false ∷ false ∷ false ∷ false ∷ false ∷ false ∷ false ∷ false ∷ false ∷ false ∷ false ∷ false ∷ false ∷ false ∷ false ∷ false ∷ false ∷ false ∷ false ∷ false ∷ false ∷ false ∷ [])
mul_i32 = refl

and_i32 : map (takes (Set 2 (Two (BitsOf I32 And) (Local 0) (Local 1))) None) ((W ∷ W ∷ W ∷ []) ∷ (W ∷ W ∷ L ∷ []) ∷ (W ∷ W ∷ V ∷ []) ∷ (W ∷ L ∷ W ∷ []) ∷ (W ∷ L ∷ L ∷ []) ∷ (W ∷ L ∷ V ∷ []) ∷ (W ∷ V ∷ W ∷ []) ∷ (W ∷ V ∷ L ∷ []) ∷ (W ∷ V ∷ V ∷ []) ∷ (L ∷ W ∷ W ∷ []) ∷ (L ∷ W ∷ L ∷ []) ∷ (L ∷ W ∷ V ∷ []) ∷ (L ∷ L ∷ W ∷ []) ∷ (L ∷ L ∷ L ∷ []) ∷ (L ∷ L ∷ V ∷ []) ∷ (L ∷ V ∷ W ∷ []) ∷ (L ∷ V ∷ L ∷ []) ∷ (L ∷ V ∷ V ∷ []) ∷ (V ∷ W ∷ W ∷ []) ∷ (V ∷ W ∷ L ∷ []) ∷ (V ∷ W ∷ V ∷ []) ∷ (V ∷ L ∷ W ∷ []) ∷ (V ∷ L ∷ L ∷ []) ∷ (V ∷ L ∷ V ∷ []) ∷ (V ∷ V ∷ W ∷ []) ∷ (V ∷ V ∷ L ∷ []) ∷ (V ∷ V ∷ V ∷ []) ∷ []) ≡ (true ∷ false ∷ false ∷ false ∷ false ∷ false ∷ false ∷ false ∷ false ∷ false ∷ false ∷ false ∷ false ∷ false ∷ false ∷ false ∷ false ∷ false ∷ false ∷ false ∷ false ∷ false ∷ false ∷ false ∷ false ∷ false ∷ false ∷ [])
and_i32 = refl

or_i32 : map (takes (Set 2 (Two (BitsOf I32 Or) (Local 0) (Local 1))) None) ((W ∷ W ∷ W ∷ []) ∷ (W ∷ W ∷ L ∷ []) ∷ (W ∷ W ∷ V ∷ []) ∷ (W ∷ L ∷ W ∷ []) ∷ (W ∷ L ∷ L ∷ []) ∷ (W ∷ L ∷ V ∷ []) ∷ (W ∷ V ∷ W ∷ []) ∷ (W ∷ V ∷ L ∷ []) ∷ (W ∷ V ∷ V ∷ []) ∷ (L ∷ W ∷ W ∷ []) ∷ (L ∷ W ∷ L ∷ []) ∷ (L ∷ W ∷ V ∷ []) ∷ (L ∷ L ∷ W ∷ []) ∷ (L ∷ L ∷ L ∷ []) ∷ (L ∷ L ∷ V ∷ []) ∷ (L ∷ V ∷ W ∷ []) ∷ (L ∷ V ∷ L ∷ []) ∷ (L ∷ V ∷ V ∷ []) ∷ (V ∷ W ∷ W ∷ []) ∷ (V ∷ W ∷ L ∷ []) ∷ (V ∷ W ∷ V ∷ []) ∷ (V ∷ L ∷ W ∷ []) ∷ (V ∷ L ∷ L ∷ []) ∷ (V ∷ L ∷ V ∷ []) ∷ (V ∷ V ∷ W ∷ []) ∷ (V ∷ V ∷ L ∷ []) ∷ (V ∷ V ∷ V ∷ []) ∷ []) ≡ (true ∷ false ∷ false ∷ false ∷ false ∷ false ∷ false ∷ false ∷ false ∷ false ∷ false ∷ false ∷ false ∷ false ∷ false ∷ false ∷ false ∷ false ∷ false ∷ false ∷ false ∷ false ∷ false ∷ false ∷ false ∷ false ∷ false ∷ [])
or_i32 = refl

xor_i32 : map (takes (Set 2 (Two (BitsOf I32 Xor) (Local 0) (Local 1))) None) ((W ∷ W ∷ W ∷ []) ∷ (W ∷ W ∷ L ∷ []) ∷ (W ∷ W ∷ V ∷ []) ∷ (W ∷ L ∷ W ∷ []) ∷ (W ∷ L ∷ L ∷ []) ∷ (W ∷ L ∷ V ∷ []) ∷ (W ∷ V ∷ W ∷ []) ∷ (W ∷ V ∷ L ∷ []) ∷ (W ∷ V ∷ V ∷ []) ∷ (L ∷ W ∷ W ∷ []) ∷ (L ∷ W ∷ L ∷ []) ∷ (L ∷ W ∷ V ∷ []) ∷ (L ∷ L ∷ W ∷ []) ∷ (L ∷ L ∷ L ∷ []) ∷ (L ∷ L ∷ V ∷ []) ∷ (L ∷ V ∷ W ∷ []) ∷ (L ∷ V ∷ L ∷ []) ∷ (L ∷ V ∷ V ∷ []) ∷ (V ∷ W ∷ W ∷ []) ∷ (V ∷ W ∷ L ∷ []) ∷ (V ∷ W ∷ V ∷ []) ∷ (V ∷ L ∷ W ∷ []) ∷ (V ∷ L ∷ L ∷ []) ∷ (V ∷ L ∷ V ∷ []) ∷ (V ∷ V ∷ W ∷ []) ∷ (V ∷ V ∷ L ∷ []) ∷ (V ∷ V ∷ V ∷ []) ∷ []) ≡ (true ∷ false ∷ false ∷ false ∷ false ∷ false ∷ false ∷ false ∷ false ∷ false ∷ false ∷ false ∷ false ∷ false ∷ false ∷ false ∷ false ∷ false ∷ false ∷ false ∷ false ∷ false ∷ false ∷ false ∷ false ∷ false ∷ false ∷ [])
xor_i32 = refl

shl_i32 : map (takes (Set 2 (Two (ShiftOf I32 Shl) (Local 0) (Local 1))) None) ((W ∷ W ∷ W ∷ []) ∷ (W ∷ W ∷ L ∷ []) ∷ (W ∷ W ∷ V ∷ []) ∷ (W ∷ L ∷ W ∷ []) ∷ (W ∷ L ∷ L ∷ []) ∷ (W ∷ L ∷ V ∷ []) ∷ (W ∷ V ∷ W ∷ []) ∷ (W ∷ V ∷ L ∷ []) ∷ (W ∷ V ∷ V ∷ []) ∷ (L ∷ W ∷ W ∷ []) ∷ (L ∷ W ∷ L ∷ []) ∷ (L ∷ W ∷ V ∷ []) ∷ (L ∷ L ∷ W ∷ []) ∷ (L ∷ L ∷ L ∷ []) ∷ (L ∷ L ∷ V ∷ []) ∷ (L ∷ V ∷ W ∷ []) ∷ (L ∷ V ∷ L ∷ []) ∷ (L ∷ V ∷ V ∷ []) ∷ (V ∷ W ∷ W ∷ []) ∷ (V ∷ W ∷ L ∷ []) ∷ (V ∷ W ∷ V ∷ []) ∷ (V ∷ L ∷ W ∷ []) ∷ (V ∷ L ∷ L ∷ []) ∷ (V ∷ L ∷ V ∷ []) ∷ (V ∷ V ∷ W ∷ []) ∷ (V ∷ V ∷ L ∷ []) ∷ (V ∷ V ∷ V ∷ []) ∷ []) ≡ (true ∷ false ∷ false ∷ false ∷ false ∷ false ∷ false ∷ false ∷ false ∷ false ∷ false ∷ false ∷ false ∷ false ∷ false ∷ false ∷ false ∷ false ∷ false ∷ false ∷ false ∷ false ∷ false ∷ false ∷ false ∷ false ∷ false ∷ [])
shl_i32 = refl

shr_u_i32 : map (takes (Set 2 (Two (ShiftOf I32 ShrU) (Local 0) (Local 1))) None) ((W ∷ W ∷ W ∷ []) ∷ (W ∷ W ∷ L ∷ []) ∷ (W ∷ W ∷ V ∷ []) ∷ (W ∷ L ∷ W ∷ []) ∷ (W ∷ L ∷ L ∷ []) ∷ (W ∷ L ∷ V ∷ []) ∷ (W ∷ V ∷ W ∷ []) ∷ (W ∷ V ∷ L ∷ []) ∷ (W ∷ V ∷ V ∷ []) ∷ (L ∷ W ∷ W ∷ []) ∷ (L ∷ W ∷ L ∷ []) ∷ (L ∷ W ∷ V ∷ []) ∷ (L ∷ L ∷ W ∷ []) ∷ (L ∷ L ∷ L ∷ []) ∷ (L ∷ L ∷ V ∷ []) ∷ (L ∷ V ∷ W ∷ []) ∷ (L ∷ V ∷ L ∷ []) ∷ (L ∷ V ∷ V ∷ []) ∷ (V ∷ W ∷ W ∷ []) ∷ (V ∷ W ∷ L ∷ []) ∷ (V ∷ W ∷ V ∷ []) ∷ (V ∷ L ∷ W ∷ []) ∷ (V ∷ L ∷ L ∷ []) ∷ (V ∷ L ∷ V ∷ []) ∷ (V ∷ V ∷ W ∷ []) ∷ (V ∷ V ∷ L ∷ []) ∷ (V ∷ V ∷ V ∷ []) ∷ []) ≡ (true ∷ false ∷ false ∷ false ∷ false ∷ false ∷ false ∷ false ∷ false ∷ false ∷ false ∷ false ∷ false ∷ false ∷ false ∷ false ∷ false ∷ false ∷ false ∷ false ∷ false ∷ false ∷ false ∷ false ∷ false ∷ false ∷ false ∷ [])
shr_u_i32 = refl

shr_s_i32 : map (takes (Set 2 (Two (ShiftOf I32 ShrS) (Local 0) (Local 1))) None) ((W ∷ W ∷ W ∷ []) ∷ (W ∷ W ∷ L ∷ []) ∷ (W ∷ W ∷ V ∷ []) ∷ (W ∷ L ∷ W ∷ []) ∷ (W ∷ L ∷ L ∷ []) ∷ (W ∷ L ∷ V ∷ []) ∷ (W ∷ V ∷ W ∷ []) ∷ (W ∷ V ∷ L ∷ []) ∷ (W ∷ V ∷ V ∷ []) ∷ (L ∷ W ∷ W ∷ []) ∷ (L ∷ W ∷ L ∷ []) ∷ (L ∷ W ∷ V ∷ []) ∷ (L ∷ L ∷ W ∷ []) ∷ (L ∷ L ∷ L ∷ []) ∷ (L ∷ L ∷ V ∷ []) ∷ (L ∷ V ∷ W ∷ []) ∷ (L ∷ V ∷ L ∷ []) ∷ (L ∷ V ∷ V ∷ []) ∷ (V ∷ W ∷ W ∷ []) ∷ (V ∷ W ∷ L ∷ []) ∷ (V ∷ W ∷ V ∷ []) ∷ (V ∷ L ∷ W ∷ []) ∷ (V ∷ L ∷ L ∷ []) ∷ (V ∷ L ∷ V ∷ []) ∷ (V ∷ V ∷ W ∷ []) ∷ (V ∷ V ∷ L ∷ []) ∷ (V ∷ V ∷ V ∷ []) ∷ []) ≡ (true ∷ false ∷ false ∷ false ∷ false ∷ false ∷ false ∷ false ∷ false ∷ false ∷ false ∷ false ∷ false ∷ false ∷ false ∷ false ∷ false ∷ false ∷ false ∷ false ∷ false ∷ false ∷ false ∷ false ∷ false ∷ false ∷ false ∷ [])
shr_s_i32 = refl

eq_i32 : map (takes (Set 2 (Two (Compare I32 Eq) (Local 0) (Local 1))) None) ((W ∷ W ∷ W ∷ []) ∷ (W ∷ W ∷ L ∷ []) ∷ (W ∷ W ∷ V ∷ []) ∷ (W ∷ L ∷ W ∷ []) ∷ (W ∷ L ∷ L ∷ []) ∷ (W ∷ L ∷ V ∷ []) ∷ (W ∷ V ∷ W ∷ []) ∷ (W ∷ V ∷ L ∷ []) ∷ (W ∷ V ∷ V ∷ []) ∷ (L ∷ W ∷ W ∷ []) ∷ (L ∷ W ∷ L ∷ []) ∷ (L ∷ W ∷ V ∷ []) ∷ (L ∷ L ∷ W ∷ []) ∷ (L ∷ L ∷ L ∷ []) ∷ (L ∷ L ∷ V ∷ []) ∷ (L ∷ V ∷ W ∷ []) ∷ (L ∷ V ∷ L ∷ []) ∷ (L ∷ V ∷ V ∷ []) ∷ (V ∷ W ∷ W ∷ []) ∷ (V ∷ W ∷ L ∷ []) ∷ (V ∷ W ∷ V ∷ []) ∷ (V ∷ L ∷ W ∷ []) ∷ (V ∷ L ∷ L ∷ []) ∷ (V ∷ L ∷ V ∷ []) ∷ (V ∷ V ∷ W ∷ []) ∷ (V ∷ V ∷ L ∷ []) ∷ (V ∷ V ∷ V ∷ []) ∷ []) ≡ (true ∷ false ∷ false ∷ false ∷ false ∷ false ∷ false ∷ false ∷ false ∷ false ∷ false ∷ false ∷ false ∷ false ∷ false ∷ false ∷ false ∷ false ∷ false ∷ false ∷ false ∷ false ∷ false ∷ false ∷ false ∷ false ∷ false ∷ [])
eq_i32 = refl

ne_i32 : map (takes (Set 2 (Two (Compare I32 Ne) (Local 0) (Local 1))) None) ((W ∷ W ∷ W ∷ []) ∷ (W ∷ W ∷ L ∷ []) ∷ (W ∷ W ∷ V ∷ []) ∷ (W ∷ L ∷ W ∷ []) ∷ (W ∷ L ∷ L ∷ []) ∷ (W ∷ L ∷ V ∷ []) ∷ (W ∷ V ∷ W ∷ []) ∷ (W ∷ V ∷ L ∷ []) ∷ (W ∷ V ∷ V ∷ []) ∷ (L ∷ W ∷ W ∷ []) ∷ (L ∷ W ∷ L ∷ []) ∷ (L ∷ W ∷ V ∷ []) ∷ (L ∷ L ∷ W ∷ []) ∷ (L ∷ L ∷ L ∷ []) ∷ (L ∷ L ∷ V ∷ []) ∷ (L ∷ V ∷ W ∷ []) ∷ (L ∷ V ∷ L ∷ []) ∷ (L ∷ V ∷ V ∷ []) ∷ (V ∷ W ∷ W ∷ []) ∷ (V ∷ W ∷ L ∷ []) ∷ (V ∷ W ∷ V ∷ []) ∷ (V ∷ L ∷ W ∷ []) ∷ (V ∷ L ∷ L ∷ []) ∷ (V ∷ L ∷ V ∷ []) ∷ (V ∷ V ∷ W ∷ []) ∷ (V ∷ V ∷ L ∷ []) ∷ (V ∷ V ∷ V ∷ []) ∷ []) ≡ (true ∷ false ∷ false ∷ false ∷ false ∷ false ∷ false ∷ false ∷ false ∷ false ∷ false ∷ false ∷ false ∷ false ∷ false ∷ false ∷ false ∷ false ∷ false ∷ false ∷ false ∷ false ∷ false ∷ false ∷ false ∷ false ∷ false ∷ [])
ne_i32 = refl

lt_u_i32 : map (takes (Set 2 (Two (Compare I32 LtU) (Local 0) (Local 1))) None) ((W ∷ W ∷ W ∷ []) ∷ (W ∷ W ∷ L ∷ []) ∷ (W ∷ W ∷ V ∷ []) ∷ (W ∷ L ∷ W ∷ []) ∷ (W ∷ L ∷ L ∷ []) ∷ (W ∷ L ∷ V ∷ []) ∷ (W ∷ V ∷ W ∷ []) ∷ (W ∷ V ∷ L ∷ []) ∷ (W ∷ V ∷ V ∷ []) ∷ (L ∷ W ∷ W ∷ []) ∷ (L ∷ W ∷ L ∷ []) ∷ (L ∷ W ∷ V ∷ []) ∷ (L ∷ L ∷ W ∷ []) ∷ (L ∷ L ∷ L ∷ []) ∷ (L ∷ L ∷ V ∷ []) ∷ (L ∷ V ∷ W ∷ []) ∷ (L ∷ V ∷ L ∷ []) ∷ (L ∷ V ∷ V ∷ []) ∷ (V ∷ W ∷ W ∷ []) ∷ (V ∷ W ∷ L ∷ []) ∷ (V ∷ W ∷ V ∷ []) ∷ (V ∷ L ∷ W ∷ []) ∷ (V ∷ L ∷ L ∷ []) ∷ (V ∷ L ∷ V ∷ []) ∷ (V ∷ V ∷ W ∷ []) ∷ (V ∷ V ∷ L ∷ []) ∷ (V ∷ V ∷ V ∷ []) ∷ []) ≡ (true ∷ false ∷ false ∷ false ∷ false ∷ false ∷ false ∷ false ∷ false ∷ false ∷ false ∷ false ∷ false ∷ false ∷ false ∷ false ∷ false ∷ false ∷ false ∷ false ∷ false ∷ false ∷ false ∷ false ∷ false ∷ false ∷ false ∷ [])
lt_u_i32 = refl

lt_s_i32 : map (takes (Set 2 (Two (Compare I32 LtS) (Local 0) (Local 1))) None) ((W ∷ W ∷ W ∷ []) ∷ (W ∷ W ∷ L ∷ []) ∷ (W ∷ W ∷ V ∷ []) ∷ (W ∷ L ∷ W ∷ []) ∷ (W ∷ L ∷ L ∷ []) ∷ (W ∷ L ∷ V ∷ []) ∷ (W ∷ V ∷ W ∷ []) ∷ (W ∷ V ∷ L ∷ []) ∷ (W ∷ V ∷ V ∷ []) ∷ (L ∷ W ∷ W ∷ []) ∷ (L ∷ W ∷ L ∷ []) ∷ (L ∷ W ∷ V ∷ []) ∷ (L ∷ L ∷ W ∷ []) ∷ (L ∷ L ∷ L ∷ []) ∷ (L ∷ L ∷ V ∷ []) ∷ (L ∷ V ∷ W ∷ []) ∷ (L ∷ V ∷ L ∷ []) ∷ (L ∷ V ∷ V ∷ []) ∷ (V ∷ W ∷ W ∷ []) ∷ (V ∷ W ∷ L ∷ []) ∷ (V ∷ W ∷ V ∷ []) ∷ (V ∷ L ∷ W ∷ []) ∷ (V ∷ L ∷ L ∷ []) ∷ (V ∷ L ∷ V ∷ []) ∷ (V ∷ V ∷ W ∷ []) ∷ (V ∷ V ∷ L ∷ []) ∷ (V ∷ V ∷ V ∷ []) ∷ []) ≡ (true ∷ false ∷ false ∷ false ∷ false ∷ false ∷ false ∷ false ∷ false ∷ false ∷ false ∷ false ∷ false ∷ false ∷ false ∷ false ∷ false ∷ false ∷ false ∷ false ∷ false ∷ false ∷ false ∷ false ∷ false ∷ false ∷ false ∷ [])
lt_s_i32 = refl

div_u_i32 : map (takes (Divide I32 DivU 2 (Local 0) (Local 1)) None) ((W ∷ W ∷ W ∷ []) ∷ (W ∷ W ∷ L ∷ []) ∷ (W ∷ W ∷ V ∷ []) ∷ (W ∷ L ∷ W ∷ []) ∷ (W ∷ L ∷ L ∷ []) ∷ (W ∷ L ∷ V ∷ []) ∷ (W ∷ V ∷ W ∷ []) ∷ (W ∷ V ∷ L ∷ []) ∷ (W ∷ V ∷ V ∷ []) ∷ (L ∷ W ∷ W ∷ []) ∷ (L ∷ W ∷ L ∷ []) ∷ (L ∷ W ∷ V ∷ []) ∷ (L ∷ L ∷ W ∷ []) ∷ (L ∷ L ∷ L ∷ []) ∷ (L ∷ L ∷ V ∷ []) ∷ (L ∷ V ∷ W ∷ []) ∷ (L ∷ V ∷ L ∷ []) ∷ (L ∷ V ∷ V ∷ []) ∷ (V ∷ W ∷ W ∷ []) ∷ (V ∷ W ∷ L ∷ []) ∷ (V ∷ W ∷ V ∷ []) ∷ (V ∷ L ∷ W ∷ []) ∷ (V ∷ L ∷ L ∷ []) ∷ (V ∷ L ∷ V ∷ []) ∷ (V ∷ V ∷ W ∷ []) ∷ (V ∷ V ∷ L ∷ []) ∷ (V ∷ V ∷ V ∷ []) ∷ []) ≡ (true ∷ false ∷ false ∷ false ∷ false ∷ false ∷ false ∷ false ∷ false ∷ false ∷ false ∷ false ∷ false ∷ false ∷ false ∷ false ∷ false ∷ false ∷ false ∷ false ∷ false ∷ false ∷ false ∷ false ∷ false ∷ false ∷ false ∷ [])
div_u_i32 = refl

rem_u_i32 : map (takes (Divide I32 RemU 2 (Local 0) (Local 1)) None) ((W ∷ W ∷ W ∷ []) ∷ (W ∷ W ∷ L ∷ []) ∷ (W ∷ W ∷ V ∷ []) ∷ (W ∷ L ∷ W ∷ []) ∷ (W ∷ L ∷ L ∷ []) ∷ (W ∷ L ∷ V ∷ []) ∷ (W ∷ V ∷ W ∷ []) ∷ (W ∷ V ∷ L ∷ []) ∷ (W ∷ V ∷ V ∷ []) ∷ (L ∷ W ∷ W ∷ []) ∷ (L ∷ W ∷ L ∷ []) ∷ (L ∷ W ∷ V ∷ []) ∷ (L ∷ L ∷ W ∷ []) ∷ (L ∷ L ∷ L ∷ []) ∷ (L ∷ L ∷ V ∷ []) ∷ (L ∷ V ∷ W ∷ []) ∷ (L ∷ V ∷ L ∷ []) ∷ (L ∷ V ∷ V ∷ []) ∷ (V ∷ W ∷ W ∷ []) ∷ (V ∷ W ∷ L ∷ []) ∷ (V ∷ W ∷ V ∷ []) ∷ (V ∷ L ∷ W ∷ []) ∷ (V ∷ L ∷ L ∷ []) ∷ (V ∷ L ∷ V ∷ []) ∷ (V ∷ V ∷ W ∷ []) ∷ (V ∷ V ∷ L ∷ []) ∷ (V ∷ V ∷ V ∷ []) ∷ []) ≡ (true ∷ false ∷ false ∷ false ∷ false ∷ false ∷ false ∷ false ∷ false ∷ false ∷ false ∷ false ∷ false ∷ false ∷ false ∷ false ∷ false ∷ false ∷ false ∷ false ∷ false ∷ false ∷ false ∷ false ∷ false ∷ false ∷ false ∷ [])
rem_u_i32 = refl

eqz_i32 : map (takes (Set 1 (One (Eqz I32) (Local 0))) None) ((W ∷ W ∷ []) ∷ (W ∷ L ∷ []) ∷ (W ∷ V ∷ []) ∷ (L ∷ W ∷ []) ∷ (L ∷ L ∷ []) ∷ (L ∷ V ∷ []) ∷ (V ∷ W ∷ []) ∷ (V ∷ L ∷ []) ∷ (V ∷ V ∷ []) ∷ []) ≡ (true ∷ false ∷ false ∷ false ∷ false ∷ false ∷ false ∷ false ∷ false ∷ [])
eqz_i32 = refl

ctz_i32 : map (takes (Set 1 (One (Ctz I32) (Local 0))) None) ((W ∷ W ∷ []) ∷ (W ∷ L ∷ []) ∷ (W ∷ V ∷ []) ∷ (L ∷ W ∷ []) ∷ (L ∷ L ∷ []) ∷ (L ∷ V ∷ []) ∷ (V ∷ W ∷ []) ∷ (V ∷ L ∷ []) ∷ (V ∷ V ∷ []) ∷ []) ≡ (true ∷ false ∷ false ∷ false ∷ false ∷ false ∷ false ∷ false ∷ false ∷ [])
ctz_i32 = refl

add_i64 : map (takes (Set 2 (Two (Of I64 Add) (Local 0) (Local 1))) None) ((W ∷ W ∷ W ∷ []) ∷ (W ∷ W ∷ L ∷ []) ∷ (W ∷ W ∷ V ∷ []) ∷ (W ∷ L ∷ W ∷ []) ∷ (W ∷ L ∷ L ∷ []) ∷ (W ∷ L ∷ V ∷ []) ∷ (W ∷ V ∷ W ∷ []) ∷ (W ∷ V ∷ L ∷ []) ∷ (W ∷ V ∷ V ∷ []) ∷ (L ∷ W ∷ W ∷ []) ∷ (L ∷ W ∷ L ∷ []) ∷ (L ∷ W ∷ V ∷ []) ∷ (L ∷ L ∷ W ∷ []) ∷ (L ∷ L ∷ L ∷ []) ∷ (L ∷ L ∷ V ∷ []) ∷ (L ∷ V ∷ W ∷ []) ∷ (L ∷ V ∷ L ∷ []) ∷ (L ∷ V ∷ V ∷ []) ∷ (V ∷ W ∷ W ∷ []) ∷ (V ∷ W ∷ L ∷ []) ∷ (V ∷ W ∷ V ∷ []) ∷ (V ∷ L ∷ W ∷ []) ∷ (V ∷ L ∷ L ∷ []) ∷ (V ∷ L ∷ V ∷ []) ∷ (V ∷ V ∷ W ∷ []) ∷ (V ∷ V ∷ L ∷ []) ∷ (V ∷ V ∷ V ∷ []) ∷ []) ≡ (false ∷ false ∷ false ∷ false ∷ false ∷ false ∷ false ∷ false ∷ false ∷ false ∷ false ∷ false ∷ false ∷ true ∷ false ∷ false ∷ false ∷ false ∷ false ∷ false ∷ false ∷ false ∷ false ∷ false ∷ false ∷ false ∷ false ∷ [])
add_i64 = refl

sub_i64 : map (takes (Set 2 (Two (Of I64 Sub) (Local 0) (Local 1))) None) ((W ∷ W ∷ W ∷ []) ∷ (W ∷ W ∷ L ∷ []) ∷ (W ∷ W ∷ V ∷ []) ∷ (W ∷ L ∷ W ∷ []) ∷ (W ∷ L ∷ L ∷ []) ∷ (W ∷ L ∷ V ∷ []) ∷ (W ∷ V ∷ W ∷ []) ∷ (W ∷ V ∷ L ∷ []) ∷ (W ∷ V ∷ V ∷ []) ∷ (L ∷ W ∷ W ∷ []) ∷ (L ∷ W ∷ L ∷ []) ∷ (L ∷ W ∷ V ∷ []) ∷ (L ∷ L ∷ W ∷ []) ∷ (L ∷ L ∷ L ∷ []) ∷ (L ∷ L ∷ V ∷ []) ∷ (L ∷ V ∷ W ∷ []) ∷ (L ∷ V ∷ L ∷ []) ∷ (L ∷ V ∷ V ∷ []) ∷ (V ∷ W ∷ W ∷ []) ∷ (V ∷ W ∷ L ∷ []) ∷ (V ∷ W ∷ V ∷ []) ∷ (V ∷ L ∷ W ∷ []) ∷ (V ∷ L ∷ L ∷ []) ∷ (V ∷ L ∷ V ∷ []) ∷ (V ∷ V ∷ W ∷ []) ∷ (V ∷ V ∷ L ∷ []) ∷ (V ∷ V ∷ V ∷ []) ∷ []) ≡ (false ∷ false ∷ false ∷ false ∷ false ∷ false ∷ false ∷ false ∷ false ∷ false ∷ false ∷ false ∷ false ∷ true ∷ false ∷ false ∷ false ∷ false ∷ false ∷ false ∷ false ∷ false ∷ false ∷ false ∷ false ∷ false ∷ false ∷ [])
sub_i64 = refl

mul_i64 : map (takes (Set 2 (Two (Of I64 Mul) (Local 0) (Local 1))) None) ((W ∷ W ∷ W ∷ []) ∷ (W ∷ W ∷ L ∷ []) ∷ (W ∷ W ∷ V ∷ []) ∷ (W ∷ L ∷ W ∷ []) ∷ (W ∷ L ∷ L ∷ []) ∷ (W ∷ L ∷ V ∷ []) ∷ (W ∷ V ∷ W ∷ []) ∷ (W ∷ V ∷ L ∷ []) ∷ (W ∷ V ∷ V ∷ []) ∷ (L ∷ W ∷ W ∷ []) ∷ (L ∷ W ∷ L ∷ []) ∷ (L ∷ W ∷ V ∷ []) ∷ (L ∷ L ∷ W ∷ []) ∷ (L ∷ L ∷ L ∷ []) ∷ (L ∷ L ∷ V ∷ []) ∷ (L ∷ V ∷ W ∷ []) ∷ (L ∷ V ∷ L ∷ []) ∷ (L ∷ V ∷ V ∷ []) ∷ (V ∷ W ∷ W ∷ []) ∷ (V ∷ W ∷ L ∷ []) ∷ (V ∷ W ∷ V ∷ []) ∷ (V ∷ L ∷ W ∷ []) ∷ (V ∷ L ∷ L ∷ []) ∷ (V ∷ L ∷ V ∷ []) ∷ (V ∷ V ∷ W ∷ []) ∷ (V ∷ V ∷ L ∷ []) ∷ (V ∷ V ∷ V ∷ []) ∷ []) ≡ (false ∷ false ∷ false ∷ false ∷ false ∷ false ∷ false ∷ false ∷ false ∷ false ∷ false ∷ false ∷ false ∷ true ∷ false ∷ false ∷ false ∷ false ∷ false ∷ false ∷ false ∷ false ∷ false ∷ false ∷ false ∷ false ∷ false ∷ [])
mul_i64 = refl

and_i64 : map (takes (Set 2 (Two (BitsOf I64 And) (Local 0) (Local 1))) None) ((W ∷ W ∷ W ∷ []) ∷ (W ∷ W ∷ L ∷ []) ∷ (W ∷ W ∷ V ∷ []) ∷ (W ∷ L ∷ W ∷ []) ∷ (W ∷ L ∷ L ∷ []) ∷ (W ∷ L ∷ V ∷ []) ∷ (W ∷ V ∷ W ∷ []) ∷ (W ∷ V ∷ L ∷ []) ∷ (W ∷ V ∷ V ∷ []) ∷ (L ∷ W ∷ W ∷ []) ∷ (L ∷ W ∷ L ∷ []) ∷ (L ∷ W ∷ V ∷ []) ∷ (L ∷ L ∷ W ∷ []) ∷ (L ∷ L ∷ L ∷ []) ∷ (L ∷ L ∷ V ∷ []) ∷ (L ∷ V ∷ W ∷ []) ∷ (L ∷ V ∷ L ∷ []) ∷ (L ∷ V ∷ V ∷ []) ∷ (V ∷ W ∷ W ∷ []) ∷ (V ∷ W ∷ L ∷ []) ∷ (V ∷ W ∷ V ∷ []) ∷ (V ∷ L ∷ W ∷ []) ∷ (V ∷ L ∷ L ∷ []) ∷ (V ∷ L ∷ V ∷ []) ∷ (V ∷ V ∷ W ∷ []) ∷ (V ∷ V ∷ L ∷ []) ∷ (V ∷ V ∷ V ∷ []) ∷ []) ≡ (false ∷ false ∷ false ∷ false ∷ false ∷ false ∷ false ∷ false ∷ false ∷ false ∷ false ∷ false ∷ false ∷ true ∷ false ∷ false ∷ false ∷ false ∷ false ∷ false ∷ false ∷ false ∷ false ∷ false ∷ false ∷ false ∷ false ∷ [])
and_i64 = refl

or_i64 : map (takes (Set 2 (Two (BitsOf I64 Or) (Local 0) (Local 1))) None) ((W ∷ W ∷ W ∷ []) ∷ (W ∷ W ∷ L ∷ []) ∷ (W ∷ W ∷ V ∷ []) ∷ (W ∷ L ∷ W ∷ []) ∷ (W ∷ L ∷ L ∷ []) ∷ (W ∷ L ∷ V ∷ []) ∷ (W ∷ V ∷ W ∷ []) ∷ (W ∷ V ∷ L ∷ []) ∷ (W ∷ V ∷ V ∷ []) ∷ (L ∷ W ∷ W ∷ []) ∷ (L ∷ W ∷ L ∷ []) ∷ (L ∷ W ∷ V ∷ []) ∷ (L ∷ L ∷ W ∷ []) ∷ (L ∷ L ∷ L ∷ []) ∷ (L ∷ L ∷ V ∷ []) ∷ (L ∷ V ∷ W ∷ []) ∷ (L ∷ V ∷ L ∷ []) ∷ (L ∷ V ∷ V ∷ []) ∷ (V ∷ W ∷ W ∷ []) ∷ (V ∷ W ∷ L ∷ []) ∷ (V ∷ W ∷ V ∷ []) ∷ (V ∷ L ∷ W ∷ []) ∷ (V ∷ L ∷ L ∷ []) ∷ (V ∷ L ∷ V ∷ []) ∷ (V ∷ V ∷ W ∷ []) ∷ (V ∷ V ∷ L ∷ []) ∷ (V ∷ V ∷ V ∷ []) ∷ []) ≡ (false ∷ false ∷ false ∷ false ∷ false ∷ false ∷ false ∷ false ∷ false ∷ false ∷ false ∷ false ∷ false ∷ true ∷ false ∷ false ∷ false ∷ false ∷ false ∷ false ∷ false ∷ false ∷ false ∷ false ∷ false ∷ false ∷ false ∷ [])
or_i64 = refl

xor_i64 : map (takes (Set 2 (Two (BitsOf I64 Xor) (Local 0) (Local 1))) None) ((W ∷ W ∷ W ∷ []) ∷ (W ∷ W ∷ L ∷ []) ∷ (W ∷ W ∷ V ∷ []) ∷ (W ∷ L ∷ W ∷ []) ∷ (W ∷ L ∷ L ∷ []) ∷ (W ∷ L ∷ V ∷ []) ∷ (W ∷ V ∷ W ∷ []) ∷ (W ∷ V ∷ L ∷ []) ∷ (W ∷ V ∷ V ∷ []) ∷ (L ∷ W ∷ W ∷ []) ∷ (L ∷ W ∷ L ∷ []) ∷ (L ∷ W ∷ V ∷ []) ∷ (L ∷ L ∷ W ∷ []) ∷ (L ∷ L ∷ L ∷ []) ∷ (L ∷ L ∷ V ∷ []) ∷ (L ∷ V ∷ W ∷ []) ∷ (L ∷ V ∷ L ∷ []) ∷ (L ∷ V ∷ V ∷ []) ∷ (V ∷ W ∷ W ∷ []) ∷ (V ∷ W ∷ L ∷ []) ∷ (V ∷ W ∷ V ∷ []) ∷ (V ∷ L ∷ W ∷ []) ∷ (V ∷ L ∷ L ∷ []) ∷ (V ∷ L ∷ V ∷ []) ∷ (V ∷ V ∷ W ∷ []) ∷ (V ∷ V ∷ L ∷ []) ∷ (V ∷ V ∷ V ∷ []) ∷ []) ≡ (false ∷ false ∷ false ∷ false ∷ false ∷ false ∷ false ∷ false ∷ false ∷ false ∷ false ∷ false ∷ false ∷ true ∷ false ∷ false ∷ false ∷ false ∷ false ∷ false ∷ false ∷ false ∷ false ∷ false ∷ false ∷ false ∷ false ∷ [])
xor_i64 = refl

shl_i64 : map (takes (Set 2 (Two (ShiftOf I64 Shl) (Local 0) (Local 1))) None) ((W ∷ W ∷ W ∷ []) ∷ (W ∷ W ∷ L ∷ []) ∷ (W ∷ W ∷ V ∷ []) ∷ (W ∷ L ∷ W ∷ []) ∷ (W ∷ L ∷ L ∷ []) ∷ (W ∷ L ∷ V ∷ []) ∷ (W ∷ V ∷ W ∷ []) ∷ (W ∷ V ∷ L ∷ []) ∷ (W ∷ V ∷ V ∷ []) ∷ (L ∷ W ∷ W ∷ []) ∷ (L ∷ W ∷ L ∷ []) ∷ (L ∷ W ∷ V ∷ []) ∷ (L ∷ L ∷ W ∷ []) ∷ (L ∷ L ∷ L ∷ []) ∷ (L ∷ L ∷ V ∷ []) ∷ (L ∷ V ∷ W ∷ []) ∷ (L ∷ V ∷ L ∷ []) ∷ (L ∷ V ∷ V ∷ []) ∷ (V ∷ W ∷ W ∷ []) ∷ (V ∷ W ∷ L ∷ []) ∷ (V ∷ W ∷ V ∷ []) ∷ (V ∷ L ∷ W ∷ []) ∷ (V ∷ L ∷ L ∷ []) ∷ (V ∷ L ∷ V ∷ []) ∷ (V ∷ V ∷ W ∷ []) ∷ (V ∷ V ∷ L ∷ []) ∷ (V ∷ V ∷ V ∷ []) ∷ []) ≡ (false ∷ false ∷ false ∷ false ∷ false ∷ false ∷ false ∷ false ∷ false ∷ false ∷ false ∷ false ∷ false ∷ true ∷ false ∷ false ∷ false ∷ false ∷ false ∷ false ∷ false ∷ false ∷ false ∷ false ∷ false ∷ false ∷ false ∷ [])
shl_i64 = refl

shr_u_i64 : map (takes (Set 2 (Two (ShiftOf I64 ShrU) (Local 0) (Local 1))) None) ((W ∷ W ∷ W ∷ []) ∷ (W ∷ W ∷ L ∷ []) ∷ (W ∷ W ∷ V ∷ []) ∷ (W ∷ L ∷ W ∷ []) ∷ (W ∷ L ∷ L ∷ []) ∷ (W ∷ L ∷ V ∷ []) ∷ (W ∷ V ∷ W ∷ []) ∷ (W ∷ V ∷ L ∷ []) ∷ (W ∷ V ∷ V ∷ []) ∷ (L ∷ W ∷ W ∷ []) ∷ (L ∷ W ∷ L ∷ []) ∷ (L ∷ W ∷ V ∷ []) ∷ (L ∷ L ∷ W ∷ []) ∷ (L ∷ L ∷ L ∷ []) ∷ (L ∷ L ∷ V ∷ []) ∷ (L ∷ V ∷ W ∷ []) ∷ (L ∷ V ∷ L ∷ []) ∷ (L ∷ V ∷ V ∷ []) ∷ (V ∷ W ∷ W ∷ []) ∷ (V ∷ W ∷ L ∷ []) ∷ (V ∷ W ∷ V ∷ []) ∷ (V ∷ L ∷ W ∷ []) ∷ (V ∷ L ∷ L ∷ []) ∷ (V ∷ L ∷ V ∷ []) ∷ (V ∷ V ∷ W ∷ []) ∷ (V ∷ V ∷ L ∷ []) ∷ (V ∷ V ∷ V ∷ []) ∷ []) ≡ (false ∷ false ∷ false ∷ false ∷ false ∷ false ∷ false ∷ false ∷ false ∷ false ∷ false ∷ false ∷ false ∷ true ∷ false ∷ false ∷ false ∷ false ∷ false ∷ false ∷ false ∷ false ∷ false ∷ false ∷ false ∷ false ∷ false ∷ [])
shr_u_i64 = refl

shr_s_i64 : map (takes (Set 2 (Two (ShiftOf I64 ShrS) (Local 0) (Local 1))) None) ((W ∷ W ∷ W ∷ []) ∷ (W ∷ W ∷ L ∷ []) ∷ (W ∷ W ∷ V ∷ []) ∷ (W ∷ L ∷ W ∷ []) ∷ (W ∷ L ∷ L ∷ []) ∷ (W ∷ L ∷ V ∷ []) ∷ (W ∷ V ∷ W ∷ []) ∷ (W ∷ V ∷ L ∷ []) ∷ (W ∷ V ∷ V ∷ []) ∷ (L ∷ W ∷ W ∷ []) ∷ (L ∷ W ∷ L ∷ []) ∷ (L ∷ W ∷ V ∷ []) ∷ (L ∷ L ∷ W ∷ []) ∷ (L ∷ L ∷ L ∷ []) ∷ (L ∷ L ∷ V ∷ []) ∷ (L ∷ V ∷ W ∷ []) ∷ (L ∷ V ∷ L ∷ []) ∷ (L ∷ V ∷ V ∷ []) ∷ (V ∷ W ∷ W ∷ []) ∷ (V ∷ W ∷ L ∷ []) ∷ (V ∷ W ∷ V ∷ []) ∷ (V ∷ L ∷ W ∷ []) ∷ (V ∷ L ∷ L ∷ []) ∷ (V ∷ L ∷ V ∷ []) ∷ (V ∷ V ∷ W ∷ []) ∷ (V ∷ V ∷ L ∷ []) ∷ (V ∷ V ∷ V ∷ []) ∷ []) ≡ (false ∷ false ∷ false ∷ false ∷ false ∷ false ∷ false ∷ false ∷ false ∷ false ∷ false ∷ false ∷ false ∷ true ∷ false ∷ false ∷ false ∷ false ∷ false ∷ false ∷ false ∷ false ∷ false ∷ false ∷ false ∷ false ∷ false ∷ [])
shr_s_i64 = refl

eq_i64 : map (takes (Set 2 (Two (Compare I64 Eq) (Local 0) (Local 1))) None) ((W ∷ W ∷ W ∷ []) ∷ (W ∷ W ∷ L ∷ []) ∷ (W ∷ W ∷ V ∷ []) ∷ (W ∷ L ∷ W ∷ []) ∷ (W ∷ L ∷ L ∷ []) ∷ (W ∷ L ∷ V ∷ []) ∷ (W ∷ V ∷ W ∷ []) ∷ (W ∷ V ∷ L ∷ []) ∷ (W ∷ V ∷ V ∷ []) ∷ (L ∷ W ∷ W ∷ []) ∷ (L ∷ W ∷ L ∷ []) ∷ (L ∷ W ∷ V ∷ []) ∷ (L ∷ L ∷ W ∷ []) ∷ (L ∷ L ∷ L ∷ []) ∷ (L ∷ L ∷ V ∷ []) ∷ (L ∷ V ∷ W ∷ []) ∷ (L ∷ V ∷ L ∷ []) ∷ (L ∷ V ∷ V ∷ []) ∷ (V ∷ W ∷ W ∷ []) ∷ (V ∷ W ∷ L ∷ []) ∷ (V ∷ W ∷ V ∷ []) ∷ (V ∷ L ∷ W ∷ []) ∷ (V ∷ L ∷ L ∷ []) ∷ (V ∷ L ∷ V ∷ []) ∷ (V ∷ V ∷ W ∷ []) ∷ (V ∷ V ∷ L ∷ []) ∷ (V ∷ V ∷ V ∷ []) ∷ []) ≡ (false ∷ false ∷ false ∷ false ∷ false ∷ false ∷ false ∷ false ∷ false ∷ false ∷ false ∷ false ∷ true ∷ false ∷ false ∷ false ∷ false ∷ false ∷ false ∷ false ∷ false ∷ false ∷ false ∷ false ∷ false ∷ false ∷ false ∷ [])
eq_i64 = refl

ne_i64 : map (takes (Set 2 (Two (Compare I64 Ne) (Local 0) (Local 1))) None) ((W ∷ W ∷ W ∷ []) ∷ (W ∷ W ∷ L ∷ []) ∷ (W ∷ W ∷ V ∷ []) ∷ (W ∷ L ∷ W ∷ []) ∷ (W ∷ L ∷ L ∷ []) ∷ (W ∷ L ∷ V ∷ []) ∷ (W ∷ V ∷ W ∷ []) ∷ (W ∷ V ∷ L ∷ []) ∷ (W ∷ V ∷ V ∷ []) ∷ (L ∷ W ∷ W ∷ []) ∷ (L ∷ W ∷ L ∷ []) ∷ (L ∷ W ∷ V ∷ []) ∷ (L ∷ L ∷ W ∷ []) ∷ (L ∷ L ∷ L ∷ []) ∷ (L ∷ L ∷ V ∷ []) ∷ (L ∷ V ∷ W ∷ []) ∷ (L ∷ V ∷ L ∷ []) ∷ (L ∷ V ∷ V ∷ []) ∷ (V ∷ W ∷ W ∷ []) ∷ (V ∷ W ∷ L ∷ []) ∷ (V ∷ W ∷ V ∷ []) ∷ (V ∷ L ∷ W ∷ []) ∷ (V ∷ L ∷ L ∷ []) ∷ (V ∷ L ∷ V ∷ []) ∷ (V ∷ V ∷ W ∷ []) ∷ (V ∷ V ∷ L ∷ []) ∷ (V ∷ V ∷ V ∷ []) ∷ []) ≡ (false ∷ false ∷ false ∷ false ∷ false ∷ false ∷ false ∷ false ∷ false ∷ false ∷ false ∷ false ∷ true ∷ false ∷ false ∷ false ∷ false ∷ false ∷ false ∷ false ∷ false ∷ false ∷ false ∷ false ∷ false ∷ false ∷ false ∷ [])
ne_i64 = refl

lt_u_i64 : map (takes (Set 2 (Two (Compare I64 LtU) (Local 0) (Local 1))) None) ((W ∷ W ∷ W ∷ []) ∷ (W ∷ W ∷ L ∷ []) ∷ (W ∷ W ∷ V ∷ []) ∷ (W ∷ L ∷ W ∷ []) ∷ (W ∷ L ∷ L ∷ []) ∷ (W ∷ L ∷ V ∷ []) ∷ (W ∷ V ∷ W ∷ []) ∷ (W ∷ V ∷ L ∷ []) ∷ (W ∷ V ∷ V ∷ []) ∷ (L ∷ W ∷ W ∷ []) ∷ (L ∷ W ∷ L ∷ []) ∷ (L ∷ W ∷ V ∷ []) ∷ (L ∷ L ∷ W ∷ []) ∷ (L ∷ L ∷ L ∷ []) ∷ (L ∷ L ∷ V ∷ []) ∷ (L ∷ V ∷ W ∷ []) ∷ (L ∷ V ∷ L ∷ []) ∷ (L ∷ V ∷ V ∷ []) ∷ (V ∷ W ∷ W ∷ []) ∷ (V ∷ W ∷ L ∷ []) ∷ (V ∷ W ∷ V ∷ []) ∷ (V ∷ L ∷ W ∷ []) ∷ (V ∷ L ∷ L ∷ []) ∷ (V ∷ L ∷ V ∷ []) ∷ (V ∷ V ∷ W ∷ []) ∷ (V ∷ V ∷ L ∷ []) ∷ (V ∷ V ∷ V ∷ []) ∷ []) ≡ (false ∷ false ∷ false ∷ false ∷ false ∷ false ∷ false ∷ false ∷ false ∷ false ∷ false ∷ false ∷ true ∷ false ∷ false ∷ false ∷ false ∷ false ∷ false ∷ false ∷ false ∷ false ∷ false ∷ false ∷ false ∷ false ∷ false ∷ [])
lt_u_i64 = refl

lt_s_i64 : map (takes (Set 2 (Two (Compare I64 LtS) (Local 0) (Local 1))) None) ((W ∷ W ∷ W ∷ []) ∷ (W ∷ W ∷ L ∷ []) ∷ (W ∷ W ∷ V ∷ []) ∷ (W ∷ L ∷ W ∷ []) ∷ (W ∷ L ∷ L ∷ []) ∷ (W ∷ L ∷ V ∷ []) ∷ (W ∷ V ∷ W ∷ []) ∷ (W ∷ V ∷ L ∷ []) ∷ (W ∷ V ∷ V ∷ []) ∷ (L ∷ W ∷ W ∷ []) ∷ (L ∷ W ∷ L ∷ []) ∷ (L ∷ W ∷ V ∷ []) ∷ (L ∷ L ∷ W ∷ []) ∷ (L ∷ L ∷ L ∷ []) ∷ (L ∷ L ∷ V ∷ []) ∷ (L ∷ V ∷ W ∷ []) ∷ (L ∷ V ∷ L ∷ []) ∷ (L ∷ V ∷ V ∷ []) ∷ (V ∷ W ∷ W ∷ []) ∷ (V ∷ W ∷ L ∷ []) ∷ (V ∷ W ∷ V ∷ []) ∷ (V ∷ L ∷ W ∷ []) ∷ (V ∷ L ∷ L ∷ []) ∷ (V ∷ L ∷ V ∷ []) ∷ (V ∷ V ∷ W ∷ []) ∷ (V ∷ V ∷ L ∷ []) ∷ (V ∷ V ∷ V ∷ []) ∷ []) ≡ (false ∷ false ∷ false ∷ false ∷ false ∷ false ∷ false ∷ false ∷ false ∷ false ∷ false ∷ false ∷ true ∷ false ∷ false ∷ false ∷ false ∷ false ∷ false ∷ false ∷ false ∷ false ∷ false ∷ false ∷ false ∷ false ∷ false ∷ [])
lt_s_i64 = refl

div_u_i64 : map (takes (Divide I64 DivU 2 (Local 0) (Local 1)) None) ((W ∷ W ∷ W ∷ []) ∷ (W ∷ W ∷ L ∷ []) ∷ (W ∷ W ∷ V ∷ []) ∷ (W ∷ L ∷ W ∷ []) ∷ (W ∷ L ∷ L ∷ []) ∷ (W ∷ L ∷ V ∷ []) ∷ (W ∷ V ∷ W ∷ []) ∷ (W ∷ V ∷ L ∷ []) ∷ (W ∷ V ∷ V ∷ []) ∷ (L ∷ W ∷ W ∷ []) ∷ (L ∷ W ∷ L ∷ []) ∷ (L ∷ W ∷ V ∷ []) ∷ (L ∷ L ∷ W ∷ []) ∷ (L ∷ L ∷ L ∷ []) ∷ (L ∷ L ∷ V ∷ []) ∷ (L ∷ V ∷ W ∷ []) ∷ (L ∷ V ∷ L ∷ []) ∷ (L ∷ V ∷ V ∷ []) ∷ (V ∷ W ∷ W ∷ []) ∷ (V ∷ W ∷ L ∷ []) ∷ (V ∷ W ∷ V ∷ []) ∷ (V ∷ L ∷ W ∷ []) ∷ (V ∷ L ∷ L ∷ []) ∷ (V ∷ L ∷ V ∷ []) ∷ (V ∷ V ∷ W ∷ []) ∷ (V ∷ V ∷ L ∷ []) ∷ (V ∷ V ∷ V ∷ []) ∷ []) ≡ (false ∷ false ∷ false ∷ false ∷ false ∷ false ∷ false ∷ false ∷ false ∷ false ∷ false ∷ false ∷ false ∷ true ∷ false ∷ false ∷ false ∷ false ∷ false ∷ false ∷ false ∷ false ∷ false ∷ false ∷ false ∷ false ∷ false ∷ [])
div_u_i64 = refl

rem_u_i64 : map (takes (Divide I64 RemU 2 (Local 0) (Local 1)) None) ((W ∷ W ∷ W ∷ []) ∷ (W ∷ W ∷ L ∷ []) ∷ (W ∷ W ∷ V ∷ []) ∷ (W ∷ L ∷ W ∷ []) ∷ (W ∷ L ∷ L ∷ []) ∷ (W ∷ L ∷ V ∷ []) ∷ (W ∷ V ∷ W ∷ []) ∷ (W ∷ V ∷ L ∷ []) ∷ (W ∷ V ∷ V ∷ []) ∷ (L ∷ W ∷ W ∷ []) ∷ (L ∷ W ∷ L ∷ []) ∷ (L ∷ W ∷ V ∷ []) ∷ (L ∷ L ∷ W ∷ []) ∷ (L ∷ L ∷ L ∷ []) ∷ (L ∷ L ∷ V ∷ []) ∷ (L ∷ V ∷ W ∷ []) ∷ (L ∷ V ∷ L ∷ []) ∷ (L ∷ V ∷ V ∷ []) ∷ (V ∷ W ∷ W ∷ []) ∷ (V ∷ W ∷ L ∷ []) ∷ (V ∷ W ∷ V ∷ []) ∷ (V ∷ L ∷ W ∷ []) ∷ (V ∷ L ∷ L ∷ []) ∷ (V ∷ L ∷ V ∷ []) ∷ (V ∷ V ∷ W ∷ []) ∷ (V ∷ V ∷ L ∷ []) ∷ (V ∷ V ∷ V ∷ []) ∷ []) ≡ (false ∷ false ∷ false ∷ false ∷ false ∷ false ∷ false ∷ false ∷ false ∷ false ∷ false ∷ false ∷ false ∷ true ∷ false ∷ false ∷ false ∷ false ∷ false ∷ false ∷ false ∷ false ∷ false ∷ false ∷ false ∷ false ∷ false ∷ [])
rem_u_i64 = refl

eqz_i64 : map (takes (Set 1 (One (Eqz I64) (Local 0))) None) ((W ∷ W ∷ []) ∷ (W ∷ L ∷ []) ∷ (W ∷ V ∷ []) ∷ (L ∷ W ∷ []) ∷ (L ∷ L ∷ []) ∷ (L ∷ V ∷ []) ∷ (V ∷ W ∷ []) ∷ (V ∷ L ∷ []) ∷ (V ∷ V ∷ []) ∷ []) ≡ (false ∷ false ∷ false ∷ true ∷ false ∷ false ∷ false ∷ false ∷ false ∷ [])
eqz_i64 = refl

ctz_i64 : map (takes (Set 1 (One (Ctz I64) (Local 0))) None) ((W ∷ W ∷ []) ∷ (W ∷ L ∷ []) ∷ (W ∷ V ∷ []) ∷ (L ∷ W ∷ []) ∷ (L ∷ L ∷ []) ∷ (L ∷ V ∷ []) ∷ (V ∷ W ∷ []) ∷ (V ∷ L ∷ []) ∷ (V ∷ V ∷ []) ∷ []) ≡ (false ∷ false ∷ false ∷ false ∷ true ∷ false ∷ false ∷ false ∷ false ∷ [])
ctz_i64 = refl

wrap : map (takes (Set 1 (One Wrap (Local 0))) None) ((W ∷ W ∷ []) ∷ (W ∷ L ∷ []) ∷ (W ∷ V ∷ []) ∷ (L ∷ W ∷ []) ∷ (L ∷ L ∷ []) ∷ (L ∷ V ∷ []) ∷ (V ∷ W ∷ []) ∷ (V ∷ L ∷ []) ∷ (V ∷ V ∷ []) ∷ []) ≡ (false ∷ false ∷ false ∷ true ∷ false ∷ false ∷ false ∷ false ∷ false ∷ [])
wrap = refl

extendu : map (takes (Set 1 (One ExtendU (Local 0))) None) ((W ∷ W ∷ []) ∷ (W ∷ L ∷ []) ∷ (W ∷ V ∷ []) ∷ (L ∷ W ∷ []) ∷ (L ∷ L ∷ []) ∷ (L ∷ V ∷ []) ∷ (V ∷ W ∷ []) ∷ (V ∷ L ∷ []) ∷ (V ∷ V ∷ []) ∷ []) ≡ (false ∷ true ∷ false ∷ false ∷ false ∷ false ∷ false ∷ false ∷ false ∷ [])
extendu = refl

extends : map (takes (Set 1 (One ExtendS (Local 0))) None) ((W ∷ W ∷ []) ∷ (W ∷ L ∷ []) ∷ (W ∷ V ∷ []) ∷ (L ∷ W ∷ []) ∷ (L ∷ L ∷ []) ∷ (L ∷ V ∷ []) ∷ (V ∷ W ∷ []) ∷ (V ∷ L ∷ []) ∷ (V ∷ V ∷ []) ∷ []) ≡ (false ∷ true ∷ false ∷ false ∷ false ∷ false ∷ false ∷ false ∷ false ∷ [])
extends = refl

extend8s : map (takes (Set 1 (One Extend8S (Local 0))) None) ((W ∷ W ∷ []) ∷ (W ∷ L ∷ []) ∷ (W ∷ V ∷ []) ∷ (L ∷ W ∷ []) ∷ (L ∷ L ∷ []) ∷ (L ∷ V ∷ []) ∷ (V ∷ W ∷ []) ∷ (V ∷ L ∷ []) ∷ (V ∷ V ∷ []) ∷ []) ≡ (true ∷ false ∷ false ∷ false ∷ false ∷ false ∷ false ∷ false ∷ false ∷ [])
extend8s = refl

extend16s : map (takes (Set 1 (One Extend16S (Local 0))) None) ((W ∷ W ∷ []) ∷ (W ∷ L ∷ []) ∷ (W ∷ V ∷ []) ∷ (L ∷ W ∷ []) ∷ (L ∷ L ∷ []) ∷ (L ∷ V ∷ []) ∷ (V ∷ W ∷ []) ∷ (V ∷ L ∷ []) ∷ (V ∷ V ∷ []) ∷ []) ≡ (true ∷ false ∷ false ∷ false ∷ false ∷ false ∷ false ∷ false ∷ false ∷ [])
extend16s = refl

add_i8x16 : map (takes (Set 2 (Two (Lanes I8x16 Add) (Local 0) (Local 1))) None) ((W ∷ W ∷ W ∷ []) ∷ (W ∷ W ∷ L ∷ []) ∷ (W ∷ W ∷ V ∷ []) ∷ (W ∷ L ∷ W ∷ []) ∷ (W ∷ L ∷ L ∷ []) ∷ (W ∷ L ∷ V ∷ []) ∷ (W ∷ V ∷ W ∷ []) ∷ (W ∷ V ∷ L ∷ []) ∷ (W ∷ V ∷ V ∷ []) ∷ (L ∷ W ∷ W ∷ []) ∷ (L ∷ W ∷ L ∷ []) ∷ (L ∷ W ∷ V ∷ []) ∷ (L ∷ L ∷ W ∷ []) ∷ (L ∷ L ∷ L ∷ []) ∷ (L ∷ L ∷ V ∷ []) ∷ (L ∷ V ∷ W ∷ []) ∷ (L ∷ V ∷ L ∷ []) ∷ (L ∷ V ∷ V ∷ []) ∷ (V ∷ W ∷ W ∷ []) ∷ (V ∷ W ∷ L ∷ []) ∷ (V ∷ W ∷ V ∷ []) ∷ (V ∷ L ∷ W ∷ []) ∷ (V ∷ L ∷ L ∷ []) ∷ (V ∷ L ∷ V ∷ []) ∷ (V ∷ V ∷ W ∷ []) ∷ (V ∷ V ∷ L ∷ []) ∷ (V ∷ V ∷ V ∷ []) ∷ []) ≡ (false ∷ false ∷ false ∷ false ∷ false ∷ false ∷ false ∷ false ∷ false ∷ false ∷ false ∷ false ∷ false ∷ false ∷ false ∷ false ∷ false ∷ false ∷ false ∷ false ∷ false ∷ false ∷ false ∷ false ∷ false ∷ false ∷ true ∷ [])
add_i8x16 = refl

sub_i8x16 : map (takes (Set 2 (Two (Lanes I8x16 Sub) (Local 0) (Local 1))) None) ((W ∷ W ∷ W ∷ []) ∷ (W ∷ W ∷ L ∷ []) ∷ (W ∷ W ∷ V ∷ []) ∷ (W ∷ L ∷ W ∷ []) ∷ (W ∷ L ∷ L ∷ []) ∷ (W ∷ L ∷ V ∷ []) ∷ (W ∷ V ∷ W ∷ []) ∷ (W ∷ V ∷ L ∷ []) ∷ (W ∷ V ∷ V ∷ []) ∷ (L ∷ W ∷ W ∷ []) ∷ (L ∷ W ∷ L ∷ []) ∷ (L ∷ W ∷ V ∷ []) ∷ (L ∷ L ∷ W ∷ []) ∷ (L ∷ L ∷ L ∷ []) ∷ (L ∷ L ∷ V ∷ []) ∷ (L ∷ V ∷ W ∷ []) ∷ (L ∷ V ∷ L ∷ []) ∷ (L ∷ V ∷ V ∷ []) ∷ (V ∷ W ∷ W ∷ []) ∷ (V ∷ W ∷ L ∷ []) ∷ (V ∷ W ∷ V ∷ []) ∷ (V ∷ L ∷ W ∷ []) ∷ (V ∷ L ∷ L ∷ []) ∷ (V ∷ L ∷ V ∷ []) ∷ (V ∷ V ∷ W ∷ []) ∷ (V ∷ V ∷ L ∷ []) ∷ (V ∷ V ∷ V ∷ []) ∷ []) ≡ (false ∷ false ∷ false ∷ false ∷ false ∷ false ∷ false ∷ false ∷ false ∷ false ∷ false ∷ false ∷ false ∷ false ∷ false ∷ false ∷ false ∷ false ∷ false ∷ false ∷ false ∷ false ∷ false ∷ false ∷ false ∷ false ∷ true ∷ [])
sub_i8x16 = refl

eq_i8x16 : map (takes (Set 2 (Two (CompareLanes I8x16 Eq) (Local 0) (Local 1))) None) ((W ∷ W ∷ W ∷ []) ∷ (W ∷ W ∷ L ∷ []) ∷ (W ∷ W ∷ V ∷ []) ∷ (W ∷ L ∷ W ∷ []) ∷ (W ∷ L ∷ L ∷ []) ∷ (W ∷ L ∷ V ∷ []) ∷ (W ∷ V ∷ W ∷ []) ∷ (W ∷ V ∷ L ∷ []) ∷ (W ∷ V ∷ V ∷ []) ∷ (L ∷ W ∷ W ∷ []) ∷ (L ∷ W ∷ L ∷ []) ∷ (L ∷ W ∷ V ∷ []) ∷ (L ∷ L ∷ W ∷ []) ∷ (L ∷ L ∷ L ∷ []) ∷ (L ∷ L ∷ V ∷ []) ∷ (L ∷ V ∷ W ∷ []) ∷ (L ∷ V ∷ L ∷ []) ∷ (L ∷ V ∷ V ∷ []) ∷ (V ∷ W ∷ W ∷ []) ∷ (V ∷ W ∷ L ∷ []) ∷ (V ∷ W ∷ V ∷ []) ∷ (V ∷ L ∷ W ∷ []) ∷ (V ∷ L ∷ L ∷ []) ∷ (V ∷ L ∷ V ∷ []) ∷ (V ∷ V ∷ W ∷ []) ∷ (V ∷ V ∷ L ∷ []) ∷ (V ∷ V ∷ V ∷ []) ∷ []) ≡ (false ∷ false ∷ false ∷ false ∷ false ∷ false ∷ false ∷ false ∷ false ∷ false ∷ false ∷ false ∷ false ∷ false ∷ false ∷ false ∷ false ∷ false ∷ false ∷ false ∷ false ∷ false ∷ false ∷ false ∷ false ∷ false ∷ true ∷ [])
eq_i8x16 = refl

ne_i8x16 : map (takes (Set 2 (Two (CompareLanes I8x16 Ne) (Local 0) (Local 1))) None) ((W ∷ W ∷ W ∷ []) ∷ (W ∷ W ∷ L ∷ []) ∷ (W ∷ W ∷ V ∷ []) ∷ (W ∷ L ∷ W ∷ []) ∷ (W ∷ L ∷ L ∷ []) ∷ (W ∷ L ∷ V ∷ []) ∷ (W ∷ V ∷ W ∷ []) ∷ (W ∷ V ∷ L ∷ []) ∷ (W ∷ V ∷ V ∷ []) ∷ (L ∷ W ∷ W ∷ []) ∷ (L ∷ W ∷ L ∷ []) ∷ (L ∷ W ∷ V ∷ []) ∷ (L ∷ L ∷ W ∷ []) ∷ (L ∷ L ∷ L ∷ []) ∷ (L ∷ L ∷ V ∷ []) ∷ (L ∷ V ∷ W ∷ []) ∷ (L ∷ V ∷ L ∷ []) ∷ (L ∷ V ∷ V ∷ []) ∷ (V ∷ W ∷ W ∷ []) ∷ (V ∷ W ∷ L ∷ []) ∷ (V ∷ W ∷ V ∷ []) ∷ (V ∷ L ∷ W ∷ []) ∷ (V ∷ L ∷ L ∷ []) ∷ (V ∷ L ∷ V ∷ []) ∷ (V ∷ V ∷ W ∷ []) ∷ (V ∷ V ∷ L ∷ []) ∷ (V ∷ V ∷ V ∷ []) ∷ []) ≡ (false ∷ false ∷ false ∷ false ∷ false ∷ false ∷ false ∷ false ∷ false ∷ false ∷ false ∷ false ∷ false ∷ false ∷ false ∷ false ∷ false ∷ false ∷ false ∷ false ∷ false ∷ false ∷ false ∷ false ∷ false ∷ false ∷ true ∷ [])
ne_i8x16 = refl

lt_u_i8x16 : map (takes (Set 2 (Two (CompareLanes I8x16 LtU) (Local 0) (Local 1))) None) ((W ∷ W ∷ W ∷ []) ∷ (W ∷ W ∷ L ∷ []) ∷ (W ∷ W ∷ V ∷ []) ∷ (W ∷ L ∷ W ∷ []) ∷ (W ∷ L ∷ L ∷ []) ∷ (W ∷ L ∷ V ∷ []) ∷ (W ∷ V ∷ W ∷ []) ∷ (W ∷ V ∷ L ∷ []) ∷ (W ∷ V ∷ V ∷ []) ∷ (L ∷ W ∷ W ∷ []) ∷ (L ∷ W ∷ L ∷ []) ∷ (L ∷ W ∷ V ∷ []) ∷ (L ∷ L ∷ W ∷ []) ∷ (L ∷ L ∷ L ∷ []) ∷ (L ∷ L ∷ V ∷ []) ∷ (L ∷ V ∷ W ∷ []) ∷ (L ∷ V ∷ L ∷ []) ∷ (L ∷ V ∷ V ∷ []) ∷ (V ∷ W ∷ W ∷ []) ∷ (V ∷ W ∷ L ∷ []) ∷ (V ∷ W ∷ V ∷ []) ∷ (V ∷ L ∷ W ∷ []) ∷ (V ∷ L ∷ L ∷ []) ∷ (V ∷ L ∷ V ∷ []) ∷ (V ∷ V ∷ W ∷ []) ∷ (V ∷ V ∷ L ∷ []) ∷ (V ∷ V ∷ V ∷ []) ∷ []) ≡ (false ∷ false ∷ false ∷ false ∷ false ∷ false ∷ false ∷ false ∷ false ∷ false ∷ false ∷ false ∷ false ∷ false ∷ false ∷ false ∷ false ∷ false ∷ false ∷ false ∷ false ∷ false ∷ false ∷ false ∷ false ∷ false ∷ true ∷ [])
lt_u_i8x16 = refl

lt_s_i8x16 : map (takes (Set 2 (Two (CompareLanes I8x16 LtS) (Local 0) (Local 1))) None) ((W ∷ W ∷ W ∷ []) ∷ (W ∷ W ∷ L ∷ []) ∷ (W ∷ W ∷ V ∷ []) ∷ (W ∷ L ∷ W ∷ []) ∷ (W ∷ L ∷ L ∷ []) ∷ (W ∷ L ∷ V ∷ []) ∷ (W ∷ V ∷ W ∷ []) ∷ (W ∷ V ∷ L ∷ []) ∷ (W ∷ V ∷ V ∷ []) ∷ (L ∷ W ∷ W ∷ []) ∷ (L ∷ W ∷ L ∷ []) ∷ (L ∷ W ∷ V ∷ []) ∷ (L ∷ L ∷ W ∷ []) ∷ (L ∷ L ∷ L ∷ []) ∷ (L ∷ L ∷ V ∷ []) ∷ (L ∷ V ∷ W ∷ []) ∷ (L ∷ V ∷ L ∷ []) ∷ (L ∷ V ∷ V ∷ []) ∷ (V ∷ W ∷ W ∷ []) ∷ (V ∷ W ∷ L ∷ []) ∷ (V ∷ W ∷ V ∷ []) ∷ (V ∷ L ∷ W ∷ []) ∷ (V ∷ L ∷ L ∷ []) ∷ (V ∷ L ∷ V ∷ []) ∷ (V ∷ V ∷ W ∷ []) ∷ (V ∷ V ∷ L ∷ []) ∷ (V ∷ V ∷ V ∷ []) ∷ []) ≡ (false ∷ false ∷ false ∷ false ∷ false ∷ false ∷ false ∷ false ∷ false ∷ false ∷ false ∷ false ∷ false ∷ false ∷ false ∷ false ∷ false ∷ false ∷ false ∷ false ∷ false ∷ false ∷ false ∷ false ∷ false ∷ false ∷ true ∷ [])
lt_s_i8x16 = refl

shl_i8x16 : map (takes (Set 2 (Two (ShiftLanes I8x16 Shl) (Local 0) (Local 1))) None) ((W ∷ W ∷ W ∷ []) ∷ (W ∷ W ∷ L ∷ []) ∷ (W ∷ W ∷ V ∷ []) ∷ (W ∷ L ∷ W ∷ []) ∷ (W ∷ L ∷ L ∷ []) ∷ (W ∷ L ∷ V ∷ []) ∷ (W ∷ V ∷ W ∷ []) ∷ (W ∷ V ∷ L ∷ []) ∷ (W ∷ V ∷ V ∷ []) ∷ (L ∷ W ∷ W ∷ []) ∷ (L ∷ W ∷ L ∷ []) ∷ (L ∷ W ∷ V ∷ []) ∷ (L ∷ L ∷ W ∷ []) ∷ (L ∷ L ∷ L ∷ []) ∷ (L ∷ L ∷ V ∷ []) ∷ (L ∷ V ∷ W ∷ []) ∷ (L ∷ V ∷ L ∷ []) ∷ (L ∷ V ∷ V ∷ []) ∷ (V ∷ W ∷ W ∷ []) ∷ (V ∷ W ∷ L ∷ []) ∷ (V ∷ W ∷ V ∷ []) ∷ (V ∷ L ∷ W ∷ []) ∷ (V ∷ L ∷ L ∷ []) ∷ (V ∷ L ∷ V ∷ []) ∷ (V ∷ V ∷ W ∷ []) ∷ (V ∷ V ∷ L ∷ []) ∷ (V ∷ V ∷ V ∷ []) ∷ []) ≡ (false ∷ false ∷ false ∷ false ∷ false ∷ false ∷ false ∷ false ∷ false ∷ false ∷ false ∷ false ∷ false ∷ false ∷ false ∷ false ∷ false ∷ false ∷ false ∷ false ∷ true ∷ false ∷ false ∷ false ∷ false ∷ false ∷ false ∷ [])
shl_i8x16 = refl

shr_u_i8x16 : map (takes (Set 2 (Two (ShiftLanes I8x16 ShrU) (Local 0) (Local 1))) None) ((W ∷ W ∷ W ∷ []) ∷ (W ∷ W ∷ L ∷ []) ∷ (W ∷ W ∷ V ∷ []) ∷ (W ∷ L ∷ W ∷ []) ∷ (W ∷ L ∷ L ∷ []) ∷ (W ∷ L ∷ V ∷ []) ∷ (W ∷ V ∷ W ∷ []) ∷ (W ∷ V ∷ L ∷ []) ∷ (W ∷ V ∷ V ∷ []) ∷ (L ∷ W ∷ W ∷ []) ∷ (L ∷ W ∷ L ∷ []) ∷ (L ∷ W ∷ V ∷ []) ∷ (L ∷ L ∷ W ∷ []) ∷ (L ∷ L ∷ L ∷ []) ∷ (L ∷ L ∷ V ∷ []) ∷ (L ∷ V ∷ W ∷ []) ∷ (L ∷ V ∷ L ∷ []) ∷ (L ∷ V ∷ V ∷ []) ∷ (V ∷ W ∷ W ∷ []) ∷ (V ∷ W ∷ L ∷ []) ∷ (V ∷ W ∷ V ∷ []) ∷ (V ∷ L ∷ W ∷ []) ∷ (V ∷ L ∷ L ∷ []) ∷ (V ∷ L ∷ V ∷ []) ∷ (V ∷ V ∷ W ∷ []) ∷ (V ∷ V ∷ L ∷ []) ∷ (V ∷ V ∷ V ∷ []) ∷ []) ≡ (false ∷ false ∷ false ∷ false ∷ false ∷ false ∷ false ∷ false ∷ false ∷ false ∷ false ∷ false ∷ false ∷ false ∷ false ∷ false ∷ false ∷ false ∷ false ∷ false ∷ true ∷ false ∷ false ∷ false ∷ false ∷ false ∷ false ∷ [])
shr_u_i8x16 = refl

shr_s_i8x16 : map (takes (Set 2 (Two (ShiftLanes I8x16 ShrS) (Local 0) (Local 1))) None) ((W ∷ W ∷ W ∷ []) ∷ (W ∷ W ∷ L ∷ []) ∷ (W ∷ W ∷ V ∷ []) ∷ (W ∷ L ∷ W ∷ []) ∷ (W ∷ L ∷ L ∷ []) ∷ (W ∷ L ∷ V ∷ []) ∷ (W ∷ V ∷ W ∷ []) ∷ (W ∷ V ∷ L ∷ []) ∷ (W ∷ V ∷ V ∷ []) ∷ (L ∷ W ∷ W ∷ []) ∷ (L ∷ W ∷ L ∷ []) ∷ (L ∷ W ∷ V ∷ []) ∷ (L ∷ L ∷ W ∷ []) ∷ (L ∷ L ∷ L ∷ []) ∷ (L ∷ L ∷ V ∷ []) ∷ (L ∷ V ∷ W ∷ []) ∷ (L ∷ V ∷ L ∷ []) ∷ (L ∷ V ∷ V ∷ []) ∷ (V ∷ W ∷ W ∷ []) ∷ (V ∷ W ∷ L ∷ []) ∷ (V ∷ W ∷ V ∷ []) ∷ (V ∷ L ∷ W ∷ []) ∷ (V ∷ L ∷ L ∷ []) ∷ (V ∷ L ∷ V ∷ []) ∷ (V ∷ V ∷ W ∷ []) ∷ (V ∷ V ∷ L ∷ []) ∷ (V ∷ V ∷ V ∷ []) ∷ []) ≡ (false ∷ false ∷ false ∷ false ∷ false ∷ false ∷ false ∷ false ∷ false ∷ false ∷ false ∷ false ∷ false ∷ false ∷ false ∷ false ∷ false ∷ false ∷ false ∷ false ∷ true ∷ false ∷ false ∷ false ∷ false ∷ false ∷ false ∷ [])
shr_s_i8x16 = refl

splat_i8x16 : map (takes (Set 1 (One (Splat I8x16) (Local 0))) None) ((W ∷ W ∷ []) ∷ (W ∷ L ∷ []) ∷ (W ∷ V ∷ []) ∷ (L ∷ W ∷ []) ∷ (L ∷ L ∷ []) ∷ (L ∷ V ∷ []) ∷ (V ∷ W ∷ []) ∷ (V ∷ L ∷ []) ∷ (V ∷ V ∷ []) ∷ []) ≡ (false ∷ false ∷ true ∷ false ∷ false ∷ false ∷ false ∷ false ∷ false ∷ [])
splat_i8x16 = refl

extract_i8x16_0 : map (takes (Set 1 (One (Extract I8x16 0) (Local 0))) None) ((W ∷ W ∷ []) ∷ (W ∷ L ∷ []) ∷ (W ∷ V ∷ []) ∷ (L ∷ W ∷ []) ∷ (L ∷ L ∷ []) ∷ (L ∷ V ∷ []) ∷ (V ∷ W ∷ []) ∷ (V ∷ L ∷ []) ∷ (V ∷ V ∷ []) ∷ []) ≡ (false ∷ false ∷ false ∷ false ∷ false ∷ false ∷ true ∷ false ∷ false ∷ [])
extract_i8x16_0 = refl

replace_i8x16_0 : map (takes (Set 2 (Two (Replace I8x16 0) (Local 0) (Local 1))) None) ((W ∷ W ∷ W ∷ []) ∷ (W ∷ W ∷ L ∷ []) ∷ (W ∷ W ∷ V ∷ []) ∷ (W ∷ L ∷ W ∷ []) ∷ (W ∷ L ∷ L ∷ []) ∷ (W ∷ L ∷ V ∷ []) ∷ (W ∷ V ∷ W ∷ []) ∷ (W ∷ V ∷ L ∷ []) ∷ (W ∷ V ∷ V ∷ []) ∷ (L ∷ W ∷ W ∷ []) ∷ (L ∷ W ∷ L ∷ []) ∷ (L ∷ W ∷ V ∷ []) ∷ (L ∷ L ∷ W ∷ []) ∷ (L ∷ L ∷ L ∷ []) ∷ (L ∷ L ∷ V ∷ []) ∷ (L ∷ V ∷ W ∷ []) ∷ (L ∷ V ∷ L ∷ []) ∷ (L ∷ V ∷ V ∷ []) ∷ (V ∷ W ∷ W ∷ []) ∷ (V ∷ W ∷ L ∷ []) ∷ (V ∷ W ∷ V ∷ []) ∷ (V ∷ L ∷ W ∷ []) ∷ (V ∷ L ∷ L ∷ []) ∷ (V ∷ L ∷ V ∷ []) ∷ (V ∷ V ∷ W ∷ []) ∷ (V ∷ V ∷ L ∷ []) ∷ (V ∷ V ∷ V ∷ []) ∷ []) ≡ (false ∷ false ∷ false ∷ false ∷ false ∷ false ∷ false ∷ false ∷ false ∷ false ∷ false ∷ false ∷ false ∷ false ∷ false ∷ false ∷ false ∷ false ∷ false ∷ false ∷ true ∷ false ∷ false ∷ false ∷ false ∷ false ∷ false ∷ [])
replace_i8x16_0 = refl

extract_i8x16_15 : map (takes (Set 1 (One (Extract I8x16 15) (Local 0))) None) ((W ∷ W ∷ []) ∷ (W ∷ L ∷ []) ∷ (W ∷ V ∷ []) ∷ (L ∷ W ∷ []) ∷ (L ∷ L ∷ []) ∷ (L ∷ V ∷ []) ∷ (V ∷ W ∷ []) ∷ (V ∷ L ∷ []) ∷ (V ∷ V ∷ []) ∷ []) ≡ (false ∷ false ∷ false ∷ false ∷ false ∷ false ∷ true ∷ false ∷ false ∷ [])
extract_i8x16_15 = refl

replace_i8x16_15 : map (takes (Set 2 (Two (Replace I8x16 15) (Local 0) (Local 1))) None) ((W ∷ W ∷ W ∷ []) ∷ (W ∷ W ∷ L ∷ []) ∷ (W ∷ W ∷ V ∷ []) ∷ (W ∷ L ∷ W ∷ []) ∷ (W ∷ L ∷ L ∷ []) ∷ (W ∷ L ∷ V ∷ []) ∷ (W ∷ V ∷ W ∷ []) ∷ (W ∷ V ∷ L ∷ []) ∷ (W ∷ V ∷ V ∷ []) ∷ (L ∷ W ∷ W ∷ []) ∷ (L ∷ W ∷ L ∷ []) ∷ (L ∷ W ∷ V ∷ []) ∷ (L ∷ L ∷ W ∷ []) ∷ (L ∷ L ∷ L ∷ []) ∷ (L ∷ L ∷ V ∷ []) ∷ (L ∷ V ∷ W ∷ []) ∷ (L ∷ V ∷ L ∷ []) ∷ (L ∷ V ∷ V ∷ []) ∷ (V ∷ W ∷ W ∷ []) ∷ (V ∷ W ∷ L ∷ []) ∷ (V ∷ W ∷ V ∷ []) ∷ (V ∷ L ∷ W ∷ []) ∷ (V ∷ L ∷ L ∷ []) ∷ (V ∷ L ∷ V ∷ []) ∷ (V ∷ V ∷ W ∷ []) ∷ (V ∷ V ∷ L ∷ []) ∷ (V ∷ V ∷ V ∷ []) ∷ []) ≡ (false ∷ false ∷ false ∷ false ∷ false ∷ false ∷ false ∷ false ∷ false ∷ false ∷ false ∷ false ∷ false ∷ false ∷ false ∷ false ∷ false ∷ false ∷ false ∷ false ∷ true ∷ false ∷ false ∷ false ∷ false ∷ false ∷ false ∷ [])
replace_i8x16_15 = refl

add_i16x8 : map (takes (Set 2 (Two (Lanes I16x8 Add) (Local 0) (Local 1))) None) ((W ∷ W ∷ W ∷ []) ∷ (W ∷ W ∷ L ∷ []) ∷ (W ∷ W ∷ V ∷ []) ∷ (W ∷ L ∷ W ∷ []) ∷ (W ∷ L ∷ L ∷ []) ∷ (W ∷ L ∷ V ∷ []) ∷ (W ∷ V ∷ W ∷ []) ∷ (W ∷ V ∷ L ∷ []) ∷ (W ∷ V ∷ V ∷ []) ∷ (L ∷ W ∷ W ∷ []) ∷ (L ∷ W ∷ L ∷ []) ∷ (L ∷ W ∷ V ∷ []) ∷ (L ∷ L ∷ W ∷ []) ∷ (L ∷ L ∷ L ∷ []) ∷ (L ∷ L ∷ V ∷ []) ∷ (L ∷ V ∷ W ∷ []) ∷ (L ∷ V ∷ L ∷ []) ∷ (L ∷ V ∷ V ∷ []) ∷ (V ∷ W ∷ W ∷ []) ∷ (V ∷ W ∷ L ∷ []) ∷ (V ∷ W ∷ V ∷ []) ∷ (V ∷ L ∷ W ∷ []) ∷ (V ∷ L ∷ L ∷ []) ∷ (V ∷ L ∷ V ∷ []) ∷ (V ∷ V ∷ W ∷ []) ∷ (V ∷ V ∷ L ∷ []) ∷ (V ∷ V ∷ V ∷ []) ∷ []) ≡ (false ∷ false ∷ false ∷ false ∷ false ∷ false ∷ false ∷ false ∷ false ∷ false ∷ false ∷ false ∷ false ∷ false ∷ false ∷ false ∷ false ∷ false ∷ false ∷ false ∷ false ∷ false ∷ false ∷ false ∷ false ∷ false ∷ true ∷ [])
add_i16x8 = refl

sub_i16x8 : map (takes (Set 2 (Two (Lanes I16x8 Sub) (Local 0) (Local 1))) None) ((W ∷ W ∷ W ∷ []) ∷ (W ∷ W ∷ L ∷ []) ∷ (W ∷ W ∷ V ∷ []) ∷ (W ∷ L ∷ W ∷ []) ∷ (W ∷ L ∷ L ∷ []) ∷ (W ∷ L ∷ V ∷ []) ∷ (W ∷ V ∷ W ∷ []) ∷ (W ∷ V ∷ L ∷ []) ∷ (W ∷ V ∷ V ∷ []) ∷ (L ∷ W ∷ W ∷ []) ∷ (L ∷ W ∷ L ∷ []) ∷ (L ∷ W ∷ V ∷ []) ∷ (L ∷ L ∷ W ∷ []) ∷ (L ∷ L ∷ L ∷ []) ∷ (L ∷ L ∷ V ∷ []) ∷ (L ∷ V ∷ W ∷ []) ∷ (L ∷ V ∷ L ∷ []) ∷ (L ∷ V ∷ V ∷ []) ∷ (V ∷ W ∷ W ∷ []) ∷ (V ∷ W ∷ L ∷ []) ∷ (V ∷ W ∷ V ∷ []) ∷ (V ∷ L ∷ W ∷ []) ∷ (V ∷ L ∷ L ∷ []) ∷ (V ∷ L ∷ V ∷ []) ∷ (V ∷ V ∷ W ∷ []) ∷ (V ∷ V ∷ L ∷ []) ∷ (V ∷ V ∷ V ∷ []) ∷ []) ≡ (false ∷ false ∷ false ∷ false ∷ false ∷ false ∷ false ∷ false ∷ false ∷ false ∷ false ∷ false ∷ false ∷ false ∷ false ∷ false ∷ false ∷ false ∷ false ∷ false ∷ false ∷ false ∷ false ∷ false ∷ false ∷ false ∷ true ∷ [])
sub_i16x8 = refl

mul_i16x8 : map (takes (Set 2 (Two (Lanes I16x8 Mul) (Local 0) (Local 1))) None) ((W ∷ W ∷ W ∷ []) ∷ (W ∷ W ∷ L ∷ []) ∷ (W ∷ W ∷ V ∷ []) ∷ (W ∷ L ∷ W ∷ []) ∷ (W ∷ L ∷ L ∷ []) ∷ (W ∷ L ∷ V ∷ []) ∷ (W ∷ V ∷ W ∷ []) ∷ (W ∷ V ∷ L ∷ []) ∷ (W ∷ V ∷ V ∷ []) ∷ (L ∷ W ∷ W ∷ []) ∷ (L ∷ W ∷ L ∷ []) ∷ (L ∷ W ∷ V ∷ []) ∷ (L ∷ L ∷ W ∷ []) ∷ (L ∷ L ∷ L ∷ []) ∷ (L ∷ L ∷ V ∷ []) ∷ (L ∷ V ∷ W ∷ []) ∷ (L ∷ V ∷ L ∷ []) ∷ (L ∷ V ∷ V ∷ []) ∷ (V ∷ W ∷ W ∷ []) ∷ (V ∷ W ∷ L ∷ []) ∷ (V ∷ W ∷ V ∷ []) ∷ (V ∷ L ∷ W ∷ []) ∷ (V ∷ L ∷ L ∷ []) ∷ (V ∷ L ∷ V ∷ []) ∷ (V ∷ V ∷ W ∷ []) ∷ (V ∷ V ∷ L ∷ []) ∷ (V ∷ V ∷ V ∷ []) ∷ []) ≡ (false ∷ false ∷ false ∷ false ∷ false ∷ false ∷ false ∷ false ∷ false ∷ false ∷ false ∷ false ∷ false ∷ false ∷ false ∷ false ∷ false ∷ false ∷ false ∷ false ∷ false ∷ false ∷ false ∷ false ∷ false ∷ false ∷ true ∷ [])
mul_i16x8 = refl

eq_i16x8 : map (takes (Set 2 (Two (CompareLanes I16x8 Eq) (Local 0) (Local 1))) None) ((W ∷ W ∷ W ∷ []) ∷ (W ∷ W ∷ L ∷ []) ∷ (W ∷ W ∷ V ∷ []) ∷ (W ∷ L ∷ W ∷ []) ∷ (W ∷ L ∷ L ∷ []) ∷ (W ∷ L ∷ V ∷ []) ∷ (W ∷ V ∷ W ∷ []) ∷ (W ∷ V ∷ L ∷ []) ∷ (W ∷ V ∷ V ∷ []) ∷ (L ∷ W ∷ W ∷ []) ∷ (L ∷ W ∷ L ∷ []) ∷ (L ∷ W ∷ V ∷ []) ∷ (L ∷ L ∷ W ∷ []) ∷ (L ∷ L ∷ L ∷ []) ∷ (L ∷ L ∷ V ∷ []) ∷ (L ∷ V ∷ W ∷ []) ∷ (L ∷ V ∷ L ∷ []) ∷ (L ∷ V ∷ V ∷ []) ∷ (V ∷ W ∷ W ∷ []) ∷ (V ∷ W ∷ L ∷ []) ∷ (V ∷ W ∷ V ∷ []) ∷ (V ∷ L ∷ W ∷ []) ∷ (V ∷ L ∷ L ∷ []) ∷ (V ∷ L ∷ V ∷ []) ∷ (V ∷ V ∷ W ∷ []) ∷ (V ∷ V ∷ L ∷ []) ∷ (V ∷ V ∷ V ∷ []) ∷ []) ≡ (false ∷ false ∷ false ∷ false ∷ false ∷ false ∷ false ∷ false ∷ false ∷ false ∷ false ∷ false ∷ false ∷ false ∷ false ∷ false ∷ false ∷ false ∷ false ∷ false ∷ false ∷ false ∷ false ∷ false ∷ false ∷ false ∷ true ∷ [])
eq_i16x8 = refl

ne_i16x8 : map (takes (Set 2 (Two (CompareLanes I16x8 Ne) (Local 0) (Local 1))) None) ((W ∷ W ∷ W ∷ []) ∷ (W ∷ W ∷ L ∷ []) ∷ (W ∷ W ∷ V ∷ []) ∷ (W ∷ L ∷ W ∷ []) ∷ (W ∷ L ∷ L ∷ []) ∷ (W ∷ L ∷ V ∷ []) ∷ (W ∷ V ∷ W ∷ []) ∷ (W ∷ V ∷ L ∷ []) ∷ (W ∷ V ∷ V ∷ []) ∷ (L ∷ W ∷ W ∷ []) ∷ (L ∷ W ∷ L ∷ []) ∷ (L ∷ W ∷ V ∷ []) ∷ (L ∷ L ∷ W ∷ []) ∷ (L ∷ L ∷ L ∷ []) ∷ (L ∷ L ∷ V ∷ []) ∷ (L ∷ V ∷ W ∷ []) ∷ (L ∷ V ∷ L ∷ []) ∷ (L ∷ V ∷ V ∷ []) ∷ (V ∷ W ∷ W ∷ []) ∷ (V ∷ W ∷ L ∷ []) ∷ (V ∷ W ∷ V ∷ []) ∷ (V ∷ L ∷ W ∷ []) ∷ (V ∷ L ∷ L ∷ []) ∷ (V ∷ L ∷ V ∷ []) ∷ (V ∷ V ∷ W ∷ []) ∷ (V ∷ V ∷ L ∷ []) ∷ (V ∷ V ∷ V ∷ []) ∷ []) ≡ (false ∷ false ∷ false ∷ false ∷ false ∷ false ∷ false ∷ false ∷ false ∷ false ∷ false ∷ false ∷ false ∷ false ∷ false ∷ false ∷ false ∷ false ∷ false ∷ false ∷ false ∷ false ∷ false ∷ false ∷ false ∷ false ∷ true ∷ [])
ne_i16x8 = refl

lt_u_i16x8 : map (takes (Set 2 (Two (CompareLanes I16x8 LtU) (Local 0) (Local 1))) None) ((W ∷ W ∷ W ∷ []) ∷ (W ∷ W ∷ L ∷ []) ∷ (W ∷ W ∷ V ∷ []) ∷ (W ∷ L ∷ W ∷ []) ∷ (W ∷ L ∷ L ∷ []) ∷ (W ∷ L ∷ V ∷ []) ∷ (W ∷ V ∷ W ∷ []) ∷ (W ∷ V ∷ L ∷ []) ∷ (W ∷ V ∷ V ∷ []) ∷ (L ∷ W ∷ W ∷ []) ∷ (L ∷ W ∷ L ∷ []) ∷ (L ∷ W ∷ V ∷ []) ∷ (L ∷ L ∷ W ∷ []) ∷ (L ∷ L ∷ L ∷ []) ∷ (L ∷ L ∷ V ∷ []) ∷ (L ∷ V ∷ W ∷ []) ∷ (L ∷ V ∷ L ∷ []) ∷ (L ∷ V ∷ V ∷ []) ∷ (V ∷ W ∷ W ∷ []) ∷ (V ∷ W ∷ L ∷ []) ∷ (V ∷ W ∷ V ∷ []) ∷ (V ∷ L ∷ W ∷ []) ∷ (V ∷ L ∷ L ∷ []) ∷ (V ∷ L ∷ V ∷ []) ∷ (V ∷ V ∷ W ∷ []) ∷ (V ∷ V ∷ L ∷ []) ∷ (V ∷ V ∷ V ∷ []) ∷ []) ≡ (false ∷ false ∷ false ∷ false ∷ false ∷ false ∷ false ∷ false ∷ false ∷ false ∷ false ∷ false ∷ false ∷ false ∷ false ∷ false ∷ false ∷ false ∷ false ∷ false ∷ false ∷ false ∷ false ∷ false ∷ false ∷ false ∷ true ∷ [])
lt_u_i16x8 = refl

lt_s_i16x8 : map (takes (Set 2 (Two (CompareLanes I16x8 LtS) (Local 0) (Local 1))) None) ((W ∷ W ∷ W ∷ []) ∷ (W ∷ W ∷ L ∷ []) ∷ (W ∷ W ∷ V ∷ []) ∷ (W ∷ L ∷ W ∷ []) ∷ (W ∷ L ∷ L ∷ []) ∷ (W ∷ L ∷ V ∷ []) ∷ (W ∷ V ∷ W ∷ []) ∷ (W ∷ V ∷ L ∷ []) ∷ (W ∷ V ∷ V ∷ []) ∷ (L ∷ W ∷ W ∷ []) ∷ (L ∷ W ∷ L ∷ []) ∷ (L ∷ W ∷ V ∷ []) ∷ (L ∷ L ∷ W ∷ []) ∷ (L ∷ L ∷ L ∷ []) ∷ (L ∷ L ∷ V ∷ []) ∷ (L ∷ V ∷ W ∷ []) ∷ (L ∷ V ∷ L ∷ []) ∷ (L ∷ V ∷ V ∷ []) ∷ (V ∷ W ∷ W ∷ []) ∷ (V ∷ W ∷ L ∷ []) ∷ (V ∷ W ∷ V ∷ []) ∷ (V ∷ L ∷ W ∷ []) ∷ (V ∷ L ∷ L ∷ []) ∷ (V ∷ L ∷ V ∷ []) ∷ (V ∷ V ∷ W ∷ []) ∷ (V ∷ V ∷ L ∷ []) ∷ (V ∷ V ∷ V ∷ []) ∷ []) ≡ (false ∷ false ∷ false ∷ false ∷ false ∷ false ∷ false ∷ false ∷ false ∷ false ∷ false ∷ false ∷ false ∷ false ∷ false ∷ false ∷ false ∷ false ∷ false ∷ false ∷ false ∷ false ∷ false ∷ false ∷ false ∷ false ∷ true ∷ [])
lt_s_i16x8 = refl

shl_i16x8 : map (takes (Set 2 (Two (ShiftLanes I16x8 Shl) (Local 0) (Local 1))) None) ((W ∷ W ∷ W ∷ []) ∷ (W ∷ W ∷ L ∷ []) ∷ (W ∷ W ∷ V ∷ []) ∷ (W ∷ L ∷ W ∷ []) ∷ (W ∷ L ∷ L ∷ []) ∷ (W ∷ L ∷ V ∷ []) ∷ (W ∷ V ∷ W ∷ []) ∷ (W ∷ V ∷ L ∷ []) ∷ (W ∷ V ∷ V ∷ []) ∷ (L ∷ W ∷ W ∷ []) ∷ (L ∷ W ∷ L ∷ []) ∷ (L ∷ W ∷ V ∷ []) ∷ (L ∷ L ∷ W ∷ []) ∷ (L ∷ L ∷ L ∷ []) ∷ (L ∷ L ∷ V ∷ []) ∷ (L ∷ V ∷ W ∷ []) ∷ (L ∷ V ∷ L ∷ []) ∷ (L ∷ V ∷ V ∷ []) ∷ (V ∷ W ∷ W ∷ []) ∷ (V ∷ W ∷ L ∷ []) ∷ (V ∷ W ∷ V ∷ []) ∷ (V ∷ L ∷ W ∷ []) ∷ (V ∷ L ∷ L ∷ []) ∷ (V ∷ L ∷ V ∷ []) ∷ (V ∷ V ∷ W ∷ []) ∷ (V ∷ V ∷ L ∷ []) ∷ (V ∷ V ∷ V ∷ []) ∷ []) ≡ (false ∷ false ∷ false ∷ false ∷ false ∷ false ∷ false ∷ false ∷ false ∷ false ∷ false ∷ false ∷ false ∷ false ∷ false ∷ false ∷ false ∷ false ∷ false ∷ false ∷ true ∷ false ∷ false ∷ false ∷ false ∷ false ∷ false ∷ [])
shl_i16x8 = refl

shr_u_i16x8 : map (takes (Set 2 (Two (ShiftLanes I16x8 ShrU) (Local 0) (Local 1))) None) ((W ∷ W ∷ W ∷ []) ∷ (W ∷ W ∷ L ∷ []) ∷ (W ∷ W ∷ V ∷ []) ∷ (W ∷ L ∷ W ∷ []) ∷ (W ∷ L ∷ L ∷ []) ∷ (W ∷ L ∷ V ∷ []) ∷ (W ∷ V ∷ W ∷ []) ∷ (W ∷ V ∷ L ∷ []) ∷ (W ∷ V ∷ V ∷ []) ∷ (L ∷ W ∷ W ∷ []) ∷ (L ∷ W ∷ L ∷ []) ∷ (L ∷ W ∷ V ∷ []) ∷ (L ∷ L ∷ W ∷ []) ∷ (L ∷ L ∷ L ∷ []) ∷ (L ∷ L ∷ V ∷ []) ∷ (L ∷ V ∷ W ∷ []) ∷ (L ∷ V ∷ L ∷ []) ∷ (L ∷ V ∷ V ∷ []) ∷ (V ∷ W ∷ W ∷ []) ∷ (V ∷ W ∷ L ∷ []) ∷ (V ∷ W ∷ V ∷ []) ∷ (V ∷ L ∷ W ∷ []) ∷ (V ∷ L ∷ L ∷ []) ∷ (V ∷ L ∷ V ∷ []) ∷ (V ∷ V ∷ W ∷ []) ∷ (V ∷ V ∷ L ∷ []) ∷ (V ∷ V ∷ V ∷ []) ∷ []) ≡ (false ∷ false ∷ false ∷ false ∷ false ∷ false ∷ false ∷ false ∷ false ∷ false ∷ false ∷ false ∷ false ∷ false ∷ false ∷ false ∷ false ∷ false ∷ false ∷ false ∷ true ∷ false ∷ false ∷ false ∷ false ∷ false ∷ false ∷ [])
shr_u_i16x8 = refl

shr_s_i16x8 : map (takes (Set 2 (Two (ShiftLanes I16x8 ShrS) (Local 0) (Local 1))) None) ((W ∷ W ∷ W ∷ []) ∷ (W ∷ W ∷ L ∷ []) ∷ (W ∷ W ∷ V ∷ []) ∷ (W ∷ L ∷ W ∷ []) ∷ (W ∷ L ∷ L ∷ []) ∷ (W ∷ L ∷ V ∷ []) ∷ (W ∷ V ∷ W ∷ []) ∷ (W ∷ V ∷ L ∷ []) ∷ (W ∷ V ∷ V ∷ []) ∷ (L ∷ W ∷ W ∷ []) ∷ (L ∷ W ∷ L ∷ []) ∷ (L ∷ W ∷ V ∷ []) ∷ (L ∷ L ∷ W ∷ []) ∷ (L ∷ L ∷ L ∷ []) ∷ (L ∷ L ∷ V ∷ []) ∷ (L ∷ V ∷ W ∷ []) ∷ (L ∷ V ∷ L ∷ []) ∷ (L ∷ V ∷ V ∷ []) ∷ (V ∷ W ∷ W ∷ []) ∷ (V ∷ W ∷ L ∷ []) ∷ (V ∷ W ∷ V ∷ []) ∷ (V ∷ L ∷ W ∷ []) ∷ (V ∷ L ∷ L ∷ []) ∷ (V ∷ L ∷ V ∷ []) ∷ (V ∷ V ∷ W ∷ []) ∷ (V ∷ V ∷ L ∷ []) ∷ (V ∷ V ∷ V ∷ []) ∷ []) ≡ (false ∷ false ∷ false ∷ false ∷ false ∷ false ∷ false ∷ false ∷ false ∷ false ∷ false ∷ false ∷ false ∷ false ∷ false ∷ false ∷ false ∷ false ∷ false ∷ false ∷ true ∷ false ∷ false ∷ false ∷ false ∷ false ∷ false ∷ [])
shr_s_i16x8 = refl

splat_i16x8 : map (takes (Set 1 (One (Splat I16x8) (Local 0))) None) ((W ∷ W ∷ []) ∷ (W ∷ L ∷ []) ∷ (W ∷ V ∷ []) ∷ (L ∷ W ∷ []) ∷ (L ∷ L ∷ []) ∷ (L ∷ V ∷ []) ∷ (V ∷ W ∷ []) ∷ (V ∷ L ∷ []) ∷ (V ∷ V ∷ []) ∷ []) ≡ (false ∷ false ∷ true ∷ false ∷ false ∷ false ∷ false ∷ false ∷ false ∷ [])
splat_i16x8 = refl

extract_i16x8_0 : map (takes (Set 1 (One (Extract I16x8 0) (Local 0))) None) ((W ∷ W ∷ []) ∷ (W ∷ L ∷ []) ∷ (W ∷ V ∷ []) ∷ (L ∷ W ∷ []) ∷ (L ∷ L ∷ []) ∷ (L ∷ V ∷ []) ∷ (V ∷ W ∷ []) ∷ (V ∷ L ∷ []) ∷ (V ∷ V ∷ []) ∷ []) ≡ (false ∷ false ∷ false ∷ false ∷ false ∷ false ∷ true ∷ false ∷ false ∷ [])
extract_i16x8_0 = refl

replace_i16x8_0 : map (takes (Set 2 (Two (Replace I16x8 0) (Local 0) (Local 1))) None) ((W ∷ W ∷ W ∷ []) ∷ (W ∷ W ∷ L ∷ []) ∷ (W ∷ W ∷ V ∷ []) ∷ (W ∷ L ∷ W ∷ []) ∷ (W ∷ L ∷ L ∷ []) ∷ (W ∷ L ∷ V ∷ []) ∷ (W ∷ V ∷ W ∷ []) ∷ (W ∷ V ∷ L ∷ []) ∷ (W ∷ V ∷ V ∷ []) ∷ (L ∷ W ∷ W ∷ []) ∷ (L ∷ W ∷ L ∷ []) ∷ (L ∷ W ∷ V ∷ []) ∷ (L ∷ L ∷ W ∷ []) ∷ (L ∷ L ∷ L ∷ []) ∷ (L ∷ L ∷ V ∷ []) ∷ (L ∷ V ∷ W ∷ []) ∷ (L ∷ V ∷ L ∷ []) ∷ (L ∷ V ∷ V ∷ []) ∷ (V ∷ W ∷ W ∷ []) ∷ (V ∷ W ∷ L ∷ []) ∷ (V ∷ W ∷ V ∷ []) ∷ (V ∷ L ∷ W ∷ []) ∷ (V ∷ L ∷ L ∷ []) ∷ (V ∷ L ∷ V ∷ []) ∷ (V ∷ V ∷ W ∷ []) ∷ (V ∷ V ∷ L ∷ []) ∷ (V ∷ V ∷ V ∷ []) ∷ []) ≡ (false ∷ false ∷ false ∷ false ∷ false ∷ false ∷ false ∷ false ∷ false ∷ false ∷ false ∷ false ∷ false ∷ false ∷ false ∷ false ∷ false ∷ false ∷ false ∷ false ∷ true ∷ false ∷ false ∷ false ∷ false ∷ false ∷ false ∷ [])
replace_i16x8_0 = refl

extract_i16x8_7 : map (takes (Set 1 (One (Extract I16x8 7) (Local 0))) None) ((W ∷ W ∷ []) ∷ (W ∷ L ∷ []) ∷ (W ∷ V ∷ []) ∷ (L ∷ W ∷ []) ∷ (L ∷ L ∷ []) ∷ (L ∷ V ∷ []) ∷ (V ∷ W ∷ []) ∷ (V ∷ L ∷ []) ∷ (V ∷ V ∷ []) ∷ []) ≡ (false ∷ false ∷ false ∷ false ∷ false ∷ false ∷ true ∷ false ∷ false ∷ [])
extract_i16x8_7 = refl

replace_i16x8_7 : map (takes (Set 2 (Two (Replace I16x8 7) (Local 0) (Local 1))) None) ((W ∷ W ∷ W ∷ []) ∷ (W ∷ W ∷ L ∷ []) ∷ (W ∷ W ∷ V ∷ []) ∷ (W ∷ L ∷ W ∷ []) ∷ (W ∷ L ∷ L ∷ []) ∷ (W ∷ L ∷ V ∷ []) ∷ (W ∷ V ∷ W ∷ []) ∷ (W ∷ V ∷ L ∷ []) ∷ (W ∷ V ∷ V ∷ []) ∷ (L ∷ W ∷ W ∷ []) ∷ (L ∷ W ∷ L ∷ []) ∷ (L ∷ W ∷ V ∷ []) ∷ (L ∷ L ∷ W ∷ []) ∷ (L ∷ L ∷ L ∷ []) ∷ (L ∷ L ∷ V ∷ []) ∷ (L ∷ V ∷ W ∷ []) ∷ (L ∷ V ∷ L ∷ []) ∷ (L ∷ V ∷ V ∷ []) ∷ (V ∷ W ∷ W ∷ []) ∷ (V ∷ W ∷ L ∷ []) ∷ (V ∷ W ∷ V ∷ []) ∷ (V ∷ L ∷ W ∷ []) ∷ (V ∷ L ∷ L ∷ []) ∷ (V ∷ L ∷ V ∷ []) ∷ (V ∷ V ∷ W ∷ []) ∷ (V ∷ V ∷ L ∷ []) ∷ (V ∷ V ∷ V ∷ []) ∷ []) ≡ (false ∷ false ∷ false ∷ false ∷ false ∷ false ∷ false ∷ false ∷ false ∷ false ∷ false ∷ false ∷ false ∷ false ∷ false ∷ false ∷ false ∷ false ∷ false ∷ false ∷ true ∷ false ∷ false ∷ false ∷ false ∷ false ∷ false ∷ [])
replace_i16x8_7 = refl

extend_low_i16x8 : map (takes (Set 1 (One (ExtendLow I16x8) (Local 0))) None) ((W ∷ W ∷ []) ∷ (W ∷ L ∷ []) ∷ (W ∷ V ∷ []) ∷ (L ∷ W ∷ []) ∷ (L ∷ L ∷ []) ∷ (L ∷ V ∷ []) ∷ (V ∷ W ∷ []) ∷ (V ∷ L ∷ []) ∷ (V ∷ V ∷ []) ∷ []) ≡ (false ∷ false ∷ false ∷ false ∷ false ∷ false ∷ false ∷ false ∷ true ∷ [])
extend_low_i16x8 = refl

extend_high_i16x8 : map (takes (Set 1 (One (ExtendHigh I16x8) (Local 0))) None) ((W ∷ W ∷ []) ∷ (W ∷ L ∷ []) ∷ (W ∷ V ∷ []) ∷ (L ∷ W ∷ []) ∷ (L ∷ L ∷ []) ∷ (L ∷ V ∷ []) ∷ (V ∷ W ∷ []) ∷ (V ∷ L ∷ []) ∷ (V ∷ V ∷ []) ∷ []) ≡ (false ∷ false ∷ false ∷ false ∷ false ∷ false ∷ false ∷ false ∷ true ∷ [])
extend_high_i16x8 = refl

evens_i16x8 : map (takes (Set 2 (Two (Shuffle (evens I16x8)) (Local 0) (Local 1))) None) ((W ∷ W ∷ W ∷ []) ∷ (W ∷ W ∷ L ∷ []) ∷ (W ∷ W ∷ V ∷ []) ∷ (W ∷ L ∷ W ∷ []) ∷ (W ∷ L ∷ L ∷ []) ∷ (W ∷ L ∷ V ∷ []) ∷ (W ∷ V ∷ W ∷ []) ∷ (W ∷ V ∷ L ∷ []) ∷ (W ∷ V ∷ V ∷ []) ∷ (L ∷ W ∷ W ∷ []) ∷ (L ∷ W ∷ L ∷ []) ∷ (L ∷ W ∷ V ∷ []) ∷ (L ∷ L ∷ W ∷ []) ∷ (L ∷ L ∷ L ∷ []) ∷ (L ∷ L ∷ V ∷ []) ∷ (L ∷ V ∷ W ∷ []) ∷ (L ∷ V ∷ L ∷ []) ∷ (L ∷ V ∷ V ∷ []) ∷ (V ∷ W ∷ W ∷ []) ∷ (V ∷ W ∷ L ∷ []) ∷ (V ∷ W ∷ V ∷ []) ∷ (V ∷ L ∷ W ∷ []) ∷ (V ∷ L ∷ L ∷ []) ∷ (V ∷ L ∷ V ∷ []) ∷ (V ∷ V ∷ W ∷ []) ∷ (V ∷ V ∷ L ∷ []) ∷ (V ∷ V ∷ V ∷ []) ∷ []) ≡ (false ∷ false ∷ false ∷ false ∷ false ∷ false ∷ false ∷ false ∷ false ∷ false ∷ false ∷ false ∷ false ∷ false ∷ false ∷ false ∷ false ∷ false ∷ false ∷ false ∷ false ∷ false ∷ false ∷ false ∷ false ∷ false ∷ true ∷ [])
evens_i16x8 = refl

add_i32x4 : map (takes (Set 2 (Two (Lanes I32x4 Add) (Local 0) (Local 1))) None) ((W ∷ W ∷ W ∷ []) ∷ (W ∷ W ∷ L ∷ []) ∷ (W ∷ W ∷ V ∷ []) ∷ (W ∷ L ∷ W ∷ []) ∷ (W ∷ L ∷ L ∷ []) ∷ (W ∷ L ∷ V ∷ []) ∷ (W ∷ V ∷ W ∷ []) ∷ (W ∷ V ∷ L ∷ []) ∷ (W ∷ V ∷ V ∷ []) ∷ (L ∷ W ∷ W ∷ []) ∷ (L ∷ W ∷ L ∷ []) ∷ (L ∷ W ∷ V ∷ []) ∷ (L ∷ L ∷ W ∷ []) ∷ (L ∷ L ∷ L ∷ []) ∷ (L ∷ L ∷ V ∷ []) ∷ (L ∷ V ∷ W ∷ []) ∷ (L ∷ V ∷ L ∷ []) ∷ (L ∷ V ∷ V ∷ []) ∷ (V ∷ W ∷ W ∷ []) ∷ (V ∷ W ∷ L ∷ []) ∷ (V ∷ W ∷ V ∷ []) ∷ (V ∷ L ∷ W ∷ []) ∷ (V ∷ L ∷ L ∷ []) ∷ (V ∷ L ∷ V ∷ []) ∷ (V ∷ V ∷ W ∷ []) ∷ (V ∷ V ∷ L ∷ []) ∷ (V ∷ V ∷ V ∷ []) ∷ []) ≡ (false ∷ false ∷ false ∷ false ∷ false ∷ false ∷ false ∷ false ∷ false ∷ false ∷ false ∷ false ∷ false ∷ false ∷ false ∷ false ∷ false ∷ false ∷ false ∷ false ∷ false ∷ false ∷ false ∷ false ∷ false ∷ false ∷ true ∷ [])
add_i32x4 = refl

sub_i32x4 : map (takes (Set 2 (Two (Lanes I32x4 Sub) (Local 0) (Local 1))) None) ((W ∷ W ∷ W ∷ []) ∷ (W ∷ W ∷ L ∷ []) ∷ (W ∷ W ∷ V ∷ []) ∷ (W ∷ L ∷ W ∷ []) ∷ (W ∷ L ∷ L ∷ []) ∷ (W ∷ L ∷ V ∷ []) ∷ (W ∷ V ∷ W ∷ []) ∷ (W ∷ V ∷ L ∷ []) ∷ (W ∷ V ∷ V ∷ []) ∷ (L ∷ W ∷ W ∷ []) ∷ (L ∷ W ∷ L ∷ []) ∷ (L ∷ W ∷ V ∷ []) ∷ (L ∷ L ∷ W ∷ []) ∷ (L ∷ L ∷ L ∷ []) ∷ (L ∷ L ∷ V ∷ []) ∷ (L ∷ V ∷ W ∷ []) ∷ (L ∷ V ∷ L ∷ []) ∷ (L ∷ V ∷ V ∷ []) ∷ (V ∷ W ∷ W ∷ []) ∷ (V ∷ W ∷ L ∷ []) ∷ (V ∷ W ∷ V ∷ []) ∷ (V ∷ L ∷ W ∷ []) ∷ (V ∷ L ∷ L ∷ []) ∷ (V ∷ L ∷ V ∷ []) ∷ (V ∷ V ∷ W ∷ []) ∷ (V ∷ V ∷ L ∷ []) ∷ (V ∷ V ∷ V ∷ []) ∷ []) ≡ (false ∷ false ∷ false ∷ false ∷ false ∷ false ∷ false ∷ false ∷ false ∷ false ∷ false ∷ false ∷ false ∷ false ∷ false ∷ false ∷ false ∷ false ∷ false ∷ false ∷ false ∷ false ∷ false ∷ false ∷ false ∷ false ∷ true ∷ [])
sub_i32x4 = refl

mul_i32x4 : map (takes (Set 2 (Two (Lanes I32x4 Mul) (Local 0) (Local 1))) None) ((W ∷ W ∷ W ∷ []) ∷ (W ∷ W ∷ L ∷ []) ∷ (W ∷ W ∷ V ∷ []) ∷ (W ∷ L ∷ W ∷ []) ∷ (W ∷ L ∷ L ∷ []) ∷ (W ∷ L ∷ V ∷ []) ∷ (W ∷ V ∷ W ∷ []) ∷ (W ∷ V ∷ L ∷ []) ∷ (W ∷ V ∷ V ∷ []) ∷ (L ∷ W ∷ W ∷ []) ∷ (L ∷ W ∷ L ∷ []) ∷ (L ∷ W ∷ V ∷ []) ∷ (L ∷ L ∷ W ∷ []) ∷ (L ∷ L ∷ L ∷ []) ∷ (L ∷ L ∷ V ∷ []) ∷ (L ∷ V ∷ W ∷ []) ∷ (L ∷ V ∷ L ∷ []) ∷ (L ∷ V ∷ V ∷ []) ∷ (V ∷ W ∷ W ∷ []) ∷ (V ∷ W ∷ L ∷ []) ∷ (V ∷ W ∷ V ∷ []) ∷ (V ∷ L ∷ W ∷ []) ∷ (V ∷ L ∷ L ∷ []) ∷ (V ∷ L ∷ V ∷ []) ∷ (V ∷ V ∷ W ∷ []) ∷ (V ∷ V ∷ L ∷ []) ∷ (V ∷ V ∷ V ∷ []) ∷ []) ≡ (false ∷ false ∷ false ∷ false ∷ false ∷ false ∷ false ∷ false ∷ false ∷ false ∷ false ∷ false ∷ false ∷ false ∷ false ∷ false ∷ false ∷ false ∷ false ∷ false ∷ false ∷ false ∷ false ∷ false ∷ false ∷ false ∷ true ∷ [])
mul_i32x4 = refl

eq_i32x4 : map (takes (Set 2 (Two (CompareLanes I32x4 Eq) (Local 0) (Local 1))) None) ((W ∷ W ∷ W ∷ []) ∷ (W ∷ W ∷ L ∷ []) ∷ (W ∷ W ∷ V ∷ []) ∷ (W ∷ L ∷ W ∷ []) ∷ (W ∷ L ∷ L ∷ []) ∷ (W ∷ L ∷ V ∷ []) ∷ (W ∷ V ∷ W ∷ []) ∷ (W ∷ V ∷ L ∷ []) ∷ (W ∷ V ∷ V ∷ []) ∷ (L ∷ W ∷ W ∷ []) ∷ (L ∷ W ∷ L ∷ []) ∷ (L ∷ W ∷ V ∷ []) ∷ (L ∷ L ∷ W ∷ []) ∷ (L ∷ L ∷ L ∷ []) ∷ (L ∷ L ∷ V ∷ []) ∷ (L ∷ V ∷ W ∷ []) ∷ (L ∷ V ∷ L ∷ []) ∷ (L ∷ V ∷ V ∷ []) ∷ (V ∷ W ∷ W ∷ []) ∷ (V ∷ W ∷ L ∷ []) ∷ (V ∷ W ∷ V ∷ []) ∷ (V ∷ L ∷ W ∷ []) ∷ (V ∷ L ∷ L ∷ []) ∷ (V ∷ L ∷ V ∷ []) ∷ (V ∷ V ∷ W ∷ []) ∷ (V ∷ V ∷ L ∷ []) ∷ (V ∷ V ∷ V ∷ []) ∷ []) ≡ (false ∷ false ∷ false ∷ false ∷ false ∷ false ∷ false ∷ false ∷ false ∷ false ∷ false ∷ false ∷ false ∷ false ∷ false ∷ false ∷ false ∷ false ∷ false ∷ false ∷ false ∷ false ∷ false ∷ false ∷ false ∷ false ∷ true ∷ [])
eq_i32x4 = refl

ne_i32x4 : map (takes (Set 2 (Two (CompareLanes I32x4 Ne) (Local 0) (Local 1))) None) ((W ∷ W ∷ W ∷ []) ∷ (W ∷ W ∷ L ∷ []) ∷ (W ∷ W ∷ V ∷ []) ∷ (W ∷ L ∷ W ∷ []) ∷ (W ∷ L ∷ L ∷ []) ∷ (W ∷ L ∷ V ∷ []) ∷ (W ∷ V ∷ W ∷ []) ∷ (W ∷ V ∷ L ∷ []) ∷ (W ∷ V ∷ V ∷ []) ∷ (L ∷ W ∷ W ∷ []) ∷ (L ∷ W ∷ L ∷ []) ∷ (L ∷ W ∷ V ∷ []) ∷ (L ∷ L ∷ W ∷ []) ∷ (L ∷ L ∷ L ∷ []) ∷ (L ∷ L ∷ V ∷ []) ∷ (L ∷ V ∷ W ∷ []) ∷ (L ∷ V ∷ L ∷ []) ∷ (L ∷ V ∷ V ∷ []) ∷ (V ∷ W ∷ W ∷ []) ∷ (V ∷ W ∷ L ∷ []) ∷ (V ∷ W ∷ V ∷ []) ∷ (V ∷ L ∷ W ∷ []) ∷ (V ∷ L ∷ L ∷ []) ∷ (V ∷ L ∷ V ∷ []) ∷ (V ∷ V ∷ W ∷ []) ∷ (V ∷ V ∷ L ∷ []) ∷ (V ∷ V ∷ V ∷ []) ∷ []) ≡ (false ∷ false ∷ false ∷ false ∷ false ∷ false ∷ false ∷ false ∷ false ∷ false ∷ false ∷ false ∷ false ∷ false ∷ false ∷ false ∷ false ∷ false ∷ false ∷ false ∷ false ∷ false ∷ false ∷ false ∷ false ∷ false ∷ true ∷ [])
ne_i32x4 = refl

lt_u_i32x4 : map (takes (Set 2 (Two (CompareLanes I32x4 LtU) (Local 0) (Local 1))) None) ((W ∷ W ∷ W ∷ []) ∷ (W ∷ W ∷ L ∷ []) ∷ (W ∷ W ∷ V ∷ []) ∷ (W ∷ L ∷ W ∷ []) ∷ (W ∷ L ∷ L ∷ []) ∷ (W ∷ L ∷ V ∷ []) ∷ (W ∷ V ∷ W ∷ []) ∷ (W ∷ V ∷ L ∷ []) ∷ (W ∷ V ∷ V ∷ []) ∷ (L ∷ W ∷ W ∷ []) ∷ (L ∷ W ∷ L ∷ []) ∷ (L ∷ W ∷ V ∷ []) ∷ (L ∷ L ∷ W ∷ []) ∷ (L ∷ L ∷ L ∷ []) ∷ (L ∷ L ∷ V ∷ []) ∷ (L ∷ V ∷ W ∷ []) ∷ (L ∷ V ∷ L ∷ []) ∷ (L ∷ V ∷ V ∷ []) ∷ (V ∷ W ∷ W ∷ []) ∷ (V ∷ W ∷ L ∷ []) ∷ (V ∷ W ∷ V ∷ []) ∷ (V ∷ L ∷ W ∷ []) ∷ (V ∷ L ∷ L ∷ []) ∷ (V ∷ L ∷ V ∷ []) ∷ (V ∷ V ∷ W ∷ []) ∷ (V ∷ V ∷ L ∷ []) ∷ (V ∷ V ∷ V ∷ []) ∷ []) ≡ (false ∷ false ∷ false ∷ false ∷ false ∷ false ∷ false ∷ false ∷ false ∷ false ∷ false ∷ false ∷ false ∷ false ∷ false ∷ false ∷ false ∷ false ∷ false ∷ false ∷ false ∷ false ∷ false ∷ false ∷ false ∷ false ∷ true ∷ [])
lt_u_i32x4 = refl

lt_s_i32x4 : map (takes (Set 2 (Two (CompareLanes I32x4 LtS) (Local 0) (Local 1))) None) ((W ∷ W ∷ W ∷ []) ∷ (W ∷ W ∷ L ∷ []) ∷ (W ∷ W ∷ V ∷ []) ∷ (W ∷ L ∷ W ∷ []) ∷ (W ∷ L ∷ L ∷ []) ∷ (W ∷ L ∷ V ∷ []) ∷ (W ∷ V ∷ W ∷ []) ∷ (W ∷ V ∷ L ∷ []) ∷ (W ∷ V ∷ V ∷ []) ∷ (L ∷ W ∷ W ∷ []) ∷ (L ∷ W ∷ L ∷ []) ∷ (L ∷ W ∷ V ∷ []) ∷ (L ∷ L ∷ W ∷ []) ∷ (L ∷ L ∷ L ∷ []) ∷ (L ∷ L ∷ V ∷ []) ∷ (L ∷ V ∷ W ∷ []) ∷ (L ∷ V ∷ L ∷ []) ∷ (L ∷ V ∷ V ∷ []) ∷ (V ∷ W ∷ W ∷ []) ∷ (V ∷ W ∷ L ∷ []) ∷ (V ∷ W ∷ V ∷ []) ∷ (V ∷ L ∷ W ∷ []) ∷ (V ∷ L ∷ L ∷ []) ∷ (V ∷ L ∷ V ∷ []) ∷ (V ∷ V ∷ W ∷ []) ∷ (V ∷ V ∷ L ∷ []) ∷ (V ∷ V ∷ V ∷ []) ∷ []) ≡ (false ∷ false ∷ false ∷ false ∷ false ∷ false ∷ false ∷ false ∷ false ∷ false ∷ false ∷ false ∷ false ∷ false ∷ false ∷ false ∷ false ∷ false ∷ false ∷ false ∷ false ∷ false ∷ false ∷ false ∷ false ∷ false ∷ true ∷ [])
lt_s_i32x4 = refl

shl_i32x4 : map (takes (Set 2 (Two (ShiftLanes I32x4 Shl) (Local 0) (Local 1))) None) ((W ∷ W ∷ W ∷ []) ∷ (W ∷ W ∷ L ∷ []) ∷ (W ∷ W ∷ V ∷ []) ∷ (W ∷ L ∷ W ∷ []) ∷ (W ∷ L ∷ L ∷ []) ∷ (W ∷ L ∷ V ∷ []) ∷ (W ∷ V ∷ W ∷ []) ∷ (W ∷ V ∷ L ∷ []) ∷ (W ∷ V ∷ V ∷ []) ∷ (L ∷ W ∷ W ∷ []) ∷ (L ∷ W ∷ L ∷ []) ∷ (L ∷ W ∷ V ∷ []) ∷ (L ∷ L ∷ W ∷ []) ∷ (L ∷ L ∷ L ∷ []) ∷ (L ∷ L ∷ V ∷ []) ∷ (L ∷ V ∷ W ∷ []) ∷ (L ∷ V ∷ L ∷ []) ∷ (L ∷ V ∷ V ∷ []) ∷ (V ∷ W ∷ W ∷ []) ∷ (V ∷ W ∷ L ∷ []) ∷ (V ∷ W ∷ V ∷ []) ∷ (V ∷ L ∷ W ∷ []) ∷ (V ∷ L ∷ L ∷ []) ∷ (V ∷ L ∷ V ∷ []) ∷ (V ∷ V ∷ W ∷ []) ∷ (V ∷ V ∷ L ∷ []) ∷ (V ∷ V ∷ V ∷ []) ∷ []) ≡ (false ∷ false ∷ false ∷ false ∷ false ∷ false ∷ false ∷ false ∷ false ∷ false ∷ false ∷ false ∷ false ∷ false ∷ false ∷ false ∷ false ∷ false ∷ false ∷ false ∷ true ∷ false ∷ false ∷ false ∷ false ∷ false ∷ false ∷ [])
shl_i32x4 = refl

shr_u_i32x4 : map (takes (Set 2 (Two (ShiftLanes I32x4 ShrU) (Local 0) (Local 1))) None) ((W ∷ W ∷ W ∷ []) ∷ (W ∷ W ∷ L ∷ []) ∷ (W ∷ W ∷ V ∷ []) ∷ (W ∷ L ∷ W ∷ []) ∷ (W ∷ L ∷ L ∷ []) ∷ (W ∷ L ∷ V ∷ []) ∷ (W ∷ V ∷ W ∷ []) ∷ (W ∷ V ∷ L ∷ []) ∷ (W ∷ V ∷ V ∷ []) ∷ (L ∷ W ∷ W ∷ []) ∷ (L ∷ W ∷ L ∷ []) ∷ (L ∷ W ∷ V ∷ []) ∷ (L ∷ L ∷ W ∷ []) ∷ (L ∷ L ∷ L ∷ []) ∷ (L ∷ L ∷ V ∷ []) ∷ (L ∷ V ∷ W ∷ []) ∷ (L ∷ V ∷ L ∷ []) ∷ (L ∷ V ∷ V ∷ []) ∷ (V ∷ W ∷ W ∷ []) ∷ (V ∷ W ∷ L ∷ []) ∷ (V ∷ W ∷ V ∷ []) ∷ (V ∷ L ∷ W ∷ []) ∷ (V ∷ L ∷ L ∷ []) ∷ (V ∷ L ∷ V ∷ []) ∷ (V ∷ V ∷ W ∷ []) ∷ (V ∷ V ∷ L ∷ []) ∷ (V ∷ V ∷ V ∷ []) ∷ []) ≡ (false ∷ false ∷ false ∷ false ∷ false ∷ false ∷ false ∷ false ∷ false ∷ false ∷ false ∷ false ∷ false ∷ false ∷ false ∷ false ∷ false ∷ false ∷ false ∷ false ∷ true ∷ false ∷ false ∷ false ∷ false ∷ false ∷ false ∷ [])
shr_u_i32x4 = refl

shr_s_i32x4 : map (takes (Set 2 (Two (ShiftLanes I32x4 ShrS) (Local 0) (Local 1))) None) ((W ∷ W ∷ W ∷ []) ∷ (W ∷ W ∷ L ∷ []) ∷ (W ∷ W ∷ V ∷ []) ∷ (W ∷ L ∷ W ∷ []) ∷ (W ∷ L ∷ L ∷ []) ∷ (W ∷ L ∷ V ∷ []) ∷ (W ∷ V ∷ W ∷ []) ∷ (W ∷ V ∷ L ∷ []) ∷ (W ∷ V ∷ V ∷ []) ∷ (L ∷ W ∷ W ∷ []) ∷ (L ∷ W ∷ L ∷ []) ∷ (L ∷ W ∷ V ∷ []) ∷ (L ∷ L ∷ W ∷ []) ∷ (L ∷ L ∷ L ∷ []) ∷ (L ∷ L ∷ V ∷ []) ∷ (L ∷ V ∷ W ∷ []) ∷ (L ∷ V ∷ L ∷ []) ∷ (L ∷ V ∷ V ∷ []) ∷ (V ∷ W ∷ W ∷ []) ∷ (V ∷ W ∷ L ∷ []) ∷ (V ∷ W ∷ V ∷ []) ∷ (V ∷ L ∷ W ∷ []) ∷ (V ∷ L ∷ L ∷ []) ∷ (V ∷ L ∷ V ∷ []) ∷ (V ∷ V ∷ W ∷ []) ∷ (V ∷ V ∷ L ∷ []) ∷ (V ∷ V ∷ V ∷ []) ∷ []) ≡ (false ∷ false ∷ false ∷ false ∷ false ∷ false ∷ false ∷ false ∷ false ∷ false ∷ false ∷ false ∷ false ∷ false ∷ false ∷ false ∷ false ∷ false ∷ false ∷ false ∷ true ∷ false ∷ false ∷ false ∷ false ∷ false ∷ false ∷ [])
shr_s_i32x4 = refl

splat_i32x4 : map (takes (Set 1 (One (Splat I32x4) (Local 0))) None) ((W ∷ W ∷ []) ∷ (W ∷ L ∷ []) ∷ (W ∷ V ∷ []) ∷ (L ∷ W ∷ []) ∷ (L ∷ L ∷ []) ∷ (L ∷ V ∷ []) ∷ (V ∷ W ∷ []) ∷ (V ∷ L ∷ []) ∷ (V ∷ V ∷ []) ∷ []) ≡ (false ∷ false ∷ true ∷ false ∷ false ∷ false ∷ false ∷ false ∷ false ∷ [])
splat_i32x4 = refl

extract_i32x4_0 : map (takes (Set 1 (One (Extract I32x4 0) (Local 0))) None) ((W ∷ W ∷ []) ∷ (W ∷ L ∷ []) ∷ (W ∷ V ∷ []) ∷ (L ∷ W ∷ []) ∷ (L ∷ L ∷ []) ∷ (L ∷ V ∷ []) ∷ (V ∷ W ∷ []) ∷ (V ∷ L ∷ []) ∷ (V ∷ V ∷ []) ∷ []) ≡ (false ∷ false ∷ false ∷ false ∷ false ∷ false ∷ true ∷ false ∷ false ∷ [])
extract_i32x4_0 = refl

replace_i32x4_0 : map (takes (Set 2 (Two (Replace I32x4 0) (Local 0) (Local 1))) None) ((W ∷ W ∷ W ∷ []) ∷ (W ∷ W ∷ L ∷ []) ∷ (W ∷ W ∷ V ∷ []) ∷ (W ∷ L ∷ W ∷ []) ∷ (W ∷ L ∷ L ∷ []) ∷ (W ∷ L ∷ V ∷ []) ∷ (W ∷ V ∷ W ∷ []) ∷ (W ∷ V ∷ L ∷ []) ∷ (W ∷ V ∷ V ∷ []) ∷ (L ∷ W ∷ W ∷ []) ∷ (L ∷ W ∷ L ∷ []) ∷ (L ∷ W ∷ V ∷ []) ∷ (L ∷ L ∷ W ∷ []) ∷ (L ∷ L ∷ L ∷ []) ∷ (L ∷ L ∷ V ∷ []) ∷ (L ∷ V ∷ W ∷ []) ∷ (L ∷ V ∷ L ∷ []) ∷ (L ∷ V ∷ V ∷ []) ∷ (V ∷ W ∷ W ∷ []) ∷ (V ∷ W ∷ L ∷ []) ∷ (V ∷ W ∷ V ∷ []) ∷ (V ∷ L ∷ W ∷ []) ∷ (V ∷ L ∷ L ∷ []) ∷ (V ∷ L ∷ V ∷ []) ∷ (V ∷ V ∷ W ∷ []) ∷ (V ∷ V ∷ L ∷ []) ∷ (V ∷ V ∷ V ∷ []) ∷ []) ≡ (false ∷ false ∷ false ∷ false ∷ false ∷ false ∷ false ∷ false ∷ false ∷ false ∷ false ∷ false ∷ false ∷ false ∷ false ∷ false ∷ false ∷ false ∷ false ∷ false ∷ true ∷ false ∷ false ∷ false ∷ false ∷ false ∷ false ∷ [])
replace_i32x4_0 = refl

extract_i32x4_3 : map (takes (Set 1 (One (Extract I32x4 3) (Local 0))) None) ((W ∷ W ∷ []) ∷ (W ∷ L ∷ []) ∷ (W ∷ V ∷ []) ∷ (L ∷ W ∷ []) ∷ (L ∷ L ∷ []) ∷ (L ∷ V ∷ []) ∷ (V ∷ W ∷ []) ∷ (V ∷ L ∷ []) ∷ (V ∷ V ∷ []) ∷ []) ≡ (false ∷ false ∷ false ∷ false ∷ false ∷ false ∷ true ∷ false ∷ false ∷ [])
extract_i32x4_3 = refl

replace_i32x4_3 : map (takes (Set 2 (Two (Replace I32x4 3) (Local 0) (Local 1))) None) ((W ∷ W ∷ W ∷ []) ∷ (W ∷ W ∷ L ∷ []) ∷ (W ∷ W ∷ V ∷ []) ∷ (W ∷ L ∷ W ∷ []) ∷ (W ∷ L ∷ L ∷ []) ∷ (W ∷ L ∷ V ∷ []) ∷ (W ∷ V ∷ W ∷ []) ∷ (W ∷ V ∷ L ∷ []) ∷ (W ∷ V ∷ V ∷ []) ∷ (L ∷ W ∷ W ∷ []) ∷ (L ∷ W ∷ L ∷ []) ∷ (L ∷ W ∷ V ∷ []) ∷ (L ∷ L ∷ W ∷ []) ∷ (L ∷ L ∷ L ∷ []) ∷ (L ∷ L ∷ V ∷ []) ∷ (L ∷ V ∷ W ∷ []) ∷ (L ∷ V ∷ L ∷ []) ∷ (L ∷ V ∷ V ∷ []) ∷ (V ∷ W ∷ W ∷ []) ∷ (V ∷ W ∷ L ∷ []) ∷ (V ∷ W ∷ V ∷ []) ∷ (V ∷ L ∷ W ∷ []) ∷ (V ∷ L ∷ L ∷ []) ∷ (V ∷ L ∷ V ∷ []) ∷ (V ∷ V ∷ W ∷ []) ∷ (V ∷ V ∷ L ∷ []) ∷ (V ∷ V ∷ V ∷ []) ∷ []) ≡ (false ∷ false ∷ false ∷ false ∷ false ∷ false ∷ false ∷ false ∷ false ∷ false ∷ false ∷ false ∷ false ∷ false ∷ false ∷ false ∷ false ∷ false ∷ false ∷ false ∷ true ∷ false ∷ false ∷ false ∷ false ∷ false ∷ false ∷ [])
replace_i32x4_3 = refl

extend_low_i32x4 : map (takes (Set 1 (One (ExtendLow I32x4) (Local 0))) None) ((W ∷ W ∷ []) ∷ (W ∷ L ∷ []) ∷ (W ∷ V ∷ []) ∷ (L ∷ W ∷ []) ∷ (L ∷ L ∷ []) ∷ (L ∷ V ∷ []) ∷ (V ∷ W ∷ []) ∷ (V ∷ L ∷ []) ∷ (V ∷ V ∷ []) ∷ []) ≡ (false ∷ false ∷ false ∷ false ∷ false ∷ false ∷ false ∷ false ∷ true ∷ [])
extend_low_i32x4 = refl

extend_high_i32x4 : map (takes (Set 1 (One (ExtendHigh I32x4) (Local 0))) None) ((W ∷ W ∷ []) ∷ (W ∷ L ∷ []) ∷ (W ∷ V ∷ []) ∷ (L ∷ W ∷ []) ∷ (L ∷ L ∷ []) ∷ (L ∷ V ∷ []) ∷ (V ∷ W ∷ []) ∷ (V ∷ L ∷ []) ∷ (V ∷ V ∷ []) ∷ []) ≡ (false ∷ false ∷ false ∷ false ∷ false ∷ false ∷ false ∷ false ∷ true ∷ [])
extend_high_i32x4 = refl

evens_i32x4 : map (takes (Set 2 (Two (Shuffle (evens I32x4)) (Local 0) (Local 1))) None) ((W ∷ W ∷ W ∷ []) ∷ (W ∷ W ∷ L ∷ []) ∷ (W ∷ W ∷ V ∷ []) ∷ (W ∷ L ∷ W ∷ []) ∷ (W ∷ L ∷ L ∷ []) ∷ (W ∷ L ∷ V ∷ []) ∷ (W ∷ V ∷ W ∷ []) ∷ (W ∷ V ∷ L ∷ []) ∷ (W ∷ V ∷ V ∷ []) ∷ (L ∷ W ∷ W ∷ []) ∷ (L ∷ W ∷ L ∷ []) ∷ (L ∷ W ∷ V ∷ []) ∷ (L ∷ L ∷ W ∷ []) ∷ (L ∷ L ∷ L ∷ []) ∷ (L ∷ L ∷ V ∷ []) ∷ (L ∷ V ∷ W ∷ []) ∷ (L ∷ V ∷ L ∷ []) ∷ (L ∷ V ∷ V ∷ []) ∷ (V ∷ W ∷ W ∷ []) ∷ (V ∷ W ∷ L ∷ []) ∷ (V ∷ W ∷ V ∷ []) ∷ (V ∷ L ∷ W ∷ []) ∷ (V ∷ L ∷ L ∷ []) ∷ (V ∷ L ∷ V ∷ []) ∷ (V ∷ V ∷ W ∷ []) ∷ (V ∷ V ∷ L ∷ []) ∷ (V ∷ V ∷ V ∷ []) ∷ []) ≡ (false ∷ false ∷ false ∷ false ∷ false ∷ false ∷ false ∷ false ∷ false ∷ false ∷ false ∷ false ∷ false ∷ false ∷ false ∷ false ∷ false ∷ false ∷ false ∷ false ∷ false ∷ false ∷ false ∷ false ∷ false ∷ false ∷ true ∷ [])
evens_i32x4 = refl

add_i64x2 : map (takes (Set 2 (Two (Lanes I64x2 Add) (Local 0) (Local 1))) None) ((W ∷ W ∷ W ∷ []) ∷ (W ∷ W ∷ L ∷ []) ∷ (W ∷ W ∷ V ∷ []) ∷ (W ∷ L ∷ W ∷ []) ∷ (W ∷ L ∷ L ∷ []) ∷ (W ∷ L ∷ V ∷ []) ∷ (W ∷ V ∷ W ∷ []) ∷ (W ∷ V ∷ L ∷ []) ∷ (W ∷ V ∷ V ∷ []) ∷ (L ∷ W ∷ W ∷ []) ∷ (L ∷ W ∷ L ∷ []) ∷ (L ∷ W ∷ V ∷ []) ∷ (L ∷ L ∷ W ∷ []) ∷ (L ∷ L ∷ L ∷ []) ∷ (L ∷ L ∷ V ∷ []) ∷ (L ∷ V ∷ W ∷ []) ∷ (L ∷ V ∷ L ∷ []) ∷ (L ∷ V ∷ V ∷ []) ∷ (V ∷ W ∷ W ∷ []) ∷ (V ∷ W ∷ L ∷ []) ∷ (V ∷ W ∷ V ∷ []) ∷ (V ∷ L ∷ W ∷ []) ∷ (V ∷ L ∷ L ∷ []) ∷ (V ∷ L ∷ V ∷ []) ∷ (V ∷ V ∷ W ∷ []) ∷ (V ∷ V ∷ L ∷ []) ∷ (V ∷ V ∷ V ∷ []) ∷ []) ≡ (false ∷ false ∷ false ∷ false ∷ false ∷ false ∷ false ∷ false ∷ false ∷ false ∷ false ∷ false ∷ false ∷ false ∷ false ∷ false ∷ false ∷ false ∷ false ∷ false ∷ false ∷ false ∷ false ∷ false ∷ false ∷ false ∷ true ∷ [])
add_i64x2 = refl

sub_i64x2 : map (takes (Set 2 (Two (Lanes I64x2 Sub) (Local 0) (Local 1))) None) ((W ∷ W ∷ W ∷ []) ∷ (W ∷ W ∷ L ∷ []) ∷ (W ∷ W ∷ V ∷ []) ∷ (W ∷ L ∷ W ∷ []) ∷ (W ∷ L ∷ L ∷ []) ∷ (W ∷ L ∷ V ∷ []) ∷ (W ∷ V ∷ W ∷ []) ∷ (W ∷ V ∷ L ∷ []) ∷ (W ∷ V ∷ V ∷ []) ∷ (L ∷ W ∷ W ∷ []) ∷ (L ∷ W ∷ L ∷ []) ∷ (L ∷ W ∷ V ∷ []) ∷ (L ∷ L ∷ W ∷ []) ∷ (L ∷ L ∷ L ∷ []) ∷ (L ∷ L ∷ V ∷ []) ∷ (L ∷ V ∷ W ∷ []) ∷ (L ∷ V ∷ L ∷ []) ∷ (L ∷ V ∷ V ∷ []) ∷ (V ∷ W ∷ W ∷ []) ∷ (V ∷ W ∷ L ∷ []) ∷ (V ∷ W ∷ V ∷ []) ∷ (V ∷ L ∷ W ∷ []) ∷ (V ∷ L ∷ L ∷ []) ∷ (V ∷ L ∷ V ∷ []) ∷ (V ∷ V ∷ W ∷ []) ∷ (V ∷ V ∷ L ∷ []) ∷ (V ∷ V ∷ V ∷ []) ∷ []) ≡ (false ∷ false ∷ false ∷ false ∷ false ∷ false ∷ false ∷ false ∷ false ∷ false ∷ false ∷ false ∷ false ∷ false ∷ false ∷ false ∷ false ∷ false ∷ false ∷ false ∷ false ∷ false ∷ false ∷ false ∷ false ∷ false ∷ true ∷ [])
sub_i64x2 = refl

mul_i64x2 : map (takes (Set 2 (Two (Lanes I64x2 Mul) (Local 0) (Local 1))) None) ((W ∷ W ∷ W ∷ []) ∷ (W ∷ W ∷ L ∷ []) ∷ (W ∷ W ∷ V ∷ []) ∷ (W ∷ L ∷ W ∷ []) ∷ (W ∷ L ∷ L ∷ []) ∷ (W ∷ L ∷ V ∷ []) ∷ (W ∷ V ∷ W ∷ []) ∷ (W ∷ V ∷ L ∷ []) ∷ (W ∷ V ∷ V ∷ []) ∷ (L ∷ W ∷ W ∷ []) ∷ (L ∷ W ∷ L ∷ []) ∷ (L ∷ W ∷ V ∷ []) ∷ (L ∷ L ∷ W ∷ []) ∷ (L ∷ L ∷ L ∷ []) ∷ (L ∷ L ∷ V ∷ []) ∷ (L ∷ V ∷ W ∷ []) ∷ (L ∷ V ∷ L ∷ []) ∷ (L ∷ V ∷ V ∷ []) ∷ (V ∷ W ∷ W ∷ []) ∷ (V ∷ W ∷ L ∷ []) ∷ (V ∷ W ∷ V ∷ []) ∷ (V ∷ L ∷ W ∷ []) ∷ (V ∷ L ∷ L ∷ []) ∷ (V ∷ L ∷ V ∷ []) ∷ (V ∷ V ∷ W ∷ []) ∷ (V ∷ V ∷ L ∷ []) ∷ (V ∷ V ∷ V ∷ []) ∷ []) ≡ (false ∷ false ∷ false ∷ false ∷ false ∷ false ∷ false ∷ false ∷ false ∷ false ∷ false ∷ false ∷ false ∷ false ∷ false ∷ false ∷ false ∷ false ∷ false ∷ false ∷ false ∷ false ∷ false ∷ false ∷ false ∷ false ∷ true ∷ [])
mul_i64x2 = refl

eq_i64x2 : map (takes (Set 2 (Two (CompareLanes I64x2 Eq) (Local 0) (Local 1))) None) ((W ∷ W ∷ W ∷ []) ∷ (W ∷ W ∷ L ∷ []) ∷ (W ∷ W ∷ V ∷ []) ∷ (W ∷ L ∷ W ∷ []) ∷ (W ∷ L ∷ L ∷ []) ∷ (W ∷ L ∷ V ∷ []) ∷ (W ∷ V ∷ W ∷ []) ∷ (W ∷ V ∷ L ∷ []) ∷ (W ∷ V ∷ V ∷ []) ∷ (L ∷ W ∷ W ∷ []) ∷ (L ∷ W ∷ L ∷ []) ∷ (L ∷ W ∷ V ∷ []) ∷ (L ∷ L ∷ W ∷ []) ∷ (L ∷ L ∷ L ∷ []) ∷ (L ∷ L ∷ V ∷ []) ∷ (L ∷ V ∷ W ∷ []) ∷ (L ∷ V ∷ L ∷ []) ∷ (L ∷ V ∷ V ∷ []) ∷ (V ∷ W ∷ W ∷ []) ∷ (V ∷ W ∷ L ∷ []) ∷ (V ∷ W ∷ V ∷ []) ∷ (V ∷ L ∷ W ∷ []) ∷ (V ∷ L ∷ L ∷ []) ∷ (V ∷ L ∷ V ∷ []) ∷ (V ∷ V ∷ W ∷ []) ∷ (V ∷ V ∷ L ∷ []) ∷ (V ∷ V ∷ V ∷ []) ∷ []) ≡ (false ∷ false ∷ false ∷ false ∷ false ∷ false ∷ false ∷ false ∷ false ∷ false ∷ false ∷ false ∷ false ∷ false ∷ false ∷ false ∷ false ∷ false ∷ false ∷ false ∷ false ∷ false ∷ false ∷ false ∷ false ∷ false ∷ true ∷ [])
eq_i64x2 = refl

ne_i64x2 : map (takes (Set 2 (Two (CompareLanes I64x2 Ne) (Local 0) (Local 1))) None) ((W ∷ W ∷ W ∷ []) ∷ (W ∷ W ∷ L ∷ []) ∷ (W ∷ W ∷ V ∷ []) ∷ (W ∷ L ∷ W ∷ []) ∷ (W ∷ L ∷ L ∷ []) ∷ (W ∷ L ∷ V ∷ []) ∷ (W ∷ V ∷ W ∷ []) ∷ (W ∷ V ∷ L ∷ []) ∷ (W ∷ V ∷ V ∷ []) ∷ (L ∷ W ∷ W ∷ []) ∷ (L ∷ W ∷ L ∷ []) ∷ (L ∷ W ∷ V ∷ []) ∷ (L ∷ L ∷ W ∷ []) ∷ (L ∷ L ∷ L ∷ []) ∷ (L ∷ L ∷ V ∷ []) ∷ (L ∷ V ∷ W ∷ []) ∷ (L ∷ V ∷ L ∷ []) ∷ (L ∷ V ∷ V ∷ []) ∷ (V ∷ W ∷ W ∷ []) ∷ (V ∷ W ∷ L ∷ []) ∷ (V ∷ W ∷ V ∷ []) ∷ (V ∷ L ∷ W ∷ []) ∷ (V ∷ L ∷ L ∷ []) ∷ (V ∷ L ∷ V ∷ []) ∷ (V ∷ V ∷ W ∷ []) ∷ (V ∷ V ∷ L ∷ []) ∷ (V ∷ V ∷ V ∷ []) ∷ []) ≡ (false ∷ false ∷ false ∷ false ∷ false ∷ false ∷ false ∷ false ∷ false ∷ false ∷ false ∷ false ∷ false ∷ false ∷ false ∷ false ∷ false ∷ false ∷ false ∷ false ∷ false ∷ false ∷ false ∷ false ∷ false ∷ false ∷ true ∷ [])
ne_i64x2 = refl

lt_s_i64x2 : map (takes (Set 2 (Two (CompareLanes I64x2 LtS) (Local 0) (Local 1))) None) ((W ∷ W ∷ W ∷ []) ∷ (W ∷ W ∷ L ∷ []) ∷ (W ∷ W ∷ V ∷ []) ∷ (W ∷ L ∷ W ∷ []) ∷ (W ∷ L ∷ L ∷ []) ∷ (W ∷ L ∷ V ∷ []) ∷ (W ∷ V ∷ W ∷ []) ∷ (W ∷ V ∷ L ∷ []) ∷ (W ∷ V ∷ V ∷ []) ∷ (L ∷ W ∷ W ∷ []) ∷ (L ∷ W ∷ L ∷ []) ∷ (L ∷ W ∷ V ∷ []) ∷ (L ∷ L ∷ W ∷ []) ∷ (L ∷ L ∷ L ∷ []) ∷ (L ∷ L ∷ V ∷ []) ∷ (L ∷ V ∷ W ∷ []) ∷ (L ∷ V ∷ L ∷ []) ∷ (L ∷ V ∷ V ∷ []) ∷ (V ∷ W ∷ W ∷ []) ∷ (V ∷ W ∷ L ∷ []) ∷ (V ∷ W ∷ V ∷ []) ∷ (V ∷ L ∷ W ∷ []) ∷ (V ∷ L ∷ L ∷ []) ∷ (V ∷ L ∷ V ∷ []) ∷ (V ∷ V ∷ W ∷ []) ∷ (V ∷ V ∷ L ∷ []) ∷ (V ∷ V ∷ V ∷ []) ∷ []) ≡ (false ∷ false ∷ false ∷ false ∷ false ∷ false ∷ false ∷ false ∷ false ∷ false ∷ false ∷ false ∷ false ∷ false ∷ false ∷ false ∷ false ∷ false ∷ false ∷ false ∷ false ∷ false ∷ false ∷ false ∷ false ∷ false ∷ true ∷ [])
lt_s_i64x2 = refl

shl_i64x2 : map (takes (Set 2 (Two (ShiftLanes I64x2 Shl) (Local 0) (Local 1))) None) ((W ∷ W ∷ W ∷ []) ∷ (W ∷ W ∷ L ∷ []) ∷ (W ∷ W ∷ V ∷ []) ∷ (W ∷ L ∷ W ∷ []) ∷ (W ∷ L ∷ L ∷ []) ∷ (W ∷ L ∷ V ∷ []) ∷ (W ∷ V ∷ W ∷ []) ∷ (W ∷ V ∷ L ∷ []) ∷ (W ∷ V ∷ V ∷ []) ∷ (L ∷ W ∷ W ∷ []) ∷ (L ∷ W ∷ L ∷ []) ∷ (L ∷ W ∷ V ∷ []) ∷ (L ∷ L ∷ W ∷ []) ∷ (L ∷ L ∷ L ∷ []) ∷ (L ∷ L ∷ V ∷ []) ∷ (L ∷ V ∷ W ∷ []) ∷ (L ∷ V ∷ L ∷ []) ∷ (L ∷ V ∷ V ∷ []) ∷ (V ∷ W ∷ W ∷ []) ∷ (V ∷ W ∷ L ∷ []) ∷ (V ∷ W ∷ V ∷ []) ∷ (V ∷ L ∷ W ∷ []) ∷ (V ∷ L ∷ L ∷ []) ∷ (V ∷ L ∷ V ∷ []) ∷ (V ∷ V ∷ W ∷ []) ∷ (V ∷ V ∷ L ∷ []) ∷ (V ∷ V ∷ V ∷ []) ∷ []) ≡ (false ∷ false ∷ false ∷ false ∷ false ∷ false ∷ false ∷ false ∷ false ∷ false ∷ false ∷ false ∷ false ∷ false ∷ false ∷ false ∷ false ∷ false ∷ false ∷ false ∷ true ∷ false ∷ false ∷ false ∷ false ∷ false ∷ false ∷ [])
shl_i64x2 = refl

shr_u_i64x2 : map (takes (Set 2 (Two (ShiftLanes I64x2 ShrU) (Local 0) (Local 1))) None) ((W ∷ W ∷ W ∷ []) ∷ (W ∷ W ∷ L ∷ []) ∷ (W ∷ W ∷ V ∷ []) ∷ (W ∷ L ∷ W ∷ []) ∷ (W ∷ L ∷ L ∷ []) ∷ (W ∷ L ∷ V ∷ []) ∷ (W ∷ V ∷ W ∷ []) ∷ (W ∷ V ∷ L ∷ []) ∷ (W ∷ V ∷ V ∷ []) ∷ (L ∷ W ∷ W ∷ []) ∷ (L ∷ W ∷ L ∷ []) ∷ (L ∷ W ∷ V ∷ []) ∷ (L ∷ L ∷ W ∷ []) ∷ (L ∷ L ∷ L ∷ []) ∷ (L ∷ L ∷ V ∷ []) ∷ (L ∷ V ∷ W ∷ []) ∷ (L ∷ V ∷ L ∷ []) ∷ (L ∷ V ∷ V ∷ []) ∷ (V ∷ W ∷ W ∷ []) ∷ (V ∷ W ∷ L ∷ []) ∷ (V ∷ W ∷ V ∷ []) ∷ (V ∷ L ∷ W ∷ []) ∷ (V ∷ L ∷ L ∷ []) ∷ (V ∷ L ∷ V ∷ []) ∷ (V ∷ V ∷ W ∷ []) ∷ (V ∷ V ∷ L ∷ []) ∷ (V ∷ V ∷ V ∷ []) ∷ []) ≡ (false ∷ false ∷ false ∷ false ∷ false ∷ false ∷ false ∷ false ∷ false ∷ false ∷ false ∷ false ∷ false ∷ false ∷ false ∷ false ∷ false ∷ false ∷ false ∷ false ∷ true ∷ false ∷ false ∷ false ∷ false ∷ false ∷ false ∷ [])
shr_u_i64x2 = refl

shr_s_i64x2 : map (takes (Set 2 (Two (ShiftLanes I64x2 ShrS) (Local 0) (Local 1))) None) ((W ∷ W ∷ W ∷ []) ∷ (W ∷ W ∷ L ∷ []) ∷ (W ∷ W ∷ V ∷ []) ∷ (W ∷ L ∷ W ∷ []) ∷ (W ∷ L ∷ L ∷ []) ∷ (W ∷ L ∷ V ∷ []) ∷ (W ∷ V ∷ W ∷ []) ∷ (W ∷ V ∷ L ∷ []) ∷ (W ∷ V ∷ V ∷ []) ∷ (L ∷ W ∷ W ∷ []) ∷ (L ∷ W ∷ L ∷ []) ∷ (L ∷ W ∷ V ∷ []) ∷ (L ∷ L ∷ W ∷ []) ∷ (L ∷ L ∷ L ∷ []) ∷ (L ∷ L ∷ V ∷ []) ∷ (L ∷ V ∷ W ∷ []) ∷ (L ∷ V ∷ L ∷ []) ∷ (L ∷ V ∷ V ∷ []) ∷ (V ∷ W ∷ W ∷ []) ∷ (V ∷ W ∷ L ∷ []) ∷ (V ∷ W ∷ V ∷ []) ∷ (V ∷ L ∷ W ∷ []) ∷ (V ∷ L ∷ L ∷ []) ∷ (V ∷ L ∷ V ∷ []) ∷ (V ∷ V ∷ W ∷ []) ∷ (V ∷ V ∷ L ∷ []) ∷ (V ∷ V ∷ V ∷ []) ∷ []) ≡ (false ∷ false ∷ false ∷ false ∷ false ∷ false ∷ false ∷ false ∷ false ∷ false ∷ false ∷ false ∷ false ∷ false ∷ false ∷ false ∷ false ∷ false ∷ false ∷ false ∷ true ∷ false ∷ false ∷ false ∷ false ∷ false ∷ false ∷ [])
shr_s_i64x2 = refl

splat_i64x2 : map (takes (Set 1 (One (Splat I64x2) (Local 0))) None) ((W ∷ W ∷ []) ∷ (W ∷ L ∷ []) ∷ (W ∷ V ∷ []) ∷ (L ∷ W ∷ []) ∷ (L ∷ L ∷ []) ∷ (L ∷ V ∷ []) ∷ (V ∷ W ∷ []) ∷ (V ∷ L ∷ []) ∷ (V ∷ V ∷ []) ∷ []) ≡ (false ∷ false ∷ false ∷ false ∷ false ∷ true ∷ false ∷ false ∷ false ∷ [])
splat_i64x2 = refl

extract_i64x2_0 : map (takes (Set 1 (One (Extract I64x2 0) (Local 0))) None) ((W ∷ W ∷ []) ∷ (W ∷ L ∷ []) ∷ (W ∷ V ∷ []) ∷ (L ∷ W ∷ []) ∷ (L ∷ L ∷ []) ∷ (L ∷ V ∷ []) ∷ (V ∷ W ∷ []) ∷ (V ∷ L ∷ []) ∷ (V ∷ V ∷ []) ∷ []) ≡ (false ∷ false ∷ false ∷ false ∷ false ∷ false ∷ false ∷ true ∷ false ∷ [])
extract_i64x2_0 = refl

replace_i64x2_0 : map (takes (Set 2 (Two (Replace I64x2 0) (Local 0) (Local 1))) None) ((W ∷ W ∷ W ∷ []) ∷ (W ∷ W ∷ L ∷ []) ∷ (W ∷ W ∷ V ∷ []) ∷ (W ∷ L ∷ W ∷ []) ∷ (W ∷ L ∷ L ∷ []) ∷ (W ∷ L ∷ V ∷ []) ∷ (W ∷ V ∷ W ∷ []) ∷ (W ∷ V ∷ L ∷ []) ∷ (W ∷ V ∷ V ∷ []) ∷ (L ∷ W ∷ W ∷ []) ∷ (L ∷ W ∷ L ∷ []) ∷ (L ∷ W ∷ V ∷ []) ∷ (L ∷ L ∷ W ∷ []) ∷ (L ∷ L ∷ L ∷ []) ∷ (L ∷ L ∷ V ∷ []) ∷ (L ∷ V ∷ W ∷ []) ∷ (L ∷ V ∷ L ∷ []) ∷ (L ∷ V ∷ V ∷ []) ∷ (V ∷ W ∷ W ∷ []) ∷ (V ∷ W ∷ L ∷ []) ∷ (V ∷ W ∷ V ∷ []) ∷ (V ∷ L ∷ W ∷ []) ∷ (V ∷ L ∷ L ∷ []) ∷ (V ∷ L ∷ V ∷ []) ∷ (V ∷ V ∷ W ∷ []) ∷ (V ∷ V ∷ L ∷ []) ∷ (V ∷ V ∷ V ∷ []) ∷ []) ≡ (false ∷ false ∷ false ∷ false ∷ false ∷ false ∷ false ∷ false ∷ false ∷ false ∷ false ∷ false ∷ false ∷ false ∷ false ∷ false ∷ false ∷ false ∷ false ∷ false ∷ false ∷ false ∷ false ∷ true ∷ false ∷ false ∷ false ∷ [])
replace_i64x2_0 = refl

extract_i64x2_1 : map (takes (Set 1 (One (Extract I64x2 1) (Local 0))) None) ((W ∷ W ∷ []) ∷ (W ∷ L ∷ []) ∷ (W ∷ V ∷ []) ∷ (L ∷ W ∷ []) ∷ (L ∷ L ∷ []) ∷ (L ∷ V ∷ []) ∷ (V ∷ W ∷ []) ∷ (V ∷ L ∷ []) ∷ (V ∷ V ∷ []) ∷ []) ≡ (false ∷ false ∷ false ∷ false ∷ false ∷ false ∷ false ∷ true ∷ false ∷ [])
extract_i64x2_1 = refl

replace_i64x2_1 : map (takes (Set 2 (Two (Replace I64x2 1) (Local 0) (Local 1))) None) ((W ∷ W ∷ W ∷ []) ∷ (W ∷ W ∷ L ∷ []) ∷ (W ∷ W ∷ V ∷ []) ∷ (W ∷ L ∷ W ∷ []) ∷ (W ∷ L ∷ L ∷ []) ∷ (W ∷ L ∷ V ∷ []) ∷ (W ∷ V ∷ W ∷ []) ∷ (W ∷ V ∷ L ∷ []) ∷ (W ∷ V ∷ V ∷ []) ∷ (L ∷ W ∷ W ∷ []) ∷ (L ∷ W ∷ L ∷ []) ∷ (L ∷ W ∷ V ∷ []) ∷ (L ∷ L ∷ W ∷ []) ∷ (L ∷ L ∷ L ∷ []) ∷ (L ∷ L ∷ V ∷ []) ∷ (L ∷ V ∷ W ∷ []) ∷ (L ∷ V ∷ L ∷ []) ∷ (L ∷ V ∷ V ∷ []) ∷ (V ∷ W ∷ W ∷ []) ∷ (V ∷ W ∷ L ∷ []) ∷ (V ∷ W ∷ V ∷ []) ∷ (V ∷ L ∷ W ∷ []) ∷ (V ∷ L ∷ L ∷ []) ∷ (V ∷ L ∷ V ∷ []) ∷ (V ∷ V ∷ W ∷ []) ∷ (V ∷ V ∷ L ∷ []) ∷ (V ∷ V ∷ V ∷ []) ∷ []) ≡ (false ∷ false ∷ false ∷ false ∷ false ∷ false ∷ false ∷ false ∷ false ∷ false ∷ false ∷ false ∷ false ∷ false ∷ false ∷ false ∷ false ∷ false ∷ false ∷ false ∷ false ∷ false ∷ false ∷ true ∷ false ∷ false ∷ false ∷ [])
replace_i64x2_1 = refl

extend_low_i64x2 : map (takes (Set 1 (One (ExtendLow I64x2) (Local 0))) None) ((W ∷ W ∷ []) ∷ (W ∷ L ∷ []) ∷ (W ∷ V ∷ []) ∷ (L ∷ W ∷ []) ∷ (L ∷ L ∷ []) ∷ (L ∷ V ∷ []) ∷ (V ∷ W ∷ []) ∷ (V ∷ L ∷ []) ∷ (V ∷ V ∷ []) ∷ []) ≡ (false ∷ false ∷ false ∷ false ∷ false ∷ false ∷ false ∷ false ∷ true ∷ [])
extend_low_i64x2 = refl

extend_high_i64x2 : map (takes (Set 1 (One (ExtendHigh I64x2) (Local 0))) None) ((W ∷ W ∷ []) ∷ (W ∷ L ∷ []) ∷ (W ∷ V ∷ []) ∷ (L ∷ W ∷ []) ∷ (L ∷ L ∷ []) ∷ (L ∷ V ∷ []) ∷ (V ∷ W ∷ []) ∷ (V ∷ L ∷ []) ∷ (V ∷ V ∷ []) ∷ []) ≡ (false ∷ false ∷ false ∷ false ∷ false ∷ false ∷ false ∷ false ∷ true ∷ [])
extend_high_i64x2 = refl

evens_i64x2 : map (takes (Set 2 (Two (Shuffle (evens I64x2)) (Local 0) (Local 1))) None) ((W ∷ W ∷ W ∷ []) ∷ (W ∷ W ∷ L ∷ []) ∷ (W ∷ W ∷ V ∷ []) ∷ (W ∷ L ∷ W ∷ []) ∷ (W ∷ L ∷ L ∷ []) ∷ (W ∷ L ∷ V ∷ []) ∷ (W ∷ V ∷ W ∷ []) ∷ (W ∷ V ∷ L ∷ []) ∷ (W ∷ V ∷ V ∷ []) ∷ (L ∷ W ∷ W ∷ []) ∷ (L ∷ W ∷ L ∷ []) ∷ (L ∷ W ∷ V ∷ []) ∷ (L ∷ L ∷ W ∷ []) ∷ (L ∷ L ∷ L ∷ []) ∷ (L ∷ L ∷ V ∷ []) ∷ (L ∷ V ∷ W ∷ []) ∷ (L ∷ V ∷ L ∷ []) ∷ (L ∷ V ∷ V ∷ []) ∷ (V ∷ W ∷ W ∷ []) ∷ (V ∷ W ∷ L ∷ []) ∷ (V ∷ W ∷ V ∷ []) ∷ (V ∷ L ∷ W ∷ []) ∷ (V ∷ L ∷ L ∷ []) ∷ (V ∷ L ∷ V ∷ []) ∷ (V ∷ V ∷ W ∷ []) ∷ (V ∷ V ∷ L ∷ []) ∷ (V ∷ V ∷ V ∷ []) ∷ []) ≡ (false ∷ false ∷ false ∷ false ∷ false ∷ false ∷ false ∷ false ∷ false ∷ false ∷ false ∷ false ∷ false ∷ false ∷ false ∷ false ∷ false ∷ false ∷ false ∷ false ∷ false ∷ false ∷ false ∷ false ∷ false ∷ false ∷ true ∷ [])
evens_i64x2 = refl

bitselect : map (takes (Set 3 (Bitselect (Local 0) (Local 1) (Local 2))) None) ((W ∷ W ∷ W ∷ W ∷ []) ∷ (W ∷ W ∷ W ∷ L ∷ []) ∷ (W ∷ W ∷ W ∷ V ∷ []) ∷ (W ∷ W ∷ L ∷ W ∷ []) ∷ (W ∷ W ∷ L ∷ L ∷ []) ∷ (W ∷ W ∷ L ∷ V ∷ []) ∷ (W ∷ W ∷ V ∷ W ∷ []) ∷ (W ∷ W ∷ V ∷ L ∷ []) ∷ (W ∷ W ∷ V ∷ V ∷ []) ∷ (W ∷ L ∷ W ∷ W ∷ []) ∷ (W ∷ L ∷ W ∷ L ∷ []) ∷ (W ∷ L ∷ W ∷ V ∷ []) ∷ (W ∷ L ∷ L ∷ W ∷ []) ∷ (W ∷ L ∷ L ∷ L ∷ []) ∷ (W ∷ L ∷ L ∷ V ∷ []) ∷ (W ∷ L ∷ V ∷ W ∷ []) ∷ (W ∷ L ∷ V ∷ L ∷ []) ∷ (W ∷ L ∷ V ∷ V ∷ []) ∷ (W ∷ V ∷ W ∷ W ∷ []) ∷ (W ∷ V ∷ W ∷ L ∷ []) ∷ (W ∷ V ∷ W ∷ V ∷ []) ∷ (W ∷ V ∷ L ∷ W ∷ []) ∷ (W ∷ V ∷ L ∷ L ∷ []) ∷ (W ∷ V ∷ L ∷ V ∷ []) ∷ (W ∷ V ∷ V ∷ W ∷ []) ∷ (W ∷ V ∷ V ∷ L ∷ []) ∷ (W ∷ V ∷ V ∷ V ∷ []) ∷ (L ∷ W ∷ W ∷ W ∷ []) ∷ (L ∷ W ∷ W ∷ L ∷ []) ∷ (L ∷ W ∷ W ∷ V ∷ []) ∷ (L ∷ W ∷ L ∷ W ∷ []) ∷ (L ∷ W ∷ L ∷ L ∷ []) ∷ (L ∷ W ∷ L ∷ V ∷ []) ∷ (L ∷ W ∷ V ∷ W ∷ []) ∷ (L ∷ W ∷ V ∷ L ∷ []) ∷ (L ∷ W ∷ V ∷ V ∷ []) ∷ (L ∷ L ∷ W ∷ W ∷ []) ∷ (L ∷ L ∷ W ∷ L ∷ []) ∷ (L ∷ L ∷ W ∷ V ∷ []) ∷ (L ∷ L ∷ L ∷ W ∷ []) ∷ (L ∷ L ∷ L ∷ L ∷ []) ∷ (L ∷ L ∷ L ∷ V ∷ []) ∷ (L ∷ L ∷ V ∷ W ∷ []) ∷ (L ∷ L ∷ V ∷ L ∷ []) ∷ (L ∷ L ∷ V ∷ V ∷ []) ∷ (L ∷ V ∷ W ∷ W ∷ []) ∷ (L ∷ V ∷ W ∷ L ∷ []) ∷ (L ∷ V ∷ W ∷ V ∷ []) ∷ (L ∷ V ∷ L ∷ W ∷ []) ∷ (L ∷ V ∷ L ∷ L ∷ []) ∷ (L ∷ V ∷ L ∷ V ∷ []) ∷ (L ∷ V ∷ V ∷ W ∷ []) ∷ (L ∷ V ∷ V ∷ L ∷ []) ∷ (L ∷ V ∷ V ∷ V ∷ []) ∷ (V ∷ W ∷ W ∷ W ∷ []) ∷ (V ∷ W ∷ W ∷ L ∷ []) ∷ (V ∷ W ∷ W ∷ V ∷ []) ∷ (V ∷ W ∷ L ∷ W ∷ []) ∷ (V ∷ W ∷ L ∷ L ∷ []) ∷ (V ∷ W ∷ L ∷ V ∷ []) ∷ (V ∷ W ∷ V ∷ W ∷ []) ∷ (V ∷ W ∷ V ∷ L ∷ []) ∷ (V ∷ W ∷ V ∷ V ∷ []) ∷ (V ∷ L ∷ W ∷ W ∷ []) ∷ (V ∷ L ∷ W ∷ L ∷ []) ∷ (V ∷ L ∷ W ∷ V ∷ []) ∷ (V ∷ L ∷ L ∷ W ∷ []) ∷ (V ∷ L ∷ L ∷ L ∷ []) ∷ (V ∷ L ∷ L ∷ V ∷ []) ∷ (V ∷ L ∷ V ∷ W ∷ []) ∷ (V ∷ L ∷ V ∷ L ∷ []) ∷ (V ∷ L ∷ V ∷ V ∷ []) ∷ (V ∷ V ∷ W ∷ W ∷ []) ∷ (V ∷ V ∷ W ∷ L ∷ []) ∷ (V ∷ V ∷ W ∷ V ∷ []) ∷ (V ∷ V ∷ L ∷ W ∷ []) ∷ (V ∷ V ∷ L ∷ L ∷ []) ∷ (V ∷ V ∷ L ∷ V ∷ []) ∷ (V ∷ V ∷ V ∷ W ∷ []) ∷ (V ∷ V ∷ V ∷ L ∷ []) ∷ (V ∷ V ∷ V ∷ V ∷ []) ∷ []) ≡ (false ∷ false ∷ false ∷ false ∷ false ∷ false ∷ false ∷ false ∷ false ∷ false ∷ false ∷ false ∷ false ∷ false ∷ false ∷ false ∷ false ∷ false ∷ false ∷ false ∷ false ∷ false ∷ false ∷ false ∷ false ∷ false ∷ false ∷ false ∷ false ∷ false ∷ false ∷ false ∷ false ∷ false ∷ false ∷ false ∷ false ∷ false ∷ false ∷ false ∷ false ∷ false ∷ false ∷ false ∷ false ∷ false ∷ false ∷ false ∷ false ∷ false ∷ false ∷ false ∷ false ∷ false ∷ false ∷ false ∷ false ∷ false ∷ false ∷ false ∷ false ∷ false ∷ false ∷ false ∷ false ∷ false ∷ false ∷ false ∷ false ∷ false ∷ false ∷ false ∷ false ∷ false ∷ false ∷ false ∷ false ∷ false ∷ false ∷ false ∷ true ∷ [])
bitselect = refl

select : map (takes (Set 3 (Select (Local 2) (Local 0) (Local 1))) None) ((W ∷ W ∷ W ∷ W ∷ []) ∷ (W ∷ W ∷ W ∷ L ∷ []) ∷ (W ∷ W ∷ W ∷ V ∷ []) ∷ (W ∷ W ∷ L ∷ W ∷ []) ∷ (W ∷ W ∷ L ∷ L ∷ []) ∷ (W ∷ W ∷ L ∷ V ∷ []) ∷ (W ∷ W ∷ V ∷ W ∷ []) ∷ (W ∷ W ∷ V ∷ L ∷ []) ∷ (W ∷ W ∷ V ∷ V ∷ []) ∷ (W ∷ L ∷ W ∷ W ∷ []) ∷ (W ∷ L ∷ W ∷ L ∷ []) ∷ (W ∷ L ∷ W ∷ V ∷ []) ∷ (W ∷ L ∷ L ∷ W ∷ []) ∷ (W ∷ L ∷ L ∷ L ∷ []) ∷ (W ∷ L ∷ L ∷ V ∷ []) ∷ (W ∷ L ∷ V ∷ W ∷ []) ∷ (W ∷ L ∷ V ∷ L ∷ []) ∷ (W ∷ L ∷ V ∷ V ∷ []) ∷ (W ∷ V ∷ W ∷ W ∷ []) ∷ (W ∷ V ∷ W ∷ L ∷ []) ∷ (W ∷ V ∷ W ∷ V ∷ []) ∷ (W ∷ V ∷ L ∷ W ∷ []) ∷ (W ∷ V ∷ L ∷ L ∷ []) ∷ (W ∷ V ∷ L ∷ V ∷ []) ∷ (W ∷ V ∷ V ∷ W ∷ []) ∷ (W ∷ V ∷ V ∷ L ∷ []) ∷ (W ∷ V ∷ V ∷ V ∷ []) ∷ (L ∷ W ∷ W ∷ W ∷ []) ∷ (L ∷ W ∷ W ∷ L ∷ []) ∷ (L ∷ W ∷ W ∷ V ∷ []) ∷ (L ∷ W ∷ L ∷ W ∷ []) ∷ (L ∷ W ∷ L ∷ L ∷ []) ∷ (L ∷ W ∷ L ∷ V ∷ []) ∷ (L ∷ W ∷ V ∷ W ∷ []) ∷ (L ∷ W ∷ V ∷ L ∷ []) ∷ (L ∷ W ∷ V ∷ V ∷ []) ∷ (L ∷ L ∷ W ∷ W ∷ []) ∷ (L ∷ L ∷ W ∷ L ∷ []) ∷ (L ∷ L ∷ W ∷ V ∷ []) ∷ (L ∷ L ∷ L ∷ W ∷ []) ∷ (L ∷ L ∷ L ∷ L ∷ []) ∷ (L ∷ L ∷ L ∷ V ∷ []) ∷ (L ∷ L ∷ V ∷ W ∷ []) ∷ (L ∷ L ∷ V ∷ L ∷ []) ∷ (L ∷ L ∷ V ∷ V ∷ []) ∷ (L ∷ V ∷ W ∷ W ∷ []) ∷ (L ∷ V ∷ W ∷ L ∷ []) ∷ (L ∷ V ∷ W ∷ V ∷ []) ∷ (L ∷ V ∷ L ∷ W ∷ []) ∷ (L ∷ V ∷ L ∷ L ∷ []) ∷ (L ∷ V ∷ L ∷ V ∷ []) ∷ (L ∷ V ∷ V ∷ W ∷ []) ∷ (L ∷ V ∷ V ∷ L ∷ []) ∷ (L ∷ V ∷ V ∷ V ∷ []) ∷ (V ∷ W ∷ W ∷ W ∷ []) ∷ (V ∷ W ∷ W ∷ L ∷ []) ∷ (V ∷ W ∷ W ∷ V ∷ []) ∷ (V ∷ W ∷ L ∷ W ∷ []) ∷ (V ∷ W ∷ L ∷ L ∷ []) ∷ (V ∷ W ∷ L ∷ V ∷ []) ∷ (V ∷ W ∷ V ∷ W ∷ []) ∷ (V ∷ W ∷ V ∷ L ∷ []) ∷ (V ∷ W ∷ V ∷ V ∷ []) ∷ (V ∷ L ∷ W ∷ W ∷ []) ∷ (V ∷ L ∷ W ∷ L ∷ []) ∷ (V ∷ L ∷ W ∷ V ∷ []) ∷ (V ∷ L ∷ L ∷ W ∷ []) ∷ (V ∷ L ∷ L ∷ L ∷ []) ∷ (V ∷ L ∷ L ∷ V ∷ []) ∷ (V ∷ L ∷ V ∷ W ∷ []) ∷ (V ∷ L ∷ V ∷ L ∷ []) ∷ (V ∷ L ∷ V ∷ V ∷ []) ∷ (V ∷ V ∷ W ∷ W ∷ []) ∷ (V ∷ V ∷ W ∷ L ∷ []) ∷ (V ∷ V ∷ W ∷ V ∷ []) ∷ (V ∷ V ∷ L ∷ W ∷ []) ∷ (V ∷ V ∷ L ∷ L ∷ []) ∷ (V ∷ V ∷ L ∷ V ∷ []) ∷ (V ∷ V ∷ V ∷ W ∷ []) ∷ (V ∷ V ∷ V ∷ L ∷ []) ∷ (V ∷ V ∷ V ∷ V ∷ []) ∷ []) ≡ (true ∷ false ∷ false ∷ false ∷ false ∷ false ∷ false ∷ false ∷ false ∷ false ∷ false ∷ false ∷ false ∷ false ∷ false ∷ false ∷ false ∷ false ∷ false ∷ false ∷ false ∷ false ∷ false ∷ false ∷ false ∷ false ∷ false ∷ false ∷ false ∷ false ∷ false ∷ false ∷ false ∷ false ∷ false ∷ false ∷ false ∷ true ∷ false ∷ false ∷ false ∷ false ∷ false ∷ false ∷ false ∷ false ∷ false ∷ false ∷ false ∷ false ∷ false ∷ false ∷ false ∷ false ∷ false ∷ false ∷ false ∷ false ∷ false ∷ false ∷ false ∷ false ∷ false ∷ false ∷ false ∷ false ∷ false ∷ false ∷ false ∷ false ∷ false ∷ false ∷ false ∷ false ∷ true ∷ false ∷ false ∷ false ∷ false ∷ false ∷ false ∷ [])
select = refl

load_1 : map (takes (Load 1 1 (Local 0) 0) None) ((W ∷ W ∷ []) ∷ (W ∷ L ∷ []) ∷ (W ∷ V ∷ []) ∷ (L ∷ W ∷ []) ∷ (L ∷ L ∷ []) ∷ (L ∷ V ∷ []) ∷ (V ∷ W ∷ []) ∷ (V ∷ L ∷ []) ∷ (V ∷ V ∷ []) ∷ []) ≡ (true ∷ false ∷ false ∷ false ∷ false ∷ false ∷ false ∷ false ∷ false ∷ [])
load_1 = refl

load_2 : map (takes (Load 2 1 (Local 0) 0) None) ((W ∷ W ∷ []) ∷ (W ∷ L ∷ []) ∷ (W ∷ V ∷ []) ∷ (L ∷ W ∷ []) ∷ (L ∷ L ∷ []) ∷ (L ∷ V ∷ []) ∷ (V ∷ W ∷ []) ∷ (V ∷ L ∷ []) ∷ (V ∷ V ∷ []) ∷ []) ≡ (true ∷ false ∷ false ∷ false ∷ false ∷ false ∷ false ∷ false ∷ false ∷ [])
load_2 = refl

load_4 : map (takes (Load 4 1 (Local 0) 0) None) ((W ∷ W ∷ []) ∷ (W ∷ L ∷ []) ∷ (W ∷ V ∷ []) ∷ (L ∷ W ∷ []) ∷ (L ∷ L ∷ []) ∷ (L ∷ V ∷ []) ∷ (V ∷ W ∷ []) ∷ (V ∷ L ∷ []) ∷ (V ∷ V ∷ []) ∷ []) ≡ (true ∷ false ∷ false ∷ false ∷ false ∷ false ∷ false ∷ false ∷ false ∷ [])
load_4 = refl

load_8 : map (takes (Load 8 1 (Local 0) 0) None) ((W ∷ W ∷ []) ∷ (W ∷ L ∷ []) ∷ (W ∷ V ∷ []) ∷ (L ∷ W ∷ []) ∷ (L ∷ L ∷ []) ∷ (L ∷ V ∷ []) ∷ (V ∷ W ∷ []) ∷ (V ∷ L ∷ []) ∷ (V ∷ V ∷ []) ∷ []) ≡ (false ∷ true ∷ false ∷ false ∷ false ∷ false ∷ false ∷ false ∷ false ∷ [])
load_8 = refl

load_16 : map (takes (Load 16 1 (Local 0) 0) None) ((W ∷ W ∷ []) ∷ (W ∷ L ∷ []) ∷ (W ∷ V ∷ []) ∷ (L ∷ W ∷ []) ∷ (L ∷ L ∷ []) ∷ (L ∷ V ∷ []) ∷ (V ∷ W ∷ []) ∷ (V ∷ L ∷ []) ∷ (V ∷ V ∷ []) ∷ []) ≡ (false ∷ false ∷ true ∷ false ∷ false ∷ false ∷ false ∷ false ∷ false ∷ [])
load_16 = refl

store_1 : map (takes (Store 1 (Local 0) 0 (Local 1)) None) ((W ∷ W ∷ []) ∷ (W ∷ L ∷ []) ∷ (W ∷ V ∷ []) ∷ (L ∷ W ∷ []) ∷ (L ∷ L ∷ []) ∷ (L ∷ V ∷ []) ∷ (V ∷ W ∷ []) ∷ (V ∷ L ∷ []) ∷ (V ∷ V ∷ []) ∷ []) ≡ (true ∷ false ∷ false ∷ false ∷ false ∷ false ∷ false ∷ false ∷ false ∷ [])
store_1 = refl

store_2 : map (takes (Store 2 (Local 0) 0 (Local 1)) None) ((W ∷ W ∷ []) ∷ (W ∷ L ∷ []) ∷ (W ∷ V ∷ []) ∷ (L ∷ W ∷ []) ∷ (L ∷ L ∷ []) ∷ (L ∷ V ∷ []) ∷ (V ∷ W ∷ []) ∷ (V ∷ L ∷ []) ∷ (V ∷ V ∷ []) ∷ []) ≡ (true ∷ false ∷ false ∷ false ∷ false ∷ false ∷ false ∷ false ∷ false ∷ [])
store_2 = refl

store_4 : map (takes (Store 4 (Local 0) 0 (Local 1)) None) ((W ∷ W ∷ []) ∷ (W ∷ L ∷ []) ∷ (W ∷ V ∷ []) ∷ (L ∷ W ∷ []) ∷ (L ∷ L ∷ []) ∷ (L ∷ V ∷ []) ∷ (V ∷ W ∷ []) ∷ (V ∷ L ∷ []) ∷ (V ∷ V ∷ []) ∷ []) ≡ (true ∷ false ∷ false ∷ false ∷ false ∷ false ∷ false ∷ false ∷ false ∷ [])
store_4 = refl

store_8 : map (takes (Store 8 (Local 0) 0 (Local 1)) None) ((W ∷ W ∷ []) ∷ (W ∷ L ∷ []) ∷ (W ∷ V ∷ []) ∷ (L ∷ W ∷ []) ∷ (L ∷ L ∷ []) ∷ (L ∷ V ∷ []) ∷ (V ∷ W ∷ []) ∷ (V ∷ L ∷ []) ∷ (V ∷ V ∷ []) ∷ []) ≡ (false ∷ true ∷ false ∷ false ∷ false ∷ false ∷ false ∷ false ∷ false ∷ [])
store_8 = refl

store_16 : map (takes (Store 16 (Local 0) 0 (Local 1)) None) ((W ∷ W ∷ []) ∷ (W ∷ L ∷ []) ∷ (W ∷ V ∷ []) ∷ (L ∷ W ∷ []) ∷ (L ∷ L ∷ []) ∷ (L ∷ V ∷ []) ∷ (V ∷ W ∷ []) ∷ (V ∷ L ∷ []) ∷ (V ∷ V ∷ []) ∷ []) ≡ (false ∷ false ∷ true ∷ false ∷ false ∷ false ∷ false ∷ false ∷ false ∷ [])
store_16 = refl

bitmask_i8x16 : map (takes (Set 1 (One (Bitmask I8x16) (Local 0))) None) ((W ∷ W ∷ []) ∷ (W ∷ L ∷ []) ∷ (W ∷ V ∷ []) ∷ (L ∷ W ∷ []) ∷ (L ∷ L ∷ []) ∷ (L ∷ V ∷ []) ∷ (V ∷ W ∷ []) ∷ (V ∷ L ∷ []) ∷ (V ∷ V ∷ []) ∷ []) ≡ (false ∷ false ∷ false ∷ false ∷ false ∷ false ∷ true ∷ false ∷ false ∷ [])
bitmask_i8x16 = refl

and_v128 : map (takes (Set 2 (Two (Bits And) (Local 0) (Local 1))) None) ((W ∷ W ∷ W ∷ []) ∷ (W ∷ W ∷ L ∷ []) ∷ (W ∷ W ∷ V ∷ []) ∷ (W ∷ L ∷ W ∷ []) ∷ (W ∷ L ∷ L ∷ []) ∷ (W ∷ L ∷ V ∷ []) ∷ (W ∷ V ∷ W ∷ []) ∷ (W ∷ V ∷ L ∷ []) ∷ (W ∷ V ∷ V ∷ []) ∷ (L ∷ W ∷ W ∷ []) ∷ (L ∷ W ∷ L ∷ []) ∷ (L ∷ W ∷ V ∷ []) ∷ (L ∷ L ∷ W ∷ []) ∷ (L ∷ L ∷ L ∷ []) ∷ (L ∷ L ∷ V ∷ []) ∷ (L ∷ V ∷ W ∷ []) ∷ (L ∷ V ∷ L ∷ []) ∷ (L ∷ V ∷ V ∷ []) ∷ (V ∷ W ∷ W ∷ []) ∷ (V ∷ W ∷ L ∷ []) ∷ (V ∷ W ∷ V ∷ []) ∷ (V ∷ L ∷ W ∷ []) ∷ (V ∷ L ∷ L ∷ []) ∷ (V ∷ L ∷ V ∷ []) ∷ (V ∷ V ∷ W ∷ []) ∷ (V ∷ V ∷ L ∷ []) ∷ (V ∷ V ∷ V ∷ []) ∷ []) ≡ (false ∷ false ∷ false ∷ false ∷ false ∷ false ∷ false ∷ false ∷ false ∷ false ∷ false ∷ false ∷ false ∷ false ∷ false ∷ false ∷ false ∷ false ∷ false ∷ false ∷ false ∷ false ∷ false ∷ false ∷ false ∷ false ∷ true ∷ [])
and_v128 = refl

or_v128 : map (takes (Set 2 (Two (Bits Or) (Local 0) (Local 1))) None) ((W ∷ W ∷ W ∷ []) ∷ (W ∷ W ∷ L ∷ []) ∷ (W ∷ W ∷ V ∷ []) ∷ (W ∷ L ∷ W ∷ []) ∷ (W ∷ L ∷ L ∷ []) ∷ (W ∷ L ∷ V ∷ []) ∷ (W ∷ V ∷ W ∷ []) ∷ (W ∷ V ∷ L ∷ []) ∷ (W ∷ V ∷ V ∷ []) ∷ (L ∷ W ∷ W ∷ []) ∷ (L ∷ W ∷ L ∷ []) ∷ (L ∷ W ∷ V ∷ []) ∷ (L ∷ L ∷ W ∷ []) ∷ (L ∷ L ∷ L ∷ []) ∷ (L ∷ L ∷ V ∷ []) ∷ (L ∷ V ∷ W ∷ []) ∷ (L ∷ V ∷ L ∷ []) ∷ (L ∷ V ∷ V ∷ []) ∷ (V ∷ W ∷ W ∷ []) ∷ (V ∷ W ∷ L ∷ []) ∷ (V ∷ W ∷ V ∷ []) ∷ (V ∷ L ∷ W ∷ []) ∷ (V ∷ L ∷ L ∷ []) ∷ (V ∷ L ∷ V ∷ []) ∷ (V ∷ V ∷ W ∷ []) ∷ (V ∷ V ∷ L ∷ []) ∷ (V ∷ V ∷ V ∷ []) ∷ []) ≡ (false ∷ false ∷ false ∷ false ∷ false ∷ false ∷ false ∷ false ∷ false ∷ false ∷ false ∷ false ∷ false ∷ false ∷ false ∷ false ∷ false ∷ false ∷ false ∷ false ∷ false ∷ false ∷ false ∷ false ∷ false ∷ false ∷ true ∷ [])
or_v128 = refl

xor_v128 : map (takes (Set 2 (Two (Bits Xor) (Local 0) (Local 1))) None) ((W ∷ W ∷ W ∷ []) ∷ (W ∷ W ∷ L ∷ []) ∷ (W ∷ W ∷ V ∷ []) ∷ (W ∷ L ∷ W ∷ []) ∷ (W ∷ L ∷ L ∷ []) ∷ (W ∷ L ∷ V ∷ []) ∷ (W ∷ V ∷ W ∷ []) ∷ (W ∷ V ∷ L ∷ []) ∷ (W ∷ V ∷ V ∷ []) ∷ (L ∷ W ∷ W ∷ []) ∷ (L ∷ W ∷ L ∷ []) ∷ (L ∷ W ∷ V ∷ []) ∷ (L ∷ L ∷ W ∷ []) ∷ (L ∷ L ∷ L ∷ []) ∷ (L ∷ L ∷ V ∷ []) ∷ (L ∷ V ∷ W ∷ []) ∷ (L ∷ V ∷ L ∷ []) ∷ (L ∷ V ∷ V ∷ []) ∷ (V ∷ W ∷ W ∷ []) ∷ (V ∷ W ∷ L ∷ []) ∷ (V ∷ W ∷ V ∷ []) ∷ (V ∷ L ∷ W ∷ []) ∷ (V ∷ L ∷ L ∷ []) ∷ (V ∷ L ∷ V ∷ []) ∷ (V ∷ V ∷ W ∷ []) ∷ (V ∷ V ∷ L ∷ []) ∷ (V ∷ V ∷ V ∷ []) ∷ []) ≡ (false ∷ false ∷ false ∷ false ∷ false ∷ false ∷ false ∷ false ∷ false ∷ false ∷ false ∷ false ∷ false ∷ false ∷ false ∷ false ∷ false ∷ false ∷ false ∷ false ∷ false ∷ false ∷ false ∷ false ∷ false ∷ false ∷ true ∷ [])
xor_v128 = refl

code_if : map (takes ((If (Local 0) Skip Skip)) None) ((W ∷ []) ∷ (L ∷ []) ∷ (V ∷ []) ∷ []) ≡ (true ∷ false ∷ false ∷ [])
code_if = refl

code_table : map (takes ((Block (BrTable (0 ∷ 1 ∷ []) 0 (Local 0)))) None) ((W ∷ []) ∷ (L ∷ []) ∷ (V ∷ []) ∷ []) ≡ (true ∷ false ∷ false ∷ [])
code_table = refl

code_no_local : map (takes ((Set 1 (Const32 0))) None) ((W ∷ []) ∷ (L ∷ []) ∷ (V ∷ []) ∷ []) ≡ (false ∷ false ∷ false ∷ [])
code_no_local = refl

code_no_local_read : map (takes ((Set 0 (Local 1))) None) ((W ∷ []) ∷ (L ∷ []) ∷ (V ∷ []) ∷ []) ≡ (false ∷ false ∷ false ∷ [])
code_no_local_read = refl

code_br_0 : map (takes ((Then (Block (Loop (Then (If (Const32 1) (Br 0) Skip) Unreachable))) Unreachable)) None) (([]) ∷ []) ≡ (true ∷ [])
code_br_0 = refl

code_br_0_i32 : map (takes ((Then (Block (Loop (Then (If (Const32 1) (Br 0) Skip) Unreachable))) Unreachable)) (Some W)) (([]) ∷ []) ≡ (true ∷ [])
code_br_0_i32 = refl

code_br_1 : map (takes ((Then (Block (Loop (Then (If (Const32 1) (Br 1) Skip) Unreachable))) Unreachable)) None) (([]) ∷ []) ≡ (true ∷ [])
code_br_1 = refl

code_br_1_i32 : map (takes ((Then (Block (Loop (Then (If (Const32 1) (Br 1) Skip) Unreachable))) Unreachable)) (Some W)) (([]) ∷ []) ≡ (true ∷ [])
code_br_1_i32 = refl

code_br_2 : map (takes ((Then (Block (Loop (Then (If (Const32 1) (Br 2) Skip) Unreachable))) Unreachable)) None) (([]) ∷ []) ≡ (true ∷ [])
code_br_2 = refl

code_br_2_i32 : map (takes ((Then (Block (Loop (Then (If (Const32 1) (Br 2) Skip) Unreachable))) Unreachable)) (Some W)) (([]) ∷ []) ≡ (true ∷ [])
code_br_2_i32 = refl

code_br_3 : map (takes ((Then (Block (Loop (Then (If (Const32 1) (Br 3) Skip) Unreachable))) Unreachable)) None) (([]) ∷ []) ≡ (true ∷ [])
code_br_3 = refl

code_br_3_i32 : map (takes ((Then (Block (Loop (Then (If (Const32 1) (Br 3) Skip) Unreachable))) Unreachable)) (Some W)) (([]) ∷ []) ≡ (false ∷ [])
code_br_3_i32 = refl

code_br_4 : map (takes ((Then (Block (Loop (Then (If (Const32 1) (Br 4) Skip) Unreachable))) Unreachable)) None) (([]) ∷ []) ≡ (false ∷ [])
code_br_4 = refl

code_br_4_i32 : map (takes ((Then (Block (Loop (Then (If (Const32 1) (Br 4) Skip) Unreachable))) Unreachable)) (Some W)) (([]) ∷ []) ≡ (false ∷ [])
code_br_4_i32 = refl

code_br_5 : map (takes ((Then (Block (Loop (Then (If (Const32 1) (Br 5) Skip) Unreachable))) Unreachable)) None) (([]) ∷ []) ≡ (false ∷ [])
code_br_5 = refl

code_br_5_i32 : map (takes ((Then (Block (Loop (Then (If (Const32 1) (Br 5) Skip) Unreachable))) Unreachable)) (Some W)) (([]) ∷ []) ≡ (false ∷ [])
code_br_5_i32 = refl

code_table_0 : map (takes ((Then (Block (BrTable (0 ∷ 0 ∷ []) 0 (Const32 1))) Unreachable)) None) (([]) ∷ []) ≡ (true ∷ [])
code_table_0 = refl

code_table_0_i32 : map (takes ((Then (Block (BrTable (0 ∷ 0 ∷ []) 0 (Const32 1))) Unreachable)) (Some W)) (([]) ∷ []) ≡ (true ∷ [])
code_table_0_i32 = refl

code_table_1 : map (takes ((Then (Block (BrTable (0 ∷ 1 ∷ []) 0 (Const32 1))) Unreachable)) None) (([]) ∷ []) ≡ (true ∷ [])
code_table_1 = refl

code_table_1_i32 : map (takes ((Then (Block (BrTable (0 ∷ 1 ∷ []) 0 (Const32 1))) Unreachable)) (Some W)) (([]) ∷ []) ≡ (false ∷ [])
code_table_1_i32 = refl

code_table_2 : map (takes ((Then (Block (BrTable (0 ∷ 2 ∷ []) 0 (Const32 1))) Unreachable)) None) (([]) ∷ []) ≡ (false ∷ [])
code_table_2 = refl

code_table_2_i32 : map (takes ((Then (Block (BrTable (0 ∷ 2 ∷ []) 0 (Const32 1))) Unreachable)) (Some W)) (([]) ∷ []) ≡ (false ∷ [])
code_table_2_i32 = refl

code_table_3 : map (takes ((Then (Block (BrTable (0 ∷ 3 ∷ []) 0 (Const32 1))) Unreachable)) None) (([]) ∷ []) ≡ (false ∷ [])
code_table_3 = refl

code_table_3_i32 : map (takes ((Then (Block (BrTable (0 ∷ 3 ∷ []) 0 (Const32 1))) Unreachable)) (Some W)) (([]) ∷ []) ≡ (false ∷ [])
code_table_3_i32 = refl

code_table_else_0 : map (takes ((Then (Block (BrTable (0 ∷ []) 0 (Const32 1))) Unreachable)) None) (([]) ∷ []) ≡ (true ∷ [])
code_table_else_0 = refl

code_table_else_0_i32 : map (takes ((Then (Block (BrTable (0 ∷ []) 0 (Const32 1))) Unreachable)) (Some W)) (([]) ∷ []) ≡ (true ∷ [])
code_table_else_0_i32 = refl

code_table_else_1 : map (takes ((Then (Block (BrTable (0 ∷ []) 1 (Const32 1))) Unreachable)) None) (([]) ∷ []) ≡ (true ∷ [])
code_table_else_1 = refl

code_table_else_1_i32 : map (takes ((Then (Block (BrTable (0 ∷ []) 1 (Const32 1))) Unreachable)) (Some W)) (([]) ∷ []) ≡ (false ∷ [])
code_table_else_1_i32 = refl

code_table_else_2 : map (takes ((Then (Block (BrTable (0 ∷ []) 2 (Const32 1))) Unreachable)) None) (([]) ∷ []) ≡ (false ∷ [])
code_table_else_2 = refl

code_table_else_2_i32 : map (takes ((Then (Block (BrTable (0 ∷ []) 2 (Const32 1))) Unreachable)) (Some W)) (([]) ∷ []) ≡ (false ∷ [])
code_table_else_2_i32 = refl

code_table_else_3 : map (takes ((Then (Block (BrTable (0 ∷ []) 3 (Const32 1))) Unreachable)) None) (([]) ∷ []) ≡ (false ∷ [])
code_table_else_3 = refl

code_table_else_3_i32 : map (takes ((Then (Block (BrTable (0 ∷ []) 3 (Const32 1))) Unreachable)) (Some W)) (([]) ∷ []) ≡ (false ∷ [])
code_table_else_3_i32 = refl

code_return_none : map (takes ((Return None)) None) (([]) ∷ []) ≡ (true ∷ [])
code_return_none = refl

code_return_none_i32 : map (takes ((Return None)) (Some W)) (([]) ∷ []) ≡ (false ∷ [])
code_return_none_i32 = refl

code_return_value_i32 : map (takes ((Return (Some (Local 0)))) (Some W)) ((W ∷ []) ∷ (L ∷ []) ∷ (V ∷ []) ∷ []) ≡ (true ∷ false ∷ false ∷ [])
code_return_value_i32 = refl

code_return_value_i64 : map (takes ((Return (Some (Local 0)))) (Some L)) ((W ∷ []) ∷ (L ∷ []) ∷ (V ∷ []) ∷ []) ≡ (false ∷ true ∷ false ∷ [])
code_return_value_i64 = refl

code_return_value_v128 : map (takes ((Return (Some (Local 0)))) (Some V)) ((W ∷ []) ∷ (L ∷ []) ∷ (V ∷ []) ∷ []) ≡ (false ∷ false ∷ true ∷ [])
code_return_value_v128 = refl

code_end_nothing : map (takes (Skip) None) ((W ∷ []) ∷ []) ≡ (true ∷ [])
code_end_nothing = refl

code_end_nothing_i32 : map (takes (Skip) (Some W)) ((W ∷ []) ∷ []) ≡ (false ∷ [])
code_end_nothing_i32 = refl

code_end_unreachable : map (takes (Unreachable) None) ((W ∷ []) ∷ []) ≡ (true ∷ [])
code_end_unreachable = refl

code_end_unreachable_i32 : map (takes (Unreachable) (Some W)) ((W ∷ []) ∷ []) ≡ (true ∷ [])
code_end_unreachable_i32 = refl

code_end_block : map (takes ((Block Unreachable)) None) ((W ∷ []) ∷ []) ≡ (true ∷ [])
code_end_block = refl

code_end_block_i32 : map (takes ((Block Unreachable)) (Some W)) ((W ∷ []) ∷ []) ≡ (false ∷ [])
code_end_block_i32 = refl

code_end_loop : map (takes ((Loop (Br 0))) None) ((W ∷ []) ∷ []) ≡ (true ∷ [])
code_end_loop = refl

code_end_loop_i32 : map (takes ((Loop (Br 0))) (Some W)) ((W ∷ []) ∷ []) ≡ (false ∷ [])
code_end_loop_i32 = refl

code_end_if : map (takes ((If (Const32 1) Unreachable Unreachable)) None) ((W ∷ []) ∷ []) ≡ (true ∷ [])
code_end_if = refl

code_end_if_i32 : map (takes ((If (Const32 1) Unreachable Unreachable)) (Some W)) ((W ∷ []) ∷ []) ≡ (false ∷ [])
code_end_if_i32 = refl

code_end_before : map (takes ((Then Unreachable (Set 0 (Const32 1)))) None) ((W ∷ []) ∷ []) ≡ (true ∷ [])
code_end_before = refl

code_end_before_i32 : map (takes ((Then Unreachable (Set 0 (Const32 1)))) (Some W)) ((W ∷ []) ∷ []) ≡ (true ∷ [])
code_end_before_i32 = refl

code_end_table : map (takes ((Loop (BrTable ([]) 0 (Const32 1)))) None) ((W ∷ []) ∷ []) ≡ (true ∷ [])
code_end_table = refl

code_end_table_i32 : map (takes ((Loop (BrTable ([]) 0 (Const32 1)))) (Some W)) ((W ∷ []) ∷ []) ≡ (false ∷ [])
code_end_table_i32 = refl

code_write : map (takes (Write (Local 0) (Local 1)) None) ((W ∷ W ∷ []) ∷ (W ∷ L ∷ []) ∷ (W ∷ V ∷ []) ∷ (L ∷ W ∷ []) ∷ (L ∷ L ∷ []) ∷ (L ∷ V ∷ []) ∷ (V ∷ W ∷ []) ∷ (V ∷ L ∷ []) ∷ (V ∷ V ∷ []) ∷ []) ≡ (true ∷ false ∷ false ∷ false ∷ false ∷ false ∷ false ∷ false ∷ false ∷ [])
code_write = refl

code_clear : map (takes (Clear (Local 0) (Local 1)) None) ((W ∷ W ∷ []) ∷ (W ∷ L ∷ []) ∷ (W ∷ V ∷ []) ∷ (L ∷ W ∷ []) ∷ (L ∷ L ∷ []) ∷ (L ∷ V ∷ []) ∷ (V ∷ W ∷ []) ∷ (V ∷ L ∷ []) ∷ (V ∷ V ∷ []) ∷ []) ≡ (true ∷ false ∷ false ∷ false ∷ false ∷ false ∷ false ∷ false ∷ false ∷ [])
code_clear = refl

code_call : map (takes (Call 0 (Local 0 ∷ Local 1 ∷ []) (Some 2)) None) ((W ∷ W ∷ W ∷ []) ∷ (W ∷ W ∷ L ∷ []) ∷ (W ∷ W ∷ V ∷ []) ∷ (W ∷ L ∷ W ∷ []) ∷ (W ∷ L ∷ L ∷ []) ∷ (W ∷ L ∷ V ∷ []) ∷ (W ∷ V ∷ W ∷ []) ∷ (W ∷ V ∷ L ∷ []) ∷ (W ∷ V ∷ V ∷ []) ∷ (L ∷ W ∷ W ∷ []) ∷ (L ∷ W ∷ L ∷ []) ∷ (L ∷ W ∷ V ∷ []) ∷ (L ∷ L ∷ W ∷ []) ∷ (L ∷ L ∷ L ∷ []) ∷ (L ∷ L ∷ V ∷ []) ∷ (L ∷ V ∷ W ∷ []) ∷ (L ∷ V ∷ L ∷ []) ∷ (L ∷ V ∷ V ∷ []) ∷ (V ∷ W ∷ W ∷ []) ∷ (V ∷ W ∷ L ∷ []) ∷ (V ∷ W ∷ V ∷ []) ∷ (V ∷ L ∷ W ∷ []) ∷ (V ∷ L ∷ L ∷ []) ∷ (V ∷ L ∷ V ∷ []) ∷ (V ∷ V ∷ W ∷ []) ∷ (V ∷ V ∷ L ∷ []) ∷ (V ∷ V ∷ V ∷ []) ∷ []) ≡ (false ∷ false ∷ false ∷ false ∷ true ∷ false ∷ false ∷ false ∷ false ∷ false ∷ false ∷ false ∷ false ∷ false ∷ false ∷ false ∷ false ∷ false ∷ false ∷ false ∷ false ∷ false ∷ false ∷ false ∷ false ∷ false ∷ false ∷ [])
code_call = refl

code_call_few : map (takes (Call 0 (Local 0 ∷ []) (Some 0)) None) ((W ∷ []) ∷ (L ∷ []) ∷ (V ∷ []) ∷ []) ≡ (false ∷ false ∷ false ∷ [])
code_call_few = refl

code_call_none : map (takes (Call 1 (Local 0 ∷ []) None) None) ((W ∷ []) ∷ (L ∷ []) ∷ (V ∷ []) ∷ []) ≡ (false ∷ false ∷ true ∷ [])
code_call_none = refl

code_call_nothing : map (takes (Call 1 (Local 0 ∷ []) (Some 0)) None) ((W ∷ []) ∷ (L ∷ []) ∷ (V ∷ []) ∷ []) ≡ (false ∷ false ∷ false ∷ [])
code_call_nothing = refl

code_call_dropped : map (takes (Call 0 (Local 0 ∷ Local 1 ∷ []) None) None) ((W ∷ W ∷ []) ∷ (W ∷ L ∷ []) ∷ (W ∷ V ∷ []) ∷ (L ∷ W ∷ []) ∷ (L ∷ L ∷ []) ∷ (L ∷ V ∷ []) ∷ (V ∷ W ∷ []) ∷ (V ∷ L ∷ []) ∷ (V ∷ V ∷ []) ∷ []) ≡ (false ∷ false ∷ false ∷ false ∷ false ∷ false ∷ false ∷ false ∷ false ∷ [])
code_call_dropped = refl

code_call_no_one : map (takes (Call 2 [] None) None) ((W ∷ []) ∷ (L ∷ []) ∷ (V ∷ []) ∷ []) ≡ (false ∷ false ∷ false ∷ [])
code_call_no_one = refl

code_print_signed : map (takes (Print SignedText (Local 0)) None) ((W ∷ []) ∷ (L ∷ []) ∷ (V ∷ []) ∷ []) ≡ (false ∷ true ∷ false ∷ [])
code_print_signed = refl

code_print_unsigned : map (takes (Print UnsignedText (Local 0)) None) ((W ∷ []) ∷ (L ∷ []) ∷ (V ∷ []) ∷ []) ≡ (false ∷ true ∷ false ∷ [])
code_print_unsigned = refl

code_print_bool : map (takes (Print TruthText (Local 0)) None) ((W ∷ []) ∷ (L ∷ []) ∷ (V ∷ []) ∷ []) ≡ (true ∷ false ∷ false ∷ [])
code_print_bool = refl

code_print_byte : map (takes (Print ByteText (Local 0)) None) ((W ∷ []) ∷ (L ∷ []) ∷ (V ∷ []) ∷ []) ≡ (true ∷ false ∷ false ∷ [])
code_print_byte = refl

code_get_global_0 : map (takes (GetGlobal 0 0) None) ((W ∷ []) ∷ (L ∷ []) ∷ (V ∷ []) ∷ []) ≡ (true ∷ false ∷ false ∷ [])
code_get_global_0 = refl

code_set_global_0 : map (takes (SetGlobal 0 (Local 0)) None) ((W ∷ []) ∷ (L ∷ []) ∷ (V ∷ []) ∷ []) ≡ (false ∷ false ∷ false ∷ [])
code_set_global_0 = refl

code_get_global_1 : map (takes (GetGlobal 0 1) None) ((W ∷ []) ∷ (L ∷ []) ∷ (V ∷ []) ∷ []) ≡ (false ∷ false ∷ true ∷ [])
code_get_global_1 = refl

code_set_global_1 : map (takes (SetGlobal 1 (Local 0)) None) ((W ∷ []) ∷ (L ∷ []) ∷ (V ∷ []) ∷ []) ≡ (false ∷ false ∷ true ∷ [])
code_set_global_1 = refl

code_get_global_16 : map (takes (GetGlobal 0 16) None) ((W ∷ []) ∷ (L ∷ []) ∷ (V ∷ []) ∷ []) ≡ (false ∷ false ∷ true ∷ [])
code_get_global_16 = refl

code_set_global_16 : map (takes (SetGlobal 16 (Local 0)) None) ((W ∷ []) ∷ (L ∷ []) ∷ (V ∷ []) ∷ []) ≡ (false ∷ false ∷ true ∷ [])
code_set_global_16 = refl

code_get_global_17 : map (takes (GetGlobal 0 17) None) ((W ∷ []) ∷ (L ∷ []) ∷ (V ∷ []) ∷ []) ≡ (true ∷ false ∷ false ∷ [])
code_get_global_17 = refl

code_set_global_17 : map (takes (SetGlobal 17 (Local 0)) None) ((W ∷ []) ∷ (L ∷ []) ∷ (V ∷ []) ∷ []) ≡ (true ∷ false ∷ false ∷ [])
code_set_global_17 = refl

code_get_global_18 : map (takes (GetGlobal 0 18) None) ((W ∷ []) ∷ (L ∷ []) ∷ (V ∷ []) ∷ []) ≡ (false ∷ false ∷ false ∷ [])
code_get_global_18 = refl

code_set_global_18 : map (takes (SetGlobal 18 (Local 0)) None) ((W ∷ []) ∷ (L ∷ []) ∷ (V ∷ []) ∷ []) ≡ (false ∷ false ∷ false ∷ [])
code_set_global_18 = refl

code_fail : map (takes (Fail 1 2 3 (Local 0)) None) ((W ∷ []) ∷ (L ∷ []) ∷ (V ∷ []) ∷ []) ≡ (true ∷ false ∷ false ∷ [])
code_fail = refl
