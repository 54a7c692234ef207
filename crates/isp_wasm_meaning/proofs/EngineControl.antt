-- What an engine answered of small functions that branch, loop, call and trap, and that the definitions say the same. Written by tools/wasm_table.py.
use Rattle.std.proofs.Common.{◌≡◌, ℕ, List, [], ◌∷◌, Some, None, refl}
use Rattle.std.specs.Prelude.{map, slice_index_or}
use Rattle.isp_wasm_meaning.specs.Digits.{digit, packed}
use Rattle.isp_wasm_meaning.specs.Syntax.{I32, Add, Sub, Mul, DivU, Eqz, Of, Const32, Const64, Local, One, Two}
use Rattle.isp_wasm_meaning.specs.Syntax.{Code, Skip, Unreachable, Then, Set, Load, Store, Divide, If, Block, Loop, Br, BrTable, Return, Call, GetGlobal, SetGlobal, Clear}
use Rattle.isp_wasm_meaning.specs.Meaning.{State, Result, Returned, Trapped, called, bytes}

-- a byte at the address that local 2 has, which is the next one then
abbrev point : ℕ → Code
point p = Then (Store 1 (Local 2) 0 (Const32 p)) (Set 2 (Two (Of I32 Add) (Local 2) (Const32 1)))

abbrev page : State
page = record { locals = λ x. 0; globals = λ x. 0; memory = λ a. 0; size = 65536; out = [] }

-- how a call ended: it gave nothing back (0), or a value (1), or it trapped (2); and the first n bytes of the memory
abbrev seen : ℕ → Result → List ℕ
seen n (Returned None s) = 0 ∷ 0 ∷ bytes n 0 s.memory
seen n (Returned (Some v) s) = 1 ∷ v ∷ bytes n 0 s.memory
seen n (Trapped r s) = 2 ∷ 0 ∷ bytes n 0 s.memory
seen n r = []

-- the first of these functions, of these arguments
abbrev ends : ℕ → List Code → List ℕ → List ℕ
ends n functions xs = seen n (called (λ f. slice_index_or functions f Unreachable) 20 0 xs page)

if_else : map (ends 3 ((Then (If (Local 0) (point 1) (point 2)) (point 3)) ∷ [])) ((0 ∷ 0 ∷ []) ∷ (1 ∷ 0 ∷ []) ∷ (2 ∷ 7 ∷ []) ∷ (4294967295 ∷ 1 ∷ []) ∷ []) ≡ ((0 ∷ 0 ∷ 2 ∷ 3 ∷ 0 ∷ []) ∷ (0 ∷ 0 ∷ 1 ∷ 3 ∷ 0 ∷ []) ∷ (0 ∷ 0 ∷ 1 ∷ 3 ∷ 0 ∷ []) ∷ (0 ∷ 0 ∷ 1 ∷ 3 ∷ 0 ∷ []) ∷ [])
unfolding digit packed
if_else = refl

if_of_its_own : map (ends 3 ((Then (If (Local 0) (Then (point 1) (Then (Br 0) (point 2))) (Then (Br 0) (point 4))) (point 3)) ∷ [])) ((0 ∷ 0 ∷ []) ∷ (1 ∷ 0 ∷ []) ∷ (2 ∷ 7 ∷ []) ∷ (4294967295 ∷ 1 ∷ []) ∷ []) ≡ ((0 ∷ 0 ∷ 3 ∷ 0 ∷ 0 ∷ []) ∷ (0 ∷ 0 ∷ 1 ∷ 3 ∷ 0 ∷ []) ∷ (0 ∷ 0 ∷ 1 ∷ 3 ∷ 0 ∷ []) ∷ (0 ∷ 0 ∷ 1 ∷ 3 ∷ 0 ∷ []) ∷ [])
unfolding digit packed
if_of_its_own = refl

loop_falls_out : map (ends 7 ((Then (Loop (Then (point 1) (Then (If (Local 0) (Then (Set 0 (Two (Of I32 Sub) (Local 0) (Const32 1))) (Br 1)) Skip) (point 2)))) (point 3)) ∷ [])) ((0 ∷ 0 ∷ []) ∷ (1 ∷ 5 ∷ []) ∷ (3 ∷ 2 ∷ []) ∷ []) ≡ ((0 ∷ 0 ∷ 1 ∷ 2 ∷ 3 ∷ 0 ∷ 0 ∷ 0 ∷ 0 ∷ []) ∷ (0 ∷ 0 ∷ 1 ∷ 1 ∷ 2 ∷ 3 ∷ 0 ∷ 0 ∷ 0 ∷ []) ∷ (0 ∷ 0 ∷ 1 ∷ 1 ∷ 1 ∷ 1 ∷ 2 ∷ 3 ∷ 0 ∷ []) ∷ [])
unfolding digit packed
loop_falls_out = refl

loop_left : map (ends 5 ((Then (Block (Loop (Then (If (One (Eqz I32) (Local 0)) (Br 2) Skip) (Then (point 1) (Then (Set 0 (Two (Of I32 Sub) (Local 0) (Const32 1))) (Br 0)))))) (point 3)) ∷ [])) ((0 ∷ 0 ∷ []) ∷ (1 ∷ 5 ∷ []) ∷ (3 ∷ 2 ∷ []) ∷ []) ≡ ((0 ∷ 0 ∷ 3 ∷ 0 ∷ 0 ∷ 0 ∷ 0 ∷ []) ∷ (0 ∷ 0 ∷ 1 ∷ 3 ∷ 0 ∷ 0 ∷ 0 ∷ []) ∷ (0 ∷ 0 ∷ 1 ∷ 1 ∷ 1 ∷ 3 ∷ 0 ∷ []) ∷ [])
unfolding digit packed
loop_left = refl

ladder : map (ends 8 ((Block (Loop (Then (Block (Then (Block (Then (Block (BrTable (0 ∷ 1 ∷ []) 2 (Local 3))) (Then (point 1) (Then (Set 3 (Const32 1)) (Br 2))))) (Then (point 2) (Then (Set 0 (Two (Of I32 Sub) (Local 0) (Const32 1))) (Then (If (Local 0) (Set 3 (Const32 0)) (Set 3 (Const32 2))) (Br 1)))))) (Then (point 3) (Br 1))))) ∷ [])) ((1 ∷ 0 ∷ []) ∷ (2 ∷ 0 ∷ []) ∷ (3 ∷ 0 ∷ []) ∷ []) ≡ ((0 ∷ 0 ∷ 1 ∷ 2 ∷ 3 ∷ 0 ∷ 0 ∷ 0 ∷ 0 ∷ 0 ∷ []) ∷ (0 ∷ 0 ∷ 1 ∷ 2 ∷ 1 ∷ 2 ∷ 3 ∷ 0 ∷ 0 ∷ 0 ∷ []) ∷ (0 ∷ 0 ∷ 1 ∷ 2 ∷ 1 ∷ 2 ∷ 1 ∷ 2 ∷ 3 ∷ 0 ∷ []) ∷ [])
unfolding digit packed
ladder = refl

return_none : map (ends 4 ((Then (Loop (Then (point 1) (Then (If (Local 0) (Return None) Skip) (point 2)))) (point 3)) ∷ [])) ((0 ∷ 0 ∷ []) ∷ (1 ∷ 0 ∷ []) ∷ (2 ∷ 7 ∷ []) ∷ (4294967295 ∷ 1 ∷ []) ∷ []) ≡ ((0 ∷ 0 ∷ 1 ∷ 2 ∷ 3 ∷ 0 ∷ []) ∷ (0 ∷ 0 ∷ 1 ∷ 0 ∷ 0 ∷ 0 ∷ []) ∷ (0 ∷ 0 ∷ 1 ∷ 0 ∷ 0 ∷ 0 ∷ []) ∷ (0 ∷ 0 ∷ 1 ∷ 0 ∷ 0 ∷ 0 ∷ []) ∷ [])
unfolding digit packed
return_none = refl

return_value : map (ends 2 ((Then (Block (Then (If (Local 0) (Return (Some (Two (Of I32 Add) (Local 0) (Local 1)))) Skip) (point 1))) (Then (Return (Some (Const32 9))) Unreachable)) ∷ [])) ((0 ∷ 0 ∷ []) ∷ (1 ∷ 0 ∷ []) ∷ (2 ∷ 7 ∷ []) ∷ (4294967295 ∷ 1 ∷ []) ∷ []) ≡ ((1 ∷ 9 ∷ 1 ∷ 0 ∷ []) ∷ (1 ∷ 1 ∷ 0 ∷ 0 ∷ []) ∷ (1 ∷ 9 ∷ 0 ∷ 0 ∷ []) ∷ (1 ∷ 0 ∷ 0 ∷ 0 ∷ []) ∷ [])
unfolding digit packed
return_value = refl

unreachable : map (ends 4 ((Then (point 1) (Then (If (Local 0) Unreachable (point 2)) (point 3))) ∷ [])) ((0 ∷ 0 ∷ []) ∷ (1 ∷ 0 ∷ []) ∷ (2 ∷ 7 ∷ []) ∷ (4294967295 ∷ 1 ∷ []) ∷ []) ≡ ((0 ∷ 0 ∷ 1 ∷ 2 ∷ 3 ∷ 0 ∷ []) ∷ (2 ∷ 0 ∷ 1 ∷ 0 ∷ 0 ∷ 0 ∷ []) ∷ (2 ∷ 0 ∷ 1 ∷ 0 ∷ 0 ∷ 0 ∷ []) ∷ (2 ∷ 0 ∷ 1 ∷ 0 ∷ 0 ∷ 0 ∷ []) ∷ [])
unfolding digit packed
unreachable = refl

divide_by_zero : map (ends 3 ((Then (point 1) (Then (Divide I32 DivU 3 (Const32 7) (Local 0)) (point 2))) ∷ [])) ((0 ∷ 0 ∷ []) ∷ (1 ∷ 0 ∷ []) ∷ (2 ∷ 7 ∷ []) ∷ (4294967295 ∷ 1 ∷ []) ∷ []) ≡ ((2 ∷ 0 ∷ 1 ∷ 0 ∷ 0 ∷ []) ∷ (0 ∷ 0 ∷ 1 ∷ 2 ∷ 0 ∷ []) ∷ (0 ∷ 0 ∷ 1 ∷ 2 ∷ 0 ∷ []) ∷ (0 ∷ 0 ∷ 1 ∷ 2 ∷ 0 ∷ []) ∷ [])
unfolding digit packed
divide_by_zero = refl

load_at_the_end : map (ends 3 ((Then (point 1) (Then (Load 4 3 (Local 0) 0) (Then (point 2) (Then (Return (Some (Local 3))) Unreachable)))) ∷ [])) ((65532 ∷ 0 ∷ []) ∷ (65533 ∷ 0 ∷ []) ∷ (4294967295 ∷ 0 ∷ []) ∷ []) ≡ ((1 ∷ 0 ∷ 1 ∷ 2 ∷ 0 ∷ []) ∷ (2 ∷ 0 ∷ 1 ∷ 0 ∷ 0 ∷ []) ∷ (2 ∷ 0 ∷ 1 ∷ 0 ∷ 0 ∷ []) ∷ [])
unfolding digit packed
load_at_the_end = refl

offset_past_the_end : map (ends 2 ((Then (point 1) (Then (Load 1 3 (Local 0) 4294967295) (point 2))) ∷ [])) ((0 ∷ 0 ∷ []) ∷ (1 ∷ 0 ∷ []) ∷ (4294967295 ∷ 0 ∷ []) ∷ []) ≡ ((2 ∷ 0 ∷ 1 ∷ 0 ∷ []) ∷ (2 ∷ 0 ∷ 1 ∷ 0 ∷ []) ∷ (2 ∷ 0 ∷ 1 ∷ 0 ∷ []) ∷ [])
unfolding digit packed
offset_past_the_end = refl

store_at_the_end : map (ends 3 ((Then (point 1) (Then (Store 8 (Local 0) 8 (Const64 5)) (point 2))) ∷ [])) ((65520 ∷ 0 ∷ []) ∷ (65521 ∷ 0 ∷ []) ∷ (4294967288 ∷ 0 ∷ []) ∷ []) ≡ ((0 ∷ 0 ∷ 1 ∷ 2 ∷ 0 ∷ []) ∷ (2 ∷ 0 ∷ 1 ∷ 0 ∷ 0 ∷ []) ∷ (2 ∷ 0 ∷ 1 ∷ 0 ∷ 0 ∷ []) ∷ [])
unfolding digit packed
store_at_the_end = refl

clear : map (ends 6 ((Then (point 1) (Then (point 2) (Then (point 3) (Then (point 4) (Then (Clear (Local 0) (Local 1)) (point 5)))))) ∷ [])) ((0 ∷ 0 ∷ []) ∷ (0 ∷ 1 ∷ []) ∷ (1 ∷ 2 ∷ []) ∷ (3 ∷ 65533 ∷ []) ∷ (3 ∷ 65534 ∷ []) ∷ (65535 ∷ 1 ∷ []) ∷ (65535 ∷ 2 ∷ []) ∷ (65536 ∷ 0 ∷ []) ∷ (65537 ∷ 0 ∷ []) ∷ (1 ∷ 4294967295 ∷ []) ∷ (4294967295 ∷ 0 ∷ []) ∷ (4294967295 ∷ 1 ∷ []) ∷ []) ≡ ((0 ∷ 0 ∷ 1 ∷ 2 ∷ 3 ∷ 4 ∷ 5 ∷ 0 ∷ []) ∷ (0 ∷ 0 ∷ 0 ∷ 2 ∷ 3 ∷ 4 ∷ 5 ∷ 0 ∷ []) ∷ (0 ∷ 0 ∷ 1 ∷ 0 ∷ 0 ∷ 4 ∷ 5 ∷ 0 ∷ []) ∷ (0 ∷ 0 ∷ 1 ∷ 2 ∷ 3 ∷ 0 ∷ 5 ∷ 0 ∷ []) ∷ (2 ∷ 0 ∷ 1 ∷ 2 ∷ 3 ∷ 4 ∷ 0 ∷ 0 ∷ []) ∷ (0 ∷ 0 ∷ 1 ∷ 2 ∷ 3 ∷ 4 ∷ 5 ∷ 0 ∷ []) ∷ (2 ∷ 0 ∷ 1 ∷ 2 ∷ 3 ∷ 4 ∷ 0 ∷ 0 ∷ []) ∷ (0 ∷ 0 ∷ 1 ∷ 2 ∷ 3 ∷ 4 ∷ 5 ∷ 0 ∷ []) ∷ (2 ∷ 0 ∷ 1 ∷ 2 ∷ 3 ∷ 4 ∷ 0 ∷ 0 ∷ []) ∷ (2 ∷ 0 ∷ 1 ∷ 2 ∷ 3 ∷ 4 ∷ 0 ∷ 0 ∷ []) ∷ (2 ∷ 0 ∷ 1 ∷ 2 ∷ 3 ∷ 4 ∷ 0 ∷ 0 ∷ []) ∷ (2 ∷ 0 ∷ 1 ∷ 2 ∷ 3 ∷ 4 ∷ 0 ∷ 0 ∷ []) ∷ [])
unfolding digit packed
clear = refl

call_result : map (ends 3 ((Then (point 1) (Then (Call 1 ((Local 1) ∷ (Two (Of I32 Add) (Local 0) (Const32 1)) ∷ []) (Some 3)) (Then (point 2) (Then (Return (Some (Local 3))) Unreachable)))) ∷ (Then (Set 3 (Two (Of I32 Sub) (Local 0) (Local 1))) (Then (Return (Some (Local 3))) Unreachable)) ∷ [])) ((0 ∷ 0 ∷ []) ∷ (1 ∷ 5 ∷ []) ∷ (3 ∷ 2 ∷ []) ∷ []) ≡ ((1 ∷ 4294967295 ∷ 1 ∷ 2 ∷ 0 ∷ []) ∷ (1 ∷ 3 ∷ 1 ∷ 2 ∷ 0 ∷ []) ∷ (1 ∷ 4294967294 ∷ 1 ∷ 2 ∷ 0 ∷ []) ∷ [])
unfolding digit packed
call_result = refl

call_has_its_locals : map (ends 2 ((Then (Set 3 (Const32 4)) (Then (Call 1 ((Local 0) ∷ (Local 1) ∷ []) None) (Then (Return (Some (Local 3))) Unreachable))) ∷ (Then (Store 1 (Local 2) 0 (Two (Of I32 Add) (Local 3) (Const32 6))) (Then (Set 3 (Const32 8)) (Then (Br 0) Unreachable))) ∷ [])) ((0 ∷ 0 ∷ []) ∷ (1 ∷ 5 ∷ []) ∷ (3 ∷ 2 ∷ []) ∷ []) ≡ ((1 ∷ 4 ∷ 6 ∷ 0 ∷ []) ∷ (1 ∷ 4 ∷ 6 ∷ 0 ∷ []) ∷ (1 ∷ 4 ∷ 6 ∷ 0 ∷ []) ∷ [])
unfolding digit packed
call_has_its_locals = refl

globals_stay : map (ends 1 ((Then (SetGlobal 1 (Local 0)) (Then (Call 1 ((Local 1) ∷ (Local 0) ∷ []) None) (Then (GetGlobal 3 2) (Then (Return (Some (Two (Of I32 Add) (Local 3) (Local 1)))) Unreachable)))) ∷ (Then (GetGlobal 3 1) (Then (SetGlobal 2 (Two (Of I32 Add) (Local 3) (Local 0))) (Then (SetGlobal 1 (Const32 3)) (Return None)))) ∷ [])) ((0 ∷ 0 ∷ []) ∷ (1 ∷ 5 ∷ []) ∷ (3 ∷ 2 ∷ []) ∷ []) ≡ ((1 ∷ 0 ∷ 0 ∷ []) ∷ (1 ∷ 11 ∷ 0 ∷ []) ∷ (1 ∷ 7 ∷ 0 ∷ []) ∷ [])
unfolding digit packed
globals_stay = refl

call_traps : map (ends 3 ((Then (point 1) (Then (Call 1 ((Local 0) ∷ (Local 1) ∷ []) None) (point 2))) ∷ (Then (Set 2 (Const32 1)) (Then (point 3) (If (Local 0) Unreachable Skip))) ∷ [])) ((0 ∷ 0 ∷ []) ∷ (1 ∷ 5 ∷ []) ∷ (3 ∷ 2 ∷ []) ∷ []) ≡ ((0 ∷ 0 ∷ 1 ∷ 2 ∷ 0 ∷ []) ∷ (2 ∷ 0 ∷ 1 ∷ 3 ∷ 0 ∷ []) ∷ (2 ∷ 0 ∷ 1 ∷ 3 ∷ 0 ∷ []) ∷ [])
unfolding digit packed
call_traps = refl

call_of_itself : map (ends 1 ((Then (Call 1 ((Local 0) ∷ (Local 1) ∷ []) (Some 3)) (Then (Return (Some (Local 3))) Unreachable)) ∷ (Then (If (Local 0) Skip (Return (Some (Const32 1)))) (Then (Call 1 ((Two (Of I32 Sub) (Local 0) (Const32 1)) ∷ (Local 1) ∷ []) (Some 3)) (Then (Return (Some (Two (Of I32 Mul) (Local 1) (Local 3)))) Unreachable))) ∷ [])) ((0 ∷ 0 ∷ []) ∷ (1 ∷ 5 ∷ []) ∷ (3 ∷ 2 ∷ []) ∷ []) ≡ ((1 ∷ 1 ∷ 0 ∷ []) ∷ (1 ∷ 5 ∷ 0 ∷ []) ∷ (1 ∷ 8 ∷ 0 ∷ []) ∷ [])
unfolding digit packed
call_of_itself = refl

br_0_block_block_block : map (ends 12 ((Then (Block (Then (point 1) (Then (Then (Block (Then (point 2) (Then (Then (Block (Then (point 3) (Then (Then (If (Local 0) (Then (Set 0 (Two (Of I32 Sub) (Local 0) (Const32 1))) (Br 0)) (point 10)) (point 11)) (point 6)))) (point 9)) (point 5)))) (point 8)) (point 4)))) (point 7)) ∷ [])) ((0 ∷ 0 ∷ []) ∷ (1 ∷ 0 ∷ []) ∷ (2 ∷ 0 ∷ []) ∷ []) ≡ ((0 ∷ 0 ∷ 1 ∷ 2 ∷ 3 ∷ 10 ∷ 11 ∷ 6 ∷ 9 ∷ 5 ∷ 8 ∷ 4 ∷ 7 ∷ 0 ∷ []) ∷ (0 ∷ 0 ∷ 1 ∷ 2 ∷ 3 ∷ 11 ∷ 6 ∷ 9 ∷ 5 ∷ 8 ∷ 4 ∷ 7 ∷ 0 ∷ 0 ∷ []) ∷ (0 ∷ 0 ∷ 1 ∷ 2 ∷ 3 ∷ 11 ∷ 6 ∷ 9 ∷ 5 ∷ 8 ∷ 4 ∷ 7 ∷ 0 ∷ 0 ∷ []) ∷ [])
unfolding digit packed
br_0_block_block_block = refl

br_1_block_block_block : map (ends 12 ((Then (Block (Then (point 1) (Then (Then (Block (Then (point 2) (Then (Then (Block (Then (point 3) (Then (Then (If (Local 0) (Then (Set 0 (Two (Of I32 Sub) (Local 0) (Const32 1))) (Br 1)) (point 10)) (point 11)) (point 6)))) (point 9)) (point 5)))) (point 8)) (point 4)))) (point 7)) ∷ [])) ((0 ∷ 0 ∷ []) ∷ (1 ∷ 0 ∷ []) ∷ (2 ∷ 0 ∷ []) ∷ []) ≡ ((0 ∷ 0 ∷ 1 ∷ 2 ∷ 3 ∷ 10 ∷ 11 ∷ 6 ∷ 9 ∷ 5 ∷ 8 ∷ 4 ∷ 7 ∷ 0 ∷ []) ∷ (0 ∷ 0 ∷ 1 ∷ 2 ∷ 3 ∷ 9 ∷ 5 ∷ 8 ∷ 4 ∷ 7 ∷ 0 ∷ 0 ∷ 0 ∷ 0 ∷ []) ∷ (0 ∷ 0 ∷ 1 ∷ 2 ∷ 3 ∷ 9 ∷ 5 ∷ 8 ∷ 4 ∷ 7 ∷ 0 ∷ 0 ∷ 0 ∷ 0 ∷ []) ∷ [])
unfolding digit packed
br_1_block_block_block = refl

br_2_block_block_block : map (ends 12 ((Then (Block (Then (point 1) (Then (Then (Block (Then (point 2) (Then (Then (Block (Then (point 3) (Then (Then (If (Local 0) (Then (Set 0 (Two (Of I32 Sub) (Local 0) (Const32 1))) (Br 2)) (point 10)) (point 11)) (point 6)))) (point 9)) (point 5)))) (point 8)) (point 4)))) (point 7)) ∷ [])) ((0 ∷ 0 ∷ []) ∷ (1 ∷ 0 ∷ []) ∷ (2 ∷ 0 ∷ []) ∷ []) ≡ ((0 ∷ 0 ∷ 1 ∷ 2 ∷ 3 ∷ 10 ∷ 11 ∷ 6 ∷ 9 ∷ 5 ∷ 8 ∷ 4 ∷ 7 ∷ 0 ∷ []) ∷ (0 ∷ 0 ∷ 1 ∷ 2 ∷ 3 ∷ 8 ∷ 4 ∷ 7 ∷ 0 ∷ 0 ∷ 0 ∷ 0 ∷ 0 ∷ 0 ∷ []) ∷ (0 ∷ 0 ∷ 1 ∷ 2 ∷ 3 ∷ 8 ∷ 4 ∷ 7 ∷ 0 ∷ 0 ∷ 0 ∷ 0 ∷ 0 ∷ 0 ∷ []) ∷ [])
unfolding digit packed
br_2_block_block_block = refl

br_3_block_block_block : map (ends 12 ((Then (Block (Then (point 1) (Then (Then (Block (Then (point 2) (Then (Then (Block (Then (point 3) (Then (Then (If (Local 0) (Then (Set 0 (Two (Of I32 Sub) (Local 0) (Const32 1))) (Br 3)) (point 10)) (point 11)) (point 6)))) (point 9)) (point 5)))) (point 8)) (point 4)))) (point 7)) ∷ [])) ((0 ∷ 0 ∷ []) ∷ (1 ∷ 0 ∷ []) ∷ (2 ∷ 0 ∷ []) ∷ []) ≡ ((0 ∷ 0 ∷ 1 ∷ 2 ∷ 3 ∷ 10 ∷ 11 ∷ 6 ∷ 9 ∷ 5 ∷ 8 ∷ 4 ∷ 7 ∷ 0 ∷ []) ∷ (0 ∷ 0 ∷ 1 ∷ 2 ∷ 3 ∷ 7 ∷ 0 ∷ 0 ∷ 0 ∷ 0 ∷ 0 ∷ 0 ∷ 0 ∷ 0 ∷ []) ∷ (0 ∷ 0 ∷ 1 ∷ 2 ∷ 3 ∷ 7 ∷ 0 ∷ 0 ∷ 0 ∷ 0 ∷ 0 ∷ 0 ∷ 0 ∷ 0 ∷ []) ∷ [])
unfolding digit packed
br_3_block_block_block = refl

br_4_block_block_block : map (ends 12 ((Then (Block (Then (point 1) (Then (Then (Block (Then (point 2) (Then (Then (Block (Then (point 3) (Then (Then (If (Local 0) (Then (Set 0 (Two (Of I32 Sub) (Local 0) (Const32 1))) (Br 4)) (point 10)) (point 11)) (point 6)))) (point 9)) (point 5)))) (point 8)) (point 4)))) (point 7)) ∷ [])) ((0 ∷ 0 ∷ []) ∷ (1 ∷ 0 ∷ []) ∷ (2 ∷ 0 ∷ []) ∷ []) ≡ ((0 ∷ 0 ∷ 1 ∷ 2 ∷ 3 ∷ 10 ∷ 11 ∷ 6 ∷ 9 ∷ 5 ∷ 8 ∷ 4 ∷ 7 ∷ 0 ∷ []) ∷ (0 ∷ 0 ∷ 1 ∷ 2 ∷ 3 ∷ 0 ∷ 0 ∷ 0 ∷ 0 ∷ 0 ∷ 0 ∷ 0 ∷ 0 ∷ 0 ∷ []) ∷ (0 ∷ 0 ∷ 1 ∷ 2 ∷ 3 ∷ 0 ∷ 0 ∷ 0 ∷ 0 ∷ 0 ∷ 0 ∷ 0 ∷ 0 ∷ 0 ∷ []) ∷ [])
unfolding digit packed
br_4_block_block_block = refl

br_table_block_block_block : map (ends 11 ((Then (Block (Then (point 1) (Then (Then (Block (Then (point 2) (Then (Then (Block (Then (point 3) (Then (Then (If (Local 0) (Then (Set 0 (Two (Of I32 Sub) (Local 0) (Const32 1))) (BrTable (0 ∷ 3 ∷ 2 ∷ 1 ∷ []) 4 (Local 1))) (point 10)) (point 11)) (point 6)))) (point 9)) (point 5)))) (point 8)) (point 4)))) (point 7)) ∷ [])) ((1 ∷ 0 ∷ []) ∷ (1 ∷ 1 ∷ []) ∷ (1 ∷ 2 ∷ []) ∷ (1 ∷ 3 ∷ []) ∷ (1 ∷ 4 ∷ []) ∷ (1 ∷ 4294967295 ∷ []) ∷ []) ≡ ((0 ∷ 0 ∷ 1 ∷ 2 ∷ 3 ∷ 11 ∷ 6 ∷ 9 ∷ 5 ∷ 8 ∷ 4 ∷ 7 ∷ 0 ∷ []) ∷ (0 ∷ 0 ∷ 1 ∷ 2 ∷ 3 ∷ 7 ∷ 0 ∷ 0 ∷ 0 ∷ 0 ∷ 0 ∷ 0 ∷ 0 ∷ []) ∷ (0 ∷ 0 ∷ 1 ∷ 2 ∷ 3 ∷ 8 ∷ 4 ∷ 7 ∷ 0 ∷ 0 ∷ 0 ∷ 0 ∷ 0 ∷ []) ∷ (0 ∷ 0 ∷ 1 ∷ 2 ∷ 3 ∷ 9 ∷ 5 ∷ 8 ∷ 4 ∷ 7 ∷ 0 ∷ 0 ∷ 0 ∷ []) ∷ (0 ∷ 0 ∷ 1 ∷ 2 ∷ 3 ∷ 0 ∷ 0 ∷ 0 ∷ 0 ∷ 0 ∷ 0 ∷ 0 ∷ 0 ∷ []) ∷ (0 ∷ 0 ∷ 1 ∷ 2 ∷ 3 ∷ 0 ∷ 0 ∷ 0 ∷ 0 ∷ 0 ∷ 0 ∷ 0 ∷ 0 ∷ []) ∷ [])
unfolding digit packed
br_table_block_block_block = refl

br_0_block_block_loop : map (ends 12 ((Then (Block (Then (point 1) (Then (Then (Block (Then (point 2) (Then (Then (Loop (Then (point 3) (Then (Then (If (Local 0) (Then (Set 0 (Two (Of I32 Sub) (Local 0) (Const32 1))) (Br 0)) (point 10)) (point 11)) (point 6)))) (point 9)) (point 5)))) (point 8)) (point 4)))) (point 7)) ∷ [])) ((0 ∷ 0 ∷ []) ∷ (1 ∷ 0 ∷ []) ∷ (2 ∷ 0 ∷ []) ∷ []) ≡ ((0 ∷ 0 ∷ 1 ∷ 2 ∷ 3 ∷ 10 ∷ 11 ∷ 6 ∷ 9 ∷ 5 ∷ 8 ∷ 4 ∷ 7 ∷ 0 ∷ []) ∷ (0 ∷ 0 ∷ 1 ∷ 2 ∷ 3 ∷ 11 ∷ 6 ∷ 9 ∷ 5 ∷ 8 ∷ 4 ∷ 7 ∷ 0 ∷ 0 ∷ []) ∷ (0 ∷ 0 ∷ 1 ∷ 2 ∷ 3 ∷ 11 ∷ 6 ∷ 9 ∷ 5 ∷ 8 ∷ 4 ∷ 7 ∷ 0 ∷ 0 ∷ []) ∷ [])
unfolding digit packed
br_0_block_block_loop = refl

br_1_block_block_loop : map (ends 14 ((Then (Block (Then (point 1) (Then (Then (Block (Then (point 2) (Then (Then (Loop (Then (point 3) (Then (Then (If (Local 0) (Then (Set 0 (Two (Of I32 Sub) (Local 0) (Const32 1))) (Br 1)) (point 10)) (point 11)) (point 6)))) (point 9)) (point 5)))) (point 8)) (point 4)))) (point 7)) ∷ [])) ((0 ∷ 0 ∷ []) ∷ (1 ∷ 0 ∷ []) ∷ (2 ∷ 0 ∷ []) ∷ []) ≡ ((0 ∷ 0 ∷ 1 ∷ 2 ∷ 3 ∷ 10 ∷ 11 ∷ 6 ∷ 9 ∷ 5 ∷ 8 ∷ 4 ∷ 7 ∷ 0 ∷ 0 ∷ 0 ∷ []) ∷ (0 ∷ 0 ∷ 1 ∷ 2 ∷ 3 ∷ 3 ∷ 10 ∷ 11 ∷ 6 ∷ 9 ∷ 5 ∷ 8 ∷ 4 ∷ 7 ∷ 0 ∷ 0 ∷ []) ∷ (0 ∷ 0 ∷ 1 ∷ 2 ∷ 3 ∷ 3 ∷ 3 ∷ 10 ∷ 11 ∷ 6 ∷ 9 ∷ 5 ∷ 8 ∷ 4 ∷ 7 ∷ 0 ∷ []) ∷ [])
unfolding digit packed
br_1_block_block_loop = refl

br_2_block_block_loop : map (ends 12 ((Then (Block (Then (point 1) (Then (Then (Block (Then (point 2) (Then (Then (Loop (Then (point 3) (Then (Then (If (Local 0) (Then (Set 0 (Two (Of I32 Sub) (Local 0) (Const32 1))) (Br 2)) (point 10)) (point 11)) (point 6)))) (point 9)) (point 5)))) (point 8)) (point 4)))) (point 7)) ∷ [])) ((0 ∷ 0 ∷ []) ∷ (1 ∷ 0 ∷ []) ∷ (2 ∷ 0 ∷ []) ∷ []) ≡ ((0 ∷ 0 ∷ 1 ∷ 2 ∷ 3 ∷ 10 ∷ 11 ∷ 6 ∷ 9 ∷ 5 ∷ 8 ∷ 4 ∷ 7 ∷ 0 ∷ []) ∷ (0 ∷ 0 ∷ 1 ∷ 2 ∷ 3 ∷ 8 ∷ 4 ∷ 7 ∷ 0 ∷ 0 ∷ 0 ∷ 0 ∷ 0 ∷ 0 ∷ []) ∷ (0 ∷ 0 ∷ 1 ∷ 2 ∷ 3 ∷ 8 ∷ 4 ∷ 7 ∷ 0 ∷ 0 ∷ 0 ∷ 0 ∷ 0 ∷ 0 ∷ []) ∷ [])
unfolding digit packed
br_2_block_block_loop = refl

br_3_block_block_loop : map (ends 12 ((Then (Block (Then (point 1) (Then (Then (Block (Then (point 2) (Then (Then (Loop (Then (point 3) (Then (Then (If (Local 0) (Then (Set 0 (Two (Of I32 Sub) (Local 0) (Const32 1))) (Br 3)) (point 10)) (point 11)) (point 6)))) (point 9)) (point 5)))) (point 8)) (point 4)))) (point 7)) ∷ [])) ((0 ∷ 0 ∷ []) ∷ (1 ∷ 0 ∷ []) ∷ (2 ∷ 0 ∷ []) ∷ []) ≡ ((0 ∷ 0 ∷ 1 ∷ 2 ∷ 3 ∷ 10 ∷ 11 ∷ 6 ∷ 9 ∷ 5 ∷ 8 ∷ 4 ∷ 7 ∷ 0 ∷ []) ∷ (0 ∷ 0 ∷ 1 ∷ 2 ∷ 3 ∷ 7 ∷ 0 ∷ 0 ∷ 0 ∷ 0 ∷ 0 ∷ 0 ∷ 0 ∷ 0 ∷ []) ∷ (0 ∷ 0 ∷ 1 ∷ 2 ∷ 3 ∷ 7 ∷ 0 ∷ 0 ∷ 0 ∷ 0 ∷ 0 ∷ 0 ∷ 0 ∷ 0 ∷ []) ∷ [])
unfolding digit packed
br_3_block_block_loop = refl

br_4_block_block_loop : map (ends 12 ((Then (Block (Then (point 1) (Then (Then (Block (Then (point 2) (Then (Then (Loop (Then (point 3) (Then (Then (If (Local 0) (Then (Set 0 (Two (Of I32 Sub) (Local 0) (Const32 1))) (Br 4)) (point 10)) (point 11)) (point 6)))) (point 9)) (point 5)))) (point 8)) (point 4)))) (point 7)) ∷ [])) ((0 ∷ 0 ∷ []) ∷ (1 ∷ 0 ∷ []) ∷ (2 ∷ 0 ∷ []) ∷ []) ≡ ((0 ∷ 0 ∷ 1 ∷ 2 ∷ 3 ∷ 10 ∷ 11 ∷ 6 ∷ 9 ∷ 5 ∷ 8 ∷ 4 ∷ 7 ∷ 0 ∷ []) ∷ (0 ∷ 0 ∷ 1 ∷ 2 ∷ 3 ∷ 0 ∷ 0 ∷ 0 ∷ 0 ∷ 0 ∷ 0 ∷ 0 ∷ 0 ∷ 0 ∷ []) ∷ (0 ∷ 0 ∷ 1 ∷ 2 ∷ 3 ∷ 0 ∷ 0 ∷ 0 ∷ 0 ∷ 0 ∷ 0 ∷ 0 ∷ 0 ∷ 0 ∷ []) ∷ [])
unfolding digit packed
br_4_block_block_loop = refl

br_table_block_block_loop : map (ends 13 ((Then (Block (Then (point 1) (Then (Then (Block (Then (point 2) (Then (Then (Loop (Then (point 3) (Then (Then (If (Local 0) (Then (Set 0 (Two (Of I32 Sub) (Local 0) (Const32 1))) (BrTable (0 ∷ 3 ∷ 2 ∷ 1 ∷ []) 4 (Local 1))) (point 10)) (point 11)) (point 6)))) (point 9)) (point 5)))) (point 8)) (point 4)))) (point 7)) ∷ [])) ((1 ∷ 0 ∷ []) ∷ (1 ∷ 1 ∷ []) ∷ (1 ∷ 2 ∷ []) ∷ (1 ∷ 3 ∷ []) ∷ (1 ∷ 4 ∷ []) ∷ (1 ∷ 4294967295 ∷ []) ∷ []) ≡ ((0 ∷ 0 ∷ 1 ∷ 2 ∷ 3 ∷ 11 ∷ 6 ∷ 9 ∷ 5 ∷ 8 ∷ 4 ∷ 7 ∷ 0 ∷ 0 ∷ 0 ∷ []) ∷ (0 ∷ 0 ∷ 1 ∷ 2 ∷ 3 ∷ 7 ∷ 0 ∷ 0 ∷ 0 ∷ 0 ∷ 0 ∷ 0 ∷ 0 ∷ 0 ∷ 0 ∷ []) ∷ (0 ∷ 0 ∷ 1 ∷ 2 ∷ 3 ∷ 8 ∷ 4 ∷ 7 ∷ 0 ∷ 0 ∷ 0 ∷ 0 ∷ 0 ∷ 0 ∷ 0 ∷ []) ∷ (0 ∷ 0 ∷ 1 ∷ 2 ∷ 3 ∷ 3 ∷ 10 ∷ 11 ∷ 6 ∷ 9 ∷ 5 ∷ 8 ∷ 4 ∷ 7 ∷ 0 ∷ []) ∷ (0 ∷ 0 ∷ 1 ∷ 2 ∷ 3 ∷ 0 ∷ 0 ∷ 0 ∷ 0 ∷ 0 ∷ 0 ∷ 0 ∷ 0 ∷ 0 ∷ 0 ∷ []) ∷ (0 ∷ 0 ∷ 1 ∷ 2 ∷ 3 ∷ 0 ∷ 0 ∷ 0 ∷ 0 ∷ 0 ∷ 0 ∷ 0 ∷ 0 ∷ 0 ∷ 0 ∷ []) ∷ [])
unfolding digit packed
br_table_block_block_loop = refl

br_0_block_block_if : map (ends 12 ((Then (Block (Then (point 1) (Then (Then (Block (Then (point 2) (Then (Then (If (Const32 1) (Then (point 3) (Then (Then (If (Local 0) (Then (Set 0 (Two (Of I32 Sub) (Local 0) (Const32 1))) (Br 0)) (point 10)) (point 11)) (point 6))) Skip) (point 9)) (point 5)))) (point 8)) (point 4)))) (point 7)) ∷ [])) ((0 ∷ 0 ∷ []) ∷ (1 ∷ 0 ∷ []) ∷ (2 ∷ 0 ∷ []) ∷ []) ≡ ((0 ∷ 0 ∷ 1 ∷ 2 ∷ 3 ∷ 10 ∷ 11 ∷ 6 ∷ 9 ∷ 5 ∷ 8 ∷ 4 ∷ 7 ∷ 0 ∷ []) ∷ (0 ∷ 0 ∷ 1 ∷ 2 ∷ 3 ∷ 11 ∷ 6 ∷ 9 ∷ 5 ∷ 8 ∷ 4 ∷ 7 ∷ 0 ∷ 0 ∷ []) ∷ (0 ∷ 0 ∷ 1 ∷ 2 ∷ 3 ∷ 11 ∷ 6 ∷ 9 ∷ 5 ∷ 8 ∷ 4 ∷ 7 ∷ 0 ∷ 0 ∷ []) ∷ [])
unfolding digit packed
br_0_block_block_if = refl

br_1_block_block_if : map (ends 12 ((Then (Block (Then (point 1) (Then (Then (Block (Then (point 2) (Then (Then (If (Const32 1) (Then (point 3) (Then (Then (If (Local 0) (Then (Set 0 (Two (Of I32 Sub) (Local 0) (Const32 1))) (Br 1)) (point 10)) (point 11)) (point 6))) Skip) (point 9)) (point 5)))) (point 8)) (point 4)))) (point 7)) ∷ [])) ((0 ∷ 0 ∷ []) ∷ (1 ∷ 0 ∷ []) ∷ (2 ∷ 0 ∷ []) ∷ []) ≡ ((0 ∷ 0 ∷ 1 ∷ 2 ∷ 3 ∷ 10 ∷ 11 ∷ 6 ∷ 9 ∷ 5 ∷ 8 ∷ 4 ∷ 7 ∷ 0 ∷ []) ∷ (0 ∷ 0 ∷ 1 ∷ 2 ∷ 3 ∷ 9 ∷ 5 ∷ 8 ∷ 4 ∷ 7 ∷ 0 ∷ 0 ∷ 0 ∷ 0 ∷ []) ∷ (0 ∷ 0 ∷ 1 ∷ 2 ∷ 3 ∷ 9 ∷ 5 ∷ 8 ∷ 4 ∷ 7 ∷ 0 ∷ 0 ∷ 0 ∷ 0 ∷ []) ∷ [])
unfolding digit packed
br_1_block_block_if = refl

br_2_block_block_if : map (ends 12 ((Then (Block (Then (point 1) (Then (Then (Block (Then (point 2) (Then (Then (If (Const32 1) (Then (point 3) (Then (Then (If (Local 0) (Then (Set 0 (Two (Of I32 Sub) (Local 0) (Const32 1))) (Br 2)) (point 10)) (point 11)) (point 6))) Skip) (point 9)) (point 5)))) (point 8)) (point 4)))) (point 7)) ∷ [])) ((0 ∷ 0 ∷ []) ∷ (1 ∷ 0 ∷ []) ∷ (2 ∷ 0 ∷ []) ∷ []) ≡ ((0 ∷ 0 ∷ 1 ∷ 2 ∷ 3 ∷ 10 ∷ 11 ∷ 6 ∷ 9 ∷ 5 ∷ 8 ∷ 4 ∷ 7 ∷ 0 ∷ []) ∷ (0 ∷ 0 ∷ 1 ∷ 2 ∷ 3 ∷ 8 ∷ 4 ∷ 7 ∷ 0 ∷ 0 ∷ 0 ∷ 0 ∷ 0 ∷ 0 ∷ []) ∷ (0 ∷ 0 ∷ 1 ∷ 2 ∷ 3 ∷ 8 ∷ 4 ∷ 7 ∷ 0 ∷ 0 ∷ 0 ∷ 0 ∷ 0 ∷ 0 ∷ []) ∷ [])
unfolding digit packed
br_2_block_block_if = refl

br_3_block_block_if : map (ends 12 ((Then (Block (Then (point 1) (Then (Then (Block (Then (point 2) (Then (Then (If (Const32 1) (Then (point 3) (Then (Then (If (Local 0) (Then (Set 0 (Two (Of I32 Sub) (Local 0) (Const32 1))) (Br 3)) (point 10)) (point 11)) (point 6))) Skip) (point 9)) (point 5)))) (point 8)) (point 4)))) (point 7)) ∷ [])) ((0 ∷ 0 ∷ []) ∷ (1 ∷ 0 ∷ []) ∷ (2 ∷ 0 ∷ []) ∷ []) ≡ ((0 ∷ 0 ∷ 1 ∷ 2 ∷ 3 ∷ 10 ∷ 11 ∷ 6 ∷ 9 ∷ 5 ∷ 8 ∷ 4 ∷ 7 ∷ 0 ∷ []) ∷ (0 ∷ 0 ∷ 1 ∷ 2 ∷ 3 ∷ 7 ∷ 0 ∷ 0 ∷ 0 ∷ 0 ∷ 0 ∷ 0 ∷ 0 ∷ 0 ∷ []) ∷ (0 ∷ 0 ∷ 1 ∷ 2 ∷ 3 ∷ 7 ∷ 0 ∷ 0 ∷ 0 ∷ 0 ∷ 0 ∷ 0 ∷ 0 ∷ 0 ∷ []) ∷ [])
unfolding digit packed
br_3_block_block_if = refl

br_4_block_block_if : map (ends 12 ((Then (Block (Then (point 1) (Then (Then (Block (Then (point 2) (Then (Then (If (Const32 1) (Then (point 3) (Then (Then (If (Local 0) (Then (Set 0 (Two (Of I32 Sub) (Local 0) (Const32 1))) (Br 4)) (point 10)) (point 11)) (point 6))) Skip) (point 9)) (point 5)))) (point 8)) (point 4)))) (point 7)) ∷ [])) ((0 ∷ 0 ∷ []) ∷ (1 ∷ 0 ∷ []) ∷ (2 ∷ 0 ∷ []) ∷ []) ≡ ((0 ∷ 0 ∷ 1 ∷ 2 ∷ 3 ∷ 10 ∷ 11 ∷ 6 ∷ 9 ∷ 5 ∷ 8 ∷ 4 ∷ 7 ∷ 0 ∷ []) ∷ (0 ∷ 0 ∷ 1 ∷ 2 ∷ 3 ∷ 0 ∷ 0 ∷ 0 ∷ 0 ∷ 0 ∷ 0 ∷ 0 ∷ 0 ∷ 0 ∷ []) ∷ (0 ∷ 0 ∷ 1 ∷ 2 ∷ 3 ∷ 0 ∷ 0 ∷ 0 ∷ 0 ∷ 0 ∷ 0 ∷ 0 ∷ 0 ∷ 0 ∷ []) ∷ [])
unfolding digit packed
br_4_block_block_if = refl

br_table_block_block_if : map (ends 11 ((Then (Block (Then (point 1) (Then (Then (Block (Then (point 2) (Then (Then (If (Const32 1) (Then (point 3) (Then (Then (If (Local 0) (Then (Set 0 (Two (Of I32 Sub) (Local 0) (Const32 1))) (BrTable (0 ∷ 3 ∷ 2 ∷ 1 ∷ []) 4 (Local 1))) (point 10)) (point 11)) (point 6))) Skip) (point 9)) (point 5)))) (point 8)) (point 4)))) (point 7)) ∷ [])) ((1 ∷ 0 ∷ []) ∷ (1 ∷ 1 ∷ []) ∷ (1 ∷ 2 ∷ []) ∷ (1 ∷ 3 ∷ []) ∷ (1 ∷ 4 ∷ []) ∷ (1 ∷ 4294967295 ∷ []) ∷ []) ≡ ((0 ∷ 0 ∷ 1 ∷ 2 ∷ 3 ∷ 11 ∷ 6 ∷ 9 ∷ 5 ∷ 8 ∷ 4 ∷ 7 ∷ 0 ∷ []) ∷ (0 ∷ 0 ∷ 1 ∷ 2 ∷ 3 ∷ 7 ∷ 0 ∷ 0 ∷ 0 ∷ 0 ∷ 0 ∷ 0 ∷ 0 ∷ []) ∷ (0 ∷ 0 ∷ 1 ∷ 2 ∷ 3 ∷ 8 ∷ 4 ∷ 7 ∷ 0 ∷ 0 ∷ 0 ∷ 0 ∷ 0 ∷ []) ∷ (0 ∷ 0 ∷ 1 ∷ 2 ∷ 3 ∷ 9 ∷ 5 ∷ 8 ∷ 4 ∷ 7 ∷ 0 ∷ 0 ∷ 0 ∷ []) ∷ (0 ∷ 0 ∷ 1 ∷ 2 ∷ 3 ∷ 0 ∷ 0 ∷ 0 ∷ 0 ∷ 0 ∷ 0 ∷ 0 ∷ 0 ∷ []) ∷ (0 ∷ 0 ∷ 1 ∷ 2 ∷ 3 ∷ 0 ∷ 0 ∷ 0 ∷ 0 ∷ 0 ∷ 0 ∷ 0 ∷ 0 ∷ []) ∷ [])
unfolding digit packed
br_table_block_block_if = refl

br_0_block_loop_block : map (ends 12 ((Then (Block (Then (point 1) (Then (Then (Loop (Then (point 2) (Then (Then (Block (Then (point 3) (Then (Then (If (Local 0) (Then (Set 0 (Two (Of I32 Sub) (Local 0) (Const32 1))) (Br 0)) (point 10)) (point 11)) (point 6)))) (point 9)) (point 5)))) (point 8)) (point 4)))) (point 7)) ∷ [])) ((0 ∷ 0 ∷ []) ∷ (1 ∷ 0 ∷ []) ∷ (2 ∷ 0 ∷ []) ∷ []) ≡ ((0 ∷ 0 ∷ 1 ∷ 2 ∷ 3 ∷ 10 ∷ 11 ∷ 6 ∷ 9 ∷ 5 ∷ 8 ∷ 4 ∷ 7 ∷ 0 ∷ []) ∷ (0 ∷ 0 ∷ 1 ∷ 2 ∷ 3 ∷ 11 ∷ 6 ∷ 9 ∷ 5 ∷ 8 ∷ 4 ∷ 7 ∷ 0 ∷ 0 ∷ []) ∷ (0 ∷ 0 ∷ 1 ∷ 2 ∷ 3 ∷ 11 ∷ 6 ∷ 9 ∷ 5 ∷ 8 ∷ 4 ∷ 7 ∷ 0 ∷ 0 ∷ []) ∷ [])
unfolding digit packed
br_0_block_loop_block = refl

br_1_block_loop_block : map (ends 12 ((Then (Block (Then (point 1) (Then (Then (Loop (Then (point 2) (Then (Then (Block (Then (point 3) (Then (Then (If (Local 0) (Then (Set 0 (Two (Of I32 Sub) (Local 0) (Const32 1))) (Br 1)) (point 10)) (point 11)) (point 6)))) (point 9)) (point 5)))) (point 8)) (point 4)))) (point 7)) ∷ [])) ((0 ∷ 0 ∷ []) ∷ (1 ∷ 0 ∷ []) ∷ (2 ∷ 0 ∷ []) ∷ []) ≡ ((0 ∷ 0 ∷ 1 ∷ 2 ∷ 3 ∷ 10 ∷ 11 ∷ 6 ∷ 9 ∷ 5 ∷ 8 ∷ 4 ∷ 7 ∷ 0 ∷ []) ∷ (0 ∷ 0 ∷ 1 ∷ 2 ∷ 3 ∷ 9 ∷ 5 ∷ 8 ∷ 4 ∷ 7 ∷ 0 ∷ 0 ∷ 0 ∷ 0 ∷ []) ∷ (0 ∷ 0 ∷ 1 ∷ 2 ∷ 3 ∷ 9 ∷ 5 ∷ 8 ∷ 4 ∷ 7 ∷ 0 ∷ 0 ∷ 0 ∷ 0 ∷ []) ∷ [])
unfolding digit packed
br_1_block_loop_block = refl

br_2_block_loop_block : map (ends 16 ((Then (Block (Then (point 1) (Then (Then (Loop (Then (point 2) (Then (Then (Block (Then (point 3) (Then (Then (If (Local 0) (Then (Set 0 (Two (Of I32 Sub) (Local 0) (Const32 1))) (Br 2)) (point 10)) (point 11)) (point 6)))) (point 9)) (point 5)))) (point 8)) (point 4)))) (point 7)) ∷ [])) ((0 ∷ 0 ∷ []) ∷ (1 ∷ 0 ∷ []) ∷ (2 ∷ 0 ∷ []) ∷ []) ≡ ((0 ∷ 0 ∷ 1 ∷ 2 ∷ 3 ∷ 10 ∷ 11 ∷ 6 ∷ 9 ∷ 5 ∷ 8 ∷ 4 ∷ 7 ∷ 0 ∷ 0 ∷ 0 ∷ 0 ∷ 0 ∷ []) ∷ (0 ∷ 0 ∷ 1 ∷ 2 ∷ 3 ∷ 2 ∷ 3 ∷ 10 ∷ 11 ∷ 6 ∷ 9 ∷ 5 ∷ 8 ∷ 4 ∷ 7 ∷ 0 ∷ 0 ∷ 0 ∷ []) ∷ (0 ∷ 0 ∷ 1 ∷ 2 ∷ 3 ∷ 2 ∷ 3 ∷ 2 ∷ 3 ∷ 10 ∷ 11 ∷ 6 ∷ 9 ∷ 5 ∷ 8 ∷ 4 ∷ 7 ∷ 0 ∷ []) ∷ [])
unfolding digit packed
br_2_block_loop_block = refl

br_3_block_loop_block : map (ends 12 ((Then (Block (Then (point 1) (Then (Then (Loop (Then (point 2) (Then (Then (Block (Then (point 3) (Then (Then (If (Local 0) (Then (Set 0 (Two (Of I32 Sub) (Local 0) (Const32 1))) (Br 3)) (point 10)) (point 11)) (point 6)))) (point 9)) (point 5)))) (point 8)) (point 4)))) (point 7)) ∷ [])) ((0 ∷ 0 ∷ []) ∷ (1 ∷ 0 ∷ []) ∷ (2 ∷ 0 ∷ []) ∷ []) ≡ ((0 ∷ 0 ∷ 1 ∷ 2 ∷ 3 ∷ 10 ∷ 11 ∷ 6 ∷ 9 ∷ 5 ∷ 8 ∷ 4 ∷ 7 ∷ 0 ∷ []) ∷ (0 ∷ 0 ∷ 1 ∷ 2 ∷ 3 ∷ 7 ∷ 0 ∷ 0 ∷ 0 ∷ 0 ∷ 0 ∷ 0 ∷ 0 ∷ 0 ∷ []) ∷ (0 ∷ 0 ∷ 1 ∷ 2 ∷ 3 ∷ 7 ∷ 0 ∷ 0 ∷ 0 ∷ 0 ∷ 0 ∷ 0 ∷ 0 ∷ 0 ∷ []) ∷ [])
unfolding digit packed
br_3_block_loop_block = refl

br_4_block_loop_block : map (ends 12 ((Then (Block (Then (point 1) (Then (Then (Loop (Then (point 2) (Then (Then (Block (Then (point 3) (Then (Then (If (Local 0) (Then (Set 0 (Two (Of I32 Sub) (Local 0) (Const32 1))) (Br 4)) (point 10)) (point 11)) (point 6)))) (point 9)) (point 5)))) (point 8)) (point 4)))) (point 7)) ∷ [])) ((0 ∷ 0 ∷ []) ∷ (1 ∷ 0 ∷ []) ∷ (2 ∷ 0 ∷ []) ∷ []) ≡ ((0 ∷ 0 ∷ 1 ∷ 2 ∷ 3 ∷ 10 ∷ 11 ∷ 6 ∷ 9 ∷ 5 ∷ 8 ∷ 4 ∷ 7 ∷ 0 ∷ []) ∷ (0 ∷ 0 ∷ 1 ∷ 2 ∷ 3 ∷ 0 ∷ 0 ∷ 0 ∷ 0 ∷ 0 ∷ 0 ∷ 0 ∷ 0 ∷ 0 ∷ []) ∷ (0 ∷ 0 ∷ 1 ∷ 2 ∷ 3 ∷ 0 ∷ 0 ∷ 0 ∷ 0 ∷ 0 ∷ 0 ∷ 0 ∷ 0 ∷ 0 ∷ []) ∷ [])
unfolding digit packed
br_4_block_loop_block = refl

br_table_block_loop_block : map (ends 14 ((Then (Block (Then (point 1) (Then (Then (Loop (Then (point 2) (Then (Then (Block (Then (point 3) (Then (Then (If (Local 0) (Then (Set 0 (Two (Of I32 Sub) (Local 0) (Const32 1))) (BrTable (0 ∷ 3 ∷ 2 ∷ 1 ∷ []) 4 (Local 1))) (point 10)) (point 11)) (point 6)))) (point 9)) (point 5)))) (point 8)) (point 4)))) (point 7)) ∷ [])) ((1 ∷ 0 ∷ []) ∷ (1 ∷ 1 ∷ []) ∷ (1 ∷ 2 ∷ []) ∷ (1 ∷ 3 ∷ []) ∷ (1 ∷ 4 ∷ []) ∷ (1 ∷ 4294967295 ∷ []) ∷ []) ≡ ((0 ∷ 0 ∷ 1 ∷ 2 ∷ 3 ∷ 11 ∷ 6 ∷ 9 ∷ 5 ∷ 8 ∷ 4 ∷ 7 ∷ 0 ∷ 0 ∷ 0 ∷ 0 ∷ []) ∷ (0 ∷ 0 ∷ 1 ∷ 2 ∷ 3 ∷ 7 ∷ 0 ∷ 0 ∷ 0 ∷ 0 ∷ 0 ∷ 0 ∷ 0 ∷ 0 ∷ 0 ∷ 0 ∷ []) ∷ (0 ∷ 0 ∷ 1 ∷ 2 ∷ 3 ∷ 2 ∷ 3 ∷ 10 ∷ 11 ∷ 6 ∷ 9 ∷ 5 ∷ 8 ∷ 4 ∷ 7 ∷ 0 ∷ []) ∷ (0 ∷ 0 ∷ 1 ∷ 2 ∷ 3 ∷ 9 ∷ 5 ∷ 8 ∷ 4 ∷ 7 ∷ 0 ∷ 0 ∷ 0 ∷ 0 ∷ 0 ∷ 0 ∷ []) ∷ (0 ∷ 0 ∷ 1 ∷ 2 ∷ 3 ∷ 0 ∷ 0 ∷ 0 ∷ 0 ∷ 0 ∷ 0 ∷ 0 ∷ 0 ∷ 0 ∷ 0 ∷ 0 ∷ []) ∷ (0 ∷ 0 ∷ 1 ∷ 2 ∷ 3 ∷ 0 ∷ 0 ∷ 0 ∷ 0 ∷ 0 ∷ 0 ∷ 0 ∷ 0 ∷ 0 ∷ 0 ∷ 0 ∷ []) ∷ [])
unfolding digit packed
br_table_block_loop_block = refl

br_0_block_loop_loop : map (ends 12 ((Then (Block (Then (point 1) (Then (Then (Loop (Then (point 2) (Then (Then (Loop (Then (point 3) (Then (Then (If (Local 0) (Then (Set 0 (Two (Of I32 Sub) (Local 0) (Const32 1))) (Br 0)) (point 10)) (point 11)) (point 6)))) (point 9)) (point 5)))) (point 8)) (point 4)))) (point 7)) ∷ [])) ((0 ∷ 0 ∷ []) ∷ (1 ∷ 0 ∷ []) ∷ (2 ∷ 0 ∷ []) ∷ []) ≡ ((0 ∷ 0 ∷ 1 ∷ 2 ∷ 3 ∷ 10 ∷ 11 ∷ 6 ∷ 9 ∷ 5 ∷ 8 ∷ 4 ∷ 7 ∷ 0 ∷ []) ∷ (0 ∷ 0 ∷ 1 ∷ 2 ∷ 3 ∷ 11 ∷ 6 ∷ 9 ∷ 5 ∷ 8 ∷ 4 ∷ 7 ∷ 0 ∷ 0 ∷ []) ∷ (0 ∷ 0 ∷ 1 ∷ 2 ∷ 3 ∷ 11 ∷ 6 ∷ 9 ∷ 5 ∷ 8 ∷ 4 ∷ 7 ∷ 0 ∷ 0 ∷ []) ∷ [])
unfolding digit packed
br_0_block_loop_loop = refl

br_1_block_loop_loop : map (ends 14 ((Then (Block (Then (point 1) (Then (Then (Loop (Then (point 2) (Then (Then (Loop (Then (point 3) (Then (Then (If (Local 0) (Then (Set 0 (Two (Of I32 Sub) (Local 0) (Const32 1))) (Br 1)) (point 10)) (point 11)) (point 6)))) (point 9)) (point 5)))) (point 8)) (point 4)))) (point 7)) ∷ [])) ((0 ∷ 0 ∷ []) ∷ (1 ∷ 0 ∷ []) ∷ (2 ∷ 0 ∷ []) ∷ []) ≡ ((0 ∷ 0 ∷ 1 ∷ 2 ∷ 3 ∷ 10 ∷ 11 ∷ 6 ∷ 9 ∷ 5 ∷ 8 ∷ 4 ∷ 7 ∷ 0 ∷ 0 ∷ 0 ∷ []) ∷ (0 ∷ 0 ∷ 1 ∷ 2 ∷ 3 ∷ 3 ∷ 10 ∷ 11 ∷ 6 ∷ 9 ∷ 5 ∷ 8 ∷ 4 ∷ 7 ∷ 0 ∷ 0 ∷ []) ∷ (0 ∷ 0 ∷ 1 ∷ 2 ∷ 3 ∷ 3 ∷ 3 ∷ 10 ∷ 11 ∷ 6 ∷ 9 ∷ 5 ∷ 8 ∷ 4 ∷ 7 ∷ 0 ∷ []) ∷ [])
unfolding digit packed
br_1_block_loop_loop = refl

br_2_block_loop_loop : map (ends 16 ((Then (Block (Then (point 1) (Then (Then (Loop (Then (point 2) (Then (Then (Loop (Then (point 3) (Then (Then (If (Local 0) (Then (Set 0 (Two (Of I32 Sub) (Local 0) (Const32 1))) (Br 2)) (point 10)) (point 11)) (point 6)))) (point 9)) (point 5)))) (point 8)) (point 4)))) (point 7)) ∷ [])) ((0 ∷ 0 ∷ []) ∷ (1 ∷ 0 ∷ []) ∷ (2 ∷ 0 ∷ []) ∷ []) ≡ ((0 ∷ 0 ∷ 1 ∷ 2 ∷ 3 ∷ 10 ∷ 11 ∷ 6 ∷ 9 ∷ 5 ∷ 8 ∷ 4 ∷ 7 ∷ 0 ∷ 0 ∷ 0 ∷ 0 ∷ 0 ∷ []) ∷ (0 ∷ 0 ∷ 1 ∷ 2 ∷ 3 ∷ 2 ∷ 3 ∷ 10 ∷ 11 ∷ 6 ∷ 9 ∷ 5 ∷ 8 ∷ 4 ∷ 7 ∷ 0 ∷ 0 ∷ 0 ∷ []) ∷ (0 ∷ 0 ∷ 1 ∷ 2 ∷ 3 ∷ 2 ∷ 3 ∷ 2 ∷ 3 ∷ 10 ∷ 11 ∷ 6 ∷ 9 ∷ 5 ∷ 8 ∷ 4 ∷ 7 ∷ 0 ∷ []) ∷ [])
unfolding digit packed
br_2_block_loop_loop = refl

br_3_block_loop_loop : map (ends 12 ((Then (Block (Then (point 1) (Then (Then (Loop (Then (point 2) (Then (Then (Loop (Then (point 3) (Then (Then (If (Local 0) (Then (Set 0 (Two (Of I32 Sub) (Local 0) (Const32 1))) (Br 3)) (point 10)) (point 11)) (point 6)))) (point 9)) (point 5)))) (point 8)) (point 4)))) (point 7)) ∷ [])) ((0 ∷ 0 ∷ []) ∷ (1 ∷ 0 ∷ []) ∷ (2 ∷ 0 ∷ []) ∷ []) ≡ ((0 ∷ 0 ∷ 1 ∷ 2 ∷ 3 ∷ 10 ∷ 11 ∷ 6 ∷ 9 ∷ 5 ∷ 8 ∷ 4 ∷ 7 ∷ 0 ∷ []) ∷ (0 ∷ 0 ∷ 1 ∷ 2 ∷ 3 ∷ 7 ∷ 0 ∷ 0 ∷ 0 ∷ 0 ∷ 0 ∷ 0 ∷ 0 ∷ 0 ∷ []) ∷ (0 ∷ 0 ∷ 1 ∷ 2 ∷ 3 ∷ 7 ∷ 0 ∷ 0 ∷ 0 ∷ 0 ∷ 0 ∷ 0 ∷ 0 ∷ 0 ∷ []) ∷ [])
unfolding digit packed
br_3_block_loop_loop = refl

br_4_block_loop_loop : map (ends 12 ((Then (Block (Then (point 1) (Then (Then (Loop (Then (point 2) (Then (Then (Loop (Then (point 3) (Then (Then (If (Local 0) (Then (Set 0 (Two (Of I32 Sub) (Local 0) (Const32 1))) (Br 4)) (point 10)) (point 11)) (point 6)))) (point 9)) (point 5)))) (point 8)) (point 4)))) (point 7)) ∷ [])) ((0 ∷ 0 ∷ []) ∷ (1 ∷ 0 ∷ []) ∷ (2 ∷ 0 ∷ []) ∷ []) ≡ ((0 ∷ 0 ∷ 1 ∷ 2 ∷ 3 ∷ 10 ∷ 11 ∷ 6 ∷ 9 ∷ 5 ∷ 8 ∷ 4 ∷ 7 ∷ 0 ∷ []) ∷ (0 ∷ 0 ∷ 1 ∷ 2 ∷ 3 ∷ 0 ∷ 0 ∷ 0 ∷ 0 ∷ 0 ∷ 0 ∷ 0 ∷ 0 ∷ 0 ∷ []) ∷ (0 ∷ 0 ∷ 1 ∷ 2 ∷ 3 ∷ 0 ∷ 0 ∷ 0 ∷ 0 ∷ 0 ∷ 0 ∷ 0 ∷ 0 ∷ 0 ∷ []) ∷ [])
unfolding digit packed
br_4_block_loop_loop = refl

br_table_block_loop_loop : map (ends 14 ((Then (Block (Then (point 1) (Then (Then (Loop (Then (point 2) (Then (Then (Loop (Then (point 3) (Then (Then (If (Local 0) (Then (Set 0 (Two (Of I32 Sub) (Local 0) (Const32 1))) (BrTable (0 ∷ 3 ∷ 2 ∷ 1 ∷ []) 4 (Local 1))) (point 10)) (point 11)) (point 6)))) (point 9)) (point 5)))) (point 8)) (point 4)))) (point 7)) ∷ [])) ((1 ∷ 0 ∷ []) ∷ (1 ∷ 1 ∷ []) ∷ (1 ∷ 2 ∷ []) ∷ (1 ∷ 3 ∷ []) ∷ (1 ∷ 4 ∷ []) ∷ (1 ∷ 4294967295 ∷ []) ∷ []) ≡ ((0 ∷ 0 ∷ 1 ∷ 2 ∷ 3 ∷ 11 ∷ 6 ∷ 9 ∷ 5 ∷ 8 ∷ 4 ∷ 7 ∷ 0 ∷ 0 ∷ 0 ∷ 0 ∷ []) ∷ (0 ∷ 0 ∷ 1 ∷ 2 ∷ 3 ∷ 7 ∷ 0 ∷ 0 ∷ 0 ∷ 0 ∷ 0 ∷ 0 ∷ 0 ∷ 0 ∷ 0 ∷ 0 ∷ []) ∷ (0 ∷ 0 ∷ 1 ∷ 2 ∷ 3 ∷ 2 ∷ 3 ∷ 10 ∷ 11 ∷ 6 ∷ 9 ∷ 5 ∷ 8 ∷ 4 ∷ 7 ∷ 0 ∷ []) ∷ (0 ∷ 0 ∷ 1 ∷ 2 ∷ 3 ∷ 3 ∷ 10 ∷ 11 ∷ 6 ∷ 9 ∷ 5 ∷ 8 ∷ 4 ∷ 7 ∷ 0 ∷ 0 ∷ []) ∷ (0 ∷ 0 ∷ 1 ∷ 2 ∷ 3 ∷ 0 ∷ 0 ∷ 0 ∷ 0 ∷ 0 ∷ 0 ∷ 0 ∷ 0 ∷ 0 ∷ 0 ∷ 0 ∷ []) ∷ (0 ∷ 0 ∷ 1 ∷ 2 ∷ 3 ∷ 0 ∷ 0 ∷ 0 ∷ 0 ∷ 0 ∷ 0 ∷ 0 ∷ 0 ∷ 0 ∷ 0 ∷ 0 ∷ []) ∷ [])
unfolding digit packed
br_table_block_loop_loop = refl

br_0_block_loop_if : map (ends 12 ((Then (Block (Then (point 1) (Then (Then (Loop (Then (point 2) (Then (Then (If (Const32 1) (Then (point 3) (Then (Then (If (Local 0) (Then (Set 0 (Two (Of I32 Sub) (Local 0) (Const32 1))) (Br 0)) (point 10)) (point 11)) (point 6))) Skip) (point 9)) (point 5)))) (point 8)) (point 4)))) (point 7)) ∷ [])) ((0 ∷ 0 ∷ []) ∷ (1 ∷ 0 ∷ []) ∷ (2 ∷ 0 ∷ []) ∷ []) ≡ ((0 ∷ 0 ∷ 1 ∷ 2 ∷ 3 ∷ 10 ∷ 11 ∷ 6 ∷ 9 ∷ 5 ∷ 8 ∷ 4 ∷ 7 ∷ 0 ∷ []) ∷ (0 ∷ 0 ∷ 1 ∷ 2 ∷ 3 ∷ 11 ∷ 6 ∷ 9 ∷ 5 ∷ 8 ∷ 4 ∷ 7 ∷ 0 ∷ 0 ∷ []) ∷ (0 ∷ 0 ∷ 1 ∷ 2 ∷ 3 ∷ 11 ∷ 6 ∷ 9 ∷ 5 ∷ 8 ∷ 4 ∷ 7 ∷ 0 ∷ 0 ∷ []) ∷ [])
unfolding digit packed
br_0_block_loop_if = refl

br_1_block_loop_if : map (ends 12 ((Then (Block (Then (point 1) (Then (Then (Loop (Then (point 2) (Then (Then (If (Const32 1) (Then (point 3) (Then (Then (If (Local 0) (Then (Set 0 (Two (Of I32 Sub) (Local 0) (Const32 1))) (Br 1)) (point 10)) (point 11)) (point 6))) Skip) (point 9)) (point 5)))) (point 8)) (point 4)))) (point 7)) ∷ [])) ((0 ∷ 0 ∷ []) ∷ (1 ∷ 0 ∷ []) ∷ (2 ∷ 0 ∷ []) ∷ []) ≡ ((0 ∷ 0 ∷ 1 ∷ 2 ∷ 3 ∷ 10 ∷ 11 ∷ 6 ∷ 9 ∷ 5 ∷ 8 ∷ 4 ∷ 7 ∷ 0 ∷ []) ∷ (0 ∷ 0 ∷ 1 ∷ 2 ∷ 3 ∷ 9 ∷ 5 ∷ 8 ∷ 4 ∷ 7 ∷ 0 ∷ 0 ∷ 0 ∷ 0 ∷ []) ∷ (0 ∷ 0 ∷ 1 ∷ 2 ∷ 3 ∷ 9 ∷ 5 ∷ 8 ∷ 4 ∷ 7 ∷ 0 ∷ 0 ∷ 0 ∷ 0 ∷ []) ∷ [])
unfolding digit packed
br_1_block_loop_if = refl

br_2_block_loop_if : map (ends 16 ((Then (Block (Then (point 1) (Then (Then (Loop (Then (point 2) (Then (Then (If (Const32 1) (Then (point 3) (Then (Then (If (Local 0) (Then (Set 0 (Two (Of I32 Sub) (Local 0) (Const32 1))) (Br 2)) (point 10)) (point 11)) (point 6))) Skip) (point 9)) (point 5)))) (point 8)) (point 4)))) (point 7)) ∷ [])) ((0 ∷ 0 ∷ []) ∷ (1 ∷ 0 ∷ []) ∷ (2 ∷ 0 ∷ []) ∷ []) ≡ ((0 ∷ 0 ∷ 1 ∷ 2 ∷ 3 ∷ 10 ∷ 11 ∷ 6 ∷ 9 ∷ 5 ∷ 8 ∷ 4 ∷ 7 ∷ 0 ∷ 0 ∷ 0 ∷ 0 ∷ 0 ∷ []) ∷ (0 ∷ 0 ∷ 1 ∷ 2 ∷ 3 ∷ 2 ∷ 3 ∷ 10 ∷ 11 ∷ 6 ∷ 9 ∷ 5 ∷ 8 ∷ 4 ∷ 7 ∷ 0 ∷ 0 ∷ 0 ∷ []) ∷ (0 ∷ 0 ∷ 1 ∷ 2 ∷ 3 ∷ 2 ∷ 3 ∷ 2 ∷ 3 ∷ 10 ∷ 11 ∷ 6 ∷ 9 ∷ 5 ∷ 8 ∷ 4 ∷ 7 ∷ 0 ∷ []) ∷ [])
unfolding digit packed
br_2_block_loop_if = refl

br_3_block_loop_if : map (ends 12 ((Then (Block (Then (point 1) (Then (Then (Loop (Then (point 2) (Then (Then (If (Const32 1) (Then (point 3) (Then (Then (If (Local 0) (Then (Set 0 (Two (Of I32 Sub) (Local 0) (Const32 1))) (Br 3)) (point 10)) (point 11)) (point 6))) Skip) (point 9)) (point 5)))) (point 8)) (point 4)))) (point 7)) ∷ [])) ((0 ∷ 0 ∷ []) ∷ (1 ∷ 0 ∷ []) ∷ (2 ∷ 0 ∷ []) ∷ []) ≡ ((0 ∷ 0 ∷ 1 ∷ 2 ∷ 3 ∷ 10 ∷ 11 ∷ 6 ∷ 9 ∷ 5 ∷ 8 ∷ 4 ∷ 7 ∷ 0 ∷ []) ∷ (0 ∷ 0 ∷ 1 ∷ 2 ∷ 3 ∷ 7 ∷ 0 ∷ 0 ∷ 0 ∷ 0 ∷ 0 ∷ 0 ∷ 0 ∷ 0 ∷ []) ∷ (0 ∷ 0 ∷ 1 ∷ 2 ∷ 3 ∷ 7 ∷ 0 ∷ 0 ∷ 0 ∷ 0 ∷ 0 ∷ 0 ∷ 0 ∷ 0 ∷ []) ∷ [])
unfolding digit packed
br_3_block_loop_if = refl

br_4_block_loop_if : map (ends 12 ((Then (Block (Then (point 1) (Then (Then (Loop (Then (point 2) (Then (Then (If (Const32 1) (Then (point 3) (Then (Then (If (Local 0) (Then (Set 0 (Two (Of I32 Sub) (Local 0) (Const32 1))) (Br 4)) (point 10)) (point 11)) (point 6))) Skip) (point 9)) (point 5)))) (point 8)) (point 4)))) (point 7)) ∷ [])) ((0 ∷ 0 ∷ []) ∷ (1 ∷ 0 ∷ []) ∷ (2 ∷ 0 ∷ []) ∷ []) ≡ ((0 ∷ 0 ∷ 1 ∷ 2 ∷ 3 ∷ 10 ∷ 11 ∷ 6 ∷ 9 ∷ 5 ∷ 8 ∷ 4 ∷ 7 ∷ 0 ∷ []) ∷ (0 ∷ 0 ∷ 1 ∷ 2 ∷ 3 ∷ 0 ∷ 0 ∷ 0 ∷ 0 ∷ 0 ∷ 0 ∷ 0 ∷ 0 ∷ 0 ∷ []) ∷ (0 ∷ 0 ∷ 1 ∷ 2 ∷ 3 ∷ 0 ∷ 0 ∷ 0 ∷ 0 ∷ 0 ∷ 0 ∷ 0 ∷ 0 ∷ 0 ∷ []) ∷ [])
unfolding digit packed
br_4_block_loop_if = refl

br_table_block_loop_if : map (ends 14 ((Then (Block (Then (point 1) (Then (Then (Loop (Then (point 2) (Then (Then (If (Const32 1) (Then (point 3) (Then (Then (If (Local 0) (Then (Set 0 (Two (Of I32 Sub) (Local 0) (Const32 1))) (BrTable (0 ∷ 3 ∷ 2 ∷ 1 ∷ []) 4 (Local 1))) (point 10)) (point 11)) (point 6))) Skip) (point 9)) (point 5)))) (point 8)) (point 4)))) (point 7)) ∷ [])) ((1 ∷ 0 ∷ []) ∷ (1 ∷ 1 ∷ []) ∷ (1 ∷ 2 ∷ []) ∷ (1 ∷ 3 ∷ []) ∷ (1 ∷ 4 ∷ []) ∷ (1 ∷ 4294967295 ∷ []) ∷ []) ≡ ((0 ∷ 0 ∷ 1 ∷ 2 ∷ 3 ∷ 11 ∷ 6 ∷ 9 ∷ 5 ∷ 8 ∷ 4 ∷ 7 ∷ 0 ∷ 0 ∷ 0 ∷ 0 ∷ []) ∷ (0 ∷ 0 ∷ 1 ∷ 2 ∷ 3 ∷ 7 ∷ 0 ∷ 0 ∷ 0 ∷ 0 ∷ 0 ∷ 0 ∷ 0 ∷ 0 ∷ 0 ∷ 0 ∷ []) ∷ (0 ∷ 0 ∷ 1 ∷ 2 ∷ 3 ∷ 2 ∷ 3 ∷ 10 ∷ 11 ∷ 6 ∷ 9 ∷ 5 ∷ 8 ∷ 4 ∷ 7 ∷ 0 ∷ []) ∷ (0 ∷ 0 ∷ 1 ∷ 2 ∷ 3 ∷ 9 ∷ 5 ∷ 8 ∷ 4 ∷ 7 ∷ 0 ∷ 0 ∷ 0 ∷ 0 ∷ 0 ∷ 0 ∷ []) ∷ (0 ∷ 0 ∷ 1 ∷ 2 ∷ 3 ∷ 0 ∷ 0 ∷ 0 ∷ 0 ∷ 0 ∷ 0 ∷ 0 ∷ 0 ∷ 0 ∷ 0 ∷ 0 ∷ []) ∷ (0 ∷ 0 ∷ 1 ∷ 2 ∷ 3 ∷ 0 ∷ 0 ∷ 0 ∷ 0 ∷ 0 ∷ 0 ∷ 0 ∷ 0 ∷ 0 ∷ 0 ∷ 0 ∷ []) ∷ [])
unfolding digit packed
br_table_block_loop_if = refl

br_0_block_if_block : map (ends 12 ((Then (Block (Then (point 1) (Then (Then (If (Const32 1) (Then (point 2) (Then (Then (Block (Then (point 3) (Then (Then (If (Local 0) (Then (Set 0 (Two (Of I32 Sub) (Local 0) (Const32 1))) (Br 0)) (point 10)) (point 11)) (point 6)))) (point 9)) (point 5))) Skip) (point 8)) (point 4)))) (point 7)) ∷ [])) ((0 ∷ 0 ∷ []) ∷ (1 ∷ 0 ∷ []) ∷ (2 ∷ 0 ∷ []) ∷ []) ≡ ((0 ∷ 0 ∷ 1 ∷ 2 ∷ 3 ∷ 10 ∷ 11 ∷ 6 ∷ 9 ∷ 5 ∷ 8 ∷ 4 ∷ 7 ∷ 0 ∷ []) ∷ (0 ∷ 0 ∷ 1 ∷ 2 ∷ 3 ∷ 11 ∷ 6 ∷ 9 ∷ 5 ∷ 8 ∷ 4 ∷ 7 ∷ 0 ∷ 0 ∷ []) ∷ (0 ∷ 0 ∷ 1 ∷ 2 ∷ 3 ∷ 11 ∷ 6 ∷ 9 ∷ 5 ∷ 8 ∷ 4 ∷ 7 ∷ 0 ∷ 0 ∷ []) ∷ [])
unfolding digit packed
br_0_block_if_block = refl

br_1_block_if_block : map (ends 12 ((Then (Block (Then (point 1) (Then (Then (If (Const32 1) (Then (point 2) (Then (Then (Block (Then (point 3) (Then (Then (If (Local 0) (Then (Set 0 (Two (Of I32 Sub) (Local 0) (Const32 1))) (Br 1)) (point 10)) (point 11)) (point 6)))) (point 9)) (point 5))) Skip) (point 8)) (point 4)))) (point 7)) ∷ [])) ((0 ∷ 0 ∷ []) ∷ (1 ∷ 0 ∷ []) ∷ (2 ∷ 0 ∷ []) ∷ []) ≡ ((0 ∷ 0 ∷ 1 ∷ 2 ∷ 3 ∷ 10 ∷ 11 ∷ 6 ∷ 9 ∷ 5 ∷ 8 ∷ 4 ∷ 7 ∷ 0 ∷ []) ∷ (0 ∷ 0 ∷ 1 ∷ 2 ∷ 3 ∷ 9 ∷ 5 ∷ 8 ∷ 4 ∷ 7 ∷ 0 ∷ 0 ∷ 0 ∷ 0 ∷ []) ∷ (0 ∷ 0 ∷ 1 ∷ 2 ∷ 3 ∷ 9 ∷ 5 ∷ 8 ∷ 4 ∷ 7 ∷ 0 ∷ 0 ∷ 0 ∷ 0 ∷ []) ∷ [])
unfolding digit packed
br_1_block_if_block = refl

br_2_block_if_block : map (ends 12 ((Then (Block (Then (point 1) (Then (Then (If (Const32 1) (Then (point 2) (Then (Then (Block (Then (point 3) (Then (Then (If (Local 0) (Then (Set 0 (Two (Of I32 Sub) (Local 0) (Const32 1))) (Br 2)) (point 10)) (point 11)) (point 6)))) (point 9)) (point 5))) Skip) (point 8)) (point 4)))) (point 7)) ∷ [])) ((0 ∷ 0 ∷ []) ∷ (1 ∷ 0 ∷ []) ∷ (2 ∷ 0 ∷ []) ∷ []) ≡ ((0 ∷ 0 ∷ 1 ∷ 2 ∷ 3 ∷ 10 ∷ 11 ∷ 6 ∷ 9 ∷ 5 ∷ 8 ∷ 4 ∷ 7 ∷ 0 ∷ []) ∷ (0 ∷ 0 ∷ 1 ∷ 2 ∷ 3 ∷ 8 ∷ 4 ∷ 7 ∷ 0 ∷ 0 ∷ 0 ∷ 0 ∷ 0 ∷ 0 ∷ []) ∷ (0 ∷ 0 ∷ 1 ∷ 2 ∷ 3 ∷ 8 ∷ 4 ∷ 7 ∷ 0 ∷ 0 ∷ 0 ∷ 0 ∷ 0 ∷ 0 ∷ []) ∷ [])
unfolding digit packed
br_2_block_if_block = refl

br_3_block_if_block : map (ends 12 ((Then (Block (Then (point 1) (Then (Then (If (Const32 1) (Then (point 2) (Then (Then (Block (Then (point 3) (Then (Then (If (Local 0) (Then (Set 0 (Two (Of I32 Sub) (Local 0) (Const32 1))) (Br 3)) (point 10)) (point 11)) (point 6)))) (point 9)) (point 5))) Skip) (point 8)) (point 4)))) (point 7)) ∷ [])) ((0 ∷ 0 ∷ []) ∷ (1 ∷ 0 ∷ []) ∷ (2 ∷ 0 ∷ []) ∷ []) ≡ ((0 ∷ 0 ∷ 1 ∷ 2 ∷ 3 ∷ 10 ∷ 11 ∷ 6 ∷ 9 ∷ 5 ∷ 8 ∷ 4 ∷ 7 ∷ 0 ∷ []) ∷ (0 ∷ 0 ∷ 1 ∷ 2 ∷ 3 ∷ 7 ∷ 0 ∷ 0 ∷ 0 ∷ 0 ∷ 0 ∷ 0 ∷ 0 ∷ 0 ∷ []) ∷ (0 ∷ 0 ∷ 1 ∷ 2 ∷ 3 ∷ 7 ∷ 0 ∷ 0 ∷ 0 ∷ 0 ∷ 0 ∷ 0 ∷ 0 ∷ 0 ∷ []) ∷ [])
unfolding digit packed
br_3_block_if_block = refl

br_4_block_if_block : map (ends 12 ((Then (Block (Then (point 1) (Then (Then (If (Const32 1) (Then (point 2) (Then (Then (Block (Then (point 3) (Then (Then (If (Local 0) (Then (Set 0 (Two (Of I32 Sub) (Local 0) (Const32 1))) (Br 4)) (point 10)) (point 11)) (point 6)))) (point 9)) (point 5))) Skip) (point 8)) (point 4)))) (point 7)) ∷ [])) ((0 ∷ 0 ∷ []) ∷ (1 ∷ 0 ∷ []) ∷ (2 ∷ 0 ∷ []) ∷ []) ≡ ((0 ∷ 0 ∷ 1 ∷ 2 ∷ 3 ∷ 10 ∷ 11 ∷ 6 ∷ 9 ∷ 5 ∷ 8 ∷ 4 ∷ 7 ∷ 0 ∷ []) ∷ (0 ∷ 0 ∷ 1 ∷ 2 ∷ 3 ∷ 0 ∷ 0 ∷ 0 ∷ 0 ∷ 0 ∷ 0 ∷ 0 ∷ 0 ∷ 0 ∷ []) ∷ (0 ∷ 0 ∷ 1 ∷ 2 ∷ 3 ∷ 0 ∷ 0 ∷ 0 ∷ 0 ∷ 0 ∷ 0 ∷ 0 ∷ 0 ∷ 0 ∷ []) ∷ [])
unfolding digit packed
br_4_block_if_block = refl

br_table_block_if_block : map (ends 11 ((Then (Block (Then (point 1) (Then (Then (If (Const32 1) (Then (point 2) (Then (Then (Block (Then (point 3) (Then (Then (If (Local 0) (Then (Set 0 (Two (Of I32 Sub) (Local 0) (Const32 1))) (BrTable (0 ∷ 3 ∷ 2 ∷ 1 ∷ []) 4 (Local 1))) (point 10)) (point 11)) (point 6)))) (point 9)) (point 5))) Skip) (point 8)) (point 4)))) (point 7)) ∷ [])) ((1 ∷ 0 ∷ []) ∷ (1 ∷ 1 ∷ []) ∷ (1 ∷ 2 ∷ []) ∷ (1 ∷ 3 ∷ []) ∷ (1 ∷ 4 ∷ []) ∷ (1 ∷ 4294967295 ∷ []) ∷ []) ≡ ((0 ∷ 0 ∷ 1 ∷ 2 ∷ 3 ∷ 11 ∷ 6 ∷ 9 ∷ 5 ∷ 8 ∷ 4 ∷ 7 ∷ 0 ∷ []) ∷ (0 ∷ 0 ∷ 1 ∷ 2 ∷ 3 ∷ 7 ∷ 0 ∷ 0 ∷ 0 ∷ 0 ∷ 0 ∷ 0 ∷ 0 ∷ []) ∷ (0 ∷ 0 ∷ 1 ∷ 2 ∷ 3 ∷ 8 ∷ 4 ∷ 7 ∷ 0 ∷ 0 ∷ 0 ∷ 0 ∷ 0 ∷ []) ∷ (0 ∷ 0 ∷ 1 ∷ 2 ∷ 3 ∷ 9 ∷ 5 ∷ 8 ∷ 4 ∷ 7 ∷ 0 ∷ 0 ∷ 0 ∷ []) ∷ (0 ∷ 0 ∷ 1 ∷ 2 ∷ 3 ∷ 0 ∷ 0 ∷ 0 ∷ 0 ∷ 0 ∷ 0 ∷ 0 ∷ 0 ∷ []) ∷ (0 ∷ 0 ∷ 1 ∷ 2 ∷ 3 ∷ 0 ∷ 0 ∷ 0 ∷ 0 ∷ 0 ∷ 0 ∷ 0 ∷ 0 ∷ []) ∷ [])
unfolding digit packed
br_table_block_if_block = refl

br_0_block_if_loop : map (ends 12 ((Then (Block (Then (point 1) (Then (Then (If (Const32 1) (Then (point 2) (Then (Then (Loop (Then (point 3) (Then (Then (If (Local 0) (Then (Set 0 (Two (Of I32 Sub) (Local 0) (Const32 1))) (Br 0)) (point 10)) (point 11)) (point 6)))) (point 9)) (point 5))) Skip) (point 8)) (point 4)))) (point 7)) ∷ [])) ((0 ∷ 0 ∷ []) ∷ (1 ∷ 0 ∷ []) ∷ (2 ∷ 0 ∷ []) ∷ []) ≡ ((0 ∷ 0 ∷ 1 ∷ 2 ∷ 3 ∷ 10 ∷ 11 ∷ 6 ∷ 9 ∷ 5 ∷ 8 ∷ 4 ∷ 7 ∷ 0 ∷ []) ∷ (0 ∷ 0 ∷ 1 ∷ 2 ∷ 3 ∷ 11 ∷ 6 ∷ 9 ∷ 5 ∷ 8 ∷ 4 ∷ 7 ∷ 0 ∷ 0 ∷ []) ∷ (0 ∷ 0 ∷ 1 ∷ 2 ∷ 3 ∷ 11 ∷ 6 ∷ 9 ∷ 5 ∷ 8 ∷ 4 ∷ 7 ∷ 0 ∷ 0 ∷ []) ∷ [])
unfolding digit packed
br_0_block_if_loop = refl

br_1_block_if_loop : map (ends 14 ((Then (Block (Then (point 1) (Then (Then (If (Const32 1) (Then (point 2) (Then (Then (Loop (Then (point 3) (Then (Then (If (Local 0) (Then (Set 0 (Two (Of I32 Sub) (Local 0) (Const32 1))) (Br 1)) (point 10)) (point 11)) (point 6)))) (point 9)) (point 5))) Skip) (point 8)) (point 4)))) (point 7)) ∷ [])) ((0 ∷ 0 ∷ []) ∷ (1 ∷ 0 ∷ []) ∷ (2 ∷ 0 ∷ []) ∷ []) ≡ ((0 ∷ 0 ∷ 1 ∷ 2 ∷ 3 ∷ 10 ∷ 11 ∷ 6 ∷ 9 ∷ 5 ∷ 8 ∷ 4 ∷ 7 ∷ 0 ∷ 0 ∷ 0 ∷ []) ∷ (0 ∷ 0 ∷ 1 ∷ 2 ∷ 3 ∷ 3 ∷ 10 ∷ 11 ∷ 6 ∷ 9 ∷ 5 ∷ 8 ∷ 4 ∷ 7 ∷ 0 ∷ 0 ∷ []) ∷ (0 ∷ 0 ∷ 1 ∷ 2 ∷ 3 ∷ 3 ∷ 3 ∷ 10 ∷ 11 ∷ 6 ∷ 9 ∷ 5 ∷ 8 ∷ 4 ∷ 7 ∷ 0 ∷ []) ∷ [])
unfolding digit packed
br_1_block_if_loop = refl

br_2_block_if_loop : map (ends 12 ((Then (Block (Then (point 1) (Then (Then (If (Const32 1) (Then (point 2) (Then (Then (Loop (Then (point 3) (Then (Then (If (Local 0) (Then (Set 0 (Two (Of I32 Sub) (Local 0) (Const32 1))) (Br 2)) (point 10)) (point 11)) (point 6)))) (point 9)) (point 5))) Skip) (point 8)) (point 4)))) (point 7)) ∷ [])) ((0 ∷ 0 ∷ []) ∷ (1 ∷ 0 ∷ []) ∷ (2 ∷ 0 ∷ []) ∷ []) ≡ ((0 ∷ 0 ∷ 1 ∷ 2 ∷ 3 ∷ 10 ∷ 11 ∷ 6 ∷ 9 ∷ 5 ∷ 8 ∷ 4 ∷ 7 ∷ 0 ∷ []) ∷ (0 ∷ 0 ∷ 1 ∷ 2 ∷ 3 ∷ 8 ∷ 4 ∷ 7 ∷ 0 ∷ 0 ∷ 0 ∷ 0 ∷ 0 ∷ 0 ∷ []) ∷ (0 ∷ 0 ∷ 1 ∷ 2 ∷ 3 ∷ 8 ∷ 4 ∷ 7 ∷ 0 ∷ 0 ∷ 0 ∷ 0 ∷ 0 ∷ 0 ∷ []) ∷ [])
unfolding digit packed
br_2_block_if_loop = refl

br_3_block_if_loop : map (ends 12 ((Then (Block (Then (point 1) (Then (Then (If (Const32 1) (Then (point 2) (Then (Then (Loop (Then (point 3) (Then (Then (If (Local 0) (Then (Set 0 (Two (Of I32 Sub) (Local 0) (Const32 1))) (Br 3)) (point 10)) (point 11)) (point 6)))) (point 9)) (point 5))) Skip) (point 8)) (point 4)))) (point 7)) ∷ [])) ((0 ∷ 0 ∷ []) ∷ (1 ∷ 0 ∷ []) ∷ (2 ∷ 0 ∷ []) ∷ []) ≡ ((0 ∷ 0 ∷ 1 ∷ 2 ∷ 3 ∷ 10 ∷ 11 ∷ 6 ∷ 9 ∷ 5 ∷ 8 ∷ 4 ∷ 7 ∷ 0 ∷ []) ∷ (0 ∷ 0 ∷ 1 ∷ 2 ∷ 3 ∷ 7 ∷ 0 ∷ 0 ∷ 0 ∷ 0 ∷ 0 ∷ 0 ∷ 0 ∷ 0 ∷ []) ∷ (0 ∷ 0 ∷ 1 ∷ 2 ∷ 3 ∷ 7 ∷ 0 ∷ 0 ∷ 0 ∷ 0 ∷ 0 ∷ 0 ∷ 0 ∷ 0 ∷ []) ∷ [])
unfolding digit packed
br_3_block_if_loop = refl

br_4_block_if_loop : map (ends 12 ((Then (Block (Then (point 1) (Then (Then (If (Const32 1) (Then (point 2) (Then (Then (Loop (Then (point 3) (Then (Then (If (Local 0) (Then (Set 0 (Two (Of I32 Sub) (Local 0) (Const32 1))) (Br 4)) (point 10)) (point 11)) (point 6)))) (point 9)) (point 5))) Skip) (point 8)) (point 4)))) (point 7)) ∷ [])) ((0 ∷ 0 ∷ []) ∷ (1 ∷ 0 ∷ []) ∷ (2 ∷ 0 ∷ []) ∷ []) ≡ ((0 ∷ 0 ∷ 1 ∷ 2 ∷ 3 ∷ 10 ∷ 11 ∷ 6 ∷ 9 ∷ 5 ∷ 8 ∷ 4 ∷ 7 ∷ 0 ∷ []) ∷ (0 ∷ 0 ∷ 1 ∷ 2 ∷ 3 ∷ 0 ∷ 0 ∷ 0 ∷ 0 ∷ 0 ∷ 0 ∷ 0 ∷ 0 ∷ 0 ∷ []) ∷ (0 ∷ 0 ∷ 1 ∷ 2 ∷ 3 ∷ 0 ∷ 0 ∷ 0 ∷ 0 ∷ 0 ∷ 0 ∷ 0 ∷ 0 ∷ 0 ∷ []) ∷ [])
unfolding digit packed
br_4_block_if_loop = refl

br_table_block_if_loop : map (ends 13 ((Then (Block (Then (point 1) (Then (Then (If (Const32 1) (Then (point 2) (Then (Then (Loop (Then (point 3) (Then (Then (If (Local 0) (Then (Set 0 (Two (Of I32 Sub) (Local 0) (Const32 1))) (BrTable (0 ∷ 3 ∷ 2 ∷ 1 ∷ []) 4 (Local 1))) (point 10)) (point 11)) (point 6)))) (point 9)) (point 5))) Skip) (point 8)) (point 4)))) (point 7)) ∷ [])) ((1 ∷ 0 ∷ []) ∷ (1 ∷ 1 ∷ []) ∷ (1 ∷ 2 ∷ []) ∷ (1 ∷ 3 ∷ []) ∷ (1 ∷ 4 ∷ []) ∷ (1 ∷ 4294967295 ∷ []) ∷ []) ≡ ((0 ∷ 0 ∷ 1 ∷ 2 ∷ 3 ∷ 11 ∷ 6 ∷ 9 ∷ 5 ∷ 8 ∷ 4 ∷ 7 ∷ 0 ∷ 0 ∷ 0 ∷ []) ∷ (0 ∷ 0 ∷ 1 ∷ 2 ∷ 3 ∷ 7 ∷ 0 ∷ 0 ∷ 0 ∷ 0 ∷ 0 ∷ 0 ∷ 0 ∷ 0 ∷ 0 ∷ []) ∷ (0 ∷ 0 ∷ 1 ∷ 2 ∷ 3 ∷ 8 ∷ 4 ∷ 7 ∷ 0 ∷ 0 ∷ 0 ∷ 0 ∷ 0 ∷ 0 ∷ 0 ∷ []) ∷ (0 ∷ 0 ∷ 1 ∷ 2 ∷ 3 ∷ 3 ∷ 10 ∷ 11 ∷ 6 ∷ 9 ∷ 5 ∷ 8 ∷ 4 ∷ 7 ∷ 0 ∷ []) ∷ (0 ∷ 0 ∷ 1 ∷ 2 ∷ 3 ∷ 0 ∷ 0 ∷ 0 ∷ 0 ∷ 0 ∷ 0 ∷ 0 ∷ 0 ∷ 0 ∷ 0 ∷ []) ∷ (0 ∷ 0 ∷ 1 ∷ 2 ∷ 3 ∷ 0 ∷ 0 ∷ 0 ∷ 0 ∷ 0 ∷ 0 ∷ 0 ∷ 0 ∷ 0 ∷ 0 ∷ []) ∷ [])
unfolding digit packed
br_table_block_if_loop = refl

br_0_block_if_if : map (ends 12 ((Then (Block (Then (point 1) (Then (Then (If (Const32 1) (Then (point 2) (Then (Then (If (Const32 1) (Then (point 3) (Then (Then (If (Local 0) (Then (Set 0 (Two (Of I32 Sub) (Local 0) (Const32 1))) (Br 0)) (point 10)) (point 11)) (point 6))) Skip) (point 9)) (point 5))) Skip) (point 8)) (point 4)))) (point 7)) ∷ [])) ((0 ∷ 0 ∷ []) ∷ (1 ∷ 0 ∷ []) ∷ (2 ∷ 0 ∷ []) ∷ []) ≡ ((0 ∷ 0 ∷ 1 ∷ 2 ∷ 3 ∷ 10 ∷ 11 ∷ 6 ∷ 9 ∷ 5 ∷ 8 ∷ 4 ∷ 7 ∷ 0 ∷ []) ∷ (0 ∷ 0 ∷ 1 ∷ 2 ∷ 3 ∷ 11 ∷ 6 ∷ 9 ∷ 5 ∷ 8 ∷ 4 ∷ 7 ∷ 0 ∷ 0 ∷ []) ∷ (0 ∷ 0 ∷ 1 ∷ 2 ∷ 3 ∷ 11 ∷ 6 ∷ 9 ∷ 5 ∷ 8 ∷ 4 ∷ 7 ∷ 0 ∷ 0 ∷ []) ∷ [])
unfolding digit packed
br_0_block_if_if = refl

br_1_block_if_if : map (ends 12 ((Then (Block (Then (point 1) (Then (Then (If (Const32 1) (Then (point 2) (Then (Then (If (Const32 1) (Then (point 3) (Then (Then (If (Local 0) (Then (Set 0 (Two (Of I32 Sub) (Local 0) (Const32 1))) (Br 1)) (point 10)) (point 11)) (point 6))) Skip) (point 9)) (point 5))) Skip) (point 8)) (point 4)))) (point 7)) ∷ [])) ((0 ∷ 0 ∷ []) ∷ (1 ∷ 0 ∷ []) ∷ (2 ∷ 0 ∷ []) ∷ []) ≡ ((0 ∷ 0 ∷ 1 ∷ 2 ∷ 3 ∷ 10 ∷ 11 ∷ 6 ∷ 9 ∷ 5 ∷ 8 ∷ 4 ∷ 7 ∷ 0 ∷ []) ∷ (0 ∷ 0 ∷ 1 ∷ 2 ∷ 3 ∷ 9 ∷ 5 ∷ 8 ∷ 4 ∷ 7 ∷ 0 ∷ 0 ∷ 0 ∷ 0 ∷ []) ∷ (0 ∷ 0 ∷ 1 ∷ 2 ∷ 3 ∷ 9 ∷ 5 ∷ 8 ∷ 4 ∷ 7 ∷ 0 ∷ 0 ∷ 0 ∷ 0 ∷ []) ∷ [])
unfolding digit packed
br_1_block_if_if = refl

br_2_block_if_if : map (ends 12 ((Then (Block (Then (point 1) (Then (Then (If (Const32 1) (Then (point 2) (Then (Then (If (Const32 1) (Then (point 3) (Then (Then (If (Local 0) (Then (Set 0 (Two (Of I32 Sub) (Local 0) (Const32 1))) (Br 2)) (point 10)) (point 11)) (point 6))) Skip) (point 9)) (point 5))) Skip) (point 8)) (point 4)))) (point 7)) ∷ [])) ((0 ∷ 0 ∷ []) ∷ (1 ∷ 0 ∷ []) ∷ (2 ∷ 0 ∷ []) ∷ []) ≡ ((0 ∷ 0 ∷ 1 ∷ 2 ∷ 3 ∷ 10 ∷ 11 ∷ 6 ∷ 9 ∷ 5 ∷ 8 ∷ 4 ∷ 7 ∷ 0 ∷ []) ∷ (0 ∷ 0 ∷ 1 ∷ 2 ∷ 3 ∷ 8 ∷ 4 ∷ 7 ∷ 0 ∷ 0 ∷ 0 ∷ 0 ∷ 0 ∷ 0 ∷ []) ∷ (0 ∷ 0 ∷ 1 ∷ 2 ∷ 3 ∷ 8 ∷ 4 ∷ 7 ∷ 0 ∷ 0 ∷ 0 ∷ 0 ∷ 0 ∷ 0 ∷ []) ∷ [])
unfolding digit packed
br_2_block_if_if = refl

br_3_block_if_if : map (ends 12 ((Then (Block (Then (point 1) (Then (Then (If (Const32 1) (Then (point 2) (Then (Then (If (Const32 1) (Then (point 3) (Then (Then (If (Local 0) (Then (Set 0 (Two (Of I32 Sub) (Local 0) (Const32 1))) (Br 3)) (point 10)) (point 11)) (point 6))) Skip) (point 9)) (point 5))) Skip) (point 8)) (point 4)))) (point 7)) ∷ [])) ((0 ∷ 0 ∷ []) ∷ (1 ∷ 0 ∷ []) ∷ (2 ∷ 0 ∷ []) ∷ []) ≡ ((0 ∷ 0 ∷ 1 ∷ 2 ∷ 3 ∷ 10 ∷ 11 ∷ 6 ∷ 9 ∷ 5 ∷ 8 ∷ 4 ∷ 7 ∷ 0 ∷ []) ∷ (0 ∷ 0 ∷ 1 ∷ 2 ∷ 3 ∷ 7 ∷ 0 ∷ 0 ∷ 0 ∷ 0 ∷ 0 ∷ 0 ∷ 0 ∷ 0 ∷ []) ∷ (0 ∷ 0 ∷ 1 ∷ 2 ∷ 3 ∷ 7 ∷ 0 ∷ 0 ∷ 0 ∷ 0 ∷ 0 ∷ 0 ∷ 0 ∷ 0 ∷ []) ∷ [])
unfolding digit packed
br_3_block_if_if = refl

br_4_block_if_if : map (ends 12 ((Then (Block (Then (point 1) (Then (Then (If (Const32 1) (Then (point 2) (Then (Then (If (Const32 1) (Then (point 3) (Then (Then (If (Local 0) (Then (Set 0 (Two (Of I32 Sub) (Local 0) (Const32 1))) (Br 4)) (point 10)) (point 11)) (point 6))) Skip) (point 9)) (point 5))) Skip) (point 8)) (point 4)))) (point 7)) ∷ [])) ((0 ∷ 0 ∷ []) ∷ (1 ∷ 0 ∷ []) ∷ (2 ∷ 0 ∷ []) ∷ []) ≡ ((0 ∷ 0 ∷ 1 ∷ 2 ∷ 3 ∷ 10 ∷ 11 ∷ 6 ∷ 9 ∷ 5 ∷ 8 ∷ 4 ∷ 7 ∷ 0 ∷ []) ∷ (0 ∷ 0 ∷ 1 ∷ 2 ∷ 3 ∷ 0 ∷ 0 ∷ 0 ∷ 0 ∷ 0 ∷ 0 ∷ 0 ∷ 0 ∷ 0 ∷ []) ∷ (0 ∷ 0 ∷ 1 ∷ 2 ∷ 3 ∷ 0 ∷ 0 ∷ 0 ∷ 0 ∷ 0 ∷ 0 ∷ 0 ∷ 0 ∷ 0 ∷ []) ∷ [])
unfolding digit packed
br_4_block_if_if = refl

br_table_block_if_if : map (ends 11 ((Then (Block (Then (point 1) (Then (Then (If (Const32 1) (Then (point 2) (Then (Then (If (Const32 1) (Then (point 3) (Then (Then (If (Local 0) (Then (Set 0 (Two (Of I32 Sub) (Local 0) (Const32 1))) (BrTable (0 ∷ 3 ∷ 2 ∷ 1 ∷ []) 4 (Local 1))) (point 10)) (point 11)) (point 6))) Skip) (point 9)) (point 5))) Skip) (point 8)) (point 4)))) (point 7)) ∷ [])) ((1 ∷ 0 ∷ []) ∷ (1 ∷ 1 ∷ []) ∷ (1 ∷ 2 ∷ []) ∷ (1 ∷ 3 ∷ []) ∷ (1 ∷ 4 ∷ []) ∷ (1 ∷ 4294967295 ∷ []) ∷ []) ≡ ((0 ∷ 0 ∷ 1 ∷ 2 ∷ 3 ∷ 11 ∷ 6 ∷ 9 ∷ 5 ∷ 8 ∷ 4 ∷ 7 ∷ 0 ∷ []) ∷ (0 ∷ 0 ∷ 1 ∷ 2 ∷ 3 ∷ 7 ∷ 0 ∷ 0 ∷ 0 ∷ 0 ∷ 0 ∷ 0 ∷ 0 ∷ []) ∷ (0 ∷ 0 ∷ 1 ∷ 2 ∷ 3 ∷ 8 ∷ 4 ∷ 7 ∷ 0 ∷ 0 ∷ 0 ∷ 0 ∷ 0 ∷ []) ∷ (0 ∷ 0 ∷ 1 ∷ 2 ∷ 3 ∷ 9 ∷ 5 ∷ 8 ∷ 4 ∷ 7 ∷ 0 ∷ 0 ∷ 0 ∷ []) ∷ (0 ∷ 0 ∷ 1 ∷ 2 ∷ 3 ∷ 0 ∷ 0 ∷ 0 ∷ 0 ∷ 0 ∷ 0 ∷ 0 ∷ 0 ∷ []) ∷ (0 ∷ 0 ∷ 1 ∷ 2 ∷ 3 ∷ 0 ∷ 0 ∷ 0 ∷ 0 ∷ 0 ∷ 0 ∷ 0 ∷ 0 ∷ []) ∷ [])
unfolding digit packed
br_table_block_if_if = refl

br_0_loop_block_block : map (ends 12 ((Then (Loop (Then (point 1) (Then (Then (Block (Then (point 2) (Then (Then (Block (Then (point 3) (Then (Then (If (Local 0) (Then (Set 0 (Two (Of I32 Sub) (Local 0) (Const32 1))) (Br 0)) (point 10)) (point 11)) (point 6)))) (point 9)) (point 5)))) (point 8)) (point 4)))) (point 7)) ∷ [])) ((0 ∷ 0 ∷ []) ∷ (1 ∷ 0 ∷ []) ∷ (2 ∷ 0 ∷ []) ∷ []) ≡ ((0 ∷ 0 ∷ 1 ∷ 2 ∷ 3 ∷ 10 ∷ 11 ∷ 6 ∷ 9 ∷ 5 ∷ 8 ∷ 4 ∷ 7 ∷ 0 ∷ []) ∷ (0 ∷ 0 ∷ 1 ∷ 2 ∷ 3 ∷ 11 ∷ 6 ∷ 9 ∷ 5 ∷ 8 ∷ 4 ∷ 7 ∷ 0 ∷ 0 ∷ []) ∷ (0 ∷ 0 ∷ 1 ∷ 2 ∷ 3 ∷ 11 ∷ 6 ∷ 9 ∷ 5 ∷ 8 ∷ 4 ∷ 7 ∷ 0 ∷ 0 ∷ []) ∷ [])
unfolding digit packed
br_0_loop_block_block = refl

br_1_loop_block_block : map (ends 12 ((Then (Loop (Then (point 1) (Then (Then (Block (Then (point 2) (Then (Then (Block (Then (point 3) (Then (Then (If (Local 0) (Then (Set 0 (Two (Of I32 Sub) (Local 0) (Const32 1))) (Br 1)) (point 10)) (point 11)) (point 6)))) (point 9)) (point 5)))) (point 8)) (point 4)))) (point 7)) ∷ [])) ((0 ∷ 0 ∷ []) ∷ (1 ∷ 0 ∷ []) ∷ (2 ∷ 0 ∷ []) ∷ []) ≡ ((0 ∷ 0 ∷ 1 ∷ 2 ∷ 3 ∷ 10 ∷ 11 ∷ 6 ∷ 9 ∷ 5 ∷ 8 ∷ 4 ∷ 7 ∷ 0 ∷ []) ∷ (0 ∷ 0 ∷ 1 ∷ 2 ∷ 3 ∷ 9 ∷ 5 ∷ 8 ∷ 4 ∷ 7 ∷ 0 ∷ 0 ∷ 0 ∷ 0 ∷ []) ∷ (0 ∷ 0 ∷ 1 ∷ 2 ∷ 3 ∷ 9 ∷ 5 ∷ 8 ∷ 4 ∷ 7 ∷ 0 ∷ 0 ∷ 0 ∷ 0 ∷ []) ∷ [])
unfolding digit packed
br_1_loop_block_block = refl

br_2_loop_block_block : map (ends 12 ((Then (Loop (Then (point 1) (Then (Then (Block (Then (point 2) (Then (Then (Block (Then (point 3) (Then (Then (If (Local 0) (Then (Set 0 (Two (Of I32 Sub) (Local 0) (Const32 1))) (Br 2)) (point 10)) (point 11)) (point 6)))) (point 9)) (point 5)))) (point 8)) (point 4)))) (point 7)) ∷ [])) ((0 ∷ 0 ∷ []) ∷ (1 ∷ 0 ∷ []) ∷ (2 ∷ 0 ∷ []) ∷ []) ≡ ((0 ∷ 0 ∷ 1 ∷ 2 ∷ 3 ∷ 10 ∷ 11 ∷ 6 ∷ 9 ∷ 5 ∷ 8 ∷ 4 ∷ 7 ∷ 0 ∷ []) ∷ (0 ∷ 0 ∷ 1 ∷ 2 ∷ 3 ∷ 8 ∷ 4 ∷ 7 ∷ 0 ∷ 0 ∷ 0 ∷ 0 ∷ 0 ∷ 0 ∷ []) ∷ (0 ∷ 0 ∷ 1 ∷ 2 ∷ 3 ∷ 8 ∷ 4 ∷ 7 ∷ 0 ∷ 0 ∷ 0 ∷ 0 ∷ 0 ∷ 0 ∷ []) ∷ [])
unfolding digit packed
br_2_loop_block_block = refl

br_3_loop_block_block : map (ends 18 ((Then (Loop (Then (point 1) (Then (Then (Block (Then (point 2) (Then (Then (Block (Then (point 3) (Then (Then (If (Local 0) (Then (Set 0 (Two (Of I32 Sub) (Local 0) (Const32 1))) (Br 3)) (point 10)) (point 11)) (point 6)))) (point 9)) (point 5)))) (point 8)) (point 4)))) (point 7)) ∷ [])) ((0 ∷ 0 ∷ []) ∷ (1 ∷ 0 ∷ []) ∷ (2 ∷ 0 ∷ []) ∷ []) ≡ ((0 ∷ 0 ∷ 1 ∷ 2 ∷ 3 ∷ 10 ∷ 11 ∷ 6 ∷ 9 ∷ 5 ∷ 8 ∷ 4 ∷ 7 ∷ 0 ∷ 0 ∷ 0 ∷ 0 ∷ 0 ∷ 0 ∷ 0 ∷ []) ∷ (0 ∷ 0 ∷ 1 ∷ 2 ∷ 3 ∷ 1 ∷ 2 ∷ 3 ∷ 10 ∷ 11 ∷ 6 ∷ 9 ∷ 5 ∷ 8 ∷ 4 ∷ 7 ∷ 0 ∷ 0 ∷ 0 ∷ 0 ∷ []) ∷ (0 ∷ 0 ∷ 1 ∷ 2 ∷ 3 ∷ 1 ∷ 2 ∷ 3 ∷ 1 ∷ 2 ∷ 3 ∷ 10 ∷ 11 ∷ 6 ∷ 9 ∷ 5 ∷ 8 ∷ 4 ∷ 7 ∷ 0 ∷ []) ∷ [])
unfolding digit packed
br_3_loop_block_block = refl

br_4_loop_block_block : map (ends 12 ((Then (Loop (Then (point 1) (Then (Then (Block (Then (point 2) (Then (Then (Block (Then (point 3) (Then (Then (If (Local 0) (Then (Set 0 (Two (Of I32 Sub) (Local 0) (Const32 1))) (Br 4)) (point 10)) (point 11)) (point 6)))) (point 9)) (point 5)))) (point 8)) (point 4)))) (point 7)) ∷ [])) ((0 ∷ 0 ∷ []) ∷ (1 ∷ 0 ∷ []) ∷ (2 ∷ 0 ∷ []) ∷ []) ≡ ((0 ∷ 0 ∷ 1 ∷ 2 ∷ 3 ∷ 10 ∷ 11 ∷ 6 ∷ 9 ∷ 5 ∷ 8 ∷ 4 ∷ 7 ∷ 0 ∷ []) ∷ (0 ∷ 0 ∷ 1 ∷ 2 ∷ 3 ∷ 0 ∷ 0 ∷ 0 ∷ 0 ∷ 0 ∷ 0 ∷ 0 ∷ 0 ∷ 0 ∷ []) ∷ (0 ∷ 0 ∷ 1 ∷ 2 ∷ 3 ∷ 0 ∷ 0 ∷ 0 ∷ 0 ∷ 0 ∷ 0 ∷ 0 ∷ 0 ∷ 0 ∷ []) ∷ [])
unfolding digit packed
br_4_loop_block_block = refl

br_table_loop_block_block : map (ends 15 ((Then (Loop (Then (point 1) (Then (Then (Block (Then (point 2) (Then (Then (Block (Then (point 3) (Then (Then (If (Local 0) (Then (Set 0 (Two (Of I32 Sub) (Local 0) (Const32 1))) (BrTable (0 ∷ 3 ∷ 2 ∷ 1 ∷ []) 4 (Local 1))) (point 10)) (point 11)) (point 6)))) (point 9)) (point 5)))) (point 8)) (point 4)))) (point 7)) ∷ [])) ((1 ∷ 0 ∷ []) ∷ (1 ∷ 1 ∷ []) ∷ (1 ∷ 2 ∷ []) ∷ (1 ∷ 3 ∷ []) ∷ (1 ∷ 4 ∷ []) ∷ (1 ∷ 4294967295 ∷ []) ∷ []) ≡ ((0 ∷ 0 ∷ 1 ∷ 2 ∷ 3 ∷ 11 ∷ 6 ∷ 9 ∷ 5 ∷ 8 ∷ 4 ∷ 7 ∷ 0 ∷ 0 ∷ 0 ∷ 0 ∷ 0 ∷ []) ∷ (0 ∷ 0 ∷ 1 ∷ 2 ∷ 3 ∷ 1 ∷ 2 ∷ 3 ∷ 10 ∷ 11 ∷ 6 ∷ 9 ∷ 5 ∷ 8 ∷ 4 ∷ 7 ∷ 0 ∷ []) ∷ (0 ∷ 0 ∷ 1 ∷ 2 ∷ 3 ∷ 8 ∷ 4 ∷ 7 ∷ 0 ∷ 0 ∷ 0 ∷ 0 ∷ 0 ∷ 0 ∷ 0 ∷ 0 ∷ 0 ∷ []) ∷ (0 ∷ 0 ∷ 1 ∷ 2 ∷ 3 ∷ 9 ∷ 5 ∷ 8 ∷ 4 ∷ 7 ∷ 0 ∷ 0 ∷ 0 ∷ 0 ∷ 0 ∷ 0 ∷ 0 ∷ []) ∷ (0 ∷ 0 ∷ 1 ∷ 2 ∷ 3 ∷ 0 ∷ 0 ∷ 0 ∷ 0 ∷ 0 ∷ 0 ∷ 0 ∷ 0 ∷ 0 ∷ 0 ∷ 0 ∷ 0 ∷ []) ∷ (0 ∷ 0 ∷ 1 ∷ 2 ∷ 3 ∷ 0 ∷ 0 ∷ 0 ∷ 0 ∷ 0 ∷ 0 ∷ 0 ∷ 0 ∷ 0 ∷ 0 ∷ 0 ∷ 0 ∷ []) ∷ [])
unfolding digit packed
br_table_loop_block_block = refl

br_0_loop_block_loop : map (ends 12 ((Then (Loop (Then (point 1) (Then (Then (Block (Then (point 2) (Then (Then (Loop (Then (point 3) (Then (Then (If (Local 0) (Then (Set 0 (Two (Of I32 Sub) (Local 0) (Const32 1))) (Br 0)) (point 10)) (point 11)) (point 6)))) (point 9)) (point 5)))) (point 8)) (point 4)))) (point 7)) ∷ [])) ((0 ∷ 0 ∷ []) ∷ (1 ∷ 0 ∷ []) ∷ (2 ∷ 0 ∷ []) ∷ []) ≡ ((0 ∷ 0 ∷ 1 ∷ 2 ∷ 3 ∷ 10 ∷ 11 ∷ 6 ∷ 9 ∷ 5 ∷ 8 ∷ 4 ∷ 7 ∷ 0 ∷ []) ∷ (0 ∷ 0 ∷ 1 ∷ 2 ∷ 3 ∷ 11 ∷ 6 ∷ 9 ∷ 5 ∷ 8 ∷ 4 ∷ 7 ∷ 0 ∷ 0 ∷ []) ∷ (0 ∷ 0 ∷ 1 ∷ 2 ∷ 3 ∷ 11 ∷ 6 ∷ 9 ∷ 5 ∷ 8 ∷ 4 ∷ 7 ∷ 0 ∷ 0 ∷ []) ∷ [])
unfolding digit packed
br_0_loop_block_loop = refl

br_1_loop_block_loop : map (ends 14 ((Then (Loop (Then (point 1) (Then (Then (Block (Then (point 2) (Then (Then (Loop (Then (point 3) (Then (Then (If (Local 0) (Then (Set 0 (Two (Of I32 Sub) (Local 0) (Const32 1))) (Br 1)) (point 10)) (point 11)) (point 6)))) (point 9)) (point 5)))) (point 8)) (point 4)))) (point 7)) ∷ [])) ((0 ∷ 0 ∷ []) ∷ (1 ∷ 0 ∷ []) ∷ (2 ∷ 0 ∷ []) ∷ []) ≡ ((0 ∷ 0 ∷ 1 ∷ 2 ∷ 3 ∷ 10 ∷ 11 ∷ 6 ∷ 9 ∷ 5 ∷ 8 ∷ 4 ∷ 7 ∷ 0 ∷ 0 ∷ 0 ∷ []) ∷ (0 ∷ 0 ∷ 1 ∷ 2 ∷ 3 ∷ 3 ∷ 10 ∷ 11 ∷ 6 ∷ 9 ∷ 5 ∷ 8 ∷ 4 ∷ 7 ∷ 0 ∷ 0 ∷ []) ∷ (0 ∷ 0 ∷ 1 ∷ 2 ∷ 3 ∷ 3 ∷ 3 ∷ 10 ∷ 11 ∷ 6 ∷ 9 ∷ 5 ∷ 8 ∷ 4 ∷ 7 ∷ 0 ∷ []) ∷ [])
unfolding digit packed
br_1_loop_block_loop = refl

br_2_loop_block_loop : map (ends 12 ((Then (Loop (Then (point 1) (Then (Then (Block (Then (point 2) (Then (Then (Loop (Then (point 3) (Then (Then (If (Local 0) (Then (Set 0 (Two (Of I32 Sub) (Local 0) (Const32 1))) (Br 2)) (point 10)) (point 11)) (point 6)))) (point 9)) (point 5)))) (point 8)) (point 4)))) (point 7)) ∷ [])) ((0 ∷ 0 ∷ []) ∷ (1 ∷ 0 ∷ []) ∷ (2 ∷ 0 ∷ []) ∷ []) ≡ ((0 ∷ 0 ∷ 1 ∷ 2 ∷ 3 ∷ 10 ∷ 11 ∷ 6 ∷ 9 ∷ 5 ∷ 8 ∷ 4 ∷ 7 ∷ 0 ∷ []) ∷ (0 ∷ 0 ∷ 1 ∷ 2 ∷ 3 ∷ 8 ∷ 4 ∷ 7 ∷ 0 ∷ 0 ∷ 0 ∷ 0 ∷ 0 ∷ 0 ∷ []) ∷ (0 ∷ 0 ∷ 1 ∷ 2 ∷ 3 ∷ 8 ∷ 4 ∷ 7 ∷ 0 ∷ 0 ∷ 0 ∷ 0 ∷ 0 ∷ 0 ∷ []) ∷ [])
unfolding digit packed
br_2_loop_block_loop = refl

br_3_loop_block_loop : map (ends 18 ((Then (Loop (Then (point 1) (Then (Then (Block (Then (point 2) (Then (Then (Loop (Then (point 3) (Then (Then (If (Local 0) (Then (Set 0 (Two (Of I32 Sub) (Local 0) (Const32 1))) (Br 3)) (point 10)) (point 11)) (point 6)))) (point 9)) (point 5)))) (point 8)) (point 4)))) (point 7)) ∷ [])) ((0 ∷ 0 ∷ []) ∷ (1 ∷ 0 ∷ []) ∷ (2 ∷ 0 ∷ []) ∷ []) ≡ ((0 ∷ 0 ∷ 1 ∷ 2 ∷ 3 ∷ 10 ∷ 11 ∷ 6 ∷ 9 ∷ 5 ∷ 8 ∷ 4 ∷ 7 ∷ 0 ∷ 0 ∷ 0 ∷ 0 ∷ 0 ∷ 0 ∷ 0 ∷ []) ∷ (0 ∷ 0 ∷ 1 ∷ 2 ∷ 3 ∷ 1 ∷ 2 ∷ 3 ∷ 10 ∷ 11 ∷ 6 ∷ 9 ∷ 5 ∷ 8 ∷ 4 ∷ 7 ∷ 0 ∷ 0 ∷ 0 ∷ 0 ∷ []) ∷ (0 ∷ 0 ∷ 1 ∷ 2 ∷ 3 ∷ 1 ∷ 2 ∷ 3 ∷ 1 ∷ 2 ∷ 3 ∷ 10 ∷ 11 ∷ 6 ∷ 9 ∷ 5 ∷ 8 ∷ 4 ∷ 7 ∷ 0 ∷ []) ∷ [])
unfolding digit packed
br_3_loop_block_loop = refl

br_4_loop_block_loop : map (ends 12 ((Then (Loop (Then (point 1) (Then (Then (Block (Then (point 2) (Then (Then (Loop (Then (point 3) (Then (Then (If (Local 0) (Then (Set 0 (Two (Of I32 Sub) (Local 0) (Const32 1))) (Br 4)) (point 10)) (point 11)) (point 6)))) (point 9)) (point 5)))) (point 8)) (point 4)))) (point 7)) ∷ [])) ((0 ∷ 0 ∷ []) ∷ (1 ∷ 0 ∷ []) ∷ (2 ∷ 0 ∷ []) ∷ []) ≡ ((0 ∷ 0 ∷ 1 ∷ 2 ∷ 3 ∷ 10 ∷ 11 ∷ 6 ∷ 9 ∷ 5 ∷ 8 ∷ 4 ∷ 7 ∷ 0 ∷ []) ∷ (0 ∷ 0 ∷ 1 ∷ 2 ∷ 3 ∷ 0 ∷ 0 ∷ 0 ∷ 0 ∷ 0 ∷ 0 ∷ 0 ∷ 0 ∷ 0 ∷ []) ∷ (0 ∷ 0 ∷ 1 ∷ 2 ∷ 3 ∷ 0 ∷ 0 ∷ 0 ∷ 0 ∷ 0 ∷ 0 ∷ 0 ∷ 0 ∷ 0 ∷ []) ∷ [])
unfolding digit packed
br_4_loop_block_loop = refl

br_table_loop_block_loop : map (ends 15 ((Then (Loop (Then (point 1) (Then (Then (Block (Then (point 2) (Then (Then (Loop (Then (point 3) (Then (Then (If (Local 0) (Then (Set 0 (Two (Of I32 Sub) (Local 0) (Const32 1))) (BrTable (0 ∷ 3 ∷ 2 ∷ 1 ∷ []) 4 (Local 1))) (point 10)) (point 11)) (point 6)))) (point 9)) (point 5)))) (point 8)) (point 4)))) (point 7)) ∷ [])) ((1 ∷ 0 ∷ []) ∷ (1 ∷ 1 ∷ []) ∷ (1 ∷ 2 ∷ []) ∷ (1 ∷ 3 ∷ []) ∷ (1 ∷ 4 ∷ []) ∷ (1 ∷ 4294967295 ∷ []) ∷ []) ≡ ((0 ∷ 0 ∷ 1 ∷ 2 ∷ 3 ∷ 11 ∷ 6 ∷ 9 ∷ 5 ∷ 8 ∷ 4 ∷ 7 ∷ 0 ∷ 0 ∷ 0 ∷ 0 ∷ 0 ∷ []) ∷ (0 ∷ 0 ∷ 1 ∷ 2 ∷ 3 ∷ 1 ∷ 2 ∷ 3 ∷ 10 ∷ 11 ∷ 6 ∷ 9 ∷ 5 ∷ 8 ∷ 4 ∷ 7 ∷ 0 ∷ []) ∷ (0 ∷ 0 ∷ 1 ∷ 2 ∷ 3 ∷ 8 ∷ 4 ∷ 7 ∷ 0 ∷ 0 ∷ 0 ∷ 0 ∷ 0 ∷ 0 ∷ 0 ∷ 0 ∷ 0 ∷ []) ∷ (0 ∷ 0 ∷ 1 ∷ 2 ∷ 3 ∷ 3 ∷ 10 ∷ 11 ∷ 6 ∷ 9 ∷ 5 ∷ 8 ∷ 4 ∷ 7 ∷ 0 ∷ 0 ∷ 0 ∷ []) ∷ (0 ∷ 0 ∷ 1 ∷ 2 ∷ 3 ∷ 0 ∷ 0 ∷ 0 ∷ 0 ∷ 0 ∷ 0 ∷ 0 ∷ 0 ∷ 0 ∷ 0 ∷ 0 ∷ 0 ∷ []) ∷ (0 ∷ 0 ∷ 1 ∷ 2 ∷ 3 ∷ 0 ∷ 0 ∷ 0 ∷ 0 ∷ 0 ∷ 0 ∷ 0 ∷ 0 ∷ 0 ∷ 0 ∷ 0 ∷ 0 ∷ []) ∷ [])
unfolding digit packed
br_table_loop_block_loop = refl

br_0_loop_block_if : map (ends 12 ((Then (Loop (Then (point 1) (Then (Then (Block (Then (point 2) (Then (Then (If (Const32 1) (Then (point 3) (Then (Then (If (Local 0) (Then (Set 0 (Two (Of I32 Sub) (Local 0) (Const32 1))) (Br 0)) (point 10)) (point 11)) (point 6))) Skip) (point 9)) (point 5)))) (point 8)) (point 4)))) (point 7)) ∷ [])) ((0 ∷ 0 ∷ []) ∷ (1 ∷ 0 ∷ []) ∷ (2 ∷ 0 ∷ []) ∷ []) ≡ ((0 ∷ 0 ∷ 1 ∷ 2 ∷ 3 ∷ 10 ∷ 11 ∷ 6 ∷ 9 ∷ 5 ∷ 8 ∷ 4 ∷ 7 ∷ 0 ∷ []) ∷ (0 ∷ 0 ∷ 1 ∷ 2 ∷ 3 ∷ 11 ∷ 6 ∷ 9 ∷ 5 ∷ 8 ∷ 4 ∷ 7 ∷ 0 ∷ 0 ∷ []) ∷ (0 ∷ 0 ∷ 1 ∷ 2 ∷ 3 ∷ 11 ∷ 6 ∷ 9 ∷ 5 ∷ 8 ∷ 4 ∷ 7 ∷ 0 ∷ 0 ∷ []) ∷ [])
unfolding digit packed
br_0_loop_block_if = refl

br_1_loop_block_if : map (ends 12 ((Then (Loop (Then (point 1) (Then (Then (Block (Then (point 2) (Then (Then (If (Const32 1) (Then (point 3) (Then (Then (If (Local 0) (Then (Set 0 (Two (Of I32 Sub) (Local 0) (Const32 1))) (Br 1)) (point 10)) (point 11)) (point 6))) Skip) (point 9)) (point 5)))) (point 8)) (point 4)))) (point 7)) ∷ [])) ((0 ∷ 0 ∷ []) ∷ (1 ∷ 0 ∷ []) ∷ (2 ∷ 0 ∷ []) ∷ []) ≡ ((0 ∷ 0 ∷ 1 ∷ 2 ∷ 3 ∷ 10 ∷ 11 ∷ 6 ∷ 9 ∷ 5 ∷ 8 ∷ 4 ∷ 7 ∷ 0 ∷ []) ∷ (0 ∷ 0 ∷ 1 ∷ 2 ∷ 3 ∷ 9 ∷ 5 ∷ 8 ∷ 4 ∷ 7 ∷ 0 ∷ 0 ∷ 0 ∷ 0 ∷ []) ∷ (0 ∷ 0 ∷ 1 ∷ 2 ∷ 3 ∷ 9 ∷ 5 ∷ 8 ∷ 4 ∷ 7 ∷ 0 ∷ 0 ∷ 0 ∷ 0 ∷ []) ∷ [])
unfolding digit packed
br_1_loop_block_if = refl

br_2_loop_block_if : map (ends 12 ((Then (Loop (Then (point 1) (Then (Then (Block (Then (point 2) (Then (Then (If (Const32 1) (Then (point 3) (Then (Then (If (Local 0) (Then (Set 0 (Two (Of I32 Sub) (Local 0) (Const32 1))) (Br 2)) (point 10)) (point 11)) (point 6))) Skip) (point 9)) (point 5)))) (point 8)) (point 4)))) (point 7)) ∷ [])) ((0 ∷ 0 ∷ []) ∷ (1 ∷ 0 ∷ []) ∷ (2 ∷ 0 ∷ []) ∷ []) ≡ ((0 ∷ 0 ∷ 1 ∷ 2 ∷ 3 ∷ 10 ∷ 11 ∷ 6 ∷ 9 ∷ 5 ∷ 8 ∷ 4 ∷ 7 ∷ 0 ∷ []) ∷ (0 ∷ 0 ∷ 1 ∷ 2 ∷ 3 ∷ 8 ∷ 4 ∷ 7 ∷ 0 ∷ 0 ∷ 0 ∷ 0 ∷ 0 ∷ 0 ∷ []) ∷ (0 ∷ 0 ∷ 1 ∷ 2 ∷ 3 ∷ 8 ∷ 4 ∷ 7 ∷ 0 ∷ 0 ∷ 0 ∷ 0 ∷ 0 ∷ 0 ∷ []) ∷ [])
unfolding digit packed
br_2_loop_block_if = refl

br_3_loop_block_if : map (ends 18 ((Then (Loop (Then (point 1) (Then (Then (Block (Then (point 2) (Then (Then (If (Const32 1) (Then (point 3) (Then (Then (If (Local 0) (Then (Set 0 (Two (Of I32 Sub) (Local 0) (Const32 1))) (Br 3)) (point 10)) (point 11)) (point 6))) Skip) (point 9)) (point 5)))) (point 8)) (point 4)))) (point 7)) ∷ [])) ((0 ∷ 0 ∷ []) ∷ (1 ∷ 0 ∷ []) ∷ (2 ∷ 0 ∷ []) ∷ []) ≡ ((0 ∷ 0 ∷ 1 ∷ 2 ∷ 3 ∷ 10 ∷ 11 ∷ 6 ∷ 9 ∷ 5 ∷ 8 ∷ 4 ∷ 7 ∷ 0 ∷ 0 ∷ 0 ∷ 0 ∷ 0 ∷ 0 ∷ 0 ∷ []) ∷ (0 ∷ 0 ∷ 1 ∷ 2 ∷ 3 ∷ 1 ∷ 2 ∷ 3 ∷ 10 ∷ 11 ∷ 6 ∷ 9 ∷ 5 ∷ 8 ∷ 4 ∷ 7 ∷ 0 ∷ 0 ∷ 0 ∷ 0 ∷ []) ∷ (0 ∷ 0 ∷ 1 ∷ 2 ∷ 3 ∷ 1 ∷ 2 ∷ 3 ∷ 1 ∷ 2 ∷ 3 ∷ 10 ∷ 11 ∷ 6 ∷ 9 ∷ 5 ∷ 8 ∷ 4 ∷ 7 ∷ 0 ∷ []) ∷ [])
unfolding digit packed
br_3_loop_block_if = refl

br_4_loop_block_if : map (ends 12 ((Then (Loop (Then (point 1) (Then (Then (Block (Then (point 2) (Then (Then (If (Const32 1) (Then (point 3) (Then (Then (If (Local 0) (Then (Set 0 (Two (Of I32 Sub) (Local 0) (Const32 1))) (Br 4)) (point 10)) (point 11)) (point 6))) Skip) (point 9)) (point 5)))) (point 8)) (point 4)))) (point 7)) ∷ [])) ((0 ∷ 0 ∷ []) ∷ (1 ∷ 0 ∷ []) ∷ (2 ∷ 0 ∷ []) ∷ []) ≡ ((0 ∷ 0 ∷ 1 ∷ 2 ∷ 3 ∷ 10 ∷ 11 ∷ 6 ∷ 9 ∷ 5 ∷ 8 ∷ 4 ∷ 7 ∷ 0 ∷ []) ∷ (0 ∷ 0 ∷ 1 ∷ 2 ∷ 3 ∷ 0 ∷ 0 ∷ 0 ∷ 0 ∷ 0 ∷ 0 ∷ 0 ∷ 0 ∷ 0 ∷ []) ∷ (0 ∷ 0 ∷ 1 ∷ 2 ∷ 3 ∷ 0 ∷ 0 ∷ 0 ∷ 0 ∷ 0 ∷ 0 ∷ 0 ∷ 0 ∷ 0 ∷ []) ∷ [])
unfolding digit packed
br_4_loop_block_if = refl

br_table_loop_block_if : map (ends 15 ((Then (Loop (Then (point 1) (Then (Then (Block (Then (point 2) (Then (Then (If (Const32 1) (Then (point 3) (Then (Then (If (Local 0) (Then (Set 0 (Two (Of I32 Sub) (Local 0) (Const32 1))) (BrTable (0 ∷ 3 ∷ 2 ∷ 1 ∷ []) 4 (Local 1))) (point 10)) (point 11)) (point 6))) Skip) (point 9)) (point 5)))) (point 8)) (point 4)))) (point 7)) ∷ [])) ((1 ∷ 0 ∷ []) ∷ (1 ∷ 1 ∷ []) ∷ (1 ∷ 2 ∷ []) ∷ (1 ∷ 3 ∷ []) ∷ (1 ∷ 4 ∷ []) ∷ (1 ∷ 4294967295 ∷ []) ∷ []) ≡ ((0 ∷ 0 ∷ 1 ∷ 2 ∷ 3 ∷ 11 ∷ 6 ∷ 9 ∷ 5 ∷ 8 ∷ 4 ∷ 7 ∷ 0 ∷ 0 ∷ 0 ∷ 0 ∷ 0 ∷ []) ∷ (0 ∷ 0 ∷ 1 ∷ 2 ∷ 3 ∷ 1 ∷ 2 ∷ 3 ∷ 10 ∷ 11 ∷ 6 ∷ 9 ∷ 5 ∷ 8 ∷ 4 ∷ 7 ∷ 0 ∷ []) ∷ (0 ∷ 0 ∷ 1 ∷ 2 ∷ 3 ∷ 8 ∷ 4 ∷ 7 ∷ 0 ∷ 0 ∷ 0 ∷ 0 ∷ 0 ∷ 0 ∷ 0 ∷ 0 ∷ 0 ∷ []) ∷ (0 ∷ 0 ∷ 1 ∷ 2 ∷ 3 ∷ 9 ∷ 5 ∷ 8 ∷ 4 ∷ 7 ∷ 0 ∷ 0 ∷ 0 ∷ 0 ∷ 0 ∷ 0 ∷ 0 ∷ []) ∷ (0 ∷ 0 ∷ 1 ∷ 2 ∷ 3 ∷ 0 ∷ 0 ∷ 0 ∷ 0 ∷ 0 ∷ 0 ∷ 0 ∷ 0 ∷ 0 ∷ 0 ∷ 0 ∷ 0 ∷ []) ∷ (0 ∷ 0 ∷ 1 ∷ 2 ∷ 3 ∷ 0 ∷ 0 ∷ 0 ∷ 0 ∷ 0 ∷ 0 ∷ 0 ∷ 0 ∷ 0 ∷ 0 ∷ 0 ∷ 0 ∷ []) ∷ [])
unfolding digit packed
br_table_loop_block_if = refl

br_0_loop_loop_block : map (ends 12 ((Then (Loop (Then (point 1) (Then (Then (Loop (Then (point 2) (Then (Then (Block (Then (point 3) (Then (Then (If (Local 0) (Then (Set 0 (Two (Of I32 Sub) (Local 0) (Const32 1))) (Br 0)) (point 10)) (point 11)) (point 6)))) (point 9)) (point 5)))) (point 8)) (point 4)))) (point 7)) ∷ [])) ((0 ∷ 0 ∷ []) ∷ (1 ∷ 0 ∷ []) ∷ (2 ∷ 0 ∷ []) ∷ []) ≡ ((0 ∷ 0 ∷ 1 ∷ 2 ∷ 3 ∷ 10 ∷ 11 ∷ 6 ∷ 9 ∷ 5 ∷ 8 ∷ 4 ∷ 7 ∷ 0 ∷ []) ∷ (0 ∷ 0 ∷ 1 ∷ 2 ∷ 3 ∷ 11 ∷ 6 ∷ 9 ∷ 5 ∷ 8 ∷ 4 ∷ 7 ∷ 0 ∷ 0 ∷ []) ∷ (0 ∷ 0 ∷ 1 ∷ 2 ∷ 3 ∷ 11 ∷ 6 ∷ 9 ∷ 5 ∷ 8 ∷ 4 ∷ 7 ∷ 0 ∷ 0 ∷ []) ∷ [])
unfolding digit packed
br_0_loop_loop_block = refl

br_1_loop_loop_block : map (ends 12 ((Then (Loop (Then (point 1) (Then (Then (Loop (Then (point 2) (Then (Then (Block (Then (point 3) (Then (Then (If (Local 0) (Then (Set 0 (Two (Of I32 Sub) (Local 0) (Const32 1))) (Br 1)) (point 10)) (point 11)) (point 6)))) (point 9)) (point 5)))) (point 8)) (point 4)))) (point 7)) ∷ [])) ((0 ∷ 0 ∷ []) ∷ (1 ∷ 0 ∷ []) ∷ (2 ∷ 0 ∷ []) ∷ []) ≡ ((0 ∷ 0 ∷ 1 ∷ 2 ∷ 3 ∷ 10 ∷ 11 ∷ 6 ∷ 9 ∷ 5 ∷ 8 ∷ 4 ∷ 7 ∷ 0 ∷ []) ∷ (0 ∷ 0 ∷ 1 ∷ 2 ∷ 3 ∷ 9 ∷ 5 ∷ 8 ∷ 4 ∷ 7 ∷ 0 ∷ 0 ∷ 0 ∷ 0 ∷ []) ∷ (0 ∷ 0 ∷ 1 ∷ 2 ∷ 3 ∷ 9 ∷ 5 ∷ 8 ∷ 4 ∷ 7 ∷ 0 ∷ 0 ∷ 0 ∷ 0 ∷ []) ∷ [])
unfolding digit packed
br_1_loop_loop_block = refl

br_2_loop_loop_block : map (ends 16 ((Then (Loop (Then (point 1) (Then (Then (Loop (Then (point 2) (Then (Then (Block (Then (point 3) (Then (Then (If (Local 0) (Then (Set 0 (Two (Of I32 Sub) (Local 0) (Const32 1))) (Br 2)) (point 10)) (point 11)) (point 6)))) (point 9)) (point 5)))) (point 8)) (point 4)))) (point 7)) ∷ [])) ((0 ∷ 0 ∷ []) ∷ (1 ∷ 0 ∷ []) ∷ (2 ∷ 0 ∷ []) ∷ []) ≡ ((0 ∷ 0 ∷ 1 ∷ 2 ∷ 3 ∷ 10 ∷ 11 ∷ 6 ∷ 9 ∷ 5 ∷ 8 ∷ 4 ∷ 7 ∷ 0 ∷ 0 ∷ 0 ∷ 0 ∷ 0 ∷ []) ∷ (0 ∷ 0 ∷ 1 ∷ 2 ∷ 3 ∷ 2 ∷ 3 ∷ 10 ∷ 11 ∷ 6 ∷ 9 ∷ 5 ∷ 8 ∷ 4 ∷ 7 ∷ 0 ∷ 0 ∷ 0 ∷ []) ∷ (0 ∷ 0 ∷ 1 ∷ 2 ∷ 3 ∷ 2 ∷ 3 ∷ 2 ∷ 3 ∷ 10 ∷ 11 ∷ 6 ∷ 9 ∷ 5 ∷ 8 ∷ 4 ∷ 7 ∷ 0 ∷ []) ∷ [])
unfolding digit packed
br_2_loop_loop_block = refl

br_3_loop_loop_block : map (ends 18 ((Then (Loop (Then (point 1) (Then (Then (Loop (Then (point 2) (Then (Then (Block (Then (point 3) (Then (Then (If (Local 0) (Then (Set 0 (Two (Of I32 Sub) (Local 0) (Const32 1))) (Br 3)) (point 10)) (point 11)) (point 6)))) (point 9)) (point 5)))) (point 8)) (point 4)))) (point 7)) ∷ [])) ((0 ∷ 0 ∷ []) ∷ (1 ∷ 0 ∷ []) ∷ (2 ∷ 0 ∷ []) ∷ []) ≡ ((0 ∷ 0 ∷ 1 ∷ 2 ∷ 3 ∷ 10 ∷ 11 ∷ 6 ∷ 9 ∷ 5 ∷ 8 ∷ 4 ∷ 7 ∷ 0 ∷ 0 ∷ 0 ∷ 0 ∷ 0 ∷ 0 ∷ 0 ∷ []) ∷ (0 ∷ 0 ∷ 1 ∷ 2 ∷ 3 ∷ 1 ∷ 2 ∷ 3 ∷ 10 ∷ 11 ∷ 6 ∷ 9 ∷ 5 ∷ 8 ∷ 4 ∷ 7 ∷ 0 ∷ 0 ∷ 0 ∷ 0 ∷ []) ∷ (0 ∷ 0 ∷ 1 ∷ 2 ∷ 3 ∷ 1 ∷ 2 ∷ 3 ∷ 1 ∷ 2 ∷ 3 ∷ 10 ∷ 11 ∷ 6 ∷ 9 ∷ 5 ∷ 8 ∷ 4 ∷ 7 ∷ 0 ∷ []) ∷ [])
unfolding digit packed
br_3_loop_loop_block = refl

br_4_loop_loop_block : map (ends 12 ((Then (Loop (Then (point 1) (Then (Then (Loop (Then (point 2) (Then (Then (Block (Then (point 3) (Then (Then (If (Local 0) (Then (Set 0 (Two (Of I32 Sub) (Local 0) (Const32 1))) (Br 4)) (point 10)) (point 11)) (point 6)))) (point 9)) (point 5)))) (point 8)) (point 4)))) (point 7)) ∷ [])) ((0 ∷ 0 ∷ []) ∷ (1 ∷ 0 ∷ []) ∷ (2 ∷ 0 ∷ []) ∷ []) ≡ ((0 ∷ 0 ∷ 1 ∷ 2 ∷ 3 ∷ 10 ∷ 11 ∷ 6 ∷ 9 ∷ 5 ∷ 8 ∷ 4 ∷ 7 ∷ 0 ∷ []) ∷ (0 ∷ 0 ∷ 1 ∷ 2 ∷ 3 ∷ 0 ∷ 0 ∷ 0 ∷ 0 ∷ 0 ∷ 0 ∷ 0 ∷ 0 ∷ 0 ∷ []) ∷ (0 ∷ 0 ∷ 1 ∷ 2 ∷ 3 ∷ 0 ∷ 0 ∷ 0 ∷ 0 ∷ 0 ∷ 0 ∷ 0 ∷ 0 ∷ 0 ∷ []) ∷ [])
unfolding digit packed
br_4_loop_loop_block = refl

br_table_loop_loop_block : map (ends 15 ((Then (Loop (Then (point 1) (Then (Then (Loop (Then (point 2) (Then (Then (Block (Then (point 3) (Then (Then (If (Local 0) (Then (Set 0 (Two (Of I32 Sub) (Local 0) (Const32 1))) (BrTable (0 ∷ 3 ∷ 2 ∷ 1 ∷ []) 4 (Local 1))) (point 10)) (point 11)) (point 6)))) (point 9)) (point 5)))) (point 8)) (point 4)))) (point 7)) ∷ [])) ((1 ∷ 0 ∷ []) ∷ (1 ∷ 1 ∷ []) ∷ (1 ∷ 2 ∷ []) ∷ (1 ∷ 3 ∷ []) ∷ (1 ∷ 4 ∷ []) ∷ (1 ∷ 4294967295 ∷ []) ∷ []) ≡ ((0 ∷ 0 ∷ 1 ∷ 2 ∷ 3 ∷ 11 ∷ 6 ∷ 9 ∷ 5 ∷ 8 ∷ 4 ∷ 7 ∷ 0 ∷ 0 ∷ 0 ∷ 0 ∷ 0 ∷ []) ∷ (0 ∷ 0 ∷ 1 ∷ 2 ∷ 3 ∷ 1 ∷ 2 ∷ 3 ∷ 10 ∷ 11 ∷ 6 ∷ 9 ∷ 5 ∷ 8 ∷ 4 ∷ 7 ∷ 0 ∷ []) ∷ (0 ∷ 0 ∷ 1 ∷ 2 ∷ 3 ∷ 2 ∷ 3 ∷ 10 ∷ 11 ∷ 6 ∷ 9 ∷ 5 ∷ 8 ∷ 4 ∷ 7 ∷ 0 ∷ 0 ∷ []) ∷ (0 ∷ 0 ∷ 1 ∷ 2 ∷ 3 ∷ 9 ∷ 5 ∷ 8 ∷ 4 ∷ 7 ∷ 0 ∷ 0 ∷ 0 ∷ 0 ∷ 0 ∷ 0 ∷ 0 ∷ []) ∷ (0 ∷ 0 ∷ 1 ∷ 2 ∷ 3 ∷ 0 ∷ 0 ∷ 0 ∷ 0 ∷ 0 ∷ 0 ∷ 0 ∷ 0 ∷ 0 ∷ 0 ∷ 0 ∷ 0 ∷ []) ∷ (0 ∷ 0 ∷ 1 ∷ 2 ∷ 3 ∷ 0 ∷ 0 ∷ 0 ∷ 0 ∷ 0 ∷ 0 ∷ 0 ∷ 0 ∷ 0 ∷ 0 ∷ 0 ∷ 0 ∷ []) ∷ [])
unfolding digit packed
br_table_loop_loop_block = refl

br_0_loop_loop_loop : map (ends 12 ((Then (Loop (Then (point 1) (Then (Then (Loop (Then (point 2) (Then (Then (Loop (Then (point 3) (Then (Then (If (Local 0) (Then (Set 0 (Two (Of I32 Sub) (Local 0) (Const32 1))) (Br 0)) (point 10)) (point 11)) (point 6)))) (point 9)) (point 5)))) (point 8)) (point 4)))) (point 7)) ∷ [])) ((0 ∷ 0 ∷ []) ∷ (1 ∷ 0 ∷ []) ∷ (2 ∷ 0 ∷ []) ∷ []) ≡ ((0 ∷ 0 ∷ 1 ∷ 2 ∷ 3 ∷ 10 ∷ 11 ∷ 6 ∷ 9 ∷ 5 ∷ 8 ∷ 4 ∷ 7 ∷ 0 ∷ []) ∷ (0 ∷ 0 ∷ 1 ∷ 2 ∷ 3 ∷ 11 ∷ 6 ∷ 9 ∷ 5 ∷ 8 ∷ 4 ∷ 7 ∷ 0 ∷ 0 ∷ []) ∷ (0 ∷ 0 ∷ 1 ∷ 2 ∷ 3 ∷ 11 ∷ 6 ∷ 9 ∷ 5 ∷ 8 ∷ 4 ∷ 7 ∷ 0 ∷ 0 ∷ []) ∷ [])
unfolding digit packed
br_0_loop_loop_loop = refl

br_1_loop_loop_loop : map (ends 14 ((Then (Loop (Then (point 1) (Then (Then (Loop (Then (point 2) (Then (Then (Loop (Then (point 3) (Then (Then (If (Local 0) (Then (Set 0 (Two (Of I32 Sub) (Local 0) (Const32 1))) (Br 1)) (point 10)) (point 11)) (point 6)))) (point 9)) (point 5)))) (point 8)) (point 4)))) (point 7)) ∷ [])) ((0 ∷ 0 ∷ []) ∷ (1 ∷ 0 ∷ []) ∷ (2 ∷ 0 ∷ []) ∷ []) ≡ ((0 ∷ 0 ∷ 1 ∷ 2 ∷ 3 ∷ 10 ∷ 11 ∷ 6 ∷ 9 ∷ 5 ∷ 8 ∷ 4 ∷ 7 ∷ 0 ∷ 0 ∷ 0 ∷ []) ∷ (0 ∷ 0 ∷ 1 ∷ 2 ∷ 3 ∷ 3 ∷ 10 ∷ 11 ∷ 6 ∷ 9 ∷ 5 ∷ 8 ∷ 4 ∷ 7 ∷ 0 ∷ 0 ∷ []) ∷ (0 ∷ 0 ∷ 1 ∷ 2 ∷ 3 ∷ 3 ∷ 3 ∷ 10 ∷ 11 ∷ 6 ∷ 9 ∷ 5 ∷ 8 ∷ 4 ∷ 7 ∷ 0 ∷ []) ∷ [])
unfolding digit packed
br_1_loop_loop_loop = refl

br_2_loop_loop_loop : map (ends 16 ((Then (Loop (Then (point 1) (Then (Then (Loop (Then (point 2) (Then (Then (Loop (Then (point 3) (Then (Then (If (Local 0) (Then (Set 0 (Two (Of I32 Sub) (Local 0) (Const32 1))) (Br 2)) (point 10)) (point 11)) (point 6)))) (point 9)) (point 5)))) (point 8)) (point 4)))) (point 7)) ∷ [])) ((0 ∷ 0 ∷ []) ∷ (1 ∷ 0 ∷ []) ∷ (2 ∷ 0 ∷ []) ∷ []) ≡ ((0 ∷ 0 ∷ 1 ∷ 2 ∷ 3 ∷ 10 ∷ 11 ∷ 6 ∷ 9 ∷ 5 ∷ 8 ∷ 4 ∷ 7 ∷ 0 ∷ 0 ∷ 0 ∷ 0 ∷ 0 ∷ []) ∷ (0 ∷ 0 ∷ 1 ∷ 2 ∷ 3 ∷ 2 ∷ 3 ∷ 10 ∷ 11 ∷ 6 ∷ 9 ∷ 5 ∷ 8 ∷ 4 ∷ 7 ∷ 0 ∷ 0 ∷ 0 ∷ []) ∷ (0 ∷ 0 ∷ 1 ∷ 2 ∷ 3 ∷ 2 ∷ 3 ∷ 2 ∷ 3 ∷ 10 ∷ 11 ∷ 6 ∷ 9 ∷ 5 ∷ 8 ∷ 4 ∷ 7 ∷ 0 ∷ []) ∷ [])
unfolding digit packed
br_2_loop_loop_loop = refl

br_3_loop_loop_loop : map (ends 18 ((Then (Loop (Then (point 1) (Then (Then (Loop (Then (point 2) (Then (Then (Loop (Then (point 3) (Then (Then (If (Local 0) (Then (Set 0 (Two (Of I32 Sub) (Local 0) (Const32 1))) (Br 3)) (point 10)) (point 11)) (point 6)))) (point 9)) (point 5)))) (point 8)) (point 4)))) (point 7)) ∷ [])) ((0 ∷ 0 ∷ []) ∷ (1 ∷ 0 ∷ []) ∷ (2 ∷ 0 ∷ []) ∷ []) ≡ ((0 ∷ 0 ∷ 1 ∷ 2 ∷ 3 ∷ 10 ∷ 11 ∷ 6 ∷ 9 ∷ 5 ∷ 8 ∷ 4 ∷ 7 ∷ 0 ∷ 0 ∷ 0 ∷ 0 ∷ 0 ∷ 0 ∷ 0 ∷ []) ∷ (0 ∷ 0 ∷ 1 ∷ 2 ∷ 3 ∷ 1 ∷ 2 ∷ 3 ∷ 10 ∷ 11 ∷ 6 ∷ 9 ∷ 5 ∷ 8 ∷ 4 ∷ 7 ∷ 0 ∷ 0 ∷ 0 ∷ 0 ∷ []) ∷ (0 ∷ 0 ∷ 1 ∷ 2 ∷ 3 ∷ 1 ∷ 2 ∷ 3 ∷ 1 ∷ 2 ∷ 3 ∷ 10 ∷ 11 ∷ 6 ∷ 9 ∷ 5 ∷ 8 ∷ 4 ∷ 7 ∷ 0 ∷ []) ∷ [])
unfolding digit packed
br_3_loop_loop_loop = refl

br_4_loop_loop_loop : map (ends 12 ((Then (Loop (Then (point 1) (Then (Then (Loop (Then (point 2) (Then (Then (Loop (Then (point 3) (Then (Then (If (Local 0) (Then (Set 0 (Two (Of I32 Sub) (Local 0) (Const32 1))) (Br 4)) (point 10)) (point 11)) (point 6)))) (point 9)) (point 5)))) (point 8)) (point 4)))) (point 7)) ∷ [])) ((0 ∷ 0 ∷ []) ∷ (1 ∷ 0 ∷ []) ∷ (2 ∷ 0 ∷ []) ∷ []) ≡ ((0 ∷ 0 ∷ 1 ∷ 2 ∷ 3 ∷ 10 ∷ 11 ∷ 6 ∷ 9 ∷ 5 ∷ 8 ∷ 4 ∷ 7 ∷ 0 ∷ []) ∷ (0 ∷ 0 ∷ 1 ∷ 2 ∷ 3 ∷ 0 ∷ 0 ∷ 0 ∷ 0 ∷ 0 ∷ 0 ∷ 0 ∷ 0 ∷ 0 ∷ []) ∷ (0 ∷ 0 ∷ 1 ∷ 2 ∷ 3 ∷ 0 ∷ 0 ∷ 0 ∷ 0 ∷ 0 ∷ 0 ∷ 0 ∷ 0 ∷ 0 ∷ []) ∷ [])
unfolding digit packed
br_4_loop_loop_loop = refl

br_table_loop_loop_loop : map (ends 15 ((Then (Loop (Then (point 1) (Then (Then (Loop (Then (point 2) (Then (Then (Loop (Then (point 3) (Then (Then (If (Local 0) (Then (Set 0 (Two (Of I32 Sub) (Local 0) (Const32 1))) (BrTable (0 ∷ 3 ∷ 2 ∷ 1 ∷ []) 4 (Local 1))) (point 10)) (point 11)) (point 6)))) (point 9)) (point 5)))) (point 8)) (point 4)))) (point 7)) ∷ [])) ((1 ∷ 0 ∷ []) ∷ (1 ∷ 1 ∷ []) ∷ (1 ∷ 2 ∷ []) ∷ (1 ∷ 3 ∷ []) ∷ (1 ∷ 4 ∷ []) ∷ (1 ∷ 4294967295 ∷ []) ∷ []) ≡ ((0 ∷ 0 ∷ 1 ∷ 2 ∷ 3 ∷ 11 ∷ 6 ∷ 9 ∷ 5 ∷ 8 ∷ 4 ∷ 7 ∷ 0 ∷ 0 ∷ 0 ∷ 0 ∷ 0 ∷ []) ∷ (0 ∷ 0 ∷ 1 ∷ 2 ∷ 3 ∷ 1 ∷ 2 ∷ 3 ∷ 10 ∷ 11 ∷ 6 ∷ 9 ∷ 5 ∷ 8 ∷ 4 ∷ 7 ∷ 0 ∷ []) ∷ (0 ∷ 0 ∷ 1 ∷ 2 ∷ 3 ∷ 2 ∷ 3 ∷ 10 ∷ 11 ∷ 6 ∷ 9 ∷ 5 ∷ 8 ∷ 4 ∷ 7 ∷ 0 ∷ 0 ∷ []) ∷ (0 ∷ 0 ∷ 1 ∷ 2 ∷ 3 ∷ 3 ∷ 10 ∷ 11 ∷ 6 ∷ 9 ∷ 5 ∷ 8 ∷ 4 ∷ 7 ∷ 0 ∷ 0 ∷ 0 ∷ []) ∷ (0 ∷ 0 ∷ 1 ∷ 2 ∷ 3 ∷ 0 ∷ 0 ∷ 0 ∷ 0 ∷ 0 ∷ 0 ∷ 0 ∷ 0 ∷ 0 ∷ 0 ∷ 0 ∷ 0 ∷ []) ∷ (0 ∷ 0 ∷ 1 ∷ 2 ∷ 3 ∷ 0 ∷ 0 ∷ 0 ∷ 0 ∷ 0 ∷ 0 ∷ 0 ∷ 0 ∷ 0 ∷ 0 ∷ 0 ∷ 0 ∷ []) ∷ [])
unfolding digit packed
br_table_loop_loop_loop = refl

br_0_loop_loop_if : map (ends 12 ((Then (Loop (Then (point 1) (Then (Then (Loop (Then (point 2) (Then (Then (If (Const32 1) (Then (point 3) (Then (Then (If (Local 0) (Then (Set 0 (Two (Of I32 Sub) (Local 0) (Const32 1))) (Br 0)) (point 10)) (point 11)) (point 6))) Skip) (point 9)) (point 5)))) (point 8)) (point 4)))) (point 7)) ∷ [])) ((0 ∷ 0 ∷ []) ∷ (1 ∷ 0 ∷ []) ∷ (2 ∷ 0 ∷ []) ∷ []) ≡ ((0 ∷ 0 ∷ 1 ∷ 2 ∷ 3 ∷ 10 ∷ 11 ∷ 6 ∷ 9 ∷ 5 ∷ 8 ∷ 4 ∷ 7 ∷ 0 ∷ []) ∷ (0 ∷ 0 ∷ 1 ∷ 2 ∷ 3 ∷ 11 ∷ 6 ∷ 9 ∷ 5 ∷ 8 ∷ 4 ∷ 7 ∷ 0 ∷ 0 ∷ []) ∷ (0 ∷ 0 ∷ 1 ∷ 2 ∷ 3 ∷ 11 ∷ 6 ∷ 9 ∷ 5 ∷ 8 ∷ 4 ∷ 7 ∷ 0 ∷ 0 ∷ []) ∷ [])
unfolding digit packed
br_0_loop_loop_if = refl

br_1_loop_loop_if : map (ends 12 ((Then (Loop (Then (point 1) (Then (Then (Loop (Then (point 2) (Then (Then (If (Const32 1) (Then (point 3) (Then (Then (If (Local 0) (Then (Set 0 (Two (Of I32 Sub) (Local 0) (Const32 1))) (Br 1)) (point 10)) (point 11)) (point 6))) Skip) (point 9)) (point 5)))) (point 8)) (point 4)))) (point 7)) ∷ [])) ((0 ∷ 0 ∷ []) ∷ (1 ∷ 0 ∷ []) ∷ (2 ∷ 0 ∷ []) ∷ []) ≡ ((0 ∷ 0 ∷ 1 ∷ 2 ∷ 3 ∷ 10 ∷ 11 ∷ 6 ∷ 9 ∷ 5 ∷ 8 ∷ 4 ∷ 7 ∷ 0 ∷ []) ∷ (0 ∷ 0 ∷ 1 ∷ 2 ∷ 3 ∷ 9 ∷ 5 ∷ 8 ∷ 4 ∷ 7 ∷ 0 ∷ 0 ∷ 0 ∷ 0 ∷ []) ∷ (0 ∷ 0 ∷ 1 ∷ 2 ∷ 3 ∷ 9 ∷ 5 ∷ 8 ∷ 4 ∷ 7 ∷ 0 ∷ 0 ∷ 0 ∷ 0 ∷ []) ∷ [])
unfolding digit packed
br_1_loop_loop_if = refl

br_2_loop_loop_if : map (ends 16 ((Then (Loop (Then (point 1) (Then (Then (Loop (Then (point 2) (Then (Then (If (Const32 1) (Then (point 3) (Then (Then (If (Local 0) (Then (Set 0 (Two (Of I32 Sub) (Local 0) (Const32 1))) (Br 2)) (point 10)) (point 11)) (point 6))) Skip) (point 9)) (point 5)))) (point 8)) (point 4)))) (point 7)) ∷ [])) ((0 ∷ 0 ∷ []) ∷ (1 ∷ 0 ∷ []) ∷ (2 ∷ 0 ∷ []) ∷ []) ≡ ((0 ∷ 0 ∷ 1 ∷ 2 ∷ 3 ∷ 10 ∷ 11 ∷ 6 ∷ 9 ∷ 5 ∷ 8 ∷ 4 ∷ 7 ∷ 0 ∷ 0 ∷ 0 ∷ 0 ∷ 0 ∷ []) ∷ (0 ∷ 0 ∷ 1 ∷ 2 ∷ 3 ∷ 2 ∷ 3 ∷ 10 ∷ 11 ∷ 6 ∷ 9 ∷ 5 ∷ 8 ∷ 4 ∷ 7 ∷ 0 ∷ 0 ∷ 0 ∷ []) ∷ (0 ∷ 0 ∷ 1 ∷ 2 ∷ 3 ∷ 2 ∷ 3 ∷ 2 ∷ 3 ∷ 10 ∷ 11 ∷ 6 ∷ 9 ∷ 5 ∷ 8 ∷ 4 ∷ 7 ∷ 0 ∷ []) ∷ [])
unfolding digit packed
br_2_loop_loop_if = refl

br_3_loop_loop_if : map (ends 18 ((Then (Loop (Then (point 1) (Then (Then (Loop (Then (point 2) (Then (Then (If (Const32 1) (Then (point 3) (Then (Then (If (Local 0) (Then (Set 0 (Two (Of I32 Sub) (Local 0) (Const32 1))) (Br 3)) (point 10)) (point 11)) (point 6))) Skip) (point 9)) (point 5)))) (point 8)) (point 4)))) (point 7)) ∷ [])) ((0 ∷ 0 ∷ []) ∷ (1 ∷ 0 ∷ []) ∷ (2 ∷ 0 ∷ []) ∷ []) ≡ ((0 ∷ 0 ∷ 1 ∷ 2 ∷ 3 ∷ 10 ∷ 11 ∷ 6 ∷ 9 ∷ 5 ∷ 8 ∷ 4 ∷ 7 ∷ 0 ∷ 0 ∷ 0 ∷ 0 ∷ 0 ∷ 0 ∷ 0 ∷ []) ∷ (0 ∷ 0 ∷ 1 ∷ 2 ∷ 3 ∷ 1 ∷ 2 ∷ 3 ∷ 10 ∷ 11 ∷ 6 ∷ 9 ∷ 5 ∷ 8 ∷ 4 ∷ 7 ∷ 0 ∷ 0 ∷ 0 ∷ 0 ∷ []) ∷ (0 ∷ 0 ∷ 1 ∷ 2 ∷ 3 ∷ 1 ∷ 2 ∷ 3 ∷ 1 ∷ 2 ∷ 3 ∷ 10 ∷ 11 ∷ 6 ∷ 9 ∷ 5 ∷ 8 ∷ 4 ∷ 7 ∷ 0 ∷ []) ∷ [])
unfolding digit packed
br_3_loop_loop_if = refl

br_4_loop_loop_if : map (ends 12 ((Then (Loop (Then (point 1) (Then (Then (Loop (Then (point 2) (Then (Then (If (Const32 1) (Then (point 3) (Then (Then (If (Local 0) (Then (Set 0 (Two (Of I32 Sub) (Local 0) (Const32 1))) (Br 4)) (point 10)) (point 11)) (point 6))) Skip) (point 9)) (point 5)))) (point 8)) (point 4)))) (point 7)) ∷ [])) ((0 ∷ 0 ∷ []) ∷ (1 ∷ 0 ∷ []) ∷ (2 ∷ 0 ∷ []) ∷ []) ≡ ((0 ∷ 0 ∷ 1 ∷ 2 ∷ 3 ∷ 10 ∷ 11 ∷ 6 ∷ 9 ∷ 5 ∷ 8 ∷ 4 ∷ 7 ∷ 0 ∷ []) ∷ (0 ∷ 0 ∷ 1 ∷ 2 ∷ 3 ∷ 0 ∷ 0 ∷ 0 ∷ 0 ∷ 0 ∷ 0 ∷ 0 ∷ 0 ∷ 0 ∷ []) ∷ (0 ∷ 0 ∷ 1 ∷ 2 ∷ 3 ∷ 0 ∷ 0 ∷ 0 ∷ 0 ∷ 0 ∷ 0 ∷ 0 ∷ 0 ∷ 0 ∷ []) ∷ [])
unfolding digit packed
br_4_loop_loop_if = refl

br_table_loop_loop_if : map (ends 15 ((Then (Loop (Then (point 1) (Then (Then (Loop (Then (point 2) (Then (Then (If (Const32 1) (Then (point 3) (Then (Then (If (Local 0) (Then (Set 0 (Two (Of I32 Sub) (Local 0) (Const32 1))) (BrTable (0 ∷ 3 ∷ 2 ∷ 1 ∷ []) 4 (Local 1))) (point 10)) (point 11)) (point 6))) Skip) (point 9)) (point 5)))) (point 8)) (point 4)))) (point 7)) ∷ [])) ((1 ∷ 0 ∷ []) ∷ (1 ∷ 1 ∷ []) ∷ (1 ∷ 2 ∷ []) ∷ (1 ∷ 3 ∷ []) ∷ (1 ∷ 4 ∷ []) ∷ (1 ∷ 4294967295 ∷ []) ∷ []) ≡ ((0 ∷ 0 ∷ 1 ∷ 2 ∷ 3 ∷ 11 ∷ 6 ∷ 9 ∷ 5 ∷ 8 ∷ 4 ∷ 7 ∷ 0 ∷ 0 ∷ 0 ∷ 0 ∷ 0 ∷ []) ∷ (0 ∷ 0 ∷ 1 ∷ 2 ∷ 3 ∷ 1 ∷ 2 ∷ 3 ∷ 10 ∷ 11 ∷ 6 ∷ 9 ∷ 5 ∷ 8 ∷ 4 ∷ 7 ∷ 0 ∷ []) ∷ (0 ∷ 0 ∷ 1 ∷ 2 ∷ 3 ∷ 2 ∷ 3 ∷ 10 ∷ 11 ∷ 6 ∷ 9 ∷ 5 ∷ 8 ∷ 4 ∷ 7 ∷ 0 ∷ 0 ∷ []) ∷ (0 ∷ 0 ∷ 1 ∷ 2 ∷ 3 ∷ 9 ∷ 5 ∷ 8 ∷ 4 ∷ 7 ∷ 0 ∷ 0 ∷ 0 ∷ 0 ∷ 0 ∷ 0 ∷ 0 ∷ []) ∷ (0 ∷ 0 ∷ 1 ∷ 2 ∷ 3 ∷ 0 ∷ 0 ∷ 0 ∷ 0 ∷ 0 ∷ 0 ∷ 0 ∷ 0 ∷ 0 ∷ 0 ∷ 0 ∷ 0 ∷ []) ∷ (0 ∷ 0 ∷ 1 ∷ 2 ∷ 3 ∷ 0 ∷ 0 ∷ 0 ∷ 0 ∷ 0 ∷ 0 ∷ 0 ∷ 0 ∷ 0 ∷ 0 ∷ 0 ∷ 0 ∷ []) ∷ [])
unfolding digit packed
br_table_loop_loop_if = refl

br_0_loop_if_block : map (ends 12 ((Then (Loop (Then (point 1) (Then (Then (If (Const32 1) (Then (point 2) (Then (Then (Block (Then (point 3) (Then (Then (If (Local 0) (Then (Set 0 (Two (Of I32 Sub) (Local 0) (Const32 1))) (Br 0)) (point 10)) (point 11)) (point 6)))) (point 9)) (point 5))) Skip) (point 8)) (point 4)))) (point 7)) ∷ [])) ((0 ∷ 0 ∷ []) ∷ (1 ∷ 0 ∷ []) ∷ (2 ∷ 0 ∷ []) ∷ []) ≡ ((0 ∷ 0 ∷ 1 ∷ 2 ∷ 3 ∷ 10 ∷ 11 ∷ 6 ∷ 9 ∷ 5 ∷ 8 ∷ 4 ∷ 7 ∷ 0 ∷ []) ∷ (0 ∷ 0 ∷ 1 ∷ 2 ∷ 3 ∷ 11 ∷ 6 ∷ 9 ∷ 5 ∷ 8 ∷ 4 ∷ 7 ∷ 0 ∷ 0 ∷ []) ∷ (0 ∷ 0 ∷ 1 ∷ 2 ∷ 3 ∷ 11 ∷ 6 ∷ 9 ∷ 5 ∷ 8 ∷ 4 ∷ 7 ∷ 0 ∷ 0 ∷ []) ∷ [])
unfolding digit packed
br_0_loop_if_block = refl

br_1_loop_if_block : map (ends 12 ((Then (Loop (Then (point 1) (Then (Then (If (Const32 1) (Then (point 2) (Then (Then (Block (Then (point 3) (Then (Then (If (Local 0) (Then (Set 0 (Two (Of I32 Sub) (Local 0) (Const32 1))) (Br 1)) (point 10)) (point 11)) (point 6)))) (point 9)) (point 5))) Skip) (point 8)) (point 4)))) (point 7)) ∷ [])) ((0 ∷ 0 ∷ []) ∷ (1 ∷ 0 ∷ []) ∷ (2 ∷ 0 ∷ []) ∷ []) ≡ ((0 ∷ 0 ∷ 1 ∷ 2 ∷ 3 ∷ 10 ∷ 11 ∷ 6 ∷ 9 ∷ 5 ∷ 8 ∷ 4 ∷ 7 ∷ 0 ∷ []) ∷ (0 ∷ 0 ∷ 1 ∷ 2 ∷ 3 ∷ 9 ∷ 5 ∷ 8 ∷ 4 ∷ 7 ∷ 0 ∷ 0 ∷ 0 ∷ 0 ∷ []) ∷ (0 ∷ 0 ∷ 1 ∷ 2 ∷ 3 ∷ 9 ∷ 5 ∷ 8 ∷ 4 ∷ 7 ∷ 0 ∷ 0 ∷ 0 ∷ 0 ∷ []) ∷ [])
unfolding digit packed
br_1_loop_if_block = refl

br_2_loop_if_block : map (ends 12 ((Then (Loop (Then (point 1) (Then (Then (If (Const32 1) (Then (point 2) (Then (Then (Block (Then (point 3) (Then (Then (If (Local 0) (Then (Set 0 (Two (Of I32 Sub) (Local 0) (Const32 1))) (Br 2)) (point 10)) (point 11)) (point 6)))) (point 9)) (point 5))) Skip) (point 8)) (point 4)))) (point 7)) ∷ [])) ((0 ∷ 0 ∷ []) ∷ (1 ∷ 0 ∷ []) ∷ (2 ∷ 0 ∷ []) ∷ []) ≡ ((0 ∷ 0 ∷ 1 ∷ 2 ∷ 3 ∷ 10 ∷ 11 ∷ 6 ∷ 9 ∷ 5 ∷ 8 ∷ 4 ∷ 7 ∷ 0 ∷ []) ∷ (0 ∷ 0 ∷ 1 ∷ 2 ∷ 3 ∷ 8 ∷ 4 ∷ 7 ∷ 0 ∷ 0 ∷ 0 ∷ 0 ∷ 0 ∷ 0 ∷ []) ∷ (0 ∷ 0 ∷ 1 ∷ 2 ∷ 3 ∷ 8 ∷ 4 ∷ 7 ∷ 0 ∷ 0 ∷ 0 ∷ 0 ∷ 0 ∷ 0 ∷ []) ∷ [])
unfolding digit packed
br_2_loop_if_block = refl

br_3_loop_if_block : map (ends 18 ((Then (Loop (Then (point 1) (Then (Then (If (Const32 1) (Then (point 2) (Then (Then (Block (Then (point 3) (Then (Then (If (Local 0) (Then (Set 0 (Two (Of I32 Sub) (Local 0) (Const32 1))) (Br 3)) (point 10)) (point 11)) (point 6)))) (point 9)) (point 5))) Skip) (point 8)) (point 4)))) (point 7)) ∷ [])) ((0 ∷ 0 ∷ []) ∷ (1 ∷ 0 ∷ []) ∷ (2 ∷ 0 ∷ []) ∷ []) ≡ ((0 ∷ 0 ∷ 1 ∷ 2 ∷ 3 ∷ 10 ∷ 11 ∷ 6 ∷ 9 ∷ 5 ∷ 8 ∷ 4 ∷ 7 ∷ 0 ∷ 0 ∷ 0 ∷ 0 ∷ 0 ∷ 0 ∷ 0 ∷ []) ∷ (0 ∷ 0 ∷ 1 ∷ 2 ∷ 3 ∷ 1 ∷ 2 ∷ 3 ∷ 10 ∷ 11 ∷ 6 ∷ 9 ∷ 5 ∷ 8 ∷ 4 ∷ 7 ∷ 0 ∷ 0 ∷ 0 ∷ 0 ∷ []) ∷ (0 ∷ 0 ∷ 1 ∷ 2 ∷ 3 ∷ 1 ∷ 2 ∷ 3 ∷ 1 ∷ 2 ∷ 3 ∷ 10 ∷ 11 ∷ 6 ∷ 9 ∷ 5 ∷ 8 ∷ 4 ∷ 7 ∷ 0 ∷ []) ∷ [])
unfolding digit packed
br_3_loop_if_block = refl

br_4_loop_if_block : map (ends 12 ((Then (Loop (Then (point 1) (Then (Then (If (Const32 1) (Then (point 2) (Then (Then (Block (Then (point 3) (Then (Then (If (Local 0) (Then (Set 0 (Two (Of I32 Sub) (Local 0) (Const32 1))) (Br 4)) (point 10)) (point 11)) (point 6)))) (point 9)) (point 5))) Skip) (point 8)) (point 4)))) (point 7)) ∷ [])) ((0 ∷ 0 ∷ []) ∷ (1 ∷ 0 ∷ []) ∷ (2 ∷ 0 ∷ []) ∷ []) ≡ ((0 ∷ 0 ∷ 1 ∷ 2 ∷ 3 ∷ 10 ∷ 11 ∷ 6 ∷ 9 ∷ 5 ∷ 8 ∷ 4 ∷ 7 ∷ 0 ∷ []) ∷ (0 ∷ 0 ∷ 1 ∷ 2 ∷ 3 ∷ 0 ∷ 0 ∷ 0 ∷ 0 ∷ 0 ∷ 0 ∷ 0 ∷ 0 ∷ 0 ∷ []) ∷ (0 ∷ 0 ∷ 1 ∷ 2 ∷ 3 ∷ 0 ∷ 0 ∷ 0 ∷ 0 ∷ 0 ∷ 0 ∷ 0 ∷ 0 ∷ 0 ∷ []) ∷ [])
unfolding digit packed
br_4_loop_if_block = refl

br_table_loop_if_block : map (ends 15 ((Then (Loop (Then (point 1) (Then (Then (If (Const32 1) (Then (point 2) (Then (Then (Block (Then (point 3) (Then (Then (If (Local 0) (Then (Set 0 (Two (Of I32 Sub) (Local 0) (Const32 1))) (BrTable (0 ∷ 3 ∷ 2 ∷ 1 ∷ []) 4 (Local 1))) (point 10)) (point 11)) (point 6)))) (point 9)) (point 5))) Skip) (point 8)) (point 4)))) (point 7)) ∷ [])) ((1 ∷ 0 ∷ []) ∷ (1 ∷ 1 ∷ []) ∷ (1 ∷ 2 ∷ []) ∷ (1 ∷ 3 ∷ []) ∷ (1 ∷ 4 ∷ []) ∷ (1 ∷ 4294967295 ∷ []) ∷ []) ≡ ((0 ∷ 0 ∷ 1 ∷ 2 ∷ 3 ∷ 11 ∷ 6 ∷ 9 ∷ 5 ∷ 8 ∷ 4 ∷ 7 ∷ 0 ∷ 0 ∷ 0 ∷ 0 ∷ 0 ∷ []) ∷ (0 ∷ 0 ∷ 1 ∷ 2 ∷ 3 ∷ 1 ∷ 2 ∷ 3 ∷ 10 ∷ 11 ∷ 6 ∷ 9 ∷ 5 ∷ 8 ∷ 4 ∷ 7 ∷ 0 ∷ []) ∷ (0 ∷ 0 ∷ 1 ∷ 2 ∷ 3 ∷ 8 ∷ 4 ∷ 7 ∷ 0 ∷ 0 ∷ 0 ∷ 0 ∷ 0 ∷ 0 ∷ 0 ∷ 0 ∷ 0 ∷ []) ∷ (0 ∷ 0 ∷ 1 ∷ 2 ∷ 3 ∷ 9 ∷ 5 ∷ 8 ∷ 4 ∷ 7 ∷ 0 ∷ 0 ∷ 0 ∷ 0 ∷ 0 ∷ 0 ∷ 0 ∷ []) ∷ (0 ∷ 0 ∷ 1 ∷ 2 ∷ 3 ∷ 0 ∷ 0 ∷ 0 ∷ 0 ∷ 0 ∷ 0 ∷ 0 ∷ 0 ∷ 0 ∷ 0 ∷ 0 ∷ 0 ∷ []) ∷ (0 ∷ 0 ∷ 1 ∷ 2 ∷ 3 ∷ 0 ∷ 0 ∷ 0 ∷ 0 ∷ 0 ∷ 0 ∷ 0 ∷ 0 ∷ 0 ∷ 0 ∷ 0 ∷ 0 ∷ []) ∷ [])
unfolding digit packed
br_table_loop_if_block = refl

br_0_loop_if_loop : map (ends 12 ((Then (Loop (Then (point 1) (Then (Then (If (Const32 1) (Then (point 2) (Then (Then (Loop (Then (point 3) (Then (Then (If (Local 0) (Then (Set 0 (Two (Of I32 Sub) (Local 0) (Const32 1))) (Br 0)) (point 10)) (point 11)) (point 6)))) (point 9)) (point 5))) Skip) (point 8)) (point 4)))) (point 7)) ∷ [])) ((0 ∷ 0 ∷ []) ∷ (1 ∷ 0 ∷ []) ∷ (2 ∷ 0 ∷ []) ∷ []) ≡ ((0 ∷ 0 ∷ 1 ∷ 2 ∷ 3 ∷ 10 ∷ 11 ∷ 6 ∷ 9 ∷ 5 ∷ 8 ∷ 4 ∷ 7 ∷ 0 ∷ []) ∷ (0 ∷ 0 ∷ 1 ∷ 2 ∷ 3 ∷ 11 ∷ 6 ∷ 9 ∷ 5 ∷ 8 ∷ 4 ∷ 7 ∷ 0 ∷ 0 ∷ []) ∷ (0 ∷ 0 ∷ 1 ∷ 2 ∷ 3 ∷ 11 ∷ 6 ∷ 9 ∷ 5 ∷ 8 ∷ 4 ∷ 7 ∷ 0 ∷ 0 ∷ []) ∷ [])
unfolding digit packed
br_0_loop_if_loop = refl

br_1_loop_if_loop : map (ends 14 ((Then (Loop (Then (point 1) (Then (Then (If (Const32 1) (Then (point 2) (Then (Then (Loop (Then (point 3) (Then (Then (If (Local 0) (Then (Set 0 (Two (Of I32 Sub) (Local 0) (Const32 1))) (Br 1)) (point 10)) (point 11)) (point 6)))) (point 9)) (point 5))) Skip) (point 8)) (point 4)))) (point 7)) ∷ [])) ((0 ∷ 0 ∷ []) ∷ (1 ∷ 0 ∷ []) ∷ (2 ∷ 0 ∷ []) ∷ []) ≡ ((0 ∷ 0 ∷ 1 ∷ 2 ∷ 3 ∷ 10 ∷ 11 ∷ 6 ∷ 9 ∷ 5 ∷ 8 ∷ 4 ∷ 7 ∷ 0 ∷ 0 ∷ 0 ∷ []) ∷ (0 ∷ 0 ∷ 1 ∷ 2 ∷ 3 ∷ 3 ∷ 10 ∷ 11 ∷ 6 ∷ 9 ∷ 5 ∷ 8 ∷ 4 ∷ 7 ∷ 0 ∷ 0 ∷ []) ∷ (0 ∷ 0 ∷ 1 ∷ 2 ∷ 3 ∷ 3 ∷ 3 ∷ 10 ∷ 11 ∷ 6 ∷ 9 ∷ 5 ∷ 8 ∷ 4 ∷ 7 ∷ 0 ∷ []) ∷ [])
unfolding digit packed
br_1_loop_if_loop = refl

br_2_loop_if_loop : map (ends 12 ((Then (Loop (Then (point 1) (Then (Then (If (Const32 1) (Then (point 2) (Then (Then (Loop (Then (point 3) (Then (Then (If (Local 0) (Then (Set 0 (Two (Of I32 Sub) (Local 0) (Const32 1))) (Br 2)) (point 10)) (point 11)) (point 6)))) (point 9)) (point 5))) Skip) (point 8)) (point 4)))) (point 7)) ∷ [])) ((0 ∷ 0 ∷ []) ∷ (1 ∷ 0 ∷ []) ∷ (2 ∷ 0 ∷ []) ∷ []) ≡ ((0 ∷ 0 ∷ 1 ∷ 2 ∷ 3 ∷ 10 ∷ 11 ∷ 6 ∷ 9 ∷ 5 ∷ 8 ∷ 4 ∷ 7 ∷ 0 ∷ []) ∷ (0 ∷ 0 ∷ 1 ∷ 2 ∷ 3 ∷ 8 ∷ 4 ∷ 7 ∷ 0 ∷ 0 ∷ 0 ∷ 0 ∷ 0 ∷ 0 ∷ []) ∷ (0 ∷ 0 ∷ 1 ∷ 2 ∷ 3 ∷ 8 ∷ 4 ∷ 7 ∷ 0 ∷ 0 ∷ 0 ∷ 0 ∷ 0 ∷ 0 ∷ []) ∷ [])
unfolding digit packed
br_2_loop_if_loop = refl

br_3_loop_if_loop : map (ends 18 ((Then (Loop (Then (point 1) (Then (Then (If (Const32 1) (Then (point 2) (Then (Then (Loop (Then (point 3) (Then (Then (If (Local 0) (Then (Set 0 (Two (Of I32 Sub) (Local 0) (Const32 1))) (Br 3)) (point 10)) (point 11)) (point 6)))) (point 9)) (point 5))) Skip) (point 8)) (point 4)))) (point 7)) ∷ [])) ((0 ∷ 0 ∷ []) ∷ (1 ∷ 0 ∷ []) ∷ (2 ∷ 0 ∷ []) ∷ []) ≡ ((0 ∷ 0 ∷ 1 ∷ 2 ∷ 3 ∷ 10 ∷ 11 ∷ 6 ∷ 9 ∷ 5 ∷ 8 ∷ 4 ∷ 7 ∷ 0 ∷ 0 ∷ 0 ∷ 0 ∷ 0 ∷ 0 ∷ 0 ∷ []) ∷ (0 ∷ 0 ∷ 1 ∷ 2 ∷ 3 ∷ 1 ∷ 2 ∷ 3 ∷ 10 ∷ 11 ∷ 6 ∷ 9 ∷ 5 ∷ 8 ∷ 4 ∷ 7 ∷ 0 ∷ 0 ∷ 0 ∷ 0 ∷ []) ∷ (0 ∷ 0 ∷ 1 ∷ 2 ∷ 3 ∷ 1 ∷ 2 ∷ 3 ∷ 1 ∷ 2 ∷ 3 ∷ 10 ∷ 11 ∷ 6 ∷ 9 ∷ 5 ∷ 8 ∷ 4 ∷ 7 ∷ 0 ∷ []) ∷ [])
unfolding digit packed
br_3_loop_if_loop = refl

br_4_loop_if_loop : map (ends 12 ((Then (Loop (Then (point 1) (Then (Then (If (Const32 1) (Then (point 2) (Then (Then (Loop (Then (point 3) (Then (Then (If (Local 0) (Then (Set 0 (Two (Of I32 Sub) (Local 0) (Const32 1))) (Br 4)) (point 10)) (point 11)) (point 6)))) (point 9)) (point 5))) Skip) (point 8)) (point 4)))) (point 7)) ∷ [])) ((0 ∷ 0 ∷ []) ∷ (1 ∷ 0 ∷ []) ∷ (2 ∷ 0 ∷ []) ∷ []) ≡ ((0 ∷ 0 ∷ 1 ∷ 2 ∷ 3 ∷ 10 ∷ 11 ∷ 6 ∷ 9 ∷ 5 ∷ 8 ∷ 4 ∷ 7 ∷ 0 ∷ []) ∷ (0 ∷ 0 ∷ 1 ∷ 2 ∷ 3 ∷ 0 ∷ 0 ∷ 0 ∷ 0 ∷ 0 ∷ 0 ∷ 0 ∷ 0 ∷ 0 ∷ []) ∷ (0 ∷ 0 ∷ 1 ∷ 2 ∷ 3 ∷ 0 ∷ 0 ∷ 0 ∷ 0 ∷ 0 ∷ 0 ∷ 0 ∷ 0 ∷ 0 ∷ []) ∷ [])
unfolding digit packed
br_4_loop_if_loop = refl

br_table_loop_if_loop : map (ends 15 ((Then (Loop (Then (point 1) (Then (Then (If (Const32 1) (Then (point 2) (Then (Then (Loop (Then (point 3) (Then (Then (If (Local 0) (Then (Set 0 (Two (Of I32 Sub) (Local 0) (Const32 1))) (BrTable (0 ∷ 3 ∷ 2 ∷ 1 ∷ []) 4 (Local 1))) (point 10)) (point 11)) (point 6)))) (point 9)) (point 5))) Skip) (point 8)) (point 4)))) (point 7)) ∷ [])) ((1 ∷ 0 ∷ []) ∷ (1 ∷ 1 ∷ []) ∷ (1 ∷ 2 ∷ []) ∷ (1 ∷ 3 ∷ []) ∷ (1 ∷ 4 ∷ []) ∷ (1 ∷ 4294967295 ∷ []) ∷ []) ≡ ((0 ∷ 0 ∷ 1 ∷ 2 ∷ 3 ∷ 11 ∷ 6 ∷ 9 ∷ 5 ∷ 8 ∷ 4 ∷ 7 ∷ 0 ∷ 0 ∷ 0 ∷ 0 ∷ 0 ∷ []) ∷ (0 ∷ 0 ∷ 1 ∷ 2 ∷ 3 ∷ 1 ∷ 2 ∷ 3 ∷ 10 ∷ 11 ∷ 6 ∷ 9 ∷ 5 ∷ 8 ∷ 4 ∷ 7 ∷ 0 ∷ []) ∷ (0 ∷ 0 ∷ 1 ∷ 2 ∷ 3 ∷ 8 ∷ 4 ∷ 7 ∷ 0 ∷ 0 ∷ 0 ∷ 0 ∷ 0 ∷ 0 ∷ 0 ∷ 0 ∷ 0 ∷ []) ∷ (0 ∷ 0 ∷ 1 ∷ 2 ∷ 3 ∷ 3 ∷ 10 ∷ 11 ∷ 6 ∷ 9 ∷ 5 ∷ 8 ∷ 4 ∷ 7 ∷ 0 ∷ 0 ∷ 0 ∷ []) ∷ (0 ∷ 0 ∷ 1 ∷ 2 ∷ 3 ∷ 0 ∷ 0 ∷ 0 ∷ 0 ∷ 0 ∷ 0 ∷ 0 ∷ 0 ∷ 0 ∷ 0 ∷ 0 ∷ 0 ∷ []) ∷ (0 ∷ 0 ∷ 1 ∷ 2 ∷ 3 ∷ 0 ∷ 0 ∷ 0 ∷ 0 ∷ 0 ∷ 0 ∷ 0 ∷ 0 ∷ 0 ∷ 0 ∷ 0 ∷ 0 ∷ []) ∷ [])
unfolding digit packed
br_table_loop_if_loop = refl

br_0_loop_if_if : map (ends 12 ((Then (Loop (Then (point 1) (Then (Then (If (Const32 1) (Then (point 2) (Then (Then (If (Const32 1) (Then (point 3) (Then (Then (If (Local 0) (Then (Set 0 (Two (Of I32 Sub) (Local 0) (Const32 1))) (Br 0)) (point 10)) (point 11)) (point 6))) Skip) (point 9)) (point 5))) Skip) (point 8)) (point 4)))) (point 7)) ∷ [])) ((0 ∷ 0 ∷ []) ∷ (1 ∷ 0 ∷ []) ∷ (2 ∷ 0 ∷ []) ∷ []) ≡ ((0 ∷ 0 ∷ 1 ∷ 2 ∷ 3 ∷ 10 ∷ 11 ∷ 6 ∷ 9 ∷ 5 ∷ 8 ∷ 4 ∷ 7 ∷ 0 ∷ []) ∷ (0 ∷ 0 ∷ 1 ∷ 2 ∷ 3 ∷ 11 ∷ 6 ∷ 9 ∷ 5 ∷ 8 ∷ 4 ∷ 7 ∷ 0 ∷ 0 ∷ []) ∷ (0 ∷ 0 ∷ 1 ∷ 2 ∷ 3 ∷ 11 ∷ 6 ∷ 9 ∷ 5 ∷ 8 ∷ 4 ∷ 7 ∷ 0 ∷ 0 ∷ []) ∷ [])
unfolding digit packed
br_0_loop_if_if = refl

br_1_loop_if_if : map (ends 12 ((Then (Loop (Then (point 1) (Then (Then (If (Const32 1) (Then (point 2) (Then (Then (If (Const32 1) (Then (point 3) (Then (Then (If (Local 0) (Then (Set 0 (Two (Of I32 Sub) (Local 0) (Const32 1))) (Br 1)) (point 10)) (point 11)) (point 6))) Skip) (point 9)) (point 5))) Skip) (point 8)) (point 4)))) (point 7)) ∷ [])) ((0 ∷ 0 ∷ []) ∷ (1 ∷ 0 ∷ []) ∷ (2 ∷ 0 ∷ []) ∷ []) ≡ ((0 ∷ 0 ∷ 1 ∷ 2 ∷ 3 ∷ 10 ∷ 11 ∷ 6 ∷ 9 ∷ 5 ∷ 8 ∷ 4 ∷ 7 ∷ 0 ∷ []) ∷ (0 ∷ 0 ∷ 1 ∷ 2 ∷ 3 ∷ 9 ∷ 5 ∷ 8 ∷ 4 ∷ 7 ∷ 0 ∷ 0 ∷ 0 ∷ 0 ∷ []) ∷ (0 ∷ 0 ∷ 1 ∷ 2 ∷ 3 ∷ 9 ∷ 5 ∷ 8 ∷ 4 ∷ 7 ∷ 0 ∷ 0 ∷ 0 ∷ 0 ∷ []) ∷ [])
unfolding digit packed
br_1_loop_if_if = refl

br_2_loop_if_if : map (ends 12 ((Then (Loop (Then (point 1) (Then (Then (If (Const32 1) (Then (point 2) (Then (Then (If (Const32 1) (Then (point 3) (Then (Then (If (Local 0) (Then (Set 0 (Two (Of I32 Sub) (Local 0) (Const32 1))) (Br 2)) (point 10)) (point 11)) (point 6))) Skip) (point 9)) (point 5))) Skip) (point 8)) (point 4)))) (point 7)) ∷ [])) ((0 ∷ 0 ∷ []) ∷ (1 ∷ 0 ∷ []) ∷ (2 ∷ 0 ∷ []) ∷ []) ≡ ((0 ∷ 0 ∷ 1 ∷ 2 ∷ 3 ∷ 10 ∷ 11 ∷ 6 ∷ 9 ∷ 5 ∷ 8 ∷ 4 ∷ 7 ∷ 0 ∷ []) ∷ (0 ∷ 0 ∷ 1 ∷ 2 ∷ 3 ∷ 8 ∷ 4 ∷ 7 ∷ 0 ∷ 0 ∷ 0 ∷ 0 ∷ 0 ∷ 0 ∷ []) ∷ (0 ∷ 0 ∷ 1 ∷ 2 ∷ 3 ∷ 8 ∷ 4 ∷ 7 ∷ 0 ∷ 0 ∷ 0 ∷ 0 ∷ 0 ∷ 0 ∷ []) ∷ [])
unfolding digit packed
br_2_loop_if_if = refl

br_3_loop_if_if : map (ends 18 ((Then (Loop (Then (point 1) (Then (Then (If (Const32 1) (Then (point 2) (Then (Then (If (Const32 1) (Then (point 3) (Then (Then (If (Local 0) (Then (Set 0 (Two (Of I32 Sub) (Local 0) (Const32 1))) (Br 3)) (point 10)) (point 11)) (point 6))) Skip) (point 9)) (point 5))) Skip) (point 8)) (point 4)))) (point 7)) ∷ [])) ((0 ∷ 0 ∷ []) ∷ (1 ∷ 0 ∷ []) ∷ (2 ∷ 0 ∷ []) ∷ []) ≡ ((0 ∷ 0 ∷ 1 ∷ 2 ∷ 3 ∷ 10 ∷ 11 ∷ 6 ∷ 9 ∷ 5 ∷ 8 ∷ 4 ∷ 7 ∷ 0 ∷ 0 ∷ 0 ∷ 0 ∷ 0 ∷ 0 ∷ 0 ∷ []) ∷ (0 ∷ 0 ∷ 1 ∷ 2 ∷ 3 ∷ 1 ∷ 2 ∷ 3 ∷ 10 ∷ 11 ∷ 6 ∷ 9 ∷ 5 ∷ 8 ∷ 4 ∷ 7 ∷ 0 ∷ 0 ∷ 0 ∷ 0 ∷ []) ∷ (0 ∷ 0 ∷ 1 ∷ 2 ∷ 3 ∷ 1 ∷ 2 ∷ 3 ∷ 1 ∷ 2 ∷ 3 ∷ 10 ∷ 11 ∷ 6 ∷ 9 ∷ 5 ∷ 8 ∷ 4 ∷ 7 ∷ 0 ∷ []) ∷ [])
unfolding digit packed
br_3_loop_if_if = refl

br_4_loop_if_if : map (ends 12 ((Then (Loop (Then (point 1) (Then (Then (If (Const32 1) (Then (point 2) (Then (Then (If (Const32 1) (Then (point 3) (Then (Then (If (Local 0) (Then (Set 0 (Two (Of I32 Sub) (Local 0) (Const32 1))) (Br 4)) (point 10)) (point 11)) (point 6))) Skip) (point 9)) (point 5))) Skip) (point 8)) (point 4)))) (point 7)) ∷ [])) ((0 ∷ 0 ∷ []) ∷ (1 ∷ 0 ∷ []) ∷ (2 ∷ 0 ∷ []) ∷ []) ≡ ((0 ∷ 0 ∷ 1 ∷ 2 ∷ 3 ∷ 10 ∷ 11 ∷ 6 ∷ 9 ∷ 5 ∷ 8 ∷ 4 ∷ 7 ∷ 0 ∷ []) ∷ (0 ∷ 0 ∷ 1 ∷ 2 ∷ 3 ∷ 0 ∷ 0 ∷ 0 ∷ 0 ∷ 0 ∷ 0 ∷ 0 ∷ 0 ∷ 0 ∷ []) ∷ (0 ∷ 0 ∷ 1 ∷ 2 ∷ 3 ∷ 0 ∷ 0 ∷ 0 ∷ 0 ∷ 0 ∷ 0 ∷ 0 ∷ 0 ∷ 0 ∷ []) ∷ [])
unfolding digit packed
br_4_loop_if_if = refl

br_table_loop_if_if : map (ends 15 ((Then (Loop (Then (point 1) (Then (Then (If (Const32 1) (Then (point 2) (Then (Then (If (Const32 1) (Then (point 3) (Then (Then (If (Local 0) (Then (Set 0 (Two (Of I32 Sub) (Local 0) (Const32 1))) (BrTable (0 ∷ 3 ∷ 2 ∷ 1 ∷ []) 4 (Local 1))) (point 10)) (point 11)) (point 6))) Skip) (point 9)) (point 5))) Skip) (point 8)) (point 4)))) (point 7)) ∷ [])) ((1 ∷ 0 ∷ []) ∷ (1 ∷ 1 ∷ []) ∷ (1 ∷ 2 ∷ []) ∷ (1 ∷ 3 ∷ []) ∷ (1 ∷ 4 ∷ []) ∷ (1 ∷ 4294967295 ∷ []) ∷ []) ≡ ((0 ∷ 0 ∷ 1 ∷ 2 ∷ 3 ∷ 11 ∷ 6 ∷ 9 ∷ 5 ∷ 8 ∷ 4 ∷ 7 ∷ 0 ∷ 0 ∷ 0 ∷ 0 ∷ 0 ∷ []) ∷ (0 ∷ 0 ∷ 1 ∷ 2 ∷ 3 ∷ 1 ∷ 2 ∷ 3 ∷ 10 ∷ 11 ∷ 6 ∷ 9 ∷ 5 ∷ 8 ∷ 4 ∷ 7 ∷ 0 ∷ []) ∷ (0 ∷ 0 ∷ 1 ∷ 2 ∷ 3 ∷ 8 ∷ 4 ∷ 7 ∷ 0 ∷ 0 ∷ 0 ∷ 0 ∷ 0 ∷ 0 ∷ 0 ∷ 0 ∷ 0 ∷ []) ∷ (0 ∷ 0 ∷ 1 ∷ 2 ∷ 3 ∷ 9 ∷ 5 ∷ 8 ∷ 4 ∷ 7 ∷ 0 ∷ 0 ∷ 0 ∷ 0 ∷ 0 ∷ 0 ∷ 0 ∷ []) ∷ (0 ∷ 0 ∷ 1 ∷ 2 ∷ 3 ∷ 0 ∷ 0 ∷ 0 ∷ 0 ∷ 0 ∷ 0 ∷ 0 ∷ 0 ∷ 0 ∷ 0 ∷ 0 ∷ 0 ∷ []) ∷ (0 ∷ 0 ∷ 1 ∷ 2 ∷ 3 ∷ 0 ∷ 0 ∷ 0 ∷ 0 ∷ 0 ∷ 0 ∷ 0 ∷ 0 ∷ 0 ∷ 0 ∷ 0 ∷ 0 ∷ []) ∷ [])
unfolding digit packed
br_table_loop_if_if = refl

br_0_if_block_block : map (ends 12 ((Then (If (Const32 1) (Then (point 1) (Then (Then (Block (Then (point 2) (Then (Then (Block (Then (point 3) (Then (Then (If (Local 0) (Then (Set 0 (Two (Of I32 Sub) (Local 0) (Const32 1))) (Br 0)) (point 10)) (point 11)) (point 6)))) (point 9)) (point 5)))) (point 8)) (point 4))) Skip) (point 7)) ∷ [])) ((0 ∷ 0 ∷ []) ∷ (1 ∷ 0 ∷ []) ∷ (2 ∷ 0 ∷ []) ∷ []) ≡ ((0 ∷ 0 ∷ 1 ∷ 2 ∷ 3 ∷ 10 ∷ 11 ∷ 6 ∷ 9 ∷ 5 ∷ 8 ∷ 4 ∷ 7 ∷ 0 ∷ []) ∷ (0 ∷ 0 ∷ 1 ∷ 2 ∷ 3 ∷ 11 ∷ 6 ∷ 9 ∷ 5 ∷ 8 ∷ 4 ∷ 7 ∷ 0 ∷ 0 ∷ []) ∷ (0 ∷ 0 ∷ 1 ∷ 2 ∷ 3 ∷ 11 ∷ 6 ∷ 9 ∷ 5 ∷ 8 ∷ 4 ∷ 7 ∷ 0 ∷ 0 ∷ []) ∷ [])
unfolding digit packed
br_0_if_block_block = refl

br_1_if_block_block : map (ends 12 ((Then (If (Const32 1) (Then (point 1) (Then (Then (Block (Then (point 2) (Then (Then (Block (Then (point 3) (Then (Then (If (Local 0) (Then (Set 0 (Two (Of I32 Sub) (Local 0) (Const32 1))) (Br 1)) (point 10)) (point 11)) (point 6)))) (point 9)) (point 5)))) (point 8)) (point 4))) Skip) (point 7)) ∷ [])) ((0 ∷ 0 ∷ []) ∷ (1 ∷ 0 ∷ []) ∷ (2 ∷ 0 ∷ []) ∷ []) ≡ ((0 ∷ 0 ∷ 1 ∷ 2 ∷ 3 ∷ 10 ∷ 11 ∷ 6 ∷ 9 ∷ 5 ∷ 8 ∷ 4 ∷ 7 ∷ 0 ∷ []) ∷ (0 ∷ 0 ∷ 1 ∷ 2 ∷ 3 ∷ 9 ∷ 5 ∷ 8 ∷ 4 ∷ 7 ∷ 0 ∷ 0 ∷ 0 ∷ 0 ∷ []) ∷ (0 ∷ 0 ∷ 1 ∷ 2 ∷ 3 ∷ 9 ∷ 5 ∷ 8 ∷ 4 ∷ 7 ∷ 0 ∷ 0 ∷ 0 ∷ 0 ∷ []) ∷ [])
unfolding digit packed
br_1_if_block_block = refl

br_2_if_block_block : map (ends 12 ((Then (If (Const32 1) (Then (point 1) (Then (Then (Block (Then (point 2) (Then (Then (Block (Then (point 3) (Then (Then (If (Local 0) (Then (Set 0 (Two (Of I32 Sub) (Local 0) (Const32 1))) (Br 2)) (point 10)) (point 11)) (point 6)))) (point 9)) (point 5)))) (point 8)) (point 4))) Skip) (point 7)) ∷ [])) ((0 ∷ 0 ∷ []) ∷ (1 ∷ 0 ∷ []) ∷ (2 ∷ 0 ∷ []) ∷ []) ≡ ((0 ∷ 0 ∷ 1 ∷ 2 ∷ 3 ∷ 10 ∷ 11 ∷ 6 ∷ 9 ∷ 5 ∷ 8 ∷ 4 ∷ 7 ∷ 0 ∷ []) ∷ (0 ∷ 0 ∷ 1 ∷ 2 ∷ 3 ∷ 8 ∷ 4 ∷ 7 ∷ 0 ∷ 0 ∷ 0 ∷ 0 ∷ 0 ∷ 0 ∷ []) ∷ (0 ∷ 0 ∷ 1 ∷ 2 ∷ 3 ∷ 8 ∷ 4 ∷ 7 ∷ 0 ∷ 0 ∷ 0 ∷ 0 ∷ 0 ∷ 0 ∷ []) ∷ [])
unfolding digit packed
br_2_if_block_block = refl

br_3_if_block_block : map (ends 12 ((Then (If (Const32 1) (Then (point 1) (Then (Then (Block (Then (point 2) (Then (Then (Block (Then (point 3) (Then (Then (If (Local 0) (Then (Set 0 (Two (Of I32 Sub) (Local 0) (Const32 1))) (Br 3)) (point 10)) (point 11)) (point 6)))) (point 9)) (point 5)))) (point 8)) (point 4))) Skip) (point 7)) ∷ [])) ((0 ∷ 0 ∷ []) ∷ (1 ∷ 0 ∷ []) ∷ (2 ∷ 0 ∷ []) ∷ []) ≡ ((0 ∷ 0 ∷ 1 ∷ 2 ∷ 3 ∷ 10 ∷ 11 ∷ 6 ∷ 9 ∷ 5 ∷ 8 ∷ 4 ∷ 7 ∷ 0 ∷ []) ∷ (0 ∷ 0 ∷ 1 ∷ 2 ∷ 3 ∷ 7 ∷ 0 ∷ 0 ∷ 0 ∷ 0 ∷ 0 ∷ 0 ∷ 0 ∷ 0 ∷ []) ∷ (0 ∷ 0 ∷ 1 ∷ 2 ∷ 3 ∷ 7 ∷ 0 ∷ 0 ∷ 0 ∷ 0 ∷ 0 ∷ 0 ∷ 0 ∷ 0 ∷ []) ∷ [])
unfolding digit packed
br_3_if_block_block = refl

br_4_if_block_block : map (ends 12 ((Then (If (Const32 1) (Then (point 1) (Then (Then (Block (Then (point 2) (Then (Then (Block (Then (point 3) (Then (Then (If (Local 0) (Then (Set 0 (Two (Of I32 Sub) (Local 0) (Const32 1))) (Br 4)) (point 10)) (point 11)) (point 6)))) (point 9)) (point 5)))) (point 8)) (point 4))) Skip) (point 7)) ∷ [])) ((0 ∷ 0 ∷ []) ∷ (1 ∷ 0 ∷ []) ∷ (2 ∷ 0 ∷ []) ∷ []) ≡ ((0 ∷ 0 ∷ 1 ∷ 2 ∷ 3 ∷ 10 ∷ 11 ∷ 6 ∷ 9 ∷ 5 ∷ 8 ∷ 4 ∷ 7 ∷ 0 ∷ []) ∷ (0 ∷ 0 ∷ 1 ∷ 2 ∷ 3 ∷ 0 ∷ 0 ∷ 0 ∷ 0 ∷ 0 ∷ 0 ∷ 0 ∷ 0 ∷ 0 ∷ []) ∷ (0 ∷ 0 ∷ 1 ∷ 2 ∷ 3 ∷ 0 ∷ 0 ∷ 0 ∷ 0 ∷ 0 ∷ 0 ∷ 0 ∷ 0 ∷ 0 ∷ []) ∷ [])
unfolding digit packed
br_4_if_block_block = refl

br_table_if_block_block : map (ends 11 ((Then (If (Const32 1) (Then (point 1) (Then (Then (Block (Then (point 2) (Then (Then (Block (Then (point 3) (Then (Then (If (Local 0) (Then (Set 0 (Two (Of I32 Sub) (Local 0) (Const32 1))) (BrTable (0 ∷ 3 ∷ 2 ∷ 1 ∷ []) 4 (Local 1))) (point 10)) (point 11)) (point 6)))) (point 9)) (point 5)))) (point 8)) (point 4))) Skip) (point 7)) ∷ [])) ((1 ∷ 0 ∷ []) ∷ (1 ∷ 1 ∷ []) ∷ (1 ∷ 2 ∷ []) ∷ (1 ∷ 3 ∷ []) ∷ (1 ∷ 4 ∷ []) ∷ (1 ∷ 4294967295 ∷ []) ∷ []) ≡ ((0 ∷ 0 ∷ 1 ∷ 2 ∷ 3 ∷ 11 ∷ 6 ∷ 9 ∷ 5 ∷ 8 ∷ 4 ∷ 7 ∷ 0 ∷ []) ∷ (0 ∷ 0 ∷ 1 ∷ 2 ∷ 3 ∷ 7 ∷ 0 ∷ 0 ∷ 0 ∷ 0 ∷ 0 ∷ 0 ∷ 0 ∷ []) ∷ (0 ∷ 0 ∷ 1 ∷ 2 ∷ 3 ∷ 8 ∷ 4 ∷ 7 ∷ 0 ∷ 0 ∷ 0 ∷ 0 ∷ 0 ∷ []) ∷ (0 ∷ 0 ∷ 1 ∷ 2 ∷ 3 ∷ 9 ∷ 5 ∷ 8 ∷ 4 ∷ 7 ∷ 0 ∷ 0 ∷ 0 ∷ []) ∷ (0 ∷ 0 ∷ 1 ∷ 2 ∷ 3 ∷ 0 ∷ 0 ∷ 0 ∷ 0 ∷ 0 ∷ 0 ∷ 0 ∷ 0 ∷ []) ∷ (0 ∷ 0 ∷ 1 ∷ 2 ∷ 3 ∷ 0 ∷ 0 ∷ 0 ∷ 0 ∷ 0 ∷ 0 ∷ 0 ∷ 0 ∷ []) ∷ [])
unfolding digit packed
br_table_if_block_block = refl

br_0_if_block_loop : map (ends 12 ((Then (If (Const32 1) (Then (point 1) (Then (Then (Block (Then (point 2) (Then (Then (Loop (Then (point 3) (Then (Then (If (Local 0) (Then (Set 0 (Two (Of I32 Sub) (Local 0) (Const32 1))) (Br 0)) (point 10)) (point 11)) (point 6)))) (point 9)) (point 5)))) (point 8)) (point 4))) Skip) (point 7)) ∷ [])) ((0 ∷ 0 ∷ []) ∷ (1 ∷ 0 ∷ []) ∷ (2 ∷ 0 ∷ []) ∷ []) ≡ ((0 ∷ 0 ∷ 1 ∷ 2 ∷ 3 ∷ 10 ∷ 11 ∷ 6 ∷ 9 ∷ 5 ∷ 8 ∷ 4 ∷ 7 ∷ 0 ∷ []) ∷ (0 ∷ 0 ∷ 1 ∷ 2 ∷ 3 ∷ 11 ∷ 6 ∷ 9 ∷ 5 ∷ 8 ∷ 4 ∷ 7 ∷ 0 ∷ 0 ∷ []) ∷ (0 ∷ 0 ∷ 1 ∷ 2 ∷ 3 ∷ 11 ∷ 6 ∷ 9 ∷ 5 ∷ 8 ∷ 4 ∷ 7 ∷ 0 ∷ 0 ∷ []) ∷ [])
unfolding digit packed
br_0_if_block_loop = refl

br_1_if_block_loop : map (ends 14 ((Then (If (Const32 1) (Then (point 1) (Then (Then (Block (Then (point 2) (Then (Then (Loop (Then (point 3) (Then (Then (If (Local 0) (Then (Set 0 (Two (Of I32 Sub) (Local 0) (Const32 1))) (Br 1)) (point 10)) (point 11)) (point 6)))) (point 9)) (point 5)))) (point 8)) (point 4))) Skip) (point 7)) ∷ [])) ((0 ∷ 0 ∷ []) ∷ (1 ∷ 0 ∷ []) ∷ (2 ∷ 0 ∷ []) ∷ []) ≡ ((0 ∷ 0 ∷ 1 ∷ 2 ∷ 3 ∷ 10 ∷ 11 ∷ 6 ∷ 9 ∷ 5 ∷ 8 ∷ 4 ∷ 7 ∷ 0 ∷ 0 ∷ 0 ∷ []) ∷ (0 ∷ 0 ∷ 1 ∷ 2 ∷ 3 ∷ 3 ∷ 10 ∷ 11 ∷ 6 ∷ 9 ∷ 5 ∷ 8 ∷ 4 ∷ 7 ∷ 0 ∷ 0 ∷ []) ∷ (0 ∷ 0 ∷ 1 ∷ 2 ∷ 3 ∷ 3 ∷ 3 ∷ 10 ∷ 11 ∷ 6 ∷ 9 ∷ 5 ∷ 8 ∷ 4 ∷ 7 ∷ 0 ∷ []) ∷ [])
unfolding digit packed
br_1_if_block_loop = refl

br_2_if_block_loop : map (ends 12 ((Then (If (Const32 1) (Then (point 1) (Then (Then (Block (Then (point 2) (Then (Then (Loop (Then (point 3) (Then (Then (If (Local 0) (Then (Set 0 (Two (Of I32 Sub) (Local 0) (Const32 1))) (Br 2)) (point 10)) (point 11)) (point 6)))) (point 9)) (point 5)))) (point 8)) (point 4))) Skip) (point 7)) ∷ [])) ((0 ∷ 0 ∷ []) ∷ (1 ∷ 0 ∷ []) ∷ (2 ∷ 0 ∷ []) ∷ []) ≡ ((0 ∷ 0 ∷ 1 ∷ 2 ∷ 3 ∷ 10 ∷ 11 ∷ 6 ∷ 9 ∷ 5 ∷ 8 ∷ 4 ∷ 7 ∷ 0 ∷ []) ∷ (0 ∷ 0 ∷ 1 ∷ 2 ∷ 3 ∷ 8 ∷ 4 ∷ 7 ∷ 0 ∷ 0 ∷ 0 ∷ 0 ∷ 0 ∷ 0 ∷ []) ∷ (0 ∷ 0 ∷ 1 ∷ 2 ∷ 3 ∷ 8 ∷ 4 ∷ 7 ∷ 0 ∷ 0 ∷ 0 ∷ 0 ∷ 0 ∷ 0 ∷ []) ∷ [])
unfolding digit packed
br_2_if_block_loop = refl

br_3_if_block_loop : map (ends 12 ((Then (If (Const32 1) (Then (point 1) (Then (Then (Block (Then (point 2) (Then (Then (Loop (Then (point 3) (Then (Then (If (Local 0) (Then (Set 0 (Two (Of I32 Sub) (Local 0) (Const32 1))) (Br 3)) (point 10)) (point 11)) (point 6)))) (point 9)) (point 5)))) (point 8)) (point 4))) Skip) (point 7)) ∷ [])) ((0 ∷ 0 ∷ []) ∷ (1 ∷ 0 ∷ []) ∷ (2 ∷ 0 ∷ []) ∷ []) ≡ ((0 ∷ 0 ∷ 1 ∷ 2 ∷ 3 ∷ 10 ∷ 11 ∷ 6 ∷ 9 ∷ 5 ∷ 8 ∷ 4 ∷ 7 ∷ 0 ∷ []) ∷ (0 ∷ 0 ∷ 1 ∷ 2 ∷ 3 ∷ 7 ∷ 0 ∷ 0 ∷ 0 ∷ 0 ∷ 0 ∷ 0 ∷ 0 ∷ 0 ∷ []) ∷ (0 ∷ 0 ∷ 1 ∷ 2 ∷ 3 ∷ 7 ∷ 0 ∷ 0 ∷ 0 ∷ 0 ∷ 0 ∷ 0 ∷ 0 ∷ 0 ∷ []) ∷ [])
unfolding digit packed
br_3_if_block_loop = refl

br_4_if_block_loop : map (ends 12 ((Then (If (Const32 1) (Then (point 1) (Then (Then (Block (Then (point 2) (Then (Then (Loop (Then (point 3) (Then (Then (If (Local 0) (Then (Set 0 (Two (Of I32 Sub) (Local 0) (Const32 1))) (Br 4)) (point 10)) (point 11)) (point 6)))) (point 9)) (point 5)))) (point 8)) (point 4))) Skip) (point 7)) ∷ [])) ((0 ∷ 0 ∷ []) ∷ (1 ∷ 0 ∷ []) ∷ (2 ∷ 0 ∷ []) ∷ []) ≡ ((0 ∷ 0 ∷ 1 ∷ 2 ∷ 3 ∷ 10 ∷ 11 ∷ 6 ∷ 9 ∷ 5 ∷ 8 ∷ 4 ∷ 7 ∷ 0 ∷ []) ∷ (0 ∷ 0 ∷ 1 ∷ 2 ∷ 3 ∷ 0 ∷ 0 ∷ 0 ∷ 0 ∷ 0 ∷ 0 ∷ 0 ∷ 0 ∷ 0 ∷ []) ∷ (0 ∷ 0 ∷ 1 ∷ 2 ∷ 3 ∷ 0 ∷ 0 ∷ 0 ∷ 0 ∷ 0 ∷ 0 ∷ 0 ∷ 0 ∷ 0 ∷ []) ∷ [])
unfolding digit packed
br_4_if_block_loop = refl

br_table_if_block_loop : map (ends 13 ((Then (If (Const32 1) (Then (point 1) (Then (Then (Block (Then (point 2) (Then (Then (Loop (Then (point 3) (Then (Then (If (Local 0) (Then (Set 0 (Two (Of I32 Sub) (Local 0) (Const32 1))) (BrTable (0 ∷ 3 ∷ 2 ∷ 1 ∷ []) 4 (Local 1))) (point 10)) (point 11)) (point 6)))) (point 9)) (point 5)))) (point 8)) (point 4))) Skip) (point 7)) ∷ [])) ((1 ∷ 0 ∷ []) ∷ (1 ∷ 1 ∷ []) ∷ (1 ∷ 2 ∷ []) ∷ (1 ∷ 3 ∷ []) ∷ (1 ∷ 4 ∷ []) ∷ (1 ∷ 4294967295 ∷ []) ∷ []) ≡ ((0 ∷ 0 ∷ 1 ∷ 2 ∷ 3 ∷ 11 ∷ 6 ∷ 9 ∷ 5 ∷ 8 ∷ 4 ∷ 7 ∷ 0 ∷ 0 ∷ 0 ∷ []) ∷ (0 ∷ 0 ∷ 1 ∷ 2 ∷ 3 ∷ 7 ∷ 0 ∷ 0 ∷ 0 ∷ 0 ∷ 0 ∷ 0 ∷ 0 ∷ 0 ∷ 0 ∷ []) ∷ (0 ∷ 0 ∷ 1 ∷ 2 ∷ 3 ∷ 8 ∷ 4 ∷ 7 ∷ 0 ∷ 0 ∷ 0 ∷ 0 ∷ 0 ∷ 0 ∷ 0 ∷ []) ∷ (0 ∷ 0 ∷ 1 ∷ 2 ∷ 3 ∷ 3 ∷ 10 ∷ 11 ∷ 6 ∷ 9 ∷ 5 ∷ 8 ∷ 4 ∷ 7 ∷ 0 ∷ []) ∷ (0 ∷ 0 ∷ 1 ∷ 2 ∷ 3 ∷ 0 ∷ 0 ∷ 0 ∷ 0 ∷ 0 ∷ 0 ∷ 0 ∷ 0 ∷ 0 ∷ 0 ∷ []) ∷ (0 ∷ 0 ∷ 1 ∷ 2 ∷ 3 ∷ 0 ∷ 0 ∷ 0 ∷ 0 ∷ 0 ∷ 0 ∷ 0 ∷ 0 ∷ 0 ∷ 0 ∷ []) ∷ [])
unfolding digit packed
br_table_if_block_loop = refl

br_0_if_block_if : map (ends 12 ((Then (If (Const32 1) (Then (point 1) (Then (Then (Block (Then (point 2) (Then (Then (If (Const32 1) (Then (point 3) (Then (Then (If (Local 0) (Then (Set 0 (Two (Of I32 Sub) (Local 0) (Const32 1))) (Br 0)) (point 10)) (point 11)) (point 6))) Skip) (point 9)) (point 5)))) (point 8)) (point 4))) Skip) (point 7)) ∷ [])) ((0 ∷ 0 ∷ []) ∷ (1 ∷ 0 ∷ []) ∷ (2 ∷ 0 ∷ []) ∷ []) ≡ ((0 ∷ 0 ∷ 1 ∷ 2 ∷ 3 ∷ 10 ∷ 11 ∷ 6 ∷ 9 ∷ 5 ∷ 8 ∷ 4 ∷ 7 ∷ 0 ∷ []) ∷ (0 ∷ 0 ∷ 1 ∷ 2 ∷ 3 ∷ 11 ∷ 6 ∷ 9 ∷ 5 ∷ 8 ∷ 4 ∷ 7 ∷ 0 ∷ 0 ∷ []) ∷ (0 ∷ 0 ∷ 1 ∷ 2 ∷ 3 ∷ 11 ∷ 6 ∷ 9 ∷ 5 ∷ 8 ∷ 4 ∷ 7 ∷ 0 ∷ 0 ∷ []) ∷ [])
unfolding digit packed
br_0_if_block_if = refl

br_1_if_block_if : map (ends 12 ((Then (If (Const32 1) (Then (point 1) (Then (Then (Block (Then (point 2) (Then (Then (If (Const32 1) (Then (point 3) (Then (Then (If (Local 0) (Then (Set 0 (Two (Of I32 Sub) (Local 0) (Const32 1))) (Br 1)) (point 10)) (point 11)) (point 6))) Skip) (point 9)) (point 5)))) (point 8)) (point 4))) Skip) (point 7)) ∷ [])) ((0 ∷ 0 ∷ []) ∷ (1 ∷ 0 ∷ []) ∷ (2 ∷ 0 ∷ []) ∷ []) ≡ ((0 ∷ 0 ∷ 1 ∷ 2 ∷ 3 ∷ 10 ∷ 11 ∷ 6 ∷ 9 ∷ 5 ∷ 8 ∷ 4 ∷ 7 ∷ 0 ∷ []) ∷ (0 ∷ 0 ∷ 1 ∷ 2 ∷ 3 ∷ 9 ∷ 5 ∷ 8 ∷ 4 ∷ 7 ∷ 0 ∷ 0 ∷ 0 ∷ 0 ∷ []) ∷ (0 ∷ 0 ∷ 1 ∷ 2 ∷ 3 ∷ 9 ∷ 5 ∷ 8 ∷ 4 ∷ 7 ∷ 0 ∷ 0 ∷ 0 ∷ 0 ∷ []) ∷ [])
unfolding digit packed
br_1_if_block_if = refl

br_2_if_block_if : map (ends 12 ((Then (If (Const32 1) (Then (point 1) (Then (Then (Block (Then (point 2) (Then (Then (If (Const32 1) (Then (point 3) (Then (Then (If (Local 0) (Then (Set 0 (Two (Of I32 Sub) (Local 0) (Const32 1))) (Br 2)) (point 10)) (point 11)) (point 6))) Skip) (point 9)) (point 5)))) (point 8)) (point 4))) Skip) (point 7)) ∷ [])) ((0 ∷ 0 ∷ []) ∷ (1 ∷ 0 ∷ []) ∷ (2 ∷ 0 ∷ []) ∷ []) ≡ ((0 ∷ 0 ∷ 1 ∷ 2 ∷ 3 ∷ 10 ∷ 11 ∷ 6 ∷ 9 ∷ 5 ∷ 8 ∷ 4 ∷ 7 ∷ 0 ∷ []) ∷ (0 ∷ 0 ∷ 1 ∷ 2 ∷ 3 ∷ 8 ∷ 4 ∷ 7 ∷ 0 ∷ 0 ∷ 0 ∷ 0 ∷ 0 ∷ 0 ∷ []) ∷ (0 ∷ 0 ∷ 1 ∷ 2 ∷ 3 ∷ 8 ∷ 4 ∷ 7 ∷ 0 ∷ 0 ∷ 0 ∷ 0 ∷ 0 ∷ 0 ∷ []) ∷ [])
unfolding digit packed
br_2_if_block_if = refl

br_3_if_block_if : map (ends 12 ((Then (If (Const32 1) (Then (point 1) (Then (Then (Block (Then (point 2) (Then (Then (If (Const32 1) (Then (point 3) (Then (Then (If (Local 0) (Then (Set 0 (Two (Of I32 Sub) (Local 0) (Const32 1))) (Br 3)) (point 10)) (point 11)) (point 6))) Skip) (point 9)) (point 5)))) (point 8)) (point 4))) Skip) (point 7)) ∷ [])) ((0 ∷ 0 ∷ []) ∷ (1 ∷ 0 ∷ []) ∷ (2 ∷ 0 ∷ []) ∷ []) ≡ ((0 ∷ 0 ∷ 1 ∷ 2 ∷ 3 ∷ 10 ∷ 11 ∷ 6 ∷ 9 ∷ 5 ∷ 8 ∷ 4 ∷ 7 ∷ 0 ∷ []) ∷ (0 ∷ 0 ∷ 1 ∷ 2 ∷ 3 ∷ 7 ∷ 0 ∷ 0 ∷ 0 ∷ 0 ∷ 0 ∷ 0 ∷ 0 ∷ 0 ∷ []) ∷ (0 ∷ 0 ∷ 1 ∷ 2 ∷ 3 ∷ 7 ∷ 0 ∷ 0 ∷ 0 ∷ 0 ∷ 0 ∷ 0 ∷ 0 ∷ 0 ∷ []) ∷ [])
unfolding digit packed
br_3_if_block_if = refl

br_4_if_block_if : map (ends 12 ((Then (If (Const32 1) (Then (point 1) (Then (Then (Block (Then (point 2) (Then (Then (If (Const32 1) (Then (point 3) (Then (Then (If (Local 0) (Then (Set 0 (Two (Of I32 Sub) (Local 0) (Const32 1))) (Br 4)) (point 10)) (point 11)) (point 6))) Skip) (point 9)) (point 5)))) (point 8)) (point 4))) Skip) (point 7)) ∷ [])) ((0 ∷ 0 ∷ []) ∷ (1 ∷ 0 ∷ []) ∷ (2 ∷ 0 ∷ []) ∷ []) ≡ ((0 ∷ 0 ∷ 1 ∷ 2 ∷ 3 ∷ 10 ∷ 11 ∷ 6 ∷ 9 ∷ 5 ∷ 8 ∷ 4 ∷ 7 ∷ 0 ∷ []) ∷ (0 ∷ 0 ∷ 1 ∷ 2 ∷ 3 ∷ 0 ∷ 0 ∷ 0 ∷ 0 ∷ 0 ∷ 0 ∷ 0 ∷ 0 ∷ 0 ∷ []) ∷ (0 ∷ 0 ∷ 1 ∷ 2 ∷ 3 ∷ 0 ∷ 0 ∷ 0 ∷ 0 ∷ 0 ∷ 0 ∷ 0 ∷ 0 ∷ 0 ∷ []) ∷ [])
unfolding digit packed
br_4_if_block_if = refl

br_table_if_block_if : map (ends 11 ((Then (If (Const32 1) (Then (point 1) (Then (Then (Block (Then (point 2) (Then (Then (If (Const32 1) (Then (point 3) (Then (Then (If (Local 0) (Then (Set 0 (Two (Of I32 Sub) (Local 0) (Const32 1))) (BrTable (0 ∷ 3 ∷ 2 ∷ 1 ∷ []) 4 (Local 1))) (point 10)) (point 11)) (point 6))) Skip) (point 9)) (point 5)))) (point 8)) (point 4))) Skip) (point 7)) ∷ [])) ((1 ∷ 0 ∷ []) ∷ (1 ∷ 1 ∷ []) ∷ (1 ∷ 2 ∷ []) ∷ (1 ∷ 3 ∷ []) ∷ (1 ∷ 4 ∷ []) ∷ (1 ∷ 4294967295 ∷ []) ∷ []) ≡ ((0 ∷ 0 ∷ 1 ∷ 2 ∷ 3 ∷ 11 ∷ 6 ∷ 9 ∷ 5 ∷ 8 ∷ 4 ∷ 7 ∷ 0 ∷ []) ∷ (0 ∷ 0 ∷ 1 ∷ 2 ∷ 3 ∷ 7 ∷ 0 ∷ 0 ∷ 0 ∷ 0 ∷ 0 ∷ 0 ∷ 0 ∷ []) ∷ (0 ∷ 0 ∷ 1 ∷ 2 ∷ 3 ∷ 8 ∷ 4 ∷ 7 ∷ 0 ∷ 0 ∷ 0 ∷ 0 ∷ 0 ∷ []) ∷ (0 ∷ 0 ∷ 1 ∷ 2 ∷ 3 ∷ 9 ∷ 5 ∷ 8 ∷ 4 ∷ 7 ∷ 0 ∷ 0 ∷ 0 ∷ []) ∷ (0 ∷ 0 ∷ 1 ∷ 2 ∷ 3 ∷ 0 ∷ 0 ∷ 0 ∷ 0 ∷ 0 ∷ 0 ∷ 0 ∷ 0 ∷ []) ∷ (0 ∷ 0 ∷ 1 ∷ 2 ∷ 3 ∷ 0 ∷ 0 ∷ 0 ∷ 0 ∷ 0 ∷ 0 ∷ 0 ∷ 0 ∷ []) ∷ [])
unfolding digit packed
br_table_if_block_if = refl

br_0_if_loop_block : map (ends 12 ((Then (If (Const32 1) (Then (point 1) (Then (Then (Loop (Then (point 2) (Then (Then (Block (Then (point 3) (Then (Then (If (Local 0) (Then (Set 0 (Two (Of I32 Sub) (Local 0) (Const32 1))) (Br 0)) (point 10)) (point 11)) (point 6)))) (point 9)) (point 5)))) (point 8)) (point 4))) Skip) (point 7)) ∷ [])) ((0 ∷ 0 ∷ []) ∷ (1 ∷ 0 ∷ []) ∷ (2 ∷ 0 ∷ []) ∷ []) ≡ ((0 ∷ 0 ∷ 1 ∷ 2 ∷ 3 ∷ 10 ∷ 11 ∷ 6 ∷ 9 ∷ 5 ∷ 8 ∷ 4 ∷ 7 ∷ 0 ∷ []) ∷ (0 ∷ 0 ∷ 1 ∷ 2 ∷ 3 ∷ 11 ∷ 6 ∷ 9 ∷ 5 ∷ 8 ∷ 4 ∷ 7 ∷ 0 ∷ 0 ∷ []) ∷ (0 ∷ 0 ∷ 1 ∷ 2 ∷ 3 ∷ 11 ∷ 6 ∷ 9 ∷ 5 ∷ 8 ∷ 4 ∷ 7 ∷ 0 ∷ 0 ∷ []) ∷ [])
unfolding digit packed
br_0_if_loop_block = refl

br_1_if_loop_block : map (ends 12 ((Then (If (Const32 1) (Then (point 1) (Then (Then (Loop (Then (point 2) (Then (Then (Block (Then (point 3) (Then (Then (If (Local 0) (Then (Set 0 (Two (Of I32 Sub) (Local 0) (Const32 1))) (Br 1)) (point 10)) (point 11)) (point 6)))) (point 9)) (point 5)))) (point 8)) (point 4))) Skip) (point 7)) ∷ [])) ((0 ∷ 0 ∷ []) ∷ (1 ∷ 0 ∷ []) ∷ (2 ∷ 0 ∷ []) ∷ []) ≡ ((0 ∷ 0 ∷ 1 ∷ 2 ∷ 3 ∷ 10 ∷ 11 ∷ 6 ∷ 9 ∷ 5 ∷ 8 ∷ 4 ∷ 7 ∷ 0 ∷ []) ∷ (0 ∷ 0 ∷ 1 ∷ 2 ∷ 3 ∷ 9 ∷ 5 ∷ 8 ∷ 4 ∷ 7 ∷ 0 ∷ 0 ∷ 0 ∷ 0 ∷ []) ∷ (0 ∷ 0 ∷ 1 ∷ 2 ∷ 3 ∷ 9 ∷ 5 ∷ 8 ∷ 4 ∷ 7 ∷ 0 ∷ 0 ∷ 0 ∷ 0 ∷ []) ∷ [])
unfolding digit packed
br_1_if_loop_block = refl

br_2_if_loop_block : map (ends 16 ((Then (If (Const32 1) (Then (point 1) (Then (Then (Loop (Then (point 2) (Then (Then (Block (Then (point 3) (Then (Then (If (Local 0) (Then (Set 0 (Two (Of I32 Sub) (Local 0) (Const32 1))) (Br 2)) (point 10)) (point 11)) (point 6)))) (point 9)) (point 5)))) (point 8)) (point 4))) Skip) (point 7)) ∷ [])) ((0 ∷ 0 ∷ []) ∷ (1 ∷ 0 ∷ []) ∷ (2 ∷ 0 ∷ []) ∷ []) ≡ ((0 ∷ 0 ∷ 1 ∷ 2 ∷ 3 ∷ 10 ∷ 11 ∷ 6 ∷ 9 ∷ 5 ∷ 8 ∷ 4 ∷ 7 ∷ 0 ∷ 0 ∷ 0 ∷ 0 ∷ 0 ∷ []) ∷ (0 ∷ 0 ∷ 1 ∷ 2 ∷ 3 ∷ 2 ∷ 3 ∷ 10 ∷ 11 ∷ 6 ∷ 9 ∷ 5 ∷ 8 ∷ 4 ∷ 7 ∷ 0 ∷ 0 ∷ 0 ∷ []) ∷ (0 ∷ 0 ∷ 1 ∷ 2 ∷ 3 ∷ 2 ∷ 3 ∷ 2 ∷ 3 ∷ 10 ∷ 11 ∷ 6 ∷ 9 ∷ 5 ∷ 8 ∷ 4 ∷ 7 ∷ 0 ∷ []) ∷ [])
unfolding digit packed
br_2_if_loop_block = refl

br_3_if_loop_block : map (ends 12 ((Then (If (Const32 1) (Then (point 1) (Then (Then (Loop (Then (point 2) (Then (Then (Block (Then (point 3) (Then (Then (If (Local 0) (Then (Set 0 (Two (Of I32 Sub) (Local 0) (Const32 1))) (Br 3)) (point 10)) (point 11)) (point 6)))) (point 9)) (point 5)))) (point 8)) (point 4))) Skip) (point 7)) ∷ [])) ((0 ∷ 0 ∷ []) ∷ (1 ∷ 0 ∷ []) ∷ (2 ∷ 0 ∷ []) ∷ []) ≡ ((0 ∷ 0 ∷ 1 ∷ 2 ∷ 3 ∷ 10 ∷ 11 ∷ 6 ∷ 9 ∷ 5 ∷ 8 ∷ 4 ∷ 7 ∷ 0 ∷ []) ∷ (0 ∷ 0 ∷ 1 ∷ 2 ∷ 3 ∷ 7 ∷ 0 ∷ 0 ∷ 0 ∷ 0 ∷ 0 ∷ 0 ∷ 0 ∷ 0 ∷ []) ∷ (0 ∷ 0 ∷ 1 ∷ 2 ∷ 3 ∷ 7 ∷ 0 ∷ 0 ∷ 0 ∷ 0 ∷ 0 ∷ 0 ∷ 0 ∷ 0 ∷ []) ∷ [])
unfolding digit packed
br_3_if_loop_block = refl

br_4_if_loop_block : map (ends 12 ((Then (If (Const32 1) (Then (point 1) (Then (Then (Loop (Then (point 2) (Then (Then (Block (Then (point 3) (Then (Then (If (Local 0) (Then (Set 0 (Two (Of I32 Sub) (Local 0) (Const32 1))) (Br 4)) (point 10)) (point 11)) (point 6)))) (point 9)) (point 5)))) (point 8)) (point 4))) Skip) (point 7)) ∷ [])) ((0 ∷ 0 ∷ []) ∷ (1 ∷ 0 ∷ []) ∷ (2 ∷ 0 ∷ []) ∷ []) ≡ ((0 ∷ 0 ∷ 1 ∷ 2 ∷ 3 ∷ 10 ∷ 11 ∷ 6 ∷ 9 ∷ 5 ∷ 8 ∷ 4 ∷ 7 ∷ 0 ∷ []) ∷ (0 ∷ 0 ∷ 1 ∷ 2 ∷ 3 ∷ 0 ∷ 0 ∷ 0 ∷ 0 ∷ 0 ∷ 0 ∷ 0 ∷ 0 ∷ 0 ∷ []) ∷ (0 ∷ 0 ∷ 1 ∷ 2 ∷ 3 ∷ 0 ∷ 0 ∷ 0 ∷ 0 ∷ 0 ∷ 0 ∷ 0 ∷ 0 ∷ 0 ∷ []) ∷ [])
unfolding digit packed
br_4_if_loop_block = refl

br_table_if_loop_block : map (ends 14 ((Then (If (Const32 1) (Then (point 1) (Then (Then (Loop (Then (point 2) (Then (Then (Block (Then (point 3) (Then (Then (If (Local 0) (Then (Set 0 (Two (Of I32 Sub) (Local 0) (Const32 1))) (BrTable (0 ∷ 3 ∷ 2 ∷ 1 ∷ []) 4 (Local 1))) (point 10)) (point 11)) (point 6)))) (point 9)) (point 5)))) (point 8)) (point 4))) Skip) (point 7)) ∷ [])) ((1 ∷ 0 ∷ []) ∷ (1 ∷ 1 ∷ []) ∷ (1 ∷ 2 ∷ []) ∷ (1 ∷ 3 ∷ []) ∷ (1 ∷ 4 ∷ []) ∷ (1 ∷ 4294967295 ∷ []) ∷ []) ≡ ((0 ∷ 0 ∷ 1 ∷ 2 ∷ 3 ∷ 11 ∷ 6 ∷ 9 ∷ 5 ∷ 8 ∷ 4 ∷ 7 ∷ 0 ∷ 0 ∷ 0 ∷ 0 ∷ []) ∷ (0 ∷ 0 ∷ 1 ∷ 2 ∷ 3 ∷ 7 ∷ 0 ∷ 0 ∷ 0 ∷ 0 ∷ 0 ∷ 0 ∷ 0 ∷ 0 ∷ 0 ∷ 0 ∷ []) ∷ (0 ∷ 0 ∷ 1 ∷ 2 ∷ 3 ∷ 2 ∷ 3 ∷ 10 ∷ 11 ∷ 6 ∷ 9 ∷ 5 ∷ 8 ∷ 4 ∷ 7 ∷ 0 ∷ []) ∷ (0 ∷ 0 ∷ 1 ∷ 2 ∷ 3 ∷ 9 ∷ 5 ∷ 8 ∷ 4 ∷ 7 ∷ 0 ∷ 0 ∷ 0 ∷ 0 ∷ 0 ∷ 0 ∷ []) ∷ (0 ∷ 0 ∷ 1 ∷ 2 ∷ 3 ∷ 0 ∷ 0 ∷ 0 ∷ 0 ∷ 0 ∷ 0 ∷ 0 ∷ 0 ∷ 0 ∷ 0 ∷ 0 ∷ []) ∷ (0 ∷ 0 ∷ 1 ∷ 2 ∷ 3 ∷ 0 ∷ 0 ∷ 0 ∷ 0 ∷ 0 ∷ 0 ∷ 0 ∷ 0 ∷ 0 ∷ 0 ∷ 0 ∷ []) ∷ [])
unfolding digit packed
br_table_if_loop_block = refl

br_0_if_loop_loop : map (ends 12 ((Then (If (Const32 1) (Then (point 1) (Then (Then (Loop (Then (point 2) (Then (Then (Loop (Then (point 3) (Then (Then (If (Local 0) (Then (Set 0 (Two (Of I32 Sub) (Local 0) (Const32 1))) (Br 0)) (point 10)) (point 11)) (point 6)))) (point 9)) (point 5)))) (point 8)) (point 4))) Skip) (point 7)) ∷ [])) ((0 ∷ 0 ∷ []) ∷ (1 ∷ 0 ∷ []) ∷ (2 ∷ 0 ∷ []) ∷ []) ≡ ((0 ∷ 0 ∷ 1 ∷ 2 ∷ 3 ∷ 10 ∷ 11 ∷ 6 ∷ 9 ∷ 5 ∷ 8 ∷ 4 ∷ 7 ∷ 0 ∷ []) ∷ (0 ∷ 0 ∷ 1 ∷ 2 ∷ 3 ∷ 11 ∷ 6 ∷ 9 ∷ 5 ∷ 8 ∷ 4 ∷ 7 ∷ 0 ∷ 0 ∷ []) ∷ (0 ∷ 0 ∷ 1 ∷ 2 ∷ 3 ∷ 11 ∷ 6 ∷ 9 ∷ 5 ∷ 8 ∷ 4 ∷ 7 ∷ 0 ∷ 0 ∷ []) ∷ [])
unfolding digit packed
br_0_if_loop_loop = refl

br_1_if_loop_loop : map (ends 14 ((Then (If (Const32 1) (Then (point 1) (Then (Then (Loop (Then (point 2) (Then (Then (Loop (Then (point 3) (Then (Then (If (Local 0) (Then (Set 0 (Two (Of I32 Sub) (Local 0) (Const32 1))) (Br 1)) (point 10)) (point 11)) (point 6)))) (point 9)) (point 5)))) (point 8)) (point 4))) Skip) (point 7)) ∷ [])) ((0 ∷ 0 ∷ []) ∷ (1 ∷ 0 ∷ []) ∷ (2 ∷ 0 ∷ []) ∷ []) ≡ ((0 ∷ 0 ∷ 1 ∷ 2 ∷ 3 ∷ 10 ∷ 11 ∷ 6 ∷ 9 ∷ 5 ∷ 8 ∷ 4 ∷ 7 ∷ 0 ∷ 0 ∷ 0 ∷ []) ∷ (0 ∷ 0 ∷ 1 ∷ 2 ∷ 3 ∷ 3 ∷ 10 ∷ 11 ∷ 6 ∷ 9 ∷ 5 ∷ 8 ∷ 4 ∷ 7 ∷ 0 ∷ 0 ∷ []) ∷ (0 ∷ 0 ∷ 1 ∷ 2 ∷ 3 ∷ 3 ∷ 3 ∷ 10 ∷ 11 ∷ 6 ∷ 9 ∷ 5 ∷ 8 ∷ 4 ∷ 7 ∷ 0 ∷ []) ∷ [])
unfolding digit packed
br_1_if_loop_loop = refl

br_2_if_loop_loop : map (ends 16 ((Then (If (Const32 1) (Then (point 1) (Then (Then (Loop (Then (point 2) (Then (Then (Loop (Then (point 3) (Then (Then (If (Local 0) (Then (Set 0 (Two (Of I32 Sub) (Local 0) (Const32 1))) (Br 2)) (point 10)) (point 11)) (point 6)))) (point 9)) (point 5)))) (point 8)) (point 4))) Skip) (point 7)) ∷ [])) ((0 ∷ 0 ∷ []) ∷ (1 ∷ 0 ∷ []) ∷ (2 ∷ 0 ∷ []) ∷ []) ≡ ((0 ∷ 0 ∷ 1 ∷ 2 ∷ 3 ∷ 10 ∷ 11 ∷ 6 ∷ 9 ∷ 5 ∷ 8 ∷ 4 ∷ 7 ∷ 0 ∷ 0 ∷ 0 ∷ 0 ∷ 0 ∷ []) ∷ (0 ∷ 0 ∷ 1 ∷ 2 ∷ 3 ∷ 2 ∷ 3 ∷ 10 ∷ 11 ∷ 6 ∷ 9 ∷ 5 ∷ 8 ∷ 4 ∷ 7 ∷ 0 ∷ 0 ∷ 0 ∷ []) ∷ (0 ∷ 0 ∷ 1 ∷ 2 ∷ 3 ∷ 2 ∷ 3 ∷ 2 ∷ 3 ∷ 10 ∷ 11 ∷ 6 ∷ 9 ∷ 5 ∷ 8 ∷ 4 ∷ 7 ∷ 0 ∷ []) ∷ [])
unfolding digit packed
br_2_if_loop_loop = refl

br_3_if_loop_loop : map (ends 12 ((Then (If (Const32 1) (Then (point 1) (Then (Then (Loop (Then (point 2) (Then (Then (Loop (Then (point 3) (Then (Then (If (Local 0) (Then (Set 0 (Two (Of I32 Sub) (Local 0) (Const32 1))) (Br 3)) (point 10)) (point 11)) (point 6)))) (point 9)) (point 5)))) (point 8)) (point 4))) Skip) (point 7)) ∷ [])) ((0 ∷ 0 ∷ []) ∷ (1 ∷ 0 ∷ []) ∷ (2 ∷ 0 ∷ []) ∷ []) ≡ ((0 ∷ 0 ∷ 1 ∷ 2 ∷ 3 ∷ 10 ∷ 11 ∷ 6 ∷ 9 ∷ 5 ∷ 8 ∷ 4 ∷ 7 ∷ 0 ∷ []) ∷ (0 ∷ 0 ∷ 1 ∷ 2 ∷ 3 ∷ 7 ∷ 0 ∷ 0 ∷ 0 ∷ 0 ∷ 0 ∷ 0 ∷ 0 ∷ 0 ∷ []) ∷ (0 ∷ 0 ∷ 1 ∷ 2 ∷ 3 ∷ 7 ∷ 0 ∷ 0 ∷ 0 ∷ 0 ∷ 0 ∷ 0 ∷ 0 ∷ 0 ∷ []) ∷ [])
unfolding digit packed
br_3_if_loop_loop = refl

br_4_if_loop_loop : map (ends 12 ((Then (If (Const32 1) (Then (point 1) (Then (Then (Loop (Then (point 2) (Then (Then (Loop (Then (point 3) (Then (Then (If (Local 0) (Then (Set 0 (Two (Of I32 Sub) (Local 0) (Const32 1))) (Br 4)) (point 10)) (point 11)) (point 6)))) (point 9)) (point 5)))) (point 8)) (point 4))) Skip) (point 7)) ∷ [])) ((0 ∷ 0 ∷ []) ∷ (1 ∷ 0 ∷ []) ∷ (2 ∷ 0 ∷ []) ∷ []) ≡ ((0 ∷ 0 ∷ 1 ∷ 2 ∷ 3 ∷ 10 ∷ 11 ∷ 6 ∷ 9 ∷ 5 ∷ 8 ∷ 4 ∷ 7 ∷ 0 ∷ []) ∷ (0 ∷ 0 ∷ 1 ∷ 2 ∷ 3 ∷ 0 ∷ 0 ∷ 0 ∷ 0 ∷ 0 ∷ 0 ∷ 0 ∷ 0 ∷ 0 ∷ []) ∷ (0 ∷ 0 ∷ 1 ∷ 2 ∷ 3 ∷ 0 ∷ 0 ∷ 0 ∷ 0 ∷ 0 ∷ 0 ∷ 0 ∷ 0 ∷ 0 ∷ []) ∷ [])
unfolding digit packed
br_4_if_loop_loop = refl

br_table_if_loop_loop : map (ends 14 ((Then (If (Const32 1) (Then (point 1) (Then (Then (Loop (Then (point 2) (Then (Then (Loop (Then (point 3) (Then (Then (If (Local 0) (Then (Set 0 (Two (Of I32 Sub) (Local 0) (Const32 1))) (BrTable (0 ∷ 3 ∷ 2 ∷ 1 ∷ []) 4 (Local 1))) (point 10)) (point 11)) (point 6)))) (point 9)) (point 5)))) (point 8)) (point 4))) Skip) (point 7)) ∷ [])) ((1 ∷ 0 ∷ []) ∷ (1 ∷ 1 ∷ []) ∷ (1 ∷ 2 ∷ []) ∷ (1 ∷ 3 ∷ []) ∷ (1 ∷ 4 ∷ []) ∷ (1 ∷ 4294967295 ∷ []) ∷ []) ≡ ((0 ∷ 0 ∷ 1 ∷ 2 ∷ 3 ∷ 11 ∷ 6 ∷ 9 ∷ 5 ∷ 8 ∷ 4 ∷ 7 ∷ 0 ∷ 0 ∷ 0 ∷ 0 ∷ []) ∷ (0 ∷ 0 ∷ 1 ∷ 2 ∷ 3 ∷ 7 ∷ 0 ∷ 0 ∷ 0 ∷ 0 ∷ 0 ∷ 0 ∷ 0 ∷ 0 ∷ 0 ∷ 0 ∷ []) ∷ (0 ∷ 0 ∷ 1 ∷ 2 ∷ 3 ∷ 2 ∷ 3 ∷ 10 ∷ 11 ∷ 6 ∷ 9 ∷ 5 ∷ 8 ∷ 4 ∷ 7 ∷ 0 ∷ []) ∷ (0 ∷ 0 ∷ 1 ∷ 2 ∷ 3 ∷ 3 ∷ 10 ∷ 11 ∷ 6 ∷ 9 ∷ 5 ∷ 8 ∷ 4 ∷ 7 ∷ 0 ∷ 0 ∷ []) ∷ (0 ∷ 0 ∷ 1 ∷ 2 ∷ 3 ∷ 0 ∷ 0 ∷ 0 ∷ 0 ∷ 0 ∷ 0 ∷ 0 ∷ 0 ∷ 0 ∷ 0 ∷ 0 ∷ []) ∷ (0 ∷ 0 ∷ 1 ∷ 2 ∷ 3 ∷ 0 ∷ 0 ∷ 0 ∷ 0 ∷ 0 ∷ 0 ∷ 0 ∷ 0 ∷ 0 ∷ 0 ∷ 0 ∷ []) ∷ [])
unfolding digit packed
br_table_if_loop_loop = refl

br_0_if_loop_if : map (ends 12 ((Then (If (Const32 1) (Then (point 1) (Then (Then (Loop (Then (point 2) (Then (Then (If (Const32 1) (Then (point 3) (Then (Then (If (Local 0) (Then (Set 0 (Two (Of I32 Sub) (Local 0) (Const32 1))) (Br 0)) (point 10)) (point 11)) (point 6))) Skip) (point 9)) (point 5)))) (point 8)) (point 4))) Skip) (point 7)) ∷ [])) ((0 ∷ 0 ∷ []) ∷ (1 ∷ 0 ∷ []) ∷ (2 ∷ 0 ∷ []) ∷ []) ≡ ((0 ∷ 0 ∷ 1 ∷ 2 ∷ 3 ∷ 10 ∷ 11 ∷ 6 ∷ 9 ∷ 5 ∷ 8 ∷ 4 ∷ 7 ∷ 0 ∷ []) ∷ (0 ∷ 0 ∷ 1 ∷ 2 ∷ 3 ∷ 11 ∷ 6 ∷ 9 ∷ 5 ∷ 8 ∷ 4 ∷ 7 ∷ 0 ∷ 0 ∷ []) ∷ (0 ∷ 0 ∷ 1 ∷ 2 ∷ 3 ∷ 11 ∷ 6 ∷ 9 ∷ 5 ∷ 8 ∷ 4 ∷ 7 ∷ 0 ∷ 0 ∷ []) ∷ [])
unfolding digit packed
br_0_if_loop_if = refl

br_1_if_loop_if : map (ends 12 ((Then (If (Const32 1) (Then (point 1) (Then (Then (Loop (Then (point 2) (Then (Then (If (Const32 1) (Then (point 3) (Then (Then (If (Local 0) (Then (Set 0 (Two (Of I32 Sub) (Local 0) (Const32 1))) (Br 1)) (point 10)) (point 11)) (point 6))) Skip) (point 9)) (point 5)))) (point 8)) (point 4))) Skip) (point 7)) ∷ [])) ((0 ∷ 0 ∷ []) ∷ (1 ∷ 0 ∷ []) ∷ (2 ∷ 0 ∷ []) ∷ []) ≡ ((0 ∷ 0 ∷ 1 ∷ 2 ∷ 3 ∷ 10 ∷ 11 ∷ 6 ∷ 9 ∷ 5 ∷ 8 ∷ 4 ∷ 7 ∷ 0 ∷ []) ∷ (0 ∷ 0 ∷ 1 ∷ 2 ∷ 3 ∷ 9 ∷ 5 ∷ 8 ∷ 4 ∷ 7 ∷ 0 ∷ 0 ∷ 0 ∷ 0 ∷ []) ∷ (0 ∷ 0 ∷ 1 ∷ 2 ∷ 3 ∷ 9 ∷ 5 ∷ 8 ∷ 4 ∷ 7 ∷ 0 ∷ 0 ∷ 0 ∷ 0 ∷ []) ∷ [])
unfolding digit packed
br_1_if_loop_if = refl

br_2_if_loop_if : map (ends 16 ((Then (If (Const32 1) (Then (point 1) (Then (Then (Loop (Then (point 2) (Then (Then (If (Const32 1) (Then (point 3) (Then (Then (If (Local 0) (Then (Set 0 (Two (Of I32 Sub) (Local 0) (Const32 1))) (Br 2)) (point 10)) (point 11)) (point 6))) Skip) (point 9)) (point 5)))) (point 8)) (point 4))) Skip) (point 7)) ∷ [])) ((0 ∷ 0 ∷ []) ∷ (1 ∷ 0 ∷ []) ∷ (2 ∷ 0 ∷ []) ∷ []) ≡ ((0 ∷ 0 ∷ 1 ∷ 2 ∷ 3 ∷ 10 ∷ 11 ∷ 6 ∷ 9 ∷ 5 ∷ 8 ∷ 4 ∷ 7 ∷ 0 ∷ 0 ∷ 0 ∷ 0 ∷ 0 ∷ []) ∷ (0 ∷ 0 ∷ 1 ∷ 2 ∷ 3 ∷ 2 ∷ 3 ∷ 10 ∷ 11 ∷ 6 ∷ 9 ∷ 5 ∷ 8 ∷ 4 ∷ 7 ∷ 0 ∷ 0 ∷ 0 ∷ []) ∷ (0 ∷ 0 ∷ 1 ∷ 2 ∷ 3 ∷ 2 ∷ 3 ∷ 2 ∷ 3 ∷ 10 ∷ 11 ∷ 6 ∷ 9 ∷ 5 ∷ 8 ∷ 4 ∷ 7 ∷ 0 ∷ []) ∷ [])
unfolding digit packed
br_2_if_loop_if = refl

br_3_if_loop_if : map (ends 12 ((Then (If (Const32 1) (Then (point 1) (Then (Then (Loop (Then (point 2) (Then (Then (If (Const32 1) (Then (point 3) (Then (Then (If (Local 0) (Then (Set 0 (Two (Of I32 Sub) (Local 0) (Const32 1))) (Br 3)) (point 10)) (point 11)) (point 6))) Skip) (point 9)) (point 5)))) (point 8)) (point 4))) Skip) (point 7)) ∷ [])) ((0 ∷ 0 ∷ []) ∷ (1 ∷ 0 ∷ []) ∷ (2 ∷ 0 ∷ []) ∷ []) ≡ ((0 ∷ 0 ∷ 1 ∷ 2 ∷ 3 ∷ 10 ∷ 11 ∷ 6 ∷ 9 ∷ 5 ∷ 8 ∷ 4 ∷ 7 ∷ 0 ∷ []) ∷ (0 ∷ 0 ∷ 1 ∷ 2 ∷ 3 ∷ 7 ∷ 0 ∷ 0 ∷ 0 ∷ 0 ∷ 0 ∷ 0 ∷ 0 ∷ 0 ∷ []) ∷ (0 ∷ 0 ∷ 1 ∷ 2 ∷ 3 ∷ 7 ∷ 0 ∷ 0 ∷ 0 ∷ 0 ∷ 0 ∷ 0 ∷ 0 ∷ 0 ∷ []) ∷ [])
unfolding digit packed
br_3_if_loop_if = refl

br_4_if_loop_if : map (ends 12 ((Then (If (Const32 1) (Then (point 1) (Then (Then (Loop (Then (point 2) (Then (Then (If (Const32 1) (Then (point 3) (Then (Then (If (Local 0) (Then (Set 0 (Two (Of I32 Sub) (Local 0) (Const32 1))) (Br 4)) (point 10)) (point 11)) (point 6))) Skip) (point 9)) (point 5)))) (point 8)) (point 4))) Skip) (point 7)) ∷ [])) ((0 ∷ 0 ∷ []) ∷ (1 ∷ 0 ∷ []) ∷ (2 ∷ 0 ∷ []) ∷ []) ≡ ((0 ∷ 0 ∷ 1 ∷ 2 ∷ 3 ∷ 10 ∷ 11 ∷ 6 ∷ 9 ∷ 5 ∷ 8 ∷ 4 ∷ 7 ∷ 0 ∷ []) ∷ (0 ∷ 0 ∷ 1 ∷ 2 ∷ 3 ∷ 0 ∷ 0 ∷ 0 ∷ 0 ∷ 0 ∷ 0 ∷ 0 ∷ 0 ∷ 0 ∷ []) ∷ (0 ∷ 0 ∷ 1 ∷ 2 ∷ 3 ∷ 0 ∷ 0 ∷ 0 ∷ 0 ∷ 0 ∷ 0 ∷ 0 ∷ 0 ∷ 0 ∷ []) ∷ [])
unfolding digit packed
br_4_if_loop_if = refl

br_table_if_loop_if : map (ends 14 ((Then (If (Const32 1) (Then (point 1) (Then (Then (Loop (Then (point 2) (Then (Then (If (Const32 1) (Then (point 3) (Then (Then (If (Local 0) (Then (Set 0 (Two (Of I32 Sub) (Local 0) (Const32 1))) (BrTable (0 ∷ 3 ∷ 2 ∷ 1 ∷ []) 4 (Local 1))) (point 10)) (point 11)) (point 6))) Skip) (point 9)) (point 5)))) (point 8)) (point 4))) Skip) (point 7)) ∷ [])) ((1 ∷ 0 ∷ []) ∷ (1 ∷ 1 ∷ []) ∷ (1 ∷ 2 ∷ []) ∷ (1 ∷ 3 ∷ []) ∷ (1 ∷ 4 ∷ []) ∷ (1 ∷ 4294967295 ∷ []) ∷ []) ≡ ((0 ∷ 0 ∷ 1 ∷ 2 ∷ 3 ∷ 11 ∷ 6 ∷ 9 ∷ 5 ∷ 8 ∷ 4 ∷ 7 ∷ 0 ∷ 0 ∷ 0 ∷ 0 ∷ []) ∷ (0 ∷ 0 ∷ 1 ∷ 2 ∷ 3 ∷ 7 ∷ 0 ∷ 0 ∷ 0 ∷ 0 ∷ 0 ∷ 0 ∷ 0 ∷ 0 ∷ 0 ∷ 0 ∷ []) ∷ (0 ∷ 0 ∷ 1 ∷ 2 ∷ 3 ∷ 2 ∷ 3 ∷ 10 ∷ 11 ∷ 6 ∷ 9 ∷ 5 ∷ 8 ∷ 4 ∷ 7 ∷ 0 ∷ []) ∷ (0 ∷ 0 ∷ 1 ∷ 2 ∷ 3 ∷ 9 ∷ 5 ∷ 8 ∷ 4 ∷ 7 ∷ 0 ∷ 0 ∷ 0 ∷ 0 ∷ 0 ∷ 0 ∷ []) ∷ (0 ∷ 0 ∷ 1 ∷ 2 ∷ 3 ∷ 0 ∷ 0 ∷ 0 ∷ 0 ∷ 0 ∷ 0 ∷ 0 ∷ 0 ∷ 0 ∷ 0 ∷ 0 ∷ []) ∷ (0 ∷ 0 ∷ 1 ∷ 2 ∷ 3 ∷ 0 ∷ 0 ∷ 0 ∷ 0 ∷ 0 ∷ 0 ∷ 0 ∷ 0 ∷ 0 ∷ 0 ∷ 0 ∷ []) ∷ [])
unfolding digit packed
br_table_if_loop_if = refl

br_0_if_if_block : map (ends 12 ((Then (If (Const32 1) (Then (point 1) (Then (Then (If (Const32 1) (Then (point 2) (Then (Then (Block (Then (point 3) (Then (Then (If (Local 0) (Then (Set 0 (Two (Of I32 Sub) (Local 0) (Const32 1))) (Br 0)) (point 10)) (point 11)) (point 6)))) (point 9)) (point 5))) Skip) (point 8)) (point 4))) Skip) (point 7)) ∷ [])) ((0 ∷ 0 ∷ []) ∷ (1 ∷ 0 ∷ []) ∷ (2 ∷ 0 ∷ []) ∷ []) ≡ ((0 ∷ 0 ∷ 1 ∷ 2 ∷ 3 ∷ 10 ∷ 11 ∷ 6 ∷ 9 ∷ 5 ∷ 8 ∷ 4 ∷ 7 ∷ 0 ∷ []) ∷ (0 ∷ 0 ∷ 1 ∷ 2 ∷ 3 ∷ 11 ∷ 6 ∷ 9 ∷ 5 ∷ 8 ∷ 4 ∷ 7 ∷ 0 ∷ 0 ∷ []) ∷ (0 ∷ 0 ∷ 1 ∷ 2 ∷ 3 ∷ 11 ∷ 6 ∷ 9 ∷ 5 ∷ 8 ∷ 4 ∷ 7 ∷ 0 ∷ 0 ∷ []) ∷ [])
unfolding digit packed
br_0_if_if_block = refl

br_1_if_if_block : map (ends 12 ((Then (If (Const32 1) (Then (point 1) (Then (Then (If (Const32 1) (Then (point 2) (Then (Then (Block (Then (point 3) (Then (Then (If (Local 0) (Then (Set 0 (Two (Of I32 Sub) (Local 0) (Const32 1))) (Br 1)) (point 10)) (point 11)) (point 6)))) (point 9)) (point 5))) Skip) (point 8)) (point 4))) Skip) (point 7)) ∷ [])) ((0 ∷ 0 ∷ []) ∷ (1 ∷ 0 ∷ []) ∷ (2 ∷ 0 ∷ []) ∷ []) ≡ ((0 ∷ 0 ∷ 1 ∷ 2 ∷ 3 ∷ 10 ∷ 11 ∷ 6 ∷ 9 ∷ 5 ∷ 8 ∷ 4 ∷ 7 ∷ 0 ∷ []) ∷ (0 ∷ 0 ∷ 1 ∷ 2 ∷ 3 ∷ 9 ∷ 5 ∷ 8 ∷ 4 ∷ 7 ∷ 0 ∷ 0 ∷ 0 ∷ 0 ∷ []) ∷ (0 ∷ 0 ∷ 1 ∷ 2 ∷ 3 ∷ 9 ∷ 5 ∷ 8 ∷ 4 ∷ 7 ∷ 0 ∷ 0 ∷ 0 ∷ 0 ∷ []) ∷ [])
unfolding digit packed
br_1_if_if_block = refl

br_2_if_if_block : map (ends 12 ((Then (If (Const32 1) (Then (point 1) (Then (Then (If (Const32 1) (Then (point 2) (Then (Then (Block (Then (point 3) (Then (Then (If (Local 0) (Then (Set 0 (Two (Of I32 Sub) (Local 0) (Const32 1))) (Br 2)) (point 10)) (point 11)) (point 6)))) (point 9)) (point 5))) Skip) (point 8)) (point 4))) Skip) (point 7)) ∷ [])) ((0 ∷ 0 ∷ []) ∷ (1 ∷ 0 ∷ []) ∷ (2 ∷ 0 ∷ []) ∷ []) ≡ ((0 ∷ 0 ∷ 1 ∷ 2 ∷ 3 ∷ 10 ∷ 11 ∷ 6 ∷ 9 ∷ 5 ∷ 8 ∷ 4 ∷ 7 ∷ 0 ∷ []) ∷ (0 ∷ 0 ∷ 1 ∷ 2 ∷ 3 ∷ 8 ∷ 4 ∷ 7 ∷ 0 ∷ 0 ∷ 0 ∷ 0 ∷ 0 ∷ 0 ∷ []) ∷ (0 ∷ 0 ∷ 1 ∷ 2 ∷ 3 ∷ 8 ∷ 4 ∷ 7 ∷ 0 ∷ 0 ∷ 0 ∷ 0 ∷ 0 ∷ 0 ∷ []) ∷ [])
unfolding digit packed
br_2_if_if_block = refl

br_3_if_if_block : map (ends 12 ((Then (If (Const32 1) (Then (point 1) (Then (Then (If (Const32 1) (Then (point 2) (Then (Then (Block (Then (point 3) (Then (Then (If (Local 0) (Then (Set 0 (Two (Of I32 Sub) (Local 0) (Const32 1))) (Br 3)) (point 10)) (point 11)) (point 6)))) (point 9)) (point 5))) Skip) (point 8)) (point 4))) Skip) (point 7)) ∷ [])) ((0 ∷ 0 ∷ []) ∷ (1 ∷ 0 ∷ []) ∷ (2 ∷ 0 ∷ []) ∷ []) ≡ ((0 ∷ 0 ∷ 1 ∷ 2 ∷ 3 ∷ 10 ∷ 11 ∷ 6 ∷ 9 ∷ 5 ∷ 8 ∷ 4 ∷ 7 ∷ 0 ∷ []) ∷ (0 ∷ 0 ∷ 1 ∷ 2 ∷ 3 ∷ 7 ∷ 0 ∷ 0 ∷ 0 ∷ 0 ∷ 0 ∷ 0 ∷ 0 ∷ 0 ∷ []) ∷ (0 ∷ 0 ∷ 1 ∷ 2 ∷ 3 ∷ 7 ∷ 0 ∷ 0 ∷ 0 ∷ 0 ∷ 0 ∷ 0 ∷ 0 ∷ 0 ∷ []) ∷ [])
unfolding digit packed
br_3_if_if_block = refl

br_4_if_if_block : map (ends 12 ((Then (If (Const32 1) (Then (point 1) (Then (Then (If (Const32 1) (Then (point 2) (Then (Then (Block (Then (point 3) (Then (Then (If (Local 0) (Then (Set 0 (Two (Of I32 Sub) (Local 0) (Const32 1))) (Br 4)) (point 10)) (point 11)) (point 6)))) (point 9)) (point 5))) Skip) (point 8)) (point 4))) Skip) (point 7)) ∷ [])) ((0 ∷ 0 ∷ []) ∷ (1 ∷ 0 ∷ []) ∷ (2 ∷ 0 ∷ []) ∷ []) ≡ ((0 ∷ 0 ∷ 1 ∷ 2 ∷ 3 ∷ 10 ∷ 11 ∷ 6 ∷ 9 ∷ 5 ∷ 8 ∷ 4 ∷ 7 ∷ 0 ∷ []) ∷ (0 ∷ 0 ∷ 1 ∷ 2 ∷ 3 ∷ 0 ∷ 0 ∷ 0 ∷ 0 ∷ 0 ∷ 0 ∷ 0 ∷ 0 ∷ 0 ∷ []) ∷ (0 ∷ 0 ∷ 1 ∷ 2 ∷ 3 ∷ 0 ∷ 0 ∷ 0 ∷ 0 ∷ 0 ∷ 0 ∷ 0 ∷ 0 ∷ 0 ∷ []) ∷ [])
unfolding digit packed
br_4_if_if_block = refl

br_table_if_if_block : map (ends 11 ((Then (If (Const32 1) (Then (point 1) (Then (Then (If (Const32 1) (Then (point 2) (Then (Then (Block (Then (point 3) (Then (Then (If (Local 0) (Then (Set 0 (Two (Of I32 Sub) (Local 0) (Const32 1))) (BrTable (0 ∷ 3 ∷ 2 ∷ 1 ∷ []) 4 (Local 1))) (point 10)) (point 11)) (point 6)))) (point 9)) (point 5))) Skip) (point 8)) (point 4))) Skip) (point 7)) ∷ [])) ((1 ∷ 0 ∷ []) ∷ (1 ∷ 1 ∷ []) ∷ (1 ∷ 2 ∷ []) ∷ (1 ∷ 3 ∷ []) ∷ (1 ∷ 4 ∷ []) ∷ (1 ∷ 4294967295 ∷ []) ∷ []) ≡ ((0 ∷ 0 ∷ 1 ∷ 2 ∷ 3 ∷ 11 ∷ 6 ∷ 9 ∷ 5 ∷ 8 ∷ 4 ∷ 7 ∷ 0 ∷ []) ∷ (0 ∷ 0 ∷ 1 ∷ 2 ∷ 3 ∷ 7 ∷ 0 ∷ 0 ∷ 0 ∷ 0 ∷ 0 ∷ 0 ∷ 0 ∷ []) ∷ (0 ∷ 0 ∷ 1 ∷ 2 ∷ 3 ∷ 8 ∷ 4 ∷ 7 ∷ 0 ∷ 0 ∷ 0 ∷ 0 ∷ 0 ∷ []) ∷ (0 ∷ 0 ∷ 1 ∷ 2 ∷ 3 ∷ 9 ∷ 5 ∷ 8 ∷ 4 ∷ 7 ∷ 0 ∷ 0 ∷ 0 ∷ []) ∷ (0 ∷ 0 ∷ 1 ∷ 2 ∷ 3 ∷ 0 ∷ 0 ∷ 0 ∷ 0 ∷ 0 ∷ 0 ∷ 0 ∷ 0 ∷ []) ∷ (0 ∷ 0 ∷ 1 ∷ 2 ∷ 3 ∷ 0 ∷ 0 ∷ 0 ∷ 0 ∷ 0 ∷ 0 ∷ 0 ∷ 0 ∷ []) ∷ [])
unfolding digit packed
br_table_if_if_block = refl

br_0_if_if_loop : map (ends 12 ((Then (If (Const32 1) (Then (point 1) (Then (Then (If (Const32 1) (Then (point 2) (Then (Then (Loop (Then (point 3) (Then (Then (If (Local 0) (Then (Set 0 (Two (Of I32 Sub) (Local 0) (Const32 1))) (Br 0)) (point 10)) (point 11)) (point 6)))) (point 9)) (point 5))) Skip) (point 8)) (point 4))) Skip) (point 7)) ∷ [])) ((0 ∷ 0 ∷ []) ∷ (1 ∷ 0 ∷ []) ∷ (2 ∷ 0 ∷ []) ∷ []) ≡ ((0 ∷ 0 ∷ 1 ∷ 2 ∷ 3 ∷ 10 ∷ 11 ∷ 6 ∷ 9 ∷ 5 ∷ 8 ∷ 4 ∷ 7 ∷ 0 ∷ []) ∷ (0 ∷ 0 ∷ 1 ∷ 2 ∷ 3 ∷ 11 ∷ 6 ∷ 9 ∷ 5 ∷ 8 ∷ 4 ∷ 7 ∷ 0 ∷ 0 ∷ []) ∷ (0 ∷ 0 ∷ 1 ∷ 2 ∷ 3 ∷ 11 ∷ 6 ∷ 9 ∷ 5 ∷ 8 ∷ 4 ∷ 7 ∷ 0 ∷ 0 ∷ []) ∷ [])
unfolding digit packed
br_0_if_if_loop = refl

br_1_if_if_loop : map (ends 14 ((Then (If (Const32 1) (Then (point 1) (Then (Then (If (Const32 1) (Then (point 2) (Then (Then (Loop (Then (point 3) (Then (Then (If (Local 0) (Then (Set 0 (Two (Of I32 Sub) (Local 0) (Const32 1))) (Br 1)) (point 10)) (point 11)) (point 6)))) (point 9)) (point 5))) Skip) (point 8)) (point 4))) Skip) (point 7)) ∷ [])) ((0 ∷ 0 ∷ []) ∷ (1 ∷ 0 ∷ []) ∷ (2 ∷ 0 ∷ []) ∷ []) ≡ ((0 ∷ 0 ∷ 1 ∷ 2 ∷ 3 ∷ 10 ∷ 11 ∷ 6 ∷ 9 ∷ 5 ∷ 8 ∷ 4 ∷ 7 ∷ 0 ∷ 0 ∷ 0 ∷ []) ∷ (0 ∷ 0 ∷ 1 ∷ 2 ∷ 3 ∷ 3 ∷ 10 ∷ 11 ∷ 6 ∷ 9 ∷ 5 ∷ 8 ∷ 4 ∷ 7 ∷ 0 ∷ 0 ∷ []) ∷ (0 ∷ 0 ∷ 1 ∷ 2 ∷ 3 ∷ 3 ∷ 3 ∷ 10 ∷ 11 ∷ 6 ∷ 9 ∷ 5 ∷ 8 ∷ 4 ∷ 7 ∷ 0 ∷ []) ∷ [])
unfolding digit packed
br_1_if_if_loop = refl

br_2_if_if_loop : map (ends 12 ((Then (If (Const32 1) (Then (point 1) (Then (Then (If (Const32 1) (Then (point 2) (Then (Then (Loop (Then (point 3) (Then (Then (If (Local 0) (Then (Set 0 (Two (Of I32 Sub) (Local 0) (Const32 1))) (Br 2)) (point 10)) (point 11)) (point 6)))) (point 9)) (point 5))) Skip) (point 8)) (point 4))) Skip) (point 7)) ∷ [])) ((0 ∷ 0 ∷ []) ∷ (1 ∷ 0 ∷ []) ∷ (2 ∷ 0 ∷ []) ∷ []) ≡ ((0 ∷ 0 ∷ 1 ∷ 2 ∷ 3 ∷ 10 ∷ 11 ∷ 6 ∷ 9 ∷ 5 ∷ 8 ∷ 4 ∷ 7 ∷ 0 ∷ []) ∷ (0 ∷ 0 ∷ 1 ∷ 2 ∷ 3 ∷ 8 ∷ 4 ∷ 7 ∷ 0 ∷ 0 ∷ 0 ∷ 0 ∷ 0 ∷ 0 ∷ []) ∷ (0 ∷ 0 ∷ 1 ∷ 2 ∷ 3 ∷ 8 ∷ 4 ∷ 7 ∷ 0 ∷ 0 ∷ 0 ∷ 0 ∷ 0 ∷ 0 ∷ []) ∷ [])
unfolding digit packed
br_2_if_if_loop = refl

br_3_if_if_loop : map (ends 12 ((Then (If (Const32 1) (Then (point 1) (Then (Then (If (Const32 1) (Then (point 2) (Then (Then (Loop (Then (point 3) (Then (Then (If (Local 0) (Then (Set 0 (Two (Of I32 Sub) (Local 0) (Const32 1))) (Br 3)) (point 10)) (point 11)) (point 6)))) (point 9)) (point 5))) Skip) (point 8)) (point 4))) Skip) (point 7)) ∷ [])) ((0 ∷ 0 ∷ []) ∷ (1 ∷ 0 ∷ []) ∷ (2 ∷ 0 ∷ []) ∷ []) ≡ ((0 ∷ 0 ∷ 1 ∷ 2 ∷ 3 ∷ 10 ∷ 11 ∷ 6 ∷ 9 ∷ 5 ∷ 8 ∷ 4 ∷ 7 ∷ 0 ∷ []) ∷ (0 ∷ 0 ∷ 1 ∷ 2 ∷ 3 ∷ 7 ∷ 0 ∷ 0 ∷ 0 ∷ 0 ∷ 0 ∷ 0 ∷ 0 ∷ 0 ∷ []) ∷ (0 ∷ 0 ∷ 1 ∷ 2 ∷ 3 ∷ 7 ∷ 0 ∷ 0 ∷ 0 ∷ 0 ∷ 0 ∷ 0 ∷ 0 ∷ 0 ∷ []) ∷ [])
unfolding digit packed
br_3_if_if_loop = refl

br_4_if_if_loop : map (ends 12 ((Then (If (Const32 1) (Then (point 1) (Then (Then (If (Const32 1) (Then (point 2) (Then (Then (Loop (Then (point 3) (Then (Then (If (Local 0) (Then (Set 0 (Two (Of I32 Sub) (Local 0) (Const32 1))) (Br 4)) (point 10)) (point 11)) (point 6)))) (point 9)) (point 5))) Skip) (point 8)) (point 4))) Skip) (point 7)) ∷ [])) ((0 ∷ 0 ∷ []) ∷ (1 ∷ 0 ∷ []) ∷ (2 ∷ 0 ∷ []) ∷ []) ≡ ((0 ∷ 0 ∷ 1 ∷ 2 ∷ 3 ∷ 10 ∷ 11 ∷ 6 ∷ 9 ∷ 5 ∷ 8 ∷ 4 ∷ 7 ∷ 0 ∷ []) ∷ (0 ∷ 0 ∷ 1 ∷ 2 ∷ 3 ∷ 0 ∷ 0 ∷ 0 ∷ 0 ∷ 0 ∷ 0 ∷ 0 ∷ 0 ∷ 0 ∷ []) ∷ (0 ∷ 0 ∷ 1 ∷ 2 ∷ 3 ∷ 0 ∷ 0 ∷ 0 ∷ 0 ∷ 0 ∷ 0 ∷ 0 ∷ 0 ∷ 0 ∷ []) ∷ [])
unfolding digit packed
br_4_if_if_loop = refl

br_table_if_if_loop : map (ends 13 ((Then (If (Const32 1) (Then (point 1) (Then (Then (If (Const32 1) (Then (point 2) (Then (Then (Loop (Then (point 3) (Then (Then (If (Local 0) (Then (Set 0 (Two (Of I32 Sub) (Local 0) (Const32 1))) (BrTable (0 ∷ 3 ∷ 2 ∷ 1 ∷ []) 4 (Local 1))) (point 10)) (point 11)) (point 6)))) (point 9)) (point 5))) Skip) (point 8)) (point 4))) Skip) (point 7)) ∷ [])) ((1 ∷ 0 ∷ []) ∷ (1 ∷ 1 ∷ []) ∷ (1 ∷ 2 ∷ []) ∷ (1 ∷ 3 ∷ []) ∷ (1 ∷ 4 ∷ []) ∷ (1 ∷ 4294967295 ∷ []) ∷ []) ≡ ((0 ∷ 0 ∷ 1 ∷ 2 ∷ 3 ∷ 11 ∷ 6 ∷ 9 ∷ 5 ∷ 8 ∷ 4 ∷ 7 ∷ 0 ∷ 0 ∷ 0 ∷ []) ∷ (0 ∷ 0 ∷ 1 ∷ 2 ∷ 3 ∷ 7 ∷ 0 ∷ 0 ∷ 0 ∷ 0 ∷ 0 ∷ 0 ∷ 0 ∷ 0 ∷ 0 ∷ []) ∷ (0 ∷ 0 ∷ 1 ∷ 2 ∷ 3 ∷ 8 ∷ 4 ∷ 7 ∷ 0 ∷ 0 ∷ 0 ∷ 0 ∷ 0 ∷ 0 ∷ 0 ∷ []) ∷ (0 ∷ 0 ∷ 1 ∷ 2 ∷ 3 ∷ 3 ∷ 10 ∷ 11 ∷ 6 ∷ 9 ∷ 5 ∷ 8 ∷ 4 ∷ 7 ∷ 0 ∷ []) ∷ (0 ∷ 0 ∷ 1 ∷ 2 ∷ 3 ∷ 0 ∷ 0 ∷ 0 ∷ 0 ∷ 0 ∷ 0 ∷ 0 ∷ 0 ∷ 0 ∷ 0 ∷ []) ∷ (0 ∷ 0 ∷ 1 ∷ 2 ∷ 3 ∷ 0 ∷ 0 ∷ 0 ∷ 0 ∷ 0 ∷ 0 ∷ 0 ∷ 0 ∷ 0 ∷ 0 ∷ []) ∷ [])
unfolding digit packed
br_table_if_if_loop = refl

br_0_if_if_if : map (ends 12 ((Then (If (Const32 1) (Then (point 1) (Then (Then (If (Const32 1) (Then (point 2) (Then (Then (If (Const32 1) (Then (point 3) (Then (Then (If (Local 0) (Then (Set 0 (Two (Of I32 Sub) (Local 0) (Const32 1))) (Br 0)) (point 10)) (point 11)) (point 6))) Skip) (point 9)) (point 5))) Skip) (point 8)) (point 4))) Skip) (point 7)) ∷ [])) ((0 ∷ 0 ∷ []) ∷ (1 ∷ 0 ∷ []) ∷ (2 ∷ 0 ∷ []) ∷ []) ≡ ((0 ∷ 0 ∷ 1 ∷ 2 ∷ 3 ∷ 10 ∷ 11 ∷ 6 ∷ 9 ∷ 5 ∷ 8 ∷ 4 ∷ 7 ∷ 0 ∷ []) ∷ (0 ∷ 0 ∷ 1 ∷ 2 ∷ 3 ∷ 11 ∷ 6 ∷ 9 ∷ 5 ∷ 8 ∷ 4 ∷ 7 ∷ 0 ∷ 0 ∷ []) ∷ (0 ∷ 0 ∷ 1 ∷ 2 ∷ 3 ∷ 11 ∷ 6 ∷ 9 ∷ 5 ∷ 8 ∷ 4 ∷ 7 ∷ 0 ∷ 0 ∷ []) ∷ [])
unfolding digit packed
br_0_if_if_if = refl

br_1_if_if_if : map (ends 12 ((Then (If (Const32 1) (Then (point 1) (Then (Then (If (Const32 1) (Then (point 2) (Then (Then (If (Const32 1) (Then (point 3) (Then (Then (If (Local 0) (Then (Set 0 (Two (Of I32 Sub) (Local 0) (Const32 1))) (Br 1)) (point 10)) (point 11)) (point 6))) Skip) (point 9)) (point 5))) Skip) (point 8)) (point 4))) Skip) (point 7)) ∷ [])) ((0 ∷ 0 ∷ []) ∷ (1 ∷ 0 ∷ []) ∷ (2 ∷ 0 ∷ []) ∷ []) ≡ ((0 ∷ 0 ∷ 1 ∷ 2 ∷ 3 ∷ 10 ∷ 11 ∷ 6 ∷ 9 ∷ 5 ∷ 8 ∷ 4 ∷ 7 ∷ 0 ∷ []) ∷ (0 ∷ 0 ∷ 1 ∷ 2 ∷ 3 ∷ 9 ∷ 5 ∷ 8 ∷ 4 ∷ 7 ∷ 0 ∷ 0 ∷ 0 ∷ 0 ∷ []) ∷ (0 ∷ 0 ∷ 1 ∷ 2 ∷ 3 ∷ 9 ∷ 5 ∷ 8 ∷ 4 ∷ 7 ∷ 0 ∷ 0 ∷ 0 ∷ 0 ∷ []) ∷ [])
unfolding digit packed
br_1_if_if_if = refl

br_2_if_if_if : map (ends 12 ((Then (If (Const32 1) (Then (point 1) (Then (Then (If (Const32 1) (Then (point 2) (Then (Then (If (Const32 1) (Then (point 3) (Then (Then (If (Local 0) (Then (Set 0 (Two (Of I32 Sub) (Local 0) (Const32 1))) (Br 2)) (point 10)) (point 11)) (point 6))) Skip) (point 9)) (point 5))) Skip) (point 8)) (point 4))) Skip) (point 7)) ∷ [])) ((0 ∷ 0 ∷ []) ∷ (1 ∷ 0 ∷ []) ∷ (2 ∷ 0 ∷ []) ∷ []) ≡ ((0 ∷ 0 ∷ 1 ∷ 2 ∷ 3 ∷ 10 ∷ 11 ∷ 6 ∷ 9 ∷ 5 ∷ 8 ∷ 4 ∷ 7 ∷ 0 ∷ []) ∷ (0 ∷ 0 ∷ 1 ∷ 2 ∷ 3 ∷ 8 ∷ 4 ∷ 7 ∷ 0 ∷ 0 ∷ 0 ∷ 0 ∷ 0 ∷ 0 ∷ []) ∷ (0 ∷ 0 ∷ 1 ∷ 2 ∷ 3 ∷ 8 ∷ 4 ∷ 7 ∷ 0 ∷ 0 ∷ 0 ∷ 0 ∷ 0 ∷ 0 ∷ []) ∷ [])
unfolding digit packed
br_2_if_if_if = refl

br_3_if_if_if : map (ends 12 ((Then (If (Const32 1) (Then (point 1) (Then (Then (If (Const32 1) (Then (point 2) (Then (Then (If (Const32 1) (Then (point 3) (Then (Then (If (Local 0) (Then (Set 0 (Two (Of I32 Sub) (Local 0) (Const32 1))) (Br 3)) (point 10)) (point 11)) (point 6))) Skip) (point 9)) (point 5))) Skip) (point 8)) (point 4))) Skip) (point 7)) ∷ [])) ((0 ∷ 0 ∷ []) ∷ (1 ∷ 0 ∷ []) ∷ (2 ∷ 0 ∷ []) ∷ []) ≡ ((0 ∷ 0 ∷ 1 ∷ 2 ∷ 3 ∷ 10 ∷ 11 ∷ 6 ∷ 9 ∷ 5 ∷ 8 ∷ 4 ∷ 7 ∷ 0 ∷ []) ∷ (0 ∷ 0 ∷ 1 ∷ 2 ∷ 3 ∷ 7 ∷ 0 ∷ 0 ∷ 0 ∷ 0 ∷ 0 ∷ 0 ∷ 0 ∷ 0 ∷ []) ∷ (0 ∷ 0 ∷ 1 ∷ 2 ∷ 3 ∷ 7 ∷ 0 ∷ 0 ∷ 0 ∷ 0 ∷ 0 ∷ 0 ∷ 0 ∷ 0 ∷ []) ∷ [])
unfolding digit packed
br_3_if_if_if = refl

br_4_if_if_if : map (ends 12 ((Then (If (Const32 1) (Then (point 1) (Then (Then (If (Const32 1) (Then (point 2) (Then (Then (If (Const32 1) (Then (point 3) (Then (Then (If (Local 0) (Then (Set 0 (Two (Of I32 Sub) (Local 0) (Const32 1))) (Br 4)) (point 10)) (point 11)) (point 6))) Skip) (point 9)) (point 5))) Skip) (point 8)) (point 4))) Skip) (point 7)) ∷ [])) ((0 ∷ 0 ∷ []) ∷ (1 ∷ 0 ∷ []) ∷ (2 ∷ 0 ∷ []) ∷ []) ≡ ((0 ∷ 0 ∷ 1 ∷ 2 ∷ 3 ∷ 10 ∷ 11 ∷ 6 ∷ 9 ∷ 5 ∷ 8 ∷ 4 ∷ 7 ∷ 0 ∷ []) ∷ (0 ∷ 0 ∷ 1 ∷ 2 ∷ 3 ∷ 0 ∷ 0 ∷ 0 ∷ 0 ∷ 0 ∷ 0 ∷ 0 ∷ 0 ∷ 0 ∷ []) ∷ (0 ∷ 0 ∷ 1 ∷ 2 ∷ 3 ∷ 0 ∷ 0 ∷ 0 ∷ 0 ∷ 0 ∷ 0 ∷ 0 ∷ 0 ∷ 0 ∷ []) ∷ [])
unfolding digit packed
br_4_if_if_if = refl

br_table_if_if_if : map (ends 11 ((Then (If (Const32 1) (Then (point 1) (Then (Then (If (Const32 1) (Then (point 2) (Then (Then (If (Const32 1) (Then (point 3) (Then (Then (If (Local 0) (Then (Set 0 (Two (Of I32 Sub) (Local 0) (Const32 1))) (BrTable (0 ∷ 3 ∷ 2 ∷ 1 ∷ []) 4 (Local 1))) (point 10)) (point 11)) (point 6))) Skip) (point 9)) (point 5))) Skip) (point 8)) (point 4))) Skip) (point 7)) ∷ [])) ((1 ∷ 0 ∷ []) ∷ (1 ∷ 1 ∷ []) ∷ (1 ∷ 2 ∷ []) ∷ (1 ∷ 3 ∷ []) ∷ (1 ∷ 4 ∷ []) ∷ (1 ∷ 4294967295 ∷ []) ∷ []) ≡ ((0 ∷ 0 ∷ 1 ∷ 2 ∷ 3 ∷ 11 ∷ 6 ∷ 9 ∷ 5 ∷ 8 ∷ 4 ∷ 7 ∷ 0 ∷ []) ∷ (0 ∷ 0 ∷ 1 ∷ 2 ∷ 3 ∷ 7 ∷ 0 ∷ 0 ∷ 0 ∷ 0 ∷ 0 ∷ 0 ∷ 0 ∷ []) ∷ (0 ∷ 0 ∷ 1 ∷ 2 ∷ 3 ∷ 8 ∷ 4 ∷ 7 ∷ 0 ∷ 0 ∷ 0 ∷ 0 ∷ 0 ∷ []) ∷ (0 ∷ 0 ∷ 1 ∷ 2 ∷ 3 ∷ 9 ∷ 5 ∷ 8 ∷ 4 ∷ 7 ∷ 0 ∷ 0 ∷ 0 ∷ []) ∷ (0 ∷ 0 ∷ 1 ∷ 2 ∷ 3 ∷ 0 ∷ 0 ∷ 0 ∷ 0 ∷ 0 ∷ 0 ∷ 0 ∷ 0 ∷ []) ∷ (0 ∷ 0 ∷ 1 ∷ 2 ∷ 3 ∷ 0 ∷ 0 ∷ 0 ∷ 0 ∷ 0 ∷ 0 ∷ 0 ∷ 0 ∷ []) ∷ [])
unfolding digit packed
br_table_if_if_if = refl
