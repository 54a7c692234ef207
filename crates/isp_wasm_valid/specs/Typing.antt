-- Which instructions are valid, one after the other: chapter 3.3 of the core specification of WebAssembly 2.0.
--     IsTyped    an instruction takes these values from the stack, and gives those
--     AreTyped   instructions make one stack of another
use Rattle.std.specs.Prelude.{◌≡◌, ℕ, ◌^◌, ◌<◌, List, [], ◌∷◌, ◌++◌, Option, Some, None, true, slice_get}
use Rattle.isp_wasm_meaning.specs.Syntax.{Size, Division, Unary, Binary}
use Rattle.isp_wasm_meaning.specs.Module.{ValueType, I32, I64, V128}
use Rattle.isp_wasm_meaning.specs.Valid.{sized, taken, given, is_unary, first_taken, second_taken, given_by, is_binary}
use Rattle.isp_wasm_binary.specs.Modules.{FuncType, Global}
use Rattle.isp_wasm_binary.specs.Instructions.{Access, Bytes1, Bytes2, Bytes4, Bytes8, Bytes16, NoAccess, Word, Const32_word, Const64_word, Const128_word, Get_word, Set_word, Unary_word, Binary_word, Division_word, Select_word, Bitselect_word, Load_word, Store_word}
use Rattle.isp_wasm_binary.specs.Instructions.{Block_word, Loop_word, If_word, Else_word, End_word, Br_word, BrTable_word, Return_word, Call_word, Unreachable_word, GetGlobal_word, SetGlobal_word, Fill_word}

-- 3.1.1 what instructions find: functions, the host's first, globals, locals, and what the function gives back. There is a memory.
pub record Context : Type 0 where
  pub functions : List FuncType
  pub globals : List Global
  pub locals : List ValueType
  pub back : List ValueType

-- a stack, its top first, with these values pushed in their order
abbrev pub onto : List ValueType → List ValueType → List ValueType
onto [] st = st
onto (t ∷ ts) st = onto ts (t ∷ st)

-- 3.3.7 what is loaded and stored by so many bytes; the address is aligned to as many
abbrev pub held_by : Access → Option ValueType
held_by Bytes1 = Some I32
held_by Bytes2 = Some I32
held_by Bytes4 = Some I32
held_by Bytes8 = Some I64
held_by Bytes16 = Some V128
held_by (NoAccess n) = None

module _ (c : Context) where
  pub data IsTyped : Word → List ValueType → List ValueType → Type 0 where
    -- 3.3.1 numeric, 3.3.3 vector instructions
    const32 : (n : ℕ) → IsTyped (Const32_word n) [] (I32 ∷ [])
    const64 : (n : ℕ) → IsTyped (Const64_word n) [] (I64 ∷ [])
    const128 : (n : ℕ) → IsTyped (Const128_word n) [] (V128 ∷ [])
    unary : (o : Unary) → is_unary o ≡ true → IsTyped (Unary_word o) (taken o ∷ []) (given o ∷ [])
    binary : (o : Binary) → is_binary o ≡ true → IsTyped (Binary_word o) (first_taken o ∷ second_taken o ∷ []) (given_by o ∷ [])
    division : (t : Size) (o : Division) → IsTyped (Division_word t o) (sized t ∷ sized t ∷ []) (sized t ∷ [])
    bitselect : IsTyped Bitselect_word (V128 ∷ V128 ∷ V128 ∷ []) (V128 ∷ [])
    -- 3.3.4 parametric
    select : (t : ValueType) → IsTyped Select_word (t ∷ t ∷ I32 ∷ []) (t ∷ [])
    -- 3.3.5 variable: a global that is set is one that changes
    get : (x : ℕ) (t : ValueType) → slice_get c.locals x ≡ Some t → IsTyped (Get_word x) [] (t ∷ [])
    set : (x : ℕ) (t : ValueType) → slice_get c.locals x ≡ Some t → IsTyped (Set_word x) (t ∷ []) []
    get_global : (x : ℕ) (g : Global) → slice_get c.globals x ≡ Some g → IsTyped (GetGlobal_word x) [] (g.type ∷ [])
    set_global : (x : ℕ) (g : Global) → slice_get c.globals x ≡ Some g → g.changes ≡ true → IsTyped (SetGlobal_word x) (g.type ∷ []) []
    -- 3.3.7 memory
    load : (a : Access) (o : ℕ) (t : ValueType) → held_by a ≡ Some t → o < 2 ^ 32 → IsTyped (Load_word a o) (I32 ∷ []) (t ∷ [])
    store : (a : Access) (o : ℕ) (t : ValueType) → held_by a ≡ Some t → o < 2 ^ 32 → IsTyped (Store_word a o) (I32 ∷ t ∷ []) []
    fill : IsTyped Fill_word (I32 ∷ I32 ∷ I32 ∷ []) []
    -- 3.3.8 control
    call : (f : ℕ) (g : FuncType) → slice_get c.functions f ≡ Some g → IsTyped (Call_word f) g.params g.results

  -- From one stack to another. What goes with a branch to each label is told by ls, the innermost first: to the end of a block or to the
  -- beginning of a loop nothing, since a block has the empty type.
  pub data AreTyped : List (List ValueType) → List Word → (from to : List ValueType) → Type 0 where
    -- 3.3.9 none; one, and those after it
    none : {ls : List (List ValueType)} {st : List ValueType} → AreTyped ls [] st st
    next : {ls : List (List ValueType)} {w : Word} {ws : List Word} {takes gives to : List ValueType} (st : List ValueType)
        → IsTyped w takes gives → AreTyped ls ws (onto gives st) to → AreTyped ls (w ∷ ws) (onto takes st) to
    -- 3.3.8 in a block, a loop, an if nothing of the stack is there, and nothing is left
    block : {ls : List (List ValueType)} {inside ws : List Word} {st to : List ValueType}
        → AreTyped ([] ∷ ls) inside [] [] → AreTyped ls ws st to → AreTyped ls (Block_word ∷ (inside ++ End_word ∷ ws)) st to
    loop : {ls : List (List ValueType)} {inside ws : List Word} {st to : List ValueType}
        → AreTyped ([] ∷ ls) inside [] [] → AreTyped ls ws st to → AreTyped ls (Loop_word ∷ (inside ++ End_word ∷ ws)) st to
    if_then : {ls : List (List ValueType)} {inside ws : List Word} {st to : List ValueType}
        → AreTyped ([] ∷ ls) inside [] [] → AreTyped ls ws st to → AreTyped ls (If_word ∷ (inside ++ End_word ∷ ws)) (I32 ∷ st) to
    if_else : {ls : List (List ValueType)} {inside other ws : List Word} {st to : List ValueType}
        → AreTyped ([] ∷ ls) inside [] [] → AreTyped ([] ∷ ls) other [] [] → AreTyped ls ws st to
        → AreTyped ls (If_word ∷ (inside ++ Else_word ∷ (other ++ End_word ∷ ws))) (I32 ∷ st) to
    -- 3.3.8 after these the stack is any
    unreachable : {ls : List (List ValueType)} {ws : List Word} {any to : List ValueType} (st : List ValueType)
        → AreTyped ls ws any to → AreTyped ls (Unreachable_word ∷ ws) st to
    br : {ls : List (List ValueType)} {k : ℕ} {ws : List Word} {ts any to : List ValueType} (st : List ValueType)
        → slice_get ls k ≡ Some ts → AreTyped ls ws any to → AreTyped ls (Br_word k ∷ ws) (onto ts st) to
    br_table : {ls : List (List ValueType)} {ks : List ℕ} {k : ℕ} {ws : List Word} {ts any to : List ValueType} (st : List ValueType)
        → ((i l : ℕ) → slice_get ks i ≡ Some l → slice_get ls l ≡ Some ts) → slice_get ls k ≡ Some ts
        → AreTyped ls ws any to → AreTyped ls (BrTable_word ks k ∷ ws) (I32 ∷ onto ts st) to
    return : {ls : List (List ValueType)} {ws : List Word} {any to : List ValueType} (st : List ValueType)
        → AreTyped ls ws any to → AreTyped ls (Return_word ∷ ws) (onto c.back st) to
