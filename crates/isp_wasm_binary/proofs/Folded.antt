-- The bytes of folded code are those of its instructions, one after the other.
use Rattle.std.proofs.Common.{◌≡◌, ℕ, ◌+◌, ◌%◌, ◌^◌, Bool, true, false, List, [], ◌∷◌, ◌++◌, Option, Some, None, refl, ap, ap₂, ◌∙◌, append-nil}
use Rattle.std.specs.Prelude.{slice_index}
use Rattle.std.specs.List.{flat_map}
use Rattle.std.proofs.lemmas.Grind.{flat_map-append}
use Rattle.std.proofs.Math.Nat.{mod-lt, mod-mod}
use Rattle.std.proofs.lemmas.Nat.{pow_pos}
use Rattle.isp_wasm_meaning.specs.Syntax.{Binary, Of, BitsOf, ShiftOf, Compare, Lanes, CompareLanes, ShiftLanes, Bits, Replace, Shuffle, Expr, Const32, Const64, Const128, Local, One, Two, Select, Bitselect}
use Rattle.isp_wasm_meaning.specs.Syntax.{Code, Skip, Then, Set, Load, Store, Divide, If, Block, Loop, Br, BrTable, Return, Unreachable, Call, Write, Fail, Print, GetGlobal, SetGlobal, Clear}
use Rattle.isp_wasm_binary.specs.Numbers.{u32, signed_groups, i32, i64, low_bytes, v128}
use Rattle.isp_wasm_binary.specs.Operators.{binary_bytes}
use Rattle.isp_wasm_binary.specs.Instructions.{Word, Const32_word, Const64_word, Const128_word, Get_word, Set_word, Unary_word, Binary_word, Division_word, Select_word, Bitselect_word, Load_word, Store_word}
use Rattle.isp_wasm_binary.specs.Instructions.{Block_word, Loop_word, If_word, Else_word, End_word, Br_word, BrTable_word, Return_word, Call_word, Unreachable_word, GetGlobal_word, SetGlobal_word, Fill_word, word_bytes, access, is_nothing, host_write, host_trap, host_print, hosts}
use Rattle.isp_wasm_binary.specs.Instructions.{expr_bytes, result_bytes, returned_bytes, else_bytes, code_bytes}
use Rattle.isp_wasm_binary.specs.Same.{sixteen, expr_words, result_words, returned_words, else_words, code_words}
use Rattle.isp_wasm_binary.proofs.ReadWords.{IsWord, AllWords}

pub same_i32 : (n : ℕ) → i32 (n % 2 ^ 32) ≡ i32 n
unfolding i32
same_i32 n = ap (signed_groups 4 32) (mod-mod n (2 ^ 32))

pub same_i64 : (n : ℕ) → i64 (n % 2 ^ 64) ≡ i64 n
unfolding i64
same_i64 n = ap (signed_groups 9 64) (mod-mod n (2 ^ 64))

pub same_v128 : (n : ℕ) → v128 (n % 2 ^ 128) ≡ v128 n
unfolding v128
same_v128 n = ap (low_bytes 16) (mod-mod n (2 ^ 128))

sixteen_bytes : (o : Binary) → binary_bytes (sixteen o) ≡ binary_bytes o
sixteen_bytes (Shuffle cs) = refl
sixteen_bytes (Of t o) = refl
sixteen_bytes (BitsOf t o) = refl
sixteen_bytes (ShiftOf t o) = refl
sixteen_bytes (Compare t o) = refl
sixteen_bytes (Lanes s o) = refl
sixteen_bytes (CompareLanes s o) = refl
sixteen_bytes (ShiftLanes s o) = refl
sixteen_bytes (Bits o) = refl
sixteen_bytes (Replace s k) = refl

abbrev flat : List Word → List ℕ
flat ws = flat_map word_bytes ws

join : (ws vs : List Word) (a b : List ℕ) → flat ws ≡ a → flat vs ≡ b → flat (ws ++ vs) ≡ a ++ b
join ws vs a b e f = flat_map-append word_bytes ws vs ∙ ap₂ (λ x y. x ++ y) e f

one : (w : Word) (a : List ℕ) → word_bytes w ≡ a → flat (w ∷ []) ≡ a
one w a e = append-nil (word_bytes w) ∙ e

front : (w : Word) (a b : List ℕ) → a ≡ b → word_bytes w ++ a ≡ word_bytes w ++ b
front w a b e = ap (λ t. word_bytes w ++ t) e

const : (n : ℕ) → word_bytes (Const32_word (n % 2 ^ 32)) ≡ word_bytes (Const32_word n)
const n = ap (λ t. 0x41 ∷ t) (same_i32 n)

expr_flat : (e : Expr) → flat (expr_words e) ≡ expr_bytes e
expr_flat (Const32 n) = one (Const32_word (n % 2 ^ 32)) _ (const n)
expr_flat (Const64 n) = one (Const64_word (n % 2 ^ 64)) _ (ap (λ t. 0x42 ∷ t) (same_i64 n))
expr_flat (Const128 n) = one (Const128_word (n % 2 ^ 128)) _ (ap (λ t. 0xFD ∷ (u32 12 ++ t)) (same_v128 n))
expr_flat (Local x) = one (Get_word x) _ refl
expr_flat (One o x) = join (expr_words x) _ _ _ (expr_flat x) (one (Unary_word o) _ refl)
expr_flat (Two o x y) = join (expr_words x) _ _ _ (expr_flat x) (join (expr_words y) _ _ _ (expr_flat y) (one (Binary_word (sixteen o)) _ (sixteen_bytes o)))
expr_flat (Select c x y) = join (expr_words x) _ _ _ (expr_flat x) (join (expr_words y) _ _ _ (expr_flat y) (join (expr_words c) _ _ _ (expr_flat c) (one Select_word _ refl)))
expr_flat (Bitselect x y c) = join (expr_words x) _ _ _ (expr_flat x) (join (expr_words y) _ _ _ (expr_flat y) (join (expr_words c) _ _ _ (expr_flat c) (one Bitselect_word _ refl)))

exprs_flat : (xs : List Expr) → flat (flat_map expr_words xs) ≡ flat_map expr_bytes xs
exprs_flat [] = refl
exprs_flat (x ∷ xs) = join (expr_words x) _ _ _ (expr_flat x) (exprs_flat xs)

result_flat : (x : Option ℕ) → flat (result_words x) ≡ result_bytes x
result_flat None = refl
result_flat (Some x) = one (Set_word x) _ refl

returned_flat : (x : Option Expr) → flat (returned_words x) ≡ returned_bytes x
returned_flat None = one Return_word _ refl
returned_flat (Some x) = join (expr_words x) _ _ _ (expr_flat x) (one Return_word _ refl)

else_flat : (b : Bool) (ws : List Word) (a : List ℕ) → flat ws ≡ a → flat (else_words b ws) ≡ else_bytes b a
else_flat true ws a e = refl
else_flat false ws a e = front Else_word _ _ e

pub code_flat : (c : Code) → flat (code_words c) ≡ code_bytes c
code_flat Skip = refl
code_flat (Then a b) = join (code_words a) _ _ _ (code_flat a) (code_flat b)
code_flat (Set x e) = join (expr_words e) _ _ _ (expr_flat e) (one (Set_word x) _ refl)
code_flat (Load n x a o) = join (expr_words a) _ _ _ (expr_flat a) (front (Load_word (access n) o) _ _ (one (Set_word x) _ refl))
code_flat (Store n a o e) = join (expr_words a) _ _ _ (expr_flat a) (join (expr_words e) _ _ _ (expr_flat e) (one (Store_word (access n) o) _ refl))
code_flat (Divide t o x a b) =
    join (expr_words a) _ _ _ (expr_flat a) (join (expr_words b) _ _ _ (expr_flat b) (front (Division_word t o) _ _ (one (Set_word x) _ refl)))
code_flat (If c a b) =
    join (expr_words c) _ _ _ (expr_flat c) (front If_word _ _
    (join (code_words a) _ _ _ (code_flat a) (join (else_words (is_nothing b) (code_words b)) _ _ _ (else_flat (is_nothing b) _ _ (code_flat b)) (one End_word _ refl))))
code_flat (Block a) = front Block_word _ _ (join (code_words a) _ _ _ (code_flat a) (one End_word _ refl))
code_flat (Loop a) = front Loop_word _ _ (join (code_words a) _ _ _ (code_flat a) (one End_word _ refl))
code_flat (Br k) = one (Br_word k) _ refl
code_flat (BrTable ks k c) = join (expr_words c) _ _ _ (expr_flat c) (one (BrTable_word ks k) _ refl)
code_flat (Return x) = returned_flat x
code_flat Unreachable = one Unreachable_word _ refl
code_flat (Call f xs x) = join (flat_map expr_words xs) _ _ _ (exprs_flat xs) (front (Call_word (hosts + f)) _ _ (result_flat x))
code_flat (Write a n) = join (expr_words a) _ _ _ (expr_flat a) (join (expr_words n) _ _ _ (expr_flat n) (one (Call_word host_write) _ refl))
code_flat (Fail k a b p) =
    ap₂ (λ x y. x ++ y) (const k) (ap₂ (λ x y. x ++ y) (const a) (ap₂ (λ x y. x ++ y) (const b)
    (join (expr_words p) _ _ _ (expr_flat p) (front (Call_word host_trap) _ _ (one Unreachable_word _ refl)))))
code_flat (Print o e) = join (expr_words e) _ _ _ (expr_flat e) (one (Call_word (host_print o)) _ refl)
code_flat (GetGlobal x g) = front (GetGlobal_word g) _ _ (one (Set_word x) _ refl)
code_flat (SetGlobal g e) = join (expr_words e) _ _ _ (expr_flat e) (one (SetGlobal_word g) _ refl)
code_flat (Clear a n) = join (expr_words a) _ _ _ (expr_flat a) (ap₂ (λ x y. x ++ y) (const 0) (join (expr_words n) _ _ _ (expr_flat n) (one Fill_word _ refl)))

-- ---- its numbers are within their bits

both : (ws vs : List Word) → AllWords ws → AllWords vs → AllWords (ws ++ vs)
both [] vs h k = k
both (w ∷ ws) vs h k = (h.0, both ws vs h.1 k)

sixteen_is : (o : Binary) → IsWord (Binary_word (sixteen o))
sixteen_is (Shuffle cs) = (slice_index cs, refl)
sixteen_is (Of t o) = tt
sixteen_is (BitsOf t o) = tt
sixteen_is (ShiftOf t o) = tt
sixteen_is (Compare t o) = tt
sixteen_is (Lanes s o) = tt
sixteen_is (CompareLanes s o) = tt
sixteen_is (ShiftLanes s o) = tt
sixteen_is (Bits o) = tt
sixteen_is (Replace s k) = tt

expr_all : (e : Expr) → AllWords (expr_words e)
expr_all (Const32 n) = (mod-lt n (pow_pos 32), tt)
expr_all (Const64 n) = (mod-lt n (pow_pos 64), tt)
expr_all (Const128 n) = (mod-lt n (pow_pos 128), tt)
expr_all (Local x) = (tt, tt)
expr_all (One o x) = both (expr_words x) _ (expr_all x) (tt, tt)
expr_all (Two o x y) = both (expr_words x) _ (expr_all x) (both (expr_words y) _ (expr_all y) (sixteen_is o, tt))
expr_all (Select c x y) = both (expr_words x) _ (expr_all x) (both (expr_words y) _ (expr_all y) (both (expr_words c) _ (expr_all c) (tt, tt)))
expr_all (Bitselect x y c) = both (expr_words x) _ (expr_all x) (both (expr_words y) _ (expr_all y) (both (expr_words c) _ (expr_all c) (tt, tt)))

exprs_all : (xs : List Expr) → AllWords (flat_map expr_words xs)
exprs_all [] = tt
exprs_all (x ∷ xs) = both (expr_words x) _ (expr_all x) (exprs_all xs)

result_all : (x : Option ℕ) → AllWords (result_words x)
result_all None = tt
result_all (Some x) = (tt, tt)

returned_all : (x : Option Expr) → AllWords (returned_words x)
returned_all None = (tt, tt)
returned_all (Some x) = both (expr_words x) _ (expr_all x) (tt, tt)

else_all : (b : Bool) (ws : List Word) → AllWords ws → AllWords (else_words b ws)
else_all true ws h = tt
else_all false ws h = (tt, h)

pub code_all : (c : Code) → AllWords (code_words c)
code_all Skip = tt
code_all (Then a b) = both (code_words a) _ (code_all a) (code_all b)
code_all (Set x e) = both (expr_words e) _ (expr_all e) (tt, tt)
code_all (Load n x a o) = both (expr_words a) _ (expr_all a) (tt, (tt, tt))
code_all (Store n a o e) = both (expr_words a) _ (expr_all a) (both (expr_words e) _ (expr_all e) (tt, tt))
code_all (Divide t o x a b) = both (expr_words a) _ (expr_all a) (both (expr_words b) _ (expr_all b) (tt, (tt, tt)))
code_all (If c a b) =
    both (expr_words c) _ (expr_all c) (tt, both (code_words a) _ (code_all a) (both (else_words (is_nothing b) (code_words b)) _ (else_all (is_nothing b) _ (code_all b)) (tt, tt)))
code_all (Block a) = (tt, both (code_words a) _ (code_all a) (tt, tt))
code_all (Loop a) = (tt, both (code_words a) _ (code_all a) (tt, tt))
code_all (Br k) = (tt, tt)
code_all (BrTable ks k c) = both (expr_words c) _ (expr_all c) (tt, tt)
code_all (Return x) = returned_all x
code_all Unreachable = (tt, tt)
code_all (Call f xs x) = both (flat_map expr_words xs) _ (exprs_all xs) (tt, result_all x)
code_all (Write a n) = both (expr_words a) _ (expr_all a) (both (expr_words n) _ (expr_all n) (tt, tt))
code_all (Fail k a b p) =
    (mod-lt k (pow_pos 32), (mod-lt a (pow_pos 32), (mod-lt b (pow_pos 32), both (expr_words p) _ (expr_all p) (tt, (tt, tt)))))
code_all (Print o e) = both (expr_words e) _ (expr_all e) (tt, tt)
code_all (GetGlobal x g) = (tt, (tt, tt))
code_all (SetGlobal g e) = both (expr_words e) _ (expr_all e) (tt, tt)
code_all (Clear a n) = both (expr_words a) _ (expr_all a) (mod-lt 0 (pow_pos 32), both (expr_words n) _ (expr_all n) (tt, tt))
