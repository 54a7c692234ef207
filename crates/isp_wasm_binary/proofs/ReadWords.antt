-- Instructions are read back from their bytes.
use Rattle.std.proofs.Common.{◌≡◌, ℕ, zero, suc, ◌^◌, ◌<◌, Bool, true, false, List, [], ◌∷◌, ◌++◌, Option, Some, None, length, refl, sym, ap, ap₂, ◌∙◌, append_assoc, subst}
use Rattle.std.specs.Prelude.{nat_eq}
use Rattle.std.specs.List.{flat_map}
use Rattle.isp_wasm_meaning.specs.Lists.{listed}
use Rattle.isp_wasm_meaning.specs.Syntax.{Shape, I8x16, I16x8, I32x4, I64x2, Size, I32, I64, Whole, Add, Sub, Mul, Bitwise, And, Or, Xor, Shift, Shl, ShrU, ShrS, Test, Eq, Ne, LtU, LtS, Division, DivU, RemU}
use Rattle.isp_wasm_meaning.specs.Syntax.{Unary, Eqz, Ctz, Wrap, ExtendU, ExtendS, Extend8S, Extend16S, Splat, Extract, ExtendLow, ExtendHigh, Bitmask}
use Rattle.isp_wasm_meaning.specs.Syntax.{Binary, Of, BitsOf, ShiftOf, Compare, Lanes, CompareLanes, ShiftLanes, Bits, Replace, Shuffle}
use Rattle.isp_wasm_binary.specs.Numbers.{groups, u32}
use Rattle.isp_wasm_binary.specs.Instructions.{Access, Bytes1, Bytes2, Bytes4, Bytes8, Bytes16, NoAccess, Word, Const32_word, Const64_word, Const128_word, Get_word, Set_word, Unary_word, Binary_word, Division_word, Select_word, Bitselect_word, Load_word, Store_word}
use Rattle.isp_wasm_binary.specs.Instructions.{Block_word, Loop_word, If_word, Else_word, End_word, Br_word, BrTable_word, Return_word, Call_word, Unreachable_word, GetGlobal_word, SetGlobal_word, Fill_word, word_bytes}
use Rattle.isp_wasm_binary.proofs.Numbers.{Read, read_groups, read_signed, read_low, u32_back, i32_back, i64_back, v128_back}

-- an instruction whose numbers are within its bits, and whose shuffle names 16 bytes
abbrev pub IsWord : Word → Type 0
IsWord (Const32_word n) = n < 2 ^ 32
IsWord (Const64_word n) = n < 2 ^ 64
IsWord (Const128_word n) = n < 2 ^ 128
IsWord (Binary_word (Shuffle cs)) = (f : ℕ → ℕ) × (cs ≡ listed 16 f)
IsWord w = Unit {0}

-- ---- the instructions without a number

abbrev no_lanes : List ℕ
no_lanes = []

abbrev shapes : (Shape → Word) → List Word → List Word
shapes f ws = f I8x16 ∷ f I16x8 ∷ f I32x4 ∷ f I64x2 ∷ ws

abbrev sizes : (Size → Word) → List Word → List Word
sizes f ws = f I32 ∷ f I64 ∷ ws

abbrev plain_words : List Word
plain_words =
    Select_word ∷ Block_word ∷ Loop_word ∷ If_word ∷ Else_word ∷ End_word ∷ Return_word ∷ Unreachable_word
    ∷ sizes (λ t. Unary_word (Eqz t)) (sizes (λ t. Unary_word (Ctz t))
    (Unary_word Wrap ∷ Unary_word ExtendU ∷ Unary_word ExtendS ∷ Unary_word Extend8S ∷ Unary_word Extend16S
    ∷ sizes (λ t. Binary_word (Of t Add)) (sizes (λ t. Binary_word (Of t Sub)) (sizes (λ t. Binary_word (Of t Mul))
    (sizes (λ t. Binary_word (BitsOf t And)) (sizes (λ t. Binary_word (BitsOf t Or)) (sizes (λ t. Binary_word (BitsOf t Xor))
    (sizes (λ t. Binary_word (ShiftOf t Shl)) (sizes (λ t. Binary_word (ShiftOf t ShrU)) (sizes (λ t. Binary_word (ShiftOf t ShrS))
    (sizes (λ t. Binary_word (Compare t Eq)) (sizes (λ t. Binary_word (Compare t Ne)) (sizes (λ t. Binary_word (Compare t LtU)) (sizes (λ t. Binary_word (Compare t LtS))
    (sizes (λ t. Division_word t DivU) (sizes (λ t. Division_word t RemU) []))))))))))))))))

abbrev simd_words : List Word
simd_words =
    Bitselect_word
    ∷ shapes (λ s. Unary_word (Splat s)) (shapes (λ s. Unary_word (ExtendLow s)) (shapes (λ s. Unary_word (ExtendHigh s)) (shapes (λ s. Unary_word (Bitmask s))
    (shapes (λ s. Binary_word (Lanes s Add)) (shapes (λ s. Binary_word (Lanes s Sub)) (shapes (λ s. Binary_word (Lanes s Mul))
    (shapes (λ s. Binary_word (CompareLanes s Eq)) (shapes (λ s. Binary_word (CompareLanes s Ne)) (shapes (λ s. Binary_word (CompareLanes s LtU)) (shapes (λ s. Binary_word (CompareLanes s LtS))
    (shapes (λ s. Binary_word (ShiftLanes s Shl)) (shapes (λ s. Binary_word (ShiftLanes s ShrU)) (shapes (λ s. Binary_word (ShiftLanes s ShrS))
    (Binary_word (Bits And) ∷ Binary_word (Bits Or) ∷ Binary_word (Bits Xor) ∷ []))))))))))))))

-- ---- the instruction that bytes begin with, and what is after it

abbrev Step : Type 0
Step = Option (Word × List ℕ)

abbrev choose : Bool → Step → Step → Step
choose true x y = x
choose false x y = y

-- the number that begins the bytes of a word
abbrev first : List ℕ → ℕ
first [] = 0
first (b ∷ bs) = b

abbrev rest : List ℕ → List ℕ
rest [] = []
rest (b ∷ bs) = bs

-- the one of these words whose number this is
abbrev found : (Word → ℕ) → List Word → ℕ → List ℕ → Step
found f [] n r = None
found f (w ∷ ws) n r = choose (nat_eq (f w) n) (Some (w, r)) (found f ws n r)

abbrev opcode : Word → ℕ
opcode w = first (word_bytes w)

-- after 0xFD
abbrev simd_number : Word → ℕ
simd_number w = (read_groups 4 (rest (word_bytes w))).0

abbrev with_number : (ℕ → Word) → Read → Step
with_number f (n, r) = Some (f n, r)

abbrev with_two : (ℕ → ℕ → Word) → Read → Step
with_two f (n, r) = with_number (f n) (read_groups 4 r)

abbrev with_byte : (ℕ → Word) → List ℕ → Step
with_byte f [] = None
with_byte f (b ∷ r) = Some (f b, r)

abbrev memarg : Access → (Access → ℕ → Word) → List ℕ → Step
memarg a f r = with_two (λ align o. f a o) (read_groups 4 r)

-- so many numbers
abbrev numbers : ℕ → List ℕ → List ℕ × List ℕ
numbers zero r = ([], r)
numbers (suc k) r = let t = read_groups 4 r in let u = numbers k t.1 in (t.0 ∷ u.0, u.1)

abbrev with_labels : List ℕ × List ℕ → Step
with_labels (ks, r) = with_number (BrTable_word ks) (read_groups 4 r)

abbrev table : Read → Step
table (n, r) = with_labels (numbers n r)

-- so many bytes
abbrev listed_bytes : ℕ → List ℕ → List ℕ × List ℕ
listed_bytes zero r = ([], r)
listed_bytes (suc k) [] = ([], [])
listed_bytes (suc k) (b ∷ r) = let u = listed_bytes k r in (b ∷ u.0, u.1)

abbrev shuffle : List ℕ × List ℕ → Step
shuffle (cs, r) = Some (Binary_word (Shuffle cs), r)

abbrev either : Step → Step → Step
either (Some x) y = Some x
either None y = y

abbrev lane_step : ℕ → List ℕ → Step
lane_step n r =
    choose (nat_eq n 22) (with_byte (λ k. Unary_word (Extract I8x16 k)) r)
    (choose (nat_eq n 25) (with_byte (λ k. Unary_word (Extract I16x8 k)) r)
    (choose (nat_eq n 27) (with_byte (λ k. Unary_word (Extract I32x4 k)) r)
    (choose (nat_eq n 29) (with_byte (λ k. Unary_word (Extract I64x2 k)) r)
    (choose (nat_eq n 23) (with_byte (λ k. Binary_word (Replace I8x16 k)) r)
    (choose (nat_eq n 26) (with_byte (λ k. Binary_word (Replace I16x8 k)) r)
    (choose (nat_eq n 28) (with_byte (λ k. Binary_word (Replace I32x4 k)) r)
    (choose (nat_eq n 30) (with_byte (λ k. Binary_word (Replace I64x2 k)) r) None)))))))

abbrev simd_step : Read → Step
simd_step (n, r) =
    choose (nat_eq n 12) (with_number Const128_word (read_low 16 r))
    (choose (nat_eq n 13) (shuffle (listed_bytes 16 r))
    (choose (nat_eq n 2004) (with_two (λ m o. Load_word (NoAccess m) o) (read_groups 4 r))
    (choose (nat_eq n 2005) (with_two (λ m o. Store_word (NoAccess m) o) (read_groups 4 r))
    (choose (nat_eq n 0) (memarg Bytes16 Load_word r)
    (choose (nat_eq n 11) (memarg Bytes16 Store_word r)
    (either (found simd_number simd_words n r) (lane_step n r)))))))

-- an instruction of two more bytes
abbrev behind_two : Word → List ℕ → Step
behind_two w (a ∷ b ∷ r) = Some (w, r)
behind_two w r = None

abbrev number_step : ℕ → List ℕ → Step
number_step b r =
    choose (nat_eq b 0x41) (with_number Const32_word (read_signed 4 32 r))
    (choose (nat_eq b 0x42) (with_number Const64_word (read_signed 9 64 r))
    (choose (nat_eq b 0x20) (with_number Get_word (read_groups 4 r))
    (choose (nat_eq b 0x21) (with_number Set_word (read_groups 4 r))
    (choose (nat_eq b 0x0C) (with_number Br_word (read_groups 4 r))
    (choose (nat_eq b 0x0E) (table (read_groups 4 r))
    (choose (nat_eq b 0x10) (with_number Call_word (read_groups 4 r))
    (choose (nat_eq b 0x23) (with_number GetGlobal_word (read_groups 4 r))
    (choose (nat_eq b 0x24) (with_number SetGlobal_word (read_groups 4 r))
    (choose (nat_eq b 0xFC) (behind_two Fill_word r) None)))))))))

abbrev memory_step : ℕ → List ℕ → Step
memory_step b r =
    choose (nat_eq b 0x2D) (memarg Bytes1 Load_word r)
    (choose (nat_eq b 0x2F) (memarg Bytes2 Load_word r)
    (choose (nat_eq b 0x28) (memarg Bytes4 Load_word r)
    (choose (nat_eq b 0x29) (memarg Bytes8 Load_word r)
    (choose (nat_eq b 0x3A) (memarg Bytes1 Store_word r)
    (choose (nat_eq b 0x3B) (memarg Bytes2 Store_word r)
    (choose (nat_eq b 0x36) (memarg Bytes4 Store_word r)
    (choose (nat_eq b 0x37) (memarg Bytes8 Store_word r) None)))))))

-- a block has its type after it
abbrev typed : Step → Step
typed (Some (Block_word, b ∷ r)) = Some (Block_word, r)
typed (Some (Loop_word, b ∷ r)) = Some (Loop_word, r)
typed (Some (If_word, b ∷ r)) = Some (If_word, r)
typed s = s

unfoldable pub read_word : List ℕ → Step
read_word [] = None
read_word (b ∷ r) =
    choose (nat_eq b 0xFD) (simd_step (read_groups 4 r))
    (either (number_step b r) (either (memory_step b r) (typed (found opcode plain_words b r))))

abbrev Reads : Word → List ℕ → Type 0
Reads w r = read_word (word_bytes w ++ r) ≡ Some (w, r)

eqz_read : (t : Size) (r : List ℕ) → Reads (Unary_word (Eqz t)) r
unfolding groups u32 read_word
eqz_read I32 r = refl
eqz_read I64 r = refl

ctz_read : (t : Size) (r : List ℕ) → Reads (Unary_word (Ctz t)) r
unfolding groups u32 read_word
ctz_read I32 r = refl
ctz_read I64 r = refl

splat_read : (s : Shape) (r : List ℕ) → Reads (Unary_word (Splat s)) r
unfolding groups u32 read_word
splat_read I8x16 r = refl
splat_read I16x8 r = refl
splat_read I32x4 r = refl
splat_read I64x2 r = refl

extend_low_read : (s : Shape) (r : List ℕ) → Reads (Unary_word (ExtendLow s)) r
unfolding groups u32 read_word
extend_low_read I8x16 r = refl
extend_low_read I16x8 r = refl
extend_low_read I32x4 r = refl
extend_low_read I64x2 r = refl

extend_high_read : (s : Shape) (r : List ℕ) → Reads (Unary_word (ExtendHigh s)) r
unfolding groups u32 read_word
extend_high_read I8x16 r = refl
extend_high_read I16x8 r = refl
extend_high_read I32x4 r = refl
extend_high_read I64x2 r = refl

bitmask_read : (s : Shape) (r : List ℕ) → Reads (Unary_word (Bitmask s)) r
unfolding groups u32 read_word
bitmask_read I8x16 r = refl
bitmask_read I16x8 r = refl
bitmask_read I32x4 r = refl
bitmask_read I64x2 r = refl

extract_read : (s : Shape) (k : ℕ) (r : List ℕ) → Reads (Unary_word (Extract s k)) r
unfolding groups u32 read_word
extract_read I8x16 k r = refl
extract_read I16x8 k r = refl
extract_read I32x4 k r = refl
extract_read I64x2 k r = refl

pub unary_read : (o : Unary) (r : List ℕ) → Reads (Unary_word o) r
unfolding groups u32 read_word
unary_read (Eqz t) r = eqz_read t r
unary_read (Ctz t) r = ctz_read t r
unary_read Wrap r = refl
unary_read ExtendU r = refl
unary_read ExtendS r = refl
unary_read Extend8S r = refl
unary_read Extend16S r = refl
unary_read (Splat s) r = splat_read s r
unary_read (Extract s k) r = extract_read s k r
unary_read (ExtendLow s) r = extend_low_read s r
unary_read (ExtendHigh s) r = extend_high_read s r
unary_read (Bitmask s) r = bitmask_read s r

of_read : (t : Size) (o : Whole) (r : List ℕ) → Reads (Binary_word (Of t o)) r
unfolding groups u32 read_word
of_read I32 Add r = refl
of_read I32 Sub r = refl
of_read I32 Mul r = refl
of_read I64 Add r = refl
of_read I64 Sub r = refl
of_read I64 Mul r = refl

bits_of_read : (t : Size) (o : Bitwise) (r : List ℕ) → Reads (Binary_word (BitsOf t o)) r
unfolding groups u32 read_word
bits_of_read I32 And r = refl
bits_of_read I32 Or r = refl
bits_of_read I32 Xor r = refl
bits_of_read I64 And r = refl
bits_of_read I64 Or r = refl
bits_of_read I64 Xor r = refl

shift_of_read : (t : Size) (o : Shift) (r : List ℕ) → Reads (Binary_word (ShiftOf t o)) r
unfolding groups u32 read_word
shift_of_read I32 Shl r = refl
shift_of_read I32 ShrU r = refl
shift_of_read I32 ShrS r = refl
shift_of_read I64 Shl r = refl
shift_of_read I64 ShrU r = refl
shift_of_read I64 ShrS r = refl

compare_read : (t : Size) (o : Test) (r : List ℕ) → Reads (Binary_word (Compare t o)) r
unfolding groups u32 read_word
compare_read I32 Eq r = refl
compare_read I32 Ne r = refl
compare_read I32 LtU r = refl
compare_read I32 LtS r = refl
compare_read I64 Eq r = refl
compare_read I64 Ne r = refl
compare_read I64 LtU r = refl
compare_read I64 LtS r = refl

lanes_read : (t : Shape) (o : Whole) (r : List ℕ) → Reads (Binary_word (Lanes t o)) r
unfolding groups u32 read_word
lanes_read I8x16 Add r = refl
lanes_read I8x16 Sub r = refl
lanes_read I8x16 Mul r = refl
lanes_read I16x8 Add r = refl
lanes_read I16x8 Sub r = refl
lanes_read I16x8 Mul r = refl
lanes_read I32x4 Add r = refl
lanes_read I32x4 Sub r = refl
lanes_read I32x4 Mul r = refl
lanes_read I64x2 Add r = refl
lanes_read I64x2 Sub r = refl
lanes_read I64x2 Mul r = refl

compare_lanes_read : (t : Shape) (o : Test) (r : List ℕ) → Reads (Binary_word (CompareLanes t o)) r
unfolding groups u32 read_word
compare_lanes_read I8x16 Eq r = refl
compare_lanes_read I8x16 Ne r = refl
compare_lanes_read I8x16 LtU r = refl
compare_lanes_read I8x16 LtS r = refl
compare_lanes_read I16x8 Eq r = refl
compare_lanes_read I16x8 Ne r = refl
compare_lanes_read I16x8 LtU r = refl
compare_lanes_read I16x8 LtS r = refl
compare_lanes_read I32x4 Eq r = refl
compare_lanes_read I32x4 Ne r = refl
compare_lanes_read I32x4 LtU r = refl
compare_lanes_read I32x4 LtS r = refl
compare_lanes_read I64x2 Eq r = refl
compare_lanes_read I64x2 Ne r = refl
compare_lanes_read I64x2 LtU r = refl
compare_lanes_read I64x2 LtS r = refl

shift_lanes_read : (t : Shape) (o : Shift) (r : List ℕ) → Reads (Binary_word (ShiftLanes t o)) r
unfolding groups u32 read_word
shift_lanes_read I8x16 Shl r = refl
shift_lanes_read I8x16 ShrU r = refl
shift_lanes_read I8x16 ShrS r = refl
shift_lanes_read I16x8 Shl r = refl
shift_lanes_read I16x8 ShrU r = refl
shift_lanes_read I16x8 ShrS r = refl
shift_lanes_read I32x4 Shl r = refl
shift_lanes_read I32x4 ShrU r = refl
shift_lanes_read I32x4 ShrS r = refl
shift_lanes_read I64x2 Shl r = refl
shift_lanes_read I64x2 ShrU r = refl
shift_lanes_read I64x2 ShrS r = refl

division_read : (t : Size) (o : Division) (r : List ℕ) → Reads (Division_word t o) r
unfolding groups u32 read_word
division_read I32 DivU r = refl
division_read I32 RemU r = refl
division_read I64 DivU r = refl
division_read I64 RemU r = refl

bits_read : (o : Bitwise) (r : List ℕ) → Reads (Binary_word (Bits o)) r
unfolding groups u32 read_word
bits_read And r = refl
bits_read Or r = refl
bits_read Xor r = refl

replace_read : (s : Shape) (k : ℕ) (r : List ℕ) → Reads (Binary_word (Replace s k)) r
unfolding groups u32 read_word
replace_read I8x16 k r = refl
replace_read I16x8 k r = refl
replace_read I32x4 k r = refl
replace_read I64x2 k r = refl

shuffle_read : (f : ℕ → ℕ) (r : List ℕ) → Reads (Binary_word (Shuffle (listed 16 f))) r
unfolding groups u32 read_word
shuffle_read f r = refl

binary_read : (o : Binary) → IsWord (Binary_word o) → (r : List ℕ) → Reads (Binary_word o) r
binary_read (Of t o) h r = of_read t o r
binary_read (BitsOf t o) h r = bits_of_read t o r
binary_read (ShiftOf t o) h r = shift_of_read t o r
binary_read (Compare t o) h r = compare_read t o r
binary_read (Lanes s o) h r = lanes_read s o r
binary_read (CompareLanes s o) h r = compare_lanes_read s o r
binary_read (ShiftLanes s o) h r = shift_lanes_read s o r
binary_read (Bits o) h r = bits_read o r
binary_read (Replace s k) h r = replace_read s k r
binary_read (Shuffle cs) (f, e) r = subst (λ c. Reads (Binary_word (Shuffle c)) r) (sym e) (shuffle_read f r)

-- ---- instructions with numbers

load_read : (a : Access) (o : ℕ) (r : List ℕ) → Reads (Load_word a o) r
unfolding groups u32 read_word
load_read Bytes1 o r = ap (λ t. Some (Load_word Bytes1 t.0, t.1)) (u32_back o r)
load_read Bytes2 o r = ap (λ t. Some (Load_word Bytes2 t.0, t.1)) (u32_back o r)
load_read Bytes4 o r = ap (λ t. Some (Load_word Bytes4 t.0, t.1)) (u32_back o r)
load_read Bytes8 o r = ap (λ t. Some (Load_word Bytes8 t.0, t.1)) (u32_back o r)
load_read Bytes16 o r = ap (λ t. Some (Load_word Bytes16 t.0, t.1)) (u32_back o r)
load_read (NoAccess n) o r =
    ap (λ t. with_two (λ m p. Load_word (NoAccess m) p) (read_groups 4 t)) (append_assoc (u32 n) (u32 o) r)
    ∙ ap (with_two (λ m p. Load_word (NoAccess m) p)) (u32_back n (u32 o ++ r)) ∙ ap (λ t. Some (Load_word (NoAccess n) t.0, t.1)) (u32_back o r)

store_read : (a : Access) (o : ℕ) (r : List ℕ) → Reads (Store_word a o) r
unfolding groups u32 read_word
store_read Bytes1 o r = ap (λ t. Some (Store_word Bytes1 t.0, t.1)) (u32_back o r)
store_read Bytes2 o r = ap (λ t. Some (Store_word Bytes2 t.0, t.1)) (u32_back o r)
store_read Bytes4 o r = ap (λ t. Some (Store_word Bytes4 t.0, t.1)) (u32_back o r)
store_read Bytes8 o r = ap (λ t. Some (Store_word Bytes8 t.0, t.1)) (u32_back o r)
store_read Bytes16 o r = ap (λ t. Some (Store_word Bytes16 t.0, t.1)) (u32_back o r)
store_read (NoAccess n) o r =
    ap (λ t. with_two (λ m p. Store_word (NoAccess m) p) (read_groups 4 t)) (append_assoc (u32 n) (u32 o) r)
    ∙ ap (with_two (λ m p. Store_word (NoAccess m) p)) (u32_back n (u32 o ++ r)) ∙ ap (λ t. Some (Store_word (NoAccess n) t.0, t.1)) (u32_back o r)

numbers_back : (ks : List ℕ) (r : List ℕ) → numbers (length ks) (flat_map u32 ks ++ r) ≡ (ks, r)
numbers_back [] r = refl
numbers_back (k ∷ ks) r =
    ap (numbers (suc (length ks))) (append_assoc (u32 k) (flat_map u32 ks) r)
    ∙ ap (λ t. let u = numbers (length ks) t.1 in (t.0 ∷ u.0, u.1)) (u32_back k (flat_map u32 ks ++ r))
    ∙ ap (λ u. (k ∷ u.0, u.1)) (numbers_back ks r)

table_read : (ks : List ℕ) (k : ℕ) (r : List ℕ) → Reads (BrTable_word ks k) r
unfolding read_word
table_read ks k r =
    ap (λ t. table (read_groups 4 t)) (append_assoc (u32 (length ks) ++ flat_map u32 ks) (u32 k) r ∙ append_assoc (u32 (length ks)) (flat_map u32 ks) (u32 k ++ r))
    ∙ ap table (u32_back (length ks) (flat_map u32 ks ++ (u32 k ++ r))) ∙ ap with_labels (numbers_back ks (u32 k ++ r))
    ∙ ap (λ t. Some (BrTable_word ks t.0, t.1)) (u32_back k r)

-- an instruction is read back from its bytes
pub word_read : (w : Word) → IsWord w → (r : List ℕ) → Reads w r
unfolding groups u32 read_word
word_read (Const32_word n) h r = ap (λ t. Some (Const32_word t.0, t.1)) (i32_back n r h)
word_read (Const64_word n) h r = ap (λ t. Some (Const64_word t.0, t.1)) (i64_back n r h)
word_read (Const128_word n) h r = ap (λ t. Some (Const128_word t.0, t.1)) (v128_back n r h)
word_read (Get_word x) h r = ap (λ t. Some (Get_word t.0, t.1)) (u32_back x r)
word_read (Set_word x) h r = ap (λ t. Some (Set_word t.0, t.1)) (u32_back x r)
word_read (Unary_word o) h r = unary_read o r
word_read (Binary_word o) h r = binary_read o h r
word_read (Division_word t o) h r = division_read t o r
word_read Select_word h r = refl
word_read Bitselect_word h r = refl
word_read (Load_word a o) h r = load_read a o r
word_read (Store_word a o) h r = store_read a o r
word_read Block_word h r = refl
word_read Loop_word h r = refl
word_read If_word h r = refl
word_read Else_word h r = refl
word_read End_word h r = refl
word_read (Br_word k) h r = ap (λ t. Some (Br_word t.0, t.1)) (u32_back k r)
word_read (BrTable_word ks k) h r = table_read ks k r
word_read Return_word h r = refl
word_read (Call_word f) h r = ap (λ t. Some (Call_word t.0, t.1)) (u32_back f r)
word_read Unreachable_word h r = refl
word_read (GetGlobal_word x) h r = ap (λ t. Some (GetGlobal_word t.0, t.1)) (u32_back x r)
word_read (SetGlobal_word x) h r = ap (λ t. Some (SetGlobal_word t.0, t.1)) (u32_back x r)
word_read Fill_word h r = refl

-- ---- and so is a list of them

abbrev got : Step → Word × List ℕ
got None = (Unreachable_word, [])
got (Some x) = x

abbrev pub AllWords : List Word → Type 0
AllWords [] = Unit {0}
AllWords (w ∷ ws) = IsWord w × AllWords ws

pub words_same : (ws vs : List Word) → AllWords ws → AllWords vs → flat_map word_bytes ws ≡ flat_map word_bytes vs → ws ≡ vs
unfolding read_word
words_same [] [] h k e = refl
words_same [] (v ∷ vs) h k e = let no = ap read_word e ∙ word_read v k.0 (flat_map word_bytes vs) in cc
words_same (w ∷ ws) [] h k e = let no = sym (ap read_word e) ∙ word_read w h.0 (flat_map word_bytes ws) in cc
words_same (w ∷ ws) (v ∷ vs) h k e =
    let same = ap got (sym (word_read w h.0 (flat_map word_bytes ws)) ∙ ap read_word e ∙ word_read v k.0 (flat_map word_bytes vs)) in
    ap₂ (λ x xs. x ∷ xs) (ap (λ t. t.0) same) (words_same ws vs h.1 k.1 (ap (λ t. t.1) same))
