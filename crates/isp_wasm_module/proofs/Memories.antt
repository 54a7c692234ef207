-- The texts, and the sections of the memory.
use Rattle.std.proofs.Common.{◌≡◌, ℕ, zero, suc, ◌+◌, ◌<◌, List, [], ◌∷◌, ◌++◌, length, drop, Some, true, false, refl, ap, sym, ◌∙◌, append-nil, append_assoc, add-one, arith}
use Rattle.std.proofs.lemmas.List.{length-append}
use Rattle.std.specs.Prelude.{slice_get}
use Rattle.std.specs.List.{flat_map}
use Rattle.isp_wasm_meaning.specs.Module.{I32}
use Rattle.isp_wasm.specs.Module.{joined}
use Rattle.isp_wasm_binary.specs.Binary.{pieces_of, results}
use Rattle.isp_wasm_binary.specs.Instructions.{word_bytes, Const32_word, Const128_word, End_word}
use Rattle.isp_wasm_binary.specs.Modules.{Global, memory_bytes, global_bytes, piece_bytes}
use Rattle.isp_wasm_binary.specs.Numbers.{u32, groups, bytes, vector}
use Rattle.isp_wasm_module.specs.reader.Pieces.{globals_of}
use Rattle.isp_wasm_module.proofs.Vectors.{one_item, no_item}

pub one_joined : (xs : List (List ℕ)) (i : ℕ) (x : List ℕ) → slice_get xs i ≡ Some x → joined (drop i xs) ≡ x ++ joined (drop (i + 1) xs)
one_joined xs i x e = by xs i e ∙ ap (λ n. x ++ joined (drop n xs)) (let same : suc i ≡ i + 1 = omega arith in same)
  where
    by : (xs : List (List ℕ)) (i : ℕ) → slice_get xs i ≡ Some x → joined (drop i xs) ≡ x ++ joined (drop (suc i) xs)
    by [] i e = cc
    by (y ∷ xs) zero e = ap (λ z. z ++ joined xs) (let same : y ≡ x = cc in same)
    by (y ∷ xs) (suc i) e = by xs i e

pub one_long : (xs : List (List ℕ)) (i : ℕ) (x : List ℕ) → slice_get xs i ≡ Some x → length (joined (drop i xs)) ≡ length x + length (joined (drop (i + 1) xs))
one_long xs i x e = ap length (one_joined xs i x e) ∙ length-append x (joined (drop (i + 1) xs))

pub pages_are : (n : ℕ) → vector memory_bytes (n ∷ []) ≡ 1 ∷ 0 ∷ u32 n
pages_are n = one_item memory_bytes n

abbrev result : List ℕ
result = 0x7B ∷ 1 ∷ (word_bytes (Const128_word 0) ++ word_bytes End_word)

pub one_result : (n : ℕ) → flat_map global_bytes (results (n + 1))
    ≡ flat_map global_bytes (results n) ++ (0x7B ∷ 1 ∷ (word_bytes (Const128_word 0) ++ word_bytes End_word))
one_result n = ap (λ m. flat_map global_bytes (results m)) (add-one n) ∙ by n
  where
    by : (n : ℕ) → flat_map global_bytes (results (suc n)) ≡ flat_map global_bytes (results n) ++ result
    by zero = append-nil result
    by (suc n) = ap (λ l. result ++ l) (by n) ∙ sym (append_assoc result (flat_map global_bytes (results n)) result)

flat_both : (xs ys : List Global) → flat_map global_bytes (xs ++ ys) ≡ flat_map global_bytes xs ++ flat_map global_bytes ys
flat_both [] ys = refl
flat_both (x ∷ xs) ys = ap (λ l. global_bytes x ++ l) (flat_both xs ys) ∙ sym (append_assoc (global_bytes x) (flat_map global_bytes xs) (flat_map global_bytes ys))

eighteen : u32 18 ≡ 0x12 ∷ []
unfolding u32 groups
eighteen = refl

around : (rs : List Global) (a b : Global) → length rs ≡ 16
    → vector global_bytes (a ∷ (rs ++ b ∷ [])) ≡ (0x12 ∷ global_bytes a) ++ (flat_map global_bytes rs ++ global_bytes b)
around rs a b e =
    ap (λ n. u32 n ++ flat_map global_bytes (a ∷ (rs ++ b ∷ []))) (let both = length-append rs (b ∷ []) in let same : suc (length (rs ++ b ∷ [])) ≡ 18 = omega (arith, both, e) in same)
    ∙ ap (λ l. l ++ (global_bytes a ++ flat_map global_bytes (rs ++ b ∷ []))) eighteen
    ∙ ap (λ l. (0x12 ∷ global_bytes a) ++ l) (flat_both rs (b ∷ []) ∙ ap (λ l. flat_map global_bytes rs ++ l) (append-nil (global_bytes b)))

pub globals_are : (n : ℕ) → vector global_bytes (globals_of n)
    ≡ (0x12 ∷ 0x7F ∷ 0 ∷ (word_bytes (Const32_word n) ++ word_bytes End_word))
    ++ (flat_map global_bytes (results 16) ++ (0x7F ∷ 1 ∷ (word_bytes (Const32_word n) ++ word_bytes End_word)))
globals_are n = around (results 16) (record { type = I32; changes = false; first = n }) (record { type = I32; changes = true; first = n }) refl

pub piece_is : (bs : List ℕ) → 0 < length bs → vector piece_bytes (pieces_of bs) ≡ 1 ∷ 0 ∷ ((word_bytes (Const32_word 0) ++ word_bytes End_word) ++ bytes bs)
piece_is [] h = absurd (omega (arith, h))
piece_is (b ∷ bs) h = one_item piece_bytes (record { at = 0; has = b ∷ bs })

pub no_piece : (bs : List ℕ) → length bs ≡ 0 → vector piece_bytes (pieces_of bs) ≡ 0 ∷ []
no_piece [] h = no_item piece_bytes
no_piece (b ∷ bs) h = absurd (omega (arith, h))

-- ---- what is appended, one after the other

pub result_step : (n : ℕ) (o a b c d : List ℕ) → b ≡ a ++ 0x7B ∷ 1 ∷ [] → c ≡ b ++ word_bytes (Const128_word 0) → d ≡ c ++ word_bytes End_word
    → a ≡ o ++ flat_map global_bytes (results n) → d ≡ o ++ flat_map global_bytes (results (n + 1))
result_step n o a b c d e f g h =
    let zero_bytes = word_bytes (Const128_word 0) in
    let end = word_bytes End_word in
    let before = flat_map global_bytes (results n) in
    let joined : d ≡ (((o ++ before) ++ 0x7B ∷ 1 ∷ []) ++ zero_bytes) ++ end = cc in
    joined ∙ spread o before (0x7B ∷ 1 ∷ []) zero_bytes end ∙ ap (λ l. o ++ l) (sym (one_result n))
  where
    spread : (o a b c d : List ℕ) → (((o ++ a) ++ b) ++ c) ++ d ≡ o ++ (a ++ (b ++ (c ++ d)))
    spread o a b c d = simp append_assoc

pub pages_chain : (n : ℕ) (o a b : List ℕ) → a ≡ o ++ 1 ∷ 0 ∷ [] → b ≡ a ++ u32 n → b ≡ o ++ vector memory_bytes (n ∷ [])
pages_chain n o a b e f = f ∙ ap (λ l. l ++ u32 n) e ∙ append_assoc o (1 ∷ 0 ∷ []) (u32 n) ∙ ap (λ l. o ++ l) (sym (pages_are n))

pub data_chain : (bs o a b c d : List ℕ) → 0 < length bs → a ≡ o ++ 1 ∷ 0 ∷ [] → b ≡ a ++ word_bytes (Const32_word 0) → c ≡ b ++ word_bytes End_word → d ≡ c ++ bytes bs
    → d ≡ o ++ vector piece_bytes (pieces_of bs)
data_chain bs o a b c d h e f g i =
    let joined : d ≡ (((o ++ 1 ∷ 0 ∷ []) ++ word_bytes (Const32_word 0)) ++ word_bytes End_word) ++ bytes bs = cc in
    joined ∙ spread o (1 ∷ 0 ∷ []) (word_bytes (Const32_word 0)) (word_bytes End_word) (bytes bs) ∙ ap (λ l. o ++ l) (sym (piece_is bs h))
  where
    spread : (o a b c d : List ℕ) → (((o ++ a) ++ b) ++ c) ++ d ≡ o ++ (a ++ ((b ++ c) ++ d))
    spread o a b c d = simp append_assoc

pub text_step : (xs : List (List ℕ)) (i : ℕ) (x a b whole : List ℕ) → slice_get xs i ≡ Some x → b ≡ a ++ x → a ++ joined (drop i xs) ≡ whole → b ++ joined (drop (i + 1) xs) ≡ whole
text_step xs i x a b whole e f g =
    ap (λ l. l ++ joined (drop (i + 1) xs)) f ∙ append_assoc a x (joined (drop (i + 1) xs)) ∙ ap (λ l. a ++ l) (sym (one_joined xs i x e)) ∙ g

pub globals_chain : (n : ℕ) (o a b c d e f g : List ℕ) → a ≡ o ++ 0x12 ∷ 0x7F ∷ 0 ∷ [] → b ≡ a ++ word_bytes (Const32_word n) → c ≡ b ++ word_bytes End_word
    → d ≡ c ++ flat_map global_bytes (results 16) → e ≡ d ++ 0x7F ∷ 1 ∷ [] → f ≡ e ++ word_bytes (Const32_word n) → g ≡ f ++ word_bytes End_word
    → g ≡ o ++ vector global_bytes (globals_of n)
globals_chain n o a b c d e f g p q r s t u v =
    let first = word_bytes (Const32_word n) in
    let end = word_bytes End_word in
    let parts = flat_map global_bytes (results 16) in
    let joined : g ≡ ((((((o ++ 0x12 ∷ 0x7F ∷ 0 ∷ []) ++ first) ++ end) ++ parts) ++ 0x7F ∷ 1 ∷ []) ++ first) ++ end = cc in
    joined ∙ spread o (0x12 ∷ 0x7F ∷ 0 ∷ []) first end parts (0x7F ∷ 1 ∷ []) ∙ ap (λ l. o ++ l) (sym (globals_are n))
  where
    spread : (o a n z p b : List ℕ) → ((((((o ++ a) ++ n) ++ z) ++ p) ++ b) ++ n) ++ z ≡ o ++ ((a ++ (n ++ z)) ++ (p ++ (b ++ (n ++ z))))
    spread o a n z p b = simp append_assoc
