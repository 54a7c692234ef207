-- The heads among the instructions from one on.
use Rattle.std.proofs.Common.{◌≡◌, ℕ, zero, suc, ◌+◌, ◌-◌, ◌<◌, ◌≤◌, List, [], ◌∷◌, ◌++◌, length, Bool, true, false, sym, append-nil, append_assoc, ap, subst, ◌∙◌, arith}
use Rattle.std.specs.Prelude.{if◌then◌else◌, slice_index_or}
use Rattle.isp_code.specs.declared.instr.Instr.{Instr}
use Rattle.isp_wasm.specs.Module.{is_head, heads_from, heads_of}

one_less : (n i : ℕ) → i < n → n - i ≡ suc (n - (i + 1))
one_less n i h = omega (arith, h)

next_is : (is : List Instr) (n i : ℕ) → i < n
    → heads_from is (n - i) i ≡ (if is_head is i then i ∷ heads_from is (n - (i + 1)) (i + 1) else heads_from is (n - (i + 1)) (i + 1))
next_is is n i h =
    ap (λ m. heads_from is m i) (one_less n i h)
    ∙ ap (λ k. if is_head is i then i ∷ heads_from is (n - (i + 1)) k else heads_from is (n - (i + 1)) k) (let same : suc i ≡ i + 1 = omega arith in same)

there : (is : List Instr) (n i : ℕ) → i < n → is_head is i ≡ true → heads_from is (n - i) i ≡ i ∷ heads_from is (n - (i + 1)) (i + 1)
there is n i h e = next_is is n i h ∙ ap (λ b. if b then i ∷ heads_from is (n - (i + 1)) (i + 1) else heads_from is (n - (i + 1)) (i + 1)) e

not_there : (is : List Instr) (n i : ℕ) → i < n → is_head is i ≡ false → heads_from is (n - i) i ≡ heads_from is (n - (i + 1)) (i + 1)
not_there is n i h e = next_is is n i h ∙ ap (λ b. if b then i ∷ heads_from is (n - (i + 1)) (i + 1) else heads_from is (n - (i + 1)) (i + 1)) e

-- one more instruction
pub head_step : (is : List Instr) (n i : ℕ) (got more whole : List ℕ) (b : Bool) → i < n → b ≡ is_head is i → more ≡ got ++ (if b then i ∷ [] else [])
    → got ++ heads_from is (n - i) i ≡ whole → more ++ heads_from is (n - (i + 1)) (i + 1) ≡ whole
head_step is n i got more whole true h e f g =
    ap (λ l. l ++ heads_from is (n - (i + 1)) (i + 1)) f ∙ append_assoc got (i ∷ []) (heads_from is (n - (i + 1)) (i + 1))
    ∙ ap (λ l. got ++ l) (sym (there is n i h (sym e))) ∙ g
head_step is n i got more whole false h e f g =
    ap (λ l. l ++ heads_from is (n - (i + 1)) (i + 1)) (f ∙ append-nil got) ∙ ap (λ l. got ++ l) (sym (not_there is n i h (sym e))) ∙ g

moved : (hs : List ℕ) (k a b : ℕ) → a ≡ b → slice_index_or hs k a ≤ a → slice_index_or hs k b ≤ b
moved hs k a b e h = subst (λ (n : ℕ). slice_index_or hs k n ≤ n) e h

-- each head is an instruction, and past the last comes their number
below : (is : List Instr) (n pc k : ℕ) → slice_index_or (heads_from is n pc) k (pc + n) ≤ pc + n
below is zero pc k = omega arith
below is (suc n) pc k = by (is_head is pc) k (λ k. below is n (suc pc) k)
  where
    by : (b : Bool) (k : ℕ) → ((k : ℕ) → slice_index_or (heads_from is n (suc pc)) k (suc pc + n) ≤ suc pc + n)
        → slice_index_or (if b then pc ∷ heads_from is n (suc pc) else heads_from is n (suc pc)) k (pc + suc n) ≤ pc + suc n
    by true zero more = omega arith
    by true (suc k) more = moved (heads_from is n (suc pc)) k (suc pc + n) (pc + suc n) (omega arith) (more k)
    by false k more = moved (heads_from is n (suc pc)) k (suc pc + n) (pc + suc n) (omega arith) (more k)

pub within : (is : List Instr) (k : ℕ) → slice_index_or (heads_of is) k (length is) ≤ length is
within is k = moved (heads_of is) k (0 + length is) (length is) (omega arith) (below is (length is) 0 k)
