-- The words of an instruction: registers, and an ending.
use Rattle.std.specs.Prelude.{◌≡◌, ℕ, suc, ◌+◌, Bool, true, false, ◌||◌, ◌&&◌, ◌==◌, if◌then◌else◌, length, List, [], ◌∷◌, ◌++◌, map, replicate, Option, Some, None}
use Rattle.std.proofs.Common.{refl, sym, ap, ◌∙◌, arith, length-append}
use Rattle.std.specs.Borrow.{Bor}
use Rattle.std.proofs.lemmas.List.{length-map, length-replicate, map-append}
use Rattle.std.proofs.lemmas.Bool.Decides.{nat_tests}
use Rattle.isp_code.specs.declared.register.Register.{Register}
use Rattle.isp_asm.specs.declared.fault.Rule.{Rule}
use Rattle.isp_asm.specs.declared.head.Head.TheVariants as head
use Rattle.isp_asm.specs.declared.head.Op.{Op}
use Rattle.isp_asm.specs.declared.row.Tail.{Tail}
use Rattle.isp_asm.specs.declared.shape.Ending.{Ending}
use Rattle.isp_asm.specs.declared.shape.Shape.{Shape}
use Rattle.isp_asm.specs.Faults.{words_fault, or_else, operands_fault}
use Rattle.isp_asm.specs.Forms.{Form, register, ending_forms, registers_and, shaped, exactly, either}
use Rattle.isp_asm.specs.Heads.{op_word}
use Rattle.isp_asm.specs.Rows.{row_words, instr_words, tail_words}
use Rattle.isp_asm.specs.Shapes.{shape_of}
use Rattle.isp_asm.specs.Words.{register_word}
use Rattle.isp_asm.specs.reader.Making.{made}
use Rattle.isp_asm.specs.reader.Reading.{Splits, ending_of, has_registers, behind_fault, tail_fits, words_of}
use Rattle.isp_code.specs.Writable.{instr_fits, register_fits}
use Rattle.std.specs.List.{list_all}
use Rattle.isp_asm.proofs.FitRows.{fit_row}
use Rattle.isp_asm.proofs.RowLaws.{row_fits}
use Rattle.isp_asm.proofs.MadeRows.{made_row}
use Rattle.isp_asm.proofs.Steps.{Match, words_fault-append}

-- the words are the registers and the ending
forms_length : (n : ℕ) (e : Ending) → length (registers_and n e) ≡ n + length (ending_forms e)
forms_length n e = length-append (replicate n register) (ending_forms e) ∙ ap (λ k. k + length (ending_forms e)) (length-replicate n register)

choose : (more : Bool) (m n k : ℕ) (fs gs : List Form) → length fs ≡ m + k → length gs ≡ suc m + k → ((n == m) || (more && (n == suc m))) ≡ true → (if more then either fs gs (n + k) else exactly fs (n + k)) ≡ (if n == m then Some fs else Some gs)
choose more m n k fs gs a b h = by (n == m) refl more h
  where
    same : (x y : ℕ) → x ≡ y → (x == y) ≡ true
    same x y e = grind (arith, nat_tests)

    other : (x y : ℕ) → x ≡ suc y → (x == y) ≡ false
    other x y e = grind (arith, nat_tests)

    is : (x y : ℕ) → (x == y) ≡ true → x ≡ y
    is x y e = grind (arith, nat_tests)

    by : (t : Bool) → (n == m) ≡ t → (more : Bool) → (t || (more && (n == suc m))) ≡ true → (if more then either fs gs (n + k) else exactly fs (n + k)) ≡ (if t then Some fs else Some gs)
    by true e true q = rw (a, same (n + k) (m + k) (ap (λ x. x + k) (is n m e))) refl
    by true e false q = rw (a, same (n + k) (m + k) (ap (λ x. x + k) (is n m e))) refl
    by false e true q =
        let i = is n (suc m) q in
        rw (a, b, other (n + k) (m + k) (omega (arith, i)), same (n + k) (suc m + k) (ap (λ x. x + k) i)) refl
    by false e false q = absurd cc

pub shaped_by : (s : Shape) (n : ℕ) → has_registers s n ≡ true → shaped s (n + length (ending_forms s.ending)) ≡ Some (registers_and n s.ending)
shaped_by s n h =
    choose s.more s.fewest n (length (ending_forms s.ending)) (registers_and s.fewest s.ending) (registers_and (suc s.fewest) s.ending) (forms_length s.fewest s.ending) (forms_length (suc s.fewest) s.ending) h
    ∙ by (n == s.fewest) refl s.more h
  where
    is : (x y : ℕ) → (x == y) ≡ true → x ≡ y
    is x y e = grind (arith, nat_tests)

    by : (t : Bool) → (n == s.fewest) ≡ t → (more : Bool) → (t || (more && (n == suc s.fewest))) ≡ true → (if t then Some (registers_and s.fewest s.ending) else Some (registers_and (suc s.fewest) s.ending)) ≡ Some (registers_and n s.ending)
    by true e more q = rw (is n s.fewest e) refl
    by false e true q = rw (is n (suc s.fewest) q) refl
    by false e false q = absurd cc

-- the fault of the words of an instruction
module _ (o : Op) (front back : List (List ℕ)) (count : length back ≡ length (ending_forms (shape_of o).ending)) (has : has_registers (shape_of o) (length front) ≡ true) where
  match_registers : (ws : List (List ℕ)) → Match (replicate (length ws) register) ws
  match_registers [] = tt
  match_registers (w ∷ ws) = match_registers ws

  none_else : (r : Option Rule) → or_else r None ≡ r
  none_else None = refl
  none_else (Some r) = refl

  pub instr_fault : behind_fault (head.Op o) (front ++ back) ≡ or_else (words_fault (replicate (length front) register) front) (words_fault (ending_forms (shape_of o).ending) back)
  instr_fault =
      let e : length (front ++ back) ≡ length front + length (ending_forms (shape_of o).ending) = length-append front back ∙ ap (λ k. length front + k) count in
      ap (λ n. operands_fault (head.Op o) (shaped (shape_of o) n) (front ++ back)) e
      ∙ ap (λ fs. operands_fault (head.Op o) fs (front ++ back)) (shaped_by (shape_of o) (length front) has)
      ∙ none_else (words_fault (registers_and (length front) (shape_of o).ending) (front ++ back))
      ∙ words_fault-append (replicate (length front) register) (ending_forms (shape_of o).ending) front back (match_registers front)

-- what is made of the words has these words
pub instr_spelled : (o : Op) (rs : List Register) (t : Tail) (front back : List (List ℕ)) → ending_of t ≡ (shape_of o).ending
    → has_registers (shape_of o) (length rs) ≡ true → map register_word rs ≡ front → tail_words t ≡ back
    → instr_words (made o rs t) ≡ op_word o ∷ (front ++ back)
instr_spelled o rs t front back e h f b = ap row_words (made_row o rs t e h) ∙ (rw (f, b) refl)

-- the same of words as the reader has them
module _ (o : Op) (s : Shape) (same : s ≡ shape_of o) (ws front back : List (Bor (List ℕ))) (cut : Splits s ws front back) where
  pub all_words : words_of ws ≡ words_of front ++ words_of back
  all_words = ap words_of (sym cut.whole) ∙ map-append (λ (w : Bor (List ℕ)). w.now) front back

  count_of : (xs : List (Bor (List ℕ))) → length (words_of xs) ≡ length xs
  count_of xs = length-map xs (λ (w : Bor (List ℕ)). w.now)

  words_are : behind_fault (head.Op o) (words_of ws) ≡ or_else (words_fault (replicate (length front) register) (words_of front)) (words_fault (ending_forms s.ending) (words_of back))
  words_are =
      let e : length (words_of back) ≡ length (ending_forms (shape_of o).ending) = count_of back ∙ (rw same at cut.ending) in
      let h : has_registers (shape_of o) (length (words_of front)) ≡ true = rw (count_of front) (rw same at cut.registers) in
      ap (λ us. behind_fault (head.Op o) us) all_words
      ∙ instr_fault o (words_of front) (words_of back) e h
      ∙ ap (λ n. or_else (words_fault (replicate n register) (words_of front)) (words_fault (ending_forms (shape_of o).ending) (words_of back))) (count_of front)
      ∙ ap (λ (t : Shape). or_else (words_fault (replicate (length front) register) (words_of front)) (words_fault (ending_forms t.ending) (words_of back))) (sym same)

  pub registers_wrong : (r : Rule) → words_fault (replicate (length front) register) (words_of front) ≡ Some r → behind_fault (head.Op o) (words_of ws) ≡ Some r
  registers_wrong r h = words_are ∙ (rw h refl)

  pub tail_wrong : (r : Rule) → words_fault (replicate (length front) register) (words_of front) ≡ None → words_fault (ending_forms s.ending) (words_of back) ≡ Some r → behind_fault (head.Op o) (words_of ws) ≡ Some r
  tail_wrong r h k = words_are ∙ (rw (h, k) refl)

  pub none_wrong : words_fault (replicate (length front) register) (words_of front) ≡ None → words_fault (ending_forms s.ending) (words_of back) ≡ None → behind_fault (head.Op o) (words_of ws) ≡ None
  none_wrong h k = words_are ∙ (rw (h, k) refl)

  pub made_spelled : (rs : List Register) (t : Tail) → map register_word rs ≡ words_of front → tail_words t ≡ words_of back → ending_of t ≡ s.ending → instr_words (made o rs t) ≡ op_word o ∷ words_of ws
  made_spelled rs t f b e =
      let n : length rs ≡ length front = sym (length-map rs register_word) ∙ ap length f ∙ count_of front in
      let h : has_registers (shape_of o) (length rs) ≡ true = rw n (rw same at cut.registers) in
      instr_spelled o rs t (words_of front) (words_of back) (e ∙ ap (λ (t : Shape). t.ending) same) h f b ∙ ap (λ us. op_word o ∷ us) (sym all_words)

  pub made_fits : (rs : List Register) (t : Tail) → map register_word rs ≡ words_of front → ending_of t ≡ s.ending → list_all register_fits rs ≡ true → tail_fits t ≡ true → instr_fits (made o rs t) ≡ true
  made_fits rs t f e h k =
      let n : length rs ≡ length front = sym (length-map rs register_word) ∙ ap length f ∙ count_of front in
      let i : has_registers (shape_of o) (length rs) ≡ true = rw n (rw same at cut.registers) in
      fit_row (made o rs t) (ap row_fits (made_row o rs t (e ∙ ap (λ (t : Shape). t.ending) same) i) ∙ (rw (h, k) refl))
