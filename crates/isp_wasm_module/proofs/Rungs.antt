-- The bytes of the ladder of rungs.
use Rattle.std.proofs.Common.{◌≡◌, ℕ, zero, suc, ◌+◌, ◌-◌, ◌<◌, List, ◌++◌, refl, sym, ap, ◌∙◌, add-one, append-nil, append_assoc, Some, arith}
use Rattle.std.specs.Prelude.{slice_get}
use Rattle.isp_code.specs.declared.instr.Instr.{Instr}
use Rattle.isp_wasm_meaning.specs.Ladder.{counting, ladder}
use Rattle.isp_wasm_meaning.specs.Syntax as wasm
use Rattle.isp_wasm_meaning.specs.Syntax.{Code}
use Rattle.isp_wasm.specs.Places.{Setting, Counter}
use Rattle.isp_wasm.specs.Templates.{code_of, code_at, span, rung, function_code}
use Rattle.isp_wasm_binary.specs.Instructions.{code_bytes, word_bytes, Block_word, Loop_word, End_word, Unreachable_word}
use Rattle.isp_wasm_module.specs.reader.Pieces.{opened, closed}

-- ---- one more

pub one_opened : (n : ℕ) → opened (n + 1) ≡ opened n ++ word_bytes Block_word
one_opened n = ap opened (add-one n) ∙ by n
  where
    by : (n : ℕ) → opened (suc n) ≡ opened n ++ word_bytes Block_word
    by zero = refl
    by (suc n) = ap (λ l. word_bytes Block_word ++ l) (by n) ∙ sym (append_assoc (word_bytes Block_word) (opened n) (word_bytes Block_word))

pub block_step : (n : ℕ) (o a b : List ℕ) → b ≡ a ++ word_bytes Block_word → a ≡ o ++ opened n → b ≡ o ++ opened (n + 1)
block_step n o a b e g =
    e ∙ ap (λ l. l ++ word_bytes Block_word) g ∙ append_assoc o (opened n) (word_bytes Block_word) ∙ ap (λ l. o ++ l) (sym (one_opened n))

pub one_closed : (body : ℕ → Code) (n : ℕ) → closed body (n + 1) ≡ closed body n ++ (word_bytes End_word ++ code_bytes (body n))
one_closed body n = ap (closed body) (add-one n)

-- what is written, and what the others will add
pub step : (a b init f rest whole : List ℕ) → b ≡ a ++ f → whole ≡ f ++ rest → a ++ whole ≡ init → b ++ rest ≡ init
step a b init f rest whole e g h = ap (λ l. l ++ rest) e ∙ append_assoc a f rest ∙ ap (λ l. a ++ l) (sym g) ∙ h

-- an instruction, and then the others
pub one_line : (w : Setting) (depth pc end : ℕ) (i : Instr) → pc < end → slice_get w.routine.code pc ≡ Some i
    → code_bytes (span w depth pc (end - pc)) ≡ code_bytes (code_of w depth (w.forms w.home.fn pc) i) ++ code_bytes (span w depth (pc + 1) (end - (pc + 1)))
one_line w depth pc end i h e =
    ap (λ n. code_bytes (span w depth pc n)) (let same : end - pc ≡ suc (end - (pc + 1)) = omega arith in same)
    ∙ ap (λ o. code_bytes (code_at w depth (w.forms w.home.fn pc) o) ++ code_bytes (span w depth (pc + 1) (end - (pc + 1)))) e

pub rung_is : (w : Setting) (k : ℕ)
    → code_bytes (span w (w.rungs - 1 - k) (w.heads k) (w.heads (k + 1) - w.heads k)) ≡ code_bytes (rung w k)
rung_is w k =
    ap (λ d. code_bytes (span w d (w.heads k) (w.heads (k + 1) - w.heads k))) (let same : w.rungs - 1 - k ≡ w.rungs - suc k = omega arith in same)
    ∙ ap (λ n. code_bytes (span w (w.rungs - suc k) (w.heads k) (w.heads n - w.heads k))) (add-one k)

-- ---- the whole

regrouped : (b o t c e r : List ℕ) → (b ++ ((o ++ (t ++ c)) ++ e)) ++ r ≡ (b ++ o) ++ (t ++ (c ++ (e ++ r)))
regrouped b o t c e r = simp append_assoc

regrouped_all : (l o t c e u : List ℕ) → (l ++ ((o ++ (t ++ c)) ++ e)) ++ u ≡ l ++ (o ++ (t ++ (c ++ (e ++ u))))
regrouped_all l o t c e u = simp append_assoc

ladder_bytes : (pc n k : ℕ) (body : ℕ → Code) → code_bytes (ladder pc body n k) ≡ opened k ++ (code_bytes (wasm.BrTable (counting n 0) n (wasm.Local pc)) ++ closed body k)
ladder_bytes pc n zero body = sym (append-nil (code_bytes (wasm.BrTable (counting n 0) n (wasm.Local pc))))
ladder_bytes pc n (suc k) body =
    let table = code_bytes (wasm.BrTable (counting n 0) n (wasm.Local pc)) in
    let block = word_bytes Block_word in
    let end = word_bytes End_word in
    ap (λ l. (block ++ (l ++ end)) ++ code_bytes (body k)) (ladder_bytes pc n k body)
    ∙ regrouped block (opened k) table (closed body k) end (code_bytes (body k))

chained : (a b c d e f g : List ℕ) → (((((a ++ b) ++ c) ++ d) ++ e) ++ f) ++ g ≡ a ++ (b ++ (c ++ (d ++ (e ++ (f ++ g)))))
chained a b c d e f g = simp append_assoc

function_bytes : (w : Setting)
    → code_bytes (function_code w)
    ≡ word_bytes Loop_word ++ (opened w.rungs ++ (code_bytes (wasm.BrTable (counting w.rungs 0) w.rungs (wasm.Local (w.local Counter))) ++ (closed (rung w) w.rungs ++ (word_bytes End_word ++ word_bytes Unreachable_word))))
function_bytes w =
    let table = code_bytes (wasm.BrTable (counting w.rungs 0) w.rungs (wasm.Local (w.local Counter))) in
    let loop = word_bytes Loop_word in
    let end = word_bytes End_word in
    let last = word_bytes Unreachable_word in
    ap (λ l. (loop ++ (l ++ end)) ++ last) (ladder_bytes (w.local Counter) w.rungs w.rungs (rung w)) ∙ regrouped_all loop (opened w.rungs) table (closed (rung w) w.rungs) end last

-- what is appended, one after the other
pub ladder_chain : (w : Setting) (a c d e f g h : List ℕ) (n : ℕ) → n ≡ w.rungs → c ≡ a ++ word_bytes Loop_word → d ≡ c ++ opened n
    → e ≡ d ++ code_bytes (wasm.BrTable (counting w.rungs 0) w.rungs (wasm.Local (w.local Counter))) → f ≡ e ++ closed (rung w) n
    → g ≡ f ++ word_bytes End_word → h ≡ g ++ word_bytes Unreachable_word → h ≡ a ++ code_bytes (function_code w)
ladder_chain w a c d e f g h n same q r s t u v =
    let table = code_bytes (wasm.BrTable (counting w.rungs 0) w.rungs (wasm.Local (w.local Counter))) in
    let joined : h ≡ (((((a ++ word_bytes Loop_word) ++ opened w.rungs) ++ table) ++ closed (rung w) w.rungs) ++ word_bytes End_word) ++ word_bytes Unreachable_word = cc in
    joined ∙ chained a (word_bytes Loop_word) (opened w.rungs) table (closed (rung w) w.rungs) (word_bytes End_word) (word_bytes Unreachable_word)
    ∙ ap (λ l. a ++ l) (sym (function_bytes w))
