-- Parts, lanes and arguments, one after the other.
use Rattle.std.proofs.Common.{◌≡◌, ℕ, zero, suc, ◌+◌, ◌<◌, List, [], ◌∷◌, ◌++◌, drop, get_or, length, refl, ap, sym, ◌∙◌, add-one, arith, append-nil, append_assoc}
use Rattle.std.proofs.lemmas.List.{drop_more}
use Rattle.std.specs.List.{flat_map}
use Rattle.isp_code.specs.declared.register.Register.{Register}
use Rattle.isp_code.specs.declared.instr.Call.{Call}
use Rattle.isp_wasm_meaning.specs.Syntax as wasm
use Rattle.isp_wasm_meaning.specs.Syntax.{Code, Expr}
use Rattle.isp_wasm.specs.Places.{Setting, Top, parts}
use Rattle.isp_wasm.specs.Templates.{each, listed, plus, waiting_calls, lowest_of, mask_local, arguments_of, result_local, take_result, call_code, print_comma, print_item, print_byte, passed_of, passed_all}
use Rattle.isp_wasm_binary.specs.Instructions.{hosts, code_bytes, expr_bytes, result_bytes, word_bytes, Const32_word, Binary_word, If_word, Else_word, End_word, Call_word}
use Rattle.isp_wasm_module.specs.reader.Calls.{guarded, checked}
use Rattle.isp_wasm_module.specs.reader.Lists.{print_lane}

pub one_more : (n : ℕ) (body : ℕ → Code) → code_bytes (each (n + 1) body) ≡ code_bytes (each n body) ++ code_bytes (body n)
one_more n body = ap (λ m. code_bytes (each m body)) (add-one n)

-- ---- what is written

pub no_comma : (w : Setting) (n : ℕ) → n ≡ 0 → code_bytes (print_comma w n) ≡ []
no_comma w n e = ap (λ m. code_bytes (print_comma w m)) e

pub comma_is : (w : Setting) (n : ℕ) → 0 < n → code_bytes (print_comma w n) ≡ code_bytes (print_byte w 44)
comma_is w zero h = absurd (omega (arith, h))
comma_is w (suc n) h = refl

-- ---- what is passed

listed_more : (w : Setting) (n : ℕ) (f : ℕ → Expr) → flat_map expr_bytes (listed w (suc n) f) ≡ flat_map expr_bytes (listed w n f) ++ expr_bytes (f n)
listed_more w zero f = append-nil (expr_bytes (f 0))
listed_more w (suc n) f =
    ap (λ l. expr_bytes (f 0) ++ l) (listed_more w n (λ j. f (suc j))) ∙ regrouped (expr_bytes (f 0)) (flat_map expr_bytes (listed w n (λ j. f (suc j)))) (expr_bytes (f (suc n)))
  where
    regrouped : (a b c : List ℕ) → a ++ (b ++ c) ≡ (a ++ b) ++ c
    regrouped a b c = simp append_assoc

pub one_listed : (w : Setting) (n : ℕ) (f : ℕ → Expr) → flat_map expr_bytes (listed w (n + 1) f) ≡ flat_map expr_bytes (listed w n f) ++ expr_bytes (f n)
one_listed w n f = ap (λ m. flat_map expr_bytes (listed w m f)) (add-one n) ∙ listed_more w n f

flat_both : (xs ys : List Expr) → flat_map expr_bytes (xs ++ ys) ≡ flat_map expr_bytes xs ++ flat_map expr_bytes ys
flat_both [] ys = refl
flat_both (x ∷ xs) ys = ap (λ l. expr_bytes x ++ l) (flat_both xs ys) ∙ regrouped (expr_bytes x) (flat_map expr_bytes xs) (flat_map expr_bytes ys)
  where
    regrouped : (a b c : List ℕ) → a ++ (b ++ c) ≡ (a ++ b) ++ c
    regrouped a b c = simp append_assoc

pub one_passed : (w : Setting) (k : Register) (xs : List Register) (i : ℕ) (x : Register) → i < length xs → x ≡ get_or xs i x
    → flat_map expr_bytes (passed_all w k (drop i xs)) ≡ flat_map expr_bytes (passed_of w k x.class x) ++ flat_map expr_bytes (passed_all w k (drop (i + 1) xs))
one_passed w k xs i x h e =
    ap (λ l. flat_map expr_bytes (passed_all w k l)) (drop_more xs i x h)
    ∙ ap (λ (y : Register). flat_map expr_bytes (passed_all w k (y ∷ drop (i + 1) xs))) (let back : get_or xs i x ≡ x = cc in back)
    ∙ flat_both (passed_of w k x.class x) (passed_all w k (drop (i + 1) xs))

pub one_is : (x : Expr) → flat_map expr_bytes (x ∷ []) ≡ expr_bytes x
one_is x = append-nil (expr_bytes x)

pub two_are : (x y : Expr) → flat_map expr_bytes (x ∷ y ∷ []) ≡ expr_bytes x ++ expr_bytes y
two_are x y = ap (λ l. expr_bytes x ++ l) (append-nil (expr_bytes y))

-- all that a call passes
pub arguments_chain : (w : Setting) (k : Call) (o a b c : List ℕ) (n : ℕ) (xs : List Register)
    → a ≡ o ++ (expr_bytes (plus w (waiting_calls w) 1) ++ expr_bytes (wasm.Local (w.local Top)))
    → b ≡ a ++ flat_map expr_bytes (listed w n (mask_local w k.mask)) → n ≡ parts w wasm.I8x16
    → c ≡ b ++ flat_map expr_bytes (passed_all w k.mask xs) → xs ≡ k.arguments → c ≡ o ++ flat_map expr_bytes (arguments_of w k)
arguments_chain w k o a b c n xs ea eb en ec ex =
    let one = expr_bytes (plus w (waiting_calls w) 1) in
    let two = expr_bytes (wasm.Local (w.local Top)) in
    let mask = listed w (parts w wasm.I8x16) (mask_local w k.mask) in
    let passed = passed_all w k.mask k.arguments in
    let joined : c ≡ ((o ++ (one ++ two)) ++ flat_map expr_bytes (listed w n (mask_local w k.mask))) ++ flat_map expr_bytes (passed_all w k.mask xs) = cc in
    joined ∙ ap (λ m. ((o ++ (one ++ two)) ++ flat_map expr_bytes (listed w m (mask_local w k.mask))) ++ flat_map expr_bytes (passed_all w k.mask xs)) en
    ∙ ap (λ l. ((o ++ (one ++ two)) ++ flat_map expr_bytes mask) ++ flat_map expr_bytes (passed_all w k.mask l)) ex
    ∙ spread o one two (flat_map expr_bytes mask) (flat_map expr_bytes passed) ∙ ap (λ l. o ++ (one ++ (two ++ l))) (sym (flat_both mask passed))
  where
    spread : (o a b c d : List ℕ) → ((o ++ (a ++ b)) ++ c) ++ d ≡ o ++ (a ++ (b ++ (c ++ d)))
    spread o a b c d = simp append_assoc

pub listed_step : (w : Setting) (n : ℕ) (f : ℕ → Expr) (o a b : List ℕ) → b ≡ a ++ expr_bytes (f n) → a ≡ o ++ flat_map expr_bytes (listed w n f)
    → b ≡ o ++ flat_map expr_bytes (listed w (n + 1) f)
listed_step w n f o a b e g =
    e ∙ ap (λ l. l ++ expr_bytes (f n)) g ∙ append_assoc o (flat_map expr_bytes (listed w n f)) (expr_bytes (f n)) ∙ ap (λ l. o ++ l) (sym (one_listed w n f))

-- one lane more
pub item_step : (w : Setting) (x k : Register) (n : ℕ) (o a b c : List ℕ) → b ≡ a ++ code_bytes (print_comma w n) → c ≡ b ++ code_bytes (print_lane w x k n)
    → a ≡ o ++ code_bytes (each n (print_item w x k)) → c ≡ o ++ code_bytes (each (n + 1) (print_item w x k))
item_step w x k n o a b c e f g =
    let comma = code_bytes (print_comma w n) in
    let lane = code_bytes (print_lane w x k n) in
    let before = code_bytes (each n (print_item w x k)) in
    f ∙ ap (λ l. l ++ lane) (e ∙ ap (λ l. l ++ comma) g) ∙ append_assoc (o ++ before) comma lane ∙ append_assoc o before (comma ++ lane)
    ∙ ap (λ l. o ++ l) (sym (one_more n (print_item w x k)))

-- a call that may be one too many, and its trap
pub guarded_chain : (w : Setting) (k : Register) (start end : ℕ) (o a b c d e f g : List ℕ) → a ≡ o ++ expr_bytes (waiting_calls w) → b ≡ a ++ word_bytes (Const32_word 255)
    → c ≡ b ++ word_bytes (Binary_word (wasm.Compare wasm.I32 wasm.LtU)) → d ≡ c ++ word_bytes If_word → e ≡ d ++ word_bytes Else_word
    → f ≡ e ++ code_bytes (wasm.Fail 3 start end (lowest_of w k)) → g ≡ f ++ word_bytes End_word → g ≡ o ++ code_bytes (guarded w k start end)
guarded_chain w k start end o a b c d e f g p q r s t u v =
    let depth = expr_bytes (waiting_calls w) in
    let most = word_bytes (Const32_word 255) in
    let less = word_bytes (Binary_word (wasm.Compare wasm.I32 wasm.LtU)) in
    let fault = code_bytes (wasm.Fail 3 start end (lowest_of w k)) in
    let joined : g ≡ ((((((o ++ depth) ++ most) ++ less) ++ word_bytes If_word) ++ word_bytes Else_word) ++ fault) ++ word_bytes End_word = cc in
    joined ∙ spread o depth most less (word_bytes If_word) (word_bytes Else_word) fault (word_bytes End_word)
  where
    spread : (o a b c d e f g : List ℕ) → ((((((o ++ a) ++ b) ++ c) ++ d) ++ e) ++ f) ++ g ≡ o ++ ((a ++ (b ++ c)) ++ (d ++ ((e ++ f) ++ g)))
    spread o a b c d e f g = simp append_assoc

-- a whole call
pub call_chain : (w : Setting) (k : Call) (n : ℕ) (o a b c d e : List ℕ) → n ≡ hosts + (length w.code.routines + k.function) → a ≡ o ++ code_bytes (checked w k.mask k.place)
    → b ≡ a ++ flat_map expr_bytes (arguments_of w k) → c ≡ b ++ word_bytes (Call_word n) → d ≡ c ++ result_bytes (result_local w k.result)
    → e ≡ d ++ code_bytes (take_result w k.result k.mask) → e ≡ o ++ code_bytes (call_code w k)
call_chain w k n o a b c d e same p q r s t =
    let guard = code_bytes (checked w k.mask k.place) in
    let passed = flat_map expr_bytes (arguments_of w k) in
    let result = result_bytes (result_local w k.result) in
    let taken = code_bytes (take_result w k.result k.mask) in
    let joined : e ≡ ((((o ++ guard) ++ passed) ++ word_bytes (Call_word n)) ++ result) ++ taken = cc in
    joined ∙ spread o guard passed (word_bytes (Call_word n)) result taken ∙ ap (λ m. o ++ (guard ++ ((passed ++ (word_bytes (Call_word m) ++ result)) ++ taken))) same
  where
    spread : (o a b c d e : List ℕ) → ((((o ++ a) ++ b) ++ c) ++ d) ++ e ≡ o ++ (a ++ ((b ++ (c ++ d)) ++ e))
    spread o a b c d e = simp append_assoc
