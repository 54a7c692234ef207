-- A text has one first fault at most.
use Rattle.std.proofs.Common.{◌≡◌, ℕ, ◌+◌, ◌-◌, ◌<◌, Bool, true, false, cond, List, [], ◌∷◌, ◌++◌, length, drop, refl, sym, ap, subst, ◌∙◌, arith, length-append}
use Rattle.std.specs.Prelude.{◌==◌}
use Rattle.std.specs.Char.{encode_utf8, is_ascii_digit}
use Rattle.std.proofs.lemmas.Bool.{false≢true, eqb-true}
use Rattle.std.proofs.lemmas.Bool.Decides.{nat_tests}
use Rattle.std.proofs.lemmas.Str.{encode_same, len_utf8_bounds, length-encode}
use Rattle.isp_lex.specs.declared.fault.Fault.{Fault}
use Rattle.isp_lex.specs.declared.fault.Rule.{Rule}
use Rattle.isp_lex.specs.declared.fault.Rule.TheVariants.{BadByte, BadNumber, BadText, OpenComment}
use Rattle.isp_lex.specs.declared.token.Mark.TheVariants as mark
use Rattle.isp_lex.specs.declared.token.Token.{Token}
use Rattle.isp_lex.specs.Bytes.{begins, is_word_byte, next_is}
use Rattle.isp_lex.specs.Faults.{fault}
use Rattle.isp_lex.specs.Lexing.{BeginsNothing, IsFault, bad_byte, bad_number, bad_text, open_comment, IsFirstFault, Lexes}
use Rattle.isp_lex.specs.Texts.{StopsBefore}
use Rattle.isp_lex.specs.reader.Runs.{run}
use Rattle.isp_lex.proofs.Classes.{begins_word, digit_word}
use Rattle.isp_lex.proofs.Lexed.{one_end}
use Rattle.isp_lex.proofs.Runs.{run_is}
use Rattle.isp_lex.proofs.Steps.{step_fault}
use Rattle.isp_lex.proofs.TextStops.{one_stop}

-- a fault has a byte at least
begins_some : (test : ℕ → Bool) (text rest : List ℕ) → begins test text ≡ true → 0 < length (text ++ rest)
begins_some test [] rest e = absurd (false≢true e)
begins_some test (b ∷ bs) rest e = omega arith

pub fault_some : {place : ℕ} {text : List ℕ} {f : Fault} → IsFault place text f → 0 < length text
fault_some (bad_byte place c rest s h) = omega (arith, length-append (encode_utf8 c) rest, length-encode c, (len_utf8_bounds c).0)
fault_some (bad_number place text rest d h w n) = begins_some is_ascii_digit text rest d
fault_some (bad_text place text rest h) = begins_some (λ b. b == 34) text rest h.quote
fault_some (open_comment place text h) = omega arith

-- the rule that is broken, by how the text begins
abbrev rule_at : List ℕ → Rule
rule_at text = cond (next_is 34 text) BadText (cond (begins is_ascii_digit text) BadNumber (cond (next_is 47 text) OpenComment BadByte))

-- where the place of a fault ends
abbrev IsEnd : Rule → ℕ → List ℕ → ℕ → Type 0
IsEnd BadByte place text end = (c : ℕ) × (rest : List ℕ) × (text ≡ encode_utf8 c ++ rest) × (end ≡ place + length (encode_utf8 c))
IsEnd BadNumber place text end = end ≡ place + run is_word_byte text
IsEnd BadText place text end = (front : List ℕ) × (rest : List ℕ) × (text ≡ front ++ rest) × (end ≡ place + length front) × StopsBefore front rest
IsEnd OpenComment place text end = end ≡ place + length text
IsEnd rule place text end = ⊥

record Stands (place : ℕ) (text : List ℕ) (f : Fault) : Type 0 where
  rule : rule_at text ≡ f.rule
  start : f.span.start ≡ place
  end : IsEnd f.rule place text f.span.end

off : (t : Bool) → (t ≡ true → ⊥) → t ≡ false
off true h = absurd (h refl)
off false h = refl

slash_first : (text : List ℕ) → next_is 47 text ≡ true → text ≡ 47 ∷ drop 1 text
slash_first [] e = absurd (false≢true e)
slash_first (b ∷ bs) e = ap (λ (c : ℕ). c ∷ bs) (eqb-true b 47 e)

nothing_rule : (text : List ℕ) → BeginsNothing text → rule_at text ≡ BadByte
nothing_rule text h =
    let d : begins is_ascii_digit text ≡ false = off (begins is_ascii_digit text) (λ e. false≢true (sym h.no_word ∙ begins_word is_ascii_digit text digit_word e)) in
    let s : next_is 47 text ≡ false = off (next_is 47 text) (λ e. h.no_mark mark.Slash (drop 1 text) (slash_first text e)) in
    rw (h.no_quote, d, s) refl

digit_no_quote : (b : ℕ) → is_ascii_digit b ≡ true → (b == 34) ≡ false
digit_no_quote b e = grind (arith, nat_tests)

digit_rule : (text rest : List ℕ) → begins is_ascii_digit text ≡ true → rule_at (text ++ rest) ≡ BadNumber
digit_rule [] rest e = absurd (false≢true e)
digit_rule (b ∷ bs) rest e = rw (digit_no_quote b e, e) refl

quote_rule : (text rest : List ℕ) → next_is 34 text ≡ true → rule_at (text ++ rest) ≡ BadText
quote_rule [] rest e = absurd (false≢true e)
quote_rule (b ∷ bs) rest e = rw e refl

stands : {place : ℕ} {text : List ℕ} {f : Fault} → IsFault place text f → Stands place text f
stands (bad_byte place c rest s h) = record { rule = nothing_rule (encode_utf8 c ++ rest) h; start = refl; end = (c, rest, refl, refl) }
stands (bad_number place text rest d h w n) = record { rule = digit_rule text rest d; start = refl; end = ap (λ (k : ℕ). place + k) (sym (run_is is_word_byte text rest h w)) }
stands (bad_text place text rest h) = record { rule = quote_rule text rest h.quote; start = refl; end = (text, rest, refl, refl, h) }
stands (open_comment place text h) = record { rule = refl; start = refl; end = refl }

same_end : (rule : Rule) (place : ℕ) (text : List ℕ) (m n : ℕ) → IsEnd rule place text m → IsEnd rule place text n → m ≡ n
same_end BadByte place text m n (c, rest, e, l) (d, more, f, k) =
    l ∙ ap (λ (x : ℕ). place + length (encode_utf8 x)) (encode_same c d rest more (sym e ∙ f)).0 ∙ sym k
same_end BadNumber place text m n e f = e ∙ sym f
same_end BadText place text m n (a, x, e, l, s) (b, y, f, k, t) = l ∙ ap (λ (z : List ℕ). place + length z) (one_stop a x b y s t (sym e ∙ f)) ∙ sym k
same_end OpenComment place text m n e f = e ∙ sym f
same_end rule place text m n e f = absurd e

same_fault : (r s : Rule) (a b c d : ℕ) → r ≡ s → a ≡ b → c ≡ d → fault r (record { start = a; end = c }) ≡ fault s (record { start = b; end = d })
same_fault r s a b c d e f g = rw (e, f, g) refl

one_there : {place : ℕ} {text : List ℕ} (f g : Fault) → Stands place text f → Stands place text g → f ≡ g
one_there {place} {text} f g p q =
    let e : f.rule ≡ g.rule = sym p.rule ∙ q.rule in
    let i : IsEnd g.rule place text f.span.end = subst (λ (r : Rule). IsEnd r place text f.span.end) e p.end in
    same_fault f.rule g.rule f.span.start g.span.start f.span.end g.span.end e (p.start ∙ sym q.start) (same_end g.rule place text f.span.end g.span.end i q.end)

-- no text has two first faults
pub one_fault : (text : List ℕ) (f g : Fault) → IsFirstFault f text → IsFirstFault g text → f ≡ g
one_fault text f g (ts, rest, d, i) (us, more, e, j) =
    let s : more ≡ rest = sym (one_end text ts us rest more d (step_fault i) e (step_fault j)).1 in
    let k : IsFault (length text - length rest) rest g = subst (λ (l : List ℕ). IsFault (length text - length l) l g) s j in
    one_there f g (stands i) (stands k)

-- none has a fault and tokens
pub not_both : (text : List ℕ) (ts : List Token) (f : Fault) → Lexes 0 text ts [] → IsFirstFault f text → ⊥
not_both text ts f d (us, rest, e, i) =
    let s : [] ≡ rest = (one_end text ts us [] rest d refl e (step_fault i)).1 in
    omega (arith, fault_some i, ap length s)
