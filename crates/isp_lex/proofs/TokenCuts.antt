-- Tokens begin and end where characters do.
use Rattle.std.proofs.Common.{◌≡◌, ℕ, suc, ◌+◌, ◌<◌, List, [], ◌∷◌, ◌++◌, length, get_or, drop, refl, sym, ap, subst, ◌∙◌, arith, length-append, append_assoc}
use Rattle.std.specs.Str.{IsUtf8, IsAscii, IsCharBoundary}
use Rattle.std.specs.List.{All}
use Rattle.std.proofs.lemmas.List.{drop_at, get_or-drop}
use Rattle.std.proofs.lemmas.List.Elements.{All-nil, All-cons}
use Rattle.std.proofs.lemmas.Str.{IsCharBoundary-after_ascii, IsCharBoundary-start}
use Rattle.isp_lex.specs.declared.token.Token.{Token}
use Rattle.isp_lex.specs.declared.token.TokenKind.{TokenKind}
use Rattle.isp_lex.specs.declared.token.TokenKind.TheVariants as kind
use Rattle.isp_lex.specs.Cuts.{IsCut}
use Rattle.isp_lex.specs.Lexing.{IsComment, line, closed, IsText, Lexes, done, blank, comment, token, span}
use Rattle.isp_lex.proofs.Classes.{blank_ascii}
use Rattle.isp_lex.proofs.CommentLaws.{line_cut}
use Rattle.isp_lex.proofs.NumberLaws.{number_word_bytes}
use Rattle.isp_lex.proofs.Runs.{words_ascii}
use Rattle.isp_lex.proofs.Spellings.{mark_ascii}
use Rattle.isp_lex.proofs.Steps.{no_text}
use Rattle.isp_lex.proofs.Words.{left_word}

-- the last byte is ASCII
record EndsLow (text : List ℕ) : Type 0 where
  front : List ℕ
  last : ℕ
  split : text ≡ front ++ last ∷ []
  low : last < 128

low_from : (b : ℕ) (bs : List ℕ) → ((i : ℕ) → get_or (b ∷ bs) i 0 < 128) → EndsLow (b ∷ bs)
low_from b [] h = record { front = []; last = b; split = refl; low = h 0 }
low_from b (c ∷ cs) h =
    let e = low_from c cs (λ i. h (suc i)) in
    record { front = b ∷ e.front; last = e.last; split = ap (λ (l : List ℕ). b ∷ l) e.split; low = e.low }

ascii_low : (text : List ℕ) → (text ≡ [] → ⊥) → IsAscii text → EndsLow text
ascii_low [] n h = absurd (n refl)
ascii_low (b ∷ bs) n h = low_from b bs h

not_empty : (k : TokenKind) (text : List ℕ) → IsText k text → text ≡ [] → ⊥
not_empty k text i e = no_text k (subst (IsText k) e i)

text_low : (k : TokenKind) (text : List ℕ) → IsText k text → EndsLow text
text_low (kind.Word w) text i = ascii_low text (not_empty (kind.Word w) text i) (words_ascii text i.1.1)
text_low (kind.Number v) text i = ascii_low text (not_empty (kind.Number v) text i) (words_ascii text (number_word_bytes text v i))
text_low (kind.Text t) text i = record { front = 34 ∷ i.0; last = 34; split = i.1; low = omega arith }
text_low (kind.Mark m) text i = ascii_low text (not_empty (kind.Mark m) text i) (subst IsAscii (sym i) (mark_ascii m))
text_low kind.LeftOut text i = ascii_low text (not_empty kind.LeftOut text i) (words_ascii text (left_word text i).1)

-- a text may be cut after what ends with ASCII
low_cut : (front text after : List ℕ) (at : ℕ) → IsUtf8 (front ++ (text ++ after)) → EndsLow text → at ≡ length front + length text → IsCharBoundary (front ++ (text ++ after)) at
low_cut front text after at u e q =
    let all_of = front ++ (text ++ after) in
    let n = length front + length e.front in
    let s : all_of ≡ (front ++ e.front) ++ e.last ∷ after =
    ap (λ (l : List ℕ). front ++ (l ++ after)) e.split ∙ ap (λ (l : List ℕ). front ++ l) (append_assoc e.front (e.last ∷ []) after) ∙ sym (append_assoc front e.front (e.last ∷ after)) in
    let d : drop n all_of ≡ e.last ∷ after = ap (drop n) s ∙ drop_at (front ++ e.front) (e.last ∷ after) n (length-append front e.front) in
    let k : n + 0 ≡ n = omega arith in
    let g : get_or all_of n 0 ≡ e.last = ap (λ (m : ℕ). get_or all_of m 0) (sym k) ∙ sym (get_or-drop n all_of 0 0) ∙ ap (λ (l : List ℕ). get_or l 0 0) d in
    let l : n < length all_of = omega (arith, ap length s, length-append (front ++ e.front) (e.last ∷ after), length-append front e.front) in
    let c : IsCharBoundary all_of (n + 1) = IsCharBoundary-after_ascii all_of n u l (omega (arith, g, e.low)) in
    let m : n + 1 ≡ at = omega (arith, q, ap length e.split, length-append e.front (e.last ∷ [])) in
    subst (IsCharBoundary all_of) m c

comment_cut : (front : List ℕ) {text after : List ℕ} (at : ℕ) → IsUtf8 (front ++ (text ++ after)) → IsComment text after → at ≡ length front + length text → IsCharBoundary (front ++ (text ++ after)) at
comment_cut front at u (line body rest h e) q =
    let all_of = front ++ ((47 ∷ 47 ∷ body) ++ rest) in
    let s = append_assoc front (47 ∷ 47 ∷ body) rest in
    let d : drop at all_of ≡ rest = ap (drop at) (sym s) ∙ drop_at (front ++ (47 ∷ 47 ∷ body)) rest at (length-append front (47 ∷ 47 ∷ body) ∙ sym q) in
    line_cut all_of at rest (omega (arith, q, length-append front ((47 ∷ 47 ∷ body) ++ rest), length-append (47 ∷ 47 ∷ body) rest)) d e
comment_cut front at u (closed body rest h) q =
    low_cut front (47 ∷ 42 ∷ (body ++ 42 ∷ 47 ∷ [])) rest at u
    (record { front = 47 ∷ 42 ∷ (body ++ 42 ∷ []); last = 47; split = ap (λ (l : List ℕ). 47 ∷ 42 ∷ l) (sym (append_assoc body (42 ∷ []) (47 ∷ []))); low = omega arith }) q

cuts_at : {place : ℕ} {text : List ℕ} {ts : List Token} {rest : List ℕ} → Lexes place text ts rest → (front : List ℕ) → length front ≡ place → IsUtf8 (front ++ text) → IsCharBoundary (front ++ text) place → All (IsCut (front ++ text)) ts
cuts_at (done place rest) front e u c = All-nil _
cuts_at (blank place b text ts rest h d) front e u c =
    let s = append_assoc front (b ∷ []) text in
    let n = low_cut front (b ∷ []) text (place + 1) u (record { front = []; last = b; split = refl; low = blank_ascii b h }) (omega arith) in
    subst (λ (l : List ℕ). All (IsCut l) ts) s
    (cuts_at d (front ++ b ∷ []) (omega (arith, length-append front (b ∷ []))) (subst IsUtf8 (sym s) u) (subst (λ (l : List ℕ). IsCharBoundary l (place + 1)) (sym s) n))
cuts_at (comment place text after ts rest i d) front e u c =
    let s = append_assoc front text after in
    let n = comment_cut front (place + length text) u i (omega arith) in
    subst (λ (l : List ℕ). All (IsCut l) ts) s
    (cuts_at d (front ++ text) (omega (arith, length-append front text)) (subst IsUtf8 (sym s) u) (subst (λ (l : List ℕ). IsCharBoundary l (place + length text)) (sym s) n))
cuts_at (token place k text after ts rest i w d) front e u c =
    let s = append_assoc front text after in
    let n = low_cut front text after (place + length text) u (text_low k text i) (omega arith) in
    let more = subst (λ (l : List ℕ). All (IsCut l) ts) s
    (cuts_at d (front ++ text) (omega (arith, length-append front text)) (subst IsUtf8 (sym s) u) (subst (λ (l : List ℕ). IsCharBoundary l (place + length text)) (sym s) n)) in
    All-cons (IsCut (front ++ (text ++ after))) (record { kind = k; span = span place (length text) }) ts (c, n) more

-- each token begins and ends where a character does
pub cuts : (text : List ℕ) (ts : List Token) (rest : List ℕ) → IsUtf8 text → Lexes 0 text ts rest → All (IsCut text) ts
cuts text ts rest u d = cuts_at d [] refl u (IsCharBoundary-start text u)
