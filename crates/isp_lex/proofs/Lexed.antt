-- A text has one list of tokens, or a fault.
use Rattle.std.proofs.Common.{◌≡◌, ℕ, zero, suc, ◌+◌, ◌-◌, ◌<◌, ◌≤◌, List, [], ◌∷◌, ◌++◌, length, take, drop, Option, Some, None, refl, sym, ap, subst, ◌∙◌, arith, length-append, append_assoc, inl, inr}
use Rattle.std.proofs.lemmas.List.{append-nil, drop_at, take_at}
use Rattle.std.specs.List.{All}
use Rattle.std.proofs.lemmas.List.Elements.{All-nil, All-cons}
use Rattle.isp_lex.specs.declared.fault.Fault.{Fault}
use Rattle.isp_lex.specs.declared.piece.Piece.{Piece}
use Rattle.isp_lex.specs.declared.token.Token.{Token}
use Rattle.isp_lex.specs.declared.token.TokenKind.{TokenKind}
use Rattle.isp_lex.specs.Lexing.{IsFault, IsText, Lexes, done, blank, comment, token, slice, span}
use Rattle.isp_lex.specs.reader.Pieces.{Front, Passes, with_piece, with_token}
use Rattle.isp_lex.proofs.Fronts.{front_drop}
use Rattle.isp_lex.proofs.Steps.{comment_some, no_text, step, step_blank, step_comment, step_token, step_fault}

-- the rest is not longer
pub rest_le : {place : ℕ} {text : List ℕ} {ts : List Token} {rest : List ℕ} → Lexes place text ts rest → length rest ≤ length text
rest_le (done place rest) = omega arith
rest_le (blank place b text ts rest e d) = omega (arith, rest_le d)
rest_le (comment place text after ts rest i d) = omega (arith, rest_le d, length-append text after)
rest_le (token place k text after ts rest i w d) = omega (arith, rest_le d, length-append text after)

-- tokens, and more from where they end
pub join : {place : ℕ} {text : List ℕ} {ts : List Token} {mid : List ℕ} → Lexes place text ts mid → (end : ℕ) → end + length mid ≡ place + length text
    → {us : List Token} {rest : List ℕ} → Lexes end mid us rest → Lexes place text (ts ++ us) rest
join (done place mid) end e {us} {rest} d = subst (λ (n : ℕ). Lexes n mid us rest) (omega arith) d
join (blank place b text ts mid e i) end q {us} {rest} d = blank place b text (ts ++ us) rest e (join i end (omega arith) d)
join (comment place text after ts mid i j) end q {us} {rest} d =
    comment place text after (ts ++ us) rest i (join j end (omega (arith, length-append text after)) d)
join (token place k text after ts mid i w j) end q {us} {rest} d =
    token place k text after (ts ++ us) rest i w (join j end (omega (arith, length-append text after)) d)

one_more : (place : ℕ) (t : Option TokenKind) (n : ℕ) (text after : List ℕ) → length text ≡ n → Passes t text after → Lexes place (text ++ after) (with_token [] place t n) after
one_more place None n text after l h =
    elim h [
      | inl b ↦ subst (λ (x : List ℕ). Lexes place (x ++ after) [] after) (sym b.1) (blank place b.0 after [] after b.2 (done (place + 1) after))
      | inr c ↦ comment place text after [] after c (done (place + length text) after)
    ]
one_more place (Some k) n text after l h =
    subst (λ (m : ℕ). Lexes place (text ++ after) (record { kind = k; span = span place m } ∷ []) after) l
    (token place k text after [] after h.0 h.1 (done (place + length text) after))

with_more : (ts : List Token) (place : ℕ) (t : Option TokenKind) (n : ℕ) → ts ++ with_token [] place t n ≡ with_token ts place t n
with_more ts place None n = append-nil ts
with_more ts place (Some k) n = refl

-- one piece more
pub advance : (text : List ℕ) (ts : List Token) (bs : List ℕ) (p : Piece) (place : ℕ) → Lexes 0 text ts bs → place + length bs ≡ length text → Front bs p → Lexes 0 text (with_piece ts place p) (drop p.len bs)
advance text ts bs p place d e f =
    let o = one_more place p.token p.len f.text f.after f.size f.passes in
    let q : Lexes place bs (with_token [] place p.token p.len) f.after = subst (λ (l : List ℕ). Lexes place l (with_token [] place p.token p.len) f.after) (sym f.split) o in
    let j : Lexes 0 text (ts ++ with_token [] place p.token p.len) f.after = join d place (omega (arith, e)) q in
    subst (λ (l : List ℕ). Lexes 0 text (with_piece ts place p) l) (sym (front_drop bs p f))
    (subst (λ (us : List Token). Lexes 0 text us f.after) (with_more ts place p.token p.len) j)

-- the tokens from a place on, and what is left where no step goes on. The first number bounds the steps, and the text's
-- length is enough.
put_token : ℕ → Option TokenKind → ℕ → List Token × List ℕ → List Token × List ℕ
put_token place None n r = r
put_token place (Some k) n r = (record { kind = k; span = span place n } ∷ r.0, r.1)

next_at : (ℕ → List ℕ → List Token × List ℕ) → ℕ → List ℕ → Option Piece → List Token × List ℕ
next_at more place text None = ([], text)
next_at more place text (Some p) = put_token place p.token p.len (more (place + p.len) (drop p.len text))

unfoldable lex_at : ℕ → ℕ → List ℕ → List Token × List ℕ
lex_at zero place text = ([], text)
lex_at (suc f) place text = next_at (lex_at f) place text (step text)

ends_at : {place : ℕ} {text : List ℕ} {ts : List Token} {rest : List ℕ} → Lexes place text ts rest → step rest ≡ None → (f : ℕ) → length text ≤ f → lex_at f place text ≡ (ts, rest)
unfolding lex_at next_at put_token
ends_at (done place rest) h zero le = refl
ends_at (done place rest) h (suc f) le = ap (next_at (lex_at f) place rest) h
ends_at (blank place b text ts rest e d) h zero le = absurd (omega arith)
ends_at (blank place b text ts rest e d) h (suc f) le = rw (step_blank b text e) (ends_at d h f (omega arith))
ends_at (comment place [] after ts rest i d) h f le = absurd (omega (arith, comment_some i))
ends_at (comment place (b ∷ text) after ts rest i d) h zero le = absurd (omega arith)
ends_at (comment place (b ∷ text) after ts rest i d) h (suc f) le =
    let r = ends_at d h f (omega (arith, length-append text after)) in
    let p = drop_at (b ∷ text) after (length (b ∷ text)) refl in
    ap (next_at (lex_at f) place (b ∷ (text ++ after))) (step_comment i)
    ∙ ap (λ (l : List ℕ). lex_at f (place + suc (length text)) l) p
    ∙ r
ends_at (token place k [] after ts rest i w d) h f le = absurd (no_text k i)
ends_at (token place k (b ∷ text) after ts rest i w d) h zero le = absurd (omega arith)
ends_at (token place k (b ∷ text) after ts rest i w d) h (suc f) le =
    let r = ends_at d h f (omega (arith, length-append text after)) in
    let t : Token = record { kind = k; span = span place (length (b ∷ text)) } in
    let p = drop_at (b ∷ text) after (length (b ∷ text)) refl in
    ap (next_at (lex_at f) place (b ∷ (text ++ after))) (step_token k (b ∷ text) after i w)
    ∙ ap (λ (l : List ℕ). put_token place (Some k) (length (b ∷ text)) (lex_at f (place + suc (length text)) l)) p
    ∙ ap (put_token place (Some k) (length (b ∷ text))) r

-- where no step goes on, the tokens so far and the rest are the text's alone
pub one_end : (text : List ℕ) (ts us : List Token) (rest more : List ℕ) → Lexes 0 text ts rest → step rest ≡ None → Lexes 0 text us more → step more ≡ None → (ts ≡ us) × (rest ≡ more)
one_end text ts us rest more d h e i =
    let s : (ts, rest) ≡ (us, more) = sym (ends_at d h (length text) (omega arith)) ∙ ends_at e i (length text) (omega arith) in
    (ap (λ (r : List Token × List ℕ). r.0) s, ap (λ (r : List Token × List ℕ). r.1) s)

-- no text has two lists of tokens
pub one_list : (text : List ℕ) (ts us : List Token) → Lexes 0 text ts [] → Lexes 0 text us [] → ts ≡ us
one_list text ts us d e = (one_end text ts us [] [] d refl e refl).0

-- a text with tokens has no fault
pub no_fault : (text : List ℕ) (ts us : List Token) (rest : List ℕ) (place : ℕ) (f : Fault) → Lexes 0 text ts [] → Lexes 0 text us rest → 0 < length rest → IsFault place rest f → ⊥
no_fault text ts us rest place f d e l i = let p : [] ≡ rest = (one_end text ts us [] rest d refl e (step_fault i)).1 in omega (arith, ap length p)

-- what the span of a token names after a front
slice_here : (front text after : List ℕ) (place : ℕ) → length front ≡ place → slice (span place (length text)) (front ++ (text ++ after)) ≡ text
slice_here front text after place e =
    let d = drop_at front (text ++ after) place e in
    let n : place + length text - place ≡ length text = omega arith in
    ap (take (place + length text - place)) d ∙ ap (λ (k : ℕ). take k (text ++ after)) n ∙ take_at text after (length text) refl

abbrev Sliced : List ℕ → Token → Type 0
Sliced text t = IsText t.kind (slice t.span text)

slices_at : {place : ℕ} {text : List ℕ} {ts : List Token} {rest : List ℕ} → Lexes place text ts rest → (front : List ℕ) → length front ≡ place → All (Sliced (front ++ text)) ts
slices_at (done place rest) front e = All-nil _
slices_at (blank place b text ts rest h d) front e =
    subst (λ (l : List ℕ). All (Sliced l) ts) (append_assoc front (b ∷ []) text) (slices_at d (front ++ b ∷ []) (omega (arith, length-append front (b ∷ []))))
slices_at (comment place text after ts rest i d) front e =
    subst (λ (l : List ℕ). All (Sliced l) ts) (append_assoc front text after) (slices_at d (front ++ text) (omega (arith, length-append front text)))
slices_at (token place k text after ts rest i w d) front e =
    let more = subst (λ (l : List ℕ). All (Sliced l) ts) (append_assoc front text after) (slices_at d (front ++ text) (omega (arith, length-append front text))) in
    let here = subst (IsText k) (sym (slice_here front text after place e)) i in
    All-cons (Sliced (front ++ (text ++ after))) (record { kind = k; span = span place (length text) }) ts here more

-- each token is written as the slice of its span
pub slices : (text : List ℕ) (ts : List Token) → Lexes 0 text ts [] → All (λ (t : Token). IsText t.kind (slice t.span text)) ts
slices text ts d = slices_at d [] refl
