-- What a text begins with: one function finds it, and finds nothing else.
use Rattle.std.proofs.Common.{◌≡◌, ℕ, suc, ◌<◌, Bool, true, false, cond, List, [], ◌∷◌, ◌++◌, length, take, drop, Option, Some, None, refl, sym, ap, subst, ◌∙◌, arith, length-append, append_assoc}
use Rattle.std.specs.Prelude.{◌==◌}
use Rattle.std.specs.Char.{encode_utf8, is_ascii_digit}
use Rattle.std.proofs.lemmas.Bool.{false≢true, eqb-true}
use Rattle.std.proofs.lemmas.List.{take_at}
use Rattle.isp_base.specs.declared.types.Value.{Value}
use Rattle.isp_lex.specs.declared.fault.Fault.{Fault}
use Rattle.isp_lex.specs.declared.piece.Piece.{Piece}
use Rattle.isp_lex.specs.declared.token.Mark.{Mark}
use Rattle.isp_lex.specs.declared.token.Mark.TheVariants as mark
use Rattle.isp_lex.specs.declared.token.TokenKind.{TokenKind}
use Rattle.isp_lex.specs.declared.token.TokenKind.TheVariants as kind
use Rattle.isp_lex.specs.Bytes.{all, begins, is_blank, is_letter, is_line_byte, is_word_byte, next_is}
use Rattle.isp_lex.specs.Lexing.{BeginsNothing, IsComment, line, closed, IsFault, bad_byte, bad_number, bad_text, open_comment, IsText, IsWhole, IsWord, opens}
use Rattle.isp_lex.specs.Numbers.{IsNumber}
use Rattle.isp_lex.specs.reader.Numerals.{read_number}
use Rattle.isp_lex.specs.reader.Pieces.{run_piece}
use Rattle.isp_lex.specs.reader.Runs.{run, run_of}
use Rattle.isp_lex.specs.reader.Signs.{sign_of}
use Rattle.isp_lex.specs.reader.Words.{word_kind}
use Rattle.isp_lex.specs.Spelling.{spelling}
use Rattle.isp_lex.specs.Texts.{Decodes, IsQuoted, StopsBefore}
use Rattle.isp_lex.proofs.Classes.{digit_word, letter_word, letter_no_digit, blank_no_word, begins_word}
use Rattle.isp_lex.proofs.CommentLaws.{close, closed_some, open_none}
use Rattle.isp_lex.proofs.NumberLaws.{number_sound, number_complete, number_starts, number_word_bytes}
use Rattle.isp_lex.proofs.Runs.{run_is}
use Rattle.isp_lex.proofs.SignLaws.{sign_complete, sign_sound}
use Rattle.isp_lex.proofs.Spellings.{mark_some}
use Rattle.isp_lex.proofs.TextLaws.{or_false, text_at, text_whole}
use Rattle.isp_lex.proofs.TextStops.{stops_none}
use Rattle.isp_lex.proofs.Words.{free_kind, left_word, left_found}

-- the piece of a token, and of what is passed over
abbrev pub taken : TokenKind → ℕ → Option Piece
taken k n = Some (record { token = Some k; len = n })

abbrev pub passed : ℕ → Option Piece
passed n = Some (record { token = None; len = n })

abbrev closed_piece : Option ℕ → Option Piece
closed_piece None = None
closed_piece (Some n) = passed (suc (suc n))

abbrev text_piece : Option (List ℕ × ℕ) → Option Piece
text_piece None = None
text_piece (Some r) = taken (kind.Text r.0) (suc r.1)

abbrev sign_piece : Option (Mark × ℕ) → Option Piece
sign_piece None = None
sign_piece (Some s) = taken (kind.Mark s.0) s.1

-- after a `/`
abbrev slash : List ℕ → Option Piece
slash bs = cond (next_is 47 bs) (passed (suc (suc (run is_line_byte (drop 1 bs))))) (cond (next_is 42 bs) (closed_piece (close (drop 1 bs))) (sign_piece (sign_of 47 bs)))

abbrev other : ℕ → List ℕ → Option Piece
other b bs = cond (b == 34) (text_piece (text_at false bs)) (cond (b == 47) (slash bs) (sign_piece (sign_of b bs)))

-- what the text begins with, where it is no fault
abbrev pub step : List ℕ → Option Piece
step [] = None
step (b ∷ bs) = cond (is_blank b) (passed 1) (cond (is_word_byte b) (run_piece (run_of (b ∷ bs))) (other b bs))

pub step_blank : (b : ℕ) (bs : List ℕ) → is_blank b ≡ true → step (b ∷ bs) ≡ passed 1
step_blank b bs e = rw e refl

second : (s t : Bool) (x y z : Option Piece) → s ≡ false → t ≡ true → cond s x (cond t y z) ≡ y
second s t x y z e f = rw (e, f) refl

third : (s t : Bool) (x y z : Option Piece) → s ≡ false → t ≡ false → cond s x (cond t y z) ≡ z
third s t x y z e f = rw (e, f) refl

-- words and numbers

step_run : (text after : List ℕ) → begins is_word_byte text ≡ true → all is_word_byte text ≡ true → begins is_word_byte after ≡ false → step (text ++ after) ≡ run_piece text
step_run [] after f h w = absurd (false≢true f)
step_run (b ∷ text) after f h w =
    let n = run_is is_word_byte (b ∷ text) after h w in
    let r : run_of (b ∷ (text ++ after)) ≡ b ∷ text = ap (λ (k : ℕ). take k (b ∷ (text ++ after))) n ∙ take_at (b ∷ text) after (suc (length text)) refl in
    second (is_blank b) (is_word_byte b) _ _ _ (blank_no_word b f) f ∙ ap run_piece r

word_piece : (text : List ℕ) → begins is_letter text ≡ true → run_piece text ≡ taken (word_kind text) (length text)
word_piece [] e = absurd (false≢true e)
word_piece (b ∷ bs) e = rw (letter_no_digit b e) refl

step_word : (text after : List ℕ) → IsWord text → begins is_word_byte after ≡ false → step (text ++ after) ≡ taken (word_kind text) (length text)
step_word text after i w = step_run text after (begins_word is_letter text letter_word i.0) i.1 w ∙ word_piece text i.0

number_taken : (text : List ℕ) (v : Value) → IsNumber v text → begins is_ascii_digit text ≡ true → run_piece text ≡ taken (kind.Number v) (length text)
number_taken text v h e = rw (e, number_complete text v h) refl

step_number : (v : Value) (text after : List ℕ) → IsNumber v text → IsWhole text after → step (text ++ after) ≡ taken (kind.Number v) (length text)
step_number v text after h w =
    let d = number_starts text v h in
    let s = begins_word is_ascii_digit text digit_word d in
    step_run text after s (number_word_bytes text v h) (w.ended s) ∙ number_taken text v h d

-- texts in quotes

quoted_step : (bytes body after : List ℕ) → Decodes body bytes → step ((34 ∷ (body ++ 34 ∷ [])) ++ after) ≡ taken (kind.Text bytes) (length (34 ∷ (body ++ 34 ∷ [])))
quoted_step bytes body after d =
    ap (λ (l : List ℕ). text_piece (text_at false l)) (append_assoc body (34 ∷ []) after)
    ∙ ap text_piece (text_whole d after)
    ∙ ap (λ (n : ℕ). taken (kind.Text bytes) (suc n)) (sym (length-append body (34 ∷ [])))

step_text : (bytes text after : List ℕ) → IsQuoted bytes text → step (text ++ after) ≡ taken (kind.Text bytes) (length text)
step_text bytes text after i = subst (λ (l : List ℕ). step (l ++ after) ≡ taken (kind.Text bytes) (length l)) (sym i.1) (quoted_step bytes i.0 after i.2)

-- signs and reserved words

no_comment : (after : List ℕ) → begins opens after ≡ false → (next_is 47 after ≡ false) × (next_is 42 after ≡ false)
no_comment [] e = (refl, refl)
no_comment (b ∷ bs) e = or_false (b == 47) (b == 42) e

slash_sign : (after : List ℕ) → (next_is 47 after ≡ false) × (next_is 42 after ≡ false) → sign_of 47 after ≡ Some (mark.Slash, 1) → step (47 ∷ after) ≡ taken (kind.Mark mark.Slash) 1
slash_sign after h e = third (next_is 47 after) (next_is 42 after) _ _ _ h.0 h.1 ∙ ap sign_piece e

step_mark : (m : Mark) (after : List ℕ) → IsWhole (spelling m) after → step (spelling m ++ after) ≡ taken (kind.Mark m) (length (spelling m))
step_mark mark.ParenOpen after w = ap sign_piece (sign_complete mark.ParenOpen after refl w)
step_mark mark.ParenClose after w = ap sign_piece (sign_complete mark.ParenClose after refl w)
step_mark mark.BraceOpen after w = ap sign_piece (sign_complete mark.BraceOpen after refl w)
step_mark mark.BraceClose after w = ap sign_piece (sign_complete mark.BraceClose after refl w)
step_mark mark.BracketOpen after w = ap sign_piece (sign_complete mark.BracketOpen after refl w)
step_mark mark.BracketClose after w = ap sign_piece (sign_complete mark.BracketClose after refl w)
step_mark mark.Semicolon after w = ap sign_piece (sign_complete mark.Semicolon after refl w)
step_mark mark.Comma after w = ap sign_piece (sign_complete mark.Comma after refl w)
step_mark mark.Question after w = ap sign_piece (sign_complete mark.Question after refl w)
step_mark mark.Colon after w = ap sign_piece (sign_complete mark.Colon after refl w)
step_mark mark.Ellipsis after w = ap sign_piece (sign_complete mark.Ellipsis after refl w)
step_mark mark.Assign after w = ap sign_piece (sign_complete mark.Assign after refl w)
step_mark mark.Equal after w = ap sign_piece (sign_complete mark.Equal after refl w)
step_mark mark.NotEqual after w = ap sign_piece (sign_complete mark.NotEqual after refl w)
step_mark mark.Less after w = ap sign_piece (sign_complete mark.Less after refl w)
step_mark mark.LessEqual after w = ap sign_piece (sign_complete mark.LessEqual after refl w)
step_mark mark.Greater after w = ap sign_piece (sign_complete mark.Greater after refl w)
step_mark mark.GreaterEqual after w = ap sign_piece (sign_complete mark.GreaterEqual after refl w)
step_mark mark.ShiftLeft after w = ap sign_piece (sign_complete mark.ShiftLeft after refl w)
step_mark mark.ShiftRight after w = ap sign_piece (sign_complete mark.ShiftRight after refl w)
step_mark mark.ShiftLeftAssign after w = ap sign_piece (sign_complete mark.ShiftLeftAssign after refl w)
step_mark mark.ShiftRightAssign after w = ap sign_piece (sign_complete mark.ShiftRightAssign after refl w)
step_mark mark.Plus after w = ap sign_piece (sign_complete mark.Plus after refl w)
step_mark mark.Increment after w = ap sign_piece (sign_complete mark.Increment after refl w)
step_mark mark.PlusAssign after w = ap sign_piece (sign_complete mark.PlusAssign after refl w)
step_mark mark.Minus after w = ap sign_piece (sign_complete mark.Minus after refl w)
step_mark mark.Decrement after w = ap sign_piece (sign_complete mark.Decrement after refl w)
step_mark mark.MinusAssign after w = ap sign_piece (sign_complete mark.MinusAssign after refl w)
step_mark mark.Star after w = ap sign_piece (sign_complete mark.Star after refl w)
step_mark mark.StarAssign after w = ap sign_piece (sign_complete mark.StarAssign after refl w)
step_mark mark.Slash after w = slash_sign after (no_comment after (w.alone refl)) (sign_complete mark.Slash after refl w)
step_mark mark.SlashAssign after w = ap sign_piece (sign_complete mark.SlashAssign after refl w)
step_mark mark.Percent after w = ap sign_piece (sign_complete mark.Percent after refl w)
step_mark mark.PercentAssign after w = ap sign_piece (sign_complete mark.PercentAssign after refl w)
step_mark mark.And after w = ap sign_piece (sign_complete mark.And after refl w)
step_mark mark.AndAnd after w = ap sign_piece (sign_complete mark.AndAnd after refl w)
step_mark mark.AndAssign after w = ap sign_piece (sign_complete mark.AndAssign after refl w)
step_mark mark.Or after w = ap sign_piece (sign_complete mark.Or after refl w)
step_mark mark.OrOr after w = ap sign_piece (sign_complete mark.OrOr after refl w)
step_mark mark.OrAssign after w = ap sign_piece (sign_complete mark.OrAssign after refl w)
step_mark mark.Xor after w = ap sign_piece (sign_complete mark.Xor after refl w)
step_mark mark.XorAssign after w = ap sign_piece (sign_complete mark.XorAssign after refl w)
step_mark mark.Inverse after w = ap sign_piece (sign_complete mark.Inverse after refl w)
step_mark mark.Not after w = ap sign_piece (sign_complete mark.Not after refl w)
step_mark m after w = step_word (spelling m) after (refl, refl) (w.ended refl)

-- a token is found
pub step_token : (k : TokenKind) (text after : List ℕ) → IsText k text → IsWhole text after → step (text ++ after) ≡ taken k (length text)
step_token (kind.Word name) text after i w =
    step_word text after i.1 (w.ended (begins_word is_letter text letter_word i.1.0)) ∙ ap (λ (k : TokenKind). taken k (length text)) (free_kind text i.2 ∙ ap (λ (l : List ℕ). kind.Word l) (sym i.0))
step_token (kind.Number v) text after i w = step_number v text after i w
step_token (kind.Text bytes) text after i w = step_text bytes text after i
step_token (kind.Mark m) text after i w =
    subst (λ (l : List ℕ). step (l ++ after) ≡ taken (kind.Mark m) (length l)) (sym i) (step_mark m after (subst (λ (l : List ℕ). IsWhole l after) i w))
step_token kind.LeftOut text after i w =
    let j = left_word text i in
    step_word text after j (w.ended (begins_word is_letter text letter_word j.0)) ∙ ap (λ (k : TokenKind). taken k (length text)) (rw (left_found text i) refl)

-- so is a comment
pub step_comment : {text after : List ℕ} → IsComment text after → step (text ++ after) ≡ passed (length text)
step_comment (line body rest h e) = ap (λ (n : ℕ). passed (suc (suc n))) (run_is is_line_byte body rest h e)
step_comment (closed body rest h) =
    let n : suc (suc (length body)) ≡ length (body ++ 42 ∷ 47 ∷ []) = omega (arith, length-append body (42 ∷ 47 ∷ [])) in
    ap (λ (l : List ℕ). closed_piece (close l)) (append_assoc body (42 ∷ 47 ∷ []) rest)
    ∙ ap closed_piece (closed_some body rest h)
    ∙ ap (λ (k : ℕ). passed (suc (suc k))) n

-- faults

no_sign_at : (b : ℕ) (bs : List ℕ) (o : Option (Mark × ℕ)) → sign_of b bs ≡ o → ((m : Mark) (rest : List ℕ) → b ∷ bs ≡ spelling m ++ rest → ⊥) → o ≡ None
no_sign_at b bs None e h = refl
no_sign_at b bs (Some s) e h = let i = sign_sound b bs s e in absurd (h s.0 i.after i.split)

nothing_at : (b : ℕ) (bs : List ℕ) (t : Bool) → (b == 47) ≡ t → ((m : Mark) (rest : List ℕ) → b ∷ bs ≡ spelling m ++ rest → ⊥) → cond t (slash bs) (sign_piece (sign_of b bs)) ≡ None
nothing_at b bs true e h = absurd (h mark.Slash bs (ap (λ (c : ℕ). c ∷ bs) (eqb-true b 47 e)))
nothing_at b bs false e h = ap sign_piece (no_sign_at b bs (sign_of b bs) refl h)

other_at : (t : Bool) (x y : Option Piece) → t ≡ false → cond t x y ≡ y
other_at t x y e = rw e refl

step_nothing : (text : List ℕ) → BeginsNothing text → step text ≡ None
step_nothing [] h = refl
step_nothing (b ∷ bs) h =
    third (is_blank b) (is_word_byte b) _ _ _ h.no_blank h.no_word ∙ other_at (b == 34) _ _ h.no_quote ∙ nothing_at b bs (b == 47) refl h.no_mark

no_number : (text : List ℕ) (o : Option Value) → read_number text ≡ o → ((v : Value) → IsNumber v text → ⊥) → o ≡ None
no_number text None e h = refl
no_number text (Some v) e h = absurd (h v (number_sound text v e))

digit_piece : (text : List ℕ) → begins is_ascii_digit text ≡ true → read_number text ≡ None → run_piece text ≡ None
digit_piece text e n = rw (e, n) refl

step_stop : (text rest : List ℕ) → StopsBefore text rest → step (text ++ rest) ≡ None
step_stop [] rest h = absurd (false≢true h.quote)
step_stop (b ∷ tail) rest h =
    let q : b ≡ 34 = eqb-true b 34 h.quote in
    let i : StopsBefore (34 ∷ tail) rest = subst (λ (c : ℕ). StopsBefore (c ∷ tail) rest) q h in
    subst (λ (c : ℕ). step (c ∷ (tail ++ rest)) ≡ None) (sym q) (ap text_piece (stops_none tail rest i))

-- where a fault stands the step finds nothing
pub step_fault : {place : ℕ} {text : List ℕ} {f : Fault} → IsFault place text f → step text ≡ None
step_fault (bad_byte place c rest s h) = step_nothing (encode_utf8 c ++ rest) h
step_fault (bad_number place text rest d h w n) =
    step_run text rest (begins_word is_ascii_digit text digit_word d) h w ∙ digit_piece text d (no_number text (read_number text) refl n)
step_fault (bad_text place text rest h) = step_stop text rest h
step_fault (open_comment place text h) = ap closed_piece (open_none text h)

-- no token and no comment is empty

no_spelling : (m : Mark) → [] ≡ spelling m → ⊥
no_spelling m e = absurd (omega (arith, mark_some m, ap length e))

pub no_text : (k : TokenKind) → IsText k [] → ⊥
no_text (kind.Word name) i = false≢true i.1.0
no_text (kind.Number v) i = false≢true (number_starts [] v i)
no_text (kind.Text bytes) i = absurd (omega (arith, ap length i.1))
no_text (kind.Mark m) i = no_spelling m i
no_text kind.LeftOut i = false≢true (left_word [] i).0

pub comment_some : {text after : List ℕ} → IsComment text after → 0 < length text
comment_some (line body rest h e) = omega arith
comment_some (closed body rest h) = omega arith
