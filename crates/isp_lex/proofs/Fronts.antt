-- What the code finds stands at the front of the text.
use Rattle.std.proofs.Common.{◌≡◌, ℕ, ◌<◌, ◌≤◌, Bool, true, false, cond, List, [], ◌∷◌, ◌++◌, length, take, drop, Option, Some, None, refl, sym, ap, subst, ◌∙◌, inl, arith, length-append}
use Rattle.std.specs.Prelude.{◌==◌, codes}
use Rattle.std.specs.Char.{IsScalar, encode_utf8, is_ascii_digit}
use Rattle.std.specs.Str.{IsUtf8, IsAscii, IsCharBoundary}
use Rattle.std.proofs.lemmas.Bool.{false≢true}
use Rattle.std.proofs.lemmas.List.{drop_at, take_at, take-append-drop}
use Rattle.std.proofs.Math.Utf8.{scalar, scalars}
use Rattle.std.proofs.lemmas.Str.{cons_from_encodes, IsUtf8-from_ascii, IsCharBoundary-from_take}
use Rattle.std.proofs.lemmas.Str.Ascii.{IsAscii-nil, IsAscii-cons}
use Rattle.isp_base.specs.declared.types.Value.{Value}
use Rattle.isp_lex.specs.declared.fault.Fault.{Fault}
use Rattle.isp_lex.specs.declared.fault.Rule.TheVariants.{BadByte, BadNumber}
use Rattle.isp_lex.specs.declared.piece.Piece.{Piece}
use Rattle.isp_lex.specs.declared.token.Mark.{Mark}
use Rattle.isp_lex.specs.declared.token.TokenKind.TheVariants as kind
use Rattle.isp_lex.specs.Bytes.{all, begins, is_blank, is_word_byte}
use Rattle.isp_lex.specs.Faults.{fault}
use Rattle.isp_lex.specs.Lexing.{BeginsNothing, IsFault, IsWhole, bad_byte, bad_number, opens, span}
use Rattle.isp_lex.specs.reader.Numerals.{read_number}
use Rattle.isp_lex.specs.reader.Pieces.{BeginsSign, Front, Passes, number_piece, run_piece}
use Rattle.isp_lex.specs.reader.Runs.{run, run_of}
use Rattle.isp_lex.specs.reader.Signs.{sign_of}
use Rattle.isp_lex.specs.reader.Words.{word_kind}
use Rattle.isp_lex.specs.Spelling.{spelling}
use Rattle.isp_lex.proofs.Classes.{blank_ascii, word_no_digit}
use Rattle.isp_lex.proofs.NumberLaws.{number_sound, number_complete}
use Rattle.isp_lex.proofs.Runs.{and_both, run_is, run_all, run_ends, run_ge, words_ascii}
use Rattle.isp_lex.proofs.SignLaws.{no_sign, sign_sound, sign_whole}
use Rattle.isp_lex.proofs.Spellings.{begins_front, mark_ascii, mark_begins, mark_some, mark_word}
use Rattle.isp_lex.proofs.Words.{kind_sound}

-- a text may be cut after ASCII
ascii_cut : (text after bs : List ℕ) (n : ℕ) → IsAscii text → bs ≡ text ++ after → length text ≡ n → IsUtf8 bs → IsCharBoundary bs n
ascii_cut text after bs n a e l u =
    IsCharBoundary-from_take bs n u (omega (arith, ap length e, length-append text after))
    (subst IsUtf8 (sym (ap (take n) e ∙ take_at text after n l)) (IsUtf8-from_ascii text a))

-- a piece of ASCII stands at the front
ascii_front : (p : Piece) (text after : List ℕ) → length text ≡ p.len → 0 < p.len → IsAscii text → Passes p.token text after → Front (text ++ after) p
ascii_front p text after l s a h = record {
  text = text;
  after = after;
  split = refl;
  size = l;
  some = s;
  cut = ascii_cut text after (text ++ after) p.len a refl l;
  passes = h;
}

-- words and numbers

no_slash : (text : List ℕ) → begins is_word_byte text ≡ true → text ≡ codes "/" → ⊥
no_slash text h e = false≢true (ap (begins is_word_byte) (sym e) ∙ h)

words_longest : (text after : List ℕ) → 0 < length text → all is_word_byte text ≡ true → begins is_word_byte text ≡ true → begins is_word_byte after ≡ false
    → (m : Mark) (rest : List ℕ) → text ++ after ≡ spelling m ++ rest → length (spelling m) ≤ length text
words_longest text after l h b w m rest e =
    let f = mark_begins is_word_byte m (text ++ after) rest e in
    let g : begins is_word_byte (spelling m) ≡ true = sym f ∙ begins_front is_word_byte text after l ∙ b in
    let r = run_is is_word_byte text after h w in
    let s = run_ge is_word_byte (spelling m) rest (mark_word m g).1 in
    omega (arith, ap (run is_word_byte) e)

pub word_whole : (text after : List ℕ) → 0 < length text → all is_word_byte text ≡ true → begins is_word_byte text ≡ true → begins is_word_byte after ≡ false → IsWhole text after
word_whole text after l h b w = record {
  ended = λ g. w;
  longest = words_longest text after l h b w;
  alone = λ e. absurd (no_slash text b e);
}

number_front : (text after : List ℕ) (p : Piece) (o : Option Value) → read_number text ≡ o → 0 < length text → all is_word_byte text ≡ true → IsWhole text after → number_piece o (length text) ≡ Some p → Front (text ++ after) p
number_front text after p None o l h w e = absurd cc
number_front text after p (Some v) o l h w e =
    let i : record { token = Some (kind.Number v); len = length text } ≡ p = cc in
    subst (λ (q : Piece). Front (text ++ after) q) i
    (ascii_front (record { token = Some (kind.Number v); len = length text }) text after refl l (words_ascii text h) (number_sound text v o, w))

run_front_at : (b : ℕ) (text after : List ℕ) (p : Piece) (t : Bool) → is_ascii_digit b ≡ t → all is_word_byte (b ∷ text) ≡ true → IsWhole (b ∷ text) after
    → cond t (number_piece (read_number (b ∷ text)) (length (b ∷ text))) (Some (record { token = Some (word_kind (b ∷ text)); len = length (b ∷ text) })) ≡ Some p → Front (b ∷ (text ++ after)) p
run_front_at b text after p true f h w e = number_front (b ∷ text) after p (read_number (b ∷ text)) refl (omega arith) h w e
run_front_at b text after p false f h w e =
    let i : record { token = Some (word_kind (b ∷ text)); len = length (b ∷ text) } ≡ p = cc in
    let q = and_both (is_word_byte b) (all is_word_byte text) h in
    subst (λ (q : Piece). Front (b ∷ (text ++ after)) q) i
    (ascii_front (record { token = Some (word_kind (b ∷ text)); len = length (b ∷ text) }) (b ∷ text) after refl (omega arith) (words_ascii (b ∷ text) h) (kind_sound (b ∷ text) (word_no_digit b q.0 f, h), w))

run_front : (text after : List ℕ) (p : Piece) → 0 < length text → all is_word_byte text ≡ true → begins is_word_byte after ≡ false → run_piece text ≡ Some p → Front (text ++ after) p
run_front [] after p l h w e = absurd (omega arith)
run_front (b ∷ text) after p l h w e =
    let q = and_both (is_word_byte b) (all is_word_byte text) h in
    run_front_at b text after p (is_ascii_digit b) refl h (word_whole (b ∷ text) after l h q.0 w) e

pub run_some : (bs : List ℕ) → begins is_word_byte bs ≡ true → 0 < length (run_of bs)
run_some [] e = absurd (false≢true e)
run_some (b ∷ bs) e = rw e (omega arith)

-- a run that is found stands there
pub word_front : (bs : List ℕ) (p : Piece) → begins is_word_byte bs ≡ true → run_piece (run_of bs) ≡ Some p → Front bs p
word_front bs p l e =
    let f = run_front (run_of bs) (drop (run is_word_byte bs) bs) p (run_some bs l) (run_all is_word_byte bs) (run_ends is_word_byte bs) e in
    subst (λ (l : List ℕ). Front l p) (take-append-drop (run is_word_byte bs) bs) f

none_value : (v : Value) (o : Option Value) → o ≡ None → o ≡ Some v → ⊥
none_value v o e f = let g : None ≡ Some v = sym e ∙ f in cc

-- a run that begins with a digit and is no number
pub number_fault : (place : ℕ) (bs : List ℕ) (f : Fault) → begins is_ascii_digit (run_of bs) ≡ true → read_number (run_of bs) ≡ None → f ≡ fault BadNumber (span place (length (run_of bs))) → IsFault place bs f
number_fault place bs f d n e =
    let i = bad_number place (run_of bs) (drop (run is_word_byte bs) bs) d (run_all is_word_byte bs) (run_ends is_word_byte bs) (λ v h. none_value v (read_number (run_of bs)) n (number_complete (run_of bs) v h)) in
    subst (λ (g : Fault). IsFault place bs g) (sym e) (subst (λ (l : List ℕ). IsFault place l (fault BadNumber (span place (length (run_of bs))))) (take-append-drop (run is_word_byte bs) bs) i)

-- blanks

pub blank_front : (bs : List ℕ) → begins is_blank bs ≡ true → Front bs (record { token = None; len = 1 })
blank_front [] e = absurd (false≢true e)
blank_front (b ∷ bs) e = ascii_front (record { token = None; len = 1 }) (b ∷ []) bs refl (omega arith) (IsAscii-cons b [] (blank_ascii b e) IsAscii-nil) (inl (b, refl, e))

-- signs

slash_ends : (b : ℕ) (rest : List ℕ) → BeginsSign (b ∷ rest) → b ≡ 47 → begins opens rest ≡ false
slash_ends b rest h e = h.no_comment (ap (λ (c : ℕ). c == 47) e)

-- a sign that is found stands there
pub sign_front : (b : ℕ) (rest : List ℕ) (m : Mark) (n : ℕ) → BeginsSign (b ∷ rest) → sign_of b rest ≡ Some (m, n) → Front (b ∷ rest) (record { token = Some (kind.Mark m); len = n })
sign_front b rest m n h e =
    let i = sign_sound b rest (m, n) e in
    let w = sign_whole b rest (m, n) e h.no_word (slash_ends b rest h) i in
    subst (λ (l : List ℕ). Front l (record { token = Some (kind.Mark m); len = n })) (sym i.split)
    (ascii_front (record { token = Some (kind.Mark m); len = n }) (spelling m) i.after i.size (omega (arith, i.size, mark_some m)) (mark_ascii m) (refl, w))

-- where no sign is found nothing begins
pub nothing_begins : (b : ℕ) (rest : List ℕ) → BeginsSign (b ∷ rest) → sign_of b rest ≡ None → BeginsNothing (b ∷ rest)
nothing_begins b rest h e = record {
  no_blank = h.no_blank;
  no_word = h.no_word;
  no_quote = h.no_quote;
  no_mark = no_sign b rest h.no_word e;
}

first_scalar : (c : ℕ) (text rest : List ℕ) → IsUtf8 text → text ≡ encode_utf8 c ++ rest → IsScalar c
first_scalar c text rest u e =
    let k = cons_from_encodes u.0 rest c (u.1.1 ∙ e) in
    (and_both (scalar c) (scalars k.0) (ap scalars (sym k.1) ∙ u.1.0)).0

-- the character that a text begins with, where no token begins with it
pub byte_fault : (place c n : ℕ) (text rest : List ℕ) → IsUtf8 text → text ≡ encode_utf8 c ++ rest → n ≡ length (encode_utf8 c) → BeginsNothing text → IsFault place text (fault BadByte (span place n))
byte_fault place c n text rest u e l h =
    rw l (subst (λ (t : List ℕ). IsFault place t (fault BadByte (span place (length (encode_utf8 c))))) (sym e) (bad_byte place c rest (first_scalar c text rest u e) (subst BeginsNothing e h)))

pub front_le : (bs : List ℕ) (p : Piece) → Front bs p → p.len ≤ length bs
front_le bs p f = omega (arith, f.size, ap length f.split, length-append f.text f.after)

pub front_drop : (bs : List ℕ) (p : Piece) (f : Front bs p) → drop p.len bs ≡ f.after
front_drop bs p f = ap (drop p.len) f.split ∙ drop_at f.text f.after p.len f.size
