-- The look-up of reserved words finds those that the language reserves.
use Rattle.std.proofs.Common.{◌≡◌, ℕ, Bool, true, false, cond, List, [], ◌∷◌, length, Option, Some, None, refl, sym, subst, ◌∙◌, inl, inr}
use Rattle.std.specs.Prelude.{◌&&◌, ◌||◌, ◌==◌}
use Rattle.std.specs.List.{list_all, list_any}
use Rattle.std.specs.Str.{bytes_eq}
use Rattle.std.proofs.lemmas.Bool.{false≢true}
use Rattle.std.proofs.lemmas.Slice.Eq.{bytes_eq-Decides}
use Rattle.isp_lex.specs.declared.token.Mark.{Mark}
use Rattle.isp_lex.specs.declared.token.Mark.TheVariants as mark
use Rattle.isp_lex.specs.declared.token.TokenKind.{TokenKind}
use Rattle.isp_lex.specs.declared.token.TokenKind.TheVariants as kind
use Rattle.isp_lex.specs.Bytes.{all, begins, is_letter, is_word_byte}
use Rattle.isp_lex.specs.Lexing.{IsText, IsWord}
use Rattle.isp_lex.specs.reader.Words.{first_spelled, left_out_of, left_by_length, marks_by_length, pick, reserved, or_name, word_kind}
use Rattle.isp_lex.specs.Spelling.{spelling, left_out, Among, IsReserved}
use Rattle.isp_lex.proofs.Runs.{and_both}

same : (a b : List ℕ) (t : Bool) → bytes_eq a b ≡ t → t ≡ true → a ≡ b
same a b t e h = (bytes_eq-Decides a b).0 (e ∙ h)

-- the word is among those that the language leaves out, as a test
abbrev known : List ℕ → Bool
known word = list_any (bytes_eq word) left_out

any_at : (w : List ℕ) (ws : List (List ℕ)) (word : List ℕ) (t : Bool) → bytes_eq word w ≡ t → (list_any (bytes_eq word) ws ≡ true → Among ws word) → (t || list_any (bytes_eq word) ws) ≡ true → Among (w ∷ ws) word
any_at w ws word true f more e = inl (same word w true f refl)
any_at w ws word false f more e = inr (more e)

any_among : (ws : List (List ℕ)) (word : List ℕ) → list_any (bytes_eq word) ws ≡ true → Among ws word
any_among [] word e = absurd (false≢true e)
any_among (w ∷ ws) word e = any_at w ws word (bytes_eq word w) refl (any_among ws word) e

-- what the look-up may answer
abbrev IsKept : TokenKind → List ℕ → Type 0
IsKept (kind.Word w) word = ⊥
IsKept (kind.Number v) word = ⊥
IsKept (kind.Text t) word = ⊥
IsKept (kind.Mark m) word = word ≡ spelling m
IsKept kind.LeftOut word = Among left_out word

kept_text : (k : TokenKind) (word : List ℕ) → IsKept k word → IsText k word
kept_text (kind.Word w) word h = absurd h
kept_text (kind.Number v) word h = absurd h
kept_text (kind.Text t) word h = absurd h
kept_text (kind.Mark m) word h = h
kept_text kind.LeftOut word h = h

abbrev groups_known : List (ℕ × List (List ℕ)) → Bool
groups_known [] = true
groups_known (g ∷ gs) = list_all known g.1 && groups_known gs

pick_known_at : (t : Bool) (xs ys : List (List ℕ)) → list_all known xs ≡ true → list_all known ys ≡ true → list_all known (cond t xs ys) ≡ true
pick_known_at true xs ys h k = h
pick_known_at false xs ys h k = k

pick_known : (n : ℕ) (gs : List (ℕ × List (List ℕ))) → groups_known gs ≡ true → list_all known (pick n gs) ≡ true
pick_known n [] h = refl
pick_known n (g ∷ gs) h =
    let q = and_both (list_all known g.1) (groups_known gs) h in
    pick_known_at (n == g.0) g.1 (pick n gs) q.0 (pick_known n gs q.1)

left_known : (n : ℕ) → list_all known (pick n left_by_length) ≡ true
left_known n = pick_known n left_by_length refl

left_sound_at : (w : List ℕ) (ws : List (List ℕ)) (word : List ℕ) (k : TokenKind) (t : Bool) → bytes_eq word w ≡ t → list_all known (w ∷ ws) ≡ true
    → (list_all known ws ≡ true → left_out_of ws word ≡ Some k → IsKept k word) → cond t (Some kind.LeftOut) (left_out_of ws word) ≡ Some k
    → IsKept k word
left_sound_at w ws word k true f h more e =
    let s = same word w true f refl in
    let q = and_both (known w) (list_all known ws) h in
    let i : kind.LeftOut ≡ k = cc in
    subst (λ (j : TokenKind). IsKept j word) i (any_among left_out word (subst (λ (l : List ℕ). known l ≡ true) (sym s) q.0))
left_sound_at w ws word k false f h more e = more (and_both (known w) (list_all known ws) h).1 e

left_sound : (ws : List (List ℕ)) (word : List ℕ) (k : TokenKind) → list_all known ws ≡ true → left_out_of ws word ≡ Some k → IsKept k word
left_sound [] word k h e = absurd cc
left_sound (w ∷ ws) word k h e = left_sound_at w ws word k (bytes_eq word w) refl h (left_sound ws word k) e

spelled_at : (m : Mark) (word : List ℕ) (k : TokenKind) (next : Option TokenKind) (t : Bool) → bytes_eq word (spelling m) ≡ t → (next ≡ Some k → IsKept k word) → cond t (Some (kind.Mark m)) next ≡ Some k → IsKept k word
spelled_at m word k next true f more e =
    let i : kind.Mark m ≡ k = cc in
    subst (λ (j : TokenKind). IsKept j word) i (same word (spelling m) true f refl)
spelled_at m word k next false f more e = more e

spelled_sound : (ms : List Mark) (other : Option TokenKind) (word : List ℕ) (k : TokenKind) → (other ≡ Some k → IsKept k word) → first_spelled ms other word ≡ Some k → IsKept k word
spelled_sound [] other word k h e = h e
spelled_sound (m ∷ ms) other word k h e =
    spelled_at m word k (first_spelled ms other word) (bytes_eq word (spelling m)) refl (spelled_sound ms other word k h) e

reserved_kept : (word : List ℕ) (k : TokenKind) → reserved word ≡ Some k → IsKept k word
reserved_kept word k e =
    spelled_sound (pick (length word) marks_by_length) (left_out_of (pick (length word) left_by_length) word) word k (left_sound (pick (length word) left_by_length) word k (left_known (length word))) e

-- each mark that is a word is found
pub mark_found : (m : Mark) → IsWord (spelling m) → reserved (spelling m) ≡ Some (kind.Mark m)
mark_found mark.ParenOpen i = absurd (false≢true i.0)
mark_found mark.ParenClose i = absurd (false≢true i.0)
mark_found mark.BraceOpen i = absurd (false≢true i.0)
mark_found mark.BraceClose i = absurd (false≢true i.0)
mark_found mark.BracketOpen i = absurd (false≢true i.0)
mark_found mark.BracketClose i = absurd (false≢true i.0)
mark_found mark.Semicolon i = absurd (false≢true i.0)
mark_found mark.Comma i = absurd (false≢true i.0)
mark_found mark.Question i = absurd (false≢true i.0)
mark_found mark.Colon i = absurd (false≢true i.0)
mark_found mark.Ellipsis i = absurd (false≢true i.0)
mark_found mark.Assign i = absurd (false≢true i.0)
mark_found mark.Equal i = absurd (false≢true i.0)
mark_found mark.NotEqual i = absurd (false≢true i.0)
mark_found mark.Less i = absurd (false≢true i.0)
mark_found mark.LessEqual i = absurd (false≢true i.0)
mark_found mark.Greater i = absurd (false≢true i.0)
mark_found mark.GreaterEqual i = absurd (false≢true i.0)
mark_found mark.ShiftLeft i = absurd (false≢true i.0)
mark_found mark.ShiftRight i = absurd (false≢true i.0)
mark_found mark.ShiftLeftAssign i = absurd (false≢true i.0)
mark_found mark.ShiftRightAssign i = absurd (false≢true i.0)
mark_found mark.Plus i = absurd (false≢true i.0)
mark_found mark.Increment i = absurd (false≢true i.0)
mark_found mark.PlusAssign i = absurd (false≢true i.0)
mark_found mark.Minus i = absurd (false≢true i.0)
mark_found mark.Decrement i = absurd (false≢true i.0)
mark_found mark.MinusAssign i = absurd (false≢true i.0)
mark_found mark.Star i = absurd (false≢true i.0)
mark_found mark.StarAssign i = absurd (false≢true i.0)
mark_found mark.Slash i = absurd (false≢true i.0)
mark_found mark.SlashAssign i = absurd (false≢true i.0)
mark_found mark.Percent i = absurd (false≢true i.0)
mark_found mark.PercentAssign i = absurd (false≢true i.0)
mark_found mark.And i = absurd (false≢true i.0)
mark_found mark.AndAnd i = absurd (false≢true i.0)
mark_found mark.AndAssign i = absurd (false≢true i.0)
mark_found mark.Or i = absurd (false≢true i.0)
mark_found mark.OrOr i = absurd (false≢true i.0)
mark_found mark.OrAssign i = absurd (false≢true i.0)
mark_found mark.Xor i = absurd (false≢true i.0)
mark_found mark.XorAssign i = absurd (false≢true i.0)
mark_found mark.Inverse i = absurd (false≢true i.0)
mark_found mark.Not i = absurd (false≢true i.0)
mark_found m i = refl

-- the look-up answers that the word is left out
abbrev is_left : Option TokenKind → Bool
is_left None = false
is_left (Some (kind.Word w)) = false
is_left (Some (kind.Number v)) = false
is_left (Some (kind.Text t)) = false
is_left (Some (kind.Mark m)) = false
is_left (Some kind.LeftOut) = true

is_left_is : (o : Option TokenKind) → is_left o ≡ true → o ≡ Some kind.LeftOut
is_left_is None e = absurd (false≢true e)
is_left_is (Some (kind.Word w)) e = absurd (false≢true e)
is_left_is (Some (kind.Number v)) e = absurd (false≢true e)
is_left_is (Some (kind.Text t)) e = absurd (false≢true e)
is_left_is (Some (kind.Mark m)) e = absurd (false≢true e)
is_left_is (Some kind.LeftOut) e = refl

among_found : (ws : List (List ℕ)) (word : List ℕ) → list_all (λ w. is_left (reserved w)) ws ≡ true → Among ws word → reserved word ≡ Some kind.LeftOut
among_found [] word h a = absurd a
among_found (w ∷ ws) word h a =
    let q = and_both (is_left (reserved w)) (list_all (λ w. is_left (reserved w)) ws) h in
    elim a [
      | inl e ↦ subst (λ (l : List ℕ). reserved l ≡ Some kind.LeftOut) (sym e) (is_left_is (reserved w) q.0)
      | inr b ↦ among_found ws word q.1 b
    ]

pub left_found : (word : List ℕ) → Among left_out word → reserved word ≡ Some kind.LeftOut
left_found word a = among_found left_out word refl a

none_some : (k : TokenKind) (o : Option TokenKind) → o ≡ None → o ≡ Some k → ⊥
none_some k o e f = let g : None ≡ Some k = sym e ∙ f in cc

pub reserved_none : (word : List ℕ) → IsWord word → reserved word ≡ None → IsReserved word → ⊥
reserved_none word i e r =
    elim r [
      | inl q ↦
          none_some (kind.Mark q.0) (reserved word) e (subst (λ (l : List ℕ). reserved l ≡ Some (kind.Mark q.0)) (sym q.1) (mark_found q.0 (subst IsWord q.1 i)))
      | inr a ↦ none_some kind.LeftOut (reserved word) e (left_found word a)
    ]

kind_sound_at : (word : List ℕ) (o : Option TokenKind) → reserved word ≡ o → IsWord word → IsText (or_name o word) word
kind_sound_at word None e i = (refl, i, reserved_none word i e)
kind_sound_at word (Some k) e i = kept_text k word (reserved_kept word k e)

-- a word has the kind that is found
pub kind_sound : (word : List ℕ) → IsWord word → IsText (word_kind word) word
kind_sound word i = kind_sound_at word (reserved word) refl i

free_at : (word : List ℕ) (o : Option TokenKind) → reserved word ≡ o → (IsReserved word → ⊥) → or_name o word ≡ kind.Word word
free_at word None e h = refl
free_at word (Some (kind.Word w)) e h = absurd (reserved_kept word (kind.Word w) e)
free_at word (Some (kind.Number v)) e h = absurd (reserved_kept word (kind.Number v) e)
free_at word (Some (kind.Text t)) e h = absurd (reserved_kept word (kind.Text t) e)
free_at word (Some (kind.Mark m)) e h = absurd (h (inl (m, reserved_kept word (kind.Mark m) e)))
free_at word (Some kind.LeftOut) e h = absurd (h (inr (reserved_kept word kind.LeftOut e)))

pub free_kind : (word : List ℕ) → (IsReserved word → ⊥) → word_kind word ≡ kind.Word word
free_kind word h = free_at word (reserved word) refl h

among_word : (ws : List (List ℕ)) (word : List ℕ) → list_all (λ w. begins is_letter w && all is_word_byte w) ws ≡ true → Among ws word → IsWord word
among_word [] word h a = absurd a
among_word (w ∷ ws) word h a =
    let q = and_both (begins is_letter w && all is_word_byte w) (list_all (λ w. begins is_letter w && all is_word_byte w) ws) h in
    elim a [ inl e ↦ subst IsWord (sym e) (and_both (begins is_letter w) (all is_word_byte w) q.0) | inr b ↦ among_word ws word q.1 b ]

-- a left-out word is a word
pub left_word : (word : List ℕ) → Among left_out word → IsWord word
left_word word a = among_word left_out word refl a
