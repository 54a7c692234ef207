-- What a form is, that is read.
use Rattle.std.proofs.Common.{◌≡◌, ℕ, zero, suc, ◌+◌, ◌≤◌, ◌<◌, true, false, List, [], ◌∷◌, ◌++◌, length, Some, None, Ok, refl, sym, ap, subst, ◌∙◌, append_assoc, arith, length-append}
use Rattle.std.proofs.lemmas.Bool.{false≢true}
use Rattle.isp_base.specs.declared.types.Span.{Span}
use Rattle.isp_lex.specs.Tokens.{at, starts_with}
use Rattle.isp_lex.specs.declared.token.Mark.{Mark}
use Rattle.isp_lex.specs.declared.token.Mark.TheVariants as mark
use Rattle.isp_lex.specs.declared.token.Token.{Token}
use Rattle.isp_grammar.proofs.Basics.{is_mark_same}
use Rattle.isp_grammar.proofs.Forms.{One, Named, Form, Found, IsComplete, Optional, deepest, AreListed, EndsListed, Listed, Series, AreAll, Until}
use Rattle.isp_grammar.specs.reader.Readers.{head, optional, list_at, listed_at, until_at}

-- only the first token decides what may follow
abbrev pub EndsByHead : {A : Type 0} → Form A → Type 0
EndsByHead {A} F = (x : A) (a b : List Token) → head a ≡ head b → F.ends x a → F.ends x b

-- what was read is read again, with more depth left, whatever follows the next token
pub read_again : {A : Type 0} (F : Form A) → EndsByHead F → ((m : ℕ) → IsComplete F m)
    → (n : ℕ) (ts : List Token) (x : A) (rest : List Token) (p : Found F n ts x rest) (m : ℕ) (u : List Token) → n ≤ m → head rest ≡ head u
    → F.read m (p.used ++ u) ≡ Ok (x, u)
read_again F by_head complete n ts x rest p m u le h = complete m p.used x u p.is (omega (arith, p.shallow)) (by_head x rest u h p.ends)

pub one_by_head : (m : Mark) → EndsByHead (One m)
one_by_head m x a b e h = tt

pub named_by_head : EndsByHead Named
named_by_head x a b e h = tt

pub mark_starts : (m : Mark) (s : Span) (rest : List Token) → starts_with m (at m s ∷ rest) ≡ true
mark_starts m s rest = is_mark_same m

module _ {A : Type 0} (m : Mark) (F : Form A) (n : ℕ) (f : IsComplete F n) where
  pub optional_complete : IsComplete (Optional m F) n
  unfolding optional
  optional_complete used None rest i le h = rw (i, h) refl
  optional_complete used (Some x) rest i le h =
      let one = f i.1 x rest i.3 le h in
      rw (i.2, mark_starts m i.0 (i.1 ++ rest), one) refl

module _ {A : Type 0} (F : Form A) where
  pub listed_short : (ts : List Token) (xs : List A) → AreListed F ts xs → length xs ≤ length ts + 1
  listed_short ts [] i = absurd i
  listed_short ts (x ∷ []) i = omega arith
  listed_short ts (x ∷ y ∷ ys) i = omega (arith, listed_short i.2 (y ∷ ys) i.5, ap length i.3, length-append i.0 (at mark.Comma i.1 ∷ i.2))

  -- each item may be followed by a comma
  abbrev pub TakesComma : Type 0
  TakesComma = (x : A) (s : Span) (rest : List Token) → F.ends x (at mark.Comma s ∷ rest)

  pub list_complete : TakesComma → (n : ℕ) → IsComplete F n → (used : List Token) (xs : List A) → AreListed F used xs → (f : ℕ) (rest : List Token)
      → length xs ≤ f → deepest F xs ≤ n → EndsListed F xs rest → list_at (F.read n) f (used ++ rest) ≡ Ok (xs, rest)
  unfolding list_at
  list_complete comma n complete used [] i f rest lf le h = absurd i
  list_complete comma n complete used (x ∷ []) i zero rest lf le h = absurd (omega arith)
  list_complete comma n complete used (x ∷ []) i (suc f) rest lf le h = let one = complete used x rest i (omega arith) h.0 in rw (one, h.1) refl
  list_complete comma n complete used (x ∷ y ∷ ys) i zero rest lf le h = absurd (omega arith)
  list_complete comma n complete used (x ∷ y ∷ ys) i (suc f) rest lf le h =
      let s : used ++ rest ≡ i.0 ++ at mark.Comma i.1 ∷ (i.2 ++ rest) = ap (λ (l : List Token). l ++ rest) i.3 ∙ append_assoc i.0 (at mark.Comma i.1 ∷ i.2) rest in
      let one = complete i.0 x (at mark.Comma i.1 ∷ (i.2 ++ rest)) i.4 (omega arith) (comma x i.1 (i.2 ++ rest)) in
      let others = list_complete comma n complete i.2 (y ∷ ys) i.5 f rest (omega arith) (omega arith) h in
      rw (s, one, others) refl

  pub listed_complete : TakesComma → (n : ℕ) → IsComplete F n → IsComplete (Listed F) n
  listed_complete comma n complete used xs rest i le h =
      list_complete comma n complete used xs i (suc (length (used ++ rest))) rest (omega (arith, listed_short used xs i, length-append used rest)) le h

  -- no item begins with the mark
  abbrev pub StartsOff : Mark → Type 0
  StartsOff m = (a : List Token) (x : A) (rest : List Token) → F.is a x → starts_with m (a ++ rest) ≡ false

  pub listed_starts : (m : Mark) → StartsOff m → (ts : List Token) (x : A) (xs : List A) (rest : List Token) → AreListed F ts (x ∷ xs) → starts_with m (ts ++ rest) ≡ false
  listed_starts m off ts x [] rest i = off ts x rest i
  listed_starts m off ts x (y ∷ ys) rest i =
      let s : ts ++ rest ≡ i.0 ++ at mark.Comma i.1 ∷ (i.2 ++ rest) = ap (λ (l : List Token). l ++ rest) i.3 ∙ append_assoc i.0 (at mark.Comma i.1 ∷ i.2) rest in
      rw s (off i.0 x (at mark.Comma i.1 ∷ (i.2 ++ rest)) i.4)

  pub series_complete : (m : Mark) → TakesComma → StartsOff m → (n : ℕ) → IsComplete F n → IsComplete (Series F m) n
  unfolding listed_at
  series_complete m comma off n complete used [] rest i le h = rw (i, h) refl
  series_complete m comma off n complete used (x ∷ xs) rest i le h =
      let none = listed_starts m off used x xs rest i in
      let all = listed_complete comma n complete used (x ∷ xs) rest i le h in
      rw (none, all) refl

  -- items that stand one after another up to the mark
  pub record Stands (m : Mark) : Type 0 where
    pub first : StartsOff m
    pub next : (x y : A) (b rest : List Token) → F.is b y → F.ends x (b ++ rest)
    pub last : (x : A) (rest : List Token) → starts_with m rest ≡ true → F.ends x rest

  -- an item has tokens
  no_item : (m : Mark) → StartsOff m → (x : A) → F.is [] x → ⊥
  no_item m off x i =
      let s : Span = record { start = 0; end = 0 } in
      false≢true (sym (off [] x (at m s ∷ []) i) ∙ mark_starts m s [])

  pub item_long : (m : Mark) → StartsOff m → (a : List Token) (x : A) → F.is a x → 0 < length a
  item_long m off [] x i = absurd (no_item m off x i)
  item_long m off (t ∷ a) x i = omega arith

  all_short : (m : Mark) → StartsOff m → (ts : List Token) (xs : List A) → AreAll F ts xs → length xs ≤ length ts
  all_short m off ts [] i = omega arith
  all_short m off ts (x ∷ xs) i = omega (arith, all_short m off i.1 xs i.4, item_long m off i.0 x i.3, ap length i.2, length-append i.0 i.1)

  item_ends : (m : Mark) → Stands m → (x : A) (b : List Token) (ys : List A) (rest : List Token) → AreAll F b ys → starts_with m rest ≡ true → F.ends x (b ++ rest)
  item_ends m s x b [] rest i h = subst (λ (l : List Token). F.ends x (l ++ rest)) (sym i) (s.last x rest h)
  item_ends m s x b (y ∷ ys) rest i h =
      let e : b ++ rest ≡ i.0 ++ (i.1 ++ rest) = ap (λ (l : List Token). l ++ rest) i.2 ∙ append_assoc i.0 i.1 rest in
      subst (λ (l : List Token). F.ends x l) (sym e) (s.next x y i.0 (i.1 ++ rest) i.3)

  all_complete : (m : Mark) → Stands m → (n : ℕ) → IsComplete F n → (used : List Token) (xs : List A) → AreAll F used xs → (f : ℕ) (rest : List Token)
      → length xs < f → deepest F xs ≤ n → starts_with m rest ≡ true → until_at m (F.read n) f (used ++ rest) ≡ Ok (xs, rest)
  unfolding until_at
  all_complete m s n complete used xs i zero rest lf le h = absurd (omega arith)
  all_complete m s n complete used [] i (suc f) rest lf le h = rw (i, h) refl
  all_complete m s n complete used (x ∷ xs) i (suc f) rest lf le h =
      let e : used ++ rest ≡ i.0 ++ (i.1 ++ rest) = ap (λ (l : List Token). l ++ rest) i.2 ∙ append_assoc i.0 i.1 rest in
      let one = complete i.0 x (i.1 ++ rest) i.3 (omega arith) (item_ends m s x i.1 xs rest i.4 h) in
      let others = all_complete m s n complete i.1 xs i.4 f rest (omega arith) (omega arith) h in
      rw (e, s.first i.0 x (i.1 ++ rest) i.3, one, others) refl

  pub until_complete : (m : Mark) → Stands m → (n : ℕ) → IsComplete F n → IsComplete (Until F m) n
  until_complete m s n complete used xs rest i le h =
      all_complete m s n complete used xs i (suc (length (used ++ rest))) rest (omega (arith, all_short m s.first used xs i, length-append used rest)) le h
