-- What is known of a byte of the text, by the notes of its program.
--     Names ns k x            the name that begins at byte k declares x, or stands for it
--     subject_at k ns         the first x that it does so for
--     IsAround ns at v        v is an expression that stands around the byte
--     IsNarrowest ns at v     and no narrower one does
use Rattle.std.specs.Prelude.{◌≡◌, ◌⊎◌, ℕ, ◌+◌, ◌-◌, ◌<◌, ◌≤◌, ◌==◌, ◌&&◌, Bool, true, false, List, [], ◌∷◌, length, take, drop, get_or, if◌then◌else◌, Option, Some, None, Contains}
use Rattle.std.specs.List.{filter_map, prefix_len, suffix_len}
use Rattle.isp_base.specs.declared.types.Span.{Span}
use Rattle.isp_lex.specs.Bytes.{is_word_byte}
use Rattle.isp_known.specs.declared.note.Note.{Note}
use Rattle.isp_known.specs.declared.note.Note.TheVariants.{Value, Declared, Used, Index, Loaded}
use Rattle.isp_known.specs.declared.note.Subject.{Subject}
use Rattle.isp_known.specs.declared.note.Subject.TheVariants.{Variable, Function}
use Rattle.isp_known.specs.declared.place.Valued.{Valued}

abbrev pub Names : List Note → ℕ → Subject → Type 0
Names ns k x = Contains ns (Declared k x) ⊎ Contains ns (Used k x)

abbrev pub named : ℕ → Note → Option Subject
named k (Value s t) = None
named k (Declared j x) = if j == k then Some x else None
named k (Used j x) = if j == k then Some x else None
named k (Index j x) = None
named k (Loaded j x) = None

abbrev pub or_else : {A : Type 0} → Option A → Option A → Option A
or_else None o = o
or_else (Some x) o = Some x

abbrev pub subject_at : ℕ → List Note → Option Subject
subject_at k [] = None
subject_at k (n ∷ ns) = or_else (named k n) (subject_at k ns)

-- ---- where something is named

abbrev pub same : Subject → Subject → Bool
same (Variable f k) (Variable g j) = (f == g) && (k == j)
same (Variable f k) (Function g) = false
same (Function g) (Variable f k) = false
same (Function g) (Function h) = g == h

-- where x is declared, by the first note that does so
abbrev pub declared_at : Subject → Note → Option ℕ
declared_at x (Value s t) = None
declared_at x (Declared k y) = if same y x then Some k else None
declared_at x (Used k y) = None
declared_at x (Index k y) = None
declared_at x (Loaded k y) = None

abbrev pub declaration_of : Subject → List Note → Option ℕ
declaration_of x [] = None
declaration_of x (n ∷ ns) = or_else (declared_at x n) (declaration_of x ns)

-- the byte at which a note names x, in its declaration where that is asked for too
abbrev pub named_at : Bool → Subject → Note → Option ℕ
named_at declared x (Value s t) = None
named_at declared x (Declared k y) = if declared && same y x then Some k else None
named_at declared x (Used k y) = if same y x then Some k else None
named_at declared x (Index k y) = None
named_at declared x (Loaded k y) = None

-- the places at which x is named, in the order of the notes
abbrev pub places_of : Bool → Subject → List Note → List ℕ
places_of declared x ns = filter_map (named_at declared x) ns

-- ---- what stands around a byte

pub record IsAround (ns : List Note) (at : ℕ) (v : Valued) : Type 0 where
  pub noted : Contains ns (Value v.span v.ty)
  pub from : v.span.start ≤ at
  pub to : at < v.span.end

abbrev pub width : Span → ℕ
width s = s.end - s.start

pub record IsNarrowest (ns : List Note) (at : ℕ) (v : Valued) : Type 0 where
  pub around : IsAround ns at v
  pub narrowest : (w : Valued) → IsAround ns at w → width v.span ≤ width w.span

-- ---- words: the letters, digits and `_` around a byte or before it, as far as they go; there may be none

abbrev pub word_of : List ℕ → ℕ → Span
word_of text at = record { start = at - suffix_len is_word_byte (take at text); end = at + prefix_len is_word_byte (drop at text) }

-- all of a word, and nothing more
pub record IsWordAround (text : List ℕ) (at : ℕ) (s : Span) : Type 0 where
  pub from : s.start ≤ at
  pub to : at ≤ s.end
  pub there : s.end ≤ length text
  pub word : (k : ℕ) → s.start ≤ k → k < s.end → is_word_byte (get_or text k 0) ≡ true
  pub before : 0 < s.start → is_word_byte (get_or text (s.start - 1) 0) ≡ false
  pub behind : s.end < length text → is_word_byte (get_or text s.end 0) ≡ false
