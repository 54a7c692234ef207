-- What a word of a run says.
--     Says text v       what the text after the `=` stands for
--     IsWord w r        the name and the value of a word, or that it is none
--     IsOutput w r      the name of an array, the file that it goes to and its format
use Rattle.std.specs.Prelude.{◌≡◌, ◌≢◌, ◌⊎◌, ℕ, ◌+◌, ◌-◌, ◌*◌, ◌<◌, ◌^◌, List, [], ◌∷◌, ◌++◌, length, codes, bytes_eq, get_or, Bool, true, false, ◌&&◌, ◌||◌, ◌==◌, eqb, nat_lt, nat_le, Option, Some, None, if◌then◌else◌}
use Rattle.std.specs.List.{ends_with, starts_with}
use Rattle.isp_run_words.specs.declared.words.Format.{Format}
use Rattle.isp_run_words.specs.declared.words.Format.TheVariants.{Json, Npy, Pgm, Ppm}
use Rattle.isp_run_words.specs.declared.words.LengthsRead.{LengthsRead}
use Rattle.isp_run_words.specs.declared.words.Value.{Value}
use Rattle.isp_run_words.specs.declared.words.Value.TheVariants.{Literal, File, Input, Zeros}
use denote.Ref.{Bor}

-- ---- files

-- the format of a file, by the ending of its name
abbrev pub format_of : List ℕ → Option Format
format_of name =
    if ends_with eqb name (codes ".json") then Some Json
    else (if ends_with eqb name (codes ".npy") then Some Npy else (if ends_with eqb name (codes ".pgm") then Some Pgm else (if ends_with eqb name (codes ".ppm") then Some Ppm else None)))

-- ---- lengths

abbrev pub within : ℕ → Option ℕ
within n = if nat_lt n (2 ^ 64) then Some n else None

-- the product of the numbers before with the number that was read, if one was
abbrev pub times_of : ℕ → Option ℕ → Option ℕ
times_of p None = None
times_of p (Some n) = within (p * n)

-- the number that is being read; 0 before its first digit
abbrev pub begun : Option ℕ → ℕ
begun None = 0
begun (Some n) = n

-- with a digit after it
abbrev pub grown_of : Option ℕ → ℕ → Option ℕ
grown_of n c = if nat_lt c 48 || nat_lt 57 c then None else (if nat_lt (begun n * 10) (2 ^ 64) then within (begun n * 10 + (c - 48)) else None)

abbrev pub starred : Option ℕ → Option LengthsRead
starred None = None
starred (Some q) = Some (record { product = q; number = None })

abbrev pub numbered : ℕ → Option ℕ → Option LengthsRead
numbered p None = None
numbered p (Some n) = Some (record { product = p; number = Some n })

-- what was read, with a byte after it
abbrev pub step_of : LengthsRead → ℕ → Option LengthsRead
step_of r c = if c == 42 then starred (times_of r.product r.number) else numbered r.product (grown_of r.number c)

infixl 10 ◌>>?◌
abbrev pub ◌>>?◌ : Option LengthsRead → (LengthsRead → Option ℕ) → Option ℕ
None >>? f = None
Some r >>? f = f r

-- decimal numbers with `*` between them, of which r was read: their product, where it stays below 2^64
abbrev pub product_of : LengthsRead → List ℕ → Option ℕ
product_of r [] = times_of r.product r.number
product_of r (c ∷ cs) = step_of r c >>? (λ s. product_of s cs)

abbrev pub lengths_of : List ℕ → Option ℕ
lengths_of text = product_of (record { product = 1; number = None }) text

-- what stands after `zeros(`
abbrev pub IsLengths : List ℕ → Option ℕ → Type 0
IsLengths rest (Some n) = (inner : List ℕ) × (rest ≡ inner ++ 41 ∷ []) × (lengths_of inner ≡ Some n)
IsLengths rest None = ((inner : List ℕ) → rest ≢ inner ++ 41 ∷ []) ⊎ ((inner : List ℕ) × (rest ≡ inner ++ 41 ∷ []) × (lengths_of inner ≡ None))

-- ---- values

-- the standard input
abbrev pub is_input : List ℕ → Bool
is_input text = bytes_eq text (codes "-") || bytes_eq text (codes "@-")

abbrev pub Says : List ℕ → Value → Type 0
Says text Input = is_input text ≡ true
Says text (File name f) = (is_input text ≡ false) × (text ≡ 64 ∷ name.now) × (f ≡ format_of name.now)
Says text (Zeros n) = (rest : List ℕ) × (text ≡ codes "zeros(" ++ rest) × IsLengths rest n
Says text (Literal t) = (is_input text ≡ false) × (t.now ≡ text) × ((rest : List ℕ) → text ≢ 64 ∷ rest) × ((rest : List ℕ) → text ≢ codes "zeros(" ++ rest)

-- ---- words

abbrev pub Lacks : ℕ → List ℕ → Type 0
Lacks c text = (i : ℕ) → i < length text → get_or text i 0 ≢ c

-- a name, `=`, and what stands after
abbrev pub Parts : List ℕ → List ℕ → List ℕ → Type 0
Parts word name text = (word ≡ name ++ 61 ∷ text) × Lacks 61 name

-- a value without a name
abbrev pub is_whole : List ℕ → Bool
is_whole word = bytes_eq word (codes "-") || starts_with eqb word (codes "@")

abbrev pub IsWord : List ℕ → Option (Option (Bor (List ℕ)) × Value) → Type 0
IsWord word None = (is_whole word ≡ false) × Lacks 61 word
IsWord word (Some (None, v)) = (is_whole word ≡ true) × Says word v
IsWord word (Some (Some name, v)) = (is_whole word ≡ false) × ((text : List ℕ) × Parts word name.now text × Says text v)

abbrev pub IsOutput : List ℕ → Option (Bor (List ℕ) × Bor (List ℕ) × Option Format) → Type 0
IsOutput word None = Lacks 61 word
IsOutput word (Some (name, file, f)) = Parts word name.now file.now × (f ≡ format_of file.now)
