-- What an NPY file holds, in the versions 1.0, 2.0 and 3.0 of the format.
--     npy_of bytes    shape and elements, or the first flaw and its byte
-- A file is: its magic, its version, the length of its header, the header, the elements.
use Rattle.std.specs.Prelude.{ℕ, zero, suc, ◌-◌, ◌/◌, ◌^◌, ◌==◌, ◌||◌, ◌&&◌, not, List, [], ◌∷◌, length, take, drop, slice_index, bytes_eq, codes, Bool, nat_lt, Option, Some, None, Result, Ok, Err, ⊤, if◌then◌else◌}
use Rattle.std.specs.List.{prefix_len}
use Rattle.isp_files.specs.Endian.{little_number}
use Rattle.isp_base.specs.Cells.{cell_width}
use Rattle.isp_base.specs.Values.{width}
use Rattle.isp_base.specs.declared.types.Elem.{Elem}
use Rattle.isp_base.specs.declared.types.Elem.TheVariants.{Bool as Truth, I8, U8, I16, U16, I32, U32, I64, U64}
use Rattle.isp_files.specs.Files.{Sheet, count_of, file_of}
use Rattle.isp_files.specs.Reading.{Read, ◌>>=◌, flawed, byte_of, ahead, sign_of, word_of, past_blanks, end_of, number_of, numbers_of}
use Rattle.isp_files.specs.declared.fault.FileFault.{FileFault}
use Rattle.isp_files.specs.declared.fault.Flaw.{Flaw}
use Rattle.isp_files.specs.declared.fault.Flaw.TheVariants.{Ends, Magic, Version, Header, Keys, BigEndian, Float, Struct, UnknownType, Fortran, TooMany, TooDeep}

-- ---- the words of a header, which is text of Python

-- blanks, then this byte
abbrev pub mark_of : ℕ → List ℕ → Read ⊤
mark_of c bs = sign_of Header c (past_blanks bs)

-- the bytes before the next q
abbrev pub until_of : ℕ → List ℕ → Read (List ℕ)
until_of q bs = let n = prefix_len (λ b. not (b == q)) bs in sign_of Header q (drop n bs) >>= (λ p. Ok (take n bs, p.1))

-- a text in quotes of one kind
abbrev pub quoted_of : List ℕ → Read (List ℕ)
quoted_of [] = flawed Ends []
quoted_of (q ∷ bs) = if (q == 39) || (q == 34) then until_of q bs else flawed Header (q ∷ bs)

abbrev pub text_of : List ℕ → Read (List ℕ)
text_of bs = quoted_of (past_blanks bs)

-- ---- the type: the order of bytes, a kind, and how many bytes

abbrev pub signed_of : ℕ → Result Elem Flaw
signed_of n = if n == 49 then Ok I8 else (if n == 50 then Ok I16 else (if n == 52 then Ok I32 else (if n == 56 then Ok I64 else Err UnknownType)))

abbrev pub unsigned_of : ℕ → Result Elem Flaw
unsigned_of n = if n == 49 then Ok U8 else (if n == 50 then Ok U16 else (if n == 52 then Ok U32 else (if n == 56 then Ok U64 else Err UnknownType)))

-- of the kind `i`, `u` or `b`
abbrev pub whole_of : ℕ → ℕ → Result Elem Flaw
whole_of kind n = if kind == 105 then signed_of n else (if kind == 117 then unsigned_of n else (if (kind == 98) && (n == 49) then Ok Truth else Err UnknownType))

-- `<`, or `|` where there is one byte
abbrev pub is_little : ℕ → ℕ → Bool
is_little order n = (order == 60) || ((order == 124) && (n == 49))

-- `f` and `c` are no whole numbers, `V` is a structure; `>` has the big end first
abbrev pub elem_of : List ℕ → Result Elem Flaw
elem_of w =
    if slice_index w 0 == 62 then Err BigEndian
    else (if (slice_index w 1 == 102) || (slice_index w 1 == 99) then Err Float
    else (if slice_index w 1 == 86 then Err Struct
    else (if (length w == 3) && is_little (slice_index w 0) (slice_index w 2) then whole_of (slice_index w 1) (slice_index w 2) else Err UnknownType)))

abbrev pub typed_of : Result Elem Flaw → List ℕ → List ℕ → Read Elem
typed_of (Ok t) start rest = Ok (t, rest)
typed_of (Err w) start rest = flawed w start

-- a list of fields is a structure too
abbrev pub type_at : List ℕ → Read Elem
type_at bs = if slice_index bs 0 == 91 then flawed Struct bs else (quoted_of bs >>= (λ w. typed_of (elem_of w.0) bs w.1))

-- ---- the order, and the shape

abbrev pub order_at : List ℕ → Read ⊤
order_at bs = if slice_index bs 0 == 84 then flawed Fortran bs else word_of Header (codes "False") bs

-- a comma, or nothing before `)`
abbrev pub comma_at : List ℕ → Read ⊤
comma_at bs = if slice_index bs 0 == 41 then Ok (tt, bs) else sign_of Header 44 bs

-- the length of a dimension, and its comma
abbrev pub dim_at : List ℕ → Read ℕ
dim_at bs = number_of bs >>= (λ n. comma_at (past_blanks n.1) >>= (λ c. Ok (n.0, c.1)))

-- up to so many dimensions more, and `)`
abbrev pub dims_of : ℕ → List ℕ → Read (List ℕ)
dims_of zero bs = sign_of TooDeep 41 (past_blanks bs) >>= (λ z. Ok ([], z.1))
dims_of (suc k) bs =
    if slice_index (past_blanks bs) 0 == 41 then Ok ([], drop 1 (past_blanks bs))
    else (dim_at (past_blanks bs) >>= (λ n. ahead (n.0 ∷ []) (dims_of k n.1)))

-- after one dimension the comma is never left out
abbrev pub lengths_of : List ℕ → Read (List ℕ)
lengths_of bs =
    if slice_index bs 0 == 41 then Ok ([], drop 1 bs)
    else (number_of bs >>= (λ n. mark_of 44 n.1 >>= (λ c. ahead (n.0 ∷ []) (dims_of 63 c.1))))

abbrev pub shape_of : List ℕ → Read (List ℕ)
shape_of bs = mark_of 40 bs >>= (λ o. lengths_of (past_blanks o.1))

-- ---- the header: three entries in any order

pub data Entry : Type 0 where
  Typed : Elem → Entry
  Ordered : Entry
  Shaped : List ℕ → Entry

-- what stands after a key
abbrev pub value_of : List ℕ → List ℕ → List ℕ → Read Entry
value_of key start bs =
    if bytes_eq key (codes "descr") then (type_at (past_blanks bs) >>= (λ t. Ok (Typed t.0, t.1)))
    else (if bytes_eq key (codes "fortran_order") then (order_at (past_blanks bs) >>= (λ o. Ok (Ordered, o.1)))
    else (if bytes_eq key (codes "shape") then (shape_of bs >>= (λ s. Ok (Shaped s.0, s.1)))
    else flawed Keys start))

unfoldable pub entry_of : List ℕ → Read Entry
entry_of bs = do
  k ← text_of bs
  c ← mark_of 58 k.1
  value_of k.0 (past_blanks bs) c.1

-- a comma may stand before `}`
abbrev pub close_at : List ℕ → Read ⊤
close_at bs = if slice_index bs 0 == 44 then mark_of 125 (drop 1 bs) else sign_of Header 125 bs

abbrev pub close_of : List ℕ → Read ⊤
close_of bs = close_at (past_blanks bs)

-- one of each
abbrev pub told : Entry → Entry → Entry → Option (Elem × List ℕ)
told (Typed t) Ordered (Shaped s) = Some (t, s)
told (Typed t) (Shaped s) Ordered = Some (t, s)
told Ordered (Typed t) (Shaped s) = Some (t, s)
told (Shaped s) (Typed t) Ordered = Some (t, s)
told Ordered (Shaped s) (Typed t) = Some (t, s)
told (Shaped s) Ordered (Typed t) = Some (t, s)
told a b c = None

abbrev pub told_of : Option (Elem × List ℕ) → List ℕ → List ℕ → Read (Elem × List ℕ)
told_of (Some h) start rest = Ok (h, rest)
told_of None start rest = flawed Keys start

unfoldable pub dict_of : List ℕ → Read (Elem × List ℕ)
dict_of bs = do
  o ← mark_of 123 bs
  a ← entry_of o.1
  c ← mark_of 44 a.1
  b ← entry_of c.1
  d ← mark_of 44 b.1
  e ← entry_of d.1
  z ← close_of e.1
  told_of (told a.0 b.0 e.0) bs z.1

-- so many bytes more: blanks, and a line feed at the end
abbrev pub padding_of : ℕ → List ℕ → Read ⊤
padding_of zero bs = flawed Header bs
padding_of (suc zero) bs = sign_of Header 10 bs
padding_of (suc (suc k)) bs = sign_of Header 32 bs >>= (λ p. padding_of (suc k) p.1)

-- so many bytes: the entries, and what fills them up
abbrev pub header_of : ℕ → List ℕ → Read (Elem × List ℕ)
header_of n bs = do
  d ← dict_of bs
  p ← padding_of (n - (length bs - length d.1)) d.1
  Ok (d.0, p.1)

-- ---- the file

abbrev pub magic : List ℕ
magic = 147 ∷ codes "NUMPY"

-- a number of n bytes, the little end first
abbrev pub little_of : ℕ → List ℕ → Read ℕ
little_of n bs = if nat_lt (length bs) n then flawed Ends [] else Ok (little_number n bs, drop n bs)

-- the length of the header takes 2 bytes in version 1.0, and 4 in 2.0 and 3.0
abbrev pub length_of : ℕ → List ℕ → List ℕ → Read ℕ
length_of major start bs =
    if major == 1 then (sign_of Version 0 bs >>= (λ m. little_of 2 m.1))
    else (if (major == 2) || (major == 3) then (sign_of Version 0 bs >>= (λ m. little_of 4 m.1)) else flawed Version start)

abbrev pub opening_of : List ℕ → Read ℕ
opening_of bs = do
  m ← word_of Magic magic bs
  v ← byte_of m.1
  length_of v.0 m.1 v.1

-- the elements of a type: each in as many bytes as its cell has, the little end first
abbrev pub elements_of : Elem → Option ℕ → List ℕ → Read (List ℕ)
elements_of t None bs = flawed TooMany bs
elements_of t (Some c) bs = numbers_of little_number (cell_width t / 8) (2 ^ width t - 1) c bs

unfoldable pub sheet_of : List ℕ → Read Sheet
sheet_of bs = do
  n ← opening_of bs
  h ← header_of n.0 n.1
  xs ← elements_of h.0.0 (count_of h.0.1) h.1
  z ← end_of xs.1
  Ok ((h.0.1, record { elem = h.0.0; bits = xs.0 }), z.1)

abbrev pub npy_of : List ℕ → Result Sheet FileFault
npy_of bytes = file_of (length bytes) (sheet_of bytes)
