-- What a file of an image holds: PGM, of grey samples, or PPM, of red, green and blue ones; both with samples in bytes (P5, P6).
--     image_of bytes    the rows from above, in each the samples from the left, those of one place together; or the first flaw and its byte
use Rattle.std.specs.Prelude.{ℕ, ◌==◌, ◌||◌, not, List, [], ◌∷◌, length, Bool, true, false, nat_lt, Option, Some, None, Result, Ok, ⊤, if◌then◌else◌}
use Rattle.isp_files.specs.Endian.{big_number}
use Rattle.isp_base.specs.declared.types.Elem.{Elem}
use Rattle.isp_base.specs.declared.types.Elem.TheVariants.{U8, U16}
use Rattle.isp_files.specs.Files.{Sheet, count_of, file_of}
use Rattle.isp_files.specs.Reading.{Read, ◌>>=◌, flawed, sign_of, is_blank, end_of, number_of, numbers_of}
use Rattle.isp_files.specs.declared.fault.FileFault.{FileFault}
use Rattle.isp_files.specs.declared.fault.Flaw.TheVariants.{Ends, Magic, Header, TooMany, Maxval}

-- ---- the header

-- a carriage return or a line feed
abbrev pub ends_line : ℕ → Bool
ends_line b = (b == 13) || (b == 10)

-- after blanks and comments, which go from `#` to the end of their line; whether the first byte stands in a comment
abbrev pub past_gap : Bool → List ℕ → List ℕ
past_gap c [] = []
past_gap true (b ∷ bs) = past_gap (not (ends_line b)) bs
past_gap false (b ∷ bs) = if b == 35 then past_gap true bs else (if is_blank b then past_gap false bs else b ∷ bs)

-- at least one blank or a comment
abbrev pub gap_of : List ℕ → Read ⊤
gap_of [] = flawed Ends []
gap_of (b ∷ bs) = if (b == 35) || is_blank b then Ok (tt, past_gap false (b ∷ bs)) else flawed Header (b ∷ bs)

-- a number after a gap
abbrev pub size_of : List ℕ → Read ℕ
size_of bs = gap_of bs >>= (λ g. number_of g.1)

-- the greatest sample
abbrev pub most_of : List ℕ → Read ℕ
most_of bs = gap_of bs >>= (λ g. number_of g.1 >>= (λ n. if (n.0 == 0) || nat_lt 65535 n.0 then flawed Maxval g.1 else Ok n))

-- one blank, after which the samples begin
abbrev pub blank_of : List ℕ → Read ⊤
blank_of [] = flawed Ends []
blank_of (b ∷ bs) = if is_blank b then Ok (tt, bs) else flawed Header (b ∷ bs)

-- P5: one sample for each place; P6: three
abbrev pub is_color_of : List ℕ → Read Bool
is_color_of [] = flawed Ends []
is_color_of (b ∷ bs) = if b == 53 then Ok (false, bs) else (if b == 54 then Ok (true, bs) else flawed Magic (b ∷ bs))

-- ---- the samples

abbrev pub shape_of : Bool → ℕ → ℕ → List ℕ
shape_of false height width = height ∷ width ∷ []
shape_of true height width = height ∷ width ∷ 3 ∷ []

-- two bytes where one does not hold the greatest
abbrev pub elem_of : ℕ → Elem
elem_of m = if nat_lt 255 m then U16 else U8

abbrev pub samples_of : ℕ → Option ℕ → List ℕ → Read (List ℕ)
samples_of m None bs = flawed TooMany bs
samples_of m (Some c) bs = numbers_of big_number (if nat_lt 255 m then 2 else 1) m c bs

unfoldable pub sheet_of : List ℕ → Read Sheet
sheet_of bs = do
  p ← sign_of Magic 80 bs
  k ← is_color_of p.1
  w ← size_of k.1
  h ← size_of w.1
  m ← most_of h.1
  d ← blank_of m.1
  xs ← samples_of m.0 (count_of (shape_of k.0 h.0 w.0)) d.1
  z ← end_of xs.1
  Ok ((shape_of k.0 h.0 w.0, record { elem = elem_of m.0; bits = xs.0 }), z.1)

abbrev pub image_of : List ℕ → Result Sheet FileFault
image_of bytes = file_of (length bytes) (sheet_of bytes)
