-- A file that was written is read as it was.
use Rattle.std.proofs.Common.{◌≡◌, ℕ, zero, suc, ◌+◌, ◌-◌, ◌/◌, ◌%◌, ◌^◌, ◌<◌, ◌≤◌, List, [], ◌∷◌, ◌++◌, length, get_or, Option, Some, Ok, refl, sym, ap, ◌∙◌, arith, append_assoc, length-append, le-ltb}
use Rattle.std.specs.Prelude.{⊤, nat_lt, replicate, codes}
use Rattle.std.proofs.lemmas.List.{append-nil, length-replicate}
use Rattle.std.specs.List.{flat_map}
use Rattle.isp_files.specs.Endian.{little_bytes, little_number}
use Rattle.isp_files.proofs.Bytes.{length-bytes, little_back as number_little}
use Rattle.isp_base.specs.Cells.{cell_width}
use Rattle.isp_base.specs.Rows.{Row, Fit}
use Rattle.isp_base.specs.Values.{width}
use Rattle.isp_base.specs.declared.types.Elem.{Elem}
use Rattle.isp_base.specs.declared.types.Elem.TheVariants.{Bool as Truth, I8, U8, I16, U16, I32, U32, I64, U64}
use Rattle.isp_files.specs.Files.{Sheet, count_of, file_of}
use Rattle.isp_files.specs.Npy.{Entry, Typed, Ordered, Shaped, close_of, dict_of, elements_of, entry_of, header_of, lengths_of, little_of, npy_of, padding_of, sheet_of, told, told_of}
use Rattle.isp_files.specs.Reading.{Read, ◌>>=◌, end_of, flawed, longest, past_blanks}
use Rattle.isp_files.specs.Writing.{dict_text, header_text, length_text, npy_bytes, type_name}
use Rattle.isp_files.specs.declared.fault.Flaw.TheVariants.{Ends}
use Rattle.isp_files.proofs.Back.{lengths_back, numbers_back, when_false}

-- ---- the entries

-- what stands before the lengths
abbrev before : Elem → List ℕ → List ℕ
before t rest = codes "{'descr': '" ++ type_name t ++ codes "', 'fortran_order': False, 'shape': (" ++ rest

-- what is done with the lengths
abbrev behind : Elem → List ℕ → Read (List ℕ) → Read (Elem × List ℕ)
behind t start r = (r >>= (λ s. let e : Read Entry = Ok (Shaped s.0, s.1) in e)) >>= (λ e. close_of e.1 >>= (λ z. told_of (told (Typed t) Ordered e.0) start z.1))

dict_before : (t : Elem) (rest : List ℕ) → dict_of (before t rest) ≡ behind t (before t rest) (lengths_of (past_blanks rest))
unfolding dict_of entry_of
dict_before Truth rest = refl
dict_before I8 rest = refl
dict_before U8 rest = refl
dict_before I16 rest = refl
dict_before U16 rest = refl
dict_before I32 rest = refl
dict_before U32 rest = refl
dict_before I64 rest = refl
dict_before U64 rest = refl

dict_split : (t : Elem) (shape rest : List ℕ) → dict_text t shape ++ rest ≡ before t (flat_map length_text shape ++ 41 ∷ 44 ∷ 32 ∷ 125 ∷ rest)
dict_split Truth shape rest = ap (before Truth) (append_assoc (flat_map length_text shape) (codes "), }") rest)
dict_split I8 shape rest = ap (before I8) (append_assoc (flat_map length_text shape) (codes "), }") rest)
dict_split U8 shape rest = ap (before U8) (append_assoc (flat_map length_text shape) (codes "), }") rest)
dict_split I16 shape rest = ap (before I16) (append_assoc (flat_map length_text shape) (codes "), }") rest)
dict_split U16 shape rest = ap (before U16) (append_assoc (flat_map length_text shape) (codes "), }") rest)
dict_split I32 shape rest = ap (before I32) (append_assoc (flat_map length_text shape) (codes "), }") rest)
dict_split U32 shape rest = ap (before U32) (append_assoc (flat_map length_text shape) (codes "), }") rest)
dict_split I64 shape rest = ap (before I64) (append_assoc (flat_map length_text shape) (codes "), }") rest)
dict_split U64 shape rest = ap (before U64) (append_assoc (flat_map length_text shape) (codes "), }") rest)

dict_back : (t : Elem) (shape rest : List ℕ) → length shape ≤ 64 → ((i : ℕ) → get_or shape i 0 ≤ longest) → dict_of (dict_text t shape ++ rest) ≡ Ok ((t, shape), rest)
dict_back t shape rest few small =
    let body = flat_map length_text shape ++ 41 ∷ 44 ∷ 32 ∷ 125 ∷ rest in
    ap dict_of (dict_split t shape rest)
    ∙ dict_before t body
    ∙ ap (behind t (before t body)) (lengths_back shape (44 ∷ 32 ∷ 125 ∷ rest) few small)

-- ---- what fills the header up

padding_back : (k : ℕ) (rest : List ℕ) → padding_of (suc k) (replicate k 32 ++ 10 ∷ rest) ≡ Ok (tt, rest)
padding_back zero rest = refl
padding_back (suc k) rest = padding_back k rest

header_back : (t : Elem) (shape rest : List ℕ) → length shape ≤ 64 → ((i : ℕ) → get_or shape i 0 ≤ longest)
    → header_of (length (header_text t shape)) (header_text t shape ++ rest) ≡ Ok ((t, shape), rest)
header_back t shape rest few small =
    let dict = dict_text t shape in
    let k = 63 - (length dict + 10) % 64 in
    let blanks : List ℕ = replicate k 32 in
    let many : length blanks ≡ k = length-replicate k 32 in
    let tail = blanks ++ 10 ∷ rest in
    let split : header_text t shape ++ rest ≡ dict ++ tail = append_assoc dict (blanks ++ 10 ∷ []) rest ∙ ap (λ (l : List ℕ). dict ++ l) (append_assoc blanks (10 ∷ []) rest) in
    let all : length (header_text t shape) ≡ length dict + (k + 1) =
    omega (arith, length-append dict (blanks ++ 10 ∷ []), length-append blanks (10 ∷ []), many) in
    let used : length (dict ++ tail) ≡ length dict + length tail = length-append dict tail in
    let left : length (header_text t shape) - (length (dict ++ tail) - length tail) ≡ suc k = omega (arith, all, used) in
    ap (header_of (length (header_text t shape))) split
    ∙ ap (λ (r : Read (Elem × List ℕ)). r >>= (λ d. padding_of (length (header_text t shape) - (length (dict ++ tail) - length d.1)) d.1 >>= (λ p. Ok (d.0, p.1)))) (dict_back t shape tail few small)
    ∙ ap (λ (n : ℕ). padding_of n tail >>= (λ p. Ok ((t, shape), p.1))) left
    ∙ ap (λ (r : Read ⊤). r >>= (λ p. Ok ((t, shape), p.1))) (padding_back k rest)

-- ---- the file

little_back : (n : ℕ) (rest : List ℕ) → n < 65536 → little_of 2 (little_bytes 2 n ++ rest) ≡ Ok (n, rest)
little_back n rest small =
    let bs = little_bytes 2 n ++ rest in
    let room : 2 ≤ length bs = omega arith in
    when_false (nat_lt (length bs) 2) (flawed Ends []) (Ok (little_number 2 bs, rest)) (le-ltb (length bs) 2 room)
    ∙ ap (λ (k : ℕ). let r : Read ℕ = Ok (k, rest) in r) (number_little 2 n rest small)

-- an element is at most the greatest of its type, which its bytes hold
abbrev size : Elem → ℕ
size t = cell_width t / 8

fits_bytes : (t : Elem) (x : ℕ) → x ≤ 2 ^ width t - 1 → x < 256 ^ size t
fits_bytes Truth x h = omega (arith, h)
fits_bytes I8 x h = omega (arith, h)
fits_bytes U8 x h = omega (arith, h)
fits_bytes I16 x h = omega (arith, h)
fits_bytes U16 x h = omega (arith, h)
fits_bytes I32 x h = omega (arith, h)
fits_bytes U32 x h = omega (arith, h)
fits_bytes I64 x h = omega (arith, h)
fits_bytes U64 x h = omega (arith, h)

elements_back : (a : Row) → Fit a.elem a.bits → elements_of a.elem (Some (length a.bits)) (flat_map (little_bytes (size a.elem)) a.bits) ≡ Ok (a.bits, [])
elements_back a fit =
    ap (elements_of a.elem (Some (length a.bits))) (sym (append-nil (flat_map (little_bytes (size a.elem)) a.bits)))
    ∙ numbers_back little_number little_bytes (size a.elem) (2 ^ width a.elem - 1)
    (λ x rest h. number_little (size a.elem) x rest (fits_bytes a.elem x h))
    (λ x. length-bytes 0 (size a.elem) x)
    a.bits [] (λ k. let h = fit k in omega (arith, h))

-- what is done with what was read
abbrev after_elements : Elem → List ℕ → List ℕ × List ℕ → Read Sheet
after_elements t shape xs = end_of xs.1 >>= (λ z. Ok ((shape, record { elem = t; bits = xs.0 }), z.1))

abbrev after_header : (Elem × List ℕ) × List ℕ → Read Sheet
after_header h = elements_of h.0.0 (count_of h.0.1) h.1 >>= after_elements h.0.0 h.0.1

abbrev after_size : ℕ × List ℕ → Read Sheet
after_size n = header_of n.0 n.1 >>= after_header

sheet_back : (shape : List ℕ) (a : Row) → length shape ≤ 64 → ((i : ℕ) → get_or shape i 0 ≤ longest) → length (header_text a.elem shape) < 65536
    → count_of shape ≡ Some (length a.bits) → Fit a.elem a.bits → sheet_of (npy_bytes shape a) ≡ Ok ((shape, a), [])
unfolding sheet_of
sheet_back shape a few small short count fit =
    let header = header_text a.elem shape in
    let n = length header in
    let body = flat_map (little_bytes (size a.elem)) a.bits in
    ap (λ (r : Read ℕ). r >>= after_size) (little_back n (header ++ body) short)
    ∙ ap (λ (r : Read (Elem × List ℕ)). r >>= after_header) (header_back a.elem shape body few small)
    ∙ ap (λ (o : Option ℕ). elements_of a.elem o body >>= after_elements a.elem shape) count
    ∙ ap (λ (r : Read (List ℕ)). r >>= after_elements a.elem shape) (elements_back a fit)

pub npy_back : (shape : List ℕ) (a : Row) → length shape ≤ 64 → ((i : ℕ) → get_or shape i 0 ≤ longest) → length (header_text a.elem shape) < 65536
    → count_of shape ≡ Some (length a.bits) → Fit a.elem a.bits → npy_of (npy_bytes shape a) ≡ Ok (shape, a)
npy_back shape a few small short count fit = ap (file_of (length (npy_bytes shape a))) (sheet_back shape a few small short count fit)
