-- The bytes that an array is written as.
--     npy_bytes shape a       an NPY file of version 1.0
--     image_bytes c h w a     a PGM, or where there is colour a PPM
use Rattle.std.specs.Prelude.{ℕ, ◌+◌, ◌-◌, ◌/◌, ◌%◌, List, [], ◌∷◌, ◌++◌, length, codes, replicate, Bool, true, false}
use Rattle.std.specs.Fmt.{decimal}
use Rattle.std.specs.List.{flat_map}
use Rattle.isp_files.specs.Endian.{big_bytes, little_bytes}
use Rattle.isp_base.specs.Cells.{cell_width}
use Rattle.isp_base.specs.Rows.{Row}
use Rattle.isp_base.specs.declared.types.Elem.{Elem}
use Rattle.isp_base.specs.declared.types.Elem.TheVariants.{Bool as Truth, I8, U8, I16, U16, I32, U32, I64, U64}
use Rattle.isp_files.specs.Npy.{magic}

-- ---- NPY

abbrev pub type_name : Elem → List ℕ
type_name Truth = codes "|b1"
type_name I8 = codes "|i1"
type_name U8 = codes "|u1"
type_name I16 = codes "<i2"
type_name U16 = codes "<u2"
type_name I32 = codes "<i4"
type_name U32 = codes "<u4"
type_name I64 = codes "<i8"
type_name U64 = codes "<u8"

-- a comma stands after each length
abbrev pub length_text : ℕ → List ℕ
length_text n = decimal n ++ 44 ∷ []

abbrev pub dict_text : Elem → List ℕ → List ℕ
dict_text t shape = codes "{'descr': '" ++ type_name t ++ codes "', 'fortran_order': False, 'shape': (" ++ flat_map length_text shape ++ codes "), }"

-- blanks and a line feed, so that the elements begin at a multiple of 64
abbrev pub padding_text : ℕ → List ℕ
padding_text n = replicate (63 - (n + 10) % 64) 32 ++ 10 ∷ []

abbrev pub header_text : Elem → List ℕ → List ℕ
header_text t shape = dict_text t shape ++ padding_text (length (dict_text t shape))

-- magic, version, and the header after its length
abbrev pub opened : List ℕ → List ℕ
opened header = magic ++ 1 ∷ 0 ∷ little_bytes 2 (length header) ++ header

abbrev pub npy_bytes : List ℕ → Row → List ℕ
npy_bytes shape a = opened (header_text a.elem shape) ++ flat_map (little_bytes (cell_width a.elem / 8)) a.bits

-- ---- images

abbrev pub image_magic : Bool → List ℕ
image_magic false = codes "P5 "
image_magic true = codes "P6 "

-- the greatest sample: that of the type
abbrev pub most_text : Elem → List ℕ
most_text U16 = codes "65535"
most_text t = codes "255"

-- width, height, the greatest sample and a line feed
abbrev pub sizes_text : ℕ → ℕ → Elem → List ℕ
sizes_text height width t = decimal width ++ 32 ∷ (decimal height ++ 32 ∷ (most_text t ++ 10 ∷ []))

abbrev pub image_bytes : Bool → ℕ → ℕ → Row → List ℕ
image_bytes is_color height width a = (image_magic is_color ++ sizes_text height width a.elem) ++ flat_map (big_bytes (cell_width a.elem / 8)) a.bits
