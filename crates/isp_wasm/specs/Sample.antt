-- A call of the kernel of examples/brighten.ispc: what a host passes, and its memory.
use Rattle.std.specs.Prelude.{ℕ, List, [], ◌∷◌, slice_index}
use Rattle.isp_base.specs.declared.types.Elem.TheVariants.{I32, U8}
use Rattle.isp_base.specs.declared.signature.Argument.{Argument}
use Rattle.isp_base.specs.declared.signature.Argument.TheVariants.{Value as AValue, Array as AnArray}
use Rattle.isp_wasm_meaning.specs.Meaning.{State}

abbrev pub pixels : List ℕ
pixels = 0 ∷ 10 ∷ 100 ∷ 200 ∷ 205 ∷ 206 ∷ 250 ∷ 255 ∷ 128 ∷ []

-- nine pixels, their number, and 50 for the light
abbrev pub sample_arguments : List Argument
sample_arguments = AnArray (record { elem = U8; bits = pixels }) ∷ AValue (record { elem = I32; bits = 9 }) ∷ AValue (record { elem = I32; bits = 50 }) ∷ []

-- the pixels are the first bytes of one page
abbrev pub sample_addresses : List ℕ
sample_addresses = 0 ∷ []

abbrev pub sample_state : State
sample_state = record { locals = λ y. 0; globals = λ y. 0; memory = slice_index pixels; size = 65536; out = [] }
