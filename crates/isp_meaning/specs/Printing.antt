-- The values of a `print` as they are printed.
use Rattle.std.specs.Prelude.{ℕ, List, [], ◌∷◌}
use Rattle.isp_base.specs.Prints.{value_text, list_text}
use Rattle.isp_base.specs.Sets.{Mask}
use Rattle.isp_base.specs.declared.types.Rate.{Rate}
use Rattle.isp_base.specs.declared.types.Rate.TheVariants.{Uniform, Varying}
use Rattle.isp_base.specs.declared.types.Ty.{Ty}
use Rattle.isp_base.specs.declared.types.Elem.{Elem}
use Rattle.isp_typed.specs.Typed.{TExpr, type_of}
use Rattle.isp_meaning.specs.Payloads.{Payload, sole, spread}

-- a uniform value, or a varying one of the members of a set
abbrev pub shown_at : Rate → Elem → ℕ → Mask → Payload → List ℕ
shown_at Uniform t gang a x = value_text t (sole x)
shown_at Varying t gang a x = list_text t gang (spread a x)

abbrev pub shown : ℕ → Mask → Ty → Payload → List ℕ
shown gang a t x = shown_at t.rate t.elem gang a x

-- the values of some expressions, as they are printed
abbrev pub shown_all : ℕ → Mask → List TExpr → List Payload → List (List ℕ)
shown_all gang a [] ms = []
shown_all gang a (x ∷ xs) [] = []
shown_all gang a (x ∷ xs) (m ∷ ms) = shown gang a (type_of x) m ∷ shown_all gang a xs ms
