-- Lists that begin with their number, of none, of one and of mapped items.
use Rattle.std.proofs.Common.{◌≡◌, ℕ, List, [], ◌∷◌, ◌++◌, length, map, refl, ap, sym, ◌∙◌, append-nil, append_assoc}
use Rattle.std.proofs.lemmas.List.{length-map}
use Rattle.std.specs.List.{flat_map}
use Rattle.isp_base.specs.declared.types.Elem.{Elem}
use Rattle.isp_code.specs.declared.function.Returns.{Returns}
use Rattle.isp_code.specs.declared.function.Returns.TheVariants as returns
use Rattle.isp_wasm_meaning.specs.Module as wasm
use Rattle.isp_wasm_meaning.specs.Valid.{sized}
use Rattle.isp_wasm.specs.Places.{size_of}
use Rattle.isp_wasm_binary.specs.Binary.{results_of, type_of}
use Rattle.isp_wasm_binary.specs.Modules.{func_type, value_type, group_bytes}
use Rattle.isp_wasm_binary.specs.Numbers.{u32, groups, bytes, vector}
use Rattle.isp_wasm_write.specs.declared.kernel.Caller.{Caller}
use Rattle.isp_wasm_write.specs.declared.kernel.Caller.TheVariants as callers
use Rattle.isp_wasm_module.specs.declared.groups.Group.{Group}
use Rattle.isp_wasm_module.specs.declared.types.ValueType.{ValueType}
use Rattle.isp_wasm_module.specs.reader.Pieces.{inner_of, result_for}
use Rattle.isp_wasm_module.specs.reader.Typed.{typed, group_of, result_types}

u32_one : u32 1 ≡ 1 ∷ []
unfolding u32 groups
u32_one = refl

u32_zero : u32 0 ≡ 0 ∷ []
unfolding u32 groups
u32_zero = refl

pub one_item : {A : Type 0} (f : A → List ℕ) (x : A) → vector f (x ∷ []) ≡ 1 ∷ f x
one_item f x = ap (λ l. l ++ (f x ++ [])) u32_one ∙ ap (λ l. 1 ∷ l) (append-nil (f x))

pub no_item : {A : Type 0} (f : A → List ℕ) → vector f [] ≡ 0 ∷ []
no_item f = ap (λ l. l ++ []) u32_zero

pub no_type : vector value_type [] ≡ 0 ∷ []
no_type = no_item value_type

pub one_type : (t : Elem) → vector value_type (sized (size_of t) ∷ []) ≡ 1 ∷ value_type (sized (size_of t))
one_type t = one_item value_type (sized (size_of t))

-- the same of what is appended
pub one_chain : (t : Elem) (k : ValueType) (o a b : List ℕ) → a ≡ o ++ 1 ∷ [] → b ≡ a ++ value_type (typed k) → typed k ≡ sized (size_of t)
    → b ≡ o ++ vector value_type (sized (size_of t) ∷ [])
one_chain t k o a b e f g =
    f ∙ ap (λ l. l ++ value_type (typed k)) e ∙ append_assoc o (1 ∷ []) (value_type (typed k)) ∙ ap (λ u. o ++ 1 ∷ value_type u) g ∙ ap (λ l. o ++ l) (sym (one_type t))

pub results_are : (c : Caller) (r : Returns) → results_of (result_for c r) ≡ result_types r c
results_are callers.Host returns.Nothing = refl
results_are callers.Host (returns.Scalar t) = refl
results_are callers.Host (returns.Vector t) = refl
results_are callers.Function returns.Nothing = refl
results_are callers.Function (returns.Scalar t) = refl
results_are callers.Function (returns.Vector t) = refl

pub types_counted : (ts : List ValueType) → vector value_type (map typed ts) ≡ u32 (length ts) ++ flat_map value_type (map typed ts)
types_counted ts = ap (λ n. u32 n ++ flat_map value_type (map typed ts)) (length-map ts typed)

pub groups_counted : (gs : List Group) → vector group_bytes (map group_of gs) ≡ u32 (length gs) ++ flat_map group_bytes (map group_of gs)
groups_counted gs = ap (λ n. u32 n ++ flat_map group_bytes (map group_of gs)) (length-map gs group_of)

pub unused_type : func_type (type_of wasm.unused) ≡ 0x60 ∷ 0 ∷ 0 ∷ []
unfolding u32 groups
unused_type = refl

pub unused_body : bytes (inner_of wasm.unused) ≡ 3 ∷ 0 ∷ 0 ∷ 11 ∷ []
unfolding u32 groups
unused_body = refl
