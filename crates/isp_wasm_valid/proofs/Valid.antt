-- The module of accepted code is valid.
use Rattle.std.proofs.Common.{◌≡◌, ◌≢◌, ℕ, zero, suc, ◌+◌, ◌/◌, ◌^◌, ◌<◌, ◌≤◌, List, length, Some, false, refl, sym, ap, ◌∙◌, subst, arith}
use Rattle.std.specs.Prelude.{slice_get, codes}
use Rattle.std.proofs.lemmas.Nat.{div_below}
use Rattle.isp_code.specs.Listing.{Listing}
use Rattle.isp_code.specs.Writable.{IsWritable, name_fits}
use Rattle.isp_verify.specs.Accepted.{AcceptedIsFine, IsFine}
use Rattle.isp_forms.specs.Runs.{Forms}
use Rattle.isp_wasm_meaning.specs.Module.{Module}
use Rattle.isp_wasm.specs.Kernel as functions
use Rattle.isp_wasm.specs.Module.{module_with}
use Rattle.isp_wasm_binary.specs.Binary.{names, sections_of}
use Rattle.isp_wasm_binary.specs.Instructions.{hosts}
use Rattle.isp_wasm_binary.specs.Modules.{Export, MemoryKind, GlobalKind}
use Rattle.isp_wasm_valid.specs.Modules.{count_of, ModulesValid}
use Rattle.isp_wasm_valid.proofs.Exports.{Named, named_from, names_once, functions_once, no_name}
use Rattle.isp_wasm_valid.proofs.Sections.{same_some, slice_low, bodies_valid, types_there, functions_length}

-- ---- what each module exports

abbrev memory_export : Export
memory_export = record { name = codes "isp.memory"; kind = MemoryKind; index = 0 }

abbrev base_export : Export
base_export = record { name = codes "isp.base"; kind = GlobalKind; index = 0 }

abbrev stack_export : Export
stack_export = record { name = codes "isp.stack"; kind = GlobalKind; index = 17 }

lengths_differ : (a b : List ℕ) (m n : ℕ) → length a ≡ m → length b ≡ n → m ≢ n → a ≡ b → ⊥
lengths_differ a b m n x y apart same = apart (sym x ∙ ap length same ∙ y)

apart_names : (a b d e : Export) (m n : ℕ) → length a.name ≡ m → length b.name ≡ n → m ≢ n → Some a ≡ Some d → Some b ≡ Some e → d.name ≡ e.name → ⊥
apart_names a b d e m n x y apart f g same =
    lengths_differ a.name b.name m n x y apart (ap (λ (z : Export). z.name) (same_some a d f) ∙ same ∙ sym (ap (λ (z : Export). z.name) (same_some b e g)))

-- ---- each is there

module _ (m : Module) where
  abbrev all_exports : List Export
  all_exports = (sections_of m).exports

  abbrev IsThere : Export → Type 0
  IsThere e = e.index < count_of (sections_of m) e.kind

  globals_length : length (sections_of m).globals ≡ 18
  globals_length = refl

  there_as : (d e : Export) → Some d ≡ Some e → IsThere d → IsThere e
  there_as d e h x = subst IsThere (same_some d e h) x

  function_there : (e : Export) → Named m.functions 0 e → IsThere e
  function_there e it =
      let low = slice_low m.functions it.0 it.1 it.2 in
      let few = functions_length m in
      subst (λ k. e.index < count_of (sections_of m) k) (sym it.4) (let is : e.index ≡ hosts + (0 + it.0) = it.5 in omega (arith, low, few, is))

  exports_there : (k : ℕ) (e : Export) → slice_get all_exports k ≡ Some e → IsThere e
  exports_there zero e h = there_as memory_export e h (omega arith)
  exports_there (suc zero) e h = there_as base_export e h (let few = globals_length in omega (arith, few))
  exports_there (suc (suc zero)) e h = there_as stack_export e h (let few = globals_length in omega (arith, few))
  exports_there (suc (suc (suc k))) e h = function_there e (named_from m.functions 0 k e h)

-- ---- the memory

few_pages : (n : ℕ) → n < 2 ^ 32 → n / 65536 + 1 ≤ 2 ^ 16
few_pages n lt = let low : n / 65536 < 65536 = div_below n 65536 65536 (omega arith) (omega (arith, lt)) in omega (arith, low)

-- ---- names

module _ (image : Listing) (forms : Forms) (fine : IsFine image) (writable : IsWritable image) where
  abbrev exported : List Export
  exported = (sections_of (module_with image forms)).exports

  -- no function is exported as the memory or as a global
  not_function : (a d e : Export) (k : ℕ) → name_fits a.name ≡ false → Some a ≡ Some d → slice_get (names 0 (module_with image forms).functions) k ≡ Some e → d.name ≡ e.name → ⊥
  not_function a d e k bad h x same =
      no_name image forms writable e (named_from (module_with image forms).functions 0 k e x) a.name bad (sym same ∙ sym (ap (λ (z : Export). z.name) (same_some a d h)))

  exports_once : (j k : ℕ) (d e : Export) → slice_get exported j ≡ Some d → slice_get exported k ≡ Some e → d.name ≡ e.name → j ≡ k
  exports_once zero zero d e x y same = refl
  exports_once (suc zero) (suc zero) d e x y same = refl
  exports_once (suc (suc zero)) (suc (suc zero)) d e x y same = refl
  exports_once zero (suc zero) d e x y same = absurd (apart_names memory_export base_export d e 10 8 refl refl (λ h. omega (arith, h)) x y same)
  exports_once zero (suc (suc zero)) d e x y same = absurd (apart_names memory_export stack_export d e 10 9 refl refl (λ h. omega (arith, h)) x y same)
  exports_once (suc zero) zero d e x y same = absurd (apart_names base_export memory_export d e 8 10 refl refl (λ h. omega (arith, h)) x y same)
  exports_once (suc zero) (suc (suc zero)) d e x y same = absurd (apart_names base_export stack_export d e 8 9 refl refl (λ h. omega (arith, h)) x y same)
  exports_once (suc (suc zero)) zero d e x y same = absurd (apart_names stack_export memory_export d e 9 10 refl refl (λ h. omega (arith, h)) x y same)
  exports_once (suc (suc zero)) (suc zero) d e x y same = absurd (apart_names stack_export base_export d e 9 8 refl refl (λ h. omega (arith, h)) x y same)
  exports_once zero (suc (suc (suc k))) d e x y same = absurd (not_function memory_export d e k refl x y same)
  exports_once (suc zero) (suc (suc (suc k))) d e x y same = absurd (not_function base_export d e k refl x y same)
  exports_once (suc (suc zero)) (suc (suc (suc k))) d e x y same = absurd (not_function stack_export d e k refl x y same)
  exports_once (suc (suc (suc j))) zero d e x y same = absurd (not_function memory_export e d j refl y x (sym same))
  exports_once (suc (suc (suc j))) (suc zero) d e x y same = absurd (not_function base_export e d j refl y x (sym same))
  exports_once (suc (suc (suc j))) (suc (suc zero)) d e x y same = absurd (not_function stack_export e d j refl y x (sym same))
  exports_once (suc (suc (suc j))) (suc (suc (suc k))) d e x y same =
      ap (λ z. suc (suc (suc z))) (names_once (module_with image forms).functions (functions_once image forms fine) 0 j k d e x y same)

-- ---- the whole

pub modules_valid : functions.ModulesValid → AcceptedIsFine → ModulesValid
modules_valid law fine image forms accepted writable few =
    record {
      types = types_there (module_with image forms);
      bodies = bodies_valid (module_with image forms) (law image forms accepted);
      pages = few_pages (length (module_with image forms).memory) few;
      exports = exports_there (module_with image forms);
      names = exports_once image forms (fine image accepted) writable;
    }
