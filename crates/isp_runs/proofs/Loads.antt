-- What loading a text answers, by what reading it and verifying its code answer.
use Rattle.std.proofs.Common.{◌≡◌, ◌≢◌, ℕ, List, None, Some, Result, Ok, Err, IfOk, IfErr, MatchResult, refl, sym, ap, ◌∙◌}
use Rattle.std.specs.Prelude.{String, string_bytes}
use Rattle.std.specs.declared.alloc.AllocError.{AllocError}
use Rattle.std.specs.declared.alloc.Global.{Global}
use Rattle.isp_asm.specs.Faults.{fault_of}
use Rattle.isp_asm.specs.Spelling.{text_of}
use Rattle.isp_asm.specs.declared.fault.AsmFault.{AsmFault}
use Rattle.isp_asm.specs.declared.fault.AsmFault.TheVariants as asm_fault
use Rattle.isp_asm.specs.declared.fault.Fault.{Fault as TextFault}
use Rattle.isp_code.specs.Listing.{Listing}
use Rattle.isp_code.specs.Writable.{IsWritable}
use Rattle.isp_verify.specs.Faults.{code_fault}
use Rattle.isp_verify.specs.declared.fault.Fault.{Fault as CodeRefusal}
use Rattle.isp_runs.specs.declared.fault.CodeFault.{CodeFault}
use Rattle.isp_runs.specs.declared.fault.CodeFault.TheVariants.{Memory, Text, Code}
use Rattle.isp_runs.specs.CodeFaults.{text_refusal}
use Rattle.isp_runs.specs.Loading.{IsCodeOf, IsLoaded, IsNotLoaded}

-- ---- the text of code without a fault

pub written : (code image : Listing) (r : Result (String Global) AllocError) → code ≡ image → IsWritable image → code_fault image ≡ None → IfOk r (λ s. string_bytes s ≡ text_of code)
    → IfOk r (λ s. IsLoaded (string_bytes s) image)
written code image (Ok s) same writable fine is = record { of = record { writable = writable; is = ap text_of (sym same) ∙ sym is }; fine = fine }
written code image (Err e) same writable fine is = tt

-- ---- a text that is not read

pub unread : (text : List ℕ) (a : AsmFault) (e : CodeFault) → e ≡ text_refusal a → ((f : TextFault) → a ≡ asm_fault.Refused f → fault_of text ≡ Some f) → e ≢ Memory → IsNotLoaded text e
unread text asm_fault.Memory e is h n = absurd (n is)
unread text (asm_fault.Refused f) e is h n = rw is (h f refl)

pub no_memory : (a : AsmFault) (e : CodeFault) → e ≡ text_refusal a → a ≡ asm_fault.Memory → e ≡ Memory
no_memory a e is m = is ∙ ap text_refusal m

-- ---- code that was read, and is or is not verified

-- what verifying the code answers
abbrev pub Verifies : Listing → Result Listing CodeFault → Type 0
Verifies code r = IfOk r (λ i. (i ≡ code) × (code_fault code ≡ None))

abbrev pub Finds : Listing → Result Listing CodeFault → Type 0
Finds code r = IfErr r (λ e. (f : CodeRefusal) → e ≡ Code f → code_fault code ≡ Some f)

abbrev pub FindsNoText : Result Listing CodeFault → Type 0
FindsNoText r = IfErr r (λ e. (f : TextFault) → e ≢ Text f)

module _ (text : List ℕ) (code : Listing) (writable : IsWritable code) (is : text_of code ≡ text) where
  abbrev of : IsCodeOf text code
  of = record { writable = writable; is = is }

  pub loads : (r : Result Listing CodeFault) → Verifies code r → IfOk r (IsLoaded text)
  loads (Ok i) h = rw h.0 (record { of = of; fine = h.1 })
  loads (Err e) h = tt

  unverified : (e : CodeFault) → ((f : CodeRefusal) → e ≡ Code f → code_fault code ≡ Some f) → ((f : TextFault) → e ≢ Text f) → e ≢ Memory → IsNotLoaded text e
  unverified Memory h k n = absurd (n refl)
  unverified (Text f) h k n = absurd (k f refl)
  unverified (Code f) h k n = (code, of, h f refl)

  pub refuses : (r : Result Listing CodeFault) → Finds code r → FindsNoText r → IfErr r (λ e. e ≢ Memory → IsNotLoaded text e)
  refuses (Ok i) h k = tt
  refuses (Err e) h k = unverified e h k

  -- where the code has no fault, memory was refused
  no_fault : (e : CodeFault) → ((f : CodeRefusal) → e ≡ Code f → code_fault code ≡ Some f) → ((f : TextFault) → e ≢ Text f) → code_fault code ≡ None → e ≡ Memory
  no_fault Memory h k n = refl
  no_fault (Text f) h k n = absurd (k f refl)
  no_fault (Code f) h k n = let some : code_fault code ≡ Some f = h f refl in absurd cc

  pub loads_only : (r : Result Listing CodeFault) → Verifies code r → Finds code r → FindsNoText r → (c : Listing) → code ≡ c → code_fault c ≡ None
      → MatchResult r (λ i. i ≡ c) (λ e. e ≡ Memory)
  loads_only (Ok i) h a b c same n = h.0 ∙ same
  loads_only (Err e) h a b c same n = no_fault e a b (ap code_fault same ∙ n)

  -- where it has one, that is told
  told : (e : CodeFault) → ((f : CodeRefusal) → e ≡ Code f → code_fault code ≡ Some f) → ((f : TextFault) → e ≢ Text f) → (f : CodeRefusal) → code_fault code ≡ Some f → e ≢ Memory → e ≡ Code f
  told Memory h k f s n = absurd (n refl)
  told (Text g) h k f s n = absurd (k g refl)
  told (Code g) h k f s n = let some : code_fault code ≡ Some g = h g refl in let same : g ≡ f = cc in ap Code same

  pub loads_first : (r : Result Listing CodeFault) → Verifies code r → Finds code r → FindsNoText r → (c : Listing) (f : CodeRefusal) → code ≡ c → code_fault c ≡ Some f
      → MatchResult r (λ i. ⊥) (λ e. e ≢ Memory → e ≡ Code f)
  loads_first (Ok i) h a b c f same s = let none : code_fault c ≡ None = ap code_fault (sym same) ∙ h.1 in absurd (let no : ⊥ = cc in no)
  loads_first (Err e) h a b c f same s = told e a b f (ap code_fault same ∙ s)
