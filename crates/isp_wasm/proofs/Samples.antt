-- A kernel of examples/ meets all that the law of kernels asks.
use Rattle.std.proofs.Common.{◌≡◌, ℕ, zero, suc, ◌+◌, ◌*◌, ◌^◌, ◌<◌, ◌≤◌, ◌⊎◌, inl, inr, [], length, Option, Some, None, true, refl, sym, ap, ◌∙◌, subst, arith, lit≤, List, ◌∷◌}
use Rattle.std.specs.Prelude.{slice_index, codes}
use Rattle.std.proofs.lemmas.Bool.{cases_lt}
use Rattle.std.proofs.lemmas.List.{get_or_past}
use Rattle.isp_base.specs.Arguments.{rows, row_bits}
use Rattle.isp_code.specs.Entries.{IsEntry}
use Rattle.isp_verify.specs.Faults.{code_fault}
use Rattle.isp_base.specs.Values.{width, wrap_to}
use Rattle.isp_code.specs.Machine.{first_conf}
use Rattle.isp_forms.specs.Runs.{all_kept}
use Rattle.isp_forms.proofs.Runs.{kept_harmless}
use Rattle.isp_wasm_meaning.specs.Digits.{digit, packed}
use Rattle.isp_wasm_meaning.specs.Meaning.{Report, Result, Returned, Trapped, called, loaded, bytes}
use Rattle.isp_wasm_meaning.specs.Module.{code_in}
use Rattle.isp_wasm.specs.Brighten.{brighten, routine}
use Rattle.isp_wasm.specs.Entry.{SameOutcomes}
use Rattle.isp_wasm.specs.Kernel.{row_elem, array_end, IsLaidOut, in_call, passed}
use Rattle.isp_wasm.specs.Places.{bytes_of}
use Rattle.isp_wasm.specs.Module.{is_covered, module_of}
use Rattle.isp_wasm.specs.Stack.{uses_stack}
use Rattle.isp_wasm.specs.Sample.{pixels, sample_arguments, sample_addresses, sample_state}
use Rattle.isp_wasm.proofs.Kernels.{kernels_agree}

accepted : code_fault brighten ≡ None
accepted = refl

covers : is_covered brighten routine ≡ true
covers = refl

entry : IsEntry brighten (codes "brighten") sample_arguments 0 routine
entry = record { export = record { found = refl; named = refl; exported = refl }; fits = refl }

-- ---- the memory

past : (P : ℕ → Type 0) → ((e : ℕ) → e < 9 → P (slice_index pixels e)) → P 0 → (e : ℕ) → P (slice_index pixels e)
past P low zero_holds e = by (cases_lt e 9)
  where
    by : (e < 9) ⊎ (9 ≤ e) → P (slice_index pixels e)
    by (inl lt) = low e lt
    by (inr le) = subst P (sym (get_or_past pixels e 0 le)) zero_holds

byte_at : (e : ℕ) → e < 9 → slice_index pixels e < 256
byte_at zero h = lit≤ tt
byte_at (suc zero) h = lit≤ tt
byte_at (suc (suc zero)) h = lit≤ tt
byte_at (suc (suc (suc zero))) h = lit≤ tt
byte_at (suc (suc (suc (suc zero)))) h = lit≤ tt
byte_at (suc (suc (suc (suc (suc zero))))) h = lit≤ tt
byte_at (suc (suc (suc (suc (suc (suc zero)))))) h = lit≤ tt
byte_at (suc (suc (suc (suc (suc (suc (suc zero))))))) h = lit≤ tt
byte_at (suc (suc (suc (suc (suc (suc (suc (suc zero)))))))) h = lit≤ tt
byte_at (suc (suc (suc (suc (suc (suc (suc (suc (suc e))))))))) h = absurd (omega (arith, h))

one_byte : (a : ℕ) (memory : ℕ → ℕ) → loaded 1 a memory ≡ memory a
unfolding packed
one_byte a memory = ap (λ n. 0 * 256 + memory n) (let same : a + 0 ≡ a = omega arith in same) ∙ (let same : 0 * 256 + memory a ≡ memory a = omega arith in same)

no_element : (b e : ℕ) → e < length (row_bits [] b) → ⊥
no_element zero e h = omega (arith, h)
no_element (suc b) e h = omega (arith, h)

laid : IsLaidOut brighten all_kept sample_arguments sample_addresses sample_state
laid =
    record {
      begins = record { same = refl; room = lit≤ tt };
      each = refl;
      behind = λ b lt. omega arith;
      room = λ b lt. room b lt;
      apart = λ a b p q ne. absurd (ne (omega (arith, p, q)));
      elements = elements;
      elements_fit = λ b e lt. fit b e lt;
      bytes_fit = past (λ n. n < 256) byte_at (lit≤ tt);
      small = lit≤ tt;
      silent = refl;
    }
  where
    room : (b : ℕ) → b < 1 → array_end brighten sample_arguments sample_addresses b ≤ 65536
    room zero h = lit≤ tt
    room (suc b) h = absurd (omega (arith, h))

    elements : (b e : ℕ) → e < length (row_bits (rows sample_arguments) b)
        → loaded (bytes_of (row_elem (rows sample_arguments) b)) (slice_index sample_addresses b + e * bytes_of (row_elem (rows sample_arguments) b)) (slice_index pixels) ≡ slice_index (row_bits (rows sample_arguments) b) e
    elements zero e h = one_byte (0 + e * 1) (slice_index pixels) ∙ ap (slice_index pixels) (let same : 0 + e * 1 ≡ e = omega arith in same)
    elements (suc b) e h = absurd (no_element b e h)

    fit : (b e : ℕ) → e < length (row_bits (rows sample_arguments) b) → slice_index (row_bits (rows sample_arguments) b) e < 2 ^ width (row_elem (rows sample_arguments) b)
    fit zero e h = byte_at e h
    fit (suc b) e h = absurd (no_element b e h)

-- it opens no array and calls nothing
opens_none : uses_stack routine ≡ true → ⊥
opens_none e = cc

-- so it is said of this kernel
pub brighten_agrees : SameOutcomes (in_call brighten all_kept sample_arguments sample_addresses 0 routine sample_state) sample_arguments (λ n. called (code_in (module_of brighten)) n 0 (passed sample_arguments sample_addresses) sample_state)
brighten_agrees = kernels_agree brighten all_kept accepted (codes "brighten") sample_arguments 0 routine entry covers (kept_harmless brighten (first_conf brighten 0 routine sample_arguments)) sample_addresses sample_state laid (λ e. absurd (opens_none e))

-- the first bytes of the memory where a function has returned
abbrev pub memory_of : Result → List ℕ
memory_of (Returned v s) = bytes 9 0 s.memory
memory_of r = []

brightened : memory_of (called (code_in (module_of brighten)) 40 0 (passed sample_arguments sample_addresses) sample_state) ≡ 50 ∷ 60 ∷ 150 ∷ 250 ∷ 255 ∷ 255 ∷ 255 ∷ 255 ∷ 178 ∷ []
unfolding packed digit wrap_to
brightened = refl

-- where there are to be twelve pixels, the second row ends after the array: in its lane 1, at bytes 531 to 540 of the source
abbrev pub report_in : Result → Option Report
report_in (Trapped r s) = r
report_in r = None

traps_there : report_in (called (code_in (module_of brighten)) 80 0 (0 ∷ 9 ∷ 12 ∷ 50 ∷ []) sample_state) ≡ Some (record { kind = 1; start = 531; end = 540; instance = 1 })
unfolding packed digit wrap_to
traps_there = refl
