-- The verifier accepts the code of bodies whose registers are there.
use Rattle.std.proofs.Common.{◌≡◌, ◌+◌, ℕ, zero, suc, ◌-◌, List, [], ◌∷◌, ◌++◌, length, take, Some, None, true, refl, ap, ◌∙◌, subst, arith, length-append}
use Rattle.std.proofs.lemmas.Option.{same_Some}
use Rattle.std.specs.Prelude.{slice_get}
use Rattle.isp_code.specs.Listing.{Listing, Routine}
use Rattle.isp_code.specs.declared.instr.Instr.{Instr}
use Rattle.isp_code.specs.declared.instr.Instr.TheVariants as instr
use Rattle.isp_verify.specs.Faults.{stays, last, header_fits, code_fault}
use Rattle.isp_verify.proofs.AcceptedLaws.{fine_accepted}
use Rattle.isp_lower_code.specs.Sound.{IsSound, AreSound}
use Rattle.isp_masks_code.specs.Accepted.{IsBodyCode}
use Rattle.isp_masks_code.specs.Keeping.{constants_code}
use Rattle.isp_masks_code.specs.Spots.{first_spot}
use Rattle.isp_masks_code.specs.Statements.{block_code, returned}
use Rattle.isp_masks_code.proofs.Rated.{block_tree}
use Rattle.isp_masks_code.proofs.Sound.{function_sound}

sound_at : (code : Listing) (h : Routine) (is : List Instr) → AreSound code h is → (j : ℕ) (i : Instr) → slice_get is j ≡ Some i → IsSound code h i
sound_at code h [] all j i at = absurd (cc)
sound_at code h (x ∷ is) all zero i at = subst (IsSound code h) (same_Some x i at) all.0
sound_at code h (x ∷ is) all (suc j) i at = sound_at code h is all.1 j i at

-- what stands after a list
last_of : (a : List Instr) (x : Instr) → slice_get (a ++ x ∷ []) (length a) ≡ Some x
last_of [] x = refl
last_of (i ∷ a) x = last_of a x

pub body_sound : (code : Listing) (h : Routine) → IsBodyCode code h → AreSound code h h.code
body_sound code h is = function_sound is.functions code h is.layout is.links is.answer is.constants is.body is.numbers is.code_is
    (block_tree is.functions is.variables is.answer is.body is.fine is.rated) is.present is.kept is.spares is.masks is.places is.texts is.given

body_ends : (code : Listing) (h : Routine) → IsBodyCode code h → stays (slice_get h.code (last h)) ≡ true
body_ends code h is =
    let ca = constants_code is.layout 3 is.constants in
    let body = ca ++ block_code is.layout is.answer is.body (0 + length ca) is.numbers first_spot in
    let back = instr.Return (returned is.layout is.answer) in
    let size : length h.code - 1 ≡ length body = omega (arith, ap length is.code_is ∙ length-append body (back ∷ [])) in
    ap (λ n. stays (slice_get h.code n)) size ∙ ap (λ c. stays (slice_get c (length body))) is.code_is ∙ ap stays (last_of body back)

pub code_accepted : (code : Listing) → ((f : ℕ) (h : Routine) → slice_get code.routines f ≡ Some h → header_fits (take f code.routines) h ≡ true)
    → ((f : ℕ) (h : Routine) → slice_get code.routines f ≡ Some h → IsBodyCode code h) → code_fault code ≡ None
code_accepted code headers each =
    fine_accepted code (record { headers = headers; lines = λ f h found. sound_at code h h.code (body_sound code h (each f h found)); ends = λ f h found. body_ends code h (each f h found) })
