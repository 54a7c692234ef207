-- The test of a c-form and its first part, as they are written: both jumps are written once it is known where they lead.
use Rattle.std.proofs.Common.{◌≡◌, ℕ, ◌+◌, List, [], ◌∷◌, ◌++◌, length, ap, ◌∙◌, sym, arith, append_assoc, append-nil, length-append, Vec, Global}
use Rattle.std.specs.Prelude.{slice_set}
use Rattle.isp_base.specs.declared.types.Span.{Span}
use Rattle.isp_code.specs.declared.instr.Instr.{Instr}
use Rattle.isp_code.specs.declared.instr.Instr.TheVariants as instr
use Rattle.isp_lower_code.specs.Instructions.{jump_off, the_others, where_so}
use Rattle.isp_lower_code.specs.Pieces.{guard}
use Rattle.isp_lower.specs.Emitted.{Appends}
use Rattle.isp_lower.specs.declared.types.Body.{Body}
use Rattle.isp_lower.proofs.Lemmas.{appends_then, code_landed}
use Rattle.isp_masks_code.specs.Loops.{copy_mask, jump_all}
use Rattle.isp_masks_code.specs.Spots.{Numbers}
use Rattle.isp_masks.specs.AtWork.{next_of}
use Rattle.isp_masks.specs.Written.{Piece, Writes}
use Rattle.isp_masks.proofs.Writing.{next_same, texts_still}

-- the last of some instructions is a jump past what follows them
landed_last : (a b c d : Body) (at : ℕ) (f : ℕ → List Instr) (x : Instr) (go : ℕ → Instr) (y : Piece)
    → at ≡ length a.code.items + length (f (length a.code.items)) → Appends a b (λ pc p. f pc ++ x ∷ []) [] → Writes b c y
    → d.code.items ≡ slice_set c.code.items at (go (length c.code.items)) → d.places ≡ c.places → d.texts ≡ c.texts
    → Writes a d (record { code = λ pc z. f pc ++ guard go (pc + length (f pc)) (λ pc1. y.code pc1 z); places = y.places; texts = y.texts })
landed_last a b c d at f x go y is front part set kept same =
    let pc = length a.code.items in
    let before = a.code.items ++ f pc in
    let none = front.places ∙ append-nil a.places.items in
    let was = part.code ∙ ap (λ z. b.code.items ++ y.code (length b.code.items) z) (next_same a b front.places front.texts) in
    let one : b.code.items ≡ before ++ x ∷ [] = front.code ∙ sym (append_assoc a.code.items (f pc) (x ∷ [])) in
    let there : at ≡ length before = is ∙ sym (length-append a.code.items (f pc)) in
    record {
      code =
          code_landed before b.code.items c.code.items d.code.items at x go (λ pc1. y.code pc1 (next_of a)) there one was set
          ∙ ap (λ m. before ++ guard go m (λ pc1. y.code pc1 (next_of a))) (length-append a.code.items (f pc))
          ∙ append_assoc a.code.items (f pc) (guard go (pc + length (f pc)) (λ pc1. y.code pc1 (next_of a)));
      places = ap (λ (z : Vec Span Global). z.items) kept ∙ part.places ∙ ap (λ s. s ++ y.places) none;
      texts = texts_still c d same ∙ part.texts ∙ ap (λ s. s ++ y.texts) (texts_still a b front.texts);
    }

pub first_widely_written : (a b c d e : Body) (at n x k : ℕ) (part : ℕ → Numbers → List Instr) (ps : List Span) (ts : List (List ℕ))
    → at ≡ length b.code.items + 3 → Appends a b (λ pc p. where_so n x k ∷ []) []
    → Appends b c (λ pc p. guard (jump_all n) pc (λ pc1. the_others (n + 1) k n ∷ copy_mask k n ∷ instr.Jump 0 ∷ [])) []
    → Writes c d (record { code = part; places = ps; texts = ts })
    → e.code.items ≡ slice_set d.code.items at (jump_off k (length d.code.items)) → e.places ≡ d.places → e.texts ≡ d.texts
    → Writes a e (record { code = λ pc z. where_so n x k ∷ jump_all n (pc + 1 + 1 + 1 + 1 + 1) ∷ the_others (n + 1) k n ∷ copy_mask k n ∷ guard (jump_off k) (pc + 1 + 1 + 1 + 1) (λ pc1. part pc1 z); places = ps; texts = ts })
first_widely_written a b c d e at n x k part ps ts room test apart inside set kept same =
    let pc = length a.code.items in
    let front = λ (to : ℕ). where_so n x k ∷ jump_all n to ∷ the_others (n + 1) k n ∷ copy_mask k n ∷ [] in
    let both = appends_then a b c (λ pc1 p. where_so n x k ∷ []) (λ pc1 p. guard (jump_all n) pc1 (λ pc2. the_others (n + 1) k n ∷ copy_mask k n ∷ instr.Jump 0 ∷ [])) [] [] test apart in
    let long : length b.code.items ≡ pc + 1 = ap length test.code ∙ length-append a.code.items (where_so n x k ∷ []) in
    let whole = landed_last a c d e at (λ pc1. front (pc1 + 1 + 1 + 3)) (instr.Jump 0) (jump_off k) (record { code = part; places = ps; texts = ts }) (omega (arith, room, long)) both inside set kept same in
    let over : pc + 1 + 1 + 3 ≡ pc + 1 + 1 + 1 + 1 + 1 = omega arith in
    let from : pc + 4 ≡ pc + 1 + 1 + 1 + 1 = omega arith in
    record {
      code =
          whole.code
          ∙ ap (λ m. a.code.items ++ (front m ++ guard (jump_off k) (pc + 4) (λ pc1. part pc1 (next_of a)))) over
          ∙ ap (λ m. a.code.items ++ (front (pc + 1 + 1 + 1 + 1 + 1) ++ guard (jump_off k) m (λ pc1. part pc1 (next_of a)))) from;
      places = whole.places;
      texts = whole.texts;
    }
