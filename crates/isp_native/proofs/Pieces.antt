-- Pieces that are written one after the other.
use Rattle.std.specs.Prelude.{◌≡◌, ℕ, ◌+◌, List, [], ◌∷◌, ◌++◌, Some, codes}
use Rattle.std.specs.Fmt.{decimal}
use Rattle.std.specs.List.{flat_map, slice_get}
use Rattle.std.proofs.Common.{refl, ◌∙◌, append_assoc, drop, drop-cons, add-one}
use Rattle.std.proofs.lemmas.Option.{slice_get_within, get_or_from_slice_get}
use Rattle.isp_base.specs.Types.{gang_width}
use Rattle.isp_code.specs.Listing.{Listing, Routine}
use Rattle.isp_native.specs.Forms.{Forms}
use Rattle.isp_native.specs.Text.{numbered, head_text, place_line, text_line, declared, defined, entry, entry_param, entry_result, entry_text, given, prototype, result_word, c_text}

three : (o a b c : List ℕ) → (o ++ (a ++ b)) ++ c ≡ o ++ (a ++ (b ++ c))
three o a b c = simp (append_assoc)

pub head_written : (n : ℕ) (o p : List ℕ) → p ≡ o ++ (codes "#define ISP_GANG " ++ decimal n) → p ++ codes "\n#include \"isp_machine.h\"\n" ≡ o ++ head_text n
unfolding head_text
head_written n o p e = rw (e) (three o (codes "#define ISP_GANG ") (decimal n) (codes "\n#include \"isp_machine.h\"\n"))

five : (o a b c d e : List ℕ) → ((((o ++ a) ++ b) ++ c) ++ d) ++ e ≡ o ++ ((a ++ b) ++ (c ++ (d ++ e)))
five o a b c d e = simp (append_assoc)

pub prototype_written : (h : Routine) (o p q r s : List ℕ) → p ≡ o ++ codes "enum isp_end kernel_" → q ≡ p ++ h.name → r ≡ q ++ codes "(struct isp_run *run" → s ≡ r ++ flat_map entry_param h.params → s ++ entry_result h.returns ≡ o ++ prototype h
unfolding prototype
prototype_written h o p q r s e f g i =
    rw (i, g, f, e) (five o (codes "enum isp_end kernel_") h.name (codes "(struct isp_run *run") (flat_map entry_param h.params) (entry_result h.returns))

pub entry_written : (f : ℕ) (h : Routine) (o p q r s : List ℕ) → p ≡ o ++ prototype h → q ≡ p ++ (codes "\n{\n    return f" ++ decimal f) → r ≡ q ++ result_word h.returns → s ≡ r ++ flat_map given h.params → s ++ codes ");\n}\n" ≡ o ++ entry_text f h
unfolding entry_text
entry_written f h o p q r s e g i j =
    rw (j, i, g, e) (five o (prototype h) (codes "\n{\n    return f" ++ decimal f) (result_word h.returns) (flat_map given h.params) (codes ");\n}\n"))

-- a piece and two characters
pub and_two : (o p q a : List ℕ) (x y : ℕ) → p ≡ o ++ a → q ≡ p ++ x ∷ [] → q ++ y ∷ [] ≡ o ++ (a ++ x ∷ y ∷ [])
and_two o p q a x y e f = rw (f, e) (append_assoc (o ++ a) (x ∷ []) (y ∷ []) ∙ append_assoc o a (x ∷ y ∷ []))

six : (a b c d e f : List ℕ) → ((((a ++ b) ++ c) ++ d) ++ e) ++ f ≡ a ++ (b ++ (c ++ (d ++ (e ++ f))))
six a b c d e f = simp (append_assoc)

-- the C file, by its parts
pub listing_written : (c : Listing) (forms : Forms) (n : ℕ) (p q r s t u : List ℕ) → n ≡ gang_width c.gang → p ≡ head_text n → q ≡ p ++ numbered place_line 0 c.places
    → r ≡ q ++ numbered text_line 0 c.texts → s ≡ r ++ numbered declared 0 c.routines → t ≡ s ++ numbered (defined forms) 0 c.routines
    → u ≡ t ++ numbered entry 0 c.routines → u ≡ c_text c forms
listing_written c forms n p q r s t u h i j k l m o =
    o ∙ (rw (m, l, k, j, i, h) (six (head_text (gang_width c.gang)) (numbered place_line 0 c.places) (numbered text_line 0 c.texts) (numbered declared 0 c.routines) (numbered (defined forms) 0 c.routines) (numbered entry 0 c.routines)))

-- a list from a number on begins with what has the number
pub from_number : {A : Type 0} (xs : List A) (n : ℕ) (x : A) → slice_get xs n ≡ Some x → drop n xs ≡ x ∷ drop (n + 1) xs
from_number xs n x e =
    let l = slice_get_within xs n x e in
    let g = get_or_from_slice_get xs n x x e in
    drop-cons xs n x l ∙ (rw (g, add-one) refl)
