-- What is written part by part is the text of the lines.
use Rattle.std.specs.Prelude.{◌≡◌, ℕ, ◌+◌, List, [], ◌∷◌, ◌++◌, map, Some, codes}
use Rattle.std.specs.Fmt.{decimal}
use Rattle.std.specs.List.{flat_map, slice_get}
use Rattle.std.proofs.Common.{refl, sym, ap, ◌∙◌, append_assoc, drop, drop-cons, add-one}
use Rattle.std.proofs.lemmas.List.{append-nil}
use Rattle.std.proofs.lemmas.List.Concat.{flat_map-append}
use Rattle.std.proofs.lemmas.Option.{slice_get_within, get_or_from_slice_get}
use Rattle.isp_base.specs.Types.{gang_width}
use Rattle.isp_base.specs.declared.types.Gang.{Gang}
use Rattle.isp_code.specs.Listing.{Listing, Routine}
use Rattle.isp_asm.specs.Spelling as says
use Rattle.isp_asm.specs.Spelling.{Line, spaced, line_words, line_text, lines_text, routine_lines, head_lines, if_any, version_of, header_words, place_line, text_line, param_line, local_line, instr_line, scalars_line, vectors_line, text_of}

lines-append : (xs ys : List Line) → lines_text (xs ++ ys) ≡ lines_text xs ++ lines_text ys
lines-append xs ys = flat_map-append (λ l. line_text (line_words l)) xs ys

-- a function, by its parts
regroup : (o f p l s v m c e : List ℕ) → ((((((((o ++ f) ++ p) ++ l) ++ s) ++ v) ++ m) ++ c) ++ e) ≡ o ++ (f ++ ((p ++ (l ++ (s ++ v))) ++ (m ++ (c ++ (e ++ [])))))
regroup o f p l s v m c e = simp (append_assoc, append-nil)

module _ (h : Routine) where
  abbrev func_text : List ℕ
  func_text = line_text (line_words (says.Func h.name h.exported h.returns))

  abbrev masks_text : List ℕ
  masks_text = line_text (line_words (says.Masks h.masks))

  abbrev end_text : List ℕ
  end_text = line_text (line_words says.End)

  head_text : lines_text (head_lines h) ≡ lines_text (map param_line h.params) ++ (lines_text (map local_line h.locals) ++ (lines_text (if_any scalars_line h.scalars) ++ lines_text (if_any vectors_line h.vectors)))
  head_text =
      lines-append (map param_line h.params) _
      ∙ ap (λ t. lines_text (map param_line h.params) ++ t)
      (lines-append (map local_line h.locals) _ ∙ ap (λ t. lines_text (map local_line h.locals) ++ t) (lines-append (if_any scalars_line h.scalars) (if_any vectors_line h.vectors)))

  body_text : lines_text (says.Masks h.masks ∷ (map instr_line h.code ++ says.End ∷ [])) ≡ masks_text ++ (lines_text (map instr_line h.code) ++ (end_text ++ []))
  body_text = ap (λ t. masks_text ++ t) (lines-append (map instr_line h.code) (says.End ∷ []))

  routine_text : lines_text (routine_lines h) ≡ func_text
      ++ ((lines_text (map param_line h.params) ++ (lines_text (map local_line h.locals)
      ++ (lines_text (if_any scalars_line h.scalars) ++ lines_text (if_any vectors_line h.vectors))))
      ++ (masks_text ++ (lines_text (map instr_line h.code) ++ (end_text ++ []))))
  routine_text =
      ap (λ t. func_text ++ t)
      (lines-append (head_lines h) (says.Masks h.masks ∷ (map instr_line h.code ++ says.End ∷ []))
      ∙ ap (λ t. t ++ lines_text (says.Masks h.masks ∷ (map instr_line h.code ++ says.End ∷ []))) head_text
      ∙ ap (λ t. (lines_text (map param_line h.params) ++ (lines_text (map local_line h.locals) ++ (lines_text (if_any scalars_line h.scalars) ++ lines_text (if_any vectors_line h.vectors)))) ++ t) body_text)

  pub routine_written : (o a b c d e f g : List ℕ) → a ≡ o ++ func_text → b ≡ a ++ lines_text (map param_line h.params)
      → c ≡ b ++ lines_text (map local_line h.locals) → d ≡ c ++ lines_text (if_any scalars_line h.scalars)
      → e ≡ d ++ lines_text (if_any vectors_line h.vectors) → f ≡ e ++ masks_text → g ≡ f ++ lines_text (map instr_line h.code)
      → g ++ end_text ≡ o ++ lines_text (routine_lines h)
  routine_written o a b c d e f g i j k l m n p =
      rw (p, n, m, l, k, j, i)
      (regroup o func_text (lines_text (map param_line h.params)) (lines_text (map local_line h.locals)) (lines_text (if_any scalars_line h.scalars))
      (lines_text (if_any vectors_line h.vectors)) masks_text (lines_text (map instr_line h.code)) end_text
      ∙ ap (λ t. o ++ t) (sym routine_text))

-- code, by its parts
pub listing_written : (c : Listing) (a b d e : List ℕ) → a ≡ line_text (header_words c.gang) → b ≡ a ++ lines_text (map place_line c.places)
    → d ≡ b ++ lines_text (map text_line c.texts) → e ≡ d ++ lines_text (flat_map routine_lines c.routines) → e ≡ text_of c
listing_written c a b d e j k l m =
    m ∙ (rw (l, k, j)
    (append_assoc (line_text (header_words c.gang) ++ lines_text (map place_line c.places)) (lines_text (map text_line c.texts)) (lines_text (flat_map routine_lines c.routines))
    ∙ append_assoc (line_text (header_words c.gang)) (lines_text (map place_line c.places)) (lines_text (map text_line c.texts) ++ lines_text (flat_map routine_lines c.routines))
    ∙ ap (λ t. line_text (header_words c.gang) ++ t)
    (ap (λ t. lines_text (map place_line c.places) ++ t) (sym (lines-append (map text_line c.texts) (flat_map routine_lines c.routines)))
    ∙ sym (lines-append (map place_line c.places) (map text_line c.texts ++ flat_map routine_lines c.routines)))))

-- a list from a number on begins with what has the number
pub from_number : {A : Type 0} (xs : List A) (n : ℕ) (x : A) → slice_get xs n ≡ Some x → drop n xs ≡ x ∷ drop (n + 1) xs
from_number xs n x e =
    let l = slice_get_within xs n x e in
    let g = get_or_from_slice_get xs n x x e in
    drop-cons xs n x l ∙ (rw (g, add-one) refl)

-- the first line, word by word
words_grouped : (o a b c d e : List ℕ) → ((((o ++ a) ++ b) ++ c) ++ d) ++ e ≡ o ++ (a ++ ((b ++ (c ++ (d ++ []))) ++ e))
words_grouped o a b c d e = simp (append_assoc, append-nil)

pub header_written : (g : Gang) (v n : ℕ) (o a b c d : List ℕ) → v ≡ version_of g → n ≡ gang_width g → a ≡ o ++ codes "isp"
    → b ≡ a ++ spaced (decimal v) → c ≡ b ++ spaced (codes "gang") → d ≡ c ++ spaced (decimal n) → d ++ 10 ∷ [] ≡ o ++ line_text (header_words g)
header_written g v n o a b c d e f i j k l =
    rw (l, k, j, i, e, f) (words_grouped o (codes "isp") (spaced (decimal (version_of g))) (spaced (codes "gang")) (spaced (decimal (gang_width g))) (10 ∷ []))
