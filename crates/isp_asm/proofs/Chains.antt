-- The lines of code stand in an order that is allowed.
use Rattle.std.specs.Prelude.{◌≡◌, ℕ, suc, ◌+◌, ◌≤◌, ◌^◌, true, length, List, [], ◌∷◌, ◌++◌, map}
use Rattle.std.specs.List.{flat_map}
use Rattle.std.proofs.Common.{refl, sym, ap, ◌∙◌, subst, arith, append_assoc}
use Rattle.std.proofs.lemmas.Bool.Decides.{nat_tests}
use Rattle.isp_base.specs.declared.types.Elem.{Elem}
use Rattle.isp_base.specs.declared.types.Span.{Span}
use Rattle.isp_code.specs.Listing.{Listing, Routine}
use Rattle.isp_code.specs.Writable.{number_fits}
use Rattle.isp_code.specs.declared.instr.Instr.{Instr}
use Rattle.isp_asm.specs.declared.order.Kind.{Kind}
use Rattle.isp_asm.specs.declared.order.Kind.TheVariants as kind
use Rattle.isp_asm.specs.Faults.{Seen, nothing_seen, has_room, after_kind}
use Rattle.isp_asm.specs.Order.{kind_of, may_follow, may_end}
use Rattle.isp_asm.specs.Rows.{Row, line, call, row}
use Rattle.isp_asm.specs.Spelling as says
use Rattle.isp_asm.specs.Spelling.{Line, lines_of, routine_lines, head_lines, if_any, place_line, text_line, param_line, local_line, instr_line, scalars_line, vectors_line}
use Rattle.isp_asm.specs.reader.Reading.{line_kind, row_head}

-- each line may follow the one before it, and the text may end after the last
abbrev pub Follows : Seen → List Line → Type 0
Follows s [] = may_end s.last ≡ true
Follows s (l ∷ ls) = (may_follow s.last (line_kind l) ≡ true) × (has_room s (line_kind l) ≡ true) × Follows (after_kind s (line_kind l)) ls

-- any number of lines of a kind that may repeat
module _ {A : Type 0} (k : Kind) (f : A → Line) (P : Kind → Type 0) (free : (s : Seen) → has_room s k ≡ true) (is : (x : A) → line_kind (f x) ≡ k) (again : P k) (may : (j : Kind) → P j → may_follow j k ≡ true) where
  many : (rest : List Line) (next : (s : Seen) → P s.last → Follows s rest) (xs : List A) (s : Seen) → P s.last → Follows s (map f xs ++ rest)
  many rest next [] s h = next s h
  many rest next (x ∷ xs) s h =
      subst (λ (j : Kind). (may_follow s.last j ≡ true) × (has_room s j ≡ true) × Follows (after_kind s j) (map f xs ++ rest)) (sym (is x)) (may s.last h, free s, many rest next xs (after_kind s k) again)

row_kind : (r : Row) → kind_of (row_head r) ≡ kind.Instr
row_kind (line o rs t) = refl
row_kind (call c) = refl

pub instr_kind : (i : Instr) → line_kind (instr_line i) ≡ kind.Instr
instr_kind i = row_kind (row i)

-- what may stand after a line, at each place of a function
abbrev InCode : Kind → Type 0
InCode j = (may_follow j kind.Instr ≡ true) × (may_follow j kind.End ≡ true)

abbrev BeforeVectors : Kind → Type 0
BeforeVectors j = (may_follow j kind.Vectors ≡ true) × (may_follow j kind.Masks ≡ true)

abbrev BeforeScalars : Kind → Type 0
BeforeScalars j = (may_follow j kind.Scalars ≡ true) × BeforeVectors j

abbrev BeforeLocals : Kind → Type 0
BeforeLocals j = (may_follow j kind.Loc ≡ true) × BeforeScalars j

abbrev BeforeParams : Kind → Type 0
BeforeParams j = (may_follow j kind.Par ≡ true) × BeforeLocals j

abbrev BeforeFunctions : Kind → Type 0
BeforeFunctions j = (may_follow j kind.Func ≡ true) × (may_end j ≡ true)

abbrev BeforeTexts : Kind → Type 0
BeforeTexts j = (may_follow j kind.Text ≡ true) × BeforeFunctions j

abbrev BeforePlaces : Kind → Type 0
BeforePlaces j = (may_follow j kind.Place ≡ true) × BeforeTexts j

-- a function and what stands after it
module _ (h : Routine) (rest : List Line) where
  abbrev code_on : List Line
  code_on = map instr_line h.code ++ (says.End ∷ rest)

  abbrev masks_on : List Line
  masks_on = says.Masks h.masks ∷ code_on

  abbrev vectors_on : List Line
  vectors_on = if_any vectors_line h.vectors ++ masks_on

  abbrev scalars_on : List Line
  scalars_on = if_any scalars_line h.scalars ++ vectors_on

  abbrev locals_on : List Line
  locals_on = map local_line h.locals ++ scalars_on

  abbrev params_on : List Line
  params_on = map param_line h.params ++ locals_on

  routine_on : routine_lines h ++ rest ≡ says.Func h.name h.exported h.returns ∷ params_on
  routine_on =
      ap (λ ls. says.Func h.name h.exported h.returns ∷ ls)
      (append_assoc (head_lines h) (says.Masks h.masks ∷ (map instr_line h.code ++ says.End ∷ [])) rest
      ∙ ap (λ ls. head_lines h ++ (says.Masks h.masks ∷ ls)) (append_assoc (map instr_line h.code) (says.End ∷ []) rest)
      ∙ append_assoc (map param_line h.params) (map local_line h.locals ++ (if_any scalars_line h.scalars ++ if_any vectors_line h.vectors)) masks_on
      ∙ ap (λ ls. map param_line h.params ++ ls)
      (append_assoc (map local_line h.locals) (if_any scalars_line h.scalars ++ if_any vectors_line h.vectors) masks_on
      ∙ ap (λ ls. map local_line h.locals ++ ls) (append_assoc (if_any scalars_line h.scalars) (if_any vectors_line h.vectors) masks_on)))

  module _ (next : (s : Seen) → BeforeFunctions s.last → Follows s rest) where
    code_follows : (s : Seen) → InCode s.last → Follows s code_on
    code_follows s j =
        many kind.Instr instr_line InCode (λ s. refl) instr_kind (refl, refl) (λ j p. p.0) (says.End ∷ rest) (λ s p. (p.1, refl, next (after_kind s kind.End) (refl, refl))) h.code s j

    masks_follow : (s : Seen) → may_follow s.last kind.Masks ≡ true → Follows s masks_on
    masks_follow s j = (j, refl, code_follows (after_kind s kind.Masks) (refl, refl))

    vectors_by : (ts : List Elem) (s : Seen) → BeforeVectors s.last → Follows s (if_any vectors_line ts ++ masks_on)
    vectors_by [] s j = masks_follow s j.1
    vectors_by (t ∷ ts) s j = (j.0, refl, masks_follow (after_kind s kind.Vectors) refl)

    scalars_by : (ts : List Elem) (s : Seen) → BeforeScalars s.last → Follows s (if_any scalars_line ts ++ vectors_on)
    scalars_by [] s j = vectors_by h.vectors s j.1
    scalars_by (t ∷ ts) s j = (j.0, refl, vectors_by h.vectors (after_kind s kind.Scalars) (refl, refl))

    locals_follow : (s : Seen) → BeforeLocals s.last → Follows s locals_on
    locals_follow s j =
        many kind.Loc local_line BeforeLocals (λ s. refl) (λ x. refl) (refl, (refl, (refl, refl))) (λ j p. p.0) scalars_on (λ s p. scalars_by h.scalars s p.1) h.locals s j

    params_follow : (s : Seen) → BeforeParams s.last → Follows s params_on
    params_follow s j =
        many kind.Par param_line BeforeParams (λ s. refl) (λ x. refl) (refl, (refl, (refl, (refl, refl)))) (λ j p. p.0) locals_on (λ s p. locals_follow s p.1) h.params s j

    routine_follows : (s : Seen) → BeforeFunctions s.last → Follows s (routine_lines h ++ rest)
    routine_follows s j =
        subst (λ (ls : List Line). Follows s ls) (sym routine_on) (j.0, refl, params_follow (after_kind s kind.Func) (refl, (refl, (refl, (refl, refl)))))

routines_follow : (hs : List Routine) (s : Seen) → BeforeFunctions s.last → Follows s (flat_map routine_lines hs)
routines_follow [] s j = j.1
routines_follow (h ∷ hs) s j = routine_follows h (flat_map routine_lines hs) (routines_follow hs) s j

-- places and texts are counted
room : (n m : ℕ) → n + suc m ≤ 2 ^ 32 → number_fits n ≡ true
room n m l = grind (arith, nat_tests)

texts_follow : (hs : List Routine) (ts : List (List ℕ)) (s : Seen) → BeforeTexts s.last → s.texts + length ts ≤ 2 ^ 32 → Follows s (map text_line ts ++ flat_map routine_lines hs)
texts_follow hs [] s j l = routines_follow hs s j.1
texts_follow hs (t ∷ ts) s j l =
    (j.0, room s.texts (length ts) l, texts_follow hs ts (after_kind s kind.Text) (refl, (refl, refl)) (omega (arith, l)))

places_follow : (hs : List Routine) (ts : List (List ℕ)) (ps : List Span) (s : Seen) → BeforePlaces s.last → s.places + length ps ≤ 2 ^ 32
    → s.texts + length ts ≤ 2 ^ 32 → Follows s (map place_line ps ++ (map text_line ts ++ flat_map routine_lines hs))
places_follow hs ts [] s j l k = texts_follow hs ts s j.1 k
places_follow hs ts (p ∷ ps) s j l k =
    (j.0, room s.places (length ps) l, places_follow hs ts ps (after_kind s kind.Place) (refl, (refl, (refl, refl))) (omega (arith, l)) k)

pub listing_follows : (c : Listing) → length c.places ≤ 2 ^ 32 → length c.texts ≤ 2 ^ 32 → Follows nothing_seen (lines_of c)
listing_follows c l k =
    (refl, refl, places_follow c.routines c.texts c.places (after_kind nothing_seen kind.Isp) (refl, (refl, (refl, refl))) (omega (arith, l)) (omega (arith, k)))
