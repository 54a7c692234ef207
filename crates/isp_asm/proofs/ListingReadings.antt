-- The code that lines say, read back from the last line to the first: so no two codes have the same lines.
use Rattle.std.specs.Prelude.{◌≡◌, ℕ, false, List, [], ◌∷◌, ◌++◌, map}
use Rattle.std.specs.List.{flat_map}
use Rattle.std.proofs.Common.{refl, ap, ◌∙◌}
use Rattle.std.proofs.lemmas.List.{append-nil}
use Rattle.isp_base.specs.declared.types.Elem.{Elem}
use Rattle.isp_base.specs.declared.types.Gang.{Gang}
use Rattle.isp_base.specs.declared.types.Gang.TheVariants.{W4}
use Rattle.isp_base.specs.declared.types.Span.{Span}
use Rattle.isp_code.specs.Listing.{Listing, Routine}
use Rattle.isp_code.specs.declared.function.Local.{Local}
use Rattle.isp_code.specs.declared.function.Param.{Param}
use Rattle.isp_code.specs.declared.function.Returns.TheVariants as returns
use Rattle.isp_code.specs.declared.instr.Instr.{Instr}
use Rattle.isp_asm.specs.Spelling as says
use Rattle.isp_asm.specs.Spelling.{Line, lines_of, routine_lines, head_lines, if_any, place_line, text_line, param_line, local_line, instr_line, scalars_line, vectors_line}

-- what the lines from one on say: code, and what is said of the function in which they begin
pub record Draft : Type 0 where
  pub gang : Gang
  pub places : List Span
  pub texts : List (List ℕ)
  pub routines : List Routine
  pub begun : Routine

abbrev nothing : Routine
nothing =
    record { name = []; exported = false; returns = returns.Nothing; params = []; locals = []; scalars = []; vectors = []; masks = 0; code = [] }

abbrev step : Line → Draft → Draft
step (says.Isp g) d = record d { gang = g }
step (says.Place s) d = record d { places = s ∷ d.places }
step (says.Text t) d = record d { texts = t ∷ d.texts }
step (says.Func name exported r) d =
    record d { routines = record d.begun { name = name; exported = exported; returns = r } ∷ d.routines; begun = nothing }
step (says.Par p) d = record d { begun = record d.begun { params = p ∷ d.begun.params } }
step (says.Loc l) d = record d { begun = record d.begun { locals = l ∷ d.begun.locals } }
step (says.Scalars ts) d = record d { begun = record d.begun { scalars = ts } }
step (says.Vectors ts) d = record d { begun = record d.begun { vectors = ts } }
step (says.Masks n) d = record d { begun = record d.begun { masks = n } }
step (says.Do i) d = record d { begun = record d.begun { code = i ∷ d.begun.code } }
step says.End d = record d { begun = nothing }

abbrev on : List Line → Draft → Draft
on [] d = d
on (l ∷ ls) d = step l (on ls d)

abbrev empty : Draft
empty = record { gang = W4; places = []; texts = []; routines = []; begun = nothing }

abbrev drafted : Draft → Listing
drafted d = record { gang = d.gang; places = d.places; texts = d.texts; routines = d.routines }

abbrev pub listing_of : List Line → Listing
listing_of ls = drafted (on ls empty)

on-append : (xs ys : List Line) (d : Draft) → on (xs ++ ys) d ≡ on xs (on ys d)
on-append [] ys d = refl
on-append (x ∷ xs) ys d = ap (λ e. step x e) (on-append xs ys d)

on_places : (ss : List Span) (d : Draft) → on (map place_line ss) d ≡ record d { places = ss ++ d.places }
on_places [] d = refl
on_places (s ∷ ss) d = ap (λ e. step (says.Place s) e) (on_places ss d)

on_texts : (ts : List (List ℕ)) (d : Draft) → on (map text_line ts) d ≡ record d { texts = ts ++ d.texts }
on_texts [] d = refl
on_texts (t ∷ ts) d = ap (λ e. step (says.Text t) e) (on_texts ts d)

on_params : (ps : List Param) (d : Draft) → on (map param_line ps) d ≡ record d { begun = record d.begun { params = ps ++ d.begun.params } }
on_params [] d = refl
on_params (p ∷ ps) d = ap (λ e. step (says.Par p) e) (on_params ps d)

on_locals : (ls : List Local) (d : Draft) → on (map local_line ls) d ≡ record d { begun = record d.begun { locals = ls ++ d.begun.locals } }
on_locals [] d = refl
on_locals (l ∷ ls) d = ap (λ e. step (says.Loc l) e) (on_locals ls d)

on_code : (is : List Instr) (d : Draft) → on (map instr_line is) d ≡ record d { begun = record d.begun { code = is ++ d.begun.code } }
on_code [] d = refl
on_code (i ∷ is) d = ap (λ e. step (says.Do i) e) (on_code is d)

on_scalars : (ts : List Elem) (d : Draft) → d.begun.scalars ≡ [] → on (if_any scalars_line ts) d ≡ record d { begun = record d.begun { scalars = ts } }
on_scalars [] d h = ap (λ (ts : List Elem). record d { begun = record d.begun { scalars = ts } }) h
on_scalars (t ∷ ts) d h = refl

on_vectors : (ts : List Elem) (d : Draft) → d.begun.vectors ≡ [] → on (if_any vectors_line ts) d ≡ record d { begun = record d.begun { vectors = ts } }
on_vectors [] d h = ap (λ (ts : List Elem). record d { begun = record d.begun { vectors = ts } }) h
on_vectors (t ∷ ts) d h = refl

-- a function: its end, its code, its masks, and what stands before them
module _ (h : Routine) (d : Draft) where
  abbrev coded : Draft
  coded = record d { begun = record nothing { code = h.code } }

  abbrev masked : Draft
  masked = record d { begun = record nothing { code = h.code; masks = h.masks } }

  abbrev with_vectors : Draft
  with_vectors = record d { begun = record nothing { code = h.code; masks = h.masks; vectors = h.vectors } }

  abbrev with_scalars : Draft
  with_scalars = record d { begun = record nothing { code = h.code; masks = h.masks; vectors = h.vectors; scalars = h.scalars } }

  abbrev with_locals : Draft
  with_locals = record d { begun = record nothing { code = h.code; masks = h.masks; vectors = h.vectors; scalars = h.scalars; locals = h.locals } }

  abbrev with_params : Draft
  with_params =
      record d { begun = record nothing { code = h.code; masks = h.masks; vectors = h.vectors; scalars = h.scalars; locals = h.locals; params = h.params } }

  code_in : on (map instr_line h.code ++ says.End ∷ []) d ≡ coded
  code_in =
      on-append (map instr_line h.code) (says.End ∷ []) d
      ∙ on_code h.code (record d { begun = nothing })
      ∙ ap (λ (is : List Instr). record d { begun = record nothing { code = is } }) (append-nil h.code)

  types_in : on (if_any scalars_line h.scalars ++ if_any vectors_line h.vectors) masked ≡ with_scalars
  types_in =
      on-append (if_any scalars_line h.scalars) (if_any vectors_line h.vectors) masked
      ∙ ap (λ e. on (if_any scalars_line h.scalars) e) (on_vectors h.vectors masked refl)
      ∙ on_scalars h.scalars with_vectors refl

  locals_in : on (map local_line h.locals ++ (if_any scalars_line h.scalars ++ if_any vectors_line h.vectors)) masked ≡ with_locals
  locals_in =
      on-append (map local_line h.locals) (if_any scalars_line h.scalars ++ if_any vectors_line h.vectors) masked
      ∙ ap (λ e. on (map local_line h.locals) e) types_in
      ∙ on_locals h.locals with_scalars
      ∙ ap (λ (ls : List Local). record d { begun = record nothing { code = h.code; masks = h.masks; vectors = h.vectors; scalars = h.scalars; locals = ls } }) (append-nil h.locals)

  head_in : on (head_lines h) masked ≡ with_params
  head_in =
      on-append (map param_line h.params) (map local_line h.locals ++ (if_any scalars_line h.scalars ++ if_any vectors_line h.vectors)) masked
      ∙ ap (λ e. on (map param_line h.params) e) locals_in
      ∙ on_params h.params with_locals
      ∙ ap (λ (ps : List Param). record d { begun = record nothing { code = h.code; masks = h.masks; vectors = h.vectors; scalars = h.scalars; locals = h.locals; params = ps } }) (append-nil h.params)

  routine_in : on (routine_lines h) d ≡ record d { routines = h ∷ d.routines; begun = nothing }
  routine_in =
      ap (λ e. step (says.Func h.name h.exported h.returns) e)
      (on-append (head_lines h) (says.Masks h.masks ∷ (map instr_line h.code ++ says.End ∷ [])) d
      ∙ ap (λ e. on (head_lines h) (step (says.Masks h.masks) e)) code_in
      ∙ head_in)

on_routines : (hs : List Routine) (d : Draft) → d.begun ≡ nothing → on (flat_map routine_lines hs) d ≡ record d { routines = hs ++ d.routines; begun = nothing }
on_routines [] d e = ap (λ (h : Routine). record d { begun = h }) e
on_routines (h ∷ hs) d e =
    on-append (routine_lines h) (flat_map routine_lines hs) d
    ∙ ap (λ f. on (routine_lines h) f) (on_routines hs d e)
    ∙ routine_in h (record d { routines = hs ++ d.routines; begun = nothing })

-- the lines of code say the code
pub listing_kept : (c : Listing) → listing_of (lines_of c) ≡ c
listing_kept c =
    ap (λ e. drafted (step (says.Isp c.gang) e))
    (on-append (map place_line c.places) (map text_line c.texts ++ flat_map routine_lines c.routines) empty
    ∙ ap (λ e. on (map place_line c.places) e)
    (on-append (map text_line c.texts) (flat_map routine_lines c.routines) empty
    ∙ ap (λ e. on (map text_line c.texts) e) (on_routines c.routines empty refl)
    ∙ on_texts c.texts (record empty { routines = c.routines ++ [] }))
    ∙ on_places c.places (record empty { routines = c.routines ++ []; texts = c.texts ++ [] }))
    ∙ (rw (append-nil c.places, append-nil c.texts, append-nil c.routines) refl)
