-- The laws of code text: a text splits into the lines of its code, and the lines say the code.
use Rattle.std.specs.Prelude.{◌≡◌, ℕ, suc, Bool, true, ◌&&◌, List, [], ◌∷◌, ◌++◌, map, None}
use Rattle.std.specs.List.{list_all, flat_map, slice_split}
use Rattle.std.proofs.Common.{refl, sym, ap, ◌∙◌}
use Rattle.std.proofs.lemmas.Bool.{and_parts}
use Rattle.std.proofs.lemmas.List.Folds.{list_all-append, flat_map-map}
use Rattle.isp_code.specs.Listing.{Listing, Routine}
use Rattle.isp_code.specs.Writable.{IsWritable, place_fits, text_fits, name_fits, param_fits, local_fits, number_fits, instr_fits, routine_fits}
use Rattle.isp_base.specs.declared.types.Elem.{Elem}
use Rattle.isp_asm.specs.Faults.{Seen, nothing_seen, is_space, is_feed, line_fault, after_line, words_line_fault, after_words, at, fault_from}
use Rattle.isp_asm.specs.Laws.{OneText, Faultless}
use Rattle.isp_asm.specs.Spelling as says
use Rattle.isp_asm.specs.Spelling.{Line, line_words, line_text, lines_of, routine_lines, head_lines, if_any, place_line, text_line, param_line, local_line, instr_line, scalars_line, vectors_line, text_of}
use Rattle.isp_asm.specs.reader.Reading.{line_fits, line_head}
use Rattle.isp_asm.proofs.Chains.{Follows, listing_follows}
use Rattle.isp_asm.proofs.LineReadings.{front_of, front_push, line_kept, read_line}
use Rattle.isp_asm.proofs.LineRights.{line_right, spelled_plain, spelled_after, spelled_fine}
use Rattle.isp_asm.proofs.ListingReadings.{listing_of, listing_kept}
use Rattle.isp_asm.proofs.Splits.{are_words, line_body, words_split, lines_split}

-- each line of writable code fits
abbrev all_fit : List Line → Type 0
all_fit ls = list_all line_fits ls ≡ true

fit-append : (xs ys : List Line) → all_fit xs → all_fit ys → all_fit (xs ++ ys)
fit-append xs ys h k = rw (list_all-append line_fits xs ys, h) k

fit-map : {A : Type 0} (f : A → Line) (p : A → Bool) → ((x : A) → p x ≡ true → line_fits (f x) ≡ true) → (xs : List A) → list_all p xs ≡ true → all_fit (map f xs)
fit-map f p g [] h = refl
fit-map f p g (x ∷ xs) h = let q = and_parts (p x) (list_all p xs) h in rw (g x q.0, fit-map f p g xs q.1) refl

scalars_fit : (ts : List Elem) → all_fit (if_any scalars_line ts)
scalars_fit [] = refl
scalars_fit (t ∷ ts) = refl

vectors_fit : (ts : List Elem) → all_fit (if_any vectors_line ts)
vectors_fit [] = refl
vectors_fit (t ∷ ts) = refl

routine_fit : (h : Routine) → routine_fits h ≡ true → all_fit (routine_lines h)
routine_fit h f =
    let p = and_parts (name_fits h.name && list_all param_fits h.params && list_all local_fits h.locals && number_fits h.masks) (list_all instr_fits h.code) f in
    let q = and_parts (name_fits h.name && list_all param_fits h.params && list_all local_fits h.locals) (number_fits h.masks) p.0 in
    let r = and_parts (name_fits h.name && list_all param_fits h.params) (list_all local_fits h.locals) q.0 in
    let s = and_parts (name_fits h.name) (list_all param_fits h.params) r.0 in
    let code : all_fit (map instr_line h.code ++ says.End ∷ []) = fit-append (map instr_line h.code) (says.End ∷ []) (fit-map instr_line instr_fits (λ x e. e) h.code p.1) refl in
    let masks : all_fit (says.Masks h.masks ∷ (map instr_line h.code ++ says.End ∷ [])) = rw q.1 code in
    let types = fit-append (if_any scalars_line h.scalars) (if_any vectors_line h.vectors) (scalars_fit h.scalars) (vectors_fit h.vectors) in
    let locals = fit-append (map local_line h.locals) _ (fit-map local_line local_fits (λ x e. e) h.locals r.1) types in
    let params = fit-append (map param_line h.params) _ (fit-map param_line param_fits (λ x e. e) h.params s.1) locals in
    rw s.0 (fit-append (head_lines h) _ params masks)

routines_fit : (hs : List Routine) → list_all routine_fits hs ≡ true → all_fit (flat_map routine_lines hs)
routines_fit [] f = refl
routines_fit (h ∷ hs) f =
    let q = and_parts (routine_fits h) (list_all routine_fits hs) f in
    fit-append (routine_lines h) (flat_map routine_lines hs) (routine_fit h q.0) (routines_fit hs q.1)

lines_fit : (c : Listing) → IsWritable c → all_fit (lines_of c)
lines_fit c h =
    fit-append (map place_line c.places) (map text_line c.texts ++ flat_map routine_lines c.routines)
    (fit-map place_line place_fits (λ x e. e) c.places h.places)
    (fit-append (map text_line c.texts) (flat_map routine_lines c.routines) (fit-map text_line text_fits (λ x e. e) c.texts h.texts) (routines_fit c.routines h.routines))

-- the words of lines that fit are plain
words_plain : (ls : List Line) → all_fit ls → list_all are_words (map line_words ls) ≡ true
words_plain [] h = refl
words_plain (l ∷ ls) h =
    let q = and_parts (line_fits l) (list_all line_fits ls) h in
    rw (spelled_plain (line_head l) (line_words l) (line_right l q.0), words_plain ls q.1) refl

abbrev bodies : List Line → List (List ℕ)
bodies ls = map line_body (map line_words ls)

-- the text of code splits into its lines
text_split : (c : Listing) → IsWritable c → slice_split is_feed (text_of c) ≡ bodies (lines_of c) ++ [] ∷ []
text_split c h =
    ap (λ t. slice_split is_feed t) (sym (flat_map-map line_text line_words (lines_of c)))
    ∙ lines_split (map line_words (lines_of c)) (words_plain (lines_of c) (lines_fit c h))

-- the text of code, read back
abbrev body_back : List ℕ → Line
body_back b = read_line (slice_split is_space b)

abbrev code_of : List ℕ → Listing
code_of text = listing_of (map body_back (front_of (slice_split is_feed text)))

lines_kept : (ls : List Line) → all_fit ls → map body_back (bodies ls) ≡ ls
lines_kept [] h = refl
lines_kept (l ∷ ls) h =
    let q = and_parts (line_fits l) (list_all line_fits ls) h in
    rw (words_split (line_words l) (spelled_plain (line_head l) (line_words l) (line_right l q.0)), line_kept l q.0, lines_kept ls q.1) refl

code_kept : (c : Listing) → IsWritable c → code_of (text_of c) ≡ c
code_kept c h =
    ap (λ ps. listing_of (map body_back (front_of ps))) (text_split c h)
    ∙ ap (λ ps. listing_of (map body_back ps)) (front_push (bodies (lines_of c)) [])
    ∙ ap (λ ls. listing_of ls) (lines_kept (lines_of c) (lines_fit c h))
    ∙ listing_kept c

pub one_text : OneText
one_text c d h k e = sym (code_kept c h) ∙ (ap (λ t. code_of t) e ∙ code_kept d k)

-- lines that fit and follow have no fault
fault_step : (s : Seen) (n : ℕ) (body : List ℕ) (more : List (List ℕ)) (rest : List ℕ) → fault_from s n (body ∷ (more ++ rest ∷ [])) ≡ at n (line_fault s body) (fault_from (after_line s body) (suc n) (more ++ rest ∷ []))
fault_step s n body [] rest = refl
fault_step s n body (m ∷ ms) rest = refl

no_fault : (ls : List Line) (s : Seen) (n : ℕ) → all_fit ls → Follows s ls → fault_from s n (bodies ls ++ [] ∷ []) ≡ None
no_fault [] s n h f = rw f refl
no_fault (l ∷ ls) s n h f =
    let q = and_parts (line_fits l) (list_all line_fits ls) h in
    let r = line_right l q.0 in
    let w = words_split (line_words l) (spelled_plain (line_head l) (line_words l) r) in
    fault_step s n (line_body (line_words l)) (bodies ls) []
    ∙ ap (λ ws. at n (words_line_fault s ws) (fault_from (after_words s ws) (suc n) (bodies ls ++ [] ∷ []))) w
    ∙ ap (λ e. at n e (fault_from (after_words s (line_words l)) (suc n) (bodies ls ++ [] ∷ []))) (spelled_fine s (line_head l) (line_words l) r f.0 f.1)
    ∙ ap (λ t. fault_from t (suc n) (bodies ls ++ [] ∷ [])) (spelled_after s (line_head l) (line_words l) r)
    ∙ no_fault ls _ (suc n) q.1 f.2

pub faultless : Faultless
faultless c h =
    ap (λ ps. fault_from nothing_seen 1 ps) (text_split c h)
    ∙ no_fault (lines_of c) nothing_seen 1 (lines_fit c h) (listing_follows c h.place_count h.text_count)
