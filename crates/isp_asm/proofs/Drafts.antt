-- What a further line adds to what lines said: itself, after them.
use Rattle.std.specs.Prelude.{◌≡◌, ℕ, suc, Bool, true, false, ◌&&◌, List, [], ◌∷◌, ◌++◌, length, map}
use Rattle.std.specs.List.{list_all}
use Rattle.std.proofs.Common.{refl, ap, ◌∙◌, subst, arith, append_assoc}
use Rattle.std.proofs.lemmas.Bool.{false≢true, and_parts}
use Rattle.std.proofs.lemmas.List.{append-nil, length-append, map-append}
use Rattle.std.proofs.lemmas.List.Concat.{flat_map-append}
use Rattle.std.proofs.lemmas.List.Folds.{list_all-append}
use Rattle.isp_base.specs.declared.types.Elem.{Elem}
use Rattle.isp_base.specs.declared.types.Span.{Span}
use Rattle.isp_code.specs.Listing.{Listing, Routine}
use Rattle.isp_code.specs.Writable.{name_fits, param_fits, local_fits, number_fits, instr_fits, routine_fits}
use Rattle.isp_code.specs.declared.function.Local.{Local}
use Rattle.isp_code.specs.declared.function.Param.{Param}
use Rattle.isp_code.specs.declared.instr.Instr.{Instr}
use Rattle.isp_asm.specs.declared.order.Kind.{Kind}
use Rattle.isp_asm.specs.declared.order.Kind.TheVariants as kind
use Rattle.isp_asm.specs.Faults.{after_kind}
use Rattle.isp_asm.specs.Order.{may_follow}
use Rattle.isp_asm.specs.Spelling as says
use Rattle.isp_asm.specs.Spelling.{Line, lines_of, head_lines, if_any, place_line, text_line, param_line, local_line, instr_line, scalars_line}
use Rattle.isp_asm.specs.reader.Drafting.{Drafted, blank, taken, front_lines, body_lines, drafted_lines, seen_of, NoVectors, NoScalars, NoLocals, NoParams, Ordered, IsDraft}
use Rattle.isp_asm.specs.reader.Reading.{line_fits, line_kind}
use Rattle.isp_asm.proofs.Chains.{instr_kind}

-- ---- what may stand before a line of a kind

pub each : (Q : Kind → Type 0) → Q kind.Start → Q kind.Isp → Q kind.Place → Q kind.Text → Q kind.Func → Q kind.Par → Q kind.Loc → Q kind.Scalars → Q kind.Vectors → Q kind.Masks → Q kind.Instr → Q kind.End → (k : Kind) → Q k
each Q a b c d e f g h i j k l kind.Start = a
each Q a b c d e f g h i j k l kind.Isp = b
each Q a b c d e f g h i j k l kind.Place = c
each Q a b c d e f g h i j k l kind.Text = d
each Q a b c d e f g h i j k l kind.Func = e
each Q a b c d e f g h i j k l kind.Par = f
each Q a b c d e f g h i j k l kind.Loc = g
each Q a b c d e f g h i j k l kind.Scalars = h
each Q a b c d e f g h i j k l kind.Vectors = i
each Q a b c d e f g h i j k l kind.Masks = j
each Q a b c d e f g h i j k l kind.Instr = k
each Q a b c d e f g h i j k l kind.End = l

pub no : {A : Type 0} → false ≡ true → A
no e = absurd (false≢true e)

module _ (P : Kind → Type 0) where
  abbrev Before : Kind → Kind → Type 0
  Before n k = may_follow k n ≡ true → P k

  before_isp : P kind.Start → (k : Kind) → Before kind.Isp k
  before_isp a = each (Before kind.Isp) (λ m. a) no no no no no no no no no no no

  before_place : P kind.Isp → P kind.Place → (k : Kind) → Before kind.Place k
  before_place a b = each (Before kind.Place) no (λ m. a) (λ m. b) no no no no no no no no no

  before_text : P kind.Isp → P kind.Place → P kind.Text → (k : Kind) → Before kind.Text k
  before_text a b c = each (Before kind.Text) no (λ m. a) (λ m. b) (λ m. c) no no no no no no no no

  before_func : P kind.Isp → P kind.Place → P kind.Text → P kind.End → (k : Kind) → Before kind.Func k
  before_func a b c d = each (Before kind.Func) no (λ m. a) (λ m. b) (λ m. c) no no no no no no no (λ m. d)

  before_par : P kind.Func → P kind.Par → (k : Kind) → Before kind.Par k
  before_par a b = each (Before kind.Par) no no no no (λ m. a) (λ m. b) no no no no no no

  before_loc : P kind.Func → P kind.Par → P kind.Loc → (k : Kind) → Before kind.Loc k
  before_loc a b c = each (Before kind.Loc) no no no no (λ m. a) (λ m. b) (λ m. c) no no no no no

  before_scalars : P kind.Func → P kind.Par → P kind.Loc → (k : Kind) → Before kind.Scalars k
  before_scalars a b c = each (Before kind.Scalars) no no no no (λ m. a) (λ m. b) (λ m. c) no no no no no

  before_vectors : P kind.Func → P kind.Par → P kind.Loc → P kind.Scalars → (k : Kind) → Before kind.Vectors k
  before_vectors a b c d = each (Before kind.Vectors) no no no no (λ m. a) (λ m. b) (λ m. c) (λ m. d) no no no no

  before_masks : P kind.Func → P kind.Par → P kind.Loc → P kind.Scalars → P kind.Vectors → (k : Kind) → Before kind.Masks k
  before_masks a b c d e = each (Before kind.Masks) no no no no (λ m. a) (λ m. b) (λ m. c) (λ m. d) (λ m. e) no no no

  before_instr : P kind.Masks → P kind.Instr → (k : Kind) → Before kind.Instr k
  before_instr a b = each (Before kind.Instr) no no no no no no no no no (λ m. a) (λ m. b) no

  before_end : P kind.Masks → P kind.Instr → (k : Kind) → Before kind.End k
  before_end a b = each (Before kind.End) no no no no no no no no no (λ m. a) (λ m. b) no

-- ---- whether a function can be written, part by part

pub record Fit (h : Routine) : Type 0 where
  pub name : name_fits h.name ≡ true
  pub params : list_all param_fits h.params ≡ true
  pub locals : list_all local_fits h.locals ≡ true
  pub masks : number_fits h.masks ≡ true
  pub code : list_all instr_fits h.code ≡ true

fit_of : (h : Routine) → routine_fits h ≡ true → Fit h
fit_of h f =
    let p = and_parts (name_fits h.name && list_all param_fits h.params && list_all local_fits h.locals && number_fits h.masks) (list_all instr_fits h.code) f in
    let q = and_parts (name_fits h.name && list_all param_fits h.params && list_all local_fits h.locals) (number_fits h.masks) p.0 in
    let r = and_parts (name_fits h.name && list_all param_fits h.params) (list_all local_fits h.locals) q.0 in
    let s = and_parts (name_fits h.name) (list_all param_fits h.params) r.0 in
    record { name = s.0; params = s.1; locals = r.1; masks = q.1; code = p.1 }

fit_all : (h : Routine) → Fit h → routine_fits h ≡ true
fit_all h f = rw (f.name, f.params, f.locals, f.masks, f.code) refl

push_fits : {A : Type 0} (p : A → Bool) (xs : List A) (x : A) → list_all p xs ≡ true → p x ≡ true → list_all p (xs ++ x ∷ []) ≡ true
push_fits p xs x h k = rw (list_all-append p xs (x ∷ []), h, k) refl

-- ---- each kind of line after the lines so far

module _ (c : Listing) where
  place_behind : (s : Span) → c.texts ≡ [] → c.routines ≡ [] → lines_of (record c { places = c.places ++ s ∷ [] }) ≡ lines_of c ++ says.Place s ∷ []
  place_behind s t r = rw (t, r, append-nil (map place_line c.places), append-nil (map place_line (c.places ++ s ∷ [])), map-append place_line c.places (s ∷ [])) refl

  text_behind : (t : List ℕ) → c.routines ≡ [] → lines_of (record c { texts = c.texts ++ t ∷ [] }) ≡ lines_of c ++ says.Text t ∷ []
  text_behind t r =
      rw (r, append-nil (map text_line c.texts), append-nil (map text_line (c.texts ++ t ∷ [])), map-append text_line c.texts (t ∷ []), append_assoc (map place_line c.places) (map text_line c.texts) (says.Text t ∷ [])) refl

  module _ (h : Routine) where
    par_behind : (p : Param) → NoLocals h → lines_of c ++ front_lines (record h { params = h.params ++ p ∷ [] }) ≡ (lines_of c ++ front_lines h) ++ says.Par p ∷ []
    par_behind p n =
        rw (append_assoc (lines_of c) (front_lines h) (says.Par p ∷ []), n.0, n.1.0, n.1.1.0, append-nil (map param_line h.params), append-nil (map param_line (h.params ++ p ∷ [])), map-append param_line h.params (p ∷ [])) refl

    loc_behind : (l : Local) → NoScalars h → lines_of c ++ front_lines (record h { locals = h.locals ++ l ∷ [] }) ≡ (lines_of c ++ front_lines h) ++ says.Loc l ∷ []
    loc_behind l n =
        rw (
          append_assoc (lines_of c) (front_lines h) (says.Loc l ∷ []),
          n.0,
          n.1.0,
          append-nil (map local_line h.locals),
          append-nil
              (map local_line (h.locals ++ l ∷ [])),
          map-append local_line h.locals (l ∷ []),
          append_assoc (map param_line h.params)
              (map local_line h.locals) (says.Loc l ∷ []),
        ) refl

    scalars_behind : (t : Elem) (ts : List Elem) → NoScalars h → lines_of c ++ front_lines (record h { scalars = t ∷ ts }) ≡ (lines_of c ++ front_lines h) ++ says.Scalars (t ∷ ts) ∷ []
    scalars_behind t ts n =
        rw (append_assoc (lines_of c) (front_lines h) (says.Scalars (t ∷ ts) ∷ []), n.0, n.1.0, append-nil (map local_line h.locals), append_assoc (map param_line h.params) (map local_line h.locals) (says.Scalars (t ∷ ts) ∷ [])) refl

    vectors_behind : (t : Elem) (ts : List Elem) → NoVectors h → lines_of c ++ front_lines (record h { vectors = t ∷ ts }) ≡ (lines_of c ++ front_lines h) ++ says.Vectors (t ∷ ts) ∷ []
    vectors_behind t ts n =
        let l = says.Vectors (t ∷ ts) ∷ [] in
        rw (
          append_assoc (lines_of c) (front_lines h) l,
          n.0,
          append-nil (if_any scalars_line h.scalars),
          append_assoc (map param_line h.params)
              (map local_line h.locals ++ if_any scalars_line h.scalars) l,
          append_assoc (map local_line h.locals) (if_any scalars_line h.scalars) l,
        )
        refl

    masks_behind : (n : ℕ) → h.code ≡ [] → lines_of c ++ body_lines (record h { masks = n }) ≡ (lines_of c ++ front_lines h) ++ says.Masks n ∷ []
    masks_behind n e = rw (append_assoc (lines_of c) (front_lines h) (says.Masks n ∷ []), e) refl

    instr_behind : (i : Instr) → lines_of c ++ body_lines (record h { code = h.code ++ i ∷ [] }) ≡ (lines_of c ++ body_lines h) ++ says.Do i ∷ []
    instr_behind i =
        rw (append_assoc (lines_of c) (body_lines h) (says.Do i ∷ []), map-append instr_line h.code (i ∷ []), append_assoc (head_lines h) (says.Masks h.masks ∷ map instr_line h.code) (says.Do i ∷ [])) refl

    end_behind : lines_of (record c { routines = c.routines ++ h ∷ [] }) ≡ (lines_of c ++ body_lines h) ++ says.End ∷ []
    end_behind = simp (flat_map-append, append_assoc, append-nil)

-- ---- what a line adds

abbrev Adds : Line → Drafted → Type 0
Adds l d = drafted_lines (taken l d) ≡ drafted_lines d ++ l ∷ []

module _ (c : Listing) (h : Routine) where
  abbrev AddsAt : Line → Kind → Type 0
  AddsAt l k = Ordered k c h → Adds l (record { last = k; code = c; begun = h })

  adds : (l : Line) (k : Kind) → may_follow k (line_kind l) ≡ true → line_fits l ≡ true → AddsAt l k
  adds (says.Isp g) k m f = before_isp (AddsAt (says.Isp g)) (λ o. refl) k m
  adds (says.Place s) k m f = let p = λ (o : (c.texts ≡ []) × (c.routines ≡ [])). place_behind c s o.0 o.1 in before_place (AddsAt (says.Place s)) p p k m
  adds (says.Text t) k m f =
      let p = λ (o : (c.texts ≡ []) × (c.routines ≡ [])). text_behind c t o.1 in
      before_text (AddsAt (says.Text t)) p p (λ o. text_behind c t o) k m
  adds (says.Func name exported r) k m f = before_func (AddsAt (says.Func name exported r)) (λ o. refl) (λ o. refl) (λ o. refl) (λ o. refl) k m
  adds (says.Par p) k m f = before_par (AddsAt (says.Par p)) (λ o. par_behind c h p o.0.1) (λ o. par_behind c h p o.0) k m
  adds (says.Loc l) k m f = before_loc (AddsAt (says.Loc l)) (λ o. loc_behind c h l o.0.1.1) (λ o. loc_behind c h l o.0.1) (λ o. loc_behind c h l o.0) k m
  adds (says.Scalars []) k m f = no f
  adds (says.Scalars (t ∷ ts)) k m f =
      before_scalars (AddsAt (says.Scalars (t ∷ ts))) (λ o. scalars_behind c h t ts o.0.1.1) (λ o. scalars_behind c h t ts o.0.1) (λ o. scalars_behind c h t ts o.0) k m
  adds (says.Vectors []) k m f = no f
  adds (says.Vectors (t ∷ ts)) k m f =
      before_vectors (AddsAt (says.Vectors (t ∷ ts))) (λ o. vectors_behind c h t ts o.0.1.1.1) (λ o. vectors_behind c h t ts o.0.1.1) (λ o. vectors_behind c h t ts o.0.1) (λ o. vectors_behind c h t ts o.0) k m
  adds (says.Masks n) k m f =
      before_masks (AddsAt (says.Masks n)) (λ o. masks_behind c h n o.0.1.1.1.1) (λ o. masks_behind c h n o.0.1.1.1) (λ o. masks_behind c h n o.0.1.1) (λ o. masks_behind c h n o.0.1) (λ o. masks_behind c h n o.0) k m
  adds (says.Do i) k m f =
      before_instr (AddsAt (says.Do i)) (λ o. instr_behind c h i) (λ o. instr_behind c h i) k (subst (λ (j : Kind). may_follow k j ≡ true) (instr_kind i) m)
  adds says.End k m f = before_end (AddsAt says.End) (λ o. end_behind c h) (λ o. end_behind c h) k m

  -- what comes after the line has not come yet
  abbrev KeepsAt : Line → Kind → Type 0
  KeepsAt l k = Ordered k c h → IsDraft (taken l (record { last = k; code = c; begun = h }))

  with_param : (p : Param) → param_fits p ≡ true → routine_fits h ≡ true → routine_fits (record h { params = h.params ++ p ∷ [] }) ≡ true
  with_param p f e = let g = fit_of h e in fit_all (record h { params = h.params ++ p ∷ [] }) (record { name = g.name; params = push_fits param_fits h.params p g.params f; locals = g.locals; masks = g.masks; code = g.code })

  with_local : (l : Local) → local_fits l ≡ true → routine_fits h ≡ true → routine_fits (record h { locals = h.locals ++ l ∷ [] }) ≡ true
  with_local l f e = let g = fit_of h e in fit_all (record h { locals = h.locals ++ l ∷ [] }) (record { name = g.name; params = g.params; locals = push_fits local_fits h.locals l g.locals f; masks = g.masks; code = g.code })

  with_masks : (n : ℕ) → number_fits n ≡ true → routine_fits h ≡ true → routine_fits (record h { masks = n }) ≡ true
  with_masks n f e = let g = fit_of h e in fit_all (record h { masks = n }) (record { name = g.name; params = g.params; locals = g.locals; masks = f; code = g.code })

  with_instr : (i : Instr) → instr_fits i ≡ true → routine_fits h ≡ true → routine_fits (record h { code = h.code ++ i ∷ [] }) ≡ true
  with_instr i f e = let g = fit_of h e in fit_all (record h { code = h.code ++ i ∷ [] }) (record { name = g.name; params = g.params; locals = g.locals; masks = g.masks; code = push_fits instr_fits h.code i g.code f })

  keeps : (l : Line) (k : Kind) → may_follow k (line_kind l) ≡ true → line_fits l ≡ true → KeepsAt l k
  keeps (says.Isp g) k m f = before_isp (KeepsAt (says.Isp g)) (λ o. (refl, refl)) k m
  keeps (says.Place s) k m f = before_place (KeepsAt (says.Place s)) (λ o. o) (λ o. o) k m
  keeps (says.Text t) k m f = before_text (KeepsAt (says.Text t)) (λ o. o.1) (λ o. o.1) (λ o. o) k m
  keeps (says.Func name exported r) k m f =
      let p : NoParams (record blank { name = name; exported = exported; returns = r }) = (refl, (refl, (refl, (refl, refl)))) in
      let q : routine_fits (record blank { name = name; exported = exported; returns = r }) ≡ true = rw f refl in
      before_func (KeepsAt (says.Func name exported r)) (λ o. (p, q)) (λ o. (p, q)) (λ o. (p, q)) (λ o. (p, q)) k m
  keeps (says.Par p) k m f = before_par (KeepsAt (says.Par p)) (λ o. (o.0.1, with_param p f o.1)) (λ o. (o.0, with_param p f o.1)) k m
  keeps (says.Loc l) k m f =
      before_loc (KeepsAt (says.Loc l)) (λ o. (o.0.1.1, with_local l f o.1)) (λ o. (o.0.1, with_local l f o.1)) (λ o. (o.0, with_local l f o.1)) k m
  keeps (says.Scalars ts) k m f = before_scalars (KeepsAt (says.Scalars ts)) (λ o. (o.0.1.1.1, o.1)) (λ o. (o.0.1.1, o.1)) (λ o. (o.0.1, o.1)) k m
  keeps (says.Vectors ts) k m f = before_vectors (KeepsAt (says.Vectors ts)) (λ o. (o.0.1.1.1.1, o.1)) (λ o. (o.0.1.1.1, o.1)) (λ o. (o.0.1.1, o.1)) (λ o. (o.0.1, o.1)) k m
  keeps (says.Masks n) k m f =
      before_masks (KeepsAt (says.Masks n)) (λ o. (o.0.1.1.1.1, with_masks n f o.1)) (λ o. (o.0.1.1.1, with_masks n f o.1)) (λ o. (o.0.1.1, with_masks n f o.1)) (λ o. (o.0.1, with_masks n f o.1)) (λ o. (o.0, with_masks n f o.1)) k m
  keeps (says.Do i) k m f =
      before_instr (KeepsAt (says.Do i)) (λ o. with_instr i f o.1) (λ o. with_instr i f o) k (subst (λ (j : Kind). may_follow k j ≡ true) (instr_kind i) m)
  keeps says.End k m f = before_end (KeepsAt says.End) (λ o. tt) (λ o. tt) k m

  -- what is seen
  abbrev SeesAt : Line → Kind → Type 0
  SeesAt l k = Ordered k c h → seen_of (taken l (record { last = k; code = c; begun = h })) ≡ after_kind (seen_of (record { last = k; code = c; begun = h })) (line_kind l)

  one_more : {A : Type 0} (xs : List A) (x : A) → length (xs ++ x ∷ []) ≡ suc (length xs)
  one_more xs x = length-append xs (x ∷ []) ∙ omega arith

  sees : (l : Line) (k : Kind) → may_follow k (line_kind l) ≡ true → SeesAt l k
  sees (says.Isp g) k m = before_isp (SeesAt (says.Isp g)) (λ o. rw (o.0, o.1) refl) k m
  sees (says.Place s) k m = λ o. ap (λ (n : ℕ). record { last = kind.Place; places = n; texts = length c.texts }) (one_more c.places s)
  sees (says.Text t) k m = λ o. ap (λ (n : ℕ). record { last = kind.Text; places = length c.places; texts = n }) (one_more c.texts t)
  sees (says.Func name exported r) k m = λ o. refl
  sees (says.Par p) k m = λ o. refl
  sees (says.Loc l) k m = λ o. refl
  sees (says.Scalars ts) k m = λ o. refl
  sees (says.Vectors ts) k m = λ o. refl
  sees (says.Masks n) k m = λ o. refl
  sees (says.Do i) k m = λ o. rw (instr_kind i) refl
  sees says.End k m = λ o. refl

pub lines_taken : (l : Line) (d : Drafted) → IsDraft d → may_follow d.last (line_kind l) ≡ true → line_fits l ≡ true → drafted_lines (taken l d) ≡ drafted_lines d ++ l ∷ []
lines_taken l d o m f = adds d.code d.begun l d.last m f o

pub draft_taken : (l : Line) (d : Drafted) → IsDraft d → may_follow d.last (line_kind l) ≡ true → line_fits l ≡ true → IsDraft (taken l d)
draft_taken l d o m f = keeps d.code d.begun l d.last m f o

pub seen_taken : (l : Line) (d : Drafted) → IsDraft d → may_follow d.last (line_kind l) ≡ true → seen_of (taken l d) ≡ after_kind (seen_of d) (line_kind l)
seen_taken l d o m = sees d.code d.begun l d.last m o
