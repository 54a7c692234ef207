-- What lines say, one after the other: the code so far, and the function that has begun. No part of the promise.
use Rattle.std.specs.Prelude.{◌≡◌, ℕ, false, true, List, [], ◌∷◌, ◌++◌, length, map, None}
use Rattle.isp_base.specs.declared.types.Gang.TheVariants.{W4}
use Rattle.isp_code.specs.Listing.{Listing, Routine, routine_of}
use Rattle.isp_code.specs.Writable.{routine_fits}
use Rattle.isp_code.specs.declared.function.Returns.TheVariants as returns
use Rattle.isp_asm.specs.declared.draft.Draft.{Draft}
use Rattle.isp_asm.specs.declared.order.Kind.{Kind}
use Rattle.isp_asm.specs.declared.order.Kind.TheVariants as kind
use Rattle.isp_asm.specs.Faults.{Seen, after_line, line_fault}
use Rattle.isp_asm.specs.Spelling as says
use Rattle.isp_asm.specs.Spelling.{Line, lines_of, lines_text, head_lines, instr_line}

-- the kind of the last line, the code so far, and the function that has begun
pub record Drafted : Type 0 where
  pub last : Kind
  pub code : Listing
  pub begun : Routine

abbrev pub blank : Routine
blank = record { name = []; exported = false; returns = returns.Nothing; params = []; locals = []; scalars = []; vectors = []; masks = 0; code = [] }

abbrev pub nothing_drafted : Drafted
nothing_drafted = record { last = kind.Start; code = record { gang = W4; places = []; texts = []; routines = [] }; begun = blank }

abbrev pub drafted : Draft → Drafted
drafted d = record { last = d.last; code = d.code; begun = routine_of d.begun }

-- what is there after a further line
abbrev pub taken : Line → Drafted → Drafted
taken (says.Isp g) d = record { last = kind.Isp; code = record { gang = g; places = []; texts = []; routines = [] }; begun = d.begun }
taken (says.Place s) d = record d { last = kind.Place; code = record d.code { places = d.code.places ++ s ∷ [] } }
taken (says.Text t) d = record d { last = kind.Text; code = record d.code { texts = d.code.texts ++ t ∷ [] } }
taken (says.Func name exported r) d = record d { last = kind.Func; begun = record blank { name = name; exported = exported; returns = r } }
taken (says.Par p) d = record d { last = kind.Par; begun = record d.begun { params = d.begun.params ++ p ∷ [] } }
taken (says.Loc l) d = record d { last = kind.Loc; begun = record d.begun { locals = d.begun.locals ++ l ∷ [] } }
taken (says.Scalars ts) d = record d { last = kind.Scalars; begun = record d.begun { scalars = ts } }
taken (says.Vectors ts) d = record d { last = kind.Vectors; begun = record d.begun { vectors = ts } }
taken (says.Masks n) d = record d { last = kind.Masks; begun = record d.begun { masks = n } }
taken (says.Do i) d = record d { last = kind.Instr; begun = record d.begun { code = d.begun.code ++ i ∷ [] } }
taken says.End d = record { last = kind.End; code = record d.code { routines = d.code.routines ++ d.begun ∷ [] }; begun = blank }

-- the lines of a function as far as its registers, and as far as its code
abbrev pub front_lines : Routine → List Line
front_lines h = says.Func h.name h.exported h.returns ∷ head_lines h

abbrev pub body_lines : Routine → List Line
body_lines h = says.Func h.name h.exported h.returns ∷ (head_lines h ++ says.Masks h.masks ∷ map instr_line h.code)

-- the lines so far
abbrev pub lines_by : Kind → Listing → Routine → List Line
lines_by kind.Start c h = []
lines_by kind.Isp c h = lines_of c
lines_by kind.Place c h = lines_of c
lines_by kind.Text c h = lines_of c
lines_by kind.Func c h = lines_of c ++ front_lines h
lines_by kind.Par c h = lines_of c ++ front_lines h
lines_by kind.Loc c h = lines_of c ++ front_lines h
lines_by kind.Scalars c h = lines_of c ++ front_lines h
lines_by kind.Vectors c h = lines_of c ++ front_lines h
lines_by kind.Masks c h = lines_of c ++ body_lines h
lines_by kind.Instr c h = lines_of c ++ body_lines h
lines_by kind.End c h = lines_of c

abbrev pub drafted_lines : Drafted → List Line
drafted_lines d = lines_by d.last d.code d.begun

abbrev pub seen_of : Drafted → Seen
seen_of d = record { last = d.last; places = length d.code.places; texts = length d.code.texts }

-- what has not come yet
abbrev pub NoVectors : Routine → Type 0
NoVectors h = (h.vectors ≡ []) × (h.code ≡ [])

abbrev pub NoScalars : Routine → Type 0
NoScalars h = (h.scalars ≡ []) × NoVectors h

abbrev pub NoLocals : Routine → Type 0
NoLocals h = (h.locals ≡ []) × NoScalars h

abbrev pub NoParams : Routine → Type 0
NoParams h = (h.params ≡ []) × NoLocals h

-- what comes after a line has not come yet, and a function that has begun can be written
abbrev pub Ordered : Kind → Listing → Routine → Type 0
Ordered kind.Start c h = (c.places ≡ []) × (c.texts ≡ [])
Ordered kind.Isp c h = (c.texts ≡ []) × (c.routines ≡ [])
Ordered kind.Place c h = (c.texts ≡ []) × (c.routines ≡ [])
Ordered kind.Text c h = c.routines ≡ []
Ordered kind.Func c h = NoParams h × (routine_fits h ≡ true)
Ordered kind.Par c h = NoLocals h × (routine_fits h ≡ true)
Ordered kind.Loc c h = NoScalars h × (routine_fits h ≡ true)
Ordered kind.Scalars c h = NoVectors h × (routine_fits h ≡ true)
Ordered kind.Vectors c h = (h.code ≡ []) × (routine_fits h ≡ true)
Ordered kind.Masks c h = (h.code ≡ []) × (routine_fits h ≡ true)
Ordered kind.Instr c h = routine_fits h ≡ true
Ordered kind.End c h = Unit {0}

abbrev pub IsDraft : Drafted → Type 0
IsDraft d = Ordered d.last d.code d.begun

-- a line of a text is taken
pub record AddsLine (old new : Drafted) (text : List ℕ) : Type 0 where
  pub draft : IsDraft new
  pub lines : lines_text (drafted_lines new) ≡ lines_text (drafted_lines old) ++ (text ++ 10 ∷ [])
  pub seen : seen_of new ≡ after_line (seen_of old) text
  pub fine : line_fault (seen_of old) text ≡ None
