-- What is written after what, jumps over parts that name texts, and turns.
use Rattle.std.proofs.Common.{◌≡◌, ℕ, ◌+◌, List, [], ◌∷◌, ◌++◌, length, map, refl, arith, sym, ap, ◌∙◌, append_assoc, append-nil, length-append, Vec, Global}
use Rattle.std.specs.Prelude.{slice_set}
use Rattle.isp_base.specs.declared.types.Span.{Span}
use Rattle.isp_code.specs.declared.instr.Instr.{Instr}
use Rattle.isp_code.specs.declared.instr.Instr.TheVariants as instr
use Rattle.isp_code.specs.declared.instr.JumpTest.TheVariants as jump
use Rattle.isp_lower_code.specs.Pieces.{choice, guard, two}
use Rattle.isp_lower.specs.Emitted.{Appends, texts_of}
use Rattle.isp_lower_code.specs.Layout.{mask_register}
use Rattle.isp_lower.specs.declared.types.Body.{Body}
use Rattle.isp_lower.proofs.Lemmas.{code_chosen, code_landed}
use Rattle.isp_masks_code.specs.Rounds.{rounds_code}
use Rattle.isp_masks_code.specs.Spots.{Numbers, past}
use Rattle.isp_masks.specs.AtWork.{next_of}
use Rattle.isp_masks.specs.Written.{Piece, Writes}
use Rattle.isp_masks.proofs.Lists.{same_numbers}

-- ---- the numbers after what is written

pub texts_still : (a b : Body) → b.texts ≡ a.texts → texts_of b ≡ texts_of a
texts_still a b e = ap (λ (ts : Vec (Vec ℕ Global) Global). map (λ (t : Vec ℕ Global). t.items) ts.items) e

abbrev pub beyond : List Span → List (List ℕ) → Numbers → Numbers
beyond ps ts z = record { place = z.place + length ps; text = z.text + length ts }

pub next_beyond : (a b : Body) (ps : List Span) (ts : List (List ℕ)) → b.places.items ≡ a.places.items ++ ps → texts_of b ≡ texts_of a ++ ts → next_of b ≡ beyond ps ts (next_of a)
next_beyond a b ps ts e f =
    same_numbers (next_of b) (beyond ps ts (next_of a)) (ap length e ∙ length-append a.places.items ps) (ap length f ∙ length-append (texts_of a) ts)

-- nothing is named
pub next_same : (a b : Body) → b.places.items ≡ a.places.items ++ [] → b.texts ≡ a.texts → next_of b ≡ next_of a
next_same a b e f = same_numbers (next_of b) (next_of a) (ap length (e ∙ append-nil a.places.items)) (ap length (texts_still a b f))

-- ---- one after the other

pub writes_of : (a b : Body) (f : ℕ → ℕ → List Instr) (p : List Span) → Appends a b f p → Writes a b (record { code = λ pc z. f pc z.place; places = p; texts = [] })
writes_of a b f p x = record { code = x.code; places = x.places; texts = texts_still a b x.texts ∙ sym (append-nil (texts_of a)) }

pub writes_then : (a b c : Body) (x y : Piece) → Writes a b x → Writes b c y
    → Writes a c (record { code = λ pc z. x.code pc z ++ y.code (pc + length (x.code pc z)) (beyond x.places x.texts z); places = x.places ++ y.places; texts = x.texts ++ y.texts })
writes_then a b c x y f g =
    let pc = length a.code.items in
    let part = x.code pc (next_of a) in
    record {
      code =
          g.code
          ∙ ap (λ m. b.code.items ++ y.code m (next_of b)) (ap length f.code ∙ length-append a.code.items part)
          ∙ ap (λ z. b.code.items ++ y.code (pc + length part) z) (next_beyond a b x.places x.texts f.places f.texts)
          ∙ ap (λ is. is ++ y.code (pc + length part) (beyond x.places x.texts (next_of a))) f.code
          ∙ append_assoc a.code.items part (y.code (pc + length part) (beyond x.places x.texts (next_of a)));
      places = g.places ∙ ap (λ s. s ++ y.places) f.places ∙ append_assoc a.places.items x.places y.places;
      texts = g.texts ∙ ap (λ s. s ++ y.texts) f.texts ∙ append_assoc (texts_of a) x.texts y.texts;
    }

-- what follows code that names no text
pub writes_past : (a b c : Body) (f : ℕ → ℕ → List Instr) (p : List Span) (y : Piece) → Appends a b f p → Writes b c y
    → Writes a c (record { code = λ pc z. f pc z.place ++ y.code (pc + length (f pc z.place)) (record z { place = z.place + length p }); places = p ++ y.places; texts = y.texts })
writes_past a b c f p y x g =
    let w = writes_then a b c (record { code = λ pc z. f pc z.place; places = p; texts = [] }) y (writes_of a b f p x) g in
    let pc = length a.code.items in
    let n = length a.places.items in
    let part = f pc n in
    let same : beyond p [] (next_of a) ≡ record (next_of a) { place = n + length p } = same_numbers (beyond p [] (next_of a)) (record (next_of a) { place = n + length p }) refl (omega arith) in
    record {
      code = w.code ∙ ap (λ z. a.code.items ++ (part ++ y.code (pc + length part) z)) same;
      places = w.places;
      texts = w.texts;
    }

-- code after it that names nothing
pub writes_back : (a b c : Body) (x : Piece) (f : ℕ → ℕ → List Instr) → Writes a b x → Appends b c f []
    → Writes a c (record { code = λ pc z. x.code pc z ++ f (pc + length (x.code pc z)) (z.place + length x.places); places = x.places; texts = x.texts })
writes_back a b c x f w g =
    let pc = length a.code.items in
    let part = x.code pc (next_of a) in
    let n = length a.places.items + length x.places in
    record {
      code =
          g.code
          ∙ ap (λ m. b.code.items ++ f m (length b.places.items)) (ap length w.code ∙ length-append a.code.items part)
          ∙ ap (λ m. b.code.items ++ f (pc + length part) m) (ap length w.places ∙ length-append a.places.items x.places)
          ∙ ap (λ is. is ++ f (pc + length part) n) w.code
          ∙ append_assoc a.code.items part (f (pc + length part) n);
      places = g.places ∙ append-nil b.places.items ∙ w.places;
      texts = texts_still b c g.texts ∙ w.texts;
    }

-- code after it that names places, and no text
pub writes_adding : (a b c : Body) (x : Piece) (f : ℕ → ℕ → List Instr) (p : List Span) → Writes a b x → Appends b c f p
    → Writes a c (record { code = λ pc z. x.code pc z ++ f (pc + length (x.code pc z)) (z.place + length x.places); places = x.places ++ p; texts = x.texts })
writes_adding a b c x f p w g =
    let pc = length a.code.items in
    let part = x.code pc (next_of a) in
    let n = length a.places.items + length x.places in
    record {
      code =
          g.code
          ∙ ap (λ m. b.code.items ++ f m (length b.places.items)) (ap length w.code ∙ length-append a.code.items part)
          ∙ ap (λ m. b.code.items ++ f (pc + length part) m) (ap length w.places ∙ length-append a.places.items x.places)
          ∙ ap (λ is. is ++ f (pc + length part) n) w.code
          ∙ append_assoc a.code.items part (f (pc + length part) n);
      places = g.places ∙ ap (λ s. s ++ p) w.places ∙ append_assoc a.places.items x.places p;
      texts = texts_still b c g.texts ∙ w.texts;
    }

-- some before it
pub writes_front : (a b c : Body) (f : List Instr) (y : Piece) → Appends a b (λ pc p. f) [] → Writes b c y
    → Writes a c (record { code = λ pc z. f ++ y.code (pc + length f) z; places = y.places; texts = y.texts })
writes_front a b c f y x w =
    let none = x.places ∙ append-nil a.places.items in
    let pc = length a.code.items in
    record {
      code =
          w.code
          ∙ ap (λ z. b.code.items ++ y.code (length b.code.items) z) (next_same a b x.places x.texts)
          ∙ ap (λ m. b.code.items ++ y.code m (next_of a)) (ap length x.code ∙ length-append a.code.items f)
          ∙ ap (λ is. is ++ y.code (pc + length f) (next_of a)) x.code
          ∙ append_assoc a.code.items f (y.code (pc + length f) (next_of a));
      places = w.places ∙ ap (λ s. s ++ y.places) none;
      texts = w.texts ∙ ap (λ s. s ++ y.texts) (texts_still a b x.texts);
    }

-- one instruction before it
pub writes_behind : (a b c : Body) (i : Instr) (y : Piece) → Appends a b (λ pc p. i ∷ []) [] → Writes b c y
    → Writes a c (record { code = λ pc z. i ∷ y.code (pc + 1) z; places = y.places; texts = y.texts })
writes_behind a b c i y f w = writes_front a b c (i ∷ []) y f w

-- ---- a jump over a part

pub landed_over : (a b c d : Body) (at : ℕ) (x : Instr) (go : ℕ → Instr) (y : Piece)
    → at ≡ length a.code.items → Appends a b (λ pc n. x ∷ []) [] → Writes b c y
    → d.code.items ≡ slice_set c.code.items at (go (length c.code.items)) → d.places ≡ c.places → d.texts ≡ c.texts
    → Writes a d (record { code = λ pc z. guard go pc (λ pc1. y.code pc1 z); places = y.places; texts = y.texts })
landed_over a b c d at x go y is one part set kept same =
    let none = one.places ∙ append-nil a.places.items in
    let was = part.code ∙ ap (λ z. b.code.items ++ y.code (length b.code.items) z) (next_same a b one.places one.texts) in
    record {
      code = code_landed a.code.items b.code.items c.code.items d.code.items at x go (λ pc1. y.code pc1 (next_of a)) is one.code was set;
      places = ap (λ (z : Vec Span Global). z.items) kept ∙ part.places ∙ ap (λ s. s ++ y.places) none;
      texts = texts_still c d same ∙ part.texts ∙ ap (λ s. s ++ y.texts) (texts_still a b one.texts);
    }

-- one of two parts
pub chosen_of : (a b c d e f g : Body) (at over : ℕ) (x o : Instr) (go : ℕ → Instr) (y w : Piece)
    → at ≡ length a.code.items → Appends a b (λ pc n. x ∷ []) [] → Writes b c y → over ≡ length c.code.items → Appends c d (λ pc n. o ∷ []) []
    → e.code.items ≡ slice_set d.code.items at (go (length d.code.items)) → e.places ≡ d.places → e.texts ≡ d.texts → Writes e f w
    → g.code.items ≡ slice_set f.code.items over (instr.Jump (length f.code.items)) → g.places ≡ f.places → g.texts ≡ f.texts
    → Writes a g (record { code = λ pc z. choice go pc (λ pc1. y.code pc1 z) (λ pc1. w.code pc1 (beyond y.places y.texts z)); places = y.places ++ w.places; texts = y.texts ++ w.texts })
chosen_of a b c d e f g at over x o go y w is first one last jump set kept held two done same still =
    let none = first.places ∙ append-nil a.places.items in
    let mid : e.places.items ≡ a.places.items ++ y.places = ap (λ (z : Vec Span Global). z.items) kept ∙ jump.places ∙ append-nil c.places.items ∙ one.places ∙ ap (λ s. s ++ y.places) none in
    let told : texts_of e ≡ texts_of a ++ y.texts = texts_still d e held ∙ texts_still c d jump.texts ∙ one.texts ∙ ap (λ s. s ++ y.texts) (texts_still a b first.texts) in
    let front = one.code ∙ ap (λ z. b.code.items ++ y.code (length b.code.items) z) (next_same a b first.places first.texts) in
    let back = two.code ∙ ap (λ z. e.code.items ++ w.code (length e.code.items) z) (next_beyond a e y.places y.texts mid told) in
    record {
      code =
          code_chosen a.code.items b.code.items c.code.items d.code.items e.code.items f.code.items g.code.items at over x o go (λ pc1. y.code pc1 (next_of a)) (λ pc1. w.code pc1 (beyond y.places y.texts (next_of a)))
          is first.code front last jump.code set back done;
      places = ap (λ (z : Vec Span Global). z.items) same ∙ two.places ∙ ap (λ s. s ++ w.places) mid ∙ append_assoc a.places.items y.places w.places;
      texts = texts_still f g still ∙ two.texts ∙ ap (λ s. s ++ w.texts) told ∙ append_assoc (texts_of a) y.texts w.texts;
    }

-- ---- turns, after code that names no text

pub rounds_written : (a b c d e : Body) (f : ℕ → ℕ → List Instr) (p : List Span) (begin : List Instr) (n top : ℕ) (y : Piece)
    → Appends a b f p → top ≡ length b.code.items → Appends b c (λ pc m. begin) [] → Writes c d y → Appends d e (λ pc m. instr.JumpIf jump.On (mask_register n) top ∷ []) []
    → Writes a e (record { code = λ pc z. two pc (f pc z.place) (λ pc1. rounds_code begin n pc1 (λ pc2. y.code pc2 (past p z))); places = p ++ y.places; texts = y.texts })
rounds_written a b c d e f p begin n top y kept is first part jumped =
    let pc = length b.code.items in
    let named = next_of b in
    let back = λ (to : ℕ). instr.JumpIf jump.On (mask_register n) to ∷ [] in
    let turn : Piece = record { code = λ pc1 z. y.code pc1 z ++ back top; places = y.places; texts = y.texts } in
    let from = writes_past b c e (λ pc1 m. begin) [] turn first (writes_back c d e y (λ pc1 m. back top) part jumped) in
    let same : past [] named ≡ named = same_numbers (past [] named) named (omega arith) refl in
    let rounds : Piece = record { code = λ pc1 z. rounds_code begin n pc1 (λ pc2. y.code pc2 z); places = y.places; texts = y.texts } in
    let all : Writes b e rounds = record {
      code = from.code ∙ ap (λ z. b.code.items ++ two pc begin (λ pc1. y.code pc1 z ++ back top)) same ∙ ap (λ to. b.code.items ++ two pc begin (λ pc1. y.code pc1 named ++ back to)) is;
      places = from.places;
      texts = from.texts;
    } in
    writes_past a b e f p rounds kept all
