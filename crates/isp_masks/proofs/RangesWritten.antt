-- What the ranges of a `foreach` are written in: a range with the jumps out of it and back to its test, and what is there for it.
use Rattle.std.proofs.Common.{◌≡◌, ℕ, ◌+◌, ◌<◌, List, [], ◌∷◌, ◌++◌, length, drop, get_or, Bool, true, false, refl, sym, ap, ap₂, ◌∙◌, subst, suc, arith, length-append}
use Rattle.std.specs.Prelude.{slice_set, not, ◌≢◌, ◌&&◌, ◌==◌}
use Rattle.std.proofs.lemmas.Bool.{ne_eqb}
use Rattle.std.proofs.lemmas.List.{drop_more, map-append}
use Rattle.isp_base.specs.declared.operators.Compare.TheVariants.{Less}
use Rattle.isp_base.specs.declared.types.Rate.TheVariants.{Uniform, Varying}
use Rattle.isp_base.specs.declared.types.Span.{Span}
use Rattle.isp_code.specs.declared.instr.Instr.{Instr}
use Rattle.isp_code.specs.declared.instr.Instr.TheVariants as instr
use Rattle.isp_code.specs.declared.instr.JumpTest.TheVariants as jump
use Rattle.isp_typed.specs.Typed.{TRange, TStmt}
use Rattle.isp_typed.specs.Views.{ranges_of}
use Rattle.isp_typed.specs.declared.stmt.TypedRange.{TypedRange}
use Rattle.isp_lower_code.specs.Instructions.{compare, convert, jump_off, jump_on, splat}
use Rattle.isp_lower_code.specs.Pieces.{guard, two}
use Rattle.isp_lower.specs.Emitted.{Appends, Present, layout}
use Rattle.isp_lower_code.specs.Layout.{Layout}
use Rattle.isp_lower.specs.declared.types.Body.{Body}
use Rattle.isp_lower.specs.declared.types.Scope.{Scope}
use Rattle.isp_lower.proofs.Lemmas.{appends_then}
use Rattle.isp_masks_code.specs.Ranges.{RunBodies, bounds_code, foreach_code, full_back, full_code, goes_on, index_step, measures_code, narrow, next_from, outer_index, places_slot, range_mask, ranges_code, ranges_places, refill, rest_run, runs_slot, sweep_code, test, wide}
use Rattle.isp_masks_code.specs.Rounds.{fill_mask}
use Rattle.isp_masks_code.specs.Spots.{Numbers, past}
use Rattle.isp_masks.specs.AtWork.{next_of}
use Rattle.isp_masks_code.specs.Statements.{body_layout, run_bodies, stmt_places, stmt_texts}
use Rattle.isp_masks.specs.Written.{Piece, Writes, index_codes, inner_sweep, last_asks, outer_turn_at, outer_turn_code, ranges_at, sweep_asks, sweeps_asks}
use Rattle.isp_masks.specs.declared.ranges.OuterIndex.{OuterIndex}
use Rattle.isp_masks.specs.declared.ranges.Sweep.{Sweep}
use Rattle.isp_masks.proofs.Lists.{same_numbers}
use Rattle.isp_masks.proofs.Writing.{beyond, landed_over, writes_back, writes_behind, writes_front, writes_past, writes_then}

-- the first instruction, the test, the jump past what is inside, and after that the jump back to the test
pub sweep_written : (a s b c d f e : Body) (first tested x add : Instr) (go : ℕ → Instr) (y : Piece) (top at : ℕ)
    → Appends a s (λ pc n. first ∷ []) [] → top ≡ length s.code.items → Appends s b (λ pc n. tested ∷ []) [] → at ≡ length b.code.items
    → Appends b c (λ pc n. x ∷ []) [] → Writes c d y → Appends d f (λ pc n. add ∷ instr.Jump top ∷ []) []
    → e.code.items ≡ slice_set f.code.items at (go (length f.code.items)) → e.places ≡ f.places → e.texts ≡ f.texts
    → Writes a e (record { code = λ pc z. first ∷ tested ∷ guard go (pc + 1 + 1) (λ pc1. y.code pc1 z ++ add ∷ instr.Jump (pc + 1) ∷ []); places = y.places; texts = y.texts })
sweep_written a s b c d f e first tested x add go y top at start top_at test is skip part on set kept held =
    let pc = length a.code.items in
    let named = next_of a in
    let turn : Piece = record { code = λ pc1 z. y.code pc1 z ++ add ∷ instr.Jump top ∷ []; places = y.places; texts = y.texts } in
    let inside : Writes c f turn = writes_back c d f y (λ pc1 m. add ∷ instr.Jump top ∷ []) part on in
    let jumped : Piece = record { code = λ pc1 z. guard go pc1 (λ pc2. turn.code pc2 z); places = y.places; texts = y.texts } in
    let over : Writes b e jumped = landed_over b c f e at x go turn is skip inside set kept held in
    let told : Piece = record { code = λ pc1 z. tested ∷ guard go (pc1 + 1) (λ pc2. turn.code pc2 (past [] z)); places = y.places; texts = y.texts } in
    let behind : Writes s e told = writes_past s b e (λ pc1 m. tested ∷ []) [] jumped test over in
    let whole = writes_past a s e (λ pc1 m. first ∷ []) [] told start behind in
    let there : top ≡ pc + 1 = top_at ∙ ap length start.code ∙ length-append a.code.items (first ∷ []) in
    let same : past [] (past [] named) ≡ named = same_numbers (past [] (past [] named)) named (omega arith) refl in
    record {
      code =
          whole.code
          ∙ ap (λ z. a.code.items ++ first ∷ tested ∷ guard go (pc + 1 + 1) (λ pc1. y.code pc1 z ++ add ∷ instr.Jump top ∷ [])) same
          ∙ ap (λ t. a.code.items ++ first ∷ tested ∷ guard go (pc + 1 + 1) (λ pc1. y.code pc1 named ++ add ∷ instr.Jump t ∷ [])) there;
      places = whole.places;
      texts = whole.texts;
    }

-- whether an index goes on, as it is asked, and by the instructions that set others
pub goes_on_is : {A : Type 0} (d : Bool) (set : List A) → goes_on d set ≡ (not d && (length set == 0))
goes_on_is false [] = refl
goes_on_is false (x ∷ set) = let some : suc (length set) ≢ 0 = omega arith in sym (ne_eqb (suc (length set)) 0 some)
goes_on_is true set = refl

pub goes_on_codes : (d : Bool) (h : ℕ) (set : List OuterIndex) → goes_on d (index_codes h set) ≡ goes_on d set
goes_on_codes false h [] = refl
goes_on_codes false h (x ∷ set) = refl
goes_on_codes true h set = refl

-- the runs that have all lanes, given where their indices begin, and where the next of them does
pub full_written : (l : Layout) (a b c d e f k : Body) (alone kept : Bool) (own : List Instr) (i x m n h first to : ℕ) (y : Piece)
    → Appends a b (λ pc p. fill_mask h ∷ []) [] → first ≡ length b.code.items → Appends b c (λ pc p. own) []
    → to ≡ next_from alone first (length c.code.items) → Appends c d (λ pc p. index_step l alone i n h pc) [] → Writes d e y → Appends e f (λ pc p. refill kept h) []
    → Appends f k (λ pc p. full_back l x m n to) []
    → Writes a k (record { code = λ pc z. full_code l alone kept own i x m n h (λ pc1. y.code pc1 z) pc; places = y.places; texts = y.texts })
full_written l a b c d e f k alone kept own i x m n h first to y fill first_at set to_is skip part refilled on =
    let named = next_of a in
    let pc = length a.code.items in
    let fine = fill_mask h in
    let back = λ (k1 : ℕ). refill kept h ++ full_back l x m n k1 in
    let behind = appends_then e f k (λ pc1 p. refill kept h) (λ pc1 p. full_back l x m n to) [] [] refilled on in
    let turn : Piece = record { code = λ pc1 z. y.code pc1 z ++ back to; places = y.places; texts = y.texts } in
    let turned : Writes d k turn = writes_back d e k y (λ pc1 p. back to) part behind in
    let at = length c.code.items in
    let over : Piece = record { code = λ pc1 z. two pc1 (index_step l alone i n h pc1) (λ top. turn.code top z); places = y.places; texts = y.texts } in
    let stepped : Writes c k over =
    let w = writes_front c d k (index_step l alone i n h at) turn (record { code = skip.code; places = skip.places; texts = skip.texts }) turned in
    record { code = w.code; places = w.places; texts = w.texts } in
    let all : Piece = record { code = λ pc1 z. two pc1 own (λ at1. over.code at1 z); places = y.places; texts = y.texts } in
    let indexed : Writes b k all = let w = writes_front b c k own over set stepped in record { code = w.code; places = w.places; texts = w.texts } in
    let whole = writes_behind a b k fine all fill indexed in
    let start : first ≡ pc + 1 = first_at ∙ ap length fill.code ∙ length-append a.code.items (fine ∷ []) in
    let there : length c.code.items ≡ pc + 1 + length own = ap length set.code ∙ length-append b.code.items own ∙ ap (λ z. z + length own) (ap length fill.code ∙ length-append a.code.items (fine ∷ [])) in
    let from : to ≡ next_from alone (pc + 1) (pc + 1 + length own) = to_is ∙ ap₂ (next_from alone) start there in
    record {
      code = whole.code ∙ ap (λ k1. a.code.items ++ fine ∷ two (pc + 1) own (λ st. two st (index_step l alone i n h st) (λ top. y.code top named ++ back k1))) from;
      places = whole.places;
      texts = whole.texts;
    }

-- the run after them: its lanes, and a jump past its indices and its body
pub rest_written : (l : Layout) (a b c d e f : Body) (own : List Instr) (x bound h : ℕ) (skip : Instr) (y : Piece) (at : ℕ)
    → Appends a b (λ pc p. range_mask h x (wide l (bound + 1)) ∷ []) [] → at ≡ length b.code.items → Appends b c (λ pc p. skip ∷ []) []
    → Appends c d (λ pc p. own) [] → Writes d e y → f.code.items ≡ slice_set e.code.items at (jump_off h (length e.code.items)) → f.places ≡ e.places → f.texts ≡ e.texts
    → Writes a f (record { code = λ pc z. rest_run l own x bound h (λ pc1. y.code pc1 z) pc; places = y.places; texts = y.texts })
rest_written l a b c d e f own x bound h skip y at lanes is one set part landed kept held =
    let own_part : Piece = record { code = λ pc z. two pc own (λ pc1. y.code pc1 z); places = y.places; texts = y.texts } in
    let inside : Writes c e own_part = let w = writes_front c d e own y set part in record { code = w.code; places = w.places; texts = w.texts } in
    let over : Piece = record { code = λ pc z. guard (jump_off h) pc (λ pc1. own_part.code pc1 z); places = y.places; texts = y.texts } in
    writes_behind a b f (range_mask h x (wide l (bound + 1))) over lanes (landed_over b c e f at skip (jump_off h) own_part is one inside landed kept held)

-- three instructions, a jump past the full runs of the last range, these, and its last run
pub last_written : (a b c d e f : Body) (begin : List Instr) (skip : Instr) (go : ℕ → Instr) (y w : Piece) (at : ℕ)
    → Appends a b (λ pc p. begin) [] → length begin ≡ 3 → at ≡ length b.code.items → Appends b c (λ pc p. skip ∷ []) [] → Writes c d y
    → e.code.items ≡ slice_set d.code.items at (go (length d.code.items)) → e.places ≡ d.places → e.texts ≡ d.texts → Writes e f w
    → Writes a f (record { code = λ pc z. begin ++ two (pc + 1 + 1 + 1) (guard go (pc + 1 + 1 + 1) (λ pc1. y.code pc1 z)) (λ pc1. w.code pc1 (beyond y.places y.texts z)); places = y.places ++ w.places; texts = y.texts ++ w.texts })
last_written a b c d e f begin skip go y w at start three is one part landed kept held rest =
    let named = next_of a in
    let pc = length a.code.items in
    let over : Piece = record { code = λ pc1 z. guard go pc1 (λ pc2. y.code pc2 z); places = y.places; texts = y.texts } in
    let jumped : Writes b e over = landed_over b c d e at skip go y is one part landed kept held in
    let both : Piece = record { code = λ pc1 z. two pc1 (over.code pc1 z) (λ pc2. w.code pc2 (beyond y.places y.texts z)); places = y.places ++ w.places; texts = y.texts ++ w.texts } in
    let joined : Writes b f both = let v = writes_then b e f over w jumped rest in record { code = v.code; places = v.places; texts = v.texts } in
    let whole = writes_front a b f begin both start joined in
    let there : pc + length begin ≡ pc + 1 + 1 + 1 = omega (arith, three) in
    record {
      code = whole.code ∙ ap (λ k. a.code.items ++ (begin ++ both.code k named)) there;
      places = whole.places;
      texts = whole.texts;
    }

-- what all runs use, the bounds, and the ranges, given the numbers of what their body names next
pub foreach_written : (l : Layout) (a b c d : Body) (rs : List TRange) (k n : ℕ) (body : Numbers → RunBodies) (ps : List Span) (ts : List (List ℕ))
    → Appends a b (λ pc p. measures_code l n (runs_slot n rs)) [] → Appends b c (λ pc p. bounds_code l rs pc p k (n + 1 + 1)) (ranges_places l rs)
    → Writes c d (record { code = λ pc z. ranges_code l n (runs_slot n rs) (body z) rs [] (n + 1 + 1) (places_slot n rs) pc; places = ps; texts = ts })
    → Writes a d (record { code = λ pc z. foreach_code l rs pc z.place k n (body (past (ranges_places l rs) z)); places = ranges_places l rs ++ ps; texts = ts })
foreach_written l a b c d rs k n body ps ts x y w =
    let h = runs_slot n rs in
    let m = places_slot n rs in
    let named = ranges_places l rs in
    let pc = length a.code.items in
    let runs : Piece = record { code = λ pc1 z. ranges_code l n h (body z) rs [] (n + 1 + 1) m pc1; places = ps; texts = ts } in
    let rest : Piece = record { code = λ pc1 z. two pc1 (bounds_code l rs pc1 z.place k (n + 1 + 1)) (λ pc2. runs.code pc2 (past named z)); places = named ++ ps; texts = ts } in
    let behind : Writes b d rest = writes_past b c d (λ pc1 p. bounds_code l rs pc1 p k (n + 1 + 1)) named runs y w in
    let whole = writes_past a b d (λ pc1 p. measures_code l n h) [] rest x behind in
    let same : past [] (next_of a) ≡ next_of a = same_numbers (past [] (next_of a)) (next_of a) (omega arith) refl in
    record {
      code = whole.code ∙ ap (λ z. a.code.items ++ two pc (measures_code l n h) (λ pc1. rest.code pc1 z)) same;
      places = whole.places;
      texts = whole.texts;
    }

-- a range that has others inside
pub ranges_outer : (l : Layout) (n h : ℕ) (body : RunBodies) (rs : List TRange) (set : List Instr) (e m pc : ℕ) → 1 < length rs
    → sweep_code l e m (n + 1) (compare Uniform Less (test l (m + 1)) (wide l m) (wide l (e + 1)) 0) (jump_on jump.False (test l (m + 1))) pc (λ pc1. outer_turn_code l n h body rs set e m pc1) ≡ ranges_code l n h body rs set e m pc
ranges_outer l n h body [] set e m pc many = absurd (omega (arith, many))
ranges_outer l n h body (r ∷ []) set e m pc many = absurd (omega (arith, many))
ranges_outer l n h body (r ∷ q ∷ rs) set e m pc many = refl

-- a turn of a range that has others inside
pub outer_written : (on : Scope) (a b c : Body) (r : TRange) (rs : List TRange) (x : TStmt) (set : List OuterIndex) (it inner : Sweep) (one : OuterIndex)
    → 0 < length rs → inner ≡ inner_sweep it → one.index.number ≡ (layout on).variable Varying r.index → one.value.number ≡ narrow (layout on) (it.place.number + 1)
    → Appends a b (λ pc p. convert Uniform (narrow (layout on) (it.place.number + 1)) (wide (layout on) it.place.number) 0 ∷ []) []
    → Writes b c (ranges_at on rs x (set ++ one ∷ []) inner) → Writes a c (outer_turn_at on (r ∷ rs) x set it)
outer_written on a b c r [] x set it inner one some same index value first rest = absurd (omega (arith, some))
outer_written on a b c r (q ∷ rs) x set it inner one some same index value first rest =
    let l = layout on in
    let h = it.masks.number in
    let m = it.place.number in
    let step = convert Uniform (narrow l (m + 1)) (wide l m) 0 in
    let more : index_codes h (set ++ one ∷ []) ≡ index_codes h set ++ outer_index l r.index (m + 1) h ∷ [] =
    map-append (λ (y : OuterIndex). splat y.index.number y.value.number h) set (one ∷ [])
    ∙ ap (λ i. index_codes h set ++ splat i one.value.number h ∷ []) index
    ∙ ap (λ v. index_codes h set ++ splat (l.variable Varying r.index) v h ∷ []) value in
    let told = subst (λ (s : Sweep). Writes b c (ranges_at on (q ∷ rs) x (set ++ one ∷ []) s)) same rest in
    let lb = body_layout l (q ∷ rs) in
    let body = λ (z : Numbers). run_bodies lb on.answer x h z in
    subst (λ is. Writes a c (record { code = λ pc z. step ∷ ranges_code l it.measures.number h (body z) (q ∷ rs) is (it.bounds.number + 1 + 1) (m + 1 + 1) (pc + 1); places = stmt_places lb x ++ stmt_places lb x; texts = stmt_texts x ++ stmt_texts x })) more
    (writes_behind a b c step (ranges_at on (q ∷ rs) x (set ++ one ∷ []) (inner_sweep it)) first told)

-- the index of a range outside, and those that are left
pub indices_more : (h : ℕ) (a b c : Body) (all : List OuterIndex) (i : ℕ) (d : OuterIndex) → i < length all
    → Appends a b (λ pc p. splat (get_or all i d).index.number (get_or all i d).value.number h ∷ []) [] → Appends b c (λ pc p. index_codes h (drop (i + 1) all)) []
    → Appends a c (λ pc p. index_codes h (drop i all)) []
indices_more h a b c all i d lt one left =
    let x = get_or all i d in
    subst (λ zs. Appends a c (λ pc p. index_codes h zs) []) (sym (drop_more all i d lt))
    (appends_then a b c (λ pc p. splat x.index.number x.value.number h ∷ []) (λ pc p. index_codes h (drop (i + 1) all)) [] [] one left)

-- ---- what is there

pub sweep_there : (on : Scope) (it : Sweep) (rs : List TRange) → 0 < length rs → Present on (sweeps_asks rs it) → Present on (sweep_asks it)
sweep_there on it [] some p = absurd (omega (arith, some))
sweep_there on it (r ∷ rs) some p =
    ((p.1.0.0.0, (p.1.0.1.0, p.1.0.1.1.0.0)), ((p.1.1.0.0.1.0, (p.1.1.0.0.1.1.0, (p.1.1.0.0.1.1.1.0, (p.1.1.0.0.1.1.1.1.1.0, p.1.1.0.0.1.1.1.1.1.1.0)))), (p.0.1.1.0, (p.0.1.1.1.0, p.0.1.1.1.1.1.1.0))))

pub last_there : (on : Scope) (it : Sweep) (r : TRange) (rs : List TRange) → Present on (sweeps_asks (r ∷ rs) it) → Present on (last_asks r.index it)
last_there on it r rs p = (p.1.1.0.0.0, (p.1.1.0.0.1.1.1.1.0, (p.0.1.0, (p.0.1.1.1.1.1.0, (p.1.1.0.0.1.1.1.1.1.1.1, p.1.1.1.0)))))

-- ---- numbers

pub ranges_count : (rs : List TypedRange) → length (ranges_of rs) ≡ length rs
ranges_count [] = refl
ranges_count (r ∷ rs) = ap suc (ranges_count rs)
