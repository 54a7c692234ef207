-- A run by forms that tables allow stays alike to the machine's.
use Rattle.std.proofs.Common.{◌≡◌, inl, inr, ℕ, zero, suc, ◌+◌, List, Some, None, Bool, true, false, refl, sym, ap, ◌∙◌, subst}
use Rattle.std.specs.Prelude.{◌<◌, slice_get, nat_eq, not, ◌&&◌, if◌then◌else◌}
use Rattle.std.proofs.lemmas.Bool.{and_parts, ltb-true}
use Rattle.isp_base.specs.Maps.{Lanes, Map, each2, map2, on, or_old, put}
use Rattle.isp_base.specs.Sets.{Mask}
use Rattle.isp_base.specs.Types.{gang_width}
use Rattle.isp_base.specs.Values.{op_bits}
use Rattle.isp_base.specs.declared.signature.Argument.{Argument}
use Rattle.isp_code.specs.Conf.{Conf, Move, Go, Say, Fail, Over, State, Runs, Trapped, Ended}
use Rattle.isp_code.specs.Lines.{act, next, plain_of, set_vector}
use Rattle.isp_code.specs.Listing.{Listing, Routine}
use Rattle.isp_code.specs.Machine.{advance, after, arrive, act_at, act_in, first_conf}
use Rattle.isp_code.specs.declared.instr.Instr.{Instr}
use Rattle.isp_code.specs.declared.instr.Instr.TheVariants as instr
use Rattle.isp_code.specs.declared.instr.Plain.{Plain}
use Rattle.isp_code.specs.declared.instr.VectorInstr.{VectorInstr}
use Rattle.isp_code.specs.declared.instr.VectorInstr.TheVariants as vector
use Rattle.isp_code.specs.declared.register.Register.{Register}
use Rattle.isp_code.specs.Registers.{elem_of}
use Rattle.isp_constants.specs.Amounts.{AmountsHold}
use Rattle.isp_forms.specs.Runs.{Forms, IsKnown, computed_by, forgotten, Forgets, Skips, Departs, IsStep, IsRun, AreHarmless}
use Rattle.isp_forms.specs.Writes.{mask_under, is_pure}
use Rattle.isp_forms.specs.declared.form.Form.{Form}
use Rattle.isp_forms.specs.declared.form.Form.TheVariants.{Kept, Free, Useless, KeptBy, FreeBy}
use Rattle.isp_lanes_read.specs.Free.{is_call, is_free, is_useless}
use Rattle.isp_lanes_read.specs.Laws.{MasksHold, RunsAgree, FreeWrites}
use Rattle.isp_lanes_read.specs.Reads.{mask_of, under}
use Rattle.isp_lanes_read.specs.Rows.{Row, Rows, row_at}
use Rattle.isp_lanes_read.specs.Standing.{Holds, Alike, StateHolds, StatesAlike}
use Rattle.isp_lanes_forms.specs.Allowed.{form_by, form_at, form_in, forms_of, IsAllowed, AreAllowed, FormsAreHarmless}
use Rattle.isp_lanes_forms.proofs.Alikes.{alike_by_lanes, holds_same, with_out, states_look, state_itself}

same_mask : (i : VectorInstr) → mask_of i ≡ mask_under i
same_mask (vector.Copy x k) = refl
same_mask (vector.Convert x k) = refl
same_mask (vector.Unary o x k) = refl
same_mask (vector.Binary o x y k) = refl
same_mask (vector.Compare o x y k) = refl
same_mask (vector.Select t x y k) = refl
same_mask (vector.Splat x k) = refl
same_mask (vector.Index k) = refl
same_mask (vector.Gather a i k q) = refl
same_mask (vector.LoadRun a i k q) = refl
same_mask (vector.Scan o x k) = refl
same_mask (vector.Exchange e x i k) = refl
same_mask (vector.Shuffle x i k) = refl
same_mask (vector.ShuffleTwo x y i k) = refl
same_mask (vector.Insert x i y k) = refl

-- the machine goes on
abbrev pub GoesOn : Move → Type 0
GoesOn (Go c) = Unit {0}
GoesOn m = ⊥

goes_to : (m : Move) → GoesOn m → (c : Conf) × (m ≡ Go c)
goes_to (Go c) g = (c, refl)
goes_to (Say t c) g = absurd g
goes_to (Fail t) g = absurd g
goes_to (Over x) g = absurd g

pure_goes : (code : Listing) (h : Routine) (c : Conf) (d : Register) (i : VectorInstr) → is_pure i ≡ true → GoesOn (act code h c (instr.Vector d i))
pure_goes code h c d (vector.Copy x k) e = tt
pure_goes code h c d (vector.Convert x k) e = tt
pure_goes code h c d (vector.Unary o x k) e = tt
pure_goes code h c d (vector.Binary o x y k) e = tt
pure_goes code h c d (vector.Compare o x y k) e = tt
pure_goes code h c d (vector.Select t x y k) e = tt
pure_goes code h c d (vector.Splat x k) e = tt
pure_goes code h c d (vector.Index k) e = tt
pure_goes code h c d (vector.Gather a i k q) e = absurd cc
pure_goes code h c d (vector.LoadRun a i k q) e = absurd cc
pure_goes code h c d (vector.Scan o x k) e = tt
pure_goes code h c d (vector.Exchange x y i k) e = tt
pure_goes code h c d (vector.Shuffle x i k) e = tt
pure_goes code h c d (vector.ShuffleTwo x y i k) e = tt
pure_goes code h c d (vector.Insert x i y k) e = tt

-- what an operator gives by the lanes of both operands
abbrev map2_of : Conf → Routine → Register → Plain → Register → Register → Register → Map
map2_of c h d o x y k = map2 (op_bits (plain_of o) (elem_of h d)) (on (c.masks k.number) (c.vectors x.number)) (on (c.masks k.number) (c.vectors y.number))

-- a lane where the operand is a number
lane_by : (f : ℕ → ℕ → ℕ) (b : Bool) (x y a old : ℕ) → (b ≡ true → y ≡ a)
    → or_old (each2 f (if b then Some x else None) (if b then Some y else None)) old ≡ or_old (each2 f (if b then Some x else None) (if b then Some a else None)) old
lane_by f true x y a old e = ap (f x) (e refl)
lane_by f false x y a old e = refl

-- vectors of which one is put, where its lanes are the same
put_alike : (m : ℕ → Lanes) (d v p : ℕ) (f g : Lanes) → f p ≡ g p → put m d f v p ≡ put m d g v p
put_alike m d v p f g e = by (nat_eq v d)
  where
    by : (b : Bool) → (if b then f else m v) p ≡ (if b then g else m v) p
    by true = e
    by false = refl

forgotten_alike : (m n : ℕ → Lanes) (d : ℕ) (set : Mask) (old : Lanes) (v p : ℕ) → m v p ≡ n v p → m d p ≡ n d p
    → put m d (λ q. if set q then m d q else old q) v p ≡ put n d (λ q. if set q then n d q else old q) v p
forgotten_alike m n d set old v p other own = by (nat_eq v d)
  where
    lane : (b : Bool) → (if b then m d p else old p) ≡ (if b then n d p else old p)
    lane true = own
    lane false = refl

    by : (b : Bool) → (if b then (λ q. if set q then m d q else old q) else m v) p ≡ (if b then (λ q. if set q then n d q else old q) else n v) p
    by true = lane (set p)
    by false = other

module _ (code : Listing) (rows : Rows) (masks : MasksHold code rows) (runs : RunsAgree code rows) (writes : FreeWrites code rows) (forms : Forms) (allowed : AreAllowed code rows forms) (amounts : AmountsHold code forms) where
  -- the step of an instruction that goes on
  advances : (c a : Conf) (h : Routine) (i : Instr) → slice_get code.routines c.home.fn ≡ Some h → slice_get h.code c.pc ≡ Some i → act code h c i ≡ Go a → advance code (Runs c) ≡ Runs (record a { out = c.out })
  advances c a h i found here goes = ap (λ m. arrive code m c) (ap (act_in code c) found ∙ ap (act_at code h c) here ∙ goes)

  forgets_alike : (c : Conf) (t : State) → Holds code rows c → Forgets code forms c t → StatesAlike code rows (advance code (Runs c)) t
  forgets_alike c t holds f =
      let i = instr.Vector f.vector f.what in
      let here = writes c holds f.routine f.before.found i f.before.here in
      let free = subst (IsAllowed (row_at rows c.home.fn c.pc) (row_at rows c.home.fn (c.pc + 1)) i) f.before.form_is (allowed c.home.fn f.routine c.pc f.vector f.what f.before.found f.before.here) in
      let alike = here.forgets (under (mask_of f.what) f.vector) refl refl free f.done f.goes f.old in
      let by : Alike code rows f.done (forgotten f.done f.vector.number (c.masks (mask_under f.what).number) f.old) =
      subst (λ k. Alike code rows f.done (forgotten f.done f.vector.number (c.masks k.number) f.old)) (same_mask f.what) alike in
      let o : Conf = forgotten f.done f.vector.number (c.masks (mask_under f.what).number) f.old in
      subst (λ s. StatesAlike code rows s t) (sym (advances c f.done f.routine i f.before.found f.before.here f.goes))
      (subst (StatesAlike code rows (Runs (record f.done { out = c.out }))) f.is (with_out code rows f.done o c.out by))

  skips_alike : (c : Conf) (t : State) → Holds code rows c → Skips code forms c t → StatesAlike code rows (advance code (Runs c)) t
  skips_alike c t holds f =
      let i = instr.Vector f.vector f.what in
      let here = writes c holds f.routine f.before.found i f.before.here in
      let useless = subst (IsAllowed (row_at rows c.home.fn c.pc) (row_at rows c.home.fn (c.pc + 1)) i) f.before.form_is (allowed c.home.fn f.routine c.pc f.vector f.what f.before.found f.before.here) in
      let a = goes_to (act code f.routine c i) (pure_goes code f.routine c f.vector f.what f.pure) in
      subst (λ s. StatesAlike code rows s t) (sym (advances c a.0 f.routine i f.before.found f.before.here a.1))
      (subst (StatesAlike code rows (Runs (record a.0 { out = c.out }))) f.is (with_out code rows a.0 (next c) c.out (here.skips useless a.0 a.1)))

  -- ---- an operand that is told as a number

  -- what the operator leaves, by the operand's own lanes and by the number
  module _ (c : Conf) (holds : Holds code rows c) (form : ℕ → Form) (k : IsKnown code forms form c) (has : (p : ℕ) → p < gang_width code.gang → c.vectors k.right.number p ≡ k.amount) where
    abbrev own : Conf
    own = set_vector c k.vector (map2_of c k.routine k.vector k.operator k.left k.right k.mask)

    abbrev taken : Conf
    taken = set_vector c k.vector (computed_by k.routine c k.vector k.operator k.left k.mask k.amount)

    amount_on : (p : ℕ) → c.masks k.mask.number p ≡ true → c.vectors k.right.number p ≡ k.amount
    amount_on p e = has p (ltb-true p (gang_width code.gang) (holds.inside k.mask.number p e))

    same_lanes : (v p : ℕ) → own.vectors v p ≡ taken.vectors v p
    same_lanes v p =
        put_alike c.vectors k.vector.number v p _ _
        (lane_by (op_bits (plain_of k.operator) (elem_of k.routine k.vector)) (c.masks k.mask.number p) (c.vectors k.left.number p) (c.vectors k.right.number p) k.amount (c.vectors k.vector.number p) (amount_on p))

    own_goes : advance code (Runs c) ≡ Runs (record own { out = c.out })
    own_goes = advances c own k.routine (instr.Vector k.vector (vector.Binary k.operator k.left k.right k.mask)) k.before.found k.before.here refl

    takes_alike : (t : State) → Runs (record taken { out = c.out }) ≡ t → StatesAlike code rows (advance code (Runs c)) t
    takes_alike t e =
        subst (λ s. StatesAlike code rows s t) (sym own_goes)
        (subst (StatesAlike code rows (Runs (record own { out = c.out }))) e (alike_by_lanes code rows (record own { out = c.out }) (record taken { out = c.out }) refl same_lanes))

    forgets_taken : (old : Lanes) (v p : ℕ) → (forgotten own k.vector.number (c.masks k.mask.number) old).vectors v p ≡ (forgotten taken k.vector.number (c.masks k.mask.number) old).vectors v p
    forgets_taken old v p = forgotten_alike own.vectors taken.vectors k.vector.number (c.masks k.mask.number) old v p (same_lanes v p) (same_lanes k.vector.number p)

    takes_free : (old : Lanes) (t : State) → is_free (row_at rows c.home.fn c.pc) (row_at rows c.home.fn (c.pc + 1)) (instr.Vector k.vector (vector.Binary k.operator k.left k.right k.mask)) ≡ true
        → Runs (record (forgotten taken k.vector.number (c.masks k.mask.number) old) { out = c.out }) ≡ t → StatesAlike code rows (advance code (Runs c)) t
    takes_free old t free e =
        let here = writes c holds k.routine k.before.found (instr.Vector k.vector (vector.Binary k.operator k.left k.right k.mask)) k.before.here in
        let first : Alike code rows own (forgotten own k.vector.number (c.masks k.mask.number) old) = here.forgets (under k.mask k.vector) refl refl free own refl old in
        let a : Conf = record (forgotten own k.vector.number (c.masks k.mask.number) old) { out = c.out } in
        let b : Conf = record (forgotten taken k.vector.number (c.masks k.mask.number) old) { out = c.out } in
        subst (λ s. StatesAlike code rows s t) (sym own_goes)
        (subst (StatesAlike code rows (Runs (record own { out = c.out }))) e
        (runs.joins (Runs (record own { out = c.out })) (Runs a) (Runs b) (with_out code rows own (forgotten own k.vector.number (c.masks k.mask.number) old) c.out first)
        (alike_by_lanes code rows a b refl (forgets_taken old))))

  -- ---- each step

  -- a run by forms came here
  abbrev IsReached : State → Type 0
  IsReached u = (f : ℕ) × (h : Routine) × (xs : List Argument) × (slice_get code.routines f ≡ Some h) × (m : ℕ) × IsRun code forms m (Runs (first_conf code f h xs)) u

  departs_alike : (z u t : State) → StateHolds code rows z → StatesAlike code rows z u → IsReached u → Departs code forms u t → StatesAlike code rows (advance code u) t
  departs_alike (Runs c) (Runs d) t holds alike at (inl f) = forgets_alike d t (holds_same code rows c d alike holds) f
  departs_alike (Runs c) (Runs d) t holds alike at (inr (inl f)) = skips_alike d t (holds_same code rows c d alike holds) f
  departs_alike (Runs c) (Runs d) t holds alike (f, h, xs, found, m, r) (inr (inr (inl g))) =
      takes_alike d (holds_same code rows c d alike holds) KeptBy g.at (amounts.kept f h xs found m d r g.at) t g.is
  departs_alike (Runs c) (Runs d) t holds alike (f, h, xs, found, m, r) (inr (inr (inr g))) =
      let row = row_at rows d.home.fn d.pc in
      let i = instr.Vector g.at.vector (vector.Binary g.at.operator g.at.left g.at.right g.at.mask) in
      let free = subst (IsAllowed row (row_at rows d.home.fn (d.pc + 1)) i) g.at.before.form_is (allowed d.home.fn g.at.routine d.pc g.at.vector (vector.Binary g.at.operator g.at.left g.at.right g.at.mask) g.at.before.found g.at.before.here) in
      takes_free d (holds_same code rows c d alike holds) FreeBy g.at (amounts.free f h xs found m d r g.at) g.old t free g.is
  departs_alike (Trapped x c) (Runs d) t holds alike at f = absurd alike
  departs_alike (Ended x c) (Runs d) t holds alike at f = absurd alike
  departs_alike z (Trapped y d) t holds alike at f = absurd f
  departs_alike z (Ended y d) t holds alike at f = absurd f

  step_alike : (z u t : State) → StateHolds code rows z → StatesAlike code rows z u → IsReached u → IsStep code forms u t → StatesAlike code rows (advance code z) t
  step_alike z u t holds alike at (inl e) = subst (StatesAlike code rows (advance code z)) e (runs.steps z u holds alike)
  step_alike z u t holds alike at (inr f) = runs.joins (advance code z) (advance code u) t (runs.steps z u holds alike) (departs_alike z u t holds alike at f)

  run_alike : (f : ℕ) (h : Routine) (xs : List Argument) → slice_get code.routines f ≡ Some h → (m : ℕ) (t : State) → IsRun code forms m (Runs (first_conf code f h xs)) t
      → StatesAlike code rows (after code m (Runs (first_conf code f h xs))) t
  run_alike f h xs found zero t e = subst (StatesAlike code rows (Runs (first_conf code f h xs))) e (state_itself code rows (Runs (first_conf code f h xs)))
  run_alike f h xs found (suc m) t r =
      step_alike (after code m (Runs (first_conf code f h xs))) r.0 t (masks.always f h xs found m) (run_alike f h xs found m r.0 r.1) (f, h, xs, found, m, r.1) r.2

  harmless : (f : ℕ) (h : Routine) (xs : List Argument) → slice_get code.routines f ≡ Some h → AreHarmless code forms (first_conf code f h xs)
  harmless f h xs found m t r = states_look code rows (after code m (Runs (first_conf code f h xs))) t (run_alike f h xs found m t r)

-- ---- what tables tell

by_form : (P : Form → Type 0) (useless free : Bool) → (useless ≡ true → P Useless) → (free ≡ true → P Free) → P Kept → P (if useless then Useless else (if free then Free else Kept))
by_form P true free u f k = u refl
by_form P false true u f k = f refl
by_form P false false u f k = k

module _ (code : Listing) (rows : Rows) where
  -- what a row tells is allowed
  told_one : (row after : Row) (i : Instr) → IsAllowed row after i (form_by row after i)
  told_one row after i =
      by_form (IsAllowed row after i) (is_useless after i) (is_free row after i && not (is_call i)) (λ u. u) (λ free. (and_parts (is_free row after i) (not (is_call i)) free).0) tt

  form_is : (f : ℕ) (h : Routine) (pc : ℕ) (i : Instr) → slice_get code.routines f ≡ Some h → slice_get h.code pc ≡ Some i → forms_of code rows f pc ≡ form_by (row_at rows f pc) (row_at rows f (pc + 1)) i
  form_is f h pc i found here = ap (form_in (row_at rows f pc) (row_at rows f (pc + 1)) pc) found ∙ ap (form_at (row_at rows f pc) (row_at rows f (pc + 1))) here

  told : AreAllowed code rows (forms_of code rows)
  told f h pc d i found here =
      let row = row_at rows f pc in
      subst (IsAllowed row (row_at rows f (pc + 1)) (instr.Vector d i)) (sym (form_is f h pc (instr.Vector d i) found here)) (told_one row (row_at rows f (pc + 1)) (instr.Vector d i))

pub forms_are_harmless : FormsAreHarmless
forms_are_harmless = record { allowed = harmless; told = told }
