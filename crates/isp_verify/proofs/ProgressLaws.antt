-- Accepted code goes on: each state of a run stands at an instruction, whose line applies.
use Rattle.std.proofs.Common.{◌≡◌, sym, ◌∙◌, ap, refl, subst, ℕ, zero, suc, ◌+◌, ◌-◌, ◌<◌, List, [], ◌∷◌, length, take, Option, Some, None, Bool, true, false, not, ◌==◌, ◌&&◌, ◌||◌, if◌then◌else◌, ltb-true, arith}
use Rattle.std.specs.Prelude.{nat_lt, slice_get, Result, Ok, Err}
use Rattle.std.specs.List.{list_any}
use Rattle.std.proofs.lemmas.Bool.{ltb-false}
use Rattle.std.proofs.lemmas.Option.{slice_get-get_or}
use Rattle.std.proofs.lemmas.Slice.Eq.{bytes_eq-Decides}
use Rattle.isp_base.specs.Cross.{or_zero}
use Rattle.isp_base.specs.Depths.{most_calls}
use Rattle.isp_base.specs.Traps.{trap}
use Rattle.isp_base.specs.Sets.{Mask, lowest}
use Rattle.isp_base.specs.declared.operators.BinOp.{BinOp}
use Rattle.isp_base.specs.declared.signature.Argument.{Argument}
use Rattle.isp_base.specs.declared.trap.Trap.{Trap}
use Rattle.isp_base.specs.declared.trap.TrapKind.{TrapKind}
use Rattle.isp_base.specs.declared.trap.TrapKind.TheVariants.{Index, Assert, Depth}
use Rattle.isp_base.specs.Types.{gang_width}
use Rattle.isp_code.specs.Calls.{called, entered, left, resumed, with_result, put_result, depth, place_at}
use Rattle.isp_code.specs.Conf.{Frame, Conf, Move, Go, Say, Fail, Over, State, Runs, Trapped, Ended}
use Rattle.isp_code.specs.Entries.{IsExport}
use Rattle.isp_code.specs.Fine.{AllFine, CallFine, CallsFine, GoesOn, LineApplies, CanGoOn}
use Rattle.isp_code.specs.Lines.{moved, unless as trap_unless, scalar_value, vector_value, set_scalar, set_vector, divided, scattered, cleared, jumps, next, act}
use Rattle.isp_code.specs.Listing.{Listing, Routine}
use Rattle.isp_code.specs.Machine.{step, act_in, act_at, arrive, advance, after, first_conf}
use Rattle.isp_code.specs.Operands.{operands}
use Rattle.isp_code.specs.Registers.{is_per_lane}
use Rattle.isp_code.specs.declared.instr.Call.{Call}
use Rattle.isp_code.specs.declared.instr.Instr.{Instr}
use Rattle.isp_code.specs.declared.instr.Instr.TheVariants as instr
use Rattle.isp_code.specs.declared.register.Class.{Class}
use Rattle.isp_code.specs.declared.register.Class.TheVariants as class
use Rattle.isp_code.specs.declared.register.Register.{Register}
use Rattle.isp_verify.specs.Faults.{is_function, names_differ, export_fits, header_fits, header_fault, stays, at_instruction, instr_fault, instrs_fault, last, last_fault, function_fault, functions_fault, code_fault}
use Rattle.isp_verify.specs.Progress.{NeverStuck}
use Rattle.isp_verify.specs.declared.fault.Rule.{Rule}
use Rattle.isp_verify.specs.declared.fault.Rule.TheVariants.{BadEntry, FallsOff}
use Rattle.isp_verify.proofs.FineLaws.{instr_fine}
use Rattle.isp_verify.proofs.Tests.{both_first, both_second, none_first, none_later, unless_none}

some_same : {A : Type 0} {x y : A} → Some x ≡ Some y → x ≡ y
some_same e = cc

pub none_at : (k n : ℕ) (r : Option Rule) → at_instruction k n r ≡ None → r ≡ None
none_at k n None e = refl
none_at k n (Some r) e = cc

-- no function has a fault
functions_fine : (code : Listing) (k : ℕ) (hs : List Routine) (j : ℕ) (h : Routine) → functions_fault code k hs ≡ None → slice_get hs j ≡ Some h → (q : ℕ) × (function_fault code q h ≡ None)
functions_fine code k [] j h e at = cc
functions_fine code k (x ∷ hs) zero h e at = (k, subst (λ z. function_fault code k z ≡ None) (some_same at) (none_first (function_fault code k x) (functions_fault code (suc k) hs) e))
functions_fine code k (x ∷ hs) (suc j) h e at = functions_fine code (suc k) hs j h (none_later (function_fault code k x) (functions_fault code (suc k) hs) e) at

pub instrs_fine : (code : Listing) (k : ℕ) (h : Routine) (n : ℕ) (is : List Instr) (j : ℕ) (i : Instr) → instrs_fault code k h n is ≡ None → slice_get is j ≡ Some i → instr_fault code h i ≡ None
instrs_fine code k h n [] j i e at = cc
instrs_fine code k h n (x ∷ is) zero i e at =
    subst (λ z. instr_fault code h z ≡ None) (some_same at) (none_at k n (instr_fault code h x) (none_first (at_instruction k n (instr_fault code h x)) (instrs_fault code k h (suc n) is) e))
instrs_fine code k h n (x ∷ is) (suc j) i e at = instrs_fine code k h (suc n) is j i (none_later (at_instruction k n (instr_fault code h x)) (instrs_fault code k h (suc n) is) e) at

-- what a function of accepted code has
record Fine (code : Listing) (h : Routine) : Type 0 where
  instrs : (pc : ℕ) (i : Instr) → slice_get h.code pc ≡ Some i → instr_fault code h i ≡ None
  ends : stays (slice_get h.code (last h)) ≡ true
  masks : 0 < h.masks
  export : export_fits h.exported h ≡ true

some_mask : (n : ℕ) → not (n == 0) ≡ true → 0 < n
some_mask zero e = cc
some_mask (suc n) e = omega arith

header_masks : (earlier : List Routine) (h : Routine) → header_fits earlier h ≡ true → 0 < h.masks
header_masks earlier h e =
    some_mask h.masks (both_second (export_fits h.exported h) (not (h.masks == 0)) (both_second (names_differ h.params) _ (both_second (not (list_any (is_function h.name) earlier)) _ e)))

header_export : (earlier : List Routine) (h : Routine) → header_fits earlier h ≡ true → export_fits h.exported h ≡ true
header_export earlier h e = both_first (export_fits h.exported h) (not (h.masks == 0)) (both_second (names_differ h.params) _ (both_second (not (list_any (is_function h.name) earlier)) _ e))

function_fine : (code : Listing) (f : ℕ) (h : Routine) → code_fault code ≡ None → slice_get code.routines f ≡ Some h → Fine code h
function_fine code f h e at =
    let found = functions_fine code 0 code.routines f h e at in
    let header = none_first (at_instruction found.0 0 (header_fault (take found.0 code.routines) h)) _ found.1 in
    let rest = none_later (at_instruction found.0 0 (header_fault (take found.0 code.routines) h)) _ found.1 in
    record {
      instrs = λ pc i there. instrs_fine code found.0 h 0 h.code pc i (none_first (instrs_fault code found.0 h 0 h.code) _ rest) there;
      ends = unless_none (stays (slice_get h.code (last h))) FallsOff (none_at found.0 (last h) (last_fault h) (none_later (instrs_fault code found.0 h 0 h.code) _ rest));
      masks = header_masks (take found.0 code.routines) h (unless_none (header_fits (take found.0 code.routines) h) BadEntry (none_at found.0 0 _ header));
      export = header_export (take found.0 code.routines) h (unless_none (header_fits (take found.0 code.routines) h) BadEntry (none_at found.0 0 _ header));
    }

-- there is an instruction, and control does not fall off the last
not_empty : (h : Routine) → stays (slice_get h.code (last h)) ≡ true → 0 < length h.code
not_empty h e = go h.code e
  where
    go : (is : List Instr) → stays (slice_get is (length is - 1)) ≡ true → 0 < length is
    go [] e = cc
    go (i ∷ is) e = omega arith

follows : (h : Routine) (pc : ℕ) (i : Instr) → stays (slice_get h.code (last h)) ≡ true → slice_get h.code pc ≡ Some i → pc < length h.code → stays (Some i) ≡ false → pc + 1 < length h.code
follows h pc i ends at low off = go (nat_lt (pc + 1) (length h.code)) refl
  where
    past : (length h.code - 1 ≡ pc) → ⊥
    past e = let f = sym (ap stays at ∙ off) ∙ ap (λ n. stays (slice_get h.code n)) (sym e) ∙ ends in cc

    go : (b : Bool) → nat_lt (pc + 1) (length h.code) ≡ b → pc + 1 < length h.code
    go true e = ltb-true (pc + 1) (length h.code) e
    go false e = absurd (past (omega (arith, low, ltb-false (pc + 1) (length h.code) e)))

goes_on : (h : Routine) (pc : ℕ) (i : Instr) → (stays (Some i) ≡ false → pc + 1 < length h.code) → GoesOn h pc i
goes_on h pc (instr.Scalar d i) e = e refl
goes_on h pc (instr.Vector d i) e = e refl
goes_on h pc (instr.Mask d i) e = e refl
goes_on h pc (instr.Divide o d x y k p) e = e refl
goes_on h pc (instr.Store a i y k p) e = e refl
goes_on h pc (instr.Scatter a i y k p) e = e refl
goes_on h pc (instr.StoreRun a i y k p) e = e refl
goes_on h pc (instr.PackedStore d a i y k p) e = e refl
goes_on h pc (instr.PackedLoad d a i y k p) e = e refl
goes_on h pc (instr.Clear a k) e = e refl
goes_on h pc (instr.Jump to) e = tt
goes_on h pc (instr.JumpIf t x to) e = e refl
goes_on h pc (instr.Say t) e = e refl
goes_on h pc (instr.PrintScalar x) e = e refl
goes_on h pc (instr.PrintVector x k) e = e refl
goes_on h pc (instr.Fail x p) e = e refl
goes_on h pc (instr.Call c) e = e refl
goes_on h pc (instr.Return x) e = tt

pub line_applies : (code : Listing) → code_fault code ≡ None → (fn pc : ℕ) (h : Routine) → slice_get code.routines fn ≡ Some h → pc < length h.code → LineApplies code fn pc
line_applies code none fn pc h found low = go (slice_get h.code pc) refl
  where
    fine : Fine code h
    fine = function_fine code fn h none found

    missing : slice_get h.code pc ≡ None → ⊥
    missing e = let f = sym (slice_get-get_or h.code pc (instr.Say 0) low) ∙ e in cc

    go : (o : Option Instr) → slice_get h.code pc ≡ o → LineApplies code fn pc
    go None e = absurd (missing e)
    go (Some i) e =
        let is = instr_fine code h i (fine.instrs pc i e) in
        record {
          routine = h;
          instruction = i;
          found = found;
          at = e;
          masks = fine.masks;
          operands_fine = is.0;
          calls_fine = is.1;
          goes_on = goes_on h pc i (follows h pc i fine.ends e low);
        }

-- an exported function is the only one of its name
pub function_at : (code : Listing) (k : ℕ) (hs : List Routine) (j : ℕ) (h : Routine) → functions_fault code k hs ≡ None → slice_get hs j ≡ Some h → function_fault code (k + j) h ≡ None
function_at code k [] j h e at = cc
function_at code k (x ∷ hs) zero h e at =
    let same : k ≡ k + 0 = omega arith in
    subst (λ q. function_fault code q h ≡ None) same (subst (λ z. function_fault code k z ≡ None) (some_same at) (none_first (function_fault code k x) (functions_fault code (suc k) hs) e))
function_at code k (x ∷ hs) (suc j) h e at =
    let same : suc k + j ≡ k + suc j = omega arith in
    subst (λ q. function_fault code q h ≡ None) same (function_at code (suc k) hs j h (none_later (function_fault code k x) (functions_fault code (suc k) hs) e) at)

any_before : (p : Routine → Bool) (hs : List Routine) (j q : ℕ) (h : Routine) → slice_get hs j ≡ Some h → j < q → p h ≡ true → list_any p (take q hs) ≡ true
any_before p hs j zero h at low e = absurd (omega (arith, low))
any_before p [] j (suc q) h at low e = cc
any_before p (x ∷ hs) zero (suc q) h at low e = ap (λ b. b || list_any p (take q hs)) (ap p (some_same at) ∙ e)
any_before p (x ∷ hs) (suc j) (suc q) h at low e = ap (λ b. p x || b) (any_before p hs j q h at (omega (arith, low)) e) ∙ either (p x)
  where
    either : (b : Bool) → (b || true) ≡ true
    either true = refl
    either false = refl

not_before : (code : Listing) (name : List ℕ) (f f1 : ℕ) (h h1 : Routine) → code_fault code ≡ None → IsExport code name f h → IsExport code name f1 h1 → f < f1 → ⊥
not_before code name f f1 h h1 none x x1 low =
    let number : 0 + f1 ≡ f1 = omega arith in
    let header = none_first (at_instruction f1 0 (header_fault (take f1 code.routines) h1)) _ (subst (λ q. function_fault code q h1 ≡ None) number (function_at code 0 code.routines f1 h1 none x1.found)) in
    let fits : header_fits (take f1 code.routines) h1 ≡ true = unless_none (header_fits (take f1 code.routines) h1) BadEntry (none_at f1 0 _ header) in
    let any = any_before (is_function h1.name) code.routines f f1 h x.found low ((bytes_eq-Decides h.name h1.name).1 (x.named ∙ sym x1.named)) in
    differs (list_any (is_function h1.name) (take f1 code.routines)) _ fits any
  where
    differs : (b c : Bool) → (not b && c) ≡ true → b ≡ true → ⊥
    differs true c e t = cc
    differs false c e t = cc

only_one : (code : Listing) → code_fault code ≡ None → (name : List ℕ) (f f1 : ℕ) (h h1 : Routine) → IsExport code name f h → IsExport code name f1 h1 → f ≡ f1
only_one code none name f f1 h h1 x x1 = by (nat_lt f f1) (nat_lt f1 f) refl refl
  where
    by : (b c : Bool) → nat_lt f f1 ≡ b → nat_lt f1 f ≡ c → f ≡ f1
    by true c e d = absurd (not_before code name f f1 h h1 none x x1 (ltb-true f f1 e))
    by false true e d = absurd (not_before code name f1 f h1 h none x1 x (ltb-true f1 f d))
    by false false e d = let a = ltb-false f f1 e in let b = ltb-false f1 f d in omega (arith, a, b)

-- control stands at an instruction of a function
record Stands (code : Listing) (fn pc : ℕ) : Type 0 where
  routine : Routine
  found : slice_get code.routines fn ≡ Some routine
  low : pc < length routine.code

abbrev AllStand : Listing → List Frame → Type 0
AllStand code [] = Unit {0}
AllStand code (fr ∷ frs) = Stands code fr.home.fn fr.pc × AllStand code frs

-- so do the calls that wait
abbrev IsSound : Listing → Conf → Type 0
IsSound code c = Stands code c.home.fn c.pc × AllStand code c.waiting

abbrev SoundMove : Listing → Move → Type 0
SoundMove code (Go c) = IsSound code c
SoundMove code (Say text c) = IsSound code c
SoundMove code (Fail t) = Unit {0}
SoundMove code (Over x) = Unit {0}

abbrev SoundState : Listing → State → Type 0
SoundState code (Runs c) = IsSound code c
SoundState code (Trapped t c) = Unit {0}
SoundState code (Ended x c) = Unit {0}

module _ (code : Listing) where
  moved_sound : {A : Type 0} (r : Result A Trap) (go : A → Conf) → ((x : A) → IsSound code (go x)) → SoundMove code (moved r go)
  moved_sound (Ok x) go sound = sound x
  moved_sound (Err t) go sound = tt

  checked_sound : (h : Routine) (c c1 : Conf) (o : Option ℕ) (kind : TrapKind) (q : ℕ) → IsSound code c1 → SoundMove code (moved (trap_unless code h c o kind q c1) (λ c2. c2))
  checked_sound h c c1 None kind q sound = sound
  checked_sound h c c1 (Some p) kind q sound = tt

  divided_sound : (h : Routine) (c : Conf) (k : Class) (o : BinOp) (d x y m : Register) (q : ℕ) → ((c1 : Conf) → c1.home ≡ c.home → c1.waiting ≡ c.waiting → c1.pc ≡ c.pc + 1 → IsSound code c1) → SoundMove code (divided code h c k o d x y m q)
  divided_sound h c class.Scalar o d x y m q sound = moved_sound _ (set_scalar c d) (λ v. sound (set_scalar c d v) refl refl refl)
  divided_sound h c class.Vector o d x y m q sound = moved_sound _ (set_vector c d) (λ v. sound (set_vector c d v) refl refl refl)
  divided_sound h c class.Mask o d x y m q sound = moved_sound _ (set_scalar c d) (λ v. sound (set_scalar c d v) refl refl refl)
  divided_sound h c class.Array o d x y m q sound = moved_sound _ (set_scalar c d) (λ v. sound (set_scalar c d v) refl refl refl)

  scattered_sound : (h : Routine) (c : Conf) (b : Bool) (a i y k : Register) → ((c1 : Conf) → c1.home ≡ c.home → c1.waiting ≡ c.waiting → c1.pc ≡ c.pc + 1 → IsSound code c1) → IsSound code (scattered code h c b a i y k)
  scattered_sound h c true a i y k sound = sound (scattered code h c true a i y k) refl refl refl
  scattered_sound h c false a i y k sound = sound (scattered code h c false a i y k) refl refl refl

  cleared_sound : (h : Routine) (c : Conf) (b : Bool) (a k : Register) → ((c1 : Conf) → c1.home ≡ c.home → c1.waiting ≡ c.waiting → c1.pc ≡ c.pc + 1 → IsSound code c1) → IsSound code (cleared code h c b a k)
  cleared_sound h c true a k sound = sound (cleared code h c true a k) refl refl refl
  cleared_sound h c false a k sound = sound (cleared code h c false a k) refl refl refl

  jump_stands : (fn : ℕ) (b : Bool) (to pc : ℕ) → Stands code fn to → Stands code fn pc → Stands code fn (if b then to else pc)
  jump_stands fn true to pc s t = s
  jump_stands fn false to pc s t = t

  put_sound : (c : Conf) (k : Class) (d x : Register) (under : Mask) (b : Conf) → IsSound code b → IsSound code (put_result k c d x under b)
  put_sound c class.Scalar d x under b sound = sound
  put_sound c class.Vector d x under b sound = sound
  put_sound c class.Mask d x under b sound = sound
  put_sound c class.Array d x under b sound = sound

  result_sound : (c : Conf) (d x : Option Register) (under : Mask) (b : Conf) → IsSound code b → IsSound code (with_result c d x under b)
  result_sound c None None under b sound = sound
  result_sound c None (Some x) under b sound = sound
  result_sound c (Some d) None under b sound = sound
  result_sound c (Some d) (Some x) under b sound = put_sound c d.class d x under b sound

  left_sound : (h : Routine) (c : Conf) (x : Option Register) (frs : List Frame) → AllStand code frs → SoundMove code (left h c x frs)
  left_sound h c x [] sound = tt
  left_sound h c x (fr ∷ frs) sound = result_sound c fr.result x fr.under (resumed c fr frs) sound

  called_sound : code_fault code ≡ None → (h : Routine) (c : Conf) (k : Call) → CallFine code h k → Stands code c.home.fn (c.pc + 1) → AllStand code c.waiting → SoundMove code (entered code c k (slice_get code.routines k.function))
  called_sound none h c k fine stands sound = subst (λ o. SoundMove code (entered code c k o)) (sym fine.found) (go (nat_lt (depth c) most_calls))
    where
      begins : Stands code k.function 0
      begins = record { routine = fine.callee; found = fine.found; low = not_empty fine.callee (function_fine code k.function fine.callee none fine.found).ends }

      go : (b : Bool) → SoundMove code (if b then Go (called c k fine.callee) else Fail (trap Depth (place_at code k.place) (or_zero (lowest (gang_width code.gang) (c.masks k.mask.number)))))
      go true = (begins, (stands, sound))
      go false = tt

  act_sound : code_fault code ≡ None → (h : Routine) (c : Conf) (i : Instr) → slice_get code.routines c.home.fn ≡ Some h → AllFine code h (operands i) → CallsFine code h i → GoesOn h c.pc i → AllStand code c.waiting → SoundMove code (act code h c i)
  act_sound none h c i found fine calls on sound = go i fine calls on
    where
      at : (pc : ℕ) → pc < length h.code → Stands code c.home.fn pc
      at pc low = record { routine = h; found = found; low = low }

      after_this : c.pc + 1 < length h.code → (c1 : Conf) → c1.home ≡ c.home → c1.waiting ≡ c.waiting → c1.pc ≡ c.pc + 1 → IsSound code c1
      after_this low c1 home waiting pc =
          (subst (λ z. Stands code z.fn c1.pc) (sym home) (subst (λ z. Stands code c.home.fn z) (sym pc) (at (c.pc + 1) low)), subst (AllStand code) (sym waiting) sound)

      go : (i : Instr) → AllFine code h (operands i) → CallsFine code h i → GoesOn h c.pc i → SoundMove code (act code h c i)
      go (instr.Scalar d i) fine calls on = moved_sound (scalar_value code h c d i) (set_scalar c d) (λ v. (at (c.pc + 1) on, sound))
      go (instr.Vector d i) fine calls on = moved_sound (vector_value code h c d i) (set_vector c d) (λ v. (at (c.pc + 1) on, sound))
      go (instr.Mask d i) fine calls on = (at (c.pc + 1) on, sound)
      go (instr.Divide o d x y k q) fine calls on = divided_sound h c d.class _ d x y k q (after_this on)
      go (instr.Store a i y k q) fine calls on = checked_sound h c _ _ Index q (at (c.pc + 1) on, sound)
      go (instr.Scatter a i y k q) fine calls on = checked_sound h c _ _ Index q (scattered_sound h c (is_per_lane h a) a i y k (after_this on))
      go (instr.StoreRun a i y k q) fine calls on = checked_sound h c _ _ Index q (at (c.pc + 1) on, sound)
      go (instr.PackedStore d a i y k q) fine calls on = checked_sound h c _ _ Index q (at (c.pc + 1) on, sound)
      go (instr.PackedLoad d a i y k q) fine calls on = checked_sound h c _ _ Index q (at (c.pc + 1) on, sound)
      go (instr.Clear a k) fine calls on = cleared_sound h c (is_per_lane h a) a k (after_this on)
      go (instr.Jump to) fine calls on = (at to fine.0, sound)
      go (instr.JumpIf t x to) fine calls on = (jump_stands c.home.fn (jumps code h c t x) to (c.pc + 1) (at to fine.1.0) (at (c.pc + 1) on), sound)
      go (instr.Say t) fine calls on = (at (c.pc + 1) on, sound)
      go (instr.PrintScalar x) fine calls on = (at (c.pc + 1) on, sound)
      go (instr.PrintVector x k) fine calls on = (at (c.pc + 1) on, sound)
      go (instr.Fail x q) fine calls on = checked_sound h c (next c) _ Assert q (at (c.pc + 1) on, sound)
      go (instr.Call k) fine calls on = called_sound none h c k calls (at (c.pc + 1) on) sound
      go (instr.Return x) fine calls on = left_sound h c x c.waiting sound

  arrive_sound : (m : Move) (c : Conf) → SoundMove code m → SoundState code (arrive code m c)
  arrive_sound (Go c1) c sound = sound
  arrive_sound (Say text c1) c sound = sound
  arrive_sound (Fail t) c sound = tt
  arrive_sound (Over x) c sound = tt

  applies : code_fault code ≡ None → (s : State) → SoundState code s → CanGoOn code s
  applies none (Runs c) sound = line_applies code none c.home.fn c.pc sound.0.routine sound.0.found sound.0.low
  applies none (Trapped t c) sound = tt
  applies none (Ended x c) sound = tt

  step_sound : code_fault code ≡ None → (c : Conf) → IsSound code c → SoundMove code (step code c)
  step_sound none c sound =
      let line = line_applies code none c.home.fn c.pc sound.0.routine sound.0.found sound.0.low in
      subst (λ o. SoundMove code (act_in code c o)) (sym line.found)
      (subst (λ o. SoundMove code (act_at code line.routine c o)) (sym line.at)
      (act_sound none line.routine c line.instruction line.found line.operands_fine line.calls_fine line.goes_on sound.1))

  advance_sound : code_fault code ≡ None → (s : State) → SoundState code s → SoundState code (advance code s)
  advance_sound none (Runs c) sound = arrive_sound (step code c) c (step_sound none c sound)
  advance_sound none (Trapped t c) sound = tt
  advance_sound none (Ended x c) sound = tt

  after_sound : code_fault code ≡ None → (m : ℕ) (s : State) → SoundState code s → SoundState code (after code m s)
  after_sound none zero s sound = sound
  after_sound none (suc m) s sound = advance_sound none (after code m s) (after_sound none m s sound)

  first_sound : code_fault code ≡ None → (f : ℕ) (h : Routine) (xs : List Argument) → slice_get code.routines f ≡ Some h → IsSound code (first_conf code f h xs)
  first_sound none f h xs found = (record { routine = h; found = found; low = not_empty h (function_fine code f h none found).ends }, tt)

  pub never_stuck : code_fault code ≡ None → NeverStuck code
  never_stuck none =
      record {
        once = only_one code none;
        begins = λ fn h found. not_empty h (function_fine code fn h none found).ends;
        exports = λ fn h found. (function_fine code fn h none found).export;
        lines = line_applies code none;
        runs = λ name xs f h entry m. applies none _ (after_sound none m (Runs (first_conf code f h xs)) (first_sound none f h xs entry.export.found));
      }
