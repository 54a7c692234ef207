-- At each step of a run so many bytes are enough: no more calls wait than may, and none of a function that calls nothing.
use Rattle.std.proofs.Common.{◌≡◌, ℕ, zero, suc, ◌+◌, ◌*◌, ◌<◌, ◌≤◌, ◌⊎◌, inl, inr, List, [], ◌∷◌, length, Option, Some, None, Bool, true, false, refl, sym, ap, ◌∙◌, subst, arith}
use Rattle.std.specs.Prelude.{nat_lt, slice_get, Result, Ok, Err, if◌then◌else◌}
use Rattle.std.proofs.lemmas.Bool.{cases_lt, lt-ltb, le-ltb, ltb-true, cond-true, cond-false}
use Rattle.std.proofs.lemmas.Nat.{mul-le}
use Rattle.std.proofs.Math.Nat.{suc-mul}
use Rattle.isp_base.specs.Cross.{or_zero}
use Rattle.isp_base.specs.Depths.{most_calls}
use Rattle.isp_base.specs.Sets.{Mask, lowest}
use Rattle.isp_base.specs.Traps.{trap}
use Rattle.isp_base.specs.Types.{gang_width}
use Rattle.isp_base.specs.declared.operators.BinOp.{BinOp}
use Rattle.isp_base.specs.declared.signature.Argument.{Argument}
use Rattle.isp_base.specs.declared.trap.Trap.{Trap}
use Rattle.isp_base.specs.declared.trap.TrapKind.{TrapKind}
use Rattle.isp_base.specs.declared.trap.TrapKind.TheVariants as kind
use Rattle.isp_code.specs.Calls.{called, entered, left, resumed, with_result, put_result, depth, place_at}
use Rattle.isp_code.specs.Conf.{Home, Frame, Conf, Move, Go, Say, Fail, Over, State, Runs, Trapped, Ended}
use Rattle.isp_code.specs.Lines.{moved, unless as trap_unless, scalar_value, vector_value, set_scalar, set_vector, divided, scattered, cleared, next, act}
use Rattle.isp_code.specs.Listing.{Listing, Routine}
use Rattle.isp_code.specs.Machine.{step, act_in, act_at, arrive, advance, after, first_conf}
use Rattle.isp_code.specs.Registers.{is_per_lane}
use Rattle.isp_code.specs.declared.instr.Call.{Call}
use Rattle.isp_code.specs.declared.instr.Instr.{Instr}
use Rattle.isp_code.specs.declared.instr.Instr.TheVariants as instr
use Rattle.isp_code.specs.declared.register.Class.{Class}
use Rattle.isp_code.specs.declared.register.Class.TheVariants as class
use Rattle.isp_code.specs.declared.register.Register.{Register}
use Rattle.isp_wasm.specs.Room.{widest_bytes, RoomIsEnough}
use Rattle.isp_wasm.specs.Stack.{has_call, bytes_in, bytes_if, function_bytes, waiting_bytes, open_bytes}
use Rattle.isp_wasm.proofs.Plain.{calls_some}

-- ---- what holds of each configuration of a run

-- where only calls and returns change what it is about
module _ (code : Listing) (P : Home → List Frame → Type 0) where
  abbrev Holds : Move → Type 0
  Holds (Go c) = P c.home c.waiting
  Holds (Say text c) = P c.home c.waiting
  Holds (Fail t) = Unit {0}
  Holds (Over x) = Unit {0}

  abbrev HoldsAt : State → Type 0
  HoldsAt (Runs c) = P c.home c.waiting
  HoldsAt (Trapped t c) = Unit {0}
  HoldsAt (Ended x c) = Unit {0}

  moves : {A : Type 0} (r : Result A Trap) (go : A → Conf) → ((x : A) → P (go x).home (go x).waiting) → Holds (moved r go)
  moves (Ok x) go h = h x
  moves (Err t) go h = tt

  tests : (h : Routine) (c c1 : Conf) (o : Option ℕ) (kind : TrapKind) (q : ℕ) → P c1.home c1.waiting → Holds (moved (trap_unless code h c o kind q c1) (λ c2. c2))
  tests h c c1 None kind q p = p
  tests h c c1 (Some l) kind q p = tt

  divides : (h : Routine) (c : Conf) (k : Class) (o : BinOp) (d x y m : Register) (q : ℕ) → P c.home c.waiting → Holds (divided code h c k o d x y m q)
  divides h c class.Scalar o d x y m q p = moves _ (set_scalar c d) (λ v. p)
  divides h c class.Vector o d x y m q p = moves _ (set_vector c d) (λ v. p)
  divides h c class.Mask o d x y m q p = moves _ (set_scalar c d) (λ v. p)
  divides h c class.Array o d x y m q p = moves _ (set_scalar c d) (λ v. p)

  scatters : (h : Routine) (c : Conf) (b : Bool) (a i y k : Register) → P c.home c.waiting → P (scattered code h c b a i y k).home (scattered code h c b a i y k).waiting
  scatters h c true a i y k p = p
  scatters h c false a i y k p = p

  clears : (h : Routine) (c : Conf) (b : Bool) (a k : Register) → P c.home c.waiting → P (cleared code h c b a k).home (cleared code h c b a k).waiting
  clears h c true a k p = p
  clears h c false a k p = p

  module _ (calls : (h : Routine) (c : Conf) (k : Call) → slice_get code.routines c.home.fn ≡ Some h → slice_get h.code c.pc ≡ Some (instr.Call k) → P c.home c.waiting → Holds (entered code c k (slice_get code.routines k.function)))
      (returns : (h : Routine) (c : Conf) (x : Option Register) → P c.home c.waiting → Holds (left h c x c.waiting)) where
    acts : (h : Routine) (c : Conf) (i : Instr) → slice_get code.routines c.home.fn ≡ Some h → slice_get h.code c.pc ≡ Some i → P c.home c.waiting → Holds (act code h c i)
    acts h c (instr.Scalar d i) found has p = moves (scalar_value code h c d i) (set_scalar c d) (λ v. p)
    acts h c (instr.Vector d i) found has p = moves (vector_value code h c d i) (set_vector c d) (λ v. p)
    acts h c (instr.Mask d i) found has p = p
    acts h c (instr.Divide o d x y k q) found has p = divides h c d.class _ d x y k q p
    acts h c (instr.Store a i y k q) found has p = tests h c _ _ kind.Index q p
    acts h c (instr.Scatter a i y k q) found has p = tests h c _ _ kind.Index q (scatters h c (is_per_lane h a) a i y k p)
    acts h c (instr.StoreRun a i y k q) found has p = tests h c _ _ kind.Index q p
    acts h c (instr.PackedStore d a i y k q) found has p = tests h c _ _ kind.Index q p
    acts h c (instr.PackedLoad d a i y k q) found has p = tests h c _ _ kind.Index q p
    acts h c (instr.Clear a k) found has p = clears h c (is_per_lane h a) a k p
    acts h c (instr.Jump to) found has p = p
    acts h c (instr.JumpIf t x to) found has p = p
    acts h c (instr.Say t) found has p = p
    acts h c (instr.PrintScalar x) found has p = p
    acts h c (instr.PrintVector x k) found has p = p
    acts h c (instr.Fail x q) found has p = tests h c (next c) _ kind.Assert q p
    acts h c (instr.Call k) found has p = calls h c k found has p
    acts h c (instr.Return x) found has p = returns h c x p

    at_some : (h : Routine) (c : Conf) (o : Option Instr) → slice_get code.routines c.home.fn ≡ Some h → slice_get h.code c.pc ≡ o → P c.home c.waiting → Holds (act_at code h c o)
    at_some h c None found has p = tt
    at_some h c (Some i) found has p = acts h c i found has p

    in_some : (c : Conf) (o : Option Routine) → slice_get code.routines c.home.fn ≡ o → P c.home c.waiting → Holds (act_in code c o)
    in_some c None found p = tt
    in_some c (Some h) found p = at_some h c (slice_get h.code c.pc) found refl p

    arrives : (m : Move) (c : Conf) → Holds m → HoldsAt (arrive code m c)
    arrives (Go c1) c p = p
    arrives (Say text c1) c p = p
    arrives (Fail t) c p = tt
    arrives (Over x) c p = tt

    advances : (z : State) → HoldsAt z → HoldsAt (advance code z)
    advances (Runs c) p = arrives (step code c) c (in_some c (slice_get code.routines c.home.fn) refl p)
    advances (Trapped t c) p = tt
    advances (Ended x c) p = tt

    always : (m : ℕ) (z : State) → HoldsAt z → HoldsAt (after code m z)
    always zero z p = p
    always (suc m) z p = advances (after code m z) (always m z p)

-- ---- no more calls wait than may

abbrev Shallow : Home → List Frame → Type 0
Shallow home ws = suc (length ws) ≤ most_calls

put_keeps : (c : Conf) (k : Class) (d x : Register) (under : Mask) (b : Conf) → (put_result k c d x under b).waiting ≡ b.waiting
put_keeps c class.Scalar d x under b = refl
put_keeps c class.Vector d x under b = refl
put_keeps c class.Mask d x under b = refl
put_keeps c class.Array d x under b = refl

result_keeps : (c : Conf) (d x : Option Register) (under : Mask) (b : Conf) → (with_result c d x under b).waiting ≡ b.waiting
result_keeps c None None under b = refl
result_keeps c None (Some x) under b = refl
result_keeps c (Some d) None under b = refl
result_keeps c (Some d) (Some x) under b = put_keeps c d.class d x under b

returns_shallow : (code : Listing) (h : Routine) (c : Conf) (x : Option Register) (ws : List Frame) → suc (length ws) ≤ most_calls → Holds code Shallow (left h c x ws)
returns_shallow code h c x [] le = tt
returns_shallow code h c x (fr ∷ rest) le = subst (λ ws. suc (length ws) ≤ most_calls) (sym (result_keeps c fr.result x fr.under (resumed c fr rest))) (omega (arith, le))

calls_shallow : (code : Listing) (c : Conf) (k : Call) (o : Option Routine) → Holds code Shallow (entered code c k o)
calls_shallow code c k None = tt
calls_shallow code c k (Some g) = by (nat_lt (depth c) most_calls) refl
  where
    by : (b : Bool) → nat_lt (depth c) most_calls ≡ b → Holds code Shallow (if b then Go (called c k g) else Fail (trap kind.Depth (place_at code k.place) (or_zero (lowest (gang_width code.gang) (c.masks k.mask.number)))))
    by true e = let lt = ltb-true (depth c) most_calls e in omega (arith, lt)
    by false e = tt

-- ---- and none of a function that calls nothing

abbrev Alone : ℕ → Home → List Frame → Type 0
Alone f home ws = (home.fn ≡ f) × (ws ≡ [])

returns_alone : (code : Listing) (f : ℕ) (h : Routine) (c : Conf) (x : Option Register) (ws : List Frame) → ws ≡ [] → Holds code (Alone f) (left h c x ws)
returns_alone code f h c x [] e = tt
returns_alone code f h c x (fr ∷ rest) e = absurd cc

-- ---- bytes

widest_is : (lanes : ℕ) (hs : List Routine) (f : ℕ) → bytes_if lanes (slice_get hs f) ≤ widest_bytes lanes hs
widest_is lanes [] f = omega arith
widest_is lanes (h ∷ hs) f = by (cases_lt (bytes_in lanes h.locals) (widest_bytes lanes hs)) f (λ n. widest_is lanes hs n)
  where
    by : (bytes_in lanes h.locals < widest_bytes lanes hs) ⊎ (widest_bytes lanes hs ≤ bytes_in lanes h.locals) → (f : ℕ) → ((n : ℕ) → bytes_if lanes (slice_get hs n) ≤ widest_bytes lanes hs)
        → bytes_if lanes (slice_get (h ∷ hs) f) ≤ (if nat_lt (bytes_in lanes h.locals) (widest_bytes lanes hs) then widest_bytes lanes hs else bytes_in lanes h.locals)
    by (inl lt) f more =
        subst (λ n. bytes_if lanes (slice_get (h ∷ hs) f) ≤ n) (sym (cond-true (nat_lt (bytes_in lanes h.locals) (widest_bytes lanes hs)) (widest_bytes lanes hs) (bytes_in lanes h.locals) (lt-ltb (bytes_in lanes h.locals) (widest_bytes lanes hs) lt))) (one f)
      where
        one : (f : ℕ) → bytes_if lanes (slice_get (h ∷ hs) f) ≤ widest_bytes lanes hs
        one zero = omega (arith, lt)
        one (suc f) = more f
    by (inr le) f more =
        subst (λ n. bytes_if lanes (slice_get (h ∷ hs) f) ≤ n) (sym (cond-false (nat_lt (bytes_in lanes h.locals) (widest_bytes lanes hs)) (widest_bytes lanes hs) (bytes_in lanes h.locals) (le-ltb (bytes_in lanes h.locals) (widest_bytes lanes hs) le))) (one f)
      where
        one : (f : ℕ) → bytes_if lanes (slice_get (h ∷ hs) f) ≤ bytes_in lanes h.locals
        one zero = omega arith
        one (suc f) = let low = more f in omega (arith, low, le)

waiting_low : (code : Listing) (ws : List Frame) → waiting_bytes code ws ≤ length ws * widest_bytes (gang_width code.gang) code.routines
waiting_low code [] = omega arith
waiting_low code (fr ∷ rest) =
    let n = widest_bytes (gang_width code.gang) code.routines in
    let more = waiting_low code rest in
    let one = widest_is (gang_width code.gang) code.routines fr.home.fn in
    let split : suc (length rest) * n ≡ length rest * n + n = suc-mul (length rest) n in omega (arith, more, one, split)

enough_if : (code : Listing) (f : ℕ) (h : Routine) → slice_get code.routines f ≡ Some h → (xs : List Argument) (m : ℕ) (c : Conf) → after code m (Runs (first_conf code f h xs)) ≡ Runs c → (b : Bool) → has_call h ≡ b
    → open_bytes code c ≤ (if b then most_calls * widest_bytes (gang_width code.gang) code.routines else bytes_in (gang_width code.gang) h.locals)
enough_if code f h found xs m c e true calls =
    let n = widest_bytes (gang_width code.gang) code.routines in
    let shallow = always code Shallow (λ h c k found has p. calls_shallow code c k (slice_get code.routines k.function)) (λ h c x p. returns_shallow code h c x c.waiting p) m (Runs (first_conf code f h xs)) (omega arith) in
    let deep : suc (length c.waiting) ≤ most_calls = subst (HoldsAt code Shallow) e shallow in
    let waits = waiting_low code c.waiting in
    let one = widest_is (gang_width code.gang) code.routines c.home.fn in
    let split : suc (length c.waiting) * n ≡ length c.waiting * n + n = suc-mul (length c.waiting) n in
    let all : suc (length c.waiting) * n ≤ most_calls * n = mul-le (suc (length c.waiting)) n most_calls n deep (omega arith) in omega (arith, waits, one, split, all)
enough_if code f h found xs m c e false calls = low (subst (HoldsAt code (Alone f)) e alone)
  where
    none_called : (g : Routine) (c : Conf) (k : Call) → slice_get code.routines c.home.fn ≡ Some g → slice_get g.code c.pc ≡ Some (instr.Call k) → Alone f c.home c.waiting → Holds code (Alone f) (entered code c k (slice_get code.routines k.function))
    none_called g c k found_g has p =
        absurd
        (let same : Some g ≡ Some h = sym found_g ∙ ap (slice_get code.routines) p.0 ∙ found in
        let is : g ≡ h = cc in
        let impossible : true ≡ false = sym (calls_some g c.pc k has) ∙ ap has_call is ∙ calls in cc)

    alone : HoldsAt code (Alone f) (after code m (Runs (first_conf code f h xs)))
    alone = always code (Alone f) none_called (λ g c x p. returns_alone code f g c x c.waiting p.1) m (Runs (first_conf code f h xs)) (refl, refl)

    low : Alone f c.home c.waiting → open_bytes code c ≤ bytes_in (gang_width code.gang) h.locals
    low p =
        let waits : waiting_bytes code c.waiting ≡ 0 = ap (waiting_bytes code) p.1 in
        let own : function_bytes code c.home.fn ≡ bytes_in (gang_width code.gang) h.locals = ap (function_bytes code) p.0 ∙ ap (bytes_if (gang_width code.gang)) found in omega (arith, waits, own)

pub room_is_enough : RoomIsEnough
room_is_enough code f h found xs m c e = enough_if code f h found xs m c e (has_call h) refl
