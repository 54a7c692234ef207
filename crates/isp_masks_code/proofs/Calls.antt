-- Each call does what it means, by induction on the levels that are left: the callee's code does what its body means, where the
-- calls from there do, with a level less; with none left both sides trap.
use Rattle.std.proofs.Common.{◌≡◌, ℕ, zero, suc, ◌+◌, ◌<◌, List, [], ◌∷◌, length, Option, Some, None, true, false, refl, sym, ap, ◌∙◌, subst, arith}
use Rattle.std.specs.Prelude.{slice_get, nat_lt}
use Rattle.std.proofs.lemmas.Bool.{lt-ltb, le-ltb, cond-true, cond-false}
use Rattle.std.proofs.lemmas.Option.{slice_get_within}
use Rattle.isp_base.specs.Cross.{or_zero}
use Rattle.isp_base.specs.Maps.{on}
use Rattle.isp_base.specs.Sets.{Mask, nobody, lowest}
use Rattle.isp_base.specs.Stores.{below}
use Rattle.isp_base.specs.Traps.{trap}
use Rattle.isp_base.specs.Types.{gang_width}
use Rattle.isp_base.specs.declared.trap.Trap.{Trap}
use Rattle.isp_base.specs.declared.trap.TrapKind.TheVariants.{Depth}
use Rattle.isp_base.specs.declared.types.Rate.{Rate}
use Rattle.isp_base.specs.declared.types.Rate.TheVariants.{Uniform, Varying}
use Rattle.isp_base.specs.declared.types.Span.{Span}
use Rattle.isp_base.specs.declared.types.Ty.{Ty}
use Rattle.isp_code.specs.Calls as machine_calls
use Rattle.isp_code.specs.Calls.{new_home, waits, depth, called, entered, left, with_result, put_result, place_at}
use Rattle.isp_code.specs.Conf as machine
use Rattle.isp_code.specs.Conf.{Conf, Go}
use Rattle.isp_code.specs.Lines.{set_scalar, set_vector, next}
use Rattle.isp_code.specs.Listing.{Listing, Routine}
use Rattle.isp_code.specs.Machine.{step, arrive}
use Rattle.isp_code.specs.declared.instr.Call.{Call}
use Rattle.isp_code.specs.declared.instr.Instr.{Instr}
use Rattle.isp_code.specs.declared.instr.Instr.TheVariants as instr
use Rattle.isp_code.specs.declared.register.Class.{Class}
use Rattle.isp_code.specs.declared.register.Class.TheVariants as class
use Rattle.isp_code.specs.declared.register.Register.{Register}
use Rattle.isp_typed.specs.Fine.{params_of}
use Rattle.isp_typed.specs.Typed.{Program, TFunction}
use Rattle.isp_meaning.specs.Calls as meaning
use Rattle.isp_meaning.specs.Calls.{frame_of, answer_at, answer_of, ended, calls_at}
use Rattle.isp_meaning.specs.Expressions.{Passed}
use Rattle.isp_meaning.specs.Outcomes.{Res, Went, Trapped, Cut}
use Rattle.isp_meaning.specs.Payloads.{One, Each}
use Rattle.isp_meaning.specs.State.{State, Frame}
use Rattle.isp_meaning.specs.Statements.{block}
use Rattle.isp_lower_code.specs.Calls.{Takes, given_in, given_back, CallRuns}
use Rattle.isp_lower_code.specs.Layout.{Layout, class_at, register}
use Rattle.isp_lower_code.specs.Pieces.{two}
use Rattle.isp_lower_code.specs.Setting.{Setting, IsSettled, IsCalling, CallsRun}
use Rattle.isp_lower_code.specs.Steps.{ComesIn, FailedIn, StoppedIn}
use Rattle.isp_lower_code.proofs.Lemmas.{are_front, are_back, put_same, comes_on, step_by, step_is, failed_after, stopped_after, place_named, fixed_constant, none_fixed, none_known, none_holds, unknown_holds}
use Rattle.std.proofs.Math.Path.{fun_ext}
use Rattle.isp_masks_code.specs.Compiled.{call_setting, IsFunctionCode, AreCompiled}
use Rattle.isp_masks_code.specs.Spots.{first_spot}
use Rattle.isp_masks_code.specs.Statements.{block_code, returned}
use Rattle.isp_masks_code.specs.StmtRuns.{StmtRuns}
use Rattle.isp_masks_code.proofs.Arrays.{Opens, opened_same, sizes_same, fit_there}
use Rattle.isp_masks_code.proofs.Fitting.{block_parts}
use Rattle.isp_masks_code.proofs.Handing.{scalars_of, vectors_of, names_of, passes, opens}
use Rattle.isp_masks_code.proofs.Passing.{ones_begin, each_begin}
use Rattle.isp_masks_code.specs.Keeping.{constants_code}
use Rattle.isp_masks_code.proofs.ConstantBodies.{kept_body_runs}
use Rattle.isp_masks_code.proofs.ConstantsRun.{Bare}
use Rattle.isp_masks_code.specs.Free.{BlockFree}

is_there : {A : Type 0} (xs : List A) (k : ℕ) → k < length xs → (x : A) × (slice_get xs k ≡ Some x)
is_there [] k lt = absurd (omega arith)
is_there (x ∷ xs) zero lt = (x, refl)
is_there (x ∷ xs) (suc k) lt = is_there xs k (omega arith)

-- ---- what comes back

-- the machine's result is what the call gives
module _ (l : Layout) (c : Conf) (k : Mask) (s : State) (done : Conf) (one : done.scalars (l.result Uniform) ≡ s.result) (each : done.vectors (l.result Varying) ≡ s.results) where
  put_is : (r : Rate) (d : Register) (a : Mask) → k ≡ a → d.class ≡ class_at r → put_result d.class done d (register r (l.result r)) k (next c) ≡ given_in d.class d (answer_at r a s) c
  put_is Uniform d a em ec =
      ap (λ z. put_result z done d (register Uniform (l.result Uniform)) k (next c)) ec ∙ ap (λ z. set_scalar c d z) one ∙ ap (λ z. given_in z d (One s.result) c) (sym ec)
  put_is Varying d a em ec =
      ap (λ z. put_result z done d (register Varying (l.result Varying)) k (next c)) ec
      ∙ ap (λ z. set_vector c d (on z (done.vectors (l.result Varying)))) em ∙ ap (λ z. set_vector c d (on a z)) each
      ∙ ap (λ z. given_in z d (Each (on a s.results)) c) (sym ec)

  back_is : (t : Option Ty) (d : Option Register) (a : Mask) → k ≡ a → Takes t d → with_result done d (returned l t) k (next c) ≡ given_back d (answer_of t a s) c
  back_is None None a em takes = refl
  back_is None (Some d) a em takes = absurd takes
  back_is (Some t) None a em takes = absurd takes
  back_is (Some t) (Some d) a em takes = put_is t.rate d a em takes

module _ (program : Program) (code : Listing) (all : AreCompiled program code) where
  -- ---- a call that begins

  module _ (f : ℕ) (h : TFunction) (g : Routine) (l : Layout) (names : ℕ → ℕ) (waiting : List machine.Frame) (handed : List Passed) (caller : Frame) (turns : ℕ) (found : slice_get code.routines f ≡ Some g) where
    abbrev world : ℕ → Setting
    world n = call_setting program code f h g l names waiting handed caller turns n

    module _ (levels : ℕ) (opened : (world levels).home.opened ≡ (world levels).frame.opened)
        (sizes : (world levels).home.sizes ≡ (world levels).frame.sizes) (k : Call) (h1 : TFunction) (pc q : ℕ) (sp : Span) (a : Mask)
        (ps : List Passed) (s : State) (c : Conf) (is : IsCalling (world levels) k h1 pc q sp a ps s c) where
      abbrev frame : Frame
      frame = (world levels).frame

      -- the callee's routine
      routine : (g1 : Routine) × (slice_get code.routines k.function ≡ Some g1)
      routine = let lt = slice_get_within program.functions k.function h1 is.function in is_there code.routines k.function (omega (arith, lt, all.count))

      abbrev g1 : Routine
      g1 = routine.0

      compiled : IsFunctionCode program code k.function h1 g1
      compiled = all.each k.function h1 g1 is.function routine.1

      enters : step code c ≡ entered code c k (Some g1)
      enters = step_by (world levels) c pc (instr.Call k) found is.at is.here ∙ ap (entered code c k) routine.1

      -- ---- no level is left

      deep_trap : suc (length c.waiting) ≡ 256 → FailedIn code c q (trap Depth sp (or_zero (lowest (gang_width program.gang) a))) s
      deep_trap deep =
          let full : nat_lt (depth c) 256 ≡ false = le-ltb (depth c) 256 (omega (arith, deep)) in
          let at : step code c ≡ machine.Fail (trap Depth (place_at code k.place) (or_zero (lowest (gang_width code.gang) (c.masks k.mask.number)))) =
          enters ∙ cond-false (nat_lt (depth c) 256) (Go (called c k g1))
          (machine.Fail (trap Depth (place_at code k.place) (or_zero (lowest (gang_width code.gang) (c.masks k.mask.number))))) full in
          record {
            conf = c;
            steps = 1;
            fails = ap (λ m. arrive code m c) at
                ∙ ap (λ z. machine.Trapped (trap Depth z (or_zero (lowest (gang_width code.gang) (c.masks k.mask.number)))) c) (place_named code g1 c k.place sp is.place)
                ∙ ap (λ z. machine.Trapped (trap Depth sp (or_zero (lowest (gang_width code.gang) z))) c) is.mask
                ∙ ap (λ z. machine.Trapped (trap Depth sp (or_zero (lowest (gang_width z) a))) c) compiled.compiled.gang;
            arrays_are = is.arrays_are;
            out_is = is.out_is;
            bound = is.used;
          }

      -- ---- the callee's setting

      abbrev l1 : Layout
      l1 = compiled.layout

      abbrev begun_conf : Conf
      begun_conf = called c k g1

      abbrev waiting1 : List machine.Frame
      waiting1 = waits c k.result (c.masks k.mask.number) ∷ c.waiting

      abbrev inner : ℕ → Setting
      inner n = call_setting program code k.function h1 g1 l1 (names_of a c k.arguments) waiting1 ps frame turns n

      home_opened : c.home.opened ≡ frame.opened
      home_opened = ap (λ z. z.opened) is.at.home_is ∙ opened

      home_sizes : c.home.sizes ≡ frame.sizes
      home_sizes = ap (λ z. z.sizes) is.at.home_is ∙ sizes

      open_there : Opens h1 (names_of a c k.arguments) ps frame
      open_there = opens a c h1 g1 l1 ps k.arguments frame compiled.compiled.arrays compiled.compiled.fine.params is.hands home_opened home_sizes

      inner_opened : (n : ℕ) → (inner n).home.opened ≡ (inner n).frame.opened
      inner_opened n = opened_same program code k.function h1 g1 l1 (names_of a c k.arguments) waiting1 ps frame turns n compiled.compiled.arrays open_there

      inner_sizes : (n : ℕ) → (inner n).home.sizes ≡ (inner n).frame.sizes
      inner_sizes n = sizes_same program code k.function h1 g1 l1 (names_of a c k.arguments) waiting1 ps frame turns n compiled.compiled.arrays open_there

      inner_settled : (n : ℕ) → n + suc (length waiting1) ≡ 256 → CallsRun (inner n) → IsSettled (inner n)
      inner_settled n deep runs = record {
        gang = compiled.compiled.gang;
        found = routine.1;
        apart = compiled.compiled.apart;
        rates = compiled.compiled.rates;
        deep = deep;
        answer = refl;
        opened = inner_opened n;
        sizes = inner_sizes n;
        arrays = fit_there program code k.function h1 g1 l1 (names_of a c k.arguments) waiting1 ps frame turns n compiled.compiled.arrays open_there;
        calls = runs;
        counter = λ i e. let no : Some i ≡ None = sym e ∙ compiled.compiled.run in absurd (cc);
        known = λ v e. absurd (none_known l1 compiled.compiled.known v e);
        constants = compiled.compiled.kept_typed;
        rows = λ i m fine e. let no : true ≡ false = sym e ∙ compiled.compiled.rows i m in absurd (cc);
        sets = λ rs e. let no : true ≡ false = sym e ∙ compiled.compiled.sets rs in absurd (cc);
      }

      -- ---- the body

      abbrev body : List Instr
      body = two 0 (constants_code l1 3 compiled.compiled.constants) (λ pc1. block_code l1 h1.answer h1.body pc1 compiled.numbers first_spot)

      abbrev last : Instr
      last = instr.Return (returned l1 h1.answer)

      abbrev start : State
      start = meaning.begun h1 ps frame a s

      -- but for the constants that are kept
      begins : (n : ℕ) → Bare (inner n) start begun_conf
      begins n =
          let own = passes a c (params_of h1) ps k.arguments (c.masks k.mask.number) is.mask is.hands in
          record {
            uniforms = λ v is. ones_begin h1 l1 compiled.compiled.passed (scalars_of a c k.arguments) (vectors_of a c (c.masks k.mask.number) k.arguments) ps a own v;
            varying = each_begin h1 l1 compiled.compiled.passed (scalars_of a c k.arguments) (vectors_of a c (c.masks k.mask.number) k.arguments) ps a own;
            result = own.ones_end (l1.result Uniform) (compiled.compiled.passed.result Uniform);
            results = own.each_end (l1.result Varying) (compiled.compiled.passed.result Varying);
            own_arrays = λ v. refl;
            arrays_are = ap (λ z. below z c.arrays) home_opened ∙ ap (below frame.opened) is.arrays_are;
            out_is = is.out_is;
            run = none_holds l1.run (inner n).start (inner n).members (begun_conf.scalars (l1.place Uniform)) start.varying compiled.compiled.run;
            known = unknown_holds h1.variables l1 (inner n).members begun_conf.scalars start.varying compiled.compiled.known;
            constants = λ r t b e. absurd (cc);
          }

      -- the body leaves a step for the return
      body_runs : (n : ℕ) → IsSettled (inner n) → StmtRuns (inner n) turns begun_conf (0 + length body) first_spot (1 + (1 + q)) (block (gang_width program.gang) (frame_of h1 ps frame) (calls_at program turns n) turns h1.body a start)
      body_runs n settled =
          let own = passes a c (params_of h1) ps k.arguments (c.masks k.mask.number) is.mask is.hands in
          subst (λ z. StmtRuns (inner n) turns begun_conf (0 + length body) first_spot (1 + (1 + q)) (block (gang_width z) (frame_of h1 ps frame) (calls_at program turns n) turns h1.body a start)) compiled.compiled.gang
          (kept_body_runs (inner n) settled h1.body compiled.compiled.constants 0 compiled.numbers (1 + q) a start begun_conf
          (block_parts (inner n) h1.body 3 (fixed_constant (inner n) settled)
          (record {
            fine = compiled.compiled.fine.body;
            rated = compiled.compiled.rated;
            named = compiled.compiled.named;
            free = subst
                (λ o. BlockFree o h1.body) (sym (fun_ext (none_fixed l1 compiled.compiled.run compiled.compiled.known))) compiled.compiled.free;
          }))
          compiled.compiled.keeps compiled.compiled.spares_typed (are_front g1.code 0 body (last ∷ []) compiled.compiled.code_is) compiled.compiled.names
          (record { home_is = ap (λ z. new_home g1 k.function (names_of a c k.arguments) z c.home.opened) home_sizes ∙ ap (λ z. new_home g1 k.function (names_of a c k.arguments) frame.sizes z) home_opened; waiting_is = refl; pc_is = refl })
          (put_same (λ j. nobody) 0 (c.masks k.mask.number) ∙ is.mask) is.some (λ p e. (is.inside p e, λ i. let no : true ≡ false = sym i ∙ compiled.compiled.outside in absurd (cc))) (begins n)
          (λ t b p kept out. ap (λ (f : ℕ → ℕ). f p) (own.each_end (l1.constant Varying t b) (compiled.compiled.passed.constant Varying t b))) is.used)

      -- the first step
      enters_there : nat_lt (depth c) 256 ≡ true → ComesIn code c 1 begun_conf
      enters_there room =
          ap (λ m. arrive code m c) (enters ∙ cond-true (nat_lt (depth c) 256) (Go begun_conf) (machine.Fail (trap Depth (place_at code k.place) (or_zero (lowest (gang_width code.gang) (c.masks k.mask.number))))) room)

      -- the call, from what its body comes to
      ends : (n : ℕ) → IsSettled (inner n) → nat_lt (depth c) 256 ≡ true → (v : Res) → StmtRuns (inner n) turns begun_conf (0 + length body) first_spot (1 + (1 + q)) v → CallRuns code turns c k q (ended h1.answer frame a s v)
      ends n settled room (Went s1 went broke continued returned1) r =
          let c2 = r.conf in
          let fr = waits c k.result (c.masks k.mask.number) in
          let has : slice_get g1.code (0 + length body) ≡ Some last = (are_back g1.code 0 body (last ∷ []) compiled.compiled.code_is).0 in
          let here : Conf = record c { arrays = below c.home.opened c2.arrays; out = c2.out } in
          let there : Conf = record c { arrays = below frame.opened s1.arrays; out = s1.out } in
          let acts : step code c2 ≡ Go (with_result c2 k.result (returned l1 h1.answer) (c.masks k.mask.number)
          (machine_calls.resumed c2 fr c.waiting)) = step_is (inner n) c2 (0 + length body) last settled r.at has
          ∙ ap (left g1 c2 (returned l1 h1.answer)) r.at.waiting_is in
          let same : here ≡ there = ap (λ z. record c { arrays = below z c2.arrays; out = c2.out }) home_opened
          ∙ ap (λ z. record c { arrays = below frame.opened z; out = c2.out }) r.stands.arrays_are
          ∙ ap (λ z. record c { arrays = below frame.opened s1.arrays; out = z }) r.stands.out_is in
          let back : with_result c2 k.result (returned l1 h1.answer) (c.masks k.mask.number) (next here)
          ≡ given_back k.result (answer_of h1.answer a s1) here = back_is l1 here (c.masks k.mask.number) s1 c2 r.stands.result
          r.stands.results h1.answer k.result a is.mask is.result in
          let final : ComesIn code c2 1 (given_back k.result (answer_of h1.answer a s1) there) = ap (λ m. arrive code m c2) acts
          ∙ ap machine.Runs (kept_out h1.answer k.result c2 (c.masks k.mask.number) here is.result)
          ∙ ap machine.Runs (back ∙ ap (given_back k.result (answer_of h1.answer a s1)) same) in
          record {
            steps = 1 + (r.steps + 1);
            comes = comes_on (inner n) c begun_conf _ 1 (r.steps + 1) (enters_there room) (comes_on (inner n) begun_conf c2 _ r.steps 1 r.comes final);
            bound = omega (arith, r.bound);
          }
        where
          -- what is said stays as it is
          kept_out : (t : Option Ty) (d : Option Register) (c2 : Conf) (m : Mask) (here : Conf) → Takes t d → record (with_result c2 d (returned l1 t) m (next here)) { out = here.out } ≡ with_result c2 d (returned l1 t) m (next here)
          kept_out None None c2 m here takes = refl
          kept_out None (Some d) c2 m here takes = absurd takes
          kept_out (Some t) None c2 m here takes = absurd takes
          kept_out (Some t) (Some d) c2 m here takes = go d.class
            where
              go : (z : Class) → record (put_result z c2 d (register t.rate (l1.result t.rate)) m (next here)) { out = here.out } ≡ put_result z c2 d (register t.rate (l1.result t.rate)) m (next here)
              go class.Vector = refl
              go class.Scalar = refl
              go class.Mask = refl
              go class.Array = refl
      ends n settled room (Trapped t s1) r = failed_after (inner n) settled c begun_conf 1 q t s1 (enters_there room) (failed_by (inner n) begun_conf t s1 r)
        where
          failed_by : (w : Setting) (c1 : Conf) (t : Trap) (s1 : State) → FailedIn w.code c1 (1 + (1 + q)) t s1 → FailedIn w.code c1 (1 + q) t s1
          failed_by w c1 t s1 f = record { conf = f.conf; steps = f.steps; fails = f.fails; arrays_are = f.arrays_are; out_is = f.out_is; bound = omega (arith, f.bound) }
      ends n settled room (Cut s1) r = stopped_after (inner n) settled turns c begun_conf 1 q s1 (enters_there room) (stopped_by (inner n) begun_conf s1 r)
        where
          stopped_by : (w : Setting) (c1 : Conf) (s1 : State) → StoppedIn w.code turns c1 (1 + (1 + q)) s1 → StoppedIn w.code turns c1 (1 + q) s1
          stopped_by w c1 s1 f = record { conf = f.conf; steps = f.steps; far = f.far; goes = f.goes; out_is = f.out_is; bound = omega (arith, f.bound) }

  -- ---- the levels

  pub calls_run : (levels f : ℕ) (h : TFunction) (g : Routine) (l : Layout) (names : ℕ → ℕ) (waiting : List machine.Frame) (handed : List Passed)
      (caller : Frame) (turns : ℕ) → slice_get code.routines f ≡ Some g
      → (call_setting program code f h g l names waiting handed caller turns levels).home.opened
      ≡ (call_setting program code f h g l names waiting handed caller turns levels).frame.opened
      → (call_setting program code f h g l names waiting handed caller turns levels).home.sizes
      ≡ (call_setting program code f h g l names waiting handed caller turns levels).frame.sizes → levels + suc (length waiting) ≡ 256
      → CallsRun (call_setting program code f h g l names waiting handed caller turns levels)
  calls_run zero f h g l names waiting handed caller turns found opened sizes deep k h1 pc q sp a ps s c is =
      deep_trap f h g l names waiting handed caller turns found zero opened sizes k h1 pc q sp a ps s c is (ap (λ z. suc (length z)) is.at.waiting_is ∙ omega (arith, deep))
  calls_run (suc n) f h g l names waiting handed caller turns found opened sizes deep k h1 pc q sp a ps s c is =
      let long : length c.waiting ≡ length waiting = ap length is.at.waiting_is in
      let inner_deep : n + suc (suc (length c.waiting)) ≡ 256 = omega (arith, deep, long) in
      let room : nat_lt (depth c) 256 ≡ true = lt-ltb (depth c) 256 (omega (arith, deep, long)) in
      let there = routine f h g l names waiting handed caller turns found (suc n) opened sizes k h1 pc q sp a ps s c is in
      let own = compiled f h g l names waiting handed caller turns found (suc n) opened sizes k h1 pc q sp a ps s c is in
      let settled = inner_settled f h g l names waiting handed caller turns found (suc n) opened sizes k h1 pc q sp a ps s c is n inner_deep
      (calls_run n k.function h1 there.0 own.layout (names_of a c k.arguments) (waits c k.result (c.masks k.mask.number) ∷ c.waiting) ps
      (frame_of h handed caller) turns there.1 (inner_opened f h g l names waiting handed caller turns found (suc n) opened sizes k h1 pc q sp a
      ps s c is n) (inner_sizes f h g l names waiting handed caller turns found (suc n) opened sizes k h1 pc q sp a ps s c is n) inner_deep) in
      subst (λ o. CallRuns code turns c k q (meaning.called program turns (calls_at program turns n) o a ps (frame_of h handed caller) s)) (sym is.function)
      (ends f h g l names waiting handed caller turns found (suc n) opened sizes k h1 pc q sp a ps s c is n settled room
      (block (gang_width program.gang) (frame_of h1 ps (frame_of h handed caller)) (calls_at program turns n) turns h1.body a
      (meaning.begun h1 ps (frame_of h handed caller) a s))
      (body_runs f h g l names waiting handed caller turns found (suc n) opened sizes k h1 pc q sp a ps s c is n settled))
