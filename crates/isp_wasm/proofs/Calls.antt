-- The template of a call: it traps where as many calls run as may; else the function that is called does what the machine's
-- call does, and the caller goes on with its result.
use Rattle.std.proofs.Common.{◌≡◌, ℕ, suc, ◌+◌, ◌-◌, ◌^◌, ◌<◌, ◌≤◌, ◌⊎◌, inl, inr, List, length, map, Option, Some, None, refl, sym, ap, ◌∙◌, subst, arith}
use Rattle.std.specs.Prelude.{slice_get, nat_lt, nat_eq, if◌then◌else◌}
use Rattle.std.proofs.lemmas.Bool.{cases_lt, lt-ltb, le-ltb}
use Rattle.isp_base.specs.Cross.{or_zero}
use Rattle.isp_base.specs.Depths.{most_calls}
use Rattle.isp_base.specs.Sets.{Mask, lowest}
use Rattle.isp_base.specs.Traps.{trap}
use Rattle.isp_base.specs.Types.{gang_width}
use Rattle.isp_base.specs.Values.{width}
use Rattle.isp_base.specs.Maps.{put}
use Rattle.isp_base.specs.declared.trap.Trap.{Trap}
use Rattle.isp_base.specs.declared.trap.TrapKind.TheVariants as kind
use Rattle.isp_code.specs.Calls as calls
use Rattle.isp_code.specs.Calls.{place_at, with_result, put_result, resumed, waits, entered, depth}
use Rattle.isp_code.specs.Conf.{Conf, Go, Fail}
use Rattle.isp_code.specs.Fine.{CallFine, IsGiven}
use Rattle.isp_code.specs.Listing.{Routine}
use Rattle.isp_code.specs.declared.function.Returns.{Returns}
use Rattle.isp_code.specs.declared.function.Returns.TheVariants.{Nothing, Scalar as GivesScalar, Vector as GivesVector}
use Rattle.isp_code.specs.declared.instr.Call.{Call}
use Rattle.isp_code.specs.declared.instr.Instr.TheVariants as instr
use Rattle.isp_code.specs.declared.register.Class.{Class}
use Rattle.isp_code.specs.declared.register.Class.TheVariants as class
use Rattle.isp_code.specs.declared.register.Register.{Register}
use Rattle.isp_wasm_meaning.specs.Syntax.{Then, Skip, Call as CallFunction}
use Rattle.isp_wasm_meaning.specs.Meaning.{Report, State, Result, Fell, Trapped, run, behind, then_to, back, flag, value, result_in, set_local, lane}
use Rattle.isp_wasm_meaning.specs.Ladder.{Meets, Falls}
use Rattle.isp_wasm_meaning.proofs.Ladders.{call_meets, meets_then}
use Rattle.isp_wasm.specs.Places as place
use Rattle.isp_wasm.specs.Places.{Setting, Counter, elem, shape, parts}
use Rattle.isp_wasm.specs.Templates.{called_number, arguments_of, scalar_result, result_local, vector_result, take_result, select_lanes, call_code, lowest_of}
use Rattle.isp_wasm.specs.Standing.{all_of, Stands, Holds, Keeps, AreLanes, IsSettled, scalar_register, vector_register, the_machine}
use Rattle.isp_wasm.specs.Agreement.{BringsTo, Brings, Back, CallsAgree}
use Rattle.isp_wasm.proofs.Frames.{holds_alike, holds_scalar, there, elsewhere}
use Rattle.isp_wasm.proofs.Results.{are_got, selects}
use Rattle.isp_wasm.proofs.Rows.{enough}
use Rattle.isp_wasm.proofs.MaskWords.{lowest_is}
use Rattle.isp_wasm.proofs.Steps.{machine_laws, step_is, fails_here}

-- the result of a call is a scalar or a vector
abbrev pub IsResult : Option Register → Type 0
IsResult None = Unit {0}
IsResult (Some d) = (d.class ≡ class.Scalar) ⊎ (d.class ≡ class.Vector)

result_class : (h : Routine) (r : Returns) (x : Option Register) → IsGiven h r x → IsResult x
result_class h r None is = tt
result_class h Nothing (Some x) is = absurd is
result_class h (GivesScalar t) (Some x) is = inl is.0.0
result_class h (GivesVector t) (Some x) is = inr is.0.0

module _ (w : Setting) (ready : IsSettled w) (last n k : ℕ) (call : ℕ → List ℕ → State → Result) (right : CallsAgree w last call) where
  abbrev pub Good : ℕ → Conf → Result → Type 0
  Good pc = Meets (the_machine w) (w.local Counter) n (suc last) (Stands w pc) (suc k)

  module _ (pc : ℕ) (c : Conf) (s : State) (st : Stands w pc c s) (x : Call) (has : slice_get w.routine.code pc ≡ Some (instr.Call x)) (fine : CallFine w.code w.routine x) where
    abbrev pub mask : Mask
    mask = c.masks x.mask.number

    -- ---- back

    abbrev pub came : Conf → Option Register → Option Register → Conf
    came conf d r = record (with_result conf d r mask (resumed conf (waits c x.result mask) c.waiting)) { out = conf.out }

    -- where the function has come back, and the result is still to be taken
    pub record Came (c1 : Conf) (t : State) : Type 0 where
      pub conf : Conf
      pub register : Option Register
      pub value : Option ℕ
      pub conf_is : c1 ≡ came conf x.result register
      pub locals_are : t.locals ≡ result_in (result_local w x.result) value s.locals
      pub brings : Brings w x.result register conf value t
      pub out_is : t.out ≡ conf.out
      pub keeps : Keeps w (all_of w (came conf None None)) t.memory t.size

    abbrev pub Again : Conf → Result → Type 0
    Again = Meets (the_machine w) (w.local Counter) n (suc last) (Stands w (pc + 1)) (suc k)

    -- nothing is done on the machine meanwhile
    here : (c1 : Conf) (t : State) → Stands w (pc + 1) c1 t → Again c1 (Fell t)
    here c1 t stands = record { conf = c1; steps = 0; goes = refl; stands = stands }

    scalar_taken : (conf : Conf) (t : State) (a : Class) (d r : Register) → a ≡ class.Scalar → t.locals ≡ (set_local (w.local (place.Scalar d.number)) (conf.scalars r.number) s).locals
        → conf.scalars r.number < 2 ^ width (elem w (scalar_register d.number)) → t.out ≡ conf.out → Keeps w (all_of w (came conf None None)) t.memory t.size
        → Stands w (pc + 1) (record (put_result a conf d r mask (resumed conf (waits c x.result mask) c.waiting)) { out = conf.out }) t
    scalar_taken conf t class.Scalar d r e locals fits out keeps =
        record {
          home_is = st.home_is;
          waiting_is = st.waiting_is;
          pc_is = ap (λ p. p + 1) st.pc_is;
          out_is = out;
          holds = subst (Holds w (put c.scalars d.number (conf.scalars r.number)) c.vectors c.masks) (sym locals)
              (holds_scalar w c.scalars c.vectors c.masks s.locals (set_local (w.local (place.Scalar d.number)) (conf.scalars r.number) s).locals d.number (conf.scalars r.number) st.holds fits
              (there w ready (place.Scalar d.number) (conf.scalars r.number) s) (λ p kept ne. elsewhere w ready (place.Scalar d.number) p (conf.scalars r.number) s ne));
          keeps = keeps;
        }
    scalar_taken conf t class.Vector d r e locals fits out keeps = absurd cc
    scalar_taken conf t class.Mask d r e locals fits out keeps = absurd cc
    scalar_taken conf t class.Array d r e locals fits out keeps = absurd cc

    vector_taken : (conf : Conf) (t : State) (d : ℕ) (r : Register) → t.locals ≡ s.locals → AreLanes w t.globals (vector_register d) (conf.vectors r.number) → t.out ≡ conf.out → Keeps w (all_of w (came conf None None)) t.memory t.size
        → Again (record (put_result class.Vector conf (vector_register d) r mask (resumed conf (waits c x.result mask) c.waiting)) { out = conf.out }) (run (suc last) call (vector_result w class.Vector (vector_register d) x.mask) t)
    vector_taken conf t d r locals lanes out keeps =
        let got = are_got w ready (suc last) call (parts w (shape w (vector_register d))) t in
        let u : State = record t { locals = got.locals } in
        let held = holds_alike w c.scalars c.vectors c.masks s.locals got.locals st.holds (λ p kept. got.others p kept ∙ ap (λ l. l (w.local p)) locals) in
        let select = selects w ready (suc last) call c d x.mask (conf.vectors r.number) u held
        (λ j i l q. ap (lane (shape w (vector_register d)) i) (got.got j (enough w (shape w (vector_register d)) j i q)) ∙ lanes j i l q) in
        let c1 = record (put_result class.Vector conf (vector_register d) r mask (resumed conf (waits c x.result mask) c.waiting)) { out = conf.out } in
        subst (Again c1) (sym (ap (λ z. then_to z (run (suc last) call (select_lanes w (vector_register d) x.mask))) got.fell ∙ select.fell))
        (here c1 (record u { locals = select.locals })
        (record { home_is = st.home_is; waiting_is = st.waiting_is; pc_is = ap (λ p. p + 1) st.pc_is; out_is = out; holds = select.holds; keeps = keeps }))

    -- by the class of the register that gets it
    by_class : (conf : Conf) (t : State) (a : Class) (d : ℕ) (r : Register) (v : Option ℕ) → (a ≡ class.Scalar) ⊎ (a ≡ class.Vector)
        → t.locals ≡ result_in (scalar_result w a (record { class = a; number = d })) v s.locals → BringsTo w a (record { class = a; number = d }) r conf v t → t.out ≡ conf.out → Keeps w (all_of w (came conf None None)) t.memory t.size
        → Again (record (put_result a conf (record { class = a; number = d }) r mask (resumed conf (waits c x.result mask) c.waiting)) { out = conf.out }) (run (suc last) call (vector_result w a (record { class = a; number = d }) x.mask) t)
    by_class conf t class.Vector d r v is locals brings out keeps = vector_taken conf t d r locals brings.1 out keeps
    by_class conf t class.Scalar d r v is locals brings out keeps =
        here (record (put_result class.Scalar conf (scalar_register d) r mask (resumed conf (waits c x.result mask) c.waiting)) { out = conf.out }) t
        (scalar_taken conf t class.Scalar (scalar_register d) r refl (locals ∙ ap (λ o. result_in (scalar_result w class.Scalar (scalar_register d)) o s.locals) brings.0) brings.1 out keeps)
    by_class conf t class.Mask d r v is locals brings out keeps = absurd (elim is [ inl e ↦ cc | inr e ↦ cc ])
    by_class conf t class.Array d r v is locals brings out keeps = absurd (elim is [ inl e ↦ cc | inr e ↦ cc ])

    taken : (conf : Conf) (t : State) (d r : Option Register) (v : Option ℕ) → IsResult d → t.locals ≡ result_in (result_local w d) v s.locals → Brings w d r conf v t → t.out ≡ conf.out → Keeps w (all_of w (came conf None None)) t.memory t.size
        → Again (came conf d r) (run (suc last) call (take_result w d x.mask) t)
    taken conf t None None v is locals brings out keeps =
        here (came conf None None) t
        (record { home_is = st.home_is; waiting_is = st.waiting_is; pc_is = ap (λ p. p + 1) st.pc_is; out_is = out; holds = subst (Holds w c.scalars c.vectors c.masks) (sym (locals ∙ nothing v)) st.holds; keeps = keeps })
      where
        nothing : (v : Option ℕ) → result_in None v s.locals ≡ s.locals
        nothing None = refl
        nothing (Some v) = refl
    taken conf t None (Some r) v is locals brings out keeps = absurd brings
    taken conf t (Some d) None v is locals brings out keeps = absurd brings
    taken conf t (Some d) (Some r) v is locals brings out keeps = by_class conf t d.class d.number r v is locals brings out keeps

    takes : (c1 : Conf) (t : State) → Came c1 t → Again c1 (run (suc last) call (take_result w x.result x.mask) t)
    takes c1 t b = subst (λ z. Again z (run (suc last) call (take_result w x.result x.mask) t)) (sym b.conf_is) (taken b.conf t x.result b.register b.value (result_class w.routine fine.callee.returns x.result fine.result) b.locals_are b.brings b.out_is b.keeps)

    goes_on : (v : Option ℕ) (t : State) → Back w x c (calls.called c x fine.callee) v t
        → Falls (the_machine w) (w.local Counter) n (suc last) Came (calls.called c x fine.callee) (record t { locals = result_in (result_local w x.result) v s.locals })
    goes_on v t b =
        record {
          conf = came b.conf x.result b.register;
          steps = b.steps;
          goes = b.goes;
          stands = record { conf = b.conf; register = b.register; value = v; conf_is = refl; locals_are = refl; brings = same_globals x.result b.register b.brings; out_is = b.out_is; keeps = b.keeps };
        }
      where
        locals : ℕ → ℕ
        locals = result_in (result_local w x.result) v s.locals

        same_class : (a : Class) (d r : Register) → BringsTo w a d r b.conf v t → BringsTo w a d r b.conf v (record t { locals = result_in (result_local w x.result) v s.locals })
        same_class class.Vector d r h = h
        same_class class.Scalar d r h = h
        same_class class.Mask d r h = h
        same_class class.Array d r h = h

        same_globals : (d r : Option Register) → Brings w d r b.conf v t → Brings w d r b.conf v (record t { locals = result_in (result_local w x.result) v s.locals })
        same_globals None None h = h
        same_globals None (Some r) h = h
        same_globals (Some d) None h = h
        same_globals (Some d) (Some r) h = same_class d.class d r h

    -- ---- there

    abbrev pub results : Result
    results = back (result_local w x.result) s (call (called_number w x) (map (value s.locals) (arguments_of w x)) s)

    abbrev pub told : Report
    told = record { kind = 3; start = (place_at w.code x.place).start; end = (place_at w.code x.place).end; instance = value s.locals (lowest_of w x.mask) }

    abbrev pub deep : Trap
    deep = trap kind.Depth (place_at w.code x.place) (or_zero (lowest (gang_width w.code.gang) mask))

    waiting_are : s.locals (w.local place.Depth) ≡ length c.waiting
    waiting_are = st.holds.depth ∙ sym (ap length st.waiting_is)

    code_is : run (suc last) call (call_code w x) s ≡ then_to (behind (if nat_eq (flag (nat_lt (length c.waiting) (most_calls - 1))) 0 then Trapped (Some told) s else Fell s)) (run (suc last) call (Then (CallFunction (called_number w x) (arguments_of w x) (result_local w x.result)) (take_result w x.result x.mask)))
    code_is = ap (λ v. then_to (behind (if nat_eq (flag (nat_lt v (most_calls - 1))) 0 then Trapped (Some told) s else Fell s)) (run (suc last) call (Then (CallFunction (called_number w x) (arguments_of w x) (result_local w x.result)) (take_result w x.result x.mask)))) waiting_are

    pub calls_fall : Good (pc + 1) c (run (suc last) call (call_code w x) s)
    calls_fall = by (cases_lt (depth c) most_calls)
      where
        by : (depth c < most_calls) ⊎ (most_calls ≤ depth c) → Good (pc + 1) c (run (suc last) call (call_code w x) s)
        by (inl lt) = subst (Good (pc + 1) c) (sym (code_is ∙ ap (λ b. then_to (behind (if nat_eq (flag b) 0 then Trapped (Some told) s else Fell s)) (run (suc last) call (Then (CallFunction (called_number w x) (arguments_of w x) (result_local w x.result)) (take_result w x.result x.mask)))) (lt-ltb (length c.waiting) (most_calls - 1) (omega (arith, lt)))))
            (meets_then (the_machine w) (machine_laws w) (w.local Counter) n (suc last) call (λ j. Skip) Came (Stands w (pc + 1)) (suc k) c results (run (suc last) call (take_result w x.result x.mask))
            (call_meets (the_machine w) (machine_laws w) (w.local Counter) n last (Back w x c) Came (suc k) 0 c (calls.called c x fine.callee) (result_local w x.result) s
            (call (called_number w x) (map (value s.locals) (arguments_of w x)) s)
            (step_is w ready pc c s (instr.Call x) (Go (calls.called c x fine.callee)) st has
            (ap (entered w.code c x) fine.found ∙ ap (λ b. if b then Go (calls.called c x fine.callee) else Fail deep) (lt-ltb (depth c) most_calls lt)))
            (right x pc c s has fine st lt) goes_on) takes)
        by (inr le) = subst (Good (pc + 1) c) (sym (code_is ∙ ap (λ b. then_to (behind (if nat_eq (flag b) 0 then Trapped (Some told) s else Fell s)) (run (suc last) call (Then (CallFunction (called_number w x) (arguments_of w x) (result_local w x.result)) (take_result w x.result x.mask)))) (le-ltb (length c.waiting) (most_calls - 1) (omega (arith, le)))))
            (fails_here w ready (suc last) n k pc c s (instr.Call x) st has deep s
            (ap (entered w.code c x) fine.found ∙ ap (λ b. if b then Go (calls.called c x fine.callee) else Fail deep) (le-ltb (depth c) most_calls le)) refl st.keeps told
            (ap (λ p. record { kind = 3; start = (place_at w.code x.place).start; end = (place_at w.code x.place).end; instance = p }) (lowest_is w c.scalars c.vectors c.masks s.locals st.holds x.mask)))
