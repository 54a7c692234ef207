-- Agreement in both directions, from what the code of a body does and from there being one run of the machine alone.
use Rattle.std.proofs.Common.{◌≡◌, ℕ, ◌+◌, ◌*◌, ◌<◌, ◌≤◌, List, [], ◌∷◌, length, Option, Some, None, true, false, refl, sym, ap, ◌∙◌, subst, arith, ⊎_elim}
use Rattle.std.specs.Prelude.{slice_get, nat_lt}
use Rattle.std.proofs.lemmas.Bool.{lt-ltb, ltb-true, cond-true, cases_lt}
use Rattle.isp_base.proofs.Gangs.{someone}
use Rattle.isp_base.specs.Arguments.{rows, rows_now, AreShort}
use Rattle.isp_base.specs.Binding.{has_signature}
use Rattle.isp_base.specs.Outcomes.{Outcome, Ends, Traps, GoesOn, IsOver, out_of}
use Rattle.isp_base.specs.Prefixes.{IsPrefix}
use Rattle.isp_base.specs.Sets.{Mask, nobody, everyone}
use Rattle.isp_base.specs.Types.{gang_width}
use Rattle.isp_base.specs.declared.signature.Argument.{Argument}
use Rattle.isp_base.specs.declared.types.Elem.{Elem}
use Rattle.isp_base.specs.declared.types.Gang.{Gang}
use Rattle.isp_base.specs.declared.types.Rate.{Rate}
use Rattle.isp_base.specs.declared.types.Rate.TheVariants.{Uniform, Varying}
use Rattle.isp_base.specs.declared.types.Ty.{Ty}
use Rattle.isp_base.specs.declared.types.Value.{Value}
use Rattle.isp_code.specs.Calls.{answer}
use Rattle.isp_code.specs.Conf as machine
use Rattle.isp_code.specs.Conf.{Conf}
use Rattle.isp_code.specs.Calls.{left}
use Rattle.isp_code.specs.Listing.{Listing, Routine}
use Rattle.isp_code.specs.Machine.{arrive, after, step, first_conf, outcome, outcome_after}
use Rattle.isp_code.specs.Registers.{elem_of}
use Rattle.isp_code.specs.declared.instr.Instr.{Instr}
use Rattle.isp_code.specs.declared.instr.Instr.TheVariants as instr
use Rattle.isp_typed.specs.Typed.{Program, TFunction}
use Rattle.isp_meaning.specs.Calls.{frame_of, begun, ended, answer_at, answer_of, called, calls_at}
use Rattle.isp_meaning.specs.Outcomes.{Val, Gives, Fails, Stops, Res, Went, Trapped, Cut}
use Rattle.isp_meaning.specs.Payloads.{Payload, One}
use Rattle.isp_meaning.specs.Runs.{handed, first_frame, first_state, meaning, gives_of, answer_as, outcome_of, run_of, state_of, work_of}
use Rattle.isp_meaning.specs.State.{State, below}
use Rattle.isp_meaning.specs.Statements.{block}
use Rattle.isp_meaning.proofs.Grown.{prefix_self}
use Rattle.isp_lower_code.specs.Layout.{Layout, register}
use Rattle.isp_lower_code.specs.Pieces.{two}
use Rattle.isp_lower_code.specs.Setting.{Setting, IsSettled}
use Rattle.isp_lower_code.proofs.Lemmas.{are_front, are_back, fixed_constant, none_fixed, none_known, put_same, step_is}
use Rattle.std.proofs.Math.Path.{fun_ext}
use Rattle.isp_code.proofs.Steps.{after-sum}
use Rattle.isp_masks_code.specs.Agreement.{RunsAgree}
use Rattle.isp_masks_code.specs.Compiled.{entry_state, entry_setting, ResultFits, IsCompiled, IsEntry, AreCompiled}
use Rattle.isp_masks_code.specs.Spots.{Numbers, first_spot}
use Rattle.isp_masks_code.specs.Statements.{block_code, returned}
use Rattle.isp_masks_code.specs.StmtRuns.{StmtRuns}
use Rattle.isp_masks_code.proofs.Arrays.{opened_same, sizes_same, entry_opens, arrays_fit}
use Rattle.isp_masks_code.proofs.Begins.{begins}
use Rattle.isp_masks_code.proofs.Calls.{calls_run}
use Rattle.isp_masks_code.proofs.Endings.{longer, one_end, grows, rows_same}
use Rattle.isp_masks_code.specs.Keeping.{constants_code}
use Rattle.isp_masks_code.proofs.ConstantBodies.{kept_body_runs}
use Rattle.isp_masks_code.proofs.ConstantsRun.{Bare}
use Rattle.isp_masks_code.proofs.Fitting.{block_parts}
use Rattle.isp_masks_code.specs.Free.{BlockFree}

all_inside : (n p : ℕ) → everyone n p ≡ true → p < n
all_inside n p h = ltb-true p n h

below_same : (n b : ℕ) (f : ℕ → ℕ → ℕ) → b < n → below n f b ≡ f b
below_same n b f lt = cond-true (nat_lt b n) (f b) (λ e. 0) (lt-ltb b n lt)

module _ (program : Program) (code : Listing) (all : AreCompiled program code) (f : ℕ) (h : TFunction) (g : Routine) (l : Layout) (z : Numbers)
    (is : IsCompiled program code f h g l z) (entry : IsEntry h g l) (xs : List Argument) (sig : has_signature h.parameters xs ≡ true)
    (short : AreShort xs) where
  abbrev world : ℕ → Setting
  world n = entry_setting program code f h g l n xs

  abbrev start : machine.State
  start = machine.Runs (first_conf code f g xs)

  opened_there : (n : ℕ) → (world n).home.opened ≡ (world n).frame.opened
  opened_there n = opened_same program code f h g l (λ a. a) [] (handed 0 xs) (first_frame xs) n 255 is.arrays (entry_opens program code f h g l n xs is.arrays sig short)

  sizes_there : (n : ℕ) → (world n).home.sizes ≡ (world n).frame.sizes
  sizes_there n = sizes_same program code f h g l (λ a. a) [] (handed 0 xs) (first_frame xs) n 255 is.arrays (entry_opens program code f h g l n xs is.arrays sig short)

  settled : (n : ℕ) → IsSettled (world n)
  settled n = record {
    gang = is.gang;
    found = is.found;
    apart = is.apart;
    rates = is.rates;
    deep = refl;
    answer = refl;
    opened = opened_there n;
    sizes = sizes_there n;
    arrays = arrays_fit program code f h g l n xs is.arrays sig short;
    counter = λ i e. let no : Some i ≡ None = sym e ∙ is.run in absurd (cc);
    known = λ v e. absurd (none_known l is.known v e);
    constants = is.kept_typed;
    rows = λ i n fine e. let no : true ≡ false = sym e ∙ is.rows i n in absurd (cc);
    sets = λ rs e. let no : true ≡ false = sym e ∙ is.sets rs in absurd (cc);
    calls = calls_run program code all 255 f h g l (λ a. a) [] (handed 0 xs) (first_frame xs) n is.found (opened_there n) (sizes_there n) refl;
  }

  -- what a run is, by how it stands: late where it was cut
  abbrev Late : ℕ → ℕ → Val Payload → Type 0
  Late n m (Gives x s) = Unit {0}
  Late n m (Fails t s) = Unit {0}
  Late n m (Stops s) = n ≤ m

  abbrev Follows : ℕ → Val Payload → Type 0
  Follows n v = (m : ℕ) × (m ≤ 32 * (state_of v).work + 32) × (outcome_after code f g xs m ≡ outcome_of h.gives xs v) × Late n m v

  -- what the function gives
  abbrev value_of : Elem → ℕ → Option Value
  value_of t b = Some (record { elem = t; bits = b })

  answer_is : (t : Option Ty) (gives : Option Elem) (a : Mask) (s : State) (c : Conf) → ResultFits g l t gives → c.scalars (l.result Uniform) ≡ s.result → answer g c (returned l t) ≡ answer_as gives (answer_of t a s)
  answer_is None gives a s c fit e = ap (λ z. answer_as z (answer_of None a s)) (sym fit)
  answer_is (Some t) gives a s c fit e = go t.rate fit.0
    where
      go : (r : Rate) → r ≡ Uniform → value_of (elem_of g (register r (l.result r))) (c.scalars (l.result r)) ≡ answer_as gives (answer_at r a s)
      go Uniform er = ap (λ z. value_of z (c.scalars (l.result Uniform))) fit.2 ∙ ap (value_of t.elem) e ∙ sym (ap (λ z. answer_as z (One s.result)) fit.1)
      go Varying er = absurd (cc)

  abbrev body : List Instr
  body = two 0 (constants_code l 3 is.constants) (λ pc1. block_code l h.answer h.body pc1 z first_spot)

  abbrev last : Instr
  last = instr.Return (returned l h.answer)

  abbrev everybody : Mask
  everybody = everyone (gang_width program.gang)

  follows_from : (n : ℕ) (v : Res) → StmtRuns (world n) n (first_conf code f g xs) (0 + length body) first_spot (1 + 0) v → Follows n (ended h.answer (first_frame xs) everybody (first_state xs) v)
  follows_from n (Went s g1 b ct rt) r =
      let c = r.conf in
      let pc = 0 + length body in
      let has : slice_get g.code pc ≡ Some last = (are_back g.code 0 body (last ∷ []) is.code_is).0 in
      let acts : step code c ≡ machine.Over (answer g c (returned l h.answer)) = step_is (world n) c pc last (settled n) r.at has ∙ ap (left g c (returned l h.answer)) r.at.waiting_is in
      let ends : after code (r.steps + 1) start ≡ machine.Ended (answer g c (returned l h.answer)) c =
      (let e : r.steps + 1 ≡ 1 + r.steps = omega arith in ap (λ k. after code k start) e) ∙ after-sum code 1 r.steps start ∙ ap (after code 1) r.comes ∙ ap (λ m. arrive code m c) acts in
      let arrays : rows_now (rows xs) c.arrays ≡ rows_now (rows xs) (below (length (rows xs)) s.arrays) =
      ap (rows_now (rows xs)) r.stands.arrays_are ∙ rows_same (rows xs) s.arrays (below (length (rows xs)) s.arrays) (λ b lt. sym (below_same (length (rows xs)) b s.arrays lt)) in (
        r.steps + 1,
        omega (arith, r.bound),
        ap (outcome (rows xs)) ends
            ∙ ap (λ z. Ends z (answer g c (returned l h.answer)) c.out) arrays
            ∙ ap (λ z. Ends (rows_now (rows xs) (below (length (rows xs)) s.arrays)) z c.out) (answer_is h.answer h.gives everybody s c entry.gives r.stands.result)
            ∙ ap (Ends (rows_now (rows xs) (below (length (rows xs)) s.arrays)) (answer_as h.gives (answer_of h.answer everybody s))) r.stands.out_is,
        tt,
      )
  follows_from n (Trapped t s) r =
      (r.steps, omega (arith, r.bound), ap (outcome (rows xs)) r.fails ∙ ap (λ z. Traps t (rows_now (rows xs) z) r.conf.out) r.arrays_are ∙ ap (Traps t (rows_now (rows xs) s.arrays)) r.out_is, tt)
  follows_from n (Cut s) r = (r.steps, omega (arith, r.bound), ap (outcome (rows xs)) r.goes ∙ ap GoesOn r.out_is, r.far)

  body_runs : (n : ℕ) → StmtRuns (world n) n (first_conf code f g xs) (0 + length body) first_spot (1 + 0)
      (block (gang_width program.gang) (frame_of h (handed 0 xs) (first_frame xs)) (calls_at program n 255) n h.body everybody
      (entry_state program h xs))
  body_runs n =
      let c = first_conf code f g xs in
      let begin = λ (u : Gang). begun h (handed 0 xs) (first_frame xs) (everyone (gang_width u)) (first_state xs) in
      subst (λ u. StmtRuns (world n) n c (0 + length body) first_spot (1 + 0) (block (gang_width u) (frame_of h (handed 0 xs) (first_frame xs)) (calls_at program n 255) n h.body (everyone (gang_width u)) (begin u))) is.gang
      (kept_body_runs (world n) (settled n) h.body is.constants 0 z 0 (everyone (gang_width code.gang)) (begin code.gang) c
      (block_parts (world n) h.body 3 (fixed_constant (world n) (settled n)) (record { fine = is.fine.body; rated = is.rated; named = is.named; free = subst (λ o. BlockFree o h.body) (sym (fun_ext (none_fixed l is.run is.known))) is.free }))
      is.keeps is.spares_typed (are_front g.code 0 body (last ∷ []) is.code_is) is.names (record { home_is = refl; waiting_is = refl; pc_is = refl }) (put_same (λ k. nobody) 0 (everyone (gang_width code.gang))) (someone code.gang)
      (λ p e. (all_inside (gang_width code.gang) p e, λ i. let no : true ≡ false = sym i ∙ is.outside in absurd (cc)))
      (subst (λ z. Bare (world n) (begin z) c) (sym is.gang) (begins program code f h g l n xs is.run is.known is.passed is.fine.params entry.one sig)) (λ t b p kept out. refl) (omega arith))

  follows : (n : ℕ) → Follows n (meaning program f n xs)
  follows n =
      subst (λ o. Follows n (called program n (calls_at program n 255) o everybody (handed 0 xs) (first_frame xs) (first_state xs))) (sym is.source)
      (follows_from n (block (gang_width program.gang) (frame_of h (handed 0 xs) (first_frame xs)) (calls_at program n 255) n h.body everybody (entry_state program h xs)) (body_runs n))

  -- ---- both directions

  run_is : (n : ℕ) → outcome_of h.gives xs (meaning program f n xs) ≡ run_of program f n xs
  run_is n = ap (λ o. outcome_of (gives_of o) xs (meaning program f n xs)) (sym is.source)

  -- the output so far is the beginning of that of a run that is over
  over_far : (m k : ℕ) (o : Outcome) → IsOver o → outcome_after code f g xs k ≡ o → IsPrefix (out_of (outcome_after code f g xs m)) (out_of o)
  over_far m k o over e =
      ⊎_elim
      (λ (lt : k < m). subst (λ z. IsPrefix (out_of z) (out_of o)) (sym (longer code (rows xs) k m start o (omega arith) over e)) (prefix_self (out_of o)))
      (λ (le : m ≤ k). subst (λ z. IsPrefix (out_of (outcome_after code f g xs m)) (out_of z)) e (grows code (rows xs) m k start le))
      (cases_lt k m)

  -- and of that of the run of as many turns as there were instructions
  far : (m : ℕ) (v : Val Payload) → Follows m v → IsPrefix (out_of (outcome_after code f g xs m)) (out_of (outcome_of h.gives xs v))
  far m (Gives x s) r = over_far m r.0 (outcome_of h.gives xs (Gives x s)) tt r.2
  far m (Fails t s) r = over_far m r.0 (Traps t (rows_now (rows xs) s.arrays) s.out) tt r.2
  far m (Stops s) r = subst (λ z. IsPrefix (out_of (outcome_after code f g xs m)) (out_of z)) r.2 (grows code (rows xs) m r.0 start r.3)

  -- the code's run is over after m instructions, so that of m turns is not cut
  over_too : (m : ℕ) (o : Outcome) (v : Val Payload) → IsOver o → outcome_after code f g xs m ≡ o → Follows m v → outcome_of h.gives xs v ≡ o
  over_too m o (Gives x s) over e r = one_end code (rows xs) r.0 m start (outcome_of h.gives xs (Gives x s)) o tt over r.2 e
  over_too m o (Fails t s) over e r = one_end code (rows xs) r.0 m start (Traps t (rows_now (rows xs) s.arrays) s.out) o tt over r.2 e
  over_too m o (Stops s) over e r =
      let same = longer code (rows xs) m r.0 start o r.3 over e in
      absurd (subst IsOver (sym same ∙ r.2) over)

  pub agrees : RunsAgree program code f g xs
  agrees = record {
    over = λ o x. let r = follows x.1.0 in (r.0, r.2 ∙ run_is x.1.0 ∙ x.1.1);
    over_only = λ m o over e. (over, (m, sym (run_is m) ∙ over_too m o (meaning program f m xs) over e (follows m)));
    goes_on = λ n out e. let r = follows n in (r.0, subst (λ z. IsPrefix out (out_of z)) (sym (r.2 ∙ run_is n ∙ e)) (prefix_self out));
    so_far = λ m. (m, subst (λ z. IsPrefix (out_of (outcome_after code f g xs m)) (out_of z)) (run_is m) (far m (meaning program f m xs) (follows m)));
    soon = λ n o over e. let r = follows n in longer code (rows xs) r.0 (32 * work_of program f n xs + 32) start o r.1 over (r.2 ∙ run_is n ∙ e);
    soon_goes_on = λ n out e.
        let r = follows n in
        subst (λ z. IsPrefix (out_of z) (out_of (outcome_after code f g xs (32 * work_of program f n xs + 32)))) (r.2 ∙ run_is n ∙ e) (grows code (rows xs) r.0 (32 * work_of program f n xs + 32) start r.1);
  }
