-- `print` writes its text with the values in the places of its `%`, once all values are taken.
use Rattle.std.proofs.Common.{◌≡◌, ℕ, suc, ◌+◌, ◌*◌, ◌≤◌, List, [], ◌∷◌, ◌++◌, length, Some, Bool, true, false, refl, sym, ap, ◌∙◌, subst, arith, length-append, append_assoc, append-nil}
use Rattle.std.specs.List.{count_by}
use Rattle.std.specs.Prelude.{slice_get, cond, ◌==◌, if◌then◌else◌}
use Rattle.std.proofs.lemmas.List.Recursion.{is_count_by}
use Rattle.std.proofs.lemmas.Option.{get_or_from_slice_get}
use Rattle.isp_base.specs.Prints.{first_text, later_texts, list_text, percent, print_text, value_text}
use Rattle.isp_base.specs.Maps.{on}
use Rattle.isp_base.specs.Sets.{Mask}
use Rattle.isp_base.specs.declared.types.Elem.{Elem}
use Rattle.isp_base.specs.declared.types.Rate.{Rate}
use Rattle.isp_base.specs.declared.types.Rate.TheVariants.{Uniform, Varying}
use Rattle.isp_code.specs.Conf.{Conf, Say}
use Rattle.isp_code.specs.Lines.{act, next}
use Rattle.isp_code.specs.Machine.{arrive}
use Rattle.isp_code.specs.declared.instr.Instr.{Instr}
use Rattle.isp_code.specs.declared.instr.Instr.TheVariants as instr
use Rattle.isp_typed.specs.Typed.{TExpr, t_exprs, type_of}
use Rattle.isp_meaning.specs.Expressions.{values}
use Rattle.isp_meaning.specs.Outcomes.{Val, Gives, Fails, Stops, went_all, with_value}
use Rattle.isp_meaning.specs.Payloads.{Payload, sole, spread}
use Rattle.isp_meaning.specs.Printing.{shown_at, shown_all}
use Rattle.isp_meaning.specs.State.{State, tick}
use Rattle.isp_lower_code.specs.Callees.{later}
use Rattle.isp_lower_code.specs.Code.{value_registers, values_code}
use Rattle.isp_lower_code.specs.Found.{operand}
use Rattle.isp_lower_code.specs.Runs.{Comes}
use Rattle.isp_lower_code.specs.Setting.{Setting, IsSettled, gang_of, calls_of, AreAt, At, Holds}
use Rattle.isp_lower_code.specs.Tables.{IsTyped}
use Rattle.isp_lower_code.proofs.Lemmas.{AllHold, RunsLeaving, ValuesParts, are_front, are_back, comes_none, comes_on, step_is, count_of, enters_part, failed_less, operand_typed, stopped_less, values_leave}
use Rattle.isp_masks_code.specs.Prints.{Part, Words, Value, before, parts, words_of, print_texts, show, own_rates, parts_code, print_places, print_code}
use Rattle.isp_masks_code.specs.Spots.{Numbers, Spot}
use Rattle.isp_masks_code.specs.StmtRuns.{AreThree, EntersAt, StmtRuns}
use Rattle.isp_masks_code.proofs.Combine.{plain_ok}

-- ---- the parts of a text

-- what they write, with the values as they are printed
abbrev parts_text : List Part → List (List ℕ) → List ℕ
parts_text [] vs = []
parts_text (Words t ∷ ps) vs = t ++ parts_text ps vs
parts_text (Value ∷ ps) vs = first_text vs ++ parts_text ps (later_texts vs)

before_text : (b : ℕ) (ps : List Part) (vs : List (List ℕ)) → parts_text (before b ps) vs ≡ b ∷ parts_text ps vs
before_text b [] vs = refl
before_text b (Words t ∷ ps) vs = refl
before_text b (Value ∷ ps) vs = refl

text_is : (text : List ℕ) (vs : List (List ℕ)) → parts_text (parts text) vs ≡ print_text text vs
text_is [] vs = refl
text_is (b ∷ bs) vs = go (λ us. text_is bs us) (b == percent)
  where
    go : ((us : List (List ℕ)) → parts_text (parts bs) us ≡ print_text bs us) → (z : Bool) → parts_text (if z then Value ∷ parts bs else before b (parts bs)) vs ≡ (if z then first_text vs ++ print_text bs (later_texts vs) else b ∷ print_text bs vs)
    go ih true = ap (λ u. first_text vs ++ u) (ih (later_texts vs))
    go ih false = before_text b (parts bs) vs ∙ ap (λ u. b ∷ u) (ih vs)

-- ---- how many there are: the words between two values are one part

abbrev values_in : List Part → ℕ
values_in [] = 0
values_in (Words t ∷ ps) = values_in ps
values_in (Value ∷ ps) = suc (values_in ps)

abbrev begins : List Part → ℕ
begins [] = 0
begins (Words t ∷ ps) = 1
begins (Value ∷ ps) = 0

before_values : (b : ℕ) (ps : List Part) → values_in (before b ps) ≡ values_in ps
before_values b [] = refl
before_values b (Words t ∷ ps) = refl
before_values b (Value ∷ ps) = refl

begins_few : (ps : List Part) → begins ps ≤ 1
begins_few [] = omega arith
begins_few (Words t ∷ ps) = omega arith
begins_few (Value ∷ ps) = omega arith

before_few : (b : ℕ) (ps : List Part) → length (words_of ps) ≤ values_in ps + begins ps → length (words_of (before b ps)) ≤ values_in (before b ps) + begins (before b ps)
before_few b [] le = omega arith
before_few b (Words t ∷ ps) le = le
before_few b (Value ∷ ps) le = omega (arith, le)

words_few : (text : List ℕ) → length (words_of (parts text)) ≤ values_in (parts text) + begins (parts text)
words_few [] = omega arith
words_few (b ∷ bs) = go (words_few bs) (b == percent)
  where
    go : length (words_of (parts bs)) ≤ values_in (parts bs) + begins (parts bs) → (z : Bool)
        → length (words_of (if z then Value ∷ parts bs else before b (parts bs))) ≤ values_in (if z then Value ∷ parts bs else before b (parts bs)) +
        begins (if z then Value ∷ parts bs else before b (parts bs))
    go ih true = omega (arith, ih, begins_few (parts bs))
    go ih false = before_few b (parts bs) ih

values_counted : (text : List ℕ) → values_in (parts text) ≡ count_by (λ c. c == percent) text
values_counted text = is_count_by (λ bs. values_in (parts bs)) (λ c. c == percent) refl step text
  where
    by : (b : ℕ) (bs : List ℕ) (z : Bool) → values_in (if z then Value ∷ parts bs else before b (parts bs)) ≡ cond z (1 + values_in (parts bs)) (values_in (parts bs))
    by b bs true = omega arith
    by b bs false = before_values b (parts bs)

    step : (b : ℕ) (bs : List ℕ) → values_in (parts (b ∷ bs)) ≡ cond (b == percent) (1 + values_in (parts bs)) (values_in (parts bs))
    step b bs = by b bs (b == percent)

code_short : (ps : List Part) (rs : List Rate) (xs : List ℕ) (t k : ℕ) → length (parts_code ps rs xs t k) ≤ length (words_of ps) + values_in ps
code_short [] rs xs t k = omega arith
code_short (Words u ∷ ps) rs xs t k = omega (arith, code_short ps rs xs (t + 1) k)
code_short (Value ∷ ps) rs [] t k = omega (arith, code_short ps rs [] t k)
code_short (Value ∷ ps) rs (x ∷ xs) t k = omega (arith, code_short ps (later rs) xs t k)

exprs_count : (xs : List TExpr) → count_of (t_exprs xs) ≡ length xs
exprs_count [] = refl
exprs_count (x ∷ xs) = ap suc (exprs_count xs)

-- at most one word more than values, and so at most one part more than twice the values
pub words_counted : (text : List ℕ) (xs : List TExpr) → count_by (λ c. c == percent) text ≡ length xs → length (print_texts text) ≤ length xs + 1
words_counted text xs count = omega (arith, words_few text, begins_few (parts text), values_counted text, count)

pub parts_counted : (text : List ℕ) (xs : List TExpr) (rs : List Rate) (regs : List ℕ) (t k : ℕ) → count_by (λ c. c == percent) text ≡ length xs
    → length (parts_code (parts text) rs regs t k) ≤ 2 * length xs + 1
parts_counted text xs rs regs t k count = omega (arith, code_short (parts text) rs regs t k, words_counted text xs count, values_counted text, count)

-- ---- what the machine writes

-- values are held where registers are the same
hold_still : (rs : List Rate) (a : Mask) (xs : List ℕ) (ms : List Payload) (c : Conf) (out : List ℕ) → AllHold rs a xs ms c → AllHold rs a xs ms (record (next c) { out = out })
hold_still rs a [] [] c out h = tt
hold_still rs a [] (m ∷ ms) c out h = absurd h
hold_still rs a (x ∷ xs) [] c out h = absurd h
hold_still rs a (x ∷ xs) (m ∷ ms) c out h = (h.0, hold_still (later rs) a xs ms c out h.1)

module _ (w : Setting) (ready : IsSettled w) where
  -- after some instructions that write a text
  abbrev wrote : Conf → ℕ → List ℕ → Conf
  wrote c n text = record c { pc = c.pc + n; out = c.out ++ text }

  wrote_none : (c : Conf) → Comes w c 0 (wrote c 0 [])
  wrote_none c =
      let e : c.pc ≡ c.pc + 0 = omega arith in
      subst (λ n. Comes w c 0 (record c { pc = n; out = c.out ++ [] })) e (subst (λ u. Comes w c 0 (record c { out = u })) (sym (append-nil c.out)) (comes_none w c))

  say_comes : (c : Conf) (pc : ℕ) (i : Instr) (text : List ℕ) → At w c pc → slice_get w.routine.code pc ≡ Some i → act w.code w.routine c i ≡ Say text (next c) → Comes w c 1 (wrote c 1 text)
  say_comes c pc i text at has is = ap (λ m. arrive w.code m c) (step_is w c pc i ready at has ∙ is)

  -- one instruction, and then others
  wrote_on : (c : Conf) (n : ℕ) (text more : List ℕ) → Comes w c 1 (wrote c 1 text) → Comes w (wrote c 1 text) n (wrote (wrote c 1 text) n more) → Comes w c (suc n) (wrote c (suc n) (text ++ more))
  wrote_on c n text more h g =
      let e : c.pc + 1 + n ≡ c.pc + suc n = omega arith in
      subst (λ p. Comes w c (suc n) (record c { pc = p; out = c.out ++ (text ++ more) })) e
      (subst (λ u. Comes w c (suc n) (record c { pc = c.pc + 1 + n; out = u })) (append_assoc c.out text more)
      (let one : 1 + n ≡ suc n = omega arith in subst (λ m. Comes w c m (wrote (wrote c 1 text) n more)) one (comes_on w c (wrote c 1 text) (wrote (wrote c 1 text) n more) 1 n h g)))

  wrote_at : (c : Conf) (pc : ℕ) (text : List ℕ) → At w c pc → At w (wrote c 1 text) (pc + 1)
  wrote_at c pc text at = record { home_is = at.home_is; waiting_is = at.waiting_is; pc_is = ap (λ n. n + 1) at.pc_is }

  show_says : (r : Rate) (t : Elem) (x k : ℕ) (a : Mask) (m : Payload) (c : Conf) → IsTyped w r x t → Holds r a x m c → c.masks k ≡ a → act w.code w.routine c (show r x k) ≡ Say (shown_at r t (gang_of w) a m) (next c)
  show_says Uniform t x k a m c ty h em = ap (λ e. Say (value_text e (c.scalars x)) (next c)) ty ∙ ap (λ y. Say (value_text t (sole y)) (next c)) (sym h)
  show_says Varying t x k a m c ty h em =
      ap (λ e. Say (list_text e (gang_of w) (on (c.masks k) (c.vectors x))) (next c)) ty
      ∙ ap (λ b. Say (list_text t (gang_of w) (on b (c.vectors x))) (next c)) em
      ∙ ap (λ y. Say (list_text t (gang_of w) (spread a y)) (next c)) (sym h)

  parts_come : (ps : List Part) (xs : List TExpr) (ms : List Payload) (pc t k n : ℕ) (a : Mask) (c : Conf) → At w c pc
      → AreAt w.routine.code pc (parts_code ps (own_rates xs) (value_registers w.layout (own_rates xs) (t_exprs xs) n) t k)
      → AreAt w.code.texts t (words_of ps) → c.masks k ≡ a → AllHold (own_rates xs) a (value_registers w.layout (own_rates xs) (t_exprs xs) n) ms c
      → ValuesParts w (own_rates xs) (t_exprs xs) n → Comes w c
      (length (parts_code ps (own_rates xs) (value_registers w.layout (own_rates xs) (t_exprs xs) n) t k))
      (wrote c (length (parts_code ps (own_rates xs) (value_registers w.layout (own_rates xs) (t_exprs xs) n) t k))
      (parts_text ps (shown_all (gang_of w) a xs ms)))
  parts_come [] xs ms pc t k n a c at has texts em hold fit = wrote_none c
  parts_come (Words u ∷ ps) xs ms pc t k n a c at has texts em hold fit =
      let regs = value_registers w.layout (own_rates xs) (t_exprs xs) n in
      wrote_on c (length (parts_code ps (own_rates xs) regs (t + 1) k)) u (parts_text ps (shown_all (gang_of w) a xs ms))
      (say_comes c pc (instr.Say t) u at has.0 (ap (λ v. Say v (next c)) (get_or_from_slice_get w.code.texts t u _ texts.0)))
      (parts_come ps xs ms (pc + 1) (t + 1) k n a (wrote c 1 u) (wrote_at c pc u at) has.1 texts.1 em (hold_still (own_rates xs) a regs ms c (c.out ++ u) hold) fit)
  parts_come (Value ∷ ps) [] [] pc t k n a c at has texts em hold fit = parts_come ps [] [] pc t k n a c at has texts em hold fit
  parts_come (Value ∷ ps) [] (m ∷ ms) pc t k n a c at has texts em hold fit = absurd hold
  parts_come (Value ∷ ps) (x ∷ xs) [] pc t k n a c at has texts em hold fit = absurd hold
  parts_come (Value ∷ ps) (x ∷ xs) (m ∷ ms) pc t k n a c at has texts em hold fit =
      let r = (type_of x).rate in
      let regs = value_registers w.layout (own_rates xs) (t_exprs xs) (n + 1) in
      let u = shown_at r (type_of x).elem (gang_of w) a m in
      wrote_on c (length (parts_code ps (own_rates xs) regs t k)) u (parts_text ps (shown_all (gang_of w) a xs ms))
      (say_comes c pc (show r (operand w.layout r x n) k) u at has.0 (show_says r (type_of x).elem (operand w.layout r x n) k a m c (operand_typed w ready r (type_of x).elem x n fit.0 fit.1) hold.0 em))
      (parts_come ps xs ms (pc + 1) t k (n + 1) a (wrote c 1 u) (wrote_at c pc u at) has.1 texts em (hold_still (own_rates xs) a regs ms c (c.out ++ u) hold.1) fit.2)

  -- ---- the statement

  pub print_runs : (text : List ℕ) (xs : List TExpr) (pc : ℕ) (z : Numbers) (spot : Spot) (q : ℕ) (a : Mask) (s : State) (c : Conf)
      → count_by (λ c. c == percent) text ≡ length xs → ValuesParts w (own_rates xs) (t_exprs xs) spot.slot
      → AreAt w.routine.code pc (print_code w.layout text xs pc z.place z.text spot.on spot.slot)
      → AreAt w.code.places z.place (print_places w.layout xs) → AreAt w.code.texts z.text (print_texts text) → AreThree spot
      → EntersAt w pc spot a s c q → StmtRuns w w.turns c (pc + length (print_code w.layout text xs pc z.place z.text spot.on spot.slot)) spot q
      (with_value (values (gang_of w) w.frame (calls_of w) (t_exprs xs) a (tick s))
      (λ ms s1. went_all a (record s1 { out = s1.out ++ print_text text (shown_all (gang_of w) a xs ms) })))
  print_runs text xs pc z spot q a s c count fit has places texts three b =
      go (values (gang_of w) w.frame (calls_of w) (t_exprs xs) a (tick s))
      (values_leave w ready (t_exprs xs) rs pc z.place spot.on n (32 + q) a (tick s) c fit (are_front w.routine.code pc ca cb has) places (enters_part w ready pc spot.on n (32 + q) q a s c (omega arith) b))
    where
      n : ℕ
      n = spot.slot

      rs : List Rate
      rs = own_rates xs

      regs : List ℕ
      regs = value_registers w.layout (own_rates xs) (t_exprs xs) spot.slot

      ca : List Instr
      ca = values_code w.layout (own_rates xs) (t_exprs xs) pc z.place spot.on spot.slot

      cb : List Instr
      cb = parts_code (parts text) (own_rates xs) (value_registers w.layout (own_rates xs) (t_exprs xs) spot.slot) z.text spot.on

      to : pc + length ca + length cb ≡ pc + length (ca ++ cb)
      to = omega (arith, length-append ca cb)

      -- at most one part more than twice the values
      short : length cb ≤ 3 * count_of (t_exprs xs) + 32
      short = omega (arith, parts_counted text xs rs regs z.text spot.on count, exprs_count xs)

      go : (v : Val (List Payload)) → RunsLeaving w ready c (pc + length ca) n (3 * count_of (t_exprs xs)) (32 + q) (λ ms c'. AllHold rs a regs ms c')
          v → StmtRuns w w.turns c (pc + length (ca ++ cb)) spot q
          (with_value v (λ ms s1. went_all a (record s1 { out = s1.out ++ print_text text (shown_all (gang_of w) a xs ms) })))
      go (Gives ms s1) ok =
          let vs = shown_all (gang_of w) a xs ms in
          let c2 = wrote ok.conf (length cb) (parts_text (parts text) vs) in
          let come = parts_come (parts text) xs ms (pc + length ca) z.text spot.on n a ok.conf ok.at (are_back w.routine.code pc ca cb has) texts (ok.masks spot.on b.low ∙ b.mask) ok.holds fit in
          plain_ok w ready c c2 (ok.steps + length cb) (pc + length (ca ++ cb)) spot q a (record s1 { out = s1.out ++ print_text text vs })
          (comes_on w c ok.conf c2 ok.steps (length cb) ok.comes come)
          (record { home_is = ok.at.home_is; waiting_is = ok.at.waiting_is; pc_is = ap (λ i. i + length cb) ok.at.pc_is ∙ to })
          (record {
            uniforms = ok.stands.uniforms;
            varying = ok.stands.varying;
            result = ok.stands.result;
            results = ok.stands.results;
            own_arrays =
                ok.stands.own_arrays;
            arrays_are = ok.stands.arrays_are;
            out_is = ap (λ o. o ++ parts_text (parts text) vs) ok.stands.out_is
                ∙ ap (λ u. s1.out ++ u) (text_is text vs);
            run = ok.stands.run;
            known = ok.stands.known;
            constants = ok.stands.constants;
          })
          ok.spares ok.masks three b.mask (omega (arith, ok.bound, short))
      go (Fails t s1) r = failed_less w ready c 32 q t s1 r
      go (Stops s1) r = stopped_less w ready w.turns c 32 q s1 r
