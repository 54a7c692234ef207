-- The settings of bodies: of an `unmasked`, and of a `foreach`, whose last index may count the lanes of each run.
use Rattle.std.proofs.Common.{◌≡◌, ℕ, ◌+◌, ◌*◌, ◌<◌, ◌≤◌, List, [], ◌∷◌, length, Option, Some, None, Bool, true, false, refl, sym, ap, ◌∙◌, subst, arith}
use Rattle.std.specs.Prelude.{◌≢◌, slice_get}
use Rattle.isp_base.specs.Maps.{Lanes}
use Rattle.isp_base.specs.Sets.{Mask, any}
use Rattle.isp_base.specs.declared.types.Elem.{Elem}
use Rattle.isp_base.specs.declared.types.Elem.TheVariants.{I32}
use Rattle.isp_base.specs.declared.types.Rate.{Rate}
use Rattle.isp_base.specs.declared.types.Rate.TheVariants.{Uniform, Varying}
use Rattle.isp_code.specs.Conf.{Conf}
use Rattle.isp_code.specs.Listing.{Routine}
use Rattle.isp_code.specs.declared.instr.Instr.{Instr}
use Rattle.isp_typed.specs.Fine.{HoldsArray}
use Rattle.isp_typed.specs.Indices.{foreach_index}
use Rattle.isp_typed.specs.Typed.{TStmt, TRange}
use Rattle.isp_typed.specs.declared.variable.ArrayVariable.{ArrayVariable}
use Rattle.isp_typed.specs.declared.variable.Variable as variable
use Rattle.isp_meaning.specs.Outcomes.{Res, Went, Trapped, Cut}
use Rattle.isp_meaning.specs.State.{State}
use Rattle.isp_meaning.specs.Statements.{run}
use Rattle.isp_steady.specs.Indices.{indices_of, known_indices}
use Rattle.isp_lower_code.specs.Consecutive.{RunHolds}
use Rattle.isp_lower_code.specs.Asks.{Ask}
use Rattle.isp_lower_code.specs.Layout.{Layout, IsApart, NoneFixed, no_rows, outside, run_in, within}
use Rattle.isp_lower_code.specs.RowCode.{row_index_asks}
use Rattle.isp_lower_code.specs.RowLayout.{with_known}
use Rattle.isp_lower_code.specs.Rows.{Name, Variable, Result, Spare, Place, Fresh, Kept}
use Rattle.isp_lower_code.specs.Setting.{ArrayFitsAt, AreAt, At, IsCounter, IsSettled, KnownHold, Setting, Spares, Stands, calls_of, gang_of, is_constant}
use Rattle.isp_lower_code.specs.Tables.{AnyMask, IsLoadedIn, IsNamedIn, IsTyped, Table}
use Rattle.isp_lower_code.proofs.Lemmas.{all_grow, knows_nothing, no_run, none_holds, unknown_holds}
use Rattle.isp_masks_code.specs.Free.{last_index_of}
use Rattle.isp_masks_code.specs.Named.{AreNamed}
use Rattle.isp_masks_code.specs.Ranges.{RunBodies, narrow}
use Rattle.isp_masks_code.specs.Spots.{Numbers, Spot, body_spot}
use Rattle.isp_masks_code.specs.Statements.{body_layout, last_layout, layout_by, stmt_code, stmt_places, stmt_texts}
use Rattle.isp_masks_code.specs.StmtRuns.{EntersAt, StmtRuns}

-- the same call by another layout, with the members of a run and its place
abbrev pub with_layout : Setting → Layout → Mask → ℕ → Setting
with_layout w l m b = record w { layout = l; members = m; start = b }

-- which variable counts, and whether code is for members alone, is no matter to registers; rows are left behind
abbrev pub run_as : Layout → Option ℕ → Bool → Layout
run_as l o d = record l { run = o; in_run = d; is_row = no_rows }

-- a table is told of registers alone
pub named_same : (h : Routine) (l : Layout) (o : Option ℕ) (d : Bool) (r : Rate) (x : Name) (t : Elem) → IsNamedIn h l r x t → IsNamedIn h (run_as l o d) r x t
named_same h l o d r (Variable v) t f = f
named_same h l o d r Result t f = f
named_same h l o d r (Spare u j) t f = f
named_same h l o d r Place t f = f
named_same h l o d r (Fresh j) t f = f
named_same h l o d r (Kept u b) t f = f

pub asked_same : (h : Routine) (l : Layout) (vars : List variable.Variable) (o : Option ℕ) (d : Bool) (a : Ask) → Table h l vars a → Table h (run_as l o d) vars a
asked_same h l vars o d a f =
    all_grow (IsNamedIn h l) (IsNamedIn h (run_as l o d)) (HoldsArray vars) (HoldsArray vars) (HoldsArray vars) (HoldsArray vars) AnyMask AnyMask
    (IsLoadedIn l) (IsLoadedIn l) (named_same h l o d) (λ y g. g) (λ y g. g) (λ k g. g) (λ v g. g) a f

apart_same : (l : Layout) (o : Option ℕ) (d : Bool) → IsApart l → IsApart (run_as l o d)
apart_same l o d a = record {
  variables = a.variables;
  spares = a.spares;
  variable_spare = a.variable_spare;
  result_variable = a.result_variable;
  result_spare = a.result_spare;
  place_variable = a.place_variable;
  place_result = a.place_result;
  place_spare = a.place_spare;
  freshes = a.freshes;
  variable_fresh = a.variable_fresh;
  result_fresh = a.result_fresh;
  spare_fresh = a.spare_fresh;
  place_fresh = a.place_fresh;
  arrays = a.arrays;
  constants = a.constants;
  kept_variable = a.kept_variable;
  kept_result = a.kept_result;
  kept_spare = a.kept_spare;
  kept_place = a.kept_place;
  kept_fresh = a.kept_fresh;
}

module _ (w : Setting) (o : Option ℕ) (d : Bool) (m : Mask) (b : ℕ) where
  abbrev there : Setting
  there = with_layout w (run_as w.layout o d) m b

  array_same : (r : Rate) (y : ArrayVariable) → ArrayFitsAt w r y → ArrayFitsAt there r y
  array_same Uniform y f = f
  array_same Varying y f = f

  pub settled_same : IsSettled w → ((i : ℕ) → o ≡ Some i → IsCounter there i) → IsSettled there
  settled_same ready counter = record {
    gang = ready.gang;
    found = ready.found;
    apart = apart_same w.layout o d ready.apart;
    rates = ready.rates;
    deep = ready.deep;
    answer = ready.answer;
    opened = ready.opened;
    sizes = ready.sizes;
    arrays = λ y h. let f = ready.arrays y h in record { is = array_same y.ty.rate y f.is; below = f.below; few = f.few };
    calls = λ k g pc q sp a ps s c is. ready.calls k g pc q sp a ps s c
        (record {
          function = is.function;
          here = is.here;
          place = is.place;
          at = is.at;
          mask = is.mask;
          some = is.some;
          inside = is.inside;
          hands =
              is.hands;
          result = is.result;
          arrays_are = is.arrays_are;
          out_is = is.out_is;
          used = is.used;
        });
    counter = counter;
    known = λ v e. let k = ready.known v e in record { varying = k.varying; constant = k.constant; unloaded = k.unloaded };
    constants = ready.constants;
    rows = λ i n fine is. absurd (cc);
    sets = λ rs e. let s = ready.sets rs e in record { apart = s.apart; typed = s.typed; unloaded = s.unloaded; there = λ i n e1. asked_same w.routine w.layout w.function.variables o d (row_index_asks i n) (s.there i n e1) };
  }

  pub stands_there : (s : State) (c : Conf) → Stands w s c → RunHolds o b m (c.scalars (w.layout.place Uniform)) s.varying → KnownHold w.function.variables w.layout m c.scalars s.varying → Stands there s c
  stands_there s c st h known = record { uniforms = st.uniforms; varying = st.varying; result = st.result; results = st.results; own_arrays = st.own_arrays; arrays_are = st.arrays_are; out_is = st.out_is; run = h; known = known; constants = st.constants }

  -- what is so of the members here
  abbrev pub HeldHere : State → Conf → Type 0
  HeldHere s c = RunHolds w.layout.run w.start w.members (c.scalars (w.layout.place Uniform)) s.varying × KnownHold w.function.variables w.layout w.members c.scalars s.varying

  stands_back : (s : State) (c : Conf) → Stands there s c → HeldHere s c → Stands w s c
  stands_back s c st h = record { uniforms = st.uniforms; varying = st.varying; result = st.result; results = st.results; own_arrays = st.own_arrays; arrays_are = st.arrays_are; out_is = st.out_is; run = h.0; known = h.1; constants = st.constants }

  pub runs_back : (turns : ℕ) (c : Conf) (pc : ℕ) (spot : Spot) (q : ℕ) (v : Res)
      → ((s : State) (c1 : Conf) → Stands there s c1 → HeldHere s c1)
      → StmtRuns there turns c pc spot q v → StmtRuns w turns c pc spot q v
  runs_back turns c pc spot q (Went s g u ct rt) keep r = record {
    conf = r.conf;
    steps = r.steps;
    comes = r.comes;
    at = r.at;
    stands = stands_back s r.conf r.stands (keep s r.conf r.stands);
    spares =
        record {
          scalars_stay = r.spares.scalars_stay;
          vectors_stay = r.spares.vectors_stay;
          fresh_scalars = r.spares.fresh_scalars;
          fresh_vectors = r.spares.fresh_vectors;
          singles_stay = r.spares.singles_stay;
        };
    went = r.went;
    continued = r.continued;
    returned = r.returned;
    masks = r.masks;
    bound = r.bound;
  }
  runs_back turns c pc spot q (Trapped t s) keep r = r
  runs_back turns c pc spot q (Cut s) keep r = r

-- ---- the body of a `foreach`

-- the same call in the body of a `foreach` with index i, for a run whose members these are, and whose place has these bits
abbrev pub in_run : Setting → ℕ → Mask → ℕ → Setting
in_run w i m b = with_layout w (within w.layout i) m b

-- The members of a set have in a variable what the register of a slot holds. So have they in outer indices, but for one variable: it is told in
-- which slot is the value of which.
abbrev pub IsInSlot : Setting → Option ℕ → Mask → Lanes → Conf → Type 0
IsInSlot w None a x c = Unit {0}
IsInSlot w (Some j) a x c = (p : ℕ) → a p ≡ true → x p ≡ c.scalars (narrow w.layout j)

abbrev pub OutersAre : Setting → (ℕ → Option ℕ) → ℕ → Mask → State → Conf → Type 0
OutersAre w slots i a s c = (v : ℕ) → v ≢ i → IsInSlot w (slots v) a (s.varying v) c

-- what is so where it begins: the members are on, and where the index counts them, it does so from the place on; outer indices are so; and three
-- steps are set aside
pub record RunEnters (w : Setting) (i : ℕ) (slots : ℕ → Option ℕ) (pc h : ℕ) (a : Mask) (s : State) (c : Conf) (q : ℕ) : Type 0 where
  pub at : At w c pc
  pub mask : c.masks h ≡ a
  pub some : any (gang_of w) a ≡ true
  pub inside : (p : ℕ) → a p ≡ true → p < gang_of w
  pub stands : Stands w s c
  pub used : 3 + q ≤ 32 * s.work
  pub outers : OutersAre w slots i a s c
  pub counts : RunHolds (within w.layout i).run (c.scalars (w.layout.place Uniform)) a (c.scalars (w.layout.place Uniform)) s.varying

abbrev pub RunBodyRuns : Setting → ℕ → (ℕ → Option ℕ) → ℕ → (ℕ → List Instr) → (Mask → State → Res) → Type 0
RunBodyRuns w i slots h code v =
    (a : Mask) (s : State) (c : Conf) (pc q : ℕ) → AreAt w.routine.code pc (code pc) → RunEnters w i slots pc h a s c q → StmtRuns (in_run w i a (c.scalars (w.layout.place Uniform))) w.turns c (pc + length (code pc)) (body_spot h) q (v a s)

-- of the two codes of a body, and that all go on from it where it is said so
pub record BodiesRun (w : Setting) (i : ℕ) (slots : ℕ → Option ℕ) (h : ℕ) (b : RunBodies) (v : Mask → State → Res) : Type 0 where
  pub full : RunBodyRuns w i slots h b.full v
  pub rest : RunBodyRuns w i slots h b.rest v
  pub whole : b.kept ≡ true → (a g u ct rt : Mask) (s s1 : State) → v a s ≡ Went s1 g u ct rt → g ≡ a

-- its layout but for what is known: that of the last index
pub last_is : (l : Layout) (rs : List TRange) (i : ℕ) → last_index_of rs ≡ Some i → last_layout l rs ≡ within l i
last_is l [] i e = absurd (cc)
last_is l (r ∷ []) i e = let same : r.index ≡ i = cc in ap (within l) same
last_is l (r ∷ q ∷ rs) i e = last_is l (q ∷ rs) i e

within_as : (Q : Layout → Type 0) (l : Layout) (i : ℕ) → ((o : Option ℕ) (d : Bool) → Q (run_as l o d)) → Q (within l i)
within_as Q l i f = go (l.loaded i) l.run
  where
    go : (d : Bool) (o : Option ℕ) → Q (run_in d o l i)
    go false None = f (Some i) true
    go false (Some j) = f l.run false
    go true o = f l.run false

some_as : (Q : Layout → Type 0) (l : Layout) (r : TRange) (rs : List TRange) → ((o : Option ℕ) (d : Bool) → Q (run_as l o d)) → Q (last_layout l (r ∷ rs))
some_as Q l r [] f = within_as Q l r.index f
some_as Q l r (q ∷ rs) f = some_as Q l q rs f

-- where these are known
abbrev pub known_as : Layout → List TRange → Option ℕ → Bool → Layout
known_as l rs o d = with_known (known_indices (indices_of rs)) l.there (run_as l o d)

pub body_as : (Q : Layout → Type 0) (l : Layout) (rs : List TRange) → Q l → ((o : Option ℕ) (d : Bool) → Q (run_as l o d))
    → (l.sets rs ≡ true → (o : Option ℕ) (d : Bool) → Q (known_as l rs o d)) → Q (body_layout l rs)
body_as Q l rs q f g = go (l.sets rs) refl rs g
  where
    go : (b : Bool) → l.sets rs ≡ b → (ts : List TRange) → (l.sets rs ≡ true → (o : Option ℕ) (d : Bool) → Q (known_as l ts o d)) → Q (layout_by b l ts)
    go false e [] g1 = q
    go false e (t ∷ ts) g1 = some_as Q l t ts f
    go true e [] g1 = q
    go true e (t ∷ ts) g1 = some_as (λ k. Q (with_known (known_indices (indices_of (t ∷ ts))) l.there k)) l t ts (g1 e)

-- what is shown of a statement, in any setting
abbrev pub InBodySpot : TStmt → Setting → ℕ → Numbers → Type 0
InBodySpot x w h z =
    (a : Mask) (s : State) (c : Conf) (pc q : ℕ) → AreAt w.routine.code pc (stmt_code w.layout w.frame.answer x pc z (body_spot h))
    → AreNamed w.code z (stmt_places w.layout x) (stmt_texts x) → EntersAt w pc (body_spot h) a s c q
    → StmtRuns w w.turns c (pc + length (stmt_code w.layout w.frame.answer x pc z (body_spot h))) (body_spot h) q
    (run (gang_of w) w.frame (calls_of w) w.turns x a s)

module _ (w : Setting) (ready : IsSettled w) (free : NoneFixed w.layout) where
  none : w.layout.run ≡ None
  none = no_run w.layout free

  -- of nobody is anything known
  pub known_by : (m : Mask) (s : State) (c : Conf) → KnownHold w.function.variables w.layout m c.scalars s.varying
  known_by m s c = unknown_holds w.function.variables w.layout m c.scalars s.varying (knows_nothing w.layout free)

  forgets : (o : Option ℕ) (d : Bool) (m : Mask) (b : ℕ) (s : State) (c : Conf) → Stands (with_layout w (run_as w.layout o d) m b) s c → HeldHere w o d m b s c
  forgets o d m b s c st = (none_holds w.layout.run w.start w.members (c.scalars (w.layout.place Uniform)) s.varying none, known_by w.members s c)

  -- what the layout of a body is, by whether a packed load writes its index
  pub within_is : (i : ℕ) (d : Bool) → w.layout.loaded i ≡ d → within w.layout i ≡ run_in d None w.layout i
  within_is i d ed = ap (λ k. run_in k w.layout.run w.layout i) ed ∙ ap (λ o. run_in d o w.layout i) none

  -- after the body
  pub run_stands : (i : ℕ) (m : Mask) (b : ℕ) (s : State) (c : Conf) → Stands (in_run w i m b) s c → Stands w s c
  run_stands i m b s c = within_as (λ l. Stands (with_layout w l m b) s c → Stands w s c) w.layout i (λ o d st. stands_back w o d m b s c st (forgets o d m b s c st))

  pub run_spares : (i : ℕ) (m : Mask) (b n : ℕ) (c c1 : Conf) → Spares (in_run w i m b) n c c1 → Spares w n c c1
  run_spares i m b n c c1 =
      within_as (λ l. Spares (with_layout w l m b) n c c1 → Spares w n c c1) w.layout i (λ o d sp. record { scalars_stay = sp.scalars_stay; vectors_stay = sp.vectors_stay; fresh_scalars = sp.fresh_scalars; fresh_vectors = sp.fresh_vectors; singles_stay = sp.singles_stay })

  -- where the index of the last range counts
  pub run_settled : (i : ℕ) (a : Mask) (b : ℕ) → IsTyped w Varying (w.layout.variable Varying i) I32 → slice_get w.function.variables i ≡ Some foreach_index
      → w.layout.loaded i ≡ false → IsSettled (with_layout w (run_as w.layout (Some i) true) a b)
  run_settled i a b typed constant unloaded =
      let w1 = with_layout w (run_as w.layout (Some i) true) a b in
      settled_same w (Some i) true a b ready
      (λ (j : ℕ) (ej : Some i ≡ Some j). let same : i ≡ j = cc in subst (IsCounter w1) same (record { typed = typed; constant = ap is_constant constant; unloaded = unloaded }))

  pub run_begins : (i : ℕ) (a : Mask) (b : ℕ) (s : State) (c : Conf) → Stands w s c → RunHolds (Some i) b a (c.scalars (w.layout.place Uniform)) s.varying → Stands (with_layout w (run_as w.layout (Some i) true) a b) s c
  run_begins i a b s c st holds = stands_there w (Some i) true a b s c st holds (known_by a s c)

  -- a body that knows nothing of its indices
  pub plain_body : (rs : List TRange) (i : ℕ) (slots : ℕ → Option ℕ) (x : TStmt) (h : ℕ) (z : Numbers) → last_index_of rs ≡ Some i
      → IsTyped w Varying (w.layout.variable Varying i) I32 → slice_get w.function.variables i ≡ Some foreach_index
      → AreNamed w.code z (stmt_places (last_layout w.layout rs) x) (stmt_texts x)
      → ((m : Mask) (b : ℕ) → IsSettled (with_layout w (last_layout w.layout rs) m b) → InBodySpot x (with_layout w (last_layout w.layout rs) m b) h z)
      → RunBodyRuns w i slots h (λ pc. stmt_code (last_layout w.layout rs) w.frame.answer x pc z (body_spot h)) (run (gang_of w) w.frame (calls_of w) w.turns x)
  plain_body rs i slots x h z last typed constant named law a s c pc q has e =
      subst (λ l. StmtRuns (with_layout w l a b) w.turns c (pc + length (stmt_code (last_layout w.layout rs) w.frame.answer x pc z (body_spot h))) (body_spot h) q (run (gang_of w) w.frame (calls_of w) w.turns x a s)) same
      (go (w.layout.loaded i) refl)
    where
      b : ℕ
      b = c.scalars (w.layout.place Uniform)

      same : last_layout w.layout rs ≡ within w.layout i
      same = last_is w.layout rs i last

      -- by the layout that the body has
      Body : Layout → Type 0
      Body l =
          AreAt w.routine.code pc (stmt_code l w.frame.answer x pc z (body_spot h)) → AreNamed w.code z (stmt_places l x) (stmt_texts x)
          → ((m : Mask) (k : ℕ) → IsSettled (with_layout w l m k) → InBodySpot x (with_layout w l m k) h z) → RunHolds l.run b a b s.varying
          → StmtRuns (with_layout w l a b) w.turns c (pc + length (stmt_code l w.frame.answer x pc z (body_spot h))) (body_spot h) q (run (gang_of w) w.frame (calls_of w) w.turns x a s)

      is : (d : Bool) → w.layout.loaded i ≡ d → last_layout w.layout rs ≡ run_in d None w.layout i
      is d ed = same ∙ within_is i d ed

      counted : w.layout.loaded i ≡ false → Body (run_as w.layout (Some i) true)
      counted unloaded at names f holds =
          f a b (run_settled i a b typed constant unloaded) a s c pc q at names
          (record { at = e.at; mask = e.mask; some = e.some; inside = λ p k. (e.inside p k, λ _. k); stands = run_begins i a b s c e.stands holds; used = omega (arith, e.used); low = omega arith })

      plain : Body (run_as w.layout None false)
      plain at names f holds =
          f a b (settled_same w None false a b ready (λ j ej. absurd (cc))) a s c pc q at names
          (record { at = e.at; mask = e.mask; some = e.some; inside = λ p k. (e.inside p k, λ no. absurd (cc)); stands = stands_there w None false a b s c e.stands tt (known_by a s c); used = omega (arith, e.used); low = omega arith })

      kept : run_as w.layout None false ≡ outside w.layout
      kept = ap (λ o. run_as w.layout o false) (sym none)

      holds : RunHolds (last_layout w.layout rs).run b a b s.varying
      holds = subst (λ l. RunHolds l.run b a b s.varying) (sym same) e.counts

      go : (d : Bool) → w.layout.loaded i ≡ d → StmtRuns (with_layout w (last_layout w.layout rs) a b) w.turns c
          (pc + length (stmt_code (last_layout w.layout rs) w.frame.answer x pc z (body_spot h))) (body_spot h) q
          (run (gang_of w) w.frame (calls_of w) w.turns x a s)
      go false ed = subst Body (sym (is false ed)) (counted ed) has named law holds
      go true ed = subst Body (sym (is true ed)) (subst Body kept plain) has named law holds

-- ---- the body of an `unmasked`

module _ (w : Setting) (ready : IsSettled w) where
  pub outside_settled : IsSettled (with_layout w (outside w.layout) w.members w.start)
  outside_settled =
      settled_same w w.layout.run false w.members w.start ready (λ i e. let k = ready.counter i e in record { typed = k.typed; constant = k.constant; unloaded = k.unloaded })

  pub outside_back : (turns : ℕ) (c : Conf) (pc : ℕ) (spot : Spot) (q : ℕ) (v : Res) → StmtRuns (with_layout w (outside w.layout) w.members w.start) turns c pc spot q v → StmtRuns w turns c pc spot q v
  outside_back turns c pc spot q v r = runs_back w w.layout.run false w.members w.start turns c pc spot q v (λ s c1 st. (st.run, st.known)) r

  pub outside_stands : (s : State) (c : Conf) → Stands w s c → Stands (with_layout w (outside w.layout) w.members w.start) s c
  outside_stands s c st = stands_there w w.layout.run false w.members w.start s c st st.run st.known
