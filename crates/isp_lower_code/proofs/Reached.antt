-- An element is reached by one instruction or as a row: its place is known then, and it is read and written there.
use Rattle.std.proofs.Common.{◌≡◌, ℕ, ◌+◌, ◌*◌, ◌<◌, ◌≤◌, List, ◌++◌, length, Some, Bool, true, false, refl, sym, ap, ◌∙◌, subst, arith, length-append}
use Rattle.std.specs.Prelude.{slice_get}
use Rattle.isp_base.specs.Sets.{Mask, any}
use Rattle.isp_base.specs.declared.trap.TrapKind.TheVariants.{Index}
use Rattle.isp_base.specs.declared.types.Rate.{Rate}
use Rattle.isp_base.specs.declared.types.Rate.TheVariants.{Uniform, Varying}
use Rattle.isp_base.specs.declared.types.Span.{Span}
use Rattle.isp_base.specs.declared.types.Ty.{Ty}
use Rattle.isp_code.specs.Conf.{Conf}
use Rattle.isp_code.specs.declared.instr.Instr.{Instr}
use Rattle.isp_meaning.specs.Outcomes.{Val, Gives, Fails, Stops, bind, checked}
use Rattle.isp_meaning.specs.Payloads.{Payload}
use Rattle.isp_meaning.specs.Places.{Place, Element, outside, held, kept}
use Rattle.isp_meaning.specs.State.{State, tick}
use Rattle.isp_typed.specs.Fine.{heads}
use Rattle.isp_typed.specs.Typed.{TExpr, t_place, t_element, type_of}
use Rattle.isp_typed.specs.declared.variable.ArrayVariable.{ArrayVariable}
use Rattle.isp_steady.specs.Values.{IsCounted}
use Rattle.isp_lower_code.specs.Code.{expr_code}
use Rattle.isp_lower_code.specs.Elements.{Row, access, access_by, index_by, is_run, reached, reached_of, read_from, takes_row, write_from}
use Rattle.isp_lower_code.specs.Found.{found}
use Rattle.isp_lower_code.specs.RowAccess.{RowFits, row_place, row_read, row_write}
use Rattle.isp_lower_code.specs.Runs.{Comes, DoneRuns, Enters, Runs}
use Rattle.isp_lower_code.specs.Setting.{AreAt, At, Allowed, Holds, IsSettled, Setting, Spares, Stands, gang_of}
use Rattle.isp_lower_code.specs.Spans.{expr_places}
use Rattle.isp_lower_code.proofs.Base.{are_front, are_back}
use Rattle.isp_lower_code.proofs.Combine.{told_as}
use Rattle.isp_lower_code.proofs.Done.{done_after}
use Rattle.isp_lower_code.proofs.ElementRuns.{AccessHolds, PlaceHolds, element_index_runs, element_runs}
use Rattle.isp_lower_code.proofs.Found.{few}
use Rattle.isp_lower_code.proofs.Kept.{Low}
use Rattle.isp_lower_code.proofs.Nodes.{enters_part}
use Rattle.isp_lower_code.proofs.Parts.{PlaceParts}
use Rattle.isp_lower_code.proofs.PlainNodes.{means, RunsHere, NodeRuns}
use Rattle.isp_lower_code.proofs.RowAccess.{row_leaves, row_writes}
use Rattle.isp_lower_code.proofs.RowScalars.{TakesRow, low_away, scalar_away, takes}
use Rattle.isp_lower_code.proofs.Targets.{Target, Leaves, bind_leaves, leaves_after, target}
use Rattle.isp_lower_code.proofs.Writes.{element_done}

module _ (w : Setting) (ready : IsSettled w) where
  -- with fewer steps that are left
  runs_few : {A : Type 0} (c : Conf) (pc n q q1 : ℕ) (P : A → Conf → Type 0) (v : Val A) → q ≤ q1 → Runs w c pc n q1 P v → Runs w c pc n q P v
  runs_few c pc n q q1 P (Gives x s) le r = record {
    conf = r.conf;
    steps = r.steps;
    comes = r.comes;
    at = r.at;
    stands = r.stands;
    spares = r.spares;
    masks = r.masks;
    holds = r.holds;
    bound = omega (arith, r.bound, le);
  }
  runs_few c pc n q q1 P (Fails t s) le r = record { conf = r.conf; steps = r.steps; fails = r.fails; arrays_are = r.arrays_are; out_is = r.out_is; bound = omega (arith, r.bound, le) }
  runs_few c pc n q q1 P (Stops s) le r = record { conf = r.conf; steps = r.steps; far = r.far; goes = r.goes; out_is = r.out_is; bound = omega (arith, r.bound, le) }

  module _ (y : ArrayVariable) (i : TExpr) (t : Ty) (sp : Span) (n : ℕ) (fit : PlaceParts w (t_element y i t sp) n) where
    abbrev by_run : Bool
    by_run = is_run w.layout y.ty.rate i

    abbrev row : Bool
    row = takes_row (w.layout.is_row i n) y.ty.rate t.rate

    -- a row that is accessed with the slots from m on, while those below j are in use
    row_fits : (j m : ℕ) → n < m → m ≤ n + 3 → j ≤ m → TakesRow w.layout y.ty.rate t.rate i n → RowFits w y (type_of i).elem (w.layout.row_at i n) j m
    row_fits j m lt le free taken =
        let it = ready.rows i n fit.6 taken.taken in
        record {
          held = fit.0;
          shared = taken.shared;
          row = it.row;
          typed = it.typed;
          table = it.table m lt le;
          free = free;
          away = λ e g h. scalar_away w ready.apart n (w.layout.row_at i n) it.scalar e g (omega (arith, lt, h));
        }

    -- the code by which it is reached
    pub access_runs : (pc p k q rest : ℕ) (a : Mask) (s : State) (c : Conf) (code : List Instr) → rest ≤ 4 + q → Enters w pc k n a s c q
        → AreAt w.routine.code pc (reached_of w.layout (access w.layout y.ty.rate t.rate i n) t.rate i pc p k n code) → AreAt w.code.places p (expr_places w.layout i)
        → (AreAt w.routine.code pc code → Runs w c (pc + length code) n (1 + (1 + rest)) (Holds (type_of i).rate a (found w.layout i n)) (means w ready i a s))
        → Runs w c (pc + length (reached_of w.layout (access w.layout y.ty.rate t.rate i n) t.rate i pc p k n code)) n rest
        (AccessHolds w ready (access w.layout y.ty.rate t.rate i n) y i t n a) (bind (means w ready i a s) (λ m s1. Gives (Element y (type_of i).elem m) s1))
    access_runs pc p k q rest a s c code le b has places run = go row refl has
      where
        go : (d : Bool) → row ≡ d → AreAt w.routine.code pc (reached_of w.layout (access_by d by_run) t.rate i pc p k n code)
            → Runs w c (pc + length (reached_of w.layout (access_by d by_run) t.rate i pc p k n code)) n rest
            (AccessHolds w ready (access_by d by_run) y i t n a) (bind (means w ready i a s) (λ m s1. Gives (Element y (type_of i).elem m) s1))
        go false e at = element_index_runs w ready y i t pc k n q rest a s c code (omega (arith, le)) b fit.4 fit.2 fit.3 fit.5 at run
        go true e at =
            let it = ready.rows i n fit.6 (takes w.layout y.ty.rate t.rate i n e).taken in
            told_as w ready c (pc + length (w.layout.row i pc p k n)) n rest (λ m c1. IsCounted (type_of i).elem a (c1.scalars (w.layout.row_at i n)) m) (AccessHolds w ready Row y i t n a) (means w ready i a s) (λ m. Element y (type_of i).elem m)
            (λ m c1 h. ap (Element y (type_of i).elem) h)
            (runs_few c (pc + length (w.layout.row i pc p k n)) n rest (4 + q) (λ m c1. IsCounted (type_of i).elem a (c1.scalars (w.layout.row_at i n)) m) (means w ready i a s) le (it.runs pc p k q a s c at places b))

    -- it is read with slot j for the value
    pub access_leaves : (u : Target) (v : Place) (c c2 : Conf) (st pc pc' k j p q : ℕ) (a : Mask) (s : State) → n ≤ j → j ≤ n + 2 → Comes w c st c2 → At w c2 pc
        → AreAt w.routine.code pc (read_from w.layout (access w.layout y.ty.rate t.rate i n) (type_of i).elem t.rate (target w.layout u t.rate t.elem j) (w.layout.array y.number)
        (reached w.layout (access w.layout y.ty.rate t.rate i n) t.rate i n) p pc k (j + 1))
        → pc + length (read_from w.layout (access w.layout y.ty.rate t.rate i n) (type_of i).elem t.rate (target w.layout u t.rate t.elem j) (w.layout.array y.number)
        (reached w.layout (access w.layout y.ty.rate t.rate i n) t.rate i n) p pc k (j + 1)) ≡ pc'
        → slice_get w.code.places p ≡ Some sp → Stands w s c2 → Spares w j c c2 → ((r : ℕ) → r < j → c2.masks r ≡ c.masks r) → c2.masks k ≡ a
        → any (gang_of w) a ≡ true → ((r : ℕ) → a r ≡ true → Allowed w r) → k < j → st + 12 + q ≤ 32 * s.work
        → AccessHolds w ready (access w.layout y.ty.rate t.rate i n) y i t n a v c2
        → Leaves w u (target w.layout u t.rate t.elem j) c pc' j q t.rate a
        (checked (outside (gang_of w) w.frame v a) Index sp s (held (gang_of w) w.frame v a s))
    access_leaves u v c c2 st pc pc' k j p q a s low high comes here has to place stands keeps masks em some inside lk le hold = go row refl has to hold
      where
        by_row : TakesRow w.layout y.ty.rate t.rate i n → (r : Rate) → r ≡ Varying
            → AreAt w.routine.code pc (row_read w.layout (type_of i).elem (w.layout.row_at i n) (target w.layout u r t.elem j) (w.layout.array y.number) p pc k (j + 1))
            → pc + 12 ≡ pc' → v ≡ row_place y (type_of i).elem (c2.scalars (w.layout.row_at i n)) a
            → Leaves w u (target w.layout u r t.elem j) c pc' j q r a (checked (outside (gang_of w) w.frame v a) Index sp s (held (gang_of w) w.frame v a s))
        by_row taken Uniform er at end is = absurd (cc)
        by_row taken Varying er at end is =
            let x = w.layout.row_at i n in
            let d = target w.layout u Varying t.elem j in
            let z = row_place y (type_of i).elem (c2.scalars x) a in
            subst (λ g. Leaves w u d c pc' j q Varying a (checked (outside (gang_of w) w.frame g a) Index sp s (held (gang_of w) w.frame g a s))) (sym is)
            (leaves_after w ready u d c c2 st pc' j q Varying a (checked (outside (gang_of w) w.frame z a) Index sp s (held (gang_of w) w.frame z a s)) comes keeps masks
            (subst (λ g. Leaves w u d c2 g j (st + q) Varying a (checked (outside (gang_of w) w.frame z a) Index sp s (held (gang_of w) w.frame z a s))) end
            (row_leaves w ready u y (type_of i).elem t.elem x pc p k j (j + 1) (st + q) sp a s c2
            (row_fits j (j + 1) (omega (arith, low)) (omega (arith, high)) (omega arith) taken) at place
            (record { at = here; mask = em; some = some; inside = inside; stands = stands; used = omega (arith, le); low = lk }))))

        go : (d : Bool) → row ≡ d
            → AreAt w.routine.code pc (read_from w.layout (access_by d by_run) (type_of i).elem t.rate (target w.layout u t.rate t.elem j) (w.layout.array y.number)
            (reached w.layout (access_by d by_run) t.rate i n) p pc k (j + 1))
            → pc + length (read_from w.layout (access_by d by_run) (type_of i).elem t.rate (target w.layout u t.rate t.elem j) (w.layout.array y.number)
            (reached w.layout (access_by d by_run) t.rate i n) p pc k (j + 1)) ≡ pc'
            → AccessHolds w ready (access_by d by_run) y i t n a v c2
            → Leaves w u (target w.layout u t.rate t.elem j) c pc' j q t.rate a (checked (outside (gang_of w) w.frame v a) Index sp s (held (gang_of w) w.frame v a s))
        go false e at end h =
            subst (λ g. Leaves w u (target w.layout u t.rate t.elem j) c pc' j q t.rate a (checked (outside (gang_of w) w.frame g a) Index sp s (held (gang_of w) w.frame g a s))) (sym h.1)
            (element_runs w ready u by_run (index_by w.layout by_run t.rate i n) y i t sp c c2 st pc pc' k j p q a s h.0 (ready.arrays y fit.0) fit.1 comes here end at.0 place stands keeps masks em some inside
            (omega (arith, le)) h.2)
        go true e at end h = let taken = takes w.layout y.ty.rate t.rate i n e in by_row taken t.rate taken.each at end h

    -- it gets what register x has, with slots from j on for that
    pub access_done : (v : Place) (m : Payload) (c c2 : Conf) (st pc pc' k x j p q : ℕ) (a : Mask) (s : State) → n < j → j ≤ n + 3 → Low w t.rate j x → Comes w c st c2 → At w c2 pc
        → AreAt w.routine.code pc (write_from w.layout (access w.layout y.ty.rate t.rate i n) (type_of i).elem t.rate (w.layout.array y.number)
        (reached w.layout (access w.layout y.ty.rate t.rate i n) t.rate i n) x p pc k j)
        → pc + length (write_from w.layout (access w.layout y.ty.rate t.rate i n) (type_of i).elem t.rate (w.layout.array y.number)
        (reached w.layout (access w.layout y.ty.rate t.rate i n) t.rate i n) x p pc k j) ≡ pc'
        → slice_get w.code.places p ≡ Some sp → Stands w s c2 → Spares w n c c2 → ((r : ℕ) → r < n → c2.masks r ≡ c.masks r) → c2.masks k ≡ a
        → any (gang_of w) a ≡ true → ((r : ℕ) → a r ≡ true → Allowed w r) → k < n → st + 12 + q ≤ 32 * s.work
        → AccessHolds w ready (access w.layout y.ty.rate t.rate i n) y i t n a v c2 → Holds t.rate a x m c2
        → DoneRuns w c pc' n q (bind (checked (outside (gang_of w) w.frame v a) Index sp s m) (λ b s3. Gives tt (kept (gang_of w) w.frame v a b s3)))
    access_done v m c c2 st pc pc' k x j p q a s low high lx comes here has to place stands keeps masks em some inside lk le hold hx = go row refl has to hold
      where
        by_row : TakesRow w.layout y.ty.rate t.rate i n → (r : Rate) → r ≡ Varying → Low w r j x → Holds r a x m c2
            → AreAt w.routine.code pc (row_write w.layout (type_of i).elem (w.layout.row_at i n) x (w.layout.array y.number) p pc k j)
            → pc + 12 ≡ pc' → v ≡ row_place y (type_of i).elem (c2.scalars (w.layout.row_at i n)) a
            → DoneRuns w c pc' n q (bind (checked (outside (gang_of w) w.frame v a) Index sp s m) (λ b s3. Gives tt (kept (gang_of w) w.frame v a b s3)))
        by_row taken Uniform er lv hv at end is = absurd (cc)
        by_row taken Varying er lv hv at end is =
            let u = w.layout.row_at i n in
            let z = row_place y (type_of i).elem (c2.scalars u) a in
            subst (λ g. DoneRuns w c pc' n q (bind (checked (outside (gang_of w) w.frame g a) Index sp s m) (λ b s3. Gives tt (kept (gang_of w) w.frame g a b s3)))) (sym is)
            (done_after w ready c c2 st pc' n q (bind (checked (outside (gang_of w) w.frame z a) Index sp s m) (λ b s3. Gives tt (kept (gang_of w) w.frame z a b s3))) comes keeps masks
            (subst (λ g. DoneRuns w c2 g n (st + q) (bind (checked (outside (gang_of w) w.frame z a) Index sp s m) (λ b s3. Gives tt (kept (gang_of w) w.frame z a b s3)))) end
            (row_writes w ready y (type_of i).elem u x pc p k n j (st + q) sp a m s c2 (row_fits n j low high (omega (arith, low)) taken)
            (λ e g h. low_away w ready.apart Varying j x lv e g h) hv at place
            (record { at = here; mask = em; some = some; inside = inside; stands = stands; used = omega (arith, le); low = lk }))))

        go : (d : Bool) → row ≡ d
            → AreAt w.routine.code pc (write_from w.layout (access_by d by_run) (type_of i).elem t.rate (w.layout.array y.number) (reached w.layout (access_by d by_run) t.rate i n) x p pc k j)
            → pc + length (write_from w.layout (access_by d by_run) (type_of i).elem t.rate (w.layout.array y.number) (reached w.layout (access_by d by_run) t.rate i n) x p pc k j) ≡ pc'
            → AccessHolds w ready (access_by d by_run) y i t n a v c2
            → DoneRuns w c pc' n q (bind (checked (outside (gang_of w) w.frame v a) Index sp s m) (λ b s3. Gives tt (kept (gang_of w) w.frame v a b s3)))
        go false e at end h =
            subst (λ g. DoneRuns w c pc' n q (bind (checked (outside (gang_of w) w.frame g a) Index sp s m) (λ b s3. Gives tt (kept (gang_of w) w.frame g a b s3)))) (sym h.1)
            (element_done w ready by_run t.rate y.ty.rate y (type_of i).elem h.0 m a s c c2 st pc pc' k (index_by w.layout by_run t.rate i n) x n q p sp
            (ready.arrays y fit.0).is fit.1 (ready.arrays y fit.0).few some inside comes here end at.0 place stands keeps masks em (omega (arith, le)) h.2 hx)
        go true e at end h = let taken = takes w.layout y.ty.rate t.rate i n e in by_row taken t.rate taken.each lx hx at end h

  -- the node
  pub element_node : (u : Target) (y : ArrayVariable) (i : TExpr) (t : Ty) (sp : Span) → RunsHere w ready i → NodeRuns w ready u (t_place (t_element y i t sp))
  element_node u y i t sp ih pc p k n q rest a s c fit ty has places le b =
      let fi : heads i ≤ 1 = few w i n fit.0.4 in
      let ci = expr_code w.layout i pc p k n in
      let z = access w.layout y.ty.rate t.rate i n in
      let cj = reached_of w.layout z t.rate i pc p k n ci in
      let d = target w.layout u t.rate t.elem n in
      let rd = read_from w.layout z (type_of i).elem t.rate d (w.layout.array y.number) (reached w.layout z t.rate i n) (p + length (expr_places w.layout i)) (pc + length cj) k (n + 1) in
      let to : pc + length cj + length rd ≡ pc + length (cj ++ rd) = omega (arith, length-append cj rd) in
      bind_leaves w ready u d c (pc + length cj) n 12 rest (PlaceHolds w ready (t_element y i t sp) n a) (bind (means w ready i a (tick s)) (λ m s1. Gives (Element y (type_of i).elem m) s1)) _ _ n t.rate a
      (access_runs y i t sp n fit.0 pc p k (32 + q) (12 + rest) a (tick s) c ci (omega (arith, le)) (enters_part w ready pc k n (32 + q) q a s c (omega arith) b) (are_front w.routine.code pc cj rd has)
      (are_front w.code.places p (expr_places w.layout i) _ places)
      (λ at. ih pc p k n (32 + q) (1 + (1 + (12 + rest))) a (tick s) c fit.0.4 at (are_front w.code.places p (expr_places w.layout i) _ places) (omega (arith, le)) (enters_part w ready pc k n (32 + q) q a s c (omega arith) b)))
      (λ at s1 ok.
      access_leaves y i t sp n fit.0 u at c ok.conf ok.steps (pc + length cj) (pc + length (cj ++ rd)) k n (p + length (expr_places w.layout i)) rest a s1 (omega arith) (omega arith) ok.comes ok.at
      (are_back w.routine.code pc cj rd has) to (are_back w.code.places p (expr_places w.layout i) _ places).0 ok.stands ok.spares ok.masks (ok.masks k b.low ∙ b.mask) b.some b.inside b.low
      (omega (arith, ok.bound)) ok.holds)
