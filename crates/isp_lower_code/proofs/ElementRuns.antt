-- The code of an index gives the place of an element, and an element is read there by one instruction.
use Rattle.std.proofs.Common.{◌≡◌, ℕ, ◌+◌, ◌*◌, ◌<◌, ◌≤◌, List, [], ◌∷◌, ◌++◌, length, Some, Bool, true, false, refl, sym, ap, ◌∙◌, subst, arith, length-append, inl, inr}
use Rattle.std.specs.Prelude.{slice_get, pos}
use Rattle.isp_base.specs.Access.{is_outside}
use Rattle.isp_base.specs.Maps.{on, map1}
use Rattle.isp_base.specs.Sets.{Mask, any}
use Rattle.isp_base.specs.Values.{number}
use Rattle.isp_base.specs.declared.trap.TrapKind.TheVariants.{Index}
use Rattle.isp_base.specs.declared.types.Elem.TheVariants.{I32, I64}
use Rattle.isp_base.specs.declared.types.Rate.{Rate}
use Rattle.isp_base.specs.declared.types.Rate.TheVariants.{Uniform, Varying}
use Rattle.isp_base.specs.declared.types.Span.{Span}
use Rattle.isp_code.specs.Calls.{place_at}
use Rattle.isp_code.specs.Conf.{Conf}
use Rattle.isp_code.specs.Lines.{size, item}
use Rattle.isp_code.specs.Registers.{elem_of}
use Rattle.isp_code.specs.declared.instr.Instr.{Instr}
use Rattle.isp_meaning.specs.State.{State, tick, extent}
use Rattle.isp_meaning.specs.Payloads.{Payload, Each, sole, mapped, converted, offender}
use Rattle.isp_meaning.specs.Outcomes.{Val, Gives, Fails, Stops, bind, checked}
use Rattle.isp_meaning.specs.Places.{Place, Variable, Element, variable, outside, held}
use Rattle.isp_base.specs.declared.types.Ty.{Ty}
use Rattle.isp_typed.specs.declared.variable.ArrayVariable.{ArrayVariable}
use Rattle.isp_typed.specs.Typed.{TExpr, t_program_index, t_place}
use Rattle.isp_typed.specs.Typed.{TPlace, t_variable, t_element}
use Rattle.isp_typed.specs.Typed.{type_of}
use Rattle.isp_lower_code.specs.Layout.{register, array_register}
use Rattle.isp_lower_code.specs.Setting.{ArrayFits, Setting, IsSettled, gang_of, AreAt, At, Stands, at_rate, held_at, Holds, Spares, Allowed}
use Rattle.isp_lower_code.specs.Runs.{Comes, Enters, Runs}
use Rattle.isp_lower_code.specs.Elements.{Access, By, Row, access, index_by, index_by_of, is_run, start_code}
use Rattle.isp_lower_code.specs.Found.{found, lift_code, is_whole, whole, whole_of, index, index_of}
use Rattle.isp_lower_code.specs.Instructions.{constant, read_by}
use Rattle.isp_lower_code.specs.RowAccess.{row_place}
use Rattle.isp_lower_code.proofs.Base.{are_front, are_back, comes_none, at_to, moved_by, spares_all}
use Rattle.isp_lower_code.proofs.Rates.{held_same, at_mapped}
use Rattle.isp_lower_code.proofs.Lines.{set_at, place_named}
use Rattle.isp_lower_code.proofs.Access.{as_whole, found_items, filled_items, size_at, item_at, get_at, read_is, outside_is, read_by_line}
use Rattle.isp_lower_code.proofs.Values.{wrap_bits, zero_first}
use Rattle.isp_lower_code.proofs.Combine.{runs_on, ok_less, renamed, lift_runs}
use Rattle.isp_lower_code.proofs.Found.{found_typed}
use Rattle.isp_lower_code.proofs.Targets.{Target, InSlot, target, Leaves, write_leaves}
use Rattle.isp_lower_code.proofs.Parts.{ExprParts, SpareFits, RunParts}
use Rattle.isp_lower_code.specs.Asks.{is_lane}
use Rattle.isp_lower_code.specs.Rated.{Reaches}
use Rattle.isp_lower_code.proofs.Consecutive.{IndexHolds, RunFits, counts_reach, counts_run, lane_reaches, lanes_by, lanes_count, run_is, Counter, Counting, counter_is, counts_part}
use Rattle.isp_lower_code.specs.Consecutive.{RunHolds}
use Rattle.isp_lower_code.proofs.PlainNodes.{means, constant_runs, convert_runs}

module _ (w : Setting) (ready : IsSettled w) where
  -- ---- places: the index is taken at slot n

  -- what is known of an element once its index is taken, by each lane or as a run
  abbrev pub ElementHolds : Bool → ArrayVariable → TExpr → Ty → ℕ → Mask → Place → Conf → Type 0
  ElementHolds z y i t n a v c =
      (m : Payload) × (v ≡ Element y (type_of i).elem m) × IndexHolds z y.ty.rate t.rate a (index_by w.layout z t.rate i n) (mapped (as_whole (is_whole (type_of i).elem) (type_of i).elem) m) c.scalars c.vectors

  -- or once the scalar of its row is there
  abbrev pub AccessHolds : Access → ArrayVariable → TExpr → Ty → ℕ → Mask → Place → Conf → Type 0
  AccessHolds (By z) y i t n a v c = ElementHolds z y i t n a v c
  AccessHolds Row y i t n a v c = v ≡ row_place y (type_of i).elem (c.scalars (w.layout.row_at i n)) a

  -- and of a place
  abbrev pub PlaceHolds : TPlace → ℕ → Mask → Place → Conf → Type 0
  PlaceHolds (t_variable v t sp) n a z c = z ≡ Variable v t
  PlaceHolds (t_element y i t sp) n a z c = AccessHolds (access w.layout y.ty.rate t.rate i n) y i t n a z c

  -- an index as int64
  pub whole_runs : (i : TExpr) (z : Bool) (pc k n q rest : ℕ) (a : Mask) (s : State) (c : Conf) (code : List Instr) → is_whole (type_of i).elem ≡ z
      → rest ≤ 31 + q → Enters w pc k n a s c q → ExprParts w i n → SpareFits w (type_of i).rate I64 n
      → AreAt w.routine.code pc (whole_of w.layout z i k n code)
      → (AreAt w.routine.code pc code → Runs w c (pc + length code) n (1 + rest) (Holds (type_of i).rate a (found w.layout i n)) (means w ready i a s))
      → Runs w c (pc + length (whole_of w.layout z i k n code)) n rest (Holds (type_of i).rate a (whole w.layout z i n))
      (bind (means w ready i a s) (λ m s1. Gives (mapped (as_whole z (type_of i).elem) m) s1))
  whole_runs i true pc k n q rest a s c code ez le b fit ty has run =
      runs_same (means w ready i a s) (runs_on w ready c (pc + length code) n 1 rest _ (means w ready i a s) (pc + length code) n _ (run has) (λ x s1 ok. ok_less w ready c _ _ n 1 rest _ s1 refl ok))
    where
      runs_same : (v : Val Payload) → Runs w c (pc + length code) n rest (Holds (type_of i).rate a (found w.layout i n)) v
          → Runs w c (pc + length code) n rest (Holds (type_of i).rate a (found w.layout i n)) (bind v (λ m s1. Gives (mapped (λ x. x) m) s1))
      runs_same (Gives x s1) r = record {
        conf = r.conf;
        steps = r.steps;
        comes = r.comes;
        at = r.at;
        stands = r.stands;
        spares = r.spares;
        masks =
            r.masks;
        holds = at_mapped (type_of i).rate a (λ x. x) x ∙ ap (mapped (λ x. x)) r.holds
            ∙ held_same (type_of i).rate a r.conf.scalars r.conf.vectors (found w.layout i n);
        bound = r.bound;
      }
      runs_same (Fails p s1) r = r
      runs_same (Stops s1) r = r
  whole_runs i false pc k n q rest a s c code ez le b fit ty has run = convert_runs w ready InSlot i I64 pc k n q rest a s c code le b (found_typed w ready i n fit) ty has run

  index_runs : (y : ArrayVariable) (i : TExpr) (t : Ty) (pc k n q rest : ℕ) (a : Mask) (s : State) (c : Conf) (code : List Instr) → rest ≤ 30 + q
      → Enters w pc k n a s c q → ExprParts w i n → Reaches (type_of i).rate t.rate → SpareFits w (type_of i).rate I64 n
      → AreAt w.routine.code pc (index_of w.layout t.rate i k n code)
      → (AreAt w.routine.code pc code → Runs w c (pc + length code) n (1 + (1 + rest)) (Holds (type_of i).rate a (found w.layout i n)) (means w ready i a s))
      → Runs w c (pc + length (index_of w.layout t.rate i k n code)) n rest (ElementHolds false y i t n a)
      (bind (means w ready i a s) (λ m s1. Gives (Element y (type_of i).elem m) s1))
  index_runs y i t pc k n q rest a s c code le b fit re ty has run =
      let z = is_whole (type_of i).elem in
      let cw = whole_of w.layout z i k n code in
      let lift = lift_code w.layout t.rate (type_of i).rate I64 (whole w.layout z i n) k n in
      let to : pc + length cw + length lift ≡ pc + length (cw ++ lift) = omega (arith, length-append cw lift) in
      renamed w ready c _ n rest _ _ (means w ready i a s) (mapped (as_whole z (type_of i).elem)) (λ m. Element y (type_of i).elem m) (λ m c1 h. (m, refl, record { holds = h; fits = tt }))
      (subst (λ p. Runs w c p n rest (Holds t.rate a (index w.layout t.rate i n)) (bind (means w ready i a s) (λ m s1. Gives (mapped (as_whole z (type_of i).elem) m) s1))) to
      (lift_runs w ready c (pc + length cw) k n rest a _ t.rate (type_of i).rate I64 (whole w.layout z i n) re b.mask b.low (are_back w.routine.code pc cw lift has)
      (whole_runs i z pc k n q (1 + rest) a s c code refl (omega arith) b fit ty (are_front w.routine.code pc cw lift has) run)))

  -- the number of a lane as the index of a run
  run_index_runs : (y : ArrayVariable) (t : Ty) (sp : Span) (pc k n q rest : ℕ) (a : Mask) (s : State) (c : Conf) → rest ≤ 30 + q
      → Enters w pc k n a s c q → y.ty.rate ≡ Uniform → t.rate ≡ Varying → SpareFits w Uniform I64 n
      → AreAt w.routine.code pc (constant (w.layout.spare Uniform I64 n) I64 0 ∷ [])
      → Runs w c (pc + 1) n rest (ElementHolds true y (t_program_index sp) t n a)
      (bind (means w ready (t_program_index sp) a s) (λ m s1. Gives (Element y I32 m) s1))
  run_index_runs y t sp pc k n q rest a s c le b eb et ty has =
      let r = constant_runs w ready InSlot pc k n q rest a s c I64 0 0 (omega (arith, le)) b ty has.0 (wrap_bits I64 0) in
      let x = r.conf.scalars (w.layout.spare Uniform I64 n) in
      let zero : number I64 x ≡ pos 0 = ap (λ m. number I64 (sole m)) (sym r.holds) ∙ zero_first in
      let counts = lanes_count w.code.gang a (λ p h. (b.inside p h).0) in
      let held = λ (u : Rate) (e : u ≡ Varying). subst
      (λ v. at_rate v a (mapped (as_whole false I32) (Each (on a (λ p. p))))
      ≡ held_at v r.conf.scalars (lanes_by true r.conf.scalars r.conf.vectors) a (w.layout.spare Uniform I64 n)) (sym e)
      (ap Each (counts_run (pos 0) a (λ p. p) x zero counts)) in
      record {
        conf = r.conf;
        steps = r.steps;
        comes = r.comes;
        at = r.at;
        stands = r.stands;
        spares = r.spares;
        masks = r.masks;
        holds =
            (Each (on a (λ p. p)), refl, record { holds = held t.rate et; fits = (eb, et, counts_reach (pos 0) a (λ p. p) x zero counts) });
        bound =
            r.bound;
      }

  -- the variable that counts the lanes as the index of a run: it stays in place
  counter_index_runs : (y : ArrayVariable) (t : Ty) (v : ℕ) (u : Ty) (sp : Span) (pc k n q rest : ℕ) (a : Mask) (s : State) (c : Conf) → rest ≤ 30 + q
      → Enters w pc k n a s c q → y.ty.rate ≡ Uniform → t.rate ≡ Varying → Counter w.layout u.rate v → u.elem ≡ I32
      → Runs w c (pc + 0) n rest (ElementHolds true y (t_place (t_variable v u sp)) t n a)
      (bind (means w ready (t_place (t_variable v u sp)) a s) (λ m s1. Gives (Element y u.elem m) s1))
  counter_index_runs y t v u sp pc k n q rest a s c le b eb et counter ei =
      let run : RunHolds (Some v) w.start w.members (c.scalars (w.layout.place Uniform)) s.varying = subst (λ o. RunHolds o w.start w.members (c.scalars (w.layout.place Uniform)) s.varying) counter.run b.stands.run in
      let x = c.scalars (w.layout.place Uniform) in
      let zero : number I64 x ≡ number I64 w.start = ap (number I64) run.0 in
      let counts = counts_part (number I64 w.start) a w.members (s.varying v) (λ p h. (b.inside p h).1 counter.inside) run.1 in
      let value : mapped (as_whole (is_whole u.elem) u.elem) (variable u.rate v a (tick s))
      ≡ Each (map1 (converted I32 I64) (on a (s.varying v))) = ap (λ e. mapped (as_whole (is_whole e) e) (variable u.rate v a (tick s))) ei
      ∙ ap (λ r. mapped (converted I32 I64) (variable r v a (tick s))) counter.varying in
      let held = λ (r : Rate) (e : r ≡ Varying). subst
      (λ z. at_rate z a (mapped (as_whole (is_whole u.elem) u.elem) (variable u.rate v a (tick s)))
      ≡ held_at z c.scalars (lanes_by true c.scalars c.vectors) a (w.layout.place Uniform)) (sym e)
      (ap (at_rate Varying a) value ∙ ap Each (counts_run (number I64 w.start) a (s.varying v) x zero counts)) in
      record {
        conf = c;
        steps = 0;
        comes = comes_none w c;
        at = at_to w c pc (pc + 0) b.at (omega arith);
        stands = b.stands;
        spares = spares_all w n
            c;
        masks = λ r lt. refl;
        holds = (
          variable u.rate v a (tick s),
          refl,
          record
              { holds = held t.rate et; fits = (eb, et, counts_reach (number I64 w.start) a (s.varying v) x zero counts) },
        );
        bound = omega
            (arith, le, b.used);
      }

  -- the index of an element
  pub element_index_runs : (y : ArrayVariable) (i : TExpr) (t : Ty) (pc k n q rest : ℕ) (a : Mask) (s : State) (c : Conf) (code : List Instr)
      → rest ≤ 30 + q → Enters w pc k n a s c q → ExprParts w i n → Reaches (type_of i).rate t.rate → SpareFits w (type_of i).rate I64 n
      → RunParts w y.ty.rate i n → AreAt w.routine.code pc (index_by_of w.layout (is_run w.layout y.ty.rate i) t.rate i k n code)
      → (AreAt w.routine.code pc code → Runs w c (pc + length code) n (1 + (1 + rest)) (Holds (type_of i).rate a (found w.layout i n)) (means w ready i a s))
      → Runs w c (pc + length (index_by_of w.layout (is_run w.layout y.ty.rate i) t.rate i k n code)) n rest
      (ElementHolds (is_run w.layout y.ty.rate i) y i t n a) (bind (means w ready i a s) (λ m s1. Gives (Element y (type_of i).elem m) s1))
  element_index_runs y i t pc k n q rest a s c code le b fit re ty parts has run = go (is_run w.layout y.ty.rate i) refl has
    where
      counted : y.ty.rate ≡ Uniform → Counting w.layout i → AreAt w.routine.code pc (start_code w.layout (is_lane i) n)
          → Runs w c (pc + length (start_code w.layout (is_lane i) n)) n rest (ElementHolds true y i t n a)
          (bind (means w ready i a s) (λ m s1. Gives (Element y (type_of i).elem m) s1))
      counted eb (inl h) =
          subst (λ u. Reaches (type_of u).rate t.rate → RunParts w Uniform u n → AreAt w.routine.code pc (start_code w.layout (is_lane u) n)
          → Runs w c (pc + length (start_code w.layout (is_lane u) n)) n rest (ElementHolds true y u t n a)
          (bind (means w ready u a s) (λ m s1. Gives (Element y (type_of u).elem m) s1))) (sym h.1)
          (λ reaches spare at. run_index_runs y t h.0 pc k n q rest a s c le b eb (lane_reaches t.rate reaches) spare at) re (subst (λ r. RunParts w r i n) eb parts)
      counted eb (inr h) =
          let counter = counter_is w.layout h.1.rate h.0 h.4 in
          subst (λ u. Reaches (type_of u).rate t.rate → ExprParts w u n → AreAt w.routine.code pc (start_code w.layout (is_lane u) n)
          → Runs w c (pc + length (start_code w.layout (is_lane u) n)) n rest (ElementHolds true y u t n a)
          (bind (means w ready u a s) (λ m s1. Gives (Element y (type_of u).elem m) s1))) (sym h.3)
          (λ reaches parts at. counter_index_runs y t h.0 h.1 h.2 pc k n q rest a s c le b eb
          (lane_reaches t.rate (subst (λ r. Reaches r t.rate) counter.varying reaches)) counter
          (sym parts.0.0 ∙ ap (λ r. elem_of w.routine (register r (w.layout.variable r h.0))) counter.varying
          ∙ (ready.counter h.0 counter.run).typed)) re fit

      go : (z : Bool) → is_run w.layout y.ty.rate i ≡ z → AreAt w.routine.code pc (index_by_of w.layout z t.rate i k n code)
          → Runs w c (pc + length (index_by_of w.layout z t.rate i k n code)) n rest (ElementHolds z y i t n a)
          (bind (means w ready i a s) (λ m s1. Gives (Element y (type_of i).elem m) s1))
      go false e at = index_runs y i t pc k n q rest a s c code le b fit re ty at run
      go true e at = let is = run_is w.layout y.ty.rate i e in counted is.0 is.1 at

  -- an element is read into slot n
  pub element_runs : (u : Target) (b : Bool) (j : ℕ) (y : ArrayVariable) (i : TExpr) (t : Ty) (sp : Span) (c c2 : Conf) (st pc pc' k n p q : ℕ)
      (a : Mask) (s : State) (z : Payload) → ArrayFits w y → Reaches y.ty.rate t.rate → Comes w c st c2 → At w c2 pc → pc + 1 ≡ pc'
      → slice_get w.routine.code pc ≡ Some (read_by b t.rate (target w.layout u t.rate t.elem n) (w.layout.array y.number) j k p)
      → slice_get w.code.places p ≡ Some sp → Stands w s c2 → Spares w n c c2 → ((r : ℕ) → r < n → c2.masks r ≡ c.masks r) → c2.masks k ≡ a
      → any (gang_of w) a ≡ true → ((r : ℕ) → a r ≡ true → Allowed w r) → st + 1 + q ≤ 32 * s.work
      → IndexHolds b y.ty.rate t.rate a j (mapped (as_whole (is_whole (type_of i).elem) (type_of i).elem) z) c2.scalars c2.vectors
      → Leaves w u (target w.layout u t.rate t.elem n) c pc' n q t.rate a
      (checked (outside (gang_of w) w.frame (Element y (type_of i).elem z) a) Index sp s
      (held (gang_of w) w.frame (Element y (type_of i).elem z) a s))
  element_runs u b j y i t sp c c2 st pc pc' k n p q a s z fy re h at to has place stands keeps masks em some inside le hold =
      let e = (type_of i).elem in
      let g = extent w.frame y in
      let ve = lanes_by b c2.scalars c2.vectors in
      let Y = found_items t.rate (get_at w y.ty.rate y s) c2.scalars ve a j in
      let d = target w.layout u t.rate t.elem n in
      let line = read_by_line b y.ty.rate w.code w.routine c2 t.rate d (w.layout.array y.number) j k p (ap (any (gang_of w)) em ∙ some) (subst (λ m. RunFits b y.ty.rate t.rate m (c2.scalars j)) (sym em) hold.fits) in
      let is1 = ap (λ o. moved_by (offender (gang_of w) (is_outside I64 (size w.code w.routine c2 (array_register (w.layout.array y.number)))) o
      (held_at t.rate c2.scalars ve o j)) Index (place_at w.code p)
      (set_at t.rate c2 d (found_items t.rate (item w.code w.routine c2 (array_register (w.layout.array y.number))) c2.scalars ve o j))) em in
      let is2 = ap (λ o. moved_by (offender (gang_of w) (is_outside I64 o) a (held_at t.rate c2.scalars ve a j)) Index (place_at w.code p)
      (set_at t.rate c2 d (found_items t.rate (item w.code w.routine c2 (array_register (w.layout.array y.number))) c2.scalars ve a j)))
      (size_at w y.ty.rate y c2 pc ready.sizes at fy.is) in
      let is3 = ap (λ o. moved_by (offender (gang_of w) (is_outside I64 g) a (held_at t.rate c2.scalars ve a j)) Index (place_at w.code p)
      (set_at t.rate c2 d (found_items t.rate o c2.scalars ve a j))) (item_at w y.ty.rate y c2 pc s at fy.is stands) in
      let is4 = ap (λ o. moved_by o Index (place_at w.code p) (set_at t.rate c2 d Y)) (outside_is w t.rate e (is_whole e) z a c2.scalars ve j g refl fy.few hold.holds) in
      let is5 = ap (λ o. moved_by (offender (gang_of w) (is_outside e g) a z) Index o (set_at t.rate c2 d Y)) (place_named w.code w.routine c2 p sp place) in
      write_leaves w ready u c c2 st pc pc' n q a s _ t.rate t.elem (offender (gang_of w) (is_outside e g) a z) Index sp (held (gang_of w) w.frame (Element y e z) a s) Y h at to has stands keeps masks le
      (λ none. read_is w t.rate y.ty.rate y e (is_whole e) z a s c2.scalars ve j g re refl fy.few some (λ r h. (inside r h).0) hold.holds none)
      (filled_items t.rate (get_at w y.ty.rate y s) c2.scalars ve a j)
      (line ∙ is1 ∙ is2 ∙ is3 ∙ is4 ∙ is5)
