-- Declared variables and arrays.
use Rattle.std.proofs.Common.{◌≡◌, ℕ, ◌+◌, ◌%◌, ◌^◌, ◌≤◌, List, [], ◌∷◌, ◌++◌, length, Some, None, Bool, true, false, refl, sym, ap, ◌∙◌, subst, arith, length-append}
use Rattle.std.specs.Prelude.{slice_get, if◌then◌else◌}
use Rattle.isp_base.specs.Maps.{Lanes, on, put}
use Rattle.isp_base.specs.Sets.{Mask}
use Rattle.isp_base.specs.Values.{number, width, wrap}
use Rattle.isp_base.specs.declared.trap.TrapKind.TheVariants.{Divide}
use Rattle.isp_base.specs.declared.types.Elem.{Elem}
use Rattle.isp_base.specs.declared.types.Elem.TheVariants.{Bool as Truth, I8, U8, I16, U16, I32, U32, I64, U64}
use Rattle.isp_base.specs.declared.types.Rate.{Rate}
use Rattle.isp_base.specs.declared.types.Rate.TheVariants.{Uniform, Varying}
use Rattle.isp_code.specs.Calls.{no_place}
use Rattle.isp_code.specs.Conf.{Conf, Go}
use Rattle.isp_code.specs.Lines.{set_array, set_own}
use Rattle.isp_code.specs.Lines as lines
use Rattle.isp_code.specs.declared.instr.Instr.TheVariants as instr
use Rattle.isp_typed.specs.Fine.{heads}
use Rattle.isp_typed.specs.Typed.{TItem, t_plain, t_with_value, t_with_size}
use Rattle.isp_typed.specs.declared.variable.ArrayVariable.{ArrayVariable}
use Rattle.isp_meaning.specs.State.{State, tick}
use Rattle.isp_meaning.specs.Payloads.{One, Each}
use Rattle.isp_meaning.specs.Outcomes.{Gives}
use Rattle.isp_meaning.specs.Places.{written}
use Rattle.isp_meaning.specs.Simple.{cleared, item, items}
use Rattle.isp_lower_code.specs.Layout.{mask_register, array_register}
use Rattle.isp_lower_code.specs.Setting.{ArrayFitsAt, Setting, IsSettled, gang_of, calls_of, AreAt, Holds}
use Rattle.isp_lower_code.specs.Held.{everywhere}
use Rattle.isp_lower_code.specs.Runs.{Enters, Ok, DoneRuns}
use Rattle.isp_lower_code.specs.Instructions.{constant}
use Rattle.isp_lower_code.specs.Items.{zero_code, zero_each, item_code, item_places, items_code, items_places}
use Rattle.isp_lower_code.proofs.Base.{MayWrite, are_front, are_back, comes_none, next_at, at_to, spares_all}
use Rattle.isp_lower_code.proofs.Values.{wrap_bits}
use Rattle.isp_lower_code.proofs.Found.{few}
use Rattle.isp_lower_code.proofs.Lines.{set_at}
use Rattle.isp_lower_code.proofs.Rates.{on_everywhere}
use Rattle.isp_lower_code.proofs.Combine.{set_goes, write_runs}
use Rattle.isp_lower_code.proofs.Nodes.{enters_part}
use Rattle.isp_lower_code.proofs.Variables.{variable_runs}
use Rattle.isp_lower_code.proofs.Writes.{put_through, written_stands, step_done}
use Rattle.isp_lower_code.proofs.Done.{done_after, done_on, variable_done, variable_spares, splat_done}
use Rattle.isp_lower_code.proofs.Parts.{ItemParts, ItemsParts, ZeroFits}

zero_is : (t : Elem) → wrap t (number t 0) ≡ 0
zero_is Truth = wrap_bits Truth 0
zero_is I8 = wrap_bits I8 0
zero_is U8 = wrap_bits U8 0
zero_is I16 = wrap_bits I16 0
zero_is U16 = wrap_bits U16 0
zero_is I32 = wrap_bits I32 0
zero_is U32 = wrap_bits U32 0
zero_is I64 = wrap_bits I64 0
zero_is U64 = wrap_bits U64 0

module _ (w : Setting) (ready : IsSettled w) where
  -- ---- without a value

  -- a varying one, from a spare scalar
  made_each : (t : Elem) (v : ℕ) (pc k n q : ℕ) (a : Mask) (s : State) (c : Conf) → ZeroFits w Varying t v n → MayWrite w Varying v
      → AreAt w.routine.code pc (zero_each w.layout false t v k n) → Enters w pc k n a s c q
      → DoneRuns w c (pc + 2) n q (Gives tt (written Varying v a (One 0) (tick s)))
  made_each t v pc k n q a s c fit other has b =
      let d = w.layout.spare Uniform t n in
      let e = w.layout.variable Varying v in
      let ok : Ok w c (pc + 1) n (1 + q) (Holds Uniform a d (One 0)) (tick s) = write_runs w ready c c 0 pc (pc + 1) n (1 + q) a (tick s)
      (constant d t 0) Uniform t None Divide no_place (One 0) (One 0) (comes_none w c) b.at refl has.0 b.stands (spares_all w n c)
      (λ g l. refl) (omega (arith, b.used)) refl refl
      (ap (λ u. Go (set_at Uniform c d (One (wrap u (number t 0))))) fit.0 ∙ ap (λ z. Go (set_at Uniform c d (One z))) (zero_is t)) in
      splat_done w ready v (One 0) a (tick s) c ok.conf ok.steps (pc + 1) (pc + 2) k d n q ok.comes ok.at (omega arith) has.1.0 ok.stands ok.spares ok.masks (ok.masks k b.low ∙ b.mask) (omega (arith, ok.bound)) ok.holds other.0

  zero_runs : (r : Rate) (t : Elem) (v : ℕ) (pc k n q : ℕ) (a : Mask) (s : State) (c : Conf) → ZeroFits w r t v n → MayWrite w r v
      → AreAt w.routine.code pc (zero_code w.layout r t v k n) → Enters w pc k n a s c q
      → DoneRuns w c (pc + length (zero_code w.layout r t v k n)) n q (Gives tt (written r v a (One 0) (tick s)))
  zero_runs Uniform t v pc k n q a s c fit other has b =
      let d = w.layout.variable Uniform v in
      let c3 = set_at Uniform c d (One 0) in
      step_done w ready c c c3 0 pc (pc + 1) n q (constant d t 0) None Divide no_place (One 0) (tick s) (written Uniform v a) (comes_none w c) b.at refl has.0
      (ap (λ u. Go (set_at Uniform c d (One (wrap u (number t 0))))) fit ∙ ap (λ z. Go (set_at Uniform c d (One z))) (zero_is t)) refl (set_goes w ready Uniform c d (One 0) pc b.at) b.stands
      (λ none. written_stands w ready Uniform v c a (One 0) (tick s) (One 0) b.stands refl other) (variable_spares w ready Uniform v n c (One 0) other.1) (λ g l. refl) (omega (arith, b.used)) (omega (arith, b.used))
  zero_runs Varying t v pc k n q a s c fit other has b = go (w.layout.kept Varying t 0) refl has
    where
      none : 0 % 2 ^ width t ≡ 0
      none = sym (wrap_bits t 0) ∙ zero_is t

      go : (z : Bool) → w.layout.kept Varying t 0 ≡ z → AreAt w.routine.code pc (zero_each w.layout z t v k n) → DoneRuns w c (pc + length (zero_each w.layout z t v k n)) n q (Gives tt (written Varying v a (One 0) (tick s)))
      go true e at =
          variable_done w ready Varying v (One 0) a (tick s) c c 0 pc (pc + 1) k (w.layout.constant Varying t 0) n q (comes_none w c) b.at refl at.0 b.stands (spares_all w n c) (λ g l. refl) b.mask (omega (arith, b.used))
          (ap Each (sym (on_everywhere (gang_of w) 0 a (λ p h. (b.inside p h).0)) ∙ ap (λ m. on a (everywhere (gang_of w) m)) (sym none) ∙ ap (on a) (sym (b.stands.constants Varying t 0 e)))) other
      go false e at = made_each t v pc k n q a s c fit other at b

  -- ---- arrays

  cleared_runs : (r : Rate) (b : ArrayVariable) (pc k n q : ℕ) (a : Mask) (s : State) (c : Conf) → ArrayFitsAt w r b
      → slice_get w.routine.code pc ≡ Some (instr.Clear (array_register (w.layout.array b.number)) (mask_register k)) → Enters w pc k n a s c q
      → DoneRuns w c (pc + 1) n q (Gives tt (cleared w.frame r b.number a (tick s)))
  cleared_runs Uniform y pc k n q a s c fit has b =
      let A = w.layout.array y.number in
      let N = c.home.named A in
      let c3 = set_array c (array_register A) (λ e. 0) in
      let en : N ≡ w.frame.named y.number = ap (λ h. h.named A) b.at.home_is ∙ fit.1 in
      step_done w ready c c c3 0 pc (pc + 1) n q (instr.Clear (array_register A) (mask_register k)) None Divide no_place (One 0) (tick s) (λ m. cleared w.frame Uniform y.number a) (comes_none w c) b.at refl has
      (ap (λ z. Go (lines.cleared w.code w.routine c z (array_register A) (mask_register k))) fit.0) refl (next_at w c c3 pc b.at refl refl refl) b.stands
      (λ none. record {
        uniforms = b.stands.uniforms;
        varying = b.stands.varying;
        result = b.stands.result;
        results = b.stands.results;
        own_arrays =
            b.stands.own_arrays;
        arrays_are = ap (λ z. put z N (λ e. 0)) b.stands.arrays_are
            ∙ ap (λ z. put s.arrays z (λ e. 0)) en;
        out_is = b.stands.out_is;
        run = b.stands.run;
        known = b.stands.known;
        constants = b.stands.constants;
      })
      (spares_all w n c) (λ g l. refl) (omega (arith, b.used)) (omega (arith, b.used))
  cleared_runs Varying y pc k n q a s c fit has b =
      let A = w.layout.array y.number in
      let F : ℕ → Lanes = λ e p. if c.masks k p then 0 else c.own A e p in
      let G : ℕ → Lanes = λ e p. if a p then 0 else s.own y.number e p in
      let c3 = set_own c (array_register A) F in
      let ef : F ≡ G = ap (λ (m : Mask). (λ (e p : ℕ). if m p then 0 else c.own A e p)) b.mask ∙ ap (λ (f : ℕ → Lanes). (λ (e p : ℕ). if a p then 0 else f e p)) (b.stands.own_arrays y.number) in
      step_done w ready c c c3 0 pc (pc + 1) n q (instr.Clear (array_register A) (mask_register k)) None Divide no_place (One 0) (tick s) (λ m. cleared w.frame Varying y.number a) (comes_none w c) b.at refl has
      (ap (λ z. Go (lines.cleared w.code w.routine c z (array_register A) (mask_register k))) fit.0) refl (next_at w c c3 pc b.at refl refl refl) b.stands
      (λ none. record {
        uniforms = b.stands.uniforms;
        varying = b.stands.varying;
        result = b.stands.result;
        results = b.stands.results;
        own_arrays =
            λ v. put_through c.own s.own w.layout.array y.number F G ready.apart.arrays ef v (b.stands.own_arrays v);
        arrays_are = b.stands.arrays_are;
        out_is =
            b.stands.out_is;
        run = b.stands.run;
        known = b.stands.known;
        constants = b.stands.constants;
      })
      (spares_all w n c) (λ g l. refl) (omega (arith, b.used)) (omega (arith, b.used))

  -- ---- items

  item_runs : (x : TItem) (pc p k n q : ℕ) (a : Mask) (s : State) (c : Conf) → ItemParts w n x
      → AreAt w.routine.code pc (item_code w.layout x pc p k n) → AreAt w.code.places p (item_places w.layout x) → Enters w pc k n a s c q
      → DoneRuns w c (pc + length (item_code w.layout x pc p k n)) n q (item (gang_of w) w.frame (calls_of w) x a s)
  item_runs (t_plain v t sp) pc p k n q a s c fit has places b = zero_runs t.rate t.elem v pc k n q a s c fit.0 fit.1 has b
  item_runs (t_with_value v t x sp) pc p k n q a s c fit has places b =
      let fx : heads x ≤ 1 = few w x n fit.2 in
      variable_runs w ready t.rate t.elem v x pc p k n (32 + q) q a (tick s) c fit.3 fit.0 fit.1 fit.2 has places (omega arith) (enters_part w ready pc k n (32 + q) q a s c (omega arith) b)
  item_runs (t_with_size y sp) pc p k n q a s c fit has places b = cleared_runs y.ty.rate y pc k n q a s c (ready.arrays y fit).is has.0 b

  pub items_run : (xs : List TItem) (pc p k n q : ℕ) (a : Mask) (s : State) (c : Conf) → ItemsParts w n xs
      → AreAt w.routine.code pc (items_code w.layout xs pc p k n) → AreAt w.code.places p (items_places w.layout xs) → Enters w pc k n a s c q
      → DoneRuns w c (pc + length (items_code w.layout xs pc p k n)) n q (items (gang_of w) w.frame (calls_of w) xs a s)
  items_run [] pc p k n q a s c fit has places b = record {
    conf = c;
    steps = 0;
    comes = comes_none w c;
    at = at_to w c pc _ b.at (omega arith);
    stands = b.stands;
    spares = spares_all w n c;
    masks = λ r lt. refl;
    bound = omega (arith, b.used);
  }
  items_run (x ∷ xs) pc p k n q a s c fit has places b =
      let cx = item_code w.layout x pc p k n in
      let pc1 = pc + length cx in
      let p1 = p + length (item_places w.layout x) in
      let rest = items_code w.layout xs pc1 p1 k n in
      let to : pc1 + length rest ≡ pc + length (cx ++ rest) = omega (arith, length-append cx rest) in
      done_on w ready c pc1 n q (item (gang_of w) w.frame (calls_of w) x a s) (λ d s1. items (gang_of w) w.frame (calls_of w) xs a s1) (pc + length (cx ++ rest)) n
      (item_runs x pc p k n q a s c fit.0 (are_front w.routine.code pc cx rest has) (are_front w.code.places p (item_places w.layout x) _ places) b)
      (λ s1 ok.
      done_after w ready c ok.conf ok.steps (pc + length (cx ++ rest)) n q _ ok.comes ok.spares ok.masks
      (subst (λ g. DoneRuns w ok.conf g n (ok.steps + q) (items (gang_of w) w.frame (calls_of w) xs a s1)) to
      (items_run xs pc1 p1 k n (ok.steps + q) a s1 ok.conf fit.1 (are_back w.routine.code pc cx rest has)
      (are_back w.code.places p (item_places w.layout x) _ places)
      (record {
        at = ok.at;
        mask = ok.masks k b.low ∙ b.mask;
        some = b.some;
        inside = b.inside;
        stands = ok.stands;
        used = ok.bound;
        low = b.low;
      }))))
