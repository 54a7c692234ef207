-- A packed store and a packed load leave the number of elements that they pass, given what holds of their parts.
use Rattle.std.proofs.Common.{◌≡◌, ℕ, ◌+◌, ◌<◌, ◌≤◌, [], ◌∷◌, ◌++◌, length, Some, Bool, true, false, refl, sym, ap, ◌∙◌, subst, arith, length-append, inl}
use Rattle.std.specs.Prelude.{slice_get}
use Rattle.isp_base.specs.Cross.{rank, packed_outside}
use Rattle.isp_base.specs.Sets.{Mask, lowest}
use Rattle.isp_base.specs.Values.{number}
use Rattle.isp_base.specs.declared.trap.TrapKind.TheVariants.{Index}
use Rattle.isp_base.specs.declared.types.Elem.TheVariants.{I32, I64}
use Rattle.isp_base.specs.declared.types.Rate.TheVariants.{Uniform, Varying}
use Rattle.isp_base.specs.declared.types.Span.{Span}
use Rattle.isp_code.specs.Conf.{Conf}
use Rattle.isp_meaning.specs.State.{State, tick, extent}
use Rattle.isp_meaning.specs.Payloads.{Payload, One, Each, sole, mapped}
use Rattle.isp_meaning.specs.Outcomes.{Gives, bind, checked}
use Rattle.isp_meaning.specs.Places.{written}
use Rattle.isp_meaning.specs.Expressions.{first_element}
use Rattle.isp_meaning.specs.Expressions as meant
use Rattle.isp_typed.specs.Fine.{heads}
use Rattle.isp_typed.specs.declared.variable.ArrayVariable.{ArrayVariable}
use Rattle.isp_typed.specs.Typed.{TExpr}
use Rattle.isp_typed.specs.Typed.{t_packed_store, t_packed_load, TBase, t_whole, t_from, base_array}
use Rattle.isp_typed.specs.Typed.{type_of}
use Rattle.isp_lower_code.specs.Setting.{ArrayFits, Setting, IsSettled, gang_of, calls_of, AreAt, Holds, IsOther}
use Rattle.isp_lower_code.specs.Runs.{Enters, Runs}
use Rattle.isp_lower_code.specs.Code.{base_register, base_code, expr_code}
use Rattle.isp_lower_code.specs.Found.{operand, operand_of, lift_code, is_whole, whole, whole_of, index}
use Rattle.isp_lower_code.specs.Instructions.{constant, packed_store, packed_load}
use Rattle.isp_lower_code.specs.Spans.{base_places, expr_places}
use Rattle.isp_lower_code.proofs.Base.{are_front, are_back, spares_less}
use Rattle.isp_lower_code.proofs.Access.{as_whole}
use Rattle.isp_lower_code.proofs.Values.{IsFirst, wrap_bits, zero_first}
use Rattle.isp_lower_code.proofs.Combine.{renamed, lift_runs}
use Rattle.isp_lower_code.proofs.Found.{few, index_low}
use Rattle.isp_lower_code.proofs.Targets.{Target, InSlot, target, Leaves, leaves_after, bind_leaves}
use Rattle.isp_lower_code.proofs.Nodes.{enters_part, enters_later, operand_runs}
use Rattle.isp_lower_code.proofs.Kept.{Low, Keeps, low_spare, runs_kept, value_still}
use Rattle.isp_lower_code.proofs.PackedRuns.{first_is, load_leaves, store_leaves}
use Rattle.isp_lower_code.proofs.Parts.{BaseParts, SpareFits}
use Rattle.isp_lower_code.specs.Layout.{is_fixed}
use Rattle.isp_lower_code.specs.Tables.{IsLoadedIn}
use Rattle.isp_lower_code.proofs.Fixed.{fixed_unloaded}
use Rattle.isp_lower_code.proofs.PlainNodes.{means, constant_runs, RunsHere, NodeRuns}
use Rattle.isp_lower_code.proofs.ElementRuns.{whole_runs}

module _ (w : Setting) (ready : IsSettled w) where
  -- ---- packed calls

  -- an index, or 0, as the number of the first element
  abbrev pub BaseRuns : TBase → Type 0
  BaseRuns d =
      (pc p k n q rest : ℕ) (a : Mask) (s : State) (c : Conf) → BaseParts w d n → AreAt w.routine.code pc (base_code w.layout d pc p k n)
      → AreAt w.code.places p (base_places w.layout d) → rest ≤ 30 + q → Enters w pc k n a s c q
      → Runs w c (pc + length (base_code w.layout d pc p k n)) n rest (λ z c'. IsFirst z (c'.scalars (base_register w.layout d n)))
      (first_element (gang_of w) w.frame (calls_of w) d a s)

  pub whole_base : (y : ArrayVariable) (sp : Span) (pc k n q rest : ℕ) (a : Mask) (s : State) (c : Conf) → SpareFits w Uniform I64 n
      → slice_get w.routine.code pc ≡ Some (constant (w.layout.spare Uniform I64 n) I64 0) → rest ≤ 30 + q → Enters w pc k n a s c q
      → Runs w c (pc + 1) n rest (λ z c'. IsFirst z (c'.scalars (w.layout.spare Uniform I64 n)))
      (first_element (gang_of w) w.frame (calls_of w) (t_whole y sp) a s)
  whole_base y sp pc k n q rest a s c ty has le b =
      let r = constant_runs w ready InSlot pc k n q rest a s c I64 0 0 (omega (arith, le)) b ty has (wrap_bits I64 0) in
      record { conf = r.conf; steps = r.steps; comes = r.comes; at = r.at; stands = r.stands; spares = r.spares; masks = r.masks; holds = inl (ap (λ m. number I64 (sole m)) (sym r.holds) ∙ zero_first); bound = r.bound }

  pub from_base : (y : ArrayVariable) (i : TExpr) (sp : Span) → RunsHere w ready i → BaseRuns (t_from y i sp)
  from_base y i sp ih pc p k n q rest a s c fit has places le b =
      let fi : heads i ≤ 1 = few w i n fit.4 in
      let e = (type_of i).elem in
      let z = is_whole e in
      let ci = expr_code w.layout i pc p k n in
      let cw = whole_of w.layout z i k n ci in
      let lift = lift_code w.layout Uniform (type_of i).rate I64 (whole w.layout z i n) k n in
      let to : pc + length cw + length lift ≡ pc + length (cw ++ lift) = omega (arith, length-append cw lift) in
      renamed w ready c _ n rest _ _ (means w ready i a (tick s)) (mapped (as_whole z e)) (λ m. number e (sole m)) (λ m c1 h. first z m c1 refl h)
      (subst (λ g. Runs w c g n rest (Holds Uniform a (index w.layout Uniform i n)) (bind (means w ready i a (tick s)) (λ m s1. Gives (mapped (as_whole z e) m) s1))) to
      (lift_runs w ready c (pc + length cw) k n rest a _ Uniform (type_of i).rate I64 (whole w.layout z i n) fit.2 b.mask b.low (are_back w.routine.code pc cw lift has)
      (whole_runs w ready i z pc k n (32 + q) (1 + rest) a (tick s) c ci refl (omega (arith, le)) (enters_part w ready pc k n (32 + q) q a s c (omega arith) b) fit.4 fit.3 (are_front w.routine.code pc cw lift has)
      (λ at. ih pc p k n (32 + q) (1 + (1 + rest)) a (tick s) c fit.4 at places (omega (arith, le, fi)) (enters_part w ready pc k n (32 + q) q a s c (omega arith) b)))))
    where
      first : (d : Bool) (m : Payload) (c1 : Conf) → is_whole (type_of i).elem ≡ d
          → mapped (as_whole d (type_of i).elem) m ≡ One (c1.scalars (index w.layout Uniform i n))
          → IsFirst (number (type_of i).elem (sole m)) (c1.scalars (index w.layout Uniform i n))
      first d (One x) c1 ed h = subst (IsFirst (number (type_of i).elem x)) (ap sole h) (first_is d (type_of i).elem x ed)
      first d (Each x) c1 ed h = absurd (cc)

  base_fits : (d : TBase) (n : ℕ) → BaseParts w d n → ArrayFits w (base_array d) × ((base_array d).ty.rate ≡ Uniform)
  base_fits (t_whole y sp) n fit = (ready.arrays y fit.0, fit.1)
  base_fits (t_from y i sp) n fit = (ready.arrays y fit.0, fit.1)

  base_low : (d : TBase) (n : ℕ) → BaseParts w d n → Low w Uniform (n + 1) (base_register w.layout d n)
  base_low (t_whole y sp) n fit = low_spare w Uniform I64 (n + 1) n (omega arith)
  base_low (t_from y i sp) n fit = index_low w ready Uniform i n fit.2 fit.4

  same_base : (d : TBase) → base_array d ≡ meant.base_array d
  same_base (t_whole y sp) = refl
  same_base (t_from y i sp) = refl

  pub packed_store_node : (u : Target) (d : TBase) (x : TExpr) (sp : Span) → BaseRuns d → RunsHere w ready x → NodeRuns w ready u (t_packed_store d x sp)
  packed_store_node u d x sp base ih pc p k n q rest a s c fit ty has places le b =
      let fx : heads x ≤ 1 = few w x (n + 1) fit.3 in
      let lk : k < n = b.low in
      let m = n + 1 in
      let y = base_array d in
      let j = base_register w.layout d n in
      let v = operand w.layout Varying x m in
      let to_d = target w.layout u Uniform I32 n in
      let cb = base_code w.layout d pc p k n in
      let pc1 = pc + length cb in
      let p1 = p + length (base_places w.layout d) in
      let p2 = p1 + length (expr_places w.layout x) in
      let cx = expr_code w.layout x pc1 p1 k m in
      let ca = operand_of w.layout Varying x k m cx in
      let last = packed_store to_d (w.layout.array y.number) j v k p2 ∷ [] in
      let end = pc + length (cb ++ (ca ++ last)) in
      let to : pc1 + length ca + 1 ≡ end = omega (arith, length-append cb (ca ++ last), length-append ca last) in
      let h1 : AreAt w.routine.code pc1 (ca ++ last) = are_back w.routine.code pc cb (ca ++ last) has in
      let ha : AreAt w.routine.code pc1 ca = are_front w.routine.code pc1 ca last h1 in
      let pl = are_back w.code.places p (base_places w.layout d) _ places in
      let fits = base_fits d n fit.1 in
      bind_leaves w ready u to_d c pc1 n 2 rest (λ z c'. IsFirst z (c'.scalars j)) (first_element (gang_of w) w.frame (calls_of w) d a (tick s)) _ end n Uniform a
      (base pc p k n (32 + q) (2 + rest) a (tick s) c fit.1 (are_front w.routine.code pc cb _ has) (are_front w.code.places p (base_places w.layout d) _ places) (omega (arith, le)) (enters_part w ready pc k n (32 + q) q a s c (omega arith) b))
      (λ z s1 ok.
      let c1 = ok.conf in
      leaves_after w ready u to_d c c1 ok.steps end n rest Uniform a _ ok.comes ok.spares ok.masks
      (bind_leaves w ready u to_d c1 (pc1 + length ca) m 1 (ok.steps + rest) (λ g c'. Holds Varying a v g c' × Keeps w m c1 c') (means w ready x a s1) _ end n Uniform a
      (runs_kept w c1 (pc1 + length ca) m (1 + (ok.steps + rest)) (Holds Varying a v) (means w ready x a s1) s1 ok.stands (value_still w ready x m a s1 fit.3)
      (operand_runs w ready c1 pc1 k m (1 + (ok.steps + rest)) (1 + (ok.steps + rest)) a s1 Varying (type_of x).elem x cx fit.2 (omega (arith, fx))
      (enters_later w ready pc pc1 k n m (1 + (ok.steps + rest)) q (2 + rest) a s s1 c (omega arith) b ok (omega arith)) ha
      (λ at. ih pc1 p1 k m (1 + (ok.steps + rest)) (1 + (1 + (ok.steps + rest))) a s1 c1 fit.3 at
      (are_front w.code.places p1 (expr_places w.layout x) _ pl) (omega (arith, fx))
      (enters_later w ready pc pc1 k n m (1 + (ok.steps + rest)) q (2 + rest) a s s1 c (omega arith) b ok (omega arith)))))
      (λ g s2 ok2.
      let c2 = ok2.conf in
      let kept : IsFirst z (c2.scalars j) = subst (IsFirst z) (sym (ok2.holds.1.scalars_stay j (base_low d n fit.1))) ok.holds in
      subst (λ o. Leaves w u to_d c1 end n (ok.steps + rest) Uniform a
      (bind (checked (lowest (gang_of w) (packed_outside (extent w.frame o) z a)) Index sp s2 g)
      (λ h s3. Gives (One (rank a (gang_of w))) (meant.packed_kept (gang_of w) (w.frame.named o.number) z a h s3)))) (same_base d)
      (store_leaves w ready u y z g a s2 c1 c2 ok2.steps (pc1 + length ca) end k j v n (ok.steps + rest) p2 sp fits.0 fits.1 b.some ok2.comes ok2.at
      to (are_back w.routine.code pc1 ca last h1).0 (are_back w.code.places p1 (expr_places w.layout x) _ pl).0 ok2.stands
      (spares_less w n m c1 c2 (omega arith) ok2.spares) (λ r h. ok2.masks r (omega arith)) (ok2.masks k (omega arith) ∙ ok.masks k lk ∙ b.mask)
      (omega (arith, ok2.bound)) kept ok2.holds.0))))

  -- no packed load writes a variable that counts lanes or is known
  loaded_other : (v : ℕ) → IsLoadedIn w.layout v → IsOther w v
  loaded_other v h = go (is_fixed w.layout v) refl
    where
      go : (b : Bool) → is_fixed w.layout v ≡ b → IsOther w v
      go false e = e
      go true e = let no : true ≡ false = sym h ∙ fixed_unloaded w ready v e in absurd (cc)

  pub packed_load_node : (u : Target) (d : TBase) (v : ℕ) (sp : Span) → BaseRuns d → NodeRuns w ready u (t_packed_load d v sp)
  packed_load_node u d v sp base pc p k n q rest a s c fit ty has places le b =
      let y = base_array d in
      let j = base_register w.layout d n in
      let to_d = target w.layout u Uniform I32 n in
      let cb = base_code w.layout d pc p k n in
      let pc1 = pc + length cb in
      let p1 = p + length (base_places w.layout d) in
      let last = packed_load to_d (w.layout.array y.number) j (w.layout.variable Varying v) k p1 ∷ [] in
      let end = pc + length (cb ++ last) in
      let to : pc1 + 1 ≡ end = omega (arith, length-append cb last) in
      let fits = base_fits d n fit.1 in
      bind_leaves w ready u to_d c pc1 n 1 rest (λ z c'. IsFirst z (c'.scalars j)) (first_element (gang_of w) w.frame (calls_of w) d a (tick s)) _ end n Uniform a
      (base pc p k n (32 + q) (1 + rest) a (tick s) c fit.1 (are_front w.routine.code pc cb _ has) (are_front w.code.places p (base_places w.layout d) _ places) (omega (arith, le)) (enters_part w ready pc k n (32 + q) q a s c (omega arith) b))
      (λ z s1 ok.
      subst (λ o. Leaves w u to_d c end n rest Uniform a
      (bind (checked (lowest (gang_of w) (packed_outside (extent w.frame o) z a)) Index sp (tick s1)
      (meant.packed_held (w.frame.named o.number) z a s1)) (λ h s3. Gives (One (rank a (gang_of w))) (written Varying v a h s3)))) (same_base d)
      (load_leaves w ready u y z v a (tick s1) c ok.conf ok.steps pc1 end k j n rest p1 sp (loaded_other v fit.2) fits.0 fits.1 b.some ok.comes ok.at
      to (are_back w.routine.code pc cb last has).0 (are_back w.code.places p (base_places w.layout d) _ places).0 ok.stands ok.spares ok.masks
      (ok.masks k b.low ∙ b.mask) (omega (arith, ok.bound)) ok.holds))
