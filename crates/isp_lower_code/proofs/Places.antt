-- A place: its index is taken, what it holds is read, and it is written.
use Rattle.std.proofs.Common.{◌≡◌, ℕ, ◌+◌, ◌≤◌, length, Bool, true, false, refl, sym, ap, subst, ◌∙◌, arith, inl, inr}
use Rattle.isp_base.specs.Maps.{on}
use Rattle.isp_base.specs.Sets.{Mask}
use Rattle.isp_base.specs.declared.types.Elem.TheVariants.{I64}
use Rattle.isp_base.specs.declared.types.Rate.{Rate}
use Rattle.isp_base.specs.declared.types.Rate.TheVariants.{Uniform, Varying}
use Rattle.isp_code.specs.Conf.{Conf}
use Rattle.isp_typed.specs.Fine.{heads}
use Rattle.isp_typed.specs.Typed.{TExpr, TPlace, t_variable, t_element, type_of}
use Rattle.isp_meaning.specs.State.{State, tick}
use Rattle.isp_meaning.specs.Payloads.{Payload, One, Each}
use Rattle.isp_meaning.specs.Places.{Place}
use Rattle.isp_meaning.specs.Expressions.{place}
use Rattle.isp_lower_code.specs.Setting.{Setting, IsSettled, gang_of, calls_of, AreAt}
use Rattle.isp_lower_code.specs.Runs.{Enters, Runs}
use Rattle.isp_lower_code.specs.Code.{expr_code, index_code}
use Rattle.isp_lower_code.specs.Elements.{access_by, index_by, is_run, start_in, takes_row}
use Rattle.isp_lower_code.specs.Found.{index}
use Rattle.isp_lower_code.specs.RowAccess.{row_place}
use Rattle.isp_lower_code.specs.Spans.{index_places}
use Rattle.isp_lower_code.specs.Held.{held_at}
use Rattle.isp_lower_code.specs.Rated.{Reaches}
use Rattle.isp_lower_code.proofs.Base.{comes_none, at_to, spares_all}
use Rattle.isp_lower_code.proofs.Found.{few, index_low}
use Rattle.isp_lower_code.proofs.Nodes.{enters_part}
use Rattle.isp_lower_code.proofs.Consecutive.{IndexHolds, InReach, lanes_by, run_lane, Counting, counter_is, run_is}
use Rattle.isp_lower_code.proofs.ElementRuns.{AccessHolds, PlaceHolds}
use Rattle.isp_lower_code.proofs.Reached.{access_runs}
use Rattle.isp_lower_code.proofs.RowScalars.{scalar_stays, takes}
use Rattle.isp_lower_code.proofs.Exprs.{expr_runs}
use Rattle.isp_lower_code.proofs.Kept.{Keeps, held_kept, low_spare}
use Rattle.isp_lower_code.proofs.Parts.{ExprParts, PlaceParts}
use Rattle.isp_lower_code.specs.Asks.{beyond, is_lane}

module _ (w : Setting) (ready : IsSettled w) where
  -- the index goes first
  pub place_runs : (z : TPlace) (pc p k n d q : ℕ) (a : Mask) (s : State) (c : Conf) → d ≤ 30 → PlaceParts w z n
      → AreAt w.routine.code pc (index_code w.layout z pc p k n) → AreAt w.code.places p (index_places w.layout z) → Enters w pc k n a s c q
      → Runs w c (pc + length (index_code w.layout z pc p k n)) n (d + q) (PlaceHolds w ready z n a) (place (gang_of w) w.frame (calls_of w) z a s)
  place_runs (t_variable v t sv) pc p k n d q a s c le fit has places b = record {
    conf = c;
    steps = 0;
    comes = comes_none w c;
    at = at_to w c pc _ b.at (omega arith);
    stands = b.stands;
    spares = spares_all w n c;
    masks = λ r lt. refl;
    holds = refl;
    bound = omega (arith, b.used);
  }
  place_runs (t_element y i t sv) pc p k n d q a s c le fit has places b =
      let fi : heads i ≤ 1 = few w i n fit.4 in
      let xi = expr_code w.layout i pc p k n in
      access_runs w ready y i t sv n fit pc p k (32 + q) (d + q) a (tick s) c xi (omega arith) (enters_part w ready pc k n (32 + q) q a s c (omega arith) b) has places
      (λ at. expr_runs w ready i pc p k n (32 + q) (1 + (1 + (d + q))) a (tick s) c fit.4 at places (omega arith) (enters_part w ready pc k n (32 + q) q a s c (omega arith) b))

  pub index_kept : (z : Bool) (br r : Rate) (i : TExpr) (n : ℕ) (a : Mask) (m : Payload) (c c' : Conf) → (z ≡ true → is_run w.layout br i ≡ true)
      → Reaches (type_of i).rate r → ExprParts w i n → Keeps w (n + 1) c c' → IndexHolds z br r a (index_by w.layout z r i n) m c.scalars c.vectors
      → IndexHolds z br r a (index_by w.layout z r i n) m c'.scalars c'.vectors
  index_kept false br r i n a m c c' so re fit k h = record { holds = h.holds ∙ sym (held_kept w r (n + 1) c c' a (index w.layout r i n) k (index_low w ready r i n re fit)); fits = tt }
  index_kept true br r i n a m c c' so re fit k h =
      let d = start_in w.layout (is_lane i) n in
      let e : c.scalars d ≡ c'.scalars d = start (run_is w.layout br i (so refl)).1 in
      record { holds = h.holds ∙ go r d e; fits = (h.fits.0, h.fits.1, subst (InReach a) e h.fits.2) }
    where
      start : Counting w.layout i → c.scalars (start_in w.layout (is_lane i) n) ≡ c'.scalars (start_in w.layout (is_lane i) n)
      start (inl h) =
          subst (λ u. c.scalars (start_in w.layout (is_lane u) n) ≡ c'.scalars (start_in w.layout (is_lane u) n)) (sym h.1)
          (sym (k.scalars_stay (w.layout.spare Uniform I64 n) (low_spare w Uniform I64 (n + 1) n (omega arith))))
      start (inr h) =
          subst (λ u. c.scalars (start_in w.layout (is_lane u) n) ≡ c'.scalars (start_in w.layout (is_lane u) n)) (sym h.3)
          (sym (k.place_stays h.0 (counter_is w.layout h.1.rate h.0 h.4).run))

      go : (u : Rate) (d : ℕ) → c.scalars d ≡ c'.scalars d → held_at u c.scalars (lanes_by true c.scalars c.vectors) a d ≡ held_at u c'.scalars (lanes_by true c'.scalars c'.vectors) a d
      go Uniform d e = ap One e
      go Varying d e = ap (λ v. Each (on a (run_lane v))) e

  -- and stays known
  pub place_kept : (z : TPlace) (n : ℕ) (a : Mask) (at : Place) (c c' : Conf) → PlaceParts w z n → Keeps w (beyond z n) c c' → PlaceHolds w ready z n a at c → PlaceHolds w ready z n a at c'
  place_kept (t_variable v t sv) n a at c c' fit k h = h
  place_kept (t_element y i t sv) n a at c c' fit k h = go (takes_row (w.layout.is_row i n) y.ty.rate t.rate) refl h
    where
      go : (d : Bool) → takes_row (w.layout.is_row i n) y.ty.rate t.rate ≡ d → AccessHolds w ready (access_by d (is_run w.layout y.ty.rate i)) y i t n a at c
          → AccessHolds w ready (access_by d (is_run w.layout y.ty.rate i)) y i t n a at c'
      go false e h = (h.0, h.1, index_kept (is_run w.layout y.ty.rate i) y.ty.rate t.rate i n a _ c c' (λ e. e) fit.2 fit.4 k h.2)
      go true e h =
          let it = ready.rows i n fit.6 (takes w.layout y.ty.rate t.rate i n e).taken in
          h ∙ ap (λ u. row_place y (type_of i).elem u a) (sym (scalar_stays w n (w.layout.row_at i n) c c' k it.scalar))
