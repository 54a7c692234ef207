-- The templates that load: an element, an element a lane, and elements in a row.
use Rattle.std.proofs.Common.{◌≡◌, ℕ, suc, ◌/◌, ◌%◌, ◌<◌, ◌⊎◌, List, Some, Bool, true, false, not, refl, sym, ap, ap₂, ◌∙◌, subst}
use Rattle.std.specs.Prelude.{nat_eq, nat_lt, if◌then◌else◌}
use Rattle.std.proofs.lemmas.Bool.{ltb-true, not-false}
use Rattle.isp_base.specs.Maps.{on}
use Rattle.isp_base.specs.Sets.{Mask}
use Rattle.isp_base.specs.declared.types.Elem.{Elem}
use Rattle.isp_code.specs.Conf.{Conf}
use Rattle.isp_code.specs.Lines.{size}
use Rattle.isp_code.specs.declared.register.Register.{Register}
use Rattle.isp_wasm_meaning.specs.Syntax as syntax
use Rattle.isp_wasm_meaning.specs.Syntax.{Expr, Code, Load, If, Skip, Then, Local}
use Rattle.isp_wasm_meaning.specs.Meaning.{State, Result, Trapped, run, value, behind, then_to, flag, set_local, binary, count}
use Rattle.isp_wasm_meaning.specs.Ladder.{Meets}
use Rattle.isp_wasm.specs.Places as place
use Rattle.isp_wasm.specs.Places.{Setting, Place, Counter, Spare, IsKept, elem, shape_of, size_of, bytes_of, gang}
use Rattle.isp_wasm.specs.Rows.{as_cell}
use Rattle.isp_wasm.specs.Lanes.{store_at}
use Rattle.isp_wasm.specs.Templates.{lane_loads, set_lane, is_there, base_at, lane_address, spare, fault, is_member}
use Rattle.isp_wasm.specs.Standing.{all_of, Stands, Holds, IsSettled, the_machine, vector_register}
use Rattle.isp_wasm.proofs.Frames.{there, elsewhere}
use Rattle.isp_wasm.proofs.Parts.{Kept, Told}
use Rattle.isp_wasm.proofs.Cells.{cell_written}
use Rattle.isp_wasm.proofs.MaskWords.{member_is}
use Rattle.isp_wasm.proofs.LaneLoops.{fault_of, Sound, Refused, IsLaneCode, lanes_run, Filled, vectors_at, filled_skip, filled_set, none_filled}
use Rattle.isp_wasm.proofs.Elements.{IsFound, many, base_found, load_is, element_fits}

-- what the test of an index answers
pub there_cut : (b : Bool) (f t : Result) → behind (if nat_eq (flag b) 0 then f else t) ≡ behind (if b then t else f)
there_cut true f t = refl
there_cut false f t = refl

module _ (w : Setting) (ready : IsSettled w) (fuel n k : ℕ) (call : ℕ → List ℕ → State → Result) (pc : ℕ) (c : Conf) (s : State) (st : Stands w pc c s) where
  abbrev pub Good : ℕ → Conf → Result → Type 0
  Good pc = Meets (the_machine w) (w.local Counter) n fuel (Stands w pc) (suc k)

  -- the test of an index
  pub test_is : (a : Register) (l : ℕ → ℕ) (e : Expr) (x : ℕ) → l (w.local (place.Count a.number)) ≡ w.sizes (store_at w a.number 0) → value l e ≡ x
      → value l (is_there w a e) ≡ flag (nat_lt x (w.sizes (store_at w a.number 0)))
  test_is a l e x size index = ap₂ (λ u v. flag (nat_lt u v)) index size

  -- ---- lanes are loaded

  module _ (d : ℕ) (a m : Register) (q : ℕ) (el : IsFound w ready a (elem w (vector_register d))) (index : ℕ → Expr) (x : ℕ → ℕ) where
    abbrev pub t : Elem
    t = elem w (vector_register d)

    abbrev pub got : ℕ → ℕ
    got p = all_of w c (store_at w a.number p) (x p)

    abbrev pub bad : Mask
    bad p = not (nat_lt (x p) (many w ready a t el))

    abbrev pub Full : ℕ → State → Type 0
    Full = Filled w ready fuel call c s d m got

    abbrev pub body : ℕ → Code
    body p = If (is_there w a (index p)) (Then (Load (bytes_of (elem w a)) (spare w (elem w a)) (lane_address w a p (index p)) 0) (set_lane w (vector_register d) p (Local (spare w (elem w a))))) (fault w 1 q (syntax.Const32 p))

    module _ (index_is : (p : ℕ) → p < gang w → c.masks m.number p ≡ true → (l : ℕ → ℕ) → Holds w c.scalars (vectors_at w ready fuel call c s d m got p) c.masks l → value l (index p) ≡ x p) where
      load_lane : (p : ℕ) (u : State) → p < gang w → (f : Full p u) → c.masks m.number p ≡ true → bad p ≡ false → Kept (Full (suc p)) (run fuel call (body p) u)
      load_lane p u low f on good =
          let at : State = record s { locals = f.locals } in
          let lt = ltb-true (x p) (many w ready a t el) (not-false (nat_lt (x p) (many w ready a t el)) good) in
          let here = index_is p low on f.locals f.holds in
          let base = base_found w ready a t el p low (all_of w c) s.memory s.size st.keeps f.locals (x p) lt (f.holds.bases a.number) in
          let part = place.Vector d (p / count (shape_of t)) in
          let loaded = set_local (spare w (elem w a)) (got p) at in
          let new = binary (syntax.Replace (shape_of t) (p % count (shape_of t))) (loaded.locals (w.local part)) (value loaded.locals (as_cell t (Local (spare w (elem w a))))) in
          record {
            state = set_local (w.local part) new loaded;
            fell =
                ap (run fuel call (body p)) f.is
                ∙ ap (λ v. behind (if nat_eq v 0 then run fuel call (fault w 1 q (syntax.Const32 p)) at else run fuel call (Then (Load (bytes_of (elem w a)) (spare w (elem w a)) (lane_address w a p (index p)) 0) (set_lane w (vector_register d) p (Local (spare w (elem w a))))) at))
                (test_is a f.locals (index p) (x p) (f.holds.counts a.number) here ∙ ap flag (not-false (nat_lt (x p) (many w ready a t el)) good))
                ∙ ap (λ r. behind (then_to r (run fuel call (set_lane w (vector_register d) p (Local (spare w (elem w a)))))))
                (load_is w ready a t el p low (all_of w c) s.memory s.size st.keeps f.locals (base_at w a p) (index p) (x p) base here fuel call s.out s.globals (spare w (elem w a)) lt);
            holds =
                filled_set w ready fuel call c s d m got p low f.locals (set_local (w.local part) new loaded).locals (value loaded.locals (as_cell t (Local (spare w (elem w a))))) f.holds on
                (cell_written t loaded.locals (Local (spare w (elem w a))) (got p) (there w ready (Spare (size_of (elem w a)) 0) (got p) at) (element_fits w ready a t el p low (all_of w c) s.memory s.size st.keeps (x p) lt))
                (there w ready part new loaded ∙ ap (λ v. binary (syntax.Replace (shape_of t) (p % count (shape_of t))) v (value loaded.locals (as_cell t (Local (spare w (elem w a)))))) (elsewhere w ready (Spare (size_of (elem w a)) 0) part (got p) at (λ e. cc)))
                (λ y kept ne. elsewhere w ready part y new loaded ne ∙ elsewhere w ready (Spare (size_of (elem w a)) 0) y (got p) at (λ e. subst IsKept e kept));
          }

      fail_lane : (p : ℕ) (u : State) → p < gang w → (f : Full p u) → c.masks m.number p ≡ true → bad p ≡ true → run fuel call (body p) u ≡ Trapped (Some (fault_of w fuel call c.masks m bad 1 q body Full p)) u
      fail_lane p u low f on wrong =
          ap (run fuel call (body p)) f.is
          ∙ ap (λ v. behind (if nat_eq v 0 then run fuel call (fault w 1 q (syntax.Const32 p)) (record s { locals = f.locals }) else run fuel call (Then (Load (bytes_of (elem w a)) (spare w (elem w a)) (lane_address w a p (index p)) 0) (set_lane w (vector_register d) p (Local (spare w (elem w a))))) (record s { locals = f.locals })))
          (test_is a f.locals (index p) (x p) (f.holds.counts a.number) (index_is p low on f.locals f.holds) ∙ ap flag (off (nat_lt (x p) (many w ready a t el)) wrong))
          ∙ ap (Trapped (Some (fault_of w fuel call c.masks m bad 1 q body Full p))) (sym f.is)
        where
          off : (b : Bool) → not b ≡ true → b ≡ false
          off true h = absurd cc
          off false h = refl

      pub lane_code : IsLaneCode w fuel call c.masks m bad 1 q body Full
      lane_code =
          record {
            member = λ p u f. ap (λ v. value v.locals (is_member w m p)) f.is ∙ member_is w c.scalars (vectors_at w ready fuel call c s d m got p) c.masks f.locals f.holds m p;
            skips = λ p u low f off. filled_skip w ready fuel call c s d m got p u f off;
            works = load_lane;
            fails = fail_lane;
          }

      pub lanes_loaded : Kept (Sound w fuel call c.masks m bad 1 q body Full (gang w)) (run fuel call (lane_loads w (vector_register d) a index m q) s) ⊎ Told (Refused w fuel call c.masks m bad 1 q body Full) (run fuel call (lane_loads w (vector_register d) a index m q) s)
      lanes_loaded = lanes_run w fuel call c.masks m bad 1 q body Full lane_code s (none_filled w ready fuel call c s d m got st.holds)
