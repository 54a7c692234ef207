-- Runs of elements: lane p has the element that is p places after that of a scalar index. A run does what an access does by an index in
-- each lane, where lane p has the bits of that sum.
use Rattle.std.proofs.Common.{◌≡◌, ℕ, ◌<◌, ◌^◌, [], Option, Some, None, Bool, true, false, refl, sym, ap, ◌∙◌, subst, arith, ℤ, pos, mod-eq_of_lt, ◌⊎◌, inl, inr, eqb-true}
use Rattle.std.specs.Prelude.{◌&&◌, ◌+ℤ◌, if◌then◌else◌, unsigned_abs}
use Rattle.std.proofs.lemmas.Int.{ints}
use Rattle.std.proofs.Math.Path.{fun_ext}
use Rattle.isp_base.specs.Access.{is_beyond, is_outside, element}
use Rattle.isp_base.specs.Cross.{run_index, run_outside, run_places}
use Rattle.isp_base.specs.Maps.{Lanes, on, each1, map1, holds, where_true}
use Rattle.isp_base.specs.Ranges.{IsValue}
use Rattle.isp_base.specs.Sets.{Mask}
use Rattle.isp_base.specs.Types.{gang_width}
use Rattle.isp_base.specs.Values.{number, wrap}
use Rattle.isp_base.specs.declared.types.Elem.TheVariants.{I32, I64}
use Rattle.isp_base.specs.declared.types.Gang.{Gang}
use Rattle.isp_base.specs.declared.types.Rate.{Rate}
use Rattle.isp_base.specs.declared.types.Rate.TheVariants.{Uniform, Varying}
use Rattle.isp_base.proofs.Gangs.{few_width}
use Rattle.isp_base.proofs.Laws.{back_is}
use Rattle.isp_base.proofs.Wraps.{wrap_to-pos}
use Rattle.isp_base.specs.declared.types.Span.{Span}
use Rattle.isp_meaning.specs.Payloads.{Payload, converted}
use Rattle.isp_typed.specs.Typed.{TExpr, t_constant, t_program_index, t_place, t_convert, t_cast, t_unary, t_binary, t_compare, t_logic, t_choose, t_call, t_library, t_packed_store, t_packed_load, t_variable, t_element}
use Rattle.isp_lower_code.specs.Elements.{counts, is_counter, is_run, names}
use Rattle.isp_lower_code.specs.Spans.{expr_places}
use Rattle.isp_lower_code.specs.Held.{at_rate, held_at}
use Rattle.isp_lower_code.specs.Layout.{Layout}
use Rattle.isp_lower_code.specs.Rated.{Reaches}
use Rattle.isp_lower_code.specs.Consecutive.{CountsFrom, RunHolds}
use Rattle.isp_base.specs.declared.types.Ty.{Ty}

-- the index of lane p as one of int64, where that of lane 0 has bits x
abbrev pub run_lane : ℕ → Lanes
run_lane x p = wrap I64 (run_index (number I64 x) p)

-- and the sums are numbers of int64
abbrev pub InReach : Mask → ℕ → Type 0
InReach a x = (p : ℕ) → a p ≡ true → number I64 (run_lane x p) ≡ run_index (number I64 x) p

-- the indices in the lanes, in registers of a rate or as a run
abbrev pub lanes_by : Bool → (ℕ → ℕ) → (ℕ → Lanes) → ℕ → Lanes
lanes_by true scalars vectors = λ i. run_lane (scalars i)
lanes_by false scalars vectors = vectors

-- a run is one of varying elements of an array that all share
abbrev pub RunFits : Bool → Rate → Rate → Mask → ℕ → Type 0
RunFits true br r a x = (br ≡ Uniform) × (r ≡ Varying) × InReach a x
RunFits false br r a x = Unit {0}

-- the indices of a set are these values, given by what scalars and vectors hold
pub record IndexHolds (z : Bool) (br r : Rate) (a : Mask) (x : ℕ) (m : Payload) (scalars : ℕ → ℕ) (vectors : ℕ → Lanes) : Type 0 where
  pub holds : at_rate r a m ≡ held_at r scalars (lanes_by z scalars vectors) a x
  pub fits : RunFits z br r a (scalars x)

-- which index a run has: the number of the lane, or a variable
abbrev pub Counting : Layout → TExpr → Type 0
Counting l i =
    ((sp : Span) × (i ≡ t_program_index sp)) ⊎ ((v : ℕ) × (t : Ty) × (sp : Span) × (i ≡ t_place (t_variable v t sp)) × (is_counter l t.rate v ≡ true))

counting : (l : Layout) (i : TExpr) → counts l i ≡ true → Counting l i
counting l (t_constant v sp) e = absurd (cc)
counting l (t_program_index sp) e = inl (sp, refl)
counting l (t_place (t_variable v t sp)) e = inr (v, t, sp, refl, e)
counting l (t_place (t_element b i t sp)) e = absurd (cc)
counting l (t_convert g x) e = absurd (cc)
counting l (t_cast x t sp) e = absurd (cc)
counting l (t_unary o x t sp) e = absurd (cc)
counting l (t_binary o x y t sp) e = absurd (cc)
counting l (t_compare c x y r sp) e = absurd (cc)
counting l (t_logic g x y r sp) e = absurd (cc)
counting l (t_choose c x y t sp) e = absurd (cc)
counting l (t_call c t) e = absurd (cc)
counting l (t_library f g xs t sp) e = absurd (cc)
counting l (t_packed_store b x sp) e = absurd (cc)
counting l (t_packed_load b v sp) e = absurd (cc)

pub run_is : (l : Layout) (br : Rate) (i : TExpr) → is_run l br i ≡ true → (br ≡ Uniform) × Counting l i
run_is l Uniform i e = (refl, counting l i e)
run_is l Varying i e = absurd (cc)

-- the variable that counts is the layout's, and varying
pub record Counter (l : Layout) (r : Rate) (v : ℕ) : Type 0 where
  pub varying : r ≡ Varying
  pub inside : l.in_run ≡ true
  pub run : l.run ≡ Some v

pub counter_is : (l : Layout) (r : Rate) (v : ℕ) → is_counter l r v ≡ true → Counter l r v
counter_is l Uniform v e = absurd (cc)
counter_is l Varying v e = go l.in_run l.run refl refl e
  where
    go : (b : Bool) (o : Option ℕ) → l.in_run ≡ b → l.run ≡ o → (b && names l o v) ≡ true → Counter l Varying v
    go true (Some i) eb eo h = record { varying = refl; inside = eb; run = eo ∙ ap Some (sym (eqb-true v i h)) }
    go true None eb eo h = absurd (cc)
    go false o eb eo h = absurd (cc)

-- its elements are varying
pub lane_reaches : (r : Rate) → Reaches Varying r → r ≡ Varying
lane_reaches Uniform re = absurd re
lane_reaches Varying re = refl

-- it names no place of the source
pub run_unnamed : (l : Layout) (br : Rate) (i : TExpr) → is_run l br i ≡ true → expr_places l i ≡ []
run_unnamed l br i e = go (run_is l br i e).1
  where
    go : Counting l i → expr_places l i ≡ []
    go (inl h) = ap (expr_places l) h.1
    go (inr h) = ap (expr_places l) h.3

module _ (a : Mask) (x : ℕ) (reach : InReach a x) where
  -- who is outside
  pub run_outside_is : (n : ℕ) → run_outside n (number I64 x) a ≡ where_true (is_outside I64 n) (on a (run_lane x))
  run_outside_is n = fun_ext (λ p. at p (a p) refl)
    where
      at : (p : ℕ) (b : Bool) → a p ≡ b → (a p && is_beyond n (run_index (number I64 x) p)) ≡ holds (is_outside I64 n) (on a (run_lane x) p)
      at p true e =
          ap (λ d. d && is_beyond n (run_index (number I64 x) p)) e ∙ ap (is_beyond n) (sym (reach p e))
          ∙ sym (ap (λ d. holds (is_outside I64 n) (if d then Some (run_lane x p) else None)) e)
      at p false e =
          ap (λ d. d && is_beyond n (run_index (number I64 x) p)) e
          ∙ sym (ap (λ d. holds (is_outside I64 n) (if d then Some (run_lane x p) else None)) e)

  -- where the elements are
  pub run_places_are : run_places (number I64 x) a ≡ map1 (element I64) (on a (run_lane x))
  run_places_are = fun_ext (λ p. at p (a p) refl)
    where
      at : (p : ℕ) (b : Bool) → a p ≡ b → run_places (number I64 x) a p ≡ each1 (element I64) (on a (run_lane x) p)
      at p true e =
          ap (λ d. if d then Some (unsigned_abs (run_index (number I64 x) p)) else None) e ∙ ap (λ z. Some (unsigned_abs z)) (sym (reach p e))
          ∙ sym (ap (λ d. each1 (element I64) (if d then Some (run_lane x p) else None)) e)
      at p false e =
          ap (λ d. if d then Some (unsigned_abs (run_index (number I64 x) p)) else None) e
          ∙ sym (ap (λ d. each1 (element I64) (if d then Some (run_lane x p) else None)) e)

  -- what is there
  pub run_items_are : (get : ℕ → ℕ → ℕ) → on a (λ p. get (unsigned_abs (run_index (number I64 x) p)) p) ≡ (λ p. each1 (λ b. get (element I64 b) p) (on a (run_lane x) p))
  run_items_are get = fun_ext (λ p. at p (a p) refl)
    where
      at : (p : ℕ) (b : Bool) → a p ≡ b → on a (λ r. get (unsigned_abs (run_index (number I64 x) r)) r) p ≡ each1 (λ b. get (element I64 b) p) (on a (run_lane x) p)
      at p true e =
          ap (λ d. if d then Some (get (unsigned_abs (run_index (number I64 x) p)) p) else None) e ∙ ap (λ z. Some (get (unsigned_abs z) p)) (sym (reach p e))
          ∙ sym (ap (λ d. each1 (λ b. get (element I64 b) p) (if d then Some (run_lane x p) else None)) e)
      at p false e =
          ap (λ d. if d then Some (get (unsigned_abs (run_index (number I64 x) p)) p) else None) e
          ∙ sym (ap (λ d. each1 (λ b. get (element I64 b) p) (if d then Some (run_lane x p) else None)) e)

-- ---- an index that counts the lanes from z on

-- ---- while a variable is one

pub none_holds : (o : Option ℕ) (start : ℕ) (m : Mask) (x : ℕ) (v : ℕ → Lanes) → o ≡ None → RunHolds o start m x v
none_holds o start m x v e = subst (λ z. RunHolds z start m x v) (sym e) tt

-- the place's register and the variable may be told anew
pub run_place : (o : Option ℕ) (start : ℕ) (m : Mask) (x y : ℕ) (v : ℕ → Lanes) → x ≡ y → RunHolds o start m x v → RunHolds o start m y v
run_place None start m x y v e h = tt
run_place (Some i) start m x y v e h = (sym e ∙ h.0, h.1)

pub run_each : (o : Option ℕ) (start : ℕ) (m : Mask) (x : ℕ) (v u : ℕ → Lanes) → ((i : ℕ) → o ≡ Some i → v i ≡ u i) → RunHolds o start m x v → RunHolds o start m x u
run_each None start m x v u e h = tt
run_each (Some i) start m x v u e h = (h.0, subst (CountsFrom (number I64 start) m) (e i refl) h.1)

pub counts_part : (z : ℤ) (a b : Mask) (v : Lanes) → ((p : ℕ) → a p ≡ true → b p ≡ true) → CountsFrom z b v → CountsFrom z a v
counts_part z a b v part c = record { is = λ p h. c.is p (part p h); fits = λ p h. c.fits p (part p h) }

whole_fits : (z : ℤ) → IsValue I32 z → IsValue I64 z
whole_fits z v = (omega (arith, ints, v.0), omega (arith, ints, v.1))

module _ (z : ℤ) (a : Mask) (v : Lanes) (x : ℕ) (e : number I64 x ≡ z) (c : CountsFrom z a v) where
  pub counts_reach : InReach a x
  counts_reach p m = back_is I64 (run_index (number I64 x) p) (subst (λ u. IsValue I64 (u +ℤ pos p)) (sym e) (whole_fits (z +ℤ pos p) (c.fits p m)))

  -- it is the run from z on
  pub counts_run : map1 (converted I32 I64) (on a v) ≡ on a (run_lane x)
  counts_run = fun_ext (λ p. at p (a p) refl)
    where
      at : (p : ℕ) (b : Bool) → a p ≡ b → each1 (converted I32 I64) (on a v p) ≡ on a (run_lane x) p
      at p true m =
          ap (λ d. each1 (converted I32 I64) (if d then Some (v p) else None)) m
          ∙ ap (λ u. Some (converted I32 I64 u)) (c.is p m)
          ∙ ap (λ u. Some (wrap I64 u)) (back_is I32 (z +ℤ pos p) (c.fits p m))
          ∙ ap (λ u. Some (wrap I64 (u +ℤ pos p))) (sym e)
          ∙ sym (ap (λ d. if d then Some (run_lane x p) else None) m)
      at p false m =
          ap (λ d. each1 (converted I32 I64) (if d then Some (v p) else None)) m ∙ sym (ap (λ d. if d then Some (run_lane x p) else None) m)

-- the numbers of the lanes count from 0 on
pub lanes_count : (g : Gang) (a : Mask) → ((p : ℕ) → a p ≡ true → p < gang_width g) → CountsFrom (pos 0) a (λ p. p)
lanes_count g a inside = record { is = λ p m. at p (inside p m); fits = λ p m. value p (inside p m) }
  where
    at : (p : ℕ) → p < gang_width g → p ≡ wrap I32 (pos 0 +ℤ pos p)
    at p lt =
        let few = few_width g in
        let sum : pos 0 +ℤ pos p ≡ pos p = omega (arith, ints) in
        let small : p < 2 ^ 32 = omega (arith, lt, few) in
        sym (ap (wrap I32) sum ∙ wrap_to-pos 32 p ∙ mod-eq_of_lt small)

    value : (p : ℕ) → p < gang_width g → IsValue I32 (pos 0 +ℤ pos p)
    value p lt =
        let few = few_width g in
        (omega (arith, ints, lt, few), omega (arith, ints, lt, few))
