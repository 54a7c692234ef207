-- Each instruction of the code of a `foreach` has its operands, where those of its body have.
use Rattle.std.proofs.Common.{◌≡◌, ℕ, ◌+◌, ◌<◌, ◌≤◌, List, [], ◌∷◌, ◌++◌, length, Option, Some, None, Bool, true, false, refl, sym, ap, ◌∙◌, subst, arith, length-append, if◌then◌else◌}
use Rattle.isp_base.specs.Ranks.{widened}
use Rattle.isp_base.specs.declared.operators.Compare.TheVariants.{Less, LessOrEqual}
use Rattle.isp_base.specs.declared.types.Elem.TheVariants.{Bool as Truth, I32, I64}
use Rattle.isp_base.specs.declared.types.Rate.{Rate}
use Rattle.isp_base.specs.declared.types.Rate.TheVariants.{Uniform, Varying}
use Rattle.isp_code.specs.Fine.{is_sum}
use Rattle.isp_code.specs.Listing.{Listing, Routine}
use Rattle.isp_code.specs.declared.instr.Instr.{Instr}
use Rattle.isp_code.specs.declared.instr.Instr.TheVariants as instr
use Rattle.isp_code.specs.declared.instr.JumpTest.TheVariants as jump
use Rattle.isp_code.specs.declared.instr.Plain.TheVariants as plain
use Rattle.isp_typed.specs.Typed.{TExpr, TRange, TFunction, type_of}
use Rattle.isp_base.specs.declared.types.Value.{Value}
use Rattle.isp_meaning.specs.Payloads.{converted}
use Rattle.isp_lower_code.specs.Code.{expr_code}
use Rattle.isp_lower_code.specs.Found.{convert_to, found}
use Rattle.isp_lower_code.specs.Instructions.{compare, compute, constant, convert, splat, jump_on}
use Rattle.isp_lower_code.specs.Known.{constant_of}
use Rattle.isp_lower_code.specs.Pieces.{guard, two}
use Rattle.isp_lower_code.specs.Spans.{expr_places}
use Rattle.isp_lower_code.specs.Indices.{EachIndex}
use Rattle.isp_lower_code.specs.Layout.{Layout}
use Rattle.isp_lower_code.specs.Rated.{Reaches}
use Rattle.isp_lower_code.specs.Sound.{AreSound, Granted, IsRegister, IsSound, Links}
use Rattle.isp_lower_code.proofs.Lemmas.{sound_both, compare_sound, constant_sound, convert_sound, copy_sound, splat_sound, found_there, value_sound, ExprTree, OperandTree}
use Rattle.isp_masks_code.specs.Asks.{bound_asks, bounds_asks, measures_asks, place_asks, places_asks}
use Rattle.isp_masks_code.specs.Ranges.{RunBodies, begun, singles_code, goes_on, wide, narrow, test, lane, lane_numbers, sum_lanes, range_mask, places_slot, runs_slot, measures_code, bound_code, bounds_code, ranges_places, sweep_code, outer_index, last_index, index_step, next_from, refill, full_back, full_code, full_test, rest_run, run_place, runs_code, ranges_code, foreach_code}
use Rattle.isp_masks_code.specs.Rounds.{fill_mask}
use Rattle.isp_masks_code.proofs.Bounds.{bound_is}
use Rattle.isp_masks_code.proofs.SoundLoops.{HereSound, two_sound}
use Rattle.isp_masks_code.proofs.Trees.{RangesTree}

module _ (code : Listing) (h : Routine) (l : Layout) where
  add_uniform : (d x y : ℕ) → IsRegister h Uniform d I64 → IsRegister h Uniform x I64 → IsRegister h Uniform y I64 → IsSound code h (compute Uniform plain.Add d x y 0)
  add_uniform d x y hd hx hy = (((hd.0, λ e. let f : I64 ≡ Truth = sym hd.1 ∙ e in cc), ((hx.0, hx.1 ∙ sym hd.1), ((hy.0, hy.1 ∙ sym hd.1), tt))), tt)

  add_varying : (d x y k : ℕ) → IsRegister h Varying d I32 → IsRegister h Varying x I32 → IsRegister h Varying y I32 → k < h.masks → IsSound code h (compute Varying plain.Add d x y k)
  add_varying d x y k hd hx hy lk = (((hd.0, λ e. let f : I32 ≡ Truth = sym hd.1 ∙ e in cc), ((hx.0, hx.1 ∙ sym hd.1), ((hy.0, hy.1 ∙ sym hd.1), ((refl, lk), tt)))), tt)

  -- ---- what all runs use

  measures_sound : (n k : ℕ) → Granted h l (measures_asks n) → 0 < h.masks → k < h.masks → AreSound code h (measures_code l n k)
  measures_sound n k f some lk =
      let first = f.0 in
      let each = f.1.0 in
      let sum = f.1.1.0 in
      let short = f.1.1.1.1.0 in
      let count = f.1.1.1.1.1.0 in
      let sum_is : IsSound code h (sum_lanes (wide l n) (lane l n) k) = (((sum.0, ap is_sum sum.1), ((each.0, (λ e. let g : I32 ≡ Truth = sym each.1 ∙ e in cc, ap widened each.1 ∙ sym sum.1)), ((refl, lk), tt))), tt) in
      let numbers_are : IsSound code h (lane_numbers (lane l n) k) = (((each.0, each.1), ((refl, lk), tt)), tt) in
      let last : AreSound code h (convert Uniform (narrow l (n + 1)) (wide l n) 0 ∷ splat (lane l (n + 1)) (narrow l (n + 1)) k ∷ constant
      (wide l (n + 1)) I64 1 ∷ []) = (
        convert_sound code h Uniform I32 I64 (narrow l (n + 1)) (wide l n) 0 short sum some,
        (
          splat_sound code h I32 (lane l (n + 1)) (narrow l (n + 1)) k count short lk,
          (constant_sound code h I64 (wide l (n + 1)) 1 f.1.1.1.1.1.1.0, tt),
        ),
      ) in
      ((((refl, lk), tt), tt), (constant_sound code h I32 (narrow l n) 1 first, (splat_sound code h I32 (lane l n) (narrow l n) k each first lk, (sum_is, (numbers_are, last)))))

  -- ---- a range before the last

  sweep_sound : (e m u : ℕ) (tested : Instr) (past : ℕ → Instr) (inside : ℕ → List Instr) → 0 < h.masks → IsRegister h Uniform (wide l e) I64
      → IsRegister h Uniform (wide l m) I64 → IsRegister h Uniform (wide l u) I64 → IsSound code h tested
      → ((to : ℕ) → to < length h.code → IsSound code h (past to)) → HereSound code h inside
      → HereSound code h (λ pc. sweep_code l e m u tested past pc inside)
  sweep_sound e m u tested past inside some he hm hu ht hp f pc lt =
      let tail = compute Uniform plain.Add (wide l m) (wide l m) (wide l u) 0 ∷ instr.Jump (pc + 1) ∷ [] in
      let e1 = length-append (inside (pc + 1 + 1 + 1)) tail in (
        copy_sound code h Uniform I64 (wide l m) (wide l e) 0 hm he some,
        (
          ht,
          (
            hp (pc + 1 + 1 + 1 + length (inside (pc + 1 + 1 + 1) ++ tail)) (omega (arith, lt)),
            sound_both code h (inside (pc + 1 + 1 + 1)) tail
                (f (pc + 1 + 1 + 1) (omega (arith, e1, lt))) (
                  add_uniform (wide l m) (wide l m) (wide l u) hm hm hu,
                  (((omega (arith, e1, lt), tt), tt), tt),
                ),
          ),
        ),
      )

  -- ---- the last range

  sub_uniform : (d x y : ℕ) → IsRegister h Uniform d I64 → IsRegister h Uniform x I64 → IsRegister h Uniform y I64 → IsSound code h (compute Uniform plain.Sub d x y 0)
  sub_uniform d x y hd hx hy = (((hd.0, λ e. let f : I64 ≡ Truth = sym hd.1 ∙ e in cc), ((hx.0, hx.1 ∙ sym hd.1), ((hy.0, hy.1 ∙ sym hd.1), tt))), tt)

  fill_sound : (k : ℕ) → k < h.masks → IsSound code h (fill_mask k)
  fill_sound k lk = (((refl, lk), tt), tt)

  refill_sound : (kept : Bool) (k : ℕ) → k < h.masks → AreSound code h (refill kept k)
  refill_sound true k lk = tt
  refill_sound false k lk = (fill_sound k lk, tt)

  step_sound : (al : Bool) (i n k pc : ℕ) → IsRegister h Varying (l.variable Varying i) I32 → IsRegister h Varying (lane l (n + 1)) I32 → k < h.masks → pc + length (index_step l al i n k pc) < length h.code → AreSound code h (index_step l al i n k pc)
  step_sound true i n k pc hi hc lk lt = (((omega (arith, lt), tt), tt), (add_varying (l.variable Varying i) (l.variable Varying i) (lane l (n + 1)) k hi hi hc lk, tt))
  step_sound false i n k pc hi hc lk lt = tt

  from_low : (al : Bool) (first step to : ℕ) → first < to → step + 1 < to → next_from al first step < to
  from_low true first step to lf ls = ls
  from_low false first step to lf ls = lf

  place_there : (d : Bool) (m : ℕ) → IsRegister h Uniform (l.place Uniform) I64 → IsRegister h Uniform (wide l m) I64 → IsRegister h Uniform (run_place l d m) I64
  place_there false m hp hw = hp
  place_there true m hp hw = hw

  -- what the runs of a range use
  record RunsThere (r : TRange) (x e m n k : ℕ) : Type 0 where
    some : 0 < h.masks
    mask : k < h.masks
    place : IsRegister h Uniform x I64
    start : IsRegister h Uniform (wide l e) I64
    end : IsRegister h Uniform (wide l (e + 1)) I64
    limit : IsRegister h Uniform (wide l (m + 1)) I64
    tested : IsRegister h Uniform (test l (m + 1)) Truth
    lanes : IsRegister h Uniform (wide l n) I64
    index : IsRegister h Varying (l.variable Varying r.index) I32
    count : IsRegister h Varying (lane l (n + 1)) I32

  module _ (r : TRange) (x e m n k : ℕ) (there : RunsThere r x e m n k) (own : List Instr) (own_sound : AreSound code h own) where
    test_sound : IsSound code h (full_test l x m)
    test_sound = compare_sound code h Uniform LessOrEqual I64 (test l (m + 1)) x (wide l (m + 1)) 0 there.tested there.place there.limit there.some

    jump_sound : (b : Bool) (to : ℕ) → to < length h.code → IsSound code h (jump_on (if b then jump.True else jump.False) (test l (m + 1)) to)
    jump_sound true to lt = (((there.tested.0, there.tested.1), (lt, tt)), tt)
    jump_sound false to lt = (((there.tested.0, there.tested.1), (lt, tt)), tt)

    full_sound : (al kept : Bool) (body : ℕ → List Instr) → HereSound code h body → HereSound code h (full_code l al kept own r.index x m n k body)
    full_sound al kept body fb pc lt =
        let first = pc + 1 in
        let at = first + length own in
        let skip = index_step l al r.index n k at in
        let top = at + length skip in
        let back = full_back l x m n (next_from al first at) in
        let turn = body top ++ (refill kept k ++ back) in
        let e1 = length-append own (skip ++ turn) in
        let e2 = length-append skip turn in
        let e3 = length-append (body top) (refill kept k ++ back) in
        let e4 = length-append (refill kept k) back in
        let to : next_from al first at < length h.code = from_low al first at (length h.code) (omega (arith, lt)) (omega (arith, lt, e1, e2, e3, e4)) in (
          fill_sound k there.mask,
          sound_both code h own (skip ++ turn) own_sound
              (sound_both code h skip turn (step_sound al r.index n k at there.index there.count there.mask (omega (arith, lt, e1, e2, e3, e4)))
              (sound_both code h (body top) (refill kept k ++ back) (fb top (omega (arith, lt, e1, e2, e3, e4)))
              (sound_both code h (refill kept k) back (refill_sound kept k there.mask)
              (add_uniform x x (wide l n) there.place there.place there.lanes, (test_sound, (jump_sound true (next_from al first at) to, tt)))))),
        )

    rest_sound : (body : ℕ → List Instr) → HereSound code h body → HereSound code h (rest_run l own x e k body)
    rest_sound body fb pc lt =
        let top = pc + 1 + 1 + length own in
        let e1 = length-append own (body top) in
        let lanes : IsSound code h (range_mask k x (wide l (e + 1))) = (((refl, there.mask), ((there.place.0, there.place.1), ((there.end.0, there.end.1), tt))), tt) in
        (lanes, ((((refl, there.mask), (omega (arith, lt), tt)), tt), sound_both code h own (body top) own_sound (fb top (omega (arith, lt, e1)))))

    all_sound : (al kept : Bool) (full rest : ℕ → List Instr) → HereSound code h full → HereSound code h rest
        → HereSound code h (λ pc. two pc (guard (jump_on jump.False (test l (m + 1))) pc (full_code l al kept own r.index x m n k full)) (rest_run l own x e k rest))
    all_sound al kept full rest ff fr =
        two_sound code h (λ pc. guard (jump_on jump.False (test l (m + 1))) pc (full_code l al kept own r.index x m n k full)) (rest_run l own x e k rest)
        (λ pc lt. (jump_sound false (pc + 1 + length (full_code l al kept own r.index x m n k full (pc + 1))) (omega (arith, lt)), full_sound al kept full ff (pc + 1) (omega (arith, lt)))) (rest_sound rest fr)

  runs_sound : (d : Bool) (set : List Instr) (r : TRange) (rs : List TRange) (e m n k : ℕ) (body : RunBodies) → 0 < h.masks → k < h.masks
      → AreSound code h set → Granted h l (measures_asks n) → Granted h l (bounds_asks (r ∷ rs) e) → Granted h l (place_asks r m)
      → HereSound code h body.full → HereSound code h body.rest → HereSound code h (λ pc. runs_code l d set r.index e m n k body pc)
  runs_sound d set r rs e m n k body some lk fs fm b p ff fr pc lt =
      let x = run_place l d m in
      let hx = place_there d m p.1.1.1.1.1.1.1 p.1.0 in
      let own = last_index l r.index x m n k in
      let index : AreSound code h own = (
        convert_sound code h Uniform I32 I64 (narrow l (m + 1)) x 0 p.1.1.1.0 hx some,
        (
          splat_sound code h I32 (lane l (m + 1)) (narrow l (m + 1)) k p.1.1.1.1.0 p.1.1.1.0 lk,
          (add_varying (l.variable Varying r.index) (lane l (m + 1)) (lane l n) k p.0 p.1.1.1.1.0 fm.1.0 lk, tt),
        ),
      ) in
      let there : RunsThere r x e m n k = record { some = some; mask = lk; place = hx; start = b.0.0; end = b.1.1.0.0; limit = p.1.1.1.1.1.1.0; tested = p.1.1.1.1.1.0; lanes = fm.1.1.0; index = p.0; count = fm.1.1.1.1.1.0 } in
      let both = sound_both code h set own fs index in (
        copy_sound code h Uniform I64 x (wide l e) 0 hx there.start some,
        (
          sub_uniform (wide l (m + 1)) (wide l (e + 1)) (wide l n) there.limit there.end there.lanes,
          (test_sound r x e m n k there (set ++ own) both, all_sound r x e m n k there (set ++ own) both (goes_on d set) body.kept body.full body.rest ff fr (pc + 1 + 1 + 1) (omega (arith, lt))),
        ),
      )

  -- ---- all of them

  module _ (n k : ℕ) (body : RunBodies) (some : 0 < h.masks) (lk : k < h.masks) (measures : Granted h l (measures_asks n)) (ff : HereSound code h body.full) (fr : HereSound code h body.rest) where
    ranges_sound : (rs : List TRange) (set : List Instr) (e m : ℕ) → AreSound code h set → Granted h l (bounds_asks rs e) → Granted h l (places_asks rs m) → HereSound code h (λ pc. ranges_code l n k body rs set e m pc)
    ranges_sound [] set e m fs b p pc lt = two_sound code h body.full body.rest ff fr pc lt
    ranges_sound (r ∷ []) set e m fs b p pc lt = runs_sound (l.loaded r.index) set r [] e m n k body some lk fs measures b p.0 ff fr pc lt
    ranges_sound (r ∷ q ∷ rs) set e m fs b p pc lt =
        let outer = outer_index l r.index (m + 1) k ∷ [] in
        let t = test l (m + 1) in
        let more : AreSound code h (set ++ outer) = sound_both code h set outer fs (splat_sound code h I32 (l.variable Varying r.index) (narrow l (m + 1)) k p.0.0 p.0.1.1.1.0 lk, tt) in
        sweep_sound e m (n + 1) (compare Uniform Less t (wide l m) (wide l (e + 1)) 0) (jump_on jump.False t)
        (λ pc1. convert Uniform (narrow l (m + 1)) (wide l m) 0 ∷ ranges_code l n k body (q ∷ rs) (set ++ outer) (e + 1 + 1) (m + 1 + 1)
        (pc1 + 1)) some b.0.0 p.0.1.0 measures.1.1.1.1.1.1.0
        (compare_sound code h Uniform Less I64 t (wide l m) (wide l (e + 1)) 0 p.0.1.1.1.1.1.0 p.0.1.0 b.1.1.0.0 some)
        (λ to lt1. ((((p.0.1.1.1.1.1.0).0, (p.0.1.1.1.1.1.0).1), (lt1, tt)), tt))
        (λ pc1 lt1. (convert_sound code h Uniform I32 I64 (narrow l (m + 1)) (wide l m) 0 p.0.1.1.1.0 p.0.1.0 some, ranges_sound (q ∷ rs) (set ++ outer) (e + 1 + 1) (m + 1 + 1) more b.1.1.1.1 p.1.1 (pc1 + 1) (omega (arith, lt1)))) pc lt

  -- ---- the bounds

  module _ (fs : List TFunction) (links : Links fs code h l) where
    one_there : (g : Rate) (x : ℕ) → Reaches g Uniform → IsRegister h g x I32 → IsRegister h Uniform x I32
    one_there Uniform x re f = f
    one_there Varying x re f = absurd re

    one_rate : (g : Rate) → Reaches g Uniform → g ≡ Uniform
    one_rate Uniform re = refl
    one_rate Varying re = absurd re

    bound_sound : (x : TExpr) (pc p k n : ℕ) → OperandTree Uniform I32 x → ExprTree fs x → Granted h l (bound_asks x n) → k < h.masks
        → p + length (expr_places l x) ≤ length code.places → pc + length (bound_code l x pc p k n) < length h.code
        → AreSound code h (bound_code l x pc p k n)
    bound_sound x pc p k n o is f lk pl lt =
        subst (λ z. pc + length z < length h.code → AreSound code h z) (sym (bound_is l x pc p k n (one_rate (type_of x).rate o.reaches) o.elem)) (by (constant_of x)) lt
      where
        cx : List Instr
        cx = expr_code l x pc p k n

        last : List Instr
        last = convert Uniform (wide l n) (found l x n) k ∷ []

        by : (v : Option Value) → pc + length (convert_to l v I64 Uniform (wide l n) (found l x n) k cx) < length h.code → AreSound code h (convert_to l v I64 Uniform (wide l n) (found l x n) k cx)
        by None lt1 =
            let e = length-append cx last in
            let there = found_there fs h l links.constants x n is f.1.1.1 in
            sound_both code h cx last (value_sound fs code h l links x n is f.1.1.1 pc p k lk pl (omega (arith, e, lt1))) (
              convert_sound code h Uniform I64 I32 (wide l n) (found l x n) k f.0
                  (one_there (type_of x).rate (found l x n) o.reaches (there.0, there.1 ∙ o.elem)) lk,
              tt,
            )
        by (Some v) lt1 = (constant_sound code h I64 (wide l n) (converted v.elem I64 v.bits) f.0, tt)

    bounds_sound : (rs : List TRange) (pc p k n : ℕ) → RangesTree fs rs → Granted h l (bounds_asks rs n) → k < h.masks
        → p + length (ranges_places l rs) ≤ length code.places → pc + length (bounds_code l rs pc p k n) < length h.code
        → AreSound code h (bounds_code l rs pc p k n)
    bounds_sound [] pc p k n is f lk pl lt = tt
    bounds_sound (r ∷ rs) pc p k n is f lk pl lt =
        let pa = expr_places l r.start in
        let pb = expr_places l r.end in
        let ca = bound_code l r.start pc p k n in
        let pc1 = pc + length ca in
        let p1 = p + length pa in
        let cb = bound_code l r.end pc1 p1 k (n + 1) in
        let pc2 = pc1 + length cb in
        let p2 = p1 + length pb in
        let cr = bounds_code l rs pc2 p2 k (n + 1 + 1) in
        let e1 = length-append ca (cb ++ cr) in
        let e2 = length-append cb cr in
        let g1 = length-append pa (pb ++ ranges_places l rs) in
        let g2 = length-append pb (ranges_places l rs) in
        sound_both code h ca (cb ++ cr) (bound_sound r.start pc p k n is.0 is.1 f.0 lk (omega (arith, g1, g2, pl)) (omega (arith, e1, e2, lt)))
        (sound_both code h cb cr (bound_sound r.end pc1 p1 k (n + 1) is.2 is.3 f.1.1.0 lk (omega (arith, g1, g2, pl)) (omega (arith, e1, e2, lt)))
        (bounds_sound rs pc2 p2 k (n + 1 + 1) is.4 f.1.1.1.1 lk (omega (arith, g1, g2, pl)) (omega (arith, e1, e2, lt))))

    -- before the body
    singles_sound : (rs : List TRange) (m : ℕ) → EachIndex (λ i. IsRegister h Uniform (l.variable Uniform i) I32) rs → Granted h l (places_asks rs m) → 0 < h.masks
        → AreSound code h (singles_code l rs m)
    singles_sound [] m f p some = tt
    singles_sound (r ∷ []) m f p some = (convert_sound code h Uniform I32 I64 (l.variable Uniform r.index) (l.place Uniform) 0 f.0 p.0.1.1.1.1.1.1.1 some, tt)
    singles_sound (r ∷ q ∷ rs) m f p some =
        (copy_sound code h Uniform I32 (l.variable Uniform r.index) (narrow l (m + 1)) 0 f.0 p.0.1.1.1.0 some, singles_sound (q ∷ rs) (m + 1 + 1) f.1 p.1.1 some)

    pub set_sound : (rs : List TRange) (m : ℕ) (body : ℕ → List Instr) → Granted h l (places_asks rs m) → 0 < h.masks → HereSound code h body
        → HereSound code h (begun (l.sets rs) (singles_code l rs m) body)
    set_sound rs m body p some fb = go (l.sets rs) refl
      where
        own : List Instr
        own = singles_code l rs m

        go : (d : Bool) → l.sets rs ≡ d → HereSound code h (begun d own body)
        go false e pc lt = fb pc lt
        go true e pc lt =
            let next = body (pc + length own) in
            sound_both code h own next (singles_sound rs m (links.sets rs e).singles p some) (fb (pc + length own) (omega (arith, lt, length-append own next)))

    pub foreach_sound : (rs : List TRange) (p k n : ℕ) (body : RunBodies) → RangesTree fs rs → Granted h l (measures_asks n)
        → Granted h l (bounds_asks rs (n + 1 + 1)) → Granted h l (places_asks rs (places_slot n rs)) → k < h.masks → runs_slot n rs < h.masks
        → p + length (ranges_places l rs) ≤ length code.places → HereSound code h body.full → HereSound code h body.rest → HereSound code h (λ pc. foreach_code l rs pc p k n body)
    foreach_sound rs p k n body is fm fb fp lk lh pl ff fr =
        two_sound code h (λ pc. measures_code l n (runs_slot n rs))
        (λ pc1. two pc1 (bounds_code l rs pc1 p k (n + 1 + 1))
        (λ pc2. ranges_code l n (runs_slot n rs) body rs [] (n + 1 + 1) (places_slot n rs) pc2))
        (λ pc lt. measures_sound n (runs_slot n rs) fm (omega (arith, lk)) lh)
        (two_sound code h (λ pc1. bounds_code l rs pc1 p k (n + 1 + 1))
        (λ pc2. ranges_code l n (runs_slot n rs) body rs [] (n + 1 + 1) (places_slot n rs) pc2)
        (λ pc1 lt1. bounds_sound rs pc1 p k (n + 1 + 1) is fb lk pl lt1)
        (ranges_sound n (runs_slot n rs) body (omega (arith, lk)) lh fm ff fr rs [] (n + 1 + 1) (places_slot n rs) tt fb fp))
