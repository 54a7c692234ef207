-- The code of `foreach`, given the code of its body, which stands twice: for the runs that have all lanes, and for the one after
-- them; and before each, where the layout says so, what sets the scalars of the indices. Slots n and n + 1 have what all runs use; then
-- each range has two slots, for its start and its end, and after these two for its place and its index; slot h, after all, is the first of
-- the body's masks.
use Rattle.std.specs.Prelude.{ℕ, ◌+◌, List, [], ◌∷◌, ◌++◌, length, Bool, true, false}
use Rattle.isp_base.specs.declared.operators.Compare.TheVariants.{Less, LessOrEqual}
use Rattle.isp_base.specs.declared.types.Elem.TheVariants.{Bool as Truth, I32, I64}
use Rattle.isp_base.specs.declared.types.Rate.TheVariants.{Uniform, Varying}
use Rattle.isp_base.specs.declared.types.Span.{Span}
use Rattle.isp_code.specs.declared.instr.Instr.{Instr}
use Rattle.isp_code.specs.declared.instr.Instr.TheVariants as instr
use Rattle.isp_code.specs.declared.instr.JumpTest.TheVariants as jump
use Rattle.isp_code.specs.declared.instr.MaskInstr.TheVariants as mask
use Rattle.isp_code.specs.declared.instr.Plain.TheVariants as plain
use Rattle.isp_code.specs.declared.instr.Reduction.TheVariants as reduction
use Rattle.isp_code.specs.declared.instr.ScalarInstr.TheVariants as scalar
use Rattle.isp_code.specs.declared.instr.VectorInstr.TheVariants as vector
use Rattle.isp_typed.specs.Typed.{TExpr, TRange}
use Rattle.isp_lower_code.specs.Code.{expr_code}
use Rattle.isp_lower_code.specs.Found.{index_of}
use Rattle.isp_lower_code.specs.Instructions.{compare, compute, constant, convert, copy, splat, jump_off, jump_on}
use Rattle.isp_lower_code.specs.Pieces.{two, guard}
use Rattle.isp_lower_code.specs.Spans.{expr_places}
use Rattle.isp_lower_code.specs.Layout.{Layout, mask_register, register}
use Rattle.isp_masks_code.specs.Rounds.{fill_mask}

-- the slot of the first range's place, and the slot after the last's
abbrev pub places_slot : ℕ → List TRange → ℕ
places_slot n rs = n + 1 + 1 + length rs + length rs

abbrev pub runs_slot : ℕ → List TRange → ℕ
runs_slot n rs = places_slot n rs + length rs + length rs

-- mask d gets the lanes whose numbers, added to the number in register x, are below that in register y
abbrev pub range_mask : ℕ → ℕ → ℕ → Instr
range_mask d x y = instr.Mask (mask_register d) (mask.Range (register Uniform x) (register Uniform y))

-- the sum of what the lanes of mask k have in vector register x
abbrev pub sum_lanes : ℕ → ℕ → ℕ → Instr
sum_lanes d x k = instr.Scalar (register Uniform d) (scalar.Reduce reduction.Add (register Varying x) (mask_register k))

abbrev pub lane_numbers : ℕ → ℕ → Instr
lane_numbers d k = instr.Vector (register Varying d) (vector.Index (mask_register k))

-- The code of a body, given where it begins: in runs that have all lanes, and in the last one; and whether nobody leaves it.
pub record RunBodies : Type 0 where
  pub full : ℕ → List Instr
  pub rest : ℕ → List Instr
  pub kept : Bool

-- The index of the last range goes on from run to run where no other is set with it, and no packed load writes it.
abbrev pub goes_on : {A : Type 0} → Bool → List A → Bool
goes_on false [] = true
goes_on false (x ∷ set) = false
goes_on true set = false

-- Where the next run that has all lanes begins: at the step of the index, or where all indices are set.
abbrev pub next_from : Bool → ℕ → ℕ → ℕ
next_from true first step = step + 1
next_from false first step = first

-- Mask h has all lanes again, after a body that somebody may leave.
abbrev pub refill : Bool → ℕ → List Instr
refill true h = []
refill false h = fill_mask h ∷ []

-- Code before that of a body, where there is any.
abbrev pub begun : Bool → List Instr → (ℕ → List Instr) → ℕ → List Instr
begun false own body = body
begun true own body = λ pc. two pc own body

module _ (l : Layout) where
  abbrev pub wide : ℕ → ℕ
  wide i = l.spare Uniform I64 i

  abbrev pub narrow : ℕ → ℕ
  narrow i = l.spare Uniform I32 i

  abbrev pub test : ℕ → ℕ
  test i = l.spare Uniform Truth i

  abbrev pub lane : ℕ → ℕ
  lane i = l.spare Varying I32 i

  -- ---- what all runs use: how many lanes there are, the lanes' numbers, how many there are in each lane, and 1

  abbrev pub measures_code : ℕ → ℕ → List Instr
  measures_code n h =
      fill_mask h ∷ constant (narrow n) I32 1 ∷ splat (lane n) (narrow n) h ∷ sum_lanes (wide n) (lane n) h ∷ lane_numbers (lane n) h ∷ convert
      Uniform (narrow (n + 1)) (wide n) 0 ∷ splat (lane (n + 1)) (narrow (n + 1)) h ∷ constant (wide (n + 1)) I64 1 ∷ []

  -- ---- the bounds, from left to right, each as int64 in a slot, as a uniform index is: a constant is loaded as one

  abbrev pub bound_code : TExpr → ℕ → ℕ → ℕ → ℕ → List Instr
  bound_code x pc p k n = index_of l Uniform x k n (expr_code l x pc p k n)

  abbrev pub bounds_code : List TRange → ℕ → ℕ → ℕ → ℕ → List Instr
  bounds_code [] pc p k n = []
  bounds_code (r ∷ rs) pc p k n =
      let p1 = p + length (expr_places l r.start) in
      two pc (bound_code r.start pc p k n) (λ pc1. two pc1 (bound_code r.end pc1 p1 k (n + 1)) (λ pc2. bounds_code rs pc2 (p1 + length (expr_places l r.end)) k (n + 1 + 1)))

  abbrev pub ranges_places : List TRange → List Span
  ranges_places [] = []
  ranges_places (r ∷ rs) = expr_places l r.start ++ (expr_places l r.end ++ ranges_places rs)

  -- ---- a range before the last: its place goes from its start on, while a test holds, by what slot u has

  abbrev pub sweep_code : ℕ → ℕ → ℕ → Instr → (ℕ → Instr) → ℕ → (ℕ → List Instr) → List Instr
  sweep_code e m u tested past pc inside =
      copy Uniform (wide m) (wide e) 0 ∷ tested ∷ guard past (pc + 1 + 1) (λ pc1. inside pc1 ++ compute Uniform plain.Add (wide m) (wide m) (wide u) 0 ∷ instr.Jump (pc + 1) ∷ [])

  -- its index, as it is in slot m
  abbrev pub outer_index : ℕ → ℕ → ℕ → Instr
  outer_index i m h = splat (l.variable Varying i) (narrow m) h

  -- ---- the last range, in runs of as many numbers as there are lanes

  -- the register of its place: that of a run. Where a packed load writes its index the body counts no lanes, and it is in slot m.
  abbrev pub run_place : Bool → ℕ → ℕ
  run_place false m = l.place Uniform
  run_place true m = wide m

  -- its index, from the place in register x; and that of the next run, from the one before
  abbrev pub last_index : ℕ → ℕ → ℕ → ℕ → ℕ → List Instr
  last_index i x m n h =
      convert Uniform (narrow (m + 1)) x 0 ∷ splat (lane (m + 1)) (narrow (m + 1)) h ∷ compute Varying plain.Add (l.variable Varying i) (lane (m + 1)) (lane n) h ∷ []

  abbrev pub next_index : ℕ → ℕ → ℕ → Instr
  next_index i n h = compute Varying plain.Add (l.variable Varying i) (l.variable Varying i) (lane (n + 1)) h

  -- ---- the scalars of the indices, where the body begins

  -- That of the last one is the place, and those of the others stand in the slots of their ranges, whose places begin at slot m.
  abbrev pub singles_code : List TRange → ℕ → List Instr
  singles_code [] m = []
  singles_code (r ∷ []) m = convert Uniform (l.variable Uniform r.index) (l.place Uniform) 0 ∷ []
  singles_code (r ∷ q ∷ rs) m = copy Uniform (l.variable Uniform r.index) (narrow (m + 1)) 0 ∷ singles_code (q ∷ rs) (m + 1 + 1)

  -- both codes of the body, where they are set before it
  abbrev pub set_bodies : List TRange → ℕ → RunBodies → RunBodies
  set_bodies rs m body =
      record { full = begun (l.sets rs) (singles_code rs m) body.full; rest = begun (l.sets rs) (singles_code rs m) body.rest; kept = body.kept }

  -- ---- its runs that have all lanes, under mask h, which has all

  -- the last place with such a run: as many numbers before the end as there are lanes
  abbrev pub last_full : ℕ → ℕ → ℕ → Instr
  last_full e m n = compute Uniform plain.Sub (wide (m + 1)) (wide (e + 1)) (wide n) 0

  -- whether the run from the place in register x is one
  abbrev pub full_test : ℕ → ℕ → Instr
  full_test x m = compare Uniform LessOrEqual (test (m + 1)) x (wide (m + 1)) 0

  -- Where the index goes on, its step stands before the body, and the first run jumps over it.
  abbrev pub index_step : Bool → ℕ → ℕ → ℕ → ℕ → List Instr
  index_step true i n h pc = instr.Jump (pc + 1 + 1) ∷ next_index i n h ∷ []
  index_step false i n h pc = []

  -- the next run's place, and back where it has all lanes
  abbrev pub full_back : ℕ → ℕ → ℕ → ℕ → List Instr
  full_back x m n to =
      compute Uniform plain.Add x x (wide n) 0 ∷ full_test x m ∷ jump_on jump.True (test (m + 1)) to ∷ []

  -- `own` sets all indices; told whether the last one goes on, and whether nobody leaves the body
  abbrev pub full_code : Bool → Bool → List Instr → ℕ → ℕ → ℕ → ℕ → ℕ → (ℕ → List Instr) → ℕ → List Instr
  full_code alone kept own i x m n h body pc =
      fill_mask h ∷ two (pc + 1) own (λ step. two step (index_step alone i n h step) (λ top. body top ++ (refill kept h ++ full_back x m n (next_from alone (pc + 1) step))))

  -- ---- and the run after them, under those lanes of it that there are

  abbrev pub rest_run : List Instr → ℕ → ℕ → ℕ → (ℕ → List Instr) → ℕ → List Instr
  rest_run own x e h body pc =
      range_mask h x (wide (e + 1)) ∷ guard (jump_off h) (pc + 1) (λ first. two first own body)

  -- all runs; `set` are the indices of the ranges outside
  abbrev pub runs_code : Bool → List Instr → ℕ → ℕ → ℕ → ℕ → ℕ → RunBodies → ℕ → List Instr
  runs_code loaded set i e m n h body pc =
      let x = run_place loaded m in
      let own = set ++ last_index i x m n h in
      copy Uniform x (wide e) 0 ∷ last_full e m n ∷ full_test x m ∷ two (pc + 1 + 1 + 1)
      (guard (jump_on jump.False (test (m + 1))) (pc + 1 + 1 + 1) (full_code (goes_on loaded set) body.kept own i x m n h body.full)) (rest_run own x e h body.rest)

  -- The ranges from one on, whose bounds begin at slot e and whose places begin at slot m; `set` are the indices of those outside.
  -- Without a range the two codes of the body are all.
  abbrev pub ranges_code : ℕ → ℕ → RunBodies → List TRange → List Instr → ℕ → ℕ → ℕ → List Instr
  ranges_code n h body [] set e m pc = two pc (body.full pc) body.rest
  ranges_code n h body (r ∷ []) set e m pc = runs_code (l.loaded r.index) set r.index e m n h body pc
  ranges_code n h body (r ∷ q ∷ rs) set e m pc =
      sweep_code e m (n + 1) (compare Uniform Less (test (m + 1)) (wide m) (wide (e + 1)) 0) (jump_on jump.False (test (m + 1))) pc
      (λ pc1. convert Uniform (narrow (m + 1)) (wide m) 0 ∷ ranges_code n h body (q ∷ rs) (set ++ outer_index r.index (m + 1) h ∷ []) (e + 1 + 1) (m + 1 + 1) (pc1 + 1))

  abbrev pub foreach_code : List TRange → ℕ → ℕ → ℕ → ℕ → RunBodies → List Instr
  foreach_code rs pc p k n body =
      let h = runs_slot n rs in
      two pc (measures_code n h) (λ pc1. two pc1 (bounds_code rs pc1 p k (n + 1 + 1)) (λ pc2. ranges_code n h body rs [] (n + 1 + 1) (places_slot n rs) pc2))
