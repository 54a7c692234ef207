-- What is written apart, and then taken, is appended; and what it names is there.
use Rattle.std.proofs.Common.{◌≡◌, ℕ, zero, suc, ◌+◌, ◌-◌, ◌<◌, ◌≤◌, List, [], ◌∷◌, ◌++◌, length, drop, map, ap, subst, sym, ◌∙◌, arith, length-append, Vec, Global}
use Rattle.std.proofs.Math.Seq.{drop-append_seam}
use Rattle.isp_base.specs.declared.types.Elem.{Elem}
use Rattle.isp_base.specs.declared.types.Rate.{Rate}
use Rattle.isp_base.specs.declared.types.Rate.TheVariants.{Uniform, Varying}
use Rattle.isp_base.specs.declared.types.Span.{Span}
use Rattle.isp_code.specs.declared.instr.Instr.{Instr}
use Rattle.isp_code.specs.declared.instr.Instr.TheVariants as instr
use Rattle.isp_code.specs.declared.register.Class.{Class}
use Rattle.isp_code.specs.declared.register.Class.TheVariants as class
use Rattle.isp_code.specs.declared.register.Register.{Register}
use Rattle.isp_lower.specs.Drafts.{HasAllNamed, draft_of}
use Rattle.isp_lower_code.specs.Asks.{Ask}
use Rattle.isp_lower_code.specs.FirstRows.{Begins}
use Rattle.isp_registers.specs.Growth.{Grows, rows_of}
use Rattle.isp_lower.specs.Emitted.{Appends}
use Rattle.isp_lower_code.specs.Named.{InCode, InInstr, IsOf, count_of}
use Rattle.isp_lower_code.specs.Own.{HasOwn}
use Rattle.isp_lower_code.specs.Patched.{patched, retargeted}
use Rattle.isp_lower_code.specs.Room.{GrowsBy, masks_with, registers_asked}
use Rattle.isp_lower_code.specs.Rows.{Fresh, Row, Rows, layout_of, with_fresh, with_fresh_from, with_fresh_from_at, with_many_fresh}
use Rattle.isp_lower.specs.Adding.{AddsCode, FewMore, layout_in}
use Rattle.isp_lower_code.specs.Callees.{rates_in}
use Rattle.isp_lower_code.specs.Layout.{Layout}
use Rattle.isp_lower.specs.reader.Apart.{IsApart, TakesOver}
use Rattle.isp_registers.specs.Reserved.{Gives, Has}
use Rattle.isp_registers.specs.declared.registers.Registers.{Registers}
use Rattle.isp_registers.specs.declared.reserve.Reserve.{Reserve}
use Rattle.isp_lower.specs.declared.types.Body.{Body}
use Rattle.isp_lower.specs.declared.types.Emitter.{Emitter}
use Rattle.isp_lower.proofs.Naming.{code_both, code_weaker}
use Rattle.isp_registers.proofs.Lemmas.{all_joined}

module _ (a b w : Body) (c : ℕ → ℕ → List Instr) (s : List Span) (apart : IsApart a b) (y : Appends b w c s) where
  pub apart_long : length a.code.items ≤ length w.code.items
  apart_long = omega (arith, apart.code, ap length y.code, length-append b.code.items (c (length b.code.items) (length b.places.items)))

  apart_appends : (z : Body) → TakesOver a w z → Appends a z c s
  apart_appends z taken =
      record {
        code =
            taken.code ∙ ap (λ n. a.code.items ++ drop n w.code.items) (sym apart.code)
            ∙ ap (λ is. a.code.items ++ drop (length b.code.items) is) y.code
            ∙ ap (λ is. a.code.items ++ is) (drop-append_seam b.code.items (c (length b.code.items) (length b.places.items)))
            ∙ ap (λ n. a.code.items ++ c n (length b.places.items)) apart.code
            ∙ ap (λ ps. a.code.items ++ c (length a.code.items) (length ps)) apart.places;
        places = taken.places ∙ y.places ∙ ap (λ ps. ps ++ s) apart.places;
        texts = taken.texts;
      }

-- ---- registers and masks are only added

longer : (xs ys : List Row) → Begins xs ys → length xs ≤ length ys
longer xs ys g = omega (arith, ap length g.is, length-append xs g.more)

more_of : (r z : Registers) (k m : ℕ) → Grows r z → k ≤ m → (c : Class) → count_of (rows_of r) k c ≤ count_of (rows_of z) m c
more_of r z k m g le class.Scalar = longer (rows_of r).scalars (rows_of z).scalars g.scalars
more_of r z k m g le class.Vector = longer (rows_of r).vectors (rows_of z).vectors g.vectors
more_of r z k m g le class.Array = longer (rows_of r).arrays (rows_of z).arrays g.arrays
more_of r z k m g le class.Mask = le

all_named : (old new : Emitter) (c : ℕ → ℕ → List Instr) (s : List Span) → AddsCode old new c s
    → InCode (IsOf (rows_of new.reserved.registers) new.reserved.masks) (c (length old.body.code.items) (length old.body.places.items))
    → HasAllNamed (draft_of old) → HasAllNamed (draft_of new)
all_named old new c s w part h =
    let P = IsOf (rows_of old.reserved.registers) old.reserved.masks in
    let Q = IsOf (rows_of new.reserved.registers) new.reserved.masks in
    let more = more_of old.reserved.registers new.reserved.registers old.reserved.masks new.reserved.masks w.rows w.masks in
    let before : InCode Q old.body.code.items = code_weaker P Q (λ x lt. omega (arith, lt, more x.class)) old.body.code.items h in
    subst (InCode Q) (sym w.appends.code) (code_both Q old.body.code.items (c (length old.body.code.items) (length old.body.places.items)) before part)

-- ---- an emitter reserves what is asked for on a copy, and takes it over with what was written apart

module _ (old : Emitter) (copy asked : Reserve) (a : Ask) (same : copy ≡ old.reserved) (gives : Gives copy asked a) where
  grown : Grows old.reserved.registers asked.registers
  grown = subst (λ (r : Reserve). Grows r.registers asked.registers) same gives.rows

  more : old.reserved.masks ≤ asked.masks
  more = subst (λ (r : Reserve). r.masks ≤ asked.masks) same gives.masks

  pub asked_has : HasOwn (draft_of old).rows a → Has asked a
  asked_has own = all_joined old.reserved asked grown a gives.has own

  pub asked_mask : (k : ℕ) → k < old.reserved.masks → k < asked.masks
  asked_mask k lt = omega (arith, lt, more)

  module _ (new : Emitter) (rest : new ≡ record old { reserved = asked; body = new.body }) where
    pub taken_few : FewMore (draft_of old) (draft_of new) a
    taken_few = subst (λ e. FewMore (draft_of old) (draft_of e) a) (sym rest) (record {
      rows = subst (λ (r : Reserve). GrowsBy (registers_asked a) (rows_of r.registers) (rows_of asked.registers)) same gives.few;
      masks = subst (λ (r : Reserve). asked.masks ≡ masks_with r.masks a) same gives.masks_are;
    })

    pub taken_has : HasOwn (draft_of old).rows a → Has new.reserved a
    taken_has own = subst (λ (e : Emitter). Has e.reserved a) (sym rest) (asked_has own)

    -- the code is the same where the registers of the new emitter lie
    module _ (l : Layout) (at : l ≡ layout_of (rates_in (draft_of old).callees) (rows_of asked.registers)) where
      pub taken_layout : l ≡ layout_in new
      taken_layout = at ∙ sym (ap layout_in rest)

      module _ (c : Layout → ℕ → ℕ → List Instr) (s : Layout → List Span) (b w : Body) (apart : IsApart old.body b) (y : Appends b w (c l) (s l)) (taken : TakesOver old.body w new.body) where
        pub taken_code : AddsCode old new (c (layout_in new)) (s (layout_in new))
        taken_code =
            let appends = apart_appends old.body b w (c l) (s l) apart y new.body taken in
            subst (λ z. AddsCode old new (c z) (s z)) taken_layout (subst (λ e. AddsCode old e (c l) (s l)) (sym rest) (record {
              appends = appends;
              rows = grown;
              masks = more;
              kept = ap (λ (ts : Vec (Vec ℕ Global) Global). record (draft_of old) {
                places = new.body.places.items;
                texts = map (λ t. t.items) ts.items;
                rows = rows_of asked.registers;
                masks = asked.masks;
                code = new.body.code.items;
              }) appends.texts;
            }))

        pub taken_named : ((pc p : ℕ) → InCode (IsOf (rows_of asked.registers) asked.masks) (c (layout_of (rates_in (draft_of old).callees) (rows_of asked.registers)) pc p)) → HasAllNamed (draft_of old) → HasAllNamed (draft_of new)
        taken_named named h =
            let there = named (length old.body.code.items) (length old.body.places.items) in
            all_named old new (c (layout_in new)) (s (layout_in new)) taken_code
            (subst (λ (e : Emitter). InCode (IsOf (rows_of e.reserved.registers) e.reserved.masks) (c (layout_in e) (length old.body.code.items) (length old.body.places.items))) (sym rest) there) h

-- ---- rows are longer

one_longer : (t : Elem) (xs : List Row) → length xs ≤ length (with_fresh t xs)
one_longer t xs = omega (arith, length-append xs (record { name = Fresh (length xs); elem = t } ∷ []))

many_longer : (k : ℕ) (t : Elem) (xs : List Row) → length xs ≤ length (with_many_fresh k t xs)
many_longer zero t xs = omega arith
many_longer (suc k) t xs = omega (arith, one_longer t xs, many_longer k t (with_fresh t xs))

all_longer : (n : ℕ) (t : Elem) (xs : List Row) → length xs ≤ length (with_fresh_from n t xs)
all_longer n t xs =
    let more = with_many_fresh (n - length xs) t xs in
    omega (arith, many_longer (n - length xs) t xs, one_longer t more)

with_more : (n : ℕ) (r : Rate) (t : Elem) (rows : Rows) (masks : ℕ) (c : Class) → count_of rows masks c ≤ count_of (with_fresh_from_at n r t rows) masks c
with_more n Uniform t rows masks class.Scalar = all_longer n t rows.scalars
with_more n Uniform t rows masks class.Vector = omega arith
with_more n Uniform t rows masks class.Array = omega arith
with_more n Uniform t rows masks class.Mask = omega arith
with_more n Varying t rows masks class.Scalar = omega arith
with_more n Varying t rows masks class.Vector = all_longer n t rows.vectors
with_more n Varying t rows masks class.Array = omega arith
with_more n Varying t rows masks class.Mask = omega arith

pub fresh_named : (n : ℕ) (r : Rate) (t : Elem) (rows : Rows) (masks : ℕ) (code : List Instr) → InCode (IsOf rows masks) code → InCode (IsOf (with_fresh_from_at n r t rows) masks) code
fresh_named n r t rows masks code h =
    code_weaker (IsOf rows masks) (IsOf (with_fresh_from_at n r t rows) masks) (λ x lt. omega (arith, lt, with_more n r t rows masks x.class)) code h

with_mask_more : (rows : Rows) (masks more : ℕ) (c : Class) → masks ≤ more → count_of rows masks c ≤ count_of rows more c
with_mask_more rows masks more class.Scalar le = omega arith
with_mask_more rows masks more class.Vector le = omega arith
with_mask_more rows masks more class.Array le = omega arith
with_mask_more rows masks more class.Mask le = le

pub fresh_mask_named : (rows : Rows) (masks more : ℕ) (code : List Instr) → masks ≤ more → InCode (IsOf rows masks) code → InCode (IsOf rows more) code
fresh_mask_named rows masks more code le h =
    code_weaker (IsOf rows masks) (IsOf rows more) (λ x lt. omega (arith, lt, with_mask_more rows masks more x.class le)) code h

-- ---- another target names no other register

module _ (P : Register → Type 0) where
  retargeted_named : (i : Instr) (to : ℕ) → InInstr P i → InInstr P (retargeted i to)
  retargeted_named (instr.Scalar d i) to h = h
  retargeted_named (instr.Vector d i) to h = h
  retargeted_named (instr.Mask d i) to h = h
  retargeted_named (instr.Divide op d x y k p) to h = h
  retargeted_named (instr.Store a i y k p) to h = h
  retargeted_named (instr.Scatter a i y k p) to h = h
  retargeted_named (instr.StoreRun a i y k p) to h = h
  retargeted_named (instr.PackedStore d a i y k p) to h = h
  retargeted_named (instr.PackedLoad d a i y k p) to h = h
  retargeted_named (instr.Clear a k) to h = h
  retargeted_named (instr.Jump old) to h = h
  retargeted_named (instr.JumpIf t x old) to h = h
  retargeted_named (instr.Say t) to h = h
  retargeted_named (instr.PrintScalar x) to h = h
  retargeted_named (instr.PrintVector x k) to h = h
  retargeted_named (instr.Fail x p) to h = h
  retargeted_named (instr.Call c) to h = h
  retargeted_named (instr.Return x) to h = h

  pub patched_named : (code : List Instr) (at to : ℕ) → InCode P code → InCode P (patched code at to)
  patched_named [] at to h = tt
  patched_named (i ∷ is) zero to h = (retargeted_named i to h.0, h.1)
  patched_named (i ∷ is) (suc at) to h = (h.0, patched_named is at to h.1)
