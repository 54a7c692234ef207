-- One lane after the other, where a mask has it: a vector register is set, or the lowest lane that fails traps.
use Rattle.std.proofs.Common.{◌≡◌, ◌≢◌, ℕ, zero, suc, ◌+◌, ◌*◌, ◌/◌, ◌%◌, ◌^◌, ◌<◌, ◌≤◌, ◌⊎◌, inl, inr, List, Option, Some, None, Bool, true, false, ◌&&◌, refl, sym, ap, ap₂, ◌∙◌, subst, arith}
use Rattle.std.specs.Prelude.{nat_eq, nat_lt, if◌then◌else◌}
use Rattle.std.proofs.lemmas.Bool.{cases_eq, cases_lt, lt-ltb, le-ltb}
use Rattle.isp_base.specs.Maps.{Lanes, put}
use Rattle.isp_base.specs.Sets.{Mask, lowest, or_this}
use Rattle.isp_base.specs.declared.types.Elem.{Elem}
use Rattle.isp_code.specs.Calls.{place_at}
use Rattle.isp_code.specs.Conf.{Conf}
use Rattle.isp_code.specs.declared.register.Register.{Register}
use Rattle.isp_wasm_meaning.specs.Syntax as wasm
use Rattle.isp_wasm_meaning.specs.Syntax.{Code, If, Skip}
use Rattle.isp_wasm_meaning.specs.Meaning.{Report, State, Result, Fell, Trapped, run, value, behind, binary, lane, wide, count, flags}
use Rattle.isp_wasm_meaning.proofs.Bits.{replaced_same, replaced_other}
use Rattle.isp_wasm.specs.Places as place
use Rattle.isp_wasm.specs.Places.{Setting, Place, IsKept, elem, shape, shape_of, gang}
use Rattle.isp_wasm.specs.Rows.{cell}
use Rattle.isp_wasm.specs.Templates.{lane_loop, is_member}
use Rattle.isp_wasm.specs.Standing.{Holds, IsSettled, vector_register}
use Rattle.isp_wasm.proofs.Frames.{put_same, put_other, AlikeBut, holds_vector}
use Rattle.isp_wasm.proofs.Parts.{Kept, Told, each_part}
use Rattle.isp_wasm.proofs.Cells.{split_lane}

-- ---- the lowest of a set

pub lowest_at : (n p : ℕ) (a : Mask) → p < n → a p ≡ true → ((r : ℕ) → r < p → a r ≡ false) → lowest n a ≡ Some p
lowest_at zero p a l h before = absurd (omega arith)
lowest_at (suc n) p a l h before = by (cases_lt p n) (λ lt. lowest_at n p a lt h before)
  where
    none : (m : ℕ) → m ≤ p → lowest m a ≡ None
    none zero le = refl
    none (suc m) le = ap₂ (λ o b. or_this o b m) (none m (omega arith)) (before m (omega arith))

    by : (p < n) ⊎ (n ≤ p) → (p < n → lowest n a ≡ Some p) → or_this (lowest n a) (a n) n ≡ Some p
    by (inl lt) below = ap (λ o. or_this o (a n) n) (below lt)
    by (inr le) below =
        let same : p ≡ n = omega arith in
        ap₂ (λ o b. or_this o b n) (none n le) (ap a (sym same) ∙ h) ∙ ap Some (sym same)

pub none_lowest : (n : ℕ) (a : Mask) → ((r : ℕ) → r < n → a r ≡ false) → lowest n a ≡ None
none_lowest zero a h = refl
none_lowest (suc n) a h = ap₂ (λ o b. or_this o b n) (none_lowest n a (λ r l. h r (omega arith))) (h n (omega arith))

pub lowest_same : (n : ℕ) (a b : Mask) → ((p : ℕ) → p < n → a p ≡ b p) → lowest n a ≡ lowest n b
lowest_same zero a b h = refl
lowest_same (suc n) a b h = ap₂ (λ o d. or_this o d n) (lowest_same n a b (λ p l. h p (omega arith))) (h n (omega arith))

one_lane : (t : Elem) (j i p : ℕ) → i < count (shape_of t) → j * count (shape_of t) + i ≡ p → (j ≡ p / count (shape_of t)) × (i ≡ p % count (shape_of t))
one_lane t j i p l e = by (shape_of t) l e
  where
    by : (z : wasm.Shape) → i < count z → j * count z + i ≡ p → (j ≡ p / count z) × (i ≡ p % count z)
    by wasm.I8x16 l e = (omega arith, omega arith)
    by wasm.I16x8 l e = (omega arith, omega arith)
    by wasm.I32x4 l e = (omega arith, omega arith)
    by wasm.I64x2 l e = (omega arith, omega arith)

more_off : (p : ℕ) (a : Mask) → ((r : ℕ) → r < p → a r ≡ false) → a p ≡ false → (r : ℕ) → r < suc p → a r ≡ false
more_off p a h e r l = elim (cases_lt r p) [ inl lt ↦ h r lt | inr le ↦ subst (λ r. a r ≡ false) (let same : p ≡ r = omega arith in same) e ]

-- registers that are the same in the gang
pub holds_same : (w : Setting) (sc : ℕ → ℕ) (ve vf : ℕ → Lanes) (ma : ℕ → Mask) (l : ℕ → ℕ) → ((r p : ℕ) → p < gang w → ve r p ≡ vf r p) → Holds w sc ve ma l → Holds w sc vf ma l
holds_same w sc ve vf ma l same h =
    record {
      scalars_are = h.scalars_are;
      vectors_are = λ r j k p q. h.vectors_are r j k p q ∙ ap (cell (elem w (vector_register r))) (same r (j * count (shape w (vector_register r)) + k) q);
      masks_are = h.masks_are;
      fits = h.fits;
      members = h.members;
      bases = h.bases;
      counts = h.counts;
      depth = h.depth;
      top_is = h.top_is;
    }

-- ---- whatever is done for each lane

module _ (w : Setting) (fuel : ℕ) (call : ℕ → List ℕ → State → Result) (ma : ℕ → Mask) (m : Register) (bad : Mask) (kind q : ℕ) (body : ℕ → Code)
    (I : ℕ → State → Type 0) where
  abbrev pub ill : Mask
  ill p = ma m.number p && bad p

  abbrev pub fault_of : ℕ → Report
  fault_of p = record { kind = kind; start = (place_at w.code q).start; end = (place_at w.code q).end; instance = p % 2 ^ 32 }

  -- p lanes are done, and none of them failed
  pub record Sound (p : ℕ) (t : State) : Type 0 where
    pub inv : I p t
    pub sound : (r : ℕ) → r < p → ill r ≡ false

  -- a lane failed, and no lower one
  pub record Refused (o : Option Report) (t : State) : Type 0 where
    pub number : ℕ
    pub low : number < gang w
    pub inv : I number t
    pub outside : ill number ≡ true
    pub before : (r : ℕ) → r < number → ill r ≡ false
    pub report_is : o ≡ Some (fault_of number)

  -- what is asked of a lane's code
  pub record IsLaneCode : Type 1 where
    pub member : (p : ℕ) (t : State) → I p t → value t.locals (is_member w m p) ≡ flags 8 (ma m.number p)
    pub skips : (p : ℕ) (t : State) → p < gang w → I p t → ma m.number p ≡ false → I (suc p) t
    pub works : (p : ℕ) (t : State) → p < gang w → I p t → ma m.number p ≡ true → bad p ≡ false → Kept (I (suc p)) (run fuel call (body p) t)
    pub fails : (p : ℕ) (t : State) → p < gang w → I p t → ma m.number p ≡ true → bad p ≡ true → run fuel call (body p) t ≡ Trapped (Some (fault_of p)) t

  abbrev pub Done : ℕ → Result → Type 0
  Done p r = Kept (Sound (suc p)) r ⊎ Told Refused r

  module _ (code : IsLaneCode) where
    entered : (p : ℕ) (t : State) → I p t → (b : Bool) → ma m.number p ≡ b → run fuel call (If (is_member w m p) (body p) Skip) t ≡ behind (if b then run fuel call (body p) t else Fell t)
    entered p t i b e = ap (λ v. behind (if nat_eq v 0 then Fell t else run fuel call (body p) t)) (code.member p t i ∙ ap (flags 8) e) ∙ cut b
      where
        cut : (b : Bool) → behind (if nat_eq (flags 8 b) 0 then Fell t else run fuel call (body p) t) ≡ behind (if b then run fuel call (body p) t else Fell t)
        cut true = refl
        cut false = refl

    step : (p : ℕ) → p < gang w → (t : State) → Sound p t → Done p (run fuel call (If (is_member w m p) (body p) Skip) t)
    step p low t f = by (ma m.number p) (bad p) refl refl
      where
        by : (b e : Bool) → ma m.number p ≡ b → bad p ≡ e → Done p (run fuel call (If (is_member w m p) (body p) Skip) t)
        by false e off is = inl (record { state = t; fell = entered p t f.inv false off; holds = record { inv = code.skips p t low f.inv off; sound = more_off p ill f.sound (ap (λ b. b && bad p) off) } })
        by true false on is =
            let k = code.works p t low f.inv on is in
            inl (record { state = k.state; fell = entered p t f.inv true on ∙ ap behind k.fell; holds = record { inv = k.holds; sound = more_off p ill f.sound (ap₂ (λ b d. b && d) on is) } })
        by true true on is =
            inr
            (record {
              state = t;
              report = Some (fault_of p);
              trapped = entered p t f.inv true on ∙ ap behind (code.fails p t low f.inv on is);
              holds = record { number = p; low = low; inv = f.inv; outside = ap₂ (λ b d. b && d) on is; before = f.sound; report_is = refl };
            })

    pub lanes_run : (s : State) → I 0 s → Kept (Sound (gang w)) (run fuel call (lane_loop w m body) s) ⊎ Told Refused (run fuel call (lane_loop w m body) s)
    lanes_run s i = each_part fuel call (λ p. If (is_member w m p) (body p) Skip) Sound Refused (gang w) step s (record { inv = i; sound = λ r l. absurd (omega arith) })

-- ---- a vector register is set

module _ (w : Setting) (ready : IsSettled w) (fuel : ℕ) (call : ℕ → List ℕ → State → Result) (c : Conf) (s : State) (d : ℕ) (m : Register) (v : ℕ → ℕ) where
  abbrev pub t : Elem
  t = elem w (vector_register d)

  -- the lanes below p are set
  abbrev pub part : ℕ → Lanes
  part p r = if nat_lt r p then (if c.masks m.number r then v r else c.vectors d r) else c.vectors d r

  abbrev pub vectors_at : ℕ → ℕ → Lanes
  vectors_at p = put c.vectors d (part p)

  pub record Filled (p : ℕ) (u : State) : Type 0 where
    pub locals : ℕ → ℕ
    pub is : u ≡ record s { locals = locals }
    pub holds : Holds w c.scalars (vectors_at p) c.masks locals

  -- a lane that is not set yet has what it had
  pub kept_lane : (p x : ℕ) → vectors_at p x p ≡ c.vectors x p
  kept_lane p x = by (cases_eq x d)
    where
      by : (x ≡ d) ⊎ (x ≡ d → ⊥) → vectors_at p x p ≡ c.vectors x p
      by (inl e) = ap (λ f. f p) (put_same c.vectors d (part p) x e) ∙ ap (λ b. if b then (if c.masks m.number p then v p else c.vectors d p) else c.vectors d p) (le-ltb p p (omega arith)) ∙ ap (λ r. c.vectors r p) (sym e)
      by (inr ne) = ap (λ f. f p) (put_other c.vectors d (part p) x ne)

  next_part : (p r : ℕ) → (r ≡ p → ⊥) → part p r ≡ part (suc p) r
  next_part p r ne = by (cases_lt r p)
    where
      by : (r < p) ⊎ (p ≤ r) → part p r ≡ part (suc p) r
      by (inl lt) = ap (λ b. if b then (if c.masks m.number r then v r else c.vectors d r) else c.vectors d r) (lt-ltb r p lt ∙ sym (lt-ltb r (suc p) (omega arith)))
      by (inr le) = let other : r ≢ p = ne in ap (λ b. if b then (if c.masks m.number r then v r else c.vectors d r) else c.vectors d r) (le-ltb r p le ∙ sym (le-ltb r (suc p) (omega arith)))

  this_part : (p : ℕ) (b : Bool) → c.masks m.number p ≡ b → part (suc p) p ≡ (if b then v p else c.vectors d p)
  this_part p b e = ap (λ b. if b then (if c.masks m.number p then v p else c.vectors d p) else c.vectors d p) (lt-ltb p (suc p) (omega arith)) ∙ ap (λ b. if b then v p else c.vectors d p) e

  old_part : (p : ℕ) → part p p ≡ c.vectors d p
  old_part p = ap (λ b. if b then (if c.masks m.number p then v p else c.vectors d p) else c.vectors d p) (le-ltb p p (omega arith))

  off_part : (p r : ℕ) → c.masks m.number p ≡ false → part p r ≡ part (suc p) r
  off_part p r off = by (cases_eq r p)
    where
      by : (r ≡ p) ⊎ (r ≡ p → ⊥) → part p r ≡ part (suc p) r
      by (inl e) = ap (part p) e ∙ old_part p ∙ sym (ap (part (suc p)) e ∙ this_part p false off)
      by (inr ne) = next_part p r ne

  parts_same : (f g : Lanes) (r p : ℕ) → (f p ≡ g p) → put c.vectors d f r p ≡ put c.vectors d g r p
  parts_same f g r p e = by (cases_eq r d)
    where
      by : (r ≡ d) ⊎ (r ≡ d → ⊥) → put c.vectors d f r p ≡ put c.vectors d g r p
      by (inl h) = ap (λ x. x p) (put_same c.vectors d f r h) ∙ e ∙ sym (ap (λ x. x p) (put_same c.vectors d g r h))
      by (inr ne) = ap (λ x. x p) (put_other c.vectors d f r ne ∙ sym (put_other c.vectors d g r ne))

  pub filled_skip : (p : ℕ) (u : State) → Filled p u → c.masks m.number p ≡ false → Filled (suc p) u
  filled_skip p u f off =
      record { locals = f.locals; is = f.is; holds = holds_same w c.scalars (vectors_at p) (vectors_at (suc p)) c.masks f.locals (λ r x q. parts_same (part p) (part (suc p)) r x (off_part p x off)) f.holds }

  -- a lane is set
  pub filled_set : (p : ℕ) → p < gang w → (l n : ℕ → ℕ) (x : ℕ) → Holds w c.scalars (vectors_at p) c.masks l → c.masks m.number p ≡ true → x % 2 ^ wide (shape_of t) ≡ cell t (v p)
      → n (w.local (place.Vector d (p / count (shape_of t)))) ≡ binary (wasm.Replace (shape_of t) (p % count (shape_of t))) (l (w.local (place.Vector d (p / count (shape_of t))))) x
      → AlikeBut w (λ y. y ≡ place.Vector d (p / count (shape_of t))) l n → Filled (suc p) (record s { locals = n })
  filled_set p low l n x h on is sets others =
      record {
        locals = n;
        is = refl;
        holds =
            holds_same w c.scalars (put (vectors_at p) d (part (suc p))) (vectors_at (suc p)) c.masks n twice
            (holds_vector w c.scalars (vectors_at p) c.masks l n d (part (suc p)) h lanes (λ y kept out. others y kept (λ e. out (p / count (shape_of t), e))));
      }
    where
      twice : (r y : ℕ) → y < gang w → put (vectors_at p) d (part (suc p)) r y ≡ vectors_at (suc p) r y
      twice r y q = by (cases_eq r d)
        where
          by : (r ≡ d) ⊎ (r ≡ d → ⊥) → put (vectors_at p) d (part (suc p)) r y ≡ vectors_at (suc p) r y
          by (inl e) = ap (λ f. f y) (put_same (vectors_at p) d (part (suc p)) r e ∙ sym (put_same c.vectors d (part (suc p)) r e))
          by (inr ne) = ap (λ f. f y) (put_other (vectors_at p) d (part (suc p)) r ne ∙ put_other c.vectors d (part p) r ne ∙ sym (put_other c.vectors d (part (suc p)) r ne))

      old : (j i : ℕ) → i < count (shape_of t) → j * count (shape_of t) + i < gang w → lane (shape_of t) i (l (w.local (place.Vector d j))) ≡ cell t (part p (j * count (shape_of t) + i))
      old j i li lw = h.vectors_are d j i li lw ∙ ap (λ f. cell t (f (j * count (shape_of t) + i))) (put_same c.vectors d (part p) d refl)

      by : (j i : ℕ) → i < count (shape_of t) → j * count (shape_of t) + i < gang w → (j * count (shape_of t) + i ≡ p) ⊎ (j * count (shape_of t) + i ≡ p → ⊥) → (j ≡ p / count (shape_of t)) ⊎ (j ≡ p / count (shape_of t) → ⊥)
          → lane (shape_of t) i (n (w.local (place.Vector d j))) ≡ cell t (part (suc p) (j * count (shape_of t) + i))
      by j i li lw (inl e) g =
          let at = one_lane t j i p li e in
          ap₂ (λ j i. lane (shape_of t) i (n (w.local (place.Vector d j)))) at.0 at.1 ∙ ap (lane (shape_of t) (p % count (shape_of t))) sets
          ∙ replaced_same (shape_of t) (p % count (shape_of t)) (l (w.local (place.Vector d (p / count (shape_of t))))) x (split_lane t p).1 ∙ is
          ∙ ap (cell t) (sym (ap (part (suc p)) e ∙ this_part p true on))
      by j i li lw (inr ne) (inl js) =
          ap (λ j. lane (shape_of t) i (n (w.local (place.Vector d j)))) js ∙ ap (lane (shape_of t) i) sets
          ∙ replaced_other (shape_of t) (p % count (shape_of t)) i (l (w.local (place.Vector d (p / count (shape_of t))))) x li (λ same. ne (ap₂ (λ j i. j * count (shape_of t) + i) js same ∙ (split_lane t p).0))
          ∙ ap (λ j. lane (shape_of t) i (l (w.local (place.Vector d j)))) (sym js) ∙ old j i li lw ∙ ap (cell t) (next_part p (j * count (shape_of t) + i) ne)
      by j i li lw (inr ne) (inr nj) = ap (lane (shape_of t) i) (others (place.Vector d j) tt (λ e. nj cc)) ∙ old j i li lw ∙ ap (cell t) (next_part p (j * count (shape_of t) + i) ne)

      lanes : (j i : ℕ) → i < count (shape_of t) → j * count (shape_of t) + i < gang w → lane (shape_of t) i (n (w.local (place.Vector d j))) ≡ cell t (part (suc p) (j * count (shape_of t) + i))
      lanes j i li lw = by j i li lw (cases_eq (j * count (shape_of t) + i) p) (cases_eq j (p / count (shape_of t)))

  pub none_filled : Holds w c.scalars c.vectors c.masks s.locals → Filled 0 s
  none_filled h = record { locals = s.locals; is = refl; holds = holds_same w c.scalars c.vectors (vectors_at 0) c.masks s.locals (λ r p q. by r p (cases_eq r d)) h }
    where
      by : (r p : ℕ) → (r ≡ d) ⊎ (r ≡ d → ⊥) → c.vectors r p ≡ vectors_at 0 r p
      by r p (inl e) = ap (λ r. c.vectors r p) e ∙ sym (ap (λ f. f p) (put_same c.vectors d (part 0) r e) ∙ ap (λ b. if b then (if c.masks m.number p then v p else c.vectors d p) else c.vectors d p) (le-ltb p 0 (omega arith)))
      by r p (inr ne) = ap (λ f. f p) (sym (put_other c.vectors d (part 0) r ne))

  -- all are set
  pub all_filled : (u : State) (f : Filled (gang w) u) (new : Lanes) → ((p : ℕ) → p < gang w → (if c.masks m.number p then v p else c.vectors d p) ≡ new p) → Holds w c.scalars (put c.vectors d new) c.masks f.locals
  all_filled u f new same =
      holds_same w c.scalars (vectors_at (gang w)) (put c.vectors d new) c.masks f.locals
      (λ r p q. parts_same (part (gang w)) new r p (ap (λ b. if b then (if c.masks m.number p then v p else c.vectors d p) else c.vectors d p) (lt-ltb p (gang w) q) ∙ same p q)) f.holds
