-- Each instruction of the code of a loop has its operands, where those of its parts have.
use Rattle.std.proofs.Common.{◌≡◌, ◌≢◌, ℕ, ◌+◌, ◌<◌, List, [], ◌∷◌, ◌++◌, length, Bool, true, false, refl, sym, ◌∙◌, arith, length-append}
use Rattle.isp_base.specs.Ranks.{operand}
use Rattle.isp_base.specs.declared.operators.Compare.TheVariants.{Equal}
use Rattle.isp_base.specs.declared.types.Elem.{Elem}
use Rattle.isp_base.specs.declared.types.Elem.TheVariants.{Bool as Truth, I8, U8, I16, U16, I32, U32, I64, U64}
use Rattle.isp_base.specs.declared.types.Rate.{Rate}
use Rattle.isp_base.specs.declared.types.Rate.TheVariants.{Uniform, Varying}
use Rattle.isp_code.specs.Fine.{IsThere}
use Rattle.isp_code.specs.Listing.{Listing, Routine}
use Rattle.isp_code.specs.Registers.{elem_of}
use Rattle.isp_code.specs.declared.instr.Instr.{Instr}
use Rattle.isp_code.specs.declared.instr.Instr.TheVariants as instr
use Rattle.isp_code.specs.declared.instr.JumpTest.TheVariants as jump
use Rattle.isp_code.specs.declared.instr.Reduction.TheVariants as reduction
use Rattle.isp_lower_code.specs.Instructions.{copy, where_so, the_others, jump_off}
use Rattle.isp_lower_code.specs.Pieces.{two, guard}
use Rattle.isp_lower_code.specs.Layout.{class_at, register, mask_register}
use Rattle.isp_lower_code.specs.Library.{reduce}
use Rattle.isp_lower_code.specs.Sound.{AreSound, IsRegister, IsSound}
use Rattle.isp_lower_code.proofs.Lemmas.{sound_both, compare_sound, convert_sound, copy_sound, splat_sound}
use Rattle.isp_masks_code.specs.Exits.{nobody_leaves}
use Rattle.isp_masks_code.specs.Loops.{copy_mask, if_needed, enter_code, loop_end_code, rejoin_code, turn_code, sift_code, live_code, again_code, next_code, loop_code, tested_code, for_code, endless_code}
use Rattle.isp_masks_code.specs.Rounds.{unmasked_code, active_code, Values, value_code, rounds_code, unique_code}
use Rattle.isp_masks_code.specs.Sets.{unite, clear_mask}
use Rattle.isp_masks_code.specs.Spots.{Spot}
use Rattle.isp_masks_code.specs.declared.exits.Exits.{Exits}

-- operators work on whole numbers
pub whole : (t : Elem) → operand t ≢ Truth
whole Truth = λ e. absurd (cc)
whole I8 = λ e. absurd (cc)
whole U8 = λ e. absurd (cc)
whole I16 = λ e. absurd (cc)
whole U16 = λ e. absurd (cc)
whole I32 = λ e. absurd (cc)
whole U32 = λ e. absurd (cc)
whole I64 = λ e. absurd (cc)
whole U64 = λ e. absurd (cc)

module _ (code : Listing) (h : Routine) where
  -- code at a place, before the last instruction
  abbrev pub HereSound : (ℕ → List Instr) → Type 0
  HereSound part = (pc : ℕ) → pc + length (part pc) < length h.code → AreSound code h (part pc)

  pub guard_sound : (k : ℕ) (part : ℕ → List Instr) → k < h.masks → HereSound part → HereSound (λ pc. guard (jump_off k) pc part)
  guard_sound k part there f pc lt = ((((refl, there), (omega arith, tt)), tt), f (pc + 1) (omega arith))

  pub two_sound : (a b : ℕ → List Instr) → HereSound a → HereSound b → HereSound (λ pc. two pc (a pc) b)
  two_sound a b f g pc lt =
      let e = length-append (a pc) (b (pc + length (a pc))) in
      sound_both code h (a pc) (b (pc + length (a pc))) (f pc (omega (arith, e, lt))) (g (pc + length (a pc)) (omega (arith, e, lt)))

  -- ---- bodies under masks of their own: the mask that has all lanes, or one after the other

  pub unmasked_sound : (n : ℕ) (body : ℕ → List Instr) → n < h.masks → HereSound body → HereSound (λ pc. unmasked_code n pc body)
  unmasked_sound n body ln f pc lt = ((((refl, ln), tt), tt), f (pc + 1) (omega (arith, lt)))

  pub active_sound : (i k n : ℕ) (body : ℕ → List Instr) → IsRegister h Uniform i I64 → k < h.masks → n < h.masks → n + 1 < h.masks → HereSound body → HereSound (λ pc. active_code i pc k n body)
  active_sound i k n body there lk ln lone f pc lt =
      let last = instr.JumpIf jump.On (mask_register n) (pc + 1) ∷ [] in
      let e = length-append (body (pc + 1 + 3)) last in (
        (((refl, ln), ((refl, lk), tt)), tt),
        (
          (((refl, lone), ((refl, ln), tt)), tt),
          (
            (((refl, ln), ((refl, ln), ((refl, lone), tt))), tt),
            (
              ((there, ((refl, lone), tt)), tt),
              sound_both code h (body (pc + 1 + 3)) last (f (pc + 1 + 3) (omega (arith, e, lt)))
                  ((((refl, ln), (omega (arith, e, lt), tt)), tt), tt),
            ),
          ),
        ),
      )

  -- values of type u, and an index of type t
  pub record ValuesThere (v : Values) (u t : Elem) : Type 0 where
    pub all : IsRegister h Varying v.all u
    pub one : IsRegister h Uniform v.one u
    pub each : IsRegister h Varying v.each u
    pub same : IsRegister h Varying v.same Truth
    pub index : IsRegister h Uniform v.index t

  value_sound : (v : Values) (u t : Elem) (n : ℕ) → u ≢ Truth → ValuesThere v u t → n < h.masks → n + 1 < h.masks → AreSound code h (value_code v n)
  value_sound v u t n number f ln lone =
      let least : IsSound code h (reduce reduction.Min v.one v.all (n + 1)) = (((f.one.0, λ e. number (sym f.one.1 ∙ e)), ((f.all.0, f.all.1 ∙ sym f.one.1), ((refl, lone), tt))), tt) in
      let index = convert_sound code h Uniform t u v.index v.one 0 f.index f.one (omega (arith, ln)) in
      let each = splat_sound code h u v.each v.one n f.each f.one ln in
      let same = compare_sound code h Varying Equal u v.same v.all v.each n f.same f.all f.each ln in
      let taken : IsSound code h (where_so (n + 1) v.same n) = (((refl, lone), ((f.same.0, f.same.1), ((refl, ln), tt))), tt) in
      ((((refl, lone), ((refl, ln), tt)), tt), (least, (index, (each, (same, (taken, ((((refl, ln), ((refl, ln), ((refl, lone), tt))), tt), tt)))))))

  pub unique_sound : (v : Values) (u t : Elem) (values : ℕ → List Instr) (x k n : ℕ) (body : ℕ → List Instr)
      → u ≢ Truth → ValuesThere v u t → IsRegister h Varying x u → k < h.masks → n < h.masks → n + 1 < h.masks → HereSound values → HereSound body → HereSound (λ pc. unique_code v (values pc) x pc k n body)
  unique_sound v u t values x k n body number f there lk ln lone fv fb =
      let kept = copy Varying v.all x k ∷ copy_mask n k ∷ [] in
      let begin = value_code v n in
      two_sound (λ pc. values pc ++ kept) (λ pc1. rounds_code begin n pc1 body)
      (two_sound values (λ pc. kept) fv (λ pc lt. (copy_sound code h Varying u v.all x k f.all there lk, ((((refl, ln), ((refl, lk), tt)), tt), tt))))
      (λ top lt. two_sound (λ pc. begin) (λ pc. body pc ++ instr.JumpIf jump.On (mask_register n) top ∷ []) (λ pc lt1. value_sound v u t n number f ln lone)
      (two_sound body (λ pc. instr.JumpIf jump.On (mask_register n) top ∷ []) fb (λ pc lt1. ((((refl, ln), (omega (arith, lt), tt)), tt), tt))) top lt)

  needed_sound : (b : Bool) (part : List Instr) → AreSound code h part → AreSound code h (if_needed b part)
  needed_sound true part f = f
  needed_sound false part f = tt

  module _ (e : Exits) (spot : Spot) (lk : spot.on < h.masks) (lr : spot.returned < h.masks) (own : (spot.slot < h.masks) × (spot.slot + 1 < h.masks) × (spot.slot + 2 < h.masks)) where
    -- the masks of the whole, and those of the loop
    abbrev k : ℕ
    k = spot.on

    abbrev rr : ℕ
    rr = spot.returned

    abbrev n : ℕ
    n = spot.slot

    live : n < h.masks
    live = own.0

    continued : n + 1 < h.masks
    continued = own.1

    returned : n + 2 < h.masks
    returned = own.2

    -- ---- what all loops have

    enter_sound : AreSound code h (enter_code e k n)
    enter_sound =
        let clear = clear_mask (n + 2) ∷ [] in
        let cleared : AreSound code h clear = ((((refl, returned), tt), tt), tt) in
        ((((refl, live), ((refl, lk), tt)), tt), needed_sound e.returns clear cleared)

    end_sound : AreSound code h (loop_end_code e k rr n)
    end_sound =
        let end = the_others k k (n + 2) ∷ unite rr rr (n + 2) ∷ [] in
        let ended : AreSound code h end = ((((refl, lk), ((refl, lk), ((refl, returned), tt))), tt), ((((refl, lr), ((refl, lr), ((refl, returned), tt))), tt), tt)) in
        needed_sound e.returns end ended

    rejoin_sound : (wide : Bool) → HereSound (λ pc. rejoin_code wide e pc n)
    rejoin_sound wide = go wide
      where
        join : List Instr
        join = unite n n (n + 1) ∷ []

        joined : AreSound code h (if_needed e.continues join)
        joined = needed_sound e.continues join ((((refl, live), ((refl, live), ((refl, continued), tt))), tt), tt)

        go : (b : Bool) → HereSound (λ pc. rejoin_code b e pc n)
        go true pc lt = ((((refl, live), (omega arith, tt)), tt), joined)
        go false pc lt = joined

    turn_sound : (wide : Bool) (body : ℕ → List Instr) → HereSound body → HereSound (λ pc. turn_code wide e pc n body)
    turn_sound wide body f =
        let clear = clear_mask (n + 1) ∷ [] in
        let cleared : AreSound code h clear = ((((refl, continued), tt), tt), tt) in
        two_sound (λ pc. if_needed e.continues clear) (λ pc. two pc (body pc) (λ pc1. rejoin_code wide e pc1 n)) (λ pc lt. needed_sound e.continues clear cleared) (two_sound body (λ pc. rejoin_code wide e pc n) f (rejoin_sound wide))

    live_sound : (b : Bool) (part : ℕ → List Instr) → HereSound part → HereSound (λ pc. live_code b n pc part)
    live_sound true part f = f
    live_sound false part f = guard_sound n part live f

    next_sound : (step back : ℕ → List Instr) → HereSound step → HereSound back → HereSound (λ pc. next_code e n pc step back)
    next_sound step back fs fb = live_sound (nobody_leaves e) (λ pc. two pc (step pc) back) (two_sound step back fs fb)

    module _ (r : Rate) (x : ℕ) (there : IsThere h (class_at r) (register r x)) (bool : elem_of h (register r x) ≡ Truth) where
      sift_sound : (rest : ℕ → List Instr) → HereSound rest → HereSound (λ pc. sift_code r x pc n rest)
      sift_sound rest f = go r there bool
        where
          go : (t : Rate) → IsThere h (class_at t) (register t x) → elem_of h (register t x) ≡ Truth → HereSound (λ pc. sift_code t x pc n rest)
          go Uniform is has pc lt = ((((is, has), (omega arith, tt)), tt), f (pc + 1) (omega arith))
          go Varying is has pc lt = ((((refl, live), ((is, has), ((refl, live), tt))), tt), guard_sound n rest live f (pc + 1) (omega arith))

      again_sound : (top : ℕ) → top < length h.code → AreSound code h (again_code r x n top)
      again_sound top lt = go r there bool
        where
          go : (t : Rate) → IsThere h (class_at t) (register t x) → elem_of h (register t x) ≡ Truth → AreSound code h (again_code t x n top)
          go Uniform is has = ((((is, has), (lt, tt)), tt), tt)
          go Varying is has = ((((refl, live), ((is, has), ((refl, live), tt))), tt), ((((refl, live), (lt, tt)), tt), tt))

    -- a loop begins, makes its turns from the next instruction on, and ends
    looped : (inside : ℕ → List Instr) → ((top : ℕ) → top < length h.code → top + length (inside top) < length h.code → AreSound code h (inside top)) → HereSound (λ pc. loop_code e pc spot inside)
    looped inside f pc lt =
        let begin = enter_code e k n in
        let last = loop_end_code e k rr n in
        let top = pc + length begin in
        let e1 = length-append begin (inside top ++ last) in
        let e2 = length-append (inside top) last in
        sound_both code h begin (inside top ++ last) enter_sound (sound_both code h (inside top) last (f top (omega (arith, e1, lt)) (omega (arith, e1, e2, lt))) end_sound)

    -- ---- the loops

    pub endless_sound : (body step : ℕ → List Instr) → HereSound body → HereSound step → HereSound (λ pc. endless_code e pc spot body step)
    endless_sound body step fb fs =
        let back = λ (top pc : ℕ). instr.Jump top ∷ [] in
        looped (λ top. two top (turn_code false e top n body) (λ pc. next_code e n pc step (back top)))
        (λ top lt. two_sound (λ pc. turn_code false e pc n body) (λ pc. next_code e n pc step (back top)) (turn_sound false body fb)
        (next_sound step (back top) fs (λ pc lt1. (((lt, tt), tt), tt))) top)

    module _ (wide : Bool) (r : Rate) (x : ℕ) (test body step : ℕ → List Instr) (there : IsThere h (class_at r) (register r x)) (bool : elem_of h (register r x) ≡ Truth) (ft : HereSound test) (fb : HereSound body) (fs : HereSound step) where
      abbrev turns_from : ℕ → List Instr
      turns_from top = tested_code wide e r x n top test body step

      turns_sound : (top : ℕ) → top < length h.code → top + length (turns_from top) < length h.code → AreSound code h (turns_from top)
      turns_sound top lt =
          let back = λ (pc : ℕ). test pc ++ again_code r x n top in
          two_sound (λ pc. turn_code wide e pc n body) (λ pc. next_code e n pc step back) (turn_sound wide body fb) (next_sound step back fs (two_sound test (λ pc. again_code r x n top) ft (λ pc lt1. again_sound r x there bool top lt))) top

      pub turned_sound : HereSound (λ pc. loop_code e pc spot turns_from)
      turned_sound = looped turns_from turns_sound

      pub for_sound : (entry : ℕ → List Instr) → HereSound entry → HereSound (λ pc. for_code wide e r x pc spot entry test body step)
      for_sound entry fe =
          looped (λ top. two top (entry top) (λ pc. sift_code r x pc n turns_from)) (λ top lt. two_sound entry (λ pc. sift_code r x pc n turns_from) fe (sift_sound r x there bool turns_from (λ pc lt1. turns_sound pc (omega (arith, lt1)) lt1)) top)
