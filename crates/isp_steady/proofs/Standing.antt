-- Elements at a linear index stand in a row where no member passes the greatest value.
use Rattle.std.specs.Prelude.{◌≡◌, ℕ, zero, suc, ◌-◌, ◌%◌, ◌^◌, ◌<◌, ◌≤◌, Option, Some, None, Bool, true, false, not, ◌&&◌, if◌then◌else◌, ℤ, pos, negsuc, ◌+ℤ◌, ◌-ℤ◌, ◌*ℤ◌, ◌≤ℤ◌, ◌<ℤ◌, int_lt, unsigned_abs}
use Rattle.std.proofs.Common.{refl, sym, ap, ap₂, ◌∙◌, subst, arith, mod-lt, pow_pos}
use Rattle.std.proofs.Math.Path.{fun_ext}
use Rattle.std.proofs.lemmas.Int.{ints}
use Rattle.isp_base.specs.Access.{is_outside, is_beyond, element, scatter}
use Rattle.isp_base.specs.Cross.{run_index, run_outside}
use Rattle.isp_base.specs.Maps.{on, holds, put}
use Rattle.isp_base.specs.Ranges.{SameModulo, IsValue, IsSigned, IsUnsigned}
use Rattle.isp_base.specs.Sets.{Mask, lowest}
use Rattle.isp_base.specs.Values.{width, greatest, number, wrap}
use Rattle.isp_base.specs.declared.trap.TrapKind.TheVariants.{Index}
use Rattle.isp_base.specs.declared.types.Elem.{Elem}
use Rattle.isp_base.specs.declared.types.Elem.TheVariants.{Bool as Truth, I8, U8, I16, U16, I32, U32, I64, U64}
use Rattle.isp_base.specs.declared.types.Rate.TheVariants.{Uniform}
use Rattle.isp_base.specs.declared.types.Span.{Span}
use Rattle.isp_base.specs.declared.types.Ty.{Ty}
use Rattle.isp_base.proofs.Compares.{low_number}
use Rattle.isp_base.proofs.Converts.{no_truth}
use Rattle.isp_base.proofs.Laws.{value_is, same_is, back_is, bits_are}
use Rattle.isp_typed.specs.Typed.{TExpr, t_place, t_element, elem_of, t_assign}
use Rattle.isp_typed.specs.declared.variable.ArrayVariable.{ArrayVariable}
use Rattle.isp_meaning.specs.State.{State, Frame, tick, extent}
use Rattle.isp_meaning.specs.Payloads.{Payload, Each, converted, spread, offender}
use Rattle.isp_meaning.specs.Outcomes.{Gives, bind, checked}
use Rattle.isp_meaning.specs.Places.{Place, Element, outside, held, kept, elements, with_elements}
use Rattle.isp_meaning.specs.Expressions.{Calls, value}
use Rattle.isp_meaning.specs.Simple.{simple}
use Rattle.isp_steady.specs.Known.{IsInside, counted_on}
use Rattle.isp_steady.specs.Rows.{InStep, has_room, row_held, row_kept, StandInARow}
use Rattle.isp_steady.proofs.Ones.{map1_on, on_same}
use Rattle.isp_steady.proofs.Counts.{counted_wraps}

-- ---- numbers

-- the bits of a value stand for one
bits_value : (t : Elem) (u : ℕ) → IsValue t (number t u)
bits_value t u =
    let low = u % 2 ^ width t in
    let lt : low < 2 ^ width t = mod-lt u (pow_pos (width t)) in
    subst (IsValue t) (ap (number t) (bits_are t low lt) ∙ low_number t u low refl) (value_is t (number t low))

pub not_more : (z c : ℤ) → not (int_lt c z) ≡ true → z ≤ℤ c
not_more z c e = grind (arith, ints, e)

not_less : (z c : ℤ) → z ≤ℤ c → not (int_lt c z) ≡ true
not_less z c le = grind (arith, ints, le)

-- 31 below the greatest value there is room for a gang of any width
pub room_in : (gang : ℕ) (t : Elem) (u : ℕ) → gang ≤ 32 → number t u ≤ℤ (pos (greatest t) -ℤ pos 31) → has_room gang t u ≡ true
room_in gang t u few le = not_less (number t u) (pos (greatest t) -ℤ pos (gang - 1)) (omega (arith, ints, few, le))

signed_up : (h p : ℕ) (z : ℤ) → IsSigned h z → (z +ℤ pos p) ≤ℤ pos (2 ^ h - 1) → IsSigned h (z +ℤ pos p)
signed_up h p z v le = let some = pow_pos h in (omega (arith, ints, v.0), omega (arith, ints, le))

unsigned_up : (h p : ℕ) (z : ℤ) → IsUnsigned h z → (z +ℤ pos p) ≤ℤ pos (2 ^ h - 1) → IsUnsigned h (z +ℤ pos p)
unsigned_up h p z v le = let some = pow_pos h in (omega (arith, ints, v.0), omega (arith, ints, le))

value_up : (t : Elem) (p : ℕ) (z : ℤ) → IsValue t z → (z +ℤ pos p) ≤ℤ pos (greatest t) → IsValue t (z +ℤ pos p)
value_up Truth p z v le = unsigned_up 1 p z v le
value_up I8 p z v le = signed_up 7 p z v le
value_up U8 p z v le = unsigned_up 8 p z v le
value_up I16 p z v le = signed_up 15 p z v le
value_up U16 p z v le = unsigned_up 16 p z v le
value_up I32 p z v le = signed_up 31 p z v le
value_up U32 p z v le = unsigned_up 32 p z v le
value_up I64 p z v le = signed_up 63 p z v le
value_up U64 p z v le = unsigned_up 64 p z v le

room_left : (gang p : ℕ) (z c : ℤ) → z ≤ℤ (c -ℤ pos (gang - 1)) → p < gang → (z +ℤ pos p) ≤ℤ c
room_left gang p z c le lt = omega (arith, ints, le)

numbers : (gang : ℕ) (t : Elem) (u p : ℕ) → has_room gang t u ≡ true → p < gang → number t (counted_on t u p) ≡ run_index (number t u) p
numbers gang t u p room lt =
    let z = number t u in
    back_is t (z +ℤ pos p) (value_up t p z (bits_value t u) (room_left gang p z (pos (greatest t)) (not_more z (pos (greatest t) -ℤ pos (gang - 1)) room) lt))

pub widened : (gang : ℕ) (from to : Elem) (u p : ℕ) → has_room gang from u ≡ true → p < gang → (to ≡ Truth → ⊥) → converted from to (counted_on from u p) ≡ counted_on to (converted from to u) p
widened gang from to u p room lt n =
    sym (no_truth to (number from (counted_on from u p)) n) ∙ ap (wrap to) (numbers gang from u p room lt)
    ∙ sym (counted_wraps to (number from u) p) ∙ ap (λ c. counted_on to c p) (no_truth to (number from u) n)

-- ---- the first index as an int64

-- values of all types but uint64 are values of int64
is_int64 : (t : Elem) (z : ℤ) → IsValue t z → (t ≡ U64 → ⊥) → IsValue I64 z
is_int64 Truth z v n = (omega (arith, ints, v.0), omega (arith, ints, v.1))
is_int64 I8 z v n = (omega (arith, ints, v.0), omega (arith, ints, v.1))
is_int64 U8 z v n = (omega (arith, ints, v.0), omega (arith, ints, v.1))
is_int64 I16 z v n = (omega (arith, ints, v.0), omega (arith, ints, v.1))
is_int64 U16 z v n = (omega (arith, ints, v.0), omega (arith, ints, v.1))
is_int64 I32 z v n = (omega (arith, ints, v.0), omega (arith, ints, v.1))
is_int64 U32 z v n = (omega (arith, ints, v.0), omega (arith, ints, v.1))
is_int64 I64 z v n = v
is_int64 U64 z v n = absurd (n refl)

-- so counting on from it passes no number of int64 where there is room
pub reach : (gang : ℕ) (t : Elem) (u p : ℕ) → has_room gang t u ≡ true → p < gang → (t ≡ U64 → ⊥) → number I64 (counted_on I64 (converted t I64 u) p) ≡ run_index (number I64 (converted t I64 u)) p
reach gang t u p room lt n =
    let z = number t u in
    let first : number I64 (converted t I64 u) ≡ z = back_is I64 z (is_int64 t z (bits_value t u) n) in
    let up = value_up t p z (bits_value t u) (room_left gang p z (pos (greatest t)) (not_more z (pos (greatest t) -ℤ pos (gang - 1)) room) lt) in
    back_is I64 (number I64 (converted t I64 u) +ℤ pos p) (subst (λ y. IsValue I64 (y +ℤ pos p)) (sym first) (is_int64 t (z +ℤ pos p) up n))

same_step : (n : ℕ) (y z : ℤ) → y ≡ z → InStep n y z
same_step n y z e = (ap (is_beyond n) e, λ h. e)

low_out : (n : ℕ) (y : ℤ) → y <ℤ pos 0 → is_beyond n y ≡ true
low_out n y h = grind (arith, ints, h)

high_out : (n : ℕ) (z : ℤ) → pos n ≤ℤ z → is_beyond n z ≡ true
high_out n z h = grind (arith, ints, h)

-- a uint64 from 2 ^ 63 on is negative as an int64
wide_step : (gang n p : ℕ) (y z : ℤ) → SameModulo (2 ^ 64) y z → IsValue I64 y → IsValue U64 z → z ≤ℤ (pos (2 ^ 64 - 1) -ℤ pos (gang - 1)) → p < gang → n ≤ 2 ^ 63
    → InStep n (run_index y p) (run_index z p)
wide_step gang n p y z same vy vz le lt few = by same.0 same.1
  where
    by : (k : ℤ) → y ≡ z +ℤ k *ℤ pos (2 ^ 64) → InStep n (run_index y p) (run_index z p)
    by (pos zero) e = same_step n (run_index y p) (run_index z p) (ap (λ x. x +ℤ pos p) (let h : y ≡ z = omega (arith, ints, e) in h))
    by (pos (suc k)) e = absurd (omega (arith, ints, e, vy.1, vz.0))
    by (negsuc zero) e =
        let out : is_beyond n (run_index z p) ≡ true = high_out n (run_index z p) (omega (arith, ints, e, vy.0, vz.0)) in
        (low_out n (run_index y p) (omega (arith, ints, e, le)) ∙ sym out, λ h. absurd (cc (h, out)))
    by (negsuc (suc k)) e = absurd (omega (arith, ints, e, vy.0, vz.1))

as_int64 : (gang n : ℕ) (t : Elem) (u p : ℕ) → has_room gang t u ≡ true → p < gang → n ≤ 2 ^ 63 → (t ≡ Truth → ⊥) → InStep n (run_index (number I64 (converted t I64 u)) p) (run_index (number t u) p)
as_int64 gang n t u p room lt few whole = by t refl
  where
    by : (e : Elem) → t ≡ e → InStep n (run_index (number I64 (converted t I64 u)) p) (run_index (number t u) p)
    by U64 is =
        wide_step gang n p (number I64 (wrap I64 (number t u))) (number t u) (same_is I64 (number t u)) (value_is I64 (number t u)) (subst (λ e. IsValue e (number t u)) is (bits_value t u))
        (subst (λ e. number t u ≤ℤ (pos (greatest e) -ℤ pos (gang - 1))) is (not_more (number t u) (pos (greatest t) -ℤ pos (gang - 1)) room)) lt few
    by e is = same_step n _ _ (ap (λ x. x +ℤ pos p) (back_is I64 (number t u) (is_int64 t (number t u) (bits_value t u) (λ h. absurd (cc (h, is))))))

-- ---- elements

module _ (gang : ℕ) (frame : Frame) (b : ArrayVariable) (e : Elem) (a : Mask) (u : ℕ) (inside : IsInside gang a) (room : has_room gang e u ≡ true) where
  abbrev index : Payload
  index = Each (on a (counted_on e u))

  at : (p : ℕ) → a p ≡ true → number e (counted_on e u p) ≡ run_index (number e u) p
  at p h = numbers gang e u p room (inside p h)

  row_outside : offender gang (is_outside e (extent frame b)) a index ≡ lowest gang (run_outside (extent frame b) (number e u) a)
  row_outside = ap (lowest gang) (fun_ext (λ p. by p (a p) refl))
    where
      by : (p : ℕ) (t : Bool) → a p ≡ t → holds (is_outside e (extent frame b)) (if t then Some (counted_on e u p) else None) ≡ (t && is_beyond (extent frame b) (run_index (number e u) p))
      by p true h = ap (is_beyond (extent frame b)) (at p h)
      by p false h = refl

  row_found : (s : State) → elements frame b e index a Uniform s ≡ row_held (frame.named b.number) (number e u) a s
  row_found s =
      ap Each (map1_on a (λ x. s.arrays (frame.named b.number) (element e x)) (counted_on e u)
      ∙ on_same a _ _ (λ p h. ap (λ z. s.arrays (frame.named b.number) (unsigned_abs z)) (at p h)))

  row_stored : (x : Payload) (s : State) → with_elements frame b e index a gang Uniform x s ≡ row_kept gang (frame.named b.number) (number e u) a x s
  row_stored x s =
      ap (λ places. record s { arrays = put s.arrays (frame.named b.number) (scatter gang places (spread a x) (s.arrays (frame.named b.number))) })
      (map1_on a (element e) (counted_on e u) ∙ on_same a _ _ (λ p h. ap unsigned_abs (at p h)))

module _ (gang : ℕ) (frame : Frame) (calls : Calls) (b : ArrayVariable) (i : TExpr) (t : Ty) (sp : Span) (a : Mask) (u : ℕ)
    (shared : b.ty.rate ≡ Uniform) (inside : IsInside gang a) (room : has_room gang (elem_of i) u ≡ true) where
  abbrev place_at : Place
  place_at = Element b (elem_of i) (Each (on a (counted_on (elem_of i) u)))

  abbrev beyond : Option ℕ
  beyond = lowest gang (run_outside (extent frame b) (number (elem_of i) u) a)

  load : (s s1 : State) → value gang frame calls i a (tick s) ≡ Gives (Each (on a (counted_on (elem_of i) u))) s1
      → value gang frame calls (t_place (t_element b i t sp)) a s ≡ checked beyond Index sp s1 (row_held (frame.named b.number) (number (elem_of i) u) a s1)
  load s s1 is =
      ap (λ v. bind (bind v (λ m s2. Gives (Element b (elem_of i) m) s2)) (λ q s2. checked (outside gang frame q a) Index sp s2 (held gang frame q a s2))) is
      ∙ ap₂ (λ o m. checked o Index sp s1 m) (row_outside gang frame b (elem_of i) a u inside room)
      (ap (λ r. elements frame b (elem_of i) (Each (on a (counted_on (elem_of i) u))) a r s1) shared ∙ row_found gang frame b (elem_of i) a u inside room s1)

  store : (x : TExpr) (span : Span) (s s1 s2 : State) (m : Payload) → value gang frame calls i a (tick (tick s)) ≡ Gives (Each (on a (counted_on (elem_of i) u))) s1
      → value gang frame calls x a s1 ≡ Gives m s2
      → simple gang frame calls (t_assign (t_element b i t sp) x span) a s
      ≡ bind (checked beyond Index sp s2 m) (λ n s3. Gives tt (row_kept gang (frame.named b.number) (number (elem_of i) u) a n s3))
  store x span s s1 s2 m is gives =
      ap (λ v. bind (bind v (λ k z. Gives (Element b (elem_of i) k) z)) (λ q z1. bind (value gang frame calls x a z1) (λ k z2. bind (checked (outside gang frame q a) Index sp z2 k) (λ n z3. Gives tt (kept gang frame q a n z3))))) is
      ∙ ap (λ v. bind v (λ k z2. bind (checked (outside gang frame place_at a) Index sp z2 k) (λ n z3. Gives tt (kept gang frame place_at a n z3)))) gives
      ∙ ap₂ (λ o (f : Payload → State → State). bind (checked o Index sp s2 m) (λ n z3. Gives tt (f n z3))) (row_outside gang frame b (elem_of i) a u inside room)
      (fun_ext (λ n. fun_ext (λ z3. ap (λ r. with_elements frame b (elem_of i) (Each (on a (counted_on (elem_of i) u))) a gang r n z3) shared
      ∙ row_stored gang frame b (elem_of i) a u inside room n z3)))

pub stand_in_a_row : StandInARow
stand_in_a_row =
    record {
      numbers = numbers;
      widened = widened;
      as_int64 = as_int64;
      load = λ gang frame calls b i t sp a s s1 u shared inside room is. load gang frame calls b i t sp a u shared inside room s s1 is;
      store = λ gang frame calls b i x t sp span a s s1 s2 u m shared inside room is gives. store gang frame calls b i t sp a u shared inside room x span s s1 s2 m is gives;
    }
