-- What the library's functions give fits their types.
use Rattle.std.specs.Prelude.{◌≡◌, ℕ, ◌-◌, ◌*◌, ◌^◌, ◌<◌, List, [], ◌∷◌, None, Bool, true, false, nat_eq, nat_lt, if◌then◌else◌, ℤ, pos, negsuc, ◌+ℤ◌}
use Rattle.std.proofs.Common.{refl, arith, pow_pos, ltb-true, ltb-false}
use Rattle.isp_base.specs.Cross.{instance, within, of_two, or_zero, broadcast, rotate, shift, shuffle, shuffle_two, insert, fold_below, best, neutral, exclusive_scan}
use Rattle.isp_base.specs.Ranks.{widened}
use Rattle.isp_base.specs.Maps.{Map}
use Rattle.isp_base.specs.Sets.{Mask}
use Rattle.isp_base.specs.Values.{width, number, op_bits}
use Rattle.isp_base.specs.Unary.{unary_bits}
use Rattle.isp_base.specs.declared.operators.BinOp.{BinOp}
use Rattle.isp_base.specs.declared.operators.BinOp.TheVariants as op
use Rattle.isp_base.specs.declared.operators.UnaryOp.TheVariants as unary
use Rattle.isp_base.specs.declared.types.Elem.{Elem}
use Rattle.isp_base.specs.declared.types.Elem.TheVariants.{I32}
use Rattle.isp_base.specs.declared.types.Rate.{Rate}
use Rattle.isp_typed.specs.Library as typed
use Rattle.isp_typed.specs.declared.library.Library.{Library}
use Rattle.isp_typed.specs.declared.library.Library.TheVariants as library
use Rattle.isp_typed.specs.declared.library.Part.{Part}
use Rattle.isp_typed.specs.declared.library.Part.TheVariants.{Own, Same, Number, Index, Truth as Test}
use Rattle.isp_meaning.specs.Payloads.{Payload, sole, spread}
use Rattle.isp_meaning.specs.Library.{library_value, argument}
use Rattle.isp_type_laws.proofs.Bounds.{Under, Inside, Fits, wrap_lt, bit_lt, instance_lt, zero_under, on_under, fold_holds, best_under, sole_under, spread_inside, mapped_bounded, joined_bounded, chosen_bounded}

-- the values of a call, each as its place asks
abbrev pub PartsFit : ℕ → Elem → List Part → List Payload → Type 0
PartsFit gang e [] ms = Unit {0}
PartsFit gang e (p ∷ ps) [] = Unit {0}
PartsFit gang e (p ∷ ps) (m ∷ ms) = Fits gang (typed.part_elem e p) m × PartsFit gang e ps ms

module _ (gang : ℕ) (some : 0 < gang) (m : ℕ) (one : 0 < m) where
  at_instance : (x : Map) (z : ℤ) → Inside gang m x → or_zero (x (instance gang z)) < m
  at_instance x z h = zero_under m (x (instance gang z)) one (h (instance gang z) (instance_lt gang z some))

  within_lt : (x : Map) (z : ℤ) → Inside gang m x → within gang x z < m
  within_lt x (pos p) h = by (nat_lt p gang) refl
    where
      by : (t : Bool) → nat_lt p gang ≡ t → (if t then or_zero (x p) else 0) < m
      by true e = zero_under m (x p) one (h p (ltb-true p gang e))
      by false e = one
  within_lt x (negsuc p) h = one

  two_lt : (x y : Map) (q : ℕ) → q < 2 * gang → Inside gang m x → Inside gang m y → of_two gang x y q < m
  two_lt x y q l h k = by (nat_lt q gang) refl
    where
      by : (t : Bool) → nat_lt q gang ≡ t → (if t then or_zero (x q) else or_zero (y (q - gang))) < m
      by true e = zero_under m (x q) one (h q (ltb-true q gang e))
      by false e = zero_under m (y (q - gang)) one (k (q - gang) (omega (arith, l, ltb-false q gang e)))

  insert_lt : (x : Map) (z : ℤ) (v p : ℕ) → v < m → or_zero (x p) < m → insert gang x z v p < m
  insert_lt x z v p h k = by (nat_eq p (instance gang z))
    where
      by : (t : Bool) → (if t then v else or_zero (x p)) < m
      by true = h
      by false = k

module _ (gang : ℕ) (some : 0 < gang) (t : Elem) (a : Mask) where
  value_0 : (p : Part) (ps : List Part) (ms : List Payload) → PartsFit gang t (p ∷ ps) ms → Fits gang (typed.part_elem t p) (argument ms 0)
  value_0 p ps [] h = pow_pos (width (typed.part_elem t p))
  value_0 p ps (m ∷ ms) h = h.0

  value_1 : (p q : Part) (ps : List Part) (ms : List Payload) → PartsFit gang t (p ∷ q ∷ ps) ms → Fits gang (typed.part_elem t q) (argument ms 1)
  value_1 p q ps [] h = pow_pos (width (typed.part_elem t q))
  value_1 p q ps (m ∷ []) h = pow_pos (width (typed.part_elem t q))
  value_1 p q ps (m ∷ n ∷ ms) h = h.1.0

  value_2 : (p q r : Part) (ps : List Part) (ms : List Payload) → PartsFit gang t (p ∷ q ∷ r ∷ ps) ms → Fits gang (typed.part_elem t r) (argument ms 2)
  value_2 p q r ps [] h = pow_pos (width (typed.part_elem t r))
  value_2 p q r ps (m ∷ []) h = pow_pos (width (typed.part_elem t r))
  value_2 p q r ps (m ∷ n ∷ []) h = pow_pos (width (typed.part_elem t r))
  value_2 p q r ps (m ∷ n ∷ o ∷ ms) h = h.1.1.0

  op_lt : (o : BinOp) (x y : ℕ) → op_bits o t x y < 2 ^ width t
  op_lt o x y = wrap_lt t _

  best_fits : (o : BinOp) (x : Payload) → Fits gang t x → or_zero (fold_below (best (op_bits o t)) None (spread a x) gang) < 2 ^ width t
  best_fits o x h =
      zero_under (2 ^ width t) _ (pow_pos (width t)) (fold_holds (Under (2 ^ width t)) (2 ^ width t) (best (op_bits o t)) None (spread a x) gang tt
      (λ q b u l. best_under (2 ^ width t) (op_bits o t) (op_lt o) q b l) (spread_inside gang (2 ^ width t) a x h))

  scan_fits : (o : BinOp) (x : Payload) → neutral o t < 2 ^ width t → Fits gang t x → (p : ℕ) → p < gang → exclusive_scan o t (spread a x) p < 2 ^ width t
  scan_fits o x e h p l =
      fold_holds (λ n. n < 2 ^ width t) (2 ^ width t) (op_bits o t) (neutral o t) (spread a x) p e (λ n b _ _. op_lt o n b) (λ q k. spread_inside gang (2 ^ width t) a x h q (omega (arith, k, l)))

  all_ones : 2 ^ width t - 1 < 2 ^ width t
  all_ones = let h = pow_pos (width t) in omega arith

  pub library_fits : (f : Library) (r : Rate) (ms : List Payload) → PartsFit gang t (typed.parts f) ms → Fits gang (typed.library_type f t r).elem (library_value gang t a f (argument ms 0) (argument ms 1) (argument ms 2))
  library_fits library.ReduceAdd r ms h = wrap_lt (widened t) _
  library_fits library.ReduceMin r ms h = best_fits op.Min (argument ms 0) (value_0 Own [] ms h)
  library_fits library.ReduceMax r ms h = best_fits op.Max (argument ms 0) (value_0 Own [] ms h)
  library_fits library.ReduceEqual r ms h = bit_lt _
  library_fits library.Any r ms h = bit_lt _
  library_fits library.All r ms h = bit_lt _
  library_fits library.None r ms h = bit_lt _
  library_fits library.ScanAdd r ms h =
      λ p l. on_under (2 ^ width t) a (exclusive_scan op.Add t (spread a (argument ms 0))) p (scan_fits op.Add (argument ms 0) (pow_pos (width t)) (value_0 Own [] ms h) p l)
  library_fits library.ScanAnd r ms h = λ p l. on_under (2 ^ width t) a (exclusive_scan op.And t (spread a (argument ms 0))) p (scan_fits op.And (argument ms 0) all_ones (value_0 Own [] ms h) p l)
  library_fits library.ScanOr r ms h =
      λ p l. on_under (2 ^ width t) a (exclusive_scan op.Or t (spread a (argument ms 0))) p (scan_fits op.Or (argument ms 0) (pow_pos (width t)) (value_0 Own [] ms h) p l)
  library_fits library.Broadcast r ms h =
      λ p l. on_under (2 ^ width t) a (broadcast gang (spread a (argument ms 0)) (number I32 (sole (argument ms 1)))) p
      (at_instance gang some (2 ^ width t) (pow_pos (width t)) (spread a (argument ms 0)) _
      (spread_inside gang (2 ^ width t) a (argument ms 0) (value_0 Own (Number ∷ []) ms h)))
  library_fits library.Rotate r ms h =
      λ p l. on_under (2 ^ width t) a (rotate gang (spread a (argument ms 0)) (number I32 (sole (argument ms 1)))) p
      (at_instance gang some (2 ^ width t) (pow_pos (width t)) (spread a (argument ms 0)) _
      (spread_inside gang (2 ^ width t) a (argument ms 0) (value_0 Own (Number ∷ []) ms h)))
  library_fits library.Shift r ms h =
      λ p l. on_under (2 ^ width t) a (shift gang (spread a (argument ms 0)) (number I32 (sole (argument ms 1)))) p
      (within_lt gang some (2 ^ width t) (pow_pos (width t)) (spread a (argument ms 0)) (pos p +ℤ number I32 (sole (argument ms 1)))
      (spread_inside gang (2 ^ width t) a (argument ms 0) (value_0 Own (Number ∷ []) ms h)))
  library_fits library.Shuffle r ms h =
      λ p l. on_under (2 ^ width t) a (shuffle gang (spread a (argument ms 0)) (spread a (argument ms 1))) p
      (at_instance gang some (2 ^ width t) (pow_pos (width t)) (spread a (argument ms 0)) _
      (spread_inside gang (2 ^ width t) a (argument ms 0) (value_0 Own (Index ∷ []) ms h)))
  library_fits library.ShuffleTwo r ms h =
      λ p l. on_under (2 ^ width t) a (shuffle_two gang (spread a (argument ms 0)) (spread a (argument ms 1)) (spread a (argument ms 2))) p
      (two_lt gang some (2 ^ width t) (pow_pos (width t)) (spread a (argument ms 0)) (spread a (argument ms 1)) _
      (instance_lt (2 * gang) _ (omega (arith, some))) (spread_inside gang (2 ^ width t) a (argument ms 0) (value_0 Own (Own ∷ Index ∷ []) ms h))
      (spread_inside gang (2 ^ width t) a (argument ms 1) (value_1 Own Own (Index ∷ []) ms h)))
  library_fits library.Extract r ms h = at_instance gang some (2 ^ width t) (pow_pos (width t)) (spread a (argument ms 0)) _ (spread_inside gang (2 ^ width t) a (argument ms 0) (value_0 Own (Number ∷ []) ms h))
  library_fits library.Insert r ms h =
      λ p l. on_under (2 ^ width t) a (insert gang (spread a (argument ms 0)) (number I32 (sole (argument ms 1))) (sole (argument ms 2))) p
      (insert_lt gang some (2 ^ width t) (pow_pos (width t)) (spread a (argument ms 0)) (number I32 (sole (argument ms 1))) (sole (argument ms 2))
      p (sole_under gang (2 ^ width t) (pow_pos (width t)) (argument ms 2) (value_2 Own Number Same [] ms h))
      (zero_under (2 ^ width t) _ (pow_pos (width t)) (spread_inside gang (2 ^ width t) a (argument ms 0) (value_0 Own (Number ∷ Same ∷ []) ms h)
      p l)))
  library_fits library.Min r ms h = joined_bounded gang (2 ^ width t) (op_bits op.Min t) (op_lt op.Min) a (argument ms 0) (argument ms 1)
  library_fits library.Max r ms h = joined_bounded gang (2 ^ width t) (op_bits op.Max t) (op_lt op.Max) a (argument ms 0) (argument ms 1)
  library_fits library.Clamp r ms h = joined_bounded gang (2 ^ width t) (op_bits op.Min t) (op_lt op.Min) a _ (argument ms 2)
  library_fits library.Abs r ms h = mapped_bounded gang (2 ^ width t) (unary_bits unary.Absolute t) (λ x. wrap_lt t _) (argument ms 0)
  library_fits library.Select r ms h = chosen_bounded gang (2 ^ width t) a (argument ms 0) (argument ms 1) (argument ms 2) (value_1 Test Own (Own ∷ []) ms h) (value_2 Test Own Own [] ms h)
