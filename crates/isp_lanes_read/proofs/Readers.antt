-- An instruction reads, of its vectors, the lanes of its mask alone: where these are the same it does the same.
use Rattle.std.proofs.Common.{◌≡◌, ℕ, List, [], ◌∷◌, Option, Some, None, true, Result, Ok, Err, refl, ap, ◌∙◌, arith, Contains}
use Rattle.std.specs.Prelude.{if◌then◌else◌}
use Rattle.isp_base.specs.Access.{element}
use Rattle.isp_base.specs.Cross.{extract, exclusive_scan, shuffle, shuffle_two, insert}
use Rattle.isp_base.specs.Maps.{Lanes, Map, on, each1, map1, map2, where_true, lowest_failing}
use Rattle.isp_base.specs.Sets.{Mask}
use Rattle.isp_base.specs.Truths.{is_true}
use Rattle.isp_base.specs.Types.{gang_width}
use Rattle.isp_base.specs.Unary.{unary_bits}
use Rattle.isp_base.specs.Values.{number, op_bits, convert_bits, compare_bits}
use Rattle.isp_base.specs.declared.trap.Trap.{Trap}
use Rattle.isp_base.specs.declared.trap.TrapKind.{TrapKind}
use Rattle.isp_base.specs.declared.trap.TrapKind.TheVariants.{Index}
use Rattle.isp_base.specs.declared.types.Elem.TheVariants.{I32, I64}
use Rattle.isp_code.specs.Conf.{Conf, Frame}
use Rattle.isp_code.specs.Lines as lines
use Rattle.isp_code.specs.Lines.{act, moved, unless, reduced, exchanged, plain_of, scan_of}
use Rattle.isp_code.specs.Listing.{Listing, Routine}
use Rattle.isp_code.specs.Registers.{elem_of}
use Rattle.isp_code.specs.declared.instr.MaskInstr.{MaskInstr}
use Rattle.isp_code.specs.declared.instr.MaskInstr.TheVariants as mask
use Rattle.isp_code.specs.declared.instr.ScalarInstr.{ScalarInstr}
use Rattle.isp_code.specs.declared.instr.ScalarInstr.TheVariants as scalar
use Rattle.isp_code.specs.declared.instr.VectorInstr.{VectorInstr}
use Rattle.isp_code.specs.declared.instr.VectorInstr.TheVariants as vector
use Rattle.isp_code.specs.declared.register.Register.{Register}
use Rattle.isp_lanes_read.specs.Lanes.{sets}
use Rattle.isp_lanes_read.specs.Reads.{under, scalar_reads, vector_reads, mask_reads, mask_of, is_pure}
use Rattle.isp_lanes_read.specs.declared.table.Reading.{Reading}
use Rattle.isp_lanes_read.proofs.Maps.{SameOn, on_same, HasJust, just_on, just_each, just_map1, just_map2}

-- The machine with other vectors, and other calls that wait.
abbrev pub swapped : Conf → List Frame → (ℕ → Lanes) → Conf
swapped c ws vs = record c { waiting = ws; vectors = vs }

module _ (code : Listing) (h : Routine) (c : Conf) (ws : List Frame) (vs : ℕ → Lanes) where
  abbrev d : Conf
  d = swapped c ws vs

  -- the lanes that some readings name are the same
  abbrev pub Agree : List Reading → Type 0
  Agree rs = (r : Reading) → Contains rs r → (p : ℕ) → sets code c r.lanes p ≡ true → c.vectors r.vector p ≡ vs r.vector p

  lanes_same : (k x : Register) → SameOn (c.masks k.number) (c.vectors x.number) (vs x.number) → lines.lanes code h c k x ≡ lines.lanes code h (swapped c ws vs) k x
  lanes_same k x same = on_same (c.masks k.number) (c.vectors x.number) (vs x.number) same

  pub first : (rs : List Reading) (k x : Register) → Agree (under k x ∷ rs) → lines.lanes code h c k x ≡ lines.lanes code h (swapped c ws vs) k x
  first rs k x agree = lanes_same k x (agree (under k x) (0, omega arith, refl))

  pub second : (rs : List Reading) (r : Reading) (k x : Register) → Agree (r ∷ under k x ∷ rs) → lines.lanes code h c k x ≡ lines.lanes code h (swapped c ws vs) k x
  second rs r k x agree = lanes_same k x (agree (under k x) (1, omega arith, refl))

  third : (rs : List Reading) (r s : Reading) (k x : Register) → Agree (r ∷ s ∷ under k x ∷ rs) → lines.lanes code h c k x ≡ lines.lanes code h (swapped c ws vs) k x
  third rs r s k x agree = lanes_same k x (agree (under k x) (2, omega arith, refl))

  pub scalar_same : (r : Register) (i : ScalarInstr) → Agree (scalar_reads i) → lines.scalar_value code h c r i ≡ lines.scalar_value code h (swapped c ws vs) r i
  scalar_same r (scalar.Reduce o x k) agree = ap (λ m. let z : Result ℕ Trap = Ok (reduced o (elem_of h x) (gang_width code.gang) m) in z) (first [] k x agree)
  scalar_same r (scalar.Extract x i k) agree = ap (λ m. let z : Result ℕ Trap = Ok (extract (gang_width code.gang) m (number I32 (c.scalars i.number))) in z) (first [] k x agree)
  scalar_same r (scalar.Constant z) agree = refl
  scalar_same r (scalar.Copy x) agree = refl
  scalar_same r (scalar.Convert x) agree = refl
  scalar_same r (scalar.Unary o x) agree = refl
  scalar_same r (scalar.Binary o x y) agree = refl
  scalar_same r (scalar.Compare o x y) agree = refl
  scalar_same r (scalar.Select t x y) agree = refl
  scalar_same r (scalar.First k) agree = refl
  scalar_same r (scalar.Load a i k q) agree = refl

  pub mask_same : (i : MaskInstr) → Agree (mask_reads i) → lines.mask_value code h c i ≡ lines.mask_value code h (swapped c ws vs) i
  mask_same (mask.Test x y) agree = ap (where_true is_true) (first [] y x agree)
  mask_same (mask.Copy x) agree = refl
  mask_same (mask.Binary o x y) agree = refl
  mask_same mask.Full agree = refl
  mask_same mask.Off agree = refl
  mask_same (mask.Lowest x) agree = refl
  mask_same (mask.Range x y) agree = refl

  abbrev Values : Type 0
  Values = Result Map Trap

  pub vector_same : (r : Register) (i : VectorInstr) → Agree (vector_reads i) → lines.vector_value code h c r i ≡ lines.vector_value code h (swapped c ws vs) r i
  vector_same r (vector.Copy x k) agree = ap (λ m. let z : Values = Ok m in z) (first [] k x agree)
  vector_same r (vector.Convert x k) agree = ap (λ m. let z : Values = Ok (map1 (λ b. convert_bits (elem_of h r) (number (elem_of h x) b)) m) in z) (first [] k x agree)
  vector_same r (vector.Unary o x k) agree = ap (λ m. let z : Values = Ok (map1 (unary_bits o (elem_of h r)) m) in z) (first [] k x agree)
  vector_same r (vector.Binary o x y k) agree =
      ap (λ m. let z : Values = Ok (map2 (op_bits (plain_of o) (elem_of h r)) m (lines.lanes code h c k y)) in z) (first (under k y ∷ []) k x agree)
      ∙ ap (λ m. let z : Values = Ok (map2 (op_bits (plain_of o) (elem_of h r)) (lines.lanes code h (swapped c ws vs) k x) m) in z) (second [] (under k x) k y agree)
  vector_same r (vector.Compare o x y k) agree =
      ap (λ m. let z : Values = Ok (map2 (compare_bits o (elem_of h x)) m (lines.lanes code h c k y)) in z) (first (under k y ∷ []) k x agree)
      ∙ ap (λ m. let z : Values = Ok (map2 (compare_bits o (elem_of h x)) (lines.lanes code h (swapped c ws vs) k x) m) in z) (second [] (under k x) k y agree)
  vector_same r (vector.Select t x y k) agree =
      ap (λ m. let z : Values = Ok m in z)
      (on_same (c.masks k.number) (λ p. if is_true (c.vectors t.number p) then c.vectors x.number p else c.vectors y.number p) (λ p. if is_true (vs t.number p) then vs x.number p else vs y.number p) same)
    where
      same : (p : ℕ) → c.masks k.number p ≡ true → (if is_true (c.vectors t.number p) then c.vectors x.number p else c.vectors y.number p) ≡ (if is_true (vs t.number p) then vs x.number p else vs y.number p)
      same p e =
          ap (λ b. if is_true b then c.vectors x.number p else c.vectors y.number p) (agree (under k t) (0, omega arith, refl) p e)
          ∙ ap (λ b. if is_true (vs t.number p) then b else c.vectors y.number p) (agree (under k x) (1, omega arith, refl) p e)
          ∙ ap (λ b. if is_true (vs t.number p) then vs x.number p else b) (agree (under k y) (2, omega arith, refl) p e)
  vector_same r (vector.Splat x k) agree = refl
  vector_same r (vector.Index k) agree = refl
  vector_same r (vector.Gather a i k q) agree =
      ap (λ m. unless code h c (lowest_failing (gang_width code.gang) (lines.outside code h c a) m) Index q (λ p. each1 (λ b. lines.item code h c a (element I64 b) p) (m p))) (first [] k i agree)
  vector_same r (vector.LoadRun a i k q) agree = refl
  vector_same r (vector.Scan o x k) agree = ap (λ m. let z : Values = Ok (on (c.masks k.number) (exclusive_scan (scan_of o) (elem_of h r) m)) in z) (first [] k x agree)
  vector_same r (vector.Exchange e x i k) agree = ap (λ m. let z : Values = Ok (on (c.masks k.number) (exchanged e (gang_width code.gang) m (number I32 (c.scalars i.number)))) in z) (first [] k x agree)
  vector_same r (vector.Shuffle x i k) agree =
      ap (λ m. let z : Values = Ok (on (c.masks k.number) (shuffle (gang_width code.gang) m (lines.lanes code h c k i))) in z) (first (under k i ∷ []) k x agree)
      ∙ ap (λ m. let z : Values = Ok (on (c.masks k.number) (shuffle (gang_width code.gang) (lines.lanes code h (swapped c ws vs) k x) m)) in z) (second [] (under k x) k i agree)
  vector_same r (vector.ShuffleTwo x y i k) agree =
      ap (λ m. let z : Values = Ok (on (c.masks k.number) (shuffle_two (gang_width code.gang) m (lines.lanes code h c k y) (lines.lanes code h c k i))) in z) (first (under k y ∷ under k i ∷ []) k x agree)
      ∙ ap (λ m. let z : Values = Ok (on (c.masks k.number) (shuffle_two (gang_width code.gang) (lines.lanes code h (swapped c ws vs) k x) m (lines.lanes code h c k i))) in z) (second (under k i ∷ []) (under k x) k y agree)
      ∙ ap (λ m. let z : Values = Ok (on (c.masks k.number) (shuffle_two (gang_width code.gang) (lines.lanes code h (swapped c ws vs) k x) (lines.lanes code h (swapped c ws vs) k y) m)) in z) (third [] (under k x) (under k y) k i agree)
  vector_same r (vector.Insert x i y k) agree = ap (λ m. let z : Values = Ok (on (c.masks k.number) (insert (gang_width code.gang) m (number I32 (c.scalars i.number)) (c.scalars y.number))) in z) (first [] k x agree)

-- what is written is in the lanes of the mask, and only there
abbrev pub WritesJust : Mask → Result Map Trap → Type 0
WritesJust a (Ok x) = HasJust a x
WritesJust a (Err t) = Unit {0}

module _ (code : Listing) (h : Routine) (c : Conf) where
  lanes_just : (k x : Register) → HasJust (c.masks k.number) (lines.lanes code h c k x)
  lanes_just k x = just_on (c.masks k.number) (c.vectors x.number)

  pub unless_just : (a : Mask) (o : Option ℕ) (kind : TrapKind) (q : ℕ) (x : Map) → HasJust a x → WritesJust a (unless code h c o kind q x)
  unless_just a None kind q x just = just
  unless_just a (Some p) kind q x just = tt

  pub pair_just : (k x y : Register) (g : ℕ → ℕ → ℕ) → HasJust (c.masks k.number) (map2 g (lines.lanes code h c k x) (lines.lanes code h c k y))
  pair_just k x y g = just_map2 (c.masks k.number) g (lines.lanes code h c k x) (lines.lanes code h c k y) (lanes_just k x) (lanes_just k y)

  pub vector_just : (r : Register) (i : VectorInstr) → WritesJust (c.masks (mask_of i).number) (lines.vector_value code h c r i)
  vector_just r (vector.Copy x k) = lanes_just k x
  vector_just r (vector.Convert x k) = just_map1 (c.masks k.number) _ (lines.lanes code h c k x) (lanes_just k x)
  vector_just r (vector.Unary o x k) = just_map1 (c.masks k.number) _ (lines.lanes code h c k x) (lanes_just k x)
  vector_just r (vector.Binary o x y k) = pair_just k x y (op_bits (plain_of o) (elem_of h r))
  vector_just r (vector.Compare o x y k) = pair_just k x y (compare_bits o (elem_of h x))
  vector_just r (vector.Select t x y k) = just_on (c.masks k.number) _
  vector_just r (vector.Splat x k) = just_on (c.masks k.number) _
  vector_just r (vector.Index k) = just_on (c.masks k.number) _
  vector_just r (vector.Gather a i k q) =
      unless_just (c.masks k.number) (lowest_failing (gang_width code.gang) (lines.outside code h c a) (lines.lanes code h c k i)) Index q (λ p. each1 (λ b. lines.item code h c a (element I64 b) p) (lines.lanes code h c k i p))
      (just_each (c.masks k.number) (λ p b. lines.item code h c a (element I64 b) p) (lines.lanes code h c k i) (lanes_just k i))
  vector_just r (vector.LoadRun a i k q) = unless_just (c.masks k.number) _ Index q _ (just_on (c.masks k.number) _)
  vector_just r (vector.Scan o x k) = just_on (c.masks k.number) _
  vector_just r (vector.Exchange e x i k) = just_on (c.masks k.number) _
  vector_just r (vector.Shuffle x i k) = just_on (c.masks k.number) _
  vector_just r (vector.ShuffleTwo x y i k) = just_on (c.masks k.number) _
  vector_just r (vector.Insert x i y k) = just_on (c.masks k.number) _

  -- a pure instruction has a value
  pub pure_value : (r : Register) (i : VectorInstr) → is_pure i ≡ true → (x : Map) × (lines.vector_value code h c r i ≡ Ok x)
  pure_value r (vector.Gather a i k q) e = absurd cc
  pure_value r (vector.LoadRun a i k q) e = absurd cc
  pure_value r i e = (_, refl)
