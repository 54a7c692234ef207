-- What values that cross the gang come to: from which instance each comes, and what several come to together.
use Rattle.std.specs.Prelude.{◌≡◌, ℕ, suc, ◌<◌, ◌^◌, Some, None, true, if◌then◌else◌, ℤ, pos, ◌+ℤ◌}
use Rattle.isp_base.specs.Cross.{or_zero, extract, broadcast, rotate, shift, insert, neutral, exclusive_scan, reduce_add, reduce_equal}
use Rattle.isp_base.specs.Maps.{Map}
use Rattle.isp_base.specs.Ranks.{widened}
use Rattle.isp_base.specs.Sets.{Mask}
use Rattle.isp_base.specs.Values.{width, number, wrap, op_bits}
use Rattle.isp_base.specs.declared.operators.BinOp.{BinOp}
use Rattle.isp_base.specs.declared.operators.BinOp.TheVariants.{Add, And, Or}
use Rattle.isp_base.specs.declared.types.Elem.{Elem}
use Rattle.isp_meaning.specs.Payloads.{except}

-- ---- one value of each

pub record AreMoved : Type 0 where
  -- `rotate` by 1 gives each the value of the next, and the last that of the first; by a sum it goes one way and then the other
  pub rotate_next : (n : ℕ) (x : Map) (p : ℕ) → suc p < n → rotate n x (pos 1) p ≡ or_zero (x (suc p))
  pub rotate_last : (n : ℕ) (x : Map) → rotate (suc n) x (pos 1) n ≡ or_zero (x 0)
  pub rotate_twice : (n : ℕ) (x : Map) (j k : ℤ) (p : ℕ) → 0 < n → rotate n x (j +ℤ k) p ≡ rotate n (λ q. Some (rotate n x j q)) k p
  -- `shift` by 1 gives the last 0
  pub shift_next : (n : ℕ) (x : Map) (p : ℕ) → suc p < n → shift n x (pos 1) p ≡ or_zero (x (suc p))
  pub shift_last : (n : ℕ) (x : Map) → shift (suc n) x (pos 1) n ≡ 0
  -- `broadcast` and `extract` give the value of an instance, to each or once
  pub broadcast : (n : ℕ) (x : Map) (i p : ℕ) → i < n → broadcast n x (pos i) p ≡ or_zero (x i)
  pub extract : (n : ℕ) (x : Map) (i : ℕ) → i < n → extract n x (pos i) ≡ or_zero (x i)
  -- `insert` changes the value of one
  pub insert_there : (n : ℕ) (x : Map) (i v : ℕ) → i < n → insert n x (pos i) v i ≡ v
  pub insert_elsewhere : (n : ℕ) (x : Map) (i v p : ℕ) → i < n → (p ≡ i → ⊥) → insert n x (pos i) v p ≡ or_zero (x p)

-- ---- the values of several

-- only the values of a set
abbrev pub only : Map → Mask → Map
only x a p = if a p then x p else None

-- an operator leaves each value of a type as it is beside these bits
abbrev pub Leaves : BinOp → Elem → Type 0
Leaves op t = (b : ℕ) → b < 2 ^ width t → op_bits op t (neutral op t) b ≡ b

pub record AreCombined : Type 0 where
  -- A scan gives the next one what this one got, with this one's value; whoever has none passes on what it got. The first gets what leaves
  -- every value as it is.
  pub scan_next : (op : BinOp) (t : Elem) (x : Map) (p b : ℕ) → x p ≡ Some b → exclusive_scan op t x (suc p) ≡ op_bits op t (exclusive_scan op t x p) b
  pub scan_off : (op : BinOp) (t : Elem) (x : Map) (p : ℕ) → x p ≡ None → exclusive_scan op t x (suc p) ≡ exclusive_scan op t x p
  pub scan_first : (op : BinOp) (t : Elem) (x : Map) → exclusive_scan op t x 0 ≡ neutral op t
  pub neutral_add : (t : Elem) → Leaves Add t
  pub neutral_and : (t : Elem) → Leaves And t
  pub neutral_or : (t : Elem) → Leaves Or t
  -- The sum of one value is its number in the wider type, and a sum is that of two parts.
  pub sum_alone : (t : Elem) (n : ℕ) (x : Map) (p b : ℕ)
      → p < n → x p ≡ Some b → ((q : ℕ) → (q ≡ p → ⊥) → x q ≡ None) → reduce_add t n x ≡ wrap (widened t) (number t b)
  pub sum_parts : (t : Elem) (n : ℕ) (x : Map) (a : Mask)
      → reduce_add t n x ≡ wrap (widened t) (pos (reduce_add t n (only x a)) +ℤ pos (reduce_add t n (except x a)))
  -- `reduce_equal` is true where no two values differ, and nowhere else
  pub equal : (n : ℕ) (x : Map) (p q b c : ℕ) → reduce_equal n x ≡ true → p < n → q < n → x p ≡ Some b → x q ≡ Some c → b ≡ c
  pub all_equal : (n : ℕ) (x : Map) → ((p q b c : ℕ) → p < n → q < n → x p ≡ Some b → x q ≡ Some c → b ≡ c) → reduce_equal n x ≡ true
