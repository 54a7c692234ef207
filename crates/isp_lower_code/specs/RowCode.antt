-- The code of an access of the elements of an array that all lanes share, at an index that counts on from a scalar: a test of the scalar, the
-- elements as a run, or by each lane's own index.
use Rattle.std.specs.Prelude.{◌≢◌, ℕ, ◌+◌, List, [], ◌∷◌, ◌++◌, pos, ◌-ℤ◌}
use Rattle.isp_base.specs.Values.{greatest, wrap}
use Rattle.isp_base.specs.declared.operators.Compare.TheVariants.{LessOrEqual}
use Rattle.isp_base.specs.declared.types.Elem.{Elem}
use Rattle.isp_base.specs.declared.types.Elem.TheVariants.{Bool as Truth, I32, I64, U64}
use Rattle.isp_base.specs.declared.types.Rate.TheVariants.{Uniform, Varying}
use Rattle.isp_code.specs.declared.instr.Instr.{Instr}
use Rattle.isp_code.specs.declared.instr.Instr.TheVariants as instr
use Rattle.isp_code.specs.declared.instr.JumpTest.TheVariants as jump
use Rattle.isp_code.specs.declared.instr.Plain.TheVariants as plain
use Rattle.isp_code.specs.declared.instr.VectorInstr.TheVariants as vector
use Rattle.isp_typed.specs.Typed.{TExpr, type_of}
use Rattle.isp_steady.specs.Alone.{alone}
use Rattle.isp_lower_code.specs.Asks.{Ask, Both, Number, expr_asks, spare_ask}
use Rattle.isp_lower_code.specs.Instructions.{compare, compute, constant, convert, jump_on, read, read_run, splat, write, write_run}
use Rattle.isp_lower_code.specs.Layout.{Layout, mask_register, register}
use Rattle.isp_lower_code.specs.Pieces.{choice, two}

-- 31 below the greatest value of a type: from there on no lane of a gang passes it, of whatever width
abbrev pub last_start : Elem → ℕ
last_start t = wrap t (pos (greatest t) -ℤ pos 31)

-- Register x has the scalar, of type t; slots from m on are free.
module _ (l : Layout) where
  abbrev pub room_test : Elem → ℕ → ℕ → ℕ → List Instr
  room_test t x k m =
      constant (l.spare Uniform t m) t (last_start t) ∷ compare Uniform LessOrEqual (l.spare Uniform Truth m) x (l.spare Uniform t m) k ∷ []

  -- the index of each lane, as int64
  abbrev pub lane_indices : Elem → ℕ → ℕ → ℕ → List Instr
  lane_indices t x k m =
      splat (l.spare Varying t m) x k
      ∷ instr.Vector (register Varying (l.spare Varying I32 (m + 1))) (vector.Index (mask_register k))
      ∷ convert Varying (l.spare Varying t (m + 1)) (l.spare Varying I32 (m + 1)) k
      ∷ compute Varying plain.Add (l.spare Varying t m) (l.spare Varying t m) (l.spare Varying t (m + 1)) k
      ∷ convert Varying (l.spare Varying I64 m) (l.spare Varying t m) k ∷ []

  -- an access as a run from the scalar on, which is made an int64, or by these
  abbrev pub row_code : Elem → ℕ → (run each : Instr) → ℕ → ℕ → ℕ → List Instr
  row_code t x run each pc k m =
      two pc (room_test t x k m)
      (λ pc1. choice (jump_on jump.False (l.spare Uniform Truth m)) pc1 (λ pc2. convert Uniform (l.spare Uniform I64 m) x k ∷ run ∷ []) (λ pc2. lane_indices t x k m ++ each ∷ []))

  -- the elements of array b into register d; p is the place of the trap
  abbrev pub row_read : Elem → (x d b p pc k m : ℕ) → List Instr
  row_read t x d b p pc k m = row_code t x (read_run d b (l.spare Uniform I64 m) k p) (read Varying d b (l.spare Varying I64 m) k p) pc k m

  -- those of register v into them
  abbrev pub row_write : Elem → (x v b p pc k m : ℕ) → List Instr
  row_write t x v b p pc k m = row_code t x (write_run b (l.spare Uniform I64 m) v k p) (write Varying b (l.spare Varying I64 m) v k p) pc k m

-- the registers
abbrev pub row_asks : Elem → ℕ → Ask
row_asks t m =
    Both (spare_ask Uniform t m)
    (Both (spare_ask Uniform Truth m) (Both (spare_ask Uniform I64 m) (Both (spare_ask Varying t m) (Both (spare_ask Varying I64 m) (Both (Number (m + 1)) (Both (spare_ask Varying I32 (m + 1)) (spare_ask Varying t (m + 1))))))))

-- Those of an index at slot n: of its scalar, and of an access that reads it, assigns to it or changes it.
abbrev pub row_index_asks : TExpr → ℕ → Ask
row_index_asks i n =
    Both (expr_asks (alone i) n) (Both (row_asks (type_of i).elem (n + 1)) (Both (row_asks (type_of i).elem (n + 2)) (row_asks (type_of i).elem (n + 3))))

-- an index of this type may stand for a row: a uint64 may be no number of int64
pub record IsRowType (t : Elem) : Type 0 where
  pub whole : t ≢ Truth
  pub narrow : t ≢ U64
