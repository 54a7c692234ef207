-- The code of examples/brighten.ispc at gang 8. Written by tools/wasm_kernel.py.
use Rattle.std.specs.Prelude.{ℕ, pos, List, [], ◌∷◌, None, true, codes}
use Rattle.isp_base.specs.declared.types.Elem.TheVariants.{I32, I64, Bool as Truth, U8}
use Rattle.isp_base.specs.declared.types.Gang.TheVariants.{W8}
use Rattle.isp_code.specs.Listing.{Listing, Routine}
use Rattle.isp_code.specs.declared.function.ParamKind.TheVariants as kind
use Rattle.isp_code.specs.declared.function.Returns.TheVariants.{Nothing}
use Rattle.isp_code.specs.declared.instr.Instr.{Instr}
use Rattle.isp_code.specs.declared.instr.Instr.TheVariants as instr
use Rattle.isp_code.specs.declared.instr.JumpTest.TheVariants as jump
use Rattle.isp_code.specs.declared.instr.MaskInstr.TheVariants as mask
use Rattle.isp_code.specs.declared.instr.Plain.TheVariants as plain
use Rattle.isp_code.specs.declared.instr.Reduction.TheVariants as reduction
use Rattle.isp_code.specs.declared.instr.ScalarInstr.TheVariants as scalar
use Rattle.isp_code.specs.declared.instr.VectorInstr.TheVariants as vector
use Rattle.isp_code.specs.declared.register.Class.TheVariants as class
use Rattle.isp_code.specs.declared.register.Register.{Register}

abbrev pub s : ℕ → Register
s n = record { class = class.Scalar; number = n }

abbrev pub v : ℕ → Register
v n = record { class = class.Vector; number = n }

abbrev pub m : ℕ → Register
m n = record { class = class.Mask; number = n }

abbrev pub a : ℕ → Register
a n = record { class = class.Array; number = n }

abbrev pub instructions : List Instr
instructions =
    instr.Mask (m 3) mask.Full ∷
    instr.Scalar (s 2) (scalar.Constant (pos 0)) ∷
    instr.Vector (v 12) (vector.Splat (s 2) (m 3)) ∷
    instr.Scalar (s 2) (scalar.Constant (pos 255)) ∷
    instr.Vector (v 13) (vector.Splat (s 2) (m 3)) ∷
    instr.Mask (m 9) mask.Full ∷
    instr.Scalar (s 2) (scalar.Constant (pos 1)) ∷
    instr.Vector (v 2) (vector.Splat (s 2) (m 9)) ∷
    instr.Scalar (s 3) (scalar.Reduce reduction.Add (v 2) (m 9)) ∷
    instr.Vector (v 2) (vector.Index (m 9)) ∷
    instr.Scalar (s 4) (scalar.Convert (s 3)) ∷
    instr.Vector (v 3) (vector.Splat (s 4) (m 9)) ∷
    instr.Scalar (s 5) (scalar.Constant (pos 1)) ∷
    instr.Scalar (s 6) (scalar.Constant (pos 0)) ∷
    instr.Scalar (s 8) (scalar.Convert (s 0)) ∷
    instr.Scalar (s 12) (scalar.Copy (s 6)) ∷
    instr.Mask (m 9) (mask.Range (s 12) (s 8)) ∷
    instr.JumpIf jump.Off (m 9) 33 ∷
    instr.Scalar (s 10) (scalar.Convert (s 12)) ∷
    instr.Vector (v 4) (vector.Splat (s 10) (m 9)) ∷
    instr.Vector (v 0) (vector.Binary plain.Add (v 4) (v 2) (m 9)) ∷
    instr.Vector (v 7) (vector.LoadRun (a 0) (s 12) (m 9) 0) ∷
    instr.Vector (v 5) (vector.Convert (v 7) (m 9)) ∷
    instr.Vector (v 8) (vector.Splat (s 1) (m 9)) ∷
    instr.Vector (v 1) (vector.Binary plain.Add (v 5) (v 8) (m 9)) ∷
    instr.Vector (v 8) (vector.Binary plain.Max (v 1) (v 12) (m 9)) ∷
    instr.Vector (v 8) (vector.Binary plain.Min (v 8) (v 13) (m 9)) ∷
    instr.Vector (v 9) (vector.Convert (v 8) (m 9)) ∷
    instr.StoreRun (a 0) (s 12) (v 9) (m 9) 1 ∷
    instr.Scalar (s 12) (scalar.Binary plain.Add (s 12) (s 3)) ∷
    instr.Mask (m 9) (mask.Range (s 12) (s 8)) ∷
    instr.Vector (v 0) (vector.Binary plain.Add (v 0) (v 3) (m 9)) ∷
    instr.JumpIf jump.On (m 9) 21 ∷
    instr.Return None ∷ []

abbrev pub routine : Routine
routine =
    record {
      name = codes "brighten";
      exported = true;
      returns = Nothing;
      params = record { name = codes "pixels"; kind = kind.Array; elem = U8 } ∷ record { name = codes "count"; kind = kind.Scalar; elem = I32 } ∷ record { name = codes "level"; kind = kind.Scalar; elem = I32 } ∷ [];
      locals = [];
      scalars = I32 ∷ I64 ∷ I32 ∷ I64 ∷ I64 ∷ I32 ∷ I64 ∷ I64 ∷ I32 ∷ Truth ∷ I64 ∷ I32 ∷ I32 ∷ [];
      vectors = I32 ∷ I32 ∷ I32 ∷ I32 ∷ I32 ∷ I32 ∷ I64 ∷ U8 ∷ I32 ∷ U8 ∷ I32 ∷ I32 ∷ I32 ∷ I32 ∷ [];
      masks = 12;
      code = instructions;
    }

abbrev pub brighten : Listing
brighten = record { gang = W8; places = record { start = 531; end = 540 } ∷ record { start = 558; end = 567 } ∷ []; texts = []; routines = routine ∷ [] }
