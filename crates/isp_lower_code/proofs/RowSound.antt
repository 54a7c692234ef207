-- Each instruction of an access to a row has its operands, where the registers that it asks for are there.
use Rattle.std.proofs.Common.{◌≡◌, ◌≢◌, ℕ, ◌+◌, true, false, refl, subst, arith}
use Rattle.isp_base.specs.declared.operators.Compare.TheVariants.{LessOrEqual}
use Rattle.isp_typed.specs.declared.variable.Logic.TheVariants.{And}
use Rattle.isp_base.specs.declared.types.Elem.{Elem}
use Rattle.isp_base.specs.declared.types.Elem.TheVariants.{Bool as Truth, I8, U8, I16, U16, I32, U32, I64, U64}
use Rattle.isp_base.specs.declared.types.Rate.{Rate}
use Rattle.isp_base.specs.declared.types.Rate.TheVariants.{Uniform, Varying}
use Rattle.isp_code.specs.Listing.{Listing, Routine}
use Rattle.isp_code.specs.Registers.{is_per_lane}
use Rattle.isp_code.specs.declared.instr.Instr.{Instr}
use Rattle.isp_code.specs.declared.instr.Plain.TheVariants as plain
use Rattle.isp_typed.specs.declared.variable.ArrayVariable.{ArrayVariable}
use Rattle.isp_lower_code.specs.Instructions.{read, read_run, write, write_run}
use Rattle.isp_lower_code.specs.Layout.{Layout, array_register}
use Rattle.isp_lower_code.specs.Rated.{Reaches}
use Rattle.isp_lower_code.specs.RowAccess.{RowsSound, RowThere, last_start, row_code, row_read, row_write}
use Rattle.isp_lower_code.specs.Sound.{AreSound, IsRegister, IsShared, IsSound}
use Rattle.isp_lower_code.proofs.Parts.{IsNumber}
use Rattle.isp_lower_code.proofs.SoundLines.{IsArray, array_is, compare_sound, compute_sound, constant_sound, convert_sound, decided_sound, index_sound, jump_sound, read_by_sound, splat_sound, write_by_sound}

number_of : (t : Elem) → t ≢ Truth → IsNumber t
number_of Truth n = n refl
number_of I8 n = tt
number_of U8 n = tt
number_of I16 n = tt
number_of U16 n = tt
number_of I32 n = tt
number_of U32 n = tt
number_of I64 n = tt
number_of U64 n = tt

reaches_varying : (r : Rate) → Reaches r Varying
reaches_varying Uniform = tt
reaches_varying Varying = tt

module _ (code : Listing) (h : Routine) (l : Layout) (y : ArrayVariable) (t : Elem) (x pc p k m : ℕ) (there : RowThere code h l y t x pc p k m) where
  -- both forms of the last instruction may be any
  row_sound : (run each : Instr) → IsSound code h run → IsSound code h each → AreSound code h (row_code l t x run each pc k m)
  row_sound run each sr se =
      let g = there.granted in
      let n = number_of t there.row.whole in
      let lt = there.ends in
      let lk = there.mask in (
        constant_sound code h t (l.spare Uniform t m) (last_start t) g.0,
        (
          compare_sound code h Uniform LessOrEqual t (l.spare Uniform Truth m) x (l.spare Uniform t m) k g.1.0 there.scalar g.0 lk,
          (
            decided_sound code h And (l.spare Uniform Truth m) (pc + 2 + 1 + 2 + 1) g.1.0 (omega (arith, lt)),
            (
              convert_sound code h Uniform I64 t (l.spare Uniform I64 m) x k g.1.1.0 there.scalar lk,
              (
                sr,
                (
                  jump_sound code h (pc + 2 + 1 + 2 + 1 + 6) (omega (arith, lt)),
                  (
                    splat_sound code h t (l.spare Varying t m) x k g.1.1.1.0 there.scalar lk,
                    (
                      index_sound code h (l.spare Varying I32 (m + 1)) k g.1.1.1.1.1.1.0 lk,
                      (
                        convert_sound code h Varying t I32 (l.spare Varying t (m + 1)) (l.spare Varying I32 (m + 1)) k g.1.1.1.1.1.1.1 g.1.1.1.1.1.1.0 lk,
                        (
                          compute_sound code h Varying plain.Add t (l.spare Varying t m) (l.spare Varying t m) (l.spare Varying t (m + 1)) k n g.1.1.1.0 g.1.1.1.0 g.1.1.1.1.1.1.1 lk,
                          (convert_sound code h Varying I64 t (l.spare Varying I64 m) (l.spare Varying t m) k g.1.1.1.1.0 g.1.1.1.0 lk, (se, tt)),
                        ),
                      ),
                    ),
                  ),
                ),
              ),
            ),
          ),
        ),
      )

  array_there : IsArray code h Varying (l.array y.number) y.ty.elem
  array_there = array_is code h y.ty.rate Varying y.ty.elem y.ty.elem (l.array y.number) there.array (reaches_varying y.ty.rate) refl

  for_all : is_per_lane h (array_register (l.array y.number)) ≡ false
  for_all = subst (λ r. IsShared h r (l.array y.number)) there.shared there.array.2

  pub reads_sound : (d : ℕ) → IsRegister h Varying d y.ty.elem → AreSound code h (row_read l t x d (l.array y.number) p pc k m)
  reads_sound d hd =
      row_sound (read_run d (l.array y.number) (l.spare Uniform I64 m) k p) (read Varying d (l.array y.number) (l.spare Varying I64 m) k p)
      (read_by_sound code h true Varying y.ty.elem d (l.array y.number) (l.spare Uniform I64 m) k p hd array_there (refl, for_all, there.granted.1.1.0) there.mask there.place)
      (read_by_sound code h false Varying y.ty.elem d (l.array y.number) (l.spare Varying I64 m) k p hd array_there there.granted.1.1.1.1.0 there.mask there.place)

  pub writes_sound : (v : ℕ) → IsRegister h Varying v y.ty.elem → AreSound code h (row_write l t x v (l.array y.number) p pc k m)
  writes_sound v hv =
      row_sound (write_run (l.array y.number) (l.spare Uniform I64 m) v k p) (write Varying (l.array y.number) (l.spare Varying I64 m) v k p)
      (write_by_sound code h true Varying y.ty.elem (l.array y.number) (l.spare Uniform I64 m) v k p array_there (refl, for_all, there.granted.1.1.0) hv there.mask there.place)
      (write_by_sound code h false Varying y.ty.elem (l.array y.number) (l.spare Varying I64 m) v k p array_there there.granted.1.1.1.1.0 hv there.mask there.place)

pub rows_sound : RowsSound
rows_sound = record { reads = λ code h l y t x pc p k m d there hd. reads_sound code h l y t x pc p k m there d hd; writes = λ code h l y t x pc p k m v there hv. writes_sound code h l y t x pc p k m there v hv }
