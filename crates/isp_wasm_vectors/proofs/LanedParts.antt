-- What an operator makes of two vectors, where it goes lane by lane.
use Rattle.std.proofs.Common.{◌≡◌, ℕ, true, refl}
use Rattle.std.proofs.lemmas.Bool.{false≢true}
use Rattle.isp_base.specs.declared.types.Elem.{Elem}
use Rattle.isp_base.specs.declared.types.Elem.TheVariants.{Bool as Truth, I8, U8, I16, U16, I32, U32, I64, U64}
use Rattle.isp_code.specs.declared.instr.Plain.{Plain}
use Rattle.isp_code.specs.declared.instr.Plain.TheVariants as plain
use Rattle.isp_wasm_meaning.specs.Syntax.{Expr}
use Rattle.isp_wasm.specs.Places.{Setting}
use Rattle.isp_wasm.specs.Words.{plain_expr}
use Rattle.isp_wasm.specs.Rows.{by_lane, lane_at, plain_row}
use Rattle.isp_wasm_vectors.specs.reader.Parts.{is_lane_by_lane}

pub by_lane_is : (w : Setting) (o : Plain) (t : Elem) (x y : ℕ → Expr) (j : ℕ) → is_lane_by_lane o t ≡ true
    → plain_row w o t x y j ≡ by_lane w t (λ p. plain_expr o t (lane_at t x p) (lane_at t y p)) j
by_lane_is w plain.Mul I8 x y j h = refl
by_lane_is w plain.Mul U8 x y j h = refl
by_lane_is w plain.Shl t x y j h = refl
by_lane_is w plain.Shr t x y j h = refl
by_lane_is w plain.Add t x y j h = absurd (false≢true h)
by_lane_is w plain.Sub t x y j h = absurd (false≢true h)
by_lane_is w plain.And t x y j h = absurd (false≢true h)
by_lane_is w plain.Or t x y j h = absurd (false≢true h)
by_lane_is w plain.Xor t x y j h = absurd (false≢true h)
by_lane_is w plain.Min t x y j h = absurd (false≢true h)
by_lane_is w plain.Max t x y j h = absurd (false≢true h)
by_lane_is w plain.Mul Truth x y j h = absurd (false≢true h)
by_lane_is w plain.Mul I16 x y j h = absurd (false≢true h)
by_lane_is w plain.Mul U16 x y j h = absurd (false≢true h)
by_lane_is w plain.Mul I32 x y j h = absurd (false≢true h)
by_lane_is w plain.Mul U32 x y j h = absurd (false≢true h)
by_lane_is w plain.Mul I64 x y j h = absurd (false≢true h)
by_lane_is w plain.Mul U64 x y j h = absurd (false≢true h)
