-- What fits its type is not changed by cutting it.
use Rattle.std.proofs.Common.{◌≡◌, refl, ap₂, ℕ, suc, List, [], ◌∷◌, length}
use Rattle.std.proofs.Math.Path.{fun_ext}
use Rattle.std.proofs.Math.Nat.{mod-eq_of_lt}
use Rattle.isp_base.specs.Arguments.{rows_now, tabulate}
use Rattle.isp_base.specs.Maps.{Lanes}
use Rattle.isp_base.specs.Rows.{Row}
use Rattle.isp_type_laws.specs.Fits.{RowsFit}
use Rattle.isp_type_laws.specs.Cut.{rows_cut}

pub fits_cut : (rs : List Row) (f : ℕ → Lanes) → RowsFit rs f → rows_cut rs f ≡ rows_now rs f
fits_cut [] f h = refl
fits_cut (r ∷ rs) f h =
    ap₂ (λ (g : Lanes) (xs : List Row). record { elem = r.elem; bits = tabulate (length r.bits) g } ∷ xs)
    (fun_ext (λ e. mod-eq_of_lt (h.0 e))) (fits_cut rs (λ b. f (suc b)) h.1)
