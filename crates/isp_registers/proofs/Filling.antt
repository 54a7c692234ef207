-- Fresh rows that are added until there are so many.
use Rattle.std.proofs.Common.{◌≡◌, ℕ, zero, suc, ◌+◌, ◌-◌, ◌<◌, ◌≤◌, List, [], ◌∷◌, ◌++◌, length, map, refl, ap, sym, ◌∙◌, arith, length-append, max}
use Rattle.std.proofs.lemmas.List.{length-map, map-append}
use Rattle.isp_base.specs.declared.types.Elem.{Elem}
use Rattle.isp_lower_code.specs.Rows.{Fresh, Row, with_fresh, with_many_fresh}
use Rattle.isp_registers.specs.Lookup.{row_of}
use Rattle.isp_registers.specs.declared.registers.RegisterName.TheVariants as one
use Rattle.isp_registers.specs.declared.registers.RegisterRow.{RegisterRow}

-- one of those that are left is added
pub fill_step : (n e : ℕ) (t : Elem) (rows : List Row) → n < e → with_many_fresh (e - (n + 1)) t (with_fresh t rows) ≡ with_many_fresh (e - n) t rows
fill_step n e t rows lt = let one_more : suc (e - (n + 1)) ≡ e - n = omega arith in ap (λ k. with_many_fresh k t rows) one_more

pub fill_end : (n e : ℕ) (t : Elem) (rows : List Row) → e ≤ n → with_many_fresh (e - n) t rows ≡ rows
fill_end n e t rows le = let none : e - n ≡ 0 = omega arith in ap (λ k. with_many_fresh k t rows) none

-- a row that is pushed is one of these
pub pushed_fresh : (rows : List RegisterRow) (n : ℕ) (t : Elem) → length rows ≡ n → map row_of (rows ++ record { name = one.Fresh n; elem = t } ∷ []) ≡ with_fresh t (map row_of rows)
pushed_fresh rows n t is =
    map-append row_of rows (record { name = one.Fresh n; elem = t } ∷ []) ∙ ap (λ k. map row_of rows ++ record { name = Fresh k; elem = t } ∷ []) (sym (length-map rows row_of ∙ is))

many_long : (k : ℕ) (t : Elem) (rows : List Row) → length (with_many_fresh k t rows) ≡ length rows + k
many_long zero t rows = omega arith
many_long (suc k) t rows = omega (arith, many_long k t (with_fresh t rows), length-append rows (record { name = Fresh (length rows); elem = t } ∷ []))

-- so many are there then
pub filled_long : (old new : List RegisterRow) (n : ℕ) (t : Elem) → map row_of new ≡ with_many_fresh (n - length old) t (map row_of old) → length new ≡ max (length old) n
filled_long old new n t is =
    let same = ap length is in
    omega (arith, same, many_long (n - length old) t (map row_of old), length-map old row_of, length-map new row_of)
