-- Arrays over which a run stores what it stored, and what runs leave one after the other.
use Rattle.std.specs.Prelude.{ℕ, zero, suc, ◌^◌, ◌%◌, List, [], ◌∷◌, length, slice_index, Option, option_map}
use Rattle.isp_base.specs.Arguments.{tabulate}
use Rattle.isp_base.specs.Maps.{or_old}
use Rattle.isp_base.specs.Rows.{Row}
use Rattle.isp_base.specs.Values.{width}
use Rattle.isp_solo_meaning.specs.Answers.{Answer, reached}
use Rattle.isp_solo_meaning.specs.Runs.{after}

-- an element has what was stored there, cut to the width of its type, else what it had
abbrev pub row_over : Row → (ℕ → Option ℕ) → Row
row_over r w = record {
  elem = r.elem;
  bits = tabulate (length r.bits) (λ e. or_old (option_map (λ x. x % 2 ^ width r.elem) (w e)) (slice_index r.bits e));
}

abbrev pub rows_over : List Row → (ℕ → ℕ → Option ℕ) → List Row
rows_over [] w = []
rows_over (r ∷ rs) w = row_over r (w 0) ∷ rows_over rs (λ b. w (suc b))

-- the rows after the runs of the first n instances
abbrev pub rows_left : (ℕ → Answer ℕ) → List Row → ℕ → List Row
rows_left run rs zero = rs
rows_left run rs (suc n) = rows_over (rows_left run rs n) (reached (run n)).wrote

-- the elements that they leave in arrays m
abbrev pub left_by : (ℕ → Answer ℕ) → (ℕ → ℕ → ℕ) → ℕ → ℕ → ℕ → ℕ
left_by run m zero = m
left_by run m (suc n) = after (run n) (left_by run m n)
