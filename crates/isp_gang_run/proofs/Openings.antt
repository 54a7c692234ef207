-- How a run begins.
use Rattle.std.proofs.Common.{◌≡◌, refl, ap, ap₂, ◌∙◌, ℕ, zero, suc, List, [], ◌∷◌, map, length, Vec, Global, Bor, None}
use Rattle.std.proofs.Math.Path.{fun_ext}
use Rattle.std.specs.Prelude.{slice_index}
use Rattle.isp_base.specs.Arguments.{rows, row_bits}
use Rattle.isp_base.specs.Rows.{Row}
use Rattle.isp_base.specs.declared.signature.Argument.{Argument}
use Rattle.isp_typed.specs.declared.function.Program.{Program}
use Rattle.isp_typed.specs.Views.{program_of}
use Rattle.isp_meaning.specs.Runs.{first_frame}
use Rattle.isp_gang_values.specs.Growing.{values_of}
use Rattle.isp_gang_run.specs.Seen.{frame_seen, state_seen}
use Rattle.isp_gang_run.specs.Starts.{Starts, nothing_written}
use Rattle.isp_gang_arrays.specs.Stores.{stores_of}
use Rattle.isp_gang_run.specs.declared.state.Evaluator.{Evaluator}

index_is : (xs : List ℕ) (e : ℕ) → values_of xs e ≡ slice_index xs e
index_is [] zero = refl
index_is [] (suc e) = refl
index_is (x ∷ xs) zero = refl
index_is (x ∷ xs) (suc e) = index_is xs e

sizes_are : (rs : List Row) (b : ℕ) → values_of (map (λ (r : Row). length r.bits) rs) b ≡ length (row_bits rs b)
sizes_are [] b = refl
sizes_are (r ∷ rs) zero = refl
sizes_are (r ∷ rs) (suc b) = sizes_are rs b

abbrev bits_at : List (List ℕ) → ℕ → ℕ → ℕ
bits_at [] b e = 0
bits_at (x ∷ xs) zero e = values_of x e
bits_at (x ∷ xs) (suc b) e = bits_at xs b e

stores_are : (vs : List (Vec ℕ Global)) (b e : ℕ) → stores_of vs b e ≡ bits_at (map (λ (v : Vec ℕ Global). v.items) vs) b e
stores_are [] b e = refl
stores_are (v ∷ vs) zero e = refl
stores_are (v ∷ vs) (suc b) e = stores_are vs b e

rows_are : (rs : List Row) (b e : ℕ) → bits_at (map (λ (r : Row). r.bits) rs) b e ≡ slice_index (row_bits rs b) e
rows_are [] b e = index_is [] e
rows_are (r ∷ rs) zero e = index_is r.bits e
rows_are (r ∷ rs) (suc b) e = rows_are rs b e

counted : (rs : List Row) → length (map (λ (r : Row). length r.bits) rs) ≡ length rs
counted [] = refl
counted (r ∷ rs) = ap suc (counted rs)

pub starts : (p : Bor Program) (turns : ℕ) (xs : List Argument) (e : Evaluator) (vs : List (Vec ℕ Global)) (ns : List ℕ) → map (λ (v : Vec ℕ Global). v.items) vs ≡ map (λ (r : Row). r.bits) (rows xs) → ns ≡ map (λ (r : Row). length r.bits) (rows xs)
    → e.program ≡ p → e.turns ≡ turns → e.left ≡ 256
    → frame_seen e.here ≡ record (frame_seen e.here) { sizes = values_of ns; opened = length ns; own_sizes = λ v. 0; answer = None }
    → state_seen e 0 ≡ nothing_written (stores_of vs) → e.tasks.items ≡ [] → e.work.count ≡ 0
    → Starts (program_of p.now) turns xs e
starts p turns xs e vs ns vi ni ep et el ef es en ew =
    record {
      program = ap (λ (q : Bor Program). program_of q.now) ep;
      turns = et;
      left = el;
      frame = ef ∙ ap₂ (λ (s : ℕ → ℕ) (n : ℕ). record (first_frame xs) { named = (frame_seen e.here).named; sizes = s; opened = n }) (ap values_of ni ∙ fun_ext (sizes_are (rows xs))) (ap length ni ∙ counted (rows xs));
      state = es ∙ ap nothing_written (fun_ext (λ b. fun_ext (λ i. stores_are vs b i ∙ ap (λ ys. bits_at ys b i) vi ∙ rows_are (rows xs) b i)));
      nothing = en;
      counts = ew;
    }
