-- One more run, taken together with those before.
use Rattle.std.proofs.Common.{◌≡◌, sym, ap, ap₂, subst, ◌∙◌, ℕ, suc, ◌+◌, ◌<◌, ◌⊎◌, ⊎_elim, Bool, List, [], arith}
use Rattle.std.specs.Prelude.{Option, is_some}
use Rattle.std.proofs.lemmas.Bool.{cases_eq}
use Rattle.isp_base.specs.Rows.{Row}
use Rattle.isp_solo_meaning.specs.Answers.{Answer, Has, reached}
use Rattle.isp_solo_meaning.specs.Runs.{IsEnded, value_of}
use Rattle.isp_solo_run.specs.Arrays.{wrote_seen, read_seen}
use Rattle.isp_solo_run.specs.Ends.{IsRunOf, ended_in}
use Rattle.isp_solo_run.specs.Touches.{touched}
use Rattle.isp_solo_run.specs.declared.running.Ending.TheVariants.{Gave}
use Rattle.isp_solo_run.specs.declared.running.Run.{Run}
use Rattle.isp_solo.specs.Left.{rows_over}
use Rattle.isp_solo.specs.Together.{AreTogether}
use Rattle.isp_solo.specs.Touched.{touched_seen}
use Rattle.isp_solo.specs.declared.together.Together.{Together}

pub none_together : (run : ℕ → Answer ℕ) (rs : List Row) (t : Together) → t.touched.items ≡ [] → t.arrays.items ≡ rs → AreTogether run rs 0 t
none_together run rs t none same = record {
  end = λ p h. absurd (omega (arith, h));
  touched = λ b e. ap (λ xs. touched_seen xs b e) none;
  arrays = same;
  given = λ h. absurd (omega (arith, h));
}

module _ (run : ℕ → Answer ℕ) (rs : List Row) (n : ℕ) (old new : Together) (r : Run) (value : ℕ) (gave : r.ending ≡ Gave value) (before : AreTogether run rs n old) (is : IsRunOf (run n) r)
    (touches : (b e : ℕ) → touched_seen new.touched.items b e ≡ touched (touched_seen old.touched.items b e) n (read_seen r.arrays.stores.items b e) (is_some (wrote_seen r.arrays.stores.items b e)))
    (left : new.arrays.items ≡ rows_over old.arrays.items (wrote_seen r.arrays.stores.items))
    (first : n ≡ 0 → new.given ≡ value) (later : (n ≡ 0 → ⊥) → new.given ≡ old.given) where
  came : run n ≡ Has value (reached (run n))
  came = is.ending ∙ ap (λ e. ended_in e (reached (run n))) gave

  end : (p : ℕ) → p < suc n → IsEnded (run p)
  end p h = ⊎_elim (λ (i : p ≡ n). subst IsEnded (sym (ap run i ∙ came)) tt) (λ ne. before.end p (omega (arith, h, ne))) (cases_eq p n)

  given : new.given ≡ value_of (run 0)
  given = ⊎_elim (λ (i : n ≡ 0). first i ∙ sym (ap value_of (ap run (sym i) ∙ came))) (λ ne. later ne ∙ before.given (omega (arith, ne))) (cases_eq n 0)

  one_more : AreTogether run rs (suc n) new
  one_more = record {
    end = end;
    touched = λ b e. touches b e ∙ ap₂ (λ (f : ℕ → ℕ → Bool) (g : ℕ → ℕ → Option ℕ). touched (touched_seen old.touched.items b e) n (f b e) (is_some (g b e))) is.read is.wrote
        ∙ ap (λ t. touched t n ((reached (run n)).read b e) (is_some ((reached (run n)).wrote b e))) (before.touched b e);
    arrays = left ∙ ap₂ (λ (xs : List Row) (g : ℕ → ℕ → Option ℕ). rows_over xs g) before.arrays is.wrote;
    given = λ h. given;
  }

  pub one_together : AreTogether run rs (n + 1) new
  one_together = subst (λ (k : ℕ). AreTogether run rs k new) (let i : suc n ≡ n + 1 = omega arith in i) one_more
