-- The indices of a run are set one by one.
use Rattle.std.proofs.Common.{◌≡◌, refl, sym, ap, ◌∙◌, subst, ℕ, suc, ◌+◌, ◌<◌, Bool, List, [], ◌∷◌, ◌++◌, length, get_or, arith}
use Rattle.std.specs.Prelude.{ℤ}
use Rattle.isp_base.specs.Values.{wrap}
use Rattle.isp_base.specs.declared.types.Elem.TheVariants.{I32}
use Rattle.isp_base.specs.declared.types.Rate.TheVariants.{Varying}
use Rattle.isp_solo_meaning.specs.Alone.{Alone, written}
use Rattle.isp_solo_meaning.specs.Loops.{at_indices}
use Rattle.isp_gang_values.specs.Left.{number_now, indices_now}
use Rattle.isp_solo_run.specs.Tasks.{Changes, state_seen}
use Rattle.isp_gang_values.specs.declared.ranges.Range.{Range}
use Rattle.isp_solo_run.specs.declared.state.Single.{Single}
use Rattle.isp_gang_values.proofs.Indices.{indices_to, no_indices, all_indices, is_last, index_of, one_index}

set_more : (p : ℕ) (xs : List (ℕ × (ℕ → ℤ))) (x : ℕ × (ℕ → ℤ)) (s : Alone) → at_indices p (xs ++ x ∷ []) s ≡ written Varying x.0 (wrap I32 (x.1 p)) (at_indices p xs s)
set_more p [] x s = refl
set_more p (y ∷ xs) x s = set_more p xs x (written Varying y.0 (wrap I32 (y.1 p)) s)

-- what is written by two changes
pub changed_twice : (old mid new : Single) (f g : Alone → Alone) → Changes old mid f → Changes mid new g → Changes old new (λ s. g (f s))
changed_twice old mid new f g c d =
    record {
      state = d.state ∙ ap g c.state;
      frame = d.frame ∙ c.frame;
      same = d.same ∙ ap (λ (e : Single). record e { here = new.here; arrays = new.arrays }) c.same;
    }

pub nothing_set : (old : Single) (p : ℕ) (rs : List Range) → Changes old old (at_indices p (indices_to 0 rs))
nothing_set old p rs = subst (λ xs. Changes old old (at_indices p xs)) (sym (no_indices rs)) (record { state = refl; frame = refl; same = refl })

pub index_set : (old mid new : Single) (p k : ℕ) (rs : List Range) (r : Range) (b : Bool) (x : ℕ) → Changes old mid (at_indices p (indices_to k rs)) → k < length rs → r ≡ get_or rs k r → b ≡ is_last k rs
    → x ≡ wrap I32 (number_now r.next b p) → Changes mid new (written Varying r.index x) → Changes old new (at_indices p (indices_to (k + 1) rs))
index_set old mid new p k rs r b x c h is last e d =
    let one : suc k ≡ k + 1 = omega arith in
    subst (λ (n : ℕ). Changes old new (at_indices p (indices_to n rs))) one
    (let f = changed_twice old mid new (at_indices p (indices_to k rs)) (written Varying r.index x) c d in
    record {
      state =
          f.state
          ∙ ap (λ z. written Varying r.index z (at_indices p (indices_to k rs) (state_seen old))) (e ∙ ap (λ z. wrap I32 (number_now r.next z p)) last)
          ∙ sym (set_more p (indices_to k rs) (index_of r (is_last k rs)) (state_seen old))
          ∙ ap (λ xs. at_indices p xs (state_seen old)) (sym (one_index k rs r h is));
      frame = f.frame;
      same = f.same;
    })

pub all_set : (old new : Single) (p n : ℕ) (rs : List Range) → length rs ≡ n → Changes old new (at_indices p (indices_to n rs)) → Changes old new (at_indices p (indices_now rs))
all_set old new p n rs h c = subst (λ xs. Changes old new (at_indices p xs)) (all_indices n rs h) c
