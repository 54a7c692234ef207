-- The indices of a run are set one by one.
use Rattle.std.proofs.Common.{◌≡◌, refl, sym, ap, ◌∙◌, subst, ℕ, suc, ◌+◌, ◌<◌, Bool, List, [], ◌∷◌, ◌++◌, length, get_or, arith}
use Rattle.std.specs.Prelude.{ℤ}
use Rattle.isp_base.specs.Maps.{on}
use Rattle.isp_base.specs.Sets.{Mask}
use Rattle.isp_base.specs.Values.{wrap}
use Rattle.isp_base.specs.declared.types.Elem.TheVariants.{I32}
use Rattle.isp_base.specs.declared.types.Rate.TheVariants.{Varying}
use Rattle.isp_meaning.specs.State.{State}
use Rattle.isp_meaning.specs.Payloads.{Payload, Each}
use Rattle.isp_meaning.specs.Places.{written}
use Rattle.isp_meaning.specs.Rounds.{set_indices}
use Rattle.isp_gang_values.specs.Left.{number_now, indices_now}
use Rattle.isp_gang_run.specs.Seen.{state_seen}
use Rattle.isp_gang_run.specs.Tasks.{Changes}
use Rattle.isp_gang_values.specs.declared.ranges.Range.{Range}
use Rattle.isp_gang_run.specs.declared.state.Evaluator.{Evaluator}
use Rattle.isp_gang_values.proofs.Indices.{indices_to, no_indices, all_indices, is_last, index_of, one_index}

set_more : (a : Mask) (xs : List (ℕ × (ℕ → ℤ))) (x : ℕ × (ℕ → ℤ)) (s : State) → set_indices a (xs ++ x ∷ []) s ≡ written Varying x.0 a (Each (on a (λ p. wrap I32 (x.1 p)))) (set_indices a xs s)
set_more a [] x s = refl
set_more a (y ∷ xs) x s = set_more a xs x (written Varying y.0 a (Each (on a (λ p. wrap I32 (y.1 p)))) s)

-- what is written by two changes
pub changed_twice : (old mid new : Evaluator) (f g : State → State) → Changes old mid f → Changes mid new g → Changes old new (λ s. g (f s))
changed_twice old mid new f g c d =
    record {
      state = λ w. d.state w ∙ ap g (c.state w);
      frame = d.frame ∙ c.frame;
      same = d.same ∙ ap (λ (e : Evaluator). record e { here = new.here; stores = new.stores }) c.same;
    }

pub nothing_set : (old : Evaluator) (a : Mask) (rs : List Range) → Changes old old (set_indices a (indices_to 0 rs))
nothing_set old a rs = subst (λ xs. Changes old old (set_indices a xs)) (sym (no_indices rs)) (record { state = λ w. refl; frame = refl; same = refl })

pub index_set : (old mid new : Evaluator) (a : Mask) (k : ℕ) (rs : List Range) (r : Range) (b : Bool) (m : Payload) → Changes old mid (set_indices a (indices_to k rs)) → k < length rs → r ≡ get_or rs k r → b ≡ is_last k rs
    → m ≡ Each (on a (λ p. wrap I32 (number_now r.next b p))) → Changes mid new (written Varying r.index a m) → Changes old new (set_indices a (indices_to (k + 1) rs))
index_set old mid new a k rs r b m c h is last e d =
    let one : suc k ≡ k + 1 = omega arith in
    subst (λ (n : ℕ). Changes old new (set_indices a (indices_to n rs))) one
    (let f = changed_twice old mid new (set_indices a (indices_to k rs)) (written Varying r.index a m) c d in
    record {
      state = λ w.
          f.state w
          ∙ ap (λ z. written Varying r.index a z (set_indices a (indices_to k rs) (state_seen old w))) (e ∙ ap (λ z. Each (on a (λ p. wrap I32 (number_now r.next z p)))) last)
          ∙ sym (set_more a (indices_to k rs) (index_of r (is_last k rs)) (state_seen old w))
          ∙ ap (λ xs. set_indices a xs (state_seen old w)) (sym (one_index k rs r h is));
      frame = f.frame;
      same = f.same;
    })

pub all_set : (old new : Evaluator) (a : Mask) (n : ℕ) (rs : List Range) → length rs ≡ n → Changes old new (set_indices a (indices_to n rs)) → Changes old new (set_indices a (indices_now rs))
all_set old new a n rs h c = subst (λ xs. Changes old new (set_indices a xs)) (all_indices n rs h) c
