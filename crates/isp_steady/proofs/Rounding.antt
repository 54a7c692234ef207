-- The runs of a `foreach` each have a member, and all members are instances of the gang; so the body runs where its indices are known.
use Rattle.std.specs.Prelude.{◌≡◌, ℕ, zero, suc, ◌-◌, ◌<◌, ◌≤◌, List, [], ◌∷◌, map, true, ◌&&◌, nat_lt, int_lt, ℤ, pos, negsuc, ◌+ℤ◌, ◌-ℤ◌, ◌≤ℤ◌, ◌<ℤ◌}
use Rattle.std.proofs.Common.{refl, sym, ap, ap₂, ◌∙◌, subst, inl, inr, ⊎_elim, arith, ltb-true}
use Rattle.std.proofs.lemmas.Int.{ints}
use Rattle.std.proofs.lemmas.Bool.{cases_lt}
use Rattle.isp_base.specs.Sets.{Mask, any}
use Rattle.isp_base.proofs.Gangs.{some_width}
use Rattle.isp_meaning.specs.State.{State, tick}
use Rattle.isp_meaning.specs.Outcomes.{Val, Gives, Fails, Stops, Res, Went, Trapped, Cut, with_value, go_on}
use Rattle.isp_meaning.specs.Rounds.{Range, Run, rounds, last_run, with_outer, joined_lists, runs_of, from_on, from_zero, runs_for, length_of, set_indices, round_of_run}
use Rattle.isp_meaning.proofs.Members.{any_at}
use Rattle.isp_meaning.proofs.RunsFor.{no_run, one_run}
use Rattle.isp_steady.specs.Known.{IsInside, AreAsKnown}
use Rattle.isp_steady.specs.Code.{gang_of, run_of, ranges_of}
use Rattle.isp_steady.specs.Indices.{known_indices, index_scalars, EachRun, indices_of}
use Rattle.isp_steady.specs.Bodies.{KnownInForeach}
use Rattle.isp_steady.proofs.Ones.{both}
use Rattle.isp_steady.proofs.Scoping.{join_runs, indices_are_known}

-- ---- each run has a member

abbrev EachBelow : ℤ → List ℤ → Type 0
EachBelow end [] = Unit {0}
EachBelow end (z ∷ zs) = (z <ℤ end) × EachBelow end zs

below_end : (gang : ℕ) (end : ℤ) → 0 < gang → (n count : ℕ) (z : ℤ) → runs_for gang count ≡ n → (z +ℤ pos count) ≤ℤ end → EachBelow end (from_on gang n z)
below_end gang end some zero count z e le = tt
below_end gang end some (suc n) count z e le =
    let there : 0 < count = positive count e in (
      omega (arith, ints, le, there),
      ⊎_elim (λ (h : gang < count). below_end gang end some n (count - gang) (z +ℤ pos gang)
          (let one : runs_for gang count ≡ suc (runs_for gang (count - gang)) = one_run gang count (count - gang) some (inl (omega (arith, h))) in let two : suc (runs_for gang (count - gang)) ≡ suc n = sym one ∙ e in omega (arith, two))
          (omega (arith, ints, le, h)))
          (λ (h : count ≤ gang). subst (λ m. EachBelow end (from_on gang m (z +ℤ pos gang)))
          (let one : runs_for gang count ≡ suc (runs_for gang 0) = one_run gang count 0 some (inr (there, h, refl)) in let none = no_run gang some in let two : suc (runs_for gang 0) ≡ suc n = sym one ∙ e in let three : 0 ≡ n = omega (arith, two, none) in three) tt)
          (cases_lt gang count),
    )
  where
    positive : (m : ℕ) → runs_for gang m ≡ suc n → 0 < m
    positive zero i = absurd (let none : runs_for gang 0 ≡ 0 = no_run gang some in let two : 0 ≡ suc n = sym none ∙ i in omega (arith, two))
    positive (suc m) i = omega arith

-- somebody of the gang, and nobody else
record IsFull (gang : ℕ) (x : Run) : Type 0 where
  pub some : any gang x.members ≡ true
  pub inside : IsInside gang x.members

lt_true : (a b : ℕ) → a < b → nat_lt a b ≡ true
lt_true a b h = grind (arith, h)

int_true : (a b : ℤ) → a <ℤ b → int_lt a b ≡ true
int_true a b h = grind (arith, ints, h)

last_full : (gang : ℕ) (r : Range) → 0 < gang → (zs : List ℤ) → EachBelow r.end zs → EachRun (IsFull gang) (map (last_run gang r) zs)
last_full gang r some [] h = tt
last_full gang r some (z ∷ zs) h = (
  record {
    some = any_at gang (last_run gang r z).members 0 some (ap₂ (λ b c. b && c) (lt_true 0 gang some) (int_true (z +ℤ pos 0) r.end (let i = h.0 in omega (arith, ints, i))));
    inside = λ p e. ltb-true p gang (both (nat_lt p gang) (int_lt (z +ℤ pos p) r.end) e).0;
  },
  last_full gang r some zs h.1,
)

outer_full : (gang i : ℕ) (z : ℤ) (xs : List Run) → EachRun (IsFull gang) xs → EachRun (IsFull gang) (map (with_outer i z) xs)
outer_full gang i z [] h = tt
outer_full gang i z (x ∷ xs) h = (record { some = h.0.some; inside = h.0.inside }, outer_full gang i z xs h.1)

joined_full : (gang i : ℕ) (xs : List Run) (zs : List ℤ) → EachRun (IsFull gang) xs → EachRun (IsFull gang) (joined_lists (map (λ z. map (with_outer i z) xs) zs))
joined_full gang i xs [] h = tt
joined_full gang i xs (z ∷ zs) h = join_runs (IsFull gang) (map (with_outer i z) xs) _ (outer_full gang i z xs h) (joined_full gang i xs zs h)

from_start : (gang : ℕ) (r : Range) → 0 < gang → EachBelow r.end (from_on gang (runs_for gang (length_of r)) r.start)
from_start gang r some = by (r.end -ℤ r.start) refl
  where
    by : (d : ℤ) → r.end -ℤ r.start ≡ d → EachBelow r.end (from_on gang (runs_for gang (from_zero d)) r.start)
    by (pos n) e = below_end gang r.end some (runs_for gang n) n r.start refl (omega (arith, ints, e))
    by (negsuc n) e = subst (λ m. EachBelow r.end (from_on gang m r.start)) (sym (no_run gang some)) tt

runs_full : (gang : ℕ) → 0 < gang → (rs : List Range) → EachRun (IsFull gang) (runs_of gang rs)
runs_full gang some [] = tt
runs_full gang some (r ∷ []) = last_full gang r some (from_on gang (runs_for gang (length_of r)) r.start) (from_start gang r some)
runs_full gang some (r ∷ q ∷ rs) = joined_full gang r.index (runs_of gang (q ∷ rs)) (from_on 1 (length_of r) r.start) (runs_full gang some (q ∷ rs))

-- ---- each round is alike

go_alike : (v : Res) (h k : State → Mask → Mask → Mask → Mask → Res) → ((s : State) (g b c r : Mask) → h s g b c r ≡ k s g b c r) → go_on v h ≡ go_on v k
go_alike (Went s g b c r) h k e = e s g b c r
go_alike (Trapped t s) h k e = refl
go_alike (Cut s) h k e = refl

rounds_alike : (f g : Mask → State → Res) (a : Mask) (xs : List Run) → EachRun (λ x. (s : State) → f x.members (set_indices x.members x.indices s) ≡ g x.members (set_indices x.members x.indices s)) xs
    → (s : State) → rounds f a (map round_of_run xs) s ≡ rounds g a (map round_of_run xs) s
rounds_alike f g a [] h s = refl
rounds_alike f g a (x ∷ xs) h s =
    go_alike (f x.members (set_indices x.members x.indices s)) _ _ (λ s1 g1 b c r. rounds_alike f g a xs h.1 s1) ∙ ap (λ v. go_on v (λ s1 g1 b c r. rounds g a (map round_of_run xs) s1)) (h.0 s)

both_runs : (P Q R : Run → Type 0) (xs : List Run) → ((x : Run) → P x → Q x → R x) → EachRun P xs → EachRun Q xs → EachRun R xs
both_runs P Q R [] f h k = tt
both_runs P Q R (x ∷ xs) f h k = (f x h.0 k.0, both_runs P Q R xs f h.1 k.1)

with_alike : (v : Val (List Range)) (h k : List Range → State → Res) → ((xs : List Range) (s : State) → v ≡ Gives xs s → h xs s ≡ k xs s) → with_value v h ≡ with_value v k
with_alike (Gives xs s) h k e = e xs s refl
with_alike (Fails t s) h k e = refl
with_alike (Stops s) h k e = refl

pub known_in_foreach : KnownInForeach
known_in_foreach w a s vars scope n at k rs y z sp fine numbered alike =
    with_alike (ranges_of w rs a (tick s)) _ _
    (λ xs s1 e. rounds_alike (run_of w y) (run_of w z) a (runs_of (gang_of w) xs)
    (both_runs (IsFull (gang_of w)) (λ x. (s2 : State) → AreAsKnown vars (known_indices (indices_of rs)) (index_scalars x.indices) x.members (set_indices x.members x.indices s2)) _ (runs_of (gang_of w) xs)
    (λ x full known s2. alike x.members (set_indices x.members x.indices s2) (full.some, full.inside) (index_scalars x.indices, known s2))
    (runs_full (gang_of w) (some_width w.program.gang) xs) (indices_are_known w vars scope n rs a (tick s) s1 xs fine numbered e)) _)
