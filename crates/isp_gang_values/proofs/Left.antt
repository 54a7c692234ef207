-- The runs of a `foreach` that are left: at the start, when numbers carry, when a run is made, at the end.
use Rattle.std.proofs.Common.{◌≡◌, refl, sym, ap, ap₂, ◌∙◌, ℕ, zero, suc, ◌+◌, ◌-◌, ◌<◌, ◌≤◌, ◌⊎◌, inl, inr, ◌&&◌, ◌||◌, not, Bool, true, false, List, [], ◌∷◌, ◌++◌, map, length, drop, get_or, arith, cond}
use Rattle.std.specs.Prelude.{ℤ, pos, negsuc, ◌+ℤ◌, ◌-ℤ◌, int_lt}
use Rattle.std.proofs.Math.ListN.{set}
use Rattle.std.proofs.lemmas.Int.{ints}
use Rattle.isp_base.specs.Sets.{Mask, flag_of, nobody}
use Rattle.isp_base.specs.Types.{gang_width}
use Rattle.isp_base.specs.declared.types.Gang.{Gang}
use Rattle.isp_base.proofs.Gangs.{some_width}
use Rattle.isp_gang_values.proofs.Made.{Made, made}
use Rattle.std.proofs.lemmas.Bool.{le-ltb}
use Rattle.isp_meaning.proofs.RunsFor.{no_run, one_run}
use Rattle.isp_meaning.specs.Rounds.{Run, from_zero, runs_for, from_on, last_run, with_outer, joined_lists, runs_of}
use Rattle.isp_gang_values.specs.Left.{range_seen, at_start, restarted, stepped, outer_left, left_of, have_numbers, are_within, runs_left, tail_within, some_range, is_ready, goes, all_go, carried, numbers_below, indices_now, members_now, advanced}
use Rattle.isp_gang_values.specs.declared.ranges.Range.{Range}

-- ---- how many numbers there are

zero_from : (a b : ℤ) → int_lt a b ≡ false → from_zero (b -ℤ a) ≡ 0
zero_from a b h = by (b -ℤ a) refl
  where
    by : (d : ℤ) → d ≡ b -ℤ a → from_zero d ≡ 0
    by (pos zero) e = refl
    by (pos (suc n)) e = absurd (grind (arith, ints, e, h))
    by (negsuc n) e = refl

one_from : (a b : ℤ) → int_lt a b ≡ true → from_zero (b -ℤ a) ≡ suc (from_zero (b -ℤ (a +ℤ pos 1)))
one_from a b h = by (b -ℤ a) refl
  where
    by : (d : ℤ) → d ≡ b -ℤ a → from_zero d ≡ suc (from_zero (b -ℤ (a +ℤ pos 1)))
    by (pos zero) e = absurd (grind (arith, ints, e, h))
    by (pos (suc n)) e = let k : b -ℤ (a +ℤ pos 1) ≡ pos n = omega (arith, ints, e) in ap suc (sym (ap from_zero k))
    by (negsuc n) e = absurd (grind (arith, ints, e, h))

-- so many numbers further
far : (g : ℕ) (a b : ℤ) → int_lt a b ≡ true
    → (from_zero (b -ℤ a) ≡ from_zero (b -ℤ (a +ℤ pos g)) + g) ⊎ ((0 < from_zero (b -ℤ a)) × (from_zero (b -ℤ a) ≤ g) × (from_zero (b -ℤ (a +ℤ pos g)) ≡ 0))
far g a b h = by (b -ℤ a) (b -ℤ (a +ℤ pos g)) refl refl
  where
    by : (d f : ℤ) → d ≡ b -ℤ a → f ≡ b -ℤ (a +ℤ pos g) → (from_zero d ≡ from_zero f + g) ⊎ ((0 < from_zero d) × (from_zero d ≤ g) × (from_zero f ≡ 0))
    by (pos zero) f e k = absurd (grind (arith, ints, e, h))
    by (pos (suc n)) (pos m) e k = inl (omega (arith, ints, e, k))
    by (pos (suc n)) (negsuc m) e k = inr (omega arith, omega (arith, ints, e, k), refl)
    by (negsuc n) f e k = absurd (grind (arith, ints, e, h))

-- ---- lists of runs

none_joined : (index : ℕ) (zs : List ℤ) → joined_lists (map (λ z. map (with_outer index z) []) zs) ≡ []
none_joined index [] = refl
none_joined index (z ∷ zs) = none_joined index zs

outer_all : (index : ℕ) (z : ℤ) (n : ℕ) (xs : List Run) → outer_left index z n xs xs ≡ joined_lists (map (λ k. map (with_outer index k) xs) (from_on 1 n z))
outer_all index z zero xs = refl
outer_all index z (suc n) xs = refl

left_outer : (g : ℕ) (r : Range) (rs : List Range) → some_range rs ≡ true → left_of g (r ∷ rs) ≡ outer_left r.index r.next (from_zero (r.end -ℤ r.next)) (left_of g rs) (runs_of g (map range_seen rs))
left_outer g r [] h = absurd (let k : ⊥ = cc in k)
left_outer g r (q ∷ rs) h = refl

-- ---- at the start

seen_at_start : (rs : List Range) → map range_seen (map at_start rs) ≡ map range_seen rs
seen_at_start [] = refl
seen_at_start (r ∷ rs) = ap (λ xs. range_seen r ∷ xs) (seen_at_start rs)

numbers_at_start : (rs : List Range) → have_numbers (map at_start rs) ≡ have_numbers rs
numbers_at_start [] = refl
numbers_at_start (r ∷ rs) = ap (λ b. int_lt r.start r.end && b) (numbers_at_start rs)

pub within_at_start : (rs : List Range) → are_within (map at_start rs) ≡ have_numbers rs
within_at_start [] = refl
within_at_start (r ∷ rs) = ap (λ b. int_lt r.start r.end && b) (within_at_start rs)

left_at_start : (g : ℕ) (rs : List Range) → left_of g (map at_start rs) ≡ runs_of g (map range_seen rs)
left_at_start g [] = refl
left_at_start g (r ∷ []) = refl
left_at_start g (r ∷ q ∷ rs) =
    ap₂ (λ xs ys. outer_left r.index r.start (from_zero (r.end -ℤ r.start)) xs (runs_of g ys)) (left_at_start g (q ∷ rs)) (seen_at_start (q ∷ rs))
    ∙ outer_all r.index r.start (from_zero (r.end -ℤ r.start)) (runs_of g (map range_seen (q ∷ rs)))

and_of : (a b : Bool) → a && b ≡ false → (a ≡ false) ⊎ (b ≡ false)
and_of true b e = inr e
and_of false b e = inl refl

none_without : (g : Gang) (rs : List Range) → have_numbers rs ≡ false → runs_of (gang_width g) (map range_seen rs) ≡ []
none_without g [] h = absurd (let k : ⊥ = cc in k)
none_without g (r ∷ []) h = by (and_of (int_lt r.start r.end) true h)
  where
    by : (int_lt r.start r.end ≡ false) ⊎ (true ≡ false) → runs_of (gang_width g) (map range_seen (r ∷ [])) ≡ []
    by (inl e) = ap (λ n. map (last_run (gang_width g) (range_seen r)) (from_on (gang_width g) (runs_for (gang_width g) n) r.start))
        (zero_from r.start r.end e) ∙ ap (λ n. map (last_run (gang_width g) (range_seen r)) (from_on (gang_width g) n r.start))
        (no_run (gang_width g) (some_width g))
    by (inr e) = absurd (let k : ⊥ = cc in k)
none_without g (r ∷ q ∷ rs) h = by (none_without g (q ∷ rs)) (and_of (int_lt r.start r.end) (have_numbers (q ∷ rs)) h)
  where
    by : (have_numbers (q ∷ rs) ≡ false → runs_of (gang_width g) (map range_seen (q ∷ rs)) ≡ []) → (int_lt r.start r.end ≡ false) ⊎ (have_numbers (q ∷ rs) ≡ false) → runs_of (gang_width g) (map range_seen (r ∷ q ∷ rs)) ≡ []
    by more (inl e) = ap (λ n. joined_lists (map (λ z. map (with_outer r.index z) (runs_of (gang_width g) (map range_seen (q ∷ rs)))) (from_on 1 n r.start))) (zero_from r.start r.end e)
    by more (inr e) = ap (λ xs. joined_lists (map (λ z. map (with_outer r.index z) xs) (from_on 1 (from_zero (r.end -ℤ r.start)) r.start))) (more e) ∙ none_joined r.index (from_on 1 (from_zero (r.end -ℤ r.start)) r.start)

pub left_begins : (g : Gang) (rs : List Range) → runs_left (gang_width g) (map at_start rs) ≡ runs_of (gang_width g) (map range_seen rs)
left_begins g rs = ap₂ (λ b xs. cond b xs []) (numbers_at_start rs) (left_at_start (gang_width g) rs) ∙ by (have_numbers rs) refl
  where
    by : (b : Bool) → have_numbers rs ≡ b → cond b (runs_of (gang_width g) (map range_seen rs)) [] ≡ runs_of (gang_width g) (map range_seen rs)
    by true e = refl
    by false e = sym (none_without g rs e)

-- ---- numbers carry into a range, and those after it begin again

seen_carried : (k : ℕ) (rs : List Range) → map range_seen (carried k rs) ≡ map range_seen rs
seen_carried zero [] = refl
seen_carried (suc k) [] = refl
seen_carried zero (r ∷ rs) = ap (λ xs. range_seen r ∷ xs) (seen_at_start rs)
seen_carried (suc k) (r ∷ rs) = ap (λ xs. range_seen r ∷ xs) (seen_carried k rs)

some_carried : (k : ℕ) (rs : List Range) → some_range (carried k rs) ≡ some_range rs
some_carried zero [] = refl
some_carried (suc k) [] = refl
some_carried zero (r ∷ rs) = refl
some_carried (suc k) (r ∷ rs) = refl

pub numbers_carried : (k : ℕ) (rs : List Range) → have_numbers (carried k rs) ≡ have_numbers rs
numbers_carried zero [] = refl
numbers_carried (suc k) [] = refl
numbers_carried zero (r ∷ rs) = ap (λ b. int_lt r.start r.end && b) (numbers_at_start rs)
numbers_carried (suc k) (r ∷ rs) = ap (λ b. int_lt r.start r.end && b) (numbers_carried k rs)

-- the first has no number that is left
spent : (g : Gang) (r : Range) (rs : List Range) → int_lt r.next r.end ≡ false → left_of (gang_width g) (r ∷ rs) ≡ []
spent g r [] h = ap (λ n. map (last_run (gang_width g) (range_seen r)) (from_on (gang_width g) (runs_for (gang_width g) n) r.next))
    (zero_from r.next r.end h) ∙ ap (λ n. map (last_run (gang_width g) (range_seen r)) (from_on (gang_width g) n r.next))
    (no_run (gang_width g) (some_width g))
spent g r (q ∷ rs) h = ap (λ n. outer_left r.index r.next n (left_of (gang_width g) (q ∷ rs)) (runs_of (gang_width g) (map range_seen (q ∷ rs)))) (zero_from r.next r.end h)

some_of : (rs : List Range) → 0 < length rs → some_range rs ≡ true
some_of [] h = absurd (omega (arith, h))
some_of (r ∷ rs) h = refl

carry_outer : (r : Range) (xs : List Run) (b : Bool) → int_lt r.next r.end ≡ b
    → outer_left r.index (cond b (r.next +ℤ pos 1) r.next) (from_zero (r.end -ℤ cond b (r.next +ℤ pos 1) r.next)) xs xs ≡ outer_left r.index r.next (from_zero (r.end -ℤ r.next)) [] xs
carry_outer r xs true h = outer_all r.index (r.next +ℤ pos 1) (from_zero (r.end -ℤ (r.next +ℤ pos 1))) xs ∙ sym (ap (λ n. outer_left r.index r.next n [] xs) (one_from r.next r.end h))
carry_outer r xs false h = ap (λ n. outer_left r.index r.next n xs xs) (zero_from r.next r.end h) ∙ sym (ap (λ n. outer_left r.index r.next n [] xs) (zero_from r.next r.end h))

pub left_carried : (g : Gang) (k : ℕ) (rs : List Range) (q : Range) → suc k < length rs → q ≡ get_or rs (suc k) q → int_lt q.next q.end ≡ false → left_of (gang_width g) (carried k rs) ≡ left_of (gang_width g) rs
left_carried g k [] q h is end = absurd (omega (arith, h))
left_carried g zero (r ∷ []) q h is end = absurd (omega (arith, h))
left_carried g zero (r ∷ x ∷ rs) q h is end =
    ap₂ (λ xs ys. outer_left r.index (stepped r (pos 1)) (from_zero (r.end -ℤ stepped r (pos 1))) xs (runs_of (gang_width g) ys)) (left_at_start (gang_width g) (x ∷ rs)) (seen_at_start (x ∷ rs))
    ∙ carry_outer r (runs_of (gang_width g) (map range_seen (x ∷ rs))) (int_lt r.next r.end) refl
    ∙ ap (λ xs. outer_left r.index r.next (from_zero (r.end -ℤ r.next)) xs (runs_of (gang_width g) (map range_seen (x ∷ rs)))) (sym (spent g x rs (ap (λ (z : Range). int_lt z.next z.end) (sym is) ∙ end)))
left_carried g (suc k) (r ∷ rs) q h is end =
    let some : some_range rs ≡ true = some_of rs (omega (arith, h)) in
    left_outer (gang_width g) r (carried k rs) (some_carried k rs ∙ some)
    ∙ ap₂ (λ xs ys. outer_left r.index r.next (from_zero (r.end -ℤ r.next)) xs (runs_of (gang_width g) ys)) (left_carried g k rs q (omega (arith, h)) is end) (seen_carried k rs)
    ∙ sym (left_outer (gang_width g) r rs some)

pub carry_left : (g : Gang) (k : ℕ) (rs : List Range) (q : Range) → suc k < length rs → q ≡ get_or rs (suc k) q → int_lt q.next q.end ≡ false → runs_left (gang_width g) (carried k rs) ≡ runs_left (gang_width g) rs
carry_left g k rs q h is end = ap₂ (λ b xs. cond b xs []) (numbers_carried k rs) (left_carried g k rs q h is end)

-- what is written when numbers carry
pub carry_is : (k : ℕ) (rs : List Range) (x y : Range) (z : ℤ) → k < length rs → x ≡ get_or (restarted (suc k) rs) k x
    → y ≡ get_or (restarted (suc k) rs) k y → z ≡ stepped x (pos 1) → set (restarted (suc k) rs) k (record y { next = z }) ≡ carried k rs
carry_is k [] x y z h is at e = absurd (omega (arith, h))
carry_is zero (r ∷ rs) x y z h is at e = ap₂ (λ (u : Range) (v : ℤ). record u { next = v } ∷ map at_start rs) at (e ∙ ap (λ (u : Range). stepped u (pos 1)) is)
carry_is (suc k) (r ∷ rs) x y z h is at e = ap (λ ys. r ∷ ys) (carry_is k rs x y z (omega (arith, h)) is at e)

-- ---- the run that comes next

and_both : (a b : Bool) → a && b ≡ true → (a ≡ true) × (b ≡ true)
and_both true b e = (refl, e)
and_both false b e = absurd (let k : ⊥ = cc in k)

seen_advanced : (g : ℕ) (rs : List Range) → map range_seen (advanced g rs) ≡ map range_seen rs
seen_advanced g [] = refl
seen_advanced g (r ∷ []) = refl
seen_advanced g (r ∷ q ∷ rs) = ap (λ xs. range_seen r ∷ xs) (seen_advanced g (q ∷ rs))

some_advanced : (g : ℕ) (r : Range) (rs : List Range) → some_range (advanced g (r ∷ rs)) ≡ true
some_advanced g r [] = refl
some_advanced g r (q ∷ rs) = refl

numbers_advanced : (g : ℕ) (rs : List Range) → have_numbers (advanced g rs) ≡ have_numbers rs
numbers_advanced g [] = refl
numbers_advanced g (r ∷ []) = refl
numbers_advanced g (r ∷ q ∷ rs) = ap (λ b. int_lt r.start r.end && b) (numbers_advanced g (q ∷ rs))

abbrev pub run_now : ℕ → List Range → Run
run_now g rs = record { indices = indices_now rs; members = members_now g rs }

left_within : (g : Gang) (r : Range) (rs : List Range) → are_within (r ∷ rs) ≡ true → left_of (gang_width g) (r ∷ rs) ≡ run_now (gang_width g) (r ∷ rs) ∷ left_of (gang_width g) (advanced (gang_width g) (r ∷ rs))
left_within g r [] h =
    let some = (and_both (int_lt r.next r.end) true h).0 in
    let n = gang_width g in
    ap (λ k. map (last_run n (range_seen r)) (from_on n k r.next)) (one_run n (from_zero (r.end -ℤ r.next)) (from_zero (r.end -ℤ (r.next +ℤ pos n))) (some_width g) (far n r.next r.end some))
    ∙ ap (λ b. run_now n (r ∷ []) ∷ map (last_run n (range_seen r)) (from_on n (runs_for n (from_zero (r.end -ℤ cond b (r.next +ℤ pos n) r.next))) (cond b (r.next +ℤ pos n) r.next))) (sym some)
left_within g r (q ∷ rs) h =
    let both = and_both (int_lt r.next r.end) (are_within (q ∷ rs)) h in
    let n = gang_width g in
    let all = runs_of n (map range_seen (q ∷ rs)) in
    ap (λ k. outer_left r.index r.next k (left_of n (q ∷ rs)) all) (one_from r.next r.end both.0)
    ∙ ap (λ xs. map (with_outer r.index r.next) xs ++ joined_lists (map (λ k. map (with_outer r.index k) all) (from_on 1 (from_zero (r.end -ℤ (r.next +ℤ pos 1))) (r.next +ℤ pos 1)))) (left_within g q rs both.1)
    ∙ ap (λ k. run_now n (r ∷ q ∷ rs) ∷ outer_left r.index r.next k (left_of n (advanced n (q ∷ rs))) all) (sym (one_from r.next r.end both.0))
    ∙ ap (λ ys. run_now n (r ∷ q ∷ rs) ∷ outer_left r.index r.next (from_zero (r.end -ℤ r.next)) (left_of n (advanced n (q ∷ rs))) (runs_of n ys)) (sym (seen_advanced n (q ∷ rs)))
    ∙ ap (λ xs. run_now n (r ∷ q ∷ rs) ∷ xs) (sym (left_outer n r (advanced n (q ∷ rs)) (some_advanced n q rs)))

-- all can go where all have numbers and are within
go_both : (rs : List Range) → all_go rs ≡ true → (have_numbers rs ≡ true) × (are_within rs ≡ true)
go_both [] h = (refl, refl)
go_both (r ∷ rs) h =
    let k = and_both (goes r) (all_go rs) h in
    let m = and_both (int_lt r.start r.end) (int_lt r.next r.end) k.0 in
    let t = go_both rs k.1 in
    (ap₂ (λ a b. a && b) m.0 t.0, ap₂ (λ a b. a && b) m.1 t.1)

go_if : (rs : List Range) → have_numbers rs ≡ true → are_within rs ≡ true → all_go rs ≡ true
go_if [] h w = refl
go_if (r ∷ rs) h w =
    let k = and_both (int_lt r.start r.end) (have_numbers rs) h in
    let m = and_both (int_lt r.next r.end) (are_within rs) w in
    ap₂ (λ a b. a && b) (ap₂ (λ a b. a && b) k.0 m.0) (go_if rs k.1 m.1)

pub next_run : (g : Gang) (rs : List Range) → is_ready rs ≡ true → runs_left (gang_width g) rs ≡ run_now (gang_width g) rs ∷ runs_left (gang_width g) (advanced (gang_width g) rs)
next_run g [] h = absurd (let k : ⊥ = cc in k)
next_run g (r ∷ rs) h =
    let both = go_both (r ∷ rs) h in
    let n = gang_width g in
    ap (λ b. cond b (left_of n (r ∷ rs)) []) both.0
    ∙ left_within g r rs both.1
    ∙ ap (λ b. run_now n (r ∷ rs) ∷ cond b (left_of n (advanced n (r ∷ rs))) []) (sym (numbers_advanced n (r ∷ rs) ∙ both.0))

-- ---- the end

pub no_next_run : (g : Gang) (rs : List Range) → tail_within rs ≡ true → is_ready rs ≡ false → runs_left (gang_width g) rs ≡ []
no_next_run g [] w h = refl
no_next_run g (r ∷ rs) w h = by (have_numbers (r ∷ rs)) (int_lt r.next r.end) (are_within rs) refl refl refl w
  where
    by : (a b d : Bool) → have_numbers (r ∷ rs) ≡ a → int_lt r.next r.end ≡ b → are_within rs ≡ d → not a || d ≡ true → runs_left (gang_width g) (r ∷ rs) ≡ []
    by true true true e f k w = absurd (let z : true ≡ false = sym (go_if (r ∷ rs) e (ap₂ (λ a b. a && b) f k)) ∙ h in let y : ⊥ = cc in y)
    by true true false e f k w = absurd (let z : ⊥ = cc in z)
    by true false d e f k w = ap (λ b. cond b (left_of (gang_width g) (r ∷ rs)) []) e ∙ spent g r rs f
    by false b d e f k w = ap (λ b. cond b (left_of (gang_width g) (r ∷ rs)) []) e

-- ---- the loop that carries, from the last range on

-- those from one on are within, where all have numbers
abbrev pub within_from : ℕ → List Range → Bool
within_from k rs = not (have_numbers rs) || are_within (drop k rs)

numbers_drop : (k : ℕ) (rs : List Range) → have_numbers rs ≡ true → have_numbers (drop k rs) ≡ true
numbers_drop zero rs h = h
numbers_drop (suc k) [] h = h
numbers_drop (suc k) (r ∷ rs) h = numbers_drop k rs (and_both (int_lt r.start r.end) (have_numbers rs) h).1

dropped_carried : (k : ℕ) (rs : List Range) → drop (suc k) (carried k rs) ≡ map at_start (drop (suc k) rs)
dropped_carried zero [] = refl
dropped_carried (suc k) [] = refl
dropped_carried zero (r ∷ rs) = refl
dropped_carried (suc k) (r ∷ rs) = dropped_carried k rs

or_if : (a b : Bool) → (a ≡ true → b ≡ true) → not a || b ≡ true
or_if true b f = f refl
or_if false b f = refl

if_or : (a b : Bool) → not a || b ≡ true → a ≡ true → b ≡ true
if_or true b h e = h
if_or false b h e = absurd (let z : ⊥ = cc in z)

-- after the last nothing is left
pub within_end : (rs : List Range) (n : ℕ) → length rs ≤ n → within_from n rs ≡ true
within_end rs n h = or_if (have_numbers rs) (are_within (drop n rs)) (λ e. none rs n h)
  where
    none : (rs : List Range) (n : ℕ) → length rs ≤ n → are_within (drop n rs) ≡ true
    none [] zero h = refl
    none [] (suc n) h = refl
    none (r ∷ rs) zero h = absurd (omega (arith, h))
    none (r ∷ rs) (suc n) h = none rs n (omega (arith, h))

-- numbers have carried
pub within_carried : (k : ℕ) (rs : List Range) → within_from (suc k) (carried k rs) ≡ true
within_carried k rs =
    or_if (have_numbers (carried k rs)) (are_within (drop (suc k) (carried k rs)))
    (λ e. ap are_within (dropped_carried k rs) ∙ within_at_start (drop (suc k) rs) ∙ numbers_drop (suc k) rs (sym (numbers_carried k rs) ∙ e))

-- one more range is within
pub within_more : (k : ℕ) (rs : List Range) (x : Range) → k < length rs → x ≡ get_or rs k x → int_lt x.next x.end ≡ true → within_from (suc k) rs ≡ true → within_from k rs ≡ true
within_more k rs x h is some w =
    or_if (have_numbers rs) (are_within (drop k rs)) (λ e. more k rs h is (if_or (have_numbers rs) (are_within (drop (suc k) rs)) w e))
  where
    more : (k : ℕ) (rs : List Range) → k < length rs → x ≡ get_or rs k x → are_within (drop (suc k) rs) ≡ true → are_within (drop k rs) ≡ true
    more k [] h is w = absurd (omega (arith, h))
    more zero (r ∷ rs) h is w = ap₂ (λ a b. a && b) (ap (λ (z : Range). int_lt z.next z.end) (sym is) ∙ some) w
    more (suc k) (r ∷ rs) h is w = more k rs (omega (arith, h)) is w

pub within_tail : (k : ℕ) (rs : List Range) → k ≤ 1 → within_from k rs ≡ true → tail_within rs ≡ true
within_tail zero [] h w = refl
within_tail zero (r ∷ rs) h w = or_if (have_numbers (r ∷ rs)) (are_within rs) (λ e. (and_both (int_lt r.next r.end) (are_within rs) (if_or (have_numbers (r ∷ rs)) (are_within (r ∷ rs)) w e)).1)
within_tail (suc zero) rs h w = w
within_tail (suc (suc k)) rs h w = absurd (omega (arith, h))

-- ---- the loop that begins ranges again

abbrev pub restarted_to : ℕ → ℕ → List Range → List Range
restarted_to f n [] = []
restarted_to zero zero (r ∷ rs) = r ∷ rs
restarted_to zero (suc n) (r ∷ rs) = at_start r ∷ restarted_to zero n rs
restarted_to (suc f) n (r ∷ rs) = r ∷ restarted_to f n rs

pub none_restarted : (f : ℕ) (rs : List Range) → restarted_to f 0 rs ≡ rs
none_restarted zero [] = refl
none_restarted (suc f) [] = refl
none_restarted zero (r ∷ rs) = refl
none_restarted (suc f) (r ∷ rs) = ap (λ xs. r ∷ xs) (none_restarted f rs)

pub restarted_long : (f n : ℕ) (rs : List Range) → length (restarted_to f n rs) ≡ length rs
restarted_long zero zero [] = refl
restarted_long zero (suc n) [] = refl
restarted_long (suc f) n [] = refl
restarted_long zero zero (r ∷ rs) = refl
restarted_long zero (suc n) (r ∷ rs) = ap suc (restarted_long zero n rs)
restarted_long (suc f) n (r ∷ rs) = ap suc (restarted_long f n rs)

pub one_restarted : (f n k : ℕ) (rs : List Range) (x y : Range) (z : ℤ) → k ≡ f + n → k < length rs → x ≡ get_or (restarted_to f n rs) k x
    → y ≡ get_or (restarted_to f n rs) k y → z ≡ x.start → set (restarted_to f n rs) k (record y { next = z }) ≡ restarted_to f (suc n) rs
one_restarted f n k [] x y z e h is at m = absurd (omega (arith, h))
one_restarted zero zero zero (r ∷ rs) x y z e h is at m =
    ap₂ (λ (u : Range) (v : ℤ). record u { next = v } ∷ rs) at (m ∙ ap (λ (u : Range). u.start) is) ∙ ap (λ (ys : List Range). at_start r ∷ ys) (sym (none_restarted zero rs))
one_restarted zero zero (suc k) (r ∷ rs) x y z e h is at m = absurd (omega (arith, e))
one_restarted zero (suc n) zero (r ∷ rs) x y z e h is at m = absurd (omega (arith, e))
one_restarted zero (suc n) (suc k) (r ∷ rs) x y z e h is at m = ap (λ ys. at_start r ∷ ys) (one_restarted zero n k rs x y z (omega (arith, e)) (omega (arith, h)) is at m)
one_restarted (suc f) n zero (r ∷ rs) x y z e h is at m = absurd (omega (arith, e))
one_restarted (suc f) n (suc k) (r ∷ rs) x y z e h is at m = ap (λ ys. r ∷ ys) (one_restarted f n k rs x y z (omega (arith, e)) (omega (arith, h)) is at m)

pub all_restarted : (f n : ℕ) (rs : List Range) → length rs ≤ f + n → restarted_to f n rs ≡ restarted f rs
all_restarted zero n [] h = by n
  where
    by : (n : ℕ) → restarted_to zero n [] ≡ restarted zero []
    by zero = refl
    by (suc n) = refl
all_restarted (suc f) n [] h = refl
all_restarted zero zero (r ∷ rs) h = absurd (omega (arith, h))
all_restarted zero (suc n) (r ∷ rs) h = ap (λ ys. at_start r ∷ ys) (all_restarted zero n rs (omega (arith, h)))
all_restarted (suc f) n (r ∷ rs) h = ap (λ ys. r ∷ ys) (all_restarted f n rs (omega (arith, h)))

-- ---- the last range

pub nobody_on : (g : ℕ) (rs : List Range) → length rs ≡ 0 → members_now g rs ≡ nobody
nobody_on g [] h = refl
nobody_on g (r ∷ rs) h = absurd (omega (arith, h))

pub not_on : (g p : ℕ) (rs : List Range) → length rs ≡ 0 → members_now g rs p ≡ false
not_on g p rs h = ap (λ (f : Mask). f p) (nobody_on g rs h)

pub last_on : (g k : ℕ) (rs : List Range) (x : Range) → 0 < length rs → k ≡ length rs - 1 → x ≡ get_or rs k x → numbers_below g x.next x.end ≡ members_now g rs
last_on g k [] x h e is = absurd (omega (arith, h))
last_on g zero (r ∷ []) x h e is = ap (λ (z : Range). numbers_below g z.next z.end) is
last_on g (suc k) (r ∷ []) x h e is = absurd (omega (arith, e))
last_on g zero (r ∷ q ∷ rs) x h e is = absurd (omega (arith, e))
last_on g (suc k) (r ∷ q ∷ rs) x h e is = last_on g k (q ∷ rs) x (omega arith) (omega (arith, e)) is

pub last_advanced : (g k : ℕ) (rs : List Range) (x y : Range) (z : ℤ) → 0 < length rs → k ≡ length rs - 1 → x ≡ get_or rs k x → y ≡ get_or rs k y → z ≡ stepped x (pos g) → set rs k (record y { next = z }) ≡ advanced g rs
last_advanced g k [] x y z h e is at m = absurd (omega (arith, h))
last_advanced g zero (r ∷ []) x y z h e is at m = ap₂ (λ (u : Range) (v : ℤ). record u { next = v } ∷ []) at (m ∙ ap (λ (u : Range). stepped u (pos g)) is)
last_advanced g (suc k) (r ∷ []) x y z h e is at m = absurd (omega (arith, e))
last_advanced g zero (r ∷ q ∷ rs) x y z h e is at m = absurd (omega (arith, e))
last_advanced g (suc k) (r ∷ q ∷ rs) x y z h e is at m = ap (λ ys. r ∷ ys) (last_advanced g k (q ∷ rs) x y z (omega arith) (omega (arith, e)) is at m)

pub none_advanced : (g : ℕ) (rs : List Range) → length rs ≡ 0 → rs ≡ advanced g rs
none_advanced g [] h = refl
none_advanced g (r ∷ rs) h = absurd (omega (arith, h))

pub below_made : (n : ℕ) (z end : ℤ) (xs : List Bool) → Made false (numbers_below n z end) xs n → flag_of xs ≡ numbers_below n z end
below_made n z end xs m = made false (numbers_below n z end) xs n m (λ p h. ap (λ b. b && int_lt (z +ℤ pos p) end) (le-ltb p n h))

-- ---- whether all can go

pub go_rest : (k : ℕ) (rs : List Range) (x : Range) → k < length rs → x ≡ get_or rs k x → all_go (drop k rs) ≡ goes x && all_go (drop (suc k) rs)
go_rest k [] x h is = absurd (omega (arith, h))
go_rest zero (r ∷ rs) x h is = ap (λ (z : Range). goes z && all_go rs) (sym is)
go_rest (suc k) (r ∷ rs) x h is = go_rest k rs x (omega (arith, h)) is

pub go_end : (n : ℕ) (rs : List Range) → length rs ≤ n → all_go (drop n rs) ≡ true
go_end zero [] h = refl
go_end (suc n) [] h = refl
go_end zero (r ∷ rs) h = absurd (omega (arith, h))
go_end (suc n) (r ∷ rs) h = go_end n rs (omega (arith, h))

started_long : (rs : List Range) → length (map at_start rs) ≡ length rs
started_long [] = refl
started_long (r ∷ rs) = ap suc (started_long rs)

pub carried_long : (k : ℕ) (rs : List Range) → length (carried k rs) ≡ length rs
carried_long zero [] = refl
carried_long (suc k) [] = refl
carried_long zero (r ∷ rs) = ap suc (started_long rs)
carried_long (suc k) (r ∷ rs) = ap suc (carried_long k rs)
