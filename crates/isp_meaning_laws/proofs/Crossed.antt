-- From which instance a value comes, and what several come to together.
use Rattle.std.proofs.Common.{◌≡◌, refl, sym, ap, ◌∙◌, ⊎_elim, ℕ, zero, suc, ◌+◌, ◌-◌, ◌*◌, ◌%◌, ◌^◌, ◌<◌, ◌≤◌, Bool, true, false, arith, mod-eq_of_lt, pow_pos, true≢false, eq-eqb}
use Rattle.std.proofs.lemmas.Bool.{cases_eq, cond-true, cond-false, ne_eqb}
use Rattle.std.proofs.lemmas.Bool.Decides.{nat_tests}
use Rattle.std.proofs.lemmas.Int.{ints, int_rem_euclid_is}
use Rattle.std.proofs.lemmas.Nat.{and_comm, mod-mul-add}
use Rattle.std.proofs.Math.Nat.{mod-add-mod}
use lib.Bits.{and_mask}
use Rattle.std.specs.Prelude.{Option, Some, None, ◌&&◌, nat_eq, nat_lt, if◌then◌else◌, ℤ, pos, negsuc, ◌+ℤ◌, unsigned_abs}
use Rattle.std.specs.Int.Bits.{or_zero_l}
use Rattle.isp_base.proofs.Words.{word_add, word_and, word_or, low_of}
use Rattle.isp_base.specs.Cross.{or_zero, instance, within, and_this, fold_below, exclusive_scan, reduce_equal, all_of, best}
use Rattle.isp_base.specs.Maps.{Map}
use Rattle.isp_base.specs.Ranks.{widened}
use Rattle.isp_base.specs.Sets.{Mask}
use Rattle.isp_base.specs.Values.{width, number, wrap, wrap_to, op_bits}
use Rattle.isp_base.specs.declared.operators.BinOp.{BinOp}
use Rattle.isp_base.specs.declared.operators.BinOp.TheVariants.{Add, And, Or}
use Rattle.isp_base.specs.declared.types.Elem.{Elem}
use Rattle.isp_meaning.specs.Payloads.{except}
use Rattle.isp_meaning_laws.specs.Crossings.{AreMoved, only, Leaves, AreCombined}

-- ---- which instance a whole number names

below_n : (n i : ℕ) → i < n → instance n (pos i) ≡ i
below_n n i lt = mod-eq_of_lt lt

next_is : (n p : ℕ) → suc p < n → instance n (pos p +ℤ pos 1) ≡ suc p
next_is n p lt = let e : pos p +ℤ pos 1 ≡ pos (suc p) = omega (arith, ints) in ap (instance n) e ∙ below_n n (suc p) lt

last_is : (n : ℕ) → instance (suc n) (pos n +ℤ pos 1) ≡ 0
last_is n =
    let e : pos n +ℤ pos 1 ≡ pos (1 * suc n + 0) = omega (arith, ints) in
    ap (instance (suc n)) e ∙ mod-mul-add 1 (suc n) 0 (omega arith)

-- so many turns up, a whole number is a natural
record Lifted (n : ℕ) (z : ℤ) : Type 0 where
  turns : ℕ
  rest : ℕ
  is : z +ℤ pos (turns * n) ≡ pos rest

lifted : (n : ℕ) (z : ℤ) → 0 < n → Lifted n z
lifted n (pos m) h = record { turns = 0; rest = m; is = omega (arith, ints) }
lifted n (negsuc m) h = record { turns = suc m; rest = suc m * n - suc m; is = by } where
  by : negsuc m +ℤ pos (suc m * n) ≡ pos (suc m * n - suc m)
  by = let le : suc m ≤ suc m * n = more (suc m) n h in omega (arith, ints, le)
    where
      more : (a b : ℕ) → 0 < b → a ≤ a * b
      more zero b h = omega arith
      more (suc a) b h = let r = more a b h in let e : suc a * b ≡ a * b + b = omega arith in omega (arith, r, e, h)

instance_at : (n : ℕ) (z : ℤ) (turns rest : ℕ) → 0 < n → z +ℤ pos (turns * n) ≡ pos rest → instance n z ≡ rest % n
instance_at n z turns rest h e = ap unsigned_abs (int_rem_euclid_is z (pos n) n turns rest h refl e)

around : (n : ℕ) (y j : ℤ) → 0 < n → instance n (y +ℤ j) ≡ instance n (pos (instance n y) +ℤ j)
around n y j h =
    let l = lifted n y h in
    let m = lifted n j h in
    let here : instance n y ≡ l.rest % n = instance_at n y l.turns l.rest h l.is in
    let e : (l.turns + m.turns) * n ≡ l.turns * n + m.turns * n = omega arith in
    let i = l.is in
    let k = m.is in
    let whole : instance n (y +ℤ j) ≡ (l.rest + m.rest) % n = instance_at n (y +ℤ j) (l.turns + m.turns) (l.rest + m.rest) h (omega (arith, ints, i, k, e)) in
    let part : instance n (pos (l.rest % n) +ℤ j) ≡ (l.rest % n + m.rest) % n = instance_at n (pos (l.rest % n) +ℤ j) m.turns (l.rest % n + m.rest) h (omega (arith, ints, k)) in
    whole ∙ (sym (mod-add-mod l.rest n m.rest) ∙ (sym part ∙ ap (λ q. instance n (pos q +ℤ j)) (sym here)))

within_at : (n : ℕ) (x : Map) (z : ℤ) (p : ℕ) → z ≡ pos p → within n x z ≡ (if nat_lt p n then or_zero (x p) else 0)
within_at n x z p e = ap (within n x) e

test_true : (p n : ℕ) → p < n → nat_lt p n ≡ true
test_true p n lt = grind (arith, lt, nat_tests)

test_false : (n : ℕ) → nat_lt n n ≡ false
test_false n = grind (arith, nat_tests)

pub are_moved : AreMoved
are_moved = record {
  rotate_next = λ n x p lt. ap (λ i. or_zero (x i)) (next_is n p lt);
  rotate_last = λ n x. ap (λ i. or_zero (x i)) (last_is n);
  rotate_twice = λ n x j k p h. ap (λ i. or_zero (x i)) (twice n j k p h);
  shift_next = λ n x p lt. within_at n x (pos p +ℤ pos 1) (suc p) (omega (arith, ints)) ∙ cond-true (nat_lt (suc p) n) (or_zero (x (suc p))) 0 (test_true (suc p) n lt);
  shift_last = λ n x. within_at (suc n) x (pos n +ℤ pos 1) (suc n) (omega (arith, ints)) ∙ cond-false (nat_lt (suc n) (suc n)) (or_zero (x (suc n))) 0 (test_false (suc n));
  broadcast = λ n x i p lt. ap (λ q. or_zero (x q)) (below_n n i lt);
  extract = λ n x i lt. ap (λ q. or_zero (x q)) (below_n n i lt);
  insert_there = λ n x i v lt. cond-true (nat_eq i (instance n (pos i))) v (or_zero (x i)) (eq-eqb i (instance n (pos i)) (sym (below_n n i lt)));
  insert_elsewhere = λ n x i v p lt ne. cond-false (nat_eq p (instance n (pos i))) v (or_zero (x p)) (ne_eqb p (instance n (pos i)) (λ e. ne (e ∙ below_n n i lt)));
} where
  twice : (n : ℕ) (j k : ℤ) (p : ℕ) → 0 < n → instance n (pos p +ℤ (j +ℤ k)) ≡ instance n (pos (instance n (pos p +ℤ k)) +ℤ j)
  twice n j k p h = let e : pos p +ℤ (j +ℤ k) ≡ pos p +ℤ k +ℤ j = omega (arith, ints) in ap (instance n) e ∙ around n (pos p +ℤ k) j h

-- ---- scans

zero_fits : (t : Elem) → 0 < 2 ^ width t
zero_fits t = pow_pos (width t)

ones_fit : (t : Elem) → 2 ^ width t - 1 < 2 ^ width t
ones_fit t = let h = pow_pos (width t) in omega (arith, h)

leaves_add : (t : Elem) → Leaves Add t
leaves_add t b lt =
    let e : 0 + b ≡ b = omega arith in
    sym (word_add t 0 b (zero_fits t) lt) ∙ (low_of t (0 + b) ∙ (ap (λ n. n % 2 ^ width t) e ∙ mod-eq_of_lt lt))

leaves_and : (t : Elem) → Leaves And t
leaves_and t b lt = sym (word_and t (2 ^ width t - 1) b (ones_fit t) lt) ∙ (and_comm (2 ^ width t - 1) b ∙ (and_mask b (width t) ∙ mod-eq_of_lt lt))

leaves_or : (t : Elem) → Leaves Or t
leaves_or t b lt = sym (word_or t 0 b (zero_fits t) lt) ∙ or_zero_l b

scan_step : (op : BinOp) (t : Elem) (x : Map) (p : ℕ) (o : Option ℕ) → x p ≡ o → exclusive_scan op t x (suc p) ≡ and_this (op_bits op t) (exclusive_scan op t x p) o
scan_step op t x p o e = ap (and_this (op_bits op t) (exclusive_scan op t x p)) e

-- ---- sums

module _ (t : Elem) where
  abbrev plus : ℤ → ℕ → ℤ
  plus s b = s +ℤ number t b

  abbrev sum_below : Map → ℕ → ℤ
  sum_below x n = fold_below plus (pos 0) x n

  none_below : (x : Map) (n : ℕ) → ((q : ℕ) → q < n → x q ≡ None) → sum_below x n ≡ pos 0
  none_below x zero h = refl
  none_below x (suc n) h = ap (and_this plus (sum_below x n)) (h n (omega arith)) ∙ none_below x n (λ q lt. h q (omega (arith, lt)))

  alone : (x : Map) (p b : ℕ) → x p ≡ Some b → ((q : ℕ) → (q ≡ p → ⊥) → x q ≡ None) → (n : ℕ) → p < n → sum_below x n ≡ number t b
  alone x p b e h zero lt = absurd (omega (arith, lt))
  alone x p b e h (suc n) lt = ⊎_elim here (λ ne. further ne (alone x p b e h n (omega (arith, lt, ne)))) (cases_eq p n) where
    here : p ≡ n → sum_below x (suc n) ≡ number t b
    here i =
        ap (and_this plus (sum_below x n)) (ap x (sym i) ∙ e)
        ∙ (ap (λ z. z +ℤ number t b) (none_below x n (λ q less. h q (λ k. omega (arith, less, i, k)))) ∙ omega (arith, ints))

    further : (p ≡ n → ⊥) → sum_below x n ≡ number t b → sum_below x (suc n) ≡ number t b
    further ne r = ap (and_this plus (sum_below x n)) (h n (λ k. ne (sym k))) ∙ r

  parts : (x : Map) (a : Mask) (n : ℕ) → sum_below x n ≡ sum_below (only x a) n +ℤ sum_below (except x a) n
  parts x a zero = refl
  parts x a (suc n) = step (sum_below x n) (sum_below (only x a) n) (sum_below (except x a) n) (parts x a n) (a n) (x n) where
    step : (s u v : ℤ) → s ≡ u +ℤ v → (c : Bool) (o : Option ℕ) → and_this plus s o ≡ and_this plus u (if c then o else None) +ℤ and_this plus v (if c then None else o)
    step s u v e true None = e
    step s u v e false None = e
    step s u v e true (Some b) = omega (arith, ints, e)
    step s u v e false (Some b) = omega (arith, ints, e)

-- residues add up
wrap_sum : (w : ℕ) (a b : ℤ) → wrap_to w (a +ℤ b) ≡ wrap_to w (pos (wrap_to w a) +ℤ pos (wrap_to w b))
unfolding wrap_to
wrap_sum w a b =
    let some = pow_pos w in
    let e : b +ℤ pos (instance (2 ^ w) a) ≡ pos (instance (2 ^ w) a) +ℤ b = omega (arith, ints) in
    let f : pos (instance (2 ^ w) b) +ℤ pos (instance (2 ^ w) a) ≡ pos (instance (2 ^ w) a) +ℤ pos (instance (2 ^ w) b) = omega (arith, ints) in
    around (2 ^ w) a b some ∙ (ap (instance (2 ^ w)) (sym e) ∙ (around (2 ^ w) b (pos (instance (2 ^ w) a)) some ∙ ap (instance (2 ^ w)) f))

-- ---- equal values

first_of : Map → ℕ → Option ℕ
first_of x n = fold_below (best (λ a z. a)) None x n

and_left : (c d : Bool) → (c && d) ≡ true → c ≡ true
and_left true d e = refl
and_left false d e = e

and_right : (c d : Bool) → (c && d) ≡ true → d ≡ true
and_right true d e = e
and_right false d e = absurd (true≢false (sym e))

both_true : (c d : Bool) → c ≡ true → d ≡ true → (c && d) ≡ true
both_true c d e f = rw (e, f)

-- each value passes a test that all pass
each_passes : (test : ℕ → Bool) (x : Map) (n p b : ℕ) → all_of test n x ≡ true → p < n → x p ≡ Some b → test b ≡ true
each_passes test x zero p b e lt i = absurd (omega (arith, lt))
each_passes test x (suc n) p b e lt i = ⊎_elim here (λ ne. each_passes test x n p b (go (x n) e) (omega (arith, lt, ne)) i) (cases_eq p n) where
  go : (o : Option ℕ) → and_this (λ a c. a && test c) (all_of test n x) o ≡ true → all_of test n x ≡ true
  go None h = h
  go (Some c) h = and_left (all_of test n x) (test c) h

  here : p ≡ n → test b ≡ true
  here k = and_right (all_of test n x) (test b) (sym (ap (and_this (λ a c. a && test c) (all_of test n x)) (ap x (sym k) ∙ i)) ∙ e)

all_pass : (test : ℕ → Bool) (x : Map) (n : ℕ) → ((p b : ℕ) → p < n → x p ≡ Some b → test b ≡ true) → all_of test n x ≡ true
all_pass test x zero h = refl
all_pass test x (suc n) h = go (all_pass test x n (λ p b lt i. h p b (omega (arith, lt)) i)) (x n) refl where
  go : all_of test n x ≡ true → (o : Option ℕ) → x n ≡ o → and_this (λ a c. a && test c) (all_of test n x) o ≡ true
  go below None i = below
  go below (Some c) i = both_true (all_of test n x) (test c) below (h n c (omega arith) i)

-- the first value is one of them
abbrev IsOf : Map → ℕ → Option ℕ → Type 0
IsOf x n None = (p : ℕ) → p < n → x p ≡ None
IsOf x n (Some b) = (p : ℕ) × (p < n) × (x p ≡ Some b)

first_is : (x : Map) (n : ℕ) → IsOf x n (first_of x n)
unfolding first_of
first_is x zero = λ p lt. absurd (omega (arith, lt))
first_is x (suc n) = go (fold_below (best (λ a z. a)) None x n) (first_is x n) (x n) refl where
  go : (o : Option ℕ) → IsOf x n o → (v : Option ℕ) → x n ≡ v → IsOf x (suc n) (and_this (best (λ a z. a)) o v)
  go None h None e = λ p lt. ⊎_elim (λ k. ap x k ∙ e) (λ ne. h p (omega (arith, lt, ne))) (cases_eq p n)
  go None h (Some c) e = (n, omega arith, e)
  go (Some b) h None e = let lt = h.1 in (h.0, omega (arith, lt), h.2)
  go (Some b) h (Some c) e = let lt = h.1 in (h.0, omega (arith, lt), h.2)

equal : (n : ℕ) (x : Map) (p q b c : ℕ) → reduce_equal n x ≡ true → p < n → q < n → x p ≡ Some b → x q ≡ Some c → b ≡ c
unfolding first_of
equal n x p q b c e lt less i k =
    let one : nat_eq b (or_zero (first_of x n)) ≡ true = each_passes _ x n p b e lt i in
    let other : nat_eq c (or_zero (first_of x n)) ≡ true = each_passes _ x n q c e less k in
    grind (arith, one, other, nat_tests)

all_equal : (n : ℕ) (x : Map) → ((p q b c : ℕ) → p < n → q < n → x p ≡ Some b → x q ≡ Some c → b ≡ c) → reduce_equal n x ≡ true
unfolding first_of
all_equal n x h = all_pass _ x n (λ p b lt i. eq-eqb b (or_zero (first_of x n)) (by p b lt i (first_of x n) (first_is x n))) where
  by : (p b : ℕ) → p < n → x p ≡ Some b → (o : Option ℕ) → IsOf x n o → b ≡ or_zero o
  by p b lt i None k = let none = k p lt in absurd (cc (i, none))
  by p b lt i (Some c) k = h p k.0 b c lt k.1 i k.2

pub are_combined : AreCombined
are_combined = record {
  scan_next = λ op t x p b e. scan_step op t x p (Some b) e;
  scan_off = λ op t x p e. scan_step op t x p None e;
  scan_first = λ op t x. refl;
  neutral_add = leaves_add;
  neutral_and = leaves_and;
  neutral_or = leaves_or;
  sum_alone = λ t n x p b lt e h. ap (wrap (widened t)) (alone t x p b e h n lt);
  sum_parts = λ t n x a. ap (wrap (widened t)) (parts t x a n) ∙ wrap_sum (width (widened t)) (sum_below t (only x a) n) (sum_below t (except x a) n);
  equal = equal;
  all_equal = all_equal;
}
