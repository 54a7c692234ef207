-- Functions that are changed at places.
use Rattle.std.proofs.Common.{◌≡◌, refl, sym, ap, ◌∙◌, ℕ, ◌+◌, ◌<◌, ◌≤◌, Bool, true, false, List, Option, Some, None, nat_eq, nat_lt, ⊎_elim, eq-eqb, ne_eqb, add-one, arith, length, get_or, lt-ltb}
use Rattle.std.proofs.Math.Path.{fun_ext}
use Rattle.std.proofs.lemmas.Bool.{cases_eq, cases_lt, le-ltb}
use Rattle.std.specs.Prelude.{if◌then◌else◌, slice_set}
use Rattle.std.proofs.lemmas.List.{get_or-set_other, get_or-set_same}
use Rattle.isp_base.specs.Access.{put_at, scatter}
use Rattle.isp_base.specs.Maps.{Map, Lanes, put, lane_of, holds, or_old, each1}
use Rattle.isp_base.specs.Sets.{Mask, flag_of}
use Rattle.isp_base.specs.Types.{widest}
use Rattle.isp_gang_values.specs.Growing.{lanes_of}
use Rattle.isp_gang_values.proofs.Vectors.{at_there, at_past, written}
use Rattle.isp_gang_values.specs.Seen.{map_of}
use Rattle.isp_gang_values.proofs.Made.{Made, made, past}
use Rattle.isp_gang_arrays.specs.Stores.{with_zeros, put_own_at}
use Rattle.isp_meaning.specs.Places.{own_stored}

module _ {A : Type 0} (f : ℕ → A) (n : ℕ) where
  pub put_there : (x : A) → put f n x n ≡ x
  put_there x = ap (λ b. if b then x else f n) (eq-eqb n n refl)

  pub put_apart : (x : A) (p : ℕ) → (p ≡ n → ⊥) → put f n x p ≡ f p
  put_apart x p ne = ap (λ b. if b then x else f p) (ne_eqb p n ne)

  pub put_same : (x : A) → x ≡ f n → put f n x ≡ f
  put_same x e = fun_ext (λ p. ⊎_elim (λ (h : p ≡ n). ap (put f n x) h ∙ put_there x ∙ e ∙ ap f (sym h)) (λ ne. put_apart x p ne) (cases_eq p n))

twice : {A : Type 0} (b : Bool) (x y z : A) → (if b then y else (if b then x else z)) ≡ (if b then y else z)
twice true x y z = refl
twice false x y z = refl

pub put_twice : {A : Type 0} (f : ℕ → A) (n : ℕ) (x y : A) → put (put f n x) n y ≡ put f n y
put_twice f n x y = fun_ext (λ p. twice (nat_eq p n) x y (f p))

-- ---- scattered: the first instances have stored

pub scatter_begins : (f : ℕ → Lanes) (n : ℕ) (x y : Map) → f ≡ put f n (scatter 0 x y (f n))
scatter_begins f n x y = sym (put_same f n (f n) refl)

-- one more change of an inner function
pub change_again : {A : Type 0} (f g r : ℕ → A) (n : ℕ) (h : A) (change : A → A) → g ≡ put f n h → r ≡ put g n (change (g n)) → r ≡ put f n (change h)
change_again f g r n h change e is =
    is ∙ ap (λ k. put k n (change (k n))) e ∙ put_twice f n h (change (put f n h n)) ∙ ap (λ k. put f n (change k)) (put_there f n h)

pub scatter_next : (f g r : ℕ → Lanes) (n i : ℕ) (x y : Map) → g ≡ put f n (scatter i x y (f n)) → r ≡ put g n (put_at (x i) (y i) (g n)) → r ≡ put f n (scatter (i + 1) x y (f n))
scatter_next f g r n i x y e is = change_again f g r n (scatter i x y (f n)) (put_at (x i) (y i)) e is ∙ ap (put f n) (sym (ap (λ k. scatter k x y (f n)) (add-one i)))

-- ---- each in its own: the first instances have stored

abbrev pub own_part : ℕ → Map → Map → (ℕ → Lanes) → ℕ → Lanes
own_part i x y f e p = if nat_lt p i then own_stored x y f e p else f e p

-- ---- rows that are made place by place

pub own_made : (f : ℕ → Lanes) (xs zs : List (Option ℕ)) → length xs ≡ widest → Made None (λ p. each1 (λ x. f x p) (map_of xs p)) zs widest → map_of zs ≡ (λ p. each1 (λ x. f x p) (map_of xs p))
own_made f xs zs long m = made None _ zs widest m (λ p h. ap (each1 (λ x. f x p)) (past xs p None (omega (arith, long, h))))

pub zeros_made : (set : List Bool) (xs zs : List ℕ) → length xs ≡ widest → Made 0 (with_zeros (flag_of set) (lane_of xs)) zs widest → lane_of zs ≡ with_zeros (flag_of set) (lane_of xs)
zeros_made set xs zs long m = made 0 _ zs widest m (λ p h. ap (λ n. if flag_of set p then 0 else n) (past xs p 0 (omega (arith, long, h))) ∙ same (flag_of set p))
  where
    same : (b : Bool) → ◌≡◌ {A = ℕ} (if b then 0 else 0) 0
    same true = refl
    same false = refl

-- ---- each in its own

either : (b : Bool) (n : ℕ) → n ≡ (if b then n else n)
either true n = refl
either false n = refl

module _ (x y : Map) (k : ℕ → Lanes) where
  pub own_before : (i e p : ℕ) → i ≤ p → own_part i x y k e p ≡ k e p
  own_before i e p h = ap (λ b. if b then own_stored x y k e p else k e p) (le-ltb p i h)

  pub own_after : (i e p : ℕ) → p < i → own_part i x y k e p ≡ own_stored x y k e p
  own_after i e p h = ap (λ b. if b then own_stored x y k e p else k e p) (lt-ltb p i h)

  pub own_begins : own_part 0 x y k ≡ k
  own_begins = fun_ext (λ e. fun_ext (λ p. own_before 0 e p (omega arith)))

  own_next : (i : ℕ) (z : ℕ → Lanes) → ((e p : ℕ) → (p ≡ i → ⊥) → z e p ≡ own_part i x y k e p) → ((e : ℕ) → z e i ≡ own_stored x y k e i) → z ≡ own_part (i + 1) x y k
  own_next i z apart here =
      fun_ext (λ e. fun_ext (λ p. ⊎_elim
      (λ (h : p ≡ i). ap (z e) h ∙ here e ∙ sym (ap (own_part (i + 1) x y k e) h ∙ own_after (i + 1) e i (omega arith)))
      (λ ne. apart e p ne ∙ ⊎_elim (λ (h : p < i). own_after i e p h ∙ sym (own_after (i + 1) e p (omega arith))) (λ h. own_before i e p h ∙ sym (own_before (i + 1) e p (omega (arith, ne, h)))) (cases_lt p i))
      (cases_eq p i)))

  pub own_no_place : (i : ℕ) → x i ≡ None → own_part i x y k ≡ own_part (i + 1) x y k
  own_no_place i h = own_next i (own_part i x y k) (λ e p ne. refl) (λ e. own_before i e i (omega arith) ∙ sym (ap (λ o. if holds (λ j. nat_eq j e) o then or_old (y i) (k e i) else k e i) h))

  pub own_no_value : (i : ℕ) → y i ≡ None → own_part i x y k ≡ own_part (i + 1) x y k
  own_no_value i h =
      own_next i (own_part i x y k) (λ e p ne. refl)
      (λ e. own_before i e i (omega arith) ∙ either (holds (λ j. nat_eq j e) (x i)) (k e i) ∙ sym (ap (λ o. if holds (λ j. nat_eq j e) (x i) then or_old o (k e i) else k e i) h))

  pub own_some : (i place bits : ℕ) → x i ≡ Some place → y i ≡ Some bits → put (own_part i x y k) place (put (own_part i x y k place) i bits) ≡ own_part (i + 1) x y k
  own_some i place bits hx hy =
      let h = own_part i x y k in
      own_next i (put h place (put (h place) i bits))
      (λ e p ne. ⊎_elim (λ (t : e ≡ place). ap (λ d. put h place (put (h place) i bits) d p) t
      ∙ ap (λ d. d p) (put_there h place (put (h place) i bits)) ∙ put_apart (h place) i bits p ne ∙ ap (λ d. h d p) (sym t))
      (λ far. ap (λ d. d p) (put_apart h place (put (h place) i bits) e far)) (cases_eq e place))
      (λ e. ⊎_elim
      (λ (t : e ≡ place). ap (λ d. put h place (put (h place) i bits) d i) t ∙ ap (λ d. d i) (put_there h place (put (h place) i bits)) ∙ put_there (h place) i bits
      ∙ sym (ap (λ d. own_stored x y k d i) t ∙ ap (λ o. if holds (λ j. nat_eq j place) o then or_old (y i) (k place i) else k place i) hx
      ∙ ap (λ b. if b then or_old (y i) (k place i) else k place i) (eq-eqb place place refl) ∙ ap (λ o. or_old o (k place i)) hy))
      (λ far. ap (λ d. d i) (put_apart h place (put (h place) i bits) e far) ∙ own_before i e i (omega arith)
      ∙ sym (ap (λ o. if holds (λ j. nat_eq j e) o then or_old (y i) (k e i) else k e i) hx ∙ ap (λ b. if b then or_old (y i) (k e i) else k e i) (ne_eqb place e (λ t. far (sym t)))))
      (cases_eq e place))

pub own_all : (xs : List (Option ℕ)) (y : Map) (k : ℕ → Lanes) → length xs ≡ widest → own_part widest (map_of xs) y k ≡ own_stored (map_of xs) y k
own_all xs y k long =
    fun_ext (λ e. fun_ext (λ p. ⊎_elim (λ (h : p < widest). own_after (map_of xs) y k widest e p h)
    (λ h. own_before (map_of xs) y k widest e p h ∙ sym
    (ap (λ o. if holds (λ j. nat_eq j e) o then or_old (y p) (k e p) else k e p) (past xs p None (omega (arith, long, h))))) (cases_lt p widest)))

pub own_next_store : (f g r : ℕ → ℕ → Lanes) (n i : ℕ) (x y : Map) → g ≡ put f n (own_part i x y (f n)) → r ≡ put g n (put_own_at i (x i) (y i) (g n)) → r ≡ put f n (own_part (i + 1) x y (f n))
own_next_store f g r n i x y e is = change_again f g r n (own_part i x y (f n)) (put_own_at i (x i) (y i)) e is ∙ ap (put f n) (by (x i) (y i) refl refl)
  where
    by : (a b : Option ℕ) → x i ≡ a → y i ≡ b → put_own_at i a b (own_part i x y (f n)) ≡ own_part (i + 1) x y (f n)
    by None b hx hy = own_no_place x y (f n) i hx
    by (Some p) None hx hy = own_no_value x y (f n) i hy
    by (Some p) (Some q) hx hy = own_some x y (f n) i p q hx hy

pub own_first : (f : ℕ → ℕ → Lanes) (n : ℕ) (x y : Map) → f ≡ put f n (own_part 0 x y (f n))
own_first f n x y = sym (put_same f n (own_part 0 x y (f n)) (own_begins x y (f n)))

pub own_last : (f g : ℕ → ℕ → Lanes) (n i : ℕ) (xs : List (Option ℕ)) (y : Map) → length xs ≡ widest → i ≡ widest → g ≡ put f n (own_part i (map_of xs) y (f n)) → g ≡ put f n (own_stored (map_of xs) y (f n))
own_last f g n i xs y long end e = e ∙ ap (λ k. put f n (own_part k (map_of xs) y (f n))) end ∙ ap (put f n) (own_all xs y (f n) long)

-- ---- lanes of a set that become 0 place by place

pub record Zeroed (a : Mask) (f : ℕ → Lanes) (xs : List (List ℕ)) (i : ℕ) : Type 0 where
  pub done : (e : ℕ) → e < i → lanes_of xs e ≡ with_zeros a (f e)
  pub off : (e : ℕ) → i ≤ e → lanes_of xs e ≡ f e

pub zeroed_begins : (a : Mask) (xs : List (List ℕ)) → Zeroed a (lanes_of xs) xs 0
zeroed_begins a xs = record { done = λ e h. absurd (omega (arith, h)); off = λ e h. refl }

pub zeroed_next : (a : Mask) (f : ℕ → Lanes) (xs : List (List ℕ)) (i : ℕ) (v d : List ℕ) → Zeroed a f xs i → i < length xs → lane_of v ≡ with_zeros a (lane_of (get_or xs i d)) → Zeroed a f (slice_set xs i v) (i + 1)
zeroed_next a f xs i v d m lt is =
    let w = written lane_of (λ p. 0) xs v i lt in
    record {
      done = λ e h. ap (λ g. g e) w ∙ ⊎_elim
          (λ (t : e ≡ i). ap (put (lanes_of xs) i (lane_of v)) t ∙ put_there (lanes_of xs) i (lane_of v) ∙ is ∙ ap (with_zeros a) (sym (at_there lane_of (λ p. 0) xs i d lt) ∙ m.off i (omega arith)) ∙ ap (λ k. with_zeros a (f k)) (sym t))
          (λ ne. put_apart (lanes_of xs) i (lane_of v) e ne ∙ m.done e (omega (arith, ne, h))) (cases_eq e i);
      off = λ e h. ap (λ g. g e) w ∙ put_apart (lanes_of xs) i (lane_of v) e (λ t. absurd (omega (arith, t, h))) ∙ m.off e (omega (arith, h));
    }

pub zeroed_all : (a : Mask) (ys xs : List (List ℕ)) (n : ℕ) → length ys ≤ n → Zeroed a (lanes_of ys) xs n → lanes_of xs ≡ (λ e. with_zeros a (lanes_of ys e))
zeroed_all a ys xs n long m =
    fun_ext (λ e. ⊎_elim (λ (h : e < n). m.done e h)
    (λ h. m.off e h ∙ at_past lane_of (λ p. 0) ys e (omega (arith, long, h)) ∙ sym (ap (with_zeros a) (at_past lane_of (λ p. 0) ys e (omega (arith, long, h))) ∙ fun_ext (λ p. sym (either (a p) 0)))) (cases_lt e n))

pub lane_set : (xs : List ℕ) (i b : ℕ) → i < length xs → lane_of (slice_set xs i b) ≡ put (lane_of xs) i b
lane_set xs i b lt = fun_ext (λ p. ⊎_elim (λ (h : p ≡ i). ap (lane_of (slice_set xs i b)) h ∙ get_or-set_same xs i b 0 lt
    ∙ sym (ap (put (lane_of xs) i b) h ∙ put_there (lane_of xs) i b)) (λ ne. get_or-set_other xs i p b 0 ne ∙ sym (put_apart (lane_of xs) i b p ne))
    (cases_eq p i))

-- where there are zeros, zeros are written
pub zeros_stay : (a : Mask) (f : ℕ → Lanes) → f ≡ (λ e p. 0) → (λ e. with_zeros a (f e)) ≡ f
zeros_stay a f z = ap {B = ℕ → Lanes} (λ (g : ℕ → Lanes) e. with_zeros a (g e)) z ∙ fun_ext (λ e. fun_ext (λ p. sym (either (a p) 0))) ∙ sym z
