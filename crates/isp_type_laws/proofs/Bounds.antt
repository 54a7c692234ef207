-- Values over a set of instances that stay below a bound, and functions that are changed at places.
use Rattle.std.specs.Prelude.{◌≡◌, ℕ, zero, suc, ◌+◌, ◌^◌, ◌<◌, ◌≤◌, Option, Some, None, Bool, true, false, nat_eq, if◌then◌else◌, ℤ, pos, negsuc}
use Rattle.std.proofs.Common.{refl, sym, subst, arith, lit≤, mod-lt}
use Rattle.std.proofs.lemmas.Bool.{eqb-true}
use Rattle.isp_base.specs.Access.{scatter, put_at}
use Rattle.isp_base.specs.Cross.{or_zero, instance, and_this, fold_below, best, rank}
use Rattle.isp_base.specs.Maps.{Lanes, Map, on, or_old, each1, each2, put, where_true}
use Rattle.isp_base.specs.Sets.{Mask}
use Rattle.isp_base.specs.Values.{width, wrap, convert_bits, not_zero}
use Rattle.isp_base.specs.declared.types.Elem.{Elem}
use Rattle.isp_base.specs.declared.types.Elem.TheVariants.{Bool as Truth, I8, U8, I16, U16, I32, U32, I64, U64}
use Rattle.isp_base.proofs.Wraps.{wrap_to-lt}
use Rattle.isp_typed.specs.declared.variable.Logic.{Logic}
use Rattle.isp_meaning.specs.Payloads.{Payload, One, Each, is_true, is_false, bit, sole, spread, mapped, joined, first_of_two, selected}
use Rattle.isp_meaning.specs.Library.{chosen_one, chosen_by}
use Rattle.isp_meaning.specs.Expressions.{needs, settled}
use Rattle.isp_meaning.specs.Places.{stored}

-- ---- bits

pub wrap_lt : (t : Elem) (z : ℤ) → wrap t z < 2 ^ width t
wrap_lt t z = wrap_to-lt (width t) z

not_zero_lt : (z : ℤ) → not_zero z < 2 ^ 1
unfolding not_zero
not_zero_lt (pos zero) = lit≤ tt
not_zero_lt (pos (suc n)) = lit≤ tt
not_zero_lt (negsuc n) = lit≤ tt

pub convert_lt : (t : Elem) (z : ℤ) → convert_bits t z < 2 ^ width t
convert_lt Truth z = not_zero_lt z
convert_lt I8 z = wrap_lt I8 z
convert_lt U8 z = wrap_lt U8 z
convert_lt I16 z = wrap_lt I16 z
convert_lt U16 z = wrap_lt U16 z
convert_lt I32 z = wrap_lt I32 z
convert_lt U32 z = wrap_lt U32 z
convert_lt I64 z = wrap_lt I64 z
convert_lt U64 z = wrap_lt U64 z

pub bit_lt : (b : Bool) → bit b < 2 ^ 1
bit_lt true = lit≤ tt
bit_lt false = lit≤ tt

-- an instance is one of the gang
pub instance_lt : (n : ℕ) (z : ℤ) → 0 < n → instance n z < n
instance_lt n (pos k) h = mod-lt k h
instance_lt n (negsuc k) h = let some = mod-lt k h in omega arith

pub rank_le : (a : Mask) (n : ℕ) → rank a n ≤ n
rank_le a zero = omega arith
rank_le a (suc n) = by (a n) (rank_le a n)
  where
    by : (t : Bool) → rank a n ≤ n → rank a n + (if t then 1 else 0) ≤ suc n
    by true h = omega arith
    by false h = omega arith

-- ---- a value, where there is one

abbrev pub Under : ℕ → Option ℕ → Type 0
Under m None = Unit {0}
Under m (Some x) = x < m

module _ (m : ℕ) where
  pub zero_under : (o : Option ℕ) → 0 < m → Under m o → or_zero o < m
  zero_under None z h = z
  zero_under (Some x) z h = h

  each1_under : (f : ℕ → ℕ) → ((x : ℕ) → f x < m) → (o : Option ℕ) → Under m (each1 f o)
  each1_under f h None = tt
  each1_under f h (Some x) = h x

  each2_under : (f : ℕ → ℕ → ℕ) → ((x y : ℕ) → f x y < m) → (o q : Option ℕ) → Under m (each2 f o q)
  each2_under f h None q = tt
  each2_under f h (Some x) None = tt
  each2_under f h (Some x) (Some y) = h x y

  pub old_under : (o : Option ℕ) (old : ℕ) → Under m o → old < m → or_old o old < m
  old_under None old h k = k
  old_under (Some x) old h k = h

  first_under : (o q : Option ℕ) → Under m o → Under m q → Under m (first_of_two o q)
  first_under None q h k = k
  first_under (Some x) q h k = h

  pub on_under : (a : Mask) (x : Lanes) (p : ℕ) → x p < m → Under m (on a x p)
  on_under a x p h = by (a p)
    where
      by : (t : Bool) → Under m (if t then Some (x p) else None)
      by true = h
      by false = tt

  -- ---- functions that are changed at places

  put_under : (f : Lanes) (d x : ℕ) → x < m → ((e : ℕ) → f e < m) → (e : ℕ) → put f d x e < m
  put_under f d x h k e = by (nat_eq e d)
    where
      by : (t : Bool) → (if t then x else f e) < m
      by true = h
      by false = k e

  put_at_under : (o q : Option ℕ) (f : Lanes) → Under m q → ((e : ℕ) → f e < m) → (e : ℕ) → put_at o q f e < m
  put_at_under None q f h k e = k e
  put_at_under (Some d) None f h k e = k e
  put_at_under (Some d) (Some x) f h k e = put_under f d x h k e

  pub scatter_under : (n : ℕ) (x y : Map) (f : Lanes) → ((p : ℕ) → p < n → Under m (y p)) → ((e : ℕ) → f e < m) → (e : ℕ) → scatter n x y f e < m
  scatter_under zero x y f h k e = k e
  scatter_under (suc n) x y f h k e = put_at_under (x n) (y n) (scatter n x y f) (h n (omega arith)) (scatter_under n x y f (λ p l. h p (omega (arith, l))) k) e

-- a function changed at one place
pub put_holds : {A : Type 0} (P : ℕ → A → Type 0) (f : ℕ → A) (d : ℕ) (x : A) → P d x → ((r : ℕ) → P r (f r)) → (r : ℕ) → P r (put f d x r)
put_holds P f d x h k r = by (nat_eq r d) refl
  where
    by : (t : Bool) → nat_eq r d ≡ t → P r (if t then x else f r)
    by true e = subst (λ z. P z x) (sym (eqb-true r d e)) h
    by false e = k r

-- what holds at first and with each value holds of all values below a bound
pub fold_holds : {A : Type 0} (P : A → Type 0) (m : ℕ) (f : A → ℕ → A) (e : A) (x : Map) (n : ℕ) → P e → ((a : A) (b : ℕ) → P a → b < m → P (f a b)) → ((p : ℕ) → p < n → Under m (x p)) → P (fold_below f e x n)
fold_holds P m f e x zero h k u = h
fold_holds P m f e x (suc n) h k u = by (x n) (u n (omega arith)) (fold_holds P m f e x n h k (λ p l. u p (omega (arith, l))))
  where
    by : (o : Option ℕ) → Under m o → P (fold_below f e x n) → P (and_this f (fold_below f e x n) o)
    by None w before = before
    by (Some b) w before = k (fold_below f e x n) b before w

pub best_under : (m : ℕ) (f : ℕ → ℕ → ℕ) → ((x y : ℕ) → f x y < m) → (a : Option ℕ) (b : ℕ) → b < m → Under m (best f a b)
best_under m f h None b l = l
best_under m f h (Some a) b l = h a b

-- ---- values over a set, in the instances of a gang

module _ (gang m : ℕ) where
  abbrev pub Inside : Map → Type 0
  Inside x = (p : ℕ) → p < gang → Under m (x p)

  abbrev pub Bounded : Payload → Type 0
  Bounded (One x) = x < m
  Bounded (Each x) = Inside x

  pub sole_under : 0 < m → (v : Payload) → Bounded v → sole v < m
  sole_under z (One x) h = h
  sole_under z (Each x) h = z

  pub spread_inside : (a : Mask) (v : Payload) → Bounded v → Inside (spread a v)
  spread_inside a (One x) h = λ p l. on_under m a (λ q. x) p h
  spread_inside a (Each x) h = h

  pub mapped_bounded : (f : ℕ → ℕ) → ((x : ℕ) → f x < m) → (v : Payload) → Bounded (mapped f v)
  mapped_bounded f h (One x) = h x
  mapped_bounded f h (Each x) = λ p l. each1_under m f h (x p)

  pub each_bounded : (f : ℕ → ℕ → ℕ) → ((x p : ℕ) → p < gang → f x p < m) → (x : Map) → Inside (λ p. each1 (λ y. f y p) (x p))
  each_bounded f h x p l = each1_under m (λ y. f y p) (λ y. h y p l) (x p)

  pub joined_bounded : (f : ℕ → ℕ → ℕ) → ((x y : ℕ) → f x y < m) → (a : Mask) (v u : Payload) → Bounded (joined f a v u)
  joined_bounded f h a (One x) (One y) = h x y
  joined_bounded f h a (One x) (Each y) = λ p l. each2_under m f h (spread a (One x) p) (y p)
  joined_bounded f h a (Each x) u = λ p l. each2_under m f h (x p) (spread a u p)

  either : (t : Bool) (v u : Payload) → Bounded v → Bounded u → Bounded (if t then v else u)
  either true v u h k = h
  either false v u h k = k

  pub settled_bounded : (l : Logic) (a : Mask) (v u : Payload) → Bounded v → Bounded u → Bounded (settled l a v u)
  settled_bounded l a (One x) u h k = either (needs l x) u (One x) k h
  settled_bounded l a (Each x) u h k = λ p z. first_under m (spread (where_true (needs l) x) u p) (x p) (spread_inside (where_true (needs l) x) u k p z) (h p z)

  pub selected_bounded : (a : Mask) (c v u : Payload) → Bounded v → Bounded u → Bounded (selected a c v u)
  selected_bounded a (One c) v u h k = either (is_true c) v u h k
  selected_bounded a (Each c) v u h k =
      λ p z. first_under m (spread (where_true is_true c) v p) (spread (where_true is_false c) u p) (spread_inside (where_true is_true c) v h p z) (spread_inside (where_true is_false c) u k p z)

  chosen_under : (c o q : Option ℕ) → Under m o → Under m q → Under m (chosen_one c o q)
  chosen_under None o q h k = tt
  chosen_under (Some c) o q h k = by (is_true c)
    where
      by : (t : Bool) → Under m (if t then o else q)
      by true = h
      by false = k

  pub chosen_bounded : (a : Mask) (c v u : Payload) → Bounded v → Bounded u → Bounded (chosen_by a c v u)
  chosen_bounded a (One c) v u h k = either (is_true c) v u h k
  chosen_bounded a (Each c) v u h k = λ p z. chosen_under (c p) (spread a v p) (spread a u p) (spread_inside a v h p z) (spread_inside a u k p z)

  -- what the members of a set store in an array that all share
  pub stored_under : (a : Mask) (i v : Payload) (f : Lanes) → Bounded v → ((e : ℕ) → f e < m) → (e : ℕ) → stored gang a i v f e < m
  stored_under a (One i) (One x) f h k = put_under m f i x h k
  stored_under a (One i) (Each x) f h k = scatter_under m gang (spread a (One i)) x f h k
  stored_under a (Each i) v f h k = scatter_under m gang i (spread a v) f (spread_inside a v h) k

-- a value of a type
abbrev pub Fits : ℕ → Elem → Payload → Type 0
Fits gang t v = Bounded gang (2 ^ width t) v
