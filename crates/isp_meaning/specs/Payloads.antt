-- Values over a set of instances: one for the gang, or one in each member of the set. One value may stand where the type
-- is varying; where the type is uniform there is always one.
use Rattle.std.specs.Prelude.{ℕ, ◌==◌, Option, Some, None, Bool, true, false, not, if◌then◌else◌}
use Rattle.isp_base.specs.Sets.{Mask, nobody, lowest}
use Rattle.isp_base.specs.Maps.{Map, on, map1, map2, where_true, lowest_failing}
use Rattle.isp_base.specs.Values.{number, convert_bits}
use Rattle.isp_base.specs.declared.types.Elem.{Elem}

pub data Payload : Type 0 where
  One : ℕ → Payload
  Each : Map → Payload

-- a bool is true, or false
abbrev pub is_true : ℕ → Bool
is_true bits = not (bits == 0)

abbrev pub is_false : ℕ → Bool
is_false bits = not (is_true bits)

-- the bits of a bool
abbrev pub bit : Bool → ℕ
bit b = if b then 1 else 0

-- the one value of a uniform type
abbrev pub sole : Payload → ℕ
sole (One x) = x
sole (Each x) = 0

-- the value in each member of a set
abbrev pub spread : Mask → Payload → Map
spread a (One x) = on a (λ p. x)
spread a (Each x) = x

-- a value in no instance
abbrev pub nothing : Payload
nothing = Each (λ p. None)

-- a function of each value; of two values it is one value where both are
abbrev pub mapped : (ℕ → ℕ) → Payload → Payload
mapped f (One x) = One (f x)
mapped f (Each x) = Each (map1 f x)

abbrev pub joined : (ℕ → ℕ → ℕ) → Mask → Payload → Payload → Payload
joined f a (One x) (One y) = One (f x y)
joined f a (One x) (Each y) = Each (map2 f (spread a (One x)) y)
joined f a (Each x) y = Each (map2 f x (spread a y))

-- a value of one element type as one of another
abbrev pub converted : Elem → Elem → ℕ → ℕ
converted from to x = convert_bits to (number from x)

-- the members of a set whose value passes a test; one value speaks for all
abbrev pub kept_by : (ℕ → Bool) → Mask → Payload → Mask
kept_by f a (One x) = if f x then a else nobody
kept_by f a (Each x) = where_true f x

-- the value of the first map, or else that of the second
abbrev pub first_of_two : Option ℕ → Option ℕ → Option ℕ
first_of_two None y = y
first_of_two (Some x) y = Some x

abbrev pub layer : Map → Map → Map
layer x y p = first_of_two (x p) (y p)

-- the values of those that are not of a set
abbrev pub except : Map → Mask → Map
except x a p = if a p then None else x p

-- the values of a choice: m where the test is true, n where it is false
abbrev pub selected : Mask → Payload → Payload → Payload → Payload
selected a (One c) m n = if is_true c then m else n
selected a (Each c) m n = Each (layer (spread (where_true is_true c) m) (spread (where_true is_false c) n))

-- the lowest member of the set whose value fails a test; one value fails it for all members
module _ (gang : ℕ) (fails : ℕ → Bool) (a : Mask) where
  abbrev pub if_fails : Bool → Option ℕ
  if_fails true = lowest gang a
  if_fails false = None

  abbrev pub offender : Payload → Option ℕ
  offender (One x) = if_fails (fails x)
  offender (Each x) = lowest_failing gang fails x
