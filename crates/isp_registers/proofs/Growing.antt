-- Rows that are added change no register that is there; so what code asks for stays there.
use Rattle.std.proofs.Common.{◌≡◌, ◌⊎◌, inl, inr, ⊎_elim, ℕ, ◌<◌, ◌≤◌, ◌+◌, List, length, map, drop, get_or, refl, sym, ap, subst, ◌∙◌, arith, Some}
use Rattle.std.proofs.lemmas.List.{drop_more, drop_all}
use Rattle.isp_base.specs.declared.types.Elem.{Elem}
use Rattle.std.specs.Prelude.{Option, None, is_some, true}
use Rattle.isp_base.specs.declared.types.Rate.{Rate}
use Rattle.isp_base.specs.declared.types.Rate.TheVariants.{Uniform, Varying}
use Rattle.isp_typed.specs.Views.{item_of, items_of}
use Rattle.isp_typed.specs.declared.stmt.TypedItem as rust
use Rattle.isp_typed.specs.declared.variable.ArrayVariable.{ArrayVariable}
use Rattle.isp_lower_code.specs.Asks.{Ask, Nothing, Both, Register, MaskOf, Number, item_asks, items_asks, first_slot, second_slot, sides_ask}
use Rattle.isp_registers.specs.Growth.{rows_of, row_of, Grows, HasArray, HasLoaded, HasRow, Keeps, KeepsIn, Longer}
use Rattle.isp_lower_code.specs.Room.{GrowsBy, HasNumbers, masks_with, registers_asked}
use Rattle.isp_registers.specs.Reserved.{Gives, Has, HasSpare, IsReserved}
use Rattle.isp_lower_code.specs.Rows.{Name, Variable, Result, Spare, Place, Fresh, Kept, Rows, elem_in, keeps, rows_at}
use Rattle.isp_lower_code.specs.Tables.{AnyArray}
use Rattle.isp_lower_code.specs.declared.constant.Constant.{Constant}
use Rattle.isp_registers.specs.declared.registers.RegisterRow.{RegisterRow}
use Rattle.isp_registers.specs.declared.registers.Registers.{Registers}
use Rattle.isp_registers.specs.declared.reserve.Reserve.{Reserve}
use Rattle.isp_lower_code.proofs.Lemmas.{all_grow, begins_self, begins_then, kept_of, kept_row, stays_in}

-- ---- rows that are added

pub grows_self : (r : Registers) → Grows r r
grows_self r =
    record {
      scalars = begins_self (rows_of r).scalars;
      vectors = begins_self (rows_of r).vectors;
      arrays = begins_self (rows_of r).arrays;
      loaded = begins_self (rows_of r).loaded;
      kept_scalars = λ t b. refl;
      kept_vectors = λ t b. refl;
    }

pub grows_then : (r s t : Registers) → Grows r s → Grows s t → Grows r t
grows_then r s t a b =
    record {
      scalars = begins_then (rows_of r).scalars (rows_of s).scalars (rows_of t).scalars a.scalars b.scalars;
      vectors = begins_then (rows_of r).vectors (rows_of s).vectors (rows_of t).vectors a.vectors b.vectors;
      arrays = begins_then (rows_of r).arrays (rows_of s).arrays (rows_of t).arrays a.arrays b.arrays;
      loaded = begins_then (rows_of r).loaded (rows_of s).loaded (rows_of t).loaded a.loaded b.loaded;
      kept_scalars = λ u k. b.kept_scalars u k ∙ a.kept_scalars u k;
      kept_vectors = λ u k. b.kept_vectors u k ∙ a.kept_vectors u k;
    }

-- no more constants are kept
pub kept_same : (a b : Registers) → Grows a b → (r : Rate) (t : Elem) (k : ℕ) → keeps (rows_at (rows_of b) r) t k ≡ keeps (rows_at (rows_of a) r) t k
kept_same a b g Uniform t k = g.kept_scalars t k
kept_same a b g Varying t k = g.kept_vectors t k

-- ---- what code asks for

pub row_grows : (a b : Registers) → Grows a b → (r : Rate) (x : Name) (t : Elem) → HasRow a r x t → HasRow b r x t
row_grows a b g Uniform x t e = (stays_in (rows_of a).scalars (rows_of b).scalars x t g.scalars e).1
row_grows a b g Varying x t e = (stays_in (rows_of a).vectors (rows_of b).vectors x t g.vectors e).1

spare_grows : (a b : Registers) → Grows a b → (r : Rate) (x : Name) (t : Elem) → HasSpare a r x t → HasSpare b r x t
spare_grows a b g r (Variable v) t e = tt
spare_grows a b g r Result t e = tt
spare_grows a b g r (Spare u j) t e = row_grows a b g r (Spare u j) t e
spare_grows a b g r Place t e = row_grows a b g r Place t e
spare_grows a b g r (Fresh j) t e = row_grows a b g r (Fresh j) t e
spare_grows a b g r (Kept u k) t e = row_grows a b g r (Kept u k) t e

pub loaded_grows : (a b : Registers) → Grows a b → (v : ℕ) → HasLoaded a v → HasLoaded b v
loaded_grows a b g v e = go (elem_in (rows_of a).loaded (Variable v)) refl e
  where
    go : (o : Option Elem) → elem_in (rows_of a).loaded (Variable v) ≡ o → is_some o ≡ true → HasLoaded b v
    go None at h = absurd (cc)
    go (Some t) at h = ap is_some (stays_in (rows_of a).loaded (rows_of b).loaded (Variable v) t g.loaded at).1

pub has_grows : (a b : Reserve) → Grows a.registers b.registers → a.masks ≤ b.masks → (x : Ask) → IsReserved a x → IsReserved b x
has_grows a b g m x f =
    all_grow (HasSpare a.registers) (HasSpare b.registers) AnyArray AnyArray AnyArray AnyArray (λ k. k < a.masks) (λ k. k < b.masks)
    (HasLoaded a.registers) (HasLoaded b.registers) (spare_grows a.registers b.registers g) (λ v z. z) (λ v z. z) (λ k l. omega (arith, l, m))
    (loaded_grows a.registers b.registers g) x f

-- ---- constants that are kept

pub longer_self : (r : Registers) → Longer r r
longer_self r = record { scalars = begins_self (rows_of r).scalars; vectors = begins_self (rows_of r).vectors; arrays = begins_self (rows_of r).arrays; loaded = begins_self (rows_of r).loaded }

pub longer_then : (r s t : Registers) → Longer r s → Longer s t → Longer r t
longer_then r s t a b =
    record {
      scalars = begins_then (rows_of r).scalars (rows_of s).scalars (rows_of t).scalars a.scalars b.scalars;
      vectors = begins_then (rows_of r).vectors (rows_of s).vectors (rows_of t).vectors a.vectors b.vectors;
      arrays = begins_then (rows_of r).arrays (rows_of s).arrays (rows_of t).arrays a.arrays b.arrays;
      loaded = begins_then (rows_of r).loaded (rows_of s).loaded (rows_of t).loaded a.loaded b.loaded;
    }

longer_row : (a b : Registers) → Longer a b → (r : Rate) (x : Name) (t : Elem) → HasRow a r x t → HasRow b r x t
longer_row a b g Uniform x t e = (stays_in (rows_of a).scalars (rows_of b).scalars x t g.scalars e).1
longer_row a b g Varying x t e = (stays_in (rows_of a).vectors (rows_of b).vectors x t g.vectors e).1

longer_array : (a b : Registers) → Longer a b → (v : ArrayVariable) → HasArray a v → HasArray b v
longer_array a b g v e = (stays_in (rows_of a).arrays (rows_of b).arrays (Variable v.number) v.ty.elem g.arrays e).1

longer_loaded : (a b : Registers) → Longer a b → (v : ℕ) → HasLoaded a v → HasLoaded b v
longer_loaded a b g v e = go (elem_in (rows_of a).loaded (Variable v)) refl e
  where
    go : (o : Option Elem) → elem_in (rows_of a).loaded (Variable v) ≡ o → is_some o ≡ true → HasLoaded b v
    go None at h = absurd (cc)
    go (Some t) at h = ap is_some (stays_in (rows_of a).loaded (rows_of b).loaded (Variable v) t g.loaded at).1

-- what code asks for stays there
pub longer_has : (a b : Reserve) → Longer a.registers b.registers → a.masks ≤ b.masks → (x : Ask) → Has a x → Has b x
longer_has a b g m x f =
    all_grow (HasRow a.registers) (HasRow b.registers) (HasArray a.registers) (HasArray b.registers) (HasArray a.registers) (HasArray b.registers) (λ k. k < a.masks) (λ k. k < b.masks) (HasLoaded a.registers) (HasLoaded b.registers)
    (longer_row a.registers b.registers g) (longer_array a.registers b.registers g) (longer_array a.registers b.registers g) (λ k l. omega (arith, l, m)) (longer_loaded a.registers b.registers g) x f

-- and so does a constant that is kept
pub longer_keeps : (a b : Registers) → Longer a b → (r : Rate) (t : Elem) (k : ℕ) → keeps (rows_at (rows_of a) r) t k ≡ true → keeps (rows_at (rows_of b) r) t k ≡ true
longer_keeps a b g r t k e = kept_of (rows_at (rows_of b) r) t k (longer_row a b g r (Kept t k) t (kept_row (rows_at (rows_of a) r) t k e))

-- one of a rate is kept too
pub scalar_kept : (a : Registers) (xs : List RegisterRow) (it : Constant) → it.rate ≡ Uniform → KeepsIn (map row_of a.scalars) (map row_of xs) it.elem it.bits → Keeps a (record a { scalars = xs }) it
scalar_kept a xs it rate k = record {
  rows = record { scalars = k.rows; vectors = begins_self (rows_of a).vectors; arrays = begins_self (rows_of a).arrays; loaded = begins_self (rows_of a).loaded };
  has = subst (λ r. keeps (rows_at (rows_of (record a { scalars = xs })) r) it.elem it.bits ≡ true) (sym rate) k.has;
  only = go;
  few = record { scalars = k.few; vectors = omega arith; arrays = refl };
}
  where
    go : (r : Rate) (t : Elem) (b : ℕ) → keeps (rows_at (rows_of (record a { scalars = xs })) r) t b ≡ true → (keeps (rows_at (rows_of a) r) t b ≡ true) ⊎ ((r ≡ it.rate) × ((t ≡ it.elem) × (b ≡ it.bits)))
    go Uniform t b e = ⊎_elim (λ old. inl old) (λ new. inr (sym rate, new)) (k.only t b e)
    go Varying t b e = inl e

pub vector_kept : (a : Registers) (xs : List RegisterRow) (it : Constant) → it.rate ≡ Varying → KeepsIn (map row_of a.vectors) (map row_of xs) it.elem it.bits → Keeps a (record a { vectors = xs }) it
vector_kept a xs it rate k = record {
  rows = record { scalars = begins_self (rows_of a).scalars; vectors = k.rows; arrays = begins_self (rows_of a).arrays; loaded = begins_self (rows_of a).loaded };
  has = subst (λ r. keeps (rows_at (rows_of (record a { vectors = xs })) r) it.elem it.bits ≡ true) (sym rate) k.has;
  only = go;
  few = record { scalars = omega arith; vectors = k.few; arrays = refl };
}
  where
    go : (r : Rate) (t : Elem) (b : ℕ) → keeps (rows_at (rows_of (record a { vectors = xs })) r) t b ≡ true → (keeps (rows_at (rows_of a) r) t b ≡ true) ⊎ ((r ≡ it.rate) × ((t ≡ it.elem) × (b ≡ it.bits)))
    go Uniform t b e = inl e
    go Varying t b e = ⊎_elim (λ old. inl old) (λ new. inr (sym rate, new)) (k.only t b e)

-- ---- the walk: what one call gives and then another one is given

grown_none : (a : Rows) → GrowsBy 0 a a
grown_none a = record { scalars = omega arith; vectors = omega arith; arrays = refl }

pub grown_more : (n m : ℕ) (a b c : Rows) → GrowsBy n a b → GrowsBy m b c → GrowsBy (n + m) a c
grown_more n m a b c g h =
    record { scalars = omega (arith, g.scalars, h.scalars); vectors = omega (arith, g.vectors, h.vectors); arrays = h.arrays ∙ g.arrays }

pub gives_none : (a : Reserve) → Gives a a Nothing
gives_none a = record { rows = grows_self a.registers; masks = omega arith; has = tt; few = grown_none (rows_of a.registers); masks_are = refl }

pub both_given : (a b c : Reserve) (x y : Ask) → Gives a b x → Gives b c y → Gives a c (Both x y)
both_given a b c x y g h =
    record {
      rows = grows_then a.registers b.registers c.registers g.rows h.rows;
      masks = omega (arith, g.masks, h.masks);
      has = (has_grows b c h.rows h.masks x g.has, h.has);
      few = grown_more (registers_asked x) (registers_asked y) (rows_of a.registers) (rows_of b.registers) (rows_of c.registers) g.few h.few;
      masks_are = h.masks_are ∙ ap (λ m. masks_with m y) g.masks_are;
    }

-- a variable has its register from the beginning
pub variable_given : (a b : Reserve) (r : Rate) (v : ℕ) (t : Elem) (x : Ask) → Gives a b x → Gives a b (Both (Register r (Variable v) t) x)
variable_given a b r v t x g =
    record {
      rows = g.rows;
      masks = g.masks;
      has = (tt, g.has);
      few = record { scalars = omega (arith, g.few.scalars); vectors = omega (arith, g.few.vectors); arrays = g.few.arrays };
      masks_are = g.masks_are;
    }

-- a number asks for no register
pub then_given : (a b c : Reserve) (k : ℕ) (y : Ask) → Gives a b (Number k) → Gives b c y → Gives a c y
then_given a b c k y g h =
    record {
      rows = grows_then a.registers b.registers c.registers g.rows h.rows;
      masks = omega (arith, g.masks, h.masks);
      has = h.has;
      few =
          record {
            scalars = omega (arith, g.few.scalars, h.few.scalars);
            vectors = omega (arith, g.few.vectors, h.few.vectors);
            arrays = h.few.arrays ∙ g.few.arrays;
          };
      masks_are = h.masks_are ∙ ap (λ m. masks_with m y) g.masks_are;
    }

-- the second side's slot is the one after the first's
pub second_is : (r : Rate) (n : ℕ) → first_slot r (first_slot r n) ≡ second_slot r n
second_is Uniform n = refl
second_is Varying n = omega arith

-- the numbers of its masks are small, and so are its slots
pub first_small : (r : Rate) (n : ℕ) → HasNumbers (sides_ask r n) → r ≡ Varying → n + 1 < 4294967296
first_small Uniform n h e = absurd (cc)
first_small Varying n h e = omega (arith, h.0)

pub second_small : (r : Rate) (n m : ℕ) → m ≡ first_slot r n → HasNumbers (sides_ask r n) → r ≡ Varying → m + 1 < 4294967296
second_small Uniform n m is h e = absurd (cc)
second_small Varying n m is h e = omega (arith, h.0, is)

-- ---- lists of items

pub items_more : (n : ℕ) (all : List rust.TypedItem) (i : ℕ) (x : rust.TypedItem) → i < length all → x ≡ get_or all i x → items_asks n (items_of (drop i all)) ≡ Both (item_asks n (item_of x)) (items_asks n (items_of (drop (i + 1) all)))
items_more n all i x lt is =
    ap (λ z. items_asks n (items_of z)) (drop_more all i x lt) ∙ ap (λ z. Both (item_asks n (item_of z)) (items_asks n (items_of (drop (i + 1) all)))) (sym is)

pub items_end : (n : ℕ) (all : List rust.TypedItem) (i : ℕ) → length all ≤ i → items_asks n (items_of (drop i all)) ≡ Nothing
items_end n all i le = ap (λ z. items_asks n (items_of z)) (drop_all i all le)

-- a call's number fits
pub number_given : (a b : Reserve) (k : ℕ) (y : Ask) → k < 4294967296 → Gives a b y → Gives a b (Both (Number k) y)
number_given a b k y lt g =
    record {
      rows = g.rows;
      masks = g.masks;
      has = (lt, g.has);
      few = record { scalars = omega (arith, g.few.scalars); vectors = omega (arith, g.few.vectors); arrays = g.few.arrays };
      masks_are = g.masks_are;
    }

-- a varying test: its two slots and its two masks
pub sides_given : (a b c d e : Reserve) (n m k : ℕ) → m ≡ n + 1 → k ≡ m + 1 → Gives a b (Number m) → Gives b c (Number k) → Gives c d (MaskOf n) → Gives d e (MaskOf m) → Gives a e (Both (Number (n + 2)) (Both (MaskOf n) (MaskOf (n + 1))))
sides_given a b c d e n m k first second x y z w =
    let two : k ≡ n + 2 = omega (arith, first, second) in
    subst (λ i. Gives a e (Both (Number i) (Both (MaskOf n) (MaskOf (n + 1))))) two
    (subst (λ j. Gives a e (Both (Number k) (Both (MaskOf n) (MaskOf j)))) first
    (then_given a b e m (Both (Number k) (Both (MaskOf n) (MaskOf m))) x
    (both_given b c e (Number k) (Both (MaskOf n) (MaskOf m)) y (both_given c d e (MaskOf n) (MaskOf m) z w))))
