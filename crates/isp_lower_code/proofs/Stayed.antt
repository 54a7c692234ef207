-- A variable, in brackets or not, and a constant that is kept are found where they are, whatever the slot.
use Rattle.std.proofs.Common.{◌≡◌, ℕ, Bool, true, false, refl}
use Rattle.std.specs.Prelude.{◌&&◌, not}
use Rattle.isp_base.specs.declared.types.Elem.{Elem}
use Rattle.isp_base.specs.declared.types.Rate.{Rate}
use Rattle.isp_base.specs.declared.types.Rate.TheVariants.{Uniform, Varying}
use Rattle.isp_typed.specs.Typed.{TExpr, t_constant, t_program_index, t_place, t_convert, t_cast, t_unary, t_binary, t_compare, t_logic, t_choose, t_call, t_library, t_packed_store, t_packed_load, t_variable, t_element, type_of}
use Rattle.isp_meaning.specs.Calls.{same_rate}
use Rattle.isp_lower_code.specs.Found.{is_copied, is_kept, kept_found, variable_found, found, lifted}
use Rattle.isp_lower_code.specs.Known.{bits_as, constant_of}
use Rattle.isp_lower_code.specs.Stays.{is_short, stays, stays_at}
use Rattle.isp_lower_code.specs.Layout.{Layout}

pub both_true : (a b : Bool) → (a && b) ≡ true → (a ≡ true) × (b ≡ true)
both_true true b e = (refl, e)
both_true false b e = absurd (cc)

same_lifted : (l : Layout) (wanted given : Rate) (t : Elem) (x y n m : ℕ) → same_rate wanted given ≡ true → x ≡ y → lifted l wanted given t x n ≡ lifted l wanted given t y m
same_lifted l Uniform Uniform t x y n m e is = is
same_lifted l Uniform Varying t x y n m e is = absurd (cc)
same_lifted l Varying Uniform t x y n m e is = absurd (cc)
same_lifted l Varying Varying t x y n m e is = is

same_kept : (l : Layout) (z : Bool) (r : Rate) (t : Elem) (b n m : ℕ) → z ≡ true → kept_found l z r t b n ≡ kept_found l z r t b m
same_kept l true r t b n m e = refl
same_kept l false r t b n m e = absurd (cc)

pub stays_same : (l : Layout) (x : TExpr) (n m : ℕ) → stays l x ≡ true → found l x n ≡ found l x m
stays_same l (t_constant v sp) n m e = same_kept l (l.kept Uniform v.elem v.bits) Uniform v.elem v.bits n m e
stays_same l (t_program_index sp) n m e = absurd (cc)
stays_same l (t_place (t_variable v t sp)) n m e = go (is_copied l t.rate v) e
  where
    go : (b : Bool) → not b ≡ true → variable_found l b t v n ≡ variable_found l b t v m
    go true h = absurd (cc)
    go false h = refl
stays_same l (t_place (t_element b i t sp)) n m e = absurd (cc)
stays_same l (t_convert u x) n m e = same_kept l (is_kept l (constant_of x) (type_of x).rate u) (type_of x).rate u (bits_as (constant_of x) u) n m e
stays_same l (t_cast x t sp) n m e =
    let both = both_true (same_rate t.rate (type_of x).rate) (stays l x) e in
    same_lifted l t.rate (type_of x).rate (type_of x).elem (found l x n) (found l x m) n m both.0 (stays_same l x n m both.1)
stays_same l (t_unary o x t sp) n m e = absurd (cc)
stays_same l (t_binary o x y t sp) n m e = absurd (cc)
stays_same l (t_compare d x y r sp) n m e = absurd (cc)
stays_same l (t_logic g x y r sp) n m e = absurd (cc)
stays_same l (t_choose d x y t sp) n m e = absurd (cc)
stays_same l (t_call d t) n m e = absurd (cc)
stays_same l (t_library f u xs t sp) n m e = absurd (cc)
stays_same l (t_packed_store d x sp) n m e = absurd (cc)
stays_same l (t_packed_load d v sp) n m e = absurd (cc)

-- both sides of a short choice are such
pub short_sides : (l : Layout) (r : Rate) (c x y : TExpr) → is_short l r c x y ≡ true → (stays l x ≡ true) × (stays l y ≡ true)
short_sides l r c x y e =
    let sides = both_true (stays_at l r x) (stays_at l r y) (both_true (same_rate r (type_of c).rate) (stays_at l r x && stays_at l r y) e).1 in
    ((both_true (same_rate r (type_of x).rate) (stays l x) sides.0).1, (both_true (same_rate r (type_of y).rate) (stays l y) sides.1).1)
