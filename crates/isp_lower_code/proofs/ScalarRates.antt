-- The rates of a scalar expression are as code asks: each part of it is uniform.
use Rattle.std.proofs.Common.{◌≡◌, ℕ, List, Bool, true, false, refl, ⊎_elim}
use Rattle.std.specs.Prelude.{◌||◌}
use Rattle.isp_base.specs.declared.types.Rate.{Rate}
use Rattle.isp_base.specs.declared.types.Rate.TheVariants.{Uniform, Varying}
use Rattle.isp_typed.specs.Typed.{TExpr, t_constant, t_program_index, t_place, t_convert, t_cast, t_unary, t_binary, t_compare, t_logic, t_choose, t_call, t_library}
use Rattle.isp_typed.specs.Typed.{t_packed_store, t_packed_load, TPlace, t_variable, t_element, TExprs, t_no_exprs, t_expr_then, TFunction}
use Rattle.isp_typed.specs.Library.{parts}
use Rattle.isp_steady.specs.Known.{Known}
use Rattle.isp_steady.specs.Steady.{steady, steady_place, all_steady}
use Rattle.isp_steady.specs.Linear.{linear}
use Rattle.isp_steady.specs.Alone.{alone, all_alone}
use Rattle.isp_steady.proofs.Lemmas.{both, linear_rate, one_of, steady_rate}
use Rattle.isp_lower_code.specs.Callees.{later, next_rate}
use Rattle.isp_lower_code.specs.Library.{rates_taken}
use Rattle.isp_lower_code.specs.Rated.{Reaches, IsRated, PlaceRated, ValuesRated}
use Rattle.isp_steady.specs.Alone.{alone_place}

uniform_reaches : (r q : Rate) → r ≡ Uniform → Reaches r q
uniform_reaches Uniform q e = tt
uniform_reaches Varying q e = absurd (cc)

module _ (fs : List TFunction) (known : ℕ → Known) where
  mutual
    steady_rated : (x : TExpr) → steady known x ≡ true → IsRated fs (alone x)
    steady_rated (t_constant v sp) e = tt
    steady_rated (t_program_index sp) e = absurd (cc)
    steady_rated (t_place q) e = place_rated q e
    steady_rated (t_convert t x) e = steady_rated x e
    steady_rated (t_cast x t sp) e = (uniform_reaches _ Uniform (steady_rate known x e), steady_rated x e)
    steady_rated (t_unary o x t sp) e = steady_rated x e
    steady_rated (t_binary o x y t sp) e = let k = both _ _ e in (steady_rated x k.0, steady_rated y k.1)
    steady_rated (t_compare c x y r sp) e = let k = both _ _ e in (steady_rated x k.0, steady_rated y k.1)
    steady_rated (t_logic g x y r sp) e = let k = both _ _ e in (steady_rated x k.0, steady_rated y k.1)
    steady_rated (t_choose c x y t sp) e =
        let k = both _ _ e in
        let j = both _ _ k.1 in
        (steady_rated c k.0, steady_rated x j.0, steady_rated y j.1)
    steady_rated (t_call c t) e = absurd (cc)
    steady_rated (t_library f t xs ty sp) e = values_rated (rates_taken Varying (parts f)) xs (both _ _ e).1
    steady_rated (t_packed_store b x sp) e = absurd (cc)
    steady_rated (t_packed_load b v sp) e = absurd (cc)

    place_rated : (q : TPlace) → steady_place known q ≡ true → PlaceRated fs (alone_place q)
    place_rated (t_variable v t sp) e = tt
    place_rated (t_element b i t sp) e = steady_rated i (both _ _ e).1

    values_rated : (rs : List Rate) (xs : TExprs) → all_steady known xs ≡ true → ValuesRated fs rs (all_alone xs)
    values_rated rs t_no_exprs e = tt
    values_rated rs (t_expr_then x xs) e =
        let k = both _ _ e in
        (uniform_reaches _ (next_rate rs) (steady_rate known x k.0), steady_rated x k.0, values_rated (later rs) xs k.1)

  linear_rated : (x : TExpr) → linear known x ≡ true → IsRated fs (alone x)
  linear_rated (t_program_index sp) e = tt
  linear_rated (t_place (t_variable v t sp)) e = tt
  linear_rated (t_place (t_element b i t sp)) e = absurd (cc)
  linear_rated (t_convert t x) e = linear_rated x (both _ _ e).0
  linear_rated (t_cast x t sp) e = (uniform_reaches _ Uniform (linear_rate known x e), linear_rated x e)
  linear_rated (t_binary o x y t sp) e =
      ⊎_elim (λ k. (linear_rated x k.0, steady_rated y k.1)) (λ k. (steady_rated x k.0, linear_rated y k.1))
      (one_of o (linear known x) (steady known x) (linear known y) (steady known y) e)
  linear_rated (t_constant v sp) e = absurd (cc)
  linear_rated (t_unary o x t sp) e = absurd (cc)
  linear_rated (t_compare c x y r sp) e = absurd (cc)
  linear_rated (t_logic g x y r sp) e = absurd (cc)
  linear_rated (t_choose c x y t sp) e = absurd (cc)
  linear_rated (t_call c t) e = absurd (cc)
  linear_rated (t_library f t xs ty sp) e = absurd (cc)
  linear_rated (t_packed_store b x sp) e = absurd (cc)
  linear_rated (t_packed_load b v sp) e = absurd (cc)

  pub alone_rated : (x : TExpr) → (steady known x || linear known x) ≡ true → IsRated fs (alone x)
  alone_rated x e = by (steady known x) refl e
    where
      by : (b : Bool) → steady known x ≡ b → (b || linear known x) ≡ true → IsRated fs (alone x)
      by true h k = steady_rated x h
      by false h k = linear_rated x k
