-- Over the set of one instance a `foreach_unique` has one turn, with its value.
use Rattle.std.proofs.Common.{◌≡◌, ℕ, ◌<◌, List, [], ◌∷◌, Bool, true, false, refl, ap, ap₂, ◌∙◌, Option}
use Rattle.std.proofs.Math.Path.{fun_ext}
use Rattle.std.proofs.lemmas.Bool.Decides.{Decides-int_eq}
use Rattle.std.specs.Prelude.{Some, None, if◌then◌else◌, nat_eq}
use Rattle.isp_base.specs.Cross.{or_zero}
use Rattle.isp_base.specs.Maps.{Map, holds}
use Rattle.isp_base.specs.Sets.{Mask, lowest, lone}
use Rattle.isp_base.specs.Values.{number, compare_to}
use Rattle.isp_base.specs.declared.operators.Compare.TheVariants.{Equal}
use Rattle.isp_base.specs.declared.types.Elem.{Elem}
use Rattle.isp_base.specs.declared.types.Rate.TheVariants.{Uniform}
use Rattle.isp_meaning.specs.State.{tick}
use Rattle.isp_meaning.specs.Payloads.{One, converted, except}
use Rattle.isp_meaning.specs.Places.{written}
use Rattle.isp_meaning.specs.Rounds.{Round, have, holding, holders, unique_rounds}
use Rattle.isp_meaning.proofs.Distinct.{unique_first, unique_none}
use Rattle.isp_meaning_laws.proofs.LoneSets.{just, just_here, where_just, lone_if, lowest_lone, lowest_nobody}

module _ (p gang : ℕ) (lt : p < gang) (u t : Elem) (index y : ℕ) where
  abbrev x : Map
  x = just p y

  abbrev turn : Mask → ℕ → Round
  turn a b = record { members = a; begins = λ s. written Uniform index a (One (converted u t b)) (tick s) }

  low : lowest gang (have x) ≡ Some p
  low = ap (lowest gang) (where_just p (λ b. true) y) ∙ lowest_lone p gang lt

  -- it alone holds its value
  alone : holders u x p ≡ lone (Some p)
  alone =
      ap (λ o. holding u (number u (or_zero o)) x) (just_here p y)
      ∙ where_just p (λ b. compare_to Equal (number u b) (number u y)) y
      ∙ ap (lone_if p) ((Decides-int_eq (number u y) (number u y)).1 refl)

  nobody_left : lowest gang (have (except x (lone (Some p)))) ≡ None
  nobody_left = ap (lowest gang) (fun_ext (λ q. at (nat_eq q p))) ∙ lowest_nobody gang
    where
      at : (b : Bool) → holds (λ z. true) (if b then None else (if b then Some y else None)) ≡ false
      at true = refl
      at false = refl

  pub unique_lone : unique_rounds gang u t index x ≡ turn (lone (Some p)) y ∷ []
  unique_lone =
      unique_first gang u t index x p low
      ∙ ap₂ (λ (a : Mask) (o : Option ℕ). turn a (or_zero o) ∷ unique_rounds gang u t index (except x a)) alone (just_here p y)
      ∙ ap (λ (rs : List Round). turn (lone (Some p)) y ∷ rs) (unique_none gang u t index (except x (lone (Some p))) nobody_left)
