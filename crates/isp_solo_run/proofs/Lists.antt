-- Slices that are matched, and parts that may be left out.
use Rattle.std.proofs.Common.{◌≡◌, sym, ap, ap₂, refl, ◌∙◌, ◌-◌, ◌<◌, List, [], ◌∷◌, Option, Some, None, Bor, arith, drop, get_or, length, take}
use Rattle.std.specs.Prelude.{option_map, option_copied}
use Rattle.std.proofs.lemmas.List.{take_all}

pub nothing_left : {A : Type 0} (xs : List A) → length xs < 1 → xs ≡ []
nothing_left [] h = refl
nothing_left (x ∷ xs) h = absurd (omega (arith, h))

pub headed : {A : Type 0} (xs : List A) (d : A) → 0 < length xs → d ≡ get_or xs 0 d → xs ≡ d ∷ take (length xs - 1) (drop 1 xs)
headed [] d h e = absurd (omega (arith, h))
headed (x ∷ xs) d h e = ap₂ (λ y ys. y ∷ ys) (sym e) (sym (take_all (length (x ∷ xs) - 1) xs (omega arith)))

copied_map : {T U : Type 0} (f : T → U) (o : Option (Bor T)) → option_map f (option_copied o) ≡ option_map (λ (v : Bor T). f v.now) o
copied_map f None = refl
copied_map f (Some x) = refl

pub part_is : {T U : Type 0} (f : T → U) (s : Option T) (o : Option (Bor T)) → option_copied o ≡ s → option_map f s ≡ option_map (λ (v : Bor T). f v.now) o
part_is f s o e = sym (ap (option_map f) e) ∙ copied_map f o
