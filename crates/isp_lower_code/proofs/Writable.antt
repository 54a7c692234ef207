-- What is so of all in a list, and that a table has room for what fits.
use Rattle.std.proofs.Common.{◌≡◌, ℕ, zero, suc, ◌<◌, List, [], ◌∷◌, ◌++◌, length, get_or, Bool, true, false, sym, ◌∙◌, lt-ltb, arith}
use Rattle.std.specs.List.{list_all}
use Rattle.std.proofs.lemmas.Bool.{and_from, and_parts}
use Rattle.std.proofs.lemmas.List.Folds.{list_all-append}
use Rattle.isp_code.specs.Writable.{number_fits, table_has_room}

pub all_both : {X : Type 0} (p : X → Bool) (xs ys : List X) → list_all p xs ≡ true → list_all p ys ≡ true → list_all p (xs ++ ys) ≡ true
all_both p xs ys a b = list_all-append p xs ys ∙ and_from (list_all p xs) (list_all p ys) a b

pub all_at : {X : Type 0} (p : X → Bool) (xs : List X) (i : ℕ) (d : X) → list_all p xs ≡ true → i < length xs → p (get_or xs i d) ≡ true
all_at p [] i d all lt = absurd (omega (arith, lt))
all_at p (x ∷ xs) zero d all lt = (and_parts (p x) (list_all p xs) all).0
all_at p (x ∷ xs) (suc i) d all lt = all_at p xs i d (and_parts (p x) (list_all p xs) all).1 (omega (arith, lt))

pub has_room : {A : Type 0} (xs : List A) (fits : Bool) → length xs < 4294967296 → fits ≡ true → table_has_room xs fits ≡ true
has_room xs fits lt f = and_from (number_fits (length xs)) fits (lt-ltb (length xs) 4294967296 lt) f

pub differ : true ≡ false → ⊥
differ e = absurd (cc)

pub no_room : {A : Type 0} (xs : List A) (fits : Bool) → length xs < 4294967296 → fits ≡ true → table_has_room xs fits ≡ false → ⊥
no_room xs fits lt f none = differ (sym (has_room xs fits lt f) ∙ none)
