-- Where a name stands in a list, as one goes along it.
use Rattle.std.proofs.Common.{◌≡◌, ℕ, suc, ◌+◌, ◌<◌, List, length, drop, get_or, ap, ◌∙◌, eq-eqb}
use Rattle.std.specs.Prelude.{nat_eq}
use Rattle.std.proofs.lemmas.Bool.{cond-true, cond-false, ne_eqb}
use Rattle.std.proofs.lemmas.List.{drop_more}
use Rattle.isp_wasm.specs.Locals.{position}

pub found : (xs : List ℕ) (n x : ℕ) → n < length xs → get_or xs n 0 ≡ x → position (drop n xs) x ≡ 0
found xs n x h e =
    ap (λ l. position l x) (drop_more xs n 0 h) ∙ cond-true (nat_eq (get_or xs n 0) x) 0 (suc (position (drop (n + 1) xs) x)) (eq-eqb (get_or xs n 0) x e)

pub passed : (xs : List ℕ) (n x : ℕ) → n < length xs → (get_or xs n 0 ≡ x → ⊥) → position (drop n xs) x ≡ suc (position (drop (n + 1) xs) x)
passed xs n x h e =
    ap (λ l. position l x) (drop_more xs n 0 h) ∙ cond-false (nat_eq (get_or xs n 0) x) 0 (suc (position (drop (n + 1) xs) x)) (ne_eqb (get_or xs n 0) x e)
