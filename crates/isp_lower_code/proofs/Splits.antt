-- A number is below another one or not; a type is another one or not.
use Rattle.std.proofs.Common.{◌≡◌, ℕ, ◌<◌, ◌≤◌, ◌⊎◌, inl, inr, Bool, true, false, refl, sym, ap, ◌∙◌, ltb-true, ltb-false, eqb-true}
use Rattle.std.specs.Prelude.{nat_lt, ◌==◌, if◌then◌else◌}
use Rattle.isp_base.specs.Ranks.{rank, same_elem}
use Rattle.isp_base.specs.declared.types.Elem.{Elem}
use Rattle.isp_base.specs.declared.types.Elem.TheVariants.{Bool as Truth, I8, U8, I16, U16, I32, U32, I64, U64}

pub split_at : (x m : ℕ) → (x < m) ⊎ (m ≤ x)
split_at x m = go (nat_lt x m) refl
  where
    go : (d : Bool) → nat_lt x m ≡ d → (x < m) ⊎ (m ≤ x)
    go true e = inl (ltb-true x m e)
    go false e = inr (ltb-false x m e)

abbrev of_rank : ℕ → Elem
of_rank n = if n == 0 then Truth else (if n == 1 then I8 else (if n == 2 then U8 else (if n == 3 then I16 else (if n == 4 then U16 else (if n == 5 then I32 else (if n == 6 then U32 else (if n == 7 then I64 else U64)))))))

ranked : (e : Elem) → of_rank (rank e) ≡ e
ranked Truth = refl
ranked I8 = refl
ranked U8 = refl
ranked I16 = refl
ranked U16 = refl
ranked I32 = refl
ranked U32 = refl
ranked I64 = refl
ranked U64 = refl

pub same_elem-is : (a b : Elem) → same_elem a b ≡ true → a ≡ b
same_elem-is a b e = sym (ranked a) ∙ ap of_rank (eqb-true (rank a) (rank b) e) ∙ ranked b
