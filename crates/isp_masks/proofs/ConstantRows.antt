-- Constants that are kept: their registers, what their code asks for, and that code, one constant after the other.
use Rattle.std.proofs.Common.{◌≡◌, inl, inr, ⊎_elim, ◌<◌, ◌≤◌, ℕ, ◌+◌, List, [], ◌∷◌, ◌++◌, length, drop, get_or, suc, Bool, true, false, refl, sym, ap, ◌∙◌, subst, arith, ne_eqb, true≢false}
use Rattle.std.proofs.lemmas.Bool.{false≢true}
use Rattle.std.proofs.lemmas.List.{drop_more, drop_all}
use Rattle.isp_base.specs.declared.types.Elem.{Elem}
use Rattle.isp_base.specs.declared.types.Elem.TheVariants.{I32}
use Rattle.isp_base.specs.declared.types.Rate.{Rate}
use Rattle.isp_base.specs.declared.types.Rate.TheVariants.{Uniform}
use Rattle.isp_base.specs.declared.types.Ty.{Ty}
use Rattle.std.specs.Prelude.{Option, ◌==◌}
use Rattle.isp_typed.specs.declared.variable.Variable.{Variable}
use Rattle.isp_lower_code.specs.FirstRows.{first_rows}
use Rattle.isp_registers.specs.Growth.{Grows, Keeps, Longer, rows_of}
use Rattle.isp_lower.specs.Emitted.{Appends, layout}
use Rattle.isp_lower_code.specs.Layout.{Layout}
use Rattle.isp_lower_code.specs.Own.{IsOwn}
use Rattle.isp_lower_code.specs.Rows.{Rows, keeps, layout_of, rows_at}
use Rattle.isp_lower_code.specs.declared.constant.Constant.{Constant}
use Rattle.isp_registers.specs.declared.registers.Registers.{Registers}
use Rattle.isp_code.specs.declared.instr.Instr.TheVariants as instr
use Rattle.isp_typed.specs.Typed.{TBlock}
use Rattle.isp_lower_code.specs.Pieces.{two}
use Rattle.isp_lower.specs.declared.types.Body.{Body}
use Rattle.isp_lower.specs.declared.types.Scope.{Scope}
use Rattle.isp_lower_code.proofs.Lemmas.{none_kept}
use Rattle.isp_registers.proofs.Lemmas.{kept_same, longer_keeps, longer_self, longer_then}
use Rattle.isp_lower.proofs.Lemmas.{appends_self, appends_then}
use Rattle.isp_masks.specs.Kept.{KeepsAll}
use Rattle.isp_masks_code.specs.Keeping.{KeepsThem, constants_asks, constants_code, keep_code, keep_steps, steps_at}
use Rattle.isp_masks_code.specs.Rounds.{fill_mask}
use Rattle.isp_masks_code.specs.Spots.{first_spot}
use Rattle.isp_masks_code.specs.Statements.{block_code, block_places, block_texts, returned}
use Rattle.isp_masks.specs.Written.{Writes, function_at}
use Rattle.isp_masks.proofs.Writing.{writes_back, writes_front}

-- ---- constants that are left

pub left_one : (xs : List Constant) (i : ℕ) (d : Constant) → i < length xs → drop i xs ≡ get_or xs i d ∷ drop (i + 1) xs
left_one xs i d lt = drop_more xs i d lt

-- any constant, where it does not matter which
pub some_constant : Constant
some_constant = record { rate = Uniform; elem = I32; bits = 0 }

pub left_none : (xs : List Constant) (i : ℕ) → length xs ≤ i → drop i xs ≡ []
left_none xs i le = drop_all i xs le

pub is_empty : (xs : List Constant) (t : Bool) → t ≡ (length xs == 0) → t ≡ true → xs ≡ []
is_empty [] t e f = refl
is_empty (x ∷ xs) t e f = absurd (false≢true (sym (ne_eqb (suc (length xs)) 0 (λ i. omega (arith, i))) ∙ sym e ∙ f))

pub not_empty : (xs : List Constant) (t : Bool) → t ≡ (length xs == 0) → t ≡ false → xs ≡ [] → ⊥
not_empty [] t e f h = true≢false (sym e ∙ f)
not_empty (x ∷ xs) t e f h = let none : ⊥ = cc in none

-- how many instructions one more takes
steps_more : (xs : List Constant) (x : Constant) → keep_steps (xs ++ x ∷ []) ≡ keep_steps xs + steps_at x.rate
steps_more [] x = omega arith
steps_more (y ∷ ys) x = let h = steps_more ys x in omega (arith, h)

pub counted_more : (xs new : List Constant) (x : Constant) (r : Rate) → new ≡ xs ++ x ∷ [] → x.rate ≡ r → keep_steps new ≡ keep_steps xs + steps_at r
counted_more xs new x r is rate = ap keep_steps is ∙ steps_more xs x ∙ ap (λ z. keep_steps xs + steps_at z) rate

-- ---- registers

pub none_more : (a : Registers) → KeepsAll a a []
none_more a = record { rows = longer_self a; all = tt; few = record { scalars = omega arith; vectors = omega arith; arrays = refl }; only = λ r t b e. inl e }

one_constant : (x : Constant) (r : Rate) (t : Elem) (b : ℕ) → (r ≡ x.rate) × ((t ≡ x.elem) × (b ≡ x.bits)) → x ≡ record { rate = r; elem = t; bits = b }
one_constant x r t b e =
    ap (λ z. record { rate = z; elem = x.elem; bits = x.bits }) (sym e.0) ∙ ap (λ z. record { rate = r; elem = z; bits = x.bits }) (sym e.1.0) ∙ ap (λ z. record { rate = r; elem = t; bits = z }) (sym e.1.1)

pub one_more : (a b c : Registers) (x : Constant) (xs : List Constant) → Keeps a b x → KeepsAll b c xs → KeepsAll a c (x ∷ xs)
one_more a b c x xs one rest = record {
  rows = longer_then a b c one.rows rest.rows;
  all = (longer_keeps b c rest.rows x.rate x.elem x.bits one.has, rest.all);
  few = record { scalars = omega (arith, one.few.scalars, rest.few.scalars); vectors = omega (arith, one.few.vectors, rest.few.vectors); arrays = rest.few.arrays ∙ one.few.arrays };
  only = λ r t k e. ⊎_elim (λ before. ⊎_elim (λ old. inl old) (λ new. inr (inl (one_constant x r t k new))) (one.only r t k before)) (λ later. inr (inr later)) (rest.only r t k e);
}

-- of the registers with which a function begins none keeps a constant
pub keeps_them : (rates : ℕ → List Rate) (vars : List Variable) (answer : Option Ty) (z m r : Registers) (ks : List Constant)
    → rows_of z ≡ first_rows vars answer → Grows z m → KeepsAll m r ks → keep_steps ks ≤ 24 → KeepsThem (layout_of rates (rows_of r)) ks
keeps_them rates vars answer z m r ks first grows keep short = record {
  all = keep.all;
  only = λ q t b e. ⊎_elim (λ before. let no : true ≡ false = sym before ∙ none q t b in absurd (cc)) (λ is. is) (keep.only q t b e);
  short = short;
}
  where
    none : (q : Rate) (t : Elem) (b : ℕ) → keeps (rows_at (rows_of m) q) t b ≡ false
    none q t b = kept_same z m grows q t b ∙ ap (λ (u : Rows). keeps (rows_at u q) t b) first ∙ none_kept vars answer q t b

pub longer_grown : (a b : Registers) → Grows a b → Longer a b
longer_grown a b g = record { scalars = g.scalars; vectors = g.vectors; arrays = g.arrays; loaded = g.loaded }

-- what is asked for is the function's own
pub constants_own : (vars : List Variable) (answer : Option Ty) (n : ℕ) (ks : List Constant) → IsOwn vars answer (constants_asks n ks)
constants_own vars answer n [] = tt
constants_own vars answer n (x ∷ xs) = (tt, (tt, constants_own vars answer n xs))

-- ---- the code

-- nothing where there are none, else the mask and each of them
pub none_begins : (l : Layout) (n : ℕ) (ks : List Constant) → ks ≡ [] → (a : Body) → Appends a a (λ pc p. constants_code l n ks) []
none_begins l n ks e a = subst (λ zs. Appends a a (λ pc p. constants_code l n zs) []) (sym e) (appends_self a)

pub some_begin : (l : Layout) (n : ℕ) (ks : List Constant) → (ks ≡ [] → ⊥) → (a b c : Body) → Appends a b (λ pc p. fill_mask n ∷ []) [] → Appends b c (λ pc p. keep_code l n ks) [] → Appends a c (λ pc p. constants_code l n ks) []
some_begin l n [] ne a b c f g = absurd (ne refl)
some_begin l n (x ∷ xs) ne a b c f g = appends_then a b c (λ pc p. fill_mask n ∷ []) (λ pc p. keep_code l n (x ∷ xs)) [] [] f g

-- a function's body after them, and what it gives back
pub function_written : (on : Scope) (ks : List Constant) (b : TBlock) (x y z w : Body) → Appends x y (λ pc p. constants_code (layout on) 3 ks) []
    → Writes y z (record {
      code = λ pc n. block_code (layout on) on.answer b pc n first_spot;
      places = block_places (layout on) b;
      texts = block_texts
          b;
    })
    → Appends z w (λ pc p. instr.Return (returned (layout on) on.answer) ∷ []) [] → Writes x w (function_at on ks b)
function_written on ks b x y z w f g h =
    writes_back x z w (record { code = λ pc n. two pc (constants_code (layout on) 3 ks) (λ pc1. block_code (layout on) on.answer b pc1 n first_spot); places = block_places (layout on) b; texts = block_texts b })
    (λ pc p. instr.Return (returned (layout on) on.answer) ∷ [])
    (writes_front x y z (constants_code (layout on) 3 ks) (record { code = λ pc n. block_code (layout on) on.answer b pc n first_spot; places = block_places (layout on) b; texts = block_texts b }) f g)
    h
