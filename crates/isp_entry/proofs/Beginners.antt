-- The functions of a program by number, and with which of them a run can begin.
use Rattle.std.proofs.Common.{◌≡◌, refl, sym, ap, subst, ◌∙◌, ℕ, zero, suc, ◌+◌, ◌<◌, ◌≤◌, List, [], ◌∷◌, length, get_or, Some, None, arith, ⊎_elim}
use Rattle.std.specs.Prelude.{slice_get}
use Rattle.std.proofs.lemmas.Bool.{cases_eq}
use Rattle.isp_base.specs.declared.signature.Argument.{Argument}
use Rattle.isp_typed.specs.Typed.{TFunction}
use Rattle.isp_typed.specs.Views.{function_of, functions_of, program_of}
use Rattle.isp_typed.specs.declared.function.Program.{Program}
use Rattle.isp_typed.specs.declared.function.TypedFunction.{TypedFunction}
use Rattle.isp_meaning.specs.Entries.{IsEntry}
use Rattle.isp_entry.specs.Entered.{Begins, BeginsWith, Can, NoneBegins}

there : (fs : List TypedFunction) (f : ℕ) (x : TypedFunction) → f < length fs → x ≡ get_or fs f x → slice_get (functions_of fs) f ≡ Some (function_of x)
there [] f x h e = absurd (omega (arith, h))
there (y ∷ fs) zero x h e = ap (λ (z : TypedFunction). Some (function_of z)) (sym e)
there (y ∷ fs) (suc f) x h e = there fs f x (omega (arith, h)) e

past : (fs : List TypedFunction) (f : ℕ) → length fs ≤ f → slice_get (functions_of fs) f ≡ None
past [] zero h = refl
past [] (suc f) h = refl
past (y ∷ fs) zero h = absurd (omega (arith, h))
past (y ∷ fs) (suc f) h = past fs f (omega (arith, h))

module _ (p : Program) (name : List ℕ) (xs : List Argument) where
  pub begins_at : (f : ℕ) (x : TypedFunction) → f < length p.functions.items → x ≡ get_or p.functions.items f x → Can (function_of x) name xs → Begins (program_of p) name xs f
  begins_at f x h e c = (function_of x, record { export = record { found = there p.functions.items f x h e; named = c.1; exported = c.0 }; fits = c.2 })

  -- the function of a number with which it can begin
  pub begins_with : (f : ℕ) (x : TypedFunction) → f < length p.functions.items → x ≡ get_or p.functions.items f x → Begins (program_of p) name xs f → BeginsWith (program_of p) name xs (function_of x)
  begins_with f x h e b = (f, subst (λ (k : TFunction). IsEntry (program_of p) name xs f k) (some_same b.0 (function_of x) (sym b.1.export.found ∙ there p.functions.items f x h e)) b.1)
    where
      some_same : (g h : TFunction) → Some g ≡ Some h → g ≡ h
      some_same g h k = cc

  can_of : (g h : TFunction) (f : ℕ) → g ≡ h → IsEntry (program_of p) name xs f h → Can g name xs
  can_of g h f e i = subst (λ (k : TFunction). Can k name xs) (sym e) (i.export.exported, i.export.named, i.fits)

  -- those below a number
  abbrev pub NoneBelow : ℕ → Type 0
  NoneBelow n = (f : ℕ) → f < n → Begins (program_of p) name xs f → ⊥

  pub none_yet : NoneBelow 0
  none_yet f h b = absurd (omega (arith, h))

  pub none_more : (n : ℕ) (x : TypedFunction) → n < length p.functions.items → x ≡ get_or p.functions.items n x → (Can (function_of x) name xs → ⊥) → NoneBelow n → NoneBelow (n + 1)
  none_more n x h e isnt below f lt b =
      ⊎_elim (λ (i : f ≡ n).
      let found : slice_get (functions_of p.functions.items) n ≡ Some b.0 = ap (λ (k : ℕ). slice_get (functions_of p.functions.items) k) (sym i) ∙ b.1.export.found in
      let same : function_of x ≡ b.0 = (let k = sym (there p.functions.items n x h e) ∙ found in some_same _ _ k) in
      isnt (can_of (function_of x) b.0 f same b.1))
      (λ ne. below f (omega (arith, lt, ne)) b) (cases_eq f n)
    where
      some_same : (g h : TFunction) → Some g ≡ Some h → g ≡ h
      some_same g h k = cc

  pub none_at_all : (n : ℕ) → length p.functions.items ≤ n → NoneBelow n → NoneBegins (program_of p) name xs
  none_at_all n h below f b =
      below f (inside f (length p.functions.items) (λ k. let no = sym (past p.functions.items f k) ∙ b.1.export.found in none_some b.0 no) h) b
    where
      none_some : (g : TFunction) → None ≡ Some g → ⊥
      none_some g k = cc

      inside : (f l : ℕ) → (l ≤ f → ⊥) → l ≤ n → f < n
      inside f l isnt h = grind (arith, isnt, h)
