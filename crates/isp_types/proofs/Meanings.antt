-- What holds of whatever a name in scope stands for.
use Rattle.std.proofs.Common.{◌≡◌, ℕ, ◌<◌, Bool, true, false, cond, refl, sym, subst, arith}
use Rattle.std.specs.Prelude.{Option, Some, None, List, [], ◌∷◌, length, find, reverse, bytes_eq, option_map, Result, Ok, Err}
use Rattle.std.specs.List.{All}
use Rattle.std.proofs.lemmas.List.{reverse-append}
use Rattle.std.proofs.lemmas.List.Elements.{All-cons, All-head, All-tail, All-append}
use Rattle.isp_lex.specs.declared.fault.Fault.{Fault}
use Rattle.isp_tree.specs.declared.types.Word.{Word}
use Rattle.isp_typed.specs.declared.variable.Variable.{Variable}
use Rattle.isp_exprs.specs.declared.scope.Known.{Known}
use Rattle.isp_exprs.specs.declared.scope.Binding.{Binding}
use Rattle.isp_exprs.specs.Scopes.{or_unknown, named, with_name}

-- what a name stands for
abbrev StandsFor : (Known → Type 0) → Binding → Type 0
StandsFor Q b = (k : Known) → b.meaning ≡ Ok k → Q k

abbrev pub AllKnown : (Known → Type 0) → List Binding → Type 0
AllKnown Q ns = All (StandsFor Q) ns

no_less : (k : ℕ) → k < 0 → ⊥
no_less k lt = omega arith

found_all : (P : Binding → Type 0) (p : Binding → Bool) (xs : List Binding) (b : Binding) → All P xs → find p xs ≡ Some b → P b
found_all P p [] b a e = absurd (no e)
  where
    no : {A : Type 0} {x : A} → None ≡ Some x → ⊥
    no e = cc
found_all P p (x ∷ xs) b a e = go (found_all P p xs b (All-tail P x xs a)) (p x) e
  where
    some_is : (y z : Binding) → Some y ≡ Some z → y ≡ z
    some_is y z e = cc

    go : (find p xs ≡ Some b → P b) → (t : Bool) → cond t (Some x) (find p xs) ≡ Some b → P b
    go later true e = subst P (some_is x b e) (All-head P x xs a)
    go later false e = later e

reversed_all : (P : Binding → Type 0) (xs : List Binding) → All P xs → All P (reverse xs)
reversed_all P [] a = a
reversed_all P (x ∷ xs) a = subst (All P) (sym (reverse-append (x ∷ []) xs))
    (All-append P (reverse xs) (x ∷ []) (reversed_all P xs (All-tail P x xs a)) (All-cons P x [] (All-head P x xs a) (λ k d lt. absurd (no_less k lt))))

pub none_known : (Q : Known → Type 0) → AllKnown Q []
none_known Q = λ k d lt. absurd (no_less k lt)

pub known_mapped : (Q R : Known → Type 0) → ((k : Known) → Q k → R k) → (ns : List Binding) → AllKnown Q ns → AllKnown R ns
known_mapped Q R f ns a = λ i d lt. λ k e. f k (a i d lt k e)

module _ (Q : Known → Type 0) where
  -- what a name means that stands in scope
  pub known_named : (ns : List Binding) → AllKnown Q ns → (w : Word) (k : Known) → named ns w ≡ Ok k → Q k
  known_named ns scope w k e = go (find (λ b. bytes_eq b.name w.name) (reverse ns)) refl e
    where
      go : (o : Option Binding) → find (λ b. bytes_eq b.name w.name) (reverse ns) ≡ o → or_unknown w (option_map (λ (b : Binding). b.meaning) o) ≡ Ok k → Q k
      go None is e = absurd (no e)
        where
          no : {A B : Type 0} {f : B} {x : A} → Err f ≡ Ok x → ⊥
          no e = cc
      go (Some b) is e = found_all (StandsFor Q) (λ b. bytes_eq b.name w.name) (reverse ns) b (reversed_all (StandsFor Q) ns scope) is k e

  -- one more name, for the variable after those there are
  pub known_added : (ns : List Binding) (vars : List Variable) (w : List ℕ) (v : Variable) → AllKnown Q ns → Q (record { number = length vars; variable = v }) → AllKnown Q (with_name ns vars w (Ok v))
  known_added ns vars w v scope q = All-append (StandsFor Q) ns _ scope (All-cons (StandsFor Q) _ [] (λ k e. subst Q (ok_is _ k e) q) (none_known Q))
    where
      ok_is : (a b : Known) → ◌≡◌ {A = Result Known Fault} (Ok a) (Ok b) → a ≡ b
      ok_is a b e = cc
