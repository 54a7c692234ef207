-- Words for the proofs that small programs are accepted.
use Rattle.std.proofs.Common.{◌≡◌, refl, ℕ, ◌<◌, ◌≤◌, List, [], ◌∷◌, Some, arith}
use Rattle.std.proofs.lemmas.List.Elements.{All-nil, All-cons}
use Rattle.std.specs.List.{All}
use Rattle.std.specs.Prelude.{Bool, true, slice_get}
use Rattle.isp_base.specs.Values.{greatest}
use Rattle.isp_base.specs.declared.types.Elem.TheVariants.{I32}
use Rattle.isp_base.specs.declared.types.Rate.{Rate}
use Rattle.isp_base.specs.declared.types.Ty.{Ty}
use Rattle.isp_base.specs.declared.signature.Parameter.{Parameter}
use Rattle.isp_lex.specs.Lexing.{IsWord, limit as longest}
use Rattle.isp_typed.specs.declared.variable.ArrayVariable.{ArrayVariable}
use Rattle.isp_typed.specs.declared.variable.Holds.TheVariants as holds
use Rattle.isp_typed.specs.declared.variable.Variable.{Variable}
use Rattle.isp_typed.specs.Typed.{t_with_value, t_with_size, TRange, TFunction}
use Rattle.isp_typed.specs.Fine.{HoldsArray, HoldsValue, IsSized, IsFine, FineFunction, FineItem, FineRange, all_new, array_type, most_nodes}
use Rattle.isp_typed.specs.Nodes.{program_nodes}
use Rattle.isp_typed.specs.Scoped.{IsScoped, ScopedFunction}
use Rattle.isp_meaning_laws.specs.Words.{at, int, number, program}

pub starts : 0 < 1
starts = omega arith

pub ends : 1 ≤ longest
ends = omega arith

pub fits0 : 0 ≤ greatest I32
fits0 = omega arith

pub fits1 : 1 ≤ greatest I32
fits1 = omega arith

pub fits2 : 2 ≤ greatest I32
fits2 = omega arith

pub fits3 : 3 ≤ greatest I32
fits3 = omega arith

pub fits4 : 4 ≤ greatest I32
fits4 = omega arith

pub array_is : (vars : List Variable) (a : ArrayVariable) (v : Variable) → slice_get vars a.number ≡ Some v → array_type v.holds ≡ Some a.ty → a.constant ≡ v.constant → HoldsArray vars a
array_is vars a v e t c = record { variable = v; is = e; ty = t; constant = c }

pub value_is : (vars : List Variable) (k : ℕ) (t : Ty) (c : Bool) → slice_get vars k ≡ Some (record { holds = holds.Value t; constant = c }) → HoldsValue vars k t
value_is vars k t c e = record { constant = c; is = e }

-- ---- numbers of variables

pub le11 : 1 ≤ 1
le11 = omega arith

pub le12 : 1 ≤ 2
le12 = omega arith

pub le13 : 1 ≤ 3
le13 = omega arith

pub le22 : 2 ≤ 2
le22 = omega arith

pub le23 : 2 ≤ 3
le23 = omega arith

pub le33 : 3 ≤ 3
le33 = omega arith

-- ---- lists of one

pub zero_is : (fs : List TFunction) (vars : List Variable) (k : ℕ) (r : Rate) (c : Bool) → slice_get vars k ≡ Some (record { holds = holds.Value (int r); constant = c }) → All (FineItem fs vars) (t_with_value k (int r) (number 0) at ∷ [])
zero_is fs vars k r c e = All-cons (FineItem fs vars) _ [] (value_is vars k (int r) c e, (fits0, refl)) (All-nil (FineItem fs vars))

pub array_declared : (fs : List TFunction) (vars : List Variable) (a : ArrayVariable) (n : ℕ) → slice_get vars a.number ≡ Some (record { holds = holds.Local a.ty n; constant = a.constant }) → IsSized n → All (FineItem fs vars) (t_with_size a at ∷ [])
array_declared fs vars a n e s = All-cons (FineItem fs vars) _ [] (n, e, s) (All-nil (FineItem fs vars))

pub range_is : (fs : List TFunction) (vars : List Variable) (r : TRange) → FineRange fs vars r → All (FineRange fs vars) (r ∷ [])
range_is fs vars r h = All-cons (FineRange fs vars) r [] h (All-nil (FineRange fs vars))

-- ---- programs of one function, and of two

pub word_of : (p : Parameter) → IsWord p.name → All (λ q. IsWord q.name) (p ∷ [])
word_of p h = All-cons (λ q. IsWord q.name) p [] h (All-nil (λ q. IsWord q.name))

pub one_fine : (f : TFunction) → FineFunction (f ∷ []) f → program_nodes (program (f ∷ [])) < most_nodes → IsFine (program (f ∷ []))
one_fine f h few = record { each = All-cons (FineFunction (f ∷ [])) f [] h (All-nil (FineFunction (f ∷ []))); names = refl; few = few }

pub one_scoped : (f : TFunction) → ScopedFunction f → IsScoped (program (f ∷ []))
one_scoped f h = record { each = All-cons ScopedFunction f [] h (All-nil ScopedFunction) }

pub two_fine : (g f : TFunction) → FineFunction (g ∷ f ∷ []) g → FineFunction (g ∷ f ∷ []) f → all_new [] (g.name ∷ f.name ∷ []) ≡ true → program_nodes (program (g ∷ f ∷ [])) < most_nodes → IsFine (program (g ∷ f ∷ []))
two_fine g f h k new few = record {
  each = All-cons (FineFunction (g ∷ f ∷ [])) g (f ∷ []) h (All-cons (FineFunction (g ∷ f ∷ [])) f [] k (All-nil (FineFunction (g ∷ f ∷ []))));
  names = new;
  few = few;
}

pub two_scoped : (g f : TFunction) → ScopedFunction g → ScopedFunction f → IsScoped (program (g ∷ f ∷ []))
two_scoped g f h k = record { each = All-cons ScopedFunction g (f ∷ []) h (All-cons ScopedFunction f [] k (All-nil ScopedFunction)) }
