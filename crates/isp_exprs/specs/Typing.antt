-- A typing rule: which typed thing a part of the tree is, and beside it what its breaches are and its verdict: the thing, or the
-- breach that is answered. The words say how a rule is made of those of parts, and the three sides follow (isp_typed's
-- specs/Forms.antt, and for the verdict specs/Verdicts.antt). For example of `a[e]`
--     place_typing (element w x s) = found (element_at s) (both (given (named ns w)) (expr_typing x))
-- It is the typed place q where w means a variable k, x is the typed expression i, and `element_at s (k, i)` is `Ok q`. Its
-- breaches are that of w, those of x, and, where w means k and x is i, the fault that `element_at s (k, i)` is. So a rule
-- gives what is wrong with a node by itself, and a node whose part is faulty has no fault of its own.
use Rattle.std.specs.Prelude.{Bool, Option, Result, Ok}
use Rattle.isp_lex.specs.declared.fault.Fault.{Fault}
use Rattle.isp_typed.specs.Forms.{Both, Either, No_breach, Just, Made, Found, Wrong, Given, Refused, Provided, Unless, Perhaps, OfPerhaps}
use Rattle.isp_typed.specs.Verdicts as verdicts

pub record Typing (A : Type 0) : Type 1 where
  pub is : A → Type 0
  pub breach : Fault → Type 0
  pub verdict : Result A Fault

-- exactly this
abbrev pub exactly : {A : Type 0} → A → Typing A
exactly a = record { is = Just a; breach = No_breach; verdict = Ok a }

-- what is known of a name or said by words, or what is wrong with them
abbrev pub given : {A : Type 0} → Result A Fault → Typing A
given r = record { is = Given r; breach = Refused r; verdict = r }

-- two parts
abbrev pub both : {A B : Type 0} → Typing A → Typing B → Typing (A × B)
both x y = record { is = Both x.is y.is; breach = Either x.breach y.breach; verdict = verdicts.both x.verdict y.verdict }

-- what is made of parts
abbrev pub made : {A B : Type 0} → (A → B) → Typing A → Typing B
made make x = record { is = Made make x.is; breach = x.breach; verdict = verdicts.made make x.verdict }

-- what is found of parts, or what is wrong with them together
abbrev pub found : {A B : Type 0} → (A → Result B Fault) → Typing A → Typing B
found rule x = record { is = Found rule x.is; breach = Wrong rule x.is x.breach; verdict = verdicts.found rule x.verdict }

-- what asks for a test; its fault stands beside those of the parts
abbrev pub provided : {A : Type 0} → Bool → Fault → Typing A → Typing A
provided test f x = record { is = Provided test x.is; breach = Unless test f x.breach; verdict = verdicts.beside (verdicts.fault_unless test f) x.verdict }

-- what may be left out
abbrev pub perhaps : {A B : Type 0} → (A → Typing B) → Option A → Typing (Option B)
perhaps rule x = record { is = Perhaps (λ a. (rule a).is) x; breach = OfPerhaps (λ a. (rule a).breach) x; verdict = verdicts.perhaps (λ a. (rule a).verdict) x }
