-- When an expression over a set does in each member what it does there alone.
use Rattle.std.specs.Prelude.{◌≡◌, ℕ, ◌<◌, List, [], ◌∷◌, Option, Some, None, Bool, true, false, slice_get}
use Rattle.isp_base.specs.Sets.{Mask, any}
use Rattle.isp_base.specs.Maps.{on}
use Rattle.isp_base.specs.declared.types.Rate.{Rate}
use Rattle.isp_base.specs.declared.types.Rate.TheVariants.{Uniform}
use Rattle.isp_base.specs.declared.types.Ty.{Ty}
use Rattle.isp_base.specs.declared.types.Span.{Span}
use Rattle.isp_typed.specs.Fine.{params_of}
use Rattle.isp_typed.specs.Scoped.{Scope}
use Rattle.isp_typed.specs.Typed.{TFunction, TPlace, t_variable, t_element, elem_of, rate_of}
use Rattle.isp_typed.specs.declared.variable.Holds.{Holds}
use Rattle.isp_typed.specs.declared.variable.Holds.TheVariants as holds
use Rattle.isp_typed.specs.declared.variable.Variable.{Variable as AVar}
use Rattle.isp_meaning.specs.Expressions.{Passed, Values, Store, Calls}
use Rattle.isp_meaning.specs.Places.{Place, Variable, Element}
use Rattle.isp_solo_meaning.specs.Places.{Spot, AVariable, AnElement}
use Rattle.isp_solo_meaning.specs.Values.{OwnCalls}
use Rattle.isp_meaning.specs.State.{State, Frame}
use Rattle.isp_meaning.specs.Outcomes.{Val, Gives}
use Rattle.isp_meaning.specs.Payloads.{Payload, One, Each, spread}
use Rattle.isp_solo_meaning.specs.Alone.{Alone}
use Rattle.isp_solo_meaning.specs.Answers.{Answer, Has, reached}
use Rattle.isp_solo_laws.specs.Stands.{World, Within, Stands, Same, AreSome, IfIn, EndsWithin}

-- off, an instance stays as it is; on, its run alone answers y and leaves s1
abbrev pub AnswersAlone : {A : Type 0} → Bool → Answer A → Alone → A → Alone → Type 0
AnswersAlone true r s0 y s1 = r ≡ Has y s1
AnswersAlone false r s0 y s1 = s1 ≡ s0

-- R says when x, which the gang has, stands for y, which the instances have. The uniforms stay, those of the gang, u, and
-- those of each instance.
pub record Agrees {A B : Type 0} (w : World) (a : Mask) (R : A → (ℕ → B) → Type 0) (own : ℕ → Answer B) (σ : ℕ → Alone) (v : Val A) (u : ℕ → ℕ) : Type 0 where
  pub x : A
  pub s : State
  pub y : ℕ → B
  pub after : ℕ → Alone
  pub is : v ≡ Gives x s
  pub alone : (p : ℕ) → AnswersAlone (a p) (own p) (σ p) (y p) (after p)
  pub value : R x y
  pub uniforms : s.uniforms ≡ u
  pub own_uniforms : (p : ℕ) → (after p).uniforms ≡ (σ p).uniforms
  pub stands : Stands w s after

-- from every state that stands for what the instances have, if each member's run alone ends
pub record Sim {A B : Type 0} (w : World) (v : Scope) (a : Mask) (R : A → (ℕ → B) → Type 0) (f : State → Val A) (own : ℕ → Alone → Answer B) : Type 0 where
  pub go : (s : State) (σ : ℕ → Alone) → Stands w s σ → Same v a s.uniforms σ
      → ((p : ℕ) → IfIn (a p) (EndsWithin (w.last p) (own p (σ p)))) → Agrees w a R (λ p. own p (σ p)) σ (f s) s.uniforms

-- one value for the gang
abbrev pub IsOne : Payload → Type 0
IsOne (One x) = Unit {0}
IsOne (Each x) = ⊥

-- each member of the set has the value of its own run, and where the rate is uniform there is one value for the gang
pub record Stand (gang : ℕ) (a : Mask) (r : Rate) (m : Payload) (y : ℕ → ℕ) : Type 0 where
  pub at : (p : ℕ) → spread a m p ≡ on a y p
  pub one : any gang a ≡ true → r ≡ Uniform → IsOne m

-- ---- what else is found over a set

-- A place is the same place. An index stands for what each member has as its own.
abbrev pub PlaceStands : ℕ → Mask → TPlace → Place → (ℕ → Spot) → Type 0
PlaceStands gang a (t_variable k t sp) x spots = (x ≡ Variable k t) × ((p : ℕ) → spots p ≡ AVariable k t)
PlaceStands gang a (t_element b i t sp) x spots =
    (m : Payload) × (y : ℕ → ℕ) × (x ≡ Element b (elem_of i) m) × ((p : ℕ) → spots p ≡ AnElement b (elem_of i) (y p)) × Stand gang a (rate_of i) m y

-- several values, one by one
abbrev pub ListAt : Mask → ℕ → List Payload → List ℕ → Type 0
ListAt a p [] [] = Unit {0}
ListAt a p (m ∷ ms) (y ∷ ys) = (spread a m p ≡ on a (λ q. y) p) × ListAt a p ms ys
ListAt a p ms ys = ⊥

abbrev pub AllOne : List Payload → Type 0
AllOne [] = Unit {0}
AllOne (m ∷ ms) = IsOne m × AllOne ms

pub record ListStands (gang : ℕ) (a : Mask) (r : Rate) (ms : List Payload) (ys : ℕ → List ℕ) : Type 0 where
  pub at : (p : ℕ) → ListAt a p ms (ys p)
  pub one : any gang a ≡ true → r ≡ Uniform → AllOne ms

-- ---- calls

-- what is handed over: a value of each member's own, or the same array
abbrev pub PassedAt : Mask → ℕ → Passed → Passed → Type 0
PassedAt a p (Values m) (Values (One y)) = spread a m p ≡ on a (λ q. y) p
PassedAt a p (Values m) (Values (Each y)) = ⊥
PassedAt a p (Values m) (Store b) = ⊥
PassedAt a p (Store b) (Store c) = b ≡ c
PassedAt a p (Store b) (Values y) = ⊥

abbrev pub AllPassedAt : Mask → ℕ → List Passed → List Passed → Type 0
AllPassedAt a p [] [] = Unit {0}
AllPassedAt a p (x ∷ xs) (y ∷ ys) = PassedAt a p x y × AllPassedAt a p xs ys
AllPassedAt a p xs ys = ⊥

-- a uniform parameter is handed one value, an array is one that is open
abbrev pub Suits : ℕ → Holds → Passed → Type 0
Suits opened (holds.Value t) (Values m) = t.rate ≡ Uniform → IsOne m
Suits opened (holds.Given e) (Store b) = b < opened
Suits opened h x = ⊥

abbrev pub AllSuit : ℕ → List AVar → List Passed → Type 0
AllSuit opened [] [] = Unit {0}
AllSuit opened (v ∷ vs) (x ∷ xs) = Suits opened v.holds x × AllSuit opened vs xs
AllSuit opened vs xs = ⊥

pub record PassedStand (opened : ℕ) (a : Mask) (vs : List AVar) (xs : List Passed) (ys : ℕ → List Passed) : Type 0 where
  pub at : (p : ℕ) → AllPassedAt a p xs (ys p)
  pub suit : AllSuit opened vs xs

-- a call without a result gives nothing that is looked at
abbrev pub AnswerStands : ℕ → Mask → Option Ty → Payload → (ℕ → ℕ) → Type 0
AnswerStands gang a None m y = Unit {0}
AnswerStands gang a (Some t) m y = Stand gang a t.rate m y

-- Calls of these functions over a set do in each member what they do there alone, in a program with the functions fs.
pub record CallsAgree (w : World) (fs : List TFunction) (IsCallable : ℕ → Type 0) (calls : Calls) (own : ℕ → OwnCalls) : Type 0 where
  pub more : (p f : ℕ) (place : Span) (xs : List Passed) (caller : Frame) (s : Alone) → Within (reached (own p f place xs caller s)) s
  pub go : (v : Scope) (a : Mask) (f : ℕ) (g : TFunction) (place : Span) (xs : List Passed) (ys : ℕ → List Passed) → slice_get fs f ≡ Some g → IsCallable f → AreSome w.gang a
      → PassedStand w.frame.opened a (params_of g) xs ys → Sim w v a (AnswerStands w.gang a g.answer) (calls f place a xs w.frame) (λ p. own p f place (ys p) w.frame)
