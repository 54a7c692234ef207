-- What the answer of a checker promises, where P says what a thing is found to be, and B what its breaches are.
use Rattle.std.specs.Prelude.{◌≡◌, Result, Ok, Err}
use Rattle.isp_lex.specs.declared.fault.Fault.{Fault}
use Rattle.isp_typed.specs.Order.{NoLater}

-- a is the only thing that it is, and there is no breach
pub record Accepts {A : Type 0} (P : A → Type 0) (B : Fault → Type 0) (a : A) : Type 0 where
  pub is : P a
  pub only : (b : A) → P b → b ≡ a
  pub sound : (f : Fault) → B f → ⊥

-- it is nothing, e is a breach, and no breach is answered before e
pub record Refuses {A : Type 0} (P : A → Type 0) (B : Fault → Type 0) (e : Fault) : Type 0 where
  pub nothing : (a : A) → P a → ⊥
  pub breach : B e
  pub first : (f : Fault) → B f → NoLater e f

abbrev pub RightBy : {A : Type 0} → Result A Fault → (A → Type 0) → (Fault → Type 0) → Type 0
RightBy (Ok a) P B = Accepts P B a
RightBy (Err e) P B = Refuses P B e

pub record Right {A : Type 0} (v : Result A Fault) (P : A → Type 0) (B : Fault → Type 0) : Type 0 where
  pub by : RightBy v P B
