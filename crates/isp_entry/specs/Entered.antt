-- With which function a run can begin.
use Rattle.std.specs.Prelude.{◌≡◌, ℕ, List, true}
use Rattle.isp_base.specs.Binding.{has_signature}
use Rattle.isp_base.specs.declared.signature.Argument.{Argument}
use Rattle.isp_typed.specs.Typed.{Program, TFunction}
use Rattle.isp_meaning.specs.Entries.{IsEntry}

-- a run can begin with function f
abbrev pub Begins : Program → List ℕ → List Argument → ℕ → Type 0
Begins program name xs f = (h : TFunction) × IsEntry program name xs f h

-- likewise with a function of its program
abbrev pub BeginsWith : Program → List ℕ → List Argument → TFunction → Type 0
BeginsWith program name xs h = (f : ℕ) × IsEntry program name xs f h

-- no run can begin
abbrev pub NoneBegins : Program → List ℕ → List Argument → Type 0
NoneBegins program name xs = (f : ℕ) → Begins program name xs f → ⊥

-- this is a function with which it can
abbrev pub Can : TFunction → List ℕ → List Argument → Type 0
Can h name xs = (h.exported ≡ true) × (h.name ≡ name) × (has_signature h.parameters xs ≡ true)
