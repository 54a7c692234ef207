-- All faults of a source text that are told at once: for which it has no tree; else all breaches of names and types; else, where
-- it has a typed program, all breaches of rates, exits and exports.
use Rattle.std.specs.Prelude.{◌≡◌, ◌↔◌, ◌⊎◌, ℕ, List, [], ◌∷◌, AllPairs, Contains, slice_get}
use Rattle.isp_base.specs.declared.types.Gang.{Gang}
use Rattle.isp_lex.specs.declared.fault.Fault.{Fault}
use Rattle.isp_tree.specs.Tree.{Function as Read}
use Rattle.isp_typed.specs.Promise.{Accepts, Refuses}
use Rattle.isp_typed.specs.Typed.{Program}
use Rattle.isp_types.specs.Functions.{IsProgram, Breach}
use Rattle.isp_rates.specs.Breaches.{Least}
use Rattle.isp_rates.specs.Program.{ProgramBreach}
use Rattle.isp_breaches.specs.Order.{Before}
use Rattle.isp_front.specs.Front.{HasTree, IsUnread}

-- the faults that B has and no other, each before those that follow it; the first is the one that is answered
pub record IsList (xs : List Fault) (B : Fault → Type 0) : Type 0 where
  pub listed : (f : Fault) → Contains xs f ↔ B f
  pub ordered : AllPairs Before xs
  pub first : Least (slice_get xs 0) B

-- of a tree
abbrev pub OfTree : Gang → List Read → List Fault → Type 0
OfTree gang tree xs =
    ((f : Fault) × Refuses (IsProgram gang tree) (Breach gang tree) f × IsList xs (Breach gang tree))
    ⊎ ((program : Program) × Accepts (IsProgram gang tree) (Breach gang tree) program × IsList xs (ProgramBreach program))

-- of a text
abbrev pub AreFaults : Gang → List ℕ → List Fault → Type 0
AreFaults gang text xs = ((f : Fault) × IsUnread text f × (xs ≡ f ∷ [])) ⊎ ((tree : List Read) × HasTree text tree × OfTree gang tree xs)
