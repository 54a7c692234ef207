-- What a list of all faults says of a source text.
use Rattle.std.proofs.Common.{◌≡◌, ℕ, ◌∙◌, inl, inr, sym, subst, ap, arith, Vec, Global}
use Rattle.std.specs.Prelude.{List, [], ◌∷◌, ◌↔◌, AllPairs, Contains, Some, Option, Result, Ok, Err, slice_get}
use Rattle.std.specs.Result.{IfOk}
use Rattle.isp_base.specs.declared.types.Gang.{Gang}
use Rattle.isp_lex.specs.declared.fault.Fault.{Fault}
use Rattle.isp_tree.specs.Tree.{Function as Read}
use Rattle.isp_typed.specs.Promise.{Accepts, Refuses}
use Rattle.isp_typed.specs.Typed.{Program}
use Rattle.isp_types.specs.Functions.{IsProgram, Breach}
use Rattle.isp_rates.specs.Breaches.{Least}
use Rattle.isp_rates.specs.Program.{ProgramBreach}
use Rattle.isp_breaches.specs.Order.{Before}
use Rattle.isp_front.specs.Front.{IsFaulty, IsSource, IsUnread}
use Rattle.isp_faults.specs.Faults.{AreFaults, OfTree}

nothing : (f : Fault) → Contains [] f → ⊥
nothing f h = let no : ⊥ = omega (arith, h.1) in no

none_in : (xs : List Fault) (f : Fault) → xs ≡ [] → Contains xs f → ⊥
none_in xs f e h = nothing f (subst (λ (z : List Fault). Contains z f) e h)

one_empty : (f : Fault) → f ∷ [] ≡ [] → ⊥
one_empty f e = cc

some_is : (f g : Fault) → ◌≡◌ {A = Option Fault} (Some f) (Some g) → f ≡ g
some_is f g e = cc

-- a text whose list is empty is the source of a program
pub none_source : (gang : Gang) (text : List ℕ) (xs : List Fault) → AreFaults gang text xs → xs ≡ [] → (program : Program) × IsSource gang text program
none_source gang text xs h e = elim h as (λ z. (program : Program) × IsSource gang text program) [
  | inl u ↦ absurd (one_empty u.0 (sym u.2 ∙ e))
  | inr t ↦ elim t.2 as (λ z. (program : Program) × IsSource gang text program) [
    | inl r ↦ absurd (none_in xs r.0 e ((r.2.listed r.0).1 r.1.breach))
    | inr p ↦ (p.0, record { tree = t.0; has = t.1; checked = record { typed = p.1; sound = λ f b. none_in xs f e ((p.2.listed f).1 b) } })
  ]
]

-- the first of a list is a fault for which the text is refused
pub first_faulty : (gang : Gang) (text : List ℕ) (xs : List Fault) → AreFaults gang text xs → (f : Fault) → slice_get xs 0 ≡ Some f → IsFaulty gang text f
first_faulty gang text xs h f e = elim h as (λ z. IsFaulty gang text f) [
  | inl u ↦ inl (subst (λ (z : Fault). IsUnread text z) (some_is u.0 f (sym (ap (λ (z : List Fault). slice_get z 0) u.2) ∙ e)) u.1)
  | inr t ↦ elim t.2 as (λ z. IsFaulty gang text f) [
    | inl r ↦
        let least = subst (λ (z : Option Fault). Least z (Breach gang t.0)) e r.2.first in
        inr (t.0, t.1, inl (record { nothing = r.1.nothing; breach = least.by.0; first = least.by.1 }))
    | inr p ↦ inr (t.0, t.1, inr (p.0, p.1, subst (λ (z : Option Fault). Least z (ProgramBreach p.0)) e p.2.first))
  ]
]

-- ---- what the code answers of a tree

pub names_list : {E : Type 0} (r : Result (Vec Fault Global) E) (gang : Gang) (tree : List Read) (f : Fault) → Refuses (IsProgram gang tree) (Breach gang tree) f
    → IfOk r (λ v. (g : Fault) → Contains v.items g ↔ Breach gang tree g) → IfOk r (λ v. AllPairs Before v.items) → IfOk r (λ v. Least (slice_get v.items 0) (Breach gang tree))
    → IfOk r (λ v. OfTree gang tree v.items)
names_list (Ok v) gang tree f h l o e = inl (f, h, record { listed = l; ordered = o; first = e })
names_list (Err e) gang tree f h l o d = tt

pub program_list : {E : Type 0} (r : Result (Vec Fault Global) E) (gang : Gang) (tree : List Read) (program : Program) → Accepts (IsProgram gang tree) (Breach gang tree) program
    → IfOk r (λ v. (g : Fault) → Contains v.items g ↔ ProgramBreach program g) → IfOk r (λ v. AllPairs Before v.items) → IfOk r (λ v. Least (slice_get v.items 0) (ProgramBreach program))
    → IfOk r (λ v. OfTree gang tree v.items)
program_list (Ok v) gang tree program h l o e = inr (program, h, record { listed = l; ordered = o; first = e })
program_list (Err e) gang tree program h l o d = tt
