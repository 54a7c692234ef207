-- Laws of what instances do alone.
use Rattle.std.specs.Prelude.{◌≡◌, ℕ, ◌<◌, ◌≤◌, List, Some, None}
use Rattle.isp_base.specs.Types.{gang_width}
use Rattle.isp_base.specs.declared.signature.Argument.{Argument}
use Rattle.isp_typed.specs.Typed.{Program}
use Rattle.isp_solo_meaning.specs.Answers.{reached}
use Rattle.isp_solo_meaning.specs.Runs.{solo_run}
use Rattle.isp_solo_meaning.specs.Touched.{Reads, AreApart}
use Rattle.isp_solo_meaning.specs.OneByOne.{one_by_one, IsOrder}
use Rattle.isp_solo_meaning.specs.Longer.{Later, Names}

-- Over other arrays, which have the same elements where a run reads, it is the same run.
abbrev pub ReadsDecide : Type 0
ReadsDecide =
    (program : Program) (f most : ℕ) (xs : List Argument) (m other : ℕ → ℕ → ℕ) (p : ℕ)
    → ((b e : ℕ) → Reads (solo_run program f most xs m p) b e → m b e ≡ other b e)
    → solo_run program f most xs other p ≡ solo_run program f most xs m p

-- Where no two instances clash, they leave the same in any order: an element has what the one instance that stores there
-- stores alone, and where none stores it is as it was.
abbrev pub AnyOrder : Type 0
AnyOrder =
    (program : Program) (f most : ℕ) (xs : List Argument) (m : ℕ → ℕ → ℕ) (ps : List ℕ)
    → AreApart (gang_width program.gang) (solo_run program f most xs m)
    → IsOrder (gang_width program.gang) ps
    → (b e : ℕ)
    → ((p x : ℕ) → p < gang_width program.gang → (reached (solo_run program f most xs m p)).wrote b e ≡ Some x → one_by_one program f most xs ps m b e ≡ x)
    × (((p : ℕ) → p < gang_width program.gang → (reached (solo_run program f most xs m p)).wrote b e ≡ None) → one_by_one program f most xs ps m b e ≡ m b e)

-- A run that ended or trapped is the same with more turns. What a cut one touched a longer one touches too.
abbrev pub MoreTurnsAlone : Type 0
MoreTurnsAlone =
    (program : Program) (f few most : ℕ) (xs : List Argument) (m : ℕ → ℕ → ℕ) (p : ℕ)
    → few ≤ most
    → Later (solo_run program f few xs m p) (solo_run program f most xs m p)

-- A trap names the instance that runs.
abbrev pub TrapsNameTheInstance : Type 0
TrapsNameTheInstance =
    (program : Program) (f most : ℕ) (xs : List Argument) (m : ℕ → ℕ → ℕ) (p : ℕ)
    → Names p (solo_run program f most xs m p)
