-- What instances touch, alone from four zeros: functions of which two clash at an element, and how a run ends.
use Rattle.std.specs.Prelude.{◌≡◌, ℕ, List, [], ◌∷◌, Some, None}
use Rattle.std.proofs.Common.{refl, inl, inr, lit<}
use Rattle.isp_base.specs.Values.{number_to, wrap_to}
use Rattle.isp_base.specs.Traps.{trap}
use Rattle.isp_base.specs.declared.types.Elem.TheVariants.{I32}
use Rattle.isp_base.specs.declared.types.Rate.TheVariants.{Varying}
use Rattle.isp_base.specs.declared.operators.Compare.TheVariants.{Less}
use Rattle.isp_base.specs.declared.trap.TrapKind.TheVariants.{Index}
use Rattle.isp_typed.specs.Typed.{t_declare, t_with_value, ty_of, TStmt}
use Rattle.isp_meaning.proofs.Programs.{at, number, truth, index, varying, item, plus, test, set_item, while, each, given, function}
use Rattle.isp_solo_meaning.specs.Answers.{Bad, Long, Answer, reached}
use Rattle.isp_solo_meaning.specs.Runs.{IsEnded}
use Rattle.isp_solo_meaning.specs.Touched.{Clash}
use Rattle.isp_tests_solo_meaning.specs.Words.{array_of, alone, zeros}

-- variables: a, x (varying)
abbrev run : List TStmt → ℕ → Answer ℕ
run ss p = alone (function None (given ∷ each ∷ []) ss ∷ []) (array_of zeros ∷ []) p

-- int x = a[0]; a[programIndex] = x;
abbrev read_first : List TStmt
read_first = t_declare (t_with_value 1 (ty_of Varying I32) (item 0 (number 0)) at ∷ []) at ∷ set_item 0 index (varying 1) ∷ []

-- instance 0 stores in a[0], which 1 reads
reader : Clash 4 (run read_first) 0 0
unfolding number_to wrap_to
reader = record { writer = 0; other = 1; writer_is = lit< tt; other_is = lit< tt; two = λ e. cc; writes = refl; touches = inl refl }

-- and each ends by itself
each_ends : IsEnded (run read_first 0) × IsEnded (run read_first 1) × IsEnded (run read_first 2) × IsEnded (run read_first 3)
unfolding number_to wrap_to
each_ends = (tt, tt, tt, tt)

-- a[0] = 3;
writers : Clash 4 (run (set_item 0 (number 0) (number 3) ∷ [])) 0 0
unfolding number_to wrap_to
writers = record { writer = 0; other = 1; writer_is = lit< tt; other_is = lit< tt; two = λ e. cc; writes = refl; touches = inr refl }

-- int x = 0; a[x] = programIndex;
varying_writers : Clash 4 (run (t_declare (t_with_value 1 (ty_of Varying I32) (number 0) at ∷ []) at ∷ set_item 0 (varying 1) index ∷ [])) 0 0
unfolding number_to wrap_to
varying_writers = record { writer = 2; other = 3; writer_is = lit< tt; other_is = lit< tt; two = λ e. cc; writes = refl; touches = inr refl }

-- a[programIndex + 1] = 1; instance 3 alone traps, and names itself
abbrev past_the_end : List TStmt
past_the_end = set_item 0 (plus index (number 1)) (number 1) ∷ []

trapped : run past_the_end 3 ≡ Bad (trap Index at 3) (reached (run past_the_end 3))
unfolding number_to wrap_to
trapped = refl

touches_nothing : ((reached (run past_the_end 3)).wrote 0 4 ≡ None) × ((reached (run past_the_end 2)).wrote 0 3 ≡ Some 1)
unfolding number_to wrap_to
touches_nothing = (refl, refl)

-- while (true) { } makes more turns than it may
cut : run (while truth [] ∷ []) 1 ≡ Long (reached (run (while truth [] ∷ []) 1))
unfolding number_to wrap_to
cut = refl

-- while (a[0] < 9) a[0] = a[0] + 1; makes nine turns and ends, and reads what it stored itself
nine_turns : (IsEnded (run (while (test Less (item 0 (number 0)) (number 9)) (set_item 0 (number 0) (plus (item 0 (number 0)) (number 1)) ∷ []) ∷ [])
    1)) × ((reached (run (while (test Less (item 0 (number 0)) (number 9)) (set_item 0 (number 0) (plus (item 0 (number 0)) (number 1)) ∷ []) ∷ [])
    1)).wrote 0 0 ≡ Some 9)
unfolding number_to wrap_to
nine_turns = (tt, refl)
