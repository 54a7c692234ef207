-- The run of an entry by one instance alone.
use Rattle.std.specs.Prelude.{ℕ, false, List, None, slice_index}
use Rattle.isp_base.specs.Arguments.{rows, row_bits}
use Rattle.isp_base.specs.Maps.{or_old}
use Rattle.isp_base.specs.declared.signature.Argument.{Argument}
use Rattle.isp_typed.specs.Typed.{Program}
use Rattle.isp_meaning.specs.Calls.{most_calls}
use Rattle.isp_meaning.specs.Runs.{handed, first_frame, no_place}
use Rattle.isp_solo_meaning.specs.Alone.{Alone}
use Rattle.isp_solo_meaning.specs.Answers.{Answer, Has, Bad, Long, reached}
use Rattle.isp_solo_meaning.specs.Calls.{own_calls}

-- the arrays among the arguments, by store and element
abbrev pub bound : List Argument → ℕ → ℕ → ℕ
bound xs b e = slice_index (row_bits (rows xs) b) e

-- nothing is stored, and nothing read
abbrev pub fresh : Alone
fresh = record { uniforms = λ v. 0; varying = λ v. 0; own = λ v e. 0; result = 0; wrote = λ b e. None; read = λ b e. false }

-- what instance p answers by function f, where each loop makes at most so many turns each time it is entered, and the
-- arrays are m
abbrev pub solo_run : Program → ℕ → ℕ → List Argument → (ℕ → ℕ → ℕ) → ℕ → Answer ℕ
solo_run program f most xs m p = own_calls program most m p most_calls f no_place (handed 0 xs) (first_frame xs) fresh

abbrev pub IsEnded : Answer ℕ → Type 0
IsEnded (Has x s) = Unit {0}
IsEnded (Bad t s) = ⊥
IsEnded (Long s) = ⊥

abbrev pub value_of : Answer ℕ → ℕ
value_of (Has x s) = x
value_of (Bad t s) = 0
value_of (Long s) = 0

-- the arrays after a run that began with m
abbrev pub after : Answer ℕ → (ℕ → ℕ → ℕ) → ℕ → ℕ → ℕ
after r m b e = or_old ((reached r).wrote b e) (m b e)
