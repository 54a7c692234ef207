-- The premises of the law of solo runs hold of the samples.
use Rattle.std.proofs.Common.{◌≡◌, refl, sym, ap, ◌∙◌, ℕ, ◌≤◌, List, [], ◌∷◌, None, arith, lit<}
use Rattle.std.specs.Prelude.{true, false, codes}
use Rattle.std.specs.List.{All}
use Rattle.std.specs.Fmt.{digits}
use Rattle.std.proofs.lemmas.List.Elements.{All-nil, All-cons}
use Rattle.isp_base.specs.Outcomes.{Outcome, Ends, Traps, GoesOn}
use Rattle.isp_base.specs.Rows.{Row}
use Rattle.isp_base.specs.Values.{number_to, wrap_to}
use Rattle.isp_base.specs.declared.signature.Argument.{Argument}
use Rattle.isp_base.specs.declared.signature.Parameter.{Parameter}
use Rattle.isp_base.specs.declared.types.Rate.TheVariants.{Uniform, Varying}
use Rattle.isp_lex.specs.Lexing.{IsWord}
use Rattle.isp_typed.specs.Typed.{TFunction, t_call, t_called, t_arguments, t_by_value}
use Rattle.isp_typed.specs.Fine.{FineExpr, IsDeclared}
use Rattle.isp_typed.specs.Indices.{foreach_index}
use Rattle.isp_typed.specs.declared.variable.Variable.{Variable}
use Rattle.isp_rates.specs.Accepted.{IsAccepted}
use Rattle.isp_meaning.specs.Runs.{run_of}
use Rattle.isp_solo_meaning.specs.Answers.{Answer}
use Rattle.isp_solo_meaning.specs.OneByOne.{IsOrder}
use Rattle.isp_solo_meaning.specs.Runs.{solo_run, bound, IsEnded}
use Rattle.isp_solo_laws.proofs.Entry.{solo_runs_agree}
use Rattle.isp_meaning_laws.specs.Words.{at, int, number, read, item, parameter, program, given, value, array, row, array_of}
use Rattle.isp_meaning_laws.specs.Samples.{MeetsAll, Agrees, behind, doubles, halves, given_six, PremisesOfSamples}
use Rattle.isp_meaning_laws.proofs.Fine.{starts, ends, fits0, fits1, fits2, le11, le13, le22, array_is, value_is, zero_is, range_is, word_of, one_fine, one_scoped, two_fine, two_scoped}
use Rattle.isp_meaning_laws.proofs.Depending.{of_one, of_two}
use Rattle.isp_meaning_laws.proofs.Apart.{below_four, Stores, Finds, apart_by, one_stored, two_stored, one_read, two_read}

-- ---- what the law says

abbrev left_in : Outcome → List Row
left_in (Ends rs a out) = rs
left_in (Traps t rs out) = rs
left_in (GoesOn out) = []

any_order : (fs : List TFunction) (f : ℕ) (xs : List Argument) (n : ℕ) (ys : List Row) → ((ps : List ℕ) → IsOrder 4 ps → run_of (program fs) f n xs ≡ Ends (behind fs f xs n ps) None []) → run_of (program fs) f n xs ≡ Ends ys None []
    → (ps : List ℕ) → IsOrder 4 ps → behind fs f xs n ps ≡ ys
any_order fs f xs n ys law e ps o = ap left_in (sym (law ps o) ∙ e)

-- ---- doubles

doubles_accepted : IsAccepted (program doubles)
doubles_accepted =
    let a = array_is (given ∷ []) (array 0) given refl refl refl in
    record {
      fine = one_fine _ (record { params = ((refl, refl), tt); names = refl; declared = All-nil IsDeclared; gives = refl; body = search (starts, ends, fits1, fits2, a) depth 40 }) (lit< tt);
      scoped = one_scoped _ (record { body = search depth 20; all = refl; name = (refl, refl); words = word_of (parameter (codes "a") true) (refl, refl) });
      sound = λ f h. grind (arith, h);
    }

abbrev one_to_four : List Argument
one_to_four = array_of (1 ∷ 2 ∷ 3 ∷ 4 ∷ []) ∷ []

abbrev doubling : ℕ → Answer ℕ
doubling = solo_run (program doubles) 0 0 one_to_four (bound one_to_four)

doubles_meet : MeetsAll doubles 0 one_to_four 0
unfolding digits number_to wrap_to
doubles_meet = record {
  accepted = doubles_accepted;
  function = _;
  entry = record { export = record { found = refl; named = refl; exported = refl }; fits = refl };
  independent = λ d h. let e = of_one _ refl d h in grind (arith, e);
  ended = below_four (λ p. IsEnded (doubling p)) tt tt tt tt;
  apart = apart_by doubling 0 0 (below_four (Stores doubling 0) (λ c i h. one_stored 0 0 c i _ refl h) (λ c i h. one_stored 0 1 c i _ refl h) (λ c i h. one_stored 0 2 c i _ refl h) (λ c i h. one_stored 0 3 c i _ refl h))
      (below_four (Finds doubling 0) (λ c i h. one_read 0 0 c i refl h) (λ c i h. one_read 0 1 c i refl h) (λ c i h. one_read 0 2 c i refl h) (λ c i h. one_read 0 3 c i refl h));
}

doubles_agree : Agrees doubles 0 one_to_four 0 (row (3 ∷ 5 ∷ 7 ∷ 9 ∷ []) ∷ [])
unfolding digits number_to wrap_to doubles_meet
doubles_agree = record {
  meets = doubles_meet;
  by_law = law;
  together = refl;
  upward = refl;
  in_any_order = any_order doubles 0 one_to_four 0 _ law refl;
} where
  law : (ps : List ℕ) → IsOrder 4 ps → run_of (program doubles) 0 0 one_to_four ≡ Ends (behind doubles 0 one_to_four 0 ps) None []
  law ps o = let m = doubles_meet in solo_runs_agree (program doubles) (codes "f") 0 _ one_to_four 0 m.accepted m.entry m.independent m.ended m.apart ps o 0 (omega arith)

-- ---- halves

le34 : 3 ≤ 4
le34 = omega arith

-- variables: x and k; a, b, n and i
abbrev own : List Variable
own = value Varying ∷ value Varying ∷ []

abbrev all : List Variable
all = given ∷ given ∷ value Uniform ∷ foreach_index ∷ []

call_is : FineExpr halves all (t_call (t_called 0 (t_arguments (t_by_value (item 0 (read Varying 3)) ∷ [])) at) (int Varying))
call_is =
    let a = array_is all (array 0) given refl refl refl in
    let i = value_is all 3 (int Varying) true refl in
    (_, refl, refl, (((a, i, refl, (starts, ends)), refl), tt), (starts, ends))

abbrev a : Parameter
a = parameter (codes "a") true

abbrev b : Parameter
b = parameter (codes "b") true

abbrev n : Parameter
n = parameter (codes "n") false

words : All (λ p. IsWord p.name) (a ∷ b ∷ n ∷ [])
words = All-cons (λ p. IsWord p.name) a (b ∷ n ∷ []) (refl, refl) (All-cons (λ p. IsWord p.name) b (n ∷ []) (refl, refl) (word_of n (refl, refl)))

index_declared : All IsDeclared (foreach_index ∷ [])
index_declared = All-cons IsDeclared foreach_index [] tt (All-nil IsDeclared)

halves_accepted : IsAccepted (program halves)
halves_accepted =
    let x = value_is own 0 (int Varying) false refl in
    let k = value_is own 1 (int Varying) false refl in
    let d = zero_is halves own 1 Varying false refl in
    let r = array_is all (array 1) given refl refl refl in
    let i = value_is all 3 (int Varying) true refl in
    let s = range_is halves all (record { index = 3; start = number 0; end = read Uniform 2; span = at }) (record { index = refl; start = (fits0, refl); end = (value_is all 2 (int Uniform) false refl, refl) }) in
    record {
      fine = two_fine _ _
          (record { params = ((refl, refl), tt); names = refl; declared = All-cons IsDeclared (value Varying) [] tt (All-nil IsDeclared); gives = refl; body = search (starts, ends, fits2, le22, x, k, d) depth 40 })
          (record { params = ((refl, refl), ((refl, refl), ((refl, refl), tt))); names = refl; declared = index_declared; gives = refl; body = search (starts, ends, le34, r, i, s, call_is) depth 40 }) refl (lit< tt);
      scoped = two_scoped _ _ (record { body = search depth 30; all = refl; name = (refl, refl); words = word_of (parameter (codes "x") false) (refl, refl) })
          (record { body = search (le11, le13) depth 30; all = refl; name = (refl, refl); words = words });
      sound = λ f h. grind (arith, h);
    }

abbrev halving : ℕ → Answer ℕ
halving = solo_run (program halves) 1 5 given_six (bound given_six)

halves_meet : MeetsAll halves 1 given_six 5
unfolding digits number_to wrap_to
halves_meet = record {
  accepted = halves_accepted;
  function = _;
  entry = record { export = record { found = refl; named = refl; exported = refl }; fits = refl };
  independent = λ d h. let e = of_two _ _ refl refl d h in grind (arith, e);
  ended = below_four (λ p. IsEnded (halving p)) tt tt tt tt;
  apart = apart_by halving 1 0 (below_four (Stores halving 1) (λ c i h. two_stored 1 0 4 c i _ _ refl refl h) (λ c i h. two_stored 1 1 5 c i _ _ refl refl h) (λ c i h. one_stored 1 2 c i _ refl h) (λ c i h. one_stored 1 3 c i _ refl h))
      (below_four (Finds halving 0) (λ c i h. two_read 0 0 4 c i refl refl h) (λ c i h. two_read 0 1 5 c i refl refl h) (λ c i h. one_read 0 2 c i refl h) (λ c i h. one_read 0 3 c i refl h));
}

halves_agree : Agrees halves 1 given_six 5 (row (1 ∷ 2 ∷ 5 ∷ 8 ∷ 3 ∷ 16 ∷ []) ∷ row (0 ∷ 1 ∷ 2 ∷ 3 ∷ 1 ∷ 4 ∷ 9 ∷ []) ∷ [])
unfolding digits number_to wrap_to halves_meet
halves_agree = record {
  meets = halves_meet;
  by_law = law;
  together = refl;
  upward = refl;
  in_any_order = any_order halves 1 given_six 5 _ law refl;
} where
  law : (ps : List ℕ) → IsOrder 4 ps → run_of (program halves) 1 5 given_six ≡ Ends (behind halves 1 given_six 5 ps) None []
  law ps o = let m = halves_meet in solo_runs_agree (program halves) (codes "f") 1 _ given_six 5 m.accepted m.entry m.independent m.ended m.apart ps o 0 (omega arith)

pub premises_of_samples : PremisesOfSamples
premises_of_samples = record { doubling = doubles_agree; halving = halves_agree }
