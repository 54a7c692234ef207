-- Each rule of independent entries is needed: the samples are computed.
use Rattle.std.proofs.Common.{◌≡◌, refl, ℕ, ◌<◌, inl, inr, List, [], ◌∷◌, arith, lit<, sym, true≢false}
use Rattle.std.specs.Prelude.{true, false, codes, nat_lt}
use Rattle.std.specs.Fmt.{digits}
use Rattle.std.specs.List.{All}
use Rattle.std.proofs.lemmas.List.Elements.{All-nil, All-cons}
use Rattle.isp_base.specs.Values.{number_to, wrap_to}
use Rattle.isp_base.specs.declared.types.Rate.TheVariants.{Uniform, Varying}
use Rattle.isp_lex.specs.Lexing.{IsWord}
use Rattle.isp_typed.specs.declared.variable.Holds.TheVariants.{Local}
use Rattle.isp_typed.specs.Typed.{TFunction, t_call, t_called, t_arguments, t_by_value}
use Rattle.isp_typed.specs.Fine.{FineExpr, IsDeclared, IsSized}
use Rattle.isp_typed.specs.Indices.{foreach_index}
use Rattle.isp_typed.specs.Scoped.{ExprIn}
use Rattle.isp_rates.specs.Accepted.{IsAccepted}
use Rattle.isp_independence.specs.declared.dependence.Restriction.TheVariants.{Crossing, Printing, SharedArray, Outside, Turned, Foreach, Return}
use Rattle.isp_independence.specs.Reaches.{itself}
use Rattle.isp_solo_meaning.specs.Answers.{Answer}
use Rattle.isp_solo_meaning.specs.Runs.{solo_run, bound, IsEnded}
use Rattle.isp_solo_meaning.specs.Touched.{Reads, Writes}
use Rattle.isp_meaning_laws.specs.Words.{at, int, number, index, parameter, program, given, array, value, holding}
use Rattle.isp_meaning_laws.specs.Rules.{zeros, sums, prints, shares, counts, skips, parts, returns, CrossingIsNeeded, PrintingIsNeeded, SharedArrayIsNeeded, OutsideIsNeeded, TurnedIsNeeded, ForeachIsNeeded, ReturnIsNeeded}
use Rattle.isp_meaning_laws.proofs.Fine.{starts, ends, fits0, fits1, fits2, fits3, fits4, le11, le12, le13, le22, le23, le33, array_is, value_is, zero_is, array_declared, range_is, word_of, one_fine, one_scoped, two_fine, two_scoped}
use Rattle.isp_meaning_laws.proofs.Depending.{of_one, of_two}
use Rattle.isp_meaning_laws.proofs.Apart.{below_four, Stores, Finds, apart_by, first_apart, one_stored, none_stored, none_read, at_place}

abbrev alone : List TFunction → ℕ → ℕ → Answer ℕ
alone fs f = solo_run (program fs) f 9 zeros (bound zeros)

word_a : All (λ q. IsWord q.name) (parameter (codes "a") true ∷ [])
word_a = word_of (parameter (codes "a") true) (refl, refl)

one : 0 < 1
one = omega arith

sized : IsSized 4
sized = record { some = omega arith; few = omega arith }

-- ---- rule 1

sums_accepted : IsAccepted (program sums)
sums_accepted =
    let a = array_is (given ∷ []) (array 0) given refl refl refl in
    record {
      fine = one_fine _ (record { params = ((refl, refl), tt); names = refl; declared = All-nil IsDeclared; gives = refl; body = search (starts, ends, fits1, a) depth 40 }) (lit< tt);
      scoped = one_scoped _ (record { body = search depth 20; all = refl; name = (refl, refl); words = word_a });
      sound = λ f h. grind (arith, h);
    }

pub crossing_is_needed : CrossingIsNeeded
unfolding digits number_to wrap_to
crossing_is_needed = record {
  accepted = sums_accepted;
  function = _;
  entry = record { export = record { found = refl; named = refl; exported = refl }; fits = refl };
  breaks = (record { rule = Crossing; span = at }, inl (_, refl, search (inl, inr) depth 14), refl);
  alone = λ d h. let e = of_one _ refl d h in grind (arith, e);
  ended = below_four (λ p. IsEnded (alone sums 0 p)) tt tt tt tt;
  apart = λ b e t h. apart_by (alone sums 0) 0 0 (below_four (Stores (alone sums 0) 0) (λ c i h. one_stored 0 0 c i _ refl h) (λ c i h. one_stored 0 1 c i _ refl h) (λ c i h. one_stored 0 2 c i _ refl h) (λ c i h. one_stored 0 3 c i _ refl h))
      (below_four (Finds (alone sums 0) 0) (λ c i h. none_read 0 0 c i h) (λ c i h. none_read 0 1 c i h) (λ c i h. none_read 0 2 c i h) (λ c i h. none_read 0 3 c i h)) b e h;
  together = refl;
  one_by_one = refl;
  differ = λ e t. grind (arith, e, t);
}

-- ---- rule 2

prints_accepted : IsAccepted (program prints)
prints_accepted =
    let none = All-nil (FineExpr prints (given ∷ [])) in
    record {
      fine = one_fine _ (record { params = ((refl, refl), tt); names = refl; declared = All-nil IsDeclared; gives = refl; body = search none depth 40 }) (lit< tt);
      scoped = one_scoped _ (record { body = let none = All-nil (ExprIn (λ x. nat_lt x 1)) in search none depth 20; all = refl; name = (refl, refl); words = word_a });
      sound = λ f h. grind (arith, h);
    }

pub printing_is_needed : PrintingIsNeeded
unfolding digits number_to wrap_to
printing_is_needed = record {
  accepted = prints_accepted;
  function = _;
  entry = record { export = record { found = refl; named = refl; exported = refl }; fits = refl };
  breaks = (record { rule = Printing; span = at }, inl (_, refl, search (inl, inr) depth 14), refl);
  alone = λ d h. let e = of_one _ refl d h in grind (arith, e);
  ended = below_four (λ p. IsEnded (alone prints 0 p)) tt tt tt tt;
  apart = λ b e t h. apart_by (alone prints 0) 0 0 (below_four (Stores (alone prints 0) 0) (λ c i h. none_stored 0 0 c i h) (λ c i h. none_stored 0 1 c i h) (λ c i h. none_stored 0 2 c i h) (λ c i h. none_stored 0 3 c i h))
      (below_four (Finds (alone prints 0) 0) (λ c i h. none_read 0 0 c i h) (λ c i h. none_read 0 1 c i h) (λ c i h. none_read 0 2 c i h) (λ c i h. none_read 0 3 c i h)) b e h;
  together = refl;
  one_by_one = refl;
  differ = λ e t. grind (arith, e, t);
}

-- ---- rule 3

shares_accepted : IsAccepted (program shares)
shares_accepted =
    let own = All-cons IsDeclared (holding (Local (int Uniform) 4)) [] sized (All-nil IsDeclared) in
    let a = array_is (given ∷ holding (Local (int Uniform) 4) ∷ []) (array 0) given refl refl refl in
    let s = array_is (given ∷ holding (Local (int Uniform) 4) ∷ []) (array 1) (holding (Local (int Uniform) 4)) refl refl refl in
    let d = array_declared shares (given ∷ holding (Local (int Uniform) 4) ∷ []) (array 1) 4 refl sized in
    record {
      fine = one_fine _ (record { params = ((refl, refl), tt); names = refl; declared = own; gives = refl; body = search (starts, ends, fits1, fits3, a, s, d) depth 40 }) (lit< tt);
      scoped = one_scoped _ (record { body = search depth 20; all = refl; name = (refl, refl); words = word_a });
      sound = λ f h. grind (arith, h);
    }

pub shared_array_is_needed : SharedArrayIsNeeded
unfolding digits number_to wrap_to
shared_array_is_needed = record {
  accepted = shares_accepted;
  function = _;
  entry = record { export = record { found = refl; named = refl; exported = refl }; fits = refl };
  breaks = (record { rule = SharedArray; span = at }, inl (_, refl, search (inl, inr) depth 14), refl);
  alone = λ d h. let e = of_one _ refl d h in grind (arith, e);
  ended = below_four (λ p. IsEnded (alone shares 0 p)) tt tt tt tt;
  apart = first_apart (alone shares 0) (below_four (λ p. (e : ℕ) → Writes (alone shares 0 p) 0 e → e ≡ p) (λ e h. at_place e 0 _ h) (λ e h. at_place e 1 _ h) (λ e h. at_place e 2 _ h) (λ e h. at_place e 3 _ h))
      (below_four (λ p. (e : ℕ) → Reads (alone shares 0 p) 0 e → ⊥) (λ e h. true≢false (sym h)) (λ e h. true≢false (sym h)) (λ e h. true≢false (sym h)) (λ e h. true≢false (sym h)));
  together = refl;
  one_by_one = refl;
  differ = λ e t. grind (arith, e, t);
}

-- ---- rule 4

counts_accepted : IsAccepted (program counts)
counts_accepted =
    let a = array_is (given ∷ value Uniform ∷ []) (array 0) given refl refl refl in
    let u = value_is (given ∷ value Uniform ∷ []) 1 (int Uniform) false refl in
    let d = zero_is counts (given ∷ value Uniform ∷ []) 1 Uniform false refl in
    record {
      fine = one_fine _ (record { params = ((refl, refl), tt); names = refl; declared = All-cons IsDeclared (value Uniform) [] tt (All-nil IsDeclared); gives = refl; body = search (starts, ends, fits0, fits1, le22, a, u, d) depth 40 }) (lit< tt);
      scoped = one_scoped _ (record { body = search depth 20; all = refl; name = (refl, refl); words = word_a });
      sound = λ f h. grind (arith, h);
    }

pub outside_is_needed : OutsideIsNeeded
unfolding digits number_to wrap_to
outside_is_needed = record {
  accepted = counts_accepted;
  function = _;
  entry = record { export = record { found = refl; named = refl; exported = refl }; fits = refl };
  breaks = (record { rule = Outside; span = at }, inl (_, refl, search (inl, inr) depth 14), refl);
  alone = λ d h. let e = of_one _ refl d h in grind (arith, e);
  ended = below_four (λ p. IsEnded (alone counts 0 p)) tt tt tt tt;
  apart = λ b e t h. apart_by (alone counts 0) 0 0 (below_four (Stores (alone counts 0) 0) (λ c i h. one_stored 0 0 c i _ refl h) (λ c i h. one_stored 0 1 c i _ refl h) (λ c i h. one_stored 0 2 c i _ refl h) (λ c i h. one_stored 0 3 c i _ refl h))
      (below_four (Finds (alone counts 0) 0) (λ c i h. none_read 0 0 c i h) (λ c i h. none_read 0 1 c i h) (λ c i h. none_read 0 2 c i h) (λ c i h. none_read 0 3 c i h)) b e h;
  together = refl;
  one_by_one = refl;
  differ = λ e t. grind (arith, e, t);
}

-- ---- rule 5

skips_accepted : IsAccepted (program skips)
skips_accepted =
    let a = array_is (given ∷ value Uniform ∷ value Uniform ∷ []) (array 0) given refl refl refl in
    let u = value_is (given ∷ value Uniform ∷ value Uniform ∷ []) 1 (int Uniform) false refl in
    let k = value_is (given ∷ value Uniform ∷ value Uniform ∷ []) 2 (int Uniform) false refl in
    let d = zero_is skips (given ∷ value Uniform ∷ value Uniform ∷ []) 1 Uniform false refl in
    let e = zero_is skips (given ∷ value Uniform ∷ value Uniform ∷ []) 2 Uniform false refl in
    record {
      fine = one_fine _ (record {
        params = ((refl, refl), tt);
        names = refl;
        declared = All-cons IsDeclared (value Uniform) (value Uniform ∷ []) tt (All-cons IsDeclared (value Uniform) [] tt (All-nil IsDeclared));
        gives = refl;
        body = search (starts, ends, fits1, fits3, le23, le33, a, u, k, d, e) depth 40;
      }) (lit< tt);
      scoped = one_scoped _ (record { body = search depth 20; all = refl; name = (refl, refl); words = word_a });
      sound = λ f h. grind (arith, h);
    }

pub turned_is_needed : TurnedIsNeeded
unfolding digits number_to wrap_to
turned_is_needed = record {
  accepted = skips_accepted;
  function = _;
  entry = record { export = record { found = refl; named = refl; exported = refl }; fits = refl };
  breaks = (record { rule = Turned; span = at }, inl (_, refl, search (inl, inr) depth 14), refl);
  alone = λ d h. let e = of_one _ refl d h in grind (arith, e);
  ended = below_four (λ p. IsEnded (alone skips 0 p)) tt tt tt tt;
  apart = λ b e t h. apart_by (alone skips 0) 0 0 (below_four (Stores (alone skips 0) 0) (λ c i h. one_stored 0 0 c i _ refl h) (λ c i h. one_stored 0 1 c i _ refl h) (λ c i h. one_stored 0 2 c i _ refl h) (λ c i h. one_stored 0 3 c i _ refl h))
      (below_four (Finds (alone skips 0) 0) (λ c i h. none_read 0 0 c i h) (λ c i h. none_read 0 1 c i h) (λ c i h. none_read 0 2 c i h) (λ c i h. none_read 0 3 c i h)) b e h;
  together = refl;
  one_by_one = refl;
  differ = λ e t. grind (arith, e, t);
}

-- ---- rule 6

parts_accepted : IsAccepted (program parts)
parts_accepted =
    let a = array_is (given ∷ foreach_index ∷ []) (array 0) given refl refl refl in
    let i = value_is (given ∷ foreach_index ∷ []) 1 (int Varying) true refl in
    let r = range_is parts (given ∷ foreach_index ∷ []) (record { index = 1; start = number 0; end = number 4; span = at }) (record { index = refl; start = (fits0, refl); end = (fits4, refl) }) in
    record {
      fine = one_fine _ (record { params = ((refl, refl), tt); names = refl; declared = All-cons IsDeclared foreach_index [] tt (All-nil IsDeclared); gives = refl; body = search (starts, ends, fits1, fits2, le12, a, i, r) depth 40 }) (lit< tt);
      scoped = one_scoped _ (record { body = search (le11, le13) depth 20; all = refl; name = (refl, refl); words = word_a });
      sound = λ f h. grind (arith, h);
    }

pub foreach_is_needed : ForeachIsNeeded
unfolding digits number_to wrap_to
foreach_is_needed = record {
  accepted = parts_accepted;
  function = _;
  entry = record { export = record { found = refl; named = refl; exported = refl }; fits = refl };
  breaks = (record { rule = Foreach; span = at }, inl (_, refl, search (inl, inr) depth 14), refl);
  alone = λ d h. let e = of_one _ refl d h in grind (arith, e);
  ended = below_four (λ p. IsEnded (alone parts 0 p)) tt tt tt tt;
  apart = λ b e t h. apart_by (alone parts 0) 0 0 (below_four (Stores (alone parts 0) 0) (λ c i h. one_stored 0 0 c i _ refl h) (λ c i h. one_stored 0 1 c i _ refl h) (λ c i h. none_stored 0 2 c i h) (λ c i h. none_stored 0 3 c i h))
      (below_four (Finds (alone parts 0) 0) (λ c i h. none_read 0 0 c i h) (λ c i h. none_read 0 1 c i h) (λ c i h. none_read 0 2 c i h) (λ c i h. none_read 0 3 c i h)) b e h;
  together = refl;
  one_by_one = refl;
  differ = λ e t. grind (arith, e, t);
}

-- ---- rule 7

call_is : FineExpr returns (given ∷ []) (t_call (t_called 0 (t_arguments (t_by_value index ∷ [])) at) (int Uniform))
call_is = (_, refl, refl, ((tt, refl), tt), (starts, ends))

returns_accepted : IsAccepted (program returns)
returns_accepted =
    let a = array_is (given ∷ []) (array 0) given refl refl refl in
    let x = value_is (value Varying ∷ []) 0 (int Varying) false refl in
    record {
      fine = two_fine _ _
          (record { params = ((refl, refl), tt); names = refl; declared = All-nil IsDeclared; gives = refl; body = search (fits1, fits2, le11, x) depth 40 })
          (record { params = ((refl, refl), tt); names = refl; declared = All-nil IsDeclared; gives = refl; body = search (starts, ends, a, call_is) depth 40 }) refl (lit< tt);
      scoped = two_scoped _ _ (record { body = search depth 20; all = refl; name = (refl, refl); words = word_of (parameter (codes "x") false) (refl, refl) })
          (record { body = search depth 20; all = refl; name = (refl, refl); words = word_a });
      sound = λ f h. grind (arith, h);
    }

pub return_is_needed : ReturnIsNeeded
unfolding digits number_to wrap_to
return_is_needed = record {
  accepted = returns_accepted;
  function = _;
  entry = record { export = record { found = refl; named = refl; exported = refl }; fits = refl };
  breaks = (
    record { rule = Return; span = at },
    inr (0, _, record { caller = 1; reached = itself; calls = record { by = (_, refl, (0, one, refl)) } }, refl, search (inl, inr) depth 14),
    refl,
  );
  alone = λ d h. let e = of_two _ _ refl refl d h in grind (arith, e);
  ended = below_four (λ p. IsEnded (alone returns 1 p)) tt tt tt tt;
  apart = λ b e t h. apart_by (alone returns 1) 0 0 (below_four (Stores (alone returns 1) 0) (λ c i h. one_stored 0 0 c i _ refl h) (λ c i h. one_stored 0 1 c i _ refl h) (λ c i h. one_stored 0 2 c i _ refl h) (λ c i h. one_stored 0 3 c i _ refl h))
      (below_four (Finds (alone returns 1) 0) (λ c i h. none_read 0 0 c i h) (λ c i h. none_read 0 1 c i h) (λ c i h. none_read 0 2 c i h) (λ c i h. none_read 0 3 c i h)) b e h;
  together = refl;
  one_by_one = refl;
  differ = λ e t. grind (arith, e, t);
}
