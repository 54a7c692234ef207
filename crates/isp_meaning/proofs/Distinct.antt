-- The rounds of `foreach_unique`: the lowest that has a value comes first, with all that hold the same; then those that are
-- left come as if nobody else were there.
use Rattle.std.proofs.Common.{◌≡◌, refl, sym, ap, ap₂, ◌∙◌, ℕ, zero, suc, ◌+◌, ◌<◌, ◌≤◌, ◌&&◌, ◌||◌, Bool, true, false, not, List, [], ◌∷◌, ◌++◌, map, Option, Some, None, ⊎_elim, arith, eq-eqb, add-zero}
use Rattle.std.specs.Prelude.{nat_eq, ℤ, if◌then◌else◌}
use Rattle.std.specs.List.{AllByRecursion}
use Rattle.std.proofs.Math.Path.{fun_ext}
use Rattle.std.proofs.lemmas.Bool.{cases_eq, cases_lt, cond-true, ne_eqb}
use Rattle.std.proofs.lemmas.Bool.Decides.{Decides-int_eq}
use Rattle.std.proofs.lemmas.List.{map-append}
use Rattle.std.proofs.lemmas.List.Elements.{All-from_recursion}
use Rattle.isp_base.specs.Cross.{or_zero}
use Rattle.isp_base.specs.Maps.{Map, holds}
use Rattle.isp_base.specs.Sets.{Mask, any, lowest, without, lone}
use Rattle.isp_base.specs.Values.{number, convert_bits, compare_to}
use Rattle.isp_base.specs.declared.operators.Compare.TheVariants.{Equal}
use Rattle.isp_base.specs.declared.types.Elem.{Elem}
use Rattle.isp_base.specs.declared.types.Rate.TheVariants.{Uniform}
use Rattle.isp_meaning.specs.State.{tick}
use Rattle.isp_meaning.specs.Payloads.{One, bit, converted, except}
use Rattle.isp_meaning.specs.Places.{written}
use Rattle.isp_meaning.specs.Rounds.{Round, if_listed, members, have, holding, holders, firsts, round_of_value, unique_rounds}
use Rattle.isp_meaning.specs.Distinct.{rounds_of, same_value, IsTurn, InOrder, EachValueOnce}
use Rattle.isp_meaning.proofs.Members.{any_at, none_at, none_all, no_lowest, lowest_is, lowest_below, lowest_in, lowest_least, no_member, none_listed, lowest_first, alike}

-- ---- who holds a number

module _ (u : Elem) where
  abbrev number_of : Option ℕ → ℤ
  number_of o = number u (or_zero o)

  abbrev is_number : ℤ → Option ℕ → Bool
  is_number z o = holds (λ b. compare_to Equal (number u b) z) o

  number_held : (o : Option ℕ) (z : ℤ) → is_number z o ≡ true → (holds (λ b. true) o ≡ true) × (number_of o ≡ z)
  number_held None z e = absurd (let h : ⊥ = cc in h)
  number_held (Some b) z e = (refl, (Decides-int_eq (number u b) z).0 e)

  held_number : (o : Option ℕ) (z : ℤ) → holds (λ b. true) o ≡ true → number_of o ≡ z → is_number z o ≡ true
  held_number None z e h = absurd (let h : ⊥ = cc in h)
  held_number (Some b) z e h = (Decides-int_eq (number u b) z).1 h

no_value : (o : Option ℕ) → holds (λ b. true) o ≡ false → o ≡ None
no_value None e = refl
no_value (Some b) e = absurd (let h : ⊥ = cc in h)

not_both : (b : Bool) → b ≡ true → b ≡ false → ⊥
not_both b e f = let h : ⊥ = cc in h

-- ---- a set is taken away

except_in : (x : Map) (a : Mask) (q : ℕ) → a q ≡ true → except x a q ≡ None
except_in x a q e = ap (λ b. if b then None else x q) e

except_out : (x : Map) (a : Mask) (q : ℕ) → a q ≡ false → except x a q ≡ x q
except_out x a q e = ap (λ b. if b then None else x q) e

module _ (u : Elem) (x : Map) where
  abbrev value_of : ℕ → ℤ
  value_of q = number_of u (x q)

  -- who holds the value of another has that very value, and the other way round
  holds_it : (p q : ℕ) → holders u x p q ≡ true → (have x q ≡ true) × (value_of q ≡ value_of p)
  holds_it p q e = number_held u (x q) (value_of p) e

  it_holds : (p q : ℕ) → have x q ≡ true → value_of q ≡ value_of p → holders u x p q ≡ true
  it_holds p q e h = held_number u (x q) (value_of p) e h

  itself : (p : ℕ) → have x p ≡ true → holders u x p p ≡ true
  itself p h = it_holds p p h refl

  turned : (p q : ℕ) → have x p ≡ true → holders u x p q ≡ true → holders u x q p ≡ true
  turned p q h e = it_holds q p h (sym (holds_it p q e).1)

  same_holders : (p q : ℕ) → value_of p ≡ value_of q → holders u x p ≡ holders u x q
  same_holders p q e = ap (λ z. holding u z x) e

  first_has : (q : ℕ) → firsts u x q ≡ true → have x q ≡ true
  first_has q e = by (have x q) e
    where
      by : (b : Bool) → (b && not (any q (holders u x q))) ≡ true → b ≡ true
      by true h = refl
      by false h = absurd (let k : ⊥ = cc in k)

  -- no lower one holds its value
  first_alone : (q : ℕ) → firsts u x q ≡ true → any q (holders u x q) ≡ false
  first_alone q e = by (have x q) (any q (holders u x q)) e
    where
      by : (b c : Bool) → (b && not c) ≡ true → c ≡ false
      by true true h = absurd (let k : ⊥ = cc in k)
      by true false h = refl
      by false c h = absurd (let k : ⊥ = cc in k)

  none_first : (q : ℕ) → have x q ≡ false → firsts u x q ≡ false
  none_first q e = ap (λ b. b && not (any q (holders u x q))) e

  -- the lowest that has a value is the lowest that holds a value first
  module _ (n p : ℕ) (low : lowest n (have x) ≡ Some p) where
    has : have x p ≡ true
    has = lowest_in n (have x) p low

    below : (q : ℕ) → q < p → have x q ≡ false
    below q lt = none_at p (have x) q (lowest_least n (have x) p low) lt

    first_is : lowest n (firsts u x) ≡ Some p
    first_is =
        lowest_is n (firsts u x) p (lowest_below n (have x) p low)
        (ap₂ (λ b c. b && not c) has (none_all p (holders u x p) (λ q lt. nobody q lt (holders u x p q) refl)))
        (none_all p (firsts u x) (λ q lt. none_first q (below q lt)))
      where
        nobody : (q : ℕ) → q < p → (b : Bool) → holders u x p q ≡ b → holders u x p q ≡ false
        nobody q lt true e = absurd (not_both (have x q) (holds_it p q e).0 (below q lt))
        nobody q lt false e = e

    -- ---- those that are left

    abbrev taken : Mask
    taken = holders u x p

    abbrev left : Map
    left = except x taken

    -- one of them is as before
    stays : (q : ℕ) → have left q ≡ true → (taken q ≡ false) × (left q ≡ x q) × (have x q ≡ true)
    stays q h = by (taken q) refl
      where
        by : (b : Bool) → taken q ≡ b → (taken q ≡ false) × (left q ≡ x q) × (have x q ≡ true)
        by true e = absurd (not_both (have left q) h (ap (holds (λ b. true)) (except_in x taken q e)))
        by false e = (e, except_out x taken q e, sym (ap (holds (λ b. true)) (except_out x taken q e)) ∙ h)

    holders_left : (q : ℕ) → taken q ≡ false → left q ≡ x q → have x q ≡ true → holders u left q ≡ holders u x q
    holders_left q out same h = fun_ext (λ r. by r (taken r) refl (holders u x q r) refl)
      where
        by : (r : ℕ) (b : Bool) → taken r ≡ b → (c : Bool) → holders u x q r ≡ c → holders u left q r ≡ holders u x q r
        by r true e true k = absurd (not_both (taken q) (it_holds p q h (sym (holds_it q r k).1 ∙ (holds_it p r e).1)) out)
        by r true e false k = ap (is_number u (number_of u (left q))) (except_in x taken r e) ∙ sym k
        by r false e c k = ap₂ (λ o y. is_number u (number_of u y) o) (except_out x taken r e) same

    -- of those that are first the lowest alone goes
    firsts_left : firsts u left ≡ without (firsts u x) (lone (Some p))
    firsts_left = fun_ext (λ q. by q (taken q) refl)
      where
        and_false : (b : Bool) → false ≡ (b && false)
        and_false true = refl
        and_false false = refl

        and_true : (b : Bool) → b ≡ (b && true)
        and_true true = refl
        and_true false = refl

        gone : (q : ℕ) → taken q ≡ true → firsts u left q ≡ false
        gone q e = ap (λ b. b && not (any q (holders u left q))) (ap (holds (λ b. true)) (except_in x taken q e))

        -- it holds what p holds, which is lower
        later : (q : ℕ) → taken q ≡ true → (q ≡ p → ⊥) → firsts u x q ≡ false
        later q e ne =
            let above : p < q = ⊎_elim (λ lt. absurd (not_both (have x q) (holds_it p q e).0 (below q lt))) (λ ge. omega (arith, ge, ne)) (cases_lt q p) in
            ap₂ (λ b c. b && not c) (holds_it p q e).0 (any_at q (holders u x q) p above (turned p q has e))

        by : (q : ℕ) (b : Bool) → taken q ≡ b → firsts u left q ≡ (firsts u x q && not (nat_eq q p))
        by q true e = gone q e ∙ ⊎_elim (λ same. and_false (firsts u x q) ∙ ap (λ c. firsts u x q && not c) (sym (eq-eqb q p same))) (λ ne. ap (λ c. c && not (nat_eq q p)) (sym (later q e ne))) (cases_eq q p)
        by q false e = kept (have x q) refl ∙ and_true (firsts u x q) ∙ ap (λ c. firsts u x q && not c) (sym (ne_eqb q p (λ same. not_both (taken q) (ap taken same ∙ itself p has) e)))
          where
            kept : (b : Bool) → have x q ≡ b → firsts u left q ≡ firsts u x q
            kept true h = ap₂ (λ o a. holds (λ b. true) o && not (any q a)) (except_out x taken q e) (holders_left q e (except_out x taken q e) h)
            kept false h = ap (λ o. holds (λ b. true) o && not (any q (holders u left q))) (except_out x taken q e) ∙ ap (λ b. b && not (any q (holders u left q))) h ∙ sym (none_first q h)

-- ---- the lowest comes first, and then those that are left

module _ (gang : ℕ) (u t : Elem) (index : ℕ) (x : Map) where
  abbrev turn_of : Mask → ℕ → Round
  turn_of a b = record { members = a; begins = λ s. written Uniform index a (One (converted u t b)) (tick s) }

  pub unique_first : (p : ℕ) → lowest gang (have x) ≡ Some p
      → unique_rounds gang u t index x ≡ round_of_value u t x index p ∷ unique_rounds gang u t index (except x (holders u x p))
  unique_first p low =
      ap (map (round_of_value u t x index)) (lowest_first gang (firsts u x) p (first_is u x gang p low))
      ∙ ap (λ rs. round_of_value u t x index p ∷ rs) (ap (λ a. map (round_of_value u t x index) (members gang a)) (sym (firsts_left u x gang p low)) ∙ alike gang (firsts u rest) (round_of_value u t x index) (round_of_value u t rest index) same)
    where
      rest : Map
      rest = except x (holders u x p)

      same : (q : ℕ) → firsts u rest q ≡ true → round_of_value u t x index q ≡ round_of_value u t rest index q
      same q e =
          let h = stays u x gang p low q (first_has u rest q e) in
          sym (ap₂ turn_of (holders_left u x gang p low q h.0 h.1 h.2) (ap or_zero h.1))

  pub unique_none : lowest gang (have x) ≡ None → unique_rounds gang u t index x ≡ []
  unique_none none =
      let nobody = no_member gang (have x) none in
      ap (map (round_of_value u t x index)) (none_listed gang (firsts u x) (no_lowest gang (firsts u x) (none_all gang (firsts u x) (λ q lt. none_first u x q (none_at gang (have x) q nobody lt)))))

-- ---- each value has one round

rounds_join : (p : ℕ) (xs ys : List Round) → rounds_of p (xs ++ ys) ≡ rounds_of p xs + rounds_of p ys
rounds_join p [] ys = omega arith
rounds_join p (x ∷ xs) ys = let more = rounds_join p xs ys in omega (arith, more)

or_false : (b : Bool) → (b || false) ≡ b
or_false true = refl
or_false false = refl

module _ (u t : Elem) (index : ℕ) (x : Map) where
  abbrev turn : ℕ → Round
  turn = round_of_value u t x index

  module _ (p : ℕ) where
    -- the rounds of p that the first n begin
    abbrev among : ℕ → ℕ
    among n = rounds_of p (map turn (members n (firsts u x)))

    abbrev begun : ℕ → Bool → ℕ
    begun n b = rounds_of p (map turn (if_listed b n))

    one_more : (n : ℕ) → among (suc n) ≡ among n + begun n (firsts u x n)
    one_more n =
        ap (rounds_of p) (map-append turn (members n (firsts u x)) (if_listed (firsts u x n) n)) ∙ rounds_join p (map turn (members n (firsts u x))) (map turn (if_listed (firsts u x n) n))

    -- one, once somebody holds its value
    module _ (h : have x p ≡ true) where
      abbrev like : Mask
      like = holders u x p

      once_among : (n : ℕ) → among n ≡ bit (any n like)
      once_among zero = refl
      once_among (suc n) = one_more n ∙ by (once_among n) (any n like) refl (like n) refl
        where
          -- who holds another value begins no round of p
          other : like n ≡ false → (b : Bool) → firsts u x n ≡ b → begun n b ≡ 0
          other e true f = ap (λ z. bit z + 0) (no (holders u x n p) refl)
            where
              no : (b : Bool) → holders u x n p ≡ b → holders u x n p ≡ false
              no true k = absurd (not_both (like n) (turned u x n p (first_has u x n f) k) e)
              no false k = k
          other e false f = refl

          first : like n ≡ true → firsts u x n ≡ not (any n like)
          first e =
              let l = holds_it u x p n e in
              ap₂ (λ b a. b && not (any n a)) l.0 (same_holders u x n p l.1)

          by : among n ≡ bit (any n like) → (v : Bool) → any n like ≡ v → (b : Bool) → like n ≡ b → among n + begun n (firsts u x n) ≡ bit (any n like || like n)
          by so v k false e =
              ap₂ (λ i j. i + j) so (other e (firsts u x n) refl) ∙ add-zero (bit (any n like)) ∙ ap bit (sym (ap (λ z. any n like || z) e ∙ or_false (any n like)))
          by so true k true e =
              ap₂ (λ i j. i + j) (so ∙ ap bit k) (ap (begun n) (first e ∙ ap not k)) ∙ sym (ap (λ z. bit (z || like n)) k)
          by so false k true e =
              ap₂ (λ i j. i + j) (so ∙ ap bit k) (ap (begun n) (first e ∙ ap not k) ∙ ap (λ z. bit z + 0) (turned u x p n h e)) ∙ sym (ap₂ (λ y z. bit (y || z)) k e)

    in_none : have x p ≡ false → (qs : List ℕ) → rounds_of p (map turn qs) ≡ 0
    in_none h [] = refl
    in_none h (q ∷ qs) = ap₂ (λ b n. bit b + n) (ap (is_number u (value_of u x q)) (no_value (x p) h)) (in_none h qs)

  -- ---- what a round is

  same_as : (o y : Option ℕ) → holds (λ b. true) y ≡ true → is_number u (number_of u y) o ≡ same_value u o y
  same_as None y h = refl
  same_as (Some b) None h = absurd (let k : ⊥ = cc in k)
  same_as (Some b) (Some c) h = refl

  is_turn : (q : ℕ) → IsTurn u t index x (turn q)
  is_turn q =
      record {
        together = λ p r e. ap (λ a. a r) (same_holders u x q p (sym (holds_it u x q p e).1)) ∙ same_as (x r) (x p) (holds_it u x q p e).0;
        index_is = λ p s e. cond-true (nat_eq index index) (converted u t (or_zero (x q))) (s.uniforms index) (eq-eqb index index refl) ∙ ap (convert_bits t) (sym (holds_it u x q p e).1);
      }

  all_turns : (qs : List ℕ) → AllByRecursion (IsTurn u t index x) (map turn qs)
  all_turns [] = tt
  all_turns (q ∷ qs) = (is_turn q, all_turns qs)

  -- ---- their order

  -- numbers that rise, each of one that is first
  abbrev Rising : ℕ → ℕ → List ℕ → Type 0
  Rising from to [] = from ≤ to
  Rising from to (q ∷ qs) = (from ≤ q) × (q < to) × (firsts u x q ≡ true) × Rising (suc q) to qs

  rising_from : (from less to : ℕ) (qs : List ℕ) → less ≤ from → Rising from to qs → Rising less to qs
  rising_from from less to [] le h = omega (arith, le, h)
  rising_from from less to (q ∷ qs) le h = (let k = h.0 in omega (arith, le, k), h.1, h.2, h.3)

  rising_le : (from to : ℕ) (qs : List ℕ) → Rising from to qs → from ≤ to
  rising_le from to [] h = h
  rising_le from to (q ∷ qs) h = let k = h.0 in let l = h.1 in omega (arith, k, l)

  rising_join : (from to end : ℕ) (ps qs : List ℕ) → Rising from to ps → Rising to end qs → Rising from end (ps ++ qs)
  rising_join from to end [] qs h k = rising_from to from end qs h k
  rising_join from to end (p ∷ ps) qs h k =
      let l = h.1 in
      let le = rising_le to end qs k in
      (h.0, omega (arith, l, le), h.2, rising_join (suc p) to end ps qs h.3 k)

  members_rise : (n : ℕ) → Rising 0 n (members n (firsts u x))
  members_rise zero = omega arith
  members_rise (suc n) = rising_join 0 n (suc n) (members n (firsts u x)) (if_listed (firsts u x n) n) (members_rise n) (last (firsts u x n) refl)
    where
      last : (b : Bool) → firsts u x n ≡ b → Rising n (suc n) (if_listed b n)
      last true e = (omega arith, omega arith, e, omega arith)
      last false e = omega arith

  orderly : (gang from to : ℕ) (qs : List ℕ) → to ≤ gang → Rising from to qs → InOrder gang from (map turn qs)
  orderly gang from to [] le h = tt
  orderly gang from to (q ∷ qs) le h =
      let l = h.1 in
      (q, lowest_is gang (holders u x q) q (omega (arith, l, le)) (itself u x q (first_has u x q h.2)) (first_alone u x q h.2), h.0, orderly gang (suc q) to qs le h.3)

pub each_value_once : EachValueOnce
each_value_once =
    record {
      once = λ gang u t index x p lt h. once_among u t index x p h gang ∙ ap bit (any_at gang (holders u x p) p lt (itself u x p h));
      nobody_else = λ gang u t index x p h. in_none u t index x p h (members gang (firsts u x));
      turns = λ gang u t index x. All-from_recursion (IsTurn u t index x) (map (round_of_value u t x index) (members gang (firsts u x))) (all_turns u t index x (members gang (firsts u x)));
      in_order = λ gang u t index x. orderly u t index x gang 0 gang (members gang (firsts u x)) (omega arith) (members_rise u t index x gang);
    }
