-- The instances one after another, where no two clash.
use Rattle.std.proofs.Common.{◌≡◌, ◌≢◌, ℕ, ◌+◌, ◌<◌, ◌≤◌, ◌⊎◌, inl, inr, Bool, true, false, cond, refl, sym, ap, subst, ◌∙◌, arith}
use Rattle.std.specs.Prelude.{List, [], ◌∷◌, Option, Some, None, nat_eq, count_by, is_some}
use Rattle.std.specs.List.{All}
use Rattle.std.proofs.lemmas.Bool.{cases_eq}
use Rattle.std.proofs.lemmas.Bool.Decides.{nat_tests}
use Rattle.std.proofs.lemmas.List.Recursion.{is_count_by}
use Rattle.std.proofs.lemmas.List.Elements.{All-head, All-tail}
use Rattle.isp_base.specs.Maps.{or_old}
use Rattle.isp_base.specs.Types.{gang_width}
use Rattle.isp_base.specs.declared.signature.Argument.{Argument}
use Rattle.isp_typed.specs.Typed.{Program}
use Rattle.isp_solo_meaning.specs.Answers.{Answer, reached}
use Rattle.isp_solo_meaning.specs.Runs.{solo_run, after}
use Rattle.isp_solo_meaning.specs.Touched.{Reads, AreApart}
use Rattle.isp_solo_meaning.specs.OneByOne.{one_by_one, IsOrder}
use Rattle.isp_solo_meaning.specs.Laws.{ReadsDecide, AnyOrder}
use Rattle.isp_solo_meaning.proofs.Frame.{run_framed}

pub reads_decide : ReadsDecide
reads_decide program f most xs m other p h = run_framed program f most xs m other p (record { same = h })

-- ---- who is in a list, and how often

abbrev In : ℕ → List ℕ → Type 0
In p [] = ⊥
In p (q ∷ qs) = (p ≡ q) ⊎ In p qs

abbrev Distinct : List ℕ → Type 0
Distinct [] = Unit {0}
Distinct (p ∷ ps) = (In p ps → ⊥) × Distinct ps

abbrev often : ℕ → List ℕ → ℕ
often p [] = 0
often p (q ∷ qs) = cond (nat_eq q p) (1 + often p qs) (often p qs)

often_is : (p : ℕ) (ps : List ℕ) → often p ps ≡ count_by (λ q. nat_eq q p) ps
often_is p ps = is_count_by (often p) (λ q. nat_eq q p) refl (λ q qs. refl) ps

more_often : (t : Bool) (n : ℕ) → 1 ≤ n → 1 ≤ cond t (1 + n) n
more_often true n h = omega (arith, h)
more_often false n h = h

in_often : (p : ℕ) (ps : List ℕ) → In p ps → 1 ≤ often p ps
in_often p [] h = absurd h
in_often p (q ∷ qs) (inl e) = let t : nat_eq q p ≡ true = grind (arith, e, nat_tests) in rw t (omega arith)
in_often p (q ∷ qs) (inr h) = more_often (nat_eq q p) (often p qs) (in_often p qs h)

often_in : (p : ℕ) (ps : List ℕ) → 1 ≤ often p ps → In p ps
often_in p [] h = absurd (omega (arith, h))
often_in p (q ∷ qs) h = go (cases_eq p q) (often_in p qs) where
  go : (p ≡ q) ⊎ (p ≢ q) → (1 ≤ often p qs → In p qs) → (p ≡ q) ⊎ In p qs
  go (inl e) later = inl e
  go (inr n) later = inr (later (let t : nat_eq q p ≡ false = grind (arith, n, nat_tests) in subst (λ b. 1 ≤ cond b (1 + often p qs) (often p qs)) t h))

-- each at most once, and all below
record Once (gang : ℕ) (ps : List ℕ) : Type 0 where
  pub below : (p : ℕ) → In p ps → p < gang
  pub once : (p : ℕ) → p < gang → often p ps ≤ 1

tail_once : (gang p : ℕ) (ps : List ℕ) → Once gang (p ∷ ps) → Once gang ps
tail_once gang p ps o = record { below = λ q h. o.below q (inr h); once = λ q h. less (nat_eq p q) (often q ps) (o.once q h) } where
  less : (t : Bool) (n : ℕ) → cond t (1 + n) n ≤ 1 → n ≤ 1
  less true n h = omega (arith, h)
  less false n h = h

distinct : (gang : ℕ) (ps : List ℕ) → Once gang ps → Distinct ps
distinct gang [] o = tt
distinct gang (p ∷ ps) o = (λ h. twice h (in_often p ps h) (o.once p (o.below p (inl refl))), distinct gang ps (tail_once gang p ps o)) where
  twice : In p ps → 1 ≤ often p ps → cond (nat_eq p p) (1 + often p ps) (often p ps) ≤ 1 → ⊥
  twice h k l = let t : nat_eq p p ≡ true = grind (arith, nat_tests) in let m : 1 + often p ps ≤ 1 = subst (λ b. cond b (1 + often p ps) (often p ps) ≤ 1) t l in omega (arith, k, m)

order_once : (gang : ℕ) (ps : List ℕ) → IsOrder gang ps → Once gang ps
order_once gang ps o = record { below = λ p h. all ps o.below p h; once = λ p h. subst (λ n. n ≤ 1) (sym (often_is p ps ∙ o.once p h)) (omega arith) } where
  all : (ps : List ℕ) → All (λ p. p < gang) ps → (p : ℕ) → In p ps → p < gang
  all [] a p h = absurd h
  all (q ∷ qs) a p (inl e) = subst (λ n. n < gang) (sym e) (All-head (λ n. n < gang) q qs a)
  all (q ∷ qs) a p (inr h) = all qs (All-tail (λ n. n < gang) q qs a) p h

-- ---- what each stores, put together

module _ (run : ℕ → Answer ℕ) where
  abbrev merged : List ℕ → (ℕ → ℕ → ℕ) → ℕ → ℕ → ℕ
  merged [] m = m
  merged (p ∷ ps) m = merged ps (after (run p) m)

  merged_kept : (ps : List ℕ) (m : ℕ → ℕ → ℕ) (b e : ℕ) → ((p : ℕ) → In p ps → (reached (run p)).wrote b e ≡ None) → merged ps m b e ≡ m b e
  merged_kept [] m b e none = refl
  merged_kept (p ∷ ps) m b e none = merged_kept ps (after (run p) m) b e (λ q h. none q (inr h)) ∙ ap (λ o. or_old o (m b e)) (none p (inl refl))

  merged_same : (ps : List ℕ) (m : ℕ → ℕ → ℕ) (b e x : ℕ) → ((p : ℕ) → In p ps → ((reached (run p)).wrote b e ≡ None) ⊎ ((reached (run p)).wrote b e ≡ Some x)) → m b e ≡ x → merged ps m b e ≡ x
  merged_same [] m b e x all i = i
  merged_same (p ∷ ps) m b e x all i = merged_same ps (after (run p) m) b e x (λ q h. all q (inr h)) (now (all p (inl refl))) where
    now : ((reached (run p)).wrote b e ≡ None) ⊎ ((reached (run p)).wrote b e ≡ Some x) → or_old ((reached (run p)).wrote b e) (m b e) ≡ x
    now (inl k) = ap (λ o. or_old o (m b e)) k ∙ i
    now (inr k) = ap (λ o. or_old o (m b e)) k

  merged_stored : (ps : List ℕ) (m : ℕ → ℕ → ℕ) (b e x p : ℕ) → ((q : ℕ) → In q ps → ((reached (run q)).wrote b e ≡ None) ⊎ ((reached (run q)).wrote b e ≡ Some x)) → In p ps → (reached (run p)).wrote b e ≡ Some x
      → merged ps m b e ≡ x
  merged_stored [] m b e x p all h w = absurd h
  merged_stored (q ∷ ps) m b e x p all (inl i) w =
      merged_same ps (after (run q) m) b e x (λ r h. all r (inr h)) (ap (λ o. or_old o (m b e)) (subst (λ n. (reached (run n)).wrote b e ≡ Some x) i w))
  merged_stored (q ∷ ps) m b e x p all (inr h) w = merged_stored ps (after (run q) m) b e x p (λ r k. all r (inr k)) h w

-- ---- one after another

module _ (program : Program) (f most : ℕ) (xs : List Argument) (m : ℕ → ℕ → ℕ) (gang : ℕ) (apart : AreApart gang (solo_run program f most xs m)) where
  -- in arrays that one before left, an instance that does not clash with it reads what it would have read
  unread : (p q : ℕ) (n : ℕ → ℕ → ℕ) → p < gang → q < gang → (p ≡ q → ⊥) → (b e : ℕ) → Reads (solo_run program f most xs m q) b e → m b e ≡ n b e → m b e ≡ after (solo_run program f most xs m p) n b e
  unread p q n l k two b e r i = go ((reached (solo_run program f most xs m p)).wrote b e) refl where
    go : (o : Option ℕ) → (reached (solo_run program f most xs m p)).wrote b e ≡ o → m b e ≡ or_old o (n b e)
    go None w = i
    go (Some x) w = absurd (apart b e (record { writer = p; other = q; writer_is = l; other_is = k; two = two; writes = ap is_some w; touches = inl r }))

  one_by_one_is : (ps : List ℕ) (n : ℕ → ℕ → ℕ) → Once gang ps → Distinct ps → ((q b e : ℕ) → In q ps → Reads (solo_run program f most xs m q) b e → m b e ≡ n b e)
      → one_by_one program f most xs ps n ≡ merged (solo_run program f most xs m) ps n
  one_by_one_is [] n o d same = refl
  one_by_one_is (p ∷ ps) n o d same =
      ap (λ (r : Answer ℕ). one_by_one program f most xs ps (after r n)) (reads_decide program f most xs m n p (λ b e r. same p b e (inl refl) r))
      ∙ one_by_one_is ps (after (solo_run program f most xs m p) n) (tail_once gang p ps o) d.1
      (λ q b e h r. unread p q n (o.below p (inl refl)) (o.below q (inr h)) (λ i. d.0 (subst (λ z. In z ps) (sym i) h)) b e r (same q b e (inr h) r))

  -- at one element, all store x there or nothing, where one stores x
  others : (p b e x : ℕ) → p < gang → (reached (solo_run program f most xs m p)).wrote b e ≡ Some x
      → (q : ℕ) → q < gang → ((reached (solo_run program f most xs m q)).wrote b e ≡ None) ⊎ ((reached (solo_run program f most xs m q)).wrote b e ≡ Some x)
  others p b e x l w q k = go (cases_eq q p) where
    go : (q ≡ p) ⊎ (q ≢ p) → ((reached (solo_run program f most xs m q)).wrote b e ≡ None) ⊎ ((reached (solo_run program f most xs m q)).wrote b e ≡ Some x)
    go (inl i) = inr (subst (λ z. (reached (solo_run program f most xs m z)).wrote b e ≡ Some x) (sym i) w)
    go (inr two) = at ((reached (solo_run program f most xs m q)).wrote b e) refl
      where
        at : (o : Option ℕ) → (reached (solo_run program f most xs m q)).wrote b e ≡ o → (o ≡ None) ⊎ (o ≡ Some x)
        at None i = inl refl
        at (Some y) i = absurd (apart b e (record { writer = p; other = q; writer_is = l; other_is = k; two = λ j. two (sym j); writes = ap is_some w; touches = inr (ap is_some i) }))

pub any_order : AnyOrder
any_order program f most xs m ps apart o b e =
    let gang = gang_width program.gang in
    let once = order_once gang ps o in
    let is : one_by_one program f most xs ps m ≡ merged (solo_run program f most xs m) ps m = one_by_one_is program f most xs m gang apart ps m once (distinct gang ps once) (λ q b e h r. refl) in
    let there : (p : ℕ) → p < gang → In p ps = λ p l. often_in p ps (subst (λ n. 1 ≤ n) (sym (often_is p ps ∙ o.once p l)) (omega arith)) in (
      λ p x l w. ap (λ (g : ℕ → ℕ → ℕ). g b e) is ∙ merged_stored (solo_run program f most xs m) ps m b e x p (λ q h. others program f most xs m gang apart p b e x l w q (once.below q h)) (there p l) w,
      λ none. ap (λ (g : ℕ → ℕ → ℕ). g b e) is ∙ merged_kept (solo_run program f most xs m) ps m b e (λ q h. none q (once.below q h)),
    )
