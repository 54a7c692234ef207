-- How many line feeds a text has up to each place.
use Rattle.std.proofs.Common.{◌≡◌, ◌≢◌, false, inl, inr, sym, ap, ◌∙◌, ℕ, zero, suc, ◌+◌, ◌-◌, ◌<◌, ◌≤◌, List, [], ◌∷◌, ◌++◌, map, take, get_or, length, count_by, arith}
use Rattle.std.specs.Prelude.{min}
use Rattle.std.proofs.lemmas.List.FromFn.{get_or-map-range_with_len, length-map-range_with_len}
use Rattle.std.proofs.lemmas.Bool.Decides.{eqb_tells}
use Rattle.std.proofs.lemmas.List.{length-take, map-append, take_min, take_more}
use Rattle.std.proofs.lemmas.List.Sums.{count_by-le-length}
use Rattle.isp_base.specs.declared.types.Span.{Span}
use Rattle.std.specs.List.{range_with_len}
use Rattle.isp_places.specs.Lines.{is_feed, line_of}

abbrev pub feeds_to : List ℕ → ℕ → ℕ
feeds_to text k = count_by is_feed (take k text)

range_more : (a n j : ℕ) → a + n ≡ j → range_with_len a (suc n) ≡ range_with_len a n ++ j ∷ []
range_more a zero j e = let i : a ≡ j = omega (arith, e) in ap (λ (x : ℕ). x ∷ []) i
range_more a (suc n) j e = let i : a + 1 + n ≡ j = omega (arith, e) in ap (λ (xs : List ℕ). a ∷ xs) (range_more (a + 1) n j i)

-- one more place
pub feeds_more : (text : List ℕ) (k c : ℕ) (xs ys : List ℕ) → xs ≡ map (feeds_to text) (range_with_len 0 (suc k)) → ys ≡ xs ++ c ∷ [] → c ≡ feeds_to text (k + 1)
    → ys ≡ map (feeds_to text) (range_with_len 0 (suc (k + 1)))
feeds_more text k c xs ys e is ec =
    let z : 0 + suc k ≡ k + 1 = omega arith in
    let n : suc k ≡ k + 1 = omega arith in
    is
    ∙ ap (λ (zs : List ℕ). zs ++ c ∷ []) e
    ∙ ap (λ (d : ℕ). map (feeds_to text) (range_with_len 0 (suc k)) ++ d ∷ []) ec
    ∙ sym (map-append (feeds_to text) (range_with_len 0 (suc k)) ((k + 1) ∷ []))
    ∙ ap (map (feeds_to text)) (sym (range_more 0 (suc k) (k + 1) z))
    ∙ ap (λ (m : ℕ). map (feeds_to text) (range_with_len 0 (suc m))) n

pub no_feed : (b : ℕ) → b ≢ 10 → is_feed b ≡ false
no_feed b ne = elim (eqb_tells b 10) [ inl h ↦ absurd (ne h.1) | inr h ↦ h.0 ]

-- as many as there are places in the text, and one more
pub feeds_long : (text feeds : List ℕ) → feeds ≡ map (feeds_to text) (range_with_len 0 (suc (length text))) → length feeds ≡ suc (length text)
feeds_long text feeds e = ap length e ∙ length-map-range_with_len (feeds_to text) 0 (suc (length text))

module _ (text feeds : List ℕ) (e : feeds ≡ map (feeds_to text) (range_with_len 0 (suc (length text)))) where
  -- those before a place, or before the end of the text where that comes first
  pub feeds_at : (at k d : ℕ) → k ≡ min at (length text) → get_or feeds k d ≡ feeds_to text at
  feeds_at at k d is =
      let low : k < suc (length text) = omega (arith, is) in
      let z : 0 + k ≡ k = omega arith in
      ap (λ (xs : List ℕ). get_or xs k d) e
      ∙ get_or-map-range_with_len (feeds_to text) 0 (suc (length text)) k k d low z
      ∙ ap (λ n. feeds_to text n) is
      ∙ ap (count_by is_feed) (take_min at text)

  pub few_feeds : (k d v : ℕ) → k ≡ length text → v ≡ get_or feeds k d → (v ≡ feeds_to text (length text)) × (v ≤ length text)
  few_feeds k d v ek ev =
      let all : k ≡ min (length text) (length text) = omega (arith, ek) in
      let is : v ≡ feeds_to text (length text) = ev ∙ feeds_at (length text) k d all in
      let le = count_by-le-length is_feed (take (length text) text) in
      let short : length (take (length text) text) ≤ length text = omega (arith, length-take (length text) text) in
      (is, omega (arith, is, le, short))

-- the number of a place's line, from 0
abbrev pub line_at : List ℕ → Span → ℕ
line_at text p = line_of text p.start - 1

pub lines_more : (text : List ℕ) (places : List Span) (k v : ℕ) (d : Span) (xs ys : List ℕ) → k < length places → xs ≡ map (line_at text) (take k places) → ys ≡ xs ++ v ∷ []
    → v ≡ feeds_to text (get_or places k d).start → ys ≡ map (line_at text) (take (k + 1) places)
lines_more text places k v d xs ys low e is ev =
    let p : Span = get_or places k d in
    let one : v ≡ line_at text p = omega (arith, ev) in
    is
    ∙ ap (λ (zs : List ℕ). zs ++ v ∷ []) e
    ∙ ap (λ (u : ℕ). map (line_at text) (take k places) ++ u ∷ []) one
    ∙ sym (map-append (line_at text) (take k places) (p ∷ []))
    ∙ ap (map (line_at text)) (sym (take_more places k d low))
