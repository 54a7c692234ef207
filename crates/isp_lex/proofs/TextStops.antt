-- Where a text in quotes goes on no further.
use Rattle.std.proofs.Common.{◌≡◌, ℕ, ◌+◌, false, List, [], ◌∷◌, ◌++◌, length, Option, Some, None, refl, sym, ap, subst, ◌∙◌, inl, inr, arith, length-append, append_assoc}
use Rattle.std.specs.Prelude.{◌⊎◌}
use Rattle.std.proofs.lemmas.List.{append-nil}
use Rattle.isp_lex.specs.Bytes.{begins}
use Rattle.isp_lex.specs.Texts.{Decodes, nothing, escape, BeginsQuoted, IsQuoted, StopsBefore}
use Rattle.isp_lex.specs.reader.Quotes.{goes_on, is_escape}
use Rattle.isp_lex.proofs.TextLaws.{Closed, decodes_more, text_at, text_sound, text_stops, text_stops_escape, text_whole}

same_tail : (b : ℕ) (bs cs : List ℕ) → b ∷ bs ≡ b ∷ cs → bs ≡ cs
same_tail b bs cs e = cc

found : (o : Option (List ℕ × ℕ)) (r : List ℕ × ℕ) → o ≡ None → o ≡ Some r → ⊥
found o r e f = let g : None ≡ Some r = sym e ∙ f in cc

abbrev size_of : Option (List ℕ × ℕ) → ℕ
size_of None = 0
size_of (Some r) = r.1

-- what is read as no text is none
not_quoted : (bytes tail : List ℕ) → text_at false tail ≡ None → IsQuoted bytes (34 ∷ tail) → ⊥
not_quoted bytes tail e i =
    let s : tail ≡ i.0 ++ 34 ∷ [] = same_tail 34 tail (i.0 ++ 34 ∷ []) i.1 in
    found (text_at false tail) (bytes, length i.0 + 1) e (ap (text_at false) s ∙ text_whole i.2 [])

-- nor is it with another byte and more
not_begun : (front : List ℕ) (b : ℕ) → ((more : List ℕ) → text_at false (front ++ b ∷ more) ≡ None) → BeginsQuoted (34 ∷ (front ++ b ∷ [])) → ⊥
not_begun front b e (more, said, i) =
    not_quoted said (front ++ b ∷ more) (e more) (subst (λ (l : List ℕ). IsQuoted said (34 ∷ l)) (append_assoc front (b ∷ []) more) i)

pub bad_stops : (body bytes rest : List ℕ) → Decodes body bytes → begins goes_on rest ≡ false → StopsBefore (34 ∷ body) rest
bad_stops body bytes rest d e = record {
  quote = refl;
  begun = (34 ∷ [], bytes, (body, refl, d));
  unclosed = λ said i. not_quoted said body (subst (λ (l : List ℕ). text_at false l ≡ None) (append-nil body) (text_stops d [] refl)) i;
  no_further = λ b after q g. not_begun body b (λ more. text_stops d (b ∷ more) (ap (begins goes_on) (sym q) ∙ e)) g;
}

pub escape_stops : (body bytes rest : List ℕ) → Decodes body bytes → begins is_escape rest ≡ false → StopsBefore (34 ∷ (body ++ 92 ∷ [])) rest
escape_stops body bytes rest d e = record {
  quote = refl;
  begun =
      let s : (body ++ 92 ∷ []) ++ 110 ∷ 34 ∷ [] ≡ (body ++ 92 ∷ 110 ∷ []) ++ 34 ∷ [] =
      append_assoc body (92 ∷ []) (110 ∷ 34 ∷ []) ∙ sym (append_assoc body (92 ∷ 110 ∷ []) (34 ∷ [])) in
      (110 ∷ 34 ∷ [], bytes ++ 10 ∷ [], (body ++ 92 ∷ 110 ∷ [], ap (λ (l : List ℕ). 34 ∷ l) s, decodes_more d (92 ∷ 110 ∷ []) (10 ∷ []) (escape 110 10 [] [] refl nothing)));
  unclosed = λ said i. not_quoted said (body ++ 92 ∷ []) (text_stops_escape d [] refl) i;
  no_further = λ b after q g.
      not_begun (body ++ 92 ∷ []) b
      (λ more. ap (text_at false) (append_assoc body (92 ∷ []) (b ∷ more)) ∙ text_stops_escape d (b ∷ more) (ap (begins is_escape) (sym q) ∙ e)) g;
}

-- two lists that are one: what one has more than the other
beside : (a b c d : List ℕ) → a ++ b ≡ c ++ d → ((m : List ℕ) × (c ≡ a ++ m) × (b ≡ m ++ d)) ⊎ ((x : ℕ) × (m : List ℕ) × (a ≡ c ++ x ∷ m) × (d ≡ x ∷ (m ++ b)))
beside [] b c d e = inl (c, refl, e)
beside (x ∷ a) b [] d e = inr (x, a, refl, sym e)
beside (x ∷ a) b (y ∷ c) d e =
    let h : x ≡ y = cc in
    let t : a ++ b ≡ c ++ d = cc in
    elim (beside a b c d t) [
      | inl i ↦ inl (i.0, ap (λ (z : ℕ). z ∷ c) (sym h) ∙ ap (λ (l : List ℕ). x ∷ l) i.1, i.2)
      | inr j ↦ inr (j.0, j.1, ap (λ (z : ℕ). z ∷ a) h ∙ ap (λ (l : List ℕ). y ∷ l) j.2, j.3)
    ]

-- a text does not go on where it stops
no_longer : (a x m after : List ℕ) (b : ℕ) → StopsBefore a x → x ≡ b ∷ after → BeginsQuoted (a ++ b ∷ m) → ⊥
no_longer a x m after b s q (more, said, i) =
    let e : (a ++ b ∷ m) ++ more ≡ (a ++ b ∷ []) ++ (m ++ more) = append_assoc a (b ∷ m) more ∙ sym (append_assoc a (b ∷ []) (m ++ more)) in
    s.no_further b after q (m ++ more, said, subst (IsQuoted said) e i)

-- it stops at one place
pub one_stop : (a x b y : List ℕ) → StopsBefore a x → StopsBefore b y → a ++ x ≡ b ++ y → a ≡ b
one_stop a x b y s t e =
    elim (beside a x b y e) [
      | inl i ↦ same_or a x b y i.0 s t i.1 i.2
      | inr j ↦ absurd (no_longer b y j.1 (j.1 ++ x) j.0 t j.3 (subst BeginsQuoted j.2 s.begun))
    ]
  where
    same_or : (a x b y m : List ℕ) → StopsBefore a x → StopsBefore b y → b ≡ a ++ m → x ≡ m ++ y → a ≡ b
    same_or a x b y [] s t p q = sym (append-nil a) ∙ sym p
    same_or a x b y (c ∷ m) s t p q = absurd (no_longer a x m (m ++ y) c s q (subst BeginsQuoted p t.begun))

-- a text that is closed does not go on
no_more : (body bytes tail m : List ℕ) (x : ℕ) → Decodes body bytes → tail ≡ (body ++ 34 ∷ []) ++ x ∷ m → BeginsQuoted (34 ∷ tail) → ⊥
no_more body bytes tail m x d p (more, said, i) =
    let w : tail ++ more ≡ i.0 ++ 34 ∷ [] = same_tail 34 (tail ++ more) (i.0 ++ 34 ∷ []) i.1 in
    let v : tail ++ more ≡ body ++ 34 ∷ ((x ∷ m) ++ more) =
    ap (λ (l : List ℕ). l ++ more) p ∙ append_assoc (body ++ 34 ∷ []) (x ∷ m) more ∙ append_assoc body (34 ∷ []) ((x ∷ m) ++ more) in
    let f : text_at false (tail ++ more) ≡ Some (said, length i.0 + 1) = ap (text_at false) w ∙ text_whole i.2 [] in
    let g : text_at false (tail ++ more) ≡ Some (bytes, length body + 1) = ap (text_at false) v ∙ text_whole d ((x ∷ m) ++ more) in
    let n : length i.0 + 1 ≡ length body + 1 = ap size_of (sym f ∙ g) in
    omega (arith, n, ap length w, ap length v, length-append i.0 (34 ∷ []), length-append body (34 ∷ ((x ∷ m) ++ more)))

closed_here : (tail rest bytes : List ℕ) → StopsBefore (34 ∷ tail) rest → Closed (tail ++ rest) bytes → ⊥
closed_here tail rest bytes s c =
    elim (beside tail rest (c.body ++ 34 ∷ []) c.after (c.split ∙ sym (append_assoc c.body (34 ∷ []) c.after))) [
      | inl i ↦ short tail rest bytes c.body c.after i.0 s c.decoded i.1 i.2
      | inr j ↦ no_more c.body bytes tail j.1 j.0 c.decoded j.2 s.begun
    ]
  where
    short : (tail rest bytes body after m : List ℕ) → StopsBefore (34 ∷ tail) rest → Decodes body bytes → body ++ 34 ∷ [] ≡ tail ++ m → rest ≡ m ++ after → ⊥
    short tail rest bytes body after [] s d p q = s.unclosed bytes (body, ap (λ (l : List ℕ). 34 ∷ l) (sym (append-nil tail) ∙ sym p), d)
    short tail rest bytes body after (b ∷ m) s d p q =
        no_longer (34 ∷ tail) rest m (m ++ after) b s q ([], bytes, (body, ap (λ (l : List ℕ). 34 ∷ l) (append-nil (tail ++ b ∷ m) ∙ sym p), d))

none_read : (tail rest : List ℕ) (o : Option (List ℕ × ℕ)) → text_at false (tail ++ rest) ≡ o → StopsBefore (34 ∷ tail) rest → o ≡ None
none_read tail rest None e s = refl
none_read tail rest (Some r) e s = absurd (closed_here tail rest r.0 s (text_sound (tail ++ rest) r.0 r.1 e))

-- where a text stops none is read
pub stops_none : (tail rest : List ℕ) → StopsBefore (34 ∷ tail) rest → text_at false (tail ++ rest) ≡ None
stops_none tail rest s = none_read tail rest (text_at false (tail ++ rest)) refl s
