-- What a refusal of a form means.
use Rattle.std.proofs.Common.{◌≡◌, ℕ, zero, suc, ◌≤◌, ◌<◌, Bool, true, false, List, [], ◌∷◌, ◌++◌, length, drop, Option, Some, Ok, Err, refl, sym, ap, subst, ◌∙◌, append_assoc, arith, length-append, inl, inr, ◌⊎◌}
use Rattle.std.proofs.lemmas.List.{append-nil}
use Rattle.isp_base.specs.declared.types.Span.{Span}
use Rattle.isp_lex.specs.Tokens.{at, starts_with}
use Rattle.isp_lex.specs.declared.token.Mark.{Mark}
use Rattle.isp_lex.specs.declared.token.Mark.TheVariants as mark
use Rattle.isp_lex.specs.declared.token.TokenKind.{TokenKind}
use Rattle.isp_lex.specs.declared.token.Token.{Token}
use Rattle.isp_grammar.proofs.Basics.{err_is, ok_err, bind_err, chosen, starts_same, starts_cons, head_past, mark_err, mark_off, word_off, word_err}
use Rattle.isp_grammar.proofs.Forms.{Form, IsSound, IsComplete, Can, One, Named, Both, Follows, Optional, Listed, AreListed, Series, AreAll, Until}
use Rattle.isp_grammar.proofs.FormsComplete.{EndsByHead, read_again, mark_starts, TakesComma, StartsOff, item_long}
use Rattle.isp_grammar.specs.Signs.{word}
use Rattle.isp_grammar.specs.reader.Readers.{Read, Reader, ◌>>=◌, refusal, head, on_head, is_word, optional_from, optional, after_item, list_at, listed_at, until_from, until_at}
use Rattle.isp_grammar.specs.declared.stop.Why.{Why}
use Rattle.isp_grammar.specs.declared.stop.Why.TheVariants.{Unexpected, TooDeep}
use Rattle.isp_grammar.specs.declared.stop.Refusal.{Refusal}
use Rattle.isp_tree.specs.declared.types.Word.{Word}

-- A refusal of a token stays with more depth left, one of depth does not.
abbrev pub Allowed : Why → ℕ → ℕ → Type 0
Allowed Unexpected n m = n ≤ m
Allowed TooDeep n m = n ≡ m

-- The tokens before the refused one, and for a refusal of depth that one too, begin what the tokens are to be.
abbrev pub Completes : (List Token → Type 0) → Why → List Token → List Token → Type 0
Completes is Unexpected used after = (closing : List Token) × is (used ++ closing)
Completes is TooDeep used [] = ⊥
Completes is TooDeep used (t ∷ after) = (closing : List Token) × is (used ++ t ∷ closing)

-- a refusal: where it is, that what stands before can be completed, and that it comes whatever follows the refused token
pub record Refused (is : List Token → Type 0) (fails : ℕ → List Token → Refusal → Type 0) (n : ℕ) (ts : List Token) (r : Refusal) : Type 0 where
  pub used : List Token
  pub after : List Token
  pub split : ts ≡ used ++ after
  pub place : r.left ≡ length after
  pub viable : Completes is r.why used after
  pub stays : (m : ℕ) (more : List Token) → Allowed r.why n m → head after ≡ head more → fails m (used ++ more) (refusal r.why more)

allowed_le : (why : Why) (n m : ℕ) → Allowed why n m → n ≤ m
allowed_le Unexpected n m h = h
allowed_le TooDeep n m h = omega arith

regroup : (pre used closing post : List Token) → pre ++ ((used ++ closing) ++ post) ≡ (pre ++ used) ++ (closing ++ post)
regroup pre used closing post = simp append_assoc

wrap : (is2 is : List Token → Type 0) (pre post : List Token) → ((ts : List Token) → is2 ts → is (pre ++ (ts ++ post))) → (why : Why) (used after : List Token) → Completes is2 why used after → Completes is why (pre ++ used) after
wrap is2 is pre post g Unexpected used after c = (c.0 ++ post, subst is (regroup pre used c.0 post) (g (used ++ c.0) c.1))
wrap is2 is pre post g TooDeep used [] c = absurd c
wrap is2 is pre post g TooDeep used (t ∷ after) c = (c.0 ++ post, subst is (regroup pre used (t ∷ c.0) post) (g (used ++ t ∷ c.0) c.1))

-- a refusal of a part is one of the whole
pub lift : (is2 is : List Token → Type 0) (fails2 fails : ℕ → List Token → Refusal → Type 0) (n : ℕ) (pre post ts : List Token) (r : Refusal) → Refused is2 fails2 n ts r
    → ((l : List Token) → is2 l → is (pre ++ (l ++ post)))
    → ((m : ℕ) (u : List Token) (d : Refusal) → n ≤ m → head ts ≡ head u → fails2 m u d → fails m (pre ++ u) d)
    → Refused is fails n (pre ++ ts) r
lift is2 is fails2 fails n pre post ts r p g reads = record {
  used = pre ++ p.used;
  after = p.after;
  split = ap (λ (l : List Token). pre ++ l) p.split ∙ sym (append_assoc pre p.used p.after);
  place = p.place;
  viable = wrap is2 is pre post g r.why p.used p.after p.viable;
  stays = λ m more a h.
      let same : head ts ≡ head (p.used ++ more) = ap head p.split ∙ head_past p.used p.after more h in
      subst (λ (l : List Token). fails m l (refusal r.why more)) (sym (append_assoc pre p.used more)) (reads m (p.used ++ more) (refusal r.why more) (allowed_le r.why n m a) same (p.stays m more a h));
}

-- a refusal of the first token
pub refused_here : (is : List Token → Type 0) (fails : ℕ → List Token → Refusal → Type 0) (n : ℕ) (ts : List Token) (closing : List Token) → is closing
    → ((m : ℕ) (more : List Token) → n ≤ m → head ts ≡ head more → fails m more (refusal Unexpected more)) → Refused is fails n ts (refusal Unexpected ts)
refused_here is fails n ts closing i s = record { used = []; after = ts; split = refl; place = refl; viable = (closing, i); stays = s }

-- the first token is too deep
pub deep_here : (is : List Token → Type 0) (fails : ℕ → List Token → Refusal → Type 0) (n : ℕ) (t : Token) (ts : List Token) (closing : List Token) → is (t ∷ closing)
    → ((more : List Token) → head (t ∷ ts) ≡ head more → fails n more (refusal TooDeep more)) → Refused is fails n (t ∷ ts) (refusal TooDeep (t ∷ ts))
deep_here is fails n t ts closing i s = record {
  used = [];
  after = t ∷ ts;
  split = refl;
  place = refl;
  viable = (closing, i);
  stays = λ m more a b. subst (λ (m : ℕ). fails m more (refusal TooDeep more)) a (s more b);
}

raised : (n : ℕ) (why : Why) (m : ℕ) (fails : ℕ → List Token → Refusal → Type 0) (u : List Token) (d : Refusal) → ((k : ℕ) → Allowed why n k → fails (suc k) u d) → Allowed why (suc n) m → fails m u d
raised n Unexpected zero fails u d f a = absurd (omega arith)
raised n Unexpected (suc m) fails u d f a = f m (omega arith)
raised n TooDeep zero fails u d f a = absurd (omega arith)
raised n TooDeep (suc m) fails u d f a = f m (omega arith)

-- a refusal with one more level of depth left
pub raise : (n : ℕ) (is : List Token → Type 0) (fails : ℕ → List Token → Refusal → Type 0) (ts : List Token) (r : Refusal) → Refused is (λ m u d. fails (suc m) u d) n ts r → Refused is fails (suc n) ts r
raise n is fails ts r p = record {
  used = p.used;
  after = p.after;
  split = p.split;
  place = p.place;
  viable = p.viable;
  stays = λ m more a h. raised n r.why m fails (p.used ++ more) (refusal r.why more) (λ k b. p.stays k more b h) a;
}

abbrev pub FailsForm : {A : Type 0} → Form A → ℕ → List Token → Refusal → Type 0
FailsForm F m u d = F.read m u ≡ Err d

abbrev pub IsRefused : {A : Type 0} → Form A → ℕ → Type 0
IsRefused {A} F n = (ts : List Token) (r : Refusal) → F.read n ts ≡ Err r → Refused (Can F) (FailsForm F) n ts r

-- ---- single tokens

pub one_refused : (m : Mark) (n : ℕ) → IsRefused (One m) n
one_refused m n ts r e =
    let p = mark_err m ts r e in
    let s : Span = record { start = 0; end = 0 } in
    subst (λ (d : Refusal). Refused (Can (One m)) (FailsForm (One m)) n ts d) (sym p.0)
    (refused_here (Can (One m)) (FailsForm (One m)) n ts (at m s ∷ []) (s, refl) (λ k more le h. mark_off m more (sym (starts_same m ts more h) ∙ p.1)))

pub named_refused : (n : ℕ) → IsRefused Named n
named_refused n ts r e =
    let p = word_err ts r e in
    let w : Word = record { name = []; span = record { start = 0; end = 0 } } in
    subst (λ (d : Refusal). Refused (Can Named) (FailsForm Named) n ts d) (sym p.0)
    (refused_here (Can Named) (FailsForm Named) n ts (word w ∷ []) (w, refl) (λ k more le h. word_off more (ap (λ (o : Option TokenKind). on_head false is_word o) (sym h) ∙ p.1)))

-- ---- one after another

module _ {A B : Type 0} (F : Form A) (G : Form B) (fits : A → B → Type 0) (follows : Follows F G fits) where
  first_whole : (a : List Token) → Can F a → (b : List Token) × Can (Both F G fits) (a ++ b)
  first_whole a i = let o = follows.some i.0 in (o.0, ((i.0, o.1), (a, o.0, refl, i.1, o.2, o.3)))

  first_completes : (why : Why) (used after : List Token) → Completes (Can F) why used after → Completes (Can (Both F G fits)) why used after
  first_completes Unexpected used after c = let w = first_whole (used ++ c.0) c.1 in (c.0 ++ w.0, subst (Can (Both F G fits)) (append_assoc used c.0 w.0) w.1)
  first_completes TooDeep used [] c = absurd c
  first_completes TooDeep used (t ∷ after) c = let w = first_whole (used ++ t ∷ c.0) c.1 in (c.0 ++ w.0, subst (Can (Both F G fits)) (append_assoc used (t ∷ c.0) w.0) w.1)

  first_refused : (n : ℕ) (ts : List Token) (r : Refusal) → Refused (Can F) (FailsForm F) n ts r → Refused (Can (Both F G fits)) (FailsForm (Both F G fits)) n ts r
  first_refused n ts r p = record {
    used = p.used;
    after = p.after;
    split = p.split;
    place = p.place;
    viable = first_completes r.why p.used p.after p.viable;
    stays = λ m more a h. rw (p.stays m more a h) refl;
  }

  pub both_refused : (n : ℕ) → EndsByHead F → ((m : ℕ) → IsComplete F m) → IsSound F n → IsRefused F n → IsRefused G n → IsRefused (Both F G fits) n
  both_refused n by_head complete sound f g ts r e =
      elim (bind_err (F.read n ts) (λ x. (G.read n x.1 >>= λ y. Ok ((x.0, y.0), y.1))) r e) [
        | inl p ↦ first_refused n ts r (f ts r p)
        | inr p ↦
            elim (bind_err (G.read n p.0.1) (λ y. Ok ((p.0.0, y.0), y.1)) r p.2) [
              | inl q ↦
                  let one = sound ts p.0.0 p.0.1 p.1 in
                  subst (λ (l : List Token). Refused (Can (Both F G fits)) (FailsForm (Both F G fits)) n l r) (sym one.split)
                  (lift (Can G) (Can (Both F G fits)) (FailsForm G) (FailsForm (Both F G fits)) n one.used [] p.0.1 r (g p.0.1 r q)
                  (λ l i. ((p.0.0, i.0), (one.used, l ++ [], refl, one.is, subst (λ (a : List Token). G.is a i.0) (sym (append-nil l)) i.1, follows.fit_refused p.0.0 p.0.1 n r one.ends q i.0)))
                  (λ m u d le h w. rw (read_again F by_head complete n ts p.0.0 p.0.1 one m u le h, w) refl))
              | inr q ↦ absurd (ok_err q.2)
            ]
      ]

-- ---- what is made of a form

pub made_err : {A B : Type 0} (g : A → B) (read : Read A) (r : Refusal) → ◌≡◌ {A = Read B} (read >>= λ x. Ok (g x.0, x.1)) (Err r) → read ≡ Err r
made_err g (Ok x) r e = absurd (ok_err e)
made_err g (Err d) r e = ap (λ (c : Refusal). Err c) (err_is e)

pub made_fails : {A B : Type 0} (g : A → B) (read : Read A) (whole : Read B) (d : Refusal) → whole ≡ (read >>= λ x. Ok (g x.0, x.1)) → read ≡ Err d → whole ≡ Err d
made_fails g read whole d reads e = reads ∙ rw e refl

pub made_refused : {A B : Type 0} (F : Form A) (H : Form B) (g : A → B) (pre : List Token) (fails : ℕ → List Token → Refusal → Type 0) (n : ℕ) (ts : List Token) (r : Refusal) → IsRefused F n → F.read n ts ≡ Err r
    → ((a : List Token) (x : A) → F.is a x → H.is (pre ++ a) (g x)) → ((m : ℕ) (u : List Token) (d : Refusal) → n ≤ m → head ts ≡ head u → F.read m u ≡ Err d → fails m (pre ++ u) d)
    → Refused (Can H) fails n (pre ++ ts) r
made_refused F H g pre fails n ts r f e makes reads =
    lift (Can F) (Can H) (FailsForm F) fails n pre [] ts r (f ts r e) (λ l i. (g i.0, makes (l ++ []) i.0 (subst (λ (a : List Token). F.is a i.0) (sym (append-nil l)) i.1))) reads

-- ---- what a mark begins, where it stands

module _ {A : Type 0} (m : Mark) (F : Form A) (n : ℕ) (f : IsRefused F n) where
  optional_from_refused : (ts : List Token) (b : Bool) (r : Refusal) → starts_with m ts ≡ b → optional_from (F.read n) ts b ≡ Err r → Refused (Can (Optional m F)) (FailsForm (Optional m F)) n ts r
  unfolding optional
  optional_from_refused ts false r s e = absurd (ok_err e)
  optional_from_refused ts true r s e =
      let o = starts_cons m ts s in
      elim (bind_err (F.read n (drop 1 ts)) (λ x. Ok (Some x.0, x.1)) r e) [
        | inl p ↦
            subst (λ (l : List Token). Refused (Can (Optional m F)) (FailsForm (Optional m F)) n l r) (sym o.1)
            (lift (Can F) (Can (Optional m F)) (FailsForm F) (FailsForm (Optional m F)) n (at m o.0 ∷ []) [] (drop 1 ts) r (f (drop 1 ts) r p)
            (λ l i. (Some i.0, (o.0, l, ap (λ (a : List Token). at m o.0 ∷ a) (append-nil l), i.1)))
            (λ k u d le h w. rw (mark_starts m o.0 u, w) refl))
        | inr p ↦ absurd (ok_err p.2)
      ]

  pub optional_refused : IsRefused (Optional m F) n
  unfolding optional
  optional_refused ts r e = optional_from_refused ts (starts_with m ts) r refl e

-- ---- lists

module _ {A : Type 0} (F : Form A) where
  item_err : (more : Reader (List A)) (x : A) (ts : List Token) (b : Bool) (d : Refusal) → after_item more x ts b ≡ Err d → (b ≡ true) × (more (drop 1 ts) ≡ Err d)
  item_err more x ts false d e = absurd (ok_err e)
  item_err more x ts true d e =
      elim (bind_err (more (drop 1 ts)) (λ ys. Ok (x ∷ ys.0, ys.1)) d e) [ inl p ↦ (refl, p) | inr p ↦ absurd (ok_err p.2) ]

  abbrev FailsList : ℕ → List Token → Refusal → Type 0
  FailsList m u d = (f : ℕ) → length u < f → list_at (F.read m) f u ≡ Err d

  list_item_fails : (m : ℕ) (u : List Token) (d : Refusal) → F.read m u ≡ Err d → FailsList m u d
  unfolding list_at
  list_item_fails m u d w zero lt = absurd (omega arith)
  list_item_fails m u d w (suc f) lt = rw w refl

  list_more_fails : (m : ℕ) (a : List Token) (x : A) (c : Span) (u : List Token) (d : Refusal) (f : ℕ) → length ((a ++ at mark.Comma c ∷ []) ++ u) < f
      → F.read m (a ++ at mark.Comma c ∷ u) ≡ Ok (x, at mark.Comma c ∷ u) → FailsList m u d → list_at (F.read m) f ((a ++ at mark.Comma c ∷ []) ++ u) ≡ Err d
  unfolding list_at
  list_more_fails m a x c u d zero lt one w = absurd (omega arith)
  list_more_fails m a x c u d (suc f) lt one w =
      let l : length u < f = omega (arith, length-append (a ++ at mark.Comma c ∷ []) u, length-append a (at mark.Comma c ∷ [])) in
      rw (append_assoc a (at mark.Comma c ∷ []) u, one, w f l) refl

  -- an item, a comma and a list
  comma_list : (a : List Token) (x : A) (c : Span) (l : List Token) → F.is a x → Can (Listed F) l → Can (Listed F) ((a ++ at mark.Comma c ∷ []) ++ (l ++ []))
  comma_list a x c l i q = build q.0 q.1
    where
      split : (a ++ at mark.Comma c ∷ []) ++ (l ++ []) ≡ a ++ at mark.Comma c ∷ l
      split = append_assoc a (at mark.Comma c ∷ []) (l ++ []) ∙ ap (λ (b : List Token). a ++ at mark.Comma c ∷ b) (append-nil l)

      build : (ys : List A) → AreListed F l ys → Can (Listed F) ((a ++ at mark.Comma c ∷ []) ++ (l ++ []))
      build [] j = absurd j
      build (y ∷ ys) j = (x ∷ y ∷ ys, (a, c, l, split, i, j))

  module _ (n : ℕ) (by_head : EndsByHead F) (comma : TakesComma F) (complete : (m : ℕ) → IsComplete F m) (sound : IsSound F n) (ih : IsRefused F n) where
    pub list_refused : (f : ℕ) (ts : List Token) (r : Refusal) → length ts < f → list_at (F.read n) f ts ≡ Err r → Refused (Can (Listed F)) FailsList n ts r
    unfolding list_at
    list_refused zero ts r lt e = absurd (omega arith)
    list_refused (suc f) ts r lt e =
        elim (bind_err (F.read n ts) (λ x. after_item (list_at (F.read n) f) x.0 x.1 (starts_with mark.Comma x.1)) r e) [
          | inl p ↦
              lift (Can F) (Can (Listed F)) (FailsForm F) FailsList n [] [] ts r (ih ts r p)
              (λ l i. (i.0 ∷ [], subst (λ (a : List Token). F.is a i.0) (sym (append-nil l)) i.1))
              (λ m u d le h w. list_item_fails m u d w)
          | inr p ↦
              let x = sound ts p.0.0 p.0.1 p.1 in
              let q = item_err (list_at (F.read n) f) p.0.0 p.0.1 (starts_with mark.Comma p.0.1) r p.2 in
              let c = starts_cons mark.Comma p.0.1 q.0 in
              let s : ts ≡ (x.used ++ at mark.Comma c.0 ∷ []) ++ drop 1 p.0.1 = x.split ∙ ap (λ (l : List Token). x.used ++ l) c.1 ∙ sym (append_assoc x.used (at mark.Comma c.0 ∷ []) (drop 1 p.0.1)) in
              let more = list_refused f (drop 1 p.0.1) r (omega (arith, ap length s, length-append (x.used ++ at mark.Comma c.0 ∷ []) (drop 1 p.0.1), length-append x.used (at mark.Comma c.0 ∷ []))) q.1 in
              subst (λ (l : List Token). Refused (Can (Listed F)) FailsList n l r) (sym s)
              (lift (Can (Listed F)) (Can (Listed F)) FailsList FailsList n (x.used ++ at mark.Comma c.0 ∷ []) [] (drop 1 p.0.1) r more
              (λ l i. comma_list x.used p.0.0 c.0 l x.is i)
              (λ m u d le h w g lt.
              list_more_fails m x.used p.0.0 c.0 u d g lt (read_again F by_head complete n ts p.0.0 p.0.1 x m (at mark.Comma c.0 ∷ u) le (ap head c.1)) w))
        ]

    series_some : (m : Mark) (l : List Token) → Can (Listed F) l → Can (Series F m) (l ++ [])
    series_some m l q = subst (λ (a : List Token). Can (Series F m) a) (sym (append-nil l)) (build q.0 q.1)
      where
        build : (ys : List A) → AreListed F l ys → Can (Series F m) l
        build [] j = absurd j
        build (y ∷ ys) j = (y ∷ ys, j)

    pub series_refused : (m : Mark) → IsRefused (Series F m) n
    unfolding listed_at
    series_refused m ts r e =
        elim (chosen (starts_with m ts) (Ok ([], ts)) (list_at (F.read n) (suc (length ts)) ts) (Err r) e) [
          | inl p ↦ absurd (ok_err p.1)
          | inr p ↦
              lift (Can (Listed F)) (Can (Series F m)) FailsList (FailsForm (Series F m)) n [] [] ts r (list_refused (suc (length ts)) ts r (omega arith) p.1)
              (λ l i. series_some m l i)
              (λ k u d le h w. let c = sym (starts_same m ts u h) ∙ p.0 in rw (c, w (suc (length u)) (omega arith)) refl)
        ]

  until_err : (one : Reader A) (more : Reader (List A)) (ts : List Token) (b : Bool) (d : Refusal) → until_from one more ts b ≡ Err d
      → (b ≡ false) × ((one ts ≡ Err d) ⊎ ((x : A) × (mid : List Token) × (one ts ≡ Ok (x, mid)) × (more mid ≡ Err d)))
  until_err one more ts true d e = absurd (ok_err e)
  until_err one more ts false d e = (
    refl,
    elim (bind_err (one ts) (λ x. (more x.1 >>= λ ys. Ok (x.0 ∷ ys.0, ys.1))) d e) [
      | inl p ↦ inl p
      | inr p ↦
          elim (bind_err (more p.0.1) (λ ys. Ok (p.0.0 ∷ ys.0, ys.1)) d p.2) [
            | inl q ↦ inr (p.0.0, p.0.1, p.1, q)
            | inr q ↦ absurd (ok_err q.2)
          ]
    ],
  )

  module _ (mark : Mark) where
    abbrev FailsUntil : ℕ → List Token → Refusal → Type 0
    FailsUntil m u d = (f : ℕ) → length u < f → until_at mark (F.read m) f u ≡ Err d

    until_item_fails : (m : ℕ) (u : List Token) (d : Refusal) → starts_with mark u ≡ false → F.read m u ≡ Err d → FailsUntil m u d
    unfolding until_at
    until_item_fails m u d c w zero lt = absurd (omega arith)
    until_item_fails m u d c w (suc f) lt = rw (c, w) refl

    until_more_fails : (m : ℕ) (a u : List Token) (x : A) (d : Refusal) → StartsOff F mark → F.is a x → F.read m (a ++ u) ≡ Ok (x, u) → FailsUntil m u d → FailsUntil m (a ++ u) d
    unfolding until_at
    until_more_fails m a u x d off i one w zero lt = absurd (omega arith)
    until_more_fails m a u x d off i one w (suc f) lt =
        let l : length u < f = omega (arith, length-append a u, item_long F mark off a x i) in
        rw (off a x u i, one, w f l) refl

    module _ (n : ℕ) (off : StartsOff F mark) (by_head : EndsByHead F) (complete : (m : ℕ) → IsComplete F m) (sound : IsSound F n) (ih : IsRefused F n) where
      all_refused : (f : ℕ) (ts : List Token) (r : Refusal) → length ts < f → until_at mark (F.read n) f ts ≡ Err r → Refused (Can (Until F mark)) FailsUntil n ts r
      unfolding until_at
      all_refused zero ts r lt e = absurd (omega arith)
      all_refused (suc f) ts r lt e =
          let p = until_err (F.read n) (until_at mark (F.read n) f) ts (starts_with mark ts) r e in
          elim p.1 [
            | inl q ↦
                lift (Can F) (Can (Until F mark)) (FailsForm F) FailsUntil n [] [] ts r (ih ts r q)
                (λ l i. (i.0 ∷ [], (l, [], refl, i.1, refl)))
                (λ m u d le h w. until_item_fails m u d (sym (starts_same mark ts u h) ∙ p.0) w)
            | inr q ↦
                let x = sound ts q.0 q.1 q.2 in
                subst (λ (l : List Token). Refused (Can (Until F mark)) FailsUntil n l r) (sym x.split)
                (lift (Can (Until F mark)) (Can (Until F mark)) FailsUntil FailsUntil n x.used [] q.1 r (all_refused f q.1 r (omega (arith, ap length x.split, length-append x.used q.1, item_long F mark off x.used q.0 x.is)) q.3)
                (λ l i. (q.0 ∷ i.0, (x.used, l ++ [], refl, x.is, subst (λ (a : List Token). AreAll F a i.0) (sym (append-nil l)) i.1)))
                (λ m u d le h w. until_more_fails m x.used u q.0 d off x.is (read_again F by_head complete n ts q.0 q.1 x m u le h) w))
          ]

      pub until_refused : IsRefused (Until F mark) n
      until_refused ts r e =
          let p = all_refused (suc (length ts)) ts r (omega arith) e in
          record { used = p.used; after = p.after; split = p.split; place = p.place; viable = p.viable; stays = λ m more a h. p.stays m more a h (suc (length (p.used ++ more))) (omega arith) }
