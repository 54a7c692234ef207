-- Forms of what the first token decides.
use Rattle.std.proofs.Common.{◌≡◌, ℕ, zero, suc, max, Bool, true, false, List, [], ◌∷◌, ◌++◌, Option, Some, None, Ok, Err, refl, sym, ap, subst, ◌∙◌, append_assoc, arith, inl, inr, ◌⊎◌}
use Rattle.std.proofs.lemmas.List.{append-nil}
use Rattle.isp_base.specs.declared.types.Span.{Span}
use Rattle.isp_lex.specs.Tokens.{at, starts_with}
use Rattle.isp_lex.specs.declared.token.Mark.{Mark}
use Rattle.isp_lex.specs.declared.token.TokenKind.{TokenKind}
use Rattle.isp_lex.specs.declared.token.Token.{Token}
use Rattle.isp_grammar.proofs.Basics.{ok_is, err_is, ok_err, err_ok, bind_ok, bind_err, chosen, starts_same, token}
use Rattle.isp_grammar.proofs.Forms.{Form, Found, IsSound, IsComplete, Can, made_sound, made_complete, Behind, Follows, Free, follows, behind_is, is_behind}
use Rattle.isp_grammar.proofs.FormsComplete.{EndsByHead, read_again, StartsOff}
use Rattle.isp_grammar.proofs.Refused.{Refused, FailsForm, IsRefused, lift, refused_here, deep_here, raise, made_refused, made_err, made_fails}
use Rattle.isp_grammar.specs.reader.Readers.{Reader, ◌>>=◌, refusal, refuse, head, on_head, both, at_limit}
use Rattle.isp_grammar.specs.reader.Choices.{begins_with, sign_from, sign_at, maybe_from, maybe_at, perhaps_from, perhaps_at, either_from, either_at, counted_at}
use Rattle.isp_grammar.specs.declared.stop.Why.TheVariants.{Unexpected, TooDeep}
use Rattle.isp_grammar.specs.declared.stop.Refusal.{Refusal}
use Rattle.isp_tree.specs.declared.types.Word.{Word}

-- some place
abbrev pub nowhere : Span
nowhere = record { start = 0; end = 0 }

-- some name
abbrev pub nameless : Word
nameless = record { name = []; span = nowhere }

-- the same first token, the same choice
pub begins_same : (b : TokenKind → Bool) (u v : List Token) → head u ≡ head v → begins_with b u ≡ begins_with b v
begins_same b u v e = ap (λ (o : Option TokenKind). on_head false b o) e

-- ---- one sign of several

module _ {C : Type 0} (pick : TokenKind → Option C) (kind_of : C → TokenKind) where
  abbrev pub Sign : Form (C × Span)
  Sign = record { is = λ ts p. ts ≡ token (kind_of p.0) p.1 ∷ []; deep = λ p. 0; ends = λ p rest. Unit {0}; read = λ n ts. sign_at pick ts }

  pub record Signs : Type 0 where
    pub found : (k : TokenKind) (c : C) → pick k ≡ Some c → k ≡ kind_of c
    pub again : (c : C) → pick (kind_of c) ≡ Some c
    pub some : C

  module _ (signs : Signs) where
    sign_from_ok : (t : Token) (ts : List Token) (o : Option C) (p : C × Span) (rest : List Token) → pick t.kind ≡ o → sign_from o t ts ≡ Ok (p, rest) → t ∷ ts ≡ token (kind_of p.0) p.1 ∷ rest
    sign_from_ok t ts None p rest s e = absurd (err_ok e)
    sign_from_ok t ts (Some c) p rest s e =
        subst (λ (z : (C × Span) × List Token). t ∷ ts ≡ token (kind_of z.0.0) z.0.1 ∷ z.1) (ok_is e) (ap (λ (k : TokenKind). token k t.span ∷ ts) (signs.found t.kind c s))

    pub sign_sound : (n : ℕ) → IsSound Sign n
    unfolding sign_at
    sign_sound n [] p rest e = absurd (err_ok e)
    sign_sound n (t ∷ ts) p rest e = record { used = token (kind_of p.0) p.1 ∷ []; split = sign_from_ok t ts (pick t.kind) p rest refl e; is = refl; shallow = omega arith; ends = tt }

    pub sign_again : (c : C) (s : Span) (rest : List Token) → sign_at pick (token (kind_of c) s ∷ rest) ≡ Ok ((c, s), rest)
    unfolding sign_at
    sign_again c s rest = rw (signs.again c) refl

    pub sign_complete : (n : ℕ) → IsComplete Sign n
    sign_complete n used p rest i le h = rw i (sign_again p.0 p.1 rest)

    sign_from_err : (t : Token) (ts : List Token) (o : Option C) (r : Refusal) → sign_from o t ts ≡ Err r → (r ≡ refusal Unexpected (t ∷ ts)) × (o ≡ None)
    sign_from_err t ts None r e = (sym (err_is e), refl)
    sign_from_err t ts (Some c) r e = absurd (ok_err e)

    sign_err : (ts : List Token) (r : Refusal) → sign_at pick ts ≡ Err r → (r ≡ refusal Unexpected ts) × (on_head None pick (head ts) ≡ None)
    unfolding sign_at
    sign_err [] r e = (sym (err_is e), refl)
    sign_err (t ∷ ts) r e = sign_from_err t ts (pick t.kind) r e

    sign_off : (u : List Token) → on_head None pick (head u) ≡ None → sign_at pick u ≡ refuse Unexpected u
    unfolding sign_at
    sign_off [] e = refl
    sign_off (t ∷ u) e = rw e refl

    pub sign_refused : (n : ℕ) → IsRefused Sign n
    sign_refused n ts r e =
        let p = sign_err ts r e in
        subst (λ (d : Refusal). Refused (Can Sign) (FailsForm Sign) n ts d) (sym p.0)
        (refused_here (Can Sign) (FailsForm Sign) n ts (token (kind_of signs.some) nowhere ∷ []) ((signs.some, nowhere), refl)
        (λ k more le h. sign_off more (ap (λ (o : Option TokenKind). on_head None pick o) (sym h) ∙ p.1)))

-- ---- nothing before a mark, or one

module _ {A : Type 0} (m : Mark) (F : Form A) where
  abbrev pub IsMaybe : List Token → Option A → Type 0
  IsMaybe ts None = ts ≡ []
  IsMaybe ts (Some x) = F.is ts x

  abbrev pub depth_of_maybe : Option A → ℕ
  depth_of_maybe None = 0
  depth_of_maybe (Some x) = F.deep x

  abbrev pub EndsMaybe : Option A → List Token → Type 0
  EndsMaybe None rest = starts_with m rest ≡ true
  EndsMaybe (Some x) rest = F.ends x rest

  abbrev pub Maybe : Form (Option A)
  Maybe = record { is = IsMaybe; deep = depth_of_maybe; ends = EndsMaybe; read = λ n ts. maybe_at m (F.read n) ts }

  maybe_from_sound : (n : ℕ) → IsSound F n → (ts : List Token) (b : Bool) (y : Option A) (rest : List Token) → starts_with m ts ≡ b → maybe_from (F.read n) ts b ≡ Ok (y, rest) → Found Maybe n ts y rest
  maybe_from_sound n f ts true y rest s e =
      subst (λ (z : Option A × List Token). Found Maybe n ts z.0 z.1) (ok_is e) (record { used = []; split = refl; is = refl; shallow = omega arith; ends = s })
  maybe_from_sound n f ts false y rest s e =
      let p = bind_ok (F.read n ts) (λ x. Ok (Some x.0, x.1)) (y, rest) e in
      let x = f ts p.0.0 p.0.1 p.1 in
      subst (λ (z : Option A × List Token). Found Maybe n ts z.0 z.1) (ok_is p.2) (record { used = x.used; split = x.split; is = x.is; shallow = x.shallow; ends = x.ends })

  pub maybe_sound : (n : ℕ) → IsSound F n → IsSound Maybe n
  unfolding maybe_at
  maybe_sound n f ts y rest e = maybe_from_sound n f ts (starts_with m ts) y rest refl e

  pub maybe_complete : StartsOff F m → (n : ℕ) → IsComplete F n → IsComplete Maybe n
  unfolding maybe_at
  maybe_complete off n f used None rest i le h = rw (i, h) refl
  maybe_complete off n f used (Some x) rest i le h = rw (off used x rest i, f used x rest i le h) refl

  pub maybe_by_head : EndsByHead F → EndsByHead Maybe
  maybe_by_head by_head None a b e h = sym (starts_same m a b e) ∙ h
  maybe_by_head by_head (Some x) a b e h = by_head x a b e h

  maybe_from_refused : (n : ℕ) → IsRefused F n → (ts : List Token) (b : Bool) (r : Refusal) → starts_with m ts ≡ b → maybe_from (F.read n) ts b ≡ Err r → Refused (Can Maybe) (FailsForm Maybe) n ts r
  unfolding maybe_at
  maybe_from_refused n f ts true r s e = absurd (ok_err e)
  maybe_from_refused n f ts false r s e =
      elim (bind_err (F.read n ts) (λ x. Ok (Some x.0, x.1)) r e) [
        | inl p ↦
            lift (Can F) (Can Maybe) (FailsForm F) (FailsForm Maybe) n [] [] ts r (f ts r p)
            (λ l i. (Some i.0, subst (λ (a : List Token). F.is a i.0) (sym (append-nil l)) i.1))
            (λ k u d le h w. let c = sym (starts_same m ts u h) ∙ s in rw (c, w) refl)
        | inr p ↦ absurd (ok_err p.2)
      ]

  pub maybe_refused : (n : ℕ) → IsRefused F n → IsRefused Maybe n
  unfolding maybe_at
  maybe_refused n f ts r e = maybe_from_refused n f ts (starts_with m ts) r refl e

-- ---- one form, and another where it begins

module _ {A B : Type 0} (F : Form A) (b : TokenKind → Bool) (G : Form B) where
  abbrev pub IsTail : List Token → A × Option B → Type 0
  IsTail ts (x, None) = F.is ts x
  IsTail ts (x, Some y) = (c : List Token) × (d : List Token) × (ts ≡ c ++ d) × F.is c x × G.is d y

  abbrev pub depth_of_tail : A × Option B → ℕ
  depth_of_tail (x, None) = F.deep x
  depth_of_tail (x, Some y) = max (F.deep x) (G.deep y)

  abbrev pub EndsTail : A × Option B → List Token → Type 0
  EndsTail (x, None) rest = F.ends x rest × (begins_with b rest ≡ false)
  EndsTail (x, Some y) rest = G.ends y rest

  abbrev pub Tail : Form (A × Option B)
  Tail = record { is = IsTail; deep = depth_of_tail; ends = EndsTail; read = λ n ts. both (F.read n) (perhaps_at b (G.read n)) ts }

  pub record Joins : Type 0 where
    pub begins : (d : List Token) (y : B) (rest : List Token) → G.is d y → begins_with b (d ++ rest) ≡ true
    pub ends : (x : A) (d : List Token) (y : B) (rest : List Token) → G.is d y → F.ends x (d ++ rest)

  perhaps_ok : (one : Reader B) (ts : List Token) (c : Bool) (y : Option B) (rest : List Token) → perhaps_from one ts c ≡ Ok (y, rest)
      → ((c ≡ false) × (None ≡ y) × (ts ≡ rest)) ⊎ ((z : B) × (one ts ≡ Ok (z, rest)) × (Some z ≡ y))
  perhaps_ok one ts false y rest e = let p = ok_is e in inl (refl, ap (λ (p : Option B × List Token). p.0) p, ap (λ (p : Option B × List Token). p.1) p)
  perhaps_ok one ts true y rest e =
      let p = bind_ok (one ts) (λ x. Ok (Some x.0, x.1)) (y, rest) e in
      let q = ok_is p.2 in
      inr (p.0.0, p.1 ∙ ap (λ (l : List Token). Ok (p.0.0, l)) (ap (λ (p : Option B × List Token). p.1) q), ap (λ (p : Option B × List Token). p.0) q)

  pub tail_sound : (n : ℕ) → IsSound F n → IsSound G n → IsSound Tail n
  unfolding perhaps_at
  tail_sound n f g ts x rest e =
      let p = bind_ok (F.read n ts) (λ x. (perhaps_at b (G.read n) x.1 >>= λ y. Ok ((x.0, y.0), y.1))) (x, rest) e in
      let q = bind_ok (perhaps_at b (G.read n) p.0.1) (λ y. Ok ((p.0.0, y.0), y.1)) (x, rest) p.2 in
      let one = f ts p.0.0 p.0.1 p.1 in
      subst (λ (z : (A × Option B) × List Token). Found Tail n ts z.0 z.1) (ok_is q.2) (elim (perhaps_ok (G.read n) p.0.1 (begins_with b p.0.1) q.0.0 q.0.1 q.1) [
        | inl w ↦
            subst (λ (o : Option B). Found Tail n ts (p.0.0, o) q.0.1) w.1 (subst (λ (r : List Token). Found Tail n ts (p.0.0, None) r) w.2 (record { used = one.used; split = one.split; is = one.is; shallow = one.shallow; ends = (one.ends, w.0) }))
        | inr w ↦
            let two = g p.0.1 w.0 q.0.1 w.1 in
            subst (λ (o : Option B). Found Tail n ts (p.0.0, o) q.0.1) w.2 (record {
              used = one.used ++ two.used;
              split = one.split ∙ ap (λ (l : List Token). one.used ++ l) two.split ∙ sym (append_assoc one.used two.used q.0.1);
              is = (one.used, two.used, refl, one.is, two.is);
              shallow = omega (arith, one.shallow, two.shallow);
              ends = two.ends;
            })
      ])

  pub tail_complete : Joins → (n : ℕ) → IsComplete F n → IsComplete G n → IsComplete Tail n
  unfolding perhaps_at
  tail_complete j n f g used (x, None) rest i le h = rw (f used x rest i le h.0, h.1) refl
  tail_complete j n f g used (x, Some y) rest i le h =
      let two = g i.1 y rest i.4 (omega arith) h in
      let one = f i.0 x (i.1 ++ rest) i.3 (omega arith) (j.ends x i.1 y rest i.4) in
      let s : used ++ rest ≡ i.0 ++ (i.1 ++ rest) = ap (λ (l : List Token). l ++ rest) i.2 ∙ append_assoc i.0 i.1 rest in
      rw (s, one, j.begins i.1 y rest i.4, two) refl

  pub tail_by_head : EndsByHead F → EndsByHead G → EndsByHead Tail
  tail_by_head f g (x, None) c d e h = (f x c d e h.0, sym (begins_same b c d e) ∙ h.1)
  tail_by_head f g (x, Some y) c d e h = g y c d e h

  perhaps_err : (one : Reader B) (ts : List Token) (c : Bool) (r : Refusal) → perhaps_from one ts c ≡ Err r → (c ≡ true) × (one ts ≡ Err r)
  perhaps_err one ts false r e = absurd (ok_err e)
  perhaps_err one ts true r e = elim (bind_err (one ts) (λ x. Ok (Some x.0, x.1)) r e) [ inl p ↦ (refl, p) | inr p ↦ absurd (ok_err p.2) ]

  pub tail_refused : (n : ℕ) → EndsByHead F → ((m : ℕ) → IsComplete F m) → IsSound F n → IsRefused F n → IsRefused G n → IsRefused Tail n
  unfolding perhaps_at
  tail_refused n by_head complete sound f g ts r e =
      elim (bind_err (F.read n ts) (λ x. (perhaps_at b (G.read n) x.1 >>= λ y. Ok ((x.0, y.0), y.1))) r e) [
        | inl p ↦
            lift (Can F) (Can Tail) (FailsForm F) (FailsForm Tail) n [] [] ts r (f ts r p)
            (λ l i. ((i.0, None), subst (λ (a : List Token). F.is a i.0) (sym (append-nil l)) i.1))
            (λ k u d le h w. rw w refl)
        | inr p ↦
            elim (bind_err (perhaps_at b (G.read n) p.0.1) (λ y. Ok ((p.0.0, y.0), y.1)) r p.2) [
              | inl q ↦
                  let one = sound ts p.0.0 p.0.1 p.1 in
                  let c = perhaps_err (G.read n) p.0.1 (begins_with b p.0.1) r q in
                  subst (λ (l : List Token). Refused (Can Tail) (FailsForm Tail) n l r) (sym one.split)
                  (lift (Can G) (Can Tail) (FailsForm G) (FailsForm Tail) n one.used [] p.0.1 r (g p.0.1 r c.1)
                  (λ l i. ((p.0.0, Some i.0), (one.used, l ++ [], refl, one.is, subst (λ (a : List Token). G.is a i.0) (sym (append-nil l)) i.1)))
                  (λ m u d le h w. let s = sym (begins_same b p.0.1 u h) ∙ c.0 in rw (read_again F by_head complete n ts p.0.0 p.0.1 one m u le h, s, w) refl))
              | inr q ↦ absurd (ok_err q.2)
            ]
      ]

-- ---- one of two, by the first token

module _ {A B : Type 0} (b : TokenKind → Bool) (F : Form A) (G : Form B) where
  abbrev pub IsEither : List Token → A ⊎ B → Type 0
  IsEither ts (inl x) = F.is ts x
  IsEither ts (inr y) = G.is ts y

  abbrev pub depth_of_either : A ⊎ B → ℕ
  depth_of_either (inl x) = F.deep x
  depth_of_either (inr y) = G.deep y

  abbrev pub EndsEither : A ⊎ B → List Token → Type 0
  EndsEither (inl x) rest = F.ends x rest
  EndsEither (inr y) rest = G.ends y rest

  abbrev pub Either : Form (A ⊎ B)
  Either = record { is = IsEither; deep = depth_of_either; ends = EndsEither; read = λ n ts. either_at b (F.read n) (G.read n) ts }

  pub record Parts : Type 0 where
    pub first : (a : List Token) (x : A) (rest : List Token) → F.is a x → begins_with b (a ++ rest) ≡ true
    pub other : (a : List Token) (y : B) (rest : List Token) → G.is a y → begins_with b (a ++ rest) ≡ false

  either_from_sound : (n : ℕ) → IsSound F n → IsSound G n → (ts : List Token) (c : Bool) (y : A ⊎ B) (rest : List Token) → either_from (F.read n) (G.read n) ts c ≡ Ok (y, rest) → Found Either n ts y rest
  either_from_sound n f g ts true y rest e =
      let p = bind_ok (F.read n ts) (λ x. Ok (inl x.0, x.1)) (y, rest) e in
      let x = f ts p.0.0 p.0.1 p.1 in
      subst (λ (z : (A ⊎ B) × List Token). Found Either n ts z.0 z.1) (ok_is p.2) (record { used = x.used; split = x.split; is = x.is; shallow = x.shallow; ends = x.ends })
  either_from_sound n f g ts false y rest e =
      let p = bind_ok (G.read n ts) (λ x. Ok (inr x.0, x.1)) (y, rest) e in
      let x = g ts p.0.0 p.0.1 p.1 in
      subst (λ (z : (A ⊎ B) × List Token). Found Either n ts z.0 z.1) (ok_is p.2) (record { used = x.used; split = x.split; is = x.is; shallow = x.shallow; ends = x.ends })

  pub either_sound : (n : ℕ) → IsSound F n → IsSound G n → IsSound Either n
  unfolding either_at
  either_sound n f g ts y rest e = either_from_sound n f g ts (begins_with b ts) y rest e

  pub either_complete : Parts → (n : ℕ) → IsComplete F n → IsComplete G n → IsComplete Either n
  unfolding either_at
  either_complete p n f g used (inl x) rest i le h = rw (p.first used x rest i, f used x rest i le h) refl
  either_complete p n f g used (inr y) rest i le h = rw (p.other used y rest i, g used y rest i le h) refl

  pub either_by_head : EndsByHead F → EndsByHead G → EndsByHead Either
  either_by_head f g (inl x) c d e h = f x c d e h
  either_by_head f g (inr y) c d e h = g y c d e h

  either_from_refused : (n : ℕ) → IsRefused F n → IsRefused G n → (ts : List Token) (c : Bool) (r : Refusal) → begins_with b ts ≡ c → either_from (F.read n) (G.read n) ts c ≡ Err r → Refused (Can Either) (FailsForm Either) n ts r
  unfolding either_at
  either_from_refused n f g ts true r s e =
      elim (bind_err (F.read n ts) (λ x. Ok (inl x.0, x.1)) r e) [
        | inl p ↦
            lift (Can F) (Can Either) (FailsForm F) (FailsForm Either) n [] [] ts r (f ts r p)
            (λ l i. (inl i.0, subst (λ (a : List Token). F.is a i.0) (sym (append-nil l)) i.1))
            (λ k u d le h w. let c = sym (begins_same b ts u h) ∙ s in rw (c, w) refl)
        | inr p ↦ absurd (ok_err p.2)
      ]
  either_from_refused n f g ts false r s e =
      elim (bind_err (G.read n ts) (λ x. Ok (inr x.0, x.1)) r e) [
        | inl p ↦
            lift (Can G) (Can Either) (FailsForm G) (FailsForm Either) n [] [] ts r (g ts r p)
            (λ l i. (inr i.0, subst (λ (a : List Token). G.is a i.0) (sym (append-nil l)) i.1))
            (λ k u d le h w. let c = sym (begins_same b ts u h) ∙ s in rw (c, w) refl)
        | inr p ↦ absurd (ok_err p.2)
      ]

  pub either_refused : (n : ℕ) → IsRefused F n → IsRefused G n → IsRefused Either n
  unfolding either_at
  either_refused n f g ts r e = either_from_refused n f g ts (begins_with b ts) r refl e

-- ---- a node of its own

pub limit_off : {A : Type 0} (b : TokenKind → Bool) (u : List Token) → begins_with b u ≡ false → at_limit {A = A} b u ≡ refuse Unexpected u
unfolding at_limit
limit_off b [] e = refl
limit_off b (t ∷ u) e = rw e refl

pub limit_deep : {A : Type 0} (b : TokenKind → Bool) (u : List Token) → begins_with b u ≡ true → at_limit {A = A} b u ≡ refuse TooDeep u
unfolding at_limit
limit_deep b [] e = absurd cc
limit_deep b (t ∷ u) e = rw e refl

pub limit_reads_none : {A : Type 0} (b : TokenKind → Bool) (ts : List Token) (x : A) (rest : List Token) → at_limit b ts ≡ Ok (x, rest) → ⊥
unfolding at_limit
limit_reads_none b [] x rest e = err_ok e
limit_reads_none b (t ∷ ts) x rest e =
    elim (chosen (b t.kind) (refuse TooDeep (t ∷ ts)) (refuse Unexpected (t ∷ ts)) (Ok (x, rest)) e) [ inl p ↦ err_ok p.1 | inr p ↦ err_ok p.1 ]

-- what a node begins with, and that each such token begins one
module _ {A : Type 0} (begins : TokenKind → Bool) (H : Form A) where
  pub record Limits : Type 0 where
    pub limit : (u : List Token) → H.read zero u ≡ at_limit begins u
    pub off : (m : ℕ) (u : List Token) → begins_with begins u ≡ false → H.read m u ≡ refuse Unexpected u
    pub some : (closing : List Token) × Can H closing
    pub completes : (k : TokenKind) (s : Span) → begins k ≡ true → (closing : List Token) × Can H (token k s ∷ closing)

  module _ (l : Limits) where
    limit_by : (u : List Token) (b : Bool) → begins_with begins u ≡ b → (r : Refusal) → H.read zero u ≡ Err r → Refused (Can H) (FailsForm H) zero u r
    limit_by u false h r e =
        subst (λ (d : Refusal). Refused (Can H) (FailsForm H) zero u d) (err_is (sym (l.off zero u h) ∙ e))
        (refused_here (Can H) (FailsForm H) zero u l.some.0 l.some.1 (λ m more le a. l.off m more (sym (begins_same begins u more a) ∙ h)))
    limit_by [] true h r e = absurd cc
    limit_by (t ∷ ts) true h r e =
        let c = l.completes t.kind t.span h in
        subst (λ (d : Refusal). Refused (Can H) (FailsForm H) zero (t ∷ ts) d) (err_is (sym (l.limit (t ∷ ts) ∙ limit_deep begins (t ∷ ts) h) ∙ e))
        (deep_here (Can H) (FailsForm H) zero t ts c.0 c.1 (λ more b. l.limit more ∙ limit_deep begins more (sym (begins_same begins (t ∷ ts) more b) ∙ h)))

    pub limit_refused : IsRefused H zero
    limit_refused ts r e = limit_by ts (begins_with begins ts) refl r e

module _ {A : Type 0} (begins : TokenKind → Bool) (F : Form A) (deep : A → ℕ) where
  abbrev pub Counted : Form A
  Counted = record { is = F.is; deep = deep; ends = F.ends; read = λ n ts. counted_at begins F.read n ts }

  pub record Counts : Type 0 where
    pub same : (x : A) → deep x ≡ suc (F.deep x)
    pub off : (m : ℕ) (u : List Token) → begins_with begins u ≡ false → F.read m u ≡ refuse Unexpected u
    pub some : (closing : List Token) × Can F closing
    pub completes : (k : TokenKind) (s : Span) → begins k ≡ true → (closing : List Token) × Can F (token k s ∷ closing)

  module _ (c : Counts) where
    pub counted_sound : (n : ℕ) → ((m : ℕ) → IsSound F m) → IsSound Counted n
    unfolding counted_at
    counted_sound zero f ts y rest e = absurd (limit_reads_none begins ts y rest e)
    counted_sound (suc n) f ts y rest e =
        let x = f n ts y rest e in
        record { used = x.used; split = x.split; is = x.is; shallow = omega (arith, x.shallow, c.same y); ends = x.ends }

    pub counted_complete : (n : ℕ) → ((m : ℕ) → IsComplete F m) → IsComplete Counted n
    unfolding counted_at
    counted_complete zero f used y rest i le h = absurd (omega (arith, c.same y))
    counted_complete (suc n) f used y rest i le h = f n used y rest i (omega (arith, c.same y)) h

    counted_off : (m : ℕ) (u : List Token) → begins_with begins u ≡ false → counted_at begins F.read m u ≡ refuse Unexpected u
    unfolding counted_at
    counted_off zero u e = limit_off begins u e
    counted_off (suc m) u e = c.off m u e

    counted_limits : Limits begins Counted
    unfolding counted_at
    counted_limits = record { limit = λ u. refl; off = λ m u e. counted_off m u e; some = c.some; completes = c.completes }

    raised_refused : (n : ℕ) (ts : List Token) (r : Refusal) → Refused (Can F) (FailsForm F) n ts r → Refused (Can Counted) (λ m u d. counted_at begins F.read (suc m) u ≡ Err d) n ts r
    unfolding counted_at
    raised_refused n ts r p = record { used = p.used; after = p.after; split = p.split; place = p.place; viable = p.viable; stays = λ m more a h. p.stays m more a h }

    pub counted_refused : (n : ℕ) → ((m : ℕ) → IsRefused F m) → IsRefused Counted n
    unfolding counted_at
    counted_refused zero f ts r e = limit_refused begins Counted counted_limits ts r e
    counted_refused (suc n) f ts r e = raise n (Can Counted) (FailsForm Counted) ts r (raised_refused n ts r (f n ts r e))

-- ---- a form by another, of which it is made

pub record Makes {A B : Type 0} (F : Form A) (H : Form B) (g : A → B) : Type 0 where
  pub reads : (n : ℕ) (ts : List Token) → H.read n ts ≡ (F.read n ts >>= λ x. Ok (g x.0, x.1))
  pub makes : (ts : List Token) (x : A) → F.is ts x → H.is ts (g x)
  pub unmakes : (ts : List Token) (y : B) → H.is ts y → (x : A) × F.is ts x × (g x ≡ y)
  pub deep : (x : A) → H.deep (g x) ≡ F.deep x
  pub ends : (x : A) (rest : List Token) → F.ends x rest → H.ends (g x) rest
  pub back : (x : A) (rest : List Token) → H.ends (g x) rest → F.ends x rest

module _ {A B : Type 0} (F : Form A) (H : Form B) (g : A → B) (m : Makes F H g) where
  pub makes_sound : (n : ℕ) → IsSound F n → IsSound H n
  makes_sound n f ts y rest e = made_sound F H g [] n n (H.read n) ts (m.reads n ts) f (λ a x i. m.makes a x i) (λ x le. omega (arith, le, m.deep x)) (λ x rest h. m.ends x rest h) y rest e

  pub makes_complete : (n : ℕ) → IsComplete F n → IsComplete H n
  makes_complete n f used y rest i le h =
      let x = m.unmakes used y i in
      subst (λ (z : B). H.read n (used ++ rest) ≡ Ok (z, rest)) x.2
      (made_complete F H g [] n (H.read n) used x.0 rest (m.reads n (used ++ rest)) f x.1 (omega (arith, le, m.deep x.0, ap H.deep x.2)) (m.back x.0 rest (subst (λ (z : B). H.ends z rest) (sym x.2) h)))

  pub makes_refused : (n : ℕ) → IsRefused F n → IsRefused H n
  makes_refused n f ts r e =
      made_refused F H g [] (FailsForm H) n ts r f (made_err g (F.read n ts) r (sym (m.reads n ts) ∙ e)) (λ a x i. m.makes a x i)
      (λ k u d le h w. made_fails g (F.read k u) (H.read k u) d (m.reads k u) w)

-- a form, and after it what a mark begins
pub then_behind : {A B : Type 0} (F : Form A) (m : Mark) (G : Form B) → ((x : A) (s : Span) (rest : List Token) → F.ends x (at m s ∷ rest)) → (b : List Token) → Can G b → Follows F (Behind m G) Free
then_behind F m G ends b c =
    follows F (Behind m G) (λ x y d rest i h. let j = behind_is m G d y i in subst (λ (l : List Token). F.ends x (l ++ rest)) (sym j.1) (ends x y.0 (j.0 ++ rest)))
    (at m nowhere ∷ b) ((nowhere, c.0), is_behind m G nowhere b c.0 c.1)
