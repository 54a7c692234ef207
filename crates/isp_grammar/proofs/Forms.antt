-- Forms, and what is made of them: what they read is what they are.
use Rattle.std.proofs.Common.{◌≡◌, ℕ, zero, suc, ◌≤◌, max, Bool, true, false, List, [], ◌∷◌, ◌++◌, length, drop, Option, Some, None, Ok, Err, refl, sym, ap, subst, ◌∙◌, append_assoc, arith, inl, inr, ◌⊎◌}
use Rattle.isp_base.specs.declared.types.Span.{Span}
use Rattle.isp_lex.specs.Tokens.{at, starts_with}
use Rattle.isp_lex.specs.declared.token.Mark.{Mark}
use Rattle.isp_lex.specs.declared.token.Mark.TheVariants as mark
use Rattle.isp_lex.specs.declared.token.Token.{Token}
use Rattle.isp_grammar.proofs.Basics.{ok_is, err_ok, bind_ok, chosen, starts_cons, mark_ok, mark_again, word_ok, word_again}
use Rattle.isp_grammar.specs.Grammar.{AreListed as Separated, AreAll as InTurn}
use Rattle.isp_grammar.specs.Signs.{word}
use Rattle.isp_grammar.specs.reader.Readers.{Reader, ◌>>=◌, mark_at, word_at, both, optional_from, optional, after_item, list_at, listed_at, until_from, until_at}
use Rattle.isp_grammar.specs.declared.stop.Refusal.{Refusal}
use Rattle.isp_tree.specs.declared.types.Word.{Word}

-- A form: which tokens are which tree, how deep it is, what may follow it, and how it is read at a depth.
pub record Form (A : Type 0) : Type 1 where
  pub is : List Token → A → Type 0
  pub deep : A → ℕ
  pub ends : A → List Token → Type 0
  pub read : ℕ → Reader A

pub record Found {A : Type 0} (F : Form A) (n : ℕ) (ts : List Token) (x : A) (rest : List Token) : Type 0 where
  pub used : List Token
  pub split : ts ≡ used ++ rest
  pub is : F.is used x
  pub shallow : F.deep x ≤ n
  pub ends : F.ends x rest

abbrev pub IsSound : {A : Type 0} → Form A → ℕ → Type 0
IsSound {A} F n = (ts : List Token) (x : A) (rest : List Token) → F.read n ts ≡ Ok (x, rest) → Found F n ts x rest

abbrev pub IsComplete : {A : Type 0} → Form A → ℕ → Type 0
IsComplete {A} F n = (used : List Token) (x : A) (rest : List Token) → F.is used x → F.deep x ≤ n → F.ends x rest → F.read n (used ++ rest) ≡ Ok (x, rest)

-- some tokens are this form
abbrev pub Can : {A : Type 0} → Form A → List Token → Type 0
Can {A} F ts = (x : A) × F.is ts x

-- ---- single tokens

abbrev pub One : Mark → Form Span
One m = record { is = λ ts s. ts ≡ at m s ∷ []; deep = λ s. 0; ends = λ s rest. Unit {0}; read = λ n ts. mark_at m ts }

pub one_sound : (m : Mark) (n : ℕ) → IsSound (One m) n
one_sound m n ts s rest e = record { used = at m s ∷ []; split = mark_ok m ts s rest e; is = refl; shallow = omega arith; ends = tt }

pub one_complete : (m : Mark) (n : ℕ) → IsComplete (One m) n
one_complete m n used s rest i le h = rw i (mark_again m s rest)

abbrev pub Named : Form Word
Named = record { is = λ ts w. ts ≡ word w ∷ []; deep = λ w. 0; ends = λ w rest. Unit {0}; read = λ n ts. word_at ts }

pub named_sound : (n : ℕ) → IsSound Named n
named_sound n ts w rest e = record { used = word w ∷ []; split = word_ok ts w rest e; is = refl; shallow = omega arith; ends = tt }

pub named_complete : (n : ℕ) → IsComplete Named n
named_complete n used w rest i le h = rw i (word_again w rest)

-- ---- one after another

abbrev pub Both : {A B : Type 0} → Form A → Form B → (A → B → Type 0) → Form (A × B)
Both {A} {B} F G fits = record {
  is = λ ts p. (a : List Token) × (b : List Token) × (ts ≡ a ++ b) × F.is a p.0 × G.is b p.1 × fits p.0 p.1;
  deep = λ p. max (F.deep p.0) (G.deep p.1);
  ends = λ p rest. G.ends p.1 rest;
  read = λ n ts. both (F.read n) (G.read n) ts;
}

-- that the second may follow the first
pub record Follows {A B : Type 0} (F : Form A) (G : Form B) (fits : A → B → Type 0) : Type 0 where
  pub ends : (x : A) (y : B) (b rest : List Token) → fits x y → G.is b y → G.ends y rest → F.ends x (b ++ rest)
  pub fit : (x : A) (y : B) (b rest : List Token) → F.ends x (b ++ rest) → G.is b y → fits x y
  pub fit_refused : (x : A) (rest : List Token) (n : ℕ) (r : Refusal) → F.ends x rest → G.read n rest ≡ Err r → (y : B) → fits x y
  pub some : (x : A) → (b : List Token) × (y : B) × G.is b y × fits x y

-- any two
abbrev pub Free : {A B : Type 0} → A → B → Type 0
Free x y = Unit {0}

-- two forms of which the first may be followed by all that the second is
pub follows : {A B : Type 0} (F : Form A) (G : Form B) → ((x : A) (y : B) (b rest : List Token) → G.is b y → G.ends y rest → F.ends x (b ++ rest)) → (b : List Token) → Can G b → Follows F G Free
follows F G ends b c = record {
  ends = λ x y b rest f i h. ends x y b rest i h;
  fit = λ x y b rest h i. tt;
  fit_refused = λ x rest n r h e y. tt;
  some = λ x. (b, c.0, c.1, tt);
}

module _ {A B : Type 0} (F : Form A) (G : Form B) (fits : A → B → Type 0) (follows : Follows F G fits) where
  pub both_sound : (n : ℕ) → IsSound F n → IsSound G n → IsSound (Both F G fits) n
  both_sound n f g ts x rest e =
      let p = bind_ok (F.read n ts) (λ x. (G.read n x.1 >>= λ y. Ok ((x.0, y.0), y.1))) (x, rest) e in
      let q = bind_ok (G.read n p.0.1) (λ y. Ok ((p.0.0, y.0), y.1)) (x, rest) p.2 in
      let one = f ts p.0.0 p.0.1 p.1 in
      let two = g p.0.1 q.0.0 q.0.1 q.1 in
      subst (λ (z : (A × B) × List Token). Found (Both F G fits) n ts z.0 z.1) (ok_is q.2) (record {
        used = one.used ++ two.used;
        split = one.split ∙ ap (λ (l : List Token). one.used ++ l) two.split ∙ sym (append_assoc one.used two.used q.0.1);
        is = (one.used, two.used, refl, one.is, two.is, follows.fit p.0.0 q.0.0 two.used q.0.1 (subst (λ (l : List Token). F.ends p.0.0 l) two.split one.ends) two.is);
        shallow = omega (arith, one.shallow, two.shallow);
        ends = two.ends;
      })

  pub both_complete : (n : ℕ) → IsComplete F n → IsComplete G n → IsComplete (Both F G fits) n
  both_complete n f g used x rest i le h =
      let two = g i.1 x.1 rest i.4 (omega arith) h in
      let one = f i.0 x.0 (i.1 ++ rest) i.3 (omega arith) (follows.ends x.0 x.1 i.1 rest i.5 i.4 h) in
      let s : used ++ rest ≡ i.0 ++ (i.1 ++ rest) = ap (λ (l : List Token). l ++ rest) i.2 ∙ append_assoc i.0 i.1 rest in
      rw (s, one, two) refl

-- a mark first
abbrev pub Behind : {B : Type 0} → Mark → Form B → Form (Span × B)
Behind m G = Both (One m) G Free

pub one_then : {B : Type 0} (m : Mark) (G : Form B) (b : List Token) → Can G b → Follows (One m) G Free
one_then m G b c = follows (One m) G (λ x y b rest i h. tt) b c

pub behind_is : {B : Type 0} (m : Mark) (G : Form B) (ts : List Token) (p : Span × B) → (Behind m G).is ts p → (b : List Token) × (ts ≡ at m p.0 ∷ b) × G.is b p.1
behind_is m G ts p i = (i.1, i.2 ∙ ap (λ (l : List Token). l ++ i.1) i.3, i.4)

pub is_behind : {B : Type 0} (m : Mark) (G : Form B) (s : Span) (b : List Token) (y : B) → G.is b y → (Behind m G).is (at m s ∷ b) (s, y)
is_behind m G s b y i = (at m s ∷ [], b, refl, refl, i, tt)

-- a name first
abbrev pub NameThen : {B : Type 0} → Form B → Form (Word × B)
NameThen G = Both Named G Free

pub named_then : {B : Type 0} (G : Form B) (b : List Token) → Can G b → Follows Named G Free
named_then G b c = follows Named G (λ x y b rest i h. tt) b c

pub name_then_is : {B : Type 0} (G : Form B) (ts : List Token) (p : Word × B) → (NameThen G).is ts p → (b : List Token) × (ts ≡ word p.0 ∷ b) × G.is b p.1
name_then_is G ts p i = (i.1, i.2 ∙ ap (λ (l : List Token). l ++ i.1) i.3, i.4)

pub is_name_then : {B : Type 0} (G : Form B) (w : Word) (b : List Token) (y : B) → G.is b y → (NameThen G).is (word w ∷ b) (w, y)
is_name_then G w b y i = (word w ∷ [], b, refl, refl, i, tt)

-- a mark last
abbrev pub Before : {A : Type 0} → Form A → Mark → Form (A × Span)
Before F m = Both F (One m) Free

pub then_one : {A : Type 0} (F : Form A) (m : Mark) → ((x : A) (s : Span) (rest : List Token) → F.ends x (at m s ∷ rest)) → Follows F (One m) Free
then_one F m ends = follows F (One m) (λ x y b rest i h. subst (λ (l : List Token). F.ends x (l ++ rest)) (sym i) (ends x y rest)) (at m (record { start = 0; end = 0 }) ∷ []) (record { start = 0; end = 0 }, refl)

pub before_is : {A : Type 0} (F : Form A) (m : Mark) (ts : List Token) (p : A × Span) → (Before F m).is ts p → (a : List Token) × (ts ≡ a ++ at m p.1 ∷ []) × F.is a p.0
before_is F m ts p i = (i.0, i.2 ∙ ap (λ (l : List Token). i.0 ++ l) i.4, i.3)

pub is_before : {A : Type 0} (F : Form A) (m : Mark) (a : List Token) (x : A) (s : Span) → F.is a x → (Before F m).is (a ++ at m s ∷ []) (x, s)
is_before F m a x s i = (a, at m s ∷ [], refl, i, refl, tt)

-- ---- what is made of a form

module _ {A B : Type 0} (F : Form A) (H : Form B) (g : A → B) (pre : List Token) where
  pub made_sound : (n N : ℕ) (read : Reader B) (ts : List Token) → read (pre ++ ts) ≡ (F.read n ts >>= λ x. Ok (g x.0, x.1)) → IsSound F n
      → ((a : List Token) (x : A) → F.is a x → H.is (pre ++ a) (g x)) → ((x : A) → F.deep x ≤ n → H.deep (g x) ≤ N) → ((x : A) (rest : List Token) → F.ends x rest → H.ends (g x) rest)
      → (y : B) (rest : List Token) → read (pre ++ ts) ≡ Ok (y, rest) → Found H N (pre ++ ts) y rest
  made_sound n N read ts reads f makes deeper stays y rest e =
      let p = bind_ok (F.read n ts) (λ x. Ok (g x.0, x.1)) (y, rest) (sym reads ∙ e) in
      let x = f ts p.0.0 p.0.1 p.1 in
      subst (λ (z : B × List Token). Found H N (pre ++ ts) z.0 z.1) (ok_is p.2) (record {
        used = pre ++ x.used;
        split = ap (λ (l : List Token). pre ++ l) x.split ∙ sym (append_assoc pre x.used p.0.1);
        is = makes x.used p.0.0 x.is;
        shallow = deeper p.0.0 x.shallow;
        ends = stays p.0.0 p.0.1 x.ends;
      })

  pub made_complete : (n : ℕ) (read : Reader B) (used : List Token) (x : A) (rest : List Token) → read (pre ++ (used ++ rest)) ≡ (F.read n (used ++ rest) >>= λ x. Ok (g x.0, x.1)) → IsComplete F n
      → F.is used x → F.deep x ≤ n → F.ends x rest → read (pre ++ (used ++ rest)) ≡ Ok (g x, rest)
  made_complete n read used x rest reads f i le h = let one = f used x rest i le h in reads ∙ rw one refl

-- ---- what a mark begins, where it stands

module _ {A : Type 0} (m : Mark) (F : Form A) where
  abbrev pub IsOptional : List Token → Option A → Type 0
  IsOptional ts None = ts ≡ []
  IsOptional ts (Some x) = (s : Span) × (b : List Token) × (ts ≡ at m s ∷ b) × F.is b x

  abbrev pub depth_of_optional : Option A → ℕ
  depth_of_optional None = 0
  depth_of_optional (Some x) = F.deep x

  abbrev pub EndsOptional : Option A → List Token → Type 0
  EndsOptional None rest = starts_with m rest ≡ false
  EndsOptional (Some x) rest = F.ends x rest

  abbrev pub Optional : Form (Option A)
  Optional = record { is = IsOptional; deep = depth_of_optional; ends = EndsOptional; read = λ n ts. optional m (F.read n) ts }

  optional_from_sound : (n : ℕ) → IsSound F n → (ts : List Token) (b : Bool) (y : Option A) (rest : List Token) → starts_with m ts ≡ b → optional_from (F.read n) ts b ≡ Ok (y, rest) → Found Optional n ts y rest
  optional_from_sound n f ts false y rest s e =
      subst (λ (z : Option A × List Token). Found Optional n ts z.0 z.1) (ok_is e) (record { used = []; split = refl; is = refl; shallow = omega arith; ends = s })
  optional_from_sound n f ts true y rest s e =
      let p = bind_ok (F.read n (drop 1 ts)) (λ x. Ok (Some x.0, x.1)) (y, rest) e in
      let x = f (drop 1 ts) p.0.0 p.0.1 p.1 in
      let o = starts_cons m ts s in
      subst (λ (z : Option A × List Token). Found Optional n ts z.0 z.1) (ok_is p.2) (record {
        used = at m o.0 ∷ x.used;
        split = o.1 ∙ ap (λ (l : List Token). at m o.0 ∷ l) x.split;
        is = (o.0, x.used, refl, x.is);
        shallow = x.shallow;
        ends = x.ends;
      })

  pub optional_sound : (n : ℕ) → IsSound F n → IsSound Optional n
  unfolding optional
  optional_sound n f ts y rest e = optional_from_sound n f ts (starts_with m ts) y rest refl e

-- ---- lists

module _ {A : Type 0} (F : Form A) where
  abbrev pub deepest : List A → ℕ
  deepest [] = 0
  deepest (x ∷ xs) = max (F.deep x) (deepest xs)

  -- one or more, with commas
  abbrev pub AreListed : List Token → List A → Type 0
  AreListed = Separated F.is

  abbrev pub EndsListed : List A → List Token → Type 0
  EndsListed [] rest = Unit {0}
  EndsListed (x ∷ []) rest = F.ends x rest × (starts_with mark.Comma rest ≡ false)
  EndsListed (x ∷ y ∷ ys) rest = EndsListed (y ∷ ys) rest

  abbrev pub Listed : Form (List A)
  Listed = record { is = AreListed; deep = deepest; ends = EndsListed; read = λ n ts. list_at (F.read n) (suc (length ts)) ts }

  -- what came after one item
  item_ok : (more : Reader (List A)) (x : A) (ts : List Token) (b : Bool) (xs : List A) (rest : List Token) → after_item more x ts b ≡ Ok (xs, rest)
      → ((b ≡ false) × (x ∷ [] ≡ xs) × (ts ≡ rest)) ⊎ ((b ≡ true) × ((ys : List A) × (more (drop 1 ts) ≡ Ok (ys, rest)) × (x ∷ ys ≡ xs)))
  item_ok more x ts false xs rest e = let p = ok_is e in inl (refl, ap (λ (p : List A × List Token). p.0) p, ap (λ (p : List A × List Token). p.1) p)
  item_ok more x ts true xs rest e =
      let p = bind_ok (more (drop 1 ts)) (λ ys. Ok (x ∷ ys.0, ys.1)) (xs, rest) e in
      let q = ok_is p.2 in
      inr (refl, (p.0.0, p.1 ∙ ap (λ (r : List Token). Ok (p.0.0, r)) (ap (λ (p : List A × List Token). p.1) q), ap (λ (p : List A × List Token). p.0) q))

  -- one more at the front
  listed_more : (n : ℕ) (a : List Token) (s : Span) (mid : List Token) (x : A) (ys : List A) (rest : List Token) → F.is a x → F.deep x ≤ n → Found Listed n mid ys rest → Found Listed n (a ++ at mark.Comma s ∷ mid) (x ∷ ys) rest
  listed_more n a s mid x [] rest i le p = absurd p.is
  listed_more n a s mid x (y ∷ ys) rest i le p = record {
    used = a ++ at mark.Comma s ∷ p.used;
    split = ap (λ (l : List Token). a ++ at mark.Comma s ∷ l) p.split ∙ sym (append_assoc a (at mark.Comma s ∷ p.used) rest);
    is = (a, s, p.used, refl, i, p.is);
    shallow = omega (arith, le, p.shallow);
    ends = p.ends;
  }

  list_sound : (n : ℕ) → IsSound F n → (f : ℕ) (ts : List Token) (xs : List A) (rest : List Token) → list_at (F.read n) f ts ≡ Ok (xs, rest) → Found Listed n ts xs rest
  unfolding list_at
  list_sound n sound zero ts xs rest e = absurd (err_ok e)
  list_sound n sound (suc f) ts xs rest e =
      let p = bind_ok (F.read n ts) (λ x. after_item (list_at (F.read n) f) x.0 x.1 (starts_with mark.Comma x.1)) (xs, rest) e in
      let x = p.0 in
      let one = sound ts x.0 x.1 p.1 in
      elim (item_ok (list_at (F.read n) f) x.0 x.1 (starts_with mark.Comma x.1) xs rest p.2) [
        | inl q ↦
            subst (λ (ys : List A). Found Listed n ts ys rest) q.1 (subst (λ (r : List Token). Found Listed n ts (x.0 ∷ []) r) q.2 (record {
              used = one.used;
              split = one.split;
              is = one.is;
              shallow = omega (arith, one.shallow);
              ends = (one.ends, q.0);
            }))
        | inr q ↦
            let c = starts_cons mark.Comma x.1 q.0 in
            let others = list_sound n sound f (drop 1 x.1) q.1.0 rest q.1.1 in
            let w : ts ≡ one.used ++ at mark.Comma c.0 ∷ drop 1 x.1 = one.split ∙ ap (λ (l : List Token). one.used ++ l) c.1 in
            subst (λ (ys : List A). Found Listed n ts ys rest) q.1.2 (subst (λ (l : List Token). Found Listed n l (x.0 ∷ q.1.0) rest) (sym w) (listed_more n one.used c.0 (drop 1 x.1) x.0 q.1.0 rest one.is one.shallow others))
      ]

  pub listed_sound : (n : ℕ) → IsSound F n → IsSound Listed n
  listed_sound n sound ts xs rest e = list_sound n sound (suc (length ts)) ts xs rest e

  -- such a list, or nothing before a mark
  abbrev pub IsSeries : List Token → List A → Type 0
  IsSeries ts [] = ts ≡ []
  IsSeries ts (x ∷ xs) = AreListed ts (x ∷ xs)

  abbrev pub EndsSeries : Mark → List A → List Token → Type 0
  EndsSeries m [] rest = starts_with m rest ≡ true
  EndsSeries m (x ∷ xs) rest = EndsListed (x ∷ xs) rest

  abbrev pub Series : Mark → Form (List A)
  Series m = record { is = IsSeries; deep = deepest; ends = EndsSeries m; read = λ n ts. listed_at m (F.read n) ts }

  series_of : (m : Mark) (n : ℕ) (ts : List Token) (xs : List A) (rest : List Token) → Found Listed n ts xs rest → Found (Series m) n ts xs rest
  series_of m n ts [] rest p = absurd p.is
  series_of m n ts (x ∷ xs) rest p = record { used = p.used; split = p.split; is = p.is; shallow = p.shallow; ends = p.ends }

  pub series_sound : (m : Mark) (n : ℕ) → IsSound F n → IsSound (Series m) n
  unfolding listed_at
  series_sound m n sound ts xs rest e =
      elim (chosen (starts_with m ts) (Ok ([], ts)) (list_at (F.read n) (suc (length ts)) ts) (Ok (xs, rest)) e) [
        | inl p ↦
            subst (λ (q : List A × List Token). Found (Series m) n ts q.0 q.1) (ok_is p.1) (record { used = []; split = refl; is = refl; shallow = omega arith; ends = p.0 })
        | inr p ↦ series_of m n ts xs rest (listed_sound n sound ts xs rest p.1)
      ]

  -- all up to a mark
  abbrev pub AreAll : List Token → List A → Type 0
  AreAll = InTurn F.is

  abbrev pub Until : Mark → Form (List A)
  Until m = record { is = AreAll; deep = deepest; ends = λ xs rest. starts_with m rest ≡ true; read = λ n ts. until_at m (F.read n) (suc (length ts)) ts }

  until_ok : (one : Reader A) (more : Reader (List A)) (ts : List Token) (b : Bool) (xs : List A) (rest : List Token) → until_from one more ts b ≡ Ok (xs, rest)
      → ((b ≡ true) × ([] ≡ xs) × (ts ≡ rest)) ⊎ ((b ≡ false) × ((x : A) × (mid : List Token) × (ys : List A) × (one ts ≡ Ok (x, mid)) × (more mid ≡ Ok (ys, rest)) × (x ∷ ys ≡ xs)))
  until_ok one more ts true xs rest e = let p = ok_is e in inl (refl, ap (λ (q : List A × List Token). q.0) p, ap (λ (q : List A × List Token). q.1) p)
  until_ok one more ts false xs rest e =
      let p = bind_ok (one ts) (λ x. (more x.1 >>= λ ys. Ok (x.0 ∷ ys.0, ys.1))) (xs, rest) e in
      let q = bind_ok (more p.0.1) (λ ys. Ok (p.0.0 ∷ ys.0, ys.1)) (xs, rest) p.2 in
      let r = ok_is q.2 in
      inr (refl, (p.0.0, p.0.1, q.0.0, p.1, q.1 ∙ ap (λ (l : List Token). Ok (q.0.0, l)) (ap (λ (z : List A × List Token). z.1) r), ap (λ (z : List A × List Token). z.0) r))

  all_sound : (m : Mark) (n : ℕ) → IsSound F n → (f : ℕ) (ts : List Token) (xs : List A) (rest : List Token) → until_at m (F.read n) f ts ≡ Ok (xs, rest) → Found (Until m) n ts xs rest
  unfolding until_at
  all_sound m n sound zero ts xs rest e = absurd (err_ok e)
  all_sound m n sound (suc f) ts xs rest e =
      elim (until_ok (F.read n) (until_at m (F.read n) f) ts (starts_with m ts) xs rest e) [
        | inl p ↦
            subst (λ (ys : List A). Found (Until m) n ts ys rest) p.1 (subst (λ (r : List Token). Found (Until m) n ts [] r) p.2
            (record { used = []; split = refl; is = refl; shallow = omega arith; ends = p.0 }))
        | inr p ↦
            let q = p.1 in
            let x = sound ts q.0 q.1 q.3 in
            let ys = all_sound m n sound f q.1 q.2 rest q.4 in
            subst (λ (ys : List A). Found (Until m) n ts ys rest) q.5 (record {
              used = x.used ++ ys.used;
              split = x.split ∙ ap (λ (l : List Token). x.used ++ l) ys.split ∙ sym (append_assoc x.used ys.used rest);
              is = (x.used, ys.used, refl, x.is, ys.is);
              shallow = omega (arith, x.shallow, ys.shallow);
              ends = ys.ends;
            })
      ]

  pub until_sound : (m : Mark) (n : ℕ) → IsSound F n → IsSound (Until m) n
  until_sound m n sound ts xs rest e = all_sound m n sound (suc (length ts)) ts xs rest e
