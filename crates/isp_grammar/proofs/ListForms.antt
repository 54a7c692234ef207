-- Lists of forms: what may follow them, and how deep they are. And readers that give what others give, mapped.
use Rattle.std.proofs.Common.{◌≡◌, ℕ, zero, suc, ◌-◌, ◌<◌, max, Bool, true, false, cond, List, [], ◌∷◌, ◌++◌, length, Some, Ok, Err, refl, sym, ap, ◌∙◌, append_assoc, arith, inl, inr, ◌⊎◌}
use Rattle.std.specs.Prelude.{option_map}
use Rattle.isp_base.specs.declared.types.Span.{Span}
use Rattle.isp_lex.specs.Tokens.{at, is_mark, starts_with}
use Rattle.isp_lex.specs.declared.token.Mark.{Mark}
use Rattle.isp_lex.specs.declared.token.Mark.TheVariants as mark
use Rattle.isp_lex.specs.declared.token.TokenKind.{TokenKind}
use Rattle.isp_lex.specs.declared.token.TokenKind.TheVariants as kind
use Rattle.isp_lex.specs.declared.token.Token.{Token}
use Rattle.isp_grammar.proofs.Basics.{starts_same}
use Rattle.isp_grammar.proofs.Forms.{Form, IsSound, IsComplete, deepest, AreListed, Listed, EndsListed, Series}
use Rattle.isp_grammar.proofs.FormsComplete.{EndsByHead, TakesComma}
use Rattle.isp_grammar.proofs.Refused.{IsRefused, list_refused}
use Rattle.isp_tree.specs.Depth.{deepest_of}
use Rattle.isp_grammar.specs.Grammar.{span_of_last}
use Rattle.isp_tree.specs.Tree.{Item, span_of_item}
use Rattle.isp_grammar.specs.reader.Readers.{Read, Reader, ◌>>=◌, both, at_limit, refusal, refusal_at_limit}
use Rattle.isp_grammar.specs.reader.Choices.{begins_with, maybe_from, maybe_at, either_from, either_at, counted_at}
use Rattle.isp_grammar.specs.declared.stop.Refusal.{Refusal}
use Rattle.isp_grammar.specs.declared.stop.Why.TheVariants.{Unexpected, TooDeep}

module _ {A : Type 0} (F : Form A) where
  pub listed_by_head : EndsByHead F → EndsByHead (Listed F)
  listed_by_head f [] a b e h = tt
  listed_by_head f (x ∷ []) a b e h = (f x a b e h.0, sym (starts_same mark.Comma a b e) ∙ h.1)
  listed_by_head f (x ∷ y ∷ ys) a b e h = listed_by_head f (y ∷ ys) a b e h

  pub series_by_head : (m : Mark) → EndsByHead F → EndsByHead (Series F m)
  series_by_head m f [] a b e h = sym (starts_same m a b e) ∙ h
  series_by_head m f (x ∷ xs) a b e h = listed_by_head f (x ∷ xs) a b e h

  -- a mark that may follow each item, other than a comma, may follow the list
  pub listed_ends : (m : Mark) → is_mark mark.Comma (kind.Mark m) ≡ false → ((x : A) (s : Span) (rest : List Token) → F.ends x (at m s ∷ rest)) → (xs : List A) (s : Span) (rest : List Token) → EndsListed F xs (at m s ∷ rest)
  listed_ends m c f [] s rest = tt
  listed_ends m c f (x ∷ []) s rest = (f x s rest, c)
  listed_ends m c f (x ∷ y ∷ ys) s rest = listed_ends m c f (y ∷ ys) s rest

  -- a list begins as its first item
  pub listed_begins : (f : TokenKind → Bool) (c : Bool) → ((a : List Token) (x : A) (rest : List Token) → F.is a x → begins_with f (a ++ rest) ≡ c)
      → (ts : List Token) (xs : List A) (rest : List Token) → AreListed F ts xs → begins_with f (ts ++ rest) ≡ c
  listed_begins f c one ts [] rest i = absurd i
  listed_begins f c one ts (x ∷ []) rest i = one ts x rest i
  listed_begins f c one ts (x ∷ y ∷ ys) rest i =
      let s : ts ++ rest ≡ i.0 ++ at mark.Comma i.1 ∷ (i.2 ++ rest) = ap (λ (l : List Token). l ++ rest) i.3 ∙ append_assoc i.0 (at mark.Comma i.1 ∷ i.2) rest in
      ap (λ (l : List Token). begins_with f l) s ∙ one i.0 x (at mark.Comma i.1 ∷ (i.2 ++ rest)) i.4

  pub deepest_same : (xs : List A) → deepest_of F.deep xs ≡ deepest F xs
  deepest_same [] = refl
  deepest_same (x ∷ xs) = ap (λ (n : ℕ). max (F.deep x) n) (deepest_same xs)

  pub listed_refused : (n : ℕ) → EndsByHead F → TakesComma F → ((m : ℕ) → IsComplete F m) → IsSound F n → IsRefused F n → IsRefused (Listed F) n
  listed_refused n by_head comma complete sound ih ts r e =
      let p = list_refused F n by_head comma complete sound ih (suc (length ts)) ts r (omega arith) e in
      record { used = p.used; after = p.after; split = p.split; place = p.place; viable = p.viable; stays = λ m more a h. p.stays m more a h (suc (length (p.used ++ more))) (omega arith) }

-- ---- readers mapped

abbrev pub mapped : {A B : Type 0} → (A → B) → Read A → Read B
mapped {A} {B} g r = ◌>>=◌ {A = A × List Token} {B = B × List Token} r (λ x. Ok (g x.0, x.1))

abbrev pub Maps : {A B : Type 0} → Reader A → Reader B → (A → B) → Type 0
Maps {A} {B} r q g = (ts : List Token) → q ts ≡ mapped g (r ts)

pub mapped_id : {A : Type 0} (p : Read A) → p ≡ mapped (λ x. x) p
mapped_id (Ok p) = refl
mapped_id (Err d) = refl

pub maps_id : {A : Type 0} (r : Reader A) → Maps r r (λ x. x)
maps_id r ts = mapped_id (r ts)

-- two maps are one
pub mapped_twice : {A B C : Type 0} (g : A → B) (h : B → C) (p : Read A) → mapped h (mapped g p) ≡ mapped (λ x. h (g x)) p
mapped_twice g h (Ok x) = refl
mapped_twice g h (Err d) = refl

module _ {A B C D : Type 0} (g : A → B) (h : C → D) where
  pair_second : (x : A) (p : Read C) → mapped {B = B × D} (λ y. (g x, y)) (mapped h p) ≡ mapped {A = A × C} {B = B × D} (λ z. (g z.0, h z.1)) (mapped {B = A × C} (λ y. (x, y)) p)
  pair_second x (Ok y) = refl
  pair_second x (Err d) = refl

  pair_first : (s : Reader C) (t : Reader D) → Maps s t h → (p : Read A)
      → ◌≡◌ {A = Read (B × D)} (mapped g p >>= λ x. mapped {B = B × D} (λ y. (x.0, y)) (t x.1))
      (mapped {A = A × C} {B = B × D} (λ z. (g z.0, h z.1)) (p >>= λ x. mapped {B = A × C} (λ y. (x.0, y)) (s x.1)))
  pair_first s t e (Ok x) = rw (e x.1) (pair_second x.0 (s x.1))
  pair_first s t e (Err d) = refl

  pub maps_both : (r : Reader A) (q : Reader B) (s : Reader C) (t : Reader D) → Maps r q g → Maps s t h → Maps (both r s) (both q t) (λ p. (g p.0, h p.1))
  maps_both r q s t f e ts = rw (f ts) (pair_first s t e (r ts))

pub maps_twice : {A B C : Type 0} (r : Reader A) (q : Reader B) (s : Reader C) (g : A → B) (h : B → C) → Maps r q g → Maps q s h → Maps r s (λ x. h (g x))
maps_twice r q s g h f e ts = e ts ∙ ap (λ (p : Read _). mapped h p) (f ts) ∙ mapped_twice g h (r ts)

-- three in turn, the first two as one
module _ {A B C : Type 0} where
  group_last : (x : A) (y : B) (p : Read C)
      → mapped {B = (A × B) × C} (λ z. ((x, y), z)) p ≡ mapped {A = A × (B × C)} {B = (A × B) × C} (λ q. ((q.0, q.1.0), q.1.1)) (mapped {B = A × (B × C)} (λ w. (x, w)) (mapped {B = B × C} (λ z. (y, z)) p))
  group_last x y (Ok z) = refl
  group_last x y (Err d) = refl

  group_second : (x : A) (c : Reader C) (p : Read B)
      → ◌≡◌ {A = Read ((A × B) × C)} (mapped {B = A × B} (λ y. (x, y)) p >>= λ y. mapped {B = (A × B) × C} (λ z. (y.0, z)) (c y.1))
      (mapped {A = A × (B × C)} {B = (A × B) × C} (λ q. ((q.0, q.1.0), q.1.1)) (mapped {B = A × (B × C)} (λ w. (x, w)) (p >>= λ y. mapped {B = B × C} (λ z. (y.0, z)) (c y.1))))
  group_second x c (Ok y) = group_last x y.0 (c y.1)
  group_second x c (Err d) = refl

  group_first : (b : Reader B) (c : Reader C) (p : Read A)
      → ◌≡◌ {A = Read ((A × B) × C)} ((p >>= λ x. mapped {B = A × B} (λ y. (x.0, y)) (b x.1)) >>= λ y. mapped {B = (A × B) × C} (λ z. (y.0, z)) (c y.1))
      (mapped {A = A × (B × C)} {B = (A × B) × C} (λ q. ((q.0, q.1.0), q.1.1)) (p >>= λ x. mapped {B = A × (B × C)} (λ w. (x.0, w)) (both b c x.1)))
  group_first b c (Ok x) = group_second x.0 c (b x.1)
  group_first b c (Err d) = refl

  pub maps_grouped : (a : Reader A) (b : Reader B) (c : Reader C) → Maps (both a (both b c)) (both (both a b) c) (λ p. ((p.0, p.1.0), p.1.1))
  maps_grouped a b c ts = group_first b c (a ts)

module _ {A B : Type 0} (g : A → B) where
  some_mapped : (p : Read A) → mapped Some (mapped g p) ≡ mapped (option_map g) (mapped Some p)
  some_mapped (Ok x) = refl
  some_mapped (Err d) = refl

  maybe_by : (r : Reader A) (q : Reader B) → Maps r q g → (ts : List Token) (b : Bool) → maybe_from q ts b ≡ mapped (option_map g) (maybe_from r ts b)
  maybe_by r q f ts true = refl
  maybe_by r q f ts false = rw (f ts) (some_mapped (r ts))

  pub maps_maybe : (m : Mark) (r : Reader A) (q : Reader B) → Maps r q g → Maps (maybe_at m r) (maybe_at m q) (option_map g)
  unfolding maybe_at
  maps_maybe m r q f ts = maybe_by r q f ts (starts_with m ts)

  refused_by : (c : Bool) (x y : Refusal) → ◌≡◌ {A = Read B} (cond c (Err x) (Err y)) (mapped g (cond c (Err x) (Err y)))
  refused_by true x y = refl
  refused_by false x y = refl

  pub maps_counted : (b : TokenKind → Bool) (r : ℕ → Reader A) (q : ℕ → Reader B) → ((n : ℕ) → Maps (r n) (q n) g) → (n : ℕ) → Maps (counted_at b r n) (counted_at b q n) g
  unfolding counted_at at_limit
  maps_counted b r q f zero [] = refl
  maps_counted b r q f zero (t ∷ ts) = refused_by (b t.kind) (refusal TooDeep (t ∷ ts)) (refusal Unexpected (t ∷ ts))
  maps_counted b r q f (suc n) ts = f n ts

abbrev pub either_map : {A B C : Type 0} → (B → C) → A ⊎ B → A ⊎ C
either_map g (inl x) = inl x
either_map g (inr y) = inr (g y)

-- a map of one side
module _ {A B C : Type 0} (g : B → C) where
  either_first : (p : Read A) → ◌≡◌ {A = Read (A ⊎ C)} (mapped inl p) (mapped (either_map g) (mapped inl p))
  either_first (Ok x) = refl
  either_first (Err d) = refl

  either_other : (p : Read B) → ◌≡◌ {A = Read (A ⊎ C)} (mapped inr (mapped g p)) (mapped (either_map g) (mapped inr p))
  either_other (Ok x) = refl
  either_other (Err d) = refl

  either_by : (r : Reader A) (s : Reader B) (t : Reader C) → Maps s t g → (ts : List Token) (c : Bool) → either_from r t ts c ≡ mapped (either_map g) (either_from r s ts c)
  either_by r s t f ts true = either_first (r ts)
  either_by r s t f ts false = rw (f ts) (either_other (s ts))

  pub maps_either : (b : TokenKind → Bool) (r : Reader A) (s : Reader B) (t : Reader C) → Maps s t g → Maps (either_at b r s) (either_at b r t) (either_map g)
  unfolding either_at
  maps_either b r s t f ts = either_by r s t f ts (begins_with b ts)

-- where the last item ends
pub last_item : (is : List Item) (i : Item) → span_of_last (is ++ i ∷ []) ≡ span_of_item i
last_item [] i = refl
last_item (j ∷ []) i = refl
last_item (j ∷ k ∷ is) i = last_item (k ∷ is) i

-- ---- at the limit

pub limit_is : {A : Type 0} (b : TokenKind → Bool) (ts : List Token) → at_limit {A = A} b ts ≡ Err (refusal_at_limit (begins_with b ts) ts)
unfolding at_limit
limit_is b [] = refl
limit_is {A} b (t ∷ ts) = by (b t.kind)
  where
    by : (c : Bool) → ◌≡◌ {A = Read A} (cond c (Err (refusal TooDeep (t ∷ ts))) (Err (refusal Unexpected (t ∷ ts)))) (Err (refusal_at_limit c (t ∷ ts)))
    by true = refl
    by false = refl

-- a node of its own, at the limit and below
pub counted_limit : {A : Type 0} (b : TokenKind → Bool) (one : ℕ → Reader A) (ts : List Token) → counted_at b one zero ts ≡ Err (refusal_at_limit (begins_with b ts) ts)
unfolding counted_at
counted_limit b one ts = limit_is b ts

pub counted_step : {A : Type 0} (b : TokenKind → Bool) (one : ℕ → Reader A) (n : ℕ) (ts : List Token) → 0 < n → counted_at b one n ts ≡ one (n - 1) ts
unfolding counted_at
counted_step b one zero ts h = absurd (omega arith)
counted_step b one (suc n) ts h = let e : suc n - 1 ≡ n = omega arith in rw e refl
