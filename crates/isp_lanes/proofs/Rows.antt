-- Lists that are computed lane by lane from two lists of one length.
use Rattle.std.proofs.Common.{◌≡◌, refl, ap, ap₂, ◌∙◌, ℕ, zero, suc, ◌<◌, Bool, cond, List, [], ◌∷◌, map, length, get_or, replicate, arith}
use Rattle.std.specs.Simd.Lanes.{zip2, sel_l, Each1, Each2}

-- both have n lanes
pub record Lanes2 (n : ℕ) (xs ys : List ℕ) : Type 0 where
  pub left : length xs ≡ n
  pub right : length ys ≡ n

module _ {C : Type 0} where
  pub row_splat : (c : C) (n : ℕ) (xs ys : List ℕ) → length xs ≡ n → length ys ≡ n → replicate n c ≡ zip2 (λ _ _. c) xs ys
  row_splat c zero [] ys p q = refl
  row_splat c (suc m) [] ys p q = absurd (omega arith)
  row_splat c zero (u ∷ us) ys p q = absurd (omega arith)
  row_splat c (suc m) (u ∷ us) [] p q = absurd (omega arith)
  row_splat c (suc m) (u ∷ us) (v ∷ vs) p q = ap (λ t. c ∷ t) (row_splat c m us vs (omega arith) (omega arith))

pub row_left : (xs ys : List ℕ) → length xs ≡ length ys → xs ≡ zip2 (λ a _. a) xs ys
row_left [] ys p = refl
row_left (u ∷ us) [] p = absurd (omega arith)
row_left (u ∷ us) (v ∷ vs) p = ap (λ t. u ∷ t) (row_left us vs (omega arith))

pub row_right : (xs ys : List ℕ) → length xs ≡ length ys → ys ≡ zip2 (λ _ b. b) xs ys
row_right [] [] p = refl
row_right [] (v ∷ vs) p = absurd (omega arith)
row_right (u ∷ us) [] p = absurd (omega arith)
row_right (u ∷ us) (v ∷ vs) p = ap (λ t. v ∷ t) (row_right us vs (omega arith))

module _ {A B C : Type 0} (h : A → B → C) (f : ℕ → ℕ → A) (g : ℕ → ℕ → B) where
  zip2_both : (xs ys : List ℕ) → zip2 h (zip2 f xs ys) (zip2 g xs ys) ≡ zip2 (λ a b. h (f a b) (g a b)) xs ys
  zip2_both [] ys = refl
  zip2_both (u ∷ us) [] = refl
  zip2_both (u ∷ us) (v ∷ vs) = ap (λ t. h (f u v) (g u v) ∷ t) (zip2_both us vs)

  pub row_op2 : (xs ys : List ℕ) {us : List A} {vs : List B} → us ≡ zip2 f xs ys → vs ≡ zip2 g xs ys → zip2 h us vs ≡ zip2 (λ a b. h (f a b) (g a b)) xs ys
  row_op2 xs ys p q = ap₂ (zip2 h) p q ∙ zip2_both xs ys

module _ {A C : Type 0} (h : A → C) (f : ℕ → ℕ → A) where
  map_both : (xs ys : List ℕ) → map h (zip2 f xs ys) ≡ zip2 (λ a b. h (f a b)) xs ys
  map_both [] ys = refl
  map_both (u ∷ us) [] = refl
  map_both (u ∷ us) (v ∷ vs) = ap (λ t. h (f u v) ∷ t) (map_both us vs)

  pub row_op1 : (xs ys : List ℕ) {us : List A} → us ≡ zip2 f xs ys → map h us ≡ zip2 (λ a b. h (f a b)) xs ys
  row_op1 xs ys p = ap (map h) p ∙ map_both xs ys

module _ {A : Type 0} (t : ℕ → ℕ → Bool) (f g : ℕ → ℕ → A) where
  sel_both : (xs ys : List ℕ) → sel_l (zip2 t xs ys) (zip2 f xs ys) (zip2 g xs ys) ≡ zip2 (λ a b. cond (t a b) (f a b) (g a b)) xs ys
  sel_both [] ys = refl
  sel_both (u ∷ us) [] = refl
  sel_both (u ∷ us) (v ∷ vs) = ap (λ r. cond (t u v) (f u v) (g u v) ∷ r) (sel_both us vs)

  pub row_select : (xs ys : List ℕ) {ms : List Bool} {us vs : List A} → ms ≡ zip2 t xs ys → us ≡ zip2 f xs ys → vs ≡ zip2 g xs ys → sel_l ms us vs ≡ zip2 (λ a b. cond (t a b) (f a b) (g a b)) xs ys
  row_select xs ys {us = us} {vs = vs} m p q = ap (λ r. sel_l r us vs) m ∙ ap₂ (sel_l (zip2 t xs ys)) p q ∙ sel_both xs ys

-- two functions that agree on lanes that meet a condition
pub row_same : {C : Type 0} (P Q : ℕ → Type 0) (f g : ℕ → ℕ → C) → ((a b : ℕ) → P a → Q b → f a b ≡ g a b) → (xs ys : List ℕ) → ((k : ℕ) → P (get_or xs k 0)) → ((k : ℕ) → Q (get_or ys k 0)) → zip2 f xs ys ≡ zip2 g xs ys
row_same P Q f g e [] ys p q = refl
row_same P Q f g e (u ∷ us) [] p q = refl
row_same P Q f g e (u ∷ us) (v ∷ vs) p q = ap₂ (λ c t. c ∷ t) (e u v (p 0) (q 0)) (row_same P Q f g e us vs (λ k. p (suc k)) (λ k. q (suc k)))

-- a splat of c, which is known to be e
pub row_splat_as : (c e : ℕ) → c ≡ e → (n : ℕ) (xs ys : List ℕ) → length xs ≡ n → length ys ≡ n → replicate n c ≡ zip2 (λ _ _. e) xs ys
row_splat_as c e h n xs ys p q = ap (replicate n) h ∙ row_splat e n xs ys p q

pub row_map_left : (f : ℕ → ℕ) (xs ys : List ℕ) → length xs ≡ length ys → map f xs ≡ zip2 (λ a _. f a) xs ys
row_map_left f [] ys p = refl
row_map_left f (u ∷ us) [] p = absurd (omega arith)
row_map_left f (u ∷ us) (v ∷ vs) p = ap (λ t. f u ∷ t) (row_map_left f us vs (omega arith))

pub row_map_right : (f : ℕ → ℕ) (xs ys : List ℕ) → length xs ≡ length ys → map f ys ≡ zip2 (λ _ b. f b) xs ys
row_map_right f [] [] p = refl
row_map_right f [] (v ∷ vs) p = absurd (omega arith)
row_map_right f (u ∷ us) [] p = absurd (omega arith)
row_map_right f (u ∷ us) (v ∷ vs) p = ap (λ t. f v ∷ t) (row_map_right f us vs (omega arith))

-- each lane of a computed row is below k
pub each_below : (k : ℕ) (f : ℕ → ℕ → ℕ) → ((a b : ℕ) → f a b < k) → (ws xs ys : List ℕ) → Each2 (λ (a b : ℕ). b < k) ws (zip2 f xs ys)
each_below k f h [] xs ys = tt
each_below k f h (w ∷ ws) [] ys = tt
each_below k f h (w ∷ ws) (u ∷ us) [] = tt
each_below k f h (w ∷ ws) (u ∷ us) (v ∷ vs) = (h u v, each_below k f h ws us vs)

-- a fact of two lanes that holds of each pair
pub each_pair : (P Q : ℕ → Type 0) (R : ℕ → ℕ → Type 0) (f g : ℕ → ℕ → ℕ) → ((a b : ℕ) → P a → Q b → R (f a b) (g a b)) → (xs ys : List ℕ)
    → ((k : ℕ) → k < length xs → P (get_or xs k 0)) → ((k : ℕ) → k < length ys → Q (get_or ys k 0)) → Each2 R (zip2 f xs ys) (zip2 g xs ys)
each_pair P Q R f g h [] ys p q = tt
each_pair P Q R f g h (u ∷ us) [] p q = tt
each_pair P Q R f g h (u ∷ us) (v ∷ vs) p q = (h u v (p 0 (omega arith)) (q 0 (omega arith)), each_pair P Q R f g h us vs (λ k l. p (suc k) (omega arith)) (λ k l. q (suc k) (omega arith)))

-- a bound on each lane
pub each_lane : (P Q : ℕ → Type 0) (m : ℕ) (f : ℕ → ℕ → ℕ) → 0 < m → ((a b : ℕ) → P a → Q b → f a b < m) → (xs ys : List ℕ)
    → ((k : ℕ) → P (get_or xs k 0)) → ((k : ℕ) → Q (get_or ys k 0)) → (k : ℕ) → get_or (zip2 f xs ys) k 0 < m
each_lane P Q m f some h [] ys p q k = some
each_lane P Q m f some h (u ∷ us) [] p q k = some
each_lane P Q m f some h (u ∷ us) (v ∷ vs) p q zero = h u v (p 0) (q 0)
each_lane P Q m f some h (u ∷ us) (v ∷ vs) p q (suc k) = each_lane P Q m f some h us vs (λ j. p (suc j)) (λ j. q (suc j)) k

-- agreement on lanes that are there
pub row_same_in : {C : Type 0} (P Q : ℕ → Type 0) (f g : ℕ → ℕ → C) → ((a b : ℕ) → P a → Q b → f a b ≡ g a b) → (xs ys : List ℕ)
    → ((k : ℕ) → k < length xs → P (get_or xs k 0)) → ((k : ℕ) → k < length ys → Q (get_or ys k 0)) → zip2 f xs ys ≡ zip2 g xs ys
row_same_in P Q f g e [] ys p q = refl
row_same_in P Q f g e (u ∷ us) [] p q = refl
row_same_in P Q f g e (u ∷ us) (v ∷ vs) p q = ap₂ (λ c t. c ∷ t) (e u v (p 0 (omega arith)) (q 0 (omega arith))) (row_same_in P Q f g e us vs (λ k l. p (suc k) (omega arith)) (λ k l. q (suc k) (omega arith)))

-- what a test gives on a computed row
pub map_row : {A : Type 0} (P Q : ℕ → Type 0) (h : ℕ → A) (f : ℕ → ℕ → ℕ) (j : A → A → A) → ((a b : ℕ) → P a → Q b → h (f a b) ≡ j (h a) (h b)) → (xs ys : List ℕ)
    → ((k : ℕ) → P (get_or xs k 0)) → ((k : ℕ) → Q (get_or ys k 0)) → map h (zip2 f xs ys) ≡ zip2 j (map h xs) (map h ys)
map_row P Q h f j e [] ys p q = refl
map_row P Q h f j e (u ∷ us) [] p q = refl
map_row P Q h f j e (u ∷ us) (v ∷ vs) p q = ap₂ (λ c t. c ∷ t) (e u v (p 0) (q 0)) (map_row P Q h f j e us vs (λ k. p (suc k)) (λ k. q (suc k)))

pub map_splat : {A : Type 0} (h : ℕ → A) (n x : ℕ) → map h (replicate n x) ≡ replicate n (h x)
map_splat h zero x = refl
map_splat h (suc n) x = ap (λ t. h x ∷ t) (map_splat h n x)

pub length_zip2 : {A B C : Type 0} (f : A → B → C) (xs : List A) (ys : List B) (n : ℕ) → length xs ≡ n → length ys ≡ n → length (zip2 f xs ys) ≡ n
length_zip2 f [] ys n p q = p
length_zip2 f (u ∷ us) [] n p q = q
length_zip2 f (u ∷ us) (v ∷ vs) zero p q = absurd (omega arith)
length_zip2 f (u ∷ us) (v ∷ vs) (suc n) p q = ap suc (length_zip2 f us vs n (omega arith) (omega arith))

-- two functions that agree on each lane of a row
pub map_same : {A : Type 0} (P : ℕ → Type 0) (f g : ℕ → A) → ((a : ℕ) → P a → f a ≡ g a) → (xs : List ℕ) → ((k : ℕ) → P (get_or xs k 0)) → map f xs ≡ map g xs
map_same P f g e [] p = refl
map_same P f g e (x ∷ xs) p = ap₂ (λ c t. c ∷ t) (e x (p 0)) (map_same P f g e xs (λ k. p (suc k)))

pub each_map : (R : ℕ → Type 0) (f : ℕ → ℕ) → ((a : ℕ) → R (f a)) → (xs : List ℕ) → Each1 R (map f xs)
each_map R f h [] = tt
each_map R f h (x ∷ xs) = (h x, each_map R f h xs)

-- a row of zeros, of another row
pub zeros : (n : ℕ) (xs : List ℕ) → length xs ≡ n → replicate {A = ℕ} n 0 ≡ map {A = ℕ} {B = ℕ} (λ _. 0) xs
zeros zero [] p = refl
zeros (suc n) [] p = absurd (omega arith)
zeros zero (x ∷ xs) p = absurd (omega arith)
zeros (suc n) (x ∷ xs) p = ap (λ t. 0 ∷ t) (zeros n xs (omega arith))

pub map_twice : (f g : ℕ → ℕ) (xs : List ℕ) → map f (map g xs) ≡ map (λ a. f (g a)) xs
map_twice f g [] = refl
map_twice f g (x ∷ xs) = ap (λ t. f (g x) ∷ t) (map_twice f g xs)
