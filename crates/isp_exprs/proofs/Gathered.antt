-- Lists whose parts are judged one by one, gathered from the front.
use Rattle.std.proofs.Common.{◌≡◌, ℕ, zero, suc, ◌+◌, ◌<◌, ◌++◌, refl, sym, ap, ◌∙◌, drop, drop-cons, add-one, get_or, append_assoc}
use Rattle.std.proofs.lemmas.List.{append-nil}
use Rattle.std.specs.Prelude.{List, [], ◌∷◌, length, map, Result, Ok, Err}
use Rattle.isp_lex.specs.declared.fault.Fault.{Fault}
use Rattle.isp_typed.specs.Verdicts.{both, made}
use Rattle.isp_typed.proofs.Order.{earlier_assoc}
use Rattle.isp_exprs.specs.Calls.{rest_of}
use Rattle.isp_exprs.specs.Rules.{pair_then}
use Rattle.isp_exprs.specs.reader.Lists.{and_one}
use Rattle.isp_exprs.specs.declared.callee.Want.{Want}

-- a list and another after it
abbrev pub behind : {A : Type 0} → List A × List A → List A
behind p = p.0 ++ p.1

-- what is gathered so far, before the rest
abbrev pub before : {A : Type 0} → Result (List A) Fault → Result (List A) Fault → Result (List A) Fault
before so rest = made behind (both so rest)

module _ {A : Type 0} where
  pub before_one : (so : Result (List A) Fault) (one : Result A Fault) (rest : Result (List A) Fault)
      → before (made and_one (both so one)) rest ≡ before so (made pair_then (both one rest))
  before_one (Ok xs) (Ok x) (Ok ys) = ap (λ z. Ok z) (append_assoc xs (x ∷ []) ys)
  before_one (Ok xs) (Ok x) (Err e) = refl
  before_one (Ok xs) (Err e) (Ok ys) = refl
  before_one (Ok xs) (Err e) (Err f) = refl
  before_one (Err d) (Ok x) (Ok ys) = refl
  before_one (Err d) (Ok x) (Err e) = refl
  before_one (Err d) (Err e) (Ok ys) = refl
  before_one (Err d) (Err e) (Err f) = ap (λ z. Err z) (earlier_assoc d e f)

  pub before_all : (rest : Result (List A) Fault) → before (Ok []) rest ≡ rest
  before_all (Ok ys) = refl
  before_all (Err e) = refl

  pub before_none : (so : Result (List A) Fault) → before so (Ok []) ≡ so
  before_none (Ok xs) = ap (λ z. Ok z) (append-nil xs)
  before_none (Err e) = refl

cons_is : {A : Type 0} (a b : A) (xs ys : List A) → a ≡ b → xs ≡ ys → a ∷ xs ≡ b ∷ ys
cons_is a b xs ys p q = cc

pub split_at : {A : Type 0} (xs : List A) (i : ℕ) (x : A) → i < length xs → x ≡ get_or xs i x → drop i xs ≡ x ∷ drop (i + 1) xs
split_at xs i x h e = drop-cons xs i x h ∙ cons_is _ _ _ _ (sym e) (ap (λ n. drop n xs) (sym (add-one i)))

rest_drop_suc : (i : ℕ) (ws : List Want) → rest_of (drop i ws) ≡ drop (suc i) ws
rest_drop_suc zero [] = refl
rest_drop_suc zero (w ∷ ws) = refl
rest_drop_suc (suc i) [] = refl
rest_drop_suc (suc i) (w ∷ ws) = rest_drop_suc i ws

pub rest_drop : (i : ℕ) (ws : List Want) → rest_of (drop i ws) ≡ drop (i + 1) ws
rest_drop i ws = rest_drop_suc i ws ∙ ap (λ n. drop n ws) (sym (add-one i))

-- one more of a list, beside what is asked of each
module _ {R A : Type 0} (all : List Want → List R → Result (List A) Fault) (one : List Want → R → Result A Fault)
    (turn : (ws : List Want) (x : R) (xs : List R) → all ws (x ∷ xs) ≡ made pair_then (both (one ws x) (all (rest_of ws) xs))) where
  pub beside_step : (ws : List Want) (xs : List R) (i : ℕ) (x : R) (so total : Result (List A) Fault) → i < length xs → x ≡ get_or xs i x
      → before so (all (drop i ws) (drop i xs)) ≡ total
      → before (made and_one (both so (one (drop i ws) x))) (all (drop (i + 1) ws) (drop (i + 1) xs)) ≡ total
  beside_step ws xs i x so total h e k =
      before_one so (one (drop i ws) x) (all (drop (i + 1) ws) (drop (i + 1) xs))
      ∙ (ap (before so) (ap (λ (z : List Want). made pair_then (both (one (drop i ws) x) (all z (drop (i + 1) xs)))) (sym (rest_drop i ws))
      ∙ (sym (turn (drop i ws) x (drop (i + 1) xs)) ∙ ap (all (drop i ws)) (sym (split_at xs i x h e)))) ∙ k)

-- nothing is gathered yet
pub before_new : {A B : Type 0} (f : B → A) (xs : List B) (rest : Result (List A) Fault) → xs ≡ [] → before (Ok (map f xs)) rest ≡ rest
before_new f xs rest e = rw e (before_all rest)

module _ {R A : Type 0} (all : List Want → List R → Result (List A) Fault) (one : List Want → R → Result A Fault)
    (turn : (ws : List Want) (x : R) (xs : List R) → all ws (x ∷ xs) ≡ made pair_then (both (one ws x) (all (rest_of ws) xs))) where
  pub beside_next : (ws : List Want) (xs : List R) (i : ℕ) (x : R) (so more total : Result (List A) Fault) (part : Result A Fault) → more ≡ made and_one (both so part) → part ≡ one (drop i ws) x
      → i < length xs → x ≡ get_or xs i x → before so (all (drop i ws) (drop i xs)) ≡ total → before more (all (drop (i + 1) ws) (drop (i + 1) xs)) ≡ total
  beside_next ws xs i x so more total part m p h e k =
      ap (λ (z : Result (List A) Fault). before z (all (drop (i + 1) ws) (drop (i + 1) xs))) (m ∙ ap (λ (z : Result A Fault). made and_one (both so z)) p)
      ∙ beside_step all one turn ws xs i x so total h e k
