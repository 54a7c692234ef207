-- Steps of the walk: what is pushed for a node of its own, and for one more of several.
use Rattle.std.proofs.Common.{◌≡◌, ℕ, ◌+◌, ◌<◌, ◌++◌, sym, ap, ◌∙◌, drop, get_or, append_assoc, append-nil}
use Rattle.std.specs.Prelude.{List, [], ◌∷◌, length}
use Rattle.isp_lex.specs.declared.fault.Fault.{Fault}
use Rattle.isp_exprs.specs.declared.callee.Want.{Want}
use Rattle.isp_exprs.specs.Calls.{rest_of}
use Rattle.isp_exprs.proofs.Gathered.{split_at, rest_drop}

-- nothing is pushed
pub none_more : (xs ys : List Fault) → ys ≡ [] → xs ≡ xs ++ ys
none_more xs ys e = sym (append-nil xs) ∙ ap (λ (z : List Fault). xs ++ z) (sym e)

-- parts told one after another
pub two_told : (f0 f1 f2 a b : List Fault) → f1 ≡ f0 ++ a → f2 ≡ f1 ++ b → f2 ≡ f0 ++ (a ++ b)
two_told f0 f1 f2 a b p q = q ∙ (ap (λ (z : List Fault). z ++ b) p ∙ append_assoc f0 a b)

pub three_told : (f0 f1 f2 f3 a b c : List Fault) → f1 ≡ f0 ++ a → f2 ≡ f1 ++ b → f3 ≡ f2 ++ c → f3 ≡ f0 ++ (a ++ (b ++ c))
three_told f0 f1 f2 f3 a b c p q r = two_told f0 f1 f3 a (b ++ c) p (two_told f1 f2 f3 b c q r)

-- one more part, where those before it and those after it make up the total
pub gathered : (seen here rest next total : List Fault) → next ≡ seen ++ here → seen ++ (here ++ rest) ≡ total → next ++ rest ≡ total
gathered seen here rest next total n k = ap (λ (z : List Fault). z ++ rest) n ∙ (append_assoc seen here rest ∙ k)

-- over a list beside what is asked of each
module _ {R : Type 0} (all : List Want → List R → List Fault) (one : List Want → R → List Fault)
    (turn : (ws : List Want) (x : R) (xs : List R) → all ws (x ∷ xs) ≡ one ws x ++ all (rest_of ws) xs) where
  pub beside_step : (ws : List Want) (xs : List R) (i : ℕ) (x : R) (seen next total : List Fault) → i < length xs → x ≡ get_or xs i x → next ≡ seen ++ one (drop i ws) x
      → seen ++ all (drop i ws) (drop i xs) ≡ total → next ++ all (drop (i + 1) ws) (drop (i + 1) xs) ≡ total
  beside_step ws xs i x seen next total h e n k =
      gathered seen (one (drop i ws) x) (all (drop (i + 1) ws) (drop (i + 1) xs)) next total n
      (ap (λ (z : List Fault). seen ++ z) (ap (λ (z : List Want). one (drop i ws) x ++ all z (drop (i + 1) xs)) (sym (rest_drop i ws))
      ∙ (sym (turn (drop i ws) x (drop (i + 1) xs)) ∙ ap (all (drop i ws)) (sym (split_at xs i x h e)))) ∙ k)
