-- One step more.
use Rattle.std.proofs.Common.{◌≡◌, ap, ◌∙◌, ℕ, zero, suc, ◌+◌, List, [], ◌∷◌, ◌++◌, arith, Bool}
use Rattle.std.specs.List.{flat_map, range_with_len}
use Rattle.std.proofs.lemmas.List.{append-nil}
use Rattle.std.proofs.lemmas.List.Concat.{flat_map-append}
use Rattle.isp_code.specs.Conf.{State}
use Rattle.isp_code.specs.Listing.{Listing}
use Rattle.isp_traces.specs.Steps.{line, lines}

pub range_more : (a n j : ℕ) → a + n ≡ j → range_with_len a (suc n) ≡ range_with_len a n ++ j ∷ []
range_more a zero j e = let i : a ≡ j = omega (arith, e) in ap (λ (x : ℕ). x ∷ []) i
range_more a (suc n) j e = let i : a + 1 + n ≡ j = omega (arith, e) in ap (λ (xs : List ℕ). a ∷ xs) (range_more (a + 1) n j i)

pub lines_more : (code : Listing) (lanes : Bool) (s : State) (from n j : ℕ) → from + n ≡ j → lines code lanes s from (suc n) ≡ lines code lanes s from n ++ line code lanes s j
lines_more code lanes s from n j e =
    ap (λ (ks : List ℕ). flat_map (line code lanes s) ks) (range_more from n j e)
    ∙ flat_map-append (line code lanes s) (range_with_len from n) (j ∷ [])
    ∙ ap (λ (t : List ℕ). lines code lanes s from n ++ t) (append-nil (line code lanes s j))
