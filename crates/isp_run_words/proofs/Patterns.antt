-- What the calls that look for a text in another say, in the words of the definitions.
use Rattle.std.proofs.Common.{◌≡◌, ◌≢◌, ℕ, ◌+◌, ◌-◌, List, [], ◌∷◌, ◌++◌, length, take, drop, Bool, Option, Some, None, sym, ap, ◌∙◌, arith}
use Rattle.std.specs.Prelude.{eqb, MatchOption}
use Rattle.std.specs.Bool.{MatchBool}
use Rattle.std.specs.List.{ends_with, starts_with}
use Rattle.std.specs.Str.Pattern.{FindsCharPrefix, FindsCharSuffix, FindsTextPrefix, FindsTextSuffix, HasPrefixMatch, HasSuffixMatch}
use Rattle.std.proofs.lemmas.Str.Pattern as std
use Rattle.isp_run_words.specs.Saying.{Lacks, Parts}
use denote.Ref.{Bor}

pub ends : (r : Bool) (n s : List ℕ) → MatchBool r (HasSuffixMatch (FindsTextSuffix n) s) (FindsTextSuffix n s None) → r ≡ ends_with eqb s n
ends r n s h = std.ends_text r n s h

pub starts : (r : Bool) (n s : List ℕ) → MatchBool r (HasPrefixMatch (FindsTextPrefix n) s) (FindsTextPrefix n s None) → r ≡ starts_with eqb s n
starts r n s h = std.starts_text r n s h

-- at a character below 128
pub parts : (word : List ℕ) (r : Option (Bor (List ℕ) × Bor (List ℕ))) → std.IsSplitOnceResult 61 word r → MatchOption r (Lacks 61 word) (λ x. Parts word x.0.now x.1.now)
parts word r h = std.split_parts 61 word r h (omega arith)

pub behind_char : (text : List ℕ) (r : Option (Bor (List ℕ))) → MatchOption r (FindsCharPrefix 64 text None) (λ x. (n : ℕ) × FindsCharPrefix 64 text (Some n) × (x.now ≡ drop n text) × (length x.now + n ≡ length text))
    → MatchOption r ((rest : List ℕ) → text ≢ 64 ∷ rest) (λ x. text ≡ 64 ∷ x.now)
behind_char text r h = std.strip_prefix_char 64 text r h (omega arith)

pub before_char : (text : List ℕ) (r : Option (Bor (List ℕ))) → MatchOption r (FindsCharSuffix 41 text None) (λ x. (n : ℕ) × FindsCharSuffix 41 text (Some n) × (x.now ≡ take (length text - n) text) × (length x.now + n ≡ length text))
    → MatchOption r ((front : List ℕ) → text ≢ front ++ 41 ∷ []) (λ x. text ≡ x.now ++ 41 ∷ [])
before_char text r h = std.strip_suffix_char 41 text r h (omega arith)

pub behind_text : (n text : List ℕ) (r : Option (Bor (List ℕ))) → MatchOption r (FindsTextPrefix n text None) (λ x. (k : ℕ) × FindsTextPrefix n text (Some k) × (x.now ≡ drop k text) × (length x.now + k ≡ length text))
    → MatchOption r ((rest : List ℕ) → text ≢ n ++ rest) (λ x. text ≡ n ++ x.now)
behind_text n text None h = h
behind_text n text (Some x) h = h.1.1 ∙ ap (λ (l : List ℕ). n ++ l) (sym h.2)
