-- A line of code text without its line feed.
use Rattle.std.proofs.Common.{◌≡◌, refl, sym, ap, ◌∙◌, ℕ, Result, Ok, Err, List, [], ◌∷◌, ◌++◌, append_assoc, length, take, ◌-◌, arith}
use Rattle.std.proofs.lemmas.List.{length-append, take_at}
use Rattle.std.specs.Prelude.{OnOk, if◌then◌else◌, is_ok}
use Rattle.std.specs.List.{flat_map}
use Rattle.isp_asm.specs.Spelling.{line_text, spaced}
use Rattle.isp_traces.specs.Steps.{words_text}

pub feed_last : (ws : List (List ℕ)) → line_text ws ≡ words_text ws ++ 10 ∷ []
feed_last [] = refl
feed_last (w ∷ ws) = sym (append_assoc w (flat_map spaced ws) (10 ∷ []))

pub without_feed : (n : ℕ) (old ws text last : List ℕ) → n ≡ length text → text ≡ old ++ (ws ++ 10 ∷ []) → last ≡ take (n - 1) text → last ≡ old ++ ws
without_feed n old ws text last long e is =
    let all : text ≡ (old ++ ws) ++ 10 ∷ [] = e ∙ sym (append_assoc old ws (10 ∷ [])) in
    let there : length (old ++ ws) ≡ n - 1 = omega (arith, long, ap length all, length-append (old ++ ws) (10 ∷ [])) in
    is ∙ ap (λ (t : List ℕ). take (n - 1) t) all ∙ take_at (old ++ ws) (10 ∷ []) (n - 1) there

-- one more piece of a text
pub one_more : (old so text more piece : List ℕ) → text ≡ old ++ so → more ≡ text ++ piece → more ≡ old ++ (so ++ piece)
one_more old so text more piece e is = is ∙ ap (λ t. t ++ piece) e ∙ append_assoc old so piece

-- what a call that succeeds appends
pub extended : {T E : Type 0} (r : Result T E) (new a b : List ℕ) → new ≡ (if is_ok r then a else b) → OnOk r (new ≡ a)
extended (Ok x) new a b e = e
extended (Err x) new a b e = tt
