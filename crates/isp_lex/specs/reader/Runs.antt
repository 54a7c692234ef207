-- How far a text goes on alike.
use Rattle.std.specs.Prelude.{ℕ, suc, Bool, cond, List, [], ◌∷◌, take}
use Rattle.isp_lex.specs.Bytes.{is_word_byte}

-- how many bytes at the front pass the test
abbrev pub run : (ℕ → Bool) → List ℕ → ℕ
run p [] = 0
run p (b ∷ bs) = cond (p b) (suc (run p bs)) 0

-- the letters, digits and `_` at the front
abbrev pub run_of : List ℕ → List ℕ
run_of text = take (run is_word_byte text) text
