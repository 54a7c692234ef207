-- A run at the front of a text.
use Rattle.std.proofs.Common.{◌≡◌, ℕ, zero, suc, ◌<◌, ◌≤◌, Bool, true, false, cond, List, [], ◌∷◌, ◌++◌, length, take, drop, refl, arith}
use Rattle.std.specs.Prelude.{◌&&◌}
use Rattle.std.specs.Str.{IsUtf8, IsAscii, IsCharBoundary}
use Rattle.std.proofs.Math.Seq.{take-nil, drop-nil}
use Rattle.std.proofs.lemmas.Bool.Decides.{nat_tests}
use Rattle.std.proofs.lemmas.Str.{IsUtf8-from_ascii, IsCharBoundary-from_take}
use Rattle.std.proofs.lemmas.Str.Ascii.{IsAscii-nil, IsAscii-cons}
use Rattle.isp_lex.specs.Bytes.{all, begins, is_word_byte}
use Rattle.isp_lex.specs.reader.Runs.{run}

pub and_both : (a b : Bool) → (a && b) ≡ true → (a ≡ true) × (b ≡ true)
and_both true true e = (refl, refl)
and_both true false e = absurd cc
and_both false true e = absurd cc
and_both false false e = absurd cc

pub all-append : (p : ℕ → Bool) (a b : List ℕ) → all p (a ++ b) ≡ true → (all p a ≡ true) × (all p b ≡ true)
all-append p [] b h = (refl, h)
all-append p (x ∷ a) b h =
    let q = and_both (p x) (all p (a ++ b)) h in
    let r = all-append p a b q.1 in
    (rw (q.0, r.0) refl, r.1)

-- bytes that pass the test, up to one that does not, are the run
pub run_is : (p : ℕ → Bool) (a rest : List ℕ) → all p a ≡ true → begins p rest ≡ false → run p (a ++ rest) ≡ length a
run_is p [] [] h e = refl
run_is p [] (b ∷ bs) h e = rw e refl
run_is p (b ∷ a) rest h e = let q = and_both (p b) (all p a) h in rw (q.0, run_is p a rest q.1 e) refl

le_at : (t : Bool) (m n : ℕ) → m ≤ n → cond t (suc m) 0 ≤ suc n
le_at true m n h = omega arith
le_at false m n h = omega arith

pub run_le : (p : ℕ → Bool) (bs : List ℕ) → run p bs ≤ length bs
run_le p [] = omega arith
run_le p (b ∷ bs) = le_at (p b) (run p bs) (length bs) (run_le p bs)

run_all_at : (p : ℕ → Bool) (b : ℕ) (bs : List ℕ) (t : Bool) → p b ≡ t → all p (take (run p bs) bs) ≡ true → all p (take (cond t (suc (run p bs)) 0) (b ∷ bs)) ≡ true
run_all_at p b bs true e h = rw (e, h) refl
run_all_at p b bs false e h = refl

-- the bytes of the run pass the test
pub run_all : (p : ℕ → Bool) (bs : List ℕ) → all p (take (run p bs) bs) ≡ true
run_all p [] = refl
run_all p (b ∷ bs) = run_all_at p b bs (p b) refl (run_all p bs)

run_ends_at : (p : ℕ → Bool) (b : ℕ) (bs : List ℕ) (t : Bool) → p b ≡ t → begins p (drop (run p bs) bs) ≡ false → begins p (drop (cond t (suc (run p bs)) 0) (b ∷ bs)) ≡ false
run_ends_at p b bs true e h = h
run_ends_at p b bs false e h = e

-- and the byte after it does not
pub run_ends : (p : ℕ → Bool) (bs : List ℕ) → begins p (drop (run p bs) bs) ≡ false
run_ends p [] = refl
run_ends p (b ∷ bs) = run_ends_at p b bs (p b) refl (run_ends p bs)

word_byte_ascii : (b : ℕ) → is_word_byte b ≡ true → b < 128
word_byte_ascii b e = grind (arith, nat_tests)

pub words_ascii : (bs : List ℕ) → all is_word_byte bs ≡ true → IsAscii bs
words_ascii [] h = IsAscii-nil
words_ascii (b ∷ bs) h =
    let q = and_both (is_word_byte b) (all is_word_byte bs) h in
    IsAscii-cons b bs (word_byte_ascii b q.0) (words_ascii bs q.1)

-- a text may be cut after the run
pub run_boundary : (bs : List ℕ) → IsUtf8 bs → IsCharBoundary bs (run is_word_byte bs)
run_boundary bs u =
    IsCharBoundary-from_take bs (run is_word_byte bs) u (run_le is_word_byte bs) (IsUtf8-from_ascii _ (words_ascii _ (run_all is_word_byte bs)))

-- a front of bytes that pass the test
pub all_take : (p : ℕ → Bool) (n : ℕ) (bs : List ℕ) → all p bs ≡ true → all p (take n bs) ≡ true
all_take p n [] h = rw (take-nil n) refl
all_take p zero (b ∷ bs) h = refl
all_take p (suc n) (b ∷ bs) h = let q = and_both (p b) (all p bs) h in rw (q.0, all_take p n bs q.1) refl

pub all_drop : (p : ℕ → Bool) (n : ℕ) (bs : List ℕ) → all p bs ≡ true → all p (drop n bs) ≡ true
all_drop p n [] h = rw (drop-nil n) refl
all_drop p zero (b ∷ bs) h = h
all_drop p (suc n) (b ∷ bs) h = all_drop p n bs (and_both (p b) (all p bs) h).1

-- the run is no shorter than what passes at the front
pub run_ge : (p : ℕ → Bool) (a rest : List ℕ) → all p a ≡ true → length a ≤ run p (a ++ rest)
run_ge p [] rest h = omega arith
run_ge p (b ∷ a) rest h =
    let q = and_both (p b) (all p a) h in
    rw q.0 (omega (arith, run_ge p a rest q.1))

pub all_both : (p : ℕ → Bool) (a b : List ℕ) → all p a ≡ true → all p b ≡ true → all p (a ++ b) ≡ true
all_both p [] b h k = k
all_both p (x ∷ a) b h k = let q = and_both (p x) (all p a) h in rw (q.0, all_both p a b q.1 k) refl
