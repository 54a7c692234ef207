-- A text in the room for a line: the zeros after it, and how much of a line it is.
use Rattle.std.proofs.Common.{arith, Bool, true, Option, Some, None, [], inl, inr, ⊎_elim, ◌<◌, ◌≡◌, ◌≤◌, ◌+◌, ◌-◌, ℕ, List, length, length-take-le, drop, take, replicate, ap, sym, subst, ◌∙◌}
use Rattle.std.proofs.lemmas.Bool.{cases_lt}
use Rattle.std.proofs.lemmas.List.{drop-drop, drop-replicate, take_all}
use Rattle.std.proofs.lemmas.Slice.{drop-put_mid}
use Rattle.isp_engine.specs.Told.{Told}
use borrow.Rule.Slice.PartMut.{put_mid}

-- bytes that are written after the text leave zeros after them
pub zeros_behind : (n k m : ℕ) (xs ys : List ℕ) → n ≤ length xs → length ys ≡ k → k ≡ m → drop n xs ≡ replicate (128 - n) 0
    → drop (n + k) (put_mid n m xs ys) ≡ replicate (128 - (n + k)) 0
zeros_behind n k m xs ys le len same zeros =
    drop-put_mid n m xs ys (n + k) (omega arith) le (len ∙ same)
    ∙ sym (drop-drop k n xs) ∙ ap (drop k) zeros ∙ drop-replicate k (128 - n) 0 ∙ ap (λ z. replicate z 0) (omega arith)

-- a text and what is written after it have room where their bytes have
pub fits : (n k : ℕ) (xs : List ℕ) → n ≤ 127 → length xs ≡ 128 → length (take n xs) + k ≤ 127 → n + k ≤ 127
fits n k xs le len short = subst (λ z. z + k ≤ 127) (length-take-le n xs (omega arith)) short

-- the first n of some elements are as many as they are
takes : (n : ℕ) (xs : List ℕ) → take n xs ≡ take (length (take n xs)) xs
takes n xs =
    ⊎_elim
    (λ (lt : length xs < n).
    let all : take n xs ≡ xs = take_all n xs (omega arith) in
    all ∙ sym (take_all (length (take n xs)) xs (subst (λ k. length xs ≤ k) (ap length (sym all)) (omega arith))))
    (λ (le : n ≤ length xs). ap (λ k. take k xs) (sym (length-take-le n xs le)))
    (cases_lt (length xs) n)

bytes_of : Option (List ℕ) → List ℕ
bytes_of None = []
bytes_of (Some xs) = xs

-- what a line has of a text that was told to it: as much as there is room for
pub told_line : (line text : List ℕ) (failed : Bool) → Told line (Some []) (Some text) failed → length text ≤ 127 → (failed ≡ true → length text ≡ 127)
    → text ≡ take 127 line
unfolding bytes_of
told_line line text failed (inl t) short full =
    let e : text ≡ line = ap bytes_of t.0 in e ∙ sym (take_all 127 line (subst (λ z. length z ≤ 127) e short))
told_line line text failed (inr t) short full =
    let e : text ≡ take t.0.0 line = ap bytes_of t.0.1 in
    e ∙ takes t.0.0 line ∙ ap (λ k. take k line) (ap length (sym e) ∙ full t.1)
