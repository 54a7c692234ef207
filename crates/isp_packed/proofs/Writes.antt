-- What is written after what was written before.
use Rattle.std.proofs.Common.{◌≡◌, ℕ, suc, ◌+◌, ◌-◌, ◌^◌, ◌<◌, ◌≤◌, List, [], ◌∷◌, ◌++◌, length, take, drop, get_or, Option, refl, sym, ap, ap₂, ◌∙◌, inl, inr, arith, append_assoc, append-nil, drop-drop, drop_at, take_at, length-append, mod-eq_of_lt}
use Rattle.std.proofs.lemmas.Bool.{cases_lt}
use Rattle.std.proofs.lemmas.Grind.{flat_map-append}
use Rattle.std.proofs.lemmas.List.{drop_all, take_more, take-append-drop}
use Rattle.std.specs.List.{flat_map}
use Rattle.byteorder.specs.Endian.{little_bytes}
use borrow.Rule.Slice.PartMut.{put_mid}
use Rattle.isp_base.specs.Rows.{Row}
use Rattle.isp_base.specs.declared.types.Value.{Value}
use Rattle.isp_packed.specs.Packing.{packed_answer, packed_array, packed_result}

-- the list begins with f, and is otherwise as it was
abbrev pub Written : List ℕ → List ℕ → List ℕ → Type 0
Written f old now = now ≡ f ++ drop (length f) old

-- p in the place of k bytes after f
pub placed : (f p old now : List ℕ) (a k : ℕ) → length f ≡ a → length p ≡ k → Written f old now → put_mid a k now p ≡ (f ++ p) ++ drop (length (f ++ p)) old
placed f p old now a k here long before =
    let front : take a now ≡ f = ap (take a) before ∙ take_at f (drop (length f) old) a here in
    let last : drop a now ≡ drop (length f) old = ap (drop a) before ∙ drop_at f (drop (length f) old) a here in
    let both : length f + k ≡ length (f ++ p) = ap (λ (i : ℕ). length f + i) (sym long) ∙ sym (length-append f p) in
    let behind : drop k (drop a now) ≡ drop (length (f ++ p)) old = ap (drop k) last ∙ drop-drop k (length f) old ∙ ap (λ (i : ℕ). drop i old) both in
    ap₂ (λ (x y : List ℕ). x ++ (p ++ y)) front behind ∙ sym (append_assoc f p (drop (length (f ++ p)) old))

-- a write that begins with p, to all that is after f
pub appended : (f p old now part : List ℕ) (a k : ℕ) → a ≡ length f → Written f old now → part ≡ drop a now → length now ≤ a + k
    → put_mid a k now (p ++ drop (length p) part) ≡ (f ++ p) ++ drop (length (f ++ p)) old
appended f p old now part a k here before whole far =
    let front : take a now ≡ f = ap (take a) before ∙ take_at f (drop (length f) old) a (sym here) in
    let last : part ≡ drop (length f) old = whole ∙ ap (drop a) before ∙ drop_at f (drop (length f) old) a (sym here) in
    let behind : drop (length p) part ≡ drop (length (f ++ p)) old =
    ap (drop (length p)) last ∙ drop-drop (length p) (length f) old ∙ ap (λ (i : ℕ). drop i old) (sym (length-append f p)) in
    let none : drop k (drop a now) ≡ [] = drop-drop k a now ∙ drop_all (a + k) now far in
    ap₂ (λ (x y : List ℕ). x ++ (p ++ y ++ drop k (drop a now))) front behind
    ∙ ap (λ (z : List ℕ). f ++ (p ++ drop (length (f ++ p)) old ++ z)) none
    ∙ ap (λ (z : List ℕ). f ++ z) (append-nil (p ++ drop (length (f ++ p)) old))
    ∙ sym (append_assoc f p (drop (length (f ++ p)) old))

-- one array more
pub one_more : (rs : List Row) (i : ℕ) (a : Row) → i < length rs → a ≡ get_or rs i a → flat_map packed_array (take (i + 1) rs) ≡ flat_map packed_array (take i rs) ++ packed_array a
one_more rs i a less is =
    ap (flat_map packed_array) (take_more rs i a less ∙ ap (λ (x : Row). take i rs ++ x ∷ []) (sym is))
    ∙ flat_map-append packed_array (take i rs) (a ∷ [])
    ∙ ap (λ (l : List ℕ). flat_map packed_array (take i rs) ++ l) (append-nil (packed_array a))

-- the first arrays take no more room than all
pub first_bytes : (rs : List Row) (i : ℕ) → length (flat_map packed_array (take i rs)) ≤ length (flat_map packed_array rs)
first_bytes rs i =
    let parts : flat_map packed_array rs ≡ flat_map packed_array (take i rs) ++ flat_map packed_array (drop i rs) =
    ap (flat_map packed_array) (sym (take-append-drop i rs)) ∙ flat_map-append packed_array (take i rs) (drop i rs) in
    let whole = length-append (flat_map packed_array (take i rs)) (flat_map packed_array (drop i rs)) in
    omega (arith, ap length parts, whole)

-- the room that one array more takes
pub one_more_bytes : (rs : List Row) (i : ℕ) (a : Row) → i < length rs → a ≡ get_or rs i a
    → length (flat_map packed_array (take (i + 1) rs)) ≡ length (flat_map packed_array (take i rs)) + length (packed_array a)
one_more_bytes rs i a less is = ap length (one_more rs i a less is) ∙ length-append (flat_map packed_array (take i rs)) (packed_array a)

-- a number of one byte is that byte
pub one_bytes : (xs : List ℕ) → ((k : ℕ) → get_or xs k 0 < 256) → flat_map (little_bytes 1) xs ≡ xs
one_bytes [] small = refl
one_bytes (x ∷ xs) small = ap₂ (λ (y : ℕ) (ys : List ℕ). y ∷ ys) (mod-eq_of_lt (small 0)) (one_bytes xs (λ k. small (suc k)))

-- ---- how many bytes an answer takes

-- with one array more than the first i, no more than all
part_bytes : (rs : List Row) (r : Option Value) (i : ℕ) (a : Row) → i < length rs → a ≡ get_or rs i a
    → length (flat_map packed_array (take i rs)) + length (packed_array a) + length (packed_result r) ≤ length (packed_answer rs r)
part_bytes rs r i a less is =
    let more = one_more_bytes rs i a less is in
    let first = first_bytes rs (i + 1) in
    let whole = length-append (flat_map packed_array rs) (packed_result r) in
    omega (arith, more, first, whole)

pub array_too_long : (rs : List Row) (r : Option Value) (i : ℕ) (a : Row) → i < length rs → a ≡ get_or rs i a → 2 ^ 64 ≤ length (packed_array a) → 2 ^ 64 ≤ length (packed_answer rs r)
array_too_long rs r i a less is many = let part = part_bytes rs r i a less is in omega (arith, part, many)

pub answer_too_long : (rs : List Row) (r : Option Value) (i : ℕ) (a : Row) (w b : ℕ) → i < length rs → a ≡ get_or rs i a
    → w ≡ length (flat_map packed_array (take i rs)) + length (packed_result r) → b ≡ length (packed_array a) → (w + b < 2 ^ 64 → ⊥) → 2 ^ 64 ≤ length (packed_answer rs r)
answer_too_long rs r i a w b less is before one over =
    let part = part_bytes rs r i a less is in
    elim (cases_lt (w + b) (2 ^ 64)) [ inl few ↦ absurd (over few) | inr many ↦ omega (arith, part, before, one, many) ]

-- one array more has room after the first i
pub room_for_one : (rs : List Row) (i : ℕ) (a : Row) (end m n : ℕ) → i < length rs → a ≡ get_or rs i a → end ≡ length (flat_map packed_array (take i rs)) → m ≡ n
    → length (flat_map packed_array rs) ≤ n → length (packed_array a) ≤ m - end
room_for_one rs i a end m n less is here same room =
    let more = one_more_bytes rs i a less is in
    let first = first_bytes rs (i + 1) in
    omega (arith, more, first, here, same, room)
