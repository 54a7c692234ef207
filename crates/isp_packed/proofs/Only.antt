-- The bytes that are unpacked as some arguments are those that these are packed as.
use Rattle.std.proofs.Common.{◌≡◌, ℕ, zero, suc, ◌+◌, ◌*◌, ◌%◌, ◌^◌, ◌<◌, List, [], ◌∷◌, ◌++◌, length, take, drop, get_or, Bool, true, false, Ok, sym, ap, subst, ◌∙◌}
use Rattle.std.proofs.Common.{arith, append_assoc, drop-drop, length-append, take-append-drop, mul-zero, mod-eq_of_lt, if◌then◌else◌}
use Rattle.std.specs.Prelude.{nat_lt}
use Rattle.std.specs.List.{flat_map}
use Rattle.byteorder.specs.Endian.{little_bytes}
use Rattle.isp_base.specs.Values.{width}
use Rattle.isp_base.specs.declared.types.Elem.{Elem}
use Rattle.isp_base.specs.declared.types.Elem.TheVariants.{U64}
use Rattle.isp_base.specs.declared.signature.Parameter.{Parameter}
use Rattle.isp_base.specs.declared.signature.Argument.{Argument}
use Rattle.isp_base.specs.declared.signature.Argument.TheVariants.{Value as AValue, Array as AnArray}
use Rattle.isp_packed.specs.Packing.{longest, size, word, packed_argument, packed_of}
use Rattle.isp_packed.specs.Unpacking.{then_of, element_of, elements_of, counted_of, array_of, value_of, argument_of, arguments_of, unpacked_of}
use Rattle.isp_packed.specs.declared.fault.PackedFault.TheVariants.{TooLong}
use Rattle.isp_packed.proofs.Fits.{IsRead, element_read, elements_fit, ok_same, then_ok, unless_ok}
use Rattle.isp_packed.proofs.Numbers.{bytes_again, next_drop, small_drop}
use Rattle.isp_packed.proofs.Sizes.{length_elements, length_word}

-- a list of bytes
abbrev AreBytes : List ℕ → Type 0
AreBytes bs = (k : ℕ) → get_or bs k 0 < 256

-- ---- elements

read_again : (n : ℕ) (t : Elem) (bs : List ℕ) (b : ℕ) → AreBytes bs → IsRead n t bs b → little_bytes n b ≡ take n bs
read_again n t bs b small one = ap (little_bytes n) one.number ∙ bytes_again n bs one.there small

elements_only : (p e c n : ℕ) (t : Elem) (bs xs : List ℕ) → AreBytes bs → elements_of p e c n t bs ≡ Ok xs → flat_map (little_bytes n) xs ++ drop (n * c) bs ≡ bs
elements_only p e zero n t bs xs small found =
    let same : [] ≡ xs = ok_same [] xs found in
    subst (λ (ys : List ℕ). flat_map (little_bytes n) ys ++ drop (n * 0) bs ≡ bs) same (ap (λ (i : ℕ). drop i bs) (mul-zero n))
elements_only p e (suc c) n t bs xs small found =
    let h = then_ok (λ b. then_of (λ found. Ok (b ∷ found)) (elements_of p (suc e) c n t (drop n bs))) (element_of p e n t bs) xs found in
    let k = then_ok (λ found. Ok (h.0 ∷ found)) (elements_of p (suc e) c n t (drop n bs)) xs h.2 in
    let same : h.0 ∷ k.0 ≡ xs = ok_same (h.0 ∷ k.0) xs k.2 in
    let one : little_bytes n h.0 ≡ take n bs = read_again n t bs h.0 small (element_read p e n t bs h.0 h.1) in
    let rest = elements_only p (suc e) c n t (drop n bs) k.0 (small_drop n bs small) k.1 in
    let f = flat_map (little_bytes n) k.0 in
    let whole : (little_bytes n h.0 ++ f) ++ drop (n * suc c) bs ≡ bs =
    ap (λ (l : List ℕ). (little_bytes n h.0 ++ f) ++ l) (next_drop n c bs)
    ∙ append_assoc (little_bytes n h.0) f (drop (n * c) (drop n bs))
    ∙ ap (λ (l : List ℕ). little_bytes n h.0 ++ l) rest
    ∙ ap (λ (l : List ℕ). l ++ drop n bs) one
    ∙ take-append-drop n bs in
    subst (λ (ys : List ℕ). flat_map (little_bytes n) ys ++ drop (n * suc c) bs ≡ bs) same whole

-- ---- one argument

-- the bytes begin with those of the argument
abbrev Begins : List ℕ → Argument → Type 0
Begins bs x = packed_argument x ++ drop (length (packed_argument x)) bs ≡ bs

word_first : (w bs : List ℕ) → w ≡ take 8 bs → length w ≡ 8 → w ++ drop (length w) bs ≡ bs
word_first w bs first len = ap (λ (i : ℕ). w ++ drop i bs) len ∙ ap (λ (l : List ℕ). l ++ drop 8 bs) first ∙ take-append-drop 8 bs

both_first : (w f bs : List ℕ) (m : ℕ) → w ≡ take 8 bs → length w ≡ 8 → length f ≡ m → f ++ drop m (drop 8 bs) ≡ drop 8 bs → (w ++ f) ++ drop (length (w ++ f)) bs ≡ bs
both_first w f bs m first wide long rest =
    let len : length (w ++ f) ≡ 8 + m = length-append w f ∙ omega (arith, wide, long) in
    ap (λ (i : ℕ). (w ++ f) ++ drop i bs) len
    ∙ ap (λ (l : List ℕ). (w ++ f) ++ l) (sym (drop-drop m 8 bs))
    ∙ append_assoc w f (drop m (drop 8 bs))
    ∙ ap (λ (l : List ℕ). w ++ l) rest
    ∙ ap (λ (l : List ℕ). l ++ drop 8 bs) first
    ∙ take-append-drop 8 bs

value_only : (p : ℕ) (t : Elem) (bs : List ℕ) (x : Argument) → AreBytes bs → value_of p t bs ≡ Ok x → Begins bs x
value_only p t bs x small found =
    let h = then_ok (λ b. Ok (AValue (record { elem = t; bits = b }))) (element_of p 0 8 t bs) x found in
    let one = element_read p 0 8 t bs h.0 h.1 in
    let low : h.0 % 2 ^ width t ≡ h.0 = mod-eq_of_lt one.fits in
    let first : word (h.0 % 2 ^ width t) ≡ take 8 bs = ap word low ∙ read_again 8 t bs h.0 small one in
    subst (Begins bs) (ok_same (AValue (record { elem = t; bits = h.0 })) x h.2) (word_first (word (h.0 % 2 ^ width t)) bs first (length_word (h.0 % 2 ^ width t)))

array_only : (p : ℕ) (t : Elem) (bs : List ℕ) (x : Argument) → AreBytes bs → array_of p t bs ≡ Ok x → Begins bs x
array_only p t bs x small found =
    let h = then_ok (counted_of p t (drop 8 bs)) (element_of p 0 8 U64 bs) x found in
    let u = unless_ok (nat_lt longest h.0) (TooLong p) (then_of (λ xs. Ok (AnArray (record { elem = t; bits = xs }))) (elements_of p 0 h.0 (size t) t (drop 8 bs))) x h.2 in
    let k = then_ok (λ xs. Ok (AnArray (record { elem = t; bits = xs }))) (elements_of p 0 h.0 (size t) t (drop 8 bs)) x u.1 in
    let count : length k.0 ≡ h.0 = (elements_fit p 0 h.0 (size t) t (drop 8 bs) k.0 k.1).1 in
    let first : word (length k.0) ≡ take 8 bs = ap word count ∙ read_again 8 U64 bs h.0 small (element_read p 0 8 U64 bs h.0 h.1) in
    let rest = elements_only p 0 h.0 (size t) t (drop 8 bs) k.0 (small_drop 8 bs small) k.1 in
    let f = flat_map (little_bytes (size t)) k.0 in
    let long : length f ≡ size t * h.0 = length_elements (size t) k.0 ∙ ap (λ (i : ℕ). size t * i) count in
    subst (Begins bs) (ok_same (AnArray (record { elem = t; bits = k.0 })) x k.2) (both_first (word (length k.0)) f bs (size t * h.0) first (length_word (length k.0)) long rest)

argument_only : (p : ℕ) (q : Parameter) (bs : List ℕ) (x : Argument) → AreBytes bs → argument_of p q bs ≡ Ok x → Begins bs x
argument_only p q bs x small found = at q.is_array found
  where
    at : (b : Bool) → (if b then array_of p q.elem bs else value_of p q.elem bs) ≡ Ok x → Begins bs x
    at true e = array_only p q.elem bs x small e
    at false e = value_only p q.elem bs x small e

-- ---- the whole list

arguments_only : (p : ℕ) (ps : List Parameter) (bs : List ℕ) (xs : List Argument) → AreBytes bs → arguments_of p ps bs ≡ Ok xs → packed_of xs ≡ bs
arguments_only p [] [] xs small found = ap packed_of (sym (ok_same [] xs found))
arguments_only p [] (b ∷ bs) xs small found = absurd (let x : ⊥ = cc in x)
arguments_only p (q ∷ ps) bs xs small found =
    let h = then_ok (λ x. then_of (λ found. Ok (x ∷ found)) (arguments_of (suc p) ps (drop (length (packed_argument x)) bs))) (argument_of p q bs) xs found in
    let n = length (packed_argument h.0) in
    let k = then_ok (λ found. Ok (h.0 ∷ found)) (arguments_of (suc p) ps (drop n bs)) xs h.2 in
    let rest = arguments_only (suc p) ps (drop n bs) k.0 (small_drop n bs small) k.1 in
    ap packed_of (sym (ok_same (h.0 ∷ k.0) xs k.2)) ∙ ap (λ (l : List ℕ). packed_argument h.0 ++ l) rest ∙ argument_only p q bs h.0 small h.1

pub packed_only : (ps : List Parameter) (bs : List ℕ) (xs : List Argument) → AreBytes bs → unpacked_of ps bs ≡ Ok xs → packed_of xs ≡ bs
packed_only ps bs xs small found = arguments_only 0 ps bs xs small found
