-- What was packed is unpacked as it was.
use Rattle.std.proofs.Common.{◌≡◌, ℕ, suc, ◌%◌, ◌^◌, ◌<◌, ◌≤◌, List, [], ◌∷◌, ◌++◌, length, drop, Bool, true, false, true≢false, not, ◌&&◌, Result, Ok, refl, sym, ap, subst, ◌∙◌, arith, append_assoc, drop_at, length-append, mod-eq_of_lt}
use Rattle.std.specs.List.{AllByRecursion, flat_map}
use Rattle.byteorder.specs.Endian.{little_bytes, little_number}
use Rattle.byteorder.specs.Numbers.{little_number-reads_back}
use Rattle.isp_base.specs.Binding.{is_for, has_signature}
use Rattle.isp_base.specs.Ranks.{same_elem}
use Rattle.isp_base.specs.Rows.{Row, Fit}
use Rattle.isp_base.specs.Values.{width}
use Rattle.isp_base.specs.declared.types.Elem.{Elem}
use Rattle.isp_base.specs.declared.types.Elem.TheVariants.{U64}
use Rattle.isp_base.specs.declared.types.Value.{Value}
use Rattle.isp_base.specs.declared.signature.Parameter.{Parameter}
use Rattle.isp_base.specs.declared.signature.Argument.{Argument}
use Rattle.isp_base.specs.declared.signature.Argument.TheVariants.{Value as AValue, Array as AnArray}
use Rattle.isp_base.proofs.Elems.{width_le}
use Rattle.isp_base.proofs.RankLaws.{same_is}
use Rattle.isp_packed.specs.Packing.{longest, size, word, packed_array, packed_value, packed_argument, packed_of, IsPackable, ArePackable}
use Rattle.isp_packed.specs.Unpacking.{then_of, element_of, elements_of, argument_of, arguments_of, unpacked_of}
use Rattle.isp_packed.specs.declared.fault.PackedFault.{PackedFault}
use Rattle.isp_packed.proofs.Elements.{element_ok, step_ok}
use Rattle.isp_packed.proofs.Found.{array_found, value_found}
use Rattle.isp_packed.proofs.Sizes.{length_little, length_word, width_fits}

-- ---- elements

element_back : (p e n : ℕ) (t : Elem) (b : ℕ) (rest : List ℕ) → b < 2 ^ width t → 2 ^ width t ≤ 256 ^ n → element_of p e n t (little_bytes n b ++ rest) ≡ Ok b
element_back p e n t b rest fits wide =
    let same : little_number n (little_bytes n b ++ rest) ≡ b = little_number-reads_back n b rest (omega arith) in
    let own = length_little n b in
    let whole = length-append (little_bytes n b) rest in
    element_ok p e n t (little_bytes n b ++ rest) (omega (arith, own, whole)) (subst (λ (x : ℕ). x < 2 ^ width t) (sym same) fits)
    ∙ ap (λ (x : ℕ). let r : Result ℕ PackedFault = Ok x in r) same

elements_back : (p e n : ℕ) (t : Elem) (xs rest : List ℕ) → Fit t xs → 2 ^ width t ≤ 256 ^ n → elements_of p e (length xs) n t (flat_map (little_bytes n) xs ++ rest) ≡ Ok xs
elements_back p e n t [] rest fits wide = refl
elements_back p e n t (x ∷ xs) rest fits wide =
    let one = little_bytes n x in
    let more = flat_map (little_bytes n) xs in
    let behind : drop n (one ++ (more ++ rest)) ≡ more ++ rest = drop_at one (more ++ rest) n (length_little n x) in
    ap (elements_of p e (suc (length xs)) n t) (append_assoc one more rest)
    ∙ step_ok p e (length xs) n t (one ++ (more ++ rest)) x xs (element_back p e n t x (more ++ rest) (fits 0) wide)
    (ap (elements_of p (suc e) (length xs) n t) behind ∙ elements_back p (suc e) n t xs rest (λ k. fits (suc k)) wide)

-- ---- one argument

both : (a b : Bool) → (a && b) ≡ true → (a ≡ true) × (b ≡ true)
both true b e = (refl, e)
both false b e = absurd (true≢false (sym e))

not_so : (b : Bool) → not b ≡ true → b ≡ false
not_so true e = absurd (true≢false (sym e))
not_so false e = refl

value_back : (p : ℕ) (q : Parameter) (v : Value) (rest : List ℕ) → q.is_array ≡ false → v.elem ≡ q.elem → v.bits < 2 ^ width v.elem
    → argument_of p q (packed_value v ++ rest) ≡ Ok (AValue v)
value_back p q v rest kind same fits =
    let low : v.bits % 2 ^ width v.elem ≡ v.bits = mod-eq_of_lt fits in
    let there : v.bits < 2 ^ width q.elem = subst (λ (u : Elem). v.bits < 2 ^ width u) same fits in
    let found : element_of p 0 8 q.elem (packed_value v ++ rest) ≡ Ok v.bits =
    ap (λ (x : ℕ). element_of p 0 8 q.elem (word x ++ rest)) low ∙ element_back p 0 8 q.elem v.bits rest there (width_le q.elem) in
    value_found p q (packed_value v ++ rest) v.bits kind found
    ∙ ap (λ (u : Elem). let r : Result Argument PackedFault = Ok (AValue (record { elem = u; bits = v.bits })) in r) (sym same)

array_back : (p : ℕ) (q : Parameter) (a : Row) (rest : List ℕ) → q.is_array ≡ true → a.elem ≡ q.elem → Fit a.elem a.bits → length a.bits ≤ longest
    → argument_of p q (packed_array a ++ rest) ≡ Ok (AnArray a)
array_back p q a rest kind same fits few =
    let n = length a.bits in
    let more = flat_map (little_bytes (size a.elem)) a.bits in
    let behind : drop 8 (word n ++ (more ++ rest)) ≡ more ++ rest = drop_at (word n) (more ++ rest) 8 (length_word n) in
    let count : element_of p 0 8 U64 (word n ++ (more ++ rest)) ≡ Ok n = element_back p 0 8 U64 n (more ++ rest) (many n few) (width_le U64) in
    let own : elements_of p 0 n (size a.elem) a.elem (more ++ rest) ≡ Ok a.bits = elements_back p 0 (size a.elem) a.elem a.bits rest fits (width_fits a.elem) in
    let found : elements_of p 0 n (size q.elem) q.elem (more ++ rest) ≡ Ok a.bits = subst (λ (u : Elem). elements_of p 0 n (size u) u (more ++ rest) ≡ Ok a.bits) same own in
    ap (argument_of p q) (append_assoc (word n) more rest)
    ∙ array_found p q (word n ++ (more ++ rest)) n a kind count few same (ap (elements_of p 0 n (size q.elem) q.elem) behind ∙ found)
  where
    many : (n : ℕ) → n ≤ longest → n < 2 ^ 64
    many n few = omega arith

argument_back : (p : ℕ) (q : Parameter) (x : Argument) (rest : List ℕ) → is_for q x ≡ true → IsPackable x → argument_of p q (packed_argument x ++ rest) ≡ Ok x
argument_back p q (AValue v) rest suits can =
    let h = both (not q.is_array) (same_elem v.elem q.elem) suits in
    value_back p q v rest (not_so q.is_array h.0) (same_is v.elem q.elem h.1) can
argument_back p q (AnArray a) rest suits can =
    let h = both q.is_array (same_elem a.elem q.elem) suits in
    array_back p q a rest h.0 (same_is a.elem q.elem h.1) can.0 can.1

-- ---- the whole list

list_step : (p : ℕ) (q : Parameter) (ps : List Parameter) (bs : List ℕ) (x : Argument) (xs : List Argument) → argument_of p q bs ≡ Ok x
    → arguments_of (suc p) ps (drop (length (packed_argument x)) bs) ≡ Ok xs → arguments_of p (q ∷ ps) bs ≡ Ok (x ∷ xs)
list_step p q ps bs x xs one rest =
    ap (then_of (λ y. then_of (λ found. Ok (y ∷ found)) (arguments_of (suc p) ps (drop (length (packed_argument y)) bs)))) one ∙ ap (then_of (λ found. Ok (x ∷ found))) rest

arguments_back : (p : ℕ) (ps : List Parameter) (xs : List Argument) → has_signature ps xs ≡ true → AllByRecursion IsPackable xs → arguments_of p ps (packed_of xs) ≡ Ok xs
arguments_back p [] [] kinds each = refl
arguments_back p [] (x ∷ xs) kinds each = absurd (true≢false (sym kinds))
arguments_back p (q ∷ ps) [] kinds each = absurd (true≢false (sym kinds))
arguments_back p (q ∷ ps) (x ∷ xs) kinds each =
    let h = both (is_for q x) (has_signature ps xs) kinds in
    let one = packed_argument x in
    let behind : drop (length one) (one ++ packed_of xs) ≡ packed_of xs = drop_at one (packed_of xs) (length one) refl in
    list_step p q ps (one ++ packed_of xs) x xs (argument_back p q x (packed_of xs) h.0 each.0) (ap (arguments_of (suc p) ps) behind ∙ arguments_back (suc p) ps xs h.1 each.1)

pub packed_back : (ps : List Parameter) (xs : List Argument) → ArePackable ps xs → unpacked_of ps (packed_of xs) ≡ Ok xs
packed_back ps xs can = arguments_back 0 ps xs can.kinds can.each
