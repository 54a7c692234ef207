-- What bytes hold for a parameter, and for a list of parameters, from their parts.
use Rattle.std.proofs.Common.{◌≡◌, ℕ, suc, ◌+◌, ◌<◌, ◌≤◌, List, [], ◌∷◌, ◌++◌, length, drop, get_or, true, false, Result, Ok, Err, refl, sym, ap, ◌∙◌, append_assoc, append-nil, add-one, arith, drop-cons, lt-ltb, le-ltb}
use Rattle.std.specs.Prelude.{nat_lt}
use Rattle.std.proofs.lemmas.List.{drop_all}
use Rattle.isp_base.specs.Rows.{Row}
use Rattle.isp_base.specs.declared.types.Elem.{Elem}
use Rattle.isp_base.specs.declared.types.Elem.TheVariants.{U64}
use Rattle.isp_base.specs.declared.signature.Parameter.{Parameter}
use Rattle.isp_base.specs.declared.signature.Argument.{Argument}
use Rattle.isp_base.specs.declared.signature.Argument.TheVariants.{Value as AValue, Array as AnArray}
use Rattle.isp_packed.specs.Packing.{longest, packed_argument, size}
use Rattle.isp_packed.specs.Unpacking.{then_of, element_of, elements_of, counted_of, array_of, value_of, argument_of, arguments_of}
use Rattle.isp_packed.specs.declared.fault.PackedFault.{PackedFault}
use Rattle.isp_packed.specs.declared.fault.PackedFault.TheVariants.{Long, TooLong}
use Rattle.isp_packed.proofs.Elements.{when_true, when_false}

-- ---- one argument

at_array : (p : ℕ) (q : Parameter) (bs : List ℕ) → q.is_array ≡ true → argument_of p q bs ≡ array_of p q.elem bs
at_array p q bs kind = when_true q.is_array (array_of p q.elem bs) (value_of p q.elem bs) kind

at_value : (p : ℕ) (q : Parameter) (bs : List ℕ) → q.is_array ≡ false → argument_of p q bs ≡ value_of p q.elem bs
at_value p q bs kind = when_false q.is_array (array_of p q.elem bs) (value_of p q.elem bs) kind

counted : (p : ℕ) (t : Elem) (bs : List ℕ) (c : ℕ) → element_of p 0 8 U64 bs ≡ Ok c → array_of p t bs ≡ counted_of p t (drop 8 bs) c
counted p t bs c count = ap (then_of (counted_of p t (drop 8 bs))) count

not_long : (p : ℕ) (t : Elem) (bs : List ℕ) (c : ℕ) → c ≤ longest
    → counted_of p t bs c ≡ then_of (λ xs. Ok (AnArray (record { elem = t; bits = xs }))) (elements_of p 0 c (size t) t bs)
not_long p t bs c few = when_false (nat_lt longest c) _ _ (le-ltb longest c few)

pub value_found : (p : ℕ) (q : Parameter) (bs : List ℕ) (b : ℕ) → q.is_array ≡ false → element_of p 0 8 q.elem bs ≡ Ok b
    → argument_of p q bs ≡ Ok (AValue (record { elem = q.elem; bits = b }))
value_found p q bs b kind e = at_value p q bs kind ∙ ap (then_of (λ x. Ok (AValue (record { elem = q.elem; bits = x })))) e

pub value_not : (p : ℕ) (q : Parameter) (bs : List ℕ) (z : PackedFault) → q.is_array ≡ false → element_of p 0 8 q.elem bs ≡ Err z → argument_of p q bs ≡ Err z
value_not p q bs z kind e = at_value p q bs kind ∙ ap (then_of (λ x. Ok (AValue (record { elem = q.elem; bits = x })))) e

pub array_found : (p : ℕ) (q : Parameter) (bs : List ℕ) (c : ℕ) (a : Row) → q.is_array ≡ true → element_of p 0 8 U64 bs ≡ Ok c → c ≤ longest → a.elem ≡ q.elem
    → elements_of p 0 c (size q.elem) q.elem (drop 8 bs) ≡ Ok a.bits → argument_of p q bs ≡ Ok (AnArray a)
array_found p q bs c a kind count few same found =
    at_array p q bs kind
    ∙ counted p q.elem bs c count
    ∙ not_long p q.elem (drop 8 bs) c few
    ∙ ap (then_of (λ xs. Ok (AnArray (record { elem = q.elem; bits = xs })))) found
    ∙ ap (λ (u : Elem). let r : Result Argument PackedFault = Ok (AnArray (record { elem = u; bits = a.bits })) in r) (sym same)

pub array_uncounted : (p : ℕ) (q : Parameter) (bs : List ℕ) (z : PackedFault) → q.is_array ≡ true → element_of p 0 8 U64 bs ≡ Err z → argument_of p q bs ≡ Err z
array_uncounted p q bs z kind count = at_array p q bs kind ∙ ap (then_of (counted_of p q.elem (drop 8 bs))) count

pub array_long : (p : ℕ) (q : Parameter) (bs : List ℕ) (c : ℕ) → q.is_array ≡ true → element_of p 0 8 U64 bs ≡ Ok c → longest < c → argument_of p q bs ≡ Err (TooLong p)
array_long p q bs c kind count many =
    at_array p q bs kind ∙ counted p q.elem bs c count ∙ when_true (nat_lt longest c) _ _ (lt-ltb longest c many)

pub array_not : (p : ℕ) (q : Parameter) (bs : List ℕ) (c : ℕ) (z : PackedFault) → q.is_array ≡ true → element_of p 0 8 U64 bs ≡ Ok c → c ≤ longest
    → elements_of p 0 c (size q.elem) q.elem (drop 8 bs) ≡ Err z → argument_of p q bs ≡ Err z
array_not p q bs c z kind count few fault =
    at_array p q bs kind
    ∙ counted p q.elem bs c count
    ∙ not_long p q.elem (drop 8 bs) c few
    ∙ ap (then_of (λ xs. Ok (AnArray (record { elem = q.elem; bits = xs })))) fault

-- ---- a list of arguments

-- what was done in front of what is still to come
abbrev pub with_done : List Argument → Result (List Argument) PackedFault → Result (List Argument) PackedFault
with_done done rest = then_of (λ found. Ok (done ++ found)) rest

none_done : (r : Result (List Argument) PackedFault) → with_done [] r ≡ r
none_done (Ok xs) = refl
none_done (Err z) = refl

pub done_start : (ps : List Parameter) (bs : List ℕ) → arguments_of 0 ps bs ≡ with_done [] (arguments_of 0 ps bs)
done_start ps bs = sym (none_done (arguments_of 0 ps bs))

more_done : (done : List Argument) (x : Argument) (r : Result (List Argument) PackedFault)
    → with_done done (then_of (λ found. Ok (x ∷ found)) r) ≡ with_done (done ++ x ∷ []) r
more_done done x (Ok xs) = ap (λ (ys : List Argument). let r : Result (List Argument) PackedFault = Ok ys in r) (sym (append_assoc done (x ∷ []) xs))
more_done done x (Err z) = refl

-- the parameter at place i is the first that is left
left_at : (ps : List Parameter) (i : ℕ) (q : Parameter) → i < length ps → q ≡ get_or ps i q → drop i ps ≡ q ∷ drop (suc i) ps
left_at ps i q less is = drop-cons ps i q less ∙ ap (λ (x : Parameter). x ∷ drop (suc i) ps) (sym is)

-- one more argument is found
pub done_step : (all : Result (List Argument) PackedFault) (ps : List Parameter) (i : ℕ) (q : Parameter) (bs after : List ℕ) (done : List Argument) (x : Argument)
    → i < length ps → q ≡ get_or ps i q → argument_of i q bs ≡ Ok x → after ≡ drop (length (packed_argument x)) bs
    → all ≡ with_done done (arguments_of i (drop i ps) bs) → all ≡ with_done (done ++ x ∷ []) (arguments_of (i + 1) (drop (i + 1) ps) after)
done_step all ps i q bs after done x less is found behind before =
    before
    ∙ ap (λ (qs : List Parameter). with_done done (arguments_of i qs bs)) (left_at ps i q less is)
    ∙ ap (λ (r : Result Argument PackedFault). with_done done (then_of (λ y. then_of (λ ys. Ok (y ∷ ys)) (arguments_of (suc i) (drop (suc i) ps) (drop (length (packed_argument y)) bs))) r)) found
    ∙ ap (λ (l : List ℕ). with_done done (then_of (λ ys. Ok (x ∷ ys)) (arguments_of (suc i) (drop (suc i) ps) l))) (sym behind)
    ∙ more_done done x (arguments_of (suc i) (drop (suc i) ps) after)
    ∙ ap (λ (k : ℕ). with_done (done ++ x ∷ []) (arguments_of k (drop k ps) after)) (sym (add-one i))

-- an argument is not found
pub done_not : (all : Result (List Argument) PackedFault) (ps : List Parameter) (i : ℕ) (q : Parameter) (bs : List ℕ) (done : List Argument) (z : PackedFault)
    → i < length ps → q ≡ get_or ps i q → argument_of i q bs ≡ Err z
    → all ≡ with_done done (arguments_of i (drop i ps) bs) → all ≡ Err z
done_not all ps i q bs done z less is fault before =
    before
    ∙ ap (λ (qs : List Parameter). with_done done (arguments_of i qs bs)) (left_at ps i q less is)
    ∙ ap (λ (r : Result Argument PackedFault). with_done done (then_of (λ y. then_of (λ ys. Ok (y ∷ ys)) (arguments_of (suc i) (drop (suc i) ps) (drop (length (packed_argument y)) bs))) r)) fault

-- all are found, and no byte is left
pub done_whole : (all : Result (List Argument) PackedFault) (ps : List Parameter) (i : ℕ) (bs : List ℕ) (done : List Argument)
    → length ps ≤ i → length bs ≡ 0 → all ≡ with_done done (arguments_of i (drop i ps) bs) → all ≡ Ok done
done_whole all ps i [] done end none before =
    before
    ∙ ap (λ (qs : List Parameter). with_done done (arguments_of i qs [])) (drop_all i ps end)
    ∙ ap (λ (ys : List Argument). let r : Result (List Argument) PackedFault = Ok ys in r) (append-nil done)
done_whole all ps i (b ∷ bs) done end none before = absurd (let no : ⊥ = omega arith in no)

-- all are found, and a byte is left
pub done_long : (all : Result (List Argument) PackedFault) (ps : List Parameter) (i : ℕ) (bs : List ℕ) (done : List Argument)
    → length ps ≤ i → 0 < length bs → all ≡ with_done done (arguments_of i (drop i ps) bs) → all ≡ Err Long
done_long all ps i [] done end some before = absurd (let no : ⊥ = omega arith in no)
done_long all ps i (b ∷ bs) done end some before = before ∙ ap (λ (qs : List Parameter). with_done done (arguments_of i qs (b ∷ bs))) (drop_all i ps end)
