-- What bytes hold are values of the parameters' types.
use Rattle.std.proofs.Common.{◌≡◌, ℕ, zero, suc, ◌*◌, ◌^◌, ◌<◌, ◌≤◌, List, [], ◌∷◌, length, take, drop, Bool, true, false, not, ◌&&◌, Result, Ok, Err, refl, sym, ap, ap₂, subst, ◌∙◌, ltb-true, ltb-false, eq-eqb, pow_pos, if◌then◌else◌}
use Rattle.std.specs.Prelude.{nat_lt}
use Rattle.byteorder.specs.Endian.{little_number}
use Rattle.isp_base.specs.Binding.{is_for}
use Rattle.isp_base.specs.Ranks.{rank, same_elem}
use Rattle.isp_base.specs.Rows.{Fit}
use Rattle.isp_base.specs.Values.{width}
use Rattle.isp_base.specs.declared.types.Elem.{Elem}
use Rattle.isp_base.specs.declared.types.Elem.TheVariants.{U64}
use Rattle.isp_base.specs.declared.signature.Parameter.{Parameter}
use Rattle.isp_base.specs.declared.signature.Argument.{Argument}
use Rattle.isp_base.specs.declared.signature.Argument.TheVariants.{Value as AValue, Array as AnArray}
use Rattle.isp_packed.specs.Packing.{longest, packed_argument, size, IsPackable, ArePackable}
use Rattle.isp_packed.specs.Unpacking.{then_of, in_range, element_of, elements_of, counted_of, array_of, value_of, argument_of, arguments_of, unpacked_of}
use Rattle.isp_packed.specs.declared.fault.PackedFault.{PackedFault}
use Rattle.isp_packed.specs.declared.fault.PackedFault.TheVariants.{Short, OutOfRange, TooLong}
use Rattle.isp_packed.specs.reader.Bulk.{numbers, EachFits}
use Rattle.isp_packed.proofs.Elements.{elements_ok}
use Rattle.isp_packed.proofs.Numbers.{numbers-take}

-- ---- what was done where the whole is Ok

pub then_ok : {A B : Type 0} (f : A → Result B PackedFault) (r : Result A PackedFault) (y : B) → then_of f r ≡ Ok y → (x : A) × (r ≡ Ok x) × (f x ≡ Ok y)
then_ok f (Ok a) y e = (a, refl, e)
then_ok f (Err z) y e = absurd (let x : ⊥ = cc in x)

pub unless_ok : {A : Type 0} (b : Bool) (z : PackedFault) (r : Result A PackedFault) (y : A) → (if b then Err z else r) ≡ Ok y → (b ≡ false) × (r ≡ Ok y)
unless_ok true z r y e = absurd (let x : ⊥ = cc in x)
unless_ok false z r y e = (refl, e)

pub when_ok : {A : Type 0} (b : Bool) (z : PackedFault) (r : Result A PackedFault) (y : A) → (if b then r else Err z) ≡ Ok y → (b ≡ true) × (r ≡ Ok y)
when_ok true z r y e = (refl, e)
when_ok false z r y e = absurd (let x : ⊥ = cc in x)

pub ok_same : {A : Type 0} (x y : A) → ◌≡◌ {A = Result A PackedFault} (Ok x) (Ok y) → x ≡ y
ok_same x y e = cc

-- ---- one element: it is the number in its bytes, which are there, and the type has it

pub record IsRead (n : ℕ) (t : Elem) (bs : List ℕ) (b : ℕ) : Type 0 where
  pub there : n ≤ length bs
  pub number : b ≡ little_number n bs
  pub fits : b < 2 ^ width t

pub element_read : (p e n : ℕ) (t : Elem) (bs : List ℕ) (b : ℕ) → element_of p e n t bs ≡ Ok b → IsRead n t bs b
element_read p e n t bs b found =
    let h = unless_ok (nat_lt (length bs) n) (Short p) (in_range p e t (little_number n bs)) b found in
    let k = when_ok (nat_lt (little_number n bs) (2 ^ width t)) (OutOfRange p e) (Ok (little_number n bs)) b h.1 in
    let same : little_number n bs ≡ b = ok_same (little_number n bs) b k.1 in
    record {
      there = ltb-false (length bs) n h.0;
      number = sym same;
      fits = subst (λ (x : ℕ). x < 2 ^ width t) same (ltb-true (little_number n bs) (2 ^ width t) k.0);
    }

-- ---- the elements

none_fits : (t : Elem) → Fit t []
none_fits t k = pow_pos (width t)

more_fits : (t : Elem) (x : ℕ) (xs : List ℕ) → x < 2 ^ width t → Fit t xs → Fit t (x ∷ xs)
more_fits t x xs h f zero = h
more_fits t x xs h f (suc k) = f k

-- they fit, and there are so many
pub elements_fit : (p e c n : ℕ) (t : Elem) (bs xs : List ℕ) → elements_of p e c n t bs ≡ Ok xs → Fit t xs × (length xs ≡ c)
elements_fit p e zero n t bs xs found =
    let same : [] ≡ xs = ok_same [] xs found in
    (subst (Fit t) same (none_fits t), ap length (sym same))
elements_fit p e (suc c) n t bs xs found =
    let h = then_ok (λ b. then_of (λ found. Ok (b ∷ found)) (elements_of p (suc e) c n t (drop n bs))) (element_of p e n t bs) xs found in
    let k = then_ok (λ found. Ok (h.0 ∷ found)) (elements_of p (suc e) c n t (drop n bs)) xs h.2 in
    let same : h.0 ∷ k.0 ≡ xs = ok_same (h.0 ∷ k.0) xs k.2 in
    let rest = elements_fit p (suc e) c n t (drop n bs) k.0 k.1 in
    let one = element_read p e n t bs h.0 h.1 in
    subst (λ (ys : List ℕ). Fit t ys × (length ys ≡ suc c)) same (more_fits t h.0 k.0 one.fits rest.0, ap (λ (i : ℕ). suc i) rest.1)

-- ---- one argument

-- an argument of a parameter: it has its kind and type, and can be packed
abbrev IsFound : Parameter → Argument → Type 0
IsFound q x = (is_for q x ≡ true) × IsPackable x

elem_self : (t : Elem) → same_elem t t ≡ true
elem_self t = eq-eqb (rank t) (rank t) refl

array_fits : (p : ℕ) (q : Parameter) → q.is_array ≡ true → (bs : List ℕ) (x : Argument) → array_of p q.elem bs ≡ Ok x → IsFound q x
array_fits p q kind bs x found =
    let t = q.elem in
    let h = then_ok (counted_of p t (drop 8 bs)) (element_of p 0 8 U64 bs) x found in
    let u = unless_ok (nat_lt longest h.0) (TooLong p) (then_of (λ xs. Ok (AnArray (record { elem = t; bits = xs }))) (elements_of p 0 h.0 (size t) t (drop 8 bs))) x h.2 in
    let k = then_ok (λ xs. Ok (AnArray (record { elem = t; bits = xs }))) (elements_of p 0 h.0 (size t) t (drop 8 bs)) x u.1 in
    let f = elements_fit p 0 h.0 (size t) t (drop 8 bs) k.0 k.1 in
    let few : h.0 ≤ longest = ltb-false longest h.0 u.0 in
    let short : length k.0 ≤ longest = subst (λ (i : ℕ). i ≤ longest) (sym f.1) few in
    subst (IsFound q) (ok_same (AnArray (record { elem = t; bits = k.0 })) x k.2) (ap₂ (λ (a b : Bool). a && b) kind (elem_self t), (f.0, short))

value_fits : (p : ℕ) (q : Parameter) → q.is_array ≡ false → (bs : List ℕ) (x : Argument) → value_of p q.elem bs ≡ Ok x → IsFound q x
value_fits p q kind bs x found =
    let t = q.elem in
    let h = then_ok (λ b. Ok (AValue (record { elem = t; bits = b }))) (element_of p 0 8 t bs) x found in
    let one = element_read p 0 8 t bs h.0 h.1 in
    subst (IsFound q) (ok_same (AValue (record { elem = t; bits = h.0 })) x h.2) (ap₂ (λ (a b : Bool). not a && b) kind (elem_self t), one.fits)

argument_fits : (p : ℕ) (q : Parameter) (bs : List ℕ) (x : Argument) → argument_of p q bs ≡ Ok x → IsFound q x
argument_fits p q bs x found = at q.is_array refl found
  where
    at : (b : Bool) → q.is_array ≡ b → (if b then array_of p q.elem bs else value_of p q.elem bs) ≡ Ok x → IsFound q x
    at true kind e = array_fits p q kind bs x e
    at false kind e = value_fits p q kind bs x e

-- ---- the whole list

one_more : (q : Parameter) (ps : List Parameter) (x : Argument) (xs : List Argument) → IsFound q x → ArePackable ps xs → ArePackable (q ∷ ps) (x ∷ xs)
one_more q ps x xs h b = record { kinds = ap₂ (λ (a c : Bool). a && c) h.0 b.kinds; each = (h.1, b.each) }

arguments_fit : (p : ℕ) (ps : List Parameter) (bs : List ℕ) (xs : List Argument) → arguments_of p ps bs ≡ Ok xs → ArePackable ps xs
arguments_fit p [] [] xs found = subst (ArePackable []) (ok_same [] xs found) (record { kinds = refl; each = tt })
arguments_fit p [] (b ∷ bs) xs found = absurd (let x : ⊥ = cc in x)
arguments_fit p (q ∷ ps) bs xs found =
    let h = then_ok (λ x. then_of (λ found. Ok (x ∷ found)) (arguments_of (suc p) ps (drop (length (packed_argument x)) bs))) (argument_of p q bs) xs found in
    let k = then_ok (λ found. Ok (h.0 ∷ found)) (arguments_of (suc p) ps (drop (length (packed_argument h.0)) bs)) xs h.2 in
    subst (ArePackable (q ∷ ps)) (ok_same (h.0 ∷ k.0) xs k.2)
    (one_more q ps h.0 k.0 (argument_fits p q bs h.0 h.1) (arguments_fit (suc p) ps (drop (length (packed_argument h.0)) bs) k.0 k.1))

pub unpacked_fits : (ps : List Parameter) (bs : List ℕ) (xs : List Argument) → unpacked_of ps bs ≡ Ok xs → ArePackable ps xs
unpacked_fits ps bs xs found = arguments_fit 0 ps bs xs found

-- what is held is what was read at once
pub elements_held : (p c : ℕ) (t : Elem) (bs own held : List ℕ) → EachFits (size t) t c bs → size t * c ≤ length bs → own ≡ take (size t * c) bs → held ≡ numbers (size t) c own
    → elements_of p 0 c (size t) t bs ≡ Ok held
elements_held p c t bs own held fits room part read =
    elements_ok p 0 c (size t) t bs fits room
    ∙ ap (λ (xs : List ℕ). let r : Result (List ℕ) PackedFault = Ok xs in r) (sym (read ∙ ap (numbers (size t) c) part ∙ numbers-take (size t) c bs))
