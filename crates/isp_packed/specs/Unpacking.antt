-- What bytes hold for the parameters of a signature, or the first fault in the order of the bytes.
--     element_of p e n t bs    the value of type t that the first n bytes of bs hold: element e of parameter p
--     unpacked_of ps bs        one argument for each parameter, or the first fault
use Rattle.std.specs.Prelude.{ℕ, zero, suc, ◌^◌, List, [], ◌∷◌, length, drop, nat_lt, Result, Ok, Err, if◌then◌else◌}
use Rattle.byteorder.specs.Endian.{little_number}
use Rattle.isp_base.specs.Values.{width}
use Rattle.isp_base.specs.declared.types.Elem.{Elem}
use Rattle.isp_base.specs.declared.types.Elem.TheVariants.{U64}
use Rattle.isp_base.specs.declared.signature.Parameter.{Parameter}
use Rattle.isp_base.specs.declared.signature.Argument.{Argument}
use Rattle.isp_base.specs.declared.signature.Argument.TheVariants.{Value as AValue, Array as AnArray}
use Rattle.isp_packed.specs.Packing.{longest, packed_argument, size}
use Rattle.isp_packed.specs.declared.fault.PackedFault.{PackedFault}
use Rattle.isp_packed.specs.declared.fault.PackedFault.TheVariants.{Short, Long, OutOfRange, TooLong}

-- f of what was found, or the fault
abbrev pub then_of : {A B : Type 0} → (A → Result B PackedFault) → Result A PackedFault → Result B PackedFault
then_of f (Ok a) = f a
then_of f (Err e) = Err e

-- ---- one value

-- a number that the type has
abbrev pub in_range : ℕ → ℕ → Elem → ℕ → Result ℕ PackedFault
in_range p e t b = if nat_lt b (2 ^ width t) then Ok b else Err (OutOfRange p e)

abbrev pub element_of : ℕ → ℕ → ℕ → Elem → List ℕ → Result ℕ PackedFault
element_of p e n t bs = if nat_lt (length bs) n then Err (Short p) else in_range p e t (little_number n bs)

-- ---- one argument

-- the next c elements of an array, each in n bytes, from element e on
abbrev pub elements_of : ℕ → ℕ → ℕ → ℕ → Elem → List ℕ → Result (List ℕ) PackedFault
elements_of p e zero n t bs = Ok []
elements_of p e (suc c) n t bs =
    then_of (λ b. then_of (λ found. Ok (b ∷ found)) (elements_of p (suc e) c n t (drop n bs))) (element_of p e n t bs)

-- so many elements, where an array may have them
abbrev pub counted_of : ℕ → Elem → List ℕ → ℕ → Result Argument PackedFault
counted_of p t bs c = if nat_lt longest c then Err (TooLong p) else then_of (λ xs. Ok (AnArray (record { elem = t; bits = xs }))) (elements_of p 0 c (size t) t bs)

-- the number of elements, then the elements
abbrev pub array_of : ℕ → Elem → List ℕ → Result Argument PackedFault
array_of p t bs = then_of (counted_of p t (drop 8 bs)) (element_of p 0 8 U64 bs)

abbrev pub value_of : ℕ → Elem → List ℕ → Result Argument PackedFault
value_of p t bs = then_of (λ b. Ok (AValue (record { elem = t; bits = b }))) (element_of p 0 8 t bs)

abbrev pub argument_of : ℕ → Parameter → List ℕ → Result Argument PackedFault
argument_of p q bs = if q.is_array then array_of p q.elem bs else value_of p q.elem bs

-- ---- the whole list

-- from parameter p on: each argument begins after the bytes of the one before
abbrev pub arguments_of : ℕ → List Parameter → List ℕ → Result (List Argument) PackedFault
arguments_of p [] [] = Ok []
arguments_of p [] (b ∷ bs) = Err Long
arguments_of p (q ∷ qs) bs =
    then_of (λ x. then_of (λ found. Ok (x ∷ found)) (arguments_of (suc p) qs (drop (length (packed_argument x)) bs))) (argument_of p q bs)

abbrev pub unpacked_of : List Parameter → List ℕ → Result (List Argument) PackedFault
unpacked_of ps bs = arguments_of 0 ps bs
