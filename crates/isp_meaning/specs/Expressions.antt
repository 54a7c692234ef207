-- What an expression gives over a set of instances that is not empty. Each node that is reached counts for the work
-- before its parts; a conversion is no node.
use Rattle.std.specs.Prelude.{ℕ, ◌%◌, ◌^◌, List, [], ◌∷◌, Bool, if◌then◌else◌, ℤ, pos, unsigned_abs}
use Rattle.isp_base.specs.Access.{is_zero, scatter}
use Rattle.isp_base.specs.Cross.{rank, packed_index, packed_outside, packed_places}
use Rattle.isp_base.specs.Sets.{Mask, lowest}
use Rattle.isp_base.specs.Maps.{on, where_true, put}
use Rattle.isp_base.specs.Unary.{unary_bits}
use Rattle.isp_base.specs.Values.{width, number, op_bits, compare_bits}
use Rattle.isp_base.specs.declared.types.Rate.TheVariants.{Varying}
use Rattle.isp_base.specs.declared.types.Span.{Span}
use Rattle.isp_base.specs.declared.trap.TrapKind.TheVariants.{Divide, Index}
use Rattle.isp_typed.specs.Typed.{TExpr, t_constant, t_program_index, t_place, t_convert, t_cast, t_unary, t_binary, t_compare, t_logic, t_choose, t_call, t_library}
use Rattle.isp_typed.specs.Typed.{t_packed_store, t_packed_load, TPlace, t_variable, t_element, TBase, t_whole, t_from, TArgument, t_by_value, t_by_name, TCall, t_called}
use Rattle.isp_typed.specs.Typed.{TArguments, t_no_arguments, t_argument_then, TExprs, t_no_exprs, t_expr_then, type_of, place_span}
use Rattle.isp_typed.specs.declared.variable.ArrayVariable.{ArrayVariable}
use Rattle.isp_typed.specs.declared.variable.Logic.{Logic}
use Rattle.isp_typed.specs.declared.variable.Logic.TheVariants.{And, Or}
use Rattle.isp_meaning.specs.State.{State, Frame, tick, extent}
use Rattle.isp_meaning.specs.Payloads.{Payload, One, Each, is_true, is_false, sole, spread, mapped, joined, converted, kept_by, layer, selected, offender}
use Rattle.isp_meaning.specs.Outcomes.{Val, Gives, bind, checked, value_unless_empty}
use Rattle.isp_meaning.specs.Places.{Place, Variable, Element, outside, held, written}
use Rattle.isp_meaning.specs.Library.{library_value, argument}

-- what is handed to a call: a value, or an array by its store
pub data Passed : Type 0 where
  Values : Payload → Passed
  Store : ℕ → Passed

-- what a call gives: of a function by its number, at a place in the text, by a set of instances, with what is handed
-- over, from a caller's frame
abbrev pub Calls : Type 0
Calls = ℕ → Span → Mask → List Passed → Frame → State → Val Payload

-- ---- `&&` and `||`

-- the left values for which the right operand is needed
abbrev pub needs : Logic → ℕ → Bool
needs And x = is_true x
needs Or x = is_false x

-- the right value n where it was needed, else the left value
abbrev pub settled : Logic → Mask → Payload → Payload → Payload
settled l a (One x) n = if needs l x then n else One x
settled l a (Each x) n = Each (layer (spread (where_true (needs l) x) n) x)

-- ---- packed calls: the members of a set and consecutive elements, from the whole number z on

abbrev pub base_array : TBase → ArrayVariable
base_array (t_whole b s) = b
base_array (t_from b i s) = b

-- the elements of a store there, and the state once they are stored
abbrev pub packed_held : ℕ → ℤ → Mask → State → Payload
packed_held b z a s = Each (on a (λ p. s.arrays b (unsigned_abs (packed_index z a p))))

abbrev pub packed_kept : ℕ → ℕ → ℤ → Mask → Payload → State → State
packed_kept gang b z a x s = record s { arrays = put s.arrays b (scatter gang (packed_places z a) (spread a x) (s.arrays b)) }

module _ (gang : ℕ) (frame : Frame) (calls : Calls) where
  abbrev mutual
    pub value : TExpr → Mask → State → Val Payload
    value (t_constant v sp) a s = Gives (One (v.bits % 2 ^ width v.elem)) (tick s)
    value (t_program_index sp) a s = Gives (Each (on a (λ p. p))) (tick s)
    value (t_place p) a s =
        bind (place p a s) (λ q s1. checked (outside gang frame q a) Index (place_span p) s1 (held gang frame q a s1))
    value (t_convert e x) a s = bind (value x a s) (λ m s1. Gives (mapped (converted (type_of x).elem e) m) s1)
    value (t_cast x t sp) a s = value x a (tick s)
    value (t_unary op x t sp) a s = bind (value x a (tick s)) (λ m s1. Gives (mapped (unary_bits op t.elem) m) s1)
    -- the operands from left to right
    value (t_binary op x y t sp) a s =
        bind (value x a (tick s)) (λ m s1.
        bind (value y a s1) (λ n s2.
        checked (offender gang (is_zero op t.elem) a n) Divide sp s2 (joined (op_bits op t.elem) a m n)))
    value (t_compare c x y r sp) a s =
        bind (value x a (tick s)) (λ m s1.
        bind (value y a s1) (λ n s2.
        Gives (joined (compare_bits c (type_of x).elem) a m n) s2))
    -- a later operand over the members that need it, if there are any
    value (t_logic l x y r sp) a s =
        bind (value x a (tick s)) (λ m s1.
        bind (value_unless_empty gang (kept_by (needs l) a m) s1 (value y)) (λ n s2.
        Gives (settled l a m n) s2))
    value (t_choose c x y t sp) a s =
        bind (value c a (tick s)) (λ k s1.
        bind (value_unless_empty gang (kept_by is_true a k) s1 (value x)) (λ m s2.
        bind (value_unless_empty gang (kept_by is_false a k) s2 (value y)) (λ n s3.
        Gives (selected a k m n) s3)))
    value (t_call c t) a s = call c a s
    value (t_library f e xs t sp) a s =
        bind (values xs a (tick s)) (λ ms s1. Gives (library_value gang e a f (argument ms 0) (argument ms 1) (argument ms 2)) s1)
    -- the base's index, the value or the variable, then the access
    value (t_packed_store b x sp) a s =
        bind (first_element b a (tick s)) (λ z s1.
        bind (value x a s1) (λ m s2.
        bind (checked (lowest gang (packed_outside (extent frame (base_array b)) z a)) Index sp s2 m) (λ n s3.
        Gives (One (rank a gang)) (packed_kept gang (frame.named (base_array b).number) z a n s3))))
    value (t_packed_load b v sp) a s =
        bind (first_element b a (tick s)) (λ z s1.
        bind (checked (lowest gang (packed_outside (extent frame (base_array b)) z a)) Index sp (tick s1) (packed_held (frame.named (base_array b).number) z a s1)) (λ n s2.
        Gives (One (rank a gang)) (written Varying v a n s2)))

    -- the place is known once its index is
    pub place : TPlace → Mask → State → Val Place
    place (t_variable v t sp) a s = Gives (Variable v t) (tick s)
    place (t_element b i t sp) a s = bind (value i a (tick s)) (λ m s1. Gives (Element b (type_of i).elem m) s1)

    -- the whole number of the element with which a packed call begins
    pub first_element : TBase → Mask → State → Val ℤ
    first_element (t_whole b sp) a s = Gives (pos 0) (tick s)
    first_element (t_from b i sp) a s = bind (value i a (tick s)) (λ m s1. Gives (number (type_of i).elem (sole m)) s1)

    pub values : TExprs → Mask → State → Val (List Payload)
    values t_no_exprs a s = Gives [] s
    values (t_expr_then x xs) a s =
        bind (value x a s) (λ m s1.
        bind (values xs a s1) (λ ms s2.
        Gives (m ∷ ms) s2))

    -- the arguments from left to right, then the call
    pub call : TCall → Mask → State → Val Payload
    call (t_called f xs sp) a s = bind (arguments xs a (tick s)) (λ ps s1. calls f sp a ps frame s1)

    pub arguments : TArguments → Mask → State → Val (List Passed)
    arguments t_no_arguments a s = Gives [] s
    arguments (t_argument_then x xs) a s =
        bind (passed x a s) (λ m s1.
        bind (arguments xs a s1) (λ ms s2.
        Gives (m ∷ ms) s2))

    pub passed : TArgument → Mask → State → Val Passed
    passed (t_by_value x) a s = bind (value x a s) (λ m s1. Gives (Values m) s1)
    passed (t_by_name b sp) a s = Gives (Store (frame.named b.number)) (tick s)
