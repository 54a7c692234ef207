-- What the words of a type say.
use Rattle.std.specs.Prelude.{List, Bool, true, false, ◌&&◌, ◌||◌, not, if◌then◌else◌, nat_lt, count_by, Option, Some, None, Result, Ok, Err}
use Rattle.std.specs.List.{list_any}
use Rattle.isp_base.specs.declared.types.Elem.{Elem}
use Rattle.isp_base.specs.declared.types.Elem.TheVariants.{Bool as Truth, I8, U8, I16, U16, I32, U32, I64, U64}
use Rattle.isp_base.specs.declared.types.Rate.{Rate}
use Rattle.isp_base.specs.declared.types.Rate.TheVariants.{Uniform, Varying}
use Rattle.isp_base.specs.declared.types.Ty.{Ty}
use Rattle.isp_lex.specs.declared.fault.Fault.{Fault}
use Rattle.isp_lex.specs.declared.fault.Rule.TheVariants.{Mismatch}
use Rattle.isp_lex.specs.Faults.{fault}
use Rattle.isp_tree.specs.declared.types.Qualifier.{Qualifier}
use Rattle.isp_tree.specs.declared.types.Qualifier.TheVariants as word
use Rattle.isp_tree.specs.declared.types.Base.{Base}
use Rattle.isp_tree.specs.declared.types.Base.TheVariants as base
use Rattle.isp_tree.specs.Tree.{TypeTree}
use Rattle.isp_typed.specs.Typed.{ty_of}
use Rattle.isp_exprs.specs.declared.words.Said.{Said}
use Rattle.isp_exprs.specs.declared.words.ValueWords.{ValueWords}

abbrev pub same_word : Qualifier → Qualifier → Bool
same_word word.Const word.Const = true
same_word word.Uniform word.Uniform = true
same_word word.Varying word.Varying = true
same_word word.Signed word.Signed = true
same_word word.Unsigned word.Unsigned = true
same_word p q = false

-- the base that `signed` and `unsigned` may stand before
abbrev pub takes_sign : Base → Bool
takes_sign base.Int = true
takes_sign base.Int8 = true
takes_sign base.Int16 = true
takes_sign base.Int32 = true
takes_sign base.Int64 = true
takes_sign b = false

abbrev pub is_void : Base → Bool
is_void base.Void = true
is_void b = false

-- the words before the base
module _ (words : List Qualifier) where
  abbrev pub stands : Qualifier → Bool
  stands q = list_any (same_word q) words

  abbrev pub stands_twice : Qualifier → Bool
  stands_twice q = nat_lt 1 (count_by (same_word q) words)

  abbrev pub has_rate : Bool
  has_rate = stands word.Uniform || stands word.Varying

  abbrev pub has_sign : Bool
  has_sign = stands word.Signed || stands word.Unsigned

  -- a word stands twice
  abbrev pub repeats : Bool
  repeats = (stands_twice word.Const || stands_twice word.Uniform || stands_twice word.Varying) || (stands_twice word.Signed || stands_twice word.Unsigned)

  -- two words exclude each other
  abbrev pub excludes : Bool
  excludes = (stands word.Uniform && stands word.Varying) || (stands word.Signed && stands word.Unsigned)

  -- a sign stands before a base without one, or a rate before `void`
  abbrev pub misfits : Option Base → Bool
  misfits None = false
  misfits (Some b) = (has_sign && not (takes_sign b)) || (has_rate && is_void b)

  abbrev pub rate_said : Option Rate
  rate_said = if stands word.Uniform then Some Uniform else (if stands word.Varying then Some Varying else None)

-- the values that a base names; `void` has none
abbrev pub base_elem : Base → Option Elem
base_elem base.Void = None
base_elem base.Bool = Some Truth
base_elem base.Int = Some I32
base_elem base.Int8 = Some I8
base_elem base.Int16 = Some I16
base_elem base.Int32 = Some I32
base_elem base.Int64 = Some I64
base_elem base.Uint = Some U32
base_elem base.Uint8 = Some U8
base_elem base.Uint16 = Some U16
base_elem base.Uint32 = Some U32
base_elem base.Uint64 = Some U64

-- the same after `unsigned`
abbrev pub unsigned_elem : Base → Option Elem
unsigned_elem base.Int8 = Some U8
unsigned_elem base.Int16 = Some U16
unsigned_elem base.Int64 = Some U64
unsigned_elem b = Some U32

-- without a base it is int32
abbrev pub elem_said : Bool → Option Base → Option Elem
elem_said true None = Some U32
elem_said false None = Some I32
elem_said true (Some b) = unsigned_elem b
elem_said false (Some b) = base_elem b

abbrev pub contradicts : TypeTree → Bool
contradicts t = repeats t.qualifiers || excludes t.qualifiers || misfits t.qualifiers t.base

-- what words say that do not contradict each other
abbrev pub said : TypeTree → Result Said Fault
said t = if contradicts t then Err (fault Mismatch t.span)
    else Ok (record { constant = stands t.qualifiers word.Const; rate = rate_said t.qualifiers; elem = elem_said (stands t.qualifiers word.Unsigned) t.base })

-- without a word for it, it is varying
abbrev pub rate_or_varying : Option Rate → Rate
rate_or_varying None = Varying
rate_or_varying (Some r) = r

-- the words of a value's type: not `void`
abbrev pub value_said : TypeTree → Result ValueWords Fault
value_said t = of_value (said t)
  where
    of_elem : Said → Option Elem → Result ValueWords Fault
    of_elem w None = Err (fault Mismatch t.span)
    of_elem w (Some e) = Ok (record { constant = w.constant; rate = w.rate; elem = e })

    of_value : Result Said Fault → Result ValueWords Fault
    of_value (Err f) = Err f
    of_value (Ok w) = of_elem w w.elem

-- the type of a declared variable, and of a result, where there is one
abbrev pub type_declared : ValueWords → Ty
type_declared w = ty_of (rate_or_varying w.rate) w.elem

abbrev pub answer_said : TypeTree → Result (Option Ty) Fault
answer_said t = of_answer (said t)
  where
    of_elem : Said → Option Elem → Option Ty
    of_elem w None = None
    of_elem w (Some e) = Some (ty_of (rate_or_varying w.rate) e)

    of_answer : Result Said Fault → Result (Option Ty) Fault
    of_answer (Err f) = Err f
    of_answer (Ok w) = Ok (of_elem w w.elem)
