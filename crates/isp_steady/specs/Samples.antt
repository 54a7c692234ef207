-- Small expressions and programs that show where the definitions draw their lines, and why there. What runs leave was worked
-- out by hand from what the source says. Variables hold int32, the gang has four instances, and places in the text are left out.
use Rattle.std.specs.Prelude.{◌≡◌, ℕ, ◌^◌, ◌-◌, List, [], ◌∷◌, Some, None, true, false, codes}
use Rattle.isp_base.specs.Access.{element}
use Rattle.isp_base.specs.Outcomes.{Ends, Outcome}
use Rattle.isp_base.specs.Values.{number}
use Rattle.isp_base.specs.declared.operators.BinOp.{BinOp}
use Rattle.isp_base.specs.declared.operators.BinOp.TheVariants.{Add, Sub, Mul}
use Rattle.isp_base.specs.declared.signature.Argument.TheVariants.{Array as AnArray}
use Rattle.isp_base.specs.declared.types.Elem.TheVariants.{Bool as Truth, U8, I32, U32, I64}
use Rattle.isp_base.specs.declared.types.Gang.TheVariants.{W4}
use Rattle.isp_base.specs.declared.types.Rate.{Rate}
use Rattle.isp_base.specs.declared.types.Rate.TheVariants.{Uniform, Varying}
use Rattle.isp_base.specs.declared.types.Span.{Span}
use Rattle.isp_base.specs.declared.types.Ty.{Ty}
use Rattle.isp_typed.specs.Indices.{foreach_index}
use Rattle.isp_typed.specs.Typed.{TExpr, t_constant, t_program_index, t_place, t_convert, t_binary, t_call, t_library, t_packed_load, TPlace, t_variable, t_element, t_whole, t_called, t_arguments, t_exprs}
use Rattle.isp_typed.specs.Typed.{ty_of, rate_of, rate_or, t_with_value, t_assign, TStmt, t_block, t_declare, t_simple, t_foreach, t_unmasked, t_return, t_braces, t_stmts, TFunction}
use Rattle.isp_typed.specs.declared.library.Library.TheVariants as library
use Rattle.isp_typed.specs.declared.variable.ArrayVariable.{ArrayVariable}
use Rattle.isp_typed.specs.declared.variable.Holds.TheVariants.{Value as AVariable, Given}
use Rattle.isp_meaning.specs.Payloads.{converted}
use Rattle.isp_meaning.specs.Runs.{run_of}
use Rattle.isp_steady.specs.Known.{Known, Unknown, Steady, counted_on}
use Rattle.isp_steady.specs.Steady.{steady}
use Rattle.isp_steady.specs.Linear.{linear}
use Rattle.isp_steady.specs.Alone.{alone}
use Rattle.isp_steady.specs.Rows.{has_room}
use Rattle.isp_steady.specs.Assigns.{all_assign}
use Rattle.isp_steady.specs.Indices.{known_indices}
use Rattle.isp_steady.specs.Declared.{behind}

-- ---- words

abbrev pub at : Span
at = record { start = 0; end = 1 }

abbrev pub int : Rate → Ty
int r = ty_of r I32

abbrev pub whole : ℕ → TExpr
whole n = t_constant (record { elem = I32; bits = n }) at

abbrev pub read : Rate → ℕ → TExpr
read r v = t_place (t_variable v (int r) at)

abbrev pub join : BinOp → TExpr → TExpr → TExpr
join o x y = t_binary o x y (int (rate_or (rate_of x) (rate_of y))) at

-- an array, and its element at an index
abbrev pub array : Rate → ℕ → ArrayVariable
array r v = record { number = v; ty = int r; constant = false }

abbrev pub item_of : Rate → ℕ → TExpr → TPlace
item_of r v i = t_element (array r v) i (int (rate_or r (rate_of i))) at

-- f(), of a rate
abbrev pub call_of : Rate → ℕ → TExpr
call_of r f = t_call (t_called f (t_arguments []) at) (int r)

abbrev pub assign : TPlace → TExpr → TStmt
assign q x = t_simple (t_assign q x at) at

abbrev pub declare : ℕ → TExpr → TStmt
declare v x = t_declare (t_with_value v (int Varying) x at ∷ []) at

-- In foreach (y = .., x = ..) y is variable 2 and x is 3; width is the uniform variable 1 and image the array 0.
abbrev pub indices : ℕ → Known
indices = known_indices (2 ∷ 3 ∷ [])

abbrev pub width : TExpr
width = read Uniform 1

abbrev pub y : TExpr
y = read Varying 2

abbrev pub x : TExpr
x = read Varying 3

-- y * width + x + 1
abbrev pub pixel : TExpr
pixel = join Add (join Add (join Mul y width) x) (whole 1)

-- ---- which expressions they are

pub record WhichTheyAre : Type 0 where
  -- y * width + x + 1 is linear; its scalar expression has y as a uniform variable, and x as one that has what instance 0 has
  pub pixels : linear indices pixel ≡ true
  pub its_scalar : alone pixel ≡ join Add (join Add (join Mul (read Uniform 2) width) (read Uniform 3)) (whole 1)
  -- y * width is steady, and so are image[y * width] and min(y, width); x, image[x] and an element of an instance's own array are not
  pub rows : steady indices (join Mul y width) ≡ true
  pub read_from : steady indices (t_place (item_of Uniform 0 (join Mul y width))) ≡ true
  pub least : steady indices (t_library library.Min I32 (t_exprs (y ∷ width ∷ [])) (int Varying) at) ≡ true
  pub columns : steady indices x ≡ false
  pub gathered : steady indices (t_place (item_of Uniform 0 x)) ≡ false
  pub own : steady indices (t_place (item_of Varying 4 y)) ≡ false
  -- x - width counts on, width - x counts down, x + x and x * 2 in twos
  pub behind_it : linear indices (join Sub x width) ≡ true
  pub down : linear indices (join Sub width x) ≡ false
  pub twice : linear indices (join Add x x) ≡ false
  pub doubled : linear indices (join Mul x (whole 2)) ≡ false
  -- no call is steady, whatever it gives, nor is what looks across the gang or loads packed
  pub called : steady indices (call_of Uniform 0) ≡ false
  pub sum_with_call : steady indices (join Add y (call_of Uniform 0)) ≡ false
  pub summed : steady indices (t_library library.ReduceAdd I32 (t_exprs (y ∷ [])) (ty_of Uniform I64) at) ≡ false
  pub loaded : steady indices (t_packed_load (t_whole (array Uniform 0) at) 4 at) ≡ false

-- ---- indices that wrap

-- the four elements that are meant from u on
abbrev pub four_of : (ℕ → ℕ) → List ℕ
four_of f = f 0 ∷ f 1 ∷ f 2 ∷ f 3 ∷ []

pub record IndicesThatWrap : Type 0 where
  -- a uint32 from 4294967294 on goes on with 0, where a row would go on past 4294967295: there is no room for it
  pub wraps : four_of (λ p. element U32 (counted_on U32 (2 ^ 32 - 2) p)) ≡ 4294967294 ∷ 4294967295 ∷ 0 ∷ 1 ∷ []
  pub no_room : has_room 4 U32 (2 ^ 32 - 2) ≡ false
  pub just_room : has_room 4 U32 (2 ^ 32 - 4) ≡ true
  pub one_more : has_room 4 U32 (2 ^ 32 - 3) ≡ false
  -- an int32 from 2147483646 on goes on with the least value; from -1 on all is well
  pub signed : number I32 (counted_on I32 (2 ^ 31 - 2) 2) ≡ number I32 (2 ^ 31)
  pub signed_room : has_room 4 I32 (2 ^ 31 - 3) ≡ false
  pub below_zero : has_room 4 I32 (2 ^ 32 - 1) ≡ true

-- ---- conversions

pub record Conversions : Type 0 where
  -- (uint8)x counts on, also from 254: 254, 255, 0, 1; but there is no room for a row
  pub cut : linear indices (t_convert U8 x) ≡ true
  pub cut_values : four_of (λ p. converted I32 U8 (counted_on I32 254 p)) ≡ four_of (counted_on U8 254)
  pub cut_ends : four_of (counted_on U8 254) ≡ 254 ∷ 255 ∷ 0 ∷ 1 ∷ []
  pub cut_room : has_room 4 U8 254 ≡ false
  -- (int64)x need not: from 2147483646 on its third value is -2147483648 in place of 2147483648
  pub widened : linear indices (t_convert I64 x) ≡ false
  pub widened_values : converted I32 I64 (counted_on I32 (2 ^ 31 - 2) 2) ≡ 2 ^ 64 - 2 ^ 31
  pub widened_counts : counted_on I64 (converted I32 I64 (2 ^ 31 - 2)) 2 ≡ 2 ^ 31
  -- (bool)x does not
  pub truth : linear indices (t_convert Truth x) ≡ false

-- ---- programs

-- void f(uniform int a[]) over variables a, i and k, with another function after it
abbrev pub entry : List TStmt → TFunction
entry xs =
    record {
      name = codes "f";
      span = at;
      exported = true;
      parameters = record { name = codes "a"; elem = I32; is_array = true } ∷ [];
      gives = None;
      params = at ∷ [];
      answer = None;
      variables = record { holds = Given I32; constant = false } ∷ foreach_index ∷ record { holds = AVariable (int Varying); constant = false } ∷ [];
      body = t_braces (t_stmts xs) at;
    }

-- int g() { return programIndex; }
abbrev pub g : TFunction
g = record { name = codes "g"; span = at; exported = false; parameters = []; gives = None; params = []; answer = Some (int Varying); variables = []; body = t_braces (t_stmts (t_return at (Some (t_program_index at)) at ∷ [])) at }

-- foreach (i = 0 ... n) { .. }, and what it leaves of four nines
abbrev pub leaves : ℕ → List TStmt → Outcome
leaves n xs =
    run_of (record { gang = W4; functions = entry (t_foreach at 1 (record { index = 1; start = whole 0; end = whole n; span = at } ∷ []) (t_block (t_braces (t_stmts xs) at)) at ∷ []) ∷ g ∷ [] }) 0 0
    (AnArray (record { elem = I32; bits = 9 ∷ 9 ∷ 9 ∷ 9 ∷ [] }) ∷ [])

abbrev pub four : ℕ → ℕ → ℕ → ℕ → Outcome
four w x y z = Ends (record { elem = I32; bits = w ∷ x ∷ y ∷ z ∷ [] } ∷ []) None []

-- int k = 7;   k = k + i;   a[i] = k;   a[programIndex] = k;
abbrev pub seven : TStmt
seven = declare 2 (whole 7)

abbrev pub added : TStmt
added = assign (t_variable 2 (int Varying) at) (join Add (read Varying 2) (read Varying 1))

abbrev pub kept_at : TExpr → TStmt
kept_at i = assign (item_of Uniform 0 i) (read Varying 2)

-- what is known of k after its declaration, where these statements follow
abbrev pub known_then : List TStmt → Known
known_then xs = behind (all_assign (t_stmts xs)) (known_indices (1 ∷ [])) seven 2

pub record ProgramsThatTell : Type 0 where
  -- k is steady where it is never assigned; assigned once more it is not known, and each instance has another value
  pub never_assigned : known_then (kept_at (read Varying 1) ∷ []) ≡ Steady
  pub assigned_again : known_then (added ∷ kept_at (read Varying 1) ∷ []) ≡ Unknown
  pub differ : leaves 4 (seven ∷ added ∷ kept_at (read Varying 1) ∷ []) ≡ four 7 8 9 10
  -- also where the assignment stands in an `unmasked`
  pub assigned_unmasked : known_then (t_unmasked at (t_braces (t_stmts (added ∷ [])) at) at ∷ []) ≡ Unknown
  -- k is 7 in the members, but in an `unmasked` other instances take part, and have 0
  pub unmasked : leaves 2 (seven ∷ t_unmasked at (t_braces (t_stmts (kept_at (t_program_index at) ∷ [])) at) at ∷ []) ≡ four 7 7 0 0
  -- a call with the same arguments gives each instance another value
  pub calls_differ : leaves 4 (assign (item_of Uniform 0 (read Varying 1)) (call_of Varying 1) ∷ []) ≡ four 0 1 2 3

pub record SamplesTell : Type 0 where
  pub which : WhichTheyAre
  pub wrapping : IndicesThatWrap
  pub conversions : Conversions
  pub programs : ProgramsThatTell
