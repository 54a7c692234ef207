-- The library's functions on values: what each takes and gives. T is the element type in which a call works.
use Rattle.std.specs.Prelude.{List, [], ◌∷◌, Bool, true, false}
use Rattle.isp_base.specs.declared.types.Elem.{Elem}
use Rattle.isp_base.specs.declared.types.Elem.TheVariants.{Bool as Truth, I32}
use Rattle.isp_base.specs.declared.types.Rate.{Rate}
use Rattle.isp_base.specs.declared.types.Rate.TheVariants.{Uniform, Varying}
use Rattle.isp_base.specs.declared.types.Ty.{Ty}
use Rattle.isp_base.specs.Ranks.{widened}
use Rattle.isp_typed.specs.declared.library.Library.{Library}
use Rattle.isp_typed.specs.declared.library.Library.TheVariants.{ReduceAdd, ReduceMin, ReduceMax, ReduceEqual, Any, All, None as NoneTrue, ScanAdd, ScanAnd, ScanOr, Broadcast}
use Rattle.isp_typed.specs.declared.library.Library.TheVariants.{Rotate, Shift, Shuffle, ShuffleTwo, Extract, Insert, Min, Max, Clamp, Abs, Select}
use Rattle.isp_typed.specs.declared.library.Part.{Part}
use Rattle.isp_typed.specs.declared.library.Part.TheVariants.{Own, Same, Number, Index, Truth as Test}
use Rattle.isp_typed.specs.Typed.{ty_of}

-- the arguments: a value whose type takes part in T, a uniform one converted to T, a uniform int32, an int32, a bool
abbrev pub parts : Library → List Part
parts ReduceAdd = Own ∷ []
parts ReduceMin = Own ∷ []
parts ReduceMax = Own ∷ []
parts ReduceEqual = Own ∷ []
parts Any = Test ∷ []
parts All = Test ∷ []
parts NoneTrue = Test ∷ []
parts ScanAdd = Own ∷ []
parts ScanAnd = Own ∷ []
parts ScanOr = Own ∷ []
parts Broadcast = Own ∷ Number ∷ []
parts Rotate = Own ∷ Number ∷ []
parts Shift = Own ∷ Number ∷ []
parts Shuffle = Own ∷ Index ∷ []
parts ShuffleTwo = Own ∷ Own ∷ Index ∷ []
parts Extract = Own ∷ Number ∷ []
parts Insert = Own ∷ Number ∷ Same ∷ []
parts Min = Own ∷ Own ∷ []
parts Max = Own ∷ Own ∷ []
parts Clamp = Own ∷ Own ∷ Own ∷ []
parts Abs = Own ∷ []
parts Select = Test ∷ Own ∷ Own ∷ []

-- where a uniform value is asked
abbrev pub asks_uniform : Part → Bool
asks_uniform Own = false
asks_uniform Same = true
asks_uniform Number = true
asks_uniform Index = false
asks_uniform Test = false

-- what an argument is converted to
abbrev pub part_elem : Elem → Part → Elem
part_elem t Own = t
part_elem t Same = t
part_elem t Number = I32
part_elem t Index = I32
part_elem t Test = Truth

-- what a call gives, where T is its element type and the rate that of its arguments: varying where one is
abbrev pub library_type : Library → Elem → Rate → Ty
library_type ReduceAdd t r = ty_of Uniform (widened t)
library_type ReduceMin t r = ty_of Uniform t
library_type ReduceMax t r = ty_of Uniform t
library_type ReduceEqual t r = ty_of Uniform Truth
library_type Any t r = ty_of Uniform Truth
library_type All t r = ty_of Uniform Truth
library_type NoneTrue t r = ty_of Uniform Truth
library_type ScanAdd t r = ty_of Varying t
library_type ScanAnd t r = ty_of Varying t
library_type ScanOr t r = ty_of Varying t
library_type Broadcast t r = ty_of Varying t
library_type Rotate t r = ty_of Varying t
library_type Shift t r = ty_of Varying t
library_type Shuffle t r = ty_of Varying t
library_type ShuffleTwo t r = ty_of Varying t
library_type Extract t r = ty_of Uniform t
library_type Insert t r = ty_of Varying t
library_type Min t r = ty_of r t
library_type Max t r = ty_of r t
library_type Clamp t r = ty_of r t
library_type Abs t r = ty_of r t
library_type Select t r = ty_of r t
