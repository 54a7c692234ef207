-- The places of isp_wasm, as the code names them.
use Rattle.isp_wasm.specs.Places as places
use Rattle.isp_wasm_binary.specs.Named as named
use Rattle.isp_wasm_write.specs.declared.kernel.Place.{Place}
use Rattle.isp_wasm_write.specs.declared.kernel.Place.TheVariants.{Counter, Scalar, Vector, Mask, Base, Count, Fresh, Spare, Depth, Top}

abbrev pub place_of : Place → places.Place
place_of Counter = places.Counter
place_of (Scalar r) = places.Scalar r
place_of (Vector r j) = places.Vector r j
place_of (Mask r j) = places.Mask r j
place_of (Base a) = places.Base a
place_of (Count a) = places.Count a
place_of (Fresh j) = places.Fresh j
place_of (Spare t j) = places.Spare (named.size t) j
place_of Depth = places.Depth
place_of Top = places.Top
