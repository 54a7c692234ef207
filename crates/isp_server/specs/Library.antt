-- The functions of the library, each with its signature as a reader sees it.
--     T is the type of a value, or the common one of several; what stands in [ ] may be left out; no rate means that of the arguments
use Rattle.std.specs.Prelude.{ℕ, List, [], ◌∷◌, codes}

unfoldable pub signatures : List (List ℕ × List ℕ)
signatures =
    (codes "reduce_add", codes "uniform T reduce_add(varying T x), T of twice the width in the result")
    ∷ (codes "reduce_min", codes "uniform T reduce_min(varying T x)")
    ∷ (codes "reduce_max", codes "uniform T reduce_max(varying T x)")
    ∷ (codes "reduce_equal", codes "uniform bool reduce_equal(varying T x)")
    ∷ (codes "any", codes "uniform bool any(varying bool x)")
    ∷ (codes "all", codes "uniform bool all(varying bool x)")
    ∷ (codes "none", codes "uniform bool none(varying bool x)")
    ∷ (codes "exclusive_scan_add", codes "varying T exclusive_scan_add(varying T x)")
    ∷ (codes "exclusive_scan_and", codes "varying T exclusive_scan_and(varying T x)")
    ∷ (codes "exclusive_scan_or", codes "varying T exclusive_scan_or(varying T x)")
    ∷ (codes "broadcast", codes "varying T broadcast(varying T x, uniform int32 i)")
    ∷ (codes "rotate", codes "varying T rotate(varying T x, uniform int32 k)")
    ∷ (codes "shift", codes "varying T shift(varying T x, uniform int32 k)")
    ∷ (codes "shuffle", codes "varying T shuffle(varying T x, [varying T y,] varying int32 p)")
    ∷ (codes "extract", codes "uniform T extract(varying T x, uniform int32 i)")
    ∷ (codes "insert", codes "varying T insert(varying T x, uniform int32 i, uniform T v)")
    ∷ (codes "packed_store_active", codes "uniform int32 packed_store_active(uniform T base[], varying T x)")
    ∷ (codes "packed_load_active", codes "uniform int32 packed_load_active(uniform T base[], varying T &x)")
    ∷ (codes "min", codes "T min(T x, T y)")
    ∷ (codes "max", codes "T max(T x, T y)")
    ∷ (codes "clamp", codes "T clamp(T x, T low, T high)")
    ∷ (codes "abs", codes "T abs(T x)")
    ∷ (codes "select", codes "T select(bool c, T x, T y)")
    ∷ []
