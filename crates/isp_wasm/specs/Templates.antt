-- The WebAssembly of each instruction.
use Rattle.std.specs.Prelude.{ℕ, List, [], ◌∷◌, ◌++◌, length, zero, suc, ◌+◌, ◌-◌, ◌*◌, ◌/◌, ◌%◌, ◌^◌, Option, Some, None, Bool, true, false, if◌then◌else◌, slice_get, nat_eq, nat_lt}
use Rattle.isp_base.specs.Depths.{most_calls}
use Rattle.isp_base.specs.Ranks.{widened as sum_type}
use Rattle.isp_base.specs.Sets as Sets
use Rattle.isp_base.specs.Sets.{everyone, nobody}
use Rattle.isp_base.specs.Values.{width, wrap}
use Rattle.isp_base.specs.declared.types.Elem.{Elem}
use Rattle.isp_base.specs.declared.types.Elem.TheVariants.{Bool as Truth, I8, I16, I32, I64, U64}
use Rattle.isp_code.specs.Calls.{place_at}
use Rattle.isp_code.specs.Lines.{local_size}
use Rattle.isp_code.specs.Registers.{passed, is_per_lane}
use Rattle.isp_code.specs.declared.function.Local.{Local as Opened}
use Rattle.isp_code.specs.declared.instr.Call.{Call}
use Rattle.isp_code.specs.declared.instr.Division.{Division}
use Rattle.isp_code.specs.declared.instr.Division.TheVariants as division
use Rattle.isp_code.specs.declared.instr.Exchange.{Exchange}
use Rattle.isp_code.specs.declared.instr.Exchange.TheVariants as exchange
use Rattle.isp_code.specs.declared.instr.Instr.{Instr}
use Rattle.isp_code.specs.declared.instr.Instr.TheVariants as instr
use Rattle.isp_code.specs.declared.instr.JumpTest.TheVariants as jump
use Rattle.isp_code.specs.declared.instr.MaskInstr.{MaskInstr}
use Rattle.isp_code.specs.declared.instr.MaskInstr.TheVariants as mask
use Rattle.isp_code.specs.declared.instr.MaskOp.{MaskOp}
use Rattle.isp_code.specs.declared.instr.MaskOp.TheVariants as mask_op
use Rattle.isp_code.specs.declared.instr.Plain.{Plain}
use Rattle.isp_code.specs.declared.instr.Plain.TheVariants as plain
use Rattle.isp_code.specs.declared.instr.Reduction.{Reduction}
use Rattle.isp_code.specs.declared.instr.Reduction.TheVariants as reduction
use Rattle.isp_code.specs.declared.instr.Scan.{Scan}
use Rattle.isp_code.specs.declared.instr.Scan.TheVariants as scan
use Rattle.isp_code.specs.declared.instr.ScalarInstr.{ScalarInstr}
use Rattle.isp_code.specs.declared.instr.ScalarInstr.TheVariants as scalar
use Rattle.isp_code.specs.declared.instr.VectorInstr.{VectorInstr}
use Rattle.isp_code.specs.declared.instr.VectorInstr.TheVariants as vector
use Rattle.isp_code.specs.declared.register.Class.{Class}
use Rattle.isp_code.specs.declared.register.Class.TheVariants as class
use Rattle.isp_code.specs.declared.register.Register.{Register}
use Rattle.isp_forms.specs.Writes.{mask_under, is_pure}
use Rattle.isp_forms.specs.declared.form.Form.{Form}
use Rattle.isp_forms.specs.declared.form.Form.TheVariants.{Kept, Free, Useless, KeptBy, FreeBy}
use Rattle.isp_wasm_meaning.specs.Meaning.{of_lanes, flags, count}
use Rattle.isp_wasm_meaning.specs.Ladder.{dispatched}
use Rattle.isp_wasm_meaning.specs.Syntax as wasm
use Rattle.isp_wasm_meaning.specs.Syntax.{Shape, I8x16, Add, Sub, Mul, And, Or, Xor, Eq, Ne, LtU, LtS, DivU, RemU, Eqz, Ctz, Wrap, ExtendU, Splat, Extract, Bitmask, Of, BitsOf, CompareLanes, Bits, Replace, Expr, Const32, Const64, Const128, Local, One, Two, Select, Bitselect}
use Rattle.isp_wasm_meaning.specs.Syntax.{Code, Skip, Unreachable, Then, Set, Load, Store, Divide, Fail, Write, If, Br, Return, Call as CallFunction, GetGlobal, SetGlobal, Clear, Print, SignedText, UnsignedText, TruthText, ByteText}
use Rattle.isp_wasm.specs.Places.{Setting, gang, text, Counter, Scalar, Vector, Mask, Base, Count, Fresh, Spare, Depth, Top, bytes_of, elem, shape, shape_of, parts, size_of}
use Rattle.isp_wasm.specs.Stack.{local_bytes, bytes_in}
use Rattle.isp_wasm.specs.Words.{constant, below, whole_expr, plain_expr, unary_expr, compare_expr, convert_expr}
use Rattle.isp_wasm.specs.Rows.{as_cell, lane_at, widened, narrowed, ones, compare_row, unary_row, by_lane, present, convert_row, plain_row, shift_row}

-- one part after the other
abbrev pub each : ℕ → (ℕ → Code) → Code
each zero body = Skip
each (suc n) body = Then (each n body) (body n)

-- part j of a set's mask
abbrev pub mask_part : Sets.Mask → ℕ → ℕ
mask_part a j = of_lanes I8x16 (λ i. flags 8 (a (j * 16 + i)))

module _ (w : Setting) where
  abbrev pub scalar_local : Register → Expr
  scalar_local x = Local (w.local (Scalar x.number))

  abbrev pub vector_local : Register → ℕ → Expr
  vector_local x j = Local (w.local (Vector x.number j))

  abbrev pub mask_local : Register → ℕ → Expr
  mask_local k j = Local (w.local (Mask k.number j))

  -- the lanes of a mask are set to what is worked out
  abbrev pub select_lanes : Register → Register → Code
  select_lanes d k =
      each (parts w (shape w d)) (λ j. Set (w.local (Vector d.number j))
      (Bitselect (Local (w.local (Fresh j))) (vector_local d j) (widened (shape w d) (mask_local k) j)))

  -- where nobody reads the others, all lanes are
  abbrev pub put_lanes : Form → Register → Register → Code
  put_lanes Free d k = each (parts w (shape w d)) (λ j. Set (w.local (Vector d.number j)) (Local (w.local (Fresh j))))
  put_lanes form d k = select_lanes d k

  -- the lanes of a mask are set; what they get is worked out before
  abbrev pub set_lanes : Form → Register → Register → (ℕ → Expr) → Code
  set_lanes form d k new = Then (each (parts w (shape w d)) (λ j. Set (w.local (Fresh j)) (new j))) (put_lanes form d k)

  abbrev pub set_mask : Register → (ℕ → Expr) → Code
  set_mask d new =
      Then (each (parts w I8x16) (λ j. Set (w.local (Fresh j)) (new j)))
      (each (parts w I8x16) (λ j. Set (w.local (Mask d.number j)) (Local (w.local (Fresh j)))))

  -- ---- lanes of masks

  -- not 0 where a mask has the lane
  abbrev pub is_member : Register → ℕ → Expr
  is_member k p = One (Extract I8x16 (p % 16)) (mask_local k (p / 16))

  -- the lanes of a mask as bits, and the number of the lowest one, or 0
  abbrev pub lanes_as_bits : Register → Expr
  lanes_as_bits k =
      Two (Of wasm.I32 Add) (One (Bitmask I8x16) (mask_local k 0)) (Two (Of wasm.I32 Mul) (One (Bitmask I8x16) (mask_local k 1)) (Const32 (2 ^ 16)))

  abbrev pub lowest_of : Register → Expr
  lowest_of k = Select (lanes_as_bits k) (One (Ctz wasm.I32) (lanes_as_bits k)) (Const32 0)

  -- ---- values across lanes

  -- a lane's value, or another where the mask has it not
  abbrev pub lane_or : Register → Register → Expr → ℕ → Expr
  lane_or x k other p = Select (is_member k p) (lane_at (elem w x) (vector_local x) p) other

  abbrev pub lane_or_zero : Register → Register → ℕ → Expr
  lane_or_zero x k = lane_or x k (constant (size_of (elem w x)) 0)

  -- the one of n values that a number names, else 0
  abbrev pub picked : wasm.Size → Expr → (ℕ → Expr) → ℕ → Expr
  picked t i f zero = constant t 0
  picked t i f (suc n) = Select (Two (wasm.Compare wasm.I32 Eq) i (Const32 n)) (f n) (picked t i f n)

  -- the value of the lowest lane, from lane p on; so many are left
  abbrev pub first_value : Register → Register → ℕ → ℕ → Expr
  first_value x k zero p = constant (size_of (elem w x)) 0
  first_value x k (suc n) p = Select (is_member k p) (lane_at (elem w x) (vector_local x) p) (first_value x k n (suc p))

  -- an operator over n values, from the lowest on
  abbrev pub folded : (Expr → Expr → Expr) → Expr → (ℕ → Expr) → ℕ → Expr
  folded f e x zero = e
  folded f e x (suc n) = f (folded f e x n) (x n)

  -- modulo a power of two
  abbrev pub modulo : ℕ → Expr → Expr
  modulo n i = Two (BitsOf wasm.I32 And) i (Const32 (n - 1))

  abbrev pub plus : Expr → ℕ → Expr
  plus i p = Two (Of wasm.I32 Add) i (Const32 p)

  abbrev pub exchange_expr : Exchange → Register → Register → Register → ℕ → Expr
  exchange_expr exchange.Broadcast x i k p = picked (size_of (elem w x)) (modulo (gang w) (scalar_local i)) (lane_or_zero x k) (gang w)
  exchange_expr exchange.Rotate x i k p = picked (size_of (elem w x)) (modulo (gang w) (plus (scalar_local i) p)) (lane_or_zero x k) (gang w)
  exchange_expr exchange.Shift x i k p = picked (size_of (elem w x)) (plus (scalar_local i) p) (lane_or_zero x k) (gang w)

  -- lane p of two vectors side by side
  abbrev pub of_both : Register → Register → Register → ℕ → Expr
  of_both x y k p = if nat_lt p (gang w) then lane_or_zero x k p else lane_or_zero y k (p - gang w)

  abbrev pub scan_expr : Scan → Register → Register → ℕ → Expr
  scan_expr scan.Add x k p = folded (plain_expr plain.Add (elem w x)) (constant (size_of (elem w x)) 0) (lane_or_zero x k) p
  scan_expr scan.Or x k p = folded (plain_expr plain.Or (elem w x)) (constant (size_of (elem w x)) 0) (lane_or_zero x k) p
  scan_expr scan.And x k p =
      let all = constant (size_of (elem w x)) (2 ^ width (elem w x) - 1) in folded (plain_expr plain.And (elem w x)) all (lane_or x k all) p

  -- ---- scalars

  abbrev pub reduce_expr : Reduction → Register → Register → Expr
  reduce_expr reduction.Add x k =
      folded (whole_expr (sum_type (elem w x)) Add) (constant (size_of (sum_type (elem w x))) 0)
      (λ p. Select (is_member k p) (convert_expr (elem w x) (sum_type (elem w x)) (lane_at (elem w x) (vector_local x) p))
      (constant (size_of (sum_type (elem w x))) 0)) (gang w)
  reduce_expr reduction.Equal x k =
      folded (Two (BitsOf wasm.I32 And)) (Const32 1)
      (λ p. Select (is_member k p) (Two (wasm.Compare (size_of (elem w x)) Eq) (lane_at (elem w x) (vector_local x) p) (first_value x k (gang w) 0))
      (Const32 1)) (gang w)
  reduce_expr reduction.Any x k = folded (Two (BitsOf wasm.I32 Or)) (Const32 0) (lane_or x k (Const32 0)) (gang w)
  reduce_expr reduction.All x k = folded (Two (BitsOf wasm.I32 And)) (Const32 1) (lane_or x k (Const32 1)) (gang w)
  reduce_expr r x k = Const32 0

  abbrev pub scalar_of : Register → ScalarInstr → Expr
  scalar_of d (scalar.Constant z) = constant (size_of (elem w d)) (wrap (elem w d) z)
  scalar_of d (scalar.Copy x) = scalar_local x
  scalar_of d (scalar.Convert x) = convert_expr (elem w x) (elem w d) (scalar_local x)
  scalar_of d (scalar.Unary o x) = unary_expr o (elem w d) (scalar_local x)
  scalar_of d (scalar.Binary o x y) = plain_expr o (elem w d) (scalar_local x) (scalar_local y)
  scalar_of d (scalar.Compare o x y) = compare_expr o (elem w x) (scalar_local x) (scalar_local y)
  scalar_of d (scalar.Select t x y) = Select (scalar_local t) (scalar_local x) (scalar_local y)
  scalar_of d (scalar.First k) = One ExtendU (lowest_of k)
  scalar_of d (scalar.Reduce r x k) = reduce_expr r x k
  scalar_of d (scalar.Extract x i k) = picked (size_of (elem w x)) (modulo (gang w) (scalar_local i)) (lane_or_zero x k) (gang w)
  scalar_of d i = Const32 0

  -- the least or the greatest: so far one lane was there, and this is the best
  abbrev pub best_step : Elem → (Expr → Expr → Expr) → Register → Register → ℕ → Code
  best_step t better x k p =
      let best = Local (w.local (Spare (size_of t) 0)) in
      let some = Local (w.local (Spare wasm.I32 1)) in
      let here = lane_at t (vector_local x) p in
      Then (Set (w.local (Spare (size_of t) 0)) (Select (is_member k p) (Select some (better best here) here) best))
      (Set (w.local (Spare wasm.I32 1)) (Two (BitsOf wasm.I32 Or) some (is_member k p)))

  abbrev pub best_of : Register → (Expr → Expr → Expr) → Register → Register → Code
  best_of d better x k =
      let t = elem w x in
      Then (Set (w.local (Spare (size_of t) 0)) (constant (size_of t) 0))
      (Then (Set (w.local (Spare wasm.I32 1)) (Const32 0)) (Then (each (gang w) (best_step t better x k))
      (Set (w.local (Scalar d.number)) (Local (w.local (Spare (size_of t) 0))))))

  -- ---- traps

  -- a trap of a lane at a place
  abbrev pub fault : ℕ → ℕ → Expr → Code
  fault kind q p = Fail kind (place_at w.code q).start (place_at w.code q).end p

  -- ---- memory

  -- the element of an index, where an array begins there
  abbrev pub element_from : Expr → Register → Expr → Expr
  element_from base a x = Two (Of wasm.I32 Add) base (Two (Of wasm.I32 Mul) (One Wrap x) (Const32 (bytes_of (elem w a))))

  -- where an element of an array begins
  abbrev pub address_at : Register → Expr → Expr
  address_at a x = element_from (Local (w.local (Base a.number))) a x

  -- the bytes of an array that the function opens, or of one lane's own
  abbrev pub opened_bytes : Register → ℕ
  opened_bytes a = local_size (slice_get w.routine.locals (a.number - passed w.routine)) * bytes_of (elem w a)

  -- where an array begins, as a lane finds it: where each lane has its own, after those of lower lanes
  abbrev pub base_if : Bool → Register → ℕ → Expr
  base_if true a p = Two (Of wasm.I32 Add) (Local (w.local (Base a.number))) (Const32 (p * opened_bytes a))
  base_if false a p = Local (w.local (Base a.number))

  abbrev pub base_at : Register → ℕ → Expr
  base_at a p = base_if (is_per_lane w.routine a) a p

  -- where an element begins, as a lane finds it
  abbrev pub lane_address : Register → ℕ → Expr → Expr
  lane_address a p x = element_from (base_at a p) a x

  -- whether there is one

  abbrev pub is_there : Register → Expr → Expr
  is_there a x = Two (wasm.Compare wasm.I64 LtU) x (Local (w.local (Count a.number)))

  abbrev pub spare : Elem → ℕ
  spare t = w.local (Spare (size_of t) 0)

  -- one lane after the other, where the mask has it
  abbrev pub lane_loop : Register → (ℕ → Code) → Code
  lane_loop k body = each (gang w) (λ p. If (is_member k p) (body p) Skip)

  -- lane p is set
  abbrev pub set_lane : Register → ℕ → Expr → Code
  set_lane d p x =
      let j = p / count (shape w d) in Set (w.local (Vector d.number j))
      (Two (Replace (shape w d) (p % count (shape w d))) (vector_local d j) (as_cell (elem w d) x))

  abbrev pub lane_loads : Register → Register → (ℕ → Expr) → Register → ℕ → Code
  lane_loads d a index k q =
      lane_loop k
      (λ p. If (is_there a (index p)) (Then (Load (bytes_of (elem w a)) (spare (elem w a)) (lane_address a p (index p)) 0)
      (set_lane d p (Local (spare (elem w a))))) (fault 1 q (Const32 p)))

  -- first all lanes are checked, then they are stored, the lowest first
  abbrev pub lane_checks : Register → (ℕ → Expr) → Register → ℕ → Code
  lane_checks a index k q = lane_loop k (λ p. If (is_there a (index p)) Skip (fault 1 q (Const32 p)))

  abbrev pub lane_stores : Register → (ℕ → Expr) → Register → Register → Code
  lane_stores a index y k = lane_loop k (λ p. Store (bytes_of (elem w a)) (lane_address a p (index p)) 0 (lane_at (elem w a) (vector_local y) p))

  -- the index of a lane: its own, that of a run of elements, and that of those in the order of a mask's lanes
  abbrev pub own_index : Register → ℕ → Expr
  own_index i p = lane_at I64 (vector_local i) p

  abbrev pub run_index : Register → ℕ → Expr
  run_index i p = Two (Of wasm.I64 Add) (scalar_local i) (Const64 p)

  abbrev pub rank_expr : Register → ℕ → Expr
  rank_expr k zero = Const64 0
  rank_expr k (suc p) = Two (Of wasm.I64 Add) (rank_expr k p) (One ExtendU (Two (BitsOf wasm.I32 And) (is_member k p) (Const32 1)))

  abbrev pub packed_index : Register → Register → ℕ → Expr
  packed_index i k p = Two (Of wasm.I64 Add) (scalar_local i) (rank_expr k p)

  -- ---- elements in a row, all at once: where the lanes fill their parts, they lie there as in memory

  abbrev pub fills_parts : Elem → Bool
  fills_parts Truth = false
  fills_parts t = nat_eq (gang w % count (shape_of t)) 0

  -- the first and the last element are there
  abbrev pub run_is_there : Register → Register → Expr
  run_is_there a i = Two (BitsOf wasm.I32 And) (is_there a (run_index i 0)) (is_there a (run_index i (gang w - 1)))

  abbrev pub load_parts : Register → Register → ℕ → Code
  load_parts a i n = each n (λ j. Load 16 (w.local (Fresh j)) (address_at a (scalar_local i)) (j * 16))

  abbrev pub load_row : Form → Register → Register → Register → Register → Code
  load_row form d a i k = Then (load_parts a i (parts w (shape w d))) (put_lanes form d k)

  -- an element whose lane is off gets what it has
  abbrev pub store_part : Register → Register → Register → Register → ℕ → Code
  store_part a i y k j =
      Store 16 (address_at a (scalar_local i)) (j * 16) (Bitselect (vector_local y j) (Local (w.local (Fresh j))) (widened (shape w y) (mask_local k) j))

  abbrev pub store_row : Register → Register → Register → Register → Code
  store_row a i y k = Then (load_parts a i (parts w (shape w y))) (each (parts w (shape w y)) (store_part a i y k))

  -- else lane by lane, as where one of them is not there
  abbrev pub all_at_once : Bool → Expr → Code → Code → Code
  all_at_once true there row lanes = If there row lanes
  all_at_once false there row lanes = lanes

  abbrev pub load_run : Form → Register → Register → Register → Register → ℕ → Code
  load_run form d a i k q = all_at_once (fills_parts (elem w d)) (run_is_there a i) (load_row form d a i k) (lane_loads d a (run_index i) k q)

  abbrev pub store_run : Register → Register → Register → Register → ℕ → Code
  store_run a i y k q =
      all_at_once (fills_parts (elem w y)) (run_is_there a i) (store_row a i y k) (Then (lane_checks a (run_index i) k q) (lane_stores a (run_index i) y k))

  abbrev pub set_count : Register → Register → Code
  set_count d k = Set (w.local (Scalar d.number)) (One Wrap (rank_expr k (gang w)))

  -- an array that all lanes share is zeroed whole, the lanes' own in a mask
  abbrev pub clear_if : Bool → Register → Register → Code
  clear_if true a k = lane_loop k (λ p. Clear (base_at a p) (Const32 (opened_bytes a)))
  clear_if false a k = Clear (Local (w.local (Base a.number))) (Const32 (opened_bytes a))

  -- an index past an array traps
  abbrev pub checked : Register → Register → Register → ℕ → Code
  checked a i k q = If (is_there a (scalar_local i)) Skip (fault 1 q (lowest_of k))

  abbrev pub scalar_code : Register → ScalarInstr → Code
  scalar_code d (scalar.Load a i k q) = Then (checked a i k q) (Load (bytes_of (elem w a)) (w.local (Scalar d.number)) (address_at a (scalar_local i)) 0)
  scalar_code d (scalar.Reduce reduction.Min x k) = best_of d (plain_expr plain.Min (elem w x)) x k
  scalar_code d (scalar.Reduce reduction.Max x k) = best_of d (plain_expr plain.Max (elem w x)) x k
  scalar_code d i = Set (w.local (Scalar d.number)) (scalar_of d i)

  -- ---- vectors

  abbrev pub vector_of : Register → VectorInstr → ℕ → Expr
  vector_of d (vector.Copy x k) = vector_local x
  vector_of d (vector.Convert x k) = convert_row w (elem w x) (elem w d) (vector_local x)
  vector_of d (vector.Unary o x k) = unary_row o (elem w d) (vector_local x)
  vector_of d (vector.Binary o x y k) = plain_row w o (elem w d) (vector_local x) (vector_local y)
  vector_of d (vector.Compare o x y k) = narrowed (shape w x) (present w (shape w x) (compare_row o (elem w x) (vector_local x) (vector_local y)))
  vector_of d (vector.Select t x y k) = λ j. Bitselect (vector_local x j) (vector_local y j) (widened (shape w d) (vector_local t) j)
  vector_of d (vector.Splat x k) = λ j. One (Splat (shape w d)) (as_cell (elem w d) (scalar_local x))
  vector_of d (vector.Index k) = λ j. Const128 (of_lanes (shape w d) (λ i. j * count (shape w d) + i))
  vector_of d (vector.Scan o x k) = by_lane w (elem w d) (scan_expr o x k)
  vector_of d (vector.Exchange e x i k) = by_lane w (elem w d) (exchange_expr e x i k)
  vector_of d (vector.Shuffle x i k) = by_lane w (elem w d) (λ p. picked (size_of (elem w x)) (modulo (gang w) (lane_or_zero i k p))
      (lane_or_zero x k) (gang w))
  vector_of d (vector.ShuffleTwo x y i k) = by_lane w (elem w d)
      (λ p. picked (size_of (elem w x)) (modulo (2 * gang w) (lane_or_zero i k p)) (of_both x y k) (2 * gang w))
  vector_of d (vector.Insert x i y k) =
      by_lane w (elem w d) (λ p. Select (Two (wasm.Compare wasm.I32 Eq) (modulo (gang w) (scalar_local i)) (Const32 p)) (scalar_local y) (lane_or_zero x k p))
  vector_of d i = λ j. Const128 0

  -- an operator by a number: a shift is one of all lanes, another is written as it is without
  abbrev pub known_code : Form → ℕ → Register → Plain → Register → Register → Register → Code
  known_code form b d plain.Shl x y k = set_lanes form d k (shift_row plain.Shl (elem w d) (vector_local x) b)
  known_code form b d plain.Shr x y k = set_lanes form d k (shift_row plain.Shr (elem w d) (vector_local x) b)
  known_code form b d o x y k = set_lanes Kept d k (plain_row w o (elem w d) (vector_local x) (vector_local y))

  abbrev pub vector_code : Form → Register → VectorInstr → Code
  vector_code form d (vector.Gather a i k q) = lane_loads d a (own_index i) k q
  vector_code form d (vector.LoadRun a i k q) = load_run form d a i k q
  vector_code (KeptBy b) d (vector.Binary o x y k) = known_code Kept b d o x y k
  vector_code (FreeBy b) d (vector.Binary o x y k) = known_code Free b d o x y k
  vector_code form d i = set_lanes form d (mask_under i) (vector_of d i)

  -- where nobody reads what it writes, and it never traps, nothing is done
  abbrev pub vector_line : Form → Register → VectorInstr → Code
  vector_line Useless d i = if is_pure i then Skip else vector_code Kept d i
  vector_line form d i = vector_code form d i

  -- ---- masks

  abbrev pub mask_bits : MaskOp → (ℕ → Expr) → (ℕ → Expr) → ℕ → Expr
  mask_bits mask_op.And x y j = Two (Bits And) (x j) (y j)
  mask_bits mask_op.Or x y j = Two (Bits Or) (x j) (y j)
  mask_bits mask_op.AndNot x y j = Two (Bits And) (x j) (Two (Bits Xor) (y j) ones)

  -- how many of the lanes are before the end, at most all
  abbrev pub range_count : Register → Register → Expr
  range_count x y =
      let n = Two (Of wasm.I64 Sub) (scalar_local y) (scalar_local x) in
      Select (Two (wasm.Compare wasm.I64 LtS) (scalar_local x) (scalar_local y))
      (Select (Two (wasm.Compare wasm.I64 LtU) n (Const64 (gang w))) n (Const64 (gang w))) (Const64 0)

  -- the numbers of the lanes, past the gang 127
  abbrev pub numbers_part : ℕ → ℕ
  numbers_part j = of_lanes I8x16 (λ i. if nat_lt (j * 16 + i) (gang w) then j * 16 + i else 127)

  abbrev pub mask_of : MaskInstr → ℕ → Expr
  mask_of (mask.Copy x) = mask_local x
  mask_of (mask.Binary o x y) = mask_bits o (mask_local x) (mask_local y)
  mask_of mask.Full = λ j. Const128 (mask_part (everyone (gang w)) j)
  mask_of mask.Off = λ j. Const128 (mask_part nobody j)
  mask_of (mask.Test x y) = λ j. Two (Bits And) (vector_local x j) (mask_local y j)
  mask_of (mask.Lowest x) = λ j. Two (Bits And) (Two (CompareLanes I8x16 Eq) (Const128 (numbers_part j)) (One (Splat I8x16) (lowest_of x))) (mask_local x j)
  mask_of (mask.Range x y) = λ j. Two (CompareLanes I8x16 LtS) (Const128 (numbers_part j)) (One (Splat I8x16) (One Wrap (range_count x y)))

  -- ---- quotients: those of the magnitudes, with the sign put back

  abbrev pub magnitude_expr : Elem → Expr → Expr
  magnitude_expr t x = Select (below t x (constant (size_of t) 0)) (whole_expr t Sub (constant (size_of t) 0) x) x

  abbrev pub division_of : Division → wasm.Division
  division_of division.Div = DivU
  division_of division.Rem = RemU

  abbrev pub turns_sign : Division → Elem → Expr → Expr → Expr
  turns_sign division.Div t x y = Two (wasm.Compare wasm.I32 Ne) (below t x (constant (size_of t) 0)) (below t y (constant (size_of t) 0))
  turns_sign division.Rem t x y = below t x (constant (size_of t) 0)

  abbrev pub quotient_to : Division → Elem → Expr → Expr → (Expr → Code) → ℕ → Expr → Code
  quotient_to o t x y put q p =
      let got = Local (w.local (Spare (size_of t) 0)) in
      If (One (Eqz (size_of t)) y) (fault 0 q p)
      (Then (Divide (size_of t) (division_of o) (w.local (Spare (size_of t) 0)) (magnitude_expr t x) (magnitude_expr t y))
      (put (Select (turns_sign o t x y) (whole_expr t Sub (constant (size_of t) 0) got) got)))

  abbrev pub quotients : Class → Division → Register → Register → Register → Register → ℕ → Code
  quotients class.Vector o d x y k q =
      lane_loop k (λ p. quotient_to o (elem w d) (lane_at (elem w d) (vector_local x) p) (lane_at (elem w d) (vector_local y) p) (set_lane d p) q (Const32 p))
  quotients c o d x y k q = quotient_to o (elem w d) (scalar_local x) (scalar_local y) (Set (w.local (Scalar d.number))) q (lowest_of k)

  -- ---- values as texts: the host writes a number of 64 bits, with its sign or without

  abbrev pub print_value : Elem → Expr → Code
  print_value Truth x = Print TruthText x
  print_value I8 x = Print SignedText (convert_expr I8 I64 x)
  print_value I16 x = Print SignedText (convert_expr I16 I64 x)
  print_value I32 x = Print SignedText (convert_expr I32 I64 x)
  print_value I64 x = Print SignedText (convert_expr I64 I64 x)
  print_value t x = Print UnsignedText (convert_expr t U64 x)

  abbrev pub print_byte : ℕ → Code
  print_byte b = Print ByteText (Const32 b)

  -- `,` before each but the first
  abbrev pub print_comma : ℕ → Code
  print_comma zero = Skip
  print_comma (suc p) = print_byte 44

  -- `_` where the mask has the lane not
  abbrev pub print_item : Register → Register → ℕ → Code
  print_item x k p = Then (print_comma p) (If (is_member k p) (print_value (elem w x) (lane_at (elem w x) (vector_local x) p)) (print_byte 95))

  -- in brackets
  abbrev pub print_list : Register → Register → Code
  print_list x k = Then (print_byte 91) (Then (each (gang w) (print_item x k)) (print_byte 93))

  -- ---- calls

  abbrev pub waiting_calls : Expr
  waiting_calls = Local (w.local Depth)

  -- n of them
  abbrev pub listed : ℕ → (ℕ → Expr) → List Expr
  listed zero f = []
  listed (suc n) f = f 0 ∷ listed n (λ j. f (suc j))

  -- part j of a vector that is passed: 0 in the lanes that do not call
  abbrev pub part_under : Register → Register → ℕ → Expr
  part_under k x j = Bitselect (vector_local x j) (Const128 0) (widened (shape w x) (mask_local k) j)

  -- what is passed of a register under a mask
  abbrev pub passed_of : Register → Class → Register → List Expr
  passed_of k class.Scalar x = scalar_local x ∷ []
  passed_of k class.Vector x = listed (parts w (shape w x)) (part_under k x)
  passed_of k class.Array x = Local (w.local (Base x.number)) ∷ Local (w.local (Count x.number)) ∷ []
  passed_of k class.Mask x = []

  abbrev pub passed_all : Register → List Register → List Expr
  passed_all k [] = []
  passed_all k (x ∷ xs) = passed_of k x.class x ++ passed_all k xs

  abbrev pub arguments_of : Call → List Expr
  arguments_of k = plus waiting_calls 1 ∷ Local (w.local Top) ∷ (listed (parts w I8x16) (mask_local k.mask) ++ passed_all k.mask k.arguments)

  -- functions that others call come after as many as the code has
  abbrev pub called_number : Call → ℕ
  called_number k = length w.code.routines + k.function

  -- A scalar is given back as WebAssembly does. A vector is in globals, a part in each, from 1 on.
  abbrev pub return_code : Class → Register → Code
  return_code class.Vector x = Then (each (parts w (shape w x)) (λ j. SetGlobal (suc j) (vector_local x j))) (Return None)
  return_code c x = Return (Some (scalar_local x))

  abbrev pub scalar_result : Class → Register → Option ℕ
  scalar_result class.Vector d = None
  scalar_result c d = Some (w.local (Scalar d.number))

  abbrev pub result_local : Option Register → Option ℕ
  result_local None = None
  result_local (Some d) = scalar_result d.class d

  -- the lanes of a mask are set to what a call left in the globals
  abbrev pub vector_result : Class → Register → Register → Code
  vector_result class.Vector d k =
      Then (each (parts w (shape w d)) (λ j. GetGlobal (w.local (Fresh j)) (suc j))) (select_lanes d k)
  vector_result c d k = Skip

  abbrev pub take_result : Option Register → Register → Code
  take_result None k = Skip
  take_result (Some d) k = vector_result d.class d k

  -- where as many calls run as may, it traps
  abbrev pub call_code : Call → Code
  call_code k =
      Then (If (Two (wasm.Compare wasm.I32 LtU) waiting_calls (Const32 (most_calls - 1))) Skip (fault 3 k.place (lowest_of k.mask)))
      (Then (CallFunction (called_number k) (arguments_of k) (result_local k.result)) (take_result k.result k.mask))

  -- ---- control

  -- from inside so many labels below the loop's
  abbrev pub jump_to : ℕ → ℕ → Code
  jump_to depth to = Then (Set (w.local Counter) (Const32 (w.rung_at to))) (Br depth)

  -- depth: how many labels are between this and the loop's
  abbrev pub code_of : ℕ → Form → Instr → Code
  code_of depth form (instr.Scalar d i) = scalar_code d i
  code_of depth form (instr.Vector d i) = vector_line form d i
  code_of depth form (instr.Mask d i) = set_mask d (mask_of i)
  code_of depth form (instr.Divide o d x y k q) = quotients d.class o d x y k q
  code_of depth form (instr.Store a i y k q) = Then (checked a i k q) (Store (bytes_of (elem w a)) (address_at a (scalar_local i)) 0 (scalar_local y))
  code_of depth form (instr.Scatter a i y k q) = Then (lane_checks a (own_index i) k q) (lane_stores a (own_index i) y k)
  code_of depth form (instr.StoreRun a i y k q) = store_run a i y k q
  code_of depth form (instr.PackedStore d a i y k q) = Then (lane_checks a (packed_index i k) k q) (Then (lane_stores a (packed_index i k) y k) (set_count d k))
  code_of depth form (instr.PackedLoad d a i y k q) = Then (lane_loads y a (packed_index i k) k q) (set_count d k)
  code_of depth form (instr.Jump to) = jump_to depth to
  code_of depth form (instr.JumpIf jump.False x to) = If (One (Eqz wasm.I32) (scalar_local x)) (jump_to (suc depth) to) Skip
  code_of depth form (instr.JumpIf jump.True x to) = If (scalar_local x) (jump_to (suc depth) to) Skip
  code_of depth form (instr.JumpIf jump.Off x to) = If (One (Eqz wasm.I32) (lanes_as_bits x)) (jump_to (suc depth) to) Skip
  code_of depth form (instr.JumpIf jump.On x to) = If (lanes_as_bits x) (jump_to (suc depth) to) Skip
  code_of depth form (instr.JumpIf jump.All x to) = If (Two (wasm.Compare wasm.I32 Eq) (lanes_as_bits x) (Const32 (2 ^ gang w - 1))) (jump_to (suc depth) to) Skip
  code_of depth form (instr.Say t) = Write (Const32 (w.text_at t)) (Const32 (length (text w t)))
  code_of depth form (instr.Call k) = call_code k
  code_of depth form (instr.PrintScalar x) = print_value (elem w x) (scalar_local x)
  code_of depth form (instr.PrintVector x k) = print_list x k
  code_of depth form (instr.Fail x q) = If (lanes_as_bits x) (fault 2 q (lowest_of x)) Skip
  code_of depth form (instr.Return None) = Return None
  code_of depth form (instr.Return (Some x)) = return_code x.class x
  code_of depth form (instr.Clear a k) = clear_if (is_per_lane w.routine a) a k

  abbrev pub code_at : ℕ → Form → Option Instr → Code
  code_at depth form None = Return None
  code_at depth form (Some i) = code_of depth form i

  -- so many instructions from one on
  abbrev pub span : ℕ → ℕ → ℕ → Code
  span depth pc zero = Skip
  span depth pc (suc n) = Then (code_at depth (w.forms w.home.fn pc) (slice_get w.routine.code pc)) (span depth (pc + 1) n)

  -- the code from a head to the next one; from rung k the loop is after the labels of all higher rungs
  abbrev pub rung : ℕ → Code
  rung k = span (w.rungs - suc k) (w.heads k) (w.heads (suc k) - w.heads k)

  -- control does not come after the loop; a function that gives something back is to end so
  abbrev pub function_code : Code
  function_code = Then (dispatched (w.local Counter) rung w.rungs) Unreachable

  -- ---- arrays that it opens

  -- where each begins, and its number of elements, from number a on; and where the next one lies
  abbrev pub arrays_code : List Opened → ℕ → Code
  arrays_code [] a = Skip
  arrays_code (l ∷ ls) a =
      Then (Set (w.local (Base a)) (Local (w.local Top)))
      (Then (Set (w.local (Count a)) (Const64 l.size))
      (Then (Set (w.local Top) (Two (Of wasm.I32 Add) (Local (w.local Top)) (Const32 (local_bytes (gang w) l)))) (arrays_code ls (suc a))))

  -- Their bytes are zeroed, and one after them: where there is no room for them, that traps.
  abbrev pub begin_code : List Opened → Code
  begin_code [] = Skip
  begin_code (l ∷ ls) = Then (Clear (Local (w.local Top)) (Const32 (suc (bytes_in (gang w) (l ∷ ls))))) (arrays_code (l ∷ ls) (passed w.routine))

  abbrev pub routine_code : Code
  routine_code = Then (begin_code w.routine.locals) function_code
