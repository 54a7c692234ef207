-- What tables that pass give of one function, and of one instruction.
use Rattle.std.proofs.Common.{◌≡◌, ℕ, zero, suc, ◌+◌, List, [], ◌∷◌, Some, true, ◌&&◌, sym, subst, arith}
use Rattle.std.proofs.lemmas.Bool.{and_parts}
use Rattle.std.specs.Prelude.{slice_get}
use Rattle.std.specs.List.{list_all}
use Rattle.isp_code.specs.Listing.{Listing, Routine}
use Rattle.isp_code.specs.declared.instr.Instr.{Instr}
use Rattle.isp_lanes_read.specs.Rows.{Row, Rows, row_in, table_at}
use Rattle.isp_lanes_read.specs.reader.Passing.{edges, edge_passes, reads_pass, call_passes, line_passes, lines_pass, begins_so, function_passes, functions_pass, passes}

module _ (code : Listing) where
  line_in : (table : List Row) (h : Routine) (from : ℕ) (is : List Instr) → lines_pass code table h from is ≡ true
      → (pc : ℕ) (i : Instr) → slice_get is pc ≡ Some i → line_passes code table h (from + pc) i ≡ true
  line_in table h from [] e pc i at = absurd cc
  line_in table h from (j ∷ is) e zero i at =
      let same : j ≡ i = cc in
      let here : from + 0 ≡ from = omega arith in
      subst (λ n. line_passes code table h n i ≡ true) (sym here) (subst (λ x. line_passes code table h from x ≡ true) same (and_parts (line_passes code table h from j) (lines_pass code table h (suc from) is) e).0)
  line_in table h from (j ∷ is) e (suc pc) i at =
      let here : from + suc pc ≡ suc from + pc = omega arith in
      subst (λ n. line_passes code table h n i ≡ true) (sym here) (line_in table h (suc from) is (and_parts (line_passes code table h from j) (lines_pass code table h (suc from) is) e).1 pc i at)

  function_in : (rows : Rows) (from : ℕ) (hs : List Routine) → functions_pass code rows from hs ≡ true
      → (f : ℕ) (h : Routine) → slice_get hs f ≡ Some h → function_passes code (table_at rows (from + f)) h ≡ true
  function_in rows from [] e f h at = absurd cc
  function_in rows from (g ∷ hs) e zero h at =
      let same : g ≡ h = cc in
      let here : from + 0 ≡ from = omega arith in
      subst (λ n. function_passes code (table_at rows n) h ≡ true) (sym here) (subst (λ x. function_passes code (table_at rows from) x ≡ true) same (and_parts (function_passes code (table_at rows from) g) (functions_pass code rows (suc from) hs) e).0)
  function_in rows from (g ∷ hs) e (suc f) h at =
      let here : from + suc f ≡ suc from + f = omega arith in
      subst (λ n. function_passes code (table_at rows n) h ≡ true) (sym here) (function_in rows (suc from) hs (and_parts (function_passes code (table_at rows from) g) (functions_pass code rows (suc from) hs) e).1 f h at)

  module _ (rows : Rows) (pass : passes code rows ≡ true) (f : ℕ) (h : Routine) (found : slice_get code.routines f ≡ Some h) where
    function_is : function_passes code (table_at rows f) h ≡ true
    function_is = let zero-on : 0 + f ≡ f = omega arith in subst (λ n. function_passes code (table_at rows n) h ≡ true) zero-on (function_in rows 0 code.routines pass f h found)

    pub begins : list_all begins_so (row_in (table_at rows f) 0).within ≡ true
    begins = (and_parts (list_all begins_so (row_in (table_at rows f) 0).within) (lines_pass code (table_at rows f) h 0 h.code) function_is).0

    module _ (pc : ℕ) (i : Instr) (at : slice_get h.code pc ≡ Some i) where
      line_is : line_passes code (table_at rows f) h pc i ≡ true
      line_is =
          let zero-on : 0 + pc ≡ pc = omega arith in
          subst (λ n. line_passes code (table_at rows f) h n i ≡ true) zero-on (line_in (table_at rows f) h 0 h.code
          (and_parts (list_all begins_so (row_in (table_at rows f) 0).within) (lines_pass code (table_at rows f) h 0 h.code) function_is).1 pc i at)

      parts_of : (reads_pass (row_in (table_at rows f) pc) (row_in (table_at rows f) (pc + 1)) h i ≡ true) × ((call_passes code h i && list_all (edge_passes (table_at rows f) (row_in (table_at rows f) pc) i) (edges pc i)) ≡ true)
      parts_of = and_parts (reads_pass (row_in (table_at rows f) pc) (row_in (table_at rows f) (pc + 1)) h i) (call_passes code h i && list_all (edge_passes (table_at rows f) (row_in (table_at rows f) pc) i) (edges pc i)) line_is

      pub read_passes : reads_pass (row_in (table_at rows f) pc) (row_in (table_at rows f) (pc + 1)) h i ≡ true
      read_passes = parts_of.0

      pub calls_pass : call_passes code h i ≡ true
      calls_pass = (and_parts (call_passes code h i) (list_all (edge_passes (table_at rows f) (row_in (table_at rows f) pc) i) (edges pc i)) parts_of.1).0

      pub edges_pass : list_all (edge_passes (table_at rows f) (row_in (table_at rows f) pc) i) (edges pc i) ≡ true
      edges_pass = (and_parts (call_passes code h i) (list_all (edge_passes (table_at rows f) (row_in (table_at rows f) pc) i) (edges pc i)) parts_of.1).1
