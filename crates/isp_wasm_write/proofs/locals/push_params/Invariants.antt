use Rattle.std.proofs.Common.{◌≡◌, ◌++◌, ◌≤◌, map, drop}
use Rattle.isp_wasm_write.specs.Places.{place_of}
use Rattle.isp_wasm_write.specs.reader.Given.{given_from}
use Rattle.isp_wasm_write.proofs.locals.push_params.Given as goal

-- the places so far, and those of the other parameters
abbrev pub invariant-loop-param : goal.invariant-loop-param
invariant-loop-param l = record {
  scalars : l.before.scalars ≤ l.param-index;
  vectors : l.before.vectors ≤ l.param-index;
  arrays : l.before.arrays ≤ l.param-index;
  same : map place_of l.out.items ++ given_from l.caller l.lanes (drop l.param-index l.params) l.before.scalars l.before.vectors l.before.arrays ≡ map place_of l.initial.out.items ++ given_from l.caller l.lanes l.params 0 0 0;
}
