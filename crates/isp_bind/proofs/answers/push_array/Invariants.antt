use Rattle.std.proofs.Common.{◌≡◌, ◌++◌, nat_lt, map, drop, string_bytes, false}
use Rattle.serde_json.specs.View.{items_of}
use Rattle.serde_json.specs.Written.{items_text}
use Rattle.isp_bind.specs.Answering.{shown_bits}
use Rattle.isp_bind.proofs.answers.push_array.Given as goal

abbrev pub invariant-loop-place : goal.invariant-loop-place
invariant-loop-place l =
    string_bytes l.text ++ items_text (nat_lt 0 l.place) (items_of (map (shown_bits l.array.elem) (drop l.place l.array.bits)))
    ≡ string_bytes l.initial.text ++ items_text false (items_of (map (shown_bits l.array.elem) l.array.bits))
