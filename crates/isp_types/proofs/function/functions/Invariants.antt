use Rattle.std.proofs.Common.{◌≡◌, ℕ, List, take, drop, map, []}
use Rattle.std.specs.Prelude.{bytes_eq}
use Rattle.std.specs.List.{list_any}
use Rattle.std.specs.BTreeSet.{contains_text}
use Rattle.isp_tree.specs.declared.function.Function.{Function}
use Rattle.isp_tree.specs.Views.{function_of as read_function}
use Rattle.isp_typed.specs.Verdicts.{made}
use Rattle.isp_types.specs.reader.Boxes.{listed_functions}
use Rattle.isp_types.specs.Functions.{functions_typing}
use Rattle.isp_types.proofs.Joined.{joined}
use Rattle.isp_types.proofs.function.functions.Given as goal

abbrev pub invariant-loop-f : goal.invariant-loop-f
invariant-loop-f l = record {
  names : (w : List ℕ) → contains_text l.taken w ≡ list_any (λ n. bytes_eq n w) (map (λ (f : Function). f.word.name) (take l.f-index l.all));
  value : joined (made listed_functions l.done) (functions_typing l.setting.gang l.setting.headers.now (map (λ (f : Function). f.word.name) (take l.f-index l.all)) (map read_function (drop l.f-index l.all))).verdict
      ≡ (functions_typing l.setting.gang l.setting.headers.now [] (map read_function l.all)).verdict;
}
