-- In a program that is fine each function is small: it has few nodes, so its body asks for small numbers and for few registers.
use Rattle.std.proofs.Common.{◌≡◌, ℕ, zero, suc, ◌<◌, ◌≤◌, List, [], ◌∷◌, length, get_or, Some, refl, subst, arith}
use Rattle.std.specs.List.{All}
use Rattle.std.specs.Prelude.{slice_get}
use Rattle.std.proofs.lemmas.Option.{get_or_from_slice_get, slice_get_within}
use Rattle.isp_rates.specs.Accepted.{IsAccepted}
use Rattle.isp_typed.specs.Fine.{FineFunction}
use Rattle.isp_typed.specs.Nodes.{block_nodes}
use Rattle.isp_typed.specs.Typed.{TFunction, Program}
use Rattle.isp_masks_code.specs.Again.{block_again}
use Rattle.isp_masks_code.specs.Lowered.{IsSmall}
use Rattle.isp_masks_code.proofs.AgainFew.{block_twice}
use Rattle.isp_masks_code.proofs.AskNumbers.{block_numbers, block_registers}
use Rattle.isp_masks_code.proofs.Checked.{function_fits}
use Rattle.isp_masks_code.proofs.FewVariables.{functions_few, nodes_of_one, variables_few}

there : {A : Type 0} (xs : List A) (k : ℕ) (d : A) → k < length xs → slice_get xs k ≡ Some (get_or xs k d)
there [] k d lt = absurd (omega (arith, lt))
there (x ∷ xs) zero d lt = refl
there (x ∷ xs) (suc k) d lt = there xs k d (omega (arith, lt))

-- no node's code stands more than twice
pub functions_twice : (p : Program) → IsAccepted p → (f : ℕ) (h : TFunction) → slice_get p.functions f ≡ Some h → block_again h.body ≤ block_nodes h.body
functions_twice p is f h e =
    let fits = function_fits p is f h e in
    block_twice p.functions h.answer h.body fits.free fits.rated

one_small : (p : Program) → IsAccepted p → (f : ℕ) (h : TFunction) → slice_get p.functions f ≡ Some h → IsSmall h
one_small p is f h e =
    let fine = is.fine in
    let scoped = is.scoped in
    let few : length p.functions ≤ 16777216 = omega (arith, functions_few p, fine.few) in
    let own = subst (FineFunction p.functions) (get_or_from_slice_get p.functions f h h e) (fine.each f h (slice_get_within p.functions f h e)) in
    record {
      numbers = block_numbers p.functions h.variables few h.answer h.body 3 own.body (omega (arith, nodes_of_one p f h e, fine.few));
      registers = omega (arith, nodes_of_one p f h e, fine.few, variables_few p scoped f h e, block_registers h.answer h.body 3);
      twice = functions_twice p is f h e;
    }

pub functions_small : (p : Program) → IsAccepted p → All IsSmall p.functions
functions_small p is = λ k d lt. one_small p is k (get_or p.functions k d) (there p.functions k d lt)
