-- What a text binds are arguments of the signature, and no longer than arguments may be.
use Rattle.std.proofs.Common.{◌≡◌, ℕ, ◌<◌, ◌^◌, List, [], ◌∷◌, Ok, arith, true, lit<}
use Rattle.std.specs.List.{AllByRecursion}
use Rattle.std.proofs.lemmas.List.Elements.{All-from_recursion}
use Rattle.isp_base.specs.Arguments.{IsShort, AreShort}
use Rattle.isp_base.specs.Binding.{has_signature}
use Rattle.isp_base.specs.declared.signature.Parameter.{Parameter}
use Rattle.isp_base.specs.declared.signature.Argument.{Argument}
use Rattle.isp_base.specs.declared.signature.Argument.TheVariants.{Value as AValue, Array as AnArray}
use Rattle.isp_bind.specs.Binding.{bound_of, longest}
use Rattle.isp_bind.proofs.Binds as binds
use Rattle.isp_bind.proofs.Shorts as bind
use Rattle.isp_bind.proofs.Shorts.{text_short}

few : longest < 2 ^ 63
few = lit< tt

each_short : (xs : List Argument) → AllByRecursion bind.IsShort xs → AllByRecursion IsShort xs
each_short [] h = tt
each_short (AValue v ∷ xs) h = (tt, each_short xs h.1)
each_short (AnArray a ∷ xs) h = (omega (arith, h.0, few), each_short xs h.1)

pub short : (ps : List Parameter) (text : List ℕ) (xs : List Argument) → bound_of ps text ≡ Ok xs → AreShort xs
short ps text xs e = All-from_recursion IsShort xs (each_short xs (text_short ps text xs e))

pub fits : (ps : List Parameter) (text : List ℕ) (xs : List Argument) → bound_of ps text ≡ Ok xs → has_signature ps xs ≡ true
fits ps text xs e = (binds.text_bound ps text xs e).kinds
