use Rattle.std.proofs.Common.{◌≡◌, drop}
use Rattle.isp_run_words.specs.Saying.{lengths_of, product_of}
use Rattle.isp_run_words.proofs.words.product.Given as goal

abbrev pub invariant-loop-byte : goal.invariant-loop-byte
invariant-loop-byte l = lengths_of l.text ≡ product_of l.read (drop l.byte-index l.text)
