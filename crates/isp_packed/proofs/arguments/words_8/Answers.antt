use Rattle.std.proofs.Common.{◌≡◌, ℕ, sym, ap, ◌∙◌, rules}
use Rattle.isp_packed.specs.reader.Bulk.{numbers}
use Rattle.isp_packed.proofs.Numbers.{one_numbers}
use Rattle.isp_packed.proofs.arguments.words_8.Goals as goal

pub returns : goal.returns
returns c =
    let bytes = c.args.bytes.now in
    let whole : c.extend_from_slice.new.self.items ≡ bytes = search rules in
    whole ∙ sym (ap (λ (n : ℕ). numbers 1 n bytes) (sym c.requires) ∙ one_numbers bytes)
