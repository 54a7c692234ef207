use Rattle.std.proofs.Common.{◌≡◌, List, [], ◌++◌, ℕ, sym, ap, ap₂, ◌∙◌}
use Rattle.std.proofs.lemmas.List.{append-nil}
use Rattle.isp_files.specs.Writing.{type_name}
use Rattle.isp_files.proofs.writing.dict.Goals as goal

-- three texts, one after the other
three_texts : (none one two three first name second told : List ℕ) → none ≡ [] → one ≡ none ++ first → two ≡ one ++ name → three ≡ two ++ second → name ≡ told → three ≡ ((first ++ told) ++ second) ++ []
three_texts none one two three first name second told e0 e1 e2 e3 e =
    e3 ∙ ap (λ (l : List ℕ). l ++ second) (e2 ∙ ap₂ (λ (l m : List ℕ). l ++ m) (e1 ∙ ap (λ (l : List ℕ). l ++ first) e0) e) ∙ sym (append-nil ((first ++ told) ++ second))

pub loop-length-init : goal.loop-length-init
loop-length-init c =
    three_texts c.new-bytes.result.items c.extend_from_slice.new.self.items c.extend_from_slice-2.new.self.items c.extend_from_slice-3.new.self.items _ c.type_name.result.now _ (type_name c.args.elem)
    c.new-bytes.ensures.items c.in_ok-extend_from_slice.ensures.items c.in_ok-extend_from_slice-2.ensures.items c.in_ok-extend_from_slice-3.ensures.items c.type_name.ensures
