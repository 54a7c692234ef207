-- The lines of arrays that a function opens, one array after the other.
use Rattle.std.proofs.Common.{◌≡◌, ℕ, ◌+◌, List, [], ◌∷◌, ◌++◌, ap, sym, ◌∙◌, add-one}
use Rattle.std.proofs.lemmas.List.{append_assoc}
use Rattle.isp_code.specs.declared.function.Local.{Local as Opened}
use Rattle.isp_wasm.specs.Places.{Setting, Base, Count, Top, gang}
use Rattle.isp_wasm.specs.Stack.{local_bytes}
use Rattle.isp_wasm.specs.Templates.{arrays_code}
use Rattle.isp_wasm_meaning.specs.Syntax.{Set, Two, Of, I32, Add, Local, Const32, Const64}
use Rattle.isp_wasm_binary.specs.Instructions.{code_bytes}

pub one_more : (w : Setting) (l : Opened) (ls : List Opened) (a : ℕ) → code_bytes (arrays_code w (l ∷ ls) a) ≡ code_bytes (arrays_code w (l ∷ []) a) ++ code_bytes (arrays_code w ls (a + 1))
one_more w l ls a =
    let base = code_bytes (Set (w.local (Base a)) (Local (w.local Top))) in
    let count = code_bytes (Set (w.local (Count a)) (Const64 l.size)) in
    let top = code_bytes (Set (w.local Top) (Two (Of I32 Add) (Local (w.local Top)) (Const32 (local_bytes (gang w) l)))) in
    let rest = code_bytes (arrays_code w ls (a + 1)) in
    rw (sym (add-one a)) (sym (append_assoc base (count ++ (top ++ [])) rest ∙ ap (λ bs. base ++ bs) (append_assoc count (top ++ []) rest ∙ ap (λ bs. count ++ bs) (append_assoc top [] rest))))
