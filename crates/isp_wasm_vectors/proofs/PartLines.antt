-- What an instruction does that goes part by part.
use Rattle.std.proofs.Common.{◌≡◌, ℕ, Bool, true, false, refl, sym, ap, ◌∙◌, subst}
use Rattle.isp_code.specs.declared.instr.Plain.{Plain}
use Rattle.isp_code.specs.declared.instr.Plain.TheVariants as plain
use Rattle.isp_code.specs.declared.instr.VectorInstr.{VectorInstr}
use Rattle.isp_code.specs.declared.instr.VectorInstr.TheVariants as vector
use Rattle.isp_code.specs.declared.register.Register.{Register}
use Rattle.isp_forms.specs.declared.form.Form.{Form}
use Rattle.isp_forms.specs.declared.form.Form.TheVariants.{Kept}
use Rattle.isp_base.specs.declared.types.Elem.{Elem}
use Rattle.isp_wasm.specs.Places.{Setting, elem}
use Rattle.isp_wasm.specs.Templates.{vector_code}
use Rattle.isp_wasm_binary.specs.Instructions.{code_bytes}
use Rattle.isp_wasm_vectors.specs.declared.shifts.Shifted.{Shifted}
use Rattle.isp_wasm_vectors.specs.reader.Shifts.{operator, lanes_set as shifts_set}
use Rattle.isp_wasm_vectors.specs.reader.Vectors.{known, lanes_set}

pub in_parts : (w : Setting) (form : Form) (d : Register) (i : VectorInstr) → ((a x k : Register) (q : ℕ) → i ≡ vector.Gather a x k q → ⊥) → ((a x k : Register) (q : ℕ) → i ≡ vector.LoadRun a x k q → ⊥)
    → ((o : Plain) (x y k : Register) → i ≡ vector.Binary o x y k → ⊥)
    → code_bytes (lanes_set w form d i) ≡ code_bytes (vector_code w form d i)
in_parts w form d (vector.Copy x k) g l b = refl
in_parts w form d (vector.Convert x k) g l b = refl
in_parts w form d (vector.Unary o x k) g l b = refl
in_parts w form d (vector.Binary o x y k) g l b = absurd (b o x y k refl)
in_parts w form d (vector.Compare o x y k) g l b = refl
in_parts w form d (vector.Select t x y k) g l b = refl
in_parts w form d (vector.Splat x k) g l b = refl
in_parts w form d (vector.Index k) g l b = refl
in_parts w form d (vector.Gather a x k q) g l b = absurd (g a x k q refl)
in_parts w form d (vector.LoadRun a x k q) g l b = absurd (l a x k q refl)
in_parts w form d (vector.Scan o x k) g l b = refl
in_parts w form d (vector.Exchange e x y k) g l b = refl
in_parts w form d (vector.Shuffle x y k) g l b = refl
in_parts w form d (vector.ShuffleTwo x y z k) g l b = refl
in_parts w form d (vector.Insert x y z k) g l b = refl

-- an operator whose right operand is known is written as it is without, unless it shifts
pub known_as_kept : (w : Setting) (form : Form) (b : ℕ) (d : Register) (i : VectorInstr) (o : Plain) (x y k : Register) → i ≡ vector.Binary o x y k → (o ≡ plain.Shl → ⊥) → (o ≡ plain.Shr → ⊥)
    → code_bytes (lanes_set w Kept d i) ≡ code_bytes (known w form b d i)
known_as_kept w form b d i o x y k e l r = subst (λ z. code_bytes (lanes_set w Kept d z) ≡ code_bytes (known w form b d z)) (sym e) (by o l r)
  where
    by : (o : Plain) → (o ≡ plain.Shl → ⊥) → (o ≡ plain.Shr → ⊥) → code_bytes (lanes_set w Kept d (vector.Binary o x y k)) ≡ code_bytes (known w form b d (vector.Binary o x y k))
    by plain.Add l r = refl
    by plain.Sub l r = refl
    by plain.Mul l r = refl
    by plain.And l r = refl
    by plain.Or l r = refl
    by plain.Xor l r = refl
    by plain.Min l r = refl
    by plain.Max l r = refl
    by plain.Shl l r = absurd (l refl)
    by plain.Shr l r = absurd (r refl)

-- one that shifts, as a shift by the number
pub known_as_shift : (w : Setting) (form : Form) (b : ℕ) (d : Register) (i : VectorInstr) (s : Shifted) (left : Bool) (o : Plain) (x y k : Register) (t : Elem) → i ≡ vector.Binary o x y k → o ≡ operator left
    → s ≡ record { to_left = left; elem = t; value = x; amount = b; mask = k } → t ≡ elem w d → code_bytes (shifts_set w form d s) ≡ code_bytes (known w form b d i)
known_as_shift w form b d i s left o x y k t at is made type =
    ap (λ z. code_bytes (shifts_set w form d z)) (made ∙ ap (λ u. let z : Shifted = record { to_left = left; elem = u; value = x; amount = b; mask = k } in z) type)
    ∙ by left ∙ sym (ap (λ z. code_bytes (known w form b d z)) (at ∙ ap (λ p. vector.Binary p x y k) is))
  where
    by : (l : Bool) → code_bytes (shifts_set w form d (record { to_left = l; elem = elem w d; value = x; amount = b; mask = k })) ≡ code_bytes (known w form b d (vector.Binary (operator l) x y k))
    by true = refl
    by false = refl
