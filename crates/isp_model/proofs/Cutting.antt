-- Arrays one by one, and elements one by one.
use Rattle.std.proofs.Common.{◌≡◌, refl, sym, ap, ap₂, ◌∙◌, ℕ, zero, suc, ◌+◌, ◌%◌, ◌^◌, ◌<◌, ◌≤◌, List, [], ◌∷◌, ◌++◌, length, drop, get_or, arith, append_assoc}
use Rattle.std.proofs.Math.Path.{fun_ext}
use Rattle.isp_base.specs.Arguments.{rows, tabulate}
use Rattle.isp_base.specs.Maps.{Lanes}
use Rattle.isp_base.specs.Rows.{Row}
use Rattle.isp_base.specs.Values.{width}
use Rattle.isp_base.specs.declared.types.Elem.{Elem}
use Rattle.isp_base.specs.declared.signature.Argument.{Argument}
use Rattle.isp_base.specs.declared.signature.Argument.TheVariants.{Value as AValue, Array as AnArray}
use Rattle.isp_type_laws.specs.Cut.{cut, one_cut, rows_cut}

pub tabulate_more : (n : ℕ) (f : Lanes) → tabulate (n + 1) f ≡ tabulate n f ++ f n ∷ []
tabulate_more n f = let e : n + 1 ≡ suc n = omega arith in ap (λ (k : ℕ). tabulate k f) e ∙ one n f
  where
    one : (n : ℕ) (f : Lanes) → tabulate (suc n) f ≡ tabulate n f ++ f n ∷ []
    one zero f = refl
    one (suc n) f = ap (λ xs. f 0 ∷ xs) (one n (λ i. f (suc i)))

drop_at : (k : ℕ) (xs : List Argument) (x : Argument) → k < length xs → x ≡ get_or xs k x → drop k xs ≡ x ∷ drop (suc k) xs
drop_at k [] x h e = absurd (omega (arith, h))
drop_at zero (y ∷ xs) x h e = ap (λ z. z ∷ xs) (sym e)
drop_at (suc k) (y ∷ xs) x h e = drop_at k xs x (omega (arith, h)) e

drop_all : (k : ℕ) (xs : List Argument) → length xs ≤ k → drop k xs ≡ []
drop_all zero [] h = refl
drop_all (suc k) [] h = refl
drop_all zero (x ∷ xs) h = absurd (omega (arith, h))
drop_all (suc k) (x ∷ xs) h = drop_all k xs (omega (arith, h))

append_nil : {A : Type 0} (xs : List A) → xs ++ [] ≡ xs
append_nil [] = refl
append_nil (x ∷ xs) = ap (λ ys. x ∷ ys) (append_nil xs)

long : {A : Type 0} (xs : List A) (x : A) → length (xs ++ x ∷ []) ≡ suc (length xs)
long [] x = refl
long (y ∷ xs) x = ap suc (long xs x)

-- the arrays so far, and those that are left, whose stores come next
abbrev pub cut_from : List Row → ℕ → List Argument → (ℕ → Lanes) → List Row
cut_from out k xs f = out ++ rows_cut (rows (drop k xs)) (λ b. f (length out + b))

pub one_array_more : (out new : List Row) (k : ℕ) (xs : List Argument) (x : Argument) (f : ℕ → Lanes) → k < length xs → x ≡ get_or xs k x → new ≡ out ++ one_cut x (f (length out)) → cut_from new (k + 1) xs f ≡ cut_from out k xs f
one_array_more out new k xs x f h e is =
    let i : k + 1 ≡ suc k = omega arith in
    ap₂ (λ (n : ℕ) (o : List Row). cut_from o n xs f) i is
    ∙ by x
    ∙ ap (λ ys. out ++ rows_cut (rows ys) (λ b. f (length out + b))) (sym (drop_at k xs x h e))
  where
    shifted : (r : Row) (b : ℕ) → f (length (out ++ r ∷ []) + b) ≡ f (length out + suc b)
    shifted r b = let m = long out r in ap f (omega (arith, m))

    here : f (length out) ≡ f (length out + 0)
    here = ap f (omega arith)

    by : (x : Argument) → cut_from (out ++ one_cut x (f (length out))) (suc k) xs f ≡ out ++ rows_cut (rows (x ∷ drop (suc k) xs)) (λ b. f (length out + b))
    by (AValue v) = ap (λ (o : List Row). cut_from o (suc k) xs f) (append_nil out)
    by (AnArray r) =
        append_assoc out (cut r (f (length out)) ∷ []) (rows_cut (rows (drop (suc k) xs)) (λ b. f (length (out ++ cut r (f (length out)) ∷ []) + b)))
        ∙ ap₂ (λ (g : Lanes) (j : ℕ → Lanes). out ++ (cut r g ∷ rows_cut (rows (drop (suc k) xs)) j)) here (fun_ext (shifted (cut r (f (length out)))))

pub arrays_begin : (xs : List Argument) (f : ℕ → Lanes) → cut_from [] 0 xs f ≡ rows_cut (rows xs) f
arrays_begin xs f = ap (rows_cut (rows xs)) (fun_ext (λ b. ap f (omega arith)))

pub arrays_end : (out : List Row) (k : ℕ) (xs : List Argument) (f : ℕ → Lanes) → length xs ≤ k → cut_from out k xs f ≡ out
arrays_end out k xs f h = ap (λ ys. out ++ rows_cut (rows ys) (λ b. f (length out + b))) (drop_all k xs h) ∙ append_nil out

pub cut_more : (t u : Elem) (g : Lanes) (k v b : ℕ) (now new : Row) → now ≡ record { elem = t; bits = tabulate k (λ i. g i % 2 ^ width t) } → u ≡ t → v ≡ g k → b ≡ v % 2 ^ width u → new ≡ record { elem = now.elem; bits = now.bits ++ b ∷ [] }
    → new ≡ record { elem = t; bits = tabulate (k + 1) (λ i. g i % 2 ^ width t) }
cut_more t u g k v b now new is eu ev eb en =
    en
    ∙ ap (λ (r : Row). record r { bits = r.bits ++ b ∷ [] }) is
    ∙ ap (λ (c : ℕ). made (tabulate k (λ i. g i % 2 ^ width t) ++ c ∷ [])) (eb ∙ ap₂ (λ (x : ℕ) (w : Elem). x % 2 ^ width w) ev eu)
    ∙ ap made (sym (tabulate_more k (λ i. g i % 2 ^ width t)))
  where
    made : List ℕ → Row
    made xs = record { elem = t; bits = xs }
