-- Parts of code: a jump over a part is written once the part stands; moves, and operators with their places.
use Rattle.std.proofs.Common.{◌≡◌, refl, sym, subst, ℕ, ◌+◌, List, [], ◌∷◌, ◌++◌, length, ap, ◌∙◌, arith, append_assoc, append-nil, length-append, Vec, Global}
use Rattle.std.specs.Prelude.{slice_set, ◌≢◌, Bool, true, false, nat_eq}
use Rattle.std.proofs.lemmas.Bool.{eqb-true, eqb-false}
use Rattle.isp_base.specs.Values.{divides}
use Rattle.isp_base.specs.declared.operators.BinOp.{BinOp}
use Rattle.isp_base.specs.declared.operators.BinOp.TheVariants as op
use Rattle.isp_base.specs.declared.types.Rate.{Rate}
use Rattle.isp_code.specs.declared.instr.Instr.TheVariants as instr
use Rattle.std.proofs.Math.Seq.{set-append_seam}
use Rattle.isp_base.specs.declared.types.Span.{Span}
use Rattle.isp_code.specs.declared.instr.Instr.{Instr}
use Rattle.isp_lower_code.specs.Code.{choose_code, choose_to, expr_code, expr_to}
use Rattle.isp_lower_code.specs.Found.{found, operand_of}
use Rattle.isp_lower_code.specs.Instructions.{copy, operate, select}
use Rattle.isp_lower_code.specs.Pieces.{choice, guard, move, move_code}
use Rattle.isp_lower_code.specs.Spans.{expr_places}
use Rattle.isp_lower_code.specs.Stays.{is_short}
use Rattle.isp_lower_code.specs.Layout.{Layout}
use Rattle.isp_lower.proofs.Staying.{short_silent}
use Rattle.isp_typed.specs.Typed.{TExpr, t_choose, type_of}
use Rattle.isp_base.specs.declared.types.Ty.{Ty}
use Rattle.isp_lower.specs.Emitted.{Appends}
use Rattle.isp_lower.specs.declared.types.Body.{Body}

-- nothing, and one part after the other
pub appends_self : (a : Body) → Appends a a (λ pc n. []) []
appends_self a = record { code = sym (append-nil a.code.items); places = sym (append-nil a.places.items); texts = refl }

pub appends_then : (a b c : Body) (f g : ℕ → ℕ → List Instr) (p q : List Span) → Appends a b f p → Appends b c g q → Appends a c (λ pc n. f pc n ++ g (pc + length (f pc n)) (n + length p)) (p ++ q)
appends_then a b c f g p q x y =
    let pc = length a.code.items in
    let n = length a.places.items in
    record {
      code =
          y.code
          ∙ ap (λ m. b.code.items ++ g m (length b.places.items)) (ap length x.code ∙ length-append a.code.items (f pc n))
          ∙ ap (λ m. b.code.items ++ g (pc + length (f pc n)) m) (ap length x.places ∙ length-append a.places.items p)
          ∙ ap (λ is. is ++ g (pc + length (f pc n)) (n + length p)) x.code
          ∙ append_assoc a.code.items (f pc n) (g (pc + length (f pc n)) (n + length p));
      places = y.places ∙ ap (λ s. s ++ q) x.places ∙ append_assoc a.places.items p q;
      texts = y.texts ∙ x.texts;
    }

-- a jump over a part: the code, and with what the part names
pub code_landed : (a b c d : List Instr) (at : ℕ) (x : Instr) (go : ℕ → Instr) (k : ℕ → List Instr)
    → at ≡ length a → b ≡ a ++ x ∷ [] → c ≡ b ++ k (length b) → d ≡ slice_set c at (go (length c)) → d ≡ a ++ guard go (length a) k
code_landed a b c d at x go k is one part set =
    let pc = length a in
    let body = k (pc + 1) in
    let from : length b ≡ pc + 1 = omega (arith, ap length one ∙ length-append a (x ∷ [])) in
    let was : c ≡ a ++ x ∷ body = part ∙ ap (λ m. b ++ k m) from ∙ ap (λ is. is ++ body) one ∙ append_assoc a (x ∷ []) body in
    let long : length c ≡ pc + 1 + length body = omega (arith, ap length was ∙ length-append a (x ∷ body)) in
    set ∙ ap (λ m. slice_set c m (go (length c))) is ∙ ap (λ is. slice_set is pc (go (length c))) was ∙ set-append_seam a x body (go (length c)) ∙ ap (λ m. a ++ go m ∷ body) long

pub landed : (a b c d : Body) (at : ℕ) (x : Instr) (go : ℕ → Instr) (k : ℕ → ℕ → List Instr) (p : List Span)
    → at ≡ length a.code.items → Appends a b (λ pc n. x ∷ []) [] → Appends b c k p
    → d.code.items ≡ slice_set c.code.items at (go (length c.code.items)) → d.places ≡ c.places → d.texts ≡ c.texts
    → Appends a d (λ pc n. guard go pc (λ pc1. k pc1 n)) p
landed a b c d at x go k p is one part set kept same =
    let n = length a.places.items in
    let none : b.places.items ≡ a.places.items = one.places ∙ append-nil a.places.items in
    let was = part.code ∙ ap (λ s. b.code.items ++ k (length b.code.items) (length s)) none in
    record {
      code = code_landed a.code.items b.code.items c.code.items d.code.items at x go (λ pc1. k pc1 n) is one.code was set;
      places = ap (λ (z : Vec Span Global). z.items) kept ∙ part.places ∙ ap (λ s. s ++ p) none;
      texts = same ∙ part.texts ∙ one.texts;
    }

-- One of two parts: a jump leads to the second, and one stands after the first. The first jump is written when both it and
-- the first part stand, the second at the end.
pub code_chosen : (a b c d e f g : List Instr) (at over : ℕ) (x o : Instr) (go : ℕ → Instr) (k m : ℕ → List Instr)
    → at ≡ length a → b ≡ a ++ x ∷ [] → c ≡ b ++ k (length b) → over ≡ length c → d ≡ c ++ o ∷ []
    → e ≡ slice_set d at (go (length d)) → f ≡ e ++ m (length e) → g ≡ slice_set f over (instr.Jump (length f)) → g ≡ a ++ choice go (length a) k m
code_chosen a b c d e f g at over x o go k m is first one last jump set two done =
    let pc = length a in
    let ka = k (pc + 1) in
    let from : length b ≡ pc + 1 = omega (arith, ap length first ∙ length-append a (x ∷ [])) in
    let behind : c ≡ a ++ x ∷ ka = one ∙ ap (λ z. b ++ k z) from ∙ ap (λ is. is ++ ka) first ∙ append_assoc a (x ∷ []) ka in
    let seat : over ≡ pc + 1 + length ka = omega (arith, last, ap length behind ∙ length-append a (x ∷ ka)) in
    let part : d ≡ b ++ (k (length b) ++ o ∷ []) = jump ∙ ap (λ is. is ++ o ∷ []) one ∙ append_assoc b (k (length b)) (o ∷ []) in
    let guarded = code_landed a b d e at x go (λ pc1. k pc1 ++ o ∷ []) is first part set in
    let head = pc + 1 + length (ka ++ o ∷ []) in
    let head_is : head ≡ pc + 1 + length ka + 1 = omega (arith, length-append ka (o ∷ [])) in
    let mid : length e ≡ pc + 1 + length ka + 1 = omega (arith, ap length guarded ∙ length-append a (go head ∷ (ka ++ o ∷ [])), length-append ka (o ∷ [])) in
    let mb = m (pc + 1 + length ka + 1) in
    let whole : f ≡ (a ++ go head ∷ ka) ++ o ∷ mb =
    two ∙ ap (λ z. e ++ m z) mid ∙ ap (λ is. is ++ mb) guarded
    ∙ append_assoc a (go head ∷ (ka ++ o ∷ [])) mb ∙ ap (λ z. a ++ go head ∷ z) (append_assoc ka (o ∷ []) mb) ∙ sym (append_assoc a (go head ∷ ka) (o ∷ mb)) in
    let long : length f ≡ pc + 1 + length ka + 1 + length mb = omega (arith, ap length whole, length-append (a ++ go head ∷ ka) (o ∷ mb), length-append a (go head ∷ ka)) in
    let there : over ≡ length (a ++ go head ∷ ka) = omega (arith, seat, length-append a (go head ∷ ka)) in
    done
    ∙ ap (λ zs. slice_set zs over (instr.Jump (length f))) whole
    ∙ ap (λ z. slice_set ((a ++ go head ∷ ka) ++ o ∷ mb) z (instr.Jump (length f))) there
    ∙ set-append_seam (a ++ go head ∷ ka) o mb (instr.Jump (length f))
    ∙ append_assoc a (go head ∷ ka) (instr.Jump (length f) ∷ mb)
    ∙ ap (λ z. a ++ go z ∷ (ka ++ instr.Jump (length f) ∷ mb)) head_is
    ∙ ap (λ z. a ++ go (pc + 1 + length ka + 1) ∷ (ka ++ instr.Jump z ∷ mb)) long

pub chosen : (a b c d e f g : Body) (at over : ℕ) (x o : Instr) (go : ℕ → Instr) (k m : ℕ → ℕ → List Instr) (p q : List Span)
    → at ≡ length a.code.items → Appends a b (λ pc n. x ∷ []) [] → Appends b c k p → over ≡ length c.code.items → Appends c d (λ pc n. o ∷ []) []
    → e.code.items ≡ slice_set d.code.items at (go (length d.code.items)) → e.places ≡ d.places → e.texts ≡ d.texts → Appends e f m q
    → g.code.items ≡ slice_set f.code.items over (instr.Jump (length f.code.items)) → g.places ≡ f.places → g.texts ≡ f.texts
    → Appends a g (λ pc n. choice go pc (λ pc1. k pc1 n) (λ pc1. m pc1 (n + length p))) (p ++ q)
chosen a b c d e f g at over x o go k m p q is first one last jump set kept held two done same still =
    let n = length a.places.items in
    let none : b.places.items ≡ a.places.items = first.places ∙ append-nil a.places.items in
    let mid : e.places.items ≡ a.places.items ++ p = ap (λ (z : Vec Span Global). z.items) kept ∙ jump.places ∙ append-nil c.places.items ∙ one.places ∙ ap (λ s. s ++ p) none in
    let named : length e.places.items ≡ n + length p = ap length mid ∙ length-append a.places.items p in
    let front = one.code ∙ ap (λ s. b.code.items ++ k (length b.code.items) (length s)) none in
    let back = two.code ∙ ap (λ z. e.code.items ++ m (length e.code.items) z) named in
    record {
      code =
          code_chosen a.code.items b.code.items c.code.items d.code.items e.code.items f.code.items g.code.items at over x o go (λ pc1. k pc1 n) (λ pc1. m pc1 (n + length p))
          is first.code front last jump.code set back done;
      places = ap (λ (z : Vec Span Global). z.items) same ∙ two.places ∙ ap (λ s. s ++ q) mid ∙ append_assoc a.places.items p q;
      texts = still ∙ two.texts ∙ held ∙ jump.texts ∙ one.texts ∙ first.texts;
    }

-- ---- single instructions

-- only a division has a place
pub operate_at : (r : Rate) (o : BinOp) (d x y k m n : ℕ) → (divides o ≡ true → m ≡ n) → operate r o d x y k m ≡ operate r o d x y k n
operate_at r op.Add d x y k m n e = refl
operate_at r op.Sub d x y k m n e = refl
operate_at r op.Mul d x y k m n e = refl
operate_at r op.Div d x y k m n e = ap (operate r op.Div d x y k) (e refl)
operate_at r op.Rem d x y k m n e = ap (operate r op.Rem d x y k) (e refl)
operate_at r op.And d x y k m n e = refl
operate_at r op.Or d x y k m n e = refl
operate_at r op.Xor d x y k m n e = refl
operate_at r op.Shl d x y k m n e = refl
operate_at r op.Shr d x y k m n e = refl
operate_at r op.Min d x y k m n e = refl
operate_at r op.Max d x y k m n e = refl

-- a move to another register is a copy
pub moved_other : (r : Rate) (d x k : ℕ) → d ≢ x → move_code r d x k ≡ copy r d x k ∷ []
moved_other r d x k e = go (nat_eq d x) refl
  where
    go : (t : Bool) → nat_eq d x ≡ t → move t r d x k ≡ copy r d x k ∷ []
    go true q = absurd (e (eqb-true d x q))
    go false q = refl

pub moved_same : (r : Rate) (d x k : ℕ) → d ≡ x → move_code r d x k ≡ []
moved_same r d x k e = go (nat_eq d x) refl
  where
    go : (t : Bool) → nat_eq d x ≡ t → move t r d x k ≡ []
    go true q = refl
    go false q = absurd (eqb-false d x q e)

-- ---- a choice, by what its tree says

pub short_chosen : (a b : Body) (l : Layout) (d : ℕ) (z x y : TExpr) (t : Ty) (k n : ℕ) → is_short l t.rate z x y ≡ true
    → Appends a b (λ pc p. expr_code l z pc p k n ++ select t.rate d (found l z n) (found l x n) (found l y n) k ∷ []) (expr_places l z)
    → (sp : Span) → Appends a b (λ pc p. expr_to l d (t_choose z x y t sp) pc p k n) (expr_places l (t_choose z x y t sp))
short_chosen a b l d z x y t k n short is sp =
    let one = λ (p pc m i : ℕ). operand_of l t.rate x m i (expr_code l x pc (p + length (expr_places l z)) m i) in
    let other = λ (p pc m i : ℕ). operand_of l t.rate y m i (expr_code l y pc (p + length (expr_places l z) + length (expr_places l x)) m i) in
    let places : expr_places l z ≡ expr_places l z ++ (expr_places l x ++ expr_places l y) =
    sym (append-nil (expr_places l z)) ∙ ap (λ s. expr_places l z ++ s) (sym (short_silent l t.rate z x y short)) in
    subst (λ s. Appends a b (λ pc p. expr_to l d (t_choose z x y t sp) pc p k n) s) places
    (subst (λ h. Appends a b (λ pc p. choose_to l h d z x y t pc k n (expr_code l z pc p k n) (one p) (other p)) (expr_places l z)) (sym short) is)

pub long_chosen : (a b : Body) (l : Layout) (r : Rate) (d : ℕ) (z x y : TExpr) (t : Ty) (k n : ℕ) → is_short l t.rate z x y ≡ false → r ≡ (type_of z).rate
    → Appends a b (λ pc p. choose_code l r t.rate t.elem x y (found l z n) pc k n (expr_code l z pc p k n)
    (λ pc1 m i. operand_of l t.rate x m i (expr_code l x pc1 (p + length (expr_places l z)) m i))
    (λ pc1 m i. operand_of l t.rate y m i (expr_code l y pc1 (p + length (expr_places l z) + length (expr_places l x)) m i)))
    (expr_places l z ++ (expr_places l x ++ expr_places l y))
    → (sp : Span) → Appends a b (λ pc p. expr_to l d (t_choose z x y t sp) pc p k n) (expr_places l (t_choose z x y t sp))
long_chosen a b l r d z x y t k n long rate is sp =
    let one = λ (p pc m i : ℕ). operand_of l t.rate x m i (expr_code l x pc (p + length (expr_places l z)) m i) in
    let other = λ (p pc m i : ℕ). operand_of l t.rate y m i (expr_code l y pc (p + length (expr_places l z) + length (expr_places l x)) m i) in
    let s = expr_places l z ++ (expr_places l x ++ expr_places l y) in
    subst (λ h. Appends a b (λ pc p. choose_to l h d z x y t pc k n (expr_code l z pc p k n) (one p) (other p)) s) (sym long)
    (subst (λ g. Appends a b (λ pc p. choose_code l g t.rate t.elem x y (found l z n) pc k n (expr_code l z pc p k n) (one p) (other p)) s) rate is)
