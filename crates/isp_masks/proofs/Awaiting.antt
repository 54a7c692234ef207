-- Code that awaits its end: parts are added, then the jumps are written.
use Rattle.std.proofs.Common.{◌≡◌, ℕ, ◌+◌, ◌<◌, ◌≤◌, List, [], ◌∷◌, ◌++◌, length, refl, sym, ap, subst, ◌∙◌, arith, append_assoc, append-nil, length-append, true, zero, suc, Vec, Global}
use Rattle.std.specs.Prelude.{slice_index_or, slice_set}
use Rattle.std.proofs.lemmas.List.{set-append_left, length-set}
use Rattle.std.proofs.Math.Seq.{set-append_seam}
use Rattle.isp_base.specs.declared.types.Span.{Span}
use Rattle.isp_code.specs.declared.instr.Instr.{Instr}
use Rattle.isp_lower_code.specs.Instructions.{jump_off}
use Rattle.isp_lower.specs.Emitted.{Appends, texts_of}
use Rattle.isp_lower.specs.declared.types.Body.{Body}
use Rattle.isp_masks.specs.Awaited.{AreBelow, Awaits, Code, jump_where, set_all}
use Rattle.isp_masks_code.specs.Spots.{Numbers}
use Rattle.isp_masks.specs.AtWork.{next_of}
use Rattle.isp_masks.specs.Written.{Piece, Writes}
use Rattle.isp_masks.proofs.Writing.{beyond, next_beyond, texts_still}

length_set_all : (is : List Instr) (js : List ℕ) (i : Instr) → length (set_all is js i) ≡ length is
length_set_all is [] i = refl
length_set_all is (j ∷ js) i = length_set_all (slice_set is j i) js i ∙ length-set is j i

set_all_left : (is more : List Instr) (js : List ℕ) (i : Instr) → AreBelow (length is) js → set_all (is ++ more) js i ≡ set_all is js i ++ more
set_all_left is more [] i low = refl
set_all_left is more (j ∷ js) i low =
    ap (λ z. set_all z js i) (set-append_left is more j i low.0)
    ∙ set_all_left (slice_set is j i) more js i (subst (λ n. AreBelow n js) (sym (length-set is j i)) low.1)

set_all_last : (is : List Instr) (js : List ℕ) (j : ℕ) (i : Instr) → set_all is (js ++ j ∷ []) i ≡ slice_set (set_all is js i) j i
set_all_last is [] j i = refl
set_all_last is (h ∷ js) j i = set_all_last (slice_set is h i) js j i

below_more : (n m : ℕ) (js : List ℕ) → n ≤ m → AreBelow n js → AreBelow m js
below_more n m [] le low = tt
below_more n m (j ∷ js) le low = (omega (arith, le, low.0), below_more n m js le low.1)

below_last : (n j : ℕ) (js : List ℕ) → j < n → AreBelow n js → AreBelow n (js ++ j ∷ [])
below_last n j [] lt low = (lt, tt)
below_last n j (h ∷ js) lt low = (low.0, below_last n j js lt low.1)

pub below_at : (n : ℕ) (js : List ℕ) (i d : ℕ) → AreBelow n js → i < length js → slice_index_or js i d < n
below_at n [] i d low lt = absurd (omega (arith, lt))
below_at n (h ∷ js) zero d low lt = low.0
below_at n (h ∷ js) (suc i) d low lt = below_at n js i d low.1 (omega (arith, lt))

pub awaits_start : (o : Body) (k : ℕ) → Awaits o o [] k (λ t pc z. []) [] []
awaits_start o k = record { low = tt; code = λ t. sym (append-nil o.code.items); places = sym (append-nil o.places.items); texts = sym (append-nil (texts_of o)) }

-- how far the code reaches, whatever the jumps lead to
reaches : (o a : Body) (js : List ℕ) (k : ℕ) (c : Code) (p : List Span) (u : List (List ℕ)) → Awaits o a js k c p u → (t : ℕ) → length a.code.items ≡ length o.code.items + length (c t (length o.code.items) (next_of o))
reaches o a js k c p u x t =
    sym (length_set_all a.code.items js (jump_off k t)) ∙ ap length (x.code t) ∙ length-append o.code.items (c t (length o.code.items) (next_of o))

pub awaits_then : (o a b : Body) (js : List ℕ) (k : ℕ) (c : Code) (p : List Span) (u : List (List ℕ)) (f : Piece) → Awaits o a js k c p u → Writes a b f
    → Awaits o b js k (λ t pc z. c t pc z ++ f.code (pc + length (c t pc z)) (beyond p u z)) (p ++ f.places) (u ++ f.texts)
awaits_then o a b js k c p u f x y =
    let pc = length o.code.items in
    let n = next_of o in
    let part = f.code (length a.code.items) (next_of a) in
    record {
      low = below_more (length a.code.items) (length b.code.items) js (omega (arith, ap length y.code, length-append a.code.items part)) x.low;
      code = λ t.
          let i = jump_off k t in
          let one = c t pc n in
          ap (λ z. set_all z js i) y.code
          ∙ set_all_left a.code.items part js i x.low
          ∙ ap (λ z. z ++ part) (x.code t)
          ∙ append_assoc o.code.items one part
          ∙ ap (λ m. o.code.items ++ (one ++ f.code m (next_of a))) (reaches o a js k c p u x t)
          ∙ ap (λ m. o.code.items ++ (one ++ f.code (pc + length one) m)) (next_beyond o a p u x.places x.texts);
      places = y.places ∙ ap (λ z. z ++ f.places) x.places ∙ append_assoc o.places.items p f.places;
      texts = y.texts ∙ ap (λ z. z ++ f.texts) x.texts ∙ append_assoc (texts_of o) u f.texts;
    }

pub awaits_room : (o a b : Body) (js hs : List ℕ) (k : ℕ) (c : Code) (p : List Span) (u : List (List ℕ)) → Awaits o a js k c p u → hs ≡ js ++ length a.code.items ∷ []
    → Appends a b (λ pc n. jump_off k 0 ∷ []) [] → Awaits o b hs k (λ t pc z. c t pc z ++ jump_where true k t) p u
awaits_room o a b js hs k c p u x e y =
    let long : length b.code.items ≡ length a.code.items + 1 = ap length y.code ∙ length-append a.code.items (jump_off k 0 ∷ []) in
    record {
      low = subst (λ z. AreBelow (length b.code.items) z) (sym e)
          (below_last (length b.code.items) (length a.code.items) js (omega (arith, long)) (below_more (length a.code.items) (length b.code.items) js (omega (arith, long)) x.low));
      code = λ t.
          let i = jump_off k t in
          let before = set_all a.code.items js i in
          let one = c t (length o.code.items) (next_of o) in
          ap (λ z. set_all b.code.items z i) e
          ∙ set_all_last b.code.items js (length a.code.items) i
          ∙ ap (λ z. slice_set (set_all z js i) (length a.code.items) i) y.code
          ∙ ap (λ z. slice_set z (length a.code.items) i) (set_all_left a.code.items (jump_off k 0 ∷ []) js i x.low)
          ∙ ap (λ m. slice_set (before ++ jump_off k 0 ∷ []) m i) (sym (length_set_all a.code.items js i))
          ∙ set-append_seam before (jump_off k 0) [] i
          ∙ ap (λ z. z ++ i ∷ []) (x.code t)
          ∙ append_assoc o.code.items one (i ∷ []);
      places = y.places ∙ append-nil a.places.items ∙ x.places;
      texts = texts_still a b y.texts ∙ x.texts;
    }

pub awaits_so : (o a : Body) (js : List ℕ) (k : ℕ) (c d : Code) (p q : List Span) (u v : List (List ℕ)) → Awaits o a js k c p u → ((t pc : ℕ) (z : Numbers) → c t pc z ≡ d t pc z) → p ≡ q → u ≡ v → Awaits o a js k d q v
awaits_so o a js k c d p q u v x e f g =
    record {
      low = x.low;
      code = λ t. x.code t ∙ ap (λ z. o.code.items ++ z) (e t (length o.code.items) (next_of o));
      places = x.places ∙ ap (λ z. o.places.items ++ z) f;
      texts = x.texts ∙ ap (λ z. texts_of o ++ z) g;
    }

-- all jumps lead to the end
pub awaits_end : (o a d : Body) (js : List ℕ) (k : ℕ) (c : Code) (p : List Span) (u : List (List ℕ)) (g : ℕ → Numbers → List Instr) → Awaits o a js k c p u
    → d.code.items ≡ set_all a.code.items js (jump_off k (length a.code.items)) → d.places ≡ a.places → d.texts ≡ a.texts
    → ((t pc : ℕ) (z : Numbers) → t ≡ pc + length (c t pc z) → c t pc z ≡ g pc z) → Writes o d (record { code = g; places = p; texts = u })
awaits_end o a d js k c p u g x is same still e =
    let t = length a.code.items in
    record {
      code = is ∙ x.code t ∙ ap (λ z. o.code.items ++ z) (e t (length o.code.items) (next_of o) (reaches o a js k c p u x t));
      places = ap (λ (z : Vec Span Global). z.items) same ∙ x.places;
      texts = texts_still a d still ∙ x.texts;
    }
