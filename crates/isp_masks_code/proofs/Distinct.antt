-- `foreach_unique` does what it means, where the code of its body does: by induction on the rounds that are left. In a turn the value of
-- the lowest lane that is left goes into the index, and those that hold it run.
use Rattle.std.proofs.Common.{◌≡◌, ◌≢◌, ℕ, zero, suc, ◌+◌, ◌*◌, ◌<◌, ◌≤◌, List, [], ◌∷◌, ◌++◌, length, Option, Some, None, Bool, true, false, refl, sym, ap, ap₂, ◌∙◌, ⊎_elim, subst, arith, eq-eqb, length-append}
use Rattle.std.specs.Prelude.{if◌then◌else◌, not, ◌&&◌}
use Rattle.std.proofs.Math.Path.{fun_ext}
use Rattle.std.proofs.lemmas.Bool.{cases_eq, ne_eqb}
use Rattle.std.proofs.lemmas.Bool.Decides.{Decides-int_eq}
use Rattle.isp_base.specs.Cross.{or_zero, and_this, best, fold_below}
use Rattle.isp_base.specs.Maps.{Lanes, on, over, or_old, each2, map2, holds, where_true, put}
use Rattle.isp_base.specs.Sets.{Mask, any, lowest, lone, without}
use Rattle.isp_base.specs.Truths.{is_true}
use Rattle.isp_base.specs.Values.{compare_bits, compare_to, convert_bits, number, op_bits}
use Rattle.isp_base.specs.declared.operators.BinOp.TheVariants as op
use Rattle.isp_base.specs.declared.operators.Compare.TheVariants.{Equal}
use Rattle.isp_base.specs.declared.types.Elem.{Elem}
use Rattle.isp_base.specs.declared.types.Elem.TheVariants.{Bool as Truth}
use Rattle.isp_base.specs.declared.types.Rate.TheVariants.{Uniform, Varying}
use Rattle.isp_code.specs.Conf.{Conf}
use Rattle.isp_code.specs.Lines.{reduced}
use Rattle.isp_code.specs.Registers.{elem_of}
use Rattle.isp_code.specs.declared.instr.Instr.{Instr}
use Rattle.isp_code.specs.declared.instr.Instr.TheVariants as instr
use Rattle.isp_code.specs.declared.instr.JumpTest.TheVariants as jump
use Rattle.isp_code.specs.declared.instr.Reduction.TheVariants as reduction
use Rattle.isp_typed.specs.Fine.{heads}
use Rattle.isp_typed.specs.Typed.{TExpr, elem_of as elem_in}
use Rattle.isp_meaning.specs.Expressions.{value}
use Rattle.isp_meaning.specs.Outcomes.{Res, with_value}
use Rattle.isp_meaning.specs.Payloads.{Payload, One, Each, converted, except, spread}
use Rattle.isp_meaning.specs.Rounds.{Round, have, holders, rounds, round_of_value, unique_rounds}
use Rattle.isp_meaning.specs.State.{State, tick}
use Rattle.isp_meaning.proofs.Distinct.{unique_first, unique_none}
use Rattle.isp_meaning.proofs.Members.{any_at, lowest_below, lowest_in, no_lowest}
use Rattle.isp_lower_code.specs.Code.{expr_code}
use Rattle.isp_lower_code.specs.Found.{operand, operand_of}
use Rattle.isp_lower_code.specs.Instructions.{compare, convert, copy, splat}
use Rattle.isp_lower_code.specs.Spans.{expr_places}
use Rattle.isp_lower_code.specs.Layout.{mask_register, register}
use Rattle.isp_lower_code.specs.Library.{reduce}
use Rattle.isp_lower_code.specs.Runs.{Comes, Ok}
use Rattle.isp_lower_code.specs.Setting.{Setting, IsSettled, gang_of, calls_of, AreAt, At, Stands, Spares, Allowed, Holds, held_at}
use Rattle.isp_lower_code.proofs.Lemmas.{are_front, are_back, put_same, put_other, comes_on, comes_none, step_go, at_to, spares_all, spares_less, spares_on, jumped, jump_comes, jump_at, masked, masked_at, where_comes}
use Rattle.isp_lower_code.proofs.Lemmas.{others_comes, set_at, set_comes, set_goes, set_spares, set_stands, variable_spares, written_stands, expr_runs, few, enters_part, operand_runs}
use Rattle.isp_masks_code.specs.LoopRuns.{BodyRuns}
use Rattle.isp_masks_code.specs.Loops.{copy_mask}
use Rattle.isp_masks_code.specs.Rounds.{Values, lowest_mask, rounds_code, unique_code, value_code, values_of}
use Rattle.isp_masks_code.specs.Spots.{Spot, body_spot}
use Rattle.isp_masks_code.specs.StmtRuns.{AreThree, EntersAt, StmtOk, StmtRuns}
use Rattle.isp_masks_code.proofs.Active.{some_lowest, and_first}
use Rattle.isp_masks_code.proofs.Combine.{stmt_after, go_runs, plain_ok, with_runs}
use Rattle.isp_masks_code.proofs.Parts.{UniqueFits}
use Rattle.isp_masks_code.proofs.Unmasked.{masks_stay}

-- ---- the lanes of a set, and their values

have_on : (a : Mask) (x : Lanes) → have (on a x) ≡ a
have_on a x = fun_ext (λ p. at (a p) p)
  where
    at : (b : Bool) (p : ℕ) → holds (λ y. true) (if b then Some (x p) else None) ≡ b
    at true p = refl
    at false p = refl

one_on : (a : Mask) (x : Lanes) (p : ℕ) → a p ≡ true → or_zero (on a x p) ≡ x p
one_on a x p e = ap (λ b. or_zero (if b then Some (x p) else None)) e

filled : (a : Mask) (x old : Lanes) → on a (over (on a x) old) ≡ on a x
filled a x old = fun_ext (λ p. at (a p) p)
  where
    at : (b : Bool) (p : ℕ) → (if b then Some (or_old (if b then Some (x p) else None) (old p)) else None) ≡ (if b then Some (x p) else None)
    at true p = refl
    at false p = refl

except_on : (a h : Mask) (x : Lanes) → except (on a x) h ≡ on (without a h) x
except_on a h x = fun_ext (λ p. at (h p) (a p) p)
  where
    at : (b d : Bool) (p : ℕ) → (if b then None else (if d then Some (x p) else None)) ≡ (if d && not b then Some (x p) else None)
    at true true p = refl
    at true false p = refl
    at false true p = refl
    at false false p = refl

-- a register that is written, and one that is not
now : {A : Type 0} (f : ℕ → A) (d : ℕ) (m y : A) → m ≡ y → put f d m d ≡ y
now f d m y e = put_same f d m ∙ e

unwritten : {A : Type 0} (f : ℕ → A) (d : ℕ) (m : A) (r : ℕ) (y : A) → r ≢ d → f r ≡ y → put f d m r ≡ y
unwritten f d m r y ne e = put_other f d m r ne ∙ e

-- those of a mask that are not in another are left in it
others_are : (c : Conf) (n m : ℕ) (a b : Mask) → c.masks n ≡ a → c.masks m ≡ b → put c.masks n (without (c.masks n) (c.masks m)) n ≡ without a b
others_are c n m a b e f = put_same c.masks n (without (c.masks n) (c.masks m)) ∙ ap₂ without e f

-- ---- the best of one value alone is that value

module _ (f : ℕ → ℕ → ℕ) (x : Lanes) (p : ℕ) where
  abbrev best_of : ℕ → Option ℕ
  best_of n = fold_below (best f) None (on (lone (Some p)) x) n

  none_below : (n : ℕ) → n ≤ p → best_of n ≡ None
  none_below zero le = refl
  none_below (suc n) le =
      let ne : n ≢ p = omega (arith, le) in
      ap₂ (and_this (best f)) (none_below n (omega (arith, le))) (ap (λ b. if b then Some (x n) else None) (ne_eqb n p ne))

  it_alone : (n : ℕ) → p < n → best_of n ≡ Some (x p)
  it_alone zero lt = absurd (omega (arith, lt))
  it_alone (suc n) lt =
      ⊎_elim (λ (e : n ≡ p). ap₂ (and_this (best f)) (none_below n (omega (arith, e))) (ap (λ b. if b then Some (x n) else None) (eq-eqb n p e)) ∙ ap (λ q. Some (x q)) e)
      (λ ne. ap₂ (and_this (best f)) (it_alone n (omega (arith, lt, ne))) (ap (λ b. if b then Some (x n) else None) (ne_eqb n p ne))) (cases_eq n p)

least_alone : (n p : ℕ) (u u1 : Elem) (m : Mask) (x x1 : Lanes) → p < n → u1 ≡ u → m ≡ lone (Some p) → x1 ≡ x → reduced reduction.Min u1 n (on m x1) ≡ x p
least_alone n p u u1 m x x1 lt eu em ex =
    ap (λ z. reduced reduction.Min z n (on m x1)) eu ∙ ap₂ (λ k f. reduced reduction.Min u n (on k f)) em ex ∙ ap or_zero (it_alone (op_bits op.Min u) x p n lt)

-- in another type, and in each lane
in_type : (u t u1 t1 : Elem) (y y1 : ℕ) → u1 ≡ u → t1 ≡ t → y1 ≡ y → convert_bits t1 (number u1 y1) ≡ converted u t y
in_type u t u1 t1 y y1 eu et ey = ap₂ (λ z f. convert_bits z (number f y1)) et eu ∙ ap (λ z. converted u t z) ey

in_lanes : (a m : Mask) (y : ℕ) (each old : Lanes) → m ≡ a → each ≡ over (on m (λ q. y)) old → on a each ≡ on a (λ q. y)
in_lanes a m y each old em e = ap (on a) e ∙ ap (λ k. on a (over (on k (λ q. y)) old)) em ∙ filled a (λ q. y) old

-- ---- who holds the value of one

module _ (u : Elem) (a : Mask) (x : Lanes) (p : ℕ) where
  abbrev has_value : ℕ → Bool
  has_value y = compare_to Equal (number u y) (number u (or_zero (on a x p)))

  holder_in : (q : ℕ) → holders u (on a x) p q ≡ true → a q ≡ true
  holder_in q h = at (a q) h
    where
      at : (b : Bool) → holds has_value (if b then Some (x q) else None) ≡ true → b ≡ true
      at true h1 = refl
      at false h1 = absurd (cc)

  holds_own : a p ≡ true → holders u (on a x) p p ≡ true
  holds_own h =
      ap (λ b. holds has_value (if b then Some (x p) else None)) h ∙ (Decides-int_eq (number u (x p)) (number u (or_zero (on a x p)))).1 (ap (number u) (sym (one_on a x p h)))

  -- a comparison of each with that value tells them
  compared : (y : ℕ) (old : Lanes) → y ≡ or_zero (on a x p) → where_true is_true (on a (over (map2 (compare_bits Equal u) (on a x) (on a (λ q. y))) old)) ≡ holders u (on a x) p
  compared y old e = fun_ext (λ q. at (a q) q)
    where
      bits_true : (b : Bool) → is_true (if b then 1 else 0) ≡ b
      bits_true true = refl
      bits_true false = refl

      at : (b : Bool) (q : ℕ) → holds is_true (if b then Some (or_old (each2 (compare_bits Equal u) (if b then Some (x q) else None) (if b then Some y else None)) (old q)) else None) ≡ holds has_value (if b then Some (x q) else None)
      at true q = bits_true (compare_to Equal (number u (x q)) (number u y)) ∙ ap (λ z. compare_to Equal (number u (x q)) (number u z)) e
      at false q = refl

  told : (u1 : Elem) (m : Mask) (x1 each same old : Lanes) (y : ℕ) → u1 ≡ u → m ≡ a → x1 ≡ x → on a each ≡ on a (λ q. y) → y ≡ or_zero (on a x p)
      → same ≡ over (map2 (compare_bits Equal u1) (on m x1) (on m each)) old → where_true is_true (on m same) ≡ holders u (on a x) p
  told u1 m x1 each same old y eu em ex all ey e =
      ap (λ f. where_true is_true (on m f)) e
      ∙ ap₂ (λ z k. where_true is_true (on k (over (map2 (compare_bits Equal z) (on k x1) (on k each)) old))) eu em
      ∙ ap₂ (λ f g. where_true is_true (on a (over (map2 (compare_bits Equal u) (on a f) g) old))) ex all
      ∙ compared y old ey

-- ---- the turns, with the values in a register of their own

module _ (w : Setting) (ready : IsSettled w) (spot : Spot) (i : ℕ) (t : Elem) (e : TExpr) (fit : UniqueFits w i t e spot.slot) (x : Lanes) where
  abbrev gang : ℕ
  gang = gang_of w

  abbrev n : ℕ
  n = spot.slot

  abbrev u : Elem
  u = elem_in e

  abbrev v : Values
  v = values_of w.layout u i n

  -- where these are left: the turn for the value of p, who holds it, and the others
  abbrev turn_of : Mask → ℕ → Round
  turn_of left p = round_of_value u t (on left x) i p

  abbrev like : Mask → ℕ → Mask
  like left p = holders u (on left x) p

  abbrev unlike : Mask → ℕ → Mask
  unlike left p = without left (like left p)

  -- a turn has begun: the index has the value, and mask n + 1 those that hold it
  record HasBegun (left : Mask) (p top : ℕ) (s : State) (c : Conf) : Type 0 where
    conf : Conf
    comes : Comes w c 7 conf
    at : At w conf (top + 7)
    taken : conf.masks (n + 1) ≡ like left p
    rest : conf.masks n ≡ unlike left p
    masks : (r : ℕ) → r < n → conf.masks r ≡ c.masks r
    held : conf.vectors v.all ≡ x
    spares : Spares w n c conf
    stands : Stands w ((turn_of left p).begins s) conf

  turn_begins : (left : Mask) (p top : ℕ) (s : State) (c : Conf) → lowest gang left ≡ Some p → AreAt w.routine.code top (value_code v n) → At w c top → c.masks n ≡ left → c.vectors v.all ≡ x → Stands w s c → HasBegun left p top s c
  turn_begins left p top s c low has at0 left0 held0 stands0 =
      let y = or_zero (on left x p) in
      let value_is : x p ≡ y = sym (one_on left x p (lowest_in gang left p low)) in
      let apart1 : n ≢ n + 1 = omega arith in
      let apart2 : n ≢ n + 2 = omega arith in
      let apart3 : n + 1 ≢ n = omega arith in
      -- the lowest alone
      let m1 = lone (lowest gang (c.masks n)) in
      let c1 = masked w ready c (n + 1) m1 in
      let at1 = masked_at w ready c top (n + 1) m1 at0 in
      let left1 : c1.masks n ≡ left = unwritten c.masks (n + 1) m1 n left apart1 left0 in
      let lone1 : c1.masks (n + 1) ≡ lone (Some p) = now c.masks (n + 1) m1 (lone (Some p)) (ap (λ m. lone (lowest gang m)) left0 ∙ ap lone low) in
      -- its value
      let y2 = reduced reduction.Min (elem_of w.routine (register Varying v.all)) gang (on (c1.masks (n + 1)) (c1.vectors v.all)) in
      let c2 = set_at Uniform c1 v.one (One y2) in
      let at2 = set_goes w ready Uniform c1 v.one (One y2) (top + 1) at1 in
      let least : y2 ≡ y = least_alone gang p u (elem_of w.routine (register Varying v.all)) (c1.masks (n + 1)) x (c.vectors v.all) (lowest_below gang left p low) fit.all lone1 held0 ∙ value_is in
      let one2 : c2.scalars v.one ≡ y = now c1.scalars v.one y2 y least in
      -- the index
      let y3 = convert_bits (elem_of w.routine (register Uniform v.index)) (number (elem_of w.routine (register Uniform v.one)) (c2.scalars v.one)) in
      let c3 = set_at Uniform c2 v.index (One y3) in
      let at3 = set_goes w ready Uniform c2 v.index (One y3) (top + 1 + 1) at2 in
      let index3 : y3 ≡ converted u t y = in_type u t (elem_of w.routine (register Uniform v.one)) (elem_of w.routine (register Uniform v.index)) y (c2.scalars v.one) fit.one fit.index one2 in
      let one3 : c3.scalars v.one ≡ y = unwritten c2.scalars v.index y3 v.one y (λ h. ready.apart.variable_spare Uniform u i (n + 1) (sym h)) one2 in
      -- the value in each lane
      let old = c3.vectors v.each in
      let x4 = on (c3.masks n) (λ q. c3.scalars v.one) in
      let c4 = set_at Varying c3 v.each (Each x4) in
      let at4 = set_goes w ready Varying c3 v.each (Each x4) (top + 1 + 1 + 1) at3 in
      let held4 : c4.vectors v.all ≡ x = unwritten c3.vectors v.each (over x4 old) v.all x (ready.apart.spares Varying u u n (n + 1) apart1) held0 in
      let each4 = in_lanes left (c3.masks n) (c3.scalars v.one) (c4.vectors v.each) old left1 (put_same c3.vectors v.each (over x4 old)) in
      -- who has it
      let was = c4.vectors v.same in
      let x5 = map2 (compare_bits Equal (elem_of w.routine (register Varying v.all))) (on (c4.masks n) (c4.vectors v.all)) (on (c4.masks n) (c4.vectors v.each)) in
      let c5 = set_at Varying c4 v.same (Each x5) in
      let at5 = set_goes w ready Varying c4 v.same (Each x5) (top + 1 + 1 + 1 + 1) at4 in
      let held5 : c5.vectors v.all ≡ x = unwritten c4.vectors v.same (over x5 was) v.all x (ready.apart.spares Varying u Truth n (n + 2) apart2) held4 in
      let m6 = where_true is_true (on (c5.masks n) (c5.vectors v.same)) in
      let c6 = masked w ready c5 (n + 1) m6 in
      let at6 = masked_at w ready c5 (top + 1 + 1 + 1 + 1 + 1) (n + 1) m6 at5 in
      let like6 = told u left x p (elem_of w.routine (register Varying v.all)) (c4.masks n) (c4.vectors v.all) (c4.vectors v.each) (c5.vectors v.same) was (c3.scalars v.one) fit.all left1 held4 each4 one3 (put_same c4.vectors v.same (over x5 was)) in
      let taken6 : c6.masks (n + 1) ≡ like left p = now c5.masks (n + 1) m6 (like left p) like6 in
      let left6 : c6.masks n ≡ left = unwritten c5.masks (n + 1) m6 n left apart1 left1 in
      -- the others
      let m7 = without (c6.masks n) (c6.masks (n + 1)) in
      let c7 = masked w ready c6 n m7 in
      -- step by step
      let step1 = step_go w c top (lowest_mask (n + 1) n) c1 ready at0 has.0 refl in
      let step2 = set_comes w ready Uniform c1 v.one (One y2) (top + 1) (reduce reduction.Min v.one v.all (n + 1)) at1 has.1.0 refl in
      let step3 = set_comes w ready Uniform c2 v.index (One y3) (top + 1 + 1) (convert Uniform v.index v.one 0) at2 has.1.1.0 refl in
      let step4 = set_comes w ready Varying c3 v.each (Each x4) (top + 1 + 1 + 1) (splat v.each v.one n) at3 has.1.1.1.0 refl in
      let step5 = set_comes w ready Varying c4 v.same (Each x5) (top + 1 + 1 + 1 + 1) (compare Varying Equal v.same v.all v.each n) at4 has.1.1.1.1.0 refl in
      let step6 = where_comes w ready c5 (top + 1 + 1 + 1 + 1 + 1) (n + 1) v.same n at5 has.1.1.1.1.1.0 in
      let step7 = others_comes w ready c6 (top + 1 + 1 + 1 + 1 + 1 + 1) n n (n + 1) at6 has.1.1.1.1.1.1.0 in
      let comes4 = comes_on w c c3 c4 3 1 (comes_on w c c2 c3 2 1 (comes_on w c c1 c2 1 1 step1 step2) step3) step4 in
      -- the state that the registers stand for
      let begun = (turn_of left p).begins s in
      let stands2 = set_stands w ready Uniform c1 u (n + 1) (One y2) s stands0 in
      let stands3 = written_stands w ready Uniform i c2 (like left p) (One (converted u t y)) (tick s) (One y3) stands2 (ap One (sym index3)) (tt, fit.single) in
      let spares3 = spares_on w n c c2 c3 (set_spares w ready Uniform c1 u n (n + 1) (One y2) (omega arith)) (variable_spares w ready Uniform i n c2 (One y3) fit.single) in
      record {
        conf = c7;
        comes = comes_on w c c6 c7 6 1 (comes_on w c c5 c6 5 1 (comes_on w c c4 c5 4 1 comes4 step5) step6) step7;
        at = at_to w c7 (top + 1 + 1 + 1 + 1 + 1 + 1 + 1) (top + 7) (masked_at w ready c6 (top + 1 + 1 + 1 + 1 + 1 + 1) n m7 at6) (omega arith);
        taken = unwritten c6.masks n m7 (n + 1) (like left p) apart3 taken6;
        rest = others_are c6 n (n + 1) left (like left p) left6 taken6;
        masks = λ r lt.
            let ne0 : r ≢ n = omega arith in
            let ne1 : r ≢ n + 1 = omega arith in
            unwritten c6.masks n m7 r (c.masks r) ne0 (unwritten c5.masks (n + 1) m6 r (c.masks r) ne1 (put_other c.masks (n + 1) m1 r ne1));
        held = held5;
        spares = spares_on w n c c4 c7 (spares_on w n c c3 c4 spares3 (set_spares w ready Varying c3 u n (n + 1) (Each x4) (omega arith))) (set_spares w ready Varying c4 Truth n (n + 2) (Each x5) (omega arith));
        stands = set_stands w ready Varying c4 Truth (n + 2) (Each x5) begun (set_stands w ready Varying c3 u (n + 1) (Each x4) begun stands3);
      }

  -- ---- the rounds

  abbrev rounds_of : Mask → List Round
  rounds_of left = unique_rounds gang u t i (on left x)

  -- the lowest comes first, and the others as if nobody else were there
  first_is : (left : Mask) (p : ℕ) → lowest gang left ≡ Some p → rounds_of left ≡ turn_of left p ∷ rounds_of (unlike left p)
  first_is left p low =
      unique_first gang u t i (on left x) p (ap (lowest gang) (have_on left x) ∙ low) ∙ ap (λ m. turn_of left p ∷ unique_rounds gang u t i m) (except_on left (like left p) x)

  none_left : (left : Mask) → any gang left ≡ false → rounds_of left ≡ []
  none_left left none = unique_none gang u t i (on left x) (ap (lowest gang) (have_on left x) ∙ no_lowest gang left none)

  module _ (three : AreThree spot) (all : Mask) (code : ℕ → List Instr) (body : Mask → State → Res) (runs : BodyRuns w (n + 1) code body) (top : ℕ) (has : AreAt w.routine.code top (rounds_code (value_code v n) n top code)) where
    abbrev k : ℕ
    k = spot.on

    abbrev end : ℕ
    end = top + length (rounds_code (value_code v n) n top code)

    -- the machine stands before a turn, with these left
    record BeforeTurn (left : Mask) (s : State) (c : Conf) : Type 0 where
      at : At w c top
      all_is : c.masks k ≡ all
      left_is : c.masks n ≡ left
      held : c.vectors v.all ≡ x
      stands : Stands w s c
      allowed : (p : ℕ) → left p ≡ true → Allowed w p

    -- a turn, and what follows it for those that are left
    turn_runs : (left : Mask) (p : ℕ) (rs : List Round) (s : State) (c : Conf) (q : ℕ) → lowest gang left ≡ Some p → BeforeTurn left s c → q ≤ 32 * s.work
        → ((s1 : State) (c1 : Conf) (z : ℕ) → any gang (unlike left p) ≡ true → BeforeTurn (unlike left p) s1 c1 → z ≤ 32 * s1.work → StmtRuns w w.turns c1 end spot z (rounds body all rs s1))
        → (any gang (unlike left p) ≡ false → rs ≡ [])
        → StmtRuns w w.turns c end spot q (rounds body all (turn_of left p ∷ rs) s)
    turn_runs left p rs s c q low b le again last =
        stmt_after w ready w.turns c c1 7 end spot q _ begun.comes begun.spares (λ r lt ne. begun.masks r lt) three
        (go_runs w ready w.turns c1 pc2 (body_spot (n + 1)) 1 (7 + q) (body (like left p) ((turn_of left p).begins s)) _ end spot
        (runs (like left p) ((turn_of left p).begins s) c1 pc1 (1 + (7 + q)) (are_front w.routine.code pc1 (code pc1) back behind) enters) (λ s1 g m ct rt was ok. after s1 g ct rt ok))
      where
        back : List Instr
        back = instr.JumpIf jump.On (mask_register n) top ∷ []

        pc1 : ℕ
        pc1 = top + 7

        pc2 : ℕ
        pc2 = pc1 + length (code pc1)

        begun : HasBegun left p top s c
        begun = turn_begins left p top s c low (are_front w.routine.code top (value_code v n) (code pc1 ++ back) has) b.at b.left_is b.held b.stands

        c1 : Conf
        c1 = begun.conf

        behind : AreAt w.routine.code pc1 (code pc1 ++ back)
        behind = are_back w.routine.code top (value_code v n) (code pc1 ++ back) has

        enters : EntersAt w pc1 (body_spot (n + 1)) (like left p) ((turn_of left p).begins s) c1 (1 + (7 + q))
        enters = record {
          at = begun.at;
          mask = begun.taken;
          some = any_at gang (like left p) p (lowest_below gang left p low) (holds_own u left x p (lowest_in gang left p low));
          inside = λ r h. b.allowed r (holder_in u left x p r h);
          stands = begun.stands;
          used = omega (arith, le);
          low = omega arith;
        }

        after : (s1 : State) (g ct rt : Mask) (ok : StmtOk w c1 pc2 (body_spot (n + 1)) (1 + (7 + q)) s1 g ct rt) → StmtRuns w w.turns c1 end spot (7 + q) (rounds body all rs s1)
        after s1 g ct rt ok =
            stmt_after w ready w.turns c1 c3 (ok.steps + 1) end spot (7 + q) _ (comes_on w c1 c2 c3 ok.steps 1 ok.comes (jump_comes w ready c2 pc2 jump.On (mask_register n) top ok.at jump_there.0))
            (spares_less w n (n + 1 + 3) c1 c2 (omega arith) ok.spares) (λ r lt ne. low2 r (omega arith)) three (go (any gang (unlike left p)) refl)
          where
            c2 : Conf
            c2 = ok.conf

            c3 : Conf
            c3 = jumped w ready c2 jump.On (mask_register n) top

            jump_there : AreAt w.routine.code pc2 back
            jump_there = are_back w.routine.code pc1 (code pc1) back behind

            ends : pc2 + 1 ≡ end
            ends = omega (arith, length-append (value_code v n) (code pc1 ++ back), length-append (code pc1) back)

            low2 : (r : ℕ) → r < n + 1 → c2.masks r ≡ c1.masks r
            low2 r lt = masks_stay w ready c1 pc2 (n + 1) (1 + (7 + q)) s1 g ct rt ok r lt

            left2 : c2.masks n ≡ unlike left p
            left2 = low2 n (omega arith) ∙ begun.rest

            all2 : c2.masks k ≡ all
            all2 =
                let kn : k < n = three.low_on in
                low2 k (omega (arith, kn)) ∙ begun.masks k kn ∙ b.all_is

            back_if : (z : Bool) → any gang (unlike left p) ≡ z → At w c3 (if z then top else pc2 + 1)
            back_if z h = jump_at w ready c2 pc2 jump.On (mask_register n) top z ok.at (ap (any gang) left2 ∙ h)

            go : (z : Bool) → any gang (unlike left p) ≡ z → StmtRuns w w.turns c3 end spot (ok.steps + 1 + (7 + q)) (rounds body all rs s1)
            go true h =
                let held2 : c2.vectors v.all ≡ x = ok.spares.vectors_stay u n (omega arith) ∙ begun.held in
                again s1 c3 (ok.steps + 1 + (7 + q)) h (record { at = back_if true h; all_is = all2; left_is = left2; held = held2; stands = ok.stands; allowed = λ r m. b.allowed r (and_first (left r) _ m) }) (omega (arith, ok.bound))
            go false h =
                subst (λ xs. StmtRuns w w.turns c3 end spot (ok.steps + 1 + (7 + q)) (rounds body all xs s1)) (sym (last h))
                (plain_ok w ready c3 c3 0 end spot (ok.steps + 1 + (7 + q)) all s1 (comes_none w c3) (at_to w c3 (pc2 + 1) end (back_if false h) ends) ok.stands (spares_all w n c3) (λ r lt. refl) three all2 (omega (arith, ok.bound)))

    turns_run : (rs : List Round) (left : Mask) (s : State) (c : Conf) (q : ℕ) → rounds_of left ≡ rs → any gang left ≡ true → BeforeTurn left s c → q ≤ 32 * s.work → StmtRuns w w.turns c end spot q (rounds body all rs s)
    turns_run [] left s c q same some b le =
        let low = some_lowest gang left some in
        let none : turn_of left low.0 ∷ rounds_of (unlike left low.0) ≡ [] = sym (first_is left low.0 low.1) ∙ same in
        absurd (let h : ⊥ = cc in h)
    turns_run (r ∷ rs) left s c q same some b le =
        let low = some_lowest gang left some in
        let p = low.0 in
        let both = sym (first_is left p low.1) ∙ same in
        let others : rounds_of (unlike left p) ≡ rs = tail_is (turn_of left p) r (rounds_of (unlike left p)) rs both in
        subst (λ y. StmtRuns w w.turns c end spot q (rounds body all (y ∷ rs) s)) (head_is (turn_of left p) r (rounds_of (unlike left p)) rs both)
        (turn_runs left p rs s c q low.1 b le (λ s1 c1 z more b1 le1. turns_run rs (unlike left p) s1 c1 z others more b1 le1) (λ none. sym others ∙ none_left (unlike left p) none))
      where
        head_is : (y z : Round) (ys zs : List Round) → y ∷ ys ≡ z ∷ zs → y ≡ z
        head_is y z ys zs h = cc

        tail_is : (y z : Round) (ys zs : List Round) → y ∷ ys ≡ z ∷ zs → ys ≡ zs
        tail_is y z ys zs h = cc

-- ---- the values first, then the turns

module _ (w : Setting) (ready : IsSettled w) (spot : Spot) (i : ℕ) (t : Elem) (e : TExpr) where
  -- the code of the values, and all of it, given the code of the body
  abbrev values_code : ℕ → ℕ → List Instr
  values_code pc p = operand_of w.layout Varying e spot.on spot.slot (expr_code w.layout e pc p spot.on spot.slot)

  abbrev whole_code : ℕ → ℕ → (ℕ → List Instr) → List Instr
  whole_code pc p code =
      unique_code (values_of w.layout (elem_in e) i spot.slot) (values_code pc p) (operand w.layout Varying e spot.slot) pc spot.on spot.slot code

  -- what it means, given what the body means
  abbrev meant : (Mask → State → Res) → Mask → State → Res
  meant body a s =
      with_value (value (gang_of w) w.frame (calls_of w) e a (tick s)) (λ m s1. rounds body a (unique_rounds (gang_of w) (elem_in e) t i (spread a m)) s1)

  pub unique_runs : (pc p q : ℕ) (a : Mask) (s : State) (c : Conf) (code : ℕ → List Instr) (body : Mask → State → Res) → UniqueFits w i t e spot.slot → BodyRuns w (spot.slot + 1) code body
      → AreAt w.routine.code pc (whole_code pc p code) → AreAt w.code.places p (expr_places w.layout e) → AreThree spot → EntersAt w pc spot a s c q → StmtRuns w w.turns c (pc + length (whole_code pc p code)) spot q (meant body a s)
  unique_runs pc p q a s c code body fit runs has places three b =
      let few_heads : heads e ≤ 1 = few w e slot fit.expr in
      with_runs w ready c pc1 slot 2 q (Holds Varying a y) (value (gang_of w) w.frame (calls_of w) e a (tick s)) _ end spot
      (operand_runs w ready c pc spot.on slot (32 + q) (2 + q) a (tick s) Varying (elem_in e) e ce fit.operand (omega arith) (enters_part w ready pc spot.on slot (32 + q) q a s c (omega arith) b) at_values
      (λ at. expr_runs w ready e pc p spot.on slot (32 + q) (1 + (2 + q)) a (tick s) c fit.expr at places (omega arith) (enters_part w ready pc spot.on slot (32 + q) q a s c (omega arith) b))) keeps
    where
      slot : ℕ
      slot = spot.slot

      own : ℕ
      own = w.layout.spare Varying (elem_in e) slot

      y : ℕ
      y = operand w.layout Varying e slot

      ce : List Instr
      ce = expr_code w.layout e pc p spot.on slot

      copies : List Instr
      copies = copy Varying own y spot.on ∷ copy_mask slot spot.on ∷ []

      before : List Instr
      before = values_code pc p ++ copies

      pc1 : ℕ
      pc1 = pc + length (values_code pc p)

      top : ℕ
      top = pc + length before

      turns : List Instr
      turns = rounds_code (value_code (values_of w.layout (elem_in e) i slot) slot) slot top code

      end : ℕ
      end = pc + length (whole_code pc p code)

      at_before : AreAt w.routine.code pc before
      at_before = are_front w.routine.code pc before turns has

      at_values : AreAt w.routine.code pc (values_code pc p)
      at_values = are_front w.routine.code pc (values_code pc p) copies at_before

      -- the values stay in a register of their own, and the set in mask n
      keeps : (m : Payload) (s1 : State) (ok : Ok w c pc1 slot (2 + q) (Holds Varying a y m) s1) → StmtRuns w w.turns c end spot q (rounds body a (unique_rounds (gang_of w) (elem_in e) t i (spread a m)) s1)
      keeps m s1 ok =
          let c1 = ok.conf in
          let old = c1.vectors own in
          let z = held_at Varying c1.scalars c1.vectors (c1.masks spot.on) y in
          let c2 = set_at Varying c1 own z in
          let c3 = masked w ready c2 slot (c2.masks spot.on) in
          let x = c2.vectors own in
          let at_copies : AreAt w.routine.code pc1 copies = are_back w.routine.code pc (values_code pc p) copies at_before in
          let at2 = set_goes w ready Varying c1 own z pc1 ok.at in
          let at3 = at_to w c3 (pc1 + 1 + 1) top (masked_at w ready c2 (pc1 + 1) slot (c2.masks spot.on) at2) (omega (arith, length-append (values_code pc p) copies)) in
          let step1 = set_comes w ready Varying c1 own z pc1 (copy Varying own y spot.on) ok.at at_copies.0 refl in
          let step2 = step_go w c2 (pc1 + 1) (copy_mask slot spot.on) c3 ready at2 at_copies.1.0 refl in
          let came = comes_on w c c1 c3 ok.steps 2 ok.comes (comes_on w c1 c2 c3 1 1 step1 step2) in
          let kept = spares_on w slot c c1 c3 ok.spares (set_spares w ready Varying c1 (elem_in e) slot slot z (omega arith)) in
          let all1 : c1.masks spot.on ≡ a = ok.masks spot.on b.low ∙ b.mask in
          let low3 : (r : ℕ) → r < slot → c3.masks r ≡ c.masks r = λ r lt.
          let ne : r ≢ slot = omega arith in
          put_other c2.masks slot (c2.masks spot.on) r ne ∙ ok.masks r lt in
          let values_are : on a x ≡ spread a m =
          ap (on a) (put_same c1.vectors own (over (on (c1.masks spot.on) (c1.vectors y)) old))
          ∙ ap (λ f. on a (over (on f (c1.vectors y)) old)) all1
          ∙ filled a (c1.vectors y) old
          ∙ sym (ap (spread a) ok.holds) in
          let stands3 = set_stands w ready Varying c1 (elem_in e) slot z s1 ok.stands in
          let ends : top + length turns ≡ end = omega (arith, length-append before turns) in
          stmt_after w ready w.turns c c3 (ok.steps + 2) end spot q _ came kept (λ r lt ne. low3 r lt) three
          (subst (λ f. StmtRuns w w.turns c3 f spot (ok.steps + 2 + q) (rounds body a (unique_rounds (gang_of w) (elem_in e) t i (spread a m)) s1)) ends
          (subst (λ f. StmtRuns w w.turns c3 (top + length turns) spot (ok.steps + 2 + q) (rounds body a (unique_rounds (gang_of w) (elem_in e) t i f) s1)) values_are
          (turns_run w ready spot i t e fit x three a code body runs top (are_back w.routine.code pc before turns has) (unique_rounds (gang_of w) (elem_in e) t i (on a x)) a s1 c3 (ok.steps + 2 + q) refl b.some
          (record { at = at3; all_is = low3 spot.on three.low_on ∙ b.mask; left_is = put_same c2.masks slot (c2.masks spot.on) ∙ all1; held = refl; stands = stands3; allowed = b.inside }) (omega (arith, ok.bound)))))
