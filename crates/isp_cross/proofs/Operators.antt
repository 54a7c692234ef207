-- The operators of the scans join values in any grouping.
use Rattle.std.proofs.Common.{◌≡◌, sym, ap, ◌∙◌, ℕ, ◌+◌, ◌-◌, ◌%◌, ◌^◌, ◌<◌, true, arith, mod-lt, mod-eq_of_lt, pow_pos, subst, bit_and, bit_or}
use Rattle.std.proofs.lemmas.Nat.{and_assoc, and_comm}
use Rattle.std.proofs.lemmas.Nat.Bits.{bit_at_or, same_from_bits}
use native.Mathlib.Nat.{add-mod-mod, mod-add-mod}
use Rattle.std.specs.Int.Bits.{or_zero_l, or_zero_r}
use lib.Bits.{and_lt, or_lt, and_mask}
use Rattle.isp_base.specs.declared.types.Elem.{Elem}
use Rattle.isp_base.specs.declared.operators.BinOp.{BinOp}
use Rattle.isp_base.specs.declared.operators.BinOp.TheVariants.{Add, Sub, Mul, Div, Rem, And, Or, Xor, Shl, Shr, Min, Max}
use Rattle.isp_base.specs.Values.{width, op_bits}
use Rattle.isp_base.proofs.Words.{low_of, word_add, word_and, word_or}
use Rattle.isp_base.specs.Cross.{neutral}
use Rattle.isp_cross.specs.Scans.{scans}
use Rattle.isp_cross.proofs.Spans.{Joins}

-- an operator on the numbers below 2 ^ w
joins_as : (w : ℕ) (f h : ℕ → ℕ → ℕ) (e : ℕ) → ((a b : ℕ) → a < 2 ^ w → b < 2 ^ w → h a b ≡ f a b) → Joins (λ a. a < 2 ^ w) h e → Joins (λ a. a < 2 ^ w) f e
joins_as w f h e same j =
    let into : (a b : ℕ) → a < 2 ^ w → b < 2 ^ w → f a b < 2 ^ w = λ a b p q. subst (λ (c : ℕ). c < 2 ^ w) (same a b p q) (j.closed a b p q) in
    record {
      unit = j.unit;
      closed = into;
      left = λ a p. sym (same e a j.unit p) ∙ j.left a p;
      right = λ a p. sym (same a e p j.unit) ∙ j.right a p;
      groups = λ a b c p q r.
          sym (same (f a b) c (into a b p q) r) ∙ ap (λ d. h d c) (sym (same a b p q)) ∙ j.groups a b c p q r
          ∙ ap (h a) (same b c q r) ∙ same a (f b c) p (into b c q r);
    }

sums : (w : ℕ) → Joins (λ a. a < 2 ^ w) (λ a b. (a + b) % 2 ^ w) 0
sums w = record {
  unit = pow_pos w;
  closed = λ a b p q. mod-lt (a + b) (pow_pos w);
  left = λ a p. ap (λ c. c % 2 ^ w) (let i : 0 + a ≡ a = omega arith in i) ∙ mod-eq_of_lt p;
  right = λ a p. ap (λ c. c % 2 ^ w) (let i : a + 0 ≡ a = omega arith in i) ∙ mod-eq_of_lt p;
  groups = λ a b c p q r. mod-add-mod (a + b) (2 ^ w) c ∙ ap (λ d. d % 2 ^ w) (let i : a + b + c ≡ a + (b + c) = omega arith in i) ∙ sym (add-mod-mod a (b + c) (2 ^ w));
}

alls : (w : ℕ) → Joins (λ a. a < 2 ^ w) bit_and (2 ^ w - 1)
alls w = record {
  unit = omega (arith, pow_pos w);
  closed = λ a b p q. and_lt w a b p q;
  left = λ a p. and_comm (2 ^ w - 1) a ∙ and_mask a w ∙ mod-eq_of_lt p;
  right = λ a p. and_mask a w ∙ mod-eq_of_lt p;
  groups = λ a b c p q r. and_assoc c a b;
}

or_assoc : (a b c : ℕ) → bit_or (bit_or a b) c ≡ bit_or a (bit_or b c)
or_assoc a b c = same_from_bits _ _ (λ i. omega (arith, bit_at_or (bit_or a b) c i, bit_at_or a b i, bit_at_or a (bit_or b c) i, bit_at_or b c i))

anys : (w : ℕ) → Joins (λ a. a < 2 ^ w) bit_or 0
anys w = record {
  unit = pow_pos w;
  closed = λ a b p q. or_lt w a b p q;
  left = λ a p. or_zero_l a;
  right = λ a p. or_zero_r a;
  groups = λ a b c p q r. or_assoc a b c;
}

pub scan_joins : (op : BinOp) (t : Elem) → scans op ≡ true → Joins (λ a. a < 2 ^ width t) (op_bits op t) (neutral op t)
scan_joins Add t h = joins_as (width t) (op_bits Add t) (λ a b. (a + b) % 2 ^ width t) 0 (λ a b p q. sym (low_of t (a + b)) ∙ word_add t a b p q) (sums (width t))
scan_joins And t h = joins_as (width t) (op_bits And t) bit_and (2 ^ width t - 1) (λ a b p q. word_and t a b p q) (alls (width t))
scan_joins Or t h = joins_as (width t) (op_bits Or t) bit_or 0 (λ a b p q. word_or t a b p q) (anys (width t))
scan_joins Sub t h = cc
scan_joins Mul t h = cc
scan_joins Div t h = cc
scan_joins Rem t h = cc
scan_joins Xor t h = cc
scan_joins Shl t h = cc
scan_joins Shr t h = cc
scan_joins Min t h = cc
scan_joins Max t h = cc
