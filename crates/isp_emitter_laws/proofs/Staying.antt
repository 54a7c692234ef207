-- Where rows are added, code lies as it did.
use Rattle.std.proofs.Common.{◌≡◌, ℕ, zero, suc, ◌-◌, List, [], ◌∷◌, ◌++◌, length, Bool, true, refl, sym, ap, ◌∙◌, append_assoc, append-nil}
use Rattle.std.specs.Prelude.{is_some}
use Rattle.isp_base.specs.declared.types.Elem.{Elem}
use Rattle.isp_base.specs.declared.types.Rate.{Rate}
use Rattle.isp_base.specs.declared.types.Rate.TheVariants.{Uniform, Varying}
use Rattle.isp_lower_code.specs.Asks.{Ask, Nothing, Both, Register, ArrayOf, LocalOf, MaskOf, Number, Loads, expr_asks, simple_asks}
use Rattle.isp_lower_code.specs.FirstRows.{Begins}
use Rattle.isp_registers.specs.Growth.{Grows, HasRow, rows_of}
use Rattle.isp_lower_code.specs.Layout.{Layout}
use Rattle.isp_registers.specs.Reserved.{Has}
use Rattle.isp_lower_code.specs.Rows.{keeps as keeps_constant, Name, Variable, Fresh, Row, Rows, elem_in, number_in, rows_at, layout_of, with_fresh, with_fresh_from, with_fresh_from_at, with_many_fresh}
use Rattle.isp_registers.specs.declared.registers.Registers.{Registers}
use Rattle.isp_registers.specs.declared.reserve.Reserve.{Reserve}
use Rattle.isp_emitter_laws.specs.Staying.{KeepsPlaces, RegistersGrow, CodeStays}
use Rattle.isp_emitter_laws.proofs.Rows.{fresh_keeps, kept_number, numbered_in, same_number}
use Rattle.isp_emitter_laws.proofs.Same.{Alike, SameIn, found_same}
use Rattle.isp_emitter_laws.proofs.SameCode.{code_same}
use Rattle.isp_emitter_laws.proofs.SameSimple.{simple_same}

-- ---- rows that are added

begins_same : (xs ys : List Row) → ys ≡ xs → Begins xs ys
begins_same xs ys e = record { more = []; is = e ∙ sym (append-nil xs) }

begins_on : (xs ys zs : List Row) → Begins xs ys → Begins ys zs → Begins xs zs
begins_on xs ys zs a b =
    record { more = a.more ++ b.more; is = b.is ∙ ap (λ w. w ++ b.more) a.is ∙ append_assoc xs a.more b.more }

begins_fresh : (t : Elem) (xs ys : List Row) → ys ≡ with_fresh t xs → Begins xs ys
begins_fresh t xs ys e = record { more = record { name = Fresh (length xs); elem = t } ∷ []; is = e }

begins_many : (k : ℕ) (t : Elem) (xs : List Row) → Begins xs (with_many_fresh k t xs)
begins_many zero t xs = begins_same xs xs refl
begins_many (suc k) t xs = begins_on xs (with_fresh t xs) (with_many_fresh k t (with_fresh t xs)) (begins_fresh t xs (with_fresh t xs) refl) (begins_many k t (with_fresh t xs))

begins_from : (n : ℕ) (t : Elem) (xs ys : List Row) → ys ≡ with_fresh_from n t xs → Begins xs ys
begins_from n t xs ys e =
    let many = with_many_fresh (n - length xs) t xs in begins_on xs many ys (begins_many (n - length xs) t xs) (begins_fresh t many ys e)

many_keep : (k : ℕ) (t : Elem) (xs : List Row) (u : Elem) (b : ℕ) → keeps_constant (with_many_fresh k t xs) u b ≡ keeps_constant xs u b
many_keep zero t xs u b = refl
many_keep (suc k) t xs u b = many_keep k t (with_fresh t xs) u b ∙ fresh_keeps (length xs) t xs u b

from_keep : (n : ℕ) (t : Elem) (xs : List Row) (u : Elem) (b : ℕ) → keeps_constant (with_fresh_from n t xs) u b ≡ keeps_constant xs u b
from_keep n t xs u b =
    let many = with_many_fresh (n - length xs) t xs in fresh_keeps (length many) t many u b ∙ many_keep (n - length xs) t xs u b

same_grows : (old new : Registers) → rows_of new ≡ rows_of old → Grows old new
same_grows old new e =
    record {
      scalars = begins_same (rows_of old).scalars (rows_of new).scalars (ap (λ (r : Rows). r.scalars) e);
      vectors = begins_same (rows_of old).vectors (rows_of new).vectors (ap (λ (r : Rows). r.vectors) e);
      arrays = begins_same (rows_of old).arrays (rows_of new).arrays (ap (λ (r : Rows). r.arrays) e);
      loaded = begins_same (rows_of old).loaded (rows_of new).loaded (ap (λ (r : Rows). r.loaded) e);
      kept_scalars = λ u b. ap (λ (r : Rows). keeps_constant r.scalars u b) e;
      kept_vectors = λ u b. ap (λ (r : Rows). keeps_constant r.vectors u b) e;
    }

fresh_grows : (old new : Registers) (n : ℕ) (r : Rate) (t : Elem) → rows_of new ≡ with_fresh_from_at n r t (rows_of old) → Grows old new
fresh_grows old new n Uniform t e =
    record {
      scalars = begins_from n t (rows_of old).scalars (rows_of new).scalars (ap (λ (r : Rows). r.scalars) e);
      vectors = begins_same (rows_of old).vectors (rows_of new).vectors (ap (λ (r : Rows). r.vectors) e);
      arrays = begins_same (rows_of old).arrays (rows_of new).arrays (ap (λ (r : Rows). r.arrays) e);
      loaded = begins_same (rows_of old).loaded (rows_of new).loaded (ap (λ (r : Rows). r.loaded) e);
      kept_scalars = λ u b. ap (λ (r : Rows). keeps_constant r.scalars u b) e ∙ from_keep n t (rows_of old).scalars u b;
      kept_vectors = λ u b. ap (λ (r : Rows). keeps_constant r.vectors u b) e;
    }
fresh_grows old new n Varying t e =
    record {
      scalars = begins_same (rows_of old).scalars (rows_of new).scalars (ap (λ (r : Rows). r.scalars) e);
      vectors = begins_from n t (rows_of old).vectors (rows_of new).vectors (ap (λ (r : Rows). r.vectors) e);
      arrays = begins_same (rows_of old).arrays (rows_of new).arrays (ap (λ (r : Rows). r.arrays) e);
      loaded = begins_same (rows_of old).loaded (rows_of new).loaded (ap (λ (r : Rows). r.loaded) e);
      kept_scalars = λ u b. ap (λ (r : Rows). keeps_constant r.scalars u b) e;
      kept_vectors = λ u b. ap (λ (r : Rows). keeps_constant r.vectors u b) e ∙ from_keep n t (rows_of old).vectors u b;
    }

on_grows : (old mid new : Registers) → Grows old mid → Grows mid new → Grows old new
on_grows old mid new a b =
    record {
      scalars = begins_on (rows_of old).scalars (rows_of mid).scalars (rows_of new).scalars a.scalars b.scalars;
      vectors = begins_on (rows_of old).vectors (rows_of mid).vectors (rows_of new).vectors a.vectors b.vectors;
      arrays = begins_on (rows_of old).arrays (rows_of mid).arrays (rows_of new).arrays a.arrays b.arrays;
      loaded = begins_on (rows_of old).loaded (rows_of mid).loaded (rows_of new).loaded a.loaded b.loaded;
      kept_scalars = λ u z. b.kept_scalars u z ∙ a.kept_scalars u z;
      kept_vectors = λ u z. b.kept_vectors u z ∙ a.kept_vectors u z;
    }

pub registers_grow : RegistersGrow
registers_grow = record { same = same_grows; fresh = fresh_grows; on = on_grows }

-- with the variables that were loaded before
abbrev pub loaded_before : Registers → Registers → Registers
loaded_before old new = record new { loaded = old.loaded }

pub keeps_places : (old new : Registers) → Grows old new → KeepsPlaces old (loaded_before old new)
keeps_places old new g =
    record {
      grows = record { scalars = g.scalars; vectors = g.vectors; arrays = g.arrays; loaded = begins_same (rows_of old).loaded (rows_of old).loaded refl; kept_scalars = g.kept_scalars; kept_vectors = g.kept_vectors };
      loaded = refl;
    }

-- ---- so names lie where they did

module _ (rates : ℕ → List Rate) (old new : Reserve) (keeps : KeepsPlaces old.registers new.registers) where
  abbrev then : Layout
  then = layout_of rates (rows_of old.registers)

  abbrev now : Layout
  now = layout_of rates (rows_of new.registers)

  same_kept : (q : Rate) (t : Elem) (b : ℕ) → now.kept q t b ≡ then.kept q t b
  same_kept Uniform t b = keeps.grows.kept_scalars t b
  same_kept Varying t b = keeps.grows.kept_vectors t b

  same_constant : (q : Rate) (t : Elem) (b : ℕ) → then.kept q t b ≡ true → now.constant q t b ≡ then.constant q t b
  same_constant Uniform t b e = kept_number (rows_of old.registers).scalars (rows_of new.registers).scalars t b keeps.grows.scalars e
  same_constant Varying t b e = kept_number (rows_of old.registers).vectors (rows_of new.registers).vectors t b keeps.grows.vectors e

  alike : Alike now then
  alike =
      let loaded : (List Row → ℕ → Bool) = λ rows v. is_some (elem_in rows (Variable v)) in
      record { rates = refl; loaded = ap loaded keeps.loaded; first = refl; second = refl; no_first = λ i n. refl; no_second = λ i n. refl; kept = same_kept; constants = same_constant }

  row_number : (q : Rate) (x : Name) (t : Elem) → HasRow old.registers q x t → number_in (rows_at (rows_of new.registers) q) x ≡ number_in (rows_at (rows_of old.registers) q) x
  row_number Uniform x t f = same_number (rows_of old.registers).scalars (rows_of new.registers).scalars x t keeps.grows.scalars f
  row_number Varying x t f = same_number (rows_of old.registers).vectors (rows_of new.registers).vectors x t keeps.grows.vectors f

  same_in : (a : Ask) → Has old a → SameIn now then a
  same_in Nothing f = tt
  same_in (Both x y) f = (same_in x f.0, same_in y f.1)
  same_in (Register q x t) f =
      sym (numbered_in rates (rows_of new.registers) q x) ∙ row_number q x t f ∙ numbered_in rates (rows_of old.registers) q x
  same_in (ArrayOf b) f = same_number (rows_of old.registers).arrays (rows_of new.registers).arrays (Variable b.number) b.ty.elem keeps.grows.arrays f
  same_in (LocalOf b) f = same_number (rows_of old.registers).arrays (rows_of new.registers).arrays (Variable b.number) b.ty.elem keeps.grows.arrays f
  same_in (MaskOf k) f = tt
  same_in (Number k) f = tt
  same_in (Loads v) f = tt

pub code_stays : CodeStays
code_stays =
    record {
      exprs = λ rates old new x pc p k n keeps has. code_same (now rates old new keeps) (then rates old new keeps) (alike rates old new keeps) x pc p p k n refl (same_in rates old new keeps (expr_asks x n) has);
      simples = λ rates old new x pc p k n keeps has. simple_same (now rates old new keeps) (then rates old new keeps) (alike rates old new keeps) x pc p k n (same_in rates old new keeps (simple_asks x n) has);
      values = λ rates old new x n keeps has. found_same (now rates old new keeps) (then rates old new keeps) (alike rates old new keeps) x n (same_in rates old new keeps (expr_asks x n) has);
    }
