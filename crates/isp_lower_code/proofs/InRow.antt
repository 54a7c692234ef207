-- Values in a row: each is in a register of its own slot, or in that of a variable or of a constant. What is so of each is told by their numbers.
use Rattle.std.proofs.Common.{◌≡◌, ◌≢◌, ℕ, suc, ◌+◌, ◌<◌, ◌≤◌, List, [], ◌∷◌, length, refl, sym, ap, ◌∙◌, arith, inl, inr}
use Rattle.std.specs.Prelude.{slice_index_or}
use Rattle.isp_base.specs.Sets.{Mask}
use Rattle.isp_base.specs.declared.types.Elem.{Elem}
use Rattle.isp_base.specs.declared.types.Elem.TheVariants.{Bool as Truth}
use Rattle.isp_base.specs.declared.types.Rate.{Rate}
use Rattle.isp_base.specs.declared.types.Ty.{Ty}
use Rattle.isp_code.specs.Conf.{Conf}
use Rattle.isp_typed.specs.Library.{parts}
use Rattle.isp_typed.specs.Typed.{TExprs, t_no_exprs, t_expr_then, type_of}
use Rattle.isp_typed.specs.declared.library.Library.{Library}
use Rattle.isp_typed.specs.declared.library.Part.{Part}
use Rattle.isp_meaning.specs.Library.{argument}
use Rattle.isp_meaning.specs.Payloads.{Payload}
use Rattle.isp_lower_code.specs.Callees.{next_rate, later}
use Rattle.isp_lower_code.specs.Code.{value_registers}
use Rattle.isp_lower_code.specs.Found.{operand}
use Rattle.isp_lower_code.specs.Library.{library_rates, rates_taken, register_at}
use Rattle.isp_lower_code.specs.Setting.{Setting, IsSettled, Holds}
use Rattle.isp_lower_code.specs.Tables.{IsTyped}
use Rattle.isp_lower_code.proofs.Found.{operand_placed, operand_typed}
use Rattle.isp_lower_code.proofs.Kept.{Placed}
use Rattle.isp_lower_code.proofs.LibraryTypes.{LibraryTyped, count_of, counts, elems_of, part_elems}
use Rattle.isp_lower_code.proofs.Parts.{ValuesParts}

-- of the register of each number from one on, for as many as there are rates
abbrev pub EachFrom : (ℕ → Rate → ℕ → Type 0) → List Rate → ℕ → List ℕ → Type 0
EachFrom P [] j xs = Unit {0}
EachFrom P (r ∷ rs) j xs = P j r (register_at xs j) × EachFrom P rs (suc j) xs

pub each_past : (P : ℕ → Rate → ℕ → Type 0) (rs : List Rate) (j x : ℕ) (xs : List ℕ) → EachFrom (λ i. P (suc i)) rs j xs → EachFrom P rs (suc j) (x ∷ xs)
each_past P [] j x xs h = tt
each_past P (r ∷ rs) j x xs h = (h.0, each_past P rs (suc j) x xs h.1)

-- ---- values that are held

abbrev pub AllHold : List Rate → Mask → List ℕ → List Payload → Conf → Type 0
AllHold rs a [] [] c = Unit {0}
AllHold rs a (x ∷ xs) (m ∷ ms) c = Holds (next_rate rs) a x m c × AllHold (later rs) a xs ms c
AllHold rs a xs ms c = ⊥

abbrev pub HoldFrom : List Rate → Mask → List ℕ → List Payload → Conf → Type 0
HoldFrom rs a xs ms c = EachFrom (λ j r x. Holds r a x (argument ms j) c) rs 0 xs

pub hold_from : (rs : List Rate) (a : Mask) (xs : List ℕ) (ms : List Payload) (c : Conf) → length rs ≤ length xs → AllHold rs a xs ms c → HoldFrom rs a xs ms c
hold_from [] a xs ms c le h = tt
hold_from (r ∷ rs) a [] ms c le h = absurd (omega (arith, le))
hold_from (r ∷ rs) a (x ∷ xs) [] c le h = absurd h
hold_from (r ∷ rs) a (x ∷ xs) (m ∷ ms) c le h =
    (h.0, each_past (λ j q y. Holds q a y (argument (m ∷ ms) j) c) rs 0 x xs (hold_from rs a xs ms c (omega (arith, le)) h.1))

-- ---- registers that have types, and those of later values, which are not of the first one's slot

-- the type of value j
abbrev pub elem_at : List Elem → ℕ → Elem
elem_at es j = slice_index_or es j Truth

module _ (w : Setting) where
  pub registers_count : (rs : List Rate) (xs : TExprs) (n : ℕ) → length (value_registers w.layout rs xs n) ≡ count_of xs
  registers_count rs t_no_exprs n = refl
  registers_count rs (t_expr_then x xs) n = ap suc (registers_count (later rs) xs (n + 1))

  abbrev pub TypedFrom : List Rate → List Elem → List ℕ → Type 0
  TypedFrom rs es xs = EachFrom (λ j r x. IsTyped w r x (elem_at es j)) rs 0 xs

  pub typed_from : IsSettled w → (rs : List Rate) (xs : TExprs) (n : ℕ) → length rs ≤ count_of xs → ValuesParts w rs xs n → TypedFrom rs (elems_of xs) (value_registers w.layout rs xs n)
  typed_from ready [] xs n le f = tt
  typed_from ready (r ∷ rs) t_no_exprs n le f = absurd (omega (arith, le))
  typed_from ready (r ∷ rs) (t_expr_then x xs) n le f = (
    operand_typed w ready r (type_of x).elem x n f.0 f.1,
    each_past (λ j q y. IsTyped w q y (elem_at (elems_of (t_expr_then x xs)) j)) rs 0
        (operand w.layout r x n) (value_registers w.layout rs xs (n + 1)) (typed_from ready rs xs (n + 1) (omega (arith, le)) f.2),
  )

  -- not a spare register of slot n
  abbrev pub IsAway : ℕ → Rate → ℕ → Type 0
  IsAway n r x = (t : Elem) → x ≢ w.layout.spare r t n

  module _ (ready : IsSettled w) where
    placed_away : (r : Rate) (n m x : ℕ) → n < m → Placed w r m x → IsAway n r x
    placed_away r n m x lt (inl v) t e = ready.apart.variable_spare r t v.0 n (sym v.2 ∙ e)
    placed_away r n m x lt (inr (inl u)) t e = let ne : m ≢ n = omega arith in ready.apart.spares r u.0 t m n ne (sym u.1 ∙ e)
    placed_away r n m x lt (inr (inr k)) t e = ready.apart.kept_spare r k.0 k.1 t n k.2 (sym k.3 ∙ e)

    pub away_from : (rs : List Rate) (xs : TExprs) (n m : ℕ) → n < m → length rs ≤ count_of xs → ValuesParts w rs xs m → EachFrom (λ j r x. IsAway n r x) rs 0 (value_registers w.layout rs xs m)
    away_from [] xs n m lt le f = tt
    away_from (r ∷ rs) t_no_exprs n m lt le f = absurd (omega (arith, le))
    away_from (r ∷ rs) (t_expr_then x xs) n m lt le f = (
      placed_away r n m (operand w.layout r x m) lt (operand_placed w ready r (type_of x).elem x m f.0 f.1),
      each_past (λ j q y. IsAway n q y) rs 0
          (operand w.layout r x m) (value_registers w.layout rs xs (m + 1)) (away_from rs xs n (m + 1) (omega arith) (omega (arith, le)) f.2),
    )

    -- all but the first
    pub others_away : (rs : List Rate) (xs : TExprs) (n : ℕ) → length rs ≤ count_of xs → ValuesParts w rs xs n → EachFrom (λ j r x. IsAway n r x) (later rs) 1 (value_registers w.layout rs xs n)
    others_away [] xs n le f = tt
    others_away (r ∷ rs) t_no_exprs n le f = absurd (omega (arith, le))
    others_away (r ∷ rs) (t_expr_then x xs) n le f =
        each_past (λ j q y. IsAway n q y) rs 0 (operand w.layout r x n) (value_registers w.layout rs xs (n + 1)) (away_from rs xs n (n + 1) (omega arith) (omega (arith, le)) f.2)

-- ---- a call of the library has as many values as parts

rates_count : (r : Rate) (ps : List Part) → length (rates_taken r ps) ≡ length ps
rates_count r [] = refl
rates_count r (p ∷ ps) = ap suc (rates_count r ps)

elems_count : (e : Elem) (ps : List Part) → length (part_elems e ps) ≡ length ps
elems_count e [] = refl
elems_count e (p ∷ ps) = ap suc (elems_count e ps)

pub enough : (f : Library) (e : Elem) (xs : TExprs) (t : Ty) (r : Rate) → LibraryTyped f e xs t → length (library_rates f r) ≤ count_of xs
enough f e xs t r is =
    let all : length (library_rates f r) ≡ count_of xs = rates_count _ (parts f) ∙ sym (elems_count e (parts f)) ∙ sym (ap length is.elems) ∙ counts xs in
    omega (arith, all)
