-- Two layouts in which what code asks for lies in the same registers: where values are found, and the parts that are no trees.
use Rattle.std.proofs.Common.{◌≡◌, ℕ, ◌+◌, List, [], ◌∷◌, ◌++◌, Option, Some, None, Bool, true, false, refl, sym, ap, ap₂, ◌∙◌}
use Rattle.std.specs.Prelude.{◌&&◌, not}
use Rattle.std.proofs.Math.Path.{fun_ext}
use Rattle.isp_base.specs.declared.types.Elem.{Elem}
use Rattle.isp_base.specs.declared.types.Elem.TheVariants.{I64}
use Rattle.isp_base.specs.declared.types.Rate.{Rate}
use Rattle.isp_base.specs.declared.types.Rate.TheVariants.{Uniform, Varying}
use Rattle.isp_base.specs.declared.types.Ty.{Ty}
use Rattle.isp_base.specs.declared.types.Value.{Value}
use Rattle.isp_code.specs.declared.instr.Instr.{Instr}
use Rattle.isp_meaning.specs.Calls.{same_rate}
use Rattle.isp_meaning.specs.Payloads.{converted}
use Rattle.isp_typed.specs.Typed.{TExpr, t_constant, t_program_index, t_place, t_convert, t_cast, t_unary, t_binary, t_compare, t_logic, t_choose, t_call, t_library, t_packed_store, t_packed_load, TPlace, t_variable, t_element, type_of}
use Rattle.isp_lower_code.specs.Asks.{Ask, Nothing, Both, Register, ArrayOf, LocalOf, MaskOf, Number, Loads, lift_asks, taken, whole_asks, index_asks, is_lane, start_asks, element_asks, copy_asks, value_asks, expr_asks, target_asks}
use Rattle.isp_lower_code.specs.Code.{variable_read, read_code}
use Rattle.isp_lower_code.specs.Elements.{By, access, access_by, names, is_counter, counts, is_run, reached, reached_of, read_from, start_in, start_code, takes_row, index_by, index_by_of, write_from}
use Rattle.isp_lower_code.specs.Found.{in_vector, is_kept, kept_found, operand_by, vector_of, lifted, lift_code, part_to, lift_to, convert_to, is_copied, variable_found, place_found, found, operand, operand_of, whole, whole_of, index, index_of, is_whole}
use Rattle.isp_lower_code.specs.Instructions.{convert, constant, copy, splat, read_by, write_by}
use Rattle.isp_lower_code.specs.Known.{bits_as, known, unless_kept, constant_of}
use Rattle.isp_lower_code.specs.Pieces.{two, guard, choice, pair_code}
use Rattle.isp_lower_code.specs.Stays.{stays, stays_at, is_short}
use Rattle.isp_lower_code.specs.Layout.{HasNoRows, Layout}
use Rattle.isp_lower_code.specs.Rows.{numbered}

-- ---- pieces of code

pub two_same : (pc : ℕ) (a a' : List Instr) (b b' : ℕ → List Instr) → a ≡ a' → ((q : ℕ) → b q ≡ b' q) → two pc a b ≡ two pc a' b'
two_same pc a a' b b' ea eb = ap₂ (two pc) ea (fun_ext eb)

pub guard_same : (go go' : ℕ → Instr) (pc : ℕ) (a a' : ℕ → List Instr) → go ≡ go' → ((q : ℕ) → a q ≡ a' q) → guard go pc a ≡ guard go' pc a'
guard_same go go' pc a a' eg ea = ap₂ (λ g b. guard g pc b) eg (fun_ext ea)

pub choice_same : (go go' : ℕ → Instr) (pc : ℕ) (a a' b b' : ℕ → List Instr) → go ≡ go' → ((q : ℕ) → a q ≡ a' q) → ((q : ℕ) → b q ≡ b' q) → choice go pc a b ≡ choice go' pc a' b'
choice_same go go' pc a a' b b' eg ea eb =
    ap (λ g. choice g pc a b) eg ∙ ap₂ (choice go' pc) (fun_ext ea) (fun_ext eb)

pub joined_same : (a a' b b' : List Instr) → a ≡ a' → b ≡ b' → (a ++ b) ≡ (a' ++ b')
joined_same a a' b b' ea eb = ap₂ (λ x y. x ++ y) ea eb

pub pair_same : (pc : ℕ) (a a' : List Instr) (b b' : ℕ → List Instr) (i i' : Instr) → a ≡ a' → ((q : ℕ) → b q ≡ b' q) → i ≡ i' → pair_code pc a b i ≡ pair_code pc a' b' i'
pair_same pc a a' b b' i i' ea eb ei =
    two_same pc a a' (λ q. b q ++ i ∷ []) (λ q. b' q ++ i' ∷ []) ea (λ q. joined_same (b q) (b' q) (i ∷ []) (i' ∷ []) (eb q) (ap (λ z. z ∷ []) ei))

-- ---- two layouts

-- code calls the same functions, reads the same variables by a copy, is in no run, takes no rows, and finds the same constants in the same registers
pub record Alike (l m : Layout) : Type 0 where
  pub rates : l.rates ≡ m.rates
  pub loaded : l.loaded ≡ m.loaded
  pub first : l.in_run ≡ false
  pub second : m.in_run ≡ false
  pub no_first : HasNoRows l
  pub no_second : HasNoRows m
  pub kept : (r : Rate) (t : Elem) (b : ℕ) → l.kept r t b ≡ m.kept r t b
  pub constants : (r : Rate) (t : Elem) (b : ℕ) → m.kept r t b ≡ true → l.constant r t b ≡ m.constant r t b

abbrev pub SameIn : Layout → Layout → Ask → Type 0
SameIn l m Nothing = Unit {0}
SameIn l m (Both x y) = SameIn l m x × SameIn l m y
SameIn l m (Register r x t) = numbered l r x ≡ numbered m r x
SameIn l m (ArrayOf b) = l.array b.number ≡ m.array b.number
SameIn l m (LocalOf b) = l.array b.number ≡ m.array b.number
SameIn l m (MaskOf k) = Unit {0}
SameIn l m (Number k) = Unit {0}
SameIn l m (Loads v) = Unit {0}

-- an element is reached by one instruction
one_access : (k : Layout) → HasNoRows k → (g r : Rate) (i : TExpr) (n : ℕ) → access k g r i n ≡ By (is_run k g i)
one_access k none g r i n = ap (λ b. access_by (takes_row b g r) (is_run k g i)) (none i n)

write_by_same : (z z' : Bool) (r : Rate) (a a' i i' x x' k p p' : ℕ) → z ≡ z' → a ≡ a' → i ≡ i' → x ≡ x' → p ≡ p' → write_by z r a i x k p ≡ write_by z' r a' i' x' k p'
write_by_same z z' r a a' i i' x x' k p p' ez ea ei ex ep =
    ap₂ (λ b c. write_by b r c i x k p) ez ea ∙ ap₂ (λ b c. write_by z' r a' b c k p) ei ex ∙ ap (write_by z' r a' i' x' k) ep

read_by_same : (z z' : Bool) (r : Rate) (d d' a a' i i' k p p' : ℕ) → z ≡ z' → d ≡ d' → a ≡ a' → i ≡ i' → p ≡ p' → read_by z r d a i k p ≡ read_by z' r d' a' i' k p'
read_by_same z z' r d d' a a' i i' k p p' ez ed ea ei ep =
    ap₂ (λ b c. read_by b r c a i k p) ez ed ∙ ap₂ (λ b c. read_by z' r d' b c k p) ea ei ∙ ap (read_by z' r d' a' i' k) ep

-- no index counts lanes but that of the lane
none_counts : (k : Layout) → k.in_run ≡ false → (r : Rate) (v : ℕ) → is_counter k r v ≡ false
none_counts k out Uniform v = refl
none_counts k out Varying v = ap (λ b. b && names k k.run v) out

counts_lane : (k : Layout) → k.in_run ≡ false → (i : TExpr) → counts k i ≡ is_lane i
counts_lane k out (t_constant v sp) = refl
counts_lane k out (t_program_index sp) = refl
counts_lane k out (t_place (t_variable v t sp)) = none_counts k out t.rate v
counts_lane k out (t_place (t_element b i t sp)) = refl
counts_lane k out (t_convert e x) = refl
counts_lane k out (t_cast x t sp) = refl
counts_lane k out (t_unary o x t sp) = refl
counts_lane k out (t_binary o x y t sp) = refl
counts_lane k out (t_compare c x y r sp) = refl
counts_lane k out (t_logic g x y r sp) = refl
counts_lane k out (t_choose c x y t sp) = refl
counts_lane k out (t_call c t) = refl
counts_lane k out (t_library f e xs t sp) = refl
counts_lane k out (t_packed_store b x sp) = refl
counts_lane k out (t_packed_load b v sp) = refl

module _ (l m : Layout) (alike : Alike l m) where
  -- ---- values of one rate or type where another is wanted

  pub lifted_same : (r given : Rate) (t : Elem) (x y n : ℕ) → x ≡ y → SameIn l m (lift_asks r given t n) → lifted l r given t x n ≡ lifted m r given t y n
  lifted_same Uniform given t x y n e f = e
  lifted_same Varying Uniform t x y n e f = f
  lifted_same Varying Varying t x y n e f = e

  pub lift_same : (r given : Rate) (t : Elem) (x y k n : ℕ) → x ≡ y → SameIn l m (lift_asks r given t n) → lift_code l r given t x k n ≡ lift_code m r given t y k n
  lift_same Uniform given t x y k n e f = refl
  lift_same Varying Uniform t x y k n e f = ap₂ (λ d z. splat d z k ∷ []) f e
  lift_same Varying Varying t x y k n e f = refl

  pub part_same : (r given : Rate) (d d' x y : ℕ) → d ≡ d' → x ≡ y → part_to l r given d x ≡ part_to m r given d' y
  part_same Uniform given d d' x y ed e = ed
  part_same Varying Uniform d d' x y ed e = e
  part_same Varying Varying d d' x y ed e = ed

  pub lift_to_same : (r given : Rate) (d d' x y k : ℕ) → d ≡ d' → x ≡ y → lift_to l r given d x k ≡ lift_to m r given d' y k
  lift_to_same Uniform given d d' x y k ed e = refl
  lift_to_same Varying Uniform d d' x y k ed e = ap₂ (λ c z. splat c z k ∷ []) ed e
  lift_to_same Varying Varying d d' x y k ed e = refl

  pub convert_same : (o : Option Value) (t : Elem) (r : Rate) (d d' x y k : ℕ) (c c' : List Instr) → d ≡ d' → x ≡ y → c ≡ c' → convert_to l o t r d x k c ≡ convert_to m o t r d' y k c'
  convert_same None t r d d' x y k c c' ed e ec =
      joined_same c c' (convert r d x k ∷ []) (convert r d' y k ∷ []) ec (ap₂ (λ a b. convert r a b k ∷ []) ed e)
  convert_same (Some v) t r d d' x y k c c' ed e ec = ap (λ a. constant a t (converted v.elem t v.bits) ∷ []) ed

  -- ---- where values are found

  pub copied_same : (r : Rate) (v : ℕ) → is_copied l r v ≡ is_copied m r v
  copied_same Uniform v = refl
  copied_same Varying v = ap (λ (f : ℕ → Bool). f v) alike.loaded

  copy_same : (r : Rate) (t : Elem) (v n : ℕ) → is_copied m r v ≡ true → SameIn l m (copy_asks r t n) → l.spare r t n ≡ m.spare r t n
  copy_same Uniform t v n e f = absurd (cc)
  copy_same Varying t v n e f = f

  variable_same : (t : Ty) (v n : ℕ) → l.variable t.rate v ≡ m.variable t.rate v → SameIn l m (copy_asks t.rate t.elem n) → variable_found l (is_copied l t.rate v) t v n ≡ variable_found m (is_copied m t.rate v) t v n
  variable_same t v n e f = ap (λ b. variable_found l b t v n) (copied_same t.rate v) ∙ go (is_copied m t.rate v) refl
    where
      go : (b : Bool) → is_copied m t.rate v ≡ b → variable_found l b t v n ≡ variable_found m b t v n
      go true is = copy_same t.rate t.elem v n is f
      go false is = e

  kept_same : (r : Rate) (t : Elem) (b n : ℕ) → l.spare r t n ≡ m.spare r t n → kept_found l (l.kept r t b) r t b n ≡ kept_found m (m.kept r t b) r t b n
  kept_same r t b n e = ap (λ z. kept_found l z r t b n) (alike.kept r t b) ∙ go (m.kept r t b) refl
    where
      go : (z : Bool) → m.kept r t b ≡ z → kept_found l z r t b n ≡ kept_found m z r t b n
      go true is = alike.constants r t b is
      go false is = e

  pub is_kept_same : (o : Option Value) (r : Rate) (t : Elem) → is_kept l o r t ≡ is_kept m o r t
  is_kept_same None r t = refl
  is_kept_same (Some v) r t = alike.kept r t (converted v.elem t v.bits)

  converted_same : (o : Option Value) (r : Rate) (t : Elem) (n : ℕ) → l.spare r t n ≡ m.spare r t n → kept_found l (is_kept l o r t) r t (bits_as o t) n ≡ kept_found m (is_kept m o r t) r t (bits_as o t) n
  converted_same None r t n e = e
  converted_same (Some v) r t n e = kept_same r t (converted v.elem t v.bits) n e

  in_vector_same : (r : Rate) (o : Option Value) → in_vector l r o ≡ in_vector m r o
  in_vector_same Uniform o = refl
  in_vector_same Varying None = refl
  in_vector_same Varying (Some v) = alike.kept Varying v.elem v.bits

  vector_same : (r : Rate) (o : Option Value) → in_vector m r o ≡ true → vector_of l o ≡ vector_of m o
  vector_same Uniform o e = absurd (cc)
  vector_same Varying None e = absurd (cc)
  vector_same Varying (Some v) e = alike.constants Varying v.elem v.bits e

  place_same : (z : TPlace) (n : ℕ) → SameIn l m (target_asks z n) → SameIn l m (value_asks z n) → place_found l z n ≡ place_found m z n
  place_same (t_variable v t sp) n f g = variable_same t v n f g
  place_same (t_element b i t sp) n f g = g

  pub found_same : (x : TExpr) (n : ℕ) → SameIn l m (expr_asks x n) → found l x n ≡ found m x n
  found_same (t_constant v sp) n f = kept_same Uniform v.elem v.bits n f
  found_same (t_program_index sp) n f = f
  found_same (t_place q) n f = place_same q n f.0 f.1
  found_same (t_convert e x) n f = converted_same (constant_of x) (type_of x).rate e n f.0
  found_same (t_cast x t sp) n f =
      lifted_same t.rate (type_of x).rate (type_of x).elem (found l x n) (found m x n) n (found_same x n f.1) f.0
  found_same (t_unary o x t sp) n f = f.0
  found_same (t_binary o x y t sp) n f = f.0
  found_same (t_compare c x y r sp) n f = f.0
  found_same (t_logic g x y r sp) n f = f.0
  found_same (t_choose c x y t sp) n f = f.0
  found_same (t_call c t) n f = f.0
  found_same (t_library g e xs t sp) n f = f.0
  found_same (t_packed_store b x sp) n f = f.0
  found_same (t_packed_load b v sp) n f = f.0

  pub operand_same : (r : Rate) (x : TExpr) (n : ℕ) → SameIn l m (taken r x n (expr_asks x n)) → operand l r x n ≡ operand m r x n
  operand_same r x n f = ap (λ z. operand_by l z r x n) (in_vector_same r (known x)) ∙ go (in_vector m r (known x)) refl
    where
      go : (z : Bool) → in_vector m r (known x) ≡ z → operand_by l z r x n ≡ operand_by m z r x n
      go true is = vector_same r (known x) is
      go false is = lifted_same r (type_of x).rate (type_of x).elem (found l x n) (found m x n) n (found_same x n f.1) f.0

  pub operand_of_same : (r : Rate) (x : TExpr) (k n : ℕ) (c c' : List Instr) → SameIn l m (taken r x n (expr_asks x n)) → c ≡ c' → operand_of l r x k n c ≡ operand_of m r x k n c'
  operand_of_same r x k n c c' f e =
      ap (λ z. unless_kept z (c ++ lift_code l r (type_of x).rate (type_of x).elem (found l x n) k n)) (in_vector_same r (known x))
      ∙ ap (unless_kept (in_vector m r (known x))) (joined_same c c' (lift_code l r (type_of x).rate (type_of x).elem (found l x n) k n)
      (lift_code m r (type_of x).rate (type_of x).elem (found m x n) k n) e
      (lift_same r (type_of x).rate (type_of x).elem (found l x n) (found m x n) k n (found_same x n f.1) f.0))

  -- an argument is asked for at a varying rate, whatever rate its parameter has
  pub argument_found : (r : Rate) (x : TExpr) (n : ℕ) → SameIn l m (taken Varying x n (expr_asks x n)) → operand l r x n ≡ operand m r x n
  argument_found Uniform x n f = found_same x n f.1
  argument_found Varying x n f = operand_same Varying x n f

  pub argument_of_same : (r : Rate) (x : TExpr) (k n : ℕ) (c c' : List Instr) → SameIn l m (taken Varying x n (expr_asks x n)) → c ≡ c' → operand_of l r x k n c ≡ operand_of m r x k n c'
  argument_of_same Uniform x k n c c' f e = ap (λ z. z ++ []) e
  argument_of_same Varying x k n c c' f e = operand_of_same Varying x k n c c' f e

  -- ---- indices

  whole_same : (b : Bool) (i : TExpr) (n : ℕ) → SameIn l m (whole_asks i n (expr_asks i n)) → whole l b i n ≡ whole m b i n
  whole_same true i n f = found_same i n f.1
  whole_same false i n f = f.0

  whole_of_same : (b : Bool) (i : TExpr) (k n : ℕ) (c c' : List Instr) → SameIn l m (whole_asks i n (expr_asks i n)) → c ≡ c' → whole_of l b i k n c ≡ whole_of m b i k n c'
  whole_of_same true i k n c c' f e = e
  whole_of_same false i k n c c' f e =
      convert_same (constant_of i) I64 (type_of i).rate (l.spare (type_of i).rate I64 n) (m.spare (type_of i).rate I64 n) (found l i n) (found m i n) k c c' f.0 (found_same i n f.1) e

  pub index_same : (r : Rate) (i : TExpr) (n : ℕ) → SameIn l m (index_asks r i n (expr_asks i n)) → index l r i n ≡ index m r i n
  index_same r i n f =
      let b = is_whole (type_of i).elem in
      lifted_same r (type_of i).rate I64 (whole l b i n) (whole m b i n) n (whole_same b i n f.1) f.0

  pub index_of_same : (r : Rate) (i : TExpr) (k n : ℕ) (c c' : List Instr) → SameIn l m (index_asks r i n (expr_asks i n)) → c ≡ c' → index_of l r i k n c ≡ index_of m r i k n c'
  index_of_same r i k n c c' f e =
      let b = is_whole (type_of i).elem in
      joined_same (whole_of l b i k n c) (whole_of m b i k n c') (lift_code l r (type_of i).rate I64 (whole l b i n) k n)
      (lift_code m r (type_of i).rate I64 (whole m b i n) k n) (whole_of_same b i k n c c' f.1 e)
      (lift_same r (type_of i).rate I64 (whole l b i n) (whole m b i n) k n (whole_same b i n f.1) f.0)

  run_same : (g : Rate) (i : TExpr) → is_run l g i ≡ is_run m g i
  run_same Uniform i = counts_lane l alike.first i ∙ sym (counts_lane m alike.second i)
  run_same Varying i = refl

  start_same : (i : TExpr) (n : ℕ) → is_lane i ≡ true → SameIn l m (start_asks i n) → l.spare Uniform I64 n ≡ m.spare Uniform I64 n
  start_same (t_constant v sp) n e f = absurd (cc)
  start_same (t_program_index sp) n e f = f
  start_same (t_place q) n e f = absurd (cc)
  start_same (t_convert t x) n e f = absurd (cc)
  start_same (t_cast x t sp) n e f = absurd (cc)
  start_same (t_unary o x t sp) n e f = absurd (cc)
  start_same (t_binary o x y t sp) n e f = absurd (cc)
  start_same (t_compare c x y r sp) n e f = absurd (cc)
  start_same (t_logic g x y r sp) n e f = absurd (cc)
  start_same (t_choose c x y t sp) n e f = absurd (cc)
  start_same (t_call c t) n e f = absurd (cc)
  start_same (t_library g t xs u sp) n e f = absurd (cc)
  start_same (t_packed_store b x sp) n e f = absurd (cc)
  start_same (t_packed_load b v sp) n e f = absurd (cc)

  by_same : (g r : Rate) (i : TExpr) (n : ℕ) → SameIn l m (element_asks g r i n (expr_asks i n)) → index_by l (is_run l g i) r i n ≡ index_by m (is_run m g i) r i n
  by_same Varying r i n f = index_same r i n f.1
  by_same Uniform r i n f =
      ap (λ b. index_by l b r i n) (counts_lane l alike.first i) ∙ go (is_lane i) refl ∙ sym (ap (λ b. index_by m b r i n) (counts_lane m alike.second i))
    where
      go : (b : Bool) → is_lane i ≡ b → index_by l b r i n ≡ index_by m b r i n
      go true is = ap (λ b. start_in l b n) is ∙ start_same i n is f.0 ∙ sym (ap (λ b. start_in m b n) is)
      go false is = index_same r i n f.1

  by_of_same : (g r : Rate) (i : TExpr) (k n : ℕ) (c c' : List Instr) → SameIn l m (element_asks g r i n (expr_asks i n)) → c ≡ c' → index_by_of l (is_run l g i) r i k n c ≡ index_by_of m (is_run m g i) r i k n c'
  by_of_same Varying r i k n c c' f e = index_of_same r i k n c c' f.1 e
  by_of_same Uniform r i k n c c' f e =
      ap (λ b. index_by_of l b r i k n c) (counts_lane l alike.first i) ∙ go (is_lane i) refl ∙ sym (ap (λ b. index_by_of m b r i k n c') (counts_lane m alike.second i))
    where
      go : (b : Bool) → is_lane i ≡ b → index_by_of l b r i k n c ≡ index_by_of m b r i k n c'
      go true is =
          ap (λ b. start_code l b n) is ∙ ap (λ d. constant d I64 0 ∷ []) (start_same i n is f.0) ∙ sym (ap (λ b. start_code m b n) is)
      go false is = index_of_same r i k n c c' f.1 e

  -- ---- what is read

  variable_read_same : (d d' : ℕ) (r : Rate) (v k : ℕ) → d ≡ d' → l.variable r v ≡ m.variable r v → variable_read l (is_copied l r v) d r v k ≡ variable_read m (is_copied m r v) d' r v k
  variable_read_same d d' r v k e f = ap (λ b. variable_read l b d r v k) (copied_same r v) ∙ go (is_copied m r v)
    where
      go : (b : Bool) → variable_read l b d r v k ≡ variable_read m b d' r v k
      go true = ap₂ (λ x y. copy r x y k ∷ []) e f
      go false = refl

  pub reached_same : (g r : Rate) (i : TExpr) (n : ℕ) → SameIn l m (element_asks g r i n (expr_asks i n)) → reached l (access l g r i n) r i n ≡ reached m (access m g r i n) r i n
  reached_same g r i n f =
      ap (λ z. reached l z r i n) (one_access l alike.no_first g r i n) ∙ by_same g r i n f ∙ sym (ap (λ z. reached m z r i n) (one_access m alike.no_second g r i n))

  pub reached_of_same : (g r : Rate) (i : TExpr) (pc p p' k n : ℕ) (c c' : List Instr) → SameIn l m (element_asks g r i n (expr_asks i n)) → c ≡ c'
      → reached_of l (access l g r i n) r i pc p k n c ≡ reached_of m (access m g r i n) r i pc p' k n c'
  reached_of_same g r i pc p p' k n c c' f e =
      ap (λ z. reached_of l z r i pc p k n c) (one_access l alike.no_first g r i n) ∙ by_of_same g r i k n c c' f e
      ∙ sym (ap (λ z. reached_of m z r i pc p' k n c') (one_access m alike.no_second g r i n))

  pub read_from_same : (g r : Rate) (i : TExpr) (n : ℕ) (t : Elem) (d d' a a' x x' p p' pc pc' k j : ℕ) → d ≡ d' → a ≡ a' → x ≡ x' → p ≡ p'
      → read_from l (access l g r i n) t r d a x p pc k j ≡ read_from m (access m g r i n) t r d' a' x' p' pc' k j
  read_from_same g r i n t d d' a a' x x' p p' pc pc' k j ed ea ex ep =
      ap (λ z. read_from l z t r d a x p pc k j) (one_access l alike.no_first g r i n)
      ∙ ap (λ s. s ∷ []) (read_by_same (is_run l g i) (is_run m g i) r d d' a a' x x' k p p' (run_same g i) ed ea ex ep)
      ∙ sym (ap (λ z. read_from m z t r d' a' x' p' pc' k j) (one_access m alike.no_second g r i n))

  pub write_from_same : (g r : Rate) (i : TExpr) (n : ℕ) (t : Elem) (a a' x x' v v' p p' pc pc' k j : ℕ) → a ≡ a' → x ≡ x' → v ≡ v' → p ≡ p'
      → write_from l (access l g r i n) t r a x v p pc k j ≡ write_from m (access m g r i n) t r a' x' v' p' pc' k j
  write_from_same g r i n t a a' x x' v v' p p' pc pc' k j ea ex ev ep =
      ap (λ z. write_from l z t r a x v p pc k j) (one_access l alike.no_first g r i n)
      ∙ ap (λ s. s ∷ []) (write_by_same (is_run l g i) (is_run m g i) r a a' x x' v v' k p p' (run_same g i) ea ex ev ep)
      ∙ sym (ap (λ z. write_from m z t r a' x' v' p' pc' k j) (one_access m alike.no_second g r i n))

  pub read_same : (d d' : ℕ) (z : TPlace) (pc pc' p k n : ℕ) → d ≡ d' → SameIn l m (target_asks z n) → read_code l d z pc p k n ≡ read_code m d' z pc' p k n
  read_same d d' (t_variable v t sp) pc pc' p k n e f = variable_read_same d d' t.rate v k e f
  read_same d d' (t_element b i t sp) pc pc' p k n e f =
      read_from_same b.ty.rate t.rate i n (type_of i).elem d d' (l.array b.number) (m.array b.number) (reached l (access l b.ty.rate t.rate i n) t.rate i n)
      (reached m (access m b.ty.rate t.rate i n) t.rate i n) p p pc pc' k (n + 1) e f.0 (reached_same b.ty.rate t.rate i n f.1) refl

  -- ---- what stays in place

  pub stays_same : (x : TExpr) → stays l x ≡ stays m x
  stays_same (t_constant v sp) = alike.kept Uniform v.elem v.bits
  stays_same (t_program_index sp) = refl
  stays_same (t_place (t_variable v t sp)) = ap not (copied_same t.rate v)
  stays_same (t_place (t_element b i t sp)) = refl
  stays_same (t_convert e x) = is_kept_same (constant_of x) (type_of x).rate e
  stays_same (t_cast x t sp) = ap (λ b. same_rate t.rate (type_of x).rate && b) (stays_same x)
  stays_same (t_unary o x t sp) = refl
  stays_same (t_binary o x y t sp) = refl
  stays_same (t_compare c x y r sp) = refl
  stays_same (t_logic g x y r sp) = refl
  stays_same (t_choose c x y t sp) = refl
  stays_same (t_call c t) = refl
  stays_same (t_library g e xs t sp) = refl
  stays_same (t_packed_store b x sp) = refl
  stays_same (t_packed_load b v sp) = refl

  pub short_same : (r : Rate) (c x y : TExpr) → is_short l r c x y ≡ is_short m r c x y
  short_same r c x y =
      ap₂ (λ a b. same_rate r (type_of c).rate && ((same_rate r (type_of x).rate && a) && (same_rate r (type_of y).rate && b))) (stays_same x) (stays_same y)

  both_true : (a b : Bool) → (a && b) ≡ true → (a ≡ true) × (b ≡ true)
  both_true true b e = (refl, e)
  both_true false b e = absurd (cc)

  lifted_stays : (r given : Rate) (t : Elem) (x y n : ℕ) → same_rate r given ≡ true → x ≡ y → lifted l r given t x n ≡ lifted m r given t y n
  lifted_stays Uniform given t x y n e is = is
  lifted_stays Varying Uniform t x y n e is = absurd (cc)
  lifted_stays Varying Varying t x y n e is = is

  -- a constant that is kept
  kept_stays : (r : Rate) (t : Elem) (b n : ℕ) → m.kept r t b ≡ true → kept_found l (l.kept r t b) r t b n ≡ kept_found m (m.kept r t b) r t b n
  kept_stays r t b n e = ap (λ z. kept_found l z r t b n) (alike.kept r t b ∙ e) ∙ alike.constants r t b e ∙ sym (ap (λ z. kept_found m z r t b n) e)

  converted_stays : (o : Option Value) (r : Rate) (t : Elem) (n : ℕ) → is_kept m o r t ≡ true → kept_found l (is_kept l o r t) r t (bits_as o t) n ≡ kept_found m (is_kept m o r t) r t (bits_as o t) n
  converted_stays None r t n e = absurd (cc)
  converted_stays (Some v) r t n e = kept_stays r t (converted v.elem t v.bits) n e

  -- it is found where it is, whatever slot was reserved
  stayed_same : (x : TExpr) (i n : ℕ) → stays m x ≡ true → SameIn l m (expr_asks x i) → found l x n ≡ found m x n
  stayed_same (t_constant v sp) i n e f = kept_stays Uniform v.elem v.bits n e
  stayed_same (t_program_index sp) i n e f = absurd (cc)
  stayed_same (t_place (t_variable v t sp)) i n e f =
      ap (λ b. variable_found l b t v n) (copied_same t.rate v) ∙ go (is_copied m t.rate v) e
    where
      go : (b : Bool) → not b ≡ true → variable_found l b t v n ≡ variable_found m b t v n
      go true h = absurd (cc)
      go false h = f.0
  stayed_same (t_place (t_element b j t sp)) i n e f = absurd (cc)
  stayed_same (t_convert u x) i n e f = converted_stays (constant_of x) (type_of x).rate u n e
  stayed_same (t_cast x t sp) i n e f =
      let both = both_true (same_rate t.rate (type_of x).rate) (stays m x) e in
      lifted_stays t.rate (type_of x).rate (type_of x).elem (found l x n) (found m x n) n both.0 (stayed_same x i n both.1 f.1)
  stayed_same (t_unary o x t sp) i n e f = absurd (cc)
  stayed_same (t_binary o x y t sp) i n e f = absurd (cc)
  stayed_same (t_compare c x y r sp) i n e f = absurd (cc)
  stayed_same (t_logic g x y r sp) i n e f = absurd (cc)
  stayed_same (t_choose c x y t sp) i n e f = absurd (cc)
  stayed_same (t_call c t) i n e f = absurd (cc)
  stayed_same (t_library g u xs t sp) i n e f = absurd (cc)
  stayed_same (t_packed_store b x sp) i n e f = absurd (cc)
  stayed_same (t_packed_load b v sp) i n e f = absurd (cc)

  -- both sides of a short choice
  pub sides_found : (r : Rate) (c x y : TExpr) (i j n : ℕ) → is_short m r c x y ≡ true → SameIn l m (expr_asks x i) → SameIn l m (expr_asks y j) → (found l x n ≡ found m x n) × (found l y n ≡ found m y n)
  sides_found r c x y i j n e f g =
      let both = (both_true (same_rate r (type_of c).rate) (stays_at m r x && stays_at m r y) e).1 in
      let sides = both_true (stays_at m r x) (stays_at m r y) both in
      (stayed_same x i n (both_true (same_rate r (type_of x).rate) (stays m x) sides.0).1 f, stayed_same y j n (both_true (same_rate r (type_of y).rate) (stays m y) sides.1).1 g)
