-- The words of a text and the values between them, one after the other.
use Rattle.std.proofs.Common.{◌≡◌, ℕ, suc, ◌+◌, ◌<◌, ◌≤◌, List, [], ◌∷◌, ◌++◌, length, drop, take, get_or, Bool, true, false, refl, sym, ap, subst, ◌∙◌, arith, append_assoc, append-nil}
use Rattle.std.specs.Prelude.{◌==◌, if◌then◌else◌}
use Rattle.std.proofs.lemmas.List.{drop_all, map-append}
use Rattle.isp_base.specs.Prints.{percent}
use Rattle.isp_base.specs.declared.types.Rate.{Rate}
use Rattle.isp_base.specs.declared.types.Span.{Span}
use Rattle.isp_code.specs.declared.instr.Instr.{Instr}
use Rattle.isp_code.specs.declared.instr.Instr.TheVariants as instr
use Rattle.isp_typed.specs.Typed.{TExpr, t_exprs, type_of}
use Rattle.isp_typed.specs.Views.{expr_of, exprs_of}
use Rattle.isp_typed.specs.declared.expr.TypedExpr as rust
use Rattle.isp_lower_code.specs.Code.{expr_code, value_registers, values_code}
use Rattle.isp_lower_code.specs.Found.{operand, operand_of}
use Rattle.isp_lower_code.specs.Spans.{expr_places, values_places}
use Rattle.isp_lower.specs.Emitted.{Appends, AppendsText, texts_of}
use Rattle.isp_lower_code.specs.Layout.{Layout}
use Rattle.isp_lower.specs.declared.types.Body.{Body}
use Rattle.isp_lower.proofs.Lemmas.{appends_self, appends_then}
use Rattle.isp_masks_code.proofs.Lemmas.{left_of}
use Rattle.isp_masks.specs.Printed.{first_shown, first_word, rates_of, registers_of, told_at, words_at}
use Rattle.isp_masks_code.specs.Prints.{Part, Words, Value, before, own_rates, parts, parts_code, print_code, print_places, print_texts, words_of}
use Rattle.isp_masks.specs.AtWork.{next_of}
use Rattle.isp_masks.specs.Written.{Piece, Writes}
use Rattle.isp_masks.specs.declared.printing.Shown.{Shown}
use Rattle.isp_masks.proofs.Writing.{texts_still, writes_past, writes_then}

-- ---- a text by its first word

pub word_low : (bs : List ℕ) → length (first_word bs) ≤ length bs
word_low [] = omega arith
word_low (b ∷ bs) = go (word_low bs) (b == percent)
  where
    go : length (first_word bs) ≤ length bs → (z : Bool) → length (if z then [] else b ∷ first_word bs) ≤ suc (length bs)
    go n true = omega arith
    go n false = omega (arith, n)

word_taken : (bs : List ℕ) → take (length (first_word bs)) bs ≡ first_word bs
word_taken [] = refl
word_taken (b ∷ bs) = go (word_taken bs) (b == percent)
  where
    go : take (length (first_word bs)) bs ≡ first_word bs → (z : Bool) → take (length (if z then [] else b ∷ first_word bs)) (b ∷ bs) ≡ (if z then [] else b ∷ first_word bs)
    go e true = refl
    go e false = ap (λ w. b ∷ w) e

-- a word before parts that begin with a value, or none
abbrev glued : List ℕ → List Part → List Part
glued [] ps = ps
glued (b ∷ bs) ps = Words (b ∷ bs) ∷ ps

-- what stands after the first word begins with a value
abbrev rest_of : List ℕ → List ℕ
rest_of bs = drop (length (first_word bs)) bs

glue_on : (b : ℕ) (bs : List ℕ) → before b (glued (first_word bs) (parts (rest_of bs))) ≡ Words (b ∷ first_word bs) ∷ parts (rest_of bs)
glue_on b [] = refl
glue_on b (c ∷ bs) = go (c == percent) refl
  where
    go : (z : Bool) → (c == percent) ≡ z → before b (glued (if z then [] else c ∷ first_word bs)
        (parts (drop (length (if z then [] else c ∷ first_word bs)) (c ∷ bs))))
        ≡ Words (b ∷ (if z then [] else c ∷ first_word bs)) ∷ parts (drop (length (if z then [] else c ∷ first_word bs)) (c ∷ bs))
    go true e = subst (λ y. before b (if y then Value ∷ parts bs else before c (parts bs)) ≡ Words (b ∷ []) ∷ (if y then Value ∷ parts bs else before c (parts bs))) (sym e) refl
    go false e = refl

pub parts_word : (bs : List ℕ) → parts bs ≡ glued (first_word bs) (parts (rest_of bs))
parts_word [] = refl
parts_word (b ∷ bs) = go (parts_word bs) (b == percent) refl
  where
    go : parts bs ≡ glued (first_word bs) (parts (rest_of bs)) → (z : Bool) → (b == percent) ≡ z
        → (if z then Value ∷ parts bs else before b (parts bs)) ≡ glued (if z then [] else b ∷ first_word bs) (parts (drop (length (if z then [] else b ∷ first_word bs)) (b ∷ bs)))
    go w true e = subst (λ y. Value ∷ parts bs ≡ (if y then Value ∷ parts bs else before b (parts bs))) (sym e) refl
    go w false e = ap (before b) w ∙ glue_on b bs

-- and then comes a value
pub value_behind : (bs : List ℕ) → length (first_word bs) < length bs → parts (rest_of bs) ≡ Value ∷ parts (drop (length (first_word bs) + 1) bs)
value_behind [] lt = absurd (omega (arith, lt))
value_behind (b ∷ bs) lt = go (value_behind bs) (b == percent) refl lt
  where
    go : (length (first_word bs) < length bs → parts (rest_of bs) ≡ Value ∷ parts (drop (length (first_word bs) + 1) bs)) → (z : Bool) → (b == percent) ≡ z → length (if z then [] else b ∷ first_word bs) < suc (length bs)
        → parts (drop (length (if z then [] else b ∷ first_word bs)) (b ∷ bs)) ≡ Value ∷ parts (drop (length (if z then [] else b ∷ first_word bs) + 1) (b ∷ bs))
    go w true e low = subst (λ y. (if y then Value ∷ parts bs else before b (parts bs)) ≡ Value ∷ parts bs) (sym e) refl
    go w false e low =
        let n = length (first_word bs) in
        let far : suc n + 1 ≡ suc (n + 1) = omega arith in
        w (omega (arith, low)) ∙ ap (λ m. Value ∷ parts (drop m (b ∷ bs))) (sym far)

-- ---- what is written

glued_told : (a b h : Body) (w : List ℕ) (ps : List Part) (xs : List Shown) (k : ℕ) → Writes a b (words_at w) → Writes b h (told_at ps xs k) → Writes a h (told_at (glued w ps) xs k)
glued_told a b h [] ps xs k f g =
    let w = writes_then a b h (words_at []) (told_at ps xs k) f g in
    let same : (next_of a).text + 0 ≡ (next_of a).text = omega arith in
    record { code = w.code ∙ ap (λ t. a.code.items ++ parts_code ps (rates_of xs) (registers_of xs) t k) same; places = w.places; texts = w.texts }
glued_told a b h (c ∷ w) ps xs k f g = writes_then a b h (words_at (c ∷ w)) (told_at ps xs k) f g

pub told_word : (a b h : Body) (bs : List ℕ) (xs : List Shown) (k : ℕ) → Writes a b (words_at (first_word bs)) → Writes b h (told_at (parts (rest_of bs)) xs k) → Writes a h (told_at (parts bs) xs k)
told_word a b h bs xs k f g =
    subst (λ ps. Writes a h (told_at ps xs k)) (sym (parts_word bs)) (glued_told a b h (first_word bs) (parts (rest_of bs)) xs k f g)

told_value : (a b h : Body) (ps : List Part) (xs : List Shown) (k : ℕ) → Appends a b (λ pc p. first_shown xs k) [] → Writes b h (told_at ps (drop 1 xs) k) → Writes a h (told_at (Value ∷ ps) xs k)
told_value a b h ps [] k f g = writes_past a b h (λ pc p. []) [] (told_at ps [] k) f g
told_value a b h ps (x ∷ xs) k f g = writes_past a b h (λ pc p. first_shown (x ∷ xs) k) [] (told_at ps xs k) f g

-- the first word
pub told_first : (a b h : Body) (bs ws : List ℕ) (n : ℕ) (xs : List Shown) (k : ℕ) → n ≡ length (first_word bs) → ws ≡ take n bs → Writes a b (words_at ws)
    → Writes b h (told_at (parts (drop n bs)) xs k) → Writes a h (told_at (parts bs) xs k)
told_first a b h bs ws n xs k en ew f g =
    told_word a b h bs xs k (subst (λ z. Writes a b (words_at z)) (ew ∙ ap (λ m. take m bs) en ∙ word_taken bs) f) (subst (λ m. Writes b h (told_at (parts (drop m bs)) xs k)) en g)

-- a value, and the word after it
pub told_more : (a b c h : Body) (bs more ws : List ℕ) (n m : ℕ) (xs ys : List Shown) (k : ℕ) → n ≡ length (first_word bs) → n < length bs → more ≡ drop (n + 1) bs
    → m ≡ length (first_word more) → ws ≡ take m more → ys ≡ drop 1 xs → Appends a b (λ pc p. first_shown xs k) [] → Writes b c (words_at ws)
    → Writes c h (told_at (parts (drop m more)) ys k) → Writes a h (told_at (parts (drop n bs)) xs k)
told_more a b c h bs more ws n m xs ys k en lt rest em ew others f g w =
    let all : Writes b h (told_at (parts more) (drop 1 xs) k) = subst (λ zs. Writes b h (told_at (parts more) zs k)) others (told_first b c h more ws m ys k em ew g w) in
    let behind : parts (drop n bs) ≡ Value ∷ parts more =
    ap (λ z. parts (drop z bs)) en ∙ value_behind bs (omega (arith, en, lt)) ∙ ap (λ z. Value ∷ parts (drop (z + 1) bs)) (sym en) ∙ ap (λ z. Value ∷ parts z) (sym rest) in
    subst (λ ps. Writes a h (told_at ps xs k)) (sym behind) (told_value a b h (parts more) xs k f all)

pub told_done : (a : Body) (bs : List ℕ) (n : ℕ) (xs : List Shown) (k : ℕ) → length bs ≤ n → Writes a a (told_at (parts (drop n bs)) xs k)
told_done a bs n xs k le =
    subst (λ zs. Writes a a (told_at (parts zs) xs k)) (sym (drop_all n bs le))
    (record { code = sym (append-nil a.code.items); places = sym (append-nil a.places.items); texts = sym (append-nil (texts_of a)) })

-- ---- words

pub said_none : (a : Body) (ws : List ℕ) → length ws ≡ 0 → Writes a a (words_at ws)
said_none a [] e = record { code = sym (append-nil a.code.items); places = sym (append-nil a.places.items); texts = sym (append-nil (texts_of a)) }
said_none a (w ∷ ws) e = absurd (omega (arith, e))

pub said : (a b c : Body) (ws : List ℕ) (n : ℕ) → 0 < length ws → n ≡ length (texts_of a) → AppendsText a b ws → Appends b c (λ pc p. instr.Say n ∷ []) [] → Writes a c (words_at ws)
said a b c [] n lt e f g = absurd (omega (arith, lt))
said a b c (w ∷ ws) n lt e f g =
    record {
      code = g.code ∙ ap (λ z. z ++ instr.Say n ∷ []) f.code ∙ ap (λ m. a.code.items ++ instr.Say m ∷ []) e;
      places = g.places ∙ append-nil b.places.items ∙ f.places ∙ sym (append-nil a.places.items);
      texts = texts_still b c g.texts ∙ f.texts;
    }

-- ---- the values

pub rates_more : (all : List rust.TypedExpr) (i : ℕ) (x : rust.TypedExpr) (shown : List Shown) (s : Shown) (total : List Rate) → i < length all → x ≡ get_or all i x → s.rate ≡ (type_of (expr_of x)).rate
    → rates_of shown ++ own_rates (exprs_of (drop i all)) ≡ total → rates_of (shown ++ s ∷ []) ++ own_rates (exprs_of (drop (i + 1) all)) ≡ total
rates_more all i x shown s total lt is r e =
    let rest = own_rates (exprs_of (drop (i + 1) all)) in
    ap (λ z. z ++ rest) (map-append (λ (z : Shown). z.rate) shown (s ∷ []))
    ∙ append_assoc (rates_of shown) (s.rate ∷ []) rest
    ∙ ap (λ z. rates_of shown ++ z ∷ rest) r
    ∙ ap (λ zs. rates_of shown ++ own_rates (exprs_of zs)) (sym (left_of all i x lt is))
    ∙ e

pub rates_end : (all : List rust.TypedExpr) (i : ℕ) (shown : List Shown) (total : List Rate) → length all ≤ i → rates_of shown ++ own_rates (exprs_of (drop i all)) ≡ total → rates_of shown ≡ total
rates_end all i shown total le e = sym (append-nil (rates_of shown)) ∙ ap (λ zs. rates_of shown ++ own_rates (exprs_of zs)) (sym (drop_all i all le)) ∙ e

module _ (l : Layout) where
  abbrev pub registers : List rust.TypedExpr → ℕ → List ℕ
  registers xs n = value_registers l (own_rates (exprs_of xs)) (t_exprs (exprs_of xs)) n

  abbrev pub code_of : List rust.TypedExpr → ℕ → ℕ → ℕ → ℕ → List Instr
  code_of xs k n pc p = values_code l (own_rates (exprs_of xs)) (t_exprs (exprs_of xs)) pc p k n

  abbrev pub places_of : List rust.TypedExpr → List Span
  places_of xs = values_places l (t_exprs (exprs_of xs))

  pub registers_more : (all : List rust.TypedExpr) (i m : ℕ) (x : rust.TypedExpr) (shown : List Shown) (s : Shown) (total : List ℕ) → i < length all → x ≡ get_or all i x
      → s.register.number ≡ operand l (type_of (expr_of x)).rate (expr_of x) m
      → registers_of shown ++ registers (drop i all) m ≡ total → registers_of (shown ++ s ∷ []) ++ registers (drop (i + 1) all) (m + 1) ≡ total
  registers_more all i m x shown s total lt is r e =
      let rest = registers (drop (i + 1) all) (m + 1) in
      ap (λ z. z ++ rest) (map-append (λ (z : Shown). z.register.number) shown (s ∷ []))
      ∙ append_assoc (registers_of shown) (s.register.number ∷ []) rest
      ∙ ap (λ z. registers_of shown ++ z ∷ rest) r
      ∙ ap (λ zs. registers_of shown ++ registers zs m) (sym (left_of all i x lt is))
      ∙ e

  pub registers_end : (all : List rust.TypedExpr) (i m : ℕ) (shown : List Shown) (total : List ℕ) → length all ≤ i → registers_of shown ++ registers (drop i all) m ≡ total → registers_of shown ≡ total
  registers_end all i m shown total le e = sym (append-nil (registers_of shown)) ∙ ap (λ zs. registers_of shown ++ registers zs m) (sym (drop_all i all le)) ∙ e

  pub code_more : (all : List rust.TypedExpr) (i k m : ℕ) (x : rust.TypedExpr) (a b h : Body) → i < length all → x ≡ get_or all i x
      → Appends a b (λ pc p. operand_of l (type_of (expr_of x)).rate (expr_of x) k m (expr_code l (expr_of x) pc p k m)) (expr_places l (expr_of x))
      → Appends b h (code_of (drop (i + 1) all) k (m + 1)) (places_of (drop (i + 1) all)) → Appends a h (code_of (drop i all) k m) (places_of (drop i all))
  code_more all i k m x a b h lt is f g =
      subst (λ zs. Appends a h (code_of zs k m) (places_of zs)) (sym (left_of all i x lt is))
      (appends_then a b h (λ pc p. operand_of l (type_of (expr_of x)).rate (expr_of x) k m (expr_code l (expr_of x) pc p k m)) (code_of (drop (i + 1) all) k (m + 1)) (expr_places l (expr_of x)) (places_of (drop (i + 1) all)) f g)

  pub code_end : (all : List rust.TypedExpr) (i k m : ℕ) (a : Body) → length all ≤ i → Appends a a (code_of (drop i all) k m) (places_of (drop i all))
  code_end all i k m a le = subst (λ zs. Appends a a (code_of zs k m) (places_of zs)) (sym (drop_all i all le)) (appends_self a)

  -- the values, and after them the words and the values
  pub printed : (a b c : Body) (text : List ℕ) (xs : List TExpr) (shown : List Shown) (k n : ℕ) → rates_of shown ≡ own_rates xs → registers_of shown ≡ value_registers l (own_rates xs) (t_exprs xs) n
      → Appends a b (λ pc p. values_code l (own_rates xs) (t_exprs xs) pc p k n) (values_places l (t_exprs xs)) → Writes b c (told_at (parts text) shown k)
      → Writes a c (record { code = λ pc z. print_code l text xs pc z.place z.text k n; places = print_places l xs; texts = print_texts text })
  printed a b c text xs shown k n rates regs f g =
      let rs = own_rates xs in
      let ts = t_exprs xs in
      let told : Piece = record { code = λ pc z. parts_code (parts text) rs (value_registers l rs ts n) z.text k; places = []; texts = words_of (parts text) } in
      let same : Writes b c told =
      record {
        code =
            g.code ∙ ap (λ rs1. b.code.items ++ parts_code (parts text) rs1 (registers_of shown) (next_of b).text k) rates
            ∙ ap (λ xs1. b.code.items ++ parts_code (parts text) rs xs1 (next_of b).text k) regs;
        places = g.places;
        texts = g.texts;
      } in
      let w = writes_past a b c (λ pc p. values_code l rs ts pc p k n) (values_places l ts) told f same in
      record { code = w.code; places = w.places ∙ ap (λ ps. a.places.items ++ ps) (append-nil (values_places l ts)); texts = w.texts }
