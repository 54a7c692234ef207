-- Folded code that is valid is valid as its instructions, one after the other: control, memory, and what goes to locals.
use Rattle.std.proofs.Common.{◌≡◌, ◌≢◌, ◌⊎◌, inl, inr, ⊎_elim, ℕ, zero, suc, ◌+◌, ◌^◌, ◌<◌, List, [], ◌∷◌, ◌++◌, Option, Some, None, Bool, true, false, ◌&&◌, refl, sym, ap, ◌∙◌, subst, append_assoc, append-nil, arith}
use Rattle.std.specs.Prelude.{◌||◌, slice_get, nat_lt, nat_eq}
use Rattle.std.specs.List.{list_all, flat_map}
use Rattle.std.proofs.lemmas.Bool.{cases_eq}
use Rattle.std.proofs.lemmas.Bool.Decides.{nat_tests}
use Rattle.isp_wasm_meaning.specs.Syntax.{Expr, Local, Printed}
use Rattle.isp_wasm_meaning.specs.Syntax.{Code, Skip, Unreachable, Then, Set, Load, Store, Divide, If, Block, Loop, Br, BrTable, Return, Call, Write, Fail, Print, GetGlobal, SetGlobal, Clear}
use Rattle.isp_wasm_meaning.specs.Module.{ValueType, I32, Function}
use Rattle.isp_wasm_meaning.specs.Valid.{sized, held, taken_by, global_type, changes, has_type, of_type, is_label, gives, have_types, gets, call_fits, is_valid, ends_there, may_end}
use Rattle.isp_wasm_binary.specs.Binary.{write_type, trap_type, results_of, type_of}
use Rattle.isp_wasm_binary.specs.Modules.{Global}
use Rattle.isp_wasm_binary.specs.Instructions.{Word, access, is_nothing, hosts, host_write, host_trap, host_print, Set_word, Division_word, Load_word, Store_word, If_word, Else_word, End_word, BrTable_word, Return_word, Call_word, Unreachable_word, SetGlobal_word, Fill_word, Const32_word, Block_word, Loop_word}
use Rattle.isp_wasm_binary.specs.Same.{expr_words, result_words, returned_words, else_words, code_words}
use Rattle.isp_wasm_valid.specs.Typing.{Context, AreTyped, onto, held_by, none, next, block, loop, if_then, if_else, unreachable, br, br_table, return, const32, division, set, get_global, set_global, load, store, fill, call}
use Rattle.isp_wasm_valid.proofs.Folded.{both, is_some, Leaves, leaves, after_first}

-- ---- tests

pub lt_is : (a b : ℕ) → nat_lt a b ≡ true → a < b
lt_is a b e = grind (arith, nat_tests)

not_eq : (a b : ℕ) → a ≢ b → nat_eq a b ≡ false
not_eq a b e = grind (arith, nat_tests)

all_get : (p : ℕ → Bool) (ks : List ℕ) → list_all p ks ≡ true → (i l : ℕ) → slice_get ks i ≡ Some l → p l ≡ true
all_get p [] h i l e = absurd (let no : ⊥ = cc in no)
all_get p (k ∷ ks) h zero l e = let same : k ≡ l = cc in subst (λ z. p z ≡ true) same (both (p k) (list_all p ks) h).0
all_get p (k ∷ ks) h (suc i) l e = all_get p ks (both (p k) (list_all p ks) h).1 i l e

-- ---- how many bytes are loaded and stored

same_held : (n m : ℕ) (t : ValueType) → n ≡ m → (held m ≡ Some t → held_by (access m) ≡ Some t) → held n ≡ Some t → held_by (access n) ≡ Some t
same_held n m t e f = subst (λ z. held z ≡ Some t → held_by (access z) ≡ Some t) (sym e) f

none_held : (n : ℕ) → n ≢ 16 → n ≢ 8 → n ≢ 4 → n ≢ 2 → n ≢ 1 → held n ≡ None
none_held n a b c d e = simp (not_eq n 16 a, not_eq n 8 b, not_eq n 4 c, not_eq n 2 d, not_eq n 1 e) refl

access_held : (n : ℕ) (t : ValueType) → held n ≡ Some t → held_by (access n) ≡ Some t
access_held n t h =
    ⊎_elim (λ e. same_held n 16 t e (λ k. k) h)
    (λ a. ⊎_elim (λ e. same_held n 8 t e (λ k. k) h)
    (λ b. ⊎_elim (λ e. same_held n 4 t e (λ k. k) h)
    (λ c. ⊎_elim (λ e. same_held n 2 t e (λ k. k) h)
    (λ d. ⊎_elim (λ e. same_held n 1 t e (λ k. k) h) (λ e. let clash : None ≡ Some t = sym (none_held n a b c d e) ∙ h in absurd (let no : ⊥ = cc in no)) (cases_eq n 1))
    (cases_eq n 2)) (cases_eq n 4)) (cases_eq n 8)) (cases_eq n 16)

-- ---- labels

-- inside so many blocks of a function that gives this back
abbrev pub labels : Option ValueType → ℕ → List (List ValueType)
labels r zero = results_of r ∷ []
labels r (suc n) = [] ∷ labels r n

label_in : (r : Option ValueType) (n k : ℕ) → k < n → slice_get (labels r n) k ≡ Some []
label_in r zero k lt = absurd (omega (arith, lt))
label_in r (suc n) zero lt = refl
label_in r (suc n) (suc k) lt = label_in r n k (omega (arith, lt))

label_out : (n : ℕ) → slice_get (labels None n) n ≡ Some []
label_out zero = refl
label_out (suc n) = label_out n

label : (local : ℕ → Option ValueType) (r : Option ValueType) (n k : ℕ) → is_label local r n k ≡ true → slice_get (labels r n) k ≡ Some []
label local None n k h =
    ⊎_elim (λ e. subst (λ z. slice_get (labels None n) z ≡ Some []) (sym e) (label_out n))
    (λ apart. let low = lt_is k (suc n) h in label_in None n k (omega (arith, low, apart))) (cases_eq k n)
label local (Some t) n k h = label_in (Some t) n k (lt_is k n h)

-- ---- what a function of a module finds

pub record Finds (c : Context) (functions : List Function) (result : Option ValueType) : Type 0 where
  pub writes : slice_get c.functions host_write ≡ Some write_type
  pub traps : slice_get c.functions host_trap ≡ Some trap_type
  pub prints : (o : Printed) → slice_get c.functions (host_print o) ≡ Some (record { params = taken_by o ∷ []; results = [] })
  pub calls : (f : ℕ) (g : Function) → slice_get functions f ≡ Some g → slice_get c.functions (hosts + f) ≡ Some (type_of g)
  pub globals : (x : ℕ) (t : ValueType) → global_type x ≡ Some t → (g : Global) × (slice_get c.globals x ≡ Some g) × (g.type ≡ t) × (changes x ≡ true → g.changes ≡ true)
  pub back : c.back ≡ results_of result

module _ (c : Context) (functions : List Function) (result : Option ValueType) (finds : Finds c functions result) where
  abbrev local : ℕ → Option ValueType
  local = slice_get c.locals

  -- words between one stack and another
  abbrev Typed : ℕ → List Word → List ValueType → List ValueType → Type 0
  Typed n ws st to = AreTyped c (labels result n) ws st to

  takes_one : (e : Expr) (t : ValueType) (v : List Word) (n : ℕ) (ws : List Word) (st to : List ValueType) → Leaves c e t → Typed n (v ++ ws) (t ∷ st) to → Typed n ((expr_words e ++ v) ++ ws) st to
  takes_one e t v n ws st to first rest = after_first c (labels result n) (expr_words e) v ws st to (first (labels result n) (v ++ ws) st to rest)

  takes_two : (x y : Expr) (t u : ValueType) (v : List Word) (n : ℕ) (ws : List Word) (st to : List ValueType) → Leaves c x t → Leaves c y u → Typed n (v ++ ws) (u ∷ t ∷ st) to
      → Typed n ((expr_words x ++ (expr_words y ++ v)) ++ ws) st to
  takes_two x y t u v n ws st to first second rest = takes_one x t (expr_words y ++ v) n ws st to first (takes_one y u v n ws (t ∷ st) to second rest)

  takes_all : (es : List Expr) (ts : List ValueType) (v : List Word) (n : ℕ) (ws : List Word) (st to : List ValueType) → have_types local es ts ≡ true → Typed n (v ++ ws) (onto ts st) to
      → Typed n ((flat_map expr_words es ++ v) ++ ws) st to
  takes_all [] [] v n ws st to h rest = rest
  takes_all (e ∷ es) (t ∷ ts) v n ws st to h rest =
      let k = both (has_type local e t) (have_types local es ts) h in
      subst (λ z. Typed n (z ++ ws) st to) (sym (append_assoc (expr_words e) (flat_map expr_words es) v))
      (takes_one e t (flat_map expr_words es ++ v) n ws st to (leaves c e t k.0) (takes_all es ts v n ws (t ∷ st) to k.1 rest))
  takes_all [] (t ∷ ts) v n ws st to h rest = absurd (let no : ⊥ = cc in no)
  takes_all (e ∷ es) [] v n ws st to h rest = absurd (let no : ⊥ = cc in no)

  -- ---- what gets or takes a value of a type that is looked up

  to_local : (x : ℕ) (e : Expr) (o : Option ValueType) → local x ≡ o → of_type local e o ≡ true → (n : ℕ) (ws : List Word) (st to : List ValueType) → Typed n ws st to
      → Typed n ((expr_words e ++ Set_word x ∷ []) ++ ws) st to
  to_local x e None is h n ws st to rest = absurd (let no : ⊥ = cc in no)
  to_local x e (Some t) is h n ws st to rest = takes_one e t (Set_word x ∷ []) n ws st to (leaves c e t h) (next st (set x t is) rest)

  loads : (m x : ℕ) (a : Expr) (o : ℕ) (u : Option ValueType) → held m ≡ u → of_type local (Local x) u ≡ true → has_type local a I32 ≡ true → o < 2 ^ 32
      → (n : ℕ) (ws : List Word) (st to : List ValueType) → Typed n ws st to → Typed n ((expr_words a ++ Load_word (access m) o ∷ Set_word x ∷ []) ++ ws) st to
  loads m x a o None is h k lt n ws st to rest = absurd (let no : ⊥ = cc in no)
  loads m x a o (Some t) is h k lt n ws st to rest =
      takes_one a I32 (Load_word (access m) o ∷ Set_word x ∷ []) n ws st to (leaves c a I32 k)
      (next st (load (access m) o t (access_held m t is) lt) (next st (set x t (is_some (local x) t h)) rest))

  stores : (m : ℕ) (a : Expr) (o : ℕ) (e : Expr) (u : Option ValueType) → held m ≡ u → of_type local e u ≡ true → has_type local a I32 ≡ true → o < 2 ^ 32
      → (n : ℕ) (ws : List Word) (st to : List ValueType) → Typed n ws st to → Typed n ((expr_words a ++ (expr_words e ++ Store_word (access m) o ∷ [])) ++ ws) st to
  stores m a o e None is h k lt n ws st to rest = absurd (let no : ⊥ = cc in no)
  stores m a o e (Some t) is h k lt n ws st to rest =
      takes_two a e I32 t (Store_word (access m) o ∷ []) n ws st to (leaves c a I32 k) (leaves c e t h) (next st (store (access m) o t (access_held m t is) lt) rest)

  from_global : (x g : ℕ) (u : Option ValueType) → global_type g ≡ u → of_type local (Local x) u ≡ true → (n : ℕ) (ws : List Word) (st to : List ValueType) → Typed n ws st to
      → Typed n (code_words (GetGlobal x g) ++ ws) st to
  from_global x g None is h n ws st to rest = absurd (let no : ⊥ = cc in no)
  from_global x g (Some t) is h n ws st to rest =
      let k = finds.globals g t is in
      next st (get_global g k.0 k.1) (next st (set x k.0.type (is_some (local x) t h ∙ ap Some (sym k.2))) rest)

  to_global : (g : ℕ) (e : Expr) (u : Option ValueType) → global_type g ≡ u → changes g ≡ true → of_type local e u ≡ true → (n : ℕ) (ws : List Word) (st to : List ValueType) → Typed n ws st to
      → Typed n ((expr_words e ++ SetGlobal_word g ∷ []) ++ ws) st to
  to_global g e None is may h n ws st to rest = absurd (let no : ⊥ = cc in no)
  to_global g e (Some t) is may h n ws st to rest =
      let k = finds.globals g t is in
      takes_one e k.0.type (SetGlobal_word g ∷ []) n ws st to (subst (Leaves c e) (sym k.2) (leaves c e t h)) (next st (set_global g k.0 k.1 (k.3 may)) rest)

  got : (t : Option ValueType) (x : Option ℕ) → gets local t x ≡ true → (n : ℕ) (ws : List Word) (st to : List ValueType) → Typed n ws st to → Typed n (result_words x ++ ws) (onto (results_of t) st) to
  got None None h n ws st to rest = rest
  got (Some t) (Some x) h n ws st to rest = next st (set x t (is_some (local x) t h)) rest
  got None (Some x) h n ws st to rest = absurd (let no : ⊥ = cc in no)
  got (Some t) None h n ws st to rest = absurd (let no : ⊥ = cc in no)

  called : (f : ℕ) (xs : List Expr) (x : Option ℕ) (o : Option Function) → slice_get functions f ≡ o → call_fits local o xs x ≡ true → (n : ℕ) (ws : List Word) (st to : List ValueType) → Typed n ws st to
      → Typed n ((flat_map expr_words xs ++ Call_word (hosts + f) ∷ result_words x) ++ ws) st to
  called f xs x None is h n ws st to rest = absurd (let no : ⊥ = cc in no)
  called f xs x (Some g) is h n ws st to rest =
      let k = both (have_types local xs g.params) (gets local g.result x) h in
      takes_all xs g.params (Call_word (hosts + f) ∷ result_words x) n ws st to k.0 (next st (call (hosts + f) (type_of g) (finds.calls f g is)) (got g.result x k.1 n ws st to rest))

  returned : (r : Option ValueType) (e : Option Expr) → gives local r e ≡ true → c.back ≡ results_of r → (n : ℕ) (ws : List Word) (st any to : List ValueType) → Typed n ws any to
      → Typed n (returned_words e ++ ws) st to
  returned None None h is n ws st any to rest = subst (λ ts. Typed n (Return_word ∷ ws) (onto ts st) to) is (return st rest)
  returned (Some t) (Some e) h is n ws st any to rest =
      takes_one e t (Return_word ∷ []) n ws st to (leaves c e t h) (subst (λ ts. Typed n (Return_word ∷ ws) (onto ts st) to) is (return st rest))
  returned None (Some e) h is n ws st any to rest = absurd (let no : ⊥ = cc in no)
  returned (Some t) None h is n ws st any to rest = absurd (let no : ⊥ = cc in no)

  jumps : (ks : List ℕ) (k : ℕ) (e : Expr) (n : ℕ) → is_valid local functions result n (BrTable ks k e) ≡ true → (ws : List Word) (st any to : List ValueType) → Typed n ws any to
      → Typed n (code_words (BrTable ks k e) ++ ws) st to
  jumps ks k e n h ws st any to rest =
      let a = both (list_all (is_label local result n) ks) (is_label local result n k && has_type local e I32) h in
      let b = both (is_label local result n k) (has_type local e I32) a.1 in
      takes_one e I32 (BrTable_word ks k ∷ []) n ws st to (leaves c e I32 b.1)
      (br_table st (λ i l is. label local result n l (all_get (is_label local result n) ks a.0 i l is)) (label local result n k b.0) rest)

  -- ---- blocks

  if_typed : (nothing : Bool) (a b : List Word) (n : ℕ) (ws : List Word) (st to : List ValueType) → Typed (suc n) a [] [] → Typed (suc n) b [] [] → Typed n ws st to
      → Typed n ((If_word ∷ (a ++ (else_words nothing b ++ End_word ∷ []))) ++ ws) (I32 ∷ st) to
  if_typed true a b n ws st to x y rest = subst (λ z. Typed n (If_word ∷ z) (I32 ∷ st) to) (sym (append_assoc a (End_word ∷ []) ws)) (if_then x rest)
  if_typed false a b n ws st to x y rest =
      subst (λ z. Typed n (If_word ∷ z) (I32 ∷ st) to)
      (sym (append_assoc a (Else_word ∷ (b ++ End_word ∷ [])) ws ∙ ap (λ z. a ++ Else_word ∷ z) (append_assoc b (End_word ∷ []) ws))) (if_else x y rest)

  -- ---- code

  pub keeps : (n : ℕ) (a : Code) → is_valid local functions result n a ≡ true → (ws : List Word) (st to : List ValueType) → Typed n ws st to → Typed n (code_words a ++ ws) st to
  keeps n Skip h ws st to rest = rest
  keeps n Unreachable h ws st to rest = unreachable st rest
  keeps n (Then a b) h ws st to rest =
      let k = both (is_valid local functions result n a) (is_valid local functions result n b) h in
      after_first c (labels result n) (code_words a) (code_words b) ws st to (keeps n a k.0 (code_words b ++ ws) st to (keeps n b k.1 ws st to rest))
  keeps n (Set x e) h ws st to rest = to_local x e (local x) refl h n ws st to rest
  keeps n (Load m x a o) h ws st to rest =
      let k = both (of_type local (Local x) (held m)) (has_type local a I32 && nat_lt o (2 ^ 32)) h in
      let l = both (has_type local a I32) (nat_lt o (2 ^ 32)) k.1 in
      loads m x a o (held m) refl k.0 l.0 (lt_is o (2 ^ 32) l.1) n ws st to rest
  keeps n (Store m a o e) h ws st to rest =
      let k = both (of_type local e (held m)) (has_type local a I32 && nat_lt o (2 ^ 32)) h in
      let l = both (has_type local a I32) (nat_lt o (2 ^ 32)) k.1 in
      stores m a o e (held m) refl k.0 l.0 (lt_is o (2 ^ 32) l.1) n ws st to rest
  keeps n (Divide t o x a b) h ws st to rest =
      let k = both (has_type local (Local x) (sized t)) (has_type local a (sized t) && has_type local b (sized t)) h in
      let l = both (has_type local a (sized t)) (has_type local b (sized t)) k.1 in
      takes_two a b (sized t) (sized t) (Division_word t o ∷ Set_word x ∷ []) n ws st to (leaves c a (sized t) l.0) (leaves c b (sized t) l.1)
      (next st (division t o) (next st (set x (sized t) (is_some (local x) (sized t) k.0)) rest))
  keeps n (If d a b) h ws st to rest =
      let k = both (has_type local d I32) (is_valid local functions result (suc n) a && is_valid local functions result (suc n) b) h in
      let l = both (is_valid local functions result (suc n) a) (is_valid local functions result (suc n) b) k.1 in
      takes_one d I32 (If_word ∷ (code_words a ++ (else_words (is_nothing b) (code_words b) ++ End_word ∷ []))) n ws st to (leaves c d I32 k.0)
      (if_typed (is_nothing b) (code_words a) (code_words b) n ws st to
      (subst (λ z. Typed (suc n) z [] []) (append-nil (code_words a)) (keeps (suc n) a l.0 [] [] [] none))
      (subst (λ z. Typed (suc n) z [] []) (append-nil (code_words b)) (keeps (suc n) b l.1 [] [] [] none)) rest)
  keeps n (Block a) h ws st to rest =
      subst (λ z. Typed n (Block_word ∷ z) st to) (sym (append_assoc (code_words a) (End_word ∷ []) ws))
      (block (subst (λ z. Typed (suc n) z [] []) (append-nil (code_words a)) (keeps (suc n) a h [] [] [] none)) rest)
  keeps n (Loop a) h ws st to rest =
      subst (λ z. Typed n (Loop_word ∷ z) st to) (sym (append_assoc (code_words a) (End_word ∷ []) ws))
      (loop (subst (λ z. Typed (suc n) z [] []) (append-nil (code_words a)) (keeps (suc n) a h [] [] [] none)) rest)
  keeps n (Br k) h ws st to rest = br st (label local result n k h) rest
  keeps n (BrTable ks k e) h ws st to rest = jumps ks k e n h ws st st to rest
  keeps n (Return e) h ws st to rest = returned result e h finds.back n ws st st to rest
  keeps n (Call f xs x) h ws st to rest = called f xs x (slice_get functions f) refl h n ws st to rest
  keeps n (Write a b) h ws st to rest =
      let k = both (has_type local a I32) (has_type local b I32) h in
      takes_two a b I32 I32 (Call_word host_write ∷ []) n ws st to (leaves c a I32 k.0) (leaves c b I32 k.1) (next st (call host_write write_type finds.writes) rest)
  keeps n (Fail k a b p) h ws st to rest =
      next st (const32 _) (next (I32 ∷ st) (const32 _) (next (I32 ∷ I32 ∷ st) (const32 _)
      (takes_one p I32 (Call_word host_trap ∷ Unreachable_word ∷ []) n ws (I32 ∷ I32 ∷ I32 ∷ st) to (leaves c p I32 h) (next st (call host_trap trap_type finds.traps) (unreachable st rest)))))
  keeps n (Print o e) h ws st to rest = takes_one e (taken_by o) (Call_word (host_print o) ∷ []) n ws st to (leaves c e (taken_by o) h) (next st (call (host_print o) _ (finds.prints o)) rest)
  keeps n (GetGlobal x g) h ws st to rest = from_global x g (global_type g) refl h n ws st to rest
  keeps n (SetGlobal g e) h ws st to rest = let k = both (changes g) (of_type local e (global_type g)) h in to_global g e (global_type g) refl k.0 k.1 n ws st to rest
  keeps n (Clear a b) h ws st to rest =
      let k = both (has_type local a I32) (has_type local b I32) h in
      takes_one a I32 (Const32_word 0 ∷ (expr_words b ++ Fill_word ∷ [])) n ws st to (leaves c a I32 k.0)
      (next (I32 ∷ st) (const32 0) (takes_one b I32 (Fill_word ∷ []) n ws (I32 ∷ I32 ∷ st) to (leaves c b I32 k.1) (next st fill rest)))

  either : (a b : Bool) → (a || b) ≡ true → (a ≡ true) ⊎ (b ≡ true)
  either true b e = inl refl
  either false b e = inr e

  -- after such code the stack is any
  pub leaps : (n : ℕ) (a : Code) → is_valid local functions result n a ≡ true → ends_there a ≡ true → (ws : List Word) (st any to : List ValueType) → Typed n ws any to → Typed n (code_words a ++ ws) st to
  leaps n Unreachable h e ws st any to rest = unreachable st rest
  leaps n (Br k) h e ws st any to rest = br st (label local result n k h) rest
  leaps n (BrTable ks k d) h e ws st any to rest = jumps ks k d n h ws st any to rest
  leaps n (Return x) h e ws st any to rest = returned result x h finds.back n ws st any to rest
  leaps n (Then a b) h e ws st any to rest =
      let k = both (is_valid local functions result n a) (is_valid local functions result n b) h in
      after_first c (labels result n) (code_words a) (code_words b) ws st to
      (⊎_elim (λ x. keeps n a k.0 (code_words b ++ ws) st to (leaps n b k.1 x ws st any to rest)) (λ x. leaps n a k.0 x (code_words b ++ ws) st any to (keeps n b k.1 ws any to rest))
      (either (ends_there b) (ends_there a) e))
  leaps n a h e ws st any to rest = absurd (let no : ⊥ = cc in no)

  ends_well : (a : Code) (r : Option ValueType) → result ≡ r → is_valid local functions result 0 a ≡ true → may_end r a ≡ true → Typed 0 (code_words a) [] (onto (results_of r) [])
  ends_well a None is h e = subst (λ z. Typed 0 z [] []) (append-nil (code_words a)) (keeps 0 a h [] [] [] none)
  ends_well a (Some t) is h e = subst (λ z. Typed 0 z [] (t ∷ [])) (append-nil (code_words a)) (leaps 0 a h e [] [] (t ∷ []) (t ∷ []) none)

  pub typed : (a : Code) → is_valid local functions result 0 a ≡ true → may_end result a ≡ true → Typed 0 (code_words a) [] (onto (results_of result) [])
  typed a h e = ends_well a result refl h e
