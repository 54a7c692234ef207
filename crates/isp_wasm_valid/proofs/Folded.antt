-- Folded code that is valid is valid as its instructions, one after the other.
use Rattle.std.proofs.Common.{◌≡◌, ℕ, List, [], ◌∷◌, ◌++◌, length, Option, Some, None, Bool, true, false, ◌&&◌, refl, sym, ap, subst, append_assoc, arith}
use Rattle.std.specs.Prelude.{slice_get, slice_index, nat_lt, nat_eq}
use Rattle.std.specs.List.{list_all}
use Rattle.std.proofs.lemmas.Bool.Decides.{nat_tests}
use Rattle.isp_wasm_meaning.specs.Lists.{listed}
use Rattle.isp_wasm_meaning.specs.Syntax as wasm
use Rattle.isp_wasm_meaning.specs.Syntax.{Binary, Of, BitsOf, ShiftOf, Compare, Lanes, CompareLanes, ShiftLanes, Bits, Replace, Shuffle, Expr, Const32, Const64, Const128, Local, One, Two, Select, Bitselect}
use Rattle.isp_wasm_meaning.specs.Syntax.{SignedText, UnsignedText, TruthText, ByteText, Code, Skip, Unreachable, Then, Set, Load, Store, Divide, If, Block, Loop, Br, BrTable, Return, Call, Write, Fail, Print, GetGlobal, SetGlobal, Clear}
use Rattle.isp_wasm_meaning.specs.Module.{ValueType, I32, I64, V128}
use Rattle.isp_wasm_meaning.specs.Valid.{same_type, is_type, taken, given, is_unary, first_taken, second_taken, given_by, is_binary, has_type}
use Rattle.isp_wasm_binary.specs.Instructions.{Word, Unary_word, Binary_word, Select_word, Bitselect_word}
use Rattle.isp_wasm_binary.specs.Same.{expr_words, sixteen}
use Rattle.isp_wasm_valid.specs.Typing.{Context, AreTyped, next, const32, const64, const128, unary, binary, select, bitselect, get}

-- ---- tests

pub both : (a b : Bool) → (a && b) ≡ true → (a ≡ true) × (b ≡ true)
both true b e = (refl, e)
both false b e = absurd (let no : ⊥ = cc in no)

same_types : (t u : ValueType) → same_type t u ≡ true → t ≡ u
same_types I32 I32 e = refl
same_types I64 I64 e = refl
same_types V128 V128 e = refl
same_types t u e = absurd (let no : ⊥ = cc in no)

pub is_some : (o : Option ValueType) (t : ValueType) → is_type o t ≡ true → o ≡ Some t
is_some None t e = absurd (let no : ⊥ = cc in no)
is_some (Some u) t e = ap Some (same_types u t e)

-- ---- shuffles

listed_is : (cs : List ℕ) → listed (length cs) (slice_index cs) ≡ cs
listed_is [] = refl
listed_is (x ∷ cs) = ap (λ z. x ∷ z) (listed_is cs)

eq_is : (a b : ℕ) → nat_eq a b ≡ true → a ≡ b
eq_is a b e = grind (arith, nat_tests)

sixteen_is : (o : Binary) → is_binary o ≡ true → sixteen o ≡ o
sixteen_is (Shuffle cs) e =
    let few : length cs ≡ 16 = eq_is (length cs) 16 (both (nat_eq (length cs) 16) (list_all (λ c. nat_lt c 32) cs) e).0 in
    ap Shuffle (subst (λ n. listed n (slice_index cs) ≡ cs) few (listed_is cs))
sixteen_is (Of t o) e = refl
sixteen_is (BitsOf t o) e = refl
sixteen_is (ShiftOf t o) e = refl
sixteen_is (Compare t o) e = refl
sixteen_is (Lanes s o) e = refl
sixteen_is (CompareLanes s o) e = refl
sixteen_is (ShiftLanes s o) e = refl
sixteen_is (Bits o) e = refl
sixteen_is (Replace s k) e = refl

-- ---- expressions

module _ (c : Context) where
  abbrev pub Labels : Type 0
  Labels = List (List ValueType)

  -- in the order in which words are written
  pub after_first : (ls : Labels) (a b ws : List Word) (st to : List ValueType) → AreTyped c ls (a ++ (b ++ ws)) st to → AreTyped c ls ((a ++ b) ++ ws) st to
  after_first ls a b ws st to x = subst (λ z. AreTyped c ls z st to) (sym (append_assoc a b ws)) x

  abbrev local : ℕ → Option ValueType
  local = slice_get c.locals

  -- it leaves a value of its type on the stack
  abbrev pub Leaves : Expr → ValueType → Type 0
  Leaves e t = (ls : Labels) (ws : List Word) (st to : List ValueType) → AreTyped c ls ws (t ∷ st) to → AreTyped c ls (expr_words e ++ ws) st to

  leaves_one : (o : wasm.Unary) (x : Expr) → is_unary o ≡ true → Leaves x (taken o) → Leaves (One o x) (given o)
  leaves_one o x there first ls ws st to rest =
      after_first ls (expr_words x) (Unary_word o ∷ []) ws st to (first ls (Unary_word o ∷ ws) st to (next st (unary o there) rest))

  leaves_two : (o : Binary) (x y : Expr) → is_binary o ≡ true → Leaves x (first_taken o) → Leaves y (second_taken o) → Leaves (Two o x y) (given_by o)
  leaves_two o x y there first second ls ws st to rest =
      after_first ls (expr_words x) (expr_words y ++ Binary_word (sixteen o) ∷ []) ws st to
      (first ls ((expr_words y ++ Binary_word (sixteen o) ∷ []) ++ ws) st to
      (after_first ls (expr_words y) (Binary_word (sixteen o) ∷ []) ws (first_taken o ∷ st) to
      (second ls (Binary_word (sixteen o) ∷ ws) (first_taken o ∷ st) to
      (subst (λ z. AreTyped c ls (Binary_word z ∷ ws) (second_taken o ∷ first_taken o ∷ st) to) (sym (sixteen_is o there)) (next st (binary o there) rest)))))

  -- three values, and the instruction that takes them
  leaves_three : (x y z : Expr) (t u v : ValueType) (w : Word) (ls : Labels) (ws : List Word) (st to : List ValueType)
      → Leaves x t → Leaves y u → Leaves z v → AreTyped c ls (w ∷ ws) (v ∷ u ∷ t ∷ st) to → AreTyped c ls ((expr_words x ++ (expr_words y ++ (expr_words z ++ w ∷ []))) ++ ws) st to
  leaves_three x y z t u v w ls ws st to first second third rest =
      after_first ls (expr_words x) (expr_words y ++ (expr_words z ++ w ∷ [])) ws st to
      (first ls ((expr_words y ++ (expr_words z ++ w ∷ [])) ++ ws) st to
      (after_first ls (expr_words y) (expr_words z ++ w ∷ []) ws (t ∷ st) to
      (second ls ((expr_words z ++ w ∷ []) ++ ws) (t ∷ st) to
      (after_first ls (expr_words z) (w ∷ []) ws (u ∷ t ∷ st) to
      (third ls (w ∷ ws) (u ∷ t ∷ st) to rest)))))

  pub leaves : (e : Expr) (t : ValueType) → has_type local e t ≡ true → Leaves e t
  leaves (Const32 n) t h ls ws st to rest = next st (const32 _) (subst (λ u. AreTyped c ls ws (u ∷ st) to) (sym (same_types I32 t h)) rest)
  leaves (Const64 n) t h ls ws st to rest = next st (const64 _) (subst (λ u. AreTyped c ls ws (u ∷ st) to) (sym (same_types I64 t h)) rest)
  leaves (Const128 n) t h ls ws st to rest = next st (const128 _) (subst (λ u. AreTyped c ls ws (u ∷ st) to) (sym (same_types V128 t h)) rest)
  leaves (Local x) t h ls ws st to rest = next st (get x t (is_some (local x) t h)) rest
  leaves (One o x) t h ls ws st to rest =
      let k = both (same_type (given o) t) (is_unary o && has_type local x (taken o)) h in
      let l = both (is_unary o) (has_type local x (taken o)) k.1 in
      subst (Leaves (One o x)) (same_types (given o) t k.0) (leaves_one o x l.0 (leaves x (taken o) l.1)) ls ws st to rest
  leaves (Two o x y) t h ls ws st to rest =
      let k = both (same_type (given_by o) t) (is_binary o && (has_type local x (first_taken o) && has_type local y (second_taken o))) h in
      let l = both (is_binary o) (has_type local x (first_taken o) && has_type local y (second_taken o)) k.1 in
      let m = both (has_type local x (first_taken o)) (has_type local y (second_taken o)) l.1 in
      subst (Leaves (Two o x y)) (same_types (given_by o) t k.0) (leaves_two o x y l.0 (leaves x (first_taken o) m.0) (leaves y (second_taken o) m.1)) ls ws st to rest
  leaves (Select d x y) t h ls ws st to rest =
      let k = both (has_type local d I32) (has_type local x t && has_type local y t) h in
      let l = both (has_type local x t) (has_type local y t) k.1 in
      leaves_three x y d t t I32 Select_word ls ws st to (leaves x t l.0) (leaves y t l.1) (leaves d I32 k.0) (next st (select t) rest)
  leaves (Bitselect x y d) t h ls ws st to rest =
      let k = both (same_type V128 t) (has_type local x V128 && (has_type local y V128 && has_type local d V128)) h in
      let l = both (has_type local x V128) (has_type local y V128 && has_type local d V128) k.1 in
      let m = both (has_type local y V128) (has_type local d V128) l.1 in
      leaves_three x y d V128 V128 V128 Bitselect_word ls ws st to (leaves x V128 l.0) (leaves y V128 m.0) (leaves d V128 m.1)
      (next st bitselect (subst (λ u. AreTyped c ls ws (u ∷ st) to) (sym (same_types V128 t k.0)) rest))
