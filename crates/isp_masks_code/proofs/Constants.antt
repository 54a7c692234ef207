-- What the text of code asks of a function besides numbers of 32 bits: its names are words, its local arrays have 1 to 65,536 elements,
-- and its constants have 64 bits.
use Rattle.std.proofs.Common.{◌≡◌, ℕ, zero, suc, nat_le, List, [], ◌∷◌, length, take, drop, Bool, true, false, ◌&&◌, refl, sym, ap, ◌∙◌, subst, le-leb, arith}
use Rattle.std.specs.List.{All, list_all}
use Rattle.std.proofs.lemmas.Bool.{and_from, and_parts}
use Rattle.isp_base.specs.declared.signature.Parameter.{Parameter}
use Rattle.isp_code.specs.Listing.{Listing, Routine}
use Rattle.isp_code.specs.Writable.{constant_in, is_first_byte, is_word_byte, local_fits, name_fits, param_fits, parts_fit}
use Rattle.isp_code.specs.declared.function.Local.{Local}
use Rattle.isp_lex.specs.Bytes as bytes
use Rattle.isp_lex.specs.Lexing.{IsWord}
use Rattle.isp_typed.specs.Fine.{AreParams, FineFunction, IsDeclared, IsParam}
use Rattle.isp_typed.specs.Scoped.{ScopedFunction}
use Rattle.isp_typed.specs.Typed.{TFunction}
use Rattle.isp_typed.specs.declared.variable.Holds.{Holds}
use Rattle.isp_typed.specs.declared.variable.Holds.TheVariants as holds
use Rattle.isp_typed.specs.declared.variable.Variable.{Variable}
use Rattle.isp_lower_code.specs.Header.{local_of, local_then, locals_of, params_of}
use Rattle.isp_lower_code.specs.Sound.{AreSound}
use Rattle.isp_lower_code.proofs.Lemmas.{constants_fit}

none : false ≡ true → ⊥
none e = absurd (cc)

-- ---- names

same_all : (p : ℕ → Bool) (bs : List ℕ) → bytes.all p bs ≡ list_all p bs
same_all p [] = refl
same_all p (b ∷ bs) = ap (λ z. p b && z) (same_all p bs)

word_fits : (n : List ℕ) → IsWord n → name_fits n ≡ true
word_fits [] w = absurd (none w.0)
word_fits (b ∷ bs) w =
    and_from (is_first_byte b) (list_all is_word_byte bs) w.0 (sym (same_all is_word_byte bs) ∙ (and_parts (is_word_byte b) (bytes.all is_word_byte bs) w.1).1)

params_fit : (ps : List Parameter) (vs : List Variable) → All (λ p. IsWord p.name) ps → list_all param_fits (params_of ps vs) ≡ true
params_fit [] vs w = refl
params_fit (p ∷ ps) [] w = refl
params_fit (p ∷ ps) (v ∷ vs) w =
    and_from (name_fits p.name) (list_all param_fits (params_of ps vs)) (word_fits p.name (w 0 p (omega arith))) (params_fit ps vs (λ k d lt. w (suc k) d (omega (arith, lt))))

-- ---- local arrays

param_then : (p : Parameter) (y : Holds) (ls : List Local) → IsParam p y → list_all local_fits ls ≡ true → list_all local_fits (local_then y ls) ≡ true
param_then p (holds.Value t) ls is f = f
param_then p (holds.Given t) ls is f = f
param_then p (holds.Local t n) ls is f = absurd is

declared_then : (x : Variable) (ls : List Local) → IsDeclared x → list_all local_fits ls ≡ true → list_all local_fits (local_then x.holds ls) ≡ true
declared_then x ls is f = go x.holds refl
  where
    go : (y : Holds) → x.holds ≡ y → list_all local_fits (local_then y ls) ≡ true
    go (holds.Value t) e = f
    go (holds.Given t) e = f
    go (holds.Local t n) e =
        let own : IsDeclared (record { holds = holds.Local t n; constant = x.constant }) = subst IsDeclared (ap (λ z. record { holds = z; constant = x.constant }) e) is in
        and_from (local_fits (local_of t n)) (list_all local_fits ls) (and_from (nat_le 1 n) (nat_le n 65536) (le-leb 1 n own.some) (le-leb n 65536 own.few)) f

locals_fit : (n : ℕ) (ps : List Parameter) (vs : List Variable) → AreParams ps (take n vs) → All IsDeclared (drop n vs) → list_all local_fits (locals_of vs) ≡ true
locals_fit n ps [] are declared = refl
locals_fit zero ps (v ∷ vs) are declared =
    declared_then v (locals_of vs) (declared 0 v (omega arith)) (locals_fit zero [] vs tt (λ k d lt. declared (suc k) d (omega (arith, lt))))
locals_fit (suc n) [] (v ∷ vs) are declared = absurd are
locals_fit (suc n) (p ∷ ps) (v ∷ vs) are declared = param_then p v.holds (locals_of vs) are.0 (locals_fit n ps vs are.1 declared)

-- ---- a function

module _ (code : Listing) (g : Routine) where
  pub routine_parts_fit : (fs : List TFunction) (h : TFunction) → FineFunction fs h → ScopedFunction h → AreSound code g g.code
      → g.name ≡ h.name → g.params ≡ params_of h.parameters h.variables → g.locals ≡ locals_of h.variables → parts_fit g ≡ true
  routine_parts_fit fs h fine scoped sound name params locals =
      let names : name_fits g.name ≡ true = ap name_fits name ∙ word_fits h.name scoped.name in
      let words : list_all param_fits g.params ≡ true = ap (list_all param_fits) params ∙ params_fit h.parameters h.variables scoped.words in
      let arrays : list_all local_fits g.locals ≡ true = ap (list_all local_fits) locals ∙ locals_fit (length h.params) h.parameters h.variables fine.params fine.declared in
      and_from (name_fits g.name && list_all param_fits g.params && list_all local_fits g.locals) (list_all constant_in g.code)
      (and_from (name_fits g.name && list_all param_fits g.params) (list_all local_fits g.locals) (and_from (name_fits g.name) (list_all param_fits g.params) names words) arrays) (constants_fit code g g.code sound)
