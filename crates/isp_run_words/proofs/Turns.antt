-- One turn of each loop, by the definition that it computes.
use Rattle.std.proofs.Common.{◌≡◌, ℕ, zero, suc, ◌+◌, ◌<◌, List, [], ◌∷◌, ◌++◌, length, take, drop, get_or, Bool, true, false, Option, Some, None, Result, Ok, Err, refl, sym, ap, ◌∙◌, append_assoc, add-one, if◌then◌else◌}
use Rattle.std.specs.Prelude.{bytes_eq, not, replicate}
use Rattle.std.proofs.lemmas.List.{drop_more}
use Rattle.isp_base.specs.declared.signature.Parameter.{Parameter}
use Rattle.isp_base.specs.declared.signature.Argument.{Argument}
use Rattle.isp_bind.specs.Binding.{is_parameter}
use Rattle.isp_run_words.specs.Giving.{◌>>=◌, argument_by, argument_of, arguments_by, is_given, stray_from}
use Rattle.isp_run_words.specs.Saying.{◌>>?◌, product_of, step_of}
use Rattle.isp_run_words.specs.declared.words.LengthsRead.{LengthsRead}
use Rattle.isp_run_words.specs.declared.fault.GivenFault.{GivenFault}
use Rattle.isp_run_words.specs.declared.fault.GivenFault.TheVariants.{Unknown, Twice}
use Rattle.isp_run_words.specs.declared.given.Given.{Given}

-- ---- the arguments

-- these before those that follow
abbrev pub with_done : List Argument → Result (List Argument) GivenFault → Result (List Argument) GivenFault
with_done xs r = r >>= (λ ys. Ok (xs ++ ys))

done_one : (xs : List Argument) (x : Argument) (r : Result (List Argument) GivenFault) → with_done xs (r >>= (λ ys. Ok (x ∷ ys))) ≡ with_done (xs ++ x ∷ []) r
done_one xs x (Ok ys) = ap (λ (l : List Argument). let r : Result (List Argument) GivenFault = Ok l in r) (sym (append_assoc xs (x ∷ []) ys))
done_one xs x (Err e) = refl

from_here : (ps : List Parameter) (gs : List Given) (i : ℕ) (p : Parameter) → i < length ps → p ≡ get_or ps i p
    → arguments_by i (drop i ps) gs ≡ (argument_by i p gs >>= (λ x. arguments_by (i + 1) (drop (i + 1) ps) gs >>= (λ xs. Ok (x ∷ xs))))
from_here ps gs i p less is =
    ap (λ (l : List Parameter). arguments_by i l gs) (drop_more ps i p less)
    ∙ ap (λ (q : Parameter). argument_by i q gs >>= (λ x. arguments_by (suc i) (drop (i + 1) ps) gs >>= (λ xs. Ok (x ∷ xs)))) (sym is)
    ∙ ap (λ (k : ℕ). argument_by i p gs >>= (λ x. arguments_by k (drop (i + 1) ps) gs >>= (λ xs. Ok (x ∷ xs)))) (sym (add-one i))

pub done_next : (ps : List Parameter) (gs : List Given) (i : ℕ) (p : Parameter) (x : Argument) (xs : List Argument) → i < length ps → p ≡ get_or ps i p → argument_by i p gs ≡ Ok x
    → with_done xs (arguments_by i (drop i ps) gs) ≡ with_done (xs ++ x ∷ []) (arguments_by (i + 1) (drop (i + 1) ps) gs)
done_next ps gs i p x xs less is one =
    ap (with_done xs) (from_here ps gs i p less is)
    ∙ ap (λ (r : Result Argument GivenFault). with_done xs (r >>= (λ x. arguments_by (i + 1) (drop (i + 1) ps) gs >>= (λ xs. Ok (x ∷ xs))))) one
    ∙ done_one xs x (arguments_by (i + 1) (drop (i + 1) ps) gs)

pub done_bad : (ps : List Parameter) (gs : List Given) (i : ℕ) (p : Parameter) (e : GivenFault) (xs : List Argument) → i < length ps → p ≡ get_or ps i p → argument_by i p gs ≡ Err e
    → with_done xs (arguments_by i (drop i ps) gs) ≡ Err e
done_bad ps gs i p e xs less is one =
    ap (with_done xs) (from_here ps gs i p less is)
    ∙ ap (λ (r : Result Argument GivenFault). with_done xs (r >>= (λ x. arguments_by (i + 1) (drop (i + 1) ps) gs >>= (λ xs. Ok (x ∷ xs))))) one

-- ---- one argument

pub found_next : (k : ℕ) (p : Parameter) (gs : List Given) (i : ℕ) (g : Given) → i < length gs → g ≡ get_or gs i g → bytes_eq g.name p.name ≡ false
    → argument_by k p (drop i gs) ≡ argument_by k p (drop (i + 1) gs)
found_next k p gs i g less is other =
    ap (argument_by k p) (drop_more gs i g less)
    ∙ ap (λ (h : Given). if bytes_eq h.name p.name then argument_of k p h.content else argument_by k p (drop (i + 1) gs)) (sym is)
    ∙ ap (λ (b : Bool). if b then argument_of k p g.content else argument_by k p (drop (i + 1) gs)) other

pub found_here : (k : ℕ) (p : Parameter) (gs : List Given) (i : ℕ) (g : Given) → i < length gs → g ≡ get_or gs i g → bytes_eq g.name p.name ≡ true
    → argument_by k p (drop i gs) ≡ argument_of k p g.content
found_here k p gs i g less is same =
    ap (argument_by k p) (drop_more gs i g less)
    ∙ ap (λ (h : Given). if bytes_eq h.name p.name then argument_of k p h.content else argument_by k p (drop (i + 1) gs)) (sym is)
    ∙ ap (λ (b : Bool). if b then argument_of k p g.content else argument_by k p (drop (i + 1) gs)) same

-- ---- stray words

-- what is said of word i
abbrev at_word : List Parameter → List Given → ℕ → Given → Option GivenFault → Option GivenFault
at_word ps gs i g more = if not (is_parameter ps g.name) then Some (Unknown i) else (if is_given (take i gs) g.name then Some (Twice i) else more)

stray_here : (ps : List Parameter) (gs : List Given) (i : ℕ) (g : Given) → i < length gs → g ≡ get_or gs i g
    → stray_from ps gs i (drop i gs) ≡ at_word ps gs i g (stray_from ps gs (i + 1) (drop (i + 1) gs))
stray_here ps gs i g less is =
    ap (stray_from ps gs i) (drop_more gs i g less)
    ∙ ap (λ (h : Given). at_word ps gs i h (stray_from ps gs (suc i) (drop (i + 1) gs))) (sym is)
    ∙ ap (λ (k : ℕ). at_word ps gs i g (stray_from ps gs k (drop (i + 1) gs))) (sym (add-one i))

pub stray_next : (ps : List Parameter) (gs : List Given) (i : ℕ) (g : Given) → i < length gs → g ≡ get_or gs i g → is_parameter ps g.name ≡ true → is_given (take i gs) g.name ≡ false
    → stray_from ps gs i (drop i gs) ≡ stray_from ps gs (i + 1) (drop (i + 1) gs)
stray_next ps gs i g less is known new =
    let more = stray_from ps gs (i + 1) (drop (i + 1) gs) in
    stray_here ps gs i g less is
    ∙ ap (λ (b : Bool). if not b then Some (Unknown i) else (if is_given (take i gs) g.name then Some (Twice i) else more)) known
    ∙ ap (λ (b : Bool). if b then Some (Twice i) else more) new

pub stray_unknown : (ps : List Parameter) (gs : List Given) (i : ℕ) (g : Given) → i < length gs → g ≡ get_or gs i g → is_parameter ps g.name ≡ false
    → stray_from ps gs i (drop i gs) ≡ Some (Unknown i)
stray_unknown ps gs i g less is other =
    let more = stray_from ps gs (i + 1) (drop (i + 1) gs) in
    stray_here ps gs i g less is
    ∙ ap (λ (b : Bool). if not b then Some (Unknown i) else (if is_given (take i gs) g.name then Some (Twice i) else more)) other

pub stray_twice : (ps : List Parameter) (gs : List Given) (i : ℕ) (g : Given) → i < length gs → g ≡ get_or gs i g → is_parameter ps g.name ≡ true → is_given (take i gs) g.name ≡ true
    → stray_from ps gs i (drop i gs) ≡ Some (Twice i)
stray_twice ps gs i g less is known again =
    let more = stray_from ps gs (i + 1) (drop (i + 1) gs) in
    stray_here ps gs i g less is
    ∙ ap (λ (b : Bool). if not b then Some (Unknown i) else (if is_given (take i gs) g.name then Some (Twice i) else more)) known
    ∙ ap (λ (b : Bool). if b then Some (Twice i) else more) again

-- ---- zeros

abbrev nothing : ℕ → List ℕ
nothing n = replicate n 0

abbrev one_zero : List ℕ
one_zero = 0 ∷ []

snoc : (n : ℕ) → nothing n ++ one_zero ≡ nothing (suc n)
snoc zero = refl
snoc (suc n) = ap (λ (l : List ℕ). 0 ∷ l) (snoc n)

pub zeros_more : (n : ℕ) → nothing n ++ one_zero ≡ nothing (n + 1)
zeros_more n = snoc n ∙ ap nothing (sym (add-one n))

-- ---- lengths

read_here : (r : LengthsRead) (bs : List ℕ) (i : ℕ) (b : ℕ) → i < length bs → b ≡ get_or bs i b → product_of r (drop i bs) ≡ (step_of r b >>? (λ s. product_of s (drop (i + 1) bs)))
read_here r bs i b less is =
    ap (product_of r) (drop_more bs i b less) ∙ ap (λ (c : ℕ). step_of r c >>? (λ s. product_of s (drop (i + 1) bs))) (sym is)

pub read_next : (r s : LengthsRead) (bs : List ℕ) (i : ℕ) (b : ℕ) → i < length bs → b ≡ get_or bs i b → step_of r b ≡ Some s → product_of r (drop i bs) ≡ product_of s (drop (i + 1) bs)
read_next r s bs i b less is one = read_here r bs i b less is ∙ ap (λ (o : Option LengthsRead). o >>? (λ s. product_of s (drop (i + 1) bs))) one

pub read_none : (r : LengthsRead) (bs : List ℕ) (i : ℕ) (b : ℕ) → i < length bs → b ≡ get_or bs i b → step_of r b ≡ None → product_of r (drop i bs) ≡ None
read_none r bs i b less is one = read_here r bs i b less is ∙ ap (λ (o : Option LengthsRead). o >>? (λ s. product_of s (drop (i + 1) bs))) one
