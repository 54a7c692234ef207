-- Functions and programs: what is read is what they are.
use Rattle.std.proofs.Common.{◌≡◌, ℕ, zero, suc, ◌≤◌, ◌<◌, Bool, true, List, [], ◌∷◌, ◌++◌, length, Option, Some, None, Result, Ok, Err, refl, sym, ap, subst, ◌∙◌, append_assoc, arith, length-append, inl, inr}
use Rattle.std.proofs.lemmas.Bool.{false≢true}
use Rattle.std.proofs.lemmas.List.{append-nil}
use Rattle.isp_base.specs.declared.types.Span.{Span}
use Rattle.isp_lex.specs.Tokens.{at}
use Rattle.isp_lex.specs.declared.token.Mark.TheVariants as mark
use Rattle.isp_lex.specs.declared.token.TokenKind.{TokenKind}
use Rattle.isp_lex.specs.declared.token.Token.{Token}
use Rattle.isp_grammar.proofs.Basics.{ok_is, err_ok, ok_err, bind_ok, bind_err}
use Rattle.isp_grammar.proofs.Choices.{nowhere, nameless}
use Rattle.isp_grammar.proofs.Declarations.{word_ends_type}
use Rattle.isp_grammar.proofs.Forms.{Form, Found, IsSound, IsComplete, Can, One, one_sound, one_complete, Named, named_sound, named_complete, Both, Free, Follows, follows, both_sound, both_complete}
use Rattle.isp_grammar.proofs.Forms.{Behind, one_then, behind_is, is_behind, NameThen, named_then, name_then_is, is_name_then, Before, then_one, before_is, is_before}
use Rattle.isp_grammar.proofs.FormsComplete.{one_by_head, named_by_head, read_again}
use Rattle.isp_grammar.proofs.ListForms.{mapped, Maps, maps_id, mapped_twice, maps_both}
use Rattle.isp_syntax.proofs.Params.{Linkages, linkages_sound, linkages_complete, linkages_by_head, linkages_refused, is_linkage_word, type_no_linkage, Params, params_sound, params_complete, params_by_head, params_close, params_refused}
use Rattle.isp_grammar.proofs.Refused.{Refused, FailsForm, IsRefused, lift, one_refused, named_refused, both_refused}
use Rattle.isp_grammar.proofs.Starts.{begins_off}
use Rattle.isp_grammar.proofs.Stmts.{BlockForm, some_block}
use Rattle.isp_grammar.proofs.StmtsComplete.{block_complete}
use Rattle.isp_grammar.proofs.StmtsRefused.{block_refused}
use Rattle.isp_grammar.proofs.StmtsSound.{block_sound}
use Rattle.isp_grammar.proofs.TypesRead.{Types, types_sound, types_complete, types_by_head, types_refused, type_starts, int_type}
use Rattle.isp_tree.specs.Depth.{depth_of_block, depth_of_functions}
use Rattle.isp_grammar.specs.Grammar.{IsType, IsParams, is_none, IsFunction, is_function, IsProgram}
use Rattle.isp_grammar.specs.reader.Readers.{Read, ◌>>=◌, head, is_word}
use Rattle.isp_grammar.specs.reader.Choices.{begins_with}
use Rattle.isp_grammar.specs.reader.Programs.{Signature, signature_at, function_from, function_at, functions_at, program_at}
use Rattle.isp_grammar.specs.reader.Stmts.{block_at}
use Rattle.isp_grammar.specs.reader.Types.{begins_type}
use Rattle.isp_grammar.specs.Signs.{word, first_span}
use Rattle.isp_tree.specs.Tree.{TypeTree, Block, Param, Function}
use Rattle.isp_grammar.specs.declared.stop.Refusal.{Refusal}
use Rattle.isp_tree.specs.declared.function.Linkage.{Linkage}
use Rattle.isp_tree.specs.declared.types.Word.{Word}

-- ---- a function up to its body

abbrev ClosedParams : Form (List Param × Span)
ClosedParams = Before Params mark.ParenClose

abbrev OpenParams : Form (Span × (List Param × Span))
OpenParams = Behind mark.ParenOpen ClosedParams

abbrev NamedParams : Form (Word × (Span × (List Param × Span)))
NamedParams = NameThen OpenParams

abbrev Typed : Form (TypeTree × (Word × (Span × (List Param × Span))))
Typed = Both Types NamedParams Free

abbrev SignatureTree : Type 0
SignatureTree = List Linkage × (TypeTree × (Word × (Span × (List Param × Span))))

abbrev pub Heading : Form SignatureTree
Heading = Both Linkages Typed Free

some_closed : Can ClosedParams (at mark.ParenClose nowhere ∷ [])
some_closed = (([], nowhere), is_before Params mark.ParenClose [] [] nowhere is_none)

abbrev open_tokens : List Token
open_tokens = at mark.ParenOpen nowhere ∷ at mark.ParenClose nowhere ∷ []

some_open : Can OpenParams open_tokens
some_open = ((nowhere, some_closed.0), is_behind mark.ParenOpen ClosedParams nowhere (at mark.ParenClose nowhere ∷ []) some_closed.0 some_closed.1)

some_named : Can NamedParams (word nameless ∷ open_tokens)
some_named = ((nameless, some_open.0), is_name_then OpenParams nameless open_tokens some_open.0 some_open.1)

some_typed : (b : List Token) × Can Typed b
some_typed = (at mark.Int nowhere ∷ word nameless ∷ open_tokens, ((int_type.0, some_named.0), (at mark.Int nowhere ∷ [], word nameless ∷ open_tokens, refl, int_type.1, some_named.1, tt)))

params_then : Follows Params (One mark.ParenClose) Free
params_then = then_one Params mark.ParenClose params_close

open_then : Follows (One mark.ParenOpen) ClosedParams Free
open_then = one_then mark.ParenOpen ClosedParams (at mark.ParenClose nowhere ∷ []) some_closed

name_then : Follows Named OpenParams Free
name_then = named_then OpenParams open_tokens some_open

typed_then : Follows Types NamedParams Free
typed_then =
    follows Types NamedParams (λ t y b rest i h. let j = name_then_is OpenParams b y i in word_ends_type t (b ++ rest) (subst (λ (l : List Token). begins_with is_word (l ++ rest) ≡ true) (sym j.1) refl)) (word nameless ∷ open_tokens) some_named

typed_starts : (b : List Token) (y : TypeTree × (Word × (Span × (List Param × Span)))) (rest : List Token) → Typed.is b y → begins_with begins_type (b ++ rest) ≡ true
typed_starts b y rest i =
    let e : b ++ rest ≡ i.0 ++ (i.1 ++ rest) = ap (λ (l : List Token). l ++ rest) i.2 ∙ append_assoc i.0 i.1 rest in
    ap (λ (l : List Token). begins_with begins_type l) e ∙ type_starts i.3 (i.1 ++ rest)

heading_then : Follows Linkages Typed Free
heading_then = follows Linkages Typed (λ x y b rest i h. begins_off begins_type is_linkage_word type_no_linkage (b ++ rest) (typed_starts b y rest i)) some_typed.0 some_typed.1

heading_sound : (n : ℕ) → IsSound Heading n
heading_sound n =
    both_sound Linkages Typed Free heading_then n (linkages_sound n) (both_sound Types NamedParams Free typed_then n (types_sound n) (both_sound Named OpenParams Free name_then n (named_sound n)
    (both_sound (One mark.ParenOpen) ClosedParams Free open_then n (one_sound mark.ParenOpen n) (both_sound Params (One mark.ParenClose) Free params_then n (params_sound n) (one_sound mark.ParenClose n)))))

heading_complete : (n : ℕ) → IsComplete Heading n
heading_complete n =
    both_complete Linkages Typed Free heading_then n (linkages_complete n) (both_complete Types NamedParams Free typed_then n (types_complete n) (both_complete Named OpenParams Free name_then n (named_complete n)
    (both_complete (One mark.ParenOpen) ClosedParams Free open_then n (one_complete mark.ParenOpen n) (both_complete Params (One mark.ParenClose) Free params_then n (params_complete n) (one_complete mark.ParenClose n)))))

heading_refused : (n : ℕ) → IsRefused Heading n
heading_refused n =
    both_refused Linkages Typed Free heading_then n linkages_by_head linkages_complete (linkages_sound n) (linkages_refused n)
    (both_refused Types NamedParams Free typed_then n types_by_head types_complete (types_sound n) (types_refused n)
    (both_refused Named OpenParams Free name_then n named_by_head named_complete (named_sound n) (named_refused n)
    (both_refused (One mark.ParenOpen) ClosedParams Free open_then n (one_by_head mark.ParenOpen) (one_complete mark.ParenOpen) (one_sound mark.ParenOpen n) (one_refused mark.ParenOpen n)
    (both_refused Params (One mark.ParenClose) Free params_then n params_by_head params_complete (params_sound n) (params_refused n) (one_refused mark.ParenClose n)))))

-- ---- functions

abbrev FunctionParts : Form (SignatureTree × Block)
FunctionParts = Both Heading BlockForm Free

abbrev signature_of : SignatureTree → Signature
signature_of p = record { linkages = p.0; answer = p.1.0; word = p.1.1.0; params = p.1.1.1.1.0 }

abbrev function_of_parts : Span → SignatureTree × Block → Function
function_of_parts s p = function_from s (signature_of p.0) p.1

abbrev pub Definition : Form Function
Definition = record { is = λ ts f. IsFunction ts f; deep = λ f. depth_of_block f.body; ends = λ f rest. Unit {0}; read = function_at }

body_then : Follows Heading BlockForm Free
body_then = follows Heading BlockForm (λ x y b rest i h. tt) some_block.0 some_block.1

parts_sound : (n : ℕ) → IsSound FunctionParts n
parts_sound n = both_sound Heading BlockForm Free body_then n (heading_sound n) (block_sound n)

parts_complete : (n : ℕ) → IsComplete FunctionParts n
parts_complete n = both_complete Heading BlockForm Free body_then n (heading_complete n) (block_complete n)

parts_refused : (n : ℕ) → IsRefused FunctionParts n
parts_refused n = both_refused Heading BlockForm Free body_then n (λ x a b e h. tt) heading_complete (heading_sound n) (heading_refused n) (block_refused n)

signature_reads : (n : ℕ) → Maps (Heading.read n) signature_at signature_of
unfolding signature_at
signature_reads n ts = refl

abbrev from_signature : Span → Signature × Block → Function
from_signature s p = function_from s p.0 p.1

function_reads : (n : ℕ) (ts : List Token) → function_at n ts ≡ mapped (function_of_parts (first_span ts)) (FunctionParts.read n ts)
unfolding function_at
function_reads n ts =
    ap (λ (r : Read (Signature × Block)). mapped (from_signature (first_span ts)) r) (maps_both signature_of (λ x. x) (Heading.read n) signature_at (block_at n) (block_at n) (signature_reads n) (maps_id (block_at n)) ts)
    ∙ mapped_twice (λ p. (signature_of p.0, p.1)) (from_signature (first_span ts)) (FunctionParts.read n ts)

-- the place of the first token is that of the first word of the type, or before it
first_of_front : (a b : List Token) → 0 < length a → first_span (a ++ b) ≡ first_span a
first_of_front [] b h = absurd (omega arith)
first_of_front (t ∷ a) b h = refl

begun_long : (f : TokenKind → Bool) (a : List Token) → begins_with f (a ++ []) ≡ true → 0 < length a
begun_long f [] e = absurd (false≢true e)
begun_long f (t ∷ a) e = omega arith

front_long : (ls : List Token) {ts : List Token} {t : TypeTree} → IsType ts t → 0 < length (ls ++ ts)
front_long ls {ts} i = omega (arith, begun_long begins_type _ (type_starts i []), length-append ls ts)

function_regroup : (ls ts : List Token) (w : Word) (o c : Span) (ps bs : List Token)
    → (ls ++ (ts ++ word w ∷ at mark.ParenOpen o ∷ (ps ++ at mark.ParenClose c ∷ []))) ++ bs ≡ ls
    ++ (ts ++ word w ∷ at mark.ParenOpen o ∷ (ps ++ at mark.ParenClose c ∷ bs))
function_regroup ls ts w o c ps bs = simp append_assoc

front_regroup : (ls ts : List Token) (rest : List Token) → ls ++ (ts ++ rest) ≡ (ls ++ ts) ++ rest
front_regroup ls ts rest = sym (append_assoc ls ts rest)

function_is : (ts ls us ps bs : List Token) (w : Word) (o c : Span) (linkages : List Linkage) (t : TypeTree) (params : List Param) (b : Block)
    → ts ≡ ls ++ (us ++ word w ∷ at mark.ParenOpen o ∷ (ps ++ at mark.ParenClose c ∷ bs)) → Linkages.is ls linkages → IsType us t → IsParams ps params
    → BlockForm.is bs b
    → IsFunction ts (function_from (first_span ts) (record { linkages = linkages; answer = t; word = w; params = params }) b)
function_is ts ls us ps bs w o c linkages t params b e i j k l =
    let s : first_span ts ≡ first_span (ls ++ us) = ap first_span
    (e ∙ front_regroup ls us (word w ∷ at mark.ParenOpen o ∷ (ps ++ at mark.ParenClose c ∷ bs)))
    ∙ first_of_front (ls ++ us) (word w ∷ at mark.ParenOpen o ∷ (ps ++ at mark.ParenClose c ∷ bs)) (front_long ls j) in
    subst (λ (z : Span). IsFunction ts (function_from z (record { linkages = linkages; answer = t; word = w; params = params }) b)) (sym s)
    (subst (λ (l : List Token). IsFunction l (function_from (first_span (ls ++ us)) (record { linkages = linkages; answer = t; word = w; params = params }) b)) (sym e) (is_function o c ls us ps bs linkages t w params b i j k l))

function_makes : (ts : List Token) (p : SignatureTree × Block) → FunctionParts.is ts p → IsFunction ts (function_of_parts (first_span ts) p)
function_makes ts p i =
    let h = i.3 in
    let t = h.4 in
    let n = name_then_is OpenParams t.1 p.0.1.1 t.4 in
    let o = behind_is mark.ParenOpen ClosedParams n.0 p.0.1.1.1 n.2 in
    let c = before_is Params mark.ParenClose o.0 p.0.1.1.1.1 o.2 in
    let tail : t.1 ≡ word p.0.1.1.0 ∷ at mark.ParenOpen p.0.1.1.1.0 ∷ (c.0 ++ at mark.ParenClose p.0.1.1.1.1.1 ∷ []) = n.1 ∙ ap (λ (l : List Token). word p.0.1.1.0 ∷ l) (o.1 ∙ ap (λ (l : List Token). at mark.ParenOpen p.0.1.1.1.0 ∷ l) c.1) in
    let front : i.0 ≡ h.0 ++ (t.0 ++ word p.0.1.1.0 ∷ at mark.ParenOpen p.0.1.1.1.0 ∷ (c.0 ++ at mark.ParenClose p.0.1.1.1.1.1 ∷ [])) = h.2 ∙ ap (λ (l : List Token). h.0 ++ l) (t.2 ∙ ap (λ (l : List Token). t.0 ++ l) tail) in
    let whole = i.2 ∙ ap (λ (l : List Token). l ++ i.1) front ∙ function_regroup h.0 t.0 p.0.1.1.0 p.0.1.1.1.0 p.0.1.1.1.1.1 c.0 i.1 in
    function_is ts h.0 t.0 c.0 i.1 p.0.1.1.0 p.0.1.1.1.0 p.0.1.1.1.1.1 p.0.0 p.0.1.0 p.0.1.1.1.1.0 p.1 whole h.3 t.3 c.2 i.4

function_unmakes : {ts : List Token} {f : Function} → IsFunction ts f → (p : SignatureTree × Block) × FunctionParts.is ts p × ((rest : List Token) → function_of_parts (first_span (ts ++ rest)) p ≡ f)
function_unmakes (is_function o c ls ts ps bs linkages t w params b i j k l) =
    let closed = is_before Params mark.ParenClose ps params c k in
    let opened = is_behind mark.ParenOpen ClosedParams o (ps ++ at mark.ParenClose c ∷ []) (params, c) closed in
    let named = is_name_then OpenParams w (at mark.ParenOpen o ∷ (ps ++ at mark.ParenClose c ∷ [])) (o, (params, c)) opened in
    let typed : Typed.is (ts ++ word w ∷ at mark.ParenOpen o ∷ (ps ++ at mark.ParenClose c ∷ [])) (t, (w, (o, (params, c)))) = (ts, word w ∷ at mark.ParenOpen o ∷ (ps ++ at mark.ParenClose c ∷ []), refl, j, named, tt) in
    let heading : Heading.is (ls ++ (ts ++ word w ∷ at mark.ParenOpen o ∷ (ps ++ at mark.ParenClose c ∷ []))) (linkages, (t, (w, (o, (params, c))))) = (ls, ts ++ word w ∷ at mark.ParenOpen o ∷ (ps ++ at mark.ParenClose c ∷ []), refl, i, typed, tt) in
    let place : (rest : List Token) → first_span ((ls ++ (ts ++ word w ∷ at mark.ParenOpen o ∷ (ps ++ at mark.ParenClose c ∷ bs))) ++ rest) ≡ first_span (ls ++ ts) = λ rest.
    ap (λ (l : List Token). first_span (l ++ rest)) (front_regroup ls ts (word w ∷ at mark.ParenOpen o ∷ (ps ++ at mark.ParenClose c ∷ bs)))
    ∙ ap first_span (append_assoc (ls ++ ts) (word w ∷ at mark.ParenOpen o ∷ (ps ++ at mark.ParenClose c ∷ bs)) rest) ∙ first_of_front (ls ++ ts) ((word w ∷ at mark.ParenOpen o ∷ (ps ++ at mark.ParenClose c ∷ bs)) ++ rest) (front_long ls j) in (
      ((linkages, (t, (w, (o, (params, c))))), b),
      (ls ++ (ts ++ word w ∷ at mark.ParenOpen o ∷ (ps ++ at mark.ParenClose c ∷ [])), bs, sym (function_regroup ls ts w o c ps bs), heading, l, tt),
      λ rest. ap (λ (s : Span). function_from s (record { linkages = linkages; answer = t; word = w; params = params }) b) (place rest),
    )

parts_deep : (p : SignatureTree × Block) → FunctionParts.deep p ≡ depth_of_block p.1
parts_deep p = omega arith

pub function_sound : (n : ℕ) → IsSound Definition n
function_sound n ts f rest e =
    let p = bind_ok (FunctionParts.read n ts) (λ x. Ok (function_of_parts (first_span ts) x.0, x.1)) (f, rest) (sym (function_reads n ts) ∙ e) in
    let x = parts_sound n ts p.0.0 p.0.1 p.1 in
    let d = function_makes x.used p.0.0 x.is in
    let long = parts_long x.used p.0.0 x.is in
    let s : first_span ts ≡ first_span x.used = ap first_span x.split ∙ first_of_front x.used p.0.1 long in
    subst (λ (z : Function × List Token). Found Definition n ts z.0 z.1) (ok_is p.2) (record {
      used = x.used;
      split = x.split;
      is = subst (λ (z : Span). IsFunction x.used (function_of_parts z p.0.0)) (sym s) d;
      shallow = omega (arith, x.shallow, parts_deep p.0.0);
      ends = tt;
    })
  where
    parts_long : (ts : List Token) (p : SignatureTree × Block) → FunctionParts.is ts p → 0 < length ts
    parts_long ts p i =
        let h = i.3 in
        omega (arith, ap length i.2, length-append i.0 i.1, ap length h.2, length-append h.0 h.1, begun_long begins_type h.1 (typed_starts h.1 p.0.1 [] h.4))

pub function_complete : (n : ℕ) → IsComplete Definition n
function_complete n used f rest i le h =
    let u = function_unmakes i in
    let e = ap (λ (g : Function). depth_of_block g.body) (u.2 rest) in
    let one = parts_complete n used u.0 rest u.1 (omega (arith, le, parts_deep u.0, e)) tt in
    function_reads n (used ++ rest) ∙ rw one (ap (λ (g : Function). Ok (g, rest)) (u.2 rest))

function_fails : (m : ℕ) (u : List Token) (d : Refusal) → FunctionParts.read m u ≡ Err d → function_at m u ≡ Err d
function_fails m u d w = function_reads m u ∙ rw w refl

pub function_refused : (n : ℕ) → IsRefused Definition n
function_refused n ts r e =
    elim (bind_err (FunctionParts.read n ts) (λ x. Ok (function_of_parts (first_span ts) x.0, x.1)) r (sym (function_reads n ts) ∙ e)) [
      | inl p ↦
          lift (Can FunctionParts) (Can Definition) (FailsForm FunctionParts) (FailsForm Definition) n [] [] ts r (parts_refused n ts r p)
          (λ l i. (function_of_parts (first_span (l ++ [])) i.0, function_makes (l ++ []) i.0 (subst (λ (a : List Token). FunctionParts.is a i.0) (sym (append-nil l)) i.1)))
          (λ m u d le h w. function_fails m u d w)
      | inr p ↦ absurd (ok_err p.2)
    ]

pub function_long : {ts : List Token} {f : Function} → IsFunction ts f → 0 < length ts
function_long (is_function o c ls ts ps bs linkages t w params b i j k l) =
    omega (arith, front_long ls j, length-append ls ts, length-append ls (ts ++ word w ∷ at mark.ParenOpen o ∷ (ps ++ at mark.ParenClose c ∷ bs)), length-append ts (word w ∷ at mark.ParenOpen o ∷ (ps ++ at mark.ParenClose c ∷ bs)))

-- ---- programs

functions_sound : (n f : ℕ) (ts : List Token) (fs : List Function) → functions_at n f ts ≡ Ok fs → IsProgram ts fs × (depth_of_functions fs ≤ n)
unfolding functions_at
functions_sound n zero ts fs e = absurd (err_ok e)
functions_sound n (suc f) [] fs e = subst (λ (gs : List Function). IsProgram [] gs × (depth_of_functions gs ≤ n)) (ok_is e) (refl, omega arith)
functions_sound n (suc f) (t ∷ ts) fs e =
    let p = bind_ok (function_at n (t ∷ ts)) (λ x. (functions_at n f x.1 >>= λ xs. Ok (x.0 ∷ xs))) fs e in
    let q = bind_ok (functions_at n f p.0.1) (λ xs. Ok (p.0.0 ∷ xs)) fs p.2 in
    let one = function_sound n (t ∷ ts) p.0.0 p.0.1 p.1 in
    let more = functions_sound n f p.0.1 q.0 q.1 in
    subst (λ (gs : List Function). IsProgram (t ∷ ts) gs × (depth_of_functions gs ≤ n)) (ok_is q.2) ((one.used, p.0.1, one.split, one.is, more.0), omega (arith, one.shallow, more.1))

-- What is read as a program is one, no deeper.
pub program_sound : (n : ℕ) (ts : List Token) (fs : List Function) → program_at n ts ≡ Ok fs → IsProgram ts fs × (depth_of_functions fs ≤ n)
unfolding program_at
program_sound n ts fs e = functions_sound n (suc (length ts)) ts fs e

next_function : (n f : ℕ) (a b : List Token) (x : Function) (xs : List Function) → 0 < length a → function_at n (a ++ b) ≡ Ok (x, b) → functions_at n f b ≡ Ok xs → functions_at n (suc f) (a ++ b) ≡ Ok (x ∷ xs)
unfolding functions_at
next_function n f [] b x xs h one more = absurd (omega arith)
next_function n f (t ∷ a) b x xs h one more = rw (one, more) refl

functions_complete : (n : ℕ) (fs : List Function) (f : ℕ) (ts : List Token) → length ts < f → IsProgram ts fs → depth_of_functions fs ≤ n → functions_at n f ts ≡ Ok fs
unfolding functions_at
functions_complete n fs zero ts lt i le = absurd (omega arith)
functions_complete n [] (suc f) ts lt i le = rw i refl
functions_complete n (x ∷ xs) (suc f) ts lt i le =
    let long = function_long i.3 in
    let more = functions_complete n xs f i.1 (omega (arith, long, ap length i.2, length-append i.0 i.1)) i.4 (omega (arith, le)) in
    let one = function_complete n i.0 x i.1 i.3 (omega (arith, le)) tt in
    subst (λ (l : List Token). functions_at n (suc f) l ≡ Ok (x ∷ xs)) (sym i.2) (next_function n f i.0 i.1 x xs long one more)

-- What is a program, no deeper, is read.
pub program_complete : (n : ℕ) (ts : List Token) (fs : List Function) → IsProgram ts fs → depth_of_functions fs ≤ n → program_at n ts ≡ Ok fs
unfolding program_at
program_complete n ts fs i le = functions_complete n fs (suc (length ts)) ts (omega arith) i le

-- ---- refusals

abbrev pub IsSomeProgram : List Token → Type 0
IsSomeProgram ts = (fs : List Function) × IsProgram ts fs

abbrev pub FailsProgram : ℕ → List Token → Refusal → Type 0
FailsProgram m u d = program_at m u ≡ Err d

abbrev FailsFunctions : ℕ → List Token → Refusal → Type 0
FailsFunctions m u d = (f : ℕ) → length u < f → functions_at m f u ≡ Err d

some_none : {A : Type 0} {x : A} → ◌≡◌ {A = Option A} (Some x) None → ⊥
some_none e = cc

first_fails : (t : Token) (ts : List Token) (m : ℕ) (u : List Token) (d : Refusal) → head (t ∷ ts) ≡ head u → function_at m u ≡ Err d → FailsFunctions m u d
unfolding functions_at
first_fails t ts m [] d h w f lt = absurd (some_none h)
first_fails t ts m (v ∷ u) d h w zero lt = absurd (omega arith)
first_fails t ts m (v ∷ u) d h w (suc f) lt = rw w refl

more_fails : (m : ℕ) (a u : List Token) (x : Function) (d : Refusal) → 0 < length a → function_at m (a ++ u) ≡ Ok (x, u) → FailsFunctions m u d → FailsFunctions m (a ++ u) d
unfolding functions_at
more_fails m [] u x d long one w f lt = absurd (omega arith)
more_fails m (t ∷ a) u x d long one w zero lt = absurd (omega arith)
more_fails m (t ∷ a) u x d long one w (suc f) lt = let l : length u < f = omega (arith, length-append a u) in rw (one, w f l) refl

functions_refused : (n f : ℕ) (ts : List Token) (r : Refusal) → length ts < f → functions_at n f ts ≡ Err r → Refused IsSomeProgram FailsFunctions n ts r
unfolding functions_at
functions_refused n zero ts r lt e = absurd (omega arith)
functions_refused n (suc f) [] r lt e = absurd (no_error e)
  where
    no_error : {A : Type 0} {x : A} → ◌≡◌ {A = Result A Refusal} (Ok x) (Err r) → ⊥
    no_error e = cc
functions_refused n (suc f) (t ∷ ts) r lt e =
    elim (bind_err (function_at n (t ∷ ts)) (λ x. (functions_at n f x.1 >>= λ xs. Ok (x.0 ∷ xs))) r e) [
      | inl p ↦
          lift (Can Definition) IsSomeProgram (FailsForm Definition) FailsFunctions n [] [] (t ∷ ts) r (function_refused n (t ∷ ts) r p)
          (λ l i. (i.0 ∷ [], (l, [], refl, i.1, refl)))
          (λ m u d le h w. first_fails t ts m u d h w)
      | inr p ↦
          elim (bind_err (functions_at n f p.0.1) (λ xs. Ok (p.0.0 ∷ xs)) r p.2) [
            | inl q ↦
                let one = function_sound n (t ∷ ts) p.0.0 p.0.1 p.1 in
                let long = function_long one.is in
                subst (λ (l : List Token). Refused IsSomeProgram FailsFunctions n l r) (sym one.split)
                (lift IsSomeProgram IsSomeProgram FailsFunctions FailsFunctions n one.used [] p.0.1 r (functions_refused n f p.0.1 r (omega (arith, lt, long, ap length one.split, length-append one.used p.0.1)) q)
                (λ l i. (p.0.0 ∷ i.0, (one.used, l ++ [], refl, one.is, subst (λ (a : List Token). IsProgram a i.0) (sym (append-nil l)) i.1)))
                (λ m u d le h w. more_fails m one.used u p.0.0 d long (read_again Definition (λ x a b e h. tt) function_complete n (t ∷ ts) p.0.0 p.0.1 one m u le h) w))
            | inr q ↦ absurd (ok_err q.2)
          ]
    ]

pub program_refused : (n : ℕ) (ts : List Token) (r : Refusal) → program_at n ts ≡ Err r → Refused IsSomeProgram FailsProgram n ts r
unfolding program_at
program_refused n ts r e =
    let p = functions_refused n (suc (length ts)) ts r (omega arith) e in
    record { used = p.used; after = p.after; split = p.split; place = p.place; viable = p.viable; stays = λ m more a h. p.stays m more a h (suc (length (p.used ++ more))) (omega arith) }
