-- The promise of the parser, from the laws of reading.
use Rattle.std.proofs.Common.{◌≡◌, ℕ, ◌-◌, ◌≤◌, max, List, [], ◌∷◌, ◌++◌, length, drop, Ok, Err, refl, sym, ap, subst, ◌∙◌, append_assoc, arith, length-append, inl, inr}
use Rattle.std.proofs.lemmas.Bool.{cases_lt}
use Rattle.std.proofs.lemmas.List.{drop_at}
use Rattle.isp_lex.specs.Tokens.{TokenList}
use Rattle.isp_lex.specs.declared.token.Token.{Token}
use Rattle.isp_lex.specs.declared.token.TokenKind.{TokenKind}
use Rattle.isp_lex.specs.declared.fault.SourceFault.TheVariants.{Refused as Refusing}
use Rattle.isp_grammar.proofs.Basics.{token, err_ok, ok_is}
use Rattle.isp_grammar.proofs.Choices.{nowhere}
use Rattle.isp_syntax.proofs.Programs.{IsSomeProgram, FailsProgram, program_complete, program_refused}
use Rattle.isp_grammar.proofs.Refused.{Completes, Refused}
use Rattle.isp_syntax.proofs.StmtsRespan.{program_respan}
use Rattle.isp_grammar.specs.Grammar.{IsProgram}
use Rattle.isp_syntax.specs.Promise.{kinds, Begins, IsFirstBad, IsTooDeep, Refuses}
use Rattle.isp_tree.specs.Depth.{limit}
use Rattle.isp_grammar.specs.reader.Readers.{refusal, head}
use Rattle.isp_grammar.specs.reader.Programs.{program_at}
use Rattle.isp_syntax.specs.Refusals.{fault_of}
use Rattle.isp_tree.specs.Depth.{depth_of_functions}
use Rattle.isp_tree.specs.Tree.{Function}
use Rattle.isp_grammar.specs.declared.stop.Why.{Why}
use Rattle.isp_grammar.specs.declared.stop.Why.TheVariants.{Unexpected, TooDeep}
use Rattle.isp_grammar.specs.declared.stop.Refusal.{Refusal}

-- ---- kinds

pub kinds_append : (a b : List Token) → kinds (a ++ b) ≡ kinds a ++ kinds b
kinds_append [] b = refl
kinds_append (t ∷ a) b = ap (λ (l : List TokenKind). t.kind ∷ l) (kinds_append a b)

-- tokens of these kinds
abbrev placed : List TokenKind → List Token
placed [] = []
placed (k ∷ ks) = token k nowhere ∷ placed ks

kinds_placed : (ks : List TokenKind) → kinds (placed ks) ≡ ks
kinds_placed [] = refl
kinds_placed (k ∷ ks) = ap (λ (l : List TokenKind). k ∷ l) (kinds_placed ks)

kinds_assoc : (a : List TokenKind) (k : TokenKind) (b : List TokenKind) → (a ++ k ∷ []) ++ b ≡ a ++ k ∷ b
kinds_assoc a k b = append_assoc a (k ∷ []) b

-- what begins with such kinds, at the tokens of this text
begun : (before : List Token) (t : Token) (b : Begins (kinds before ++ t.kind ∷ [])) → (gs : List Function) × IsProgram (before ++ t ∷ placed b.rest) gs × (depth_of_functions gs ≡ depth_of_functions b.functions)
begun before t b =
    let same : kinds (before ++ t ∷ placed b.rest) ≡ kinds b.tokens =
    kinds_append before (t ∷ placed b.rest) ∙ ap (λ (l : List TokenKind). kinds before ++ t.kind ∷ l) (kinds_placed b.rest) ∙ sym (b.split ∙ kinds_assoc (kinds before) t.kind b.rest) in
    program_respan b.tokens b.functions b.is (before ++ t ∷ placed b.rest) same

-- ---- where the refused token stands

left_short : (ts used after : List Token) (left : ℕ) → ts ≡ used ++ after → left ≡ length after → length ts - left ≡ length used
left_short ts used after left e p = omega (arith, ap length e, length-append used after)

after_is : (ts used after : List Token) (left : ℕ) → ts ≡ used ++ after → left ≡ length after → drop (length ts - left) ts ≡ after
after_is ts used after left e p =
    let n = left_short ts used after left e p in
    ap (λ (l : List Token). drop (length ts - left) l) e ∙ drop_at used after (length ts - left) (sym n)

-- the refused token is one of the text
pub left_within : (n : ℕ) (ts : List Token) (r : Refusal) → program_at n ts ≡ Err r → r.left ≤ length ts
left_within n ts r e =
    let f = program_refused n ts r e in
    omega (arith, ap length f.split, length-append f.used f.after, f.place)

fails_not : (m : ℕ) (ts : List Token) (d : Refusal) (fs : List Function) → program_at m ts ≡ Err d → IsProgram ts fs → depth_of_functions fs ≤ m → ⊥
fails_not m ts d fs e i le = err_ok (sym e ∙ program_complete m ts fs i le)

-- ---- the two refusals

first_bad : (n : ℕ) (text : TokenList) (left : ℕ) → Refused IsSomeProgram FailsProgram n text.items (record { why = Unexpected; left = left }) → IsFirstBad text (fault_of Unexpected text.end (drop (length text.items - left) text.items))
first_bad n text left f = record {
  before = f.used;
  after = f.after;
  split = f.split;
  is = ap (λ (l : List Token). fault_of Unexpected text.end l) (after_is text.items f.used f.after left f.split f.place);
  begins = record { tokens = f.used ++ f.viable.0; rest = kinds f.viable.0; functions = f.viable.1.0; split = kinds_append f.used f.viable.0; is = f.viable.1.1 };
  no_further = λ t rest e b.
      let g = begun f.used t b in
      let m = max n (depth_of_functions g.0) in
      fails_not m (f.used ++ t ∷ placed b.rest) (refusal Unexpected (t ∷ placed b.rest)) g.0 (f.stays m (t ∷ placed b.rest) (omega arith) (ap head e)) g.1 (omega arith);
  no_program = λ fs i.
      let m = max n (depth_of_functions fs) in
      fails_not m (f.used ++ f.after) (refusal Unexpected f.after) fs (f.stays m f.after (omega arith) refl) (subst (λ (l : List Token). IsProgram l fs) f.split i) (omega arith);
}

deep_from : (text : TokenList) (left : ℕ) (used after : List Token) → text.items ≡ used ++ after → left ≡ length after → Completes IsSomeProgram TooDeep used after
    → ((m : ℕ) (more : List Token) → 128 ≡ m → head after ≡ head more → FailsProgram m (used ++ more) (refusal TooDeep more)) → IsTooDeep text (fault_of TooDeep text.end (drop (length text.items - left) text.items))
deep_from text left used [] split place viable stays = absurd viable
deep_from text left used (t ∷ after) split place viable stays = record {
  before = used;
  refused = t;
  after = after;
  split = split;
  is = ap (λ (l : List Token). fault_of TooDeep text.end l) (after_is text.items used (t ∷ after) left split place);
  begins = record {
    tokens = used ++ t ∷ viable.0;
    rest = kinds viable.0;
    functions = viable.1.0;
    split = kinds_append used (t ∷ viable.0) ∙ sym (kinds_assoc (kinds used) t.kind (kinds viable.0));
    is = viable.1.1;
  };
  all_deep = λ b. elim (cases_lt limit (depth_of_functions b.functions)) [
    | inl lt ↦ lt
    | inr le ↦
        let g = begun used t b in
        absurd (fails_not 128 (used ++ t ∷ placed b.rest) (refusal TooDeep (t ∷ placed b.rest)) g.0 (stays 128 (t ∷ placed b.rest) refl refl) g.1 (omega (arith, g.2, le)))
  ];
}

means : (text : TokenList) (why : Why) (left : ℕ) → Refused IsSomeProgram FailsProgram 128 text.items (record { why = why; left = left }) → Refuses (Refusing (fault_of why text.end (drop (length text.items - left) text.items))) text
means text Unexpected left f = inl (first_bad 128 text left f)
means text TooDeep left f = inr (deep_from text left f.used f.after f.split f.place f.viable f.stays)

-- What a refusal of reading means.
pub refusal_means : (text : TokenList) (r : Refusal) → program_at 128 text.items ≡ Err r → Refuses (Refusing (fault_of r.why text.end (drop (length text.items - r.left) text.items))) text
refusal_means text r e = means text r.why r.left (program_refused 128 text.items r e)

-- what is a program of no more depth is what was read
pub only_tree : (ts : List Token) (fs gs : List Function) → program_at 128 ts ≡ Ok gs → IsProgram ts fs → depth_of_functions fs ≤ limit → gs ≡ fs
only_tree ts fs gs e i le = ok_is (sym e ∙ program_complete 128 ts fs i le)

pub no_refusal : (ts : List Token) (fs : List Function) (r : Refusal) → program_at 128 ts ≡ Err r → IsProgram ts fs → depth_of_functions fs ≤ limit → ⊥
no_refusal ts fs r e i le = fails_not 128 ts r fs e i le

-- No tokens have two trees.
pub one_tree : (ts : List Token) (fs gs : List Function) → IsProgram ts fs → IsProgram ts gs → fs ≡ gs
one_tree ts fs gs i j =
    let n = max (depth_of_functions fs) (depth_of_functions gs) in
    ok_is (sym (program_complete n ts fs i (omega arith)) ∙ program_complete n ts gs j (omega arith))
