-- Forms after a mark or in brackets, without the places of the marks.
use Rattle.std.proofs.Common.{◌≡◌, ℕ, List, [], ◌∷◌, ◌++◌, Ok, refl, sym, ap, subst, ◌∙◌, arith}
use Rattle.isp_base.specs.declared.types.Span.{Span}
use Rattle.isp_lex.specs.Tokens.{at}
use Rattle.isp_lex.specs.declared.token.Mark.{Mark}
use Rattle.isp_lex.specs.declared.token.Mark.TheVariants as mark
use Rattle.isp_lex.specs.declared.token.Token.{Token}
use Rattle.isp_grammar.proofs.Choices.{nowhere, Makes, makes_sound, makes_complete, makes_refused}
use Rattle.isp_grammar.proofs.Forms.{Form, IsSound, IsComplete, Can, One, one_sound, one_complete, Free, Follows, both_sound, both_complete, Behind, one_then, behind_is, is_behind, Before, then_one, before_is, is_before}
use Rattle.isp_grammar.proofs.FormsComplete.{EndsByHead, one_by_head}
use Rattle.isp_grammar.proofs.Refused.{IsRefused, one_refused, both_refused}
use Rattle.isp_grammar.specs.reader.Readers.{◌>>=◌, both, mark_at}

-- ---- after a mark

module _ {A : Type 0} (m : Mark) (F : Form A) where
  abbrev pub After : Form A
  After = record {
    is = λ ts x. (s : Span) × (a : List Token) × (ts ≡ at m s ∷ a) × F.is a x;
    deep = F.deep;
    ends = F.ends;
    read = λ n ts. both (mark_at m) (F.read n) ts >>= λ p. Ok (p.0.1, p.1);
  }

  after_makes : Makes (Behind m F) After (λ p. p.1)
  after_makes = record {
    reads = λ n ts. refl;
    makes = λ ts x i. let j = behind_is m F ts x i in (x.0, j.0, j.1, j.2);
    unmakes = λ ts y i. ((i.0, y), subst (λ (l : List Token). (Behind m F).is l (i.0, y)) (sym i.2) (is_behind m F i.0 i.1 y i.3), refl);
    deep = λ x. omega arith;
    ends = λ x rest h. h;
    back = λ x rest h. h;
  }

  module _ (some : (b : List Token) × Can F b) where
    pub after_then : Follows (One m) F Free
    after_then = one_then m F some.0 some.1

    pub after_sound : (n : ℕ) → IsSound F n → IsSound After n
    after_sound n f = makes_sound (Behind m F) After (λ p. p.1) after_makes n (both_sound (One m) F Free after_then n (one_sound m n) f)

    pub after_complete : (n : ℕ) → IsComplete F n → IsComplete After n
    after_complete n f = makes_complete (Behind m F) After (λ p. p.1) after_makes n (both_complete (One m) F Free after_then n (one_complete m n) f)

    pub after_refused : (n : ℕ) → IsRefused F n → IsRefused After n
    after_refused n f = makes_refused (Behind m F) After (λ p. p.1) after_makes n (both_refused (One m) F Free after_then n (one_by_head m) (one_complete m) (one_sound m n) (one_refused m n) f)

    pub some_after : (b : List Token) × Can After b
    some_after = (at m nowhere ∷ some.0, (some.1.0, (nowhere, some.0, refl, some.1.1)))

-- ---- in brackets

module _ {A : Type 0} (F : Form A) where
  abbrev pub Bracketed : Form A
  Bracketed = record {
    is = λ ts x. (o : Span) × (c : Span) × (a : List Token) × (ts ≡ at mark.ParenOpen o ∷ (a ++ at mark.ParenClose c ∷ [])) × F.is a x;
    deep = F.deep;
    ends = λ x rest. Unit {0};
    read = λ n ts. both (mark_at mark.ParenOpen) (both (F.read n) (mark_at mark.ParenClose)) ts >>= λ p. Ok (p.0.1.0, p.1);
  }

  abbrev pub Closed : Form (A × Span)
  Closed = Before F mark.ParenClose

  abbrev pub Inner : Form (Span × (A × Span))
  Inner = Behind mark.ParenOpen Closed

  bracketed_makes : Makes Inner Bracketed (λ p. p.1.0)
  bracketed_makes = record {
    reads = λ n ts. refl;
    makes = λ ts x i.
        let j = behind_is mark.ParenOpen Closed ts x i in
        let k = before_is F mark.ParenClose j.0 x.1 j.2 in
        (x.0, x.1.1, k.0, j.1 ∙ ap (λ (l : List Token). at mark.ParenOpen x.0 ∷ l) k.1, k.2);
    unmakes = λ ts y i. (
      (i.0, (y, i.1)),
      subst (λ (l : List Token). Inner.is l (i.0, (y, i.1))) (sym i.3) (is_behind mark.ParenOpen Closed i.0 (i.2 ++ at mark.ParenClose i.1 ∷ []) (y, i.1) (is_before F mark.ParenClose i.2 y i.1 i.4)),
      refl,
    );
    deep = λ x. omega arith;
    ends = λ x rest h. tt;
    back = λ x rest h. tt;
  }

  module _ (close : (x : A) (s : Span) (rest : List Token) → F.ends x (at mark.ParenClose s ∷ rest)) (some : (b : List Token) × Can F b) where
    some_closed : Can Closed (some.0 ++ at mark.ParenClose nowhere ∷ [])
    some_closed = ((some.1.0, nowhere), is_before F mark.ParenClose some.0 some.1.0 nowhere some.1.1)

    closed_then : Follows F (One mark.ParenClose) Free
    closed_then = then_one F mark.ParenClose close

    inner_then : Follows (One mark.ParenOpen) Closed Free
    inner_then = one_then mark.ParenOpen Closed (some.0 ++ at mark.ParenClose nowhere ∷ []) some_closed

    pub bracketed_sound : (n : ℕ) → IsSound F n → IsSound Bracketed n
    bracketed_sound n f =
        makes_sound Inner Bracketed (λ p. p.1.0) bracketed_makes n
        (both_sound (One mark.ParenOpen) Closed Free inner_then n (one_sound mark.ParenOpen n) (both_sound F (One mark.ParenClose) Free closed_then n f (one_sound mark.ParenClose n)))

    pub bracketed_complete : (n : ℕ) → IsComplete F n → IsComplete Bracketed n
    bracketed_complete n f =
        makes_complete Inner Bracketed (λ p. p.1.0) bracketed_makes n
        (both_complete (One mark.ParenOpen) Closed Free inner_then n (one_complete mark.ParenOpen n) (both_complete F (One mark.ParenClose) Free closed_then n f (one_complete mark.ParenClose n)))

    pub bracketed_refused : (n : ℕ) → EndsByHead F → ((m : ℕ) → IsComplete F m) → IsSound F n → IsRefused F n → IsRefused Bracketed n
    bracketed_refused n by_head complete sound f =
        makes_refused Inner Bracketed (λ p. p.1.0) bracketed_makes n
        (both_refused (One mark.ParenOpen) Closed Free inner_then n (one_by_head mark.ParenOpen) (one_complete mark.ParenOpen) (one_sound mark.ParenOpen n) (one_refused mark.ParenOpen n)
        (both_refused F (One mark.ParenClose) Free closed_then n by_head complete sound f (one_refused mark.ParenClose n)))

    pub some_bracketed : (b : List Token) × Can Bracketed b
    some_bracketed = (at mark.ParenOpen nowhere ∷ (some.0 ++ at mark.ParenClose nowhere ∷ []), (some.1.0, (nowhere, nowhere, some.0, refl, some.1.1)))
