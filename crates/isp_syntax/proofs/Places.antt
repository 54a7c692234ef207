-- Tokens in the order of a text, and where what is made of them stands.
use Rattle.std.proofs.Common.{ℕ, suc, ◌<◌, ◌≤◌, List, [], ◌∷◌, ◌++◌, length, arith}
use Rattle.std.specs.List.{All}
use Rattle.std.proofs.lemmas.List.Elements.{All-cons, All-nil}
use Rattle.isp_base.specs.Types.{span_to}
use Rattle.isp_base.specs.declared.types.Span.{Span}
use Rattle.isp_lex.specs.Lexing.{limit as longest}
use Rattle.isp_lex.specs.Listed.{AreTokens, InOrder, IsKind, IsToken}
use Rattle.isp_lex.specs.Tokens.{TokenList}
use Rattle.isp_lex.specs.declared.token.Token.{Token}
use Rattle.isp_grammar.specs.Signs.{first_span, last_span, spread}
use Rattle.isp_tree.specs.Sound.{InText}

-- some bytes between two places
pub record Within (low : ℕ) (s : Span) (high : ℕ) : Type 0 where
  pub from : low ≤ s.start
  pub some : s.start < s.end
  pub upto : s.end ≤ high

-- tokens one after another between two places of a text, each of which is what a lexer gives
abbrev pub InLine : ℕ → List Token → ℕ → Type 0
InLine low [] high = (low ≤ high) × (high ≤ longest)
InLine low (t ∷ ts) high = Within low t.span t.span.end × IsKind t.kind × InLine t.span.end ts high

pub line_up : (low : ℕ) (ts : List Token) (high : ℕ) → InLine low ts high → low ≤ high
line_up low [] high l = l.0
line_up low (t ∷ ts) high l = let w = l.0 in omega (arith, w.from, w.some, line_up t.span.end ts high l.2)

pub line_end : (low : ℕ) (ts : List Token) (high : ℕ) → InLine low ts high → high ≤ longest
line_end low [] high l = l.1
line_end low (t ∷ ts) high l = line_end t.span.end ts high l.2

pub record Cut (low : ℕ) (a b : List Token) (high : ℕ) : Type 0 where
  pub at : ℕ
  pub front : InLine low a at
  pub back : InLine at b high

pub cut : (low : ℕ) (a b : List Token) (high : ℕ) → InLine low (a ++ b) high → Cut low a b high
cut low [] b high l = record { at = low; front = (omega arith, omega (arith, line_up low b high l, line_end low b high l)); back = l }
cut low (t ∷ a) b high l = let c = cut t.span.end a b high l.2 in record { at = c.at; front = (l.0, l.1, c.front); back = c.back }

pub in_text : (low : ℕ) (s : Span) (high : ℕ) → Within low s high → high ≤ longest → InText s
in_text low s high w h = (w.some, omega (arith, w.upto))

-- from one to another after it
pub within_to : (low : ℕ) (s : Span) (a b : ℕ) (t : Span) (high : ℕ) → Within low s a → a ≤ b → Within b t high → Within low (span_to s t) high
within_to low s a b t high v le w = record { from = v.from; some = omega (arith, v.some, v.upto, w.from, w.some); upto = w.upto }

pub wider : (low : ℕ) (s : Span) (a high : ℕ) → Within low s a → a ≤ high → Within low s high
wider low s a high w le = record { from = w.from; some = w.some; upto = omega (arith, w.upto) }

pub later : (low a : ℕ) (s : Span) (high : ℕ) → Within a s high → low ≤ a → Within low s high
later low a s high w le = record { from = omega (arith, w.from); some = w.some; upto = w.upto }

first_within : (low : ℕ) (t : Token) (ts : List Token) (high : ℕ) → InLine low (t ∷ ts) high → Within low t.span high
first_within low t ts high l = wider low t.span t.span.end high l.0 (line_up t.span.end ts high l.2)

last_within : (low : ℕ) (t : Token) (ts : List Token) (high : ℕ) → InLine low (t ∷ ts) high → Within low (last_span (t ∷ ts)) high
last_within low t [] high l = first_within low t [] high l
last_within low t (u ∷ us) high l = let w = l.0 in later low t.span.end (last_span (u ∷ us)) high (last_within t.span.end u us high l.2) (omega (arith, w.from, w.some))

pub spread_within : (low : ℕ) (ts : List Token) (high : ℕ) → InLine low ts high → 0 < length ts → Within low (spread ts) high
spread_within low [] high l h = absurd (omega arith)
spread_within low (t ∷ []) high l h = first_within low t [] high l
spread_within low (t ∷ u ∷ us) high l h = within_to low t.span t.span.end t.span.end (last_span (u ∷ us)) high l.0 (omega arith) (last_within t.span.end u us high l.2)

pub first_of_line : (low : ℕ) (ts : List Token) (high : ℕ) → InLine low ts high → 0 < length ts → Within low (first_span ts) high
first_of_line low [] high l h = absurd (omega arith)
first_of_line low (t ∷ ts) high l h = first_within low t ts high l

-- ---- the tokens of a text

in_line : (size place : ℕ) (ts : List Token) → All (IsToken size) ts → InOrder place ts → place ≤ size → size ≤ longest → InLine place ts size
in_line size place [] a o le h = (le, h)
in_line size place (t ∷ ts) a o le h =
    let i = a 0 t (omega arith) in
    let more = in_line size t.span.end ts (λ k d lt. a (suc k) d (omega arith)) o.1 i.within h in
    (record { from = o.0; some = i.some; upto = omega arith }, i.kind, more)

pub tokens_in_line : (list : TokenList) → AreTokens list → InLine 0 list.items list.end
tokens_in_line list a = in_line list.end 0 list.items a.each a.order (omega arith) a.short

-- ---- lists

pub all_one : {A : Type 0} (P : A → Type 0) (x : A) → P x → All P (x ∷ [])
all_one P x p = All-cons P x [] p (All-nil P)
