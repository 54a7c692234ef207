use Rattle.std.proofs.Common.{◌≡◌, ℕ, Bool, true, false, cond, List, [], ◌∷◌, Option, Some, None, refl, sym, ap, ◌∙◌, Bor}
use Rattle.std.specs.Str.{bytes_eq}
use Rattle.isp_lex.specs.declared.token.Mark.{Mark}
use Rattle.isp_lex.specs.declared.token.TokenKind.{TokenKind}
use Rattle.isp_lex.specs.declared.token.TokenKind.TheVariants as kind
use Rattle.isp_lex.specs.reader.Words.{found_in, left_in}
use Rattle.isp_lex.proofs.reserved.find.Goals as goal

abbrev or_else : Option TokenKind → Option TokenKind → Option TokenKind
or_else None other = other
or_else (Some k) other = Some k

past_at : (t : Bool) (k : TokenKind) (first next other : Option TokenKind) → or_else first other ≡ next → or_else (cond t (Some k) first) other ≡ cond t (Some k) next
past_at true k first next other e = refl
past_at false k first next other e = e

past : (words : List (Bor (List ℕ) × Mark)) (other : Option TokenKind) (word : List ℕ) → or_else (found_in words None word) other ≡ found_in words other word
past [] other word = refl
past (w ∷ words) other word = past_at (bytes_eq word w.0.now) (kind.Mark w.1) (found_in words None word) (found_in words other word) other (past words other word)

pub returns-in-Some : goal.returns-in-Some
returns-in-Some c =
    let other = left_in c.args.others.now c.args.word.now in
    ap (λ (o : Option TokenKind). or_else o other) (sym c.in-Some.is ∙ c.in_use.ensures) ∙ past c.args.words.now other c.args.word.now

pub returns-in-None : goal.returns-in-None
returns-in-None c =
    let other = left_in c.args.others.now c.args.word.now in
    c.left_out.ensures ∙ ap (λ (o : Option TokenKind). or_else o other) (sym c.in-None.is ∙ c.in_use.ensures) ∙ past c.args.words.now other c.args.word.now
