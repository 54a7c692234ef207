use Rattle.std.proofs.Common.{◌≡◌, ℕ, List, length, Option, sym, ap, ◌∙◌, rules}
use Rattle.isp_lex.specs.declared.token.TokenKind.{TokenKind}
use Rattle.isp_lex.specs.reader.Words.{reserved, spelled}
use Rattle.isp_lex.proofs.reserved.reserved.Goals as goal

at_length : (n : ℕ) (word : List ℕ) (o : Option TokenKind) → length word ≡ n → o ≡ spelled n word → o ≡ reserved word
at_length n word o e h = h ∙ ap (λ (k : ℕ). spelled k word) (sym e)

pub returns-in-2 : goal.returns-in-2
returns-in-2 c = at_length 2 c.args.word.now c.find.result (search rules) c.find.ensures

pub returns-in-3 : goal.returns-in-3
returns-in-3 c = at_length 3 c.args.word.now c.find-in-3.result (search rules) c.find-in-3.ensures

pub returns-in-4 : goal.returns-in-4
returns-in-4 c = at_length 4 c.args.word.now c.find-in-4.result (search rules) c.find-in-4.ensures

pub returns-in-5 : goal.returns-in-5
returns-in-5 c = at_length 5 c.args.word.now c.find-in-5.result (search rules) c.find-in-5.ensures

pub returns-in-6 : goal.returns-in-6
returns-in-6 c = at_length 6 c.args.word.now c.find-in-6.result (search rules) c.find-in-6.ensures

pub returns-in-7 : goal.returns-in-7
returns-in-7 c = at_length 7 c.args.word.now c.find-in-7.result (search rules) c.find-in-7.ensures

pub returns-in-8 : goal.returns-in-8
returns-in-8 c = at_length 8 c.args.word.now c.find-in-8.result (search rules) c.find-in-8.ensures

pub returns-in-9 : goal.returns-in-9
returns-in-9 c = at_length 9 c.args.word.now c.find-in-9.result (search rules) c.find-in-9.ensures

pub returns-in-12 : goal.returns-in-12
returns-in-12 c = at_length 12 c.args.word.now c.find-in-12.result (search rules) c.find-in-12.ensures

pub returns-in-13 : goal.returns-in-13
returns-in-13 c = at_length 13 c.args.word.now c.find-in-13.result (search rules) c.find-in-13.ensures

pub returns-in-14 : goal.returns-in-14
returns-in-14 c = at_length 14 c.args.word.now c.find-in-14.result (search rules) c.find-in-14.ensures
