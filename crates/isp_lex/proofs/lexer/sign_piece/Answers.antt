use Rattle.std.proofs.Common.{◌≡◌, ℕ, ◌<◌, List, [], ◌∷◌, length, get_or, drop, Some, None, arith, rules}
use Rattle.isp_lex.specs.declared.token.Mark.{Mark}
use Rattle.isp_lex.specs.declared.token.TokenKind.TheVariants as kind
use Rattle.isp_lex.specs.Lexing.{BeginsNothing}
use Rattle.isp_lex.specs.reader.Pieces.{BeginsSign, Front}
use Rattle.isp_lex.specs.reader.Signs.{sign_of}
use Rattle.isp_lex.proofs.Fronts.{nothing_begins, sign_front}
use Rattle.isp_lex.proofs.lexer.sign_piece.Goals as goal

found : (text : List ℕ) (m : Mark) (n : ℕ) → 0 < length text → BeginsSign text → sign_of (get_or text 0 0) (drop 1 text) ≡ Some (m, n) → Front text (record { token = Some (kind.Mark m); len = n })
found [] m n l h e = absurd (omega arith)
found (b ∷ rest) m n l h e = sign_front b rest m n h e

nothing : (text : List ℕ) → 0 < length text → BeginsSign text → sign_of (get_or text 0 0) (drop 1 text) ≡ None → BeginsNothing text
nothing [] l h e = absurd (omega arith)
nothing (b ∷ rest) l h e = nothing_begins b rest h e

pub returns-in-Some-clause-ok : goal.returns-in-Some-clause-ok
returns-in-Some-clause-ok c =
    let q : sign_of (get_or c.args.text.now 0 0) (drop 1 c.args.text.now) ≡ Some (c.in-Some.mark, c.in-Some.len) = search rules in
    found c.args.text.now c.in-Some.mark c.in-Some.len c.requires.some c.requires.other q

pub bad_byte-requires-clause-nothing : goal.bad_byte-requires-clause-nothing
bad_byte-requires-clause-nothing c =
    let q : sign_of (get_or c.args.text.now 0 0) (drop 1 c.args.text.now) ≡ None = search rules in
    nothing c.args.text.now c.requires.some c.requires.other q
