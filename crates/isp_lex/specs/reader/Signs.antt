-- What the code reads as a sign.
use Rattle.std.specs.Prelude.{ℕ, cond, ◌==◌, ◌&&◌, List, drop, Option, Some, None}
use Rattle.isp_lex.specs.declared.token.Mark.{Mark}
use Rattle.isp_lex.specs.declared.token.Mark.TheVariants as mark
use Rattle.isp_lex.specs.Bytes.{next_is}

-- a sign of one byte, or of two with `=`, and its length
abbrev pub assigned : List ℕ → Mark → Mark → Mark × ℕ
assigned rest short long = cond (next_is 61 rest) (long, 2) (short, 1)

-- or the byte twice
abbrev pub doubled : ℕ → List ℕ → Mark → Mark → Mark → Mark × ℕ
doubled b rest short long double = cond (next_is b rest) (double, 2) (assigned rest short long)

-- or the byte twice with `=`
abbrev pub shifted : ℕ → List ℕ → Mark → Mark → Mark → Mark → Mark × ℕ
shifted b rest short long double longest =
    cond (next_is b rest) (cond (next_is 61 (drop 1 rest)) (longest, 3) (double, 2)) (assigned rest short long)

-- three dots
abbrev pub dots : List ℕ → Option (Mark × ℕ)
dots rest = cond (next_is 46 rest && next_is 46 (drop 1 rest)) (Some (mark.Ellipsis, 3)) None

-- the sign of one byte that no other sign begins with
abbrev pub single : ℕ → Option Mark
single b =
    cond (b == 40) (Some mark.ParenOpen) (
    cond (b == 41) (Some mark.ParenClose) (
    cond (b == 123) (Some mark.BraceOpen) (
    cond (b == 125) (Some mark.BraceClose) (
    cond (b == 91) (Some mark.BracketOpen) (
    cond (b == 93) (Some mark.BracketClose) (
    cond (b == 59) (Some mark.Semicolon) (
    cond (b == 44) (Some mark.Comma) (
    cond (b == 63) (Some mark.Question) (
    cond (b == 58) (Some mark.Colon) (
    cond (b == 126) (Some mark.Inverse) None))))))))))

abbrev pub of_one : Option Mark → Option (Mark × ℕ)
of_one None = None
of_one (Some m) = Some (m, 1)

-- the sign that begins with this byte, and its length
abbrev pub sign_of : ℕ → List ℕ → Option (Mark × ℕ)
sign_of b rest =
    cond (b == 61) (Some (assigned rest mark.Assign mark.Equal)) (
    cond (b == 33) (Some (assigned rest mark.Not mark.NotEqual)) (
    cond (b == 42) (Some (assigned rest mark.Star mark.StarAssign)) (
    cond (b == 47) (Some (assigned rest mark.Slash mark.SlashAssign)) (
    cond (b == 37) (Some (assigned rest mark.Percent mark.PercentAssign)) (
    cond (b == 94) (Some (assigned rest mark.Xor mark.XorAssign)) (
    cond (b == 43) (Some (doubled 43 rest mark.Plus mark.PlusAssign mark.Increment)) (
    cond (b == 45) (Some (doubled 45 rest mark.Minus mark.MinusAssign mark.Decrement)) (
    cond (b == 38) (Some (doubled 38 rest mark.And mark.AndAssign mark.AndAnd)) (
    cond (b == 124) (Some (doubled 124 rest mark.Or mark.OrAssign mark.OrOr)) (
    cond (b == 60) (Some (shifted 60 rest mark.Less mark.LessEqual mark.ShiftLeft mark.ShiftLeftAssign)) (
    cond (b == 62) (Some (shifted 62 rest mark.Greater mark.GreaterEqual mark.ShiftRight mark.ShiftRightAssign)) (
    cond (b == 46) (dots rest) (of_one (single b))))))))))))))
