use Rattle.std.proofs.Common.{◌≤◌, length}
use denote.Shadow.{shadow}
use denote.Text.{Utf8}
use Rattle.isp_lex.specs.Lexing.{Lexes}
use Rattle.isp_lex.proofs.lexer.lex.Given as goal

abbrev pub invariant-loop-rest : goal.invariant-loop-rest
invariant-loop-rest l =
    record { utf8 : shadow (Utf8 l.rest); shorter : length l.rest ≤ length l.text; lexed : Lexes 0 l.text l.items.items l.rest }

abbrev pub decreases-loop-rest : goal.decreases-loop-rest
decreases-loop-rest l = length l.rest
