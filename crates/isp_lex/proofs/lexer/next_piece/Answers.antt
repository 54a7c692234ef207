use Rattle.std.proofs.Common.{◌≡◌, ◌∙◌, ℕ, ◌<◌, Bool, true, List, [], ◌∷◌, Result, Ok, Err, IfOk, IfErr, Some, length, get_or, rules, arith, refl, sym}
use Rattle.isp_lex.specs.Bytes as class
use Rattle.isp_lex.specs.Bytes.{begins}
use Rattle.isp_lex.specs.reader.Pieces.{Front, NoNumber, StopsAt, run_piece}
use Rattle.isp_lex.specs.reader.Runs.{run_of}
use Rattle.isp_lex.specs.declared.fault.SourceFault.{SourceFault}
use Rattle.isp_lex.specs.declared.fault.SourceFault.TheVariants.{Memory, Refused}
use Rattle.isp_lex.specs.declared.piece.Piece.{Piece}
use Rattle.isp_lex.proofs.Runs.{run_all}
use Rattle.isp_lex.proofs.Fronts.{blank_front, number_fault, word_front}
use Rattle.isp_lex.proofs.lexer.next_piece.Goals as goal

pub run_piece-requires-clause-plain : goal.run_piece-requires-clause-plain
run_piece-requires-clause-plain c = rw c.first_run.ensures (run_all class.is_word_byte c.args.text.now)

stops : (place : ℕ) (text : List ℕ) (e : SourceFault) → NoNumber place e (run_of text) → StopsAt place e text
stops place text Memory h = tt
stops place text (Refused f) h = number_fault place text f h.0 h.1 h.2

run_stops : (place : ℕ) (text : List ℕ) (r : Result Piece SourceFault) → IfErr r (λ e. NoNumber place e (run_of text)) → IfErr r (λ e. StopsAt place e text)
run_stops place text (Ok p) h = h
run_stops place text (Err e) h = stops place text e h

run_found : (text : List ℕ) (r : Result Piece SourceFault) → begins class.is_word_byte text ≡ true → IfOk r (λ p. run_piece (run_of text) ≡ Some p) → IfOk r (λ p. Front text p)
run_found text (Ok p) w h = word_front text p w h
run_found text (Err e) w h = h

pub returns-then-is_word_byte-clause-err : goal.returns-then-is_word_byte-clause-err
returns-then-is_word_byte-clause-err c =
    let h : IfErr c.run_piece.result (λ e. NoNumber c.args.place e (run_of c.args.text.now)) = rw c.first_run.ensures at c.run_piece.ensures.err in
    run_stops c.args.place c.args.text.now c.run_piece.result h

first_byte : (p : ℕ → Bool) (text : List ℕ) → 0 < length text → p (get_or text 0 0) ≡ begins p text
first_byte p [] l = absurd (omega arith)
first_byte p (b ∷ bs) l = refl

pub returns-then-is_blank-clause-ok : goal.returns-then-is_blank-clause-ok
returns-then-is_blank-clause-ok c =
    let text = c.args.text.now in
    let e : class.is_blank (get_or text 0 0) ≡ true = search rules in
    blank_front text (sym (first_byte class.is_blank text c.requires.some) ∙ e)

pub returns-then-is_word_byte-clause-ok : goal.returns-then-is_word_byte-clause-ok
returns-then-is_word_byte-clause-ok c =
    let text = c.args.text.now in
    let e : class.is_word_byte (get_or text 0 0) ≡ true = search rules in
    let h : IfOk c.run_piece.result (λ p. run_piece (run_of text) ≡ Some p) = rw c.first_run.ensures at c.run_piece.ensures.ok in
    run_found text c.run_piece.result (sym (first_byte class.is_word_byte text c.requires.some) ∙ e) h
