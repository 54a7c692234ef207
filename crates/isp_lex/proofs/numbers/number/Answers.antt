use Rattle.std.proofs.lemmas.Str.{IsCharBoundary-from_ascii}
use Rattle.isp_lex.specs.Bytes as class
use Rattle.isp_lex.specs.reader.Numerals.{is_digits_byte}
use Rattle.isp_lex.proofs.Runs.{all_take, run_le, words_ascii}
use Rattle.isp_lex.proofs.numbers.number.Goals as goal

pub split_at-requires : goal.split_at-requires
split_at-requires c =
    rw (c.digits_len.ensures, c.as_bytes.ensures.value)
    (IsCharBoundary-from_ascii c.args.text.now _ (words_ascii c.args.text.now c.requires) (run_le is_digits_byte c.args.text.now))

pub read_digits-requires : goal.read_digits-requires
read_digits-requires c = rw c.split_at.ensures.front (all_take class.is_word_byte c.digits_len.result c.args.text.now c.requires)
