use Rattle.std.proofs.Common.{rules, ◌≡◌, ap, ◌∙◌, ℕ, List, ◌++◌, length, vec_len}
use Rattle.isp_asm.specs.Rows.{instr_words}
use Rattle.isp_asm.specs.Spelling.{line_text}
use Rattle.isp_traces.specs.Steps.{words_text}
use Rattle.isp_traces.proofs.Words.{feed_last, without_feed}
use Rattle.isp_traces.proofs.lines.push_instr.Goals as goal

pub returns : goal.returns
returns c =
    let old = c.args.text.now.items in
    let ws = instr_words c.args.instr.now in
    let told : c.as_bytes.result.now ≡ line_text ws = search rules in
    let long : vec_len c.extend_from_slice.new.self ≡ length c.extend_from_slice.new.self.items = search rules in
    without_feed (vec_len c.extend_from_slice.new.self) old (words_text ws) c.extend_from_slice.new.self.items c.pop-feed.new.self.items long
    (c.in_ok-extend_from_slice.ensures.items ∙ ap (λ (t : List ℕ). old ++ t) (told ∙ feed_last ws))
    c.pop-feed.ensures.rest
