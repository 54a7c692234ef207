use Rattle.std.proofs.Common.{◌≡◌, ap, ◌∙◌, length, rules}
use Rattle.isp_base.specs.Arguments.{rows}
use Rattle.isp_store.specs.Held.{Held}
use Rattle.isp_frames.specs.Begun.{Begun, given}
use Rattle.isp_frames.proofs.Rewrites.{along}
use Rattle.isp_machine.proofs.start.begun.Goals as goal

pub returns : goal.returns
returns g c = λ h found.
    let long : length c.new-stores.result.rows ≡ length (rows c.args.arguments.now) = ap (λ (s : Held). length s.rows) c.new-stores.ensures ∙ c.in_ok-places.ensures in
    let same = c.in_ok-begin.ensures.stores h found in
    let filled : c.deref_mut-2.result.now ≡ c.pass_run.new.self = search rules in
    let passed = ap given filled ∙ c.in_ok-pass_run.ensures in
    record {
      frame_begun = along (λ j. Begun g.row.N h c.args.number (c.full.ensures j) (long j) (passed j) c.begin.new.frame) (c.in_ok-begin.ensures.begun h found);
      places = c.new-stores.result.rows;
      place_count = long;
      rows_are = ap (λ (s : Held). s.rows) same;
      params_are = ap (λ (s : Held). s.params) same ∙ ap (λ (s : Held). s.params) c.new-stores.ensures ∙ c.in_ok-places.ensures;
      all_open = c.in_ok-begin.ensures.all;
      none_wait = c.new-2.ensures.items;
      none_written = c.new-3.ensures.items;
      starts = c.in_ok-begin.ensures.starts h found;
      some_mask = c.in_ok-begin.ensures.masks h found;
    }
