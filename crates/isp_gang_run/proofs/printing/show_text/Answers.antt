use Rattle.std.proofs.Common.{◌+◌, ◌<◌, ℕ, Vec, Global, map, length, ap, ◌∙◌, arith}
use Rattle.isp_base.specs.Sets.{flag_of}
use Rattle.isp_base.specs.Types.{gang_width}
use Rattle.isp_typed.specs.Views.{exprs_of}
use Rattle.isp_meaning.specs.Printing.{shown_all}
use Rattle.isp_gang_values.specs.Seen.{payload_of}
use Rattle.isp_gang_run.proofs.Printed.{so_far, value_more, byte_more}
use Rattle.isp_gang_run.proofs.printing.show_text.Goals as goal
use Rattle.isp_gang_run.proofs.printing.show_text.Goals.{then-text-place-eq37+in_ok-show_at, else-text-place-eq37+in_ok-push}

pub loop-place-preserved : goal.loop-place-preserved
loop-place-preserved c =
    let bs = c.args.text.now in
    let k = c.loop-place.place in
    let xs = shown_all (gang_width c.args.gang) (flag_of c.args.set.now) (exprs_of c.args.shown.now) (map payload_of c.args.values.now) in
    let h : k < length bs = omega (arith, c.loop-place-test.true) in
    elim c.if-text-place-eq37.branch [
      | then-text-place-eq37+in_ok-show_at w ↦ record {
        written = ap (λ (o : Vec ℕ Global). so_far o.items (k + 1) c.if-text-place-eq37.next bs xs) w.output-is
            ∙ ap (λ (n : ℕ). so_far w.show_at.new.output.items (k + 1) n bs xs) w.next-is
            ∙ value_more c.loop-place.output.items w.show_at.new.output.items bs xs k c.loop-place.next _ h w.if-text-place-eq37.true
            w.in_ok-show_at.ensures ∙ c.loop-place.invariant.written;
        low = omega (arith, w.next-is, c.loop-place.invariant.low);
      }
      | else-text-place-eq37+in_ok-push w ↦ record {
        written = ap (λ (o : Vec ℕ Global). so_far o.items (k + 1) c.if-text-place-eq37.next bs xs) w.output-is
            ∙ ap (λ (n : ℕ). so_far w.push.new.self.items (k + 1) n bs xs) w.next-is
            ∙ byte_more c.loop-place.output.items w.push.new.self.items bs xs k c.loop-place.next _ h w.if-text-place-eq37.false
            w.in_ok-push.ensures.items ∙ c.loop-place.invariant.written;
        low = omega (arith, w.next-is, c.loop-place.invariant.low);
      }
    ]
