use Rattle.isp_gang_run.specs.Due.{due_now, item_due, own}
use Rattle.isp_gang_run.proofs.Progress.{leaves_as, same_leaves}
use Rattle.std.proofs.Common.{refl, sym, ap, subst, ◌∙◌}
use Rattle.isp_base.specs.Sets.{flag_of}
use Rattle.isp_typed.specs.Typed.{t_plain, t_with_size, TItem}
use Rattle.isp_typed.specs.Views.{item_of}
use Rattle.isp_meaning.specs.Payloads.{One}
use Rattle.isp_meaning.specs.Places.{written}
use Rattle.isp_meaning.specs.Simple.{cleared}
use Rattle.isp_gang_run.specs.Seen.{frame_seen}
use Rattle.isp_gang_run.specs.Tasks.{Comes, declares}
use Rattle.isp_gang_run.specs.declared.state.Evaluator.{Evaluator}
use Rattle.isp_gang_run.proofs.Assignments.{item_changes, item_with_value}
use Rattle.isp_gang_run.proofs.state.Evaluator.item.Goals as goal

pub returns-in_ok-write-in-Plain-clause-ok : goal.returns-in_ok-write-in-Plain-clause-ok
returns-in_ok-write-in-Plain-clause-ok c =
    let old = c.args.self.now in
    let a = flag_of c.args.set in
    subst (λ (e : Evaluator). Comes old e (declares old (item_of c.args.item.now) a)) (sym c.forget.ensures)
    (item_changes old c.tick.new.self c.tick.ensures c.args.item.now c.args.set c.write.new.self
    (t_plain c.in-Plain.number c.in-Plain.ty c.in-Plain.span) (written c.in-Plain.ty.rate c.in-Plain.number a (One 0)) (ap item_of c.in-Plain.is)
    (λ w. refl) c.in_ok-write-in-Plain.ensures.ok)

pub returns-in-Array-clause-ok : goal.returns-in-Array-clause-ok
returns-in-Array-clause-ok c =
    let old = c.args.self.now in
    let a = flag_of c.args.set in
    let b = c.in-Array.array in
    subst (λ (e : Evaluator). Comes old e (declares old (item_of c.args.item.now) a)) (sym c.forget-in-Array.ensures)
    (item_changes old c.tick.new.self c.tick.ensures c.args.item.now c.args.set c.clear.new.self (t_with_size b c.in-Array.span) (cleared (frame_seen old.here) b.ty.rate b.number a) (ap item_of c.in-Array.is) (λ w. refl) c.clear.ensures)

pub returns-in_ok-both-in-Value-clause-ok : goal.returns-in_ok-both-in-Value-clause-ok
returns-in_ok-both-in-Value-clause-ok c =
    item_with_value c.args.self.now c.both.new.self c.tick.new.self c.tick.ensures c.args.item.now _ c.args.set c.in-Value.number c.in-Value.ty c.in-Value.span (ap item_of c.in-Value.is) c.in_ok-both-in-Value.ensures.ok

pub returns-in_ok-write-in-Plain-clause-fewer : goal.returns-in_ok-write-in-Plain-clause-fewer
returns-in_ok-write-in-Plain-clause-fewer c =
    same_leaves c.args.self.now c.forget.new.self (own c.args.self.now item_due (item_of c.args.item.now)) (ap (λ (e : Evaluator). due_now e) c.forget.ensures ∙ ap (λ (e : Evaluator). due_now e) c.in_ok-write-in-Plain.ensures.ok.same)

pub returns-in-Array-clause-fewer : goal.returns-in-Array-clause-fewer
returns-in-Array-clause-fewer c =
    same_leaves c.args.self.now c.forget-in-Array.new.self (own c.args.self.now item_due (item_of c.args.item.now)) (ap (λ (e : Evaluator). due_now e) c.forget-in-Array.ensures ∙ ap (λ (e : Evaluator). due_now e) c.clear.ensures.same)

pub returns-in_ok-both-in-Value-clause-fewer : goal.returns-in_ok-both-in-Value-clause-fewer
returns-in_ok-both-in-Value-clause-fewer c =
    leaves_as c.args.self.now c.both.new.self c.args.self.now.left (ap (λ (n : TItem). own c.args.self.now item_due n)
    (ap item_of c.in-Value.is)) c.in_ok-both-in-Value.ensures.fewer
