use Rattle.std.proofs.Common.{◌≡◌, sym, ap, ◌∙◌, subst, ℕ, ◌<◌, length}
use Rattle.isp_store.specs.Held.{shapes, elem, size}
use Rattle.isp_frames.specs.Rows.{Named}
use Rattle.isp_frames.specs.Views.{home_at}
use Rattle.isp_frames.proofs.Stored.{named_is, store_low, store_elem, store_size}
use Rattle.isp_frames.proofs.here.Here.store.Goals as goal

pub returns-clause-value : goal.returns-clause-value
returns-clause-value g c = c.store.ensures ∙ ap (λ (n : Named). n.store) c.array.ensures ∙ sym (named_is c.args.self.now.routine c.args.stores.now c.args.frame.now c.requires.arrays c.args.a c.requires.there c.requires.shared)

pub returns-clause-there : goal.returns-clause-there
returns-clause-there g c = subst (λ (b : ℕ). b < length c.args.stores.now.rows) (sym (c.store.ensures ∙ ap (λ (n : Named). n.store) c.array.ensures))
    (store_low c.args.self.now.routine c.args.stores.now c.args.frame.now c.requires.arrays c.args.a c.requires.there c.requires.shared)

pub returns-clause-elem : goal.returns-clause-elem
returns-clause-elem g c = ap (elem c.args.stores.now) (c.store.ensures ∙ ap (λ (n : Named). n.store) c.array.ensures)
    ∙ store_elem c.args.self.now.routine c.args.stores.now c.args.frame.now c.requires.arrays c.args.a c.requires.there c.requires.shared

pub returns-clause-size : goal.returns-clause-size
returns-clause-size g c =
    subst (λ (b : ℕ). (home_at (shapes c.args.stores.now) c.args.frame.now).sizes b ≡ size c.args.stores.now b)
    (sym (c.store.ensures ∙ ap (λ (n : Named). n.store) c.array.ensures))
    (store_size c.args.self.now.routine c.args.stores.now c.args.frame.now c.requires.arrays c.args.a c.requires.there c.requires.shared)
