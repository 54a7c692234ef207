use Rattle.std.proofs.Common.{◌≡◌, ◌<◌, ◌+◌, ◌-◌, ◌∙◌, ℕ, List, [], ap, drop, drop_of_length-le, get_or, length, refl, true, arith}
use Rattle.std.specs.Prelude.{bytes_eq, if◌then◌else◌}
use Rattle.std.specs.BTreeSet.{contains_text}
use Rattle.isp_scopes.specs.Scopes.{name_at}
use Rattle.isp_scopes.proofs.Once.{all_apart, all_once, one_less, one_seen}
use Rattle.isp_scopes.proofs.names.each_once.Goals as goal

pub loop-left-init : goal.loop-left-init
loop-left-init c =
    let none : drop (length c.args.found.now) c.args.found.now ≡ [] = drop_of_length-le c.args.found.now (omega arith) in
    record { short = omega arith; same = rw (c.new-once.ensures.items, none) refl; known = λ w. rw (c.new-seen.ensures.empty, none) refl }

pub loop-left-preserved : goal.loop-left-preserved
loop-left-preserved c =
    let ts = c.args.tokens.now in
    let found : List ℕ = c.args.found.now in
    let left : ℕ = c.loop-left.left in
    let i : ℕ = get_or found (left - 1) 0 in
    let next : left ≡ left - 1 + 1 = omega arith in
    let within : left - 1 < length found = omega arith in
    let hidden = c.contains-hidden.ensures ∙ (ap (λ (n : List ℕ). contains_text c.loop-left.seen n) c.name_at-name.ensures ∙ c.loop-left.invariant.known (name_at ts i)) in
    record {
      short = omega arith;
      same = one_less ts found left (left - 1) i next within refl c.loop-left.once.items c.push_unless.new.found.items c.contains-hidden.result c.loop-left.invariant.same hidden c.in_ok-push_unless.ensures;
      known = λ w.
          one_seen ts found left (left - 1) i next within refl w (contains_text c.loop-left.seen w) (contains_text c.see.new.seen w) (c.loop-left.invariant.known w)
          (c.in_ok-see.ensures w ∙ ap (λ (n : List ℕ). if bytes_eq n w then true else contains_text c.loop-left.seen w) c.name_at-name.ensures);
    }

pub returns-clause-is : goal.returns-clause-is
returns-clause-is c = all_once c.args.tokens.now c.args.found.now c.loop-left.once.items c.reverse.new.self.items c.loop-left.left (omega arith) c.loop-left.invariant.same c.reverse.ensures.items

pub returns-clause-apart : goal.returns-clause-apart
returns-clause-apart c =
    all_apart c.args.tokens.now c.args.found.now c.reverse.new.self.items
    (all_once c.args.tokens.now c.args.found.now c.loop-left.once.items c.reverse.new.self.items c.loop-left.left (omega arith) c.loop-left.invariant.same c.reverse.ensures.items)
