use Rattle.isp_typed.specs.Views.{simple_of}
use Rattle.isp_lower_code.specs.Asks.{simple_asks}
use Rattle.isp_lower_code.specs.Simple.{simple_code, simple_places}
use Rattle.isp_lower.specs.Drafts.{draft_of}
use Rattle.isp_lower_code.proofs.Lemmas.{simple_tree}
use Rattle.isp_lower.proofs.Aparts.{apart_long, asked_has, asked_mask, taken_code, taken_few, taken_has, taken_named}
use Rattle.isp_lower.proofs.NamedThere.{simple_named}
use Rattle.isp_lower.proofs.types.Emitter.store.Goals as goal

pub simple-requires-2 : goal.simple-requires-2
simple-requires-2 c =
    let asks = simple_asks (simple_of c.args.x.now) c.args.site.slot.number in
    c.scope-on.ensures.present asks (asked_has c.args.self.now _ _ asks c.in_ok-more.ensures.reserved c.in_ok-simple.ensures c.requires.takes.own)

pub add-requires : goal.add-requires
add-requires c = apart_long c.args.self.now.body c.in_ok-more.more.body c.simple-2.new.b _ _ c.in_ok-more.ensures.body c.in_ok-simple-2.ensures

pub returns-clause-code : goal.returns-clause-code
returns-clause-code c =
    let x = simple_of c.args.x.now in
    let k = c.args.site.mask.number in
    let n = c.args.site.slot.number in
    taken_code c.args.self.now _ _ (simple_asks x n) c.in_ok-more.ensures.reserved c.in_ok-simple.ensures c.add.new.self c.in_ok-add.ensures.rest _ c.scope-on.ensures.layout
    (λ l pc p. simple_code l x pc p k n) (λ l. simple_places l x) c.in_ok-more.more.body c.simple-2.new.b c.in_ok-more.ensures.body c.in_ok-simple-2.ensures c.in_ok-add.ensures.body

pub returns-clause-has : goal.returns-clause-has
returns-clause-has c =
    taken_has c.args.self.now _ _ (simple_asks (simple_of c.args.x.now) c.args.site.slot.number) c.in_ok-more.ensures.reserved c.in_ok-simple.ensures c.add.new.self c.in_ok-add.ensures.rest c.requires.takes.own

pub returns-clause-few : goal.returns-clause-few
returns-clause-few c =
    taken_few c.args.self.now _ _ (simple_asks (simple_of c.args.x.now) c.args.site.slot.number) c.in_ok-more.ensures.reserved c.in_ok-simple.ensures c.add.new.self c.in_ok-add.ensures.rest

pub returns-clause-all_named : goal.returns-clause-all_named
returns-clause-all_named c =
    let x = simple_of c.args.x.now in
    let k = c.args.site.mask.number in
    let n = c.args.site.slot.number in
    let old = c.args.self.now in
    let copied = c.in_ok-more.ensures.reserved in
    let gives = c.in_ok-simple.ensures in
    let tree = simple_tree (draft_of old).callees c.requires.fine.0 x c.requires.fine.1 c.requires.rated in
    let low = asked_mask old _ _ (simple_asks x n) copied gives k c.requires.takes.mask in
    taken_named old _ _ (simple_asks x n) copied gives c.add.new.self c.in_ok-add.ensures.rest _ c.scope-on.ensures.layout
    (λ l pc p. simple_code l x pc p k n) (λ l. simple_places l x) c.in_ok-more.more.body c.simple-2.new.b c.in_ok-more.ensures.body c.in_ok-simple-2.ensures c.in_ok-add.ensures.body
    (λ pc p. simple_named (draft_of old).callees c.simple.new.self pc p k n low x tree (asked_has old _ _ (simple_asks x n) copied gives c.requires.takes.own))
