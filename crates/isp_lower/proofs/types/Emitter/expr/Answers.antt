use Rattle.std.proofs.Common.{◌∙◌, ap}
use Rattle.isp_typed.specs.Views.{expr_of}
use Rattle.isp_lower_code.specs.Asks.{expr_asks}
use Rattle.isp_lower_code.specs.Code.{expr_code}
use Rattle.isp_lower_code.specs.Found.{found}
use Rattle.isp_lower_code.specs.Spans.{expr_places}
use Rattle.isp_lower.specs.Drafts.{draft_of}
use Rattle.isp_lower_code.proofs.Lemmas.{expr_tree}
use Rattle.isp_lower.proofs.Aparts.{apart_long, asked_has, asked_mask, taken_code, taken_few, taken_has, taken_layout, taken_named}
use Rattle.isp_lower.proofs.NamedThere.{expr_named}
use Rattle.isp_lower.proofs.types.Emitter.expr.Goals as goal

pub expr-requires-2 : goal.expr-requires-2
expr-requires-2 c =
    let asks = expr_asks (expr_of c.args.x.now) c.args.site.slot.number in
    c.scope-on.ensures.present asks (asked_has c.args.self.now _ _ asks c.in_ok-more.ensures.reserved c.in_ok-expr.ensures c.requires.takes.own)

pub add-requires : goal.add-requires
add-requires c = apart_long c.args.self.now.body c.in_ok-more.more.body c.expr-2.new.b _ _ c.in_ok-more.ensures.body c.in_ok-to.ensures.code

pub returns-clause-register : goal.returns-clause-register
returns-clause-register c =
    let x = expr_of c.args.x.now in
    let n = c.args.site.slot.number in
    c.in_ok-to.ensures.register ∙ ap (λ l. found l x n) (taken_layout c.args.self.now _ _ (expr_asks x n) c.in_ok-more.ensures.reserved c.in_ok-expr.ensures c.add.new.self c.in_ok-add.ensures.rest _ c.scope-on.ensures.layout)

pub returns-clause-code : goal.returns-clause-code
returns-clause-code c =
    let x = expr_of c.args.x.now in
    let k = c.args.site.mask.number in
    let n = c.args.site.slot.number in
    taken_code c.args.self.now _ _ (expr_asks x n) c.in_ok-more.ensures.reserved c.in_ok-expr.ensures c.add.new.self c.in_ok-add.ensures.rest _ c.scope-on.ensures.layout
    (λ l pc p. expr_code l x pc p k n) (λ l. expr_places l x) c.in_ok-more.more.body c.expr-2.new.b c.in_ok-more.ensures.body c.in_ok-to.ensures.code c.in_ok-add.ensures.body

pub returns-clause-has : goal.returns-clause-has
returns-clause-has c =
    taken_has c.args.self.now _ _ (expr_asks (expr_of c.args.x.now) c.args.site.slot.number) c.in_ok-more.ensures.reserved c.in_ok-expr.ensures c.add.new.self c.in_ok-add.ensures.rest c.requires.takes.own

pub returns-clause-few : goal.returns-clause-few
returns-clause-few c =
    taken_few c.args.self.now _ _ (expr_asks (expr_of c.args.x.now) c.args.site.slot.number) c.in_ok-more.ensures.reserved c.in_ok-expr.ensures c.add.new.self c.in_ok-add.ensures.rest

pub returns-clause-all_named : goal.returns-clause-all_named
returns-clause-all_named c =
    let x = expr_of c.args.x.now in
    let k = c.args.site.mask.number in
    let n = c.args.site.slot.number in
    let old = c.args.self.now in
    let copied = c.in_ok-more.ensures.reserved in
    let gives = c.in_ok-expr.ensures in
    let tree = expr_tree (draft_of old).callees c.requires.fine.0 x c.requires.fine.1 c.requires.rated in
    let low = asked_mask old _ _ (expr_asks x n) copied gives k c.requires.takes.mask in
    taken_named old _ _ (expr_asks x n) copied gives c.add.new.self c.in_ok-add.ensures.rest _ c.scope-on.ensures.layout
    (λ l pc p. expr_code l x pc p k n) (λ l. expr_places l x) c.in_ok-more.more.body c.expr-2.new.b c.in_ok-more.ensures.body c.in_ok-to.ensures.code c.in_ok-add.ensures.body
    (λ pc p. expr_named (draft_of old).callees c.expr.new.self pc p k n low x tree (asked_has old _ _ (expr_asks x n) copied gives c.requires.takes.own))
