use Rattle.std.proofs.Common.{Bool, refl, sym, ap, ◌∙◌, arith}
use Rattle.std.specs.Prelude.{◌||◌}
use Rattle.isp_tree.specs.Tree.{is_sign}
use Rattle.isp_grammar.proofs.TypesRead.{type_begins, word_shorter, more_qualifier, more_base, more_signed, more_fails, sign_past}
use Rattle.isp_grammar.proofs.types.type_words.Goals as goal

pub each-init : goal.each-init
each-init c = rw (c.new-qualifiers.ensures.items, c.first_span-span.ensures) (record { rest = omega arith; shorter = λ e. absurd cc; signed = refl; value = type_begins c.args.tokens.now })

pub each-preserved : goal.each-preserved
each-preserved c =
    let v = c.each.invariant in
    let is = sym c.type_word_at.ensures ∙ c.in-Qualifier.is in
    let one = more_qualifier c.each.span c.each.qualifiers.items c.each.rest.now c.in-Qualifier.qualifier is in
    let shorter = word_shorter c.each.rest.now c.in-Qualifier.qualifier is in
    rw (c.in_ok-push-in-Qualifier.ensures.items, c.tail-rest.ensures, c.to-span.ensures, c.first_span.ensures, c.is_sign-signed.ensures) (record {
      rest = omega (arith, v.rest, shorter);
      shorter = λ e. omega (arith, v.rest, shorter);
      signed = sign_past c.each.qualifiers.items c.in-Qualifier.qualifier ∙ ap (λ (b : Bool). b || is_sign c.in-Qualifier.qualifier) v.signed;
      value = sym one ∙ v.value;
    })

pub returns-in-Base-clause-value : goal.returns-in-Base-clause-value
returns-in-Base-clause-value c =
    rw (c.to.ensures, c.first_span-in-Base.ensures, c.tail.ensures)
    (sym c.each.invariant.value ∙ more_base c.each.span c.each.qualifiers.items c.each.rest.now c.in-Base.base (sym c.type_word_at.ensures ∙ c.in-Base.is))

pub returns-then-not-signed-clause-value : goal.returns-then-not-signed-clause-value
returns-then-not-signed-clause-value c =
    rw c.refuse.ensures (sym c.each.invariant.value ∙ more_fails c.each.span c.each.qualifiers.items c.each.rest.now (sym c.type_word_at.ensures ∙ c.in-Other.is) (c.each.invariant.signed ∙ c.if-not-signed.true))

pub returns-clause-value : goal.returns-clause-value
returns-clause-value c = sym c.each.invariant.value ∙ more_signed c.each.span c.each.qualifiers.items c.each.rest.now (sym c.type_word_at.ensures ∙ c.in-Other.is) (c.each.invariant.signed ∙ c.if-not-signed.false)
