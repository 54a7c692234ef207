use Rattle.std.proofs.Common.{◌≡◌, ◌==◌, Bool, false, ◌-◌, ◌<◌, ℕ, List, [], ◌∷◌, length, drop, refl, sym, subst, ◌∙◌, arith, rules}
use Rattle.std.specs.List.{All}
use Rattle.std.proofs.lemmas.Bool.{eqb-true, false≢true}
use Rattle.isp_lex.specs.Lexing.{IsText, Lexes, done, slice}
use Rattle.isp_lex.specs.reader.Pieces.{StopsAt}
use Rattle.isp_lex.specs.declared.fault.SourceFault.{SourceFault}
use Rattle.isp_lex.specs.declared.fault.SourceFault.TheVariants.{Memory, Refused}
use Rattle.isp_lex.specs.declared.token.Token.{Token}
use Rattle.isp_lex.proofs.Lexed.{advance, one_list, no_fault, slices}
use Rattle.isp_lex.proofs.Fronts.{front_le}
use Rattle.isp_lex.proofs.lexer.lex.Goals as goal

pub loop-rest-init : goal.loop-rest-init
loop-rest-init c = record {
  utf8 = c.utf8.text;
  shorter = omega arith;
  lexed = subst (λ (ts : List Token). Lexes 0 c.args.text.now ts c.args.text.now) (sym c.new-items.ensures.items) (done 0 c.args.text.now);
}

pub keep-requires : goal.keep-requires
keep-requires c =
    let l = front_le c.loop-rest.rest.now c.in_ok-found.found c.in_ok-found.ensures.ok in
    omega arith

pub range_from-rest-requires : goal.range_from-rest-requires
range_from-rest-requires c = λ l.
    let f = c.in_ok-found.ensures.ok in
    f.cut c.loop-rest.invariant.utf8

pub loop-rest-smaller : goal.loop-rest-smaller
loop-rest-smaller c =
    let f = c.in_ok-found.ensures.ok in
    let l = front_le c.loop-rest.rest.now c.in_ok-found.found f in
    omega (arith, f.some)

pub loop-rest-preserved : goal.loop-rest-preserved
loop-rest-preserved c = record {
  utf8 = c.range_from-rest.utf8;
  shorter = omega arith;
  lexed =
      let text = c.args.text.now in
      let rest = c.loop-rest.rest.now in
      let f = c.in_ok-found.ensures.ok in
      let d = advance text c.loop-rest.items.items rest c.in_ok-found.found (length text - length rest) c.loop-rest.invariant.lexed (omega arith) f in
      subst (λ (l : List ℕ). Lexes 0 text c.keep.new.tokens.items l) (sym c.range_from-rest.ensures.value)
      (subst (λ (ts : List Token). Lexes 0 text ts (drop c.in_ok-found.found.len rest)) (sym c.in_ok-keep.ensures.ok) d);
}

refused_only : (text : List ℕ) (ts us : List Token) (rest : List ℕ) (place : ℕ) (e : SourceFault) → Lexes 0 text ts rest → 0 < length rest → StopsAt place e rest → Lexes 0 text us [] → e ≡ Memory
refused_only text ts us rest place Memory d l h i = refl
refused_only text ts us rest place (Refused f) d l h i = absurd (no_fault text us ts rest place f i d l h)

not_nil : (bs : List ℕ) (t : Bool) → t ≡ (length bs == 0) → t ≡ false → 0 < length bs
not_nil [] t e f = absurd (false≢true (sym f ∙ e))
not_nil (b ∷ bs) t e f = omega arith

pub returns-in_err-found-clause-only : goal.returns-in_err-found-clause-only
returns-in_err-found-clause-only c = λ tokens d l.
    let text = c.args.text.now in
    let rest = c.loop-rest.rest.now in
    let some : 0 < length rest = not_nil rest c.is_empty.result c.is_empty.ensures c.loop-rest-test.true in
    let e : c.in_err-found.field-0.0 ≡ Memory = refused_only text c.loop-rest.items.items tokens rest (length text - length rest) c.in_err-found.field-0.0 c.loop-rest.invariant.lexed some c.in_err-found.ensures.err d in
    search rules

at_end : (text : List ℕ) (ts us : List Token) (rest : List ℕ) → length rest ≡ 0 → Lexes 0 text ts rest → Lexes 0 text us [] → ts ≡ us
at_end text ts us [] e d i = one_list text ts us d i
at_end text ts us (b ∷ bs) e d i = absurd (omega arith)

pub returns-clause-only : goal.returns-clause-only
returns-clause-only c = λ tokens d l.
    at_end c.args.text.now c.loop-rest.items.items tokens c.loop-rest.rest.now (eqb-true (length c.loop-rest.rest.now) 0 (sym c.is_empty.ensures ∙ c.loop-rest-test.false)) c.loop-rest.invariant.lexed d

slices_end : (text : List ℕ) (ts : List Token) (rest : List ℕ) → length rest ≡ 0 → Lexes 0 text ts rest → All (λ (t : Token). IsText t.kind (slice t.span text)) ts
slices_end text ts [] e d = slices text ts d
slices_end text ts (b ∷ bs) e d = absurd (omega arith)

pub returns-clause-slices : goal.returns-clause-slices
returns-clause-slices c =
    slices_end c.args.text.now c.loop-rest.items.items c.loop-rest.rest.now (eqb-true (length c.loop-rest.rest.now) 0 (sym c.is_empty.ensures ∙ c.loop-rest-test.false)) c.loop-rest.invariant.lexed
