use Rattle.std.proofs.Common.{◌≡◌, drop, rules, arith}
use Rattle.isp_lex.specs.reader.Quotes.{said_at}
use Rattle.isp_lex.specs.declared.quotes.Said.TheVariants as said
use Rattle.isp_lex.proofs.TextReads.{says_start, says_more, says_stops, says_closed, says_within, stops_within, says_length, unit_some, unit_within}
use Rattle.isp_lex.proofs.quotes.quoted.Goals as goal

pub loop-byte-init : goal.loop-byte-init
loop-byte-init c = rw c.new-bytes.ensures.items (says_start c.args.text.now c.requires.quote)

pub loop-byte-preserved : goal.loop-byte-preserved
loop-byte-preserved c =
    let q : said_at (drop c.loop-byte.at c.args.text.now) ≡ said.Byte c.in-Byte.byte c.in-Byte.len = search rules in
    let m = says_more c.args.text.now c.loop-byte.at c.loop-byte.bytes.items c.in-Byte.byte c.in-Byte.len c.loop-byte.invariant q in
    rw c.in_ok-push-in-Byte.ensures.items m

pub returns-in-Stops-clause-err : goal.returns-in-Stops-clause-err
returns-in-Stops-clause-err c =
    let q : said_at (drop c.loop-byte.at c.args.text.now) ≡ said.Stops c.in-Stops.len = search rules in
    rw c.refused.ensures (says_stops c.args.text.now c.loop-byte.at c.loop-byte.bytes.items c.in-Stops.len c.args.place c.loop-byte.invariant (search rules) q)

pub returns-clause-ok : goal.returns-clause-ok
returns-clause-ok c =
    rw c.new.ensures (says_closed c.args.text.now c.loop-byte.at c.loop-byte.bytes.items c.loop-byte.invariant (search rules))

pub rest-requires : goal.rest-requires
rest-requires c = says_within c.args.text.now c.loop-byte.at c.loop-byte.bytes.items c.loop-byte.invariant

pub loop-byte-smaller : goal.loop-byte-smaller
loop-byte-smaller c =
    let text = c.args.text.now in
    let at = c.loop-byte.at in
    let q : said_at (drop at text) ≡ said.Byte c.in-Byte.byte c.in-Byte.len = search rules in
    let w = says_within text at c.loop-byte.bytes.items c.loop-byte.invariant in
    let l = says_length text at c.in-Byte.len w (unit_within (drop at text) c.in-Byte.byte c.in-Byte.len q) in
    let some = unit_some (drop at text) c.in-Byte.byte c.in-Byte.len q in
    omega (arith, w, l, some)

pub overflow_add-place : goal.overflow_add-place
overflow_add-place c =
    let w = says_within c.args.text.now c.loop-byte.at c.loop-byte.bytes.items c.loop-byte.invariant in
    omega (arith, w, c.requires.room)

pub overflow_add-place-in-Stops : goal.overflow_add-place-in-Stops
overflow_add-place-in-Stops c =
    let text = c.args.text.now in
    let at = c.loop-byte.at in
    let q : said_at (drop at text) ≡ said.Stops c.in-Stops.len = search rules in
    let w = says_within text at c.loop-byte.bytes.items c.loop-byte.invariant in
    let l = says_length text at c.in-Stops.len w (stops_within (drop at text) c.in-Stops.len q) in
    omega (arith, l, c.requires.room)
