use Rattle.std.proofs.Common.{◌≡◌, List, Ok, Err, subst}
use Rattle.isp_lex.specs.declared.token.Token.{Token}
use Rattle.isp_grammar.specs.reader.Programs.{program_at}
use Rattle.isp_tree.specs.Views.{functions_of}
use Rattle.isp_syntax.proofs.Programs.{program_sound}
use Rattle.isp_syntax.proofs.Promised.{left_within, refusal_means, only_tree, no_refusal}
use Rattle.isp_lex.proofs.Listings.{laws}
use Rattle.isp_syntax.proofs.SoundStmts.{program_sound as sound}
use Rattle.isp_syntax.proofs.program.parse.Goals as goal
use Rattle.isp_syntax.proofs.program.parse.Goals.{In-Ok}

-- the functions that were read
read : (c : In-Ok) → program_at 128 c.args.tokens.now.items ≡ Ok (functions_of c.in-Ok.functions.items)
read c = subst (λ (l : List Token). program_at 128 l ≡ Ok (functions_of c.in-Ok.functions.items)) c.as_slice.ensures.items c.in-Ok.ensures

pub new-requires : goal.new-requires
new-requires c =
    let p = program_sound 128 c.args.tokens.now.items (functions_of c.in-Ok.functions.items) (read c) in
    record { sound = sound c.args.tokens.now (functions_of c.in-Ok.functions.items) (laws c.args.tokens.now c.as_slice.ensures.listed) p.0 p.1 }

pub returns-in-Ok-clause-found : goal.returns-in-Ok-clause-found
returns-in-Ok-clause-found c = rw c.new.ensures.functions (program_sound 128 c.args.tokens.now.items (functions_of c.in-Ok.functions.items) (read (goal.at.returns-in-Ok-clause-found c).In-Ok)).0

pub returns-in-Ok-clause-shallow : goal.returns-in-Ok-clause-shallow
returns-in-Ok-clause-shallow c = rw c.new.ensures.functions (program_sound 128 c.args.tokens.now.items (functions_of c.in-Ok.functions.items) (read (goal.at.returns-in-Ok-clause-shallow c).In-Ok)).1

pub returns-in-Ok-clause-only : goal.returns-in-Ok-clause-only
returns-in-Ok-clause-only c = rw c.new.ensures.functions (λ fs i le. only_tree c.args.tokens.now.items fs (functions_of c.in-Ok.functions.items) (read (goal.at.returns-in-Ok-clause-only c).In-Ok) i le)

pub fault_at-requires : goal.fault_at-requires
fault_at-requires c =
    let f = rw c.in-Err-Refused.field-0-is at c.in-Err-Refused.ensures in
    let e = subst (λ (l : List Token). program_at 128 l ≡ Err c.in-Err-Refused.refusal) c.as_slice.ensures.items f in
    left_within 128 c.args.tokens.now.items c.in-Err-Refused.refusal e

pub returns-in-Err-Refused-clause-only : goal.returns-in-Err-Refused-clause-only
returns-in-Err-Refused-clause-only c =
    let f = rw c.in-Err-Refused.field-0-is at c.in-Err-Refused.ensures in
    let e = subst (λ (l : List Token). program_at 128 l ≡ Err c.in-Err-Refused.refusal) c.as_slice.ensures.items f in
    λ fs i le. no_refusal c.args.tokens.now.items fs c.in-Err-Refused.refusal e i le

pub returns-in-Err-Refused-clause-refused : goal.returns-in-Err-Refused-clause-refused
returns-in-Err-Refused-clause-refused c =
    let f = rw c.in-Err-Refused.field-0-is at c.in-Err-Refused.ensures in
    let e = subst (λ (l : List Token). program_at 128 l ≡ Err c.in-Err-Refused.refusal) c.as_slice.ensures.items f in
    rw c.fault_at.ensures (refusal_means c.args.tokens.now c.in-Err-Refused.refusal e)
