use Rattle.std.proofs.Common.{◌∙◌, [], refl, sym, subst}
use Rattle.isp_lower.specs.Drafts.{draft_of}
use Rattle.isp_masks.specs.Added.{AreLowered}
use Rattle.isp_masks_code.specs.Lowered.{IsFineFunction, IsSmall}
use Rattle.isp_masks.proofs.Listings.{all_at, none_few, routine_more, tables_more, tables_named}
use Rattle.isp_masks.proofs.listing.routines.Goals as goal

pub loop-f-init : goal.loop-f-init
loop-f-init c = (subst (λ gs. AreLowered (draft_of c.args.e.now).callees [] gs (draft_of c.args.e.now).places (draft_of c.args.e.now).texts) (sym c.requires.none) tt, refl, refl, none_few (draft_of c.args.e.now) c.requires.empty c.requires.empty_texts)

pub loop-f-preserved : goal.loop-f-preserved
loop-f-preserved c =
    let added = c.in_ok-function.ensures in (
      routine_more (draft_of c.args.e.now).callees c.args.functions.now c.loop-f.f-index c.f-item.result (draft_of c.loop-f.e) (draft_of c.function.new.e) c.loop-f-test.true c.f-item.is c.loop-f.invariant.2 c.loop-f.invariant.0 added,
      added.gang ∙ c.loop-f.invariant.1,
      added.callees ∙ c.loop-f.invariant.2,
      tables_more c.args.functions.now c.loop-f.f-index c.f-item.result (draft_of c.loop-f.e) (draft_of c.function.new.e) c.loop-f-test.true c.f-item.is c.loop-f.invariant.3 added,
    )

pub function-requires : goal.function-requires
function-requires c = record {
  fine = all_at IsFineFunction c.args.functions.now c.loop-f.f-index c.f-item.result c.requires.fine c.loop-f-test.true c.f-item.is;
  small = all_at IsSmall c.args.functions.now c.loop-f.f-index c.f-item.result c.requires.small c.loop-f-test.true c.f-item.is;
}

pub returns-clause-tables : goal.returns-clause-tables
returns-clause-tables c = tables_named c.loop-f.f-index c.args.functions.now (draft_of c.loop-f.e) c.loop-f.invariant.3 c.requires.few
