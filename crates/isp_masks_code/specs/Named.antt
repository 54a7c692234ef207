-- What code names stands in the listing: its places and its texts, from their numbers on.
use Rattle.std.specs.Prelude.{ℕ, List}
use Rattle.isp_base.specs.declared.types.Span.{Span}
use Rattle.isp_code.specs.Listing.{Listing}
use Rattle.isp_typed.specs.Typed.{TStmt, TBlock, TStmts}
use Rattle.isp_lower_code.specs.Setting.{Setting, AreAt}
use Rattle.isp_masks_code.specs.Spots.{Numbers}
use Rattle.isp_masks_code.specs.Statements.{stmt_places, block_places, stmts_places, stmt_texts, block_texts, stmts_texts}

pub record AreNamed (code : Listing) (z : Numbers) (places : List Span) (texts : List (List ℕ)) : Type 0 where
  pub places_are : AreAt code.places z.place places
  pub texts_are : AreAt code.texts z.text texts

module _ (w : Setting) (z : Numbers) where
  abbrev pub Named : TStmt → Type 0
  Named x = AreNamed w.code z (stmt_places w.layout x) (stmt_texts x)

  abbrev pub BlockNamed : TBlock → Type 0
  BlockNamed b = AreNamed w.code z (block_places w.layout b) (block_texts b)

  abbrev pub AllNamed : TStmts → Type 0
  AllNamed xs = AreNamed w.code z (stmts_places w.layout xs) (stmts_texts xs)
