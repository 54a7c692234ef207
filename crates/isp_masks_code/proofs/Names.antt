-- What code names, part by part: it stands in the listing where the whole does.
use Rattle.std.proofs.Common.{◌+◌, List, ◌++◌, length, ℕ}
use Rattle.isp_base.specs.declared.types.Span.{Span}
use Rattle.isp_code.specs.Listing.{Listing}
use Rattle.isp_lower_code.proofs.Lemmas.{are_front, are_back}
use Rattle.isp_masks_code.specs.Named.{AreNamed}
use Rattle.isp_masks_code.specs.Spots.{Numbers, past}

module _ (code : Listing) (z : Numbers) (ps qs : List Span) where
  -- of two parts that both name texts
  pub named_front : (ts us : List (List ℕ)) → AreNamed code z (ps ++ qs) (ts ++ us) → AreNamed code z ps ts
  named_front ts us n = record { places_are = are_front code.places z.place ps qs n.places_are; texts_are = are_front code.texts z.text ts us n.texts_are }

  pub named_back : (ts us : List (List ℕ)) → AreNamed code z (ps ++ qs) (ts ++ us) → AreNamed code (record { place = z.place + length ps; text = z.text + length ts }) qs us
  named_back ts us n = record { places_are = are_back code.places z.place ps qs n.places_are; texts_are = are_back code.texts z.text ts us n.texts_are }

  -- the second or the first alone does
  pub named_past : (ts : List (List ℕ)) → AreNamed code z (ps ++ qs) ts → AreNamed code (past ps z) qs ts
  named_past ts n = record { places_are = are_back code.places z.place ps qs n.places_are; texts_are = n.texts_are }

  pub named_before : (ts : List (List ℕ)) → AreNamed code z (ps ++ qs) ts → AreNamed code z ps ts
  named_before ts n = record { places_are = are_front code.places z.place ps qs n.places_are; texts_are = n.texts_are }
