-- A body in which code is written apart, and what a body takes over from it.
use Rattle.std.specs.Prelude.{◌≡◌, ◌++◌, drop, length}
use Rattle.isp_lower.specs.declared.types.Body.{Body}

-- as many instructions as a body has, and its places
pub record IsApart (old new : Body) : Type 0 where
  pub code : length new.code.items ≡ length old.code.items
  pub places : new.places.items ≡ old.places.items

-- the instructions that were written after as many are added, and the places are those that were written
pub record TakesOver (old written new : Body) : Type 0 where
  pub code : new.code.items ≡ old.code.items ++ drop (length old.code.items) written.code.items
  pub places : new.places.items ≡ written.places.items
  pub texts : new.texts ≡ old.texts
