-- Each instruction with which a function keeps its constants has its operands.
use Rattle.std.proofs.Common.{◌≡◌, ◌<◌, ℕ, List, [], ◌∷◌, true, refl}
use Rattle.isp_base.specs.declared.types.Elem.{Elem}
use Rattle.isp_base.specs.declared.types.Rate.{Rate}
use Rattle.isp_base.specs.declared.types.Rate.TheVariants.{Uniform, Varying}
use Rattle.isp_code.specs.Listing.{Listing, Routine}
use Rattle.isp_lower_code.specs.Layout.{Layout}
use Rattle.isp_lower_code.specs.Asks.{All}
use Rattle.isp_lower_code.specs.Sound.{AreSound, HasKept, HasMask, HasRegister, IsRegister}
use Rattle.isp_lower_code.specs.Tables.{AnyArray, IsLoadedIn}
use Rattle.isp_lower_code.proofs.Lemmas.{constant_sound, sound_both, splat_sound}
use Rattle.isp_lower_code.specs.declared.constant.Constant.{Constant}
use Rattle.isp_masks_code.specs.Keeping.{Each, constants_asks, constants_code, keep_at, keep_code}

module _ (code : Listing) (h : Routine) (l : Layout) (n : ℕ) (constants : HasKept h l) where
  keep_sound : (r : Rate) (t : Elem) (b : ℕ) → n < h.masks → l.kept r t b ≡ true → IsRegister h Uniform (l.spare Uniform t n) t → AreSound code h (keep_at l n r t b)
  keep_sound Uniform t b ln kept there = (constant_sound code h t (l.constant Uniform t b) b (constants Uniform t b kept), tt)
  keep_sound Varying t b ln kept there =
      (constant_sound code h t (l.spare Uniform t n) b there, (splat_sound code h t (l.constant Varying t b) (l.spare Uniform t n) n (constants Varying t b kept) there ln, tt))

  -- what its code asks for is there
  abbrev AreThere : List Constant → Type 0
  AreThere ks = All (HasRegister h l) AnyArray AnyArray (HasMask h) (IsLoadedIn l) (constants_asks n ks)

  all_sound : (xs : List Constant) → Each (λ x. l.kept x.rate x.elem x.bits ≡ true) xs → AreThere xs → AreSound code h (keep_code l n xs)
  all_sound [] kept there = tt
  all_sound (x ∷ xs) kept there = sound_both code h (keep_at l n x.rate x.elem x.bits) (keep_code l n xs) (keep_sound x.rate x.elem x.bits there.0 kept.0 there.1.0) (all_sound xs kept.1 there.1.1)

  pub constants_sound : (xs : List Constant) → Each (λ x. l.kept x.rate x.elem x.bits ≡ true) xs → AreThere xs → AreSound code h (constants_code l n xs)
  constants_sound [] kept there = tt
  constants_sound (x ∷ xs) kept there = ((((refl, there.0), tt), tt), all_sound (x ∷ xs) kept there)
