-- Constants that are kept stay in their registers while others are written.
use Rattle.std.proofs.Common.{◌≡◌, ◌≢◌, ℕ, true, ◌∙◌}
use Rattle.isp_base.specs.Maps.{Lanes, put}
use Rattle.isp_base.specs.declared.types.Elem.{Elem}
use Rattle.isp_base.specs.declared.types.Rate.TheVariants.{Uniform, Varying}
use Rattle.isp_lower_code.specs.Layout.{Layout}
use Rattle.isp_lower_code.specs.Held.{ConstantsHold}
use Rattle.isp_lower_code.proofs.Base.{put_other}

module _ (l : Layout) (gang : ℕ) (scalars : ℕ → ℕ) (vectors : ℕ → Lanes) where
  pub scalar_put : (d x : ℕ) → ((t : Elem) (b : ℕ) → l.kept Uniform t b ≡ true → l.constant Uniform t b ≢ d) → ConstantsHold l gang scalars vectors → ConstantsHold l gang (put scalars d x) vectors
  scalar_put d x away hold Uniform t b k = put_other scalars d x (l.constant Uniform t b) (away t b k) ∙ hold Uniform t b k
  scalar_put d x away hold Varying t b k = hold Varying t b k

  pub vector_put : (d : ℕ) (x : Lanes) → ((t : Elem) (b : ℕ) → l.kept Varying t b ≡ true → l.constant Varying t b ≢ d) → ConstantsHold l gang scalars vectors → ConstantsHold l gang scalars (put vectors d x)
  vector_put d x away hold Uniform t b k = hold Uniform t b k
  vector_put d x away hold Varying t b k = put_other vectors d x (l.constant Varying t b) (away t b k) ∙ hold Varying t b k
