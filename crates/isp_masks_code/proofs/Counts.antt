-- How many instructions the forms have, besides their tests and parts.
use Rattle.std.proofs.Common.{◌≡◌, ℕ, [], length, refl, Bool, true, false}
use Rattle.isp_base.specs.declared.types.Rate.TheVariants.{Uniform, Varying}
use Rattle.isp_tree.specs.declared.stmt.Form.{Form}
use Rattle.isp_tree.specs.declared.stmt.Form.TheVariants.{Plain, Coherent}
use Rattle.isp_tree.specs.declared.stmt.Jump.TheVariants.{Break, Continue}
use Rattle.isp_masks_code.specs.Sets.{leave_code, jump_code}
use Rattle.isp_masks_code.specs.Spots.{Spot}
use Rattle.isp_masks_code.specs.Statements.{if_code, if_else_code}
use Rattle.isp_masks_code.specs.declared.exits.Leaving.{Leaving}
use Rattle.isp_masks_code.specs.declared.exits.Leaving.TheVariants.{Never, Always, Maybe}

uniform_if : (v : Leaving) (f : Form) (x pc : ℕ) (spot : Spot) → length (if_code v f Uniform x pc spot (λ p part. [])) ≡ 1
uniform_if v f x pc spot = refl

uniform_if_else : (b : Bool) (f : Form) (x pc : ℕ) (spot : Spot) → length (if_else_code b f Uniform x pc spot (λ p part. []) (λ p part. [])) ≡ 2
uniform_if_else b f x pc spot = refl

-- nobody leaves, or all by one jump
kept_if : (x pc : ℕ) (spot : Spot) → length (if_code Never Plain Varying x pc spot (λ p part. [])) ≡ 2
kept_if x pc spot = refl

if_break : (x pc : ℕ) (spot : Spot) → length (if_code (Always Break) Plain Varying x pc spot (λ p part. [])) ≡ 2
if_break x pc spot = refl

if_continue : (x pc : ℕ) (spot : Spot) → length (if_code (Always Continue) Plain Varying x pc spot (λ p part. [])) ≡ 3
if_continue x pc spot = refl

kept_if_else : (x pc : ℕ) (spot : Spot) → length (if_else_code true Plain Varying x pc spot (λ p part. []) (λ p part. [])) ≡ 4
kept_if_else x pc spot = refl

-- some may leave
varying_if : (x pc : ℕ) (spot : Spot) → length (if_code Maybe Plain Varying x pc spot (λ p part. [])) ≡ 4
varying_if x pc spot = refl

varying_if_else : (x pc : ℕ) (spot : Spot) → length (if_else_code false Plain Varying x pc spot (λ p part. []) (λ p part. [])) ≡ 5
varying_if_else x pc spot = refl

coherent_if : (v : Leaving) (x pc : ℕ) (spot : Spot) → length (if_code v Coherent Varying x pc spot (λ p part. [])) ≡ 7
coherent_if v x pc spot = refl

coherent_if_else : (b : Bool) (x pc : ℕ) (spot : Spot) → length (if_else_code b Coherent Varying x pc spot (λ p part. []) (λ p part. [])) ≡ 8
coherent_if_else b x pc spot = refl

break_count : (k co : ℕ) → length (jump_code Break k co) ≡ 1
break_count k co = refl

continue_count : (k co : ℕ) → length (jump_code Continue k co) ≡ 2
continue_count k co = refl

return_count : (rr k : ℕ) → length (leave_code rr k) ≡ 2
return_count rr k = refl
